-- Names of processes in sets and lists.
use Rattle.std.proofs.Common.{◌≡◌, ℕ, Bool, true, false, cond, ◌||◌, List, [], ◌∷◌, ◌++◌, refl, sym, ap, ◌∙◌}
use Rattle.std.specs.List.{list_any}
use Rattle.std.proofs.lemmas.Slice.Eq.{bytes_eq-Decides}
use Rattle.histar_flat.specs.Accounts.{has}
use Rattle.histar_flat.specs.PathOrder.{under_process}
use Rattle.histar_flat.specs.Words.{ProcName}
use Rattle.histar_base.specs.Paths.{same}
use Rattle.histar_policy.specs.declared.names.Names.{Names}
use Rattle.histar_policy.specs.declared.notes.Note.{Note}
use Rattle.histar_policy.specs.Names.{Adds, AreNames, at_or_above}
use Rattle.histar_policy.specs.Sets.{AreUsed}
use Rattle.histar_policy.specs.Warnings.{is_used}

-- one test in front of two
or_more : (b c d e : Bool) → c ≡ (d || e) → (b || c) ≡ ((b || d) || e)
or_more true c d e h = refl
or_more false c d e h = h

pub or_false : (b : Bool) → b ≡ (b || false)
or_false true = refl
or_false false = refl

or_swap : (b c : Bool) → (b || c) ≡ (c || (b || false))
or_swap true true = refl
or_swap true false = refl
or_swap false true = refl
or_swap false false = refl

-- a test of two lists
pub any_append : {A : Type 0} (test : A → Bool) (xs ys : List A) → list_any test (xs ++ ys) ≡ (list_any test xs || list_any test ys)
any_append test [] ys = refl
any_append test (x ∷ xs) ys = or_more (test x) (list_any test (xs ++ ys)) (list_any test xs) (list_any test ys) (any_append test xs ys)

-- the test of whether two names are the same has no order
same_flip : (a b : List ℕ) → same a b ≡ same b a
same_flip a b = by (same a b) refl (same b a) refl
  where
    by : (s : Bool) → same a b ≡ s → (t : Bool) → same b a ≡ t → s ≡ t
    by true h true k = refl
    by false h false k = refl
    by true h false k = let other : same b a ≡ true = (bytes_eq-Decides b a).1 (sym ((bytes_eq-Decides a b).0 h)) in absurd cc
    by false h true k = let other : same a b ≡ true = (bytes_eq-Decides a b).1 (sym ((bytes_eq-Decides b a).0 k)) in absurd cc

cond_or : (b c d : Bool) → b ≡ d → cond b true c ≡ (c || (d || false))
cond_or true true d h = refl
cond_or true false d h = h ∙ or_false d
cond_or false true d h = refl
cond_or false false d h = h ∙ or_false d

-- a name that was put into a set was added to its names
pub name_added : (old new : List ProcName) (name : ProcName) → ((q : ProcName) → has new q ≡ cond (same name q) true (has old q))
    → (q : ProcName) → has new q ≡ has (old ++ name ∷ []) q
name_added old new name put q =
    put q ∙ cond_or (same name q) (has old q) (same q name) (same_flip name q) ∙ sym (any_append (same q) old (name ∷ []))

-- a process is at or below another one where that is on its way from process 0
pub under_is_above : (job p : ProcName) → under_process job p ≡ has (at_or_above p) job
under_is_above job [] = or_false (same job [])
under_is_above job (n ∷ p) =
    ap (λ (b : Bool). same job (n ∷ p) || b) (under_is_above job p)
    ∙ or_swap (same job (n ∷ p)) (has (at_or_above p) job)
    ∙ sym (any_append (same job) (at_or_above p) ((n ∷ p) ∷ []))

-- names that are added to a set which has these names
pub added : (old new : Names) (names more : List ProcName) → AreNames old names → Adds old new more → AreNames new (names ++ more)
added old new names more are adds q =
    adds q ∙ any_append (same q) old.members.keys more ∙ ap (λ (b : Bool). b || has more q) (are q) ∙ sym (any_append (same q) names more)

-- the processes above a call line are added to those that are used
pub used_more : (old new : Names) (script : List Note) (note : Note) → AreUsed old script → Adds old new (at_or_above note.process)
    → AreUsed new (script ++ note ∷ [])
used_more old new script note are adds job =
    let test : Note → Bool = λ (n : Note). under_process job n.process in
    adds job ∙ any_append (same job) old.members.keys (at_or_above note.process)
    ∙ ap (λ (b : Bool). b || has (at_or_above note.process) job) (are job)
    ∙ ap (λ (b : Bool). is_used script job || b) (sym (under_is_above job note.process) ∙ or_false (under_process job note.process))
    ∙ sym (any_append test script (note ∷ []))
