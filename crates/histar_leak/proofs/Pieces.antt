-- Texts that are made part by part, and tests of processes.
use Rattle.std.specs.Prelude.{◌≡◌, ℕ, Bool, true, false, nat_eq, ◌&&◌, ◌||◌, List, [], ◌∷◌, ◌++◌, map, filter, Result, Ok, Err, OnOk, if◌then◌else◌}
use Rattle.std.specs.Prelude.{refl}
use Rattle.std.specs.List.{list_all, list_any}
use Rattle.std.proofs.Common.{ap, sym, ◌∙◌, append-nil, append_assoc}
use Rattle.std.proofs.lemmas.Bool.{true≢false}
use Rattle.histar_flat.specs.Accounts.{Group}
use Rattle.histar_secrecy.specs.declared.file_class.FileClass.{FileClass}
use Rattle.histar_secrecy.specs.declared.role.Member.{Member}
use Rattle.histar_secrecy.specs.ShownRoles.{with_user}
use Rattle.histar_leak.specs.Findings.{is_jobless, is_shown_outsider, knows_jobs_of, shown_listeners, shown_outsiders}

-- what holds of what was done follows from what is stronger
pub ok_so : {A E : Type 0} {P Q : Type 0} (r : Result A E) → (P → Q) → OnOk r P → OnOk r Q
ok_so (Ok x) so h = so h
ok_so (Err e) so h = tt

-- four parts, one behind another
pub four_parts : (t a b c d : List ℕ) → t ++ a ++ b ++ c ++ d ≡ t ++ (a ++ (b ++ (c ++ (d ++ []))))
four_parts t a b c d =
    append_assoc (t ++ a ++ b) c d ∙ append_assoc (t ++ a) b (c ++ d) ∙ append_assoc t a (b ++ (c ++ d))
    ∙ ap (λ (x : List ℕ). t ++ (a ++ (b ++ (c ++ x)))) (sym (append-nil d))

-- six parts behind a text
pub six_behind : (t a b c d e l : List ℕ) → t ++ a ++ b ++ c ++ d ++ e ++ l ≡ t ++ (a ++ b ++ c ++ d ++ e ++ l)
six_behind t a b c d e l =
    ap (λ (x : List ℕ). x ++ c ++ d ++ e ++ l) (append_assoc t a b) ∙ ap (λ (x : List ℕ). x ++ d ++ e ++ l) (append_assoc t (a ++ b) c)
    ∙ ap (λ (x : List ℕ). x ++ e ++ l) (append_assoc t (a ++ b ++ c) d) ∙ ap (λ (x : List ℕ). x ++ l) (append_assoc t (a ++ b ++ c ++ d) e)
    ∙ append_assoc t (a ++ b ++ c ++ d ++ e) l

-- a test that passes always doesn't matter
and_true : (b : Bool) → (b && true) ≡ b
and_true true = refl
and_true false = refl

-- a text or none
pub when : (b : Bool) (x y : List ℕ) → (b ≡ true → x ≡ y)
    → (let l : List ℕ = if b then x else [] in l) ≡ (let l : List ℕ = if b then y else [] in l)
when true x y h = h refl
when false x y h = refl

-- none or a text
pub unless_so : (b : Bool) (x y : List ℕ) → (b ≡ false → x ≡ y)
    → (let l : List ℕ = if b then [] else x in l) ≡ (let l : List ℕ = if b then [] else y in l)
unless_so true x y h = refl
unless_so false x y h = h refl

none_of : (jobs : List ℕ) → (let b : Bool = elim jobs [ [] ↦ true | job ∷ rest ↦ false ] in b) ≡ true → jobs ≡ []
none_of [] h = refl
none_of (job ∷ rest) h = absurd (true≢false (sym h))

-- all outsiders know each job of a process in no job
pub free_listeners : (groups : List Group) (classes : List FileClass) (members : List Member) (m : Member) → is_jobless m ≡ true
    → shown_outsiders groups classes members ≡ shown_listeners groups classes members m
free_listeners groups classes members m free = λ i. map with_user (filter (λ o. each o i) members)
  where
    each : (o : Member) → is_shown_outsider groups classes o ≡ (is_shown_outsider groups classes o && knows_jobs_of o m)
    each o =
        sym (and_true (is_shown_outsider groups classes o))
        ∙ ap (λ (jobs : List ℕ). is_shown_outsider groups classes o
        && list_all (λ job. list_any (nat_eq job) o.jobs.items || list_any (nat_eq job) o.held.items) jobs) (sym (none_of m.jobs.items free))
