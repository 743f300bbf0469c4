-- Which labels a thread may give to what it makes: those of the classes that its process makes, and no others of these kinds.
use Rattle.std.proofs.Common.{◌≡◌, ℕ, Bool, true, false, ◌&&◌, ◌||◌, List, [], ◌∷◌, ◌++◌, Option, None, Some, arith, refl, sym, ap, ◌∙◌}
use Rattle.std.proofs.Common.{if◌then◌else◌}
use Rattle.std.specs.Prelude.{map, is_some, nat_eq}
use Rattle.std.specs.List.{list_all}
use Rattle.std.proofs.lemmas.Bool.Decides.{nat_tests}
use Rattle.std.proofs.lemmas.Option.{none-some, same_Some}
use Rattle.std.proofs.lemmas.Bool.{and_from, or_left, or_right}
use Rattle.std.proofs.Math.Bool.{and-true}
use mathlib.Core.Bool.{true≢false}
use Rattle.histar_flat.specs.declared.calls.Mode.{Mode}
use Rattle.histar_flat.specs.declared.calls.Mode.TheVariants as modes
use Rattle.histar_flat.specs.Words.{Name, ProcName}
use Rattle.histar_base.specs.Paths.{same}
use Rattle.histar_flat.specs.Accounts.{Accounts, has, is_member, user_number, group_number, groups_of}
use Rattle.histar_flat.specs.Classes.{Class, Process, nobody, is_free, knows, free_class, class_made}
use Rattle.histar_flat.specs.Classes.Class.{Private, Readable, Open, Scratch, Grouped}
use Rattle.histar_label.specs.Levels.{is_below}
use Rattle.histar_refinement.specs.Accounts.{AreAccounts}
use Rattle.histar_refinement.specs.Categories.{CategoryName, Categories, AreDifferent, among}
use Rattle.histar_refinement.specs.Categories.CategoryName.{ReadsUser, ReadsGroup, OfJob}
use Rattle.histar_refinement.specs.Guards.{Guard, Rights, guard_label, rights_label, rights_clearance}
use Rattle.histar_refinement.specs.Labels.{class_guard, private_guard, readable_guard, scratch_guard, group_guard, open_guard, thread_rights}
use Rattle.histar_layout.proofs.Members.{mapped_from}
use Rattle.histar_refinement.proofs.CategoryTests.{among-append}
use Rattle.histar_refinement.proofs.Tested.{cleared_exactly_by_names}
use Rattle.histar_refinement.proofs.AccountLemmas.{is_number, has_number}
use Rattle.histar_layout.proofs.Declared.{equal_tested}
use Rattle.histar_refinement.proofs.ClassTests.{user_apart, group_apart, owns_read_of, owns_read_of_group, passes_other, passes_jobs, below_private}
use Rattle.histar_refinement.proofs.ClassTests.{below_readable, below_open, below_scratch, below_group, member}

-- all of some jobs are among them
pub all_had : (jobs : List ProcName) → list_all (has jobs) jobs ≡ true
all_had jobs = each jobs jobs (λ job e. e)
  where
    each : (all some : List ProcName) → ((job : ProcName) → has some job ≡ true → has all job ≡ true) → list_all (has all) some ≡ true
    each all [] within = refl
    each all (j ∷ some) within =
        and_from _ _ (within j (or_left (same j j) (has some j) (equal_tested j j refl)))
        (each all some (λ job e. within job (or_right (same job j) (has some job) e)))

pub all_known : (p : Process) → list_all (knows p) p.chain ≡ true
all_known p = each p.chain (λ job e. or_left (has p.chain job) (has p.held job) e)
  where
    each : (some : List ProcName) → ((job : ProcName) → has some job ≡ true → knows p job ≡ true) → list_all (knows p) some ≡ true
    each [] within = refl
    each (j ∷ some) within =
        and_from _ _ (within j (or_left (same j j) (has some j) (equal_tested j j refl)))
        (each some (λ job e. within job (or_right (same job j) (has some job) e)))

module _ (accounts : Accounts) (category : Categories) (different : AreDifferent category) (me : ProcName) (p : Process) where
  abbrev own : Rights
  own = thread_rights accounts me p

  -- the label lies between the thread's own label and its clearance
  abbrev pub is_made_within : Guard → Bool
  is_made_within g =
      is_below (rights_label category own) (guard_label category g)
      && is_below (guard_label category g) (rights_clearance category own)

  abbrev both : List CategoryName
  both = own.owned ++ own.tainted

  passed : (c : CategoryName) → among both c ≡ (among own.owned c || among own.tainted c)
  passed c = among-append own.owned own.tainted c

  all_passed : (names : List CategoryName) → list_all (among both) names ≡ list_all (λ c. among own.owned c || among own.tainted c) names
  all_passed [] = refl
  all_passed (c ∷ names) = λ i. passed c i && all_passed names i

  reads_user : (i : ℕ) → among both (ReadsUser i) ≡ is_number (user_number accounts p.user) i
  reads_user i = passed (ReadsUser i) ∙ passes_other accounts me p (ReadsUser i) (λ job. refl) ∙ owns_read_of accounts me p i

  reads_group : (k : ℕ) → among both (ReadsGroup k) ≡ (is_some (user_number accounts p.user) && has_number (groups_of accounts p.user) k)
  reads_group k = passed (ReadsGroup k) ∙ passes_other accounts me p (ReadsGroup k) (λ job. refl) ∙ owns_read_of_group accounts me p k

  alike : (free mine : Bool) → ((free && (mine && free)) && mine) ≡ (free && mine)
  alike true true = refl
  alike true false = refl
  alike false true = refl
  alike false false = refl

  -- What is private or readable to user i is made by that user, in no job.
  pub private_range : (i : ℕ) → is_made_within (private_guard i) ≡ (is_free p && is_number (user_number accounts p.user) i)
  private_range i =
      (λ k. below_private accounts me p category different i k
      && (cleared_exactly_by_names category different (private_guard i) both (user_apart i)
      ∙ and-true (among both (ReadsUser i)) ∙ reads_user i) k)
      ∙ alike (is_free p) (is_number (user_number accounts p.user) i)

  pub readable_range : (i : ℕ) → is_made_within (readable_guard i) ≡ (is_free p && is_number (user_number accounts p.user) i)
  readable_range i =
      (λ k. below_readable accounts me p category different i k
      && cleared_exactly_by_names category different (readable_guard i) both
      (λ c e. absurd (true≢false (sym e))) k)
      ∙ by (is_free p) (is_number (user_number accounts p.user) i)
    where
      by : (free mine : Bool) → ((free && (mine && free)) && true) ≡ (free && mine)
      by true true = refl
      by true false = refl
      by false true = refl
      by false false = refl

  -- what is open is made by everyone, in no job
  pub open_range : is_made_within open_guard ≡ is_free p
  open_range =
      (λ k. below_open accounts me p category different k
      && cleared_exactly_by_names category different open_guard both (λ c e. refl) k) ∙ and-true (is_free p)

  -- the members of a group make what is the group's, in no job
  pub group_range : (k : ℕ)
      → is_made_within (group_guard k)
      ≡ (is_free p && (is_some (user_number accounts p.user) && has_number (groups_of accounts p.user) k))
  group_range k =
      (λ i. below_group accounts me p category different k i
      && (cleared_exactly_by_names category different (group_guard k) both (group_apart k)
      ∙ and-true (among both (ReadsGroup k)) ∙ reads_group k) i)
      ∙ alike (is_free p) (is_some (user_number accounts p.user) && has_number (groups_of accounts p.user) k)

  -- a scratch label is in the range of exactly the processes of the user that know its jobs, and are in no other
  pub scratch_range : (jobs : List ProcName) (i : ℕ)
      → is_made_within (scratch_guard jobs i)
      ≡ (list_all (has jobs) p.chain && (is_number (user_number accounts p.user) i && list_all (knows p) jobs))
  scratch_range jobs i =
      λ k. below_scratch accounts me p category different jobs i k
      && (cleared_exactly_by_names category different (scratch_guard jobs i) both (λ c e. refl) ∙ named) k
    where
      named : list_all (among both) (ReadsUser i ∷ map OfJob jobs) ≡ (is_number (user_number accounts p.user) i && list_all (knows p) jobs)
      named = λ k. reads_user i k && (all_passed (map OfJob jobs) ∙ passes_jobs accounts me p jobs) k

  module _ (ok : AreAccounts accounts) where
    number_itself : (o : Option ℕ) (i : ℕ) → o ≡ Some i → is_number o i ≡ true
    number_itself o i e = ap (λ (x : Option ℕ). is_number x i) e ∙ itself
      where
        itself : nat_eq i i ≡ true
        itself = grind (arith, nat_tests)

    -- The label of what a process makes, whatever mode it names, lies in its thread's range.
    pub made_in_range : (mode : Mode) (class : Class) (g : Guard) → class_made accounts p mode ≡ Some class
        → class_guard accounts class ≡ Some g → is_made_within g ≡ true
    made_in_range mode class g made guard = by (is_free p) refl made
      where
        of_private : is_free p ≡ true → class ≡ Private p.user → is_made_within g ≡ true
        of_private free is =
            let at = mapped_from private_guard (user_number accounts p.user) g (ap (class_guard accounts) (sym is) ∙ guard) in
            ap is_made_within (sym at.2) ∙ private_range at.0 ∙ and_from _ _ free (number_itself (user_number accounts p.user) at.0 at.1)

        of_readable : is_free p ≡ true → class ≡ Readable p.user → is_made_within g ≡ true
        of_readable free is =
            let at = mapped_from readable_guard (user_number accounts p.user) g (ap (class_guard accounts) (sym is) ∙ guard) in
            ap is_made_within (sym at.2) ∙ readable_range at.0 ∙ and_from _ _ free (number_itself (user_number accounts p.user) at.0 at.1)

        of_open : is_free p ≡ true → class ≡ Open → is_made_within g ≡ true
        of_open free is = ap is_made_within (sym (same_Some open_guard g (ap (class_guard accounts) (sym is) ∙ guard))) ∙ open_range ∙ free

        of_group : (group : Name) → is_free p ≡ true → is_member accounts p.user group ≡ true → class ≡ Grouped group → is_made_within g ≡ true
        of_group group free in_it is =
            let at = mapped_from group_guard (group_number accounts group) g (ap (class_guard accounts) (sym is) ∙ guard) in
            ap is_made_within (sym at.2) ∙ group_range at.0 ∙ and_from _ _ free (member accounts me p category different ok group at.0 at.1 ∙ in_it)

        of_scratch : class ≡ Scratch p.user p.chain → is_made_within g ≡ true
        of_scratch is =
            let at = mapped_from (scratch_guard p.chain) (user_number accounts p.user) g (ap (class_guard accounts) (sym is) ∙ guard) in
            ap is_made_within (sym at.2) ∙ scratch_range p.chain at.0
            ∙ and_from _ _ (all_had p.chain)
            (and_from _ _ (number_itself (user_number accounts p.user) at.0 at.1) (all_known p))

        not_nobody : (b : Bool) (c : Class) → (if b then None else Some c) ≡ Some class → class ≡ c
        not_nobody true c e = absurd (none-some class e)
        not_nobody false c e = sym (same_Some c class e)

        if_member : (b : Bool) (c : Class) → (if b then Some c else None) ≡ Some class → (b ≡ true) × (class ≡ c)
        if_member true c e = (refl, sym (same_Some c class e))
        if_member false c e = absurd (none-some class e)

        freely : (m : Mode) → is_free p ≡ true → free_class accounts p m ≡ Some class → is_made_within g ≡ true
        freely modes.Private free e = of_private free (not_nobody (same p.user nobody) (Private p.user) e)
        freely modes.Readable free e = of_readable free (not_nobody (same p.user nobody) (Readable p.user) e)
        freely modes.Open free e = of_open free (sym (same_Some Open class e))
        freely (modes.Group group) free e =
            let both = if_member (is_member accounts p.user group) (Grouped group) e in of_group group free both.0
            both.1

        by : (b : Bool) → is_free p ≡ b
            → (if b then free_class accounts p mode else Some (Scratch p.user p.chain)) ≡ Some class
            → is_made_within g ≡ true
        by true free e = freely mode free e
        by false free e = of_scratch (sym (same_Some (Scratch p.user p.chain) class e))
