-- The labels of a wrap by the names of categories, once the job's category is made: of the thread, of the scratch directory, and of the directory
-- above it; and what a job's first process gets from its parent.
use Rattle.std.proofs.Common.{◌≡◌, ℕ, ◌+◌, ◌≤◌, ◌&&◌, ◌||◌, ◌==◌, inl, inr, Bool, true, false, List, [], ◌∷◌, ◌++◌, length, Option, None, Some, arith}
use Rattle.std.proofs.Common.{refl, sym, ap, ◌∙◌, subst}
use Rattle.std.specs.Prelude.{is_some, map, nat_eq}
use Rattle.std.proofs.lemmas.List.{map-append}
use Rattle.std.proofs.lemmas.Bool.{or_left}
use Rattle.histar_flat.specs.Words.{Path, ProcName}
use Rattle.histar_flat.specs.Accounts.{Accounts, has, user_number}
use Rattle.histar_flat.specs.Files.{get}
use Rattle.histar_flat.specs.Classes.{Process, may_write}
use Rattle.histar_flat.specs.FlatState.{Flat, Node}
use Rattle.histar_flat.proofs.GivenNames.{longer_has}
use Rattle.histar_level.specs.declared.level.Level.TheVariants.{Star, L3}
use Rattle.histar_level.specs.Levels.{Levels}
use Rattle.histar_label.specs.Levels.{with_level, is_below, is_below_raised, is_made}
use Rattle.histar_object.specs.State.{State}
use Rattle.histar_layout.specs.Categories.{read_category, scratch_label}
use Rattle.histar_layout.specs.Jobs.{jobs_in}
use Rattle.histar_layout.specs.Labelling.{guarded_by}
use Rattle.histar_programs.specs.Kin.{owned_by}
use Rattle.histar_refinement.specs.Accounts.{AreAccounts}
use Rattle.histar_refinement.specs.Categories.{CategoryName, Categories, AreDifferent, IsMade, among, naming_next, IsUsed}
use Rattle.histar_refinement.specs.Categories.CategoryName.{ReadsUser, OfJob}
use Rattle.histar_refinement.specs.Guards.{Guard, Rights, guard_label, rights_label, rights_clearance}
use Rattle.histar_refinement.specs.Labels.{class_guard, scratch_guard, thread_rights}
use Rattle.histar_refinement.specs.Represents.{ObjectsMatch}
use Rattle.histar_refinement.specs.Processes.{or_zero}
use Rattle.histar_refinement.proofs.AmongNames.{each_head}
use Rattle.histar_refinement.proofs.CallLabels.{reads_numbered}
use Rattle.histar_refinement.proofs.Counting.{number_named, keeps_named}
use Rattle.histar_refinement.proofs.Growing.{RightsHave, IsOld, same_numbers, same_guard_label, still_different, made_label, made_clearance}
use Rattle.histar_refinement.proofs.JobLabels.{jobs_are}
use Rattle.histar_refinement.proofs.Levelled.{same_guarded}
use Rattle.histar_layout.proofs.Members.{is_in, is_in-append}
use Rattle.histar_refinement.proofs.AccountLemmas.{is_number}
use Rattle.histar_layout.proofs.Declared.{user_range}
use Rattle.histar_refinement.proofs.Tested.{guard_made, guard_owns_nothing}
use Rattle.histar_refinement.proofs.Uses.{job_among, class_used, rights_used}
use Rattle.histar_refinement.proofs.WrapTests as tests
use Rattle.histar_refinement.proofs.OwnLabels.{own_user_is}
use Rattle.histar_sim.proofs.BirthChecks.{IsModified}
use Rattle.histar_wrap.specs.Scratch.{jobs_with, directory_label, kin_in}

-- the rights of a thread that owns the category of a new job too, which is named by the next child
abbrev pub rights_with_job : Accounts → ProcName → Process → Rights
rights_with_job accounts me p =
    record {
      owned = OfJob ((p.born + 1) ∷ me) ∷ (thread_rights accounts me p).owned;
      tainted = (thread_rights accounts me p).tainted;
    }

-- the number that a user has is the user's number
pub number_there : (o : Option ℕ) → is_number o (or_zero o) ≡ is_some o
number_there None = refl
number_there (Some i) = itself
  where
    itself : nat_eq i i ≡ true
    itself = grind (arith)

module _ (accounts : Accounts) (s : State) (f : Flat) (l : ObjectsMatch accounts s f) (me : ProcName) (p : Process)
    (here : f.processes me ≡ Some p) (unused : ¬ IsUsed accounts f (OfJob ((p.born + 1) ∷ me))) where
  abbrev child : ProcName
  child = (p.born + 1) ∷ me

  -- the jobs that the child is in, and the number of the new job
  abbrev jobs : List ProcName
  jobs = p.chain ++ ((p.born + 1) ∷ me) ∷ []

  abbrev job : ℕ
  job = s.next_category

  -- the label and the clearance of the thread before
  abbrev own : Levels
  own = rights_label l.category (thread_rights accounts me p)

  abbrev clearance : Levels
  clearance = rights_clearance l.category (thread_rights accounts me p)

  -- the numbers of categories with the job
  abbrev names : Categories
  names = naming_next l.category s.next_category (OfJob ((p.born + 1) ∷ me))

  apart : AreDifferent names
  apart = still_different l.category l.different job (OfJob child)

  keeps : (c : CategoryName) → IsUsed accounts f c → names c ≡ l.category c
  keeps = keeps_named accounts s f l (OfJob child) unused

  numbered : names (OfJob child) ≡ s.next_category
  numbered = number_named accounts s f l (OfJob child) unused

  -- ---- the thread

  old : (c : CategoryName) → IsUsed accounts f c → IsOld l.category l.different job (OfJob child) c
  old c is = (λ e. unused (subst (IsUsed accounts f) e is), l.made c is)

  own_old : RightsHave (IsOld l.category l.different job (OfJob child)) (thread_rights accounts me p)
  own_old = let used = rights_used accounts f me p here in (λ c e. old c (used.0 c e), λ c e. old c (used.1 c e))

  -- the thread's label owns the job's category
  label_with_job : with_level own job Star ≡ rights_label names (rights_with_job accounts me p)
  label_with_job = made_label l.category l.different job (OfJob child) (thread_rights accounts me p) own_old

  clearance_with_job : with_level clearance job L3 ≡ rights_clearance names (rights_with_job accounts me p)
  clearance_with_job = made_clearance l.category l.different job (OfJob child) (thread_rights accounts me p) own_old

  -- ---- the jobs

  chain_used : (c : CategoryName) → among (map OfJob p.chain) c ≡ true → IsUsed accounts f c
  chain_used = (rights_used accounts f me p here).1

  jobs_named : map names (map OfJob jobs) ≡ map l.category (map OfJob p.chain) ++ job ∷ []
  jobs_named =
      ap (map names) (map-append OfJob p.chain (child ∷ [])) ∙ map-append names (map OfJob p.chain) (OfJob child ∷ [])
      ∙ (λ i. same_numbers l.category names (map OfJob p.chain) (λ c e. keeps c (chain_used c e)) i ++ numbered i ∷ [])

  jobs_with_job : (q : ℕ) → is_in (jobs_with own job) q ≡ is_in (map names (map OfJob jobs)) q
  jobs_with_job q =
      is_in-append (jobs_in own) (job ∷ []) q ∙ ap (λ (b : Bool). b || is_in (job ∷ []) q) (jobs_are l.category accounts me p q)
      ∙ sym (is_in-append (map l.category (map OfJob p.chain)) (job ∷ []) q) ∙ ap (λ (numbers : List ℕ). is_in numbers q) (sym jobs_named)

  -- ---- the scratch directory

  -- the number of its user, and nobody's where there is none
  abbrev user : ℕ
  user = or_zero (user_number accounts p.user)

  low : user ≤ length accounts.users
  low = by (user_number accounts p.user) refl
    where
      by : (o : Option ℕ) → user_number accounts p.user ≡ o → or_zero o ≤ length accounts.users
      by None is = omega arith
      by (Some i) is = (user_range accounts p.user i is).1

  -- the label of the scratch directory is secret to the user and to the jobs
  directory_is : directory_label accounts own job ≡ guard_label names (scratch_guard jobs user)
  directory_is =
      ap (λ (number : ℕ). scratch_label number (jobs_with own job)) (own_user_is accounts s f l me p)
      ∙ same_guarded (read_category user ∷ jobs_with own job) [] (read_category user ∷ map names (map OfJob jobs)) []
      (λ q. ap (λ (b : Bool). q == read_category user || b) (jobs_with_job q)) (λ q. refl)
      ∙ ap (λ (c : ℕ). guarded_by (c ∷ map names (map OfJob jobs)) []) (sym (keeps (ReadsUser user) low ∙ reads_numbered accounts s f l user low))

  made : (c : CategoryName) → IsUsed accounts f c → IsMade (job + 1) (names c)
  made c is = let before = l.made c is in let same = keeps c is in (omega (arith, before.0, same), omega (arith, before.1, same))

  job_made : IsMade (job + 1) (names (OfJob child))
  job_made = let before = l.made CategoryName.OfBoot tt in let new = numbered in (omega (arith, before.0, before.1, new), omega (arith, new))

  jobs_made : (c : CategoryName) → among (map OfJob jobs) c ≡ true → IsMade (job + 1) (names c)
  jobs_made c e =
      let found = job_among jobs c e in
      elim (longer_has p.chain child found.0 found.2) [
        | inl k ↦ made c (subst (IsUsed accounts f) (sym found.1) (inl (me, p, here, or_left (has p.chain found.0) (has p.held found.0) k)))
        | inr is ↦ subst (λ (x : CategoryName). IsMade (job + 1) (names x)) (sym (found.1 ∙ ap OfJob is)) job_made
      ]

  -- the label of the scratch directory names only categories that were made
  made_by_names : is_made (job + 1) (guard_label names (scratch_guard jobs user)) ≡ true
  made_by_names =
      guard_made (job + 1) names (scratch_guard jobs user) (each_head (λ c. IsMade (job + 1) (names c))
      (ReadsUser user) (map OfJob jobs) (made (ReadsUser user) low) jobs_made) (λ c e. absurd cc)

  pub directory_made : is_made (s.next_category + 1) (directory_label accounts own job) ≡ true
  directory_made = ap (is_made (job + 1)) directory_is ∙ made_by_names

  -- where the user is declared
  module _ (i : ℕ) (declared : user_number accounts p.user ≡ Some i) where
    is_user : is_number (user_number accounts p.user) user ≡ true
    is_user = number_there (user_number accounts p.user) ∙ ap is_some declared

    modified_by_names : IsModified (rights_label names (rights_with_job accounts me p))
        (rights_clearance names (rights_with_job accounts me p)) (guard_label names (scratch_guard jobs user)) (job + 1)
    modified_by_names = record {
      above = tests.scratch_above accounts names apart me p child user;
      below = tests.scratch_below accounts names apart me p child user ∙ is_user;
      seen = tests.scratch_seen accounts names apart me p child user ∙ is_user;
      made = made_by_names;
      plain = guard_owns_nothing names (scratch_guard jobs user);
    }

    -- The thread may give the label to what it makes.
    pub directory_modified : IsModified (with_level own job Star) (with_level clearance job L3)
        (directory_label accounts own job) (s.next_category + 1)
    directory_modified =
        subst (λ (x : Levels × Levels × Levels). IsModified x.0 x.1 x.2 (job + 1))
        (λ j. (sym label_with_job j, sym clearance_with_job j, sym directory_is j)) modified_by_names

  -- ---- the directory above, which the thread modifies as before

  module _ (ok : AreAccounts accounts) (d : Path) (there : Node) (at : get f.files d ≡ Some there) (g : Guard)
      (guarded : class_guard accounts there.class ≡ Some g)
      (stranger : has p.chain ((p.born + 1) ∷ me) ≡ false)
      (not_secret : among g.secret (OfJob ((p.born + 1) ∷ me)) ≡ false)
      (not_written : among g.written (OfJob ((p.born + 1) ∷ me)) ≡ false) where
    above_is : guard_label names g ≡ guard_label l.category g
    above_is =
        let used = class_used accounts f d there at there.class refl g guarded in same_guard_label l.category names g
        (λ c e. keeps c (used.0 c e), λ c e. keeps c (used.1 c e))

    pub above_modified : (is_below (with_level own job Star) (guard_label l.category g)
        && is_below_raised (guard_label l.category g) (with_level own job Star)) ≡ may_write accounts p there.class
    above_modified =
        (λ j. is_below (label_with_job j) (sym above_is j) && is_below_raised (sym above_is j) (label_with_job j))
        ∙ tests.modifies_parent accounts names apart me p child ok there.class g guarded stranger not_secret not_written

  -- ---- by a naming that is this one

  module _ (category : Categories) (is : category ≡ naming_next l.category s.next_category (OfJob ((p.born + 1) ∷ me))) where
    pub label_by : with_level own job Star ≡ rights_label category (rights_with_job accounts me p)
    label_by = label_with_job ∙ ap (λ (c : Categories). rights_label c (rights_with_job accounts me p)) (sym is)

    pub clearance_by : with_level clearance job L3 ≡ rights_clearance category (rights_with_job accounts me p)
    clearance_by = clearance_with_job ∙ ap (λ (c : Categories). rights_clearance c (rights_with_job accounts me p)) (sym is)

    pub jobs_by : (q : ℕ) → is_in (kin_in accounts own job).jobs q ≡ is_in (map category (map OfJob jobs)) q
    jobs_by q = jobs_with_job q ∙ ap (λ (c : Categories). is_in (map c (map OfJob jobs)) q) (sym is)

    pub directory_by : directory_label accounts own job ≡ guard_label category (scratch_guard jobs user)
    directory_by = directory_is ∙ ap (λ (c : Categories). guard_label c (scratch_guard jobs user)) (sym is)

  -- what the job's first process owns as its user
  pub owned_revealed : (kin_in accounts own job).owned ≡ owned_by accounts (or_zero (user_number accounts p.user)) false
  owned_revealed = ap (λ (number : ℕ). owned_by accounts number false) (own_user_is accounts s f l me p)
