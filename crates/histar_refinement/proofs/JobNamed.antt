-- A category is made for a new job, which is named by the next child of its wrapper: the name was not used, and no class names the job yet.
use Rattle.std.proofs.Common.{◌≡◌, ◌+◌, inl, inr, Bool, true, false, [], ◌∷◌, ◌++◌, Some, arith, refl, ap, ◌∙◌}
use Rattle.std.proofs.lemmas.Bool.{or_left}
use Rattle.histar_flat.specs.Words.{Path, ProcName}
use Rattle.histar_flat.specs.Files.{get}
use Rattle.histar_object.specs.State.{State, with_next_category}
use Rattle.histar_flat.specs.Accounts.{Accounts, has}
use Rattle.histar_flat.specs.Classes.{Process}
use Rattle.histar_flat.specs.FlatState.{Node, Flat}
use Rattle.histar_flat.proofs.GivenNames.{longer_has}
use Rattle.histar_refinement.specs.Categories.{CategoryName, Categories, IsMade, among, naming_next, IsUsed}
use Rattle.histar_refinement.specs.Categories.CategoryName.{OfJob}
use Rattle.histar_refinement.specs.Guards.{Guard}
use Rattle.histar_refinement.specs.Labels.{class_guard}
use Rattle.histar_refinement.specs.Represents.{Represents, ObjectsMatch}
use Rattle.histar_refinement.proofs.JobLists.{never_given}
use Rattle.histar_refinement.proofs.Uses.{class_used}
use Rattle.histar_refinement.proofs.Counting.{number_named, keeps_named, matched_named}

module _ (accounts : Accounts) (s : State) (f : Flat) (l : Represents accounts s f) (me : ProcName) (p : Process)
    (here : f.processes me ≡ Some p) where
  abbrev child : ProcName
  child = (p.born + 1) ∷ me

  -- the job's name was not used
  pub unused : ¬ IsUsed accounts f (OfJob ((p.born + 1) ∷ me))
  unused u = never_given f me p here (l.jobs_given child u)

  -- the process is not in the job
  pub stranger : has p.chain ((p.born + 1) ∷ me) ≡ false
  stranger = by (has p.chain child) refl
    where
      by : (b : Bool) → has p.chain child ≡ b → b ≡ false
      by true e = absurd (unused (inl (me, p, here, or_left (has p.chain child) (has p.held child) e)))
      by false e = refl

  -- no class names the job yet
  pub not_named : (q : Path) (there : Node) (x : Guard) → get f.files q ≡ Some there
      → class_guard accounts there.class ≡ Some x
      → (among x.secret (OfJob ((p.born + 1) ∷ me)) ≡ false) × (among x.written (OfJob ((p.born + 1) ∷ me)) ≡ false)
  not_named q there x at is =
      let used = class_used accounts f q there at there.class refl x is in
      (never (among x.secret (OfJob child)) (used.0 (OfJob child)), never (among x.written (OfJob child)) (used.1 (OfJob child)))
    where
      never : (b : Bool) → (b ≡ true → IsUsed accounts f (OfJob child)) → b ≡ false
      never true u = absurd (unused (u refl))
      never false u = refl

  -- the state once the job's category is made
  pub named : (later : ObjectsMatch accounts (with_next_category s) f) × (later.naming ≡ l.matched.naming)
      × (later.category ≡ naming_next l.matched.category s.next_category (OfJob ((p.born + 1) ∷ me)))
  named = matched_named accounts s f l.matched (OfJob child) unused (with_next_category s) (λ q. refl) refl (omega arith)

  abbrev pub m : ObjectsMatch accounts (with_next_category s) f
  m = named.0

  pub job_number : m.category (OfJob ((p.born + 1) ∷ me)) ≡ s.next_category
  job_number = ap (λ (c : Categories). c (OfJob child)) named.2 ∙ number_named accounts s f l.matched (OfJob child) unused

  -- names that were used keep their numbers
  pub keeps : (c : CategoryName) → IsUsed accounts f c → m.category c ≡ l.matched.category c
  keeps c used = ap (λ (k : Categories). k c) named.2 ∙ keeps_named accounts s f l.matched (OfJob child) unused c used

  -- the categories of the jobs of the process and of the new one are made
  pub chain_made : (job : ProcName) → has (p.chain ++ ((p.born + 1) ∷ me) ∷ []) job ≡ true → IsMade (s.next_category + 1) (m.category (OfJob job))
  chain_made job e = elim (longer_has p.chain child job e) [
    | inl k ↦ m.made (OfJob job) (inl (me, p, here, or_left (has p.chain job) (has p.held job) k))
    | inr is ↦
        let first = l.matched.made CategoryName.OfBoot tt in
        let new : m.category (OfJob job) ≡ s.next_category = ap (λ (j : ProcName). m.category (OfJob j)) is ∙ job_number in
        (omega (arith, first.0, first.1, new), omega (arith, new))
  ]
