-- What a process makes: its thread asks for the label of the class that the process makes, or for one outside the thread's range.
use Rattle.std.proofs.Common.{◌≡◌, ◌≢◌, ◌⊎◌, ℕ, ◌≤◌, ◌==◌, ◌||◌, ◌&&◌, Bool, true, false, List, [], ◌∷◌, Option, None, Some, arith, inl, inr, refl}
use Rattle.std.proofs.Common.{sym, ap, ◌∙◌, length, if◌then◌else◌}
use Rattle.std.specs.Prelude.{is_some, map, option_map}
use Rattle.std.proofs.lemmas.Bool.Decides.{nat_tests}
use mathlib.Core.Bool.{true≢false}
use Rattle.histar_flat.specs.declared.calls.Mode.{Mode}
use Rattle.histar_flat.specs.declared.calls.Mode.TheVariants as modes
use Rattle.histar_flat.specs.Words.{Name, ProcName}
use Rattle.histar_flat.specs.Accounts.{Accounts, group_number, is_member, user_number}
use Rattle.histar_flat.specs.Classes.{Class, Process, is_free, free_class, class_made, may_read, may_write}
use Rattle.histar_flat.specs.Classes.Class.{Private, Readable, Open, Scratch, Grouped}
use Rattle.histar_flat.specs.FlatState.{Flat}
use Rattle.histar_level.specs.Levels.{Levels}
use Rattle.histar_object.specs.State.{State}
use Rattle.histar_layout.specs.Jobs.{jobs_in}
use Rattle.histar_layout.specs.Categories.{read_category, write_category, group_owner, user_of, file_label, scratch_label, label_made}
use Rattle.histar_layout.specs.Labelling.{guarded_by, secret_of}
use Rattle.histar_layout.proofs.UserOf.{user_is}
use Rattle.histar_refinement.specs.Accounts.{AreAccounts}
use Rattle.histar_refinement.specs.Guards.{Guard, guard_label, rights_label}
use Rattle.histar_refinement.specs.Labels.{class_guard, private_guard, readable_guard, scratch_guard, group_guard, open_guard, thread_rights}
use Rattle.histar_refinement.specs.Processes.{or_zero}
use Rattle.histar_refinement.proofs.AccountLemmas.{no_member, is_number, not_nobody}
use Rattle.histar_layout.proofs.Declared.{user_range, equal_tested}
use Rattle.histar_refinement.proofs.ClassTests.{member as is_member_of}
use Rattle.histar_refinement.proofs.JobLabels.{jobs_are, none_if_free}
use Rattle.histar_refinement.proofs.Levelled.{same_guarded}
use Rattle.histar_refinement.specs.Categories.CategoryName.{OfJob}
use Rattle.histar_refinement.proofs.MakingRanges.{is_made_within, private_range, readable_range, group_range as made_of_group, all_had, all_known}
use Rattle.histar_refinement.proofs.MakingRanges.{made_in_range}
use Rattle.histar_refinement.proofs.ListedFiles.{ClassFits, AreKnown, made_fits, made_known}
use Rattle.histar_refinement.proofs.CallLabels.{reads_numbered, private_label, readable_label, group_label, user_of_thread}
use Rattle.histar_sim.proofs.Ready.{Ready}
use Rattle.histar_sim.proofs.FoundObjects.{is_nobody}

-- the guard of what is for the group of this number; without a group, nobody's
abbrev guard_of_group : Option ℕ → Guard
guard_of_group None = private_guard 0
guard_of_group (Some k) = group_guard k

-- the guard of what is made in this mode for user i
abbrev guard_of : Accounts → Mode → ℕ → Guard
guard_of accounts modes.Private i = private_guard i
guard_of accounts modes.Readable i = readable_guard i
guard_of accounts modes.Open i = open_guard
guard_of accounts (modes.Group group) i = guard_of_group (group_number accounts group)

-- the class of what a user makes in it
abbrev class_of_mode : Mode → Name → Class
class_of_mode modes.Private user = Private user
class_of_mode modes.Readable user = Readable user
class_of_mode modes.Open user = Open
class_of_mode (modes.Group group) user = Grouped group

module _ {M : Type 0} (accounts : Accounts) (ok : AreAccounts accounts) (s : State) (f : Flat) (me : ProcName) (t : ℕ)
    (ready : Ready M accounts s f me t) (mode : Mode) where
  abbrev p : Process
  p = ready.caller.process

  abbrev number : Option ℕ
  number = user_number accounts p.user

  -- the thread's own label, and the one that it asks for
  abbrev pub own : Levels
  own = rights_label ready.represents.matched.category (thread_rights accounts me ready.caller.process)

  abbrev pub handed : Levels
  handed = label_made accounts own mode

  -- Nothing may be made with this label: it is outside the thread's range, and the flat rules know no class of it.
  pub record MakesNothing : Type 0 where
    pub guard : Guard
    pub label_is : handed ≡ guard_label ready.represents.matched.category guard
    pub outside : is_made_within accounts ready.represents.matched.category ready.represents.matched.different me p guard ≡ false
    pub nothing : is_some (class_made accounts p mode) ≡ false

  -- Of this label the thread makes what the flat rules say that the process makes.
  pub record MakesClass : Type 0 where
    pub class : Class
    pub class_is : class_made accounts p mode ≡ Some class
    pub guard : Guard
    pub guarded : class_guard accounts class ≡ Some guard
    pub label_is : handed ≡ guard_label ready.represents.matched.category guard
    pub within : is_made_within accounts ready.represents.matched.category ready.represents.matched.different me p guard ≡ true
    pub fits : ClassFits accounts s f ready.represents.matched class
    pub known : AreKnown accounts s f ready.represents.matched class
    pub reads : may_read accounts p class ≡ true
    pub writes : may_write accounts p class ≡ true

  -- ---- in no job

  module _ (free : is_free p ≡ true) where
    -- what is for a group has the group's categories, and nobody's where there is none
    group_label_so : (group : Name) (o : Option ℕ) → group_number accounts group ≡ o → (i : ℕ)
        → file_label accounts (modes.Group group) i ≡ guard_label ready.represents.matched.category (guard_of_group o)
    group_label_so group None is i =
        ap (λ (o : Option ℕ).
        let owner = elim o as (λ _. ℕ) [ None ↦ 0 | Some k ↦ group_owner (length accounts.users) k ] in secret_of
        (read_category owner) (write_category owner)) is
        ∙ sym (private_label accounts s f ready.represents.matched 0 (omega arith))
    group_label_so group (Some k) is i = sym (group_label accounts s f ready.represents.matched group k is)

    made_in_none : handed ≡ file_label accounts mode (user_of own (length accounts.users))
    made_in_none =
        ap (λ (b : Bool). if b then file_label accounts mode (user_of own (length accounts.users)) else scratch_label
        (user_of own (length accounts.users)) (jobs_in own))
        (none_if_free ready.represents.matched.category accounts me p ∙ free)

    label_so : (i : ℕ) → or_zero number ≡ i → i ≤ length accounts.users
        → handed ≡ guard_label ready.represents.matched.category (guard_of accounts mode i)
    label_so i is low =
        made_in_none
        ∙ ap (file_label accounts mode) (user_is own (length accounts.users) (or_zero number)
        (user_of_thread accounts s f ready.represents.matched me p) ∙ is)
        ∙ by mode
      where
        by : (x : Mode) → file_label accounts x i ≡ guard_label ready.represents.matched.category (guard_of accounts x i)
        by modes.Private = sym (private_label accounts s f ready.represents.matched i low)
        by modes.Readable = sym (readable_label accounts s f ready.represents.matched i low)
        by modes.Open = refl
        by (modes.Group group) = group_label_so group (group_number accounts group) refl i

    -- ---- what may be made

    -- the process makes what is of the mode's class
    record CanMake (x : Mode) (i : ℕ) : Type 0 where
      made : free_class accounts p x ≡ Some (class_of_mode x p.user)
      guarded : class_guard accounts (class_of_mode x p.user) ≡ Some (guard_of accounts x i)
      reads : may_read accounts p (class_of_mode x p.user) ≡ true
      writes : may_write accounts p (class_of_mode x p.user) ≡ true

    -- the process makes nothing in this mode, and the label is outside its thread's range
    record CannotMake (x : Mode) (i : ℕ) : Type 0 where
      outside : is_made_within accounts ready.represents.matched.category ready.represents.matched.different me p (guard_of accounts x i) ≡ false
      nothing : is_some (free_class accounts p x) ≡ false

    off : (is_free p && is_number number 0) ≡ false
    off = (λ i. free i && is_number number 0) ∙ by number refl
      where
        by : (o : Option ℕ) → number ≡ o → is_number o 0 ≡ false
        by None is = refl
        by (Some i) is = let low = (user_range accounts p.user i is).0 in grind (arith, nat_tests, low)

    -- the members of a group make what is the group's
    by_group : (group : Name) (i : ℕ) (o : Option ℕ) → group_number accounts group ≡ o → (b : Bool)
        → is_member accounts p.user group ≡ b → CanMake (modes.Group group) i ⊎ CannotMake (modes.Group group) i
    by_group group i None is b member = inr (record {
      outside =
          ap (λ (o : Option ℕ).
          is_made_within accounts ready.represents.matched.category ready.represents.matched.different me p
          (guard_of_group o)) is
          ∙ private_range accounts ready.represents.matched.category ready.represents.matched.different me p 0 ∙ off;
      nothing = ap (λ (x : Bool). is_some (if x then Some (Grouped group) else None)) (no_member accounts p.user group is);
    })
    by_group group i (Some k) is true member = inl (record {
      made = ap (λ (x : Bool). if x then Some (Grouped group) else None) member;
      guarded = ap (λ (o : Option ℕ). option_map group_guard o) is ∙ ap (λ (o : Option ℕ). Some (guard_of_group o)) (sym is);
      reads = member;
      writes = λ j. member j && free j;
    })
    by_group group i (Some k) is false member = inr (record {
      outside =
          ap (λ (o : Option ℕ).
          is_made_within accounts ready.represents.matched.category ready.represents.matched.different me p
          (guard_of_group o)) is
          ∙ made_of_group accounts ready.represents.matched.category ready.represents.matched.different me p k
          ∙ (λ j. free j
          && (is_member_of accounts me p ready.represents.matched.category
          ready.represents.matched.different ok group k is ∙ member) j);
      nothing = ap (λ (x : Bool). is_some (if x then Some (Grouped group) else None)) member;
    })

    -- everyone makes what everyone may read and write
    makes_open : (i : ℕ) → CanMake modes.Open i
    makes_open i = record { made = refl; guarded = refl; reads = refl; writes = free }

    -- a user makes what is its own
    by_user : (i : ℕ) → number ≡ Some i → (x : Mode) → CanMake x i ⊎ CannotMake x i
    by_user i is modes.Private = inl (record {
      made = ap (λ (b : Bool). if b then None else Some (Private p.user)) (not_nobody accounts ok p.user i is);
      guarded = ap (λ (o : Option ℕ). option_map private_guard o) is;
      reads = equal_tested p.user p.user refl;
      writes = λ j. equal_tested p.user p.user refl j && free j;
    })
    by_user i is modes.Readable = inl (record {
      made = ap (λ (b : Bool). if b then None else Some (Readable p.user)) (not_nobody accounts ok p.user i is);
      guarded = ap (λ (o : Option ℕ). option_map readable_guard o) is;
      reads = refl;
      writes = λ j. equal_tested p.user p.user refl j && free j;
    })
    by_user i is modes.Open = inl (makes_open i)
    by_user i is (modes.Group group) = by_group group i (group_number accounts group) refl (is_member accounts p.user group) refl

    -- nobody's process makes this, or makes nothing
    by_nobody : number ≡ None → (x : Mode) → CanMake x 0 ⊎ CannotMake x 0
    by_nobody none modes.Private = inr (record {
      outside = private_range accounts ready.represents.matched.category ready.represents.matched.different me p 0 ∙ off;
      nothing = ap (λ (b : Bool). is_some (if b then None else Some (Private p.user))) (is_nobody accounts ok s f me t ready (ap is_some none));
    })
    by_nobody none modes.Readable = inr (record {
      outside = readable_range accounts ready.represents.matched.category ready.represents.matched.different me p 0 ∙ off;
      nothing = ap (λ (b : Bool). is_some (if b then None else Some (Readable p.user))) (is_nobody accounts ok s f me t ready (ap is_some none));
    })
    by_nobody none modes.Open = inl (makes_open 0)
    by_nobody none (modes.Group group) = by_group group 0 (group_number accounts group) refl (is_member accounts p.user group) refl

    -- ---- what is made

    no_jobs : (user : Name) (x : Mode) (owner : Name) (jobs : List ProcName) → class_of_mode x user ≡ Scratch owner jobs → jobs ≡ p.chain
    no_jobs user modes.Private owner jobs e = absurd cc
    no_jobs user modes.Readable owner jobs e = absurd cc
    no_jobs user modes.Open owner jobs e = absurd cc
    no_jobs user (modes.Group group) owner jobs e = absurd cc

    -- what the process makes of this mode, as the user of number i or, where that plays no part, as nobody
    made_so : (i : ℕ) → or_zero number ≡ i → i ≤ length accounts.users → CanMake mode i → MakesClass
    made_so i is low can =
        let class_is : class_made accounts p mode ≡ Some (class_of_mode mode p.user) =
        ap (λ (b : Bool). if b then free_class accounts p mode else Some (Scratch p.user p.chain)) free ∙ can.made in
        let has_guard : class_guard accounts (class_of_mode mode p.user) ≢ None =
        λ none. let k : None ≡ Some (guard_of accounts mode i) = sym none ∙ can.guarded in absurd cc in
        record {
          class = class_of_mode mode p.user;
          class_is = class_is;
          guard = guard_of accounts mode i;
          guarded = can.guarded;
          label_is = label_so i is low;
          within =
              made_in_range accounts ready.represents.matched.category ready.represents.matched.different me p ok mode
              (class_of_mode mode p.user) (guard_of accounts mode i) class_is can.guarded;
          fits = made_fits accounts s f ready.represents.matched me p ready.caller.agrees (class_of_mode mode p.user) has_guard (no_jobs p.user mode);
          known = made_known accounts s f ready.represents.matched me p ready.caller.agrees (class_of_mode mode p.user) (no_jobs p.user mode);
          reads = can.reads;
          writes = can.writes;
        }

    -- where the process makes nothing in this mode
    not_made : (i : ℕ) → or_zero number ≡ i → i ≤ length accounts.users → CannotMake mode i → MakesNothing
    not_made i is low cannot = record {
      guard = guard_of accounts mode i;
      label_is = label_so i is low;
      outside = cannot.outside;
      nothing = ap (λ (b : Bool). is_some (if b then free_class accounts p mode else Some (Scratch p.user p.chain))) free ∙ cannot.nothing;
    }

    -- what is made, or nothing
    makes_free : {Result : Type 0} → (MakesNothing → Result) → (MakesClass → Result) → Result
    makes_free {Result} nothing class = by_number number refl
      where
        decided : (i : ℕ) → or_zero number ≡ i → i ≤ length accounts.users → CanMake mode i ⊎ CannotMake mode i → Result
        decided i is low (inl can) = class (made_so i is low can)
        decided i is low (inr cannot) = nothing (not_made i is low cannot)

        by_number : (o : Option ℕ) → number ≡ o → Result
        by_number None none = decided 0 (ap or_zero none) (omega arith) (by_nobody none mode)
        by_number (Some i) is = decided i (ap or_zero is) (user_range accounts p.user i is).1 (by_user i is mode)

  -- ---- in jobs

  module _ (busy : is_free p ≡ false) where
    -- the user has a number, since nobody is in no job
    user : (o : Option ℕ) → number ≡ o → (i : ℕ) × (number ≡ Some i)
    user (Some i) is = (i, is)
    user None is =
        let empty = ((ready.represents.matched.processes me p ready.caller.agrees).free ready.caller.runs (ap is_some is)).0 in
        absurd (true≢false (sym (ap (λ (chain : List ProcName). elim chain as (λ _. Bool) [ [] ↦ true | job ∷ jobs ↦ false ]) empty) ∙ busy))

    i : ℕ
    i = (user number refl).0

    is : number ≡ Some (user number refl).0
    is = (user number refl).1

    low : (user number refl).0 ≤ length accounts.users
    low = (user_range accounts p.user (user number refl).0 (user number refl).1).1

    -- the label that the thread asks for in a job is secret to its user and to its jobs
    label_in_jobs : handed ≡ guard_label ready.represents.matched.category (scratch_guard p.chain (user number refl).0)
    label_in_jobs =
        ap (λ (b : Bool). if b then file_label accounts mode (user_of own (length accounts.users)) else scratch_label
        (user_of own (length accounts.users)) (jobs_in own))
        (none_if_free ready.represents.matched.category accounts me p ∙ busy)
        ∙ ap (λ (number : ℕ). scratch_label number (jobs_in own)) (user_is own (length accounts.users) (or_zero number)
        (user_of_thread accounts s f ready.represents.matched me p) ∙ ap or_zero is)
        ∙ same_guarded (read_category (user number refl).0 ∷ jobs_in own) []
        (read_category (user number refl).0 ∷ map ready.represents.matched.category (map OfJob p.chain)) []
        (λ q. ap (λ (b : Bool). q == read_category (user number refl).0 || b)
        (jobs_are ready.represents.matched.category accounts me p q)) (λ q. refl)
        ∙ ap (λ (c : ℕ). guarded_by (c ∷ map ready.represents.matched.category (map OfJob p.chain)) [])
        (sym (reads_numbered accounts s f ready.represents.matched (user number refl).0 low))

    class_guarded : class_guard accounts (Scratch p.user p.chain) ≡ Some (scratch_guard p.chain (user number refl).0)
    class_guarded = ap (option_map (scratch_guard p.chain)) is

    class_in_jobs : class_made accounts p mode ≡ Some (Scratch p.user p.chain)
    class_in_jobs = ap (λ (b : Bool). if b then free_class accounts p mode else Some (Scratch p.user p.chain)) busy

    of_chain : (owner : Name) (jobs : List ProcName) → Scratch p.user p.chain ≡ Scratch owner jobs → jobs ≡ p.chain
    of_chain owner jobs e = sym (ap (λ (class : Class). elim class as (λ _. List ProcName)
        [ Private name ↦ [] | Readable name ↦ [] | Open ↦ [] | Scratch name of ↦ of | Grouped name ↦ [] ]) e)

    -- what is made in a job is for the job
    made_in_chain : MakesClass
    made_in_chain = record {
      class = Scratch p.user p.chain;
      class_is = class_in_jobs;
      guard = scratch_guard p.chain (user number refl).0;
      guarded = class_guarded;
      label_is = label_in_jobs;
      within =
          made_in_range accounts ready.represents.matched.category ready.represents.matched.different me p ok mode
          (Scratch p.user p.chain) (scratch_guard p.chain (user number refl).0) class_in_jobs class_guarded;
      fits =
          made_fits accounts s f ready.represents.matched me p ready.caller.agrees (Scratch p.user p.chain)
          (λ none. let k : None
          ≡ Some (scratch_guard p.chain (user number refl).0) = sym none ∙ class_guarded in absurd cc)
          of_chain;
      known = made_known accounts s f ready.represents.matched me p ready.caller.agrees (Scratch p.user p.chain) of_chain;
      reads = λ j. equal_tested p.user p.user refl j && all_known p j;
      writes = λ j. (equal_tested p.user p.user refl j && all_known p j) && all_had p.chain j;
    }

  -- The label that the thread asks for in a mode: it makes what the process makes by the flat rules, or nothing where they make nothing.
  pub makes : {Result : Type 0} → (MakesNothing → Result) → (MakesClass → Result) → Result
  makes {Result} nothing class = by (is_free p) refl
    where
      by : (b : Bool) → is_free p ≡ b → Result
      by true free = makes_free free nothing class
      by false busy = class (made_in_chain busy)
