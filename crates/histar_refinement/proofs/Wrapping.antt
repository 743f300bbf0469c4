-- A wrap, granted: a category is made for the job, a directory is made for it, its first process is born, and its wrapper holds the job.
use Rattle.std.proofs.Common.{◌≡◌, ℕ, ◌+◌, ◌<◌, ◌≤◌, ◌⊎◌, inl, inr, Bool, true, false, cond, List, [], ◌∷◌, ◌++◌, length, Option, None, Some, arith}
use Rattle.std.proofs.Common.{refl, sym, ap, ◌∙◌, subst}
use Rattle.std.specs.Prelude.{IsTrue, is_some, option_map}
use mathlib.Core.Bool.{true≢false}
use Rattle.histar_flat.specs.Words.{Name, Path, ProcName, is_name}
use Rattle.histar_base.specs.Paths.{same}
use Rattle.histar_level.specs.Levels.{Levels}
use Rattle.histar_flat.specs.Files.{get}
use Rattle.histar_flat.proofs.FileLemmas.{same_name_found, same_path_found, get_new, get_other}
use Rattle.std.specs.FinMap as map
use Rattle.std.specs.FinSet as set
use Rattle.std.proofs.lemmas.Option.{none-some, same_Some}
use Rattle.std.proofs.lemmas.Bool.{or_left, or_right}
use Rattle.histar_layout.specs.Directory.{spelling}
use Rattle.histar_layout.specs.declared.entry.Target.TheVariants as targets
use Rattle.histar_object.specs.declared.objects.Kind.TheVariants.{Segment, Container}
use Rattle.histar_object.specs.declared.objects.Object.{Object}
use Rattle.histar_rules.specs.Rules.{greatest}
use Rattle.histar_rules.specs.Rights.{with_category}
use Rattle.histar_object.specs.State.{State, with_object, with_segment_bytes, with_next_category}
use Rattle.histar_container.specs.Tree.{Naming}
use Rattle.histar_flat.specs.Accounts.{Accounts, has, user_number}
use Rattle.histar_flat.specs.Classes.{Class, Process}
use Rattle.histar_flat.specs.Classes.Class.{Scratch}
use Rattle.histar_flat.specs.FlatState.{Node, Flat, entries_in, with_node, with_child, is_given}
use Rattle.histar_flat.specs.FlatCalls.{most_entries}
use Rattle.histar_flat.specs.FlatState.Content.{Dir}
use Rattle.histar_flat.proofs.WrappedJobs.{has_last}
use Rattle.histar_flat.proofs.GivenNames.{longer_has}
use Rattle.histar_refinement.specs.Categories.{CategoryName, Categories, IsMade, among, naming_next, is_for, IsKnown, IsServed, IsUsed}
use Rattle.histar_refinement.specs.Categories.CategoryName.{OfBoot, ReadsUser, WritesUser, ReadsGroup, WritesGroup}
use Rattle.histar_refinement.specs.Categories.CategoryName.{ReadsProcess, WritesProcess, OfJob}
use Rattle.histar_refinement.specs.Guards.{Guard, guard_label}
use Rattle.histar_refinement.specs.Labels.{class_guard, scratch_guard}
use Rattle.histar_refinement.specs.Addresses.{Step, address_of, home_address}
use Rattle.histar_refinement.specs.Addresses.Step.{Listing, Status, Inside, Runner}
use Rattle.histar_refinement.specs.Directories.{directory_of}
use Rattle.histar_refinement.specs.Represents.{AreInOrder, Represents, ObjectsMatch}
use Rattle.histar_refinement.specs.KeptNames.{RepresentsStill}
use Rattle.histar_refinement.proofs.KeepingNames.{Grows, grows_keeps, grows_twice}
use Rattle.histar_refinement.proofs.JobLists.{in_order_last}
use Rattle.histar_refinement.proofs.Beside.{Beside, beside_added, beside_written, beside_category}
use Rattle.histar_refinement.proofs.Spawned.{own_label, own_clearance, beside_start}
use Rattle.histar_refinement.proofs.ListedFiles.{SameNumbers, ClassFits}
use Rattle.histar_refinement.proofs.Creating.{directory_naming, matched_directory_created, directory_numbers, directory_old_numbers}
use Rattle.histar_refinement.proofs.JobNamed as jobs
use Rattle.histar_refinement.proofs.JobBorn.{after, state_held, given_after, given_child, used_before, matched_held, grows_held}

-- The process that wraps and its user, the name of the directory that it makes and the directory above, and the numbers of the objects of
-- the process and of the directory above.
pub record Wrapper (accounts : Accounts) (s : State) (f : Flat) (l : Represents accounts s f) (me : ProcName) (p : Process) : Type 0 where
  pub here : f.processes me ≡ Some p
  pub runs : p.exited ≡ None
  pub room : p.born < 64
  pub user : ℕ
  pub declared : user_number accounts p.user ≡ Some user
  pub directory : Path
  pub name : Name
  pub absent : get f.files (name ∷ directory) ≡ None
  pub above : Class
  pub at_parent : get f.files directory ≡ Some (record { class = above; content = Dir })
  pub home : ℕ
  pub segment : ℕ
  pub thread : ℕ
  pub container : ℕ
  pub listing : ℕ
  pub at_home : l.matched.naming.number (home_address me) ≡ Some home
  pub at_status : l.matched.naming.number (Status ∷ home_address me) ≡ Some segment
  pub at_thread : l.matched.naming.number (Runner ∷ Inside ∷ home_address me) ≡ Some thread
  pub at_container : l.matched.naming.number (address_of directory) ≡ Some container
  pub at_listing : l.matched.naming.number (Listing ∷ address_of directory) ≡ Some listing
  pub few : s.next_object + 1 < greatest

module _ (accounts : Accounts) (s : State) (f : Flat) (l : Represents accounts s f) (me : ProcName) (p : Process)
    (it : Wrapper accounts s f l me p) where
  -- the fields of the wrapper by name
  abbrev here : f.processes me ≡ Some p
  here = it.here

  abbrev runs : p.exited ≡ None
  runs = it.runs

  abbrev room : p.born < 64
  room = it.room

  abbrev i : ℕ
  i = it.user

  abbrev declared : user_number accounts p.user ≡ Some i
  declared = it.declared

  -- the directory above, and the name in it
  abbrev d : Path
  d = it.directory

  abbrev n : Name
  n = it.name

  abbrev absent : get f.files (n ∷ d) ≡ None
  absent = it.absent

  abbrev above : Class
  above = it.above

  abbrev at_parent : get f.files d ≡ Some (record { class = above; content = Dir })
  at_parent = it.at_parent

  -- the container, the segment and the thread of the process, and the container and the segment of the directory above
  abbrev C : ℕ
  C = it.home

  abbrev S : ℕ
  S = it.segment

  abbrev T : ℕ
  T = it.thread

  abbrev D : ℕ
  D = it.container

  abbrev N : ℕ
  N = it.listing

  abbrev at_home : l.matched.naming.number (home_address me) ≡ Some C
  at_home = it.at_home

  abbrev at_status : l.matched.naming.number (Status ∷ home_address me) ≡ Some S
  at_status = it.at_status

  abbrev at_thread : l.matched.naming.number (Runner ∷ Inside ∷ home_address me) ≡ Some T
  at_thread = it.at_thread

  abbrev at_D : l.matched.naming.number (address_of d) ≡ Some D
  at_D = it.at_container

  abbrev at_N : l.matched.naming.number (Listing ∷ address_of d) ≡ Some N
  at_N = it.at_listing

  abbrev few : s.next_object + 1 < greatest
  few = it.few

  abbrev child : ProcName
  child = (p.born + 1) ∷ me

  abbrev pub chain : List ProcName
  chain = p.chain ++ child ∷ []

  abbrev held : List ProcName
  held = p.held ++ child ∷ []

  abbrev class : Class
  class = Scratch p.user chain

  -- the job's name was not used
  pub unused : ¬ IsUsed accounts f (OfJob child)
  unused = jobs.unused accounts s f l me p here

  pub stranger : has p.chain child ≡ false
  stranger = jobs.stranger accounts s f l me p here

  -- no class names the job yet
  pub not_named : (q : Path) (there : Node) (x : Guard) → get f.files q ≡ Some there
      → class_guard accounts there.class ≡ Some x
      → (among x.secret (OfJob child) ≡ false) × (among x.written (OfJob child) ≡ false)
  not_named = jobs.not_named accounts s f l me p here

  -- the state once the job's category is made
  abbrev pub named : (later : ObjectsMatch accounts (with_next_category s) f) × (later.naming ≡ l.matched.naming)
      × (later.category ≡ naming_next l.matched.category s.next_category (OfJob child))
  named = jobs.named accounts s f l me p here

  abbrev pub m : ObjectsMatch accounts (with_next_category s) f
  m = named.0

  -- the category of the job has the next number
  pub job_number : m.category (OfJob child) ≡ s.next_category
  job_number = jobs.job_number accounts s f l me p here

  -- used names keep their categories
  pub keeps : (c : CategoryName) → IsUsed accounts f c → m.category c ≡ l.matched.category c
  keeps = jobs.keeps accounts s f l me p here

  -- jobs that were used have smaller numbers
  below_job : (job : ProcName) → IsUsed accounts f (OfJob job) → m.category (OfJob job) < m.category (OfJob child)
  below_job job used =
      let old = l.matched.made (OfJob job) used in
      let kept = keeps (OfJob job) used in
      let new = job_number in
      omega (arith, old.1, kept, new)

  chain_known : (job : ProcName) → has p.chain job ≡ true → IsUsed accounts f (OfJob job)
  chain_known job e = inl (me, p, here, or_left (has p.chain job) (has p.held job) e)

  held_known : (job : ProcName) → has p.held job ≡ true → IsUsed accounts f (OfJob job)
  held_known job e = inl (me, p, here, or_right (has p.chain job) (has p.held job) e)

  chain_ordered : AreInOrder m.category chain
  chain_ordered = in_order_last m.category child p.chain (λ job e. below_job job (chain_known job e)) (m.processes me p here).chain

  held_ordered : AreInOrder m.category held
  held_ordered = in_order_last m.category child p.held (λ job e. below_job job (held_known job e)) ((m.processes me p here).held runs)

  class_made : (job : ProcName) → is_for class job ≡ true → IsMade (s.next_category + 1) (m.category (OfJob job))
  class_made = jobs.chain_made accounts s f l me p here

  pub guard_is : class_guard accounts class ≡ Some (scratch_guard chain i)
  guard_is = ap (option_map (scratch_guard chain)) declared

  pub at_D_named : m.naming.number (address_of d) ≡ Some D
  at_D_named = ap (λ nm. nm.number (address_of d)) named.1 ∙ at_D

  pub at_N_named : m.naming.number (Listing ∷ address_of d) ≡ Some N
  at_N_named = ap (λ nm. nm.number (Listing ∷ address_of d)) named.1 ∙ at_N

  -- the flat state with the directory
  abbrev pub with_directory : Flat
  with_directory = with_node f (n ∷ d) class Dir

  pub fits : ClassFits accounts (with_next_category s) f m class
  fits = record { guard = λ none. none_is_some (scratch_guard chain i) (sym none ∙ guard_is); order = chain_ordered; made = class_made }
    where
      none_is_some : (g : Guard) → ◌≡◌ {A = Option Guard} None (Some g) → ⊥
      none_is_some g e = none-some g e

  -- what is made for the job, and what is written in the directory above
  abbrev pub new_container : Object Levels
  new_container = record { label = guard_label m.category (scratch_guard chain i); kind = Container set.empty }

  abbrev pub new_segment : Object Levels
  new_segment = record { label = guard_label m.category (scratch_guard chain i); kind = Segment [] }

  abbrev pub written : List ℕ
  written = spelling (map.insert (directory_of f.files m.naming.number d) n (targets.Directory s.next_object (s.next_object + 1)))

  abbrev pub made_state : State
  made_state = with_segment_bytes (with_object (with_object (with_next_category s) D new_container) s.next_object new_segment) N written

  -- The directory above has room for the new one.
  module _ (is_named : IsTrue (is_name n)) (room_above : length (entries_in f d) < most_entries) where
    pub made : (later : ObjectsMatch accounts made_state with_directory)
        × (later.naming
        ≡ directory_naming accounts (with_next_category s) f m d above at_parent D N at_D_named at_N_named n
        absent class fits (scratch_guard chain i) guard_is) × (later.category ≡ m.category)
    made =
        matched_directory_created accounts (with_next_category s) f m d above at_parent D N at_D_named at_N_named n
        absent class fits (scratch_guard chain i) guard_is is_named room_above (omega (arith, few))

    numbers : SameNumbers m.naming.number (directory_naming accounts (with_next_category s) f m d above at_parent D N
        at_D_named at_N_named n absent class fits (scratch_guard chain i) guard_is).number
    numbers =
        directory_numbers accounts (with_next_category s) f m d above at_parent D N at_D_named at_N_named n absent class
        fits (scratch_guard chain i) guard_is (omega (arith, few))

    abbrev pub k : ObjectsMatch accounts made_state with_directory
    k = made.0

    -- what processes have keeps its numbers
    pub k_numbers : SameNumbers l.matched.naming.number k.naming.number
    k_numbers = subst (λ (x : Naming Step × Naming Step). SameNumbers x.0.number x.1.number) (λ j. (named.1 j, sym made.1 j)) numbers

    pub k_home : k.naming.number (home_address me) ≡ Some C
    k_home = sym (k_numbers.home me) ∙ at_home

    pub k_status : k.naming.number (Status ∷ home_address me) ≡ Some S
    k_status = sym (k_numbers.status me) ∙ at_status

    pub k_thread : k.naming.number (Runner ∷ Inside ∷ home_address me) ≡ Some T
    k_thread = sym (k_numbers.runner me) ∙ at_thread

    pub is_declared : is_some (user_number accounts p.user) ≡ true
    is_declared = ap is_some declared

    pub served : IsServed with_directory child
    served = (
      n
          ∷ d,
      record { class = class; content = Dir },
      get_new f.files (n ∷ d)
          (record { class = class; content = Dir }),
      has_last p.chain child,
    )

    pub k_chain : AreInOrder k.category chain
    k_chain = subst (λ (c : Categories). AreInOrder c chain) (sym made.2) chain_ordered

    pub k_held : AreInOrder k.category held
    k_held = subst (λ (c : Categories). AreInOrder c held) (sym made.2) held_ordered

    -- the calls as the kernel runs them: the thread owns the job's category from the first one on
    abbrev own : Levels
    own = own_label accounts s f l.matched me p here runs T at_thread

    abbrev clearance : Levels
    clearance = own_clearance accounts s f l.matched me p here runs T at_thread

    abbrev pub state_directory : State
    state_directory = with_segment_bytes (with_object (with_object (with_category s T) D new_container) s.next_object new_segment) N written

    pub beside : Beside T own clearance state_directory made_state
    beside =
        beside_written T own clearance
        (with_object (with_object (with_category s T) D new_container) s.next_object new_segment)
        (with_object (with_object (with_next_category s) D new_container) s.next_object new_segment) N written
        (beside_added T own clearance (with_object (with_category s T) D new_container)
        (with_object (with_next_category s) D new_container) s.next_object new_segment
        (beside_added T own clearance (with_category s T) (with_next_category s) D new_container
        (beside_category T own clearance s s (beside_start accounts s f l.matched me p here runs T at_thread))))

    pub counted : made_state.next_category ≤ state_directory.next_category
    counted = omega arith

    -- There are numbers for what the birth makes.
    module _ (few_born : made_state.next_object + 3 < greatest) where
      abbrev pub state_wrapped : State
      state_wrapped =
          state_held accounts made_state with_directory k me p here runs room is_declared served stranger k_chain k_held
          C S T k_home k_status k_thread few_born own clearance state_directory beside counted

      -- the flat state after the wrap
      abbrev pub wrapped : Flat
      wrapped = with_child with_directory me (record { user = p.user; chain = p.chain; held = held; exited = p.exited; born = p.born }) chain

      abbrev newborn : Process
      newborn = record { user = p.user; chain = chain; held = []; exited = None; born = 0 }

      abbrev wrapper : Process
      wrapper = record { user = p.user; chain = p.chain; held = held; exited = p.exited; born = p.born + 1 }

      same_process : (x : ProcName) (a b : Bool) → same me x ≡ a → same child x ≡ b → (o q : Option Process)
          → cond a (Some wrapper) (cond b (Some newborn) (cond a o q)) ≡ cond b (Some newborn) (cond a (Some wrapper) q)
      same_process x true true e u o q = elim (same_name_found me x) [
        | inl t ↦ elim (same_name_found child x) [
          | inl r ↦ let w : length me ≡ length child = ap length (t.1 ∙ sym r.1) in absurd (omega (arith, w))
          | inr r ↦ absurd (true≢false (sym u ∙ r.0))
        ]
        | inr t ↦ absurd (true≢false (sym e ∙ t.0))
      ]
      same_process x true false e u o q = refl
      same_process x false true e u o q = refl
      same_process x false false e u o q = refl

      same_flat : after accounts made_state with_directory k me p here runs room is_declared served stranger k_chain
          k_held C S T k_home k_status k_thread few_born ≡ wrapped
      same_flat =
          λ j. record {
            files = with_directory.files;
            processes = λ x. same_process x (same me x) (same child x) refl refl
                (Some (record {
                  user = p.user;
                  chain = p.chain;
                  held = p.held;
                  exited = p.exited;
                  born = p.born + 1;
                })) (f.processes x) j;
          }

      -- a job that is known or served then was, or is one of the child's
      old_or_new : (job : ProcName) → IsUsed accounts with_directory (OfJob job) → IsUsed accounts f (OfJob job) ⊎ (has chain job ≡ true)
      old_or_new job (inl known) = inl (inl known)
      old_or_new job (inr at) = elim (same_path_found at.0 (n ∷ d)) [
        | inl e ↦
            let is =
            same_Some (record { class = class; content = Dir }) at.1
            (sym (get_new f.files (n ∷ d) (record { class = class; content = Dir }))
            ∙ ap (get with_directory.files) (sym e.1) ∙ at.2) in
            inr (ap (λ (x : Node). is_for x.class job) is ∙ at.3)
        | inr e ↦ inl (inr (at.0, at.1, sym (get_other f.files (n ∷ d) (record { class = class; content = Dir }) at.0 e.1) ∙ at.2, at.3))
      ]

      old_given : (job : ProcName) → IsUsed accounts f (OfJob job)
          → is_given (after accounts made_state with_directory k me p here runs room is_declared served stranger k_chain k_held
          C S T k_home k_status k_thread few_born).processes job ≡ true
      old_given job u =
          given_after accounts made_state with_directory k me p here runs room is_declared served stranger k_chain
          k_held C S T k_home k_status k_thread few_born job (l.jobs_given job u)

      given_now : (job : ProcName) → has chain job ≡ true
          → is_given (after accounts made_state with_directory k me p here runs room is_declared served stranger k_chain k_held
          C S T k_home k_status k_thread few_born).processes job ≡ true
      given_now job e = elim (longer_has p.chain child job e) [
        | inl old ↦ old_given job (chain_known job old)
        | inr is ↦
            subst (λ (j : ProcName).
            is_given (after accounts made_state with_directory k me p here runs room is_declared served stranger
            k_chain k_held C S T k_home k_status k_thread few_born).processes j ≡ true) (sym is)
            (given_child accounts made_state with_directory k me p here runs room is_declared served stranger
            k_chain k_held C S T k_home k_status k_thread few_born)
      ]

      jobs_given_then : (job : ProcName)
          → IsKnown (after accounts made_state with_directory k me p here runs room is_declared served stranger k_chain k_held
          C S T k_home k_status k_thread few_born) job
          ⊎ IsServed (after accounts made_state with_directory k me p here runs room is_declared served stranger k_chain
          k_held C S T k_home k_status k_thread few_born) job
          → is_given (after accounts made_state with_directory k me p here runs room is_declared served stranger k_chain k_held
          C S T k_home k_status k_thread few_born).processes job ≡ true
      jobs_given_then job u =
          elim (old_or_new job (used_before accounts made_state with_directory k me p here runs room is_declared served stranger
          k_chain k_held C S T k_home k_status k_thread few_born job u)) [
            | inl old ↦ old_given job old
            | inr e ↦ given_now job e
          ]

      -- what was used is used once the directory is made
      still_used : (c : CategoryName) → IsUsed accounts f c → IsUsed accounts with_directory c
      still_used OfBoot u = u
      still_used (ReadsUser j) u = u
      still_used (WritesUser j) u = u
      still_used (ReadsGroup j) u = u
      still_used (WritesGroup j) u = u
      still_used (ReadsProcess x) u = u
      still_used (WritesProcess x) u = u
      still_used (OfJob job) (inl known) = inl known
      still_used (OfJob job) (inr at) = elim (same_path_found at.0 (n ∷ d)) [
        | inl e ↦ absurd (none-some at.1 (sym absent ∙ ap (get f.files) (sym e.1) ∙ at.2))
        | inr e ↦ inr (at.0, at.1, get_other f.files (n ∷ d) (record { class = class; content = Dir }) at.0 e.1 ∙ at.2, at.3)
      ]

      -- the job's name is the only one that is added
      job_added : (job : ProcName) → IsUsed accounts with_directory (OfJob job)
          → IsUsed accounts f (OfJob job) ⊎ (s.next_category ≤ k.category (OfJob job))
      job_added job u = elim (old_or_new job u) [
        | inl old ↦ inl old
        | inr e ↦ elim (longer_has p.chain child job e) [
          | inl old ↦ inl (chain_known job old)
          | inr is ↦
              let number : k.category (OfJob job) ≡ s.next_category =
              ap (λ (names : Categories). names (OfJob job)) made.2 ∙ ap (λ (j : ProcName). m.category (OfJob j)) is ∙ job_number in
              inr (omega (arith, number))
        ]
      ]

      name_added : (c : CategoryName) → IsUsed accounts with_directory c → IsUsed accounts f c ⊎ (s.next_category ≤ k.category c)
      name_added OfBoot u = inl u
      name_added (ReadsUser j) u = inl u
      name_added (WritesUser j) u = inl u
      name_added (ReadsGroup j) u = inl u
      name_added (WritesGroup j) u = inl u
      name_added (ReadsProcess x) u = inl u
      name_added (WritesProcess x) u = inl u
      name_added (OfJob job) u = job_added job u

      grows_made : Grows l.matched k
      grows_made = record {
        categories = λ c used. ap (λ (names : Categories). names c) made.2 ∙ keeps c used;
        fresh = name_added;
        addresses = λ a q at.
            ap (λ (names : Naming Step). names.number a) made.1
            ∙ directory_old_numbers accounts (with_next_category s) f m d above at_parent D N at_D_named at_N_named n absent class
            fits (scratch_guard chain i) guard_is (omega (arith, few)) a q
            (ap (λ (names : Naming Step). names.number a) named.1 ∙ at);
      }

      -- The state after all calls of the wrap represents the flat state with the directory and the job's first process, whose wrapper holds the
      -- job, and names keep their numbers.
      pub still_wrapped : RepresentsStill l state_wrapped wrapped
      still_wrapped =
          let later =
          matched_held accounts made_state with_directory k me p here runs room is_declared served stranger
          k_chain k_held C S T k_home k_status k_thread few_born own clearance state_directory beside counted in
          subst (RepresentsStill l state_wrapped) same_flat
          (record {
            represents = record { matched = later.0; jobs_given = jobs_given_then };
            names =
                grows_keeps l.matched later.0 (grows_twice l.matched k later.0 (omega arith) still_used grows_made
                (grows_held accounts made_state with_directory k me p here runs room is_declared served stranger
                k_chain k_held C S T k_home k_status k_thread few_born own clearance state_directory beside counted));
          })
