-- What was noted of categories is right along the lines of a script, and names each category that is used.
use Rattle.std.proofs.Common.{◌≡◌, ◌≢◌, ◌⊎◌, inl, inr, ℕ, ◌+◌, ◌-◌, ◌*◌}
use Rattle.std.proofs.Common.{◌<◌, ◌≤◌, Bool, true, false, ◌||◌}
use Rattle.std.proofs.Common.{List, [], ◌∷◌, ◌++◌, length, map, Option, None, Some}
use Rattle.std.proofs.Common.{arith, ap, refl, sym, ◌∙◌, subst, if◌then◌else◌}
use Rattle.std.specs.Prelude.{◌%◌, ◌/◌, ◌==◌, ◌&&◌, cond, nat_le, nat_lt, slice_get, is_some, option_and_then, option_map}
use Rattle.std.proofs.lemmas.Bool.{true≢false}
use Rattle.std.proofs.lemmas.Bool.Decides.{nat_tests}
use Rattle.std.proofs.lemmas.List.{length-append, length-map}
use Rattle.std.proofs.lemmas.Option.{none-some, same_Some}
use Rattle.histar_flat.specs.declared.calls.UnixCall.{UnixCall}
use Rattle.histar_flat.specs.Words.{ProcName, most_numbers}
use Rattle.histar_flat.specs.Accounts.{Accounts, has}
use Rattle.histar_flat.specs.Classes.{Process, knows}
use Rattle.histar_flat.specs.Classes.Class.{Readable}
use Rattle.histar_flat.specs.Files.{empty}
use Rattle.histar_flat.specs.FlatState.{Flat, IsTree, Node, is_given}
use Rattle.histar_flat.specs.FlatState.Content.{Dir}
use Rattle.histar_flat.specs.FlatCalls.{flat_after}
use Rattle.histar_flat.specs.Meaning.{boot, first_process, first_user}
use Rattle.histar_flat.proofs.FileLemmas.{get_other}
use Rattle.histar_flat.proofs.GivenNames.{next_is_new}
use Rattle.histar_level.specs.Levels.{Levels, level_of}
use Rattle.histar_level.specs.declared.level.Level.{Level}
use Rattle.histar_level.specs.declared.level.Level.TheVariants.{L1, L3}
use Rattle.histar_object.specs.State.{State}
use Rattle.histar_layout.specs.Jobs.{is_three}
use Rattle.histar_layout.specs.Status.{ProcessStatus}
use Rattle.histar_layout.specs.UserTable.{without_password, without_passwords}
use Rattle.histar_layout.proofs.LabelLevels.{at_guarded, guarded_level}
use Rattle.histar_layout.proofs.Members.{is_in}
use Rattle.histar_programs.specs.declared.roots.Home.{Home}
use Rattle.histar_programs.specs.Caller.{is_zero, status_at}
use Rattle.histar_programs.specs.Start.{roots_of, declared}
use Rattle.histar_refinement.specs.Categories.{CategoryName, CategoryName as names, IsUsed, among, boot_category, is_for, same_category}
use Rattle.histar_refinement.specs.Guards.{guard_label}
use Rattle.histar_refinement.specs.Labels.{process_guard}
use Rattle.histar_refinement.specs.KeptNames.{RepresentsStill}
use Rattle.histar_refinement.specs.Represents.{ObjectsMatch, Represents}
use Rattle.histar_refinement.proofs.CallerFound.{where_is, home_is, status_is}
use Rattle.histar_refinement.proofs.CategoryTests.{among_jobs, is_in_names, same_itself}
use Rattle.histar_names.specs.Births.{Births, births_after, births_from, born_with, child_of, last_child, noted, purpose_of}
use Rattle.histar_names.specs.KnownBirths.{NamesBirths, purpose_named}
use Rattle.histar_names.specs.declared.purposes.Purpose.{Purpose}
use Rattle.histar_names.specs.declared.purposes.Purpose.TheVariants.{Boot, Reads, Writes, ReadsProcess, WritesProcess, Job}
use Rattle.histar_names.specs.Laws.{BirthsAreKept, CategoriesAreNamed}
use Rattle.histar_names.specs.Purposes.{boot_purpose, or_else, first_purpose, pair_purpose}
use Rattle.histar_names.specs.Purposes.{owner_in, outer_label, inner_label, has_zero, has_three, job_by, purpose_by}
use Rattle.histar_names.proofs.NamedCategories.{boot_booted, inner_there, outer_there}
use Rattle.histar_names.proofs.NewNames.{HasChild, IsOfChild, new_names}
use Rattle.histar_names.proofs.Remembering.{got_before, got_new, so_many}

-- ---- categories of boot

module _ (accounts : Accounts) where
  abbrev owners : ℕ
  owners = declared (without_passwords accounts)

  most_is : owners ≡ length accounts.users + length accounts.groups
  most_is = ap (λ n. n + length accounts.groups) (length-map accounts.users without_password)

  not_one : (c i : ℕ) → c ≡ 2 + i → (c == 1) ≡ false
  not_one c i is = grind (arith, nat_tests, is)

  in_pairs : (c i b : ℕ) → c ≡ 2 + 2 * i + b → b ≤ 1 → i ≤ owners → (nat_le 2 c && nat_lt c (4 + 2 * owners)) ≡ true
  in_pairs c i b is small le = grind (arith, nat_tests, is, small, le)

  of_pair : (c : ℕ) (p : Purpose) → (c == 1) ≡ false → (nat_le 2 c && nat_lt c (4 + 2 * owners)) ≡ true → pair_purpose c ≡ p
      → boot_purpose owners c ≡ Some p
  of_pair c p one within is =
      ap (λ b. if b then Some Boot else (if nat_le 2 c && nat_lt c (4 + 2 * owners) then Some (pair_purpose c) else first_purpose owners c)) one
      ∙ ap (λ b. if b then Some (pair_purpose c) else first_purpose owners c) within
      ∙ ap Some is

  reads_pair : (c i : ℕ) → c ≡ 2 + 2 * i → pair_purpose c ≡ Reads i
  reads_pair c i is =
      let even : (c % 2) ≡ 0 = omega (arith, is) in
      let half : owner_in c ≡ i = omega (arith, is) in
      ap (λ n. if n == 0 then Reads (owner_in c) else Writes (owner_in c)) even ∙ ap Reads half

  writes_pair : (c i : ℕ) → c ≡ 3 + 2 * i → pair_purpose c ≡ Writes i
  writes_pair c i is =
      let odd : (c % 2) ≡ 1 = omega (arith, is) in
      let half : owner_in c ≡ i = omega (arith, is) in
      ap (λ n. if n == 0 then Reads (owner_in c) else Writes (owner_in c)) odd ∙ ap Writes half

  reads_booted : (c i : ℕ) → c ≡ 2 + 2 * i → i ≤ owners → boot_purpose owners c ≡ Some (Reads i)
  reads_booted c i is le = of_pair c (Reads i) (not_one c (2 * i) is) (in_pairs c i 0 (omega (arith, is)) (omega arith) le) (reads_pair c i is)

  writes_booted : (c i : ℕ) → c ≡ 3 + 2 * i → i ≤ owners → boot_purpose owners c ≡ Some (Writes i)
  writes_booted c i is le =
      of_pair c (Writes i) (not_one c (1 + 2 * i) (omega (arith, is))) (in_pairs c i 1 (omega (arith, is)) (omega arith) le) (writes_pair c i is)

  past_pairs : (c n : ℕ) → c ≡ n + 4 + 2 * owners → boot_purpose owners c ≡ first_purpose owners c
  past_pairs c n is =
      let one : (c == 1) ≡ false = grind (arith, nat_tests, is) in
      let past : (nat_le 2 c && nat_lt c (4 + 2 * owners)) ≡ false = grind (arith, nat_tests, is) in
      ap (λ b. if b then Some Boot else (if nat_le 2 c && nat_lt c (4 + 2 * owners) then Some (pair_purpose c) else first_purpose owners c)) one
      ∙ ap (λ b. if b then Some (pair_purpose c) else first_purpose owners c) past

  held : (b : Bool) (x c : ℕ) → cond b (Some x) None ≡ Some c → (b ≡ true) × (x ≡ c)
  held true x c e = (refl, same_Some x c e)
  held false x c e = absurd (none-some c e)

  within_users : (i : ℕ) → nat_le i (length accounts.users) ≡ true → i ≤ owners
  within_users i le =
      let few : i ≤ length accounts.users = grind (arith, nat_tests, le) in
      let most = most_is in
      omega (arith, few, most)

  within_groups : (k : ℕ) → (nat_le 1 k && nat_le k (length accounts.groups)) ≡ true → length accounts.users + k ≤ owners
  within_groups k le =
      let few : k ≤ length accounts.groups = grind (arith, nat_tests, le) in
      let most = most_is in
      omega (arith, few, most)

  -- the number that boot gave to a category tells what it is for
  boot_known : (name : CategoryName) (c : ℕ) → boot_category accounts name ≡ Some c
      → boot_purpose owners c ≡ Some (purpose_named accounts name)
  boot_known names.OfBoot c e = ap (boot_purpose owners) (sym (same_Some 1 c e))
  boot_known (names.ReadsUser i) c e =
      let h = held (nat_le i (length accounts.users)) (2 + 2 * i) c e in
      reads_booted c i (sym h.1) (within_users i h.0)
  boot_known (names.WritesUser i) c e =
      let h = held (nat_le i (length accounts.users)) (3 + 2 * i) c e in
      writes_booted c i (sym h.1) (within_users i h.0)
  boot_known (names.ReadsGroup k) c e =
      let h = held (nat_le 1 k && nat_le k (length accounts.groups)) (2 + 2 * length accounts.users + 2 * k) c e in
      reads_booted c (length accounts.users + k) (omega (arith, h.1)) (within_groups k h.0)
  boot_known (names.WritesGroup k) c e =
      let h = held (nat_le 1 k && nat_le k (length accounts.groups)) (3 + 2 * length accounts.users + 2 * k) c e in
      writes_booted c (length accounts.users + k) (omega (arith, h.1)) (within_groups k h.0)
  boot_known (names.ReadsProcess []) c e =
      let is = same_Some (4 + 2 * length accounts.users + 2 * length accounts.groups) c e in
      let most = most_is in
      let equal : (c == (4 + 2 * owners)) ≡ true = grind (arith, nat_tests, is, most) in
      past_pairs c 0 (omega (arith, is, most))
      ∙ ap (λ b. if b then Some (ReadsProcess []) else (if c == (5 + 2 * owners) then Some (WritesProcess []) else None)) equal
  boot_known (names.WritesProcess []) c e =
      let is = same_Some (5 + 2 * length accounts.users + 2 * length accounts.groups) c e in
      let most = most_is in
      let other : (c == (4 + 2 * owners)) ≡ false = grind (arith, nat_tests, is, most) in
      let equal : (c == (5 + 2 * owners)) ≡ true = grind (arith, nat_tests, is, most) in
      past_pairs c 1 (omega (arith, is, most))
      ∙ ap (λ b. if b then Some (ReadsProcess []) else (if c == (5 + 2 * owners) then Some (WritesProcess []) else None)) other
      ∙ ap (λ b. if b then Some (WritesProcess []) else None) equal
  boot_known (names.ReadsProcess (n ∷ me)) c e = absurd (none-some c e)
  boot_known (names.WritesProcess (n ∷ me)) c e = absurd (none-some c e)
  boot_known (names.OfJob job) c e = absurd (none-some c e)

-- ---- categories that are used

pub categories_are_named : CategoriesAreNamed
categories_are_named births accounts s f known name used = by (boot_category accounts name) refl
  where
    not_of_boot : boot_category accounts name ≡ None → (o : Option Purpose)
        → boot_purpose (owners accounts) (known.represents.matched.category name) ≡ o → o ≡ None
    not_of_boot other None e = refl
    not_of_boot other (Some p) e =
        let found = boot_booted accounts s f known.represents.matched (known.represents.matched.category name) p e in
        let made = known.represents.matched.as_made found.0 (known.represents.matched.category name) found.1 in
        let same = known.represents.matched.different found.0 name made in
        absurd (none-some (known.represents.matched.category name) (sym other ∙ ap (boot_category accounts) (sym same) ∙ found.1))

    by : (o : Option ℕ) → boot_category accounts name ≡ o
        → purpose_of (without_passwords accounts) births (known.represents.matched.category name) ≡ Some (purpose_named accounts name)
    by (Some q) e =
        ap (purpose_of (without_passwords accounts) births) (known.represents.matched.as_made name q e)
        ∙ ap (λ (o : Option Purpose). or_else o (noted births q)) (boot_known accounts name q e)
    by None e =
        ap (λ (o : Option Purpose). or_else o (noted births (known.represents.matched.category name)))
        (not_of_boot e (boot_purpose (owners accounts) (known.represents.matched.category name)) refl)
        ∙ ap (option_and_then (λ (birth : Option Purpose). birth)) (known.noted name used e)

-- ---- one line

-- no job is the secret of a process
no_job : (jobs : List ProcName) (q : ProcName) → among (map names.OfJob jobs) (names.ReadsProcess q) ≡ false
no_job [] q = refl
no_job (j ∷ jobs) q = no_job jobs q

module _ (accounts : Accounts) (t : State) (g : Flat) (l : ObjectsMatch accounts t g) where
  abbrev first : Home
  first = (roots_of (length accounts.users)).home

  -- ---- the levels of names in the labels of the containers of a process

  outer_levels : (q : ProcName) (p : Process) → g.processes q ≡ Some p
      → (name : CategoryName) (test : Option Levels → ℕ → Bool) (is : Level → Bool)
      → ((L : Levels) (c : ℕ) → test (Some L) c ≡ is (level_of L c))
      → test (outer_label t first q) (l.category name)
      ≡ is (guarded_level (among (map names.OfJob p.chain) name) (among (names.WritesProcess q ∷ []) name))
  outer_levels q p here name test is at =
      ap (λ (L : Option Levels). test L (l.category name)) (outer_there accounts t g l q p here)
      ∙ at (guard_label l.category (process_guard q p)) (l.category name)
      ∙ ap is (at_guarded (map l.category (map names.OfJob p.chain)) (l.category (names.WritesProcess q) ∷ []) (l.category name))
      ∙ (λ i. is (guarded_level (is_in_names l.category l.different (map names.OfJob p.chain) name i)
      (is_in_names l.category l.different (names.WritesProcess q ∷ []) name i)))

  zero_outside : (q : ProcName) (p : Process) → g.processes q ≡ Some p → (name : CategoryName)
      → has_zero (outer_label t first q) (l.category name)
      ≡ is_zero (guarded_level (among (map names.OfJob p.chain) name) (among (names.WritesProcess q ∷ []) name))
  zero_outside q p here name = outer_levels q p here name has_zero is_zero (λ L c. refl)

  three_outside : (q : ProcName) (p : Process) → g.processes q ≡ Some p → (name : CategoryName)
      → has_three (outer_label t first q) (l.category name)
      ≡ is_three (guarded_level (among (map names.OfJob p.chain) name) (among (names.WritesProcess q ∷ []) name))
  three_outside q p here name = outer_levels q p here name has_three is_three (λ L c. refl)

  three_inside : (q : ProcName) (p : Process) → g.processes q ≡ Some p → p.exited ≡ None → (name : CategoryName)
      → has_three (inner_label t first q) (l.category name)
      ≡ is_three (guarded_level (among (names.ReadsProcess q ∷ map names.OfJob p.chain) name) (among (names.WritesProcess q ∷ []) name))
  three_inside q p here runs name =
      ap (λ (L : Option Levels). has_three L (l.category name)) (inner_there accounts t g l q p here runs)
      ∙ ap is_three (at_guarded (map l.category (names.ReadsProcess q ∷ map names.OfJob p.chain)) (l.category (names.WritesProcess q) ∷ [])
      (l.category name))
      ∙ (λ i. is_three (guarded_level (is_in_names l.category l.different (names.ReadsProcess q ∷ map names.OfJob p.chain) name i)
      (is_in_names l.category l.different (names.WritesProcess q ∷ []) name i)))

  -- ---- what they say of the categories of a process

  -- of a category that isn't the one by which a process writes
  not_written : (q : ProcName) (p : Process) → g.processes q ≡ Some p → (name : CategoryName) (secret : Bool)
      → among (map names.OfJob p.chain) name ≡ secret → among (names.WritesProcess q ∷ []) name ≡ false
      → purpose_by t first (l.category name) q
      ≡ (if secret then job_by t first (l.category name) q
      else (if has_three (inner_label t first q) (l.category name) then Some (ReadsProcess q) else None))
  not_written q p here name secret is other =
      let c = l.category name in
      let level : guarded_level (among (map names.OfJob p.chain) name) (among (names.WritesProcess q ∷ []) name) ≡ (if secret then L3 else L1) =
      (λ i. guarded_level (is i) (other i)) in
      let inner : Option Purpose = if has_three (inner_label t first q) c then Some (ReadsProcess q) else None in
      ap (λ b. if b then Some (WritesProcess q) else (if has_three (outer_label t first q) c then job_by t first c q else inner))
      (zero_outside q p here name ∙ ap is_zero level ∙ zero_never secret)
      ∙ ap (λ b. if b then job_by t first c q else inner) (three_outside q p here name ∙ ap is_three level ∙ three_if secret)
    where
      zero_never : (b : Bool) → is_zero (if b then L3 else L1) ≡ false
      zero_never true = refl
      zero_never false = refl

      three_if : (b : Bool) → is_three (if b then L3 else L1) ≡ b
      three_if true = refl
      three_if false = refl

  writes_named : (q : ProcName) (p : Process) → g.processes q ≡ Some p
      → purpose_by t first (l.category (names.WritesProcess q)) q ≡ Some (WritesProcess q)
  writes_named q p here =
      let c = l.category (names.WritesProcess q) in
      let own : among (names.WritesProcess q ∷ []) (names.WritesProcess q) ≡ true = ap (λ b. b || false) (same_itself (names.WritesProcess q)) in
      let rest : Option Purpose = if has_three (outer_label t first q) c then job_by t first c q
      else (if has_three (inner_label t first q) c then Some (ReadsProcess q) else None) in
      ap (λ b. if b then Some (WritesProcess q) else rest)
      (zero_outside q p here (names.WritesProcess q)
      ∙ ap (λ w. is_zero (guarded_level (among (map names.OfJob p.chain) (names.WritesProcess q)) w)) own)

  reads_named : (q : ProcName) (p : Process) → g.processes q ≡ Some p → p.exited ≡ None
      → purpose_by t first (l.category (names.ReadsProcess q)) q ≡ Some (ReadsProcess q)
  reads_named q p here runs =
      let own : among (names.ReadsProcess q ∷ map names.OfJob p.chain) (names.ReadsProcess q) ≡ true =
      ap (λ b. b || among (map names.OfJob p.chain) (names.ReadsProcess q)) (same_itself (names.ReadsProcess q)) in
      not_written q p here (names.ReadsProcess q) false (no_job p.chain q) refl
      ∙ ap (λ b. if b then Some (ReadsProcess q) else None)
      (three_inside q p here runs (names.ReadsProcess q) ∙ ap (λ s. is_three (guarded_level s false)) own)

  -- a job is named by the process that is in it and whose parent isn't
  job_named : (n : ℕ) (above : ProcName) (p parent : Process) → g.processes (n ∷ above) ≡ Some p → g.processes above ≡ Some parent
      → has p.chain (n ∷ above) ≡ true → has parent.chain (n ∷ above) ≡ false
      → purpose_by t first (l.category (names.OfJob (n ∷ above))) (n ∷ above) ≡ Some (Job (n ∷ above))
  job_named n above p parent here there inside outside =
      let name = names.OfJob (n ∷ above) in
      not_written (n ∷ above) p here name true (among_jobs p.chain (n ∷ above) ∙ inside) refl
      ∙ ap (λ b. if b then None else Some (Job (n ∷ above)))
      (three_outside above parent there name
      ∙ ap (λ s. is_three (guarded_level s false)) (among_jobs parent.chain (n ∷ above) ∙ outside))

-- what a line leaves of what was noted, and what is noted after it
module _ (births : Births) (accounts : Accounts) (s t : State) (f : Flat) (tree : IsTree f) (known : NamesBirths births accounts s f)
    (me : ProcName) (call : UnixCall) (still : RepresentsStill known.represents t (flat_after accounts f me call))
    (up : s.next_category ≤ t.next_category) where
  abbrev g : Flat
  g = flat_after accounts f me call

  abbrev l : ObjectsMatch accounts t g
  l = still.represents.matched

  abbrev home : Home
  home = (roots_of (length accounts.users)).home

  abbrev after : Births
  after = births_after t (roots_of (length accounts.users)) me births

  -- the last child of the process
  last_is : (p : Process) → f.processes me ≡ Some p → (q : ProcName) → HasChild me p g q → last_child t home me ≡ Some q
  last_is p here q child =
      ap (option_and_then (λ (at : Home). option_and_then (λ (status : ProcessStatus). child_of me status.born) (status_at t at.segment)))
      (home_is accounts t g l me ∙ ap (option_map (λ (x : Process). where_is accounts t g l me)) child.there)
      ∙ ap (option_and_then (λ (status : ProcessStatus). child_of me status.born)) (status_is accounts t g l me child.now child.there)
      ∙ ap (child_of me) child.born
      ∙ ap (λ (b : Bool). if b then Some ((p.born + 1) ∷ me) else None) child.short
      ∙ ap Some (sym child.is)

  -- the child's name was not given
  new_name : (p : Process) → f.processes me ≡ Some p → (q : ProcName) → HasChild me p g q → is_given f.processes q ≡ true → ⊥
  new_name p here q child given = true≢false (sym given ∙ ap (is_given f.processes) child.is ∙ next_is_new f me p here)

  -- no name of a category of the child was used
  unused : (p : Process) → f.processes me ≡ Some p → (name : CategoryName) → IsOfChild me p g name → IsUsed accounts f name → ⊥
  unused p here (names.ReadsProcess q) child used = new_name p here q child (known.represents.matched.processes_given q used)
  unused p here (names.WritesProcess q) child used = new_name p here q child (known.represents.matched.processes_given q used)
  unused p here (names.OfJob q) child used = new_name p here q child.0 (known.represents.jobs_given q used)
  unused p here names.OfBoot child used = child
  unused p here (names.ReadsUser i) child used = child
  unused p here (names.WritesUser i) child used = child
  unused p here (names.ReadsGroup k) child used = child
  unused p here (names.WritesGroup k) child used = child

  -- a job of the child is not the process's
  not_in_job : (p : Process) → f.processes me ≡ Some p → (q : ProcName) → (child : HasChild me p g q) → has child.now.chain q ≡ false
  not_in_job p here q child = by (has p.chain q) refl
    where
      by : (b : Bool) → has p.chain q ≡ b → has child.now.chain q ≡ false
      by false e = ap (λ jobs. has jobs q) child.same_jobs ∙ e
      by true e =
          absurd (new_name p here q child (known.represents.jobs_given q (inl (me, p, here, ap (λ b. b || has p.held q) e))))

  -- each category of the child is named at the child
  at_child : (p : Process) → f.processes me ≡ Some p → (name : CategoryName) → IsOfChild me p g name
      → born_with t home (last_child t home me) (l.category name) ≡ Some (purpose_named accounts name)
  at_child p here (names.ReadsProcess q) child =
      ap (λ (o : Option ProcName). born_with t home o (l.category (names.ReadsProcess q))) (last_is p here q child)
      ∙ reads_named accounts t g l q child.newborn child.runs child.running
  at_child p here (names.WritesProcess q) child =
      ap (λ (o : Option ProcName). born_with t home o (l.category (names.WritesProcess q))) (last_is p here q child)
      ∙ writes_named accounts t g l q child.newborn child.runs
  at_child p here (names.OfJob q) child =
      ap (λ (o : Option ProcName). born_with t home o (l.category (names.OfJob q))) (last_is p here q child.0)
      ∙ subst (λ (x : ProcName). purpose_by t home (l.category (names.OfJob x)) x ≡ Some (Job x)) (sym child.0.is)
      (job_named accounts t g l (p.born + 1) me child.0.newborn child.0.now
      (ap g.processes (sym child.0.is) ∙ child.0.runs) child.0.there
      (ap (has child.0.newborn.chain) (sym child.0.is) ∙ child.1)
      (ap (has child.0.now.chain) (sym child.0.is) ∙ not_in_job p here q child.0))
  at_child p here names.OfBoot child = absurd child
  at_child p here (names.ReadsUser i) child = absurd child
  at_child p here (names.WritesUser i) child = absurd child
  at_child p here (names.ReadsGroup k) child = absurd child
  at_child p here (names.WritesGroup k) child = absurd child

  noted_then : (name : CategoryName) → IsUsed accounts g name → boot_category accounts name ≡ None
      → slice_get after (l.category name) ≡ Some (Some (purpose_named accounts name))
  noted_then name used other = elim (new_names accounts f tree me call name used) [
    | inl before ↦
        subst (λ (c : ℕ). slice_get after c ≡ Some (Some (purpose_named accounts name))) (sym (still.names.categories name before used))
        (got_before births _ _ _ (known.noted name before other))
    | inr (p, here, child) ↦
        let fresh = still.names.fresh name (unused p here name child) used in
        let made = (l.made name used).1 in
        let few = known.few in
        got_new (born_with t home (last_child t home me)) births t.next_category (l.category name) (omega (arith, few, fresh)) made
        ∙ ap Some (at_child p here name child)
  ]

  kept : NamesBirths after accounts t g
  kept = record {
    represents = still.represents;
    noted = noted_then;
    few =
        let more = length-append births (births_from (born_with t home (last_child t home me)) (length births) (t.next_category - length births)) in
        let many = so_many (born_with t home (last_child t home me)) (length births) (t.next_category - length births) in
        let few = known.few in
        omega (arith, few, up, more, many);
  }

pub births_are_kept : BirthsAreKept
unfolding kept
births_are_kept births accounts s t f tree known me call still up = (kept births accounts s t f tree known me call still up, refl)

-- ---- the start

module _ (accounts : Accounts) where
  abbrev slash : Node
  slash = record { class = Readable (first_user accounts.users); content = Dir }

  no_jobs : (job : ProcName) → IsUsed accounts (boot accounts) (names.OfJob job) → ⊥
  no_jobs job (inl ([], p, e, k)) =
      let found : Some first_process ≡ Some p = e in
      let one : first_process ≡ p = cc in
      true≢false (sym k ∙ ap (λ x. knows x job) (sym one))
  no_jobs job (inl (n ∷ q, p, e, k)) = let gone : None ≡ Some p = e in absurd cc
  no_jobs job (inr ([], n, e, c)) =
      let found : Some slash ≡ Some n = e in
      let one : slash ≡ n = cc in
      true≢false (sym c ∙ ap (λ (x : Node). is_for x.class job) (sym one))
  no_jobs job (inr (m ∷ d, n, e, c)) =
      let gone : None ≡ Some n = sym (get_other empty [] slash (m ∷ d) (λ h. cc)) ∙ e in absurd cc

  -- boot made each category that is used at the start
  booted_at_start : (name : CategoryName) → IsUsed accounts (boot accounts) name → boot_category accounts name ≡ None → ⊥
  booted_at_start names.OfBoot used none = absurd cc
  booted_at_start (names.ReadsUser i) used none =
      absurd (none-some (2 + 2 * i) (sym none ∙ ap (λ b. cond b (Some (2 + 2 * i)) None) (small i used)))
    where
      small : (i : ℕ) → i ≤ length accounts.users → nat_le i (length accounts.users) ≡ true
      small i le = grind (arith, nat_tests, le)
  booted_at_start (names.WritesUser i) used none =
      absurd (none-some (3 + 2 * i) (sym none ∙ ap (λ b. cond b (Some (3 + 2 * i)) None) (small i used)))
    where
      small : (i : ℕ) → i ≤ length accounts.users → nat_le i (length accounts.users) ≡ true
      small i le = grind (arith, nat_tests, le)
  booted_at_start (names.ReadsGroup k) used none =
      absurd (none-some (2 + 2 * length accounts.users + 2 * k) (sym none
      ∙ ap (λ b. cond b (Some (2 + 2 * length accounts.users + 2 * k)) None) (within k used.0 used.1)))
    where
      within : (k : ℕ) → 1 ≤ k → k ≤ length accounts.groups → (nat_le 1 k && nat_le k (length accounts.groups)) ≡ true
      within k low high = grind (arith, nat_tests, low, high)
  booted_at_start (names.WritesGroup k) used none =
      absurd (none-some (3 + 2 * length accounts.users + 2 * k) (sym none
      ∙ ap (λ b. cond b (Some (3 + 2 * length accounts.users + 2 * k)) None) (within k used.0 used.1)))
    where
      within : (k : ℕ) → 1 ≤ k → k ≤ length accounts.groups → (nat_le 1 k && nat_le k (length accounts.groups)) ≡ true
      within k low high = grind (arith, nat_tests, low, high)
  booted_at_start (names.ReadsProcess []) used none = absurd cc
  booted_at_start (names.WritesProcess []) used none = absurd cc
  booted_at_start (names.ReadsProcess (n ∷ me)) used none = absurd (true≢false (sym used))
  booted_at_start (names.WritesProcess (n ∷ me)) used none = absurd (true≢false (sym used))
  booted_at_start (names.OfJob job) used none = no_jobs job used

  -- where nothing was noted at the start, that is right
  pub births_at_start : (s : State) → Represents accounts s (boot accounts) → NamesBirths [] accounts s (boot accounts)
  births_at_start s represents = record {
    represents = represents;
    noted = λ name used other. absurd (booted_at_start name used other);
    few = omega arith;
  }

  -- and the state represents the flat state as before
  pub represented_at_start : (s : State) (represents : Represents accounts s (boot accounts))
      → (births_at_start s represents).represents ≡ represents
  unfolding births_at_start
  represented_at_start s represents = refl
