-- In a state that represents a flat state the purpose given for a category is its purpose.
use Rattle.std.proofs.Common.{◌≡◌, ℕ, ◌+◌, ◌*◌, ◌-◌, ◌%◌, ◌<◌, ◌≤◌, ◌==◌}
use Rattle.std.proofs.Common.{Bool, true, false, ◌&&◌, ◌||◌, cond, List, [], ◌∷◌, length, Option, None}
use Rattle.std.proofs.Common.{Some, refl, sym, ap, ◌∙◌, subst, inl, inr, if◌then◌else◌, arith}
use Rattle.std.specs.Prelude.{map, not, nat_le, nat_lt, is_some, option_map, option_and_then, slice_get}
use Rattle.std.proofs.lemmas.Bool.{true≢false}
use Rattle.std.proofs.lemmas.Bool.Decides.{nat_tests}
use Rattle.std.proofs.lemmas.List.{length-map}
use Rattle.std.proofs.lemmas.Option.{none-some, same_Some}
use Rattle.std.proofs.Math.Bool.{or-false}
use Rattle.histar_flat.specs.Words.{ProcName}
use Rattle.histar_flat.specs.Accounts.{Accounts, has}
use Rattle.histar_flat.specs.Classes.{Process}
use Rattle.histar_flat.specs.FlatState.{Flat}
use Rattle.histar_level.specs.Levels.{Levels}
use Rattle.histar_object.specs.Objects.{label_there}
use Rattle.histar_object.specs.State.{State}
use Rattle.histar_layout.specs.Jobs.{is_three}
use Rattle.histar_layout.specs.Status.{ProcessStatus}
use Rattle.histar_layout.specs.UserTable.{without_password, without_passwords}
use Rattle.histar_layout.proofs.LabelLevels.{at_guarded, guarded_level}
use Rattle.histar_layout.proofs.Members.{is_in}
use Rattle.histar_programs.specs.declared.roots.Home.{Home as Where}
use Rattle.histar_programs.specs.declared.roots.Roots.{Roots}
use Rattle.histar_programs.specs.Start.{roots_of, declared}
use Rattle.histar_programs.specs.Caller.{if_runs, is_zero, status_at}
use Rattle.histar_refinement.specs.Addresses.{same_step, home_address}
use Rattle.histar_refinement.specs.Addresses.Step.{Inside, Runner}
use Rattle.histar_refinement.specs.Categories.{CategoryName, CategoryName as names, IsUsed, among, boot_category}
use Rattle.histar_refinement.proofs.Expected.{home_object, inside_object, expected}
use Rattle.histar_refinement.specs.Guards.{guard_label}
use Rattle.histar_refinement.specs.Labels.{process_guard, inside_guard}
use Rattle.histar_refinement.specs.Represents.{ObjectsMatch}
use Rattle.histar_refinement.specs.Processes.{or_zero}
use Rattle.histar_refinement.proofs.CallerFound.{is_or_zero, where_is, status_is, home_is}
use Rattle.histar_refinement.proofs.CategoryTests.{among_jobs, category_tests_equality, is_in_names, named_in}
use Rattle.histar_refinement.proofs.FileLabels.{label_bare}
use Rattle.histar_refinement.proofs.Moving.{at_number}
use Rattle.histar_refinement.proofs.Roots.{asked_home, asked_inside}
use Rattle.histar_refinement.proofs.StatusFound.{numbered_home, numbered_runner}
use Rattle.histar_refinement.proofs.Steps.{step_tests_equality}
use Rattle.histar_names.specs.Births.{Births, born_with, last_child}
use Rattle.histar_names.specs.declared.purposes.Purpose.{Purpose}
use Rattle.histar_names.specs.declared.purposes.Purpose.TheVariants.{Reads, Writes, ReadsProcess, WritesProcess, Job}
use Rattle.histar_names.specs.Purposes.{owner_in, pair_purpose, first_purpose, boot_purpose, outer_label, inner_label, has_zero, has_three, job_by}
use Rattle.histar_names.specs.Purposes.{purpose_by}
use Rattle.histar_names.specs.Laws.{IsPurposeOf, PurposesAreRight}
use Rattle.histar_names.proofs.Parts.{either_there, step_there, tested, both}
use Rattle.histar_names.proofs.Remembering.{new_note}
use Rattle.histar_refinement.proofs.Agreement.{agreement}

-- ---- levels of what is guarded

zero_written : (s w : Bool) → is_zero (guarded_level s w) ≡ true → w ≡ true
zero_written s true e = refl
zero_written true false e = absurd (true≢false (sym e))
zero_written false false e = absurd (true≢false (sym e))

three_secret : (s w : Bool) → is_three (guarded_level s w) ≡ true → (s ≡ true) × (w ≡ false)
three_secret s true e = absurd (true≢false (sym e))
three_secret true false e = (refl, refl)
three_secret false false e = absurd (true≢false (sym e))

not_three : (s w : Bool) → not (is_three (guarded_level s w)) ≡ true → w ≡ false → s ≡ false
not_three true true e none = absurd (true≢false none)
not_three true false e none = absurd (true≢false (sym e))
not_three false w e none = refl

only_one : (w d : ℕ) → is_in (w ∷ []) d ≡ true → d ≡ w
only_one w d e = grind (arith, nat_tests, or-false (d == w), e)

first_or : (r d : ℕ) (b : Bool) → ((d == r) || b) ≡ true → b ≡ false → d ≡ r
first_or r d true e no_more = absurd (true≢false no_more)
first_or r d false e no_more = grind (arith, nat_tests, or-false (d == r), e)

-- a name among those of jobs is that of a job
which_job : (jobs : List ProcName) (n : CategoryName) → among (map names.OfJob jobs) n ≡ true → (job : ProcName) × (n ≡ names.OfJob job)
which_job [] name e = absurd (true≢false (sym e))
which_job (j ∷ jobs) name e = elim (category_tests_equality name (names.OfJob j)) [
  | inl k ↦ (j, k.1)
  | inr k ↦ which_job jobs name (sym (ap (λ b. b || among (map names.OfJob jobs) name) k.0) ∙ e)
]

module _ (accounts : Accounts) (s : State) (f : Flat) (l : ObjectsMatch accounts s f) where
  abbrev roots : Roots
  roots = roots_of (length accounts.users)

  abbrev first : Where
  first = roots.home

  abbrev there_is : ProcName → Where
  there_is me = where_is accounts s f l me

  -- the category of a name that is used, of which the purpose is right
  abbrev Named : ℕ → Purpose → Type 0
  Named c purpose = (name : CategoryName) × (l.category name ≡ c) × IsUsed accounts f name × IsPurposeOf accounts f name purpose

  -- ---- the labels of the containers of processes

  pub outer_there : (me : ProcName) (p : Process) → f.processes me ≡ Some p
      → outer_label s first me ≡ Some (guard_label l.category (process_guard me p))
  outer_there me p here =
      ap (option_and_then (λ (home : Where). label_there (s.objects home.container)))
      (home_is accounts s f l me ∙ ap (option_map (λ (q : Process). there_is me)) here)
      ∙ sym (label_bare (s.objects (there_is me).container))
      ∙ ap label_there (at_number same_step step_tests_equality s l.naming (expected accounts l.category f l.naming.number) (agreement l)
      (home_address me) (there_is me).container
      (is_or_zero _ (numbered_home accounts s f l me ∙ ap is_some here)))
      ∙ ap label_there (asked_home accounts l.category f l.naming.number me ∙ ap (home_object accounts l.category me) here)

  outer_absent : (me : ProcName) → f.processes me ≡ None → outer_label s first me ≡ None
  outer_absent me none =
      ap (option_and_then (λ (home : Where). label_there (s.objects home.container)))
      (home_is accounts s f l me ∙ ap (option_map (λ (q : Process). there_is me)) none)

  abbrev of_status : ProcessStatus → Option Levels
  of_status status = if_runs status.exited (label_there (s.objects status.internal))

  abbrev of_home : Where → Option Levels
  of_home home = option_and_then of_status (status_at s home.segment)

  inner_revealed : (me : ProcName) (p : Process) → f.processes me ≡ Some p
      → inner_label s first me
      ≡ if_runs p.exited (label_there (s.objects (or_zero (l.naming.number (Inside ∷ home_address me)))))
  inner_revealed me p here =
      ap (option_and_then of_home) (home_is accounts s f l me ∙ ap (option_map (λ (q : Process). there_is me)) here)
      ∙ ap (option_and_then of_status) (status_is accounts s f l me p here)

  inner_absent : (me : ProcName) → f.processes me ≡ None → inner_label s first me ≡ None
  inner_absent me none = ap (option_and_then of_home) (home_is accounts s f l me ∙ ap (option_map (λ (q : Process). there_is me)) none)

  pub inner_there : (me : ProcName) (p : Process) → f.processes me ≡ Some p → p.exited ≡ None
      → inner_label s first me ≡ Some (guard_label l.category (inside_guard me p))
  inner_there me p here runs =
      let inside = (agreement l).tree.held Runner (Inside ∷ home_address me) (numbered_runner accounts s f l me p here runs) in
      inner_revealed me p here
      ∙ ap (λ (e : Option ℕ). if_runs e (label_there (s.objects (or_zero (l.naming.number (Inside ∷ home_address me)))))) runs
      ∙ sym (label_bare (s.objects (or_zero (l.naming.number (Inside ∷ home_address me)))))
      ∙ ap label_there (at_number same_step step_tests_equality s l.naming (expected accounts l.category f l.naming.number) (agreement l)
      (Inside ∷ home_address me) (or_zero (l.naming.number (Inside ∷ home_address me))) (is_or_zero _ inside))
      ∙ ap label_there (asked_inside accounts l.category f l.naming.number me ∙ ap (inside_object accounts l.category me) here)
      ∙ ap (λ (e : Option ℕ). label_there (inside_object accounts l.category me (Some (record p { exited = e })))) runs

  -- ---- what they say

  abbrev jobs_of : Process → List ℕ
  jobs_of p = map l.category (map names.OfJob p.chain)

  abbrev own : ProcName → ℕ
  own me = l.category (names.WritesProcess me)

  -- the category at 0 is the one by which the process writes
  zero_named : (me : ProcName) (c : ℕ) → has_zero (outer_label s first me) c ≡ true → Named c (WritesProcess me)
  zero_named me c e = by (f.processes me) refl
    where
      by : (o : Option Process) → f.processes me ≡ o → Named c (WritesProcess me)
      by None is = absurd (true≢false (sym e ∙ ap (λ (L : Option Levels). has_zero L c) (outer_absent me is)))
      by (Some p) is =
          let same =
          sym (ap is_zero (at_guarded (jobs_of p) (own me ∷ []) c))
          ∙ sym (ap (λ (L : Option Levels). has_zero L c) (outer_there me p is)) ∙ e in
          (names.WritesProcess me, sym (only_one (own me) c (zero_written (is_in (jobs_of p) c) (is_in (own me ∷ []) c) same)), ap is_some is, refl)

  -- what an outer label has at 3 is a job of the process
  three_outside : (me : ProcName) (p : Process) (c : ℕ) → f.processes me ≡ Some p
      → has_three (outer_label s first me) c ≡ true → is_in (jobs_of p) c ≡ true
  three_outside me p c is e =
      let level =
      sym (ap is_three (at_guarded (jobs_of p) (own me ∷ []) c))
      ∙ sym (ap (λ (L : Option Levels). has_three L c) (outer_there me p is)) ∙ e in
      (three_secret (is_in (jobs_of p) c) (is_in (own me ∷ []) c) level).0

  -- a category that the container hasn't at 3 gives no purpose, if the process doesn't write by it
  not_outside : (me : ProcName) (p : Process) (c : ℕ) → f.processes me ≡ Some p
      → not (has_three (outer_label s first me) c) ≡ true → is_in (own me ∷ []) c ≡ false → is_in (jobs_of p) c ≡ false
  not_outside me p c is e other =
      let level =
      sym (ap (λ b. not (is_three b)) (at_guarded (jobs_of p) (own me ∷ []) c))
      ∙ sym (ap (λ (L : Option Levels). not (has_three L c)) (outer_there me p is)) ∙ e in
      not_three (is_in (jobs_of p) c) (is_in (own me ∷ []) c) level other

  -- the category at 3 inside and not outside is the one by which the process keeps its secrets
  secret_named : (me : ProcName) (c : ℕ) → has_three (inner_label s first me) c ≡ true
      → has_three (outer_label s first me) c ≡ false → Named c (ReadsProcess me)
  secret_named me c inside outside = by (f.processes me) refl
    where
      parts : (has_three (inner_label s first me) c ≡ true) × (not (has_three (outer_label s first me) c) ≡ true)
      parts = (inside, ap not outside)

      of_life : (p : Process) → f.processes me ≡ Some p → (x : Option ℕ) → p.exited ≡ x → Named c (ReadsProcess me)
      of_life p is (Some n) exited =
          absurd (true≢false (sym parts.0
          ∙ ap (λ (L : Option Levels). has_three L c) (inner_revealed me p is
          ∙ ap (λ (x : Option ℕ). if_runs x (label_there
          (s.objects (or_zero (l.naming.number (Inside ∷ home_address me))))))
          exited)))
      of_life p is None runs =
          let r = l.category (names.ReadsProcess me) in
          let level =
          sym (ap is_three (at_guarded (r ∷ jobs_of p) (own me ∷ []) c))
          ∙ sym (ap (λ (L : Option Levels). has_three L c) (inner_there me p is runs)) ∙ parts.0 in
          let secret = three_secret (is_in (r ∷ jobs_of p) c) (is_in (own me ∷ []) c) level in
          (names.ReadsProcess me, sym (first_or r c (is_in (jobs_of p) c) secret.0 (not_outside me p c is parts.1 secret.1)), ap is_some is, refl)

      by : (o : Option Process) → f.processes me ≡ o → Named c (ReadsProcess me)
      by None is = absurd (true≢false (sym parts.0 ∙ ap (λ (L : Option Levels). has_three L c) (inner_absent me is)))
      by (Some p) is = of_life p is p.exited refl

  -- the category at 3 outside, and not outside the process above, is a job that begins there
  job_begun : (n : ℕ) (above : ProcName) (c : ℕ) → has_three (outer_label s first (n ∷ above)) c ≡ true
      → has_three (outer_label s first above) c ≡ false → Named c (Job (n ∷ above))
  job_begun n above c in_it begins = by (f.processes (n ∷ above)) refl
    where
      parts : (has_three (outer_label s first (n ∷ above)) c ≡ true) × (not (has_three (outer_label s first above) c) ≡ true)
      parts = (in_it, ap not begins)

      by : (o : Option Process) → f.processes (n ∷ above) ≡ o → Named c (Job (n ∷ above))
      by None is = absurd (true≢false (sym parts.0 ∙ ap (λ (L : Option Levels). has_three L c) (outer_absent (n ∷ above) is)))
      by (Some p) is =
          let found = named_in l.category (map names.OfJob p.chain) c (three_outside (n ∷ above) p c is parts.0) in
          let job = which_job p.chain found.0 found.2 in
          let at : l.category (names.OfJob job.0) ≡ c = ap l.category (sym job.1) ∙ sym found.1 in
          let inside : has p.chain job.0 ≡ true = sym (among_jobs p.chain job.0) ∙ ap (among (map names.OfJob p.chain)) (sym job.1) ∙ found.2 in
          let other : (parent : Process) → f.processes above ≡ Some parent → has parent.chain job.0 ≡ false = λ parent there.
          let apart : is_in (own above ∷ []) c ≡ false =
          ap (is_in (own above ∷ [])) (sym at)
          ∙ is_in_names l.category l.different (names.WritesProcess above ∷ []) (names.OfJob job.0) in
          sym (among_jobs parent.chain job.0)
          ∙ sym (is_in_names l.category l.different (map names.OfJob parent.chain) (names.OfJob job.0))
          ∙ ap (is_in (jobs_of parent)) at ∙ not_outside above parent c there parts.1 apart in (
            names.OfJob job.0,
            at,
            inl (n ∷ above, p, is, knows_inside p job.0 inside),
            (job.0, n, above, refl, refl, record { process = p; there = is; inside = inside; outside = other }),
          )
        where
          knows_inside : (p : Process) (job : ProcName) → has p.chain job ≡ true → (has p.chain job || has p.held job) ≡ true
          knows_inside p job e = ap (λ b. b || has p.held job) e

  job_named : (me : ProcName) (c : ℕ) (purpose : Purpose) → has_three (outer_label s first me) c ≡ true
      → job_by s first c me ≡ Some purpose → Named c purpose
  job_named [] c purpose inside e = absurd (none-some purpose e)
  job_named (n ∷ above) c purpose inside e = elim (tested (has_three (outer_label s first above) c) _ _ purpose e) [
    | inl none ↦ absurd (none-some purpose none.1)
    | inr begins ↦ subst (Named c) (same_Some _ _ begins.1) (job_begun n above c inside begins.0)
  ]

  -- ---- what a category is for

  process_named : (c : ℕ) (me : ProcName) (purpose : Purpose) → purpose_by s first c me ≡ Some purpose → Named c purpose
  process_named c me purpose e = elim (tested (has_zero (outer_label s first me) c) _ _ purpose e) [
    | inl zero_at ↦ subst (Named c) (same_Some _ _ zero_at.1) (zero_named me c zero_at.0)
    | inr more ↦ elim (tested (has_three (outer_label s first me) c) _ _ purpose more.1) [
      | inl inside ↦ job_named me c purpose inside.0 inside.1
      | inr outside ↦ elim (tested (has_three (inner_label s first me) c) _ _ purpose outside.1) [
        | inl secret ↦ subst (Named c) (same_Some _ _ secret.1) (secret_named me c secret.0 outside.0)
        | inr none ↦ absurd (none-some purpose none.1)
      ]
    ]
  ]

  born_named : (c : ℕ) (child : Option ProcName) (purpose : Purpose) → born_with s first child c ≡ Some purpose → Named c purpose
  born_named c child purpose e =
      let born = step_there (purpose_by s first c) child purpose e in
      process_named c born.0 purpose born.2

  -- ---- what boot made

  -- a category that boot made, of which the purpose is right
  abbrev Booted : ℕ → Purpose → Type 0
  Booted c purpose =
      (name : CategoryName) × (boot_category accounts name ≡ Some c) × IsUsed accounts f name
      × IsPurposeOf accounts f name purpose

  same_count : declared (without_passwords accounts) ≡ length accounts.users + length accounts.groups
  same_count = ap (λ n. n + length accounts.groups) (length-map accounts.users without_password)

  abbrev most : ℕ
  most = length accounts.users + length accounts.groups

  reads_named : (c i : ℕ) → c ≡ 2 + 2 * i → i ≤ most → Booted c (Reads i)
  reads_named c i is le = by (nat_le i (length accounts.users)) refl
    where
      by : (b : Bool) → nat_le i (length accounts.users) ≡ b → Booted c (Reads i)
      by true small = (
        names.ReadsUser i,
        ap (λ b. cond b (Some (2 + 2 * i)) None) small ∙ ap Some (sym is),
        grind (arith, nat_tests, small),
        sym (ap (λ b. if b then names.ReadsUser i else names.ReadsGroup (i - length accounts.users)) small),
      )
      by false big =
          let k = i - length accounts.users in
          let above : length accounts.users < i = grind (arith, nat_tests, big) in
          let low : 1 ≤ k = omega (arith, above) in
          let high : k ≤ length accounts.groups = omega (arith, above, le) in
          let test : (nat_le 1 k && nat_le k (length accounts.groups)) ≡ true = grind (arith, nat_tests, low, high) in
          let value : 2 + 2 * length accounts.users + 2 * k ≡ c = omega (arith, above, is) in (
            names.ReadsGroup k,
            ap (λ b. cond b (Some (2 + 2 * length accounts.users + 2 * k)) None) test ∙ ap Some value,
            (low, high),
            sym (ap (λ b. if b then names.ReadsUser i else names.ReadsGroup k) big),
          )

  writes_named : (c i : ℕ) → c ≡ 3 + 2 * i → i ≤ most → Booted c (Writes i)
  writes_named c i is le = by (nat_le i (length accounts.users)) refl
    where
      by : (b : Bool) → nat_le i (length accounts.users) ≡ b → Booted c (Writes i)
      by true small = (
        names.WritesUser i,
        ap (λ b. cond b (Some (3 + 2 * i)) None) small ∙ ap Some (sym is),
        grind (arith, nat_tests, small),
        sym (ap (λ b. if b then names.WritesUser i else names.WritesGroup (i - length accounts.users)) small),
      )
      by false big =
          let k = i - length accounts.users in
          let above : length accounts.users < i = grind (arith, nat_tests, big) in
          let low : 1 ≤ k = omega (arith, above) in
          let high : k ≤ length accounts.groups = omega (arith, above, le) in
          let test : (nat_le 1 k && nat_le k (length accounts.groups)) ≡ true = grind (arith, nat_tests, low, high) in
          let value : 3 + 2 * length accounts.users + 2 * k ≡ c = omega (arith, above, is) in (
            names.WritesGroup k,
            ap (λ b. cond b (Some (3 + 2 * length accounts.users + 2 * k)) None) test ∙ ap Some value,
            (low, high),
            sym (ap (λ b. if b then names.WritesUser i else names.WritesGroup k) big),
          )

  pair_named : (c : ℕ) (purpose : Purpose) → 2 ≤ c → c < 4 + 2 * most → pair_purpose c ≡ purpose → Booted c purpose
  pair_named c purpose low high e = subst (Booted c) e (by ((c % 2) == 0) refl)
    where
      within : owner_in c ≤ most
      within = omega (arith, low, high)

      by : (b : Bool) → ((c % 2) == 0) ≡ b → Booted c (if b then Reads (owner_in c) else Writes (owner_in c))
      by true even = reads_named c (owner_in c) (omega (arith, low, the_half)) within
        where
          the_half : c % 2 ≡ 0
          the_half = grind (arith, nat_tests, even)
      by false odd = writes_named c (owner_in c) (omega (arith, low, the_rest)) within
        where
          the_rest : c % 2 ≡ 1
          the_rest = let positive : 0 < c % 2 = grind (arith, nat_tests, odd) in omega (arith, positive)

  all_owners : (c n : ℕ) → c ≡ n + 2 * declared (without_passwords accounts)
      → n + 2 * length accounts.users + 2 * length accounts.groups ≡ c
  all_owners c n is = let same = same_count in omega (arith, is, same)

  first_booted : (c : ℕ) (purpose : Purpose) → first_purpose (declared (without_passwords accounts)) c ≡ Some purpose → Booted c purpose
  first_booted c purpose e = elim (tested (c == (4 + 2 * declared (without_passwords accounts))) _ _ purpose e) [
    | inl reads ↦
        subst (Booted c) (same_Some _ _ reads.1)
        (names.ReadsProcess [], ap Some (all_owners c 4 (equal (4 + 2 * declared (without_passwords accounts)) reads.0)), l.first, refl)
    | inr more ↦ elim (tested (c == (5 + 2 * declared (without_passwords accounts))) _ _ purpose more.1) [
      | inl writes ↦
          subst (Booted c) (same_Some _ _ writes.1)
          (names.WritesProcess [], ap Some (all_owners c 5 (equal (5 + 2 * declared (without_passwords accounts)) writes.0)), l.first, refl)
      | inr none ↦ absurd (none-some purpose none.1)
    ]
  ]
    where
      equal : (d : ℕ) → (c == d) ≡ true → c ≡ d
      equal d is = grind (arith, nat_tests, is)

  pub boot_booted : (c : ℕ) (purpose : Purpose) → boot_purpose (declared (without_passwords accounts)) c ≡ Some purpose → Booted c purpose
  boot_booted c purpose e = elim (tested (c == 1) _ _ purpose e) [
    | inl one ↦ subst (Booted c) (same_Some _ _ one.1) (names.OfBoot, ap Some (sym (equal_one one.0)), tt, refl)
    | inr more ↦ elim (tested (nat_le 2 c && nat_lt c (4 + 2 * declared (without_passwords accounts))) _ _ purpose more.1) [
      | inl pair ↦
          let bounds = both (nat_le 2 c) (nat_lt c (4 + 2 * declared (without_passwords accounts))) pair.0 in
          pair_named c purpose (grind (arith, nat_tests, bounds.0))
          (subst (λ n. c < 4 + 2 * n) same_count (grind (arith, nat_tests, bounds.1))) (same_Some _ _ pair.1)
      | inr rest ↦ first_booted c purpose rest.1
    ]
  ]
    where
      equal_one : (c == 1) ≡ true → c ≡ 1
      equal_one is = grind (arith, nat_tests, is)

  boot_named : (c : ℕ) (purpose : Purpose) → boot_purpose (declared (without_passwords accounts)) c ≡ Some purpose → Named c purpose
  boot_named c purpose e = let found = boot_booted c purpose e in (found.0, l.as_made found.0 c found.1, found.2, found.3)

pub purposes_are_right : PurposesAreRight
purposes_are_right accounts s f l me births c purpose is_new e =
    elim (either_there (boot_purpose (declared (without_passwords accounts)) c) _ purpose e) [
      | inl boot ↦ boot_named accounts s f l c purpose boot
      | inr more ↦
          let first = (roots_of (length accounts.users)).home in
          let child = last_child s first me in
          born_named accounts s f l c child purpose
          (new_note (born_with s first child) births (s.next_category - length births) c purpose is_new more)
    ]
