-- The bytes that a spawn writes: the child's segment is that of a process that has just started, and the parent's lists one more child.
use Rattle.std.proofs.Common.{◌≡◌, ◌≢◌, ℕ, zero, suc, ◌+◌, ◌*◌, ◌<◌, ◌≤◌, Bool, true, false, cond, List, [], ◌∷◌, ◌++◌, map, length, Option, None}
use Rattle.std.proofs.Common.{Some, arith, refl, sym, ap, ◌∙◌, length-append}
use Rattle.std.specs.Prelude.{is_some, min}
use Rattle.std.specs.List.{filter, flat_map, range_with_len}
use Rattle.std.proofs.lemmas.Bool.Decides.{nat_tests}
use Rattle.std.proofs.lemmas.List.{map_push}
use Rattle.std.proofs.lemmas.List.Elements.{filter-append}
use Rattle.std.proofs.lemmas.List.{length-map}
use Rattle.std.proofs.lemmas.List.FromFn.{length-range_with_len}
use Rattle.std.proofs.lemmas.List.Sums.{length-filter, count_by-le-length}
use Rattle.histar_flat.specs.Words.{ProcName}
use Rattle.histar_flat.specs.Accounts.{Accounts, has, user_number}
use Rattle.histar_flat.specs.Classes.{Process}
use Rattle.histar_flat.specs.FlatState.{Flat}
use Rattle.histar_level.specs.Levels.{Levels}
use Rattle.histar_object.specs.Objects.{is_present, is_container}
use Rattle.histar_object.specs.State.{State, Found}
use Rattle.histar_container.specs.Tree.{Address}
use Rattle.histar_rules.specs.Rules.{fits_segment}
use Rattle.histar_layout.specs.declared.status.Child.{Child as Listed}
use Rattle.histar_layout.specs.Status.{ProcessStatus, head_of, child_bytes, status_bytes, started, with_child_listed}
use Rattle.histar_layout.specs.StatusParts.{head_bytes}
use Rattle.histar_layout.proofs.Statuses.{status_parts}
use Rattle.histar_login.proofs.StartLemmas.{range-suc}
use Rattle.histar_refinement.specs.Categories.{IsUsed}
use Rattle.histar_refinement.specs.Categories.CategoryName.{OfJob}
use Rattle.histar_refinement.specs.Addresses.{Step, AddressNumbers, home_address}
use Rattle.histar_refinement.specs.Addresses.Step.{Status, Inside, Runner}
use Rattle.histar_refinement.proofs.Expected.{expected}
use Rattle.histar_refinement.specs.Represents.{ObjectsMatch, AreInOrder}
use Rattle.histar_refinement.specs.Processes.{or_zero, children, listed_by, status_by}
use Rattle.histar_refinement.proofs.Birth.{at_new_home, at_new_inside, at_new_runner, at_new_status}
use Rattle.histar_refinement.proofs.Spawning.{after, outer, inner, label, clearance, child_written, own_written, naming, child_not_me, at_child}
use Rattle.histar_refinement.proofs.Spawning.{there_alike, kept_home, kept_status, kept_inside, kept_runner, holder, no_home, no_inside, no_runner}
use Rattle.histar_refinement.proofs.Spawning.{no_status}
use Rattle.histar_sim.proofs.OwnSegment.{children_long}
use Rattle.histar_refinement.proofs.Agreement.{agreement}

-- ---- how many bytes there are

-- the head has 19 bytes
head_long : (exited : Option ℕ) (born internal thread : ℕ)
    → length (head_bytes (record { exited = exited; born = born; internal = internal; thread = thread })) ≡ 19
head_long None born internal thread = refl
head_long (Some n) born internal thread = refl

pub status_long : (status : ProcessStatus) → length (status_bytes status) ≡ 19 + 17 * length status.children
status_long status =
    let parts = ap (λ (bytes : List ℕ). length bytes) (status_parts status) in
    let head = head_long status.exited status.born status.internal status.thread in
    let joined = length-append (head_bytes (head_of status)) (flat_map child_bytes status.children) in
    let listed = children_long status.children in
    omega (arith, parts, head, joined, listed)

-- the bytes of a process that has just started fit in a segment
pub started_fits : (internal thread : ℕ) → fits_segment (length (status_bytes (started internal thread))) ≡ true
started_fits internal thread =
    let long = status_long (started internal thread) in let none : length (started internal thread).children
    ≡ 0 = refl in grind (arith, nat_tests, long, none)

-- the bytes of a process with at most 64 children fit in a segment, where nothing else is kept
pub grown_fits : (held : List ℕ) (container segment : ℕ) (status : ProcessStatus) → length status.children < 64
    → fits_segment (min 0 (length held) + length (status_bytes (with_child_listed container segment status))) ≡ true
grown_fits held container segment status few =
    let child : Listed = record { number = status.born + 1; container = container; segment = segment } in
    let long = status_long (with_child_listed container segment status) in
    let more : length (with_child_listed container segment status).children ≡ length status.children + 1 =
    length-append status.children (child ∷ []) in
    let within : length (status_bytes (with_child_listed container segment status)) ≤ 4096 = omega (arith, long, more, few) in
    grind (arith, nat_tests, within)

-- no more children are listed than were born
pub few_listed : (processes : ProcName → Option Process) (number : AddressNumbers) (me : ProcName) (p : Process)
    → length (status_by processes number me p).children ≤ p.born
few_listed processes number me p =
    let mapped = length-map (children processes me p.born) (listed_by number me) in
    let filtered = length-filter (λ n. is_some (processes (n ∷ me))) (range_with_len 1 p.born) in
    let counted = count_by-le-length (λ n. is_some (processes (n ∷ me))) (range_with_len 1 p.born) in
    let ranged = length-range_with_len 1 p.born in
    omega (arith, mapped, filtered, counted, ranged)

-- ---- the list of children

module _ (old new : ℕ → Listed) (test tests : ℕ → Bool) (n : ℕ) (same_test : (j : ℕ) → j < n → tests j ≡ test j)
    (same_listed : (j : ℕ) → j < n → new j ≡ old j) where
  -- by whether the first number passes
  one_alike : (a : ℕ) (xs ys : List ℕ) (b : Bool) → new a ≡ old a → map new xs ≡ map old ys
      → map new (cond b (a ∷ xs) xs) ≡ map old (cond b (a ∷ ys) ys)
  one_alike a xs ys true here more = λ i. here i ∷ more i
  one_alike a xs ys false here more = more

  -- numbers below n that pass the test are listed as before
  alike_below : (a k : ℕ) → a + k ≤ n → map new (filter tests (range_with_len a k)) ≡ map old (filter test (range_with_len a k))
  alike_below a zero within = refl
  alike_below a (suc k) within =
      ap (λ (b : Bool).
      map new (cond b (a ∷ filter tests (range_with_len (a + 1) k)) (filter tests (range_with_len (a + 1) k))))
      (same_test a (omega (arith, within)))
      ∙ one_alike a (filter tests (range_with_len (a + 1) k)) (filter test (range_with_len (a + 1) k)) (test a)
      (same_listed a (omega (arith, within))) (alike_below (a + 1) k (omega (arith, within)))

  -- where the next number passes the test, it is listed after the others
  pub listed_grown : (born : ℕ) → born + 1 ≡ n → tests (born + 1) ≡ true
      → map new (filter tests (range_with_len 1 (born + 1)))
      ≡ map old (filter test (range_with_len 1 born)) ++ new (born + 1) ∷ []
  listed_grown born top passes =
      let next : born + 1 ≡ suc born = omega arith in
      let last : 1 + born ≡ born + 1 = omega arith in
      ap (λ (k : ℕ). map new (filter tests (range_with_len 1 k))) next
      ∙ ap (λ (ks : List ℕ). map new (filter tests ks)) (range-suc 1 born ∙ ap (λ (k : ℕ). range_with_len 1 born ++ k ∷ []) last)
      ∙ ap (map new) (filter-append tests (range_with_len 1 born) ((born + 1) ∷ [])
      ∙ ap (λ (b : Bool). filter tests (range_with_len 1 born) ++ cond b ((born + 1) ∷ []) []) passes)
      ∙ map_push new (filter tests (range_with_len 1 born)) (born + 1)
      ∙ ap (λ (cs : List Listed). cs ++ new (born + 1) ∷ []) (alike_below 1 born (omega (arith, top)))

-- ---- the bytes of a spawn

module _ (accounts : Accounts) (s : State) (f : Flat) (l : ObjectsMatch accounts s f) (me : ProcName) (p : Process)
    (here : f.processes me ≡ Some p) (runs : p.exited ≡ None) (room : p.born < 64)
    (chain : List ProcName) (chain_used : (job : ProcName) → has chain job ≡ true → IsUsed accounts f (OfJob job))
    (chain_ordered : AreInOrder l.category chain)
    (chain_free : is_some (user_number accounts p.user) ≡ false → chain ≡ [])
    (C S : ℕ) (at_home : l.naming.number (home_address me) ≡ Some C) (at_status : l.naming.number (Status ∷ home_address me) ≡ Some S) where
  abbrev child : ProcName
  child = (p.born + 1) ∷ me

  abbrev numbers : AddressNumbers
  numbers = (naming accounts s f l me p here runs room chain chain_used chain_ordered chain_free C S at_home at_status).number

  abbrev m : ℕ
  m = s.next_object

  -- what is asked for before the birth, and the labels of what is made
  abbrev asked : Address Step → Found
  asked = expected accounts l.category f l.naming.number

  abbrev child_outer : Levels
  child_outer = outer accounts s f l me p here runs room chain chain_used chain_ordered chain_free C S at_home at_status

  abbrev child_inner : Levels
  child_inner = inner accounts s f l me p here runs room chain chain_used chain_ordered chain_free C S at_home at_status

  abbrev child_label : Levels
  child_label = label accounts s f l me p here runs room chain chain_used chain_ordered chain_free C S at_home at_status

  abbrev child_clearance : Levels
  child_clearance = clearance accounts s f l me p here runs room chain chain_used chain_ordered chain_free C S at_home at_status

  -- the parent's container is there, and no object of the child's
  holds : is_container (asked (home_address me)) ≡ true
  holds = holder accounts s f l me p here runs room chain chain_used chain_ordered chain_free C S at_home at_status

  no_home_yet : is_present (asked (home_address child)) ≡ false
  no_home_yet = no_home accounts s f l me p here runs room chain chain_used chain_ordered chain_free C S at_home at_status

  no_inside_yet : is_present (asked (Inside ∷ home_address child)) ≡ false
  no_inside_yet = no_inside accounts s f l me p here runs room chain chain_used chain_ordered chain_free C S at_home at_status

  no_runner_yet : is_present (asked (Runner ∷ Inside ∷ home_address child)) ≡ false
  no_runner_yet = no_runner accounts s f l me p here runs room chain chain_used chain_ordered chain_free C S at_home at_status

  no_status_yet : is_present (asked (Status ∷ home_address child)) ≡ false
  no_status_yet = no_status accounts s f l me p here runs room chain chain_used chain_ordered chain_free C S at_home at_status

  -- the child's process segment
  pub child_bytes_are : status_bytes (started (s.next_object + 1) (s.next_object + 1 + 1))
      ≡ child_written accounts s f l me p here runs room chain chain_used chain_ordered chain_free C S at_home at_status
  child_bytes_are = λ i. status_bytes (record {
    exited = None;
    born = 0;
    internal =
        or_zero (sym (at_new_inside s l.naming asked (agreement l) me (p.born + 1) C S at_home at_status holds no_home_yet
        no_inside_yet no_runner_yet no_status_yet child_outer child_inner child_label child_clearance []
        []) i);
    thread =
        or_zero (sym (at_new_runner s l.naming asked (agreement l) me (p.born + 1) C S at_home at_status holds no_home_yet
        no_inside_yet no_runner_yet no_status_yet child_outer child_inner child_label child_clearance []
        []) i);
    children = [];
  })

  earlier : (j : ℕ) → j < p.born + 1 → j ∷ me ≢ child
  earlier j low e = let same : j ≡ p.born + 1 = cc in absurd (omega (arith, same, low))

  abbrev same_listed : (j : ℕ) → j < p.born + 1 → listed_by numbers me j ≡ listed_by l.naming.number me j
  same_listed j low = λ i. record {
    number = j;
    container =
        or_zero (sym (kept_home accounts s f l me p here runs room chain chain_used chain_ordered chain_free C S at_home
        at_status (j ∷ me) (earlier j low)) i);
    segment =
        or_zero (sym (kept_status accounts s f l me p here runs room chain chain_used chain_ordered chain_free C S at_home
        at_status (j ∷ me) (earlier j low)) i);
  }

  -- the child is listed after the others
  children_are : map (listed_by numbers me) (children
      (after accounts s f l me p here runs room chain chain_used chain_ordered chain_free C S at_home at_status).processes
      me (p.born + 1))
      ≡ map (listed_by l.naming.number me) (children f.processes me p.born)
      ++ record { number = p.born + 1; container = m; segment = m + 1 + 1 + 1 } ∷ []
  children_are =
      listed_grown (listed_by l.naming.number me) (listed_by numbers me) (λ j. is_some (f.processes (j ∷ me)))
      (λ j.
      is_some ((after accounts s f l me p here runs room chain chain_used chain_ordered chain_free C S at_home
      at_status).processes (j ∷ me))) (p.born + 1)
      (λ j low.
      sym (there_alike accounts s f l me p here runs room chain chain_used chain_ordered chain_free C S at_home
      at_status (j ∷ me) (earlier j low))) same_listed p.born refl
      (ap is_some (at_child accounts s f l me p here runs room chain chain_used chain_ordered chain_free C S at_home
      at_status))
      ∙ (λ i. map (listed_by l.naming.number me) (children f.processes me p.born) ++ record {
        number = p.born + 1;
        container =
            or_zero (at_new_home s l.naming asked (agreement l) me (p.born + 1) C S at_home at_status holds no_home_yet
            no_inside_yet no_runner_yet no_status_yet child_outer child_inner child_label child_clearance [] []
            i);
        segment =
            or_zero (at_new_status s l.naming asked (agreement l) me (p.born + 1) C S at_home at_status holds no_home_yet
            no_inside_yet no_runner_yet no_status_yet child_outer child_inner child_label child_clearance [] []
            i);
      } ∷ [])

  -- the parent's process segment
  pub own_bytes_are : status_bytes
      (with_child_listed s.next_object (s.next_object + 1 + 1 + 1) (status_by f.processes l.naming.number me p))
      ≡ own_written accounts s f l me p here runs room chain chain_used chain_ordered chain_free C S at_home at_status
  own_bytes_are = λ i. status_bytes (record {
    exited = p.exited;
    born = p.born + 1;
    internal =
        or_zero (kept_inside accounts s f l me p here runs room chain chain_used chain_ordered chain_free C S at_home
        at_status me (λ e. child_not_me accounts s f l me p here runs room chain chain_used chain_ordered chain_free C S
        at_home at_status (sym e)) i);
    thread =
        or_zero (kept_runner accounts s f l me p here runs room chain chain_used chain_ordered chain_free C S at_home
        at_status me (λ e. child_not_me accounts s f l me p here runs room chain chain_used chain_ordered chain_free C S
        at_home at_status (sym e)) i);
    children = sym children_are i;
  })
