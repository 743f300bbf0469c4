-- Proves the goals of `look_up` of src/lookup.rt that the search leaves open.
use Rattle.std.proofs.Common.{◌≡◌, ℕ, ◌+◌, ◌-◌, ◌<◌, List, Bool, Some, length, get_or, sym, ap, ◌∙◌, arith}
use Rattle.std.specs.Prelude.{slice_get, slice_range}
use Rattle.std.proofs.lemmas.Option.{slice_get-get_or}
use Rattle.histar_base.specs.Paths.{same}
use Rattle.histar_layout.proofs.LookingUp.{all_left, found_there, left_over}
use Rattle.histar_layout.proofs.LookingUp.{stepped_over, out_of_reach, found_in_directory, has_bytes}
use Rattle.histar_layout.proofs.lookup.look_up.Goals as goal
use Rattle.histar_layout.proofs.lookup.look_up.Goals.{After-is_before, In-entries}

-- comparing with the bytes of a name compares with the name
compared : (bytes wanted name : List ℕ) (start len : ℕ) (result : Bool) → wanted ≡ name → len ≡ length wanted
    → result ≡ same wanted (slice_range bytes (start + len + 18 - 17 - length wanted) (start + len + 18 - 17))
    → same name (slice_range bytes (start + 1) (start + 1 + len)) ≡ result
compared bytes wanted name start len result is long value =
    let from : start + 1 ≡ start + len + 18 - 17 - length wanted = omega (arith, long) in
    let to : start + 1 + len ≡ start + len + 18 - 17 = omega arith in
    (λ i. same (sym is i) (slice_range bytes (from i) (to i))) ∙ sym value

-- the bytes go on where an entry begins
there : (c : In-entries) → c.entries.start < length c.args.bytes.now
there c = omega (arith, c.if-bytes-size.false, c.entries-test.true)

-- the first byte of an entry is read
read_there : (c : In-entries) → slice_get c.args.bytes.now c.entries.start ≡ Some (get_or c.args.bytes.now c.entries.start 0)
read_there c = slice_get-get_or c.args.bytes.now c.entries.start 0 (there c)

-- the test is whether the entry has the name
test_is : (c : After-is_before) → same c.args.name.now (slice_range c.args.bytes.now (c.entries.start + 1)
    (c.entries.start + 1 + get_or c.args.bytes.now c.entries.start 0)) ≡ c.is_before.result
test_is c =
    compared c.args.bytes.now c.as_bytes-wanted.result.now c.args.name.now c.entries.start (get_or c.args.bytes.now c.entries.start 0)
    c.is_before.result c.as_bytes-wanted.ensures.value c.if-len-wanted.true c.is_before.ensures

pub overflow_sub-last : goal.overflow_sub-last
overflow_sub-last c = omega (arith, has_bytes c.args.name.now c.as_bytes-wanted.ensures.right, ap length c.as_bytes-wanted.ensures.value)

pub bounds-wanted-wanted : goal.bounds-wanted-wanted
bounds-wanted-wanted c = omega (arith, has_bytes c.args.name.now c.as_bytes-wanted.ensures.right, ap length c.as_bytes-wanted.ensures.value)

pub is_before-requires-clause-some : goal.is_before-requires-clause-some
is_before-requires-clause-some c =
    omega (arith, has_bytes c.args.name.now c.as_bytes-wanted.ensures.right, ap length c.as_bytes-wanted.ensures.value)

pub entries-init : goal.entries-init
entries-init c = all_left c.args.bytes.now c.args.name.now

pub entries-preserved : goal.entries-preserved
entries-preserved c =
    stepped_over c.args.bytes.now c.args.name.now c.entries.start (get_or c.args.bytes.now c.entries.start 0)
    (read_there (goal.at.entries-preserved c).In-entries) c.entries.invariant
    (λ e. c.if-len-wanted.false (sym e ∙ ap length (sym c.as_bytes-wanted.ensures.value)))

pub entries-preserved-else-is_before : goal.entries-preserved-else-is_before
entries-preserved-else-is_before c =
    left_over c.args.bytes.now c.args.name.now c.entries.start (get_or c.args.bytes.now c.entries.start 0)
    (read_there (goal.at.entries-preserved-else-is_before c).In-entries) c.entries.invariant
    (omega (arith, c.if-bytes-size.false, c.entries-test.true, c.if-len-wanted.true))
    (test_is (goal.at.entries-preserved-else-is_before c).After-is_before ∙ c.if-is_before.false)

pub returns-then-bytes-size-clause-found : goal.returns-then-bytes-size-clause-found
returns-then-bytes-size-clause-found c =
    let name = c.args.name.now in
    sym (out_of_reach c.args.bytes.now 0 name (all_left c.args.bytes.now name)
    (omega (arith, c.if-bytes-size.true, ap length c.as_bytes-wanted.ensures.value)))

pub returns-then-bytes-size-clause-entry : goal.returns-then-bytes-size-clause-entry
returns-then-bytes-size-clause-entry c dir is =
    returns-then-bytes-size-clause-found c ∙ found_in_directory c.args.bytes.now dir c.args.name.now is

pub returns-then-is_before-clause-found : goal.returns-then-is_before-clause-found
returns-then-is_before-clause-found c =
    c.target_from.ensures
    ∙ sym (found_there c.args.bytes.now c.args.name.now c.entries.start (get_or c.args.bytes.now c.entries.start 0)
    (read_there (goal.at.returns-then-is_before-clause-found c).In-entries) c.entries.invariant
    (omega (arith, c.if-bytes-size.false, c.entries-test.true, c.if-len-wanted.true))
    (test_is (goal.at.returns-then-is_before-clause-found c).After-is_before ∙ c.if-is_before.true))

pub returns-then-is_before-clause-entry : goal.returns-then-is_before-clause-entry
returns-then-is_before-clause-entry c dir is =
    returns-then-is_before-clause-found c ∙ found_in_directory c.args.bytes.now dir c.args.name.now is

pub returns-clause-found : goal.returns-clause-found
returns-clause-found c =
    sym (out_of_reach c.args.bytes.now c.entries.start c.args.name.now c.entries.invariant
    (omega (arith, c.if-bytes-size.false, c.entries-test.false, ap length c.as_bytes-wanted.ensures.value)))

pub returns-clause-entry : goal.returns-clause-entry
returns-clause-entry c dir is = returns-clause-found c ∙ found_in_directory c.args.bytes.now dir c.args.name.now is
