-- Proves the goals of `read_numbers` of src/readers.rt that the search leaves open.
use Rattle.std.proofs.Common.{◌≡◌, ◌+◌, ◌-◌, ◌<◌, Some, None, sym, ap, ◌∙◌, arith}
use Rattle.std.specs.Option.{option_copied}
use Rattle.histar_flat.specs.Words.{dot, split_at_first, number_of, is_child_number, process_from}
use Rattle.histar_flat.proofs.ProcessLemmas.{no_number, next_number, no_more, too_many}
use Rattle.histar_flat.proofs.readers.read_numbers.Goals as goal

pub returns-in_default : goal.returns-in_default
returns-in_default c =
    let none : option_copied c.loop.rest ≡ None = ap option_copied c.in_default.is in
    sym (ap (process_from (7 - c.loop.counter) c.loop.process) none ∙ no_more (7 - c.loop.counter) c.loop.process) ∙ c.loop.invariant.0

pub returns-in_err-read_child_number : goal.returns-in_err-read_child_number
returns-in_err-read_child_number c =
    let none : number_of is_child_number (split_at_first dot c.in-Some.text.now).0 ≡ None =
    ap (number_of is_child_number) (sym c.split_at_dot.ensures.before) ∙ sym c.read_child_number.ensures
    ∙ c.in_err-read_child_number.was in
    c.from_residual.ensures
    ∙ sym (ap (process_from (7 - c.loop.counter) c.loop.process) (ap option_copied c.in-Some.is)
    ∙ no_number (7 - c.loop.counter) c.loop.process c.in-Some.text.now none)
    ∙ c.loop.invariant.0

pub loop-preserved : goal.loop-preserved
loop-preserved c =
    let number = c.in_ok-read_child_number.field-0 in
    let is : number_of is_child_number (split_at_first dot c.in-Some.text.now).0 ≡ Some number =
    ap (number_of is_child_number) (sym c.split_at_dot.ensures.before) ∙ sym c.read_child_number.ensures
    ∙ c.in_ok-read_child_number.was in
    let left : 0 < 7 - c.loop.counter = omega (arith, c.loop-test.true) in
    let less : 7 - (c.loop.counter + 1) ≡ 7 - c.loop.counter - 1 = omega arith in
    rw (c.child-process.ensures, less, c.split_at_dot.ensures.after) (
      sym (ap (process_from (7 - c.loop.counter) c.loop.process) (ap option_copied c.in-Some.is)
          ∙ next_number (7 - c.loop.counter) c.loop.process c.in-Some.text.now number left is) ∙ c.loop.invariant.0,
      omega (arith, c.loop.invariant.1),
    )

pub returns-in-None : goal.returns-in-None
returns-in-None c =
    let none : option_copied c.loop.rest ≡ None = ap option_copied c.in-None.is in
    sym (ap (process_from (7 - c.loop.counter) c.loop.process) none ∙ no_more (7 - c.loop.counter) c.loop.process) ∙ c.loop.invariant.0

pub returns-in-Some-rest : goal.returns-in-Some-rest
returns-in-Some-rest c =
    let text = c.in-Some-rest.field-0.now in
    let some : option_copied c.loop.rest ≡ Some text = ap option_copied c.in-Some-rest.is in
    let end : 7 - c.loop.counter ≡ 0 = omega (arith, c.loop-test.false) in
    sym ((λ i. process_from (end i) c.loop.process (some i)) ∙ too_many c.loop.process text) ∙ c.loop.invariant.0
