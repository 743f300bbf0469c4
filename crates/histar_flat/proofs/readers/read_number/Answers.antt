-- Proves the goals of `read_number` of src/readers.rt that the search leaves open.
use Rattle.std.proofs.Common.{◌≡◌, Some, leb, refl, sym, ap, ◌∙◌}
use Rattle.std.proofs.lemmas.Bool.{le-leb, lt-leb}
use Rattle.histar_flat.specs.Words.{number_of}
use Rattle.histar_flat.proofs.Numbers.{if_passes, number_within}
use Rattle.histar_flat.proofs.readers.read_number.Goals as goal
use Rattle.histar_flat.proofs.readers.read_number.Goals.{In_ok-number}

pub returns-in_err-number-clause-value : goal.returns-in_err-number-clause-value
returns-in_err-number-clause-value c =
    let none = sym c.read_digits.ensures ∙ c.in_err-number.was in
    c.from_residual.ensures
    ∙ sym (number_within c.args.greatest c.args.text.now c.ranges.greatest.fits ∙ ap (if_passes (λ n. leb n c.args.greatest)) none)

-- the number that was read is tested
by_test : (c : In_ok-number) → number_of (λ n. leb n c.args.greatest) c.args.text.now
    ≡ if_passes (λ n. leb n c.args.greatest) (Some c.in_ok-number.number)
by_test c =
    number_within c.args.greatest c.args.text.now c.ranges.greatest.fits
    ∙ ap (if_passes (λ n. leb n c.args.greatest)) (sym c.read_digits.ensures ∙ c.in_ok-number.was)

pub returns-then-number-greatest-clause-value : goal.returns-then-number-greatest-clause-value
returns-then-number-greatest-clause-value c =
    let fails = lt-leb c.in_ok-number.number c.args.greatest c.if-number-greatest.true in
    sym (by_test (goal.at.returns-then-number-greatest-clause-value c).In_ok-number ∙ rw fails refl)

pub returns-clause-value : goal.returns-clause-value
returns-clause-value c =
    let passes = le-leb c.in_ok-number.number c.args.greatest c.if-number-greatest.false in
    sym (by_test (goal.at.returns-clause-value c).In_ok-number ∙ rw passes refl)
