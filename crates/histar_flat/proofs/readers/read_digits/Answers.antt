-- Proves the goals of `read_digits` of src/readers.rt that the search leaves open.
use Rattle.std.proofs.Common.{sym, ap, subst, ◌∙◌}
use Rattle.std.proofs.lemmas.Bool.{false≢true}
use Rattle.histar_flat.specs.Words.{BeginsPlainly}
use Rattle.histar_flat.proofs.Numbers.{number_of_64_bits, parsed, none_unless_plain, none_unless_text}
use Rattle.histar_flat.proofs.readers.read_digits.Goals as goal

pub returns-then-not-begins_plainly : goal.returns-then-not-begins_plainly
returns-then-not-begins_plainly c =
    sym (none_unless_plain c.args.text.now (λ plain. false≢true (sym c.if-not-begins_plainly.true ∙ c.begins_plainly.ensures.1 plain)))

pub returns-in-Err : goal.returns-in-Err
returns-in-Err c = sym (none_unless_text c.args.text.now c.in-Err.ensures.cases.0)

pub returns-in-Ok : goal.returns-in-Ok
returns-in-Ok c =
    let same = c.in-Ok.ensures.cases.0 in
    let plain = c.begins_plainly.ensures.0 c.if-not-begins_plainly.false in
    c.ok.ensures.value
    ∙ parsed c.in-Ok.digits.now c.parse.result (subst BeginsPlainly (sym same) plain) c.parse.ensures.value.0
    ∙ ap number_of_64_bits same
