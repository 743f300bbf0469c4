-- Proves the goals of `number_in` of src/numbers.rt that the search leaves open.
use Rattle.std.proofs.Common.{◌≡◌, true, not, subst, sym, ap, ◌∙◌, arith}
use Rattle.std.specs.Fmt.{decimal}
use Rattle.std.specs.Str.{IsUtf8, bytes_eq}
use Rattle.std.proofs.lemmas.Slice.Eq.{bytes_eq-Decides}
use Rattle.std.proofs.lemmas.Fmt.{parse-decimal}
use Rattle.std.proofs.lemmas.Bool.{not-false}
use Rattle.histar_rawtext.specs.Reading.{number_in}
use Rattle.histar_rawtext.proofs.Numbers.{number_again, no_number, utf8_number}
use Rattle.histar_raw_lint.proofs.numbers.number_in.Goals as goal

pub returns-in_default : goal.returns-in_default
returns-in_default c = sym (no_number c.args.word.now (λ n small is. c.in_default.ensures.cases.0 (subst IsUtf8 (sym is) (utf8_number n small))))

pub returns-in_default-parse : goal.returns-in_default-parse
returns-in_default-parse c = sym (no_number c.args.word.now (λ n small is.
    let read = parse-decimal 64 n c.in-Ok.text.now c.parse.result small small (c.in-Ok.ensures.cases.0 ∙ is) c.parse.ensures.value.0 in
    c.in_default-parse.not-Ok n read))

pub returns-then-ne : goal.returns-then-ne
returns-then-ne c = sym (no_number c.args.word.now (λ n small is.
    let read = parse-decimal 64 n c.in-Ok.text.now c.parse.result small small (c.in-Ok.ensures.cases.0 ∙ is) c.parse.ensures.value.0 in
    let same : c.in-Ok-parse.number ≡ n = cc (sym c.in-Ok-parse.is ∙ read) in
    let written : c.as_bytes.result.now ≡ c.args.word.now = c.as_bytes.ensures.value ∙ c.format.ensures.text ∙ ap decimal same ∙ sym is in
    let equal = (bytes_eq-Decides c.as_bytes.result.now c.args.word.now).1 written in
    cc (c.if-ne.ensures ∙ ap not equal)))

pub returns : goal.returns
returns c =
    let equal : bytes_eq c.as_bytes.result.now c.args.word.now ≡ true =
    not-false (bytes_eq c.as_bytes.result.now c.args.word.now) (sym c.if-ne.ensures) in
    let written : c.args.word.now ≡ decimal c.in-Ok-parse.number = sym ((bytes_eq-Decides c.as_bytes.result.now c.args.word.now).0 equal)
    ∙ c.as_bytes.ensures.value ∙ c.format.ensures.text in
    sym (ap number_in written ∙ number_again c.in-Ok-parse.number (omega arith))
