-- Proves the goals of `read_number` of src/read_words.rt that the search leaves open.
use Rattle.std.proofs.Common.{◌≡◌, true, not, subst, sym, ap, ◌∙◌, arith}
use Rattle.std.specs.Fmt.{decimal}
use Rattle.std.specs.Str.{IsUtf8, bytes_eq}
use Rattle.std.proofs.lemmas.Slice.Eq.{bytes_eq-Decides}
use Rattle.std.proofs.lemmas.Fmt.{parse-decimal}
use Rattle.std.proofs.lemmas.Bool.{not-false}
use Rattle.histar_rawtext.specs.Reading.{number_in}
use Rattle.histar_rawtext.proofs.Numbers.{number_again, no_number, utf8_number}
use Rattle.histar_rawtext.proofs.read_words.read_number.Goals as goal

pub returns-in_default-clause-exact : goal.returns-in_default-clause-exact
returns-in_default-clause-exact c =
    no_number c.args.word.now (λ n small is. c.in_default.ensures.cases.0 (subst IsUtf8 (sym is) (utf8_number n small)))

pub returns-in_default-parse-clause-exact : goal.returns-in_default-parse-clause-exact
returns-in_default-parse-clause-exact c = no_number c.args.word.now (λ n small is.
    let read = parse-decimal 64 n c.in-Ok.text.now c.parse.result small small (c.in-Ok.ensures.cases.0 ∙ is) c.parse.ensures.value.0 in
    c.in_default-parse.not-Ok n read)

pub returns-then-ne-clause-exact : goal.returns-then-ne-clause-exact
returns-then-ne-clause-exact c = no_number c.args.word.now (λ n small is.
    let read = parse-decimal 64 n c.in-Ok.text.now c.parse.result small small (c.in-Ok.ensures.cases.0 ∙ is) c.parse.ensures.value.0 in
    let same : c.in-Ok-parse.number ≡ n = cc (sym c.in-Ok-parse.is ∙ read) in
    let written : c.as_bytes.result.now ≡ c.args.word.now = c.as_bytes.ensures.value ∙ c.format.ensures.text ∙ ap decimal same ∙ sym is in
    let equal = (bytes_eq-Decides c.as_bytes.result.now c.args.word.now).1 written in
    cc (c.if-ne.ensures ∙ ap not equal))

pub returns-clause-exact : goal.returns-clause-exact
returns-clause-exact c =
    let equal : bytes_eq c.as_bytes.result.now c.args.word.now ≡ true =
    not-false (bytes_eq c.as_bytes.result.now c.args.word.now) (sym c.if-ne.ensures) in
    let written : c.args.word.now ≡ decimal c.in-Ok-parse.number =
    sym ((bytes_eq-Decides c.as_bytes.result.now c.args.word.now).0 equal) ∙ c.as_bytes.ensures.value
    ∙ c.format.ensures.text in
    ap number_in written ∙ number_again c.in-Ok-parse.number (omega arith)
