-- Proves the goals of `push_fact` of src/facts.rt that the search leaves open.
use Rattle.std.proofs.Common.{◌≡◌, ℕ, ◌++◌, List, false, sym, ap, ◌∙◌, subst, OnOk, inl, inr}
use Rattle.std.specs.Prelude.{Bool, encode_utf8_all, if◌then◌else◌}
use Rattle.std.specs.Str.{IsUtf8, is_utf8}
use Rattle.std.proofs.lemmas.Bool.{cases_Bool}
use Rattle.std.proofs.lemmas.Str.{IsUtf8-from_is_utf8, is_utf8-from_IsUtf8}
use Rattle.histar_output.specs.Facts.{as_text}
use Rattle.histar_output.specs.Written.{text_line}
use Rattle.histar_output.proofs.facts.push_fact.Goals as goal

-- a line that is UTF-8 is its text
itself : (line : List ℕ) → IsUtf8 line → line ≡ as_text line
itself line is = ap (λ (b : Bool). if b then line else encode_utf8_all line) (sym (is_utf8-from_IsUtf8 line is))

-- a line that isn't is read as characters
other : (line : List ℕ) → (IsUtf8 line → ⊥) → encode_utf8_all line ≡ as_text line
other line not =
    let none : is_utf8 line ≡ false = elim (cases_Bool (is_utf8 line)) [ inl so ↦ absurd (not (IsUtf8-from_is_utf8 line so)) | inr so ↦ so ] in
    ap (λ (b : Bool). if b then line else encode_utf8_all line) (sym none)

pub returns-in-Ok : goal.returns-in-Ok
returns-in-Ok c =
    let e = c.in-Ok.ensures.cases in
    subst (λ (t : List ℕ). OnOk c.push_text_fact.result (c.push_text_fact.new.out.items ≡ c.args.out.now.items ++ text_line c.args.form t))
    (e.0 ∙ itself c.args.line.now e.1) c.push_text_fact.ensures

pub returns-in_ok-text-in-Err : goal.returns-in_ok-text-in-Err
returns-in_ok-text-in-Err c =
    subst (λ (t : List ℕ). OnOk c.push_text_fact-in-Err.result
    (c.push_text_fact-in-Err.new.out.items ≡ c.args.out.now.items ++ text_line c.args.form t))
    (c.as_str.ensures.value ∙ c.in_ok-text-in-Err.ensures ∙ other c.args.line.now c.in-Err.ensures.cases.0) c.push_text_fact-in-Err.ensures
