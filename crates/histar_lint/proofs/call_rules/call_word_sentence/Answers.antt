-- Proves the goals of `call_word_sentence` of src/call_rules.rt, which the search is slow to find.
use Rattle.std.proofs.Common.{◌≡◌, true, false, List, ℕ, Option, Some, sym, ap, ◌∙◌, rules}
use Rattle.std.specs.Prelude.{Bool, is_none, if◌then◌else◌}
use Rattle.std.proofs.lemmas.Result.{IfOk-weaker}
use Rattle.histar_flat.specs.Words.{process_of}
use Rattle.histar_lint.specs.declared.shapes.Kind.TheVariants.{Process}
use Rattle.histar_lint.specs.declared.shapes.Shape.{Shape}
use Rattle.histar_lint.specs.Lines.{first_sentence, word_of}
use Rattle.histar_lint.specs.Calls.{call_word_rules, kind_text, shape_named, shape_rules}
use Rattle.histar_lint.proofs.call_rules.call_word_sentence.Goals as goal

-- the sentence where the process is none, or is one
said : (process text : List ℕ) (none : Bool) → is_none (process_of process) ≡ none
    → first_sentence (call_word_rules process text)
    ≡ (if none then Some (kind_text Process) else first_sentence (shape_rules text (shape_named (word_of text))))
said process text none is =
    ap (λ (none : Bool). if none then Some (kind_text Process) else first_sentence (shape_rules text (shape_named (word_of text)))) is

pub returns-then-is_none : goal.returns-then-is_none
returns-then-is_none c =
    let none : is_none (process_of c.args.process.now) ≡ true = search rules in
    let text : c.in_ok-said.said.items ≡ kind_text Process = search rules in
    ap (λ (text : List ℕ). Some text) text ∙ sym (said c.args.process.now c.args.text.now true none)

pub returns-in-Some : goal.returns-in-Some
returns-in-Some c =
    let one : is_none (process_of c.args.process.now) ≡ false = search rules in
    let shape = ap shape_named (sym c.split_word.ensures.word) ∙ sym c.shape_named.ensures ∙ c.in-Some.is in
    IfOk-weaker c.argument_sentence.result _ _
    (λ _ is. is
    ∙ sym (said c.args.process.now c.args.text.now false one
    ∙ ap (λ (o : Option Shape). first_sentence (shape_rules c.args.text.now o)) shape))
    c.argument_sentence.ensures
