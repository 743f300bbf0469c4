-- Proves the goals of `make_call` of src/tried.rt that the search leaves open.
use Rattle.std.proofs.Common.{List, ℕ, ◌++◌, map, refl, ap, ◌∙◌}
use Rattle.std.proofs.lemmas.Bool.{le-ltb, lt-ltb}
use Rattle.histar_transcript.proofs.Replies.{line_at}
use Rattle.histar_transcript.proofs.Trying.{hidden, shown}
use Rattle.histar_transcript.proofs.tried.make_call.Goals as goal

pub returns-then-number-shown-clause-ok : goal.returns-then-number-shown-clause-ok
returns-then-number-shown-clause-ok g c =
    hidden c.args.shown.first (map line_at c.args.shown.lines.now) c.args.machine.now c.answer_with_reason.new.machine
    (record c.args.said.now.log { text = c.clear.new.self }) c.answer_with_reason.new.log c.args.call
    c.in_ok-line.line.items c.in_ok-line.ensures.ok c.args.said.now _ refl refl
    (le-ltb c.args.shown.first c.args.call.line c.if-number-shown.true) refl

pub returns-clause-ok : goal.returns-clause-ok
returns-clause-ok g c =
    shown c.args.shown.first (map line_at c.args.shown.lines.now) c.args.machine.now c.answer_with_reason.new.machine
    (record c.args.said.now.log { text = c.clear.new.self }) c.answer_with_reason.new.log c.args.call
    c.in_ok-line.line.items c.in_ok-line.ensures.ok c.args.said.now _ refl refl c.clear.ensures.items
    (lt-ltb c.args.shown.first c.args.call.line c.if-number-shown.false) c.push_answer.new.text.items
    (λ reply is. c.in_ok-push_answer.ensures reply (c.as_slice.ensures.value ∙ is))
    (c.in_ok-extend_from_slice.ensures.items ∙ ap (λ (l : List ℕ). c.push_answer.new.text.items ++ l) c.as_slice-2.ensures.value)
