-- Proves the goals of `answer_lines` of src/dialogue.rt that the search leaves open.
use Rattle.std.proofs.Common.{◌≡◌, ◌∙◌, length, refl, rules}
use Rattle.histar_script.proofs.LineLemmas.{no_lines}
use Rattle.histar_dialogue.proofs.Talking.{begins_answer, entered, entering_first, entering_on, entering_stops, on_err}
use Rattle.histar_dialogue.proofs.dialogue.answer_lines.Goals as goal

pub lines-init : goal.lines-init
lines-init g c = record {
  entering = entering_first c.args.text.now c.args.session.now (g.S.Shelf.saved c.args.shelf.now) (g.W.Sink.written c.args.writer.now) c.requires;
  writes = refl;
}

pub returns-in_err-answer_line-clause-err : goal.returns-in_err-answer_line-clause-err
returns-in_err-answer_line-clause-err g c =
    on_err _ _ (entering_stops _ c.lines.rest.now c.lines.session _ _ _ _ c.lines.invariant.entering c.split_line.result.0.now
    c.split_line.result.1.now c.split_line.ensures.first _ _
    (begins_answer _ c.answer_line.new.session _ _ _ _ _ c.in_err-answer_line.field-0.0 c.in_err-answer_line.ensures.err))

pub lines-preserved : goal.lines-preserved
lines-preserved g c = record {
  entering =
      entering_on _ c.lines.rest.now c.lines.session _ _ _ _ c.lines.invariant.entering c.split_line.result.0.now c.split_line.result.1.now
      c.split_line.ensures.first _ _ c.answer_line.new.session c.in_ok-answer_line.ensures.ok;
  writes = c.in_ok-answer_line.ensures.count ∙ c.lines.invariant.writes;
}

pub returns-clause-ok : goal.returns-clause-ok
returns-clause-ok g c =
    let none : length c.lines.rest.now ≡ 0 = search rules in
    entered _ c.lines.rest.now c.lines.session _ _ _ _ c.lines.invariant.entering (no_lines c.lines.rest.now none)
