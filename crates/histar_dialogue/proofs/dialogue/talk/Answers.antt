-- Proves the goals of `talk` of src/dialogue.rt that the search leaves open.
use Rattle.std.proofs.Common.{List, ℕ, ◌∙◌, ap, codes, refl, sym, subst}
use Rattle.std.proofs.lemmas.Slice.Eq.{bytes_eq-Decides}
use Rattle.histar_io.proofs.Residuals.{passed_on}
use Rattle.histar_dialogue.specs.Dialogue.{is_quit}
use Rattle.histar_dialogue.specs.Exchange.{AnswersTo, StopsAnswer}
use Rattle.histar_dialogue.specs.Input.{TakesNext}
use Rattle.histar_dialogue.proofs.Talking.{answer_fault, going_first, no_write, prompt_fault, read_fault, talk_ends, talk_gives_up, talk_goes_on}
use Rattle.histar_dialogue.proofs.Talking.{talk_quits}
use Rattle.histar_dialogue.proofs.dialogue.talk.Goals as goal

pub lines-init : goal.lines-init
lines-init g c = record {
  going =
      going_first c.args.prompt (g.R.Source.left c.args.reader.now) (g.W.Sink.written c.args.writer.now) (g.S.Shelf.saved c.args.shelf.now)
      c.new-input.result c.args.session.now c.new-input.ensures c.requires;
  reads = refl;
  writes = refl;
}

pub returns-in_err-write_prompt-clause-talks : goal.returns-in_err-write_prompt-clause-talks
returns-in_err-write_prompt-clause-talks g c =
    rw (passed_on _ _ c.from_residual.ensures.1)
    (prompt_fault _ _ _ _ _ _ _ c.lines.input c.lines.session c.lines.invariant.going _ c.in_err-write_prompt.field-0.0
    c.in_err-write_prompt.ensures.faults
    c.in_err-write_prompt.ensures.err)

pub returns-in_err-line-clause-talks : goal.returns-in_err-line-clause-talks
returns-in_err-line-clause-talks g c =
    rw (passed_on _ _ c.from_residual-in_err-line.ensures.1)
    (read_fault _ _ _ _ _ _ _ c.lines.input c.lines.session c.lines.invariant.going _ c.in_ok-write_prompt.ensures.ok _ c.in_err-line.field-0.0
    c.in_err-line.ensures.err)

pub returns-in_err-line-clause-writes : goal.returns-in_err-line-clause-writes
returns-in_err-line-clause-writes g c =
    rw (passed_on _ _ c.from_residual-in_err-line.ensures.1, no_write _ _ c.in_err-line.field-0.0 c.in_err-line.ensures.err)
    (c.in_ok-write_prompt.ensures.count ∙ c.lines.invariant.writes)

pub returns-in_default-clause-talks : goal.returns-in_default-clause-talks
returns-in_default-clause-talks g c =
    talk_ends _ _ _ _ _ _ _ c.lines.input c.lines.session c.lines.invariant.going _ c.in_ok-write_prompt.ensures.ok _ c.next_line.new.self
    (subst (TakesNext (g.R.Source.left c.lines.reader) (g.R.Source.left c.next_line.new.reader) c.lines.input c.next_line.new.self) c.in_default.is
    c.in_ok-line.ensures.ok)

pub returns-then-is_quit-clause-talks : goal.returns-then-is_quit-clause-talks
returns-then-is_quit-clause-talks g c =
    talk_quits _ _ _ _ _ _ _ c.lines.input c.lines.session c.lines.invariant.going _ c.in_ok-write_prompt.ensures.ok _ c.next_line.new.self
    c.in-Some.line
    (subst (TakesNext (g.R.Source.left c.lines.reader) (g.R.Source.left c.next_line.new.reader) c.lines.input c.next_line.new.self) c.in-Some.is
    c.in_ok-line.ensures.ok)
    (sym c.as_slice.ensures.value
    ∙ (bytes_eq-Decides c.as_slice.result.now (codes ":quit")).0 (sym c.is_quit.ensures ∙ c.if-is_quit.true))

pub returns-in_err-answer_line-clause-talks : goal.returns-in_err-answer_line-clause-talks
returns-in_err-answer_line-clause-talks g c =
    rw (passed_on _ _ c.from_residual-in_err-answer_line.ensures.1)
    (answer_fault _ _ _ _ _ _ _ c.lines.input c.lines.session c.lines.invariant.going _ c.in_ok-write_prompt.ensures.ok _ c.next_line.new.self
    c.in-Some.line
    (subst (TakesNext (g.R.Source.left c.lines.reader) (g.R.Source.left c.next_line.new.reader) c.lines.input c.next_line.new.self) c.in-Some.is
    c.in_ok-line.ensures.ok)
    (ap is_quit (sym c.as_slice.ensures.value) ∙ sym c.is_quit.ensures ∙ c.if-is_quit.false)
    c.answer_line.new.session _ _ c.in_err-answer_line.field-0.0
    (subst (λ (l : List ℕ). StopsAnswer c.lines.session c.answer_line.new.session l (g.S.Shelf.saved c.lines.shelf)
    (g.S.Shelf.saved c.answer_line.new.shelf) (g.W.Sink.written c.write_prompt.new.writer) (g.W.Sink.written c.answer_line.new.writer)
    c.in_err-answer_line.field-0.0)
    c.as_slice-in-lines.ensures.value c.in_err-answer_line.ensures.err))

pub lines-preserved : goal.lines-preserved
lines-preserved g c = record {
  going =
      talk_goes_on _ _ _ _ _ _ _ c.lines.input c.lines.session c.lines.invariant.going _ c.in_ok-write_prompt.ensures.ok _ c.next_line.new.self
      c.in-Some.line
      (subst (TakesNext (g.R.Source.left c.lines.reader) (g.R.Source.left c.next_line.new.reader) c.lines.input c.next_line.new.self) c.in-Some.is
      c.in_ok-line.ensures.ok)
      (ap is_quit (sym c.as_slice.ensures.value) ∙ sym c.is_quit.ensures ∙ c.if-is_quit.false)
      c.answer_line.new.session _ _
      (subst
      (λ (l : List ℕ).
      AnswersTo c.lines.session c.answer_line.new.session l (g.S.Shelf.saved c.lines.shelf) (g.S.Shelf.saved c.answer_line.new.shelf)
      (g.W.Sink.written c.write_prompt.new.writer) (g.W.Sink.written c.answer_line.new.writer))
      c.as_slice-in-lines.ensures.value c.in_ok-answer_line.ensures.ok);
  reads = c.in_ok-line.ensures.count ∙ c.lines.invariant.reads;
  writes = c.in_ok-answer_line.ensures.count ∙ c.in_ok-write_prompt.ensures.count ∙ c.lines.invariant.writes;
}

pub returns-clause-talks : goal.returns-clause-talks
returns-clause-talks g c = talk_gives_up _ _ _ _ _ _ _ c.lines.input c.lines.session c.lines.invariant.going
