-- Proves the goals of `answer_line` of src/dialogue.rt that the search leaves open.
use Rattle.std.proofs.Common.{subst}
use Rattle.std.specs.Io.KnownBytes.{Appends}
use Rattle.histar_dialogue.proofs.dialogue.answer_line.Goals as goal

pub returns-clause-ok : goal.returns-clause-ok
returns-clause-ok g c =
    let answered = c.in_ok-said.ensures.ok c.requires in
    record {
      said = c.in_ok-said.said.items;
      answers = answered.0;
      right = answered.1;
      written = subst (Appends (g.W.Sink.written c.args.writer.now)
          (g.W.Sink.written c.write_bytes.new.writer)) c.as_slice.ensures.value c.in_ok-write_bytes.ensures.ok;
    }
