-- Proves the goals of `begin` of src/dialogue.rt that the search leaves open.
use Rattle.std.proofs.Common.{ap}
use Rattle.std.specs.Option.{option_copied}
use Rattle.histar_dialogue.proofs.Talking.{begins_none}
use Rattle.histar_dialogue.proofs.dialogue.begin.Goals as goal

pub returns-in-None-clause-ok : goal.returns-in-None-clause-ok
returns-in-None-clause-ok g c =
    begins_none (option_copied c.args.first) c.new.result (g.S.Shelf.saved c.args.shelf.now) (g.W.Sink.written c.args.writer.now)
    (ap option_copied c.in-None.is) c.new.ensures
