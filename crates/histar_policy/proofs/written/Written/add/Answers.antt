-- Proves the goal of `add` of src/written.rt that the search leaves open.
use Rattle.std.proofs.Common.{ap, ◌∙◌}
use Rattle.histar_policy.specs.Writes.{with_writer}
use Rattle.histar_policy.proofs.Writing.{write_added}
use Rattle.histar_policy.proofs.written.Written.add.Goals as goal

pub returns : goal.returns
returns c =
    write_added c.args.self.now (record { writers = c.insert.new.self }) c.args.user.now c.args.path.now _
    (c.with_writer-writer.ensures ∙ ap (λ o. with_writer o c.args.user.now) c.get.ensures.value) c.in_ok-insert.ensures.updates.0
