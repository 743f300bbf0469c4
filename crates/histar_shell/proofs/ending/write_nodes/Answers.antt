-- Proves the goals of `write_nodes` of src/ending.rt that the search leaves open.
use Rattle.std.proofs.Common.{◌≡◌, rules, take, subst, ◌∙◌, ap}
use Rattle.std.specs.List.{flat_map}
use Rattle.std.specs.Io.KnownBytes.{Appends}
use Rattle.std.proofs.lemmas.List.{take_all}
use Rattle.std.proofs.lemmas.Result.{err_from_is_err_and}
use Rattle.histar_io.specs.Writing.{AppendsFront}
use Rattle.histar_syscall.specs.KernelModel.{state}
use Rattle.histar_shell.specs.TreeText.{tree_line_text}
use Rattle.histar_shell.proofs.EachLine.{node_text, nodes_text, line_begun, line_more, line_unwritten}
use Rattle.histar_shell.proofs.ending.write_nodes.Goals as goal

pub returns-in_err-line-clause-err : goal.returns-in_err-line-clause-err
returns-in_err-line-clause-err g c =
    let p = err_from_is_err_and c.from_residual.result c.from_residual.ensures.1 in
    rw p.1 (subst (AppendsFront _ _) (nodes_text (state c.args.machine.now.kernel) c.args.nodes.now)
    (line_unwritten (node_text (state c.args.machine.now.kernel)) c.args.nodes.now c.lines.node-index
    c.node-item.result (search rules) (search rules) _ _ c.lines.invariant.written))

pub returns-in_err-write_bytes-clause-err : goal.returns-in_err-write_bytes-clause-err
returns-in_err-write_bytes-clause-err g c =
    let p = err_from_is_err_and c.from_residual-in_err-write_bytes.result c.from_residual-in_err-write_bytes.ensures.1 in
    rw p.1 (subst (AppendsFront _ _) (nodes_text (state c.args.machine.now.kernel) c.args.nodes.now)
    (line_begun (node_text (state c.args.machine.now.kernel)) c.args.nodes.now c.lines.node-index
    c.node-item.result (search rules) (search rules) _ _ _ c.in_ok-line.line.items c.as_slice.result.now
    c.lines.invariant.written (c.in_ok-line.ensures.ok
    ∙ (λ i. tree_line_text (record {
      path = c.node-item.result.path;
      stat = c.stat.ensures i;
      bytes = c.bytes_of-bytes.ensures i;
    }))) c.as_slice.ensures.value c.in_err-write_bytes.ensures.err))

pub lines-preserved : goal.lines-preserved
lines-preserved g c = record {
  written =
      line_more (node_text (state c.args.machine.now.kernel)) c.args.nodes.now c.lines.node-index c.node-item.result
      (search rules) (search rules) _ _ _ c.in_ok-line.line.items c.as_slice.result.now c.lines.invariant.written
      (c.in_ok-line.ensures.ok
      ∙ (λ i. tree_line_text (record {
        path = c.node-item.result.path;
        stat = c.stat.ensures i;
        bytes = c.bytes_of-bytes.ensures i;
      }))) c.as_slice.ensures.value c.in_ok-write_bytes.ensures.ok;
  count = search rules;
}

pub returns-clause-ok : goal.returns-clause-ok
returns-clause-ok g c =
    let s = state c.args.machine.now.kernel in
    let all : take c.lines.node-index c.args.nodes.now ≡ c.args.nodes.now = take_all c.lines.node-index c.args.nodes.now c.lines-test.false in
    subst (Appends (g.W.Sink.written c.args.writer.now) (g.W.Sink.written c.lines.writer))
    (ap (flat_map (node_text s)) all ∙ nodes_text s c.args.nodes.now) c.lines.invariant.written
