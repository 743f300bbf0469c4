-- Proves the goals of `write_node` of src/table.rt that the search leaves open.
use Rattle.std.proofs.Common.{ap, ◌∙◌, subst}
use Rattle.std.specs.Io.KnownBytes.{Appends}
use Rattle.std.proofs.lemmas.Result.{err_from_is_err_and}
use Rattle.histar_io.specs.Writing.{AppendsFront}
use Rattle.histar_io.proofs.WritingLemmas.{sent_none}
use Rattle.histar_rights.specs.Table.{access_line_text}
use Rattle.histar_syscall.specs.KernelModel.{state}
use Rattle.histar_access.specs.Cells.{line_of_node, row_below}
use Rattle.histar_access.proofs.table.write_node.Goals as goal

pub returns-in_err-row-clause-err : goal.returns-in_err-row-clause-err
returns-in_err-row-clause-err g c =
    let p = err_from_is_err_and c.from_residual.result c.from_residual.ensures.1 in
    rw p.1 (_, sent_none (g.W.Sink.written c.args.writer.now) _)

pub returns-in_err-line-clause-err : goal.returns-in_err-line-clause-err
returns-in_err-line-clause-err g c =
    let p = err_from_is_err_and c.from_residual-in_err-line.result c.from_residual-in_err-line.ensures.1 in
    rw p.1 (_, sent_none (g.W.Sink.written c.args.writer.now) _)

pub returns-in_err-write_bytes-clause-err : goal.returns-in_err-write_bytes-clause-err
returns-in_err-write_bytes-clause-err g c =
    let p = err_from_is_err_and c.from_residual-in_err-write_bytes.result c.from_residual-in_err-write_bytes.ensures.1 in
    let row = c.in_ok-row.ensures ∙ (λ j. row_below (state (c.kernel.ensures j)) (c.object.ensures j) c.args.above.now) in
    let line = c.as_slice-2.ensures.value ∙ c.in_ok-line.ensures
    ∙ ap (λ cells. access_line_text (line_of_node c.args.node.now cells)) (c.as_slice.ensures.value ∙ row) in
    rw p.1 (subst (AppendsFront (g.W.Sink.written c.args.writer.now) (g.W.Sink.written c.write_bytes.new.writer)) line
    c.in_err-write_bytes.ensures.err)

pub returns-clause-row : goal.returns-clause-row
returns-clause-row g c =
    c.in_ok-row.ensures ∙ (λ j. row_below (state (c.kernel.ensures j)) (c.object.ensures j) c.args.above.now)

pub returns-clause-ok : goal.returns-clause-ok
returns-clause-ok g c =
    let line = c.as_slice-2.ensures.value ∙ c.in_ok-line.ensures
    ∙ ap (λ cells. access_line_text (line_of_node c.args.node.now cells)) (c.as_slice.ensures.value ∙ returns-clause-row g c) in
    subst (Appends (g.W.Sink.written c.args.writer.now) (g.W.Sink.written c.write_bytes.new.writer)) line c.in_ok-write_bytes.ensures.ok
