-- Proves the goals of `write_entries` of src/ending.rt that the search leaves open.
use Rattle.std.proofs.Common.{rules}
use Rattle.std.proofs.lemmas.Option.{get_or_from_slice_get, slice_get_within}
use Rattle.std.proofs.lemmas.Result.{err_from_is_err_and}
use Rattle.histar_rawtext.specs.RawText.{trace_line}
use Rattle.histar_shell.proofs.EachLine.{line_begun, line_more, rest_unwritten}
use Rattle.histar_shell.proofs.ending.write_entries.Goals as goal

pub returns-in_err-line-clause-err : goal.returns-in_err-line-clause-err
returns-in_err-line-clause-err g c =
    let p = err_from_is_err_and c.from_residual.result c.from_residual.ensures.1 in
    rw p.1 (rest_unwritten trace_line c.args.trace.now.entries c.lines.at _ _ c.lines.invariant.written)

pub returns-in_err-write_bytes-clause-err : goal.returns-in_err-write_bytes-clause-err
returns-in_err-write_bytes-clause-err g c =
    let p = err_from_is_err_and c.from_residual-in_err-write_bytes.result c.from_residual-in_err-write_bytes.ensures.1 in
    rw p.1 (line_begun trace_line c.args.trace.now.entries c.lines.at c.in_ok-line.ensures.ok.0
    (slice_get_within c.args.trace.now.entries c.lines.at c.in_ok-line.ensures.ok.0 c.in_ok-line.ensures.ok.1)
    (get_or_from_slice_get c.args.trace.now.entries c.lines.at c.in_ok-line.ensures.ok.0 c.in_ok-line.ensures.ok.0 c.in_ok-line.ensures.ok.1)
    _ _ _ c.in_ok-line.line.items c.as_slice.result.now c.lines.invariant.written c.in_ok-line.ensures.ok.2
    c.as_slice.ensures.value c.in_err-write_bytes.ensures.err)

pub lines-preserved : goal.lines-preserved
lines-preserved g c =
    record {
      written =
          line_more trace_line c.args.trace.now.entries c.lines.at c.in_ok-line.ensures.ok.0
          (slice_get_within c.args.trace.now.entries c.lines.at c.in_ok-line.ensures.ok.0 c.in_ok-line.ensures.ok.1)
          (get_or_from_slice_get c.args.trace.now.entries c.lines.at c.in_ok-line.ensures.ok.0 c.in_ok-line.ensures.ok.0
          c.in_ok-line.ensures.ok.1) _ _ _ c.in_ok-line.line.items c.as_slice.result.now c.lines.invariant.written c.in_ok-line.ensures.ok.2
          c.as_slice.ensures.value c.in_ok-write_bytes.ensures.ok;
      count = search rules;
    }
