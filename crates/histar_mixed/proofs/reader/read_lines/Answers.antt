-- Proves the goals of `read_lines` of src/reader.rt that the search leaves open.
use Rattle.std.proofs.Common.{◌≡◌, true, false, eqb, length, arith, rules}
use Rattle.histar_io.proofs.Residuals.{passed_on}
use Rattle.histar_mixed.proofs.LinesRead.{all_read, line_bad, line_read, no_users}
use Rattle.histar_mixed.proofs.reader.read_lines.Goals as goal

pub loop-rest-preserved : goal.loop-rest-preserved
loop-rest-preserved c =
    let line = c.split_line.result.0.now in record {
      so_far =
          line_read c.args.text.now c.loop-rest.rest.now c.split_line.result.1.now line c.loop-rest.count c.loop-rest.script
          c.loop-rest.marks.items c.loop-rest.invariant.so_far c.split_line.ensures.first c.read_line.new.script
          c.read_line.new.marks.items c.in_ok-read_line.ensures;
      counted = omega (arith, c.loop-rest.invariant.counted, c.split_line.ensures.shorter);
    }

pub returns-in_err-read_line-clause-err : goal.returns-in_err-read_line-clause-err
returns-in_err-read_line-clause-err c =
    rw (passed_on _ _ c.from_residual.ensures.1) (line_bad c.args.text.now c.loop-rest.rest.now c.split_line.result.1.now
    c.split_line.result.0.now c.loop-rest.count
    c.loop-rest.script c.loop-rest.marks.items c.loop-rest.invariant.so_far c.split_line.ensures.first c.requires.short
    c.in_err-read_line.field-0.0
    c.in_err-read_line.ensures)

pub returns-then-is_empty-clause-err : goal.returns-then-is_empty-clause-err
returns-then-is_empty-clause-err c =
    let none : length c.loop-rest.rest.now ≡ 0 = search rules in
    let empty : eqb (length c.loop-rest.script.accounts.users) 0 ≡ true = search rules in (
      c.requires.short,
      no_users c.args.text.now c.loop-rest.rest.now c.loop-rest.count c.loop-rest.script c.loop-rest.marks.items none
          c.loop-rest.invariant.so_far empty,
    )

pub returns-clause-ok : goal.returns-clause-ok
returns-clause-ok c =
    let none : length c.loop-rest.rest.now ≡ 0 = search rules in
    let some : eqb (length c.loop-rest.script.accounts.users) 0 ≡ false = search rules in
    rw (c.in_ok-items.ensures, c.into_parts-accounts.ensures.accounts, c.into_parts-accounts.ensures.calls)
    (all_read c.args.text.now c.loop-rest.rest.now c.loop-rest.count c.loop-rest.script c.loop-rest.marks.items none
    c.loop-rest.invariant.so_far some c.requires.short)
