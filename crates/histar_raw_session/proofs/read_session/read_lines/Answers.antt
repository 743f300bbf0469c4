-- Proves the goals of `read_lines` of src/read_session.rt that the search leaves open.
use Rattle.std.proofs.Common.{◌≡◌, true, length, sym, arith, rules}
use Rattle.histar_raw_session.specs.Session.{is_comment}
use Rattle.histar_raw_session.proofs.LinesRead.{read_comment, read_one, all_read}
use Rattle.histar_raw_session.proofs.read_session.read_lines.Goals as goal

pub loop-rest-preserved-in_ok-push : goal.loop-rest-preserved-in_ok-push
loop-rest-preserved-in_ok-push g c =
    let line = c.split_line.result.0.now in record {
      so_far =
          rw c.in_ok-push.ensures.items (read_one c.args.text.now c.loop-rest.rest.now c.split_line.result.1.now line c.loop-rest.count
          c.loop-rest.calls.items c.in_ok-read_call.field-0 c.loop-rest.invariant.so_far c.split_line.ensures.first
          c.in_ok-read_call.ensures.ok);
      counted = omega (arith, c.loop-rest.invariant.counted, c.split_line.ensures.shorter);
    }

pub loop-rest-preserved : goal.loop-rest-preserved
loop-rest-preserved g c =
    let line = c.split_line.result.0.now in
    let comment : is_comment line ≡ true = sym c.if-not-is_comment.ensures in record {
      so_far =
          read_comment c.args.text.now c.loop-rest.rest.now c.split_line.result.1.now line c.loop-rest.count
          c.loop-rest.calls.items c.loop-rest.invariant.so_far c.split_line.ensures.first comment;
      counted = omega (arith, c.loop-rest.invariant.counted, c.split_line.ensures.shorter);
    }

pub returns-clause-ok : goal.returns-clause-ok
returns-clause-ok g c =
    let none : length c.loop-rest.rest.now ≡ 0 = search rules in
    all_read c.args.text.now c.loop-rest.count c.loop-rest.calls.items c.loop-rest.rest.now none c.loop-rest.invariant.so_far
