-- Proves the goals of `columns_of` of src/columns.rt that the search leaves open.
use Rattle.std.proofs.Common.{◌++◌, ◌∷◌, ◌-◌, [], ap, append_assoc, arith, length, sym, ◌∙◌}
use Rattle.histar_diff.specs.Columns.{columns_from}
use Rattle.histar_diff.proofs.Steps.{column_of, columns_step}
use Rattle.histar_diff.proofs.columns.columns_of.Goals as goal

pub processes-smaller : goal.processes-smaller
processes-smaller c =
    let one = columns_step (length c.args.old.now) (length c.args.new.now) c.in-Some.process c.processes.old_rest.now c.processes.new_rest.now
    (sym c.in-Some.ensures) c.processes.invariant.old_within c.processes.invariant.new_within in
    let shorter = one.shorter in
    omega (arith, shorter, ap length c.after-old_rest.ensures, ap length c.after-new_rest.ensures)

pub processes-preserved : goal.processes-preserved
processes-preserved c =
    let n = length c.args.old.now in
    let m = length c.args.new.now in
    let old = c.processes.old_rest.now in
    let new = c.processes.new_rest.now in
    let one = columns_step n m c.in-Some.process old new (sym c.in-Some.ensures) c.processes.invariant.old_within c.processes.invariant.new_within in
    let old_shorter = one.old_shorter in
    let new_shorter = one.new_shorter in
    let old_within = c.processes.invariant.old_within in
    let new_within = c.processes.invariant.new_within in
    let after_old = c.after-old_rest.result.now in
    let after_new = c.after-new_rest.result.now in
    let rest = columns_from (n - length after_old) after_old (m - length after_new) after_new in
    let here = column_of c.in-Some.process c.place.result c.place-in-Some.result in
    record {
      joined = ap (λ cs. cs ++ rest) c.in_ok-push.ensures.items
          ∙ append_assoc c.processes.columns.items (here ∷ []) rest
          ∙ ap (λ cs. c.processes.columns.items ++ cs)
          ((λ i. column_of c.in-Some.process (c.place.ensures i) (c.place-in-Some.ensures i) ∷ columns_from
          (n - length (c.after-old_rest.ensures i)) (c.after-old_rest.ensures i)
          (m - length (c.after-new_rest.ensures i)) (c.after-new_rest.ensures i)) ∙ sym one.is)
          ∙ c.processes.invariant.joined;
      old_within = omega (arith, old_shorter, old_within, ap length c.after-old_rest.ensures);
      new_within = omega (arith, new_shorter, new_within, ap length c.after-new_rest.ensures);
    }
