-- Proves the goals of `push_members` of src/table.rt that the search leaves open.
use Rattle.std.proofs.Common.{ap, sym, ◌∙◌}
use Rattle.histar_login.proofs.GroupLemmas.{member_more, member_same}
use Rattle.histar_login.proofs.table.push_members.Goals.{then-has+in_ok-push, else-has}
use Rattle.histar_login.proofs.table.push_members.Goals as goal

pub loop-i-preserved : goal.loop-i-preserved
loop-i-preserved g c = elim c.if-has.branch [
  | then-has+in_ok-push w ↦
      ap (λ t. t.items) w.table-is
      ∙ member_more _ _ _ _ _ _ _
      c.loop-i-test.true c.index-users-i.is (sym c.has.ensures ∙ w.if-has.true) c.loop-i.invariant w.in_ok-push.ensures.items
  | else-has w ↦
      ap (λ t. t.items) w.table-is
      ∙ member_same _ _ _ _ _ _ c.loop-i-test.true c.index-users-i.is (sym c.has.ensures ∙ w.if-has.false) c.loop-i.invariant
]
