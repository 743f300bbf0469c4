-- Proves the goals of `put_object` of src/labelled.rt that the search leaves open.
use Rattle.histar_container.proofs.Keeping.{trans, new_stands, new_shown}
use Rattle.histar_rules.proofs.labelled.put_object.Goals as goal

pub returns-in_err-label-clause-keeps : goal.returns-in_err-label-clause-keeps
returns-in_err-label-clause-keeps g c =
    trans _ _ _ c.put_kind.ensures.keeps c.put.ensures.keeps

pub returns-clause-stands : goal.returns-clause-stands
returns-clause-stands g c =
    new_stands _ _ c.put.ensures.keeps _ c.in_ok-kind.ensures.stands _ _ c.in_ok-label.ensures.stands

pub returns-clause-value : goal.returns-clause-value
returns-clause-value g c =
    new_shown _ _ c.put.ensures.keeps _ c.in_ok-kind.ensures.stands _ c.in_ok-kind.ensures.value _ _ c.in_ok-label.ensures.stands

pub returns-clause-keeps : goal.returns-clause-keeps
returns-clause-keeps g c =
    trans _ _ _ c.put_kind.ensures.keeps c.put.ensures.keeps
