-- Proves the goals of `new` of src/session.rt that the search leaves open.
use Rattle.std.proofs.Common.{refl}
use Rattle.histar_dialogue.proofs.Following.{new_right}
use Rattle.histar_dialogue.proofs.session.Session.new.Goals as goal

pub returns : goal.returns
returns c = new_right _ c.new.ensures.items c.new-2.ensures.items refl refl refl
