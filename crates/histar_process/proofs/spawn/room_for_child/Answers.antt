-- Proves the goals of `room_for_child` of src/spawn.rt that the search leaves open.
use Rattle.std.proofs.Common.{◌≡◌, ℕ, List, Ok, length, ap, ◌∙◌}
use Rattle.std.specs.Prelude.{nat_lt}
use Rattle.histar_flat.specs.Words.{most_numbers}
use Rattle.histar_process.specs.SpawnCall.{must_have_room}
use Rattle.histar_process.proofs.Rooms.{depth_fails, reading_fails, room_fails, room_is_there}
use Rattle.histar_process.proofs.spawn.room_for_child.Given as given
use Rattle.histar_process.proofs.spawn.room_for_child.Goals.{After-read_segment}
use Rattle.histar_process.proofs.spawn.room_for_child.Goals as goal

-- the name has room for one number more
is_deep : (g : given.Over) (c : After-read_segment g) → Ok tt ≡ must_have_room (nat_lt (length c.args.name.now) most_numbers)
is_deep g c = c.in_ok-must_have_room.ensures ∙ ap (λ (ns : List ℕ). must_have_room (nat_lt (length ns) most_numbers)) c.numbers.ensures.value

pub returns-in_err-must_have_room-clause-runs : goal.returns-in_err-must_have_room-clause-runs
returns-in_err-must_have_room-clause-runs g c =
    depth_fails _ _ _ _ g.H.Heap.Refused _ _ c.from_residual.ensures.1
    (c.in_err-must_have_room.ensures ∙ ap (λ (ns : List ℕ). must_have_room (nat_lt (length ns) most_numbers)) c.numbers.ensures.value)

pub returns-in_err-segment-clause-runs : goal.returns-in_err-segment-clause-runs
returns-in_err-segment-clause-runs g c =
    reading_fails _ _ _ _ _ (is_deep g (goal.at.returns-in_err-segment-clause-runs g c).After-read_segment)
    _ _ c.from_residual-in_err-segment.ensures.1 c.in_err-segment.ensures

pub returns-in_err-must_have_room-2-clause-runs : goal.returns-in_err-must_have_room-2-clause-runs
returns-in_err-must_have_room-2-clause-runs g c =
    room_fails _ _ _ _ _ (is_deep g (goal.at.returns-in_err-must_have_room-2-clause-runs g c).After-read_segment)
    _ c.in_ok-segment.ensures _ _ c.from_residual-in_err-must_have_room-2.ensures.1 c.in_err-must_have_room-2.ensures

pub returns-clause-runs : goal.returns-clause-runs
returns-clause-runs g c =
    room_is_there _ _ _ _ _ (is_deep g (goal.at.returns-clause-runs g c).After-read_segment)
    _ c.in_ok-segment.ensures c.in_ok-must_have_room-2.ensures
