-- The invariants and measures of `lines_text` of src/users_texts.rt.
use Rattle.std.proofs.Common.{◌≡◌, take}
use Rattle.std.specs.List.{flat_map}
use Rattle.histar_ever.specs.GatheringUsers.{gathered_users_line}
use Rattle.histar_ever.proofs.users_texts.lines_text.Given as goal

abbrev pub invariant-loop-path : goal.invariant-loop-path
invariant-loop-path l = l.text.items ≡ flat_map (gathered_users_line l.ever.letters l.ever.users.items) (take l.path-index l.paths)
