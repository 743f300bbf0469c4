-- The invariants and measures of `write_members` of src/parts.rt.
use Rattle.std.proofs.Common.{◌≡◌, ◌++◌, drop, map, Some}
use Rattle.std.specs.Option.{option_copied}
use Rattle.json.specs.Tree.{members_tokens}
use Rattle.histar_output.specs.Parts.{members_of}
use Rattle.histar_output.specs.Written.{part_of}
use Rattle.histar_output.proofs.parts.write_members.Given as goal

abbrev pub invariant-parts : goal.invariant-parts
invariant-parts l =
    (l.writer.before ≡ l.initial.writer.before)
    × (l.writer.tokens ++ members_tokens (members_of (map part_of (drop l.part-index l.parts)) (option_copied l.left))
    ≡ l.initial.writer.tokens ++ members_tokens (members_of (map part_of l.parts) (Some l.line)))
