-- The invariants and measures of `write_holders` of src/values.rt.
use Rattle.std.proofs.Common.{◌≡◌, ◌++◌, length}
use denote.Text.{Utf8}
use denote.Shadow.{shadow}
use Rattle.json.specs.Tree.{items_tokens}
use Rattle.histar_output.specs.Cuts.{holders_in}
use Rattle.histar_output.specs.Parts.{strings}
use Rattle.histar_output.proofs.values.write_holders.Given as goal

abbrev pub invariant-words : goal.invariant-words
invariant-words l =
    shadow (Utf8 l.rest)
    × (l.writer.before ≡ l.initial.writer.before)
    × (l.writer.tokens ++ items_tokens (strings (holders_in l.rest)) ≡ l.initial.writer.tokens ++ items_tokens (strings (holders_in l.text)))

abbrev pub decreases-words : goal.decreases-words
decreases-words l = length l.rest
