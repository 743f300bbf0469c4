-- The invariants and measures of `write_rights` of src/values.rt.
use Rattle.std.proofs.Common.{◌≡◌, ◌++◌, length}
use denote.Text.{Utf8}
use denote.Shadow.{shadow}
use Rattle.json.specs.Tree.{members_tokens}
use Rattle.histar_output.specs.Cuts.{words_of}
use Rattle.histar_output.specs.Parts.{rights_of}
use Rattle.histar_output.proofs.values.write_rights.Given as goal

abbrev pub invariant-words : goal.invariant-words
invariant-words l =
    shadow (Utf8 l.rest)
    × (l.writer.before ≡ l.initial.writer.before)
    × (l.writer.tokens ++ members_tokens (rights_of (words_of l.rest)) ≡ l.initial.writer.tokens ++ members_tokens (rights_of (words_of l.text)))

abbrev pub decreases-words : goal.decreases-words
decreases-words l = length l.rest
