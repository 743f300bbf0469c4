-- The invariants and measures of `push_secrets` of src/secrets.rt.
use Rattle.std.proofs.Common.{◌≡◌, ◌++◌, length}
use Rattle.std.specs.List.{flat_map}
use Rattle.histar_page.specs.Items.{items_of}
use Rattle.histar_page.specs.Texts.{texts}
use Rattle.histar_page.specs.Lines.{words_of}
use Rattle.histar_page.specs.Secrets.{secret_items}
use Rattle.histar_page.proofs.secrets.push_secrets.Given as goal

abbrev pub decreases-lines : goal.decreases-lines
decreases-lines l = length l.rest

abbrev pub invariant-lines : goal.invariant-lines
invariant-lines l =
    items_of l.pieces.items ++ flat_map (λ line. secret_items (words_of line)) (texts l.rest)
    ≡ items_of l.fn.pieces.items ++ flat_map (λ line. secret_items (words_of line)) (texts l.lines)
