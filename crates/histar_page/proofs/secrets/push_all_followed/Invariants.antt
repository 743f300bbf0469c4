-- The invariants and measures of `push_all_followed` of src/secrets.rt.
use Rattle.std.proofs.Common.{◌≡◌, ◌++◌, length}
use Rattle.std.specs.List.{flat_map}
use Rattle.histar_page.specs.Items.{items_of}
use Rattle.histar_page.specs.Texts.{texts}
use Rattle.histar_page.specs.Lines.{words_of}
use Rattle.histar_page.specs.Secrets.{followed_items}
use Rattle.histar_page.proofs.secrets.push_all_followed.Given as goal

abbrev pub decreases-files : goal.decreases-files
decreases-files l = length l.rest

abbrev pub invariant-files : goal.invariant-files
invariant-files l =
    items_of l.pieces.items
    ++ flat_map (λ line. followed_items (texts l.past.script.now) (texts l.past.replies.now) (texts l.past.runners.now) (words_of line))
    (texts l.rest)
    ≡ items_of l.fn.pieces.items
    ++ flat_map (λ line. followed_items (texts l.past.script.now) (texts l.past.replies.now) (texts l.past.runners.now) (words_of line))
    (texts l.files)
