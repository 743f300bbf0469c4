-- The calls at the beginning of a session that set it up, which a page folds.
use Rattle.std.specs.Prelude.{ℕ, ◌&&◌, ◌||◌, not, Bool, List, [], ◌∷◌, ◌==◌, codes, decimal, length, nat_lt, suc}
use Rattle.std.specs.Prelude.{if◌then◌else◌}
use Rattle.std.specs.List.{list_any}
use Rattle.std.specs.Str.{bytes_eq}
use Rattle.histar_script.specs.Lines.{split_word}
use Rattle.histar_page.specs.declared.kind.Kind.TheVariants.{SetUpCalls}
use Rattle.histar_page.specs.declared.set_up.TheConstants.{FEWEST_FOLDED}
use Rattle.histar_page.specs.Items.{Item}
use Rattle.histar_page.specs.Items.Item.{Shown}
use Rattle.histar_page.specs.Lines.{after_word, call_on, is_refused}
use Rattle.histar_page.specs.Story.{lines_between, note_items}

-- ---- one call

-- the second word of a call is `spawn`, `login` or `mkdir`
abbrev pub is_set_up : List ℕ → Bool
is_set_up call =
    let word = (split_word (after_word call)).0 in
    bytes_eq word (codes "spawn") || bytes_eq word (codes "login") || bytes_eq word (codes "mkdir")

-- a line of the script after this reply is a comment that is shown
abbrev pub shows_note : List ℕ → List ℕ → Bool
shows_note reply line = not (length (note_items reply line) == 0)

-- the call of a reply sets up, is not refused, and has no comment shown between it and the call before it, where there is one
abbrev pub sets_up : List (List ℕ) → List ℕ → List ℕ → Bool
sets_up script before reply =
    is_set_up (call_on script reply) && not (is_refused reply)
    && (length before == 0 || not (list_any (shows_note before) (lines_between script before reply)))

-- ---- how many

-- how many replies from here on set up a session, one after another
abbrev pub set_up_from : List (List ℕ) → List ℕ → List (List ℕ) → ℕ
set_up_from script before [] = 0
set_up_from script before (reply ∷ replies) = if sets_up script before reply then suc (set_up_from script reply replies) else 0

-- how many calls at the beginning of a session are folded: those that set it up, unless they are fewer than FEWEST_FOLDED
abbrev pub folded_count : List (List ℕ) → List (List ℕ) → ℕ
folded_count script replies =
    let number = set_up_from script [] replies in
    if nat_lt number FEWEST_FOLDED then 0 else number

-- ---- how they are unfolded

-- the link that says how many calls are folded, at whose address they are seen; none where no call is folded
abbrev pub set_up_link : ℕ → List Item
set_up_link number = if nat_lt 0 number then Shown SetUpCalls (decimal number) ∷ [] else []
