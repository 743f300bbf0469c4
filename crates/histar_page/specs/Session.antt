-- The session on a page: its calls between the comments of its script, and behind each call its raw calls and why some were denied.
use Rattle.std.specs.Prelude.{ℕ, ◌&&◌, ◌-◌, not, Bool, List, [], ◌∷◌, ◌++◌, codes, drop, filter, is_some, map, nat_lt, Option}
use Rattle.std.specs.Prelude.{if◌then◌else◌}
use Rattle.std.specs.List.{flat_map}
use Rattle.histar_flat.specs.Words.{split_at_first}
use Rattle.histar_script.specs.Lines.{split_word}
use Rattle.histar_page.specs.declared.kind.Kind.{Kind}
use Rattle.histar_page.specs.declared.kind.Kind.TheVariants.{OtherLine, RawCall, DeniedCall, HiddenBytes, Explanation, CallBy, BareBy, LineId}
use Rattle.histar_page.specs.declared.kind.Kind.TheVariants.{SetUpBy, BareSetUpBy}
use Rattle.histar_page.specs.declared.markup.Markup.TheVariants.{BeginBehind, BeginBoot, BeginOther, BeginSession, BeginSummary, EndBare, EndCall}
use Rattle.histar_page.specs.declared.markup.Markup.TheVariants.{EndSession}
use Rattle.histar_page.specs.Items.{Item}
use Rattle.histar_page.specs.Items.Item.{Fixed, Shown}
use Rattle.histar_page.specs.Callers.{caller, callers, link_items}
use Rattle.histar_page.specs.Lines.{is_denied, is_explanation, is_own, is_raw_call, is_reason, is_reply, mark_number}
use Rattle.histar_page.specs.Order.{Marked, own_marked, later_marked, past_own, taken_own}
use Rattle.histar_page.specs.SetUp.{folded_count, set_up_link}
use Rattle.histar_page.specs.Story.{line_number, lines_between, note_items, call_items}

-- ---- the items of one line

-- a denied raw call is marked
abbrev pub raw_kind : List ℕ → Kind
raw_kind line = if is_denied line then DeniedCall else RawCall

-- what is before the bytes of a raw call, and these, if it has bytes
abbrev pub at_bytes : List ℕ → List ℕ × Option (List ℕ)
at_bytes line = split_at_first 120 line

-- a raw call of boot that has bytes, which may be a password: they come after the number of its line
abbrev pub hides_bytes : List ℕ → Bool
hides_bytes line =
    is_own (codes "0") line && (is_own (codes "0") (at_bytes line).0 && (not (is_denied line) && is_some (at_bytes line).1))

-- a raw call; of one of boot what is before its bytes
abbrev pub raw_item : List ℕ → Item
raw_item line = if hides_bytes line then Shown HiddenBytes (at_bytes line).0 else Shown (raw_kind line) line

-- an explanation
abbrev pub why_item : List ℕ → Item
why_item line = Shown Explanation line

-- ---- a call

-- these raw calls and explanations, which a reader has to open
abbrev pub kernel_items : List (List ℕ) → List (List ℕ) → List Item
kernel_items raw_calls explanations = Fixed BeginBehind ∷ map raw_item raw_calls ++ map why_item explanations ++ Fixed EndCall ∷ []

-- the kind of the process of a call that can be opened, by whether the call is folded
abbrev pub call_kind : Bool → Kind
call_kind folds = if folds then SetUpBy else CallBy

-- the kind of the process of a call with nothing behind it, by whether the call is folded
abbrev pub bare_kind : Bool → Kind
bare_kind folds = if folds then BareSetUpBy else BareBy

-- these items of a call of this process on this line, with the raw calls and explanations behind it; one without any can't be opened
abbrev pub framed_items : Bool → List ℕ → List ℕ → List Item → List (List ℕ) → List (List ℕ) → List Item
framed_items folds by number call [] [] = Shown (bare_kind folds) by ∷ Shown LineId number ∷ call ++ Fixed EndBare ∷ []
framed_items folds by number call raw_calls explanations =
    Shown (call_kind folds) by ∷ Shown LineId number ∷ Fixed BeginSummary ∷ call ++ kernel_items raw_calls explanations

-- the comments after the reply before this one; then the call with its reply, folded or not, and the lines that belong to it
abbrev pub turn_items : Bool → List (List ℕ) → List ℕ → List ℕ → Marked → List Item
turn_items folds script before reply own =
    flat_map (note_items before) (lines_between script before reply)
    ++ framed_items folds (caller script reply) (split_word reply).0 (call_items script reply own.reasons) own.raw_calls own.explanations

-- ---- the session

-- the heading of a session, and a link for each of these processes
abbrev pub begin_items : List (List ℕ) → List Item
begin_items processes = Fixed BeginSession ∷ flat_map link_items processes

-- the raw calls of boot, after the number 0
abbrev pub boot_items : List (List ℕ) → List Item
boot_items raw_calls =
    Fixed BeginBoot ∷ Shown OtherLine (codes "0") ∷ Fixed BeginBehind ∷ map raw_item raw_calls ++ Fixed EndCall ∷ []

-- a raw call that belongs to no reply, after its own number
abbrev pub other_call_items : List ℕ → List Item
other_call_items line = Fixed BeginOther ∷ Shown OtherLine (mark_number line) ∷ Fixed BeginBehind ∷ raw_item line ∷ Fixed EndCall ∷ []

-- an explanation that belongs to no reply, after its own number
abbrev pub other_why_items : List ℕ → List Item
other_why_items line = Fixed BeginOther ∷ Shown OtherLine (mark_number line) ∷ Fixed BeginBehind ∷ why_item line ∷ Fixed EndCall ∷ []

-- The session from a reply on, with so many folded calls at its beginning: the turn of each reply with the lines that belong to it, in their
-- order; and at the end the comments after the last call, and the raw calls and explanations that belong to no reply.
abbrev pub turns_from : ℕ → List (List ℕ) → List ℕ → List (List ℕ) → Marked → List Item
turns_from folded script before [] marked =
    flat_map (note_items before) (drop (line_number before) script)
    ++ flat_map other_call_items marked.raw_calls ++ flat_map other_why_items marked.explanations
turns_from folded script before (reply ∷ replies) marked =
    turn_items (nat_lt 0 folded) script before reply (own_marked (split_word reply).0 marked)
    ++ turns_from (folded - 1) script reply replies (later_marked (split_word reply).0 marked)

-- the session of these replies: the raw calls of boot, the link to the folded calls, and then the calls
abbrev pub calls_items : List (List ℕ) → List (List ℕ) → Marked → List Item
calls_items script replies marked =
    boot_items (taken_own (codes "0") marked.raw_calls)
    ++ set_up_link (folded_count script replies)
    ++ turns_from (folded_count script replies) script [] replies (record marked { raw_calls = past_own (codes "0") marked.raw_calls })
    ++ Fixed EndSession ∷ []

-- the part of a page that shows a session, by the lines of its script, of its output and of its reasons
abbrev pub session_items : List (List ℕ) → List (List ℕ) → List (List ℕ) → List Item
session_items script output reasons =
    begin_items (callers script (filter is_reply output))
    ++ calls_items script (filter is_reply output) (record {
      reasons = filter is_reason reasons;
      raw_calls = filter is_raw_call output;
      explanations = filter is_explanation output;
    })
