-- What a page guarantees: of its session the story, and that each raw call and each explanation is behind the number of its line; and that its
-- tags nest.
use Rattle.std.specs.Prelude.{◌≡◌, ℕ, ◌||◌, Bool, true, false, List, [], ◌∷◌, codes, filter, map, Some, if◌then◌else◌}
use Rattle.histar_page.specs.declared.kind.Kind.{Kind}
use Rattle.histar_page.specs.declared.kind.Kind.TheVariants.{LineNumber, OtherLine, RawCall, DeniedCall, HiddenBytes, Explanation}
use Rattle.histar_page.specs.Items.{Item}
use Rattle.histar_page.specs.Items.Item.{Fixed, Shown}
use Rattle.histar_page.specs.Lines.{is_explanation, is_raw_call, is_reason, is_reply, mark_number}
use Rattle.histar_page.specs.Nesting.{after_text, within}
use Rattle.histar_page.specs.Order.{FollowsReplies}
use Rattle.histar_page.specs.Page.{Sources, page_of}
use Rattle.histar_page.specs.Session.{raw_item, session_items, why_item}
use Rattle.histar_page.specs.Story.{is_story_kind, story_from}

-- ---- kinds

-- the kind is that of a raw call
abbrev pub is_raw_kind : Kind → Bool
is_raw_kind RawCall = true
is_raw_kind DeniedCall = true
is_raw_kind HiddenBytes = true
is_raw_kind kind = false

-- the kind is that of an explanation
abbrev pub is_why_kind : Kind → Bool
is_why_kind Explanation = true
is_why_kind kind = false

-- the kind is that of the number of a line
abbrev pub is_number_kind : Kind → Bool
is_number_kind LineNumber = true
is_number_kind OtherLine = true
is_number_kind kind = false

-- the kind is that of a number that is shown without a call
abbrev pub is_other_kind : Kind → Bool
is_other_kind OtherLine = true
is_other_kind kind = false

-- an item is a text of one of these kinds, and no fixed text
abbrev pub has_kind : (Kind → Bool) → Item → Bool
has_kind test (Fixed markup) = false
has_kind test (Shown kind text) = test kind

-- the items of these kinds
abbrev pub of_kinds : (Kind → Bool) → List Item → List Item
of_kinds test items = filter (has_kind test) items

-- ---- a session

-- a number that is shown without a call
abbrev pub other_item : List ℕ → Item
other_item number = Shown OtherLine number

-- Each raw call and each explanation is after the number of its line, with no other number between.
abbrev pub AreOwn : List ℕ → List Item → Type 0
AreOwn number [] = Unit {0}
AreOwn number (Fixed markup ∷ items) = AreOwn number items
AreOwn number (Shown kind text ∷ items) =
    ((is_raw_kind kind || is_why_kind kind) ≡ true → mark_number text ≡ number)
    × AreOwn (if is_number_kind kind then text else number) items

-- The story is the one of the script, the output and the reasons. The raw calls and explanations are those of the output: each line is shown
-- once, in its order, and after the number of its line. If they are in the order of the replies, that number is the one of its call, since
-- only the 0 of boot is then shown without a call.
pub record IsSession (script output reasons : List (List ℕ)) (items : List Item) : Type 0 where
  pub story : of_kinds is_story_kind items ≡ story_from script [] (filter is_reply output) (filter is_reason reasons)
  pub raw_calls : of_kinds is_raw_kind items ≡ map raw_item (filter is_raw_call output)
  pub explanations : of_kinds is_why_kind items ≡ map why_item (filter is_explanation output)
  pub own : AreOwn [] items
  pub with_calls : FollowsReplies output → of_kinds is_other_kind items ≡ other_item (codes "0") ∷ []

-- the session on a page is one of its script, its output and its reasons
abbrev pub SessionsAreShown : Type 0
SessionsAreShown = (script output reasons : List (List ℕ)) → IsSession script output reasons (session_items script output reasons)

-- ---- the page

-- a reader of a page is in no element before it and after it, and each element is ended in its turn
abbrev pub PagesNest : Type 0
PagesNest = (sources : Sources) → after_text (within []) (page_of sources) ≡ Some (within [])
