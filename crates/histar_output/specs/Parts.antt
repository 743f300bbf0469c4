-- The parts by which a line is read, one after another, and the members of an object that they make.
use Rattle.std.specs.Prelude.{ℕ, Bool, false, List, [], ◌∷◌, length, codes, ◌==◌, Option, None, Some, if◌then◌else◌}
use Rattle.std.specs.Option.{option_map_or}
use Rattle.json.specs.Json.{Json, string, number, boolean, array, object, Items, no_items, item, Members, no_members, member}
use Rattle.json.specs.Word.{after_number}
use Rattle.histar_output.specs.declared.parts.Kind.{Kind}
use Rattle.histar_output.specs.declared.parts.Kind.TheVariants.{Text, Number, Names, Holders, Rights}
use Rattle.histar_output.specs.Cuts.{behind, cut_at, cut_last, words_of, names_in, holders_in}

-- A part of a line. `upto name kind mark` is a member with this name, of the text up to the mark or to the end, and passes over the mark.
-- `upto_last name kind mark` is one of the text up to the last place of the mark. `rest name kind` is a member of all that is left, which
-- stays. `past mark` is no member, and passes over the text up to the mark and over the mark. `is name b` is a member that is true or
-- false, and passes over nothing.
pub data Part : Type 0 where
  upto : List ℕ → Kind → List ℕ → Part
  upto_last : List ℕ → Kind → List ℕ → Part
  rest : List ℕ → Kind → Part
  past : List ℕ → Part
  is : List ℕ → Bool → Part

-- the text is a JSON number
abbrev pub is_number : List ℕ → Bool
is_number text = option_map_or (λ left. length left == 0) (after_number text) false

-- an array of these strings
abbrev pub strings : List (List ℕ) → Items
strings [] = no_items
strings (s ∷ ss) = item (string s) (strings ss)

-- a member for each word: its name is before the first colon, and the rights behind it
abbrev pub rights_of : List (List ℕ) → Members
rights_of [] = no_members
rights_of (w ∷ ws) = member (cut_at (codes ":") w).0 (string (behind (codes ":") w)) (rights_of ws)

-- the value of this kind that a text is: a text that should be a number and is none is a string
abbrev pub value_of : Kind → List ℕ → Json
value_of Text text = string text
value_of Number text = if is_number text then number text else string text
value_of Names text = array (strings (names_in text))
value_of Holders text = array (strings (holders_in text))
value_of Rights text = object (rights_of (words_of text))

-- the member that a part makes of what is left of a line, if it makes one
abbrev pub member_of : Part → List ℕ → Option (List ℕ × Json)
member_of (upto name kind mark) text = Some (name, value_of kind (cut_at mark text).0)
member_of (upto_last name kind mark) text = Some (name, value_of kind (cut_last mark text).0)
member_of (rest name kind) text = Some (name, value_of kind text)
member_of (past mark) text = None
member_of (is name b) text = Some (name, boolean b)

-- what is left of the line behind a part: nothing where its mark doesn't come
abbrev pub left_by : Part → List ℕ → Option (List ℕ)
left_by (upto name kind mark) text = (cut_at mark text).1
left_by (upto_last name kind mark) text = (cut_last mark text).1
left_by (rest name kind) text = Some text
left_by (past mark) text = (cut_at mark text).1
left_by (is name b) text = Some text

-- a member before others, if there is one
abbrev pub with_member : Option (List ℕ × Json) → Members → Members
with_member None ms = ms
with_member (Some m) ms = member m.0 m.1 ms

-- the members that parts make, one after another, of what is left of a line; none once nothing is left
unfoldable pub members_of : List Part → Option (List ℕ) → Members
members_of [] left = no_members
members_of (p ∷ ps) None = no_members
members_of (p ∷ ps) (Some text) = with_member (member_of p text) (members_of ps (left_by p text))
