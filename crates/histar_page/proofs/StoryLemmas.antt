-- The items of a story: none is a raw call, an explanation or a number without a call.
use Rattle.std.proofs.Common.{◌≡◌, ℕ, Bool, List, [], ◌∷◌, ◌++◌, true}
use Rattle.std.proofs.Common.{false, refl, sym, ap, ap₂, ◌∙◌, append-nil, map, subst}
use Rattle.std.specs.Prelude.{◌&&◌, ◌||◌, not, codes, if◌then◌else◌}
use Rattle.std.specs.List.{flat_map, list_all}
use Rattle.std.specs.Str.{bytes_eq}
use Rattle.std.proofs.lemmas.Bool.{and_from, and_parts}
use Rattle.std.proofs.lemmas.List.Folds.{list_all-append}
use Rattle.std.proofs.lemmas.List.Elements.{filter-append}
use Rattle.histar_script.specs.Lines.{split_word}
use Rattle.histar_page.specs.declared.kind.Kind.{Kind}
use Rattle.histar_page.specs.declared.kind.Kind.TheVariants.{LineNumber, Call, LoginBy, LoginAs, Reply, Refusal, Reason, Prose, Heading}
use Rattle.histar_page.specs.declared.kind.Kind.TheVariants.{Mark, ClaimMet, ClaimMissed}
use Rattle.histar_page.specs.Items.{Item}
use Rattle.histar_page.specs.Items.Item.{Fixed, Shown}
use Rattle.histar_page.specs.Laws.{AreOwn, has_kind, is_number_kind, is_other_kind, is_raw_kind, is_why_kind, of_kinds, other_item}
use Rattle.histar_page.specs.Lines.{after_word, call_on, has_mark, is_refused}
use Rattle.histar_page.specs.Session.{raw_item, why_item}
use Rattle.histar_page.specs.Story.{is_login, is_story_kind, lines_between, note_items, prose_items, reason_item}
use Rattle.histar_page.specs.Story.{reply_kind, shown_call, call_items, story_items}

-- false is not true
pub never : {P : Type 0} → false ≡ true → P
never h = absurd cc

-- what both sides of a choice are, the choice is
pub by_if : {A : Type 0} (b : Bool) (P : A → Type 0) {x y : A} → P x → P y → P (if b then x else y)
by_if true P h k = h
by_if false P h k = k

-- the items of these kinds in two lists in a row are those of each
pub of-append : (test : Kind → Bool) (xs ys : List Item) → of_kinds test (xs ++ ys) ≡ of_kinds test xs ++ of_kinds test ys
of-append test xs ys = filter-append (has_kind test) xs ys

-- ---- plain items

-- a kind of the story that is no number
abbrev is_plain_kind : Kind → Bool
is_plain_kind kind = is_story_kind kind && not (is_number_kind kind)

-- an item is a text of such a kind
abbrev is_plain : Item → Bool
is_plain item = has_kind is_plain_kind item

-- Items are plain.
abbrev ArePlain : List Item → Type 0
ArePlain items = list_all is_plain items ≡ true

plain-append : (xs ys : List Item) → ArePlain xs → ArePlain ys → ArePlain (xs ++ ys)
plain-append xs ys h k = list_all-append is_plain xs ys ∙ and_from _ _ h k

-- a plain kind is none of the others
apart : (k : Kind) → (is_story_kind k && not (is_number_kind k)) ≡ true
    → (is_raw_kind k ≡ false) × (is_why_kind k ≡ false) × (is_other_kind k ≡ false) × (is_number_kind k ≡ false)
    × (is_story_kind k ≡ true)
apart Call h = (refl, refl, refl, refl, refl)
apart LoginBy h = (refl, refl, refl, refl, refl)
apart LoginAs h = (refl, refl, refl, refl, refl)
apart Reply h = (refl, refl, refl, refl, refl)
apart Refusal h = (refl, refl, refl, refl, refl)
apart Reason h = (refl, refl, refl, refl, refl)
apart Prose h = (refl, refl, refl, refl, refl)
apart Heading h = (refl, refl, refl, refl, refl)
apart Mark h = (refl, refl, refl, refl, refl)
apart ClaimMet h = (refl, refl, refl, refl, refl)
apart ClaimMissed h = (refl, refl, refl, refl, refl)
apart k h = never h

-- a list of plain items has none of kinds that no plain item has
plain_none : (test : Kind → Bool) → ((k : Kind) → (is_story_kind k && not (is_number_kind k)) ≡ true → test k ≡ false)
    → (xs : List Item) → ArePlain xs → of_kinds test xs ≡ []
plain_none test fails [] h = refl
plain_none test fails (Fixed markup ∷ xs) h = never h
plain_none test fails (Shown kind text ∷ xs) h =
    let parts = and_parts (is_plain_kind kind) (list_all is_plain xs) h in rw (fails kind parts.0) (plain_none test fails xs parts.1)

-- plain items are the story of themselves
plain_story : (xs : List Item) → ArePlain xs → of_kinds is_story_kind xs ≡ xs
plain_story [] h = refl
plain_story (Fixed markup ∷ xs) h = never h
plain_story (Shown kind text ∷ xs) h =
    let parts = and_parts (is_plain_kind kind) (list_all is_plain xs) h in
    rw ((apart kind parts.0).4) (ap (λ l. Shown kind text ∷ l) (plain_story xs parts.1))

-- what is after its number is so after plain items
own_plain : (number : List ℕ) (xs ys : List Item) → ArePlain xs → AreOwn number ys → AreOwn number (xs ++ ys)
own_plain number [] ys h own = own
own_plain number (Fixed markup ∷ xs) ys h own = never h
own_plain number (Shown kind text ∷ xs) ys h own =
    let parts = and_parts (is_plain_kind kind) (list_all is_plain xs) h in
    let is = apart kind parts.0 in
    (λ raw. never (sym (ap₂ (λ (a b : Bool). a || b) is.0 is.1) ∙ raw), rw is.3 (own_plain number xs ys parts.1 own))

-- ---- what is aside of a session

-- a kind of no text of a session: it is not of the story, behind a call or a number
abbrev is_aside_kind : Kind → Bool
is_aside_kind kind = not (is_story_kind kind || is_raw_kind kind || is_why_kind kind || is_other_kind kind || is_number_kind kind)

-- an item is a fixed text, or one of such a kind
abbrev is_aside : Item → Bool
is_aside (Fixed markup) = true
is_aside (Shown kind text) = is_aside_kind kind

-- Items are aside of a session.
abbrev pub AreAside : List Item → Type 0
AreAside items = list_all is_aside items ≡ true

-- a kind that is aside is none of the others
aside : (k : Kind) → is_aside_kind k ≡ true
    → (is_raw_kind k ≡ false) × (is_why_kind k ≡ false) × (is_other_kind k ≡ false) × (is_number_kind k ≡ false)
    × (is_story_kind k ≡ false)
aside k h = by (is_story_kind k) (is_raw_kind k) (is_why_kind k) (is_other_kind k) (is_number_kind k) h
  where
    by : (a b c d e : Bool) → not (a || b || c || d || e) ≡ true
        → (b ≡ false) × (c ≡ false) × (d ≡ false) × (e ≡ false) × (a ≡ false)
    by true b c d e h = never h
    by false true c d e h = never h
    by false false true d e h = never h
    by false false false true e h = never h
    by false false false false true h = never h
    by false false false false false h = (refl, refl, refl, refl, refl)

-- items that are aside have none of kinds that none of them has
aside_none : (test : Kind → Bool) → ((k : Kind) → is_aside_kind k ≡ true → test k ≡ false) → (xs : List Item) → AreAside xs
    → of_kinds test xs ≡ []
aside_none test fails [] h = refl
aside_none test fails (Fixed markup ∷ xs) h = aside_none test fails xs h
aside_none test fails (Shown kind text ∷ xs) h =
    let parts = and_parts (is_aside_kind kind) (list_all is_aside xs) h in rw (fails kind parts.0) (aside_none test fails xs parts.1)

-- what is after its number is so after items that are aside
own_aside : (number : List ℕ) (xs ys : List Item) → AreAside xs → AreOwn number ys → AreOwn number (xs ++ ys)
own_aside number [] ys h own = own
own_aside number (Fixed markup ∷ xs) ys h own = own_aside number xs ys h own
own_aside number (Shown kind text ∷ xs) ys h own =
    let parts = and_parts (is_aside_kind kind) (list_all is_aside xs) h in
    let is = aside kind parts.0 in
    (λ raw. never (sym (ap₂ (λ (a b : Bool). a || b) is.0 is.1) ∙ raw), rw is.3 (own_aside number xs ys parts.1 own))

-- ---- the items of a turn

-- comments are plain
note_plain : (reply line : List ℕ) → ArePlain (note_items reply line)
note_plain reply line =
    by_if (bytes_eq (split_word line).0 (codes "#=")) ArePlain
    (by_if (bytes_eq (after_word line) (after_word reply)) (λ (k : Kind). ArePlain (Shown k (after_word line) ∷ [])) refl refl)
    (by_if (bytes_eq (split_word line).0 (codes "#")) ArePlain (prose_plain (after_word line)) (by_if (has_mark 35 line) ArePlain refl refl))
  where
    prose_plain : (text : List ℕ) → ArePlain (prose_items text)
    prose_plain [] = refl
    prose_plain (b ∷ bs) = by_if (bytes_eq (split_word (b ∷ bs)).0 (codes "#")) ArePlain refl refl

pub notes_plain : (reply : List ℕ) (lines : List (List ℕ)) → ArePlain (flat_map (note_items reply) lines)
notes_plain reply [] = refl
notes_plain reply (line ∷ lines) =
    plain-append (note_items reply line) (flat_map (note_items reply) lines) (note_plain reply line) (notes_plain reply lines)

reasons_plain : (reasons : List (List ℕ)) → ArePlain (map reason_item reasons)
reasons_plain [] = refl
reasons_plain (reason ∷ reasons) = reasons_plain reasons

-- the text of a call, its reply and reasons are plain
answer_plain : (call line : List ℕ) (reasons : List (List ℕ))
    → ArePlain ((shown_call call ++ Shown (reply_kind line) (after_word line) ∷ []) ++ map reason_item reasons)
answer_plain call line reasons =
    plain-append (shown_call call ++ Shown (reply_kind line) (after_word line) ∷ []) (map reason_item reasons)
    (plain-append (shown_call call) (Shown (reply_kind line) (after_word line) ∷ []) (by_if (is_login call) ArePlain refl refl)
    (by_if (is_refused line) (λ (k : Kind). ArePlain (Shown k (after_word line) ∷ [])) refl refl))
    (reasons_plain reasons)

-- ---- a turn

-- Items are raw calls and explanations that have a number.
pub record IsBehind (number : List ℕ) (raw_calls explanations : List (List ℕ)) (items : List Item) : Type 0 where
  pub story : of_kinds is_story_kind items ≡ []
  pub raw : of_kinds is_raw_kind items ≡ map raw_item raw_calls
  pub why : of_kinds is_why_kind items ≡ map why_item explanations
  pub others : of_kinds is_other_kind items ≡ []
  pub own : AreOwn number items

-- Items are this story with these raw calls and explanations, where these numbers are shown without a call.
pub record IsPart (shown : List Item) (raw_calls explanations numbers : List (List ℕ)) (items : List Item) : Type 0 where
  pub story : of_kinds is_story_kind items ≡ shown
  pub raw : of_kinds is_raw_kind items ≡ map raw_item raw_calls
  pub why : of_kinds is_why_kind items ≡ map why_item explanations
  pub own : (number : List ℕ) → AreOwn number items
  pub others : of_kinds is_other_kind items ≡ map other_item numbers

-- the items of these kinds in comments, in a call within its frame, and in what is behind the call
three : (test : Kind → Bool) (notes frame call behind : List Item) {a b c : List Item}
    → of_kinds test notes ≡ a → of_kinds test frame ≡ [] → of_kinds test call ≡ b → of_kinds test behind ≡ c
    → of_kinds test (notes ++ (frame ++ (call ++ behind))) ≡ a ++ (b ++ c)
three test notes frame call behind x none y z =
    let both : List Item → List Item → List Item = λ a b. a ++ b in
    of-append test notes (frame ++ (call ++ behind))
    ∙ ap₂ both x (of-append test frame (call ++ behind) ∙ ap₂ both none (of-append test call behind ∙ ap₂ both y z))

-- a turn is its story, and what is behind it
pub turn_with : (script : List (List ℕ)) (before reply : List ℕ) (reasons : List (List ℕ)) (frame : List Item)
    {raw_calls explanations : List (List ℕ)} {behind : List Item} → AreAside frame
    → IsBehind (split_word reply).0 raw_calls explanations behind
    → IsPart (story_items script before reply reasons) raw_calls explanations []
    (flat_map (note_items before) (lines_between script before reply) ++ (frame ++ (call_items script reply reasons ++ behind)))
turn_with script before reply reasons frame {behind = behind} framed is =
    let word = (split_word reply).0 in
    let notes = flat_map (note_items before) (lines_between script before reply) in
    let call = call_items script reply reasons in
    let rest = (shown_call (call_on script reply) ++ Shown (reply_kind reply) (after_word reply) ∷ []) ++ map reason_item reasons in
    let plain = notes_plain before (lines_between script before reply) in
    let plain_rest = answer_plain (call_on script reply) reply reasons in
    record {
      story =
          three is_story_kind notes frame call behind (plain_story notes plain) (aside_none is_story_kind (λ k h. (aside k h).4) frame framed)
          (ap (λ l. Shown LineNumber word ∷ l) (plain_story rest plain_rest)) is.story
          ∙ ap (λ (l : List Item). notes ++ l) (append-nil call);
      raw =
          three is_raw_kind notes frame call behind (plain_none is_raw_kind (λ k h. (apart k h).0) notes plain)
          (aside_none is_raw_kind (λ k h. (aside k h).0) frame framed) (plain_none is_raw_kind (λ k h. (apart k h).0) rest plain_rest) is.raw;
      why =
          three is_why_kind notes frame call behind (plain_none is_why_kind (λ k h. (apart k h).1) notes plain)
          (aside_none is_why_kind (λ k h. (aside k h).1) frame framed) (plain_none is_why_kind (λ k h. (apart k h).1) rest plain_rest) is.why;
      own = λ number.
          own_plain number notes (frame ++ (call ++ behind)) plain
          (own_aside number frame (call ++ behind) framed (never, own_plain word rest behind plain_rest is.own));
      others =
          three is_other_kind notes frame call behind (plain_none is_other_kind (λ k h. (apart k h).2) notes plain)
          (aside_none is_other_kind (λ k h. (aside k h).2) frame framed)
          (plain_none is_other_kind (λ k h. (apart k h).2) rest plain_rest) is.others;
    }

-- what is aside is no story
pub aside_part : (items : List Item) → AreAside items → IsPart [] [] [] [] items
aside_part items h =
    record {
      story = aside_none is_story_kind (λ k h. (aside k h).4) items h;
      raw = aside_none is_raw_kind (λ k h. (aside k h).0) items h;
      why = aside_none is_why_kind (λ k h. (aside k h).1) items h;
      own = λ number. subst (AreOwn number) (append-nil items) (own_aside number items [] h tt);
      others = aside_none is_other_kind (λ k h. (aside k h).2) items h;
    }

-- comments are a story
pub notes_are : (reply : List ℕ) (lines : List (List ℕ))
    → IsPart (flat_map (note_items reply) lines) [] [] [] (flat_map (note_items reply) lines)
notes_are reply lines =
    let notes = flat_map (note_items reply) lines in
    let plain = notes_plain reply lines in
    record {
      story = plain_story notes plain;
      raw = plain_none is_raw_kind (λ k h. (apart k h).0) notes plain;
      why = plain_none is_why_kind (λ k h. (apart k h).1) notes plain;
      own = λ number. subst (AreOwn number) (append-nil notes) (own_plain number notes [] plain tt);
      others = plain_none is_other_kind (λ k h. (apart k h).2) notes plain;
    }
