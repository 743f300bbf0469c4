-- A session's items, one call after another.
use Rattle.std.proofs.Common.{◌≡◌, ℕ, List, [], ◌∷◌, ◌++◌, refl, sym, ap}
use Rattle.std.proofs.Common.{ap₂, ◌∙◌, true, false, append_assoc, append-nil, drop, map, subst}
use Rattle.std.specs.Prelude.{◌-◌, Bool, codes, decimal, filter, nat_lt, if◌then◌else◌}
use Rattle.std.specs.List.{flat_map, list_all}
use Rattle.std.proofs.lemmas.Bool.{and_parts}
use Rattle.std.proofs.lemmas.Slice.Eq.{bytes_eq-Decides}
use Rattle.std.proofs.lemmas.List.{map-append}
use Rattle.histar_script.specs.Lines.{split_word}
use Rattle.histar_page.specs.declared.kind.Kind.{Kind}
use Rattle.histar_page.specs.declared.kind.Kind.TheVariants.{DeniedCall, HiddenBytes, LineId, RawCall, SetUpCalls}
use Rattle.histar_page.specs.declared.markup.Markup.{Markup}
use Rattle.histar_page.specs.declared.markup.Markup.TheVariants.{BeginSummary, EndBare, EndCall, EndSession}
use Rattle.histar_page.specs.Items.{Item}
use Rattle.histar_page.specs.Items.Item.{Fixed, Shown}
use Rattle.histar_page.specs.Callers.{caller, callers}
use Rattle.histar_page.specs.Laws.{AreOwn, SessionsAreShown, has_kind, is_other_kind, is_raw_kind, is_why_kind, of_kinds, other_item}
use Rattle.histar_page.specs.Lines.{is_denied, is_explanation, is_own, is_raw_call, is_reason, is_reply, mark_number}
use Rattle.histar_page.specs.Order.{Marked, later_marked, own_marked, past_own, taken_own}
use Rattle.histar_page.specs.Session.{at_bytes, bare_kind, begin_items, boot_items, call_kind, calls_items, framed_items, hides_bytes, kernel_items}
use Rattle.histar_page.specs.Session.{other_call_items, other_why_items, raw_item, raw_kind, turn_items, turns_from, why_item}
use Rattle.histar_page.specs.SetUp.{folded_count, set_up_link}
use Rattle.histar_page.specs.Story.{is_story_kind, line_number, lines_between, note_items, story_from, call_items, story_items}
use Rattle.histar_page.proofs.OwnLemmas.{boot_alone, other_numbers, own_whole, session_numbers, taken_pass}
use Rattle.histar_page.proofs.StoryLemmas.{AreAside, IsBehind, IsPart, aside_part, by_if, never, notes_are, of-append, turn_with}

-- ---- kinds

-- the item of a raw call, by whether its bytes are hidden
abbrev raw_by : List ℕ → Bool → Item
raw_by line hidden = if hidden then Shown HiddenBytes (at_bytes line).0 else Shown (raw_kind line) line

-- whether a raw call is of these kinds, if all kinds of raw calls are or none is
raw_test : (test : Kind → Bool) (b : Bool) → test HiddenBytes ≡ b → test DeniedCall ≡ b → test RawCall ≡ b → (line : List ℕ)
    → has_kind test (raw_item line) ≡ b
raw_test test b hidden denied made line =
    elim (hides_bytes line) as (λ h. has_kind test (raw_by line h) ≡ b) [
      | true ↦ hidden
      | false ↦ elim (is_denied line) as (λ d. test (if d then DeniedCall else RawCall) ≡ b) [ true ↦ denied | false ↦ made ]
    ]

-- no item is of these kinds
of_none : (test : Kind → Bool) (f : List ℕ → Item) → ((line : List ℕ) → has_kind test (f line) ≡ false)
    → (lines : List (List ℕ)) → of_kinds test (map f lines) ≡ []
of_none test f fails [] = refl
of_none test f fails (line ∷ lines) = rw (fails line) (of_none test f fails lines)

-- each item is of these kinds
of_all : (test : Kind → Bool) (f : List ℕ → Item) → ((line : List ℕ) → has_kind test (f line) ≡ true) → (lines : List (List ℕ))
    → of_kinds test (map f lines) ≡ map f lines
of_all test f passes [] = refl
of_all test f passes (line ∷ lines) = rw (passes line) (ap (λ l. f line ∷ l) (of_all test f passes lines))

-- the items of raw calls have none of these kinds, if no kind of raw calls is one
raw_none : (test : Kind → Bool) → test HiddenBytes ≡ false → test DeniedCall ≡ false → test RawCall ≡ false
    → (lines : List (List ℕ))
    → of_kinds test (map raw_item lines) ≡ []
raw_none test hidden denied made lines = of_none test raw_item (raw_test test false hidden denied made) lines

-- raw calls are of the kinds of raw calls
raw_all : (lines : List (List ℕ)) → of_kinds is_raw_kind (map raw_item lines) ≡ map raw_item lines
raw_all lines = of_all is_raw_kind raw_item (raw_test is_raw_kind true refl refl refl) lines

-- a fixed text at the end is of no kind
closed : (test : Kind → Bool) (xs : List Item) (markup : Markup) → of_kinds test (xs ++ Fixed markup ∷ []) ≡ of_kinds test xs
closed test xs markup = of-append test xs (Fixed markup ∷ []) ∙ append-nil (of_kinds test xs)

-- one list comes after another
joined : (test : Kind → Bool) (xs ys : List Item) {a b : List Item} → of_kinds test xs ≡ a → of_kinds test ys ≡ b
    → of_kinds test (xs ++ ys) ≡ a ++ b
joined test xs ys x y = of-append test xs ys ∙ ap₂ (λ (a b : List Item). a ++ b) x y

-- ---- numbers

-- items after their own numbers stay so before any others
own-append : (number : List ℕ) (xs ys : List Item) → AreOwn number xs → ((n : List ℕ) → AreOwn n ys) → AreOwn number (xs ++ ys)
own-append number [] ys h all = all number
own-append number (Fixed markup ∷ xs) ys h all = own-append number xs ys h all
own-append number (Shown kind text ∷ xs) ys h all = (h.0, own-append _ xs ys h.1 all)

-- a line that passes the test of a number has it
has_number : (number line : List ℕ) → is_own number line ≡ true → mark_number line ≡ number
has_number number line h = (bytes_eq-Decides (mark_number line) number).0 h

-- a raw call that has a number is after it, and so is what follows it
own_one : (number line : List ℕ) (more : List Item) → mark_number line ≡ number → AreOwn number more
    → AreOwn number (raw_item line ∷ more)
own_one number line more is rest = by (hides_bytes line) refl
  where
    by : (b : Bool) → hides_bytes line ≡ b → AreOwn number (raw_by line b ∷ more)
    by true e =
        let parts = and_parts (is_own (codes "0") line) _ e in (
          λ raw. has_number (codes "0") (at_bytes line).0 (and_parts (is_own (codes "0") (at_bytes line).0) _ parts.1).0
              ∙ sym (has_number (codes "0") line parts.0) ∙ is,
          rest,
        )
    by false e =
        elim (is_denied line) as (λ d. AreOwn number (Shown (if d then DeniedCall else RawCall) line ∷ more))
        [ true ↦ (λ raw. is, rest) | false ↦ (λ raw. is, rest) ]

-- raw calls that have a number are after it, and so is what follows them
own_raw : (number : List ℕ) (lines : List (List ℕ)) (more : List Item) → list_all (is_own number) lines ≡ true → AreOwn number more
    → AreOwn number (map raw_item lines ++ more)
own_raw number [] more h rest = rest
own_raw number (line ∷ lines) more h rest =
    let parts = and_parts (is_own number line) (list_all (is_own number) lines) h in
    own_one number line (map raw_item lines ++ more) (has_number number line parts.0) (own_raw number lines more parts.1 rest)

-- explanations that have a number are after it, and so is what follows them
own_why : (number : List ℕ) (lines : List (List ℕ)) (more : List Item) → list_all (is_own number) lines ≡ true → AreOwn number more
    → AreOwn number (map why_item lines ++ more)
own_why number [] more h rest = rest
own_why number (line ∷ lines) more h rest =
    let parts = and_parts (is_own number line) (list_all (is_own number) lines) h in
    (λ why. has_number number line parts.0, own_why number lines more parts.1 rest)

-- ---- the raw calls and explanations behind a call

-- the items of these kinds behind a call
two : (test : Kind → Bool) (raw_calls explanations : List (List ℕ)) {a b : List Item} → of_kinds test (map raw_item raw_calls) ≡ a
    → of_kinds test (map why_item explanations) ≡ b → of_kinds test (kernel_items raw_calls explanations) ≡ a ++ b
two test raw_calls explanations x y =
    let calls = map raw_item raw_calls in
    let whys = map why_item explanations in
    closed test (calls ++ whys) EndCall ∙ joined test calls whys x y

-- the raw calls and explanations of a number are behind its call
kernel_behind : (number : List ℕ) (raw_calls explanations : List (List ℕ)) → list_all (is_own number) raw_calls ≡ true
    → list_all (is_own number) explanations ≡ true → IsBehind number raw_calls explanations (kernel_items raw_calls explanations)
kernel_behind number raw_calls explanations raw why =
    let whys = map why_item explanations in
    let ending : List Item = Fixed EndCall ∷ [] in
    record {
      story = two is_story_kind raw_calls explanations (raw_none is_story_kind refl refl refl raw_calls)
          (of_none is_story_kind why_item (λ line. refl) explanations);
      raw = two is_raw_kind raw_calls explanations (raw_all raw_calls) (of_none is_raw_kind why_item (λ line. refl) explanations)
          ∙ append-nil (map raw_item raw_calls);
      why = two is_why_kind raw_calls explanations (raw_none is_why_kind refl refl refl raw_calls)
          (of_all is_why_kind why_item (λ line. refl) explanations);
      others = two is_other_kind raw_calls explanations (raw_none is_other_kind refl refl refl raw_calls)
          (of_none is_other_kind why_item (λ line. refl) explanations);
      own = let P : List Item → Type 0 = AreOwn number in
          subst P (sym (append_assoc (map raw_item raw_calls) whys ending))
          (own_raw number raw_calls (whys ++ ending) raw (own_why number explanations ending why tt));
    }

-- what is before a call that can be opened, and before one that can't
abbrev opened : Bool → List (List ℕ) → List ℕ → List Item
opened folds script reply = Shown (call_kind folds) (caller script reply) ∷ Shown LineId (split_word reply).0 ∷ Fixed BeginSummary ∷ []

abbrev bare : Bool → List (List ℕ) → List ℕ → List Item
bare folds script reply = Shown (bare_kind folds) (caller script reply) ∷ Shown LineId (split_word reply).0 ∷ []

-- both are aside, whether the call is folded or not
opened_aside : (folds : Bool) (script : List (List ℕ)) (reply : List ℕ) → AreAside (opened folds script reply)
opened_aside true script reply = refl
opened_aside false script reply = refl

bare_aside : (folds : Bool) (script : List (List ℕ)) (reply : List ℕ) → AreAside (bare folds script reply)
bare_aside true script reply = refl
bare_aside false script reply = refl

-- a turn is its story, with the raw calls and explanations of its number
turn_part : (folds : Bool) (script : List (List ℕ)) (before reply : List ℕ) (reasons raw_calls explanations : List (List ℕ))
    → list_all (is_own (split_word reply).0) raw_calls ≡ true → list_all (is_own (split_word reply).0) explanations ≡ true
    → IsPart (story_items script before reply reasons) raw_calls explanations []
    (flat_map (note_items before) (lines_between script before reply)
    ++ framed_items folds (caller script reply) (split_word reply).0 (call_items script reply reasons) raw_calls explanations)
turn_part folds script before reply reasons [] [] raw why =
    turn_with script before reply reasons (bare folds script reply) {behind = Fixed EndBare ∷ []} (bare_aside folds script reply)
    (record { story = refl; raw = refl; why = refl; others = refl; own = tt })
turn_part folds script before reply reasons [] (line ∷ explanations) raw why =
    turn_with script before reply reasons (opened folds script reply) (opened_aside folds script reply)
    (kernel_behind (split_word reply).0 [] (line ∷ explanations) raw why)
turn_part folds script before reply reasons (line ∷ raw_calls) explanations raw why =
    turn_with script before reply reasons (opened folds script reply) (opened_aside folds script reply)
    (kernel_behind (split_word reply).0 (line ∷ raw_calls) explanations raw why)

-- ---- lines without a reply

-- raw calls without a reply are no story, and are after their own numbers
calls_part : (lines : List (List ℕ)) → IsPart [] lines [] (map mark_number lines) (flat_map other_call_items lines)
calls_part [] = record { story = refl; raw = refl; why = refl; own = λ number. tt; others = refl }
calls_part (line ∷ lines) =
    let later = calls_part lines in
    record {
      story = rw (raw_test is_story_kind false refl refl refl line) later.story;
      raw = rw (raw_test is_raw_kind true refl refl refl line) (ap (λ l. raw_item line ∷ l) later.raw);
      why = rw (raw_test is_why_kind false refl refl refl line) later.why;
      own = λ number.
          (never, own_one (mark_number line) line (Fixed EndCall ∷ flat_map other_call_items lines) refl (later.own (mark_number line)));
      others = rw (raw_test is_other_kind false refl refl refl line) (ap (λ l. other_item (mark_number line) ∷ l) later.others);
    }

-- explanations without a reply are the same
whys_part : (lines : List (List ℕ)) → IsPart [] [] lines (map mark_number lines) (flat_map other_why_items lines)
whys_part [] = record { story = refl; raw = refl; why = refl; own = λ number. tt; others = refl }
whys_part (line ∷ lines) =
    let later = whys_part lines in
    record {
      story = later.story;
      raw = later.raw;
      why = ap (λ l. why_item line ∷ l) later.why;
      own = λ number. (never, (λ why. refl, later.own (mark_number line)));
      others = ap (λ l. other_item (mark_number line) ∷ l) later.others;
    }

-- ---- one part after another

-- the raw calls of boot are no story, and are after the number 0
boot_part : (boot : List (List ℕ)) → list_all (is_own (codes "0")) boot ≡ true → IsPart [] boot [] (codes "0" ∷ []) (boot_items boot)
boot_part boot is =
    let calls = map raw_item boot in
    record {
      story = closed is_story_kind calls EndCall ∙ raw_none is_story_kind refl refl refl boot;
      raw = closed is_raw_kind calls EndCall ∙ raw_all boot;
      why = closed is_why_kind calls EndCall ∙ raw_none is_why_kind refl refl refl boot;
      own = λ number. (never, own_raw (codes "0") boot (Fixed EndCall ∷ []) is tt);
      others = ap (λ l. other_item (codes "0") ∷ l) (closed is_other_kind calls EndCall ∙ raw_none is_other_kind refl refl refl boot);
    }

-- two parts are one
parts : {first second xs ys : List Item} {raw why numbers raws whys others : List (List ℕ)} → IsPart first raw why numbers xs
    → IsPart second raws whys others ys → IsPart (first ++ second) (raw ++ raws) (why ++ whys) (numbers ++ others) (xs ++ ys)
parts {xs = xs} {ys} {raw} {why} {numbers} {raws} {whys} {others} a b =
    record {
      story = joined is_story_kind xs ys a.story b.story;
      raw = joined is_raw_kind xs ys a.raw b.raw ∙ sym (map-append raw_item raw raws);
      why = joined is_why_kind xs ys a.why b.why ∙ sym (map-append why_item why whys);
      own = λ number. own-append number xs ys (a.own number) b.own;
      others = joined is_other_kind xs ys a.others b.others ∙ sym (map-append other_item numbers others);
    }

-- a part is one of equal lists
part_as : {shown all items : List Item} {raw why numbers raws whys others : List (List ℕ)} → all ≡ shown → raws ≡ raw → whys ≡ why
    → others ≡ numbers → IsPart shown raw why numbers items → IsPart all raws whys others items
part_as is_all are_raws are_whys are_others h = rw (is_all, are_raws, are_whys, are_others) h

-- the turns of replies are their story, with all raw calls and explanations
turns_part : (folded : ℕ) (script : List (List ℕ)) (before : List ℕ) (replies : List (List ℕ)) (marked : Marked)
    → IsPart (story_from script before replies marked.reasons) marked.raw_calls marked.explanations
    (other_numbers replies marked.raw_calls marked.explanations) (turns_from folded script before replies marked)
turns_part folded script before [] marked =
    let notes = flat_map (note_items before) (drop (line_number before) script) in
    part_as (sym (append-nil (notes ++ []) ∙ append-nil notes)) (sym (append-nil marked.raw_calls)) refl refl
    (parts (parts (notes_are before (drop (line_number before) script)) (calls_part marked.raw_calls)) (whys_part marked.explanations))
turns_part folded script before (reply ∷ replies) marked =
    let word = (split_word reply).0 in
    part_as refl (sym (own_whole word marked.raw_calls)) (sym (own_whole word marked.explanations)) refl
    (parts
    (turn_part (nat_lt 0 folded) script before reply (taken_own word marked.reasons) (taken_own word marked.raw_calls)
    (taken_own word marked.explanations) (taken_pass word marked.raw_calls) (taken_pass word marked.explanations))
    (turns_part (folded - 1) script reply replies (later_marked word marked)))

-- the link to folded calls is no story
link_part : (number : ℕ) → IsPart [] [] [] [] (set_up_link number)
link_part number = aside_part (set_up_link number) (by_if (nat_lt 0 number) AreAside {x = Shown SetUpCalls (decimal number) ∷ []} refl refl)

-- a session is its story, with all raw calls and explanations, and the numbers of those that no reply takes
session_part : (script replies : List (List ℕ)) (marked : Marked)
    → IsPart (story_from script [] replies marked.reasons) marked.raw_calls marked.explanations
    (session_numbers replies marked.raw_calls marked.explanations) (calls_items script replies marked)
session_part script replies marked =
    let zero = codes "0" in
    let raw = marked.raw_calls in
    let later = record marked { raw_calls = past_own zero raw } in
    let others = other_numbers replies (past_own zero raw) marked.explanations in
    let number = folded_count script replies in
    let ending : IsPart [] [] [] [] (Fixed EndSession ∷ []) = record { story = refl; raw = refl; why = refl; own = λ number. tt; others = refl } in
    part_as (sym (append-nil (story_from script [] replies marked.reasons)))
    (sym (append-nil ((taken_own zero raw ++ []) ++ past_own zero raw)
    ∙ ap (λ (l : List (List ℕ)). l ++ past_own zero raw) (append-nil (taken_own zero raw)) ∙ own_whole zero raw))
    (sym (append-nil marked.explanations)) (ap (λ (l : List (List ℕ)). zero ∷ l) (sym (append-nil others)))
    (parts
    (parts (parts (boot_part (taken_own zero raw) (taken_pass zero raw)) (link_part number)) (turns_part number script [] replies later))
    ending)

-- the links to processes are no story
links_aside : (processes : List (List ℕ)) → AreAside (begin_items processes)
links_aside [] = refl
links_aside (process ∷ processes) = links_aside processes

-- each session is one of its script, its output and its reasons
pub sessions_shown : SessionsAreShown
sessions_shown script output reasons =
    let processes = callers script (filter is_reply output) in
    let is = parts (aside_part (begin_items processes) (links_aside processes)) (session_part script (filter is_reply output) (record {
      reasons = filter is_reason reasons;
      raw_calls = filter is_raw_call output;
      explanations = filter is_explanation output;
    })) in
    record {
      story = is.story;
      raw_calls = is.raw;
      explanations = is.why;
      own = is.own [];
      with_calls = λ follows.
          is.others ∙ boot_alone (filter is_reply output) (filter is_raw_call output) (filter is_explanation output)
          follows.raw_calls follows.explanations;
    }

-- ---- the turns as they are written

-- what is written with one more turn, and the turns from there, are what was written and the turns from before
pub turns_next : (folded : ℕ) (script : List (List ℕ)) (before : List ℕ) (marked : Marked) (old : List Item) {reply word : List ℕ}
    {rest later : List (List ℕ)} {own left : Marked} {to_come : ℕ} {new whole : List Item} → rest ≡ reply ∷ later
    → word ≡ (split_word reply).0 → own ≡ own_marked word marked → left ≡ later_marked word marked → to_come ≡ folded - 1
    → new ≡ old ++ turn_items (nat_lt 0 folded) script before reply own
    → old ++ turns_from folded script before rest marked ≡ whole → new ++ turns_from to_come script reply later left ≡ whole
turns_next folded script before marked old {reply} {later = later} is_rest is_word own_is is_left is_to_come is_new h =
    let word = (split_word reply).0 in
    let turn : Marked → List Item = turn_items (nat_lt 0 folded) script before reply in
    let next : ℕ → Marked → List Item = λ number. turns_from number script reply later in
    (λ i. (is_new ∙ ap (λ own. old ++ turn own) (own_is ∙ ap (λ w. own_marked w marked) is_word)) i
    ++ next (is_to_come i) ((is_left ∙ ap (λ w. later_marked w marked) is_word) i))
    ∙ append_assoc old (turn (own_marked word marked)) (next (folded - 1) (later_marked word marked))
    ∙ ap (λ r. old ++ turns_from folded script before r marked) (sym is_rest) ∙ h

-- what is written when no reply is left, with the comments and the lines that no reply takes, is all
pub turns_end : (folded : ℕ) (script : List (List ℕ)) (before : List ℕ) (marked : Marked) (old : List Item)
    {rest notes raw why : List (List ℕ)} {noted called new whole : List Item} → rest ≡ []
    → notes ≡ drop (line_number before) script → raw ≡ marked.raw_calls → why ≡ marked.explanations
    → noted ≡ old ++ flat_map (note_items before) notes → called ≡ noted ++ flat_map other_call_items raw
    → new ≡ called ++ flat_map other_why_items why → old ++ turns_from folded script before rest marked ≡ whole → new ≡ whole
turns_end folded script before marked old {notes = notes} {raw} {why} is_rest is_notes is_raw is_why is_noted is_called is_new h =
    let items = flat_map (note_items before) notes in
    let calls = flat_map other_call_items raw in
    let whys = flat_map other_why_items why in
    is_new ∙ ap (λ (l : List Item). l ++ whys) (is_called ∙ ap (λ (l : List Item). l ++ calls) is_noted)
    ∙ ap (λ (l : List Item). l ++ whys) (append_assoc old items calls) ∙ append_assoc old (items ++ calls) whys
    ∙ (λ i. old ++ (flat_map (note_items before) (is_notes i) ++ flat_map other_call_items (is_raw i) ++ flat_map other_why_items (is_why i)))
    ∙ ap (λ r. old ++ turns_from folded script before r marked) (sym is_rest) ∙ h
