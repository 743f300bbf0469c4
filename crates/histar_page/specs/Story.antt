-- The story of a session: each call with its reply and the reason of its refusal, and the comments of the script between the calls.
use Rattle.std.specs.Prelude.{ℕ, ◌-◌, Bool, true, false, List, [], ◌∷◌, ◌++◌, codes, drop, map, take, unwrap_or, if◌then◌else◌}
use Rattle.std.specs.List.{flat_map}
use Rattle.std.specs.Str.{bytes_eq}
use Rattle.histar_script.specs.Lines.{split_word}
use Rattle.histar_page.specs.declared.kind.Kind.{Kind}
use Rattle.histar_page.specs.declared.kind.Kind.TheVariants.{LineNumber, Call, LoginBy, LoginAs, Reply, Refusal, Reason, Prose, Heading}
use Rattle.histar_page.specs.declared.kind.Kind.TheVariants.{Mark, ClaimMet, ClaimMissed}
use Rattle.histar_page.specs.Items.{Item}
use Rattle.histar_page.specs.Items.Item.{Shown}
use Rattle.histar_page.specs.Lines.{after_word, call_on, front_number, has_mark, is_refused}
use Rattle.histar_page.specs.Order.{past_own, taken_own}

-- ---- a call

-- the second word of a call is `login`
abbrev pub is_login : List ℕ → Bool
is_login call = bytes_eq (split_word (after_word call)).0 (codes "login")

-- the text of a call; of a login only its process and its user, for the password is hidden
abbrev pub shown_call : List ℕ → List Item
shown_call call =
    if is_login call then Shown LoginBy (split_word call).0 ∷ Shown LoginAs (split_word (after_word (after_word call))).0 ∷ []
    else Shown Call call ∷ []

-- a refusal is marked
abbrev pub reply_kind : List ℕ → Kind
reply_kind line = if is_refused line then Refusal else Reply

-- the items of a reply: the number of its line, the call on that line, and the reply
abbrev pub answer_items : List (List ℕ) → List ℕ → List Item
answer_items script line =
    Shown LineNumber (split_word line).0 ∷ shown_call (call_on script line) ++ Shown (reply_kind line) (after_word line) ∷ []

-- why a call was refused: the line after its mark and its number
abbrev pub reason_item : List ℕ → Item
reason_item line = Shown Reason (after_word line)

-- ---- a comment

-- an expected reply is met or missed, by the reply before it
abbrev pub claim_kind : List ℕ → List ℕ → Kind
claim_kind reply expected = if bytes_eq expected (after_word reply) then ClaimMet else ClaimMissed

-- a comment after its `# `: a heading begins with another one, and an empty comment is not shown
abbrev pub prose_items : List ℕ → List Item
prose_items [] = []
prose_items (b ∷ bs) =
    if bytes_eq (split_word (b ∷ bs)).0 (codes "#") then Shown Heading (after_word (b ∷ bs)) ∷ [] else Shown Prose (b ∷ bs) ∷ []

-- a line of the script after this reply that is no call: a comment is shown, an expected reply is compared, and else nothing is shown
abbrev pub note_items : List ℕ → List ℕ → List Item
note_items reply line =
    if bytes_eq (split_word line).0 (codes "#=") then Shown (claim_kind reply (after_word line)) (after_word line) ∷ []
    else if bytes_eq (split_word line).0 (codes "#") then prose_items (after_word line)
    else if has_mark 35 line then Shown Mark line ∷ []
    else []

-- ---- the story

-- the number of the line that a reply answers
abbrev pub line_number : List ℕ → ℕ
line_number reply = unwrap_or (front_number reply) 0

-- the lines of a script after the call of one reply and before that of the next
abbrev pub lines_between : List (List ℕ) → List ℕ → List ℕ → List (List ℕ)
lines_between script before reply = take (line_number reply - 1 - line_number before) (drop (line_number before) script)

-- a call with its reply, and these reasons
abbrev pub call_items : List (List ℕ) → List ℕ → List (List ℕ) → List Item
call_items script reply reasons = answer_items script reply ++ map reason_item reasons

-- the comments after the reply before this one; then the call, its reply, and these reasons
abbrev pub story_items : List (List ℕ) → List ℕ → List ℕ → List (List ℕ) → List Item
story_items script before reply reasons =
    flat_map (note_items before) (lines_between script before reply) ++ call_items script reply reasons

-- The story from a reply on: the comments up to the next call, that call, and so on; and at the end the comments after the last call.
abbrev pub story_from : List (List ℕ) → List ℕ → List (List ℕ) → List (List ℕ) → List Item
story_from script before [] reasons = flat_map (note_items before) (drop (line_number before) script)
story_from script before (reply ∷ replies) reasons =
    story_items script before reply (taken_own (split_word reply).0 reasons)
    ++ story_from script reply replies (past_own (split_word reply).0 reasons)

-- the kind is one of the story
abbrev pub is_story_kind : Kind → Bool
is_story_kind LineNumber = true
is_story_kind Call = true
is_story_kind LoginBy = true
is_story_kind LoginAs = true
is_story_kind Reply = true
is_story_kind Refusal = true
is_story_kind Reason = true
is_story_kind Prose = true
is_story_kind Heading = true
is_story_kind Mark = true
is_story_kind ClaimMet = true
is_story_kind ClaimMissed = true
is_story_kind kind = false
