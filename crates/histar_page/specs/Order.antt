-- Lines in the order of the replies that they belong to.
use Rattle.std.specs.Prelude.{◌≡◌, ℕ, true, List, [], ◌∷◌, ◌++◌, codes, filter, map, if◌then◌else◌}
use Rattle.std.specs.List.{list_all}
use Rattle.histar_script.specs.Lines.{split_word}
use Rattle.histar_page.specs.Lines.{is_explanation, is_own, is_raw_call, is_reply}

-- the numbers that replies begin with
abbrev pub reply_numbers : List (List ℕ) → List (List ℕ)
reply_numbers replies = map (λ line. (split_word line).0) replies

-- Lines follow numbers: first come the lines with the first number after their mark, then those with the second, and so on, and no others.
abbrev pub Follow : List (List ℕ) → List (List ℕ) → Type 0
Follow [] lines = lines ≡ []
Follow (number ∷ numbers) lines =
    (own : List (List ℕ)) × (rest : List (List ℕ)) × (lines ≡ own ++ rest) × (list_all (is_own number) own ≡ true) × Follow numbers rest

-- The raw calls of an output are those of boot, and then those of one reply after another; the explanations are the same, without boot's.
pub record FollowsReplies (output : List (List ℕ)) : Type 0 where
  pub raw_calls : Follow (codes "0" ∷ reply_numbers (filter is_reply output)) (filter is_raw_call output)
  pub explanations : Follow (reply_numbers (filter is_reply output)) (filter is_explanation output)

-- ---- the lines that belong to one reply

-- the lines that begin with a mark: reasons of refusals, raw calls and explanations
pub record Marked : Type 0 where
  pub reasons : List (List ℕ)
  pub raw_calls : List (List ℕ)
  pub explanations : List (List ℕ)

-- the lines at the front that have this number
abbrev pub taken_own : List ℕ → List (List ℕ) → List (List ℕ)
taken_own number [] = []
taken_own number (line ∷ lines) = if is_own number line then line ∷ taken_own number lines else []

-- lines without those at the front that have this number
abbrev pub past_own : List ℕ → List (List ℕ) → List (List ℕ)
past_own number [] = []
past_own number (line ∷ lines) = if is_own number line then past_own number lines else line ∷ lines

-- those of each kind at the front that have this number
abbrev pub own_marked : List ℕ → Marked → Marked
own_marked number marked = record {
  reasons = taken_own number marked.reasons;
  raw_calls = taken_own number marked.raw_calls;
  explanations = taken_own number marked.explanations;
}

-- those of each kind without the ones at the front that have this number
abbrev pub later_marked : List ℕ → Marked → Marked
later_marked number marked = record {
  reasons = past_own number marked.reasons;
  raw_calls = past_own number marked.raw_calls;
  explanations = past_own number marked.explanations;
}
