-- A line that begins with a number gets the text of its call, and its reply is behind the number.
use Rattle.std.proofs.Common.{◌≡◌, ℕ, ◌<◌, ◌^◌, List, [], ◌++◌, ◌-◌, Option, None, Some, codes}
use Rattle.std.proofs.Common.{ap, refl, ◌∙◌, append_assoc}
use Rattle.std.specs.Borrow.{Bor}
use Rattle.std.specs.Prelude.{decimal, slice_index_or, unwrap_or}
use Rattle.histar_flat.proofs.Numbers.{decimal_digits, is_digit}
use Rattle.histar_flat.proofs.SplitLemmas.{split_before}
use Rattle.histar_script.specs.Lines.{split_word}
use Rattle.histar_script.proofs.WordsBack.{bytes_lack}
use Rattle.histar_transcript.specs.Transcript.{reply_number, with_call}

-- the line of a reference
abbrev pub line_at : Bor (List ℕ) → List ℕ
line_at line = line.now

-- a reply gets the text of its call
pub with_call_is : (script : List (List ℕ)) (line : List ℕ) (n : ℕ) → reply_number line ≡ Some n
    → with_call script line ≡ decimal n ++ codes "  " ++ slice_index_or script (n - 1) [] ++ codes "  " ++ unwrap_or (split_word line).1 []
with_call_is script line n e = ap (λ (o : Option ℕ). elim o [
  | None ↦ line
  | Some n ↦ decimal n ++ codes "  " ++ slice_index_or script (n - 1) [] ++ codes "  " ++ unwrap_or (split_word line).1 []
]) e

-- behind the number of a line is its reply
pub number_split : (n : ℕ) (reply : List ℕ) → n < 2 ^ 64 → (split_word (decimal n ++ codes " " ++ reply)).1 ≡ Some reply
number_split n reply small =
    ap (λ (parts : List ℕ × Option (List ℕ)). parts.1)
    (ap split_word (append_assoc (decimal n) (codes " ") reply)
    ∙ split_before 32 (decimal n) reply (bytes_lack is_digit 32 (decimal n) refl (decimal_digits n small)))
