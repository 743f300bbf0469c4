-- The output of a run with each reply after its call.
use Rattle.std.specs.Prelude.{ℕ, ◌-◌, List, [], ◌++◌, codes, decimal, Option, None, Some, nat_le, slice_index_or, unwrap_or}
use Rattle.std.specs.List.{flat_map}
use Rattle.histar_flat.specs.Words.{number_of}
use Rattle.histar_script.specs.Lines.{lines_of, most_script_lines, split_word}

-- the number at the front of a line, if it begins with the number of a line of a script
abbrev pub reply_number : List ℕ → Option ℕ
reply_number line = number_of (λ n. nat_le n most_script_lines) (split_word line).0

-- the number of a line of the script, two spaces, the call on that line, two spaces, and a reply
abbrev pub call_and_reply : List (List ℕ) → ℕ → List ℕ → List ℕ
call_and_reply script n reply = decimal n ++ codes "  " ++ slice_index_or script (n - 1) [] ++ codes "  " ++ reply

-- A line of a run's output, with the call that it answers: a reply begins with the number of its call's line, and the
-- text of that line is put between the number and the reply, with two spaces on each side. Other lines stay as they are.
abbrev pub with_call : List (List ℕ) → List ℕ → List ℕ
with_call script line = elim (reply_number line) [
  | None ↦ line
  | Some n ↦ call_and_reply script n (unwrap_or (split_word line).1 [])
]

-- the output of a run of the script in a text, with each reply after its call
abbrev pub transcript_of : List ℕ → List ℕ → List ℕ
transcript_of text output = flat_map (λ line. with_call (lines_of text) line ++ codes "\n") (lines_of output)
