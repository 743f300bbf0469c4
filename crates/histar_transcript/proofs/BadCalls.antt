-- The first bad line behind the lines of a script is none of these.
use Rattle.std.proofs.Common.{◌≡◌, ℕ, zero, suc, ◌+◌, ◌-◌, ◌≤◌, Bool, true, false, not, eqb}
use Rattle.std.proofs.Common.{List, [], ◌∷◌, ◌++◌, length, take, Option, None, Some, Ok, Err}
use Rattle.std.proofs.Common.{refl, sym, ap, ◌∙◌, inl, inr, arith, append_assoc, length-append}
use Rattle.std.specs.List.{AllByRecursion, list_all}
use Rattle.std.specs.Prelude.{if◌then◌else◌}
use Rattle.std.proofs.lemmas.List.{length-take-le}
use Rattle.std.proofs.lemmas.Bool.{cases_lt}
use Rattle.histar_script.specs.declared.fault.Fault.TheVariants.{BadScript, TooLong}
use Rattle.histar_script.specs.Lines.{is_too_long, lines_of}
use Rattle.histar_script.specs.Script.{ScriptModel, nothing_read}
use Rattle.histar_script.specs.Reading.{reading, script_of}
use Rattle.histar_script.specs.Grammar.{IsScript, TakesLines}
use Rattle.histar_script.proofs.Beginnings.{line_back, said_is_one_line}
use Rattle.histar_script.proofs.FirstBad.{begins_none}
use Rattle.histar_script.proofs.ScriptsBack.{found_from}
use Rattle.histar_transcript.specs.Extended.{ended_lines, extended_text, kept_lines}
use Rattle.histar_transcript.specs.TryLaws.{AddedLinesAreBad}

-- the bytes have no line end
abbrev pub IsOneLine : List ℕ → Type 0
IsOneLine line = list_all (λ b. not (eqb b 10)) line ≡ true

-- the first lines of a script have no line end
pub one_lines : (k : ℕ) (s : ScriptModel) (n : ℕ) (lines : List (List ℕ)) (t : ScriptModel) → TakesLines s n lines t
    → AllByRecursion IsOneLine (take k lines)
one_lines zero s n lines t takes = tt
one_lines (suc k) s n [] t takes = tt
one_lines (suc k) s n (line ∷ lines) t takes =
    (said_is_one_line line takes.1.0 takes.1.1, one_lines k takes.0 (n + 1) lines t takes.2)

-- no bytes have no line
no_line : (rest : List ℕ) → lines_of (ended_lines [] ++ rest) ≡ [] ++ lines_of rest
no_line rest = refl

-- lines that end are the lines of their text
pub lines_back : (lines : List (List ℕ)) (rest : List ℕ) → AllByRecursion IsOneLine lines
    → lines_of (ended_lines lines ++ rest) ≡ lines ++ lines_of rest
lines_back [] rest each = no_line rest
lines_back (line ∷ lines) rest each =
    ap lines_of (simp append_assoc) ∙ line_back line (ended_lines lines ++ rest) each.0
    ∙ ap (λ (ls : List (List ℕ)). line ∷ ls) (lines_back lines rest each.1)

-- the first of the lines that are kept are the first of all
first_kept : (n k : ℕ) (lines rest : List (List ℕ)) → n ≤ k → k ≤ length lines → take n lines ≡ take n (take k lines ++ rest)
first_kept zero k lines rest less within = refl
first_kept (suc n) zero lines rest less within = absurd (omega arith)
first_kept (suc n) (suc k) [] rest less within = absurd (omega arith)
first_kept (suc n) (suc k) (line ∷ lines) rest less within =
    ap (λ (ls : List (List ℕ)). line ∷ ls) (first_kept n k lines rest (omega arith) (omega arith))

-- as many are taken as there are, at most
pub few_taken : (n : ℕ) (lines : List (List ℕ)) → length (take n lines) ≤ length lines
few_taken zero lines = omega arith
few_taken (suc n) [] = omega arith
few_taken (suc n) (line ∷ lines) = let few = few_taken n lines in omega arith

few_kept : (at : Option ℕ) (lines : List (List ℕ)) → kept_lines at lines ≤ length lines
few_kept None lines = omega arith
few_kept (Some first) lines = few_taken (first - 1) lines

-- a text that is not too long is read
pub read_so : (text : List ℕ) (s : ScriptModel) → script_of text ≡ Ok s → reading text ≡ Ok s
read_so text s is = by (is_too_long text) is
  where
    by : (t : Bool) → (if t then Err TooLong else reading text) ≡ Ok s → reading text ≡ Ok s
    by true e = absurd cc
    by false e = e

bad_so : (text : List ℕ) (line : ℕ) → script_of text ≡ Err (BadScript line) → reading text ≡ Err (BadScript line)
bad_so text line is = by (is_too_long text) is
  where
    by : (t : Bool) → (if t then Err TooLong else reading text) ≡ Err (BadScript line) → reading text ≡ Err (BadScript line)
    by true e = absurd cc
    by false e = e

module _ (at : Option ℕ) (calls : List (List ℕ)) (text : List ℕ) (script : ScriptModel) (is : script_of text ≡ Ok script) where
  read : IsScript text script
  read = found_from text script (read_so text script is)

  abbrev kept : ℕ
  kept = kept_lines at (lines_of text)

  lines_are : lines_of (extended_text at calls text) ≡ take kept (lines_of text) ++ lines_of (ended_lines calls)
  lines_are = lines_back (take kept (lines_of text)) (ended_lines calls) (one_lines kept nothing_read 0 (lines_of text) script read.0)

  module _ (line : ℕ) (bad : script_of (extended_text at calls text) ≡ Err (BadScript line)) where
    early : line ≤ kept → ⊥
    early le =
        begins_none (extended_text at calls text) line (bad_so (extended_text at calls text) line bad)
        (let sum = ap length lines_are ∙ length-append (take kept (lines_of text)) (lines_of (ended_lines calls)) in
        let few = length-take-le kept (lines_of text) (few_kept at (lines_of text)) in omega (arith, sum, few, le))
        text script
        (first_kept line kept (lines_of text) (lines_of (ended_lines calls)) le (few_kept at (lines_of text)) ∙ ap (take line) (sym lines_are))
        read

pub added_lines_are_bad : AddedLinesAreBad
added_lines_are_bad at calls text script is line bad =
    elim (cases_lt (kept_lines at (lines_of text)) line) [ inl lt ↦ lt | inr le ↦ absurd (early at calls text script is line bad le) ]
