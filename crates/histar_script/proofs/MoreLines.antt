-- One more line behind a script.
use Rattle.std.proofs.Common.{◌≡◌, ℕ, ◌+◌, ◌<◌, Bool, true, false, eqb, List, [], ◌∷◌, ◌++◌, length, Ok}
use Rattle.std.proofs.Common.{Err, refl, sym, ap, subst, ◌∙◌, inl, inr, arith}
use Rattle.std.proofs.Common.{append_assoc}
use Rattle.std.specs.Prelude.{if◌then◌else◌}
use Rattle.histar_script.specs.declared.fault.Fault.TheVariants.{TooLong}
use Rattle.histar_script.specs.declared.items.Item.{Item}
use Rattle.histar_script.specs.declared.items.Item.TheVariants as items
use Rattle.histar_script.specs.Lines.{is_too_long, lines_of, onto_line}
use Rattle.histar_script.specs.Script.{ScriptModel, nothing_read}
use Rattle.histar_script.specs.Reading.{reading, script_of}
use Rattle.histar_script.specs.Grammar.{IsScript, Says, TakesLines}
use Rattle.histar_script.specs.Laws.{EndsItsLines, OneMoreLine}
use Rattle.histar_script.proofs.Beginnings.{line_back, said_is_one_line, takes_on}
use Rattle.histar_script.proofs.ScriptsBack.{again_from, found_from}

-- a byte in front of the first of some lines is in front of the first of these and others
onto_more : (b : ℕ) (lines more : List (List ℕ)) → 0 < length lines → onto_line b (lines ++ more) ≡ onto_line b lines ++ more
onto_more b [] more some = absurd (omega arith)
onto_more b (line ∷ lines) more some = refl

-- a text with a line end has a line
some_line : (front : List ℕ) → 0 < length (lines_of (front ++ 10 ∷ []))
unfolding lines_of
some_line [] = omega arith
some_line (b ∷ bs) = by (eqb b 10) (some_line bs)
  where
    onto : (lines : List (List ℕ)) → 0 < length (onto_line b lines)
    onto [] = omega arith
    onto (line ∷ lines) = omega arith

    by : (t : Bool) → 0 < length (lines_of (bs ++ 10 ∷ []))
        → 0 < length (if t then [] ∷ lines_of (bs ++ 10 ∷ []) else onto_line b (lines_of (bs ++ 10 ∷ [])))
    by true some = omega arith
    by false some = onto (lines_of (bs ++ 10 ∷ []))

-- the lines of two texts, of which the first ends its lines
lines_apart : (front rest : List ℕ) → lines_of (front ++ 10 ∷ rest) ≡ lines_of (front ++ 10 ∷ []) ++ lines_of rest
unfolding lines_of
lines_apart [] rest = refl
lines_apart (b ∷ bs) rest = by (eqb b 10) (lines_apart bs rest)
  where
    by : (t : Bool) → lines_of (bs ++ 10 ∷ rest) ≡ lines_of (bs ++ 10 ∷ []) ++ lines_of rest
        → (if t then [] ∷ lines_of (bs ++ 10 ∷ rest) else onto_line b (lines_of (bs ++ 10 ∷ rest)))
        ≡ (if t then [] ∷ lines_of (bs ++ 10 ∷ []) else onto_line b (lines_of (bs ++ 10 ∷ []))) ++ lines_of rest
    by true later = ap (λ (ls : List (List ℕ)). [] ∷ ls) later
    by false later = ap (onto_line b) later ∙ onto_more b (lines_of (bs ++ 10 ∷ [])) (lines_of rest) (some_line bs)

-- before a text no line comes from no bytes
no_text : (rest : List ℕ) → lines_of rest ≡ lines_of [] ++ lines_of rest
unfolding lines_of
no_text rest = refl

-- the lines of a text that ends its lines, and of what comes after it
lines_after : (text rest : List ℕ) → EndsItsLines text → lines_of (text ++ rest) ≡ lines_of text ++ lines_of rest
lines_after text rest (inl none) = subst (λ (t : List ℕ). lines_of (t ++ rest) ≡ lines_of t ++ lines_of rest) (sym none) (no_text rest)
lines_after text rest (inr ends) =
    subst (λ (t : List ℕ). lines_of (t ++ rest) ≡ lines_of t ++ lines_of rest) (sym ends.1)
    (ap lines_of (append_assoc ends.0 (10 ∷ []) rest) ∙ lines_apart ends.0 rest)

-- one line with its end is this line
one_line : (line : List ℕ) (i : Item) → Says line i → lines_of (line ++ 10 ∷ []) ≡ line ∷ []
unfolding lines_of
one_line line i says = line_back line [] (said_is_one_line line i says)

-- the script of a text that is not too long
read_of : (text : List ℕ) (s : ScriptModel) → script_of text ≡ Ok s → reading text ≡ Ok s
read_of text s is = by (is_too_long text) is
  where
    by : (t : Bool) → (if t then Err TooLong else reading text) ≡ Ok s → reading text ≡ Ok s
    by true e = absurd cc
    by false e = e

pub one_more_line : OneMoreLine
one_more_line text line s p call is ends says declared short =
    ap (λ (t : Bool). if t then Err TooLong else reading (text ++ (line ++ 10 ∷ []))) short
    ∙ again_from (text ++ (line ++ 10 ∷ [])) longer (taken, script.1)
  where
    longer : ScriptModel
    longer = record { accounts = s.accounts; calls = s.calls ++ record { line = length (lines_of text) + 1; process = p; call = call } ∷ [] }

    script : IsScript text s
    script = found_from text s (read_of text s is)

    taken : TakesLines nothing_read 0 (lines_of (text ++ (line ++ 10 ∷ []))) longer
    taken =
        subst (λ (ls : List (List ℕ)). TakesLines nothing_read 0 ls longer)
        (sym (lines_after text (line ++ 10 ∷ []) ends ∙ ap (λ (ls : List (List ℕ)). lines_of text ++ ls) (one_line line (items.Call p call) says)))
        (takes_on nothing_read 0 (length (lines_of text) + 1) (lines_of text) s line longer script.0 (omega arith)
        (items.Call p call, says, (script.1, declared, refl)))
