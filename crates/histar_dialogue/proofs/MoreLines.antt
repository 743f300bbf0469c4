-- One more line behind a script.
use Rattle.std.proofs.Common.{◌≡◌, ℕ, ◌+◌, ◌<◌, ◌≤◌, Bool, true, false, eqb}
use Rattle.std.proofs.Common.{ltb, ◌||◌, List, [], ◌∷◌, ◌++◌, length, Ok, Err, Some}
use Rattle.std.proofs.Common.{refl, sym, ap, subst, ◌∙◌, inl, inr, arith, rules, tests, append_assoc, length-append}
use Rattle.std.specs.Prelude.{All, if◌then◌else◌}
use Rattle.std.proofs.lemmas.Bool.{ltb-false}
use Rattle.histar_script.specs.declared.fault.Fault.TheVariants.{BadScript, TooLong}
use Rattle.histar_script.specs.declared.items.Item.{Item}
use Rattle.histar_script.specs.Lines.{is_too_long, lines_of, most_script_bytes, most_script_lines, onto_line}
use Rattle.histar_script.specs.Script.{ScriptModel, nothing_read}
use Rattle.histar_script.specs.Reading.{item_of, reading, script_of, with_lines}
use Rattle.histar_script.specs.Grammar.{Adds, Says, TakesLines}
use Rattle.histar_script.specs.Laws.{EndsItsLines}
use Rattle.histar_script.proofs.Beginnings.{line_back, said_is_one_line, takes_on}
use Rattle.histar_script.proofs.FirstBad.{first_bad}
use Rattle.histar_script.proofs.ItemsBack.{item_takes}
use Rattle.histar_script.proofs.Kept.{numbered}
use Rattle.histar_script.proofs.ScriptsBack.{again_from, found_from}
use Rattle.histar_dialogue.specs.Texts.{with_line}

-- a byte in front of the first of some lines is in front of the first of these and others
onto_more : (b : ℕ) (lines more : List (List ℕ)) → 0 < length lines → onto_line b (lines ++ more) ≡ onto_line b lines ++ more
onto_more b [] more some = absurd (omega arith)
onto_more b (line ∷ lines) more some = refl

-- a text with a line end has a line
some_line : (front : List ℕ) → 0 < length (lines_of (front ++ 10 ∷ []))
unfolding lines_of
some_line [] = omega arith
some_line (b ∷ bs) = by (eqb b 10) (some_line bs)
  where
    onto : (lines : List (List ℕ)) → 0 < length (onto_line b lines)
    onto [] = omega arith
    onto (line ∷ lines) = omega arith

    by : (t : Bool) → 0 < length (lines_of (bs ++ 10 ∷ []))
        → 0 < length (if t then [] ∷ lines_of (bs ++ 10 ∷ []) else onto_line b (lines_of (bs ++ 10 ∷ [])))
    by true some = omega arith
    by false some = onto (lines_of (bs ++ 10 ∷ []))

-- the lines of two texts, of which the first ends its lines
lines_apart : (front rest : List ℕ) → lines_of (front ++ 10 ∷ rest) ≡ lines_of (front ++ 10 ∷ []) ++ lines_of rest
unfolding lines_of
lines_apart [] rest = refl
lines_apart (b ∷ bs) rest = by (eqb b 10) (lines_apart bs rest)
  where
    by : (t : Bool) → lines_of (bs ++ 10 ∷ rest) ≡ lines_of (bs ++ 10 ∷ []) ++ lines_of rest
        → (if t then [] ∷ lines_of (bs ++ 10 ∷ rest) else onto_line b (lines_of (bs ++ 10 ∷ rest)))
        ≡ (if t then [] ∷ lines_of (bs ++ 10 ∷ []) else onto_line b (lines_of (bs ++ 10 ∷ []))) ++ lines_of rest
    by true later = ap (λ (ls : List (List ℕ)). [] ∷ ls) later
    by false later = ap (onto_line b) later ∙ onto_more b (lines_of (bs ++ 10 ∷ [])) (lines_of rest) (some_line bs)

-- before a text no line comes from no bytes
no_text : (rest : List ℕ) → lines_of rest ≡ lines_of [] ++ lines_of rest
unfolding lines_of
no_text rest = refl

-- the lines of a text that ends its lines, and of what comes after it
pub lines_after : (text rest : List ℕ) → EndsItsLines text → lines_of (text ++ rest) ≡ lines_of text ++ lines_of rest
lines_after text rest (inl none) = subst (λ (t : List ℕ). lines_of (t ++ rest) ≡ lines_of t ++ lines_of rest) (sym none) (no_text rest)
lines_after text rest (inr ends) =
    subst (λ (t : List ℕ). lines_of (t ++ rest) ≡ lines_of t ++ lines_of rest) (sym ends.1)
    (ap lines_of (append_assoc ends.0 (10 ∷ []) rest) ∙ lines_apart ends.0 rest)

-- one line with its end is this line
one_line : (line : List ℕ) (i : Item) → Says line i → lines_of (line ++ 10 ∷ []) ≡ line ∷ []
unfolding lines_of
one_line line i says = line_back line [] (said_is_one_line line i says)

-- a session with one line more ends its lines
pub ends_then : (text line : List ℕ) → EndsItsLines (with_line text line)
ends_then text line = inr (text ++ line, sym (append_assoc text line (10 ∷ [])))

-- the script of a text that is not too long
pub read_of : (text : List ℕ) (s : ScriptModel) → script_of text ≡ Ok s → reading text ≡ Ok s
read_of text s is = by (is_too_long text) is
  where
    by : (t : Bool) → (if t then Err TooLong else reading text) ≡ Ok s → reading text ≡ Ok s
    by true e = absurd cc
    by false e = e

-- the limits of a script are kept
pub within : (text : List ℕ) → length text ≤ most_script_bytes → length (lines_of text) ≤ most_script_lines → is_too_long text ≡ false
within text bytes lines =
    let few : ltb most_script_bytes (length text) ≡ false = search (rules, tests) in
    let short : ltb most_script_lines (length (lines_of text)) ≡ false = search (rules, tests) in
    rw (few, short) refl

-- a line that says something, behind a text that ends its lines
module _ (text line : List ℕ) (i : Item) (ends : EndsItsLines text) (item : item_of line ≡ Some i) where
  says : Says line i
  says = item_takes line i item

  lines_then : lines_of (with_line text line) ≡ lines_of text ++ line ∷ []
  lines_then = lines_after text (line ++ 10 ∷ []) ends ∙ ap (λ (ls : List (List ℕ)). lines_of text ++ ls) (one_line line i says)

  pub one_line_more : length (lines_of (with_line text line)) ≡ length (lines_of text) + 1
  one_line_more = ap length lines_then ∙ length-append (lines_of text) (line ∷ [])

  -- the text is not too long with it
  pub room_for : (count : ℕ) → count ≡ length (lines_of text) → count < most_script_lines
      → length text + length line + 1 ≤ most_script_bytes → is_too_long (with_line text line) ≡ false
  room_for count is lines bytes =
      within (with_line text line)
      (omega (arith, length-append text (line ++ 10 ∷ []), length-append line (10 ∷ []), bytes))
      (omega (arith, one_line_more, is, lines))

  -- and it is a script with what the line says
  pub script_then : (s t : ScriptModel) → script_of text ≡ Ok s → Adds s (length (lines_of text) + 1) i t
      → 0 < length t.accounts.users → is_too_long (with_line text line) ≡ false → script_of (with_line text line) ≡ Ok t
  script_then s t is adds some short =
      let script = found_from text s (read_of text s is) in
      ap (λ (b : Bool). if b then Err TooLong else reading (with_line text line)) short
      ∙ again_from (with_line text line) t (
        subst (λ (ls : List (List ℕ)). TakesLines nothing_read 0 ls t) (sym lines_then)
            (takes_on nothing_read 0 (length (lines_of text) + 1) (lines_of text) s line t script.0 (omega arith)
            (i, says, adds)),
        some,
      )

-- a script has a user
pub has_users : (text : List ℕ) (s : ScriptModel) → script_of text ≡ Ok s → 0 < length s.accounts.users
has_users text s is = (found_from text s (read_of text s is)).1

-- the calls of a script are on its lines
pub numbered_by : (text : List ℕ) (s : ScriptModel) → script_of text ≡ Ok s → All (λ c. (0 < c.line)
    × (c.line ≤ length (lines_of text))) s.calls
numbered_by text s is = (numbered text s (found_from text s (read_of text s is))).within

-- a bad text is not too long
pub bad_of : (text : List ℕ) (n : ℕ) → script_of text ≡ Err (BadScript n)
    → (is_too_long text ≡ false) × (reading text ≡ Err (BadScript n))
bad_of text n is = by (is_too_long text) refl is
  where
    by : (t : Bool) → is_too_long text ≡ t → (if t then Err TooLong else reading text) ≡ Err (BadScript n)
        → (is_too_long text ≡ false) × (reading text ≡ Err (BadScript n))
    by true e is = absurd cc
    by false e is = (e, is)

pub bad_read : (text : List ℕ) (n : ℕ) → script_of text ≡ Err (BadScript n) → reading text ≡ Err (BadScript n)
bad_read text n is = (bad_of text n is).1

-- it has few bytes
pub bad_bytes : (text : List ℕ) (n : ℕ) → script_of text ≡ Err (BadScript n) → length text ≤ most_script_bytes
bad_bytes text n is = by (ltb most_script_bytes (length text)) refl (bad_of text n is).0
  where
    by : (t : Bool) → ltb most_script_bytes (length text) ≡ t → (t || ltb most_script_lines (length (lines_of text))) ≡ false
        → length text ≤ most_script_bytes
    by true e is = absurd cc
    by false e is = ltb-false most_script_bytes (length text) e

-- a text whose first bad line is behind its lines is bad at the next one
pub lacks_user : (text : List ℕ) (n : ℕ) → script_of text ≡ Err (BadScript n) → length (lines_of text) < n
    → script_of text ≡ Err (BadScript (length (lines_of text) + 1))
lacks_user text n is lt =
    let place : n ≡ length (lines_of text) + 1 = omega (arith, (first_bad text n (bad_read text n is)).close.1, lt) in
    is ∙ ap (λ (k : ℕ). Err (BadScript k)) place

-- no text is bad at its first line
pub nothing_is_bad : script_of [] ≡ Err (BadScript 1)
unfolding reading with_lines lines_of
nothing_is_bad = refl
