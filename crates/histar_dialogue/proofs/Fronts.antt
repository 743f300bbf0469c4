-- The first lines of a session are a session.
use Rattle.std.proofs.Common.{◌≡◌, ℕ, suc, ◌+◌, ◌-◌, Bool, true, false, eqb, ltb, ◌⊎◌}
use Rattle.std.proofs.Common.{List, [], ◌∷◌, ◌++◌, length, take, drop, Option, None, Some, Result, Ok, Err}
use Rattle.std.proofs.Common.{refl, sym, ap, subst, ◌∙◌, inl, inr, arith, length-append}
use Rattle.std.specs.Prelude.{IsOk, if◌then◌else◌}
use Rattle.std.proofs.lemmas.Bool.{eqb-true, ltb-false, or_parts}
use Rattle.histar_script.specs.declared.fault.Fault.{Fault}
use Rattle.histar_script.specs.declared.fault.Fault.TheVariants.{BadScript, TooLong}
use Rattle.histar_script.specs.Laws.{EndsItsLines}
use Rattle.histar_script.specs.Lines.{is_too_long, lines_of, most_script_bytes, most_script_lines}
use Rattle.histar_script.specs.Reading.{is_empty, reading, script_of, with_line, with_lines}
use Rattle.histar_script.specs.Script.{ScriptModel, nothing_read}
use Rattle.histar_script.proofs.FirstBad.{failed}
use Rattle.histar_script.proofs.ScriptsBack.{after}
use Rattle.histar_dialogue.specs.Session.{IsBegun}
use Rattle.histar_dialogue.specs.Talk.{bytes_of_lines}
use Rattle.histar_dialogue.proofs.MoreLines.{bad_of, lines_after, read_of, within}

-- ---- lines that are read from a script on

-- the result is a script, or that of lines none of which is bad, and that lack a user
abbrev IsRight : ℕ → Result ScriptModel Fault → Type 0
IsRight n read = ((t : ScriptModel) × (read ≡ Ok t)) ⊎ ((k : ℕ) × (k ≡ n + 1) × (read ≡ Err (BadScript k)))

-- these lines, after the first n, are right
abbrev ReadsOn : ScriptModel → ℕ → List (List ℕ) → Type 0
ReadsOn s n lines = IsRight (n + length lines) (with_lines s n lines)

-- the first of some right lines are right
front_reads : (s : ScriptModel) (n : ℕ) (lines more : List (List ℕ)) → ReadsOn s n (lines ++ more) → ReadsOn s n lines
unfolding with_lines
front_reads s n [] more reads = by (is_empty s.accounts.users)
  where
    by : (none : Bool) → IsRight (n + 0) (if none then Err (BadScript (n + 1)) else Ok s)
    by true = inr (n + 1, omega arith, refl)
    by false = inl (s, refl)
front_reads s n (line ∷ lines) more reads =
    by (with_line s (n + 1) line) (λ m later. front_reads m (n + 1) lines more later) reads
  where
    shifted : (read : Result ScriptModel Fault) → IsRight (n + 1 + length lines) read → IsRight (n + suc (length lines)) read
    shifted read (inl is) = inl is
    shifted read (inr is) = inr (is.0, omega (arith, is.1), is.2)

    one : (a b : ℕ) → failed a ≡ failed b → a ≡ b
    one a b e = cc

    by : (o : Option ScriptModel) → ((m : ScriptModel) → ReadsOn m (n + 1) (lines ++ more) → ReadsOn m (n + 1) lines)
        → IsRight (n + suc (length (lines ++ more))) (after (n + 1) (λ m. with_lines m (n + 1) (lines ++ more)) o)
        → IsRight (n + suc (length lines)) (after (n + 1) (λ m. with_lines m (n + 1) lines) o)
    by None next (inl is) = absurd cc
    by None next (inr is) = let same : n + 1 ≡ is.0 = one (n + 1) is.0 is.2 in absurd (omega (arith, is.1, same))
    by (Some m) next (inl is) = shifted (with_lines m (n + 1) lines) (next m (inl is))
    by (Some m) next (inr is) = shifted (with_lines m (n + 1) lines) (next m (inr (is.0, omega (arith, is.1), is.2)))

-- ---- the limits

-- a script is not too long
not_long : (text : List ℕ) (s : ScriptModel) → script_of text ≡ Ok s → is_too_long text ≡ false
not_long text s is = by (is_too_long text) refl is
  where
    by : (t : Bool) → is_too_long text ≡ t → (if t then Err TooLong else reading text) ≡ Ok s → is_too_long text ≡ false
    by true e is = absurd cc
    by false e is = e

-- a front of a text that is not too long is not too long
front_fits : (front back : List ℕ) → EndsItsLines front → is_too_long (front ++ back) ≡ false → is_too_long front ≡ false
front_fits front back ends is =
    let parts = or_parts (ltb most_script_bytes (length (front ++ back))) (ltb most_script_lines (length (lines_of (front ++ back)))) is in
    let bytes = ltb-false most_script_bytes (length (front ++ back)) parts.0 in
    let many = ltb-false most_script_lines (length (lines_of (front ++ back))) parts.1 in
    let lines = ap length (lines_after front back ends) ∙ length-append (lines_of front) (lines_of back) in
    within front (omega (arith, bytes, length-append front back)) (omega (arith, many, lines))

-- ---- a session and its first lines

-- the lines of a session are right, and few
reads_of : (text : List ℕ) → IsBegun text → (is_too_long text ≡ false) × ReadsOn nothing_read 0 (lines_of text)
unfolding reading
reads_of text (inl ok) = by (script_of text) refl ok
  where
    by : (r : Result ScriptModel Fault) → script_of text ≡ r → IsOk r → (is_too_long text ≡ false) × ReadsOn nothing_read 0 (lines_of text)
    by (Ok s) is ok = (not_long text s is, inl (s, read_of text s is))
    by (Err fault) is ok = absurd cc
reads_of text (inr is) =
    let bad = bad_of text (length (lines_of text) + 1) is in (bad.0, inr (length (lines_of text) + 1, omega arith, bad.1))

-- right lines, and few, are a session
begun_of : (text : List ℕ) → is_too_long text ≡ false → ReadsOn nothing_read 0 (lines_of text) → IsBegun text
unfolding reading
begun_of text short reads = by reads
  where
    read : script_of text ≡ reading text
    read = ap (λ (t : Bool). if t then Err TooLong else reading text) short

    by : ReadsOn nothing_read 0 (lines_of text) → IsBegun text
    by (inl is) = inl (subst IsOk (sym (read ∙ is.1)) refl)
    by (inr is) =
        let same : is.0 ≡ length (lines_of text) + 1 = omega (arith, is.1) in
        inr (read ∙ is.2 ∙ ap (λ (k : ℕ). Err (BadScript k)) same)

-- the first lines of a session are a session
pub front_begun : (front back : List ℕ) → EndsItsLines front → IsBegun (front ++ back) → IsBegun front
front_begun front back ends begun =
    let reads = reads_of (front ++ back) begun in
    begun_of front (front_fits front back ends reads.0)
    (front_reads nothing_read 0 (lines_of front) (lines_of back)
    (subst (ReadsOn nothing_read 0) (lines_after front back ends) reads.1))

-- a session that is bad lacks a user
pub lacks_one : (text : List ℕ) (n : ℕ) → IsBegun text → script_of text ≡ Err (BadScript n)
    → script_of text ≡ Err (BadScript (length (lines_of text) + 1))
lacks_one text n (inl ok) is = absurd (no_script (subst IsOk is ok))
  where
    no_script : IsOk (failed n) → ⊥
    no_script ok = cc
lacks_one text n (inr bad) is = bad

-- ---- texts that end their lines

-- a text with a byte less in front ends its lines
tail_ends : (b : ℕ) (text : List ℕ) → EndsItsLines (b ∷ text) → EndsItsLines text
tail_ends b text (inl none) = absurd cc
tail_ends b text (inr ends) = by ends.0 ends.1
  where
    by : (front : List ℕ) → b ∷ text ≡ front ++ 10 ∷ [] → EndsItsLines text
    by [] e = inl cc
    by (c ∷ front) e = inr (front, cc)

-- one byte that ends its line is a line end
one_feed : (b : ℕ) → EndsItsLines (b ∷ []) → b ≡ 10
one_feed b (inl none) = absurd cc
one_feed b (inr ends) = by ends.0 ends.1
  where
    by : (front : List ℕ) → b ∷ [] ≡ front ++ 10 ∷ [] → b ≡ 10
    by [] e = cc
    by (c ∷ []) e = absurd cc
    by (c ∷ d ∷ front) e = absurd cc

-- a byte in front of a text that ends its lines, or a line end in front of nothing
onto_ends : (b : ℕ) (text : List ℕ) → EndsItsLines text → (text ≡ [] → b ≡ 10) → EndsItsLines (b ∷ text)
onto_ends b text (inl none) feed = let e : b ≡ 10 = feed none in inr ([], cc)
onto_ends b text (inr ends) feed = inr (b ∷ ends.0, ap (λ (l : List ℕ). b ∷ l) ends.1)

-- two texts that end their lines
pub joined_ends : (text more : List ℕ) → EndsItsLines text → EndsItsLines more → EndsItsLines (text ++ more)
joined_ends [] more ends more_ends = more_ends
joined_ends (b ∷ text) more ends more_ends =
    onto_ends b (text ++ more) (joined_ends text more (tail_ends b text ends) more_ends) (by text ends)
  where
    by : (text : List ℕ) → EndsItsLines (b ∷ text) → text ++ more ≡ [] → b ≡ 10
    by [] ends none = one_feed b ends
    by (c ∷ text) ends none = absurd cc

-- how many line ends are to come behind this byte, of so many
abbrev left : ℕ → ℕ → ℕ
left n b = if eqb b 10 then n - 1 else n

-- where nothing is taken behind a byte, it is the last line end
last_feed : (n b : ℕ) (text : List ℕ) → EndsItsLines (b ∷ text) → eqb n 0 ≡ false
    → take (bytes_of_lines (left n b) text) text ≡ [] → b ≡ 10
unfolding bytes_of_lines
last_feed n b [] ends some none = one_feed b ends
last_feed n b (c ∷ text) ends some none = by (eqb (left n b) 0) refl none
  where
    at_end : (t : Bool) → eqb b 10 ≡ t → eqb (if t then n - 1 else n) 0 ≡ true → b ≡ 10
    at_end true e zero = eqb-true b 10 e
    at_end false e zero = absurd cc

    by : (t : Bool) → eqb (left n b) 0 ≡ t
        → take (if t then 0 else suc (bytes_of_lines (if eqb c 10 then left n b - 1 else left n b) text)) (c ∷ text) ≡ []
        → b ≡ 10
    by true e none = at_end (eqb b 10) refl e
    by false e none = absurd cc

-- the first lines of a text that ends its lines end theirs, and so do the others
pub cut_ends : (n : ℕ) (text : List ℕ) → EndsItsLines text
    → EndsItsLines (take (bytes_of_lines n text) text) × EndsItsLines (drop (bytes_of_lines n text) text)
unfolding bytes_of_lines
cut_ends n [] ends = (inl refl, inl refl)
cut_ends n (b ∷ text) ends = by (eqb n 0) refl (cut_ends (left n b) text (tail_ends b text ends))
  where
    by : (t : Bool) → eqb n 0 ≡ t
        → EndsItsLines (take (bytes_of_lines (left n b) text) text) × EndsItsLines (drop (bytes_of_lines (left n b) text) text)
        → EndsItsLines (take (if t then 0 else suc (bytes_of_lines (left n b) text)) (b ∷ text))
        × EndsItsLines (drop (if t then 0 else suc (bytes_of_lines (left n b) text)) (b ∷ text))
    by true e later = (inl refl, ends)
    by false e later =
        (onto_ends b (take (bytes_of_lines (left n b) text) text) later.0 (last_feed n b text ends e), later.1)
