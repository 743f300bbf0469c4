-- The first lines of a script, up to a line or to the first call, are a script with the same accounts and the calls on these lines.
use Rattle.std.proofs.Common.{◌≡◌, ℕ, zero, suc, ◌+◌, ◌-◌, ◌<◌, ◌≤◌}
use Rattle.std.proofs.Common.{min, max, Bool, true, false, eqb, ltb, ◌⊎◌}
use Rattle.std.proofs.Common.{List, [], ◌∷◌, ◌++◌, length, take, Some, Ok, Err}
use Rattle.std.proofs.Common.{refl, sym, ap, ◌∙◌, subst, inl, inr, arith, append-nil, append_assoc, length-append}
use Rattle.std.specs.List.{AllByRecursion}
use Rattle.std.specs.Prelude.{if◌then◌else◌}
use Rattle.std.proofs.lemmas.List.{take_all}
use Rattle.std.proofs.lemmas.List.Elements.{filter-append}
use Rattle.std.proofs.lemmas.Bool.{cases_lt, lt-ltb, le-ltb, ltb-false, or_parts}
use Rattle.histar_flat.specs.declared.calls.CallLine.{CallLine}
use Rattle.histar_flat.specs.Accounts.{Accounts}
use Rattle.histar_script.specs.declared.items.Item.{Item}
use Rattle.histar_script.specs.declared.items.Item.TheVariants as items
use Rattle.histar_script.specs.declared.fault.Fault.TheVariants.{TooLong}
use Rattle.histar_script.specs.Lines.{is_too_long, lines_of, most_script_bytes, most_script_lines, onto_line}
use Rattle.histar_script.specs.Script.{ScriptModel, nothing_read}
use Rattle.histar_script.specs.Reading.{reading, script_of}
use Rattle.histar_script.specs.Grammar.{Adds, IsScript, TakesLines}
use Rattle.histar_script.proofs.ScriptsBack.{again_from, found_from}
use Rattle.histar_prefix.specs.Prefix.{calls_before, is_before}
use Rattle.histar_transcript.specs.Front.{IsFront, count_before, lines_before, script_before}
use Rattle.histar_transcript.specs.Extended.{ended_lines}
use Rattle.histar_transcript.proofs.BadCalls.{few_taken, lines_back, one_lines, read_so}

-- the calls are on the first n lines
abbrev AreWithin : ℕ → List CallLine → Type 0
AreWithin n calls = AllByRecursion (λ (c : CallLine). c.line ≤ n) calls

-- the calls are on lines after the first n
abbrev AreLater : ℕ → List CallLine → Type 0
AreLater n calls = AllByRecursion (λ (c : CallLine). n < c.line) calls

-- a line of this number adds a call and no account
record AddsCall (s : ScriptModel) (n : ℕ) (t : ScriptModel) : Type 0 where
  call : CallLine
  line : call.line ≡ n
  calls : t.calls ≡ s.calls ++ call ∷ []
  accounts : t.accounts ≡ s.accounts

-- a line adds no call, or a call and no account
added : (s : ScriptModel) (n : ℕ) (i : Item) (t : ScriptModel) → Adds s n i t → (t.calls ≡ s.calls) ⊎ AddsCall s n t
added s n items.Comment t a = inl (ap (λ (x : ScriptModel). x.calls) a)
added s n (items.User u) t a = inl (ap (λ (x : ScriptModel). x.calls) a.4)
added s n (items.Group g) t a = inl (ap (λ (x : ScriptModel). x.calls) a.5)
added s n (items.Call p c) t a =
    inr (record {
      call = record { line = n; process = p; call = c };
      line = refl;
      calls = ap (λ (x : ScriptModel). x.calls) a.2;
      accounts = ap (λ (x : ScriptModel). x.accounts) a.2;
    })

-- after a call no line adds an account
same_accounts : (s : ScriptModel) (n : ℕ) (i : Item) (t : ScriptModel) → 0 < length s.calls → Adds s n i t → t.accounts ≡ s.accounts
same_accounts s n items.Comment t some a = ap (λ (x : ScriptModel). x.accounts) a
same_accounts s n (items.User u) t some a = let none : length s.calls ≡ 0 = ap length a.0 in absurd (omega arith)
same_accounts s n (items.Group g) t some a = let none : length s.calls ≡ 0 = ap length a.0 in absurd (omega arith)
same_accounts s n (items.Call p c) t some a = ap (λ (x : ScriptModel). x.accounts) a.2

-- a line takes no call away
still_some : (s : ScriptModel) (n : ℕ) (t : ScriptModel) → 0 < length s.calls → (t.calls ≡ s.calls) ⊎ AddsCall s n t → 0 < length t.calls
still_some s n t some (inl same) = subst (λ (cs : List CallLine). 0 < length cs) (sym same) some
still_some s n t some (inr a) =
    subst (λ (cs : List CallLine). 0 < length cs) (sym a.calls) (omega (arith, length-append s.calls (a.call ∷ []), some))

-- after a call no lines add an account
accounts_kept : (s : ScriptModel) (n : ℕ) (lines : List (List ℕ)) (t : ScriptModel) → TakesLines s n lines t → 0 < length s.calls
    → t.accounts ≡ s.accounts
accounts_kept s n [] t h some = ap (λ (x : ScriptModel). x.accounts) h
accounts_kept s n (line ∷ lines) t h some =
    let a = h.1.2 in
    accounts_kept h.0 (n + 1) lines t h.2 (still_some s (n + 1) h.0 some (added s (n + 1) h.1.0 h.0 a))
    ∙ same_accounts s (n + 1) h.1.0 h.0 some a

-- calls after the first n + 1 lines are after the first n
later_still : (n : ℕ) (calls : List CallLine) → AreLater (n + 1) calls → AreLater n calls
later_still n [] each = tt
later_still n (c ∷ calls) each = (omega (arith, each.0), later_still n calls each.1)

-- lines after the first n add calls with such numbers
record AddsCalls (s : ScriptModel) (n : ℕ) (t : ScriptModel) : Type 0 where
  later : List CallLine
  calls : t.calls ≡ s.calls ++ later
  after : AreLater n later

-- the calls of one more line, and those of the lines after it
calls_on : (s : ScriptModel) (n : ℕ) (mid t : ScriptModel) → (mid.calls ≡ s.calls) ⊎ AddsCall s (n + 1) mid → AddsCalls mid (n + 1) t
    → AddsCalls s n t
calls_on s n mid t (inl same) a =
    record { later = a.later; calls = a.calls ∙ ap (λ (cs : List CallLine). cs ++ a.later) same; after = later_still n a.later a.after }
calls_on s n mid t (inr one) a =
    record {
      later = one.call ∷ a.later;
      calls = a.calls ∙ ap (λ (cs : List CallLine). cs ++ a.later) one.calls ∙ append_assoc s.calls (one.call ∷ []) a.later;
      after = (omega (arith, one.line), later_still n a.later a.after);
    }

calls_added : (s : ScriptModel) (n : ℕ) (lines : List (List ℕ)) (t : ScriptModel) → TakesLines s n lines t → AddsCalls s n t
calls_added s n [] t h =
    record { later = []; calls = ap (λ (x : ScriptModel). x.calls) h ∙ sym (append-nil s.calls); after = tt }
calls_added s n (line ∷ lines) t h =
    calls_on s n h.0 t (added s (n + 1) h.1.0 h.0 h.1.2) (calls_added h.0 (n + 1) lines t h.2)

-- of calls before a line all are kept
all_before : (at : ℕ) (calls : List CallLine) → AllByRecursion (λ (c : CallLine). c.line < at) calls → calls_before (Some at) calls ≡ calls
all_before at [] each = refl
all_before at (c ∷ calls) each =
    rw (lt-ltb c.line at each.0) (ap (λ (cs : List CallLine). c ∷ cs) (all_before at calls each.1))

-- of calls from a line on none is kept
none_before : (at : ℕ) (calls : List CallLine) → AllByRecursion (λ (c : CallLine). at ≤ c.line) calls → calls_before (Some at) calls ≡ []
none_before at [] each = refl
none_before at (c ∷ calls) each = rw (le-ltb c.line at each.0) (none_before at calls each.1)

-- calls on the first n lines are before line n + 1, and later ones are not
early : (n at : ℕ) (calls : List CallLine) → n < at → AreWithin n calls → AllByRecursion (λ (c : CallLine). c.line < at) calls
early n at [] less each = tt
early n at (c ∷ calls) less each = (omega (arith, each.0, less), early n at calls less each.1)

late : (n at : ℕ) (calls : List CallLine) → at ≤ n + 1 → AreLater n calls → AllByRecursion (λ (c : CallLine). at ≤ c.line) calls
late n at [] most each = tt
late n at (c ∷ calls) most each = (omega (arith, each.0, most), late n at calls most each.1)

-- one more call on line n + 1
within_more : (n : ℕ) (calls : List CallLine) (c : CallLine) → AreWithin n calls → c.line ≡ n + 1 → AreWithin (n + 1) (calls ++ c ∷ [])
within_more n [] c each line = (omega (arith, line), tt)
within_more n (d ∷ calls) c each line = (omega (arith, each.0), within_more n calls c each.1 line)

within_still : (n : ℕ) (calls : List CallLine) → AreWithin n calls → AreWithin (n + 1) calls
within_still n [] each = tt
within_still n (d ∷ calls) each = (omega (arith, each.0), within_still n calls each.1)

within_next : (s : ScriptModel) (n : ℕ) (t : ScriptModel) → AreWithin n s.calls → (t.calls ≡ s.calls) ⊎ AddsCall s (n + 1) t
    → AreWithin (n + 1) t.calls
within_next s n t each (inl same) = subst (AreWithin (n + 1)) (sym same) (within_still n s.calls each)
within_next s n t each (inr a) = subst (AreWithin (n + 1)) (sym a.calls) (within_more n s.calls a.call each a.line)

-- a script of equal parts
of_parts : (s : ScriptModel) (accounts : Accounts) (calls : List CallLine) → accounts ≡ s.accounts → calls ≡ s.calls
    → record { accounts = accounts; calls = calls } ≡ s
of_parts s accounts calls a c = rw (a, c) refl

module _ (at : ℕ) (t : ScriptModel) (first : CallLine) (more : List CallLine) (is : t.calls ≡ first ∷ more) where
  -- the script that is kept
  abbrev kept : ScriptModel
  kept = script_before at t

  -- Line k is the last before the given one or before the first call, whichever is later.
  record IsLast (k : ℕ) : Type 0 where
    below : at ≤ k + 1
    called : first.line ≤ k + 1
    exact : (at ≡ k + 1) ⊎ (first.line ≡ k + 1)

  -- where the next line has the first call, all accounts are there
  next_is_call : (s : ScriptModel) (n : ℕ) (lines : List (List ℕ)) → TakesLines s n lines t → s.calls ≡ [] → first.line ≤ n + 1
      → t.accounts ≡ s.accounts
  next_is_call s n [] h none few = absurd (cc (is, none, h))
  next_is_call s n (line ∷ lines) h none few = by (added s (n + 1) h.1.0 h.0 h.1.2)
    where
      by : (h.0.calls ≡ s.calls) ⊎ AddsCall s (n + 1) h.0 → t.accounts ≡ s.accounts
      by (inl same) = absurd (too_late (calls_added h.0 (n + 1) lines t h.2))
        where
          too_late : AddsCalls h.0 (n + 1) t → ⊥
          too_late a = first_of a.later a.after (sym is ∙ a.calls ∙ ap (λ (cs : List CallLine). cs ++ a.later) (same ∙ none))
            where
              first_of : (later : List CallLine) → AreLater (n + 1) later → first ∷ more ≡ later → ⊥
              first_of [] each e = absurd cc
              first_of (c ∷ cs) each e = let same : first ≡ c = cc in omega (arith, each.0, few, ap (λ (x : CallLine). x.line) same)
      by (inr a) =
          accounts_kept h.0 (n + 1) lines t h.2
          (subst (λ (cs : List CallLine). 0 < length cs) (sym a.calls) (omega (arith, length-append s.calls (a.call ∷ []))))
          ∙ a.accounts

  module _ (m : ℕ) (last : IsLast m) where
    -- the lines up to the last one that is kept lead to the script that is kept
    at_end : (s : ScriptModel) (lines : List (List ℕ)) → TakesLines s m lines t → AreWithin m s.calls → kept ≡ s
    at_end s lines h within = by s.calls refl (calls_added s m lines t h)
      where
        by : (cs : List CallLine) → s.calls ≡ cs → AddsCalls s m t → kept ≡ s
        by [] none a =
            of_parts s t.accounts (calls_before (Some at) t.calls) (next_is_call s m lines h none last.called)
            (ap (calls_before (Some at)) (a.calls ∙ ap (λ (cs : List CallLine). cs ++ a.later) none)
            ∙ none_before at a.later (late m at a.later last.below a.after) ∙ sym none)
        by (c ∷ cs) some a =
            of_parts s t.accounts (calls_before (Some at) t.calls)
            (accounts_kept s m lines t h (subst (λ (cs : List CallLine). 0 < length cs) (sym some) (omega arith)))
            (ap (calls_before (Some at)) a.calls ∙ filter-append (λ (c : CallLine). is_before (Some at) c.line) s.calls a.later
            ∙ ap (λ (ks : List CallLine). ks ++ calls_before (Some at) a.later) (all_before at s.calls (early m at s.calls next within))
            ∙ ap (λ (ks : List CallLine). s.calls ++ ks) (none_before at a.later (late m at a.later last.below a.after))
            ∙ append-nil s.calls)
          where
            same : first ≡ c
            same = let e : first ∷ more ≡ c ∷ (cs ++ a.later) = sym is ∙ a.calls ∙ ap (λ (ks : List CallLine). ks ++ a.later) some in cc

            is_early : c.line ≤ m
            is_early = (subst (AreWithin m) some within).0

            next : m < at
            next =
                elim last.exact [
                  | inl e ↦ omega (arith, e)
                  | inr e ↦ absurd (omega (arith, e, is_early, ap (λ (x : CallLine). x.line) same))
                ]

    -- so do all lines, where there are fewer
    at_once : (s : ScriptModel) (n : ℕ) → n < m → t ≡ s → AreWithin n s.calls → kept ≡ s
    at_once s n less end within =
        of_parts s t.accounts (calls_before (Some at) t.calls) (ap (λ (x : ScriptModel). x.accounts) end)
        (ap (calls_before (Some at)) (ap (λ (x : ScriptModel). x.calls) end) ∙ all_before at s.calls (early n at s.calls before within))
      where
        is_early : first.line ≤ n
        is_early = (subst (AreWithin n) (sym (ap (λ (x : ScriptModel). x.calls) end) ∙ is) within).0

        before : n < at
        before = elim last.exact [ inl e ↦ omega (arith, e, less) | inr e ↦ absurd (omega (arith, e, is_early, less)) ]

    -- the first lines up to the last one that is kept lead to the script that is kept
    first_lines : (k : ℕ) (s : ScriptModel) (n : ℕ) (lines : List (List ℕ)) → TakesLines s n lines t → AreWithin n s.calls → m ≡ n + k
        → TakesLines s n (take k lines) kept
    first_lines zero s n lines h within place =
        let here : m ≡ n = omega (arith, place) in
        subst (λ (x : ℕ). TakesLines s x lines t → AreWithin x s.calls → kept ≡ s) here (at_end s lines) h within
    first_lines (suc k) s n [] h within place = at_once s n (omega (arith, place)) h within
    first_lines (suc k) s n (line ∷ lines) h within place =
        (h.0, h.1, first_lines k h.0 (n + 1) lines h.2 (within_next s n h.0 within (added s (n + 1) h.1.0 h.0 h.1.2)) (omega (arith, place)))

-- the number of the last line before the given one or before the call, whichever is later
abbrev last_kept : ℕ → CallLine → ℕ
last_kept at c = max at c.line - 1

-- the lines that are kept of a script lead to the script that is kept
taken : (at : ℕ) (lines : List (List ℕ)) (s : ScriptModel) → TakesLines nothing_read 0 lines s
    → TakesLines nothing_read 0 (lines_before at s.calls lines) (script_before at s)
taken at lines s h = by s.calls refl
  where
    by : (cs : List CallLine) → s.calls ≡ cs → TakesLines nothing_read 0 (lines_before at cs lines) (script_before at s)
    by [] none =
        subst (λ (ls : List (List ℕ)). TakesLines nothing_read 0 ls (script_before at s)) (sym (take_all (length lines) lines (omega arith)))
        (subst (TakesLines nothing_read 0 lines) (sym (of_parts s s.accounts (calls_before (Some at) s.calls) refl (ap (calls_before (Some at)) none
        ∙ sym none))) h)
    by (c ∷ cs) is =
        subst (λ (ls : List (List ℕ)). TakesLines nothing_read 0 ls (script_before at s)) (sym (shorter (last_kept at c)))
        (first_lines at s c cs is (last_kept at c) (record { below = omega arith; called = omega arith; exact = later_of })
        (last_kept at c) nothing_read 0 lines h tt (omega arith))
      where
        positive : 0 < c.line
        positive = by_first (calls_added nothing_read 0 lines s h)
          where
            by_first : AddsCalls nothing_read 0 s → 0 < c.line
            by_first a = (subst (AreLater 0) (sym a.calls ∙ is) a.after).0

        later_of : (at ≡ last_kept at c + 1) ⊎ (c.line ≡ last_kept at c + 1)
        later_of = elim (cases_lt at c.line) [ inl less ↦ inr (omega (arith, positive)) | inr more ↦ inl (omega (arith, positive)) ]

        shorter : (k : ℕ) → take (min k (length lines)) lines ≡ take k lines
        shorter k =
            elim (cases_lt k (length lines)) [
              | inl less ↦ let m : min k (length lines) ≡ k = omega arith in ap (λ (x : ℕ). take x lines) m
              | inr more ↦
                  let m : min k (length lines) ≡ length lines = omega arith in
                  ap (λ (x : ℕ). take x lines) m ∙ take_all (length lines) lines (omega arith) ∙ sym (take_all k lines more)
            ]

-- the lines of a text, each with its end, have one byte more than the text at most
length_of_lines : (text : List ℕ) → length (ended_lines (lines_of text)) ≤ length text + 1
unfolding lines_of
length_of_lines [] = omega arith
length_of_lines (b ∷ bs) = by (eqb b 10) (length_of_lines bs)
  where
    onto : (lines : List (List ℕ)) → length (ended_lines lines) ≤ length bs + 1
        → length (ended_lines (onto_line b lines)) ≤ length (b ∷ bs) + 1
    onto [] most = omega arith
    onto (line ∷ lines) most =
        let before = length-append (line ++ 10 ∷ []) (ended_lines lines) in
        let after = length-append (b ∷ (line ++ 10 ∷ [])) (ended_lines lines) in omega (arith, before, after, most)

    by : (t : Bool) → length (ended_lines (lines_of bs)) ≤ length bs + 1
        → length (ended_lines (if t then [] ∷ lines_of bs else onto_line b (lines_of bs))) ≤ length (b ∷ bs) + 1
    by true most = omega (arith, most)
    by false most = onto (lines_of bs) most

-- a line fewer is a byte fewer
length_of_first : (k : ℕ) (lines : List (List ℕ)) → k < length lines → length (ended_lines (take k lines)) < length (ended_lines lines)
length_of_first k [] less = absurd (omega (arith, less))
length_of_first zero (line ∷ lines) less =
    omega (arith, length-append (line ++ 10 ∷ []) (ended_lines lines), length-append line (10 ∷ []))
length_of_first (suc k) (line ∷ lines) less =
    let rest = length_of_first k lines (omega (arith, less)) in
    omega (arith, length-append (line ++ 10 ∷ []) (ended_lines lines), length-append (line ++ 10 ∷ []) (ended_lines (take k lines)), rest)

-- some lines of a text, each with its end, are no longer than the text
cut_is_short : (k : ℕ) (text : List ℕ) → k < length (lines_of text) → length (ended_lines (take k (lines_of text))) ≤ length text
cut_is_short k text less = omega (arith, length_of_lines text, length_of_first k (lines_of text) less)

-- a script is not too long
is_short : (text : List ℕ) (s : ScriptModel) → script_of text ≡ Ok s → is_too_long text ≡ false
is_short text s is = by (is_too_long text) is refl
  where
    by : (t : Bool) → (if t then Err TooLong else reading text) ≡ Ok s → is_too_long text ≡ t → is_too_long text ≡ false
    by true e same = absurd cc
    by false e same = same

-- a text of fewer bytes and lines is not too long either
shorter : (text front : List ℕ) → is_too_long text ≡ false → length front ≤ length text
    → length (lines_of front) ≤ length (lines_of text)
    → is_too_long front ≡ false
shorter text front is bytes lines =
    let parts = or_parts (ltb most_script_bytes (length text)) (ltb most_script_lines (length (lines_of text))) is in
    let most = ltb-false most_script_bytes (length text) parts.0 in
    let many = ltb-false most_script_lines (length (lines_of text)) parts.1 in
    rw (
      le-ltb most_script_bytes (length front) (omega (arith, most, bytes)),
      le-ltb most_script_lines (length (lines_of front)) (omega (arith, many, lines)),
    ) refl

-- A text that has the lines before a line and before the first call, and no more bytes, is the script with the calls on these lines.
front_is_script : (at : ℕ) (text front : List ℕ) (s : ScriptModel) → script_of text ≡ Ok s
    → lines_of front ≡ lines_before at s.calls (lines_of text) → length front ≤ length text → script_of front ≡ Ok (script_before at s)
front_is_script at text front s is lines bytes =
    ap (λ (t : Bool). if t then Err TooLong else reading front)
    (shorter text front (is_short text s is) bytes (subst (λ (ls : List (List ℕ)). length ls ≤ length (lines_of text)) (sym lines)
    (few_taken _ _)))
    ∙ again_from front (script_before at s) (
      subst (λ (ls : List (List ℕ)). TakesLines nothing_read 0 ls (script_before at s)) (sym lines)
          (taken at (lines_of text) s read.0),
      read.1,
    )
  where
    read : IsScript text s
    read = found_from text s (read_so text s is)

-- nothing has no line
no_lines : lines_of (ended_lines []) ≡ []
unfolding lines_of
no_lines = refl

-- The first lines of a script, each with its end, are its front, where some line is left out.
pub cut_is_front : (at kept : ℕ) (text : List ℕ) (s : ScriptModel) (lines : List (List ℕ)) → script_of text ≡ Ok s → lines
    ≡ lines_of text
    → kept ≡ count_before at s.calls (length (lines_of text)) → kept < length (lines_of text)
    → IsFront at text (ended_lines (take kept lines) ++ ended_lines [])
cut_is_front at kept text s lines is same count less = record {
  script = s;
  is_read = is;
  lines = front_lines;
  means = front_is_script at text cut s is front_lines short;
}
  where
    cut : List ℕ
    cut = ended_lines (take kept lines) ++ ended_lines []

    read : IsScript text s
    read = found_from text s (read_so text s is)

    cut_is : cut ≡ ended_lines (take kept (lines_of text))
    cut_is = append-nil (ended_lines (take kept lines)) ∙ ap (λ (ls : List (List ℕ)). ended_lines (take kept ls)) same

    short : length cut ≤ length text
    short = subst (λ (t : List ℕ). length t ≤ length text) (sym cut_is) (cut_is_short kept text less)

    front_lines : lines_of cut ≡ lines_before at s.calls (lines_of text)
    front_lines =
        ap (λ (ls : List (List ℕ)). lines_of (ended_lines (take kept ls) ++ ended_lines [])) same
        ∙ lines_back (take kept (lines_of text)) (ended_lines []) (one_lines kept nothing_read 0 (lines_of text) s read.0)
        ∙ ap (λ (ls : List (List ℕ)). take kept (lines_of text) ++ ls) no_lines ∙ append-nil (take kept (lines_of text))
        ∙ ap (λ (k : ℕ). take k (lines_of text)) count

-- A script of which no line is left out is its front.
pub whole_is_front : (at kept : ℕ) (text : List ℕ) (s : ScriptModel) → script_of text ≡ Ok s
    → kept ≡ count_before at s.calls (length (lines_of text)) → length (lines_of text) ≤ kept → IsFront at text text
whole_is_front at kept text s is count all = record {
  script = s;
  is_read = is;
  lines = same;
  means = front_is_script at text text s is same (omega arith);
}
  where
    same : lines_of text ≡ lines_before at s.calls (lines_of text)
    same = sym (take_all kept (lines_of text) all) ∙ ap (λ (k : ℕ). take k (lines_of text)) count
