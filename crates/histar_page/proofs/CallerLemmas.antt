-- The processes of a session, which are found one after another.
use Rattle.std.proofs.Common.{◌≡◌, ◌≤◌, ◌<◌, ℕ, Bool, true, false, cond, List, [], ◌∷◌, ◌++◌, ◌∙◌, refl}
use Rattle.std.proofs.Common.{ap, append-nil, append_assoc, arith, inl, inr, length, map, suc, sym, take}
use Rattle.std.specs.Prelude.{◌&&◌, ◌||◌, not, filter, nat_lt, if◌then◌else◌}
use Rattle.std.specs.Borrow.{Bor}
use Rattle.std.specs.Str.{bytes_eq}
use Rattle.std.proofs.lemmas.Bool.Decides.{Decides-ltb, leb_tells}
use Rattle.std.proofs.lemmas.List.{length-append, take-append-le, take_all}
use Rattle.std.proofs.lemmas.List.Folds.{list_any-append}
use Rattle.std.proofs.lemmas.Slice.Eq.{bytes_eq-Decides}
use Rattle.histar_page.specs.declared.callers.TheConstants.{MOST_ALONE}
use Rattle.histar_page.specs.Texts.{texts}
use Rattle.histar_page.specs.Callers.{caller, callers, each_once, is_among, is_name, with_caller}
use Rattle.histar_page.proofs.StoryLemmas.{never}

-- these processes, and then each of these words that comes after those before it
abbrev pub found_after : List (List ℕ) → List (List ℕ) → List (List ℕ)
found_after processes [] = processes
found_after processes (word ∷ words) = found_after (with_caller processes word) words

-- two words differ
abbrev differs : List ℕ → List ℕ → Bool
differs word other = not (bytes_eq word other)

-- a word is none of these processes
abbrev is_new : List (List ℕ) → List ℕ → Bool
is_new processes word = not (is_among processes word)

-- the words that pass one test and then another pass both
filter_both : (p q r : List ℕ → Bool) → ((word : List ℕ) → r word ≡ (q word && p word)) → (words : List (List ℕ))
    → filter p (filter q words) ≡ filter r words
filter_both p q r same [] = refl
filter_both p q r same (word ∷ words) =
    by (q word) (p word) refl (filter_both p q r same words) ∙ ap (λ b. cond b (word ∷ filter r words) (filter r words)) (sym (same word))
  where
    by : (b c : Bool) → p word ≡ c → filter p (filter q words) ≡ filter r words
        → filter p (cond b (word ∷ filter q words) (filter q words)) ≡ cond (b && c) (word ∷ filter r words) (filter r words)
    by true c e rest =
        ap (λ d. cond d (word ∷ filter p (filter q words)) (filter p (filter q words))) e ∙ ap (λ l. cond c (word ∷ l) l) rest
    by false c e rest = rest

-- what is new beside one more process is new and differs from it
new_more : (found : List (List ℕ)) (word other : List ℕ) → is_new (found ++ word ∷ []) other ≡ (differs word other && is_new found other)
new_more found word other =
    ap not (list_any-append (λ process. bytes_eq process other) found (word ∷ [])) ∙ by (is_among found other) (bytes_eq word other)
  where
    by : (a b : Bool) → not (a || (b || false)) ≡ (not b && not a)
    by true true = refl
    by true false = refl
    by false true = refl
    by false false = refl

-- what is new differs from a process that is there
new_differs : (processes : List (List ℕ)) (word other : List ℕ) → is_among processes word ≡ true
    → is_new processes other ≡ (differs word other && is_new processes other)
new_differs processes word other there = by (bytes_eq word other) refl
  where
    by : (b : Bool) → bytes_eq word other ≡ b → is_new processes other ≡ (not b && is_new processes other)
    by true e = ap not (ap (is_among processes) (sym ((bytes_eq-Decides word other).0 e)) ∙ there)
    by false e = refl

-- there are as many processes as there can be
full : (processes : List (List ℕ)) → nat_lt (length processes) MOST_ALONE ≡ false → MOST_ALONE ≤ length processes
full processes e = elim (leb_tells (suc (length processes)) MOST_ALONE) [ inl h ↦ never (sym e ∙ h.0) | inr h ↦ omega (arith, h.1) ]

-- the processes that are found are the new words, each once, at the end of those before, up to the most
found_is : (words processes : List (List ℕ)) → length processes ≤ MOST_ALONE
    → found_after processes words ≡ take MOST_ALONE (processes ++ filter (is_new processes) (each_once (filter is_name words)))
found_is [] processes few = sym (ap (take MOST_ALONE) (append-nil processes) ∙ take_all MOST_ALONE processes few)
found_is (word ∷ words) processes few =
    by (nat_lt (length processes) MOST_ALONE) (is_name word) (is_among processes word) refl refl (found_is words)
  where
    names : List (List ℕ)
    names = filter is_name words

    -- the new words behind the first
    later : List (List ℕ)
    later = filter (is_new processes) (filter (differs word) (each_once names))

    by : (less named there : Bool) → nat_lt (length processes) MOST_ALONE ≡ less → is_among processes word ≡ there
        → ((ps : List (List ℕ)) → length ps ≤ MOST_ALONE
        → found_after ps words ≡ take MOST_ALONE (ps ++ filter (is_new ps) (each_once (filter is_name words))))
        → found_after (if less && (named && not there) then processes ++ word ∷ [] else processes) words
        ≡ take MOST_ALONE (processes ++ filter (is_new processes) (each_once (cond named (word ∷ filter is_name words) (filter is_name words))))
    by true true false e is found =
        let more = processes ++ word ∷ [] in
        let less = (Decides-ltb (length processes) MOST_ALONE).0 e in
        found more (omega (arith, less, length-append processes (word ∷ [])))
        ∙ ap (take MOST_ALONE) (append_assoc processes (word ∷ []) (filter (is_new more) (each_once names)))
        ∙ ap (λ l. take MOST_ALONE (processes ++ word ∷ l))
        (sym (filter_both (is_new processes) (differs word) (is_new more) (new_more processes word) (each_once names)))
        ∙ ap (λ b. take MOST_ALONE (processes ++ cond (not b) (word ∷ later) later)) (sym is)
    by true true true e is found =
        found processes few
        ∙ ap (λ l. take MOST_ALONE (processes ++ l))
        (sym (filter_both (is_new processes) (differs word) (is_new processes) (λ other. new_differs processes word other is) (each_once names)))
        ∙ ap (λ b. take MOST_ALONE (processes ++ cond (not b) (word ∷ later) later)) (sym is)
    by true false there e is found = found processes few
    by false named there e is found =
        found processes few ∙ take-append-le MOST_ALONE processes (filter (is_new processes) (each_once names)) (full processes e)
        ∙ sym (take-append-le MOST_ALONE processes (filter (is_new processes) (each_once (cond named (word ∷ names) names))) (full processes e))

-- each word is new where no process is there
all_new : (words : List (List ℕ)) → filter (is_new []) words ≡ words
all_new [] = refl
all_new (word ∷ words) = ap (λ l. word ∷ l) (all_new words)

-- the processes that were found when no reply is left are those of the session
pub found_all : (script found : List (List ℕ)) (rest : List (Bor (List ℕ))) (replies : List (List ℕ)) → length rest < 1
    → found_after found (map (caller script) (texts rest)) ≡ found_after [] (map (caller script) replies) → found ≡ callers script replies
found_all script found [] replies none h =
    let words = map (caller script) replies in
    h ∙ found_is words [] (omega arith) ∙ ap (take MOST_ALONE) (all_new (each_once (filter is_name words)))
found_all script found (reply ∷ rest) replies none h = absurd (omega arith)
