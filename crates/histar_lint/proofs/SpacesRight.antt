-- Words with a space between two keep the rules for spaces.
use Rattle.std.proofs.Common.{◌≡◌, ℕ, suc, ◌-◌, ◌<◌, Bool, true, false, eqb, ◌&&◌, ◌||◌, not, List, [], ◌∷◌, ◌++◌, length, take}
use Rattle.std.proofs.Common.{Option, Some, None, refl, sym, ap, ◌∙◌, arith}
use Rattle.std.specs.Prelude.{slice_get, ⊤, ◌==◌}
use Rattle.std.specs.List.{list_all}
use Rattle.std.specs.Option.{option_map_or}
use Rattle.std.proofs.Math.Seq.{take-append_seam}
use Rattle.std.proofs.lemmas.Bool.{and_parts, not-true}
use Rattle.std.proofs.lemmas.List.{append_assoc, append-nil, length-append}
use Rattle.histar_flat.proofs.SplitLemmas.{lacks}
use Rattle.histar_script.specs.Lines.{◌space◌}
use Rattle.histar_script.specs.Grammar.{spaced}
use Rattle.histar_script.proofs.WordsBack.{bytes_lack}
use Rattle.histar_lint.specs.Lines.{before_free, begins_with, ends_with, has_after_space, space_rules}
use Rattle.histar_lint.proofs.Rules.{AreKept, keep}

-- ---- the ends of texts

ends_step : (b c d : ℕ) (text : List ℕ) → ends_with b (c ∷ d ∷ text) ≡ ends_with b (d ∷ text)
ends_step b c d text =
    let less : suc (suc (length text)) - 1 ≡ suc (length text) = omega arith in
    let fewer : length text ≡ suc (length text) - 1 = omega arith in
    ap (λ n. option_map_or (λ e. e == b) (slice_get (c ∷ d ∷ text) n) false) less
    ∙ ap (λ n. option_map_or (λ e. e == b) (slice_get (d ∷ text) n) false) fewer

-- a text ends like the text at its end
pub ends_append : (b : ℕ) (text : List ℕ) (d : ℕ) (rest : List ℕ) → ends_with b (text ++ d ∷ rest) ≡ ends_with b (d ∷ rest)
ends_append b [] d rest = refl
ends_append b (c ∷ []) d rest = ends_step b c d rest
ends_append b (c ∷ e ∷ text) d rest = ends_step b c e (text ++ d ∷ rest) ∙ ends_append b (e ∷ text) d rest

-- a text that lacks a byte doesn't end with it
pub ends_lacks : (b : ℕ) (text : List ℕ) → lacks b text ≡ true → ends_with b text ≡ false
ends_lacks b [] all = refl
ends_lacks b (c ∷ []) all = not-true (eqb c b) (and_parts (not (eqb c b)) true all).0
ends_lacks b (c ∷ d ∷ text) all = ends_step b c d text ∙ ends_lacks b (d ∷ text) (and_parts (not (eqb c b)) (lacks b (d ∷ text)) all).1

-- ---- words

-- a word: no space is in it, and it begins with a byte that is no number sign
pub record IsWord (word : List ℕ) : Type 0 where
  pub first : ℕ
  pub rest : List ℕ
  pub parts : word ≡ first ∷ rest
  pub plain : lacks 32 word ≡ true
  pub no_sign : eqb first 35 ≡ false

-- its first byte is no space
pub no_space : (word : List ℕ) (w : IsWord word) → eqb w.first 32 ≡ false
no_space word w =
    let plain : lacks 32 (w.first ∷ w.rest) ≡ true = ap (lacks 32) (sym w.parts) ∙ w.plain in
    not-true (eqb w.first 32) (and_parts (not (eqb w.first 32)) (lacks 32 w.rest) plain).0

-- bytes that pass a test which spaces and number signs fail are a word
pub passing_word : (test : ℕ → Bool) (text : List ℕ) → test 32 ≡ false → test 35 ≡ false → 0 < length text → list_all test text ≡ true → IsWord text
passing_word test [] no_blank no_sign some all = absurd (omega (arith, some))
passing_word test (b ∷ text) no_blank no_sign some all = record {
  first = b;
  rest = text;
  parts = refl;
  plain = bytes_lack test 32 (b ∷ text) no_blank all;
  no_sign = not-true (eqb b 35) (and_parts (not (eqb b 35)) (lacks 35 text) (bytes_lack test 35 (b ∷ text) no_sign all)).0;
}

-- all are words
abbrev pub AreWords : List (List ℕ) → Type 0
AreWords [] = ⊤
AreWords (w ∷ ws) = IsWord w × AreWords ws

-- a text that begins with a word begins with the word's first byte
pub begins_word : (b : ℕ) (word rest : List ℕ) (w : IsWord word) → begins_with b (word ++ rest) ≡ eqb w.first b
begins_word b word rest w = ap (λ (text : List ℕ). begins_with b (text ++ rest)) w.parts

-- words don't end with a space
ends_spaced : (word : List ℕ) (words : List (List ℕ)) → IsWord word → AreWords words → ends_with 32 (word ++ spaced words) ≡ false
ends_spaced word [] w ws = ap (ends_with 32) (append-nil word) ∙ ends_lacks 32 word w.plain
ends_spaced word (next ∷ words) w ws =
    let first = ws.0 in
    let more : next ++ spaced words ≡ first.first ∷ (first.rest ++ spaced words) = ap (λ (text : List ℕ). text ++ spaced words) first.parts in
    ends_append 32 word 32 (next ++ spaced words)
    ∙ ap (λ (text : List ℕ). ends_with 32 (32 ∷ text)) more ∙ ends_step 32 32 first.first (first.rest ++ spaced words)
    ∙ ap (ends_with 32) (sym more) ∙ ends_spaced next words first ws.1

-- in a word no space comes before this byte
pair_behind : (c : ℕ) (word rest : List ℕ) → lacks 32 word ≡ true → has_after_space c (word ++ rest) ≡ has_after_space c rest
pair_behind c [] rest all = refl
pair_behind c (b ∷ word) rest all =
    let parts = and_parts (not (eqb b 32)) (lacks 32 word) all in
    ap (λ s. (s && begins_with c (word ++ rest)) || has_after_space c (word ++ rest)) (not-true (eqb b 32) parts.0) ∙ pair_behind c word rest parts.1

-- nor do words have one before it, where none begins with it
pair_spaced : (c : ℕ) (words : List (List ℕ)) (rest : List ℕ) → AreWords words → ((word : List ℕ) (w : IsWord word) → eqb w.first c ≡ false)
    → has_after_space c (spaced words ++ rest) ≡ has_after_space c rest
pair_spaced c [] rest ws other = refl
pair_spaced c (word ∷ words) rest ws other =
    let text : List ℕ = spaced words ++ rest in
    let parts : spaced (word ∷ words) ++ rest ≡ 32 ∷ (word ++ text) = ap (λ (l : List ℕ). 32 ∷ l) (append_assoc word (spaced words) rest) in
    ap (has_after_space c) parts
    ∙ ap (λ s. s || has_after_space c (word ++ text)) (begins_word c word text ws.0 ∙ other word ws.0)
    ∙ pair_behind c word text ws.0.plain ∙ pair_spaced c words rest ws.1 other

-- ---- words with a free part behind them, or without one

-- what a free part adds to the words before it
abbrev pub tail_of : Option (List ℕ) → List ℕ
tail_of None = []
tail_of (Some free) = 32 ∷ free

-- the text consists of words with a space between two, and ends in this free part, if in any
pub record HasWords (text : List ℕ) (free : Option (List ℕ)) : Type 0 where
  pub word : List ℕ
  pub words : List (List ℕ)
  pub is_word : IsWord word
  pub are_words : AreWords words
  pub parts : text ≡ word ++ (spaced words ++ tail_of free)

-- a word alone
pub word_alone : (word : List ℕ) → IsWord word → HasWords word None
word_alone word w = record { word = word; words = []; is_word = w; are_words = tt; parts = sym (append-nil word) }

-- a word, and words that follow it
pub words_alone : (word : List ℕ) (words : List (List ℕ)) → IsWord word → AreWords words → HasWords (word ++ spaced words) None
words_alone word words w ws =
    record { word = word; words = words; is_word = w; are_words = ws; parts = ap (λ (l : List ℕ). word ++ l) (sym (append-nil (spaced words))) }

-- a word before a free part
pub word_before : (word free : List ℕ) → IsWord word → HasWords (word space free) (Some free)
word_before word free w = record { word = word; words = []; is_word = w; are_words = tt; parts = refl }

-- a word before such a text
pub one_more : (word text : List ℕ) (free : Option (List ℕ)) → IsWord word → HasWords text free → HasWords (word space text) free
one_more word text free w is = record {
  word = word;
  words = is.word ∷ is.words;
  is_word = w;
  are_words = (is.is_word, is.are_words);
  parts = ap (λ (l : List ℕ). word ++ 32 ∷ l) (is.parts ∙ sym (append_assoc is.word (spaced is.words) (tail_of free)));
}

-- such a text begins with a word
pub begins_right : (b : ℕ) (text : List ℕ) (free : Option (List ℕ)) (is : HasWords text free) → begins_with b text ≡ eqb is.is_word.first b
begins_right b text free is = ap (begins_with b) is.parts ∙ begins_word b is.word (spaced is.words ++ tail_of free) is.is_word

-- words have a space before this byte if what follows them has one
pair_of : (c : ℕ) (word : List ℕ) (words : List (List ℕ)) (rest : List ℕ) → IsWord word → AreWords words
    → ((u : List ℕ) (is : IsWord u) → eqb is.first c ≡ false) → has_after_space c (word ++ (spaced words ++ rest)) ≡ has_after_space c rest
pair_of c word words rest w ws other = pair_behind c word (spaced words ++ rest) w.plain ∙ pair_spaced c words rest ws other

-- the part before a free part
front_of : (front free : List ℕ) → before_free (front ++ free) (Some free) ≡ front
front_of front free =
    let size : length (front ++ free) - length free ≡ length front = grind (arith, length-append front free) in
    ap (λ n. take n (front ++ free)) size ∙ take-append_seam front free

-- such a text keeps the rules for spaces
pub spaces_kept : (text : List ℕ) (free : Option (List ℕ)) → HasWords text free → AreKept (space_rules text free)
spaces_kept text None is =
    let all : text ≡ is.word ++ (spaced is.words ++ []) = is.parts in
    let whole : text ≡ is.word ++ spaced is.words = all ∙ ap (λ (l : List ℕ). is.word ++ l) (append-nil (spaced is.words)) in
    keep (begins_with 32 text) _ _ (begins_right 32 text None is ∙ no_space is.word is.is_word)
    (keep (ends_with 32 text) _ _ (ap (ends_with 32) whole ∙ ends_spaced is.word is.words is.is_word is.are_words)
    (keep (has_after_space 35 text) _ _
    (ap (has_after_space 35) all ∙ pair_of 35 is.word is.words [] is.is_word is.are_words (λ u w. w.no_sign))
    (keep (has_after_space 32 text) _ _ (ap (has_after_space 32) all ∙ pair_of 32 is.word is.words [] is.is_word is.are_words no_space) refl)))
spaces_kept text (Some free) is =
    let front : List ℕ = is.word ++ (spaced is.words ++ 32 ∷ []) in
    let parts : text ≡ front ++ free =
    is.parts ∙ ap (λ (l : List ℕ). is.word ++ l) (sym (append_assoc (spaced is.words) (32 ∷ []) free))
    ∙ sym (append_assoc is.word (spaced is.words ++ 32 ∷ []) free) in
    let before : before_free text (Some free) ≡ front = ap (λ (l : List ℕ). before_free l (Some free)) parts ∙ front_of front free in
    keep (begins_with 32 text) _ _ (begins_right 32 text (Some free) is ∙ no_space is.word is.is_word)
    (keep (has_after_space 35 (before_free text (Some free))) _ _
    (ap (has_after_space 35) before ∙ pair_of 35 is.word is.words (32 ∷ []) is.is_word is.are_words (λ u w. w.no_sign))
    (keep (has_after_space 32 (before_free text (Some free))) _ _
    (ap (has_after_space 32) before ∙ pair_of 32 is.word is.words (32 ∷ []) is.is_word is.are_words no_space) refl))
