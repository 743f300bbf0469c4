-- Parting a text at a byte that its words lack.
use Rattle.std.proofs.Common.{◌≡◌, ◌≢◌, ℕ, true, not, eqb, List, [], ◌∷◌, ◌++◌, refl, arith}
use Rattle.std.specs.Prelude.{⊤}
use Rattle.std.specs.List.{flat_map}
use Rattle.std.proofs.lemmas.Bool.{and_parts}
use Rattle.std.proofs.lemmas.Bool.Decides.{nat_tests}
use Rattle.histar_flat.proofs.SplitLemmas.{lacks}

-- a text is empty, or begins with the byte s
abbrev pub BeginsWith : ℕ → List ℕ → Type 0
BeginsWith s [] = ⊤
BeginsWith s (b ∷ text) = b ≡ s

-- a byte that passes the test differs
apart : (b s : ℕ) → not (eqb b s) ≡ true → b ≢ s
apart b s h e = grind (arith, nat_tests)

-- the first byte of a text that lacks s differs from s
head_apart : (b s : ℕ) (text : List ℕ) → lacks s (b ∷ text) ≡ true → b ≢ s
head_apart b s text h = apart b s (and_parts (not (eqb b s)) (lacks s text) h).0

-- a text determines its part before the first s, and the part from there on
pub same_parts : (s : ℕ) (v w rest others : List ℕ) → lacks s v ≡ true → lacks s w ≡ true → BeginsWith s rest
    → BeginsWith s others → v ++ rest ≡ w ++ others → (v ≡ w) × (rest ≡ others)
same_parts s [] [] rest others lv lw br bo e = (refl, e)
same_parts s [] (c ∷ w) [] others lv lw br bo e = absurd cc
same_parts s [] (c ∷ w) (b ∷ rest) others lv lw br bo e = let same : c ≡ s = cc in absurd (head_apart c s w lw same)
same_parts s (b ∷ v) [] rest [] lv lw br bo e = absurd cc
same_parts s (b ∷ v) [] rest (c ∷ others) lv lw br bo e = let same : b ≡ s = cc in absurd (head_apart b s v lv same)
same_parts s (b ∷ v) (c ∷ w) rest others lv lw br bo e =
    let heads : b ≡ c = cc in
    let tails : v ++ rest ≡ w ++ others = cc in
    let parts = same_parts s v w rest others (and_parts (not (eqb b s)) (lacks s v) lv).1 (and_parts (not (eqb c s)) (lacks s w) lw).1 br bo tails in
    (λ i. heads i ∷ parts.0 i, parts.1)

-- each word after a space
abbrev pub spaced : List (List ℕ) → List ℕ
spaced words = flat_map (λ w. 32 ∷ w) words

-- no word has a space
abbrev pub AreWords : List (List ℕ) → Type 0
AreWords [] = ⊤
AreWords (w ∷ words) = (lacks 32 w ≡ true) × AreWords words

-- words after spaces are no text, or begin with a space
spaced_begins : (words : List (List ℕ)) → BeginsWith 32 (spaced words)
spaced_begins [] = tt
spaced_begins (w ∷ words) = refl

-- the text of words determines them
pub same_words : (vs ws : List (List ℕ)) → AreWords vs → AreWords ws → spaced vs ≡ spaced ws → vs ≡ ws
same_words [] [] av aw e = refl
same_words [] (w ∷ ws) av aw e = absurd cc
same_words (v ∷ vs) [] av aw e = absurd cc
same_words (v ∷ vs) (w ∷ ws) av aw e =
    let tails : v ++ spaced vs ≡ w ++ spaced ws = cc in
    let parts = same_parts 32 v w (spaced vs) (spaced ws) av.0 aw.0 (spaced_begins vs) (spaced_begins ws) tails in
    let others = same_words vs ws av.1 aw.1 parts.1 in
    λ i. parts.0 i ∷ others i

-- lists with one front have one first word and the same further ones
pub same_fronts : {v w : List ℕ} {vs ws : List (List ℕ)} → v ∷ vs ≡ w ∷ ws → (v ≡ w) × (vs ≡ ws)
same_fronts e = (cc, cc)
