-- The calls of a session in the order of their marks.
use Rattle.std.proofs.Common.{◌≡◌, ℕ, ◌+◌, ◌<◌, ◌≤◌, List, [], ◌∷◌, ◌++◌, length, refl, ap, arith}
use Rattle.histar_flat.specs.declared.calls.CallLine.{CallLine}
use Rattle.histar_raw_session.specs.declared.read_session.RawLine.{RawLine}
use Rattle.histar_mixed.specs.declared.items.Mark.{Mark}
use Rattle.histar_mixed.specs.declared.items.Mark.TheVariants as marks
use Rattle.histar_mixed.specs.declared.items.MixedItem.{MixedItem}
use Rattle.histar_mixed.specs.declared.items.MixedItem.TheVariants.{Unix, Raw}
use Rattle.histar_mixed.specs.Mixed.{RiseFrom, in_order, number_of, raw_of, unix_of}

-- how many marks are of Unix calls
abbrev pub unix_marks : List Mark → ℕ
unix_marks [] = 0
unix_marks (marks.Unix ∷ more) = unix_marks more + 1
unix_marks (marks.Raw asked ∷ more) = unix_marks more

-- one more raw call
pub raw_more : (calls : List CallLine) (ms : List Mark) (asked : RawLine)
    → in_order calls (ms ++ marks.Raw asked ∷ []) ≡ in_order calls ms ++ Raw asked ∷ []
raw_more calls [] asked = refl
raw_more calls (marks.Raw first ∷ ms) asked = ap (λ (l : List MixedItem). Raw first ∷ l) (raw_more calls ms asked)
raw_more [] (marks.Unix ∷ ms) asked = raw_more [] ms asked
raw_more (call ∷ calls) (marks.Unix ∷ ms) asked = ap (λ (l : List MixedItem). Unix call ∷ l) (raw_more calls ms asked)

-- one more Unix call
pub unix_more : (calls : List CallLine) (ms : List Mark) (call : CallLine) → unix_marks ms ≡ length calls
    → in_order (calls ++ call ∷ []) (ms ++ marks.Unix ∷ []) ≡ in_order calls ms ++ Unix call ∷ []
unix_more [] [] call fits = refl
unix_more (first ∷ calls) [] call fits = absurd (omega (arith, fits))
unix_more calls (marks.Raw asked ∷ ms) call fits = ap (λ (l : List MixedItem). Raw asked ∷ l) (unix_more calls ms call fits)
unix_more [] (marks.Unix ∷ ms) call fits = absurd (omega (arith, fits))
unix_more (first ∷ calls) (marks.Unix ∷ ms) call fits =
    ap (λ (l : List MixedItem). Unix first ∷ l) (unix_more calls ms call (omega (arith, fits)))

-- the Unix calls are all there
pub unix_kept : (calls : List CallLine) (ms : List Mark) → unix_marks ms ≡ length calls → unix_of (in_order calls ms) ≡ calls
unix_kept [] [] fits = refl
unix_kept (first ∷ calls) [] fits = absurd (omega (arith, fits))
unix_kept calls (marks.Raw asked ∷ ms) fits = unix_kept calls ms fits
unix_kept [] (marks.Unix ∷ ms) fits = absurd (omega (arith, fits))
unix_kept (first ∷ calls) (marks.Unix ∷ ms) fits = ap (λ (l : List CallLine). first ∷ l) (unix_kept calls ms (omega (arith, fits)))

-- one more mark is counted
pub marks_more : (ms : List Mark) (mark : Mark) → unix_marks (ms ++ mark ∷ []) ≡ unix_marks ms + unix_marks (mark ∷ [])
marks_more [] marks.Unix = refl
marks_more [] (marks.Raw asked) = refl
marks_more (marks.Unix ∷ ms) mark = let rest = marks_more ms mark in omega (arith, rest)
marks_more (marks.Raw asked ∷ ms) mark = marks_more ms mark

-- the raw calls of two parts
pub raws_apart : (front back : List MixedItem) → raw_of (front ++ back) ≡ raw_of front ++ raw_of back
raws_apart [] back = refl
raws_apart (Unix call ∷ front) back = raws_apart front back
raws_apart (Raw asked ∷ front) back = ap (λ (l : List RawLine). asked ∷ l) (raws_apart front back)

-- the numbers rise from n on, and are at most k
abbrev pub RiseWithin : ℕ → List MixedItem → ℕ → Type 0
RiseWithin n [] k = n ≤ k
RiseWithin n (item ∷ items) k = (n < number_of item) × RiseWithin (number_of item) items k

pub rise_later : (n k m : ℕ) (items : List MixedItem) → k ≤ m → RiseWithin n items k → RiseWithin n items m
rise_later n k m [] later rises = omega (arith, later, rises)
rise_later n k m (item ∷ items) later rises = (rises.0, rise_later (number_of item) k m items later rises.1)

pub rise_more : (n k : ℕ) (items : List MixedItem) (item : MixedItem) → number_of item ≡ k + 1 → RiseWithin n items k
    → RiseWithin n (items ++ item ∷ []) (k + 1)
rise_more n k [] item is rises = (omega (arith, is, rises), omega (arith, is))
rise_more n k (first ∷ items) item is rises = (rises.0, rise_more (number_of first) k items item is rises.1)

pub rise_all : (n k : ℕ) (items : List MixedItem) → RiseWithin n items k → RiseFrom n items
rise_all n k [] rises = tt
rise_all n k (item ∷ items) rises = (rises.0, rise_all (number_of item) k items rises.1)
