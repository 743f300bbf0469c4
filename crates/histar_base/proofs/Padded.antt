-- Padded arrays are determined by the list in front of them; items that are put in.
use Rattle.std.proofs.Common.{◌≡◌, ℕ, zero, suc, ◌+◌, ◌-◌, ◌≤◌, ◌<◌, List, [], ◌∷◌, ◌++◌, length, take, drop, replicate, slice_set, refl, sym, ap}
use Rattle.std.proofs.Common.{◌∙◌, arith, length-append}
use Rattle.std.proofs.lemmas.List.{length-take-le, length-replicate, length-drop, take_at, take-replicate, set-append_left, length-set}
use Rattle.std.proofs.Math.Seq.{take-set-lt}
use Rattle.histar_base.specs.Padding.{padded, IsPadded}

-- the padded list is the array
pub padded-take : {A : Type 0} (places : ℕ) (fill : A) (items : List A) (len : ℕ) → IsPadded places fill items len
    → padded places fill (take len items) ≡ items
padded-take places fill items len h = h.filled

-- the list has the given length
pub length-kept : {A : Type 0} (places : ℕ) (fill : A) (items : List A) (len : ℕ) → IsPadded places fill items len
    → length (take len items) ≡ len
length-kept places fill items len h = length-take-le len items (omega (arith, h.short, h.whole))

-- the list is at the front of its padded array
pub take-padded : {A : Type 0} (places : ℕ) (fill : A) (items : List A) → take (length items) (padded places fill items) ≡ items
unfolding padded
take-padded places fill items = take_at items (replicate (places - length items) fill) (length items) refl

-- the array has all its places
pub length-padded : {A : Type 0} (places : ℕ) (fill : A) (items : List A) → length items ≤ places → length (padded places fill items) ≡ places
unfolding padded
length-padded {A} places fill items short =
    omega (
      arith,
      length-append items (replicate (places - length items) fill),
      length-replicate {A = A}
          (places - length items) fill,
    )

-- a padded array is one that holds its list
pub padded_fits : {A : Type 0} (places : ℕ) (fill : A) (items : List A) → length items ≤ places
    → IsPadded places fill (padded places fill items) (length items)
padded_fits places fill items short = record {
  short = short;
  whole = length-padded places fill items short;
  filled = ap (padded places fill) (take-padded places fill items);
}

-- an item replaces the first one
fronted : {A : Type 0} (item : A) (front rest : List A) → length front ≡ 1 → slice_set (front ++ rest) 0 item ≡ item ∷ rest
fronted item [] rest one = absurd (omega (arith, one))
fronted item (x ∷ []) rest one = refl
fronted item (x ∷ y ∷ xs) rest one = absurd (omega (arith, one))

-- one more item takes one more place
padded_more : {A : Type 0} (places : ℕ) (fill item : A) (items : List A) → padded (suc places) fill (item ∷ items) ≡ item ∷ padded places fill items
unfolding padded
padded_more {A} places fill item items =
    let left : suc places - suc (length items) ≡ places - length items = omega arith in
    ap (λ n. item ∷ items ++ replicate n fill) left

-- the unused places are the same with one place less
take_unused : {A : Type 0} (places : ℕ) (fill : A) → take places (padded (suc places) fill []) ≡ padded places fill []
unfolding padded
take_unused places fill =
    let whole : suc places - 0 ≡ suc places = omega arith in
    let rest : places - 0 ≡ places = omega arith in
    rw (whole, rest) (take-replicate places (suc places) fill (omega arith))

-- a padded array with one place less is padded
take_less : {A : Type 0} (places : ℕ) (fill : A) (items : List A) → length items ≤ places
    → take places (padded (suc places) fill items) ≡ padded places fill items
take_less places fill [] short = take_unused places fill
take_less zero fill (x ∷ xs) short = absurd (omega arith)
take_less (suc places) fill (x ∷ xs) short =
    ap (take (suc places)) (padded_more (suc places) fill x xs)
    ∙ ap (λ l. x ∷ l) (take_less places fill xs (omega arith)) ∙ sym (padded_more places fill x xs)

-- the last place is moved to the front and takes an item
front_made : {A : Type 0} (places : ℕ) (fill item : A) (items : List A) (len : ℕ) → IsPadded (suc places) fill items len → len ≤ places
    → slice_set (drop (length items - 1) items ++ take (length items - 1) items) 0 item ≡ padded (suc places) fill (item ∷ take len items)
front_made places fill item items len is room =
    let kept : length (take len items) ≡ len = length-kept (suc places) fill items len is in
    let last : length items - 1 ≡ places = omega (arith, is.whole) in
    let one : length (drop places items) ≡ 1 = omega (arith, length-drop places items, is.whole) in
    let front : take places items ≡ padded places fill (take len items) =
    ap (take places) (sym is.filled) ∙ take_less places fill (take len items) (omega (arith, kept)) in
    rw last (fronted item (drop places items) (take places items) one ∙ ap (λ l. item ∷ l) front
    ∙ sym (padded_more places fill item (take len items)))

-- the front then has one item more
one_more : {A : Type 0} (places : ℕ) (fill item : A) (items : List A) (len : ℕ) → IsPadded (suc places) fill items len
    → length (item ∷ take len items) ≡ len + 1
one_more places fill item items len is = omega (arith, length-kept (suc places) fill items len is)

-- a padded array stays padded when an item is put in front
pub padded_front : {A : Type 0} (places : ℕ) (fill item : A) (items : List A) (len : ℕ) → IsPadded (suc places) fill items len → len ≤ places
    → IsPadded (suc places) fill (slice_set (drop (length items - 1) items ++ take (length items - 1) items) 0 item) (len + 1)
padded_front places fill item items len is room =
    let more : length (item ∷ take len items) ≡ len + 1 = one_more places fill item items len is in
    let made = front_made places fill item items len is room in
    rw (made, ← more) (padded_fits (suc places) fill (item ∷ take len items) (omega (arith, more)))

-- it then holds the item and those before
pub take_front : {A : Type 0} (places : ℕ) (fill item : A) (items : List A) (len : ℕ) → IsPadded (suc places) fill items len → len ≤ places
    → take (len + 1) (slice_set (drop (length items - 1) items ++ take (length items - 1) items) 0 item) ≡ item ∷ take len items
take_front places fill item items len is room =
    let more : length (item ∷ take len items) ≡ len + 1 = one_more places fill item items len is in
    let made = front_made places fill item items len is room in
    rw (made, ← more) (take-padded (suc places) fill (item ∷ take len items))

-- a padded array stays padded when an item replaces another
pub padded_set : {A : Type 0} (places : ℕ) (fill item : A) (items : List A) (len i : ℕ) → IsPadded places fill items len
    → i < len → IsPadded places fill (slice_set items i item) len
unfolding padded
padded_set {A} places fill item items len i is here =
    let kept : length (take len items) ≡ len = length-kept places fill items len is in
    let front : take len (slice_set items i item) ≡ slice_set (take len items) i item = take-set-lt len items i item here in
    let same : length (slice_set (take len items) i item) ≡ length (take len items) = length-set (take len items) i item in
    let rest : List A = replicate (places - length (take len items)) fill in
    let back : slice_set items i item ≡ slice_set (take len items) i item ++ rest =
    ap (λ (l : List A). slice_set l i item) (sym is.filled) ∙ set-append_left (take len items) rest i item (omega (arith, here, kept)) in
    record {
      short = is.short;
      whole = length-set items i item ∙ is.whole;
      filled =
          ap (λ (l : List A). l ++ replicate (places - length l) fill) front
          ∙ ap (λ (n : ℕ). slice_set (take len items) i item ++ replicate (places - n) fill) same ∙ sym back;
    }
