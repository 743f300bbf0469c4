-- Bytes spell at most one process segment. And the numbers in what an entry leads to.
use Rattle.std.proofs.Common.{◌≡◌, ℕ, ◌^◌, ◌<◌, List, [], ◌∷◌, ◌++◌, get_or, take, drop, Option, Some, None, refl, sym, ap, ◌∙◌, append_assoc, arith}
use Rattle.std.specs.Int.{w64, to_be_bytes, from_be_bytes}
use Rattle.std.specs.List.{flat_map, AllByRecursion}
use Rattle.std.proofs.lemmas.List.{take_at, drop_at}
use Rattle.std.proofs.lemmas.Nat.{from_be_bytes-to_be_bytes_8}
use Rattle.histar_layout.specs.declared.entry.Target.{Target}
use Rattle.histar_layout.specs.declared.entry.Target.TheVariants as targets
use Rattle.histar_layout.specs.declared.status.Child.{Child as Listed}
use Rattle.histar_layout.specs.Status.{life_bytes, ProcessStatus, child_bytes, status_bytes, IsChild, IsStatus}

-- a number at the front of bytes, and the rest
one_number : (a b : ℕ) (x y : List ℕ) → a < 2 ^ 64 → b < 2 ^ 64 → to_be_bytes w64 a ++ x ≡ to_be_bytes w64 b ++ y → (a ≡ b) × (x ≡ y)
one_number a b x y l m e = (
  sym (from_be_bytes-to_be_bytes_8 a l)
      ∙ ap (from_be_bytes w64)
      (sym (take_at (to_be_bytes w64 a) x 8 refl) ∙ ap (take 8) e ∙ take_at (to_be_bytes w64 b) y 8 refl)
      ∙ from_be_bytes-to_be_bytes_8 b m,
  sym (drop_at (to_be_bytes w64 a) x 8 refl) ∙ ap (drop 8) e ∙ drop_at (to_be_bytes w64 b) y 8 refl,
)

-- two of them
two_numbers : (a b c d : ℕ) (x y : List ℕ) → a < 2 ^ 64 → b < 2 ^ 64 → c < 2 ^ 64 → d < 2 ^ 64
    → (to_be_bytes w64 a ++ to_be_bytes w64 b) ++ x ≡ (to_be_bytes w64 c ++ to_be_bytes w64 d) ++ y → (a ≡ c) × (b ≡ d) × (x ≡ y)
two_numbers a b c d x y la lb lc ld e =
    let f =
    one_number a c (to_be_bytes w64 b ++ x) (to_be_bytes w64 d ++ y) la lc
    (sym (append_assoc (to_be_bytes w64 a) (to_be_bytes w64 b) x) ∙ e
    ∙ append_assoc (to_be_bytes w64 c) (to_be_bytes w64 d) y) in
    let g = one_number b d x y lb ld f.1 in
    (f.0, g.0, g.1)

-- a byte at the front, and the rest
same_front : (a b : ℕ) (x y : List ℕ) → a ∷ x ≡ b ∷ y → (a ≡ b) × (x ≡ y)
same_front a b x y e = (ap (λ (l : List ℕ). get_or l 0 0) e, ap (λ (l : List ℕ). drop 1 l) e)

-- children that are spelled alike are the same
same_children : (a b : List Listed) → AllByRecursion IsChild a → AllByRecursion IsChild b → flat_map child_bytes a ≡ flat_map child_bytes b → a ≡ b
same_children [] [] l m e = refl
same_children [] (y ∷ b) l m e = absurd cc
same_children (x ∷ a) [] l m e = absurd cc
same_children (x ∷ a) (y ∷ b) l m e =
    let f =
    same_front x.number y.number
    ((to_be_bytes w64 x.container ++ to_be_bytes w64 x.segment) ++ flat_map child_bytes a)
    ((to_be_bytes w64 y.container ++ to_be_bytes w64 y.segment) ++ flat_map child_bytes b) e in
    let g = two_numbers x.container x.segment y.container y.segment (flat_map child_bytes a) (flat_map child_bytes b) l.0.0 l.0.1 m.0.0 m.0.1 f.1 in
    let k = same_children a b l.1 m.1 g.2 in
    λ i. record { number = f.0 i; container = g.0 i; segment = g.1 i } ∷ k i

-- what follows the first two bytes of a process segment
abbrev tail_of : ProcessStatus → List ℕ
tail_of t = t.born ∷ (to_be_bytes w64 t.internal ++ to_be_bytes w64 t.thread) ++ flat_map child_bytes t.children

-- the first two bytes show whether the process runs
same_life : (a b : Option ℕ) (x y : List ℕ) → life_bytes a ++ x ≡ life_bytes b ++ y → (a ≡ b) × (x ≡ y)
same_life None None x y e = (refl, ap (λ (l : List ℕ). drop 2 l) e)
same_life None (Some n) x y e =
    let h : 114 ≡ 120 = ap (λ (l : List ℕ). get_or l 0 0) e in
    absurd (omega (arith, h))
same_life (Some m) None x y e =
    let h : 120 ≡ 114 = ap (λ (l : List ℕ). get_or l 0 0) e in
    absurd (omega (arith, h))
same_life (Some m) (Some n) x y e = (ap (λ (l : List ℕ). Some (get_or l 1 0)) e, ap (λ (l : List ℕ). drop 2 l) e)

-- a life, and what follows it
life_first : (t : ProcessStatus) → status_bytes t ≡ life_bytes t.exited ++ tail_of t
life_first t = by t.exited
  where
    by : (o : Option ℕ)
        → life_bytes o ++ (t.born ∷ to_be_bytes w64 t.internal) ++ to_be_bytes w64 t.thread
        ++ flat_map child_bytes t.children ≡ life_bytes o ++ tail_of t
    by None = refl
    by (Some n) = refl

-- bytes spell at most one status
pub same_status : (bytes : List ℕ) (a b : ProcessStatus) → IsStatus bytes a → IsStatus bytes b → a ≡ b
same_status bytes a b l m =
    let e = same_life a.exited b.exited (tail_of a) (tail_of b) (sym (life_first a) ∙ sym l.spelled ∙ m.spelled ∙ life_first b) in
    let f =
    same_front a.born b.born
    ((to_be_bytes w64 a.internal ++ to_be_bytes w64 a.thread) ++ flat_map child_bytes a.children)
    ((to_be_bytes w64 b.internal ++ to_be_bytes w64 b.thread) ++ flat_map child_bytes b.children) e.1 in
    let g =
    two_numbers a.internal a.thread b.internal b.thread (flat_map child_bytes a.children)
    (flat_map child_bytes b.children) l.internal l.thread m.internal m.thread f.1 in
    let k = same_children a.children b.children l.each m.each g.2 in
    λ i. record { exited = e.0 i; born = f.0 i; internal = g.0 i; thread = g.1 i; children = k i }

-- the numbers in a target
abbrev pub container_in : Target → ℕ
container_in (targets.File file) = 0
container_in (targets.Directory container listing) = container

abbrev pub listing_in : Target → ℕ
listing_in (targets.File file) = 0
listing_in (targets.Directory container listing) = listing
