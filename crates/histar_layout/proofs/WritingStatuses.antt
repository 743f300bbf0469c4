-- Process segments that are written from the head and the children's bytes of old ones.
use Rattle.std.proofs.Common.{◌≡◌, ℕ, ◌+◌, ◌<◌, ◌≤◌, Bool, true, false, not, cond, eqb, List, [], ◌∷◌, ◌++◌, length, get_or, take, drop, Some, refl}
use Rattle.std.proofs.Common.{sym, ap, ◌∙◌, append_assoc, append-nil, arith}
use Rattle.std.specs.Int.{w64, to_be_bytes}
use Rattle.std.specs.List.{flat_map}
use Rattle.std.proofs.lemmas.List.{take_at, drop_at}
use Rattle.std.proofs.lemmas.Option.{same_Some}
use Rattle.histar_layout.specs.Status.{ProcessStatus, child_bytes, head_of, status_bytes, status_in, with_child_listed}
use Rattle.histar_layout.specs.StatusParts.{IsSplit, head_bytes, others}
use Rattle.histar_layout.specs.declared.status.Child.{Child}
use Rattle.histar_layout.specs.declared.status.StatusHead.{StatusHead}
use Rattle.histar_layout.proofs.Statuses.{status_parts}

-- the number and the two objects of a child are pushed one after another
pub child_written : (old first second third a b : List ℕ) (child : Child) → a ≡ to_be_bytes w64 child.container → b ≡ to_be_bytes w64 child.segment
    → first ≡ old ++ child.number ∷ [] → second ≡ first ++ a → third ≡ second ++ b → third ≡ old ++ child_bytes child
child_written old first second third a b child p q x y z =
    z ∙ (λ i. (y ∙ ap (λ (w : List ℕ). w ++ a) x) i ++ b) ∙ in_pieces (child.number ∷ []) a b ∙ (λ i. old ++ ((child.number ∷ p i) ++ q i))
  where
    in_pieces : (one two three : List ℕ) → ((old ++ one) ++ two) ++ three ≡ old ++ ((one ++ two) ++ three)
    in_pieces one two three = simp append_assoc

-- ---- one more child

-- the children's bytes with one more child
children_more : (children : List Child) (child : Child)
    → flat_map child_bytes children ++ child_bytes child ≡ flat_map child_bytes (children ++ child ∷ [])
children_more [] child = sym (append-nil (child_bytes child))
children_more (other ∷ children) child =
    append_assoc (child_bytes other) (flat_map child_bytes children) (child_bytes child)
    ∙ ap (λ (t : List ℕ). child_bytes other ++ t) (children_more children child)

-- the head, with one more child born
abbrev pub more_born : StatusHead → StatusHead
more_born head = record { exited = head.exited; born = head.born + 1; internal = head.internal; thread = head.thread }

module _ (container segment : ℕ) where
  -- the new child
  abbrev new_child : StatusHead → Child
  new_child head = record { number = head.born + 1; container = container; segment = segment }

  -- the head, the children's bytes and the new child are the bytes of the status with it
  pub child_added : (bytes : List ℕ) (head : StatusHead) (children first second third : List ℕ) (status : ProcessStatus)
      → IsSplit bytes head children → status_in bytes ≡ Some status
      → first ≡ head_bytes (more_born head) → second ≡ first ++ children
      → third ≡ second ++ child_bytes (new_child head)
      → third ≡ status_bytes (with_child_listed container segment status)
  child_added bytes head children first second third status split revealed x y z =
      let same : split.status ≡ status = same_Some split.status status (sym split.status_is ∙ revealed) in
      let head_is : head ≡ head_of status = split.head_is ∙ ap head_of same in
      let children_are : children ≡ flat_map child_bytes status.children =
      split.children_are ∙ ap (λ (s : ProcessStatus). flat_map child_bytes s.children) same in
      let due = head_of status in
      z ∙ (λ i. (y ∙ (λ j. x j ++ children_are j)) i ++ child_bytes (new_child (head_is i)))
      ∙ ap (λ (h : StatusHead). (head_bytes (more_born h) ++ flat_map child_bytes status.children) ++ child_bytes (new_child due)) head_is
      ∙ append_assoc (head_bytes (more_born due)) (flat_map child_bytes status.children) (child_bytes (new_child due))
      ∙ ap (λ (t : List ℕ). head_bytes (more_born due) ++ t) (children_more status.children (new_child due))
      ∙ status_parts (with_child_listed container segment status)

-- ---- one child less

-- the rest are the bytes of children, and the expected bytes are the pushed ones and those of other numbers in the rest
abbrev pub IsLeft : ℕ → List ℕ → List ℕ → List ℕ → Type 0
IsLeft number out rest due = (left : List Child) × (rest ≡ flat_map child_bytes left) × (out ++ flat_map child_bytes (others number left) ≡ due)

-- the bytes of the next child are pushed, or left out
pub child_passed : (number : ℕ) (out rest due chunk after : List ℕ) → 17 ≤ length rest → chunk ≡ take 17 rest
    → after ≡ drop 17 rest → IsLeft number out rest due
    → (b : Bool) → eqb (get_or chunk 0 0) number ≡ b → IsLeft number (cond b out (out ++ chunk)) after due
child_passed number out rest due chunk after long front behind ([], is, whole) b test = absurd (omega (arith, ap length is))
child_passed number out rest due chunk after long front behind (child ∷ left, is, whole) b test =
    let front_is : chunk ≡ child_bytes child = front ∙ ap (take 17) is ∙ take_at (child_bytes child) (flat_map child_bytes left) 17 refl in
    let behind_is : after ≡ flat_map child_bytes left = behind ∙ ap (drop 17) is ∙ drop_at (child_bytes child) (flat_map child_bytes left) 17 refl in
    let same : eqb child.number number ≡ b = ap (λ (t : List ℕ). eqb (get_or t 0 0) number) (sym front_is) ∙ test in (
      left,
      behind_is,
      by b front_is (ap (λ (c : Bool).
          out ++ flat_map child_bytes (cond (not c) (child ∷ others number left) (others number left)))
          (sym same) ∙ whole),
    )
  where
    by : (b : Bool) → chunk ≡ child_bytes child
        → out ++ flat_map child_bytes (cond (not b) (child ∷ others number left) (others number left)) ≡ due
        → cond b out (out ++ chunk) ++ flat_map child_bytes (others number left) ≡ due
    by true front_is e = e
    by false front_is e =
        ap (λ (t : List ℕ). (out ++ t) ++ flat_map child_bytes (others number left)) front_is
        ∙ append_assoc out (child_bytes child) (flat_map child_bytes (others number left)) ∙ e

-- where no child is left, all expected bytes are pushed
pub all_passed : (number : ℕ) (out rest due : List ℕ) → length rest < 17 → IsLeft number out rest due → out ≡ due
all_passed number out rest due short ([], is, whole) = sym (append-nil out) ∙ whole
all_passed number out rest due short (child ∷ left, is, whole) = absurd (omega (arith, ap length is))
