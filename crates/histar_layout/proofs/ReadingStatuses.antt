-- Reading the bytes of a process segment, child by child.
use Rattle.std.proofs.Common.{◌≡◌, ℕ, zero, suc, ◌-◌, ◌*◌, ◌%◌, ◌<◌, ◌≤◌, ◌&&◌, inl, inr, Bool, true, false, cond, eqb, leb, List, [], ◌∷◌}
use Rattle.std.proofs.Common.{length, take, drop, Option, Some, None, Result, Ok, refl, sym, ap, ◌∙◌, length-drop, eq-eqb, get_or, arith}
use Rattle.std.proofs.lemmas.List.{drop-drop}
use Rattle.std.specs.Prelude.{option_map, is_some}
use Rattle.std.specs.Int.{w64, from_be_bytes}
use Rattle.std.proofs.lemmas.Bool.{and_parts, cases_lt, eqb-true, false≢true, leb-true, le-leb}
use Rattle.std.proofs.lemmas.Bool.Decides.{nat_tests}
use Rattle.std.proofs.lemmas.Option.{same_Some}
use Rattle.histar_flat.specs.Words.{most_children}
use Rattle.histar_flat.proofs.Options.{bind_some}
use Rattle.histar_layout.specs.Reading.{◌>>=◌, front_at, number_at}
use Rattle.histar_layout.specs.Status.{child_at, child_in, children_in, head_in, head_of, look_for, status_in}
use Rattle.histar_layout.specs.StatusParts.{IsSplit}
use Rattle.histar_layout.specs.declared.status.Child.{Child}
use Rattle.histar_layout.specs.declared.status.StatusHead.{StatusHead}
use Rattle.histar_layout.specs.declared.status.NotAStatus.{NotAStatus}
use Rattle.histar_layout.proofs.EntryLemmas.{IsBytes, bind_at}
use Rattle.histar_layout.proofs.Members.{same_truth}
use Rattle.histar_layout.proofs.Statuses.{status_of, status_split}

-- ---- any bytes of its length are a child

-- eight bytes are a number
number_there : (bytes : List ℕ) → 8 ≤ length bytes → number_at bytes ≡ Some (from_be_bytes w64 (take 8 bytes), drop 8 bytes)
unfolding number_at front_at
number_there bytes long =
    let enough : leb 8 (length bytes) ≡ true = grind (arith, nat_tests) in
    ap (λ (b : Bool). cond b (Some (take 8 bytes, drop 8 bytes)) None >>= λ (front : List ℕ × List ℕ). Some
    (from_be_bytes w64 front.0, front.1)) enough

-- fewer are no number
number_short : (bytes : List ℕ) → length bytes < 8 → number_at bytes ≡ None
unfolding number_at front_at
number_short bytes short =
    let few : leb 8 (length bytes) ≡ false = grind (arith, nat_tests) in
    ap (λ (b : Bool). cond b (Some (take 8 bytes, drop 8 bytes)) None >>= λ (front : List ℕ × List ℕ). Some (from_be_bytes w64 front.0, front.1)) few

-- the first byte and two numbers are a child
child_there : (number : ℕ) (bytes : List ℕ) → 16 ≤ length bytes
    → child_in (number ∷ bytes)
    ≡ Some (
      record {
        number = number;
        container = from_be_bytes w64 (take 8 bytes);
        segment = from_be_bytes w64 (take 8 (drop 8 bytes));
      },
      drop 16 bytes,
    )
unfolding child_in
child_there number bytes long =
    let child : Child =
    record {
      number = number;
      container = from_be_bytes w64 (take 8 bytes);
      segment = from_be_bytes w64 (take 8 (drop 8 bytes));
    } in
    bind_at (number_at bytes) (λ container. number_at container.1 >>= λ segment. Some
    (record { number = number; container = container.0; segment = segment.0 }, segment.1)) _
    (number_there bytes (omega arith))
    ∙ bind_at (number_at (drop 8 bytes)) (λ segment. Some (
      record { number = number; container = from_be_bytes w64 (take 8 bytes); segment = segment.0 },
      segment.1,
    )) _ (number_there (drop 8 bytes) (omega (arith, length-drop 8 bytes)))
    ∙ ap (λ (after : List ℕ). Some (child, after)) (drop-drop 8 8 bytes)

-- seventeen bytes are a child, with the first as its number
pub whole_child : (rest : List ℕ) → 17 ≤ length rest
    → (child : Child) × (child_in rest ≡ Some (child, drop 17 rest)) × (child.number ≡ get_or (take 17 rest) 0 0)
whole_child [] long = absurd (omega arith)
whole_child (number ∷ bytes) long = (_, child_there number bytes (omega arith), refl)

-- fewer are no child
pub short_child : (rest : List ℕ) → length rest < 17 → child_in rest ≡ None
unfolding child_in
short_child [] short = refl
short_child (number ∷ bytes) short = elim (leb 8 (length bytes)) as (λ b. leb 8 (length bytes) ≡ b → child_in (number ∷ bytes) ≡ None) [
  | true ↦ λ enough.
      bind_at (number_at bytes) (λ container. number_at container.1 >>= λ segment. Some
      (record { number = number; container = container.0; segment = segment.0 }, segment.1)) _
      (number_there bytes (grind (arith, nat_tests)))
      ∙ ap (λ o. o >>= λ (segment : ℕ × List ℕ). Some (
        record
            { number = number; container = from_be_bytes w64 (take 8 bytes); segment = segment.0 },
        segment.1,
      ))
      (number_short (drop 8 bytes) (omega (arith, length-drop 8 bytes)))
  | false ↦
      λ few. ap (λ o. o >>= λ (container : ℕ × List ℕ). number_at container.1 >>= λ segment. Some
      (record { number = number; container = container.0; segment = segment.0 }, segment.1))
      (number_short bytes (grind (arith, nat_tests)))
] refl

-- ---- the children of the rest

-- empty bytes list no child
pub no_children : (left : ℕ) (rest : List ℕ) → length rest ≡ 0 → children_in left rest ≡ Some []
unfolding children_in
no_children zero [] none = refl
no_children (suc left) [] none = refl
no_children left (b ∷ rest) none = absurd (omega arith)

-- one more child is listed
pub next_child : (left : ℕ) (rest after : List ℕ) (child : Child) → 0 < left → child_in rest ≡ Some (child, after)
    → children_in left rest ≡ (children_in (left - 1) after >>= λ more. Some (child ∷ more))
unfolding children_in child_in
next_child zero rest after child room e = absurd (omega arith)
next_child (suc left) [] after child room e = absurd cc
next_child (suc left) (b ∷ rest) after child room e =
    let less : suc left - 1 ≡ left = omega arith in
    bind_at (child_in (b ∷ rest)) (λ found. children_in left found.1 >>= λ more. Some (found.0 ∷ more)) (child, after) e
    ∙ ap (λ (n : ℕ). children_in n after >>= λ more. Some (child ∷ more)) (sym less)

-- bytes after the last possible child list no children
pub no_room : (left : ℕ) (rest : List ℕ) → 0 < length rest → left ≡ 0 → children_in left rest ≡ None
unfolding children_in
no_room left [] some none = absurd (omega arith)
no_room zero (b ∷ rest) some none = refl
no_room (suc left) (b ∷ rest) some none = absurd (omega arith)

-- bytes that are no child list no children
pub no_child : (left : ℕ) (rest : List ℕ) → 0 < length rest → child_in rest ≡ None → children_in left rest ≡ None
unfolding children_in
no_child left [] some none = absurd (omega arith)
no_child zero (b ∷ rest) some none = refl
no_child (suc left) (b ∷ rest) some none = ap (λ o. o >>= λ (found : Child × List ℕ). children_in left found.1 >>= λ more. Some (found.0 ∷ more)) none

-- ---- whether bytes list children

some_more : (child : Child) (more : Option (List Child)) → is_some (more >>= λ cs. Some (child ∷ cs)) ≡ is_some more
some_more child None = refl
some_more child (Some cs) = refl

-- bytes that begin with a child list children where the rest does
on_to_rest : (left : ℕ) (rest : List ℕ) → 17 ≤ length rest
    → is_some (children_in (suc left) rest) ≡ is_some (children_in left (drop 17 rest))
on_to_rest left rest long =
    let child = whole_child rest long in
    let less : suc left - 1 ≡ left = omega arith in
    ap is_some (next_child (suc left) rest (drop 17 rest) child.0 (omega arith) child.1)
    ∙ some_more child.0 (children_in (suc left - 1) (drop 17 rest))
    ∙ ap (λ (n : ℕ). is_some (children_in n (drop 17 rest))) less

-- bytes of this many children or fewer list them
lists_them : (left : ℕ) (rest : List ℕ) → length rest ≤ 17 * left → length rest % 17 ≡ 0 → is_some (children_in left rest) ≡ true
lists_them zero rest few whole = ap is_some (no_children zero rest (omega arith))
lists_them (suc left) rest few whole = elim (cases_lt (length rest) 17) [
  | inl short ↦ ap is_some (no_children (suc left) rest (omega arith))
  | inr long ↦
      on_to_rest left rest long
      ∙ lists_them left (drop 17 rest) (omega (arith, length-drop 17 rest)) (omega (arith, length-drop 17 rest))
]

-- and bytes that list this many children or fewer have as many bytes
has_length : (left : ℕ) (rest : List ℕ) → is_some (children_in left rest) ≡ true → (length rest ≤ 17 * left) × (length rest % 17 ≡ 0)
has_length left [] lists = (omega arith, omega arith)
has_length zero (b ∷ rest) lists = absurd (false≢true (sym (ap is_some (no_room zero (b ∷ rest) (omega arith) refl)) ∙ lists))
has_length (suc left) (b ∷ rest) lists = elim (cases_lt (length (b ∷ rest)) 17) [
  | inl short ↦
      absurd (false≢true (sym (ap is_some (no_child (suc left) (b ∷ rest) (omega arith) (short_child (b ∷ rest) short))) ∙ lists))
  | inr long ↦
      let h = has_length left (drop 17 (b ∷ rest)) (sym (on_to_rest left (b ∷ rest) long) ∙ lists) in
      (omega (arith, h.0, length-drop 17 (b ∷ rest)), omega (arith, h.1, length-drop 17 (b ∷ rest)))
]

-- so their length tells whether bytes list children
pub lists_by_length : (rest : List ℕ) → (leb (length rest) 1088 && eqb (length rest % 17) 0) ≡ is_some (children_in most_children rest)
lists_by_length rest =
    same_truth (leb (length rest) 1088 && eqb (length rest % 17) 0) (is_some (children_in most_children rest))
    (λ e.
    let parts = and_parts (leb (length rest) 1088) (eqb (length rest % 17) 0) e in
    lists_them most_children rest (leb-true (length rest) 1088 parts.0) (eqb-true (length rest % 17) 0 parts.1))
    (λ lists.
    let h = has_length most_children rest lists in
    ap (λ b. b && eqb (length rest % 17) 0) (le-leb (length rest) 1088 h.0) ∙ eq-eqb (length rest % 17) 0 h.1)

-- ---- looking for a child

-- other numbers fail the test
pub differs : (a b : ℕ) → (a ≡ b → ⊥) → eqb a b ≡ false
differs a b other = grind (arith, nat_tests)

-- the rest lists children, and the expected child is the first of this number among them
abbrev pub IsSought : Result (Option Child) NotAStatus → ℕ → List ℕ → Type 0
IsSought due number rest = (left : ℕ) × (children : List Child) × (children_in left rest ≡ Some children) × (due ≡ Ok (child_at children number))

-- bytes that are long enough begin with one of the children
front_child : (left : ℕ) (rest : List ℕ) (children : List Child) → children_in left rest ≡ Some children → 17 ≤ length rest
    → (child : Child) × (more : List Child) × (children ≡ child ∷ more)
    × (children_in (left - 1) (drop 17 rest) ≡ Some more) × (child_in rest ≡ Some (child, drop 17 rest))
    × (child.number ≡ get_or (take 17 rest) 0 0)
front_child zero rest children is long =
    let none : ◌≡◌ {A = Option (List Child)} None (Some children) = sym (no_room zero rest (omega arith) refl) ∙ is in
    absurd cc
front_child (suc left) rest children is long =
    let child = whole_child rest long in
    let more =
    bind_some (children_in (suc left - 1) (drop 17 rest)) (λ more. Some (child.0 ∷ more)) children
    (sym (next_child (suc left) rest (drop 17 rest) child.0 (omega arith) child.1) ∙ is) in
    (child.0, more.0, sym (same_Some (child.0 ∷ more.0) children more.2), more.1, child.1, child.2)

-- where it has another number, the expected child is in the bytes after it
pub seek_on : (due : Result (Option Child) NotAStatus) (number : ℕ) (rest front after : List ℕ)
    → IsSought due number rest → 17 ≤ length rest → front ≡ take 17 rest → after ≡ drop 17 rest
    → (get_or front 0 0 ≡ number → ⊥) → IsSought due number after
seek_on due number rest front after (left, children, is, due_is) long front_is after_is other =
    let at = front_child left rest children is long in
    let differ : eqb at.0.number number ≡ false =
    differs at.0.number number (λ same. other (ap (λ (t : List ℕ). get_or t 0 0) front_is ∙ sym at.5 ∙ same)) in (
      left - 1,
      at.1,
      ap (children_in (left - 1)) after_is ∙ at.3,
      due_is ∙ ap (λ cs. Ok (child_at cs number)) at.2
          ∙ ap (λ (b : Bool). Ok (cond b (Some at.0) (child_at at.1 number))) differ,
    )

-- where it has the number, it is the expected child
pub sought_here : (due : Result (Option Child) NotAStatus) (number : ℕ) (rest front : List ℕ) → IsSought due number rest
    → 17 ≤ length rest → front ≡ take 17 rest → get_or front 0 0 ≡ number
    → due ≡ Ok (option_map (λ (found : Child × List ℕ). found.0) (child_in rest))
sought_here due number rest front (left, children, is, due_is) long front_is same =
    let at = front_child left rest children is long in
    let it : eqb at.0.number number ≡ true = eq-eqb at.0.number number (at.5 ∙ ap (λ (t : List ℕ). get_or t 0 0) (sym front_is) ∙ same) in
    due_is ∙ ap (λ cs. Ok (child_at cs number)) at.2 ∙ ap (λ (b : Bool). Ok (cond b (Some at.0) (child_at at.1 number))) it
    ∙ ap (λ o. Ok (option_map (λ (found : Child × List ℕ). found.0) o)) (sym at.4)

-- where the bytes are too short for a child, there is none
pub sought_nowhere : (due : Result (Option Child) NotAStatus) (number : ℕ) (rest : List ℕ) → IsSought due number rest
    → length rest < 17 → due ≡ Ok None
sought_nowhere due number [] (left, children, is, due_is) short =
    due_is ∙ ap (λ cs. Ok (child_at cs number)) (sym (same_Some [] children (sym (no_children left [] refl) ∙ is)))
sought_nowhere due number (b ∷ rest) (left, children, is, due_is) short =
    let none : ◌≡◌ {A = Option (List Child)} None (Some children) =
    sym (no_child left (b ∷ rest) (omega arith) (short_child (b ∷ rest) short)) ∙ is in
    absurd cc

-- where bytes have a head, the child is searched in the bytes of the children
look_behind : (bytes : List ℕ) (head : StatusHead) (rest : List ℕ) (number : ℕ) → head_in bytes ≡ Some (head, rest)
    → (o : Option (List Child)) → children_in most_children rest ≡ o
    → look_for (status_in bytes) number ≡ look_for (option_map (status_of head) o) number
unfolding status_in
look_behind bytes head rest number h o is =
    ap (λ o. look_for o number) (bind_at (head_in bytes)
    (λ head. children_in most_children head.1 >>= λ children. Some (status_of head.0 children)) (head, rest) h)
    ∙ ap (λ x. look_for (x >>= λ children. Some (status_of head children)) number) is ∙ by o
  where
    by : (o : Option (List Child))
        → look_for (o >>= λ children. Some (status_of head children)) number
        ≡ look_for (option_map (status_of head) o) number
    by None = refl
    by (Some children) = refl

-- the bytes of the children list the expected child
pub sought_first : (bytes : List ℕ) (head : StatusHead) (rest : List ℕ) (number : ℕ) → head_in bytes ≡ Some (head, rest)
    → is_some (children_in most_children rest) ≡ true → IsSought (look_for (status_in bytes) number) number rest
sought_first bytes head rest number h some = by (children_in most_children rest) refl some
  where
    by : (o : Option (List Child)) → children_in most_children rest ≡ o → is_some o ≡ true → IsSought (look_for (status_in bytes) number) number rest
    by None is none = absurd cc
    by (Some children) is some = (most_children, children, is, look_behind bytes head rest number h (Some children) is)

-- bytes without a head are no process segment
pub no_head : (bytes : List ℕ) → head_in bytes ≡ None → status_in bytes ≡ None
unfolding status_in
no_head bytes none =
    ap (λ o. o >>= λ (head : StatusHead × List ℕ). children_in most_children head.1 >>= λ children. Some
    (status_of head.0 children)) none

-- ---- the head and the bytes of the children

-- where the rest is no list of children, bytes are no process segment
pub not_split : (bytes : List ℕ) (head : StatusHead) (rest : List ℕ) → head_in bytes ≡ Some (head, rest)
    → is_some (children_in most_children rest) ≡ false → status_in bytes ≡ None
unfolding status_in
not_split bytes head rest h none =
    bind_at (head_in bytes) (λ head. children_in most_children head.1 >>= λ children. Some (status_of head.0 children))
    (head, rest) h ∙ by (children_in most_children rest) none
  where
    by : (o : Option (List Child)) → is_some o ≡ false → (o >>= λ children. Some (status_of head children)) ≡ None
    by None is = refl
    by (Some children) is = absurd cc

-- where it is one, bytes are split into the head and the rest
pub is_split : (bytes : List ℕ) (head : StatusHead) (rest : List ℕ) → IsBytes bytes → head_in bytes ≡ Some (head, rest)
    → is_some (children_in most_children rest) ≡ true → IsSplit bytes head rest
is_split bytes head rest fits h some = by (children_in most_children rest) refl some
  where
    by : (o : Option (List Child)) → children_in most_children rest ≡ o → is_some o ≡ true → IsSplit bytes head rest
    by None is none = absurd cc
    by (Some children) is some = status_split bytes head rest children fits h is

-- the head of split bytes is that of the process segment
pub head_revealed : (bytes : List ℕ) (head : StatusHead) (rest : List ℕ) → IsSplit bytes head rest → Some head ≡ option_map head_of (status_in bytes)
head_revealed bytes head rest split = ap Some split.head_is ∙ ap (option_map head_of) (sym split.status_is)
