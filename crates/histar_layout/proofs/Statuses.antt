-- The status that is read from a process segment is the one that was written, and a written status is read again.
use Rattle.std.proofs.Common.{◌≡◌, ℕ, zero, suc, ◌^◌, ◌<◌, ◌≤◌, Bool, true, false, cond, eqb, ◌&&◌, List, [], ◌∷◌, ◌++◌, length, Option, Some, None}
use Rattle.std.proofs.Common.{refl, sym, ap, subst, ◌∙◌, append_assoc, arith}
use Rattle.std.specs.Int.{w64, to_be_bytes}
use Rattle.std.specs.List.{flat_map, AllByRecursion}
use Rattle.std.proofs.lemmas.Bool.{eqb-true, and_parts}
use Rattle.std.proofs.lemmas.Option.{cond_some, same_Some}
use Rattle.histar_flat.specs.Words.{most_children}
use Rattle.histar_flat.proofs.Options.{bind_some}
use Rattle.histar_layout.specs.Reading.{◌>>=◌, number_at}
use Rattle.histar_layout.specs.Status.{ProcessStatus, IsChild, IsStatus, child_bytes, child_in, children_in, head_in, head_of, life_bytes, life_in}
use Rattle.histar_layout.specs.Status.{status_bytes, status_in}
use Rattle.histar_layout.specs.StatusParts.{IsSplit, StatusesAreSpelled, head_bytes}
use Rattle.histar_layout.specs.declared.status.Child.{Child}
use Rattle.histar_layout.specs.declared.status.StatusHead.{StatusHead}
use Rattle.histar_layout.proofs.EntryLemmas.{IsBytes, IsBytes-rest, Takes, bind_at, number_takes, number_again}

-- ---- the parts of a process segment

-- the head that is made of its parts
abbrev head_made : Option ℕ → ℕ → ℕ × List ℕ → ℕ × List ℕ → StatusHead × List ℕ
head_made life born internal thread = (record { exited = life; born = born; internal = internal.0; thread = thread.0 }, thread.1)

abbrev child_made : ℕ → ℕ × List ℕ → ℕ × List ℕ → Child × List ℕ
child_made number container segment = (record { number = number; container = container.0; segment = segment.0 }, segment.1)

-- ---- reading what was written

-- whether a process runs
life_takes : (letter number : ℕ) (life : Option ℕ) → life_in letter number ≡ Some life → letter ∷ number ∷ [] ≡ life_bytes life
life_takes letter number life e = by (eqb letter 114 && eqb number 0) refl e
  where
    by : (b : Bool) → (eqb letter 114 && eqb number 0) ≡ b
        → cond b (Some None) (cond (eqb letter 120) (Some (Some number)) None) ≡ Some life
        → letter ∷ number ∷ [] ≡ life_bytes life
    by true is e =
        let p = and_parts (eqb letter 114) (eqb number 0) is in
        let l : letter ≡ 114 = eqb-true letter 114 p.0 in
        let n : number ≡ 0 = eqb-true number 0 p.1 in
        (λ i. l i ∷ n i ∷ []) ∙ ap life_bytes (same_Some None life e)
    by false is e =
        let g = cond_some (eqb letter 120) (Some number) life e in
        let l : letter ≡ 120 = eqb-true letter 120 g.0 in
        (λ i. l i ∷ number ∷ []) ∙ ap life_bytes g.1

-- three bytes and two numbers, joined, are a head's bytes
head_parts : (letter number born : ℕ) (bytes a x b rest : List ℕ) (life : Option ℕ)
    → letter ∷ number ∷ [] ≡ life_bytes life → bytes ≡ a ++ x → x ≡ b ++ rest
    → letter ∷ number ∷ born ∷ bytes ≡ (life_bytes life ++ (born ∷ a) ++ b) ++ rest
head_parts letter number born bytes a x b rest life l p q =
    ap (λ (t : List ℕ). letter ∷ number ∷ born ∷ t) (p ∙ ap (λ (t : List ℕ). a ++ t) q ∙ sym (append_assoc a b rest))
    ∙ ap (λ (t : List ℕ). (t ++ (born ∷ a) ++ b) ++ rest) l

-- the head of a process segment was written as these bytes
record HeadTakes (bytes : List ℕ) (x : StatusHead × List ℕ) : Type 0 where
  taken : Takes bytes (head_bytes x.0) x.1
  internal : x.0.internal < 2 ^ 64
  thread : x.0.thread < 2 ^ 64

head_takes : (bytes : List ℕ) (x : StatusHead × List ℕ) → IsBytes bytes → head_in bytes ≡ Some x → HeadTakes bytes x
unfolding head_in
head_takes [] x fits e = absurd cc
head_takes (letter ∷ []) x fits e = absurd cc
head_takes (letter ∷ number ∷ []) x fits e = absurd cc
head_takes (letter ∷ number ∷ born ∷ bytes) x fits e =
    let a =
    bind_some (life_in letter number) (λ exited. number_at bytes >>= λ internal. number_at internal.1 >>= λ thread. Some
    (head_made exited born internal thread)) x e in
    let b = bind_some (number_at bytes) (λ internal. number_at internal.1 >>= λ thread. Some (head_made a.0 born internal thread)) x a.2 in
    let d = bind_some (number_at b.0.1) (λ thread. Some (head_made a.0 born b.0 thread)) x b.2 in
    let internal =
    number_takes bytes b.0 (IsBytes-rest born bytes
    (IsBytes-rest number (born ∷ bytes) (IsBytes-rest letter (number ∷ born ∷ bytes) fits))) b.1 in
    let thread = number_takes b.0.1 d.0 internal.0.rest_fits d.1 in
    subst (HeadTakes (letter ∷ number ∷ born ∷ bytes)) {x = head_made a.0 born b.0 d.0} (same_Some (head_made a.0 born b.0 d.0) x d.2) (record {
      taken = record {
        parts =
            head_parts letter number born bytes (to_be_bytes w64 b.0.0) b.0.1 (to_be_bytes w64 d.0.0) d.0.1 a.0
            (life_takes letter number a.0 a.1) internal.0.parts thread.0.parts;
        rest_fits = thread.0.rest_fits;
      };
      internal = internal.1;
      thread = thread.1;
    })

-- a child that is read was written as these bytes
child_takes : (bytes : List ℕ) (x : Child × List ℕ) → IsBytes bytes → child_in bytes ≡ Some x → Takes bytes (child_bytes x.0) x.1 × IsChild x.0
unfolding child_in
child_takes [] x fits e = absurd cc
child_takes (number ∷ bytes) x fits e =
    let a = bind_some (number_at bytes) (λ container. number_at container.1 >>= λ segment. Some (child_made number container segment)) x e in
    let b = bind_some (number_at a.0.1) (λ segment. Some (child_made number a.0 segment)) x a.2 in
    let container = number_takes bytes a.0 (IsBytes-rest number bytes fits) a.1 in
    let segment = number_takes a.0.1 b.0 container.0.rest_fits b.1 in
    subst (λ (y : Child × List ℕ). Takes (number ∷ bytes) (child_bytes y.0) y.1 × IsChild y.0)
    {x = child_made number a.0 b.0} (same_Some (child_made number a.0 b.0) x b.2) (
      record {
        parts =
            ap (λ (t : List ℕ). number ∷ t) (container.0.parts ∙ ap (λ (t : List ℕ). to_be_bytes w64 a.0.0 ++ t) segment.0.parts
            ∙ sym (append_assoc (to_be_bytes w64 a.0.0) (to_be_bytes w64 b.0.0) b.0.1));
        rest_fits = segment.0.rest_fits;
      },
      (container.1, segment.1),
    )

-- so were the children that bytes list
children_takes : (most : ℕ) (bytes : List ℕ) (children : List Child) → IsBytes bytes
    → children_in most bytes ≡ Some children → (bytes ≡ flat_map child_bytes children) × AllByRecursion IsChild children
unfolding children_in
children_takes most [] children fits e =
    subst (λ (cs : List Child). ([] ≡ flat_map child_bytes cs) × AllByRecursion IsChild cs) (same_Some [] children e)
    (refl, tt)
children_takes zero (b ∷ bytes) children fits e = absurd cc
children_takes (suc most) (b ∷ bytes) children fits e =
    let c = bind_some (child_in (b ∷ bytes)) (λ child. children_in most child.1 >>= λ more. Some (child.0 ∷ more)) children e in
    let m = bind_some (children_in most c.0.1) (λ more. Some (c.0.0 ∷ more)) children c.2 in
    let child = child_takes (b ∷ bytes) c.0 fits c.1 in
    let more = children_takes most c.0.1 m.0 child.0.rest_fits m.1 in
    subst (λ (cs : List Child). (b ∷ bytes ≡ flat_map child_bytes cs) × AllByRecursion IsChild cs) {x = c.0.0 ∷ m.0}
    (same_Some (c.0.0 ∷ m.0) children m.2)
    (child.0.parts ∙ ap (λ (t : List ℕ). child_bytes c.0.0 ++ t) more.0, (child.1, more.1))

-- the head and the children, joined, are the bytes of the status
pub status_parts : (status : ProcessStatus) → head_bytes (head_of status) ++ flat_map child_bytes status.children ≡ status_bytes status
status_parts status = by status.exited
  where
    by : (life : Option ℕ)
        → (life_bytes life ++ (status.born ∷ to_be_bytes w64 status.internal) ++ to_be_bytes w64 status.thread)
        ++ flat_map child_bytes status.children
        ≡ life_bytes life ++ (status.born ∷ to_be_bytes w64 status.internal) ++ to_be_bytes w64 status.thread ++ flat_map child_bytes status.children
    by None = refl
    by (Some number) = refl

-- the status with this head and these children
abbrev pub status_of : StatusHead → List Child → ProcessStatus
status_of head children = record { exited = head.exited; born = head.born; internal = head.internal; thread = head.thread; children = children }

-- the bytes consist of the head and the children of this status
pub record HasParts (bytes : List ℕ) (status : ProcessStatus) : Type 0 where
  pub rest : List ℕ
  pub head : head_in bytes ≡ Some (head_of status, rest)
  pub listed : children_in most_children rest ≡ Some status.children

pub parts_of : (bytes : List ℕ) (status : ProcessStatus) → status_in bytes ≡ Some status → HasParts bytes status
unfolding status_in
parts_of bytes status e =
    let h = bind_some (head_in bytes) (λ head. children_in most_children head.1 >>= λ children. Some (status_of head.0 children)) status e in
    let c = bind_some (children_in most_children h.0.1) (λ children. Some (status_of h.0.0 children)) status h.2 in
    subst (HasParts bytes) {x = status_of h.0.0 c.0} (same_Some (status_of h.0.0 c.0) status c.2) (record { rest = h.0.1; head = h.1; listed = c.1 })

-- where bytes have a head and children, they are the status of these
pub status_read : (bytes : List ℕ) (head : StatusHead) (rest : List ℕ) (children : List Child)
    → head_in bytes ≡ Some (head, rest) → children_in most_children rest ≡ Some children
    → status_in bytes ≡ Some (status_of head children)
unfolding status_in
status_read bytes head rest children h c =
    bind_at (head_in bytes) (λ head. children_in most_children head.1 >>= λ children. Some (status_of head.0 children)) (head, rest) h
    ∙ bind_at (children_in most_children rest) (λ children. Some (status_of head children)) children c

-- the status that is read from bytes was written as these bytes
pub status_takes : (bytes : List ℕ) (status : ProcessStatus) → IsBytes bytes → status_in bytes ≡ Some status → IsStatus bytes status
status_takes bytes status fits e =
    let revealed = parts_of bytes status e in
    let head = head_takes bytes (head_of status, revealed.rest) fits revealed.head in
    let children = children_takes most_children revealed.rest status.children head.taken.rest_fits revealed.listed in
    record {
      internal = head.internal;
      thread = head.thread;
      each = children.1;
      spelled = head.taken.parts ∙ ap (λ (t : List ℕ). head_bytes (head_of status) ++ t) children.0 ∙ status_parts status;
    }

-- bytes with a head and children are split into these
pub status_split : (bytes : List ℕ) (head : StatusHead) (rest : List ℕ) (children : List Child) → IsBytes bytes
    → head_in bytes ≡ Some (head, rest) → children_in most_children rest ≡ Some children → IsSplit bytes head rest
status_split bytes head rest children fits h c = record {
  status = status_of head children;
  status_is = status_read bytes head rest children h c;
  head_is = refl;
  children_are = (children_takes most_children rest children (head_takes bytes (head, rest) fits h).taken.rest_fits c).0;
}

-- ---- writing and reading again

-- a written head is read again, whatever follows
head_again : (head : StatusHead) (rest : List ℕ) → head.internal < 2 ^ 64 → head.thread < 2 ^ 64
    → head_in (head_bytes head ++ rest) ≡ Some (head, rest)
unfolding head_in
head_again head rest internal thread = by head.exited refl
  where
    numbers : (life : Option ℕ)
        → (number_at ((to_be_bytes w64 head.internal ++ to_be_bytes w64 head.thread) ++ rest) >>= λ internal.
        number_at internal.1 >>= λ thread. Some (head_made life head.born internal thread))
        ≡ Some (record { exited = life; born = head.born; internal = head.internal; thread = head.thread }, rest)
    numbers life =
        bind_at (number_at ((to_be_bytes w64 head.internal ++ to_be_bytes w64 head.thread) ++ rest))
        (λ internal. number_at internal.1 >>= λ thread. Some (head_made life head.born internal thread))
        (head.internal, to_be_bytes w64 head.thread ++ rest)
        (ap number_at (append_assoc (to_be_bytes w64 head.internal) (to_be_bytes w64 head.thread) rest)
        ∙ number_again head.internal (to_be_bytes w64 head.thread ++ rest) internal)
        ∙ bind_at (number_at (to_be_bytes w64 head.thread ++ rest))
        (λ thread. Some (head_made life head.born (head.internal, rest) thread)) (head.thread, rest)
        (number_again head.thread rest thread)

    by : (life : Option ℕ) → head.exited ≡ life → head_in (head_bytes head ++ rest) ≡ Some (head, rest)
    by None is =
        subst (λ (life : Option ℕ).
        head_in ((life_bytes life ++ (head.born ∷ to_be_bytes w64 head.internal) ++ to_be_bytes w64 head.thread)
        ++ rest)
        ≡ Some (
          record { exited = life; born = head.born; internal = head.internal; thread = head.thread },
          rest,
        )) (sym is) (numbers None)
    by (Some number) is =
        subst (λ (life : Option ℕ).
        head_in ((life_bytes life ++ (head.born ∷ to_be_bytes w64 head.internal) ++ to_be_bytes w64 head.thread)
        ++ rest)
        ≡ Some (
          record { exited = life; born = head.born; internal = head.internal; thread = head.thread },
          rest,
        )) (sym is) (numbers (Some number))

-- so is a child, whatever follows
child_again : (child : Child) (rest : List ℕ) → IsChild child → child_in (child_bytes child ++ rest) ≡ Some (child, rest)
unfolding child_in
child_again child rest is =
    bind_at (number_at ((to_be_bytes w64 child.container ++ to_be_bytes w64 child.segment) ++ rest))
    (λ container. number_at container.1 >>= λ segment. Some (child_made child.number container segment))
    (child.container, to_be_bytes w64 child.segment ++ rest)
    (ap number_at (append_assoc (to_be_bytes w64 child.container) (to_be_bytes w64 child.segment) rest)
    ∙ number_again child.container (to_be_bytes w64 child.segment ++ rest) is.0)
    ∙ bind_at (number_at (to_be_bytes w64 child.segment ++ rest))
    (λ segment. Some (child_made child.number (child.container, rest) segment)) (child.segment, rest)
    (number_again child.segment rest is.1)

-- so are children, no more than are allowed
children_again : (most : ℕ) (children : List Child) → AllByRecursion IsChild children → length children ≤ most
    → children_in most (flat_map child_bytes children) ≡ Some children
unfolding children_in
children_again zero [] each few = refl
children_again (suc most) [] each few = refl
children_again zero (child ∷ children) each few = absurd (omega arith)
children_again (suc most) (child ∷ children) each few =
    bind_at (child_in (child_bytes child ++ flat_map child_bytes children))
    (λ found. children_in most found.1 >>= λ more. Some (found.0 ∷ more)) (child, flat_map child_bytes children)
    (child_again child (flat_map child_bytes children) each.0)
    ∙ bind_at (children_in most (flat_map child_bytes children)) (λ more. Some (child ∷ more)) children
    (children_again most children each.1 (omega arith))

-- so is all of a process segment
pub status_again : (bytes : List ℕ) (status : ProcessStatus) → IsStatus bytes status
    → length status.children ≤ most_children → status_in bytes ≡ Some status
status_again bytes status is few =
    ap status_in (is.spelled ∙ sym (status_parts status))
    ∙ status_read (head_bytes (head_of status) ++ flat_map child_bytes status.children) (head_of status)
    (flat_map child_bytes status.children) status.children
    (head_again (head_of status) (flat_map child_bytes status.children) is.internal is.thread)
    (children_again most_children status.children is.each few)

-- both facts in one
pub statuses_are_spelled : StatusesAreSpelled
statuses_are_spelled = record { read_is_spelled = status_takes; spelled_is_read = status_again }
