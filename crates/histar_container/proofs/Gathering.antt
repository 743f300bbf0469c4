-- How the numbers that are reached from an object are gathered: each is read once, and the numbers that it links are put after the others.
use Rattle.std.proofs.Common.{◌≡◌, ◌≢◌, ℕ, ◌<◌, ◌≤◌, ◌||◌, nat_eq, Bool, true, false, List, [], ◌∷◌, ◌++◌, Some, ◌⊎◌, inl, inr, arith, suc, refl, sym}
use Rattle.std.proofs.Common.{ap, ◌∙◌, subst, cond, if◌then◌else◌}
use Rattle.std.specs.List.{AllByRecursion, IsDistinct}
use Rattle.std.specs.Set.{is_member}
use Rattle.std.specs.FinSet as set
use Rattle.std.specs.Ordering.{nat_cmp}
use Rattle.std.specs.Cmp.{unsigned_tied, nat_eq_equiv}
use Rattle.std.specs.BTreeMap.{is_at}
use mathlib.Core.Bool.{true≢false, false≢true}
use Rattle.std.proofs.lemmas.Bool.{eq-eqb, eqb-true, or_cases, or_parts}
use Rattle.std.proofs.lemmas.Bool.Decides.{eqb_tells}
use Rattle.std.proofs.lemmas.List.Folds.{list_any-append}
use Rattle.std.proofs.Math.Bool.{or-true, or-false}
use Rattle.histar_object.specs.declared.objects.Object.{Object}
use Rattle.histar_object.specs.Objects.{Objects, IsListOf, links_in, is_present}
use Rattle.histar_object.proofs.Placing.{object_at}
use Rattle.histar_container.specs.Tree.{Reached, here, there, IsTree}
use Rattle.histar_container.proofs.Trees.{not_back, one_link}

-- a member of two lists joined is a member of one of them
pub member_append : (xs ys : List ℕ) (q : ℕ) → is_member nat_eq (xs ++ ys) q ≡ (is_member nat_eq xs q || is_member nat_eq ys q)
member_append xs ys q = list_any-append (nat_eq q) xs ys

pub member_first : (xs ys : List ℕ) (q : ℕ) → is_member nat_eq xs q ≡ true → is_member nat_eq (xs ++ ys) q ≡ true
member_first xs ys q k = member_append xs ys q ∙ ap (λ b. b || is_member nat_eq ys q) k

pub member_second : (xs ys : List ℕ) (q : ℕ) → is_member nat_eq ys q ≡ true → is_member nat_eq (xs ++ ys) q ≡ true
member_second xs ys q k = member_append xs ys q ∙ ap (λ b. is_member nat_eq xs q || b) k ∙ or-true (is_member nat_eq xs q)

pub member_either : (xs ys : List ℕ) (q : ℕ) → is_member nat_eq (xs ++ ys) q ≡ true → (is_member nat_eq xs q ≡ true) ⊎ (is_member nat_eq ys q ≡ true)
member_either xs ys q k = or_cases _ _ (sym (member_append xs ys q) ∙ k)

-- a list of one number has only this member
pub member_one : (x q : ℕ) → is_member nat_eq (x ∷ []) q ≡ true → q ≡ x
member_one x q k = eqb-true q x (sym (or-false (nat_eq q x)) ∙ k)

pub member_itself : (x : ℕ) → is_member nat_eq (x ∷ []) x ≡ true
member_itself x = or-false (nat_eq x x) ∙ eq-eqb x x refl

-- a number that is in no place of a list differs from each of its numbers
differs : (x : ℕ) (ys : List ℕ) → is_member nat_eq ys x ≡ false → AllByRecursion (λ y. nat_eq x y ≡ false) ys
differs x [] k = tt
differs x (y ∷ ys) k = let n = or_parts (nat_eq x y) (is_member nat_eq ys x) k in (n.0, differs x ys n.1)

all_append : (P : ℕ → Type 0) (xs ys : List ℕ) → AllByRecursion P xs → AllByRecursion P ys → AllByRecursion P (xs ++ ys)
all_append P [] ys a b = b
all_append P (x ∷ xs) ys a b = (a.0, all_append P xs ys a.1 b)

-- a property of all numbers of a list is one of the number in the middle
at_middle : (P : ℕ → Type 0) (xs : List ℕ) (x : ℕ) (ys : List ℕ) → AllByRecursion P (xs ++ x ∷ ys) → P x
at_middle P [] x ys a = a.0
at_middle P (y ∷ xs) x ys a = at_middle P xs x ys a.1

-- lists of distinct numbers that share none are distinct when joined
distinct_append : (xs ys : List ℕ) → IsDistinct nat_eq xs → IsDistinct nat_eq ys
    → ((q : ℕ) → is_member nat_eq xs q ≡ true → is_member nat_eq ys q ≡ false) → IsDistinct nat_eq (xs ++ ys)
unfolding IsDistinct
distinct_append [] ys a b apart = b
distinct_append (x ∷ xs) ys a b apart = (
  all_append _ xs ys a.0 (differs x ys (apart x (ap (λ t. t || is_member nat_eq xs x) (eq-eqb x x refl)))),
  distinct_append xs ys a.1 b (λ q k. apart q (ap (λ t. nat_eq q x || t) k ∙ or-true (nat_eq q x))),
)

-- a number of a distinct list is not among those before it
pub distinct_before : (xs : List ℕ) (x : ℕ) (ys : List ℕ) → IsDistinct nat_eq (xs ++ x ∷ ys) → is_member nat_eq xs x ≡ false
unfolding IsDistinct
distinct_before [] x ys a = refl
distinct_before (y ∷ xs) x ys a =
    ap (λ t. t || is_member nat_eq xs x) (nat_eq_equiv.symm x y ∙ at_middle (λ z. nat_eq y z ≡ false) xs x ys a.0) ∙ distinct_before xs x ys a.1

-- where no fewer tests pass, no more are counted
fewer : (b c : Bool) (m n : ℕ) → (b ≡ true → c ≡ true) → m ≤ n → (if c then m else suc m) ≤ (if b then n else suc n)
fewer true true m n imp le = le
fewer true false m n imp le = absurd (false≢true (imp refl))
fewer false true m n imp le = omega arith
fewer false false m n imp le = omega arith

strictly : (b c : Bool) (m n : ℕ) → (b ≡ true → c ≡ true) → m < n → (if c then m else suc m) < (if b then n else suc n)
strictly true true m n imp lt = lt
strictly true false m n imp lt = absurd (false≢true (imp refl))
strictly false true m n imp lt = omega arith
strictly false false m n imp lt = omega arith

module _ {L : Type 0} where
  -- some numbers of a list have been read: all of the list are reached, each is there once, and so are those that the read ones link
  pub record Gathers (objects : Objects L) (o : ℕ) (read list : List ℕ) : Type 0 where
    pub first : is_member nat_eq list o ≡ true
    pub reached : (q : ℕ) → is_member nat_eq list q ≡ true → Reached objects o q
    pub closed : (p c : ℕ) → is_member nat_eq read p ≡ true → set.contains (links_in (objects p)) c ≡ true → is_member nat_eq list c ≡ true
    pub linked : (q : ℕ) → is_member nat_eq list q ≡ true → q ≢ o
        → (p : ℕ) × (is_member nat_eq read p ≡ true) × (set.contains (links_in (objects p)) q ≡ true)
    pub once : IsDistinct nat_eq list

  -- at first the list has the object's number alone, and none has been read
  pub gathers_first : (objects : Objects L) (o : ℕ) → Gathers objects o [] (o ∷ [])
  unfolding IsDistinct
  gathers_first objects o = record {
    first = member_itself o;
    reached = λ q k. subst (Reached objects o) (sym (member_one o q k)) here;
    closed = λ p c k l. absurd (false≢true k);
    linked = λ q k other. absurd (other (member_one o q k));
    once = (tt, tt);
  }

  -- in the end all reached numbers are in the list
  pub gathers_all : (objects : Objects L) (o : ℕ) (list : List ℕ) → Gathers objects o list list → (q : ℕ)
      → Reached objects o q → is_member nat_eq list q ≡ true
  gathers_all objects o list g q here = g.first
  gathers_all objects o list g q (there p c r k) = g.closed p q (gathers_all objects o list g p r) k

  -- the next number is read: the numbers that it links are put after the others
  module _ (objects : Objects L) (root next : ℕ) (tree : IsTree objects root next) (o : ℕ) (read : List ℕ) (x : ℕ)
      (ahead list : List ℕ) (split : list ≡ read ++ x ∷ ahead) (g : Gathers objects o read list)
      (added : List ℕ) (lists : IsListOf added (links_in (objects x))) where
    x_listed : is_member nat_eq list x ≡ true
    x_listed = ap (λ l. is_member nat_eq l x) split ∙ member_second read (x ∷ ahead) x (ap (λ t. t || is_member nat_eq ahead x) (eq-eqb x x refl))

    x_not_read : is_member nat_eq read x ≡ false
    x_not_read = distinct_before read x ahead (subst (IsDistinct nat_eq) split g.once)

    added_linked : (q : ℕ) → is_member nat_eq added q ≡ true → set.contains (links_in (objects x)) q ≡ true
    added_linked q k = sym (lists.members q) ∙ k

    -- the numbers that x links were not in the list
    new_ones : (q : ℕ) → is_member nat_eq list q ≡ true → is_member nat_eq added q ≡ false
    new_ones q k = by (is_member nat_eq added q) refl
      where
        not_linked : is_member nat_eq added q ≡ true → ⊥
        not_linked l = elim (eqb_tells q o) [
          | inl e ↦ not_back objects root next tree x o (ap (set.contains (links_in (objects x))) (sym e.1) ∙ added_linked q l) (g.reached x x_listed)
          | inr e ↦
              let p = g.linked q k e.1 in
              let same = one_link objects root next tree p.0 x q p.2 (added_linked q l) in
              true≢false (sym p.1 ∙ ap (is_member nat_eq read) same ∙ x_not_read)
        ]

        by : (b : Bool) → is_member nat_eq added q ≡ b → is_member nat_eq added q ≡ false
        by true e = absurd (not_linked e)
        by false e = e

    pub gathers_more : Gathers objects o (read ++ x ∷ []) (list ++ added)
    gathers_more = record {
      first = member_first list added o g.first;
      reached = λ q k. elim (member_either list added q k) [
        | inl e ↦ g.reached q e
        | inr e ↦ there x q (g.reached x x_listed) (added_linked q e)
      ];
      closed = λ p c k l. elim (member_either read (x ∷ []) p k) [
        | inl e ↦ member_first list added c (g.closed p c e l)
        | inr e ↦ member_second list added c (lists.members c ∙ ap (λ y. set.contains (links_in (objects y)) c) (sym (member_one x p e)) ∙ l)
      ];
      linked = λ q k other. elim (member_either list added q k) [
        | inl e ↦ let p = g.linked q e other in (p.0, member_first read (x ∷ []) p.0 p.1, p.2)
        | inr e ↦ (x, member_second read (x ∷ []) x (member_itself x), added_linked q e)
      ];
      once = distinct_append list added g.once lists.once new_ones;
    }

  -- the number of objects of a table that have not been read
  abbrev pub unread : List (ℕ × Object L) → List ℕ → ℕ
  unread [] read = 0
  unread (e ∷ es) read = if is_member nat_eq read e.0 then unread es read else suc (unread es read)

  -- reading one more leaves no more unread
  pub unread_less : (es : List (ℕ × Object L)) (read : List ℕ) (x : ℕ) → unread es (read ++ x ∷ []) ≤ unread es read
  unread_less [] read x = omega arith
  unread_less (e ∷ es) read x =
      fewer (is_member nat_eq read e.0) (is_member nat_eq (read ++ x ∷ []) e.0) _ _ (member_first read (x ∷ []) e.0)
      (unread_less es read x)

  -- and leaves fewer, where it is an object that was not read
  pub unread_fewer : (es : List (ℕ × Object L)) (read : List ℕ) (x : ℕ) → is_present (object_at es x) ≡ true
      → is_member nat_eq read x ≡ false → unread es (read ++ x ∷ []) < unread es read
  unread_fewer [] read x t k = absurd (false≢true t)
  unread_fewer (e ∷ es) read x t k = by (is_at (nat_cmp x) e.0) refl t (λ u. unread_fewer es read x u k)
    where
      at_x : x ≡ e.0 → unread (e ∷ es) (read ++ x ∷ []) < unread (e ∷ es) read
      at_x same =
          let was : is_member nat_eq read e.0 ≡ false = ap (is_member nat_eq read) (sym same) ∙ k in
          let is : is_member nat_eq (read ++ x ∷ []) e.0 ≡ true =
          ap (is_member nat_eq (read ++ x ∷ [])) (sym same) ∙ member_second read (x ∷ []) x (member_itself x) in
          let less : unread es (read ++ x ∷ []) ≤ unread es read = unread_less es read x in
          let before : unread (e ∷ es) read ≡ suc (unread es read) = ap (λ b. if b then unread es read else suc (unread es read)) was in
          let after : unread (e ∷ es) (read ++ x ∷ []) ≡ unread es (read ++ x ∷ []) =
          ap (λ b. if b then unread es (read ++ x ∷ []) else suc (unread es (read ++ x ∷ []))) is in
          omega arith

      by : (b : Bool) → is_at (nat_cmp x) e.0 ≡ b → is_present (cond b (Some e.1) (object_at es x)) ≡ true
          → (is_present (object_at es x) ≡ true → unread es (read ++ x ∷ []) < unread es read)
          → unread (e ∷ es) (read ++ x ∷ []) < unread (e ∷ es) read
      by true i u less = at_x (eqb-true x e.0 (sym (unsigned_tied x e.0) ∙ i))
      by false i u less = strictly (is_member nat_eq read e.0) (is_member nat_eq (read ++ x ∷ []) e.0) _ _ (member_first read (x ∷ []) e.0) (less u)
