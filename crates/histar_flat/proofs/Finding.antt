-- What is found among entries whose keys rise, and the order of the paths of one directory.
use Rattle.std.specs.Prelude.{◌≡◌, ◌≢◌, Bool, true, false, ◌&&◌, cond, T, List, [], ◌∷◌, Some, None, refl}
use Rattle.std.proofs.Common.{ap, sym, ◌∙◌}
use Rattle.std.specs.declared.cmp.Ordering.{Ordering}
use Rattle.std.specs.declared.cmp.Ordering.TheVariants.{Less, Equal, Greater}
use Rattle.std.specs.Ordering.{nat_cmp, is_lt, is_eq, eq_by_cmp, ordering_then}
use Rattle.std.specs.Cmp.{IsTotalOrder, tied_itself}
use Rattle.std.specs.Cmp.Lexicographic.{slice_cmp, nat_list_cmp_total}
use Rattle.std.specs.FinMap.{IsAntisymmetric, find}
use Rattle.std.specs.FinMap.Entries.{below_all}
use Rattle.std.proofs.lemmas.Option.{none-some}
use Rattle.histar_flat.specs.Words.{Name, Path}
use Rattle.histar_base.specs.Paths.{path_cmp, reverse_onto}

-- the first of two tests that hold
pub first : (a b : Bool) → T (a && b) → T a
first true b p = tt
first false b p = p

-- the second of two tests that hold
pub second : (a b : Bool) → T (a && b) → T b
second true b p = p
second false b p = absurd p

-- two tests that hold
pub both : (a b : Bool) → T a → T b → T (a && b)
both true b p q = q
both false b p q = p

-- an ordering that passes the test for less is less
pub less : (o : Ordering) → T (is_lt o) → o ≡ Less
less Less p = refl
less Equal p = absurd p
less Greater p = absurd p

-- an ordering whose test for less is true is less
pub is_less : (o : Ordering) → is_lt o ≡ true → o ≡ Less
is_less Less e = refl
is_less Equal e = absurd cc
is_less Greater e = absurd cc

-- an ordering that passes the test for equal is equal
pub equal : (o : Ordering) → is_eq o ≡ true → o ≡ Equal
equal Less e = absurd cc
equal Equal e = refl
equal Greater e = absurd cc

-- different keys do not tie
untied : {K : Type 0} {R : K → K → Ordering} → IsAntisymmetric R → (x y : K) → x ≢ y → eq_by_cmp R x y ≡ false
untied {R = R} exact x y other = by (eq_by_cmp R x y) refl
  where
    by : (b : Bool) → eq_by_cmp R x y ≡ b → eq_by_cmp R x y ≡ false
    by true e = absurd (other (exact x y (equal (R x y) e)))
    by false e = e

module _ {K X : Type 0} {R : K → K → Ordering} (total : IsTotalOrder R) (exact : IsAntisymmetric R) where
  -- the first entry is found
  pub find_first : (k : K) (v : X) (es : List (K × X)) → find R k ((k, v) ∷ es) ≡ Some v
  find_first k v es = ap (λ o. cond (is_eq o) (Some v) (find R k es)) (tied_itself total k)

  -- another key is found after the first entry
  pub find_behind : (q k : K) (v : X) (es : List (K × X)) → q ≢ k → find R q ((k, v) ∷ es) ≡ find R q es
  find_behind q k v es other = ap (λ b. cond b (Some v) (find R q es)) (untied exact q k other)

  -- a key below all others is not found among them
  pub find_below : (q : K) (es : List (K × X)) → T (below_all R q es) → find R q es ≡ None
  find_below q [] h = refl
  find_below q (e ∷ es) h =
      ap (λ o. cond (is_eq o) (Some e.1) (find R q es)) (less (R q e.0) (first _ (below_all R q es) h))
      ∙ find_below q es (second (is_lt (R q e.0)) _ h)

  -- what is found after the first entry is found
  pub find_later : (k : K) (v : X) (es : List (K × X)) (q : K) (x : X) → T (below_all R k es) → find R q es ≡ Some x → find R q ((k, v) ∷ es) ≡ Some x
  find_later k v es q x below is = find_behind q k v es (λ same. none-some x (sym (ap (λ p. find R p es) same ∙ find_below k es below) ∙ is)) ∙ is

-- lists with a common start are ordered as their ends
pub ends_decide : {A : Type 0} (R : A → A → Ordering) → IsTotalOrder R → (d xs ys : List A)
    → slice_cmp R (reverse_onto xs d) (reverse_onto ys d) ≡ slice_cmp R xs ys
ends_decide R total [] xs ys = refl
ends_decide R total (n ∷ d) xs ys = ends_decide R total d (n ∷ xs) (n ∷ ys) ∙ ap (λ o. ordering_then o (slice_cmp R xs ys)) (tied_itself total n)

-- if the rest ties, the first things decide
one_by_one : (o : Ordering) → ordering_then o Equal ≡ o
one_by_one Less = refl
one_by_one Equal = refl
one_by_one Greater = refl

-- the paths of one directory are ordered as their names
pub names_decide : (d : Path) (n m : Name) → path_cmp (n ∷ d) (m ∷ d) ≡ slice_cmp nat_cmp n m
names_decide d n m = ends_decide (slice_cmp nat_cmp) nat_list_cmp_total d (n ∷ []) (m ∷ []) ∙ one_by_one (slice_cmp nat_cmp n m)
