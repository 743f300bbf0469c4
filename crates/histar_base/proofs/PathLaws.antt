-- The order of paths is total, and only equal paths tie.
use Rattle.std.specs.Prelude.{◌≡◌, ℕ, List, [], ◌∷◌, Some, refl}
use Rattle.std.proofs.Common.{sym, ◌∙◌, ap}
use Rattle.std.specs.declared.cmp.Ordering.{Ordering}
use Rattle.std.specs.Ordering.{eq_by_cmp, nat_cmp}
use Rattle.std.specs.Bool.{one_answer}
use Rattle.std.specs.Cmp.{Equal-is, IsPartialOrder, IsTotalOrder, nat_cmp_total, po, tied_itself}
use Rattle.std.specs.Cmp.Lexicographic.{bytes_decides, lists_total, pointwise_decides, slice_cmp}
use Rattle.std.specs.FinMap.{IsAntisymmetric, nat_cmp-IsAntisymmetric, slice_cmp-IsAntisymmetric}
use Rattle.histar_base.specs.Paths.{from_root, path_cmp, reverse_onto, same_path}

-- an order of the images under a function is an order
by_image : {A B : Type 0} (f : A → B) (R : B → B → Ordering) → IsTotalOrder R → IsTotalOrder (λ x y. R (f x) (f y))
by_image f R o = record {
  antisymm = λ x y. o.antisymm (f x) (f y);
  trans = λ x y z. o.trans (f x) (f y) (f z);
  congr = λ x y z. o.congr (f x) (f y) (f z);
}

-- the order of paths is total
pub path_cmp_total : IsTotalOrder path_cmp
path_cmp_total = by_image from_root (slice_cmp (slice_cmp nat_cmp)) (lists_total (lists_total nat_cmp_total))

-- a list reversed onto another and back is as it was
reversed-onto : {A : Type 0} (ys xs : List A) → reverse_onto [] (reverse_onto ys xs) ≡ reverse_onto xs ys
reversed-onto ys [] = refl
reversed-onto ys (x ∷ xs) = reversed-onto (x ∷ ys) xs

-- a list reversed twice is as it was
pub from_root_twice : {A : Type 0} (xs : List A) → from_root (from_root xs) ≡ xs
from_root_twice xs = reversed-onto [] xs

-- two paths tie only where they are equal
pub path_cmp_exact : IsAntisymmetric path_cmp
path_cmp_exact p q e =
    sym (from_root_twice p)
    ∙ ap from_root (slice_cmp-IsAntisymmetric (slice_cmp-IsAntisymmetric nat_cmp-IsAntisymmetric) (from_root p) (from_root q) e)
    ∙ from_root_twice q

-- two paths tie where they are the same
pub path_cmp_ties : (p q : List (List ℕ)) → same_path p q ≡ eq_by_cmp path_cmp p q
path_cmp_ties p q =
    let same = pointwise_decides bytes_decides p q in
    one_answer (same_path p q) (eq_by_cmp path_cmp p q)
    (λ e. ap (path_cmp p) (sym (same.0 e)) ∙ tied_itself path_cmp_total p, λ e. same.1 (path_cmp_exact p q e)) (Equal-is (path_cmp p q))

-- the order of paths is a partial order up to their equality
pub path_cmp_po : IsPartialOrder same_path (λ p q. Some (path_cmp p q))
path_cmp_po = po path_cmp_total path_cmp_ties
