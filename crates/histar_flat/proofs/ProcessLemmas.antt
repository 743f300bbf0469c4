-- A process's name is read number by number.
use Rattle.std.proofs.Common.{◌≡◌, ℕ, zero, suc, ◌-◌, ◌<◌, List, ◌∷◌, Option, Some, None, refl, sym, ap, ◌∙◌, arith}
use Rattle.histar_flat.specs.Words.{ProcName, dot, split_at_first, number_of, is_child_number, process_from}

-- the process that a number, if it is read, and what follows it lead to
abbrev pub next_from : ℕ → ProcName → Option ℕ → Option (List ℕ) → Option ProcName
next_from most above number after = elim number [ None ↦ None | Some n ↦ process_from most (n ∷ above) after ]

-- a process's name is read from its first number on
pub from_first : (most : ℕ) (above : ProcName) (bs : List ℕ)
    → process_from (suc most) above (Some bs)
    ≡ next_from most above (number_of is_child_number (split_at_first dot bs).0) (split_at_first dot bs).1
unfolding process_from
from_first most above bs = refl

-- a word that is no child's number leads to no process
pub no_number : (most : ℕ) (above : ProcName) (bs : List ℕ) → number_of is_child_number (split_at_first dot bs).0 ≡ None
    → process_from most above (Some bs) ≡ None
unfolding process_from
no_number zero above bs none = refl
no_number (suc most) above bs none = from_first most above bs ∙ ap (λ number. next_from most above number (split_at_first dot bs).1) none

-- a number leads to a child, and the name is read on from there
pub next_number : (most : ℕ) (above : ProcName) (bs : List ℕ) (n : ℕ) → 0 < most
    → number_of is_child_number (split_at_first dot bs).0 ≡ Some n
    → process_from most above (Some bs) ≡ process_from (most - 1) (n ∷ above) (split_at_first dot bs).1
next_number zero above bs n some is = absurd (omega arith)
next_number (suc most) above bs n some is =
    let left : suc most - 1 ≡ most = omega arith in
    from_first most above bs
    ∙ ap (λ number. next_from most above number (split_at_first dot bs).1) is
    ∙ ap (λ k. process_from k (n ∷ above) (split_at_first dot bs).1) (sym left)

-- a name that ends leads to the process reached
pub no_more : (most : ℕ) (above : ProcName) → process_from most above None ≡ Some above
unfolding process_from
no_more zero above = refl
no_more (suc most) above = refl

-- a name with too many numbers leads to no process
pub too_many : (above : ProcName) (bs : List ℕ) → process_from 0 above (Some bs) ≡ None
unfolding process_from
too_many above bs = refl
