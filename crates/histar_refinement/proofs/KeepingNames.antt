-- How a later representation keeps the names of an older one.
use Rattle.std.proofs.Common.{◌≡◌, ℕ, ◌≤◌, ◌⊎◌, inl, inr, Bool, true, false, Option, None, Some, arith, refl, sym, ap, ◌∙◌, subst, if◌then◌else◌}
use Rattle.std.specs.Prelude.{is_some}
use Rattle.histar_flat.specs.Accounts.{Accounts}
use Rattle.histar_flat.specs.FlatState.{Flat}
use Rattle.histar_object.specs.State.{State}
use Rattle.histar_container.specs.Tree.{Address, Naming, under, without_below}
use Rattle.histar_refinement.specs.Addresses.{Step, same_step}
use Rattle.histar_refinement.specs.Categories.{Categories, CategoryName, IsUsed}
use Rattle.histar_refinement.specs.Represents.{ObjectsMatch, Represents}
use Rattle.histar_refinement.specs.KeptNames.{KeepsNames, RepresentsStill}

module _ {accounts : Accounts} {s : State} {f : Flat} where
  -- names keep their numbers where no category has another one, each that is used was used before, and no address has another number
  pub keeps_categories : {t : State} {g : Flat} (old : ObjectsMatch accounts s f) (new : ObjectsMatch accounts t g)
      → new.category ≡ old.category → ((c : CategoryName) → IsUsed accounts g c → IsUsed accounts f c)
      → ((a : Address Step) (q : ℕ) → old.naming.number a ≡ Some q → is_some (new.naming.number a) ≡ true → new.naming.number a ≡ Some q)
      → KeepsNames old new
  keeps_categories old new same used numbers = record {
    categories = λ c before after. ap (λ (category : Categories). category c) same;
    fresh = λ c not after. absurd (not (used c after));
    addresses = numbers;
  }

  -- the same where addresses have the numbers that they had
  pub keeps_all : {t : State} {g : Flat} (old : ObjectsMatch accounts s f) (new : ObjectsMatch accounts t g)
      → new.naming ≡ old.naming → new.category ≡ old.category → ((c : CategoryName) → IsUsed accounts g c → IsUsed accounts f c)
      → KeepsNames old new
  keeps_all old new naming category used =
      keeps_categories old new category used (λ a q at some. ap (λ (n : Naming Step). n.number a) naming ∙ at)

  -- the same where an address, and what is below it, has no number any more
  pub keeps_above : {t : State} {g : Flat} (old : ObjectsMatch accounts s f) (new : ObjectsMatch accounts t g) (top : Address Step)
      → new.naming ≡ without_below same_step old.naming top → new.category ≡ old.category
      → ((c : CategoryName) → IsUsed accounts g c → IsUsed accounts f c) → KeepsNames old new
  keeps_above old new top naming category used =
      keeps_categories old new category used (λ a q at some.
      ap (λ (n : Naming Step). n.number a) naming
      ∙ outside (under same_step top a) (old.naming.number a) q at (ap (λ (n : Naming Step). is_some (n.number a)) (sym naming) ∙ some))
    where
      outside : (below : Bool) (number : Option ℕ) (q : ℕ) → number ≡ Some q → is_some (if below then None else number) ≡ true
          → (if below then None else number) ≡ Some q
      outside true number q at some = absurd cc
      outside false number q at some = at

  -- where nothing has changed, names keep their numbers
  pub still_represents : (old : Represents accounts s f) (t : State) → t ≡ s → RepresentsStill old t f
  still_represents old t same =
      subst (λ (x : State). RepresentsStill old x f) (sym same)
      (record { represents = old; names = keeps_all old.matched old.matched refl refl (λ c used. used) })

  -- Names are added, and each that there was keeps its number.
  pub record Grows {t : State} {g : Flat} (old : ObjectsMatch accounts s f) (new : ObjectsMatch accounts t g) : Type 0 where
    pub categories : (c : CategoryName) → IsUsed accounts f c → new.category c ≡ old.category c
    pub fresh : (c : CategoryName) → IsUsed accounts g c → IsUsed accounts f c ⊎ (s.next_category ≤ new.category c)
    pub addresses : (a : Address Step) (q : ℕ) → old.naming.number a ≡ Some q → new.naming.number a ≡ Some q

  -- names keep their numbers then
  pub grows_keeps : {t : State} {g : Flat} (old : ObjectsMatch accounts s f) (new : ObjectsMatch accounts t g) → Grows old new → KeepsNames old new
  grows_keeps old new grows = record {
    categories = λ c before after. grows.categories c before;
    fresh = λ c not after. elim (grows.fresh c after) [ inl before ↦ absurd (not before) | inr late ↦ late ];
    addresses = λ a q at some. grows.addresses a q at;
  }

-- names are added twice
pub grows_twice : {accounts : Accounts} {s t u : State} {f g h : Flat}
    (old : ObjectsMatch accounts s f) (mid : ObjectsMatch accounts t g) (new : ObjectsMatch accounts u h) → s.next_category ≤ t.next_category
    → ((c : CategoryName) → IsUsed accounts f c → IsUsed accounts g c) → Grows old mid → Grows mid new → Grows old new
grows_twice {accounts = accounts} {s = s} {f = f} old mid new low used first second = record {
  categories = λ c before. second.categories c (used c before) ∙ first.categories c before;
  fresh = λ c after. elim (second.fresh c after) as (λ _. IsUsed accounts f c ⊎ (s.next_category ≤ new.category c)) [
    | inl between ↦ elim (first.fresh c between) as (λ _. IsUsed accounts f c ⊎ (s.next_category ≤ new.category c)) [
      | inl before ↦ inl before
      | inr late ↦ let same = second.categories c between in inr (omega (arith, late, same))
    ]
    | inr late ↦ inr (omega (arith, late, low))
  ];
  addresses = λ a q at. second.addresses a q (first.addresses a q at);
}
