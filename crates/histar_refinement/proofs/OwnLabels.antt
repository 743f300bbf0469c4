-- What its thread's own label shows of a process: whose it is, and what it owns as its user.
use Rattle.std.proofs.Common.{◌≡◌, ℕ, zero, suc, ◌⊎◌, inl, inr, true, List, [], ◌∷◌, length, Option, None, Some, arith, refl, sym, ap, ◌∙◌}
use Rattle.std.specs.Prelude.{is_some, map, slice_get}
use Rattle.std.proofs.lemmas.Option.{none-some, same_Some}
use mathlib.Core.Bool.{true≢false}
use Rattle.histar_flat.specs.declared.calls.User.{User}
use Rattle.histar_flat.specs.Words.{Name, ProcName}
use Rattle.histar_flat.specs.Accounts.{Accounts, user_number}
use Rattle.histar_flat.specs.Classes.{Process, is_free, nobody}
use Rattle.histar_flat.specs.FlatState.{Flat}
use Rattle.histar_object.specs.State.{State}
use Rattle.histar_layout.specs.Categories.{owners_of, user_of}
use Rattle.histar_layout.proofs.Declared.{user_range}
use Rattle.histar_layout.proofs.UserOf.{user_is}
use Rattle.histar_programs.specs.Kin.{user_name, categories_of, owned_by, kin_of}
use Rattle.histar_programs.proofs.Scanning.{name_none}
use Rattle.histar_refinement.specs.Categories.{CategoryName, Categories, boot_category}
use Rattle.histar_refinement.specs.Guards.{rights_label}
use Rattle.histar_refinement.specs.Labels.{owned_as, thread_rights}
use Rattle.histar_refinement.specs.Represents.{ObjectsMatch}
use Rattle.histar_refinement.specs.Processes.{or_zero}
use Rattle.histar_refinement.proofs.CallLabels.{user_of_thread}
use Rattle.histar_refinement.proofs.GateLabels.{owned_is}
use Rattle.histar_refinement.proofs.JobLabels.{none_if_free}
use Rattle.histar_refinement.proofs.LeftObjects.{numbered_user}

-- the user at a place has the name of the next number
name_at : (users : List User) (k : ℕ) (u : User) → slice_get users k ≡ Some u → user_name users (suc k) ≡ u.name
name_at [] k u e = absurd (none-some u e)
name_at (v ∷ users) zero u e = ap (λ (x : User). x.name) (same_Some v u e)
name_at (v ∷ users) (suc k) u e = name_at users k u e

-- A declared user, or nobody, has the name that its number determines.
pub name_of_number : (accounts : Accounts) (name : Name)
    → (name ≡ nobody) ⊎ (is_some (user_number accounts name) ≡ true)
    → user_name accounts.users (or_zero (user_number accounts name)) ≡ name
name_of_number accounts name known = by (user_number accounts name) refl known
  where
    by : (o : Option ℕ) → user_number accounts name ≡ o → (name ≡ nobody) ⊎ (is_some o ≡ true) → user_name accounts.users (or_zero o) ≡ name
    by None is (inl no_one) = name_none accounts.users ∙ sym no_one
    by None is (inr declared) = absurd (true≢false (sym declared))
    by (Some i) is known =
        let user = numbered_user accounts name i is in
        let next : i ≡ suc user.0 = omega (arith, user.2) in
        ap (user_name accounts.users) next ∙ name_at accounts.users user.0 user.1 user.3 ∙ user.5

module _ (accounts : Accounts) (category : Categories) (as_made : (c : CategoryName) (q : ℕ) → boot_category accounts c ≡ Some q → category c ≡ q)
    (p : Process) (named : user_name accounts.users (or_zero (user_number accounts p.user)) ≡ p.user) where
  owned_by_number : (o : Option ℕ) → user_number accounts p.user ≡ o
      → map category (owned_as accounts p o) ≡ owned_by accounts (or_zero o) (is_free p)
  owned_by_number None is = refl
  owned_by_number (Some zero) is = absurd (omega (arith, (user_range accounts p.user 0 is).0))
  owned_by_number (Some (suc i)) is =
      owned_is accounts category as_made p.user (suc i) (user_range accounts p.user (suc i) is).1 (is_free p)
      ∙ ap (λ (name : Name). categories_of (owners_of accounts (suc i) name) (is_free p))
      (sym named ∙ ap (λ (o : Option ℕ). user_name accounts.users (or_zero o)) is)

  -- What a process owns as its user has the numbers of what a process of this user owns.
  pub owned_numbers : map category (owned_as accounts p (user_number accounts p.user))
      ≡ owned_by accounts (or_zero (user_number accounts p.user)) (is_free p)
  owned_numbers = owned_by_number (user_number accounts p.user) refl

module _ (accounts : Accounts) (s : State) (f : Flat) (l : ObjectsMatch accounts s f) (me : ProcName) (p : Process) where
  -- The own label of the thread of a process shows the number of its user.
  pub own_user_is : user_of (rights_label l.category (thread_rights accounts me p)) (length accounts.users) ≡ or_zero (user_number accounts p.user)
  own_user_is =
      user_is (rights_label l.category (thread_rights accounts me p)) (length accounts.users)
      (or_zero (user_number accounts p.user)) (user_of_thread accounts s f l me p)

  -- The own label of the thread shows what the process owns as that user.
  pub own_kin_is : user_name accounts.users (or_zero (user_number accounts p.user)) ≡ p.user
      → (kin_of accounts (rights_label l.category (thread_rights accounts me p))).owned
      ≡ map l.category (owned_as accounts p (user_number accounts p.user))
  own_kin_is named =
      (λ i. owned_by accounts (own_user_is i) (none_if_free l.category accounts me p i))
      ∙ sym (owned_numbers accounts l.category l.as_made p named)
