-- Objects after a change at one number.
use Rattle.std.proofs.Common.{◌≡◌, ◌≢◌, ℕ, ◌==◌, None, Some, inl, inr, refl, sym, ap, ◌∙◌, if◌then◌else◌}
use Rattle.std.specs.Prelude.{option_map}
use Rattle.std.proofs.lemmas.Bool.Decides.{eqb_tells}
use Rattle.histar_object.specs.declared.objects.Object.{Object}
use Rattle.histar_object.specs.Objects.{Objects, put, changed_at}

module _ {L : Type 0} (objects : Objects L) (n : ℕ) where
  -- at the number itself by the first fact, and elsewhere by the second
  pub at_each : {A : Type 0} (q : ℕ) (x y z : A) → (q ≡ n → x ≡ z) → (q ≢ n → y ≡ z) → (if q == n then x else y) ≡ z
  at_each q x y z same other = elim (eqb_tells q n) [
    | inl h ↦ ap (λ b. if b then x else y) h.0 ∙ same h.1
    | inr h ↦ ap (λ b. if b then x else y) h.0 ∙ other h.1
  ]

  -- an object that is put back changes nothing
  pub put_back : (o : Object L) → Some o ≡ objects n → put objects n o ≡ objects
  put_back o here i q = at_each q (Some o) (objects q) (objects q) (λ e. here ∙ ap objects (sym e)) (λ e. refl) i

  -- putting the changed object changes the object that is there
  pub put_changed : (f : Object L → Object L) (o : Object L) → Some o ≡ objects n → put objects n (f o) ≡ changed_at objects n f
  put_changed f o here i q = (elim (eqb_tells q n) as (λ _. put objects n (f o) q ≡ changed_at objects n f q) [
    | inl h ↦
        ap (λ b. if b then Some (f o) else objects q) h.0 ∙ ap (option_map f) (here ∙ ap objects (sym h.1))
        ∙ sym (ap (λ b. if b then option_map f (objects q) else objects q) h.0)
    | inr h ↦ ap (λ b. if b then Some (f o) else objects q) h.0 ∙ sym (ap (λ b. if b then option_map f (objects q) else objects q) h.0)
  ]) i

  -- where no object is, none is after a change
  pub none_changed : (f : Object L → Object L) (q : ℕ) → objects q ≡ None → changed_at objects n f q ≡ None
  none_changed f q none = at_each q (option_map f (objects q)) (objects q) None (λ e. ap (option_map f) none) (λ e. none)
