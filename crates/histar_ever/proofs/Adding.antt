-- Rights added to letters that were gathered.
use Rattle.std.proofs.Common.{◌≡◌, ℕ, ◌+◌, ◌<◌, Bool, true, false, List, Option, Some, take, length, get_or, refl, ap}
use Rattle.std.proofs.Common.{sym, ◌∙◌}
use Rattle.std.specs.Prelude.{cond, unwrap_or}
use Rattle.std.specs.declared.cmp.Ordering.{Ordering}
use Rattle.std.specs.Ordering.{eq_by_cmp}
use Rattle.std.specs.FinMap.{IsAntisymmetric}
use Rattle.std.specs.BTreeMap.{BTreeMap, get, is_at}
use Rattle.std.proofs.lemmas.List.{take_more}
use Rattle.histar_flat.proofs.Finding.{equal}
use Rattle.histar_rights.specs.declared.rights.Rights.{Rights}
use Rattle.histar_diff.specs.Tables.{no_rights}
use Rattle.histar_ever.specs.Ever.{any_rights, either}
use Rattle.histar_ever.proofs.Letters.{any_more, either_assoc, either_none}

module _ {K : Type 0} (R : K → K → Ordering) (exact : IsAntisymmetric R) where
  -- the rights at a key; none if it is not there
  abbrev at : BTreeMap K Rights → K → Rights
  at letters k = unwrap_or (get R letters k) no_rights

  module _ (key : K) (rights had sum : Rights) (old new : BTreeMap K Rights) where
    -- rights were added to those at a key
    pub rights_added : had ≡ at old key → sum ≡ either had rights
        → ((k : K) → get R new k ≡ cond (is_at (R key) k) (Some sum) (get R old k))
        → (k : K) → at new k ≡ either (at old k) (cond (eq_by_cmp R key k) rights no_rights)
    rights_added is adds updates k = ap (λ (o : Option Rights). unwrap_or o no_rights) (updates k) ∙ by (eq_by_cmp R key k) refl
      where
        by : (b : Bool) → eq_by_cmp R key k ≡ b
            → unwrap_or (cond b (Some sum) (get R old k)) no_rights ≡ either (at old k) (cond b rights no_rights)
        by true e = adds ∙ ap (λ (h : Rights). either h rights) (is ∙ ap (at old) (exact key k (equal (R key k) e)))
        by false e = sym (either_none (at old k))

module _ {A : Type 0} (ls : List A) (i : ℕ) (l : A) (within : i < length ls) (is : l ≡ get_or ls i l) where
  -- the rights of one more element were added
  pub one_added : (g : A → Rights) (old mid new : Rights) → mid ≡ either old (any_rights g (take i ls)) → new ≡ either mid (g l)
      → new ≡ either old (any_rights g (take (i + 1) ls))
  one_added g old mid new earlier later =
      later ∙ ap (λ (r : Rights). either r (g l)) earlier ∙ either_assoc old (any_rights g (take i ls)) (g l)
      ∙ ap (either old)
      (ap (λ y. either (any_rights g (take i ls)) (g y)) is ∙ sym (any_more g (take i ls) (get_or ls i l))
      ∙ ap (any_rights g) (sym (take_more ls i l within)))
