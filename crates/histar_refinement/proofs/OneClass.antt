-- A part of 'at most one flat state': the label of what is of a class determines the class.
use Rattle.std.proofs.Common.{◌≡◌, ℕ, inl, inr, Bool, true, false, List, [], ◌∷◌, Some, arith, refl, sym, ap, subst, ◌∙◌}
use Rattle.std.specs.Prelude.{map}
use Rattle.std.proofs.lemmas.Option.{same_Some}
use Rattle.std.proofs.lemmas.Bool.{or_cases}
use mathlib.Core.Bool.{true≢false}
use Rattle.histar_flat.specs.Words.{Name, ProcName}
use Rattle.histar_flat.specs.Accounts.{Accounts, user_number, group_number}
use Rattle.histar_flat.specs.Classes.{Class}
use Rattle.histar_flat.specs.Classes.Class.{Private, Readable, Open, Scratch, Grouped}
use Rattle.histar_level.specs.Level.{rank}
use Rattle.histar_level.specs.Levels.{Levels, level_of}
use Rattle.histar_level.specs.declared.level.Level.TheVariants.{L0, L1, L3}
use Rattle.histar_refinement.specs.Categories.{CategoryName, Categories, AreDifferent, same_category, among}
use Rattle.histar_refinement.specs.Categories.CategoryName.{OfBoot, ReadsUser, WritesUser, ReadsGroup, WritesGroup, ReadsProcess, WritesProcess}
use Rattle.histar_refinement.specs.Categories.CategoryName.{OfJob}
use Rattle.histar_refinement.specs.Guards.{Guard, guard_label}
use Rattle.histar_refinement.specs.Labels.{class_guard, private_guard, readable_guard, scratch_guard, group_guard, open_guard}
use Rattle.histar_refinement.specs.Represents.{IsInOrder}
use Rattle.histar_refinement.proofs.AmongNames.{at_head, revealed_one}
use Rattle.histar_layout.proofs.Members.{mapped_from}
use Rattle.histar_layout.proofs.LabelLevels.{at_guarded, guarded_level}
use Rattle.histar_refinement.proofs.CategoryTests.{among_none, among_jobs, is_in_names, same_revealed}
use Rattle.histar_layout.proofs.Declared.{one_group, one_user}
use Rattle.histar_refinement.proofs.OneChain.{one_jobs}

-- ---- the sets of two guards whose labels are the same

-- no secret category is a written one
abbrev IsApart : Guard → Type 0
IsApart g = (c : CategoryName) → among g.secret c ≡ true → among g.written c ≡ false

-- a level determines whether the category is written, and then whether it is secret
revealed_written : (s t w x : Bool) → guarded_level s w ≡ guarded_level t x → w ≡ x
revealed_written s t true true e = refl
revealed_written s t false false e = refl
revealed_written true t false true e = let k : rank L3 ≡ rank L0 = ap rank e in absurd (omega (arith, k))
revealed_written false t false true e = let k : rank L1 ≡ rank L0 = ap rank e in absurd (omega (arith, k))
revealed_written s true true false e = let k : rank L0 ≡ rank L3 = ap rank e in absurd (omega (arith, k))
revealed_written s false true false e = let k : rank L0 ≡ rank L1 = ap rank e in absurd (omega (arith, k))

revealed_both : (s t w x : Bool) → (s ≡ true → w ≡ false) → (t ≡ true → x ≡ false) → guarded_level s w ≡ guarded_level t x → (s ≡ t) × (w ≡ x)
revealed_both true true w x a b e = (refl, revealed_written true true w x e)
revealed_both false false w x a b e = (refl, revealed_written false false w x e)
revealed_both true false w true a b e = absurd (true≢false (sym (revealed_written true false w true e) ∙ a refl))
revealed_both true false true false a b e = absurd (true≢false (revealed_written true false true false e))
revealed_both true false false false a b e = let k : rank L3 ≡ rank L1 = ap rank e in absurd (omega (arith, k))
revealed_both false true true x a b e = absurd (true≢false (revealed_written false true true x e ∙ b refl))
revealed_both false true false true a b e = absurd (true≢false (sym (revealed_written false true false true e)))
revealed_both false true false false a b e = let k : rank L1 ≡ rank L3 = ap rank e in absurd (omega (arith, k))

-- the same categories are secret, and the same are written
pub record AreAlike (a b : Guard) : Type 0 where
  pub secret : (c : CategoryName) → among a.secret c ≡ among b.secret c
  pub written : (c : CategoryName) → among a.written c ≡ among b.written c

module _ (category : Categories) (different : AreDifferent category) where
  guards_alike : (a b : Guard) → IsApart a → IsApart b → guard_label category a ≡ guard_label category b → AreAlike a b
  guards_alike a b apart_a apart_b e = record { secret = λ c. (both c).0; written = λ c. (both c).1 }
    where
      level_for : (g : Guard) (c : CategoryName)
          → level_of (guard_label category g) (category c) ≡ guarded_level (among g.secret c) (among g.written c)
      level_for g c =
          at_guarded (map category g.secret) (map category g.written) (category c)
          ∙ (λ i. guarded_level (is_in_names category different g.secret c i)
          (is_in_names category different g.written c i))

      both : (c : CategoryName) → (among a.secret c ≡ among b.secret c) × (among a.written c ≡ among b.written c)
      both c = revealed_both (among a.secret c) (among b.secret c) (among a.written c) (among b.written c) (apart_a c) (apart_b c)
          (sym (level_for a c) ∙ ap (λ (l : Levels). level_of l (category c)) e ∙ level_for b c)

-- ---- the guards of classes

-- the guard of a class, with the number of its user or group
data View (accounts : Accounts) (c : Class) (g : Guard) : Type 0 where
  ViewPrivate : (name : Name) (i : ℕ) → user_number accounts name ≡ Some i → c ≡ Private name → g ≡ private_guard i → View accounts c g
  ViewReadable : (name : Name) (i : ℕ) → user_number accounts name ≡ Some i → c ≡ Readable name → g ≡ readable_guard i → View accounts c g
  ViewOpen : c ≡ Open → g ≡ open_guard → View accounts c g
  ViewScratch : (name : Name) (jobs : List ProcName) (i : ℕ) → user_number accounts name ≡ Some i
      → c ≡ Scratch name jobs → g ≡ scratch_guard jobs i → View accounts c g
  ViewGroup : (name : Name) (k : ℕ) → group_number accounts name ≡ Some k → c ≡ Grouped name → g ≡ group_guard k → View accounts c g

view : (accounts : Accounts) (c : Class) (g : Guard) → class_guard accounts c ≡ Some g → View accounts c g
view accounts (Private name) g e = let at = mapped_from private_guard (user_number accounts name) g e in ViewPrivate name at.0 at.1 refl (sym at.2)
view accounts (Readable name) g e = let at = mapped_from readable_guard (user_number accounts name) g e in ViewReadable name at.0 at.1 refl (sym at.2)
view accounts Open g e = ViewOpen refl (sym (same_Some open_guard g e))
view accounts (Scratch name jobs) g e =
    let at = mapped_from (scratch_guard jobs) (user_number accounts name) g e in ViewScratch name jobs at.0 at.1 refl
    (sym at.2)
view accounts (Grouped name) g e = let at = mapped_from group_guard (group_number accounts name) g e in ViewGroup name at.0 at.1 refl (sym at.2)

-- what is secret is not written
class_apart : (accounts : Accounts) (c : Class) (g : Guard) → View accounts c g → IsApart g
class_apart accounts c g (ViewPrivate name i numbered is like) =
    subst IsApart (sym like) (λ d e. ap (among (WritesUser i ∷ [])) (revealed_one (ReadsUser i) d e))
class_apart accounts c g (ViewReadable name i numbered is like) = subst IsApart (sym like) (λ d e. absurd (true≢false (sym e)))
class_apart accounts c g (ViewOpen is like) = subst IsApart (sym like) (λ d e. refl)
class_apart accounts c g (ViewScratch name jobs i numbered is like) = subst IsApart (sym like) (λ d e. refl)
class_apart accounts c g (ViewGroup name k numbered is like) =
    subst IsApart (sym like) (λ d e. ap (among (WritesGroup k ∷ [])) (revealed_one (ReadsGroup k) d e))

-- the number in a name
number_of : CategoryName → ℕ
number_of OfBoot = 0
number_of (ReadsUser i) = i
number_of (WritesUser i) = i
number_of (ReadsGroup k) = k
number_of (WritesGroup k) = k
number_of (ReadsProcess p) = 0
number_of (WritesProcess p) = 0
number_of (OfJob job) = 0

clash : {x y : Bool} → x ≡ y → x ≡ true → y ≡ false → ⊥
clash same is not = true≢false (sym is ∙ same ∙ not)

-- guards that equal others
sets : {a b A B : Guard} → a ≡ A → b ≡ B → AreAlike a b → AreAlike A B
sets like at alike = record {
  secret = λ c. ap (λ (g : Guard). among g.secret c) (sym like) ∙ alike.secret c ∙ ap (λ (g : Guard). among g.secret c) at;
  written = λ c. ap (λ (g : Guard). among g.written c) (sym like) ∙ alike.written c ∙ ap (λ (g : Guard). among g.written c) at;
}

-- the category by which a user reads is determined among jobs too
user_read : (jobs : List ProcName) (i j : ℕ) → among (ReadsUser j ∷ map OfJob jobs) (ReadsUser i) ≡ true → i ≡ j
unfolding number_of
user_read jobs i j e = elim (or_cases (same_category (ReadsUser i) (ReadsUser j)) (among (map OfJob jobs) (ReadsUser i)) e) [
  | inl k ↦ ap number_of (same_revealed (ReadsUser i) (ReadsUser j) k)
  | inr k ↦ absurd (true≢false (sym k ∙ among_none OfJob (ReadsUser i) (λ job. refl) jobs))
]

module _ (accounts : Accounts) (category : Categories) (different : AreDifferent category) where
  -- the guards of two classes whose sets are the same are those of one class
  one_view : (c e : Class) (a b : Guard) → View accounts c a → View accounts e b → AreAlike a b → IsInOrder category c → IsInOrder category e → c ≡ e
  unfolding number_of
  one_view c e a b (ViewPrivate n i x is like) (ViewPrivate m j y it at) alike order_c order_e =
      let number : i ≡ j =
      ap number_of (revealed_one (ReadsUser j) (ReadsUser i)
      (sym ((sets like at alike).secret (ReadsUser i)) ∙ at_head (ReadsUser i) [])) in
      is ∙ ap Private (one_user accounts n m j (x ∙ ap Some number) y) ∙ sym it
  one_view c e a b (ViewPrivate n i x is like) (ViewReadable m j y it at) alike order_c order_e =
      absurd (clash ((sets like at alike).secret (ReadsUser i)) (at_head (ReadsUser i) []) refl)
  one_view c e a b (ViewPrivate n i x is like) (ViewOpen it at) alike order_c order_e =
      absurd (clash ((sets like at alike).secret (ReadsUser i)) (at_head (ReadsUser i) []) refl)
  one_view c e a b (ViewPrivate n i x is like) (ViewScratch m others j y it at) alike order_c order_e =
      absurd (clash ((sets like at alike).written (WritesUser i)) (at_head (WritesUser i) []) refl)
  one_view c e a b (ViewPrivate n i x is like) (ViewGroup m j y it at) alike order_c order_e =
      absurd (clash ((sets like at alike).secret (ReadsUser i)) (at_head (ReadsUser i) []) refl)
  one_view c e a b (ViewReadable n i x is like) (ViewPrivate m j y it at) alike order_c order_e =
      absurd (clash (sym ((sets like at alike).secret (ReadsUser j))) (at_head (ReadsUser j) []) refl)
  one_view c e a b (ViewReadable n i x is like) (ViewReadable m j y it at) alike order_c order_e =
      let number : i ≡ j =
      ap number_of (revealed_one (WritesUser j) (WritesUser i)
      (sym ((sets like at alike).written (WritesUser i)) ∙ at_head (WritesUser i) [])) in
      is ∙ ap Readable (one_user accounts n m j (x ∙ ap Some number) y) ∙ sym it
  one_view c e a b (ViewReadable n i x is like) (ViewOpen it at) alike order_c order_e =
      absurd (clash ((sets like at alike).written (WritesUser i)) (at_head (WritesUser i) []) refl)
  one_view c e a b (ViewReadable n i x is like) (ViewScratch m others j y it at) alike order_c order_e =
      absurd (clash ((sets like at alike).written (WritesUser i)) (at_head (WritesUser i) []) refl)
  one_view c e a b (ViewReadable n i x is like) (ViewGroup m j y it at) alike order_c order_e =
      absurd (clash ((sets like at alike).written (WritesUser i)) (at_head (WritesUser i) []) refl)
  one_view c e a b (ViewOpen is like) (ViewPrivate m j y it at) alike order_c order_e =
      absurd (clash (sym ((sets like at alike).secret (ReadsUser j))) (at_head (ReadsUser j) []) refl)
  one_view c e a b (ViewOpen is like) (ViewReadable m j y it at) alike order_c order_e =
      absurd (clash (sym ((sets like at alike).written (WritesUser j))) (at_head (WritesUser j) []) refl)
  one_view c e a b (ViewOpen is like) (ViewOpen it at) alike order_c order_e = is ∙ sym it
  one_view c e a b (ViewOpen is like) (ViewScratch m others j y it at) alike order_c order_e =
      absurd (clash (sym ((sets like at alike).secret (ReadsUser j))) (at_head (ReadsUser j) (map OfJob others)) refl)
  one_view c e a b (ViewOpen is like) (ViewGroup m j y it at) alike order_c order_e =
      absurd (clash (sym ((sets like at alike).secret (ReadsGroup j))) (at_head (ReadsGroup j) []) refl)
  one_view c e a b (ViewScratch n jobs i x is like) (ViewPrivate m j y it at) alike order_c order_e =
      absurd (clash (sym ((sets like at alike).written (WritesUser j))) (at_head (WritesUser j) []) refl)
  one_view c e a b (ViewScratch n jobs i x is like) (ViewReadable m j y it at) alike order_c order_e =
      absurd (clash (sym ((sets like at alike).written (WritesUser j))) (at_head (WritesUser j) []) refl)
  one_view c e a b (ViewScratch n jobs i x is like) (ViewOpen it at) alike order_c order_e =
      absurd (clash ((sets like at alike).secret (ReadsUser i)) (at_head (ReadsUser i) (map OfJob jobs)) refl)
  one_view c e a b (ViewScratch n jobs i x is like) (ViewScratch m others j y it at) alike order_c order_e =
      let same = sets like at alike in
      let number : i ≡ j = user_read others i j (sym (same.secret (ReadsUser i)) ∙ at_head (ReadsUser i) (map OfJob jobs)) in
      let name : n ≡ m = one_user accounts n m j (x ∙ ap Some number) y in
      let list : jobs ≡ others =
      one_jobs category different jobs others (subst (IsInOrder category) is order_c)
      (subst (IsInOrder category) it order_e)
      (λ job. sym (among_jobs jobs job) ∙ same.secret (OfJob job) ∙ among_jobs others job) in
      is ∙ (λ k. Scratch (name k) (list k)) ∙ sym it
  one_view c e a b (ViewScratch n jobs i x is like) (ViewGroup m j y it at) alike order_c order_e =
      absurd (clash ((sets like at alike).secret (ReadsUser i)) (at_head (ReadsUser i) (map OfJob jobs)) refl)
  one_view c e a b (ViewGroup n i x is like) (ViewPrivate m j y it at) alike order_c order_e =
      absurd (clash (sym ((sets like at alike).secret (ReadsUser j))) (at_head (ReadsUser j) []) refl)
  one_view c e a b (ViewGroup n i x is like) (ViewReadable m j y it at) alike order_c order_e =
      absurd (clash (sym ((sets like at alike).written (WritesUser j))) (at_head (WritesUser j) []) refl)
  one_view c e a b (ViewGroup n i x is like) (ViewOpen it at) alike order_c order_e =
      absurd (clash ((sets like at alike).secret (ReadsGroup i)) (at_head (ReadsGroup i) []) refl)
  one_view c e a b (ViewGroup n i x is like) (ViewScratch m others j y it at) alike order_c order_e =
      absurd (clash (sym ((sets like at alike).secret (ReadsUser j))) (at_head (ReadsUser j) (map OfJob others)) refl)
  one_view c e a b (ViewGroup n i x is like) (ViewGroup m j y it at) alike order_c order_e =
      let number : i ≡ j =
      ap number_of (revealed_one (ReadsGroup j) (ReadsGroup i)
      (sym ((sets like at alike).secret (ReadsGroup i)) ∙ at_head (ReadsGroup i) [])) in
      is ∙ ap Grouped (one_group accounts n m j (x ∙ ap Some number) y) ∙ sym it

  -- The label of what is of a class determines the class.
  pub one_class : (c e : Class) (a b : Guard) → class_guard accounts c ≡ Some a → class_guard accounts e ≡ Some b
      → guard_label category a ≡ guard_label category b → IsInOrder category c → IsInOrder category e → c ≡ e
  one_class c e a b of_c of_e labels order_c order_e =
      let left = view accounts c a of_c in
      let right = view accounts e b of_e in
      one_view c e a b left right
      (guards_alike category different a b (class_apart accounts c a left) (class_apart accounts e b right) labels)
      order_c order_e
