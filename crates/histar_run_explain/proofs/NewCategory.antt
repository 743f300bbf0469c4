-- The labels of a state in which a thread has made the next category, by those of the state before.
use Rattle.std.proofs.Common.{◌≡◌, ◌≢◌, ℕ, ◌==◌, ◌⊎◌, inl, inr, Bool, true, false, Option, None, Some}
use Rattle.std.proofs.Common.{refl, sym, ap, ◌∙◌, if◌then◌else◌}
use Rattle.std.specs.Prelude.{option_map, unwrap_or}
use Rattle.std.proofs.lemmas.Bool.Decides.{eqb_tells}
use mathlib.Core.Bool.{true≢false}
use Rattle.histar_base.specs.Refusals.{◌orelse◌, unless}
use Rattle.histar_level.specs.declared.level.Level.{Level}
use Rattle.histar_level.specs.declared.level.Level.TheVariants.{Star, L1, L3}
use Rattle.histar_level.specs.Levels.{Levels, level_of, default_of}
use Rattle.histar_label.specs.Levels.{constant, with_level}
use Rattle.histar_label.proofs.Readers.{default_of-with_level, level_of-with_level}
use Rattle.histar_object.specs.declared.objects.Kind.{Kind}
use Rattle.histar_object.specs.declared.objects.Kind.TheVariants as kinds
use Rattle.histar_object.specs.Objects.{clearance_there, is_thread, label_there}
use Rattle.histar_object.specs.State.{Found, State}
use Rattle.histar_rules.specs.declared.raw.Denied.{Denied}
use Rattle.histar_rules.specs.declared.raw.Denied.TheVariants.{NoThread}
use Rattle.histar_rules.specs.declared.raw.RawCall.TheVariants as raw
use Rattle.histar_rules.specs.Rights.{with_category, with_star_at}
use Rattle.histar_rules.specs.Rules.{check}
use Rattle.histar_layout.proofs.Members.{equal_itself}
use Rattle.histar_explain.specs.Named.{clearance_in, label_in}
use Rattle.histar_explain.proofs.NamedTests.{ListsOnly}

-- ---- one label

-- a label with another level at a category lists this category, and what it listed
with_level_lists : (Holds : ℕ → Type 0) (L : Levels) (n : ℕ) (l : Level) → ListsOnly Holds L
    → ListsOnly (λ c. Holds c ⊎ (c ≡ n)) (with_level L n l)
with_level_lists Holds L n l lists c differs = by (eqb_tells c n)
  where
    by : (((c == n) ≡ true) × (c ≡ n)) ⊎ (((c == n) ≡ false) × (c ≢ n)) → Holds c ⊎ (c ≡ n)
    by (inl e) = inr e.1
    by (inr e) = inl (lists c (λ same. differs
        (level_of-with_level L n l c ∙ ap (λ b. if b then l else level_of L c) e.0 ∙ same ∙ sym (default_of-with_level L n l))))

-- it has this level there
level_there : (L : Levels) (n : ℕ) (l : Level) → level_of (with_level L n l) n ≡ l
level_there L n l = level_of-with_level L n l n ∙ ap (λ b. if b then l else level_of L n) (equal_itself n)

-- ---- an object that was changed

-- a label that lists what it did, and perhaps one category more
abbrev pub IsWidened : (ℕ → Type 0) → ℕ → Levels → Levels → Type 0
IsWidened Holds n old new = (ListsOnly Holds old → ListsOnly (λ c. Holds c ⊎ (c ≡ n)) new) × (default_of new ≡ default_of old)

stays_so : (Holds : ℕ → Type 0) (n : ℕ) (L : Levels) → IsWidened Holds n L L
stays_so Holds n L = (λ lists c differs. inl (lists c differs), refl)

widened_so : (Holds : ℕ → Type 0) (n : ℕ) (L : Levels) (l : Level) → IsWidened Holds n L (with_level L n l)
widened_so Holds n L l = (with_level_lists Holds L n l, default_of-with_level L n l)

module _ (Holds : ℕ → Type 0) (n : ℕ) where
  -- an object whose thread owns one category more
  changed_label : (o : Found)
      → IsWidened Holds n (unwrap_or (label_there o) (constant L1)) (unwrap_or (label_there (option_map (with_star_at n) o)) (constant L1))
  changed_label None = stays_so Holds n (constant L1)
  changed_label (Some o) = widened_so Holds n o.label Star

  changed_clearance : (o : Found)
      → IsWidened Holds n (unwrap_or (clearance_there o) (constant L1)) (unwrap_or (clearance_there (option_map (with_star_at n) o)) (constant L1))
  changed_clearance None = stays_so Holds n (constant L1)
  changed_clearance (Some o) = by o.kind
    where
      by : (k : Kind Levels)
          → IsWidened Holds n (unwrap_or (clearance_there (Some (record { label = o.label; kind = k }))) (constant L1))
          (unwrap_or (clearance_there (option_map (with_star_at n) (Some (record { label = o.label; kind = k })))) (constant L1))
      by (kinds.Segment bytes) = stays_so Holds n (constant L1)
      by (kinds.Container links) = stays_so Holds n (constant L1)
      by (kinds.Thread clearance) = widened_so Holds n clearance L3
      by (kinds.Gate clearance entry) = widened_so Holds n clearance L3

  -- if it is the one that is changed
  label_if : (b : Bool) (o : Found)
      → IsWidened Holds n (unwrap_or (label_there o) (constant L1))
      (unwrap_or (label_there (if b then option_map (with_star_at n) o else o)) (constant L1))
  label_if true o = changed_label o
  label_if false o = stays_so Holds n (unwrap_or (label_there o) (constant L1))

  clearance_if : (b : Bool) (o : Found)
      → IsWidened Holds n (unwrap_or (clearance_there o) (constant L1))
      (unwrap_or (clearance_there (if b then option_map (with_star_at n) o else o)) (constant L1))
  clearance_if true o = changed_clearance o
  clearance_if false o = stays_so Holds n (unwrap_or (clearance_there o) (constant L1))

-- ---- the state

module _ (s : State) (t : ℕ) where
  -- the new category
  abbrev n : ℕ
  n = s.next_category

  -- each label and each clearance lists what it did, and perhaps the new category
  pub label_widened : (Holds : ℕ → Type 0) (q : ℕ) → IsWidened Holds n (label_in s q) (label_in (with_category s t) q)
  label_widened Holds q = label_if Holds n (q == t) (s.objects q)

  pub clearance_widened : (Holds : ℕ → Type 0) (q : ℕ) → IsWidened Holds n (clearance_in s q) (clearance_in (with_category s t) q)
  clearance_widened Holds q = clearance_if Holds n (q == t) (s.objects q)

  -- the thread owns the category, and is cleared for it
  owned_if : (o : Found) → is_thread o ≡ true → level_of (unwrap_or (label_there (option_map (with_star_at n) o)) (constant L1)) n ≡ Star
  owned_if None thread = absurd (true≢false (sym thread))
  owned_if (Some o) thread = level_there o.label n Star

  cleared_if : (o : Found) → is_thread o ≡ true → level_of (unwrap_or (clearance_there (option_map (with_star_at n) o)) (constant L1)) n ≡ L3
  cleared_if None thread = absurd (true≢false (sym thread))
  cleared_if (Some o) thread = by o.kind thread
    where
      by : (k : Kind Levels) → is_thread (Some (record { label = o.label; kind = k })) ≡ true
          → level_of (unwrap_or (clearance_there (option_map (with_star_at n) (Some (record { label = o.label; kind = k })))) (constant L1)) n
          ≡ L3
      by (kinds.Thread clearance) thread = level_there clearance n L3
      by (kinds.Segment bytes) thread = absurd (true≢false (sym thread))
      by (kinds.Container links) thread = absurd (true≢false (sym thread))
      by (kinds.Gate clearance entry) thread = absurd (true≢false (sym thread))

  -- the thread is there
  is_a_thread : (b : Bool) (rest : Option Denied) → (unless b NoThread orelse rest) ≡ None → b ≡ true
  is_a_thread true rest passed = refl
  is_a_thread false rest passed = absurd cc

  module _ (granted : check s t raw.MakeCategory ≡ None) where
    thread : is_thread (s.objects t) ≡ true
    thread = is_a_thread (is_thread (s.objects t)) _ granted

    pub owns_new : level_of (label_in (with_category s t) t) n ≡ Star
    owns_new =
        ap (λ b. level_of (unwrap_or (label_there (if b then option_map (with_star_at n) (s.objects t) else s.objects t)) (constant L1)) n)
        (equal_itself t)
        ∙ owned_if (s.objects t) thread

    pub cleared_for_new : level_of (clearance_in (with_category s t) t) n ≡ L3
    cleared_for_new =
        ap (λ b. level_of (unwrap_or (clearance_there (if b then option_map (with_star_at n) (s.objects t) else s.objects t)) (constant L1)) n)
        (equal_itself t)
        ∙ cleared_if (s.objects t) thread
