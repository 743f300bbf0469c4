-- The labels of a process's container and its internal container determine its own two categories.
use Rattle.std.proofs.Common.{◌≡◌, ◌≢◌, ℕ, ◌==◌, Bool, true, false, ◌&&◌, ◌||◌, List, [], ◌∷◌, ◌++◌, Some, arith, refl, sym, ap, ◌∙◌}
use Rattle.std.specs.Prelude.{map, not}
use Rattle.std.proofs.lemmas.Bool.Decides.{nat_tests}
use Rattle.std.proofs.Math.Bool.{or-false}
use mathlib.Core.Bool.{true≢false}
use Rattle.histar_flat.specs.Words.{ProcName}
use Rattle.histar_flat.specs.Classes.{Process}
use Rattle.histar_level.specs.declared.level.Level.{Level}
use Rattle.histar_level.specs.declared.level.Level.TheVariants.{L0, L1, L3}
use Rattle.histar_level.specs.Levels.{Levels, level_of, default_of}
use Rattle.histar_label.proofs.Readers.{default_of-constant}
use Rattle.histar_label.specs.Levels.{constant}
use Rattle.histar_layout.specs.Labelling.{each_at, guarded_by}
use Rattle.histar_programs.specs.Caller.{is_zero, write_category_in, read_category_in}
use Rattle.histar_layout.specs.Jobs.{is_three}
use Rattle.histar_refinement.specs.Categories.{Categories, AreDifferent}
use Rattle.histar_refinement.specs.Categories.CategoryName.{ReadsProcess, WritesProcess, OfJob}
use Rattle.histar_refinement.specs.Guards.{guard_label}
use Rattle.histar_refinement.specs.Labels.{process_guard, inside_guard}
use Rattle.histar_layout.proofs.Members.{is_in, first_of, second_of}
use Rattle.histar_layout.proofs.LabelLevels.{at_guarded, guarded_level, default_kept}
use Rattle.histar_refinement.proofs.CategoryTests.{among_none, is_in_names}
use Rattle.histar_refinement.proofs.FoundCategories.{found_in_label}

pub default_guarded : (S W : List ℕ) → default_of (guarded_by S W) ≡ L1
default_guarded S W = default_kept (constant L1) (each_at L3 S ++ each_at L0 W) ∙ default_of-constant L1

-- no level of a category passes both tests, and the default passes none
apart_from_default : (S W : List ℕ) (l : Level) → l ≢ L1 → l ≢ default_of (guarded_by S W)
apart_from_default S W l other e = other (e ∙ default_guarded S W)

zero_apart : L0 ≢ L1
zero_apart e = true≢false (ap is_zero e)

three_apart : L3 ≢ L1
three_apart e = true≢false (ap is_three e)

-- a category at level 0 is written, and one at level 3 is secret and not written
zero_written : (s w : Bool) → is_zero (guarded_level s w) ≡ true → w ≡ true
zero_written s true e = refl
zero_written true false e = absurd (true≢false (sym e))
zero_written false false e = absurd (true≢false (sym e))

three_secret : (s w : Bool) → is_three (guarded_level s w) ≡ true → (s ≡ true) × (w ≡ false)
three_secret s true e = absurd (true≢false (sym e))
three_secret true false e = (refl, refl)
three_secret false false e = absurd (true≢false (sym e))

not_three : (s : Bool) → not (is_three (guarded_level s false)) ≡ true → s ≡ false
not_three true e = absurd (true≢false (sym e))
not_three false e = refl

-- a number in a list of one is that one
only_one : (w d : ℕ) → is_in (w ∷ []) d ≡ true → d ≡ w
only_one w d e = grind (arith, nat_tests, or-false (d == w), e)

one_in : (w : ℕ) → is_in (w ∷ []) w ≡ true
one_in w = grind (arith, nat_tests, or-false (w == w))

first_or : (r d : ℕ) (b : Bool) → ((d == r) || b) ≡ true → b ≡ false → d ≡ r
first_or r d true e no_more = absurd (true≢false no_more)
first_or r d false e no_more = grind (arith, nat_tests, or-false (d == r), e)

module _ (category : Categories) (different : AreDifferent category) (me : ProcName) (p : Process) where
  abbrev outer : Levels
  outer = guard_label category (process_guard me p)

  abbrev inner : Levels
  inner = guard_label category (inside_guard me p)

  abbrev jobs : List ℕ
  jobs = map category (map OfJob p.chain)

  abbrev w : ℕ
  w = category (WritesProcess me)

  abbrev r : ℕ
  r = category (ReadsProcess me)

  read_in_jobs : is_in jobs r ≡ false
  read_in_jobs = is_in_names category different (map OfJob p.chain) (ReadsProcess me) ∙ among_none OfJob (ReadsProcess me) (λ job. refl) p.chain

  read_not_written : is_in (w ∷ []) r ≡ false
  read_not_written = is_in_names category different (WritesProcess me ∷ []) (ReadsProcess me)

  -- the category by which the process writes is found
  pub write_found : write_category_in outer ≡ Some w
  write_found =
      found_in_label (λ (e : ℕ × Level). is_zero e.1) w outer L0
      (at_guarded jobs (w ∷ []) w ∙ ap (guarded_level (is_in jobs w)) (one_in w))
      (apart_from_default jobs (w ∷ []) L0 zero_apart) refl
      (λ d m at passes. only_one w d (zero_written (is_in jobs d) (is_in (w ∷ []) d) (ap is_zero (sym (at_guarded jobs (w ∷ []) d) ∙ at) ∙ passes)))

  -- the level of the container at a number that is not the process's
  outer_at : (d : ℕ) → is_in (w ∷ []) d ≡ false → level_of outer d ≡ guarded_level (is_in jobs d) false
  outer_at d other = at_guarded jobs (w ∷ []) d ∙ ap (guarded_level (is_in jobs d)) other

  -- the category by which the process keeps its secrets is found
  pub read_found : read_category_in outer inner ≡ Some r
  read_found =
      found_in_label (λ (e : ℕ × Level). is_three e.1 && not (is_three (level_of outer e.0))) r inner L3
      (at_guarded (r ∷ jobs) (w ∷ []) r ∙ (λ i. guarded_level (is_in (r ∷ jobs) r) (read_not_written i))
      ∙ ap (λ (b : Bool). guarded_level b false) here)
      (apart_from_default (r ∷ jobs) (w ∷ []) L3 three_apart)
      (ap (λ (m : Level). not (is_three m)) (outer_at r read_not_written ∙ ap (λ (b : Bool). guarded_level b false) read_in_jobs))
      only
    where
      here : is_in (r ∷ jobs) r ≡ true
      here = grind (arith, nat_tests, read_in_jobs, or-false (r == r))

      only : (d : ℕ) (m : Level) → level_of inner d ≡ m → (is_three m && not (is_three (level_of outer d))) ≡ true → d ≡ r
      only d m at passes =
          let secret =
          three_secret (is_in (r ∷ jobs) d) (is_in (w ∷ []) d) (ap is_three (sym (at_guarded (r ∷ jobs) (w ∷ []) d) ∙ at)
          ∙ first_of (is_three m) (not (is_three (level_of outer d))) passes) in
          let open_outside : not (is_three (guarded_level (is_in jobs d) false)) ≡ true =
          ap (λ (k : Level). not (is_three k)) (sym (outer_at d secret.1))
          ∙ second_of (is_three m) (not (is_three (level_of outer d))) passes in
          first_or r d (is_in jobs d) secret.0 (not_three (is_in jobs d) open_outside)
