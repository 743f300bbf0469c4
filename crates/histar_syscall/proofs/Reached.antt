-- The objects visible at the ends of paths are those that are reached from the root through untainted objects alone.
use Rattle.std.proofs.Common.{◌≡◌, ◌≢◌, ℕ, true, [], ◌∷◌, None, Some, refl, sym, ap, ◌∙◌, subst, if◌then◌else◌}
use Rattle.std.specs.Prelude.{nat_lt}
use Rattle.std.specs.FinSet as set
use Rattle.histar_level.specs.declared.level.Level.{Level}
use Rattle.histar_level.specs.declared.level.Level.TheVariants.{Star, L0, L1, L2, L3}
use Rattle.histar_level.specs.Level.{rank}
use Rattle.histar_level.specs.Levels.{Levels, level_of}
use Rattle.histar_object.specs.declared.objects.Object.{Object}
use Rattle.histar_object.specs.Objects.{links_in}
use Rattle.histar_object.specs.State.{State, Found}
use Rattle.histar_container.specs.Tree.{Address, Reached, here, there}
use Rattle.histar_rules.specs.Sound.{root_number}
use Rattle.histar_syscall.specs.KernelModel.{state}
use Rattle.histar_rules.specs.Visible.{untainted, visible, end_of, untainted_objects, IsVisible}
use Rattle.histar_syscall.specs.Laws.{VisibleIsReached, SameNumbersAreVisible}
use Rattle.histar_rules.proofs.Tainted.{tainted_none, if_some, untainted_is, linker, visible_is}
use Rattle.histar_syscall.proofs.Confined.{confinement}

-- a level other than 3 is below 3
below_other : (l : Level) → l ≢ L3 → nat_lt (rank l) (rank L3) ≡ true
below_other Star other = refl
below_other L0 other = refl
below_other L1 other = refl
below_other L2 other = refl
below_other L3 other = absurd (other refl)

-- an object that has v below 3 is untainted
untainted_some : (v : ℕ) (f : Found) (o : Object Levels) → f ≡ Some o → level_of o.label v ≢ L3 → untainted v f ≡ Some o
untainted_some v f o is below = ap (untainted v) is ∙ ap (λ b. if b then Some o else None) (below_other (level_of o.label v) below)

-- and an untainted object has v below 3
untainted_below : (v : ℕ) (f : Found) (o : Object Levels) → untainted v f ≡ Some o → level_of o.label v ≢ L3
untainted_below v f o e three =
    let no : None ≡ Some o = sym (tainted_none v (Some o) three) ∙ ap (untainted v) (sym (untainted_is v f o e)) ∙ e in cc

module _ (s : State) (v : ℕ) where
  -- links lead to the end of a path
  path_reached : (path : Address ℕ) (o : Object Levels) → visible s v path ≡ Some o → Reached (untainted_objects s v) root_number (end_of path)
  path_reached [] o e = here
  path_reached (x ∷ path) o e =
      let linked = (if_some (set.contains (links_in (visible s v path)) x) (untainted v (s.objects x)) o e).0 in
      let holder = linker (visible s v path) x linked in
      there (end_of path) x (path_reached path holder.0 holder.1)
      (ap (λ (f : Found). set.contains (links_in f) x) (visible_is s v path holder.0 holder.1 ∙ sym holder.1)
      ∙ linked)

  -- and an object to which links lead is at the end of a path
  reached_path : (q : ℕ) → Reached (untainted_objects s v) root_number q → (o : Object Levels)
      → untainted_objects s v q ≡ Some o → (path : Address ℕ) × (end_of path ≡ q) × (visible s v path ≡ Some o)
  reached_path q here o e = ([], refl, e)
  reached_path q (there p c r k) o e =
      let holder = linker (untainted_objects s v p) q k in
      let up = reached_path p r holder.0 holder.1 in (
        q
            ∷ up.0,
        refl,
        ap (λ (f : Found). if set.contains (links_in f) q then untainted v (s.objects q) else None)
            (up.2 ∙ sym holder.1) ∙ ap (λ b. if b then untainted v (s.objects q) else None) k ∙ e,
      )

-- the same objects are visible by paths and by numbers
pub visible_reached : VisibleIsReached
visible_reached s v q o = (
  λ at.
      let e : untainted v (s.objects q) ≡ Some o = ap (λ (n : ℕ). untainted v (s.objects n)) (sym at.1) ∙ visible_is s v at.0 o at.2 in
      record {
        there = untainted_is v (s.objects q) o e;
        below = untainted_below v (s.objects q) o e;
        reached = subst (Reached (untainted_objects s v) root_number) at.1 (path_reached s v at.0 o at.2);
      },
  λ is. reached_path s v q is.reached o (untainted_some v (s.objects q) o is.there is.below),
)

-- objects that are visible by the same paths are visible by the same numbers
same_numbers : (s t : State) (v : ℕ) → visible s v ≡ visible t v → (q : ℕ) (o : Object Levels) → IsVisible s v q o → IsVisible t v q o
same_numbers s t v same q o is =
    let at = (visible_reached s v q o).1 is in
    (visible_reached t v q o).0 (at.0, at.1, ap (λ (f : Address ℕ → Found). f at.0) (sym same) ∙ at.2)

-- confined threads leave the same numbers visible
pub numbers_stay : SameNumbersAreVisible
numbers_stay old new v calls sound confined made q o =
    let same = confinement v old new calls (λ some. sound) confined made in
    (same_numbers (state new) (state old) v same q o, same_numbers (state old) (state new) v (sym same) q o)
