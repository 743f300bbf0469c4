-- What stops a process on its way to a path stops it on its way to each path below.
use Rattle.std.specs.Prelude.{◌≡◌, ◌≤◌, ℕ, suc, Bool, true, false, nat_lt, [], ◌∷◌, length, Option, None, Some, option_map}
use Rattle.std.specs.Prelude.{if◌then◌else◌, refl}
use Rattle.std.proofs.Common.{arith, ap, sym, ◌∙◌}
use Rattle.std.proofs.lemmas.Bool.Decides.{nat_tests}
use Rattle.histar_base.specs.Refusals.{◌orelse◌}
use Rattle.histar_flat.specs.Words.{Name, Path}
use Rattle.histar_why.specs.declared.ways.Barrier.{Barrier}
use Rattle.histar_why.specs.declared.ways.Obstacle.{Obstacle}
use Rattle.histar_why.specs.declared.ways.Way.{Way}
use Rattle.histar_why.specs.Barriers.{IsOnWay, barrier_of, obstacle_of, path_at}
use Rattle.histar_why.specs.Ways.{StopsAt, why_into_by, why_into_spot}

-- a path is on the way to itself
pub path_at_all : (q : Path) → path_at (length q) q ≡ q
path_at_all [] = refl
path_at_all (n ∷ d) = ap (λ (b : Bool). if b then n ∷ d else path_at (suc (length d)) d) (less (length d))
  where
    less : (k : ℕ) → nat_lt k (suc k) ≡ true
    less k = grind (arith, nat_tests)

-- one that has no more names than the directory is on the way to the directory
pub path_at_below : (n : Name) (d : Path) (depth : ℕ) → depth ≤ length d → path_at depth (n ∷ d) ≡ path_at depth d
path_at_below n d depth le = ap (λ (b : Bool). if b then n ∷ d else path_at depth d) (not_less (length d) depth le)
  where
    not_less : (k m : ℕ) → m ≤ k → nat_lt k m ≡ false
    not_less k m le = grind (arith, nat_tests)

pub on_way_below : (n : Name) (d : Path) (barrier : Option Barrier) → IsOnWay d barrier → IsOnWay (n ∷ d) barrier
on_way_below n d None near = tt
on_way_below n d (Some barrier) near = more barrier.depth (length d) near
  where
    more : (m k : ℕ) → m ≤ k → m ≤ suc k
    more m k le = omega arith

pub barrier_below : (n : Name) (d : Path) (barrier : Option Barrier) → IsOnWay d barrier
    → option_map (barrier_of (n ∷ d)) barrier ≡ option_map (barrier_of d) barrier
barrier_below n d None near = refl
barrier_below n d (Some barrier) near =
    ap (λ (q : Path). Some (obstacle_of q barrier.what)) (path_at_below n d barrier.depth near)

-- what is at a directory stops a walk that nothing stopped before
pub stopped_here : (q : Path) (way : Way) → way.walk ≡ None → (found : Option Obstacle) → StopsAt way.here found
    → (what : Obstacle) → found ≡ Some what → Some (barrier_of q (record { depth = length q; what = what })) ≡ why_into_by way q
stopped_here q way free found stops what is =
    ap (λ (r : Path). Some (obstacle_of r what)) (path_at_all q) ∙ ap (option_map (obstacle_of q)) (sym is) ∙ stops q
    ∙ ap (λ (walk : Option Barrier). option_map (barrier_of q) walk orelse why_into_spot way.here q) (sym free)
