-- An object below one that is tainted in a category is not visible without that taint.
use Rattle.std.proofs.Common.{◌≡◌, ℕ, Bool, true, false, [], ◌∷◌, Option, None, Some, refl, sym, ap, ◌∙◌, subst, if◌then◌else◌}
use Rattle.std.specs.Prelude.{nat_lt, ⊤}
use Rattle.std.specs.FinSet as set
use mathlib.Core.Bool.{true≢false}
use Rattle.histar_level.specs.declared.level.Level.{Level}
use Rattle.histar_level.specs.declared.level.Level.TheVariants.{L3}
use Rattle.histar_level.specs.Level.{rank}
use Rattle.histar_level.specs.Levels.{Levels, level_of}
use Rattle.histar_object.specs.declared.objects.Object.{Object}
use Rattle.histar_object.specs.Objects.{links_in}
use Rattle.histar_object.specs.State.{State, Found}
use Rattle.histar_container.specs.Tree.{Address, Reached, here, there}
use Rattle.histar_container.proofs.Links.{none_linked}
use Rattle.histar_container.proofs.Trees.{one_link, root_not_reached}
use Rattle.histar_rules.specs.Sound.{root_number, IsSound}
use Rattle.histar_rules.specs.Visible.{untainted, visible, end_of}

-- there is an object, and it is tainted in v
abbrev pub IsTainted : ℕ → Found → Type 0
IsTainted v None = ⊤
IsTainted v (Some o) = level_of o.label v ≡ L3

-- a tainted object is not among the untainted
pub tainted_none : (v : ℕ) (f : Found) → IsTainted v f → untainted v f ≡ None
tainted_none v None h = refl
tainted_none v (Some o) h = ap (λ (l : Level). if nat_lt (rank l) (rank L3) then Some o else None) h

-- a value that passes a test is the one that was tested
pub if_some : {A : Type 0} (b : Bool) (y : Option A) (z : A) → (if b then y else None) ≡ Some z → (b ≡ true) × (y ≡ Some z)
if_some true y z e = (refl, e)
if_some false y z e = cc

-- where nothing is tested, nothing passes
pub if_none : (b : Bool) (f : Found) → f ≡ None → (if b then f else None) ≡ None
if_none true f e = e
if_none false f e = refl

-- an untainted object is there
pub untainted_is : (v : ℕ) (f : Found) (o : Object Levels) → untainted v f ≡ Some o → f ≡ Some o
untainted_is v None o e = cc
untainted_is v (Some p) o e = (if_some (nat_lt (rank (level_of p.label v)) (rank L3)) (Some p) o e).1

-- an object that links a number is there
pub linker : (f : Found) (x : ℕ) → set.contains (links_in f) x ≡ true → (o : Object Levels) × (f ≡ Some o)
linker None x k = absurd (true≢false (sym k ∙ sym (none_linked x)))
linker (Some o) x k = (o, refl)

module _ (s : State) (v : ℕ) where
  -- a visible object is the one at the end of its path, and is untainted
  pub visible_is : (path : Address ℕ) (o : Object Levels) → visible s v path ≡ Some o → untainted v (s.objects (end_of path)) ≡ Some o
  visible_is [] o e = e
  visible_is (x ∷ path) o e = (if_some (set.contains (links_in (visible s v path)) x) (untainted v (s.objects x)) o e).1

  module _ (sound : IsSound s) where
    -- an object that is reached from a tainted one is not visible
    pub not_visible : (d q : ℕ) → IsTainted v (s.objects d) → Reached s.objects d q
        → (path : Address ℕ) (o : Object Levels) → end_of path ≡ q → visible s v path ≡ Some o → ⊥
    not_visible d q tainted here path o is seen =
        let e : None ≡ Some o =
        sym (tainted_none v (s.objects d) tainted) ∙ ap (λ (n : ℕ). untainted v (s.objects n)) (sym is)
        ∙ visible_is path o seen in
        cc
    not_visible d q tainted (there p c r k) [] o is seen =
        root_not_reached s.objects root_number s.next_object sound.tree p q k (subst (Reached s.objects q) (sym is) here)
    not_visible d q tainted (there p c r k) (x ∷ path) o is seen =
        let linked = (if_some (set.contains (links_in (visible s v path)) x) (untainted v (s.objects x)) o seen).0 in
        let holder = linker (visible s v path) x linked in
        let found = untainted_is v (s.objects (end_of path)) holder.0 (visible_is path holder.0 holder.1) in
        let links : set.contains (links_in (s.objects (end_of path))) q ≡ true =
        ap (λ (f : Found). set.contains (links_in f) q) (found ∙ sym holder.1)
        ∙ ap (λ (n : ℕ). set.contains (links_in (visible s v path)) n) (sym is) ∙ linked in
        not_visible d p tainted r path holder.0 (one_link s.objects root_number s.next_object sound.tree (end_of path) p q links k) holder.1
