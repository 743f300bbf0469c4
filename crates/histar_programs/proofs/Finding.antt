-- How the code that looks for a file, or for room, runs its part: it goes to the directory, and decides there.
use Rattle.std.proofs.Common.{◌≡◌, ℕ, ◌∷◌, Option, Result, Ok, Err, sym, subst}
use Rattle.histar_flat.specs.Words.{Name, Path}
use Rattle.histar_flat.specs.declared.replies.Errno.{Errno}
use Rattle.histar_syscall.specs.KernelModel.{KernelModel}
use Rattle.histar_layout.specs.declared.entry.Target.{Target}
use Rattle.histar_programs.specs.declared.roots.Place.{Place}
use Rattle.histar_programs.specs.declared.roots.Roots.{Roots}
use Rattle.histar_programs.specs.declared.directory.Directory.{Directory}
use Rattle.histar_programs.specs.declared.call_error.CallError.{CallError}
use Rattle.histar_programs.specs.declared.call_error.CallError.TheVariants.{Refused}
use Rattle.histar_programs.specs.Programs.{Part, RunsPart}
use Rattle.histar_programs.specs.Parts.{given, look_in, find_place, walk_to}
use Rattle.histar_programs.proofs.Running.{hands, refuses_at_once, part_as, then_part, part_fails}

-- a part that walks to the parent of a path, and goes on there
module _ {B : Type 0} (t : ℕ) (roots : Roots) (old new : KernelModel) (part : Path → Part B) (path : Path) (name : Name)
    (parent : Path) (split : path ≡ name ∷ parent) (within : Directory → Part B)
    (is : part (name ∷ parent) ≡ (λ rest. walk_to roots parent (λ directory. within directory rest))) where
  here : {M : Type 0} → (result : Result B CallError)
      → RunsPart M (λ rest. walk_to roots parent (λ directory. within directory rest)) old new t result
      → RunsPart M (part path) old new t result
  here {M} result runs =
      subst (λ (q : Path). RunsPart M (part q) old new t result) (sym split)
      (subst (λ (p : Part B). RunsPart M p old new t result) (sym is) runs)

  -- the walk has failed
  pub walk_failed : {M : Type 0} → (call_error : CallError) → RunsPart M (walk_to roots parent) old new t (Err call_error)
      → RunsPart M (part path) old new t (Err call_error)
  walk_failed call_error first = here (Err call_error) (part_fails t (walk_to roots parent) old new within call_error first)

  -- the walk has led to this directory
  pub walked : {M : Type 0} → (mid : KernelModel) (directory : Directory) → RunsPart M (walk_to roots parent) old mid t (Ok directory)
      → (result : Result B CallError) → RunsPart M (within directory) mid new t result
      → RunsPart M (part path) old new t result
  walked mid directory first result second = here result (then_part t (walk_to roots parent) old new within mid directory first result second)

module _ {A B : Type 0} (t : ℕ) (k : KernelModel) (f : A → B) (decided : Result A Errno) where
  -- what was decided is passed on
  pub decides : {M : Type 0} → (x : A) → Ok x ≡ decided → RunsPart {A = B} M (λ rest. given decided (λ y. rest (f y))) k k t (Ok (f x))
  decides {M} x is = subst (λ (d : Result A Errno). RunsPart {A = B} M (λ rest. given d (λ y. rest (f y))) k k t (Ok (f x))) is (hands t k (f x))

  -- what was decided refuses the call
  pub decides_not : {M : Type 0} → (errno : Errno) → Err errno ≡ decided
      → RunsPart {A = B} M (λ rest. given decided (λ y. rest (f y))) k k t (Err (Refused errno))
  decides_not {M} errno is =
      subst (λ (d : Result A Errno). RunsPart {A = B} M (λ rest. given d (λ y. rest (f y))) k k t (Err (Refused errno)))
      is (refuses_at_once t B k errno)

-- A part that finds the place of the parent of a path, looks the last name up there, decides by what it leads to, and passes on what
-- it makes of that and of the place.
module _ {A B : Type 0} (t : ℕ) (roots : Roots) (old new : KernelModel) (part : Path → Part B) (path : Path)
    (name : Name) (parent : Path) (split : path ≡ name ∷ parent)
    (decide : Option Target → Result A Errno) (make : Place → A → B)
    (is : part (name ∷ parent)
    ≡ (λ rest. find_place roots parent
    (λ place. look_in place name (λ target. given (decide target) (λ x. rest (make place x))))))
  where
    -- what comes after the look-up
    abbrev after_look : Place → Option Target → Part B
    after_look place target rest = given (decide target) (λ x. rest (make place x))

    -- what comes after the place of the directory
    abbrev in_place : Place → Part B
    in_place place rest = look_in place name (λ target. after_look place target rest)

    abbrev placed : Part B
    placed rest = find_place roots parent (λ place. in_place place rest)

    placed_here : {M : Type 0} → (result : Result B CallError) → RunsPart M placed old new t result → RunsPart M (part path) old new t result
    placed_here {M} result runs =
        subst (λ (q : Path). RunsPart M (part q) old new t result) (sym split)
        (part_as t (part (name ∷ parent)) old new placed is result runs)

    -- the place was not found
    pub place_fails : {M : Type 0} → (call_error : CallError) → RunsPart M (find_place roots parent) old new t (Err call_error)
        → RunsPart M (part path) old new t (Err call_error)
    place_fails call_error first = placed_here (Err call_error) (part_fails t (find_place roots parent) old new in_place call_error first)

    module _ {M : Type 0} (mid : KernelModel) (place : Place) (first : RunsPart M (find_place roots parent) old mid t (Ok place)) where
      -- the name was not looked up
      pub look_fails : (call_error : CallError) → RunsPart M (look_in place name) mid new t (Err call_error)
          → RunsPart M (part path) old new t (Err call_error)
      look_fails call_error second =
          placed_here (Err call_error) (then_part t (find_place roots parent) old new in_place mid place first (Err call_error)
          (part_fails t (look_in place name) mid new (after_look place) call_error second))

      -- the name leads to this target
      pub led : (target : Option Target) → RunsPart M (look_in place name) mid new t (Ok target)
          → (result : Result B CallError) → RunsPart M (after_look place target) new new t result
          → RunsPart M (part path) old new t result
      led target second result decided =
          placed_here result (then_part t (find_place roots parent) old new in_place mid place first result
          (then_part t (look_in place name) mid new (after_look place) new target second result decided))
