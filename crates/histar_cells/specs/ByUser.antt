-- The rights of a user at one path, by the classes of the objects on the way to it.
use Rattle.std.specs.Prelude.{◌≡◌, ℕ, [], ◌∷◌, Option, Some, None, MatchOption}
use Rattle.histar_flat.specs.Words.{Name, Path}
use Rattle.histar_flat.specs.Accounts.{Accounts}
use Rattle.histar_flat.specs.Files.{get}
use Rattle.histar_flat.specs.FlatState.{Flat, Node}
use Rattle.histar_level.specs.Levels.{Levels}
use Rattle.histar_object.specs.Objects.{label_there}
use Rattle.histar_object.specs.State.{State}
use Rattle.histar_layout.specs.ClassLabels.{IsClassLabel}
use Rattle.histar_layout.specs.Listing.{object_of}
use Rattle.histar_layout.specs.declared.class.Class.{Class}
use Rattle.histar_layout.specs.declared.entry.Target.{Target}
use Rattle.histar_programs.specs.declared.roots.Roots.{Roots}
use Rattle.histar_rights.specs.declared.rights.Rights.{Rights}
use Rattle.histar_rights.specs.declared.users.UserRights.{UserRights}
use Rattle.histar_rights.specs.Users.{rights_of_user}
use Rattle.histar_diff.specs.Tables.{no_rights}
use Rattle.histar_readout.specs.Resolve.{LeadsTo}
use Rattle.histar_shell.specs.Machine.{MachineModel}
use Rattle.histar_shell.specs.Meaning.{Shows}
use Rattle.histar_cells.specs.declared.by_user.UserSpot.{UserSpot}
use Rattle.histar_cells.specs.ByClass.{from_above, user_below}

-- the object has a label, which is of this class
pub record IsOfClass (users : Accounts) (s : State) (object : ℕ) (class : Class) : Type 0 where
  pub label : Levels
  pub label_is : label_there (s.objects object) ≡ Some label
  pub of_class : IsClassLabel users class label

-- an object is of no class
abbrev pub IsOfNoClass : Accounts → State → ℕ → Type 0
IsOfNoClass users s object = (class : Class) → IsOfClass users s object class → ⊥

-- the class that was found is that of an object, and none was found exactly if it is of none
abbrev pub FindsClassAt : Accounts → State → ℕ → Option Class → Type 0
FindsClassAt users s object found = MatchOption found (IsOfNoClass users s object) (IsOfClass users s object)

-- the object of this target is of a class, and with these rights at its directory a user has those rights there
pub record IsNarrowed (users : Accounts) (s : State) (target : Target) (above there : UserRights) : Type 0 where
  pub class : Class
  pub of_class : IsOfClass users s (object_of target) class
  pub rights : there ≡ user_below users class above

-- the spot that was found is this target with the rights of a user there, and none was found exactly if its object is of no class
abbrev pub FindsNarrowed : Accounts → State → Target → UserRights → Option UserSpot → Type 0
FindsNarrowed users s target above found =
    MatchOption found (IsOfNoClass users s (object_of target)) (λ spot. (spot.target ≡ target) × IsNarrowed users s target above spot.there)

-- a path leads to an object of a class, and with these rights at its directory a user has those rights there
abbrev pub NarrowsTo : Accounts → State → Roots → Path → UserRights → UserRights → Type 0
NarrowsTo users s roots q above there = (target : Target) × LeadsTo s roots q target × IsNarrowed users s target above there

-- a user has these rights at a path: those above `/`, narrowed by the class of each object on the way
abbrev pub HasRightsAt : Accounts → State → Roots → Name → Path → UserRights → Type 0
HasRightsAt users s roots user [] there = NarrowsTo users s roots [] (from_above user) there
HasRightsAt users s roots user (name ∷ d) there =
    (above : UserRights) × HasRightsAt users s roots user d above × NarrowsTo users s roots (name ∷ d) above there

-- the spot that was found is where the path leads, with the rights of a user there, and none was found exactly if the user has none there
unfoldable pub FindsUserSpot : Accounts → State → Roots → Name → Path → Option UserSpot → Type 0
FindsUserSpot users s roots user q found =
    MatchOption found ((there : UserRights) → HasRightsAt users s roots user q there → ⊥)
    (λ spot. LeadsTo s roots q spot.target × HasRightsAt users s roots user q spot.there)

-- the rights of a user at a path, if it has a node; else none
abbrev pub user_rights_if : Accounts → Flat → Path → Name → Option Node → Rights
user_rights_if accounts f q user (Some node) = rights_of_user accounts f user q node
user_rights_if accounts f q user None = no_rights

-- the rights of a user at a path in a flat state
abbrev pub user_rights_at : Accounts → Flat → Path → Name → Rights
user_rights_at accounts f q user = user_rights_if accounts f q user (get f.files q)

-- for every flat state that the machine represents, these are the rights of a user at a path in it
abbrev pub AreRightsOfUser : MachineModel → Path → Name → Rights → Type 0
AreRightsOfUser m q user rights = (accounts : Accounts) (f : Flat) → Shows accounts m f → rights ≡ user_rights_at accounts f q user
