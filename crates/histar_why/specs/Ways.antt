-- What is on the way to a path, read off the objects of a state; and what the rules say is there.
use Rattle.std.specs.Prelude.{◌≡◌, ℕ, Bool, true, length, Option, None, Some, MatchOption, is_some, option_map}
use Rattle.std.specs.FinMap as map
use Rattle.histar_base.specs.Refusals.{◌orelse◌, unless}
use Rattle.histar_flat.specs.Words.{Name, Path}
use Rattle.histar_flat.specs.Accounts.{Accounts}
use Rattle.histar_flat.specs.Classes.{Class, Process}
use Rattle.histar_flat.specs.Files.{get}
use Rattle.histar_flat.specs.FlatState.{Flat, Node, is_dir, is_some_and, bytes_of}
use Rattle.histar_flat.specs.PathOrder.{parent}
use Rattle.histar_level.specs.Levels.{Levels}
use Rattle.histar_object.specs.Objects.{label_there}
use Rattle.histar_object.specs.State.{State}
use Rattle.histar_syscall.specs.KernelModel.{lent_bytes}
use Rattle.histar_layout.specs.ClassLabels.{IsClassLabel}
use Rattle.histar_layout.specs.Directory.{Entries, IsDirectory}
use Rattle.histar_layout.specs.Listing.{object_of, is_directory}
use Rattle.histar_layout.specs.UserTable.{without_passwords}
use Rattle.histar_layout.specs.declared.class.Class.{Class as NumberedClass}
use Rattle.histar_layout.specs.declared.entry.Target.{Target}
use Rattle.histar_layout.specs.declared.entry.Target.TheVariants.{File, Directory}
use Rattle.histar_programs.specs.Start.{roots_of}
use Rattle.histar_programs.specs.declared.roots.Roots.{Roots}
use Rattle.histar_readout.specs.Resolve.{LeadsTo, LeadsNowhere}
use Rattle.histar_readout.specs.TreeEntries.{file_bytes_at}
use Rattle.histar_names.specs.Births.{Births}
use Rattle.histar_reasons.specs.Causes.{Cause, unread, unwritten}
use Rattle.histar_reasons.specs.Reasons.{Reason, why_walk}
use Rattle.histar_reasons.specs.Reasons.Reason.{MayNotRead, IsMissing, HasFile}
use Rattle.histar_why.specs.declared.ways.Seen.{Seen}
use Rattle.histar_why.specs.declared.ways.Spot.{Spot}
use Rattle.histar_why.specs.declared.ways.Way.{Way}
use Rattle.histar_why.specs.Causes.{cause_of, class_named}
use Rattle.histar_names.specs.KnownBirths.{NamesBirths}
use Rattle.histar_why.specs.declared.ways.Obstacle.{Obstacle}
use Rattle.histar_why.specs.Barriers.{IsOnWay, barrier_of, obstacle_of}
use Rattle.histar_why.specs.Reasons.{has_directory, unread_in}

-- what the rules say of a node: whether it is a directory, how many bytes it has, and why the process may not read or
-- write it
pub record Sight : Type 0 where
  pub is_directory : Bool
  pub bytes : ℕ
  pub unread : Option Cause
  pub unwritten : Option Cause

-- what was seen, as the rules have it
abbrev pub sight_of : Spot → Sight
sight_of spot = record {
  is_directory = spot.seen.is_directory;
  bytes = spot.seen.bytes;
  unread = option_map cause_of spot.seen.unread;
  unwritten = option_map cause_of spot.seen.unwritten;
}

-- what a process sees of something of this class, of this kind and with so many bytes
abbrev pub sight_by : Accounts → Process → Class → Bool → ℕ → Sight
sight_by accounts p class directory bytes =
    record {
      is_directory = directory;
      bytes = bytes;
      unread = unread accounts p class;
      unwritten = unwritten accounts p class;
    }

-- what a process sees of a node
abbrev pub sight_at : Accounts → Process → Node → Sight
sight_at accounts p node = sight_by accounts p node.class (is_dir node) (length (bytes_of (Some node)))

-- the object of a target has a label of this class
pub record HasClass (users : Accounts) (s : State) (target : Target) (class : NumberedClass) : Type 0 where
  pub label : Levels
  pub label_is : label_there (s.objects (object_of target)) ≡ Some label
  pub of_class : IsClassLabel users class label

-- the spot is that of a target whose object is of this class
pub record IsSpot (users : Accounts) (births : Births) (s : State) (p : Process) (target : Target) (class : NumberedClass)
    (spot : Spot) : Type 0 where
  pub leads : spot.target ≡ target
  pub seen : sight_of spot
      ≡ sight_by users p (class_named births class) (is_directory target) (length (file_bytes_at s target))

-- where the object of a target is of a class, the spot that was found is that of the target, by this class
abbrev pub FindsSpot : Accounts → Births → State → Process → Target → Option Spot → Type 0
FindsSpot users births s p target found =
    (class : NumberedClass) → HasClass users s target class → MatchOption found ⊥ (IsSpot users births s p target class)

-- where a label is of a class, that class was found
abbrev pub ShowsClass : Accounts → Levels → Option NumberedClass → Type 0
ShowsClass users label found = (class : NumberedClass) → IsClassLabel users class label → found ≡ Some class

-- the directory at the one target lists this name, and its entry leads to the other target
abbrev pub Lists : State → Target → Name → Target → Type 0
Lists s (File file) name target = ⊥
Lists s (Directory container listing) name target =
    (dir : Entries) × IsDirectory (lent_bytes s listing) dir × (map.get dir name ≡ Some target)

-- the target that was found is where the entry of the name leads, and nothing was found exactly if there is no entry
abbrev pub FindsEntry : State → Target → Name → Option Target → Type 0
FindsEntry s above name found =
    MatchOption found ((target : Target) → Lists s above name target → ⊥) (Lists s above name)

-- what was found is at the entry of this name of a target
abbrev pub FindsListed : Accounts → Births → State → Process → Target → Name → Option Spot → Type 0
FindsListed users births s p above name found =
    (target : Option Target) × FindsEntry s above name target
    × MatchOption target (found ≡ None) (λ there. FindsSpot users births s p there found)

-- what was found is at the entry of this name of a directory, if one is there
abbrev pub FindsBelow : Accounts → Births → State → Process → Option Spot → Name → Option Spot → Type 0
FindsBelow users births s p directory name found =
    MatchOption directory (found ≡ None) (λ spot. FindsListed users births s p spot.target name found)

-- why the process can't walk into what is at a path
abbrev pub why_into_spot : Option Spot → Path → Option Reason
why_into_spot spot q =
    unless (is_some spot) (IsMissing q) orelse unless (has_directory spot) (HasFile q)
    orelse option_map (MayNotRead q) (unread_in spot)

-- it is why, of whatever path the spot is
abbrev pub StopsAt : Option Spot → Option Obstacle → Type 0
StopsAt spot obstacle = (q : Path) → option_map (obstacle_of q) obstacle ≡ why_into_spot spot q

-- why the process can't walk into a path, by what is on the way to it
abbrev pub why_into_by : Way → Path → Option Reason
why_into_by way q = option_map (barrier_of q) way.walk orelse why_into_spot way.here q

module _ (users : Accounts) (roots : Roots) (births : Births) (s : State) where
  -- the state represents a flat state with these users and groups, at the places that boot made, and the names of its
  -- jobs are right
  pub record Reveals (accounts : Accounts) (f : Flat) : Type 0 where
    pub users_are : users ≡ without_passwords accounts
    pub roots_are : roots ≡ roots_of (length accounts.users)
    pub names : NamesBirths births accounts s f

  -- what is found leads where the path does, and is what the process of the flat state sees there
  pub record IsAt (accounts : Accounts) (f : Flat) (p : Process) (q : Path) (found : Option Spot) : Type 0 where
    pub leads : MatchOption found (LeadsNowhere s roots q) (λ spot. LeadsTo s roots q spot.target)
    pub seen : option_map sight_of found ≡ option_map (sight_at accounts p) (get f.files q)

  -- For each flat state that the state represents, this is the way of a process of it to a path.
  abbrev pub IsWayTo : Process → Path → Way → Type 0
  IsWayTo p q way =
      (accounts : Accounts) (f : Flat) → Reveals accounts f
      → IsOnWay q way.walk × (option_map (barrier_of q) way.walk ≡ why_walk accounts f p q)
      × IsAt accounts f p (parent q) way.above × IsAt accounts f p q way.here
