-- What a call is about, read off the objects of a state.
use Rattle.std.specs.Prelude.{◌≡◌, ℕ, Bool, true, false, List, [], ◌∷◌, map, Option, None, Some, MatchOption, is_some, option_map}
use Rattle.std.specs.FinMap as maps
use Rattle.std.specs.List.{list_any}
use Rattle.histar_base.specs.Refusals.{◌orelse◌}
use Rattle.histar_flat.specs.Words.{ProcName}
use Rattle.histar_flat.specs.Accounts.{Accounts}
use Rattle.histar_flat.specs.Classes.{Process}
use Rattle.histar_flat.specs.PathOrder.{parent}
use Rattle.histar_object.specs.State.{State}
use Rattle.histar_syscall.specs.KernelModel.{lent_bytes}
use Rattle.histar_layout.specs.Directory.{Entries, IsDirectory}
use Rattle.histar_layout.specs.declared.entry.Target.{Target}
use Rattle.histar_layout.specs.declared.entry.Target.TheVariants.{File, Directory}
use Rattle.histar_programs.specs.declared.roots.Home.{Home}
use Rattle.histar_programs.specs.declared.roots.Roots.{Roots}
use Rattle.histar_readout.specs.Resolve.{Resolves}
use Rattle.histar_readout.specs.declared.process.ProcessNode.{ProcessNode}
use Rattle.histar_names.specs.Births.{Births}
use Rattle.histar_reasons.specs.Causes.{unknown}
use Rattle.histar_reasons.specs.Reasons.{Reason}
use Rattle.histar_reasons.specs.Reasons.Reason.{NoProcess, IsUnseen}
use Rattle.histar_why.specs.declared.asked.Asked.{Asked}
use Rattle.histar_why.specs.declared.asked.Part.{Part}
use Rattle.histar_why.specs.declared.asked.Part.TheVariants.{HasRoomAbove, IsEmpty}
use Rattle.histar_why.specs.declared.names.Caller.{Caller}
use Rattle.histar_why.specs.declared.views.Facts.{Facts}
use Rattle.histar_why.specs.declared.views.View.{View}
use Rattle.histar_why.specs.declared.ways.Spot.{Spot}
use Rattle.histar_why.specs.Names.{job_named, node_at, process_of}
use Rattle.histar_why.specs.Reasons.{process_reason_of}
use Rattle.histar_why.specs.Ways.{IsWayTo}

-- this is how many entries a target has: a file has none, and a directory as many as its segment lists
abbrev pub CountsIn : State → Target → ℕ → Type 0
CountsIn s (File file) n = n ≡ 0
CountsIn s (Directory container listing) n = (dir : Entries) → IsDirectory (lent_bytes s listing) dir → n ≡ maps.len dir

-- this is how many entries the directory at a spot has; where none is there it has none
abbrev pub CountsEntries : State → Option Spot → ℕ → Type 0
CountsEntries s spot n = MatchOption spot (n ≡ 0) (λ x. CountsIn s x.target n)

-- whether something in the directory of the path has the name that the call gives
abbrev pub IsBeside : State → Roots → Asked → Bool → Type 0
IsBeside s roots asked result =
    MatchOption asked.beside (result ≡ false)
    (λ name. (found : Option Target) × Resolves s roots (name ∷ parent asked.path) found × (result ≡ is_some found))

-- why a process doesn't find the one of this name, by what was read of that one
abbrev pub unfound_by : Births → Process → ProcName → Option ProcessNode → Option Reason
unfound_by births p name None = Some (NoProcess name)
unfound_by births p name (Some node) = option_map (IsUnseen name) (unknown p (map (job_named births) node.chain))

-- why a process doesn't find the one of this name: the first on the search that is not there, or that it doesn't see
abbrev pub search_by : Accounts → Births → State → Home → Process → ProcName → Option Reason
search_by users births s first p [] = None
search_by users births s first p (n ∷ above) =
    search_by users births s first p above orelse unfound_by births p (n ∷ above) (node_at users s first (n ∷ above))

-- a part needs room in the directory of the path; a part needs the directory at the path to be empty
abbrev pub is_room_part : Part → Bool
is_room_part HasRoomAbove = true
is_room_part part = false

abbrev pub is_empty_part : Part → Bool
is_empty_part IsEmpty = true
is_empty_part part = false

-- one of these parts does
abbrev pub asks_room : List Part → Bool
asks_room parts = list_any is_room_part parts

abbrev pub asks_empty : List Part → Bool
asks_empty parts = list_any is_empty_part parts

-- this was read for a call of a process: its entries are counted where a part asks for their number
pub record AreFactsOf (users : Accounts) (roots : Roots) (births : Births) (s : State) (p : Process) (asked : Asked)
    (facts : Facts) : Type 0 where
  pub way : IsWayTo users roots births s p asked.path facts.way
  pub above : asks_room asked.parts.now ≡ true → CountsEntries s facts.way.above facts.above
  pub here : asks_empty asked.parts.now ≡ true → CountsEntries s facts.way.here facts.here
  pub beside : IsBeside s roots asked facts.beside
  pub sought : option_map process_reason_of facts.sought ≡ search_by users births s roots.home p asked.other

-- this is what a call of a process is about
pub record IsViewOf (users : Accounts) (roots : Roots) (births : Births) (s : State) (caller : Caller) (asked : Asked)
    (view : View) : Type 0 where
  pub asked_is : view.asked.now ≡ asked
  pub users_are : view.users.now ≡ users
  pub caller_is : view.caller.now ≡ caller
  pub facts : AreFactsOf users roots births s (process_of caller) asked view.facts.now
