-- The parts that programs share reply to their refusals.
use Rattle.std.proofs.Common.{Bool, true, false, [], ◌∷◌, Option, None, Some, refl}
use Rattle.std.specs.Prelude.{◌==◌}
use Rattle.std.specs.FinMap as map
use Rattle.histar_flat.specs.Words.{Name, Path}
use Rattle.histar_flat.specs.declared.replies.Errno.TheVariants.{ENOTDIR}
use Rattle.histar_rules.specs.declared.raw.Denied.{Denied}
use Rattle.histar_rules.specs.declared.raw.Denied.TheVariants.{Observe, Modify, Range, Gate, NoEntry, NoThread, BadKind, TooBig}
use Rattle.histar_rules.specs.declared.raw.RawCall.{RawCall}
use Rattle.histar_rules.specs.declared.raw.RawCall.TheVariants.{MakeCategory, OwnLabel, SetLabel, SetClearance, MakeSegment, MakeContainer}
use Rattle.histar_rules.specs.declared.raw.RawCall.TheVariants.{MakeThread, MakeGate, Enter, Read, Write, Unlink, LabelOf}
use Rattle.histar_layout.specs.Directory.{Entries}
use Rattle.histar_flat.specs.FlatCalls.{most_entries}
use Rattle.histar_layout.specs.Found.{found_in}
use Rattle.histar_layout.specs.declared.entry.Target.{Target}
use Rattle.histar_layout.specs.declared.entry.Target.TheVariants as targets
use Rattle.histar_programs.specs.declared.roots.Place.{Place}
use Rattle.histar_programs.specs.declared.roots.Roots.{Roots}
use Rattle.histar_programs.specs.declared.directory.Directory.{Directory}
use Rattle.histar_programs.specs.declared.find.FoundFile.{FoundFile}
use Rattle.histar_programs.specs.declared.find.Room.{Room}
use Rattle.histar_programs.specs.Refusals.{errno_of, write_errno_of, errno_for}
use Rattle.histar_programs.specs.Programs.{AnswerOf, Program}
use Rattle.histar_programs.specs.Parts.{refused_with, ask, if_there, read_directory, directory_at, file_at, room_at, target_named, given}
use Rattle.histar_programs.specs.Parts.{look_in, find_place, walk_to, find_file, find_room}
use Rattle.histar_programs.specs.Laws.{RepliesToDenial, RepliesToRefusals}

-- the reply to each denial is its errno
pub denial_has_reply : (d : Denied) → RepliesToDenial d (refused_with (errno_of d))
denial_has_reply Observe = (refl, refl)
denial_has_reply Modify = (refl, refl)
denial_has_reply Range = (refl, refl)
denial_has_reply Gate = (refl, refl)
denial_has_reply NoEntry = (refl, refl)
denial_has_reply NoThread = (refl, refl)
denial_has_reply BadKind = (refl, refl)
denial_has_reply TooBig = tt

pub denial_of_write_has_reply : (d : Denied) → RepliesToDenial d (refused_with (write_errno_of d))
denial_of_write_has_reply Observe = (refl, refl)
denial_of_write_has_reply Modify = (refl, refl)
denial_of_write_has_reply Range = (refl, refl)
denial_of_write_has_reply Gate = (refl, refl)
denial_of_write_has_reply NoEntry = (refl, refl)
denial_of_write_has_reply NoThread = (refl, refl)
denial_of_write_has_reply BadKind = (refl, refl)
denial_of_write_has_reply TooBig = (refl, refl)

pub denial_of_call_has_reply : (call : RawCall) (d : Denied) → RepliesToDenial d (refused_with (errno_for call d))
denial_of_call_has_reply MakeCategory d = denial_has_reply d
denial_of_call_has_reply OwnLabel d = denial_has_reply d
denial_of_call_has_reply (SetLabel label) d = denial_has_reply d
denial_of_call_has_reply (SetClearance clearance) d = denial_has_reply d
denial_of_call_has_reply (MakeSegment container label bytes) d = denial_has_reply d
denial_of_call_has_reply (MakeContainer container label) d = denial_has_reply d
denial_of_call_has_reply (MakeThread container label clearance) d = denial_has_reply d
denial_of_call_has_reply (MakeGate container label clearance entry) d = denial_has_reply d
denial_of_call_has_reply (Enter container gate wanted clearance verify) d = denial_has_reply d
denial_of_call_has_reply (Read container segment) d = denial_has_reply d
denial_of_call_has_reply (Write container segment keep bytes) d = denial_of_write_has_reply d
denial_of_call_has_reply (Unlink container object) d = denial_has_reply d
denial_of_call_has_reply (LabelOf container object) d = denial_has_reply d

-- a raw call replies to its refusals if what follows its answer does
pub ask_replies : (call : RawCall) (rest : AnswerOf call → Program)
    → ((answer : AnswerOf call) → RepliesToRefusals (rest answer)) → RepliesToRefusals (ask call rest)
ask_replies call rest obeys = (obeys, denial_of_call_has_reply call)

pub read_replies : (place : Place) (rest : Directory → Program)
    → ((directory : Directory) → RepliesToRefusals (rest directory)) → RepliesToRefusals (read_directory place rest)
unfolding read_directory
read_replies place rest obeys = ((λ bytes listed. by listed), denial_of_call_has_reply (Read place.container place.listing))
  where
    by : (listed : Option Entries)
        → RepliesToRefusals (if_there ENOTDIR (λ (entries : Entries). rest (record { place = place; entries = entries })) listed)
    by None = (refl, refl)
    by (Some entries) = obeys (record { place = place; entries = entries })

-- a look-up replies to its refusals
pub look_replies : (place : Place) (name : Name) (rest : Option Target → Program)
    → ((target : Option Target) → RepliesToRefusals (rest target)) → RepliesToRefusals (look_in place name rest)
unfolding look_in
look_replies place name rest obeys = ((λ bytes. obeys (found_in bytes name)), denial_of_call_has_reply (Read place.container place.listing))

into_replies : (target : Option Target) (rest : Place → Program) → ((place : Place) → RepliesToRefusals (rest place))
    → RepliesToRefusals (given (directory_at target) rest)
into_replies None rest obeys = (refl, refl)
into_replies (Some (targets.File file)) rest obeys = (refl, refl)
into_replies (Some (targets.Directory container listing)) rest obeys = obeys (record { container = container; listing = listing })

-- the search for the place of a directory replies to its refusals
pub place_replies : (roots : Roots) (path : Path) (rest : Place → Program)
    → ((place : Place) → RepliesToRefusals (rest place)) → RepliesToRefusals (find_place roots path rest)
unfolding find_place
place_replies roots [] rest obeys = obeys roots.slash
place_replies roots (name ∷ parent) rest obeys =
    place_replies roots parent _ (λ above. look_replies above name _ (λ target. into_replies target rest obeys))

-- a walk replies to its refusals
pub walk_replies : (roots : Roots) (path : Path) (rest : Directory → Program)
    → ((directory : Directory) → RepliesToRefusals (rest directory)) → RepliesToRefusals (walk_to roots path rest)
unfolding walk_to
walk_replies roots path rest obeys = place_replies roots path _ (λ place. read_replies place rest obeys)

-- the search for a file replies to its refusals
pub file_replies : (roots : Roots) (path : Path) (rest : FoundFile → Program)
    → ((file : FoundFile) → RepliesToRefusals (rest file)) → RepliesToRefusals (find_file roots path rest)
unfolding find_file
file_replies roots [] rest obeys = (refl, refl)
file_replies roots (name ∷ parent) rest obeys = place_replies roots parent _ (λ place. look_replies place name _ (λ target. by place target))
  where
    by : (place : Place) (target : Option Target)
        → RepliesToRefusals
        (given (file_at target) (λ segment. rest (record { container = place.container; segment = segment })))
    by place None = (refl, refl)
    by place (Some (targets.File file)) = obeys (record { container = place.container; segment = file })
    by place (Some (targets.Directory container listing)) = (refl, refl)

-- the search for room replies to its refusals
pub room_replies : (roots : Roots) (path : Path) (rest : Room → Program)
    → ((room : Room) → RepliesToRefusals (rest room)) → RepliesToRefusals (find_room roots path rest)
unfolding find_room
room_replies roots [] rest obeys = (refl, refl)
room_replies roots (name ∷ parent) rest obeys =
    walk_replies roots parent _
    (λ directory. by directory (target_named directory name) (map.len directory.entries == most_entries))
  where
    by : (directory : Directory) (target : Option Target) (full : Bool)
        → RepliesToRefusals (given (room_at target full)
        (λ _. rest (record { place = directory.place; entries = directory.entries; name = name })))
    by directory (Some target) full = (refl, refl)
    by directory None true = (refl, refl)
    by directory None false = obeys (record { place = directory.place; entries = directory.entries; name = name })
