-- The programs of these calls reply to their refusals.
use Rattle.std.proofs.Common.{Bool, true, false, [], ◌∷◌, Option, None, Some, Ok, Err, refl}
use Rattle.std.specs.Prelude.{◌==◌, if◌then◌else◌}
use Rattle.std.specs.FinMap as map
use Rattle.histar_flat.specs.Words.{Name, Path}
use Rattle.histar_flat.specs.declared.replies.Errno.TheVariants.{ENOTEMPTY}
use Rattle.histar_flat.specs.declared.replies.Reply.TheVariants.{Done}
use Rattle.histar_rules.specs.declared.raw.RawCall.TheVariants.{Write, Unlink}
use Rattle.histar_layout.specs.Directory.{Entries, spelling}
use Rattle.histar_layout.specs.Listing.{object_of}
use Rattle.histar_layout.specs.declared.entry.Target.{Target}
use Rattle.histar_layout.specs.declared.entry.Target.TheVariants as targets
use Rattle.histar_programs.specs.declared.directory.Directory.{Directory}
use Rattle.histar_programs.specs.declared.roots.Place.{Place}
use Rattle.histar_programs.specs.declared.roots.Roots.{Roots}
use Rattle.histar_programs.specs.Laws.{RepliesToRefusals}
use Rattle.histar_programs.specs.Parts.{given, entry_at, read_directory, target_named, write_entries}
use Rattle.histar_programs.specs.Programs.{Program}
use Rattle.histar_programs.specs.Programs.Program.{Answers}
use Rattle.histar_programs.proofs.RepliesOfParts.{ask_replies, read_replies, walk_replies}
use Rattle.histar_moves.specs.declared.entry.FoundEntry.{FoundEntry}
use Rattle.histar_moves.specs.Laws.{MovesReplyToRefusals}
use Rattle.histar_moves.specs.Parts.{find_entry, must_be_file, must_be_directory, must_be_empty, must_be_free, take_away}
use Rattle.histar_moves.specs.Rename.{rename_program}
use Rattle.histar_moves.specs.Rmdir.{rmdir_program}
use Rattle.histar_moves.specs.Rmtree.{rmtree_program}
use Rattle.histar_moves.specs.Unlink.{unlink_program}

-- the search for an entry replies to its refusals
entry_replies : (roots : Roots) (path : Path) (rest : FoundEntry → Program)
    → ((entry : FoundEntry) → RepliesToRefusals (rest entry)) → RepliesToRefusals (find_entry roots path rest)
unfolding find_entry
entry_replies roots [] rest obeys = (refl, refl)
entry_replies roots (name ∷ parent) rest obeys = walk_replies roots parent _ (λ directory. by directory (target_named directory name))
  where
    by : (directory : Directory) (target : Option Target)
        → RepliesToRefusals (given (entry_at target) (λ found.
        rest (record { place = directory.place; entries = directory.entries; name = name; target = found })))
    by directory None = (refl, refl)
    by directory (Some target) = obeys (record { place = directory.place; entries = directory.entries; name = name; target = target })

-- the last part of a call, which writes a directory and is done, replies to its refusals
written_replies : (place : Place) (entries : Entries) → RepliesToRefusals (write_entries place entries (λ _. Answers Done))
written_replies place entries = ask_replies (Write place.container place.listing 0 (spelling entries)) (λ _. Answers Done) (λ done. (refl, refl))

-- the part that removes an entry replies to its refusals
away_replies : (entry : FoundEntry) → RepliesToRefusals (take_away entry (λ _. Answers Done))
unfolding take_away
away_replies entry =
    ask_replies (Unlink entry.place.container (object_of entry.target))
    (λ gone. write_entries entry.place (map.remove entry.entries entry.name) (λ _. Answers Done))
    (λ gone. written_replies entry.place (map.remove entry.entries entry.name))

unlink_program_replies : (roots : Roots) (path : Path) → RepliesToRefusals (unlink_program roots path)
unfolding unlink_program
unlink_program_replies roots path = entry_replies roots path _ (λ entry. by entry entry.target)
  where
    by : (entry : FoundEntry) (target : Target) → RepliesToRefusals (given (must_be_file target) (λ _. take_away entry (λ _. Answers Done)))
    by entry (targets.File file) = away_replies entry
    by entry (targets.Directory container listing) = (refl, refl)

rmtree_program_replies : (roots : Roots) (path : Path) → RepliesToRefusals (rmtree_program roots path)
unfolding rmtree_program
rmtree_program_replies roots path = entry_replies roots path _ away_replies

rename_program_replies : (roots : Roots) (path : Path) (name : Name) → RepliesToRefusals (rename_program roots path name)
unfolding rename_program
rename_program_replies roots path name = entry_replies roots path _ (λ entry. by entry (map.get entry.entries name))
  where
    by : (entry : FoundEntry) (target : Option Target)
        → RepliesToRefusals (given (must_be_free target)
        (λ _. write_entries entry.place (map.insert (map.remove entry.entries entry.name) name entry.target)
        (λ _. Answers Done)))
    by entry None = written_replies entry.place (map.insert (map.remove entry.entries entry.name) name entry.target)
    by entry (Some target) = (refl, refl)

-- the part that removes the entry of an empty directory replies to its refusals
empty_replies : (entry : FoundEntry) (empty : Bool)
    → RepliesToRefusals
    (given {A = Unit {0}} (if empty then Ok tt else Err ENOTEMPTY) (λ _. take_away entry (λ _. Answers Done)))
empty_replies entry true = away_replies entry
empty_replies entry false = (refl, refl)

rmdir_program_replies : (roots : Roots) (path : Path) → RepliesToRefusals (rmdir_program roots path)
unfolding rmdir_program
rmdir_program_replies roots path = entry_replies roots path _ (λ entry. by entry entry.target)
  where
    by : (entry : FoundEntry) (target : Target)
        → RepliesToRefusals (given (must_be_directory target) (λ place. read_directory place
        (λ directory. given (must_be_empty directory.entries) (λ _. take_away entry (λ _. Answers Done)))))
    by entry (targets.File file) = (refl, refl)
    by entry (targets.Directory container listing) =
        read_replies (record { container = container; listing = listing }) _
        (λ directory. empty_replies entry (map.len directory.entries == 0))

-- the programs of the calls reply to their refusals
pub moves_reply_to_refusals : MovesReplyToRefusals
moves_reply_to_refusals = record {
  unlink = unlink_program_replies;
  rmdir = rmdir_program_replies;
  rmtree = rmtree_program_replies;
  rename = rename_program_replies;
}
