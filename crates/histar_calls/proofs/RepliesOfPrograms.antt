-- The programs of the file calls reply to their refusals.
use Rattle.std.proofs.Common.{ℕ, Bool, true, List, [], ◌∷◌, Option, None, Some, refl}
use Rattle.histar_flat.specs.Words.{Path}
use Rattle.histar_flat.specs.declared.calls.Mode.{Mode}
use Rattle.histar_rules.specs.Sound.{root_number}
use Rattle.histar_layout.specs.Listing.{is_directory, object_of}
use Rattle.histar_layout.specs.declared.entry.Target.{Target}
use Rattle.histar_flat.specs.Accounts.{Accounts}
use Rattle.histar_programs.specs.declared.roots.Place.{Place}
use Rattle.histar_programs.specs.declared.roots.Roots.{Roots}
use Rattle.histar_calls.specs.declared.stat.FoundObject.{FoundObject}
use Rattle.histar_layout.specs.declared.shown.ShownClass.{ShownClass}
use Rattle.histar_programs.specs.Programs.{Program}
use Rattle.histar_programs.specs.Parts.{entry_at, given}
use Rattle.histar_calls.specs.Read.{read_program}
use Rattle.histar_calls.specs.Write.{write_program}
use Rattle.histar_calls.specs.Create.{create_program}
use Rattle.histar_calls.specs.Append.{append_program}
use Rattle.histar_calls.specs.Mkdir.{mkdir_program}
use Rattle.histar_calls.specs.ListCall.{list_program}
use Rattle.histar_layout.specs.ShownClass.{class_shown}
use Rattle.histar_calls.specs.StatCall.{find_object, class_reply, stat_program}
use Rattle.histar_programs.specs.Laws.{RepliesToRefusals}
use Rattle.histar_calls.specs.Laws.{CallsReplyToRefusals}
use Rattle.histar_programs.proofs.RepliesOfParts.{room_replies, file_replies, walk_replies, place_replies, look_replies}
use Rattle.histar_programs.proofs.RepliesOfParts.{denial_has_reply, denial_of_write_has_reply}

-- the search for an object replies to its refusals
object_replies : (roots : Roots) (path : Path) (rest : FoundObject → Program)
    → ((object : FoundObject) → RepliesToRefusals (rest object)) → RepliesToRefusals (find_object roots path rest)
unfolding find_object
object_replies roots [] rest obeys = obeys (record { container = root_number; object = roots.slash.container; is_directory = true })
object_replies roots (name ∷ parent) rest obeys = place_replies roots parent _ (λ place. look_replies place name _ (λ target. by place target))
  where
    by : (place : Place) (target : Option Target)
        → RepliesToRefusals (given (entry_at target) (λ found. rest (record {
          container = place.container;
          object = object_of found;
          is_directory = is_directory found;
        })))
    by place None = (refl, refl)
    by place (Some target) = obeys (record { container = place.container; object = object_of target; is_directory = is_directory target })

-- the reply that shows a class is no refusal
class_replies : (is_directory : Bool) (class : Option ShownClass) → RepliesToRefusals (class_reply is_directory class)
class_replies is_directory None = (refl, refl)
class_replies is_directory (Some class) = (refl, refl)

read_program_replies : (roots : Roots) (path : Path) → RepliesToRefusals (read_program roots path)
unfolding read_program
read_program_replies roots path = file_replies roots path _ (λ file. ((λ bytes. (refl, refl)), denial_has_reply))

write_program_replies : (roots : Roots) (path : Path) (bytes : List ℕ) → RepliesToRefusals (write_program roots path bytes)
unfolding write_program
write_program_replies roots path bytes = file_replies roots path _ (λ file. ((λ done. (refl, refl)), denial_of_write_has_reply))

create_program_replies : (accounts : Accounts) (roots : Roots) (path : Path) (mode : Mode)
    → RepliesToRefusals (create_program accounts roots path mode)
unfolding create_program
create_program_replies accounts roots path mode =
    room_replies roots path _ (λ room. (
      (λ own. ((λ file. ((λ done. (refl, refl)), denial_of_write_has_reply)), denial_has_reply)),
      denial_has_reply,
    ))

append_program_replies : (roots : Roots) (path : Path) (bytes : List ℕ) → RepliesToRefusals (append_program roots path bytes)
unfolding append_program
append_program_replies roots path bytes = file_replies roots path _ (λ file. ((λ done. (refl, refl)), denial_of_write_has_reply))

mkdir_program_replies : (accounts : Accounts) (roots : Roots) (path : Path) (mode : Mode) → RepliesToRefusals (mkdir_program accounts roots path mode)
unfolding mkdir_program
mkdir_program_replies accounts roots path mode =
    room_replies roots path _ (λ room. (
      (λ own. (
        (λ container. ((λ listing. ((λ done. (refl, refl)), denial_of_write_has_reply)), denial_has_reply)),
        denial_has_reply,
      )),
      denial_has_reply,
    ))

list_program_replies : (roots : Roots) (path : Path) → RepliesToRefusals (list_program roots path)
unfolding list_program
list_program_replies roots path = walk_replies roots path _ (λ directory. (refl, refl))

stat_program_replies : (accounts : Accounts) (roots : Roots) (path : Path) → RepliesToRefusals (stat_program accounts roots path)
unfolding stat_program
stat_program_replies accounts roots path =
    object_replies roots path _
    (λ object. ((λ label. class_replies object.is_directory (class_shown accounts label)), denial_has_reply))

-- the programs of the calls reply to their refusals
pub calls_reply_to_refusals : CallsReplyToRefusals
calls_reply_to_refusals = record {
  read = read_program_replies;
  write = write_program_replies;
  create = create_program_replies;
  append = append_program_replies;
  mkdir = mkdir_program_replies;
  list = list_program_replies;
  stat = stat_program_replies;
}
