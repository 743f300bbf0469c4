-- The program of `stat PATH`.
use Rattle.std.specs.Prelude.{Bool, true, [], ◌∷◌, Option, None, Some}
use Rattle.histar_flat.specs.Words.{Path}
use Rattle.histar_flat.specs.Accounts.{Accounts}
use Rattle.histar_flat.specs.declared.replies.Errno.TheVariants.{ENOENT}
use Rattle.histar_flat.specs.declared.replies.Reply.TheVariants.{Refused, Stats}
use Rattle.histar_rules.specs.Sound.{root_number}
use Rattle.histar_rules.specs.declared.raw.RawCall.TheVariants.{LabelOf}
use Rattle.histar_layout.specs.Listing.{is_directory, object_of}
use Rattle.histar_programs.specs.declared.roots.Roots.{Roots}
use Rattle.histar_layout.specs.declared.shown.ShownClass.{ShownClass}
use Rattle.histar_calls.specs.declared.stat.FoundObject.{FoundObject}
use Rattle.histar_layout.specs.ShownClass.{class_shown, stat_of}
use Rattle.histar_programs.specs.Programs.{Program, Part}
use Rattle.histar_programs.specs.Programs.Program.{Answers}
use Rattle.histar_programs.specs.Parts.{◌>>=◌, ask, given, entry_at, find_place, look_in}

-- The object at a path, and the container that links it. `/` is linked by the root container; else the walk is made,
-- and the last name must lead somewhere.
unfoldable pub find_object : Roots → Path → Part FoundObject
find_object roots [] rest = rest (record { container = root_number; object = roots.slash.container; is_directory = true })
find_object roots (name ∷ parent) rest = do
  place ← find_place roots parent
  found ← look_in place name
  target ← given (entry_at found)
  rest (record { container = place.container; object = object_of target; is_directory = is_directory target })

-- the reply to a `stat` of an object of this class; an object whose label is of no class is neither a file nor a directory
abbrev pub class_reply : Bool → Option ShownClass → Program
class_reply is_directory None = Answers (Refused ENOENT)
class_reply is_directory (Some class) = Answers (Stats (stat_of class is_directory))

-- the object is found, and its label is asked for, which determines the class
unfoldable pub stat_program : Accounts → Roots → Path → Program
stat_program accounts roots path = do
  object ← find_object roots path
  label ← ask (LabelOf object.container object.object)
  class_reply object.is_directory (class_shown accounts label)
