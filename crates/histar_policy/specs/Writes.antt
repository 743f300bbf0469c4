-- What a map from paths to users knows of the writes of a script.
use Rattle.std.specs.Prelude.{◌≡◌, Bool, true, false, not, ◌||◌, List, Option, None, Some, if◌then◌else◌}
use Rattle.std.specs.BTreeMap.{get}
use Rattle.histar_base.specs.Paths.{path_cmp, same}
use Rattle.histar_flat.specs.Words.{Name, Path}
use Rattle.histar_policy.specs.declared.notes.Event.{Event}
use Rattle.histar_policy.specs.declared.notes.Note.{Note}
use Rattle.histar_policy.specs.declared.written.Writer.{Writer}
use Rattle.histar_policy.specs.declared.written.Writer.TheVariants.{One, Several}
use Rattle.histar_policy.specs.declared.written.Written.{Written}
use Rattle.histar_policy.specs.Warnings.{is_write_of_another, is_written_by_another}

-- those that wrote at a path, with one more user
abbrev pub with_writer : Option Writer → Name → Writer
with_writer None user = One user
with_writer (Some (One one)) user = if same one user then One one else Several
with_writer (Some Several) user = Several

-- one of those that wrote at a path is another user than this one
abbrev pub is_other_writer : Name → Option Writer → Bool
is_other_writer maker None = false
is_other_writer maker (Some (One one)) = not (same one maker)
is_other_writer maker (Some Several) = true

-- by the map another user than this one wrote at a path
abbrev pub written_by_another : Written → Name → Path → Bool
written_by_another written maker q = is_other_writer maker (get path_cmp written.writers q)

-- the map has exactly the writes of these call lines
abbrev pub AreWrites : Written → List Note → Type 0
AreWrites written script = (maker : Name) (q : Path) → written_by_another written maker q ≡ is_written_by_another script maker q

-- what a call line wrote was added to a map
abbrev pub AddsWrite : Written → Written → Event → Type 0
AddsWrite old new event =
    (maker : Name) (q : Path) → written_by_another new maker q ≡ (written_by_another old maker q || is_write_of_another maker q event)
