-- The rules of the Unix calls, one line each: what a call needs, with its refusals in their order, what it changes, and what it answers.
use Rattle.std.specs.Prelude.{[], ◌++◌}
use Rattle.histar_flat.specs.declared.calls.UnixCall.{UnixCall}
use Rattle.histar_flat.specs.declared.calls.UnixCall.TheVariants.{Create, Mkdir, Read, Write, Append, List as ListCall, Stat, Unlink, Rmdir, Rmtree}
use Rattle.histar_flat.specs.declared.calls.UnixCall.TheVariants.{Rename, Spawn, Exit, Status, Kill, Whoami, Login, Wrap}
use Rattle.histar_flat.specs.declared.replies.Errno.TheVariants.{ENOENT, ENOTDIR, EISDIR, EEXIST, EACCES, EPERM, ENOTEMPTY, EFBIG, EAUTH}
use Rattle.histar_flat.specs.Words.{Path}
use Rattle.histar_flat.specs.FlatState.Content.{Dir, File}
use Rattle.histar_flat.specs.Needs.{Need, room, file, entry, child}
use Rattle.histar_flat.specs.Needs.Need.{◌then◌, ◌or◌, Nothing, Walk, Found}
use Rattle.histar_flat.specs.Needs.Test.{Exists, IsFile, IsDirectory, AbsentBeside, MayRead, MayWrite, MayWriteAbove, IsEmpty, Fits, MayMake, IsChild}
use Rattle.histar_flat.specs.Needs.Test.{IsUser, HasPassword, InNoJob, IsSomebody}
use Rattle.histar_flat.specs.Effects.{Effect, ReplyForm}
use Rattle.histar_flat.specs.Effects.Effect.{Makes, Stores, Removes, Renames, Spawns, Exits, LogsIn, Kills, Wraps, Nothing as nothing}
use Rattle.histar_flat.specs.Effects.ReplyForm.{Done, Bytes, Listing, Attributes, StatusOf, Identity, NewChild}

-- the rule of a call: the path that it names, or `/` if it names none; what it needs, changes and answers
pub record Rule : Type 0 where
  pub path : Path
  pub needs : Need
  pub effect : Effect
  pub answer : ReplyForm

infix 5 at◌needs◌changes◌answers◌
abbrev pub at◌needs◌changes◌answers◌ : Path → Need → Effect → ReplyForm → Rule
at q needs a changes b answers c = record { path = q; needs = a; effect = b; answer = c }

-- the rule of each call
abbrev pub rule : UnixCall → Rule
rule (Create q mode) = at q needs room then MayMake mode or EPERM changes Makes (File []) mode answers Done
rule (Mkdir q mode) = at q needs room then MayMake mode or EPERM changes Makes Dir mode answers Done
rule (Read q) = at q needs file then MayRead or EACCES changes nothing answers Bytes
rule (Write q bytes) = at q needs file then MayWrite or EACCES then Fits (λ old. bytes) or EFBIG changes Stores (λ old. bytes) answers Done
rule (Append q bytes) = at q needs file then MayWrite or EACCES then Fits (λ old. old ++ bytes) or EFBIG changes Stores (λ old. old ++ bytes) answers Done
rule (ListCall q) = at q needs Walk then Exists or ENOENT then IsDirectory or ENOTDIR then MayRead or EACCES changes nothing answers Listing
rule (Stat q) = at q needs Walk then Exists or ENOENT changes nothing answers Attributes
rule (Unlink q) = at q needs entry then IsFile or EISDIR then MayWriteAbove or EACCES changes Removes answers Done
rule (Rmdir q) = at q needs entry then IsDirectory or ENOTDIR then MayRead or EACCES then IsEmpty or ENOTEMPTY then MayWriteAbove or EACCES changes Removes answers Done
rule (Rmtree q) = at q needs entry then MayWriteAbove or EACCES changes Removes answers Done
rule (Rename q name) = at q needs entry then AbsentBeside name or EEXIST then MayWriteAbove or EACCES changes Renames name answers Done
rule Spawn = at [] needs child changes Spawns answers NewChild
rule (Exit n) = at [] needs Nothing changes Exits n answers Done
rule (Status name) = at [] needs Found name changes nothing answers StatusOf name
rule (Kill name) = at [] needs Found name then IsChild name or EACCES changes Kills name answers Done
rule Whoami = at [] needs Nothing changes nothing answers Identity
rule (Login name password) = at [] needs IsUser name or ENOENT then InNoJob or EACCES then HasPassword name password or EAUTH changes LogsIn name answers Done
rule (Wrap q) = at q needs child then room then IsSomebody or EPERM changes Wraps answers NewChild

-- the path that a call names, or `/` if it names none
abbrev pub path_of : UnixCall → Path
path_of call = (rule call).path
