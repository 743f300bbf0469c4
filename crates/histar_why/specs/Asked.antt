-- What a call needs, part by part, without the bytes and the password that it has.
use Rattle.std.specs.Prelude.{◌≡◌, ℕ, List, [], ◌∷◌, length, Option, None, Some}
use Rattle.histar_flat.specs.declared.calls.CallLine.{CallLine}
use Rattle.histar_flat.specs.declared.calls.Mode.{Mode}
use Rattle.histar_flat.specs.declared.calls.Mode.TheVariants.{Open}
use Rattle.histar_flat.specs.declared.calls.UnixCall.{UnixCall}
use Rattle.histar_flat.specs.declared.calls.UnixCall.TheVariants.{Create, Mkdir, Read, Write, Append}
use Rattle.histar_flat.specs.declared.calls.UnixCall.TheVariants.{List as ListCall, Stat, Unlink, Rmdir, Rmtree}
use Rattle.histar_flat.specs.declared.calls.UnixCall.TheVariants.{Rename, Spawn, Status, Kill, Login, Wrap}
use Rattle.histar_flat.specs.declared.replies.Errno.TheVariants.{EISDIR, EEXIST, EBUSY}
use Rattle.histar_flat.specs.Words.{Name, ProcName}
use Rattle.histar_flat.specs.CallRules.{path_of}
use Rattle.histar_why.specs.declared.asked.Kept.TheVariants.{All, Nothing}
use Rattle.histar_why.specs.declared.asked.Part.{Part}
use Rattle.histar_why.specs.declared.asked.Part.TheVariants.{NotRoot, Walk, Exists, IsFile, IsDirectory, Absent}
use Rattle.histar_why.specs.declared.asked.Part.TheVariants.{AbsentBeside, MayRead, MayWrite, MayWriteAbove}
use Rattle.histar_why.specs.declared.asked.Part.TheVariants.{HasRoomAbove, IsEmpty, Fits, OfProcess}
use Rattle.histar_why.specs.declared.asked.ProcessPart.TheVariants.{MayMake, HasChildLeft, HasNumberLeft, Found}
use Rattle.histar_why.specs.declared.asked.ProcessPart.TheVariants.{IsChild, IsUser, HasPassword, InNoJob, IsSomebody}
use Rattle.histar_why.specs.declared.asked.Asked.{Asked}

-- the mode of what a call makes, or open
abbrev pub mode_of : UnixCall → Mode
mode_of (Create q mode) = mode
mode_of (Mkdir q mode) = mode
mode_of call = Open

-- the bytes of a call
abbrev pub bytes_of : UnixCall → List ℕ
bytes_of (Write q bytes) = bytes
bytes_of (Append q bytes) = bytes
bytes_of call = []

-- the name that a call gives to what is at its path
abbrev pub beside_of : UnixCall → Option Name
beside_of (Rename q name) = Some name
beside_of call = None

-- the user as whom a call logs in
abbrev pub user_of : UnixCall → Option Name
user_of (Login name password) = Some name
user_of call = None

-- the process that a call names, or process 0
abbrev pub other_of : UnixCall → ProcName
other_of (Status name) = name
other_of (Kill name) = name
other_of call = []

-- what a call needs that makes a file or a directory
abbrev pub parts_of_entry : List Part
parts_of_entry = NotRoot EEXIST ∷ Walk ∷ Absent ∷ HasRoomAbove ∷ MayWriteAbove ∷ OfProcess MayMake ∷ []

-- what a call needs that puts bytes into a file
abbrev pub parts_of_bytes : UnixCall → List Part
parts_of_bytes (Append q bytes) = NotRoot EISDIR ∷ Walk ∷ Exists ∷ IsFile ∷ MayWrite ∷ Fits All ∷ []
parts_of_bytes call = NotRoot EISDIR ∷ Walk ∷ Exists ∷ IsFile ∷ MayWrite ∷ Fits Nothing ∷ []

-- what a call needs that only looks at a path
abbrev pub parts_of_look : UnixCall → List Part
parts_of_look (Read q) = NotRoot EISDIR ∷ Walk ∷ Exists ∷ IsFile ∷ MayRead ∷ []
parts_of_look (ListCall q) = Walk ∷ Exists ∷ IsDirectory ∷ MayRead ∷ []
parts_of_look call = Walk ∷ Exists ∷ []

-- what a call needs that removes or renames what is at a path
abbrev pub parts_of_removal : UnixCall → List Part
parts_of_removal (Unlink q) = NotRoot EBUSY ∷ Walk ∷ Exists ∷ IsFile ∷ MayWriteAbove ∷ []
parts_of_removal (Rmdir q) = NotRoot EBUSY ∷ Walk ∷ Exists ∷ IsDirectory ∷ MayRead ∷ IsEmpty ∷ MayWriteAbove ∷ []
parts_of_removal (Rename q name) = NotRoot EBUSY ∷ Walk ∷ Exists ∷ AbsentBeside ∷ MayWriteAbove ∷ []
parts_of_removal call = NotRoot EBUSY ∷ Walk ∷ Exists ∷ MayWriteAbove ∷ []

-- what a call needs that starts a job
abbrev pub parts_of_wrap : List Part
parts_of_wrap = OfProcess HasChildLeft ∷ OfProcess HasNumberLeft ∷ NotRoot EEXIST ∷ Walk ∷ Absent ∷ HasRoomAbove ∷
    MayWriteAbove ∷ OfProcess IsSomebody ∷ []

-- what a call on processes needs
abbrev pub parts_of_process : UnixCall → List Part
parts_of_process Spawn = OfProcess HasChildLeft ∷ OfProcess HasNumberLeft ∷ []
parts_of_process (Status name) = OfProcess Found ∷ []
parts_of_process (Kill name) = OfProcess Found ∷ OfProcess IsChild ∷ []
parts_of_process (Login name password) = OfProcess IsUser ∷ OfProcess InNoJob ∷ OfProcess HasPassword ∷ []
parts_of_process (Wrap q) = parts_of_wrap
parts_of_process call = []

-- what a call needs, in the order of its tests
abbrev pub parts_of : UnixCall → List Part
parts_of (Create q mode) = parts_of_entry
parts_of (Mkdir q mode) = parts_of_entry
parts_of (Write q bytes) = parts_of_bytes (Write q bytes)
parts_of (Append q bytes) = parts_of_bytes (Append q bytes)
parts_of (Read q) = parts_of_look (Read q)
parts_of (ListCall q) = parts_of_look (ListCall q)
parts_of (Stat q) = parts_of_look (Stat q)
parts_of (Unlink q) = parts_of_removal (Unlink q)
parts_of (Rmdir q) = parts_of_removal (Rmdir q)
parts_of (Rmtree q) = parts_of_removal (Rmtree q)
parts_of (Rename q name) = parts_of_removal (Rename q name)
parts_of call = parts_of_process call

-- this is what a call line asks for
pub record IsAsked (line : CallLine) (asked : Asked) : Type 0 where
  pub number : asked.line ≡ line.line
  pub by : asked.process ≡ line.process
  pub path : asked.path ≡ path_of line.call
  pub mode : asked.mode ≡ mode_of line.call
  pub new : asked.new ≡ length (bytes_of line.call)
  pub beside : asked.beside ≡ beside_of line.call
  pub user : asked.user ≡ user_of line.call
  pub other : asked.other ≡ other_of line.call
  pub parts : asked.parts.now ≡ parts_of line.call
