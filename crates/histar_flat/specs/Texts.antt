-- How paths, processes and modes are written, and the printed text of a reply.
use Rattle.std.specs.Prelude.{ℕ, Bool, List, [], ◌∷◌, ◌++◌, Option, None, Some, codes, if◌then◌else◌}
use Rattle.std.specs.List.{flat_map}
use Rattle.std.specs.Fmt.{decimal}
use Rattle.histar_flat.specs.declared.calls.Mode.{Mode}
use Rattle.histar_flat.specs.declared.calls.Mode.TheVariants.{Private, Readable, Open, Group}
use Rattle.histar_flat.specs.declared.replies.Errno.{Errno}
use Rattle.histar_flat.specs.declared.replies.Errno.TheVariants.{ENOENT, ENOTDIR, EISDIR, EEXIST, EACCES, EPERM, ENOTEMPTY, EBUSY, ENOSPC, EFBIG}
use Rattle.histar_flat.specs.declared.replies.Errno.TheVariants.{ESRCH, EAGAIN, EAUTH}
use Rattle.histar_flat.specs.declared.replies.FileMode.{FileMode}
use Rattle.histar_flat.specs.declared.replies.FileMode.TheVariants as file_modes
use Rattle.histar_flat.specs.declared.replies.Stat.{Stat}
use Rattle.histar_flat.specs.declared.replies.Reply.{Reply}
use Rattle.histar_flat.specs.declared.replies.Reply.TheVariants.{Done, Data, Entries, Stats, Child, Running, Exited, User, Refused, Gone}
use Rattle.histar_flat.specs.Words.{Name, Path, ProcName}
use Rattle.histar_flat.specs.FlatState.{Entry}

-- the names of a path, each after a slash
abbrev pub names_text : Path → List ℕ
names_text [] = []
names_text (n ∷ d) = names_text d ++ codes "/" ++ n

-- the text of a path
abbrev pub path_text : Path → List ℕ
path_text [] = codes "/"
path_text (n ∷ d) = names_text (n ∷ d)

-- the text of a process's name: 0, and a dot before each further number
abbrev pub process_text : ProcName → List ℕ
process_text [] = codes "0"
process_text (n ∷ p) = process_text p ++ codes "." ++ decimal n

-- the text of a mode
abbrev pub mode_text : Mode → List ℕ
mode_text Private = codes "private"
mode_text Readable = codes "readable"
mode_text Open = codes "open"
mode_text (Group name) = codes "group:" ++ name

-- the name of an errno
abbrev pub errno_text : Errno → List ℕ
errno_text ENOENT = codes "ENOENT"
errno_text ENOTDIR = codes "ENOTDIR"
errno_text EISDIR = codes "EISDIR"
errno_text EEXIST = codes "EEXIST"
errno_text EACCES = codes "EACCES"
errno_text EPERM = codes "EPERM"
errno_text ENOTEMPTY = codes "ENOTEMPTY"
errno_text EBUSY = codes "EBUSY"
errno_text ENOSPC = codes "ENOSPC"
errno_text EFBIG = codes "EFBIG"
errno_text ESRCH = codes "ESRCH"
errno_text EAGAIN = codes "EAGAIN"
errno_text EAUTH = codes "EAUTH"

-- the text of an owner: a hyphen if there is none
abbrev pub owner_text : Option Name → List ℕ
owner_text None = codes "-"
owner_text (Some owner) = owner

-- the text of the mode of a file or a directory
abbrev pub file_mode_text : FileMode → List ℕ
file_mode_text file_modes.Private = codes "private"
file_mode_text file_modes.Readable = codes "readable"
file_mode_text file_modes.Open = codes "open"
file_mode_text file_modes.Scratch = codes "scratch"
file_mode_text (file_modes.Group name) = codes "group:" ++ name

-- the text of what is at a path: its kind, its owner and its mode
abbrev pub stat_text : Stat → List ℕ
stat_text stat = (if stat.is_directory then codes "dir " else codes "file ") ++ owner_text stat.owner ++ codes " " ++ file_mode_text stat.mode

-- the text of an entry in a list: a directory's name has a slash after it
abbrev pub entry_text : Entry → List ℕ
entry_text e = codes " " ++ e.0 ++ (if e.1 then codes "/" else [])

-- the text after the user of a process that is in a job
abbrev pub confined_text : Bool → List ℕ
confined_text confined = if confined then codes " confined" else []

-- the text of a reply: the bytes that were read are after `= `, also if there are none
abbrev pub reply_text : Reply → List ℕ
reply_text Done = codes "ok"
reply_text (Data bytes) = codes "= " ++ bytes
reply_text (Entries entries) = codes "ok" ++ flat_map entry_text entries
reply_text (Stats stat) = codes "ok " ++ stat_text stat
reply_text (Child process) = codes "ok " ++ process_text process
reply_text Running = codes "ok running"
reply_text (Exited n) = codes "ok exited " ++ decimal n
reply_text (User name confined) = codes "ok " ++ name ++ confined_text confined
reply_text (Refused e) = errno_text e
reply_text Gone = codes "gone"
