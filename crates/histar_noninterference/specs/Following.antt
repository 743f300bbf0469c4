-- Where the directory of a job is, computed from calls and their replies without the classes of files.
use Rattle.std.specs.Prelude.{◌≡◌, Bool, true, false, cond, List, [], ◌∷◌, Option, None, Some, option_map}
use Rattle.histar_flat.specs.declared.calls.CallLine.{CallLine}
use Rattle.histar_flat.specs.declared.calls.UnixCall.{UnixCall}
use Rattle.histar_flat.specs.declared.calls.UnixCall.TheVariants.{Unlink, Rmdir, Rmtree, Rename, Wrap}
use Rattle.histar_flat.specs.declared.replies.Reply.{Reply}
use Rattle.histar_flat.specs.declared.replies.Reply.TheVariants.{Done}
use Rattle.histar_flat.specs.Words.{Path, ProcName}
use Rattle.histar_flat.specs.PathOrder.{below_path, parent, under_path}
use Rattle.histar_flat.specs.Accounts.{Accounts}
use Rattle.histar_flat.specs.FlatState.{moved}
use Rattle.histar_flat.specs.Meaning.{RepliedCall, boot, flat_end, meaning}
use Rattle.histar_noninterference.specs.Comparison.{is_wrap_reply, lies_in_job}

-- the call was done, with no other answer
abbrev pub is_done : Reply → Bool
is_done Done = true
is_done _ = false

-- the directory, unless it is at the path or below it and is removed
abbrev pub left_without : Path → Option Path → Option Path
left_without q None = None
left_without q (Some directory) = cond (under_path q directory) None (Some directory)

-- where the directory of a job is after a call with this reply: where the `wrap` that started the job made it; nowhere once it, or a
-- directory above it, is removed; and where a rename of it, or of a directory above it, moves it
abbrev pub after_reply : ProcName → Option Path → UnixCall → Reply → Option Path
after_reply job directory (Wrap q) reply = cond (is_wrap_reply job (Wrap q) reply) (Some q) directory
after_reply job directory (Unlink q) reply = cond (is_done reply) (left_without q directory) directory
after_reply job directory (Rmdir q) reply = cond (is_done reply) (left_without q directory) directory
after_reply job directory (Rmtree q) reply = cond (is_done reply) (left_without q directory) directory
after_reply job directory (Rename q name) reply = cond (is_done reply) (option_map (moved q (name ∷ parent q)) directory) directory
after_reply job directory _ reply = directory

-- where it is after a line
abbrev pub followed : ProcName → Option Path → CallLine → Reply → Option Path
followed job directory line reply = after_reply job directory line.call reply

-- where it is after all lines
abbrev pub directory_of : ProcName → Option Path → List RepliedCall → Option Path
directory_of job directory [] = directory
directory_of job directory (a ∷ as') = directory_of job (followed job directory a.call a.reply) as'

-- the path lies below the directory
abbrev pub lies_below : Option Path → Path → Bool
lies_below None q = false
lies_below (Some directory) q = below_path directory q

-- what lies below directories of a job is exactly what lies below the directory that was followed
abbrev pub FindsLeftOut : Type 0
FindsLeftOut = (accounts : Accounts) (calls : List CallLine) (job : ProcName) (q : Path)
    → lies_in_job job (flat_end accounts (boot accounts) calls).files q ≡ lies_below (directory_of job None (meaning accounts calls)) q
