-- What is kept of the replies to a script while it runs.
use Rattle.std.specs.Prelude.{ℕ, Bool, false, ◌&&◌, ◌||◌, List, [], ◌∷◌, ◌++◌, Option, None, Some, option_map, if◌then◌else◌}
use Rattle.histar_flat.specs.declared.calls.UnixCall.{UnixCall}
use Rattle.histar_flat.specs.declared.calls.UnixCall.TheVariants.{Unlink, Rmdir, Rmtree, Rename, Wrap}
use Rattle.histar_flat.specs.declared.replies.Reply.{Reply}
use Rattle.histar_flat.specs.declared.replies.Reply.TheVariants.{Done, Child}
use Rattle.histar_flat.specs.Words.{Path, ProcName}
use Rattle.histar_base.specs.Paths.{same}
use Rattle.histar_flat.specs.PathOrder.{parent}
use Rattle.histar_flat.specs.FlatState.{moved}
use Rattle.histar_flat.specs.Texts.{reply_text}
use Rattle.histar_flat.specs.Meaning.{RepliedCall}
use Rattle.histar_noninterference.specs.Comparison.{is_outsider, is_wrap_reply}
use Rattle.histar_noninterference.specs.Following.{followed, left_without}
use Rattle.histar_noninterference.specs.Isolation.{is_rmdir_or_wrap, may_reveal}
use Rattle.histar_noninterference.specs.declared.replies.ShownReply.{ShownReply}

-- whether a `wrap` started the job, the replies to outsiders as they are printed, those to the `rmdir`s and `wrap`s by which
-- the process that started it can reveal it, and where the job's directory is
pub record RepliesModel : Type 0 where
  pub is_started : Bool
  pub shown : List ShownReply
  pub revealing : List ShownReply
  pub directory : Option Path

-- what is kept before the first line
abbrev pub no_replies : RepliesModel
no_replies = record { is_started = false; shown = []; revealing = []; directory = None }

-- these replies with one more to a line, if the test holds
abbrev pub with_shown : Bool → List ShownReply → ℕ → Reply → List ShownReply
with_shown test replies line reply =
    if test then replies ++ (record { line = line; text = reply_text reply }) ∷ [] else replies

-- the call is a `rmdir` or a `wrap` of the process that started the job, and the job has started
abbrev pub reveals : ProcName → Bool → ProcName → UnixCall → Bool
reveals job is_started process call = is_started && (same (parent job) process && is_rmdir_or_wrap call)

-- the replies with one more to a line of a process, if it is an outsider
abbrev pub shown_by : ProcName → List ShownReply → ℕ → ProcName → Reply → List ShownReply
shown_by job shown line process reply = with_shown (is_outsider job process) shown line reply

-- what is kept after one more reply
abbrev pub with_reply : ProcName → RepliesModel → RepliedCall → RepliesModel
with_reply job replies a = record {
  is_started = replies.is_started || is_wrap_reply job a.call.call a.reply;
  shown = shown_by job replies.shown a.call.line a.call.process a.reply;
  revealing = with_shown (replies.is_started && may_reveal job a) replies.revealing a.call.line a.reply;
  directory = followed job replies.directory a.call a.reply;
}

-- what is kept after these replies
abbrev pub with_replies : ProcName → RepliesModel → List RepliedCall → RepliesModel
with_replies job replies [] = replies
with_replies job replies (a ∷ answers) = with_replies job (with_reply job replies a) answers

-- the directory in which a call wraps a job
abbrev pub wrap_path : UnixCall → Option Path
wrap_path (Wrap q) = Some q
wrap_path call = None

-- where the job's directory is once a call is done: only removing and renaming matter
abbrev pub once_done : Option Path → UnixCall → Option Path
once_done directory (Unlink q) = left_without q directory
once_done directory (Rmdir q) = left_without q directory
once_done directory (Rmtree q) = left_without q directory
once_done directory (Rename q name) = option_map (moved q (name ∷ parent q)) directory
once_done directory call = directory

-- the reply to a `wrap` in this directory was the job's name
abbrev pub is_start : ProcName → Option Path → Reply → Bool
is_start job (Some q) (Child name) = same job name
is_start job wraps reply = false

-- where the job's directory is after a reply, given where its call wraps a job and where the directory is once the call is done
abbrev pub directory_after : ProcName → Option Path → Option Path → Option Path → Reply → Option Path
directory_after job directory wraps granted Done = granted
directory_after job directory wraps granted reply = if is_start job wraps reply then wraps else directory
