-- What a call changes, and what it answers.
use Rattle.std.specs.Prelude.{ℕ, not, List, [], ◌∷◌, ◌++◌, ◌+◌, Option, None, Some}
use Rattle.histar_flat.specs.declared.calls.Mode.{Mode}
use Rattle.histar_flat.specs.declared.replies.Reply.{Reply}
use Rattle.histar_flat.specs.declared.replies.Reply.TheVariants as replies
use Rattle.histar_flat.specs.Words.{Name, Path, ProcName}
use Rattle.histar_flat.specs.PathOrder.{parent}
use Rattle.histar_flat.specs.Accounts.{Accounts}
use Rattle.histar_flat.specs.Files.{get}
use Rattle.histar_flat.specs.Classes.{Class, Process, is_free, class_made, class_owner, class_mode}
use Rattle.histar_flat.specs.Classes.Class.{Open, Scratch}
use Rattle.histar_flat.specs.FlatState.{Flat, Node, Content, is_dir, bytes_at, entries_in, with_node, with_bytes, without_below, with_renamed}
use Rattle.histar_flat.specs.FlatState.{with_process, with_child, without_process}
use Rattle.histar_flat.specs.FlatState.Content.{Dir}

-- the class that is made; if there is none, the call was refused
abbrev pub class_or_open : Option Class → Class
class_or_open None = Open
class_or_open (Some class) = class

-- the name of the next child
abbrev pub next_child : ProcName → Process → ProcName
next_child me p = (p.born + 1) ∷ me

-- the jobs of a job that the process starts: its own jobs, and one that is named by the next child
abbrev pub inner_chain : ProcName → Process → List ProcName
inner_chain me p = p.chain ++ next_child me p ∷ []

-- what a call changes, at the path that it names or of its process
pub data Effect : Type 0 where
  -- nothing; removes what is at the path, with all below it; spawns a child, in the jobs of its parent; makes a directory of a new job
  -- at the path and a child in that job, and the process holds the job
  Nothing Removes Spawns Wraps : Effect
  -- makes a file or a directory at the path, of a mode
  Makes : Content → Mode → Effect
  -- gives the file at the path the bytes that this makes of its old ones
  Stores : (List ℕ → List ℕ) → Effect
  -- gives what is at the path this name in its directory, with all below it
  Renames : Name → Effect
  -- ends the process with this status
  Exits : ℕ → Effect
  -- makes the process this user's; it then holds no job
  LogsIn : Name → Effect
  -- kills this process, with all processes below it
  Kills : ProcName → Effect

-- what a call answers
pub data ReplyForm : Type 0 where
  -- that it was done; the bytes of the file at the path; the entries of the directory there; kind, owner and mode of what is there
  Done Bytes Listing Attributes : ReplyForm
  -- whose the process is, and whether it is in a job; the name of the new child
  Identity NewChild : ReplyForm
  -- whether the process of this name runs
  StatusOf : ProcName → ReplyForm

-- the reply that shows whether a process runs
abbrev pub life_reply : Option Process → Reply
life_reply None = replies.Gone
life_reply (Some p) = elim p.exited [ None ↦ replies.Running | Some n ↦ replies.Exited n ]

-- the reply that shows kind, owner and mode of a file or a directory
abbrev pub stat_reply : Option Node → Reply
stat_reply None = replies.Gone
stat_reply (Some node) = replies.Stats (record { is_directory = is_dir node; owner = class_owner node.class; mode = class_mode node.class })

module _ (accounts : Accounts) (f : Flat) (me : ProcName) (p : Process) (q : Path) where
  -- the state after an effect, by a call of the process p, whose name is me, that names the path q
  abbrev pub apply : Effect → Flat
  apply Nothing = f
  apply (Makes content mode) = with_node f q (class_or_open (class_made accounts p mode)) content
  apply (Stores new) = with_bytes f q (new (bytes_at f q))
  apply Removes = without_below f q
  apply (Renames name) = with_renamed f q (name ∷ parent q)
  apply Spawns = with_child f me p p.chain
  apply (Exits n) = with_process f me (record p { exited = Some n })
  apply (LogsIn name) = with_process f me (record p { user = name; held = [] })
  apply (Kills name) = without_process f name
  apply Wraps =
      with_child
      (with_node f q (Scratch p.user (inner_chain me p)) Dir)
      me (record p { held = p.held ++ next_child me p ∷ [] }) (inner_chain me p)

-- the reply to the same call with this form of answer
abbrev pub reply_with : Flat → ProcName → Process → Path → ReplyForm → Reply
reply_with f me p q Done = replies.Done
reply_with f me p q Bytes = replies.Data (bytes_at f q)
reply_with f me p q Listing = replies.Entries (entries_in f q)
reply_with f me p q Attributes = stat_reply (get f.files q)
reply_with f me p q (StatusOf name) = life_reply (f.processes name)
reply_with f me p q Identity = replies.User p.user (not (is_free p))
reply_with f me p q NewChild = replies.Child (next_child me p)
