-- What rights mean: how they follow from those of the directory, which lines would be answered, and which processes a table has.
use Rattle.std.specs.Prelude.{◌≡◌, ℕ, ◌≤◌, ◌↔◌, Bool, true, false, nat_lt, List, [], ◌∷◌, ◌++◌, length, Option, None, Some, is_some}
use Rattle.histar_flat.specs.declared.calls.CallLine.{CallLine}
use Rattle.histar_flat.specs.declared.calls.Mode.{Mode}
use Rattle.histar_flat.specs.declared.calls.UnixCall.TheVariants.{Append, Create, Stat, Rmtree}
use Rattle.histar_flat.specs.declared.replies.Reply.{Reply}
use Rattle.histar_flat.specs.declared.replies.Reply.TheVariants.{Refused, Gone}
use Rattle.histar_flat.specs.Words.{Name, Path, ProcName}
use Rattle.histar_flat.specs.Accounts.{Accounts}
use Rattle.histar_flat.specs.Files.{get}
use Rattle.histar_flat.specs.Classes.{Process, may_read, may_write, class_made}
use Rattle.histar_flat.specs.FlatState.{Flat, Node, IsTree, is_dir, is_there, bytes_at, entries_in}
use Rattle.histar_flat.specs.FlatCalls.{most_bytes, most_entries, refused, running}
use Rattle.histar_flat.specs.Meaning.{boot, flat_end, meaning}
use Rattle.histar_rights.specs.declared.rights.Rights.{Rights}
use Rattle.histar_rights.specs.Running.{HaveShownNames, AreRunning, running_in}
use Rattle.histar_rights.specs.Rights.{reading_call, may_make_in, above_root, rights_at, rights_below, rights_spelled, rights_text}

-- no file has more bytes than a file may have
abbrev pub HaveFewBytes : Flat → Type 0
HaveFewBytes f = (q : Path) → length (bytes_at f q) ≤ most_bytes

-- the rights at a path, or those above `/` if nothing is there
abbrev pub rights_or : Accounts → Flat → ProcName → Process → Path → Option Node → Rights
rights_or accounts f me p d None = above_root
rights_or accounts f me p d (Some above) = rights_at accounts f me p d above

-- the rights at the directory above a path
abbrev pub rights_above : Accounts → Flat → ProcName → Process → Path → Rights
rights_above accounts f me p [] = above_root
rights_above accounts f me p (n ∷ d) = rights_or accounts f me p d (get f.files d)

-- the rights at a path are those that its directory gives and that its class allows the process
abbrev pub DirectoriesGiveRights : Type 0
DirectoriesGiveRights =
    (accounts : Accounts) (f : Flat) → IsTree f → HaveFewBytes f → (me : ProcName) (p : Process) (q : Path) (node : Node) → get f.files q ≡ Some node
    → rights_at accounts f me p q node ≡ rights_below (rights_above accounts f me p q) (may_read accounts p node.class) (may_write accounts p node.class)

-- the reply is neither a refusal nor `gone`
abbrev pub is_answer : Reply → Bool
is_answer (Refused e) = false
is_answer Gone = false
is_answer reply = true

-- a script with one more line after its calls has the replies that it had, and then one that is neither a refusal nor `gone`
pub record IsAnswered (accounts : Accounts) (calls : List CallLine) (line : CallLine) : Type 0 where
  pub reply : Reply
  pub more : meaning accounts (calls ++ line ∷ []) ≡ meaning accounts calls ++ record { call = line; reply = reply } ∷ []
  pub answered : is_answer reply ≡ true

-- Each letter is there exactly if one more line that uses the right is answered; the line for a directory's `w` makes an entry in it.
pub record LettersAre (accounts : Accounts) (calls : List CallLine) (me : ProcName) (number : ℕ) (q : Path) (node : Node) (r : Rights) : Type 0 where
  pub stat : (r.stat ≡ true) ↔ IsAnswered accounts calls (record { line = number; process = me; call = Stat q })
  pub read : (r.read ≡ true) ↔ IsAnswered accounts calls (record { line = number; process = me; call = reading_call q (is_dir node) })
  pub append : is_dir node ≡ false → (r.write ≡ true) ↔ IsAnswered accounts calls (record { line = number; process = me; call = Append q [] })
  pub create : is_dir node ≡ true → (n : Name) (mode : Mode) (p : Process) → running (flat_end accounts (boot accounts) calls) me ≡ Some p
      → is_there (flat_end accounts (boot accounts) calls) (n ∷ q) ≡ false
      → nat_lt (length (entries_in (flat_end accounts (boot accounts) calls) q)) most_entries ≡ true
      → is_some (class_made accounts p mode) ≡ true
      → (r.write ≡ true) ↔ IsAnswered accounts calls (record { line = number; process = me; call = Create (n ∷ q) mode })
  pub remove : (r.remove ≡ true) ↔ IsAnswered accounts calls (record { line = number; process = me; call = Rmtree q })

-- After the calls of a script, at each path and for each running process, a letter is there exactly if one more line is answered.
abbrev pub LettersAreReplies : Type 0
LettersAreReplies =
    (accounts : Accounts) (calls : List CallLine) (me : ProcName) (p : Process) → running (flat_end accounts (boot accounts) calls) me ≡ Some p
    → (q : Path) (node : Node) → get (flat_end accounts (boot accounts) calls).files q ≡ Some node
    → (number : ℕ) → LettersAre accounts calls me number q node (rights_at accounts (flat_end accounts (boot accounts) calls) me p q node)

-- a process may make an entry of a new name in a directory with room exactly if it may walk into the directory and write it
abbrev pub WritersMakeEntries : Type 0
WritersMakeEntries =
    (accounts : Accounts) (f : Flat) (me : ProcName) (p : Process) (n : Name) (d : Path) (mode : Mode)
    → is_there f (n ∷ d) ≡ false → nat_lt (length (entries_in f d)) most_entries ≡ true → is_some (class_made accounts p mode) ≡ true
    → (refused accounts f me p (Create (n ∷ d) mode) ≡ None) ↔ (may_make_in accounts f p d ≡ true)

-- after the calls of a script the processes of the table are exactly those that run, in the order of their names
abbrev pub RunningAreListed : Type 0
RunningAreListed = (accounts : Accounts) (calls : List CallLine) → AreRunning (flat_end accounts (boot accounts) calls) (running_in (flat_end accounts (boot accounts) calls))

-- after the calls of a script each process that is there has a name that can be shown
abbrev pub ProcessesHaveShownNames : Type 0
ProcessesHaveShownNames = (accounts : Accounts) (calls : List CallLine) → HaveShownNames (flat_end accounts (boot accounts) calls)

-- a text spells rights exactly if it is their letters
abbrev pub LettersSpellRights : Type 0
LettersSpellRights = (text : List ℕ) (r : Rights) → (rights_spelled text ≡ Some r) ↔ (text ≡ rights_text r)
