-- The call by which a process changes what is at a path is done.
use Rattle.std.specs.Prelude.{◌≡◌, ℕ, Bool, true, false, nat_le, nat_lt, ◌&&◌, cond, List, [], ◌∷◌, ◌++◌, length, Option, Some, None, is_some, codes}
use Rattle.std.specs.Prelude.{if◌then◌else◌, refl}
use Rattle.std.proofs.Common.{ap, sym, ◌∙◌, append-nil}
use Rattle.std.proofs.lemmas.Bool.{and_parts, true≢false}
use Rattle.histar_base.specs.Paths.{same}
use Rattle.histar_flat.specs.declared.calls.Mode.TheVariants as modes
use Rattle.histar_flat.specs.declared.calls.UnixCall.{UnixCall}
use Rattle.histar_flat.specs.declared.calls.UnixCall.TheVariants.{Mkdir, Rmtree, Write}
use Rattle.histar_flat.specs.declared.calls.User.{User}
use Rattle.histar_flat.specs.declared.replies.Reply.{Reply}
use Rattle.histar_flat.specs.declared.replies.Reply.TheVariants.{Done}
use Rattle.histar_flat.specs.Words.{Name, Path, ProcName, most_names}
use Rattle.histar_flat.specs.Accounts.{Accounts}
use Rattle.histar_flat.specs.Files.{get}
use Rattle.histar_flat.specs.Classes.{Class, Process, is_free, may_read, may_write}
use Rattle.histar_flat.specs.Classes.Class.{Private, Readable, Open, Scratch, Grouped}
use Rattle.histar_flat.specs.FlatState.{Entry, Flat, IsTree, Node, bytes_at, entries_in, is_dir_at, is_some_and, is_there, with_process, writes}
use Rattle.histar_flat.specs.FlatCalls.{if_running, most_entries, reply_to, running}
use Rattle.histar_flat.proofs.FileLemmas.{same_itself}
use Rattle.histar_secrecy.specs.Ways.{reaches, reads_all, way_to}
use Rattle.histar_secrecy.specs.Logins.{is_password_of, logged_in}
use Rattle.histar_secrecy.specs.Changers.{changes_at}
use Rattle.histar_secrecy.proofs.Exact.{answered, first_is_there, makes, no_directory, none_is_there, removes, writes_it}
use Rattle.histar_secrecy.proofs.Names.{login_of}
use Rattle.histar_leak.specs.LeakLines.{call_line, lines_text, reply_line}
use Rattle.histar_leak.specs.LeakText.{change_lines, login_line}
use Rattle.histar_leak.specs.ChangeCalls.{call_above, change_call, entry_call, made_name, other_bytes, own_call, way_call}
use Rattle.histar_leak.specs.Findings.{replied}
use Rattle.histar_leak.proofs.Replies.{logged, logs_in}

-- a call is of some kind if there is one
abbrev pub IfCall : Option UnixCall → (UnixCall → Type 0) → Type 0
IfCall None P = Unit {0}
IfCall (Some call) P = P call

-- the kind is the same for either of two calls
call_by : (b : Bool) (one other : Option UnixCall) (P : UnixCall → Type 0) → (b ≡ true → IfCall one P) → (b ≡ false → IfCall other P)
    → IfCall (let o : Option UnixCall = if b then one else other in o) P
call_by true one other P is isnt = is refl
call_by false one other P is isnt = isnt refl

-- where a process may write something, it is there
written_there : (accounts : Accounts) (p : Process) (o : Option Node) → is_some_and o (λ n. may_write accounts p n.class) ≡ true
    → is_some_and o (λ n. true) ≡ true
written_there accounts p None h = absurd (true≢false (sym h))
written_there accounts p (Some n) h = refl

changed_there : (accounts : Accounts) (f : Flat) (p : Process) (path : Path) → changes_at accounts f p path ≡ true → is_there f path ≡ true
changed_there accounts f p [] h = written_there accounts p (get f.files []) h
changed_there accounts f p (n ∷ d) h =
    written_there accounts p (get f.files (n ∷ d)) (and_parts (writes accounts f p (n ∷ d)) (reaches accounts f p d) h).0

-- the bytes that are written fit into a file
short_bytes : (bytes : List ℕ) → nat_le (length (other_bytes bytes)) 4096 ≡ true
short_bytes bytes = by (same bytes (codes "0"))
  where
    by : (b : Bool) → nat_le (length (let l : List ℕ = if b then codes "1" else codes "0" in l)) 4096 ≡ true
    by true = refl
    by false = refl

module _ (accounts : Accounts) (f : Flat) (tree : IsTree f) (me : ProcName) (p : Process) (runs : running f me ≡ Some p) where
  -- the call is done
  abbrev pub IsDone : UnixCall → Type 0
  IsDone call = reply_to accounts f me call ≡ Done

  -- the call by an entry
  by_entry : (d : Path) (name : Name) → is_dir_at f d ≡ true → changes_at accounts f p d ≡ true → (es : List Entry) → entries_in f d ≡ es
      → IfCall (entry_call es d name) IsDone
  by_entry d name dir change [] e =
      call_by (nat_lt (length d) most_names) (Some (Mkdir (name ∷ d) modes.Open)) None IsDone
      (λ t. answered accounts f tree me p runs (Mkdir (name ∷ d) modes.Open)
      (makes accounts f tree me p runs name d dir change (none_is_there f d name e) (ap (λ l. nat_lt (length l) most_entries) e)))
      (λ t. tt)
  by_entry d name dir change (x ∷ es) e =
      answered accounts f tree me p runs (Rmtree (x.0 ∷ d)) (removes accounts f tree me p runs x.0 d (first_is_there f d x es e) change)

  -- the call by an entry on the way
  by_way : (n : Name) (d : Path) → is_dir_at f d ≡ true → changes_at accounts f p d ≡ true → IfCall (way_call accounts f n d) IsDone
  by_way n d dir change =
      call_by (is_there f (n ∷ d)) (Some (Rmtree (n ∷ d)))
      (if nat_lt (length (entries_in f d)) most_entries then Some (Mkdir (n ∷ d) modes.Open) else entry_call (entries_in f d) d n) IsDone
      (λ there. answered accounts f tree me p runs (Rmtree (n ∷ d)) (removes accounts f tree me p runs n d there change))
      (λ absent. call_by (nat_lt (length (entries_in f d)) most_entries) (Some (Mkdir (n ∷ d) modes.Open)) (entry_call (entries_in f d) d n) IsDone
      (λ room. answered accounts f tree me p runs (Mkdir (n ∷ d) modes.Open) (makes accounts f tree me p runs n d dir change absent room))
      (λ full. by_entry d n dir change (entries_in f d) refl))

  -- the call by what is above
  by_above : (path : Path) → IfCall (call_above accounts f p path) IsDone
  by_above [] = tt
  by_above (n ∷ d) =
      call_by (changes_at accounts f p d && is_dir_at f d) (way_call accounts f n d) (call_above accounts f p d) IsDone
      (λ h. let parts = and_parts (changes_at accounts f p d) (is_dir_at f d) h in by_way n d parts.1 parts.0)
      (λ h. by_above d)

  -- the call by what is there
  by_file : (path : Path) → is_dir_at f path ≡ false → changes_at accounts f p path ≡ true → IsDone (Write path (other_bytes (bytes_at f path)))
  by_file [] file change = absurd (true≢false (sym tree.root ∙ file))
  by_file (n ∷ d) file change =
      answered accounts f tree me p runs (Write (n ∷ d) (other_bytes (bytes_at f (n ∷ d))))
      (writes_it accounts f tree me p runs n d (no_directory (get f.files (n ∷ d)) (changed_there accounts f p (n ∷ d) change) file) change
      (other_bytes (bytes_at f (n ∷ d))) (short_bytes (bytes_at f (n ∷ d))))

  by_own : (path : Path) → changes_at accounts f p path ≡ true → IfCall (own_call accounts f path) IsDone
  by_own path change =
      call_by (is_dir_at f path) (entry_call (entries_in f path) path made_name) (Some (Write path (other_bytes (bytes_at f path)))) IsDone
      (λ dir. by_entry path made_name dir change (entries_in f path) refl) (λ file. by_file path file change)

  -- The call by which a process changes what is at a path is done.
  pub change_done : (path : Path) → IfCall (change_call accounts f path p) IsDone
  change_done path =
      call_by (changes_at accounts f p path && is_some (own_call accounts f path)) (own_call accounts f path) (call_above accounts f p path) IsDone
      (λ h. by_own path (and_parts (changes_at accounts f p path) (is_some (own_call accounts f path)) h).0)
      (λ h. by_above path)

-- the line of a call that is done, if there is a call
abbrev pub done_text : ProcName → Option UnixCall → List ℕ
done_text me None = []
done_text me (Some call) = replied (me, call) Done

-- the lines of a call that is done
lines_done : (accounts : Accounts) (f : Flat) (me : ProcName) (o : Option UnixCall) → IfCall o (λ call. reply_to accounts f me call ≡ Done)
    → lines_text accounts f (change_lines me o) ≡ done_text me o
lines_done accounts f me None h = refl
lines_done accounts f me (Some call) h =
    append-nil (call_line (me, call) ++ reply_line (reply_to accounts f me call)) ∙ ap (λ (r : Reply). call_line (me, call) ++ reply_line r) h

pub change_lines_done : (accounts : Accounts) (f : Flat) → IsTree f → (me : ProcName) (p : Process) → running f me ≡ Some p → (path : Path)
    → lines_text accounts f (change_lines me (change_call accounts f path p)) ≡ done_text me (change_call accounts f path p)
change_lines_done accounts f tree me p runs path =
    lines_done accounts f me (change_call accounts f path p) (change_done accounts f tree me p runs path)

-- ---- after a login

-- the process with another life: its rights are the same
abbrev pub with_life : Process → Option ℕ → ℕ → Process
with_life p exited born = record p { exited = exited; born = born }

module _ (accounts : Accounts) (f : Flat) (p : Process) (x : Option ℕ) (born : ℕ) where
  abbrev q : Process
  q = with_life p x born

  reads_same : (class : Class) → may_read accounts q class ≡ may_read accounts p class
  reads_same (Private owner) = refl
  reads_same (Readable owner) = refl
  reads_same Open = refl
  reads_same (Scratch owner jobs) = refl
  reads_same (Grouped group) = refl

  writes_same : (class : Class) → may_write accounts q class ≡ may_write accounts p class
  writes_same (Private owner) = refl
  writes_same (Readable owner) = refl
  writes_same Open = refl
  writes_same (Scratch owner jobs) = refl
  writes_same (Grouped group) = refl

  writes_there : (o : Option Node) → is_some_and o (λ n. may_write accounts q n.class) ≡ is_some_and o (λ n. may_write accounts p n.class)
  writes_there None = refl
  writes_there (Some n) = writes_same n.class

  reads_way : (way : List Class) → reads_all accounts way q ≡ reads_all accounts way p
  reads_way [] = refl
  reads_way (class ∷ way) = λ i. reads_same class i && reads_way way i

  changes_same : (d : Path) → changes_at accounts f q d ≡ changes_at accounts f p d
  changes_same [] = writes_there (get f.files [])
  changes_same (n ∷ d) = λ i. writes_there (get f.files (n ∷ d)) i && reads_way (way_to f d) i

  above_same : (path : Path) → call_above accounts f q path ≡ call_above accounts f p path
  above_same [] = refl
  above_same (n ∷ d) = λ i. if changes_same d i && is_dir_at f d then way_call accounts f n d else above_same d i

  pub call_same : (path : Path) → change_call accounts f path q ≡ change_call accounts f path p
  call_same path = λ i. if changes_same path i && is_some (own_call accounts f path) then own_call accounts f path else above_same path i

-- a process in no job has no jobs
no_jobs : (chain : List ProcName) → (let b : Bool = elim chain [ [] ↦ true | job ∷ jobs ↦ false ] in b) ≡ true → chain ≡ []
no_jobs [] h = refl
no_jobs (job ∷ jobs) h = absurd (true≢false (sym h))

-- a running process has not exited
not_exited : (o : Option Process) (p : Process) → if_running o ≡ Some p → p.exited ≡ None
not_exited None p h = absurd (cc)
not_exited (Some r) p h = by r.exited refl h
  where
    by : (x : Option ℕ) → r.exited ≡ x → (let z : Option Process = elim x [ None ↦ Some r | Some n ↦ None ] in z) ≡ Some p → p.exited ≡ None
    by None e h = let one : r ≡ p = cc in ap (λ (z : Process). z.exited) (sym one) ∙ e
    by (Some n) e h = absurd (cc)

module _ (accounts : Accounts) (f : Flat) (tree : IsTree f) (me : ProcName) (p : Process) (runs : running f me ≡ Some p) (free : is_free p ≡ true)
    (user : User) (right : is_password_of accounts user.name user.password ≡ true) where
  abbrev new : Process
  new = login_of p user.name

  abbrev after : Flat
  after = with_process f me new

  tree_after : IsTree after
  tree_after = record { root = tree.root; below = tree.below }

  runs_after : running after me ≡ Some new
  runs_after =
      ap (λ b. if_running (cond b (Some new) (f.processes me))) (same_itself me)
      ∙ ap (λ (x : Option ℕ). (let o : Option Process = elim x [ None ↦ Some new | Some n ↦ None ] in o)) (not_exited (f.processes me) p runs)

  -- it has the rights of a process that has just logged in
  new_is : new ≡ with_life (logged_in user.name) p.exited p.born
  new_is = ap (λ (chain : List ProcName). record new { chain = chain }) (no_jobs p.chain free)

  call_is : (path : Path) → change_call accounts after path new ≡ change_call accounts f path (logged_in user.name)
  call_is path = ap (change_call accounts f path) new_is ∙ call_same accounts f (logged_in user.name) p.exited p.born path

  -- A process in no job that logs in, and changes what is at the path as the user does, is answered `ok` twice.
  pub login_change_lines : (path : Path)
      → lines_text accounts f (login_line me user ∷ change_lines me (change_call accounts f path (logged_in user.name)))
      ≡ replied (login_line me user) Done ++ done_text me (change_call accounts f path (logged_in user.name))
  login_change_lines path =
      (λ i. call_line (login_line me user) ++ reply_line (logs_in accounts f me p runs free user right i)
      ++ lines_text accounts (logged accounts f me p runs free user right i) (change_lines me (change_call accounts f path (logged_in user.name))))
      ∙ ap (λ (o : Option UnixCall). replied (login_line me user) Done ++ lines_text accounts after (change_lines me o))
      (sym (call_is path))
      ∙ ap (λ t. replied (login_line me user) Done ++ t)
      (change_lines_done accounts after tree_after me new runs_after path ∙ ap (done_text me) (call_is path))
