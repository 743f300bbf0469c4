-- How a line changes the running processes and their names.
use Rattle.std.specs.Prelude.{◌≡◌, ◌⊎◌, ◌+◌, Bool, true, false, ◌&&◌, cond, is_some, List, [], ◌∷◌, ◌++◌, Option, Some, None, refl}
use Rattle.std.proofs.Common.{ap, sym, ◌∙◌, subst, inl, inr}
use Rattle.std.proofs.lemmas.Bool.{true≢false, cases_Bool}
use Rattle.histar_base.specs.Refusals.{◌orelse◌, unless}
use Rattle.histar_flat.specs.declared.calls.UnixCall.{UnixCall}
use Rattle.histar_flat.specs.declared.calls.UnixCall.TheVariants.{Login}
use Rattle.histar_flat.specs.declared.replies.Errno.{Errno}
use Rattle.histar_flat.specs.declared.replies.Errno.TheVariants.{EACCES, EAUTH, ENOENT}
use Rattle.histar_flat.specs.Words.{Name, Password, ProcName}
use Rattle.histar_flat.specs.Accounts.{Accounts, user_named}
use Rattle.histar_flat.specs.Classes.{Process, is_free}
use Rattle.histar_flat.specs.FlatState.{Flat, is_given, is_some_and, with_process}
use Rattle.histar_flat.specs.FlatCalls.{changed, flat_after, flat_by, flat_or, if_running, next_child, running}
use Rattle.histar_flat.specs.Effects.Effect.{LogsIn}
use Rattle.histar_flat.specs.CallRules.{rule}
use Rattle.histar_flat.specs.Laws.{NamesAreGiven}
use Rattle.histar_flat.proofs.Changes.{EachChange, by_line, runs_is_there}
use Rattle.histar_flat.proofs.FileLemmas.{same_name_found}
use Rattle.histar_flat.proofs.GivenNames.{next_is_new}
use Rattle.histar_secrecy.specs.Logins.{is_password_of, logged_in, logs_in_as}

-- a process after the birth of one more child
abbrev pub grown : Process → Process
grown p = record p { born = p.born + 1 }

-- a child that was just born to a process, with these jobs
abbrev pub child_of : Process → List ProcName → Process
child_of p chain = record { user = p.user; chain = chain; held = []; exited = None; born = 0 }

-- a process that has just started a job
abbrev pub starter_of : ProcName → Process → Process
starter_of me p = record p { held = p.held ++ next_child me p ∷ []; born = p.born + 1 }

-- a process that has just logged in as this user
abbrev pub login_of : Process → Name → Process
login_of p name = record p { user = name; held = [] }

-- after a process is put, each running one is that one, or ran before
pub runs_put : (f : Flat) (me : ProcName) (q : Process) (x : ProcName) (y : Process) → running (with_process f me q) x ≡ Some y
    → ((me ≡ x) × (q ≡ y)) ⊎ (running f x ≡ Some y)
runs_put f me q x y e = elim (same_name_found me x) [
  | inl t ↦
      let there : Some q ≡ Some y = runs_is_there (Some q) y (sym (ap (λ b. if_running (cond b (Some q) (f.processes x))) t.0) ∙ e) in
      let one : q ≡ y = cc in
      inl (t.1, one)
  | inr t ↦ inr (sym (ap (λ b. if_running (cond b (Some q) (f.processes x))) t.0) ∙ e)
]

-- a process that runs after a kill ran before
pub runs_kept : (b : Bool) (o : Option Process) (y : Process) → if_running (cond b None o) ≡ Some y → if_running o ≡ Some y
runs_kept true o y e = absurd (cc)
runs_kept false o y e = e

-- if a test of an optional process passes, there is a process
pub some_process : (o : Option Process) (test : Process → Bool) → is_some_and o test ≡ true → (p : Process) × (o ≡ Some p) × (test p ≡ true)
some_process None test h = absurd (true≢false (sym h))
some_process (Some p) test h = (p, refl, h)

-- If all names of f were given in a state, no process in f has the name of the next child there.
pub new_name : (f : Flat) → NamesAreGiven f → (s : Flat) → ((x : ProcName) → is_given f.processes x ≡ true → is_given s.processes x ≡ true)
    → (me : ProcName) (p : Process) → s.processes me ≡ Some p → f.processes (next_child me p) ≡ None
new_name f names s given me p here = by (f.processes (next_child me p)) refl
  where
    by : (o : Option Process) → f.processes (next_child me p) ≡ o → f.processes (next_child me p) ≡ None
    by None e = e
    by (Some q) e = absurd (true≢false (sym (given (next_child me p) (names.of_processes (next_child me p) q e)) ∙ next_is_new s me p here))

-- a login with another password changes nothing
wrong_password : (accounts : Accounts) (s : Flat) (me : ProcName) (name : Name) (password : Password) → is_password_of accounts name password ≡ false
    → (o : Option Process) → flat_by accounts s me o (Login name password) ≡ s
wrong_password accounts s me name password wrong None = refl
wrong_password accounts s me name password wrong (Some p) =
    ap (λ b. flat_or (no_user orelse in_job orelse unless b EAUTH) s (changed accounts s me p (Login name password))) wrong ∙ by no_user in_job
  where
    no_user : Option Errno
    no_user = unless (is_some (user_named accounts.users name)) ENOENT

    in_job : Option Errno
    in_job = unless (is_free p) EACCES

    by : (a b : Option Errno) → flat_or (a orelse b orelse Some EAUTH) s (changed accounts s me p (Login name password)) ≡ s
    by None None = refl
    by None (Some e) = refl
    by (Some e) b = refl

-- one of two tests fails if the other passes and not both do
other_fails : (a b : Bool) → (a && b) ≡ false → b ≡ true → a ≡ false
other_fails true b h e = absurd (true≢false (sym e ∙ h))
other_fails false b h e = refl

-- on the condition, the call logs in no process that passes the test
abbrev pub IsQuiet : (Process → Bool) → Type 0 → UnixCall → Type 0
IsQuiet test If call = (name : Name) → (rule call).effect ≡ LogsIn name → If → test (logged_in name) ≡ false

-- on the condition, the call is no login, with the right password, as a user whose process passes the test
pub record IsQuietLine (accounts : Accounts) (test : Process → Bool) (If : Type 0) (call : UnixCall) : Type 0 where
  pub quiet : If → logs_in_as accounts test call ≡ false

-- A line changes nothing, or is a call of a running process that, on the condition, logs in no process that passes the test.
pub by_quiet_line : {accounts : Accounts} {test : Process → Bool} {If : Type 0} {call : UnixCall} → IsQuietLine accounts test If call
    → (s : Flat) (me : ProcName) (P : Flat → Type 0) → P s
    → ((p : Process) → running s me ≡ Some p → IsQuiet test If call → EachChange accounts s me p call P) → P (flat_after accounts s me call)
by_quiet_line {accounts} {test} {If} {call} line s me P still moves = by call line.quiet moves
  where
    by : (call : UnixCall) → (If → logs_in_as accounts test call ≡ false)
        → ((p : Process) → running s me ≡ Some p → IsQuiet test If call → EachChange accounts s me p call P) → P (flat_after accounts s me call)
    by (Login name password) quiet moves = elim (cases_Bool (is_password_of accounts name password)) [
      | inl right ↦ by_line accounts s me (Login name password) P still (λ p runs. moves p runs (λ n e so.
          let logs_in : LogsIn name ≡ LogsIn n = e in
          let one : name ≡ n = cc in
          subst (λ x. test (logged_in x) ≡ false) one (other_fails (test (logged_in name)) (is_password_of accounts name password) (quiet so) right)))
      | inr wrong ↦ subst P (sym (wrong_password accounts s me name password wrong (running s me))) still
    ]
    by call quiet moves = by_line accounts s me call P still (λ p runs. moves p runs (λ n e so. absurd (cc)))
