-- The replies that are printed are those of the rules: to a trusted process and its listener, and to a login.
use Rattle.std.specs.Prelude.{◌≡◌, ℕ, nat_le, Bool, true, false, not, ◌&&◌, List, [], ◌∷◌, ◌++◌, length, codes, map, filter, Option, Some, None}
use Rattle.std.specs.Prelude.{is_some, if◌then◌else◌, refl}
use Rattle.std.proofs.Common.{ap, sym, ◌∙◌, arith}
use Rattle.std.proofs.lemmas.Fmt.{decimal_digit}
use Rattle.std.proofs.lemmas.Bool.{and_parts, not-true, true≢false}
use Rattle.histar_base.specs.Refusals.{◌orelse◌, unless}
use Rattle.histar_flat.specs.declared.calls.UnixCall.TheVariants.{Login, Read}
use Rattle.histar_flat.specs.declared.calls.User.{User}
use Rattle.histar_flat.specs.declared.replies.Errno.TheVariants.{EACCES, EAUTH, ENOENT}
use Rattle.histar_flat.specs.declared.replies.Reply.TheVariants.{Done, Exited}
use Rattle.histar_base.specs.Paths.{same}
use Rattle.histar_flat.specs.Words.{Name, Path, ProcName}
use Rattle.histar_flat.specs.Accounts.{Accounts, user_named}
use Rattle.histar_flat.specs.Classes.{Process, is_free, sees}
use Rattle.histar_flat.specs.FlatState.{Flat, bytes_at, is_file_at, is_some_and, with_process}
use Rattle.histar_flat.specs.FlatCalls.{flat_after, flat_by, flat_or, refused, reply_by, reply_or, reply_to, running}
use Rattle.histar_rights.specs.Running.{Named, running_in}
use Rattle.histar_script.specs.Lines.{most_line_bytes}
use Rattle.histar_secrecy.specs.Ways.{reaches, reads_all, way_to}
use Rattle.histar_secrecy.specs.Logins.{is_password_of, logged_in}
use Rattle.histar_secrecy.specs.Leaks.{IsListener, IsReader, Line, asking, replies_from}
use Rattle.histar_secrecy.specs.Noninterference.{IsReached}
use Rattle.histar_secrecy.specs.Roles.{is_bound, is_trusted}
use Rattle.histar_secrecy.proofs.Learning.{roles_are_shown}
use Rattle.histar_secrecy.proofs.Names.{login_of, some_process}
use Rattle.histar_secrecy.proofs.Telling.{logins_tell_here, readers_tell_here}
use Rattle.histar_leak.specs.LeakLines.{by_first, call_line, lines_text, reply_line}
use Rattle.histar_leak.specs.LeakText.{is_in_no_job, is_outside, knows_all_of, listeners, login_line, free_outsiders}
use Rattle.histar_leak.specs.Findings.{asking_text, of_first, reading_text, replied_text}

-- the line of the reply that a process has exited with 1
pub exited_line : reply_line (Exited 1) ≡ codes "#= ok exited 1\n"
exited_line =
    ap (λ (ds : List ℕ). (let text : List ℕ = codes "#= ok exited " ++ ds in
    let line : List ℕ = if nat_le (length text) most_line_bytes then text ++ codes "\n" else [] in line)) (decimal_digit 1 (omega arith))

-- the lines of calls have the replies to these
pub lines_replied : (accounts : Accounts) (f : Flat) (calls : List Line)
    → lines_text accounts f calls ≡ replied_text calls (replies_from accounts f calls)
lines_replied accounts f [] = refl
lines_replied accounts f (c ∷ calls) =
    ap (λ t. call_line c ++ reply_line (reply_to accounts f c.0 c.1) ++ t) (lines_replied accounts (flat_after accounts f c.0 c.1) calls)

-- ---- the first of a list of processes

-- the property holds of the first of these
abbrev pub OfFirst : (ProcName → Type 0) → List (ProcName × Name) → Type 0
OfFirst P [] = Unit {0}
OfFirst P (p ∷ others) = P p.0

-- a process with its user
abbrev with_name : Named → ProcName × Name
with_name c = (c.0, c.1.user)

-- the first process whose name passes a test passes it
pub first_passes : (test : ProcName → Bool) (cs : List Named)
    → OfFirst (λ name. test name ≡ true) (map with_name (filter (λ (c : Named). test c.0) cs))
first_passes test [] = tt
first_passes test (c ∷ cs) = by (test c.0) refl (first_passes test cs)
  where
    by : (b : Bool) → test c.0 ≡ b → OfFirst (λ name. test name ≡ true) (map with_name (filter (λ (x : Named). test x.0) cs))
        → OfFirst (λ name. test name ≡ true) (map with_name (let l : List Named = if b then c ∷ filter (λ (x : Named). test x.0) cs
        else filter (λ (x : Named). test x.0) cs in l))
    by true e rest = e
    by false e rest = rest

-- the lines of the first of these, if they are so of each of which the property holds
pub first_lines : (accounts : Accounts) (f : Flat) (P : ProcName → Type 0) (calls : ProcName → List Line) (text : ProcName → List ℕ)
    → ((name : ProcName) → P name → lines_text accounts f (calls name) ≡ text name) → (whom : List (ProcName × Name)) → OfFirst P whom
    → lines_text accounts f (by_first whom calls) ≡ of_first whom text
first_lines accounts f P calls text each [] h = refl
first_lines accounts f P calls text each (p ∷ others) h = each p.0 h

-- ---- a login

-- a login with the user's password is not refused to a process in no job
pub may_log_in : (accounts : Accounts) (f : Flat) (me : ProcName) (p : Process) → is_free p ≡ true → (user : User)
    → is_password_of accounts user.name user.password ≡ true → refused accounts f me p (Login user.name user.password) ≡ None
may_log_in accounts f me p free user right =
    λ i. unless (known (user_named accounts.users user.name) right i) ENOENT orelse unless (free i) EACCES orelse unless (right i) EAUTH
  where
    known : (o : Option User) → is_some_and o (λ u. same u.password user.password) ≡ true → is_some o ≡ true
    known None h = absurd (true≢false (sym h))
    known (Some u) h = refl

module _ (accounts : Accounts) (f : Flat) (me : ProcName) (p : Process) (runs : running f me ≡ Some p) (free : is_free p ≡ true) (user : User)
    (right : is_password_of accounts user.name user.password ≡ true) where
  -- so it is done
  pub logs_in : reply_to accounts f me (Login user.name user.password) ≡ Done
  logs_in =
      ap (λ o. reply_by accounts f me o (Login user.name user.password)) runs ∙ ap (λ e. reply_or e Done) (may_log_in accounts f me p free user right)

  -- and the process is the user's
  pub logged : flat_after accounts f me (Login user.name user.password) ≡ with_process f me (login_of p user.name)
  logged =
      ap (λ o. flat_by accounts f me o (Login user.name user.password)) runs
      ∙ ap (λ e. flat_or e f (with_process f me (login_of p user.name))) (may_log_in accounts f me p free user right)

-- ---- the readers of a file

module _ (accounts : Accounts) (f : Flat) (reached : IsReached accounts f) (path : Path) (file : is_file_at f path ≡ true) where
  -- a trusted process reaches the file
  reader : (me : ProcName) (p : Process) → running f me ≡ Some p → is_trusted accounts (way_to f path) f me ≡ true → IsReader accounts f path me p
  reader me p runs trusted = record {
    runs = runs;
    reaches = (and_parts (reads_all accounts (way_to f path) p) (not (is_bound accounts (way_to f path) p))
        (sym (roles_are_shown accounts f reached path me p runs).trusted ∙ trusted)).0;
  }

  -- an outsider that knows all jobs of a process can observe it
  listener : (me : ProcName) (p : Process) → running f me ≡ Some p → (other : ProcName)
      → (is_outside accounts f path other && knows_all_of accounts f path other me) ≡ true → (q : Process) × IsListener accounts f path p other q
  listener me p runs other passes =
      let parts = and_parts (is_outside accounts f path other) (knows_all_of accounts f path other me) passes in
      let q = some_process (running f other) (λ q. is_some_and (running f me) (λ x. sees q x)) parts.1 in (
        q.0,
        record {
          runs = q.1;
          reaches_not = not-true (reads_all accounts (way_to f path) q.0)
              (sym (roles_are_shown accounts f reached path other q.0 q.1).outside ∙ parts.0);
          sees = sym (ap (λ o. is_some_and o (λ x. sees q.0 x)) runs) ∙ q.2;
        },
      )

  -- the lines of a trusted process and its first listener
  pub trusted_lines : (me : ProcName) (p : Process) → running f me ≡ Some p → is_trusted accounts (way_to f path) f me ≡ true
      → lines_text accounts f (by_first (listeners accounts f path me) (λ other. asking me other path 1))
      ≡ of_first (listeners accounts f path me) (asking_text me path (bytes_at f path))
  trusted_lines me p runs trusted =
      first_lines accounts f (λ other. (is_outside accounts f path other && knows_all_of accounts f path other me) ≡ true)
      (λ other. asking me other path 1) (asking_text me path (bytes_at f path)) each (listeners accounts f path me)
      (first_passes (λ other. is_outside accounts f path other && knows_all_of accounts f path other me) (running_in f))
    where
      each : (other : ProcName) → (is_outside accounts f path other && knows_all_of accounts f path other me) ≡ true
          → lines_text accounts f (asking me other path 1) ≡ asking_text me path (bytes_at f path) other
      each other passes =
          let q = listener me p runs other passes in
          lines_replied accounts f (asking me other path 1)
          ∙ ap (replied_text (asking me other path 1))
          (readers_tell_here accounts f reached path file me other p q.0 (reader me p runs trusted) q.1 1)

  -- the lines of the first outsider in no job that logs in
  pub login_lines : (user : User) → is_password_of accounts user.name user.password ≡ true → reaches accounts f (logged_in user.name) path ≡ true
      → lines_text accounts f (by_first (free_outsiders accounts f path) (λ me. login_line me user ∷ (me, Read path) ∷ []))
      ≡ of_first (free_outsiders accounts f path) (reading_text user path (bytes_at f path))
  login_lines user right reaches_it =
      first_lines accounts f (λ me. (is_outside accounts f path me && is_in_no_job accounts f path me) ≡ true)
      (λ me. login_line me user ∷ (me, Read path) ∷ []) (reading_text user path (bytes_at f path)) each (free_outsiders accounts f path)
      (first_passes (λ me. is_outside accounts f path me && is_in_no_job accounts f path me) (running_in f))
    where
      each : (me : ProcName) → (is_outside accounts f path me && is_in_no_job accounts f path me) ≡ true
          → lines_text accounts f (login_line me user ∷ (me, Read path) ∷ []) ≡ reading_text user path (bytes_at f path) me
      each me passes =
          let parts = and_parts (is_outside accounts f path me) (is_in_no_job accounts f path me) passes in
          let p = some_process (running f me) is_free parts.1 in
          lines_replied accounts f (login_line me user ∷ (me, Read path) ∷ [])
          ∙ ap (replied_text (login_line me user ∷ (me, Read path) ∷ []))
          (logins_tell_here accounts f reached path file me p.0 p.1 p.2 user.name user.password right reaches_it)
