-- Of a line whose reply is EACCES or EPERM the kernel denied one raw call, and it is on what the reason of the refusal names.
use Rattle.std.proofs.Common.{◌≡◌, ℕ, ◌⊎◌, ◌||◌, Bool, true, false, List, [], ◌∷◌, ◌++◌, Option, None, Some}
use Rattle.std.proofs.Common.{inl, inr, refl, sym, ap, ◌∙◌, subst}
use Rattle.std.specs.Prelude.{option_map}
use Rattle.std.specs.Option.{IsSomeAnd}
use Rattle.std.specs.List.{AllByRecursion}
use mathlib.Core.Bool.{true≢false}
use Rattle.histar_flat.specs.declared.calls.CallLine.{CallLine}
use Rattle.histar_flat.specs.declared.calls.UnixCall.{UnixCall}
use Rattle.histar_flat.specs.declared.calls.UnixCall.TheVariants.{Create, Stat, Status}
use Rattle.histar_flat.specs.declared.replies.Errno.{Errno}
use Rattle.histar_flat.specs.declared.replies.Errno.TheVariants.{EACCES, EPERM}
use Rattle.histar_flat.specs.declared.replies.Reply.{Reply}
use Rattle.histar_flat.specs.declared.replies.Reply.TheVariants.{Refused}
use Rattle.histar_flat.specs.Words.{ProcName}
use Rattle.histar_flat.specs.Accounts.{Accounts}
use Rattle.histar_flat.specs.Files.{get}
use Rattle.histar_flat.specs.Classes.{Process}
use Rattle.histar_flat.specs.FlatState.{Flat, Node, is_some_and, is_dir}
use Rattle.histar_flat.specs.CallRules.{path_of, rule}
use Rattle.histar_flat.specs.Effects.{life_reply, stat_reply}
use Rattle.histar_flat.specs.FlatCalls.{refused, answer, changed, reply_or, flat_or, running, reply_by, flat_by, reply_to}
use Rattle.histar_reasons.specs.Reasons.{Reason, errno_of, why}
use Rattle.histar_reasons.proofs.Agreeing.{agrees, grounded_at}
use Rattle.histar_object.specs.State.{State}
use Rattle.histar_rules.specs.declared.raw.Denied.{Denied}
use Rattle.histar_trace.specs.declared.entries.TraceEntry.{TraceEntry}
use Rattle.histar_syscall.specs.Runs.{is_label_refusal, is_range_refusal, some_label_refusal, some_range_refusal}
use Rattle.histar_programs.specs.Replies.{is_no_access, is_no_permission, IsRestoring, IsRefusedOnce}
use Rattle.histar_refinement.specs.Represents.{Represents}
use Rattle.histar_refinement.proofs.Agreeing.{root_is_dir}
use Rattle.histar_sim.specs.Simulation.{SimulatesLine, IsReplyOfDenial, errno_by_rule}
use Rattle.histar_sim.specs.Named.{IsAbout, IsNamedDenial, DenialsAreNamed}
use Rattle.histar_sim.specs.NamedDenials.{HasNamedDenial, EachDenialIsNamed}
use Rattle.histar_sim.proofs.FirstReasons.{reason_of}

-- entries that were granted
abbrev AreGranted : List TraceEntry → Type 0
AreGranted entries = AllByRecursion (λ (e : TraceEntry). e.denied ≡ None) entries

restoring_granted : (entries : List TraceEntry) → AllByRecursion IsRestoring entries → AreGranted entries
restoring_granted [] all = tt
restoring_granted (e ∷ entries) all = (all.0.0, restoring_granted entries all.1)

-- of these entries one was denied, and this holds of it and its denial
record IsDeniedOnce (P : TraceEntry → Option Denied → Type 0) (entries : List TraceEntry) : Type 0 where
  before : List TraceEntry
  denial : TraceEntry
  after : List TraceEntry
  parts : entries ≡ before ++ denial ∷ after
  granted : AreGranted (before ++ after)
  denied : Denied
  is_denied : denial.denied ≡ Some denied
  holds : P denial (Some denied)

-- one entry more at the front, which was granted
denied_later : (P : TraceEntry → Option Denied → Type 0) (e : TraceEntry) (entries : List TraceEntry) → e.denied ≡ None → IsDeniedOnce P entries
    → IsDeniedOnce P (e ∷ entries)
denied_later P e entries none later = record {
  before = e ∷ later.before;
  denial = later.denial;
  after = later.after;
  parts = ap (λ (es : List TraceEntry). e ∷ es) later.parts;
  granted = (none, later.granted);
  denied = later.denied;
  is_denied = later.is_denied;
  holds = later.holds;
}

-- an entry was refused by comparing labels or by range
abbrev some_refusal : List TraceEntry → Bool
some_refusal entries = some_label_refusal entries || some_range_refusal entries

-- what holds of each entry by itself holds of it together
both_hold : (P Q : TraceEntry → Type 0) (entries : List TraceEntry) → AllByRecursion P entries → AllByRecursion Q entries
    → AllByRecursion (λ (e : TraceEntry). P e × Q e) entries
both_hold P Q [] all more = tt
both_hold P Q (e ∷ entries) all more = ((all.0, more.0), both_hold P Q entries all.1 more.1)

-- the errno of a denial is that of the reply
revealed_errno : (o : Option Errno) (errno : Errno) → option_map Refused o ≡ Some (Refused errno) → o ≡ Some errno
revealed_errno None errno said = absurd cc
revealed_errno (Some e) errno said = cc

module _ (P : TraceEntry → Option Denied → Type 0) where
  -- where one was refused at most, and one was refused by labels or by range, that is the one
  find_denied : (entries : List TraceEntry) → IsRefusedOnce entries → AllByRecursion (λ (e : TraceEntry). P e e.denied) entries
      → some_refusal entries ≡ true → IsDeniedOnce P entries
  find_denied [] once all some = absurd (true≢false (sym some))
  find_denied (e ∷ entries) once all some = by e.denied refl (λ more found. find_denied entries more all.1 found) once some
    where
      by : (o : Option Denied) → e.denied ≡ o
          → (IsRefusedOnce entries → some_refusal entries ≡ true → IsDeniedOnce P entries)
          → elim o as (λ _. Type 0) [ None ↦ IsRefusedOnce entries | Some denied ↦ AllByRecursion IsRestoring entries ]
          → ((is_label_refusal o || some_label_refusal entries) || (is_range_refusal o || some_range_refusal entries)) ≡ true
          → IsDeniedOnce P (e ∷ entries)
      by None is later more found = denied_later P e entries is (later more found)
      by (Some denied) is later more found = record {
        before = [];
        denial = e;
        after = entries;
        parts = refl;
        granted = restoring_granted entries more;
        denied = denied;
        is_denied = is;
        holds = subst (P e) is all.0;
      }

-- the reply is EACCES or EPERM
abbrev shows_denial : Reply → Bool
shows_denial r = is_no_access r || is_no_permission r

-- what a call answers is neither EACCES nor EPERM
stat_plain : (o : Option Node) → shows_denial (stat_reply o) ≡ false
stat_plain None = refl
stat_plain (Some n) = refl

life_plain : (o : Option Process) → shows_denial (life_reply o) ≡ false
life_plain None = refl
life_plain (Some p) = by p.exited
  where
    by : (e : Option ℕ) → shows_denial (life_reply (Some (record p { exited = e }))) ≡ false
    by None = refl
    by (Some n) = refl

module _ (accounts : Accounts) (f : Flat) (me : ProcName) (p : Process) where
  answer_plain : (call : UnixCall) → shows_denial (answer f me p call) ≡ false
  answer_plain (Create q mode) = refl
  answer_plain (Stat q) = stat_plain (get f.files q)
  answer_plain (Status name) = life_plain (f.processes name)
  answer_plain _ = refl

  -- a call that is answered so is refused so
  refused_as : (call : UnixCall) (errno : Errno) (o : Option Errno) → refused accounts f me p call ≡ o
      → shows_denial (Refused errno) ≡ true
      → reply_or o (answer f me p call) ≡ Refused errno → o ≡ Some errno
  refused_as call errno None is kind said =
      absurd (true≢false (sym kind ∙ sym (ap shows_denial said) ∙ answer_plain call))
  refused_as call errno (Some e) is kind said = cc

module _ (accounts : Accounts) (s end : State) (f : Flat) (asked : CallLine) (entries : List TraceEntry) (p : Process) (errno : Errno)
    (line : SimulatesLine accounts s f asked entries end) (runs : running f asked.process ≡ Some p)
    (replied : reply_to accounts f asked.process asked.call ≡ Refused errno)
    (kind : shows_denial (Refused errno) ≡ true) where
  abbrev me : ProcName
  me = asked.process

  is_refused : refused accounts f me p asked.call ≡ Some errno
  is_refused =
      refused_as accounts f me p asked.call errno (refused accounts f me p asked.call) refl kind
      (sym (ap (λ (r : Option Process). reply_by accounts f me r asked.call) runs) ∙ replied)

  -- the state is the same, so it represents the flat state still
  represents : Represents accounts end f
  represents =
      subst (Represents accounts end)
      (ap (λ (r : Option Process). flat_by accounts f me r asked.call) runs
      ∙ ap (λ (r : Option Errno). flat_or r f (changed accounts f me p asked.call)) is_refused)
      line.represents

  -- the call has a reason
  reason : (r : Reason) × (why accounts f me p asked.call ≡ Some r) × (errno_of r ≡ errno)
  reason =
      let root = ap (λ (o : Option Node). is_some_and o is_dir) (root_is_dir accounts end f represents.matched).1 in
      reason_of (why accounts f me p asked.call) errno
      (agrees accounts f me p root (path_of asked.call) (Unit {0}) (rule asked.call).needs
      (grounded_at accounts f me p (path_of asked.call) asked.call) tt ∙ is_refused)

  some_denied : some_refusal entries ≡ true
  some_denied =
      (λ i. line.line.access i || line.line.permission i) ∙ ap shows_denial replied ∙ kind

  named : DenialsAreNamed accounts s f me (Some p) asked.call entries
  named = subst (λ (o : Option Process). DenialsAreNamed accounts s f me o asked.call entries) runs line.named

  denials : AllByRecursion (λ (e : TraceEntry). IsReplyOfDenial (Refused errno) e.denied) entries
  denials = subst (λ (r : Reply). AllByRecursion (λ (e : TraceEntry). IsReplyOfDenial r e.denied) entries) replied line.line.denials

  has_denial : HasNamedDenial accounts s f asked p errno entries
  has_denial =
      let found =
      find_denied (λ e denied. IsNamedDenial accounts s f me p asked.call e.call denied × IsReplyOfDenial (Refused errno) denied)
      entries line.line.once (both_hold _ _ entries named denials) some_denied in
      record {
        before = found.before;
        denial = found.denial;
        after = found.after;
        parts = found.parts;
        granted = found.granted;
        denied = found.denied;
        is_denied = found.is_denied;
        revealed = revealed_errno (errno_by_rule found.denied) errno found.holds.1;
        reason = reason.0;
        explains = reason.1;
        refusal = reason.2;
        is_named =
            subst (λ (o : Option Reason). IsSomeAnd o (λ (r : Reason). IsAbout accounts s asked.call r found.denial.call)) reason.1 found.holds.0;
      }

pub denials_are_named : EachDenialIsNamed
denials_are_named accounts s end f asked entries p errno line runs replied kind =
    has_denial accounts s end f asked entries p errno line runs replied (by kind)
  where
    by : (errno ≡ EACCES) ⊎ (errno ≡ EPERM) → shows_denial (Refused errno) ≡ true
    by (inl e) = ap (λ (x : Errno). shows_denial (Refused x)) e
    by (inr e) = ap (λ (x : Errno). shows_denial (Refused x)) e
