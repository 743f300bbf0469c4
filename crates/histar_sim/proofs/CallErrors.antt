-- How a call ends: it has replied what its flat rule says, or it was refused nowhere.
use Rattle.std.proofs.Common.{◌≡◌, ◌≢◌, ◌⊎◌, ℕ, ◌||◌, Bool, true, false, List, [], ◌∷◌}
use Rattle.std.proofs.Common.{◌++◌, Option, None, Some, Ok, refl, sym, ap, ◌∙◌, subst}
use Rattle.std.proofs.lemmas.List.{map-append, append_cancel_left}
use Rattle.std.specs.Prelude.{option_map, Result, Err}
use Rattle.std.specs.List.{AllByRecursion}
use Rattle.std.proofs.Math.Bool.{or-false}
use Rattle.histar_flat.specs.declared.calls.UnixCall.{UnixCall}
use Rattle.histar_flat.specs.declared.replies.Errno.{Errno}
use Rattle.histar_flat.specs.declared.replies.Reply.{Reply}
use Rattle.histar_flat.specs.declared.replies.Reply.TheVariants.{Done, Data, Entries, Stats, Refused, Gone}
use Rattle.histar_flat.specs.Words.{ProcName}
use Rattle.histar_flat.specs.Accounts.{Accounts}
use Rattle.histar_flat.specs.Classes.{Process}
use Rattle.histar_flat.specs.FlatState.{Flat, is_some_and}
use Rattle.histar_flat.specs.FlatCalls as flat
use Rattle.histar_flat.specs.FlatCalls.{refused, changed, reply_or, flat_or, if_running, running, reply_by, flat_by, reply_to, flat_after}
use Rattle.histar_object.specs.Objects.{bytes_in}
use Rattle.histar_object.specs.State.{State}
use Rattle.histar_rules.specs.declared.raw.Denied.{Denied}
use Rattle.histar_rules.specs.declared.raw.Denied.TheVariants.{Observe}
use Rattle.histar_rules.specs.declared.raw.RawCall.{RawCall}
use Rattle.histar_rules.specs.declared.raw.RawCall.TheVariants.{Read}
use Rattle.histar_trace.specs.declared.entries.TraceEntry.{TraceEntry}
use Rattle.histar_syscall.specs.KernelModel.{KernelModel, state}
use Rattle.histar_syscall.specs.Runs.{is_label_refusal, is_range_refusal, some_label_refusal, some_range_refusal}
use Rattle.histar_syscall.proofs.Runs.{entry_of}
use Rattle.histar_programs.specs.declared.call_error.Stopped.{Stopped}
use Rattle.histar_programs.specs.Replies.{is_access, is_permission, is_no_access, is_no_permission, IsRefusedOnce, sets_labels}
use Rattle.histar_refinement.specs.Represents.{Represents}
use Rattle.histar_refinement.specs.KeptNames.{RepresentsStill}
use Rattle.histar_refinement.proofs.KeepingNames.{still_represents}
use Rattle.histar_refinement.specs.Lines.{IsThreadOf}
use Rattle.histar_sim.specs.Simulation.{errno_by_rule, IsReplyOfDenial, EndsWithRead, IsLine, IsUnanswered}
use Rattle.histar_sim.proofs.Ready.{Ready, ready_from}
use Rattle.histar_sim.specs.Simulation.{IsBrokenOff, IsReady, IsSpent, FollowsRule}
use Rattle.histar_sim.specs.Reads.{HasReads}
use Rattle.histar_sim.specs.RawCalls.{AreItsRequests, AreMade, requests_of}
use Rattle.histar_sim.specs.Named.{IsNamed, IsNamedDenial, DenialsAreNamed}
use Rattle.histar_sim.proofs.ReadsByCall.{HasReadsByCall, reads_due}
use Rattle.histar_sim.proofs.Chains.{Step, all_granted, entries_of, Chain, chain_run, chain_own, all_restoring}

-- what a reply needs where no raw call was refused: bytes were read last, an errno is neither EACCES nor EPERM, and it is not `gone`
abbrev pub IsBacked : State → List TraceEntry → Reply → Type 0
IsBacked s entries Done = Unit {0}
IsBacked s entries (Data bytes) = EndsWithRead s entries bytes
IsBacked s entries (Entries listing) = Unit {0}
IsBacked s entries (Stats stat) = Unit {0}
IsBacked s entries (Refused errno) = (is_access errno ≡ false) × (is_permission errno ≡ false)
IsBacked s entries Gone = ⊥
IsBacked s entries _ = Unit {0}

module _ (s : State) (entries : List TraceEntry) where
  backed_plain : (r : Reply) → IsBacked s entries r → (is_no_access r ≡ false) × (is_no_permission r ≡ false)
  backed_plain (Refused errno) backed = backed
  backed_plain r backed = (refl, refl)

  backed_runs : (r : Reply) → IsBacked s entries r → r ≢ Gone
  backed_runs Gone backed e = backed
  backed_runs r backed e = absurd cc

  backed_revealed : (r : Reply) → IsBacked s entries r → (bytes : List ℕ) → r ≡ Data bytes → EndsWithRead s entries bytes
  backed_revealed (Data held) backed bytes e = let same : held ≡ bytes = cc in subst (EndsWithRead s entries) same backed
  backed_revealed r backed bytes e = absurd cc

-- the errno of a denial is EACCES exactly where it is by label, and EPERM exactly where it is by range
revealed_by : (denied : Denied)
    → (is_label_refusal (Some denied) ≡ is_some_and (errno_by_rule denied) is_access)
    × (is_range_refusal (Some denied) ≡ is_some_and (errno_by_rule denied) is_permission)
revealed_by Observe = (refl, refl)
revealed_by denied = (refl, refl)

-- the refusals among these entries are those that the reply shows
pub record Agrees (r : Reply) (entries : List TraceEntry) : Type 0 where
  pub access : some_label_refusal entries ≡ is_no_access r
  pub permission : some_range_refusal entries ≡ is_no_permission r
  pub denials : AllByRecursion (λ (e : TraceEntry). IsReplyOfDenial r e.denied) entries
  pub once : IsRefusedOnce entries

module _ (line t : ℕ) where
  -- a granted raw call more before them changes nothing
  after_granted : (r : Reply) (call : RawCall) (entries : List TraceEntry) → Agrees r entries → Agrees r (entry_of line t call None ∷ entries)
  after_granted r call entries a = record { access = a.access; permission = a.permission; denials = (tt, a.denials); once = a.once }

  -- granted raw calls agree with a reply that is neither EACCES nor EPERM
  granted_agree : (r : Reply) → (is_no_access r ≡ false) × (is_no_permission r ≡ false) → (calls : List RawCall)
      → Agrees r (entries_of line t (all_granted calls))
  granted_agree r plain [] = record { access = sym plain.0; permission = sym plain.1; denials = tt; once = tt }
  granted_agree r plain (call ∷ calls) = after_granted r call (entries_of line t (all_granted calls)) (granted_agree r plain calls)

  -- granted raw calls are refused neither by label nor by range, and have no denial that a reply must show
  none_refused : (r : Reply) (calls : List RawCall)
      → (some_label_refusal (entries_of line t (all_granted calls)) ≡ false)
      × (some_range_refusal (entries_of line t (all_granted calls)) ≡ false)
      × AllByRecursion (λ (e : TraceEntry). IsReplyOfDenial r e.denied) (entries_of line t (all_granted calls))
  none_refused r [] = (refl, refl, tt)
  none_refused r (call ∷ calls) = let later = none_refused r calls in (later.0, later.1, (tt, later.2))

  -- granted raw calls, then one that was refused, then some that give the thread labels: they agree with the errno of the denial
  refused_agree : (last : RawCall) (denied : Denied) (errno : Errno) → errno_by_rule denied ≡ Some errno
      → (restoring : List RawCall) → AllByRecursion (λ (c : RawCall). sets_labels c ≡ true) restoring
      → (calls : List RawCall) → Agrees (Refused errno) (entries_of line t (all_granted calls ++ (last, Some denied) ∷ all_granted restoring))
  refused_agree last denied errno revealed restoring sets [] =
      let none = none_refused (Refused errno) restoring in
      record {
        access =
            ap (λ (b : Bool). is_label_refusal (Some denied) || b) none.0 ∙ or-false (is_label_refusal (Some denied))
            ∙ (revealed_by denied).0 ∙ ap (λ (o : Option Errno). is_some_and o is_access) revealed;
        permission =
            ap (λ (b : Bool). is_range_refusal (Some denied) || b) none.1 ∙ or-false (is_range_refusal (Some denied))
            ∙ (revealed_by denied).1 ∙ ap (λ (o : Option Errno). is_some_and o is_permission) revealed;
        denials = (ap (option_map Refused) revealed, none.2);
        once = all_restoring t line restoring sets;
      }
  refused_agree last denied errno revealed restoring sets (call ∷ calls) =
      after_granted (Refused errno) call
      (entries_of line t (all_granted calls ++ (last, Some denied) ∷ all_granted restoring))
      (refused_agree last denied errno revealed restoring sets calls)

-- granted raw calls, and after them a granted read: it reads what the segment held then
pub read_last : (old mid : KernelModel) (t : ℕ) (calls : List RawCall) → Chain old t (all_granted calls) mid → (container segment : ℕ)
    → EndsWithRead (state old) (entries_of old.line t (all_granted calls ++ (Read container segment, None) ∷ []))
    (bytes_in ((state mid).objects segment))
read_last old mid t calls chain container segment = record {
  front = entries_of old.line t (all_granted calls);
  last = entry_of old.line t (Read container segment) None;
  parts = map-append (λ (s : Step). entry_of old.line t s.0 s.1) (all_granted calls) ((Read container segment, None) ∷ []);
  before = state mid;
  run = (chain_run t old mid (all_granted calls) chain).run;
  granted = refl;
  container = container;
  segment = segment;
  reads = refl;
  holds = refl;
}

module _ (accounts : Accounts) (f : Flat) (me : ProcName) (call : UnixCall) (old new : KernelModel) (t : ℕ) where
  -- a call of a process is answered as its flat rule says, and the names of this representation keep their numbers
  pub record IsAnsweredFrom (from : Represents accounts (state old) f) : Type 0 where
    pub entries : List TraceEntry
    pub trace : new.trace ≡ old.trace ++ entries
    pub line : new.line ≡ old.line
    pub is_line : IsLine accounts (state old) old.line me (reply_to accounts f me call) entries (state new)
    pub reads : HasReads accounts (state old) f (running f me) call (reply_to accounts f me call) entries
    pub named : DenialsAreNamed accounts (state old) f me (running f me) call entries
    pub requests : AreItsRequests accounts from.matched me (running f me) call entries
    pub still : RepresentsStill from (state new) (flat_after accounts f me call)

-- it is answered so, or it ends without a reply: memory ran out, which M says, or a counter has its greatest value
abbrev pub FollowsFrom : (M : Type 0) (accounts : Accounts) (f : Flat) (me : ProcName) (call : UnixCall) (old new : KernelModel) (t : ℕ)
    → Represents accounts (state old) f → Result Reply Stopped → Type 0
FollowsFrom M accounts f me call old new t from (Ok reply) =
    (reply ≡ reply_to accounts f me call) × IsAnsweredFrom accounts f me call old new t from
FollowsFrom M accounts f me call old new t from (Err stopped) = IsUnanswered M accounts f me call old new t

-- a call follows its rule if it does so from each representation, with names that keep their numbers
pub from_each : (M : Type 0) (accounts : Accounts) (f : Flat) (me : ProcName) (call : UnixCall) (old new : KernelModel) (t : ℕ)
    (result : Result Reply Stopped) → IsReady accounts (state old) f me t
    → ((ready : Ready M accounts (state old) f me t) → FollowsFrom M accounts f me call old new t ready.represents result)
    → FollowsRule M accounts f me call old new t result
from_each M accounts f me call old new t (Ok reply) ready each =
    let from = ready_from M accounts (state old) f me t ready in
    let here = (each (from ready.represents)).1 in (
      (each (from ready.represents)).0,
      record {
        entries = here.entries;
        trace = here.trace;
        line = here.line;
        refined = record {
          line = here.is_line;
          reads = here.reads;
          named = here.named;
          represents = here.still.represents;
          requests = λ represents.
              let there = (each (from represents)).1 in
              subst (AreItsRequests accounts represents.matched me (running f me) call)
              (append_cancel_left old.trace there.entries here.entries (sym there.trace ∙ here.trace)) there.requests;
          keeps = λ represents. (each (from represents)).1.still;
        };
      },
    )
from_each M accounts f me call old new t (Err stopped) ready each = each (ready_from M accounts (state old) f me t ready ready.represents)

module _ {M : Type 0} (accounts : Accounts) (f : Flat) (me : ProcName) (call : UnixCall)
    (old new : KernelModel) (t : ℕ) (ready : Ready M accounts (state old) f me t) where
  -- what is to be shown, with this reply
  abbrev Follows : Reply → Type 0
  Follows reply = (reply ≡ reply_to accounts f me call) × IsAnsweredFrom accounts f me call old new t ready.represents

  -- the process runs
  runs : running f me ≡ Some ready.caller.process
  runs =
      ap if_running ready.caller.agrees
      ∙ ap (λ (x : Option ℕ). elim x as (λ _. Option Process) [ None ↦ Some ready.caller.process | Some n ↦ None ])
      ready.caller.runs

  -- the reply of a call of a running process is that of its flat rule, and the state after it is the rule's too
  pub reply_is : (refusal : Option Errno) → refused accounts f me ready.caller.process call ≡ refusal
      → reply_to accounts f me call ≡ reply_or refusal (flat.answer f me ready.caller.process call)
  reply_is refusal e =
      ap (λ (r : Option Process). reply_by accounts f me r call) runs
      ∙ ap (λ (r : Option Errno). reply_or r (flat.answer f me ready.caller.process call)) e

  after_is : (refusal : Option Errno) → refused accounts f me ready.caller.process call ≡ refusal
      → flat_after accounts f me call ≡ flat_or refusal f (changed accounts f me ready.caller.process call)
  after_is refusal e =
      ap (λ (r : Option Process). flat_by accounts f me r call) runs
      ∙ ap (λ (r : Option Errno). flat_or r f (changed accounts f me ready.caller.process call)) e

  -- a chain that was broken off before that reply ends without one
  pub chain_unanswered : (steps : List Step) → Chain old t steps new
      → IsBrokenOff (reply_to accounts f me call) (state old) (entries_of old.line t steps) (state new)
      → M ⊎ IsSpent (state new) → IsUnanswered M accounts f me call old new t
  chain_unanswered steps chain run why =
      let part = chain_run t old new steps chain in
      record {
        entries = entries_of old.line t steps;
        trace = part.trace;
        line = part.line;
        run = run;
        own = chain_own t old.line steps;
        because = why;
      }

  -- the reads that the call cannot do without, given this reply, are among these raw calls
  abbrev pub ReadsAmong : List Step → Reply → Type 0
  ReadsAmong steps r = HasReadsByCall accounts (state old) f ready.caller.process call r (entries_of old.line t steps)

  -- these raw calls are those of the call, and the reads that it cannot do without, given this reply, are among them
  abbrev pub AreItsCalls : List Step → Reply → Type 0
  AreItsCalls steps r =
      ReadsAmong steps r
      × AreMade (requests_of accounts ready.represents.matched me ready.caller.process call) (entries_of old.line t steps)

  -- what the flat rules answer where they allow the call
  abbrev pub allowed : Reply
  allowed = flat.answer f me ready.caller.process call

  -- each entry is of the line's thread
  all_own : (line : ℕ) (steps : List Step)
      → AllByRecursion (λ (e : TraceEntry). (e.line ≡ line) × IsThreadOf accounts (state old) me e.thread)
      (entries_of line t steps)
  all_own line [] = tt
  all_own line (s ∷ steps) = ((refl, ready.thread), all_own line steps)

  -- a raw call is on what the reason of the refusal names
  abbrev pub IsDenialNamed : RawCall → Type 0
  IsDenialNamed next = IsNamed accounts (state old) f me ready.caller.process call next

  -- each denied one of these raw calls is on what the reason of the refusal names
  abbrev AreNamed : List Step → Type 0
  AreNamed steps =
      AllByRecursion (λ (e : TraceEntry). IsNamedDenial accounts (state old) f me ready.caller.process call e.call e.denied)
      (entries_of old.line t steps)

  granted_named : (calls : List RawCall) → AreNamed (all_granted calls)
  granted_named [] = tt
  granted_named (c ∷ calls) = (tt, granted_named calls)

  refused_named : (last : RawCall) (denied : Denied) (restoring : List RawCall) → IsDenialNamed last → (calls : List RawCall)
      → AreNamed (all_granted calls ++ (last, Some denied) ∷ all_granted restoring)
  refused_named last denied restoring named [] = (named, granted_named restoring)
  refused_named last denied restoring named (c ∷ calls) = (tt, refused_named last denied restoring named calls)

  -- a call refines its rule if its raw calls agree with the flat rules' reply, and the state represents the flat state after the call
  agreed_refined : (steps : List Step) → Chain old t steps new → (refusal : Option Errno)
      → refused accounts f me ready.caller.process call ≡ refusal → (r : Reply) → reply_or refusal allowed ≡ r
      → Agrees r (entries_of old.line t steps)
      → ((bytes : List ℕ) → r ≡ Data bytes → EndsWithRead (state old) (entries_of old.line t steps) bytes)
      → AreItsCalls steps r → AreNamed steps → r ≢ Gone
      → RepresentsStill ready.represents (state new) (flat_or refusal f (changed accounts f me ready.caller.process call))
      → Follows r
  agreed_refined steps chain refusal is r r_is reply_agrees revealed its named lives still =
      let part = chain_run t old new steps chain in
      let reply = reply_is refusal is ∙ r_is in
      let entries = entries_of old.line t steps in
      let is_line : IsLine accounts (state old) old.line me r entries (state new) = record {
        run = part.run;
        own = all_own old.line steps;
        access = reply_agrees.access;
        permission = reply_agrees.permission;
        denials = reply_agrees.denials;
        once = reply_agrees.once;
        ends_with_read = revealed;
        gone = λ e. absurd (lives e);
      } in (
        sym reply,
        record {
          entries = entries;
          trace = part.trace;
          line = part.line;
          is_line = subst (λ (x : Reply). IsLine accounts (state old) old.line me x entries (state new)) (sym reply) is_line;
          reads = subst (λ (o : Option Process). HasReads accounts (state old) f o call (reply_to accounts f me call) entries) (sym runs)
              (reads_due accounts (state old) f ready.caller.process call (reply_to accounts f me call) entries
              (subst (λ (x : Reply). HasReadsByCall accounts (state old) f ready.caller.process call x entries) (sym reply) its.0));
          named = subst (λ (o : Option Process). DenialsAreNamed accounts (state old) f me o call entries) (sym runs) named;
          requests = subst (λ (o : Option Process). AreItsRequests accounts ready.represents.matched me o call entries) (sym runs) its.1;
          still = subst (RepresentsStill ready.represents (state new)) (sym (after_is refusal is)) still;
        },
      )

  -- where every raw call was granted, a call that the flat rules allow is answered what they answer
  pub granted_refined : (calls : List RawCall) → Chain old t (all_granted calls) new
      → refused accounts f me ready.caller.process call ≡ None
      → IsBacked (state old) (entries_of old.line t (all_granted calls)) allowed
      → AreItsCalls (all_granted calls) allowed
      → RepresentsStill ready.represents (state new) (changed accounts f me ready.caller.process call) → Follows allowed
  granted_refined calls chain is backed its still =
      let entries = entries_of old.line t (all_granted calls) in
      agreed_refined (all_granted calls) chain None is allowed refl
      (granted_agree old.line t allowed (backed_plain (state old) entries allowed backed) calls)
      (backed_revealed (state old) entries allowed backed) its (granted_named calls)
      (backed_runs (state old) entries allowed backed) still

  -- Where one raw call was refused, those after it give the thread labels, and the state still represents the flat state, a call that the
  -- flat rules refuse with the errno of the denial refines its rule.
  pub given_back_refined : (calls : List RawCall) (last : RawCall) (denied : Denied) (restoring : List RawCall)
      → AllByRecursion (λ (c : RawCall). sets_labels c ≡ true) restoring
      → Chain old t (all_granted calls ++ (last, Some denied) ∷ all_granted restoring) new → (errno : Errno)
      → errno_by_rule denied ≡ Some errno → refused accounts f me ready.caller.process call ≡ Some errno
      → IsDenialNamed last → AreItsCalls (all_granted calls ++ (last, Some denied) ∷ all_granted restoring) (Refused errno)
      → RepresentsStill ready.represents (state new) f → Follows (Refused errno)
  given_back_refined calls last denied restoring sets chain errno revealed is named its still =
      agreed_refined (all_granted calls ++ (last, Some denied) ∷ all_granted restoring) chain (Some errno) is
      (Refused errno) refl (refused_agree old.line t last denied errno revealed restoring sets calls)
      (λ bytes e. absurd cc) its (refused_named last denied restoring named calls) (λ e. absurd cc) still

  module _ (stays : state new ≡ state old) where
    unchanged : RepresentsStill ready.represents (state new) f
    unchanged = still_represents ready.represents (state new) stays

    -- where every raw call was granted and nothing has changed, a call that the flat rules refuse otherwise than by label is answered their errno
    pub unchanged_refined : (calls : List RawCall) → Chain old t (all_granted calls) new → (errno : Errno)
        → is_access errno ≡ false → is_permission errno ≡ false → refused accounts f me ready.caller.process call ≡ Some errno
        → AreItsCalls (all_granted calls) (Refused errno) → Follows (Refused errno)
    unchanged_refined calls chain errno no_access no_permission is its =
        agreed_refined (all_granted calls) chain (Some errno) is (Refused errno) refl
        (granted_agree old.line t (Refused errno) (no_access, no_permission) calls) (λ bytes e. absurd cc) its
        (granted_named calls) (λ e. absurd cc) unchanged

    -- where only the last raw call was refused and nothing has changed, a call that the flat rules refuse with its errno refines its rule
    pub refused_refined : (calls : List RawCall) (last : RawCall) (denied : Denied) → Chain old t (all_granted calls ++ (last, Some denied) ∷ []) new
        → (errno : Errno) → errno_by_rule denied ≡ Some errno → refused accounts f me ready.caller.process call ≡ Some errno
        → IsDenialNamed last → AreItsCalls (all_granted calls ++ (last, Some denied) ∷ []) (Refused errno)
        → Follows (Refused errno)
    refused_refined calls last denied chain errno revealed is named its =
        given_back_refined calls last denied [] tt chain errno revealed is named its unchanged
