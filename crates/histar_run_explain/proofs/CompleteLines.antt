-- Along the lines of a script each explanation of a denied raw call is complete.
use Rattle.std.proofs.Common.{◌≡◌, ℕ, ◌+◌, Bool, true, false, List, [], ◌∷◌, inl, inr, Option, None, Some}
use Rattle.std.proofs.Common.{refl, sym, ap, ◌∙◌, subst}
use Rattle.std.specs.Prelude.{length, map, min, not, option_map}
use Rattle.std.specs.FinSet as set
use Rattle.std.specs.List.{AllByRecursion}
use Rattle.std.specs.Option.{IsSomeAnd}
use Rattle.std.proofs.lemmas.Option.{none-some, same_Some}
use mathlib.Core.Bool.{true≢false}
use Rattle.histar_base.specs.Refusals.{◌orelse◌, unless}
use Rattle.histar_flat.specs.declared.calls.CallLine.{CallLine}
use Rattle.histar_flat.specs.declared.calls.UnixCall.{UnixCall}
use Rattle.histar_flat.specs.declared.calls.UnixCall.TheVariants.{Create, Stat, Status}
use Rattle.histar_flat.specs.declared.replies.Errno.{Errno}
use Rattle.histar_flat.specs.declared.replies.Errno.TheVariants.{EACCES, EPERM, EFBIG}
use Rattle.histar_flat.specs.declared.replies.Reply.{Reply}
use Rattle.histar_flat.specs.declared.replies.Reply.TheVariants.{Refused}
use Rattle.histar_flat.specs.Words.{ProcName}
use Rattle.histar_flat.specs.Accounts.{Accounts}
use Rattle.histar_flat.specs.Files.{get}
use Rattle.histar_flat.specs.Classes.{Process}
use Rattle.histar_flat.specs.FlatState.{Flat, IsTree, Node, is_dir, is_some_and}
use Rattle.histar_flat.specs.CallRules.{path_of, rule}
use Rattle.histar_flat.specs.Effects.{life_reply, stat_reply}
use Rattle.histar_flat.specs.FlatCalls.{answer, changed, flat_after, flat_by, flat_or, if_running, refused, reply_by, reply_or, reply_to, running}
use Rattle.histar_flat.specs.Meaning.{boot}
use Rattle.histar_flat.proofs.Trees.{tree_after, tree_at_start}
use Rattle.histar_reasons.specs.Reasons.{Reason, errno_of, why}
use Rattle.histar_reasons.specs.Reasons.Reason.{MakesOnlyOpen, IsNoMember, StartsNoJob}
use Rattle.histar_reasons.proofs.Agreeing.{agrees, grounded_at}
use Rattle.histar_level.specs.Levels.{Levels}
use Rattle.histar_label.specs.Levels.{has_star}
use Rattle.histar_object.specs.Objects.{bytes_in, is_container, is_present, is_segment, is_thread, links_in}
use Rattle.histar_object.specs.State.{State, in_range, modifies, observes}
use Rattle.histar_rules.specs.declared.raw.Denied.{Denied}
use Rattle.histar_rules.specs.declared.raw.Denied.TheVariants.{Observe, Modify, Range, Gate, NoEntry, NoThread, BadKind, TooBig}
use Rattle.histar_rules.specs.declared.raw.RawCall.{RawCall}
use Rattle.histar_rules.specs.declared.raw.RawCall.TheVariants as raw
use Rattle.histar_rules.specs.Rights.{with_category}
use Rattle.histar_rules.specs.Rules.{Leaves, check, fits_segment, has_number, known, no_container, no_link, no_making, no_new, no_segment}
use Rattle.histar_trace.specs.declared.entries.TraceEntry.{TraceEntry}
use Rattle.histar_explain.specs.declared.explanations.Explanation.{Explanation}
use Rattle.histar_explain.specs.Explanations.{ExplainsDenial, IsExplanationOf}
use Rattle.histar_explain.proofs.NamedDenial.{IsNamedCall, Makes}
use Rattle.histar_raw_explain.specs.Texts.{Words}
use Rattle.histar_programs.specs.Replies.{IsRefusedOnce, IsRestoring}
use Rattle.histar_refinement.specs.KeptNames.{RepresentsStill}
use Rattle.histar_refinement.specs.Lines.{IsThreadOf}
use Rattle.histar_refinement.specs.Represents.{ObjectsMatch, Represents}
use Rattle.histar_refinement.proofs.Agreeing.{root_is_dir}
use Rattle.histar_refinement.proofs.StatusFound.{thread_back}
use Rattle.histar_sim.specs.Named.{DenialsAreNamed, IsAbout, IsMaking, IsNamedDenial}
use Rattle.histar_sim.specs.RawCalls.{AreItsRequests, AreMade, ByOutcome, Request, is_of_denial, requests_of}
use Rattle.histar_sim.specs.Simulation.{IsReplyOfDenial, SimulatesLine, errno_by_rule}
use Rattle.histar_names.specs.Births.{Births}
use Rattle.histar_names.specs.KnownBirths.{NamesBirths}
use Rattle.histar_names.proofs.KnownNames.{births_are_kept, births_at_start}
use Rattle.histar_shell.proofs.Counters.{run_counts}
use Rattle.histar_run_explain.specs.Complete.{CompleteAlong, ExplanationsAreComplete, HasPurpose, IsComplete, OfEntries, OfOutcome}
use Rattle.histar_run_explain.specs.Entries.{ExplainsEntries, ExplainsOutcome}
use Rattle.histar_run_explain.specs.Run.{ExplainsCallLines, births_of, words_of}
use Rattle.histar_run_explain.proofs.DeniedObjects.{IsPlaced, about_located, about_place}
use Rattle.histar_run_explain.proofs.DeniedRequests.{IsHanded, MakesJob, MayBeDenied, MayEachBeDenied, requests_denied}
use Rattle.histar_run_explain.proofs.RefusedLines.{IsDeniedSo, IsEntry, IsOfUsed, IsRefusedLine, called_job, called_now, complete_by}
use Rattle.histar_run_explain.proofs.RefusedLines.{labels_job, labels_now}
use Rattle.histar_run_explain.proofs.UsedLabels.{made_lists, own_lists}

-- ---- only a raw call that enters a gate is denied by one

-- a denial is that of a gate
abbrev of_gate : Option Denied → Bool
of_gate (Some Gate) = true
of_gate o = false

-- neither of two is, so their order isn't
neither : (a b : Option Denied) → of_gate a ≡ false → of_gate b ≡ false → of_gate (a orelse b) ≡ false
neither None b first later = later
neither (Some d) b first later = first

-- a test is denied by another way
by_test : (b : Bool) (d : Denied) → of_gate (Some d) ≡ false → of_gate (unless b d) ≡ false
by_test true d other = refl
by_test false d other = other

-- a container is denied by no gate, whatever the outcomes of its tests
of_container : (a b c d : Bool) → of_gate (unless a NoThread orelse unless b NoEntry orelse unless c BadKind orelse unless d Observe) ≡ false
of_container false b c d = refl
of_container true false c d = refl
of_container true true false d = refl
of_container true true true d = by_test d Observe refl

-- nor is what a call makes
of_new : (a b c d e : Bool)
    → of_gate (unless a Range orelse unless b Range orelse unless c Range orelse unless d TooBig orelse unless e TooBig) ≡ false
of_new false b c d e = refl
of_new true false c d e = refl
of_new true true false d e = refl
of_new true true true false e = refl
of_new true true true true e = by_test e TooBig refl

module _ (x : State) (t d : ℕ) where
  -- the first tests of a call that names a container, an object in it, or a segment in it
  container_first : of_gate (no_container x t d) ≡ false
  container_first =
      of_container (is_thread (x.objects t)) (is_present (x.objects d)) (is_container (x.objects d)) (observes (x.objects t) (x.objects d))

  link_first : (o : ℕ) → of_gate (no_link x t d o) ≡ false
  link_first o =
      let linked = set.contains (links_in (x.objects d)) o in
      neither (no_container x t d) (unless linked NoEntry) container_first (by_test linked NoEntry refl)

  segment_first : (o : ℕ) → of_gate (no_segment x t d o) ≡ false
  segment_first o =
      let segment = is_segment (x.objects o) in
      neither (no_link x t d o) (unless segment BadKind) (link_first o) (by_test segment BadKind refl)

  -- the tests of a call that makes an object
  making_first : of_gate (no_making x t d) ≡ false
  making_first =
      let may = modifies (x.objects t) (x.objects d) in
      neither (no_container x t d) (unless may Modify) container_first (by_test may Modify refl)

  new_first : (label : Levels) (size : ℕ) → of_gate (no_new x t d label size) ≡ false
  new_first label size =
      neither (no_making x t d) (unless (in_range (x.objects t) label) Range orelse unless (known x label) Range orelse unless (not (has_star label))
      Range orelse unless (fits_segment size) TooBig orelse unless (has_number x) TooBig) making_first
      (of_new (in_range (x.objects t) label) (known x label) (not (has_star label)) (fits_segment size) (has_number x))

module _ (accounts : Accounts) {s : State} {f : Flat} (l : ObjectsMatch accounts s f) where
  -- of the raw calls of a line that are denied, only one that enters a gate is denied by a gate
  is_entry : (x : State) (t : ℕ) (call : RawCall) → IsPlaced l call → of_gate (check x t call) ≡ true → IsEntry call
  is_entry x t (raw.Enter d o wanted clearance verify) placed gate = tt
  is_entry x t (raw.MakeSegment d label bytes) placed gate = absurd (true≢false (sym gate ∙ new_first x t d label (length bytes)))
  is_entry x t (raw.MakeContainer d label) placed gate = absurd (true≢false (sym gate ∙ new_first x t d label 0))
  is_entry x t (raw.Read d o) placed gate =
      let may = observes (x.objects t) (x.objects o) in
      absurd (true≢false (sym gate ∙ neither (no_segment x t d o) (unless may Observe) (segment_first x t d o) (by_test may Observe refl)))
  is_entry x t (raw.Write d o keep bytes) placed gate =
      let may = modifies (x.objects t) (x.objects o) in
      let fits = fits_segment (min keep (length (bytes_in (x.objects o))) + length bytes) in
      absurd (true≢false (sym gate ∙ neither (no_segment x t d o) (unless may Modify orelse unless fits TooBig) (segment_first x t d o)
      (neither (unless may Modify) (unless fits TooBig) (by_test may Modify refl) (by_test fits TooBig refl))))
  is_entry x t (raw.Unlink d o) placed gate =
      let may = modifies (x.objects t) (x.objects d) in
      absurd (true≢false (sym gate ∙ neither (no_link x t d o) (unless may Modify) (link_first x t d o) (by_test may Modify refl)))
  is_entry x t call placed gate = absurd placed

-- ---- the refusal of a line

-- a reply that is answered for a denial alone
abbrev of_denial : Reply → Bool
of_denial (Refused errno) = is_of_denial errno
of_denial reply = false

-- no answer of `stat` is one, nor one of `status`
stat_answer : (o : Option Node) → of_denial (stat_reply o) ≡ false
stat_answer None = refl
stat_answer (Some n) = refl

life_answer : (o : Option Process) → of_denial (life_reply o) ≡ false
life_answer None = refl
life_answer (Some p) = by p.exited
  where
    by : (e : Option ℕ) → of_denial (life_reply (Some (record p { exited = e }))) ≡ false
    by None = refl
    by (Some n) = refl

-- no answer of a call is one
no_answer : (f : Flat) (me : ProcName) (p : Process) (call : UnixCall) → of_denial (answer f me p call) ≡ false
no_answer f me p (Create q mode) = refl
no_answer f me p (Stat q) = stat_answer (get f.files q)
no_answer f me p (Status name) = life_answer (f.processes name)
no_answer f me p _ = refl

-- a refusal that was answered for a denial is the first need that is not met
refused_so : (o : Option Errno) (a : Reply) (errno : Errno) → of_denial a ≡ false → is_of_denial errno ≡ true
    → reply_or o a ≡ Refused errno → o ≡ Some errno
refused_so None a errno plain kind said = absurd (true≢false (sym kind ∙ sym (ap of_denial said) ∙ plain))
refused_so (Some e) a errno plain kind said = cc

-- the errno of a denial that was answered
answered_by : (denied : Denied) (reply : Reply) → option_map Refused (errno_by_rule denied) ≡ Some reply
    → (errno : Errno) × (errno_by_rule denied ≡ Some errno) × (is_of_denial errno ≡ true) × (reply ≡ Refused errno)
answered_by Observe reply said = (EACCES, refl, refl, sym (same_Some (Refused EACCES) reply said))
answered_by Modify reply said = (EACCES, refl, refl, sym (same_Some (Refused EACCES) reply said))
answered_by Gate reply said = (EACCES, refl, refl, sym (same_Some (Refused EACCES) reply said))
answered_by Range reply said = (EPERM, refl, refl, sym (same_Some (Refused EPERM) reply said))
answered_by TooBig reply said = (EFBIG, refl, refl, sym (same_Some (Refused EFBIG) reply said))
answered_by NoEntry reply said = absurd (none-some reply said)
answered_by NoThread reply said = absurd (none-some reply said)
answered_by BadKind reply said = absurd (none-some reply said)

-- what holds of the value of an option
value_so : {A : Type 0} (o : Option A) (P : A → Type 0) → IsSomeAnd o P → (a : A) × (o ≡ Some a) × P a
value_so None P so = absurd so
value_so (Some a) P so = (a, refl, so)

-- a raw call that makes something in a container makes a segment or a container
making_makes : (container : ℕ) (call : RawCall) → IsMaking container call → Makes call
making_makes container (raw.MakeSegment c label bytes) is = tt
making_makes container (raw.MakeContainer c label) is = tt
making_makes container call is = absurd is

-- ---- explanations along entries

-- what holds of the explanation of each denial holds of that of an outcome
of_outcome : (P : Explanation → Type 0) (words : Words) (x : State) (e : TraceEntry) (o : Option Denied) (lines : List ℕ)
    (explained : ExplainsOutcome words x e o lines)
    → ((denied : Denied) → o ≡ Some denied → (ex : Explanation) → ExplainsDenial x e.thread e.call denied ex → P ex)
    → OfOutcome P words x e o lines explained
of_outcome P words x e None lines explained each = tt
of_outcome P words x e (Some denied) lines explained each = each denied refl explained.0 explained.1

-- entries that were granted have no explanation
granted_outcome : (P : Explanation → Type 0) (words : Words) (x : State) (e : TraceEntry) (o : Option Denied) (lines : List ℕ)
    (explained : ExplainsOutcome words x e o lines) → o ≡ None → OfOutcome P words x e o lines explained
granted_outcome P words x e o lines explained none =
    of_outcome P words x e o lines explained (λ denied is. absurd (none-some denied (sym none ∙ is)))

-- nor have those that only give labels
granted_entries : (P : Explanation → Type 0) (words : Words) (x : State) (entries : List TraceEntry) (text : List ℕ) (last : State)
    (explained : ExplainsEntries words x entries text last) → AllByRecursion IsRestoring entries → OfEntries P words x entries text last explained
granted_entries P words x [] text last explained granted = tt
granted_entries P words x (e ∷ entries) text last explained granted = (
  granted_outcome P words x e e.denied explained.1 explained.3.explains granted.0.0,
  granted_entries P words explained.0 entries explained.2 last explained.5 granted.1,
)

-- where nothing comes after a denial, the state is the last one
ends_there : (words : Words) (x : State) (entries : List TraceEntry) (text : List ℕ) (last : State) → ExplainsEntries words x entries text last
    → map (λ (e : TraceEntry). e.call) entries ≡ [] → last ≡ x
ends_there words x [] text last explained none = explained.1
ends_there words x (e ∷ entries) text last explained none = absurd cc

-- ---- a line

module _ (accounts : Accounts) (s : State) (f : Flat) (asked : CallLine) (births : Births) (mid : State) where
  -- A line of a process that runs, from a state that represents a flat state to one that represents the one after its call, with the births
  -- known then.
  record IsKnownLine : Type 0 where
    old : Represents accounts s f
    still : RepresentsStill old mid (flat_after accounts f asked.process asked.call)
    known : NamesBirths births accounts mid (flat_after accounts f asked.process asked.call)
    same : known.represents ≡ still.represents
    process : Process
    runs : running f asked.process ≡ Some process
    here : f.processes asked.process ≡ Some process
    thread : ℕ

  -- an entry is of the thread of a line; if it was denied, it is on what the reason of the refusal names, and the reply is that of the denial
  record IsEntryOf (thread : ℕ) (process : Process) (e : TraceEntry) : Type 0 where
    by_thread : e.thread ≡ thread
    named : IsNamedDenial accounts s f asked.process process asked.call e.call e.denied
    reply : IsReplyOfDenial (reply_to accounts f asked.process asked.call) e.denied

module _ {accounts : Accounts} {s : State} {f : Flat} {asked : CallLine} {births : Births} {mid : State}
    (line : IsKnownLine accounts s f asked births mid) where
  -- the process of the line, its name, and the objects before the line
  abbrev me : ProcName
  me = asked.process

  abbrev p : Process
  p = line.process

  abbrev l : ObjectsMatch accounts s f
  l = line.old.matched

  -- the line is refused where a call is denied
  refusal : (denied : Denied) → IsReplyOfDenial (reply_to accounts f me asked.call) (Some denied)
      → (errno : Errno) × (errno_by_rule denied ≡ Some errno) × (refused accounts f me p asked.call ≡ Some errno)
  refusal denied said =
      let found = answered_by denied (reply_to accounts f me asked.call) said in (
        found.0,
        found.1,
        refused_so (refused accounts f me p asked.call) (answer f me p asked.call) found.0 (no_answer f me p asked.call) found.2
            (sym (ap (λ (r : Option Process). reply_by accounts f me r asked.call) line.runs) ∙ found.3),
      )

  module _ (errno : Errno) (refused_by : refused accounts f me p asked.call ≡ Some errno) where
    -- then it changes nothing
    same_flat : flat_after accounts f me asked.call ≡ f
    same_flat =
        ap (λ (r : Option Process). flat_by accounts f me r asked.call) line.runs
        ∙ ap (λ (o : Option Errno). flat_or o f (changed accounts f me p asked.call)) refused_by

    -- and the state represents the flat state still
    refused_line : IsRefusedLine accounts s f asked births mid line.old p
    refused_line =
        subst (λ (g : Flat). (still : RepresentsStill line.old mid g) (known : NamesBirths births accounts mid g)
        → known.represents ≡ still.represents → IsRefusedLine accounts s f asked births mid line.old p) (sym same_flat)
        (λ still known same. record { still = still; known = known; same = same; here = line.here })
        line.still line.known line.same

    -- the reason of the refusal has its errno
    reason_errno : (r : Reason) → why accounts f me p asked.call ≡ Some r → errno_of r ≡ errno
    reason_errno r is =
        let root = ap (λ (o : Option Node). is_some_and o is_dir) (root_is_dir accounts s f l).1 in
        same_Some (errno_of r) errno (ap (option_map errno_of) (sym is)
        ∙ agrees accounts f me p root (path_of asked.call) (Unit {0}) (rule asked.call).needs
        (grounded_at accounts f me p (path_of asked.call) asked.call) tt
        ∙ refused_by)

  -- a reason of EPERM is about a making
  makes_by : (r : Reason) (call : RawCall) → errno_of r ≡ EPERM → IsAbout accounts s asked.call r call → Makes call
  makes_by MakesOnlyOpen call is about = making_makes about.0 call about.3
  makes_by (IsNoMember group) call is about = making_makes about.0 call about.3
  makes_by StartsNoJob call is about = making_makes about.0 call about.3
  makes_by r call is about = absurd (cc)

  -- this is complete
  abbrev Whole : Explanation → Type 0
  Whole = IsComplete accounts mid asked births

  -- each of some requests may be denied so, or one
  abbrev Each : State → List Request → Type 0
  Each = MayEachBeDenied accounts s f l me p line.thread (IsOfUsed l)

  abbrev May : State → Request → Type 0
  May = MayBeDenied accounts s f l me p line.thread (IsOfUsed l)

  -- how the raw call of an entry was denied
  module _ (x : State) (e : TraceEntry) (entry : IsEntryOf accounts s f asked births mid line.thread p e) (denied : Denied)
      (is : e.denied ≡ Some denied) (checked : check x e.thread e.call ≡ e.denied) where
    -- the errno that is answered for it, which is the refusal of the line
    shown : (errno : Errno) × (errno_by_rule denied ≡ Some errno) × (refused accounts f me p asked.call ≡ Some errno)
    shown = refusal denied (subst (IsReplyOfDenial (reply_to accounts f me asked.call)) is entry.reply)

    -- its reason, which it is about
    reason : (r : Reason) × (why accounts f me p asked.call ≡ Some r) × IsAbout accounts s asked.call r e.call
    reason =
        value_so (why accounts f me p asked.call) (λ (r : Reason). IsAbout accounts s asked.call r e.call)
        (subst (IsNamedDenial accounts s f me p asked.call e.call) is entry.named)

    -- the line that is refused
    the_line : IsRefusedLine accounts s f asked births mid line.old p
    the_line = refused_line shown.0 shown.2

    -- what it makes is in a directory
    placed : IsPlaced l e.call
    placed = about_place l asked.call reason.0 e.call reason.2

    -- it was denied so, by the labels of its call
    denied_so : (New : ℕ → Type 0) (y : State) → IsNamedCall (HasPurpose accounts births) New y line.thread e.call
        → IsDeniedSo accounts mid asked births New y line.thread e.call denied
    denied_so New y called = record {
      called = called;
      makes = λ range. makes_by reason.0 e.call
          (reason_errno shown.0 shown.2 reason.0 reason.1
          ∙ same_Some shown.0 EPERM (sym shown.1 ∙ ap errno_by_rule range)) reason.2;
      entry = λ gate. is_entry accounts l x e.thread e.call placed (ap of_gate (checked ∙ is ∙ ap Some gate));
      answered = (shown.0, shown.1);
      found = about_located the_line.still asked p reason.0 e.call reason.1 reason.2;
    }

    module _ (ex : Explanation) (explains : IsExplanationOf x e.thread e.call denied ex) where
      -- it is explained at another name of its state, by the thread of the line
      explained_at : (y : State) → x ≡ y → IsExplanationOf y line.thread e.call denied ex
      explained_at y same =
          subst (λ (z : State). IsExplanationOf z line.thread e.call denied ex) same
          (subst (λ (t : ℕ). IsExplanationOf x t e.call denied ex) entry.by_thread explains)

      -- a request after whose denial nothing is made
      whole_now : x ≡ mid → IsHanded accounts s f l me p line.thread (IsOfUsed l) e.call → Whole ex
      whole_now same handed =
          complete_by accounts mid asked births (λ c. ⊥) mid line.thread (labels_now the_line line.thread) e.call denied
          (denied_so (λ c. ⊥) mid (called_now the_line line.thread e.call placed handed)) ex (explained_at mid same)

      -- the directory of a new job
      whole_job : MakesJob accounts s f l me p line.thread (IsOfUsed l) x e.call → Whole ex
      whole_job job =
          let y = with_category s line.thread in
          let at : MakesJob accounts s f l me p line.thread (IsOfUsed l) y e.call =
          record { granted = job.granted; state = refl; container = job.container; is = job.is } in
          complete_by accounts mid asked births (λ c. c ≡ s.next_category) y line.thread (labels_job the_line line.thread job.granted)
          e.call denied (denied_so (λ c. c ≡ s.next_category) y (called_job the_line line.thread job.granted e.call at)) ex
          (explained_at y job.state)

      -- whichever request it is of
      whole_by : (r : Request) → e.call ≡ r.call → (r.if_denied ≡ [] → x ≡ mid) → May x r → Whole ex
      whole_by r call last (inl plain) =
          whole_now (last plain.0) (subst (IsHanded accounts s f l me p line.thread (IsOfUsed l)) (sym call) plain.1)
      whole_by r call last (inr job) =
          whole_job (subst (MakesJob accounts s f l me p line.thread (IsOfUsed l) x) (sym call) job)

  -- ---- the entries of the line, one after another

  -- each explanation of a denied one is complete
  all_whole : (words : Words) (requests : List Request) (x : State) (entries : List TraceEntry) (text : List ℕ) → Each x requests
      → AreMade requests entries → (explained : ExplainsEntries words x entries text mid)
      → AllByRecursion (IsEntryOf accounts s f asked births mid line.thread p) entries × IsRefusedOnce entries
      → OfEntries Whole words x entries text mid explained
  all_whole words requests x [] text each made explained facts = tt
  all_whole words [] x (e ∷ entries) text each made explained facts = absurd cc
  all_whole words (r ∷ rs) x (e ∷ entries) text each made explained facts = (
    of_outcome Whole words x e e.denied explained.1 explained.3.explains (λ denied is ex explains.
        whole_by x e facts.0.0 denied is explained.3.outcome ex explains.is r made.0 (last denied is) each.0),
    later e.denied refl made.1 facts.1 (λ none more once.
        all_whole words rs explained.0 entries explained.2 (each.1 explained.0 (passes none) (leaves none)) more explained.5 (facts.0.1, once)),
  )
    where
      y : State
      y = explained.0

      last : (denied : Denied) → e.denied ≡ Some denied → r.if_denied ≡ [] → x ≡ mid
      last denied is none =
          let after =
          subst (λ (o : Option Denied). ByOutcome o (AreMade rs entries) (map (λ (e : TraceEntry). e.call) entries ≡ r.if_denied)) is
          made.1 in
          let stays = subst (λ (o : Option Denied). Leaves o x e.thread e.call y) is explained.3.leaves in
          sym (ends_there words y entries explained.2 mid explained.5 (after ∙ none) ∙ stays)

      passes : e.denied ≡ None → check x line.thread r.call ≡ None
      passes none = (λ i. check x (sym facts.0.0.by_thread i) (sym made.0 i)) ∙ explained.3.outcome ∙ none

      leaves : e.denied ≡ None → Leaves None x line.thread r.call y
      leaves none =
          subst (λ (c : RawCall). Leaves None x line.thread c y) made.0
          (subst (λ (t : ℕ). Leaves None x t e.call y) facts.0.0.by_thread
          (subst (λ (o : Option Denied). Leaves o x e.thread e.call y) none explained.3.leaves))

      later : (o : Option Denied) → e.denied ≡ o → ByOutcome o (AreMade rs entries) (map (λ (e : TraceEntry). e.call) entries ≡ r.if_denied)
          → elim o as (λ _. Type 0) [ None ↦ IsRefusedOnce entries | Some denied ↦ AllByRecursion IsRestoring entries ]
          → (e.denied ≡ None → AreMade rs entries → IsRefusedOnce entries → OfEntries Whole words y entries explained.2 mid explained.5)
          → OfEntries Whole words y entries explained.2 mid explained.5
      later None none more once go_on = go_on none more once
      later (Some denied) is more restoring go_on = granted_entries Whole words y entries explained.2 mid explained.5 restoring

-- ---- a line, whether its process runs or not

module _ (accounts : Accounts) (s : State) (f : Flat) (asked : CallLine) (births : Births) (mid : State) where
  -- the entries of a line are of one thread, the process's
  one_thread : (old : Represents accounts s f) (t : ℕ) → IsThreadOf accounts s asked.process t → (u : ℕ)
      → IsThreadOf accounts s asked.process u → u ≡ t
  one_thread old t at u other =
      same_Some u t
      (sym (thread_back accounts s f old.matched asked.process u other).3 ∙ (thread_back accounts s f old.matched asked.process t at).3)

  -- each entry of a line is so
  of_line : (old : Represents accounts s f) (t : ℕ) (p : Process) → IsThreadOf accounts s asked.process t → (entries : List TraceEntry)
      → AllByRecursion (λ (e : TraceEntry). (e.line ≡ asked.line) × IsThreadOf accounts s asked.process e.thread) entries
      → DenialsAreNamed accounts s f asked.process (Some p) asked.call entries
      → AllByRecursion (λ (e : TraceEntry). IsReplyOfDenial (reply_to accounts f asked.process asked.call) e.denied) entries
      → AllByRecursion (IsEntryOf accounts s f asked births mid t p) entries
  of_line old t p at [] own named replies = tt
  of_line old t p at (e ∷ entries) own named replies = (
    record { by_thread = one_thread old t at e.thread own.0.1; named = named.0; reply = replies.0 },
    of_line old t p at entries own.1 named.1 replies.1,
  )

-- a process that runs is there
runs_there : (o : Option Process) (p : Process) → if_running o ≡ Some p → o ≡ Some p
runs_there None p e = absurd (none-some p e)
runs_there (Some q) p e = by q.exited e
  where
    by : (exited : Option ℕ) → elim exited as (λ _. Option Process) [ None ↦ Some q | Some n ↦ None ] ≡ Some p → Some q ≡ Some p
    by None e = e
    by (Some n) e = absurd (none-some p e)

module _ {accounts : Accounts} {s : State} {f : Flat} {asked : CallLine} {own : List TraceEntry} {mid : State}
    (line : SimulatesLine accounts s f asked own mid) (births : Births) (old : Represents accounts s f)
    (known : NamesBirths births accounts mid (flat_after accounts f asked.process asked.call))
    (same : known.represents ≡ (line.keeps old).represents) (words : Words) where
  -- whether the process of the line runs or not
  by_running : (o : Option Process) → running f asked.process ≡ o → (entries : List TraceEntry) (text : List ℕ)
      → AreItsRequests accounts old.matched asked.process o asked.call entries → DenialsAreNamed accounts s f asked.process o asked.call entries
      → AllByRecursion (λ (e : TraceEntry). (e.line ≡ asked.line) × IsThreadOf accounts s asked.process e.thread) entries
      × AllByRecursion (λ (e : TraceEntry). IsReplyOfDenial (reply_to accounts f asked.process asked.call) e.denied) entries
      × IsRefusedOnce entries → (explained : ExplainsEntries words s entries text mid)
      → OfEntries (IsComplete accounts mid asked births) words s entries text mid explained
  by_running o is [] text requests named facts explained = tt
  by_running None is (e ∷ entries) text requests named facts explained = absurd cc
  by_running (Some p) is (e ∷ entries) text requests named facts explained =
      let here = runs_there (f.processes asked.process) p is in
      let known_line : IsKnownLine accounts s f asked births mid =
      record { old = old; still = line.keeps old; known = known; same = same; process = p; runs = is; here = here; thread = e.thread } in
      all_whole known_line words (requests_of accounts old.matched asked.process p asked.call) s (e ∷ entries) text
      (requests_denied accounts s f old.matched asked.process p e.thread (IsOfUsed old.matched) here
      (own_lists accounts s f old.matched asked.process p here)
      (λ mode. made_lists accounts s f old.matched asked.process p here mode) asked.call)
      requests explained
      (of_line accounts s f asked births mid old e.thread p facts.0.0.1 (e ∷ entries) facts.0 named facts.1, facts.2)

  -- Each explanation of the line is complete.
  line_complete : (text : List ℕ) (explained : ExplainsEntries words s own text mid)
      → OfEntries (IsComplete accounts mid asked births) words s own text mid explained
  line_complete text explained =
      by_running (running f asked.process) refl own text (line.requests old) line.named (line.line.own, line.line.denials, line.line.once) explained

-- ---- all lines

-- along the lines each explanation is complete
complete_along : (accounts : Accounts) (s : State) (f : Flat) (births : Births) (calls : List CallLine) (entries : List TraceEntry)
    (text : List ℕ) (end : State) (lines : ExplainsCallLines accounts s f births calls entries text end) → IsTree f
    → (known : NamesBirths births accounts s f) → CompleteAlong accounts s f births calls entries text end lines
complete_along accounts s f births [] entries text end lines tree known = tt
complete_along accounts s f births (asked ∷ more) entries text end lines tree known =
    let mid = lines.2 in
    let born = births_of accounts mid asked births in
    let still = lines.7.keeps known.represents in
    let up = (run_counts s lines.0 mid lines.7.line.run).categories in
    let kept = births_are_kept births accounts s mid f tree known asked.process asked.call still up in (
      line_complete lines.7 born known.represents kept.0 kept.1 (words_of accounts mid asked born) lines.3 lines.8,
      complete_along accounts mid (flat_after accounts f asked.process asked.call) born more lines.1 lines.4 end lines.9
          (tree_after f tree accounts asked.process asked.call) kept.0,
    )

-- Each explanation of a script is complete.
pub explanations_are_complete : ExplanationsAreComplete
explanations_are_complete script trace text explains =
    let recorded = explains.recorded in
    complete_along script.accounts recorded.start (boot script.accounts) [] script.calls recorded.of_lines text recorded.end
    explains.refinements (tree_at_start script.accounts) (births_at_start script.accounts recorded.start recorded.boot_represents)
