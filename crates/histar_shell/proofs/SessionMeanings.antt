-- A run does what its script means: the fold of its lines.
use Rattle.std.proofs.Common.{◌≡◌, ℕ, List, [], ◌∷◌, ◌++◌, Option, Result, Ok, Err, refl, sym, ap, ◌∙◌, subst, append-nil, append_assoc, inl, inr}
use Rattle.std.proofs.Common.{◌⊎◌}
use Rattle.std.specs.List.{AllByRecursion}
use Rattle.std.specs.Io.KnownBytes.{Appends}
use Rattle.std.proofs.KnownBytes.{Appends-trans}
use Rattle.std.proofs.lemmas.Grind.{flat_map-append}
use Rattle.histar_flat.specs.Accounts.{Accounts}
use Rattle.histar_flat.specs.FlatState.{Flat}
use Rattle.histar_flat.specs.FlatCalls.{flat_after}
use Rattle.histar_flat.specs.Meaning.{boot, answered_from, flat_end, meaning, RepliedCall}
use Rattle.histar_flat.proofs.Laws.{replies_go_on}
use Rattle.histar_object.specs.State.{State, empty_state}
use Rattle.histar_script.specs.Script.{ScriptModel, IsDeclared}
use Rattle.histar_script.specs.declared.fault.Fault.{Fault}
use Rattle.histar_script.specs.declared.fault.Fault.TheVariants.{BadScript, TooLong, OutOfMemory, ReadFailed, WriteFailed}
use Rattle.histar_flat.specs.declared.calls.CallLine.{CallLine}
use Rattle.histar_script.specs.Reading.{script_of}
use Rattle.histar_trace.specs.declared.entries.TraceEntry.{TraceEntry}
use Rattle.histar_syscall.specs.KernelModel.{KernelModel, state}
use Rattle.histar_syscall.specs.Runs.{IsBy, IsRun}
use Rattle.histar_login.specs.Boot.{boot_calls, IsBooted}
use Rattle.histar_programs.specs.Start.{boot_thread_number}
use Rattle.histar_refinement.specs.Represents.{Represents}
use Rattle.histar_shell.proofs.CallRefinements.{CallsRefine}
use Rattle.histar_sim.specs.Simulation.{SimulatesLines}
use Rattle.histar_sim.proofs.Chains.{entries_of, chain_run, chain_own, granted_run}
use Rattle.histar_io.specs.Writing.{AppendsFront}
use Rattle.histar_shell.specs.Answers.{answer_text, answers_text, calls_of}
use Rattle.histar_shell.specs.Machine.{MachineModel, IsStart, IsTraced}
use Rattle.histar_shell.specs.AnsweredCalls.{AnswersInTurn, AnswersCalls, BeginsAnswers}
use Rattle.histar_shell.specs.declared.session.Options.{Options}
use Rattle.histar_shell.specs.Ending.{IsEnding, HasTree, asked_trace}
use Rattle.histar_shell.specs.Outcome.{BeginsEnding, BeginsScript, WritesAtFault, WritesAnswers}
use Rattle.histar_shell.specs.Meaning.{last_state, asked_tree, meaning_text, Shows, AnswersAsMeant, IsMeantTrace, WritesMeaning, BeginsTrace}
use Rattle.histar_shell.specs.Meaning.{BeginsMeaning, WritesMeaningAtFault, RunsAsMeant}
use Rattle.histar_shell.proofs.Users.{AreScriptable, script_says}
use Rattle.histar_shell.proofs.AnswerLemmas.{front_after}
use Rattle.histar_shell.proofs.ShownTrees.{shown_tree, tree_asked}
use Rattle.histar_shell.proofs.LineMeanings.{line_follows}
use Rattle.histar_shell.proofs.RefinedRuns.{run_after, refinements_run}
use Rattle.histar_shell.proofs.Starts.{start_is_matched, start_shows}

-- What some lines have done, from a machine on that represents a flat state.
pub record IsMeantSession (accounts : Accounts) (m : MachineModel) (f : Flat) (answers : List RepliedCall) (end : MachineModel) : Type 0 where
  pub replies : answers ≡ answered_from accounts f (calls_of answers)
  pub entries : List TraceEntry
  pub trace : end.kernel.trace ≡ m.kernel.trace ++ entries
  pub refinements : SimulatesLines accounts (state m.kernel) f (calls_of answers) entries (state end.kernel)
  pub shows : Shows accounts end (flat_end accounts f (calls_of answers))

module _ (declared : Accounts) where
  -- no lines
  accounts_none : (m : MachineModel) (f : Flat) (end : MachineModel) → end ≡ m → Shows declared m f → IsMeantSession declared m f [] end
  accounts_none m f end same shows = record {
    replies = refl;
    entries = [];
    trace = ap (λ (x : MachineModel). x.kernel.trace) same ∙ sym (append-nil m.kernel.trace);
    refinements = (refl, ap (λ (x : MachineModel). state x.kernel) same);
    shows = subst (λ (x : MachineModel). Shows declared x f) (sym same) shows;
  }

  -- a line before other lines
  accounts_first : (m mid : MachineModel) (f : Flat) (a : RepliedCall) (answers : List RepliedCall) (end : MachineModel)
      → AnswersAsMeant declared m mid f a.call a.reply
      → IsMeantSession declared mid (flat_after declared f a.call.process a.call.call) answers end → IsMeantSession declared m f (a ∷ answers) end
  accounts_first m mid f a answers end line later = record {
    replies = λ i. record { call = a.call; reply = line.is_reply i } ∷ later.replies i;
    entries = line.entries ++ later.entries;
    trace = later.trace ∙ ap (λ (es : List TraceEntry). es ++ later.entries) line.trace ∙ append_assoc m.kernel.trace line.entries later.entries;
    refinements = (line.entries, later.entries, state mid.kernel, refl, line.refined, later.refinements);
    shows = later.shows;
  }

  -- lines that a script can have do what they mean
  pub accounts_means : (refinements : CallsRefine (Unit {0})) (m : MachineModel) (f : Flat) (answers : List RepliedCall)
      (end : MachineModel) → AnswersInTurn m answers end → Shows declared m f → AreScriptable (calls_of answers)
      → IsMeantSession declared m f answers end
  accounts_means refinements m f [] end accounts shows can = accounts_none m f end accounts shows
  accounts_means refinements m f (a ∷ answers) end accounts shows can =
      let line = line_follows refinements m accounts.0 a.call.line a.call.process a.call.call (Ok a.reply) can.0 accounts.1 declared f shows in
      accounts_first m accounts.0 f a answers end line
      (accounts_means refinements accounts.0 (flat_after declared f a.call.process a.call.call) answers end accounts.2 line.shows can.1)

-- the raw calls of boot
pub record IsBootTrace (accounts : Accounts) (m : MachineModel) : Type 0 where
  pub entries : List TraceEntry
  pub trace : m.kernel.trace ≡ entries
  pub run : IsRun empty_state entries (state m.kernel)
  pub own : AllByRecursion (IsBy 0 boot_thread_number) entries

-- a machine that was booted by its raw calls alone has a trace of them
pub booted_traced : (accounts : Accounts) (kernel : KernelModel) → IsBooted accounts kernel → IsTraced kernel
booted_traced accounts kernel booted =
    let granted = granted_run boot_thread_number booted.first kernel (boot_calls accounts) booted.made in
    let part = chain_run boot_thread_number booted.first kernel granted.0 granted.1 in
    let entries = entries_of booted.first.line boot_thread_number granted.0 in
    subst (λ (es : List TraceEntry). IsRun empty_state es (state kernel))
    (sym (part.trace ∙ ap (λ (es : List TraceEntry). es ++ entries) booted.no_trace))
    (subst (λ (s : State). IsRun s entries (state kernel)) booted.empty part.run)

pub boot_trace : (accounts : Accounts) (m : MachineModel) → IsBooted accounts m.kernel → IsBootTrace accounts m
boot_trace accounts m booted =
    let granted = granted_run boot_thread_number booted.first m.kernel (boot_calls accounts) booted.made in
    let part = chain_run boot_thread_number booted.first m.kernel granted.0 granted.1 in
    let entries = entries_of booted.first.line boot_thread_number granted.0 in
    record {
      entries = entries;
      trace = part.trace ∙ ap (λ (es : List TraceEntry). es ++ entries) booted.no_trace;
      run = subst (λ (s : State). IsRun s entries (state m.kernel)) booted.empty part.run;
      own =
          subst (λ (line : ℕ). AllByRecursion (IsBy line boot_thread_number) entries) booted.line
          (chain_own boot_thread_number booted.first.line granted.0);
    }

module _ (refinements : CallsRefine (Unit {0})) (script : ScriptModel) (declared : IsDeclared script.accounts)
    (can : AreScriptable script.calls) (start : MachineModel) (starts : IsStart script.accounts start) where
  -- what the lines do from the start on
  from_start : (answers : List RepliedCall) (end : MachineModel) → AreScriptable (calls_of answers)
      → AnswersInTurn start answers end → IsMeantSession script.accounts start (boot script.accounts) answers end
  from_start answers end these accounts =
      accounts_means script.accounts refinements start (boot script.accounts) answers end accounts
      (start_shows script.accounts declared start starts) these

  -- the replies to the lines that were answered
  replies_to : (answers : List RepliedCall) (end : MachineModel) → AreScriptable (calls_of answers)
      → AnswersInTurn start answers end → answers ≡ meaning script.accounts (calls_of answers)
  replies_to answers end these accounts = (from_start answers end these accounts).replies

  -- the flat state after all lines
  abbrev last : Flat
  last = last_state script

  -- the machine represents this flat state
  pub shows_end : (end : MachineModel) (answers : List RepliedCall) → calls_of answers ≡ script.calls
      → AnswersInTurn start answers end → Shows script.accounts end last
  shows_end end answers each in_turn =
      let these : AreScriptable (calls_of answers) = subst AreScriptable (sym each) can in
      subst
      (λ (calls : List CallLine). Shows script.accounts end (flat_end script.accounts (boot script.accounts) calls))
      each (from_start answers end these in_turn).shows

  -- the machine represents the last flat state also where the replies were written
  pub shows_last : (old replied : Option (List ℕ)) (end : MachineModel)
      → AnswersCalls start end old replied script.calls → Shows script.accounts end last
  shows_last old replied end answered = shows_end end answered.answers answered.each answered.in_turn

  -- the replies to all lines
  pub all_replies : (end : MachineModel) (answers : List RepliedCall) → calls_of answers ≡ script.calls
      → AnswersInTurn start answers end → answers ≡ meaning script.accounts script.calls
  all_replies end answers each in_turn =
      let these : AreScriptable (calls_of answers) = subst AreScriptable (sym each) can in
      replies_to answers end these in_turn ∙ ap (meaning script.accounts) each

  -- the text of the replies
  replies_are : (old replied : Option (List ℕ)) (end : MachineModel)
      (answered : AnswersCalls start end old replied script.calls)
      → answers_text answered.answers ≡ answers_text (meaning script.accounts script.calls)
  replies_are old replied end answered = ap answers_text (all_replies end answered.answers answered.each answered.in_turn)

  -- the trace of all lines
  trace_is : (old replied : Option (List ℕ)) (end : MachineModel) → AnswersCalls start end old replied script.calls
      → (trace : List TraceEntry) → trace ≡ end.kernel.trace → IsMeantTrace script trace
  trace_is old replied end answered trace recorded =
      let these : AreScriptable (calls_of answered.answers) = subst AreScriptable (sym answered.each) can in
      let accounts = from_start answered.answers end these answered.in_turn in
      let of_boot = boot_trace script.accounts start starts.booted in
      let parts = recorded ∙ accounts.trace ∙ ap (λ (es : List TraceEntry). es ++ accounts.entries) of_boot.trace in
      let of_lines =
      subst (λ (calls : List CallLine).
      SimulatesLines script.accounts (state start.kernel) (boot script.accounts) calls accounts.entries
      (state end.kernel)) answered.each accounts.refinements in
      record {
        of_boot = of_boot.entries;
        of_lines = accounts.entries;
        parts = parts;
        start = state start.kernel;
        boot_run = of_boot.run;
        boot_own = of_boot.own;
        boot_represents =
            subst (λ (s : State). Represents script.accounts s (boot script.accounts)) (sym starts.state)
            (start_is_matched script.accounts declared);
        end = state end.kernel;
        refinements = of_lines;
        run = subst (λ (es : List TraceEntry). IsRun empty_state es (state end.kernel)) (sym parts)
            (run_after empty_state (state start.kernel) (state end.kernel) of_boot.entries accounts.entries of_boot.run
            (refinements_run script.accounts (state start.kernel) (boot script.accounts) script.calls accounts.entries (state end.kernel) of_lines));
      }

  module _ (options : Options) where
    -- the replies, and then what follows them
    pub whole_is : (old replied : Option (List ℕ)) (end : MachineModel)
        (answered : AnswersCalls start end old replied script.calls) (ending : List ℕ) → IsEnding options end ending
        → (trace : List TraceEntry) → trace ≡ end.kernel.trace
        → answers_text answered.answers ++ ending ≡ meaning_text options script ++ asked_trace options trace
    whole_is old replied end answered ending ends trace recorded =
        let of_trace = asked_trace options trace in
        (λ i. replies_are old replied end answered i ++ ends.parts i)
        ∙ (λ i. answers_text (meaning script.accounts script.calls)
        ++ (tree_asked script.accounts end last (shows_last old replied end answered) options.tree ends.tree
        ends.prints i ++ asked_trace options (sym recorded i)))
        ∙ sym (append_assoc (answers_text (meaning script.accounts script.calls)) (asked_tree options last) of_trace)

    -- all lines were answered
    pub writes_meaning : (old replied new : Option (List ℕ)) (read : Result ScriptModel Fault) → read ≡ Ok script
        → (trace : List TraceEntry) (end : MachineModel) → AnswersCalls start end old replied script.calls
        → (ending : List ℕ) → IsEnding options end ending → Appends replied new ending → trace ≡ end.kernel.trace
        → WritesMeaning options old new read trace
    writes_meaning old replied new read is_read trace end answered ending ends revealed recorded = record {
      script = script;
      is_read = is_read;
      recorded = trace_is old replied end answered trace recorded;
      written =
          subst (Appends old new) (whole_is old replied end answered ending ends trace recorded)
          (Appends-trans old replied new (answers_text answered.answers) ending answered.written revealed);
    }

    -- the calls were answered, and then a beginning of what follows the replies was written
    ends_meaning : (old new : Option (List ℕ)) → BeginsEnding options start old new script.calls → BeginsTrace options old new script
    ends_meaning old new begun = record {
      trace = begun.end.kernel.trace;
      recorded = trace_is old begun.replied begun.end begun.answered begun.end.kernel.trace refl;
      written =
          subst (AppendsFront old new) (ap (λ (t : List ℕ). answers_text begun.answered.answers ++ t) (append-nil begun.ending)
          ∙ whole_is old begun.replied begun.end begun.answered begun.ending begun.ends begun.end.kernel.trace
          refl)
          (front_after old begun.replied new (answers_text begun.answered.answers) begun.ending [] begun.answered.written begun.appended);
    }

    -- the first calls of a list that can all be said can be
    front_can : (front rest : List CallLine) → AreScriptable (front ++ rest) → AreScriptable front
    front_can [] rest h = tt
    front_can (c ∷ front) rest h = (h.0, front_can front rest h.1)

    -- a beginning of a text is one of a longer text
    pub longer_front : (old new : Option (List ℕ)) (text more : List ℕ) → AppendsFront old new text → AppendsFront old new (text ++ more)
    longer_front old new text more h = (
      h.0
          ++ more,
      record {
        front = h.1.front;
        parts = ap (λ (t : List ℕ). t ++ more) h.1.parts ∙ append_assoc h.1.front h.0 more;
        appended = h.1.appended;
      },
    )

    -- the first lines were answered
    pub answers_begin : (old new : Option (List ℕ)) → BeginsAnswers start old new script.calls → AppendsFront old new (meaning_text options script)
    answers_begin old new begun =
        let front = calls_of begun.answers in
        let these : AreScriptable front = front_can front begun.rest (subst AreScriptable begun.parts can) in
        let text = ap answers_text (replies_to begun.answers begun.end these begun.in_turn) in
        let rest_text = answers_text (answered_from script.accounts (flat_end script.accounts (boot script.accounts) front) begun.rest) in
        let replies : answers_text (meaning script.accounts script.calls) ≡ answers_text begun.answers ++ rest_text =
        ap (λ (calls : List CallLine). answers_text (meaning script.accounts calls)) begun.parts
        ∙ ap answers_text (replies_go_on script.accounts (boot script.accounts) front begun.rest)
        ∙ flat_map-append answer_text (meaning script.accounts front)
        (answered_from script.accounts (flat_end script.accounts (boot script.accounts) front) begun.rest)
        ∙ ap (λ (t : List ℕ). t ++ rest_text) (sym text) in
        longer_front old new (answers_text (meaning script.accounts script.calls)) (asked_tree options last)
        (subst (AppendsFront old new) (sym replies) (longer_front old new (answers_text begun.answers) rest_text begun.written))

    pub begins_meaning : (old new : Option (List ℕ)) (read : Result ScriptModel Fault) → read ≡ Ok script
        → BeginsAnswers start old new script.calls ⊎ BeginsEnding options start old new script.calls
        → BeginsMeaning options old new read
    begins_meaning old new read is_read (inl begun) = record { script = script; is_read = is_read; written = inl (answers_begin old new begun) }
    begins_meaning old new read is_read (inr begun) = record { script = script; is_read = is_read; written = inr (ends_meaning old new begun) }

-- the beginning of a script's answers is one of its meaning
begun_script : (refinements : CallsRefine (Unit {0})) (options : Options) (old new : Option (List ℕ)) (text : List ℕ)
    → BeginsScript options old new (script_of text) → BeginsMeaning options old new (script_of text)
begun_script refinements options old new text h =
    let says = script_says text h.script h.is_read in begins_meaning refinements h.script says.0 says.1 h.start h.starts
    options old new (script_of text) h.is_read h.begun

-- at a fault
meant_at_fault : (refinements : CallsRefine (Unit {0})) (options : Options) (old new : Option (List ℕ)) (text : List ℕ)
    (fault : Fault) → WritesAtFault options old new (script_of text) fault
    → WritesMeaningAtFault options old new (script_of text) fault
meant_at_fault refinements options old new text (BadScript n) h = h
meant_at_fault refinements options old new text TooLong h = h
meant_at_fault refinements options old new text OutOfMemory (inl h) = inl h
meant_at_fault refinements options old new text OutOfMemory (inr h) = inr (begun_script refinements options old new text h)
meant_at_fault refinements options old new text ReadFailed h = h
meant_at_fault refinements options old new text WriteFailed h = begun_script refinements options old new text h

-- what a run answers is as its script means
pub meant_run : (refinements : CallsRefine (Unit {0})) (options : Options) (old new : Option (List ℕ)) (text : List ℕ)
    (result : Result (List TraceEntry) Fault) → WritesAnswers options old new (script_of text) result
    → RunsAsMeant options old new (script_of text) result
meant_run refinements options old new text (Ok trace) h =
    let says = script_says text h.script h.is_read in
    writes_meaning refinements h.script says.0 says.1 h.start h.starts options old h.replied new (script_of text)
    h.is_read trace h.end h.answered h.ending h.ends h.appended h.recorded
meant_run refinements options old new text (Err fault) h = meant_at_fault refinements options old new text fault h

-- a machine that answered all lines of a script has a tree
pub tree_at_last : (refinements : CallsRefine (Unit {0})) (text : List ℕ) (script : ScriptModel) → script_of text ≡ Ok script
    → (start end : MachineModel) → IsStart script.accounts start → (calls : List CallLine) → calls ≡ script.calls
    → (old replied : Option (List ℕ)) → AnswersCalls start end old replied calls → HasTree end
tree_at_last refinements text script is_read start end starts calls listed old replied answered =
    let says = script_says text script is_read in
    shown_tree script.accounts end (last_state script) (shows_last refinements script says.0 says.1 start starts old replied end
    (subst (λ (l : List CallLine). AnswersCalls start end old replied l) listed answered))
