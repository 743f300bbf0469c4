-- A machine answers call lines in turn, and each is explained.
use Rattle.std.proofs.Common.{◌≡◌, ℕ, ◌≤◌, Bool, true, false, List, [], ◌∷◌, ◌++◌, length, drop}
use Rattle.std.proofs.Common.{Option, None, Some, Result, Ok, Err, refl, sym, ap, ◌∙◌}
use Rattle.std.proofs.Common.{subst, append-nil, append_assoc, arith}
use Rattle.std.proofs.lemmas.List.{length-append}
use Rattle.std.proofs.lemmas.Grind.{flat_map-append}
use Rattle.std.proofs.KnownBytes.{Appends-trans, Appends-nil}
use Rattle.std.specs.Prelude.{OnOk}
use Rattle.std.specs.Io.KnownBytes.{Appends}
use Rattle.histar_io.proofs.WritingLemmas.{whole_front}
use Rattle.histar_flat.specs.declared.calls.CallLine.{CallLine}
use Rattle.histar_flat.specs.declared.calls.UnixCall.{UnixCall}
use Rattle.histar_flat.specs.declared.replies.Reply.{Reply}
use Rattle.histar_flat.specs.Meaning.{RepliedCall}
use Rattle.histar_flat.specs.Accounts.{Accounts}
use Rattle.histar_flat.specs.Words.{ProcName}
use Rattle.histar_object.specs.State.{State, empty_state}
use Rattle.histar_programs.specs.declared.roots.Roots.{Roots}
use Rattle.histar_programs.specs.declared.caller.Caller.{Caller}
use Rattle.histar_programs.specs.Caller.{caller_at}
use Rattle.histar_trace.specs.declared.entries.TraceEntry.{TraceEntry}
use Rattle.histar_syscall.specs.KernelModel.{KernelModel, state}
use Rattle.histar_syscall.specs.Runs.{IsRun}
use Rattle.histar_shell.specs.Answers.{answer_text, answers_text}
use Rattle.histar_shell.specs.AnsweredCalls.{AnswersInTurn, AnswersCall, AnswersCalls, BeginsAnswer}
use Rattle.histar_shell.specs.Machine.{MachineModel, AnswersFound, AnswersIf, AnswersLine, IsTraced, on_line, program_of}
use Rattle.histar_shell.proofs.AnswerLemmas.{calls_more}
use Rattle.histar_shell.proofs.TraceRuns.{GoesBy, by_program}
use Rattle.histar_raw_explain.specs.Texts.{Words}
use Rattle.histar_names.specs.Births.{Births}
use Rattle.histar_names.specs.declared.clues.Clue.{Clue}
use Rattle.histar_names.specs.Clues.{clue_of}
use Rattle.histar_names.specs.NamedWords.{words_at}
use Rattle.histar_run_explain.specs.Entries.{AddsEntries, ExplainsEntries, IsRunFrom, EndsAsRun}
use Rattle.histar_run_explain.specs.Session.{births_by, words_after, ExplainsLine, ExplainsInTurn, ExplainsCall, ExplainsCalls, HasExplained}

-- what is after the front of a list
dropped : (front back : List TraceEntry) → drop (length front) (front ++ back) ≡ back
dropped [] back = refl
dropped (e ∷ front) back = dropped front back

-- ---- the entries of a line

-- a line that is answered has a run, which is the new end of the trace
line_goes : (old new : MachineModel) (line : ℕ) (me : ProcName) (call : UnixCall) (reply : Reply)
    → AnswersLine old new line me call (Ok reply) → GoesBy old.kernel new.kernel
line_goes old new line me call reply h = by old.is_stopped h
  where
    found : (o : Option Caller) → AnswersFound (Unit {0}) o old new line me call (Ok reply) → GoesBy old.kernel new.kernel
    found None k =
        record {
          entries = [];
          trace = ap (λ (m : MachineModel). m.kernel.trace) k.1 ∙ sym (append-nil old.kernel.trace);
          run = ap (λ (m : MachineModel). state m.kernel) k.1;
        }
    found (Some caller) k =
        let goes = by_program (program_of old.users old.roots me caller call) (on_line line old.kernel) new.kernel caller.thread (Ok reply) k.made in
        record { entries = goes.entries; trace = goes.trace; run = goes.run }

    by : (b : Bool) → AnswersIf (Unit {0}) b old new line me call (Ok reply) → GoesBy old.kernel new.kernel
    by true k = absurd cc
    by false k = found (caller_at (state old.kernel) old.roots.home me) k

module _ (old new : MachineModel) (a b : Option (List ℕ)) (asked : CallLine) (one : AnswersCall old new a b asked)
    (trace : List TraceEntry) (same : trace ≡ new.kernel.trace) where
  goes : GoesBy old.kernel new.kernel
  goes = line_goes old new asked.line asked.process asked.call one.reply one.answered

  -- the trace has only grown
  pub grown : length old.kernel.trace ≤ length trace
  grown = omega (arith, ap length (same ∙ goes.trace), length-append old.kernel.trace goes.entries)

  -- the new entries are those after what was there
  new_end : (n : ℕ) → n ≡ length old.kernel.trace → drop n trace ≡ goes.entries
  new_end n is = (λ i. drop (is i) ((same ∙ goes.trace) i)) ∙ dropped old.kernel.trace goes.entries

  module _ (n : ℕ) (is : n ≡ length old.kernel.trace) (first : State) (at : first ≡ state old.kernel) where
    run_on : IsRun first (drop n trace) (state new.kernel)
    run_on =
        subst (λ (s : State). IsRun s (drop n trace) (state new.kernel)) (sym at)
        (subst (λ (es : List TraceEntry). IsRun (state old.kernel) es (state new.kernel)) (sym (new_end n is))
        goes.run)

    pub runs_on : IsRunFrom first (drop n trace)
    runs_on = (state new.kernel, run_on)

    -- a second kernel is brought to the same state
    pub same_end : (last : State) → EndsAsRun first (drop n trace) last → last ≡ state new.kernel
    same_end last ends = ends (state new.kernel) run_on

    -- the explanations of the second kernel are those of the line
    line_explained : (last : State) (births : Births) (lines : List ℕ) → EndsAsRun first (drop n trace) last
        → ExplainsEntries (words_after new asked births) first (drop n trace) lines last
        → ExplainsCall old new a b asked births lines
    line_explained last births lines ends explained = record {
      answered = one;
      explained = record {
        entries = goes.entries;
        trace = goes.trace;
        explained = subst (λ (s : State). ExplainsEntries (words_after new asked births) s goes.entries lines (state new.kernel)) at
            (subst (λ (s : State). ExplainsEntries (words_after new asked births) first goes.entries lines s) (same_end last ends)
            (subst (λ (es : List TraceEntry). ExplainsEntries (words_after new asked births) first es lines last) (new_end n is) explained));
      };
    }

    -- the same where the words are those of the line's clue
    pub line_said : (last : State) (clue : Clue) (births : Births) (lines : List ℕ)
        → clue ≡ clue_of asked.process asked.call → EndsAsRun first (drop n trace) last
        → ExplainsEntries (words_at new.users new.roots (state new.kernel) clue births) first (drop n trace) lines last
        → ExplainsCall old new a b asked births lines
    line_said last clue births lines named ends explained =
        line_explained last births lines ends (subst (λ (x : Clue).
        ExplainsEntries (words_at new.users new.roots (state new.kernel) x births) first (drop n trace)
        lines last) named explained)

-- a line that was answered has begun to be
pub line_begins : (old new : MachineModel) (a b : Option (List ℕ)) (asked : CallLine) → AnswersCall old new a b asked → BeginsAnswer old new a b asked
line_begins old new a b asked one = record { outcome = Ok one.reply; answered = one.answered; written = whole_front a b _ one.written }

-- the names of objects and categories are those of the machine that lends its parts
pub words_lent : (m : MachineModel) (clue : Clue) (births : Births) {users : Accounts} {roots : Roots} {k : KernelModel}
    → users ≡ m.users → roots ≡ m.roots → k ≡ m.kernel
    → words_at users roots (state k) clue births ≡ words_at m.users m.roots (state m.kernel) clue births
words_lent m clue births lent found at = λ i. words_at (lent i) (found i) (state (at i)) clue births

-- the same entries have the same explanations, in the same words, and the same end
module _ {words other : Words} (named : words ≡ other) (s last : State) {es fs : List TraceEntry} (same : es ≡ fs) where
  pub entries_are : {X E : Type 0} (r : Result X E) (old new : List ℕ) → OnOk r (AddsEntries words s es last old new)
      → OnOk r (AddsEntries other s fs last old new)
  entries_are r old new h =
      subst (λ (w : Words). OnOk r (AddsEntries w s fs last old new)) named
      (subst (λ (l : List TraceEntry). OnOk r (AddsEntries words s l last old new)) same h)

pub ends_are : {X E : Type 0} (r : Result X E) (s last : State) (es fs : List TraceEntry) → es ≡ fs
    → OnOk r (EndsAsRun s es last) → OnOk r (EndsAsRun s fs last)
ends_are r s last es fs same h = subst (λ (l : List TraceEntry). OnOk r (EndsAsRun s l last)) same h

-- ---- boot

module _ (k : KernelModel) (traced : IsTraced k) (first : State) (empty : first ≡ empty_state) (trace : List TraceEntry)
    (same : trace ≡ k.trace) where
  boot_run : IsRun first trace (state k)
  boot_run =
      subst (λ (s : State). IsRun s trace (state k)) (sym empty)
      (subst (λ (es : List TraceEntry). IsRun empty_state es (state k)) (sym same) traced)

  -- the trace of boot is a run from the empty kernel
  pub boot_runs : IsRunFrom first trace
  boot_runs = (state k, boot_run)

  -- a second kernel is brought to the same state by the calls of boot
  pub boot_end : (last : State) → EndsAsRun first trace last → last ≡ state k
  boot_end last ends = ends (state k) boot_run

-- ---- lines in turn

-- a machine that explains in turn answers in turn
pub answers_in_turn : (m : MachineModel) (births : Births) (answers : List RepliedCall) (text : List ℕ)
    (end : MachineModel) (born : Births) → ExplainsInTurn m births answers text end born → AnswersInTurn m answers end
answers_in_turn m births [] text end born h = h.1
answers_in_turn m births (a ∷ answers) text end born h = (h.0, h.3, answers_in_turn h.0 (births_by h.0 a.call births) answers h.2 end born h.6)

abbrev pub answers_calls : (m end : MachineModel) (a b : Option (List ℕ)) (calls : List CallLine) (text : List ℕ)
    (born : Births) → ExplainsCalls m end a b calls text born → AnswersCalls m end a b calls
answers_calls m end a b calls text born h =
    record {
      answers = h.answers;
      each = h.each;
      in_turn = answers_in_turn m [] h.answers text end born h.in_turn;
      written = h.written;
    }

-- no line
pub explains_none : (m : MachineModel) (a : Option (List ℕ)) → ExplainsCalls m m a a [] [] []
explains_none m a = record { answers = []; each = refl; in_turn = (refl, refl, refl); written = Appends-nil a }

module _ (mid last : MachineModel) (born : Births) (a : RepliedCall) (lines : List ℕ)
    (answered : AnswersLine mid last a.call.line a.call.process a.call.call (Ok a.reply))
    (explained : ExplainsLine mid last a.call (births_by last a.call born) lines) where
  turn_more : (first : MachineModel) (births : Births) (answers : List RepliedCall) (text : List ℕ)
      → ExplainsInTurn first births answers text mid born
      → ExplainsInTurn first births (answers ++ a ∷ []) (text ++ lines) last (births_by last a.call born)
  turn_more first births [] text done = (
    last,
    lines,
    [],
    subst (λ (m : MachineModel). AnswersLine m last a.call.line a.call.process a.call.call (Ok a.reply)) done.1 answered,
    subst (λ (m : MachineModel). ExplainsLine m last a.call (births_by last a.call births) lines) done.1
        (subst (λ (b : Births). ExplainsLine mid last a.call (births_by last a.call b) lines) done.2 explained),
    ap (λ (l : List ℕ). l ++ lines) done.0 ∙ sym (append-nil lines),
    (refl, refl, ap (births_by last a.call) done.2),
  )
  turn_more first births (b ∷ answers) text done = (
    done.0,
    done.1,
    done.2 ++ lines,
    done.3,
    done.4,
    ap (λ (l : List ℕ). l ++ lines) done.5 ∙ append_assoc done.1 done.2 lines,
    turn_more done.0 (births_by done.0 b.call births) answers done.2 done.6,
  )

-- the text of one more answer
text_more : (answers : List RepliedCall) (a : RepliedCall) → answers_text (answers ++ a ∷ []) ≡ answers_text answers ++ answer_text a
text_more answers a = flat_map-append answer_text answers (a ∷ []) ∙ ap (λ (l : List ℕ). answers_text answers ++ l) (append-nil (answer_text a))

-- what an outcome says of the explanations and the births, without the births
pub has_explained : {X E : Type 0} (r : Result X E) (m end : MachineModel) (a b : Option (List ℕ)) (calls : List CallLine)
    (text : List ℕ) (born : Births) → OnOk r (ExplainsCalls m end a b calls text born)
    → OnOk r (HasExplained m end a b calls text)
has_explained (Ok x) m end a b calls text born h = (born, h)
has_explained (Err e) m end a b calls text born h = tt

-- one line more
module _ (first mid last : MachineModel) (a b c : Option (List ℕ)) (calls : List CallLine) (call : CallLine)
    (text lines : List ℕ) (old new : Births) where
  pub explains_more : ExplainsCalls first mid a b calls text old → new ≡ births_by last call old
      → ExplainsCall mid last b c call new lines → ExplainsCalls first last a c (calls ++ call ∷ []) (text ++ lines) new
  explains_more done is one =
      let next : RepliedCall = record { call = call; reply = one.answered.reply } in
      let explained = subst (λ (births : Births). ExplainsLine mid last call births lines) is one.explained in
      record {
        answers = done.answers ++ next ∷ [];
        each = calls_more done.answers next ∙ ap (λ (l : List CallLine). l ++ call ∷ []) done.each;
        in_turn =
            subst (λ (births : Births). ExplainsInTurn first [] (done.answers ++ next ∷ []) (text ++ lines) last births)
            (sym is) (turn_more mid last old next lines one.answered.answered explained first [] done.answers text
            done.in_turn);
        written =
            subst (Appends a c) (sym (text_more done.answers next))
            (Appends-trans a b c (answers_text done.answers) (answer_text next) done.written one.answered.written);
      }
