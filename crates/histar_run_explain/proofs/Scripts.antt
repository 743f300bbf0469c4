-- A script whose lines were answered and explained, against its meaning.
use Rattle.std.proofs.Common.{◌≡◌, ℕ, List, [], ◌∷◌, ◌++◌, Option, Ok, refl, sym, ap, ◌∙◌, subst, append-nil, append_assoc}
use Rattle.std.proofs.lemmas.List.{append_cancel_left}
use Rattle.std.specs.Io.KnownBytes.{Appends}
use Rattle.std.proofs.KnownBytes.{Appends-trans}
use Rattle.histar_io.specs.Writing.{AppendsFront}
use Rattle.histar_flat.specs.declared.calls.CallLine.{CallLine}
use Rattle.histar_flat.specs.Accounts.{Accounts}
use Rattle.histar_flat.specs.FlatState.{Flat}
use Rattle.histar_flat.specs.FlatCalls.{flat_after}
use Rattle.histar_flat.specs.Meaning.{boot, RepliedCall}
use Rattle.histar_object.specs.State.{State, empty_state}
use Rattle.histar_script.specs.Script.{ScriptModel, IsDeclared}
use Rattle.histar_trace.specs.declared.entries.TraceEntry.{TraceEntry}
use Rattle.histar_syscall.specs.KernelModel.{state}
use Rattle.histar_syscall.specs.Runs.{IsRun}
use Rattle.histar_programs.specs.declared.roots.Roots.{Roots}
use Rattle.histar_layout.specs.UserTable.{without_passwords}
use Rattle.histar_refinement.specs.Represents.{Represents}
use Rattle.histar_sim.specs.Simulation.{SimulatesLines}
use Rattle.histar_shell.specs.Answers.{answers_text, calls_of}
use Rattle.histar_shell.specs.AnsweredCalls.{AnswersCalls, BeginsAnswers}
use Rattle.histar_shell.specs.Ending.{AppendsEnding, BeginsTheEnding, asked_trace}
use Rattle.histar_shell.specs.Machine.{MachineModel, IsStart}
use Rattle.histar_shell.specs.Meaning.{Shows, meaning_text}
use Rattle.histar_shell.specs.declared.session.Options.{Options}
use Rattle.histar_shell.proofs.AnswerLemmas.{front_after}
use Rattle.histar_shell.proofs.CallRefinements.{calls_refine}
use Rattle.histar_shell.proofs.LineMeanings.{line_follows}
use Rattle.histar_shell.proofs.RefinedRuns.{run_after, refinements_run}
use Rattle.histar_shell.proofs.SessionMeanings.{boot_trace, whole_is, longer_front, answers_begin}
use Rattle.histar_shell.proofs.Starts.{start_is_matched, start_shows}
use Rattle.histar_shell.proofs.Users.{AreScriptable}
use Rattle.histar_names.specs.Births.{Births, births_after}
use Rattle.histar_names.specs.Clues.{clue_of}
use Rattle.histar_run_explain.specs.Entries.{ExplainsEntries}
use Rattle.histar_names.specs.NamedWords.{words_at}
use Rattle.histar_run_explain.specs.Session.{births_by, ExplainsInTurn, ExplainsCalls, ExplainsLine}
use Rattle.histar_run_explain.specs.Run.{births_of, words_of, ExplainsCallLines, ExplainsTrace, ExplainsAs}
use Rattle.histar_run_explain.proofs.Turns.{answers_calls}

-- what the lines have done, from a machine on that represents a flat state
record IsExplainedSession (accounts : Accounts) (m : MachineModel) (f : Flat) (births : Births) (calls : List CallLine)
    (text : List ℕ) (end : MachineModel) : Type 0 where
  entries : List TraceEntry
  trace : end.kernel.trace ≡ m.kernel.trace ++ entries
  refinements : ExplainsCallLines accounts (state m.kernel) f births calls entries text (state end.kernel)

-- the words of a machine are those of the flat state that it represents
module _ (accounts : Accounts) (m mid : MachineModel) (g : Flat) (asked : CallLine) (shows : Shows accounts mid g) where
  words_shown : (births : Births) (entries : List TraceEntry) (lines : List ℕ) (one : ExplainsLine m mid asked births lines) → one.entries ≡ entries
      → ExplainsEntries (words_of accounts (state mid.kernel) asked births) (state m.kernel) entries lines (state mid.kernel)
  words_shown births entries lines one same =
      subst (λ (roots : Roots).
      ExplainsEntries (words_at (without_passwords accounts) roots (state mid.kernel) (clue_of asked.process asked.call)
      births) (state m.kernel) entries lines (state mid.kernel)) shows.roots
      (subst (λ (users : Accounts).
      ExplainsEntries (words_at users mid.roots (state mid.kernel) (clue_of asked.process asked.call) births)
      (state m.kernel) entries lines (state mid.kernel)) shows.users
      (subst (λ (es : List TraceEntry). ExplainsEntries
      (words_at mid.users mid.roots (state mid.kernel) (clue_of asked.process asked.call) births)
      (state m.kernel) es lines (state mid.kernel)) same one.explained))

  -- the births that are known are those of the state
  births_shown : (births : Births) → births_by mid asked births ≡ births_of accounts (state mid.kernel) asked births
  births_shown births = ap (λ (roots : Roots). births_after (state mid.kernel) roots asked.process births) shows.roots

accounts_explained : (accounts : Accounts) (m : MachineModel) (f : Flat) (births : Births) (answers : List RepliedCall)
    (text : List ℕ) (end : MachineModel) (born : Births) → ExplainsInTurn m births answers text end born
    → Shows accounts m f
    → AreScriptable (calls_of answers) → IsExplainedSession accounts m f births (calls_of answers) text end
accounts_explained accounts m f births [] text end born h shows can = record {
  entries = [];
  trace = ap (λ (x : MachineModel). x.kernel.trace) h.1 ∙ sym (append-nil m.kernel.trace);
  refinements = (refl, h.0, ap (λ (x : MachineModel). state x.kernel) h.1);
}
accounts_explained accounts m f births (a ∷ answers) text end born h shows can =
    let line = line_follows calls_refine m h.0 a.call.line a.call.process a.call.call (Ok a.reply) can.0 h.3 accounts f shows in
    let g = flat_after accounts f a.call.process a.call.call in
    let known = births_shown accounts m h.0 g a.call line.shows births in
    let later = accounts_explained accounts h.0 g (births_by h.0 a.call births) answers h.2 end born h.6 line.shows can.1 in
    let same : h.4.entries ≡ line.entries = append_cancel_left m.kernel.trace h.4.entries line.entries (sym h.4.trace ∙ line.trace) in
    record {
      entries = line.entries ++ later.entries;
      trace = later.trace ∙ ap (λ (es : List TraceEntry). es ++ later.entries) line.trace ∙ append_assoc m.kernel.trace line.entries later.entries;
      refinements = (
        line.entries,
        later.entries,
        state h.0.kernel,
        h.1,
        h.2,
        refl,
        h.5,
        line.refined,
        subst (λ (b : Births).
            ExplainsEntries (words_of accounts (state h.0.kernel) a.call b) (state m.kernel) line.entries h.1
            (state h.0.kernel)) known
            (words_shown accounts m h.0 g a.call line.shows (births_by h.0 a.call births) line.entries h.1 h.4 same),
        subst (λ (b : Births).
            ExplainsCallLines accounts (state h.0.kernel) g b (calls_of answers) later.entries h.2 (state end.kernel))
            known later.refinements,
      );
    }

-- explained lines refine their rules
refinements_explained : (accounts : Accounts) (s : State) (f : Flat) (births : Births) (calls : List CallLine)
    (entries : List TraceEntry) (text : List ℕ) (end : State) → ExplainsCallLines accounts s f births calls entries text end
    → SimulatesLines accounts s f calls entries end
refinements_explained accounts s f births [] entries text end h = (h.0, h.2)
refinements_explained accounts s f births (asked ∷ more) entries text end h = (
  h.0,
  h.1,
  h.2,
  h.5,
  h.7,
  refinements_explained accounts h.2 (flat_after accounts f asked.process asked.call)
      (births_of accounts h.2 asked births) more h.1 h.4 end h.9,
)

module _ (script : ScriptModel) (declared : IsDeclared script.accounts) (can : AreScriptable script.calls)
    (start : MachineModel) (starts : IsStart script.accounts start) where
  module _ (old replied : Option (List ℕ)) (end : MachineModel) (text : List ℕ) (born : Births)
      (all : ExplainsCalls start end old replied script.calls text born) where
    abbrev answered : AnswersCalls start end old replied script.calls
    answered = answers_calls start end old replied script.calls text born all

    -- the trace of the machine is explained
    trace_explained : ExplainsTrace script end.kernel.trace text
    trace_explained =
        let these : AreScriptable (calls_of all.answers) = subst AreScriptable (sym all.each) can in
        let explained =
        accounts_explained script.accounts start (boot script.accounts) [] all.answers text end born all.in_turn
        (start_shows script.accounts declared start starts) these in
        let refinements : ExplainsCallLines script.accounts (state start.kernel) (boot script.accounts) [] script.calls
        explained.entries text (state end.kernel) =
        subst (λ (calls : List CallLine).
        ExplainsCallLines script.accounts (state start.kernel) (boot script.accounts) [] calls explained.entries text
        (state end.kernel)) all.each explained.refinements in
        let of_lines =
        refinements_explained script.accounts (state start.kernel) (boot script.accounts) [] script.calls
        explained.entries text (state end.kernel) refinements in
        let of_boot = boot_trace script.accounts start starts.booted in
        let parts : end.kernel.trace ≡ of_boot.entries ++ explained.entries =
        explained.trace ∙ ap (λ (es : List TraceEntry). es ++ explained.entries) of_boot.trace in
        record {
          answered = record {
            start = start;
            starts = starts;
            answers = all.answers;
            each = all.each;
            end = end;
            in_turn = answered.in_turn;
            recorded = refl;
          };
          recorded = record {
            of_boot = of_boot.entries;
            of_lines = explained.entries;
            parts = parts;
            start = state start.kernel;
            boot_run = of_boot.run;
            boot_own = of_boot.own;
            boot_represents =
                subst (λ (s : State). Represents script.accounts s (boot script.accounts)) (sym starts.state)
                (start_is_matched script.accounts declared);
            end = state end.kernel;
            refinements = of_lines;
            run = subst (λ (es : List TraceEntry). IsRun empty_state es (state end.kernel)) (sym parts)
                (run_after empty_state (state start.kernel) (state end.kernel) of_boot.entries explained.entries of_boot.run
                (refinements_run script.accounts (state start.kernel) (boot script.accounts) script.calls
                explained.entries (state end.kernel) of_lines));
          };
          refinements = refinements;
        }

    module _ (options : Options) where
      -- what `run` writes
      abbrev run_text : List ℕ
      run_text = meaning_text options script ++ asked_trace options end.kernel.trace

      -- what follows the replies was written too
      run_written : (mid : Option (List ℕ)) → AppendsEnding options end replied mid → Appends old mid run_text
      run_written mid ending =
          subst (Appends old mid) (whole_is calls_refine script declared can start starts options old replied end answered ending.0 ending.1
          end.kernel.trace refl)
          (Appends-trans old replied mid (answers_text all.answers) ending.0 all.written ending.2)

      -- the explanations were written too
      pub all_explained : (mid new : Option (List ℕ)) → AppendsEnding options end replied mid → Appends mid new text
          → ExplainsAs (Appends old new) options script
      all_explained mid new ending written = record {
        trace = end.kernel.trace;
        explanations = text;
        explains = trace_explained;
        written = Appends-trans old mid new run_text text (run_written mid ending) written;
      }

      -- a beginning of the explanations was written
      pub front_explained : (mid new : Option (List ℕ)) → AppendsEnding options end replied mid
          → AppendsFront mid new text → ExplainsAs (AppendsFront old new) options script
      front_explained mid new ending begun = record {
        trace = end.kernel.trace;
        explanations = text;
        explains = trace_explained;
        written =
            subst (AppendsFront old new) (ap (λ (l : List ℕ). run_text ++ l) (append-nil text))
            (front_after old mid new run_text text [] (run_written mid ending) begun);
      }

      -- a beginning of what follows the replies was written
      pub ending_begun : (new : Option (List ℕ)) → BeginsTheEnding options end replied new → ExplainsAs (AppendsFront old new) options script
      ending_begun new begun = record {
        trace = end.kernel.trace;
        explanations = text;
        explains = trace_explained;
        written = longer_front calls_refine script declared can start starts options old new run_text text
            (subst (AppendsFront old new)
            (ap (λ (l : List ℕ). answers_text all.answers ++ l) (append-nil begun.0)
            ∙ whole_is calls_refine script declared can start starts options old replied end answered begun.0
            begun.1 end.kernel.trace refl)
            (front_after old replied new (answers_text all.answers) begun.0 [] all.written begun.2));
      }

  -- the first lines were answered
  pub replies_begun : (options : Options) (old new : Option (List ℕ)) → BeginsAnswers start old new script.calls
      → AppendsFront old new (meaning_text options script)
  replies_begun options old new begun = answers_begin calls_refine script declared can start starts options old new begun
