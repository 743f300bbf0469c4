-- What is noted of categories along the lines of a script is right.
use Rattle.std.specs.Prelude.{[], ◌∷◌, ◌++◌}
use Rattle.std.specs.Prelude.{Ok, refl}
use Rattle.std.proofs.Common.{ap, sym, ◌∙◌, subst}
use Rattle.histar_flat.specs.declared.calls.CallLine.{CallLine}
use Rattle.histar_flat.specs.declared.replies.Reply.{Reply}
use Rattle.histar_flat.specs.Accounts.{Accounts}
use Rattle.histar_flat.specs.Calls.{IsCall}
use Rattle.histar_flat.specs.FlatState.{Flat, IsTree}
use Rattle.histar_flat.specs.FlatCalls.{flat_after}
use Rattle.histar_flat.specs.Meaning.{boot}
use Rattle.histar_flat.proofs.Laws.{states_go_on}
use Rattle.histar_flat.proofs.Trees.{paths_are_a_tree}
use Rattle.histar_syscall.specs.KernelModel.{state}
use Rattle.histar_programs.specs.declared.roots.Roots.{Roots}
use Rattle.histar_names.specs.Births.{Births, births_after}
use Rattle.histar_shell.specs.Machine.{MachineModel, AnswersLine, IsStart}
use Rattle.histar_shell.specs.Meaning.{AnswersAsMeant}
use Rattle.histar_shell.proofs.CallRefinements.{calls_refine}
use Rattle.histar_shell.proofs.Counters.{run_counts}
use Rattle.histar_shell.proofs.LineMeanings.{line_follows}
use Rattle.histar_script.specs.Script.{IsDeclared}
use Rattle.histar_shell.proofs.Starts.{start_shows}
use Rattle.histar_names.specs.KnownBirths.{NamesBirths}
use Rattle.histar_why.specs.Names.{IsReached, Knows}
use Rattle.histar_names.proofs.KnownNames.{births_are_kept, births_at_start}

-- ---- one line

-- what is known before a line is known after it
module _ (births : Births) (accounts : Accounts) (old new : MachineModel) (f : Flat) (known : Knows births accounts old f) (call : CallLine)
    (reply : Reply) (can : IsCall call.call) (answered : AnswersLine old new call.line call.process call.call (Ok reply)) where
  pub meant : AnswersAsMeant accounts old new f call reply
  meant = line_follows calls_refine old new call.line call.process call.call (Ok reply) can answered accounts f known.shows

  abbrev g : Flat
  g = flat_after accounts f call.process call.call

  reached_then : IsReached accounts g
  reached_then =
      let r = known.reached in (
        r.0 ++ call ∷ [],
        ap (λ (x : Flat). flat_after accounts x call.process call.call) r.1
            ∙ sym (states_go_on accounts (boot accounts) r.0 (call ∷ [])),
      )

  pub known_then : Knows (births_after (state new.kernel) new.roots call.process births) accounts new g
  known_then =
      let line = meant.refined in
      let still = line.keeps known.names.represents in
      let r = known.reached in
      let tree = subst IsTree (sym r.1) (paths_are_a_tree accounts r.0) in
      record {
        shows = meant.shows;
        reached = reached_then;
        names =
            subst (λ (roots : Roots). NamesBirths (births_after (state new.kernel) roots call.process births) accounts (state new.kernel) g)
            (sym meant.shows.roots)
            (births_are_kept births accounts (state old.kernel) (state new.kernel) f tree known.names call.process call.call still
            (run_counts (state old.kernel) meant.entries (state new.kernel) line.line.run).categories).0;
      }

-- ---- the start

-- at the start boot made all categories that are used
pub known_at_start : (accounts : Accounts) → IsDeclared accounts → (m : MachineModel) → IsStart accounts m
    → Knows [] accounts m (boot accounts)
known_at_start accounts declared m starts =
    let shows = start_shows accounts declared m starts in
    record {
      shows = shows;
      reached = ([], refl);
      names = births_at_start accounts (state m.kernel) shows.represents;
    }
