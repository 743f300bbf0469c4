-- The running processes that are found, with their users, are those of the flat state.
use Rattle.std.specs.Prelude.{◌≡◌, ℕ, zero, suc, List, [], ◌∷◌, ◌++◌, map, Option, None, Some, refl}
use Rattle.std.specs.List.{cons_option, filter_map, flat_map, range_with_len}
use Rattle.std.proofs.Common.{ap, sym, ◌∙◌}
use Rattle.std.proofs.lemmas.List.{map-append}
use Rattle.std.proofs.lemmas.List.Elements.{filter_map-append}
use Rattle.histar_flat.specs.Words.{ProcName}
use Rattle.histar_flat.specs.Classes.{Process}
use Rattle.histar_flat.specs.FlatState.{Flat}
use Rattle.histar_flat.specs.FlatCalls.{if_running}
use Rattle.histar_refinement.specs.Categories.{Categories}
use Rattle.histar_rights.specs.Running.{and_children, itself, running_from}
use Rattle.histar_diff.specs.declared.table.Runner.{Runner}
use Rattle.histar_diff.specs.Shown.{runner}
use Rattle.histar_readout.specs.ProcessLines.{ProcessLine, flat_life, flat_processes, with_children}
use Rattle.histar_access.specs.RightsTable.{runner_by}

-- a shown process and its user, if it runs
abbrev pub line_runner : ProcessLine → Option Runner
line_runner line = runner_by line.name line.life

module _ (f : Flat) (category : Categories) where
  abbrev AreRunners : ℕ → Type 0
  AreRunners levels = (me : ProcName) → filter_map line_runner (flat_processes category levels f me) ≡ map runner (running_from levels f me)

  children_run : (levels : ℕ) → AreRunners levels → (me : ProcName) (ns : List ℕ)
      → filter_map line_runner (flat_map (λ n. flat_processes category levels f (n ∷ me)) ns) ≡ map runner
      (flat_map (λ n. running_from levels f (n ∷ me)) ns)
  children_run levels each me [] = refl
  children_run levels each me (n ∷ ns) =
      filter_map-append line_runner (flat_processes category levels f (n ∷ me)) (flat_map (λ k. flat_processes category levels f (k ∷ me)) ns)
      ∙ (λ i. each (n ∷ me) i ++ children_run levels each me ns i)
      ∙ sym (map-append runner (running_from levels f (n ∷ me)) (flat_map (λ k. running_from levels f (k ∷ me)) ns))

  -- a running process in front of others
  put_first : (me : ProcName) (p : Process) (exited : Option ℕ) (rest : List Runner)
      → cons_option (runner_by me (flat_life category p exited)) rest ≡ map runner (itself me (elim exited [ None ↦ Some p | Some n ↦ None ])) ++ rest
  put_first me p None rest = refl
  put_first me p (Some n) rest = refl

  -- the shown processes that run are the running processes, each with its user
  pub runners_listed : (levels : ℕ) → AreRunners levels
  runners_listed zero me = refl
  runners_listed (suc levels) me = by (f.processes me) (runners_listed levels)
    where
      by : (o : Option Process) → AreRunners levels
          → filter_map line_runner (with_children category (λ n. flat_processes category levels f (n ∷ me)) me o) ≡ map runner
          (and_children (λ n. running_from levels f (n ∷ me)) me o)
      by None each = refl
      by (Some p) each =
          let rest = flat_map (λ n. running_from levels f (n ∷ me)) (range_with_len 1 p.born) in
          ap (cons_option (runner_by me (flat_life category p p.exited))) (children_run levels each me (range_with_len 1 p.born))
          ∙ put_first me p p.exited (map runner rest) ∙ sym (map-append runner (itself me (if_running (Some p))) rest)
