-- The running processes that are found are those of the flat state, each with its thread.
use Rattle.std.specs.Prelude.{◌≡◌, ℕ, zero, suc, false, List, [], ◌∷◌, ◌++◌, length, map, Option, None, Some, is_some, option_map, refl}
use Rattle.std.specs.List.{cons_option, filter_map, flat_map, range_with_len}
use Rattle.std.proofs.Common.{ap, sym, ◌∙◌}
use Rattle.std.proofs.lemmas.Bool.{true≢false}
use Rattle.std.proofs.lemmas.List.Elements.{filter_map-append}
use Rattle.histar_flat.specs.Words.{ProcName}
use Rattle.histar_flat.specs.Accounts.{Accounts}
use Rattle.histar_flat.specs.Classes.{Process}
use Rattle.histar_flat.specs.FlatState.{Flat}
use Rattle.histar_flat.specs.FlatCalls.{if_running, running}
use Rattle.histar_object.specs.State.{State}
use Rattle.histar_programs.specs.declared.roots.Home.{Home}
use Rattle.histar_programs.specs.declared.caller.Caller.{Caller}
use Rattle.histar_programs.specs.Caller.{caller_at}
use Rattle.histar_programs.specs.Start.{roots_of}
use Rattle.histar_refinement.specs.Categories.{Categories}
use Rattle.histar_refinement.specs.Represents.{ObjectsMatch}
use Rattle.histar_refinement.specs.Laws.{RunsAs}
use Rattle.histar_refinement.proofs.CallerFound.{callers_are_found, callers_are_there}
use Rattle.histar_rights.specs.Rights.{above_root}
use Rattle.histar_rights.specs.Running.{Named, and_children, itself, running_from}
use Rattle.histar_readout.specs.ProcessLines.{ProcessLine, flat_processes, with_children}
use Rattle.histar_cells.specs.declared.cells.Cell.{Cell}

module _ (accounts : Accounts) (s : State) (f : Flat) (l : ObjectsMatch accounts s f) where
  -- a running process, with its thread
  pub record Visitor : Type 0 where
    pub name : ProcName
    pub process : Process
    pub thread : ℕ
    pub runs : RunsAs accounts s f l name process thread

  -- where process 0 is
  abbrev pub first : Home
  first = (roots_of (length accounts.users)).home

  -- a process as it starts
  abbrev pub start_cell : Visitor → Cell
  start_cell v = record { process = v.name; thread = v.thread; rights = above_root }

  -- a visitor's name and process
  abbrev pub named_of : Visitor → Named
  named_of v = (v.name, v.process)

  -- the visitor of a name, given what is found for the name
  visitor_by : (me : ProcName) (o : Option Caller) → caller_at s first me ≡ o → Option Visitor
  visitor_by me None e = None
  visitor_by me (Some caller) e =
      let found = (callers_are_found accounts s f l me caller).0 e in
      Some (record { name = me; process = found.0; thread = caller.thread; runs = found.1.runs })

  -- the processes of these names that run
  pub visitors : List ProcName → List Visitor
  visitors [] = []
  visitors (me ∷ names) = cons_option (visitor_by me (caller_at s first me) refl) (visitors names)

  -- the process of a name, if it runs
  abbrev pub named_by : ProcName → Option Named
  named_by me = option_map (λ p. (me, p)) (running f me)

  -- the process of a name as a cell, if it runs
  abbrev pub cell_by : ProcName → Option Cell
  cell_by me = option_map (λ (caller : Caller). record { process = me; thread = caller.thread; rights = above_root }) (caller_at s first me)

  -- the cells are those of the visitors
  one_cell : (me : ProcName) (o : Option Caller) (e : caller_at s first me ≡ o) (names : List ProcName) (rest : List Visitor) (cells : List Cell)
      → cells ≡ map start_cell rest
      → cons_option (option_map
      (λ (caller : Caller). record { process = me; thread = caller.thread; rights = above_root }) o) cells ≡ map start_cell
      (cons_option (visitor_by me o e) rest)
  unfolding visitor_by
  one_cell me None e names rest cells same = same
  one_cell me (Some caller) e names rest cells same = ap
      (λ (cs : List Cell). record { process = me; thread = caller.thread; rights = above_root } ∷ cs) same

  pub cells_are : (names : List ProcName) → filter_map cell_by names ≡ map start_cell (visitors names)
  unfolding visitors
  cells_are [] = refl
  cells_are (me ∷ names) = one_cell me (caller_at s first me) refl names (visitors names) (filter_map cell_by names) (cells_are names)

  -- a process that has not exited runs
  pub runs_there : (me : ProcName) (p : Process) → f.processes me ≡ Some p → p.exited ≡ None → running f me ≡ Some p
  runs_there me p here none = ap if_running here ∙ ap (λ (o : Option ℕ). elim o [ None ↦ Some p | Some n ↦ None ]) none

  -- a process that isn't there doesn't run
  none_runs : (o : Option Process) → is_some o ≡ false → o ≡ None
  none_runs None e = refl
  none_runs (Some p) e = absurd (true≢false e)

  one_named : (me : ProcName) (o : Option Caller) (e : caller_at s first me ≡ o) (rest : List Visitor) (ps : List Named) → ps ≡ map named_of rest
      → cons_option (named_by me) ps ≡ map named_of (cons_option (visitor_by me o e) rest)
  unfolding visitor_by
  one_named me None e rest ps same =
      ap (λ (o : Option Process). cons_option (option_map (λ p. (me, p)) o) ps) (none_runs (running f me) (sym (callers_are_there accounts s f l me)
      ∙ ap is_some e)) ∙ same
  one_named me (Some caller) e rest ps same =
      let found = (callers_are_found accounts s f l me caller).0 e in
      let runs = runs_there me found.0 found.1.runs.0 found.1.runs.1 in
      (λ i. cons_option (option_map (λ p. (me, p)) (runs i)) (same i))

  pub named_are : (names : List ProcName) → filter_map named_by names ≡ map named_of (visitors names)
  unfolding visitors
  named_are [] = refl
  named_are (me ∷ names) = one_named me (caller_at s first me) refl (visitors names) (filter_map named_by names) (named_are names)

-- ---- the processes of a flat state

module _ (f : Flat) (category : Categories) where
  -- a shown process, if it runs
  abbrev pub named_line : ProcessLine → Option Named
  named_line line = option_map (λ p. (line.name, p)) (running f line.name)

  abbrev pub IsListed : ℕ → Type 0
  IsListed levels = (me : ProcName) → filter_map named_line (flat_processes category levels f me) ≡ running_from levels f me

  children_listed : (levels : ℕ) → IsListed levels → (me : ProcName) (ns : List ℕ)
      → filter_map named_line (flat_map (λ n. flat_processes category levels f (n ∷ me)) ns) ≡ flat_map (λ n. running_from levels f (n ∷ me)) ns
  children_listed levels each me [] = refl
  children_listed levels each me (n ∷ ns) =
      filter_map-append named_line (flat_processes category levels f (n ∷ me)) (flat_map (λ k. flat_processes category levels f (k ∷ me)) ns)
      ∙ (λ i. each (n ∷ me) i ++ children_listed levels each me ns i)

  put_before : (me : ProcName) (o : Option Process) (rest : List Named) → cons_option (option_map (λ p. (me, p)) o) rest ≡ itself me o ++ rest
  put_before me None rest = refl
  put_before me (Some p) rest = refl

  -- the shown processes that run are the running processes
  pub running_listed : (levels : ℕ) → IsListed levels
  running_listed zero me = refl
  running_listed (suc levels) me = by (f.processes me) refl (running_listed levels)
    where
      by : (o : Option Process) → f.processes me ≡ o → IsListed levels
          → filter_map named_line (with_children category (λ n. flat_processes category levels f (n ∷ me)) me o) ≡ and_children
          (λ n. running_from levels f (n ∷ me)) me o
      by None e each = refl
      by (Some p) e each =
          (λ i. cons_option (option_map (λ r. (me, r)) (if_running (e i))) (children_listed levels each me (range_with_len 1 p.born) i))
          ∙ put_before me (if_running (Some p)) (flat_map (λ n. running_from levels f (n ∷ me)) (range_with_len 1 p.born))
