-- A state that represents a flat state has its processes.
use Rattle.std.specs.Prelude.{◌≡◌, ℕ, zero, suc, ◌+◌, ◌<◌, List, [], ◌∷◌, ◌++◌, length, map, Option, None, Some, is_some, option_map, refl}
use Rattle.std.specs.List.{cons_option, filter_map, flat_map, range_with_len}
use Rattle.std.proofs.Common.{arith, ap, sym, ◌∙◌, subst}
use Rattle.std.proofs.lemmas.List.{map-append}
use Rattle.histar_flat.specs.Words.{ProcName, most_numbers}
use Rattle.histar_flat.specs.Accounts.{Accounts}
use Rattle.histar_flat.specs.Classes.{Process}
use Rattle.histar_flat.specs.FlatState.{Flat}
use Rattle.histar_level.specs.Levels.{Levels}
use Rattle.histar_object.specs.State.{State}
use Rattle.histar_layout.specs.Reading.{◌>>=◌}
use Rattle.histar_layout.specs.Status.{ProcessStatus, child_at}
use Rattle.histar_layout.specs.declared.status.Child.{Child as Listed}
use Rattle.histar_layout.specs.Jobs.{jobs_in}
use Rattle.histar_programs.specs.declared.roots.Home.{Home as Where}
use Rattle.histar_programs.specs.Caller.{caller_by, caller_in}
use Rattle.histar_programs.specs.declared.caller.Caller.{Caller}
use Rattle.histar_programs.specs.Start.{roots_of}
use Rattle.histar_refinement.specs.Addresses.Step.{Home, Status}
use Rattle.histar_refinement.specs.Guards.{guard_label, rights_label}
use Rattle.histar_refinement.specs.Labels.{process_guard, thread_rights}
use Rattle.histar_refinement.specs.NumberedClasses.{job_numbers}
use Rattle.histar_refinement.specs.Processes.{or_zero, listed_by}
use Rattle.histar_refinement.specs.Represents.{ObjectsMatch}
use Rattle.histar_refinement.proofs.CallerFound.{is_or_zero, where_is, status_is, child_is, caller_is, runs_here}
use Rattle.histar_refinement.proofs.JobLabels.{chain_is}
use Rattle.histar_refinement.proofs.Agreeing.{some_of, home_found, thread_found}
use Rattle.histar_refinement.proofs.StatusFound.{numbered_home, numbered_runner}
use Rattle.histar_readout.specs.declared.process.Life.{Life}
use Rattle.histar_readout.specs.declared.process.ProcessNode.{ProcessNode}
use Rattle.histar_readout.specs.Process.{container_label, thread_label, running_by, running_at, life_in, node_in}
use Rattle.histar_readout.specs.Processes.{AreProcessesOf, child_of, children_of, all_of, processes_at, levels_at}
use Rattle.histar_readout.specs.ProcessLines.{ProcessLine, process_line, flat_life, with_children, flat_processes}
use Rattle.histar_readout.specs.Laws.{AreNamed, FlatStatesHaveTheirProcesses}
use Rattle.histar_readout.proofs.HeldJobs.{running_is}

module _ (accounts : Accounts) (s : State) (f : Flat) (l : ObjectsMatch accounts s f) where
  -- the container and the segment of a process
  abbrev pub found : ProcName → Where
  found me = where_is accounts s f l me

  -- what processes at a name and below it show, down to this many levels
  abbrev shown : ℕ → ProcName → List ProcessLine
  shown levels me = flat_processes l.category levels f me

  -- a process that is not there shows nothing
  nothing_shown : (levels : ℕ) (me : ProcName) → f.processes me ≡ None → shown levels me ≡ []
  nothing_shown zero me none = refl
  nothing_shown (suc levels) me none = ap (with_children l.category (λ n. shown levels (n ∷ me)) me) none

  -- processes at a name and below it, which show the same as the flat state has there, down to this many levels
  record HasProcessesAt (levels : ℕ) (me : ProcName) : Type 0 where
    processes : List ProcessNode
    are : processes_at levels accounts s me (found me) ≡ Some processes
    lines : map process_line processes ≡ shown levels me

  module _ (me : ProcName) (p : Process) (here : f.processes me ≡ Some p) where
    -- a process with these jobs and this life, to which this many children were born
    abbrev pub shown_as : List ℕ → Life → ℕ → ProcessNode
    shown_as chain life born = record { name = me; home = found me; chain = chain; life = life; born = born }

    -- the process as the flat state has it
    abbrev pub node : ProcessNode
    node = shown_as (job_numbers l.category p.chain) (flat_life l.category p p.exited) p.born

    -- its container is there
    home_label : container_label (s.objects (found me).container) ≡ Some (guard_label l.category (process_guard me p))
    home_label =
        let numbered = numbered_home accounts s f l me ∙ ap is_some here in
        ap container_label (home_found accounts s f l me p here (found me).container (is_or_zero _ numbered)).1

    module _ (runs : p.exited ≡ None) where
      -- where it runs, its thread is there
      own_label : thread_label (s.objects (caller_is accounts s f l me).thread) ≡ Some (rights_label l.category (thread_rights accounts me p))
      own_label =
          ap thread_label (thread_found accounts s f l me p here runs (caller_is accounts s f l me).thread
          (is_or_zero _ (numbered_runner accounts s f l me p here runs)))

      caller_here : caller_in s (found me) ≡ Some (caller_is accounts s f l me)
      caller_here =
          ap (λ (x : Option ProcessStatus). x >>= λ status. caller_by s (found me) status)
          (status_is accounts s f l me p here) ∙ runs_here accounts s f l me p here runs

      runs_as : running_at accounts s (found me) ≡ Some (flat_life l.category p None)
      runs_as =
          ap (λ (x : Option Caller).
          x >>= λ caller. thread_label (s.objects caller.thread) >>= λ own. Some (running_by accounts caller own))
          caller_here
          ∙ ap (λ (x : Option Levels). x >>= λ own. Some (running_by accounts (caller_is accounts s f l me) own)) own_label
          ∙ ap Some (running_is accounts s f l me p here runs)

    life_is : life_in accounts s (found me) p.exited ≡ Some (flat_life l.category p p.exited)
    life_is = by p.exited refl
      where
        by : (e : Option ℕ) → p.exited ≡ e → life_in accounts s (found me) e ≡ Some (flat_life l.category p e)
        by None runs = runs_as runs
        by (Some number) exited = refl

    -- the state has the process like this
    pub node_is : node_in accounts s me (found me) ≡ Some node
    node_is =
        ap (λ (x : Option ProcessStatus).
        x >>= λ status. container_label (s.objects (found me).container) >>= λ outer. life_in accounts s
        (found me) status.exited >>= λ life. Some (shown_as (jobs_in outer) life status.born))
        (status_is accounts s f l me p here)
        ∙ ap (λ (x : Option Levels). x >>= λ outer. life_in accounts s (found me) p.exited >>= λ life. Some
        (shown_as (jobs_in outer) life p.born)) home_label
        ∙ ap (λ (x : Option Life). x >>= λ life. Some (shown_as (jobs_in (guard_label l.category (process_guard me p))) life p.born)) life_is
        ∙ ap (λ (chain : List ℕ). Some (shown_as chain (flat_life l.category p p.exited) p.born))
        (chain_is l.category l.different me p (l.processes me p here).chain)

    module _ (levels : ℕ) where
      -- what a child and those below it show
      abbrev below : ℕ → List ProcessLine
      below n = shown levels (n ∷ me)

      -- the children among these numbers that are listed
      abbrev listed : List ℕ → List Listed
      listed ns = filter_map (child_of s (found me).segment) ns

      -- processes which show the same as the flat state has at the children of these numbers and below them
      record HaveProcesses (ns : List ℕ) : Type 0 where
        processes : List ProcessNode
        are : all_of (processes_at levels accounts s) me (listed ns) ≡ Some processes
        lines : map process_line processes ≡ flat_map below ns

      -- a child is listed if it is there
      child_listed : (n : ℕ) (o : Option Process) → f.processes (n ∷ me) ≡ o
          → child_of s (found me).segment n ≡ option_map (λ (q : Process). listed_by l.naming.number me n) o
      child_listed n o is =
          ap (λ (x : Option ProcessStatus). x >>= λ status. child_at status.children n) (status_is accounts s f l me p here)
          ∙ child_is accounts s f l n me p here
          ∙ ap (option_map (λ (q : Process). listed_by l.naming.number me n)) is

      one_more : ((n : ℕ) (q : Process) → f.processes (n ∷ me) ≡ Some q → HasProcessesAt levels (n ∷ me))
          → (n : ℕ) (ns : List ℕ) (o : Option Process) → f.processes (n ∷ me) ≡ o → HaveProcesses ns
          → HaveProcesses (n ∷ ns)
      one_more each n ns None is rest = record {
        processes = rest.processes;
        are = ap (λ (c : Option Listed). all_of (processes_at levels accounts s) me (cons_option c (listed ns))) (child_listed n None is) ∙ rest.are;
        lines = rest.lines ∙ sym (ap (λ (lines : List ProcessLine). lines ++ flat_map below ns) (nothing_shown levels (n ∷ me) is));
      }
      one_more each n ns (Some q) is rest =
          let one = each n q is in
          record {
            processes = one.processes ++ rest.processes;
            are =
                ap (λ (c : Option Listed). all_of (processes_at levels accounts s) me (cons_option c (listed ns))) (child_listed n (Some q) is)
                ∙ ap (λ (x : Option (List ProcessNode)).
                x >>= λ first. all_of (processes_at levels accounts s) me (listed ns) >>= λ rest. Some
                (first ++ rest)) one.are
                ∙ ap (λ (x : Option (List ProcessNode)). x >>= λ rest. Some (one.processes ++ rest)) rest.are;
            lines = map-append process_line one.processes rest.processes ∙ (λ i. one.lines i ++ rest.lines i);
          }

      -- the children have processes, one after another
      of_children : ((n : ℕ) (q : Process) → f.processes (n ∷ me) ≡ Some q → HasProcessesAt levels (n ∷ me)) → (ns : List ℕ) → HaveProcesses ns
      of_children each [] = record { processes = []; are = refl; lines = refl }
      of_children each (n ∷ ns) = one_more each n ns (f.processes (n ∷ me)) refl (of_children each ns)

      -- a process and those of its children are the processes at its name
      with_its_children : HaveProcesses (range_with_len 1 p.born) → HasProcessesAt (suc levels) me
      with_its_children rest = record {
        processes = node ∷ rest.processes;
        are =
            ap (λ (x : Option ProcessNode). x >>= λ first. all_of (processes_at levels accounts s) me
            (children_of s (found me).segment first.born) >>= λ more. Some (first ∷ more)) node_is
            ∙ ap (λ (x : Option (List ProcessNode)). x >>= λ more. Some (node ∷ more)) rest.are;
        lines = (λ i. process_line node ∷ rest.lines i) ∙ sym (ap (with_children l.category below me) here);
      }

  -- a process that is there has processes, down to enough levels
  processes_there : AreNamed f → (levels : ℕ) (me : ProcName) (p : Process) → f.processes me ≡ Some p
      → most_numbers < length me + levels → HasProcessesAt levels me
  processes_there named zero me p here deep =
      let short = named me (ap is_some here) in
      absurd (omega arith)
  processes_there named (suc levels) me p here deep =
      with_its_children me p here levels (of_children me p here levels (λ n q is. processes_there named levels (n ∷ me) q is (omega arith))
      (range_with_len 1 p.born))

  -- process 0 is at the place where boot left it
  pub first_found : found [] ≡ (roots_of (length accounts.users)).home
  first_found i = record { container = or_zero (l.as_booted (Home ∷ []) _ refl i); segment = or_zero (l.as_booted (Status ∷ Home ∷ []) _ refl i) }

-- a state that represents a flat state has its processes
pub flat_states_have_their_processes : FlatStatesHaveTheirProcesses
unfolding AreProcessesOf
flat_states_have_their_processes accounts s f represents named =
    let first = some_of (f.processes []) represents.matched.first in
    let there = processes_there accounts s f represents.matched named (levels_at []) [] first.0 first.1 (omega arith) in
    record {
      processes = there.processes;
      are_processes =
          subst (λ (home : Where). processes_at (levels_at []) accounts s [] home ≡ Some there.processes)
          (first_found accounts s f represents.matched) there.are;
      lines = there.lines;
    }
