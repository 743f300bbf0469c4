-- The program of `exit` refines its rule.
use Rattle.std.proofs.Common.{◌≡◌, ℕ, ◌≤◌, ◌&&◌, true, List, [], ◌∷◌, None, Some, Result, refl, sym, ap, ◌∙◌, subst}
use Rattle.std.specs.Prelude.{option_map}
use mathlib.Core.Bool.{true≢false}
use Rattle.histar_flat.specs.declared.calls.UnixCall.{UnixCall}
use Rattle.histar_flat.specs.declared.calls.UnixCall.TheVariants as calls
use Rattle.histar_flat.specs.declared.replies.Reply.{Reply}
use Rattle.histar_flat.specs.declared.replies.Reply.TheVariants.{Done}
use Rattle.histar_flat.specs.Words.{ProcName, greatest_status}
use Rattle.histar_flat.specs.Accounts.{Accounts}
use Rattle.histar_flat.specs.Classes.{Process, sees}
use Rattle.histar_flat.specs.FlatState.{Flat}
use Rattle.histar_flat.specs.FlatCalls.{changed}
use Rattle.histar_level.specs.Levels.{Levels}
use Rattle.histar_label.specs.Levels.{is_below, is_below_raised}
use Rattle.histar_object.specs.declared.objects.Kind.TheVariants.{Segment, Container, Thread}
use Rattle.histar_object.specs.Objects.{Numbers as Links, holding}
use Rattle.histar_object.specs.State.{State, with_segment_bytes}
use Rattle.histar_container.specs.ObjectsModel.{CutsOff}
use Rattle.histar_container.proofs.TableMoves.{changed_here, changed_other}
use Rattle.histar_rules.specs.declared.raw.RawCall.{RawCall}
use Rattle.histar_rules.specs.declared.raw.RawCall.TheVariants as raw
use Rattle.histar_rules.specs.Rules.{check}
use Rattle.histar_syscall.specs.KernelModel.{KernelModel, state}
use Rattle.histar_syscall.proofs.Runs.{same_kernel}
use Rattle.histar_layout.specs.Status.{ProcessStatus, once_exited, status_bytes}
use Rattle.histar_programs.specs.declared.call_error.Stopped.{Stopped}
use Rattle.histar_programs.specs.declared.roots.Home.{Home}
use Rattle.histar_programs.specs.Programs.{Program, Runs}
use Rattle.histar_programs.specs.Programs.Program.{Answers}
use Rattle.histar_programs.specs.Parts.{ask}
use Rattle.histar_process.specs.ExitCall.{exit_program}
use Rattle.histar_refinement.specs.Accounts.{AreAccounts}
use Rattle.histar_refinement.specs.Addresses.{home_address}
use Rattle.histar_refinement.specs.Addresses.Step.{Status, Inside, Runner}
use Rattle.histar_refinement.specs.Guards.{guard_label, rights_label, rights_clearance}
use Rattle.histar_refinement.specs.Labels.{process_guard, thread_rights}
use Rattle.histar_refinement.specs.Represents.{ObjectsMatch}
use Rattle.histar_refinement.specs.KeptNames.{RepresentsStill}
use Rattle.histar_refinement.specs.Processes.{or_zero, process_bytes}
use Rattle.histar_refinement.proofs.CallerFound.{where_is, caller_found}
use Rattle.histar_refinement.proofs.Exiting.{written, written_is, still_exited}
use Rattle.histar_refinement.proofs.MakingRanges.{all_known}
use Rattle.histar_refinement.proofs.RawChecks.{object}
use Rattle.histar_layout.proofs.Declared.{equal_tested}
use Rattle.histar_refinement.proofs.StatusFound.{numbered_runner, zero_there}
use Rattle.histar_sim.proofs.Requests.{all_made}
use Rattle.histar_sim.proofs.Ready.{Ready}
use Rattle.histar_sim.proofs.CallErrors.{from_each}
use Rattle.histar_sim.proofs.Chains.{all_granted, Chain}
use Rattle.histar_sim.proofs.Steps.{Goal, granted_step, answered_step}
use Rattle.histar_sim.specs.Laws.{ExitRefines}
use Rattle.histar_sim.proofs.FoundProcesses.{at_container, at_segment, container_found, segment_found, step_below, observed, modified, thread}
use Rattle.histar_sim.proofs.OwnSegment.{status_few, listed_few, segment_apart, thread_no_segment, write_granted, unlink_granted}
use Rattle.histar_sim.proofs.Searches.{runs_as, status_of, read_of, status_step}
use Rattle.histar_refinement.proofs.Agreement.{agreement}

module _ {M : Type 0} (accounts : Accounts) (ok : AreAccounts accounts) (number : ℕ) (small : number ≤ greatest_status)
    (old new : KernelModel) (f : Flat) (me : ProcName) (t : ℕ) (ready : Ready M accounts (state old) f me t)
    (result : Result Reply Stopped) where
  abbrev call : UnixCall
  call = calls.Exit number

  abbrev p : Process
  p = ready.caller.process

  abbrev l : ObjectsMatch accounts (state old) f
  l = ready.represents.matched

  abbrev here : f.processes me ≡ Some ready.caller.process
  here = ready.caller.agrees

  abbrev Refined : Type 0
  Refined = Goal accounts f me call old new t ready result

  -- the process's container, its process segment and its internal container
  abbrev C : ℕ
  C = (where_is accounts (state old) f ready.represents.matched me).container

  abbrev S : ℕ
  S = (where_is accounts (state old) f ready.represents.matched me).segment

  abbrev o : ℕ
  o = or_zero (ready.represents.matched.naming.number (Inside ∷ home_address me))

  at_inside : l.naming.number (Inside ∷ home_address me) ≡ Some o
  at_inside =
      zero_there _ o ((agreement l).tree.held Runner (Inside ∷ home_address me)
      (numbered_runner accounts (state old) f l me p here ready.caller.runs)) refl

  -- the labels of the thread, and of the container and the process segment
  abbrev own : Levels
  own = rights_label ready.represents.matched.category (thread_rights accounts me ready.caller.process)

  abbrev clearance : Levels
  clearance = rights_clearance ready.represents.matched.category (thread_rights accounts me ready.caller.process)

  abbrev due : Levels
  due = guard_label ready.represents.matched.category (process_guard me ready.caller.process)

  abbrev links : Links
  links = (container_found accounts (state old) f ready.represents.matched me ready.caller.process ready.caller.agrees).0

  abbrev held : List ℕ
  held = process_bytes f.processes ready.represents.matched.naming.number me ready.caller.process

  thread_is : (state old).objects t ≡ object own (Thread clearance)
  thread_is = thread accounts (state old) f l me p here me p t (runs_as accounts (state old) f me t ready)

  holder_is : (state old).objects C ≡ object due (Container links)
  holder_is = (container_found accounts (state old) f l me p here).1

  segment_is : (state old).objects S ≡ object due (Segment held)
  segment_is = segment_found accounts (state old) f l me p here

  sees_itself : sees p p ≡ true
  sees_itself = all_known p

  seen : is_below_raised due own ≡ true
  seen = observed accounts (state old) f l me p here me p ∙ sees_itself

  may : (is_below own due && is_below_raised due own) ≡ true
  may = modified accounts (state old) f l me p here me p here sees_itself ∙ equal_tested me me refl

  -- what is written, and the raw calls
  abbrev revealed : ProcessStatus
  revealed = status_of accounts (state old) f me t ready me ready.caller.process

  abbrev bytes : List ℕ
  bytes = status_bytes (once_exited number revealed)

  abbrev read : RawCall
  read = read_of accounts (state old) f me t ready me

  abbrev writing : RawCall
  writing = raw.Write C S 0 bytes

  abbrev unlinking : RawCall
  unlinking = raw.Unlink C o

  abbrev call_error : Program
  call_error = ask unlinking (λ _. Answers Done)

  write_said : check (state old) t writing ≡ None
  write_said =
      write_granted (state old) t C S own clearance due links held thread_is holder_is segment_is seen may
      (step_below accounts (state old) f l me p here Status S (at_segment accounts (state old) f l me p here)) bytes
      (status_few (once_exited number revealed) (listed_few f.processes l.naming.number me p.born (l.processes me p here).few))

  -- the state once it is written
  abbrev exited : State
  exited = with_segment_bytes (state old) S bytes

  unlink_said : check exited t unlinking ≡ None
  unlink_said =
      unlink_granted exited t C S own clearance due links bytes
      (changed_other (state old).objects S (holding bytes) t
      (thread_no_segment (state old) t C S own clearance due links held thread_is holder_is segment_is)
      ∙ thread_is)
      (changed_other (state old).objects S (holding bytes) C
      (λ e. segment_apart (state old) t C S own clearance due links held thread_is holder_is segment_is (sym e))
      ∙ holder_is)
      (changed_here (state old).objects S (holding bytes) ∙ ap (option_map (holding bytes)) segment_is)
      seen may o (step_below accounts (state old) f l me p here Inside o at_inside)

  -- what is written is what the flat state asks for then
  written_so : written accounts (state old) f l me p here number small C S o
      (at_container accounts (state old) f l me p here) (at_segment accounts (state old) f l me p here) at_inside
      ≡ bytes
  written_so =
      written_is accounts (state old) f l me p here number small C S o (at_container accounts (state old) f l me p here)
      (at_segment accounts (state old) f l me p here) at_inside

  matched_after : (end : State) → CutsOff exited C o end → RepresentsStill ready.represents end (changed accounts f me p call)
  matched_after end cuts =
      still_exited accounts (state old) f l me p here number small C S o
      (at_container accounts (state old) f l me p here) (at_segment accounts (state old) f l me p here) at_inside
      end
      (subst (λ (b : List ℕ). CutsOff (with_segment_bytes (state old) S b) C o end) (sym written_so) cuts) ready.represents.jobs_given

  module _ (mid : KernelModel) (stays : state mid ≡ state old) (chain : Chain old t (all_granted (read ∷ [])) mid) where
    -- the internal container is unlinked, and the call is answered
    unlinked : (later : KernelModel) → state later ≡ exited → Chain old t (all_granted (read ∷ writing ∷ [])) later
        → Runs M call_error later new t result → Refined
    unlinked later is so_far on =
        granted_step accounts f me call old new t ready result (read ∷ writing ∷ []) later so_far
        unlinking (λ _. Answers Done) (ap (λ (s : State). check s t unlinking) is ∙ unlink_said) on
        (λ end done cut right whole last.
        answered_step accounts f me call old new t ready result (read ∷ writing ∷ unlinking ∷ []) end whole Done refl refl tt
        (tt, all_made _ old.line t (read ∷ writing ∷ unlinking ∷ []) refl)
        (matched_after (state end) (subst (λ (s : State). CutsOff s C o (state end)) is cut.state)) last)

    -- the segment is written
    wrote : Runs M (ask writing (λ _. call_error)) mid new t result → Refined
    wrote on =
        granted_step accounts f me call old new t ready result (read ∷ []) mid chain writing
        (λ _. call_error) (ap (λ (s : State). check s t writing) stays ∙ write_said) on
        (λ later done called right so_far rest. unlinked later (called.state ∙ ap (λ (s : State). with_segment_bytes s S bytes) stays) so_far rest)

  exit_is_refined : Runs M (exit_program (where_is accounts (state old) f l me) number) old new t result → Refined
  unfolding exit_program
  exit_is_refined run =
      status_step accounts ok old new f me t ready call result me p here [] old refl (same_kernel old)
      (λ status. ask (raw.Write C S 0 (status_bytes (once_exited number status)))
      (λ _. ask (raw.Unlink C status.internal) (λ _. Answers Done))) run
      (λ unseen. absurd (true≢false (sym sees_itself ∙ unseen)))
      (λ unseen. absurd (true≢false (sym sees_itself ∙ unseen)))
      (λ seen mid stays chain on. wrote mid stays chain on)

-- the program of `exit` refines its rule
pub exit_refines : {M : Type 0} → ExitRefines M
exit_refines {M} accounts ok number small me caller old new f result ready found run =
    from_each M accounts f me (calls.Exit number) old new caller.thread result ready (λ ready.
    let is = (caller_found accounts (state old) f ready.represents.matched me caller found).1 in
    let home_is : where_is accounts (state old) f ready.represents.matched me ≡ caller.home =
    λ i. record { container = or_zero (is.home i); segment = or_zero (is.segment i) } in
    exit_is_refined accounts ok number small old new f me caller.thread ready result
    (subst (λ (home : Home). Runs M (exit_program home number) old new caller.thread result) (sym home_is) run))
