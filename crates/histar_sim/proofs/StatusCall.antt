-- The program of `status` refines its rule.
use Rattle.std.proofs.Common.{◌≡◌, ℕ, List, Option, None, Some, Result, refl, sym, ap, ◌∙◌, subst, length, []}
use Rattle.histar_flat.specs.declared.calls.UnixCall.{UnixCall}
use Rattle.histar_flat.specs.declared.calls.UnixCall.TheVariants as calls
use Rattle.histar_flat.specs.declared.replies.Reply.{Reply}
use Rattle.histar_flat.specs.declared.replies.Reply.TheVariants.{Running, Exited}
use Rattle.histar_flat.specs.Words.{ProcName}
use Rattle.histar_flat.specs.Accounts.{Accounts}
use Rattle.histar_flat.specs.Classes.{Process}
use Rattle.histar_flat.specs.FlatState.{Flat}
use Rattle.histar_flat.specs.FlatCalls.{life_reply}
use Rattle.histar_object.specs.State.{State}
use Rattle.histar_trace.specs.declared.entries.TraceEntry.{TraceEntry}
use Rattle.histar_syscall.specs.KernelModel.{KernelModel, state}
use Rattle.histar_programs.specs.declared.call_error.Stopped.{Stopped}
use Rattle.histar_programs.specs.Programs.{Runs}
use Rattle.histar_programs.specs.Programs.Program.{Answers}
use Rattle.histar_process.specs.StatusCall.{status_reply, status_program}
use Rattle.histar_programs.specs.Start.{roots_of}
use Rattle.histar_refinement.specs.Accounts.{AreAccounts}
use Rattle.histar_refinement.proofs.KeepingNames.{still_represents}
use Rattle.histar_sim.proofs.Requests.{left_at_end, all_made, made_to_end}
use Rattle.histar_sim.proofs.Ready.{Ready}
use Rattle.histar_sim.proofs.CallErrors.{from_each, IsBacked}
use Rattle.histar_sim.proofs.Steps.{Goal, answered_step}
use Rattle.histar_sim.proofs.Walks.{among_granted_all}
use Rattle.histar_sim.specs.Laws.{StatusRefines}
use Rattle.histar_sim.proofs.Searches.{search_reads, has_search, search_step}

-- the program's reply on a process's life is that of the flat rules
life_is : (e : Option ℕ) → status_reply e ≡ elim e as (λ _. Reply) [ None ↦ Running | Some n ↦ Exited n ]
life_is None = refl
life_is (Some n) = refl

-- the reply needs only granted raw calls
life_backed : (s : State) (entries : List TraceEntry) (e : Option ℕ) → IsBacked s entries (status_reply e)
life_backed s entries None = tt
life_backed s entries (Some n) = tt

module _ {M : Type 0} (accounts : Accounts) (ok : AreAccounts accounts) (old new : KernelModel) (f : Flat) (me : ProcName) (t : ℕ)
    (ready : Ready M accounts (state old) f me t) (name : ProcName) (result : Result Reply Stopped) where
  abbrev call : UnixCall
  call = calls.Status name

  said : (other : Process) → f.processes name ≡ Some other → status_reply other.exited ≡ life_reply (f.processes name)
  said other here = life_is other.exited ∙ ap life_reply (sym here)

  status_is_refined : Runs M (status_program (roots_of (length accounts.users)) name) old new t result
      → Goal accounts f me call old new t ready result
  unfolding status_program
  status_is_refined run =
      let reads = search_reads accounts (state old) f me t ready name in
      search_step accounts ok old new f me t ready call result name (λ home status. Answers (status_reply status.exited)) run (
        λ errno is steps among end. (
          is,
          (
            has_search accounts (state old) f me t ready name _ among,
            made_to_end _ old.line t errno reads steps _ [] is (left_at_end _ reads _ refl) end,
          ),
        ),
        λ reason is. is,
      )
      (λ found other here seen mid stays chain on.
      answered_step accounts f me call old new t ready result reads mid chain (status_reply other.exited) (said other here) found
      (subst (IsBacked (state old) _) (said other here) (life_backed (state old) _ other.exited)) (
        has_search accounts (state old) f me t ready name _ (among_granted_all old.line t reads),
        all_made _ old.line t reads (left_at_end _ reads None refl),
      )
      (still_represents ready.represents _ stays) on)

-- the program of `status` refines its rule
pub status_refines : {M : Type 0} → StatusRefines M
status_refines {M} accounts ok name me old new f t result ready run =
    from_each M accounts f me (calls.Status name) old new t result ready (λ ready.
    status_is_refined accounts ok old new f me t ready name result run)
