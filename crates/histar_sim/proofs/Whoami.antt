-- The program of `whoami` refines its rule.
use Rattle.std.proofs.Common.{◌≡◌, ℕ, [], ◌∷◌, Some, Result, inl, refl, ap, ◌∙◌, length}
use Rattle.std.specs.Prelude.{not}
use Rattle.std.proofs.lemmas.Option.{same_Some}
use Rattle.histar_flat.specs.declared.calls.UnixCall.TheVariants as calls
use Rattle.histar_flat.specs.declared.replies.Reply.{Reply}
use Rattle.histar_flat.specs.declared.replies.Reply.TheVariants as replies
use Rattle.histar_flat.specs.Words.{ProcName}
use Rattle.histar_flat.specs.Accounts.{Accounts}
use Rattle.histar_flat.specs.Classes.{Process}
use Rattle.histar_flat.specs.FlatState.{Flat}
use Rattle.histar_flat.specs.FlatCalls as flat
use Rattle.histar_level.specs.Levels.{Levels}
use Rattle.histar_object.specs.Objects.{label_there, thread_of}
use Rattle.histar_rules.specs.declared.raw.RawCall.TheVariants.{OwnLabel}
use Rattle.histar_syscall.specs.KernelModel.{KernelModel, state}
use Rattle.histar_syscall.proofs.Runs.{same_kernel}
use Rattle.histar_programs.specs.declared.call_error.Stopped.{Stopped}
use Rattle.histar_layout.specs.Categories.{user_of}
use Rattle.histar_programs.specs.Programs.{Runs}
use Rattle.histar_programs.specs.Programs.Program.{Answers}
use Rattle.histar_programs.specs.Kin.{user_name}
use Rattle.histar_layout.specs.Jobs.{jobs_in, is_empty}
use Rattle.histar_process.specs.Whoami.{whoami_program}
use Rattle.histar_refinement.specs.Accounts.{AreAccounts}
use Rattle.histar_refinement.specs.Guards.{rights_label, rights_clearance}
use Rattle.histar_refinement.specs.Labels.{thread_rights}
use Rattle.histar_refinement.specs.Represents.{ObjectsMatch}
use Rattle.histar_refinement.proofs.KeepingNames.{still_represents}
use Rattle.histar_refinement.proofs.RawChecks.{caller_passes}
use Rattle.histar_refinement.proofs.Agreeing.{thread_found}
use Rattle.histar_sim.proofs.Ready.{Ready}
use Rattle.histar_sim.proofs.CallErrors.{from_each}
use Rattle.histar_sim.proofs.Steps.{Goal, granted_step, answered_step}
use Rattle.histar_sim.specs.Laws.{WhoamiRefines}
use Rattle.histar_refinement.proofs.OwnLabels.{own_user_is, name_of_number}
use Rattle.histar_refinement.proofs.JobLabels.{none_if_free}
use Rattle.histar_sim.proofs.Searches.{runs_as}

module _ {M : Type 0} (accounts : Accounts) (ok : AreAccounts accounts) (old new : KernelModel) (f : Flat) (me : ProcName) (t : ℕ)
    (ready : Ready M accounts (state old) f me t) (result : Result Reply Stopped) where
  abbrev p : Process
  p = ready.caller.process

  abbrev l : ObjectsMatch accounts (state old) f
  l = ready.represents.matched

  abbrev own : Levels
  own = rights_label l.category (thread_rights accounts me p)

  thread : (state old).objects t
      ≡ Some (thread_of (rights_label l.category (thread_rights accounts me p))
      (rights_clearance l.category (thread_rights accounts me p)))
  thread = let runs = runs_as accounts (state old) f me t ready in thread_found accounts (state old) f l me p runs.0 runs.1 t runs.2

  -- what is replied by a label
  abbrev reply_by : Levels → Reply
  reply_by label = replies.User (user_name accounts.users (user_of label (length accounts.users))) (not (is_empty (jobs_in label)))

  name_is : user_name accounts.users (user_of own (length accounts.users)) ≡ p.user
  name_is =
      ap (user_name accounts.users) (own_user_is accounts (state old) f l me p)
      ∙ name_of_number accounts p.user ((l.processes me p ready.caller.agrees).someone ready.caller.runs)

  revealed : (label : Levels) → Some label ≡ label_there ((state old).objects t) → reply_by label ≡ flat.answer f me p calls.Whoami
  revealed label right =
      let is : label ≡ own = same_Some label own (right ∙ ap label_there thread) in
      ap reply_by is ∙ (λ i. replies.User (name_is i) (not (none_if_free l.category accounts me p i)))

  whoami_is_refined : Runs M (whoami_program accounts) old new t result → Goal accounts f me calls.Whoami old new t ready result
  unfolding whoami_program
  whoami_is_refined run =
      granted_step accounts f me calls.Whoami old new t ready result [] old (same_kernel old)
      OwnLabel (λ label. Answers (reply_by label.0))
      (caller_passes (state old) t own (rights_clearance l.category (thread_rights accounts me p)) thread) run
      (λ later label called right longer on.
      answered_step accounts f me calls.Whoami old new t ready result (OwnLabel ∷ []) later longer
      (reply_by label.0) (revealed label.0 right.0) refl tt (inl (refl, tt), (refl, refl))
      (still_represents ready.represents _ called.state) on)

-- the program of `whoami` refines its rule
pub whoami_refines : {M : Type 0} → WhoamiRefines M
whoami_refines {M} accounts ok me old new f t result ready run =
    from_each M accounts f me calls.Whoami old new t result ready (λ ready.
    whoami_is_refined accounts ok old new f me t ready result run)
