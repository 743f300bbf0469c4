-- A raw call that is granted unless a counter has its greatest value: the call goes on after it, or ends without a reply.
use Rattle.std.proofs.Common.{◌≡◌, ℕ, Bool, true, false, List, [], ◌∷◌, ◌++◌, None, Result, refl, ap, ◌∙◌}
use Rattle.histar_base.specs.Refusals.{unless}
use Rattle.histar_flat.specs.declared.calls.UnixCall.{UnixCall}
use Rattle.histar_flat.specs.declared.replies.Reply.{Reply}
use Rattle.histar_flat.specs.Words.{ProcName}
use Rattle.histar_flat.specs.Accounts.{Accounts}
use Rattle.histar_flat.specs.FlatState.{Flat}
use Rattle.histar_rules.specs.declared.raw.Denied.TheVariants.{TooBig}
use Rattle.histar_rules.specs.declared.raw.RawCall.{RawCall}
use Rattle.histar_rules.specs.Rules.{check, has_number}
use Rattle.histar_syscall.specs.KernelModel.{KernelModel, state, Called}
use Rattle.histar_programs.specs.declared.call_error.Stopped.{Stopped}
use Rattle.histar_programs.specs.Refusals.{errno_for}
use Rattle.histar_programs.specs.Programs.{AnswerOf, IsAnswer, Program, Runs}
use Rattle.histar_programs.specs.Parts.{ask}
use Rattle.histar_sim.specs.Simulation.{has_category}
use Rattle.histar_sim.proofs.Ready.{Ready}
use Rattle.histar_sim.proofs.Chains.{all_granted, Chain}
use Rattle.histar_sim.proofs.Steps.{Goal, granted_step, exhausted_step, exhausted_category_step}

module _ {M : Type 0} (accounts : Accounts) (f : Flat) (me : ProcName) (call : UnixCall)
    (old new : KernelModel) (t : ℕ) (ready : Ready M accounts (state old) f me t) (result : Result Reply Stopped) where
  abbrev Refined : Type 0
  Refined = Goal accounts f me call old new t ready result

  -- what comes after a raw call that was granted
  abbrev GoesOn : List RawCall → KernelModel → (next : RawCall) → (AnswerOf next → Program) → Type 0
  GoesOn calls mid next rest =
      (later : KernelModel) (answer : AnswerOf next) → Called mid later t next None → IsAnswer (state mid) t next answer
      → Chain old t (all_granted (calls ++ next ∷ [])) later → Runs M (rest answer) later new t result → Refined

  module _ (calls : List RawCall) (mid : KernelModel) (so_far : Chain old t (all_granted calls) mid) (next : RawCall)
      (rest : AnswerOf next → Program) (unrevealed : errno_for next TooBig ≡ None) where
    -- a raw call that is granted unless there is no number for a new object
    numbered_by : (b : Bool) → has_number (state mid) ≡ b
        → check (state mid) t next ≡ unless (has_number (state mid)) TooBig → Runs M (ask next rest) mid new t result
        → (has_number (state mid) ≡ true → GoesOn calls mid next rest) → Refined
    numbered_by false is said runs go_on =
        exhausted_step accounts f me call old new t ready result calls mid so_far next rest
        (said ∙ ap (λ (b : Bool). unless b TooBig) is) unrevealed is runs
    numbered_by true is said runs go_on =
        granted_step accounts f me call old new t ready result calls mid so_far next rest
        (said ∙ ap (λ (b : Bool). unless b TooBig) is) runs (go_on is)

    pub numbered_step : check (state mid) t next ≡ unless (has_number (state mid)) TooBig
        → Runs M (ask next rest) mid new t result → (has_number (state mid) ≡ true → GoesOn calls mid next rest) → Refined
    numbered_step said runs go_on = numbered_by (has_number (state mid)) refl said runs go_on

    -- a raw call that is granted unless there is no number for a new category
    category_by : (b : Bool) → has_category (state mid) ≡ b
        → check (state mid) t next ≡ unless (has_category (state mid)) TooBig → Runs M (ask next rest) mid new t result
        → GoesOn calls mid next rest → Refined
    category_by false is said runs go_on =
        exhausted_category_step accounts f me call old new t ready result calls mid so_far next rest
        (said ∙ ap (λ (b : Bool). unless b TooBig) is) unrevealed is runs
    category_by true is said runs go_on =
        granted_step accounts f me call old new t ready result calls mid so_far next rest
        (said ∙ ap (λ (b : Bool). unless b TooBig) is) runs go_on

    pub category_step : check (state mid) t next ≡ unless (has_category (state mid)) TooBig
        → Runs M (ask next rest) mid new t result → GoesOn calls mid next rest → Refined
    category_step said runs go_on = category_by (has_category (state mid)) refl said runs go_on
