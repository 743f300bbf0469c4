-- What follows from a reply that is neither a refusal nor `gone`.
use Rattle.std.specs.Prelude.{◌≡◌, ◌≢◌, Option, Some, None, refl}
use Rattle.std.proofs.Common.{ap, ◌∙◌}
use Rattle.histar_flat.specs.declared.calls.UnixCall.{UnixCall}
use Rattle.histar_flat.specs.declared.replies.Errno.{Errno}
use Rattle.histar_flat.specs.declared.replies.Reply.{Reply}
use Rattle.histar_flat.specs.declared.replies.Reply.TheVariants.{Refused, Gone}
use Rattle.histar_flat.specs.Words.{ProcName}
use Rattle.histar_flat.specs.Accounts.{Accounts}
use Rattle.histar_flat.specs.Classes.{Process}
use Rattle.histar_flat.specs.FlatState.{Flat}
use Rattle.histar_flat.specs.FlatCalls.{refused, changed, answer, reply_or, flat_or, running, reply_by, flat_by, reply_to, flat_after}

-- The process runs, the call is not refused, and the reply is its answer.
pub record IsAnswered (accounts : Accounts) (f : Flat) (me : ProcName) (call : UnixCall) (reply : Reply) : Type 0 where
  pub process : Process
  pub runs : running f me ≡ Some process
  pub passes : refused accounts f me process call ≡ None
  pub answers : answer f me process call ≡ reply

module _ (accounts : Accounts) (f : Flat) (me : ProcName) (call : UnixCall) (reply : Reply) (not_gone : Gone ≢ reply)
    (not_refused : (e : Errno) → Refused e ≢ reply) where
  by_refusal : (p : Process) → running f me ≡ Some p → (e : Option Errno) → refused accounts f me p call ≡ e
      → reply_or e (answer f me p call) ≡ reply → IsAnswered accounts f me call reply
  by_refusal p runs None passes said = record { process = p; runs = runs; passes = passes; answers = said }
  by_refusal p runs (Some e) fails said = absurd (not_refused e said)

  by_process : (o : Option Process) → running f me ≡ o → reply_by accounts f me o call ≡ reply → IsAnswered accounts f me call reply
  by_process None runs said = absurd (not_gone said)
  by_process (Some p) runs said = by_refusal p runs (refused accounts f me p call) refl said

  -- a call has an answer if the reply is neither
  pub is_answered : reply_to accounts f me call ≡ reply → IsAnswered accounts f me call reply
  is_answered said = by_process (running f me) refl said

-- the state after such a call is the changed one
pub changed_after : (accounts : Accounts) (f : Flat) (me : ProcName) (call : UnixCall) (reply : Reply)
    (is : IsAnswered accounts f me call reply) → flat_after accounts f me call ≡ changed accounts f me is.process call
changed_after accounts f me call reply is =
    ap (λ (o : Option Process). flat_by accounts f me o call) is.runs
    ∙ ap (λ (e : Option Errno). flat_or e f (changed accounts f me is.process call)) is.passes
