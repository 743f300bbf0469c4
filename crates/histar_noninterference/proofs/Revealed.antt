-- An outsider's calls are refused and answered alike; the steps of the two runs.
use Rattle.std.specs.Prelude.{None, Option, Some, false, nat_eq, not, refl, true, ℕ, ◌||◌, ◌∷◌, ◌≡◌}
use Rattle.std.proofs.Common.{ap, inl, inr, subst, sym, ◌∙◌}
use Rattle.std.proofs.lemmas.Bool.{and_parts, cases_Bool, not-true, true≢false}
use Rattle.histar_flat.specs.declared.calls.UnixCall.{UnixCall}
use Rattle.histar_flat.specs.CallRules.{path_of, rule}
use Rattle.histar_flat.specs.Effects.{Effect}
use Rattle.histar_flat.specs.Effects.Effect.{Stores}
use Rattle.histar_flat.specs.Classes.{Process, knows}
use Rattle.histar_flat.specs.FlatCalls.{flat_after, flat_by, if_running, reply_by, reply_to, running}
use Rattle.histar_flat.specs.FlatState.{Flat}
use Rattle.histar_base.specs.Paths.{same}
use Rattle.histar_flat.specs.PathOrder.{parent, under_process}
use Rattle.histar_flat.specs.Accounts.{Accounts, has}
use Rattle.histar_flat.specs.Words.{Path, ProcName}
use Rattle.histar_flat.proofs.Changes.{runs_is_there}
use Rattle.histar_flat.proofs.FileLemmas.{same_name_found}
use Rattle.histar_flat.proofs.Under.{above_is_not_under}
use Rattle.histar_noninterference.specs.Comparison.{is_outsider, lies_in_job}
use Rattle.histar_noninterference.specs.Isolation.{is_rmdir_or_wrap}
use Rattle.histar_flat.specs.Texts.{reply_text}
use Rattle.histar_noninterference.proofs.Answering.{answered_alike}
use Rattle.histar_noninterference.proofs.Anyone.{anyone}
use Rattle.histar_noninterference.proofs.Both.{both, writes_bytes}
use Rattle.histar_noninterference.proofs.Folds.{Steps}
use Rattle.histar_noninterference.proofs.Inside.{job_step}
use Rattle.histar_noninterference.proofs.Kept.{started_after}
use Rattle.histar_noninterference.proofs.Outsiders.{outside, outsider_looks}
use Rattle.histar_noninterference.proofs.Relation.{IsStarted, SameOutside}
use Rattle.histar_noninterference.proofs.TestLemmas.{is_same}
use Rattle.histar_flat.proofs.LooksAlike.{refused_alike, reply_alike}
use Rattle.histar_flat.specs.RuleLaws.{Warrant}
use Rattle.histar_flat.proofs.Warrants.{warranted}

module _ (m : ℕ) (w : ProcName) (accounts : Accounts) (f g : Flat) (r : SameOutside (m ∷ w) f g) (hf : IsStarted (m ∷ w) f)
    (hg : IsStarted (m ∷ w) g) (me : ProcName) (p : Process) (o : knows p (m ∷ w) ≡ false) where
  -- what an outsider writes doesn't lie in the job
  writes_outside : (q : Path) (effect : Effect) → Warrant accounts f me p q effect → writes_bytes effect ≡ true
      → lies_in_job (m ∷ w) f.files q ≡ false
  writes_outside q (Stores new) may h = outside m w accounts f g r hf p o q may.1
  writes_outside q _ may h = absurd (true≢false (sym h))

  pub outsider_state : (call : UnixCall) → SameOutside (m ∷ w) (flat_by accounts f me (Some p) call) (flat_by accounts g me (Some p) call)
  outsider_state call = both m w accounts f g r hf hg me p call
      (refused_alike accounts f g me p call (outsider_looks m w accounts f g r hf p o (path_of call)))
      (λ v. writes_outside (path_of call) (rule call).effect (warranted accounts f me p call v))

  pub outsider_reply : (call : UnixCall) → reply_by accounts f me (Some p) call ≡ reply_by accounts g me (Some p) call
  outsider_reply call = reply_alike accounts f g me p call (outsider_looks m w accounts f g r hf p o (path_of call))

-- the steps of a process outside the job
module _ (job : ProcName) (accounts : Accounts) (f g : Flat) (r : SameOutside job f g) (me : ProcName) (u : under_process job me ≡ false)
    (call : UnixCall) where
  state_line : ((p : Process) → f.processes me ≡ Some p → SameOutside job (flat_by accounts f me (Some p) call)
      (flat_by accounts g me (Some p) call))
      → SameOutside job (flat_after accounts f me call) (flat_after accounts g me call)
  state_line moves =
      subst (λ o. SameOutside job (flat_after accounts f me call) (flat_by accounts g me (if_running o) call)) (r.processes me u)
      (by (running f me) refl)
    where
      by : (o : Option Process) → running f me ≡ o → SameOutside job (flat_by accounts f me o call) (flat_by accounts g me o call)
      by None e = r
      by (Some p) e = moves p (runs_is_there (f.processes me) p e)

  reply_line : ((p : Process) → f.processes me ≡ Some p → reply_by accounts f me (Some p) call ≡ reply_by accounts g me (Some p) call)
      → reply_to accounts f me call ≡ reply_to accounts g me call
  reply_line revealed =
      subst (λ o. reply_to accounts f me call ≡ reply_by accounts g me (if_running o) call) (r.processes me u) (by (running f me) refl)
    where
      by : (o : Option Process) → running f me ≡ o → reply_by accounts f me o call ≡ reply_by accounts g me o call
      by None e = refl
      by (Some p) e = revealed p (runs_is_there (f.processes me) p e)

-- an outsider knows nothing of the job
knows_not : (job : ProcName) (f : Flat) → IsStarted job f → (me : ProcName) (p : Process) → is_outsider job me ≡ true
    → f.processes me ≡ Some p → knows p job ≡ false
knows_not job f h me p out here =
    let t = and_parts (not (under_process job me)) (not (same (parent job) me)) out in
    ap (λ b. b || has p.held job) (h.inside me p here ∙ not-true (under_process job me) t.0)
    ∙ h.held me p here (not-true (same (parent job) me) t.1)

not_inside : (job me : ProcName) → is_outsider job me ≡ true → under_process job me ≡ false
not_inside job me out = not-true (under_process job me) ((and_parts (not (under_process job me)) (not (same (parent job) me)) out).0)

-- a `rmdir` or a `wrap` of the process that started the job, with the same text of the replies
loud_line : (m : ℕ) (w : ProcName) (accounts : Accounts) (f g : Flat) → SameOutside (m ∷ w) f g → IsStarted (m ∷ w) f → IsStarted (m ∷ w) g
    → (call : UnixCall) → is_rmdir_or_wrap call ≡ true
    → same (reply_text (reply_to accounts f w call)) (reply_text (reply_to accounts g w call)) ≡ true
    → SameOutside (m ∷ w) (flat_after accounts f w call) (flat_after accounts g w call)
loud_line m w accounts f g r hf hg call loud alike =
    subst (λ o. SameOutside (m ∷ w) (flat_after accounts f w call) (flat_by accounts g w (if_running o) call)) known
    (by (running f w) refl (ap (λ o. same (reply_text (reply_to accounts f w call)) (reply_text (reply_by accounts g w (if_running o) call))) known
    ∙ alike))
  where
    known : f.processes w ≡ g.processes w
    known = r.processes w (above_is_not_under nat_eq same_name_found w m)

    by : (o : Option Process) → running f w ≡ o
        → same (reply_text (reply_by accounts f w o call)) (reply_text (reply_by accounts g w o call)) ≡ true
        → SameOutside (m ∷ w) (flat_by accounts f w o call) (flat_by accounts g w o call)
    by None e alike = r
    by (Some p) e alike = answered_alike m w accounts f g r hf hg w p call loud alike

-- all that has to be shown of the calls of the two runs
pub all_steps : (m : ℕ) (w : ProcName) (accounts : Accounts) → Steps (m ∷ w) accounts
unfolding outsider_state outsider_reply state_line reply_line knows_not not_inside
all_steps m w accounts = record {
  keeps = started_after (m ∷ w) accounts;
  inside = job_step (m ∷ w) accounts;
  apart = λ me u. elim (cases_Bool (same w me)) [
    | inl t ↦ absurd (true≢false (sym u ∙ ap (under_process (m ∷ w)) (sym (is_same w me t)) ∙ above_is_not_under nat_eq same_name_found w m))
    | inr t ↦ t
  ];
  wrapper = λ f g call r hf hg alike. elim (cases_Bool (is_rmdir_or_wrap call)) [
    | inr calm ↦ state_line (m ∷ w) accounts f g r w (above_is_not_under nat_eq same_name_found w m) call
        (λ p here. anyone m w accounts f g r hf hg w p (above_is_not_under nat_eq same_name_found w m) call calm)
    | inl loud ↦ loud_line m w accounts f g r hf hg call loud (alike loud)
  ];
  outsider = λ f g me call r hf hg out. state_line (m ∷ w) accounts f g r me (not_inside (m ∷ w) me out) call
      (λ p here. outsider_state m w accounts f g r hf hg me p (knows_not (m ∷ w) f hf me p out here) call);
  replies = λ f g me call r hf hg out. reply_line (m ∷ w) accounts f g r me (not_inside (m ∷ w) me out) call
      (λ p here. outsider_reply m w accounts f g r hf hg me p (knows_not (m ∷ w) f hf me p out here) call);
}
