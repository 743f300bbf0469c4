-- A `rmdir` or a `wrap` of the process that started a job keeps the states the same outside the job, if its replies have the same text.
use Rattle.std.specs.Prelude.{None, Option, Some, false, is_some, refl, true, ℕ, ◌∷◌, ◌≡◌, List}
use Rattle.std.proofs.Common.{ap, sym, ◌∙◌}
use Rattle.std.proofs.lemmas.Bool.{true≢false}
use Rattle.histar_base.specs.Paths.{same}
use Rattle.histar_flat.specs.declared.calls.UnixCall.{UnixCall}
use Rattle.histar_flat.specs.declared.calls.UnixCall.TheVariants.{Rmdir, Wrap}
use Rattle.histar_flat.specs.declared.replies.Errno.{Errno}
use Rattle.histar_flat.specs.declared.replies.Errno.TheVariants.{ENOENT, ENOTDIR, EISDIR, EEXIST, EACCES, EPERM, ENOTEMPTY, EBUSY, ENOSPC, EFBIG}
use Rattle.histar_flat.specs.declared.replies.Errno.TheVariants.{ESRCH}
use Rattle.histar_flat.specs.declared.replies.Errno.TheVariants.{EAGAIN, EAUTH}
use Rattle.histar_flat.specs.declared.replies.Reply.{Reply}
use Rattle.histar_flat.specs.declared.replies.Reply.TheVariants.{Child, Done}
use Rattle.histar_flat.specs.Accounts.{Accounts}
use Rattle.histar_flat.specs.Classes.{Process}
use Rattle.histar_flat.specs.FlatCalls.{changed, flat_by, next_child, refused, reply_by, reply_or}
use Rattle.histar_flat.specs.FlatState.{Flat}
use Rattle.histar_flat.specs.Texts.{errno_text, reply_text}
use Rattle.histar_flat.specs.Words.{ProcName}
use Rattle.histar_noninterference.specs.Isolation.{is_rmdir_or_wrap}
use Rattle.histar_noninterference.proofs.Anyone.{both_refused}
use Rattle.histar_noninterference.proofs.Both.{both}
use Rattle.histar_noninterference.proofs.Relation.{IsStarted, SameOutside}

-- the name of an errno doesn't begin with an o
no_o : (e : Errno) (l : List ℕ) → same (errno_text e) (111 ∷ l) ≡ false
no_o ENOENT l = refl
no_o ENOTDIR l = refl
no_o EISDIR l = refl
no_o EEXIST l = refl
no_o EACCES l = refl
no_o EPERM l = refl
no_o ENOTEMPTY l = refl
no_o EBUSY l = refl
no_o ENOSPC l = refl
no_o EFBIG l = refl
no_o ESRCH l = refl
no_o EAGAIN l = refl
no_o EAUTH l = refl

o_no : (e : Errno) (l : List ℕ) → same (111 ∷ l) (errno_text e) ≡ false
o_no ENOENT l = refl
o_no ENOTDIR l = refl
o_no EISDIR l = refl
o_no EEXIST l = refl
o_no EACCES l = refl
o_no EPERM l = refl
o_no ENOTEMPTY l = refl
o_no EBUSY l = refl
o_no ENOSPC l = refl
o_no EFBIG l = refl
o_no ESRCH l = refl
o_no EAGAIN l = refl
o_no EAUTH l = refl

module _ (m : ℕ) (w : ProcName) (accounts : Accounts) (f g : Flat) (r : SameOutside (m ∷ w) f g) (hf : IsStarted (m ∷ w) f)
    (hg : IsStarted (m ∷ w) g) (me : ProcName) (p : Process) where
  -- the same text says that both were done or both refused
  by_text : (call : UnixCall) (answer : Reply) (l : List ℕ) → reply_text answer ≡ 111 ∷ l
      → ((refused accounts f me p call ≡ None) → (refused accounts g me p call ≡ None)
      → SameOutside (m ∷ w) (flat_by accounts f me (Some p) call) (flat_by accounts g me (Some p) call))
      → same (reply_text (reply_or (refused accounts f me p call) answer)) (reply_text (reply_or (refused accounts g me p call) answer)) ≡ true
      → SameOutside (m ∷ w) (flat_by accounts f me (Some p) call) (flat_by accounts g me (Some p) call)
  by_text call answer l text done = by (refused accounts f me p call) (refused accounts g me p call) refl refl
    where
      by : (d e : Option Errno) → refused accounts f me p call ≡ d → refused accounts g me p call ≡ e
          → same (reply_text (reply_or (refused accounts f me p call) answer)) (reply_text (reply_or (refused accounts g me p call) answer)) ≡ true
          → SameOutside (m ∷ w) (flat_by accounts f me (Some p) call) (flat_by accounts g me (Some p) call)
      by None None h k t = done h k
      by (Some x) (Some y) h k t =
          both_refused (m ∷ w) f g (changed accounts f me p call) (changed accounts g me p call) (refused accounts f me p call)
          (refused accounts g me p call) r (ap is_some h) (ap is_some k)
      by None (Some y) h k t = absurd (true≢false (sym t ∙ (λ i. same (reply_text (reply_or (h i) answer)) (reply_text (reply_or (k i) answer)))
          ∙ ap (λ z. same z (errno_text y)) text ∙ o_no y l))
      by (Some x) None h k t = absurd (true≢false (sym t ∙ (λ i. same (reply_text (reply_or (h i) answer)) (reply_text (reply_or (k i) answer)))
          ∙ ap (same (errno_text x)) text ∙ no_o x l))

  pub answered_alike : (call : UnixCall) → is_rmdir_or_wrap call ≡ true
      → same (reply_text (reply_by accounts f me (Some p) call)) (reply_text (reply_by accounts g me (Some p) call)) ≡ true
      → SameOutside (m ∷ w) (flat_by accounts f me (Some p) call) (flat_by accounts g me (Some p) call)
  answered_alike (Rmdir q) loud t =
      by_text (Rmdir q) Done _ refl (λ h k. both m w accounts f g r hf hg me p (Rmdir q) (h ∙ sym k) (λ v s. absurd (true≢false (sym s)))) t
  answered_alike (Wrap q) loud t =
      by_text (Wrap q) (Child (next_child me p)) _ refl
      (λ h k. both m w accounts f g r hf hg me p (Wrap q) (h ∙ sym k) (λ v s. absurd (true≢false (sym s)))) t
  answered_alike call loud t = absurd (true≢false (sym loud))
