-- Two runs, step by step, and the result of their comparison.
use Rattle.std.specs.Prelude.{Bool, List, None, Some, [], cond, false, filter, map, not, refl, true, ◌&&◌, ◌++◌, ◌||◌, ◌∷◌, ◌≡◌}
use Rattle.std.proofs.Common.{ap, inl, inr, subst, sym, ◌∙◌}
use Rattle.std.proofs.lemmas.Bool.{true≢false, cases_Bool}
use Rattle.std.proofs.Math.Bool.{and-false}
use Rattle.histar_flat.specs.declared.calls.CallLine.{CallLine}
use Rattle.histar_flat.specs.declared.calls.UnixCall.{UnixCall}
use Rattle.histar_flat.specs.Files.{from_list, get}
use Rattle.histar_flat.specs.FlatCalls.{flat_after, reply_to}
use Rattle.histar_flat.specs.FlatState.{Flat}
use Rattle.histar_flat.specs.Meaning.{RepliedCall, answered_from, flat_end, without}
use Rattle.histar_base.specs.Paths.{same}
use Rattle.histar_flat.specs.PathOrder.{parent, under_process}
use Rattle.histar_flat.specs.Accounts.{Accounts}
use Rattle.histar_flat.specs.Texts.{reply_text}
use Rattle.histar_flat.specs.Words.{Path, ProcName}
use Rattle.histar_flat.proofs.FileLemmas.{same_itself}
use Rattle.histar_noninterference.specs.Comparison.{differs, first_line, first_path, first_that, is_left_out, is_outsider, lies_in_job, outsiders}
use Rattle.histar_noninterference.specs.Comparison.{text_at}
use Rattle.histar_noninterference.specs.Isolation.{is_rmdir_or_wrap, may_reveal}
use Rattle.histar_noninterference.proofs.Relation.{IsStarted, SameOutside}
use Rattle.histar_noninterference.proofs.TestLemmas.{is_same}

alike_there : (job : ProcName) (f g : Flat) → SameOutside job f g → (q : Path) → differs job f g q ≡ false
alike_there job f g r q = elim (cases_Bool (lies_in_job job f.files q)) [
  | inl h ↦
      ap (λ b. not b && not (same (text_at q (get f.files q)) (text_at q (get g.files q)))) (ap (λ b. b || lies_in_job job g.files q) h)
  | inr h ↦ ap (λ o. not (is_left_out job f g q) && not (same (text_at q o) (text_at q (get g.files q)))) (r.files.same q h)
      ∙ ap (λ b. not (is_left_out job f g q) && not b) (same_itself (text_at q (get g.files q)))
      ∙ and-false (not (is_left_out job f g q))
]

none_differs : (job : ProcName) (f g : Flat) → SameOutside job f g → (qs : List Path) → first_that (differs job f g) qs ≡ None
none_differs job f g r [] = refl
none_differs job f g r (q ∷ qs) =
    ap (λ b. cond b (Some q) (first_that (differs job f g) qs)) (alike_there job f g r q) ∙ none_differs job f g r qs

-- no path differs between states that are the same outside the job
pub no_path_differs : (job : ProcName) (f g : Flat) → SameOutside job f g → first_path job f g ≡ None
no_path_differs job f g r = none_differs job f g r (map (λ e. e.0) ((from_list (f.files.entries ++ g.files.entries)).entries))

-- what has to be shown of each call, by its process
pub record Steps (job : ProcName) (accounts : Accounts) : Type 0 where
  pub keeps : (f : Flat) (me : ProcName) (call : UnixCall) → IsStarted job f → IsStarted job (flat_after accounts f me call)
  pub inside : (f g : Flat) (me : ProcName) (call : UnixCall) → SameOutside job f g → IsStarted job f → under_process job me ≡ true
      → SameOutside job (flat_after accounts f me call) g
  pub wrapper : (f g : Flat) (call : UnixCall) → SameOutside job f g → IsStarted job f → IsStarted job g
      → (is_rmdir_or_wrap call ≡ true
      → same (reply_text (reply_to accounts f (parent job) call)) (reply_text (reply_to accounts g (parent job) call)) ≡ true)
      → SameOutside job (flat_after accounts f (parent job) call) (flat_after accounts g (parent job) call)
  pub apart : (me : ProcName) → under_process job me ≡ true → same (parent job) me ≡ false
  pub outsider : (f g : Flat) (me : ProcName) (call : UnixCall) → SameOutside job f g → IsStarted job f → IsStarted job g
      → is_outsider job me ≡ true → SameOutside job (flat_after accounts f me call) (flat_after accounts g me call)
  pub replies : (f g : Flat) (me : ProcName) (call : UnixCall) → SameOutside job f g → IsStarted job f → IsStarted job g
      → is_outsider job me ≡ true → reply_to accounts f me call ≡ reply_to accounts g me call

-- two runs give outsiders the same replies, and end the same outside the job
pub record RunAlike (job : ProcName) (as' bs : List RepliedCall) (f g : Flat) : Type 0 where
  pub lines : first_line (outsiders job as') (outsiders job bs) ≡ None
  pub ends : SameOutside job f g

module _ (job : ProcName) (accounts : Accounts) (steps : Steps job accounts) where
  pub runs_alike : (calls : List CallLine) (f g : Flat) → SameOutside job f g → IsStarted job f → IsStarted job g
      → first_line (filter (may_reveal job) (answered_from accounts f calls)) (filter (may_reveal job) (answered_from accounts g (without job calls)))
      ≡ None →
      RunAlike job (answered_from accounts f calls) (answered_from accounts g (without job calls)) (flat_end accounts f calls)
      (flat_end accounts g (without job calls))
  runs_alike [] f g r hf hg quiet = record { lines = refl; ends = r }
  runs_alike (c ∷ calls) f g r hf hg told = elim (cases_Bool (under_process job c.process)) [
    | inl u ↦
        let away : may_reveal job first ≡ false = ap (λ b. b && is_rmdir_or_wrap c.call) (steps.apart c.process u) in
        let rest = runs_alike calls f' g (steps.inside f g c.process c.call r hf u) hf' hg (sym (drop_first away u) ∙ told) in
        record { lines = rw u rest.lines; ends = rw u rest.ends }
    | inr u ↦ elim (cases_Bool (same (parent job) c.process)) [
      | inl w ↦
          let split = holders u w told in
          let state = subst (λ me. SameOutside job (flat_after accounts f me c.call) (flat_after accounts g me c.call))
          (is_same (parent job) c.process w) (steps.wrapper f g c.call r hf hg
          (λ h. subst (λ me. same (reply_text (reply_to accounts f me c.call)) (reply_text (reply_to accounts g me c.call)) ≡ true)
          (sym (is_same (parent job) c.process w)) (split.0 h))) in
          let rest = runs_alike calls f' g' state hf' hg' split.1 in
          record { lines = rw (u, u, w) rest.lines; ends = rw u rest.ends }
      | inr w ↦
          let outside : is_outsider job c.process ≡ true = rw (u, w) refl in
          let revealed = ap reply_text (steps.replies f g c.process c.call r hf hg outside) in
          let rest = runs_alike calls f' g' (steps.outsider f g c.process c.call r hf hg outside) hf' hg'
          (sym (both_first false u (ap (λ b. b && is_rmdir_or_wrap c.call) w)) ∙ told) in
          record {
            lines = rw (u, u, w) (ap (λ b. cond b
                (first_line (outsiders job (answered_from accounts f' calls))
                (outsiders job (answered_from accounts g' (without job calls)))) (Some c.line))
                (ap (λ x. same x (reply_text (reply_to accounts g c.process c.call))) revealed ∙ same_itself
                (reply_text (reply_to accounts g c.process c.call))) ∙ rest.lines);
            ends = rw u rest.ends;
          }
    ]
  ]
    where
      f' : Flat
      f' = flat_after accounts f c.process c.call

      g' : Flat
      g' = flat_after accounts g c.process c.call

      hf' : IsStarted job f'
      hf' = steps.keeps f c.process c.call hf

      hg' : IsStarted job g'
      hg' = steps.keeps g c.process c.call hg

      first : RepliedCall
      first = record { call = c; reply = reply_to accounts f c.process c.call }

      other : RepliedCall
      other = record { call = c; reply = reply_to accounts g c.process c.call }

      -- a line of the job is in neither list
      drop_first : may_reveal job first ≡ false → under_process job c.process ≡ true
          → first_line (filter (may_reveal job) (answered_from accounts f (c ∷ calls)))
          (filter (may_reveal job) (answered_from accounts g (without job (c ∷ calls))))
          ≡ first_line (filter (may_reveal job) (answered_from accounts f' calls))
          (filter (may_reveal job) (answered_from accounts g (without job calls)))
      drop_first away u = rw (away, u) refl

      -- another line is in both, or in neither
      both_first : (b : Bool) → under_process job c.process ≡ false → may_reveal job first ≡ b
          → first_line (filter (may_reveal job) (answered_from accounts f (c ∷ calls)))
          (filter (may_reveal job) (answered_from accounts g (without job (c ∷ calls))))
          ≡ first_line (cond b (first ∷ filter (may_reveal job) (answered_from accounts f' calls))
          (filter (may_reveal job) (answered_from accounts f' calls)))
          (cond b (other ∷ filter (may_reveal job) (answered_from accounts g' (without job calls)))
          (filter (may_reveal job) (answered_from accounts g' (without job calls))))
      both_first b u e = rw (u, e) refl

      by_text : (b : Bool) → same (reply_text first.reply) (reply_text other.reply) ≡ b
          → first_line (first ∷ filter (may_reveal job) (answered_from accounts f' calls))
          (other ∷ filter (may_reveal job) (answered_from accounts g' (without job calls))) ≡ None
          → (is_rmdir_or_wrap c.call ≡ true → same (reply_text first.reply) (reply_text other.reply) ≡ true)
          × (first_line (filter (may_reveal job) (answered_from accounts f' calls))
          (filter (may_reveal job) (answered_from accounts g' (without job calls))) ≡ None)
      by_text true e h = (
        λ l. e,
        sym (ap (λ b. cond b (first_line (filter (may_reveal job) (answered_from accounts f' calls))
            (filter (may_reveal job) (answered_from accounts g' (without job calls)))) (Some c.line)) e) ∙ h,
      )
      by_text false e h =
          let never : Some c.line ≡ None = sym (ap (λ b. cond b (first_line (filter (may_reveal job) (answered_from accounts f' calls))
          (filter (may_reveal job) (answered_from accounts g' (without job calls)))) (Some c.line)) e) ∙ h in absurd (cc)

      -- what the premise says of a line of the process that started the job, and of the later ones
      holders : under_process job c.process ≡ false → same (parent job) c.process ≡ true
          → first_line (filter (may_reveal job) (answered_from accounts f (c ∷ calls)))
          (filter (may_reveal job) (answered_from accounts g (without job (c ∷ calls)))) ≡ None
          → (is_rmdir_or_wrap c.call ≡ true → same (reply_text first.reply) (reply_text other.reply) ≡ true)
          × (first_line (filter (may_reveal job) (answered_from accounts f' calls))
          (filter (may_reveal job) (answered_from accounts g' (without job calls))) ≡ None)
      holders u w told = elim (cases_Bool (is_rmdir_or_wrap c.call)) [
        | inl loud ↦ by_text (same (reply_text first.reply) (reply_text other.reply)) refl (sym (both_first true u (λ i. w i && loud i)) ∙ told)
        | inr quiet ↦ (λ h. absurd (true≢false (sym h ∙ quiet)), sym (both_first false u (λ i. w i && quiet i)) ∙ told)
      ]
