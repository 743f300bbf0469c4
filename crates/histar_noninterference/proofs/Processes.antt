-- Process calls of outsiders, and of the process that started the job.
use Rattle.std.specs.Prelude.{Bool, List, None, Option, Some, [], cond, false, is_some, nat_eq, refl, true, ℕ, ◌||◌, ◌∷◌, ◌≡◌, ◌⊎◌}
use Rattle.std.proofs.Common.{ap, inl, inr, subst, sym, ◌∙◌}
use Rattle.std.proofs.lemmas.Bool.{or_parts, true≢false, cases_Bool}
use Rattle.std.specs.List.{list_all}
use Rattle.histar_base.specs.Refusals.{unless, ◌orelse◌}
use Rattle.histar_flat.specs.declared.calls.UnixCall.TheVariants.{Kill, Status}
use Rattle.histar_flat.specs.declared.replies.Errno.{Errno}
use Rattle.histar_flat.specs.declared.replies.Errno.TheVariants.{EACCES, ESRCH}
use Rattle.histar_flat.specs.Classes.{Process, knows, sees}
use Rattle.histar_flat.specs.FlatCalls.{is_child, not_found, refused}
use Rattle.histar_flat.specs.FlatState.{Flat, is_some_and, without_process}
use Rattle.histar_base.specs.Paths.{same}
use Rattle.histar_flat.specs.PathOrder.{under_process}
use Rattle.histar_flat.specs.Accounts.{Accounts, has}
use Rattle.histar_flat.specs.Words.{ProcName}
use Rattle.histar_flat.proofs.FileLemmas.{same_name_found}
use Rattle.histar_flat.proofs.Under.{above_is_not_under}
use Rattle.histar_noninterference.proofs.Relation.{IsStarted, SameOutside, chain_of}
use Rattle.histar_noninterference.proofs.TestLemmas.{all_of, failed, guarded, is_same, not_passed, stops_later}

-- the tests of one process on the search
at_process : Process → Option Process → Option Errno
at_process p x = unless (is_some x) ESRCH orelse unless (is_some_and x (sees p)) EACCES

found_step : (f : Flat) (p : Process) (n : ℕ) (q : ProcName)
    → not_found f p (n ∷ q) ≡ (not_found f p q orelse at_process p (f.processes (n ∷ q)))
unfolding at_process
found_step f p n q = refl

-- the tests see of a process only whether it is there, and its jobs
by_chain : Process → Option (List ProcName) → Option Errno
by_chain p x = unless (is_some x) ESRCH orelse unless (is_some_and x (list_all (knows p))) EACCES

at_process_chain : (p : Process) (x : Option Process) → at_process p x ≡ by_chain p (chain_of x)
unfolding at_process by_chain
at_process_chain p None = refl
at_process_chain p (Some q) = refl

-- a process of the job stops the search of an outsider
closed_process : (job : ProcName) (p : Process) (x : Option Process) → knows p job ≡ false
    → ((q : Process) → x ≡ Some q → has q.chain job ≡ true) → is_some (at_process p x) ≡ true
unfolding at_process
closed_process job p None o h = refl
closed_process job p (Some q) o h = failed (sees p q) EACCES (by (sees p q) refl)
  where
    by : (b : Bool) → sees p q ≡ b → sees p q ≡ false
    by true e = absurd (true≢false (sym (all_of (knows p) q.chain job e (h q refl)) ∙ o))
    by false e = e

module _ (m : ℕ) (w : ProcName) (f g : Flat) (r : SameOutside (m ∷ w) f g) (hf : IsStarted (m ∷ w) f) (p : Process) where
  -- each process up to the job's first one is found alike
  at_alike : (q : ProcName) → (under_process (m ∷ w) q ≡ false) ⊎ (m ∷ w ≡ q) → at_process p (f.processes q) ≡ at_process p (g.processes q)
  at_alike q (inl h) = ap (at_process p) (r.processes q h)
  at_alike q (inr e) =
      at_process_chain p (f.processes q) ∙ ap (by_chain p) (subst (λ x. chain_of (f.processes x) ≡ chain_of (g.processes x)) e r.chain)
      ∙ sym (at_process_chain p (g.processes q))

  -- any process finds alike what isn't below the job
  pub found_alike : (q : ProcName) → under_process (m ∷ w) q ≡ false → not_found f p q ≡ not_found g p q
  found_alike [] h = refl
  found_alike (n ∷ q) h =
      let up = (or_parts (same (m ∷ w) (n ∷ q)) (under_process (m ∷ w) q) h).1 in
      found_step f p n q ∙ guarded (not_found f p q) (not_found g p q) _ _ (found_alike q up) (λ _. at_alike (n ∷ q) (inl h))
      ∙ sym (found_step g p n q)

  -- any process finds the job itself alike
  pub job_found_alike : not_found f p (m ∷ w) ≡ not_found g p (m ∷ w)
  job_found_alike =
      found_step f p m w
      ∙ guarded (not_found f p w) (not_found g p w) _ _ (found_alike w (above_is_not_under nat_eq same_name_found w m))
      (λ _. at_alike (m ∷ w) (inr refl))
      ∙ sym (found_step g p m w)

  -- an outsider finds no process of the job
  pub job_not_found : knows p (m ∷ w) ≡ false → (q : ProcName) → under_process (m ∷ w) q ≡ true → is_some (not_found f p q) ≡ true
  job_not_found o [] h = absurd (true≢false (sym h))
  job_not_found o (n ∷ q) h = ap is_some (found_step f p n q) ∙ stops_later (not_found f p q) (at_process p (f.processes (n ∷ q)))
      (closed_process (m ∷ w) p (f.processes (n ∷ q)) o (λ x e. hf.inside (n ∷ q) x e ∙ h))

  pub outsider_finds : knows p (m ∷ w) ≡ false → (q : ProcName) → not_found f p q ≡ not_found g p q
  outsider_finds o [] = refl
  outsider_finds o (n ∷ q) = elim (cases_Bool (under_process (m ∷ w) (n ∷ q))) [
    | inr h ↦ found_alike (n ∷ q) h
    | inl h ↦ elim (cases_Bool (under_process (m ∷ w) q)) [
      | inl up ↦ found_step f p n q
          ∙ guarded (not_found f p q) (not_found g p q) _ _ (outsider_finds o q)
          (λ found. absurd (not_passed (not_found f p q) (job_not_found o q up) found))
          ∙ sym (found_step g p n q)
      | inr up ↦
          subst (λ x. not_found f p x ≡ not_found g p x) (is_same (m ∷ w) (n ∷ q) (first (same (m ∷ w) (n ∷ q)) up h)) job_found_alike
    ]
  ]
    where
      first : (a : Bool) → under_process (m ∷ w) q ≡ false → (a || under_process (m ∷ w) q) ≡ true → a ≡ true
      first true up i = refl
      first false up i = absurd (true≢false (sym i ∙ up))

  module _ (accounts : Accounts) (me : ProcName) (o : knows p (m ∷ w) ≡ false) where
    pub status_alike : (q : ProcName) → refused accounts f me p (Status q) ≡ refused accounts g me p (Status q)
    status_alike q = outsider_finds o q

    pub kill_alike : (q : ProcName) → refused accounts f me p (Kill q) ≡ refused accounts g me p (Kill q)
    kill_alike q = ap (λ x. x orelse unless (is_child me q) EACCES) (outsider_finds o q)

  -- a kill of the same process keeps the states the same outside the job
  pub kill_state : (q : ProcName) → SameOutside (m ∷ w) (without_process f q) (without_process g q)
  kill_state q = record {
    files = r.files;
    processes = λ x h i. cond (under_process q x) None (r.processes x h i);
    chain = cut (under_process q (m ∷ w)) (f.processes (m ∷ w)) ∙ (λ i. cond (under_process q (m ∷ w)) None (r.chain i)) ∙ sym
        (cut (under_process q (m ∷ w)) (g.processes (m ∷ w)));
  }
    where
      cut : (b : Bool) (x : Option Process) → chain_of (cond b None x) ≡ cond b None (chain_of x)
      cut true x = refl
      cut false x = refl
