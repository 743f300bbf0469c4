-- The processes are a tree, and a child's jobs begin with its parent's.
use Rattle.std.specs.Prelude.{◌≡◌, ℕ, cond, List, [], ◌∷◌, ◌++◌, Some, None, refl}
use Rattle.std.proofs.Common.{ap, sym, ◌∙◌, inl, inr}
use Rattle.std.proofs.lemmas.Bool.{true≢false, or_parts, cases_Bool}
use Rattle.histar_flat.specs.declared.calls.CallLine.{CallLine}
use Rattle.histar_flat.specs.declared.calls.UnixCall.{UnixCall}
use Rattle.histar_flat.specs.Words.{ProcName}
use Rattle.histar_base.specs.Paths.{same}
use Rattle.histar_flat.specs.PathOrder.{under_process}
use Rattle.histar_flat.specs.Accounts.{Accounts}
use Rattle.histar_flat.specs.Classes.{Process}
use Rattle.histar_flat.specs.FlatState.{Flat, with_process, without_process}
use Rattle.histar_flat.specs.FlatCalls.{flat_after, inner_chain, next_child}
use Rattle.histar_flat.specs.Laws.{NamesAreGiven}
use Rattle.histar_flat.specs.Meaning.{boot, flat_end}
use Rattle.histar_flat.proofs.Changes.{EachChange, by_line, runs_is_there}
use Rattle.histar_flat.proofs.Choices.{left}
use Rattle.histar_flat.proofs.FileLemmas.{same_name_found}
use Rattle.histar_flat.proofs.GivenNames.{next_is_new}
use Rattle.histar_noninterference.proofs.Kept.{put_cases}
use Rattle.histar_secrecy.specs.Leaks.{IsFamily, ProcessesAreATree}
use Rattle.histar_secrecy.proofs.Knowing.{AreJobs, jobs_after, jobs_at_start}
use Rattle.histar_secrecy.proofs.Names.{child_of, grown, login_of, starter_of}

-- a process that is there, with jobs that begin with these
pub record IsParent (f : Flat) (me : ProcName) (chain : List ProcName) : Type 0 where
  pub process : Process
  pub there : f.processes me ≡ Some process
  pub jobs : process.chain ≡ chain

pub append_nothing : {A : Type 0} (xs : List A) → xs ++ [] ≡ xs
append_nothing [] = refl
append_nothing (x ∷ xs) = ap (λ ys. x ∷ ys) (append_nothing xs)

module _ (s : Flat) (names : NamesAreGiven s) (h : IsFamily s) (me : ProcName) (p : Process) (here : s.processes me ≡ Some p) where
  -- whatever process was there is there with the same jobs once another process has the name, if that one has the jobs of p
  still_there : (q : Process) → q.chain ≡ p.chain → (x : ProcName) (y : Process) → s.processes x ≡ Some y → IsParent (with_process s me q) x y.chain
  still_there q jobs x y there = elim (same_name_found me x) [
    | inl t ↦
        let found : Some p ≡ Some y = sym here ∙ ap s.processes t.1 ∙ there in
        let one : p ≡ y = cc in
        record { process = q; there = ap (λ b. cond b (Some q) (s.processes x)) t.0; jobs = jobs ∙ ap (λ z. z.chain) one }
    | inr t ↦ record { process = y; there = ap (λ b. cond b (Some q) (s.processes x)) t.0 ∙ there; jobs = refl }
  ]

  -- nothing has the name of the next child
  next_is_free : (y : Process) → s.processes (next_child me p) ≡ Some y → ⊥
  next_is_free y there = true≢false (sym (names.of_processes (next_child me p) y there) ∙ next_is_new s me p here)

  pub family_put : (q : Process) → q.chain ≡ p.chain → IsFamily (with_process s me q)
  family_put q jobs n x child there = elim (put_cases s me q (n ∷ x) child there) [
    | inl t ↦
        let old = h n x p (ap s.processes (sym t.0) ∙ here) in
        let new = still_there q jobs x old.0 old.1 in
        (new.process, new.there, old.2, sym (ap (λ z. z.chain) t.1) ∙ jobs ∙ old.3 ∙ ap (λ c. c ++ old.2) (sym new.jobs))
    | inr t ↦
        let old = h n x child t in
        let new = still_there q jobs x old.0 old.1 in
        (new.process, new.there, old.2, old.3 ∙ ap (λ c. c ++ old.2) (sym new.jobs))
  ]

  pub family_birth : (q child : Process) (inner : List ProcName) → q.chain ≡ p.chain → child.chain ≡ p.chain ++ inner
      → IsFamily (with_process (with_process s me q) (next_child me p) child)
  family_birth q child inner jobs born n x y there = elim (put_cases (with_process s me q) (next_child me p) child (n ∷ x) y there) [
    | inl t ↦
        let above : me ≡ x = cc in
        let parent = outer me p here in (
          parent.process,
          ap (λ k. (with_process (with_process s me q) (next_child me p) child).processes k) (sym above) ∙ parent.there,
          inner,
          sym (ap (λ z. z.chain) t.1) ∙ born ∙ ap (λ c. c ++ inner) (sym parent.jobs),
        )
    | inr t ↦ elim (put_cases s me q (n ∷ x) y t) [
      | inl u ↦
          let old = h n x p (ap s.processes (sym u.0) ∙ here) in
          let parent = outer x old.0 old.1 in
          (parent.process, parent.there, old.2, sym (ap (λ z. z.chain) u.1) ∙ jobs ∙ old.3 ∙ ap (λ c. c ++ old.2) (sym parent.jobs))
      | inr u ↦
          let old = h n x y u in
          let parent = outer x old.0 old.1 in
          (parent.process, parent.there, old.2, old.3 ∙ ap (λ c. c ++ old.2) (sym parent.jobs))
    ]
  ]
    where
      outer : (x : ProcName) (y : Process) → s.processes x ≡ Some y → IsParent (with_process (with_process s me q) (next_child me p) child) x y.chain
      outer x y there = elim (same_name_found (next_child me p) x) [
        | inl t ↦ absurd (next_is_free y (ap s.processes t.1 ∙ there))
        | inr t ↦
            let inner = still_there q jobs x y there in
            record {
              process = inner.process;
              there = ap (λ b. cond b (Some child) ((with_process s me q).processes x)) t.0 ∙ inner.there;
              jobs = inner.jobs;
            }
      ]

  family_kill : (n : ℕ) → IsFamily (without_process s (n ∷ me))
  family_kill n k x child there = elim (cases_Bool (under_process (n ∷ me) (k ∷ x))) [
    | inl u ↦ let gone : None ≡ Some child = sym (ap (λ b. cond b None (s.processes (k ∷ x))) u) ∙ there in absurd (cc)
    | inr u ↦
        let old = h k x child (left (under_process (n ∷ me) (k ∷ x)) (s.processes (k ∷ x)) child there) in
        let out = or_parts (same (n ∷ me) (k ∷ x)) (under_process (n ∷ me) x) u in
        (old.0, ap (λ b. cond b None (s.processes x)) out.1 ∙ old.1, old.2, old.3)
  ]

  family_changes : (call : UnixCall) (accounts : Accounts) → EachChange accounts s me p call IsFamily
  unfolding family_put family_birth family_kill
  family_changes call accounts = record {
    stays = h;
    makes = λ n d x walked free w own mode made_is. h;
    overwrites = λ n d bytes file w. h;
    cuts = λ n d takes w. h;
    renames = λ n k d takes ne free w. h;
    spawns = λ is. family_birth (grown p) (child_of p p.chain) [] refl (sym (append_nothing p.chain));
    exits = λ n is. family_put (record p { exited = Some n }) refl;
    logs_in = λ name is known free. family_put (login_of p name) refl;
    kills = λ n. family_kill n;
    wraps = λ n d is walked free w named. family_birth (starter_of me p) (child_of p (inner_chain me p)) (next_child me p ∷ []) refl refl;
  }

pub family_after : (accounts : Accounts) (s : Flat) → AreJobs s → IsFamily s → (me : ProcName) (call : UnixCall)
    → IsFamily (flat_after accounts s me call)
family_after accounts s jobs h me call =
    by_line accounts s me call IsFamily h (λ p runs. family_changes s jobs.names h me p (runs_is_there (s.processes me) p runs) call accounts)

family_at_start : (accounts : Accounts) → IsFamily (boot accounts)
family_at_start accounts n me child there = let gone : None ≡ Some child = there in absurd (cc)

-- In each state that calls lead to the processes are a tree.
pub processes_are_a_tree : ProcessesAreATree
processes_are_a_tree accounts calls = go calls (boot accounts) (jobs_at_start accounts) (family_at_start accounts)
  where
    go : (calls : List CallLine) (s : Flat) → AreJobs s → IsFamily s → IsFamily (flat_end accounts s calls)
    go [] s jobs h = h
    go (c ∷ calls) s jobs h =
        go calls (flat_after accounts s c.process c.call) (jobs_after accounts s jobs c.process c.call)
        (family_after accounts s jobs h c.process c.call)
