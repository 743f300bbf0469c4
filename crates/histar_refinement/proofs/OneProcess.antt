-- A part of 'at most one flat state': the labels of a running process determine its user, the jobs that it is in and those that it holds.
use Rattle.std.proofs.Common.{◌≡◌, ℕ, inl, inr, Bool, true, false, List, Option, None, Some, arith, refl, sym, ap, ◌∙◌}
use Rattle.std.specs.Prelude.{map, is_some, nat_eq}
use Rattle.std.proofs.lemmas.Bool.Decides.{nat_tests}
use mathlib.Core.Bool.{true≢false}
use Rattle.histar_flat.specs.Words.{ProcName}
use Rattle.histar_level.specs.Level.{rank}
use Rattle.histar_level.specs.Levels.{Levels, level_of}
use Rattle.histar_level.specs.declared.level.Level.TheVariants.{Star, L1}
use Rattle.histar_flat.specs.Accounts.{Accounts, has, user_number}
use Rattle.histar_flat.specs.Classes.{Process, nobody}
use Rattle.histar_refinement.specs.Categories.{CategoryName, Categories, AreDifferent, among}
use Rattle.histar_refinement.specs.Categories.CategoryName.{ReadsUser, OfJob}
use Rattle.histar_refinement.specs.Guards.{guard_label, rights_label}
use Rattle.histar_refinement.specs.Labels.{process_guard, thread_rights}
use Rattle.histar_refinement.specs.Represents.{IsProcess}
use Rattle.histar_layout.proofs.LabelLevels.{at_owning, owning_level}
use Rattle.histar_refinement.proofs.CategoryTests.{among_none, among_jobs, is_in_names}
use Rattle.histar_refinement.proofs.AccountLemmas.{is_number, is_owner}
use Rattle.histar_layout.proofs.Declared.{equal_names}
use Rattle.histar_refinement.proofs.ClassTests.{owns_job, owns_read_of}
use Rattle.histar_refinement.proofs.OneChain.{one_jobs, one_chain}

revealed_owned : (o u : Bool) → owning_level o false ≡ owning_level u false → o ≡ u
revealed_owned true true e = refl
revealed_owned true false e = let k : rank Star ≡ rank L1 = ap rank e in absurd (omega (arith, k))
revealed_owned false true e = let k : rank L1 ≡ rank Star = ap rank e in absurd (omega (arith, k))
revealed_owned false false e = refl

one_number : (a b : Option ℕ) → ((i : ℕ) → is_number a i ≡ is_number b i) → a ≡ b
one_number None None alike = refl
one_number None (Some j) alike = let e : nat_eq j j ≡ true = grind (arith, nat_tests) in absurd (true≢false (sym e ∙ sym (alike j)))
one_number (Some j) None alike = let e : nat_eq j j ≡ true = grind (arith, nat_tests) in absurd (true≢false (sym e ∙ alike j))
one_number (Some j) (Some k) alike =
    let e : nat_eq j j ≡ true = grind (arith, nat_tests) in
    let f : nat_eq j k ≡ true = sym (alike j) ∙ e in
    let same_one : j ≡ k = grind (arith, nat_tests, f) in
    ap (λ (x : ℕ). Some x) same_one

module _ (accounts : Accounts) (category : Categories) (different : AreDifferent category) (me : ProcName)
    (p q : Process) (p_runs : p.exited ≡ None) (q_runs : q.exited ≡ None) (of_p : IsProcess accounts category p)
    (of_q : IsProcess accounts category q)
    (guards : guard_label category (process_guard me p) ≡ guard_label category (process_guard me q))
    (rights : rights_label category (thread_rights accounts me p)
    ≡ rights_label category (thread_rights accounts me q)) where
  pub one_chain_then : p.chain ≡ q.chain
  one_chain_then = one_chain category different me p q of_p.chain of_q.chain guards

  owned_alike : (c : CategoryName) → among (map OfJob p.chain) c ≡ false → among (map OfJob q.chain) c ≡ false
      → among (thread_rights accounts me p).owned c ≡ among (thread_rights accounts me q).owned c
  owned_alike c not_p not_q = revealed_owned (among (thread_rights accounts me p).owned c) (among (thread_rights accounts me q).owned c)
      (sym (level_for p not_p) ∙ ap (λ (l : Levels). level_of l (category c)) rights ∙ level_for q not_q)
    where
      level_for : (x : Process) → among (map OfJob x.chain) c ≡ false
          → level_of (rights_label category (thread_rights accounts me x)) (category c)
          ≡ owning_level (among (thread_rights accounts me x).owned c) false
      level_for x none_there =
          at_owning (map category (thread_rights accounts me x).owned) (map category (map OfJob x.chain)) (category c)
          ∙ (λ i. owning_level (is_in_names category different (thread_rights accounts me x).owned c i)
          ((is_in_names category different (map OfJob x.chain) c ∙ none_there) i))

  held_alike : (job : ProcName) → has p.held job ≡ has q.held job
  held_alike job = by (has p.chain job) refl
    where
      by : (b : Bool) → has p.chain job ≡ b → has p.held job ≡ has q.held job
      by true e = of_p.apart p_runs job e ∙ sym (of_q.apart q_runs job (ap (λ (jobs : List ProcName). has jobs job) (sym one_chain_then) ∙ e))
      by false e =
          sym (owns_job accounts me p job)
          ∙ owned_alike (OfJob job) (among_jobs p.chain job ∙ e)
          (among_jobs q.chain job ∙ ap (λ (jobs : List ProcName). has jobs job) (sym one_chain_then) ∙ e)
          ∙ owns_job accounts me q job

  pub one_held : p.held ≡ q.held
  one_held = one_jobs category different p.held q.held (of_p.held p_runs) (of_q.held q_runs) held_alike

  same_user_number : user_number accounts p.user ≡ user_number accounts q.user
  same_user_number = one_number (user_number accounts p.user) (user_number accounts q.user) (λ i.
      sym (owns_read_of accounts me p i)
      ∙ owned_alike (ReadsUser i) (among_none OfJob (ReadsUser i) (λ job. refl) p.chain)
      (among_none OfJob (ReadsUser i) (λ job. refl) q.chain) ∙ owns_read_of accounts me q i)

  pub one_user : p.user ≡ q.user
  one_user = by (user_number accounts q.user) refl
    where
      is_nobody : (x : Process) → x.exited ≡ None → IsProcess accounts category x → user_number accounts x.user ≡ None → x.user ≡ nobody
      is_nobody x runs of_x none_there = elim (of_x.someone runs) [ inl e ↦ e | inr e ↦ absurd (true≢false (sym e ∙ ap is_some none_there)) ]

      by : (number : Option ℕ) → user_number accounts q.user ≡ number → p.user ≡ q.user
      by None is = is_nobody p p_runs of_p (same_user_number ∙ is) ∙ sym (is_nobody q q_runs of_q is)
      by (Some i) is =
          let here : nat_eq i i ≡ true = grind (arith, nat_tests) in
          equal_names p.user q.user (sym (is_owner accounts p.user q.user i is) ∙ ap (λ (x : Option ℕ). is_number x i) (same_user_number ∙ is) ∙ here)
