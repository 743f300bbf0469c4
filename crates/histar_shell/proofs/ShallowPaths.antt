-- No path has more names than can be named, after each line that a script can have.
use Rattle.std.proofs.Common.{◌≡◌, ℕ, ◌≤◌, Bool, true, false, [], ◌∷◌, cond, None, arith, inl, inr, ◌≢◌, refl, sym, ap, ◌∙◌}
use Rattle.std.proofs.Common.{subst, length}
use Rattle.std.specs.Prelude.{not, nat_le, ◌&&◌, IsTrue}
use Rattle.std.specs.List.{list_all}
use Rattle.std.proofs.lemmas.Bool.Decides.{nat_tests}
use mathlib.Core.Bool.{true≢false}
use Rattle.histar_flat.specs.declared.calls.UnixCall.{UnixCall}
use Rattle.histar_flat.specs.Words.{Name, Path, ProcName, most_names, is_name, is_path}
use Rattle.histar_flat.specs.PathOrder.{under_path}
use Rattle.histar_flat.specs.Accounts.{Accounts}
use Rattle.histar_flat.specs.Files.{get, empty}
use Rattle.histar_flat.specs.Classes.{Class, Process}
use Rattle.histar_flat.specs.Classes.Class.{Readable}
use Rattle.histar_flat.specs.FlatState.{Flat, Node, Content, is_some_and, bytes_at, moved, with_node, with_renamed}
use Rattle.histar_flat.specs.FlatState.{without_below}
use Rattle.histar_flat.specs.FlatState.Content.{Dir, File}
use Rattle.histar_flat.specs.Effects.{Effect, apply}
use Rattle.histar_flat.specs.Effects.Effect.{Makes, Stores, Removes, Renames, Wraps}
use Rattle.histar_flat.specs.CallRules.{path_of, rule}
use Rattle.histar_flat.specs.FlatCalls.{flat_after}
use Rattle.histar_flat.specs.RuleLaws.{Warrant}
use Rattle.histar_flat.specs.Meaning.{boot, first_user}
use Rattle.histar_flat.proofs.FileLemmas.{same_path_found, get_other, get-keep}
use Rattle.histar_flat.proofs.Renaming.{get_renamed}
use Rattle.histar_flat.proofs.Changes.{another_name, by_rule}
use Rattle.histar_flat.specs.Calls.{CanBeNamed, IsCall}
use Rattle.histar_readout.specs.Laws.{AreShallow}

-- a path that can be named has no more names
short_path : (q : Path) → IsTrue (is_path q) → length q ≤ most_names
short_path q can = by (nat_le (length q) most_names) refl can
  where
    by : (b : Bool) → nat_le (length q) most_names ≡ b → IsTrue (b && list_all is_name q) → length q ≤ most_names
    by true e h = grind (arith, nat_tests, e)
    by false e h = absurd cc

-- a path that leads elsewhere has as many names, where both ends have
same_length : (old new : Path) → length old ≡ length new → (r : Path) → length (moved old new r) ≡ length r
same_length old new same [] = refl
same_length old new same (n ∷ d) = elim (same_path_found old (n ∷ d)) [
  | inl t ↦ ap (λ b. length (cond b new (n ∷ moved old new d))) t.0 ∙ sym same ∙ ap length t.1
  | inr t ↦ ap (λ b. length (cond b new (n ∷ moved old new d))) t.0 ∙ omega (arith, same_length old new same d)
]

module _ (f : Flat) (shallow : AreShallow f) where
  shallow_put : (q : Path) (class : Class) (content : Content) → length q ≤ most_names → AreShallow (with_node f q class content)
  shallow_put q class content fits r at =
      let node : Node = record { class = class; content = content } in
      elim (same_path_found q r) [
        | inl same ↦ subst (λ (p : Path). length p ≤ most_names) same.1 fits
        | inr differs ↦ shallow r (ap (λ o. is_some_and o (λ n. true)) (sym (get_other f.files q node r (λ e. differs.1 (sym e)))) ∙ at)
      ]

  -- what is left is as it was
  shallow_cut : (q : Path) → AreShallow (without_below f q)
  shallow_cut q r at = by (not (under_path q r)) (ap (λ o. is_some_and o (λ n. true)) (sym (get-keep f.files (λ t. not (under_path q t)) r)) ∙ at)
    where
      by : (b : Bool) → is_some_and (cond b (get f.files r) None) (λ n. true) ≡ true → length r ≤ most_names
      by true e = shallow r e
      by false e = absurd (true≢false (sym e))

  -- a path that is renamed has no more names
  shallow_renamed : (n k : Name) (d : Path) → n ≢ k → ((r : Path) → under_path (k ∷ d) r ≡ true → get f.files r ≡ None)
      → AreShallow (with_renamed f (n ∷ d) (k ∷ d))
  shallow_renamed n k d apart free r at =
      by (under_path (n ∷ d) r)
      (ap (λ o. is_some_and o (λ x. true)) (sym (get_renamed n k d apart f.files free r)) ∙ at)
    where
      by : (b : Bool) → is_some_and (cond b None (get f.files (moved (k ∷ d) (n ∷ d) r))) (λ x. true) ≡ true → length r ≤ most_names
      by true e = absurd (true≢false (sym e))
      by false e = subst (λ (l : ℕ). l ≤ most_names) (same_length (k ∷ d) (n ∷ d) refl r) (shallow (moved (k ∷ d) (n ∷ d) r) e)

  module _ (accounts : Accounts) (me : ProcName)
      (below : (top : Path) → get f.files top ≡ None → (r : Path) → under_path top r ≡ true → get f.files r ≡ None)
    where
      -- an effect that has its warrant, of a call that a line can make
      shallow_effect : (p : Process) (q : Path) (effect : Effect) → Warrant accounts f me p q effect → CanBeNamed q effect
          → AreShallow (apply accounts f me p q effect)
      shallow_effect p q (Makes content mode) may can = shallow_put q _ (content) (short_path q can)
      shallow_effect p q (Stores new) may can = shallow_put q _ (File (new (bytes_at f q))) (short_path q can)
      shallow_effect p q Removes may can = shallow_cut q
      shallow_effect p [] (Renames k) may can = absurd (true≢false (sym may.0))
      shallow_effect p (n ∷ d) (Renames k) may can = shallow_renamed n k d (another_name f n k d may.1 may.2) (below (k ∷ d) may.2)
      shallow_effect p q Wraps may can = shallow_put q _ Dir (short_path q can)
      shallow_effect p q _ may can = shallow

      -- no path has more names than can be named after each line
      pub shallow_after : (call : UnixCall) → IsCall call → AreShallow (flat_after accounts f me call)
      shallow_after call can = by_rule accounts f me call AreShallow shallow
          (λ p there may. shallow_effect p (path_of call) (rule call).effect may can)

-- at the start there is `/` alone
pub shallow_at_start : (accounts : Accounts) → AreShallow (boot accounts)
shallow_at_start accounts =
    shallow_put (record { files = empty; processes = (boot accounts).processes }) (λ q at. absurd (true≢false (sym at)))
    [] (Readable (first_user accounts.users)) Dir (omega arith)
