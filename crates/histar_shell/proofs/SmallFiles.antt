-- Each file holds as many bytes as a segment can hold, after each line that a script can have.
use Rattle.std.proofs.Common.{◌≡◌, ℕ, ◌≤◌, Bool, true, false, List, [], ◌∷◌, cond, None, Some, arith, inl, inr, ◌≢◌, refl, sym, ap, ◌∙◌}
use Rattle.std.proofs.Common.{subst, length}
use Rattle.std.specs.Prelude.{not, nat_le}
use Rattle.std.proofs.lemmas.Bool.Decides.{nat_tests}
use Rattle.std.proofs.lemmas.Option.{same_Some}
use mathlib.Core.Bool.{true≢false}
use Rattle.histar_flat.specs.declared.calls.UnixCall.{UnixCall}
use Rattle.histar_flat.specs.Words.{Name, Path, ProcName}
use Rattle.histar_flat.specs.PathOrder.{under_path}
use Rattle.histar_flat.specs.Accounts.{Accounts}
use Rattle.histar_flat.specs.Files.{get, insert, empty}
use Rattle.histar_flat.specs.Classes.{Class, Process}
use Rattle.histar_flat.specs.Classes.Class.{Readable}
use Rattle.histar_flat.specs.FlatState.{Flat, Node, Content, bytes_at, moved, with_node, with_renamed, without_below}
use Rattle.histar_flat.specs.FlatState.Content.{Dir, File}
use Rattle.histar_flat.specs.Effects.{Effect, apply}
use Rattle.histar_flat.specs.Effects.Effect.{Makes, Stores, Removes, Renames, Wraps}
use Rattle.histar_flat.specs.CallRules.{path_of, rule}
use Rattle.histar_flat.specs.FlatCalls.{most_bytes, flat_after}
use Rattle.histar_flat.specs.RuleLaws.{IsBlank, Warrant}
use Rattle.histar_flat.specs.Meaning.{boot, first_user}
use Rattle.histar_flat.proofs.FileLemmas.{same_path_found, get_new, get_other, get-keep}
use Rattle.histar_flat.proofs.Renaming.{get_renamed}
use Rattle.histar_flat.proofs.Changes.{another_name, by_rule}
use Rattle.histar_sim.specs.Simulation.{AreFilesSmall}

-- what is put at a path is a directory, or a file that is small enough
abbrev IsSmall : Content → Type 0
IsSmall Dir = Unit {0}
IsSmall (File bytes) = length bytes ≤ most_bytes

-- a file that is the content of what is there is small enough
same_content : (class other : Class) (content : Content) (bytes : List ℕ) (a b : Node)
    → a ≡ record { class = class; content = content } → b ≡ record { class = other; content = File bytes }
    → Some a ≡ Some b → IsSmall content → length bytes ≤ most_bytes
same_content class other content bytes a b is_a is_b same fits =
    subst IsSmall (ap (λ (n : Node). n.content) (sym is_a ∙ same_Some a b same ∙ is_b)) fits

-- what has no bytes is small enough
blank_is_small : (content : Content) → IsBlank content → IsSmall content
blank_is_small Dir blank = tt
blank_is_small (File []) blank = grind arith
blank_is_small (File (b ∷ bytes)) blank = absurd blank

module _ (f : Flat) (small : AreFilesSmall f) where
  small_put : (q : Path) (class : Class) (content : Content) → IsSmall content → AreFilesSmall (with_node f q class content)
  small_put q class content fits r other bytes at =
      let node : Node = record { class = class; content = content } in
      let file : Node = record { class = other; content = File bytes } in
      elim (same_path_found q r) [
        | inl same ↦
            same_content class other content bytes node file refl refl
            (sym (ap (get (insert f.files q node)) (sym same.1) ∙ get_new f.files q node) ∙ at) fits
        | inr differs ↦ small r other bytes (sym (get_other f.files q node r (λ e. differs.1 (sym e))) ∙ at)
      ]

  -- what is left is as it was
  small_cut : (q : Path) → AreFilesSmall (without_below f q)
  small_cut q r class bytes at = by (not (under_path q r)) (sym (get-keep f.files (λ t. not (under_path q t)) r) ∙ at)
    where
      by : (b : Bool) → cond b (get f.files r) None ≡ Some (record { class = class; content = File bytes }) → length bytes ≤ most_bytes
      by true e = small r class bytes e
      by false e = absurd cc

  -- a file that is renamed stays small
  small_renamed : (n k : Name) (d : Path) → n ≢ k → ((r : Path) → under_path (k ∷ d) r ≡ true → get f.files r ≡ None)
      → AreFilesSmall (with_renamed f (n ∷ d) (k ∷ d))
  small_renamed n k d apart free r class bytes at = by (under_path (n ∷ d) r) (sym (get_renamed n k d apart f.files free r) ∙ at)
    where
      by : (b : Bool)
          → cond b None (get f.files (moved (k ∷ d) (n ∷ d) r)) ≡ Some (record { class = class; content = File bytes })
          → length bytes ≤ most_bytes
      by true e = absurd cc
      by false e = small (moved (k ∷ d) (n ∷ d) r) class bytes e

  module _ (accounts : Accounts) (me : ProcName)
      (below : (top : Path) → get f.files top ≡ None → (r : Path) → under_path top r ≡ true → get f.files r ≡ None)
    where
      fits_test : (n : ℕ) → nat_le n most_bytes ≡ true → n ≤ most_bytes
      fits_test n e = grind (arith, nat_tests, e)

      -- an effect that has its warrant
      small_effect : (p : Process) (q : Path) (effect : Effect) → Warrant accounts f me p q effect → AreFilesSmall (apply accounts f me p q effect)
      small_effect p q (Makes content mode) may = small_put q _ content (blank_is_small content may.4)
      small_effect p q (Stores new) may = small_put q _ (File (new (bytes_at f q))) (fits_test (length (new (bytes_at f q))) may.5)
      small_effect p q Removes may = small_cut q
      small_effect p [] (Renames k) may = absurd (true≢false (sym may.0))
      small_effect p (n ∷ d) (Renames k) may = small_renamed n k d (another_name f n k d may.1 may.2) (below (k ∷ d) may.2)
      small_effect p q Wraps may = small_put q _ Dir tt
      small_effect p q _ may = small

      -- files stay small after each line
      pub small_after : (call : UnixCall) → AreFilesSmall (flat_after accounts f me call)
      small_after call = by_rule accounts f me call AreFilesSmall small (λ p there may. small_effect p (path_of call) (rule call).effect may)

-- nothing is no file
nothing_here : {Revealed : Type 0} (node : Node) → None ≡ Some node → Revealed
nothing_here node e = absurd cc

-- at the start there is no file
pub small_at_start : (accounts : Accounts) → AreFilesSmall (boot accounts)
small_at_start accounts =
    small_put (record { files = empty; processes = (boot accounts).processes })
    (λ q class bytes at. nothing_here (record { class = class; content = File bytes }) at) []
    (Readable (first_user accounts.users)) Dir tt
