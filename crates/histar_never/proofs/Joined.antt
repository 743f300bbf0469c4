-- In a state that is represented the process above one that is there is there.
use Rattle.std.specs.Prelude.{◌≡◌, ℕ, true, false, [], ◌∷◌, Option, None, Some, is_some, option_and_then, option_map, refl}
use Rattle.std.proofs.Common.{ap, sym, ◌∙◌}
use Rattle.std.proofs.lemmas.Bool.{true≢false}
use Rattle.histar_flat.specs.Accounts.{Accounts}
use Rattle.histar_flat.specs.Classes.{Process}
use Rattle.histar_flat.specs.FlatState.{Flat}
use Rattle.histar_flat.specs.Words.{ProcName}
use Rattle.histar_object.specs.State.{State}
use Rattle.histar_programs.specs.declared.roots.Home.{Home}
use Rattle.histar_programs.specs.Caller.{child_home}
use Rattle.histar_refinement.specs.Represents.{ObjectsMatch}
use Rattle.histar_refinement.proofs.CallerFound.{home_is, where_is}
use Rattle.histar_rights.proofs.Named.{AreJoined}

-- what is mapped is there exactly if it was
mapped_there : {A B : Type 0} (h : A → B) (o : Option A) → is_some (option_map h o) ≡ is_some o
mapped_there h None = refl
mapped_there h (Some x) = refl

module _ (accounts : Accounts) (s : State) (f : Flat) (l : ObjectsMatch accounts s f) where
  -- a process is found in the container of the one above it
  none_below : (n : ℕ) (me : ProcName) → f.processes me ≡ None → is_some (f.processes (n ∷ me)) ≡ false
  none_below n me gone =
      sym (mapped_there (λ (p : Process). where_is accounts s f l (n ∷ me)) (f.processes (n ∷ me)))
      ∙ ap is_some (sym (home_is accounts s f l (n ∷ me)))
      ∙ ap (λ (o : Option Home). is_some (option_and_then (λ (home : Home). child_home s home n) o))
      (home_is accounts s f l me ∙ ap (option_map (λ (p : Process). where_is accounts s f l me)) gone)

  pub joined : AreJoined f
  joined [] there = tt
  joined (n ∷ me) there = by (f.processes me) refl
    where
      by : (o : Option Process) → f.processes me ≡ o → is_some (f.processes me) ≡ true
      by None gone = absurd (true≢false (sym there ∙ none_below n me gone))
      by (Some p) is = ap is_some is
