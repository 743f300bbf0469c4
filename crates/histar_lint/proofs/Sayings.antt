-- The sentences of the parts of a line, one after another.
use Rattle.std.proofs.Common.{◌≡◌, ℕ, true, false, List, ◌∷◌, ◌++◌, Option, Some, None, Result, sym, ap, ◌∙◌}
use Rattle.std.specs.Prelude.{IfOk, is_some, option_map}
use Rattle.std.proofs.lemmas.Result.{IfOk-weaker}
use Rattle.histar_flat.specs.declared.calls.CallLine.{CallLine}
use Rattle.histar_flat.specs.Accounts.{Accounts}
use Rattle.histar_script.specs.Script.{ScriptModel}
use Rattle.histar_lint.specs.Lines.{Rule, first_sentence}
use Rattle.histar_lint.specs.Rules.{read_so_far, sentence}
use Rattle.histar_lint.specs.Session.{said_of}
use Rattle.histar_lint.proofs.Rules.{said_behind, said_in_front}

module _ {V : Type 0} (items : V → List ℕ) (rules others : List Rule) (o : Option V) (said : option_map items o ≡ first_sentence rules) where
  -- the sentence of the first rules
  pub front_says : (v : V) → o ≡ Some v → Some (items v) ≡ first_sentence (rules ++ others)
  front_says v is = sym (said_in_front rules others (items v) (sym said ∙ ap (option_map items) is))

  -- the first rules have no sentence
  pub behind_is : o ≡ None → first_sentence (rules ++ others) ≡ first_sentence others
  behind_is none = said_behind rules others (sym said ∙ ap (option_map items) none)

  -- so the sentence is that of the later ones
  pub behind_says : {E : Type 0} (r : Result (Option V) E) → o ≡ None
      → IfOk r (λ more. option_map items more ≡ first_sentence others)
      → IfOk r (λ more. option_map items more ≡ first_sentence (rules ++ others))
  behind_says r none more = IfOk-weaker r _ _ (λ given is. is ∙ sym (behind_is none)) more

-- an optional sentence that is there
pub unpacked : {V : Type 0} (items : V → List ℕ) (o : Option V) (v : V) (x : Option (List ℕ)) → x ≡ option_map items o
    → o ≡ Some v → x ≡ Some (items v)
unpacked items o v x same is = same ∙ ap (option_map items) is

-- an optional sentence that isn't
pub none_unpacked : {V : Type 0} (items : V → List ℕ) (o : Option V) (x : Option (List ℕ)) → x ≡ option_map items o → o ≡ None → is_some x ≡ true → ⊥
none_unpacked items o x same is some = let wrong : is_some x ≡ false = ap is_some (same ∙ ap (option_map items) is) in absurd cc

-- the sentence for the first bad line of the rest
pub said_is : (all rest after : List (List ℕ)) (s : ScriptModel) (accounts : Accounts) (calls : List CallLine) (line : List ℕ) (o : Option (List ℕ))
    → accounts ≡ s.accounts → calls ≡ s.calls → rest ≡ line ∷ after → o ≡ sentence all (read_so_far accounts calls) line → said_of all s rest ≡ o
said_is all rest after s accounts calls line o same_accounts same_calls parts is =
    let one : read_so_far accounts calls ≡ read_so_far s.accounts calls = ap (λ (x : Accounts). read_so_far x calls) same_accounts in
    let two : read_so_far s.accounts calls ≡ s = ap (read_so_far s.accounts) same_calls in
    ap (said_of all s) parts ∙ sym (is ∙ ap (λ (x : ScriptModel). sentence all x line) (one ∙ two))
