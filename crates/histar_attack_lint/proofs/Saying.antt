-- The sentence for the first of the lines that are left.
use Rattle.std.proofs.Common.{◌≡◌, ℕ, List, ◌∷◌, Option, sym, ap, ◌∙◌}
use Rattle.histar_flat.specs.declared.calls.CallLine.{CallLine}
use Rattle.histar_flat.specs.Accounts.{Accounts}
use Rattle.histar_script.specs.Script.{ScriptModel}
use Rattle.histar_lint.specs.Rules.{read_so_far}
use Rattle.histar_attack_lint.specs.Rules.{mixed_sentence}
use Rattle.histar_attack_lint.specs.Session.{said_of}

-- it is the one of the line, given the parts of the script above it
pub said_is : (all rest after : List (List ℕ)) (s : ScriptModel) (accounts : Accounts) (calls : List CallLine) (line : List ℕ)
    (o : Option (List ℕ))
    → accounts ≡ s.accounts → calls ≡ s.calls → rest ≡ line ∷ after → o ≡ mixed_sentence all (read_so_far accounts calls) line
    → said_of all s rest ≡ o
said_is all rest after s accounts calls line o same_accounts same_calls parts is =
    let one : read_so_far accounts calls ≡ read_so_far s.accounts calls = ap (λ (x : Accounts). read_so_far x calls) same_accounts in
    let two : read_so_far s.accounts calls ≡ s = ap (read_so_far s.accounts) same_calls in
    ap (said_of all s) parts ∙ sym (is ∙ ap (λ (x : ScriptModel). mixed_sentence all x line) (one ∙ two))
