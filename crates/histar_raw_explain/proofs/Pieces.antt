-- Text that is written piece by piece.
use Rattle.std.proofs.Common.{◌≡◌, ℕ, List, ◌++◌, Result, Ok, Err, is_ok, if◌then◌else◌, ap, ◌∙◌, append_assoc}
use Rattle.std.specs.Prelude.{OnOk}

-- two pieces, one after the other
pub two_pieces : {X E : Type 0} (r : Result X E) (new mid old a b : List ℕ) → mid ≡ old ++ a → OnOk r (new ≡ mid ++ b)
    → OnOk r (new ≡ old ++ (a ++ b))
two_pieces (Ok x) new mid old a b first second = second ∙ ap (λ l. l ++ b) first ∙ append_assoc old a b
two_pieces (Err e) new mid old a b first second = second

-- three pieces, of which the last is written if there was no error
pub three_pieces : {X E : Type 0} (r : Result X E) (new last mid old a b c : List ℕ) → mid ≡ old ++ a → last ≡ mid ++ b
    → new ≡ (if is_ok r then last ++ c else last) → OnOk r (new ≡ old ++ ((a ++ b) ++ c))
three_pieces (Ok x) new last mid old a b c first second third =
    third ∙ ap (λ l. l ++ c) (second ∙ ap (λ l. l ++ b) first ∙ append_assoc old a b) ∙ append_assoc old (a ++ b) c
three_pieces (Err e) new last mid old a b c first second third = tt
