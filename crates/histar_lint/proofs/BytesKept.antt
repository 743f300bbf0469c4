-- A line keeps the rules for bytes if it is plain.
use Rattle.std.proofs.Common.{◌≡◌, ℕ, ◌+◌, true, false, cond, eqb, leb, List, [], ◌∷◌, length, Some, refl, ap, ◌∙◌, arith}
use Rattle.std.specs.Prelude.{is_some, nat_lt}
use Rattle.std.specs.List.{list_all}
use Rattle.std.proofs.lemmas.Bool.{and_parts}
use Rattle.std.proofs.lemmas.Bool.Decides.{nat_tests}
use Rattle.histar_flat.proofs.SplitLemmas.{lacks}
use Rattle.histar_script.specs.Lines.{is_plain, is_plain_byte, most_line_bytes}
use Rattle.histar_lint.specs.Lines.{byte_rules, ends_with, unprintable_from}
use Rattle.histar_lint.proofs.Rules.{AreKept, keep}
use Rattle.histar_lint.proofs.SpacesRight.{ends_lacks}

lacks_return : (line : List ℕ) → list_all is_plain_byte line ≡ true → lacks 13 line ≡ true
lacks_return [] all = refl
lacks_return (b ∷ line) all =
    let parts = and_parts (is_plain_byte b) (list_all is_plain_byte line) all in
    let low = (and_parts (leb 32 b) (leb b 126) parts.0).0 in
    let other : eqb b 13 ≡ false = grind (arith, nat_tests, low) in
    rw other (lacks_return line parts.1)

none_found : (n : ℕ) (line : List ℕ) → list_all is_plain_byte line ≡ true → is_some (unprintable_from n line) ≡ false
none_found n [] all = refl
none_found n (b ∷ line) all =
    let parts = and_parts (is_plain_byte b) (list_all is_plain_byte line) all in
    ap (λ plain. is_some (cond plain (unprintable_from (n + 1) line) (Some (n, b)))) parts.0 ∙ none_found (n + 1) line parts.1

pub plain_kept : (line : List ℕ) → is_plain line ≡ true → AreKept (byte_rules line)
unfolding is_plain
plain_kept line plain =
    let parts = and_parts (leb (length line) most_line_bytes) (list_all is_plain_byte line) plain in
    let short = parts.0 in
    keep (nat_lt most_line_bytes (length line)) _ _ (grind (arith, nat_tests, short))
    (keep (ends_with 13 line) _ _ (ends_lacks 13 line (lacks_return line parts.1))
    (keep (is_some (unprintable_from 1 line)) _ _ (none_found 1 line parts.1) refl))
