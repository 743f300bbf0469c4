-- The bytes of a name are UTF-8.
use Rattle.std.proofs.Common.{ℕ, ◌<◌, ◌&&◌, List, [], ◌∷◌, length, IsTrue, not, arith}
use Rattle.std.specs.Prelude.{nat_le, nat_lt}
use Rattle.std.specs.List.{All, list_all}
use Rattle.std.specs.Str.{IsUtf8}
use Rattle.std.proofs.lemmas.Bool.Decides.{nat_tests}
use Rattle.std.proofs.lemmas.List.Elements.{All-cons}
use Rattle.std.proofs.lemmas.Str.{IsUtf8-from_ascii}
use Rattle.std.proofs.lemmas.Str.Ascii.{IsAscii-from_all}
use Rattle.histar_flat.specs.Words.{is_name, is_name_byte, is_dots, most_word_bytes}
use Rattle.histar_flat.proofs.NamedPaths.{both_pass}

-- a byte of a name is ASCII
name_byte_is_ascii : (b : ℕ) → IsTrue (is_name_byte b) → b < 128
name_byte_is_ascii b h = grind (arith, nat_tests, h)

-- bytes of names are ASCII
bytes_are_ascii : (bs : List ℕ) → IsTrue (list_all is_name_byte bs) → All (λ b. b < 128) bs
bytes_are_ascii [] h = λ k d below. absurd (omega (arith, below))
bytes_are_ascii (b ∷ bs) h =
    let parts = both_pass (is_name_byte b) (list_all is_name_byte bs) h in
    All-cons (λ c. c < 128) b bs (name_byte_is_ascii b parts.0) (bytes_are_ascii bs parts.1)

-- a name is UTF-8
pub name_is_text : (bs : List ℕ) → IsTrue (is_name bs) → IsUtf8 bs
unfolding is_name
name_is_text bs h =
    let front = both_pass (nat_lt 0 (length bs) && nat_le (length bs) most_word_bytes && list_all is_name_byte bs) (not (is_dots bs)) h in
    let all = both_pass (nat_lt 0 (length bs) && nat_le (length bs) most_word_bytes) (list_all is_name_byte bs) front.0 in
    IsUtf8-from_ascii bs (IsAscii-from_all bs (bytes_are_ascii bs all.1))
