-- Names and passwords are short.
use Rattle.std.proofs.Common.{ℕ, ◌≤◌, not, ltb, leb, ◌&&◌, List, length, IsTrue}
use Rattle.std.specs.List.{list_all}
use Rattle.std.proofs.lemmas.Bool.{leb-true, and_parts}
use Rattle.histar_flat.specs.Words.{most_word_bytes, is_name, is_password, is_name_byte, is_password_byte, is_dots}

-- a name has at most 32 bytes
pub short_name : (bs : List ℕ) → IsTrue (is_name bs) → length bs ≤ most_word_bytes
unfolding is_name
short_name bs h =
    let most =
    and_parts (ltb 0 (length bs) && leb (length bs) 32) (list_all is_name_byte bs)
    (and_parts (ltb 0 (length bs) && leb (length bs) 32 && list_all is_name_byte bs) (not (is_dots bs)) h).0 in
    leb-true (length bs) 32 (and_parts (ltb 0 (length bs)) (leb (length bs) 32) most.0).1

-- a password has at most 32 bytes
pub short_password : (bs : List ℕ) → IsTrue (is_password bs) → length bs ≤ most_word_bytes
unfolding is_password
short_password bs h =
    leb-true (length bs) 32 (and_parts (ltb 0 (length bs)) (leb (length bs) 32)
    (and_parts (ltb 0 (length bs) && leb (length bs) 32) (list_all is_password_byte bs) h).0).1
