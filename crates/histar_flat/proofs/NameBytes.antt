-- The list of the bytes that a name may have, against the test of a byte.
use Rattle.std.proofs.Common.{◌≡◌, ℕ, zero, suc, ◌+◌, ◌<◌, Bool, eqb, List, [], ◌∷◌, get_or, refl, ap, ◌∙◌, arith}
use Rattle.std.specs.Prelude.{map}
use Rattle.histar_flat.specs.declared.readers.TheConstants.{NAME_BYTES}
use Rattle.histar_flat.specs.Words.{is_name_byte}

-- this many numbers, from one on
abbrev up : ℕ → ℕ → List ℕ
up zero from = []
up (suc n) from = from ∷ up n (suc from)

-- the tests of these numbers, by place
at_up : (test : ℕ → Bool) (n from k : ℕ) (b : Bool) → k < n → get_or (map test (up n from)) k b ≡ test (from + k)
at_up test zero from k b below = absurd (omega arith)
at_up test (suc n) from zero b below = let same : from ≡ from + 0 = omega arith in ap test same
at_up test (suc n) from (suc k) b below =
    let same : suc from + k ≡ from + suc k = omega arith in
    at_up test n (suc from) k b (omega arith) ∙ ap test same

-- a test of an item is an item of the tests
test_of : (test : ℕ → Bool) (xs : List ℕ) (k : ℕ) → test (get_or xs k 0) ≡ get_or (map test xs) k (test 0)
test_of test [] k = refl
test_of test (x ∷ xs) zero = refl
test_of test (x ∷ xs) (suc k) = test_of test xs k

-- the list has a 1 for the bytes that pass
as_tested : map (λ n. eqb n 1) NAME_BYTES.now ≡ map is_name_byte (up 256 0)
as_tested = refl

-- so it tells of each byte whether a name may have it
pub listed_byte : (b : ℕ) → b < 256 → eqb (get_or NAME_BYTES.now b 0) 1 ≡ is_name_byte b
listed_byte b below =
    test_of (λ n. eqb n 1) NAME_BYTES.now b ∙ ap (λ (tests : List Bool). get_or tests b (eqb 0 1)) as_tested
    ∙ at_up is_name_byte 256 0 b (eqb 0 1) below ∙ (let same : 0 + b ≡ b = omega arith in ap is_name_byte same)
