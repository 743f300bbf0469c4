-- How a device counts its failed calls.
use Rattle.std.specs.Prelude.{◌≡◌, ℕ, ◌+◌, ◌-◌, ◌^◌, Bool, true, ◌&&◌, ◌==◌, nat_lt, min, List, length, Result, Ok, Err, if◌then◌else◌}

-- the greatest number of 64 bits
abbrev pub most_failures : ℕ
most_failures = 2 ^ 64 - 1

-- the count after one more failed call, up to the greatest number
abbrev pub one_failure_more : ℕ → ℕ
one_failure_more count = min (count + 1) most_failures

-- a call raises the count exactly if it fails
abbrev pub CountsFailure : ℕ → ℕ → Bool → Type 0
CountsFailure old new has_failed = new ≡ (if has_failed then one_failure_more old else old)

-- a write fails by an error, and by taking no byte of a text that has some
abbrev pub has_failed_write : {E : Type 0} → Result ℕ E → List ℕ → Bool
has_failed_write (Ok n) bytes = n == 0 && nat_lt 0 (length bytes)
has_failed_write (Err e) bytes = true
