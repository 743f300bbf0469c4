-- How much of its input a run takes.
use Rattle.std.specs.Prelude.{ℕ, ◌<◌, ◌≤◌, Bool, true, false, List, Option, Result, Ok, Err, length}
use Rattle.std.specs.Io.KnownBytes.{Consumes, IsAtEnd}
use Rattle.histar_io.specs.declared.input.InputError.{InputError}
use Rattle.histar_io.specs.declared.input.InputError.TheVariants.{ReadFailed, OutOfMemory}

-- the most bytes that a run takes: 1,048,577, one more than a script may have
abbrev pub most_taken : ℕ
most_taken = 1048577

-- These bytes were taken from the front, and either they are as many as a run takes or nothing is left. Of a source whose rest is not known
-- this says only how many they are at most.
pub record TakesAll (old new : Option (List ℕ)) (taken : List ℕ) : Type 0 where
  pub consumed : Consumes old new taken
  pub within : length taken ≤ most_taken
  pub ended : length taken < most_taken → IsAtEnd new

-- some bytes were taken from the front, and no more than a run takes
pub record TakesSome (old new : Option (List ℕ)) : Type 0 where
  pub taken : List ℕ
  pub consumed : Consumes old new taken
  pub within : length taken ≤ most_taken

-- the result is that a read failed
abbrev pub is_read_failed : {A : Type 0} → Result A InputError → Bool
is_read_failed (Ok x) = false
is_read_failed (Err ReadFailed) = true
is_read_failed (Err OutOfMemory) = false
