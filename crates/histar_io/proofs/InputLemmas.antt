-- How many bytes were taken of an input.
use Rattle.std.proofs.Common.{ℕ, ◌+◌, ◌≤◌, List, ◌++◌, length, Option, arith}
use Rattle.std.proofs.lemmas.List.{length-append}
use Rattle.std.specs.Io.KnownBytes.{Consumes}
use Rattle.std.proofs.KnownBytes.{Consumes-trans}
use Rattle.histar_io.specs.Input.{most_taken, TakesSome}

-- bytes that were taken stay taken with one more piece
pub takes_piece : (a b c : Option (List ℕ)) (taken piece : List ℕ) → Consumes a b taken → Consumes b c piece
    → length taken + length piece ≤ most_taken → TakesSome a c
takes_piece a b c taken piece before after within = record {
  taken = taken ++ piece;
  consumed = Consumes-trans a b c taken piece before after;
  within = omega (arith, length-append taken piece);
}
