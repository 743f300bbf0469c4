-- The invariants and measures of `read_numbers` of src/readers.rt.
use Rattle.std.proofs.Common.{◌≡◌, ◌-◌, [], length}
use Rattle.std.specs.Option.{option_copied}
use Rattle.histar_flat.specs.Words.{process_from}
use Rattle.histar_flat.proofs.readers.read_numbers.Given as goal

abbrev pub invariant-loop : goal.invariant-loop
invariant-loop l =
    (process_from (7 - l.counter) l.process (option_copied l.rest) ≡ process_from 7 [] (option_copied l.numbers))
    × (length l.process ≡ l.counter)
