-- The invariants and measures of `add_births` of src/births.rt.
use Rattle.std.proofs.Common.{◌≡◌, ◌-◌, ◌++◌, length}
use Rattle.histar_syscall.specs.KernelModel.{state}
use Rattle.histar_names.specs.Births.{births_from, born_with}
use Rattle.histar_names.proofs.births.add_births.Given as goal

abbrev pub invariant-births : goal.invariant-births
invariant-births g l =
    let purpose = born_with (state l.fn.kernel) l.fn.roots.home l.fn.child in
    record {
      count : length l.births.items ≡ l.number;
      rest : l.births.items ++ births_from purpose (length l.births.items) (l.next - length l.births.items)
          ≡ l.fn.births.items ++ births_from purpose (length l.fn.births.items) (l.next - length l.fn.births.items);
    }
