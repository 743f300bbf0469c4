-- The invariants and measures of `+tree` of src/tree.rt.
use Rattle.std.proofs.Common.{◌+◌, ◌-◌, ◌*◌, drop, length}
use Rattle.histar_flat.specs.Words.{most_names}
use Rattle.histar_syscall.specs.KernelModel.{state}
use Rattle.histar_readout.proofs.Adding.{AddsEntries}
use Rattle.histar_readout.proofs.tree.+tree.Given as goal

-- a directory is a level above the trees of its entries
abbrev pub decreases-push_below : goal.decreases-push_below
decreases-push_below g l = 2 * (most_names - length l.path.now)

abbrev pub decreases-push_tree : goal.decreases-push_tree
decreases-push_tree g l = 2 * (most_names - length l.path.now) + 1

abbrev pub invariant-push_below-entries : goal.invariant-push_below-entries
invariant-push_below-entries g l =
    AddsEntries l.source.users.now (state l.source.kernel.now) l.path l.fn.listing (drop l.entry-index l.entry-items) l.fn.tree.items
    l.tree.items
