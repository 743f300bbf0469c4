-- Proves the goals of `find_entry` of src/entry.rt that the search leaves open.
use Rattle.std.proofs.Common.{◌-◌, length, take, drop, refl, ap, arith, Err}
use Rattle.histar_flat.specs.declared.replies.Errno.TheVariants.{EBUSY}
use Rattle.histar_programs.proofs.Directories.{no_names, first_of_names}
use Rattle.histar_programs.proofs.Finding.{walk_failed, walked, decides, decides_not}
use Rattle.histar_programs.proofs.Running.{fails_so, part_as, refuses_at_once}
use Rattle.histar_moves.specs.declared.entry.FoundEntry.{FoundEntry}
use Rattle.histar_moves.specs.Parts.{find_entry}
use Rattle.histar_moves.proofs.TakingAway.{entry_of, within}
use Rattle.histar_moves.proofs.entry.find_entry.Goals as goal

pub returns-in_default-clause-runs : goal.returns-in_default-clause-runs
unfolding find_entry
returns-in_default-clause-runs g c =
    part_as _ _ _ _ _ (ap (find_entry c.args.roots.now) (no_names _ (omega arith))) _ (refuses_at_once _ FoundEntry _ EBUSY)

pub returns-in_err-directory-clause-runs : goal.returns-in_err-directory-clause-runs
unfolding find_entry
returns-in_err-directory-clause-runs g c =
    fails_so c.args.thread _ c.args.kernel.now c.walk.new.kernel _ _ c.from_residual.ensures.1 (walk_failed _ _ _ _ (find_entry c.args.roots.now)
    _ _ (take (length _ - 1) (drop 1 c.args.path.now)) (first_of_names _ _ (omega arith) c.name-item.is) (within c.name-item.result)
    refl _ c.in_err-directory.ensures)

pub returns-in_err-target-clause-runs : goal.returns-in_err-target-clause-runs
unfolding find_entry
returns-in_err-target-clause-runs g c =
    fails_so c.args.thread _ c.args.kernel.now c.walk.new.kernel _ _ c.from_residual-in_err-target.ensures.1
    (walked _ _ _ _ (find_entry c.args.roots.now) _ _ (take (length _ - 1) (drop 1 c.args.path.now))
    (first_of_names _ _ (omega arith) c.name-item.is) (within _) refl _ c.in_ok-directory.directory c.in_ok-directory.ensures (Err _)
    (decides_not _ _ (entry_of _ _) _ _ c.in_err-target.ensures))

pub returns-clause-runs : goal.returns-clause-runs
unfolding find_entry
returns-clause-runs g c =
    walked c.args.thread _ c.args.kernel.now c.walk.new.kernel (find_entry c.args.roots.now) _ _ (take (length _ - 1) (drop 1 c.args.path.now))
    (first_of_names _ _ (omega arith) c.name-item.is) (within _) refl _ c.in_ok-directory.directory c.in_ok-directory.ensures _
    (decides _ _ (entry_of _ _) _ _ c.in_ok-target.ensures)
