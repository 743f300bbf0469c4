-- The invariants and measures of `count_checks` of src/session.rt.
use Rattle.std.proofs.Common.{take}
use Rattle.histar_test.specs.Session.{AreTests}
use Rattle.histar_test.proofs.session.count_checks.Given as goal

abbrev pub invariant-files : goal.invariant-files
invariant-files l = AreTests (take l.file-index l.files) l.total
