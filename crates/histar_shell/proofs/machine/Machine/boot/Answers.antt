-- Proves the goals of `Machine::boot` of src/machine.rt that the search leaves open.
use Rattle.std.proofs.Common.{refl}
use Rattle.histar_login.proofs.LastStage.{booted_line}
use Rattle.histar_shell.proofs.Starts.{start_shows}
use Rattle.histar_shell.proofs.SessionMeanings.{booted_traced}
use Rattle.histar_shell.proofs.machine.Machine.boot.Goals as goal

-- a machine that was booted by its raw calls alone has a trace of them
pub invariant_of-result : goal.invariant_of-result
invariant_of-result g c = booted_traced c.args.accounts c.in_ok-kernel.kernel c.in_ok-kernel.ensures.booted

pub returns-clause-starts : goal.returns-clause-starts
returns-clause-starts g c = record {
  users = c.in_ok-users.ensures.ok;
  roots = c.in_ok-kernel.ensures.roots;
  state = c.in_ok-kernel.ensures.state;
  booted = c.in_ok-kernel.ensures.booted;
  line = booted_line c.args.accounts c.in_ok-kernel.kernel c.in_ok-kernel.ensures.booted;
  runs = refl;
}

pub returns-clause-shows : goal.returns-clause-shows
returns-clause-shows g c = start_shows c.args.accounts c.requires _ (returns-clause-starts g c)

pub of-requires : goal.of-requires
of-requires g c = c.requires.users.distinct

pub boot-requires : goal.boot-requires
boot-requires g c = c.requires.users.some
