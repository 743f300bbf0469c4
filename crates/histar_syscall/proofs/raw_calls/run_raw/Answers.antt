-- Proves the goals of `run_raw` of src/raw_calls.rt that the search leaves open.
use Rattle.std.proofs.Common.{arith}
use Rattle.histar_syscall.proofs.Confined.{confinement, confinement_stopped, sound_before}
use Rattle.histar_syscall.proofs.Sessions.{all_none, all_next, all_made, stopped_at}
use Rattle.histar_syscall.proofs.raw_calls.run_raw.Goals as goal

pub loop-asked-init : goal.loop-asked-init
loop-asked-init g c = record { made = all_none _; sound = λ some. absurd (omega arith) }

pub returns-in_err-make-clause-beginning : goal.returns-in_err-make-clause-beginning
returns-in_err-make-clause-beginning g c =
    stopped_at _ _ _ _ _ _ c.loop-asked-test.true c.loop-asked.invariant.made c.in_err-make.ensures.unchanged

pub loop-asked-preserved : goal.loop-asked-preserved
loop-asked-preserved g c = record {
  made =
      all_next _ _ _ _ _ _ c.loop-asked-test.true c.asked-item.is c.loop-asked.invariant.made c.in_ok-make.ensures.made;
  sound =
      λ some. sound_before _ _ _ _ c.loop-asked.invariant.sound c.loop-asked.invariant.made c.in_ok-make.ensures.sound;
}

pub returns-clause-all : goal.returns-clause-all
returns-clause-all g c =
    all_made _ _ _ _ c.loop-asked-test.false c.loop-asked.invariant.made

pub returns-clause-confined : goal.returns-clause-confined
returns-clause-confined g c = λ v confined.
    confinement v _ _ _ (λ some. c.loop-asked.invariant.sound (omega arith)) confined
    (all_made _ _ _ _ c.loop-asked-test.false c.loop-asked.invariant.made)

pub returns-in_err-make-clause-confined : goal.returns-in_err-make-clause-confined
returns-in_err-make-clause-confined g c = λ v confined.
    confinement_stopped v _ _ _ _ _ c.loop-asked.invariant.sound confined c.loop-asked.invariant.made c.in_err-make.ensures.unchanged
