-- A sink that is not written to.
use Rattle.std.proofs.Common.{refl}
use Rattle.histar_script.specs.declared.fault.Fault.{Fault}
use Rattle.histar_script.specs.declared.fault.Fault.TheVariants.{BadScript, TooLong, OutOfMemory, ReadFailed, WriteFailed}
use Rattle.histar_script.specs.Runs.{LeavesSink}

-- a sink that is not called is as it was
pub sink_left : {W : Type 0} (w : W) (f : Fault) → LeavesSink w w f
sink_left w (BadScript n) = refl
sink_left w TooLong = refl
sink_left w OutOfMemory = tt
sink_left w ReadFailed = refl
sink_left w WriteFailed = tt
