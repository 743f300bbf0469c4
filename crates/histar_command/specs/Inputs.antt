-- What has to hold of a way to run a text, so that a known input was run as a whole.
use Rattle.std.specs.Prelude.{◌≡◌, ℕ, List, Option, Result, Err, true}
use Rattle.std.specs.Io.KnownBytes.{Keeps}
use Rattle.histar_script.specs.declared.fault.Fault.{Fault}
use Rattle.histar_script.specs.declared.fault.Fault.TheVariants.{OutOfMemory, ReadFailed}
use Rattle.histar_script.specs.Lines.{is_too_long}
use Rattle.histar_script.specs.Runs.{Running}

-- If nothing was written, a run of any text may have ended as memory ran out, or as a read failed.
pub record StopsUnread (A : Type 0) (Runs : Running A) : Type 0 where
  pub memory : (text : List ℕ) (old new : Option (List ℕ)) → Keeps old new → Runs text old new (Err OutOfMemory)
  pub read : (text : List ℕ) (old new : Option (List ℕ)) → Keeps old new → Runs text old new (Err ReadFailed)

-- What a run of a text that is too long does, a run of another such text does.
pub record TakesLongAlike (A : Type 0) (Runs : Running A) : Type 0 where
  pub alike : (taken input : List ℕ) (old new : Option (List ℕ)) (result : Result A Fault) → is_too_long taken ≡ true → is_too_long input ≡ true
      → Runs taken old new result → Runs input old new result
