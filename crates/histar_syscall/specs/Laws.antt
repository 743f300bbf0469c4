-- What the definitions of runs amount to, and what confined threads leave as it is.
use Rattle.std.specs.Prelude.{◌≡◌, ◌↔◌, ℕ, List, Some}
use Rattle.histar_level.specs.Levels.{Levels}
use Rattle.histar_object.specs.declared.objects.Object.{Object}
use Rattle.histar_object.specs.State.{State}
use Rattle.histar_container.specs.Tree.{Address}
use Rattle.histar_rules.specs.declared.raw.RawCall.{RawCall}
use Rattle.histar_rules.specs.Sound.{IsSound}
use Rattle.histar_rules.specs.Visible.{visible, end_of, IsVisible, AreConfined}
use Rattle.histar_trace.specs.declared.entries.TraceEntry.{TraceEntry}
use Rattle.histar_syscall.specs.KernelModel.{KernelModel, state}
use Rattle.histar_syscall.specs.Runs.{IsRun, MadeAll}

-- from a sound state a list of entries leads to one state at most
abbrev pub RunsHaveOneEnd : Type 0
RunsHaveOneEnd = (s one other : State) (entries : List TraceEntry) → IsSound s → IsRun s entries one → IsRun s entries other → one ≡ other

-- an object is visible at the end of some path exactly where it is visible by its number
abbrev pub VisibleIsReached : Type 0
VisibleIsReached = (s : State) (v q : ℕ) (o : Object Levels) → ((path : Address ℕ) × (end_of path ≡ q) × (visible s v path ≡ Some o)) ↔ IsVisible s v q o

-- so the same objects stay visible, under the same numbers
abbrev pub SameNumbersAreVisible : Type 0
SameNumbersAreVisible = (old new : KernelModel) (v : ℕ) (calls : List (ℕ × RawCall)) → IsSound (state old) → AreConfined (state old) v calls → MadeAll old calls new
    → (q : ℕ) (o : Object Levels) → IsVisible (state new) v q o ↔ IsVisible (state old) v q o
