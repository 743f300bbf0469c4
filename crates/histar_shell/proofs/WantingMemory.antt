-- A run ends for want of memory only where memory ran out.
use Rattle.std.proofs.Common.{◌≡◌, ℕ, Bool, true, false, Option, None, Some, Result, Ok, Err, inl, inr, refl, sym, ap, ◌∙◌, subst}
use mathlib.Core.Bool.{true≢false}
use Rattle.histar_flat.specs.declared.calls.CallLine.{CallLine}
use Rattle.histar_flat.specs.declared.calls.UnixCall.{UnixCall}
use Rattle.histar_flat.specs.declared.replies.Reply.{Reply}
use Rattle.histar_flat.specs.Words.{ProcName}
use Rattle.histar_flat.specs.FlatState.{Flat}
use Rattle.histar_flat.specs.FlatCalls.{flat_after}
use Rattle.histar_syscall.specs.KernelModel.{state}
use Rattle.histar_programs.specs.declared.call_error.Stopped.{Stopped}
use Rattle.histar_programs.specs.declared.caller.Caller.{Caller}
use Rattle.histar_programs.specs.Caller.{caller_at}
use Rattle.histar_script.specs.Memory.{OnOutOfMemory}
use Rattle.histar_script.specs.declared.fault.Fault.{Fault}
use Rattle.histar_script.specs.declared.fault.Fault.TheVariants.{BadScript, TooLong, OutOfMemory, ReadFailed, WriteFailed}
use Rattle.histar_shell.specs.Machine.{MachineModel, AnswersFound, AnswersIf, AnswersLine}
use Rattle.histar_shell.specs.Meaning.{EndsAsMeant, FollowsMeaning, Shows, StopsAsMeant}
use Rattle.histar_shell.specs.Memory.{StillShows, WantsMemory}

-- where memory ran out, any answer may be given
pub known_memory : {A M : Type 0} (result : Result A Fault) → M → OnOutOfMemory result M
known_memory (Ok x) memory = tt
known_memory (Err OutOfMemory) memory = memory
known_memory (Err (BadScript n)) memory = tt
known_memory (Err TooLong) memory = tt
known_memory (Err ReadFailed) memory = tt
known_memory (Err WriteFailed) memory = tt

-- a machine that had not stopped ends a line without an answer only where memory ran out
pub line_wants : {M : Type 0} (old new : MachineModel) (line : ℕ) (process : ProcName) (call : UnixCall)
    (result : Result Reply Stopped) (stopped : Stopped) → result ≡ Err stopped → FollowsMeaning M old new line process call result
    → WantsMemory {A = Unit {0}} M old (Err OutOfMemory)
line_wants {M} old new line process call result stopped is follows accounts f shows runs =
    because_of (subst (EndsAsMeant M accounts old new f (record { line = line; process = process; call = call })) is (follows accounts f shows))
  where
    because_of : StopsAsMeant M accounts old new f (record { line = line; process = process; call = call }) → M
    because_of stops = elim stops.because [
      | inl had_stopped ↦ absurd (true≢false (sym had_stopped ∙ runs))
      | inr memory ↦ memory
    ]

-- a machine that has answered a line runs
runs_on : (old new : MachineModel) (line : ℕ) (process : ProcName) (call : UnixCall) (reply : Reply) → old.is_stopped ≡ false
    → AnswersLine old new line process call (Ok reply) → new.is_stopped ≡ false
runs_on old new line process call reply runs answers =
    by (caller_at (state old.kernel) old.roots.home process)
    (subst (λ (b : Bool). AnswersIf (Unit {0}) b old new line process call (Ok reply)) runs answers)
  where
    by : (found : Option Caller) → AnswersFound (Unit {0}) found old new line process call (Ok reply) → new.is_stopped ≡ false
    by None gone = ap (λ (m : MachineModel). m.is_stopped) gone.1 ∙ runs
    by (Some caller) made = made.stops

-- and it represents a flat state still
pub line_shows : (M : Type 0) (old new : MachineModel) (line : ℕ) (process : ProcName) (call : UnixCall)
    (result : Result Reply Stopped) (reply : Reply) → result ≡ Ok reply → AnswersLine old new line process call result
    → FollowsMeaning M old new line process call result → StillShows old new
line_shows M old new line process call result reply is answers follows accounts f shows runs =
    let asked : CallLine = record { line = line; process = process; call = call } in
    let meant = subst (EndsAsMeant M accounts old new f asked) is (follows accounts f shows) in
    let runs_still = runs_on old new line process call reply runs (subst (AnswersLine old new line process call) is answers) in
    let shown : (g : Flat) × Shows accounts new g × (new.is_stopped ≡ false) = (flat_after accounts f process call, meant.shows, runs_still) in
    shown

-- at first
pub still_at_first : (m : MachineModel) → StillShows m m
still_at_first m accounts f shows runs =
    let shown : (g : Flat) × Shows accounts m g × (m.is_stopped ≡ false) = (f, shows, runs) in
    shown

-- one after another
pub still_shows : (first mid last : MachineModel) → StillShows first mid → StillShows mid last → StillShows first last
still_shows first mid last one other accounts f shows runs =
    let there = one accounts f shows runs in
    other accounts there.0 there.1 there.2

pub wants_still : (M : Type 0) {A : Type 0} (first mid : MachineModel) (result : Result A Fault) → StillShows first mid → WantsMemory M mid result
    → WantsMemory M first result
wants_still M first mid result still wants accounts f shows runs =
    let there = still accounts f shows runs in
    wants accounts there.0 there.1 there.2

-- so does an error that is passed on
pub wants_passed : (M : Type 0) {A : Type 0} (first mid : MachineModel) (result early : Result A Fault) → result ≡ early
    → StillShows first mid → WantsMemory M mid early → WantsMemory M first result
wants_passed M first mid result early is still wants = subst (WantsMemory M first) (sym is) (wants_still M first mid early still wants)
