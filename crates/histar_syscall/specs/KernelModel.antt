-- The model of a kernel, which the contracts of the kernel cite.
use Rattle.std.specs.Prelude.{◌≡◌, ℕ, List, [], ◌∷◌, ◌++◌, Option, None, Some, Result, Ok, Err, ⊤, refl, if◌then◌else◌}
use Rattle.std.specs.FinSet as set
use Rattle.std.specs.Borrow.{RattleType, Bor, MutBor, Fml, follows_so}
use mathlib.Core.Option.{none}
use Rattle.std.specs.Coded.{Coded, code_by, coded×, coded_ℕ, coded_list}
use Rattle.histar_level.specs.Levels.{Levels}
use Rattle.histar_container.specs.ObjectsModel.{ObjectsModel, coded_objects_model, state_of}
use Rattle.histar_object.specs.Objects.{links_in, bytes_in}
use Rattle.histar_object.specs.State.{State}
use Rattle.histar_rules.specs.declared.raw.Denied.{Denied}
use Rattle.histar_rules.specs.declared.raw.RawCall.{RawCall}
use Rattle.histar_rules.specs.declared.raw.RawCall.TheVariants.{OwnLabel, Read}
use Rattle.histar_rules.specs.declared.raw.Refusal.{Refusal}
use Rattle.histar_rules.specs.declared.raw.Refusal.TheVariants as refusals
use Rattle.histar_trace.specs.declared.entries.TraceEntry.{TraceEntry}
use Rattle.histar_trace.specs.contracts.entries.TraceEntry as entry
use Rattle.histar_rules.specs.Sound.{root_number}
use Rattle.histar_rules.specs.Rules.{check, Leaves}
use Rattle.histar_rules.specs.RawAnswers.{AnswerOf, IsAnswer}

-- the content of a kernel: its objects, the line that was begun last, and the trace of its calls
pub record KernelModel : Type 0 where
  pub kept : ObjectsModel
  pub line : ℕ
  pub trace : List TraceEntry

-- stored as the tuple of its parts
abbrev pub coded_kernel_model : Coded KernelModel
coded_kernel_model = code_by (ObjectsModel × (ℕ × List TraceEntry)) (coded× coded_objects_model (coded× coded_ℕ (coded_list entry.the_row.coded))) (λ k. (k.kept, (k.line, k.trace))) (λ p. record { kept = p.0; line = p.1.0; trace = p.1.1 }) (λ _. refl)

-- the state of a kernel
abbrev pub state : KernelModel → State
state k = state_of k.kept

-- the bytes of a segment that the owner of a kernel sees with no raw call: none of one that the root container links
abbrev pub lent_bytes : State → ℕ → List ℕ
lent_bytes s o = if set.contains (links_in (s.objects root_number)) o then [] else bytes_in (s.objects o)

-- the kernel made this call and nothing else: its outcome, its state, and one more entry of the trace, on the line that was begun
pub record Called (old new : KernelModel) (thread : ℕ) (call : RawCall) (denied : Option Denied) : Type 0 where
  pub outcome : check (state old) thread call ≡ denied
  pub state : Leaves denied (state old) thread call (state new)
  pub trace : new.trace ≡ old.trace ++ record { line = old.line; thread = thread; call = call; denied = denied } ∷ []
  pub line : new.line ≡ old.line

-- nothing has changed: no object, no link, no number, not the line, not the trace
pub record IsUnchanged (old new : KernelModel) : Type 0 where
  pub state : state new ≡ state old
  pub trace : new.trace ≡ old.trace
  pub line : new.line ≡ old.line

-- the call was granted and what it returns is so, or it was denied, or memory ran out and nothing has changed
abbrev pub AnsweredAs : {A : Type 0} → KernelModel → KernelModel → ℕ → RawCall → Result A Refusal → (A → Type 0) → Type 0
AnsweredAs old new t call (Ok answer) IsRight = Called old new t call None × IsRight answer
AnsweredAs old new t call (Err (refusals.Denied denied)) IsRight = Called old new t call (Some denied)
AnsweredAs old new t call (Err refusals.OutOfMemory) IsRight = IsUnchanged old new

-- the call was granted and has its answer, or it was denied, or memory ran out and nothing has changed
abbrev pub Answered : KernelModel → KernelModel → ℕ → (call : RawCall) → Result (AnswerOf call) Refusal → Type 0
Answered old new t call result = AnsweredAs old new t call result (IsAnswer (state old) t call)

-- a read was made, and it lends the bytes of the segment
abbrev pub ReadsLent : KernelModel → ℕ → ℕ → ℕ → Result (Bor (List ℕ)) Refusal → KernelModel → Type 0
ReadsLent old t container segment result new =
    AnsweredAs old new t (Read container segment) result (λ bytes. IsAnswer (state old) t (Read container segment) bytes.now)

-- a thread asked for its own label, which is lent to it
abbrev pub OwnLent : KernelModel → ℕ → Result (Bor Levels) Refusal → KernelModel → Type 0
OwnLent old t result new =
    AnsweredAs old new t OwnLabel result (λ own. (clearance : Levels) × IsAnswer (state old) t OwnLabel (own.now, clearance))

-- a kernel whose call lends something of it ends as the call left it
abbrev pub EndsAs : (R : RattleType) → MutBor R.Denot → (R.Denot → Type 0) → Fml
EndsAs R kernel IsLeft = follows_so R R kernel.ghost_name none (λ _ _. ⊤) IsLeft
