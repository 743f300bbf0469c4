-- However many raw calls confined threads make, what is visible stays as it was.
use Rattle.std.proofs.Common.{◌≡◌, ℕ, zero, suc, ◌<◌, ◌≤◌, List, [], ◌∷◌, length, Option, None, Some, arith, take, sym, ap, ◌∙◌, subst}
use Rattle.std.specs.List.{All}
use Rattle.std.proofs.lemmas.List.Elements.{All-head, All-tail, All-take}
use Rattle.histar_object.specs.State.{State}
use Rattle.histar_rules.specs.declared.raw.Denied.{Denied}
use Rattle.histar_rules.specs.declared.raw.RawCall.{RawCall}
use Rattle.histar_rules.specs.Rules.{check, Leaves}
use Rattle.histar_rules.specs.Sound.{IsSound}
use Rattle.histar_rules.proofs.Sound.{sound_changes}
use Rattle.histar_syscall.specs.Runs.{MadeAll}
use Rattle.histar_syscall.specs.KernelModel.{KernelModel, state, IsUnchanged}
use Rattle.histar_syscall.proofs.Sessions.{all_unchanged}
use Rattle.histar_rules.specs.Visible.{visible, IsTaintedCaller, AreConfined}
use Rattle.histar_rules.proofs.TaintedMoves.{Moved, stays, visible_stays, still_tainted, still_unowned}
use Rattle.histar_rules.proofs.TaintedCalls.{granted_moves, later_category}

-- one call, granted or refused, leaves what is visible, and the calls after it are confined too
pub record Steps (v : ℕ) (old new : State) : Type 0 where
  pub moved : (q : ℕ) → Moved v old.objects new.objects q
  pub sound : IsSound new
  pub later : old.next_category ≤ new.next_category

one_step : (v : ℕ) (old new : State) (t : ℕ) (call : RawCall) (more : List (ℕ × RawCall)) (denied : Option Denied)
    → IsSound old → AreConfined old v ((t, call) ∷ more) → check old t call ≡ denied → Leaves denied old t call new
    → Steps v old new
one_step v old new t call more None sound confined e is = record {
  moved =
      granted_moves v old t sound confined.made confined.gates
      (All-head (λ (asked : ℕ × RawCall). IsTaintedCaller old v asked.0) (t, call) more confined.callers) call new e
      is;
  sound = sound_changes old new t call sound e is;
  later = later_category old new t call is;
}
one_step v old new t call more (Some denied) sound confined e is = record {
  moved = λ q. stays (ap (λ (s : State). s.objects q) is);
  sound = subst IsSound (sym is) sound;
  later = omega (arith, ap (λ (s : State). s.next_category) is);
}

-- callers stay confined
still_all : (v : ℕ) (old new : State) → IsSound old → ((q : ℕ) → Moved v old.objects new.objects q)
    → (calls : List (ℕ × RawCall)) → All (λ (asked : ℕ × RawCall). IsTaintedCaller old v asked.0) calls
    → All (λ (asked : ℕ × RawCall). IsTaintedCaller new v asked.0) calls
still_all v old new sound moved calls confined = λ k d lt. still_tainted old new v sound moved _ (confined k d lt)

-- the calls after the first are confined too
still_confined : (v : ℕ) (old new : State) (asked : ℕ × RawCall) (more : List (ℕ × RawCall)) → IsSound old
    → AreConfined old v (asked ∷ more) → Steps v old new → AreConfined new v more
still_confined v old new asked more sound confined steps = record {
  made = omega (arith, confined.made, steps.later);
  gates = still_unowned old new v sound steps.moved confined.gates;
  callers = still_all v old new sound steps.moved more (All-tail (λ (a : ℕ × RawCall). IsTaintedCaller old v a.0) asked more confined.callers);
}

all_stay : (v : ℕ) (old new : KernelModel) (calls : List (ℕ × RawCall)) → IsSound (state old)
    → AreConfined (state old) v calls → MadeAll old calls new → (path : List ℕ)
    → visible (state new) v path ≡ visible (state old) v path
unfolding MadeAll
all_stay v old new [] sound confined made path = ap (λ (s : State). visible s v path) made.state
all_stay v old new (asked ∷ more) sound confined made path =
    let steps = one_step v (state old) (state made.0) asked.0 asked.1 more made.1.0 sound confined made.1.1.outcome made.1.1.state in
    all_stay v made.0 new more steps.sound (still_confined v (state old) (state made.0) asked more sound confined steps) made.2 path
    ∙ visible_stays (state old) (state made.0) v sound steps.moved path

some_calls : (asked : ℕ × RawCall) (more : List (ℕ × RawCall)) → 0 < length (asked ∷ more)
some_calls asked more = omega arith

some_taken : (n : ℕ) (calls : List (ℕ × RawCall)) → 0 < length (take n calls) → 0 < n
some_taken zero calls some = some
some_taken (suc n) calls some = omega arith

-- the calls of confined threads leave what is visible; where there are no calls, the kernel need not be sound
pub confinement : (v : ℕ) (old new : KernelModel) (calls : List (ℕ × RawCall))
    → (0 < length calls → IsSound (state old)) → AreConfined (state old) v calls → MadeAll old calls new
    → visible (state new) v ≡ visible (state old) v
unfolding MadeAll
confinement v old new [] sound confined made = ap (λ (s : State). visible s v) made.state
confinement v old new (asked ∷ more) sound confined made =
    λ i path. all_stay v old new (asked ∷ more) (sound (some_calls asked more)) confined made path i

-- fewer calls are confined too
confined_take : (v : ℕ) (s : State) (calls : List (ℕ × RawCall)) (n : ℕ) → AreConfined s v calls → AreConfined s v (take n calls)
confined_take v s calls n confined =
    record {
      made = confined.made;
      gates = confined.gates;
      callers = All-take (λ (asked : ℕ × RawCall). IsTaintedCaller s v asked.0) n calls confined.callers;
    }

-- so does a beginning of them
pub confinement_stopped : (v : ℕ) (old mid new : KernelModel) (calls : List (ℕ × RawCall)) (n : ℕ)
    → (0 < n → IsSound (state old)) → AreConfined (state old) v calls → MadeAll old (take n calls) mid
    → IsUnchanged mid new → visible (state new) v ≡ visible (state old) v
confinement_stopped v old mid new calls n sound confined made same =
    confinement v old new (take n calls) (λ some. sound (some_taken n calls some))
    (confined_take v (state old) calls n confined) (all_unchanged old mid new (take n calls) made same)

-- if the kernel was sound at each call that was made, it was sound before the first
pub sound_before : (old mid : KernelModel) (calls : List (ℕ × RawCall)) (n : ℕ) → (0 < n → IsSound (state old))
    → MadeAll old (take n calls) mid → IsSound (state mid) → IsSound (state old)
unfolding MadeAll
sound_before old mid calls zero sound made now = subst IsSound made.state now
sound_before old mid calls (suc n) sound made now = sound (omega arith)
