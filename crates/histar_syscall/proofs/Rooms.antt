-- The kernel after a raw call.
use Rattle.std.proofs.Common.{◌≡◌, ◌<◌, ℕ, Bool, true, false, refl, sym, ap, ◌∙◌, subst, arith, Result, Ok, Err, List, [], None, Some}
use Rattle.std.specs.Prelude.{IfOk, nat_lt}
use Rattle.std.proofs.lemmas.Bool.Decides.{nat_tests}
use Rattle.std.specs.Result.{IsErrAnd}
use Rattle.histar_object.specs.State.{State}
use Rattle.histar_container.specs.ObjectsModel.{ObjectsModel}
use Rattle.histar_rules.specs.Sound.{IsSound, root_number}
use Rattle.histar_rules.specs.declared.raw.RawCall.{RawCall}
use Rattle.histar_rules.specs.declared.raw.Refusal.{Refusal}
use Rattle.histar_rules.specs.declared.raw.Refusal.TheVariants as refusals
use Rattle.histar_rules.specs.Rules.{Decides, DecidesAs}
use Rattle.histar_rules.specs.RawAnswers.{AnswerOf, IsAnswer}
use Rattle.histar_trace.specs.declared.entries.TraceEntry.{TraceEntry}
use Rattle.histar_trace.specs.Traces.{logged}
use Rattle.histar_syscall.specs.KernelModel.{KernelModel, state, IsUnchanged, Answered, AnsweredAs}

-- where memory runs out nothing has changed
pub exits : {A : Type 0} (old new : KernelModel) (t : ℕ) (call : RawCall) (r : Result A Refusal) (P : A → Type 0)
    → IsErrAnd r (λ e. e ≡ refusals.OutOfMemory) → IsUnchanged old new → AnsweredAs old new t call r P
exits old new t call (Ok a) P h u = absurd h
exits {A} old new t call (Err e) P h u = subst (λ (x : Refusal). AnsweredAs {A = A} old new t call (Err x) P) (sym h) u

-- a call is answered that was decided on the objects and recorded in the trace
pub answered : {A : Type 0} (old : KernelModel) (kept : ObjectsModel) (trace : List TraceEntry) (t : ℕ) (call : RawCall)
    (r : Result A Refusal) (P : A → Type 0) → DecidesAs old.kept kept t call r P
    → trace ≡ logged old.trace old.line t call r → AnsweredAs old (record { kept = kept; line = old.line; trace = trace }) t call r P
answered old kept trace t call (Ok answer) P decided entry =
    (record { outcome = decided.0; state = decided.1; trace = entry; line = refl }, decided.2)
answered old kept trace t call (Err (refusals.Denied denied)) P decided entry =
    record { outcome = decided.0; state = decided.1; trace = entry; line = refl }
answered old kept trace t call (Err refusals.OutOfMemory) P decided entry = record { state = decided; trace = entry; line = refl }

-- a call that was stored, decided on the objects and recorded is answered
pub recorded : {A : Type 0} (old inside : KernelModel) (kept : ObjectsModel) (stored trace : List TraceEntry) (t : ℕ) (call : RawCall)
    (decided answer : Result A Refusal) (P : KernelModel → A → Type 0) → inside ≡ old → stored ≡ inside.trace
    → DecidesAs inside.kept kept t call decided (P inside) → answer ≡ decided → trace ≡ logged stored inside.line t call decided
    → AnsweredAs old (record { kept = kept; line = inside.line; trace = trace }) t call answer (P old)
recorded {A} old inside kept stored trace t call decided answer P same entries is said entry =
    let after : KernelModel = record { kept = kept; line = inside.line; trace = trace } in
    subst (λ (k : KernelModel). AnsweredAs k after t call answer (P k)) same
    (subst (λ (r : Result A Refusal). AnsweredAs inside after t call r (P inside)) (sym said)
    (answered inside kept trace t call decided (P inside) is (entry ∙ ap (λ (es : List TraceEntry). logged es inside.line t call decided) entries)))

-- a call that was stored, decided on the objects and recorded has its answer
pub recorded_answer : (old inside : KernelModel) (kept : ObjectsModel) (stored trace : List TraceEntry) (t : ℕ) (call : RawCall)
    (decided answer : Result (AnswerOf call) Refusal) → inside ≡ old → stored ≡ inside.trace
    → Decides inside.kept kept t call decided → answer ≡ decided → trace ≡ logged stored inside.line t call decided
    → Answered old (record { kept = kept; line = inside.line; trace = trace }) t call answer
recorded_answer old inside kept stored trace t call decided answer same entries is said entry =
    recorded old inside kept stored trace t call decided answer (λ k. IsAnswer (state k) t call) same entries is said entry

-- a call that found no memory to be stored has changed nothing
pub unstored : {A : Type 0} (old inside : KernelModel) (trace : List TraceEntry) (t : ℕ) (call : RawCall) (r : Result A Refusal) (P : A → Type 0)
    → inside ≡ old → trace ≡ inside.trace → IsErrAnd r (λ e. e ≡ refusals.OutOfMemory)
    → AnsweredAs old (record { kept = inside.kept; line = inside.line; trace = trace }) t call r P
unstored old inside trace t call r P same entries h =
    subst (λ (k : KernelModel). AnsweredAs k (record { kept = inside.kept; line = inside.line; trace = trace }) t call r P) same
    (exits inside (record { kept = inside.kept; line = inside.line; trace = trace }) t call r P h
    (record { state = refl; trace = entries; line = refl }))

-- in a sound state the next object's number is not 0: the root container has a number below it
next_numbered : (s : State) → IsSound s → 0 < s.next_object
next_numbered s sound = by (nat_lt 0 s.next_object) refl
  where
    by : (b : Bool) → nat_lt 0 s.next_object ≡ b → 0 < s.next_object
    by true e = grind (arith, nat_tests)
    by false e =
        let none : sound.tree.naming.address root_number ≡ None = sound.tree.matched.unused root_number (grind (arith, nat_tests)) in
        let clash : None ≡ Some [] = sym none ∙ sound.tree.rooted in
        cc

-- the number of an object that was made in a sound state is not 0
pub made_numbered : (inside : KernelModel) (kept : ObjectsModel) (t : ℕ) (call : RawCall) (decided answer : Result ℕ Refusal)
    → IsSound (state inside) → DecidesAs inside.kept kept t call decided (λ n. n ≡ inside.kept.next_object)
    → answer ≡ decided → IfOk answer (λ n. 0 < n)
made_numbered inside kept t call (Ok n) answer sound is said =
    subst (λ (r : Result ℕ Refusal). IfOk r (λ m. 0 < m)) (sym said) (subst (λ (m : ℕ). 0 < m) (sym is.2) (next_numbered (state inside) sound))
made_numbered inside kept t call (Err refusal) answer sound is said =
    subst (λ (r : Result ℕ Refusal). IfOk r (λ m. 0 < m)) (sym said) tt
