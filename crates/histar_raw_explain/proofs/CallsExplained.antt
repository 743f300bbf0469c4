-- Explaining the calls of a session one by one.
use Rattle.std.proofs.Common.{◌≡◌, ℕ, ◌-◌, ◌<◌, List, [], ◌∷◌, ◌++◌, length, Option, Some, None, Result, Ok, Err, refl, sym, ap, subst, ◌∙◌}
use Rattle.std.proofs.Common.{append-nil, append_assoc, arith}
use Rattle.std.specs.Prelude.{IfOk, MatchOption}
use Rattle.std.specs.List.{slice_get}
use Rattle.std.specs.Global.{Vec}
use Rattle.std.proofs.lemmas.List.{length-append}
use Rattle.std.proofs.lemmas.Option.{slice_get-get_or}
use Rattle.std.proofs.Math.Seq.{get_or-append_seam}
use Rattle.histar_object.specs.State.{State}
use Rattle.histar_rules.specs.declared.raw.Denied.{Denied}
use Rattle.histar_rules.specs.declared.raw.RawCall.{RawCall}
use Rattle.histar_rules.specs.Rules.{Leaves}
use Rattle.histar_trace.specs.declared.entries.TraceEntry.{TraceEntry}
use Rattle.histar_syscall.specs.KernelModel.{KernelModel, state}
use Rattle.histar_raw_session.specs.declared.read_session.RawLine.{RawLine}
use Rattle.histar_raw_session.specs.Answers.{IsMadeOnLine}
use Rattle.histar_explain.specs.declared.explanations.Explanation.{Explanation}
use Rattle.histar_explain.specs.Explanations.{ExplainsDenial}
use Rattle.histar_raw_explain.specs.Texts.{raw_words, explanation_text}
use Rattle.histar_raw_explain.specs.Explained.{ExplainsCall, ExplainsLast, ExplainsOne, ExplainsCalls}

-- the last entry of a trace
module _ (k : KernelModel) (S : List TraceEntry) (e : TraceEntry) (same : S ≡ k.trace) (is : Some e ≡ slice_get S (length S - 1)) where
  at_last : (lines : List ℕ) → ExplainsCall (state k) e.line e.thread e.call e.denied lines → ExplainsLast k lines
  at_last lines explained =
      subst (λ (x : Option TraceEntry).
      MatchOption x (lines ≡ []) (λ (e : TraceEntry). ExplainsCall (state k) e.line e.thread e.call e.denied lines))
      (is ∙ ap (λ (T : List TraceEntry). slice_get T (length T - 1)) same) explained

  pub last_explained : {E : Type 0} (result : Result (Vec ℕ) E)
      → IfOk result (λ (lines : Vec ℕ). ExplainsCall (state k) e.line e.thread e.call e.denied lines.items)
      → IfOk result (λ (lines : Vec ℕ). ExplainsLast k lines.items)
  last_explained (Ok lines) explained = at_last lines.items explained
  last_explained (Err error) explained = explained

-- a granted call
pub call_granted : (s : State) (e : TraceEntry) (lines : List ℕ) → e.denied ≡ None → lines ≡ []
    → ExplainsCall s e.line e.thread e.call e.denied lines
call_granted s e lines granted none = subst (λ (o : Option Denied). ExplainsCall s e.line e.thread e.call o lines) (sym granted) none

-- a denied call
pub call_denied : (s : State) (e : TraceEntry) (d : Denied) (x : Explanation) (lines : List ℕ) → e.denied ≡ Some d
    → ExplainsDenial s e.thread e.call d x → lines ≡ explanation_text raw_words e.line e.thread x
    → ExplainsCall s e.line e.thread e.call e.denied lines
call_denied s e d x lines denied explained text =
    subst (λ (o : Option Denied). ExplainsCall s e.line e.thread e.call o lines) (sym denied) (x, explained, text)

-- the last entry of a trace with one more
last_is : (xs : List TraceEntry) (e : TraceEntry) → slice_get (xs ++ e ∷ []) (length (xs ++ e ∷ []) - 1) ≡ Some e
last_is xs e =
    let at : length (xs ++ e ∷ []) - 1 ≡ length xs = omega (arith, length-append xs (e ∷ [])) in
    let lt : length xs < length (xs ++ e ∷ []) = omega (arith, length-append xs (e ∷ [])) in
    ap (slice_get (xs ++ e ∷ [])) at ∙ slice_get-get_or (xs ++ e ∷ []) (length xs) e lt ∙ ap Some (get_or-append_seam xs e [] e)

-- an explanation at the state after a denied call is one at the state before it
before_it : (before after : State) (line thread : ℕ) (call : RawCall) (denied : Option Denied) (lines : List ℕ)
    → Leaves denied before thread call after → ExplainsCall after line thread call denied lines
    → ExplainsCall before line thread call denied lines
before_it before after line thread call None lines leaves none = none
before_it before after line thread call (Some d) lines leaves explained =
    (explained.0, subst (λ (s : State). ExplainsDenial s thread call d explained.0) leaves explained.1, explained.2)

-- one call that was made and is the last of the trace
pub one_explained : (old new : KernelModel) (asked : RawLine) (lines : List ℕ) → IsMadeOnLine old asked new
    → ExplainsLast new lines → ExplainsOne (state old) (state new) asked lines
one_explained old new asked lines made explained =
    let e : TraceEntry = record { line = asked.line; thread = asked.thread; call = asked.call; denied = made.0 } in
    let found : slice_get new.trace (length new.trace - 1) ≡ Some e =
    ap (λ (T : List TraceEntry). slice_get T (length T - 1)) made.1.trace ∙ last_is old.trace e in
    let here : ExplainsCall (state new) asked.line asked.thread asked.call made.0 lines =
    subst (λ (x : Option TraceEntry). MatchOption x (lines ≡ [])
    (λ (e : TraceEntry). ExplainsCall (state new) e.line e.thread e.call e.denied lines)) found explained in
    record {
      denied = made.0;
      outcome = made.1.outcome;
      leaves = made.1.state;
      explains = before_it (state old) (state new) asked.line asked.thread asked.call made.0 lines made.1.state
          here;
    }

pub one_if_ok : {E : Type 0} (result : Result (Vec ℕ) E) (old new : KernelModel) (asked : RawLine)
    → IsMadeOnLine old asked new → IfOk result (λ (lines : Vec ℕ). ExplainsLast new lines.items)
    → IfOk result (λ (lines : Vec ℕ). ExplainsOne (state old) (state new) asked lines.items)
one_if_ok (Ok lines) old new asked made explained = one_explained old new asked lines.items made explained
one_if_ok (Err e) old new asked made explained = explained

-- one more call
pub explains_more : (first mid last : State) (calls : List RawLine) (asked : RawLine) (text lines : List ℕ)
    → ExplainsCalls first calls text mid → ExplainsOne mid last asked lines
    → ExplainsCalls first (calls ++ asked ∷ []) (text ++ lines) last
explains_more first mid last [] asked text lines done one = (
  last,
  lines,
  [],
  subst (λ (s : State). ExplainsOne s last asked lines) done.1 one,
  ap
      (λ (l : List ℕ). l ++ lines) done.0 ∙ sym (append-nil lines),
  (refl, refl),
)
explains_more first mid last (b ∷ calls) asked text lines done one = (
  done.0,
  done.1,
  done.2 ++ lines,
  done.3,
  ap (λ (l : List ℕ). l ++ lines) done.4 ∙ append_assoc done.1 done.2 lines,
  explains_more done.0 mid last calls asked done.2 lines done.5 one,
)
