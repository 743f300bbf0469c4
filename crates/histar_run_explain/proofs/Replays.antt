-- The calls of a trace, made once more, lead to the same states.
use Rattle.std.proofs.Common.{◌≡◌, ℕ, true, ◌+◌, ◌<◌, ◌≤◌, List, [], ◌∷◌, ◌++◌, length, get_or, take, drop, Option, None, Some, Result, Ok, Err, refl}
use Rattle.std.proofs.Common.{sym, ap, ◌∙◌, subst, append-nil, append_assoc}
use Rattle.std.proofs.lemmas.List.{take_more, drop_more, take_all, drop_all}
use Rattle.histar_object.specs.State.{State}
use Rattle.histar_rules.specs.declared.raw.Denied.{Denied}
use Rattle.histar_rules.specs.declared.raw.RawCall.{RawCall}
use Rattle.histar_rules.specs.declared.raw.RawCall.TheVariants.{MakeCategory, OwnLabel, SetLabel, SetClearance, MakeSegment, MakeContainer}
use Rattle.histar_rules.specs.declared.raw.RawCall.TheVariants.{MakeThread, MakeGate, Enter, Read, Write, Unlink, LabelOf}
use Rattle.histar_rules.specs.Rules.{Changes, Leaves}
use Rattle.histar_rules.specs.Sound.{IsSound}
use Rattle.histar_trace.specs.declared.entries.TraceEntry.{TraceEntry}
use Rattle.histar_syscall.specs.KernelModel.{KernelModel, state}
use Rattle.histar_syscall.specs.Runs.{IsRun, IsMade}
use Rattle.histar_syscall.proofs.OneEnd.{one_end}
use Rattle.std.specs.Prelude.{OnOk}
use Rattle.std.proofs.lemmas.Bool.{true≢false}
use Rattle.histar_explain.specs.declared.explanations.Explanation.{Explanation}
use Rattle.histar_explain.specs.Explanations.{ExplainsDenial}
use Rattle.histar_raw_explain.specs.Texts.{Words, explanation_text}
use Rattle.histar_run_explain.specs.Entries.{Adds, AddsEntries, ExplainsOutcome, ExplainsEntry, ExplainsEntries, EndsAsRun, changes_nothing}
use Rattle.histar_run_explain.specs.Entries.{only_looks}

-- one entry more
entries_more : (words : Words) (s mid last : State) (entries : List TraceEntry) (e : TraceEntry) (text lines : List ℕ)
    → ExplainsEntries words s entries text mid → ExplainsEntry words mid e lines last
    → ExplainsEntries words s (entries ++ e ∷ []) (text ++ lines) last
entries_more words s mid last [] e text lines done one = (
  last,
  lines,
  [],
  subst (λ (x : State). ExplainsEntry words x e lines last) done.1 one,
  ap
      (λ (l : List ℕ). l ++ lines) done.0 ∙ sym (append-nil lines),
  (refl, refl),
)
entries_more words s mid last (f ∷ entries) e text lines done one = (
  done.0,
  done.1,
  done.2 ++ lines,
  done.3,
  ap (λ (l : List ℕ). l ++ lines) done.4 ∙ append_assoc done.1 done.2 lines,
  entries_more words done.0 mid last entries e done.2 lines done.5 one,
)

-- a granted call that only looks leaves the state as it was
look_leaves : (s end : State) (t : ℕ) (call : RawCall) → only_looks call ≡ true → Changes s t call end → end ≡ s
look_leaves s end t MakeCategory e new = absurd (true≢false (sym e))
look_leaves s end t OwnLabel e new = new
look_leaves s end t (SetLabel label) e new = absurd (true≢false (sym e))
look_leaves s end t (SetClearance clearance) e new = absurd (true≢false (sym e))
look_leaves s end t (MakeSegment d label bytes) e new = absurd (true≢false (sym e))
look_leaves s end t (MakeContainer d label) e new = absurd (true≢false (sym e))
look_leaves s end t (MakeThread d label clearance) e new = absurd (true≢false (sym e))
look_leaves s end t (MakeGate d label clearance entry) e new = absurd (true≢false (sym e))
look_leaves s end t (Enter d o wanted clearance shown) e new = absurd (true≢false (sym e))
look_leaves s end t (Read d o) e new = new
look_leaves s end t (Write d o keep bytes) e new = absurd (true≢false (sym e))
look_leaves s end t (Unlink d o) e new = absurd (true≢false (sym e))
look_leaves s end t (LabelOf d o) e new = new

-- a denied call leaves the state as it is
nothing_leaves : (s end : State) (t : ℕ) (denied : Option Denied) (call : RawCall) → changes_nothing denied call ≡ true
    → Leaves denied s t call end → end ≡ s
nothing_leaves s end t None call e new = look_leaves s end t call e new
nothing_leaves s end t (Some denied) call e new = new

-- an entry that changes nothing may be skipped
pub skipped : (s : State) (e : TraceEntry) → changes_nothing e.denied e.call ≡ true → EndsAsRun s (e ∷ []) s
skipped s e is = λ end run. sym (nothing_leaves s run.0 e.thread e.denied e.call is run.2) ∙ sym run.3

-- the call of an entry that changes something is made once more
made_again : (old new : KernelModel) (e : TraceEntry) → IsMade old e.thread e.call new → IsSound (state old)
    → EndsAsRun (state old) (e ∷ []) (state new)
made_again old new e made sound = λ end run.
    let leaves : Leaves e.denied (state old) e.thread e.call (state new) =
    subst (λ (x : Option Denied). Leaves x (state old) e.thread e.call (state new)) (sym made.1.outcome ∙ run.1)
    made.1.state in
    one_end (state old) (state new) end (e ∷ []) sound (state new, run.1, leaves, refl) run

-- whatever the raw call is answered
pub made_or_failed : {X E : Type 0} (r : Result X E) (old new : KernelModel) (e : TraceEntry)
    → OnOk r (IsMade old e.thread e.call new) → OnOk r (IsSound (state old))
    → OnOk r (EndsAsRun (state old) (e ∷ []) (state new))
made_or_failed (Ok done) old new e made sound = made_again old new e made sound
made_or_failed (Err error) old new e made sound = tt

-- the first entries were made once more and explained, and the others lead on from there
pub record IsReplayed (words : Words) (first : State) (entries : List TraceEntry) (i : ℕ) (old text : List ℕ) (now : State) : Type 0 where
  pub explained : AddsEntries words first (take i entries) now old text
  pub rest : (end : State) → IsRun first entries end → IsRun now (drop i entries) end

-- one entry more was made, or skipped
module _ (words : Words) (first end : State) (entries : List TraceEntry) (run : IsRun first entries end) (i : ℕ)
    (e : TraceEntry) (lt : i < length entries) (is : e ≡ get_or entries i e) where
  pub replayed_more : (s new : State) (before text longer : List ℕ) → IsReplayed words first entries i before text s
      → EndsAsRun s (e ∷ []) new → Adds (ExplainsOutcome words s e e.denied) text longer
      → IsReplayed words first entries (i + 1) before longer new
  replayed_more s new before text longer so_far ends adds =
      let next : drop i entries ≡ e ∷ drop (i + 1) entries = drop_more entries i e lt ∙ ap (λ (x : TraceEntry). x ∷ drop (i + 1) entries) (sym is) in
      let here : (last : State) → IsRun first entries last → IsRun s (e ∷ drop (i + 1) entries) last =
      λ last r. subst (λ (es : List TraceEntry). IsRun s es last) next (so_far.rest last r) in
      let at = here end run in
      let leaves : Leaves e.denied s e.thread e.call new =
      subst (λ (x : State). Leaves e.denied s e.thread e.call x) (sym (ends at.0 (at.0, at.1, at.2, refl))) at.2 in
      let done = so_far.explained in
      record {
        explained = (
          done.0 ++ adds.0,
          adds.1 ∙ ap (λ (l : List ℕ). l ++ adds.0) done.1 ∙ append_assoc before done.0 adds.0,
          subst (λ (es : List TraceEntry). ExplainsEntries words first es (done.0 ++ adds.0) new)
              (ap (λ (x : TraceEntry). take i entries ++ x ∷ []) is ∙ sym (take_more entries i e lt))
              (entries_more words first s new (take i entries) e done.0 adds.0 done.2
              (record { outcome = at.1; leaves = leaves; explains = adds.2 })),
        );
        rest = λ last r.
            let there = here last r in
            subst (λ (x : State). IsRun x (drop (i + 1) entries) last) (sym (ends there.0 (there.0, there.1, there.2, refl))) there.3;
      }

-- no entry was made yet
pub replayed_none : (words : Words) (first : State) (entries : List TraceEntry) (text : List ℕ) → IsReplayed words first entries 0 text text first
replayed_none words first entries text = record { explained = ([], sym (append-nil text), (refl, refl)); rest = λ end run. run }

-- all entries were made
module _ (words : Words) (first : State) (entries : List TraceEntry) (i : ℕ) (old text : List ℕ) (now : State)
    (le : length entries ≤ i) (all : IsReplayed words first entries i old text now) where
  pub replayed_all : AddsEntries words first entries now old text
  replayed_all = subst (λ (es : List TraceEntry). AddsEntries words first es now old text) (take_all i entries le) all.explained

  pub replayed_end : EndsAsRun first entries now
  replayed_end = λ end run. sym (subst (λ (es : List TraceEntry). IsRun now es end) (drop_all i entries le) (all.rest end run))

-- nothing is added for a granted entry
pub granted_adds : (words : Words) (s : State) (e : TraceEntry) (text : List ℕ) → e.denied ≡ None
    → Adds (ExplainsOutcome words s e e.denied) text text
granted_adds words s e text granted = ([], sym (append-nil text), subst (λ (o : Option Denied). ExplainsOutcome words s e o []) (sym granted) refl)

-- a denied entry whose explanation was added
module _ (words : Words) (s : State) (e : TraceEntry) (d : Denied) (x : Explanation) (denied : e.denied ≡ Some d)
    (explained : ExplainsDenial s e.thread e.call d x) where
  pub denied_adds : {X E : Type 0} (result : Result X E) (old new : List ℕ)
      → OnOk result (new ≡ old ++ explanation_text words e.line e.thread x)
      → OnOk result (Adds (ExplainsOutcome words s e e.denied) old new)
  denied_adds (Ok done) old new text = (
    explanation_text words e.line e.thread x,
    text,
    subst
        (λ (o : Option Denied). ExplainsOutcome words s e o (explanation_text words e.line e.thread x))
        (sym denied) (x, explained, refl),
  )
  denied_adds (Err error) old new text = tt
