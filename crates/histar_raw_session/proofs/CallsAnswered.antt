-- Answering the calls of a session one by one.
use Rattle.std.proofs.Common.{◌≡◌, ℕ, ◌+◌, ◌<◌, List, [], ◌∷◌, ◌++◌, length, take, drop, get_or, Option, Some, None, Result, Ok, Err, refl, sym, ap}
use Rattle.std.proofs.Common.{ap₂, subst, ◌∙◌, inl, inr, append-nil, append_assoc, take-append-drop}
use Rattle.std.specs.Prelude.{IfOk, OnOk}
use Rattle.std.proofs.lemmas.List.{drop_more}
use Rattle.std.proofs.KnownBytes.{Appends-nil, Appends-kept, Appends-trans}
use Rattle.std.specs.Io.KnownBytes.{Appends}
use Rattle.histar_io.specs.Writing.{AppendsFront}
use Rattle.histar_io.proofs.WritingLemmas.{whole_front}
use Rattle.histar_object.specs.State.{State}
use Rattle.histar_rules.specs.declared.raw.Denied.{Denied}
use Rattle.histar_syscall.specs.declared.answers.Answer.{Answer}
use Rattle.histar_syscall.specs.Answers.{IsAnswerValue}
use Rattle.histar_syscall.specs.KernelModel.{KernelModel, state, Called}
use Rattle.histar_raw_session.specs.declared.read_session.RawLine.{RawLine}
use Rattle.histar_raw_session.specs.Answers.{line_text, PrintsCall, PrintsCalls, AnswersCall, IsMadeOnLine, BeginsAnswer, AnswersCalls, BeginsAnswers}

-- ---- one call

-- the kernel's answer is the outcome, and the call's line prints it
pub granted : {X E : Type 0} (first : State) (old new : KernelModel) (asked : RawLine) (revealed : Answer)
    (items : X → List ℕ) (result : Result X E) → state old ≡ first → Called old new asked.thread asked.call None
    → IsAnswerValue (state old) asked.thread asked.call revealed
    → IfOk result (λ line. items line ≡ line_text asked.line (Ok revealed))
    → IfOk result (λ line. PrintsCall first (state new) asked (items line))
granted first old new asked revealed items (Ok line) same called right text =
    subst (λ (s : State). PrintsCall s (state new) asked (items line)) same
    (record { outcome = Ok revealed; has = (called.outcome, right, called.state); prints = text })
granted first old new asked revealed items (Err e) same called right text = tt

-- and so with a denial
pub denied : {X E : Type 0} (first : State) (old new : KernelModel) (asked : RawLine) (d : Denied) (items : X → List ℕ)
    (result : Result X E) → state old ≡ first → Called old new asked.thread asked.call (Some d)
    → IfOk result (λ line. items line ≡ line_text asked.line (Err d))
    → IfOk result (λ line. PrintsCall first (state new) asked (items line))
denied first old new asked d items (Ok line) same called text =
    subst (λ (s : State). PrintsCall s (state new) asked (items line)) same
    (record { outcome = Err d; has = (called.outcome, called.state); prints = text })
denied first old new asked d items (Err e) same called text = tt

-- the call was made on its line
pub made_on_line : {X E : Type 0} (old begun new : KernelModel) (asked : RawLine) (d : Option Denied)
    (result : Result X E) → begun ≡ record old { line = asked.line } → Called begun new asked.thread asked.call d
    → OnOk result (IsMadeOnLine old asked new)
made_on_line old begun new asked d (Ok x) same called = (d, subst (λ (k : KernelModel). Called k new asked.thread asked.call d) same called)
made_on_line old begun new asked d (Err e) same called = tt

-- ---- calls one after another

-- a whole text followed by a beginning of the next one
pub front_after : (a b c : Option (List ℕ)) (text next : List ℕ) → Appends a b text → AppendsFront b c next → AppendsFront a c (text ++ next)
front_after a b c text next whole begun = (
  begun.0,
  record {
    front = text ++ begun.1.front;
    parts = ap (λ (l : List ℕ). text ++ l) begun.1.parts ∙ sym (append_assoc text begun.1.front begun.0);
    appended = Appends-trans a b c text begun.1.front whole begun.1.appended;
  },
)

-- one more call is printed
prints_more : (first mid last : State) (calls : List RawLine) (asked : RawLine) (text line : List ℕ)
    → PrintsCalls first calls text mid → PrintsCall mid last asked line
    → PrintsCalls first (calls ++ asked ∷ []) (text ++ line) last
prints_more first mid last [] asked text line done one = (
  last,
  line,
  [],
  subst (λ (s : State). PrintsCall s last asked line) done.1 one,
  ap (λ (l : List ℕ). l ++ line)
      done.0 ∙ sym (append-nil line),
  (refl, refl),
)
prints_more first mid last (b ∷ calls) asked text line done one = (
  done.0,
  done.1,
  done.2 ++ line,
  done.3,
  ap (λ (l : List ℕ). l ++ line) done.4 ∙ append_assoc done.1 done.2 line,
  prints_more done.0 mid last calls asked done.2 line done.5 one,
)

-- before the first call nothing is written
pub answers_none : (s : State) (a : Option (List ℕ)) → AnswersCalls s s a a []
answers_none s a = record { text = []; prints = (refl, refl); written = Appends-nil a }

-- one more call is answered
pub answers_more : (first mid last : State) (a b c : Option (List ℕ)) (calls : List RawLine) (asked : RawLine)
    → AnswersCalls first mid a b calls → AnswersCall mid last b c asked
    → AnswersCalls first last a c (calls ++ asked ∷ [])
answers_more first mid last a b c calls asked done one = record {
  text = done.text ++ one.line;
  prints = prints_more first mid last calls asked done.text one.line done.prints one.prints;
  written = Appends-trans a b c done.text one.line done.written one.written;
}

-- a beginning of the next line makes a beginning of the output
pub begins_more : (first mid last : State) (a b c : Option (List ℕ)) (calls front rest : List RawLine) (asked : RawLine)
    → calls ≡ front ++ asked ∷ rest → AnswersCalls first mid a b front → BeginsAnswer mid last b c asked
    → BeginsAnswers first a c calls
begins_more first mid last a b c calls front rest asked parts done (inl keeps) = record {
  first = front;
  rest = asked ∷ rest;
  parts = parts;
  text = done.text;
  last = mid;
  prints = done.prints;
  written = whole_front a c done.text (Appends-kept a b c done.text done.written keeps);
}
begins_more first mid last a b c calls front rest asked parts done (inr begun) = record {
  first = front ++ asked ∷ [];
  rest = rest;
  parts = parts ∙ sym (append_assoc front (asked ∷ []) rest);
  text = done.text ++ begun.0;
  last = last;
  prints = prints_more first mid last front asked done.text begun.0 done.prints begun.1;
  written = front_after a b c done.text begun.0 done.written begun.2;
}

-- a list is the part before a place, the item there, and the part after it
pub parts_at : (calls front : List RawLine) (asked : RawLine) → front ≡ take (length front) calls
    → (length front < length calls) × (asked ≡ get_or calls (length front) asked)
    → calls ≡ front ++ asked ∷ drop (length front + 1) calls
parts_at calls front asked begins here =
    let lt : length front < length calls = here.0 in
    sym (take-append-drop (length front) calls)
    ∙ ap₂ (λ (l m : List RawLine). l ++ m) (sym begins) (drop_more calls (length front) asked lt
    ∙ ap (λ (x : RawLine). x ∷ drop (length front + 1) calls) (sym here.1))
