-- A machine that makes the calls of a session, one after another.
use Rattle.std.proofs.Common.{◌≡◌, ℕ, Bool, true, false, List, [], ◌∷◌}
use Rattle.std.proofs.Common.{◌++◌, Ok, refl, sym, ap, subst, ◌∙◌, append_assoc, append-nil}
use Rattle.std.specs.Prelude.{nat_lt, if◌then◌else◌}
use Rattle.histar_flat.specs.declared.calls.CallLine.{CallLine}
use Rattle.histar_flat.specs.Accounts.{Accounts}
use Rattle.histar_flat.specs.FlatState.{Flat}
use Rattle.histar_flat.specs.FlatCalls.{flat_after}
use Rattle.histar_flat.specs.Meaning.{boot, flat_end}
use Rattle.histar_flat.proofs.Laws.{states_go_on}
use Rattle.histar_script.specs.Reading.{script_of}
use Rattle.histar_script.specs.Script.{ScriptModel}
use Rattle.histar_dialogue.specs.declared.running.Running.{Running}
use Rattle.histar_dialogue.specs.Running.{AddsAnswers, AnswersCall, IsBooted, Ran, Represents, answer_text, answers_behind}

-- no call was made
pub adds_none : (first : ℕ) (r : Running) (before : List ℕ) → AddsAnswers first r r before before []
adds_none first r before = (refl, λ accounts f known. (sym (append-nil before), known))

-- a call was made, and its answer was added if it is behind the first lines
pub adds_one : (first : ℕ) (old new : Running) (before after said : List ℕ) (c : CallLine) → AnswersCall old new c said
    → after ≡ before ++ (if nat_lt first c.line then said else []) → AddsAnswers first old new before after (c ∷ [])
adds_one first old new before after said c answers is = (
  answers.0,
  λ accounts f known.
      let answered = answers.1 accounts f known in (
        is
            ∙ ap (λ (l : List ℕ). before ++ (if nat_lt first c.line then l else [])) answered.0
            ∙ ap (λ (l : List ℕ). before ++ l) (sym (append-nil (if nat_lt first c.line then answer_text accounts f c else []))),
        answered.1,
      ),
)

-- its answer was added
pub adds_shown : (first : ℕ) (old new : Running) (before after said : List ℕ) (c : CallLine) → AnswersCall old new c said
    → nat_lt first c.line ≡ true → after ≡ before ++ said → AddsAnswers first old new before after (c ∷ [])
adds_shown first old new before after said c answers lt is =
    adds_one first old new before after said c answers
    (is ∙ ap (λ (b : Bool). before ++ (if b then said else [])) (sym lt))

-- its answer was not added
pub adds_hidden : (first : ℕ) (old new : Running) (before said : List ℕ) (c : CallLine) → AnswersCall old new c said
    → nat_lt first c.line ≡ false → AddsAnswers first old new before before (c ∷ [])
adds_hidden first old new before said c answers le =
    adds_one first old new before before said c answers
    (sym (append-nil before) ∙ ap (λ (b : Bool). before ++ (if b then said else [])) (sym le))

module _ (first : ℕ) (accounts : Accounts) where
  -- the answers to one call more
  answers_on : (f : Flat) (calls : List CallLine) (c : CallLine)
      → answers_behind first accounts f (calls ++ c ∷ [])
      ≡ answers_behind first accounts f calls ++ answers_behind first accounts (flat_end accounts f calls) (c ∷ [])
  answers_on f [] c = refl
  answers_on f (d ∷ calls) c =
      ap (λ (l : List ℕ). (if nat_lt first d.line then answer_text accounts f d else []) ++ l)
      (answers_on (flat_after accounts f d.process d.call) calls c)
      ∙ sym (append_assoc (if nat_lt first d.line then answer_text accounts f d else [])
      (answers_behind first accounts (flat_after accounts f d.process d.call) calls)
      (answers_behind first accounts (flat_end accounts (flat_after accounts f d.process d.call) calls) (c ∷ [])))

-- one call more was made
pub adds_on : (first : ℕ) (old mid new : Running) (before between after : List ℕ) (calls : List CallLine) (c : CallLine)
    → AddsAnswers first old mid before between calls → AddsAnswers first mid new between after (c ∷ [])
    → AddsAnswers first old new before after (calls ++ c ∷ [])
adds_on first old mid new before between after calls c earlier later = (
  later.0 ∙ earlier.0,
  λ accounts f known.
      let one = earlier.1 accounts f known in
      let two = later.1 accounts (flat_end accounts f calls) one.1 in (
        two.0
            ∙ ap (λ (l : List ℕ). l ++ answers_behind first accounts (flat_end accounts f calls) (c ∷ [])) one.0
            ∙ append_assoc before (answers_behind first accounts f calls) (answers_behind first accounts (flat_end accounts f calls) (c ∷ []))
            ∙ ap (λ (l : List ℕ). before ++ l) (sym (answers_on first accounts f calls c)),
        subst (Represents new accounts) (sym (states_go_on accounts f calls (c ∷ []))) two.1,
      ),
)

-- the script of a text was run
pub ran_so : (first : ℕ) (text : List ℕ) (start end : Running) (answers : List ℕ) (script same : ScriptModel)
    → script_of text ≡ Ok script → script_of text ≡ Ok same → IsBooted script.accounts same.accounts start
    → AddsAnswers first start end [] answers script.calls → Ran first text end answers
ran_so first text start end answers script same is is_same booted adds =
    let one : same ≡ script = cc in
    let all = adds.1 script.accounts (boot script.accounts) booted.1 in
    record {
      script = script;
      has_run = record { is_script = is; accounts = adds.0 ∙ booted.0 ∙ ap (λ (s : ScriptModel). s.accounts) one; represents = all.1 };
      said = all.0;
    }
