-- The first bad line of a script that is no test is the first line that breaks a rule.
use Rattle.std.proofs.Common.{◌≡◌, ℕ, ◌+◌, Bool, true, false, List, [], ◌∷◌, ◌++◌, take, length, length-append, Option, Some, None, Result, Ok, Err}
use Rattle.std.proofs.Common.{◌⊎◌, inl, inr, refl, sym, ap, ap₂, ◌∙◌, append_assoc, arith}
use Rattle.std.specs.Prelude.{IfOk, ◌-◌, is_none, is_some, option_and_then, option_map, if◌then◌else◌}
use Rattle.std.specs.List.{slice_get}
use Rattle.std.specs.Global.{Vec}
use Rattle.histar_flat.specs.declared.calls.CallLine.{CallLine}
use Rattle.histar_flat.specs.Accounts.{Accounts}
use Rattle.histar_script.specs.declared.fault.Fault.{Fault}
use Rattle.histar_script.specs.declared.items.Item.{Item}
use Rattle.histar_script.specs.declared.items.Item.TheVariants as items
use Rattle.histar_script.specs.Lines.{lines_of}
use Rattle.histar_script.specs.Script.{ScriptModel}
use Rattle.histar_script.specs.Reading.{item_of, script_of}
use Rattle.histar_script.proofs.LineLemmas.{no_lines}
use Rattle.histar_lint.specs.Lines.{first_sentence}
use Rattle.histar_never.specs.declared.claims.Never.{Never}
use Rattle.histar_never.specs.Claims.{never_of}
use Rattle.histar_test.specs.declared.asking.Asking.{Asking}
use Rattle.histar_test.specs.declared.steps.Step.{Step}
use Rattle.histar_test.specs.declared.steps.Step.TheVariants.{Asks, Expects, Forbids, Makes}
use Rattle.histar_test.specs.Faults.{EachBadTestHasASentence, EachRefusedLineBreaksOne, NoTakenLineBreaksOne, fault_by, fault_in}
use Rattle.histar_test.specs.Faults.{is_waiting, last_after, last_behind, line_fault, rules_by, rules_or, sentence_at}
use Rattle.histar_test.specs.Laws.{makes_call}
use Rattle.histar_test.specs.Steps.{asked_of, asking_of, asking_step, call_in, call_step, expectation_of, forbidden_of, never_step, open_after}
use Rattle.histar_test.specs.Steps.{step_by, step_of, step_or, steps_before, steps_from, test_by, test_with}
use Rattle.histar_test.proofs.StepLemmas.{Read, before_before, by_open, by_step, none_before}
use Rattle.histar_test.proofs.StepLaws.{call_says, no_comment}
use Rattle.histar_test.proofs.LineLaws.{forbids_alone}
use Rattle.histar_test.proofs.StrictLaws.{any_number, asks_no_call, asks_nothing_more, forbids_no_call}
use Rattle.histar_test.proofs.FaultLemmas.{asked_judged, never_judged}

-- ---- one line

-- The line breaks no rule, and whatever lines follow it, their steps come after those that it adds.
pub record IsTaken (accounts : Accounts) (n : ℕ) (last : Option Bool) (line : List ℕ) : Type 0 where
  pub kept : line_fault accounts last line ≡ None
  pub added : List Step
  pub goes_on : (lines : List (List ℕ)) → steps_from accounts n (is_waiting last) (line ∷ lines)
      ≡ steps_before added (steps_from accounts (n + 1) (is_waiting (last_after last line)) lines)

-- The line breaks a rule, and is refused.
pub record IsRefused (accounts : Accounts) (n : ℕ) (last : Option Bool) (line : List ℕ) : Type 0 where
  pub broken : is_none (line_fault accounts last line) ≡ false
  pub refused : (lines : List (List ℕ)) → steps_from accounts n (is_waiting last) (line ∷ lines) ≡ Err n

-- the line is taken and breaks no rule, or it is refused and breaks one
abbrev pub Verdict : Accounts → ℕ → Option Bool → List ℕ → Type 0
Verdict accounts n last line = IsTaken accounts n last line ⊎ IsRefused accounts n last line

-- a sentence that isn't there
nothing : (o : Option (List ℕ)) → is_none o ≡ true → o ≡ None
nothing None is = refl
nothing (Some x) is = absurd cc

-- a sentence that is there
something : (o : Option (List ℕ)) → is_none o ≡ false → is_some o ≡ true
something None is = absurd cc
something (Some x) is = refl

-- an expectation makes no call
expects_no_call : (line text : List ℕ) (item : Option Item) → item_of line ≡ item → expectation_of line ≡ Some text → call_in 0 item ≡ None
expects_no_call line text None says is = refl
expects_no_call line text (Some (items.User u)) says is = refl
expects_no_call line text (Some (items.Group g)) says is = refl
expects_no_call line text (Some items.Comment) says is = refl
expects_no_call line text (Some (items.Call p c)) says is =
    let none : expectation_of line ≡ None = (no_comment line (call_says line p c says)).1 in
    absurd cc

module _ (accounts : Accounts) (n : ℕ) (last : Option Bool) (line : List ℕ) where
  -- the line is a claim `#never` with this text, or has this question or claim on trust, and this expectation
  abbrev Says : Option (List ℕ) → Option (List ℕ) → Option (List ℕ) → Type 0
  Says claim asked text = (forbidden_of line ≡ claim) × (asked_of line ≡ asked) × (expectation_of line ≡ text)

  module _ (claim asked text : Option (List ℕ)) (says : Says claim asked text) where
    -- its step
    step_is : step_of accounts n line ≡ step_or accounts n claim (step_by n line asked text (call_in n (item_of line)))
    step_is i = step_or accounts n (says.0 i) (step_by n line (says.1 i) (says.2 i) (call_in n (item_of line)))

    -- the sentence on it
    said_is : line_fault accounts last line ≡ first_sentence (rules_or accounts claim (rules_by last asked text))
    said_is i = first_sentence (rules_or accounts (says.0 i) (rules_by last (says.1 i) (says.2 i)))

    -- whether a call waits after it
    after_is : (makes : Bool) → makes_call line ≡ makes
        → last_after last line ≡ (if makes then Some true else (if is_some text then option_map (λ (o : Bool). false) last else last))
    after_is makes m =
        ap₂ (λ (b : Bool) (x : Option (List ℕ)).
        let after : Option Bool = if b then Some true else (if is_some x then option_map (λ (o : Bool). false) last else last) in after) m says.2

  -- a line whose step may be here is taken
  taken : (step : Step) (opened : Bool) (after : Option Bool) → step_of accounts n line ≡ Ok (Some step)
      → line_fault accounts last line ≡ None → last_after last line ≡ after → is_waiting after ≡ opened
      → open_after (is_waiting last) step ≡ Some opened → Verdict accounts n last line
  taken step opened after is kept leaves waits opens = inl (record {
    kept = kept;
    added = step ∷ [];
    goes_on = λ lines. by_open accounts n (is_waiting last) line lines step (Some opened) is opens
        ∙ ap (λ (b : Bool). steps_before (step ∷ []) (steps_from accounts (n + 1) b lines)) (sym (ap is_waiting leaves ∙ waits));
  })

  -- a line that is bad is refused
  bad : step_of accounts n line ≡ Err n → is_none (line_fault accounts last line) ≡ false → Verdict accounts n last line
  bad is broken = inr (record { broken = broken; refused = λ lines. by_step accounts n (is_waiting last) line lines (Err n) is })

  -- a claim `#never`
  forbids : (c : List ℕ) (o : Option Never) → forbidden_of line ≡ Some c → never_of accounts n c ≡ o → Verdict accounts n last line
  forbids c None is reads =
      let alone = forbids_alone line c is in
      let says : Says (Some c) None None = (is, alone.0, alone.1) in
      bad (step_is (Some c) None None says ∙ ap (never_step n) reads)
      (ap is_none (said_is (Some c) None None says) ∙ never_judged accounts n c ∙ ap is_some reads)
  forbids c (Some q) is reads =
      let alone = forbids_alone line c is in
      let says : Says (Some c) None None = (is, alone.0, alone.1) in
      let step : step_of accounts n line ≡ Ok (Some (Forbids q)) = step_is (Some c) None None says ∙ ap (never_step n) reads in
      let judged : is_none (line_fault accounts last line) ≡ true =
      ap is_none (said_is (Some c) None None says) ∙ never_judged accounts n c ∙ ap is_some reads in
      taken (Forbids q) (is_waiting last) last step (nothing (line_fault accounts last line) judged)
      (after_is (Some c) None None says false (ap is_some (forbids_no_call 0 line c (item_of line) refl is))) refl refl

  -- a question or a claim on trust
  asks : (a : List ℕ) (o : Option Asking) → forbidden_of line ≡ None → asked_of line ≡ Some a → asking_of n a ≡ o → Verdict accounts n last line
  asks a None free is reads =
      let text = expectation_of line in
      let says : Says None (Some a) text = (free, is, refl) in
      bad (step_is None (Some a) text says ∙ ap (asking_step n) reads)
      (ap is_none (said_is None (Some a) text says) ∙ asked_judged n a ∙ ap is_some reads)
  asks a (Some q) free is reads =
      let says : Says None (Some a) None = (free, is, asks_nothing_more line a is) in
      let step : step_of accounts n line ≡ Ok (Some (Asks q)) = step_is None (Some a) None says ∙ ap (asking_step n) reads in
      let judged : is_none (line_fault accounts last line) ≡ true =
      ap is_none (said_is None (Some a) None says) ∙ asked_judged n a ∙ ap is_some reads in
      taken (Asks q) (is_waiting last) last step (nothing (line_fault accounts last line) judged)
      (after_is None (Some a) None says false (ap is_some (asks_no_call 0 line a (item_of line) refl is))) refl refl

  -- a line without a question, a claim or an expectation
  plain : (call : Option CallLine) → Says None None None → call_in n (item_of line) ≡ call → Verdict accounts n last line
  plain None says is =
      let same = after_is None None None says false (any_number n (item_of line) ∙ ap is_some is) in
      let step : step_of accounts n line ≡ Ok None =
      step_is None None None says ∙ ap (λ (c : Option CallLine). let read : Result (Option Step) ℕ = Ok (call_step line c) in read) is in
      inl (record {
        kept = said_is None None None says;
        added = [];
        goes_on = λ lines. by_step accounts n (is_waiting last) line lines (Ok None) step
            ∙ sym (none_before (steps_from accounts (n + 1) (is_waiting last) lines))
            ∙ ap (λ (o : Option Bool). steps_before [] (steps_from accounts (n + 1) (is_waiting o) lines)) (sym same);
      })
  plain (Some c) says is =
      let step : step_of accounts n line ≡ Ok (Some (Makes c line)) =
      step_is None None None says ∙ ap (λ (c : Option CallLine). let read : Result (Option Step) ℕ = Ok (call_step line c) in read) is in
      taken (Makes c line) true (Some true) step (said_is None None None says)
      (after_is None None None says true (any_number n (item_of line) ∙ ap is_some is)) refl refl

-- an expectation
expects : (accounts : Accounts) (n : ℕ) (last : Option Bool) (line text : List ℕ) → Says accounts n last line None None (Some text)
    → Verdict accounts n last line
expects accounts n None line text says = inr (record {
  broken = ap is_none (said_is accounts n None line None None (Some text) says);
  refused = λ lines. by_open accounts n false line lines (Expects text) None (step_is accounts n None line None None (Some text) says) refl;
})
expects accounts n (Some false) line text says = inr (record {
  broken = ap is_none (said_is accounts n (Some false) line None None (Some text) says);
  refused = λ lines. by_open accounts n false line lines (Expects text) None (step_is accounts n (Some false) line None None (Some text) says) refl;
})
expects accounts n (Some true) line text says =
    let step = step_is accounts n (Some true) line None None (Some text) says in
    taken accounts n (Some true) line (Expects text) false (Some false) step (said_is accounts n (Some true) line None None (Some text) says)
    (after_is accounts n (Some true) line None None (Some text) says false
    (ap is_some (expects_no_call line text (item_of line) refl says.2))) refl refl

-- each line is taken and breaks no rule, or is refused and breaks one
pub verdict : (accounts : Accounts) (n : ℕ) (last : Option Bool) (line : List ℕ) → Verdict accounts n last line
verdict accounts n last line = by (forbidden_of line) (asked_of line) (expectation_of line) refl refl refl
  where
    by : (claim asked text : Option (List ℕ)) → forbidden_of line ≡ claim → asked_of line ≡ asked → expectation_of line ≡ text
        → Verdict accounts n last line
    by (Some c) asked text free is e = forbids accounts n last line c (never_of accounts n c) free refl
    by None (Some a) text free is e = asks accounts n last line a (asking_of n a) free is refl
    by None None (Some text) free is e = expects accounts n last line text (free, is, e)
    by None None None free is e = plain accounts n last line (call_in n (item_of line)) (free, is, e) refl

-- each refused line breaks a rule
pub each_refused_line_breaks_one : EachRefusedLineBreaksOne
unfolding steps_from
each_refused_line_breaks_one accounts last n line refused = elim (verdict accounts n last line) [
  | inl t ↦ let e = sym (t.goes_on []) ∙ refused in absurd cc
  | inr r ↦ something (line_fault accounts last line) r.broken
]

-- no line that is taken breaks a rule
pub no_taken_line_breaks_one : NoTakenLineBreaksOne
no_taken_line_breaks_one accounts last n line steps takes = elim (verdict accounts n last line) [
  | inl t ↦ t.kept
  | inr r ↦ let e = sym (r.refused []) ∙ takes in absurd cc
]

-- ---- the lines one after another

-- Before the rest of the lines are lines that break no rule.
pub record IsBehind (accounts : Accounts) (lines : List (List ℕ)) (last : Option Bool) (rest : List (List ℕ)) : Type 0 where
  pub before : List (List ℕ)
  pub parts : lines ≡ before ++ rest
  pub state : last_behind None before ≡ last
  pub steps : List Step
  pub so_far : steps_from accounts 1 false lines ≡ steps_before steps (steps_from accounts (length before + 1) (is_waiting last) rest)

-- this holds before the first line
pub at_first : (accounts : Accounts) (lines : List (List ℕ)) → IsBehind accounts lines None lines
at_first accounts lines = record {
  before = [];
  parts = refl;
  state = refl;
  steps = [];
  so_far = sym (none_before (steps_from accounts 1 false lines));
}

-- the state behind lines and others
behind_both : (last : Option Bool) (front back : List (List ℕ)) → last_behind last (front ++ back) ≡ last_behind (last_behind last front) back
behind_both last [] back = refl
behind_both last (line ∷ front) back = behind_both (last_after last line) front back

-- one line more
one_longer : (front : List (List ℕ)) (line : List ℕ) → length front + 1 + 1 ≡ length (front ++ line ∷ []) + 1
one_longer front line = omega (arith, length-append front (line ∷ []))

-- this holds after a line that breaks no rule
pub went_on : {accounts : Accounts} {lines all : List (List ℕ)} {last : Option Bool} (line : List ℕ) (rest : List (List ℕ)) → all ≡ line ∷ rest
    → IsBehind accounts lines last all → line_fault accounts last line ≡ None → IsBehind accounts lines (last_after last line) rest
went_on {accounts = accounts} {lines = lines} {last = last} line rest splits is kept = elim (verdict accounts (length is.before + 1) last line) [
  | inr r ↦ let e = sym r.broken ∙ ap is_none kept in absurd cc
  | inl t ↦
      let waits = is_waiting (last_after last line) in
      let later = steps_from accounts (length is.before + 1 + 1) waits rest in record {
        before = is.before ++ line ∷ [];
        parts = is.parts ∙ ap (λ (l : List (List ℕ)). is.before ++ l) splits ∙ sym (append_assoc is.before (line ∷ []) rest);
        state = behind_both None is.before (line ∷ []) ∙ ap (λ (o : Option Bool). last_after o line) is.state;
        steps = is.steps ++ t.added;
        so_far =
            is.so_far
            ∙ ap (λ (l : List (List ℕ)). steps_before is.steps (steps_from accounts (length is.before + 1) (is_waiting last) l)) splits
            ∙ ap (steps_before is.steps) (t.goes_on rest) ∙ before_before is.steps t.added later
            ∙ ap (λ (k : ℕ). steps_before (is.steps ++ t.added) (steps_from accounts k waits rest)) (one_longer is.before line);
      }
]

-- the lines before one of them
lines_before : (front back : List (List ℕ)) → take (length front) (front ++ back) ≡ front
lines_before [] back = refl
lines_before (line ∷ front) back = ap (λ (l : List (List ℕ)). line ∷ l) (lines_before front back)

-- one of the lines
line_at : (front back : List (List ℕ)) (line : List ℕ) → slice_get (front ++ line ∷ back) (length front) ≡ Some line
line_at [] back line = refl
line_at (other ∷ front) back line = line_at front back line

-- the sentence on a line after others
said_at : (accounts : Accounts) (front back : List (List ℕ)) (line : List ℕ)
    → sentence_at accounts (front ++ line ∷ back) (length front + 1) ≡ line_fault accounts (last_behind None front) line
said_at accounts front back line =
    let all = front ++ line ∷ back in
    let number : length front + 1 - 1 ≡ length front = omega arith in
    ap (λ (k : ℕ). option_and_then (λ (l : List ℕ). line_fault accounts (last_behind None (take k all)) l) (slice_get all k)) number
    ∙ ap (λ (l : List (List ℕ)). option_and_then (line_fault accounts (last_behind None l)) (slice_get all (length front)))
    (lines_before front (line ∷ back))
    ∙ ap (option_and_then (line_fault accounts (last_behind None front))) (line_at front back line)

-- the first line that breaks a rule has the sentence on the lines
pub found : {accounts : Accounts} {lines all : List (List ℕ)} {last : Option Bool} (line : List ℕ) (rest : List (List ℕ)) → all ≡ line ∷ rest
    → IsBehind accounts lines last all → is_none (line_fault accounts last line) ≡ false
    → fault_in accounts lines (steps_from accounts 1 false lines) ≡ line_fault accounts last line
found {accounts = accounts} {lines = lines} {last = last} line rest splits is broken = elim (verdict accounts (length is.before + 1) last line) [
  | inl t ↦ let e = sym broken ∙ ap is_none t.kept in absurd cc
  | inr r ↦
      let n = length is.before + 1 in
      let read : steps_from accounts 1 false lines ≡ Err n =
      is.so_far ∙ ap (λ (l : List (List ℕ)). steps_before is.steps (steps_from accounts n (is_waiting last) l)) splits
      ∙ ap (steps_before is.steps) (r.refused rest) in
      ap (fault_in accounts lines) read
      ∙ ap (λ (l : List (List ℕ)). sentence_at accounts l n) (is.parts ∙ ap (λ (l : List (List ℕ)). is.before ++ l) splits)
      ∙ said_at accounts is.before rest line ∙ ap (λ (o : Option Bool). line_fault accounts o line) is.state
]

-- where no line is left, the steps are read
ended : {accounts : Accounts} {lines : List (List ℕ)} {last : Option Bool} → (rest : List (List ℕ)) → rest ≡ [] → IsBehind accounts lines last rest
    → (steps : List Step) × (steps_from accounts 1 false lines ≡ Ok steps)
unfolding steps_from
ended {accounts = accounts} {last = last} rest none is = (
  is.steps ++ [],
  is.so_far
      ∙ ap (λ (l : List (List ℕ)). steps_before is.steps (steps_from accounts (length is.before + 1) (is_waiting last) l)) none,
)

-- and there is no sentence
pub none_found : {accounts : Accounts} {lines : List (List ℕ)} {last : Option Bool} → (rest : List ℕ) → length rest ≡ 0
    → IsBehind accounts lines last (lines_of rest) → fault_in accounts lines (steps_from accounts 1 false lines) ≡ None
none_found {accounts = accounts} {lines = lines} rest none is =
    ap (fault_in accounts lines) (ended (lines_of rest) (no_lines rest none) is).1

-- ---- whole texts

-- a copy of a sentence is one of the same
pub says_same : {E : Type 0} (result : Result (Option (Vec ℕ)) E) (a b : Option (List ℕ)) → a ≡ b
    → IfOk result (λ (said : Option (Vec ℕ)). option_map (λ (text : Vec ℕ). text.items) said ≡ a)
    → IfOk result (λ (said : Option (Vec ℕ)). option_map (λ (text : Vec ℕ). text.items) said ≡ b)
says_same (Ok said) a b same ok = ok ∙ same
says_same (Err e) a b same ok = tt

-- the steps of lines, which are read by the accounts of a script
abbrev reading_of : List (List ℕ) → Accounts → Read
reading_of lines accounts = steps_from accounts 1 false lines

-- the sentence on a script with these accounts is that on its lines
by_steps : (lines : List (List ℕ)) (script : ScriptModel) (read : Read)
    → fault_by lines (Ok script) (test_with script.accounts read) ≡ fault_in script.accounts lines read
by_steps lines script (Ok steps) = refl
by_steps lines script (Err n) = refl

-- the sentence on a script is that on its lines
pub on_script : (lines : List (List ℕ)) (s : Result ScriptModel Fault) (script : ScriptModel) → s ≡ Ok script
    → fault_by lines s (test_by s (reading_of lines)) ≡ fault_in script.accounts lines (reading_of lines script.accounts)
on_script lines s script is =
    ap (λ (r : Result ScriptModel Fault). fault_by lines r (test_by r (reading_of lines))) is
    ∙ by_steps lines script (reading_of lines script.accounts)

-- the steps of lines are read, or there is a sentence
abbrev IsReadOrSaid : Accounts → List (List ℕ) → Type 0
IsReadOrSaid accounts lines =
    ((steps : List Step) × (reading_of lines accounts ≡ Ok steps)) ⊎ (is_some (fault_in accounts lines (reading_of lines accounts)) ≡ true)

read_or_said : (accounts : Accounts) (lines : List (List ℕ)) (last : Option Bool) (rest : List (List ℕ)) → IsBehind accounts lines last rest
    → IsReadOrSaid accounts lines
read_or_said accounts lines last [] is = inl (ended [] refl is)
read_or_said accounts lines last (line ∷ rest) is = elim (verdict accounts (length is.before + 1) last line) [
  | inl t ↦ read_or_said accounts lines (last_after last line) rest (went_on line rest refl is t.kept)
  | inr r ↦ inr (ap is_some (found line rest refl is r.broken) ∙ something (line_fault accounts last line) r.broken)
]

-- each script that is no test has a sentence
pub each_bad_test_has_a_sentence : EachBadTestHasASentence
each_bad_test_has_a_sentence text script n is bad =
    let lines = lines_of text in
    elim (read_or_said script.accounts lines None lines (at_first script.accounts lines)) [
      | inl read ↦
          let e = sym (ap (λ (r : Result ScriptModel Fault). test_by r (reading_of lines)) is ∙ ap (test_with script.accounts) read.1) ∙ bad in
          absurd cc
      | inr said ↦ ap is_some (on_script lines (script_of text) script is) ∙ said
    ]
