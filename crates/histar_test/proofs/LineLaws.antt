-- Each line with an expectation or a question has its check, which is of the script's meaning.
use Rattle.std.proofs.Common.{◌≡◌, ℕ, ◌+◌, ◌<◌, ◌≤◌, Bool, true, false, List, [], ◌∷◌, ◌++◌, Option, Some, None, Ok, ltb, ◌||◌}
use Rattle.std.proofs.Common.{refl, sym, ap, ap₂, ◌∙◌, subst, append_assoc, arith, rules, tests, take-append-drop}
use Rattle.std.specs.Prelude.{MatchOption, codes, drop, is_some, map, option_to_list, take, if◌then◌else◌}
use Rattle.std.specs.List.{AllZip}
use Rattle.std.specs.Option.{IsSomeAnd}
use Rattle.std.specs.Str.{bytes_eq}
use Rattle.std.proofs.lemmas.Option.{none-some, same_Some}
use Rattle.std.proofs.lemmas.Slice.Eq.{bytes_eq-Decides}
use Rattle.histar_flat.specs.declared.calls.CallLine.{CallLine}
use Rattle.histar_flat.specs.FlatCalls.{flat_after, reply_to}
use Rattle.histar_flat.specs.FlatState.{Flat}
use Rattle.histar_flat.specs.Meaning.{boot, flat_end, meaning}
use Rattle.histar_flat.specs.Accounts.{Accounts}
use Rattle.histar_flat.proofs.Laws.{replies_go_on, states_go_on}
use Rattle.histar_script.specs.declared.items.Item.{Item}
use Rattle.histar_script.specs.declared.items.Item.TheVariants as items
use Rattle.histar_script.specs.Lines.{lines_of}
use Rattle.histar_script.specs.Reading.{item_of, script_of}
use Rattle.histar_script.specs.Script.{ScriptModel}
use Rattle.histar_rights.specs.declared.rights.Rights.{Rights}
use Rattle.histar_rights.specs.Rights.{rights_text}
use Rattle.histar_rights.proofs.Spelling.{letters_spell_rights}
use Rattle.histar_diff.specs.Shown.{rights_of}
use Rattle.histar_diff.proofs.Changes.{rights_answered}
use Rattle.histar_prefix.specs.Prefix.{calls_before, state_before}
use Rattle.histar_never.specs.declared.claims.Never.{Never}
use Rattle.histar_never.specs.Claims.{never_of}
use Rattle.histar_test.specs.declared.checks.Check.{Check}
use Rattle.histar_test.specs.declared.checks.Wanted.TheVariants.{NoBreach, Text}
use Rattle.histar_test.specs.declared.checks.Made.{Made}
use Rattle.histar_test.specs.declared.asking.Asking.{Asking}
use Rattle.histar_test.specs.declared.steps.Step.{Step}
use Rattle.histar_test.specs.declared.steps.Step.TheVariants.{Makes, Expects, Asks, Forbids}
use Rattle.histar_test.specs.Checks.{asked_check, asked_in, checks_from, checks_of, made_of, never_check, wanted_text}
use Rattle.histar_test.specs.Laws.{ChecksAreOfTheMeaning, ExpectationsAreChecked, IsAnsweredOn, IsAnswerWantedOn, IsExpectedOn, IsLastAnswer}
use Rattle.histar_test.specs.Laws.{IsOfTheMeaning, NumberedLine}
use Rattle.histar_test.specs.Laws.{QuestionsAreOfReplies, checked_in, forbidding_in, forbids, lines_with, wanting_in, wants}
use Rattle.histar_test.specs.Steps.{Test, asked_of, asking_of, call_in, calls_in, expectation_of, forbidden_of, nevers_in, open_after}
use Rattle.histar_test.specs.Steps.{step_by, step_of, steps_from, test_of}
use Rattle.histar_test.proofs.StepLaws.{OpensTo, call_wanted, calls_by, calls_on, claim_wanted, nevers_by, nevers_on, no_claim, none_wanted, on_line}
use Rattle.histar_test.proofs.StepLaws.{read_as, rights_wanted, tests_make_the_calls, text_wanted}

-- ---- calls by their lines

-- each call is on a line before this one
abbrev AreBefore : ℕ → List CallLine → Type 0
AreBefore n [] = Unit {0}
AreBefore n (c ∷ calls) = (c.line < n) × AreBefore n calls

-- no call is on a line before this one
abbrev AreFrom : ℕ → List CallLine → Type 0
AreFrom n [] = Unit {0}
AreFrom n (c ∷ calls) = (n ≤ c.line) × AreFrom n calls

-- calls before a line are before the next line
before_next : (n : ℕ) (calls : List CallLine) → AreBefore n calls → AreBefore (n + 1) calls
before_next n [] before = tt
before_next n (c ∷ calls) before = (omega (arith, before.0), before_next n calls before.1)

-- they stay so with one more call
before_more : (n : ℕ) (calls : List CallLine) (c : CallLine) → AreBefore n calls → c.line < n → AreBefore n (calls ++ c ∷ [])
before_more n [] c before lt = (lt, tt)
before_more n (d ∷ calls) c before lt = (before.0, before_more n calls c before.1 lt)

-- calls from the next line on are from this line on
from_next : (n : ℕ) (calls : List CallLine) → AreFrom (n + 1) calls → AreFrom n calls
from_next n [] from = tt
from_next n (c ∷ calls) from = (omega (arith, from.0), from_next n calls from.1)

-- they stay so with other such calls
from_both : (n : ℕ) (a b : List CallLine) → AreFrom n a → AreFrom n b → AreFrom n (a ++ b)
from_both n [] b h k = k
from_both n (c ∷ a) b h k = (h.0, from_both n a b h.1 k)

-- no call is before the line
none_before_line : (n : ℕ) (calls : List CallLine) → AreFrom n calls → calls_before (Some n) calls ≡ []
none_before_line n [] from = refl
none_before_line n (c ∷ calls) from =
    let le : n ≤ c.line = from.0 in
    let no : ltb c.line n ≡ false = search (rules, tests) in
    ap (λ (b : Bool). if b then c ∷ calls_before (Some n) calls else calls_before (Some n) calls) no ∙ none_before_line n calls from.1

-- the calls before a line, followed by calls from it on
before_line : (n : ℕ) (done more : List CallLine) → AreBefore n done → AreFrom n more → calls_before (Some n) (done ++ more) ≡ done
before_line n [] more before from = none_before_line n more from
before_line n (c ∷ done) more before from =
    let lt : c.line < n = before.0 in
    let yes : ltb c.line n ≡ true = search (rules, tests) in
    ap (λ (b : Bool). if b then c ∷ calls_before (Some n) (done ++ more) else calls_before (Some n) (done ++ more)) yes
    ∙ ap (λ (calls : List CallLine). c ∷ calls) (before_line n done more before.1 from)

-- the call on a line has the number of the line
line_of_call : (n : ℕ) (item : Option Item) (c : CallLine) → call_in n item ≡ Some c → c.line ≡ n
line_of_call n None c e = absurd (none-some c e)
line_of_call n (Some (items.User u)) c e = absurd (none-some c e)
line_of_call n (Some (items.Group g)) c e = absurd (none-some c e)
line_of_call n (Some items.Comment) c e = absurd (none-some c e)
line_of_call n (Some (items.Call p u)) c e = sym (ap (λ (d : CallLine). d.line) (same_Some (record { line = n; process = p; call = u }) c e))

-- the call of a line's step has it too
pub line_of_step : (accounts : Accounts) (n : ℕ) (line : List ℕ) (c : CallLine) (said : List ℕ)
    → step_of accounts n line ≡ Ok (Some (Makes c said)) → c.line ≡ n
line_of_step accounts n line c said is =
    let call = call_in n (item_of line) in
    let other = no_claim accounts n (forbidden_of line) _ (Some (Makes c said)) is refl in
    line_of_call n (item_of line) c (call_wanted n line (asked_of line) (expectation_of line) call c said other.1).2

-- no call of these lines is before the first of them
step_from : (accounts : Accounts) (n : ℕ) (line : List ℕ) (step : Option Step) → step_of accounts n line ≡ Ok step → AreFrom n (calls_by step)
step_from accounts n line None is = tt
step_from accounts n line (Some (Makes c said)) is = (omega (arith, line_of_step accounts n line c said is), tt)
step_from accounts n line (Some (Expects text)) is = tt
step_from accounts n line (Some (Asks q)) is = tt
step_from accounts n line (Some (Forbids q)) is = tt

lines_from : (accounts : Accounts) (n : ℕ) (is_open : Bool) (lines : List (List ℕ)) (steps : List Step)
    → steps_from accounts n is_open lines ≡ Ok steps → AreFrom n (calls_in steps)
unfolding steps_from
lines_from accounts n is_open [] steps read = let none : steps ≡ [] = cc in subst (λ (s : List Step). AreFrom n (calls_in s)) (sym none) tt
lines_from accounts n is_open (line ∷ lines) steps read =
    let on = on_line accounts n is_open line lines steps read in
    subst (AreFrom n) (sym (ap calls_in on.parts ∙ calls_on on.step on.rest))
    (from_both n (calls_by on.step) (calls_in on.rest) (step_from accounts n line on.step on.is_step)
    (from_next n (calls_in on.rest) (lines_from accounts (n + 1) on.opened lines on.rest on.is_rest)))

-- ---- line by line

module _ (is : List ℕ → Bool) (n : ℕ) (line : List ℕ) (lines : List (List ℕ)) where
  -- a line of which the test doesn't hold is passed over
  passed_over : is line ≡ false → lines_with is n (line ∷ lines) ≡ lines_with is (n + 1) lines
  passed_over misses =
      ap (λ (b : Bool). if b then record { number = n; text = line } ∷ lines_with is (n + 1) lines else lines_with is (n + 1) lines) misses

  -- one of which it holds is listed
  listed : is line ≡ true → lines_with is n (line ∷ lines) ≡ record { number = n; text = line } ∷ lines_with is (n + 1) lines
  listed holds =
      ap (λ (b : Bool). if b then record { number = n; text = line } ∷ lines_with is (n + 1) lines else lines_with is (n + 1) lines) holds

-- ---- lines with claims `#never`

-- the line has no question, no claim on trust and no expectation
abbrev IsAlone : List ℕ → Type 0
IsAlone line = (asked_of line ≡ None) × (expectation_of line ≡ None)

-- a claim `#never` has none of them
pub forbids_alone : (line c : List ℕ) → forbidden_of line ≡ Some c → (asked_of line ≡ None) × (expectation_of line ≡ None)
forbids_alone line c is = by (bytes_eq (take 7 line) (codes "#never ")) (bytes_eq line (codes "#never")) refl refl
  where
    by : (a b : Bool) → bytes_eq (take 7 line) (codes "#never ") ≡ a → bytes_eq line (codes "#never") ≡ b → IsAlone line
    by true b first whole =
        let parts : codes "#never " ++ drop 7 line ≡ line =
        ap (λ (front : List ℕ). front ++ drop 7 line) (sym ((bytes_eq-Decides (take 7 line) (codes "#never ")).0 first)) ∙ take-append-drop 7 line in
        subst IsAlone parts (refl, refl)
    by false true first whole = subst IsAlone (sym ((bytes_eq-Decides line (codes "#never")).0 whole)) (refl, refl)
    by false false first whole =
        let none : forbidden_of line ≡ None =
        ap₂ (λ (a b : Bool). let claim : Option (List ℕ) = if a || b then Some (drop 1 line) else None in claim) first whole in
        absurd (none-some c (sym none ∙ is))

-- the check of a line without a claim `#never`, by its parts
not_forbidden : (script : ScriptModel) (n : ℕ) (line : List ℕ) (check : Check) → forbidden_of line ≡ None
    → IsAnswerWantedOn (record { number = n; text = line }) check → IsAnsweredOn script (record { number = n; text = line }) check
    → IsExpectedOn (record { number = n; text = line }) check × IsOfTheMeaning script (record { number = n; text = line }) check
not_forbidden script n line check none wanted answered =
    let here : NumberedLine = record { number = n; text = line } in (
      subst (λ (o : Option (List ℕ)). MatchOption o (IsAnswerWantedOn here check) (λ claim. check.wanted ≡ NoBreach)) (sym none) wanted,
      subst (λ (o : Option (List ℕ)). MatchOption o (IsAnsweredOn script here check)
          (λ claim. IsSomeAnd (never_of script.accounts n claim)
          (λ (never : Never). check ≡ never_check script.accounts script.calls never))) (sym none) answered,
    )

module _ (script : ScriptModel) where
  -- the check is of what the line expects, and of the script's meaning there
  abbrev IsCheckOf : NumberedLine → Check → Type 0
  IsCheckOf line check = IsExpectedOn line check × IsOfTheMeaning script line check

  -- the flat state after these calls
  abbrev flat : List CallLine → Flat
  flat done = flat_end script.accounts (boot script.accounts) done

  -- the open call is the last of these
  abbrev HasLast : List CallLine → Option Made → Type 0
  HasLast done None = Unit {0}
  HasLast done (Some made) = IsLastAnswer made (meaning script.accounts done)

  -- the lines have their checks, after these calls
  abbrev AreOfLines : ℕ → List (List ℕ) → List CallLine → Option Made → List Step → Type 0
  AreOfLines n lines done last steps = AllZip IsCheckOf (lines_with wants n lines) (checks_from false script.accounts (flat done) last steps)

  module _ (n : ℕ) (is_open opened : Bool) (line : List ℕ) (lines : List (List ℕ)) (done : List CallLine) (rest : List Step) where
    -- the line as it is listed
    abbrev here : NumberedLine
    here = record { number = n; text = line }

    -- the same for the lines after a line, whatever calls come before them and whichever call is open there
    abbrev Later : Type 0
    Later = (calls : List CallLine) (last : Option Made) → script.calls ≡ calls ++ calls_in rest → AreBefore (n + 1) calls → is_some last ≡ opened
        → HasLast calls last → AreOfLines (n + 1) lines calls last rest

    -- a step of the line that is no claim `#never`
    own : (step : Option Step) → step_of script.accounts n line ≡ Ok step → nevers_by step ≡ []
        → (forbidden_of line ≡ None) × (step_by n line (asked_of line) (expectation_of line) (call_in n (item_of line)) ≡ Ok step)
    own step is none = no_claim script.accounts n (forbidden_of line) _ step is none

    module _ (at : calls_before (Some n) script.calls ≡ done) (before : AreBefore n done) (later : Later) where
      -- the case of a line with an expectation
      expected : (text : List ℕ) (last : Option Made) → step_of script.accounts n line ≡ Ok (Some (Expects text))
          → open_after is_open (Expects text) ≡ Some opened
          → script.calls ≡ done ++ calls_in rest → is_some last ≡ is_open → HasLast done last
          → AreOfLines n (line ∷ lines) done last (Expects text ∷ rest)
      expected text None is opens calls was has =
          absurd (none-some opened (ap (λ (b : Bool). open_after b (Expects text)) was ∙ opens))
      expected text (Some made) is opens calls was has =
          let o = own (Some (Expects text)) is refl in
          let w = text_wanted n line (asked_of line) (expectation_of line) (call_in n (item_of line)) text o.1 in
          let shut : false ≡ opened = same_Some false opened (ap (λ (b : Bool). open_after b (Expects text)) was ∙ opens) in
          let check : Check = record { made = made; wanted = Text text } in
          subst (λ (ls : List NumberedLine). AllZip IsCheckOf ls (check ∷ checks_from false script.accounts (flat done) None rest))
          (sym (listed wants n line lines (λ i. is_some (w.0 i) || is_some (w.1 i)))) (
            not_forbidden script n line check o.0
                (subst (λ (o : Option (List ℕ)). MatchOption o (IsSomeAnd (expectation_of line) (λ t. check.wanted ≡ Text t))
                (λ asked. IsSomeAnd (asking_of n asked) (λ (q : Asking). check.wanted ≡ Text (wanted_text q)))) (sym w.0)
                (subst (λ (o : Option (List ℕ)). IsSomeAnd o (λ t. check.wanted ≡ Text t)) (sym w.1) refl))
                (subst (λ (o : Option (List ℕ)). MatchOption o (IsLastAnswer made (meaning script.accounts (calls_before (Some n) script.calls)))
                (λ asked. IsSomeAnd (asking_of n asked) (λ (q : Asking). made ≡ asked_in script.accounts (state_before (Some n) script) q)))
                (sym w.0)
                (subst (λ (cs : List CallLine). IsLastAnswer made (meaning script.accounts cs)) (sym at) has)),
            later done None calls (before_next n done before) shut tt,
          )

      -- the case of a line with a question
      asked_there : (q : Asking) (last : Option Made) → step_of script.accounts n line ≡ Ok (Some (Asks q))
          → open_after is_open (Asks q) ≡ Some opened → script.calls ≡ done ++ calls_in rest → is_some last ≡ is_open → HasLast done last
          → AreOfLines n (line ∷ lines) done last (Asks q ∷ rest)
      asked_there q last is opens calls was has =
          let o = own (Some (Asks q)) is refl in
          let w = rights_wanted n line (asked_of line) (expectation_of line) (call_in n (item_of line)) q o.1 in
          let check = asked_check script.accounts (flat done) q in
          subst (λ (ls : List NumberedLine). AllZip IsCheckOf ls (check ∷ checks_from false script.accounts (flat done) last rest))
          (sym (listed wants n line lines (λ i. is_some (w.1 i) || is_some (expectation_of line)))) (
            not_forbidden script n line check o.0
                (subst (λ (o : Option (List ℕ)). MatchOption o (IsSomeAnd (expectation_of line) (λ t. check.wanted ≡ Text t))
                (λ asked. IsSomeAnd (asking_of n asked) (λ (x : Asking). check.wanted ≡ Text (wanted_text x)))) (sym w.1)
                (subst (λ (o : Option Asking). IsSomeAnd o (λ (x : Asking). check.wanted ≡ Text (wanted_text x))) (sym w.2) refl))
                (subst (λ (o : Option (List ℕ)).
                MatchOption o (IsLastAnswer check.made (meaning script.accounts (calls_before (Some n) script.calls)))
                (λ asked. IsSomeAnd (asking_of n asked)
                (λ (x : Asking). check.made ≡ asked_in script.accounts (state_before (Some n) script) x)))
                (sym w.1)
                (subst (λ (o : Option Asking). IsSomeAnd o
                (λ (x : Asking). check.made ≡ asked_in script.accounts (state_before (Some n) script) x))
                (sym w.2) (ap (λ (cs : List CallLine). asked_in script.accounts (flat cs) q) (sym at)))),
            later done last calls (before_next n done before) (was ∙ same_Some is_open opened opens) has,
          )

      -- the case of a line with a call
      called_there : (c : CallLine) (said : List ℕ) (last : Option Made) → step_of script.accounts n line ≡ Ok (Some (Makes c said))
          → Some true ≡ Some opened → script.calls ≡ done ++ c ∷ calls_in rest → AreOfLines n (line ∷ lines) done last (Makes c said ∷ rest)
      called_there c said last is opens calls =
          let o = own (Some (Makes c said)) is refl in
          let w = call_wanted n line (asked_of line) (expectation_of line) (call_in n (item_of line)) c said o.1 in
          let made = made_of script.accounts (flat done) c said in
          let on : flat (done ++ c ∷ []) ≡ flat_after script.accounts (flat done) c.process c.call =
          states_go_on script.accounts (boot script.accounts) done (c ∷ []) in
          let lt : c.line < n + 1 = omega (arith, line_of_step script.accounts n line c said is) in
          let answered : IsLastAnswer made (meaning script.accounts (done ++ c ∷ [])) = record {
            before = meaning script.accounts done;
            last = record { call = c; reply = reply_to script.accounts (flat done) c.process c.call };
            parts = replies_go_on script.accounts (boot script.accounts) done (c ∷ []);
            is_answer = (refl, refl, refl);
          } in
          subst (λ (ls : List NumberedLine). AllZip IsCheckOf ls
          (checks_from false script.accounts (flat_after script.accounts (flat done) c.process c.call) (Some made) rest))
          (sym (passed_over wants n line lines (λ i. is_some (w.0 i) || is_some (w.1 i))))
          (subst (λ (f : Flat). AllZip IsCheckOf (lines_with wants (n + 1) lines) (checks_from false script.accounts f (Some made) rest)) on
          (later (done ++ c ∷ []) (Some made) (calls ∙ sym (append_assoc done (c ∷ []) (calls_in rest)))
          (before_more (n + 1) done c (before_next n done before) lt) (same_Some true opened opens) answered))

      -- the case of a line with a claim `#never`
      forbidden_there : (q : Never) (last : Option Made) → step_of script.accounts n line ≡ Ok (Some (Forbids q))
          → Some is_open ≡ Some opened → script.calls ≡ done ++ calls_in rest → is_some last ≡ is_open → HasLast done last
          → AreOfLines n (line ∷ lines) done last (Forbids q ∷ rest)
      forbidden_there q last is opens calls was has =
          let c = claim_wanted script.accounts n line (forbidden_of line) (asked_of line) (expectation_of line) (call_in n (item_of line)) q is in
          let w = forbids_alone line c.0 c.1 in
          subst (λ (ls : List NumberedLine). AllZip IsCheckOf ls (checks_from false script.accounts (flat done) last rest))
          (sym (passed_over wants n line lines (λ i. is_some (w.0 i) || is_some (w.1 i))))
          (later done last calls (before_next n done before) (was ∙ same_Some is_open opened opens) has)

      -- the case of a line with any step, or none
      line_checked : (step : Option Step) (last : Option Made) → step_of script.accounts n line ≡ Ok step → OpensTo is_open step opened
          → script.calls ≡ done ++ (calls_by step ++ calls_in rest) → is_some last ≡ is_open → HasLast done last
          → AreOfLines n (line ∷ lines) done last (option_to_list step ++ rest)
      line_checked None last is opens calls was has =
          let o = own None is refl in
          let w = none_wanted n line (asked_of line) (expectation_of line) (call_in n (item_of line)) o.1 in
          subst (λ (ls : List NumberedLine). AllZip IsCheckOf ls (checks_from false script.accounts (flat done) last rest))
          (sym (passed_over wants n line lines (λ i. is_some (w.0 i) || is_some (w.1 i))))
          (later done last calls (before_next n done before) (was ∙ sym opens) has)
      line_checked (Some (Makes c said)) last is opens calls was has = called_there c said last is opens calls
      line_checked (Some (Expects text)) last is opens calls was has = expected text last is opens calls was has
      line_checked (Some (Asks q)) last is opens calls was has = asked_there q last is opens calls was has
      line_checked (Some (Forbids q)) last is opens calls was has = forbidden_there q last is opens calls was has

  -- lines have their checks
  lines_checked : (n : ℕ) (is_open : Bool) (lines : List (List ℕ)) (steps : List Step) (done : List CallLine) (last : Option Made)
      → steps_from script.accounts n is_open lines ≡ Ok steps → script.calls ≡ done ++ calls_in steps → AreBefore n done → is_some last ≡ is_open
      → HasLast done last → AreOfLines n lines done last steps
  unfolding steps_from
  lines_checked n is_open [] steps done last read calls before was has =
      let none : steps ≡ [] = cc in
      subst (AreOfLines n [] done last) (sym none) tt
  lines_checked n is_open (line ∷ lines) steps done last read calls before was has =
      let on = on_line script.accounts n is_open line lines steps read in
      let from = lines_from script.accounts n is_open (line ∷ lines) steps read in
      let at : calls_before (Some n) script.calls ≡ done =
      ap (calls_before (Some n)) calls ∙ before_line n done (calls_in steps) before from in
      let all : script.calls ≡ done ++ (calls_by on.step ++ calls_in on.rest) =
      calls ∙ ap (λ (cs : List CallLine). done ++ cs) (ap calls_in on.parts ∙ calls_on on.step on.rest) in
      subst (AreOfLines n (line ∷ lines) done last) (sym on.parts)
      (line_checked n is_open on.opened line lines done on.rest at before
      (λ cs made are b o h. lines_checked (n + 1) on.opened lines on.rest cs made on.is_rest are b o h) on.step last on.is_step on.opens all was has)

  -- ---- the claims `#never`

  -- the check is of the claim `#never` on the line
  pub record IsClaimed (line : NumberedLine) (never : Never) : Type 0 where
    pub text : List ℕ
    pub on_line : forbidden_of line.text ≡ Some text
    pub reads : never_of script.accounts line.number text ≡ Some never

  -- the case of a line with any step, or none
  line_claimed : (n : ℕ) (line : List ℕ) (lines : List (List ℕ)) (step : Option Step) (rest : List Step)
      → step_of script.accounts n line ≡ Ok step
      → AllZip IsClaimed (lines_with forbids (n + 1) lines) (nevers_in rest)
      → AllZip IsClaimed (lines_with forbids n (line ∷ lines)) (nevers_by step ++ nevers_in rest)
  line_claimed n line lines None rest is later =
      let o = no_claim script.accounts n (forbidden_of line) _ None is refl in
      subst (λ (ls : List NumberedLine). AllZip IsClaimed ls (nevers_in rest)) (sym (passed_over forbids n line lines (ap is_some o.0))) later
  line_claimed n line lines (Some (Makes c said)) rest is later =
      let o = no_claim script.accounts n (forbidden_of line) _ (Some (Makes c said)) is refl in
      subst (λ (ls : List NumberedLine). AllZip IsClaimed ls (nevers_in rest)) (sym (passed_over forbids n line lines (ap is_some o.0))) later
  line_claimed n line lines (Some (Expects text)) rest is later =
      let o = no_claim script.accounts n (forbidden_of line) _ (Some (Expects text)) is refl in
      subst (λ (ls : List NumberedLine). AllZip IsClaimed ls (nevers_in rest)) (sym (passed_over forbids n line lines (ap is_some o.0))) later
  line_claimed n line lines (Some (Asks q)) rest is later =
      let o = no_claim script.accounts n (forbidden_of line) _ (Some (Asks q)) is refl in
      subst (λ (ls : List NumberedLine). AllZip IsClaimed ls (nevers_in rest)) (sym (passed_over forbids n line lines (ap is_some o.0))) later
  line_claimed n line lines (Some (Forbids q)) rest is later =
      let c = claim_wanted script.accounts n line (forbidden_of line) (asked_of line) (expectation_of line) (call_in n (item_of line)) q is in
      subst (λ (ls : List NumberedLine). AllZip IsClaimed ls (q ∷ nevers_in rest)) (sym (listed forbids n line lines (ap is_some c.1)))
      (record { text = c.0; on_line = c.1; reads = c.2 }, later)

  -- the claims of lines are those of their steps
  lines_claimed : (n : ℕ) (is_open : Bool) (lines : List (List ℕ)) (steps : List Step) → steps_from script.accounts n is_open lines ≡ Ok steps
      → AllZip IsClaimed (lines_with forbids n lines) (nevers_in steps)
  unfolding steps_from
  lines_claimed n is_open [] steps read =
      let none : steps ≡ [] = cc in
      subst (λ (s : List Step). AllZip IsClaimed [] (nevers_in s)) (sym none) tt
  lines_claimed n is_open (line ∷ lines) steps read =
      let on = on_line script.accounts n is_open line lines steps read in
      subst (AllZip IsClaimed (lines_with forbids n (line ∷ lines))) (sym (ap nevers_in on.parts ∙ nevers_on on.step on.rest))
      (line_claimed n line lines on.step on.rest on.is_step (lines_claimed (n + 1) on.opened lines on.rest on.is_rest))

  -- the check of a claim is of its line
  claim_checked : (line : NumberedLine) (never : Never) → IsClaimed line never → IsCheckOf line (never_check script.accounts script.calls never)
  claim_checked line never is =
      let check = never_check script.accounts script.calls never in (
        subst (λ (o : Option (List ℕ)). MatchOption o (IsAnswerWantedOn line check) (λ claim. check.wanted ≡ NoBreach)) (sym is.on_line) refl,
        subst (λ (o : Option (List ℕ)). MatchOption o (IsAnsweredOn script line check)
            (λ claim. IsSomeAnd (never_of script.accounts line.number claim)
            (λ (other : Never). check ≡ never_check script.accounts script.calls other))) (sym is.on_line)
            (subst (λ (o : Option Never). IsSomeAnd o (λ (other : Never). check ≡ never_check script.accounts script.calls other))
            (sym is.reads) refl),
      )

-- ---- whole texts

-- what holds of two lists element by element, of the second after a function
pub each_mapped : {A B C : Type 0} (P : A → B → Type 0) (Q : A → C → Type 0) (h : B → C) → ((x : A) (y : B) → P x y → Q x (h y))
    → (xs : List A) (ys : List B) → AllZip P xs ys → AllZip Q xs (map h ys)
each_mapped P Q h holds [] [] each = tt
each_mapped P Q h holds [] (y ∷ ys) each = absurd each
each_mapped P Q h holds (x ∷ xs) [] each = absurd each
each_mapped P Q h holds (x ∷ xs) (y ∷ ys) each = (holds x y each.0, each_mapped P Q h holds xs ys each.1)

-- what holds of two pairs of lists element by element
both_of : {A B : Type 0} (P : A → B → Type 0) (a c : List A) (b d : List B) → AllZip P a b → AllZip P c d → AllZip P (a ++ c) (b ++ d)
both_of P [] c [] d one two = two
both_of P [] c (y ∷ b) d one two = absurd one
both_of P (x ∷ a) c [] d one two = absurd one
both_of P (x ∷ a) c (y ∷ b) d one two = (one.0, both_of P a c b d one.1 two)

-- the claims of a test are on its lines
pub test_claimed : (text : List ℕ) (script : ScriptModel) (test : Test) → script_of text ≡ Ok script → test_of text ≡ Ok test
    → AllZip (IsClaimed script) (forbidding_in text) (nevers_in test.steps)
test_claimed text script test is reads =
    let was = read_as text test reads in
    let accounts = (tests_make_the_calls text script test is reads).0 in
    lines_claimed script 1 false (lines_of text) test.steps
    (ap (λ (a : Accounts). steps_from a 1 false (lines_of text)) (sym accounts) ∙ was.are_steps)

-- the lines of a test have their checks
test_checked : (text : List ℕ) (script : ScriptModel) (test : Test) → script_of text ≡ Ok script → test_of text ≡ Ok test
    → AllZip (IsCheckOf script) (checked_in text) (checks_of false test)
test_checked text script test is reads =
    let was = read_as text test reads in
    let makes = tests_make_the_calls text script test is reads in
    let steps : steps_from script.accounts 1 false (lines_of text) ≡ Ok test.steps =
    ap (λ (a : Accounts). steps_from a 1 false (lines_of text)) (sym makes.0) ∙ was.are_steps in
    let claims = each_mapped (IsClaimed script) (IsCheckOf script) (never_check script.accounts script.calls) (claim_checked script)
    (forbidding_in text) (nevers_in test.steps) (test_claimed text script test is reads) in
    let own = lines_checked script 1 false (lines_of text) test.steps [] None steps (sym makes.1) tt refl tt in
    subst (λ (s : Accounts × List CallLine). AllZip (IsCheckOf script) (checked_in text)
    (checks_from false s.0 (boot s.0) None test.steps ++ map (never_check s.0 s.1) (nevers_in test.steps)))
    (λ i. (sym makes.0 i, sym makes.1 i))
    (both_of (IsCheckOf script) (wanting_in text) (forbidding_in text) (checks_from false script.accounts (boot script.accounts) None test.steps)
    (map (never_check script.accounts script.calls) (nevers_in test.steps)) own claims)

-- what holds of two lists element by element follows from what is stronger
each_of : {A B : Type 0} (P Q : A → B → Type 0) → ((x : A) (y : B) → P x y → Q x y) → (xs : List A) (ys : List B) → AllZip P xs ys → AllZip Q xs ys
each_of P Q holds [] [] each = tt
each_of P Q holds [] (y ∷ ys) each = absurd each
each_of P Q holds (x ∷ xs) [] each = absurd each
each_of P Q holds (x ∷ xs) (y ∷ ys) each = (holds x y each.0, each_of P Q holds xs ys each.1)

-- each line with an expectation, a question or a claim is checked
pub expectations_are_checked : ExpectationsAreChecked
expectations_are_checked text test reads =
    let is = read_as text test reads in
    each_of (IsCheckOf is.script) IsExpectedOn (λ line check both. both.0) (checked_in text) (checks_of false test)
    (test_checked text is.script test is.is_script reads)

-- each check is of the script's meaning
pub checks_are_of_the_meaning : ChecksAreOfTheMeaning
checks_are_of_the_meaning text script test is reads =
    each_of (IsCheckOf script) (IsOfTheMeaning script) (λ line check both. both.1) (checked_in text) (checks_of false test)
    (test_checked text script test is reads)

-- ---- rights

-- rights with the same letters are the same
same_letters : (a b : Rights) → rights_text a ≡ rights_text b → a ≡ b
same_letters a b e =
    same_Some a b (sym ((letters_spell_rights (rights_text a) a).1 refl) ∙ (letters_spell_rights (rights_text a) b).1 e)

-- a question is met exactly if four more lines would give its answers
pub questions_are_of_replies : QuestionsAreOfReplies
questions_are_of_replies script n q =
    let letters = rights_of script.accounts (state_before (Some n) script) q.path q.process in
    let decides = bytes_eq-Decides (rights_text letters) (rights_text q.wanted) in
    record {
      letters = letters;
      answered = rights_answered script.accounts (calls_before (Some n) script.calls) q.process q.path;
      met = (λ e. sym (same_letters letters q.wanted (decides.0 e)), λ e. decides.1 (ap rights_text (sym e)));
    }
