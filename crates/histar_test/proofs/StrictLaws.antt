-- What a strict test adds: a check for each refusal that nobody expected.
use Rattle.std.proofs.Common.{◌≡◌, ℕ, ◌+◌, Bool, true, false, List, [], ◌∷◌, ◌++◌, drop, take, Option, Some, None, Ok, ◌&&◌}
use Rattle.std.proofs.Common.{refl, sym, ap, ap₂, ◌∙◌, subst, append-nil, take-append-drop}
use Rattle.std.specs.Prelude.{codes, cond, filter, is_some, map, not, option_to_list, if◌then◌else◌}
use Rattle.std.specs.List.{AllZip, list_all}
use Rattle.std.specs.Str.{bytes_eq}
use Rattle.std.proofs.lemmas.List.{drop-drop}
use Rattle.std.proofs.lemmas.List.Elements.{filter-append}
use Rattle.std.proofs.lemmas.Option.{none-some, same_Some}
use Rattle.std.proofs.lemmas.Slice.Eq.{bytes_eq-Decides}
use Rattle.histar_flat.specs.declared.calls.CallLine.{CallLine}
use Rattle.histar_flat.specs.FlatCalls.{flat_after, reply_to}
use Rattle.histar_flat.specs.FlatState.{Flat}
use Rattle.histar_flat.specs.Meaning.{RepliedCall, answered_from, boot, meaning}
use Rattle.histar_flat.specs.Accounts.{Accounts}
use Rattle.histar_reasons.specs.Laws.{is_refusal}
use Rattle.histar_script.specs.declared.items.Item.{Item}
use Rattle.histar_script.specs.declared.items.Item.TheVariants as items
use Rattle.histar_script.specs.Lines.{lines_of}
use Rattle.histar_script.specs.Reading.{is_empty, item_of}
use Rattle.histar_never.specs.declared.claims.Never.{Never}
use Rattle.histar_test.specs.declared.checks.Check.{Check}
use Rattle.histar_test.specs.declared.checks.Made.{Made}
use Rattle.histar_test.specs.declared.checks.Wanted.{Wanted}
use Rattle.histar_test.specs.declared.checks.Wanted.TheVariants.{NoBreach, NoRefusal, Text}
use Rattle.histar_test.specs.declared.steps.Step.{Step}
use Rattle.histar_test.specs.declared.steps.Step.TheVariants.{Makes, Expects, Asks, Forbids}
use Rattle.histar_test.specs.Checks.{checks_from, checks_of, asked_check, is_met, made_of, never_check, never_checks, unexpected}
use Rattle.histar_test.specs.Laws.{IsAnswer, StrictTestsAreMet, StrictTestsKeepTheChecks, UnexpectedRefusalsAreChecked, has_expectation, has_none}
use Rattle.histar_test.specs.Laws.{is_expected_in, is_unexpected_in, makes_call, unexpected_in}
use Rattle.histar_test.specs.Steps.{Test, asked_of, call_in, calls_in, expectation_of, forbidden_of, nevers_in, open_after, step_by, step_of}
use Rattle.histar_test.specs.Steps.{steps_from}
use Rattle.histar_test.proofs.StepLaws.{OpensTo, call_says, call_wanted, claim_wanted, nevers_by, no_claim, no_claim_there, no_comment}
use Rattle.histar_test.proofs.StepLaws.{none_wanted, on_line, read_as, rights_wanted, tests_make_the_calls, text_wanted}
use Rattle.histar_test.proofs.LineLaws.{forbids_alone, line_of_step}

-- ---- the checks of the test that isn't strict

-- the check of an open call expects nothing
nothing_kept : (last : Option Made) → filter has_expectation (option_to_list (unexpected true last)) ≡ []
nothing_kept None = refl
nothing_kept (Some made) = by made.is_refused
  where
    by : (b : Bool) → filter has_expectation (option_to_list (if b then Some (record { made = made; wanted = NoRefusal }) else None)) ≡ []
    by true = refl
    by false = refl

-- the checks with expectations are those of the test that isn't strict
kept : (accounts : Accounts) (f : Flat) (last : Option Made) (steps : List Step)
    → filter has_expectation (checks_from true accounts f last steps) ≡ checks_from false accounts f last steps
kept accounts f last [] = nothing_kept last
kept accounts f last (Makes c said ∷ steps) =
    let after = flat_after accounts f c.process c.call in
    let made : Option Made = Some (made_of accounts f c said) in
    filter-append has_expectation (option_to_list (unexpected true last)) (checks_from true accounts after made steps)
    ∙ ap₂ (λ (a b : List Check). a ++ b) (nothing_kept last) (kept accounts after made steps)
kept accounts f None (Expects text ∷ steps) = kept accounts f None steps
kept accounts f (Some made) (Expects text ∷ steps) =
    let check : Check = record { made = made; wanted = Text text } in
    ap (λ (cs : List Check). check ∷ cs) (kept accounts f None steps)
kept accounts f last (Asks q ∷ steps) = ap (λ (cs : List Check). asked_check accounts f q ∷ cs) (kept accounts f last steps)
kept accounts f last (Forbids q ∷ steps) = kept accounts f last steps

-- a test that holds of each value of a function keeps them all
pub all_kept : {A B : Type 0} (is : B → Bool) (h : A → B) → ((x : A) → is (h x) ≡ true) → (xs : List A) → filter is (map h xs) ≡ map h xs
all_kept is h holds [] = refl
all_kept {B = B} is h holds (x ∷ xs) =
    ap (λ (b : Bool). cond b (h x ∷ filter is (map h xs)) (filter is (map h xs))) (holds x)
    ∙ ap (λ (l : List B). h x ∷ l) (all_kept is h holds xs)

-- one that holds of none keeps none
pub none_kept : {A B : Type 0} (is : B → Bool) (h : A → B) → ((x : A) → is (h x) ≡ false) → (xs : List A) → filter is (map h xs) ≡ []
none_kept is h misses [] = refl
none_kept is h misses (x ∷ xs) =
    ap (λ (b : Bool). cond b (h x ∷ filter is (map h xs)) (filter is (map h xs))) (misses x) ∙ none_kept is h misses xs

-- the check of a claim `#never` of a test
abbrev own_check : Test → Never → Check
own_check test = never_check test.accounts (calls_in test.steps)

-- a strict test has the checks of the test that isn't strict
pub strict_tests_keep_the_checks : StrictTestsKeepTheChecks
strict_tests_keep_the_checks test =
    filter-append has_expectation (checks_from true test.accounts (boot test.accounts) None test.steps) (never_checks test)
    ∙ ap₂ (λ (a b : List Check). a ++ b) (kept test.accounts (boot test.accounts) None test.steps)
    (all_kept has_expectation (own_check test) (λ never. refl) (nevers_in test.steps))

-- ---- lines without an expectation

-- a call has the same place among the items, whatever its number
pub any_number : (n : ℕ) (item : Option Item) → is_some (call_in 0 item) ≡ is_some (call_in n item)
any_number n None = refl
any_number n (Some (items.Call p c)) = refl
any_number n (Some (items.User u)) = refl
any_number n (Some (items.Group g)) = refl
any_number n (Some items.Comment) = refl

-- a line without a step makes no call
none_called : (n : ℕ) (line : List ℕ) (asked text : Option (List ℕ)) (call : Option CallLine) → asked ≡ None → text ≡ None
    → step_by n line asked text call ≡ Ok None → call ≡ None
none_called n line (Some a) text call misses nothing e = absurd (none-some a (sym misses))
none_called n line None (Some t) call misses nothing e = absurd (none-some t (sym nothing))
none_called n line None None None misses nothing e = refl
none_called n line None None (Some c) misses nothing e = absurd cc

-- a question or a claim makes no call
pub asks_no_call : (n : ℕ) (line a : List ℕ) (item : Option Item) → item_of line ≡ item → asked_of line ≡ Some a → call_in n item ≡ None
asks_no_call n line a None says asked = refl
asks_no_call n line a (Some (items.User u)) says asked = refl
asks_no_call n line a (Some (items.Group g)) says asked = refl
asks_no_call n line a (Some items.Comment) says asked = refl
asks_no_call n line a (Some (items.Call p c)) says asked = absurd (none-some a (sym (no_comment line (call_says line p c says)).0 ∙ asked))

-- a claim `#never` makes no call
pub forbids_no_call : (n : ℕ) (line c : List ℕ) (item : Option Item) → item_of line ≡ item → forbidden_of line ≡ Some c → call_in n item ≡ None
forbids_no_call n line c None says is = refl
forbids_no_call n line c (Some (items.User u)) says is = refl
forbids_no_call n line c (Some (items.Group g)) says is = refl
forbids_no_call n line c (Some items.Comment) says is = refl
forbids_no_call n line c (Some (items.Call p u)) says is = absurd (none-some c (sym (no_claim_there line (call_says line p u says)) ∙ is))

-- a question or a claim is no expectation
pub asks_nothing_more : (line a : List ℕ) → asked_of line ≡ Some a → expectation_of line ≡ None
asks_nothing_more line a asked = by (bytes_eq (take 3 line) (codes "#= ")) refl
  where
    by : (b : Bool) → bytes_eq (take 3 line) (codes "#= ") ≡ b → (if b then Some (drop 3 line) else None) ≡ None
    by true is =
        let whole : codes "#= " ++ drop 3 line ≡ line =
        ap (λ (front : List ℕ). front ++ drop 3 line) (sym ((bytes_eq-Decides (take 3 line) (codes "#= ")).0 is)) ∙ take-append-drop 3 line in
        absurd (none-some a (ap asked_of whole ∙ asked))
    by false is = refl

-- the lines before the next call go on behind a line that neither expects nor calls
passes : (line : List ℕ) (lines : List (List ℕ)) → expectation_of line ≡ None → is_some (call_in 0 (item_of line)) ≡ false
    → is_expected_in (line ∷ lines) ≡ is_expected_in lines
passes line lines nothing misses =
    ap₂ (λ (e : Option (List ℕ)) (m : Bool). if is_some e then true else if m then false else is_expected_in lines) nothing misses

-- ---- the refusals that nobody expected

-- these checks are of these answers
abbrev Are : List Check → List RepliedCall → Type 0
Are checks answers = AllZip (λ check answer. IsAnswer check.made answer) checks answers

are_both : (a : List Check) (b : List RepliedCall) (c : List Check) (d : List RepliedCall) → Are a b → Are c d → Are (a ++ c) (b ++ d)
are_both [] [] c d one two = two
are_both [] (y ∷ b) c d one two = absurd one
are_both (x ∷ a) [] c d one two = absurd one
are_both (x ∷ a) (y ∷ b) c d one two = (one.0, are_both a b c d one.1 two)

-- this is the answer to the open call, if one is open
abbrev IsOpenAs : Option Made → Option RepliedCall → Type 0
IsOpenAs None None = Unit {0}
IsOpenAs None (Some a) = ⊥
IsOpenAs (Some made) None = ⊥
IsOpenAs (Some made) (Some a) = IsAnswer made a

-- the answer to the open call, if it is a refusal that these lines don't expect
abbrev due : Option RepliedCall → List (List ℕ) → List RepliedCall
due None lines = []
due (Some a) lines = if is_refusal a.reply && not (is_expected_in lines) then a ∷ [] else []

-- nothing is due where the reply is expected
none_due : (o : Option RepliedCall) (lines : List (List ℕ)) → is_expected_in lines ≡ true → due o lines ≡ []
none_due None lines finds = refl
none_due (Some a) lines finds =
    ap (λ (e : Bool). if is_refusal a.reply && not e then a ∷ [] else []) finds ∙ by (is_refusal a.reply)
  where
    by : (r : Bool) → (if r && false then a ∷ [] else []) ≡ []
    by true = refl
    by false = refl

-- the same is due where the same lines are left before the next call
due_on : (o : Option RepliedCall) (a b : List (List ℕ)) → is_expected_in a ≡ is_expected_in b → due o a ≡ due o b
due_on None a b same = refl
due_on (Some x) a b same = ap (λ (e : Bool). if is_refusal x.reply && not e then x ∷ [] else []) same

-- where the call is closed, its check is of what is due
closed_due : (last : Option Made) (o : Option RepliedCall) (lines : List (List ℕ)) → IsOpenAs last o → is_expected_in lines ≡ false
    → Are (filter has_none (option_to_list (unexpected true last))) (due o lines)
closed_due None None lines is misses = tt
closed_due None (Some a) lines is misses = absurd is
closed_due (Some made) None lines is misses = absurd is
closed_due (Some made) (Some a) lines is misses =
    subst (λ (b : Bool × Bool). Are (filter has_none (option_to_list (if b.0 then Some (record { made = made; wanted = NoRefusal }) else None)))
    (if is_refusal a.reply && not b.1 then a ∷ [] else [])) (λ i. (is.2 i, sym misses i)) (by (is_refusal a.reply))
  where
    by : (r : Bool) → Are (filter has_none (option_to_list (if r then Some (record { made = made; wanted = NoRefusal }) else None)))
        (if r && not false then a ∷ [] else [])
    by true = (is, tt)
    by false = tt

-- an element in front of a list, if a test says so
one_more : (b : Bool) (a : RepliedCall) (more : List RepliedCall) → (if b then a ∷ more else more) ≡ (if b then a ∷ [] else []) ++ more
one_more true a more = refl
one_more false a more = refl

module _ (text : List ℕ) (accounts : Accounts) where
  -- the refusals that nobody expected, of steps from a flat state on
  abbrev refused_from : Flat → List Step → List RepliedCall
  refused_from f steps = filter (is_unexpected_in text) (answered_from accounts f (calls_in steps))

  -- the checks without expectations are of what is due of the open call, and of the refusals among the steps
  abbrev AreOfLines : List (List ℕ) → List Step → Flat → Option Made → Option RepliedCall → Type 0
  AreOfLines lines steps f last o = Are (filter has_none (checks_from true accounts f last steps)) (due o lines ++ refused_from f steps)

  module _ (n : ℕ) (is_open opened : Bool) (line : List ℕ) (lines : List (List ℕ)) (rest : List Step) where
    -- the same for the lines after a line
    abbrev Later : Type 0
    Later = (f : Flat) (last : Option Made) (o : Option RepliedCall) → is_some last ≡ opened → IsOpenAs last o → AreOfLines lines rest f last o

    -- a step of the line that is no claim `#never`
    own : (step : Option Step) → step_of accounts (n + 1) line ≡ Ok step → nevers_by step ≡ []
        → step_by (n + 1) line (asked_of line) (expectation_of line) (call_in (n + 1) (item_of line)) ≡ Ok step
    own step is none = (no_claim accounts (n + 1) (forbidden_of line) _ step is none).1

    module _ (behind : drop (n + 1) (lines_of text) ≡ lines) (later : Later) where
      -- the case of a line with a call
      called : (c : CallLine) (said : List ℕ) → step_of accounts (n + 1) line ≡ Ok (Some (Makes c said)) → Some true ≡ Some opened
          → (f : Flat) (last : Option Made) (o : Option RepliedCall) → IsOpenAs last o
          → AreOfLines (line ∷ lines) (Makes c said ∷ rest) f last o
      called c said is opens f last o has =
          let call = call_in (n + 1) (item_of line) in
          let w = call_wanted (n + 1) line (asked_of line) (expectation_of line) call c said (own (Some (Makes c said)) is refl) in
          let after = flat_after accounts f c.process c.call in
          let a : RepliedCall = record { call = c; reply = reply_to accounts f c.process c.call } in
          let made = made_of accounts f c said in
          let opening = option_to_list (unexpected true last) in
          let more = checks_from true accounts after (Some made) rest in
          let calls : makes_call line ≡ true = any_number (n + 1) (item_of line) ∙ ap is_some w.2 in
          let misses : is_expected_in (line ∷ lines) ≡ false =
          ap₂ (λ (e : Option (List ℕ)) (m : Bool). if is_some e then true else if m then false else is_expected_in lines) w.1 calls in
          let number = line_of_step accounts (n + 1) line c said is in
          let at : drop c.line (lines_of text) ≡ lines = ap (λ (k : ℕ). drop k (lines_of text)) number ∙ behind in
          let answers : refused_from f (Makes c said ∷ rest) ≡ due (Some a) lines ++ refused_from after rest =
          ap (λ (ls : List (List ℕ)).
          if is_refusal a.reply && not (is_expected_in ls) then a ∷ refused_from after rest else refused_from after rest) at
          ∙ one_more (is_refusal a.reply && not (is_expected_in lines)) a (refused_from after rest) in
          subst (λ (cs : List Check). Are cs (due o (line ∷ lines) ++ refused_from f (Makes c said ∷ rest)))
          (sym (filter-append has_none opening more))
          (subst (λ (l : List RepliedCall). Are (filter has_none opening ++ filter has_none more) (due o (line ∷ lines) ++ l)) (sym answers)
          (are_both (filter has_none opening) (due o (line ∷ lines)) (filter has_none more) (due (Some a) lines ++ refused_from after rest)
          (closed_due last o (line ∷ lines) has misses) (later after (Some made) (Some a) (same_Some true opened opens) (refl, refl, refl))))

      -- the case of a line with any step, or none
      one_line : (step : Option Step) → step_of accounts (n + 1) line ≡ Ok step → OpensTo is_open step opened
          → (f : Flat) (last : Option Made) (o : Option RepliedCall) → is_some last ≡ is_open → IsOpenAs last o
          → AreOfLines (line ∷ lines) (option_to_list step ++ rest) f last o
      one_line None is opens f last o was has =
          let call = call_in (n + 1) (item_of line) in
          let other = own None is refl in
          let w = none_wanted (n + 1) line (asked_of line) (expectation_of line) call other in
          let misses = none_called (n + 1) line (asked_of line) (expectation_of line) call w.0 w.1 other in
          let same = passes line lines w.1 (any_number (n + 1) (item_of line) ∙ ap is_some misses) in
          subst (λ (d : List RepliedCall). Are (filter has_none (checks_from true accounts f last rest)) (d ++ refused_from f rest))
          (sym (due_on o (line ∷ lines) lines same)) (later f last o (was ∙ sym opens) has)
      one_line (Some (Makes c said)) is opens f last o was has = called c said is opens f last o has
      one_line (Some (Expects wanted)) is opens f None o was has =
          absurd (none-some opened (ap (λ (b : Bool). open_after b (Expects wanted)) was ∙ opens))
      one_line (Some (Expects wanted)) is opens f (Some made) o was has =
          let call = call_in (n + 1) (item_of line) in
          let w = text_wanted (n + 1) line (asked_of line) (expectation_of line) call wanted (own (Some (Expects wanted)) is refl) in
          let shut : false ≡ opened = same_Some false opened (ap (λ (b : Bool). open_after b (Expects wanted)) was ∙ opens) in
          let finds : is_expected_in (line ∷ lines) ≡ true =
          ap (λ (e : Option (List ℕ)). if is_some e then true else if makes_call line then false else is_expected_in lines) w.1 in
          subst (λ (d : List RepliedCall). Are (filter has_none (checks_from true accounts f None rest)) (d ++ refused_from f rest))
          (sym (none_due o (line ∷ lines) finds)) (later f None None shut tt)
      one_line (Some (Asks q)) is opens f last o was has =
          let call = call_in (n + 1) (item_of line) in
          let w = rights_wanted (n + 1) line (asked_of line) (expectation_of line) call q (own (Some (Asks q)) is refl) in
          let misses = asks_no_call (n + 1) line w.0 (item_of line) refl w.1 in
          let same = passes line lines (asks_nothing_more line w.0 w.1) (any_number (n + 1) (item_of line) ∙ ap is_some misses) in
          subst (λ (d : List RepliedCall). Are (filter has_none (checks_from true accounts f last rest)) (d ++ refused_from f rest))
          (sym (due_on o (line ∷ lines) lines same)) (later f last o (was ∙ same_Some is_open opened opens) has)
      one_line (Some (Forbids q)) is opens f last o was has =
          let call = call_in (n + 1) (item_of line) in
          let c = claim_wanted accounts (n + 1) line (forbidden_of line) (asked_of line) (expectation_of line) call q is in
          let misses = forbids_no_call (n + 1) line c.0 (item_of line) refl c.1 in
          let same = passes line lines (forbids_alone line c.0 c.1).1 (any_number (n + 1) (item_of line) ∙ ap is_some misses) in
          subst (λ (d : List RepliedCall). Are (filter has_none (checks_from true accounts f last rest)) (d ++ refused_from f rest))
          (sym (due_on o (line ∷ lines) lines same)) (later f last o (was ∙ same_Some is_open opened opens) has)

  -- the lines behind the first n have their checks
  of_lines : (n : ℕ) (is_open : Bool) (lines : List (List ℕ)) (steps : List Step) → drop n (lines_of text) ≡ lines
      → steps_from accounts (n + 1) is_open lines ≡ Ok steps
      → (f : Flat) (last : Option Made) (o : Option RepliedCall) → is_some last ≡ is_open → IsOpenAs last o → AreOfLines lines steps f last o
  unfolding steps_from
  of_lines n is_open [] steps at read f last o was has =
      let none : steps ≡ [] = cc in
      subst (λ (s : List Step). AreOfLines [] s f last o) (sym none)
      (subst (λ (l : List RepliedCall). Are (filter has_none (option_to_list (unexpected true last))) l) (sym (append-nil (due o [])))
      (closed_due last o [] has refl))
  of_lines n is_open (line ∷ lines) steps at read f last o was has =
      let on = on_line accounts (n + 1) is_open line lines steps read in
      let behind : drop (n + 1) (lines_of text) ≡ lines = sym (drop-drop 1 n (lines_of text)) ∙ ap (drop 1) at in
      subst (λ (s : List Step). AreOfLines (line ∷ lines) s f last o) (sym on.parts)
      (one_line n is_open on.opened line lines on.rest behind
      (λ g l p w u. of_lines (n + 1) on.opened lines on.rest behind on.is_rest g l p w u) on.step on.is_step on.opens f last o was has)

-- no check of a claim `#never` is of a refusal
claims_expect : (test : Test)
    → filter has_none (checks_of true test) ≡ filter has_none (checks_from true test.accounts (boot test.accounts) None test.steps)
claims_expect test =
    let own = checks_from true test.accounts (boot test.accounts) None test.steps in
    filter-append has_none own (never_checks test)
    ∙ ap (λ (l : List Check). filter has_none own ++ l) (none_kept has_none (own_check test) (λ never. refl) (nevers_in test.steps))
    ∙ append-nil (filter has_none own)

-- the other checks of a strict test are of the refusals that nobody expected
pub unexpected_refusals_are_checked : UnexpectedRefusalsAreChecked
unexpected_refusals_are_checked text script test is reads =
    let makes = tests_make_the_calls text script test is reads in
    let all =
    of_lines text test.accounts 0 false (lines_of text) test.steps refl (read_as text test reads).are_steps (boot test.accounts) None None refl tt in
    subst (λ (checks : List Check). Are checks (unexpected_in text script)) (sym (claims_expect test))
    (subst (λ (s : Accounts × List CallLine).
    Are (filter has_none (checks_from true test.accounts (boot test.accounts) None test.steps)) (filter (is_unexpected_in text) (meaning s.0 s.1)))
    (λ i. (makes.0 i, makes.1 i)) all)

-- ---- the answer

-- of two tests the second passes, if both do
second_passes : (m x : Bool) → (m && x) ≡ true → x ≡ true
second_passes true x e = e
second_passes false x e = absurd cc

-- both pass, with another in the place of the second
first_passes : (m x y : Bool) → (x ≡ true → y ≡ true) → (m && x) ≡ true → (m && y) ≡ true
first_passes true x y on e = on e
first_passes false x y on e = absurd cc

-- checks that are met expect something, and are met
parts_met : (checks : List Check) → list_all is_met checks ≡ true
    → (list_all is_met (filter has_expectation checks) ≡ true) × (filter has_none checks ≡ [])
parts_met [] e = (refl, refl)
parts_met (c ∷ checks) e = by (parts_met checks) c.made c.wanted e
  where
    by : (list_all is_met checks ≡ true → (list_all is_met (filter has_expectation checks) ≡ true) × (filter has_none checks ≡ []))
        → (made : Made) (wanted : Wanted) → list_all is_met (record { made = made; wanted = wanted } ∷ checks) ≡ true
        → (list_all is_met (filter has_expectation (record { made = made; wanted = wanted } ∷ checks)) ≡ true)
        × (filter has_none (record { made = made; wanted = wanted } ∷ checks) ≡ [])
    by met made NoRefusal e = absurd cc
    by met made (Text wanted) e =
        let m = bytes_eq made.reply wanted in
        let all = list_all is_met checks in
        let more = met (second_passes m all e) in
        (first_passes m all (list_all is_met (filter has_expectation checks)) (λ h. more.0) e, more.1)
    by met made NoBreach e =
        let m = is_empty made.reply in
        let all = list_all is_met checks in
        let more = met (second_passes m all e) in
        (first_passes m all (list_all is_met (filter has_expectation checks)) (λ h. more.0) e, more.1)

-- checks are met if all expect something, and those that do are met
whole_met : (checks : List Check) → list_all is_met (filter has_expectation checks) ≡ true → filter has_none checks ≡ []
    → list_all is_met checks ≡ true
whole_met [] e none = refl
whole_met (c ∷ checks) e none = by (whole_met checks) c.made c.wanted e none
  where
    by : (list_all is_met (filter has_expectation checks) ≡ true → filter has_none checks ≡ [] → list_all is_met checks ≡ true)
        → (made : Made) (wanted : Wanted)
        → list_all is_met (filter has_expectation (record { made = made; wanted = wanted } ∷ checks)) ≡ true
        → filter has_none (record { made = made; wanted = wanted } ∷ checks) ≡ []
        → list_all is_met (record { made = made; wanted = wanted } ∷ checks) ≡ true
    by met made NoRefusal e none = absurd cc
    by met made (Text wanted) e none =
        first_passes (bytes_eq made.reply wanted) (list_all is_met (filter has_expectation checks)) (list_all is_met checks)
        (λ h. met h none) e
    by met made NoBreach e none =
        first_passes (is_empty made.reply) (list_all is_met (filter has_expectation checks)) (list_all is_met checks)
        (λ h. met h none) e

-- no check is of no answer
no_answers : (checks : List Check) (answers : List RepliedCall) → Are checks answers → checks ≡ [] → answers ≡ []
no_answers checks [] are none = refl
no_answers [] (a ∷ answers) are none = absurd are
no_answers (c ∷ checks) (a ∷ answers) are none = absurd cc

no_checks : (checks : List Check) (answers : List RepliedCall) → Are checks answers → answers ≡ [] → checks ≡ []
no_checks [] answers are none = refl
no_checks (c ∷ checks) [] are none = absurd are
no_checks (c ∷ checks) (a ∷ answers) are none = absurd cc

-- a strict test is met exactly if the test is met that isn't, and there is no refusal that nobody expected
pub strict_tests_are_met : StrictTestsAreMet
strict_tests_are_met text script test is reads =
    let all = checks_of true test in
    let same = strict_tests_keep_the_checks test in
    let are = unexpected_refusals_are_checked text script test is reads in
    let others = filter has_none all in (
      λ e.
          let parts = parts_met all e in
          (sym (ap (list_all is_met) same) ∙ parts.0, no_answers others (unexpected_in text script) are parts.1),
      λ e. whole_met all (ap (list_all is_met) same ∙ e.0) (no_checks others (unexpected_in text script) are e.1),
    )
