-- What a test guarantees.
use Rattle.std.specs.Prelude.{◌≡◌, ◌↔◌, ℕ, ◌+◌, ◌||◌, true, false, Bool, List, [], ◌∷◌, ◌++◌, Some, Ok, MatchOption, drop, filter, is_some, not, ◌&&◌, if◌then◌else◌}
use Rattle.std.specs.List.{AllZip, list_all}
use Rattle.std.specs.Option.{IsSomeAnd}
use Rattle.histar_flat.specs.Meaning.{RepliedCall, meaning}
use Rattle.histar_flat.specs.Texts.{reply_text}
use Rattle.histar_reasons.specs.Laws.{is_refusal}
use Rattle.histar_flat.specs.Words.{ProcName}
use Rattle.histar_script.specs.Lines.{lines_of}
use Rattle.histar_script.specs.Script.{ScriptModel}
use Rattle.histar_script.specs.Reading.{item_of, script_of}
use Rattle.histar_rights.specs.declared.rights.Rights.{Rights}
use Rattle.histar_diff.specs.Changes.{IsAnsweredBy}
use Rattle.histar_prefix.specs.Prefix.{calls_before, state_before}
use Rattle.histar_never.specs.declared.claims.Never.{Never}
use Rattle.histar_never.specs.Claims.{never_of}
use Rattle.histar_never.specs.Laws.{IsNever}
use Rattle.histar_test.specs.declared.checks.Check.{Check}
use Rattle.histar_test.specs.declared.checks.Made.{Made}
use Rattle.histar_test.specs.declared.checks.Wanted.{Wanted}
use Rattle.histar_test.specs.declared.checks.Wanted.TheVariants.{NoBreach, NoRefusal, Text}
use Rattle.histar_test.specs.declared.asking.Asking.TheVariants.{OfRights, OfTrust}
use Rattle.histar_test.specs.declared.claims.Claim.{Claim}
use Rattle.histar_test.specs.declared.questions.Question.{Question}
use Rattle.histar_test.specs.Steps.{Test, asked_of, asking_of, call_in, calls_in, claim_of, expectation_of, forbidden_of, test_of}
use Rattle.histar_test.specs.Checks.{asked_check, asked_in, checks_of, is_met, names_text, never_check, trusted_names, wanted_text}

-- the calls of a test are those of its script, in their order
abbrev pub TestsMakeTheCalls : Type 0
TestsMakeTheCalls = (text : List ℕ) (script : ScriptModel) (test : Test) → script_of text ≡ Ok script → test_of text ≡ Ok test
    → (test.accounts ≡ script.accounts) × (calls_in test.steps ≡ script.calls)

-- a line of a text, with its number
pub record NumberedLine : Type 0 where
  pub number : ℕ
  pub text : List ℕ

-- the line expects a reply, asks for rights, or claims who is trusted
abbrev pub wants : List ℕ → Bool
wants line = is_some (asked_of line) || is_some (expectation_of line)

-- the line claims that somebody never has a right
abbrev pub forbids : List ℕ → Bool
forbids line = is_some (forbidden_of line)

-- the lines of which the test holds, where the first of all has the number n
abbrev pub lines_with : (List ℕ → Bool) → ℕ → List (List ℕ) → List NumberedLine
lines_with is n [] = []
lines_with is n (line ∷ lines) = if is line then record { number = n; text = line } ∷ lines_with is (n + 1) lines else lines_with is (n + 1) lines

-- the lines of a text that expect a reply, ask for rights, or claim who is trusted, in their order
abbrev pub wanting_in : List ℕ → List NumberedLine
wanting_in text = lines_with wants 1 (lines_of text)

-- the claims `#never` of a text, in their order
abbrev pub forbidding_in : List ℕ → List NumberedLine
forbidding_in text = lines_with forbids 1 (lines_of text)

-- the lines of a text that have a check each: those that expect or ask, and then the claims `#never`
abbrev pub checked_in : List ℕ → List NumberedLine
checked_in text = wanting_in text ++ forbidding_in text

-- the check expects what is on the line: this text of a reply, these letters of rights, or these processes
abbrev pub IsAnswerWantedOn : NumberedLine → Check → Type 0
IsAnswerWantedOn line check = MatchOption (asked_of line.text)
    (IsSomeAnd (expectation_of line.text) (λ text. check.wanted ≡ Text text))
    (λ asked. IsSomeAnd (asking_of line.number asked) (λ a. check.wanted ≡ Text (wanted_text a)))

-- the same, or the line is a claim `#never`, and the check wants that there is no breach
abbrev pub IsExpectedOn : NumberedLine → Check → Type 0
IsExpectedOn line check = MatchOption (forbidden_of line.text) (IsAnswerWantedOn line check) (λ claim. check.wanted ≡ NoBreach)

-- each line of the text that expects or asks is checked, once and in its order, and then each claim `#never`
abbrev pub ExpectationsAreChecked : Type 0
ExpectationsAreChecked = (text : List ℕ) (test : Test) → test_of text ≡ Ok test → AllZip IsExpectedOn (checked_in text) (checks_of false test)

-- the call is on this line, and the reply has this text; it is marked where it is a refusal
abbrev pub IsAnswer : Made → RepliedCall → Type 0
IsAnswer made a = (a.call.line ≡ made.line) × (reply_text a.reply ≡ made.reply) × (is_refusal a.reply ≡ made.is_refused)

-- the last of some calls with their replies has this line and this reply
pub record IsLastAnswer (made : Made) (answers : List RepliedCall) : Type 0 where
  pub before : List RepliedCall
  pub last : RepliedCall
  pub parts : answers ≡ before ++ last ∷ []
  pub is_answer : IsAnswer made last

-- A check is of the script's meaning: for an expectation, of the reply to the last call on the lines before it; for a question or a claim on
-- trust, of the rights or of the trusted in the flat state after the calls on the lines before it.
abbrev pub IsAnsweredOn : ScriptModel → NumberedLine → Check → Type 0
IsAnsweredOn script line check = MatchOption (asked_of line.text)
    (IsLastAnswer check.made (meaning script.accounts (calls_before (Some line.number) script.calls)))
    (λ asked. IsSomeAnd (asking_of line.number asked)
    (λ a. check.made ≡ asked_in script.accounts (state_before (Some line.number) script) a))

-- The same; and for a claim `#never`, of its first breach after one of all calls of the script.
abbrev pub IsOfTheMeaning : ScriptModel → NumberedLine → Check → Type 0
IsOfTheMeaning script line check = MatchOption (forbidden_of line.text) (IsAnsweredOn script line check)
    (λ claim. IsSomeAnd (never_of script.accounts line.number claim)
    (λ never. check ≡ never_check script.accounts script.calls never))

-- each check is of the script's meaning for its line
abbrev pub ChecksAreOfTheMeaning : Type 0
ChecksAreOfTheMeaning = (text : List ℕ) (script : ScriptModel) (test : Test) → script_of text ≡ Ok script → test_of text ≡ Ok test
    → AllZip (IsOfTheMeaning script) (checked_in text) (checks_of false test)

-- These letters are the answers to the process of a question at its path, after the calls on the lines before line n; and the question is
-- met exactly if it expects them.
pub record IsMetByReplies (script : ScriptModel) (n : ℕ) (q : Question) : Type 0 where
  pub letters : Rights
  pub answered : IsAnsweredBy script.accounts (calls_before (Some n) script.calls) q.process q.path letters
  pub met : (is_met (asked_check script.accounts (state_before (Some n) script) (OfRights q)) ≡ true) ↔ (q.wanted ≡ letters)

-- a question is met exactly if four more lines would give its answers
abbrev pub QuestionsAreOfReplies : Type 0
QuestionsAreOfReplies = (script : ScriptModel) (n : ℕ) (q : Question) → IsMetByReplies script n q

-- The claim is of these processes, and is met exactly if they are those that are trusted after the calls on the lines before line n, in the
-- order of names.
pub record IsMetByTheTrusted (script : ScriptModel) (n : ℕ) (c : Claim) : Type 0 where
  pub names : List ProcName
  pub wanted : c.wanted ≡ names_text names
  pub met : (is_met (asked_check script.accounts (state_before (Some n) script) (OfTrust c)) ≡ true)
      ↔ (trusted_names script.accounts (state_before (Some n) script) c.path ≡ Some names)

-- a claim that can be read is met exactly if it names the processes that are trusted
abbrev pub ClaimsAreMet : Type 0
ClaimsAreMet = (script : ScriptModel) (n : ℕ) (text : List ℕ) (c : Claim) → claim_of n text ≡ Some c → IsMetByTheTrusted script n c

-- ---- claims that somebody never has a right

-- a breach is unwanted
abbrev pub is_of_breach : Wanted → Bool
is_of_breach (Text wanted) = false
is_of_breach NoRefusal = false
is_of_breach NoBreach = true

-- the check is of a claim `#never`
abbrev pub is_of_never : Check → Bool
is_of_never check = is_of_breach check.wanted

-- The claim on the line can be read, and the check is met exactly if it holds after each call of the script.
pub record IsMetIfNever (script : ScriptModel) (line : NumberedLine) (check : Check) : Type 0 where
  pub text : List ℕ
  pub on_line : forbidden_of line.text ≡ Some text
  pub never : Never
  pub reads : never_of script.accounts line.number text ≡ Some never
  pub met : (is_met check ≡ true) ↔ IsNever script.accounts script.calls never

-- the check of each claim `#never` of a test, strict or not, is met exactly if the claim holds
abbrev pub NeversAreMet : Type 0
NeversAreMet =
    (strict : Bool) (text : List ℕ) (script : ScriptModel) (test : Test) → script_of text ≡ Ok script → test_of text ≡ Ok test
    → AllZip (IsMetIfNever script) (forbidding_in text) (filter is_of_never (checks_of strict test))

-- ---- strict tests

-- nobody expected the reply
abbrev pub is_of_refusal : Wanted → Bool
is_of_refusal (Text wanted) = false
is_of_refusal NoRefusal = true
is_of_refusal NoBreach = false

-- the check is of a reply that nobody expected
abbrev pub has_none : Check → Bool
has_none check = is_of_refusal check.wanted

-- the check is of what a test says: of an expectation, of a question, or of a claim
abbrev pub has_expectation : Check → Bool
has_expectation check = not (has_none check)

-- a strict test has the checks of the same test that isn't strict, in their order, and others that expect nothing
abbrev pub StrictTestsKeepTheChecks : Type 0
StrictTestsKeepTheChecks = (test : Test) → filter has_expectation (checks_of true test) ≡ checks_of false test

-- the line makes a call
abbrev pub makes_call : List ℕ → Bool
makes_call line = is_some (call_in 0 (item_of line))

-- an expectation is among these lines, before the next call
abbrev pub is_expected_in : List (List ℕ) → Bool
is_expected_in [] = false
is_expected_in (line ∷ lines) = if is_some (expectation_of line) then true else if makes_call line then false else is_expected_in lines

-- the reply is a refusal, and no expectation is behind the line of its call before the next call
abbrev pub is_unexpected_in : List ℕ → RepliedCall → Bool
is_unexpected_in text answer = is_refusal answer.reply && not (is_expected_in (drop answer.call.line (lines_of text)))

-- the calls of a script with their replies, by its meaning, that are refusals which the text doesn't expect
abbrev pub unexpected_in : List ℕ → ScriptModel → List RepliedCall
unexpected_in text script = filter (is_unexpected_in text) (meaning script.accounts script.calls)

-- the other checks of a strict test are of the refusals that nobody expected, of each once and in the order of the calls
abbrev pub UnexpectedRefusalsAreChecked : Type 0
UnexpectedRefusalsAreChecked = (text : List ℕ) (script : ScriptModel) (test : Test) → script_of text ≡ Ok script → test_of text ≡ Ok test
    → AllZip (λ check answer. IsAnswer check.made answer) (filter has_none (checks_of true test)) (unexpected_in text script)

-- a strict test is met exactly if the same test is met where it isn't strict, and there is no refusal that nobody expected
abbrev pub StrictTestsAreMet : Type 0
StrictTestsAreMet = (text : List ℕ) (script : ScriptModel) (test : Test) → script_of text ≡ Ok script → test_of text ≡ Ok test
    → (list_all is_met (checks_of true test) ≡ true) ↔ ((list_all is_met (checks_of false test) ≡ true) × (unexpected_in text script ≡ []))
