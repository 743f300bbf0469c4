-- The steps of a script that says what it expects: its calls, the expected replies after them, questions about rights, claims on trust, and claims
-- that somebody never has a right.
use Rattle.std.specs.Prelude.{◌≡◌, ℕ, ◌+◌, ◌==◌, ◌||◌, Bool, true, false, List, [], ◌∷◌, ◌++◌}
use Rattle.std.specs.Prelude.{take, drop, codes, count_by, is_some, not, option_map, Option, None, Some, Result, Ok, Err, if◌then◌else◌}
use Rattle.std.specs.List.{filter_map, list_all, slice_split}
use Rattle.std.specs.Str.{bytes_eq}
use Rattle.std.specs.Global.{Vec}
use Rattle.histar_flat.specs.declared.calls.CallLine.{CallLine}
use Rattle.histar_flat.specs.Accounts.{Accounts}
use Rattle.histar_script.specs.declared.fault.Fault.{Fault}
use Rattle.histar_script.specs.declared.fault.Fault.TheVariants.{BadScript, TooLong, OutOfMemory, ReadFailed, WriteFailed}
use Rattle.histar_script.specs.declared.items.Item.{Item}
use Rattle.histar_script.specs.declared.items.Item.TheVariants as items
use Rattle.histar_flat.specs.Words.{ProcName, path_of, process_of}
use Rattle.histar_script.specs.Lines.{lines_of, split_word}
use Rattle.histar_script.specs.Script.{ScriptModel}
use Rattle.histar_script.specs.Reading.{◌>>=◌, item_of, script_of}
use Rattle.histar_rights.specs.declared.rights.Rights.{Rights}
use Rattle.histar_rights.specs.Rights.{rights_spelled}
use Rattle.histar_never.specs.declared.claims.Never.{Never}
use Rattle.histar_never.specs.Claims.{never_of}
use Rattle.histar_test.specs.declared.asking.Asking.{Asking}
use Rattle.histar_test.specs.declared.asking.Asking.TheVariants.{OfRights, OfTrust}
use Rattle.histar_test.specs.declared.claims.Claim.{Claim}
use Rattle.histar_test.specs.declared.questions.Question.{Question}
use Rattle.histar_test.specs.declared.steps.Reading.{Reading}
use Rattle.histar_test.specs.declared.steps.Step.{Step}
use Rattle.histar_test.specs.declared.steps.Step.TheVariants.{Makes, Expects, Asks, Forbids}

-- the reply that a line expects of the call before it: the text after `#= `
abbrev pub expectation_of : List ℕ → Option (List ℕ)
expectation_of line = if bytes_eq (take 3 line) (codes "#= ") then Some (drop 3 line) else None

-- the line is a question about rights: it begins with `#! `
abbrev pub is_question : List ℕ → Bool
is_question line = bytes_eq (take 3 line) (codes "#! ")

-- the line is a claim on trust: its first word is `#trusted`
abbrev pub is_claim : List ℕ → Bool
is_claim line = bytes_eq (take 9 line) (codes "#trusted ") || bytes_eq line (codes "#trusted")

-- the text of the question or the claim on a line, after `#`
abbrev pub asked_of : List ℕ → Option (List ℕ)
asked_of line = if is_question line || is_claim line then Some (drop 1 line) else None

-- the line is a claim that somebody never has a right: its first word is `#never`
abbrev pub is_never : List ℕ → Bool
is_never line = bytes_eq (take 7 line) (codes "#never ") || bytes_eq line (codes "#never")

-- the text of such a claim on a line, after `#`
abbrev pub forbidden_of : List ℕ → Option (List ℕ)
forbidden_of line = if is_never line then Some (drop 1 line) else None

-- a process and the letters of rights, with a space between them
unfoldable pub process_and_rights_of : List ℕ → Option (ProcName × Rights)
process_and_rights_of text = do
  process ← process_of (split_word text).0
  letters ← (split_word text).1
  rights ← rights_spelled letters
  Some (process, rights)

-- the question in a text on line n: a path, and after a space a process and the letters of rights
unfoldable pub question_of : ℕ → List ℕ → Option Question
question_of n text = do
  path ← path_of (split_word text).0
  rest ← (split_word text).1
  wanted ← process_and_rights_of rest
  Some (record { line = n; said = text; path = path; process = wanted.0; wanted = wanted.1 })

-- the word is a process
abbrev pub is_process_word : List ℕ → Bool
is_process_word word = is_some (process_of word)

-- the words of a text are processes, with one space between two
abbrev pub are_processes : List ℕ → Bool
are_processes text = list_all is_process_word (slice_split (λ b. b == 32) text)

-- the processes that a claim names behind its path, as a text: `nobody` if there are none
abbrev pub claimed_of : Option (List ℕ) → Option (List ℕ)
claimed_of None = Some (codes "nobody")
claimed_of (Some text) = if are_processes text then Some text else None

-- the claim in a text on line n: behind its first word a path, and processes
unfoldable pub claim_of : ℕ → List ℕ → Option Claim
claim_of n text = do
  rest ← (split_word text).1
  path ← path_of (split_word rest).0
  claimed ← claimed_of (split_word rest).1
  Some (record { line = n; said = text; path = path; wanted = claimed })

-- what a text on line n asks: after `! ` for rights, and else who is trusted
abbrev pub asking_of : ℕ → List ℕ → Option Asking
asking_of n text =
    if bytes_eq (take 2 text) (codes "! ") then option_map OfRights (question_of n (drop 2 text)) else option_map OfTrust (claim_of n text)

-- the call that an item is, on line n
abbrev pub call_in : ℕ → Option Item → Option CallLine
call_in n (Some (items.Call p c)) = Some (record { line = n; process = p; call = c })
call_in n (Some (items.User u)) = None
call_in n (Some (items.Group g)) = None
call_in n (Some items.Comment) = None
call_in n None = None

-- these steps and then others, or the number of a bad line
abbrev pub steps_before : List Step → Result (List Step) ℕ → Result (List Step) ℕ
steps_before front (Ok steps) = Ok (front ++ steps)
steps_before front (Err n) = Err n

-- the step is a call
abbrev pub is_call : Step → Bool
is_call (Makes call said) = true
is_call (Expects text) = false
is_call (Asks asking) = false
is_call (Forbids never) = false

-- Whether a call is open after a step, given whether one is before it; an expectation has to have an open call before it. A question and the
-- claims leave the call open, if one is.
abbrev pub open_after : Bool → Step → Option Bool
open_after is_open (Makes call said) = Some true
open_after true (Expects text) = Some false
open_after false (Expects text) = None
open_after is_open (Asks asking) = Some is_open
open_after is_open (Forbids never) = Some is_open

-- the step that a call is, on a line with this text
abbrev pub call_step : List ℕ → Option CallLine → Option Step
call_step line (Some call) = Some (Makes call line)
call_step line None = None

-- the step of a question or a claim on line n, or the line's number if it can't be read
abbrev pub asking_step : ℕ → Option Asking → Result (Option Step) ℕ
asking_step n (Some asking) = Ok (Some (Asks asking))
asking_step n None = Err n

-- the step of line n, which has this question or claim on trust, or else expects this reply, or else makes this call
abbrev pub step_by : ℕ → List ℕ → Option (List ℕ) → Option (List ℕ) → Option CallLine → Result (Option Step) ℕ
step_by n line (Some asked) text call = asking_step n (asking_of n asked)
step_by n line None (Some text) call = Ok (Some (Expects text))
step_by n line None None call = Ok (call_step line call)

-- the step of a claim `#never` on line n, or the line's number if it can't be read
abbrev pub never_step : ℕ → Option Never → Result (Option Step) ℕ
never_step n (Some never) = Ok (Some (Forbids never))
never_step n None = Err n

-- the step of line n, which has this claim `#never`, or else the other step
abbrev pub step_or : Accounts → ℕ → Option (List ℕ) → Result (Option Step) ℕ → Result (Option Step) ℕ
step_or accounts n (Some text) other = never_step n (never_of accounts n text)
step_or accounts n None other = other

-- The step of line n, if it has one: its claim, its question or its expectation, or else its call; or its number, if it is bad. A claim `#never`
-- names users of the accounts.
abbrev pub step_of : Accounts → ℕ → List ℕ → Result (Option Step) ℕ
step_of accounts n line =
    step_or accounts n (forbidden_of line) (step_by n line (asked_of line) (expectation_of line) (call_in n (item_of line)))

-- a step and those after it, given whether a call is open after the step; or the number of the step's line, if it may not be there
abbrev pub step_then : ℕ → Step → Option Bool → (Bool → Result (List Step) ℕ) → Result (List Step) ℕ
step_then n step (Some opened) later = steps_before (step ∷ []) (later opened)
step_then n step None later = Err n

-- the step of line n, if it has one, and then those after it, given whether a call is open there
abbrev pub steps_by : ℕ → Bool → Result (Option Step) ℕ → (Bool → Result (List Step) ℕ) → Result (List Step) ℕ
steps_by n is_open (Err bad) later = Err bad
steps_by n is_open (Ok None) later = later is_open
steps_by n is_open (Ok (Some step)) later = step_then n step (open_after is_open step) later

-- The steps of lines, of which the first is line n, or the number of the first bad line: its expectation has no call before it, or its
-- question or its claim can't be read. A call is open until an expectation follows it, and each expectation follows an open call.
unfoldable pub steps_from : Accounts → ℕ → Bool → List (List ℕ) → Result (List Step) ℕ
steps_from accounts n is_open [] = Ok []
steps_from accounts n is_open (line ∷ lines) =
    steps_by n is_open (step_of accounts n line) (λ opened. steps_from accounts (n + 1) opened lines)

-- a test: the accounts of a script, and its steps
pub record Test : Type 0 where
  pub accounts : Accounts
  pub steps : List Step

-- a test with these steps, or the fault of a bad line
abbrev pub test_with : Accounts → Result (List Step) ℕ → Result Test Fault
test_with accounts (Ok steps) = Ok (record { accounts = accounts; steps = steps })
test_with accounts (Err line) = Err (BadScript line)

-- a script with its steps, which are read by its accounts, if neither has a fault; that of the script comes first
abbrev pub test_by : Result ScriptModel Fault → (Accounts → Result (List Step) ℕ) → Result Test Fault
test_by (Err fault) read = Err fault
test_by (Ok script) read = test_with script.accounts (read script.accounts)

-- the test in a text: a script, whose fault comes first, in which each expectation has its call and each question and claim can be read
abbrev pub test_of : List ℕ → Result Test Fault
test_of text = test_by (script_of text) (λ accounts. steps_from accounts 1 false (lines_of text))

-- the call of a step
abbrev pub call_of_step : Step → Option CallLine
call_of_step (Makes call said) = Some call
call_of_step (Expects text) = None
call_of_step (Asks asking) = None
call_of_step (Forbids never) = None

-- the calls of steps
abbrev pub calls_in : List Step → List CallLine
calls_in steps = filter_map call_of_step steps

-- the claim `#never` of a step
abbrev pub never_of_step : Step → Option Never
never_of_step (Makes call said) = None
never_of_step (Expects text) = None
never_of_step (Asks asking) = None
never_of_step (Forbids never) = Some never

-- the claims `#never` among steps
abbrev pub nevers_in : List Step → List Never
nevers_in steps = filter_map never_of_step steps

-- ---- the parts

-- the number of steps that have a check of their own: all but the calls
abbrev pub expectation_count : List Step → ℕ
expectation_count steps = count_by (λ step. not (is_call step)) steps

-- the steps of lines were read, or memory ran out
abbrev pub GivesSteps : Result (Vec Step) Fault → Result (List Step) ℕ → Type 0
GivesSteps (Ok steps) read = read ≡ Ok steps.items
GivesSteps (Err (BadScript n)) read = read ≡ Err n
GivesSteps (Err OutOfMemory) read = Unit {0}
GivesSteps (Err TooLong) read = ⊥
GivesSteps (Err ReadFailed) read = ⊥
GivesSteps (Err WriteFailed) read = ⊥

-- the step of line n was read, or the line is bad, unless memory ran out
abbrev pub GivesStep : ℕ → Result (Option Step) Fault → Result (Option Step) ℕ → Type 0
GivesStep n (Ok step) read = read ≡ Ok step
GivesStep n (Err (BadScript k)) read = (k ≡ n) × (read ≡ Err n)
GivesStep n (Err OutOfMemory) read = Unit {0}
GivesStep n (Err TooLong) read = ⊥
GivesStep n (Err ReadFailed) read = ⊥
GivesStep n (Err WriteFailed) read = ⊥

-- Whatever lines follow line n, their steps come after those that it adds, and a call is open there or not.
pub record AddsLine (accounts : Accounts) (n : ℕ) (line : List ℕ) (old new : Reading) : Type 0 where
  pub added : List Step
  pub steps : new.steps.items ≡ old.steps.items ++ added
  pub goes_on : (lines : List (List ℕ))
      → steps_from accounts n old.is_open (line ∷ lines) ≡ steps_before added (steps_from accounts (n + 1) new.is_open lines)

-- line n was taken, or is bad, unless memory ran out
abbrev pub TakesLine : Accounts → ℕ → List ℕ → Reading → Reading → Result (Unit {0}) Fault → Type 0
TakesLine accounts n line old new (Ok done) = AddsLine accounts n line old new
TakesLine accounts n line old new (Err (BadScript k)) =
    (k ≡ n) × ((lines : List (List ℕ)) → steps_from accounts n old.is_open (line ∷ lines) ≡ Err n)
TakesLine accounts n line old new (Err OutOfMemory) = Unit {0}
TakesLine accounts n line old new (Err TooLong) = ⊥
TakesLine accounts n line old new (Err ReadFailed) = ⊥
TakesLine accounts n line old new (Err WriteFailed) = ⊥
