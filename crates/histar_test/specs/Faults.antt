-- The rules that a test has to keep beyond those of a script, each with the sentence on a bad line that breaks it.
use Rattle.std.specs.Prelude.{◌≡◌, ℕ, ◌-◌, ◌&&◌, ◌==◌, Bool, true, false, not, List, [], ◌∷◌, take, drop, map, codes, is_none, is_some}
use Rattle.std.specs.Prelude.{option_and_then, option_map, unwrap_or, Option, None, Some, Result, Ok, Err, if◌then◌else◌}
use Rattle.std.specs.List.{slice_get, slice_split}
use Rattle.std.specs.Str.{bytes_eq}
use Rattle.histar_flat.specs.Accounts.{Accounts}
use Rattle.histar_flat.specs.Words.{path_of, process_of}
use Rattle.histar_script.specs.declared.fault.Fault.{Fault}
use Rattle.histar_script.specs.declared.fault.Fault.TheVariants.{BadScript, TooLong, OutOfMemory, ReadFailed, WriteFailed}
use Rattle.histar_script.specs.Lines.{lines_of}
use Rattle.histar_script.specs.Script.{ScriptModel}
use Rattle.histar_script.specs.Reading.{is_empty, script_of}
use Rattle.histar_rights.specs.Rights.{rights_spelled}
use Rattle.histar_lint.specs.declared.shapes.Kind.TheVariants.{Path, Process}
use Rattle.histar_lint.specs.Calls.{kind_text}
use Rattle.histar_lint.specs.Lines.{Rule, after_word, first_sentence, rest_of, word_of}
use Rattle.histar_lint.specs.Rules.{are_two_words}
use Rattle.histar_never.specs.Faults.{never_rules}
use Rattle.histar_test.specs.declared.steps.Step.{Step}
use Rattle.histar_test.specs.Laws.{makes_call}
use Rattle.histar_test.specs.Steps.{Test, asked_of, expectation_of, forbidden_of, is_process_word, steps_from, test_of}

-- the text is three words, with one space between two
abbrev pub are_three_words : List ℕ → Bool
are_three_words text = is_some (after_word text) && are_two_words (rest_of text)

-- The rules for a question, by the text behind `#! `, in their order.
abbrev pub question_rules : List ℕ → List Rule
question_rules text =
    (not (are_three_words text), codes "a question is `#! PATH PROC RIGHTS`")
    ∷ (is_none (path_of (word_of text)), kind_text Path)
    ∷ (is_none (process_of (word_of (rest_of text))), kind_text Process)
    ∷ (is_none (rights_spelled (rest_of (rest_of text))), codes "rights are four letters of srwd- in this order") ∷ []

-- the rule for a word of a claim that has to be a process
abbrev pub process_rule : List ℕ → Rule
process_rule word = (not (is_process_word word), kind_text Process)

-- The rules for the processes that a claim names behind its path, from the left.
abbrev pub claimed_rules : Option (List ℕ) → List Rule
claimed_rules None = []
claimed_rules (Some text) = map process_rule (slice_split (λ b. b == 32) text)

-- The rules for a claim, by the text behind `#`, in their order.
abbrev pub claim_rules : List ℕ → List Rule
claim_rules text =
    (is_empty (rest_of text), codes "a claim is `#trusted PATH PROC PROC ..`")
    ∷ (is_none (path_of (word_of (rest_of text))), kind_text Path)
    ∷ claimed_rules (after_word (rest_of text))

-- The rules for a question or a claim, by the text behind `#`.
abbrev pub asked_rules : List ℕ → List Rule
asked_rules text = if bytes_eq (take 2 text) (codes "! ") then question_rules (drop 2 text) else claim_rules text

-- The last call before a line has no expectation yet, given whether there is such a call and whether it has none.
abbrev pub is_waiting : Option Bool → Bool
is_waiting last = unwrap_or last false

-- The rules for an expectation, in their order, given whether the last call before it has no expectation yet, if there is a call before it.
abbrev pub expectation_rules : Option Bool → List Rule
expectation_rules last =
    (is_none last, codes "an expectation comes behind a call")
    ∷ (not (is_waiting last), codes "a call has one expectation") ∷ []

-- the rules for a line with this question or claim on trust, or else with this expectation
abbrev pub rules_by : Option Bool → Option (List ℕ) → Option (List ℕ) → List Rule
rules_by last (Some asked) text = asked_rules asked
rules_by last None (Some text) = expectation_rules last
rules_by last None None = []

-- the rules for a line with this claim `#never`, or else the others
abbrev pub rules_or : Accounts → Option (List ℕ) → List Rule → List Rule
rules_or accounts (Some text) others = never_rules accounts text
rules_or accounts None others = others

-- the sentence of the first rule that a line breaks, given whether the last call before it has no expectation yet, if there is a call before it
abbrev pub line_fault : Accounts → Option Bool → List ℕ → Option (List ℕ)
line_fault accounts last line =
    first_sentence (rules_or accounts (forbidden_of line) (rules_by last (asked_of line) (expectation_of line)))

-- whether the last call up to a line has no expectation yet, given the same of the lines before it
abbrev pub last_after : Option Bool → List ℕ → Option Bool
last_after last line = if makes_call line then Some true else (if is_some (expectation_of line) then option_map (λ o. false) last else last)

-- the same of several lines
abbrev pub last_behind : Option Bool → List (List ℕ) → Option Bool
last_behind last [] = last
last_behind last (line ∷ lines) = last_behind (last_after last line) lines

-- the sentence on line n of these lines, given the lines before it
abbrev pub sentence_at : Accounts → List (List ℕ) → ℕ → Option (List ℕ)
sentence_at accounts lines n =
    option_and_then (λ line. line_fault accounts (last_behind None (take (n - 1) lines)) line) (slice_get lines (n - 1))

-- The sentence on a text with these lines, by its script and its test: on the first bad line of a script that is no test.
abbrev pub fault_by : List (List ℕ) → Result ScriptModel Fault → Result Test Fault → Option (List ℕ)
fault_by lines (Err fault) test = None
fault_by lines (Ok script) (Ok test) = None
fault_by lines (Ok script) (Err (BadScript n)) = sentence_at script.accounts lines n
fault_by lines (Ok script) (Err TooLong) = None
fault_by lines (Ok script) (Err OutOfMemory) = None
fault_by lines (Ok script) (Err ReadFailed) = None
fault_by lines (Ok script) (Err WriteFailed) = None

-- the sentence on the first bad line of a text, if it is a script and no test
abbrev pub fault_text : List ℕ → Option (List ℕ)
fault_text text = fault_by (lines_of text) (script_of text) (test_of text)

-- ---- a part

-- the sentence on lines, by their steps: on the first bad line
abbrev pub fault_in : Accounts → List (List ℕ) → Result (List Step) ℕ → Option (List ℕ)
fault_in accounts lines (Ok steps) = None
fault_in accounts lines (Err n) = sentence_at accounts lines n

-- ---- what the rules guarantee

-- each line that is refused breaks a rule, whatever lines are before it
abbrev pub EachRefusedLineBreaksOne : Type 0
EachRefusedLineBreaksOne = (accounts : Accounts) (last : Option Bool) (n : ℕ) (line : List ℕ)
    → steps_from accounts n (is_waiting last) (line ∷ []) ≡ Err n → is_some (line_fault accounts last line) ≡ true

-- no line that is taken breaks a rule, whatever lines are before it
abbrev pub NoTakenLineBreaksOne : Type 0
NoTakenLineBreaksOne = (accounts : Accounts) (last : Option Bool) (n : ℕ) (line : List ℕ) (steps : List Step)
    → steps_from accounts n (is_waiting last) (line ∷ []) ≡ Ok steps → line_fault accounts last line ≡ None

-- each script that is no test has a sentence
abbrev pub EachBadTestHasASentence : Type 0
EachBadTestHasASentence = (text : List ℕ) (script : ScriptModel) (n : ℕ) → script_of text ≡ Ok script → test_of text ≡ Err (BadScript n)
    → is_some (fault_text text) ≡ true
