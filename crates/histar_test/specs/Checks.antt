-- The checks of a test: each expectation beside the reply to its call, each question beside the rights that it asks for, each claim on trust
-- beside the processes that are trusted, each refusal that nobody expected if the test is strict, and then each claim `#never` beside its first
-- breach; and their text in the form of the Test Anything Protocol.
use Rattle.std.specs.Prelude.{ℕ, ◌+◌, Bool, true, false, List, [], ◌∷◌, ◌++◌, codes, decimal, Option, None, Some, ◌==◌, ◌||◌, if◌then◌else◌, option_to_list, map}
use Rattle.std.specs.List.{flat_map}
use Rattle.std.specs.Str.{bytes_eq}
use Rattle.histar_flat.specs.declared.calls.CallLine.{CallLine}
use Rattle.histar_flat.specs.Accounts.{Accounts}
use Rattle.histar_flat.specs.Files.{get}
use Rattle.histar_flat.specs.FlatState.{Flat, Node, is_dir}
use Rattle.histar_flat.specs.Words.{Name, Path, ProcName}
use Rattle.histar_flat.specs.FlatCalls.{reply_to, flat_after}
use Rattle.histar_flat.specs.Meaning.{boot}
use Rattle.histar_script.specs.Reading.{is_empty}
use Rattle.histar_never.specs.declared.claims.Never.{Never}
use Rattle.histar_never.specs.declared.breaches.LateBreach.{LateBreach}
use Rattle.histar_never.specs.Breaches.{breach_text, first_breach}
use Rattle.histar_flat.specs.Texts.{process_text, reply_text}
use Rattle.histar_reasons.specs.Laws.{is_refusal}
use Rattle.histar_test.specs.declared.checks.Check.{Check}
use Rattle.histar_test.specs.declared.checks.Made.{Made}
use Rattle.histar_test.specs.declared.checks.Wanted.{Wanted}
use Rattle.histar_test.specs.declared.checks.Wanted.TheVariants.{NoBreach, NoRefusal, Text}
use Rattle.histar_rights.specs.Rights.{rights_text}
use Rattle.histar_diff.specs.Shown.{rights_of}
use Rattle.histar_secrecy.specs.Ways.{way_to}
use Rattle.histar_trust.specs.TrustText.{is_open_way, trusted_with}
use Rattle.histar_test.specs.declared.asking.Asking.{Asking}
use Rattle.histar_test.specs.declared.asking.Asking.TheVariants.{OfRights, OfTrust}
use Rattle.histar_test.specs.declared.claims.Claim.{Claim}
use Rattle.histar_test.specs.declared.questions.Question.{Question}
use Rattle.histar_test.specs.declared.steps.Step.{Step}
use Rattle.histar_test.specs.declared.steps.Step.TheVariants.{Makes, Expects, Asks, Forbids}
use Rattle.histar_test.specs.Steps.{Test, calls_in, nevers_in}

-- what was found is as wanted: it has this text, or no breach was found; and a refusal that nobody expected never is
abbrev pub is_as_wanted : Wanted → List ℕ → Bool
is_as_wanted (Text wanted) found = bytes_eq found wanted
is_as_wanted NoRefusal found = false
is_as_wanted NoBreach found = is_empty found

-- the check is met: the reply, the rights, the trusted or the breach are as wanted
abbrev pub is_met : Check → Bool
is_met c = is_as_wanted c.wanted c.made.reply

-- a call that is made in a flat state, on a line with this text
abbrev pub made_of : Accounts → Flat → CallLine → List ℕ → Made
made_of accounts f c said =
    let reply = reply_to accounts f c.process c.call in
    record { line = c.line; said = said; reply = reply_text reply; is_refused = is_refusal reply }

-- a question in a flat state, beside the letters of the rights that it asks for
abbrev pub rights_in : Accounts → Flat → Question → Made
rights_in accounts f q = record { line = q.line; said = q.said; reply = rights_text (rights_of accounts f q.path q.process); is_refused = false }

-- processes with a space between two, or `nobody`
abbrev pub names_text : List ProcName → List ℕ
names_text [] = codes "nobody"
names_text (p ∷ ps) = process_text p ++ flat_map (λ (q : ProcName). codes " " ++ process_text q) ps

-- the text of who is trusted: these processes, or `everyone`
abbrev pub answer_text : Option (List ProcName) → List ℕ
answer_text None = codes "everyone"
answer_text (Some names) = names_text names

-- The running processes that are trusted with the file there, in the order of names: none if there is no file. There is no such list where
-- each process reaches the file.
abbrev pub trusted_at : Accounts → Flat → Path → Option Node → Option (List ProcName)
trusted_at accounts f path None = Some []
trusted_at accounts f path (Some node) =
    if is_dir node then Some []
    else (if is_open_way (way_to f path) then None
    else Some (map (λ (p : ProcName × Name). p.0) (trusted_with accounts f (way_to f path))))

-- the same for what is at the path
abbrev pub trusted_names : Accounts → Flat → Path → Option (List ProcName)
trusted_names accounts f path = trusted_at accounts f path (get f.files path)

-- the text of those who are trusted with what is at the path
abbrev pub trusted_text : Accounts → Flat → Path → List ℕ
trusted_text accounts f path = answer_text (trusted_names accounts f path)

-- a claim in a flat state, beside the processes that are trusted
abbrev pub trust_in : Accounts → Flat → Claim → Made
trust_in accounts f c = record { line = c.line; said = c.said; reply = trusted_text accounts f c.path; is_refused = false }

-- a question or a claim in a flat state, beside its answer
abbrev pub asked_in : Accounts → Flat → Asking → Made
asked_in accounts f (OfRights q) = rights_in accounts f q
asked_in accounts f (OfTrust c) = trust_in accounts f c

-- the expected answer: the letters of rights, or the processes that a claim names
abbrev pub wanted_text : Asking → List ℕ
wanted_text (OfRights q) = rights_text q.wanted
wanted_text (OfTrust c) = c.wanted

-- the check of a question or a claim in a flat state
abbrev pub asked_check : Accounts → Flat → Asking → Check
asked_check accounts f a = record { made = asked_in accounts f a; wanted = Text (wanted_text a) }

-- the check of a call that is still open at the next call or at the end, if one is: a strict test has one if the reply is a refusal
abbrev pub unexpected : Bool → Option Made → Option Check
unexpected false last = None
unexpected true None = None
unexpected true (Some made) = if made.is_refused then Some (record { made = made; wanted = NoRefusal }) else None

-- The checks of steps from a flat state on, given the call that is open before them, if one is. Those of a strict test are also the refusals
-- that nobody expected. The checks of claims `#never` aren't among them.
abbrev pub checks_from : Bool → Accounts → Flat → Option Made → List Step → List Check
checks_from strict accounts f last [] = option_to_list (unexpected strict last)
checks_from strict accounts f last (Makes c said ∷ steps) =
    option_to_list (unexpected strict last)
    ++ checks_from strict accounts (flat_after accounts f c.process c.call) (Some (made_of accounts f c said)) steps
checks_from strict accounts f None (Expects text ∷ steps) = checks_from strict accounts f None steps
checks_from strict accounts f (Some made) (Expects text ∷ steps) =
    record { made = made; wanted = Text text } ∷ checks_from strict accounts f None steps
checks_from strict accounts f last (Asks a ∷ steps) = asked_check accounts f a ∷ checks_from strict accounts f last steps
checks_from strict accounts f last (Forbids never ∷ steps) = checks_from strict accounts f last steps

-- the text of the first breach of a claim `#never`: none if it was kept
abbrev pub found_text : Option LateBreach → List ℕ
found_text None = []
found_text (Some late) = breach_text late

-- the check of a claim `#never`, given its first breach: it wants that there is none
abbrev pub found_check : Never → Option LateBreach → Check
found_check never found =
    record {
      made = record { line = never.line; said = never.said; reply = found_text found; is_refused = false };
      wanted = NoBreach;
    }

-- the check of a claim `#never` of a script that makes these calls
abbrev pub never_check : Accounts → List CallLine → Never → Check
never_check accounts calls never = found_check never (first_breach accounts (boot accounts) calls never)

-- the checks of the claims `#never` of a test, each on all its calls
abbrev pub never_checks : Test → List Check
never_checks test = map (never_check test.accounts (calls_in test.steps)) (nevers_in test.steps)

-- The checks of a test, strict or not: replies, rights and the trusted are those of the meaning of its calls. Those of claims `#never` come last.
abbrev pub checks_of : Bool → Test → List Check
checks_of strict test = checks_from strict test.accounts (boot test.accounts) None test.steps ++ never_checks test

-- a byte of a description: a backslash comes before `#`, which would begin a directive, and before a backslash
abbrev pub escaped_byte : ℕ → List ℕ
escaped_byte b = if (b == 35) || (b == 92) then 92 ∷ b ∷ [] else b ∷ []

-- the place of a call, a question or a claim: the file, its line, and the text
abbrev pub place_text : List ℕ → Made → List ℕ
place_text file made = file ++ codes ":" ++ decimal made.line ++ codes ": " ++ made.said

-- a description: the place, escaped
abbrev pub description : List ℕ → Made → List ℕ
description file made = flat_map escaped_byte (place_text file made)

-- a line that begins with this word: the number of a check, and the description
abbrev pub result_line : List ℕ → List ℕ → ℕ → Made → List ℕ
result_line word file k made = word ++ decimal k ++ codes " - " ++ description file made ++ codes "\n"

-- the beginning of the line after an unmet check: the expected text, or that nobody expected the reply; that on a breach says what was found alone
abbrev pub expected_text : Wanted → List ℕ
expected_text (Text wanted) = codes "# expected " ++ wanted ++ codes ", was "
expected_text NoRefusal = codes "# nobody expected "
expected_text NoBreach = codes "# "

-- the line with the expected text, if there is one, and the reply, the rights, the trusted or the breach
abbrev pub difference_text : Check → List ℕ
difference_text c = expected_text c.wanted ++ c.made.reply ++ codes "\n"

-- the lines of check k of a file
abbrev pub check_text : List ℕ → ℕ → Check → List ℕ
check_text file k c = if is_met c then result_line (codes "ok ") file k c.made else result_line (codes "not ok ") file k c.made ++ difference_text c

-- the lines of checks of a file, of which the first has the number k
abbrev pub checks_text : List ℕ → ℕ → List Check → List ℕ
checks_text file k [] = []
checks_text file k (c ∷ checks) = check_text file k c ++ checks_text file (k + 1) checks
