-- From the bytes that a run took to the whole input, if that is known.
use Rattle.std.proofs.Common.{◌≡◌, ℕ, ◌<◌, ltb, true, List, ◌++◌, length, Option, Some, None, Result, Ok, Err, sym, ap, subst, ◌∙◌, ◌⊎◌, inl, inr}
use Rattle.std.proofs.Common.{refl, arith, rules, tests, append-nil}
use Rattle.std.specs.Prelude.{IfSome}
use Rattle.std.specs.Io.KnownBytes.{Keeps}
use Rattle.std.proofs.lemmas.Bool.{cases_lt}
use Rattle.std.proofs.lemmas.List.{length-append}
use Rattle.histar_io.specs.Input.{most_taken, TakesAll}
use Rattle.histar_script.specs.declared.fault.Fault.{Fault}
use Rattle.histar_script.specs.declared.fault.Fault.TheVariants.{BadScript, TooLong, OutOfMemory, ReadFailed, WriteFailed}
use Rattle.histar_script.specs.Lines.{is_too_long, most_script_bytes}
use Rattle.histar_script.specs.Reading.{script_of}
use Rattle.histar_script.specs.Runs.{Running, RunsInput, RunsTaken, StopsReading}
use Rattle.histar_command.specs.Inputs.{StopsUnread, TakesLongAlike}

-- a text with more bytes than a script may have is too long
long_is : (text : List ℕ) → most_script_bytes < length text → is_too_long text ≡ true
long_is text lt = let e : ltb most_script_bytes (length text) ≡ true = search (rules, tests) in rw e refl

-- a text that is too long is no script
no_script : (text : List ℕ) → is_too_long text ≡ true → script_of text ≡ Err TooLong
no_script text long = rw long refl

-- what was taken is the script of the whole input
pub same_script : (input : List ℕ) (rest : Option (List ℕ)) (taken : List ℕ) → TakesAll (Some input) rest taken → script_of taken ≡ script_of input
same_script input None taken takes = absurd takes.consumed
same_script input (Some rest) taken takes =
    elim (cases_lt (length taken) most_taken) [
      | inl lt ↦ sym (ap script_of (takes.consumed ∙ ap (λ (l : List ℕ). taken ++ l) (takes.ended lt) ∙ append-nil taken))
      | inr le ↦
          no_script taken (long_is taken (omega arith))
          ∙ sym (no_script input (long_is input (omega (arith, ap length takes.consumed, length-append taken rest))))
    ]

module _ {A : Type 0} (Runs : Running A) (unread : StopsUnread A Runs) (long : TakesLongAlike A Runs) (old new : Option (List ℕ)) where
  -- the whole input was taken, or it is too long, and so is what was taken
  taken_whole : (input : List ℕ) (rest : Option (List ℕ)) (result : Result A Fault) (taken : List ℕ) → TakesAll (Some input) rest taken
      → Runs taken old new result → Runs input old new result
  taken_whole input None result taken takes runs = absurd takes.consumed
  taken_whole input (Some rest) result taken takes runs =
      elim (cases_lt (length taken) most_taken) [
        | inl lt ↦
            subst (λ (text : List ℕ). Runs text old new result)
            (sym (takes.consumed ∙ ap (λ (l : List ℕ). taken ++ l) (takes.ended lt) ∙ append-nil taken)) runs
        | inr le ↦
            long.alike taken input old new result (long_is taken (omega arith))
            (long_is input (omega (arith, ap length takes.consumed, length-append taken rest))) runs
      ]

  -- if a known input was taken, it was run
  taken_known : (left rest : Option (List ℕ)) (result : Result A Fault) → RunsTaken Runs left rest old new result
      → IfSome left (λ input. Runs input old new result)
  taken_known None rest result h = tt
  taken_known (Some input) rest result h = taken_whole input rest result h.taken h.takes h.runs

  -- if a known input was taken in part, it was run as far as that
  stopped_known : (left rest : Option (List ℕ)) (result : Result A Fault) → ((input : List ℕ) → Keeps old new → Runs input old new result)
      → StopsReading left rest old new → IfSome left (λ input. Runs input old new result)
  stopped_known None rest result runs h = tt
  stopped_known (Some input) rest result runs h = runs input h.keeps

  -- if the input is known, it was run
  pub input_known : (left rest : Option (List ℕ)) (result : Result A Fault) → RunsInput Runs left rest old new result
      → IfSome left (λ input. Runs input old new result)
  input_known left rest (Ok done) h = taken_known left rest (Ok done) h
  input_known left rest (Err (BadScript n)) h = taken_known left rest (Err (BadScript n)) h
  input_known left rest (Err TooLong) h = taken_known left rest (Err TooLong) h
  input_known left rest (Err OutOfMemory) (inl h) = stopped_known left rest (Err OutOfMemory) (λ input keeps. unread.memory input old new keeps) h
  input_known left rest (Err OutOfMemory) (inr h) = taken_known left rest (Err OutOfMemory) h
  input_known left rest (Err ReadFailed) h = stopped_known left rest (Err ReadFailed) (λ input keeps. unread.read input old new keeps) h
  input_known left rest (Err WriteFailed) h = taken_known left rest (Err WriteFailed) h
