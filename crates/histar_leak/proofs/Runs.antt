-- The contracts of `leak` and `secret_titles`, put together from those of their parts.
use Rattle.std.proofs.Common.{◌≡◌, ◌∙◌, ℕ, List, Option, Ok, Err, ap, sym, subst}
use Rattle.histar_flat.specs.Accounts.{Accounts}
use Rattle.histar_flat.specs.FlatState.{Flat}
use Rattle.histar_script.specs.declared.fault.Fault.{Fault}
use Rattle.histar_script.specs.declared.fault.Fault.TheVariants.{BadScript, TooLong, OutOfMemory, ReadFailed, WriteFailed}
use Rattle.histar_script.specs.Script.{ScriptModel}
use Rattle.histar_script.specs.Reading.{script_of}
use Rattle.histar_shell.specs.Machine.{MachineModel}
use Rattle.histar_prefix.specs.Prefix.{IsMachineOf, state_before}
use Rattle.histar_trust.specs.Findings.{ShowsReached}
use Rattle.histar_trust.specs.Session.{WritesOf}
use Rattle.histar_trust.proofs.Runs.{shows_reached, unwritten_text}
use Rattle.histar_leak.specs.Findings.{HasStateOf}
use Rattle.histar_leak.specs.Session.{MakesText}

-- a text is one script
one_script : (text : List ℕ) (a b : ScriptModel) → script_of text ≡ Ok a → script_of text ≡ Ok b → a ≡ b
one_script text a b e h = let same : Ok a ≡ Ok b = sym e ∙ h in cc

-- the contract if memory ran out before the text was made
pub unmade_text : (text_of : ScriptModel → List ℕ) (text : List ℕ) (w : Option (List ℕ)) (fault : Fault)
    → MakesText text_of text (Err fault) → WritesOf text_of text w w (Err fault)
unmade_text text_of text w OutOfMemory h = unwritten_text text_of text w
unmade_text text_of text w (BadScript n) h = absurd h
unmade_text text_of text w TooLong h = absurd h
unmade_text text_of text w ReadFailed h = absurd h
unmade_text text_of text w WriteFailed h = absurd h

module _ (at : Option ℕ) (text : List ℕ) (m : MachineModel) (is : IsMachineOf at text m) where
  module _ {accounts : Accounts} (script : ScriptModel) (of_script : accounts ≡ script.accounts) (read : script_of text ≡ Ok script) where
    accounts_are : is.script.accounts ≡ accounts
    accounts_are = ap (λ (s : ScriptModel). s.accounts) (one_script text is.script script is.is_read read) ∙ sym of_script

    -- the machine represents a state that calls of the script's users lead to
    pub state_of_script : HasStateOf accounts m
    state_of_script =
        subst (λ (a : Accounts). HasStateOf a m) accounts_are (state_before at is.script, shows_reached at text m is)

    -- the text of each such state is the text of the script
    pub text_of_script : (text_of : Accounts → Flat → List ℕ) (lines : List ℕ)
        → ((f : Flat) → ShowsReached accounts m f → lines ≡ text_of accounts f)
        → (other : ScriptModel) → script_of text ≡ Ok other → lines ≡ text_of other.accounts (state_before at other)
    text_of_script text_of lines shows other h =
        let all : (f : Flat) → ShowsReached is.script.accounts m f → lines ≡ text_of is.script.accounts f =
        subst (λ (a : Accounts). (f : Flat) → ShowsReached a m f → lines ≡ text_of a f) (sym accounts_are) shows in
        all (state_before at is.script) (shows_reached at text m is)
        ∙ ap (λ (s : ScriptModel). text_of s.accounts (state_before at s)) (one_script text is.script other is.is_read h)
