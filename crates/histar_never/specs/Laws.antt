-- What a claim that is never broken means, and what a breach says.
use Rattle.std.specs.Prelude.{◌≡◌, ◌↔◌, ℕ, Bool, true, false, is_some, List, [], ◌∷◌, ◌++◌, None, Some}
use Rattle.std.specs.List.{Contains}
use Rattle.histar_flat.specs.declared.calls.CallLine.{CallLine}
use Rattle.histar_flat.specs.declared.calls.UnixCall.{UnixCall}
use Rattle.histar_flat.specs.Accounts.{Accounts}
use Rattle.histar_flat.specs.Classes.{Process}
use Rattle.histar_flat.specs.FlatState.{Flat}
use Rattle.histar_flat.specs.FlatCalls.{flat_after, reply_to, running}
use Rattle.histar_flat.specs.Meaning.{boot, flat_end}
use Rattle.histar_flat.specs.Words.{Name, ProcName}
use Rattle.histar_lint.specs.Lines.{first_sentence}
use Rattle.histar_rights.specs.declared.rights.Rights.{Rights}
use Rattle.histar_rights.specs.Users.{somebody}
use Rattle.histar_diff.specs.Shown.{rights_of}
use Rattle.histar_cells.specs.ByUser.{user_rights_at}
use Rattle.histar_never.specs.declared.breaches.Breach.{Breach}
use Rattle.histar_never.specs.declared.breaches.LateBreach.{LateBreach}
use Rattle.histar_never.specs.declared.claims.Never.{Never}
use Rattle.histar_never.specs.Breaches.{breach_in, first_breach, holders, rights_of_holder}
use Rattle.histar_never.specs.Changing.{may_change}
use Rattle.histar_never.specs.Claims.{never_of}
use Rattle.histar_never.specs.Faults.{never_rules}
use Rattle.histar_never.specs.Letters.{has_letter, letters_of, letters_text}
use Rattle.histar_never.specs.Whom.{is_meant, is_meant_user}

-- ---- claims that are never broken

-- these rights have none of these letters
pub record HaveNone (letters rights : Rights) : Type 0 where
  pub stat : letters.stat ≡ true → rights.stat ≡ false
  pub read : letters.read ≡ true → rights.read ≡ false
  pub write : letters.write ≡ true → rights.write ≡ false
  pub remove : letters.remove ≡ true → rights.remove ≡ false

-- in a flat state no running process and no user that a claim means has one of its letters at its path
pub record IsKept (accounts : Accounts) (f : Flat) (never : Never) : Type 0 where
  pub processes : (p : ProcName) (process : Process) → running f p ≡ Some process → is_meant never.whom p process.user ≡ true
      → HaveNone never.letters (rights_of accounts f never.path p)
  pub users : (user : Name) → Contains (somebody accounts) user → is_meant_user never.whom user ≡ true
      → HaveNone never.letters (user_rights_at accounts f never.path user)

-- a claim is kept after each call of a script
abbrev pub IsNever : Accounts → List CallLine → Never → Type 0
IsNever accounts calls never =
    (front : List CallLine) (c : CallLine) (rest : List CallLine) → calls ≡ front ++ c ∷ rest
    → IsKept accounts (flat_end accounts (boot accounts) (front ++ c ∷ [])) never

-- a claim has no first breach exactly if it is kept after each call of a script
abbrev pub ClaimsAreNeverBroken : Type 0
ClaimsAreNeverBroken =
    (accounts : Accounts) (calls : List CallLine) (never : Never)
    → (first_breach accounts (boot accounts) calls never ≡ None) ↔ IsNever accounts calls never

-- ---- breaches

-- from a flat state on, the breach is after one of these calls, and there is none after a call before it
pub record IsFirst (accounts : Accounts) (f : Flat) (calls : List CallLine) (never : Never) (late : LateBreach) : Type 0 where
  pub front : List CallLine
  pub call : CallLine
  pub rest : List CallLine
  pub parts : calls ≡ front ++ call ∷ rest
  pub line : late.line ≡ call.line
  pub breach : breach_in accounts (flat_end accounts f (front ++ call ∷ [])) never ≡ Some late.breach
  pub before : first_breach accounts f front never ≡ None

-- the first breach of a claim by the calls of a script is after one of them, and there is none after a call before it
abbrev pub BreachesAreFirst : Type 0
BreachesAreFirst =
    (accounts : Accounts) (calls : List CallLine) (never : Never) (late : LateBreach)
    → first_breach accounts (boot accounts) calls never ≡ Some late → IsFirst accounts (boot accounts) calls never late

-- a letter is there exactly if the claim has it and the rights have it
abbrev pub IsInBoth : Bool → Bool → Bool → Type 0
IsInBoth letter claimed given = (letter ≡ true) ↔ ((claimed ≡ true) × (given ≡ true))

-- one who is meant has these letters of a claim: all those that are among its rights, and at least one
pub record AreRights (accounts : Accounts) (f : Flat) (never : Never) (b : Breach) : Type 0 where
  pub meant : Contains (holders accounts f never.whom) b.holder
  pub stat : IsInBoth b.rights.stat never.letters.stat (rights_of_holder accounts f never.path b.holder).stat
  pub read : IsInBoth b.rights.read never.letters.read (rights_of_holder accounts f never.path b.holder).read
  pub write : IsInBoth b.rights.write never.letters.write (rights_of_holder accounts f never.path b.holder).write
  pub remove : IsInBoth b.rights.remove never.letters.remove (rights_of_holder accounts f never.path b.holder).remove
  pub some : has_letter b.rights ≡ true

-- a breach is by one who is meant, and has exactly the letters of the claim that are among its rights, at least one
abbrev pub BreachesAreRights : Type 0
BreachesAreRights =
    (accounts : Accounts) (f : Flat) (never : Never) (b : Breach) → breach_in accounts f never ≡ Some b
    → AreRights accounts f never b

-- after a call that can't have changed anything, by its reply, there is the breach that there was before it
abbrev pub OthersBreakNothing : Type 0
OthersBreakNothing =
    (accounts : Accounts) (f : Flat) (me : ProcName) (call : UnixCall) (never : Never)
    → may_change call (reply_to accounts f me call) ≡ false
    → breach_in accounts (flat_after accounts f me call) never ≡ breach_in accounts f never

-- a call that can't have changed anything, by its reply, leaves the flat state as it was
abbrev pub OthersChangeNothing : Type 0
OthersChangeNothing =
    (accounts : Accounts) (f : Flat) (me : ProcName) (call : UnixCall) → may_change call (reply_to accounts f me call) ≡ false
    → flat_after accounts f me call ≡ f

-- ---- texts of claims

-- a text that is no claim breaks a rule, and one that is a claim breaks none
abbrev pub BadClaimsHaveSentences : Type 0
BadClaimsHaveSentences =
    (accounts : Accounts) (n : ℕ) (text : List ℕ)
    → (never_of accounts n text ≡ None) ↔ (is_some (first_sentence (never_rules accounts text)) ≡ true)

-- letters are read from a text exactly if it is their text and there is at least one
abbrev pub LettersAreSpelled : Type 0
LettersAreSpelled =
    (text : List ℕ) (letters : Rights)
    → (letters_of text ≡ Some letters) ↔ ((text ≡ letters_text letters) × (has_letter letters ≡ true))
