-- A machine whose calls are watched: after each of them it is known which claims `#never` were broken, and where first.
use Rattle.std.specs.Prelude.{◌≡◌, ℕ, Bool, true, ◌||◌, not, List, [], ◌∷◌, map, None, option_map, if◌then◌else◌}
use Rattle.std.specs.Option.{option_or}
use Rattle.histar_flat.specs.declared.calls.CallLine.{CallLine}
use Rattle.histar_flat.specs.Accounts.{Accounts}
use Rattle.histar_flat.specs.FlatState.{Flat}
use Rattle.histar_flat.specs.FlatCalls.{flat_after}
use Rattle.histar_rights.specs.Running.{HaveShownNames}
use Rattle.histar_shell.specs.Machine.{MachineModel}
use Rattle.histar_shell.specs.Meaning.{Shows}
use Rattle.histar_trust.specs.Findings.{ShowsReached}
use Rattle.histar_never.specs.declared.claims.Never.{Never}
use Rattle.histar_never.specs.Breaches.{breach_in, first_breach, late}
use Rattle.histar_test.specs.declared.checks.Check.{Check}
use Rattle.histar_test.specs.declared.checks.Made.{Made}
use Rattle.histar_test.specs.declared.watching.Watch.{Watch}
use Rattle.histar_test.specs.declared.watching.Watched.{Watched}
use Rattle.histar_test.specs.Checks.{found_check, made_of}

-- a claim before the first call
abbrev pub unbroken : Never → Watch
unbroken never = record { never = never; found = None }

-- a claim after these calls from a flat state on: it keeps the first breach that was found
abbrev pub watch_after : Accounts → Flat → List CallLine → Watch → Watch
watch_after accounts f calls w = record { never = w.never; found = option_or w.found (first_breach accounts f calls w.never) }

-- claims after these calls from a flat state on
abbrev pub watches_after : Accounts → Flat → List CallLine → List Watch → List Watch
watches_after accounts f calls watches = map (watch_after accounts f calls) watches

-- the check of a claim with the first breach that was found
abbrev pub watch_check : Watch → Check
watch_check w = found_check w.never w.found

-- a claim that was looked at in a flat state, after the call on line n
abbrev pub watch_in : Accounts → Flat → ℕ → Watch → Watch
watch_in accounts f n w = record { never = w.never; found = option_or w.found (option_map (late n) (breach_in accounts f w.never)) }

-- to look at the claims in the flat state, after a call on any line, finds nothing new
abbrev pub AreUpToDate : Accounts → Flat → List Watch → Type 0
AreUpToDate accounts f watches = (n : ℕ) → map (watch_in accounts f n) watches ≡ watches

-- the machine represents the flat state, to which calls lead; once it has made a call, its claims are up to date
pub record IsWatched (accounts : Accounts) (f : Flat) (w : Watched) : Type 0 where
  pub shows : ShowsReached accounts w.machine f
  pub up_to_date : w.has_called ≡ true → AreUpToDate accounts f w.watches.items

-- the machine represents some flat state in this way
abbrev pub HasWatched : Watched → Type 0
HasWatched w = (accounts : Accounts) × (f : Flat) × IsWatched accounts f w

-- a call was made from a flat state: its reply is that of the flat rules, and each claim that it broke first is known
pub record IsMade (accounts : Accounts) (f : Flat) (old new : Watched) (call : CallLine) (said : List ℕ) (made : Made) : Type 0 where
  pub watched : IsWatched accounts (flat_after accounts f call.process call.call) new
  pub watches : new.watches.items ≡ watches_after accounts f (call ∷ []) old.watches.items
  pub is : made ≡ made_of accounts f call said

-- whatever flat state the machine represented, the call was made in it
abbrev pub MakesCall : Watched → Watched → CallLine → List ℕ → Made → Type 0
MakesCall old new call said made = (accounts : Accounts) (f : Flat) → IsWatched accounts f old → IsMade accounts f old new call said made

-- ---- the parts

-- whatever flat state the machine represents, this claim was looked at in it
abbrev pub LooksAt : MachineModel → ℕ → Watch → Watch → Type 0
LooksAt machine n old new = (accounts : Accounts) (f : Flat) → Shows accounts machine f → HaveShownNames f → new ≡ watch_in accounts f n old

-- the same of several claims
abbrev pub LooksAtAll : MachineModel → ℕ → List Watch → List Watch → Type 0
LooksAtAll machine n old new =
    (accounts : Accounts) (f : Flat) → Shows accounts machine f → HaveShownNames f → new ≡ map (watch_in accounts f n) old

-- the claims of a machine were looked at after the call on line n, if it may have changed something or was the first
pub record Looks (n : ℕ) (may_change : Bool) (old new : Watched) : Type 0 where
  pub machine : new.machine ≡ old.machine
  pub has_called : new.has_called ≡ true
  pub watches : (accounts : Accounts) (f : Flat) → Shows accounts old.machine f → HaveShownNames f → new.watches.items
      ≡ (if may_change || not old.has_called then map (watch_in accounts f n) old.watches.items else old.watches.items)
