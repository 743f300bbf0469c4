-- Relations of a run of a test: a machine takes its steps, and the checks are written.
use Rattle.std.specs.Prelude.{◌≡◌, ℕ, ◌+◌, ◌&&◌, Bool, false, not, is_some, List, [], ◌∷◌, ◌++◌, codes, filter, length, map}
use Rattle.std.specs.Prelude.{Option, None, Some, option_to_list, if◌then◌else◌}
use Rattle.std.specs.List.{list_all}
use Rattle.std.specs.Io.KnownBytes.{Appends}
use Rattle.histar_io.specs.Writing.{AppendsFront}
use Rattle.histar_flat.specs.declared.calls.CallLine.{CallLine}
use Rattle.histar_flat.specs.Accounts.{Accounts}
use Rattle.histar_flat.specs.FlatState.{Flat}
use Rattle.histar_flat.specs.FlatCalls.{flat_after}
use Rattle.histar_script.specs.declared.fault.Fault.{Fault}
use Rattle.histar_script.specs.declared.fault.Fault.TheVariants.{OutOfMemory}
use Rattle.histar_shell.specs.Machine.{MachineModel}
use Rattle.histar_shell.specs.Meaning.{ShowsStart}
use Rattle.histar_test.specs.declared.checks.Check.{Check}
use Rattle.histar_test.specs.declared.checks.Made.{Made}
use Rattle.histar_test.specs.declared.checks.Wanted.TheVariants.{Text}
use Rattle.histar_test.specs.declared.running.Run.{Run}
use Rattle.histar_test.specs.declared.running.Tally.{Tally}
use Rattle.histar_flat.specs.Words.{Name, Path, ProcName}
use Rattle.histar_flat.specs.Accounts.{Group}
use Rattle.histar_flat.specs.Classes.{Class}
use Rattle.histar_layout.specs.Listing.{is_directory}
use Rattle.histar_readout.specs.declared.tree.TreeNode.{TreeNode}
use Rattle.histar_secrecy.specs.declared.file_class.FileClass.{FileClass}
use Rattle.histar_secrecy.specs.declared.role.Member.{Member}
use Rattle.histar_secrecy.specs.declared.role.Role.TheVariants.{Trusted}
use Rattle.histar_secrecy.specs.ShownRoles.{flat_class, has_role, with_user}
use Rattle.histar_trust.specs.Findings.{AreMembers, ShowsReached}
use Rattle.histar_trust.specs.TrustText.{is_open_way}
use Rattle.histar_test.specs.declared.asking.Asking.{Asking}
use Rattle.histar_test.specs.declared.steps.Step.{Step}
use Rattle.histar_test.specs.declared.steps.Step.TheVariants.{Makes, Expects, Asks, Forbids}
use Rattle.histar_test.specs.declared.watching.Watch.{Watch}
use Rattle.histar_test.specs.Steps.{calls_in, never_of_step, nevers_in}
use Rattle.histar_test.specs.Checks.{is_met, asked_check, made_of, checks_from, checks_text, names_text, trusted_text, unexpected}
use Rattle.histar_test.specs.Watching.{IsWatched, MakesCall, unbroken, watch_check, watches_after}

-- the tally with these checks counted too
abbrev pub tally_with : Tally → List Check → Tally
tally_with tally checks = record { count = tally.count + length checks; are_met = tally.are_met && list_all is_met checks }

-- the flat state after a step
abbrev pub flat_at : Accounts → Flat → Step → Flat
flat_at accounts f (Makes c said) = flat_after accounts f c.process c.call
flat_at accounts f (Expects text) = f
flat_at accounts f (Asks a) = f
flat_at accounts f (Forbids never) = f

-- the call that is open after a step, if one is, given the one before it
abbrev pub last_at : Accounts → Flat → Option Made → Step → Option Made
last_at accounts f last (Makes c said) = Some (made_of accounts f c said)
last_at accounts f last (Expects text) = None
last_at accounts f last (Asks a) = last
last_at accounts f last (Forbids never) = last

-- the check of an expectation, given the open call before it, if one is
abbrev pub reply_check : Option Made → List ℕ → List Check
reply_check None wanted = []
reply_check (Some made) wanted = record { made = made; wanted = Text wanted } ∷ []

-- the check of a step at its place, if it has one, in a flat state, given the open call before it; a call has that of the open call
abbrev pub check_at : Bool → Accounts → Flat → Option Made → Step → List Check
check_at strict accounts f last (Makes c said) = option_to_list (unexpected strict last)
check_at strict accounts f last (Expects text) = reply_check last text
check_at strict accounts f last (Asks a) = asked_check accounts f a ∷ []
check_at strict accounts f last (Forbids never) = []

-- the lines of the check of a step, if it has one
abbrev pub step_text : List ℕ → Accounts → Flat → Run → Step → List ℕ
step_text file accounts f run step = checks_text file (run.tally.count + 1) (check_at run.strict accounts f run.last step)

-- the check of the open call, if nobody expected its reply
abbrev pub close_checks : Run → List Check
close_checks run = option_to_list (unexpected run.strict run.last)

-- the lines of the check of the open call, if nobody expected its reply
abbrev pub close_text : List ℕ → Run → List ℕ
close_text file run = checks_text file (run.tally.count + 1) (close_checks run)

-- the checks of steps from a flat state on, which a run takes
abbrev pub checks_ahead : Accounts → Flat → Run → List Step → List Check
checks_ahead accounts f run steps = checks_from run.strict accounts f run.last steps

-- memory ran out
abbrev pub IsMemory : Fault → Type 0
IsMemory fault = fault ≡ OutOfMemory

-- A run begins: the machine represents the flat start with these accounts and has made no call, these claims are watched, no call is open,
-- and the checks of earlier files are counted.
pub record Starts (accounts : Accounts) (strict : Bool) (before : Tally) (claims : List Watch) (run : Run) : Type 0 where
  pub as_asked : run.strict ≡ strict
  pub shows : ShowsStart accounts run.watched.machine
  pub uncalled : run.watched.has_called ≡ false
  pub watches : run.watched.watches.items ≡ claims
  pub last : run.last ≡ None
  pub tally : run.tally ≡ before

-- the processes among the running ones that are trusted with what a tree has at a path, by the way to it
abbrev pub shown_trusted : List Group → List Member → Option TreeNode → List Class → List ℕ
shown_trusted groups members None way = codes "nobody"
shown_trusted groups members (Some node) way =
    if is_directory node.target then codes "nobody"
    else (if is_open_way way then codes "everyone"
    else names_text (map (λ (p : ProcName × Name). p.0) (map with_user (filter (has_role groups way Trusted) members))))

-- the same by the running processes of a machine
abbrev pub ShowsTrustedAt : MachineModel → Option TreeNode → List FileClass → List ℕ → Type 0
ShowsTrustedAt m found classes text =
    (members : List Member) × AreMembers m members × (text ≡ shown_trusted m.users.groups members found (map flat_class classes))

-- whatever flat state that calls lead to the machine represents, these processes are trusted with what is at the path
abbrev pub ShowsTrusted : MachineModel → Path → List ℕ → Type 0
ShowsTrusted machine path text = (accounts : Accounts) (f : Flat) → ShowsReached accounts machine f → text ≡ trusted_text accounts f path

-- whatever flat state that calls lead to the machine represents, this is the check of the question or the claim in it
abbrev pub AsksMachine : MachineModel → Asking → Check → Type 0
AsksMachine machine asking check = (accounts : Accounts) (f : Flat) → ShowsReached accounts machine f → check ≡ asked_check accounts f asking

-- a check was counted, and nothing else was done
pub record CountsCheck (old new : Run) (check : Check) : Type 0 where
  pub strict : new.strict ≡ old.strict
  pub watched : new.watched ≡ old.watched
  pub last : new.last ≡ old.last
  pub tally : new.tally ≡ tally_with old.tally (check ∷ [])

-- the check of the open call was counted, if nobody expected its reply
pub record Closes (old new : Run) : Type 0 where
  pub strict : new.strict ≡ old.strict
  pub watched : new.watched ≡ old.watched
  pub tally : new.tally ≡ tally_with old.tally (close_checks old)

-- a call was made on the machine of a run, and is open; nothing was counted
pub record Calls (old new : Run) (call : CallLine) (said : List ℕ) : Type 0 where
  pub strict : new.strict ≡ old.strict
  pub made : Made
  pub makes : MakesCall old.watched new.watched call said made
  pub last : new.last ≡ Some made
  pub tally : new.tally ≡ old.tally

-- a step was taken from a flat state: its check was counted, and each claim that it broke first is known
pub record IsTaken (accounts : Accounts) (f : Flat) (old new : Run) (step : Step) : Type 0 where
  pub strict : new.strict ≡ old.strict
  pub watched : IsWatched accounts (flat_at accounts f step) new.watched
  pub watches : new.watched.watches.items ≡ watches_after accounts f (calls_in (step ∷ [])) old.watched.watches.items
  pub last : new.last ≡ last_at accounts f old.last step
  pub tally : new.tally ≡ tally_with old.tally (check_at old.strict accounts f old.last step)

-- whatever flat state that calls lead to the machine represented, the step was taken from it
abbrev pub TakesStep : Run → Run → Step → Type 0
TakesStep old new step = (accounts : Accounts) (f : Flat) → IsWatched accounts f old.watched → IsTaken accounts f old new step

-- the check of the step was written
abbrev pub WritesStep : List ℕ → Run → Step → Option (List ℕ) → Option (List ℕ) → Type 0
WritesStep file old step before after =
    (accounts : Accounts) (f : Flat) → IsWatched accounts f old.watched → Appends before after (step_text file accounts f old step)

-- a beginning of the check of the step was written
abbrev pub BeginsStep : List ℕ → Run → Step → Option (List ℕ) → Option (List ℕ) → Type 0
BeginsStep file old step before after =
    (accounts : Accounts) (f : Flat) → IsWatched accounts f old.watched → AppendsFront before after (step_text file accounts f old step)

-- steps were taken from a flat state: their checks were written and counted, and each claim that they broke first is known
pub record AreTaken (accounts : Accounts) (f : Flat) (file : List ℕ) (old new : Run) (steps : List Step) (before after : Option (List ℕ))
    : Type 0 where
  pub written : Appends before after (checks_text file (old.tally.count + 1) (checks_ahead accounts f old steps))
  pub tally : new.tally ≡ tally_with old.tally (checks_ahead accounts f old steps)
  pub watches : new.watched.watches.items ≡ watches_after accounts f (calls_in steps) old.watched.watches.items

-- whatever flat state that calls lead to the machine represented, the steps were taken from it
abbrev pub TakesSteps : List ℕ → Run → Run → List Step → Option (List ℕ) → Option (List ℕ) → Type 0
TakesSteps file old new steps before after =
    (accounts : Accounts) (f : Flat) → IsWatched accounts f old.watched → AreTaken accounts f file old new steps before after

-- a beginning of the checks of the steps was written
abbrev pub BeginsSteps : List ℕ → Run → List Step → Option (List ℕ) → Option (List ℕ) → Type 0
BeginsSteps file old steps before after =
    (accounts : Accounts) (f : Flat) → IsWatched accounts f old.watched
    → AppendsFront before after (checks_text file (old.tally.count + 1) (checks_ahead accounts f old steps))

-- ---- claims `#never`

-- the checks of the claims of a run, by what was found of each
abbrev pub claim_checks : Run → List Check
claim_checks run = map watch_check run.watched.watches.items

-- the lines of the checks of the claims
abbrev pub claims_text : List ℕ → Run → List ℕ
claims_text file run = checks_text file (run.tally.count + 1) (claim_checks run)

-- the checks of the claims were counted
abbrev pub CountsClaims : Run → Run → Type 0
CountsClaims old new = new.tally ≡ tally_with old.tally (claim_checks old)

-- all checks of a test that a run takes from a flat state on: those of its steps, and then those of its claims
abbrev pub test_checks : Accounts → Flat → Run → List Step → List Check
test_checks accounts f run steps =
    checks_ahead accounts f run steps ++ map watch_check (watches_after accounts f (calls_in steps) run.watched.watches.items)

-- the steps of a test were taken from a flat state, and all checks were written and counted
pub record IsRun (accounts : Accounts) (f : Flat) (file : List ℕ) (old new : Run) (steps : List Step) (before after : Option (List ℕ))
    : Type 0 where
  pub written : Appends before after (checks_text file (old.tally.count + 1) (test_checks accounts f old steps))
  pub tally : new.tally ≡ tally_with old.tally (test_checks accounts f old steps)

-- whatever flat state that calls lead to the machine represented, the test was run from it
abbrev pub RunsTest : List ℕ → Run → Run → List Step → Option (List ℕ) → Option (List ℕ) → Type 0
RunsTest file old new steps before after =
    (accounts : Accounts) (f : Flat) → IsWatched accounts f old.watched → IsRun accounts f file old new steps before after

-- a beginning of the checks of the test was written
abbrev pub BeginsTest : List ℕ → Run → List Step → Option (List ℕ) → Option (List ℕ) → Type 0
BeginsTest file old steps before after =
    (accounts : Accounts) (f : Flat) → IsWatched accounts f old.watched
    → AppendsFront before after (checks_text file (old.tally.count + 1) (test_checks accounts f old steps))

-- the steps of a test are split: those that are taken at their places, and the claims that are watched
pub record AreSplit (steps others : List Step) (claims : List Watch) : Type 0 where
  pub taken : others ≡ filter (λ step. not (is_some (never_of_step step))) steps
  pub watches : claims ≡ map unbroken (nevers_in steps)

-- a step was added to those that are taken at their places, or to the claims
pub record AreSplitWith (step : Step) (others others_then : List Step) (claims claims_then : List Watch) : Type 0 where
  pub taken : others_then ≡ others ++ filter (λ step. not (is_some (never_of_step step))) (step ∷ [])
  pub watches : claims_then ≡ claims ++ map unbroken (nevers_in (step ∷ []))
