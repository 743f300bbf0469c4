-- How the code of a login runs its program, from one part to the next.
use Rattle.std.proofs.Common.{◌≡◌, ℕ, Bool, List, Result, Ok, Err, sym, subst}
use Rattle.std.specs.Str.{bytes_eq}
use Rattle.histar_level.specs.Levels.{Levels}
use Rattle.histar_object.specs.declared.objects.Entry.{Entry}
use Rattle.histar_rules.specs.declared.raw.RawCall.TheVariants.{Enter, OwnLabel, Read, SetLabel, SetClearance}
use Rattle.histar_rules.specs.Sound.{root_number}
use Rattle.histar_syscall.specs.KernelModel.{KernelModel}
use Rattle.histar_programs.specs.declared.call_error.CallError.{CallError}
use Rattle.histar_programs.specs.Programs.{Part, Program, RunsPart}
use Rattle.histar_programs.specs.Programs.Program.{Answers}
use Rattle.histar_programs.specs.Parts.{ask}
use Rattle.histar_programs.proofs.Exits.{Leaves}
use Rattle.histar_programs.proofs.Running.{hands, part_fails, then_part}
use Rattle.histar_programs.specs.declared.caller.Caller.{Caller}
use Rattle.histar_login.specs.Login.{AreEntryLabels, ask_password, clearance_if, entering, label_if, login_as_program, reply_if}
use Rattle.histar_programs.specs.Users.{gate_of, password_of}
use Rattle.histar_login.specs.Login.{take_due}

-- a gate that is entered by the labels that were made is the user's
pub enters : {M : Type 0}
    → (t : ℕ) (old new : KernelModel) (result : Result Entry CallError) (owners : List ℕ) (i : ℕ) (own : Levels × Levels)
    → (d gate : ℕ) (labels : Levels × Levels) → d ≡ root_number → gate ≡ gate_of i → AreEntryLabels owners own labels
    → RunsPart {A = Entry} M (ask (Enter d gate labels.0 labels.1 own.0)) old new t result
    → RunsPart {A = Entry} M (ask (entering owners i own.0 own.1)) old new t result
enters {M} t old new result owners i own d gate labels root_is gate_is are runs =
    subst (λ (p : Part Entry). RunsPart {A = Entry} M p old new t result)
    (λ j. ask (Enter (root_is j) (gate_is j) (are.wanted_is j) (are.clearance_is j) own.0)) runs

-- the password of a user is asked for
module _ (t i : ℕ) (password : List ℕ) (old new : KernelModel) where
  abbrev compared : List ℕ → Part Bool
  compared kept rest = rest (bytes_eq kept password)

  -- the password's segment isn't read
  pub asks_none : {M : Type 0} → (call_error : CallError)
      → RunsPart {A = List ℕ} M (ask (Read root_number (password_of i))) old new t (Err call_error)
      → RunsPart M (ask_password i password) old new t (Err call_error)
  asks_none call_error first = part_fails t (ask (Read root_number (password_of i))) old new compared call_error first

  -- the password's segment is read
  pub asks_password : {M : Type 0} → (kept : List ℕ) (right : Bool)
      → RunsPart {A = List ℕ} M (ask (Read root_number (password_of i))) old new t (Ok kept)
      → right ≡ bytes_eq kept password → RunsPart M (ask_password i password) old new t (Ok right)
  asks_password {M} kept right first is =
      subst (λ (b : Bool). RunsPart M (ask_password i password) old new t (Ok b)) (sym is)
      (then_part t (ask (Read root_number (password_of i))) old new compared new kept first
      (Ok (bytes_eq kept password)) (hands t new (bytes_eq kept password)))

-- the segment that is read is that of the password
pub reads : {M : Type 0} → (t : ℕ) (old new : KernelModel) (result : Result (List ℕ) CallError) (d o i : ℕ) → d ≡ root_number
    → o ≡ password_of i
    → RunsPart {A = List ℕ} M (ask (Read d o)) old new t result
    → RunsPart {A = List ℕ} M (ask (Read root_number (password_of i))) old new t result
reads {M} t old new result d o i root segment runs =
    subst (λ (p : Part (List ℕ)). RunsPart {A = List ℕ} M p old new t result) (λ j. ask (Read (root j) (segment j))) runs

-- labels that are taken are the expected ones
module _ (t : ℕ) (old new : KernelModel) (result : Result (Unit {0}) CallError) (label due : Levels) (same : label ≡ due) where
  pub takes_label : {M : Type 0} → RunsPart {A = Unit {0}} M (ask (SetLabel label)) old new t result
      → RunsPart {A = Unit {0}} M (ask (SetLabel due)) old new t result
  takes_label {M} runs = subst (λ (p : Part (Unit {0})). RunsPart {A = Unit {0}} M p old new t result) (λ j. ask (SetLabel (same j))) runs

  pub takes_clearance : {M : Type 0} → RunsPart {A = Unit {0}} M (ask (SetClearance label)) old new t result
      → RunsPart {A = Unit {0}} M (ask (SetClearance due)) old new t result
  takes_clearance {M} runs = subst (λ (p : Part (Unit {0})). RunsPart {A = Unit {0}} M p old new t result) (λ j. ask (SetClearance (same j))) runs

-- the expected labels are taken, the label first
module _ (t : ℕ) (right : Bool) (caller : Caller) (owners : List ℕ) (own : Levels × Levels) (old new : KernelModel) where
  abbrev due_label : Levels
  due_label = label_if right caller owners own.0

  abbrev after_label : Unit {0} → Part (Unit {0})
  after_label done = ask (SetClearance (clearance_if right caller owners own.1))

  -- the label isn't taken
  pub takes_none : {M : Type 0} → (call_error : CallError)
      → RunsPart {A = Unit {0}} M (ask (SetLabel due_label)) old new t (Err call_error)
      → RunsPart M (take_due right caller owners own) old new t (Err call_error)
  takes_none call_error first = part_fails t (ask (SetLabel due_label)) old new after_label call_error first

  -- the label is taken, and the clearance too, or not
  pub takes_due : {M : Type 0} → (mid : KernelModel) → RunsPart {A = Unit {0}} M (ask (SetLabel due_label)) old mid t (Ok tt)
      → (result : Result (Unit {0}) CallError)
      → RunsPart {A = Unit {0}} M (ask (SetClearance (clearance_if right caller owners own.1))) mid new t result
      → RunsPart M (take_due right caller owners own) old new t result
  takes_due mid first result second = then_part t (ask (SetLabel due_label)) old new after_label mid tt first result second

-- what is left of a login, from one part to the next
module _ (caller : Caller) (i : ℕ) (owners password : List ℕ) where
  abbrev pub after_due : Bool → Program
  after_due right = Answers (reply_if right)

  abbrev pub after_password : Levels × Levels → Bool → Program
  after_password own right = take_due right caller owners own (λ (done : Unit {0}). after_due right)

  abbrev pub after_gate : Levels × Levels → Entry → Program
  after_gate own entry = ask_password i password (after_password own)

  abbrev pub after_own : Levels × Levels → Program
  after_own own = ask (entering owners i own.0 own.1) (after_gate own)

  pub begun : {M : Type 0} → (t : ℕ) (old : KernelModel)
      → Leaves M t (login_as_program caller i owners password) old (ask OwnLabel after_own) old
  unfolding login_as_program
  begun t old = record { leads = λ new result on. on }
