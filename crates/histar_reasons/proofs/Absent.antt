-- What is said of a process that doesn't run is so.
use Rattle.std.specs.Prelude.{◌≡◌, ℕ, Bool, true, false, cond, nat_eq, [], ◌∷◌, Option, None, Some, is_some, if◌then◌else◌, refl}
use Rattle.std.proofs.Common.{ap}
use Rattle.std.proofs.lemmas.Bool.{and_parts}
use Rattle.histar_flat.specs.Words.{ProcName}
use Rattle.histar_flat.specs.Classes.{Process}
use Rattle.histar_flat.specs.FlatState.{Flat, is_given, was_given}
use Rattle.histar_flat.specs.FlatCalls.{if_running}
use Rattle.histar_flat.proofs.FileLemmas.{same_name_found}
use Rattle.histar_flat.proofs.Under.{under_itself, under_child}
use Rattle.histar_reasons.specs.Reasons.{first_absent}
use Rattle.histar_reasons.specs.Reasons.Absence.{HasExited, WasNeverStarted, WasKilled}
use Rattle.histar_reasons.specs.Laws.{AbsenceIsSo, AbsencesAreSo}

module _ (f : Flat) where
  -- a process that is not there, and whose number was given, is at or below one such
  killed : (me : ProcName) → f.processes me ≡ None → is_given f.processes me ≡ true → AbsenceIsSo f me (WasKilled (first_absent f me))
  killed [] gone given = (refl, refl, gone, refl)
  killed (n ∷ above) gone given = by (killed above) (f.processes above) refl
    where
      by : (f.processes above ≡ None → is_given f.processes above ≡ true → AbsenceIsSo f above (WasKilled (first_absent f above)))
          → (o : Option Process) → f.processes above ≡ o → AbsenceIsSo f (n ∷ above) (WasKilled (cond (is_some o) (n ∷ above) (first_absent f above)))
      by inner None e =
          let rest = inner e (and_parts (was_given (f.processes above) n) (is_given f.processes above) given).1 in
          (under_child nat_eq same_name_found (first_absent f above) above n rest.0, rest.1, rest.2, rest.3)
      by inner (Some p) e = (under_itself nat_eq same_name_found (n ∷ above), given, gone, ap is_some e)

  by_process : (me : ProcName) (o : Option Process) → f.processes me ≡ o → if_running o ≡ None
      → AbsenceIsSo f me (if is_some o then HasExited else if is_given f.processes me then WasKilled (first_absent f me) else WasNeverStarted)
  by_process me None gone still = by (is_given f.processes me) refl
    where
      by : (b : Bool) → is_given f.processes me ≡ b → AbsenceIsSo f me (if b then WasKilled (first_absent f me) else WasNeverStarted)
      by true given = killed me gone given
      by false given = given
  by_process me (Some p) there still = by p.exited refl still
    where
      by : (o : Option ℕ) → p.exited ≡ o → elim o as (λ _. Option Process) [ None ↦ Some p | Some n ↦ None ] ≡ None → AbsenceIsSo f me HasExited
      by None e runs = absurd (cc)
      by (Some n) e runs = (p, n, there, e)

pub absences_are_so : AbsencesAreSo
absences_are_so f me still = by_process f me (f.processes me) refl still
