-- The labels that a test compares are those of the parties that it names.
use Rattle.std.proofs.Common.{◌≡◌, ℕ, List, [], ◌∷◌, refl}
use Rattle.std.proofs.lemmas.List.Elements.{All-nil, All-cons}
use Rattle.std.specs.List.{All}
use Rattle.histar_object.specs.State.{State}
use Rattle.histar_rules.specs.declared.raw.Denied.{Denied}
use Rattle.histar_rules.specs.declared.raw.Denied.TheVariants.{Observe, Modify, Range, Gate, NoEntry, NoThread, BadKind, TooBig}
use Rattle.histar_rules.specs.declared.raw.RawCall.{RawCall}
use Rattle.histar_rules.specs.declared.raw.RawCall.TheVariants.{MakeCategory, OwnLabel, SetLabel, SetClearance, MakeSegment, MakeContainer}
use Rattle.histar_rules.specs.declared.raw.RawCall.TheVariants.{MakeThread, MakeGate, Enter, Read, Write, Unlink, LabelOf}
use Rattle.histar_explain.specs.Tests.{Test, tests}
use Rattle.histar_explain.specs.Parties.{label_of, ComparesParties, PartiesAreRight}

module _ (s : State) (t : ℕ) (call : RawCall) (denied : Denied) where
  abbrev Right : Test → Type 0
  Right = ComparesParties s t call denied

  -- the label of the party that stands below, and that of the party that stands above
  abbrev Low : Test → Type 0
  Low test = test.comparison.lower ≡ label_of s t call denied test.lower_is

  abbrev High : Test → Type 0
  High test = test.comparison.upper ≡ label_of s t call denied test.upper_is

  no_test : All Right []
  no_test = All-nil Right

  more : (first : Test) (rest : List Test) → Low first → High first → All Right rest → All Right (first ∷ rest)
  more first rest l h = All-cons Right first rest (record { lower = l; upper = h })

  one : (first : Test) → Low first → High first → All Right (first ∷ [])
  one first l h = more first [] l h no_test

  two : (first second : Test) → Low first → High first → Low second → High second → All Right (first ∷ second ∷ [])
  two first second l h m k = more first (second ∷ []) l h (one second m k)

  three : (first second third : Test) → Low first → High first → Low second → High second → Low third → High third
      → All Right (first ∷ second ∷ third ∷ [])
  three first second third l h m k n j = more first (second ∷ third ∷ []) l h (two second third m k n j)

module _ (s : State) (t : ℕ) where
  range_right : (call : RawCall) → All (ComparesParties s t call Range) (tests s t call Range)
  range_right MakeCategory = no_test s t MakeCategory Range
  range_right OwnLabel = no_test s t OwnLabel Range
  range_right (SetLabel label) = two s t (SetLabel label) Range _ _ refl refl refl refl
  range_right (SetClearance clearance) = two s t (SetClearance clearance) Range _ _ refl refl refl refl
  range_right (MakeSegment d label bytes) = three s t (MakeSegment d label bytes) Range _ _ _ refl refl refl refl refl refl
  range_right (MakeContainer d label) = three s t (MakeContainer d label) Range _ _ _ refl refl refl refl refl refl
  range_right (MakeThread d label clearance) = three s t (MakeThread d label clearance) Range _ _ _ refl refl refl refl refl refl
  range_right (MakeGate d label clearance entry) = three s t (MakeGate d label clearance entry) Range _ _ _ refl refl refl refl refl refl
  range_right (Enter d o wanted clearance verify) = three s t (Enter d o wanted clearance verify) Range _ _ _ refl refl refl refl refl refl
  range_right (Read d o) = no_test s t (Read d o) Range
  range_right (Write d o keep bytes) = no_test s t (Write d o keep bytes) Range
  range_right (Unlink d o) = no_test s t (Unlink d o) Range
  range_right (LabelOf d o) = no_test s t (LabelOf d o) Range

  gate_right : (call : RawCall) → All (ComparesParties s t call Gate) (tests s t call Gate)
  gate_right MakeCategory = no_test s t MakeCategory Gate
  gate_right OwnLabel = no_test s t OwnLabel Gate
  gate_right (SetLabel label) = no_test s t (SetLabel label) Gate
  gate_right (SetClearance clearance) = no_test s t (SetClearance clearance) Gate
  gate_right (MakeSegment d label bytes) = no_test s t (MakeSegment d label bytes) Gate
  gate_right (MakeContainer d label) = no_test s t (MakeContainer d label) Gate
  gate_right (MakeThread d label clearance) = no_test s t (MakeThread d label clearance) Gate
  gate_right (MakeGate d label clearance entry) = no_test s t (MakeGate d label clearance entry) Gate
  gate_right (Enter d o wanted clearance verify) = two s t (Enter d o wanted clearance verify) Gate _ _ refl refl refl refl
  gate_right (Read d o) = no_test s t (Read d o) Gate
  gate_right (Write d o keep bytes) = no_test s t (Write d o keep bytes) Gate
  gate_right (Unlink d o) = no_test s t (Unlink d o) Gate
  gate_right (LabelOf d o) = no_test s t (LabelOf d o) Gate

pub parties_are_right : PartiesAreRight
parties_are_right s t call Observe = one s t call Observe _ refl refl
parties_are_right s t call Modify = two s t call Modify _ _ refl refl refl refl
parties_are_right s t call Gate = gate_right s t call
parties_are_right s t call Range = range_right s t call
parties_are_right s t call NoEntry = no_test s t call NoEntry
parties_are_right s t call NoThread = no_test s t call NoThread
parties_are_right s t call BadKind = no_test s t call BadKind
parties_are_right s t call TooBig = no_test s t call TooBig
