-- What becomes of the names of objects and of categories along the lines of a script.
use Rattle.std.specs.Prelude.{◌≡◌, ◌≤◌, true, List, [], ◌∷◌, is_some}
use Rattle.histar_flat.specs.declared.calls.CallLine.{CallLine}
use Rattle.histar_flat.specs.Words.{Path, ProcName}
use Rattle.histar_flat.specs.Accounts.{Accounts}
use Rattle.histar_flat.specs.Files.{get}
use Rattle.histar_flat.specs.FlatState.{Flat}
use Rattle.histar_flat.specs.FlatCalls.{flat_after}
use Rattle.histar_flat.specs.Meaning.{flat_end}
use Rattle.histar_object.specs.State.{State}
use Rattle.histar_trace.specs.declared.entries.TraceEntry.{TraceEntry}
use Rattle.histar_refinement.specs.Addresses.{address_of, home_address}
use Rattle.histar_refinement.specs.Categories.{CategoryName, IsUsed}
use Rattle.histar_refinement.specs.Represents.{ObjectsMatch, Represents}
use Rattle.histar_sim.specs.Simulation.{SimulatesLines}

-- this holds of the flat state before these calls, and of the one after each of them
abbrev pub Throughout : Accounts → (Flat → Type 0) → Flat → List CallLine → Type 0
Throughout accounts Holds f [] = Holds f
Throughout accounts Holds f (asked ∷ calls) =
    Holds f × Throughout accounts Holds (flat_after accounts f asked.process asked.call) calls

-- Under the naming after these calls, the names of an older one have the numbers that they had, and no other names do.
pub record KeepsNumbers {accounts : Accounts} {s t : State} {f g : Flat} (calls : List CallLine)
    (old : ObjectsMatch accounts s f) (new : ObjectsMatch accounts t g) : Type 0 where
  -- a category that is used throughout has the number that it had
  pub categories : (c : CategoryName) → Throughout accounts (λ x. IsUsed accounts x c) f calls
      → new.category c ≡ old.category c
  -- the number of a category that was used is never another one's, and one that is used only then was made since
  pub purposes : (c d : CategoryName) → IsUsed accounts f c → IsUsed accounts g d → new.category d ≡ old.category c
      → d ≡ c
  pub fresh : (c : CategoryName) → (IsUsed accounts f c → ⊥) → IsUsed accounts g c → s.next_category ≤ new.category c
  -- what is at its path throughout has the number that it had, and so has the container of a process
  pub files : (q : Path) → Throughout accounts (λ x. is_some (get x.files q) ≡ true) f calls
      → new.naming.number (address_of q) ≡ old.naming.number (address_of q)
  pub processes : (p : ProcName) → Throughout accounts (λ x. is_some (x.processes p) ≡ true) f calls
      → new.naming.number (home_address p) ≡ old.naming.number (home_address p)

-- Whatever names the state before the lines of a script is represented under, the one after them is represented under names
-- that keep their numbers.
abbrev pub NamesStay : Type 0
NamesStay =
    (accounts : Accounts) (s end : State) (f : Flat) (calls : List CallLine) (entries : List TraceEntry)
    → SimulatesLines accounts s f calls entries end → (old : Represents accounts s f)
    → (new : Represents accounts end (flat_end accounts f calls)) × KeepsNumbers calls old.matched new.matched
