-- What is known where the checks of a call pass.
use Rattle.std.proofs.Common.{◌≡◌, ℕ, Bool, true, false, Option, None, Some, refl}
use Rattle.std.specs.Prelude.{not}
use Rattle.std.specs.FinSet as set
use mathlib.Core.Bool.{false≢true}
use Rattle.histar_base.specs.Refusals.{unless, ◌orelse◌}
use Rattle.histar_object.specs.Objects.{is_present, is_container, is_thread, links_in, label_there}
use Rattle.histar_object.specs.State.{State, Found}
use Rattle.histar_container.specs.Tree.{AreTree}
use Rattle.histar_container.proofs.Trees.{linked_there}
use Rattle.histar_rules.specs.declared.raw.Denied.{Denied}
use Rattle.histar_rules.specs.declared.raw.Denied.TheVariants.{NoThread, NoEntry, BadKind}
use Rattle.histar_rules.specs.declared.raw.RawCall.TheVariants.{LabelOf}
use Rattle.histar_rules.specs.Rules.{check, no_thread, no_container, no_link}

-- a test without a refusal holds
pub unless_none : (b : Bool) (d : Denied) → unless b d ≡ None → b ≡ true
unless_none true d e = refl
unless_none false d e = cc

-- of two checks that don't refuse, the first doesn't
pub first : (a b : Option Denied) → (a orelse b) ≡ None → a ≡ None
first None b e = refl
first (Some d) b e = cc

-- and the second doesn't
pub rest : (a b : Option Denied) → (a orelse b) ≡ None → b ≡ None
rest None b e = e
rest (Some d) b e = cc

-- where a test and the checks after it don't refuse, the test holds, and the checks after it don't refuse
pub passes : (b : Bool) (d : Denied) (later : Option Denied) → (unless b d orelse later) ≡ None → (b ≡ true) × (later ≡ None)
passes true d later e = (refl, e)
passes false d later e = cc

-- where the check of the caller passes, the caller is a thread
pub caller_is : (s : State) (t : ℕ) → no_thread s t ≡ None → is_thread (s.objects t) ≡ true
caller_is s t e = unless_none (is_thread (s.objects t)) NoThread e

-- where the check of the container passes, it is a container
pub container_is : (s : State) (t d : ℕ) → no_container s t d ≡ None → is_container (s.objects d) ≡ true
container_is s t d e =
    let there = rest (no_thread s t) _ e in
    let container = (passes (is_present (s.objects d)) NoEntry _ there).1 in
    (passes (is_container (s.objects d)) BadKind _ container).0

-- an object that is there has a label
no_label : (o : Found) → is_present o ≡ true → label_there o ≡ None → ⊥
no_label None there none = absurd (false≢true there)
no_label (Some o) there none = absurd cc

-- an object that a container links has a label, since it is there
pub label_revealed : (s : State) (t d o : ℕ) → AreTree s.objects → check s t (LabelOf d o) ≡ None → label_there (s.objects o) ≡ None → ⊥
label_revealed s t d o tree passed none =
    let links = first (no_link s t d o) (unless (not (is_thread (s.objects o))) BadKind) passed in
    let linked =
    unless_none (set.contains (links_in (s.objects d)) o) NoEntry
    (rest (no_container s t d) (unless (set.contains (links_in (s.objects d)) o) NoEntry) links) in
    no_label (s.objects o) (linked_there s.objects tree.root tree.next tree.tree d o linked) none
