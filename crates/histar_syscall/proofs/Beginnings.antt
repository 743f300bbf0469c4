-- The objects of the empty kernel.
use Rattle.std.proofs.Common.{◌≡◌, ◌==◌, Bool, true, false, None, Some, refl, ◌∙◌, if◌then◌else◌}
use Rattle.std.specs.Prelude.{option_map}
use Rattle.std.specs.FinSet as set
use Rattle.histar_level.specs.declared.level.Level.TheVariants.{L0, L1}
use Rattle.histar_level.specs.Levels.{Levels}
use Rattle.histar_label.specs.Levels.{constant, with_level}
use Rattle.histar_object.specs.declared.objects.Kind.TheVariants.{Container}
use Rattle.histar_object.specs.declared.objects.Object.{Object}
use Rattle.histar_object.specs.Objects.{no_objects, linking}
use Rattle.histar_object.specs.State.{State, with_next, with_object, empty_state, root_object, boot_thread}

-- a state without objects, where the next object is 1 and the next category 2
abbrev pub nothing_yet : State
nothing_yet = record { objects = no_objects; next_object = 1; next_category = 2 }

-- the root container before it links anything
abbrev pub root_alone : Levels → Object Levels
root_alone label = record { label = label; kind = Container set.empty }

-- the object at each number, depending on whether it is 1 and whether it is 2
linked_at : (one two : Bool)
    → (if two then Some boot_thread else (if one then option_map (linking 2)
    (if one then Some (root_alone (with_level (constant L1) 1 L0)) else None) else
    (if one then Some (root_alone (with_level (constant L1) 1 L0)) else None)))
    ≡ (if two then Some boot_thread else (if one then Some root_object else None))
linked_at true true = refl
linked_at true false = refl
linked_at false true = refl
linked_at false false = refl

-- linking the boot thread in the root container gives the empty kernel
boot_linked : with_object (with_next nothing_yet (root_alone (with_level (constant L1) 1 L0))) 1 boot_thread ≡ empty_state
boot_linked i = record { objects = λ q. linked_at (q == 1) (q == 2) i; next_object = 3; next_category = 2 }

-- the objects of the empty kernel, step by step
pub empty_made : (first second third : State) → first ≡ nothing_yet
    → second ≡ with_next first (root_alone (with_level (constant L1) 1 L0)) → third ≡ with_object second 1 boot_thread
    → third ≡ empty_state
empty_made first second third at_first at_second at_third =
    at_third
    ∙ (λ i.
    with_object ((at_second ∙ (λ j. with_next (at_first j) (root_alone (with_level (constant L1) 1 L0)))) i)
    1 boot_thread) ∙ boot_linked
