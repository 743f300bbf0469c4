-- The rule of a word that is required unless a flag is given.
use Rattle.std.proofs.Common.{◌≡◌, ℕ, ◌+◌, true, false, List, [], ◌∷◌, ◌++◌, length, refl, ap, ap₂, ◌∙◌, arith}
use Rattle.std.specs.Prelude.{Bool, not, ◌&&◌}
use Rattle.std.specs.Borrow.{Bor}
use Rattle.std.proofs.lemmas.Bool.Decides.{nat_tests}
use Rattle.std.proofs.lemmas.List.{length_push}
use Rattle.clap.specs.declared.builder.arg.Arg.{Arg}
use Rattle.clap.specs.Adds.{AddsRequiredUnless}
use Rattle.clap.specs.Walk.{Rule, is_empty, is_free_arg, rule_of}
use Rattle.clap.specs.Words.{new_rule}
use Rattle.histar_command_line.specs.Forms.{unless_rule}

-- a list with one more item is not empty
not_empty : {X : Type 0} (xs : List X) (x : X) → is_empty (xs ++ x ∷ []) ≡ false
not_empty xs x = let more : length (xs ++ x ∷ []) ≡ length xs + 1 = length_push xs x in grind (arith, nat_tests)

-- of these tests the sixth fails
sixth_fails : (a b c d e f : Bool) → (a && (b && (c && (d && (e && (false && f)))))) ≡ false
sixth_fails false b c d e f = refl
sixth_fails true false c d e f = refl
sixth_fails true true false d e f = refl
sixth_fails true true true false e f = refl
sixth_fails true true true true false f = refl
sixth_fails true true true true true f = refl

-- an argument that another one replaces is not free
not_free : (old new : Arg) (flag : Bor (List ℕ)) → AddsRequiredUnless old new (flag ∷ [])
    → is_free_arg (record old { r_unless = new.r_unless }) ≡ false
not_free old new flag adds =
    ap (λ (empty : Bool). not old.exclusive && (is_empty old.conflicts.items && (is_empty old.needs.items
    && (is_empty old.r_ifs.items && (is_empty old.r_ifs_all.items && (empty && is_empty old.r_unless_all.items))))))
    (ap is_empty adds.1 ∙ not_empty old.r_unless.items flag)
    ∙ sixth_fails (not old.exclusive) (is_empty old.conflicts.items) (is_empty old.needs.items) (is_empty old.r_ifs.items)
    (is_empty old.r_ifs_all.items) (is_empty old.r_unless_all.items)

-- the rule of a plain argument with a flag that replaces it
pub rule_is_unless : (old new : Arg) (name : List ℕ) (flag : Bor (List ℕ)) → AddsRequiredUnless old new (flag ∷ [])
    → rule_of old ≡ new_rule name → rule_of new ≡ unless_rule name
rule_is_unless old new name flag adds is =
    ap rule_of adds.0 ∙ ap₂ (λ (rule : Rule) (free : Bool). record rule { is_free = free }) is (not_free old new flag adds)
