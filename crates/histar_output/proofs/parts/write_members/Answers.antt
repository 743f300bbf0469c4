-- Proves the goals of `write_members` of src/parts.rt that the search leaves open.
use Rattle.std.proofs.Common.{◌≡◌, ℕ, ◌+◌, [], ◌++◌, List, Some, drop, map, get_or, sym, ap, ◌∙◌, append_assoc}
use Rattle.std.proofs.Common.{arith}
use Rattle.std.specs.Prelude.{Option}
use Rattle.std.specs.Option.{option_copied}
use Rattle.std.proofs.lemmas.Result.{on_ok_weaker}
use Rattle.json.specs.Token.{Token}
use Rattle.json.specs.Tree.{members_tokens}
use Rattle.histar_output.specs.declared.parts.Part.{Part}
use Rattle.histar_output.specs.declared.parts.Part.TheVariants.{Upto}
use Rattle.histar_output.specs.declared.parts.Kind.TheVariants.{Text}
use Rattle.histar_output.specs.Parts.{member_of, members_of}
use Rattle.histar_output.specs.Written.{member_tokens, part_of}
use Rattle.histar_output.proofs.MemberLemmas.{members_at, members_end, members_none}
use Rattle.histar_output.proofs.parts.write_members.Goals as goal

-- the part that a place past the end has
abbrev no_part : Part
no_part = Upto (record { ref_ptr = (0, 0); now = [] }) Text (record { ref_ptr = (0, 0); now = [] })

-- the tokens of the members that are still to come
abbrev to_come : List Part → Option (List ℕ) → List Token
to_come parts left = members_tokens (members_of (map part_of parts) left)

pub parts-preserved : goal.parts-preserved
parts-preserved c =
    let i = c.parts.part-index in
    let parts = c.args.parts.now in
    let made = c.in_ok-left.ensures in
    let old = c.parts.writer.tokens in
    let part = get_or parts i no_part in
    let here = members_at parts i no_part c.in-Some.text.now (omega (arith, c.parts-test.true)) in
    let was : option_copied c.parts.left ≡ Some c.in-Some.text.now = ap option_copied c.in-Some.is in (
      made.written.0 ∙ c.parts.invariant.0,
      ap (λ (ts : List Token). ts ++ to_come (drop (i + 1) parts) (option_copied c.in_ok-left.left)) made.written.1
          ∙ append_assoc old _ _
          ∙ ap (λ (left : Option (List ℕ)). old
          ++ (member_tokens (member_of (part_of part) c.in-Some.text.now) ++ to_come (drop (i + 1) parts) left)) made.left
          ∙ sym (ap (λ (ts : List Token). old ++ ts) (ap (to_come (drop i parts)) was ∙ here))
          ∙ c.parts.invariant.1,
    )

pub returns : goal.returns
returns c =
    let none = members_end c.args.parts.now c.parts.part-index (option_copied c.parts.left) (omega (arith, c.parts-test.false)) in
    on_ok_weaker c.end_object-2.result
    (λ is. (
      c.end_object-2.ensures.room.0 ∙ c.parts.invariant.0,
      is ∙ sym (ap (λ ms. c.parts.writer.tokens ++ members_tokens ms) none) ∙ c.parts.invariant.1,
    ))
    c.end_object-2.ensures.ok

pub returns-in_default : goal.returns-in_default
returns-in_default c =
    let rest = map part_of (drop c.parts.part-index c.args.parts.now) in
    let none = ap (members_of rest) (ap option_copied c.in_default.is) ∙ members_none rest in
    on_ok_weaker c.end_object.result
    (λ is. (
      c.end_object.ensures.room.0 ∙ c.parts.invariant.0,
      is ∙ sym (ap (λ ms. c.parts.writer.tokens ++ members_tokens ms) none) ∙ c.parts.invariant.1,
    ))
    c.end_object.ensures.ok
