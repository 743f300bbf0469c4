-- Proves the goals of `bytes_of_lines` of src/undoing.rt that the search leaves open.
use Rattle.std.proofs.Common.{ℕ, ◌≡◌, ◌+◌, [], length, drop, rules, arith, ap, ◌∙◌}
use Rattle.std.proofs.lemmas.List.{drop_all}
use Rattle.histar_dialogue.specs.Talk.{bytes_of_lines}
use Rattle.histar_dialogue.proofs.ByteCounts.{after_byte, after_feed, no_lines, no_text}
use Rattle.histar_dialogue.proofs.undoing.bytes_of_lines.Goals.{then-text-at-eq10, else-text-at-eq10}
use Rattle.histar_dialogue.proofs.undoing.bytes_of_lines.Goals as goal

pub returns-then-left-eq0-clause-count : goal.returns-then-left-eq0-clause-count
returns-then-left-eq0-clause-count c =
    let rest = drop c.bytes.at c.args.text.now in
    let none = ap (λ (n : ℕ). bytes_of_lines n rest) c.if-left-eq0.true ∙ no_lines rest in
    omega (arith, c.bytes.invariant, none)

pub bytes-preserved : goal.bytes-preserved
bytes-preserved c =
    elim c.if-text-at-eq10.branch [
      | then-text-at-eq10 w ↦
          ap (λ (n : ℕ). c.bytes.at + 1 + bytes_of_lines n (drop (c.bytes.at + 1) c.args.text.now)) w.left-is
          ∙ after_feed c.args.text.now c.bytes.at c.bytes.left c.bytes-test.true c.if-left-eq0.false w.if-text-at-eq10.true ∙ c.bytes.invariant
      | else-text-at-eq10 w ↦
          ap (λ (n : ℕ). c.bytes.at + 1 + bytes_of_lines n (drop (c.bytes.at + 1) c.args.text.now)) w.left-is
          ∙ after_byte c.args.text.now c.bytes.at c.bytes.left c.bytes-test.true c.if-left-eq0.false w.if-text-at-eq10.false ∙ c.bytes.invariant
    ]

pub returns-clause-count : goal.returns-clause-count
returns-clause-count c =
    let none : drop c.bytes.at c.args.text.now ≡ [] = drop_all c.bytes.at c.args.text.now (search rules) in
    let zero = ap (bytes_of_lines c.bytes.left) none ∙ no_text c.bytes.left in
    let end : c.bytes.at ≡ length c.args.text.now = search rules in
    omega (arith, c.bytes.invariant, zero, end)
