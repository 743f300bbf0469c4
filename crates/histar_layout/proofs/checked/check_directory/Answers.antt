-- Proves the goals of `check_directory` of src/checked.rt that the search leaves open.
use Rattle.std.proofs.Common.{◌≡◌, ◌<◌, length, arith, sym, ◌∙◌}
use Rattle.std.proofs.lemmas.Bool.Decides.{nat_tests}
use Rattle.histar_layout.proofs.DirectoryLemmas.{shorter, no_entry, no_room, no_order}
use Rattle.histar_layout.proofs.CheckedDirectories.{comes_after_bytes, name_is_last, nothing_checked, checks_on, whole_checked}
use Rattle.histar_layout.proofs.checked.check_directory.Goals as goal
use Rattle.histar_layout.proofs.checked.check_directory.Goals.{then-count-eq-MOST_ENTRIES-via-then-count-eq-MOST_ENTRIES}
use Rattle.histar_layout.proofs.checked.check_directory.Goals.{then-count-eq-MOST_ENTRIES-via-else-count-eq-MOST_ENTRIES+then-not-precedes}

pub entries-init : goal.entries-init
entries-init c = nothing_checked c.args.bytes.now (λ i. omega (arith, c.type_inv.bytes i))

pub returns-in_default : goal.returns-in_default
returns-in_default c =
    let there : 0 < length c.entries.rest.now = grind (arith, nat_tests) in
    no_entry _ _ _ _ c.entries.invariant.read there c.in_default.ensures.entry

pub entries-smaller : goal.entries-smaller
entries-smaller c = shorter _ _ _ _ c.entries.invariant.read.rest_fits c.in-Some.ensures.entry

pub entries-preserved : goal.entries-preserved
entries-preserved c =
    let count_is = c.entries.invariant.count_is in
    let few = c.entries.invariant.read.listable.few in
    let not_most = c.if-count-eq-MOST_ENTRIES.false in
    let room : c.entries.count < 64 = grind (arith, nat_tests, count_is, few, not_most) in
    let named = c.in-Some.ensures.named in
    let rises = sym (comes_after_bytes c.entries.last.now c.in-Some.text.now named) ∙ sym c.precedes.ensures ∙ c.if-not-precedes.false in
    rw (name_is_last c.in-Some.text.now named) (checks_on _ _ _ _ _ _ _ c.entries.invariant c.in-Some.ensures.entry room rises)

pub returns-then-count-eq-MOST_ENTRIES : goal.returns-then-count-eq-MOST_ENTRIES
returns-then-count-eq-MOST_ENTRIES c =
    let there : 0 < length c.entries.rest.now = grind (arith, nat_tests) in
    elim c.then-count-eq-MOST_ENTRIES.branch [
      | then-count-eq-MOST_ENTRIES-via-then-count-eq-MOST_ENTRIES w ↦
          let most = w.if-count-eq-MOST_ENTRIES.true in
          let is_most : c.entries.count ≡ 64 = grind (arith, nat_tests, most) in
          no_room _ _ _ _ c.entries.invariant.read there (sym c.entries.invariant.count_is ∙ is_most)
      | then-count-eq-MOST_ENTRIES-via-else-count-eq-MOST_ENTRIES+then-not-precedes w ↦
          no_order _ _ _ _ _ _ _ c.entries.invariant.read there c.in-Some.ensures.entry
          (sym (comes_after_bytes c.entries.last.now c.in-Some.text.now c.in-Some.ensures.named)
          ∙ sym w.precedes.ensures ∙ w.if-not-precedes.true)
    ]

pub returns : goal.returns
returns c =
    let none : length c.entries.rest.now ≡ 0 = grind (arith, nat_tests) in
    whole_checked _ _ _ _ c.entries.invariant none
