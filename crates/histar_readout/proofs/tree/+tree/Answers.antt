-- Proves the goals of `+tree` of src/tree.rt that the search leaves open.
use Rattle.std.proofs.Common.{◌≡◌, ℕ, ◌<◌, ◌≤◌, ◌+◌, List, [], ◌∷◌, drop, length, get_or, Ok, Err, sym, ap, ◌∙◌, subst, arith}
use Rattle.std.proofs.lemmas.List.{drop_more, length-drop, nil_from_length}
use Rattle.std.specs.FinMap as map
use Rattle.histar_flat.specs.Words.{Path}
use Rattle.histar_syscall.specs.KernelModel.{lent_bytes, state}
use Rattle.histar_readout.specs.Tree.{AddsTree}
use Rattle.histar_readout.proofs.Adding.{below_at, adds_none, read_as, fails_below, no_entry_more, no_level_more, entry_more, entries_all, no_node}
use Rattle.histar_readout.proofs.Adding.{adds_directory}
use Rattle.histar_readout.proofs.tree.+tree.Goals as goal

-- the next of the items that are left
next_left : {A : Type 0} (items : List A) (i : ℕ) (x : A) → i < length items → x ≡ get_or items i x → drop i items ≡ x ∷ drop (i + 1) items
next_left items i x within is = drop_more items i x within ∙ ap (λ y. y ∷ drop (i + 1) items) (sym is)

-- none is left at the end
none_left : {A : Type 0} (items : List A) (i : ℕ) → length items ≤ i → drop i items ≡ []
none_left items i past = nil_from_length (drop i items) (omega (arith, past, length-drop i items))

pub push_below-entries-init : goal.push_below-entries-init
push_below-entries-init g t c =
    let s = state c.args.source.now.kernel.now in (
      c.in-Some.directory,
      read_as (lent_bytes s c.args.listing) c.bytes.result.now c.in_ok-directory.field-0 c.in-Some.directory
          c.bytes.ensures c.in-Some.is c.in_ok-directory.ensures.ok,
      adds_none (below_at c.args.source.now.users.now s c.args.path.now) c.args.path.now (map.entries c.in-Some.directory) _
          c.args.tree.now.items (c.deref-entry-items.ensures.value ∙ c.in_ok-entries.ensures.ok),
    )

pub push_below-returns-then-depth-eq-MOST_NAMES-clause-adds : goal.push_below-returns-then-depth-eq-MOST_NAMES-clause-adds
push_below-returns-then-depth-eq-MOST_NAMES-clause-adds g t c =
    let turn = next_left c.deref-entry-items.result.now c.entries.entry-index c.entry-item.result (omega arith) c.entry-item.is in
    no_level_more c.args.source.now.users.now (state c.args.source.now.kernel.now) c.args.path.now c.args.listing
    (drop c.entries.entry-index c.deref-entry-items.result.now) (drop (c.entries.entry-index + 1) c.deref-entry-items.result.now) c.entry-item.result
    c.args.tree.now.items c.entries.tree.items turn c.entries.invariant
    (sym c.depth.ensures.value ∙ c.if-depth-eq-MOST_NAMES.true)

pub push_below-entries-preserved : goal.push_below-entries-preserved
push_below-entries-preserved g t c =
    let turn = next_left c.deref-entry-items.result.now c.entries.entry-index c.entry-item.result (omega arith) c.entry-item.is in
    entry_more c.args.source.now.users.now (state c.args.source.now.kernel.now) c.args.path.now c.args.listing
    (drop c.entries.entry-index c.deref-entry-items.result.now) (drop (c.entries.entry-index + 1) c.deref-entry-items.result.now) c.entry-item.result
    c.args.tree.now.items c.entries.tree.items _ turn c.entries.invariant
    c.requires (λ e. c.if-depth-eq-MOST_NAMES.false (c.depth.ensures.value ∙ e))
    (subst (λ (q : Path).
    AddsTree c.args.source.now.users.now (state c.args.source.now.kernel.now) q c.entry-item.result.1 c.entries.tree.items
    c.push_tree.new.tree.items (Ok tt)) c.entry-inner.ensures c.in_ok-push_tree.ensures.adds)

pub push_below-returns-in_err-push_tree-clause-adds : goal.push_below-returns-in_err-push_tree-clause-adds
push_below-returns-in_err-push_tree-clause-adds g t c =
    let turn = next_left c.deref-entry-items.result.now c.entries.entry-index c.entry-item.result (omega arith) c.entry-item.is in
    fails_below c.args.source.now.users.now (state c.args.source.now.kernel.now) c.args.path.now c.args.listing c.args.tree.now.items
    c.push_tree.new.tree.items c.in_err-push_tree.field-0.0 c.from_residual-in_err-push_tree.result
    c.from_residual-in_err-push_tree.ensures.1
    (no_entry_more c.args.source.now.users.now (state c.args.source.now.kernel.now) c.args.path.now c.args.listing
    (drop c.entries.entry-index c.deref-entry-items.result.now) (drop (c.entries.entry-index + 1) c.deref-entry-items.result.now) c.entry-item.result
    c.args.tree.now.items c.entries.tree.items c.push_tree.new.tree.items c.in_err-push_tree.field-0.0 turn
    c.entries.invariant
    c.requires (λ e. c.if-depth-eq-MOST_NAMES.false (c.depth.ensures.value ∙ e))
    (subst (λ (q : Path).
    AddsTree c.args.source.now.users.now (state c.args.source.now.kernel.now) q c.entry-item.result.1 c.entries.tree.items
    c.push_tree.new.tree.items (Err c.in_err-push_tree.field-0.0)) c.entry-inner.ensures
    c.in_err-push_tree.ensures.adds))

pub push_below-returns-clause-adds : goal.push_below-returns-clause-adds
push_below-returns-clause-adds g t c =
    entries_all c.args.source.now.users.now (state c.args.source.now.kernel.now) c.args.path.now c.args.listing
    (drop c.entries.entry-index c.deref-entry-items.result.now) c.args.tree.now.items c.entries.tree.items
    (none_left c.deref-entry-items.result.now c.entries.entry-index (omega arith)) c.entries.invariant

pub push_tree-returns-in-Directory-clause-adds : goal.push_tree-returns-in-Directory-clause-adds
push_tree-returns-in-Directory-clause-adds g t c =
    adds_directory c.args.source.now.users.now (state c.args.source.now.kernel.now) c.args.path.now c.args.target c.in-Directory.field-0
    c.in-Directory.listing c.in-Directory.is c.in_ok-node.node c.in_ok-node.ensures.finds c.args.tree.now.items _ _ _
    c.in_ok-push.ensures.items c.push_below.ensures.adds

pub push_tree-returns-in_err-node-clause-adds : goal.push_tree-returns-in_err-node-clause-adds
push_tree-returns-in_err-node-clause-adds g t c =
    no_node c.args.source.now.users.now (state c.args.source.now.kernel.now) c.args.path.now c.args.target c.args.tree.now.items
    c.args.tree.now.items c.in_err-node.field-0.0 c.from_residual.result c.from_residual.ensures.1
    c.in_err-node.ensures.finds
