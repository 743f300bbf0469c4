-- Proves the goals of `shown_class` of src/shown.rt that the search leaves open.
use Rattle.std.proofs.Common.{◌≡◌, ℕ, ◌+◌, ◌<◌, ◌≤◌, length, get_or, [], arith, sym, ap, ◌∙◌, subst}
use Rattle.std.specs.Prelude.{◌&&◌}
use Rattle.std.proofs.lemmas.Option.{get_or_from_slice_get, slice_get-get_or}
use Rattle.histar_level.specs.Levels.{level_of}
use Rattle.histar_layout.specs.Categories.{read_category, write_category}
use Rattle.histar_layout.specs.ShownClass.{class_at, class_shown, group_class_from, is_plain_level, is_unnamed}
use Rattle.histar_layout.specs.UserTable.{called}
use Rattle.histar_layout.proofs.ShownSteps.{passed_over, revealed_here, revealed_last}
use Rattle.histar_layout.proofs.shown.shown_class.Goals as goal
use Rattle.histar_layout.proofs.shown.shown_class.Goals.{After-are_plain}

-- the place of the user is one of a user
below : (c : After-are_plain) → c.loop-place.place < length c.args.users.now.users
below c = subst (λ (n : ℕ). c.loop-place.place < n) c.len-place-end.ensures.len c.loop-place-test.true

-- the levels are those at the two categories of the user
read_is : (c : After-are_plain) → c.get-read.result ≡ level_of c.args.label.now (read_category (c.loop-place.place + 1))
read_is c = c.get-read.ensures ∙ ap (level_of c.args.label.now) c.read_category.ensures

write_is : (c : After-are_plain) → c.get-write.result ≡ level_of c.args.label.now (write_category (c.loop-place.place + 1))
write_is c = c.get-write.ensures ∙ ap (level_of c.args.label.now) c.write_category.ensures

-- the test is whether the label doesn't name the user
test_is : (c : After-are_plain) → is_unnamed c.args.label.now (c.loop-place.place + 1) ≡ c.are_plain.result
test_is c = (λ i. is_plain_level (sym (read_is c) i) && is_plain_level (sym (write_is c) i)) ∙ sym c.are_plain.ensures

pub loop-place-preserved : goal.loop-place-preserved
loop-place-preserved c =
    let here = (goal.at.loop-place-preserved c).After-are_plain in
    let user = get_or c.args.users.now.users c.loop-place.place (called []) in
    let at : user ≡ get_or c.args.users.now.users c.loop-place.place user =
    sym (get_or_from_slice_get c.args.users.now.users c.loop-place.place user user
    (slice_get-get_or c.args.users.now.users c.loop-place.place (called []) (below here))) in
    c.loop-place.invariant ∙ passed_over c.args.label.now c.args.users.now.groups c.args.users.now.users c.loop-place.place user (below here) at
    (test_is here ∙ c.if-not-are_plain.false)

pub returns-then-not-are_plain : goal.returns-then-not-are_plain
unfolding class_shown
returns-then-not-are_plain c =
    let here = (goal.at.returns-then-not-are_plain c).After-are_plain in
    let user = called c.name_at.result in
    let at : user ≡ get_or c.args.users.now.users c.loop-place.place user = sym
    (get_or_from_slice_get c.args.users.now.users c.loop-place.place user user c.name_at.ensures) in
    c.class_at.ensures ∙ (λ i. class_at user.name (read_is here i) (write_is here i))
    ∙ sym (c.loop-place.invariant ∙ revealed_here c.args.label.now c.args.users.now.groups c.args.users.now.users c.loop-place.place user
    (below here) at (test_is here ∙ c.if-not-are_plain.true))

pub returns : goal.returns
unfolding class_shown
returns c =
    let end : length c.args.users.now.users ≤ c.loop-place.place = subst (λ (n : ℕ). n ≤ c.loop-place.place) c.len-place-end.ensures.len
    c.loop-place-test.false in
    let last : c.loop-place.place ≤ length c.args.users.now.users =
    subst (λ (n : ℕ). c.loop-place.place ≤ n) c.len-place-end.ensures.len c.loop-place.auto.place-end in
    let place : c.loop-place.place ≡ length c.args.users.now.users = omega (arith, end, last) in
    c.shown_group.ensures ∙ ap (λ (k : ℕ). group_class_from c.args.label.now (k + 1) c.args.users.now.groups) (sym place)
    ∙ sym (c.loop-place.invariant ∙ revealed_last c.args.label.now c.args.users.now.groups c.args.users.now.users c.loop-place.place end)
