-- Proves the goals of `shown_group` of src/shown.rt that the search leaves open.
use Rattle.std.proofs.Common.{◌≡◌, ℕ, ◌+◌, ◌<◌, ◌≤◌, length, get_or, drop, List, true, false, arith, sym, ap, ◌∙◌, subst}
use Rattle.std.specs.Prelude.{◌&&◌}
use Rattle.histar_flat.specs.Accounts.{Group}
use Rattle.histar_level.specs.Levels.{level_of}
use Rattle.histar_layout.specs.Categories.{read_category, write_category}
use Rattle.histar_layout.specs.ShownClass.{group_class_at, group_class_from, is_plain_level, is_unnamed}
use Rattle.histar_layout.proofs.ShownSteps.{behind, group_passed_over, group_revealed_here, group_revealed_last}
use Rattle.histar_layout.proofs.shown.shown_group.Goals as goal
use Rattle.histar_layout.proofs.shown.shown_group.Goals.{After-are_plain, After-is_all_plain}

-- the place of the group is one of a group
below : (c : After-are_plain) → c.loop-place.place < length c.args.users.now.groups
below c = subst (λ (groups : List Group). c.loop-place.place < length groups) c.groups-groups.ensures.groups c.loop-place-test.true

-- the group is the one at its place
is_at : (c : After-are_plain) → c.index-groups-place.result ≡ get_or c.args.users.now.groups c.loop-place.place c.index-groups-place.result
is_at c =
    subst (λ (groups : List Group). c.index-groups-place.result ≡ get_or groups c.loop-place.place c.index-groups-place.result)
    c.groups-groups.ensures.groups c.index-groups-place.is

-- the number of the group comes behind those of the users
number_is : (c : After-are_plain) → c.group_owner-number.result ≡ length c.args.users.now.users + 1 + c.loop-place.place
number_is c =
    c.group_owner-number.ensures ∙ ap (λ (n : ℕ). n + (c.loop-place.place + 1)) c.len.ensures.len
    ∙ behind (length c.args.users.now.users) c.loop-place.place

-- the levels are those at the two categories of the group
read_is : (c : After-are_plain)
    → c.get-read.result ≡ level_of c.args.label.now (read_category (length c.args.users.now.users + 1 + c.loop-place.place))
read_is c = c.get-read.ensures ∙ ap (level_of c.args.label.now) (c.read_category.ensures ∙ ap read_category (number_is c))

write_is : (c : After-are_plain)
    → c.get-write.result ≡ level_of c.args.label.now (write_category (length c.args.users.now.users + 1 + c.loop-place.place))
write_is c = c.get-write.ensures ∙ ap (level_of c.args.label.now) (c.write_category.ensures ∙ ap write_category (number_is c))

-- the test is whether the label doesn't name the group
test_is : (c : After-are_plain) → is_unnamed c.args.label.now (length c.args.users.now.users + 1 + c.loop-place.place) ≡ c.are_plain.result
test_is c = (λ i. is_plain_level (sym (read_is c) i) && is_plain_level (sym (write_is c) i)) ∙ sym c.are_plain.ensures

pub loop-place-preserved : goal.loop-place-preserved
loop-place-preserved c =
    let here = (goal.at.loop-place-preserved c).After-are_plain in
    let next : length c.args.users.now.users + 1 + c.loop-place.place + 1
    ≡ length c.args.users.now.users + 1 + (c.loop-place.place + 1) =
    omega arith in
    c.loop-place.invariant
    ∙ group_passed_over c.args.label.now (length c.args.users.now.users + 1) c.args.users.now.groups c.loop-place.place c.index-groups-place.result
    (below here) (is_at here) (test_is here ∙ c.if-not-are_plain.false)
    ∙ ap (λ (first : ℕ). group_class_from c.args.label.now first (drop (c.loop-place.place + 1) c.args.users.now.groups)) next

pub returns-then-not-are_plain : goal.returns-then-not-are_plain
returns-then-not-are_plain c =
    let here = (goal.at.returns-then-not-are_plain c).After-are_plain in
    c.group_class_at.ensures ∙ (λ i. group_class_at (c.name.ensures i) (read_is here i) (write_is here i))
    ∙ sym (c.loop-place.invariant
    ∙ group_revealed_here c.args.label.now (length c.args.users.now.users + 1) c.args.users.now.groups c.loop-place.place
    c.index-groups-place.result (below here) (is_at here) (test_is here ∙ c.if-not-are_plain.true))

-- at the end no group is left
at_end : (c : After-is_all_plain) → length c.args.users.now.groups ≤ c.loop-place.place
at_end c = subst (λ (groups : List Group). length groups ≤ c.loop-place.place) c.groups-groups.ensures.groups c.loop-place-test.false

pub returns-then-is_all_plain : goal.returns-then-is_all_plain
returns-then-is_all_plain c =
    sym (c.loop-place.invariant
    ∙ group_revealed_last c.args.label.now (length c.args.users.now.users + 1) c.args.users.now.groups
    c.loop-place.place true (at_end (goal.at.returns-then-is_all_plain c).After-is_all_plain) (sym c.is_all_plain.ensures ∙ c.if-is_all_plain.true))

pub returns-else-is_all_plain : goal.returns-else-is_all_plain
returns-else-is_all_plain c =
    sym (c.loop-place.invariant
    ∙ group_revealed_last c.args.label.now (length c.args.users.now.users + 1) c.args.users.now.groups
    c.loop-place.place false (at_end (goal.at.returns-else-is_all_plain c).After-is_all_plain) (sym c.is_all_plain.ensures ∙ c.if-is_all_plain.false))
