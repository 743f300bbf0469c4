-- Proves the goals of `read_members` of src/groups.rt that the search leaves open.
use Rattle.std.proofs.Common.{◌≡◌, ◌+◌, ◌-◌, ◌<◌, [], ◌∷◌, Some, None, sym, ap, subst, ◌∙◌, arith, length-append}
use Rattle.std.specs.Option.{option_copied}
use Rattle.histar_flat.specs.Words.{user_name_of}
use Rattle.histar_script.specs.Lines.{split_word}
use Rattle.histar_script.specs.Reading.{members_from, members_of}
use Rattle.histar_script.proofs.Members.{no_member, last_member, next_member, no_room}
use Rattle.histar_script.proofs.groups.read_members.Goals as goal

pub returns-in_default-clause-names : goal.returns-in_default-clause-names
returns-in_default-clause-names g c =
    let none : user_name_of (split_word c.loop.rest.now).0 ≡ None =
    ap user_name_of (sym c.split_word.ensures.word) ∙ sym c.read_user_name.ensures ∙ c.in_default.is in
    sym (no_member (16 - c.loop.counter) c.loop.members.items c.loop.rest.now none) ∙ c.loop.invariant.so_far

pub returns-in-None-clause-names : goal.returns-in-None-clause-names
returns-in-None-clause-names g c =
    let is : user_name_of (split_word c.loop.rest.now).0 ≡ Some c.in-Some.name =
    ap user_name_of (sym c.split_word.ensures.word) ∙ sym c.read_user_name.ensures ∙ c.in-Some.is in
    let end : (split_word c.loop.rest.now).1 ≡ None = sym c.split_word.ensures.rest ∙ ap option_copied c.in-None.is in
    let left : 0 < 16 - c.loop.counter = omega (arith, c.loop-test.true) in
    ap (λ members. Some members) c.in_ok-push.ensures.items
    ∙ sym (last_member (16 - c.loop.counter) c.loop.members.items c.loop.rest.now c.in-Some.name left is end)
    ∙ c.loop.invariant.so_far

pub loop-preserved : goal.loop-preserved
loop-preserved g c =
    let names = c.in-Some-after.names.now in
    let is : user_name_of (split_word c.loop.rest.now).0 ≡ Some c.in-Some.name =
    ap user_name_of (sym c.split_word.ensures.word) ∙ sym c.read_user_name.ensures ∙ c.in-Some.is in
    let on : (split_word c.loop.rest.now).1 ≡ Some names = sym c.split_word.ensures.rest ∙ ap option_copied c.in-Some-after.is in
    let left : 0 < 16 - c.loop.counter = omega (arith, c.loop-test.true) in
    let less : 16 - (c.loop.counter + 1) ≡ 16 - c.loop.counter - 1 = omega arith in
    rw (c.in_ok-push.ensures.items, less) (record {
      so_far = sym (next_member (16 - c.loop.counter) c.loop.members.items c.loop.rest.now names c.in-Some.name left is on) ∙ c.loop.invariant.so_far;
      counted = length-append c.loop.members.items (c.in-Some.name ∷ []) ∙ ap (λ n. n + 1) c.loop.invariant.counted;
    })

pub returns-clause-names : goal.returns-clause-names
returns-clause-names g c =
    let none : 16 - c.loop.counter ≡ 0 = omega (arith, c.loop-test.false) in
    sym (no_room c.loop.members.items c.loop.rest.now)
    ∙ subst (λ left. members_from left c.loop.members.items c.loop.rest.now ≡ members_of c.args.text.now) none
    c.loop.invariant.so_far
