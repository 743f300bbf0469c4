-- Proves the goals of `read_names` of src/readers.rt that the search leaves open.
use Rattle.std.proofs.Common.{◌≡◌, ◌+◌, ◌-◌, ◌<◌, [], Some, None, sym, ap, subst, ◌∙◌, arith}
use Rattle.std.specs.Option.{option_copied}
use Rattle.histar_flat.specs.Words.{slash, split_at_first, name_of, path_from}
use Rattle.histar_flat.proofs.PathLemmas.{no_name, last_name, next_name}
use Rattle.histar_flat.proofs.readers.read_names.Goals as goal
use Rattle.histar_flat.proofs.readers.read_names.Goals.{In_ok-read_name}

pub returns-in_err-read_name : goal.returns-in_err-read_name
returns-in_err-read_name c =
    let none : name_of (split_at_first slash c.loop.rest.now).0 ≡ None =
    ap name_of (sym c.split_at_first.ensures.before) ∙ sym c.read_name.ensures ∙ c.in_err-read_name.was in
    c.from_residual.ensures ∙ sym (no_name (8 - c.loop.counter) c.loop.path c.loop.rest.now none) ∙ c.loop.invariant.0

-- the word before the slash is the name
word_is : (c : In_ok-read_name) → name_of (split_at_first slash c.loop.rest.now).0 ≡ Some c.in_ok-read_name.field-0
word_is c = ap name_of (sym c.split_at_first.ensures.before) ∙ sym c.read_name.ensures ∙ c.in_ok-read_name.was

-- one more name may come
one_left : (c : In_ok-read_name) → 0 < 8 - c.loop.counter
one_left c = omega (arith, c.loop-test.true)

pub returns-in-None : goal.returns-in-None
returns-in-None c =
    let here = (goal.at.returns-in-None c).In_ok-read_name in
    let end : (split_at_first slash c.loop.rest.now).1 ≡ None = sym c.split_at_first.ensures.after ∙ ap option_copied c.in-None.is in
    ap (λ path. Some path) c.enter.ensures
    ∙ sym (last_name (8 - c.loop.counter) c.loop.path c.loop.rest.now c.in_ok-read_name.field-0 (one_left here) (word_is here) end)
    ∙ c.loop.invariant.0

pub loop-preserved : goal.loop-preserved
loop-preserved c =
    let names = c.in-Some.names.now in
    let on : (split_at_first slash c.loop.rest.now).1 ≡ Some names = sym c.split_at_first.ensures.after ∙ ap option_copied c.in-Some.is in
    let less : 8 - (c.loop.counter + 1) ≡ 8 - c.loop.counter - 1 = omega arith in
    rw (c.enter.ensures, less) (
      sym (next_name (8 - c.loop.counter) c.loop.path c.loop.rest.now names c.in_ok-read_name.field-0
          (one_left (goal.at.loop-preserved c).In_ok-read_name) (word_is (goal.at.loop-preserved c).In_ok-read_name) on) ∙ c.loop.invariant.0,
      omega (arith, c.loop.invariant.1),
    )

pub returns : goal.returns
unfolding path_from
returns c =
    let none : 8 - c.loop.counter ≡ 0 = omega (arith, c.loop-test.false) in
    subst (λ left. path_from left c.loop.path c.loop.rest.now ≡ path_from 8 [] c.args.text.now) none c.loop.invariant.0
