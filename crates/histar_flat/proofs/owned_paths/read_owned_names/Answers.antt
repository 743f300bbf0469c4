-- Proves the goals of `read_owned_names` of src/owned_paths.rt that the search leaves open.
use Rattle.std.proofs.Common.{◌≡◌, ℕ, suc, ◌+◌, ◌-◌, ◌<◌, true, leb, ◌&&◌, IsTrue, List, [], ◌∷◌, ◌++◌, length}
use Rattle.std.proofs.Common.{Some, None, sym, ap, subst, ◌∙◌, arith}
use Rattle.std.specs.Prelude.{reverse}
use Rattle.std.specs.List.{list_all}
use Rattle.std.specs.Option.{option_copied}
use Rattle.std.proofs.lemmas.Bool.{and_parts, le-leb}
use Rattle.std.proofs.lemmas.List.{reverse-append}
use Rattle.std.proofs.lemmas.Option.{cond_some}
use Rattle.histar_flat.specs.Words.{Name, Path, is_name, is_path, slash, split_at_first, name_of, path_from}
use Rattle.histar_flat.proofs.PathLemmas.{no_name, last_name, next_name}
use Rattle.histar_flat.proofs.owned_paths.read_owned_names.Goals as goal
use Rattle.histar_flat.proofs.owned_paths.read_owned_names.Given as given
use Rattle.histar_flat.proofs.owned_paths.read_owned_names.Goals.{In-Some}

-- a path of fewer than eight names leads on to an entry
leads_on : (name : Name) (path : Path) → length path < 8 → is_name name ≡ true → IsTrue (is_path path) → IsTrue (is_path (name ∷ path))
leads_on name path few named right =
    let parts = and_parts (leb (length path) 8) (list_all is_name path) right in
    ap (λ b. b && (is_name name && list_all is_name path)) (le-leb (suc (length path)) 8 (omega arith))
    ∙ ap (λ b. b && list_all is_name path) named ∙ parts.1

-- the name that words spell is a name
spelled : (word : List ℕ) (name : Name) → name_of word ≡ Some name → is_name name ≡ true
spelled word name is =
    let found = cond_some (is_name word) word name is in
    ap is_name (sym found.1) ∙ found.0

-- a name behind others comes before them in a path
turned : (names more : List Name) (name : Name) → more ≡ names ++ name ∷ [] → reverse more ≡ name ∷ reverse names
turned names more name is = ap reverse is ∙ reverse-append names (name ∷ [])

pub returns-in_default-clause-ok : goal.returns-in_default-clause-ok
returns-in_default-clause-ok g c =
    let none : name_of (split_at_first slash c.loop.rest.now).0 ≡ None =
    ap name_of (sym c.split_at_first.ensures.before) ∙ sym c.read_name.ensures ∙ c.in_default.is in
    sym (no_name (8 - c.loop.counter) (reverse c.loop.names.items) c.loop.rest.now none) ∙ c.loop.invariant.0

-- the word before the slash is the name
word_is : (g : given.Over) (c : In-Some g) → name_of (split_at_first slash c.loop.rest.now).0 ≡ Some c.in-Some.name
word_is g c = ap name_of (sym c.split_at_first.ensures.before) ∙ sym c.read_name.ensures ∙ c.in-Some.is

-- one more name may come
one_left : (g : given.Over) (c : In-Some g) → 0 < 8 - c.loop.counter
one_left g c = omega (arith, c.loop-test.true)

pub returns-in-None-clause-ok : goal.returns-in-None-clause-ok
returns-in-None-clause-ok g c =
    let here = (goal.at.returns-in-None-clause-ok g c).In-Some in
    let end : (split_at_first slash c.loop.rest.now).1 ≡ None = sym c.split_at_first.ensures.after ∙ ap option_copied c.in-None.is in
    ap Some (c.along.ensures ∙ turned c.loop.names.items c.push.new.list.items c.in-Some.name c.in_ok-push.ensures.items)
    ∙ sym (last_name (8 - c.loop.counter) (reverse c.loop.names.items) c.loop.rest.now c.in-Some.name (one_left g here) (word_is g here) end)
    ∙ c.loop.invariant.0

pub loop-preserved : goal.loop-preserved
loop-preserved g c =
    let path = reverse c.loop.names.items in
    let others = c.in-Some-after.others.now in
    let on : (split_at_first slash c.loop.rest.now).1 ≡ Some others =
    sym c.split_at_first.ensures.after ∙ ap option_copied c.in-Some-after.is in
    let less : 8 - (c.loop.counter + 1) ≡ 8 - c.loop.counter - 1 = omega arith in
    let longer = turned c.loop.names.items c.push.new.list.items c.in-Some.name c.in_ok-push.ensures.items in (
      (λ i. path_from (less i) (longer i) others) ∙ sym (next_name (8 - c.loop.counter) path c.loop.rest.now others c.in-Some.name
          (one_left g (goal.at.loop-preserved g c).In-Some) (word_is g (goal.at.loop-preserved g c).In-Some) on)
          ∙ c.loop.invariant.0,
      ap length longer ∙ omega (arith, c.loop.invariant.1),
      subst (λ (p : Path). IsTrue (is_path p)) (sym longer)
          (leads_on c.in-Some.name path (omega (arith, c.loop.invariant.1, c.loop-test.true))
          (spelled (split_at_first slash c.loop.rest.now).0 c.in-Some.name (word_is g (goal.at.loop-preserved g c).In-Some)) c.loop.invariant.2),
    )

pub returns-clause-ok : goal.returns-clause-ok
unfolding path_from
returns-clause-ok g c =
    let none : 8 - c.loop.counter ≡ 0 = omega (arith, c.loop-test.false) in
    subst (λ left. path_from left (reverse c.loop.names.items) c.loop.rest.now ≡ path_from 8 [] c.args.text.now) none c.loop.invariant.0
