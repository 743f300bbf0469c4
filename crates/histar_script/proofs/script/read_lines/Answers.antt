-- Proves the goals of `read_lines` of src/script.rt that the search leaves open.
use Rattle.std.proofs.Common.{◌≡◌, eqb, true, false, length, refl, rules}
use Rattle.histar_script.proofs.ReadingLemmas.{at_end}
use Rattle.histar_script.proofs.script.read_lines.Goals as goal

pub returns-then-is_empty-clause-ok : goal.returns-then-is_empty-clause-ok
returns-then-is_empty-clause-ok g c =
    let none : length c.loop-rest.rest.now ≡ 0 = search rules in
    let no_users : eqb (length c.loop-rest.script.accounts.users) 0 ≡ true = search rules in
    rw (at_end c.loop-rest.script c.loop-rest.count c.loop-rest.rest.now _ none c.loop-rest.invariant.so_far, no_users) refl

pub returns-clause-ok : goal.returns-clause-ok
returns-clause-ok g c =
    let none : length c.loop-rest.rest.now ≡ 0 = search rules in
    let some_user : eqb (length c.loop-rest.script.accounts.users) 0 ≡ false = search rules in
    rw (at_end c.loop-rest.script c.loop-rest.count c.loop-rest.rest.now _ none c.loop-rest.invariant.so_far, some_user) refl
