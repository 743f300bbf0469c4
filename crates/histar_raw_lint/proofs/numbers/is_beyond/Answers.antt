-- Proves the goals of `is_beyond` of src/numbers.rt that the search leaves open.
use Rattle.std.proofs.Common.{◌≡◌, false, ltb, leb, not, ℕ, Option, sym, ap, ◌∙◌, arith}
use Rattle.std.specs.Option.{option_map_or}
use Rattle.std.proofs.lemmas.Bool.Decides.{nat_tests}
use Rattle.histar_raw_lint.proofs.NumbersKept.{beyond_is}
use Rattle.histar_raw_lint.proofs.numbers.is_beyond.Goals as goal

pub returns-in-Some : goal.returns-in-Some
returns-in-Some c =
    let tested : ltb c.args.most c.in-Some.number ≡ not (leb c.in-Some.number c.args.most) = grind (arith, nat_tests) in
    tested ∙ ap (λ (o : Option ℕ). not (option_map_or (λ n. leb n c.args.most) o false)) c.in-Some.ensures
    ∙ sym (beyond_is c.args.most c.args.word.now (omega (arith, c.ranges.most.fits)))

pub returns-in-None : goal.returns-in-None
returns-in-None c =
    ap (λ (o : Option ℕ). not (option_map_or (λ n. leb n c.args.most) o false)) c.in-None.ensures
    ∙ sym (beyond_is c.args.most c.args.word.now (omega (arith, c.ranges.most.fits)))
