-- Proves the goals of `push_number` of src/texts.rt that the search leaves open.
use Rattle.std.proofs.Common.{◌≡◌, ℕ, ◌+◌, ◌/◌, ◌%◌, ◌++◌, ◌∷◌, List, [], sym, ap, subst, ◌∙◌, OnOk, arith}
use Rattle.std.specs.Fmt.{decimal}
use Rattle.std.proofs.lemmas.Fmt.{decimal_digit, decimal_step}
use Rattle.std.proofs.lemmas.List.{append_assoc}
use Rattle.histar_texts.proofs.texts.push_number.Goals as goal

pub returns-in-0-to-9-clause-ok : goal.returns-in-0-to-9-clause-ok
returns-in-0-to-9-clause-ok g c =
    let n : ℕ = c.args.number in
    let digit = decimal_digit n (omega (arith, c.in-0-to-9)) in
    subst (λ (ds : List ℕ). OnOk c.push_digit.result (c.push_digit.new.text.items ≡ c.args.text.now.items ++ ds)) (sym digit)
    c.push_digit.ensures.ok

pub returns-in_ok-push_digit-in-10-to-99-clause-ok : goal.returns-in_ok-push_digit-in-10-to-99-clause-ok
returns-in_ok-push_digit-in-10-to-99-clause-ok g c =
    let n : ℕ = c.args.number in
    let text : List ℕ = c.args.text.now.items in
    let tens : List ℕ = (48 + n / 10) ∷ [] in
    let ones : List ℕ = (48 + n % 10) ∷ [] in
    let last = c.push_digit-in-10-to-99-2 in
    let spelled : decimal n ≡ tens ++ ones =
    decimal_step n (omega (arith, c.in-10-to-99)) (omega (arith, c.in-10-to-99))
    ∙ ap (λ ds. ds ++ ones) (decimal_digit (n / 10) (omega (arith, c.in-10-to-99))) in
    let whole =
    ap (λ ds. ds ++ ones) c.in_ok-push_digit-in-10-to-99.ensures.ok ∙ append_assoc text tens ones
    ∙ ap (λ ds. text ++ ds) (sym spelled) in
    subst (λ (all : List ℕ). OnOk last.result (last.new.text.items ≡ all)) whole last.ensures.ok
