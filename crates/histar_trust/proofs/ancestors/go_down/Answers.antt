-- Proves the goals of `go_down` of src/ancestors.rt that the search leaves open.
use Rattle.std.proofs.Common.{[], ◌∷◌, ◌++◌, ◌∙◌, ap, sym, take}
use Rattle.std.specs.Prelude.{length, map}
use Rattle.std.proofs.lemmas.List.{map-append, take-map}
use Rattle.histar_trust.specs.Findings.{named_jobs}
use Rattle.histar_trust.proofs.ancestors.go_down.Goals as goal

pub returns : goal.returns
returns c =
    let before = c.args.ancestors.now.items in
    let name = c.args.node.now.name in
    let kept = ap (map named_jobs) (c.truncate.ensures.items ∙ ap (λ (numbers : _). take (length numbers) before) c.numbers.ensures.value)
    ∙ sym (take-map named_jobs _ before) in
    ap (map named_jobs) c.in_ok-push.ensures.items ∙ map-append named_jobs _ (_ ∷ [])
    ∙ (λ i. kept i ++ (name, (c.in_ok-jobs.ensures ∙ c.as_slice.ensures) i) ∷ [])
