-- Proves the goals of `go_on` of src/way.rt that the search leaves open.
use Rattle.std.proofs.Common.{[], ◌∷◌, ◌++◌, ◌∙◌, ap, sym, take}
use Rattle.std.specs.Prelude.{map}
use Rattle.std.proofs.lemmas.List.{map-append, take-map}
use Rattle.histar_secrecy.specs.ShownRoles.{flat_class}
use Rattle.histar_trust.proofs.way.go_on.Goals as goal

pub returns : goal.returns
returns c =
    let way = c.args.way.now.items in
    let kept = ap (map flat_class) (c.truncate.ensures.items ∙ ap (λ n. take n way) c.depth.ensures.value)
    ∙ sym (take-map flat_class _ way) in
    ap (map flat_class) c.in_ok-push.ensures.items ∙ map-append flat_class _ (_ ∷ []) ∙ (λ i. kept i ++ c.in_ok-class.ensures i ∷ [])
