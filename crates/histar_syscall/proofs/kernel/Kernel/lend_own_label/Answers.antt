-- Proves the goals of `Kernel::lend_own_label` of src/kernel.rt that the search leaves open.
use Rattle.std.proofs.Common.{refl, sym, ap, subst, ◌∙◌}
use Rattle.std.specs.Option.{IsSome, option_copied}
use Rattle.histar_object.specs.Objects.{label_there}
use Rattle.histar_object.specs.State.{State}
use Rattle.histar_container.proofs.Keeping.{copied_some}
use Rattle.histar_syscall.proofs.kernel.Kernel.lend_own_label.Goals as goal

pub unwrap-requires : goal.unwrap-requires
unwrap-requires g c =
    let own = c.in_ok-ask_own_label.ensures.ok.1.1.0 in
    let still = own ∙ sym (ap (λ (s : State). label_there (s.objects c.args.thread)) c.in_ok-ask_own_label.ensures.ok.0.state) in
    copied_some _ _ c.label.ensures (subst IsSome still refl)

pub returns : goal.returns
returns g c =
    let labels = c.in_ok-ask_own_label.ensures.ok.1 in
    let own = ap option_copied (sym c.unwrap.ensures) ∙ c.label.ensures ∙ ap (λ (s : State). label_there (s.objects c.args.thread))
    c.in_ok-ask_own_label.ensures.ok.0.state in
    ((refl, (λ _. tt), (c.in_ok-ask_own_label.ensures.ok.0, (labels.0.1, (own, labels.1.1)))), record { lends = tt; memory = tt })
