-- Proves the goals of `compare` of src/comparison.rt that the search leaves open.
use Rattle.std.proofs.Common.{◌≡◌, true, false, sym, ap, subst, ◌∙◌, rules}
use Rattle.histar_script.specs.Script.{without_job}
use Rattle.histar_noninterference.proofs.Isolated.{only_releases_differ}
use Rattle.histar_noninterference.proofs.TreeLines.{finds_first_path}
use Rattle.histar_comparison.specs.Observation.{CanRun, ObservationModel, observation}
use Rattle.histar_comparison.proofs.Verdicts.{can_run, compared_found, compared_none, quiet_is_same, read_again, rest_runs}
use Rattle.histar_comparison.proofs.comparison.compare.Goals as goal

pub observe-requires : goal.observe-requires
observe-requires g c = can_run c.args.job.now c.args.text.now c.in_ok-script.script c.in_ok-script.ensures.exact

pub returns-then-not-is_started-clause-exact : goal.returns-then-not-is_started-clause-exact
returns-then-not-is_started-clause-exact g c =
    let none : c.first.inside.replies.is_started ≡ false = search rules in
    let seen = ap (λ (o : ObservationModel). o.replies.is_started) (sym c.first.view_is) ∙ none in
    compared_none c.args.job.now c.args.text.now c.in_ok-script.script c.in_ok-script.ensures.exact c.in_ok-first.first c.in_ok-first.ensures.ok seen

pub returns-then-not-is_started-clause-isolated : goal.returns-then-not-is_started-clause-isolated
returns-then-not-is_started-clause-isolated g c quiet =
    quiet_is_same c.args.job.now only_releases_differ c.args.text.now _ quiet (returns-then-not-is_started-clause-exact g c)

pub observe-requires-2 : goal.observe-requires-2
observe-requires-2 g c =
    let script = c.in_ok-read_script.field-0 in
    subst CanRun (sym c.without-rest.ensures) (rest_runs c.args.job.now script
    (can_run c.args.job.now c.args.text.now script c.in_ok-read_script.ensures.exact))

pub returns-clause-exact : goal.returns-clause-exact
returns-clause-exact g c =
    let job = c.args.job.now in
    let some : c.first.inside.replies.is_started ≡ true = search rules in
    let seen = ap (λ (o : ObservationModel). o.replies.is_started) (sym c.first.view_is) ∙ some in
    let again =
    read_again c.args.text.now c.in_ok-script.script c.in_ok-read_script.field-0 c.in_ok-script.ensures.exact
    c.in_ok-read_script.ensures.exact in
    let second = c.in_ok-second.ensures.ok ∙ ap (observation job) (c.without-rest.ensures ∙ ap (without_job job) again) in
    compared_found job c.args.text.now c.in_ok-script.script c.in_ok-script.ensures.exact finds_first_path
    c.in_ok-first.first c.in_ok-second.second c.in_ok-first.ensures.ok second seen c.find_difference.result
    c.find_difference.ensures

pub returns-clause-isolated : goal.returns-clause-isolated
returns-clause-isolated g c quiet = quiet_is_same c.args.job.now only_releases_differ c.args.text.now c.find_difference.result quiet
    (returns-clause-exact g c)
