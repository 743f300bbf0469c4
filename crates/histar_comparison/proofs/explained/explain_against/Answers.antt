-- Proves the goals of `explain_against` of src/explained.rt that the search leaves open.
use Rattle.std.proofs.Common.{◌≡◌, ℕ, true, false, refl, sym, ap, ap₂, subst, ◌∙◌, rules}
use Rattle.std.specs.Prelude.{Option}
use Rattle.histar_script.specs.Script.{without_job}
use Rattle.histar_noninterference.proofs.TreeLines.{finds_first_path}
use Rattle.histar_noninterference.specs.Replies.{first_shown}
use Rattle.histar_noninterference.specs.declared.verdict.Verdict.TheVariants.{NoJob}
use Rattle.histar_comparison.specs.Compared.{difference}
use Rattle.histar_comparison.specs.Explained.{IsReleased, seen_of}
use Rattle.histar_comparison.specs.Observation.{CanRun, ObservationModel, observation}
use Rattle.histar_comparison.proofs.Explanations.{explained_as, released_found, seen_printed, verdict_is}
use Rattle.histar_comparison.proofs.Verdicts.{can_run, compared_found, compared_none, none_released, read_again, released_is, rest_runs}
use Rattle.histar_comparison.proofs.explained.explain_against.Goals as goal

-- the first line by which two runs differ for the process that started the job
abbrev release : ObservationModel → ObservationModel → Option ℕ
release first second = first_shown first.replies.revealing second.replies.revealing

pub returns-then-not-is_started-clause-exact : goal.returns-then-not-is_started-clause-exact
returns-then-not-is_started-clause-exact g c =
    let none : c.first.inside.replies.is_started ≡ false = search rules in
    let seen = ap (λ (o : ObservationModel). o.replies.is_started) (sym c.first.view_is) ∙ none in
    let found = compared_none c.args.job.now c.args.text.now c.requires.script c.requires.is_read c.args.first.now
    c.requires.is seen in
    let seen_none = sym (ap (λ (o : ObservationModel). o.replies.is_started) c.requires.is) ∙ seen in
    explained_as c.args.job.now c.args.text.now c.requires.script c.requires.is_read NoJob _ _ _
    (verdict_is c.args.job.now c.args.text.now c.requires.script c.requires.is_read NoJob found) (search rules) (search rules)
    (none_released c.args.job.now c.requires.script seen_none)

pub observe-requires : goal.observe-requires
observe-requires g c =
    let script = c.in_ok-read_script.field-0 in
    subst CanRun (sym c.without-rest.ensures)
    (rest_runs c.args.job.now script (can_run c.args.job.now c.args.text.now script c.in_ok-read_script.ensures.exact))

pub returns-clause-exact : goal.returns-clause-exact
returns-clause-exact g c =
    let text = c.args.text.now in
    let read = c.requires.is_read in
    let v = difference c.args.first.now c.in_ok-second.second in
    let some : c.first.inside.replies.is_started ≡ true = search rules in
    let seen = ap (λ (o : ObservationModel). o.replies.is_started) (sym c.first.view_is) ∙ some in
    let again = read_again text c.requires.script c.in_ok-read_script.field-0 read c.in_ok-read_script.ensures.exact in
    let second = c.in_ok-second.ensures.ok ∙ ap (observation c.args.job.now) (c.without-rest.ensures ∙ ap (without_job c.args.job.now) again) in
    let found = compared_found c.args.job.now text c.requires.script read finds_first_path c.args.first.now c.in_ok-second.second
    c.requires.is second
    seen v refl in
    let with_job = ap (λ (o : ObservationModel). seen_of o v) c.requires.is ∙ seen_printed c.args.job.now c.requires.script v in
    let without = ap (λ (o : ObservationModel). seen_of o v) second ∙ seen_printed c.args.job.now (without_job c.args.job.now c.requires.script) v
    in
    rw c.in_ok-explain_difference.ensures.ok
    (explained_as c.args.job.now text c.requires.script read v _ _ _ (verdict_is c.args.job.now text c.requires.script read v found) with_job
    without (ap₂ release c.requires.is second ∙ released_is c.args.job.now c.requires.script))

pub returns-clause-released : goal.returns-clause-released
returns-clause-released g c =
    let some : c.first.inside.replies.is_started ≡ true = search rules in
    let seen = ap (λ (o : ObservationModel). o.replies.is_started) (sym c.first.view_is) ∙ some in
    let again = read_again c.args.text.now c.requires.script c.in_ok-read_script.field-0 c.requires.is_read
    c.in_ok-read_script.ensures.exact in
    let second = c.in_ok-second.ensures.ok ∙ ap (observation c.args.job.now) (c.without-rest.ensures ∙ ap (without_job c.args.job.now) again) in
    subst IsReleased (sym c.in_ok-explain_difference.ensures.ok) (released_found c.args.job.now c.args.text.now c.requires.script
    c.requires.is_read c.args.first.now c.in_ok-second.second c.requires.is second seen)
