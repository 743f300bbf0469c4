-- Proves the goals of `compare_all` of src/jobs.rt that the search leaves open.
use Rattle.std.proofs.Common.{[], ap, ◌∙◌}
use Rattle.histar_script.specs.Script.{ScriptModel}
use Rattle.histar_comparison.proofs.Verdicts.{can_run, read_again}
use Rattle.histar_comparison.proofs.jobs.compare_all.Goals as goal

pub run_whole-requires : goal.run_whole-requires
run_whole-requires g c = can_run [] c.args.text.now c.in_ok-script.script c.in_ok-script.ensures.exact

pub compare_each-requires : goal.compare_each-requires
compare_each-requires g c =
    let script = c.in_ok-script.script in
    let again = read_again c.args.text.now script c.in_ok-read_script.field-0 c.in_ok-script.ensures.exact c.in_ok-read_script.ensures.exact in
    record {
      script = script;
      is_read = c.in_ok-script.ensures.exact;
      calls_are = c.as_slice.ensures.value ∙ c.into_parts-accounts.ensures.calls ∙ ap (λ (s : ScriptModel). s.calls) again;
      is = c.in_ok-whole.ensures.ok;
    }
