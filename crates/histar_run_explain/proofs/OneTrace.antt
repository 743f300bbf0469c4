-- The explained trace is the one that `run` returns.
use Rattle.std.proofs.Common.{◌≡◌, Result, Ok, sym, ◌∙◌, subst}
use Rattle.histar_script.specs.Reading.{script_of}
use Rattle.histar_script.specs.Script.{ScriptModel}
use Rattle.histar_script.specs.declared.fault.Fault.{Fault}
use Rattle.histar_shell.specs.OneTrace.{IsAnsweredTrace}
use Rattle.histar_shell.proofs.SameTraces.{one_trace}
use Rattle.histar_run_explain.specs.Laws.{ExplainsTheTrace}

-- what is read is one script
read_once : (read : Result ScriptModel Fault) (x y : ScriptModel) → read ≡ Ok x → read ≡ Ok y → x ≡ y
read_once read x y h k = let same : Ok x ≡ Ok y = sym h ∙ k in cc

pub explains_the_trace : ExplainsTheTrace
explains_the_trace running explaining text old new before after trace runs explained =
    let here = runs.answers in
    let there = explained.writes in
    let script : here.script ≡ there.script = read_once (script_of text) here.script there.script here.is_read there.is_read in
    one_trace there.script there.explained.trace trace there.explained.explains.answered
    (subst (λ (s : ScriptModel). IsAnsweredTrace s trace) script
    (record {
      start = here.start;
      starts = here.starts;
      answers = here.answered.answers;
      each = here.answered.each;
      end = here.end;
      in_turn = here.answered.in_turn;
      recorded = here.recorded;
    }))
