-- Proves the goals of `Script::without` of src/script.rt that the search leaves open.
use Rattle.std.proofs.Common.{◌∙◌, List, ap, rules}
use Rattle.std.specs.Prelude.{not}
use Rattle.std.proofs.lemmas.Fn.{filter_same}
use Rattle.histar_flat.specs.declared.calls.CallLine.{CallLine}
use Rattle.histar_flat.specs.PathOrder.{under_process}
use Rattle.histar_script.specs.Script.{without_job}
use Rattle.histar_script.proofs.script.Script.without.Goals as goal

pub returns : goal.returns
returns c =
    let left =
    filter_same _ (λ (x : CallLine). not (under_process c.args.job.now x.process)) _ (λ x b f' k. search rules) _ _
    c.retain.ensures.filtered in
    let seen = ap (λ (calls : List CallLine). record { accounts = c.self.inside.accounts; calls = calls }) left in
    seen ∙ ap (without_job c.args.job.now) c.self.view_is
