-- Proves the goals of `push_in_job` of src/sentences.rt that the search leaves open.
use Rattle.std.proofs.Common.{◌++◌, sym, append_assoc}
use Rattle.std.specs.Prelude.{codes}
use Rattle.histar_flat.specs.Texts.{process_text}
use Rattle.histar_why.proofs.Lists.{joined}
use Rattle.histar_why.proofs.sentences.push_in_job.Goals as goal

pub returns : goal.returns
returns c =
    let inside = process_text c.args.me.now ++ codes " is in job " in
    let logs_in = codes ", and no process in a job logs in" in
    joined c.push_about_process-2.result c.args.text.now.items c.push_about_process.new.text.items c.push_about_process-2.new.text.items
    inside (process_text c.args.job.now ++ logs_in) _ c.in_ok-push_about_process.ensures c.push_about_process-2.ensures
    (sym (append_assoc inside (process_text c.args.job.now) logs_in))
