-- Proves the goals of `push_unknown` of src/sentences.rt that the search leaves open.
use Rattle.std.proofs.Common.{◌++◌, sym, append_assoc}
use Rattle.std.specs.Prelude.{codes}
use Rattle.histar_flat.specs.Texts.{process_text}
use Rattle.histar_reasons.specs.Sentences.{unknown_text}
use Rattle.histar_why.proofs.Lists.{joined}
use Rattle.histar_why.proofs.sentences.push_unknown.Goals as goal

pub returns : goal.returns
returns c =
    joined c.push_about_process-2.result c.args.text.now.items c.push_about_process.new.text.items c.push_about_process-2.new.text.items
    (process_text c.args.me.now ++ codes " neither is in job ") (process_text c.args.job.now ++ codes " nor holds it")
    (unknown_text c.args.me.now c.args.job.now) c.in_ok-push_about_process.ensures c.push_about_process-2.ensures
    (sym (append_assoc (process_text c.args.me.now ++ codes " neither is in job ") (process_text c.args.job.now) (codes " nor holds it")))
