-- Proves the goals of `remember` of src/intern_store.rt that the search leaves open.
use Rattle.histar_label.proofs.Remembered.{put_or_not}
use Rattle.histar_label.proofs.intern_store.remember.Goals as goal

pub returns : goal.returns
returns c = put_or_not c.put.result c.args.answers.now c.put.new.self c.args.comparison c.args.answer c.put.ensures.entries c.put.ensures.err
