-- Proves the goals of `write_reply` of src/session.rt that the search leaves open.
use Rattle.histar_raw_explain.proofs.Errors.{on_err}
use Rattle.histar_why.proofs.Turns.{front_none}
use Rattle.histar_why.proofs.session.write_reply.Goals as goal

pub returns-in_err-set_reply_line-clause-err : goal.returns-in_err-set_reply_line-clause-err
returns-in_err-set_reply_line-clause-err g c = on_err _ _ (front_none _ _)
