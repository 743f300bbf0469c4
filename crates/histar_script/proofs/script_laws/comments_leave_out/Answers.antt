-- Proves the goals of `comments_leave_out` of src/script_laws.rt that the search leaves open.
use Rattle.histar_script.proofs.LeftOut as lemma
use Rattle.histar_script.proofs.script_laws.comments_leave_out.Goals as goal

pub returns : goal.returns
returns c = lemma.comments_leave_out
