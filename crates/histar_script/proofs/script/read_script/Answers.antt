-- Proves the goals of `read_script` of src/script.rt that the search leaves open.
use Rattle.histar_script.proofs.Answered.{is_found, is_read, declares, is_numbered, is_first_bad}
use Rattle.histar_script.proofs.script.read_script.Goals as goal

pub returns-clause-found : goal.returns-clause-found
returns-clause-found g c = is_found c.read_lines.result c.args.text.now c.read_lines.ensures.ok

pub returns-clause-only : goal.returns-clause-only
returns-clause-only g c = λ script short is. is_read c.read_lines.result c.args.text.now script c.read_lines.ensures.ok is

pub returns-clause-bad : goal.returns-clause-bad
returns-clause-bad g c = λ n e. is_first_bad c.read_lines.result c.args.text.now n c.read_lines.ensures.ok e

pub returns-clause-declared : goal.returns-clause-declared
returns-clause-declared g c = declares c.read_lines.result c.args.text.now c.read_lines.ensures.ok

pub returns-clause-numbered : goal.returns-clause-numbered
returns-clause-numbered g c = is_numbered c.read_lines.result c.args.text.now c.read_lines.ensures.ok
