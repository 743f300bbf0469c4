-- Proves the goals of `each_call_has_a_form` of src/script_laws.rt that the search leaves open.
use Rattle.histar_script.proofs.FormsBack.{each_call_has_form}
use Rattle.histar_script.proofs.script_laws.each_call_has_a_form.Goals as goal

pub returns : goal.returns
returns c = each_call_has_form
