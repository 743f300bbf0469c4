-- Proves the goals of `reading_is_grammar` of src/script_laws.rt that the search leaves open.
use Rattle.histar_script.proofs.ScriptsBack.{found_from, again_from}
use Rattle.histar_script.proofs.script_laws.reading_is_grammar.Goals as goal

pub returns : goal.returns
returns c = λ text s. (found_from text s, again_from text s)
