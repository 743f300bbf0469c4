-- Proves the goal of `colours_show_the_text` of src/output_laws.rt.
use Rattle.histar_output.proofs.ShownLemmas.{shown_text}
use Rattle.histar_output.proofs.output_laws.colours_show_the_text.Goals as goal

pub returns : goal.returns
returns c = shown_text
