-- Proves the goals of `who_words` of src/words.rt that the search leaves open.
use Rattle.histar_never.proofs.Parts.{middle}
use Rattle.histar_never.proofs.words.who_words.Goals as goal

pub returns-in-len3-up : goal.returns-in-len3-up
returns-in-len3-up c = middle (λ word. word.now) c.args.words.now
