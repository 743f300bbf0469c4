-- Proves the goals of `pages_nest` of src/page.rt that the search leaves open.
use Rattle.histar_page.proofs.Nests as nests
use Rattle.histar_page.proofs.page.pages_nest.Goals as goal

pub returns : goal.returns
returns c = nests.pages_nest
