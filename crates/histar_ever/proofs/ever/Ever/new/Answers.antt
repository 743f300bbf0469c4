-- Proves the goal of `Ever::new` of src/ever.rt that the search leaves open.
use Rattle.histar_ever.proofs.Gathered.{nothing_gathered}
use Rattle.histar_ever.proofs.ever.Ever.new.Goals as goal

pub returns : goal.returns
returns c accounts = nothing_gathered accounts _ c.new.ensures.empty c.new-2.ensures.empty c.new-3.ensures.empty
