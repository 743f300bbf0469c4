-- Proves the goals of `InternStoreLabelStore::get` of src/intern_store.rt that the search leaves open.
use Rattle.histar_label.proofs.intern_store.InternStoreLabelStore.get.Goals as goal

pub returns-clause-one_id : goal.returns-clause-one_id
returns-clause-one_id c = rw (← c.self.view_is) c.self.invariant.one_id
