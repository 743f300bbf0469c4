-- Proves the goals of `FoundEntry::renamed` of src/entry.rt that the search leaves open.
use Rattle.std.proofs.Common.{◌<◌, sym, subst}
use Rattle.std.specs.FinMap as map
use Rattle.histar_layout.specs.Directory.{Entries}
use Rattle.histar_layout.proofs.MapLemmas.{room_without}
use Rattle.histar_moves.proofs.TakingAway.{leads_somewhere}
use Rattle.histar_moves.proofs.entry.FoundEntry.renamed.Goals as goal

pub insert-requires-clause-room : goal.insert-requires-clause-room
insert-requires-clause-room g c =
    subst (λ (dir : Entries). map.len dir < 64) (sym c.remove.ensures.without) (room_without _ _ _ c.remove.ensures.listable c.requires)

pub insert-requires-clause-leads : goal.insert-requires-clause-leads
insert-requires-clause-leads g c = leads_somewhere _ _ _ c.remove.ensures.listable c.requires
