-- A path leads to one target at most.
use Rattle.std.specs.Prelude.{ℕ, [], ◌∷◌}
use Rattle.std.proofs.Common.{sym, ap, ◌∙◌, subst}
use Rattle.std.proofs.lemmas.Option.{same_Some}
use Rattle.std.specs.FinMap as map
use Rattle.histar_syscall.specs.KernelModel.{lent_bytes}
use Rattle.histar_layout.specs.Directory.{Entries, IsDirectory}
use Rattle.histar_layout.proofs.DirectoryLemmas.{same_directory}
use Rattle.histar_layout.specs.declared.entry.Target.TheVariants.{Directory}
use Rattle.histar_refinement.proofs.SameLines.{listing_in}
use Rattle.histar_readout.specs.Laws.{PathsLeadToOneTarget}

-- a path leads to one target at most
pub paths_lead_to_one_target : PathsLeadToOneTarget
paths_lead_to_one_target s roots [] a b x y = x ∙ sym y
paths_lead_to_one_target s roots (name ∷ d) a b x y =
    let above = paths_lead_to_one_target s roots d (Directory x.0 x.1) (Directory y.0 y.1) x.3 y.3 in
    let listed : IsDirectory (lent_bytes s x.1) y.2 =
    subst (λ (g : ℕ). IsDirectory (lent_bytes s g) y.2) (sym (ap listing_in above)) y.4 in
    let same = same_directory (lent_bytes s x.1) x.2 y.2 x.4 listed in
    same_Some a b (sym x.5 ∙ ap (λ (dir : Entries). map.get dir name) same ∙ y.5)
