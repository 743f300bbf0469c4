-- Proves the goals of `boot` of src/running.rt that the search leaves open.
use Rattle.std.proofs.Common.{refl, subst, sym}
use Rattle.histar_flat.specs.Meaning.{boot}
use Rattle.histar_names.specs.Births.{Births}
use Rattle.histar_why.specs.Names.{Knows}
use Rattle.histar_why.proofs.Naming.{known_at_start}
use Rattle.histar_dialogue.proofs.running.Running.boot.Goals as goal

pub returns-clause-ok : goal.returns-clause-ok
returns-clause-ok c = (
  refl,
  subst (λ (births : Births). Knows births c.args.accounts c.in-Ok.machine (boot c.args.accounts)) (sym c.new-2.ensures.births)
      (known_at_start c.args.accounts c.requires c.in-Ok.machine c.in-Ok.ensures.starts),
)
