-- The two kinds of labels that Unix calls make: those of guarded objects, and those of threads and gates with rights.
use Rattle.std.specs.Prelude.{List, ◌++◌, map}
use Rattle.histar_level.specs.Levels.{Levels}
use Rattle.histar_layout.specs.Labelling.{guarded_by, owner_label, cleared_at}
use Rattle.histar_refinement.specs.Categories.{CategoryName, Categories}

-- how a segment or a container is guarded: a thread reads it only if it owns each secret category or has it at 3, and writes it only if it
-- owns each written one
pub record Guard : Type 0 where
  pub secret : List CategoryName
  pub written : List CategoryName

-- what a thread or a gate owns, and the categories that it has at 3
pub record Rights : Type 0 where
  pub owned : List CategoryName
  pub tainted : List CategoryName

-- the stored label of what has this guard
abbrev pub guard_label : Categories → Guard → Levels
guard_label category g = guarded_by (map category g.secret) (map category g.written)

-- the stored label of a thread or a gate with these rights
abbrev pub rights_label : Categories → Rights → Levels
rights_label category r = owner_label (map category r.owned) (map category r.tainted)

-- the clearance of a thread or a gate with these rights, which has at 3 all that it owns or has at 3
abbrev pub rights_clearance : Categories → Rights → Levels
rights_clearance category r = cleared_at (map category (r.owned ++ r.tainted))
