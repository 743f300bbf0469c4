-- Labels by their exceptions: those of objects that their owners alone write or read, and those of owners.
use Rattle.std.specs.Prelude.{ℕ, List, [], ◌∷◌, ◌++◌}
use Rattle.histar_level.specs.declared.level.Level.{Level}
use Rattle.histar_level.specs.declared.level.Level.TheVariants.{Star, L0, L1, L2, L3}
use Rattle.histar_level.specs.Levels.{Levels}
use Rattle.histar_label.specs.Levels.{constant, with_level}

-- a label with these levels at these categories in turn, and at all others as before
abbrev pub with_levels : Levels → List (ℕ × Level) → Levels
with_levels L [] = L
with_levels L (e ∷ es) = with_levels (with_level L e.0 e.1) es

-- the label `{c:l, .., d}`: these levels at these categories, and d at all others
abbrev pub labelled : List (ℕ × Level) → Level → Levels
labelled exceptions default = with_levels (constant default) exceptions

-- `{c:0, 1}`: everyone may read it, and the owner of c alone may write it
abbrev pub written_by : ℕ → Levels
written_by c = labelled ((c, L0) ∷ []) L1

-- `{r:3, w:0, 1}`: the owner of r alone may read it, and the owner of w alone may write it
abbrev pub secret_of : ℕ → ℕ → Levels
secret_of r w = labelled ((r, L3) ∷ (w, L0) ∷ []) L1

-- `{r:*, w:*, 1}`: it owns r and w
abbrev pub owner_of : ℕ → ℕ → Levels
owner_of r w = labelled ((r, Star) ∷ (w, Star) ∷ []) L1

-- `{r:3, w:3, 2}`: the clearance of a thread that owns r and w
abbrev pub cleared_of : ℕ → ℕ → Levels
cleared_of r w = labelled ((r, L3) ∷ (w, L3) ∷ []) L2

-- each of these categories at one level
abbrev pub each_at : Level → List ℕ → List (ℕ × Level)
each_at level [] = []
each_at level (c ∷ cs) = (c, level) ∷ each_at level cs

-- `{s:3 .., w:0 .., 1}`: level 3 at the first categories, 0 at the others, and 1 elsewhere
abbrev pub guarded_by : List ℕ → List ℕ → Levels
guarded_by secret written = labelled (each_at L3 secret ++ each_at L0 written) L1

-- `{o:* .., t:3 .., 1}`: star at the first categories, 3 at the others, and 1 elsewhere
abbrev pub owner_label : List ℕ → List ℕ → Levels
owner_label owned tainted = labelled (each_at Star owned ++ each_at L3 tainted) L1

-- `{c:3 .., 2}`: the clearance with level 3 at these categories
abbrev pub cleared_at : List ℕ → Levels
cleared_at categories = labelled (each_at L3 categories) L2
