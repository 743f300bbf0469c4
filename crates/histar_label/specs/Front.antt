-- The front of a list of exceptions, as one pass goes over several lists.
use Rattle.std.specs.Prelude.{ℕ, min, [], ◌∷◌, Option, None, Some, if◌then◌else◌, ◌==◌}
use Rattle.histar_level.specs.declared.level.Level.{Level}
use Rattle.histar_label.specs.Exceptions.{Exceptions}

-- the category of the first exception
abbrev pub first_category : Exceptions → Option ℕ
first_category [] = None
first_category (e ∷ es) = Some e.0

-- the lower of two categories, or the one that is there
abbrev pub earlier : Option ℕ → Option ℕ → Option ℕ
earlier None second = second
earlier (Some c) None = Some c
earlier (Some c) (Some d) = Some (min c d)

-- the lowest category that has an exception in one of two lists that rise
abbrev pub lower : Exceptions → Exceptions → Option ℕ
lower first second = earlier (first_category first) (first_category second)

-- the lowest category that has an exception in one of three lists that rise
abbrev pub lowest : Exceptions → Exceptions → Exceptions → Option ℕ
lowest first second third = earlier (first_category first) (lower second third)

-- the level of a category that no exception comes before: the first exception's where it is of the category, and otherwise the default
abbrev pub level_at : Exceptions → ℕ → Level → Level
level_at [] c default = default
level_at (e ∷ es) c default = if e.0 == c then e.1 else default

-- the exceptions after a category that no exception comes before
abbrev pub after : Exceptions → ℕ → Exceptions
after [] c = []
after (e ∷ es) c = if e.0 == c then es else e ∷ es
