-- What stops a process on its way to a path, as the code has it and as the rules do.
use Rattle.std.specs.Prelude.{◌≤◌, ℕ, nat_lt, [], ◌∷◌, length, Option, MatchOption, if◌then◌else◌}
use Rattle.histar_flat.specs.Words.{Path}
use Rattle.histar_reasons.specs.Reasons.{Reason}
use Rattle.histar_reasons.specs.Reasons.Reason.{MayNotRead, IsMissing, HasFile}
use Rattle.histar_why.specs.declared.ways.Barrier.{Barrier}
use Rattle.histar_why.specs.declared.ways.Obstacle.{Obstacle}
use Rattle.histar_why.specs.declared.ways.Obstacle.TheVariants as at_path
use Rattle.histar_why.specs.Causes.{cause_of}

-- the path on the way to a path that has so many names
abbrev pub path_at : ℕ → Path → Path
path_at depth [] = []
path_at depth (n ∷ d) = if nat_lt (length d) depth then n ∷ d else path_at depth d

-- why a process can't walk into a path
abbrev pub obstacle_of : Path → Obstacle → Reason
obstacle_of q at_path.IsMissing = IsMissing q
obstacle_of q at_path.HasFile = HasFile q
obstacle_of q (at_path.MayNotRead cause) = MayNotRead q (cause_of cause)

-- why a process can't walk to a path
abbrev pub barrier_of : Path → Barrier → Reason
barrier_of q barrier = obstacle_of (path_at barrier.depth q) barrier.what

-- what stops a walk, if something does, has no more names than this path
abbrev pub IsOnWay : Path → Option Barrier → Type 0
IsOnWay q barrier = MatchOption barrier (Unit {0}) (λ b. b.depth ≤ length q)
