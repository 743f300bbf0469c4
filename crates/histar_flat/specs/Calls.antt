-- The calls that a script can have.
use Rattle.std.specs.Prelude.{◌≤◌, IsTrue}
use Rattle.histar_flat.specs.declared.calls.UnixCall.{UnixCall}
use Rattle.histar_flat.specs.Words.{Path, greatest_status, is_name, is_path}
use Rattle.histar_flat.specs.Effects.{Effect}
use Rattle.histar_flat.specs.Effects.Effect.{Renames, Exits}
use Rattle.histar_flat.specs.CallRules.{path_of, rule}

-- a line of a script can name this path, and the name or the status of this effect
abbrev pub CanBeNamed : Path → Effect → Type 0
CanBeNamed q (Renames name) = IsTrue (is_path q) × IsTrue (is_name name)
CanBeNamed q (Exits n) = n ≤ greatest_status
CanBeNamed q _ = IsTrue (is_path q)

-- a line of a script can have this path, name and status of a call
abbrev pub IsCall : UnixCall → Type 0
IsCall call = CanBeNamed (path_of call) (rule call).effect
