-- Sets of names of processes.
use Rattle.std.specs.Prelude.{◌≡◌, List, [], ◌∷◌, ◌++◌}
use Rattle.histar_flat.specs.Accounts.{has}
use Rattle.histar_flat.specs.Words.{ProcName}
use Rattle.histar_policy.specs.declared.names.Names.{Names}

-- the set has exactly these names
abbrev pub AreNames : Names → List ProcName → Type 0
AreNames set names = (q : ProcName) → has set.members.keys q ≡ has names q

-- these names were added to a set
abbrev pub Adds : Names → Names → List ProcName → Type 0
Adds old new more = AreNames new (old.members.keys ++ more)

-- process 0, and the processes below it up to this one
abbrev pub at_or_above : ProcName → List ProcName
at_or_above [] = [] ∷ []
at_or_above (n ∷ p) = at_or_above p ++ (n ∷ p) ∷ []
