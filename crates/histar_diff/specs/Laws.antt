-- What differences mean.
use Rattle.std.specs.Prelude.{◌≡◌, ◌≢◌, ◌↔◌, true, false, is_some, List, []}
use Rattle.std.specs.FinMap.{find}
use Rattle.histar_flat.specs.declared.calls.CallLine.{CallLine}
use Rattle.histar_flat.specs.Words.{Path, ProcName}
use Rattle.histar_flat.specs.Accounts.{Accounts}
use Rattle.histar_flat.specs.FlatState.{Flat}
use Rattle.histar_flat.specs.FlatCalls.{running}
use Rattle.histar_flat.specs.Meaning.{boot, flat_end}
use Rattle.histar_rights.specs.Running.{process_cmp}
use Rattle.histar_diff.specs.declared.lone.Lone.{Lone}
use Rattle.histar_diff.specs.declared.table.Table.{Table}
use Rattle.histar_diff.specs.declared.differences.Difference.{Difference}
use Rattle.histar_diff.specs.Sides.{by_name, by_pair, pair_cmp}
use Rattle.histar_diff.specs.Differences.{AreDifferences}
use Rattle.histar_diff.specs.Shown.{ShowsRights, rights_of}
use Rattle.histar_diff.specs.Changes.{AreChanges, IsAnsweredAlike}
use Rattle.histar_diff.specs.Gains.{GiveNoMore, HaveNoGain, IsAnsweredNoMore, gains, gives_more, new_ones}
use Rattle.histar_diff.specs.Tables.{IsTable, process_in, rights_in}

-- ---- tables

-- a pair of a path and a process is listed exactly if both tables have the process and its letters differ
abbrev pub DifferencesAreListed : Type 0
DifferencesAreListed =
    (old new : Table) (lone : List Lone) (ds : List Difference) → AreDifferences old new lone ds → (q : Path) (p : ProcName)
    → (is_some (find pair_cmp (q, p) (by_pair ds)) ≡ true)
    ↔ ((is_some (process_in old p) ≡ true) × (is_some (process_in new p) ≡ true) × (rights_in old q p ≢ rights_in new q p))

-- a process is listed as lone exactly if one of the tables has it and the other hasn't
abbrev pub LoneOfTablesAreListed : Type 0
LoneOfTablesAreListed =
    (old new : Table) (lone : List Lone) (ds : List Difference) → AreDifferences old new lone ds → (p : ProcName)
    → (is_some (find process_cmp p (by_name lone)) ≡ true) ↔ (is_some (process_in old p) ≢ is_some (process_in new p))

-- both tables have the same processes, and each has the same letters at each path
pub record AreAlike (old new : Table) : Type 0 where
  pub processes : (p : ProcName) → is_some (process_in old p) ≡ is_some (process_in new p)
  pub rights : (q : Path) (p : ProcName) → rights_in old q p ≡ rights_in new q p

-- nothing is listed exactly if both tables have the same processes, with the same letters at each path
abbrev pub NoneIsTheSame : Type 0
NoneIsTheSame = (old new : Table) → AreDifferences old new [] [] ↔ AreAlike old new

-- two lists of exactly the differences of two tables are the same list, and so are those of lone processes
abbrev pub DifferencesAreOneList : Type 0
DifferencesAreOneList =
    (old new : Table) (lone others : List Lone) (ds es : List Difference) → AreDifferences old new lone ds → AreDifferences old new others es
    → (lone ≡ others) × (ds ≡ es)

-- ---- tables of flat states

-- a table that shows the rights after the calls of a script is in order
abbrev pub ShownTablesRise : Type 0
ShownTablesRise =
    (accounts : Accounts) (calls : List CallLine) (t : Table) → ShowsRights accounts (flat_end accounts (boot accounts) calls) t → IsTable t

-- the rights in such a table are those of the state
abbrev pub TablesShowRights : Type 0
TablesShowRights =
    (accounts : Accounts) (calls : List CallLine) (t : Table) → ShowsRights accounts (flat_end accounts (boot accounts) calls) t
    → (q : Path) (p : ProcName) → rights_in t q p ≡ rights_of accounts (flat_end accounts (boot accounts) calls) q p

-- the same processes run in two flat states, and each has the same letters at each path
pub record HaveNotChanged (accounts : Accounts) (f : Flat) (later : Accounts) (g : Flat) : Type 0 where
  pub processes : (p : ProcName) → is_some (running f p) ≡ is_some (running g p)
  pub rights : (q : Path) (p : ProcName) → rights_of accounts f q p ≡ rights_of later g q p

-- nothing is listed of two tables that show the rights after the calls of scripts exactly if the same processes run, with the same letters
abbrev pub NothingHasChanged : Type 0
NothingHasChanged =
    (accounts later : Accounts) (calls more : List CallLine) (old new : Table)
    → ShowsRights accounts (flat_end accounts (boot accounts) calls) old → ShowsRights later (flat_end later (boot later) more) new
    → AreDifferences old new [] []
    ↔ HaveNotChanged accounts (flat_end accounts (boot accounts) calls) later (flat_end later (boot later) more)

-- the differences of two tables that show the rights after the calls of scripts are the changes between the two states
abbrev pub DifferencesAreChanges : Type 0
DifferencesAreChanges =
    (accounts later : Accounts) (calls more : List CallLine) (old new : Table) (lone : List Lone) (ds : List Difference)
    → ShowsRights accounts (flat_end accounts (boot accounts) calls) old → ShowsRights later (flat_end later (boot later) more) new
    → AreDifferences old new lone ds
    → AreChanges accounts (flat_end accounts (boot accounts) calls) later (flat_end later (boot later) more) lone ds

-- ---- flat states

-- a pair of a path and a process is a change exactly if the process runs in both states and its letters differ
abbrev pub ChangesAreListed : Type 0
ChangesAreListed =
    (accounts : Accounts) (f : Flat) (later : Accounts) (g : Flat) (lone : List Lone) (cs : List Difference)
    → AreChanges accounts f later g lone cs → (q : Path) (p : ProcName)
    → (is_some (find pair_cmp (q, p) (by_pair cs)) ≡ true)
    ↔ ((is_some (running f p) ≡ true) × (is_some (running g p) ≡ true) × (rights_of accounts f q p ≢ rights_of later g q p))

-- a process is listed as lone exactly if it runs in one of the states only
abbrev pub LoneAreListed : Type 0
LoneAreListed =
    (accounts : Accounts) (f : Flat) (later : Accounts) (g : Flat) (lone : List Lone) (cs : List Difference)
    → AreChanges accounts f later g lone cs → (p : ProcName)
    → (is_some (find process_cmp p (by_name lone)) ≡ true) ↔ (is_some (running f p) ≢ is_some (running g p))

-- two lists of exactly the changes between two states are the same list, and so are those of lone processes
abbrev pub ChangesAreOneList : Type 0
ChangesAreOneList =
    (accounts : Accounts) (f : Flat) (later : Accounts) (g : Flat) (lone others : List Lone) (cs ds : List Difference)
    → AreChanges accounts f later g lone cs → AreChanges accounts f later g others ds → (lone ≡ others) × (cs ≡ ds)

-- if nothing has changed after the calls of two scripts, each process has the same answers at each path
abbrev pub NobodyIsAnsweredOtherwise : Type 0
NobodyIsAnsweredOtherwise =
    (accounts later : Accounts) (calls more : List CallLine)
    → AreChanges accounts (flat_end accounts (boot accounts) calls) later (flat_end later (boot later) more) [] []
    → (me : ProcName) (q : Path) → IsAnsweredAlike accounts calls later more me q

-- ---- gains

-- a pair of a path and a process is a gain of a table exactly if both tables have the process and its new letters have one that the old
-- ones lack
abbrev pub GainsOfTablesAreListed : Type 0
GainsOfTablesAreListed =
    (old new : Table) (lone : List Lone) (ds : List Difference) → AreDifferences old new lone ds → (q : Path) (p : ProcName)
    → (is_some (find pair_cmp (q, p) (by_pair (gains ds))) ≡ true)
    ↔ ((is_some (process_in old p) ≡ true) × (is_some (process_in new p) ≡ true)
    × (gives_more (rights_in old q p) (rights_in new q p) ≡ true))

-- a process is listed as new exactly if the new table has it and the old one hasn't
abbrev pub NewOfTablesAreListed : Type 0
NewOfTablesAreListed =
    (old new : Table) (lone : List Lone) (ds : List Difference) → AreDifferences old new lone ds → (p : ProcName)
    → (is_some (find process_cmp p (by_name (new_ones lone))) ≡ true)
    ↔ ((is_some (process_in old p) ≡ false) × (is_some (process_in new p) ≡ true))

-- a pair of a path and a process is a gain exactly if the process runs in both states and its new letters have one that the old ones lack
abbrev pub GainsAreListed : Type 0
GainsAreListed =
    (accounts : Accounts) (f : Flat) (later : Accounts) (g : Flat) (lone : List Lone) (cs : List Difference)
    → AreChanges accounts f later g lone cs → (q : Path) (p : ProcName)
    → (is_some (find pair_cmp (q, p) (by_pair (gains cs))) ≡ true)
    ↔ ((is_some (running f p) ≡ true) × (is_some (running g p) ≡ true)
    × (gives_more (rights_of accounts f q p) (rights_of later g q p) ≡ true))

-- a process is listed as new exactly if it runs in the new state only
abbrev pub NewAreListed : Type 0
NewAreListed =
    (accounts : Accounts) (f : Flat) (later : Accounts) (g : Flat) (lone : List Lone) (cs : List Difference)
    → AreChanges accounts f later g lone cs → (p : ProcName)
    → (is_some (find process_cmp p (by_name (new_ones lone))) ≡ true) ↔ ((is_some (running f p) ≡ false) × (is_some (running g p) ≡ true))

-- After the calls of two scripts there is no gain exactly if each letter of each pair of a path and a process in the new state is one in
-- the old state.
abbrev pub NoGainIsNoMore : Type 0
NoGainIsNoMore =
    (accounts later : Accounts) (calls more : List CallLine) (lone : List Lone) (cs : List Difference)
    → AreChanges accounts (flat_end accounts (boot accounts) calls) later (flat_end later (boot later) more) lone cs
    → HaveNoGain lone cs
    ↔ ((q : Path) (p : ProcName) → GiveNoMore (rights_of accounts (flat_end accounts (boot accounts) calls) q p)
    (rights_of later (flat_end later (boot later) more) q p))

-- if there is no gain after the calls of two scripts, what a process is answered after the new one it is answered after the old one too
abbrev pub NobodyIsAnsweredMore : Type 0
NobodyIsAnsweredMore =
    (accounts later : Accounts) (calls more : List CallLine) (lone : List Lone) (cs : List Difference)
    → AreChanges accounts (flat_end accounts (boot accounts) calls) later (flat_end later (boot later) more) lone cs → HaveNoGain lone cs
    → (me : ProcName) (q : Path) → IsAnsweredNoMore accounts calls later more me q
