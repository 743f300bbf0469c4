-- Differences of tables are changes between flat states, and what changes mean.
use Rattle.std.specs.Prelude.{◌≡◌, Bool, true, false, List, [], Option, None, Some, is_some, option_map, refl}
use Rattle.std.proofs.Common.{ap, sym, subst}
use Rattle.std.proofs.lemmas.Bool.{true≢false}
use Rattle.histar_flat.specs.declared.calls.CallLine.{CallLine}
use Rattle.histar_flat.specs.declared.replies.Errno.TheVariants.{ENOENT}
use Rattle.histar_flat.specs.Words.{Path, ProcName}
use Rattle.histar_flat.specs.Accounts.{Accounts}
use Rattle.histar_flat.specs.Files.{get}
use Rattle.histar_flat.specs.Classes.{Process}
use Rattle.histar_flat.specs.FlatState.{Flat, Node, is_dir, is_some_and, is_there}
use Rattle.histar_flat.specs.FlatCalls.{running}
use Rattle.histar_flat.specs.Meaning.{boot, flat_end}
use Rattle.histar_flat.proofs.Trees.{paths_are_a_tree}
use Rattle.histar_rights.proofs.Answered.{letters_are_replies}
use Rattle.histar_rights.proofs.Passing.{passes_same}
use Rattle.histar_diff.specs.declared.table.Table.{Table}
use Rattle.histar_diff.specs.Sides.{AreBetween, Side, letters}
use Rattle.histar_diff.specs.Tables.{no_rights}
use Rattle.histar_diff.specs.Shown.{ShowsRights, flat_side, letters_of, rights_if, rights_of, user_of}
use Rattle.histar_diff.specs.Differences.{table_side}
use Rattle.histar_diff.specs.Changes.{AnswersAre, IsAnsweredBy}
use Rattle.histar_diff.specs.Laws.{ChangesAreListed, ChangesAreOneList, DifferencesAreChanges, GainsAreListed, LoneAreListed, NewAreListed}
use Rattle.histar_diff.specs.Laws.{NoGainIsNoMore, NobodyIsAnsweredMore, NobodyIsAnsweredOtherwise, NothingHasChanged}
use Rattle.histar_diff.proofs.ShownTables.{letters_shown, users_shown}
use Rattle.histar_diff.proofs.Sides.{Held, gain_listed, lone_listed, new_listed, no_gain_of, no_more_of, nothing_listed, one_list, pair_listed}
use Rattle.histar_diff.proofs.Sides.{same_letters_of, same_processes}

-- ---- states as sides

-- a process of a flat state runs
abbrev runs : Flat → ProcName → Bool
runs f p = is_some (running f p)

running_user : (o : Option Process) → is_some (user_of o) ≡ is_some o
running_user None = refl
running_user (Some p) = refl

module _ (accounts : Accounts) (f : Flat) where
  -- the letters of a flat state are its rights
  letters_held : (q : Path) (p : ProcName) → letters (letters_of accounts f q p) ≡ rights_of accounts f q p
  letters_held q p = by (get f.files q) (running f p)
    where
      by : (node : Option Node) (process : Option Process)
          → letters (option_map (λ n. rights_if accounts f q p node process) node) ≡ rights_if accounts f q p node process
      by None None = refl
      by None (Some process) = refl
      by (Some n) process = refl

  -- a process that doesn't run has no rights
  blank : (q : Path) (p : ProcName) → runs f p ≡ false → rights_of accounts f q p ≡ no_rights
  blank q p e = by (get f.files q) (running f p) e
    where
      by : (node : Option Node) (process : Option Process) → is_some process ≡ false → rights_if accounts f q p node process ≡ no_rights
      by None None e = refl
      by (Some node) None e = refl
      by x (Some process) e = absurd (true≢false e)

  -- a flat state, as laws name its parts
  abbrev held : Held
  held = record {
    side = flat_side accounts f;
    runs = runs f;
    rights = rights_of accounts f;
    user = λ p. running_user (running f p);
    letters = letters_held;
    blank = blank;
  }

-- ---- tables

-- two sides that have the same users and letters are the same
same_side : (a b : Side) → ((p : ProcName) → a.user p ≡ b.user p) → ((q : Path) (p : ProcName) → a.letters q p ≡ b.letters q p)
    → a ≡ b
same_side a b users letters = λ i. record { user = λ p. users p i; letters = λ q p. letters q p i }

-- a table that shows the rights after calls is the side of the state
sides_shown : (accounts : Accounts) (calls : List CallLine) (t : Table) → ShowsRights accounts (flat_end accounts (boot accounts) calls) t
    → table_side t ≡ flat_side accounts (flat_end accounts (boot accounts) calls)
sides_shown accounts calls t shows =
    same_side (table_side t) (flat_side accounts (flat_end accounts (boot accounts) calls)) (users_shown accounts calls t shows)
    (letters_shown accounts calls t shows)

-- differences are changes
pub differences_are_changes : DifferencesAreChanges
differences_are_changes accounts later calls more old new lone ds a b are =
    subst (λ (sides : Side × Side). AreBetween sides.0 sides.1 lone ds)
    (λ i. (sides_shown accounts calls old a i, sides_shown later more new b i)) are

pub nothing_has_changed : NothingHasChanged
nothing_has_changed accounts later calls more old new a b =
    let f = held accounts (flat_end accounts (boot accounts) calls) in
    let g = held later (flat_end later (boot later) more) in (
      λ none.
          let changes = differences_are_changes accounts later calls more old new [] [] a b none in
          record { processes = same_processes f g changes; rights = same_letters_of f g changes },
      λ same. subst (λ (sides : Side × Side). AreBetween sides.0 sides.1 [] [])
          (λ i. (sym (sides_shown accounts calls old a) i, sym (sides_shown later more new b) i))
          (nothing_listed f g same.processes same.rights),
    )

-- ---- what is listed

pub changes_are_listed : ChangesAreListed
changes_are_listed accounts f later g lone cs are q p = pair_listed (held accounts f) (held later g) lone cs are q p

pub lone_are_listed : LoneAreListed
lone_are_listed accounts f later g lone cs are p = lone_listed (held accounts f) (held later g) lone cs are p

pub gains_are_listed : GainsAreListed
gains_are_listed accounts f later g lone cs are q p = gain_listed (held accounts f) (held later g) lone cs are q p

pub new_are_listed : NewAreListed
new_are_listed accounts f later g lone cs are p = new_listed (held accounts f) (held later g) lone cs are p

pub changes_are_one_list : ChangesAreOneList
changes_are_one_list accounts f later g lone others cs ds a b = one_list (flat_side accounts f) (flat_side later g) lone others cs ds a b

-- ---- gains

-- each process that runs may ask for `/`
asks_for_root : (accounts : Accounts) (calls : List CallLine) (p : ProcName) → runs (flat_end accounts (boot accounts) calls) p ≡ true
    → (rights_of accounts (flat_end accounts (boot accounts) calls) [] p).stat ≡ true
asks_for_root accounts calls p = by (get f.files []) refl (running f p) (paths_are_a_tree accounts calls).root
  where
    f : Flat
    f = flat_end accounts (boot accounts) calls

    by : (node : Option Node) → get f.files [] ≡ node → (process : Option Process) → is_some_and node is_dir ≡ true
        → is_some process ≡ true
        → (rights_if accounts f [] p node process).stat ≡ true
    by None m process dir e = absurd (true≢false (sym dir))
    by (Some node) m None dir e = absurd (true≢false (sym e))
    by (Some node) m (Some process) dir e = passes_same None (is_there f []) ENOENT (ap (λ o. is_some_and o (λ n. true)) m)

pub no_gain_is_no_more : NoGainIsNoMore
no_gain_is_no_more accounts later calls more lone cs are =
    let f = held accounts (flat_end accounts (boot accounts) calls) in
    let g = held later (flat_end later (boot later) more) in
    (no_more_of f g lone cs are, no_gain_of f g [] (asks_for_root later more) lone cs are)

-- ---- answers

-- the rights after calls are the answers to the four questions
rights_answer : (accounts : Accounts) (calls : List CallLine) (me : ProcName) (q : Path) (node : Option Node) (process : Option Process)
    → get (flat_end accounts (boot accounts) calls).files q ≡ node → running (flat_end accounts (boot accounts) calls) me ≡ process
    → AnswersAre accounts calls me q (rights_if accounts (flat_end accounts (boot accounts) calls) q me node process) node process
rights_answer accounts calls me q None None at runs = refl
rights_answer accounts calls me q None (Some p) at runs = refl
rights_answer accounts calls me q (Some node) None at runs = refl
rights_answer accounts calls me q (Some node) (Some p) at runs = λ number. letters_are_replies accounts calls me p runs q node at number

-- the rights at a path are the answers too, for any process and any path
pub rights_answered : (accounts : Accounts) (calls : List CallLine) (me : ProcName) (q : Path)
    → IsAnsweredBy accounts calls me q (rights_of accounts (flat_end accounts (boot accounts) calls) q me)
rights_answered accounts calls me q =
    let f = flat_end accounts (boot accounts) calls in
    rights_answer accounts calls me q (get f.files q) (running f me) refl refl

-- if nothing has changed, no process has another answer
pub nobody_is_answered_otherwise : NobodyIsAnsweredOtherwise
nobody_is_answered_otherwise accounts later calls more none me q =
    let f = flat_end accounts (boot accounts) calls in
    let g = flat_end later (boot later) more in
    let same = same_letters_of (held accounts f) (held later g) none q me in
    record {
      letters = rights_of accounts f q me;
      before = rights_answered accounts calls me q;
      after = subst (IsAnsweredBy later more me q) (sym same) (rights_answered later more me q);
    }

pub nobody_is_answered_more : NobodyIsAnsweredMore
nobody_is_answered_more accounts later calls more lone cs are none me q =
    let f = flat_end accounts (boot accounts) calls in
    let g = flat_end later (boot later) more in
    record {
      old = rights_of accounts f q me;
      before = rights_answered accounts calls me q;
      new = rights_of later g q me;
      after = rights_answered later more me q;
      no_more = (no_gain_is_no_more accounts later calls more lone cs are).0 none q me;
    }
