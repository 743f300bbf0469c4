-- The breach of a claim that is found on a machine is that in the flat state.
use Rattle.std.specs.Prelude.{◌≡◌, ℕ, ◌+◌, ◌-◌, ◌≤◌, Result, Ok, Err, IfOk, take, true, false, List, ◌∷◌, drop, get_or, length, map, Option}
use Rattle.std.specs.Prelude.{None, Some, is_some}
use Rattle.std.specs.Prelude.{if◌then◌else◌, option_and_then, refl, slice_get}
use Rattle.std.specs.Option.{option_or}
use Rattle.std.proofs.Common.{ap, arith, sym, ◌∙◌}
use Rattle.std.proofs.lemmas.Bool.{true≢false}
use Rattle.std.proofs.lemmas.List.{drop_more, take_rest}
use Rattle.std.proofs.lemmas.Option.{get_or_from_slice_get, slice_get_within}
use Rattle.histar_flat.specs.declared.calls.User.{User}
use Rattle.histar_flat.specs.Accounts.{Accounts}
use Rattle.histar_flat.specs.Classes.{nobody}
use Rattle.histar_flat.specs.FlatState.{Flat}
use Rattle.histar_flat.specs.Words.{Name, ProcName}
use Rattle.histar_syscall.specs.KernelModel.{state}
use Rattle.histar_layout.specs.UserTable.{called, without_password}
use Rattle.histar_rights.specs.declared.rights.Rights.{Rights}
use Rattle.histar_rights.specs.Running.{AreRunning, HaveShownNames, running_in}
use Rattle.histar_rights.specs.Users.{somebody}
use Rattle.histar_rights.proofs.Listed.{are_running}
use Rattle.histar_diff.specs.Shown.{runner}
use Rattle.histar_readout.specs.declared.process.ProcessNode.{ProcessNode}
use Rattle.histar_shell.specs.Machine.{MachineModel}
use Rattle.histar_shell.specs.Meaning.{Shows}
use Rattle.histar_prefix.specs.Listing.{AreProcessesIn}
use Rattle.histar_cells.specs.ByUser.{AreRightsOfUser}
use Rattle.histar_cells.specs.OnePath.{AreRightsOf}
use Rattle.histar_cells.specs.Whose.{IsUserOfProcess}
use Rattle.histar_access.specs.RightsTable.{runner_of}
use Rattle.histar_access.proofs.ShownTables.{runners_found}
use Rattle.histar_never.specs.declared.breaches.Breach.{Breach}
use Rattle.histar_never.specs.declared.breaches.Holder.TheVariants.{AProcess, AUser}
use Rattle.histar_never.specs.declared.claims.Never.{Never}
use Rattle.histar_never.specs.declared.whom.Whom.TheVariants.{OfProcess}
use Rattle.histar_never.specs.Breaches.{breach_by, breach_of, first_of, runner_breach, user_breach}
use Rattle.histar_never.specs.Machines.{FindsBreach, IsBreachAmong, IsBreachByAll, IsBreachByOne, IsBreachByUsers}
use Rattle.histar_never.specs.Machines.{IsBreachOf, IsUserBreach}
use Rattle.histar_never.specs.Machines.{IsNodeBreach, node_breach}
use Rattle.histar_never.specs.Whom.{is_meant_user}
use Rattle.histar_never.proofs.Alone.{of_one}
use Rattle.histar_never.proofs.Broken.{breach_parts}
use Rattle.histar_never.proofs.Firsts.{first_filter_map, first_map}
use Rattle.histar_never.proofs.Joined.{joined}

-- what holds of each value holds of a result
pub on_ok : {A E : Type 0} {P Q : A → Type 0} → ((x : A) → P x → Q x) → (r : Result A E) → IfOk r P → IfOk r Q
on_ok h (Ok x) is = h x is
on_ok h (Err e) is = tt

-- an answer that is there comes first, and one that isn't leaves the other
pub comes_first : {B : Type 0} (o p : Option B) → is_some o ≡ true → o ≡ option_or o p
comes_first None p e = absurd (true≢false (sym e))
comes_first (Some b) p e = refl

pub comes_next : {B : Type 0} (o p : Option B) → is_some o ≡ false → p ≡ option_or o p
comes_next None p e = refl
comes_next (Some b) p e = absurd (true≢false e)

-- the running processes of a flat state that a machine represents are those of its list
listed : (accounts : Accounts) (m : MachineModel) (f : Flat) → Shows accounts m f → HaveShownNames f → AreRunning f (running_in f)
listed accounts m f shows named =
    let l = shows.represents.matched in
    are_running f named (joined accounts (state m.kernel) f l) l.processes_given

module _ (m : MachineModel) (never : Never) where
  -- ---- one who may hold rights

  pub by_rights : (p : ProcName) (user : Name) (rights : Rights) (found : Option Breach) → AreRightsOf m never.path p rights
      → found ≡ breach_by never.letters (AProcess p user) rights → IsBreachOf m never (AProcess p user) found
  by_rights p user rights found have is accounts f shows = is ∙ ap (breach_by never.letters (AProcess p user)) (have accounts f shows)

  pub by_user_rights : (user : Name) (rights : Rights) (found : Option Breach) → AreRightsOfUser m never.path user rights
      → found ≡ breach_by never.letters (AUser user) rights → is_meant_user never.whom user ≡ true → IsUserBreach m never user found
  by_user_rights user rights found have is meant accounts f shows =
      is ∙ ap (breach_by never.letters (AUser user)) (have accounts f shows)
      ∙ ap (λ b. if b then breach_of accounts f never (AUser user) else None) (sym meant)

  -- ---- one process

  -- a process that doesn't run breaks nothing
  pub none_runs : (p : ProcName) → IsUserOfProcess m p None → IsBreachByOne m never p None
  none_runs p whose accounts f shows = ap (option_and_then (λ user. breach_of accounts f never (AProcess p user))) (whose accounts f shows)

  -- one that runs breaks a claim by its rights
  pub one_runs : (p : ProcName) (user : Name) (found : Option Breach) → IsUserOfProcess m p (Some user)
      → IsBreachOf m never (AProcess p user) found → IsBreachByOne m never p found
  one_runs p user found whose is accounts f shows =
      is accounts f shows ∙ ap (option_and_then (λ u. breach_of accounts f never (AProcess p u))) (whose accounts f shows)

  -- the breach of a claim on one process
  pub of_one_process : (p : ProcName) (found : Option Breach) → never.whom ≡ OfProcess p → IsBreachByOne m never p found
      → FindsBreach m never found
  of_one_process p found whom is accounts f shows named =
      is accounts f shows ∙ sym (of_one accounts f never p whom (listed accounts m f shows named))

  -- ---- processes

  -- a process that breaks nothing leaves the others
  pub nodes_go_on : (nodes rest : List ProcessNode) (node : ProcessNode) → 1 ≤ length rest → node ≡ get_or rest 0 node
      → ((accounts : Accounts) (f : Flat) → Shows accounts m f
      → first_of (node_breach accounts f never) nodes ≡ first_of (node_breach accounts f never) rest)
      → (found : Option Breach) → IsNodeBreach m never node found → found ≡ None
      → (accounts : Accounts) (f : Flat) → Shows accounts m f
      → first_of (node_breach accounts f never) nodes
      ≡ first_of (node_breach accounts f never) (take (length rest - 1) (drop 1 rest))
  nodes_go_on nodes rest node some here so_far found one none accounts f shows =
      let split : rest ≡ node ∷ take (length rest - 1) (drop 1 rest) =
      drop_more rest 0 node (omega (arith, some)) ∙ (λ i. sym here i ∷ sym (take_rest rest 1) i) in
      so_far accounts f shows ∙ ap (first_of (node_breach accounts f never)) split
      ∙ ap (λ o. option_or o (first_of (node_breach accounts f never) (take (length rest - 1) (drop 1 rest))))
      (sym (one accounts f shows) ∙ none)

  -- ---- users

  -- the breach is by the first of these users exactly if it is by the first of those
  abbrev pub SameByUsers : List User → List User → Type 0
  SameByUsers users rest =
      (accounts : Accounts) (f : Flat) → Shows accounts m f
      → first_of (user_breach accounts f never) (map (λ (u : User). u.name) users)
      ≡ first_of (user_breach accounts f never) (map (λ (u : User). u.name) rest)

  -- the users from a place on are the one there, and those from the next place on
  from_place : (users : List User) (place : ℕ) (name : Name) → slice_get users place ≡ Some (called name)
      → drop place users ≡ called name ∷ drop (place + 1) users
  from_place users place name is =
      drop_more users place (called name) (slice_get_within users place (called name) is)
      ∙ ap (λ (u : User). u ∷ drop (place + 1) users) (get_or_from_slice_get users place (called name) (called name) is)

  module _ (users : List User) (place : ℕ) (so_far : SameByUsers users (drop place users)) (name : Name)
      (is : slice_get users place ≡ Some (called name)) (found : Option Breach) (one : IsUserBreach m never name found) where
    first_here : (accounts : Accounts) (f : Flat) → Shows accounts m f
        → first_of (user_breach accounts f never) (map (λ (u : User). u.name) users)
        ≡ option_or found (first_of (user_breach accounts f never) (map (λ (u : User). u.name) (drop (place + 1) users)))
    first_here accounts f shows =
        so_far accounts f shows
        ∙ ap (λ us. first_of (user_breach accounts f never) (map (λ (u : User). u.name) us)) (from_place users place name is)
        ∙ ap (λ o. option_or o (first_of (user_breach accounts f never) (map (λ (u : User). u.name) (drop (place + 1) users))))
        (sym (one accounts f shows))

    -- the user at this place breaks the claim
    pub user_breaks : is_some found ≡ true → IsBreachByUsers m never (map (λ (u : User). u.name) users) found
    user_breaks some accounts f shows = comes_first found _ some ∙ sym (first_here accounts f shows)

    -- it doesn't, so that the others are looked at
    pub user_keeps : is_some found ≡ false → SameByUsers users (drop (place + 1) users)
    user_keeps none accounts f shows = first_here accounts f shows ∙ sym (comes_next found _ none)

  -- the breach by nobody, or else by one of the users
  pub nobody_first : (users : List Name) (found : Option Breach) → IsUserBreach m never nobody found → is_some found ≡ true
      → IsBreachByUsers m never (nobody ∷ users) found
  nobody_first users found one some accounts f shows =
      comes_first found _ some ∙ ap (λ o. option_or o (first_of (user_breach accounts f never) users)) (one accounts f shows)

  pub nobody_keeps : (users : List Name) (first found : Option Breach) → IsUserBreach m never nobody first → is_some first ≡ false
      → IsBreachByUsers m never users found → IsBreachByUsers m never (nobody ∷ users) found
  nobody_keeps users first found one none rest accounts f shows =
      comes_next first found none ∙ (λ i. option_or (one accounts f shows i) (rest accounts f shows i))

  -- ---- all

  -- users without passwords have the same breaches
  users_kept : (accounts : Accounts) (f : Flat) → Shows accounts m f
      → first_of (user_breach accounts f never) (somebody m.users) ≡ first_of (user_breach accounts f never) (somebody accounts)
  users_kept accounts f shows =
      let answer = user_breach accounts f never in
      ap (λ (a : Accounts). first_of answer (somebody a)) shows.users
      ∙ ap (option_or (answer nobody))
      (first_map answer (λ (u : User). u.name) (map without_password accounts.users)
      ∙ first_map (λ (u : User). answer u.name) without_password accounts.users
      ∙ sym (first_map answer (λ (u : User). u.name) accounts.users))

  -- the processes of a machine break what the running processes break
  nodes_found : (nodes : List ProcessNode) → AreProcessesIn m nodes
      → (accounts : Accounts) (f : Flat) → Shows accounts m f → HaveShownNames f
      → first_of (node_breach accounts f never) nodes ≡ first_of (runner_breach accounts f never) (map runner (running_in f))
  nodes_found nodes are accounts f shows named =
      sym (first_filter_map (runner_breach accounts f never) runner_of nodes)
      ∙ ap (first_of (runner_breach accounts f never)) (runners_found accounts m f shows named nodes are)

  -- a process breaks the claim
  pub process_breaks : (nodes : List ProcessNode) (found : Option Breach) → AreProcessesIn m nodes → IsBreachAmong m never nodes found
      → is_some found ≡ true → IsBreachByAll m never found
  process_breaks nodes found are among some accounts f shows named =
      comes_first found _ some
      ∙ ap (λ o. option_or o (first_of (user_breach accounts f never) (somebody accounts)))
      (among accounts f shows ∙ nodes_found nodes are accounts f shows named)

  -- none does, so that users are looked at
  pub processes_keep : (nodes : List ProcessNode) (first found : Option Breach) → AreProcessesIn m nodes → IsBreachAmong m never nodes first
      → is_some first ≡ false → IsBreachByUsers m never (somebody m.users) found → IsBreachByAll m never found
  processes_keep nodes first found are among none users accounts f shows named =
      comes_next first found none
      ∙ (λ i. option_or ((among accounts f shows ∙ nodes_found nodes are accounts f shows named) i)
      ((users accounts f shows ∙ users_kept accounts f shows) i))

  -- the breach of any claim
  pub of_all : (found : Option Breach) → IsBreachByAll m never found → FindsBreach m never found
  of_all found is accounts f shows named =
      is accounts f shows named
      ∙ ap (λ o. option_or o (first_of (user_breach accounts f never) (somebody accounts)))
      (first_map (runner_breach accounts f never) runner (running_in f)) ∙ sym (breach_parts accounts f never)
