-- What was gathered by users, with one more state, and its text.
use Rattle.std.specs.Prelude.{◌≡◌, ◌+◌, ◌||◌, ℕ, Bool, true, false, List, [], ◌∷◌, ◌++◌}
use Rattle.std.specs.Prelude.{Some, codes, get_or, map, slice_get, take, unwrap_or, refl}
use Rattle.std.proofs.Common.{ap, sym, ◌∙◌}
use Rattle.std.proofs.lemmas.List.{map-append, take_more}
use Rattle.std.proofs.lemmas.Option.{get_or_from_slice_get, slice_get_within}
use Rattle.std.specs.BTreeMap.{is_at}
use Rattle.std.specs.Map.{lookup}
use Rattle.std.specs.List.{flat_map, list_any}
use Rattle.std.specs.Ordering.{eq_by_cmp}
use Rattle.std.specs.Global.{Vec}
use Rattle.histar_flat.specs.declared.calls.User.{User}
use Rattle.histar_flat.specs.Words.{Name, Path}
use Rattle.histar_base.specs.Paths.{path_cmp, same}
use Rattle.histar_base.proofs.PathLaws.{path_cmp_exact, path_cmp_total}
use Rattle.histar_flat.specs.Accounts.{Accounts, has}
use Rattle.histar_flat.specs.Classes.{nobody}
use Rattle.histar_flat.proofs.FileLemmas.{same_itself}
use Rattle.histar_layout.specs.UserTable.{called, without_password, without_passwords}
use Rattle.histar_access.proofs.Tables.{map_twice}
use Rattle.histar_diff.specs.Tables.{no_rights}
use Rattle.histar_flat.specs.FlatState.{Flat}
use Rattle.histar_flat.specs.Texts.{path_text}
use Rattle.histar_rights.proofs.Named.{processes_are_named}
use Rattle.histar_rights.specs.Users.{somebody, user_text, users_line}
use Rattle.histar_cells.specs.ByUser.{user_rights_at}
use Rattle.histar_diff.specs.declared.users.UsersTable.{UsersTable}
use Rattle.histar_diff.specs.UserChanges.{ShowsUsers, users_rights}
use Rattle.histar_shell.specs.Machine.{MachineModel}
use Rattle.histar_access.specs.Users.{ShowsUsersTable}
use Rattle.histar_ever.specs.declared.by_users.EverUsers.{EverUsers}
use Rattle.histar_ever.specs.Ever.{either, paths_in}
use Rattle.histar_ever.specs.EverUsers.{ever_users_line, ever_users_text}
use Rattle.histar_ever.specs.Following.{AddsState, GathersNone}
use Rattle.histar_ever.specs.GatheringUsers.{AddsUsersTable, GathersUsers, IsGatheredUsersText}
use Rattle.histar_ever.specs.GatheringUsers.{gathered_users_line, place_cmp, user_letters_at}
use Rattle.histar_ever.proofs.Keys.{in_ever_more, keys_are_rising}
use Rattle.histar_ever.proofs.Letters.{any_more}
use Rattle.histar_ever.proofs.Tabled.{line_paths}
use Rattle.histar_ever.proofs.UsersTabled.{users_table_letters}

-- the users of a table without passwords are the same
users_are : (accounts : Accounts) → somebody (without_passwords accounts) ≡ somebody accounts
users_are accounts = ap (λ us. nobody ∷ us) (map_twice (λ (u : User). u.name) without_password accounts.users)

-- the names of some users with one more
pub names_more : (users : List User) (place : ℕ) (name : Name) → slice_get users place ≡ Some (called name)
    → map (λ (u : User). u.name) (take (place + 1) users) ≡ map (λ (u : User). u.name) (take place users) ++ name ∷ []
names_more users place name is =
    ap (map (λ (u : User). u.name)) (take_more users place (called name) (slice_get_within users place (called name) is))
    ∙ map-append (λ (u : User). u.name) (take place users) (get_or users place (called name) ∷ [])
    ∙ ap (λ (u : User). map (λ (v : User). v.name) (take place users) ++ u.name ∷ [])
    (get_or_from_slice_get users place (called name) (called name) is)

-- nothing was gathered, for the users of a machine
pub no_users_gathered : (m : MachineModel) (e : EverUsers) → e.users.items ≡ somebody m.users → e.paths.keys ≡ [] → e.letters.entries ≡ []
    → GathersNone GathersUsers m e
no_users_gathered m e users paths letters accounts shows = record {
  users = users ∙ ap somebody shows.users ∙ users_are accounts;
  paths = λ q. ap (list_any (eq_by_cmp path_cmp q)) paths;
  letters = λ q user has. ap (λ es. unwrap_or (lookup (is_at (place_cmp (q, user))) es) no_rights) letters;
}

module _ (accounts : Accounts) (fs : List Flat) (f : Flat) (t : UsersTable) (shows : ShowsUsers accounts f t) where
  -- the table of one more state was added
  state_added : (old new : EverUsers) → GathersUsers accounts fs old → AddsUsersTable t old new → GathersUsers accounts (fs ++ f ∷ []) new
  state_added old new before added = record {
    users = ap (λ (us : Vec Name). us.items) added.users ∙ before.users;
    paths = λ q.
        let lines = line_paths (users_line accounts f) users_rights (λ e. refl) f q t.lines.items shows.lines in
        added.paths q ∙ (λ i. before.paths q i || lines i) ∙ sym (in_ever_more path_cmp paths_in q fs f);
    letters = λ q user has.
        let here = users_table_letters accounts f q user t shows has in
        added.letters q user ∙ (λ i. either (before.letters q user has i) (here i))
        ∙ sym (any_more (λ (g : Flat). user_rights_at accounts g q user) fs f);
  }

-- the table by users of a machine was added, which gathers its state
pub machine_added : (m : MachineModel) (t : UsersTable) (old new : EverUsers) → ShowsUsersTable m t → AddsUsersTable t old new
    → AddsState GathersUsers m old new
machine_added m t old new shows added accounts calls represents fs before =
    state_added accounts fs _ t (shows accounts _ represents (processes_are_named accounts calls)) old new before added

-- ---- the text

or_right : (a b : Bool) → b ≡ true → (a || b) ≡ true
or_right true b is = refl
or_right false b is = is

-- two functions that are the same on the users of a list
same_on : {B : Type 0} (h k : Name → List B) (us : List Name) → ((u : Name) → has us u ≡ true → h u ≡ k u) → flat_map h us ≡ flat_map k us
same_on h k [] all = refl
same_on h k (u ∷ us) all =
    λ i. all u (ap (λ b. b || has us u) (same_itself u)) i ++ same_on h k us (λ v there. all v (or_right (same v u) (has us v) there)) i

module _ (accounts : Accounts) (fs : List Flat) (e : EverUsers) (is : GathersUsers accounts fs e) where
  lines_same : (q : Path) → gathered_users_line e.letters e.users.items q ≡ ever_users_line accounts fs q
  lines_same q =
      ap (λ us. path_text q ++ flat_map (λ (user : Name). user_text (record { user = user; rights = user_letters_at e.letters q user })) us
      ++ codes "\n") is.users
      ∙ ap (λ cells. path_text q ++ cells ++ codes "\n")
      (same_on _ _ (somebody accounts) (λ user has i. user_text (record { user = user; rights = is.letters q user has i })))

  -- the text of what was gathered by users is that of the states
  pub gathered_users_text : (text : List ℕ) → IsGatheredUsersText e text → text ≡ ever_users_text accounts fs
  gathered_users_text text has =
      let paths = keys_are_rising path_cmp path_cmp_total path_cmp_exact has.paths (flat_map paths_in fs) has.are_paths.rise
      (λ q. ap (list_any (eq_by_cmp path_cmp q)) has.are_paths.are ∙ is.paths q) in
      has.is ∙ (λ i. flat_map (λ (q : Path). lines_same q i) (paths i))
