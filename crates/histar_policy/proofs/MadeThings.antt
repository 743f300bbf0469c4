-- What a call made or wrote, computed on a machine, and who may take it away or write it.
use Rattle.std.proofs.Common.{◌≡◌, ℕ, ◌+◌, ◌<◌, ◌++◌, take, length, get_or, Bool, true, false, cond, ◌&&◌}
use Rattle.std.proofs.Common.{List, [], ◌∷◌, None, Some, refl, sym, ap, ◌∙◌}
use Rattle.std.specs.Prelude.{filter, if◌then◌else◌, map, slice_get}
use Rattle.std.specs.List.{list_all}
use Rattle.std.proofs.lemmas.List.{map-append, take_more}
use Rattle.std.proofs.lemmas.Option.{get_or_from_slice_get, slice_get_within}
use Rattle.histar_flat.specs.declared.calls.User.{User}
use Rattle.histar_flat.specs.Words.{Name, Path, ProcName}
use Rattle.histar_flat.specs.Accounts.{Accounts}
use Rattle.histar_flat.specs.Classes.{nobody}
use Rattle.histar_flat.specs.FlatState.{Flat}
use Rattle.histar_layout.specs.UserTable.{called, without_password, without_passwords}
use Rattle.histar_rights.specs.declared.rights.Rights.{Rights}
use Rattle.histar_rights.specs.declared.users.UserRights.{UserRights}
use Rattle.histar_rights.specs.Users.{somebody}
use Rattle.histar_shell.specs.Machine.{MachineModel}
use Rattle.histar_cells.specs.ByUser.{AreRightsOfUser, user_rights_at}
use Rattle.histar_cells.specs.Whose.{IsUserOfProcess}
use Rattle.histar_policy.specs.declared.notes.Event.TheVariants.{Nothing, Made, Wrote}
use Rattle.histar_policy.specs.Answers.{AreRightsOfThese, IsMadeEvent, IsWroteEvent, is_taker_by, is_writer_by}
use Rattle.histar_policy.specs.Answers.{takers_by, user_with_rights, writers_by}
use Rattle.histar_policy.specs.Takers.{is_for_everyone, made_event, takers, writers, wrote_event}

module _ (accounts : Accounts) (f : Flat) (q : Path) where
  -- all of these users may read exactly if all of their rights say so
  all_read : (users : List Name)
      → list_all (λ (u : UserRights). u.rights.read) (map (user_with_rights accounts f q) users)
      ≡ list_all (λ user. (user_rights_at accounts f q user).read) users
  all_read [] = refl
  all_read (user ∷ users) = ap (λ b. (user_rights_at accounts f q user).read && b) (all_read users)

  -- those that pass a test are found by their rights
  all_those : (test : UserRights → Bool) (users : List Name)
      → map (λ (u : UserRights). u.user) (filter test (map (user_with_rights accounts f q) users))
      ≡ filter (λ user. test (user_with_rights accounts f q user)) users
  all_those test [] = refl
  all_those test (user ∷ users) = by (test (user_with_rights accounts f q user)) (all_those test users)
    where
      by : (b : Bool) → map (λ (u : UserRights). u.user) (filter test (map (user_with_rights accounts f q) users))
          ≡ filter (λ (u : Name). test (user_with_rights accounts f q u)) users
          → map (λ (u : UserRights). u.user)
          (cond b (user_with_rights accounts f q user ∷ filter test (map (user_with_rights accounts f q) users))
          (filter test (map (user_with_rights accounts f q) users)))
          ≡ cond b (user ∷ filter (λ (u : Name). test (user_with_rights accounts f q u)) users)
          (filter (λ (u : Name). test (user_with_rights accounts f q u)) users)
      by true rest = ap (λ (l : List Name). user ∷ l) rest
      by false rest = rest

-- users without passwords have the same names
names_kept : (users : List User) → map (λ (u : User). u.name) (map without_password users) ≡ map (λ (u : User). u.name) users
names_kept [] = refl
names_kept (u ∷ users) = ap (λ (l : List Name). u.name ∷ l) (names_kept users)

somebody_kept : (accounts : Accounts) → somebody (without_passwords accounts) ≡ somebody accounts
somebody_kept accounts = ap (λ (l : List Name). nobody ∷ l) (names_kept accounts.users)

-- the names so far with one more
pub names_more : (users : List User) (place : ℕ) (name : Name) → slice_get users place ≡ Some (called name)
    → map (λ (u : User). u.name) (take (place + 1) users) ≡ map (λ (u : User). u.name) (take place users) ++ name ∷ []
names_more users place name is =
    ap (map (λ (u : User). u.name)) (take_more users place (called name) (slice_get_within users place (called name) is))
    ∙ map-append (λ (u : User). u.name) (take place users) (get_or users place (called name) ∷ [])
    ∙ ap (λ (u : User). map (λ (v : User). v.name) (take place users) ++ u.name ∷ [])
    (get_or_from_slice_get users place (called name) (called name) is)

module _ (m : MachineModel) (q : Path) where
  -- the rights of the users so far, and of one more
  pub rights_more : (users : List Name) (i : ℕ) (user : Name) (old new : List UserRights) (rights : Rights) → i < length users
      → user ≡ get_or users i user → AreRightsOfThese m q (take i users) old → AreRightsOfUser m q user rights
      → new ≡ old ++ (record { user = user; rights = rights }) ∷ [] → AreRightsOfThese m q (take (i + 1) users) new
  rights_more users i user old new rights more here have are pushed accounts f shows =
      let with = user_with_rights accounts f q in
      pushed ∙ (λ j. have accounts f shows j ++ (record { user = user; rights = are accounts f shows j }) ∷ [])
      ∙ sym (ap (map with) (take_more users i user more ∙ ap (λ (u : Name). take i users ++ u ∷ []) (sym here))
      ∙ map-append with (take i users) (user ∷ []))

-- a process that doesn't run has made nothing, and wrote nothing
pub none_made : (m : MachineModel) (me : ProcName) (q : Path) (shared : Bool) → IsUserOfProcess m me None → IsMadeEvent m me q shared Nothing
none_made m me q shared whose accounts f shows = ap (made_event accounts f q shared) (whose accounts f shows)

pub none_wrote : (m : MachineModel) (me : ProcName) (q : Path) → IsUserOfProcess m me None → IsWroteEvent m me q Nothing
none_wrote m me q whose accounts f shows = ap (wrote_event q) (whose accounts f shows)

-- what a process wrote, by its user
pub wrote_as : (m : MachineModel) (me : ProcName) (q path : Path) (user : Name) → IsUserOfProcess m me (Some user) → path ≡ q
    → IsWroteEvent m me q (Wrote user path)
wrote_as m me q path user whose at accounts f shows = ap (λ (r : Path). Wrote user r) at ∙ ap (wrote_event q) (whose accounts f shows)

-- on a machine this is the user of a process, and these are the rights of nobody and of each user at a path
pub record IsSeen (m : MachineModel) (me : ProcName) (q : Path) (maker : Name) (rights : List UserRights) : Type 0 where
  pub whose : IsUserOfProcess m me (Some maker)
  pub have : AreRightsOfThese m q (somebody m.users) rights

module _ {m : MachineModel} {me : ProcName} {q : Path} {maker : Name} {rights : List UserRights} (seen : IsSeen m me q maker rights) where
  -- what a process made, by its user and by those that take it and those that write it
  pub made_as : (shared : Bool) {path : Path} {taking writing : List Name} → path ≡ q → taking ≡ takers_by maker rights
      → writing ≡ writers_by maker shared rights
      → IsMadeEvent m me q shared (Made (record { path = path; maker = maker; takers = taking; writers = writing }))
  made_as shared at take write accounts f shows =
      let of_users : rights ≡ map (user_with_rights accounts f q) (somebody accounts) =
      seen.have accounts f shows ∙ ap (map (user_with_rights accounts f q)) (ap somebody shows.users ∙ somebody_kept accounts) in
      let everyone : list_all (λ (u : UserRights). u.rights.read) rights ≡ is_for_everyone accounts f q =
      ap (list_all (λ (u : UserRights). u.rights.read)) of_users ∙ all_read accounts f q (somebody accounts) in
      let those : (test : UserRights → Bool) → map (λ (u : UserRights). u.user) (filter test rights)
      ≡ filter (λ user. test (user_with_rights accounts f q user)) (somebody accounts) =
      λ test. ap (λ (us : List UserRights). map (λ (u : UserRights). u.user) (filter test us)) of_users
      ∙ all_those accounts f q test (somebody accounts) in
      let takes : takers_by maker rights ≡ (if is_for_everyone accounts f q then [] else takers accounts f maker q) =
      λ i. if everyone i then [] else those (is_taker_by maker) i in
      let writes : writers_by maker shared rights ≡ (if shared then writers accounts f maker q else []) =
      λ i. if shared then those (is_writer_by maker) i else [] in
      (λ i. Made (record { path = at i; maker = maker; takers = (take ∙ takes) i; writers = (write ∙ writes) i }))
      ∙ ap (made_event accounts f q shared) (seen.whose accounts f shows)
