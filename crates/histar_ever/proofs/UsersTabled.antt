-- What the table by users of a flat state adds: its paths and the rights of users there.
use Rattle.std.specs.Prelude.{◌≡◌, ◌||◌, Bool, true, false, cond, List, [], ◌∷◌, map, Option, None, Some, refl}
use Rattle.std.proofs.Common.{ap, sym, ◌∙◌}
use Rattle.std.specs.List.{list_any}
use Rattle.std.specs.declared.cmp.Ordering.{Ordering}
use Rattle.std.specs.declared.cmp.Ordering.TheVariants.{Less, Equal, Greater}
use Rattle.std.specs.Ordering.{eq_by_cmp, nat_cmp, ordering_then}
use Rattle.std.specs.Cmp.{IsTotalOrder, eq_by_cmp_equiv, tied_then}
use Rattle.std.specs.Cmp.Lexicographic.{nat_list_cmp_total, slice_cmp, texts_ties}
use Rattle.std.specs.FinMap.{IsAntisymmetric, nat_cmp-IsAntisymmetric, slice_cmp-IsAntisymmetric}
use Rattle.histar_flat.specs.Words.{Name, Path}
use Rattle.histar_base.specs.Paths.{path_cmp}
use Rattle.histar_base.proofs.PathLaws.{path_cmp_exact, path_cmp_total}
use Rattle.histar_flat.specs.Accounts.{Accounts, has}
use Rattle.histar_flat.specs.Files.{get}
use Rattle.histar_flat.specs.FlatState.{Flat, Node}
use Rattle.histar_flat.proofs.Finding.{equal}
use Rattle.histar_rights.specs.declared.rights.Rights.{Rights}
use Rattle.histar_rights.specs.declared.users.UserRights.{UserRights}
use Rattle.histar_rights.specs.Users.{rights_of_user, somebody, user_at, users_line}
use Rattle.histar_cells.specs.ByUser.{user_rights_at, user_rights_if as rights_if_there}
use Rattle.histar_diff.specs.declared.table.TableLine.{TableLine}
use Rattle.histar_diff.specs.declared.users.UsersTable.{UsersTable}
use Rattle.histar_diff.specs.UserChanges.{ShowsUsers, is_user, users_rights}
use Rattle.histar_diff.specs.Tables.{no_rights}
use Rattle.histar_ever.specs.Ever.{any_rights, either}
use Rattle.histar_ever.specs.GatheringUsers.{place_cmp, user_line_letters, user_row_letters}
use Rattle.histar_ever.proofs.Letters.{any_of, any_same, either_none, either_same}
use Rattle.histar_ever.proofs.Tabled.{any_found, cell_and_rest, if_at, none_twice, of_found}

-- users are ordered by their names
abbrev pub by_name : Name → Name → Ordering
by_name = slice_cmp nat_cmp

-- two names tie only if they are the same
pub by_name_exact : IsAntisymmetric by_name
by_name_exact = slice_cmp-IsAntisymmetric nat_cmp-IsAntisymmetric

-- two places tie only if they are the same
pub place_cmp_exact : IsAntisymmetric place_cmp
place_cmp_exact a b e = by (path_cmp a.0 b.0) refl e
  where
    by : (o : Ordering) → path_cmp a.0 b.0 ≡ o → ordering_then o (by_name a.1 b.1) ≡ Equal → a ≡ b
    by Less m e = absurd cc
    by Equal m e = λ i. (path_cmp_exact a.0 b.0 m i, by_name_exact a.1 b.1 e i)
    by Greater m e = absurd cc

-- ---- the rights of one user among those of several

module _ {K : Type 0} (R : K → K → Ordering) (total : IsTotalOrder R) (exact : IsAntisymmetric R) (F : K → Rights) (k : K) where
  -- the rights of this key, if it is the one
  abbrev pub if_it : K → Rights
  if_it x = cond (eq_by_cmp R x k) (F x) no_rights

  -- among several keys there are the rights of the one, if it is among them
  pub any_here : (ks : List K) → any_rights if_it ks ≡ cond (list_any (eq_by_cmp R k) ks) (F k) no_rights
  any_here [] = refl
  any_here (x ∷ ks) = (λ i. either (cond ((eq_by_cmp_equiv total).symm x k i) (F x) no_rights) (any_here ks i))
      ∙ by (eq_by_cmp R k x) refl (list_any (eq_by_cmp R k) ks)
    where
      by : (b : Bool) → eq_by_cmp R k x ≡ b → (c : Bool)
          → either (cond b (F x) no_rights) (cond c (F k) no_rights) ≡ cond (b || c) (F k) no_rights
      by true t true = ap (λ y. either (F y) (F k)) (sym (exact k x (equal (R k x) t))) ∙ either_same (F k)
      by true t false = either_none (F x) ∙ ap F (sym (exact k x (equal (R k x) t)))
      by false t c = refl

-- ---- a line, and a table

module _ (accounts : Accounts) (f : Flat) (q : Path) (user : Name) where
  -- the rights of users at a path with a node, of this one alone
  abbrev of_users : List Name → Path → Node → Rights
  of_users us d node = any_rights (if_it by_name nat_list_cmp_total by_name_exact (λ u. rights_of_user accounts f u d node) user) us

  a_row : (e : Path × Node) (us : List Name)
      → user_row_letters e.0 us (map (λ (u : UserRights). u.rights) (map (user_at accounts f e) us)) q user
      ≡ cond (eq_by_cmp path_cmp e.0 q) (of_users us e.0 e.1) no_rights
  a_row e [] = none_twice (eq_by_cmp path_cmp e.0 q)
  a_row e (u ∷ us) =
      (λ i. either (cond (sym (tied_then (path_cmp e.0 q) (by_name u user)) i) (rights_of_user accounts f u e.0 e.1) no_rights) (a_row e us i))
      ∙ cell_and_rest (eq_by_cmp path_cmp e.0 q) (eq_by_cmp by_name u user) (rights_of_user accounts f u e.0 e.1) (of_users us e.0 e.1)

  -- the letters on a line, by its path and its rights
  abbrev on_line : List Name → Path × List Rights → Rights
  on_line us e = user_row_letters e.0 us e.1 q user

  -- a user of the script is found among them by the order of names
  found_user : (us : List Name) → list_any (eq_by_cmp by_name user) us ≡ has us user
  found_user us = ap (λ (t : Name → Bool). list_any t us) (λ i u. sym (texts_ties user u) i)

  found_node : is_user accounts user ≡ true → (o : Option Node)
      → of_found path_cmp path_cmp_total path_cmp_exact (of_users (somebody accounts)) q o ≡ rights_if_there accounts f q user o
  found_node known None = refl
  found_node known (Some node) =
      any_here by_name nat_list_cmp_total by_name_exact (λ u. rights_of_user accounts f u q node) user (somebody accounts)
      ∙ ap (λ b. cond b (rights_of_user accounts f user q node) no_rights) (found_user (somebody accounts) ∙ known)

  -- the letters of a user in a table of the state are the user's rights in the state
  pub users_table_letters : (t : UsersTable) → ShowsUsers accounts f t → is_user accounts user ≡ true
      → any_rights (user_line_letters t.users.items q user) t.lines.items ≡ user_rights_at accounts f q user
  users_table_letters t shows known =
      let us = somebody accounts in
      let es = f.files.entries in
      ap (λ names. any_rights (user_line_letters names q user) t.lines.items) shows.users
      ∙ sym (any_of (on_line us) (λ (l : TableLine). (l.path, l.rights.items)) t.lines.items)
      ∙ ap (any_rights (on_line us)) shows.lines
      ∙ any_of (on_line us) users_rights (map (users_line accounts f) es)
      ∙ any_of (λ l. on_line us (users_rights l)) (users_line accounts f) es
      ∙ any_same (λ e. on_line us (users_rights (users_line accounts f e)))
      (if_at path_cmp path_cmp_total path_cmp_exact (of_users us) q) (λ e. a_row e us) es
      ∙ any_found path_cmp path_cmp_total path_cmp_exact (of_users us) q es f.files.sorted
      ∙ found_node known (get f.files q)
