-- What differs between two tables that show the rights of users is what changed between the two flat states.
use Rattle.std.specs.Prelude.{◌≡◌, ℕ, Bool, true, false, cond, is_some}
use Rattle.std.specs.Prelude.{List, [], ◌∷◌, map, Option, None, Some, option_map, position, refl}
use Rattle.std.specs.Prelude.{◌+◌, ◌||◌, slice_index_or}
use Rattle.std.specs.List.{AllByRecursion, cons_option, filter, filter_map, flat_map, position_from}
use Rattle.std.proofs.Common.{ap, inl, inr, sym, ◌∙◌}
use Rattle.std.proofs.lemmas.Bool.{or_right, true≢false}
use Rattle.std.proofs.lemmas.Iterator.Adapters.{position_from-zero}
use Rattle.std.proofs.lemmas.List.{get_or-map}
use Rattle.std.proofs.lemmas.List.Quantifiers.{position-Some}
use Rattle.std.specs.FinMap.{find}
use Rattle.histar_flat.specs.Accounts.{Accounts, has}
use Rattle.histar_flat.specs.Files.{get}
use Rattle.histar_flat.specs.FlatState.{Flat, Node}
use Rattle.histar_flat.specs.Words.{Name, Path}
use Rattle.histar_flat.proofs.FileLemmas.{same_itself, same_name_found}
use Rattle.histar_base.specs.Paths.{path_cmp, same}
use Rattle.histar_base.proofs.PathLaws.{path_cmp_exact, path_cmp_total}
use Rattle.histar_rights.specs.declared.rights.Rights.{Rights}
use Rattle.histar_rights.specs.declared.users.UserRights.{UserRights}
use Rattle.histar_rights.specs.Users.{rights_of_user, somebody, user_at, users_line}
use Rattle.histar_diff.specs.declared.table.TableLine.{TableLine}
use Rattle.histar_diff.specs.declared.user_differences.UserDifference.{UserDifference}
use Rattle.histar_diff.specs.declared.users.SharedUser.{SharedUser}
use Rattle.histar_diff.specs.Joining.{Joined, joined, new_of, old_of}
use Rattle.histar_diff.specs.Tables.{by_path, letters_at, no_rights}
use Rattle.histar_diff.specs.UserChanges.{user_changes, user_changes_at, users_rights}
use Rattle.histar_diff.specs.UserLaws.{UserDifferencesAreChanges}
use Rattle.histar_diff.specs.UserTables.{joined_user_differences, lone_of_both, shared_at, shared_difference}
use Rattle.histar_diff.specs.UserTables.{shared_differences, shared_lines_differences, shared_of_both, shared_user, user_difference}
use Rattle.histar_diff.proofs.JoinedValues.{along_keys, each_joined, each_weaker, find_values, same_keys, values, values_rise}

-- ---- places of users

-- a name has a place from this one on exactly if it is among the names
placed_from : (u : Name) (i : ℕ) (names : List Name) → is_some (position_from (same u) i names) ≡ has names u
placed_from u i [] = refl
placed_from u i (v ∷ names) = by (same u v) (placed_from u (i + 1) names)
  where
    by : (t : Bool) → is_some (position_from (same u) (i + 1) names) ≡ has names u
        → is_some (cond t (Some i) (position_from (same u) (i + 1) names)) ≡ (t || has names u)
    by true later = refl
    by false later = later

-- a name has a place exactly if it is among the names
pub has_place : (u : Name) (names : List Name) → is_some (position (same u) names) ≡ has names u
has_place u names = ap is_some (position_from-zero (same u) names) ∙ placed_from u 0 names

-- names that pass the test are one
pub same_name : (u v : Name) → same u v ≡ true → u ≡ v
same_name u v e = elim (same_name_found u v) [ inl h ↦ h.1 | inr h ↦ absurd (true≢false (sym e ∙ h.0)) ]

-- what is made of the names has at the place of a name what is made of it
at_name : (F : Name → Rights) (names : List Name) (u : Name) (i : ℕ) → position (same u) names ≡ Some i
    → slice_index_or (map F names) i no_rights ≡ F u
at_name F names u i e =
    let at = position-Some (same u) names i u e in
    get_or-map F names i u no_rights at.0 ∙ ap F (sym (same_name u (slice_index_or names i u) at.1))

-- each of these names is among all, if all have what these have
each_among : (all names : List Name) → ((u : Name) → has names u ≡ true → has all u ≡ true)
    → AllByRecursion (λ u. has all u ≡ true) names
each_among all [] lead = tt
each_among all (v ∷ names) lead = (
  lead v (ap (λ b. b || has names v) (same_itself v)),
  each_among all names (λ u h. lead u (or_right (same u v) (has names u) h)),
)

-- ---- users at a path

module _ (names others : List Name) (q : Path) (F G : Node → Name → Rights) (n m : Option Node) where
  -- the rights of users at the path, if it is there
  abbrev row : (Node → Name → Rights) → List Name → Option Node → Option (List Rights)
  row H us o = option_map (λ node. map (H node) us) o

  abbrev of_user : (Node → Name → Rights) → Name → Option Node → Option Rights
  of_user H u o = option_map (λ node. H node u) o

  at_row : (H : Node → Name → Rights) (us : List Name) (o : Option Node) (u : Name) (i : ℕ) → position (same u) us ≡ Some i
      → letters_at (row H us o) (Some i) ≡ of_user H u o
  at_row H us None u i e = refl
  at_row H us (Some node) u i e = ap Some (at_name (H node) us u i e)

  -- the differences of the users of both tables are those of their names
  abbrev change : Name → Option UserDifference
  change u = user_difference q u (of_user F u n) (of_user G u m)

  by_name : (us : List Name) → AllByRecursion (λ u. has names u ≡ true) us
      → filter_map (shared_difference q (row F names n) (row G others m)) (filter_map (shared_user names others) us)
      ≡ filter_map change (filter (has others) us)
  by_name [] all = refl
  by_name (u ∷ us) all =
      by (position (same u) names) refl (position (same u) others) refl (has others u) refl (by_name us all.1)
    where
      rest : List SharedUser
      rest = filter_map (shared_user names others) us

      later_names : List Name
      later_names = filter (has others) us

      by : (i : Option ℕ) → position (same u) names ≡ i → (j : Option ℕ) → position (same u) others ≡ j
          → (b : Bool) → has others u ≡ b
          → filter_map (shared_difference q (row F names n) (row G others m)) (filter_map (shared_user names others) us)
          ≡ filter_map change (filter (has others) us)
          → filter_map (shared_difference q (row F names n) (row G others m))
          (cons_option (shared_at u i j) (filter_map (shared_user names others) us))
          ≡ filter_map change (cond b (u ∷ filter (has others) us) (filter (has others) us))
      by None e j f b h later = absurd (true≢false (sym all.0 ∙ sym (has_place u names) ∙ ap is_some e))
      by (Some i) e None f true h later = absurd (true≢false (sym h ∙ sym (has_place u others) ∙ ap is_some f))
      by (Some i) e None f false h later = later
      by (Some i) e (Some j) f false h later = absurd (true≢false (sym (ap is_some f) ∙ has_place u others ∙ h))
      by (Some i) e (Some j) f true h later =
          λ k. cons_option (user_difference q u (at_row F names n u i e k) (at_row G others m u j f k)) (later k)

-- ---- lines

module _ (accounts : Accounts) (f : Flat) where
  -- the rights of users at a path with this node
  abbrev there : Path → Node → List Rights
  there q node = map (λ u. rights_of_user accounts f u q node) (somebody accounts)

  rights_of_cells : (e : Path × Node) (us : List Name) → map (λ (c : UserRights). c.rights) (map (user_at accounts f e) us)
      ≡ map (λ u. rights_of_user accounts f u e.0 e.1) us
  rights_of_cells e [] = refl
  rights_of_cells e (u ∷ us) = ap (λ rs. rights_of_user accounts f u e.0 e.1 ∷ rs) (rights_of_cells e us)

  rights_lines : (es : List (Path × Node)) → map users_rights (map (users_line accounts f) es) ≡ values there es
  rights_lines [] = refl
  rights_lines (e ∷ es) = λ i. (e.0, rights_of_cells e (somebody accounts) i) ∷ rights_lines es i

module _ (accounts : Accounts) (f : Flat) (later : Accounts) (g : Flat) where
  -- the users of both tables
  abbrev shared : List SharedUser
  shared = shared_of_both (somebody accounts) (somebody later)

  -- the differences at a path of two tables are the changes there
  at_path : (q : Path)
      → shared_differences shared q (option_map (there accounts f q) (get f.files q)) (option_map (there later g q) (get g.files q))
      ≡ user_changes_at accounts f later g q
  at_path q =
      by_name (somebody accounts) (somebody later) q (λ node u. rights_of_user accounts f u q node) (λ node u. rights_of_user later g u q node)
      (get f.files q) (get g.files q) (somebody accounts) (each_among (somebody accounts) (somebody accounts) (λ u h. h))

  -- the differences of two tables are the changes
  along_paths : (ls ms : List TableLine) → by_path ls ≡ values (there accounts f) f.files.entries
      → by_path ms ≡ values (there later g) g.files.entries
      → shared_lines_differences shared ls ms ≡ user_changes accounts f later g
  along_paths ls ms old new =
      let xs = values (there accounts f) f.files.entries in
      let ys = values (there later g) g.files.entries in
      (λ i. flat_map (joined_user_differences shared) (joined path_cmp (old i) (new i)))
      ∙ along_keys (joined_user_differences shared) (user_changes_at accounts f later g) (joined path_cmp xs ys)
      (each_weaker
      (λ (e : Path × Joined (List Rights) (List Rights)). (old_of e.1 ≡ find path_cmp e.0 xs) × (new_of e.1 ≡ find path_cmp e.0 ys))
      (λ (e : Path × Joined (List Rights) (List Rights)). joined_user_differences shared e ≡ user_changes_at accounts f later g e.0)
      (λ e is. (λ i. shared_differences shared e.0
      ((is.0 ∙ find_values path_cmp (there accounts f) path_cmp_exact e.0 f.files.entries) i)
      ((is.1 ∙ find_values path_cmp (there later g) path_cmp_exact e.0 g.files.entries) i)) ∙ at_path e.0) (joined path_cmp xs ys)
      (each_joined path_cmp path_cmp_total path_cmp_exact xs ys
      (values_rise path_cmp (there accounts f) f.files.entries f.files.sorted) (values_rise path_cmp (there later g) g.files.entries g.files.sorted)))
      ∙ ap (flat_map (user_changes_at accounts f later g)) (same_keys path_cmp (there accounts f) (there later g) f.files.entries g.files.entries)

-- what differs between two tables that show the rights of users is what changed
pub user_differences_are_changes : UserDifferencesAreChanges
user_differences_are_changes accounts f later g old new lone ds a b are = (
  are.lone_are ∙ (λ i. lone_of_both (a.users i) (b.users i)),
  are.are
      ∙ (λ i. shared_lines_differences (shared_of_both (a.users i) (b.users i)) old.lines.items new.lines.items)
      ∙ along_paths accounts f later g old.lines.items new.lines.items (a.lines ∙ rights_lines accounts f f.files.entries)
      (b.lines ∙ rights_lines later g g.files.entries),
)
