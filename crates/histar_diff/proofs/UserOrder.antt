-- The changes of users are listed by rising paths, and at each path in the order of the old script.
use Rattle.std.specs.Prelude.{◌≡◌, ℕ, ◌+◌, ◌<◌, ◌≤◌, ◌==◌, Bool, true, false, cond}
use Rattle.std.specs.Prelude.{if◌then◌else◌, T, List, [], ◌∷◌, ◌++◌, length, None, Some, refl}
use Rattle.std.specs.List.{cons_option, filter, filter_map, flat_map, slice_index_or}
use Rattle.std.proofs.Common.{append_assoc, ap, arith, sym, ◌∙◌, subst}
use Rattle.std.proofs.lemmas.Bool.{false_from_ne_true, lt-ltb}
use Rattle.std.proofs.lemmas.List.{get_or_at, length-append, map-append}
use Rattle.std.proofs.lemmas.List.Sums.{position_or_len_is}
use Rattle.std.specs.declared.cmp.Ordering.TheVariants.{Less, Equal, Greater}
use Rattle.std.specs.Ordering.{is_lt, nat_cmp, ordering_then}
use Rattle.std.specs.Cmp.{tied_itself}
use Rattle.std.specs.FinMap.Entries.{below_all}
use Rattle.std.specs.FinMap.{is_sorted}
use Rattle.histar_flat.specs.Accounts.{Accounts}
use Rattle.histar_flat.specs.FlatState.{Flat, Node}
use Rattle.histar_flat.specs.Words.{Name, Path}
use Rattle.histar_flat.proofs.FileLemmas.{same_itself}
use Rattle.histar_flat.proofs.Finding.{both, first, less, second}
use Rattle.histar_base.specs.Paths.{path_cmp, same}
use Rattle.histar_base.proofs.PathLaws.{path_cmp_exact, path_cmp_total}
use Rattle.histar_rights.specs.Users.{somebody}
use Rattle.histar_diff.specs.declared.user_differences.UserDifference.{UserDifference}
use Rattle.histar_diff.specs.Joining.{joined}
use Rattle.histar_diff.specs.Sides.{same_letters}
use Rattle.histar_diff.specs.UserChanges.{is_user, shared_users, user_change, user_changes_at, user_letters}
use Rattle.histar_diff.specs.UserLaws.{HaveOwnNames, UserChangesRise, by_place, place_in, placed_cmp}
use Rattle.histar_diff.proofs.Joins.{behind, rest_of, sorted_joined}
use Rattle.histar_diff.proofs.JoinedValues.{keys_of}
use Rattle.histar_diff.proofs.UsersShown.{same_name}

-- a difference with its path and the place of its user as key
abbrev Entry : Type 0
Entry = (Path × ℕ) × UserDifference

-- ---- places

module _ (accounts : Accounts) where
  -- the places of these users rise from this one on
  Follow : ℕ → List Name → Type 0
  Follow n [] = Unit {0}
  Follow n (u ∷ us) = (n ≤ place_in accounts u) × Follow (place_in accounts u + 1) us

  -- they rise from a lesser one on too
  follow_lesser : (m n : ℕ) (us : List Name) → m ≤ n → Follow n us → Follow m us
  unfolding Follow
  follow_lesser m n [] le h = tt
  follow_lesser m n (u ∷ us) le h = let above = h.0 in (omega arith, h.1)

  -- they rise without some of them
  follow_filtered : (p : Name → Bool) (n : ℕ) (us : List Name) → Follow n us → Follow n (filter p us)
  unfolding Follow
  follow_filtered p n [] h = tt
  follow_filtered p n (u ∷ us) h = by (p u) (follow_filtered p (place_in accounts u + 1) us h.1)
    where
      by : (b : Bool) → Follow (place_in accounts u + 1) (filter p us) → Follow n (cond b (u ∷ filter p us) (filter p us))
      by true later = (h.0, later)
      by false later = let above = h.0 in follow_lesser n (place_in accounts u + 1) (filter p us) (omega arith) later

  -- the place of a user, if names are its own
  own_place : HaveOwnNames accounts → (front : List Name) (u : Name) (us : List Name) → front ++ u ∷ us ≡ somebody accounts
      → place_in accounts u ≡ length front
  own_place own front u us e =
      let names = somebody accounts in
      let long : length names ≡ length front + length (u ∷ us) = ap length (sym e) ∙ length-append front (u ∷ us) in
      let at : slice_index_or names (length front) u ≡ u =
      ap (λ ns. slice_index_or ns (length front) u) (sym e) ∙ get_or_at front u us u (length front) refl in
      position_or_len_is (same u) names (length front) u (omega arith)
      (λ k lt. false_from_ne_true (same u (slice_index_or names k u)) (λ same_one.
      own k (length front) u lt (omega arith) (sym (same_name u (slice_index_or names k u) same_one) ∙ sym at)))
      (λ lt. ap (same u) at ∙ same_itself u)

  -- the places of the users of a script rise
  follow_all : HaveOwnNames accounts → (front us : List Name) → front ++ us ≡ somebody accounts → Follow (length front) us
  unfolding Follow
  follow_all own front [] e = tt
  follow_all own front (u ∷ us) e =
      let at = own_place own front u us e in (
        omega arith,
        subst (λ n. Follow n us) (length-append front (u ∷ []) ∙ ap (λ n. n + 1) (sym at))
            (follow_all own (front ++ u ∷ []) us (append_assoc front (u ∷ []) us ∙ e)),
      )

less_number : (m n : ℕ) → m < n → nat_cmp m n ≡ Less
less_number m n h = ap (λ b. cond b Less (cond (m == n) Equal Greater)) (lt-ltb m n h)

-- ---- one path

module _ (accounts : Accounts) (f : Flat) (later : Accounts) (g : Flat) where
  module _ (q : Path) where
    -- the changes of these users at the path, with their keys
    abbrev entries : List Name → List Entry
    entries us = by_place accounts (filter_map (user_change accounts f later g q) us)

    -- the change of a user, if its letters differ, and then those of others
    abbrev more : Bool → Name → List Name → List Entry
    more alike u us = by_place accounts (cons_option (if alike then None else Some (record {
      path = q;
      user = u;
      before = user_letters accounts f q u;
      after = user_letters later g q u;
    })) (filter_map (user_change accounts f later g q) us))

    -- the changes of two users at a path are in the order of their places
    in_order : (m n : ℕ) → m < n → T (is_lt (placed_cmp (q, m) (q, n)))
    in_order m n h =
        subst (λ o. T (is_lt o))
        (sym (ap (λ o. ordering_then o (nat_cmp m n)) (tied_itself path_cmp_total q) ∙ less_number m n h)) tt

    below_entries : (n : ℕ) (us : List Name) → Follow accounts (n + 1) us → (rest : List Entry) → T (below_all placed_cmp (q, n) rest)
        → T (below_all placed_cmp (q, n) (entries us ++ rest))
    unfolding Follow
    below_entries n [] h rest k = k
    below_entries n (u ∷ us) h rest k =
        by (same_letters (user_letters accounts f q u) (user_letters later g q u))
        (below_entries n us (let above = h.0 in follow_lesser accounts (n + 1) (place_in accounts u + 1) us (omega arith) h.1) rest k)
      where
        by : (alike : Bool) → T (below_all placed_cmp (q, n) (entries us ++ rest)) → T (below_all placed_cmp (q, n) (more alike u us ++ rest))
        by true after = after
        by false after =
            let above = h.0 in
            both (is_lt (placed_cmp (q, n) (q, place_in accounts u))) _ (in_order n (place_in accounts u) (omega arith)) after

    entries_rise : (n : ℕ) (us : List Name) → Follow accounts n us → (rest : List Entry) → T (is_sorted placed_cmp rest)
        → ((k : ℕ) → T (below_all placed_cmp (q, k) rest)) → T (is_sorted placed_cmp (entries us ++ rest))
    unfolding Follow
    entries_rise n [] h rest s k = s
    entries_rise n (u ∷ us) h rest s k =
        by (same_letters (user_letters accounts f q u) (user_letters later g q u)) (entries_rise (place_in accounts u + 1) us h.1 rest s k)
      where
        by : (alike : Bool) → T (is_sorted placed_cmp (entries us ++ rest)) → T (is_sorted placed_cmp (more alike u us ++ rest))
        by true after = after
        by false after =
            both (below_all placed_cmp (q, place_in accounts u) (entries us ++ rest)) _
            (below_entries (place_in accounts u) us h.1 rest (k (place_in accounts u))) after

    -- a lesser path is less than all of them
    above_entries : (z : Path) (n : ℕ) → path_cmp z q ≡ Less → (us : List Name) (rest : List Entry) → T (below_all placed_cmp (z, n) rest)
        → T (below_all placed_cmp (z, n) (entries us ++ rest))
    above_entries z n e [] rest k = k
    above_entries z n e (u ∷ us) rest k =
        by (same_letters (user_letters accounts f q u) (user_letters later g q u)) (above_entries z n e us rest k)
      where
        by : (alike : Bool) → T (below_all placed_cmp (z, n) (entries us ++ rest)) → T (below_all placed_cmp (z, n) (more alike u us ++ rest))
        by true after = after
        by false after =
            both (is_lt (placed_cmp (z, n) (q, place_in accounts u))) _
            (subst (λ o. T (is_lt (ordering_then o (nat_cmp n (place_in accounts u))))) (sym e) tt) after

  -- ---- all paths

  module _ {A : Type 0} where
    -- the changes at these paths, with their keys
    abbrev rows : List (Path × A) → List Entry
    rows ls = by_place accounts (flat_map (user_changes_at accounts f later g) (keys_of ls))

    one_row : (l : Path × A) (ls : List (Path × A)) → rows (l ∷ ls) ≡ entries l.0 (shared_users accounts later) ++ rows ls
    one_row l ls = map-append (λ (d : UserDifference). ((d.path, place_in accounts d.user), d)) (user_changes_at accounts f later g l.0)
        (flat_map (user_changes_at accounts f later g) (keys_of ls))

    rows_above : (z : Path) (n : ℕ) (ls : List (Path × A)) → T (below_all path_cmp z ls) → T (below_all placed_cmp (z, n) (rows ls))
    rows_above z n [] h = tt
    rows_above z n (l ∷ ls) h =
        subst (λ es. T (below_all placed_cmp (z, n) es)) (sym (one_row l ls))
        (above_entries l.0 z n (less (path_cmp z l.0) (first (is_lt (path_cmp z l.0)) (below_all path_cmp z ls) h)) (shared_users accounts later)
        (rows ls) (rows_above z n ls (second (is_lt (path_cmp z l.0)) (below_all path_cmp z ls) h)))

    rows_rise : Follow accounts 0 (shared_users accounts later) → (ls : List (Path × A)) → T (is_sorted path_cmp ls)
        → T (is_sorted placed_cmp (rows ls))
    rows_rise follow [] s = tt
    rows_rise follow (l ∷ ls) s =
        subst (λ es. T (is_sorted placed_cmp es)) (sym (one_row l ls))
        (entries_rise l.0 0 (shared_users accounts later) follow (rows ls)
        (rows_rise follow ls (rest_of path_cmp path_cmp_total path_cmp_exact l ls s))
        (λ n. rows_above l.0 n ls (behind path_cmp path_cmp_total path_cmp_exact l ls s)))

-- changes are in order, each at most once
pub user_changes_rise : UserChangesRise
user_changes_rise accounts f later g own =
    rows_rise accounts f later g
    (follow_filtered accounts (is_user later) 0 (somebody accounts) (follow_all accounts own [] (somebody accounts) refl))
    (joined path_cmp f.files.entries g.files.entries)
    (sorted_joined path_cmp path_cmp_total path_cmp_exact Node Node f.files.entries g.files.entries f.files.sorted g.files.sorted)
