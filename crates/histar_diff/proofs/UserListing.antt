-- Which users, and which paths and users, are listed.
use Rattle.std.specs.Prelude.{◌≡◌, ◌≢◌, ◌↔◌, Bool, true, false, not, ◌&&◌, ◌||◌, cond}
use Rattle.std.specs.Prelude.{if◌then◌else◌, is_some, List, [], ◌∷◌}
use Rattle.std.specs.Prelude.{Option, None, Some, option_map, refl}
use Rattle.std.specs.List.{cons_option, filter, filter_map, flat_map, list_any}
use Rattle.std.proofs.Common.{ap, inl, inr, sym, ◌∙◌}
use Rattle.std.proofs.lemmas.Bool.{and_parts, true≢false}
use Rattle.std.proofs.lemmas.List.Folds.{list_any-append}
use Rattle.std.specs.Ordering.{eq_by_cmp}
use Rattle.histar_flat.specs.Accounts.{Accounts, has}
use Rattle.histar_flat.specs.Files.{get}
use Rattle.histar_flat.specs.FlatState.{Flat, Node}
use Rattle.histar_flat.specs.Words.{Name, Path}
use Rattle.histar_flat.proofs.FileLemmas.{same_path_found, ties}
use Rattle.histar_base.specs.Paths.{path_cmp, same, same_path}
use Rattle.histar_base.proofs.PathLaws.{path_cmp_exact, path_cmp_total}
use Rattle.histar_rights.specs.declared.rights.Rights.{Rights}
use Rattle.histar_rights.specs.Users.{rights_of_user, somebody}
use Rattle.histar_diff.specs.declared.user_differences.UserDifference.{UserDifference}
use Rattle.histar_diff.specs.declared.users.LoneUser.{LoneUser}
use Rattle.histar_diff.specs.Joining.{joined}
use Rattle.histar_diff.specs.Gains.{gives_more, user_gains}
use Rattle.histar_diff.specs.Sides.{letters, same_letters}
use Rattle.histar_diff.specs.UserChanges.{is_gone, is_listed, is_new_user, is_user, lone_users, paths_of_both, shared_users}
use Rattle.histar_diff.specs.UserChanges.{user_change, user_changes, user_changes_at, user_letters}
use Rattle.histar_diff.specs.UserLaws.{LoneUsersAreListed, UserChangesAreListed, UserGainsAreListed}
use Rattle.histar_diff.specs.UserTables.{lone_among, lone_user, user_difference}
use Rattle.histar_diff.proofs.Joins.{find_joined, found}
use Rattle.histar_diff.proofs.JoinedValues.{found_among}
use Rattle.histar_diff.proofs.Letters.{none_more, same_pass, same_rights_are}
use Rattle.histar_diff.proofs.UsersShown.{same_name}

-- ---- tests

and_true : (a : Bool) → (a && true) ≡ a
and_true true = refl
and_true false = refl

and_false : (a : Bool) → (a && false) ≡ false
and_false true = refl
and_false false = refl

or_false : (a : Bool) → (a || false) ≡ a
or_false true = refl
or_false false = refl

-- tests may change places
and_swap : (a b c : Bool) → (a && (b && c)) ≡ (b && (a && c))
and_swap true b c = refl
and_swap false b c = sym (and_false b)

and_grouped : (a b c : Bool) → ((a && b) && c) ≡ (a && (b && c))
and_grouped true b c = refl
and_grouped false b c = refl

and_turn : (a b : Bool) → (a && b) ≡ (b && a)
and_turn true b = sym (and_true b)
and_turn false b = sym (and_false b)

-- a test after another one counts only if that one passes
guarded : (a b c : Bool) → (a ≡ true → b ≡ c) → (a && b) ≡ (a && c)
guarded true b c h = h refl
guarded false b c h = refl

-- ---- lists

-- whether there is an element that passes
abbrev pub passes : {X : Type 0} → (X → Bool) → Option X → Bool
passes t None = false
passes t (Some x) = t x

-- a test that always fails passes for no element
pub none_pass : {X : Type 0} (xs : List X) → list_any (λ x. false) xs ≡ false
none_pass [] = refl
none_pass (x ∷ xs) = none_pass xs

module _ {X : Type 0} where
  -- tests that agree on each element agree on the list
  pub any_agree : (s t : X → Bool) → ((x : X) → s x ≡ t x) → (xs : List X) → list_any s xs ≡ list_any t xs
  any_agree s t h xs = λ i. list_any (λ x. h x i) xs

  -- a test that is the same for all elements can be made once
  pub any_guarded : (t : X → Bool) (b : Bool) (xs : List X) → list_any (λ x. t x && b) xs ≡ (list_any t xs && b)
  any_guarded t true xs = any_agree (λ x. t x && true) t (λ x. and_true (t x)) xs ∙ sym (and_true (list_any t xs))
  any_guarded t false xs =
      any_agree (λ x. t x && false) (λ x. false) (λ x. and_false (t x)) xs ∙ none_pass xs ∙ sym (and_false (list_any t xs))

  -- an element of those that are kept passes if one is kept and passes
  pub any_filtered : (p t : X → Bool) (xs : List X) → list_any t (filter p xs) ≡ list_any (λ x. p x && t x) xs
  any_filtered p t [] = refl
  any_filtered p t (x ∷ xs) = by (p x) (any_filtered p t xs)
    where
      by : (b : Bool) → list_any t (filter p xs) ≡ list_any (λ x. p x && t x) xs
          → list_any t (cond b (x ∷ filter p xs) (filter p xs)) ≡ ((b && t x) || list_any (λ x. p x && t x) xs)
      by true later = ap (λ b. t x || b) later
      by false later = later

module _ {X Y : Type 0} (t : Y → Bool) where
  any_flat : (F : X → List Y) (xs : List X) → list_any t (flat_map F xs) ≡ list_any (λ x. list_any t (F x)) xs
  any_flat F [] = refl
  any_flat F (x ∷ xs) = list_any-append t (F x) (flat_map F xs) ∙ ap (λ b. list_any t (F x) || b) (any_flat F xs)

  any_mapped : (h : X → Option Y) (xs : List X) → list_any t (filter_map h xs) ≡ list_any (λ x. passes t (h x)) xs
  any_mapped h [] = refl
  any_mapped h (x ∷ xs) = by (h x) (any_mapped h xs)
    where
      by : (o : Option Y) → list_any t (filter_map h xs) ≡ list_any (λ x. passes t (h x)) xs
          → list_any t (cons_option o (filter_map h xs)) ≡ (passes t o || list_any (λ x. passes t (h x)) xs)
      by None later = later
      by (Some y) later = ap (λ b. t y || b) later

-- ---- users

-- paths that pass the test are one
same_place : (q r : Path) → same_path q r ≡ true → q ≡ r
same_place q r e = elim (same_path_found q r) [ inl h ↦ h.1 | inr h ↦ absurd (true≢false (sym e ∙ h.0)) ]

-- a user of both scripts is one of each
is_shared : (accounts later : Accounts) (u : Name) → has (shared_users accounts later) u ≡ (is_user accounts u && is_user later u)
is_shared accounts later u =
    any_filtered (is_user later) (same u) (somebody accounts)
    ∙ any_agree (λ v. is_user later v && same u v) (λ v. same u v && is_user later u)
    (λ v. and_turn (is_user later v) (same u v)
    ∙ guarded (same u v) (is_user later v) (is_user later u) (λ e. ap (is_user later) (sym (same_name u v e)))) (somebody accounts)
    ∙ any_guarded (same u) (is_user later u) (somebody accounts)

module _ (kind : Bool → Bool) (u : Name) where
  -- a lone user of this name and kind
  abbrev is_one : LoneUser → Bool
  is_one l = kind l.is_new && same u l.user

  lone_passes : (is_new : Bool) (others : List Name) (v : Name)
      → passes is_one (lone_user is_new others v) ≡ (same u v && (kind is_new && not (has others u)))
  lone_passes is_new others v =
      by (has others v)
      ∙ guarded (same u v) (kind is_new && not (has others v)) (kind is_new && not (has others u))
      (λ e. ap (λ w. kind is_new && not (has others w)) (sym (same_name u v e)))
    where
      by : (b : Bool) → passes is_one (if b then None else Some (record { user = v; is_new = is_new })) ≡ (same u v && (kind is_new && not b))
      by true = sym (ap (λ b. same u v && b) (and_false (kind is_new)) ∙ and_false (same u v))
      by false = and_turn (kind is_new) (same u v) ∙ ap (λ b. same u v && b) (sym (and_true (kind is_new)))

  any_lone : (is_new : Bool) (names others : List Name)
      → list_any is_one (lone_among is_new names others) ≡ (has names u && (kind is_new && not (has others u)))
  any_lone is_new names others =
      any_mapped is_one (lone_user is_new others) names
      ∙ any_agree (λ v. passes is_one (lone_user is_new others v)) (λ v. same u v && (kind is_new && not (has others u)))
      (lone_passes is_new others) names
      ∙ any_guarded (same u) (kind is_new && not (has others u)) names

  any_lone_user : (accounts later : Accounts) → list_any is_one (lone_users accounts later)
      ≡ ((is_user accounts u && (kind false && not (is_user later u))) || (is_user later u && (kind true && not (is_user accounts u))))
  any_lone_user accounts later =
      list_any-append is_one (lone_among false (somebody accounts) (somebody later)) (lone_among true (somebody later) (somebody accounts))
      ∙ (λ i. any_lone false (somebody accounts) (somebody later) i || any_lone true (somebody later) (somebody accounts) i)

-- one test passes and the other doesn't
one_alone : (a b : Bool) → ((a && not b) ≡ true) ↔ ((a ≡ true) × (b ≡ false))
one_alone true true = (λ e. absurd (true≢false (sym e)), λ h. absurd (true≢false h.1))
one_alone true false = (λ e. (refl, refl), λ h. refl)
one_alone false b = (λ e. absurd (true≢false (sym e)), λ h. h.0)

-- a test that equals another one passes exactly if that does
pub passes_so : {P : Type 0} (a b : Bool) → a ≡ b → (b ≡ true) ↔ P → (a ≡ true) ↔ P
passes_so a b same so = (λ e. so.0 (sym same ∙ e), λ p. same ∙ so.1 p)

-- ---- the lists of lone users

pub lone_users_are_listed : LoneUsersAreListed
lone_users_are_listed accounts later u =
    let a = is_user accounts u in
    let b = is_user later u in
    let turned = one_alone b a in (
      passes_so (is_gone (lone_users accounts later) u) (a && not b)
          (any_lone_user not u accounts later ∙ ap (λ c. (a && not b) || c) (and_false b) ∙ or_false (a && not b)) (one_alone a b),
      passes_so (is_new_user (lone_users accounts later) u) (b && not a)
          (any_lone_user (λ c. c) u accounts later ∙ ap (λ c. c || (b && not a)) (and_false a))
          (λ e. let h = turned.0 e in (h.1, h.0), λ h. turned.1 (h.1, h.0)),
    )

-- ---- the list of changes

module _ (extra : UserDifference → Bool) (q : Path) (u : Name) where
  -- a difference that passes, of this path and user
  abbrev is_this : UserDifference → Bool
  is_this d = extra d && (same_path q d.path && same u d.user)

  -- the difference of a user at a path is this one if it passes and the path and the user are these
  this_passes : (r : Path) (v : Name) (before after : Option Rights)
      → passes is_this (user_difference r v before after) ≡ (same u v && (same_path q r && passes extra (user_difference r v before after)))
  this_passes r v before after = by (same_letters before after)
    where
      by : (b : Bool) → passes is_this (if b then None else Some (record { path = r; user = v; before = before; after = after }))
          ≡ (same u v && (same_path q r && passes extra (if b then None else Some (record { path = r; user = v; before = before; after = after }))))
      by true = sym (ap (λ b. same u v && b) (and_false (same_path q r)) ∙ and_false (same u v))
      by false =
          let pass = extra (record { path = r; user = v; before = before; after = after }) in
          and_turn pass (same_path q r && same u v) ∙ ap (λ b. b && pass) (and_turn (same_path q r) (same u v))
          ∙ and_grouped (same u v) (same_path q r) pass

  module _ (accounts : Accounts) (f : Flat) (later : Accounts) (g : Flat) where
    -- the change of a user at a path passes
    abbrev change_passes : Path → Name → Bool
    change_passes r v = passes extra (user_change accounts f later g r v)

    -- a change of this path and user is listed at a path if the path is this one
    at_path : (r : Path) → list_any is_this (user_changes_at accounts f later g r)
        ≡ (same_path q r && (has (shared_users accounts later) u && change_passes q u))
    at_path r =
        any_mapped is_this (user_change accounts f later g r) (shared_users accounts later)
        ∙ any_agree (λ v. passes is_this (user_change accounts f later g r v)) (λ v. same u v && (same_path q r && change_passes q u))
        (λ v. this_passes r v (user_letters accounts f r v) (user_letters later g r v)
        ∙ guarded (same u v) (same_path q r && change_passes r v) (same_path q r && change_passes q u)
        (λ e. guarded (same_path q r) (change_passes r v) (change_passes q u)
        (λ d i. change_passes (sym (same_place q r d) i) (sym (same_name u v e) i)))) (shared_users accounts later)
        ∙ any_guarded (same u) (same_path q r && change_passes q u) (shared_users accounts later)
        ∙ and_swap (has (shared_users accounts later) u) (same_path q r) (change_passes q u)

    at_paths : (paths : List Path) → list_any is_this (flat_map (user_changes_at accounts f later g) paths)
        ≡ (list_any (same_path q) paths && (has (shared_users accounts later) u && change_passes q u))
    at_paths paths =
        any_flat is_this (user_changes_at accounts f later g) paths
        ∙ any_agree (λ r. list_any is_this (user_changes_at accounts f later g r))
        (λ r. same_path q r && (has (shared_users accounts later) u && change_passes q u)) at_path paths
        ∙ any_guarded (same_path q) (has (shared_users accounts later) u && change_passes q u) paths

    -- a path is one of both states exactly if one of them has it
    path_there : list_any (same_path q) (paths_of_both f g) ≡ is_some (found (get f.files q) (get g.files q))
    path_there =
        any_agree (same_path q) (eq_by_cmp path_cmp q) (λ r. sym (ties q r)) (paths_of_both f g)
        ∙ sym (found_among path_cmp q (joined path_cmp f.files.entries g.files.entries))
        ∙ ap is_some (find_joined path_cmp path_cmp_total path_cmp_exact Node Node q f.files.entries g.files.entries f.files.sorted g.files.sorted)

    -- a user has a change only at a path that is there
    path_needed : (b : Bool) (n m : Option Node)
        → (is_some (found n m) && (b && passes extra (user_difference q u (option_map (rights_of_user accounts f u q) n)
        (option_map (rights_of_user later g u q) m))))
        ≡ (b && passes extra (user_difference q u (option_map (rights_of_user accounts f u q) n) (option_map (rights_of_user later g u q) m)))
    path_needed b None None = sym (and_false b)
    path_needed b None (Some m) = refl
    path_needed b (Some n) None = refl
    path_needed b (Some n) (Some m) = refl

    -- a change that passes is listed exactly for a user of both scripts whose change passes
    pub change_listed : list_any is_this (user_changes accounts f later g) ≡ ((is_user accounts u && is_user later u) && change_passes q u)
    change_listed =
        at_paths (paths_of_both f g)
        ∙ ap (λ b. b && (has (shared_users accounts later) u && change_passes q u)) path_there
        ∙ path_needed (has (shared_users accounts later) u) (get f.files q) (get g.files q)
        ∙ ap (λ b. b && change_passes q u) (is_shared accounts later u)

module _ (q : Path) (u : Name) (before after : Option Rights) where
  abbrev there : UserDifference
  there = record { path = q; user = u; before = before; after = after }

  -- there is a difference exactly if the letters differ
  differs : (passes (λ d. true) (user_difference q u before after) ≡ true) ↔ (letters before ≢ letters after)
  differs = by (same_letters before after) refl
    where
      by : (same : Bool) → same_letters before after ≡ same
          → (passes (λ (d : UserDifference). true) (if same then None else Some there) ≡ true) ↔ (letters before ≢ letters after)
      by true e = (λ found. absurd (true≢false (sym found)), λ h. absurd (h (same_rights_are (letters before) (letters after) e)))
      by false e = (λ found same. true≢false (sym (same_pass (letters before) (letters after) same) ∙ e), λ h. refl)

  abbrev gives : UserDifference → Bool
  gives d = gives_more (letters d.before) (letters d.after)

  -- there is a gain exactly if the new letters give more
  gains : (passes gives (user_difference q u before after) ≡ true) ↔ (gives_more (letters before) (letters after) ≡ true)
  gains = by (same_letters before after) refl
    where
      by : (same : Bool) → same_letters before after ≡ same
          → (passes gives (if same then None else Some there) ≡ true) ↔ (gives_more (letters before) (letters after) ≡ true)
      by true e = (
        λ found. absurd (true≢false (sym found)),
        λ h. absurd (true≢false (sym h ∙ none_more (letters before) (letters after) (same_rights_are (letters before) (letters after) e))),
      )
      by false e = (λ found. found, λ h. h)

-- two tests and a third one
three : {P : Type 0} (a b c : Bool) → (c ≡ true) ↔ P → (((a && b) && c) ≡ true) ↔ ((a ≡ true) × (b ≡ true) × P)
three a b c so = (
  λ e.
      let last = and_parts (a && b) c e in
      let front = and_parts a b last.0 in
      (front.0, front.1, so.0 last.1),
  λ h i. (h.0 i && h.1 i) && so.1 h.2 i,
)

pub user_changes_are_listed : UserChangesAreListed
user_changes_are_listed accounts f later g q u =
    passes_so (is_listed (user_changes accounts f later g) q u)
    ((is_user accounts u && is_user later u) && passes (λ d. true) (user_change accounts f later g q u))
    (change_listed (λ d. true) q u accounts f later g)
    (three (is_user accounts u) (is_user later u) (passes (λ d. true) (user_change accounts f later g q u))
    (differs q u (user_letters accounts f q u) (user_letters later g q u)))

pub user_gains_are_listed : UserGainsAreListed
user_gains_are_listed accounts f later g q u =
    let more = λ (d : UserDifference). gives_more (letters d.before) (letters d.after) in
    passes_so (is_listed (user_gains (user_changes accounts f later g)) q u)
    ((is_user accounts u && is_user later u) && passes more (user_change accounts f later g q u))
    (any_filtered more (λ d. same_path q d.path && same u d.user) (user_changes accounts f later g) ∙ change_listed more q u accounts f later g)
    (three (is_user accounts u) (is_user later u) (passes more (user_change accounts f later g q u))
    (gains q u (user_letters accounts f q u) (user_letters later g q u)))
