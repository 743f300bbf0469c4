-- What it means that nothing is listed for users.
use Rattle.std.specs.Prelude.{◌≡◌, Bool, true, false, not, ◌&&◌, List, [], ◌∷◌, Option, None, Some, option_map, refl}
use Rattle.std.proofs.Common.{ap, sym, ◌∙◌, subst}
use Rattle.std.proofs.lemmas.Bool.{and_from, false_from_ne_true, or_left, true≢false}
use Rattle.histar_flat.specs.declared.calls.CallLine.{CallLine}
use Rattle.histar_flat.specs.Accounts.{Accounts}
use Rattle.histar_flat.specs.Classes.{Process}
use Rattle.histar_flat.specs.Files.{get}
use Rattle.histar_flat.specs.FlatState.{Flat, Node}
use Rattle.histar_flat.specs.Meaning.{boot, flat_end}
use Rattle.histar_flat.specs.Words.{Name, Path, ProcName}
use Rattle.histar_flat.proofs.FileLemmas.{same_itself}
use Rattle.histar_base.specs.Paths.{same, same_path}
use Rattle.std.specs.Cmp.Lexicographic.{bytes_decides, pointwise_decides}
use Rattle.histar_rights.specs.Laws.{LettersAre}
use Rattle.histar_rights.specs.Users.{rights_of_user}
use Rattle.histar_rights.proofs.ByUser.{letters_of_users_are_replies}
use Rattle.histar_diff.specs.declared.user_differences.UserDifference.{UserDifference}
use Rattle.histar_diff.specs.declared.users.LoneUser.{LoneUser}
use Rattle.histar_diff.specs.Changes.{AnswersAre, IsAnsweredBy}
use Rattle.histar_diff.specs.Gains.{gives_more, new_users, user_gains}
use Rattle.histar_diff.specs.Sides.{letters, same_rights}
use Rattle.histar_diff.specs.UserChanges.{is_gone, is_listed, is_new_user, is_user, lone_users, user_changes, user_rights}
use Rattle.histar_diff.specs.UserLaws.{IsFreeProcessOf, NoUserGainsIsNoMore, NothingHasChangedForUsers, UsersAreAnsweredAlike}
use Rattle.histar_diff.proofs.Letters.{gives_none, no_more, same_pass, same_rights_are}
use Rattle.histar_diff.proofs.UserListing.{any_agree, any_filtered, lone_users_are_listed, none_pass, user_changes_are_listed}
use Rattle.histar_diff.proofs.UserListing.{user_gains_are_listed}

-- ---- empty lists

-- a list of users that lists none is empty
none_lone : (ls : List LoneUser) → ((u : Name) → is_gone ls u ≡ false) → ((u : Name) → is_new_user ls u ≡ false) → ls ≡ []
none_lone [] gone new = refl
none_lone (l ∷ ls) gone new = by l.is_new refl
  where
    by : (b : Bool) → l.is_new ≡ b → l ∷ ls ≡ []
    by true e =
        absurd (true≢false (sym (or_left (l.is_new && same l.user l.user) (is_new_user ls l.user)
        (and_from l.is_new (same l.user l.user) e (same_itself l.user))) ∙ new l.user))
    by false e =
        absurd (true≢false (sym (or_left (not l.is_new && same l.user l.user) (is_gone ls l.user)
        (and_from (not l.is_new) (same l.user l.user) (ap not e) (same_itself l.user))) ∙ gone l.user))

-- a list of changes that lists none is empty
none_listed : (ds : List UserDifference) → ((q : Path) (u : Name) → is_listed ds q u ≡ false) → ds ≡ []
none_listed [] h = refl
none_listed (d ∷ ds) h =
    absurd (true≢false (sym (or_left (same_path d.path d.path && same d.user d.user) (is_listed ds d.path d.user)
    (and_from (same_path d.path d.path) (same d.user d.user) ((pointwise_decides bytes_decides d.path d.path).1 refl) (same_itself d.user)))
    ∙ h d.path d.user))

-- ---- nothing is listed

module _ (accounts : Accounts) (f : Flat) (later : Accounts) (g : Flat) where
  module _ (none : (lone_users accounts later ≡ []) × (user_changes accounts f later g ≡ [])) where
    no_one_gone : (u : Name) → is_user accounts u ≡ true → is_user later u ≡ false → ⊥
    no_one_gone u a b =
        true≢false (sym (((lone_users_are_listed accounts later u).0).1 (a, b)) ∙ ap (λ ls. is_gone ls u) none.0)

    no_one_new : (u : Name) → is_user accounts u ≡ false → is_user later u ≡ true → ⊥
    no_one_new u a b =
        true≢false (sym (((lone_users_are_listed accounts later u).1).1 (a, b)) ∙ ap (λ ls. is_new_user ls u) none.0)

    -- both scripts have the same users
    same_users : (u : Name) → is_user accounts u ≡ is_user later u
    same_users u = by (is_user accounts u) refl (is_user later u) refl
      where
        by : (a : Bool) → is_user accounts u ≡ a → (b : Bool) → is_user later u ≡ b → is_user accounts u ≡ is_user later u
        by true e true d = e ∙ sym d
        by true e false d = absurd (no_one_gone u e d)
        by false e true d = absurd (no_one_new u e d)
        by false e false d = e ∙ sym d

    -- each user has the same letters
    same_rights_of : (q : Path) (u : Name) → is_user accounts u ≡ true → user_rights accounts f q u ≡ user_rights later g q u
    same_rights_of q u a = by (same_rights (user_rights accounts f q u) (user_rights later g q u)) refl
      where
        by : (same : Bool) → same_rights (user_rights accounts f q u) (user_rights later g q u) ≡ same
            → user_rights accounts f q u ≡ user_rights later g q u
        by true e = same_rights_are (user_rights accounts f q u) (user_rights later g q u) e
        by false e =
            absurd (true≢false (sym ((user_changes_are_listed accounts f later g q u).1 (
              a,
              sym (same_users u) ∙ a,
              λ same. true≢false (sym (same_pass (user_rights accounts f q u) (user_rights later g q u) same) ∙ e),
            )) ∙ ap (λ ds. is_listed ds q u) none.1))

pub nothing_has_changed_for_users : NothingHasChangedForUsers
nothing_has_changed_for_users accounts f later g = (
  λ none. record { users = same_users accounts f later g none; rights = same_rights_of accounts f later g none },
  λ alike. (
    none_lone (lone_users accounts later)
        (λ u. false_from_ne_true (is_gone (lone_users accounts later) u) (λ e.
        let h = ((lone_users_are_listed accounts later u).0).0 e in
        true≢false (sym h.0 ∙ alike.users u ∙ h.1)))
        (λ u. false_from_ne_true (is_new_user (lone_users accounts later) u) (λ e.
        let h = ((lone_users_are_listed accounts later u).1).0 e in
        true≢false (sym h.1 ∙ sym (alike.users u) ∙ h.0))),
    none_listed (user_changes accounts f later g)
        (λ q u. false_from_ne_true (is_listed (user_changes accounts f later g) q u) (λ e.
        let h = (user_changes_are_listed accounts f later g q u).0 e in
        h.2 (alike.rights q u h.0))),
  ),
)

-- ---- gains

again : (b c : Bool) → (b && (b && c)) ≡ (b && c)
again true c = refl
again false c = refl

never : (b c : Bool) → (b && (not b && c)) ≡ false
never true c = refl
never false c = refl

module _ (lone : List LoneUser) (u : Name) where
  -- of the new users those are new that are
  new_kept : is_new_user (new_users lone) u ≡ is_new_user lone u
  new_kept =
      any_filtered (λ (l : LoneUser). l.is_new) (λ l. l.is_new && same u l.user) lone
      ∙ any_agree (λ (l : LoneUser). l.is_new && (l.is_new && same u l.user)) (λ l. l.is_new && same u l.user)
      (λ l. again l.is_new (same u l.user)) lone

  -- and none is gone
  gone_left : is_gone (new_users lone) u ≡ false
  gone_left =
      any_filtered (λ (l : LoneUser). l.is_new) (λ l. not l.is_new && same u l.user) lone
      ∙ any_agree (λ (l : LoneUser). l.is_new && (not l.is_new && same u l.user)) (λ l. false) (λ l. never l.is_new (same u l.user)) lone
      ∙ none_pass lone

pub no_user_gains_is_no_more : NoUserGainsIsNoMore
no_user_gains_is_no_more accounts f later g = (
  λ none.
      let users : (u : Name) → is_user later u ≡ true → is_user accounts u ≡ true = λ u b.
      was accounts later u b (λ a.
      true≢false (sym (((lone_users_are_listed accounts later u).1).1 (a, b))
      ∙ sym (new_kept (lone_users accounts later) u) ∙ ap (λ ls. is_new_user ls u) none.0)) in
      record {
        users = users;
        rights = λ q u b. no_more (user_rights accounts f q u) (user_rights later g q u)
            (false_from_ne_true (gives_more (user_rights accounts f q u) (user_rights later g q u)) (λ more.
            true≢false (sym ((user_gains_are_listed accounts f later g q u).1 (users u b, b, more)) ∙ ap (λ ds. is_listed ds q u) none.1)));
      },
  λ same. (
    none_lone (new_users (lone_users accounts later)) (gone_left (lone_users accounts later))
        (λ u. new_kept (lone_users accounts later) u ∙ false_from_ne_true (is_new_user (lone_users accounts later) u) (λ e.
        let h = ((lone_users_are_listed accounts later u).1).0 e in
        true≢false (sym (same.users u h.1) ∙ h.0))),
    none_listed (user_gains (user_changes accounts f later g))
        (λ q u. false_from_ne_true (is_listed (user_gains (user_changes accounts f later g)) q u) (λ e.
        let h = (user_gains_are_listed accounts f later g q u).0 e in
        true≢false (sym h.2 ∙ gives_none (user_rights accounts f q u) (user_rights later g q u) (same.rights q u h.1)))),
  ),
)
  where
    was : (accounts later : Accounts) (u : Name) → is_user later u ≡ true → (is_user accounts u ≡ false → ⊥)
        → is_user accounts u ≡ true
    was accounts later u b h = by (is_user accounts u) refl
      where
        by : (a : Bool) → is_user accounts u ≡ a → is_user accounts u ≡ true
        by true e = e
        by false e = absurd (h e)

-- ---- answers

-- the rights of a user at a path are the answers of a free process of this user
answered : (accounts : Accounts) (calls : List CallLine) (u : Name) (me : ProcName) → IsFreeProcessOf accounts calls u me → (q : Path)
    → IsAnsweredBy accounts calls me q (user_rights accounts (flat_end accounts (boot accounts) calls) q u)
answered accounts calls u me free q =
    let f = flat_end accounts (boot accounts) calls in
    let node = get f.files q in
    subst (λ (process : Option Process). AnswersAre accounts calls me q (letters (option_map (rights_of_user accounts f u q) node)) node process)
    (sym free.runs) (by node refl)
  where
    by : (node : Option Node) → get (flat_end accounts (boot accounts) calls).files q ≡ node
        → AnswersAre accounts calls me q (letters (option_map (rights_of_user accounts (flat_end accounts (boot accounts) calls) u q) node)) node
        (Some free.process)
    by None at = refl
    by (Some there) at = λ number.
        subst (λ v. LettersAre accounts calls me number q there (rights_of_user accounts (flat_end accounts (boot accounts) calls) v q there))
        free.user
        (letters_of_users_are_replies accounts calls me free.process free.runs free.in_none free.holds_none q there at number)

pub users_are_answered_alike : UsersAreAnsweredAlike
users_are_answered_alike accounts later calls more no_lone none u is me other free another q =
    let f = flat_end accounts (boot accounts) calls in
    let g = flat_end later (boot later) more in
    record {
      letters = user_rights accounts f q u;
      before = answered accounts calls u me free q;
      after = subst (IsAnsweredBy later more other q) (sym (same_rights_of accounts f later g (no_lone, none) q u is))
          (answered later more u other another q);
    }
