-- The label of a class shows the class, except for its jobs.
use Rattle.std.proofs.Common.{◌≡◌, ◌≢◌, ℕ, zero, suc, ◌+◌, ◌<◌, ◌≤◌, ◌==◌, Bool, true, false, inl, inr, ◌&&◌, ◌||◌, List, [], ◌∷◌, length}
use Rattle.std.proofs.Common.{None, Some, arith, refl, sym, ap, ◌∙◌, if◌then◌else◌}
use Rattle.std.specs.Prelude.{position, slice_get}
use Rattle.std.proofs.lemmas.Bool.Decides.{eqb_tells}
use Rattle.std.proofs.lemmas.Option.{none-some, same_Some}
use Rattle.histar_base.specs.Paths.{same}
use Rattle.histar_level.specs.Levels.{Levels, level_of, default_of}
use Rattle.histar_flat.specs.declared.calls.User.{User}
use Rattle.histar_flat.specs.Words.{Name}
use Rattle.histar_flat.specs.Accounts.{Group, Accounts, user_number, group_number}
use Rattle.histar_label.specs.Exceptions.{IsCanonical}
use Rattle.histar_label.proofs.Canonical.{exceptions_of-from_exceptions}
use Rattle.histar_level.specs.declared.level.Level.{Level}
use Rattle.histar_level.specs.declared.level.Level.TheVariants.{L0, L1, L3}
use Rattle.histar_label.specs.Levels.{constant}
use Rattle.histar_label.proofs.Readers.{level_of-constant, default_of-constant}
use Rattle.histar_layout.specs.Categories.{read_category, write_category, group_owner, scratch_label}
use Rattle.histar_layout.specs.Labelling.{guarded_by, written_by}
use Rattle.histar_layout.specs.ShownClass.{class_at, group_class_at, group_class_from, is_plain_level, is_unnamed, is_all_plain, class_from}
use Rattle.histar_layout.specs.ShownClass.{class_shown}
use Rattle.histar_layout.specs.declared.shown.ShownClass.TheVariants as shown
use Rattle.histar_layout.specs.declared.class.Class.{Class}
use Rattle.histar_layout.specs.declared.class.Class.TheVariants.{Private, Readable, Open, Scratch, Group as Grouped}
use Rattle.histar_layout.specs.ClassLabels.{IsRisingFrom, first_after_groups, owned_label, class_label, HasJobs, without_jobs}
use Rattle.histar_layout.specs.ClassLabels.{ClassesAreShown}
use Rattle.histar_layout.proofs.Members.{is_in, mapped_from, equal_itself}
use Rattle.histar_layout.proofs.LabelLevels.{guarded_level, at_guarded}
use Rattle.histar_layout.proofs.Declared.{equal_names, placed, user_range, group_range}
use Rattle.histar_layout.proofs.Rising.{not_among}

-- ---- the users and the groups one after another

module _ (label : Levels) where
  -- a group that the label doesn't name is passed over
  group_passed : (group : Group) (groups : List Group) (k : ℕ) → is_unnamed label k ≡ true
      → group_class_from label k (group ∷ groups) ≡ group_class_from label (k + 1) groups
  group_passed group groups k is =
      ap (λ (b : Bool). if b then group_class_from label (k + 1) groups else group_class_at group.name
      (level_of label (read_category k)) (level_of label (write_category k))) is

  -- the first group that it names shows the class
  shown_by_group : (groups : List Group) (k m : ℕ) (group : Group) → slice_get groups m ≡ Some group
      → ((j : ℕ) → k ≤ j → j < k + m → is_unnamed label j ≡ true) → is_unnamed label (k + m) ≡ false
      → group_class_from label k groups ≡ group_class_at group.name (level_of label (read_category (k + m))) (level_of label (write_category (k + m)))
  shown_by_group [] k m group at before named = absurd (none-some group at)
  shown_by_group (first ∷ groups) k zero group at before named =
      let here : k + zero ≡ k = omega arith in
      let same : first ≡ group = same_Some first group at in
      ap (λ (b : Bool). if b then group_class_from label (k + 1) groups else group_class_at first.name
      (level_of label (read_category k)) (level_of label (write_category k)))
      (ap (is_unnamed label) (sym here) ∙ named)
      ∙ (λ i. group_class_at (same i).name (level_of label (read_category (sym here i))) (level_of label (write_category (sym here i))))
  shown_by_group (first ∷ groups) k (suc m) group at before named =
      let next : k + 1 + m ≡ k + suc m = omega arith in
      group_passed first groups k (before k (omega arith) (omega arith))
      ∙ shown_by_group groups (k + 1) m group at (λ j low high. before j (omega (arith, low)) (omega (arith, high)))
      (ap (is_unnamed label) next ∙ named)
      ∙ ap (λ (i : ℕ). group_class_at group.name (level_of label (read_category i)) (level_of label (write_category i))) next

  -- where it names none, the class is open, or there is none
  shown_by_no_group : (groups : List Group) (k : ℕ)
      → ((j : ℕ) → k ≤ j → j < k + length groups → is_unnamed label j ≡ true)
      → group_class_from label k groups ≡ (if is_all_plain label then Some shown.Open else None)
  shown_by_no_group [] k unnamed = refl
  shown_by_no_group (group ∷ groups) k unnamed =
      group_passed group groups k (unnamed k (omega arith) (omega arith))
      ∙ shown_by_no_group groups (k + 1) (λ j low high. unnamed j (omega (arith, low)) (omega (arith, high)))

  module _ (groups : List Group) where
    -- a user whom the label doesn't name is passed over
    passed_over : (u : User) (users : List User) (k : ℕ) → is_unnamed label k ≡ true
        → class_from label k groups (u ∷ users) ≡ class_from label (k + 1) groups users
    passed_over u users k is =
        ap (λ (b : Bool).
        if b then class_from label (k + 1) groups users else class_at u.name (level_of label (read_category k))
        (level_of label (write_category k))) is

    -- the first user whom it names shows the class
    shown_by : (users : List User) (k m : ℕ) (u : User) → slice_get users m ≡ Some u
        → ((j : ℕ) → k ≤ j → j < k + m → is_unnamed label j ≡ true) → is_unnamed label (k + m) ≡ false
        → class_from label k groups users ≡ class_at u.name (level_of label (read_category (k + m))) (level_of label (write_category (k + m)))
    shown_by [] k m u at before named = absurd (none-some u at)
    shown_by (v ∷ users) k zero u at before named =
        let here : k + zero ≡ k = omega arith in
        let same : v ≡ u = same_Some v u at in
        ap (λ (b : Bool).
        if b then class_from label (k + 1) groups users else class_at v.name (level_of label (read_category k))
        (level_of label (write_category k))) (ap (is_unnamed label) (sym here) ∙ named)
        ∙ (λ i. class_at (same i).name (level_of label (read_category (sym here i))) (level_of label (write_category (sym here i))))
    shown_by (v ∷ users) k (suc m) u at before named =
        let next : k + 1 + m ≡ k + suc m = omega arith in
        passed_over v users k (before k (omega arith) (omega arith))
        ∙ shown_by users (k + 1) m u at (λ j low high. before j (omega (arith, low)) (omega (arith, high))) (ap (is_unnamed label) next ∙ named)
        ∙ ap (λ (i : ℕ). class_at u.name (level_of label (read_category i)) (level_of label (write_category i))) next

    -- where it names no user, the groups show the class
    shown_by_none : (users : List User) (k : ℕ) → ((j : ℕ) → k ≤ j → j < k + length users → is_unnamed label j ≡ true)
        → class_from label k groups users ≡ group_class_from label (k + length users) groups
    shown_by_none [] k unnamed = let here : k + 0 ≡ k = omega arith in ap (λ (i : ℕ). group_class_from label i groups) (sym here)
    shown_by_none (v ∷ users) k unnamed =
        let next : k + 1 + length users ≡ k + length (v ∷ users) = omega arith in
        passed_over v users k (unnamed k (omega arith) (omega arith))
        ∙ shown_by_none users (k + 1) (λ j low high. unnamed j (omega (arith, low)) (omega (arith, high)))
        ∙ ap (λ (i : ℕ). group_class_from label i groups) next

-- `{1}` names no category
all_plain : is_all_plain (constant L1) ≡ true
all_plain =
    (λ i. elim (exceptions_of-from_exceptions L1 [] no_exceptions i) as (λ _. Bool)
    [ [] ↦ is_plain_level (default_of (constant L1)) | e ∷ es ↦ false ])
    ∙ ap is_plain_level (default_of-constant L1)
  where
    no_exceptions : IsCanonical L1 []
    no_exceptions = record { rising = λ i j less within. absurd (omega (arith, within)); differ = λ k d within. absurd (omega (arith, within)) }

-- ---- the levels that a label has at the categories of users and groups

-- numbers that differ
unequal : (q c : ℕ) → q ≢ c → (q == c) ≡ false
unequal q c other = elim (eqb_tells q c) [ inl e ↦ absurd (other e.1) | inr e ↦ e.0 ]

-- a list of one number contains only this one
is_one : (c : ℕ) → is_in (c ∷ []) c ≡ true
is_one c = ap (λ b. b || false) (equal_itself c)

is_other : (q c : ℕ) → q ≢ c → is_in (c ∷ []) q ≡ false
is_other q c other = ap (λ b. b || false) (unequal q c other)

-- the label `{s:3 .., w:0 .., 1}`, by the tests of both lists
module _ (S W : List ℕ) where
  level_by : (q : ℕ) (s w : Bool) → is_in S q ≡ s → is_in W q ≡ w → level_of (guarded_by S W) q ≡ guarded_level s w
  level_by q s w secret written = at_guarded S W q ∙ (λ i. guarded_level (secret i) (written i))

  unnamed_by : (j : ℕ) → is_in S (read_category j) ≡ false → is_in W (read_category j) ≡ false
      → is_in S (write_category j) ≡ false → is_in W (write_category j) ≡ false
      → is_unnamed (guarded_by S W) j ≡ true
  unnamed_by j a b c d =
      (λ i. is_plain_level (level_by (read_category j) false false a b i)
      && is_plain_level (level_by (write_category j) false false c d i))

-- a name is that of a declared user, at this place
pub record IsDeclaredUser (accounts : Accounts) (name : Name) (i : ℕ) : Type 0 where
  pub place : ℕ
  pub user : User
  pub at : slice_get accounts.users place ≡ Some user
  pub named : user.name ≡ name
  pub within : place < length accounts.users
  pub number : place + 1 ≡ i

user_at : (accounts : Accounts) (name : Name) (i : ℕ) → user_number accounts name ≡ Some i → IsDeclaredUser accounts name i
user_at accounts name i e =
    let k = mapped_from (λ k. k + 1) (position (λ (u : User). same u.name name) accounts.users) i e in
    let at = placed (λ (u : User). same u.name name) accounts.users k.0 k.1 in
    record { place = k.0; user = at.0; at = at.1; named = equal_names at.0.name name at.2; within = at.3; number = k.2 }

-- a name is that of a declared group, at this place
pub record IsDeclaredGroup (accounts : Accounts) (name : Name) (k : ℕ) : Type 0 where
  pub place : ℕ
  pub group : Group
  pub at : slice_get accounts.groups place ≡ Some group
  pub named : group.name ≡ name
  pub within : place < length accounts.groups
  pub number : place + 1 ≡ k

group_at : (accounts : Accounts) (name : Name) (k : ℕ) → group_number accounts name ≡ Some k → IsDeclaredGroup accounts name k
group_at accounts name k e =
    let m = mapped_from (λ m. m + 1) (position (λ (group : Group). same group.name name) accounts.groups) k e in
    let at = placed (λ (group : Group). same group.name name) accounts.groups m.0 m.1 in
    record { place = m.0; group = at.0; at = at.1; named = equal_names at.0.name name at.2; within = at.3; number = m.2 }

-- ---- the classes that labels show

module _ (accounts : Accounts) (label : Levels) where
  -- A label shows the user of this number where it names this user's categories, with these levels, and no user's before it.
  shows_user : (name : Name) (i : ℕ) (read write : Level) → user_number accounts name ≡ Some i → ((j : ℕ) → j < i → is_unnamed label j ≡ true)
      → (is_plain_level read && is_plain_level write) ≡ false → level_of label (read_category i) ≡ read → level_of label (write_category i) ≡ write
      → class_shown accounts label ≡ class_at name read write
  unfolding class_shown
  shows_user name i read write numbered before named at_read at_write =
      let u = user_at accounts name i numbered in
      let number : 1 + u.place ≡ i = omega (arith, u.number) in
      shown_by label accounts.groups accounts.users 1 u.place u.user u.at
      (λ j low high. before j (omega (arith, high, number)))
      (ap (is_unnamed label) number ∙ (λ k. is_plain_level (at_read k) && is_plain_level (at_write k)) ∙ named)
      ∙ (λ k. class_at (u.named k) ((ap (λ n. level_of label (read_category n)) number ∙ at_read) k)
      ((ap (λ n. level_of label (write_category n)) number ∙ at_write) k))

  -- where it names no user's categories, the groups show the class
  past_users : ((j : ℕ) → j ≤ length accounts.users → is_unnamed label j ≡ true)
      → class_shown accounts label ≡ group_class_from label (1 + length accounts.users) accounts.groups
  unfolding class_shown
  past_users before = shown_by_none label accounts.groups accounts.users 1 (λ j low high. before j (omega (arith, high)))

  -- It shows the group of this number where it names this group's categories, with these levels, and no user's or group's before it.
  shows_group : (name : Name) (k : ℕ) → group_number accounts name ≡ Some k → ((j : ℕ) → j < length accounts.users + k → is_unnamed label j ≡ true)
      → level_of label (read_category (length accounts.users + k)) ≡ L3 → level_of label (write_category (length accounts.users + k)) ≡ L0
      → class_shown accounts label ≡ Some (shown.Group name)
  shows_group name k numbered before at_read at_write =
      let g = group_at accounts name k numbered in
      let range = group_range accounts name k numbered in
      let number : 1 + length accounts.users + g.place ≡ length accounts.users + k = omega (arith, g.number) in
      past_users (λ j low. before j (omega (arith, low, range.0)))
      ∙ shown_by_group label accounts.groups (1 + length accounts.users) g.place g.group g.at
      (λ j low high. before j (omega (arith, high, number)))
      (ap (is_unnamed label) number ∙ (λ i. is_plain_level (at_read i) && is_plain_level (at_write i)))
      ∙ (λ i. group_class_at (g.named i) ((ap (λ n. level_of label (read_category n)) number ∙ at_read) i)
      ((ap (λ n. level_of label (write_category n)) number ∙ at_write) i))

-- ---- the classes that the labels of classes show

-- the label of an object that one user or group alone reads and writes names no earlier owner's categories
owned_unnamed : (owner j : ℕ) → j < owner → is_unnamed (owned_label owner) j ≡ true
owned_unnamed owner j less = unnamed_by (read_category owner ∷ []) (write_category owner ∷ []) j
    (is_other (read_category j) (read_category owner) (λ e. omega (arith, e, less)))
    (is_other (read_category j) (write_category owner) (λ e. omega (arith, e, less)))
    (is_other (write_category j) (read_category owner) (λ e. omega (arith, e, less)))
    (is_other (write_category j) (write_category owner) (λ e. omega (arith, e, less)))

owned_read : (owner : ℕ) → level_of (owned_label owner) (read_category owner) ≡ L3
owned_read owner =
    level_by (read_category owner ∷ []) (write_category owner ∷ []) (read_category owner) true false
    (is_one (read_category owner)) (is_other (read_category owner) (write_category owner) (λ e. omega (arith, e)))

owned_write : (owner : ℕ) → level_of (owned_label owner) (write_category owner) ≡ L0
owned_write owner =
    level_by (read_category owner ∷ []) (write_category owner ∷ []) (write_category owner) false true
    (is_other (write_category owner) (read_category owner) (λ e. omega (arith, e))) (is_one (write_category owner))

-- nor does that of an object that a user alone writes
written_unnamed : (user j : ℕ) → j < user → is_unnamed (written_by (write_category user)) j ≡ true
written_unnamed user j less =
    unnamed_by [] (write_category user ∷ []) j refl
    (is_other (read_category j) (write_category user) (λ e. omega (arith, e, less))) refl
    (is_other (write_category j) (write_category user) (λ e. omega (arith, e, less)))

written_read : (user : ℕ) → level_of (written_by (write_category user)) (read_category user) ≡ L1
written_read user =
    level_by [] (write_category user ∷ []) (read_category user) false false refl
    (is_other (read_category user) (write_category user) (λ e. omega (arith, e)))

written_write : (user : ℕ) → level_of (written_by (write_category user)) (write_category user) ≡ L0
written_write user = level_by [] (write_category user ∷ []) (write_category user) false true refl (is_one (write_category user))

-- nor does that of an object that a user reads in jobs, whose categories come after those of the users
module _ (first user : ℕ) (jobs : List ℕ) (rising : IsRisingFrom first jobs) (known : write_category user < first) where
  not_read : (q : ℕ) → q < first → q ≢ read_category user → is_in (read_category user ∷ jobs) q ≡ false
  not_read q low other = (λ i. unequal q (read_category user) other i || not_among first jobs q rising low i)

  scratch_unnamed : (j : ℕ) → j < user → is_unnamed (scratch_label user jobs) j ≡ true
  scratch_unnamed j less = unnamed_by (read_category user ∷ jobs) [] j
      (not_read (read_category j) (omega (arith, known, less)) (λ e. omega (arith, e, less))) refl
      (not_read (write_category j) (omega (arith, known, less)) (λ e. omega (arith, e, less))) refl

  scratch_read : level_of (scratch_label user jobs) (read_category user) ≡ L3
  scratch_read =
      level_by (read_category user ∷ jobs) [] (read_category user) true false
      (ap (λ b. b || is_in jobs (read_category user)) (equal_itself (read_category user))) refl

  scratch_write : level_of (scratch_label user jobs) (write_category user) ≡ L1
  scratch_write =
      level_by (read_category user ∷ jobs) [] (write_category user) false false
      (not_read (write_category user) known (λ e. omega (arith, e))) refl

-- `{1}` names no category
open_unnamed : (j : ℕ) → is_unnamed (constant L1) j ≡ true
open_unnamed j = (λ i. is_plain_level (level_of-constant L1 (read_category j) i) && is_plain_level (level_of-constant L1 (write_category j) i))

-- the categories of a user come before those of jobs
pub before_jobs : (accounts : Accounts) (owner : Name) (user : ℕ) → user_number accounts owner ≡ Some user
    → write_category user < first_after_groups accounts
before_jobs accounts owner user numbered = let range = user_range accounts owner user numbered in omega (arith, range.1)

module _ (accounts : Accounts) (label : Levels) where
  -- the same for a label that equals the one that was found
  by_label : (found : Levels) → found ≡ label → (o : Class) → class_shown accounts found ≡ Some (without_jobs o)
      → class_shown accounts label ≡ Some (without_jobs o)
  by_label found is o shows = ap (class_shown accounts) (sym is) ∙ shows

  shown_at : (class : Class) → HasJobs accounts class → class_label accounts class ≡ Some label
      → class_shown accounts label ≡ Some (without_jobs class)
  shown_at (Private owner) jobs is =
      let at = mapped_from owned_label (user_number accounts owner) label is in
      by_label (owned_label at.0) at.2 (Private owner) (shows_user accounts (owned_label at.0) owner at.0 L3 L0 at.1
      (owned_unnamed at.0) refl (owned_read at.0) (owned_write at.0))
  shown_at (Readable owner) jobs is =
      let at = mapped_from (λ user. written_by (write_category user)) (user_number accounts owner) label is in
      by_label (written_by (write_category at.0)) at.2 (Readable owner)
      (shows_user accounts (written_by (write_category at.0)) owner at.0 L1 L0 at.1 (written_unnamed at.0) refl
      (written_read at.0) (written_write at.0))
  shown_at Open jobs is =
      by_label (constant L1) (same_Some (constant L1) label is) Open
      (past_users accounts (constant L1) (λ j low. open_unnamed j)
      ∙ shown_by_no_group (constant L1) accounts.groups (1 + length accounts.users) (λ j low high. open_unnamed j)
      ∙ ap (λ (b : Bool). if b then Some shown.Open else None) all_plain)
  shown_at (Scratch owner chain) jobs is =
      let at = mapped_from (λ user. scratch_label user chain) (user_number accounts owner) label is in
      let first = first_after_groups accounts in
      let known = before_jobs accounts owner at.0 at.1 in
      by_label (scratch_label at.0 chain) at.2 (Scratch owner chain)
      (shows_user accounts (scratch_label at.0 chain) owner at.0 L3 L1 at.1
      (scratch_unnamed first at.0 chain jobs known) refl (scratch_read first at.0 chain jobs known)
      (scratch_write first at.0 chain jobs known))
  shown_at (Grouped group) jobs is =
      let at = mapped_from (λ number. owned_label (group_owner (length accounts.users) number)) (group_number accounts group) label is in
      let owner = group_owner (length accounts.users) at.0 in
      by_label (owned_label owner) at.2 (Grouped group) (shows_group accounts (owned_label owner) group at.0 at.1
      (owned_unnamed owner) (owned_read owner) (owned_write owner))

-- The label of a class shows the class, except for its jobs.
pub classes_shown : ClassesAreShown
classes_shown accounts class label is = shown_at accounts label class is.jobs is.is
