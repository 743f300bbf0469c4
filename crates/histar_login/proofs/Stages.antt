-- The objects that the parts of boot add.
use Rattle.std.proofs.Common.{◌≡◌, ℕ, zero, suc, ◌+◌, ◌*◌, ◌<◌, ◌≤◌, List, [], ◌∷◌, ◌++◌, length, get_or, take, drop, add-zero, None, Some, refl, sym}
use Rattle.std.proofs.Common.{ap, ◌∙◌, subst, arith, append_assoc, append-nil}
use Rattle.std.proofs.lemmas.List.{length-append, length-take-le, take-append-drop}
use Rattle.std.specs.List.{range_with_len}
use Rattle.histar_flat.specs.declared.calls.User.{User}
use Rattle.histar_flat.specs.Accounts.{Accounts}
use Rattle.histar_level.specs.declared.level.Level.TheVariants.{Star, L1, L2, L3}
use Rattle.histar_level.specs.Levels.{Levels}
use Rattle.histar_label.specs.Levels.{constant}
use Rattle.histar_object.specs.declared.objects.Entry.TheVariants.{Login}
use Rattle.histar_object.specs.declared.objects.Kind.TheVariants.{Segment, Gate}
use Rattle.histar_object.specs.declared.objects.Object.{Object}
use Rattle.histar_object.specs.State.{Found}
use Rattle.histar_rules.specs.declared.raw.RawCall.{RawCall}
use Rattle.histar_rules.specs.declared.raw.RawCall.TheVariants as calls
use Rattle.histar_rules.specs.Sound.{root_number}
use Rattle.histar_syscall.specs.KernelModel.{KernelModel, Called, IsUnchanged}
use Rattle.histar_layout.specs.Categories.{read_category, write_category, owners_of}
use Rattle.histar_layout.specs.Labelling.{secret_of}
use Rattle.histar_programs.specs.Start.{numbered, gate_label, gate_clearance, owners_label, owners_clearance, of_user, of_users}
use Rattle.histar_login.specs.Boot.{category_calls, user_calls, password_call, gate_call}
use Rattle.histar_programs.specs.Start.{boot_thread_number}
use Rattle.histar_login.specs.Booting.{Part, and_then, next_number, next_made, Boots, BootsOn, BeginsOn, BeginsUser, BeginsUsers, HasBegun, HasRoom}
use Rattle.histar_login.specs.Booting.{Allows, IsUnderWay, IsAnywhere, IsBefore, IsBeforeUser, two_categories, categories_part, user_part, users_part}
use Rattle.histar_login.proofs.StartLemmas.{numbered_next, range-suc}
use Rattle.histar_login.proofs.GroupLemmas.{owners_within}
use Rattle.histar_login.proofs.MadeLabels.{made_constant, secret_made, both_made, owners_below}
use Rattle.histar_login.proofs.AllowedCalls.{category_allowed, segment_allowed, gate_allowed, root_there}
use Rattle.histar_login.proofs.Beginnings.{begun_at, begun_more, begun_after}
use Rattle.histar_login.proofs.Parts.{one_category, one_object, boots_category, boots_shared}
use Rattle.histar_programs.proofs.StartLengths.{length-numbered}

-- parts with equal fields are equal
pub boots_same : (first now : KernelModel) (p q : Part) → Boots first now p → p.calls ≡ q.calls → p.linked ≡ q.linked
    → p.objects ≡ q.objects → p.categories ≡ q.categories → Boots first now q
boots_same first now p q boots calls linked objects categories =
    subst (Boots first now)
    (λ i. record { calls = calls i; linked = linked i; objects = objects i; categories = categories i }) boots

module _ (first k0 : KernelModel) (p : Part) (b0 : Boots first k0 p) where
  -- the rules allow the first of two categories
  pub first_allowed : HasRoom 2 0 p → Allows k0 calls.MakeCategory
  first_allowed room = category_allowed first k0 p b0 (omega (arith, room.room_for_categories))

  -- boot stops before the two categories
  pub two_begun_none : (new : KernelModel) → IsUnchanged k0 new → HasBegun first new p.calls two_categories.calls
  two_begun_none new same = begun_at first k0 new p.calls p two_categories.calls 0 b0 same (sym (append-nil p.calls)) (omega arith)

  module _ (k1 : KernelModel) (c1 : Called k0 k1 boot_thread_number calls.MakeCategory None) where
    -- the rules allow the second category
    pub second_allowed : HasRoom 2 0 p → Allows k1 calls.MakeCategory
    second_allowed room = category_allowed first k1 (one_category p) (boots_category first k0 k1 p b0 c1) (omega (arith, room.room_for_categories))

    -- boot stops between the two categories
    pub two_begun_one : (new : KernelModel) → IsUnchanged k1 new → HasBegun first new p.calls two_categories.calls
    two_begun_one new same =
        begun_at first k1 new p.calls (one_category p) two_categories.calls 1 (boots_category first k0 k1 p b0 c1) same
        refl (omega arith)

    -- both categories were made
    pub two_boot : (k2 : KernelModel) → Called k1 k2 boot_thread_number calls.MakeCategory None → Boots first k2 (and_then p two_categories)
    two_boot k2 c2 =
        let b1 : Boots first k1 (one_category p) = boots_category first k0 k1 p b0 c1 in
        let b2 : Boots first k2 (one_category (one_category p)) = boots_category first k1 k2 (one_category p) b1 c2 in
        boots_same first k2 (one_category (one_category p)) (and_then p two_categories) b2
        (append_assoc p.calls (calls.MakeCategory ∷ []) (calls.MakeCategory ∷ [])) (sym (append-nil p.linked))
        (sym (append-nil p.objects)) (omega arith)

-- one more pair of categories is one more pair of calls at the end
category_calls-more : (count : ℕ) → category_calls (suc count) ≡ category_calls count ++ calls.MakeCategory ∷ calls.MakeCategory ∷ []
category_calls-more zero = refl
category_calls-more (suc count) = ap (λ (l : List RawCall). calls.MakeCategory ∷ calls.MakeCategory ∷ l) (category_calls-more count)

-- no categories
pub categories_none : (k : KernelModel) → BootsOn k k IsAnywhere (categories_part 0)
categories_none k first p at b =
    boots_same first k p (and_then p (categories_part 0)) b (sym (append-nil p.calls)) (sym (append-nil p.linked))
    (sym (append-nil p.objects)) (omega arith)

-- two categories more
pub categories_next : (old mid new : KernelModel) (i : ℕ) → BootsOn old mid IsAnywhere (categories_part i)
    → BootsOn mid new IsAnywhere two_categories → BootsOn old new IsAnywhere (categories_part (i + 1))
categories_next old mid new i before more first p at b =
    let so_far = and_then p (categories_part i) in
    let all = and_then p (categories_part (i + 1)) in
    let next : suc i ≡ i + 1 = omega arith in
    boots_same first new (and_then so_far two_categories) all (more first so_far tt (before first p tt b))
    (append_assoc p.calls (category_calls i) (calls.MakeCategory ∷ calls.MakeCategory ∷ [])
    ∙ ap (λ (l : List RawCall). p.calls ++ l) (sym (category_calls-more i) ∙ ap category_calls next))
    (append-nil (p.linked ++ [])) (append-nil (p.objects ++ [])) (omega arith)

-- where there is room for categories, there is room for two of them
pub categories_room : (old mid : KernelModel) (count i : ℕ) → i < count → IsUnderWay (HasRoom (2 * count) 0) old
    → BootsOn old mid IsAnywhere (categories_part i) → IsUnderWay (HasRoom 2 0) mid
categories_room old mid count i lt way before =
    let room = way.2 in (
      way.0,
      and_then way.1 (categories_part i),
      record {
        room_for_categories = omega (arith, lt, room.room_for_categories);
        room_for_objects = omega (arith, room.room_for_objects, length-append {A = Found} way.1.objects []);
      },
      before way.0 way.1 tt way.3,
    )

-- the calls that come after the first ones
calls_behind : (i count : ℕ) → i < count → (rest : List RawCall) × (category_calls count ≡ (category_calls i ++ two_categories.calls) ++ rest)
calls_behind i zero lt = absurd (omega (arith, lt))
calls_behind zero (suc count) lt = (category_calls count, refl)
calls_behind (suc i) (suc count) lt =
    let behind = calls_behind i count (omega (arith, lt)) in
    (behind.0, ap (λ (l : List RawCall). calls.MakeCategory ∷ calls.MakeCategory ∷ l) behind.1)

-- boot stops in the middle of categories
pub categories_begun : (old mid new : KernelModel) (count i : ℕ) → i < count
    → BootsOn old mid IsAnywhere (categories_part i) → BeginsOn mid new IsAnywhere two_categories
    → BeginsOn old new IsAnywhere (categories_part count)
categories_begun old mid new count i lt before begins first p at b =
    let behind = calls_behind i count lt in
    let begun = begins first (and_then p (categories_part i)) tt (before first p tt b) in
    subst (HasBegun first new p.calls) (sym behind.1)
    (begun_more first new p.calls (category_calls i ++ two_categories.calls) behind.0
    (begun_after first new p.calls (category_calls i) two_categories.calls begun))

-- the password that was made is this one
pub password_made : (old new : KernelModel) (i : ℕ) (password revealed : List ℕ) → password ≡ revealed
    → Called old new boot_thread_number (password_call i password) None
    → Called old new boot_thread_number (password_call i revealed) None
password_made old new i password revealed same called = subst (λ (l : List ℕ). Called old new boot_thread_number (password_call i l) None) same called

-- the gate that was made gives the categories of these users and groups
pub gate_made : (old new : KernelModel) (i : ℕ) (owners revealed : List ℕ) → owners ≡ revealed
    → Called old new boot_thread_number (gate_call i owners) None
    → Called old new boot_thread_number (gate_call i revealed) None
gate_made old new i owners revealed same called = subst (λ (l : List ℕ). Called old new boot_thread_number (gate_call i l) None) same called

-- a gate that is to be made is allowed under equal texts
pub gate_allowed_for : (k : KernelModel) (i : ℕ) (owners listed revealed : List ℕ) → owners ≡ listed → listed ≡ revealed
    → Allows k (gate_call i revealed) → Allows k (gate_call i owners)
gate_allowed_for k i owners listed revealed same is allowed = subst (λ (l : List ℕ). Allows k (gate_call i l)) (sym (same ∙ is)) allowed

module _ (accounts : Accounts) (i : ℕ) (user : User) (first k0 : KernelModel) (p : Part) (b0 : Boots first k0 p) where
  -- the rules allow to make the password
  pub password_allowed : IsBeforeUser accounts i p → i < 256 → i ≤ length accounts.users → length user.password ≤ 4096
      → Allows k0 (password_call i user.password)
  password_allowed at small within few =
      segment_allowed first k0 p b0 root_number (root_there first k0 p b0) (omega (arith, at.0, small))
      (secret_of (read_category i) (write_category i)) user.password
      (secret_made (next_made p) (read_category i) (write_category i) (omega arith) (omega (arith, at.1, within))
      (omega arith) (omega (arith, at.1, within))) few

  -- boot stops before the password
  pub user_begun_none : (new : KernelModel) → IsUnchanged k0 new → HasBegun first new p.calls (user_calls accounts i user)
  user_begun_none new same = begun_at first k0 new p.calls p (user_calls accounts i user) 0 b0 same (sym (append-nil p.calls)) (omega arith)

  module _ (k1 : KernelModel) (c1 : Called k0 k1 boot_thread_number (password_call i user.password) None) where
    -- the password
    password_object : Object Levels
    password_object = record { label = secret_of (read_category i) (write_category i); kind = Segment user.password }

    -- the objects with the password
    p1 : Part
    p1 = one_object p (password_call i user.password) password_object

    b1 : Boots first k1 p1
    unfolding p1 password_object
    b1 = boots_shared first k0 k1 p b0 (password_call i user.password) password_object c1 c1.state

    -- the rules allow to make the gate
    pub login_allowed : IsBeforeUser accounts i p → i < 256 → i ≤ length accounts.users → Allows k1 (gate_call i (owners_of accounts i user.name))
    unfolding p1
    login_allowed at small within =
        let owners = owners_of accounts i user.name in
        let all = owners_within accounts i user.name (next_made p1) within at.1 in
        gate_allowed first k1 p1 b1 root_number (root_there first k1 p1 b1)
        (omega (arith, at.0, small, length-append p.objects (Some password_object ∷ []))) (owners_label owners)
        (owners_clearance owners) (Login i)
        (both_made (next_made p1) L1 Star (constant L1) owners all (made_constant (next_made p1) L1))
        (both_made (next_made p1) L2 L3 (constant L2) owners all (made_constant (next_made p1) L2))
        (owners_below owners)

    -- boot stops before the gate
    pub user_begun_one : (new : KernelModel) → IsUnchanged k1 new → HasBegun first new p.calls (user_calls accounts i user)
    unfolding p1
    user_begun_one new same = begun_at first k1 new p.calls p1 (user_calls accounts i user) 1 b1 same refl (omega arith)

    -- the password and the gate of a user
    pub user_boots : (k2 : KernelModel) → next_number p ≡ 1 + 2 * i
        → Called k1 k2 boot_thread_number (gate_call i (owners_of accounts i user.name)) None
        → Boots first k2 (and_then p (user_part accounts i user))
    unfolding p1 password_object
    user_boots k2 at c2 =
        let o2 : Object Levels = record { label = gate_label accounts i user.name; kind = Gate (gate_clearance accounts i user.name) (Login i) } in
        let p2 : Part = one_object p1 (gate_call i (owners_of accounts i user.name)) o2 in
        let b2 : Boots first k2 p2 = boots_shared first k1 k2 p1 b1 (gate_call i (owners_of accounts i user.name)) o2 c2 c2.state in
        let next : next_number p1 ≡ 2 + 2 * i = omega (arith, at, length-append p.objects (Some password_object ∷ [])) in
        boots_same first k2 p2 (and_then p (user_part accounts i user)) b2
        (append_assoc p.calls (password_call i user.password ∷ []) (gate_call i (owners_of accounts i user.name) ∷ []))
        (append_assoc p.linked (next_number p ∷ []) (next_number p1 ∷ []) ∙ (λ j. p.linked ++ at j ∷ next j ∷ []))
        (append_assoc p.objects (Some password_object ∷ []) (Some o2 ∷ []))
        (omega arith)

-- the objects of no user
pub users_none : (accounts : Accounts) (k : KernelModel) (users : List User) → BootsOn k k (IsBefore 3) (users_part accounts (take 0 users))
users_none accounts k users first p at b =
    boots_same first k p (and_then p (users_part accounts [])) b (sym (append-nil p.calls)) (sym (append-nil p.linked))
    (sym (append-nil p.objects)) (omega arith)

-- a range with two numbers more
row_next : (m n : ℕ) → n ≡ m + 1 → range_with_len 3 (2 * m) ++ (1 + 2 * n) ∷ (2 + 2 * n) ∷ [] ≡ range_with_len 3 (2 * n)
row_next m n e =
    let first : 1 + 2 * n ≡ 3 + 2 * m = omega arith in
    let second : 2 + 2 * n ≡ 3 + suc (2 * m) = omega arith in
    let twice : suc (suc (2 * m)) ≡ 2 * n = omega arith in
    (λ j. range_with_len 3 (2 * m) ++ first j ∷ second j ∷ [])
    ∙ sym (append_assoc (range_with_len 3 (2 * m)) ((3 + 2 * m) ∷ []) ((3 + suc (2 * m)) ∷ []))
    ∙ ap (λ (l : List ℕ). l ++ (3 + suc (2 * m)) ∷ []) (sym (range-suc 3 (2 * m)))
    ∙ sym (range-suc 3 (suc (2 * m))) ∙ ap (range_with_len 3) twice

-- the objects of one user more
pub users_next : (accounts : Accounts) (old mid new : KernelModel) (users : List User) (i : ℕ) (user : User)
    → i < length users → user ≡ get_or users i user
    → BootsOn old mid (IsBefore 3) (users_part accounts (take i users))
    → BootsOn mid new (IsBefore (1 + 2 * (i + 1))) (user_part accounts (i + 1) user)
    → BootsOn old new (IsBefore 3) (users_part accounts (take (i + 1) users))
users_next accounts old mid new users i user lt is before more first p at b =
    let some = take i users in
    let so_far = and_then p (users_part accounts some) in
    let all = and_then p (users_part accounts (take (i + 1) users)) in
    let count : length some ≡ i = length-take-le i users (omega arith) in
    let one_more : length (take (i + 1) users) ≡ i + 1 = length-take-le (i + 1) users (omega arith) in
    let next : next_number so_far ≡ 1 + 2 * (i + 1) =
    omega (arith, at, count, length-append p.objects (of_users accounts some), length-numbered accounts 1 some) in
    boots_same first new (and_then so_far (user_part accounts (i + 1) user)) all (more first so_far next (before first p at b))
    (append_assoc p.calls (numbered (user_calls accounts) 1 some) (user_calls accounts (i + 1) user)
    ∙ ap (λ (l : List RawCall). p.calls ++ l) (sym (numbered_next (user_calls accounts) users i user lt is)))
    (append_assoc p.linked (range_with_len 3 (2 * length some)) ((1 + 2 * (i + 1)) ∷ (2 + 2 * (i + 1)) ∷ [])
    ∙ ap (λ (l : List ℕ). p.linked ++ l)
    (row_next (length some) (i + 1) (omega (arith, count))
    ∙ ap (λ (n : ℕ). range_with_len 3 (2 * n)) (sym one_more)))
    (append_assoc p.objects (of_users accounts some) (of_user accounts (i + 1) user)
    ∙ ap (λ (l : List Found). p.objects ++ l) (sym (numbered_next (of_user accounts) users i user lt is)))
    (omega arith)

-- where boot comes to one user after another
pub users_way : (accounts : Accounts) (old mid : KernelModel) (i : ℕ) → i < length accounts.users
    → IsUnderWay (IsBeforeUser accounts 1) old
    → BootsOn old mid (IsBefore 3) (users_part accounts (take i accounts.users))
    → IsUnderWay (IsBeforeUser accounts (i + 1)) mid
users_way accounts old mid i lt way before =
    let some = take i accounts.users in
    let count : length some ≡ i = length-take-le i accounts.users (omega (arith, lt)) in (
      way.0,
      and_then way.1 (users_part accounts some),
      (omega (arith, way.2.0, count, length-append way.1.objects (of_users accounts some), length-numbered accounts 1 some), omega (arith, way.2.1)),
      before way.0 way.1 way.2.0 way.3,
    )

-- the numbered list of two lists together is that of the first, and then that of the second
numbered_split : {A B : Type 0} (f : ℕ → B → List A) (k : ℕ) (xs ys : List B)
    → numbered f k (xs ++ ys) ≡ numbered f k xs ++ numbered f (k + length xs) ys
numbered_split f k [] ys = ap (λ n. numbered f n ys) (sym (add-zero k))
numbered_split f k (x ∷ xs) ys =
    let later : k + 1 + length xs ≡ k + length (x ∷ xs) = omega arith in
    ap (λ l. f k x ++ l) (numbered_split f (k + 1) xs ys) ∙ ap (λ n. f k x ++ (numbered f (k + 1) xs ++ numbered f n ys)) later
    ∙ sym (append_assoc (f k x) (numbered f (k + 1) xs) (numbered f (k + length (x ∷ xs)) ys))

-- boot stops at a user
pub users_begun : (accounts : Accounts) (old mid new : KernelModel) (i : ℕ) (user : User) → i < length accounts.users
    → user ≡ get_or accounts.users i user
    → BootsOn old mid (IsBefore 3) (users_part accounts (take i accounts.users))
    → BeginsUser mid new accounts (i + 1) user → BeginsUsers old new accounts
users_begun accounts old mid new i user lt is before begins first p at b =
    let some = take i accounts.users in
    let rest = drop (i + 1) accounts.users in
    let so_far = and_then p (users_part accounts some) in
    let count : length some ≡ i = length-take-le i accounts.users (omega (arith, lt)) in
    let next : next_number so_far ≡ 1 + 2 * (i + 1) =
    omega (arith, at, count, length-append p.objects (of_users accounts some), length-numbered accounts 1 some) in
    let begun = begins first so_far next (before first p at b) in
    let all : numbered (user_calls accounts) 1 accounts.users
    ≡ (numbered (user_calls accounts) 1 some ++ user_calls accounts (i + 1) user)
    ++ numbered (user_calls accounts) (1 + length (take (i + 1) accounts.users)) rest =
    ap (numbered (user_calls accounts) 1) (sym (take-append-drop (i + 1) accounts.users))
    ∙ numbered_split (user_calls accounts) 1 (take (i + 1) accounts.users) rest
    ∙ ap (λ (l : List RawCall). l ++ numbered (user_calls accounts) (1 + length (take (i + 1) accounts.users)) rest)
    (numbered_next (user_calls accounts) accounts.users i user lt is) in
    subst (HasBegun first new p.calls) (sym all)
    (begun_more first new p.calls (numbered (user_calls accounts) 1 some ++ user_calls accounts (i + 1) user)
    (numbered (user_calls accounts) (1 + length (take (i + 1) accounts.users)) rest)
    (begun_after first new p.calls (numbered (user_calls accounts) 1 some) (user_calls accounts (i + 1) user) begun))
