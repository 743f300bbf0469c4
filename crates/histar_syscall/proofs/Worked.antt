-- A kernel with a confined thread, made by granted calls from the empty one: the calls of that thread are granted, and are not visible; and
-- a call of the thread that owns the category is visible.
use Rattle.std.proofs.Common.{◌≡◌, ◌≢◌, ℕ, ◌≤◌, ◌==◌, Bool, true, false, [], ◌∷◌, None, Some, arith, refl, sym, ap, ◌∙◌, subst, lit<, if◌then◌else◌}
use Rattle.std.specs.Prelude.{nat_lt, option_map, ◌||◌}
use Rattle.std.specs.FinSet as set
use Rattle.std.specs.Cmp.{nat_cmp_total, unsigned_tied}
use mathlib.Core.Bool.{true≢false}
use Rattle.std.proofs.lemmas.Bool.{eq-eqb}
use Rattle.std.proofs.lemmas.List.Elements.{All-cons, All-head, All-nil}
use Rattle.histar_level.specs.declared.level.Level.{Level}
use Rattle.histar_level.specs.declared.level.Level.TheVariants.{Star, L0, L1, L2, L3}
use Rattle.histar_level.specs.Level.{rank, raised}
use Rattle.histar_level.specs.Levels.{Levels, level_of}
use Rattle.histar_label.specs.Levels.{constant, with_level, is_below, is_below_raised, has_star, is_made}
use Rattle.histar_label.proofs.Readers.{level_of-constant, level_of-with_level}
use Rattle.histar_label.proofs.Orders.{is_below-law, is_below_raised-law}
use Rattle.histar_label.proofs.Made.{is_made-constant, is_made-with_level}
use Rattle.histar_label.proofs.Stars.{has_star-none}
use Rattle.histar_object.specs.declared.objects.Kind.{Kind}
use Rattle.histar_object.specs.declared.objects.Kind.TheVariants.{Segment, Container, Thread, Gate}
use Rattle.histar_object.specs.declared.objects.Object.{Object}
use Rattle.histar_object.specs.Objects.{Objects, Numbers, no_objects, put, changed_at, with_new, kind_linking, linking, thread_of, links_in}
use Rattle.histar_object.specs.Objects.{kind_is_gate, is_gate}
use Rattle.histar_rules.specs.Rights.{kind_with_three_at, with_star_at, with_category}
use Rattle.histar_object.specs.State.{State, Found, with_object, root_object, boot_thread, empty_state}
use Rattle.histar_container.specs.Tree.{Address}
use Rattle.histar_container.proofs.Addresses.{inner}
use Rattle.histar_rules.specs.declared.raw.RawCall.{RawCall}
use Rattle.histar_rules.specs.declared.raw.RawCall.TheVariants.{MakeCategory, MakeSegment, MakeContainer, MakeThread}
use Rattle.histar_rules.specs.Rules.{check, Changes}
use Rattle.histar_rules.specs.Sound.{IsSound}
use Rattle.histar_rules.proofs.Sound.{sound_changes, sound_empty}
use Rattle.histar_rules.specs.Visible.{visible, untainted, IsTaintedCaller, AreConfined}
use Rattle.histar_rules.proofs.Tainted.{if_none}
use Rattle.histar_rules.proofs.TaintedMoves.{visible_stays}
use Rattle.histar_rules.proofs.TaintedCalls.{granted_moves}

-- a label whose levels are given by a function of the category
abbrev Levelled : Levels → (ℕ → Level) → Type 0
Levelled L f = (c : ℕ) → level_of L c ≡ f c

-- the labels of the example: 3 at category 2; a clearance that allows it; the root's; the owner's, and the owner's clearance
pub secret : Levels
secret = with_level (constant L1) 2 L3

pub secret_clearance : Levels
secret_clearance = with_level (constant L2) 2 L3

pub owner : Levels
owner = with_level (with_level (constant L1) 1 Star) 2 Star

pub owner_clearance : Levels
owner_clearance = with_level (with_level (constant L2) 1 L3) 2 L3

-- a label with one exception has two levels at most
one_level : (d : Level) (c : ℕ) (l : Level) (q : ℕ) → level_of (with_level (constant d) c l) q ≡ (if q == c then l else d)
one_level d c l q = level_of-with_level (constant d) c l q ∙ ap (λ (m : Level). if q == c then l else m) (level_of-constant d q)

two_levels : (d : Level) (b : ℕ) (m : Level) (c : ℕ) (l : Level) (q : ℕ)
    → level_of (with_level (with_level (constant d) b m) c l) q ≡ (if q == c then l else (if q == b then m else d))
two_levels d b m c l q = level_of-with_level (with_level (constant d) b m) c l q ∙ ap (λ (k : Level). if q == c then l else k) (one_level d b m q)

-- a label is below another where each of its levels is
below : (L M : Levels) (f g : ℕ → Level) → Levelled L f → Levelled M g → ((q : ℕ) → rank (f q) ≤ rank (g q)) → is_below L M ≡ true
below L M f g l m le =
    (is_below-law L M).1 (λ q. subst (λ (x : Level). rank x ≤ rank (level_of M q)) (sym (l q))
    (subst (λ (x : Level). rank (f q) ≤ rank x) (sym (m q)) (le q)))

below_raised : (L M : Levels) (f g : ℕ → Level) → Levelled L f → Levelled M g → ((q : ℕ) → rank (f q) ≤ raised (g q)) → is_below_raised L M ≡ true
below_raised L M f g l m le =
    (is_below_raised-law L M).1 (λ q. subst (λ (x : Level). rank x ≤ raised (level_of M q)) (sym (l q))
    (subst (λ (x : Level). rank (f q) ≤ raised x) (sym (m q)) (le q)))

-- the levels of each label
abbrev secret_at : ℕ → Level
secret_at q = if q == 2 then L3 else L1

abbrev secret_clearance_at : ℕ → Level
secret_clearance_at q = if q == 2 then L3 else L2

abbrev owner_at : ℕ → Level
owner_at q = if q == 2 then Star else (if q == 1 then Star else L1)

abbrev owner_clearance_at : ℕ → Level
owner_clearance_at q = if q == 2 then L3 else (if q == 1 then L3 else L2)

abbrev root_at : ℕ → Level
root_at q = if q == 1 then L0 else L1

secret_is : Levelled secret secret_at
unfolding secret
secret_is = one_level L1 2 L3

secret_clearance_is : Levelled secret_clearance secret_clearance_at
unfolding secret_clearance
secret_clearance_is = one_level L2 2 L3

owner_is : Levelled owner owner_at
unfolding owner
owner_is = two_levels L1 1 Star 2 Star

owner_clearance_is : Levelled owner_clearance owner_clearance_at
unfolding owner_clearance
owner_clearance_is = two_levels L2 1 L3 2 L3

root_is : Levelled root_object.label root_at
root_is = one_level L1 1 L0

-- the owner observes and modifies the root container
root_seen : is_below_raised root_object.label owner ≡ true
root_seen = below_raised root_object.label owner root_at owner_at root_is owner_is (λ q. by (q == 1) (q == 2))
  where
    by : (a b : Bool) → rank (if a then L0 else L1) ≤ raised (if b then Star else (if a then Star else L1))
    by true true = omega arith
    by true false = omega arith
    by false true = omega arith
    by false false = omega arith

root_open : is_below owner root_object.label ≡ true
root_open = below owner root_object.label owner_at root_at owner_is root_is (λ q. by (q == 1) (q == 2))
  where
    by : (a b : Bool) → rank (if b then Star else (if a then Star else L1)) ≤ rank (if a then L0 else L1)
    by true true = omega arith
    by true false = omega arith
    by false true = omega arith
    by false false = omega arith

-- the owner may give out 3 at the category
owner_secret : is_below owner secret ≡ true
owner_secret = below owner secret owner_at secret_at owner_is secret_is (λ q. by (q == 1) (q == 2))
  where
    by : (a b : Bool) → rank (if b then Star else (if a then Star else L1)) ≤ rank (if b then L3 else L1)
    by true true = omega arith
    by true false = omega arith
    by false true = omega arith
    by false false = omega arith

secret_owner : is_below secret owner_clearance ≡ true
secret_owner = below secret owner_clearance secret_at owner_clearance_at secret_is owner_clearance_is (λ q. by (q == 1) (q == 2))
  where
    by : (a b : Bool) → rank (if b then L3 else L1) ≤ rank (if b then L3 else (if a then L3 else L2))
    by true true = omega arith
    by true false = omega arith
    by false true = omega arith
    by false false = omega arith

clearance_owner : is_below secret_clearance owner_clearance ≡ true
clearance_owner =
    below secret_clearance owner_clearance secret_clearance_at owner_clearance_at secret_clearance_is owner_clearance_is
    (λ q. by (q == 1) (q == 2))
  where
    by : (a b : Bool) → rank (if b then L3 else L2) ≤ rank (if b then L3 else (if a then L3 else L2))
    by true true = omega arith
    by true false = omega arith
    by false true = omega arith
    by false false = omega arith

secret_seen : is_below_raised secret owner ≡ true
secret_seen = below_raised secret owner secret_at owner_at secret_is owner_is (λ q. by (q == 1) (q == 2))
  where
    by : (a b : Bool) → rank (if b then L3 else L1) ≤ raised (if b then Star else (if a then Star else L1))
    by true true = omega arith
    by true false = omega arith
    by false true = omega arith
    by false false = omega arith

-- a thread with 3 at the category observes and modifies objects that have it
secret_itself : is_below secret secret ≡ true
secret_itself = below secret secret secret_at secret_at secret_is secret_is (λ q. omega arith)

secret_seen_itself : is_below_raised secret secret ≡ true
secret_seen_itself = below_raised secret secret secret_at secret_at secret_is secret_is (λ q. by (q == 2))
  where
    by : (b : Bool) → rank (if b then L3 else L1) ≤ raised (if b then L3 else L1)
    by true = omega arith
    by false = omega arith

secret_cleared : is_below secret secret_clearance ≡ true
secret_cleared = below secret secret_clearance secret_at secret_clearance_at secret_is secret_clearance_is (λ q. by (q == 2))
  where
    by : (b : Bool) → rank (if b then L3 else L1) ≤ rank (if b then L3 else L2)
    by true = omega arith
    by false = omega arith

-- plain labels
plain_is : Levelled (constant L1) (λ q. L1)
plain_is = level_of-constant L1

owner_plain : is_below owner (constant L1) ≡ true
owner_plain = below owner (constant L1) owner_at (λ q. L1) owner_is plain_is (λ q. by (q == 1) (q == 2))
  where
    by : (a b : Bool) → rank (if b then Star else (if a then Star else L1)) ≤ 2
    by true true = omega arith
    by true false = omega arith
    by false true = omega arith
    by false false = omega arith

plain_owner : is_below (constant L1) owner_clearance ≡ true
plain_owner = below (constant L1) owner_clearance (λ q. L1) owner_clearance_at plain_is owner_clearance_is (λ q. by (q == 1) (q == 2))
  where
    by : (a b : Bool) → 2 ≤ rank (if b then L3 else (if a then L3 else L2))
    by true true = omega arith
    by true false = omega arith
    by false true = omega arith
    by false false = omega arith

plain_no_star : has_star (constant L1) ≡ false
plain_no_star = has_star-none (constant L1) (λ c star. let no : L1 ≡ Star = sym (level_of-constant L1 c) ∙ star in cc)

-- the label with 3 at the category names only made categories, and owns nothing
secret_made : is_made 3 secret ≡ true
unfolding secret
secret_made = is_made-with_level 3 (constant L1) 2 L3 (lit< tt) (lit< tt) (is_made-constant 3 L1)

secret_clearance_made : is_made 3 secret_clearance ≡ true
unfolding secret_clearance
secret_clearance_made = is_made-with_level 3 (constant L2) 2 L3 (lit< tt) (lit< tt) (is_made-constant 3 L2)

secret_no_star : has_star secret ≡ false
secret_no_star = has_star-none secret (λ c star. by (c == 2) (sym (secret_is c) ∙ star))
  where
    by : (b : Bool) → (if b then L3 else L1) ≡ Star → ⊥
    by true e = cc
    by false e = cc

-- The example. The boot thread makes a category, which it owns; a container with the category at 3; and in it a thread with 3 there too.
pub first_state : State
first_state = with_category empty_state 2

pub second_state : State
second_state = with_object first_state 1 (record { label = secret; kind = Container set.empty })

pub confined_state : State
confined_state = with_object second_state 3 (thread_of secret secret_clearance)

-- each of these calls is granted
category_granted : check empty_state 2 MakeCategory ≡ None
category_granted = refl

container_granted : check first_state 2 (MakeContainer 1 secret) ≡ None
unfolding first_state owner owner_clearance
container_granted = rw (root_seen, root_open, owner_secret, secret_owner, secret_made, secret_no_star) refl

thread_granted : check second_state 2 (MakeThread 3 secret secret_clearance) ≡ None
unfolding first_state second_state owner owner_clearance
thread_granted = rw (secret_seen, owner_secret, secret_cleared, clearance_owner, secret_made, secret_clearance_made) refl

-- so the state is sound
first_sound : IsSound first_state
unfolding first_state
first_sound = sound_changes empty_state first_state 2 MakeCategory sound_empty category_granted refl

second_sound : IsSound second_state
unfolding second_state
second_sound = sound_changes first_state second_state 2 (MakeContainer 1 secret) first_sound container_granted refl

pub confined_sound : IsSound confined_state
unfolding confined_state
confined_sound = sound_changes second_state confined_state 2 (MakeThread 3 secret secret_clearance) second_sound thread_granted refl

-- the new thread makes a segment beside itself, which is granted
pub confined_granted : check confined_state 4 (MakeSegment 3 secret []) ≡ None
unfolding first_state second_state confined_state
confined_granted = rw (secret_seen_itself, secret_itself, secret_cleared, secret_made, secret_no_star) refl

-- no object is a gate
abbrev NoGates : Objects Levels → Type 0
NoGates objects = (q : ℕ) → is_gate (objects q) ≡ false

if_no_gate : (b : Bool) (f g : Found) → is_gate f ≡ false → is_gate g ≡ false → is_gate (if b then f else g) ≡ false
if_no_gate true f g x y = x
if_no_gate false f g x y = y

map_no_gate : (change : Object Levels → Object Levels) (f : Found)
    → ((o : Object Levels) → kind_is_gate o.kind ≡ false → kind_is_gate (change o).kind ≡ false) → is_gate f ≡ false
    → is_gate (option_map change f) ≡ false
map_no_gate change None same e = refl
map_no_gate change (Some o) same e = same o e

put_no_gates : (objects : Objects Levels) (n : ℕ) (o : Object Levels) → kind_is_gate o.kind ≡ false → NoGates objects → NoGates (put objects n o)
put_no_gates objects n o plain none q = if_no_gate (q == n) (Some o) (objects q) plain (none q)

changed_no_gates : (objects : Objects Levels) (n : ℕ) (change : Object Levels → Object Levels)
    → ((o : Object Levels) → kind_is_gate o.kind ≡ false → kind_is_gate (change o).kind ≡ false) → NoGates objects
    → NoGates (changed_at objects n change)
changed_no_gates objects n change same none q =
    if_no_gate (q == n) (option_map change (objects q)) (objects q) (map_no_gate change (objects q) same (none q))
    (none q)

linking_no_gate : (n : ℕ) (k : Kind Levels) → kind_is_gate k ≡ false → kind_is_gate (kind_linking n k) ≡ false
linking_no_gate n (Segment bytes) e = refl
linking_no_gate n (Container links) e = refl
linking_no_gate n (Thread clearance) e = refl
linking_no_gate n (Gate clearance entry) e = e

owning_no_gate : (c : ℕ) (k : Kind Levels) → kind_is_gate k ≡ false → kind_is_gate (kind_with_three_at c k) ≡ false
owning_no_gate c (Segment bytes) e = refl
owning_no_gate c (Container links) e = refl
owning_no_gate c (Thread clearance) e = refl
owning_no_gate c (Gate clearance entry) e = e

new_no_gates : (objects : Objects Levels) (d n : ℕ) (o : Object Levels) → kind_is_gate o.kind ≡ false → NoGates objects
    → NoGates (with_new objects d n o)
new_no_gates objects d n o plain none =
    put_no_gates (changed_at objects d (linking n)) n o plain
    (changed_no_gates objects d (linking n) (λ p. linking_no_gate n p.kind) none)

confined_no_gates : NoGates confined_state.objects
unfolding first_state second_state confined_state
confined_no_gates =
    new_no_gates second_state.objects 3 4 (thread_of secret secret_clearance) refl
    (new_no_gates first_state.objects 1 3 (record { label = secret; kind = Container set.empty }) refl
    (changed_no_gates empty_state.objects 2 (with_star_at 2) (λ p. owning_no_gate 2 p.kind)
    (put_no_gates (put no_objects 1 root_object) 2 boot_thread refl (put_no_gates no_objects 1 root_object refl (λ q. refl)))))

-- the new thread's calls are confined by the category
pub session_confined : AreConfined confined_state 2 ((4, MakeSegment 3 secret []) ∷ [])
unfolding first_state second_state confined_state
session_confined = record {
  made = lit< tt;
  gates = λ q o i gate. absurd (true≢false (sym gate ∙ sym (ap is_gate i) ∙ confined_no_gates q));
  callers = All-cons (λ (asked : ℕ × RawCall). IsTaintedCaller confined_state 2 asked.0) (4, MakeSegment 3 secret []) []
      (λ o i thread. subst (λ (p : Object Levels). level_of p.label 2 ≡ L3) (inner (thread_of secret secret_clearance) o i) (secret_is 2))
      (All-nil (λ (asked : ℕ × RawCall). IsTaintedCaller confined_state 2 asked.0));
}

-- its segment was not there
segment_new : (o : Object Levels) → confined_state.objects 5 ≢ Some o
unfolding first_state second_state confined_state
segment_new o e = let no : None ≡ Some o = e in cc

-- and is there afterwards; and what is visible stays as it was
pub made_unseen : (new : State) → Changes confined_state 4 (MakeSegment 3 secret []) new
    → (new.objects 5 ≢ confined_state.objects 5)
    × ((path : Address ℕ) → visible new 2 path ≡ visible confined_state 2 path)
unfolding first_state second_state confined_state
made_unseen new is = (
  λ same. segment_new (record { label = secret; kind = Segment [] }) (sym same ∙ ap (λ (s : State). s.objects 5) is),
  visible_stays confined_state new 2 confined_sound
      (granted_moves 2 confined_state 4 confined_sound session_confined.made session_confined.gates
      (All-head (λ (asked : ℕ × RawCall). IsTaintedCaller confined_state 2 asked.0) (4, MakeSegment 3 secret []) []
      session_confined.callers) (MakeSegment 3 secret []) new confined_granted is),
)

-- a segment that the owner makes in the root container is granted, and is visible
pub plain_segment : Object Levels
plain_segment = record { label = constant L1; kind = Segment [] }

pub owner_granted : check confined_state 2 (MakeSegment 1 (constant L1) []) ≡ None
unfolding first_state second_state confined_state owner owner_clearance
owner_granted = rw (root_seen, root_open, owner_plain, plain_owner, is_made-constant 3 L1, plain_no_star) refl

-- the root container is visible, whatever it links
root_untainted : (links : Numbers)
    → untainted 2 (Some (record { label = root_object.label; kind = Container links }))
    ≡ Some (record { label = root_object.label; kind = Container links })
root_untainted links =
    ap (λ (l : Level).
    if nat_lt (rank l) 4 then Some (record { label = root_object.label; kind = Container links }) else None)
    (root_is 2)

-- the number that was linked last is linked
newly_linked : (links : Numbers) (n : ℕ) → set.contains (set.insert links n) n ≡ true
newly_linked links n =
    set.contains-insert nat_cmp_total links n n
    ∙ ap (λ (b : Bool). b || set.contains links n) (unsigned_tied n n ∙ eq-eqb n n refl)

pub owner_seen : visible (with_object confined_state 1 plain_segment) 2 (5 ∷ []) ≡ Some plain_segment
unfolding first_state second_state confined_state plain_segment
owner_seen =
    ap (λ (f : Found). if set.contains (links_in f) 5 then untainted 2 (Some plain_segment) else None) (root_untainted _)
    ∙ ap (λ (b : Bool). if b then untainted 2 (Some plain_segment) else None) (newly_linked _ 5)
    ∙ ap (λ (l : Level). if nat_lt (rank l) 4 then Some plain_segment else None) (level_of-constant L1 2)

-- and was not visible before
pub owner_unseen : visible confined_state 2 (5 ∷ []) ≡ None
unfolding first_state second_state confined_state
owner_unseen = if_none (set.contains (links_in (visible confined_state 2 [])) 5) None refl
