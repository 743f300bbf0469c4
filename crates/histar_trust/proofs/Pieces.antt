-- Lists that are made item by item, and the classes on the way to a path.
use Rattle.std.proofs.Common.{◌≡◌, ℕ, zero, suc, ◌+◌, ◌<◌, List, [], ◌∷◌, ◌++◌, Option, Some, None, Result, Ok, Err, take, length, get_or}
use Rattle.std.proofs.Common.{arith, sym, ap, ◌∙◌, refl}
use Rattle.std.specs.Prelude.{Bool, true, false, not, is_ok, map, option_map, slice_get, if◌then◌else◌, IfOk, OnOk}
use Rattle.std.specs.List.{cons_option, filter_map}
use Rattle.std.proofs.lemmas.List.{map-append, take_more}
use Rattle.std.proofs.lemmas.List.Elements.{filter_map-append}
use Rattle.std.proofs.lemmas.Option.{none-some, same_Some}
use Rattle.histar_flat.specs.declared.calls.User.{User}
use Rattle.histar_flat.specs.Words.{Name}
use Rattle.histar_layout.specs.UserTable.{called}
use Rattle.histar_secrecy.specs.declared.role.Member.{Member}
use Rattle.histar_trust.specs.Findings.{Runner, runner_of}

-- the items so far with one more
pub kept_more : {X Y : Type 0} (h : X → Option Y) (xs : List X) (i : ℕ) (x : X) → i < length xs → x ≡ get_or xs i x
    → filter_map h (take (i + 1) xs) ≡ filter_map h (take i xs) ++ cons_option (h x) []
kept_more h xs i x within is =
    ap (filter_map h) (take_more xs i x within) ∙ filter_map-append h (take i xs) (get_or xs i x ∷ [])
    ∙ ap (λ y. filter_map h (take i xs) ++ cons_option (h y) []) (sym is)

mapped_option : (o : Option Member) → map runner_of (cons_option o []) ≡ cons_option (option_map runner_of o) []
mapped_option None = refl
mapped_option (Some m) = refl

-- the members so far with one more, if the process runs
pub members_more : (ms : List Member) (o : Option Member) {new : List Member} {was now : List Runner} {r : Option Runner} → map runner_of ms ≡ was
    → option_map runner_of o ≡ r → now ≡ was ++ cons_option r [] → new ≡ ms ++ cons_option o [] → map runner_of new ≡ now
members_more ms o before one kept pushed =
    ap (map runner_of) pushed ∙ map-append runner_of ms (cons_option o [])
    ∙ (λ j. before j ++ (mapped_option o ∙ ap (λ (x : Option Runner). cons_option x []) one) j) ∙ sym kept

-- the names so far with one more
named_suc : (users : List User) (i : ℕ) (name : Name) → slice_get users i ≡ Some (called name)
    → take (suc i) (map (λ (u : User). u.name) users) ≡ take i (map (λ (u : User). u.name) users) ++ name ∷ []
named_suc [] zero name e = absurd (none-some (called name) e)
named_suc [] (suc i) name e = absurd (none-some (called name) e)
named_suc (u ∷ users) zero name e = ap (λ (x : User). x.name ∷ []) (same_Some u (called name) e)
named_suc (u ∷ users) (suc i) name e = ap (λ (names : List Name). u.name ∷ names) (named_suc users i name e)

pub names_more : (users : List User) (i : ℕ) (name : Name) (new old : List Name) → slice_get users i ≡ Some (called name)
    → old ≡ take i (map (λ (u : User). u.name) users) → new ≡ old ++ name ∷ [] → new ≡ take (i + 1) (map (λ (u : User). u.name) users)
names_more users i name new old e before pushed =
    pushed ∙ ap (λ (names : List Name). names ++ name ∷ []) before ∙ sym (named_suc users i name e)
    ∙ ap (λ n. take n (map (λ (u : User). u.name) users)) (let s : suc i ≡ i + 1 = omega arith in s)

-- what holds of a value that was made follows from what is stronger
pub made_so : {A E : Type 0} {P Q : A → Type 0} (r : Result A E) → ((x : A) → P x → Q x) → IfOk r P → IfOk r Q
made_so (Ok x) so h = so x h
made_so (Err e) so h = tt

-- what holds of what was done holds if it was done
pub done_so : {E : Type 0} (new one other : List ℕ) (r : Result (Unit {0}) E) → new ≡ (if is_ok r then one else other) → OnOk r (new ≡ one)
done_so new one other (Ok u) h = h
done_so new one other (Err e) h = tt

-- if `not b` is true, b is false
pub from_not : (b : Bool) → not b ≡ true → b ≡ false
from_not true h = sym h
from_not false h = refl

pub from_not_false : (b : Bool) → not b ≡ false → b ≡ true
from_not_false true h = refl
from_not_false false h = sym h
