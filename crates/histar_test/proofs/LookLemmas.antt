-- Claims are looked at one after another, each in its place.
use Rattle.std.proofs.Common.{◌≡◌, ℕ, ◌+◌, ◌<◌, ◌≤◌, true, false, List, [], ◌∷◌, ◌++◌, Option, Some, None, length, take, drop, get_or, set}
use Rattle.std.proofs.Common.{refl, sym, ap, ap₂, ◌∙◌, append-nil, append_assoc, arith, length-set}
use Rattle.std.proofs.lemmas.List.{drop_all, drop_more, get_or_at, length-map, length-take-le, map-append, set_at, take_all, take_more}
use Rattle.std.specs.Prelude.{is_some, map, option_map}
use Rattle.std.specs.Option.{option_or}
use Rattle.histar_flat.specs.Accounts.{Accounts}
use Rattle.histar_flat.specs.FlatState.{Flat}
use Rattle.histar_rights.specs.Running.{HaveShownNames}
use Rattle.histar_shell.specs.Machine.{MachineModel}
use Rattle.histar_shell.specs.Meaning.{Shows}
use Rattle.histar_never.specs.declared.breaches.Breach.{Breach}
use Rattle.histar_never.specs.Breaches.{late}
use Rattle.histar_never.specs.Machines.{FindsBreach}
use Rattle.histar_test.specs.declared.watching.Watch.{Watch}
use Rattle.histar_test.specs.Watching.{LooksAt, LooksAtAll, watch_in}
use Rattle.histar_test.proofs.WatchLemmas.{or_none, with_found}

-- The first i claims were looked at, after the call on line n, and the others are as they were.
pub record AreLookedAt (m : MachineModel) (n i : ℕ) (old now : List Watch) : Type 0 where
  pub long : length now ≡ length old
  pub each : (accounts : Accounts) (f : Flat) → Shows accounts m f → HaveShownNames f
      → now ≡ map (watch_in accounts f n) (take i old) ++ drop i old

-- this holds before the first
pub none_looked : (m : MachineModel) (n : ℕ) (old : List Watch) → AreLookedAt m n 0 old old
none_looked m n old = record { long = refl; each = λ accounts f shows named. refl }

-- one more was looked at
pub one_looked : {m : MachineModel} {n i : ℕ} {old now : List Watch} → (d watch : Watch) → AreLookedAt m n i old now → i < length now
    → LooksAt m n (get_or now i d) watch → AreLookedAt m n (i + 1) old (set now i watch)
one_looked {m = m} {n = n} {i = i} {old = old} {now = now} d watch are lt looks = record {
  long = length-set now i watch ∙ are.long;
  each = λ accounts f shows named.
      let look = watch_in accounts f n in
      let few : i < length old = omega (arith, are.long) in
      let x = get_or old i d in
      let front = map look (take i old) in
      let rest = drop (i + 1) old in
      let long : length front ≡ i = length-map (take i old) look ∙ length-take-le i old (omega arith) in
      let here : now ≡ front ++ x ∷ rest = are.each accounts f shows named ∙ ap (λ (l : List Watch). front ++ l) (drop_more old i d few) in
      let same : get_or now i d ≡ x = ap (λ (l : List Watch). get_or l i d) here ∙ get_or_at front x rest d i long in
      let is : watch ≡ look x = looks accounts f shows named ∙ ap look same in
      ap (λ (l : List Watch). set l i watch) here ∙ set_at front x rest watch i long
      ∙ ap (λ (w : Watch). front ++ w ∷ rest) is
      ∙ sym (append_assoc front (look x ∷ []) rest)
      ∙ ap (λ (l : List Watch). l ++ rest) (sym (ap (map look) (take_more old i d few) ∙ map-append look (take i old) (x ∷ [])));
}

-- all were looked at
pub all_looked : {m : MachineModel} {n : ℕ} {old now : List Watch} → (i : ℕ) → AreLookedAt m n i old now → length now ≤ i → LooksAtAll m n old now
all_looked {n = n} {old = old} i are all accounts f shows named =
    let look = watch_in accounts f n in
    let many : length old ≤ i = omega (arith, are.long) in
    are.each accounts f shows named
    ∙ ap₂ (λ (a b : List Watch). map look a ++ b) (take_all i old many) (drop_all i old many)
    ∙ append-nil (map look old)

-- ---- one claim

-- what was found is kept
found_kept : {A : Type 0} (o more : Option A) → is_some o ≡ true → o ≡ option_or o more
found_kept None more is = absurd cc
found_kept (Some x) more is = refl

-- where nothing was found, what is found later is there
found_new : {A : Type 0} (o more : Option A) → is_some o ≡ false → more ≡ option_or o more
found_new None more is = refl
found_new (Some x) more is = absurd cc

module _ (m : MachineModel) (n : ℕ) (watch : Watch) where
  -- a claim that is broken keeps its first breach
  pub looked_broken : is_some watch.found ≡ true → LooksAt m n watch watch
  looked_broken is accounts f shows named = ap (with_found watch) (found_kept watch.found _ is)

  -- a claim that no one breaks is as it was
  pub looked_unbroken : FindsBreach m watch.never None → LooksAt m n watch watch
  looked_unbroken finds accounts f shows named =
      ap (with_found watch)
      (sym (or_none watch.found) ∙ ap (λ (o : Option Breach). option_or watch.found (option_map (late n) o)) (finds accounts f shows named))

  -- a claim that someone breaks for the first time
  pub looked_first : (breach : Breach) → is_some watch.found ≡ false → FindsBreach m watch.never (Some breach)
      → LooksAt m n watch (with_found watch (Some (late n breach)))
  looked_first breach is finds accounts f shows named =
      ap (with_found watch)
      (found_new watch.found (Some (late n breach)) is
      ∙ ap (λ (o : Option Breach). option_or watch.found (option_map (late n) o)) (finds accounts f shows named))
