-- Along the lines of a script names keep their numbers.
use Rattle.std.proofs.Common.{◌≡◌, ℕ, ◌<◌, ◌≤◌, ◌⊎◌, inl, inr, Bool, true, false, List, [], ◌∷◌, Option, None, Some, arith, refl, sym, ◌∙◌, subst}
use Rattle.std.specs.Prelude.{is_some, nat_le, nat_eq}
use Rattle.std.proofs.lemmas.Bool.Decides.{nat_tests}
use Rattle.histar_flat.specs.declared.calls.CallLine.{CallLine}
use Rattle.histar_flat.specs.Words.{Path, ProcName}
use Rattle.histar_flat.specs.Accounts.{Accounts}
use Rattle.histar_flat.specs.Files.{get}
use Rattle.histar_flat.specs.FlatState.{Node, Flat}
use Rattle.histar_flat.specs.FlatCalls.{flat_after}
use Rattle.histar_flat.specs.Meaning.{flat_end}
use Rattle.histar_object.specs.State.{State}
use Rattle.histar_container.specs.Tree.{Address}
use Rattle.histar_rules.specs.declared.raw.Denied.{Denied}
use Rattle.histar_rules.specs.declared.raw.RawCall.{RawCall}
use Rattle.histar_rules.specs.Rules.{Leaves}
use Rattle.histar_rules.proofs.TaintedCalls.{later_category}
use Rattle.histar_trace.specs.declared.entries.TraceEntry.{TraceEntry}
use Rattle.histar_syscall.specs.Runs.{IsRun}
use Rattle.histar_refinement.specs.Addresses.{Step, address_of, home_address}
use Rattle.histar_refinement.specs.Categories.{CategoryName, IsUsed}
use Rattle.histar_refinement.specs.Represents.{ObjectsMatch, Represents}
use Rattle.histar_refinement.specs.KeptNames.{KeepsNames}
use Rattle.histar_refinement.proofs.CategoryTests.{category_tests_equality}
use Rattle.histar_refinement.proofs.ListedFiles.{numbered_path}
use Rattle.histar_refinement.proofs.StatusFound.{numbered_home}
use Rattle.histar_sim.specs.Simulation.{SimulatesLines}
use Rattle.histar_sim.specs.NamesOfLines.{Throughout, KeepsNumbers, NamesStay}

-- a raw call makes the next category no smaller, and so does a run
counts_up : (s new : State) (t : ℕ) (call : RawCall) (denied : Option Denied) → Leaves denied s t call new → s.next_category ≤ new.next_category
counts_up s new t call None left = later_category s new t call left
counts_up s new t call (Some denied) left = subst (λ (x : State). s.next_category ≤ x.next_category) (sym left) (omega arith)

run_counts_up : (s : State) (entries : List TraceEntry) (end : State) → IsRun s entries end → s.next_category ≤ end.next_category
run_counts_up s [] end run = subst (λ (x : State). s.next_category ≤ x.next_category) (sym run) (omega arith)
run_counts_up s (e ∷ entries) end run =
    let first = counts_up s run.0 e.thread e.call e.denied run.2 in
    let later = run_counts_up run.0 entries end run.3 in
    omega (arith, first, later)

-- what holds throughout holds at first
at_first : (accounts : Accounts) (Holds : Flat → Type 0) (f : Flat) (calls : List CallLine) → Throughout accounts Holds f calls → Holds f
at_first accounts Holds f [] all = all
at_first accounts Holds f (asked ∷ calls) all = all.0

module _ {accounts : Accounts} {s : State} {f : Flat} where
  -- an address that has an object before and after has the number that it had
  same_number : {t : State} {g : Flat} (old : ObjectsMatch accounts s f) (new : ObjectsMatch accounts t g) → KeepsNames old new → (a : Address Step)
      → is_some (old.naming.number a) ≡ true → is_some (new.naming.number a) ≡ true → new.naming.number a ≡ old.naming.number a
  same_number old new keeps a before after = by (old.naming.number a) refl before
    where
      by : (o : Option ℕ) → old.naming.number a ≡ o → is_some o ≡ true → new.naming.number a ≡ old.naming.number a
      by None e some = absurd cc
      by (Some q) e some = keeps.addresses a q e after ∙ sym e

  -- what is at a path has a number
  path_numbered : (l : ObjectsMatch accounts s f) (q : Path) → is_some (get f.files q) ≡ true → is_some (l.naming.number (address_of q)) ≡ true
  path_numbered l q there = by (get f.files q) refl there
    where
      by : (o : Option Node) → get f.files q ≡ o → is_some o ≡ true → is_some (l.naming.number (address_of q)) ≡ true
      by None e some = absurd cc
      by (Some node) e some = numbered_path accounts s f l q node e

  home_numbered : (l : ObjectsMatch accounts s f) (p : ProcName) → is_some (f.processes p) ≡ true → is_some (l.naming.number (home_address p)) ≡ true
  home_numbered l p there = numbered_home accounts s f l p ∙ there

  -- After some calls, a name that is used at both ends has its number still, or one that was made since.
  record Stays {t : State} {g : Flat} (calls : List CallLine) (old : ObjectsMatch accounts s f) (new : ObjectsMatch accounts t g) : Type 0 where
    categories : (c : CategoryName) → Throughout accounts (λ (x : Flat). IsUsed accounts x c) f calls → new.category c ≡ old.category c
    returns : (c : CategoryName) → IsUsed accounts f c → IsUsed accounts g c → (new.category c ≡ old.category c) ⊎ (s.next_category ≤ new.category c)
    fresh : (c : CategoryName) → (IsUsed accounts f c → ⊥) → IsUsed accounts g c → s.next_category ≤ new.category c
    files : (q : Path) → Throughout accounts (λ (x : Flat). is_some (get x.files q) ≡ true) f calls
        → new.naming.number (address_of q) ≡ old.naming.number (address_of q)
    processes : (p : ProcName) → Throughout accounts (λ (x : Flat). is_some (x.processes p) ≡ true) f calls
        → new.naming.number (home_address p) ≡ old.naming.number (home_address p)

  -- the number of a category that was used is never another one's
  one_purpose : {t : State} {g : Flat} (calls : List CallLine) (old : ObjectsMatch accounts s f) (new : ObjectsMatch accounts t g)
      → Stays calls old new → (c d : CategoryName) → IsUsed accounts f c → IsUsed accounts g d → new.category d ≡ old.category c → d ≡ c
  one_purpose calls old new stays c d before after e = elim (category_tests_equality d c) [
    | inl same ↦ same.1
    | inr other ↦
        let late = stays.fresh d (λ used. other.1 (same_then used)) after in
        let l = low in
        absurd (omega (arith, late, e, l))
  ]
    where
      low : old.category c < s.next_category
      low = (old.made c before).1

      same_then : IsUsed accounts f d → d ≡ c
      same_then used = elim (stays.returns d used after) [
        | inl same ↦ old.different d c (sym same ∙ e)
        | inr late ↦ let l = low in absurd (omega (arith, late, e, l))
      ]

  keeps_numbers : {t : State} {g : Flat} (calls : List CallLine) (old : ObjectsMatch accounts s f) (new : ObjectsMatch accounts t g)
      → Stays calls old new → KeepsNumbers calls old new
  keeps_numbers calls old new stays = record {
    categories = stays.categories;
    purposes = one_purpose calls old new stays;
    fresh = stays.fresh;
    files = stays.files;
    processes = stays.processes;
  }

-- One line, and the lines after it.
module _ {accounts : Accounts} {s t u : State} {f h : Flat} (asked : CallLine) (calls : List CallLine) (old : ObjectsMatch accounts s f)
    (mid : ObjectsMatch accounts t (flat_after accounts f asked.process asked.call)) (new : ObjectsMatch accounts u h)
    (low : s.next_category ≤ t.next_category) (step : KeepsNames old mid) (later : Stays calls mid new) where
  abbrev g : Flat
  g = flat_after accounts f asked.process asked.call

  returns_then : (c : CategoryName) → IsUsed accounts f c → IsUsed accounts h c
      → (new.category c ≡ old.category c) ⊎ (s.next_category ≤ new.category c)
  returns_then c before after = by (nat_le s.next_category (new.category c)) (nat_eq (new.category c) (old.category c)) refl refl
    where
      by : (is_late is_same : Bool) → nat_le s.next_category (new.category c) ≡ is_late → nat_eq (new.category c) (old.category c) ≡ is_same
          → (new.category c ≡ old.category c) ⊎ (s.next_category ≤ new.category c)
      by true is_same late same = inr (grind (arith, nat_tests, late))
      by false true late same = inl (grind (arith, nat_tests, same))
      by false false late same =
          let early : new.category c < s.next_category = grind (arith, nat_tests, late) in
          let other : new.category c ≡ old.category c → ⊥ = λ e. absurd (grind (arith, nat_tests, same, e)) in
          let unused : IsUsed accounts g c → ⊥ = λ used. elim (later.returns c used after) [
            | inl e ↦ other (e ∙ step.categories c before used)
            | inr more ↦ absurd (omega (arith, more, early, low))
          ] in
          let made = later.fresh c unused after in
          absurd (omega (arith, made, early, low))

  fresh_then : (c : CategoryName) → (IsUsed accounts f c → ⊥) → IsUsed accounts h c → s.next_category ≤ new.category c
  fresh_then c not after = by (nat_le s.next_category (new.category c)) refl
    where
      by : (is_late : Bool) → nat_le s.next_category (new.category c) ≡ is_late → s.next_category ≤ new.category c
      by true late = grind (arith, nat_tests, late)
      by false late =
          let early : new.category c < s.next_category = grind (arith, nat_tests, late) in
          let unused : IsUsed accounts g c → ⊥ = λ used.
          let made = step.fresh c not used in elim (later.returns c used after) [
            | inl e ↦ absurd (omega (arith, made, early, e))
            | inr more ↦ absurd (omega (arith, more, early, low))
          ] in
          let made = later.fresh c unused after in
          absurd (omega (arith, made, early, low))

  stays_then : Stays (asked ∷ calls) old new
  stays_then = record {
    categories = λ c all.
        later.categories c all.1
        ∙ step.categories c all.0 (at_first accounts (λ (x : Flat). IsUsed accounts x c) g calls all.1);
    returns = returns_then;
    fresh = fresh_then;
    files = λ q all.
        later.files q all.1
        ∙ same_number old mid step (address_of q) (path_numbered old q all.0)
        (path_numbered mid q (at_first accounts (λ (x : Flat). is_some (get x.files q) ≡ true) g calls all.1));
    processes = λ p all.
        later.processes p all.1
        ∙ same_number old mid step (home_address p) (home_numbered old p all.0)
        (home_numbered mid p (at_first accounts (λ (x : Flat). is_some (x.processes p) ≡ true) g calls all.1));
  }

names_along : (accounts : Accounts) (s end : State) (f : Flat) (calls : List CallLine) (entries : List TraceEntry)
    → SimulatesLines accounts s f calls entries end → (old : Represents accounts s f)
    → (new : Represents accounts end (flat_end accounts f calls)) × Stays calls old.matched new.matched
names_along accounts s end f [] entries lines old =
    subst (λ (x : State). (new : Represents accounts x f) × Stays [] old.matched new.matched) (sym lines.1) (
      old,
      record {
        categories = λ c all. refl;
        returns = λ c before after. inl refl;
        fresh = λ c not after. absurd (not after);
        files = λ q all. refl;
        processes = λ p all. refl;
      },
    )
names_along accounts s end f (asked ∷ calls) entries lines old =
    let line = lines.4 in
    let mid = line.keeps old in
    let later = names_along accounts lines.2 end (flat_after accounts f asked.process asked.call) calls lines.1 lines.5 mid.represents in (
      later.0,
      stays_then asked calls old.matched mid.represents.matched later.0.matched
          (run_counts_up s lines.0 lines.2 line.line.run) mid.names later.1,
    )

-- names keep their numbers along the lines of a script
pub names_stay : NamesStay
names_stay accounts s end f calls entries lines old =
    let later = names_along accounts s end f calls entries lines old in
    (later.0, keeps_numbers calls old.matched later.0.matched later.1)
