-- No counter is spent in a run that has no more entries than a number of 64 bits counts: each entry makes one object or category at most.
use Rattle.std.proofs.Common.{◌≡◌, ℕ, suc, ◌+◌, ◌*◌, ◌<◌, ◌≤◌, ◌⊎◌, inl, inr, Bool, true, false}
use Rattle.std.proofs.Common.{List, [], ◌∷◌, length, Option, None, Some, arith, refl, sym, ap, ◌∙◌, subst}
use Rattle.std.specs.Prelude.{nat_le, nat_lt}
use Rattle.std.proofs.lemmas.Bool.Decides.{nat_tests}
use Rattle.std.proofs.lemmas.Option.{none-some}
use Rattle.histar_flat.specs.declared.replies.Reply.{Reply}
use Rattle.histar_flat.specs.Accounts.{Accounts}
use Rattle.histar_flat.specs.FlatState.{Flat}
use Rattle.histar_object.specs.State.{State, empty_state}
use Rattle.histar_rules.specs.declared.raw.Denied.{Denied}
use Rattle.histar_rules.specs.declared.raw.RawCall.{RawCall}
use Rattle.histar_rules.specs.declared.raw.RawCall.TheVariants.{MakeCategory, OwnLabel, SetLabel, SetClearance, MakeSegment, MakeContainer}
use Rattle.histar_rules.specs.declared.raw.RawCall.TheVariants.{MakeThread, MakeGate, Enter, Read, Write, Unlink, LabelOf}
use Rattle.histar_rules.specs.Rules.{Changes, Leaves, greatest, has_number}
use Rattle.histar_trace.specs.declared.entries.TraceEntry.{TraceEntry}
use Rattle.histar_syscall.specs.KernelModel.{KernelModel, state}
use Rattle.histar_syscall.specs.Runs.{IsRun}
use Rattle.histar_refinement.specs.Addresses.Step.{Home, Status}
use Rattle.histar_refinement.specs.Categories.CategoryName.{WritesProcess}
use Rattle.histar_refinement.specs.Represents.{ObjectsMatch}
use Rattle.histar_refinement.proofs.Agreement.{agreement}
use Rattle.histar_sim.specs.Simulation.{IsBrokenOff, IsSpent, has_category}
use Rattle.histar_shell.specs.Machine.{IsTraced}

-- the counters rise, by one of both at most
pub record Counts (s new : State) (more : ℕ) : Type 0 where
  pub objects : s.next_object ≤ new.next_object
  pub categories : s.next_category ≤ new.next_category
  pub few : new.next_object + new.next_category ≤ s.next_object + s.next_category + more

same_counts : (s new : State) (more : ℕ) → new ≡ s → Counts s new more
same_counts s new more is = subst (λ (x : State). Counts s x more) (sym is) (record {
  objects = omega arith;
  categories = omega arith;
  few = omega arith;
})

counts_as : (s new made : State) → new ≡ made → Counts s made 1 → Counts s new 1
counts_as s new made is counts = subst (λ (x : State). Counts s x 1) (sym is) counts

-- of one raw call
call_counts : (s new : State) (t : ℕ) (call : RawCall) → Changes s t call new → Counts s new 1
call_counts s new t MakeCategory is = counts_as s new _ is (record { objects = omega arith; categories = omega arith; few = omega arith })
call_counts s new t OwnLabel is = same_counts s new 1 is
call_counts s new t (SetLabel label) is = counts_as s new _ is (record { objects = omega arith; categories = omega arith; few = omega arith })
call_counts s new t (SetClearance clearance) is =
    counts_as s new _ is (record { objects = omega arith; categories = omega arith; few = omega arith })
call_counts s new t (MakeSegment d label bytes) is =
    counts_as s new _ is (record { objects = omega arith; categories = omega arith; few = omega arith })
call_counts s new t (MakeContainer d label) is =
    counts_as s new _ is (record { objects = omega arith; categories = omega arith; few = omega arith })
call_counts s new t (MakeThread d label clearance) is =
    counts_as s new _ is (record { objects = omega arith; categories = omega arith; few = omega arith })
call_counts s new t (MakeGate d label clearance entry) is =
    counts_as s new _ is (record { objects = omega arith; categories = omega arith; few = omega arith })
call_counts s new t (Enter d o wanted clearance verify) is =
    counts_as s new _ is (record { objects = omega arith; categories = omega arith; few = omega arith })
call_counts s new t (Read d o) is = same_counts s new 1 is
call_counts s new t (Write d o keep bytes) is =
    counts_as s new _ is (record { objects = omega arith; categories = omega arith; few = omega arith })
call_counts s new t (Unlink d o) is =
    let o = is.next_object in
    let c = is.next_category in
    record { objects = omega (arith, o); categories = omega (arith, c); few = omega (arith, o, c) }
call_counts s new t (LabelOf d o) is = same_counts s new 1 is

-- of one raw call with its outcome
entry_counts : (s new : State) (t : ℕ) (call : RawCall) (denied : Option Denied) → Leaves denied s t call new → Counts s new 1
entry_counts s new t call None left = call_counts s new t call left
entry_counts s new t call (Some denied) left = same_counts s new 1 left

later_counts : (s mid end : State) (more : ℕ) → Counts s mid 1 → Counts mid end more → Counts s end (suc more)
later_counts s mid end more first later = record {
  objects = let a = first.objects in let b = later.objects in omega (arith, a, b);
  categories = let a = first.categories in let b = later.categories in omega (arith, a, b);
  few = let a = first.few in let b = later.few in omega (arith, a, b);
}

-- of a run
pub run_counts : (s : State) (entries : List TraceEntry) (end : State) → IsRun s entries end → Counts s end (length entries)
run_counts s [] end run = same_counts s end 0 run
run_counts s (e ∷ entries) end run =
    later_counts s run.0 end (length entries) (entry_counts s run.0 e.thread e.call e.denied run.2) (run_counts run.0 entries end run.3)

-- of a run that was broken off
broken_counts : (reply : Reply) (s : State) (entries : List TraceEntry) (end : State) → IsBrokenOff reply s entries end
    → Counts s end (length entries)
broken_counts reply s [] end run = same_counts s end 0 run
broken_counts reply s (e ∷ entries) end run =
    later_counts s run.0 end (length entries) (entry_counts s run.0 e.thread e.call e.denied run.2)
    (broken_counts reply run.0 entries end run.4)

module _ (accounts : Accounts) (s : State) (f : Flat) (l : ObjectsMatch accounts s f) where
  -- boot made some objects
  some_objects : 10 ≤ s.next_object
  some_objects = by (nat_le s.next_object (9 + 2 * length accounts.users)) refl
    where
      at : l.naming.address (9 + 2 * length accounts.users) ≡ Some (Status ∷ Home ∷ [])
      at = (agreement l).tree.addressed (Status ∷ Home ∷ []) _ (l.as_booted (Status ∷ Home ∷ []) (9 + 2 * length accounts.users) refl)

      by : (b : Bool) → nat_le s.next_object (9 + 2 * length accounts.users) ≡ b → 10 ≤ s.next_object
      by true le =
          let least : s.next_object ≤ 9 + 2 * length accounts.users = grind (arith, nat_tests, le) in
          absurd (none-some _ (sym ((agreement l).tree.unused (9 + 2 * length accounts.users) least) ∙ at))
      by false more =
          let above : 9 + 2 * length accounts.users < s.next_object = grind (arith, nat_tests, more) in
          omega (arith, above)

  -- and some categories
  some_categories : 6 ≤ s.next_category
  some_categories =
      let made = (l.made (WritesProcess []) l.first).1 in
      let is = l.as_made (WritesProcess []) (5 + 2 * length accounts.users + 2 * length accounts.groups) refl in
      omega (arith, made, is)

-- a counter that is spent is not below the greatest number
spent_counter : (o c len most : ℕ) → o + c ≤ 5 + len → len ≤ most → 6 ≤ c → nat_lt o most ≡ false → ⊥
spent_counter o c len most few short some spent =
    let least : most ≤ o = grind (arith, nat_tests, spent) in
    absurd (omega (arith, few, short, some, least))

-- after a run that was broken off, of a machine that represents a flat state, no counter is spent
pub not_spent : (accounts : Accounts) (f : Flat) (old new : KernelModel) → ObjectsMatch accounts (state old) f
    → (reply : Reply) (entries : List TraceEntry) → IsBrokenOff reply (state old) entries (state new) → IsTraced new
    → length new.trace ≤ greatest → IsSpent (state new) → ⊥
not_spent accounts f old new l reply entries run traced few spent =
    let from = broken_counts reply (state old) entries (state new) run in
    let whole = (run_counts empty_state new.trace (state new) traced).few in
    let o = some_objects accounts (state old) f l in
    let c = some_categories accounts (state old) f l in
    let later_o = from.objects in
    let later_c = from.categories in elim spent [
      | inl number ↦
          spent_counter (state new).next_object (state new).next_category (length new.trace) greatest (omega (arith, whole)) few
          (omega (arith, c, later_c)) number
      | inr category ↦
          spent_counter (state new).next_category (state new).next_object (length new.trace) greatest (omega (arith, whole)) few
          (omega (arith, o, later_o)) category
    ]
