-- A raw call of a tainted thread, and a Unix call that such a thread makes, leave a machine that is alike to one that represents the same.
use Rattle.std.proofs.Common.{◌≡◌, ℕ, ◌+◌, ◌≤◌, Bool, true, false, length, Option, None, Some, Ok, Err, arith, refl, sym, ◌∙◌, subst}
use Rattle.std.specs.Prelude.{nat_lt}
use mathlib.Core.Bool.{false≢true}
use Rattle.std.proofs.lemmas.Bool.{ltb-true}
use Rattle.histar_flat.specs.declared.replies.Reply.{Reply}
use Rattle.histar_flat.specs.Accounts.{Accounts}
use Rattle.histar_flat.specs.FlatState.{Flat}
use Rattle.histar_flat.specs.Meaning.{RepliedCall}
use Rattle.histar_level.specs.Levels.{Levels}
use Rattle.histar_object.specs.State.{State, in_range}
use Rattle.histar_rules.specs.Rights.{in_span}
use Rattle.histar_rules.specs.declared.raw.Denied.{Denied}
use Rattle.histar_rules.specs.declared.raw.Denied.TheVariants.{Range, TooBig}
use Rattle.histar_rules.specs.declared.raw.RawCall.{RawCall}
use Rattle.histar_rules.specs.declared.raw.RawCall.TheVariants.{MakeCategory, OwnLabel, SetLabel, SetClearance, MakeSegment, MakeContainer}
use Rattle.histar_rules.specs.declared.raw.RawCall.TheVariants.{MakeThread, MakeGate, Enter, Read, Write, Unlink, LabelOf}
use Rattle.histar_rules.specs.Rules.{greatest, has_number, known, fits_segment, no_making, no_new, no_new_owner, check, Changes, Leaves}
use Rattle.histar_rules.specs.Visible.{IsTaintedCaller}
use Rattle.histar_rules.proofs.Passing.{unless_none, rest, passes}
use Rattle.histar_rules.proofs.TaintedCalls.{later_category}
use Rattle.histar_syscall.specs.KernelModel.{KernelModel, state}
use Rattle.histar_programs.specs.declared.caller.Caller.{Caller}
use Rattle.histar_programs.specs.declared.roots.Roots.{Roots}
use Rattle.histar_programs.specs.Caller.{caller_at}
use Rattle.histar_programs.specs.Programs.{Program, Outcome, Asked, Runs, Completes}
use Rattle.histar_programs.specs.Programs.Program.{Answers, Asks, Lists, Stops}
use Rattle.histar_shell.specs.Machine.{MachineModel, on_line, AnswersFound, AnswersIf, AnswersLine, program_of}
use Rattle.histar_unwinding.specs.Alike.{AreAlike, IsClosed}
use Rattle.histar_unwinding.specs.Sealed.{IsSealed}
use Rattle.histar_unwinding.proofs.Respect.{unseen, later_object, tainted_after}
use Rattle.histar_unwinding.proofs.Seals.{seals_stay}
use Rattle.histar_outside.specs.Search.{IsInsideCaller}
use Rattle.histar_outside.specs.Attacks.{IsRawStep, AreAlikeMachines}
use Rattle.histar_refinement.specs.Represents.{Represents}
use Rattle.histar_outside.proofs.Counters.{HasNames, counters_rise, names_rise}
use Rattle.std.proofs.Common.{inl}

-- a counter below the greatest number fits 64 bits once it has risen
risen : (n : ℕ) → nat_lt n greatest ≡ true → n + 1 ≤ greatest
risen n e = let below = ltb-true n greatest e in omega (arith, below)

module _ (s : State) (t : ℕ) where
  -- where an object may be made, its number is below the greatest
  new_numbered : (d : ℕ) (label : Levels) (size : ℕ) → no_new s t d label size ≡ None → has_number s ≡ true
  new_numbered d label size e =
      let ranged = passes (in_range (s.objects t) label) Range _ (rest (no_making s t d) _ e) in
      let made = passes (known s label) Range _ ranged.1 in
      let plain = passes _ Range _ made.1 in
      let small = passes (fits_segment size) TooBig _ plain.1 in
      unless_none (has_number s) TooBig small.1

  owner_numbered : (d : ℕ) (label clearance : Levels) → no_new_owner s t d label clearance ≡ None → has_number s ≡ true
  owner_numbered d label clearance e =
      let ranged = passes (in_span (s.objects t) label clearance) Range _ (rest (no_making s t d) _ e) in
      let made = passes (known s label) Range _ ranged.1 in
      let cleared = passes (known s clearance) Range _ made.1 in
      unless_none (has_number s) TooBig cleared.1

  -- so the next number still fits 64 bits
  fits : (call : RawCall) (new : State) → s.next_object ≤ greatest → check s t call ≡ None → Changes s t call new → new.next_object ≤ greatest
  fits MakeCategory new le e is = subst (λ (x : State). x.next_object ≤ greatest) (sym is) le
  fits OwnLabel new le e is = subst (λ (x : State). x.next_object ≤ greatest) (sym is) le
  fits (SetLabel label) new le e is = subst (λ (x : State). x.next_object ≤ greatest) (sym is) le
  fits (SetClearance clearance) new le e is = subst (λ (x : State). x.next_object ≤ greatest) (sym is) le
  fits (MakeSegment d label bytes) new le e is =
      subst (λ (x : State). x.next_object ≤ greatest) (sym is) (risen s.next_object (new_numbered d label (length bytes) e))
  fits (MakeContainer d label) new le e is = subst (λ (x : State). x.next_object ≤ greatest) (sym is) (risen s.next_object (new_numbered d label 0 e))
  fits (MakeThread d label clearance) new le e is =
      subst (λ (x : State). x.next_object ≤ greatest) (sym is) (risen s.next_object (owner_numbered d label clearance e))
  fits (MakeGate d label clearance entry) new le e is =
      subst (λ (x : State). x.next_object ≤ greatest) (sym is) (risen s.next_object (owner_numbered d label clearance e))
  fits (Enter d o wanted clearance verify) new le e is = subst (λ (x : State). x.next_object ≤ greatest) (sym is) le
  fits (Read d o) new le e is = subst (λ (x : State). x.next_object ≤ greatest) (sym is) le
  fits (Write d o keep bytes) new le e is = subst (λ (x : State). x.next_object ≤ greatest) (sym is) le
  fits (Unlink d o) new le e is = omega (arith, le, is.next_object)
  fits (LabelOf d o) new le e is = subst (λ (x : State). x.next_object ≤ greatest) (sym is) le

-- how a call's counters are after it
record Counts (s new : State) : Type 0 where
  more : s.next_object ≤ new.next_object
  later : s.next_category ≤ new.next_category
  fits_too : new.next_object ≤ greatest

counts : (s : State) (t : ℕ) (call : RawCall) (denied : Option Denied) (new : State) → s.next_object ≤ greatest → check s t call ≡ denied
    → Leaves denied s t call new → Counts s new
counts s t call None new le e is =
    record { more = later_object s new t call is; later = later_category s new t call is; fits_too = fits s t call new le e is }
counts s t call (Some denied) new le e is =
    subst (λ (x : State). Counts s x) (sym is) (record { more = omega arith; later = omega arith; fits_too = le })

module _ {accounts : Accounts} {s : State} {f : Flat} where
  -- a state has its names, and what has the names of what has them has them
  same_names : (old : Represents accounts s f) → HasNames old s
  same_names old = record { represents = old; naming = refl; category = refl }

  then_names : {t u : State} {old : Represents accounts s f} (first : HasNames old t) → HasNames first.represents u → HasNames old u
  then_names first later = record {
    represents = later.represents;
    naming = later.naming ∙ first.naming;
    category = later.category ∙ first.category;
  }

module _ (accounts : Accounts) (v : ℕ) where
  -- What a line leaves that is not seen outside v: a machine that represents the same flat state, under the same names, is alike; what was
  -- sealed is sealed; and the threads that were tainted are tainted.
  pub record Unseen (m mid clean : MachineModel) (f : Flat) : Type 0 where
    pub after : MachineModel
    pub alike : AreAlikeMachines accounts v mid after f
    pub names : (old : Represents accounts (state clean.kernel) f) → HasNames old (state after.kernel)
    pub seals : (d : ℕ) → IsSealed (state m.kernel) v d → IsSealed (state mid.kernel) v d
    pub threads : (t : ℕ) → IsTaintedCaller (state m.kernel) v t → IsTaintedCaller (state mid.kernel) v t

  module _ (m mid clean : MachineModel) (f : Flat) (alike : AreAlikeMachines accounts v m clean f) where
    -- after a raw call of a tainted thread the clean machine has the new counters, and nothing else has changed
    pub raw_step : (t : ℕ) (call : RawCall) → IsTaintedCaller (state m.kernel) v t → IsRawStep m mid t call → Unseen m mid clean f
    raw_step t call caller step =
        let called = step.made.1 in
        let now = unseen v (state m.kernel) (state clean.kernel) (state mid.kernel) t call
        step.made.0 alike.alike alike.closed caller called.outcome called.state in
        let rep = alike.shows.represents in
        let fit = rep.matched.numbered in
        let same = alike.alike.next_object in
        let grown = counts (state m.kernel) t call step.made.0 (state mid.kernel) (omega (arith, fit, same)) called.outcome called.state in
        let categories = alike.alike.next_category in
        record {
          after = record {
            kernel = record {
              kept = record {
                objects = clean.kernel.kept.objects;
                next_object = (state mid.kernel).next_object;
                next_category = (state mid.kernel).next_category;
              };
              line = clean.kernel.line;
              trace = clean.kernel.trace;
            };
            roots = clean.roots;
            users = clean.users;
            is_stopped = clean.is_stopped;
          };
          alike = record {
            alike = now.0;
            closed = now.1;
            shows = record {
              declared = alike.shows.declared;
              users = alike.shows.users;
              roots = alike.shows.roots;
              represents = counters_rise accounts (state clean.kernel) f (state mid.kernel).next_object (state mid.kernel).next_category rep
                  (omega (arith, grown.more, same)) grown.fits_too (omega (arith, grown.later, categories));
              first = alike.shows.first;
              small = alike.shows.small;
              shallow = alike.shows.shallow;
            };
            roots = step.roots ∙ alike.roots;
            users = step.users ∙ alike.users;
            runs = alike.runs;
          };
          names = λ old. names_rise accounts (state clean.kernel) f (state mid.kernel).next_object (state mid.kernel).next_category old
              (omega (arith, grown.more, same)) grown.fits_too (omega (arith, grown.later, categories));
          seals = λ d sealed. seals_stay v d (state m.kernel) (state mid.kernel) t call step.made.0 alike.alike.sound alike.closed (inl caller) sealed
              called.outcome called.state;
          threads = tainted_after v (state m.kernel) (state mid.kernel) t alike.alike.sound alike.closed caller call step.made.0 called.outcome
              called.state;
        }

  module _ (roots : Roots) (users : Accounts) (t : ℕ) (reply : Reply) (f : Flat) where
    -- a machine that runs with this kernel
    abbrev with_kernel : KernelModel → MachineModel
    with_kernel k = record { kernel = k; roots = roots; users = users; is_stopped = false }

    -- a call of a program is a raw call that was made
    asked_step : (call : RawCall) (outcome : Outcome call) (old mid : KernelModel) → Asked old mid t call outcome
        → IsRawStep (with_kernel old) (with_kernel mid) t call
    asked_step call (Ok answer) old mid asked = record { line = old.line; made = (None, asked.0); roots = refl; users = refl; runs = refl }
    asked_step call (Err denied) old mid asked = record { line = old.line; made = (Some denied, asked); roots = refl; users = refl; runs = refl }

    -- a state that stays is alike to what it was alike to
    stays : (old new : KernelModel) (clean : MachineModel) → AreAlikeMachines accounts v (with_kernel old) clean f → state new ≡ state old
        → Unseen (with_kernel old) (with_kernel new) clean f
    stays old new clean alike same = record {
      after = clean;
      alike = record {
        alike = subst (λ (x : State). AreAlike v x (state clean.kernel)) (sym same) alike.alike;
        closed = subst (λ (x : State). IsClosed x v) (sym same) alike.closed;
        shows = alike.shows;
        roots = alike.roots;
        users = alike.users;
        runs = alike.runs;
      };
      names = same_names;
      seals = λ d. subst (λ (x : State). IsSealed (state old) v d → IsSealed x v d) (sym same) (λ h. h);
      threads = λ u. subst (λ (x : State). IsTaintedCaller (state old) v u → IsTaintedCaller x v u) (sym same) (λ h. h);
    }

    -- a tainted thread runs a program
    inside_run : (program : Program) (old new : KernelModel) (clean : MachineModel) → AreAlikeMachines accounts v (with_kernel old) clean f
        → IsTaintedCaller (state old) v t → Completes program old new t reply → Unseen (with_kernel old) (with_kernel new) clean f
    inside_run (Answers said) old new clean alike caller made = stays old new clean alike made.0.state
    inside_run (Asks call next) old new clean alike caller made =
        let step = raw_step (with_kernel old) (with_kernel made.0) clean f alike t call caller (asked_step call made.1 old made.0 made.2) in
        let more = inside_run (next made.1) made.0 new step.after step.alike (step.threads t caller) made.3 in
        record {
          after = more.after;
          alike = more.alike;
          names = λ from. then_names (step.names from) (more.names (step.names from).represents);
          seals = λ d sealed. more.seals d (step.seals d sealed);
          threads = λ u tainted. more.threads u (step.threads u tainted);
        }
    inside_run (Lists bytes next) old new clean alike caller made = inside_run (next made.0) old new clean alike caller made.2
    inside_run Stops old new clean alike caller made = absurd made

  module _ (m mid clean : MachineModel) (f : Flat) (a : RepliedCall) (alike : AreAlikeMachines accounts v m clean f)
      (inside : IsInsideCaller (state m.kernel) v m.roots.home a.call.process) where
    by_caller : (o : Option Caller) → caller_at (state m.kernel) m.roots.home a.call.process ≡ o
        → AnswersFound (Unit {0}) o m mid a.call.line a.call.process a.call.call (Ok a.reply) → Unseen m mid clean f
    by_caller None at answered =
        subst (λ (x : MachineModel). Unseen m x clean f) (sym answered.1)
        (record { after = clean; alike = alike; names = same_names; seals = λ d sealed. sealed; threads = λ t tainted. tainted })
    by_caller (Some caller) at answered =
        let made =
        inside_run m.roots m.users caller.thread a.reply f (program_of m.users m.roots a.call.process caller a.call.call)
        (on_line a.call.line m.kernel) mid.kernel clean
        (record { alike = alike.alike; closed = alike.closed; shows = alike.shows; roots = alike.roots; users = alike.users; runs = alike.runs })
        (inside caller at) answered.made.done in
        record {
          after = made.after;
          alike = record {
            alike = made.alike.alike;
            closed = made.alike.closed;
            shows = made.alike.shows;
            roots = answered.roots ∙ made.alike.roots;
            users = answered.users ∙ made.alike.users;
            runs = made.alike.runs;
          };
          names = made.names;
          seals = made.seals;
          threads = made.threads;
        }

    -- a line of a process inside is not seen
    pub inside_step : AnswersLine m mid a.call.line a.call.process a.call.call (Ok a.reply) → Unseen m mid clean f
    inside_step answered = by m.is_stopped answered
      where
        by : (b : Bool) → AnswersIf (Unit {0}) b m mid a.call.line a.call.process a.call.call (Ok a.reply) → Unseen m mid clean f
        by true h = absurd (false≢true h.0)
        by false h = by_caller (caller_at (state m.kernel) m.roots.home a.call.process) refl h
