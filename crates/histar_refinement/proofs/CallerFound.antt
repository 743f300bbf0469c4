-- In a state that is represented exactly the processes that run are found, each with its thread and its own two categories.
use Rattle.std.proofs.Common.{◌≡◌, ℕ, ◌≤◌, true, [], ◌∷◌, length, map, Option, None, Some, refl, sym, ap, ◌∙◌, arith}
use Rattle.std.specs.Prelude.{Bool, ◌&&◌, is_some, option_map, option_and_then, if◌then◌else◌}
use Rattle.std.specs.List.{range_with_len}
use Rattle.std.proofs.lemmas.List.{length-map}
use Rattle.std.proofs.lemmas.List.FromFn.{length-range_with_len}
use Rattle.std.proofs.lemmas.List.Sums.{length-filter, count_by-le-length}
use Rattle.std.proofs.lemmas.Option.{none-some, same_Some}
use mathlib.Core.Bool.{true≢false}
use Rattle.histar_flat.specs.Words.{ProcName, most_children}
use Rattle.histar_flat.specs.Accounts.{Accounts}
use Rattle.histar_flat.specs.Classes.{Process}
use Rattle.histar_flat.specs.FlatState.{Flat}
use Rattle.histar_flat.specs.FlatCalls.{if_running, running}
use Rattle.histar_level.specs.Levels.{Levels}
use Rattle.histar_object.specs.Objects.{bytes_in, is_thread, label_there}
use Rattle.histar_object.specs.State.{State}
use Rattle.histar_layout.specs.declared.status.Child.{Child as Listed}
use Rattle.histar_layout.specs.Status.{ProcessStatus, child_at, status_in}
use Rattle.histar_layout.proofs.Statuses.{status_again}
use Rattle.histar_programs.specs.declared.roots.Home.{Home as Where}
use Rattle.histar_programs.specs.declared.caller.Caller.{Caller}
use Rattle.histar_programs.specs.Caller.{status_at, child_home, home_at, if_runs, is_linked, leads_to, labelled_caller, running_caller}
use Rattle.histar_programs.specs.Caller.{caller_by, caller_at}
use Rattle.histar_programs.specs.Caller.{write_category_in, read_category_in}
use Rattle.histar_programs.specs.Start.{roots_of}
use Rattle.histar_refinement.specs.Categories.CategoryName.{ReadsProcess, WritesProcess}
use Rattle.histar_refinement.specs.Guards.{guard_label}
use Rattle.histar_refinement.specs.Labels.{process_guard, inside_guard}
use Rattle.histar_refinement.specs.Addresses.{same_step, home_address}
use Rattle.histar_refinement.specs.Addresses.Step.{Home, Status, Inside, Runner, Child}
use Rattle.histar_refinement.proofs.Expected.{home_object, inside_object, expected}
use Rattle.histar_refinement.specs.Processes.{or_zero, children, listed_by, status_by}
use Rattle.histar_refinement.specs.Represents.{ObjectsMatch}
use Rattle.histar_refinement.specs.Laws.{IsCallerOf, CallersAreFound, CallersAreThere}
use Rattle.histar_refinement.proofs.CallerLabels.{write_found, read_found}
use Rattle.histar_refinement.proofs.FileLabels.{label_bare}
use Rattle.histar_refinement.proofs.Moving.{at_number}
use Rattle.histar_refinement.proofs.Roots.{asked_home, asked_inside}
use Rattle.histar_refinement.proofs.Agreeing.{some_of, step_linked, thread_found}
use Rattle.histar_refinement.proofs.StatusFound.{child_range, listed_there, listed_back, numbered_home, numbered_status, numbered_runner}
use Rattle.histar_refinement.proofs.StatusMatched.{holds_status}
use Rattle.histar_refinement.proofs.Lent.{lent_status}
use Rattle.histar_refinement.proofs.Steps.{step_tests_equality}
use Rattle.histar_refinement.proofs.Agreement.{agreement}

-- three tests that pass
both_three : {a b c : Bool} → a ≡ true → b ≡ true → c ≡ true → (a && b && c) ≡ true
both_three first second third = (λ i. first i && second i && third i)

-- a number that is there
pub is_or_zero : (o : Option ℕ) → is_some o ≡ true → o ≡ Some (or_zero o)
is_or_zero None e = absurd (true≢false (sym e))
is_or_zero (Some q) e = refl

module _ (accounts : Accounts) (s : State) (f : Flat) (l : ObjectsMatch accounts s f) where
  abbrev first : Where
  first = (roots_of (length accounts.users)).home

  -- where a process that is there is found
  abbrev pub where_is : ProcName → Where
  where_is me = record { container = or_zero (l.naming.number (home_address me)); segment = or_zero (l.naming.number (Status ∷ home_address me)) }

  -- the process segment of a process spells its status
  pub status_held : (me : ProcName) (p : Process) → f.processes me ≡ Some p
      → status_in (bytes_in (s.objects (or_zero (l.naming.number (Status ∷ home_address me)))))
      ≡ Some (status_by f.processes l.naming.number me p)
  status_held me p here =
      status_again _ (status_by f.processes l.naming.number me p)
      (holds_status accounts s f l me p (or_zero (l.naming.number (Status ∷ home_address me))) here
      (is_or_zero _ (numbered_status accounts s f l me ∙ ap is_some here)))
      few
    where
      few : length (map (listed_by l.naming.number me) (children f.processes me p.born)) ≤ most_children
      few =
          let mapped = length-map (children f.processes me p.born) (listed_by l.naming.number me) in
          let filtered = length-filter (λ n. is_some (f.processes (n ∷ me))) (range_with_len 1 p.born) in
          let counted = count_by-le-length (λ n. is_some (f.processes (n ∷ me))) (range_with_len 1 p.born) in
          let ranged = length-range_with_len 1 p.born in
          let most = (l.processes me p here).few in
          omega (arith, mapped, filtered, counted, ranged, most)

  -- so it is found there with no raw call
  pub status_is : (me : ProcName) (p : Process) → f.processes me ≡ Some p
      → status_at s (or_zero (l.naming.number (Status ∷ home_address me)))
      ≡ Some (status_by f.processes l.naming.number me p)
  status_is me p here =
      ap status_in (lent_status accounts s f l me _ (is_or_zero _ (numbered_status accounts s f l me ∙ ap is_some here))) ∙ status_held me p here

  -- a child is listed where it is there
  pub child_is : (n : ℕ) (me : ProcName) (p : Process) → f.processes me ≡ Some p
      → child_at (map (listed_by l.naming.number me) (children f.processes me p.born)) n
      ≡ option_map (λ (q : Process). listed_by l.naming.number me n) (f.processes (n ∷ me))
  child_is n me p here = by (f.processes (n ∷ me)) refl
    where
      no_other : f.processes (n ∷ me) ≡ None → (o : Option Listed)
          → child_at (map (listed_by l.naming.number me) (children f.processes me p.born)) n ≡ o → o ≡ None
      no_other none None is = refl
      no_other none (Some x) is =
          absurd (true≢false (sym (listed_back l.naming.number me (λ k. is_some (f.processes (k ∷ me))) n x 1 p.born is).0
          ∙ ap is_some none))

      by : (o : Option Process) → f.processes (n ∷ me) ≡ o
          → child_at (map (listed_by l.naming.number me) (children f.processes me p.born)) n
          ≡ option_map (λ (q : Process). listed_by l.naming.number me n) o
      by None is = no_other is (child_at (map (listed_by l.naming.number me) (children f.processes me p.born)) n) refl
      by (Some q) is =
          let range = child_range accounts s f l n me p here (ap is_some is) in
          listed_there l.naming.number me (λ k. is_some (f.processes (k ∷ me))) n (ap is_some is) 1 p.born range.0 range.1

  -- a process is there only where the one above it is
  parent_there : (n : ℕ) (me : ProcName) → f.processes me ≡ None → f.processes (n ∷ me) ≡ None
  parent_there n me none = by (f.processes (n ∷ me)) refl
    where
      by : (o : Option Process) → f.processes (n ∷ me) ≡ o → o ≡ None
      by None is = refl
      by (Some q) is =
          let numbered = numbered_home accounts s f l (n ∷ me) ∙ ap is_some is in
          let above = (agreement l).tree.held (Child n) (home_address me) numbered in
          absurd (true≢false (sym (sym (numbered_home accounts s f l me) ∙ above) ∙ ap is_some none))

  -- the container of a process links those of its children
  child_linked : (n : ℕ) (me : ProcName) → is_some (f.processes me) ≡ true → is_some (f.processes (n ∷ me)) ≡ true
      → is_linked s (where_is me).container (where_is (n ∷ me)).container ≡ true
  child_linked n me here below =
      step_linked accounts s f l (Child n) (home_address me) _ _ (is_or_zero _ (numbered_home accounts s f l me ∙ here))
      (is_or_zero _ (numbered_home accounts s f l (n ∷ me) ∙ below))

  -- the home of a child that a process lists
  abbrev linked_home : Where → Listed → Option Where
  linked_home home child =
      if is_linked s home.container child.container then Some (record { container = child.container; segment = child.segment }) else None

  listed_is : (n : ℕ) (me : ProcName) → is_some (f.processes me) ≡ true → (o : Option Process) → f.processes (n ∷ me) ≡ o
      → option_and_then (linked_home (where_is me)) (option_map (λ (q : Process). listed_by l.naming.number me n) o)
      ≡ option_map (λ (q : Process). where_is (n ∷ me)) o
  listed_is n me here None is = refl
  listed_is n me here (Some q) is =
      ap (λ (b : Bool). if b then Some (where_is (n ∷ me)) else None) (child_linked n me here (ap is_some is))

  home_below : (n : ℕ) (me : ProcName) (o : Option Process) → f.processes me ≡ o
      → home_at s first me ≡ option_map (λ (p : Process). where_is me) o
      → home_at s first (n ∷ me) ≡ option_map (λ (p : Process). where_is (n ∷ me)) (f.processes (n ∷ me))
  home_below n me None is above =
      ap (option_and_then (λ (home : Where). child_home s home n)) above
      ∙ sym (ap (option_map (λ (p : Process). where_is (n ∷ me))) (parent_there n me is))
  home_below n me (Some p) is above =
      ap (option_and_then (λ (home : Where). child_home s home n)) above
      ∙ ap (option_and_then (λ (status : ProcessStatus).
      option_and_then (linked_home (where_is me)) (child_at status.children n))) (status_is me p is)
      ∙ ap (option_and_then (linked_home (where_is me))) (child_is n me p is)
      ∙ listed_is n me (ap is_some is) (f.processes (n ∷ me)) refl

  -- Each process that is there is found, and no other.
  pub home_is : (me : ProcName) → home_at s first me ≡ option_map (λ (p : Process). where_is me) (f.processes me)
  home_is [] =
      let there = some_of (f.processes []) l.first in
      (λ i. Some (record {
        container = or_zero (sym (l.as_booted (Home ∷ []) _ refl) i);
        segment = or_zero (sym (l.as_booted (Status ∷ Home ∷ []) _ refl) i);
      }))
      ∙ sym (ap (option_map (λ (p : Process). where_is [])) there.1)
  home_is (n ∷ me) = home_below n me (f.processes me) refl (home_is me)

  -- the caller of a process that runs
  abbrev pub caller_is : ProcName → Caller
  caller_is me = record {
    home = where_is me;
    thread = or_zero (l.naming.number (Runner ∷ Inside ∷ home_address me));
    read = l.category (ReadsProcess me);
    write = l.category (WritesProcess me);
  }

  module _ (me : ProcName) (p : Process) (here : f.processes me ≡ Some p) where
    abbrev status : ProcessStatus
    status = status_by f.processes l.naming.number me p

    outer_label : label_there (s.objects (where_is me).container) ≡ Some (guard_label l.category (process_guard me p))
    outer_label =
        sym (label_bare (s.objects (where_is me).container))
        ∙ ap label_there (at_number same_step step_tests_equality s l.naming (expected accounts l.category f l.naming.number)
        (agreement l) (home_address me) (where_is me).container
        (is_or_zero _ (numbered_home accounts s f l me ∙ ap is_some here)))
        ∙ ap label_there (asked_home accounts l.category f l.naming.number me ∙ ap (home_object accounts l.category me) here)

    abbrev of_inner : ProcessStatus → Levels → Levels → Option Caller
    of_inner revealed outer inner =
        option_and_then (λ write. option_and_then
        (λ read. Some (record { home = where_is me; thread = revealed.thread; read = read; write = write }))
        (read_category_in outer inner)) (write_category_in outer)

    found_here : caller_at s first me ≡ caller_by s (where_is me) status
    found_here =
        ap (option_and_then (λ (home : Where). option_and_then (caller_by s home) (status_at s home.segment)))
        (home_is me ∙ ap (option_map (λ (q : Process). where_is me)) here)
        ∙ ap (option_and_then (caller_by s (where_is me))) (status_is me p here)

    module _ (runs : p.exited ≡ None) where
      inner_there : is_some (l.naming.number (Inside ∷ home_address me)) ≡ true
      inner_there = (agreement l).tree.held Runner (Inside ∷ home_address me) (numbered_runner accounts s f l me p here runs)

      inner_label : label_there (s.objects (or_zero (l.naming.number (Inside ∷ home_address me)))) ≡ Some (guard_label l.category (inside_guard me p))
      inner_label =
          sym (label_bare (s.objects (or_zero (l.naming.number (Inside ∷ home_address me)))))
          ∙ ap label_there (at_number same_step step_tests_equality s l.naming (expected accounts l.category f l.naming.number)
          (agreement l) (Inside ∷ home_address me) (or_zero (l.naming.number (Inside ∷ home_address me)))
          (is_or_zero _ inner_there))
          ∙ ap label_there (asked_inside accounts l.category f l.naming.number me ∙ ap (inside_object accounts l.category me) here)
          ∙ ap (λ (e : Option ℕ). label_there (inside_object accounts l.category me (Some (record p { exited = e })))) runs

      -- its container leads to its thread
      leads : leads_to s (where_is me).container status.internal status.thread ≡ true
      leads =
          let runner = is_or_zero _ (numbered_runner accounts s f l me p here runs) in
          let inside = is_or_zero _ inner_there in
          both_three (step_linked accounts s f l Inside (home_address me) _ _
          (is_or_zero _ (numbered_home accounts s f l me ∙ ap is_some here)) inside)
          (step_linked accounts s f l Runner (Inside ∷ home_address me) _ _ inside runner)
          (ap is_thread (thread_found accounts s f l me p here runs _ runner))

      -- a process that runs is found where it is
      pub runs_here : caller_by s (where_is me) status ≡ Some (caller_is me)
      runs_here =
          ap (λ (e : Option ℕ). if_runs e (running_caller s (where_is me) status.internal status.thread)) runs
          ∙ ap (λ (b : Bool). if b then labelled_caller s (where_is me) status.internal status.thread else None) leads
          ∙ ap (option_and_then (λ outer. option_and_then (of_inner status outer) (label_there (s.objects status.internal)))) outer_label
          ∙ ap (option_and_then (of_inner status (guard_label l.category (process_guard me p)))) inner_label
          ∙ ap (option_and_then (λ write. option_and_then (λ read.
          Some (record { home = where_is me; thread = status.thread; read = read; write = write }))
          (read_category_in (guard_label l.category (process_guard me p))
          (guard_label l.category (inside_guard me p)))))
          (write_found l.category l.different me p)
          ∙ ap (option_and_then (λ read. Some (record {
            home = where_is me;
            thread = status.thread;
            read = read;
            write = l.category (WritesProcess me);
          }))) (read_found l.category l.different me p)

      -- a process that runs is found by its name
      pub runs_found : caller_at s first me ≡ Some (caller_is me)
      runs_found = found_here ∙ runs_here

    -- a process that has exited is not found
    exited_lost : (n : ℕ) → p.exited ≡ Some n → caller_at s first me ≡ None
    exited_lost n is =
        found_here
        ∙ ap (λ (e : Option ℕ). if_runs e (running_caller s (where_is me) status.internal status.thread)) is

  -- a process that isn't there is not found
  no_process_lost : (me : ProcName) → f.processes me ≡ None → caller_at s first me ≡ None
  no_process_lost me none =
      ap (option_and_then (λ (home : Where). option_and_then (caller_by s home) (status_at s home.segment)))
      (home_is me ∙ ap (option_map (λ (q : Process). where_is me)) none)

  -- what is found is a process that runs
  module _ (me : ProcName) (caller : Caller) (found : caller_at s first me ≡ Some caller) where
    found_process : (o : Option Process) → f.processes me ≡ o → (p : Process) × (f.processes me ≡ Some p) × (p.exited ≡ None)
    found_process None is = absurd (none-some caller (sym (no_process_lost me is) ∙ found))
    found_process (Some p) is = by p.exited refl
      where
        by : (e : Option ℕ) → p.exited ≡ e → (q : Process) × (f.processes me ≡ Some q) × (q.exited ≡ None)
        by None runs = (p, is, runs)
        by (Some n) exited = absurd (none-some caller (sym (exited_lost me p is n exited) ∙ found))

    pub caller_found : (p : Process) × IsCallerOf accounts s f l me p caller
    caller_found =
        let there = found_process (f.processes me) refl in
        let same : caller_is me ≡ caller = same_Some (caller_is me) caller (sym (runs_found me there.0 there.1 there.2) ∙ found) in
        let some = ap is_some there.1 in (
          there.0,
          record {
            runs = (
              there.1,
              there.2,
              is_or_zero _ (numbered_runner accounts s f l me there.0 there.1 there.2)
                  ∙ ap (λ (c : Caller). Some c.thread) same,
            );
            home = is_or_zero _ (numbered_home accounts s f l me ∙ some) ∙ ap (λ (c : Caller). Some c.home.container) same;
            segment = is_or_zero _ (numbered_status accounts s f l me ∙ some) ∙ ap (λ (c : Caller). Some c.home.segment) same;
            reads = ap (λ (c : Caller). c.read) same;
            writes = ap (λ (c : Caller). c.write) same;
          },
        )

  -- each caller of a process that runs is found
  pub caller_revealed : (me : ProcName) (caller : Caller) (p : Process) → IsCallerOf accounts s f l me p caller → caller_at s first me ≡ Some caller
  caller_revealed me caller p c =
      runs_found me p c.runs.0 c.runs.1
      ∙ λ i. Some (record {
        home = record { container = or_zero (c.home i); segment = or_zero (c.segment i) };
        thread = or_zero (c.runs.2 i);
        read = c.reads i;
        write = c.writes i;
      })

  pub caller_there : (me : ProcName) → is_some (caller_at s first me) ≡ is_some (running f me)
  caller_there me = by (f.processes me) refl
    where
      of_life : (p : Process) → f.processes me ≡ Some p → (e : Option ℕ) → p.exited ≡ e
          → is_some (caller_at s first me) ≡ is_some (if_running (Some (record p { exited = e })))
      of_life p is None runs = ap is_some (runs_found me p is runs)
      of_life p is (Some n) exited = ap is_some (exited_lost me p is n exited)

      by : (o : Option Process) → f.processes me ≡ o → is_some (caller_at s first me) ≡ is_some (if_running o)
      by None is = ap is_some (no_process_lost me is)
      by (Some p) is = of_life p is p.exited refl

pub callers_are_found : CallersAreFound
callers_are_found accounts s f l me caller =
    ((λ found. caller_found accounts s f l me caller found), (λ c. caller_revealed accounts s f l me caller c.0 c.1))

pub callers_are_there : CallersAreThere
callers_are_there accounts s f l me = caller_there accounts s f l me
