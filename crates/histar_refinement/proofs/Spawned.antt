-- The nine raw calls of a spawn, all granted: two categories are made, four objects, a segment is written, and the thread takes its
-- own label and clearance again. The kernel then represents the flat state with the child.
use Rattle.std.proofs.Common.{◌≡◌, ℕ, ◌+◌, ◌<◌, inl, true, false, List, [], ◌∷◌, Option, None, Some, arith, refl, sym, ap, ◌∙◌, subst}
use Rattle.std.specs.Prelude.{is_some}
use Rattle.std.specs.FinSet as set
use Rattle.std.proofs.lemmas.Bool.{or_left}
use Rattle.histar_flat.specs.Words.{ProcName}
use Rattle.histar_level.specs.Levels.{Levels}
use Rattle.histar_object.specs.declared.objects.Kind.TheVariants.{Segment, Container}
use Rattle.histar_object.specs.declared.objects.Object.{Object}
use Rattle.histar_object.specs.Objects.{thread_of}
use Rattle.histar_rules.specs.Rights.{with_category}
use Rattle.histar_object.specs.State.{State, Found, with_object, with_segment_bytes}
use Rattle.histar_flat.specs.Accounts.{Accounts, has, user_number}
use Rattle.histar_flat.specs.Classes.{Process}
use Rattle.histar_flat.specs.FlatState.{Flat, with_child}
use Rattle.histar_refinement.specs.Categories.{IsUsed}
use Rattle.histar_refinement.specs.Categories.CategoryName.{OfJob}
use Rattle.histar_refinement.specs.Guards.{rights_label, rights_clearance}
use Rattle.histar_refinement.specs.Labels.{thread_rights}
use Rattle.histar_refinement.specs.Addresses.{same_step, home_address}
use Rattle.histar_refinement.specs.Addresses.Step.{Status, Inside, Runner}
use Rattle.histar_refinement.proofs.Expected.{thread_object, expected}
use Rattle.histar_refinement.specs.Represents.{Represents, ObjectsMatch}
use Rattle.histar_refinement.specs.KeptNames.{RepresentsStill}
use Rattle.histar_refinement.proofs.KeepingNames.{grows_keeps}
use Rattle.histar_rules.specs.Rules.{greatest}
use Rattle.histar_refinement.proofs.Roots.{asked_runner}
use Rattle.histar_refinement.proofs.Steps.{step_tests_equality}
use Rattle.histar_refinement.proofs.Moving.{number_below, at_number, bare_is}
use Rattle.histar_refinement.proofs.Beside.{Beside, beside_itself, beside_added, beside_written, beside_uncounted, own_set, back}
use Rattle.histar_refinement.proofs.Spawning.{outer, inner, label, clearance, child_written, own_written, matched_born, job_used, given_then}
use Rattle.histar_refinement.proofs.Spawning.{grows_born}
use Rattle.histar_refinement.proofs.Agreement.{agreement}

-- the thread of a process that runs
module _ (accounts : Accounts) (s : State) (f : Flat) (l : ObjectsMatch accounts s f) (me : ProcName) (p : Process)
    (here : f.processes me ≡ Some p) (runs : p.exited ≡ None) (T : ℕ)
    (at_thread : l.naming.number (Runner ∷ Inside ∷ home_address me) ≡ Some T) where
  abbrev pub own_label : Levels
  own_label = rights_label l.category (thread_rights accounts me p)

  abbrev pub own_clearance : Levels
  own_clearance = rights_clearance l.category (thread_rights accounts me p)

  pub thread_agrees : s.objects T ≡ Some (thread_of own_label own_clearance)
  thread_agrees = bare_is (s.objects T) (thread_of own_label own_clearance) refl
      (at_number same_step step_tests_equality s l.naming (expected accounts l.category f l.naming.number) (agreement l)
      (Runner ∷ Inside ∷ home_address me) T at_thread
      ∙ asked_runner accounts l.category f l.naming.number me ∙ ap (thread_object accounts l.category me) here
      ∙ ap (λ (e : Option ℕ). elim e as (λ _. Found) [ None ↦ Some (thread_of own_label own_clearance) | Some n ↦ None ]) runs)

  pub below_next : T < s.next_object
  below_next =
      number_below same_step step_tests_equality s l.naming (expected accounts l.category f l.naming.number) (agreement l)
      (Runner ∷ Inside ∷ home_address me) T at_thread

  pub beside_start : Beside T own_label own_clearance s s
  beside_start = beside_itself T own_label own_clearance s below_next thread_agrees

-- the five calls of a birth that make and write objects
abbrev pub births : State → ℕ → ℕ → Object Levels → Object Levels → Object Levels → Object Levels → List ℕ → State
births t C S one two three four bytes =
    with_segment_bytes (with_object (with_object (with_object (with_object t C one) t.next_object two) (t.next_object + 1) three)
    t.next_object four) S bytes

pub beside_births : (T : ℕ) (own caller_clearance : Levels) (t u : State) (C S : ℕ) (one two three four : Object Levels)
    (bytes : List ℕ) → Beside T own caller_clearance t u
    → Beside T own caller_clearance (births t C S one two three four bytes) (births u C S one two three four bytes)
beside_births T own caller_clearance t u C S one two three four bytes b =
    let first = beside_added T own caller_clearance t u C one b in
    let second = beside_added T own caller_clearance (with_object t C one) (with_object u C one) u.next_object two first in
    let third =
    beside_added T own caller_clearance (with_object (with_object t C one) u.next_object two)
    (with_object (with_object u C one) u.next_object two) (u.next_object + 1) three second in
    let fourth =
    beside_added T own caller_clearance
    (with_object (with_object (with_object t C one) u.next_object two) (u.next_object + 1) three)
    (with_object (with_object (with_object u C one) u.next_object two) (u.next_object + 1) three) u.next_object
    four third in
    subst_next (beside_written T own caller_clearance (with_object
    (with_object (with_object (with_object t C one) u.next_object two) (u.next_object + 1) three)
    u.next_object four) (with_object
    (with_object (with_object (with_object u C one) u.next_object two) (u.next_object + 1) three)
    u.next_object four) S bytes fourth)
  where
    subst_next : Beside T own caller_clearance (with_segment_bytes
        (with_object (with_object (with_object (with_object t C one) u.next_object two) (u.next_object + 1) three)
        u.next_object four) S bytes) (births u C S one two three four bytes)
        → Beside T own caller_clearance (births t C S one two three four bytes) (births u C S one two three four bytes)
    subst_next =
        subst (λ (m : ℕ). Beside T own caller_clearance (with_segment_bytes
        (with_object (with_object (with_object (with_object t C one) m two) (m + 1) three) m four) S
        bytes) (births u C S one two three four bytes)) (sym b.next)

module _ (accounts : Accounts) (s : State) (f : Flat) (l : Represents accounts s f) (me : ProcName) (p : Process)
    (here : f.processes me ≡ Some p) (runs : p.exited ≡ None) (room : p.born < 64)
    (C S T : ℕ) (at_home : l.matched.naming.number (home_address me) ≡ Some C)
    (at_status : l.matched.naming.number (Status ∷ home_address me) ≡ Some S)
    (at_thread : l.matched.naming.number (Runner ∷ Inside ∷ home_address me) ≡ Some T)
    (few : s.next_object + 3 < greatest) where
  abbrev m : ObjectsMatch accounts s f
  m = l.matched

  pub chain_used : (job : ProcName) → has p.chain job ≡ true → IsUsed accounts f (OfJob job)
  chain_used job e = inl (me, p, here, or_left (has p.chain job) (has p.held job) e)

  pub chain_free : is_some (user_number accounts p.user) ≡ false → p.chain ≡ []
  chain_free e = ((l.matched.processes me p here).free runs e).0

  abbrev born_of : State → State
  born_of t = births t C S
      (record {
        label = outer accounts s f m me p here runs room p.chain chain_used
            (l.matched.processes me p here).chain chain_free C S at_home at_status;
        kind = Container set.empty;
      })
      (record {
        label = inner accounts s f m me p here runs room p.chain chain_used
            (l.matched.processes me p here).chain chain_free C S at_home at_status;
        kind = Container set.empty;
      })
      (thread_of (label accounts s f m me p here runs room p.chain chain_used (l.matched.processes me p here).chain
      chain_free C S at_home at_status) (clearance accounts s f m me p here runs room p.chain chain_used
      (l.matched.processes me p here).chain chain_free C S at_home at_status))
      (record {
        label = outer accounts s f m me p here runs room p.chain chain_used
            (l.matched.processes me p here).chain chain_free C S at_home at_status;
        kind = Segment (child_written accounts s f m me p here runs room p.chain chain_used
            (l.matched.processes me p here).chain chain_free C S at_home at_status);
      })
      (own_written accounts s f m me p here runs room p.chain chain_used (l.matched.processes me p here).chain chain_free C S at_home at_status)

  abbrev owning_two : State
  owning_two = with_category (with_category s T) T

  abbrev own : Levels
  own = own_label accounts s f m me p here runs T at_thread

  abbrev caller_clearance : Levels
  caller_clearance = own_clearance accounts s f m me p here runs T at_thread

  abbrev pub state_spawned : State
  state_spawned = own_set T (born_of owning_two) own caller_clearance

  -- the state represents the flat state with the child, and names keep their numbers
  pub still_spawned : RepresentsStill l state_spawned (with_child f me p p.chain)
  still_spawned =
      let start = beside_start accounts s f m me p here runs T at_thread in
      let two = beside_uncounted T own caller_clearance (with_category s T) s (beside_uncounted T own caller_clearance s s start) in
      let born =
      matched_born accounts s f m me p here runs room p.chain chain_used (l.matched.processes me p here).chain
      chain_free C S at_home at_status state_spawned (back T own caller_clearance (born_of owning_two) (born_of s)
      (beside_births T own caller_clearance owning_two s C S _ _ _ _ _ two)) refl (omega arith) few in
      record {
        represents = record {
          matched = born.0;
          jobs_given = λ job u. given_then accounts s f m me p here runs room p.chain chain_used
              (l.matched.processes me p here).chain chain_free C S at_home at_status job
              (l.jobs_given job (job_used accounts s f m me p here runs room p.chain chain_used
              (l.matched.processes me p here).chain chain_free C S at_home at_status job u));
        };
        names =
            grows_keeps m born.0 (grows_born accounts s f m me p here runs room p.chain chain_used
            (l.matched.processes me p here).chain chain_free C S at_home at_status state_spawned
            (with_child f me p p.chain) born.0 born.1 born.2 (λ c used. used));
      }
