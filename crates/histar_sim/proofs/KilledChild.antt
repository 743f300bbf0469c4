-- A child is unlinked from its parent's container, with all below it: the objects after that, and the bytes written for its parent.
use Rattle.std.proofs.Common.{◌≡◌, ◌≢◌, ℕ, ◌≤◌, ◌==◌, ◌&&◌, ◌||◌, Bool, true, false, cond, List, [], ◌∷◌, None, Some, inl, inr, refl, sym, ap, ◌∙◌}
use Rattle.std.proofs.Common.{subst, map, length, if◌then◌else◌}
use Rattle.std.specs.FinSet as set
use Rattle.std.specs.Prelude.{nat_eq, not, is_some, option_map}
use Rattle.std.specs.List.{filter, range_with_len}
use Rattle.std.proofs.lemmas.Bool.Decides.{eqb_tells}
use Rattle.std.proofs.lemmas.Bool.{ne_eqb}
use Rattle.histar_flat.specs.Words.{ProcName}
use Rattle.histar_flat.specs.Accounts.{Accounts}
use Rattle.histar_flat.specs.Classes.{Process}
use Rattle.histar_flat.specs.FlatState.{Flat, without_process}
use Rattle.histar_flat.proofs.FileLemmas.{same_name_found}
use Rattle.histar_flat.proofs.Under.{under_itself, above_is_not_under}
use Rattle.histar_level.specs.Levels.{Levels}
use Rattle.histar_layout.specs.declared.status.Child.{Child as Listed}
use Rattle.histar_layout.specs.Status.{status_bytes, without_child}
use Rattle.histar_object.specs.declared.objects.Kind.TheVariants.{Segment, Container, Thread}
use Rattle.histar_object.specs.Objects.{Numbers as Links, unlinking}
use Rattle.histar_object.specs.State.{State}
use Rattle.histar_container.specs.ObjectsModel.{CutsOff}
use Rattle.histar_container.specs.Tree.{Address, Naming, without_below, under, is_under, objects_at}
use Rattle.histar_container.proofs.Addresses.{same_other, above}
use Rattle.histar_container.proofs.Links.{unlinked_links}
use Rattle.histar_container.proofs.Reaching.{not_reached}
use Rattle.histar_refinement.specs.Addresses.{Step, AddressNumbers, same_step, home_address}
use Rattle.histar_refinement.specs.Addresses.Step.{Status, Inside, Runner}
use Rattle.histar_refinement.specs.Addresses.Step.{Child as Below}
use Rattle.histar_refinement.proofs.Expected.{expected}
use Rattle.histar_refinement.specs.Guards.{guard_label, rights_label, rights_clearance}
use Rattle.histar_refinement.specs.Labels.{process_guard, thread_rights}
use Rattle.histar_refinement.specs.Represents.{ObjectsMatch}
use Rattle.histar_refinement.specs.Laws.{RunsAs}
use Rattle.histar_refinement.specs.Processes.{or_zero, listed_by, status_by, process_bytes}
use Rattle.histar_refinement.proofs.CallerFound.{where_is}
use Rattle.histar_refinement.proofs.Moving.{one_address}
use Rattle.histar_refinement.proofs.Roots.{same_home}
use Rattle.histar_refinement.proofs.RawChecks.{object}
use Rattle.histar_refinement.proofs.Steps.{step_tests_equality}
use Rattle.histar_sim.proofs.FoundProcesses.{at_container, at_segment, container_found, segment_found, step_below, thread}
use Rattle.histar_sim.proofs.OwnSegment.{status_few, listed_few, thread_apart, segment_apart}
use Rattle.histar_refinement.proofs.Agreement.{agreement}

-- ---- lists of children

module _ (me : ProcName) (n : ℕ) (number numbers : AddressNumbers) (test later : ℕ → Bool) (gone : later n ≡ false)
    (stays : (k : ℕ) → k ≢ n → later k ≡ test k)
    (same : (k : ℕ) → k ≢ n → listed_by number me k ≡ listed_by numbers me k) where
  abbrev is_other : Listed → Bool
  is_other child = not (child.number == n)

  abbrev others_of : List ℕ → List Listed
  others_of ks = filter (λ child. is_other child) (map (listed_by number me) (filter test ks))

  abbrev left_of : List ℕ → List Listed
  left_of ks = map (listed_by numbers me) (filter later ks)

  -- by whether the first number is among the children
  abbrev others_by : ℕ → List ℕ → Bool → List Listed
  others_by k ks b = filter (λ child. is_other child) (map (listed_by number me) (cond b (k ∷ filter test ks) (filter test ks)))

  abbrev left_by : ℕ → List ℕ → Bool → List Listed
  left_by k ks b = map (listed_by numbers me) (cond b (k ∷ filter later ks) (filter later ks))

  drops : (k : ℕ) (ks : List ℕ) → (k == n) ≡ true → (b : Bool) → others_by k ks b ≡ others_of ks
  drops k ks is true = ap (λ (t : Bool). cond (not t) (listed_by number me k ∷ others_of ks) (others_of ks)) is
  drops k ks is false = refl

  keeps : (k : ℕ) (ks : List ℕ) → (k == n) ≡ false → k ≢ n → others_of ks ≡ left_of ks → (b : Bool) → others_by k ks b ≡ left_by k ks b
  keeps k ks is other rest true =
      ap (λ (t : Bool). cond (not t) (listed_by number me k ∷ others_of ks) (others_of ks)) is
      ∙ (λ i. same k other i ∷ rest i)
  keeps k ks is other rest false = rest

  -- the children but for one are those that are there without it
  pub others_left : (ks : List ℕ) → others_of ks ≡ left_of ks
  others_left [] = refl
  others_left (k ∷ ks) = elim (eqb_tells k n) [
    | inl e ↦ drops k ks e.0 (test k) ∙ others_left ks ∙ sym (ap (left_by k ks) (ap later e.1 ∙ gone))
    | inr e ↦ keeps k ks e.0 e.1 (others_left ks) (test k) ∙ ap (left_by k ks) (sym (stays k e.1))
  ]

-- ---- in a state that is represented

module _ (accounts : Accounts) (s : State) (f : Flat) (l : ObjectsMatch accounts s f) (me : ProcName) (p : Process)
    (here : f.processes me ≡ Some p) (n : ℕ) where
  abbrev top : ProcName
  top = n ∷ me

  -- the naming without the child
  abbrev naming : Naming Step
  naming = without_below same_step l.naming (home_address (n ∷ me))

  abbrev after : Flat
  after = without_process f (n ∷ me)

  kept : (b : Address Step) → under same_step (home_address top) b ≡ false → l.naming.number b ≡ naming.number b
  kept b e = sym (ap (λ (t : Bool). if t then None else l.naming.number b) e)

  -- neither the parent nor another child lies below the child
  parent_outside : under same_step (home_address top) (home_address me) ≡ false
  parent_outside = above same_step step_tests_equality (home_address me) (Below n)

  child_outside : (k : ℕ) → k ≢ n → under same_step (home_address top) (home_address (k ∷ me)) ≡ false
  child_outside k other = λ i. same_other same_step step_tests_equality (home_address top) (home_address (k ∷ me)) apart i || parent_outside i
    where
      apart : home_address top ≢ home_address (k ∷ me)
      apart e = let names : n ∷ me ≡ k ∷ me = same_home (n ∷ me) (k ∷ me) e in let is : n ≡ k = cc in other (sym is)

  child_gone : is_some (after.processes (n ∷ me)) ≡ false
  child_gone = ap (λ (t : Bool). is_some (cond t None (f.processes (n ∷ me)))) (under_itself nat_eq same_name_found (n ∷ me))

  child_stays : (k : ℕ) → k ≢ n → is_some (after.processes (k ∷ me)) ≡ is_some (f.processes (k ∷ me))
  child_stays k other = elim (same_name_found (n ∷ me) (k ∷ me)) [
    | inl e ↦ let is : n ≡ k = let names = e.1 in cc in absurd (other (sym is))
    | inr e ↦ λ i. is_some (cond (e.0 i || above_is_not_under nat_eq same_name_found me n i) None (f.processes (k ∷ me)))
  ]

  child_same : (k : ℕ) → k ≢ n → listed_by l.naming.number me k ≡ listed_by naming.number me k
  child_same k other =
      λ i. record {
        number = k;
        container = or_zero (kept (home_address (k ∷ me)) (child_outside k other) i);
        segment = or_zero (kept (Status ∷ home_address (k ∷ me)) (child_outside k other) i);
      }

  -- What is written of the parent is what the flat state without the child asks for.
  pub killed_bytes : status_bytes (without_child n (status_by f.processes l.naming.number me p))
      ≡ process_bytes (without_process f (n ∷ me)).processes
      (without_below same_step l.naming (home_address (n ∷ me))).number me p
  killed_bytes = λ i. status_bytes (record {
    exited = p.exited;
    born = p.born;
    internal = or_zero (kept (Inside ∷ home_address me) parent_outside i);
    thread = or_zero (kept (Runner ∷ Inside ∷ home_address me) parent_outside i);
    children =
        others_left me n l.naming.number naming.number (λ k. is_some (f.processes (k ∷ me)))
        (λ k. is_some (after.processes (k ∷ me))) child_gone child_stays child_same (range_with_len 1 p.born) i;
  })

  -- the parent's process segment has few bytes
  pub killed_few : length (status_bytes (without_child n (status_by f.processes l.naming.number me p))) ≤ 4096
  killed_few =
      subst (λ (b : List ℕ). length b ≤ 4096) (sym killed_bytes) (status_few (status_by after.processes naming.number me p)
      (listed_few after.processes naming.number me p.born (l.processes me p here).few))

  -- the state once the child was unlinked from the container
  module _ (child : Process) (there : f.processes (n ∷ me) ≡ Some child) (caller : ProcName) (q : Process) (t : ℕ)
      (runs : RunsAs accounts s f l caller q t)
      (outside : under same_step (home_address (n ∷ me)) (home_address caller) ≡ false)
      (cut : State) (cuts : CutsOff s (where_is accounts s f l me).container (where_is accounts s f l (n ∷ me)).container cut) where
    abbrev C : ℕ
    C = (where_is accounts s f l me).container

    abbrev S : ℕ
    S = (where_is accounts s f l me).segment

    abbrev o : ℕ
    o = (where_is accounts s f l (n ∷ me)).container

    abbrev own : Levels
    own = rights_label l.category (thread_rights accounts caller q)

    abbrev clearance : Levels
    clearance = rights_clearance l.category (thread_rights accounts caller q)

    abbrev due : Levels
    due = guard_label l.category (process_guard me p)

    abbrev links : Links
    links = (container_found accounts s f l me p here).0

    thread_is : s.objects t ≡ object own (Thread clearance)
    thread_is = thread accounts s f l me p here caller q t runs

    holder_is : s.objects C ≡ object due (Container links)
    holder_is = (container_found accounts s f l me p here).1

    segment_is : s.objects S ≡ object due (Segment (process_bytes f.processes l.naming.number me p))
    segment_is = segment_found accounts s f l me p here

    at_victim : l.naming.number (home_address (n ∷ me)) ≡ Some o
    at_victim = at_container accounts s f l (n ∷ me) child there

    -- an object that isn't below the child is as it was, but for the container
    remains : (b : Address Step) (k : ℕ) → l.naming.number b ≡ Some k → under same_step (home_address top) b ≡ false
        → k ≢ C → cut.objects k ≡ s.objects k
    remains b k at_k out other =
        cuts.is_cut.stays k
        (not_reached same_step step_tests_equality s.objects s.next_object (objects_at s.objects l.naming) l.naming
        (agreement l).tree o (home_address top) ((agreement l).tree.addressed (home_address top) o at_victim) k
        (ap (is_under same_step (home_address top)) ((agreement l).tree.addressed b k at_k) ∙ out)) other

    pub thread_then : cut.objects t
        ≡ object (rights_label l.category (thread_rights accounts caller q))
        (Thread (rights_clearance l.category (thread_rights accounts caller q)))
    thread_then =
        remains (Runner ∷ Inside ∷ home_address caller) t runs.2 outside
        (thread_apart s t C S own clearance due links _ thread_is holder_is segment_is) ∙ thread_is

    pub segment_then : cut.objects (where_is accounts s f l me).segment
        ≡ object (guard_label l.category (process_guard me p))
        (Segment (process_bytes f.processes l.naming.number me p))
    segment_then =
        remains (Status ∷ home_address me) S (at_segment accounts s f l me p here) parent_outside
        (segment_apart s t C S own clearance due links _ thread_is holder_is segment_is) ∙ segment_is

    pub holder_then : cut.objects (where_is accounts s f l me).container
        ≡ object (guard_label l.category (process_guard me p)) (Container
        (set.remove (container_found accounts s f l me p here).0 (where_is accounts s f l (n ∷ me)).container))
    holder_then = cuts.is_cut.unlinked ∙ ap (option_map (unlinking o)) holder_is

    -- the parent's segment is another object than the child's container, and is still linked
    segment_other : S ≢ o
    segment_other e =
        let same = one_address same_step step_tests_equality s l.naming (expected accounts l.category f l.naming.number)
        (agreement l) (Status ∷ home_address me) (home_address top) S (at_segment accounts s f l me p here)
        (at_victim ∙ ap Some (sym e)) in absurd cc

    pub linked_then : set.contains
        (set.remove (container_found accounts s f l me p here).0 (where_is accounts s f l (n ∷ me)).container)
        (where_is accounts s f l me).segment ≡ true
    linked_then =
        unlinked_links (Some (record { label = due; kind = Container links })) o S
        ∙ (λ i. not (ne_eqb S o segment_other i) && step_below accounts s f l me p here Status S (at_segment accounts s f l me p here) i)
