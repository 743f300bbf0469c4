-- Birth: a container, an internal container, a thread and a process segment are made for a child, and the parent's segment is written.
use Rattle.std.proofs.Common.{◌≡◌, ◌≢◌, ℕ, ◌+◌, ◌<◌, Bool, true, false, List, ◌∷◌, None, Some, inl, inr, arith, ap, ◌∙◌, if◌then◌else◌}
use Rattle.std.specs.Prelude.{option_map}
use Rattle.std.specs.FinSet as set
use Rattle.std.specs.Ordering.{nat_cmp}
use Rattle.histar_flat.specs.Words.{ProcName}
use Rattle.histar_level.specs.Levels.{Levels}
use Rattle.histar_object.specs.declared.objects.Kind.TheVariants.{Segment, Container}
use Rattle.histar_object.specs.declared.objects.Object.{Object}
use Rattle.histar_object.specs.Objects.{thread_of, holding, is_present, is_container}
use Rattle.histar_object.specs.State.{State, Found, with_object, with_segment_bytes}
use Rattle.histar_container.specs.Tree.{Address, Naming, with_number, set_at}
use Rattle.histar_container.proofs.Addresses.{same_tests_equality, same_itself, same_other, longer}
use Rattle.histar_object.proofs.Changes.{none_changed}
use Rattle.histar_container.proofs.TableMoves.{new_none}
use Rattle.histar_container.proofs.Trees.{kind_held_links}
use Rattle.histar_refinement.specs.Addresses.{Step, same_step, home_address}
use Rattle.histar_refinement.specs.Addresses.Step.{Status, Inside, Runner, Child}
use Rattle.histar_refinement.proofs.AgreesAt.{AgreesAt}
use Rattle.histar_refinement.proofs.Steps.{step_tests_equality}
use Rattle.histar_refinement.proofs.Moving.{bare_held, agrees_added, agrees_changed}

-- the number that an address was given, and the others
pub given : (naming : Naming Step) (k : ℕ) (a : Address Step) → (with_number same_step naming k a).number a ≡ Some k
given naming k a = ap (λ (t : Bool). if t then Some k else naming.number a) (same_itself same_step step_tests_equality a)

pub given_other : (naming : Naming Step) (k : ℕ) (a b : Address Step) → a ≢ b → (with_number same_step naming k a).number b ≡ naming.number b
given_other naming k a b other = ap (λ (t : Bool). if t then Some k else naming.number b) (same_other same_step step_tests_equality a b other)

module _ (s : State) (naming : Naming Step) (asked : Address Step → Found) (agrees : AgreesAt same_step s naming asked) (me : ProcName) (n C S : ℕ)
    (at_home : naming.number (home_address me) ≡ Some C) (at_status : naming.number (Status ∷ home_address me) ≡ Some S)
    (holder : is_container (asked (home_address me)) ≡ true)
    (no_home : is_present (asked (home_address (n ∷ me))) ≡ false) (no_inside : is_present (asked (Inside ∷ home_address (n ∷ me))) ≡ false)
    (no_runner : is_present (asked (Runner ∷ Inside ∷ home_address (n ∷ me))) ≡ false)
    (no_status : is_present (asked (Status ∷ home_address (n ∷ me))) ≡ false)
    (outer inner label clearance : Levels) (child_bytes own_bytes : List ℕ) where
  -- the address of the child's container
  abbrev pub home : Address Step
  home = home_address (n ∷ me)

  -- the objects that are made for the child
  abbrev container : Object Levels
  container = record { label = outer; kind = Container set.empty }

  abbrev internal : Object Levels
  internal = record { label = inner; kind = Container set.empty }

  abbrev segment : Object Levels
  segment = record { label = outer; kind = Segment child_bytes }

  -- the states after each raw call, and the namings
  abbrev first : State
  first = with_object s C container

  abbrev second : State
  second = with_object first s.next_object internal

  abbrev third : State
  third = with_object second (s.next_object + 1) (thread_of label clearance)

  abbrev fourth : State
  fourth = with_object third s.next_object segment

  abbrev pub born_state : State
  born_state = with_segment_bytes fourth S own_bytes

  abbrev naming_first : Naming Step
  naming_first = with_number same_step naming s.next_object home

  abbrev naming_second : Naming Step
  naming_second = with_number same_step naming_first (s.next_object + 1) (Inside ∷ home)

  abbrev naming_third : Naming Step
  naming_third = with_number same_step naming_second (s.next_object + 1 + 1) (Runner ∷ Inside ∷ home)

  abbrev pub born_naming : Naming Step
  born_naming = with_number same_step naming_third (s.next_object + 1 + 1 + 1) (Status ∷ home)

  -- the objects at addresses after the birth
  abbrev asked_first : Address Step → Found
  asked_first = set_at same_step asked home (Some container)

  abbrev asked_second : Address Step → Found
  asked_second = set_at same_step asked_first (Inside ∷ home) (Some internal)

  abbrev asked_third : Address Step → Found
  asked_third = set_at same_step asked_second (Runner ∷ Inside ∷ home) (Some (thread_of label clearance))

  abbrev asked_fourth : Address Step → Found
  asked_fourth = set_at same_step asked_third (Status ∷ home) (Some segment)

  abbrev pub born_asked : Address Step → Found
  born_asked = set_at same_step asked_fourth (Status ∷ home_address me) (option_map (holding own_bytes) (asked_fourth (Status ∷ home_address me)))

  empty_links : (c : ℕ) → set.contains (set.empty {R = nat_cmp}) c ≡ false
  empty_links c = set.contains-empty nat_cmp c

  home_holds : is_container (asked_first home) ≡ true
  home_holds = ap (λ (t : Bool). is_container (if t then Some container else asked home)) (same_itself same_step step_tests_equality home)

  inside_holds : is_container (asked_second (Inside ∷ home)) ≡ true
  inside_holds =
      ap (λ (t : Bool). is_container (if t then Some internal else asked_first (Inside ∷ home)))
      (same_itself same_step step_tests_equality (Inside ∷ home))

  agrees_first : AgreesAt same_step first naming_first asked_first
  agrees_first =
      agrees_added same_step step_tests_equality s naming asked agrees C (home_address me) (Child n) container at_home
      holder no_home empty_links

  agrees_second : AgreesAt same_step second naming_second asked_second
  agrees_second =
      agrees_added same_step step_tests_equality first naming_first asked_first agrees_first s.next_object home Inside
      internal (given naming s.next_object home) home_holds no_inside empty_links

  agrees_third : AgreesAt same_step third naming_third asked_third
  agrees_third =
      agrees_added same_step step_tests_equality second naming_second asked_second agrees_second (s.next_object + 1)
      (Inside ∷ home) Runner (thread_of label clearance)
      (given naming_first (s.next_object + 1) (Inside ∷ home)) inside_holds no_runner empty_links

  agrees_fourth : AgreesAt same_step fourth born_naming asked_fourth
  agrees_fourth =
      agrees_added same_step step_tests_equality third naming_third asked_third agrees_third s.next_object home Status
      segment (given naming s.next_object home) home_holds no_status empty_links

  -- the child's process segment is not its parent's
  apart_status : Status ∷ home ≢ Status ∷ home_address me
  apart_status e = let k : home ≡ home_address me = cc in longer same_step step_tests_equality (Child n) (home_address me) k

  status_stays : born_naming.number (Status ∷ home_address me) ≡ Some S
  status_stays = given_other naming_third (s.next_object + 1 + 1 + 1) (Status ∷ home) (Status ∷ home_address me) apart_status ∙ at_status

  pub agrees_born : AgreesAt same_step born_state born_naming born_asked
  agrees_born =
      agrees_changed same_step step_tests_equality fourth born_naming asked_fourth agrees_fourth S
      (Status ∷ home_address me) (holding own_bytes) status_stays (λ o. kind_held_links own_bytes o.kind)
      (bare_held own_bytes)

  -- the numbers that the new objects have
  pub at_new_home : born_naming.number home ≡ Some s.next_object
  at_new_home = given naming s.next_object home

  pub at_new_inside : born_naming.number (Inside ∷ home) ≡ Some (s.next_object + 1)
  at_new_inside = given naming_first (s.next_object + 1) (Inside ∷ home)

  pub at_new_runner : born_naming.number (Runner ∷ Inside ∷ home) ≡ Some (s.next_object + 1 + 1)
  at_new_runner = given naming_second (s.next_object + 1 + 1) (Runner ∷ Inside ∷ home)

  pub at_new_status : born_naming.number (Status ∷ home) ≡ Some (s.next_object + 1 + 1 + 1)
  at_new_status = given naming_third (s.next_object + 1 + 1 + 1) (Status ∷ home)

  -- each other address keeps its number
  pub number_kept : (b : Address Step) → home ≢ b → Inside ∷ home ≢ b → Runner ∷ Inside ∷ home ≢ b → Status ∷ home ≢ b
      → born_naming.number b ≡ naming.number b
  number_kept b not_home not_inside not_runner not_status =
      given_other naming_third (s.next_object + 1 + 1 + 1) (Status ∷ home) b not_status
      ∙ given_other naming_second (s.next_object + 1 + 1) (Runner ∷ Inside ∷ home) b not_runner
      ∙ given_other naming_first (s.next_object + 1) (Inside ∷ home) b not_inside
      ∙ given_other naming s.next_object home b not_home

  -- where there was no object, there is none, except at the new numbers
  pub gone_born : (q : ℕ) → s.objects q ≡ None → q < s.next_object → born_state.objects q ≡ None
  gone_born q e below =
      none_changed fourth.objects S (holding own_bytes) q
      (new_none third.objects third.next_object s.next_object segment q
      (new_none second.objects second.next_object (s.next_object + 1) (thread_of label clearance) q
      (new_none first.objects first.next_object s.next_object internal q
      (new_none s.objects s.next_object C container q e (λ k. absurd (omega (arith, below, k)))) (λ k. absurd (omega (arith, below, k))))
      (λ k. absurd (omega (arith, below, k)))) (λ k. absurd (omega (arith, below, k))))

  -- the birth is right if the objects asked for at five addresses are the new ones, and those at all others the old ones
  module _ (wish : Address Step → Found) (wish_home : Some container ≡ wish home)
      (wish_inside : Some internal ≡ wish (Inside ∷ home))
      (wish_runner : Some (thread_of label clearance) ≡ wish (Runner ∷ Inside ∷ home))
      (wish_status : Some segment ≡ wish (Status ∷ home)) (wish_own : option_map (holding own_bytes) (asked (Status ∷ home_address me))
      ≡ wish (Status ∷ home_address me))
      (wish_other : (a : Address Step) → home ≢ a → Inside ∷ home ≢ a → Runner ∷ Inside ∷ home ≢ a → Status ∷ home ≢ a
      → Status ∷ home_address me ≢ a → asked a ≡ wish a) where
    own_before : asked_fourth (Status ∷ home_address me) ≡ asked (Status ∷ home_address me)
    own_before =
        ap (λ (t : Bool). if t then Some segment else asked_third (Status ∷ home_address me))
        (same_other same_step step_tests_equality (Status ∷ home) (Status ∷ home_address me) apart_status)

    pub asks_born : (a : Address Step) → born_asked a ≡ wish a
    asks_born a = elim (same_tests_equality same_step step_tests_equality (Status ∷ home_address me) a) [
      | inl e ↦
          ap (λ (t : Bool). if t then option_map (holding own_bytes) (asked_fourth (Status ∷ home_address me)) else asked_fourth a) e.0
          ∙ ap (option_map (holding own_bytes)) own_before ∙ wish_own ∙ ap wish e.1
      | inr not_own ↦
          ap (λ (t : Bool).
          if t then option_map (holding own_bytes) (asked_fourth (Status ∷ home_address me)) else asked_fourth a)
          not_own.0
          ∙ elim (same_tests_equality same_step step_tests_equality (Status ∷ home) a) [
            | inl e ↦ ap (λ (t : Bool). if t then Some segment else asked_third a) e.0 ∙ wish_status ∙ ap wish e.1
            | inr not_status ↦ ap (λ (t : Bool). if t then Some segment else asked_third a) not_status.0
                ∙ elim (same_tests_equality same_step step_tests_equality (Runner ∷ Inside ∷ home) a) [
                  | inl e ↦ ap (λ (t : Bool). if t then Some (thread_of label clearance) else asked_second a) e.0 ∙ wish_runner ∙ ap wish e.1
                  | inr not_runner ↦ ap (λ (t : Bool). if t then Some (thread_of label clearance) else asked_second a) not_runner.0
                      ∙ elim (same_tests_equality same_step step_tests_equality (Inside ∷ home) a) [
                        | inl e ↦ ap (λ (t : Bool). if t then Some internal else asked_first a) e.0 ∙ wish_inside ∙ ap wish e.1
                        | inr not_inside ↦ ap (λ (t : Bool). if t then Some internal else asked_first a) not_inside.0
                            ∙ elim (same_tests_equality same_step step_tests_equality home a) [
                              | inl e ↦ ap (λ (t : Bool). if t then Some container else asked a) e.0 ∙ wish_home ∙ ap wish e.1
                              | inr not_home ↦
                                  ap (λ (t : Bool). if t then Some container else asked a) not_home.0
                                  ∙ wish_other a not_home.1 not_inside.1 not_runner.1 not_status.1 not_own.1
                            ]
                      ]
                ]
          ]
    ]
