-- The ranges of labels in a birth and in a login: what a process owns covers the labels that it asks for.
use Rattle.std.proofs.Common.{◌≡◌, ℕ, Bool, true, false, ◌||◌, max, List, [], ◌∷◌, ◌++◌, None, arith, refl, sym, ap, ◌∙◌}
use Rattle.std.specs.Prelude.{map}
use Rattle.std.specs.List.{list_all}
use Rattle.std.proofs.lemmas.Bool.{and_from, or_left, or_right}
use mathlib.Core.Bool.{true≢false}
use Rattle.histar_flat.specs.Words.{Name, ProcName}
use Rattle.histar_level.specs.declared.level.Level.{Level}
use Rattle.histar_level.specs.Level.{rank, raised, lowered, level_at}
use Rattle.histar_level.proofs.Functions.{same_levels}
use Rattle.histar_label.specs.Levels.{is_below, is_below_raised, is_below_join_raised}
use Rattle.histar_label.specs.Floors.{floor_of, join_of}
use Rattle.histar_label.proofs.Floors.{level_of-combined_of}
use Rattle.histar_label.proofs.Orders.{is_below-law, is_below_join_raised-law}
use Rattle.histar_flat.specs.Accounts.{Accounts, user_number, groups_of}
use Rattle.histar_flat.specs.Classes.{Process, is_free}
use Rattle.histar_layout.specs.Labelling.{owner_label, cleared_at}
use Rattle.histar_refinement.specs.Categories.{CategoryName, Categories, AreDifferent, among}
use Rattle.histar_refinement.specs.Categories.CategoryName.{ReadsGroup, WritesGroup, ReadsProcess, WritesProcess, OfJob}
use Rattle.histar_refinement.specs.Guards.{Rights, guard_label, rights_label, rights_clearance}
use Rattle.histar_refinement.specs.Labels.{process_guard, inside_guard, reading, writing, owned_as, thread_rights, gate_rights}
use Rattle.histar_refinement.proofs.AmongNames.{covers, in_first, in_second, at_head, later, each_head, each_append}
use Rattle.histar_layout.proofs.Members.{is_in, is_in-append}
use Rattle.histar_layout.proofs.LabelLevels.{at_cleared, at_owning, cleared_level, owning_level}
use Rattle.histar_refinement.proofs.CategoryTests.{among-append, among_none, is_in_names, named_in}
use Rattle.histar_refinement.proofs.Tested.{observes_by_names, below_by_names, cleared_by_names, rights_by_names, capped_by_names}
use Rattle.histar_refinement.proofs.Tested.{clearances_by_names}
use Rattle.histar_refinement.proofs.ClassTests.{jobs_apart, tainted_in_none}

-- a test that each name passes
pub passed_by_all : (test : CategoryName → Bool) (names : List CategoryName)
    → ((c : CategoryName) → among names c ≡ true → test c ≡ true) → list_all test names ≡ true
passed_by_all test [] each = refl
passed_by_all test (x ∷ names) each = and_from _ _ (each x (at_head x names)) (passed_by_all test names (λ c e. each c (later x names c e)))

module _ (accounts : Accounts) (category : Categories) (different : AreDifferent category) (me : ProcName) (p : Process) (child : ProcName) where
  -- the rights of the thread once it has made the child's two categories
  abbrev pub own : Rights
  own = thread_rights accounts me p

  abbrev pub grown : Rights
  grown = record { owned = WritesProcess child ∷ ReadsProcess child ∷ own.owned; tainted = own.tainted }

  abbrev pub newborn : Process
  newborn = record { user = p.user; chain = p.chain; held = []; exited = None; born = 0 }

  abbrev both : List CategoryName
  both = grown.owned ++ grown.tainted

  jobs_covered : list_all (among both) (map OfJob p.chain) ≡ true
  jobs_covered = covers both (map OfJob p.chain) (in_second grown.owned grown.tainted)

  -- the jobs of the process are no bar, since its thread has them at 3
  jobs_seen : list_all (λ c. among grown.owned c || among grown.tainted c) (map OfJob p.chain) ≡ true
  jobs_seen =
      passed_by_all (λ c. among grown.owned c || among grown.tainted c) (map OfJob p.chain)
      (λ c e. or_right (among grown.owned c) (among grown.tainted c) e)

  -- the thread modifies its own container and process segment
  pub own_modified : (is_below (rights_label category grown) (guard_label category (process_guard me p)) ≡ true)
      × (is_below_raised (guard_label category (process_guard me p)) (rights_label category grown) ≡ true)
  own_modified = (
    below_by_names category different (process_guard me p) grown (jobs_apart accounts me p p.chain (WritesProcess me ∷ []) (λ job. refl))
        ∙ and_from _ _ (covers (map OfJob p.chain) (map OfJob p.chain) (λ c e. e))
        (and_from _ _
        (later (WritesProcess child) (ReadsProcess child ∷ own.owned) (WritesProcess me)
        (later (ReadsProcess child) own.owned (WritesProcess me)
        (later (ReadsProcess me) (WritesProcess me ∷ owned_as accounts p (user_number accounts p.user) ++ map OfJob p.held) (WritesProcess me)
        (at_head (WritesProcess me) (owned_as accounts p (user_number accounts p.user) ++ map OfJob p.held))))) refl),
    observes_by_names category different (process_guard me p) grown
        (jobs_apart accounts me p p.chain (WritesProcess me ∷ []) (λ job. refl)) ∙ jobs_seen,
  )

  -- the child's container and process segment, and its internal container
  pub outer_above : is_below (rights_label category grown) (guard_label category (process_guard child newborn)) ≡ true
  outer_above =
      below_by_names category different (process_guard child newborn) grown
      (jobs_apart accounts me p p.chain (WritesProcess child ∷ []) (λ job. refl))
      ∙ and_from _ _ (covers (map OfJob p.chain) (map OfJob p.chain) (λ c e. e))
      (and_from _ _ (at_head (WritesProcess child) (ReadsProcess child ∷ own.owned)) refl)

  pub outer_below : is_below (guard_label category (process_guard child newborn)) (rights_clearance category grown) ≡ true
  outer_below = cleared_by_names category different (process_guard child newborn) grown jobs_covered

  pub outer_seen : is_below_raised (guard_label category (process_guard child newborn)) (rights_label category grown) ≡ true
  outer_seen =
      observes_by_names category different (process_guard child newborn) grown
      (jobs_apart accounts me p p.chain (WritesProcess child ∷ []) (λ job. refl)) ∙ jobs_seen

  pub inner_above : is_below (rights_label category grown) (guard_label category (inside_guard child newborn)) ≡ true
  inner_above =
      below_by_names category different (inside_guard child newborn) grown (jobs_apart accounts me p p.chain (WritesProcess child ∷ []) (λ job. refl))
      ∙ and_from _ _ (covers (ReadsProcess child ∷ map OfJob p.chain) (map OfJob p.chain)
      (λ c e. later (ReadsProcess child) (map OfJob p.chain) c e))
      (and_from _ _ (at_head (WritesProcess child) (ReadsProcess child ∷ own.owned)) refl)

  pub inner_below : is_below (guard_label category (inside_guard child newborn)) (rights_clearance category grown) ≡ true
  inner_below = cleared_by_names category different (inside_guard child newborn) grown
      (and_from _ _ (in_first grown.owned grown.tainted (ReadsProcess child) (later (WritesProcess child)
      (ReadsProcess child ∷ own.owned) (ReadsProcess child) (at_head (ReadsProcess child) own.owned)))
      jobs_covered)

  pub inner_seen : is_below_raised (guard_label category (inside_guard child newborn)) (rights_label category grown) ≡ true
  inner_seen = observes_by_names category different (inside_guard child newborn) grown
      (each_head (λ c. among (WritesProcess child ∷ []) c ≡ false) (ReadsProcess child) (map OfJob p.chain) refl
      (jobs_apart accounts me p p.chain (WritesProcess child ∷ []) (λ job. refl)))
      ∙ and_from _ _ (or_left (among grown.owned (ReadsProcess child)) (among grown.tainted (ReadsProcess child))
      (later (WritesProcess child) (ReadsProcess child ∷ own.owned) (ReadsProcess child)
      (at_head (ReadsProcess child) own.owned))) jobs_seen

  -- the child's thread owns no more than its parent
  abbrev pub childs : Rights
  childs = thread_rights accounts child newborn

  owned_by_parent : (c : CategoryName) → among childs.owned c ≡ true → among grown.owned c ≡ true
  owned_by_parent =
      each_head (λ c. among grown.owned c ≡ true) (ReadsProcess child)
      (WritesProcess child ∷ owned_as accounts p (user_number accounts p.user) ++ [])
      (later (WritesProcess child) (ReadsProcess child ∷ own.owned) (ReadsProcess child)
      (at_head (ReadsProcess child) own.owned))
      (each_head (λ c. among grown.owned c ≡ true) (WritesProcess child)
      (owned_as accounts p (user_number accounts p.user) ++ [])
      (at_head (WritesProcess child) (ReadsProcess child ∷ own.owned))
      (each_append (λ c. among grown.owned c ≡ true) (owned_as accounts p (user_number accounts p.user)) []
      (λ c e.
      later (WritesProcess child) (ReadsProcess child ∷ own.owned) c (later (ReadsProcess child) own.owned c (later (ReadsProcess me)
      (WritesProcess me ∷ owned_as accounts p (user_number accounts p.user) ++ map OfJob p.held) c
      (later (WritesProcess me)
      (owned_as accounts p (user_number accounts p.user) ++ map OfJob p.held) c
      (in_first (owned_as accounts p (user_number accounts p.user)) (map OfJob p.held) c e)))))
      (λ c e. absurd (true≢false (sym e)))))

  pub thread_above : is_below (rights_label category grown) (rights_label category childs) ≡ true
  thread_above =
      rights_by_names category different grown childs (covers (map OfJob p.chain) (map OfJob p.chain) (λ c e. e))
      (covers grown.owned childs.owned owned_by_parent)

  pub thread_below : is_below (rights_label category childs) (rights_clearance category childs) ≡ true
  thread_below =
      capped_by_names category different childs (childs.owned ++ childs.tainted)
      ∙ covers (childs.owned ++ childs.tainted) childs.tainted (in_second childs.owned childs.tainted)

  pub clearance_below : is_below (rights_clearance category childs) (rights_clearance category grown) ≡ true
  clearance_below = clearances_by_names category different childs grown
      (covers both (childs.owned ++ childs.tainted) (each_append (λ c. among both c ≡ true) childs.owned childs.tainted
      (λ c e. in_first grown.owned grown.tainted c (owned_by_parent c e))
      (in_second grown.owned grown.tainted)))

  -- the thread may have its own label and clearance again
  pub label_again : (is_below (rights_label category grown) (rights_label category own) ≡ true)
      × (is_below (rights_label category own) (rights_clearance category grown) ≡ true)
  label_again = (
    rights_by_names category different grown own (covers (map OfJob p.chain) (map OfJob p.chain) (λ c e. e))
        (covers grown.owned own.owned (λ c e. later (WritesProcess child) (ReadsProcess child ∷ own.owned) c
        (later (ReadsProcess child) own.owned c e))),
    capped_by_names category different own both ∙ jobs_covered,
  )

  pub clearance_again : (is_below (rights_label category own) (rights_clearance category own) ≡ true)
      × (is_below_join_raised (rights_clearance category own) (rights_clearance category grown)
      (rights_label category own) ≡ true)
  clearance_again = (
    capped_by_names category different own (own.owned ++ own.tainted)
        ∙ covers (own.owned ++ own.tainted) own.tainted (in_second own.owned own.tainted),
    (is_below_join_raised-law (rights_clearance category own) (rights_clearance category grown) (rights_label category own)).1 (λ q.
        let under = (is_below-law (rights_clearance category own) (rights_clearance category grown)).0
        (clearances_by_names category different own grown
        (covers both (own.owned ++ own.tainted) (each_append (λ c. among both c ≡ true) own.owned own.tainted
        (λ c e. in_first grown.owned grown.tainted c (later (WritesProcess child) (ReadsProcess child ∷ own.owned) c
        (later (ReadsProcess child) own.owned c e))) (in_second grown.owned grown.tainted)))) q in
        omega (arith, under)),
  )

-- the floor and the join of two levels
abbrev floor_level : Level → Level → Level
floor_level l m = level_at (lowered (max (raised l) (raised m)))

abbrev join_level : Level → Level → Level
join_level l m = level_at (max (rank l) (rank m))

-- the floor of two labels with rights, of which the second has no taint, and the join of two clearances
floor_at : (o t g : Bool) → (t ≡ true → g ≡ false) → floor_level (owning_level o t) (owning_level g false) ≡ owning_level (o || g) t
floor_at o true true apart = absurd (true≢false (apart refl))
floor_at true true false apart = refl
floor_at false true false apart = refl
floor_at true false true apart = refl
floor_at true false false apart = refl
floor_at false false true apart = refl
floor_at false false false apart = refl

join_at : (c d : Bool) → join_level (cleared_level c) (cleared_level d) ≡ cleared_level (c || d)
join_at true true = refl
join_at true false = refl
join_at false true = refl
join_at false false = refl

pub floor_owning : (O T P : List ℕ) → ((q : ℕ) → is_in T q ≡ true → is_in P q ≡ false)
    → floor_of (owner_label O T) (owner_label P []) ≡ owner_label (O ++ P) T
floor_owning O T P apart = same_levels (floor_of (owner_label O T) (owner_label P [])) (owner_label (O ++ P) T) (λ q.
    level_of-combined_of _ (owner_label O T) (owner_label P []) q
    ∙ (λ i. floor_level (at_owning O T q i) (at_owning P [] q i))
    ∙ floor_at (is_in O q) (is_in T q) (is_in P q) (apart q)
    ∙ ap (λ b. owning_level b (is_in T q)) (sym (is_in-append O P q))
    ∙ sym (at_owning (O ++ P) T q))

pub join_cleared : (C D : List ℕ) → join_of (cleared_at C) (cleared_at D) ≡ cleared_at (C ++ D)
join_cleared C D = same_levels (join_of (cleared_at C) (cleared_at D)) (cleared_at (C ++ D)) (λ q.
    level_of-combined_of _ (cleared_at C) (cleared_at D) q
    ∙ (λ i. join_level (at_cleared C q i) (at_cleared D q i))
    ∙ join_at (is_in C q) (is_in D q) ∙ ap cleared_level (sym (is_in-append C D q)) ∙ sym (at_cleared (C ++ D) q))

map_append : (category : Categories) (xs ys : List CategoryName) → map category (xs ++ ys) ≡ map category xs ++ map category ys
map_append category [] ys = refl
map_append category (x ∷ xs) ys = ap (λ (cs : List ℕ). category x ∷ cs) (map_append category xs ys)

module _ (accounts : Accounts) (category : Categories) (different : AreDifferent category) (me : ProcName) (p : Process) (name : Name) (i : ℕ) where
  abbrev mine : Rights
  mine = thread_rights accounts me p

  abbrev gate : Rights
  gate = gate_rights accounts name i

  no_job_given : (job : ProcName) → among gate.owned (OfJob job) ≡ false
  no_job_given job =
      among-append (reading accounts name i) (writing accounts name i) (OfJob job)
      ∙ (λ k. among_none ReadsGroup (OfJob job) (λ g. refl) (groups_of accounts name) k
      || among_none WritesGroup (OfJob job) (λ g. refl) (groups_of accounts name) k)

  no_job_both : (job : ProcName) → among (gate.owned ++ []) (OfJob job) ≡ false
  no_job_both job = among-append gate.owned [] (OfJob job) ∙ ap (λ b. b || false) (no_job_given job)

  -- a gate lets in the processes that are in no job, and no others
  pub let_in : is_below (rights_label category mine) (rights_clearance category gate) ≡ is_free p
  let_in = capped_by_names category different mine (gate.owned ++ []) ∙ tainted_in_none accounts me p (gate.owned ++ []) no_job_both p.chain

  -- after the gate the thread may have what it owns and what the gate gives
  abbrev pub behind : Rights
  behind = record { owned = mine.owned ++ gate.owned; tainted = mine.tainted }

  pub floor_behind : floor_of (rights_label category mine) (rights_label category gate) ≡ rights_label category behind
  floor_behind =
      floor_owning (map category mine.owned) (map category mine.tainted) (map category gate.owned) (λ q e.
      let there = named_in category mine.tainted q e in
      ap (is_in (map category gate.owned)) there.1 ∙ is_in_names category different gate.owned there.0
      ∙ jobs_apart accounts me p p.chain gate.owned no_job_given there.0 there.2)
      ∙ ap (λ (cs : List ℕ). owner_label cs (map category mine.tainted)) (sym (map_append category mine.owned gate.owned))

  pub join_behind : join_of (rights_clearance category mine) (rights_clearance category gate)
      ≡ cleared_at (map category ((mine.owned ++ mine.tainted) ++ (gate.owned ++ [])))
  join_behind = join_cleared (map category (mine.owned ++ mine.tainted)) (map category (gate.owned ++ []))
      ∙ ap cleared_at (sym (map_append category (mine.owned ++ mine.tainted) (gate.owned ++ [])))
