-- Adding the processes of children, one birth after another.
use Rattle.std.specs.Prelude.{◌≡◌, ℕ, suc, ◌+◌, ◌-◌, ◌<◌, List, [], ◌∷◌, ◌++◌, length, Option, None, Some, option_map, refl}
use Rattle.std.specs.List.{filter_map, cons_option, range_with_len}
use Rattle.std.proofs.Common.{◌≤◌, ◌≢◌, Result, Ok, Err, arith, ap, sym, ◌∙◌, subst, append-nil, append_assoc}
use Rattle.std.specs.Result.{IsErrAnd}
use Rattle.std.proofs.lemmas.Option.{none-some}
use Rattle.std.proofs.lemmas.Result.{err_from_is_err_and}
use Rattle.histar_flat.specs.Words.{ProcName, most_numbers}
use Rattle.histar_flat.specs.Accounts.{Accounts}
use Rattle.histar_object.specs.State.{State}
use Rattle.histar_layout.specs.Reading.{◌>>=◌}
use Rattle.histar_layout.specs.declared.status.Child.{Child}
use Rattle.histar_programs.specs.declared.roots.Home.{Home}
use Rattle.histar_programs.specs.declared.roots.Roots.{Roots}
use Rattle.histar_process.specs.Parts.{home_of}
use Rattle.histar_readout.specs.declared.process.ProcessNode.{ProcessNode}
use Rattle.histar_readout.specs.declared.process.ProcessError.{ProcessError}
use Rattle.histar_readout.specs.declared.process.ProcessError.TheVariants.{NoProcess, OutOfMemory}
use Rattle.histar_readout.specs.Process.{node_in}
use Rattle.histar_readout.specs.Processes.{Found, child_of, children_of, all_of, processes_at, levels_at, AreProcessesOf, HasNoProcesses, Adds}
use Rattle.histar_readout.specs.Processes.{AddsProcesses}

-- these processes, and then the others, if there are any
abbrev before : List ProcessNode → Option (List ProcessNode) → Option (List ProcessNode)
before added rest = option_map (λ (l : List ProcessNode). added ++ l) rest

before_none : (rest : Option (List ProcessNode)) → rest ≡ before [] rest
before_none None = refl
before_none (Some l) = refl

before_both : (a b : List ProcessNode) (rest : Option (List ProcessNode)) → before a (before b rest) ≡ before (a ++ b) rest
before_both a b None = refl
before_both a b (Some l) = ap Some (sym (append_assoc a b l))

before_rest : (first : List ProcessNode) (rest : Option (List ProcessNode)) → (rest >>= λ l. Some (first ++ l)) ≡ before first rest
before_rest first None = refl
before_rest first (Some l) = refl

module _ (accounts : Accounts) (s : State) (me : ProcName) (segment born : ℕ) where
  -- the processes at a child and below it
  abbrev below : Found
  below = processes_at (most_numbers - length me) accounts s

  -- the processes of the children of a process were added, where this many were born
  abbrev pub AddsChildren : List ProcessNode → List ProcessNode → Result (Unit {0}) ProcessError → Type 0
  AddsChildren = Adds (all_of (processes_at (most_numbers - length me) accounts s) me (children_of s segment born))

  -- the children that were born after the first ones
  abbrev later : ℕ → ℕ → List Child
  later first count = filter_map (child_of s segment) (range_with_len (first + 1) count)

  -- the processes of the children that were born after the first births
  abbrev left : ℕ → Option (List ProcessNode)
  left births = all_of below me (later births (born - births))

  -- the processes of the children of the first births were added
  pub record AddsBirths (births : ℕ) (old new : List ProcessNode) : Type 0 where
    pub added : List ProcessNode
    pub parts : all_of below me (children_of s segment born) ≡ before added (left births)
    pub grown : new ≡ old ++ added

  -- before the first birth no process was added
  pub adds_none : (old : List ProcessNode) → AddsBirths 0 old old
  adds_none old = record {
    added = [];
    parts = before_none (all_of below me (children_of s segment born)) ∙ ap (λ (n : ℕ). before [] (all_of below me (later 0 n))) (omega arith);
    grown = sym (append-nil old);
  }

  -- the next birth comes before the later ones
  next_birth : (births : ℕ) → births < born
      → later births (born - births)
      ≡ cons_option (child_of s segment (births + 1)) (later (births + 1) (born - (births + 1)))
  next_birth births fits =
      let more : born - births ≡ suc (born - (births + 1)) = omega (arith, fits) in
      ap (later births) more

  module _ (births : ℕ) (old mid new : List ProcessNode) (fits : births < born) (so_far : AddsBirths births old mid) where
    -- where no such child is listed, no process is added
    pub adds_nothing : child_of s segment (births + 1) ≡ None → AddsBirths (births + 1) old mid
    adds_nothing none = record {
      added = so_far.added;
      parts =
          so_far.parts
          ∙ ap (λ (cs : List Child). before so_far.added (all_of below me cs))
          (next_birth births fits
          ∙ ap (λ (c : Option Child). cons_option c (later (births + 1) (born - (births + 1)))) none);
      grown = so_far.grown;
    }

    module _ (child : Child) (listed : child_of s segment (births + 1) ≡ Some child) where
      left_from : left births ≡ (below (child.number ∷ me) (home_of child) >>= λ first. left (births + 1) >>= λ rest. Some (first ++ rest))
      left_from =
          ap (all_of below me) (next_birth births fits
          ∙ ap (λ (c : Option Child). cons_option c (later (births + 1) (born - (births + 1)))) listed)

      -- the processes of the next child are added
      adds_more : (first : List ProcessNode) → below (child.number ∷ me) (home_of child) ≡ Some first
          → new ≡ mid ++ first → AddsBirths (births + 1) old new
      adds_more first there more = record {
        added = so_far.added ++ first;
        parts =
            so_far.parts
            ∙ ap (before so_far.added) (left_from
            ∙ ap (λ (o : Option (List ProcessNode)).
            o >>= λ first. left (births + 1) >>= λ rest. Some (first ++ rest)) there
            ∙ before_rest first (left (births + 1)))
            ∙ before_both so_far.added first (left (births + 1));
        grown = more ∙ ap (λ (l : List ProcessNode). l ++ first) so_far.grown ∙ append_assoc old so_far.added first;
      }

      -- where the next child has no processes, the children have none
      adds_no_more : below (child.number ∷ me) (home_of child) ≡ None → all_of below me (children_of s segment born) ≡ None
      adds_no_more none =
          so_far.parts
          ∙ ap (before so_far.added) (left_from
          ∙ ap (λ (o : Option (List ProcessNode)).
          o >>= λ first. left (births + 1) >>= λ rest. Some (first ++ rest)) none)

  -- after the last birth all processes were added
  pub adds_all : (births : ℕ) (old new : List ProcessNode) → births ≡ born → AddsBirths births old new → AddsChildren old new (Ok tt)
  adds_all births old new last so_far =
      let none_left : born - births ≡ 0 = omega (arith, last) in
      let none : left births ≡ Some [] = ap (λ (n : ℕ). all_of below me (later births n)) none_left in
      (so_far.added, so_far.parts ∙ ap (before so_far.added) none ∙ ap Some (append-nil so_far.added), so_far.grown)

-- a process, and then those of its children, are its processes
module _ (accounts : Accounts) (s : State) (me : ProcName) (home : Home) (node : ProcessNode)
    (read : node_in accounts s me home ≡ Some node) (old mid new : List ProcessNode) (pushed : mid ≡ old ++ node ∷ [])
  where
    -- the definition of the processes begins with these
    begins : processes_at (levels_at me) accounts s me home
        ≡ (all_of (processes_at (most_numbers - length me) accounts s) me (children_of s home.segment node.born) >>= λ
        rest. Some (node ∷ rest))
    begins =
        ap (λ (x : Option ProcessNode). x >>= λ first. all_of (processes_at (most_numbers - length me) accounts s) me
        (children_of s home.segment first.born) >>= λ rest. Some (first ∷ rest)) read

    pub after_node : (result : Result (Unit {0}) ProcessError)
        → AddsChildren accounts s me home.segment node.born mid new result
        → AddsProcesses accounts s me home old new result
    after_node (Ok done) added = (
      node ∷ added.0,
      begins
          ∙ ap (λ (x : Option (List ProcessNode)). x >>= λ rest. Some (node ∷ rest)) added.1,
      added.2
          ∙ ap (λ (l : List ProcessNode). l ++ added.0) pushed ∙ append_assoc old (node ∷ []) added.0,
    )
    after_node (Err NoProcess) none = begins ∙ ap (λ (x : Option (List ProcessNode)). x >>= λ rest. Some (node ∷ rest)) none
    after_node (Err OutOfMemory) none = tt

module _ (accounts : Accounts) (s : State) (me : ProcName) (segment born births : ℕ) (old mid new : List ProcessNode)
    (fits : births < born) (so_far : AddsBirths accounts s me segment born births old mid) (child : Child)
    (listed : child_of s segment (births + 1) ≡ Some child) where
  -- at the last level a child has no processes
  pub no_level_more : length me ≡ most_numbers → AddsChildren accounts s me segment born old mid (Err NoProcess)
  no_level_more last =
      let no_level : most_numbers - length me ≡ 0 = omega (arith, last) in
      adds_no_more accounts s me segment born births old mid mid fits so_far child listed
      (ap (λ (n : ℕ). processes_at n accounts s (child.number ∷ me) (home_of child)) no_level)

  module _ (fewer : length me ≤ most_numbers) (inner : length me ≢ most_numbers) (name : ProcName) (home : Home)
      (named : name ≡ child.number ∷ me) (found : home ≡ home_of child) where
    -- a child of a process that may have children is a level below it
    at_child : processes_at (levels_at name) accounts s name home
        ≡ processes_at (most_numbers - length me) accounts s (child.number ∷ me) (home_of child)
    at_child =
        let level : levels_at (child.number ∷ me) ≡ most_numbers - length me = omega (arith, fewer, inner) in
        (λ i. processes_at (levels_at (named i)) accounts s (named i) (found i))
        ∙ ap (λ (n : ℕ). processes_at n accounts s (child.number ∷ me) (home_of child)) level

    -- the processes of the next child are added
    pub child_more : AddsProcesses accounts s name home mid new (Ok tt) → AddsBirths accounts s me segment born (births + 1) old new
    child_more one = adds_more accounts s me segment born births old mid new fits so_far child listed one.0 (sym at_child ∙ one.1) one.2

    failed : (error : ProcessError) → AddsProcesses accounts s name home mid new (Err error)
        → AddsChildren accounts s me segment born old new (Err error)
    failed NoProcess none = adds_no_more accounts s me segment born births old mid new fits so_far child listed (sym at_child ∙ none)
    failed OutOfMemory none = tt

    -- and where it has none, the addition fails with this error
    pub fails_below : (error : ProcessError) (result : Result (Unit {0}) ProcessError)
        → IsErrAnd result (λ e. e ≡ error) → AddsProcesses accounts s name home mid new (Err error)
        → AddsChildren accounts s me segment born old new result
    fails_below error result gave none =
        let given = err_from_is_err_and result gave in
        subst (AddsChildren accounts s me segment born old new) (sym (given.1 ∙ ap Err given.2)) (failed error none)

module _ (accounts : Accounts) (s : State) (roots : Roots) (name : ProcName) (zero : name ≡ [])
    (old new : List ProcessNode) (result : Result (Unit {0}) ProcessError)
    (added : AddsProcesses accounts s name roots.home old new result) where
  at_zero : (r : Result (Unit {0}) ProcessError) → result ≡ r → AddsProcesses accounts s [] roots.home old new r
  at_zero r is =
      subst (AddsProcesses accounts s [] roots.home old new) is
      (subst (λ (me : ProcName). AddsProcesses accounts s me roots.home old new result) zero added)

  -- the processes from process 0 on are those of the state
  pub processes_added : (done : Unit {0}) → result ≡ Ok done → old ≡ [] → AreProcessesOf accounts s roots new
  unfolding AreProcessesOf
  processes_added done is none =
      let at = at_zero (Ok done) is in
      at.1 ∙ ap Some (sym (at.2 ∙ ap (λ (l : List ProcessNode). l ++ at.0) none))

  -- where there are none from process 0 on, the state has none
  pub no_processes_added : (error : ProcessError) → result ≡ Err error → error ≡ NoProcess → HasNoProcesses accounts s roots
  unfolding AreProcessesOf
  no_processes_added error is said processes are = none-some processes (sym (at_zero (Err NoProcess) (is ∙ ap Err said)) ∙ are)
