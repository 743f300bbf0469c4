-- In a state that represents a flat state each object of what a line names has a location.
use Rattle.std.proofs.Common.{◌≡◌, ◌⊎◌, inl, inr, ℕ, ◌+◌, ◌*◌, ◌==◌, Bool, true, false, ◌&&◌, ◌||◌}
use Rattle.std.proofs.Common.{List, [], ◌∷◌, length, Option, None, Some, refl, sym, ap, ◌∙◌}
use Rattle.std.proofs.Common.{subst, arith, if◌then◌else◌}
use Rattle.std.proofs.lemmas.Bool.Decides.{nat_tests}
use Rattle.std.specs.Prelude.{not, is_some, MatchOption, option_map, option_and_then}
use Rattle.std.proofs.lemmas.Bool.{true≢false}
use Rattle.std.proofs.lemmas.Option.{none-some, same_Some}
use Rattle.std.proofs.Math.Bool.{or-true}
use Rattle.histar_flat.specs.Words.{Path, ProcName}
use Rattle.histar_flat.specs.Accounts.{Accounts}
use Rattle.histar_flat.specs.Files.{get}
use Rattle.histar_flat.specs.Classes.{Process}
use Rattle.histar_flat.specs.FlatState.{Flat, Node, is_dir, is_dir_at, is_some_and}
use Rattle.histar_syscall.specs.KernelModel.{lent_bytes}
use Rattle.histar_object.specs.Objects.{is_present}
use Rattle.histar_object.specs.State.{State}
use Rattle.histar_layout.specs.Found.{found_in}
use Rattle.histar_layout.specs.Listing.{is_directory}
use Rattle.histar_layout.specs.UserTable.{without_passwords}
use Rattle.histar_layout.specs.declared.entry.Target.{Target}
use Rattle.histar_layout.specs.declared.entry.Target.TheVariants as targets
use Rattle.histar_layout.proofs.LookingUp.{found_in_directory}
use Rattle.histar_programs.specs.declared.roots.Home.{Home as Where}
use Rattle.histar_programs.specs.declared.roots.Roots.{Roots}
use Rattle.histar_programs.specs.Start.{roots_of}
use Rattle.histar_programs.specs.Caller.{home_at}
use Rattle.histar_refinement.specs.Addresses.{address_of, home_address}
use Rattle.histar_refinement.specs.Addresses.Step.{Listing, Status, Inside, Runner}
use Rattle.histar_refinement.specs.Represents.{ObjectsMatch, Represents}
use Rattle.histar_refinement.specs.Processes.{or_zero, status_by}
use Rattle.histar_refinement.proofs.Agreement.{agreement}
use Rattle.histar_refinement.proofs.CallerFound.{where_is, status_is, home_is}
use Rattle.histar_refinement.proofs.Expected.{inside_object}
use Rattle.histar_refinement.proofs.Roots.{asked_inside}
use Rattle.histar_refinement.proofs.StatusFound.{numbered_home, numbered_status}
use Rattle.histar_readout.specs.Laws.{LeadsToNode}
use Rattle.histar_readout.specs.Resolve.{LeadsTo, LeadsNowhere}
use Rattle.histar_readout.proofs.PathsMatched.{flat_states_are_resolved}
use Rattle.histar_names.specs.declared.clues.Clue.{Clue}
use Rattle.histar_names.specs.declared.location.Location.{Location}
use Rattle.histar_names.specs.declared.location.Location.TheVariants.{Root, At, Part}
use Rattle.histar_names.specs.Location.{left_location, listing_in, target_at, is_of_target, is_target, path_up, is_inside, is_part, process_up}
use Rattle.histar_names.specs.Location.{at_path, of_process, location_of}
use Rattle.histar_names.specs.Laws.{IsAtOrAbove, IsOfLine, IsPartOf, IsThere, LocationsAreComplete}
use Rattle.histar_names.specs.Purposes.{or_else}
use Rattle.histar_names.proofs.NamedObjects.{IsAt, target_is}

-- there is something
abbrev Found : {A : Type 0} → Option A → Type 0
Found {A} o = (a : A) × (o ≡ Some a)

some_found : {A : Type 0} (o : Option A) → is_some o ≡ true → Found o
some_found None e = absurd (true≢false (sym e))
some_found (Some a) e = (a, refl)

first_found : {A : Type 0} (x y : Option A) → Found x → Found (or_else x y)
first_found x y found = (found.0, ap (λ o. or_else o y) found.1)

later_found : {A : Type 0} (x y : Option A) → Found y → Found (or_else x y)
later_found None y found = found
later_found (Some a) y found = (a, refl)

-- a number is itself
equal_itself : (q c : ℕ) → Some c ≡ Some q → (q == c) ≡ true
equal_itself q c e = let same = same_Some c q e in grind (arith, nat_tests, same)

-- a test of one of two
first_or : (a b : Bool) → a ≡ true → (a || b) ≡ true
first_or a b e = ap (λ x. x || b) e

later_or : (a b : Bool) → b ≡ true → (a || b) ≡ true
later_or a b e = ap (λ x. a || x) e ∙ or-true a

module _ (accounts : Accounts) (s : State) (f : Flat) (represents : Represents accounts s f) where
  abbrev l : ObjectsMatch accounts s f
  l = represents.matched

  abbrev roots : Roots
  roots = roots_of (length accounts.users)

  abbrev first : Where
  first = roots.home

  -- ---- the objects at a path

  -- where a path leads is found
  led_found : (d : Path) (target : Target) → LeadsTo s roots d target → target_at s roots d ≡ Some target
  led_found [] target led = ap Some (sym led)
  led_found (name ∷ d) target led =
      ap (option_and_then (λ (t : Target). option_and_then (λ (listing : ℕ). found_in (lent_bytes s listing) name) (listing_in t)))
      (led_found d (targets.Directory led.0 led.1) led.3)
      ∙ found_in_directory (lent_bytes s led.1) led.2 name led.4 ∙ led.5

  node_led : (path : Path) (node : Node) → get f.files path ≡ Some node → LeadsToNode s roots path node
  node_led path node at = by (get f.files path) at (flat_states_are_resolved accounts s f represents path)
    where
      by : (o : Option Node) → o ≡ Some node → MatchOption o (LeadsNowhere s roots path) (LeadsToNode s roots path)
          → LeadsToNode s roots path node
      by None e there = absurd (none-some node e)
      by (Some other) e there = subst (LeadsToNode s roots path) (same_Some other node e) there

  -- the object that is at the path is one of its target
  of_target : (path : Path) (q : ℕ) (target : Target) → IsAt accounts s f l path target → l.naming.number (address_of path) ≡ Some q
      → is_of_target q target ≡ true
  of_target path q (targets.File o) at e = equal_itself q o (sym at ∙ e)
  of_target path q (targets.Directory c g) at e = first_or (q == c) (q == g) (equal_itself q c (sym at.0 ∙ e))

  of_directory : (path : Path) (q : ℕ) (target : Target) → IsAt accounts s f l path target → is_directory target ≡ true
      → l.naming.number (Listing ∷ address_of path) ≡ Some q → is_of_target q target ≡ true
  of_directory path q (targets.File o) at dir e = absurd (true≢false (sym dir))
  of_directory path q (targets.Directory c g) at dir e = later_or (q == c) (q == g) (equal_itself q g (sym at.1 ∙ e))

  there_found : (path : Path) (q : ℕ) → IsThere accounts s f l path q → is_target q (target_at s roots path) ≡ true
  there_found path q (inl (there, e)) =
      let node = some_found (get f.files path) there in
      let led = node_led path node.0 node.1 in
      let found = led_found path led.target led.leads in
      ap (is_target q) found ∙ of_target path q led.target (target_is accounts s f l path led.target found) e
  there_found path q (inr (dir, e)) = by (get f.files path) refl
    where
      by : (o : Option Node) → get f.files path ≡ o → is_target q (target_at s roots path) ≡ true
      by None at = absurd (true≢false (sym dir ∙ ap (λ (o : Option Node). is_some_and o is_dir) at))
      by (Some node) at =
          let led = node_led path node at in
          let found = led_found path led.target led.leads in
          let is_dir_there : is_dir node ≡ true = sym (ap (λ (o : Option Node). is_some_and o is_dir) at) ∙ dir in
          ap (is_target q) found
          ∙ of_directory path q led.target (target_is accounts s f l path led.target found) (led.kind ∙ is_dir_there) e

  -- a path at or above the line's is found
  up_found : (q : ℕ) (path d : Path) → is_target q (target_at s roots path) ≡ true → IsAtOrAbove path d → Found (path_up s roots q d)
  up_found q path [] there above =
      ([], ap (λ b. if b then Some [] else None) (ap (λ (p : Path). is_target q (target_at s roots p)) (sym above) ∙ there))
  up_found q path (name ∷ d) there (inl here) = (
    name ∷ d,
    ap (λ b. if b then Some (name ∷ d) else path_up s roots q d)
        (ap (λ (p : Path). is_target q (target_at s roots p)) (sym here) ∙ there),
  )
  up_found q path (name ∷ d) there (inr above) = by (is_target q (target_at s roots (name ∷ d))) (up_found q path d there above)
    where
      by : (b : Bool) → Found (path_up s roots q d) → Found (if b then Some (name ∷ d) else path_up s roots q d)
      by true found = (name ∷ d, refl)
      by false found = found

  -- ---- the parts of a process

  numbered : (o : Option ℕ) (q : ℕ) → o ≡ Some q → (q == or_zero o) ≡ true
  numbered o q e = equal_itself q (or_zero o) (ap (λ (x : Option ℕ). Some (or_zero x)) e)

  -- a process that has an internal container runs
  runs_inside : (me : ProcName) → is_some (l.naming.number (Inside ∷ home_address me)) ≡ true
      → (p : Process) × (f.processes me ≡ Some p) × (p.exited ≡ None)
  runs_inside me there = by (f.processes me) refl
    where
      present : is_present (inside_object accounts l.category me (f.processes me)) ≡ true
      present =
          sym (ap is_present (asked_inside accounts l.category f l.naming.number me))
          ∙ sym ((agreement l).named (Inside ∷ home_address me)) ∙ there

      by : (o : Option Process) → f.processes me ≡ o → (p : Process) × (f.processes me ≡ Some p) × (p.exited ≡ None)
      by None is = absurd (true≢false (sym present ∙ ap (λ (o : Option Process). is_present (inside_object accounts l.category me o)) is))
      by (Some p) is = of_life p.exited refl
        where
          of_life : (x : Option ℕ) → p.exited ≡ x → (p : Process) × (f.processes me ≡ Some p) × (p.exited ≡ None)
          of_life None runs = (p, is, runs)
          of_life (Some n) exited = absurd (true≢false (sym present
              ∙ ap (λ (o : Option Process). is_present (inside_object accounts l.category me o)) is
              ∙ ap (λ (e : Option ℕ). is_present (inside_object accounts l.category me (Some (record p { exited = e })))) exited))

  -- the home of a process that is there
  home_found : (me : ProcName) (p : Process) → f.processes me ≡ Some p → home_at s first me ≡ Some (where_is accounts s f l me)
  home_found me p here = home_is accounts s f l me ∙ ap (option_map (λ (r : Process). where_is accounts s f l me)) here

  inside_found : (me : ProcName) (p : Process) (q : ℕ) → f.processes me ≡ Some p → p.exited ≡ None
      → (q == or_zero (l.naming.number (Inside ∷ home_address me))
      || q == or_zero (l.naming.number (Runner ∷ Inside ∷ home_address me))) ≡ true
      → is_part s q (home_at s first me) ≡ true
  inside_found me p q here runs e =
      let home = where_is accounts s f l me in
      ap (is_part s q) (home_found me p here)
      ∙ later_or (q == home.container || q == home.segment) _
      (ap (is_inside q) (status_is accounts s f l me p here)
      ∙ ap (λ (x : Option ℕ). not (is_some x) && (q == or_zero (l.naming.number (Inside ∷ home_address me))
      || q == or_zero (l.naming.number (Runner ∷ Inside ∷ home_address me)))) runs
      ∙ e)

  outer_found : (me : ProcName) (q : ℕ) → is_some (f.processes me) ≡ true
      → (q == (where_is accounts s f l me).container || q == (where_is accounts s f l me).segment) ≡ true
      → is_part s q (home_at s first me) ≡ true
  outer_found me q there e =
      let p = some_found (f.processes me) there in
      ap (is_part s q) (home_found me p.0 p.1)
      ∙ first_or (q == (where_is accounts s f l me).container || q == (where_is accounts s f l me).segment) _ e

  part_found : (me : ProcName) (q : ℕ) → IsPartOf accounts s f l me q → is_part s q (home_at s first me) ≡ true
  part_found me q (inl (inl home)) =
      outer_found me q (sym (numbered_home accounts s f l me) ∙ ap is_some home) (first_or _ _ (numbered _ q home))
  part_found me q (inl (inr status)) =
      outer_found me q (sym (numbered_status accounts s f l me) ∙ ap is_some status) (later_or _ _ (numbered _ q status))
  part_found me q (inr (inl inside)) =
      let p = runs_inside me (ap is_some inside) in
      inside_found me p.0 q p.1 p.2 (first_or _ _ (numbered _ q inside))
  part_found me q (inr (inr runner)) =
      let p = runs_inside me ((agreement l).tree.held Runner (Inside ∷ home_address me) (ap is_some runner)) in
      inside_found me p.0 q p.1 p.2 (later_or _ _ (numbered _ q runner))

  -- a process at or above the line's is found
  process_found : (q : ℕ) (me d : ProcName) → is_part s q (home_at s first me) ≡ true → IsAtOrAbove me d → Found (process_up s first q d)
  process_found q me [] there above =
      ([], ap (λ b. if b then Some [] else None) (ap (λ (p : ProcName). is_part s q (home_at s first p)) (sym above) ∙ there))
  process_found q me (n ∷ d) there (inl here) = (
    n ∷ d,
    ap (λ b. if b then Some (n ∷ d) else process_up s first q d)
        (ap (λ (p : ProcName). is_part s q (home_at s first p)) (sym here) ∙ there),
  )
  process_found q me (n ∷ d) there (inr above) = by (is_part s q (home_at s first (n ∷ d))) (process_found q me d there above)
    where
      by : (b : Bool) → Found (process_up s first q d) → Found (if b then Some (n ∷ d) else process_up s first q d)
      by true found = (n ∷ d, refl)
      by false found = found

  path_located : (o : Option Path) → Found o → Found (at_path o)
  path_located o found = (At found.0, ap at_path found.1)

  process_located : (o : Option ProcName) → Found o → Found (of_process o)
  process_located o found = (Part found.0, ap of_process found.1)

-- ---- an object of a line

module _ (accounts : Accounts) (s : State) (f : Flat) (represents : Represents accounts s f) (clue : Clue) (q : ℕ) where
  abbrev roots_there : Roots
  roots_there = roots_of (length accounts.users)

  abbrev at_line : Option Location
  at_line = at_path (path_up s roots_there q clue.path)

  abbrev own : Option Location
  own = of_process (process_up s roots_there.home q clue.caller)

  abbrev named : Option Location
  named = of_process (process_up s roots_there.home q clue.named)

  abbrev left : Option Location
  left = left_location (length (without_passwords accounts).users) q

  located : IsOfLine accounts s f represents.matched clue q → Found (or_else left (or_else at_line (or_else own named)))
  located (inl (inl (path, above, there))) =
      later_found left _ (first_found at_line _ (path_located accounts s f represents _
      (up_found accounts s f represents q path clue.path (there_found accounts s f represents path q there) above)))
  located (inl (inr (me, inl above, part))) =
      later_found left _ (later_found at_line _ (first_found own _ (process_located accounts s f represents _
      (process_found accounts s f represents q me clue.caller (part_found accounts s f represents me q part) above))))
  located (inl (inr (me, inr above, part))) =
      later_found left _ (later_found at_line _ (later_found own _ (process_located accounts s f represents _
      (process_found accounts s f represents q me clue.named (part_found accounts s f represents me q part) above))))
  located (inr root) =
      let first : 1 ≡ q = same_Some 1 q (sym (represents.matched.as_booted [] 1 refl) ∙ root) in
      first_found left _ (Root, ap (left_location (length (without_passwords accounts).users)) (sym first))

pub locations_are_complete : LocationsAreComplete
locations_are_complete accounts s f represents clue q of_line = located accounts s f represents clue q of_line
