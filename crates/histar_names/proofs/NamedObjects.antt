-- In a state that represents a flat state the location given for an object is its location.
use Rattle.std.proofs.Common.{◌≡◌, ◌≢◌, ℕ, ◌+◌, ◌*◌, ◌-◌, ◌/◌, ◌%◌, ◌<◌, ◌≤◌, ◌==◌}
use Rattle.std.proofs.Common.{Bool, true, false, ◌&&◌, ◌||◌, cond, [], ◌∷◌, length, Option}
use Rattle.std.proofs.Common.{None, Some, refl, sym, ap, ◌∙◌, subst, inl, inr, if◌then◌else◌, arith}
use Rattle.std.specs.Prelude.{not, nat_le, nat_lt, is_some, option_map, option_and_then}
use Rattle.std.proofs.lemmas.Bool.{true≢false}
use Rattle.std.proofs.lemmas.Bool.Decides.{nat_tests}
use Rattle.std.proofs.lemmas.List.{length-map}
use Rattle.std.proofs.lemmas.Option.{none-some, same_Some}
use Rattle.histar_flat.specs.Words.{Path, ProcName}
use Rattle.histar_flat.specs.Accounts.{Accounts}
use Rattle.histar_flat.specs.Files.{get}
use Rattle.histar_flat.specs.Classes.{Class, Process}
use Rattle.histar_flat.specs.FlatState.{Flat, Node, Content, is_dir, is_dir_at, is_some_and}
use Rattle.histar_flat.specs.FlatState.Content.{Dir, File}
use Rattle.histar_syscall.specs.KernelModel.{lent_bytes}
use Rattle.histar_object.specs.State.{State}
use Rattle.histar_layout.specs.Found.{found_in}
use Rattle.histar_layout.specs.UserTable.{without_password, without_passwords}
use Rattle.histar_layout.specs.declared.entry.Target.{Target}
use Rattle.histar_layout.specs.declared.entry.Target.TheVariants as targets
use Rattle.histar_layout.proofs.LookingUp.{found_in_directory}
use Rattle.histar_programs.specs.declared.roots.Home.{Home as Where}
use Rattle.histar_programs.specs.declared.roots.Roots.{Roots}
use Rattle.histar_programs.specs.Start.{roots_of}
use Rattle.histar_programs.specs.Caller.{home_at}
use Rattle.histar_refinement.specs.Addresses.{address_of, home_address, table_number, first_left}
use Rattle.histar_refinement.specs.Addresses.Step.{Left, Slash, Listing, Inside, Runner}
use Rattle.histar_refinement.specs.Directories.{directory_of, target_for}
use Rattle.histar_refinement.specs.Represents.{ObjectsMatch}
use Rattle.histar_refinement.specs.Laws.{StandsFor}
use Rattle.histar_refinement.specs.Processes.{or_zero, status_by}
use Rattle.histar_refinement.proofs.CallerFound.{is_or_zero, where_is, status_is, home_is}
use Rattle.histar_refinement.proofs.DirectoryLaws.{get_directory}
use Rattle.histar_refinement.proofs.Lent.{shows_directory}
use Rattle.histar_refinement.proofs.Agreeing.{root_is_dir}
use Rattle.histar_refinement.proofs.StatusFound.{numbered_home, numbered_status, numbered_runner}
use Rattle.histar_readout.proofs.TreeMatched.{led_to_directory, led_to_file}
use Rattle.histar_names.specs.declared.location.Location.{Location}
use Rattle.histar_names.specs.declared.location.Location.TheVariants.{Password, Gate, Users}
use Rattle.histar_names.specs.Location.{users_own, left_location, listing_in, target_at, is_target, path_up, is_inside, is_part, process_up}
use Rattle.histar_names.specs.Location.{at_path, of_process}
use Rattle.histar_names.specs.Laws.{IsLeft, IsPartOf, StandsAs, LocationsAreRight}
use Rattle.histar_names.proofs.Parts.{either_there, step_there, tested, both, one_of}
use Rattle.histar_refinement.proofs.Agreement.{agreement}

module _ (accounts : Accounts) (s : State) (f : Flat) (l : ObjectsMatch accounts s f) where
  abbrev roots : Roots
  roots = roots_of (length accounts.users)

  abbrev n : ℕ
  n = length accounts.users

  abbrev Agrees : ℕ → Location → Type 0
  Agrees q location = StandsAs accounts s f l q location

  -- ---- what boot left

  left_at : (q : ℕ) → 3 ≤ q → q ≤ table_number n → IsLeft accounts s f l q
  left_at q low high =
      let test : (nat_le first_left q && nat_le q (table_number n)) ≡ true = grind (arith, nat_tests, low, high) in
      l.as_booted (Left q ∷ []) q (ap (λ b. cond b (Some q) None) test)

  users_are : (q : ℕ) (location : Location) → 3 ≤ q → q < 3 + 2 * n → users_own q ≡ location → Agrees q location
  users_are q location low high e = subst (Agrees q) e (by ((q % 2) == 1) refl)
    where
      grind_one : (q % 2) ≡ 1 → ((q % 2) == 1) ≡ true
      grind_one is = grind (arith, nat_tests, is)

      by : (b : Bool) → ((q % 2) == 1) ≡ b → Agrees q (if b then Password ((q - 1) / 2) else Gate ((q - 1) / 2))
      by true odd =
          let rest : q % 2 ≡ 1 = grind (arith, nat_tests, odd) in
          (left_at q low (omega (arith, high)), omega (arith, low, rest), omega (arith, low), omega (arith, low, high, rest))
      by false even =
          let other : (q % 2) ≢ 1 = (λ is. true≢false (sym (grind_one is) ∙ even)) in
          let rest : q % 2 ≡ 0 = omega (arith, other) in
          (left_at q low (omega (arith, high)), omega (arith, low, rest), omega (arith, low, rest), omega (arith, low, high, rest))

  left_is : (q : ℕ) (location : Location) → left_location n q ≡ Some location → Agrees q location
  left_is q location e = elim (tested (q == 1) _ _ location e) [
    | inl root ↦ subst (Agrees q) (same_Some _ _ root.1) (l.as_booted [] q (ap Some (sym (equal root.0))))
    | inr more ↦ elim (tested (nat_le 3 q && nat_lt q (3 + 2 * n)) _ _ location more.1) [
      | inl user ↦
          let bounds = both (nat_le 3 q) (nat_lt q (3 + 2 * n)) user.0 in
          users_are q location (grind (arith, nat_tests, bounds.0)) (grind (arith, nat_tests, bounds.1)) (same_Some _ _ user.1)
      | inr rest ↦ elim (tested (q == 3 + 2 * n) _ _ location rest.1) [
        | inl table ↦ subst (Agrees q) (same_Some _ _ table.1) (at_table (grind (arith, nat_tests, table.0)))
        | inr none ↦ absurd (none-some location none.1)
      ]
    ]
  ]
    where
      equal : (q == 1) ≡ true → q ≡ 1
      equal is = grind (arith, nat_tests, is)

      at_table : q ≡ 3 + 2 * n → Agrees q Users
      at_table is = (left_at q (omega (arith, is)) (omega (arith, is)), is)

  -- ---- the objects at a path

  -- where an entry leads, both of its numbers are those of the path
  abbrev pub IsAt : Path → Target → Type 0
  IsAt d (targets.File o) = l.naming.number (address_of d) ≡ Some o
  IsAt d (targets.Directory c g) =
      (l.naming.number (address_of d) ≡ Some c) × (l.naming.number (Listing ∷ address_of d) ≡ Some g)
      × (is_dir_at f d ≡ true)

  entry_is : (q : Path) (class : Class) (content : Content) (target : Target)
      → get f.files q ≡ Some (record { class = class; content = content })
      → target_for l.naming.number (q, record { class = class; content = content }) ≡ Some target → IsAt q target
  entry_is q class Dir target at leads =
      let led = led_to_directory (l.naming.number (address_of q)) (l.naming.number (Listing ∷ address_of q)) target leads in
      subst (IsAt q) led.2 (led.3, led.4, ap (λ (o : Option Node). is_some_and o is_dir) at)
  entry_is q class (File bytes) target at leads =
      let led = led_to_file (l.naming.number (address_of q)) target leads in
      subst (IsAt q) led.1 led.2

  pub target_is : (d : Path) (target : Target) → target_at s roots d ≡ Some target → IsAt d target
  target_is [] target e =
      subst (IsAt []) (same_Some _ target e) (
        l.as_booted (Slash ∷ []) _ refl,
        l.as_booted (Listing ∷ Slash ∷ []) _ refl,
        ap
            (λ (o : Option Node). is_some_and o is_dir) (root_is_dir accounts s f l).1,
      )
  target_is (name ∷ d) target e = by (target_is d) above.0 above.1 later.0 later.1 later.2
    where
      above : (t : Target) × (target_at s roots d ≡ Some t)
          × (option_and_then (λ (listing : ℕ). found_in (lent_bytes s listing) name) (listing_in t)
          ≡ Some target)
      above =
          step_there (λ (t : Target).
          option_and_then (λ (listing : ℕ). found_in (lent_bytes s listing) name) (listing_in t))
          (target_at s roots d) target e

      later : (g : ℕ) × (listing_in above.0 ≡ Some g) × (found_in (lent_bytes s g) name ≡ Some target)
      later = step_there (λ (listing : ℕ). found_in (lent_bytes s listing) name) (listing_in above.0) target above.2

      found : (g : ℕ) → is_dir_at f d ≡ true → l.naming.number (Listing ∷ address_of d) ≡ Some g
          → found_in (lent_bytes s g) name ≡ Some target → IsAt (name ∷ d) target
      found g dir at looked =
          let listed =
          sym (found_in_directory (lent_bytes s g) (directory_of f.files l.naming.number d) name
          (shows_directory accounts s f l d g dir at)) ∙ looked in
          let entry =
          step_there (λ (there : Node). target_for l.naming.number (name ∷ d, there)) (get f.files (name ∷ d))
          target (sym (get_directory f.files l.naming.number d name) ∙ listed) in
          entry_is (name ∷ d) entry.0.class entry.0.content target entry.1 entry.2

      by : ((t : Target) → target_at s roots d ≡ Some t → IsAt d t) → (t : Target) → target_at s roots d ≡ Some t
          → (g : ℕ) → listing_in t ≡ Some g → found_in (lent_bytes s g) name ≡ Some target
          → IsAt (name ∷ d) target
      by led (targets.File o) at g lists looked = absurd (none-some g lists)
      by led (targets.Directory c h) at g lists looked =
          let parent = led (targets.Directory c h) at in
          found g parent.2 (parent.1 ∙ ap Some (same_Some h g lists)) looked

  equal : (a b : ℕ) → (a == b) ≡ true → a ≡ b
  equal a b is = grind (arith, nat_tests, is)

  -- one of the objects of a target is the object of its path
  target_agrees : (q : ℕ) (d : Path) (t : Option Target) → target_at s roots d ≡ t → is_target q t ≡ true → StandsFor accounts s f l d q
  target_agrees q d None at e = absurd (true≢false (sym e))
  target_agrees q d (Some (targets.File o)) at e = inl (target_is d (targets.File o) at ∙ ap Some (sym (equal q o e)))
  target_agrees q d (Some (targets.Directory c g)) at e =
      let led = target_is d (targets.Directory c g) at in
      elim (one_of (q == c) (q == g) e) [
        | inl container ↦ inl (led.0 ∙ ap Some (sym (equal q c container)))
        | inr listing ↦ inr (led.1 ∙ ap Some (sym (equal q g listing)))
      ]

  path_is : (q : ℕ) (d path : Path) → path_up s roots q d ≡ Some path → StandsFor accounts s f l path q
  path_is q [] path e = elim (tested (is_target q (target_at s roots [])) _ _ path e) [
    | inl here ↦ subst (λ (p : Path). StandsFor accounts s f l p q) (same_Some _ _ here.1) (target_agrees q [] (target_at s roots []) refl here.0)
    | inr none ↦ absurd (none-some path none.1)
  ]
  path_is q (name ∷ d) path e = elim (tested (is_target q (target_at s roots (name ∷ d))) _ _ path e) [
    | inl here ↦
        subst (λ (p : Path). StandsFor accounts s f l p q) (same_Some _ _ here.1)
        (target_agrees q (name ∷ d) (target_at s roots (name ∷ d)) refl here.0)
    | inr above ↦ path_is q d path above.1
  ]

  -- ---- the parts of a process

  abbrev first : Where
  first = roots.home

  abbrev there_is : ProcName → Where
  there_is me = where_is accounts s f l me

  inside_is : (me : ProcName) (p : Process) (q : ℕ) → f.processes me ≡ Some p
      → is_inside q (Some (status_by f.processes l.naming.number me p)) ≡ true → IsPartOf accounts s f l me q
  inside_is me p q here e = by p.exited refl
    where
      halves : (not (is_some p.exited) ≡ true)
          × ((q == or_zero (l.naming.number (Inside ∷ home_address me))
          || q == or_zero (l.naming.number (Runner ∷ Inside ∷ home_address me))) ≡ true)
      halves = both (not (is_some p.exited)) _ e

      by : (x : Option ℕ) → p.exited ≡ x → IsPartOf accounts s f l me q
      by (Some n) exited = absurd (true≢false (sym halves.0 ∙ ap (λ (x : Option ℕ). not (is_some x)) exited))
      by None runs =
          let runner = numbered_runner accounts s f l me p here runs in
          let inner = (agreement l).tree.held Runner (Inside ∷ home_address me) runner in
          elim (one_of _ _ halves.1) [
            | inl inside ↦ inr (inl (is_or_zero _ inner ∙ ap Some (sym (equal q _ inside))))
            | inr thread ↦ inr (inr (is_or_zero _ runner ∙ ap Some (sym (equal q _ thread))))
          ]

  part_is : (q : ℕ) (me : ProcName) → is_part s q (home_at s first me) ≡ true → IsPartOf accounts s f l me q
  part_is q me e = by (f.processes me) refl
    where
      revealed : is_part s q (option_map (λ (p : Process). there_is me) (f.processes me)) ≡ true
      revealed = ap (is_part s q) (sym (home_is accounts s f l me)) ∙ e

      by : (o : Option Process) → f.processes me ≡ o → IsPartOf accounts s f l me q
      by None i = absurd (true≢false (sym revealed ∙ ap (λ (o : Option Process). is_part s q (option_map (λ (p : Process). there_is me) o)) i))
      by (Some p) is =
          let here = ap (λ (o : Option Process). is_part s q (option_map (λ (r : Process). there_is me) o)) (sym is) ∙ revealed in
          elim (one_of (q == (there_is me).container || q == (there_is me).segment) _ here) [
            | inl outer ↦ elim (one_of (q == (there_is me).container) (q == (there_is me).segment) outer) [
              | inl container ↦ inl (inl (is_or_zero _ (numbered_home accounts s f l me ∙ ap is_some is) ∙ ap Some (sym (equal q _ container))))
              | inr segment ↦ inl (inr (is_or_zero _ (numbered_status accounts s f l me ∙ ap is_some is) ∙ ap Some (sym (equal q _ segment))))
            ]
            | inr inner ↦ inside_is me p q is (sym (ap (is_inside q) (status_is accounts s f l me p is)) ∙ inner)
          ]

  process_is : (q : ℕ) (me found : ProcName) → process_up s first q me ≡ Some found → IsPartOf accounts s f l found q
  process_is q [] found e = elim (tested (is_part s q (home_at s first [])) _ _ found e) [
    | inl here ↦ subst (λ (p : ProcName). IsPartOf accounts s f l p q) (same_Some _ _ here.1) (part_is q [] here.0)
    | inr none ↦ absurd (none-some found none.1)
  ]
  process_is q (k ∷ above) found e = elim (tested (is_part s q (home_at s first (k ∷ above))) _ _ found e) [
    | inl here ↦ subst (λ (p : ProcName). IsPartOf accounts s f l p q) (same_Some _ _ here.1) (part_is q (k ∷ above) here.0)
    | inr more ↦ process_is q above found more.1
  ]

  -- ---- what an object is

  at_path_is : (q : ℕ) (o : Option Path) (location : Location)
      → ((path : Path) → o ≡ Some path → StandsFor accounts s f l path q) → at_path o ≡ Some location
      → Agrees q location
  at_path_is q None location is e = absurd (none-some location e)
  at_path_is q (Some path) location is e = subst (Agrees q) (same_Some _ location e) (is path refl)

  of_process_is : (q : ℕ) (o : Option ProcName) (location : Location)
      → ((me : ProcName) → o ≡ Some me → IsPartOf accounts s f l me q) → of_process o ≡ Some location
      → Agrees q location
  of_process_is q None location is e = absurd (none-some location e)
  of_process_is q (Some me) location is e = subst (Agrees q) (same_Some _ location e) (is me refl)

pub locations_are_right : LocationsAreRight
locations_are_right accounts s f l clue q location e =
    elim (either_there (left_location (length (without_passwords accounts).users) q) _ location e) [
      | inl left ↦ left_is accounts s f l q location (ap (λ n. left_location n q) (sym (length-map accounts.users without_password)) ∙ left)
      | inr more ↦ elim (either_there (at_path (path_up s (roots_of (length accounts.users)) q clue.path)) _ location more) [
        | inl at ↦ at_path_is accounts s f l q _ location (path_is accounts s f l q clue.path) at
        | inr rest ↦ elim (either_there (of_process (process_up s (roots_of (length accounts.users)).home q clue.caller)) _ location rest) [
          | inl own ↦ of_process_is accounts s f l q _ location (process_is accounts s f l q clue.caller) own
          | inr named ↦ of_process_is accounts s f l q _ location (process_is accounts s f l q clue.named) named
        ]
      ]
    ]
