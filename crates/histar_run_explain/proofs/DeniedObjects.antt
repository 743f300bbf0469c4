-- The objects of a denied raw call of a script have a location in the state after its line.
use Rattle.std.proofs.Common.{◌≡◌, ℕ, ◌+◌, ◌*◌, ◌<◌, ◌≤◌, inl, inr, Bool, true, false, ◌==◌, ◌&&◌}
use Rattle.std.proofs.Common.{[], ◌∷◌, length, Option, None, Some, refl, sym, ap, ◌∙◌, subst, if◌then◌else◌, arith}
use Rattle.std.specs.Prelude.{is_some, nat_le, nat_lt, option_map}
use Rattle.std.specs.FinMap as map
use Rattle.std.specs.Str.{bytes_eq}
use Rattle.std.proofs.lemmas.Bool.Decides.{nat_tests}
use Rattle.std.proofs.lemmas.List.{length-map}
use Rattle.std.proofs.lemmas.Option.{none-some, same_Some}
use Rattle.histar_flat.specs.declared.calls.CallLine.{CallLine}
use Rattle.histar_flat.specs.declared.calls.UnixCall.{UnixCall}
use Rattle.histar_flat.specs.declared.calls.User.{User}
use Rattle.histar_flat.specs.declared.calls.UnixCall.TheVariants.{Login}
use Rattle.histar_flat.specs.Words.{Name, Path, ProcName}
use Rattle.histar_flat.specs.PathOrder.{parent}
use Rattle.histar_flat.specs.Accounts.{Accounts}
use Rattle.histar_flat.specs.Files.{get}
use Rattle.histar_flat.specs.Classes.{Process}
use Rattle.histar_flat.specs.CallRules.{path_of}
use Rattle.histar_flat.specs.FlatState.{Flat, Node, Content}
use Rattle.histar_flat.specs.FlatState.Content.{Dir, File}
use Rattle.histar_reasons.specs.Reasons.{Reason, why}
use Rattle.histar_reasons.specs.Reasons.Reason.{MayNotRead, MayNotWrite, IsTooLong, MakesOnlyOpen, IsNoMember, StartsNoJob}
use Rattle.histar_reasons.specs.Reasons.Reason.{IsUnseen, IsNoChild, IsInJob}
use Rattle.histar_object.specs.Objects.{bytes_in}
use Rattle.histar_object.specs.State.{State}
use Rattle.histar_rules.specs.declared.raw.RawCall.{RawCall}
use Rattle.histar_rules.specs.declared.raw.RawCall.TheVariants as raw
use Rattle.histar_rules.specs.Sound.{root_number}
use Rattle.histar_explain.specs.Named.{container_named, object_named}
use Rattle.histar_layout.specs.Directory.{Entries, IsDirectory}
use Rattle.histar_layout.specs.Listing.{object_of}
use Rattle.histar_layout.specs.UserTable.{without_password, without_passwords}
use Rattle.histar_layout.specs.declared.entry.Target.{Target}
use Rattle.histar_layout.specs.declared.entry.Target.TheVariants as targets
use Rattle.histar_layout.proofs.Declared.{placed}
use Rattle.histar_layout.proofs.DirectoryLemmas.{same_directory}
use Rattle.histar_programs.specs.Users.{place_of, gate_of}
use Rattle.histar_refinement.specs.Addresses.{AddressNumbers, address_of, home_address, home_number, slash_number}
use Rattle.histar_refinement.specs.Addresses.Step.{Slash, Listing, Home, Status}
use Rattle.histar_refinement.specs.Directories.{both_numbers, target_for, directory_of}
use Rattle.histar_refinement.specs.Lines.{IsStatusSegment, IsDirectoryAt, IsObjectAt}
use Rattle.histar_refinement.specs.KeptNames.{RepresentsStill}
use Rattle.histar_refinement.specs.Represents.{ObjectsMatch, Represents}
use Rattle.histar_refinement.proofs.Agreeing.{listed_is_dir, root_is_dir}
use Rattle.histar_refinement.proofs.DirectoryLaws.{get_directory}
use Rattle.histar_refinement.proofs.LinesMatched.{directory_back, holds_directory}
use Rattle.histar_refinement.proofs.ListedFiles.{numbered_path, numbered_listing}
use Rattle.histar_refinement.proofs.StatusFound.{numbered_home, numbered_status, status_back}
use Rattle.histar_sim.specs.Named.{IsWriteTo, IsMaking, IsEntryOf, EntersGate, IsFileAt, ReadsAt, WritesAt, MakesAt, ChangesAt}
use Rattle.histar_sim.specs.Named.{ReadsStatus, UnlinksProcess, IsAbout}
use Rattle.histar_names.specs.Clues.{process_named, clue_of}
use Rattle.histar_names.specs.Laws.{IsAtOrAbove, IsThere, IsPartOf}
use Rattle.histar_names.specs.Location.{left_location, users_own}
use Rattle.histar_names.specs.Purposes.{or_else}
use Rattle.histar_names.proofs.LocatedObjects.{locations_are_complete}
use Rattle.histar_names.proofs.Parts.{step_there}
use Rattle.histar_run_explain.specs.Complete.{IsLocated}
use Rattle.histar_run_explain.proofs.ReasonsOfLines.{IsOf, at_itself, one_above, parent_above, reason_of_line}

-- ---- where an entry leads

-- an entry of a directory leads to its container
both_lead : (x y : Option ℕ) (target : Target) → both_numbers x y ≡ Some target → x ≡ Some (object_of target)
both_lead None y target e = absurd (none-some target e)
both_lead (Some c) None target e = absurd (none-some target e)
both_lead (Some c) (Some g) target e = ap (λ (t : Target). Some (object_of t)) (same_Some (targets.Directory c g) target e)

-- an entry of a file leads to its segment
file_leads : (x : Option ℕ) (target : Target) → option_map targets.File x ≡ Some target → x ≡ Some (object_of target)
file_leads None target e = absurd (none-some target e)
file_leads (Some o) target e = ap (λ (t : Target). Some (object_of t)) (same_Some (targets.File o) target e)

-- an entry leads to the object that has the number of its path
node_leads : (number : AddressNumbers) (q : Path) (there : Node) (target : Target) → target_for number (q, there) ≡ Some target
    → number (address_of q) ≡ Some (object_of target)
node_leads number q there target e = by there.content e
  where
    by : (content : Content) → target_for number (q, record { class = there.class; content = content }) ≡ Some target
        → number (address_of q) ≡ Some (object_of target)
    by Dir k = both_lead (number (address_of q)) (number (Listing ∷ address_of q)) target k
    by (File bytes) k = file_leads (number (address_of q)) target k

-- ---- what boot left

-- where the first of two is there, one of them is
first_there : {A : Type 0} (x y : Option A) → is_some x ≡ true → is_some (or_else x y) ≡ true
first_there None y there = absurd cc
first_there (Some a) y there = refl

-- what is chosen second is there, where the second test passes
second_there : {A : Type 0} (one two : Bool) (x y : A) (rest : Option A) → two ≡ true
    → is_some (if one then Some x else (if two then Some y else rest)) ≡ true
second_there true two x y rest is = refl
second_there false two x y rest is = ap (λ (b : Bool). is_some (if b then Some y else rest)) is

-- the passwords and gates of users have a location
user_left : (n q : ℕ) → 3 ≤ q → q < 3 + 2 * n → is_some (left_location n q) ≡ true
user_left n q low high =
    let test : (nat_le 3 q && nat_lt q (3 + 2 * n)) ≡ true = grind (arith, nat_tests, low, high) in
    second_there (q == 1) (nat_le 3 q && nat_lt q (3 + 2 * n)) _ (users_own q) _ test

-- a user's gate has one
gate_left : (accounts : Accounts) (user : Name) (place : ℕ) → place_of accounts.users user ≡ Some place
    → is_some (left_location (length (without_passwords accounts).users) (gate_of (place + 1))) ≡ true
gate_left accounts user place is =
    let below = (placed (λ (u : User). bytes_eq u.name user) accounts.users place is).3 in
    let low : 3 ≤ 2 + 2 * (place + 1) = omega arith in
    let high : 2 + 2 * (place + 1) < 3 + 2 * length accounts.users = omega (arith, below) in
    ap (λ (n : ℕ). is_some (left_location n (gate_of (place + 1)))) (length-map accounts.users without_password)
    ∙ user_left (length accounts.users) (gate_of (place + 1)) low high

-- ---- the objects of a raw call

-- a raw call names an object in a container
abbrev pub IsOfTwo : RawCall → Type 0
IsOfTwo (raw.Read c o) = Unit {0}
IsOfTwo (raw.Write c o most bytes) = Unit {0}
IsOfTwo (raw.Unlink c o) = Unit {0}
IsOfTwo (raw.LabelOf c o) = Unit {0}
IsOfTwo (raw.Enter c o label clearance verify) = Unit {0}
IsOfTwo call = ⊥

-- in the state after a line the container that a raw call names has a location, and the object too, where it names one
pub record HasLocatedObjects (accounts : Accounts) (mid : State) (asked : CallLine) (call : RawCall) : Type 0 where
  pub container : IsLocated accounts mid asked (container_named call)
  pub object : IsOfTwo call → IsLocated accounts mid asked (object_named call)

-- A raw call makes a segment or a container in a directory, or it makes nothing: it reads, writes, unlinks, or enters.
abbrev pub IsPlaced : {accounts : Accounts} {s : State} {f : Flat} → ObjectsMatch accounts s f → RawCall → Type 0
IsPlaced l (raw.MakeSegment c label bytes) = (d : Path) × (l.naming.number (address_of d) ≡ Some c)
IsPlaced l (raw.MakeContainer c label) = (d : Path) × (l.naming.number (address_of d) ≡ Some c)
IsPlaced l (raw.Read c o) = Unit {0}
IsPlaced l (raw.Write c o most bytes) = Unit {0}
IsPlaced l (raw.Unlink c o) = Unit {0}
IsPlaced l (raw.Enter c o label clearance verify) = Unit {0}
IsPlaced l call = ⊥

-- ---- what is kept where a call was refused

module _ {accounts : Accounts} {s mid : State} {f : Flat} {old : Represents accounts s f} (still : RepresentsStill old mid f) where
  abbrev was : ObjectsMatch accounts s f
  was = old.matched

  abbrev new : ObjectsMatch accounts mid f
  new = still.represents.matched

  -- the container and the segment of a directory are there under the same numbers
  directory_there : (d : Path) (c g : ℕ) → IsDirectoryAt accounts s d c g → IsThere accounts mid f new d c × IsThere accounts mid f new d g
  directory_there d c g at =
      let back = directory_back accounts s f was d c g at in
      let is = listed_is_dir accounts s f was d (ap is_some back.2) in
      let here = numbered_path accounts mid f new d _ is.1 in
      let listing = numbered_listing accounts mid f new d is.0 is.1 in (
        inl (ap is_some is.1, still.names.addresses (address_of d) c back.1 here),
        inr (back.0, still.names.addresses (Listing ∷ address_of d) g back.2 listing),
      )

  -- and so is the object of an entry
  entry_there : (name : Name) (d : Path) (c g : ℕ) (dir : Entries) (target : Target) → IsDirectoryAt accounts s d c g
      → IsDirectory (bytes_in (s.objects g)) dir → map.get dir name ≡ Some target
      → IsThere accounts mid f new (name ∷ d) (object_of target)
  entry_there name d c g dir target at holds listed =
      let back = directory_back accounts s f was d c g at in
      let same =
      same_directory (bytes_in (s.objects g)) dir (directory_of f.files was.naming.number d) holds
      (holds_directory accounts s f was d g back.0 back.2) in
      let node =
      step_there (λ (there : Node). target_for was.naming.number (name ∷ d, there)) (get f.files (name ∷ d)) target
      (sym (get_directory f.files was.naming.number d name) ∙ ap (λ (x : Entries). map.get x name) (sym same) ∙ listed) in
      let number = node_leads was.naming.number (name ∷ d) node.0 target node.2 in
      let here = numbered_path accounts mid f new (name ∷ d) node.0 node.1 in
      inl (ap is_some node.1, still.names.addresses (address_of (name ∷ d)) (object_of target) number here)

  -- the container of `/` is there
  slash_there : IsThere accounts mid f new [] (slash_number (length accounts.users))
  slash_there = inl (ap is_some (root_is_dir accounts mid f new).1, new.as_booted (Slash ∷ []) _ refl)

  -- the container and the segment of a process are there under the same numbers
  process_there : (me : ProcName) (c g : ℕ) → IsStatusSegment accounts s me c g
      → IsPartOf accounts mid f new me c × IsPartOf accounts mid f new me g
  process_there me c g at =
      let back = status_back accounts s f was me c g at in
      let home = numbered_home accounts mid f new me ∙ ap is_some back.1 in
      let status = numbered_status accounts mid f new me ∙ ap is_some back.1 in (
        inl (inl (still.names.addresses (home_address me) c back.2 home)),
        inl (inr (still.names.addresses (Status ∷ home_address me) g back.3 status)),
      )

  -- the container of process 0 is there
  home_there : IsPartOf accounts mid f new [] (home_number (length accounts.users))
  home_there = inl (inl (new.as_booted (Home ∷ []) _ refl))

  module _ (asked : CallLine) where
    abbrev path : Path
    path = path_of asked.call

    abbrev named : ProcName
    named = process_named asked.process asked.call

    abbrev Located : ℕ → Type 0
    Located = IsLocated accounts mid asked

    abbrev Both : ℕ → ℕ → Type 0
    Both c o = Located c × Located o

    abbrev Has : RawCall → Type 0
    Has = HasLocatedObjects accounts mid asked

    -- ---- objects that have a location

    -- what is there at the path of the line, or at one above it
    at_path : (d : Path) (q : ℕ) → IsAtOrAbove d path → IsThere accounts mid f new d q → Located q
    at_path d q above there =
        ap is_some
        (locations_are_complete accounts mid f still.represents (clue_of asked.process asked.call) q (inl (inl (d, above, there)))).1

    -- a part of the process that the line names, or of one above it
    of_process : (me : ProcName) (q : ℕ) → IsAtOrAbove me named → IsPartOf accounts mid f new me q → Located q
    of_process me q above part =
        ap is_some
        (locations_are_complete accounts mid f still.represents (clue_of asked.process asked.call) q (inl (inr (me, inr above, part)))).1

    -- the root container
    of_root : Located root_number
    of_root = refl

    -- a user's gate
    of_gate : (user : Name) (place : ℕ) → place_of accounts.users user ≡ Some place → Located (gate_of (place + 1))
    of_gate user place is =
        first_there (left_location (length (without_passwords accounts).users) (gate_of (place + 1))) _ (gate_left accounts user place is)

    -- the container and the segment of a directory at the path or above it
    of_directory : (d : Path) (c g : ℕ) → IsAtOrAbove d path → IsDirectoryAt accounts s d c g → Both c g
    of_directory d c g above at =
        let there = directory_there d c g at in
        (at_path d c above there.0, at_path d g above there.1)

    -- the container and the segment of a file there
    of_file : (q : Path) (c o : ℕ) → IsAtOrAbove q path → IsFileAt accounts s q c o → Both c o
    of_file [] c o above at = absurd at
    of_file (name ∷ d) c o above at = (
      (of_directory d c at.0 (one_above name d path above) at.2).0,
      at_path (name ∷ d) o above (entry_there name d c at.0 at.1 (targets.File o) at.2 at.3 at.4),
    )

    -- the container and the object of what is there
    of_object : (q : Path) (c o : ℕ) → IsAtOrAbove q path → IsObjectAt accounts s q c o → Both c o
    of_object [] c o above at = (subst Located (sym at.0) of_root, subst Located (sym at.1) (at_path [] _ above slash_there))
    of_object (name ∷ d) c o above at = (
      (of_directory d c at.0 (one_above name d path above) at.3).0,
      subst Located (sym at.6) (at_path (name ∷ d) _ above (entry_there name d c at.0 at.1 at.2 at.3 at.4 at.5)),
    )

    -- the container and the segment of a process at the one that is named or above it
    of_status : (me : ProcName) (c g : ℕ) → IsAtOrAbove me named → IsStatusSegment accounts s me c g → Both c g
    of_status me c g above at =
        let there = process_there me c g at in
        (of_process me c above there.0, of_process me g above there.1)

    -- ---- raw calls whose objects have a location

    -- a call on an object in a container
    on_two : (call : RawCall) (c o : ℕ) → container_named call ≡ c → object_named call ≡ o → Both c o → Has call
    on_two call c o first second at =
        record { container = subst Located (sym first) at.0; object = λ named. subst Located (sym second) at.1 }

    -- a write of a segment
    writes : (call : RawCall) (c o : ℕ) → IsWriteTo c o call → Both c o → Has call
    writes (raw.Write d x most bytes) c o is at = on_two (raw.Write d x most bytes) c o is.0 is.1 at
    writes _ c o is at = absurd is

    -- the making of an object in a container
    makes : (call : RawCall) (c : ℕ) → IsMaking c call → Located c → Has call
    makes (raw.MakeSegment d label bytes) c is at = record { container = subst Located (sym is) at; object = λ named. absurd named }
    makes (raw.MakeContainer d label) c is at = record { container = subst Located (sym is) at; object = λ named. absurd named }
    makes _ c is at = absurd is

    -- an entry of a gate
    enters : (call : RawCall) (g : ℕ) → IsEntryOf g call → Located g → Has call
    enters (raw.Enter c o label clearance verify) g is at = on_two (raw.Enter c o label clearance verify) root_number g is.0 is.1 (of_root, at)
    enters _ g is at = absurd is

    -- a read of a directory or a file
    reads_at : (q : Path) (call : RawCall) → IsAtOrAbove q path → ReadsAt accounts s q call → Has call
    reads_at q call above (c, o, inl at, is) = on_two call c o (ap container_named is) (ap object_named is) (of_directory q c o above at)
    reads_at q call above (c, o, inr at, is) = on_two call c o (ap container_named is) (ap object_named is) (of_file q c o above at)

    -- a write of a file
    writes_at : (q : Path) (call : RawCall) → IsAtOrAbove q path → WritesAt accounts s q call → Has call
    writes_at q call above (c, o, at, is) = writes call c o is (of_file q c o above at)

    -- the making of an object in a directory
    makes_at : (d : Path) (call : RawCall) → IsAtOrAbove d path → MakesAt accounts s d call → Has call
    makes_at d call above (c, g, at, is) = makes call c is (of_directory d c g above at).0

    -- a change of a directory
    changes_at : (d : Path) (call : RawCall) → IsAtOrAbove d path → ChangesAt accounts s asked.call d call → Has call
    changes_at d call above (inl made) = makes_at d call above made
    changes_at d call above (inr (inl (c, g, at, is))) = writes call c g is (of_directory d c g above at)
    changes_at d call above (inr (inr (here, (c, o, at, is)))) =
        on_two call c o (ap container_named is) (ap object_named is) (of_object path c o (at_itself path) at)

    -- a read of a process segment
    reads_status : (name : ProcName) (call : RawCall) → IsAtOrAbove name named → ReadsStatus accounts s name call → Has call
    reads_status name call above (c, g, at, is) = on_two call c g (ap container_named is) (ap object_named is) (of_status name c g above at)

    -- an end of a process
    unlinks_process : (name : ProcName) (call : RawCall) → IsAtOrAbove name named → UnlinksProcess accounts s name call → Has call
    unlinks_process [] call above is =
        on_two call root_number _ (ap container_named is) (ap object_named is) (of_root, of_process [] _ above home_there)
    unlinks_process (n ∷ d) call above (outer, status, c, g, at, here, is) =
        on_two call outer c (ap container_named is) (ap object_named is)
        ((of_status d outer status (one_above n d named above) at).0, (of_status (n ∷ d) c g above here).0)

    -- an entry of a user's gate
    enters_gate : (unix : UnixCall) (call : RawCall) → EntersGate accounts unix call → Has call
    enters_gate (Login user password) call (place, is, entry) = enters call (gate_of (place + 1)) entry (of_gate user place is)
    enters_gate _ call is = absurd is

    -- a call on what a reason names, where this is of the line
    about : (reason : Reason) (call : RawCall) → IsOf path named reason → IsAbout accounts s asked.call reason call → Has call
    about (MayNotRead q cause) call ours is = reads_at q call ours is
    about (MayNotWrite q cause) call ours (inl is) = writes_at q call ours is
    about (MayNotWrite q cause) call ours (inr is) = changes_at q call ours is
    about (IsTooLong q n) call ours is = writes_at q call ours is
    about (IsUnseen name job) call ours is = reads_status name call ours is
    about (IsNoChild name) call ours is =
        unlinks_process name call (subst (λ (x : ProcName). IsAtOrAbove x named) (sym ours) (at_itself named)) is
    about (IsInJob job) call ours is = enters_gate asked.call call is
    about MakesOnlyOpen call ours is = makes_at (parent path) call (parent_above path) is
    about (IsNoMember group) call ours is = makes_at (parent path) call (parent_above path) is
    about StartsNoJob call ours is = makes_at (parent path) call (parent_above path) is
    about _ call ours is = absurd is

    -- The objects of a raw call that is on what the reason of a refusal names have a location after the line.
    pub about_located : (p : Process) (reason : Reason) (call : RawCall) → why accounts f asked.process p asked.call ≡ Some reason
        → IsAbout accounts s asked.call reason call → HasLocatedObjects accounts mid asked call
    about_located p reason call refused is =
        about reason call (reason_of_line accounts f asked.process p asked.call reason refused) is

-- ---- what a raw call makes is made in a directory

module _ {accounts : Accounts} {s : State} {f : Flat} (l : ObjectsMatch accounts s f) where
  abbrev Placed : RawCall → Type 0
  Placed = IsPlaced l

  -- a write makes nothing
  placed_write : (call : RawCall) (c o : ℕ) → IsWriteTo c o call → Placed call
  placed_write (raw.Write d x most bytes) c o is = tt
  placed_write _ c o is = absurd is

  -- what is made at a path is made in the directory of that path
  placed_making : (d : Path) (call : RawCall) → MakesAt accounts s d call → Placed call
  placed_making d (raw.MakeSegment x label bytes) (c, g, at, is) =
      (d, (directory_back accounts s f l d c g at).1 ∙ ap Some (sym is))
  placed_making d (raw.MakeContainer x label) (c, g, at, is) = (d, (directory_back accounts s f l d c g at).1 ∙ ap Some (sym is))
  placed_making d _ (c, g, at, is) = absurd is

  -- a change of a directory makes something there, or nothing
  placed_change : (asked : UnixCall) (d : Path) (call : RawCall) → ChangesAt accounts s asked d call → Placed call
  placed_change asked d call (inl made) = placed_making d call made
  placed_change asked d call (inr (inl (c, g, at, is))) = placed_write call c g is
  placed_change asked d call (inr (inr (here, (c, o, at, is)))) = subst Placed (sym is) tt

  -- an end of a process makes nothing
  placed_process : (name : ProcName) (call : RawCall) → UnlinksProcess accounts s name call → Placed call
  placed_process [] call is = subst Placed (sym is) tt
  placed_process (n ∷ d) call is = subst Placed (sym is.6) tt

  -- an entry of a gate makes nothing
  placed_entry : (g : ℕ) (call : RawCall) → IsEntryOf g call → Placed call
  placed_entry g (raw.Enter c o label clearance verify) is = tt
  placed_entry g _ is = absurd is

  -- nor does an entry of a user's gate
  placed_login : (asked : UnixCall) (call : RawCall) → EntersGate accounts asked call → Placed call
  placed_login (Login user password) call (place, is, entry) = placed_entry (gate_of (place + 1)) call entry
  placed_login _ call is = absurd is

  -- A raw call that is on what the reason of a refusal names makes a segment or a container in a directory, or makes nothing.
  pub about_place : (asked : UnixCall) (reason : Reason) (call : RawCall) → IsAbout accounts s asked reason call → IsPlaced l call
  about_place asked (MayNotRead q cause) call is = subst Placed (sym is.3) tt
  about_place asked (MayNotWrite q cause) call (inl is) = placed_write call is.0 is.1 is.3
  about_place asked (MayNotWrite q cause) call (inr is) = placed_change asked q call is
  about_place asked (IsTooLong q n) call is = placed_write call is.0 is.1 is.3
  about_place asked (IsUnseen name job) call is = subst Placed (sym is.3) tt
  about_place asked (IsNoChild name) call is = placed_process name call is
  about_place asked (IsInJob job) call is = placed_login asked call is
  about_place asked MakesOnlyOpen call is = placed_making (parent (path_of asked)) call is
  about_place asked (IsNoMember group) call is = placed_making (parent (path_of asked)) call is
  about_place asked StartsNoJob call is = placed_making (parent (path_of asked)) call is
  about_place asked _ call is = absurd is
