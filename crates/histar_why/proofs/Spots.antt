-- What is found at a path of a state is what the rules say is there.
use Rattle.std.specs.Prelude.{◌≡◌, ℕ, ◌+◌, ◌*◌, true, List, [], ◌∷◌, length, map, Option, None, Some, MatchOption}
use Rattle.std.specs.Prelude.{is_some, option_and_then, option_map, refl, IfOk, Result, Ok, Err}
use Rattle.std.proofs.Common.{ap, inr, sym, ◌∙◌, subst}
use Rattle.std.proofs.lemmas.Option.{none-some, same_Some}
use Rattle.std.specs.FinMap as maps
use Rattle.histar_base.specs.Refusals.{◌orelse◌, unless}
use Rattle.histar_flat.specs.Words.{Name, Path, ProcName}
use Rattle.histar_flat.specs.Accounts.{Accounts}
use Rattle.histar_flat.specs.Classes.{Class, Process}
use Rattle.histar_flat.specs.Classes.Class.{Private, Readable, Open, Scratch, Grouped}
use Rattle.histar_flat.specs.Files.{get}
use Rattle.histar_flat.specs.FlatState.{Content, Flat, Node, is_dir, is_some_and, bytes_of, class_of}
use Rattle.histar_flat.specs.FlatState.Content.{Dir, File}
use Rattle.histar_flat.specs.PathOrder.{parent}
use Rattle.histar_level.specs.Levels.{Levels}
use Rattle.histar_object.specs.State.{State}
use Rattle.histar_syscall.specs.KernelModel.{lent_bytes}
use Rattle.histar_layout.specs.Checked.{IsLookedUp}
use Rattle.histar_layout.specs.declared.checked.NotADirectory.{NotADirectory}
use Rattle.histar_layout.specs.ClassLabels.{FindsClass, HasJobs, IsClassLabel, IsRisingFrom, class_label, owned_label, without_jobs}
use Rattle.histar_layout.specs.ShownClass.{class_shown}
use Rattle.histar_layout.specs.declared.shown.ShownClass.{ShownClass}
use Rattle.histar_layout.specs.declared.shown.ShownClass.TheVariants as shown
use Rattle.histar_layout.proofs.ClassLabels.{one_class}
use Rattle.histar_layout.proofs.ClassesShown.{classes_shown}
use Rattle.histar_object.specs.Objects.{label_there}
use Rattle.histar_layout.specs.Categories.{group_owner, scratch_label, write_category}
use Rattle.histar_layout.specs.Directory.{Entries, IsDirectory}
use Rattle.histar_layout.specs.Labelling.{written_by}
use Rattle.histar_layout.specs.Listing.{object_of, is_directory}
use Rattle.histar_layout.specs.UserTable.{without_password, without_passwords}
use Rattle.histar_layout.specs.declared.class.Class.{Class as NumberedClass}
use Rattle.histar_layout.specs.declared.class.Class.TheVariants as numbered
use Rattle.histar_layout.specs.declared.entry.Target.{Target}
use Rattle.histar_layout.specs.declared.entry.Target.TheVariants as targets
use Rattle.histar_layout.proofs.DirectoryLemmas.{same_directory}
use Rattle.histar_programs.specs.declared.roots.Roots.{Roots}
use Rattle.histar_programs.specs.Start.{roots_of}
use Rattle.std.proofs.lemmas.List.{length-map}
use Rattle.histar_flat.specs.Accounts.{group_number, user_number}
use Rattle.histar_refinement.specs.Addresses.{address_of}
use Rattle.histar_refinement.specs.Addresses.Step.{Listing, Slash}
use Rattle.histar_refinement.specs.Categories.{is_for}
use Rattle.histar_refinement.specs.Directories.{directory_of, target_for}
use Rattle.histar_refinement.specs.Lines.{IsDirectoryAt}
use Rattle.histar_refinement.specs.NumberedClasses.{numbered_class}
use Rattle.histar_refinement.specs.Represents.{ObjectsMatch}
use Rattle.histar_refinement.proofs.Agreeing.{root_is_dir}
use Rattle.histar_refinement.proofs.DirectoryLaws.{get_directory}
use Rattle.histar_refinement.proofs.Lent.{shows_directory, held}
use Rattle.histar_refinement.proofs.LinesMatched.{directory_back}
use Rattle.histar_refinement.proofs.SameLines.{container_in, listing_in}
use Rattle.histar_readout.specs.Laws.{LeadsToNode}
use Rattle.histar_readout.specs.Resolve.{LeadsNowhere, LeadsTo}
use Rattle.histar_readout.specs.Tree.{IsNodeAt}
use Rattle.histar_readout.specs.TreeEntries.{file_bytes_at}
use Rattle.histar_readout.proofs.OneTarget.{paths_lead_to_one_target}
use Rattle.histar_readout.proofs.PathsMatched.{flat_states_are_resolved}
use Rattle.histar_readout.proofs.TreeMatched.{agrees_at, led_to_directory, led_to_file, node_of}
use Rattle.histar_shell.proofs.SameUsers.{same_place}
use Rattle.histar_names.specs.Births.{Births}
use Rattle.histar_reasons.specs.Causes.{unread, unwritten}
use Rattle.histar_reasons.specs.Reasons.{why_into, why_walk}
use Rattle.histar_reasons.specs.Reasons.Reason.{HasFile, IsMissing, MayNotRead}
use Rattle.histar_why.specs.declared.ways.Spot.{Spot}
use Rattle.histar_why.specs.declared.ways.Way.{Way}
use Rattle.histar_why.specs.Causes.{class_by, class_named, jobs_by}
use Rattle.histar_why.specs.Views.{CountsIn}
use Rattle.histar_names.specs.KnownBirths.{NamesBirths}
use Rattle.histar_why.specs.Barriers.{IsOnWay, barrier_of}
use Rattle.histar_why.specs.Reasons.{has_directory, unread_in}
use Rattle.histar_why.specs.Ways.{FindsBelow, FindsEntry, FindsSpot, HasClass, IsAt, IsSpot, IsWayTo, Lists, Reveals, ShowsClass, Sight}
use Rattle.histar_why.specs.Ways.{sight_at, sight_by, sight_of, why_into_by}
use Rattle.histar_why.proofs.Barriers.{barrier_below, on_way_below}
use Rattle.histar_why.proofs.Found.{jobs_are}

-- ---- users with no passwords have the same classes

module _ (accounts : Accounts) where
  count : length (map without_password accounts.users) ≡ length accounts.users
  count = search length-map

  pub same_number : (name : Name) → user_number (without_passwords accounts) name ≡ user_number accounts name
  same_number name = ap (option_map (λ place. place + 1)) (same_place accounts.users name)

  same_class_label : (class : NumberedClass) → class_label (without_passwords accounts) class ≡ class_label accounts class
  same_class_label (numbered.Private owner) = ap (option_map owned_label) (same_number owner)
  same_class_label (numbered.Readable owner) = ap (option_map (λ user. written_by (write_category user))) (same_number owner)
  same_class_label numbered.Open = refl
  same_class_label (numbered.Scratch owner jobs) = ap (option_map (λ user. scratch_label user jobs)) (same_number owner)
  same_class_label (numbered.Group group) = λ i. option_map (λ number. owned_label (group_owner (count i) number)) (group_number accounts group)

  jobs_still : (class : NumberedClass) → HasJobs accounts class → HasJobs (without_passwords accounts) class
  jobs_still (numbered.Private owner) has = tt
  jobs_still (numbered.Readable owner) has = tt
  jobs_still numbered.Open has = tt
  jobs_still (numbered.Scratch owner jobs) has = subst (λ (users : ℕ). IsRisingFrom (4 + 2 * (users + length accounts.groups)) jobs) (sym count) has
  jobs_still (numbered.Group group) has = tt

  still_of_class : (class : NumberedClass) (label : Levels) → IsClassLabel accounts class label
      → IsClassLabel (without_passwords accounts) class label
  still_of_class class label is = record { jobs = jobs_still class is.jobs; is = same_class_label class ∙ is.is }

  same_unread : (p : Process) (class : Class) → unread (without_passwords accounts) p class ≡ unread accounts p class
  same_unread p (Private owner) = refl
  same_unread p (Readable owner) = refl
  same_unread p Open = refl
  same_unread p (Scratch owner jobs) = refl
  same_unread p (Grouped group) = refl

  same_unwritten : (p : Process) (class : Class) → unwritten (without_passwords accounts) p class ≡ unwritten accounts p class
  same_unwritten p (Private owner) = refl
  same_unwritten p (Readable owner) = refl
  same_unwritten p Open = refl
  same_unwritten p (Scratch owner jobs) = refl
  same_unwritten p (Grouped group) = refl

module _ (accounts : Accounts) (s : State) (f : Flat) (births : Births) (names : NamesBirths births accounts s f) where
  abbrev l : ObjectsMatch accounts s f
  l = names.represents.matched

  abbrev roots : Roots
  roots = roots_of (length accounts.users)

  -- ---- a path leads to the node of the flat state

  pub led_directory : (d : Path) (c g : ℕ) → LeadsTo s roots d (targets.Directory c g) → IsDirectoryAt accounts s d c g
  led_directory [] c g led = (ap container_in led, ap listing_in led)
  led_directory (n ∷ d) c g led =
      let above = led_directory d led.0 led.1 led.3 in
      (led.0, led.1, led.2, above, held accounts s f l d led.0 led.1 led.2 above led.4, led.5)

  number_led : (q : Path) (class : Class) (content : Content) (target : Target)
      → target_for l.naming.number (q, record { class = class; content = content }) ≡ Some target
      → l.naming.number (address_of q) ≡ Some (object_of target)
  number_led q class Dir target leads =
      let to = led_to_directory (l.naming.number (address_of q)) (l.naming.number (Listing ∷ address_of q)) target leads in
      to.3 ∙ ap (λ (t : Target). Some (object_of t)) to.2
  number_led q class (File bytes) target leads =
      let to = led_to_file (l.naming.number (address_of q)) target leads in
      to.2 ∙ ap (λ (t : Target). Some (object_of t)) to.1

  -- the object to which a path leads has the number of the path's node
  numbered_at : (q : Path) (target : Target) → LeadsTo s roots q target → (node : Node) → get f.files q ≡ Some node
      → l.naming.number (address_of q) ≡ Some (object_of target)
  numbered_at [] target led node at = l.as_booted (Slash ∷ []) _ refl ∙ ap (λ (t : Target). Some (object_of t)) (sym led)
  numbered_at (n ∷ d) target led node at =
      let back = directory_back accounts s f l d led.0 led.1 (led_directory d led.0 led.1 led.3) in
      let dirs = same_directory (lent_bytes s led.1) (directory_of f.files l.naming.number d) led.2
      (shows_directory accounts s f l d led.1 back.0 back.2) led.4 in
      number_led (n ∷ d) node.class node.content target
      (sym (ap (option_and_then (λ (there : Node). target_for l.naming.number (n ∷ d, there))) at)
      ∙ sym (get_directory f.files l.naming.number d n) ∙ ap (λ (dir : Entries). maps.get dir n) dirs ∙ led.5)

  -- what the flat state has where a path leads
  pub record IsNodeOf (q : Path) (target : Target) : Type 0 where
    pub node : Node
    pub at : get f.files q ≡ Some node
    pub kind : is_directory target ≡ is_dir node
    pub bytes : file_bytes_at s target ≡ bytes_of (Some node)
    pub numbered : l.naming.number (address_of q) ≡ Some (object_of target)

  pub node_at : (q : Path) (target : Target) → LeadsTo s roots q target → IsNodeOf q target
  node_at q target led = by (get f.files q) refl (flat_states_are_resolved accounts s f names.represents q)
    where
      by : (o : Option Node) → get f.files q ≡ o → MatchOption o (LeadsNowhere s roots q) (LeadsToNode s roots q) → IsNodeOf q target
      by None e nowhere = absurd (nowhere target led)
      by (Some node) e there =
          let same = paths_lead_to_one_target s roots q there.target target there.leads led in
          record {
            node = node;
            at = e;
            kind = sym (ap is_directory same) ∙ there.kind;
            bytes = sym (ap (file_bytes_at s) same) ∙ there.bytes;
            numbered = numbered_at q target led node e;
          }

  -- where a path leads nowhere, the flat state has nothing
  pub nothing_at : (q : Path) → LeadsNowhere s roots q → get f.files q ≡ None
  nothing_at q nowhere = by (get f.files q) (flat_states_are_resolved accounts s f names.represents q)
    where
      by : (o : Option Node) → MatchOption o (LeadsNowhere s roots q) (LeadsToNode s roots q) → o ≡ None
      by None there = refl
      by (Some node) there = absurd (nowhere there.target there.leads)

  -- ---- what is seen there

  class_is : (q : Path) (node : Node) → get f.files q ≡ Some node → (class : Class) → node.class ≡ class
      → class_named births (numbered_class l.category class) ≡ class
  class_is q node at (Private owner) e = refl
  class_is q node at (Readable owner) e = refl
  class_is q node at Open e = refl
  class_is q node at (Scratch owner jobs) e =
      ap (Scratch owner) (jobs_are accounts s f births names jobs (λ job is. inr (q, node, at, ap (λ (c : Class). is_for c job) e ∙ is)))
  class_is q node at (Grouped group) e = refl

  module _ (q : Path) (target : Target) (led : LeadsTo s roots q target) (p : Process) where
    abbrev there : IsNodeOf q target
    there = node_at q target led

    abbrev is_node : IsNodeAt accounts s q target (node_of accounts s f l q there.node.class target)
    is_node = agrees_at accounts s f l q there.node there.at target there.numbered

    -- its object is of the class of the node
    of_class : HasClass (without_passwords accounts) s target (numbered_class l.category there.node.class)
    of_class = record {
      label = is_node.label;
      label_is = is_node.label_is;
      of_class = still_of_class accounts _ _ is_node.of_class;
    }

    abbrev class : NumberedClass
    class = numbered_class l.category there.node.class

    -- a spot there is what the process sees
    sight_is : (spot : Spot) → IsSpot (without_passwords accounts) births s p target class spot → sight_of spot ≡ sight_at accounts p there.node
    sight_is spot is =
        is.seen
        ∙ (λ i. sight_by (without_passwords accounts) p (class_is q there.node there.at there.node.class refl i) (there.kind i)
        (length (there.bytes i)))
        ∙ (λ i. record {
          is_directory = is_dir there.node;
          bytes = length (bytes_of (Some there.node));
          unread = same_unread accounts p there.node.class i;
          unwritten = same_unwritten accounts p there.node.class i;
        })

    -- so what is found there is what the rules say
    at_target : (found : Option Spot) → FindsSpot (without_passwords accounts) births s p target found
        → IsAt (without_passwords accounts) roots births s accounts f p q found
    at_target None finds = absurd (finds class of_class)
    at_target (Some spot) finds =
        let is : IsSpot (without_passwords accounts) births s p target class spot = finds class of_class in
        record {
          leads = subst (LeadsTo s roots q) (sym is.leads) led;
          seen = ap Some (sight_is spot is) ∙ ap (option_map (sight_at accounts p)) (sym there.at);
        }

  -- ---- one name more

  module _ (p : Process) where
    abbrev At : Path → Option Spot → Type 0
    At q found = IsAt (without_passwords accounts) roots births s accounts f p q found

    at_slash : (found : Option Spot)
        → FindsSpot (without_passwords accounts) births s p (targets.Directory roots.slash.container roots.slash.listing) found → At [] found
    at_slash found is = at_target [] _ refl p found is

    -- where an entry of the directory at a path leads
    entry_leads : (d : Path) (above : Target) → LeadsTo s roots d above → (n : Name) (target : Target) → Lists s above n target
        → LeadsTo s roots (n ∷ d) target
    entry_leads d (targets.File file) led n target lists = absurd lists
    entry_leads d (targets.Directory container listing) led n target lists = (container, listing, lists.0, led, lists.1, lists.2)

    -- and each path below it leads to an entry
    listed_entry : (d : Path) (above : Target) → LeadsTo s roots d above → (n : Name) (target : Target) → LeadsTo s roots (n ∷ d) target
        → Lists s above n target
    listed_entry d above here n target led =
        subst (λ (t : Target). Lists s t n target) (paths_lead_to_one_target s roots d (targets.Directory led.0 led.1) above led.3 here)
        (led.2, led.4, led.5)

    -- nothing is at a path that leads nowhere
    at_nothing : (q : Path) → LeadsNowhere s roots q → At q None
    at_nothing q nowhere = record { leads = nowhere; seen = ap (option_map (sight_at accounts p)) (sym (nothing_at q nowhere)) }

    at_entry : (d : Path) (directory : Option Spot) → At d directory → (n : Name) (found : Option Spot)
        → FindsBelow (without_passwords accounts) births s p directory n found → At (n ∷ d) found
    at_entry d None above n found is = subst (At (n ∷ d)) (sym is) (at_nothing (n ∷ d) (λ target led. above.leads _ led.3))
    at_entry d (Some spot) above n found below = by below.0 below.1 below.2
      where
        by : (o : Option Target) → FindsEntry s spot.target n o
            → MatchOption o (found ≡ None) (λ there. FindsSpot (without_passwords accounts) births s p there found) → At (n ∷ d) found
        by None none is =
            subst (At (n ∷ d)) (sym is)
            (at_nothing (n ∷ d) (λ target led. none target (listed_entry d spot.target above.leads n target led)))
        by (Some target) lists is = at_target (n ∷ d) target (entry_leads d spot.target above.leads n target lists) p found is

    -- ---- the walk

    -- what is said of what is seen, and of a node
    pub is_there_is : (found : Option Spot) (o : Option Node) → option_map sight_of found ≡ option_map (sight_at accounts p) o
        → is_some_and found (λ x. true) ≡ is_some_and o (λ n. true)
    is_there_is None None e = refl
    is_there_is None (Some node) e = absurd (none-some _ e)
    is_there_is (Some spot) None e = absurd (none-some _ (sym e))
    is_there_is (Some spot) (Some node) e = refl

    pub is_directory_is : (found : Option Spot) (o : Option Node) → option_map sight_of found ≡ option_map (sight_at accounts p) o
        → has_directory found ≡ is_some_and o is_dir
    is_directory_is None None e = refl
    is_directory_is None (Some node) e = absurd (none-some _ e)
    is_directory_is (Some spot) None e = absurd (none-some _ (sym e))
    is_directory_is (Some spot) (Some node) e = ap (λ (x : Sight). x.is_directory) (same_Some _ _ e)

    pub unread_is : (found : Option Spot) (o : Option Node) → option_map sight_of found ≡ option_map (sight_at accounts p) o
        → unread_in found ≡ unread accounts p (class_of o)
    unread_is None None e = refl
    unread_is None (Some node) e = absurd (none-some _ e)
    unread_is (Some spot) None e = absurd (none-some _ (sym e))
    unread_is (Some spot) (Some node) e = ap (λ (x : Sight). x.unread) (same_Some _ _ e)

    -- something is found where the flat state has something
    pub there_is_some : (found : Option Spot) (o : Option Node) → option_map sight_of found ≡ option_map (sight_at accounts p) o
        → is_some found ≡ is_some_and o (λ n. true)
    there_is_some found o e = some_is found ∙ is_there_is found o e
      where
        some_is : (x : Option Spot) → is_some x ≡ is_some_and x (λ y. true)
        some_is None = refl
        some_is (Some spot) = refl

    -- why the process can't go into a directory
    into_is : (d : Path) (way : Way) → option_map (barrier_of d) way.walk ≡ why_walk accounts f p d → At d way.here
        → why_into_by way d ≡ why_into accounts f p d
    into_is [] way walk here =
        let root = root_is_dir accounts s f l in
        (λ i. walk i
        orelse unless (there_is_some way.here (get f.files []) here.seen i) (IsMissing [])
        orelse unless (is_directory_is way.here (get f.files []) here.seen i) (HasFile [])
        orelse option_map (MayNotRead []) (unread_is way.here (get f.files []) here.seen i))
        ∙ ap (λ (o : Option Node).
        unless (is_some_and o (λ n. true)) (IsMissing []) orelse unless (is_some_and o is_dir) (HasFile [])
        orelse option_map (MayNotRead []) (unread accounts p (class_of (get f.files [])))) root.1
    into_is (n ∷ d) way walk here =
        λ i. walk i
        orelse unless (there_is_some way.here (get f.files (n ∷ d)) here.seen i) (IsMissing (n ∷ d))
        orelse unless (is_directory_is way.here (get f.files (n ∷ d)) here.seen i) (HasFile (n ∷ d))
        orelse option_map (MayNotRead (n ∷ d)) (unread_is way.here (get f.files (n ∷ d)) here.seen i)

-- ---- the way to a path

module _ (users : Accounts) (roots : Roots) (births : Births) (s : State) (p : Process) where
  -- what is revealed is so for users with no passwords, at the places that boot made
  as_revealed : (accounts : Accounts) (f : Flat) → Reveals users roots births s accounts f → (Holds : Accounts → Roots → Type 0)
      → Holds (without_passwords accounts) (roots_of (length accounts.users)) → Holds users roots
  as_revealed accounts f r Holds h =
      subst (λ (x : Roots). Holds users x) (sym r.roots_are)
      (subst (λ (x : Accounts). Holds x (roots_of (length accounts.users))) (sym r.users_are) h)

  pub from_revealed : (accounts : Accounts) (f : Flat) → Reveals users roots births s accounts f → (Holds : Accounts → Roots → Type 0)
      → Holds users roots → Holds (without_passwords accounts) (roots_of (length accounts.users))
  from_revealed accounts f r Holds h =
      subst (λ (x : Roots). Holds (without_passwords accounts) x) r.roots_are (subst (λ (x : Accounts). Holds x roots) r.users_are h)

  -- the way to `/`
  pub way_root : (q : Path) → q ≡ [] → (way : Way) → way.walk ≡ None → way.above ≡ way.here
      → FindsSpot users births s p (targets.Directory roots.slash.container roots.slash.listing) way.here → IsWayTo users roots births s p q way
  way_root q is way walk above here accounts f r =
      let at = as_revealed accounts f r (λ u w. IsAt u w births s accounts f p [] way.here)
      (at_slash accounts s f births r.names p way.here
      (from_revealed accounts f r (λ u w. FindsSpot u births s p (targets.Directory w.slash.container w.slash.listing) way.here) here)) in
      subst (λ (x : Path). IsOnWay x way.walk × (option_map (barrier_of x) way.walk ≡ why_walk accounts f p x)
      × IsAt users roots births s accounts f p (parent x) way.above × IsAt users roots births s accounts f p x way.here) (sym is) (
        subst (IsOnWay []) (sym walk) tt,
        ap (option_map (barrier_of [])) walk,
        subst (IsAt users roots births s accounts f p []) (sym above) at,
        at,
      )

  -- the way to an entry of a directory
  pub way_below : (d : Path) (n : Name) (up : Way) → IsWayTo users roots births s p d up → (q : Path) → q ≡ n ∷ d → (way : Way)
      → option_map (barrier_of d) way.walk ≡ why_into_by up d → (IsOnWay d up.walk → IsOnWay d way.walk) → way.above ≡ up.here
      → FindsBelow users births s p up.here n way.here → IsWayTo users roots births s p q way
  way_below d n up is q parts way walk near above here accounts f r =
      let upper = is accounts f r in
      let upper_at = from_revealed accounts f r (λ u w. IsAt u w births s accounts f p d up.here) upper.3 in
      let at = as_revealed accounts f r (λ u w. IsAt u w births s accounts f p (n ∷ d) way.here)
      (at_entry accounts s f births r.names p d up.here upper_at n way.here
      (from_revealed accounts f r (λ u w. FindsBelow u births s p up.here n way.here) here)) in
      subst (λ (x : Path). IsOnWay x way.walk × (option_map (barrier_of x) way.walk ≡ why_walk accounts f p x)
      × IsAt users roots births s accounts f p (parent x) way.above × IsAt users roots births s accounts f p x way.here) (sym parts) (
        on_way_below n d way.walk (near upper.0),
        barrier_below n d way.walk (near upper.0) ∙ walk ∙ into_is accounts s f births r.names p d up upper.1 upper_at,
        subst (IsAt users roots births s accounts f p d) (sym above) upper.3,
        at,
      )

-- ---- one entry

-- a file lists nothing
pub none_in_file : (s : State) (above : Target) (name : Name) (file : ℕ) → above ≡ targets.File file → FindsEntry s above name None
none_in_file s above name file is target lists = subst (λ (t : Target). Lists s t name target) is lists

module _ (s : State) (above : Target) (name : Name) (container listing : ℕ) (is : above ≡ targets.Directory container listing) (bytes : List ℕ)
    (read : bytes ≡ lent_bytes s listing) where
  -- a name that a directory lists is listed in its segment
  in_segment : (target : Target) → Lists s above name target → (dir : Entries) × IsDirectory bytes dir × (maps.get dir name ≡ Some target)
  in_segment target lists =
      let here = subst (λ (t : Target). Lists s t name target) is lists in
      (here.0, subst (λ (b : List ℕ). IsDirectory b here.0) (sym read) here.1, here.2)

  -- a segment that holds no directory lists nothing
  pub none_unlisted : (fault : NotADirectory) → IsLookedUp bytes name (Err fault) → FindsEntry s above name None
  none_unlisted fault none target lists = let here = in_segment target lists in none here.0 here.1

  -- the entry that a directory lists is found
  pub entry_found : (found : Option Target) → IsLookedUp bytes name (Ok found) → FindsEntry s above name found
  entry_found None looked = λ target lists.
      let here = in_segment target lists in
      let same = same_directory bytes looked.0 here.0 looked.1 here.1 in
      none-some target (looked.2 ∙ ap (λ (dir : Entries). maps.get dir name) same ∙ here.2)
  entry_found (Some target) looked =
      subst (λ (t : Target). Lists s t name target) (sym is) (looked.0, subst (λ (b : List ℕ). IsDirectory b looked.0) read looked.1, sym looked.2)

  -- the entries of the directory that was read are counted
  pub entries_counted : (n : ℕ) (read_as : Entries) → IsDirectory bytes read_as → n ≡ maps.len read_as → CountsIn s above n
  entries_counted n read_as is_read count =
      subst (λ (t : Target). CountsIn s t n) (sym is) (λ dir here.
      count ∙ ap maps.len (same_directory bytes read_as dir is_read (subst (λ (b : List ℕ). IsDirectory b dir) (sym read) here)))

-- ---- one spot

-- where the object of a target has no label, it is of no class
pub no_label : (users : Accounts) (births : Births) (s : State) (p : Process) (target : Target)
    → label_there (s.objects (object_of target)) ≡ None → FindsSpot users births s p target None
no_label users births s p target none other has = none-some has.label (sym none ∙ has.label_is)

-- where its label shows no class, neither
pub no_class : (users : Accounts) (births : Births) (s : State) (p : Process) (target : Target) (label : Levels)
    → label_there (s.objects (object_of target)) ≡ Some label → ShowsClass users label None → FindsSpot users births s p target None
no_class users births s p target label there shows other has =
    none-some other (shows other (subst (IsClassLabel users other) (same_Some _ _ (sym has.label_is ∙ there)) has.of_class))

-- the spot of the class that its label shows
pub spot_found : (users : Accounts) (births : Births) (s : State) (p : Process) (target : Target) (label : Levels)
    → label_there (s.objects (object_of target)) ≡ Some label → (class : NumberedClass) → ShowsClass users label (Some class)
    → (spot : Spot) → IsSpot users births s p target class spot → FindsSpot users births s p target (Some spot)
spot_found users births s p target label there class shows spot is other has =
    subst (λ (c : NumberedClass). IsSpot users births s p target c spot)
    (same_Some class other (shows other (subst (IsClassLabel users other) (same_Some _ _ (sym has.label_is ∙ there)) has.of_class))) is

-- ---- the class of a label

module _ (users : Accounts) (label : Levels) where
  -- what a label shows is its class without jobs
  shown_is : (shown : Option ShownClass) → shown ≡ class_shown users label → (class : NumberedClass) → IsClassLabel users class label
      → shown ≡ Some (without_jobs class)
  shown_is shown e class is = e ∙ classes_shown users class label is

  -- a label that shows nothing is of no class
  pub none_shown : None ≡ class_shown users label → ShowsClass users label None
  none_shown e class is = absurd (none-some _ (shown_is None e class is))

  -- a class that a label shows and that has no jobs
  pub private_shown : (owner : Name) → Some (shown.Private owner) ≡ class_shown users label
      → ShowsClass users label (Some (numbered.Private owner))
  private_shown owner e class is = by class (shown_is _ e class is)
    where
      by : (c : NumberedClass) → Some (shown.Private owner) ≡ Some (without_jobs c) → Some (numbered.Private owner) ≡ Some c
      by (numbered.Private other) e = cc
      by _ e = absurd (cc)

  pub readable_shown : (owner : Name) → Some (shown.Readable owner) ≡ class_shown users label
      → ShowsClass users label (Some (numbered.Readable owner))
  readable_shown owner e class is = by class (shown_is _ e class is)
    where
      by : (c : NumberedClass) → Some (shown.Readable owner) ≡ Some (without_jobs c) → Some (numbered.Readable owner) ≡ Some c
      by (numbered.Readable other) e = cc
      by _ e = absurd (cc)

  pub open_shown : Some shown.Open ≡ class_shown users label → ShowsClass users label (Some numbered.Open)
  open_shown e class is = by class (shown_is _ e class is)
    where
      by : (c : NumberedClass) → Some shown.Open ≡ Some (without_jobs c) → Some numbered.Open ≡ Some c
      by numbered.Open e = refl
      by _ e = absurd (cc)

  pub group_shown : (group : Name) → Some (shown.Group group) ≡ class_shown users label → ShowsClass users label (Some (numbered.Group group))
  group_shown group e class is = by class (shown_is _ e class is)
    where
      by : (c : NumberedClass) → Some (shown.Group group) ≡ Some (without_jobs c) → Some (numbered.Group group) ≡ Some c
      by (numbered.Group other) e = cc
      by _ e = absurd (cc)

  -- a class that was found of a label is the only one
  pub found_shown : (found : Option NumberedClass) → FindsClass users label found → ShowsClass users label found
  found_shown None none class is = absurd (none class is)
  found_shown (Some class) is other also = ap Some (one_class users label class other is also)

  pub shown_if_found : {E : Type 0} (r : Result (Option NumberedClass) E) → IfOk r (FindsClass users label) → IfOk r (ShowsClass users label)
  shown_if_found (Ok found) finds = found_shown found finds
  shown_if_found (Err e) finds = tt

-- the spot of a class is that of its target
module _ (users : Accounts) (births : Births) (p : Process) (class : NumberedClass) where
  pub unread_by : (jobs : List ProcName) → jobs ≡ jobs_by births class
      → unread users p (class_by jobs class) ≡ unread users p (class_named births class)
  unread_by jobs is = ap (λ (js : List ProcName). unread users p (class_by js class)) is

  pub unwritten_by : (jobs : List ProcName) → jobs ≡ jobs_by births class
      → unwritten users p (class_by jobs class) ≡ unwritten users p (class_named births class)
  unwritten_by jobs is = ap (λ (js : List ProcName). unwritten users p (class_by js class)) is
