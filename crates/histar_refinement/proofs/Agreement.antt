-- The objects that `AsksFor` asks for are those that `expected` computes, so that the two forms of agreement are one.
use Rattle.std.proofs.Common.{◌≡◌, ℕ, [], ◌∷◌, Option, None, Some, refl, sym, ap, ◌∙◌, subst}
use Rattle.std.specs.Prelude.{option_and_then, option_map}
use Rattle.std.proofs.lemmas.Option.{none-some, same_Some}
use Rattle.histar_flat.specs.Words.{Path, ProcName}
use Rattle.histar_flat.specs.Accounts.{Accounts}
use Rattle.histar_flat.specs.Files.{get}
use Rattle.histar_flat.specs.Classes.{Class, Process}
use Rattle.histar_flat.specs.FlatState.{Node, Content, Flat}
use Rattle.histar_flat.specs.FlatState.Content.{Dir, File}
use Rattle.histar_level.specs.Levels.{Levels}
use Rattle.histar_object.specs.declared.objects.Kind.TheVariants.{Segment}
use Rattle.histar_object.specs.declared.objects.Object.{Object}
use Rattle.histar_object.specs.Objects.{is_present, thread_of}
use Rattle.histar_object.specs.State.{State, Found}
use Rattle.histar_container.specs.Tree.{Address, Naming, objects_at}
use Rattle.histar_layout.specs.Directory.{spelling}
use Rattle.histar_refinement.specs.Addresses.{Step, AddressNumbers, same_step, address_of, home_address}
use Rattle.histar_refinement.specs.Addresses.Step.{Left, Slash, Listing, Named, Home, Status, Inside, Runner, Child}
use Rattle.histar_refinement.specs.Agrees.{Agrees, bare}
use Rattle.histar_refinement.specs.Asked.{AsksFor, guarded}
use Rattle.histar_refinement.specs.Asked.AsksFor.{AtRoot, AtLeft, AtFile, AtDirectory, AtListing, AtHome, AtStatus, AtInside, AtRunner}
use Rattle.histar_refinement.specs.Categories.{Categories}
use Rattle.histar_refinement.specs.Directories.{directory_of}
use Rattle.histar_refinement.specs.Guards.{Guard, guard_label, rights_label, rights_clearance}
use Rattle.histar_refinement.specs.Labels.{class_guard, inside_guard, thread_rights}
use Rattle.histar_refinement.specs.Represents.{ObjectsMatch}
use Rattle.histar_refinement.proofs.AgreesAt.{AgreesAt}
use Rattle.histar_refinement.proofs.Expected.{bare_container, content_kind, guarded_object, node_object, listing_object, home_object, status_object}
use Rattle.histar_refinement.proofs.Expected.{inside_object, thread_object, path_at, process_at}
use Rattle.histar_refinement.proofs.Expected.{inside_at, expected_node, listing_at, expected_home, bytes_for}
use Rattle.histar_refinement.proofs.Expected.{expected_status, container_inside, thread_at, expected}
use Rattle.histar_refinement.proofs.Roots.{address_path, address_process, address_inside, asked_path, asked_listing, asked_home, asked_status}
use Rattle.histar_refinement.proofs.Roots.{asked_inside, asked_runner}

-- what a step after a value gives comes from that value
pub then_some : {A B : Type 0} (g : A → Option B) (x : Option A) (y : B) → option_and_then g x ≡ Some y → (w : A) × (x ≡ Some w) × (g w ≡ Some y)
then_some g None y e = absurd (none-some y e)
then_some g (Some w) y e = (w, refl, e)

mapped_some : {A B : Type 0} (g : A → B) (x : Option A) (y : B) → option_map g x ≡ Some y → (w : A) × (x ≡ Some w) × (g w ≡ y)
mapped_some g None y e = absurd (none-some y e)
mapped_some g (Some w) y e = (w, refl, same_Some (g w) y e)

-- two options are the same where they have the same values
same_options : {A : Type 0} (x y : Option A) → ((o : A) → x ≡ Some o → y ≡ Some o) → ((o : A) → y ≡ Some o → x ≡ Some o) → x ≡ y
same_options None None there back = refl
same_options None (Some o) there back = back o refl
same_options (Some o) None there back = sym (there o refl)
same_options (Some o) (Some p) there back = sym (there o refl)

-- an object is there, with or without its links
pub bare_there : (found : Found) → is_present (bare found) ≡ is_present found
bare_there None = refl
bare_there (Some o) = refl

module _ (accounts : Accounts) (category : Categories) (f : Flat) (number : AddressNumbers) where
  -- what is asked for is computed
  asked_is : {a : Address Step} {o : Object Levels} → AsksFor accounts category f number a o → expected accounts category f number a ≡ Some o
  asked_is AtRoot = refl
  asked_is (AtLeft q o e) = e
  asked_is (AtFile q bytes g there) =
      asked_path accounts category f number q ∙ ap (node_object accounts category) there.1
      ∙ ap (guarded_object accounts category (Segment bytes)) there.2
  asked_is (AtDirectory d g there) =
      asked_path accounts category f number d ∙ ap (node_object accounts category) there.1
      ∙ ap (guarded_object accounts category (content_kind Dir)) there.2
  asked_is (AtListing d g there) =
      let bytes = spelling (directory_of f.files number d) in
      asked_listing accounts category f number d ∙ ap (listing_object accounts category bytes) there.1
      ∙ ap (guarded_object accounts category (Segment bytes)) there.2
  asked_is (AtHome me p here) = asked_home accounts category f number me ∙ ap (home_object accounts category me) here
  asked_is (AtStatus me p here) =
      asked_status accounts category f number me
      ∙ ap (λ (o : Option Process). status_object accounts category (bytes_for accounts category f number me o) me o) here
  asked_is (AtInside me p here runs) =
      asked_inside accounts category f number me ∙ ap (inside_object accounts category me) here
      ∙ ap (λ (e : Option ℕ). elim e as (λ _. Found) [
        | None ↦ bare_container (guard_label category (inside_guard me p))
        | Some n ↦ None
      ]) runs
  asked_is (AtRunner me p here runs) =
      let rights = thread_rights accounts me p in
      asked_runner accounts category f number me ∙ ap (thread_object accounts category me) here
      ∙ ap (λ (e : Option ℕ). elim e as (λ _. Found) [
        | None ↦ Some (thread_of (rights_label category rights) (rights_clearance category rights))
        | Some n ↦ None
      ]) runs

  -- a file or a directory
  of_node : (q : Path) (class : Class) (content : Content) (o : Object Levels) → get f.files q ≡ Some (record { class = class; content = content })
      → guarded_object accounts category (content_kind content) (class_guard accounts class) ≡ Some o
      → AsksFor accounts category f number (address_of q) o
  of_node q class Dir o here e =
      let g = mapped_some (λ (g : Guard). guarded category g (content_kind Dir)) (class_guard accounts class) o e in
      subst (λ (x : Object Levels). AsksFor accounts category f number (address_of q) x) g.2 (AtDirectory q g.0 (class, here, g.1))
  of_node q class (File bytes) o here e =
      let g = mapped_some (λ (g : Guard). guarded category g (Segment bytes)) (class_guard accounts class) o e in
      subst (λ (x : Object Levels). AsksFor accounts category f number (address_of q) x) g.2 (AtFile q bytes g.0 (class, here, g.1))

  of_path : (a : Address Step) (o : Object Levels) → expected_node accounts category f number (path_at a) ≡ Some o
      → AsksFor accounts category f number a o
  of_path a o e =
      let at = then_some (λ (q : Path). node_object accounts category (get f.files q)) (path_at a) o e in
      let there =
      then_some (λ (n : Node). guarded_object accounts category (content_kind n.content) (class_guard accounts n.class)) (get f.files at.0) o at.2 in
      subst (λ (b : Address Step). AsksFor accounts category f number b o) (sym (address_path a at.0 at.1))
      (of_node at.0 there.0.class there.0.content o there.1 there.2)

  -- a directory segment
  of_listed : (d : Path) (class : Class) (content : Content) (o : Object Levels) → get f.files d ≡ Some (record { class = class; content = content })
      → listing_object accounts category (spelling (directory_of f.files number d)) (Some (record { class = class; content = content })) ≡ Some o
      → AsksFor accounts category f number (Listing ∷ address_of d) o
  of_listed d class Dir o here e =
      let bytes = spelling (directory_of f.files number d) in
      let g = mapped_some (λ (g : Guard). guarded category g (Segment bytes)) (class_guard accounts class) o e in
      subst (λ (x : Object Levels). AsksFor accounts category f number (Listing ∷ address_of d) x) g.2 (AtListing d g.0 (class, here, g.1))
  of_listed d class (File bytes) o here e = absurd (none-some o e)

  of_listing : (a : Address Step) (o : Object Levels) → listing_at accounts category f number (path_at a) ≡ Some o
      → AsksFor accounts category f number (Listing ∷ a) o
  of_listing a o e =
      let listed : Path → Found = λ d. listing_object accounts category (spelling (directory_of f.files number d)) (get f.files d) in
      let at = then_some listed (path_at a) o e in
      let by : (there : Option Node) → get f.files at.0 ≡ there
      → listing_object accounts category (spelling (directory_of f.files number at.0)) there ≡ Some o
      → AsksFor accounts category f number (Listing ∷ address_of at.0) o =
      λ there. elim there as (λ t. get f.files at.0 ≡ t
      → listing_object accounts category (spelling (directory_of f.files number at.0)) t ≡ Some o
      → AsksFor accounts category f number (Listing ∷ address_of at.0) o) [
        | None ↦ λ here got. absurd (none-some o got)
        | Some n ↦ λ here got. of_listed at.0 n.class n.content o here got
      ] in
      subst (λ (b : Address Step). AsksFor accounts category f number (Listing ∷ b) o) (sym (address_path a at.0 at.1))
      (by (get f.files at.0) refl at.2)

  -- the container of a process
  of_home : (a : Address Step) (o : Object Levels) → expected_home accounts category f number (process_at a) ≡ Some o
      → AsksFor accounts category f number a o
  of_home a o e =
      let at = then_some (λ (me : ProcName). home_object accounts category me (f.processes me)) (process_at a) o e in
      let there =
      then_some (λ (p : Process). home_object accounts category at.0 (Some p)) (f.processes at.0) o at.2 in
      subst (λ (b : Address Step). AsksFor accounts category f number b o) (sym (address_process a at.0 at.1))
      (subst (λ (x : Object Levels). AsksFor accounts category f number (home_address at.0) x) (same_Some _ o there.2) (AtHome at.0 there.0 there.1))

  -- its process segment
  of_status : (a : Address Step) (o : Object Levels) → expected_status accounts category f number (process_at a) ≡ Some o
      → AsksFor accounts category f number (Status ∷ a) o
  of_status a o e =
      let status : ProcName → Option Process → Found = λ me p. status_object accounts category (bytes_for accounts category f number me p) me p in
      let at = then_some (λ (me : ProcName). status me (f.processes me)) (process_at a) o e in
      let by : (there : Option Process) → f.processes at.0 ≡ there → status at.0 there ≡ Some o
      → AsksFor accounts category f number (Status ∷ home_address at.0) o =
      λ there. elim there as (λ t. f.processes at.0 ≡ t → status at.0 t ≡ Some o
      → AsksFor accounts category f number (Status ∷ home_address at.0) o) [
        | None ↦ λ here got. absurd (none-some o got)
        | Some p ↦ λ here got. subst (λ (x : Object Levels). AsksFor accounts category f number (Status ∷ home_address at.0) x) (same_Some _ o got)
            (AtStatus at.0 p here)
      ] in
      subst (λ (b : Address Step). AsksFor accounts category f number (Status ∷ b) o) (sym (address_process a at.0 at.1))
      (by (f.processes at.0) refl at.2)

  -- its internal container, while it runs
  of_inside : (a : Address Step) (o : Object Levels) → container_inside accounts category f number (process_at a) ≡ Some o
      → AsksFor accounts category f number (Inside ∷ a) o
  of_inside a o e =
      let at = then_some (λ (me : ProcName). inside_object accounts category me (f.processes me)) (process_at a) o e in
      let there = then_some (λ (p : Process). inside_object accounts category at.0 (Some p)) (f.processes at.0) o at.2 in
      subst (λ (b : Address Step). AsksFor accounts category f number (Inside ∷ b) o) (sym (address_process a at.0 at.1))
      (by at.0 there.0 there.1 there.0.exited refl there.2)
    where
      by : (me : ProcName) (p : Process) → f.processes me ≡ Some p → (exited : Option ℕ) → p.exited ≡ exited
          → (elim exited as (λ _. Found) [ None ↦ bare_container (guard_label category (inside_guard me p)) | Some n ↦ None ]) ≡ Some o
          → AsksFor accounts category f number (Inside ∷ home_address me) o
      by me p here None runs got =
          subst (λ (x : Object Levels). AsksFor accounts category f number (Inside ∷ home_address me) x) (same_Some _ o got) (AtInside me p here runs)
      by me p here (Some n) runs got = absurd (none-some o got)

  -- its thread, while it runs
  of_runner : (a : Address Step) (o : Object Levels) → thread_at accounts category f number (inside_at a) ≡ Some o
      → AsksFor accounts category f number (Runner ∷ a) o
  of_runner a o e =
      let at = then_some (λ (me : ProcName). thread_object accounts category me (f.processes me)) (inside_at a) o e in
      let there = then_some (λ (p : Process). thread_object accounts category at.0 (Some p)) (f.processes at.0) o at.2 in
      subst (λ (b : Address Step). AsksFor accounts category f number (Runner ∷ b) o) (sym (address_inside a at.0 at.1))
      (by at.0 there.0 there.1 there.0.exited refl there.2)
    where
      by : (me : ProcName) (p : Process) → f.processes me ≡ Some p → (exited : Option ℕ) → p.exited ≡ exited
          → (elim exited as (λ _. Found) [
            | None ↦ Some (thread_of (rights_label category (thread_rights accounts me p)) (rights_clearance category (thread_rights accounts me p)))
            | Some n ↦ None
          ]) ≡ Some o
          → AsksFor accounts category f number (Runner ∷ Inside ∷ home_address me) o
      by me p here None runs got =
          subst (λ (x : Object Levels). AsksFor accounts category f number (Runner ∷ Inside ∷ home_address me) x) (same_Some _ o got)
          (AtRunner me p here runs)
      by me p here (Some n) runs got = absurd (none-some o got)

  -- what is computed is asked for
  asks_for : (a : Address Step) (o : Object Levels) → expected accounts category f number a ≡ Some o → AsksFor accounts category f number a o
  asks_for [] o e = subst (λ (x : Object Levels). AsksFor accounts category f number [] x) (same_Some _ o e) AtRoot
  asks_for (Left q ∷ []) o e = AtLeft q o e
  asks_for (Left q ∷ x ∷ a) o e = absurd (none-some o e)
  asks_for (Slash ∷ a) o e = of_path (Slash ∷ a) o e
  asks_for (Listing ∷ a) o e = of_listing a o e
  asks_for (Named n ∷ a) o e = of_path (Named n ∷ a) o e
  asks_for (Home ∷ a) o e = of_home (Home ∷ a) o e
  asks_for (Status ∷ a) o e = of_status a o e
  asks_for (Inside ∷ a) o e = of_inside a o e
  asks_for (Runner ∷ a) o e = of_runner a o e
  asks_for (Child n ∷ a) o e = of_home (Child n ∷ a) o e

  -- a state whose objects are those that are computed has those that are asked for
  pub as_asked : (s : State) (naming : Naming Step) → AgreesAt same_step s naming (expected accounts category f number)
      → Agrees same_step s naming (AsksFor accounts category f number)
  as_asked s naming is = record {
    tree = is.tree;
    objects = λ a o. (λ e. asks_for a o (sym (is.objects a) ∙ e), λ asks. is.objects a ∙ asked_is asks);
    filled = λ a. is.named a ∙ ap is_present (sym (is.objects a)) ∙ bare_there (objects_at s.objects naming a);
  }

  -- and the other way round
  pub as_computed : (s : State) (naming : Naming Step) → Agrees same_step s naming (AsksFor accounts category f number)
      → AgreesAt same_step s naming (expected accounts category f number)
  as_computed s naming is = record {
    tree = is.tree;
    objects = objects;
    named = λ a. is.filled a ∙ sym (bare_there (objects_at s.objects naming a)) ∙ ap is_present (objects a);
  }
    where
      objects : (a : Address Step) → bare (objects_at s.objects naming a) ≡ expected accounts category f number a
      objects a = same_options (bare (objects_at s.objects naming a)) (expected accounts category f number a)
          (λ o e. asked_is ((is.objects a o).0 e)) (λ o e. (is.objects a o).1 (asks_for a o e))

-- the objects of a state that represents a flat state are those that are computed
pub agreement : {accounts : Accounts} {s : State} {f : Flat} (l : ObjectsMatch accounts s f)
    → AgreesAt same_step s l.naming (expected accounts l.category f l.naming.number)
agreement {accounts} {s} {f} l = as_computed accounts l.category f l.naming.number s l.naming l.agrees
