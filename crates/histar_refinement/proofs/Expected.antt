-- The object that a flat state asks for at each address, computed; `AsksFor` is the definition.
use Rattle.std.specs.Prelude.{ℕ, List, [], ◌∷◌, Option, None, Some, option_and_then, option_map}
use Rattle.std.specs.FinSet as set
use Rattle.histar_flat.specs.Words.{Path, ProcName}
use Rattle.histar_flat.specs.Accounts.{Accounts}
use Rattle.histar_flat.specs.Files.{get}
use Rattle.histar_flat.specs.Classes.{Process}
use Rattle.histar_flat.specs.FlatState.{Node, Content, Flat}
use Rattle.histar_flat.specs.FlatState.Content.{Dir, File}
use Rattle.histar_level.specs.Levels.{Levels}
use Rattle.histar_object.specs.declared.objects.Kind.{Kind}
use Rattle.histar_object.specs.declared.objects.Kind.TheVariants.{Segment, Container}
use Rattle.histar_object.specs.Objects.{thread_of}
use Rattle.histar_object.specs.State.{Found}
use Rattle.histar_container.specs.Tree.{Address}
use Rattle.histar_layout.specs.Directory.{spelling}
use Rattle.histar_programs.specs.Start.{segment}
use Rattle.histar_refinement.specs.Categories.{Categories, booted}
use Rattle.histar_refinement.specs.Guards.{Guard, guard_label, rights_label, rights_clearance}
use Rattle.histar_refinement.specs.Labels.{boot_guard, class_guard, process_guard, inside_guard, thread_rights}
use Rattle.histar_refinement.specs.LeftByBoot.{left_by_boot}
use Rattle.histar_refinement.specs.Addresses.{Step, AddressNumbers, if_at}
use Rattle.histar_refinement.specs.Addresses.Step.{Left, Slash, Listing, Named, Home, Status, Inside, Runner, Child}
use Rattle.histar_refinement.specs.Processes.{process_bytes}
use Rattle.histar_refinement.specs.Directories.{directory_of}

-- the path that the address is of, if it is that of a file or a directory
abbrev pub path_at : Address Step → Option Path
path_at (Slash ∷ a) = if_at [] a (Some [])
path_at (Named n ∷ a) = option_map (λ d. n ∷ d) (path_at a)
path_at a = None

-- the process that the address is of, if it is that of a process's container
abbrev pub process_at : Address Step → Option ProcName
process_at (Home ∷ a) = if_at [] a (Some [])
process_at (Child n ∷ a) = option_map (λ p. n ∷ p) (process_at a)
process_at a = None

-- the process that the address is of, if it is that of an internal container
abbrev pub inside_at : Address Step → Option ProcName
inside_at (Inside ∷ a) = process_at a
inside_at a = None

-- a container with this label, which links nothing
abbrev pub bare_container : Levels → Found
bare_container label = Some (record { label = label; kind = Container set.empty })

-- a directory is a container, and a file a segment with its bytes
abbrev pub content_kind : Content → Kind Levels
content_kind Dir = Container set.empty
content_kind (File bytes) = Segment bytes

module _ (accounts : Accounts) (category : Categories) where
  -- an object of this kind that is guarded in this way
  abbrev pub guarded_object : Kind Levels → Option Guard → Found
  guarded_object kind guard = option_map (λ (g : Guard). record { label = guard_label category g; kind = kind }) guard

  -- the object at a path, with the label of its class
  abbrev pub node_object : Option Node → Found
  node_object = option_and_then (λ there. guarded_object (content_kind there.content) (class_guard accounts there.class))

  -- the directory segment of a directory: it has the directory's label, and spells its entries; a file has none
  abbrev pub listing_object : List ℕ → Option Node → Found
  listing_object bytes = option_and_then (λ there. elim there.content [
    | Dir ↦ guarded_object (Segment bytes) (class_guard accounts there.class)
    | File
        old ↦ None
  ])

  -- the container of a process that is there
  abbrev pub home_object : ProcName → Option Process → Found
  home_object me = option_and_then (λ p. bare_container (guard_label category (process_guard me p)))

  -- the process segment of a process, with the container's label
  abbrev pub status_object : List ℕ → ProcName → Option Process → Found
  status_object bytes me = option_and_then (λ p. segment (guard_label category (process_guard me p)) bytes)

  -- the internal container of a process, which one that has exited has no more
  abbrev pub inside_object : ProcName → Option Process → Found
  inside_object me = option_and_then (λ p. elim p.exited [ None ↦ bare_container (guard_label category (inside_guard me p)) | Some n ↦ None ])

  -- the thread of a process, which one that has exited has no more
  abbrev pub thread_object : ProcName → Option Process → Found
  thread_object me = option_and_then (λ p. elim p.exited [
    | None ↦ Some (thread_of (rights_label category (thread_rights accounts me p)) (rights_clearance category (thread_rights accounts me p)))
    | Some n ↦ None
  ])

  module _ (f : Flat) (number : AddressNumbers) where
    -- the object at a path
    abbrev pub expected_node : Option Path → Found
    expected_node = option_and_then (λ q. node_object (get f.files q))

    -- the directory segment of the directory at a path
    abbrev pub listing_at : Option Path → Found
    listing_at = option_and_then (λ d. listing_object (spelling (directory_of f.files number d)) (get f.files d))

    -- the container of a process
    abbrev pub expected_home : Option ProcName → Found
    expected_home = option_and_then (λ me. home_object me (f.processes me))

    -- the bytes of the process segment of a process
    abbrev pub bytes_for : ProcName → Option Process → List ℕ
    bytes_for me None = []
    bytes_for me (Some p) = process_bytes f.processes number me p

    -- the process segment of a process
    abbrev pub expected_status : Option ProcName → Found
    expected_status = option_and_then (λ me. status_object (bytes_for me (f.processes me)) me (f.processes me))

    -- the internal container of a process
    abbrev pub container_inside : Option ProcName → Found
    container_inside = option_and_then (λ me. inside_object me (f.processes me))

    -- the thread of a process
    abbrev pub thread_at : Option ProcName → Found
    thread_at = option_and_then (λ me. thread_object me (f.processes me))

    -- What the flat state asks for at each address, but for links. The root container holds what boot left, `/` and process 0;
    -- a directory holds its directory segment and its entries; a process's container holds its process segment, the containers of its
    -- children and its internal container, and that holds the thread.
    abbrev pub expected : Address Step → Found
    expected [] = bare_container (guard_label (booted accounts) boot_guard)
    expected (Left q ∷ a) = if_at [] a (left_by_boot accounts q)
    expected (Slash ∷ a) = expected_node (path_at (Slash ∷ a))
    expected (Listing ∷ a) = listing_at (path_at a)
    expected (Named n ∷ a) = expected_node (path_at (Named n ∷ a))
    expected (Home ∷ a) = expected_home (process_at (Home ∷ a))
    expected (Status ∷ a) = expected_status (process_at a)
    expected (Inside ∷ a) = container_inside (process_at a)
    expected (Runner ∷ a) = thread_at (inside_at a)
    expected (Child n ∷ a) = expected_home (process_at (Child n ∷ a))
