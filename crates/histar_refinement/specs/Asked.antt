-- The objects that a flat state asks for at each address, but for their links.
use Rattle.std.specs.Prelude.{◌≡◌, ℕ, List, [], ◌∷◌, None, Some}
use Rattle.std.specs.FinSet as set
use Rattle.histar_flat.specs.Words.{Path, ProcName}
use Rattle.histar_flat.specs.Accounts.{Accounts}
use Rattle.histar_flat.specs.Files.{get}
use Rattle.histar_flat.specs.Classes.{Class, Process}
use Rattle.histar_flat.specs.FlatState.{Content, Flat}
use Rattle.histar_flat.specs.FlatState.Content.{Dir, File}
use Rattle.histar_level.specs.Levels.{Levels}
use Rattle.histar_object.specs.declared.objects.Kind.{Kind}
use Rattle.histar_object.specs.declared.objects.Kind.TheVariants.{Segment, Container}
use Rattle.histar_object.specs.declared.objects.Object.{Object}
use Rattle.histar_object.specs.Objects.{thread_of}
use Rattle.histar_container.specs.Tree.{Address}
use Rattle.histar_layout.specs.Directory.{spelling}
use Rattle.histar_refinement.specs.Categories.{Categories, booted}
use Rattle.histar_refinement.specs.Guards.{Guard, guard_label, rights_label, rights_clearance}
use Rattle.histar_refinement.specs.Labels.{boot_guard, class_guard, process_guard, inside_guard, thread_rights}
use Rattle.histar_refinement.specs.LeftByBoot.{left_by_boot}
use Rattle.histar_refinement.specs.Addresses.{Step, AddressNumbers, address_of, home_address}
use Rattle.histar_refinement.specs.Addresses.Step.{Left, Listing, Status, Inside, Runner}
use Rattle.histar_refinement.specs.Processes.{process_bytes}
use Rattle.histar_refinement.specs.Directories.{directory_of}

-- an object of this kind that is guarded in this way
abbrev pub guarded : Categories → Guard → Kind Levels → Object Levels
guarded category g kind = record { label = guard_label category g; kind = kind }

module _ (accounts : Accounts) (category : Categories) (f : Flat) (number : AddressNumbers) where
  -- at the path is this content, and it is guarded in this way, by its class
  abbrev pub IsGuarded : Path → Content → Guard → Type 0
  IsGuarded q content g =
      (class : Class) × (get f.files q ≡ Some (record { class = class; content = content })) × (class_guard accounts class ≡ Some g)

  -- the flat state asks for this object, but for its links, at this address
  pub data AsksFor : Address Step → Object Levels → Type 0 where
    -- the root container is guarded as what boot alone wrote
    AtRoot : AsksFor [] (guarded (booted accounts) boot_guard (Container set.empty))
    -- what boot left in the root container beside `/` and process 0 is as it was
    AtLeft : (q : ℕ) (o : Object Levels) → left_by_boot accounts q ≡ Some o → AsksFor (Left q ∷ []) o
    -- a file is a segment with its bytes
    AtFile : (q : Path) (bytes : List ℕ) (g : Guard) → IsGuarded q (File bytes) g → AsksFor (address_of q) (guarded category g (Segment bytes))
    -- a directory is a container
    AtDirectory : (d : Path) (g : Guard) → IsGuarded d Dir g → AsksFor (address_of d) (guarded category g (Container set.empty))
    -- a directory has a directory segment, which spells its entries
    AtListing : (d : Path) (g : Guard) → IsGuarded d Dir g
        → AsksFor (Listing ∷ address_of d) (guarded category g (Segment (spelling (directory_of f.files number d))))
    -- a process has a container
    AtHome : (me : ProcName) (p : Process) → f.processes me ≡ Some p
        → AsksFor (home_address me) (guarded category (process_guard me p) (Container set.empty))
    -- a process has a process segment, with its status
    AtStatus : (me : ProcName) (p : Process) → f.processes me ≡ Some p
        → AsksFor (Status ∷ home_address me) (guarded category (process_guard me p) (Segment (process_bytes f.processes number me p)))
    -- a process that has not exited has an internal container
    AtInside : (me : ProcName) (p : Process) → f.processes me ≡ Some p → p.exited ≡ None
        → AsksFor (Inside ∷ home_address me) (guarded category (inside_guard me p) (Container set.empty))
    -- a process that has not exited has a thread
    AtRunner : (me : ProcName) (p : Process) → f.processes me ≡ Some p → p.exited ≡ None
        → AsksFor (Runner ∷ Inside ∷ home_address me)
        (thread_of (rights_label category (thread_rights accounts me p)) (rights_clearance category (thread_rights accounts me p)))
