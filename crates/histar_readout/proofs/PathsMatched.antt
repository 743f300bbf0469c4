-- In a state that represents a flat state a path leads to the node that the flat state has there, and otherwise nowhere.
use Rattle.std.specs.Prelude.{◌≡◌, ℕ, [], ◌∷◌, length, Option, Some, None, MatchOption, option_and_then, refl}
use Rattle.std.proofs.Common.{ap, sym, ◌∙◌}
use Rattle.std.proofs.lemmas.Option.{none-some, same_Some}
use Rattle.std.specs.FinMap as map
use Rattle.histar_flat.specs.Words.{Path}
use Rattle.histar_flat.specs.Accounts.{Accounts}
use Rattle.histar_flat.specs.Files.{get}
use Rattle.histar_flat.specs.Classes.{Class}
use Rattle.histar_flat.specs.FlatState.{Flat, Node, Content, is_dir, bytes_of}
use Rattle.histar_flat.specs.FlatState.Content.{Dir, File}
use Rattle.histar_syscall.specs.KernelModel.{lent_bytes}
use Rattle.histar_object.specs.State.{State}
use Rattle.histar_layout.specs.Directory.{Entries}
use Rattle.histar_layout.specs.Listing.{is_directory}
use Rattle.histar_layout.specs.declared.entry.Target.{Target}
use Rattle.histar_layout.specs.declared.entry.Target.TheVariants as targets
use Rattle.histar_layout.proofs.DirectoryLemmas.{same_directory}
use Rattle.histar_programs.specs.declared.roots.Roots.{Roots}
use Rattle.histar_programs.specs.Start.{roots_of}
use Rattle.histar_refinement.specs.Addresses.{address_of}
use Rattle.histar_refinement.specs.Addresses.Step.{Listing}
use Rattle.histar_refinement.specs.Directories.{target_for, directory_of}
use Rattle.histar_refinement.specs.Represents.{ObjectsMatch}
use Rattle.histar_refinement.specs.Lines.{IsDirectoryAt}
use Rattle.histar_refinement.proofs.DirectoryLaws.{get_directory}
use Rattle.histar_refinement.proofs.LinesMatched.{leads_to, node_there, directory_found, directory_back}
use Rattle.histar_refinement.proofs.Lent.{shows_directory, seen, held}
use Rattle.histar_refinement.proofs.Making.{entry_leads}
use Rattle.histar_refinement.proofs.SameLines.{container_in, listing_in}
use Rattle.histar_refinement.proofs.Agreeing.{some_unless_none, root_is_dir, parent_is_dir}
use Rattle.histar_readout.specs.Resolve.{LeadsTo, LeadsNowhere}
use Rattle.histar_readout.specs.TreeEntries.{file_bytes_at}
use Rattle.histar_readout.specs.Laws.{LeadsToNode, FlatStatesAreResolved}
use Rattle.histar_readout.proofs.TreeMatched.{led_to_directory, led_to_file, slash_leads, bytes_held}

module _ (accounts : Accounts) (s : State) where
  -- the places of `/` and of process 0
  abbrev roots : Roots
  roots = roots_of (length accounts.users)

  module _ (f : Flat) (l : ObjectsMatch accounts s f) where
    -- a path leads to the container and the directory segment of a directory
    directory_led : (d : Path) (c g : ℕ) → IsDirectoryAt accounts s d c g → LeadsTo s roots d (targets.Directory c g)
    directory_led [] c g at = λ i. targets.Directory (at.0 i) (at.1 i)
    directory_led (n ∷ d) c g at =
        (at.0, at.1, at.2, directory_led d at.0 at.1 at.3, seen accounts s f l d at.0 at.1 at.2 at.3 at.4, at.5)

    -- a path that leads to a directory is that directory's
    led_directory : (d : Path) (c g : ℕ) → LeadsTo s roots d (targets.Directory c g) → IsDirectoryAt accounts s d c g
    led_directory [] c g led = (ap container_in led, ap listing_in led)
    led_directory (n ∷ d) c g led =
        let above = led_directory d led.0 led.1 led.3 in
        (led.0, led.1, led.2, above, held accounts s f l d led.0 led.1 led.2 above led.4, led.5)

    -- the target of a node of the flat state, if it is there
    abbrev target_at : Path → Option Node → Option Target
    target_at q o = option_and_then (λ (there : Node). target_for l.naming.number (q, there)) o

    -- where the flat state has no node, a path leads nowhere
    nothing_led : (q : Path) → get f.files q ≡ None → LeadsNowhere s roots q
    nothing_led [] at target led = none-some _ (sym at ∙ (root_is_dir accounts s f l).1)
    nothing_led (n ∷ d) at target led =
        let above = directory_back accounts s f l d led.0 led.1 (led_directory d led.0 led.1 led.3) in
        let same =
        same_directory (lent_bytes s led.1) (directory_of f.files l.naming.number d) led.2
        (shows_directory accounts s f l d led.1 above.0 above.2) led.4 in
        none-some target (sym (ap (target_at (n ∷ d)) at) ∙ sym (get_directory f.files l.naming.number d n)
        ∙ ap (λ (dir : Entries). map.get dir n) same ∙ led.5)

    -- where it has a node, the path leads to the node's target
    node_led : (q : Path) (node : Node) → get f.files q ≡ Some node → (target : Target)
        → target_for l.naming.number (q, node) ≡ Some target → LeadsTo s roots q target
    node_led [] node at target leads =
        let root = root_is_dir accounts s f l in
        same_Some target _ (sym leads ∙ ap (target_at []) (sym at ∙ root.1) ∙ slash_leads accounts s f l root.0)
    node_led (n ∷ d) node at target leads =
        let dir = parent_is_dir accounts s f l n d node at in
        let parent = node_there (get f.files d) dir in
        let to = some_unless_none (target_for l.naming.number (d, parent.0)) (entry_leads accounts s f l d parent.0 parent.1) in
        let numbers =
        led_to_directory (l.naming.number (address_of d)) (l.naming.number (Listing ∷ address_of d)) to.0
        (sym (leads_to l.naming.number d (get f.files d) dir) ∙ ap (target_at d) parent.1 ∙ to.1) in (
          numbers.0,
          numbers.1,
          directory_of f.files l.naming.number d,
          directory_led d numbers.0 numbers.1 (directory_found accounts s f l d numbers.0 numbers.1 dir numbers.3 numbers.4),
          shows_directory accounts s f l d numbers.1 dir numbers.4,
          get_directory f.files l.naming.number d n ∙ ap (target_at (n ∷ d)) at ∙ leads,
        )

    module _ (q : Path) (class : Class) where
      -- the target is of the same kind, and has the same bytes
      same_kind : (content : Content) (target : Target)
          → target_for l.naming.number (q, record { class = class; content = content }) ≡ Some target
          → is_directory target ≡ is_dir (record { class = class; content = content })
      same_kind Dir target leads =
          ap is_directory (sym (led_to_directory (l.naming.number (address_of q)) (l.naming.number (Listing ∷ address_of q)) target
          leads).2)
      same_kind (File bytes) target leads = ap is_directory (sym (led_to_file (l.naming.number (address_of q)) target leads).1)

      same_bytes : (content : Content) → get f.files q ≡ Some (record { class = class; content = content })
          → (target : Target)
          → target_for l.naming.number (q, record { class = class; content = content }) ≡ Some target
          → file_bytes_at s target ≡ bytes_of (Some (record { class = class; content = content }))
      same_bytes Dir at target leads =
          ap (file_bytes_at s) (sym (led_to_directory (l.naming.number (address_of q)) (l.naming.number (Listing ∷ address_of q)) target
          leads).2)
      same_bytes (File bytes) at target leads =
          let to = led_to_file (l.naming.number (address_of q)) target leads in
          ap (file_bytes_at s) (sym to.1) ∙ bytes_held accounts s f l q class bytes at to.0 to.2

    -- so a path leads to a file or a directory like the node
    leads_to_node : (q : Path) (node : Node) → get f.files q ≡ Some node → LeadsToNode s roots q node
    leads_to_node q node at =
        let to = some_unless_none (target_for l.naming.number (q, node)) (entry_leads accounts s f l q node at) in
        record {
          target = to.0;
          leads = node_led q node at to.0 to.1;
          kind = same_kind q node.class node.content to.0 to.1;
          bytes = same_bytes q node.class node.content at to.0 to.1;
        }

    resolved_as : (q : Path) (o : Option Node) → get f.files q ≡ o → MatchOption o (LeadsNowhere s roots q) (LeadsToNode s roots q)
    resolved_as q None at = nothing_led q at
    resolved_as q (Some node) at = leads_to_node q node at

-- in a state that represents a flat state a path leads to the node that the flat state has there, and otherwise nowhere
pub flat_states_are_resolved : FlatStatesAreResolved
flat_states_are_resolved accounts s f represents q = resolved_as accounts s f represents.matched q (get f.files q) refl
