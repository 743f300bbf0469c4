-- The object to which a path leads has the number of the path's node.
use Rattle.std.specs.Prelude.{◌≡◌, ℕ, [], ◌∷◌, length, Some, option_and_then, refl}
use Rattle.std.proofs.Common.{ap, sym, ◌∙◌}
use Rattle.std.specs.FinMap as map
use Rattle.histar_flat.specs.Words.{Path}
use Rattle.histar_flat.specs.Accounts.{Accounts}
use Rattle.histar_flat.specs.Files.{get}
use Rattle.histar_flat.specs.Classes.{Class}
use Rattle.histar_flat.specs.FlatState.{Content, Flat, Node}
use Rattle.histar_flat.specs.FlatState.Content.{Dir, File}
use Rattle.histar_syscall.specs.KernelModel.{lent_bytes}
use Rattle.histar_object.specs.State.{State}
use Rattle.histar_layout.specs.Directory.{Entries}
use Rattle.histar_layout.specs.Listing.{object_of}
use Rattle.histar_layout.specs.declared.entry.Target.{Target}
use Rattle.histar_layout.specs.declared.entry.Target.TheVariants as targets
use Rattle.histar_layout.proofs.DirectoryLemmas.{same_directory}
use Rattle.histar_programs.specs.declared.roots.Roots.{Roots}
use Rattle.histar_programs.specs.Start.{roots_of}
use Rattle.histar_refinement.specs.Addresses.{address_of}
use Rattle.histar_refinement.specs.Addresses.Step.{Listing, Slash}
use Rattle.histar_refinement.specs.Directories.{directory_of, target_for}
use Rattle.histar_refinement.specs.Lines.{IsDirectoryAt}
use Rattle.histar_refinement.specs.Represents.{ObjectsMatch}
use Rattle.histar_refinement.proofs.DirectoryLaws.{get_directory}
use Rattle.histar_refinement.proofs.Lent.{shows_directory, held}
use Rattle.histar_refinement.proofs.LinesMatched.{directory_back}
use Rattle.histar_refinement.proofs.SameLines.{container_in, listing_in}
use Rattle.histar_readout.specs.Resolve.{LeadsTo}
use Rattle.histar_readout.proofs.TreeMatched.{led_to_directory, led_to_file}

module _ (accounts : Accounts) (s : State) (f : Flat) (l : ObjectsMatch accounts s f) where
  abbrev roots : Roots
  roots = roots_of (length accounts.users)

  -- a path that leads to a directory is that directory's
  led_directory : (d : Path) (c g : ℕ) → LeadsTo s roots d (targets.Directory c g) → IsDirectoryAt accounts s d c g
  led_directory [] c g led = (ap container_in led, ap listing_in led)
  led_directory (n ∷ d) c g led =
      let above = led_directory d led.0 led.1 led.3 in
      (led.0, led.1, led.2, above, held accounts s f l d led.0 led.1 led.2 above led.4, led.5)

  number_led : (q : Path) (class : Class) (content : Content) (target : Target)
      → target_for l.naming.number (q, record { class = class; content = content }) ≡ Some target
      → l.naming.number (address_of q) ≡ Some (object_of target)
  number_led q class Dir target leads =
      let to = led_to_directory (l.naming.number (address_of q)) (l.naming.number (Listing ∷ address_of q)) target leads in
      to.3 ∙ ap (λ (t : Target). Some (object_of t)) to.2
  number_led q class (File bytes) target leads =
      let to = led_to_file (l.naming.number (address_of q)) target leads in
      to.2 ∙ ap (λ (t : Target). Some (object_of t)) to.1

  -- the object to which a path leads has the number of the path's node
  pub numbered_at : (q : Path) (target : Target) → LeadsTo s roots q target → (node : Node) → get f.files q ≡ Some node
      → l.naming.number (address_of q) ≡ Some (object_of target)
  numbered_at [] target led node at = l.as_booted (Slash ∷ []) _ refl ∙ ap (λ (t : Target). Some (object_of t)) (sym led)
  numbered_at (n ∷ d) target led node at =
      let back = directory_back accounts s f l d led.0 led.1 (led_directory d led.0 led.1 led.3) in
      let dirs = same_directory (lent_bytes s led.1) (directory_of f.files l.naming.number d) led.2
      (shows_directory accounts s f l d led.1 back.0 back.2) led.4 in
      number_led (n ∷ d) node.class node.content target
      (sym (ap (option_and_then (λ (there : Node). target_for l.naming.number (n ∷ d, there))) at)
      ∙ sym (get_directory f.files l.naming.number d n) ∙ ap (λ (dir : Entries). map.get dir n) dirs ∙ led.5)
