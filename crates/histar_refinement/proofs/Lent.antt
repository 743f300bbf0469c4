-- In a state that is represented, the root container links no directory segment, no file and no process segment, so the owner of the kernel
-- sees their bytes.
use Rattle.std.proofs.Common.{◌≡◌, ℕ, ◌≤◌, Bool, true, false, cond, List, [], ◌∷◌, length, None, Some, refl, sym, ap, subst, ◌∙◌, arith}
use Rattle.std.specs.Prelude.{◌&&◌, nat_le, if◌then◌else◌}
use Rattle.std.proofs.lemmas.Bool.Decides.{nat_tests}
use Rattle.std.specs.FinSet as set
use Rattle.histar_flat.specs.Words.{Name, Path, ProcName}
use Rattle.histar_flat.specs.Accounts.{Accounts}
use Rattle.histar_flat.specs.FlatState.{Flat, is_dir_at}
use Rattle.histar_object.specs.Objects.{bytes_in, links_in}
use Rattle.histar_object.specs.State.{State}
use Rattle.histar_container.specs.Tree.{Address, is_one_below}
use Rattle.histar_rules.specs.Sound.{root_number}
use Rattle.histar_syscall.specs.KernelModel.{lent_bytes}
use Rattle.histar_layout.specs.Directory.{Entries, IsDirectory}
use Rattle.histar_refinement.specs.Addresses.{Step, same_step, address_of, home_address, first_left, table_number}
use Rattle.histar_refinement.specs.Addresses.Step.{Left, Slash, Listing, Named, Home, Status, Child}
use Rattle.histar_refinement.specs.Directories.{directory_of}
use Rattle.histar_refinement.specs.Lines.{IsDirectoryAt}
use Rattle.histar_refinement.specs.Represents.{ObjectsMatch}
use Rattle.histar_refinement.proofs.Agreement.{agreement}
use Rattle.histar_refinement.proofs.LinesMatched.{directory_back, holds_directory}

module _ (accounts : Accounts) (s : State) (f : Flat) (l : ObjectsMatch accounts s f) where
  -- the root container does not link what is two steps below it, or more
  not_in_root : (x y : Step) (a : Address Step) (q : ℕ) → l.naming.number (x ∷ y ∷ a) ≡ Some q
      → set.contains (links_in (s.objects root_number)) q ≡ false
  not_in_root x y a q at =
      (agreement l).tree.links root_number q [] ((agreement l).tree.addressed [] root_number (l.as_booted [] _ refl))
      ∙ ap (is_one_below same_step []) ((agreement l).tree.addressed (x ∷ y ∷ a) q at)

  lent_below : (x y : Step) (a : Address Step) (q : ℕ) → l.naming.number (x ∷ y ∷ a) ≡ Some q → lent_bytes s q ≡ bytes_in (s.objects q)
  lent_below x y a q at = ap (λ (b : Bool). if b then [] else bytes_in (s.objects q)) (not_in_root x y a q at)

  -- what boot left in the root container is linked there
  pub none_left : (q : ℕ) → first_left ≤ q → q ≤ table_number (length accounts.users) → lent_bytes s q ≡ []
  none_left q first last = ap (λ (b : Bool). if b then [] else bytes_in (s.objects q)) in_root
    where
      is_first : nat_le first_left q ≡ true
      is_first = grind (arith, nat_tests, first)

      is_last : nat_le q (table_number (length accounts.users)) ≡ true
      is_last = grind (arith, nat_tests, last)

      numbered : l.naming.number (Left q ∷ []) ≡ Some q
      numbered = l.as_booted (Left q ∷ []) q (λ i. cond (is_first i && is_last i) (Some q) None)

      in_root : set.contains (links_in (s.objects root_number)) q ≡ true
      in_root =
          (agreement l).tree.links root_number q [] ((agreement l).tree.addressed [] root_number (l.as_booted [] _ refl))
          ∙ ap (is_one_below same_step []) ((agreement l).tree.addressed (Left q ∷ []) q numbered)

  -- the bytes of a directory segment
  pub lent_listing : (d : Path) (g : ℕ) → l.naming.number (Listing ∷ address_of d) ≡ Some g → lent_bytes s g ≡ bytes_in (s.objects g)
  lent_listing [] g at = lent_below Listing Slash [] g at
  lent_listing (n ∷ d) g at = lent_below Listing (Named n) (address_of d) g at

  -- the bytes of what a directory lists
  pub lent_entry : (n : Name) (d : Path) (q : ℕ) → l.naming.number (address_of (n ∷ d)) ≡ Some q → lent_bytes s q ≡ bytes_in (s.objects q)
  lent_entry n [] q at = lent_below (Named n) Slash [] q at
  lent_entry n (m ∷ d) q at = lent_below (Named n) (Named m) (address_of d) q at

  -- the bytes of a process segment
  pub lent_status : (me : ProcName) (g : ℕ) → l.naming.number (Status ∷ home_address me) ≡ Some g → lent_bytes s g ≡ bytes_in (s.objects g)
  lent_status [] g at = lent_below Status Home [] g at
  lent_status (n ∷ me) g at = lent_below Status (Child n) (home_address me) g at

  -- the owner of the kernel sees a directory's segment as it is
  pub shows_directory : (d : Path) (g : ℕ) → is_dir_at f d ≡ true → l.naming.number (Listing ∷ address_of d) ≡ Some g
      → IsDirectory (lent_bytes s g) (directory_of f.files l.naming.number d)
  shows_directory d g is at =
      subst (λ (bytes : List ℕ). IsDirectory bytes (directory_of f.files l.naming.number d)) (sym (lent_listing d g at))
      (holds_directory accounts s f l d g is at)

  -- what is listed in the segment of a directory that the segments lead to, and what the owner sees listed there, is the same
  pub seen : (d : Path) (c g : ℕ) (dir : Entries) → IsDirectoryAt accounts s d c g → IsDirectory (bytes_in (s.objects g)) dir
      → IsDirectory (lent_bytes s g) dir
  seen d c g dir found is =
      subst (λ (bytes : List ℕ). IsDirectory bytes dir) (sym (lent_listing d g (directory_back accounts s f l d c g found).2)) is

  pub held : (d : Path) (c g : ℕ) (dir : Entries) → IsDirectoryAt accounts s d c g → IsDirectory (lent_bytes s g) dir
      → IsDirectory (bytes_in (s.objects g)) dir
  held d c g dir found is =
      subst (λ (bytes : List ℕ). IsDirectory bytes dir) (lent_listing d g (directory_back accounts s f l d c g found).2) is
