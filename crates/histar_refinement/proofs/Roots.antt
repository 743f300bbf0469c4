-- The addresses of paths and of processes, and what two flat states ask for at them.
use Rattle.std.proofs.Common.{◌≡◌, ℕ, [], ◌∷◌, Option, None, Some, refl, sym, ap, ◌∙◌}
use Rattle.std.specs.Prelude.{option_map, cond}
use Rattle.std.specs.List.{filter_map}
use Rattle.std.specs.FinMap as map
use Rattle.std.proofs.lemmas.Option.{none-some, same_Some}
use Rattle.histar_flat.specs.Words.{Name, Path, ProcName}
use Rattle.histar_base.specs.Paths.{same_path}
use Rattle.histar_flat.specs.Files.{get}
use Rattle.histar_container.specs.Tree.{Address}
use Rattle.histar_layout.specs.declared.entry.Target.{Target}
use Rattle.histar_layout.specs.declared.entry.Target.TheVariants as targets
use Rattle.histar_flat.specs.Accounts.{Accounts}
use Rattle.histar_flat.specs.FlatState.{Node, Content, Flat}
use Rattle.histar_flat.specs.FlatState.Content.{Dir, File}
use Rattle.histar_refinement.specs.Categories.{Categories}
use Rattle.histar_refinement.specs.Addresses.{Step, AddressNumbers, address_of, home_address}
use Rattle.histar_refinement.proofs.Expected.{path_at, process_at, inside_at}
use Rattle.histar_refinement.specs.Addresses.Step.{Left, Slash, Listing, Named, Home, Status, Inside, Runner, Child}
use Rattle.histar_refinement.specs.Directories.{both_numbers, target_for, target_in, directory_of}
use Rattle.histar_refinement.proofs.Expected.{node_object, home_object, inside_object, thread_object, expected_node, listing_at, expected_home}
use Rattle.histar_refinement.proofs.Expected.{expected_status, container_inside, thread_at, expected}

-- a path's address is that of the path
pub path_address : (q : Path) → path_at (address_of q) ≡ Some q
path_address [] = refl
path_address (n ∷ d) = ap (option_map (λ above. n ∷ above)) (path_address d)

-- the path of an entry, by that of the address above
named_by : (n : Name) (a : Address Step) (q : Path) (p : Option Path) → option_map (λ d. n ∷ d) p ≡ Some q
    → ((d : Path) → p ≡ Some d → a ≡ address_of d) → Named n ∷ a ≡ address_of q
named_by n a q None e above = absurd (none-some q e)
named_by n a q (Some d) e above = ap (λ (b : Address Step). Named n ∷ b) (above d refl) ∙ ap address_of (same_Some (n ∷ d) q e)

-- an address that has a path is that path's
pub address_path : (a : Address Step) (q : Path) → path_at a ≡ Some q → a ≡ address_of q
address_path [] q e = absurd (none-some q e)
address_path (Left k ∷ a) q e = absurd (none-some q e)
address_path (Slash ∷ []) q e = ap address_of (same_Some [] q e)
address_path (Slash ∷ x ∷ a) q e = absurd (none-some q e)
address_path (Listing ∷ a) q e = absurd (none-some q e)
address_path (Named n ∷ a) q e = named_by n a q (path_at a) e (address_path a)
address_path (Home ∷ a) q e = absurd (none-some q e)
address_path (Status ∷ a) q e = absurd (none-some q e)
address_path (Inside ∷ a) q e = absurd (none-some q e)
address_path (Runner ∷ a) q e = absurd (none-some q e)
address_path (Child n ∷ a) q e = absurd (none-some q e)

-- a process's address is that of the process
pub process_address : (me : ProcName) → process_at (home_address me) ≡ Some me
process_address [] = refl
process_address (n ∷ p) = ap (option_map (λ above. n ∷ above)) (process_address p)

child_by : (n : ℕ) (a : Address Step) (q : ProcName) (p : Option ProcName) → option_map (λ d. n ∷ d) p ≡ Some q
    → ((d : ProcName) → p ≡ Some d → a ≡ home_address d) → Child n ∷ a ≡ home_address q
child_by n a q None e above = absurd (none-some q e)
child_by n a q (Some d) e above = ap (λ (b : Address Step). Child n ∷ b) (above d refl) ∙ ap home_address (same_Some (n ∷ d) q e)

-- an address that has a process is that process's
pub address_process : (a : Address Step) (q : ProcName) → process_at a ≡ Some q → a ≡ home_address q
address_process [] q e = absurd (none-some q e)
address_process (Left k ∷ a) q e = absurd (none-some q e)
address_process (Slash ∷ a) q e = absurd (none-some q e)
address_process (Listing ∷ a) q e = absurd (none-some q e)
address_process (Named n ∷ a) q e = absurd (none-some q e)
address_process (Home ∷ []) q e = ap home_address (same_Some [] q e)
address_process (Home ∷ x ∷ a) q e = absurd (none-some q e)
address_process (Status ∷ a) q e = absurd (none-some q e)
address_process (Inside ∷ a) q e = absurd (none-some q e)
address_process (Runner ∷ a) q e = absurd (none-some q e)
address_process (Child n ∷ a) q e = child_by n a q (process_at a) e (address_process a)

-- two processes of one address are the same
pub same_home : (p q : ProcName) → home_address p ≡ home_address q → p ≡ q
same_home p q e = same_Some p q (sym (process_address p) ∙ ap process_at e ∙ process_address q)

-- the address of an internal container
pub address_inside : (a : Address Step) (q : ProcName) → inside_at a ≡ Some q → a ≡ Inside ∷ home_address q
address_inside [] q e = absurd (none-some q e)
address_inside (Left k ∷ a) q e = absurd (none-some q e)
address_inside (Slash ∷ a) q e = absurd (none-some q e)
address_inside (Listing ∷ a) q e = absurd (none-some q e)
address_inside (Named n ∷ a) q e = absurd (none-some q e)
address_inside (Home ∷ a) q e = absurd (none-some q e)
address_inside (Status ∷ a) q e = absurd (none-some q e)
address_inside (Inside ∷ a) q e = ap (λ (b : Address Step). Inside ∷ b) (address_process a q e)
address_inside (Runner ∷ a) q e = absurd (none-some q e)
address_inside (Child n ∷ a) q e = absurd (none-some q e)

-- equal functions give equal lists
same_filter_map : {A B : Type 0} (f g : A → Option B) → ((x : A) → f x ≡ g x) → f ≡ g
same_filter_map f g same = λ i x. same x i

-- a directory is determined by the numbers at the addresses of paths
pub same_directory : (f : Flat) (number numbers : AddressNumbers)
    → ((p : Path) → number (address_of p) ≡ numbers (address_of p))
    → ((p : Path) → number (Listing ∷ address_of p) ≡ numbers (Listing ∷ address_of p))
    → (d : Path) → directory_of f.files number d ≡ directory_of f.files numbers d
same_directory f number numbers here listing d =
    ap (λ (t : (Path × Node) → Option (Name × Target)). map.from_entries (filter_map t f.files.entries))
    (same_filter_map (target_in number d) (target_in numbers d) (λ e. by e.0 e.1 e.0))
  where
    target_same : (p : Path) (there : Node) → target_for number (p, there) ≡ target_for numbers (p, there)
    target_same p there =
        elim there.content as (λ (c : Content). target_for number (p, record { class = there.class; content = c })
        ≡ target_for numbers (p, record { class = there.class; content = c })) [
          | Dir ↦ λ i. both_numbers (here p i) (listing p i)
          | File bytes ↦ ap (option_map targets.File) (here p)
        ]

    by : (p : Path) (there : Node) (q : Path)
        → (elim q as (λ _. Option (Name × Target)) [
          | [] ↦ None
          | n
              ∷ above ↦ cond (same_path d above)
              (option_map (λ (target : Target). (n, target)) (target_for number (p, there))) None
        ])
        ≡ (elim q as (λ _. Option (Name × Target)) [
          | [] ↦ None
          | n
              ∷ above ↦ cond (same_path d above)
              (option_map (λ (target : Target). (n, target)) (target_for numbers (p, there))) None
        ])
    by p there [] = refl
    by p there (n ∷ above) =
        ap (λ (t : Option Target). cond (same_path d above) (option_map (λ (target : Target). (n, target)) t) None)
        (target_same p there)

module _ (accounts : Accounts) (category other : Categories) (f g : Flat) (number numbers : AddressNumbers) where
  -- the flat states ask for the same at the five kinds of places
  pub record AsksAlike : Type 0 where
    pub at_path : (q : Path) → node_object accounts category (get f.files q) ≡ node_object accounts other (get g.files q)
    pub in_directory : (d : Path) → listing_at accounts category f number (Some d) ≡ listing_at accounts other g numbers (Some d)

  -- two flat states ask for the same at the addresses of a process
  pub record AsksAlikeOf (a : Address Step) : Type 0 where
    pub home : (q : ProcName) → a ≡ home_address q → home_object accounts category q (f.processes q) ≡ home_object accounts other q (g.processes q)
    pub status : (q : ProcName) → a ≡ Status ∷ home_address q
        → expected_status accounts category f number (Some q) ≡ expected_status accounts other g numbers (Some q)
    pub inside : (q : ProcName) → a ≡ Inside ∷ home_address q
        → inside_object accounts category q (f.processes q) ≡ inside_object accounts other q (g.processes q)
    pub runner : (q : ProcName) → a ≡ Runner ∷ Inside ∷ home_address q
        → thread_object accounts category q (f.processes q) ≡ thread_object accounts other q (g.processes q)

  -- the flat states ask for the same at one address
  pub record AsksAlikeAt (a : Address Step) : Type 0 where
    pub at_path : (q : Path) → a ≡ address_of q → node_object accounts category (get f.files q) ≡ node_object accounts other (get g.files q)
    pub in_directory : (d : Path) → a ≡ Listing ∷ address_of d
        → listing_at accounts category f number (Some d) ≡ listing_at accounts other g numbers (Some d)

  -- two flat states ask for the same at the address
  pub asked_alike_at : (a : Address Step) → AsksAlikeAt a → AsksAlikeOf a
      → expected accounts category f number a ≡ expected accounts other g numbers a
  asked_alike_at [] files of = refl
  asked_alike_at (Left k ∷ a) files of = refl
  asked_alike_at (Slash ∷ a) files of = by (path_at (Slash ∷ a)) refl
    where
      by : (q : Option Path) → path_at (Slash ∷ a) ≡ q → expected_node accounts category f number q ≡ expected_node accounts other g numbers q
      by None is = refl
      by (Some q) is = files.at_path q (address_path (Slash ∷ a) q is)
  asked_alike_at (Listing ∷ a) files of = by (path_at a) refl
    where
      by : (q : Option Path) → path_at a ≡ q → listing_at accounts category f number q ≡ listing_at accounts other g numbers q
      by None is = refl
      by (Some d) is = files.in_directory d (ap (λ (b : Address Step). Listing ∷ b) (address_path a d is))
  asked_alike_at (Named n ∷ a) files of = by (path_at (Named n ∷ a)) refl
    where
      by : (q : Option Path) → path_at (Named n ∷ a) ≡ q → expected_node accounts category f number q ≡ expected_node accounts other g numbers q
      by None is = refl
      by (Some q) is = files.at_path q (address_path (Named n ∷ a) q is)
  asked_alike_at (Home ∷ a) files of = by (process_at (Home ∷ a)) refl
    where
      by : (q : Option ProcName) → process_at (Home ∷ a) ≡ q → expected_home accounts category f number q ≡ expected_home accounts other g numbers q
      by None is = refl
      by (Some q) is = of.home q (address_process (Home ∷ a) q is)
  asked_alike_at (Status ∷ a) files of = by (process_at a) refl
    where
      by : (q : Option ProcName) → process_at a ≡ q → expected_status accounts category f number q ≡ expected_status accounts other g numbers q
      by None is = refl
      by (Some q) is = of.status q (ap (λ (b : Address Step). Status ∷ b) (address_process a q is))
  asked_alike_at (Inside ∷ a) files of = by (process_at a) refl
    where
      by : (q : Option ProcName) → process_at a ≡ q → container_inside accounts category f number q ≡ container_inside accounts other g numbers q
      by None is = refl
      by (Some q) is = of.inside q (ap (λ (b : Address Step). Inside ∷ b) (address_process a q is))
  asked_alike_at (Runner ∷ a) files of = by (inside_at a) refl
    where
      by : (q : Option ProcName) → inside_at a ≡ q → thread_at accounts category f number q ≡ thread_at accounts other g numbers q
      by None is = refl
      by (Some q) is = of.runner q (ap (λ (b : Address Step). Runner ∷ b) (address_inside a q is))
  asked_alike_at (Child n ∷ a) files of = by (process_at (Child n ∷ a)) refl
    where
      by : (q : Option ProcName) → process_at (Child n ∷ a) ≡ q
          → expected_home accounts category f number q ≡ expected_home accounts other g numbers q
      by None is = refl
      by (Some q) is = of.home q (address_process (Child n ∷ a) q is)

  pub asked_alike : AsksAlike → (a : Address Step) → AsksAlikeOf a → expected accounts category f number a ≡ expected accounts other g numbers a
  asked_alike files a of = asked_alike_at a (record { at_path = λ q e. files.at_path q; in_directory = λ d e. files.in_directory d }) of

-- what is asked for at the addresses of a path
module _ (accounts : Accounts) (category : Categories) (f : Flat) (number : AddressNumbers) where
  pub asked_path : (q : Path) → expected accounts category f number (address_of q) ≡ node_object accounts category (get f.files q)
  asked_path [] = refl
  asked_path (n ∷ d) = ap (expected_node accounts category f number) (path_address (n ∷ d))

  pub asked_listing : (d : Path) → expected accounts category f number (Listing ∷ address_of d) ≡ listing_at accounts category f number (Some d)
  asked_listing d = ap (listing_at accounts category f number) (path_address d)

-- what is asked for at a process's addresses
module _ (accounts : Accounts) (category : Categories) (f : Flat) (number : AddressNumbers) (me : ProcName) where
  pub asked_home : expected accounts category f number (home_address me) ≡ home_object accounts category me (f.processes me)
  asked_home = by me
    where
      by : (q : ProcName) → expected accounts category f number (home_address q) ≡ home_object accounts category q (f.processes q)
      by [] = refl
      by (n ∷ p) = ap (expected_home accounts category f number) (process_address (n ∷ p))

  pub asked_status : expected accounts category f number (Status ∷ home_address me) ≡ expected_status accounts category f number (Some me)
  asked_status = ap (expected_status accounts category f number) (process_address me)

  pub asked_inside : expected accounts category f number (Inside ∷ home_address me) ≡ inside_object accounts category me (f.processes me)
  asked_inside = ap (container_inside accounts category f number) (process_address me)

  pub asked_runner : expected accounts category f number (Runner ∷ Inside ∷ home_address me) ≡ thread_object accounts category me (f.processes me)
  asked_runner = ap (thread_at accounts category f number) (process_address me)
