-- Where a path leads, with the rights of a process there, name by name.
use Rattle.std.specs.Prelude.{◌≡◌, ℕ, ◌-◌, ◌≤◌, ◌<◌, List, [], ◌∷◌, length, get_or, take, drop, Option, None, Some, Ok, Err}
use Rattle.std.proofs.Common.{arith, sym, ap, ◌∙◌, subst}
use Rattle.std.proofs.lemmas.List.{take_all}
use Rattle.std.proofs.lemmas.Option.{none-some}
use Rattle.std.specs.FinMap as map
use Rattle.histar_flat.specs.Words.{Name, Path}
use Rattle.histar_syscall.specs.KernelModel.{lent_bytes}
use Rattle.histar_object.specs.State.{State}
use Rattle.histar_layout.specs.Checked.{IsLookedUp}
use Rattle.histar_layout.specs.Directory.{Entries, IsDirectory}
use Rattle.histar_layout.specs.declared.checked.NotADirectory.{NotADirectory}
use Rattle.histar_layout.specs.declared.entry.Target.{Target}
use Rattle.histar_layout.specs.declared.entry.Target.TheVariants.{File, Directory}
use Rattle.histar_layout.proofs.DirectoryLemmas.{same_directory}
use Rattle.histar_programs.specs.declared.roots.Roots.{Roots}
use Rattle.histar_readout.specs.Resolve.{LeadsNowhere, LeadsTo}
use Rattle.histar_readout.proofs.OneTarget.{paths_lead_to_one_target}
use Rattle.histar_cells.specs.declared.cells.Cell.{Cell}
use Rattle.histar_cells.specs.declared.one_path.Spot.{Spot}
use Rattle.histar_cells.specs.OnePath.{FindsEntry, FindsSpot, Lists, Reaches, spot_below}

-- ---- one entry

-- a file lists nothing
pub none_in_file : (s : State) (above : Target) (name : Name) (file : ℕ) → above ≡ File file → FindsEntry s above name None
none_in_file s above name file is target lists = subst (λ (t : Target). Lists s t name target) is lists

module _ (s : State) (above : Target) (name : Name) (container listing : ℕ) (is : above ≡ Directory container listing) (bytes : List ℕ)
    (read : bytes ≡ lent_bytes s listing) where
  abbrev Listed : Type 0
  Listed = (dir : Entries) × IsDirectory bytes dir

  -- a name that a directory lists is listed in its segment
  in_segment : (target : Target) → Lists s above name target → (dir : Entries) × IsDirectory bytes dir × (map.get dir name ≡ Some target)
  in_segment target lists =
      let here = subst (λ (t : Target). Lists s t name target) is lists in
      (here.0, subst (λ (b : List ℕ). IsDirectory b here.0) (sym read) here.1, here.2)

  -- a segment that holds no directory lists nothing
  pub none_unlisted : (fault : NotADirectory) → IsLookedUp bytes name (Err fault) → FindsEntry s above name None
  none_unlisted fault none target lists = let here = in_segment target lists in none here.0 here.1

  -- the entry that a directory lists is found
  pub entry_found : (found : Option Target) → IsLookedUp bytes name (Ok found) → FindsEntry s above name found
  entry_found None looked = λ target lists.
      let here = in_segment target lists in
      let same = same_directory bytes looked.0 here.0 looked.1 here.1 in
      none-some target (looked.2 ∙ ap (λ (dir : Entries). map.get dir name) same ∙ here.2)
  entry_found (Some target) looked =
      subst (λ (t : Target). Lists s t name target) (sym is) (looked.0, subst (λ (b : List ℕ). IsDirectory b looked.0) read looked.1, sym looked.2)

-- ---- one name after another

module _ (s : State) (roots : Roots) where
  -- a path leads to the object with which its last name is listed
  pub led_on : (name : Name) (d : Path) (above target : Target) → LeadsTo s roots d above → Lists s above name target
      → LeadsTo s roots (name ∷ d) target
  led_on name d (File file) target leads lists = absurd lists
  led_on name d (Directory container listing) target leads lists = (container, listing, lists.0, leads, lists.1, lists.2)

  -- a path leads to its spot
  pub leads_there : (start : Cell) (q : Path) (spot : Spot) → Reaches s roots start q spot → LeadsTo s roots q spot.target
  leads_there start [] spot is = ap (λ (x : Spot). x.target) is
  leads_there start (name ∷ d) spot is =
      subst (LeadsTo s roots (name ∷ d)) (sym (ap (λ (x : Spot). x.target) is.4))
      (led_on name d is.0.target is.1 (leads_there start d is.0 is.2) is.3)

  -- a path that leads on is listed where the path above leads
  pub listed_on : (name : Name) (d : Path) (above target : Target) → LeadsTo s roots d above → LeadsTo s roots (name ∷ d) target
      → Lists s above name target
  listed_on name d above target leads led =
      subst (λ (t : Target). Lists s t name target) (paths_lead_to_one_target s roots d (Directory led.0 led.1) above led.3 leads)
      (led.2, led.4, led.5)

-- the names of a path above its last one
abbrev pub names_above : Path → Path
names_above q = take (length q - 1) (drop 1 q)

-- a path is its last name and the names above
pub parts : (q : Path) (name : Name) → 1 ≤ length q → name ≡ get_or q 0 name → name ∷ names_above q ≡ q
parts [] name some first = absurd (omega arith)
parts (n ∷ d) name some first =
    let whole : take (length (n ∷ d) - 1) d ≡ d = take_all (length (n ∷ d) - 1) d (omega arith) in
    λ i. first i ∷ whole i

module _ (s : State) (roots : Roots) (start : Cell) (q : Path) where
  -- `/` is where boot left it
  pub slash_found : length q < 1 → (spot : Spot) → spot ≡ spot_below s start (Directory roots.slash.container roots.slash.listing)
      → FindsSpot s roots start q (Some spot)
  unfolding FindsSpot
  slash_found none spot is = by q none
    where
      by : (p : Path) → length p < 1 → Reaches s roots start p spot
      by [] none = is
      by (n ∷ d) none = absurd (omega arith)

  module _ (name : Name) (some : 1 ≤ length q) (first : name ≡ get_or q 0 name) where
    abbrev above : Path
    above = names_above q

    -- a path below one that leads nowhere leads nowhere
    pub nowhere_above : FindsSpot s roots start above None → (found : Option Spot) → found ≡ None → FindsSpot s roots start q found
    unfolding FindsSpot
    nowhere_above none found is =
        subst (FindsSpot s roots start q) (sym is)
        (subst (LeadsNowhere s roots) (parts q name some first) (λ target led. none (Directory led.0 led.1) led.3))

    module _ (directory : Spot) (reached : FindsSpot s roots start above (Some directory)) where
      -- a path whose last name isn't listed leads nowhere
      pub nowhere_listed : FindsEntry s directory.target name None → (found : Option Spot) → found ≡ None → FindsSpot s roots start q found
      unfolding FindsSpot
      nowhere_listed none found is =
          subst (FindsSpot s roots start q) (sym is)
          (subst (LeadsNowhere s roots) (parts q name some first)
          (λ target led. none target
          (listed_on s roots name above directory.target target (leads_there s roots start above directory reached) led)))

      -- a path leads to where its last name is listed
      pub spot_found : (target : Target) → Lists s directory.target name target → (spot : Spot) → spot ≡ spot_below s directory.cell target
          → FindsSpot s roots start q (Some spot)
      unfolding FindsSpot
      spot_found target lists spot is =
          subst (λ (p : Path). Reaches s roots start p spot) (parts q name some first) (directory, target, reached, lists, is)
