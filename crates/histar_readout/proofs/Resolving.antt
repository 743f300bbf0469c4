-- The target of a path, one name after another.
use Rattle.std.specs.Prelude.{◌≡◌, ℕ, ◌-◌, ◌≤◌, ◌<◌, List, [], ◌∷◌, length, get_or, take, drop, Option, Some, None, Ok, Err, refl}
use Rattle.std.proofs.Common.{arith, sym, ap, ◌∙◌, subst}
use Rattle.std.proofs.lemmas.List.{take_all}
use Rattle.std.proofs.lemmas.Option.{none-some}
use Rattle.std.specs.FinMap as map
use Rattle.histar_flat.specs.Words.{Name, Path}
use Rattle.histar_syscall.specs.KernelModel.{lent_bytes}
use Rattle.histar_object.specs.State.{State}
use Rattle.histar_layout.specs.Directory.{Entries, IsDirectory}
use Rattle.histar_layout.specs.Checked.{IsLookedUp}
use Rattle.histar_layout.specs.declared.entry.Target.{Target}
use Rattle.histar_layout.specs.declared.entry.Target.TheVariants.{File, Directory}
use Rattle.histar_layout.specs.declared.checked.NotADirectory.{NotADirectory}
use Rattle.histar_layout.proofs.DirectoryLemmas.{same_directory}
use Rattle.histar_programs.specs.declared.roots.Roots.{Roots}
use Rattle.histar_readout.specs.Resolve.{LeadsTo, LeadsNowhere, Resolves}
use Rattle.histar_refinement.proofs.SameLines.{listing_in}
use Rattle.histar_readout.proofs.OneTarget.{paths_lead_to_one_target}

-- the names of a path above its last one
abbrev names_above : Path → Path
names_above q = take (length q - 1) (drop 1 q)

-- a path is its last name before the names above
parts : (q : Path) (name : Name) → 1 ≤ length q → name ≡ get_or q 0 name → name ∷ names_above q ≡ q
parts [] name some first = absurd (omega arith)
parts (n ∷ d) name some first =
    let whole : take (length (n ∷ d) - 1) d ≡ d = take_all (length (n ∷ d) - 1) d (omega arith) in
    λ i. first i ∷ whole i

module _ (s : State) (roots : Roots) where
  -- `/` leads where boot left it
  pub slash_resolved : (q : Path) → length q < 1 → Resolves s roots q (Some (Directory roots.slash.container roots.slash.listing))
  unfolding Resolves
  slash_resolved [] none = refl
  slash_resolved (n ∷ d) none = absurd (omega arith)

  module _ (name : Name) (d : Path) (container listing : ℕ) (above : LeadsTo s roots d (Directory container listing)) where
    -- a target of a directory's entry is listed in the directory's own segment
    listed_there : (target : Target) → LeadsTo s roots (name ∷ d) target
        → (dir : Entries) × IsDirectory (lent_bytes s listing) dir × (map.get dir name ≡ Some target)
    listed_there target leads =
        let same = paths_lead_to_one_target s roots d (Directory leads.0 leads.1) (Directory container listing) leads.3 above in
        (leads.2, subst (λ (g : ℕ). IsDirectory (lent_bytes s g) leads.2) (ap listing_in same) leads.4, leads.5)

    -- a path leads nowhere below a segment that holds no directory
    none_unlisted : ((dir : Entries) → IsDirectory (lent_bytes s listing) dir → ⊥) → LeadsNowhere s roots (name ∷ d)
    none_unlisted none target leads = let there = listed_there target leads in none there.0 there.1

    -- nor does a path lead anywhere whose last name the directory doesn't list
    none_listed : (dir : Entries) → IsDirectory (lent_bytes s listing) dir → map.get dir name ≡ None → LeadsNowhere s roots (name ∷ d)
    none_listed dir is none target leads =
        let there = listed_there target leads in
        let same = same_directory (lent_bytes s listing) dir there.0 is there.1 in
        none-some target (sym none ∙ ap (λ (x : Entries). map.get x name) same ∙ there.2)

  module _ (q : Path) (name : Name) (some : 1 ≤ length q) (first : name ≡ get_or q 0 name) where
    abbrev above : Path
    above = names_above q

    whole : (found : Option Target) → Resolves s roots (name ∷ above) found → Resolves s roots q found
    whole found is = subst (λ (p : Path). Resolves s roots p found) (parts q name some first) is

    -- a path below one that leads nowhere leads nowhere
    pub nowhere_above : Resolves s roots above None → (found : Option Target) → found ≡ None → Resolves s roots q found
    unfolding Resolves
    nowhere_above none found is = subst (Resolves s roots q) (sym is) (whole None (λ target leads. none (Directory leads.0 leads.1) leads.3))

    module _ (target : Target) (led : Resolves s roots above (Some target)) where
      -- a path below a file leads nowhere
      pub nowhere_below_file : (file : ℕ) → target ≡ File file → Resolves s roots q None
      unfolding Resolves
      nowhere_below_file file is =
          whole None (λ other leads.
          let same = paths_lead_to_one_target s roots above target (Directory leads.0 leads.1) led leads.3 in cc)

      module _ (container listing : ℕ) (is : target ≡ Directory container listing) (bytes : List ℕ)
          (read : bytes ≡ lent_bytes s listing) where
        led_here : LeadsTo s roots above (Directory container listing)
        unfolding Resolves
        led_here = subst (LeadsTo s roots above) is led

        -- nor does a path below a segment that holds no directory
        pub nowhere_unlisted : (fault : NotADirectory) → IsLookedUp bytes name (Err fault) → Resolves s roots q None
        unfolding Resolves
        nowhere_unlisted fault none =
            whole None (none_unlisted name above container listing led_here
            (subst (λ (b : List ℕ). IsLookedUp b name (Err fault)) read none))

        found_below : (found : Option Target) (dir : Entries) → IsDirectory (lent_bytes s listing) dir
            → map.get dir name ≡ found → Resolves s roots (name ∷ above) found
        unfolding Resolves
        found_below None dir listed none = none_listed name above container listing led_here dir listed none
        found_below (Some there) dir listed entry = (container, listing, dir, led_here, listed, entry)

        -- below a directory a path leads to the target that the directory lists for its last name
        pub leads_on : (found : Option Target) → IsLookedUp bytes name (Ok found) → Resolves s roots q found
        leads_on found looked = whole found (found_below found looked.0 (subst (λ (b : List ℕ). IsDirectory b looked.0) read looked.1) (sym looked.2))
