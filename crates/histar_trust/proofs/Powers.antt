-- The path that is found for a changer is the highest one by which it has its power in the flat state.
use Rattle.std.specs.Prelude.{◌≡◌, ℕ, Bool, true, false, ◌&&◌, List, []}
use Rattle.std.specs.Prelude.{◌∷◌, ◌++◌, map, Option, None, Some, if◌then◌else◌, refl}
use Rattle.std.specs.Option.{option_or}
use Rattle.std.proofs.Common.{ap, ◌∙◌}
use Rattle.histar_flat.specs.Words.{Path, ProcName}
use Rattle.histar_flat.specs.Accounts.{Accounts, Group}
use Rattle.histar_flat.specs.Files.{get}
use Rattle.histar_flat.specs.Classes.{Class, Process, may_write}
use Rattle.histar_flat.specs.FlatState.{Flat, Node, is_some_and}
use Rattle.histar_secrecy.specs.declared.file_class.FileClass.{FileClass}
use Rattle.histar_secrecy.specs.Ways.{reads_all}
use Rattle.histar_secrecy.specs.ShownRoles.{AreNumbered, class_on, classes_on, flat_class, of_groups}
use Rattle.histar_secrecy.proofs.NumberedJobs.{named, writes_by_number}
use Rattle.histar_secrecy.proofs.ShownProcesses.{each_is}
use Rattle.histar_trust.specs.Findings.{shown_power}
use Rattle.histar_trust.specs.Reasons.{power_path}

-- the path, if something is there
abbrev pub place_on : Option Node → Path → List Path
place_on None q = []
place_on (Some n) q = q ∷ []

-- the paths on the way, from the lowest on, at which something is
abbrev pub places_on : Flat → Path → List Path
places_on f [] = place_on (get f.files []) []
places_on f (n ∷ d) = place_on (get f.files (n ∷ d)) (n ∷ d) ++ places_on f d

-- the last place, one of each class, by which the process may change something
abbrev power_by : List Group → Process → List Class → List Path → Option Path
power_by groups p [] places = None
power_by groups p (class ∷ above) [] = None
power_by groups p (class ∷ above) (place ∷ higher) =
    option_or (power_by groups p above higher)
    (if may_write (of_groups groups) p class && reads_all (of_groups groups) above p then Some place else None)

power_mapped : (groups : List Group) (p : Process) (classes : List FileClass) (places : List Path)
    → shown_power groups p classes places ≡ power_by groups p (map flat_class classes) places
power_mapped groups p [] places = refl
power_mapped groups p (class ∷ above) [] = refl
power_mapped groups p (class ∷ above) (place ∷ higher) =
    ap (λ (o : Option Path). option_or o (if may_write (of_groups groups) p (flat_class class)
    && reads_all (of_groups groups) (map flat_class above) p then Some place else None)) (power_mapped groups p above higher)

or_none : (o : Option Path) → o ≡ option_or o None
or_none None = refl
or_none (Some q) = refl

module _ (number : ProcName → ℕ) (one : AreNumbered number) (accounts : Accounts) (f : Flat) (p : Process) where
  abbrev shown : Process
  shown = named number one p

  -- the place, if the test passes
  abbrev where_so : Path → Bool → Option Path
  where_so q b = if b then Some q else None

  power_on : (o : Option Node) (q : Path) (rest : List Class) (places : List Path)
      → power_by accounts.groups shown (class_on number o ++ rest) (place_on o q ++ places)
      ≡ option_or (power_by accounts.groups shown rest places)
      (where_so q (is_some_and o (λ n. may_write accounts p n.class) && reads_all (of_groups accounts.groups) rest shown))
  power_on None q rest places = or_none (power_by accounts.groups shown rest places)
  power_on (Some n) q rest places =
      ap (λ b. option_or (power_by accounts.groups shown rest places) (where_so q (b && reads_all (of_groups accounts.groups) rest shown)))
      (writes_by_number number one accounts p n.class)

  power_root : (o : Option Node) → power_by accounts.groups shown (class_on number o) (place_on o [])
      ≡ where_so [] (is_some_and o (λ n. may_write accounts p n.class))
  power_root None = refl
  power_root (Some n) =
      ap (λ b. where_so [] (b && true)) (writes_by_number number one accounts p n.class) ∙ ap (where_so []) (alone (may_write accounts p n.class))
    where
      alone : (b : Bool) → (b && true) ≡ b
      alone true = refl
      alone false = refl

  power_there : (path : Path) → power_by accounts.groups shown (classes_on number f path) (places_on f path) ≡ power_path accounts f p path
  power_there [] = power_root (get f.files [])
  power_there (n ∷ d) =
      power_on (get f.files (n ∷ d)) (n ∷ d) (classes_on number f d) (places_on f d)
      ∙ (λ i. option_or (power_there d i)
      (where_so (n ∷ d) (is_some_and (get f.files (n ∷ d)) (λ k. may_write accounts p k.class) && each_is number one accounts f p d i)))

  pub power_is : (path : Path) (classes : List FileClass) → map flat_class classes ≡ classes_on number f path
      → (places : List Path) → places ≡ places_on f path
      → shown_power accounts.groups shown classes places ≡ power_path accounts f p path
  power_is path classes to places are =
      power_mapped accounts.groups shown classes places ∙ (λ i. power_by accounts.groups shown (to i) (are i)) ∙ power_there path
