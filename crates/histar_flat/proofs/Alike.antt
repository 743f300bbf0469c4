-- States that agree at each path but for the bytes of files look alike to a process that may not read those bytes.
use Rattle.std.specs.Prelude.{◌≡◌, true, not, ◌∷◌, [], option_map, refl}
use Rattle.histar_base.specs.Refusals.{◌orelse◌, unless}
use Rattle.histar_flat.specs.declared.replies.Errno.TheVariants.{ENOENT, ENOTDIR, EISDIR, EACCES}
use Rattle.histar_flat.specs.Words.{Path}
use Rattle.histar_flat.specs.PathOrder.{parent}
use Rattle.histar_flat.specs.Accounts.{Accounts}
use Rattle.histar_flat.specs.Files.{get}
use Rattle.histar_flat.specs.Classes.{Process, may_read}
use Rattle.histar_flat.specs.FlatState.{Flat, is_there, reads, bytes_at, into, walk}
use Rattle.histar_flat.specs.FlatCalls.{is_below_root, life_reply}
use Rattle.histar_flat.proofs.CommonNeeds.{no_file}
use Rattle.histar_flat.proofs.Entries.{shown, same_entries_shown}
use Rattle.histar_flat.proofs.LooksAlike.{LooksAlike, found_alike, test_alike}

-- two states agree at each path, but for the bytes of files
abbrev pub ShowAlike : Flat → Flat → Type 0
ShowAlike f g = (r : Path) → option_map shown (get f.files r) ≡ option_map shown (get g.files r)

module _ (accounts : Accounts) (f g : Flat) (alike : ShowAlike f g) (p : Process) where
  there_alike : (r : Path) → is_there f r ≡ is_there g r
  there_alike r = test_alike (λ s. true) (get f.files r) (get g.files r) (alike r)

  pub reads_alike : (r : Path) → reads accounts f p r ≡ reads accounts g p r
  reads_alike r = test_alike (λ s. may_read accounts p s.0) (get f.files r) (get g.files r) (alike r)

  into_alike : (d : Path) → into accounts f p d ≡ into accounts g p d
  into_alike [] = λ i. unless (reads_alike [] i) EACCES
  into_alike (n ∷ d) = λ i.
      into_alike d i orelse unless (there_alike (n ∷ d) i) ENOENT
      orelse unless (test_alike (λ s. s.1) (get f.files (n ∷ d)) (get g.files (n ∷ d)) (alike (n ∷ d)) i) ENOTDIR
      orelse unless (reads_alike (n ∷ d) i) EACCES

  walk_alike : (r : Path) → walk accounts f p r ≡ walk accounts g p r
  walk_alike [] = refl
  walk_alike (n ∷ d) = into_alike d

  pub file_reached_alike : (r : Path) → no_file accounts f p r ≡ no_file accounts g p r
  file_reached_alike r = λ i.
      unless (is_below_root r) EISDIR orelse walk_alike r i orelse unless (there_alike r i) ENOENT
      orelse unless (test_alike (λ s. not s.1) (get f.files r) (get g.files r) (alike r) i) EISDIR

  -- Two such states look alike, if bytes that the process may read are the same.
  pub looks_alike : f.processes ≡ g.processes → ((r : Path) → reads accounts f p r ≡ true → bytes_at f r ≡ bytes_at g r)
      → (q : Path) → LooksAlike true accounts f g p q
  looks_alike processes same_bytes q = record {
    way = walk_alike q;
    here = λ w. alike q;
    above = λ b w. alike (parent q);
    beside = λ name b w. alike (name ∷ parent q);
    entries_above = λ b w. same_entries_shown f g (parent q) alike;
    entries = λ wide w may. same_entries_shown f g q alike;
    bytes = λ w may. same_bytes q may;
    found = λ wide. found_alike f g p processes;
    life = λ wide name there i. life_reply (processes i name);
  }
