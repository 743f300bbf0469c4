-- What is known of bytes of which a beginning is checked.
use Rattle.std.proofs.Common.{◌≡◌, ℕ, ◌+◌, ◌<◌, true, IsTrue, refl, List, [], ◌∷◌, length, Option, Some, None, sym, ap, subst, ◌∙◌, length-append}
use Rattle.std.proofs.Common.{append-nil, arith}
use Rattle.std.specs.Cmp.Lexicographic.{slice_cmp}
use Rattle.std.specs.Ordering.{nat_cmp, is_lt}
use Rattle.std.specs.FinMap as map
use Rattle.histar_flat.specs.Words.{Name, is_name}
use Rattle.histar_layout.specs.declared.entry.Target.{Target}
use Rattle.histar_layout.specs.Directory.{Entries, spelling, IsDirectory}
use Rattle.histar_layout.specs.Reading.{entry_at}
use Rattle.histar_layout.proofs.EntryLemmas.{IsBytes}
use Rattle.histar_layout.proofs.MapLemmas.{by_bytes}
use Rattle.histar_layout.proofs.DirectoryLemmas.{IsReadUpTo, starts, goes_on, entry_added, comes_after}

-- the bytes begin with this many entries of a directory
pub record IsCheckedUpTo (bytes rest : List ℕ) (last : Option Name) (count : ℕ) : Type 0 where
  pub dir : Entries
  pub read : IsReadUpTo bytes rest last dir
  pub count_is : count ≡ map.len dir

-- the name that was read last, which has these bytes; none where there are no bytes, since none was read yet
abbrev pub last_name : List ℕ → Option Name
last_name [] = None
last_name (b ∷ bs) = Some (b ∷ bs)

-- a name is the last one with its own bytes
pub name_is_last : (text : List ℕ) → IsTrue (is_name text) → last_name text ≡ Some text
unfolding is_name
name_is_last [] h = absurd cc
name_is_last (b ∷ bs) h = refl

-- a name comes after the last one where its bytes do
pub comes_after_bytes : (last text : List ℕ) → IsTrue (is_name text) → is_lt (slice_cmp nat_cmp last text) ≡ comes_after (last_name last) text
unfolding is_name
comes_after_bytes [] [] h = absurd cc
comes_after_bytes [] (b ∷ bs) h = refl
comes_after_bytes (a ∷ last) text h = refl

-- at the start nothing is checked
pub nothing_checked : (bytes : List ℕ) → IsBytes bytes → IsCheckedUpTo bytes bytes None 0
nothing_checked bytes fits = record { dir = map.empty; read = starts bytes fits; count_is = sym (map.len-empty by_bytes Target) }

-- one more entry is read
pub checks_on : (bytes rest after : List ℕ) (last : Option Name) (next : Name) (target : Target) (count : ℕ)
    → IsCheckedUpTo bytes rest last count → entry_at rest ≡ Some ((next, target), after)
    → count < 64 → comes_after last next ≡ true → IsCheckedUpTo bytes after (Some next) (count + 1)
checks_on bytes rest after last next target count h read room rises = record {
  dir = map.insert h.dir next target;
  read = goes_on bytes rest after last h.dir next target h.read read (subst (λ (n : ℕ). n < 64) h.count_is room) rises;
  count_is =
      let grown = entry_added last h.dir next target h.read.last_is rises in
      omega (
        arith,
        h.count_is,
        map.len-entries (map.insert h.dir next target),
        map.len-entries h.dir,
        ap length grown,
        length-append (map.entries h.dir) ((next, target) ∷ []),
      );
}

-- at the end the whole directory is read
pub whole_checked : (bytes rest : List ℕ) (last : Option Name) (count : ℕ) → IsCheckedUpTo bytes rest last count
    → length rest ≡ 0 → (dir : Entries) × IsDirectory bytes dir
whole_checked bytes [] last count h none = (h.dir, record { listable = h.read.listable; spelled = h.read.spelled ∙ append-nil (spelling h.dir) })
whole_checked bytes (x ∷ rest) last count h none = absurd cc
