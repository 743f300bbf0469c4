-- The directory that bytes are is the one that they spell.
use Rattle.std.proofs.Common.{◌≡◌, ℕ, zero, suc, ◌≤◌, List, [], ◌∷◌, length, Option, None, Some, refl, sym, ap, subst, ◌∙◌, length-append, arith}
use Rattle.std.specs.List.{flat_map, AllByRecursion}
use Rattle.std.specs.FinMap as map
use Rattle.histar_layout.specs.Directory.{Entries, entry_bytes, IsEntry, spelling, IsDirectory}
use Rattle.histar_layout.specs.Reading.{entry_at}
use Rattle.histar_layout.specs.Spelled.{entries_among, entries_of}
use Rattle.histar_layout.proofs.DirectoryLemmas.{Entry}
use Rattle.histar_layout.proofs.EntryLemmas.{entry_again}
use Rattle.histar_layout.proofs.MapLemmas.{by_bytes, sorted_made}

-- no bytes begin with no entry
pub none_in_none : entry_at [] ≡ None
unfolding entry_at
none_in_none = refl

-- entries that were spelled are read again
among_again : (most : ℕ) (es : List Entry) → AllByRecursion IsEntry es → length (flat_map entry_bytes es) ≤ most
    → entries_among most (flat_map entry_bytes es) ≡ es
unfolding entries_among
among_again zero [] each enough = refl
among_again (suc most) [] each enough =
    ap (λ (found : Option (Entry × List ℕ)). elim found [ None ↦ [] | Some f ↦ f.0 ∷ entries_among most f.1 ])
    none_in_none
among_again zero (e ∷ es) each enough = absurd (omega arith)
among_again (suc most) (e ∷ es) each enough =
    ap (λ (found : Option (Entry × List ℕ)). elim found [ None ↦ [] | Some f ↦ f.0 ∷ entries_among most f.1 ])
    (entry_again e (flat_map entry_bytes es) each.0)
    ∙ ap (λ (rest : List Entry). e ∷ rest)
    (among_again most es each.1 (omega (arith, enough, length-append (entry_bytes e) (flat_map entry_bytes es))))

-- the entries of a directory make it again
made_again : (dir : Entries) → map.from_entries {R = by_bytes} (map.entries dir) ≡ dir
made_again dir = map.same_entries_map (map.from_entries (map.entries dir)) dir (sorted_made (map.entries dir) (map.entries_sorted dir))

-- bytes that are a directory spell it
pub directory_spelled : (bytes : List ℕ) (dir : Entries) → IsDirectory bytes dir → entries_of bytes ≡ dir
unfolding entries_of
directory_spelled bytes dir is =
    ap (λ (b : List ℕ). map.from_entries {R = by_bytes} (entries_among (length b) b)) is.spelled
    ∙ ap (map.from_entries {R = by_bytes}) (among_again (length (spelling dir)) (map.entries dir) is.listable.each (omega arith))
    ∙ made_again dir

-- so they are the directory that they spell
pub is_spelled : (bytes : List ℕ) (dir : Entries) → IsDirectory bytes dir → IsDirectory bytes (entries_of bytes)
is_spelled bytes dir is = subst (IsDirectory bytes) (sym (directory_spelled bytes dir is)) is
