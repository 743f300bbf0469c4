-- Reading the entries of a directory, one after another.
use Rattle.std.proofs.Common.{◌≡◌, ℕ, ◌<◌, List, [], ◌∷◌, ◌++◌, length, None, Some, refl, sym, ap, subst, ◌∙◌, append_assoc, append-nil}
use Rattle.std.proofs.Common.{length-append, arith}
use Rattle.std.specs.List.{flat_map, AllByRecursion}
use Rattle.std.specs.FinMap as map
use Rattle.std.proofs.lemmas.Option.{same_Some}
use Rattle.histar_layout.specs.Directory.{Entries, target_bytes, entry_bytes, IsEntry, IsDirectory}
use Rattle.histar_layout.specs.Found.{slot_at}
use Rattle.histar_layout.specs.Reading.{entry_at}
use Rattle.histar_layout.proofs.DirectoryLemmas.{Entry}
use Rattle.histar_layout.proofs.EntryLemmas.{entry_again}
use Rattle.histar_layout.proofs.LookingUp.{none_at_end, slot_again}
use Rattle.histar_layout.proofs.Spellings.{none_in_none}

-- these entries were read, and the rest of the bytes spells the others
pub record IsReadTo (rest : List ℕ) (passed : List Entry) (dir : Entries) : Type 0 where
  after : List Entry
  parts : map.entries dir ≡ passed ++ after
  spelled : rest ≡ flat_map entry_bytes after
  each : AllByRecursion IsEntry after

-- at the start no entry was read
pub none_read : (bytes : List ℕ) (dir : Entries) → IsDirectory bytes dir → IsReadTo bytes [] dir
none_read bytes dir is = record { after = map.entries dir; parts = refl; spelled = is.spelled; each = is.listable.each }

module _ (rest : List ℕ) (passed : List Entry) (dir : Entries) (h : IsReadTo rest passed dir) where
  -- where none is left, all entries were read
  all_gone : h.after ≡ [] → map.entries dir ≡ passed
  all_gone none = h.parts ∙ ap (λ (es : List Entry). passed ++ es) none ∙ append-nil passed

  -- after one more entry, the others are left
  one_gone : (e : Entry) (more : List Entry) → h.after ≡ e ∷ more → IsReadTo (flat_map entry_bytes more) (passed ++ e ∷ []) dir
  one_gone e more is = record {
    after = more;
    parts = h.parts ∙ ap (λ (es : List Entry). passed ++ es) is ∙ sym (append_assoc passed (e ∷ []) more);
    spelled = refl;
    each = (subst (AllByRecursion IsEntry) is h.each).1;
  }

  -- no entry is read where none is left
  pub all_read : entry_at rest ≡ None → map.entries dir ≡ passed
  all_read none = go h.after h.spelled refl
    where
      go : (after : List Entry) → rest ≡ flat_map entry_bytes after → h.after ≡ after → map.entries dir ≡ passed
      go [] spelled is = all_gone is
      go (e ∷ more) spelled is =
          absurd (let seen = sym none ∙ ap entry_at spelled
          ∙ entry_again e (flat_map entry_bytes more) (subst (AllByRecursion IsEntry) is h.each).0 in cc)

  -- nor is one passed
  pub all_passed : slot_at rest ≡ None → map.entries dir ≡ passed
  all_passed none = go h.after h.spelled refl
    where
      go : (after : List Entry) → rest ≡ flat_map entry_bytes after → h.after ≡ after → map.entries dir ≡ passed
      go [] spelled is = all_gone is
      go (e ∷ more) spelled is = absurd (let seen = sym none ∙ ap slot_at spelled ∙ slot_again e (flat_map entry_bytes more) in cc)

  module _ (x : Entry × List ℕ) (read : entry_at rest ≡ Some x) where
    -- the entry that is read is the next one
    pub one_read : IsReadTo x.1 (passed ++ x.0 ∷ []) dir
    one_read = go h.after h.spelled refl
      where
        go : (after : List Entry) → rest ≡ flat_map entry_bytes after → h.after ≡ after → IsReadTo x.1 (passed ++ x.0 ∷ []) dir
        go [] spelled is = absurd (let seen = sym read ∙ ap entry_at spelled ∙ none_in_none in cc)
        go (e ∷ more) spelled is =
            let same : (e, flat_map entry_bytes more) ≡ x =
            same_Some (e, flat_map entry_bytes more) x
            (sym (entry_again e (flat_map entry_bytes more) (subst (AllByRecursion IsEntry) is h.each).0)
            ∙ sym (ap entry_at spelled) ∙ read) in
            subst (λ (y : Entry × List ℕ). IsReadTo y.1 (passed ++ y.0 ∷ []) dir) same (one_gone e more is)

    -- the entry that is read takes bytes
    pub bytes_taken : length x.1 < length rest
    bytes_taken = go h.after h.spelled refl
      where
        go : (after : List Entry) → rest ≡ flat_map entry_bytes after → h.after ≡ after → length x.1 < length rest
        go [] spelled is = absurd (let seen = sym read ∙ ap entry_at spelled ∙ none_in_none in cc)
        go (e ∷ more) spelled is =
            let same : (e, flat_map entry_bytes more) ≡ x =
            same_Some (e, flat_map entry_bytes more) x
            (sym (entry_again e (flat_map entry_bytes more) (subst (AllByRecursion IsEntry) is h.each).0)
            ∙ sym (ap entry_at spelled) ∙ read) in
            omega (arith, ap (λ (y : Entry × List ℕ). length y.1) same, ap length spelled, length-append (entry_bytes e) (flat_map entry_bytes more))

    -- so there are more
    pub more_left : length passed < map.len dir
    more_left =
        let next = one_read in
        omega (arith, map.len-entries dir, ap length next.parts, length-append (passed ++ x.0 ∷ []) next.after, length-append passed (x.0 ∷ []))

  -- the entry that is passed is the next one
  pub one_passed : (x : (List ℕ × List ℕ) × List ℕ) → slot_at rest ≡ Some x → (e : Entry) × IsReadTo x.1 (passed ++ e ∷ []) dir
  one_passed x slot = go h.after h.spelled refl
    where
      go : (after : List Entry) → rest ≡ flat_map entry_bytes after → h.after ≡ after → (e : Entry) × IsReadTo x.1 (passed ++ e ∷ []) dir
      go [] spelled is = absurd (let seen = sym slot ∙ ap slot_at spelled ∙ none_at_end in cc)
      go (e ∷ more) spelled is =
          let same : ((e.0, target_bytes e.1), flat_map entry_bytes more) ≡ x =
          same_Some ((e.0, target_bytes e.1), flat_map entry_bytes more) x
          (sym (slot_again e (flat_map entry_bytes more)) ∙ sym (ap slot_at spelled) ∙ slot) in
          (e, subst (λ (y : (List ℕ × List ℕ) × List ℕ). IsReadTo y.1 (passed ++ e ∷ []) dir) same (one_gone e more is))
