-- A process's own container and process segment: it writes the segment, which has few bytes, and unlinks what the container links.
use Rattle.std.proofs.Common.{◌≡◌, ◌≢◌, ℕ, ◌*◌, ◌≤◌, ◌&&◌, Bool, true, List, [], ◌∷◌, ◌++◌, length, map, Option, None, Some, arith, refl, sym, ap}
use Rattle.std.proofs.Common.{◌∙◌}
use Rattle.std.specs.Prelude.{is_some}
use Rattle.std.specs.FinSet as set
use Rattle.std.specs.Int.{w64, to_be_bytes}
use Rattle.std.specs.List.{flat_map, range_with_len}
use Rattle.std.proofs.lemmas.List.{length-map}
use Rattle.std.proofs.lemmas.List.FromFn.{length-range_with_len}
use Rattle.std.proofs.lemmas.List.Sums.{length-filter, count_by-le-length}
use mathlib.Core.Bool.{true≢false}
use Rattle.histar_base.specs.Refusals.{◌orelse◌, unless}
use Rattle.histar_flat.specs.Words.{ProcName, most_children}
use Rattle.histar_flat.specs.Classes.{Process}
use Rattle.histar_level.specs.Levels.{Levels}
use Rattle.histar_label.specs.Levels.{is_below, is_below_raised}
use Rattle.histar_layout.specs.declared.status.Child.{Child as Listed}
use Rattle.histar_layout.specs.Status.{ProcessStatus, life_bytes, child_bytes, status_bytes}
use Rattle.histar_object.specs.declared.objects.Kind.TheVariants.{Segment, Container, Thread}
use Rattle.histar_object.specs.Objects.{Numbers as Links, is_container, is_thread}
use Rattle.histar_object.specs.State.{State}
use Rattle.histar_rules.specs.declared.raw.Denied.TheVariants.{Modify, TooBig}
use Rattle.histar_rules.specs.declared.raw.RawCall.TheVariants.{Write, Unlink}
use Rattle.histar_rules.specs.Rules.{check}
use Rattle.histar_refinement.specs.Addresses.{AddressNumbers}
use Rattle.histar_refinement.specs.Processes.{children, listed_by}
use Rattle.histar_refinement.proofs.FileChecks.{fits}
use Rattle.histar_refinement.proofs.RawChecks.{object, write_check, unlink_check}

-- ---- a process segment has few bytes

-- each child takes 17 bytes
pub children_long : (cs : List Listed) → length (flat_map child_bytes cs) ≡ 17 * length cs
children_long [] = refl
children_long (c ∷ cs) = let later = children_long cs in omega (arith, later)

long_by : (e : Option ℕ) (status : ProcessStatus) → length status.children ≤ most_children
    → length (life_bytes e ++ (status.born ∷ to_be_bytes w64 status.internal) ++ to_be_bytes w64 status.thread
    ++ flat_map child_bytes status.children) ≤ 4096
long_by None status few = let long = children_long status.children in omega (arith, few, long)
long_by (Some n) status few = let long = children_long status.children in omega (arith, few, long)

pub status_few : (status : ProcessStatus) → length status.children ≤ most_children → length (status_bytes status) ≤ 4096
status_few status few = long_by status.exited status few

-- no more children are listed than a process can have
pub listed_few : (processes : ProcName → Option Process) (number : AddressNumbers) (me : ProcName) (born : ℕ)
    → born ≤ most_children → length (map (listed_by number me) (children processes me born)) ≤ most_children
listed_few processes number me born most =
    let mapped = length-map (children processes me born) (listed_by number me) in
    let filtered = length-filter (λ n. is_some (processes (n ∷ me))) (range_with_len 1 born) in
    let counted = count_by-le-length (λ n. is_some (processes (n ∷ me))) (range_with_len 1 born) in
    let ranged = length-range_with_len 1 born in
    omega (arith, mapped, filtered, counted, ranged, most)

-- ---- the raw calls on it, by a thread that modifies both

module _ (s : State) (t C S : ℕ) (own clearance due : Levels) (links : Links) (held : List ℕ)
    (thread : s.objects t ≡ object own (Thread clearance)) (holder : s.objects C ≡ object due (Container links))
    (segment : s.objects S ≡ object due (Segment held)) where
  -- the three are different objects
  pub thread_apart : t ≢ C
  thread_apart e = true≢false (sym (ap is_container (ap s.objects e ∙ holder)) ∙ ap is_container thread)

  pub segment_apart : S ≢ C
  segment_apart e = true≢false (sym (ap is_container (ap s.objects e ∙ holder)) ∙ ap is_container segment)

  pub thread_no_segment : t ≢ S
  thread_no_segment e = true≢false (sym (ap is_thread thread) ∙ ap is_thread (ap s.objects e ∙ segment))

  module _ (seen : is_below_raised due own ≡ true) (may : (is_below own due && is_below_raised due own) ≡ true) where
    -- the segment is written with few bytes
    pub write_granted : set.contains links S ≡ true → (bytes : List ℕ) → length bytes ≤ 4096 → check s t (Write C S 0 bytes) ≡ None
    write_granted linked bytes few =
        write_check s t own clearance thread C due links holder seen S linked due held segment 0 bytes
        ∙ (λ i. unless (may i) Modify orelse unless (fits held bytes few i) TooBig)

    -- unlinking what the container links is granted
    pub unlink_granted : (o : ℕ) → set.contains links o ≡ true → check s t (Unlink C o) ≡ None
    unlink_granted o linked = unlink_check s t own clearance thread C due links holder seen o linked ∙ ap (λ (b : Bool). unless b Modify) may
