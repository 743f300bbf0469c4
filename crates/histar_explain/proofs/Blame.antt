-- The test of a raw call that failed, by its denial.
use Rattle.std.proofs.Common.{◌≡◌, ◌≢◌, ℕ, Bool, true, false, ◌&&◌, Option, None, Some, length, min, ◌+◌, refl, ap}
use Rattle.std.specs.Prelude.{not, nat_lt}
use Rattle.std.specs.FinSet as set
use Rattle.histar_base.specs.Refusals.{unless, ◌orelse◌}
use Rattle.histar_label.specs.Levels.{has_star}
use Rattle.histar_object.specs.Objects.{is_present, is_segment, is_container, is_thread, is_gate, links_in, bytes_in}
use Rattle.histar_object.specs.State.{State, observes, modifies, in_range}
use Rattle.histar_rules.specs.Rights.{in_span, may_clear, is_own_below, is_let_in, in_gate}
use Rattle.histar_rules.specs.declared.raw.Denied.{Denied}
use Rattle.histar_rules.specs.declared.raw.Denied.TheVariants.{Observe, Modify, Range, Gate, NoEntry, NoThread, BadKind, TooBig}
use Rattle.histar_rules.specs.declared.raw.RawCall.{RawCall}
use Rattle.histar_rules.specs.declared.raw.RawCall.TheVariants.{MakeCategory, OwnLabel, SetLabel, SetClearance, MakeSegment, MakeContainer}
use Rattle.histar_rules.specs.declared.raw.RawCall.TheVariants.{MakeThread, MakeGate, Enter, Read, Write, Unlink, LabelOf}
use Rattle.histar_rules.specs.Rules.{check, no_thread, no_container, no_link, no_segment, no_gate, no_making, known, fits_segment, has_number}
use Rattle.histar_rules.specs.Rules.{greatest}
use Rattle.histar_explain.specs.Named.{container_named, object_named}
use Rattle.histar_explain.specs.Obstacles.{bytes_after, has_next}

-- whether the object that a call names in its container is of the kind that the call needs
abbrev pub is_wanted : State → RawCall → Bool
is_wanted s (Enter d o wanted clearance verify) = is_gate (s.objects o)
is_wanted s (Read d o) = is_segment (s.objects o)
is_wanted s (Write d o keep bytes) = is_segment (s.objects o)
is_wanted s (LabelOf d o) = not (is_thread (s.objects o))
is_wanted s call = true

-- whether the labels that a call is given pass
abbrev pub passes_ranges : State → ℕ → RawCall → Bool
passes_ranges s t (SetLabel label) = in_range (s.objects t) label && known s label
passes_ranges s t (SetClearance clearance) = may_clear (s.objects t) clearance && known s clearance
passes_ranges s t (MakeSegment d label bytes) = in_range (s.objects t) label && (known s label && not (has_star label))
passes_ranges s t (MakeContainer d label) = in_range (s.objects t) label && (known s label && not (has_star label))
passes_ranges s t (MakeThread d label clearance) = in_span (s.objects t) label clearance && (known s label && known s clearance)
passes_ranges s t (MakeGate d label clearance entry) = in_span (s.objects t) label clearance && (known s label && known s clearance)
passes_ranges s t (Enter d o wanted clearance verify) =
    in_gate (s.objects t) (s.objects o) wanted clearance && (known s wanted && (known s clearance && known s verify))
passes_ranges s t call = true

-- P follows, whichever test of a call is the one that fails with a denial
pub record Blames (s : State) (t : ℕ) (call : RawCall) (x : Denied) (P : Type 0) : Type 0 where
  pub thread : is_thread (s.objects t) ≡ false → NoThread ≡ x → P
  pub present : is_present (s.objects (container_named call)) ≡ false → NoEntry ≡ x → P
  pub container : is_container (s.objects (container_named call)) ≡ false → BadKind ≡ x → P
  pub observe : Observe ≡ x → P
  pub link : set.contains (links_in (s.objects (container_named call))) (object_named call) ≡ false → NoEntry ≡ x → P
  pub kind : is_wanted s call ≡ false → BadKind ≡ x → P
  pub modify : Modify ≡ x → P
  pub gate : Gate ≡ x → P
  pub range : passes_ranges s t call ≡ false → Range ≡ x → P
  pub size : fits_segment (bytes_after s call) ≡ false → TooBig ≡ x → P
  pub number : has_next s call ≡ false → TooBig ≡ x → P

and_first : (a b : Bool) → a ≡ false → (a && b) ≡ false
and_first a b h = ap (λ x. x && b) h

and_second : (a b : Bool) → b ≡ false → (a && b) ≡ false
and_second true b h = h
and_second false b h = refl

module _ {P : Type 0} (x : Denied) where
  by_unless : (b : Bool) (d : Denied) → (b ≡ false → d ≡ x → P) → unless b d ≡ Some x → P
  by_unless true d f e = absurd cc
  by_unless false d f e = f refl cc

  by_orelse : (a b : Option Denied) → (a ≡ Some x → P) → (b ≡ Some x → P) → (a orelse b) ≡ Some x → P
  by_orelse None b f g e = g e
  by_orelse (Some d) b f g e = f e

  -- the tests of an object that owns nothing
  by_five : (a b c d e : Bool) → ((a && (b && c)) ≡ false → Range ≡ x → P) → (d ≡ false → TooBig ≡ x → P) → (e ≡ false → TooBig ≡ x → P)
      → (unless a Range orelse unless b Range orelse unless c Range orelse unless d TooBig orelse unless e TooBig) ≡ Some x → P
  by_five a b c d e range size number =
      by_orelse (unless a Range) _ (by_unless a Range (λ h. range (and_first a _ h)))
      (by_orelse (unless b Range) _ (by_unless b Range (λ h. range (and_second a _ (and_first b c h))))
      (by_orelse (unless c Range) _ (by_unless c Range (λ h. range (and_second a _ (and_second b c h))))
      (by_orelse (unless d TooBig) (unless e TooBig) (by_unless d TooBig size) (by_unless e TooBig number))))

  -- the tests of an object that may own
  by_four : (a b c d : Bool) → ((a && (b && c)) ≡ false → Range ≡ x → P) → (d ≡ false → TooBig ≡ x → P)
      → (unless a Range orelse unless b Range orelse unless c Range orelse unless d TooBig) ≡ Some x → P
  by_four a b c d range number =
      by_orelse (unless a Range) _ (by_unless a Range (λ h. range (and_first a _ h)))
      (by_orelse (unless b Range) _ (by_unless b Range (λ h. range (and_second a _ (and_first b c h))))
      (by_orelse (unless c Range) (unless d TooBig) (by_unless c Range (λ h. range (and_second a _ (and_second b c h)))) (by_unless d TooBig number)))

  -- the tests of labels behind a gate
  by_ranges : (a b c d : Bool) → ((a && (b && (c && d))) ≡ false → Range ≡ x → P)
      → (unless a Range orelse unless b Range orelse unless c Range orelse unless d Range) ≡ Some x → P
  by_ranges a b c d range =
      by_orelse (unless a Range) _ (by_unless a Range (λ h. range (and_first a _ h)))
      (by_orelse (unless b Range) _ (by_unless b Range (λ h. range (and_second a _ (and_first b _ h))))
      (by_orelse (unless c Range) (unless d Range) (by_unless c Range (λ h. range (and_second a _ (and_second b _ (and_first c d h)))))
      (by_unless d Range (λ h. range (and_second a _ (and_second b _ (and_second c d h)))))))

  -- two tests of a label
  by_pair : (a b : Bool) → ((a && b) ≡ false → Range ≡ x → P) → (unless a Range orelse unless b Range) ≡ Some x → P
  by_pair a b range =
      by_orelse (unless a Range) (unless b Range) (by_unless a Range (λ h. range (and_first a b h)))
      (by_unless b Range (λ h. range (and_second a b h)))

module _ {P : Type 0} (s : State) (t : ℕ) (call : RawCall) (x : Denied) (h : Blames s t call x P) where
  by_thread : no_thread s t ≡ Some x → P
  by_thread = by_unless x (is_thread (s.objects t)) NoThread h.thread

  by_container : no_container s t (container_named call) ≡ Some x → P
  by_container =
      let d = s.objects (container_named call) in
      by_orelse x (no_thread s t) _ by_thread
      (by_orelse x (unless (is_present d) NoEntry) _ (by_unless x (is_present d) NoEntry h.present)
      (by_orelse x (unless (is_container d) BadKind) (unless (observes (s.objects t) d) Observe) (by_unless x (is_container d) BadKind h.container)
      (by_unless x (observes (s.objects t) d) Observe (λ _. h.observe))))

  by_making : no_making s t (container_named call) ≡ Some x → P
  by_making =
      by_orelse x (no_container s t (container_named call)) _ by_container
      (by_unless x (modifies (s.objects t) (s.objects (container_named call))) Modify (λ _. h.modify))

  by_link : no_link s t (container_named call) (object_named call) ≡ Some x → P
  by_link =
      by_orelse x (no_container s t (container_named call)) _ by_container
      (by_unless x (set.contains (links_in (s.objects (container_named call))) (object_named call)) NoEntry h.link)

  -- an object of the needed kind
  by_kind : (b : Bool) → (b ≡ false → is_wanted s call ≡ false)
      → (no_link s t (container_named call) (object_named call) orelse unless b BadKind) ≡ Some x → P
  by_kind b wanted =
      by_orelse x (no_link s t (container_named call) (object_named call)) (unless b BadKind) by_link
      (by_unless x b BadKind (λ e. h.kind (wanted e)))

-- one of the tests of a call fails
pub blame : {P : Type 0} (s : State) (t : ℕ) (call : RawCall) (x : Denied) → Blames s t call x P → check s t call ≡ Some x → P
blame s t MakeCategory x h e =
    by_orelse x (no_thread s t) _ (by_thread s t MakeCategory x h)
    (by_unless x (nat_lt s.next_category greatest) TooBig h.number) e
blame s t OwnLabel x h e = by_thread s t OwnLabel x h e
blame s t (SetLabel label) x h e =
    by_orelse x (no_thread s t) _ (by_thread s t (SetLabel label) x h)
    (by_pair x (in_range (s.objects t) label) (known s label) h.range) e
blame s t (SetClearance clearance) x h e =
    by_orelse x (no_thread s t) _ (by_thread s t (SetClearance clearance) x h)
    (by_pair x (may_clear (s.objects t) clearance) (known s clearance) h.range) e
blame s t (MakeSegment d label bytes) x h e = by_orelse x (no_making s t d) _ (by_making s t (MakeSegment d label bytes) x h)
    (by_five x (in_range (s.objects t) label) (known s label) (not (has_star label)) (fits_segment (length bytes))
    (has_number s) h.range h.size h.number) e
blame s t (MakeContainer d label) x h e = by_orelse x (no_making s t d) _ (by_making s t (MakeContainer d label) x h)
    (by_five x (in_range (s.objects t) label) (known s label) (not (has_star label)) (fits_segment 0) (has_number s) h.range h.size h.number) e
blame s t (MakeThread d label clearance) x h e = by_orelse x (no_making s t d) _ (by_making s t (MakeThread d label clearance) x h)
    (by_four x (in_span (s.objects t) label clearance) (known s label) (known s clearance) (has_number s) h.range h.number) e
blame s t (MakeGate d label clearance entry) x h e = by_orelse x (no_making s t d) _ (by_making s t (MakeGate d label clearance entry) x h)
    (by_four x (in_span (s.objects t) label clearance) (known s label) (known s clearance) (has_number s) h.range h.number) e
blame s t (Enter d o wanted clearance verify) x h e =
    by_orelse x (no_gate s t d o) _
    (by_kind s t (Enter d o wanted clearance verify) x h (is_gate (s.objects o)) (λ e. e))
    (by_orelse x (unless (is_let_in (s.objects t) (s.objects o)) Gate) _ (by_unless x (is_let_in (s.objects t) (s.objects o)) Gate (λ _. h.gate))
    (by_orelse x (unless (is_own_below (s.objects t) verify) Gate) _ (by_unless x (is_own_below (s.objects t) verify) Gate (λ _. h.gate))
    (by_ranges x (in_gate (s.objects t) (s.objects o) wanted clearance) (known s wanted) (known s clearance) (known s verify) h.range))) e
blame s t (Read d o) x h e =
    by_orelse x (no_segment s t d o) _ (by_kind s t (Read d o) x h (is_segment (s.objects o)) (λ e. e))
    (by_unless x (observes (s.objects t) (s.objects o)) Observe (λ _. h.observe)) e
blame s t (Write d o keep bytes) x h e =
    by_orelse x (no_segment s t d o) _ (by_kind s t (Write d o keep bytes) x h (is_segment (s.objects o)) (λ e. e))
    (by_orelse x (unless (modifies (s.objects t) (s.objects o)) Modify) _ (by_unless x (modifies (s.objects t) (s.objects o)) Modify (λ _. h.modify))
    (by_unless x (fits_segment (min keep (length (bytes_in (s.objects o))) + length bytes)) TooBig h.size)) e
blame s t (Unlink d o) x h e =
    by_orelse x (no_link s t d o) _ (by_link s t (Unlink d o) x h)
    (by_unless x (modifies (s.objects t) (s.objects d)) Modify (λ _. h.modify)) e
blame s t (LabelOf d o) x h e = by_kind s t (LabelOf d o) x h (not (is_thread (s.objects o))) (λ e. e) e

-- a denial that is a different one
pub another : {P : Type 0} {Q : Type 0} (x : Denied) (d : Denied) → d ≢ x → Q → d ≡ x → P
another x d differ q same = absurd (differ same)
