-- The objects around a birth: the parent's thread, its container with its process segment in it. Each raw call of a birth leaves them.
use Rattle.std.proofs.Common.{◌≡◌, ◌≢◌, ℕ, ◌<◌, ◌==◌, Bool, true, false, List, if◌then◌else◌, arith, sym, ap, ◌∙◌, subst}
use Rattle.std.specs.Prelude.{option_map}
use Rattle.std.specs.FinSet as set
use Rattle.std.specs.Cmp.{nat_cmp_total}
use Rattle.std.specs.Ordering.{nat_cmp, eq_by_cmp}
use Rattle.std.proofs.lemmas.Bool.{or_right}
use mathlib.Core.Bool.{true≢false}
use Rattle.histar_level.specs.declared.level.Level.TheVariants.{Star, L3}
use Rattle.histar_level.specs.Levels.{Levels}
use Rattle.histar_label.specs.Levels.{with_level}
use Rattle.histar_object.specs.declared.objects.Kind.TheVariants.{Segment, Container, Thread}
use Rattle.histar_object.specs.declared.objects.Object.{Object}
use Rattle.histar_object.specs.Objects.{Numbers as Links, changed_at, linking, holding, is_thread}
use Rattle.histar_rules.specs.Rights.{with_star_at, with_label, with_changed, with_category}
use Rattle.histar_object.specs.State.{State, Found, with_object, with_segment_bytes}
use Rattle.histar_container.proofs.TableMoves.{put_other, changed_here, changed_other, new_there}
use Rattle.histar_refinement.proofs.RawChecks.{object}

-- a container with this label
abbrev pub IsHolder : Levels → Found → Type 0
IsHolder label x = (links : Links) × (x ≡ object label (Container links))

-- a container with this label that links this number
abbrev pub LinksTo : Levels → ℕ → Found → Type 0
LinksTo label q x = (links : Links) × (x ≡ object label (Container links)) × (set.contains links q ≡ true)

-- one link more changes no thread and no segment, and removes no link
linked_thread : (b : Bool) (n : ℕ) (x : Found) (label clearance : Levels) → x ≡ object label (Thread clearance)
    → (if b then option_map (linking n) x else x) ≡ object label (Thread clearance)
linked_thread true n x label clearance is = ap (option_map (linking n)) is
linked_thread false n x label clearance is = is

linked_segment : (b : Bool) (n : ℕ) (x : Found) (label : Levels) (bytes : List ℕ) → x ≡ object label (Segment bytes)
    → (if b then option_map (linking n) x else x) ≡ object label (Segment bytes)
linked_segment true n x label bytes is = ap (option_map (linking n)) is
linked_segment false n x label bytes is = is

linked_holder : (b : Bool) (n : ℕ) (x : Found) (label : Levels) → IsHolder label x → IsHolder label (if b then option_map (linking n) x else x)
linked_holder true n x label is = (set.insert is.0 n, ap (option_map (linking n)) is.1)
linked_holder false n x label is = is

linked_links : (b : Bool) (n : ℕ) (x : Found) (label : Levels) (q : ℕ) → LinksTo label q x
    → LinksTo label q (if b then option_map (linking n) x else x)
linked_links true n x label q is = (
  set.insert is.0 n,
  ap (option_map (linking n)) is.1,
  set.contains-insert nat_cmp_total is.0 n q
      ∙ or_right (eq_by_cmp nat_cmp q n) (set.contains is.0 q) is.2,
)
linked_links false n x label q is = is

-- other bytes change no thread
pub held_thread : (b : Bool) (bytes : List ℕ) (x : Found) (label clearance : Levels)
    → x ≡ object label (Thread clearance)
    → (if b then option_map (holding bytes) x else x) ≡ object label (Thread clearance)
held_thread true bytes x label clearance is = ap (option_map (holding bytes)) is
held_thread false bytes x label clearance is = is

module _ (s : State) (d : ℕ) (o : Object Levels) where
  old_object : (q : ℕ) → q < s.next_object → (with_object s d o).objects q ≡ changed_at s.objects d (linking s.next_object) q
  old_object q below = put_other (changed_at s.objects d (linking s.next_object)) s.next_object o q (λ e. absurd (omega (arith, below, e)))

  pub thread_stays : (q : ℕ) (label clearance : Levels) → q < s.next_object
      → s.objects q ≡ object label (Thread clearance) → (with_object s d o).objects q ≡ object label (Thread clearance)
  thread_stays q label clearance below is = old_object q below ∙ linked_thread (q == d) s.next_object (s.objects q) label clearance is

  pub segment_stays : (q : ℕ) (label : Levels) (bytes : List ℕ) → q < s.next_object
      → s.objects q ≡ object label (Segment bytes) → (with_object s d o).objects q ≡ object label (Segment bytes)
  segment_stays q label bytes below is = old_object q below ∙ linked_segment (q == d) s.next_object (s.objects q) label bytes is

  pub holder_stays : (q : ℕ) (label : Levels) → q < s.next_object → IsHolder label (s.objects q) → IsHolder label ((with_object s d o).objects q)
  holder_stays q label below is = subst (IsHolder label) (sym (old_object q below)) (linked_holder (q == d) s.next_object (s.objects q) label is)

  pub links_stay : (q : ℕ) (label : Levels) (k : ℕ) → q < s.next_object → LinksTo label k (s.objects q)
      → LinksTo label k ((with_object s d o).objects q)
  links_stay q label k below is = subst (LinksTo label k) (sym (old_object q below)) (linked_links (q == d) s.next_object (s.objects q) label k is)

-- a new container is under the next number
pub holder_made : (s : State) (d : ℕ) (label : Levels)
    → IsHolder label ((with_object s d (record { label = label; kind = Container set.empty })).objects s.next_object)
holder_made s d label =
    (set.empty, new_there s.objects s.next_object d (record { label = label; kind = Container set.empty }))

-- the thread T with its label and its clearance, the container C with its label, and the process segment S in it with the same label
pub record Around (T C S : ℕ) (own own_clearance label : Levels) (held : List ℕ) (s : State) : Type 0 where
  pub thread : s.objects T ≡ object own (Thread own_clearance)
  pub home : LinksTo label S (s.objects C)
  pub segment : s.objects S ≡ object label (Segment held)
  pub thread_below : T < s.next_object
  pub home_below : C < s.next_object
  pub segment_below : S < s.next_object

module _ (T C S : ℕ) (own own_clearance label : Levels) (held : List ℕ) (s : State) (a : Around T C S own own_clearance label held s) where
  -- the thread, the container and the segment stay as they are where an object is made
  pub around_added : (d : ℕ) (o : Object Levels) → Around T C S own own_clearance label held (with_object s d o)
  around_added d o = record {
    thread = thread_stays s d o T own own_clearance a.thread_below a.thread;
    home = links_stay s d o C label S a.home_below a.home;
    segment = segment_stays s d o S label held a.segment_below a.segment;
    thread_below = let low = a.thread_below in omega (arith, low);
    home_below = let low = a.home_below in omega (arith, low);
    segment_below = let low = a.segment_below in omega (arith, low);
  }

  -- neither the container nor the process segment is the thread
  pub home_apart : C ≢ T
  home_apart e = true≢false (sym (ap (λ (q : ℕ). is_thread (s.objects q)) e ∙ ap is_thread a.thread) ∙ ap is_thread a.home.1)

  pub segment_apart : S ≢ T
  segment_apart e = true≢false (sym (ap (λ (q : ℕ). is_thread (s.objects q)) e ∙ ap is_thread a.thread) ∙ ap is_thread a.segment)

  -- where the thread makes a category, it owns that too
  pub around_category : Around T C S (with_level own s.next_category Star) (with_level own_clearance s.next_category L3)
      label held (with_category s T)
  around_category = record {
    thread = changed_here s.objects T (with_star_at s.next_category) ∙ ap (option_map (with_star_at s.next_category)) a.thread;
    home = subst (LinksTo label S) (sym (changed_other s.objects T (with_star_at s.next_category) C home_apart)) a.home;
    segment = changed_other s.objects T (with_star_at s.next_category) S segment_apart ∙ a.segment;
    thread_below = a.thread_below;
    home_below = a.home_below;
    segment_below = a.segment_below;
  }

  -- the thread stays where the segment is written
  pub thread_written : (bytes : List ℕ) → (with_segment_bytes s S bytes).objects T ≡ object own (Thread own_clearance)
  thread_written bytes = held_thread (T == S) bytes (s.objects T) own own_clearance a.thread

-- a thread that takes a label has it
pub thread_relabelled : (s : State) (T : ℕ) (own own_clearance label : Levels)
    → s.objects T ≡ object own (Thread own_clearance)
    → (with_changed s T (with_label label)).objects T ≡ object label (Thread own_clearance)
thread_relabelled s T own own_clearance label is = changed_here s.objects T (with_label label) ∙ ap (option_map (with_label label)) is
