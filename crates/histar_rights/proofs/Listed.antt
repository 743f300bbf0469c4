-- The processes of a table are exactly those that run, in the order of their names.
use Rattle.std.specs.Prelude.{◌≡◌, ℕ, zero, suc, ◌+◌, ◌<◌, ◌≤◌, Bool, true, false, cond, T, nat_le, List, [], ◌∷◌, ◌++◌, length, Option, None, Some}
use Rattle.std.specs.Prelude.{is_some, refl}
use Rattle.std.specs.List.{flat_map, range_with_len}
use Rattle.std.proofs.Common.{◌⊎◌, arith, ap, inl, inr, sym, ◌∙◌, subst}
use Rattle.std.proofs.lemmas.Bool.{true≢false, and_parts, leb-true}
use Rattle.std.proofs.lemmas.Option.{none-some, same_Some}
use Rattle.std.specs.declared.cmp.Ordering.{Ordering}
use Rattle.std.specs.declared.cmp.Ordering.TheVariants.{Less}
use Rattle.std.specs.Ordering.{nat_cmp, is_lt, eq_by_cmp, ordering_then}
use Rattle.std.specs.Cmp.{IsTotalOrder, nat_cmp_total}
use Rattle.std.specs.Cmp.Lexicographic.{lists_total, slice_cmp}
use Rattle.std.specs.FinMap.{IsAntisymmetric, find, is_sorted, nat_cmp-IsAntisymmetric, slice_cmp-IsAntisymmetric}
use Rattle.std.specs.FinMap.Entries.{below_all}
use Rattle.histar_flat.specs.Words.{ProcName, most_numbers}
use Rattle.histar_base.specs.Paths.{from_root, reverse_onto}
use Rattle.histar_base.proofs.PathLaws.{from_root_twice}
use Rattle.histar_flat.specs.Classes.{Process}
use Rattle.histar_flat.specs.FlatState.{Flat, is_given, was_given}
use Rattle.histar_flat.specs.FlatCalls.{if_running, running}
use Rattle.histar_flat.specs.Meaning.{boot, flat_end}
use Rattle.histar_flat.proofs.GivenNames.{names_are_given_once}
use Rattle.histar_flat.proofs.Changes.{runs_is_there}
use Rattle.histar_flat.proofs.Finding.{first, second, both, equal, find_first, find_later, ends_decide}
use Rattle.histar_rights.specs.Running.{HaveShownNames, AreRunning, Named, and_children, itself, process_cmp, running_from, running_in}
use Rattle.histar_rights.specs.Laws.{RunningAreListed}
use Rattle.histar_rights.proofs.Named.{AreJoined, calls_place}

-- ---- the order of names

by_image : {A B : Type 0} (h : A → B) (R : B → B → Ordering) → IsTotalOrder R → IsTotalOrder (λ x y. R (h x) (h y))
by_image h R o =
    record {
      antisymm = λ x y. o.antisymm (h x) (h y);
      trans = λ x y z. o.trans (h x) (h y) (h z);
      congr = λ x y z. o.congr (h x) (h y) (h z);
    }

-- the order of names is total
process_cmp_total : IsTotalOrder process_cmp
process_cmp_total = by_image from_root (slice_cmp nat_cmp) (lists_total nat_cmp_total)

-- two names tie only if they are equal
process_cmp_exact : IsAntisymmetric process_cmp
process_cmp_exact a b e =
    sym (from_root_twice a)
    ∙ ap from_root (slice_cmp-IsAntisymmetric nat_cmp-IsAntisymmetric (from_root a) (from_root b) e)
    ∙ from_root_twice b

-- ---- entries

module _ (R : ProcName → ProcName → Ordering) where
  -- the property holds of each entry
  abbrev AllOf : (Named → Type 0) → List Named → Type 0
  AllOf P [] = Unit {0}
  AllOf P (e ∷ es) = P e × AllOf P es

  all_both : (P : Named → Type 0) (xs ys : List Named) → AllOf P xs → AllOf P ys → AllOf P (xs ++ ys)
  all_both P [] ys h k = k
  all_both P (e ∷ xs) ys h k = (h.0, all_both P xs ys h.1 k)

  all_so : (P Q : Named → Type 0) → ((e : Named) → P e → Q e) → (es : List Named) → AllOf P es → AllOf Q es
  all_so P Q so [] h = tt
  all_so P Q so (e ∷ es) h = (so e h.0, all_so P Q so es h.1)

  -- a key that is less than each key of a list is below all
  below_each : (k : ProcName) (es : List Named) → AllOf (λ e. R k e.0 ≡ Less) es → T (below_all R k es)
  below_each k [] h = tt
  below_each k (e ∷ es) h = both (is_lt (R k e.0)) _ (subst (λ o. T (is_lt o)) (sym h.0) tt) (below_each k es h.1)

  -- two lists rise together if each key of the one is below all of the other
  rise_both : (xs ys : List Named) → T (is_sorted R xs) → T (is_sorted R ys)
      → AllOf (λ e. AllOf (λ d. R e.0 d.0 ≡ Less) ys) xs → T (is_sorted R (xs ++ ys))
  rise_both [] ys g h low = h
  rise_both (e ∷ xs) ys g h low =
      both (below_all R e.0 (xs ++ ys)) _ (joined xs (first (below_all R e.0 xs) _ g)) (rise_both xs ys (second (below_all R e.0 xs) _ g) h low.1)
    where
      joined : (zs : List Named) → T (below_all R e.0 zs) → T (below_all R e.0 (zs ++ ys))
      joined [] t = below_each e.0 ys low.0
      joined (z ∷ zs) t = both (is_lt (R e.0 z.0)) _ (first (is_lt (R e.0 z.0)) _ t) (joined zs (second (is_lt (R e.0 z.0)) _ t))

  -- an entry is among these
  abbrev IsIn : Named → List Named → Type 0
  IsIn e [] = ⊥
  IsIn e (d ∷ es) = (d ≡ e) ⊎ IsIn e es

  in_front : (e : Named) (xs ys : List Named) → IsIn e xs → IsIn e (xs ++ ys)
  in_front e [] ys h = absurd h
  in_front e (d ∷ xs) ys h = elim h [ inl t ↦ inl t | inr t ↦ inr (in_front e xs ys t) ]

  in_behind : (e : Named) (xs ys : List Named) → IsIn e ys → IsIn e (xs ++ ys)
  in_behind e [] ys h = h
  in_behind e (d ∷ xs) ys h = inr (in_behind e xs ys h)

  -- an entry of a list is found there, if keys rise
  found_in : (total : IsTotalOrder R) (exact : IsAntisymmetric R) (k : ProcName) (x : Process) (es : List Named)
      → T (is_sorted R es) → IsIn (k, x) es → find R k es ≡ Some x
  found_in total exact k x [] s h = absurd h
  found_in total exact k x (d ∷ es) s h = elim h [
    | inl t ↦ ap (λ (e : Named). find R k (e ∷ es)) t ∙ find_first total exact k x es
    | inr t ↦ find_later total exact d.0 d.1 es k x (first (below_all R d.0 es) _ s) (found_in total exact k x es (second (below_all R d.0 es) _ s) t)
  ]

  -- what holds of each entry holds of the one found
  holds_found : (exact : IsAntisymmetric R) (P : Named → Type 0) (k : ProcName) (x : Process) (es : List Named)
      → AllOf P es → find R k es ≡ Some x → P (k, x)
  holds_found exact P k x [] h is = absurd (none-some x is)
  holds_found exact P k x (e ∷ es) h is = by (eq_by_cmp R k e.0) refl is (holds_found exact P k x es h.1)
    where
      by : (b : Bool) → eq_by_cmp R k e.0 ≡ b → cond b (Some e.1) (find R k es) ≡ Some x → (find R k es ≡ Some x → P (k, x)) → P (k, x)
      by true t is rest = subst P (λ i. (sym (exact k e.0 (equal (R k e.0) t)) i, same_Some e.1 x is i)) h.0
      by false t is rest = rest is

-- the names of the processes that are there were given
abbrev AreGiven : Flat → Type 0
AreGiven f = (me : ProcName) → is_some (f.processes me) ≡ true → is_given f.processes me ≡ true

-- ---- names below a name

-- the name r ends with these numbers, after those of `me`
abbrev IsUnder : ProcName → List ℕ → ProcName → Type 0
IsUnder me ws r = from_root r ≡ reverse_onto ws me

-- two names below one are ordered by their ends
ends_order : (me : ProcName) (xs ys : List ℕ) (a b : ProcName) → IsUnder me xs a → IsUnder me ys b → process_cmp a b ≡ slice_cmp nat_cmp xs ys
ends_order me xs ys a b at bt = (λ i. slice_cmp nat_cmp (at i) (bt i)) ∙ ends_decide nat_cmp nat_cmp_total me xs ys

-- a lesser number comes first
less_number : (n m : ℕ) → n < m → nat_cmp n m ≡ Less
less_number n m h = by (nat_cmp n m) refl
  where
    by : (o : Ordering) → nat_cmp n m ≡ o → nat_cmp n m ≡ Less
    by o e = grind arith

module _ (f : Flat) where
  -- the entry's name is `me`, or below it
  record IsBelow (me : ProcName) (e : Named) : Type 0 where
    ends : List ℕ
    is : IsUnder me ends e.0

  -- the entry's name is at or below a child of `me`, of this number or a later one
  record IsBelowChild (me : ProcName) (from : ℕ) (e : Named) : Type 0 where
    number : ℕ
    ends : List ℕ
    late : from ≤ number
    is : IsUnder me (number ∷ ends) e.0

  -- the names rise, and are at or below `me`
  record RiseBelow (me : ProcName) (es : List Named) : Type 0 where
    rise : T (is_sorted process_cmp es)
    below : AllOf process_cmp (IsBelow me) es

  record RiseBelowChildren (me : ProcName) (from : ℕ) (es : List Named) : Type 0 where
    rise : T (is_sorted process_cmp es)
    below : AllOf process_cmp (IsBelowChild me from) es

  later_child : (me : ProcName) (from next : ℕ) → from ≤ next → (e : Named) → IsBelowChild me next e → IsBelowChild me from e
  later_child me from next h e b = let late = b.late in record { number = b.number; ends = b.ends; late = omega arith; is = b.is }

  -- the lists of children rise together, one after another
  children_rise : (child : ℕ → List Named) (me : ProcName) → ((n : ℕ) → RiseBelow (n ∷ me) (child n)) → (count from : ℕ)
      → RiseBelowChildren me from (flat_map child (range_with_len from count))
  children_rise child me each zero from = record { rise = tt; below = tt }
  children_rise child me each (suc count) from =
      let one = each from in
      let rest = children_rise child me each count (from + 1) in
      let others = flat_map child (range_with_len (from + 1) count) in
      record {
        rise = rise_both process_cmp (child from) others one.rise rest.rise
            (all_so process_cmp (IsBelow (from ∷ me)) (λ e. AllOf process_cmp (λ d. process_cmp e.0 d.0 ≡ Less) others)
            (λ e b. all_so process_cmp (IsBelowChild me (from + 1)) (λ d. process_cmp e.0 d.0 ≡ Less)
            (λ d c. let late = c.late in ends_order me (from ∷ b.ends) (c.number ∷ c.ends) e.0 d.0 b.is c.is
            ∙ ap (λ o. ordering_then o (slice_cmp nat_cmp b.ends c.ends))
            (less_number from c.number (omega arith)))
            others rest.below) (child from) one.below);
        below = all_both process_cmp (IsBelowChild me from) (child from) others
            (all_so process_cmp (IsBelow (from ∷ me)) (IsBelowChild me from)
            (λ e b. record { number = from; ends = b.ends; late = omega arith; is = b.is }) (child from)
            one.below)
            (all_so process_cmp (IsBelowChild me (from + 1)) (IsBelowChild me from) (later_child me from (from + 1) (omega arith)) others rest.below);
      }

  -- a process in front of its children rises with them
  with_itself : (me : ProcName) (o : Option Process) (others : List Named) → RiseBelowChildren me 1 others → RiseBelow me (itself me o ++ others)
  with_itself me None others rest = record {
    rise = rest.rise;
    below = all_so process_cmp (IsBelowChild me 1) (IsBelow me) (λ e b. record { ends = b.number ∷ b.ends; is = b.is }) others rest.below;
  }
  with_itself me (Some p) others rest = record {
    rise = both (below_all process_cmp me others) _
        (below_each process_cmp me others (all_so process_cmp (IsBelowChild me 1) (λ d. process_cmp me d.0 ≡ Less)
        (λ d c. ends_order me [] (c.number ∷ c.ends) me d.0 refl c.is) others rest.below)) rest.rise;
    below = (
      record { ends = []; is = refl },
      all_so process_cmp (IsBelowChild me 1) (IsBelow me)
          (λ e b. record { ends = b.number ∷ b.ends; is = b.is }) others rest.below,
    );
  }

  running_rise : (levels : ℕ) (me : ProcName) → RiseBelow me (running_from levels f me)
  running_rise zero me = record { rise = tt; below = tt }
  running_rise (suc levels) me = by (f.processes me) (λ n. running_rise levels (n ∷ me))
    where
      by : (o : Option Process) → ((n : ℕ) → RiseBelow (n ∷ me) (running_from levels f (n ∷ me)))
          → RiseBelow me (and_children (λ n. running_from levels f (n ∷ me)) me o)
      by None each = record { rise = tt; below = tt }
      by (Some p) each = with_itself me (if_running (Some p)) (flat_map (λ n. running_from levels f (n ∷ me)) (range_with_len 1 p.born))
          (children_rise (λ n. running_from levels f (n ∷ me)) me each p.born 1)

  -- the entry is of a process that runs
  abbrev Runs : Named → Type 0
  Runs e = running f e.0 ≡ Some e.1

  children_run : (child : ℕ → List Named) → ((n : ℕ) → AllOf process_cmp Runs (child n)) → (ns : List ℕ) → AllOf process_cmp Runs (flat_map child ns)
  children_run child each [] = tt
  children_run child each (n ∷ ns) = all_both process_cmp Runs (child n) (flat_map child ns) (each n) (children_run child each ns)

  itself_runs : (me : ProcName) (o : Option Process) → running f me ≡ o → AllOf process_cmp Runs (itself me o)
  itself_runs me None e = tt
  itself_runs me (Some p) e = (e, tt)

  each_runs : (levels : ℕ) (me : ProcName) → AllOf process_cmp Runs (running_from levels f me)
  each_runs zero me = tt
  each_runs (suc levels) me = by (f.processes me) refl (λ n. each_runs levels (n ∷ me))
    where
      by : (o : Option Process) → f.processes me ≡ o
          → ((n : ℕ) → AllOf process_cmp Runs (running_from levels f (n ∷ me)))
          → AllOf process_cmp Runs (and_children (λ n. running_from levels f (n ∷ me)) me o)
      by None e each = tt
      by (Some p) e each =
          all_both process_cmp Runs (itself me (if_running (Some p))) (flat_map (λ n. running_from levels f (n ∷ me)) (range_with_len 1 p.born))
          (itself_runs me (if_running (Some p)) (ap if_running e)) (children_run (λ n. running_from levels f (n ∷ me)) each (range_with_len 1 p.born))

  -- if a name was given, the names above it were given
  given_above : (ws : List ℕ) (me : ProcName) → is_given f.processes (reverse_onto me ws) ≡ true → is_given f.processes me ≡ true
  given_above [] me h = h
  given_above (n ∷ ws) me h = (and_parts (was_given (f.processes me) n) (is_given f.processes me) (given_above ws (n ∷ me) h)).1

  -- the processes above one that is there are there
  there_above : AreJoined f → (ws : List ℕ) (me : ProcName) → is_some (f.processes (reverse_onto me ws)) ≡ true → is_some (f.processes me) ≡ true
  there_above joined [] me h = h
  there_above joined (n ∷ ws) me h = joined (n ∷ me) (there_above joined ws (n ∷ me) h)

  -- an entry of the list of one child is in the lists of all
  in_children : (child : ℕ → List Named) (e : Named) (n : ℕ) → IsIn process_cmp e (child n) → (count from : ℕ)
      → from ≤ n → n < from + count → IsIn process_cmp e (flat_map child (range_with_len from count))
  in_children child e n h zero from low high = absurd (omega arith)
  in_children child e n h (suc count) from low high = elim (split from n low) [
    | inl t ↦
        in_front process_cmp e (child from) (flat_map child (range_with_len (from + 1) count))
        (subst (λ k. IsIn process_cmp e (child k)) (sym t) h)
    | inr t ↦
        in_behind process_cmp e (child from) (flat_map child (range_with_len (from + 1) count))
        (in_children child e n h count (from + 1) t (omega arith))
  ]
    where
      split : (a b : ℕ) → a ≤ b → (a ≡ b) ⊎ (a + 1 ≤ b)
      split a b l = by (nat_le (a + 1) b) refl
        where
          by : (t : Bool) → nat_le (a + 1) b ≡ t → (a ≡ b) ⊎ (a + 1 ≤ b)
          by true e = inr (leb-true (a + 1) b e)
          by false e = inl (grind arith)

  -- the process at the end of these numbers is listed if it runs
  listed : AreJoined f → (levels : ℕ) (ws : List ℕ) (me : ProcName) (p : Process) → length ws < levels
      → running f (reverse_onto me ws) ≡ Some p → is_given f.processes (reverse_onto me ws) ≡ true
      → IsIn process_cmp (reverse_onto me ws, p) (running_from levels f me)
  listed joined zero ws me p short runs given = absurd (omega arith)
  listed joined (suc levels) [] me p short runs given = by (f.processes me) (runs_is_there (f.processes me) p runs)
    where
      by : (o : Option Process) → o ≡ Some p → IsIn process_cmp (me, p) (and_children (λ n. running_from levels f (n ∷ me)) me o)
      by None e = absurd (none-some p e)
      by (Some r) e =
          let it : if_running (Some r) ≡ Some p = ap if_running (e ∙ sym (runs_is_there (f.processes me) p runs)) ∙ runs in
          in_front process_cmp (me, p) (itself me (if_running (Some r))) (flat_map (λ n. running_from levels f (n ∷ me)) (range_with_len 1 r.born))
          (subst (λ (o : Option Process). IsIn process_cmp (me, p) (itself me o)) (sym it) (inl refl))
  listed joined (suc levels) (n ∷ ws) me p short runs given =
      by (f.processes me) (and_parts (was_given (f.processes me) n) (is_given f.processes me) (given_above ws (n ∷ me) given)).0
      (there_above joined (n ∷ ws) me (ap is_some (runs_is_there (f.processes (reverse_onto (n ∷ me) ws)) p runs)))
      (λ deep. listed joined levels ws (n ∷ me) p deep runs given)
    where
      by : (o : Option Process) → was_given o n ≡ true → is_some o ≡ true
          → (length ws < levels → IsIn process_cmp (reverse_onto (n ∷ me) ws, p) (running_from levels f (n ∷ me)))
          → IsIn process_cmp (reverse_onto (n ∷ me) ws, p) (and_children (λ k. running_from levels f (k ∷ me)) me o)
      by None e here inner = absurd (true≢false (sym here))
      by (Some r) e here inner =
          let parts = and_parts (nat_le 1 n) (nat_le n r.born) e in
          let low = leb-true 1 n parts.0 in
          let high = leb-true n r.born parts.1 in
          in_behind process_cmp (reverse_onto (n ∷ me) ws, p) (itself me (if_running (Some r)))
          (flat_map (λ k. running_from levels f (k ∷ me)) (range_with_len 1 r.born))
          (in_children (λ k. running_from levels f (k ∷ me)) (reverse_onto (n ∷ me) ws, p) n (inner (omega arith)) r.born 1 low (omega arith))

  -- a reversed name has as many numbers
  as_long : (ws me : List ℕ) → length (reverse_onto ws me) ≡ length ws + length me
  as_long ws [] = omega arith
  as_long ws (n ∷ me) = as_long (n ∷ ws) me ∙ omega arith

module _ (f : Flat) (named : HaveShownNames f) (joined : AreJoined f) (given : AreGiven f) where
  abbrev levels : ℕ
  levels = suc most_numbers

  -- a running process is found
  finds : (me : ProcName) (p : Process) → running f me ≡ Some p → find process_cmp me (running_from levels f []) ≡ Some p
  finds me p runs =
      let ws = from_root me in
      let back : reverse_onto [] ws ≡ me = from_root_twice me in
      let there = ap is_some (runs_is_there (f.processes me) p runs) in
      let few = named me there in
      let short : length ws < levels = omega (arith, as_long f [] me, few) in
      let entry = listed f joined levels ws [] p short (ap (running f) back ∙ runs) (ap (is_given f.processes) back ∙ given me there) in
      found_in process_cmp process_cmp_total process_cmp_exact me p (running_from levels f []) (running_rise f levels []).rise
      (subst (λ (k : ProcName). IsIn process_cmp (k, p) (running_from levels f [])) back entry)

  -- a process is found exactly if it runs
  finds_as : (me : ProcName) (o : Option Process) → running f me ≡ o → (r : Option Process)
      → find process_cmp me (running_from levels f []) ≡ r → r ≡ o
  finds_as me (Some p) e r is = sym is ∙ finds me p e
  finds_as me None e None is = refl
  finds_as me None e (Some p) is =
      absurd (none-some p (sym e
      ∙ holds_found process_cmp process_cmp_exact (Runs f) me p (running_from levels f [])
      (each_runs f levels []) is))

  pub are_running : AreRunning f (running_in f)
  unfolding running_in
  are_running = record {
    rising = (running_rise f levels []).rise;
    each = λ me. finds_as me (running f me) refl (find process_cmp me (running_from levels f [])) refl;
  }

-- after the calls of a script the processes of the table are exactly those that run, in the order of their names
pub running_are_listed : RunningAreListed
running_are_listed accounts calls =
    let f = flat_end accounts (boot accounts) calls in
    let placed = calls_place accounts calls in
    are_running f placed.named placed.joined (λ me here. given_to me (f.processes me) refl here)
  where
    given_to : (me : ProcName) (o : Option Process) → (flat_end accounts (boot accounts) calls).processes me ≡ o
        → is_some o ≡ true → is_given (flat_end accounts (boot accounts) calls).processes me ≡ true
    given_to me None e here = absurd (true≢false (sym here))
    given_to me (Some p) e here = (names_are_given_once.old accounts calls).of_processes me p e
