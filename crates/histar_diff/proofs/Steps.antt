-- One step of joining two lists of entries.
use Rattle.std.specs.Prelude.{◌≡◌, ℕ, suc, ◌+◌, ◌-◌, ◌<◌, ◌≤◌, Bool, true}
use Rattle.std.specs.Prelude.{false, cond, if◌then◌else◌, List, [], ◌∷◌, ◌++◌, length, map}
use Rattle.std.specs.Prelude.{Option, None, Some, refl}
use Rattle.std.specs.List.{flat_map}
use Rattle.std.proofs.Common.{arith, ap, sym, ◌∙◌, subst}
use Rattle.std.proofs.lemmas.Option.{none-some, same_Some}
use Rattle.std.specs.declared.cmp.Ordering.{Ordering}
use Rattle.std.specs.declared.cmp.Ordering.TheVariants.{Less, Equal, Greater}
use Rattle.std.specs.Ordering.{eq_by_cmp, is_eq, nat_cmp, ordering_reverse}
use Rattle.std.specs.Cmp.{IsTotalOrder, nat_cmp_total, tied_itself}
use Rattle.std.specs.Cmp.Lexicographic.{lists_total, slice_cmp}
use Rattle.std.specs.FinMap.Entries.{by_order}
use Rattle.std.specs.FinMap.{IsAntisymmetric, nat_cmp-IsAntisymmetric, slice_cmp-IsAntisymmetric}
use Rattle.histar_flat.specs.Words.{Path, ProcName}
use Rattle.histar_base.specs.Paths.{from_root, path_cmp}
use Rattle.histar_base.proofs.PathLaws.{from_root_twice, path_cmp_total}
use Rattle.histar_rights.specs.declared.rights.Rights.{Rights}
use Rattle.histar_rights.specs.Running.{process_cmp}
use Rattle.histar_diff.specs.declared.table.Runner.{Runner}
use Rattle.histar_diff.specs.declared.table.TableLine.{TableLine}
use Rattle.histar_diff.specs.declared.columns.Column.{Column}
use Rattle.histar_diff.specs.Joining.{Joined, OnlyOld, OnlyNew, InBoth, at_key, joined, lower, new_of, old_of, past_key}
use Rattle.histar_diff.specs.declared.columns.Placed.{Placed}
use Rattle.histar_diff.specs.Tables.{by_path, by_process}
use Rattle.histar_diff.specs.Columns.{column, columns_from, leading, past_process, place_at}
use Rattle.histar_diff.specs.Lines.{joined_differences, lines_differences}

-- an order of the images under a function is an order
pub by_image : {A B : Type 0} (h : A → B) (R : B → B → Ordering) → IsTotalOrder R → IsTotalOrder (λ x y. R (h x) (h y))
by_image h R o = record
    { antisymm = λ x y. o.antisymm (h x) (h y); trans = λ x y z. o.trans (h x) (h y) (h z); congr = λ x y z. o.congr (h x) (h y) (h z) }

-- the order of processes is total
pub process_cmp_total : IsTotalOrder process_cmp
process_cmp_total = by_image from_root (slice_cmp nat_cmp) (lists_total nat_cmp_total)

-- two names tie only if they are equal
pub process_cmp_exact : IsAntisymmetric process_cmp
process_cmp_exact a b e = sym (from_root_twice a) ∙ ap from_root (slice_cmp-IsAntisymmetric nat_cmp-IsAntisymmetric (from_root a) (from_root b) e)
    ∙ from_root_twice b

module _ {K A B : Type 0} (R : K → K → Ordering) (total : IsTotalOrder R) where
  -- two lists joined begin with their least key, and the values of both at this key
  pub record IsStep (k : K) (xs : List (K × A)) (ys : List (K × B)) : Type 0 where
    pub value : Joined A B
    pub is : joined R xs ys ≡ (k, value) ∷ joined R (past_key R k xs) (past_key R k ys)
    pub old : old_of value ≡ at_key R k xs
    pub new : new_of value ≡ at_key R k ys
    pub shorter : length (past_key R k xs) + length (past_key R k ys) < length xs + length ys

  only_new : (y : K × B) (ys : List (K × B)) → IsStep y.0 [] (y ∷ ys)
  only_new y ys =
      let t = tied_itself total y.0 in
      let past : past_key R y.0 (y ∷ ys) ≡ ys = λ i. cond (is_eq (t i)) ys (y ∷ ys) in
      let less = ap length past in
      record {
        value = OnlyNew y.1;
        is = λ i. (y.0, OnlyNew y.1) ∷ joined R [] (sym past i);
        old = refl;
        new = λ i. cond (is_eq (sym t i)) (Some y.1) None;
        shorter = omega (arith, less);
      }

  only_old : (x : K × A) (xs : List (K × A)) → IsStep x.0 (x ∷ xs) []
  only_old x xs =
      let t = tied_itself total x.0 in
      let past : past_key R x.0 (x ∷ xs) ≡ xs = λ i. cond (is_eq (t i)) xs (x ∷ xs) in
      let less = ap length past in
      record {
        value = OnlyOld x.1;
        is = λ i. (x.0, OnlyOld x.1) ∷ joined R (sym past i) [];
        old = λ i. cond (is_eq (sym t i)) (Some x.1) None;
        new = refl;
        shorter = omega (arith, less);
      }

  of_both : (x : K × A) (xs : List (K × A)) (y : K × B) (ys : List (K × B)) (o : Ordering) → R x.0 y.0 ≡ o
      → IsStep (by_order o x.0 x.0 y.0) (x ∷ xs) (y ∷ ys)
  of_both x xs y ys Less e =
      let t = tied_itself total x.0 in
      let past : past_key R x.0 (x ∷ xs) ≡ xs = λ i. cond (is_eq (t i)) xs (x ∷ xs) in
      let stays : past_key R x.0 (y ∷ ys) ≡ y ∷ ys = λ i. cond (is_eq (e i)) ys (y ∷ ys) in
      let less = ap length past in
      let same = ap length stays in
      record {
        value = OnlyOld x.1;
        is = (λ i. by_order (e i) ((x.0, OnlyOld x.1) ∷ joined R xs (y ∷ ys)) ((x.0, InBoth x.1 y.1) ∷ joined R xs ys)
            ((y.0, OnlyNew y.1) ∷ joined R (x ∷ xs) ys))
            ∙ (λ i. (x.0, OnlyOld x.1) ∷ joined R (sym past i) (sym stays i));
        old = λ i. cond (is_eq (sym t i)) (Some x.1) None;
        new = λ i. cond (is_eq (sym e i)) (Some y.1) None;
        shorter = omega (arith, less, same);
      }
  of_both x xs y ys Equal e =
      let t = tied_itself total x.0 in
      let past : past_key R x.0 (x ∷ xs) ≡ xs = λ i. cond (is_eq (t i)) xs (x ∷ xs) in
      let other : past_key R x.0 (y ∷ ys) ≡ ys = λ i. cond (is_eq (e i)) ys (y ∷ ys) in
      let less = ap length past in
      let same = ap length other in
      record {
        value = InBoth x.1 y.1;
        is = (λ i. by_order (e i) ((x.0, OnlyOld x.1) ∷ joined R xs (y ∷ ys)) ((x.0, InBoth x.1 y.1) ∷ joined R xs ys)
            ((y.0, OnlyNew y.1) ∷ joined R (x ∷ xs) ys))
            ∙ (λ i. (x.0, InBoth x.1 y.1) ∷ joined R (sym past i) (sym other i));
        old = λ i. cond (is_eq (sym t i)) (Some x.1) None;
        new = λ i. cond (is_eq (sym e i)) (Some y.1) None;
        shorter = omega (arith, less, same);
      }
  of_both x xs y ys Greater e =
      let t = tied_itself total y.0 in
      let back : R y.0 x.0 ≡ Less = total.antisymm y.0 x.0 ∙ ap ordering_reverse e in
      let stays : past_key R y.0 (x ∷ xs) ≡ x ∷ xs = λ i. cond (is_eq (back i)) xs (x ∷ xs) in
      let past : past_key R y.0 (y ∷ ys) ≡ ys = λ i. cond (is_eq (t i)) ys (y ∷ ys) in
      let less = ap length past in
      let same = ap length stays in
      record {
        value = OnlyNew y.1;
        is = (λ i. by_order (e i) ((x.0, OnlyOld x.1) ∷ joined R xs (y ∷ ys)) ((x.0, InBoth x.1 y.1) ∷ joined R xs ys)
            ((y.0, OnlyNew y.1) ∷ joined R (x ∷ xs) ys))
            ∙ (λ i. (y.0, OnlyNew y.1) ∷ joined R (sym stays i) (sym past i));
        old = λ i. cond (is_eq (sym back i)) (Some x.1) None;
        new = λ i. cond (is_eq (sym t i)) (Some y.1) None;
        shorter = omega (arith, less, same);
      }

  pub step : (k : K) (xs : List (K × A)) (ys : List (K × B)) → lower R xs ys ≡ Some k → IsStep k xs ys
  step k [] [] e = absurd (none-some k e)
  step k [] (y ∷ ys) e = subst (λ k. IsStep k [] (y ∷ ys)) (same_Some y.0 k e) (only_new y ys)
  step k (x ∷ xs) [] e = subst (λ k. IsStep k (x ∷ xs) []) (same_Some x.0 k e) (only_old x xs)
  step k (x ∷ xs) (y ∷ ys) e = subst (λ k. IsStep k (x ∷ xs) (y ∷ ys)) (same_Some (by_order (R x.0 y.0) x.0 x.0 y.0) k e)
      (of_both x xs y ys (R x.0 y.0) refl)

  -- if there is no least key, the join is empty
  pub joined_nothing : (xs : List (K × A)) (ys : List (K × B)) → lower R xs ys ≡ None → joined R xs ys ≡ []
  joined_nothing [] [] e = refl
  joined_nothing [] (y ∷ ys) e = absurd (none-some y.0 (sym e))
  joined_nothing (x ∷ xs) [] e = absurd (none-some x.0 (sym e))
  joined_nothing (x ∷ xs) (y ∷ ys) e = absurd (none-some (by_order (R x.0 y.0) x.0 x.0 y.0) (sym e))

-- ---- lines

-- what is listed at the paths of two lists of lines is that at their first path, and then that of the lines after it
pub lines_step : {X : Type 0} (F : Path → Option (List Rights) → Option (List Rights) → List X) (q : Path)
    (old new old_rest new_rest : List TableLine) → lower path_cmp (by_path old) (by_path new) ≡ Some q
    → by_path old_rest ≡ past_key path_cmp q (by_path old) → by_path new_rest ≡ past_key path_cmp q (by_path new)
    → flat_map (λ e. F e.0 (old_of e.1) (new_of e.1)) (joined path_cmp (by_path old) (by_path new))
    ≡ F q (at_key path_cmp q (by_path old)) (at_key path_cmp q (by_path new))
    ++ flat_map (λ e. F e.0 (old_of e.1) (new_of e.1)) (joined path_cmp (by_path old_rest) (by_path new_rest))
lines_step F q old new old_rest new_rest e o n =
    let s = step path_cmp path_cmp_total q (by_path old) (by_path new) e in
    ap (flat_map (λ e. F e.0 (old_of e.1) (new_of e.1))) s.is
    ∙ (λ i. F q (s.old i) (s.new i) ++ flat_map (λ e. F e.0 (old_of e.1) (new_of e.1))
    (joined path_cmp (sym o i) (sym n i)))

-- if there is no first path, there are no differences
pub lines_end : (columns : List Column) (old new : List TableLine) → lower path_cmp (by_path old) (by_path new) ≡ None
    → lines_differences columns old new ≡ []
lines_end columns old new e = ap (flat_map (joined_differences columns)) (joined_nothing path_cmp path_cmp_total (by_path old) (by_path new) e)

as_many : (lines : List TableLine) → length (by_path lines) ≡ length lines
as_many [] = refl
as_many (l ∷ lines) = ap suc (as_many lines)

-- there are fewer lines after the first path
pub fewer_lines : (q : Path) (old new old_rest new_rest : List TableLine) → lower path_cmp (by_path old) (by_path new) ≡ Some q
    → by_path old_rest ≡ past_key path_cmp q (by_path old) → by_path new_rest ≡ past_key path_cmp q (by_path new)
    → length old_rest + length new_rest < length old + length new
fewer_lines q old new old_rest new_rest e o n =
    let s = step path_cmp path_cmp_total q (by_path old) (by_path new) e in
    let shorter = s.shorter in
    let left = ap length o in
    let right = ap length n in
    omega (arith, shorter, left, right, as_many old, as_many new, as_many old_rest, as_many new_rest)

-- ---- processes

-- the place after one within a list
next_place : (n m : ℕ) → suc m ≤ n → (n - suc m) + 1 ≡ n - m
next_place n m h = omega arith

-- a process is found at the front of a list by its place
at_front : (i : ℕ) (p : ProcName) (rs : List Runner) → at_key process_cmp p (by_process i rs) ≡ place_at i p rs
at_front i p [] = refl
at_front i p (r ∷ rs) = refl

-- the list after a process has the places that it had
past_front : (n : ℕ) (p : ProcName) (rs : List Runner) → length rs ≤ n
    → past_key process_cmp p (by_process (n - length rs) rs) ≡ by_process (n - length (past_process p rs)) (past_process p rs)
past_front n p [] h = refl
past_front n p (r ∷ rs) h = by (eq_by_cmp process_cmp p r.process)
  where
    by : (t : Bool)
        → (if t then by_process ((n - length (r ∷ rs)) + 1) rs else by_process (n - length (r ∷ rs)) (r ∷ rs))
        ≡ by_process (n - length (if t then rs else r ∷ rs)) (if t then rs else r ∷ rs)
    by true = ap (λ i. by_process i rs) (next_place n (length rs) h)
    by false = refl

-- the first process of two lists, whatever their places
leads : (i j : ℕ) (xs ys : List Runner) → lower process_cmp (by_process i xs) (by_process j ys) ≡ leading xs ys
leads i j [] [] = refl
leads i j [] (y ∷ ys) = refl
leads i j (x ∷ xs) [] = refl
leads i j (x ∷ xs) (y ∷ ys) = refl

-- the list after a process is no longer
no_longer : (p : ProcName) (rs : List Runner) → length (past_process p rs) ≤ length rs
no_longer p [] = omega arith
no_longer p (r ∷ rs) = by (eq_by_cmp process_cmp p r.process)
  where
    by : (t : Bool) → length (if t then rs else r ∷ rs) ≤ length (r ∷ rs)
    by true = omega arith
    by false = omega arith

as_many_placed : (i : ℕ) (rs : List Runner) → length (by_process i rs) ≡ length rs
as_many_placed i [] = refl
as_many_placed i (r ∷ rs) = ap suc (as_many_placed (i + 1) rs)

-- the column of this process
abbrev pub column_of : ProcName → Option Placed → Option Placed → Column
column_of p old new = record { process = p; old = old; new = new }

-- the columns of two lists are that of their first process, and then those of the processes after it
pub record IsColumnStep (p : ProcName) (n m : ℕ) (xs ys : List Runner) : Type 0 where
  pub is : columns_from (n - length xs) xs (m - length ys) ys
      ≡ column_of p (place_at (n - length xs) p xs) (place_at (m - length ys) p ys)
      ∷ columns_from (n - length (past_process p xs)) (past_process p xs) (m - length (past_process p ys)) (past_process p ys)
  pub old_shorter : length (past_process p xs) ≤ length xs
  pub new_shorter : length (past_process p ys) ≤ length ys
  pub shorter : length (past_process p xs) + length (past_process p ys) < length xs + length ys

pub columns_step : (n m : ℕ) (p : ProcName) (xs ys : List Runner) → leading xs ys ≡ Some p → length xs ≤ n → length ys ≤ m
    → IsColumnStep p n m xs ys
columns_step n m p xs ys e h k =
    let i = n - length xs in
    let j = m - length ys in
    let s = step process_cmp process_cmp_total p (by_process i xs) (by_process j ys) (leads i j xs ys ∙ e) in
    let left = past_front n p xs h in
    let right = past_front m p ys k in
    let old = ap length left in
    let new = ap length right in
    let shorter = s.shorter in
    record {
      is = ap (map column) s.is
          ∙ (λ a. column_of p (s.old a) (s.new a) ∷ map column (joined process_cmp (left a) (right a)))
          ∙ (λ a. column_of p (at_front i p xs a) (at_front j p ys a)
          ∷ columns_from (n - length (past_process p xs)) (past_process p xs) (m - length (past_process p ys)) (past_process p ys));
      old_shorter = no_longer p xs;
      new_shorter = no_longer p ys;
      shorter = omega (
        arith,
        shorter,
        old,
        new,
        as_many_placed i xs,
        as_many_placed j ys,
        as_many_placed (n - length (past_process p xs)) (past_process p xs),
        as_many_placed (m - length (past_process p ys)) (past_process p ys),
      );
    }

-- if there is no first process, there are no columns
pub columns_end : (i j : ℕ) (xs ys : List Runner) → leading xs ys ≡ None → columns_from i xs j ys ≡ []
columns_end i j xs ys e = ap (map column) (joined_nothing process_cmp process_cmp_total (by_process i xs) (by_process j ys) (leads i j xs ys ∙ e))
