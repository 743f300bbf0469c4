-- The labels of a trace stay when the list of all exceptions grows.
use Rattle.std.proofs.Common.{◌≡◌, ℕ, ◌-◌, ◌≤◌, true, ◌&&◌, List, [], ◌∷◌, ◌++◌, Some, length, map, take, drop, refl, sym, ap, subst, ◌∙◌, arith}
use Rattle.std.specs.Prelude.{◌==◌, option_map}
use denote.Enum.Bare.{sameb}
use Rattle.std.specs.Cmp.Lexicographic.{pointwise}
use Rattle.std.proofs.lemmas.Option.{get_or_from_slice_get, slice_get-map, slice_get_within}
use Rattle.histar_level.specs.contracts.level.Level.{the_type}
use Rattle.histar_level.specs.Levels.{Levels, default_of, exceptions_of}
use Rattle.histar_level.proofs.Equality.{same_label}
use Rattle.histar_label.proofs.Canonical.{exceptions_of-from_exceptions}
use Rattle.histar_label.proofs.Equal.{is_same-from_exceptions}
use Rattle.histar_label.proofs.Listed.{IsRising-exceptions_of, ListsExceptions-exceptions_of}
use Rattle.std.proofs.lemmas.List.Elements.{Contains-get_or}
use Rattle.std.specs.List.{All, slice_get, slice_range}
use Rattle.std.proofs.lemmas.List.{drop-append-le, drop_at, length-append, length-drop, map-append, take-append-le, take_all}
use Rattle.std.proofs.lemmas.List.Elements.{All-append, All-cons, All-head, All-tail, All-weaker}
use Rattle.histar_level.specs.declared.level.Level.{Level}
use Rattle.histar_label.specs.Exceptions.{Exceptions, IsCanonical}
use Rattle.histar_label.proofs.Readers.{default_of-from_exceptions}
use Rattle.histar_label.specs.Levels.{from_exceptions}
use Rattle.histar_label.specs.Store.{Keeps}
use Rattle.histar_label.proofs.Floors.{from_exceptions-of}
use Rattle.histar_trace.specs.declared.labels.KeptLabel.{KeptLabel}
use Rattle.histar_trace.specs.Labels.{HasExceptions, exceptions_kept, label_kept}
use Rattle.histar_trace.proofs.Staying.{slice_get-push}

-- a part of a list stays when more comes behind
range_stays : {A : Type 0} (xs ys : List A) (a b : ℕ) → a ≤ b → b ≤ length xs → slice_range (xs ++ ys) a b ≡ slice_range xs a b
range_stays xs ys a b order within =
    ap (take (b - a)) (drop-append-le a xs ys (omega (arith, order, within)))
    ∙ take-append-le (b - a) (drop a xs) ys (rw (length-drop a xs) (omega (arith, order, within)))

-- the last part of a list is what was added
range_added : {A : Type 0} (xs ys : List A) → slice_range (xs ++ ys) (length xs) (length (xs ++ ys)) ≡ ys
range_added xs ys =
    ap (take (length (xs ++ ys) - length xs)) (drop_at xs ys (length xs) refl)
    ∙ take_all _ ys (rw (length-append xs ys) (omega arith))

module _ (all more : Exceptions) where
  -- the exceptions of a kept label stay
  exceptions_stay : (k : KeptLabel) → HasExceptions all k → exceptions_kept (all ++ more) k ≡ exceptions_kept all k
  exceptions_stay k has = range_stays all more k.first k.end has.in_order has.in_list

  still_has : (k : KeptLabel) → HasExceptions all k → HasExceptions (all ++ more) k
  still_has k has = record {
    in_order = has.in_order;
    in_list = rw (length-append all more) (omega (arith, has.in_list));
    canonical = subst (IsCanonical k.default) (sym (exceptions_stay k has)) has.canonical;
  }

  -- all labels stay
  pub labels_stay : (ks : List KeptLabel) → All (HasExceptions all) ks → map (label_kept (all ++ more)) ks ≡ map (label_kept all) ks
  labels_stay [] has = refl
  labels_stay (k ∷ ks) has = λ i.
      from_exceptions k.default (exceptions_stay k (All-head (HasExceptions all) k ks has) i)
      ∷ labels_stay ks (All-tail (HasExceptions all) k ks has) i

  -- the label that was added, with its exceptions last
  abbrev added : Level → KeptLabel
  added default = record { default = default; first = length all; end = length (all ++ more) }

  pub all_have : (ks : List KeptLabel) (default : Level) → IsCanonical default more → All (HasExceptions all) ks
      → All (HasExceptions (all ++ more)) (ks ++ added default ∷ [])
  all_have ks default canonical has =
      let new : HasExceptions (all ++ more) (added default) = record {
        in_order = rw (length-append all more) (omega arith);
        in_list = omega arith;
        canonical = subst (IsCanonical default) (sym (range_added all more)) canonical;
      } in
      All-append (HasExceptions (all ++ more)) ks (added default ∷ [])
      (All-weaker (HasExceptions all) (HasExceptions (all ++ more)) still_has ks has)
      (All-cons (HasExceptions (all ++ more)) (added default) [] new (λ i d lt. absurd (omega (arith, lt))))

  -- the labels with the one that was added
  pub labels_added : (ks : List KeptLabel) (default : Level) → All (HasExceptions all) ks
      → map (label_kept (all ++ more)) (ks ++ added default ∷ []) ≡ map (label_kept all) ks ++ from_exceptions default more ∷ []
  labels_added ks default has =
      map-append (label_kept (all ++ more)) ks (added default ∷ [])
      ∙ ap (λ (Ls : List Levels). Ls ++ label_kept (all ++ more) (added default) ∷ []) (labels_stay ks has)
      ∙ ap (λ (es : Exceptions). map (label_kept all) ks ++ from_exceptions default es ∷ []) (range_added all more)

-- a label that is added to a list is at its end, and all others stay
pub last_there : (Ls : List Levels) (L : Levels) (n : ℕ) → n ≡ length Ls → slice_get (Ls ++ L ∷ []) n ≡ Some L
last_there Ls L n is = ap (slice_get (Ls ++ L ∷ [])) is ∙ at_end Ls
  where
    at_end : (Ms : List Levels) → slice_get (Ms ++ L ∷ []) (length Ms) ≡ Some L
    at_end [] = refl
    at_end (M ∷ Ms) = at_end Ms

pub keeps_others : (Ls : List Levels) (L : Levels) → Keeps (slice_get Ls) (slice_get (Ls ++ L ∷ []))
keeps_others Ls L id M is = slice_get-push Ls L M id is

-- ---- a label that is found

-- a kept label with this default and these exceptions is the label
kept_is : (all : Exceptions) (k : KeptLabel) (L : Levels) → HasExceptions all k → true ≡ sameb the_type k.default (default_of L)
    → true ≡ pointwise (λ (e f : ℕ × Level). (e.0 == f.0) && sameb the_type e.1 f.1) (exceptions_kept all k) (exceptions_of L)
    → label_kept all k ≡ L
kept_is all k L has default exceptions =
    let K = label_kept all k in
    let same = λ (es : Exceptions). true ≡ pointwise (λ (e f : ℕ × Level). (e.0 == f.0) && sameb the_type e.1 f.1) es (exceptions_of L) in
    let default' = default ∙ ap (λ (d : Level). sameb the_type d (default_of L)) (sym (default_of-from_exceptions k.default (exceptions_kept all k)))
    in
    let back = subst same (sym (exceptions_of-from_exceptions k.default (exceptions_kept all k) has.canonical)) exceptions in
    same_label K L (sym (is_same-from_exceptions K L true default' back))

pub found_kept : (all : Exceptions) (ks : List KeptLabel) (id : ℕ) (k : KeptLabel) (L : Levels) → All (HasExceptions all) ks
    → slice_get ks id ≡ Some k → true ≡ sameb the_type k.default (default_of L)
    → true ≡ pointwise (λ (e f : ℕ × Level). (e.0 == f.0) && sameb the_type e.1 f.1) (exceptions_kept all k) (exceptions_of L)
    → slice_get (map (label_kept all) ks) id ≡ Some L
found_kept all ks id k L has there default exceptions =
    let here = subst (HasExceptions all) (get_or_from_slice_get ks id k k there) (has id k (slice_get_within ks id k there)) in
    slice_get-map (label_kept all) ks id
    ∙ ap (option_map (label_kept all)) there
    ∙ ap Some (kept_is all k L here default exceptions)

-- ---- a label that is added

-- the exceptions of a label are those of one
canonical_of : (L : Levels) → IsCanonical (default_of L) (exceptions_of L)
canonical_of L = record {
  rising = IsRising-exceptions_of L;
  differ = λ i d lt apart.
      let listed = (ListsExceptions-exceptions_of L _ _).0 (Contains-get_or (exceptions_of L) i d lt) in
      listed.1 apart;
}

-- what is kept before and after a label is added
pub record Adds (es es' : Exceptions) (ks ks' : List KeptLabel) (L : Levels) : Type 0 where
  pub exceptions : es' ≡ es ++ exceptions_of L
  pub labels : ks' ≡ ks ++ record { default = default_of L; first = length es; end = length es' } ∷ []

module _ (es es' : Exceptions) (ks ks' : List KeptLabel) (L : Levels) (adds : Adds es es' ks ks' L) (has : All (HasExceptions es) ks) where
  -- the list of labels, by the label that was added
  grown : ks' ≡ ks ++ record { default = default_of L; first = length es; end = length (es ++ exceptions_of L) } ∷ []
  grown = adds.labels ∙ (λ i. ks ++ record { default = default_of L; first = length es; end = length (adds.exceptions i) } ∷ [])

  pub still_have : All (HasExceptions es') ks'
  still_have =
      let all = all_have es (exceptions_of L) ks (default_of L) (canonical_of L) has in
      subst (λ (all : Exceptions). All (HasExceptions all) ks') (sym adds.exceptions)
      (subst (λ (new : List KeptLabel). All (HasExceptions (es ++ exceptions_of L)) new) (sym grown) all)

  pub one_more : map (label_kept es') ks' ≡ map (label_kept es) ks ++ L ∷ []
  one_more =
      (λ i. map (label_kept (adds.exceptions i)) (grown i))
      ∙ labels_added es (exceptions_of L) ks (default_of L) has
      ∙ ap (λ (M : Levels). map (label_kept es) ks ++ M ∷ []) (from_exceptions-of L)
