-- Each name of a path is a name.
use Rattle.std.proofs.Common.{ℕ, zero, suc, ◌≡◌, ◌≤◌, Bool, true, false, ◌&&◌, List, [], ◌∷◌, length, slice_set, IsTrue, refl, arith}
use Rattle.std.specs.Prelude.{nat_le}
use Rattle.std.specs.List.{list_all}
use Rattle.std.proofs.lemmas.Bool.Decides.{nat_tests}
use Rattle.histar_flat.specs.Words.{Path, most_names, is_name, is_path}

-- two tests that pass together pass each
pub both_pass : (a b : Bool) → IsTrue (a && b) → IsTrue a × IsTrue b
both_pass true b h = (refl, h)
both_pass false b h = absurd cc

-- two tests that pass each pass together
pub pass_both : (a b : Bool) → IsTrue a → IsTrue b → IsTrue (a && b)
pass_both true b h k = k
pass_both false b h k = absurd cc

-- a path has at most eight names
pub path_is_short : (q : Path) → IsTrue (is_path q) → length q ≤ most_names
path_is_short q right = by (nat_le (length q) most_names) refl (both_pass (nat_le (length q) most_names) (list_all is_name q) right).0
  where
    by : (b : Bool) → nat_le (length q) most_names ≡ b → IsTrue b → length q ≤ most_names
    by true e h = grind (arith, nat_tests, e)
    by false e h = absurd cc

-- each name of a path is a name
pub path_is_named : (q : Path) → IsTrue (is_path q) → IsTrue (list_all is_name q)
path_is_named q right = (both_pass (nat_le (length q) most_names) (list_all is_name q) right).1

-- at most eight names are a path
pub path_from_names : (q : Path) → length q ≤ most_names → IsTrue (list_all is_name q) → IsTrue (is_path q)
path_from_names q short named = pass_both (nat_le (length q) most_names) (list_all is_name q) (by (nat_le (length q) most_names) refl) named
  where
    by : (b : Bool) → nat_le (length q) most_names ≡ b → IsTrue b
    by true e = refl
    by false e = absurd (grind (arith, nat_tests, e))

-- a path stays one when a name is put in the place of another
pub named_set : (q : Path) (i : ℕ) (name : List ℕ) → IsTrue (is_name name) → IsTrue (list_all is_name q)
    → IsTrue (list_all is_name (slice_set q i name))
named_set [] i name right named = named
named_set (n ∷ d) zero name right named = pass_both (is_name name) (list_all is_name d) right (both_pass (is_name n) (list_all is_name d) named).1
named_set (n ∷ d) (suc i) name right named =
    let parts = both_pass (is_name n) (list_all is_name d) named in
    pass_both (is_name n) (list_all is_name (slice_set d i name)) parts.0 (named_set d i name right parts.1)
