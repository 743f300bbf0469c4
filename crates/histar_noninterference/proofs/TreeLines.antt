-- The first difference of the lines of two trees is the first path at which the trees differ.
use Rattle.std.specs.Prelude.{Bool, List, None, Option, Some, [], codes, cond, false, map, nat_eq, not, refl, true, ℕ, ◌&&◌, ◌++◌, ◌||◌, ◌∷◌, ◌≡◌}
use Rattle.std.specs.Prelude.{◌≢◌}
use Rattle.std.proofs.Common.{ap, sym, ◌∙◌}
use Rattle.std.proofs.lemmas.Bool.{and_parts}
use Rattle.std.specs.FinMap.{find, is_sorted}
use Rattle.std.specs.FinMap.Entries.{below_all, by_order}
use Rattle.std.specs.Ordering.{is_lt}
use Rattle.std.specs.declared.cmp.Ordering.{Ordering}
use Rattle.std.specs.declared.cmp.Ordering.TheVariants.{Equal, Greater, Less}
use Rattle.std.proofs.Math.Bool.{and-true}
use Rattle.histar_flat.specs.Files.{from_list, get}
use Rattle.histar_flat.specs.FlatState.{Flat, Node}
use Rattle.histar_flat.specs.Meaning.{boot, flat_end, meaning}
use Rattle.histar_base.specs.Paths.{path_cmp, same}
use Rattle.histar_base.proofs.PathLaws.{path_cmp_exact}
use Rattle.histar_flat.specs.Texts.{path_text}
use Rattle.histar_flat.specs.Words.{Path}
use Rattle.histar_flat.proofs.FileLemmas.{same_name_found}
use Rattle.histar_flat.proofs.Under.{apart}
use Rattle.histar_flat.proofs.Finding.{is_less}
use Rattle.histar_noninterference.specs.Comparison.{first_that, node_text, text_at}
use Rattle.histar_noninterference.specs.Following.{directory_of}
use Rattle.histar_noninterference.specs.Trees.{FindsFirstPath, PathText, difference_from, first_difference, first_kept, is_below_either, tree_lines}
use Rattle.histar_noninterference.proofs.Followed.{finds_left_out}
use Rattle.histar_noninterference.proofs.Unions.{IsBelow, Nodes, Rises, below_other, below_tied, below_union, entries_of_both, find_below, find_here}
use Rattle.histar_noninterference.proofs.Unions.{find_past, holds, paths_of, turned_greater, union, union_from}

abbrev lines_of : Nodes → List PathText
lines_of es = map (λ e. (e.0, node_text e.0 e.1)) es

-- a text with something before it is not empty
goes_on : (first later : List ℕ) → first ≢ [] → first ++ later ≢ []
goes_on [] later some e = some refl
goes_on (b ∷ first) later some e = cc

-- a text with a space at its end is not empty
has_space : (first : List ℕ) → first ++ codes " " ≢ []
has_space [] e = cc
has_space (b ∷ first) e = cc

-- the text of a path is not empty
node_has_text : (q : Path) (node : Node) → node_text q node ≢ []
node_has_text q node = goes_on _ _ (goes_on _ _ (has_space (path_text q)))

-- tests that agree above a path find the same path in a list above it
agree : (P Q : Path → Bool) (x : Path) (es : Nodes) → IsBelow x es → ((q : Path) → path_cmp x q ≡ Less → P q ≡ Q q)
    → first_that P (paths_of es) ≡ first_that Q (paths_of es)
agree P Q x [] h same_test = refl
agree P Q x (e ∷ es) h same_test =
    let parts = and_parts (is_lt (path_cmp x e.0)) (below_all path_cmp x es) h in
    λ i. cond (same_test e.0 (is_less (path_cmp x e.0) parts.0) i) (Some e.0) (agree P Q x es parts.1 same_test i)

module _ (left_out : Path → Bool) where
  -- two lists of entries differ at a path that is not left out
  abbrev differ : Nodes → Nodes → Path → Bool
  differ as' bs q = not (left_out q) && not (same (text_at q (find path_cmp q as')) (text_at q (find path_cmp q bs)))

  -- one step of the search: the test fails at a path that is passed over, and else holds
  one_step : (P : Path → Bool) (q : Path) (paths : List Path) (passed_over : Bool) (rest : Option Path) → P q ≡ not passed_over
      → first_that P paths ≡ rest → first_that P (q ∷ paths) ≡ cond passed_over rest (Some q)
  one_step P q paths passed_over rest e h = (λ i. cond (e i) (Some q) (h i)) ∙ turn passed_over
    where
      turn : (b : Bool) → cond (not b) (Some q) rest ≡ cond b rest (Some q)
      turn true = refl
      turn false = refl

  -- if a path is in one list only, the lists differ there
  in_first : (as' bs : Nodes) (q : Path) (node : Node) → find path_cmp q as' ≡ Some node → find path_cmp q bs ≡ None
      → differ as' bs q ≡ not (left_out q)
  in_first as' bs q node here there =
      (λ i. not (left_out q) && not (same (text_at q (here i)) (text_at q (there i))))
      ∙ ap (λ b. not (left_out q) && not b) (apart nat_eq same_name_found (node_text q node) [] (node_has_text q node))
      ∙ and-true (not (left_out q))

  in_second : (as' bs : Nodes) (q : Path) (node : Node) → find path_cmp q as' ≡ None → find path_cmp q bs ≡ Some node
      → differ as' bs q ≡ not (left_out q)
  in_second as' bs q node here there =
      (λ i. not (left_out q) && not (same (text_at q (here i)) (text_at q (there i))))
      ∙ ap (λ b. not (left_out q) && not b) (apart nat_eq same_name_found [] (node_text q node) (λ e. node_has_text q node (sym e)))
      ∙ and-true (not (left_out q))

  -- if a path is in both lists, they differ there if the texts do
  in_both_lists : (as' bs : Nodes) (q : Path) (x y : Node) → find path_cmp q as' ≡ Some x → find path_cmp q bs ≡ Some y
      → differ as' bs q ≡ not (left_out q || same (node_text q x) (node_text q y))
  in_both_lists as' bs q x y here there =
      (λ i. not (left_out q) && not (same (text_at q (here i)) (text_at q (there i)))) ∙ by (left_out q)
    where
      by : (b : Bool) → (not b && not (same (node_text q x) (node_text q y))) ≡ not (b || same (node_text q x) (node_text q y))
      by true = refl
      by false = refl

  -- if the other list is at its end, the lists differ at the first line that is not left out
  pub first_difference-nil : (as' : List PathText) → first_difference left_out as' [] ≡ first_kept left_out as'
  first_difference-nil [] = refl
  first_difference-nil (a ∷ as') = λ i. cond (left_out a.0) (first_difference-nil as' i) (Some a.0)

  -- above the first entry of a list the test is that of the rest of the list
  behind_first : (a : Path × Node) (as' bs : Nodes) (q : Path) → path_cmp a.0 q ≡ Less → differ (a ∷ as') bs q ≡ differ as' bs q
  behind_first a as' bs q less = λ i. not (left_out q) && not (same (text_at q (find_past a as' q less i)) (text_at q (find path_cmp q bs)))

  behind_second : (b : Path × Node) (as' bs : Nodes) (q : Path) → path_cmp b.0 q ≡ Less → differ as' (b ∷ bs) q ≡ differ as' bs q
  behind_second b as' bs q less =
      λ i. not (left_out q) && not (same (text_at q (find path_cmp q as')) (text_at q (find_past b bs q less i)))

  -- the case of one list, with the other at its end
  one_list : (bs : Nodes) → Rises bs → first_that (differ [] bs) (paths_of bs) ≡ first_kept left_out (lines_of bs)
  one_list [] h = refl
  one_list (b ∷ bs) h =
      let parts = and_parts (below_all path_cmp b.0 bs) (is_sorted path_cmp bs) h in
      one_step (differ [] (b ∷ bs)) b.0 (paths_of bs) (left_out b.0) (first_kept left_out (lines_of bs))
      (in_second [] (b ∷ bs) b.0 b.1 refl (find_here b bs))
      (agree (differ [] (b ∷ bs)) (differ [] bs) b.0 bs parts.0 (behind_second b [] bs) ∙ one_list bs parts.1)

  -- The test finds in the union what a comparison side by side finds: if the first list begins with a ..
  from_first : (a : Path × Node) (as' : Nodes) → IsBelow a.0 as'
      → ((cs : Nodes) → Rises cs → first_that (differ as' cs) (paths_of (union as' cs)) ≡ first_difference left_out (lines_of as')
      (lines_of cs))
      → (bs : Nodes) → Rises bs
      → first_that (differ (a ∷ as') bs) (paths_of (union_from a (union as') bs)) ≡ difference_from left_out (a.0, node_text a.0 a.1)
      (first_difference left_out (lines_of as')) (lines_of bs)
  from_first a as' ha each [] h =
      one_step (differ (a ∷ as') []) a.0 (paths_of (union as' [])) (left_out a.0) (first_difference left_out (lines_of as') [])
      (in_first (a ∷ as') [] a.0 a.1 (find_here a as') refl)
      (agree (differ (a ∷ as') []) (differ as' []) a.0 (union as' []) (below_union a.0 as' [] ha refl) (behind_first a as' [])
      ∙ each [] refl)
  from_first a as' ha each (b ∷ bs) h = by (path_cmp a.0 b.0) refl (from_first a as' ha each bs parts.1)
    where
      parts : (below_all path_cmp b.0 bs ≡ true) × (is_sorted path_cmp bs ≡ true)
      parts = and_parts (below_all path_cmp b.0 bs) (is_sorted path_cmp bs) h

      AlsoSo : Type 0
      AlsoSo =
          first_that (differ (a ∷ as') bs) (paths_of (union_from a (union as') bs)) ≡ difference_from left_out (a.0, node_text a.0 a.1)
          (first_difference left_out (lines_of as')) (lines_of bs)

      by : (r : Ordering) → path_cmp a.0 b.0 ≡ r → AlsoSo
          → first_that (differ (a ∷ as') (b ∷ bs))
          (paths_of (by_order r (a ∷ union as' (b ∷ bs)) (a ∷ union as' bs) (b ∷ union_from a (union as') bs)))
          ≡ by_order r (cond (left_out a.0) (first_difference left_out (lines_of as') (lines_of (b ∷ bs))) (Some a.0))
          (cond (left_out a.0 || same (node_text a.0 a.1) (node_text b.0 b.1)) (first_difference left_out (lines_of as') (lines_of bs))
          (Some a.0))
          (cond (left_out b.0) (difference_from left_out (a.0, node_text a.0 a.1) (first_difference left_out (lines_of as')) (lines_of bs))
          (Some b.0))
      by Less e later =
          let below = below_other a.0 b bs e parts.0 in
          one_step (differ (a ∷ as') (b ∷ bs)) a.0 (paths_of (union as' (b ∷ bs))) (left_out a.0)
          (first_difference left_out (lines_of as') (lines_of (b ∷ bs)))
          (in_first (a ∷ as') (b ∷ bs) a.0 a.1 (find_here a as') (find_below a.0 (b ∷ bs) below))
          (agree (differ (a ∷ as') (b ∷ bs)) (differ as' (b ∷ bs)) a.0 (union as' (b ∷ bs)) (below_union a.0 as' (b ∷ bs) ha below)
          (behind_first a as' (b ∷ bs)) ∙ each (b ∷ bs) h)
      by Equal e later =
          let same_place = path_cmp_exact a.0 b.0 e in
          one_step (differ (a ∷ as') (b ∷ bs)) a.0 (paths_of (union as' bs)) (left_out a.0 || same (node_text a.0 a.1) (node_text b.0 b.1))
          (first_difference left_out (lines_of as') (lines_of bs))
          (in_both_lists (a ∷ as') (b ∷ bs) a.0 a.1 b.1 (find_here a as') (ap (λ q. find path_cmp q (b ∷ bs)) same_place ∙ find_here b bs)
          ∙ ap (λ q. not (left_out a.0 || same (node_text a.0 a.1) (node_text q b.1))) same_place)
          (agree (differ (a ∷ as') (b ∷ bs)) (differ as' bs) a.0 (union as' bs)
          (below_union a.0 as' bs ha (below_tied a.0 b.0 bs e parts.0))
          (λ q less. behind_first a as' (b ∷ bs) q less ∙ behind_second b as' bs q (ap (λ z. path_cmp z q) (sym same_place) ∙ less))
          ∙ each bs parts.1)
      by Greater e later =
          let less = turned_greater a.0 b.0 e in
          let below = below_other b.0 a as' less ha in
          one_step (differ (a ∷ as') (b ∷ bs)) b.0 (paths_of (union_from a (union as') bs)) (left_out b.0)
          (difference_from left_out (a.0, node_text a.0 a.1) (first_difference left_out (lines_of as')) (lines_of bs))
          (in_second (a ∷ as') (b ∷ bs) b.0 b.1 (find_below b.0 (a ∷ as') below) (find_here b bs))
          (agree (differ (a ∷ as') (b ∷ bs)) (differ (a ∷ as') bs) b.0 (union_from a (union as') bs)
          (below_union b.0 (a ∷ as') bs below parts.0) (behind_second b (a ∷ as') bs)
          ∙ later)

  -- .. and for all lists.
  pub side_by_side : (as' bs : Nodes) → Rises as' → Rises bs
      → first_that (differ as' bs) (paths_of (union as' bs)) ≡ first_difference left_out (lines_of as') (lines_of bs)
  side_by_side [] bs ha hb = one_list bs hb
  side_by_side (a ∷ as') bs ha hb =
      let parts = and_parts (below_all path_cmp a.0 as') (is_sorted path_cmp as') ha in
      from_first a as' parts.0 (λ cs hc. side_by_side as' cs parts.1 hc) bs hb

  -- The first path of two trees that passes the test is the first difference of their lines.
  pub first_of_trees : (f g : Flat)
      → first_that (differ f.files.entries g.files.entries)
      (paths_of (from_list (f.files.entries ++ g.files.entries)).entries) ≡ first_difference left_out (tree_lines f) (tree_lines g)
  first_of_trees f g =
      ap (λ es. first_that (differ f.files.entries g.files.entries) (paths_of es)) (entries_of_both f.files g.files)
      ∙ side_by_side f.files.entries g.files.entries (holds (is_sorted path_cmp f.files.entries) f.files.sorted)
      (holds (is_sorted path_cmp g.files.entries) g.files.sorted)

-- The first path at which the trees of two runs differ is the first difference of their lines, when what lies below the followed
-- directories is left out.
pub finds_first_path : FindsFirstPath
finds_first_path accounts calls others job =
    (λ i. first_that (λ q. not (finds_left_out accounts calls job q i || finds_left_out accounts others job q i) && not
    (same (text_at q (get f.files q)) (text_at q (get g.files q))))
    (paths_of (from_list (f.files.entries ++ g.files.entries)).entries))
    ∙ first_of_trees (is_below_either (directory_of job None (meaning accounts calls)) (directory_of job None (meaning accounts others))) f g
  where
    f : Flat
    f = flat_end accounts (boot accounts) calls

    g : Flat
    g = flat_end accounts (boot accounts) others
