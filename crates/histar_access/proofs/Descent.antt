-- One descent through a tree computes at each path what its directory gives.
use Rattle.std.specs.Prelude.{◌≡◌, ℕ, zero, suc, Bool, true, false, cond, T, List, [], ◌∷◌, ◌++◌, length, map, take, drop, Option, Some, None, refl}
use Rattle.std.specs.List.{cons_option, flat_map}
use Rattle.std.proofs.Common.{arith, ap, inl, inr, sym, ◌∙◌, subst, append-nil, append_assoc}
use Rattle.std.proofs.Math.Seq.{take-append_seam}
use Rattle.std.proofs.lemmas.List.{map-append, take-append-drop, length-append}
use Rattle.std.specs.FinMap.{find, is_sorted}
use Rattle.std.specs.FinMap.Entries.{below_all}
use Rattle.histar_flat.specs.Words.{Name, Path}
use Rattle.histar_base.specs.Paths.{path_cmp}
use Rattle.histar_base.proofs.PathLaws.{path_cmp_total, path_cmp_exact}
use Rattle.histar_flat.specs.Files.{get}
use Rattle.histar_flat.specs.FlatState.{Flat, Node, is_dir}
use Rattle.histar_flat.proofs.FileLemmas.{same_path_found}
use Rattle.histar_flat.proofs.Finding.{first, second, find_first, find_later}
use Rattle.histar_readout.specs.FlatTree.{nodes_in, walked}
use Rattle.histar_access.specs.Rows.{last_or, rows_from}

-- the last element of a list with one more
last_of_more : {A : Type 0} (x y : A) (l : List A) → last_or x (l ++ y ∷ []) ≡ y
last_of_more x y [] = refl
last_of_more x y (z ∷ l) = last_of_more z y l

-- the beginning of a list with one more element
front_of : {A : Type 0} (l front : List A) (x : A) (n : ℕ) → length front ≡ n → take (suc n) l ≡ front ++ x ∷ [] → take n l ≡ front
front_of l front x n fits is =
    ap (λ k. take k l) (sym fits)
    ∙ ap (take (length front)) (sym (take-append-drop (suc n) l) ∙ ap (λ (t : List _). t ++ drop (suc n) l) is
    ∙ append_assoc front (x ∷ []) (drop (suc n) l))
    ∙ take-append_seam front (x ∷ [] ++ drop (suc n) l)

module _ {A : Type 0} (f : Flat) (start : A) (below : Path × Node → A → A) (value : Path → Node → A) where
  -- the value at a path with this node, or the value above `/` if it has none
  abbrev pub found_at : Path → Option Node → A
  found_at d None = start
  found_at d (Some node) = value d node

  -- the value at the directory of a path
  abbrev pub found_above : Path → A
  found_above [] = start
  found_above (n ∷ d) = found_at d (get f.files d)

  -- the value at a path is what its directory gives
  abbrev pub IsGiven : Type 0
  IsGiven = (q : Path) (node : Node) → get f.files q ≡ Some node → below (q, node) (found_above q) ≡ value q node

  -- the values at the directories above a path, from `/` on
  abbrev way_to : Path → List A
  way_to [] = []
  way_to (n ∷ d) = way_to d ++ found_at d (get f.files d) ∷ []

  length_way : (q : Path) → length (way_to q) ≡ length q
  length_way [] = refl
  length_way (n ∷ d) = length-append (way_to d) (found_at d (get f.files d) ∷ []) ∙ omega (arith, length_way d)

  last_way : (q : Path) → last_or start (way_to q) ≡ found_above q
  last_way [] = refl
  last_way (n ∷ d) = last_of_more start (found_at d (get f.files d)) (way_to d)

  -- the fold over entries
  abbrev rows : List A → List (Path × Node) → List A
  rows = rows_from (λ (e : Path × Node). length e.0) below start

  abbrev values : List (Path × Node) → List A
  values = map (λ (e : Path × Node). value e.0 e.1)

  -- The fold over some entries computes the value at each, and leaves the way to a path as it was.
  record Finds (q : Path) (es rest : List (Path × Node)) (way : List A) : Type 0 where
    end : List A
    kept : take (length q) end ≡ way_to q
    is : rows way (es ++ rest) ≡ values es ++ rows end rest

  -- these are entries of the directory
  abbrev AreThere : Path → List (Name × Node) → Type 0
  AreThere q [] = Unit {0}
  AreThere q (c ∷ cs) = (get f.files (c.0 ∷ q) ≡ Some c.1) × AreThere q cs

  -- an entry in front of others is one of the directory, if the test holds
  abbrev AreThereWith : Path → Name → Node → List (Path × Node) → Bool → Type 0
  AreThereWith q n x es b = AreThere q (cons_option (cond b (Some (n, x)) None) (nodes_in q es))

  -- the entries of a directory are there
  entries_there : (q : Path) (es : List (Path × Node)) → T (is_sorted path_cmp es)
      → ((r : Path) (x : Node) → find path_cmp r es ≡ Some x → get f.files r ≡ Some x) → AreThere q (nodes_in q es)
  entries_there q [] h lead = tt
  entries_there q (e ∷ es) h lead = step e.0 e.1 lead (entries_there q es (second (below_all path_cmp e.0 es) _ h)
      (λ r x is. lead r x (find_later path_cmp_total path_cmp_exact e.0 e.1 es r x (first (below_all path_cmp e.0 es) _ h) is)))
    where
      step : (r : Path) (x : Node) → ((p : Path) (y : Node) → find path_cmp p ((r, x) ∷ es) ≡ Some y → get f.files p ≡ Some y)
          → AreThere q (nodes_in q es) → AreThere q (nodes_in q ((r, x) ∷ es))
      step [] x lead rest = rest
      step (n ∷ above) x lead rest = elim (same_path_found q above) [
        | inl t ↦ subst (AreThereWith q n x es) (sym t.0) (
          ap (λ (d : Path). get f.files (n ∷ d)) t.1
              ∙ lead (n ∷ above) x (find_first path_cmp_total path_cmp_exact (n ∷ above) x es),
          rest,
        )
        | inr t ↦ subst (AreThereWith q n x es) (sym t.0) rest
      ]

  module _ (given : IsGiven) where
    -- the way into a directory
    abbrev way_into : Path → Node → List A
    way_into q node = way_to q ++ value q node ∷ []

    -- the values computed after the entries of a directory
    record FindsBelow (q : Path) (node : Node) (es rest : List (Path × Node)) (way : List A) : Type 0 where
      end : List A
      kept : take (suc (length q)) end ≡ way_into q node
      is : rows way (es ++ rest) ≡ values es ++ rows end rest

    abbrev Walks : ℕ → Type 0
    Walks levels = (q : Path) (node : Node) → get f.files q ≡ Some node → (way : List A) → take (length q) way ≡ way_to q →
        (rest : List (Path × Node)) → Finds q (walked levels f.files.entries q node) rest way

    -- the values at the entries of a directory, one by one
    walk_entries : (levels : ℕ) → Walks levels → (q : Path) (node : Node) → get f.files q ≡ Some node → (cs : List (Name × Node)) → AreThere q cs
        → (way : List A) → take (suc (length q)) way ≡ way_into q node → (rest : List (Path × Node))
        → FindsBelow q node (flat_map (λ (c : Name × Node). walked levels f.files.entries (c.0 ∷ q) c.1) cs) rest way
    walk_entries levels walks q node at [] there way kept rest = record { end = way; kept = kept; is = refl }
    walk_entries levels walks q node at (c ∷ cs) there way kept rest =
        let walk = walked levels f.files.entries (c.0 ∷ q) c.1 in
        let others = flat_map (λ (d : Name × Node). walked levels f.files.entries (d.0 ∷ q) d.1) cs in
        let into : way_to (c.0 ∷ q) ≡ way_into q node = ap (λ o. way_to q ++ found_at q o ∷ []) at in
        let one = walks (c.0 ∷ q) c.1 there.0 way (kept ∙ sym into) (others ++ rest) in
        let more = walk_entries levels walks q node at cs there.1 one.end (one.kept ∙ into) rest in
        record {
          end = more.end;
          kept = more.kept;
          is =
              ap (rows way) (append_assoc walk others rest) ∙ one.is ∙ ap (λ (l : List A). values walk ++ l) more.is
              ∙ sym (append_assoc (values walk) (values others) (rows more.end rest))
              ∙ ap (λ (l : List A). l ++ rows more.end rest) (sym (map-append (λ (e : Path × Node). value e.0 e.1) walk others));
        }

    -- the values at a path and below it
    walks_find : (levels : ℕ) → Walks levels
    walks_find zero q node at way kept rest = record { end = way; kept = kept; is = refl }
    walks_find (suc levels) q node at way kept rest =
        let row = below (q, node) (last_or start (take (length q) way)) in
        let row_is : row ≡ value q node = ap (λ (l : List A). below (q, node) (last_or start l)) kept ∙ ap (below (q, node)) (last_way q)
        ∙ given q node at in
        let next : List A = take (length q) way ++ row ∷ [] in
        let next_is : next ≡ way_into q node = λ i. kept i ++ row_is i ∷ [] in
        let short : length (way_into q node) ≡ suc (length q) = length-append (way_to q) (value q node ∷ []) ∙ omega (arith, length_way q) in
        let held : take (suc (length q)) next ≡ way_into q node =
        ap (take (suc (length q))) next_is ∙ ap (λ k. take k (way_into q node)) (sym short)
        ∙ ap (take (length (way_into q node))) (sym (append-nil (way_into q node))) ∙ take-append_seam (way_into q node) [] in
        let children = flat_map (λ (c : Name × Node). walked levels f.files.entries (c.0 ∷ q) c.1) (nodes_in q f.files.entries) in
        let by : (b : Bool) → FindsBelow q node (cond b children []) rest next = λ b. elim b as
        (λ v. FindsBelow q node (cond v children []) rest next) [
          | true ↦ walk_entries levels (walks_find levels) q node at (nodes_in q f.files.entries)
              (entries_there q f.files.entries f.files.sorted (λ r x is. is)) next held rest
          | false ↦ record { end = next; kept = held; is = refl }
        ] in
        let there = by (is_dir node) in
        record {
          end = there.end;
          kept = front_of there.end (way_to q) (value q node) (length q) (length_way q) there.kept;
          is = λ i. row_is i ∷ there.is i;
        }

    -- the values from `/` on
    pub descent : (levels : ℕ) (slash : Node) → get f.files [] ≡ Some slash
        → rows [] (walked levels f.files.entries [] slash) ≡ values (walked levels f.files.entries [] slash)
    descent levels slash at =
        let all = walks_find levels [] slash at [] refl [] in
        let es = walked levels f.files.entries [] slash in
        ap (rows []) (sym (append-nil es)) ∙ all.is ∙ append-nil (values es)
