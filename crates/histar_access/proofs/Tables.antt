-- The lines that are computed from a machine are the table of the flat state that it represents.
use Rattle.std.specs.Prelude.{◌≡◌, List, [], ◌∷◌, ◌++◌, length, map, take, refl}
use Rattle.std.proofs.Common.{ap, sym, ◌∙◌}
use Rattle.std.proofs.lemmas.List.{map-append, take-map}
use Rattle.histar_flat.specs.Words.{Path}
use Rattle.histar_flat.specs.Accounts.{Accounts}
use Rattle.histar_flat.specs.Classes.{may_read, may_write}
use Rattle.histar_flat.specs.FlatState.{Flat, Node}
use Rattle.histar_object.specs.State.{State}
use Rattle.histar_layout.specs.Listing.{object_of}
use Rattle.histar_refinement.specs.Represents.{ObjectsMatch}
use Rattle.histar_refinement.specs.Accounts.{AreAccounts}
use Rattle.histar_rights.specs.declared.rights.Rights.{Rights}
use Rattle.histar_rights.specs.Rights.{above_root, rights_at, rights_below}
use Rattle.histar_rights.specs.Table.{AccessLine, Cell as NamedRights, cell_at, line_of}
use Rattle.histar_readout.specs.declared.tree.TreeNode.{TreeNode}
use Rattle.histar_readout.specs.TreeLines.{flat_line}
use Rattle.histar_cells.specs.declared.cells.Cell.{Cell}
use Rattle.histar_access.specs.Cells.{line_of_node, lines_from, row_below, shown}
use Rattle.histar_cells.specs.Cells.{cell_below}
use Rattle.histar_access.specs.Rows.{last_or, rows_from}
use Rattle.histar_access.proofs.Matching.{AreMatched, IsMatch}
use Rattle.histar_cells.proofs.Visiting.{Visitor, named_of}

-- mapping two functions one after the other is mapping their composition
pub map_twice : {A B C : Type 0} (g : B → C) (h : A → B) (xs : List A) → map g (map h xs) ≡ map (λ x. g (h x)) xs
map_twice g h [] = refl
map_twice g h (x ∷ xs) = ap (λ (l : List _). g (h x) ∷ l) (map_twice g h xs)

-- the last of a mapped list is the image of the last
pub last_made : {A B : Type 0} (g : A → B) (x : A) (xs : List A) → last_or (g x) (map g xs) ≡ g (last_or x xs)
last_made g x [] = refl
last_made g x (y ∷ ys) = last_made g y ys

module _ (accounts : Accounts) (s : State) (f : Flat) (l : ObjectsMatch accounts s f) (ok : AreAccounts accounts)
    (vs : List (Visitor accounts s f l)) where
  -- the rights of each process at a path
  abbrev pub Row : Type 0
  Row = Visitor accounts s f l → Rights

  -- a row as cells
  abbrev pub cells : Row → List Cell
  cells r = map (λ (v : Visitor accounts s f l). record { process = v.name; thread = v.thread; rights = r v }) vs

  -- the rights above `/`
  abbrev pub start : Row
  start v = above_root

  -- the row that a directory gives, by the flat rules
  abbrev pub flat_below : Path × Node → Row → Row
  flat_below e r v = rights_below (r v) (may_read accounts v.process e.1.class) (may_write accounts v.process e.1.class)

  -- the named rights of a row, as they are shown
  abbrev pub shown_row : Row → List NamedRights
  shown_row r = map (λ (v : Visitor accounts s f l). record { process = v.name; rights = r v }) vs

  abbrev pub flat_row_line : Path × Node → Row → AccessLine
  flat_row_line e r = record { path = e.0; stat = (flat_line e).stat; cells = shown_row r }

  -- the lines of entries with these rows
  pub zipped : List (Path × Node) → List Row → List AccessLine
  zipped [] rs = []
  zipped (e ∷ es) [] = []
  zipped (e ∷ es) (r ∷ rs) = flat_row_line e r ∷ zipped es rs

  -- the cells below those of a row are the cells of the row below
  row_made : (node : TreeNode) (e : Path × Node) → IsMatch accounts s f l ok node e → (r : Row)
      → row_below s (object_of node.target) (cells r) ≡ cells (flat_below e r)
  row_made node e match r =
      map_twice (cell_below s (object_of node.target))
      (λ (v : Visitor accounts s f l). record { process = v.name; thread = v.thread; rights = r v }) vs
      ∙ (λ i. map (λ (v : Visitor accounts s f l). record {
        process = v.name;
        thread = v.thread;
        rights = rights_below (r v) (match.observed v i)
            (match.modified v i);
      }) vs)

  -- the lines of a tree are those of the entries that match it
  pub lines_matched : (tree : List TreeNode) (es : List (Path × Node)) → AreMatched accounts s f l ok tree es → (way : List Row)
      → lines_from s (cells start) (map cells way) tree ≡ zipped es (rows_from (λ (e : Path × Node). length e.0) flat_below start way es)
  unfolding zipped
  lines_matched [] [] match way = refl
  lines_matched [] (e ∷ es) match way = absurd match
  lines_matched (node ∷ tree) [] match way = absurd match
  lines_matched (node ∷ tree) (e ∷ es) match way =
      let kept = take (length node.path) (map cells way) in
      let flat_kept = take (length e.0) way in
      let kept_is : kept ≡ map cells flat_kept = ap (λ (q : Path). take (length q) (map cells way)) match.0.path ∙ take-map cells (length e.0) way in
      let row = row_below s (object_of node.target) (last_or (cells start) kept) in
      let flat_row = flat_below e (last_or start flat_kept) in
      let row_is : row ≡ cells flat_row =
      ap (λ (k : List (List Cell)). row_below s (object_of node.target) (last_or (cells start) k)) kept_is
      ∙ ap (row_below s (object_of node.target)) (last_made cells start flat_kept) ∙ row_made node e match.0 (last_or start flat_kept) in
      let next_is : kept ++ row ∷ [] ≡ map cells (flat_kept ++ flat_row ∷ []) = (λ i. kept_is i ++ row_is i ∷ [])
      ∙ sym (map-append cells flat_kept (flat_row ∷ [])) in
      let line_is : line_of_node node row ≡ flat_row_line e flat_row =
      (λ i. record { path = match.0.path i; stat = match.0.stat i; cells = map shown (row_is i) })
      ∙ ap (λ (c : List NamedRights). record { path = e.0; stat = (flat_line e).stat; cells = c })
      (map_twice shown (λ (v : Visitor accounts s f l). record { process = v.name; thread = v.thread; rights = flat_row v }) vs) in
      (λ i. line_is i ∷ lines_from s (cells start) (next_is i) tree)
      ∙ ap (λ (ls : List AccessLine). flat_row_line e flat_row ∷ ls) (lines_matched tree es match.1 (flat_kept ++ flat_row ∷ []))

  -- the rights of each process at a path, by the flat rules
  abbrev pub value : Path → Node → Row
  value q node v = rights_at accounts f v.name v.process q node

  pub zipped_values : (es : List (Path × Node))
      → zipped es (map (λ (e : Path × Node). value e.0 e.1) es) ≡ map (λ (e : Path × Node). flat_row_line e (value e.0 e.1)) es
  unfolding zipped
  zipped_values [] = refl
  zipped_values (e ∷ es) = ap (λ (ls : List AccessLine). flat_row_line e (value e.0 e.1) ∷ ls) (zipped_values es)

  -- a line of the table
  table_line : (e : Path × Node) → flat_row_line e (value e.0 e.1) ≡ line_of accounts f (map (named_of accounts s f l) vs) e
  table_line e = ap (λ (c : List NamedRights). record { path = e.0; stat = (flat_line e).stat; cells = c })
      (sym (map_twice (cell_at accounts f e) (named_of accounts s f l) vs))

  pub table_lines : (es : List (Path × Node))
      → map (λ (e : Path × Node). flat_row_line e (value e.0 e.1)) es ≡ map (line_of accounts f (map (named_of accounts s f l) vs)) es
  table_lines es = λ i. map (λ (e : Path × Node). table_line e i) es
