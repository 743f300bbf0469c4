-- The lines of a tree, written one after another.
use Rattle.std.proofs.Common.{◌≡◌, ℕ, ◌+◌, ◌<◌, ◌≤◌, List, [], ◌∷◌, ◌++◌, Option, drop, take, length, get_or, sym, ap, ◌∙◌, subst, refl}
use Rattle.std.proofs.Common.{append-nil, append_assoc, arith}
use Rattle.std.specs.Prelude.{map}
use Rattle.std.specs.List.{flat_map}
use Rattle.std.specs.Io.KnownBytes.{Appends}
use Rattle.std.proofs.KnownBytes.{Appends-trans}
use Rattle.std.proofs.lemmas.List.{drop_more, length-drop, nil_from_length}
use Rattle.histar_io.specs.Writing.{AppendsFront}
use Rattle.histar_shell.proofs.AnswerLemmas.{front_after}
use Rattle.histar_object.specs.State.{State}
use Rattle.histar_layout.specs.Listing.{object_of}
use Rattle.histar_rights.specs.Table.{access_line_text, access_text, cell_text}
use Rattle.histar_readout.specs.declared.tree.TreeNode.{TreeNode}
use Rattle.histar_cells.specs.declared.cells.Cell.{Cell}
use Rattle.histar_access.specs.Cells.{line_of_node, lines_from, row_below, shown, shown_text}
use Rattle.histar_access.specs.Rows.{last_or}

-- the texts of cells are those of their named rights
pub texts_shown : (row : List Cell) → flat_map shown_text row ≡ flat_map cell_text (map shown row)
texts_shown [] = refl
texts_shown (c ∷ row) = ap (λ (t : List ℕ). shown_text c ++ t) (texts_shown row)

-- the next of the items that are left
pub next_left : {A : Type 0} (items : List A) (i : ℕ) (x : A) → i < length items → x ≡ get_or items i x → drop i items ≡ x ∷ drop (i + 1) items
next_left items i x within is = drop_more items i x within ∙ ap (λ y. y ∷ drop (i + 1) items) (sym is)

-- none is left at the end
pub none_left : {A : Type 0} (items : List A) (i : ℕ) → length items ≤ i → drop i items ≡ []
none_left items i past = nil_from_length (drop i items) (omega (arith, past, length-drop i items))

module _ (s : State) (visitors : List Cell) (tree : List TreeNode) where
  -- the text of the table
  abbrev pub whole : List ℕ
  whole = access_text (lines_from s visitors [] tree)

  -- The first lines were written, and these are left.
  pub record IsWritten (old new : Option (List ℕ)) (way : List (List Cell)) (left : List TreeNode) : Type 0 where
    pub text : List ℕ
    pub parts : whole ≡ text ++ access_text (lines_from s visitors way left)
    pub written : Appends old new text

  -- the row of the next node
  abbrev pub next_row : List (List Cell) → TreeNode → List Cell
  next_row way node = row_below s (object_of node.target) (last_or visitors (take (length node.path) way))

  -- one more line was written
  pub written_more : (old mid new : Option (List ℕ)) (way : List (List Cell)) (left rest : List TreeNode) (node : TreeNode) (line : List ℕ)
      → left ≡ node ∷ rest → IsWritten old mid way left
      → line ≡ access_line_text (line_of_node node (next_row way node)) → Appends mid new line → IsWritten old new
      (take (length node.path) way ++ next_row way node ∷ []) rest
  written_more old mid new way left rest node line turn before is more =
      let later = access_text (lines_from s visitors (take (length node.path) way ++ next_row way node ∷ []) rest) in
      record {
        text = before.text ++ line;
        parts =
            before.parts ∙ ap (λ (l : List TreeNode). before.text ++ access_text (lines_from s visitors way l)) turn
            ∙ ap (λ (t : List ℕ). before.text ++ (t ++ later)) (sym is) ∙ sym (append_assoc before.text line later);
        written = Appends-trans old mid new before.text line before.written more;
      }

  -- a beginning of one more line was written
  pub begun_more : (old mid new : Option (List ℕ)) (way : List (List Cell)) (left rest : List TreeNode) (node : TreeNode) (line : List ℕ)
      → left ≡ node ∷ rest → IsWritten old mid way left
      → line ≡ access_line_text (line_of_node node (next_row way node)) → AppendsFront mid new line → AppendsFront old new whole
  begun_more old mid new way left rest node line turn before is front =
      let later = access_text (lines_from s visitors (take (length node.path) way ++ next_row way node ∷ []) rest) in
      let parts =
      before.parts ∙ ap (λ (l : List TreeNode). before.text ++ access_text (lines_from s visitors way l)) turn
      ∙ ap (λ (t : List ℕ). before.text ++ (t ++ later)) (sym is) in
      subst (AppendsFront old new) (sym parts) (front_after old mid new before.text line later before.written front)

  -- what was written is a beginning of the table
  pub front_written : (old new : Option (List ℕ)) (way : List (List Cell)) (left : List TreeNode) → IsWritten old new way left
      → AppendsFront old new whole
  front_written old new way left is =
      (access_text (lines_from s visitors way left), record { front = is.text; parts = is.parts; appended = is.written })

  -- at the end the whole table was written
  pub all_written : (old new : Option (List ℕ)) (way : List (List Cell)) (left : List TreeNode) → left ≡ [] → IsWritten old new way left
      → Appends old new whole
  all_written old new way left none is =
      subst (Appends old new) (sym (is.parts ∙ ap (λ (l : List TreeNode). is.text ++ access_text (lines_from s visitors way l)) none
      ∙ append-nil is.text)) is.written
