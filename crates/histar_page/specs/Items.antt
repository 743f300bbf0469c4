-- What stands on a page, one item after another.
use Rattle.std.specs.Prelude.{ℕ, List, [], ◌∷◌, decimal, map}
use Rattle.histar_page.specs.declared.kind.Kind.{Kind}
use Rattle.histar_page.specs.declared.markup.Markup.{Markup}
use Rattle.histar_page.specs.declared.piece.Piece.{Piece}
use Rattle.histar_page.specs.declared.piece.Piece.TheVariants as pieces

-- an item of a page: a fixed text, or a text of a kind
pub data Item : Type 0 where
  Fixed : Markup → Item
  Shown : Kind → List ℕ → Item

-- the item that a piece is
abbrev pub item_of : Piece → Item
item_of (pieces.Fixed markup) = Fixed markup
item_of (pieces.Shown kind text) = Shown kind text.now
item_of (pieces.Counted kind number) = Shown kind (decimal number)
item_of (pieces.Letter kind letter) = Shown kind (letter ∷ [])

-- the items that pieces are
abbrev pub items_of : List Piece → List Item
items_of pieces = map item_of pieces
