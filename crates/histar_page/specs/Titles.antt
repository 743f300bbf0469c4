-- The titles on a page: how each secret is revealed or changed.
use Rattle.std.specs.Prelude.{ℕ, List, [], ◌∷◌, ◌++◌, map, if◌then◌else◌}
use Rattle.histar_page.specs.declared.kind.Kind.{Kind}
use Rattle.histar_page.specs.declared.kind.Kind.TheVariants.{LeakPath, LeakTitle}
use Rattle.histar_page.specs.declared.markup.Markup.TheVariants.{EndSecrets}
use Rattle.histar_page.specs.Items.{Item}
use Rattle.histar_page.specs.Items.Item.{Fixed, Shown}
use Rattle.histar_page.specs.Lines.{has_mark}

-- a line that begins with a space is a title, and another one the path of a file
abbrev pub title_kind : List ℕ → Kind
title_kind line = if has_mark 32 line then LeakTitle else LeakPath

-- a line of the titles
abbrev pub title_item : List ℕ → Item
title_item line = Shown (title_kind line) line

-- each line of the titles, and the end of the secrets
abbrev pub titles_items : List (List ℕ) → List Item
titles_items lines = map title_item lines ++ Fixed EndSecrets ∷ []
