-- The head of a page.
use Rattle.std.specs.Prelude.{ℕ, Bool, List, [], ◌∷◌, ◌++◌, ◌&&◌, codes, decimal, filter, length, if◌then◌else◌}
use Rattle.std.specs.List.{flat_map}
use Rattle.std.specs.Str.{bytes_eq}
use Rattle.histar_script.specs.Lines.{split_word}
use Rattle.histar_page.specs.declared.kind.Kind.TheVariants.{Title, MainTitle, FileName, Calls, Refusals, Denials, Version}
use Rattle.histar_page.specs.declared.markup.Markup.TheVariants.{Begin, Style, EndStyle, EndHead}
use Rattle.histar_page.specs.Items.{Item}
use Rattle.histar_page.specs.Items.Item.{Fixed, Shown}
use Rattle.histar_page.specs.Callers.{rule_items}
use Rattle.histar_page.specs.Lines.{after_word, is_denied, is_raw_call, is_refused, is_reply}

-- a line of a script is a comment that is a heading
abbrev pub is_heading : List ℕ → Bool
is_heading line = bytes_eq (split_word line).0 (codes "#") && bytes_eq (split_word (after_word line)).0 (codes "#")

-- the title of a session: the first heading of its script, or the name of its file
abbrev pub title_of : List ℕ → List (List ℕ) → List ℕ
title_of name [] = name
title_of name (line ∷ lines) = if is_heading line then after_word (after_word line) else title_of name lines

-- how many calls were answered, how many of them refused, and how many raw calls denied
abbrev pub count_items : List (List ℕ) → List Item
count_items output =
    let replies = filter is_reply output in
    Shown Calls (decimal (length replies))
    ∷ Shown Refusals (decimal (length (filter is_refused replies)))
    ∷ Shown Denials (decimal (length (filter is_denied (filter is_raw_call output))))
    ∷ []

-- how a page begins: the title, and the style with the rules of these processes
abbrev pub style_items : List ℕ → List (List ℕ) → List Item
style_items title processes = Fixed Begin ∷ Shown Title title ∷ Fixed Style ∷ flat_map rule_items processes

-- the head of a page after its style: the title once more, the name, what was counted, and the version
abbrev pub head_items : List ℕ → List ℕ → List ℕ → List (List ℕ) → List Item
head_items title name version output =
    Fixed EndStyle ∷ Shown MainTitle title ∷ Shown FileName name ∷ count_items output
    ++ Shown Version version ∷ Fixed EndHead ∷ []
