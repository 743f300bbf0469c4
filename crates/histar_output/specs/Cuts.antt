-- Texts cut at marks, and their words.
use Rattle.std.specs.Prelude.{ℕ, Bool, false, List, [], ◌∷◌, length, drop, map, filter, codes, nat_eq, is_none, unwrap_or}
use Rattle.std.specs.Prelude.{◌==◌, ◌&&◌, Option, None, Some}
use Rattle.std.specs.Prelude.{if◌then◌else◌}
use Rattle.std.specs.List.{starts_with}
use Rattle.std.specs.Str.{bytes_eq}
use Rattle.histar_script.specs.Lines.{onto_line}

-- the text begins with the mark
abbrev pub begins : List ℕ → List ℕ → Bool
begins mark text = starts_with nat_eq text mark

-- the bytes before the first place where the text goes on with the mark, and those behind the mark; all bytes where there is no such place
unfoldable pub cut_at : List ℕ → List ℕ → List ℕ × Option (List ℕ)
cut_at mark [] = ([], if begins mark [] then Some [] else None)
cut_at mark (b ∷ bs) =
    if begins mark (b ∷ bs) then ([], Some (drop (length mark) (b ∷ bs)))
    else (b ∷ (cut_at mark bs).0, (cut_at mark bs).1)

-- the bytes before the last place where the text goes on with the mark, and those behind the mark; all bytes where there is no such place
unfoldable pub cut_last : List ℕ → List ℕ → List ℕ × Option (List ℕ)
cut_last mark [] = ([], if begins mark [] then Some [] else None)
cut_last mark (b ∷ bs) =
    if is_none (cut_last mark bs).1 && begins mark (b ∷ bs) then ([], Some (drop (length mark) (b ∷ bs)))
    else (b ∷ (cut_last mark bs).0, (cut_last mark bs).1)

-- what is behind the first place of the mark in a text: nothing where it doesn't come
abbrev pub behind : List ℕ → List ℕ → List ℕ
behind mark text = unwrap_or (cut_at mark text).1 []

-- the words of a text: each ends at a space, which the last may lack
unfoldable pub words_of : List ℕ → List (List ℕ)
words_of [] = []
words_of (b ∷ bs) = if b == 32 then [] ∷ words_of bs else onto_line b (words_of bs)

-- the word ends with `!`
abbrev pub is_marked : List ℕ → Bool
is_marked [] = false
is_marked (b ∷ []) = b == 33
is_marked (b ∷ c ∷ bs) = is_marked (c ∷ bs)

-- the word without the `!` at its end, if it ends with one
abbrev pub unmarked : List ℕ → List ℕ
unmarked [] = []
unmarked (b ∷ []) = if b == 33 then [] else b ∷ []
unmarked (b ∷ c ∷ bs) = b ∷ unmarked (c ∷ bs)

-- the names in a text: its words, each without the `!` at its end; `nobody` is none
abbrev pub names_in : List ℕ → List (List ℕ)
names_in text = if bytes_eq text (codes "nobody") then [] else map unmarked (words_of text)

-- the names of the holders in a text: its words that end with `!`, without it
abbrev pub holders_in : List ℕ → List (List ℕ)
holders_in text = map unmarked (filter is_marked (words_of text))
