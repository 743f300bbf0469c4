-- The secrets on a page: each file that not everyone may read, and which processes it depends on.
use Rattle.std.specs.Prelude.{ℕ, List, [], ◌∷◌, ◌++◌, codes, map, unwrap_or, if◌then◌else◌}
use Rattle.std.specs.List.{flat_map}
use Rattle.std.specs.Str.{bytes_eq}
use Rattle.histar_flat.specs.Words.{split_at_first}
use Rattle.histar_page.specs.declared.kind.Kind.{Kind}
use Rattle.histar_page.specs.declared.kind.Kind.TheVariants.{Secret, Trusted, Confined, LoginReader}
use Rattle.histar_page.specs.declared.markup.Markup.{Markup}
use Rattle.histar_page.specs.declared.markup.Markup.TheVariants.{BeginLaw, BeginSecret, BeginSecrets, EndSecret, NoSecrets, NoTitles}
use Rattle.histar_page.specs.declared.markup.Markup.TheVariants.{OnSecrets, OnTitles}
use Rattle.histar_page.specs.Items.{Item}
use Rattle.histar_page.specs.Items.Item.{Fixed, Shown}
use Rattle.histar_page.specs.Files.{runners_of}
use Rattle.histar_page.specs.Lines.{without_first, words_of}
use Rattle.histar_page.specs.Titles.{titles_items}
use Rattle.histar_page.specs.Uses.{are_followed, condition_of, outsider_items, reply_items}

-- the role of a process or a user towards a file, by the word before it
abbrev pub member_kind : List ℕ → Kind
member_kind word =
    if bytes_eq word (codes "trusted") then Trusted
    else if bytes_eq word (codes "confined") then Confined
    else LoginReader

-- a word before a colon, and a process or a user after it
abbrev pub member_item : List ℕ → Item
member_item word = Shown (member_kind (split_at_first 58 word).0) (unwrap_or (split_at_first 58 word).1 [])

-- the words of a line: a path, and then processes and users
abbrev pub secret_items : List (List ℕ) → List Item
secret_items [] = Fixed BeginSecret ∷ Fixed EndSecret ∷ []
secret_items (path ∷ members) = Fixed BeginSecret ∷ Shown Secret path ∷ map member_item members ++ Fixed EndSecret ∷ []

-- a file, its members and the processes outside; the condition; and the calls that have read or written at its path
abbrev pub followed_items : List (List ℕ) → List (List ℕ) → List (List ℕ) → List (List ℕ) → List Item
followed_items script replies runners [] = secret_items []
followed_items script replies runners (path ∷ members) =
    Fixed BeginSecret ∷ Shown Secret path ∷ map member_item members ++ flat_map (outsider_items members) runners
    ++ Fixed BeginLaw ∷ Shown Secret path ∷ Fixed (condition_of members) ∷ flat_map (reply_items script path) replies ++ Fixed EndSecret ∷ []

-- the lines of these files
abbrev pub lines_items : List (List ℕ) → List (List ℕ) → List (List ℕ) → List (List ℕ) → List Item
lines_items script replies runners files =
    if are_followed files runners then flat_map (λ line. followed_items script replies runners (words_of line)) files
    else flat_map (λ line. secret_items (words_of line)) files

-- the sentence before these files: that there are none, or what their lines say
abbrev pub note_on : List (List ℕ) → Markup
note_on [] = NoSecrets
note_on (file ∷ files) = OnSecrets

-- the sentence between these files and these titles: none without a file, that the titles are left out, or what they say
abbrev pub note_on_titles : List (List ℕ) → List (List ℕ) → List Item
note_on_titles [] titles = []
note_on_titles (file ∷ files) [] = Fixed NoTitles ∷ []
note_on_titles (file ∷ files) (title ∷ titles) = Fixed OnTitles ∷ []

-- the part of a page that shows secrets: each line of them after the first, which has the processes, and then the titles, each with a sentence before
abbrev pub secrets_items : List (List ℕ) → List (List ℕ) → List (List ℕ) → List (List ℕ) → List Item
secrets_items script replies lines titles =
    Fixed BeginSecrets ∷ Fixed (note_on (without_first lines)) ∷ lines_items script replies (runners_of lines) (without_first lines)
    ++ note_on_titles (without_first lines) titles ++ titles_items titles
