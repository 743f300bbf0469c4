-- The users and groups of a script.
use Rattle.std.specs.Prelude.{ℕ, List, [], ◌∷◌, ◌++◌, codes, map, if◌then◌else◌}
use Rattle.std.specs.List.{flat_map}
use Rattle.std.specs.Str.{bytes_eq}
use Rattle.histar_page.specs.declared.kind.Kind.TheVariants.{UserName, GroupName, MemberName}
use Rattle.histar_page.specs.declared.markup.Markup.TheVariants.{BeginWho, EndWho}
use Rattle.histar_page.specs.Items.{Item}
use Rattle.histar_page.specs.Items.Item.{Fixed, Shown}
use Rattle.histar_page.specs.Lines.{words_of}

-- a member of the group before it
abbrev pub group_member_item : List ℕ → Item
group_member_item word = Shown MemberName word

-- the user that these words declare, without the password, or the group with its members
abbrev pub declared_items : List (List ℕ) → List Item
declared_items (word ∷ name ∷ rest) =
    if bytes_eq word (codes "user") then Shown UserName name ∷ []
    else if bytes_eq word (codes "group") then Shown GroupName name ∷ map group_member_item rest
    else []
declared_items words = []

-- the users and groups that lines declare
abbrev pub declared_in : List (List ℕ) → List Item
declared_in lines = flat_map (λ line. declared_items (words_of line)) lines

-- the part of a page that shows the users and groups of a script
abbrev pub who_items : List (List ℕ) → List Item
who_items script = Fixed BeginWho ∷ declared_in script ++ Fixed EndWho ∷ []
