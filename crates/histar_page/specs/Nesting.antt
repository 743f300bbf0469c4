-- How the tags of a page are read.
use Rattle.std.specs.Prelude.{ℕ, ◌==◌, ◌||◌, Bool, List, [], ◌∷◌, ◌++◌, codes, Option, None, Some, if◌then◌else◌}
use Rattle.std.specs.Str.{bytes_eq}

-- where a reader of a page is: in a text, in the name of a tag, or in a tag behind its name
pub data Place : Type 0 where
  InText : Place
  InName : List ℕ → Place
  InTag : List ℕ → Place

-- what a reader of a page has read: the names of the elements that are begun, the innermost first, and where it is
pub record Reader : Type 0 where
  pub begun : List (List ℕ)
  pub place : Place

-- a reader in a text, in these elements
abbrev pub within : List (List ℕ) → Reader
within begun = record { begun = begun; place = InText }

-- the name is of no element that has an end: of `meta`, or of the declaration before a page
abbrev pub is_lone : List ℕ → Bool
is_lone name = bytes_eq name (codes "meta") || bytes_eq name (codes "!DOCTYPE")

-- the reader after the end of an element with this name, which has to be the innermost
abbrev pub after_end : List ℕ → List (List ℕ) → Option Reader
after_end name [] = None
after_end name (innermost ∷ others) = if bytes_eq name innermost then Some (within others) else None

-- the reader after a tag with this name: one with `/` ends an element, and another one begins one
abbrev pub after_tag : List ℕ → List (List ℕ) → Option Reader
after_tag [] begun = None
after_tag (b ∷ bs) begun =
    if b == 47 then after_end bs begun
    else if is_lone (b ∷ bs) then Some (within begun)
    else Some (within ((b ∷ bs) ∷ begun))

-- the reader after one more byte: `<` begins a tag, and no tag stands in another; a space ends its name, and `>` the tag
abbrev pub after_byte : List (List ℕ) → Place → ℕ → Option Reader
after_byte begun InText b = Some (record { begun = begun; place = if b == 60 then InName [] else InText })
after_byte begun (InName name) b =
    if b == 62 then after_tag name begun
    else if b == 60 then None
    else Some (record { begun = begun; place = if b == 32 then InTag name else InName (name ++ b ∷ []) })
after_byte begun (InTag name) b =
    if b == 62 then after_tag name begun
    else if b == 60 then None
    else Some (record { begun = begun; place = InTag name })

-- the reader after a text
abbrev pub after_text : Reader → List ℕ → Option Reader
after_text reader [] = Some reader
after_text reader (b ∷ bs) = elim (after_byte reader.begun reader.place b) [ None ↦ None | Some next ↦ after_text next bs ]
