-- Short lists kept in an array, whose unused places hold a fixed value.
use Rattle.std.specs.Prelude.{◌≡◌, ℕ, ◌-◌, ◌≤◌, List, ◌++◌, length, take, replicate}

-- the items, filled up to this many places
unfoldable pub padded : {A : Type 0} → ℕ → A → List A → List A
padded places fill items = items ++ replicate (places - length items) fill

-- the array has this many places, holds a list of this length, and is padded
pub record IsPadded {A : Type 0} (places : ℕ) (fill : A) (items : List A) (len : ℕ) : Type 0 where
  pub short : len ≤ places
  pub whole : length items ≡ places
  pub filled : padded places fill (take len items) ≡ items
