-- The class that a label shows, one user and one group after another.
use Rattle.std.proofs.Common.{◌≡◌, ℕ, ◌+◌, ◌<◌, ◌≤◌, Bool, true, false, List, ◌∷◌, length, get_or, drop, None, Some, arith, sym, ap, ◌∙◌}
use Rattle.std.proofs.Common.{if◌then◌else◌}
use Rattle.std.proofs.lemmas.List.{drop_all, drop_more}
use Rattle.histar_flat.specs.declared.calls.User.{User}
use Rattle.histar_flat.specs.Accounts.{Group}
use Rattle.histar_level.specs.Levels.{Levels, level_of}
use Rattle.histar_layout.specs.declared.shown.ShownClass.TheVariants.{Open}
use Rattle.histar_layout.specs.Categories.{read_category, write_category}
use Rattle.histar_layout.specs.ShownClass.{class_at, group_class_at, is_unnamed, is_all_plain, class_from, group_class_from}

module _ (label : Levels) (groups : List Group) (users : List User) (place : ℕ) (user : User)
    (below : place < length users) (at : user ≡ get_or users place user) where
  -- the class, depending on whether the label names the user
  by_name : (unnamed : Bool) → is_unnamed label (place + 1) ≡ unnamed → class_from label (place + 1) groups (drop place users)
      ≡ (if unnamed then class_from label (place + 1 + 1) groups (drop (place + 1) users) else class_at user.name
      (level_of label (read_category (place + 1))) (level_of label (write_category (place + 1))))
  by_name unnamed is =
      ap (class_from label (place + 1) groups) (drop_more users place user below ∙ ap (λ (u : User). u ∷ drop (place + 1) users) (sym at))
      ∙ ap (λ (b : Bool).
      if b then class_from label (place + 1 + 1) groups (drop (place + 1) users) else class_at user.name
      (level_of label (read_category (place + 1))) (level_of label (write_category (place + 1)))) is

  -- a user whom it doesn't name is passed over
  pub passed_over : is_unnamed label (place + 1) ≡ true
      → class_from label (place + 1) groups (drop place users)
      ≡ class_from label (place + 1 + 1) groups (drop (place + 1) users)
  passed_over is = by_name true is

  -- a user whom it names shows the class
  pub revealed_here : is_unnamed label (place + 1) ≡ false
      → class_from label (place + 1) groups (drop place users)
      ≡ class_at user.name (level_of label (read_category (place + 1)))
      (level_of label (write_category (place + 1)))
  revealed_here is = by_name false is

-- where it names no user, the groups show the class
pub revealed_last : (label : Levels) (groups : List Group) (users : List User) (place : ℕ) → length users ≤ place
    → class_from label (place + 1) groups (drop place users) ≡ group_class_from label (place + 1) groups
revealed_last label groups users place end = ap (class_from label (place + 1) groups) (drop_all place users end)

-- group number place + 1 comes after the users by its place
pub behind : (users place : ℕ) → users + (place + 1) ≡ users + 1 + place
behind users place = omega arith

module _ (label : Levels) (first : ℕ) (groups : List Group) (place : ℕ) (group : Group) (below : place < length groups)
    (at : group ≡ get_or groups place group) where
  -- the owner number of the group
  abbrev owner : ℕ
  owner = first + place

  -- the class, depending on whether the label names the group
  by_group : (unnamed : Bool) → is_unnamed label (first + place) ≡ unnamed → group_class_from label (first + place) (drop place groups)
      ≡ (if unnamed then group_class_from label (first + place + 1) (drop (place + 1) groups) else group_class_at
      group.name (level_of label (read_category (first + place)))
      (level_of label (write_category (first + place))))
  by_group unnamed is =
      ap (group_class_from label owner) (drop_more groups place group below ∙ ap (λ (x : Group). x ∷ drop (place + 1) groups) (sym at))
      ∙ ap (λ (b : Bool).
      if b then group_class_from label (owner + 1) (drop (place + 1) groups) else group_class_at group.name
      (level_of label (read_category owner)) (level_of label (write_category owner))) is

  -- a group that it doesn't name is passed over
  pub group_passed_over : is_unnamed label (first + place) ≡ true
      → group_class_from label (first + place) (drop place groups)
      ≡ group_class_from label (first + place + 1) (drop (place + 1) groups)
  group_passed_over is = by_group true is

  -- a group that it names shows the class
  pub group_revealed_here : is_unnamed label (first + place) ≡ false
      → group_class_from label (first + place) (drop place groups)
      ≡ group_class_at group.name (level_of label (read_category (first + place)))
      (level_of label (write_category (first + place)))
  group_revealed_here is = by_group false is

-- where it names no group, the class is open, or there is none
pub group_revealed_last : (label : Levels) (first : ℕ) (groups : List Group) (place : ℕ) (plain : Bool)
    → length groups ≤ place → is_all_plain label ≡ plain
    → group_class_from label (first + place) (drop place groups) ≡ (if plain then Some Open else None)
group_revealed_last label first groups place plain end is =
    ap (group_class_from label (first + place)) (drop_all place groups end)
    ∙ ap (λ (b : Bool). if b then Some Open else None) is
