-- There is no text exactly if nothing differs.
use Rattle.std.specs.Prelude.{◌≡◌, ◌≢◌, ◌↔◌, ℕ, Bool, true, false}
use Rattle.std.specs.Prelude.{List, [], ◌∷◌, ◌++◌, Option, codes, refl}
use Rattle.std.specs.List.{flat_map}
use Rattle.histar_diff.specs.declared.lone.Lone.{Lone}
use Rattle.histar_diff.specs.declared.differences.Difference.{Difference}
use Rattle.histar_flat.specs.Texts.{path_text, process_text}
use Rattle.histar_rights.specs.declared.rights.Rights.{Rights}
use Rattle.histar_diff.specs.declared.user_differences.UserDifference.{UserDifference}
use Rattle.histar_diff.specs.declared.users.LoneUser.{LoneUser}
use Rattle.histar_diff.specs.Texts.{change_text, difference_text, differences_text, fate_text, letters_text, lone_text, user_text}
use Rattle.histar_diff.specs.UserTexts.{lone_user_text, user_difference_text, user_differences_text}

-- a text that ends with a byte is not empty
not_empty : (xs ys : List ℕ) → ys ≢ [] → xs ++ ys ≢ []
not_empty [] ys h e = h e
not_empty (x ∷ xs) ys h e = cc

-- both parts of an empty text are empty
parts_empty : (xs ys : List ℕ) → xs ++ ys ≡ [] → (xs ≡ []) × (ys ≡ [])
parts_empty [] ys e = (refl, e)
parts_empty (x ∷ xs) ys e = absurd cc

-- if each item has a text, no text is that of no item
none_written : {A : Type 0} (F : A → List ℕ) → ((x : A) → F x ≢ []) → (xs : List A) → flat_map F xs ≡ [] → xs ≡ []
none_written F some [] e = refl
none_written F some (x ∷ xs) e = absurd (some x (parts_empty (F x) (flat_map F xs) e).0)

fate_is_written : (b : Bool) → fate_text b ≢ []
fate_is_written true e = cc
fate_is_written false e = cc

lone_is_written : (l : Lone) → lone_text l ≢ []
lone_is_written l = not_empty (codes "process " ++ process_text l.process ++ codes " " ++ l.user) (fate_text l.is_new) (fate_is_written l.is_new)

change_is_written : (before after : Option Rights) → change_text before after ≢ []
change_is_written before after =
    not_empty (codes " " ++ letters_text before ++ codes " " ++ letters_text after) (codes "\n") (λ e. cc)

difference_is_written : (d : Difference) → difference_text d ≢ []
difference_is_written d =
    not_empty (path_text d.path ++ codes " " ++ process_text d.process ++ codes " " ++ user_text d.old_user d.user)
    (change_text d.before d.after) (change_is_written d.before d.after)

-- there is no text of two lists exactly if both are empty
neither_written : {A B : Type 0} (F : A → List ℕ) (G : B → List ℕ) → ((x : A) → F x ≢ []) → ((y : B) → G y ≢ [])
    → (xs : List A) (ys : List B)
    → (flat_map F xs ++ flat_map G ys ≡ []) ↔ ((xs ≡ []) × (ys ≡ []))
neither_written F G each every xs ys = (
  λ e.
      let parts = parts_empty (flat_map F xs) (flat_map G ys) e in
      (none_written F each xs parts.0, none_written G every ys parts.1),
  λ none i. flat_map F (none.0 i) ++ flat_map G (none.1 i),
)

-- there is no text exactly if there is no lone process and no difference
pub no_text : (lone : List Lone) (ds : List Difference) → (differences_text lone ds ≡ []) ↔ ((lone ≡ []) × (ds ≡ []))
no_text lone ds = neither_written lone_text difference_text lone_is_written difference_is_written lone ds

-- ---- users

lone_user_is_written : (l : LoneUser) → lone_user_text l ≢ []
lone_user_is_written l = not_empty (codes "user " ++ l.user) (fate_text l.is_new) (fate_is_written l.is_new)

user_difference_is_written : (d : UserDifference) → user_difference_text d ≢ []
user_difference_is_written d =
    not_empty (path_text d.path ++ codes " " ++ d.user) (change_text d.before d.after) (change_is_written d.before d.after)

-- there is no text exactly if there is no lone user and no difference for users
pub no_user_text : (lone : List LoneUser) (ds : List UserDifference) → (user_differences_text lone ds ≡ []) ↔ ((lone ≡ []) × (ds ≡ []))
no_user_text lone ds = neither_written lone_user_text user_difference_text lone_user_is_written user_difference_is_written lone ds
