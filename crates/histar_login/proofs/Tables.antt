-- What the raw calls of boot make of the state of a table: entries are changed, and objects are appended.
use Rattle.std.proofs.Common.{◌≡◌, ℕ, zero, suc, ◌+◌, ◌==◌, Bool, true, false, List, [], ◌∷◌, ◌++◌, length, get_or, None, Some, if◌then◌else◌, refl}
use Rattle.std.proofs.Common.{sym, ap, ◌∙◌, arith}
use Rattle.std.specs.Prelude.{option_map}
use Rattle.std.proofs.lemmas.Bool.Decides.{nat_tests}
use Rattle.std.proofs.lemmas.List.{length-append}
use Rattle.histar_level.specs.Levels.{Levels}
use Rattle.histar_object.specs.declared.objects.Object.{Object}
use Rattle.histar_object.specs.Objects.{put, changed_at, linking}
use Rattle.histar_rules.specs.Rights.{with_category, with_star_at}
use Rattle.histar_object.specs.State.{Found, with_object}
use Rattle.histar_programs.specs.Start.{object_at, state_with}

-- a table with one of its entries changed, if it has an object
abbrev pub changed : (Object Levels → Object Levels) → ℕ → List Found → List Found
changed f k [] = []
changed f zero (x ∷ table) = option_map f x ∷ table
changed f (suc k) (x ∷ table) = x ∷ changed f k table

-- a number above 0 is not 0
first_is_last : (k : ℕ) → (suc k == 0) ≡ false
first_is_last k = grind (arith, nat_tests)

-- 0 is no number above it
last_is_first : (n : ℕ) → (0 == suc n) ≡ false
last_is_first n = grind (arith, nat_tests)

-- two numbers are the same where those before them are
both_later : (k n : ℕ) → (suc k == suc n) ≡ (k == n)
both_later k n = grind (arith, nat_tests)

-- a test that fails picks the second
other : (b : Bool) (x y : Found) → b ≡ false → (if b then x else y) ≡ y
other b x y h = ap (λ t. if t then x else y) h

-- an object that is put at the end of a table is after the others
put_behind : (objects : List Found) (o : Object Levels) (k : ℕ)
    → (if k == length objects then Some o else get_or objects k None) ≡ get_or (objects ++ Some o ∷ []) k None
put_behind [] o zero = refl
put_behind [] o (suc k) = other (suc k == 0) (Some o) None (first_is_last k)
put_behind (x ∷ objects) o zero = other (0 == suc (length objects)) (Some o) x (last_is_first (length objects))
put_behind (x ∷ objects) o (suc k) = ap (λ t. if t then Some o else get_or objects k None) (both_later k (length objects)) ∙ put_behind objects o k

-- the number after those of a table
one_more : (n : ℕ) → 1 + n ≡ suc n
one_more n = omega arith

-- what is put under the next number is appended
put_is : (objects : List Found) (o : Object Levels) (q : ℕ) → put (object_at objects) (1 + length objects) o q ≡ object_at (objects ++ Some o ∷ []) q
put_is objects o zero =
    ap (λ n. put (object_at objects) n o zero) (one_more (length objects))
    ∙ other (0 == suc (length objects)) (Some o) None (last_is_first (length objects))
put_is objects o (suc k) =
    ap (λ n. put (object_at objects) n o (suc k)) (one_more (length objects))
    ∙ ap (λ t. if t then Some o else get_or objects k None) (both_later k (length objects)) ∙ put_behind objects o k

-- nothing is changed where nothing is
changed_empty : (f : Object Levels → Object Levels) (b : Bool) → (if b then option_map f None else None) ≡ None
changed_empty f true = refl
changed_empty f false = refl

-- what is changed at a place is changed in the table
changed_within : (f : Object Levels → Object Levels) (table : List Found) (k j : ℕ)
    → (if j == k then option_map f (get_or table j None) else get_or table j None) ≡ get_or (changed f k table) j None
changed_within f [] k zero = changed_empty f (0 == k)
changed_within f [] k (suc j) = changed_empty f (suc j == k)
changed_within f (x ∷ table) zero zero = refl
changed_within f (x ∷ table) zero (suc j) = other (suc j == 0) (option_map f (get_or table j None)) (get_or table j None) (first_is_last j)
changed_within f (x ∷ table) (suc k) zero = other (0 == suc k) (option_map f x) x (last_is_first k)
changed_within f (x ∷ table) (suc k) (suc j) =
    ap (λ t. if t then option_map f (get_or table j None) else get_or table j None) (both_later j k)
    ∙ changed_within f table k j

-- what is changed at a number is changed in the table
changed_is : (f : Object Levels → Object Levels) (table : List Found) (k q : ℕ)
    → changed_at (object_at table) (suc k) f q ≡ object_at (changed f k table) q
changed_is f table k zero = changed_empty f (0 == suc k)
changed_is f table k (suc j) =
    ap (λ t. if t then option_map f (get_or table j None) else get_or table j None) (both_later j k)
    ∙ changed_within f table k j

-- a change keeps the length
length-changed : (f : Object Levels → Object Levels) (table : List Found) (k : ℕ) → length (changed f k table) ≡ length table
length-changed f [] k = refl
length-changed f (x ∷ table) zero = refl
length-changed f (x ∷ table) (suc k) = ap suc (length-changed f table k)

-- the entry after the front is changed
pub changed_behind : (f : Object Levels → Object Levels) (front : List Found) (x : Found) (back : List Found)
    → changed f (length front) (front ++ x ∷ back) ≡ front ++ option_map f x ∷ back
changed_behind f [] x back = refl
changed_behind f (y ∷ front) x back = ap (λ (l : List Found). y ∷ l) (changed_behind f front x back)

-- a thread makes a category
pub with_category_is : (table : List Found) (c k : ℕ)
    → with_category (state_with table c) (suc k) ≡ state_with (changed (with_star_at c) k table) (c + 1)
with_category_is table c k =
    λ i. record {
      objects = λ q. changed_is (with_star_at c) table k q i;
      next_object = 1 + sym (length-changed (with_star_at c) table k) i;
      next_category = c + 1;
    }

-- a container gets an object more
pub added_is : (table : List Found) (c k : ℕ) (o : Object Levels)
    → with_object (state_with table c) (suc k) o
    ≡ state_with (changed (linking (1 + length table)) k table ++ Some o ∷ []) c
added_is table c k o =
    let n = 1 + length table in
    let linked = changed (linking {L = Levels} n) k table in
    let same : n ≡ 1 + length linked = omega (arith, length-changed (linking {L = Levels} n) table k) in
    let at : (q : ℕ) → put (changed_at (object_at table) (suc k) (linking n)) n o q ≡ object_at (linked ++ Some o ∷ []) q =
    λ q. (λ i. if q == same i then Some o else changed_is (linking n) table k q i) ∙ put_is linked o q in
    let longer : 1 + length table + 1 ≡ 1 + length (linked ++ Some o ∷ []) = omega (arith, same, length-append linked (Some o ∷ [])) in
    λ i. record { objects = λ q. at q i; next_object = longer i; next_category = c }
