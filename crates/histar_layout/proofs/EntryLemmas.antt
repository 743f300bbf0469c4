-- An entry that is read is the one that was written, and a written entry is read again.
use Rattle.std.proofs.Common.{◌≡◌, ℕ, suc, ◌+◌, ◌^◌, ◌<◌, ◌≤◌, true, false, not, cond, eqb, leb, ◌&&◌, List, [], ◌∷◌, ◌++◌, length, get_or, take}
use Rattle.std.proofs.Common.{drop, Option, Some, None, refl, sym, ap, subst, ◌∙◌, append_assoc, length-append, inl, inr, arith}
use Rattle.std.specs.Int.{w64, to_be_bytes, from_be_bytes}
use Rattle.std.proofs.lemmas.Bool.{cases_lt, leb-true, le-leb, eqb-true, and_parts}
use Rattle.std.proofs.lemmas.Bool.Decides.{nat_tests}
use Rattle.std.proofs.lemmas.List.{take_at, drop_at, take-append-drop, length-take, get_or-drop, get_or-take, get_or_past}
use Rattle.std.proofs.lemmas.Nat.{be_bytes_8, from_be_bytes-to_be_bytes_8}
use Rattle.std.proofs.lemmas.Option.{cond_some, same_Some}
use Rattle.histar_flat.specs.Words.{Name, is_name, name_of}
use Rattle.histar_flat.proofs.Options.{bind_some, either_chosen}
use Rattle.histar_layout.specs.declared.entry.Target.{Target}
use Rattle.histar_layout.specs.declared.entry.Target.TheVariants.{File, Directory}
use Rattle.histar_layout.specs.Directory.{target_bytes, entry_bytes, IsTarget, IsEntry}
use Rattle.histar_layout.specs.Reading.{◌>>=◌, front_at, number_at, target_of, target_at, entry_at}

-- ---- steps

-- a step that gives a value goes on with it
pub bind_at : {A B : Type 0} (o : Option A) (f : A → Option B) (x : A) → o ≡ Some x → (o >>= f) ≡ f x
bind_at o f x e = ap (λ p. p >>= f) e

-- ---- bytes at the front

-- each of these numbers is a byte
abbrev pub IsBytes : List ℕ → Type 0
IsBytes bytes = (i : ℕ) → get_or bytes i 0 < 256

-- so are those after the first n
IsBytes-drop : (n : ℕ) (bytes : List ℕ) → IsBytes bytes → IsBytes (drop n bytes)
IsBytes-drop n bytes h i = rw get_or-drop (h (n + i))

-- so are the first n
IsBytes-take : (n : ℕ) (bytes : List ℕ) → IsBytes bytes → IsBytes (take n bytes)
IsBytes-take n bytes h i =
    elim (cases_lt i n) [
      | inl lt ↦ rw (get_or-take n bytes i 0 lt) (h i)
      | inr le ↦ rw (get_or_past (take n bytes) i 0 (omega (arith, length-take n bytes))) (omega arith)
    ]

-- so are those after the first
pub IsBytes-rest : (b : ℕ) (bytes : List ℕ) → IsBytes (b ∷ bytes) → IsBytes bytes
IsBytes-rest b bytes h i = h (suc i)

-- the bytes are the first n and the rest
record IsSplit (n : ℕ) (bytes : List ℕ) (x : List ℕ × List ℕ) : Type 0 where
  parts : bytes ≡ x.0 ++ x.1
  len : length x.0 ≡ n
  front_fits : IsBytes x.0
  rest_fits : IsBytes x.1

-- splitting off a front gives the front and the rest
front_takes : (n : ℕ) (bytes : List ℕ) (x : List ℕ × List ℕ) → IsBytes bytes → front_at n bytes ≡ Some x → IsSplit n bytes x
unfolding front_at
front_takes n bytes x fits e =
    let g = cond_some (leb n (length bytes)) (take n bytes, drop n bytes) x e in
    let long : n ≤ length bytes = leb-true n (length bytes) g.0 in
    subst (IsSplit n bytes) g.1 (record {
      parts = sym (take-append-drop n bytes);
      len = omega (arith, length-take n bytes);
      front_fits = IsBytes-take n bytes fits;
      rest_fits = IsBytes-drop n bytes fits;
    })

-- a front that was written is split off again
pub front_again : (n : ℕ) (front rest : List ℕ) → length front ≡ n → front_at n (front ++ rest) ≡ Some (front, rest)
unfolding front_at
front_again n front rest len =
    let long : leb n (length (front ++ rest)) ≡ true = le-leb n (length (front ++ rest)) (omega (arith, length-append front rest)) in
    rw (long, take_at front rest n len, drop_at front rest n len) refl

-- a reader took this text from the front, and left the rest
pub record Takes (bytes text rest : List ℕ) : Type 0 where
  pub parts : bytes ≡ text ++ rest
  pub rest_fits : IsBytes rest

-- ---- numbers

-- a number that is read was written as these bytes, and has 64 bits
pub number_takes : (bytes : List ℕ) (x : ℕ × List ℕ) → IsBytes bytes → number_at bytes ≡ Some x
    → Takes bytes (to_be_bytes w64 x.0) x.1 × (x.0 < 2 ^ 64)
unfolding number_at
number_takes bytes x fits e =
    let a = bind_some (front_at 8 bytes) (λ front. Some (from_be_bytes w64 front.0, front.1)) x e in
    let f = front_takes 8 bytes a.0 fits a.1 in
    let b = f.front_fits in
    let same : (from_be_bytes w64 a.0.0, a.0.1) ≡ x = same_Some (from_be_bytes w64 a.0.0, a.0.1) x a.2 in
    let text : to_be_bytes w64 (from_be_bytes w64 a.0.0) ≡ a.0.0 = be_bytes_8 a.0.0 _ f.len f.front_fits refl in
    let below : from_be_bytes w64 a.0.0 < 2 ^ 64 = omega (arith, b 0, b 1, b 2, b 3, b 4, b 5, b 6, b 7) in
    subst (λ (y : ℕ × List ℕ). Takes bytes (to_be_bytes w64 y.0) y.1 × (y.0 < 2 ^ 64)) same
    (record { parts = f.parts ∙ ap (λ (t : List ℕ). t ++ a.0.1) (sym text); rest_fits = f.rest_fits }, below)

-- a number that was written is read again
pub number_again : (n : ℕ) (rest : List ℕ) → n < 2 ^ 64 → number_at (to_be_bytes w64 n ++ rest) ≡ Some (n, rest)
unfolding number_at
number_again n rest lt =
    bind_at (front_at 8 (to_be_bytes w64 n ++ rest)) (λ front. Some (from_be_bytes w64 front.0, front.1))
    (to_be_bytes w64 n, rest) (front_again 8 (to_be_bytes w64 n) rest refl)
    ∙ ap (λ (m : ℕ). Some (m, rest)) (from_be_bytes-to_be_bytes_8 n lt)

-- ---- targets

-- a number that isn't 0 is above it
positive : (n : ℕ) → eqb n 0 ≡ false → 0 < n
positive n e = grind (arith, nat_tests)

-- the same by the other test
positive_by_not : (n : ℕ) → not (eqb n 0) ≡ true → 0 < n
positive_by_not n e = grind (arith, nat_tests)

-- a number above 0 isn't 0
not_zero : (n : ℕ) → 0 < n → eqb n 0 ≡ false
not_zero n h = grind (arith, nat_tests)

-- a letter and two numbers are the bytes of a target
abbrev IsSpelledBy : ℕ → ℕ → ℕ → Target → Type 0
IsSpelledBy letter object listing t = (letter ∷ to_be_bytes w64 object ++ to_be_bytes w64 listing ≡ target_bytes t) × IsTarget t

-- a target that is made was spelled by this letter and these numbers
target_is : (letter object listing : ℕ) (t : Target) → object < 2 ^ 64 → listing < 2 ^ 64
    → target_of letter object listing ≡ Some t → IsSpelledBy letter object listing t
unfolding target_of
target_is letter object listing t lt1 lt2 e =
    let as_directory = cond (eqb letter 100 && not (eqb listing 0)) (Some (Directory object listing)) None in
    elim (either_chosen (eqb object 0) None (cond (eqb letter 102 && eqb listing 0) (Some (File object)) as_directory) (Some t) e) [
      | inl h ↦ absurd cc
      | inr there ↦ elim (either_chosen (eqb letter 102 && eqb listing 0) (Some (File object)) as_directory (Some t) there.1) [
        | inl h ↦
            let p = and_parts (eqb letter 102) (eqb listing 0) h.0 in
            let l : letter ≡ 102 = eqb-true letter 102 p.0 in
            let z : listing ≡ 0 = eqb-true listing 0 p.1 in
            subst (IsSpelledBy letter object listing) (same_Some (File object) t h.1)
            ((λ i. l i ∷ to_be_bytes w64 object ++ to_be_bytes w64 (z i)), (positive object there.0, lt1))
        | inr other ↦
            let g = cond_some (eqb letter 100 && not (eqb listing 0)) (Directory object listing) t other.1 in
            let p = and_parts (eqb letter 100) (not (eqb listing 0)) g.0 in
            let l : letter ≡ 100 = eqb-true letter 100 p.0 in
            subst (IsSpelledBy letter object listing) g.1
            ((λ i. l i ∷ to_be_bytes w64 object ++ to_be_bytes w64 listing), ((positive object there.0, lt1), (positive_by_not listing p.1, lt2)))
      ]
    ]

-- a letter and two pieces, joined, are a target's bytes
target_parts : (letter : ℕ) (bytes a x b rest text : List ℕ) → bytes ≡ a ++ x → x ≡ b ++ rest → letter ∷ a ++ b ≡ text → letter ∷ bytes ≡ text ++ rest
target_parts letter bytes a x b rest text p q r =
    ap (λ (t : List ℕ). letter ∷ t) (p ∙ ap (λ (t : List ℕ). a ++ t) q ∙ sym (append_assoc a b rest)) ∙ ap (λ (t : List ℕ). t ++ rest) r

-- a target that is read was written as these bytes
target_takes : (bytes : List ℕ) (x : Target × List ℕ) → IsBytes bytes → target_at bytes ≡ Some x → Takes bytes (target_bytes x.0) x.1 × IsTarget x.0
unfolding target_at
target_takes [] x fits e = absurd cc
target_takes (letter ∷ bytes) x fits e =
    let a =
    bind_some (number_at bytes) (λ object. number_at object.1 >>= λ listing. target_of letter object.0 listing.0 >>= λ target. Some
    (target, listing.1)) x e in
    let b = bind_some (number_at a.0.1) (λ listing. target_of letter a.0.0 listing.0 >>= λ target. Some (target, listing.1)) x a.2 in
    let d = bind_some (target_of letter a.0.0 b.0.0) (λ target. Some (target, b.0.1)) x b.2 in
    let object = number_takes bytes a.0 (IsBytes-rest letter bytes fits) a.1 in
    let listing = number_takes a.0.1 b.0 object.0.rest_fits b.1 in
    let t = target_is letter a.0.0 b.0.0 d.0 object.1 listing.1 d.1 in
    subst (λ (y : Target × List ℕ). Takes (letter ∷ bytes) (target_bytes y.0) y.1 × IsTarget y.0) {x = (d.0, b.0.1)} (same_Some (d.0, b.0.1) x d.2) (
      record {
        parts = target_parts letter bytes (to_be_bytes w64 a.0.0) a.0.1 (to_be_bytes w64 b.0.0) b.0.1
            (target_bytes d.0) object.0.parts listing.0.parts t.0;
        rest_fits = listing.0.rest_fits;
      },
      t.1,
    )

-- `f` makes a file
target_of_file : (file : ℕ) → 0 < file → target_of 102 file 0 ≡ Some (File file)
unfolding target_of
target_of_file file h = rw (not_zero file h) refl

-- `d` makes a directory
target_of_directory : (container listing : ℕ) → 0 < container → 0 < listing → target_of 100 container listing ≡ Some (Directory container listing)
unfolding target_of
target_of_directory container listing h k = rw (not_zero container h, not_zero listing k) refl

-- a letter and two numbers that were written are read again
numbers_again : (letter object listing : ℕ) (t : Target) (rest : List ℕ) → object < 2 ^ 64 → listing < 2 ^ 64
    → target_of letter object listing ≡ Some t
    → target_at (letter ∷ (to_be_bytes w64 object ++ to_be_bytes w64 listing) ++ rest) ≡ Some (t, rest)
unfolding target_at
numbers_again letter object listing t rest lt1 lt2 is =
    bind_at (number_at ((to_be_bytes w64 object ++ to_be_bytes w64 listing) ++ rest))
    (λ object. number_at object.1 >>= λ listing. target_of letter object.0 listing.0 >>= λ target. Some
    (target, listing.1)) (object, to_be_bytes w64 listing ++ rest)
    (ap number_at (append_assoc (to_be_bytes w64 object) (to_be_bytes w64 listing) rest) ∙ number_again object (to_be_bytes w64 listing ++ rest) lt1)
    ∙ bind_at (number_at (to_be_bytes w64 listing ++ rest))
    (λ listing. target_of letter object listing.0 >>= λ target. Some (target, listing.1)) (listing, rest)
    (number_again listing rest lt2)
    ∙ bind_at (target_of letter object listing) (λ target. Some (target, rest)) t is

-- a target that was written is read again
pub target_again : (t : Target) (rest : List ℕ) → IsTarget t → target_at (target_bytes t ++ rest) ≡ Some (t, rest)
target_again (File file) rest h = numbers_again 102 file 0 (File file) rest h.1 (omega arith) (target_of_file file h.0)
target_again (Directory container listing) rest h =
    numbers_again 100 container listing (Directory container listing) rest h.0.1 h.1.1
    (target_of_directory container listing h.0.0 h.1.0)

-- ---- entries

-- a length, a name and a target, joined, are an entry's bytes
entry_parts : (len : ℕ) (bytes text after name target rest : List ℕ) → length text ≡ len → bytes ≡ text ++ after
    → text ≡ name → after ≡ target ++ rest → len ∷ bytes ≡ (length name ∷ name ++ target) ++ rest
entry_parts len bytes text after name target rest l p n a =
    let whole : bytes ≡ (name ++ target) ++ rest =
    p ∙ ap (λ (t : List ℕ). t ++ after) n ∙ ap (λ (t : List ℕ). name ++ t) a ∙ sym (append_assoc name target rest) in
    let size : len ≡ length name = sym l ∙ ap length n in
    λ i. size i ∷ whole i

-- the front of the bytes is this entry
pub record IsAtFront (bytes : List ℕ) (x : (Name × Target) × List ℕ) : Type 0 where
  pub parts : bytes ≡ entry_bytes x.0 ++ x.1
  pub entry : IsEntry x.0
  pub rest_fits : IsBytes x.1

-- an entry that is read was written as these bytes
pub entry_takes : (bytes : List ℕ) (x : (Name × Target) × List ℕ) → IsBytes bytes → entry_at bytes ≡ Some x → IsAtFront bytes x
unfolding entry_at
entry_takes [] x fits e = absurd cc
entry_takes (len ∷ bytes) x fits e =
    let a =
    bind_some (front_at len bytes)
    (λ text. name_of text.0 >>= λ name. target_at text.1 >>= λ target. Some ((name, target.0), target.1)) x e in
    let b = bind_some (name_of a.0.0) (λ name. target_at a.0.1 >>= λ target. Some ((name, target.0), target.1)) x a.2 in
    let d = bind_some (target_at a.0.1) (λ target. Some ((b.0, target.0), target.1)) x b.2 in
    let f = front_takes len bytes a.0 (IsBytes-rest len bytes fits) a.1 in
    let n = cond_some (is_name a.0.0) a.0.0 b.0 b.1 in
    let t = target_takes a.0.1 d.0 f.rest_fits d.1 in
    subst (IsAtFront (len ∷ bytes)) {x = ((b.0, d.0.0), d.0.1)} (same_Some ((b.0, d.0.0), d.0.1) x d.2) (record {
      parts = entry_parts len bytes a.0.0 a.0.1 b.0 (target_bytes d.0.0) d.0.1 f.len f.parts n.1 t.0.parts;
      entry = (ap is_name (sym n.1) ∙ n.0, t.1);
      rest_fits = t.0.rest_fits;
    })

-- a name is read as itself
name_again : (name : List ℕ) → is_name name ≡ true → name_of name ≡ Some name
name_again name h = rw h refl

-- a written entry is read again, whatever follows
pub entry_again : (e : Name × Target) (rest : List ℕ) → IsEntry e → entry_at (entry_bytes e ++ rest) ≡ Some (e, rest)
unfolding entry_at
entry_again e rest h =
    bind_at (front_at (length e.0) ((e.0 ++ target_bytes e.1) ++ rest))
    (λ text. name_of text.0 >>= λ name. target_at text.1 >>= λ target. Some ((name, target.0), target.1))
    (e.0, target_bytes e.1 ++ rest)
    (ap (front_at (length e.0)) (append_assoc e.0 (target_bytes e.1) rest) ∙ front_again (length e.0) e.0 (target_bytes e.1 ++ rest) refl)
    ∙ bind_at (name_of e.0) (λ name. target_at (target_bytes e.1 ++ rest) >>= λ target. Some ((name, target.0), target.1)) e.0 (name_again e.0 h.0)
    ∙ bind_at (target_at (target_bytes e.1 ++ rest)) (λ target. Some ((e.0, target.0), target.1)) (e.1, rest) (target_again e.1 rest h.1)
