-- Groups are read from the texts that spell them, and from no others.
use Rattle.std.proofs.Common.{◌≡◌, ℕ, zero, suc, ◌<◌, ◌≤◌, true, List, [], ◌∷◌, ◌++◌, length, Option, Some, None, refl, sym, ap, subst, ◌∙◌, arith}
use Rattle.std.proofs.Common.{append_assoc, append-nil}
use Rattle.std.specs.List.{list_all}
use Rattle.std.proofs.lemmas.Option.{cond_some, same_Some}
use Rattle.std.proofs.lemmas.Bool.{and_parts}
use Rattle.histar_flat.specs.Words.{Name, is_user_name, user_name_of}
use Rattle.histar_flat.specs.Accounts.{Group, most_members}
use Rattle.histar_flat.proofs.SplitLemmas.{split_alone}
use Rattle.histar_flat.proofs.Options.{bind_some}
use Rattle.histar_script.specs.Lines.{split_word, ◌space◌}
use Rattle.histar_script.specs.Reading.{◌>>=◌, members_from, members_of, group_of}
use Rattle.histar_script.specs.Grammar.{spaced}
use Rattle.histar_script.proofs.Members.{members_after}
use Rattle.histar_script.proofs.Parting.{parted, split_part}
use Rattle.histar_script.proofs.WordsBack.{split_name, name_lacks_space, user_name_is_name}

-- ---- what is read is spelled

-- the members that are read after others are spelled in the text, with a space before each
abbrev AreFound : ℕ → List Name → List ℕ → List Name → Type 0
AreFound most before text members =
    (names : List Name) × (members ≡ before ++ names) × (32 ∷ text ≡ spaced names)
    × (list_all is_user_name names ≡ true) × (0 < length names) × (length names ≤ most)

-- a member and what follows it are spelled
found_step : (most : ℕ) (before : List Name) (text : List ℕ) (name : Name) (members : List Name)
    (after : Option (List ℕ)) → is_user_name name ≡ true → (split_word text).0 ≡ name → (split_word text).1 ≡ after
    → ((rest : List ℕ) → members_from most (before ++ name ∷ []) rest ≡ Some members → AreFound most (before ++ name ∷ []) rest members)
    → members_after most before name after ≡ Some members → AreFound (suc most) before text members
found_step most before text name members None named word end later e = (
  name ∷ [],
  sym (same_Some (before ++ name ∷ []) members e),
  ap (λ (l : List ℕ). 32 ∷ l) (split_part 32 text end ∙ word ∙ sym (append-nil name)),
  rw named refl,
  omega arith,
  omega arith,
)
found_step most before text name members (Some rest) named word on later e =
    let r = later rest e in (
      name ∷ r.0,
      r.1 ∙ append_assoc before (name ∷ []) r.0,
      ap (λ (l : List ℕ). 32 ∷ l) (parted text name rest word on) ∙ ap (λ (l : List ℕ). 32 ∷ (name ++ l)) r.2,
      rw (named, r.3) refl,
      omega arith,
      omega (arith, r.5),
    )

-- members that are read are spelled
found : (most : ℕ) (before : List Name) (text : List ℕ) (members : List Name)
    → members_from most before text ≡ Some members → AreFound most before text members
unfolding members_from
found zero before text members e = absurd cc
found (suc most) before text members e =
    let w = split_word text in
    let a = bind_some (user_name_of w.0) (λ name. members_after most before name w.1) members e in
    let name = cond_some (is_user_name w.0) w.0 a.0 a.1 in
    found_step most before text a.0 members w.1 (ap is_user_name (sym name.1) ∙ name.0) name.1 refl
    (λ rest. found most (before ++ a.0 ∷ []) rest members) a.2

-- the group of this name and these members
abbrev pub made_group : Name → List Name → Group
made_group name members = record { name = name; members = members }

-- the text is the name of the group and those of its members, which a group may have
abbrev pub SpellsGroup : List ℕ → Group → Type 0
SpellsGroup text g =
    (text ≡ g.name ++ spaced g.members) × (is_user_name g.name ≡ true) × (list_all is_user_name g.members ≡ true)
    × (0 < length g.members) × (length g.members ≤ most_members)

-- a group with the members that are found is spelled
found_group : (text rest : List ℕ) (name : Name) (members : List Name) → text ≡ name space rest
    → is_user_name name ≡ true → AreFound most_members [] rest members → SpellsGroup text (made_group name members)
found_group text rest name members spelled named is = (
  spelled ∙ ap (λ (l : List ℕ). name ++ l) (is.2 ∙ ap spaced (sym is.1)),
  named,
  ap (list_all is_user_name) is.1 ∙ is.3,
  subst (λ (names : List Name). 0 < length names) (sym is.1) is.4,
  subst (λ (names : List Name). length names ≤ most_members) (sym is.1) is.5,
)

-- a text that is read as a group spells the group
pub group_takes : (text : List ℕ) (g : Group) → group_of text ≡ Some g → SpellsGroup text g
unfolding group_of
group_takes text g e =
    let w = split_word text in
    let a = bind_some (user_name_of w.0) (λ name. w.1 >>= λ rest. members_of rest >>= λ members. Some (made_group name members)) g e in
    let b = bind_some w.1 (λ rest. members_of rest >>= λ members. Some (made_group a.0 members)) g a.2 in
    let d = bind_some (members_of b.0) (λ members. Some (made_group a.0 members)) g b.2 in
    let name = cond_some (is_user_name w.0) w.0 a.0 a.1 in
    let right : is_user_name a.0 ≡ true = ap is_user_name (sym name.1) ∙ name.0 in
    subst (SpellsGroup text) (same_Some (made_group a.0 d.0) g d.2)
    (found_group text b.0 a.0 d.0 (parted text a.0 b.0 name.1 b.1) right (found most_members [] b.0 d.0 d.1))

-- ---- what is spelled is read

-- what follows a name, if more names do
abbrev after_name : List Name → Option (List ℕ)
after_name [] = None
after_name (name ∷ names) = Some (name ++ spaced names)

-- a name ends at the space before the next one
split_names : (name : Name) (names : List Name) → is_user_name name ≡ true → split_word (name ++ spaced names) ≡ (name, after_name names)
split_names name [] h = ap split_word (append-nil name) ∙ split_alone 32 name (name_lacks_space name (user_name_is_name name h))
split_names name (next ∷ names) h = split_name name (next ++ spaced names) (user_name_is_name name h)

-- members that are spelled are read
members_again : (most : ℕ) (before : List Name) (name : Name) (names : List Name)
    → list_all is_user_name (name ∷ names) ≡ true → length names ≤ most
    → members_from (suc most) before (name ++ spaced names) ≡ Some (before ++ name ∷ names)
unfolding members_from
members_again most before name [] h le = let p = and_parts (is_user_name name) true h in rw (split_names name [] p.0, p.0) refl
members_again zero before name (next ∷ names) h le = absurd (omega arith)
members_again (suc most) before name (next ∷ names) h le =
    let p = and_parts (is_user_name name) (list_all is_user_name (next ∷ names)) h in
    rw (split_names name (next ∷ names) p.0, p.0) (
    members_again most (before ++ name ∷ []) next names p.1 (omega arith)
    ∙ ap (λ (l : List Name). Some l) (append_assoc before (name ∷ []) (next ∷ names))
    )

-- a text that spells a group is read as the group
pub group_again : (name : Name) (members : List Name) → is_user_name name ≡ true → list_all is_user_name members ≡ true
    → 0 < length members → length members ≤ most_members
    → group_of (name ++ spaced members) ≡ Some (made_group name members)
unfolding group_of
group_again name [] named right some few = absurd (omega arith)
group_again name (first ∷ members) named right some few =
    rw (split_names name (first ∷ members) named, named, members_again 15 [] first members right (omega arith)) refl
