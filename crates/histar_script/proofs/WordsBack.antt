-- Words are read from the texts that spell them, and from no others.
use Rattle.std.proofs.Common.{◌≡◌, ℕ, ◌<◌, Bool, true, false, not, cond, eqb, ltb, leb, ◌&&◌, List, [], ◌∷◌, ◌++◌, length, Some, None, codes, refl}
use Rattle.std.proofs.Common.{sym, ap, subst, ◌∙◌, inl, inr}
use Rattle.std.proofs.lemmas.Option.{cond_some}
use Rattle.std.specs.List.{list_all}
use Rattle.std.specs.Str.{bytes_eq}
use Rattle.std.proofs.lemmas.Slice.Eq.{bytes_eq-Decides}
use Rattle.std.proofs.lemmas.Bool.{false≢true, false_from_ne_true, eqb-true, ltb-true, and_parts}
use Rattle.histar_flat.specs.declared.calls.Mode.{Mode}
use Rattle.histar_flat.specs.declared.calls.Mode.TheVariants.{Private, Readable, Open, Group}
use Rattle.std.specs.Option.{option_map}
use Rattle.histar_flat.specs.Words.{is_name, is_name_byte, is_dots, is_user_name, begins_with_letter, split_at_first, user_name_of}
use Rattle.histar_flat.specs.Modes.{colon, group_mode_of, mode_of, is_line_mode}
use Rattle.histar_flat.specs.Texts.{mode_text}
use Rattle.histar_flat.proofs.SplitLemmas.{lacks, split_before}
use Rattle.histar_flat.proofs.Options.{bind_some, either_chosen}
use Rattle.histar_script.specs.Lines.{split_word, ◌space◌}
use Rattle.histar_script.specs.Reading.{◌>>=◌}
use Rattle.histar_script.proofs.Chains.{mapped}
use Rattle.histar_script.proofs.Parting.{split_parts}

-- ---- names

-- a name is not empty
pub name_has_bytes : (name : List ℕ) → is_name name ≡ true → 0 < length name
unfolding is_name
name_has_bytes name h =
    let short = and_parts (ltb 0 (length name) && leb (length name) 32) (list_all is_name_byte name) (and_parts _ (not (is_dots name)) h).0 in
    ltb-true 0 (length name) (and_parts (ltb 0 (length name)) (leb (length name) 32) short.0).0

-- each byte of a name is one that a name may have
name_bytes : (name : List ℕ) → is_name name ≡ true → list_all is_name_byte name ≡ true
unfolding is_name
name_bytes name h = (and_parts _ (list_all is_name_byte name) (and_parts _ (not (is_dots name)) h).0).1

-- a byte that fails a test is not among bytes that pass it
pub bytes_lack : (test : ℕ → Bool) (a : ℕ) (bs : List ℕ) → test a ≡ false → list_all test bs ≡ true → lacks a bs ≡ true
bytes_lack test a [] other h = refl
bytes_lack test a (b ∷ bs) other h =
    let p = and_parts (test b) (list_all test bs) h in
    rw (differs b p.0, bytes_lack test a bs other p.1) refl
  where
    differs : (x : ℕ) → test x ≡ true → eqb x a ≡ false
    differs x passes = false_from_ne_true (eqb x a) (λ e. false≢true (sym other ∙ sym (ap test (eqb-true x a e)) ∙ passes))

-- a name has no space
pub name_lacks_space : (name : List ℕ) → is_name name ≡ true → lacks 32 name ≡ true
name_lacks_space name h = bytes_lack is_name_byte 32 name refl (name_bytes name h)

-- a name has no slash
pub name_lacks_slash : (name : List ℕ) → is_name name ≡ true → lacks 47 name ≡ true
name_lacks_slash name h = bytes_lack is_name_byte 47 name refl (name_bytes name h)

-- a name ends at the space after it
pub split_name : (name rest : List ℕ) → is_name name ≡ true → split_word (name space rest) ≡ (name, Some rest)
split_name name rest h = split_before 32 name rest (name_lacks_space name h)

-- a user's name is a name
pub user_name_is_name : (name : List ℕ) → is_user_name name ≡ true → is_name name ≡ true
unfolding is_user_name
user_name_is_name name h =
    (and_parts (is_name name) (begins_with_letter name)
    (and_parts (is_name name && begins_with_letter name) (not (bytes_eq name (codes "nobody"))) h).0).0

-- bytes that are found equal are equal
pub same_bytes : (xs ys : List ℕ) → bytes_eq xs ys ≡ true → xs ≡ ys
same_bytes xs ys h = (bytes_eq-Decides xs ys).0 h

-- ---- modes

-- the text is that of a mode that a line can name
abbrev IsSpelled : List ℕ → Mode → Type 0
IsSpelled text mode = (text ≡ mode_text mode) × (is_line_mode mode ≡ true)

-- a text that is read as a group's mode spells the mode
group_mode_takes : (text : List ℕ) (mode : Mode) → group_mode_of text ≡ Some mode → IsSpelled text mode
unfolding group_mode_of
group_mode_takes text mode e =
    let w = split_at_first colon text in
    elim (either_chosen (bytes_eq w.0 (codes "group")) (w.1 >>= λ name. option_map (λ group. Group group) (user_name_of name)) None (Some mode) e) [
      | inl h ↦
          let a = bind_some w.1 (λ name. option_map (λ group. Group group) (user_name_of name)) mode h.1 in
          let m = mapped (user_name_of a.0) (λ group. Group group) mode a.2 in
          let name = cond_some (is_user_name a.0) a.0 m.0 m.1 in
          let word = ap (λ (l : List ℕ). l ++ colon ∷ a.0) (same_bytes w.0 (codes "group") h.0) in
          let spelled : text ≡ codes "group:" ++ a.0 = split_parts colon text a.0 a.1 ∙ word in
          subst (IsSpelled text) m.2 (spelled ∙ ap (λ (l : List ℕ). codes "group:" ++ l) name.1, ap is_user_name (sym name.1) ∙ name.0)
      | inr h ↦ absurd cc
    ]

-- a text that is read as a mode spells it, and a line can name it
pub mode_takes : (text : List ℕ) (mode : Mode) → mode_of text ≡ Some mode → (text ≡ mode_text mode) × (is_line_mode mode ≡ true)
mode_takes text mode e =
    elim (either_chosen (bytes_eq text (codes "private")) (Some Private) (cond (bytes_eq text (codes "readable")) (Some Readable)
    (cond (bytes_eq text (codes "open")) (Some Open) (group_mode_of text))) (Some mode) e) [
      | inl h ↦ let same : Private ≡ mode = cc in subst (IsSpelled text) same (same_bytes text (codes "private") h.0, refl)
      | inr h ↦
          elim (either_chosen (bytes_eq text (codes "readable")) (Some Readable)
          (cond (bytes_eq text (codes "open")) (Some Open) (group_mode_of text)) (Some mode) h.1) [
            | inl k ↦ let same : Readable ≡ mode = cc in subst (IsSpelled text) same (same_bytes text (codes "readable") k.0, refl)
            | inr k ↦ elim (either_chosen (bytes_eq text (codes "open")) (Some Open) (group_mode_of text) (Some mode) k.1) [
              | inl o ↦ let same : Open ≡ mode = cc in subst (IsSpelled text) same (same_bytes text (codes "open") o.0, refl)
              | inr o ↦ group_mode_takes text mode o.1
            ]
          ]
    ]

-- a text that spells a mode is read as it, if a line can name it
pub mode_again : (mode : Mode) → is_line_mode mode ≡ true → mode_of (mode_text mode) ≡ Some mode
unfolding group_mode_of split_at_first
mode_again Private h = refl
mode_again Readable h = refl
mode_again Open h = refl
mode_again (Group name) h = rw h refl
