-- The arguments of a right call are words, or bytes at its end.
use Rattle.std.proofs.Common.{◌≡◌, ℕ, ◌<◌, ◌^◌, Bool, true, false, eqb, ◌&&◌, not, List, ◌∷◌, ◌++◌, [], codes, length}
use Rattle.std.proofs.Common.{Option, Some, None, refl, sym, ap, subst, ◌∙◌, inl, inr, arith}
use Rattle.std.specs.Prelude.{is_some}
use Rattle.std.specs.List.{list_all}
use Rattle.std.specs.Fmt.{decimal}
use Rattle.std.proofs.lemmas.Bool.{and_parts, ltb-true, not-true}
use Rattle.std.proofs.lemmas.Bool.Decides.{nat_tests}
use Rattle.std.proofs.lemmas.Fmt.{decimal_nonempty}
use Rattle.std.proofs.lemmas.List.Folds.{list_all-append}
use Rattle.std.proofs.lemmas.Option.{cond_some}
use Rattle.histar_flat.specs.declared.calls.Mode.{Mode}
use Rattle.histar_flat.specs.declared.calls.Mode.TheVariants.{Private, Readable, Open, Group}
use Rattle.histar_flat.specs.Words.{is_child_number, is_name, is_name_byte, is_dots, is_password, is_password_byte, is_user_name, path_of}
use Rattle.histar_flat.specs.Modes.{is_line_mode}
use Rattle.histar_flat.specs.Texts.{mode_text}
use Rattle.histar_flat.proofs.Numbers.{decimal_digits, is_digit}
use Rattle.histar_flat.proofs.Options.{either_chosen}
use Rattle.histar_flat.proofs.SplitLemmas.{lacks, split_alone}
use Rattle.histar_script.specs.CallForms.{Argument, a_path, a_mode, any_bytes, a_name, a_password, a_process, a_number, Value}
use Rattle.histar_script.specs.Lines.{◌space◌}
use Rattle.histar_script.specs.Reading.{value_of}
use Rattle.histar_script.proofs.ArgumentsBack.{is_bounded, value_takes}
use Rattle.histar_script.proofs.PathsBack.{path_lacks_space}
use Rattle.histar_script.proofs.ProcessesBack.{process_begins, process_lacks_space}
use Rattle.histar_script.proofs.WordsBack.{bytes_lack, name_has_bytes, name_lacks_space, user_name_is_name}
use Rattle.histar_lint.specs.Lines.{after_word}
use Rattle.histar_lint.specs.Calls.{goes_on, is_bytes, kind_of}
use Rattle.histar_lint.specs.FreeParts.{behind_spaces, free_in, one_word}
use Rattle.histar_lint.proofs.SpacesRight.{HasWords, IsWord, no_space, one_more, passing_word, word_alone, word_before}

-- ---- words

pub number_word : (n : ℕ) → n < 2 ^ 64 → IsWord (decimal n)
number_word n small = passing_word is_digit (decimal n) refl refl (decimal_nonempty n small) (decimal_digits n small)

pub name_word : (name : List ℕ) → is_name name ≡ true → IsWord name
unfolding is_name
name_word name h =
    passing_word is_name_byte name refl refl (name_has_bytes name h)
    (and_parts _ (list_all is_name_byte name) (and_parts _ (not (is_dots name)) h).0).1

pub user_name_word : (name : List ℕ) → is_user_name name ≡ true → IsWord name
user_name_word name h = name_word name (user_name_is_name name h)

mode_word : (mode : Mode) → is_line_mode mode ≡ true → IsWord (mode_text mode)
mode_word Private h = record { first = 112; rest = codes "rivate"; parts = refl; plain = refl; no_sign = refl }
mode_word Readable h = record { first = 114; rest = codes "eadable"; parts = refl; plain = refl; no_sign = refl }
mode_word Open h = record { first = 111; rest = codes "pen"; parts = refl; plain = refl; no_sign = refl }
mode_word (Group name) h = record {
  first = 103;
  rest = codes "roup:" ++ name;
  parts = refl;
  plain = list_all-append (λ b. not (eqb b 32)) (codes "group:") name ∙ rw (name_lacks_space name (user_name_is_name name h)) refl;
  no_sign = refl;
}

-- an argument of this kind is a word
abbrev pub is_word : Argument → Bool
is_word any_bytes = false
is_word a_password = false
is_word a = true

-- a path begins with its slash
path_begins : (text : List ℕ) (path : List (List ℕ)) → path_of text ≡ Some path → lacks 32 text ≡ true → IsWord text
path_begins [] path e plain = absurd cc
path_begins (b ∷ text) path e plain =
    elim (either_chosen (eqb b 47) _ None (Some path) e) [
      | inl h ↦ record { first = b; rest = text; parts = refl; plain = plain; no_sign = other b h.0 }
      | inr h ↦ absurd cc
    ]
  where
    other : (b : ℕ) → eqb b 47 ≡ true → eqb b 35 ≡ false
    other b is = grind (arith, is)

-- a text that is read as such an argument is a word
pub value_word : (a : Argument) (text : List ℕ) (x : Value a) → is_word a ≡ true → is_bounded a ≡ true → value_of a text ≡ Some x → IsWord text
value_word a_path text x word bounded e =
    let h = value_takes a_path text x e in
    path_begins text x e (ap (lacks 32) h.0 ∙ path_lacks_space x (and_parts _ (list_all is_name x) h.1).1)
value_word a_mode text x word bounded e = let h = value_takes a_mode text x e in subst IsWord (sym h.0) (mode_word x h.1)
value_word any_bytes text x word bounded e = absurd cc
value_word a_name text x word bounded e = name_word text (cond_some (is_name text) text x e).0
value_word a_password text x word bounded e = absurd cc
value_word a_process text x word bounded e =
    let h = value_takes a_process text x e in
    let begins = process_begins x in record {
      first = 48;
      rest = begins.0;
      parts = h.0 ∙ begins.1;
      plain = ap (lacks 32) h.0 ∙ process_lacks_space x (and_parts _ (list_all is_child_number x) h.1).1;
      no_sign = refl;
    }
value_word (a_number greatest) text x word bounded e =
    let h = value_takes (a_number greatest) text x e in
    let small = ltb-true greatest (2 ^ 64) bounded in
    subst IsWord (sym h.0) (number_word x (omega (arith, small, h.1)))

-- ---- an argument at the end of its line

-- nothing follows bytes without a space
pub ends_here : (text : List ℕ) → lacks 32 text ≡ true → after_word text ≡ None
ends_here text plain = ap (λ (p : List ℕ × Option (List ℕ)). p.1) (split_alone 32 text plain)

-- a text that begins with no space has none to leave out
pub nothing_skipped : (b : ℕ) (text : List ℕ) → eqb b 32 ≡ false → behind_spaces (b ∷ text) ≡ b ∷ text
nothing_skipped b text other = rw other refl

-- a word has no space to leave out before it
pub word_stays : (word rest : List ℕ) → IsWord word → behind_spaces (word ++ rest) ≡ word ++ rest
word_stays word rest w =
    let parts : word ++ rest ≡ w.first ∷ (w.rest ++ rest) = ap (λ (l : List ℕ). l ++ rest) w.parts in
    ap behind_spaces parts ∙ nothing_skipped w.first (w.rest ++ rest) (no_space word w) ∙ sym parts

-- a password is a free part
pub password_free : (password : List ℕ) → is_password password ≡ true
    → (lacks 32 password ≡ true) × (one_word (behind_spaces password) ≡ Some password)
unfolding is_password
password_free [] h = absurd cc
password_free (b ∷ text) h =
    let all = (and_parts _ (list_all is_password_byte (b ∷ text)) h).1 in
    let plain : lacks 32 (b ∷ text) ≡ true = bytes_lack is_password_byte 32 (b ∷ text) refl all in
    let other = not-true (eqb b 32) (and_parts (not (eqb b 32)) (lacks 32 text) plain).0 in
    let some : eqb (length (b ∷ text)) 0 ≡ false = grind (arith, nat_tests) in
    (plain, ap one_word (nothing_skipped b text other) ∙ rw (some, ends_here (b ∷ text) plain) refl)

-- the free part of an argument at the end of its line; no word follows it, and it may follow a word
pub record EndsLine (a : Argument) (text : List ℕ) : Type 0 where
  pub free : Option (List ℕ)
  pub is_free : free_in (kind_of a) text ≡ free
  pub ends : goes_on (kind_of a) text ≡ false
  pub follows : (word : List ℕ) → IsWord word → HasWords (word space text) free

-- so does a word
word_ends : (a : Argument) (text : List ℕ) → free_in (kind_of a) text ≡ None → IsWord text → EndsLine a text
word_ends a text none w = record {
  free = None;
  is_free = none;
  ends = ap (λ (o : Option (List ℕ)). not (is_bytes (kind_of a)) && is_some o) (ends_here text w.plain) ∙ and_false (not (is_bytes (kind_of a)));
  follows = λ word v. one_more word text None v (word_alone text w);
}
  where
    and_false : (b : Bool) → (b && false) ≡ false
    and_false true = refl
    and_false false = refl

-- the last argument of a call ends its line
pub value_ends : (a : Argument) (text : List ℕ) (x : Value a) → is_bounded a ≡ true → value_of a text ≡ Some x → EndsLine a text
value_ends a_path text x bounded e = word_ends a_path text refl (value_word a_path text x refl bounded e)
value_ends a_mode text x bounded e = word_ends a_mode text refl (value_word a_mode text x refl bounded e)
value_ends any_bytes text x bounded e = record { free = Some text; is_free = refl; ends = refl; follows = λ word w. word_before word text w }
value_ends a_name text x bounded e = word_ends a_name text refl (value_word a_name text x refl bounded e)
value_ends a_password text x bounded e =
    let is = password_free text (cond_some (is_password text) text x e).0 in
    record { free = Some text; is_free = is.1; ends = ap is_some (ends_here text is.0); follows = λ word w. word_before word text w }
value_ends a_process text x bounded e = word_ends a_process text refl (value_word a_process text x refl bounded e)
value_ends (a_number greatest) text x bounded e = word_ends (a_number greatest) text refl (value_word (a_number greatest) text x refl bounded e)
