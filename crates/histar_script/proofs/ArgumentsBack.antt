-- Arguments of calls are read from the texts that spell them, and from no others.
use Rattle.std.proofs.Common.{◌≡◌, ℕ, ◌^◌, Bool, true, false, not, eqb, ltb, leb, List, Some, codes, refl, sym, ap, ◌∙◌, arith}
use Rattle.std.specs.List.{list_all}
use Rattle.std.specs.Fmt.{decimal}
use Rattle.std.proofs.lemmas.Option.{cond_some}
use Rattle.std.proofs.lemmas.Bool.{and_parts, ltb-true, leb-true, le-leb}
use Rattle.std.proofs.lemmas.List.Folds.{list_all-append}
use Rattle.histar_flat.specs.declared.calls.Mode.{Mode}
use Rattle.histar_flat.specs.declared.calls.Mode.TheVariants.{Private, Readable, Open, Group}
use Rattle.histar_flat.specs.Words.{is_name, is_password, is_password_byte, is_child_number, name_of, password_of, path_of, process_of, number_of}
use Rattle.histar_flat.specs.Modes.{mode_of, is_line_mode}
use Rattle.histar_flat.specs.Texts.{mode_text}
use Rattle.histar_flat.proofs.SplitLemmas.{lacks, split_before}
use Rattle.histar_flat.proofs.Numbers.{is_digit, decimal_digits, number_takes, number_again}
use Rattle.histar_script.specs.Lines.{split_word, ◌space◌}
use Rattle.histar_script.specs.CallForms.{Argument, a_path, a_mode, any_bytes, a_name, a_password, a_process, a_number, Value, Spells}
use Rattle.histar_script.specs.Reading.{value_of}
use Rattle.histar_script.proofs.PathsBack.{path_lacks_space, path_takes, path_again}
use Rattle.histar_script.proofs.ProcessesBack.{process_lacks_space, process_takes, process_again}
use Rattle.histar_script.proofs.WordsBack.{bytes_lack, name_lacks_space, user_name_is_name, mode_takes, mode_again}

-- a text that is read as a value spells it
pub value_takes : (a : Argument) (text : List ℕ) (x : Value a) → value_of a text ≡ Some x → Spells a text x
value_takes a_path text x e = path_takes text x e
value_takes a_mode text x e = mode_takes text x e
value_takes any_bytes text x e = cc
value_takes a_name text x e = let name = cond_some (is_name text) text x e in (name.1, ap is_name (sym name.1) ∙ name.0)
value_takes a_password text x e = let word = cond_some (is_password text) text x e in (word.1, ap is_password (sym word.1) ∙ word.0)
value_takes a_process text x e = process_takes text x e
value_takes (a_number greatest) text x e = let is = number_takes (λ n. leb n greatest) text x e in (is.0, leb-true x greatest is.1)

-- the greatest number fits 64 bits, if the argument is a number
abbrev pub is_bounded : Argument → Bool
is_bounded (a_number greatest) = ltb greatest (2 ^ 64)
is_bounded a = true

-- a text that spells a value is read as it
pub value_again : (a : Argument) (text : List ℕ) (x : Value a) → is_bounded a ≡ true → Spells a text x → value_of a text ≡ Some x
value_again a_path text x bounded h = ap path_of h.0 ∙ path_again x h.1
value_again a_mode text x bounded h = ap mode_of h.0 ∙ mode_again x h.1
value_again any_bytes text x bounded h = ap (λ (l : List ℕ). Some l) h
value_again a_name text x bounded h = ap name_of h.0 ∙ rw h.1 refl
value_again a_password text x bounded h = ap password_of h.0 ∙ rw h.1 refl
value_again a_process text x bounded h = ap process_of h.0 ∙ process_again x h.1
value_again (a_number greatest) text x bounded h =
    let small = ltb-true greatest (2 ^ 64) bounded in
    ap (number_of (λ n. leb n greatest)) h.0 ∙ number_again (λ n. leb n greatest) x (omega (arith, small, h.1)) (le-leb x greatest h.1)

-- ---- an argument before a space

-- the argument is a word: no value of it has a space
abbrev pub is_word : Argument → Bool
is_word any_bytes = false
is_word a = true

-- the text of a mode has no space
mode_lacks_space : (mode : Mode) → is_line_mode mode ≡ true → lacks 32 (mode_text mode) ≡ true
mode_lacks_space Private h = refl
mode_lacks_space Readable h = refl
mode_lacks_space Open h = refl
mode_lacks_space (Group name) h =
    list_all-append (λ b. not (eqb b 32)) (codes "group:") name ∙ rw (name_lacks_space name (user_name_is_name name h)) refl

-- a password has no space
password_lacks_space : (password : List ℕ) → is_password password ≡ true → lacks 32 password ≡ true
unfolding is_password
password_lacks_space password h = bytes_lack is_password_byte 32 password refl (and_parts _ (list_all is_password_byte password) h).1

-- the text of a word has no space
value_lacks_space : (a : Argument) (text : List ℕ) (x : Value a) → is_word a ≡ true → is_bounded a ≡ true → Spells a text x → lacks 32 text ≡ true
value_lacks_space a_path text x word bounded h = ap (lacks 32) h.0 ∙ path_lacks_space x (and_parts _ (list_all is_name x) h.1).1
value_lacks_space a_mode text x word bounded h = ap (lacks 32) h.0 ∙ mode_lacks_space x h.1
value_lacks_space any_bytes text x word bounded h = absurd cc
value_lacks_space a_name text x word bounded h = ap (lacks 32) h.0 ∙ name_lacks_space x h.1
value_lacks_space a_password text x word bounded h = ap (lacks 32) h.0 ∙ password_lacks_space x h.1
value_lacks_space a_process text x word bounded h = ap (lacks 32) h.0 ∙ process_lacks_space x (and_parts _ (list_all is_child_number x) h.1).1
value_lacks_space (a_number greatest) text x word bounded h =
    let small = ltb-true greatest (2 ^ 64) bounded in
    ap (lacks 32) h.0 ∙ bytes_lack is_digit 32 (decimal x) refl (decimal_digits x (omega (arith, small, h.1)))

-- a word ends at the space after it
pub split_value : (a : Argument) (text rest : List ℕ) (x : Value a) → is_word a ≡ true → is_bounded a ≡ true → Spells a text x
    → split_word (text space rest) ≡ (text, Some rest)
split_value a text rest x word bounded h = split_before 32 text rest (value_lacks_space a text x word bounded h)
