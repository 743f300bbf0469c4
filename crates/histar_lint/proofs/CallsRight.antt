-- The text of a right call keeps the rules for calls.
use Rattle.std.proofs.Common.{◌≡◌, ℕ, Bool, true, false, cond, eqb, ◌&&◌, not, List, [], ◌∷◌, ◌++◌, Option, Some, None, refl, sym, ap, subst}
use Rattle.std.proofs.Common.{◌∙◌, inl, inr}
use Rattle.std.specs.Prelude.{is_none, is_some, unwrap_or, option_and_then}
use Rattle.std.specs.List.{list_all}
use Rattle.std.specs.Str.{bytes_eq}
use Rattle.std.proofs.lemmas.Bool.{and_parts, not-true}
use Rattle.histar_flat.specs.declared.calls.UnixCall.{UnixCall}
use Rattle.histar_flat.proofs.Options.{bind_some, either_chosen}
use Rattle.histar_flat.proofs.SplitLemmas.{lacks}
use Rattle.histar_script.specs.CallForms.{Argument, CallForm, Value, alone, call_forms, one, two}
use Rattle.histar_script.specs.Grammar.{spaced}
use Rattle.histar_script.specs.Reading.{call_among, call_by, call_of, form_word, two_values_of, value_of}
use Rattle.histar_script.proofs.ArgumentsBack.{is_bounded}
use Rattle.histar_script.proofs.Chains.{mapped}
use Rattle.histar_script.proofs.Parting.{parted, split_part}
use Rattle.histar_script.proofs.WordsBack.{same_bytes}
use Rattle.histar_lint.specs.declared.shapes.Shape.{Shape}
use Rattle.histar_lint.specs.declared.shapes.Shape.TheVariants.{Alone, One, Two}
use Rattle.histar_lint.specs.Lines.{after_word, rest_of, word_of}
use Rattle.histar_lint.specs.Calls.{goes_on, has_too_little, has_too_much, kind_of, shape_among, shape_named, shape_of, shape_rules}
use Rattle.histar_lint.specs.FreeParts.{behind_spaces, free_in, free_in_call, words_behind}
use Rattle.histar_lint.proofs.Rules.{AreKept, keep}
use Rattle.histar_lint.proofs.SpacesRight.{HasWords, IsWord, one_more, tail_of, word_alone}
use Rattle.histar_lint.proofs.ArgumentsRight.{is_word, value_ends, value_word, word_stays}

-- ---- the forms of calls

-- a text is a word
abbrev pub is_a_word : List ℕ → Bool
is_a_word [] = false
is_a_word (b ∷ text) = lacks 32 (b ∷ text) && not (eqb b 35)

pub a_word : (text : List ℕ) → is_a_word text ≡ true → IsWord text
a_word [] h = absurd cc
a_word (b ∷ text) h =
    let p = and_parts (lacks 32 (b ∷ text)) (not (eqb b 35)) h in
    record { first = b; rest = text; parts = refl; plain = p.0; no_sign = not-true (eqb b 35) p.1 }

-- the numbers of a form are bounded, and its first argument of two is a word
abbrev has_words : CallForm → Bool
has_words (alone word call) = true
has_words (one word a make) = is_bounded a
has_words (two word a b make) = is_word a && is_bounded a && is_bounded b

-- a form begins with a word, and so on
abbrev is_right : CallForm → Bool
is_right form = is_a_word (form_word form) && has_words form

-- the form of these that has this word, and makes the call
record IsForm (forms : List CallForm) (word : List ℕ) (rest : Option (List ℕ)) (c : UnixCall) : Type 0 where
  pub form : CallForm
  pub named : shape_among forms word ≡ Some (shape_of form)
  pub made : call_by form rest ≡ Some c
  pub begins : IsWord word
  pub arguments : has_words form ≡ true

-- a call that is read has a form
form_of : (forms : List CallForm) (word : List ℕ) (rest : Option (List ℕ)) (c : UnixCall) → list_all is_right forms ≡ true
    → call_among forms word rest ≡ Some c → IsForm forms word rest c
form_of [] word rest c right e = absurd cc
form_of (form ∷ forms) word rest c right e =
    let p = and_parts (is_right form) (list_all is_right forms) right in
    elim (either_chosen (bytes_eq word (form_word form)) _ _ (Some c) e) [
      | inl h ↦
          let q = and_parts (is_a_word (form_word form)) (has_words form) p.0 in
          let same : word ≡ form_word form = same_bytes word (form_word form) h.0 in record {
            form = form;
            named = ap (λ (b : Bool). cond b (Some (shape_of form)) (shape_among forms word)) h.0;
            made = h.1;
            begins = subst IsWord (sym same) (a_word (form_word form) q.0);
            arguments = q.1;
          }
      | inr h ↦
          let later = form_of forms word rest c p.1 h.1 in record {
            form = later.form;
            named = ap (λ (b : Bool). cond b (Some (shape_of form)) (shape_among forms word)) h.0 ∙ later.named;
            made = later.made;
            begins = later.begins;
            arguments = later.arguments;
          }
    ]

-- ---- a call by its form

-- the text has as many words as a call of this shape, and this free part
pub record IsCounted (text : List ℕ) (shape : Shape) : Type 0 where
  pub free : Option (List ℕ)
  pub is_free : free_in_call (Some shape) text ≡ free
  pub words : HasWords text free
  pub no_more : has_too_much text shape ≡ false
  pub no_less : has_too_little text shape ≡ false

-- what follows the first word is the rest
pub rest_is : (text rest : List ℕ) → after_word text ≡ Some rest → rest_of text ≡ rest
rest_is text rest is = ap (λ (o : Option (List ℕ)). unwrap_or o []) is

-- words behind the first one are the rest
pub words_are : (text rest : List ℕ) (free : Option (List ℕ)) → after_word text ≡ Some rest → HasWords rest free → words_behind text ≡ rest
words_are text rest free is has =
    ap behind_spaces (rest_is text rest is ∙ has.parts) ∙ word_stays has.word (spaced has.words ++ tail_of free) has.is_word ∙ sym has.parts

alone_counted : (text : List ℕ) → IsWord (word_of text) → after_word text ≡ None → IsCounted text Alone
alone_counted text w none = record {
  free = None;
  is_free = refl;
  words = subst (λ (l : List ℕ). HasWords l None) (sym (split_part 32 text none)) (word_alone (word_of text) w);
  no_more = ap is_some none;
  no_less = refl;
}

one_counted : (a : Argument) (text rest : List ℕ) (x : Value a) → IsWord (word_of text) → after_word text ≡ Some rest → is_bounded a ≡ true
    → value_of a rest ≡ Some x → IsCounted text (One (kind_of a))
one_counted a text rest x w is bounded e =
    let last = value_ends a rest x bounded e in record {
      free = last.free;
      is_free = ap (option_and_then (free_in (kind_of a))) is ∙ last.is_free;
      words = subst (λ (l : List ℕ). HasWords l last.free) (sym (parted text (word_of text) rest refl is)) (last.follows (word_of text) w);
      no_more = ap (goes_on (kind_of a)) (rest_is text rest is) ∙ last.ends;
      no_less = ap is_none is;
    }

two_counted : (a b : Argument) (text rest last : List ℕ) (y : Value b) → IsWord (word_of text) → after_word text ≡ Some rest
    → IsWord (word_of rest) → (after_word rest ≡ Some last) × (is_bounded b ≡ true) × (value_of b last ≡ Some y)
    → IsCounted text (Two (kind_of a) (kind_of b))
two_counted a b text rest last y w is v h =
    let ends = value_ends b last y h.1 h.2 in
    let behind : HasWords rest ends.free =
    subst (λ (l : List ℕ). HasWords l ends.free) (sym (parted rest (word_of rest) last refl h.0)) (ends.follows (word_of rest) v) in
    let same = rest_is text rest is in record {
      free = ends.free;
      is_free =
          ap (λ (l : List ℕ). option_and_then (free_in (kind_of b)) (after_word l)) (words_are text rest ends.free is behind)
          ∙ ap (option_and_then (free_in (kind_of b))) h.0 ∙ ends.is_free;
      words = subst (λ (l : List ℕ). HasWords l ends.free) (sym (parted text (word_of text) rest refl is))
          (one_more (word_of text) rest ends.free w behind);
      no_more = ap (λ (l : List ℕ). goes_on (kind_of b) (rest_of l)) same ∙ ap (goes_on (kind_of b)) (rest_is rest last h.0) ∙ ends.ends;
      no_less = ap (λ (l : List ℕ). is_none (after_word l)) same ∙ ap is_none h.0;
    }

-- a text of which a form makes a call is counted
counted : (form : CallForm) (text : List ℕ) (c : UnixCall) (rest : Option (List ℕ)) → after_word text ≡ rest → IsWord (word_of text)
    → has_words form ≡ true → call_by form rest ≡ Some c → IsCounted text (shape_of form)
unfolding two_values_of
counted (alone word call) text c None is w right e = alone_counted text w is
counted (alone word call) text c (Some rest) is w right e = absurd cc
counted (one word a make) text c None is w right e = absurd cc
counted (one word a make) text c (Some rest) is w right e =
    let m = mapped (value_of a rest) make c e in
    one_counted a text rest m.0 w is right m.1
counted (two word a b make) text c None is w right e = absurd cc
counted (two word a b make) text c (Some rest) is w right e =
    let p = and_parts (is_word a && is_bounded a) (is_bounded b) right in
    let q = and_parts (is_word a) (is_bounded a) p.0 in
    let m = mapped (two_values_of a b rest) _ c e in
    let x = bind_some (value_of a (word_of rest)) _ m.0 m.1 in
    let last = bind_some (after_word rest) _ m.0 x.2 in
    let y = bind_some (value_of b last.0) _ m.0 last.2 in
    two_counted a b text rest last.0 y.0 w is (value_word a (word_of rest) x.0 q.0 q.1 x.1) (last.1, p.1, y.1)

-- ---- a call

-- the text of a right call: its free part, its words, and the rules that they keep
pub record IsRightCall (text : List ℕ) : Type 0 where
  pub free : Option (List ℕ)
  pub is_free : free_in_call (shape_named (word_of text)) text ≡ free
  pub words : HasWords text free
  pub kept : AreKept (shape_rules text (shape_named (word_of text)))

form_at : (text : List ℕ) (c : UnixCall) → call_of text ≡ Some c → IsForm call_forms (word_of text) (after_word text) c
unfolding call_of
form_at text c e = form_of call_forms (word_of text) (after_word text) c refl e

pub call_right : (text : List ℕ) (c : UnixCall) → call_of text ≡ Some c → IsRightCall text
call_right text c e =
    let is = form_at text c e in
    let shape = shape_of is.form in
    let has = counted is.form text c (after_word text) refl is.begins is.arguments is.made in record {
      free = has.free;
      is_free = ap (λ (o : Option Shape). free_in_call o text) is.named ∙ has.is_free;
      words = has.words;
      kept = subst (λ (o : Option Shape). AreKept (shape_rules text o)) (sym is.named)
          (keep (has_too_much text shape) _ _ has.no_more
          (keep (has_too_little text shape) _ _ has.no_less (keep (is_none (call_of text)) _ _ (ap is_none e) refl)));
    }
