-- A call that a form makes of a text is spelled by the text, and a text that spells a call makes it.
use Rattle.std.proofs.Common.{rules, ◌≡◌, ◌⊎◌, ℕ, zero, suc, ◌<◌, Bool, true, false, not, cond, ◌&&◌, List, [], ◌∷◌, ◌++◌, length, get_or, Option}
use Rattle.std.proofs.Common.{Some, None, refl, sym, ap, subst, ◌∙◌, inl, inr, arith}
use Rattle.std.specs.List.{Any, AllByRecursion, list_all}
use Rattle.std.specs.Option.{option_map}
use Rattle.std.specs.Str.{bytes_eq}
use Rattle.std.proofs.lemmas.Bool.{and_parts, not-true}
use Rattle.std.proofs.lemmas.Slice.Eq.{bytes_eq-Decides}
use Rattle.histar_flat.specs.declared.calls.UnixCall.{UnixCall}
use Rattle.histar_flat.specs.declared.calls.UnixCall.TheVariants.{Spawn}
use Rattle.histar_flat.proofs.Options.{bind_some, either_chosen}
use Rattle.histar_flat.proofs.SplitLemmas.{lacks, split_before, split_alone}
use Rattle.histar_script.specs.Lines.{split_word, ◌space◌}
use Rattle.histar_flat.specs.Calls.{IsCall}
use Rattle.histar_script.specs.CallForms.{Argument, Value, Spells, CallForm, alone, one, two, writing_calls, reading_calls, entry_calls}
use Rattle.histar_script.specs.CallForms.{process_calls, call_forms}
use Rattle.histar_script.specs.Reading.{◌>>=◌, value_of, two_values_of, form_word, call_by, call_among}
use Rattle.histar_script.specs.Grammar.{SpellsCall, IsCallText}
use Rattle.histar_script.specs.Laws.{Makes, EachCallHasForm}
use Rattle.histar_script.proofs.Chains.{mapped}
use Rattle.histar_script.proofs.Parting.{parted, split_part}
use Rattle.histar_script.proofs.WordsBack.{same_bytes}
use Rattle.histar_script.proofs.ArgumentsBack.{is_bounded, is_word, value_takes, value_again, split_value}

-- ---- one form

-- a word, and what follows it after a space, if anything does
abbrev pub word_and : List ℕ → Option (List ℕ) → List ℕ
word_and word None = word
word_and word (Some rest) = word space rest

-- a text is its first word and the rest
pub rest_makes : (text : List ℕ) (rest : Option (List ℕ)) → (split_word text).1 ≡ rest → text ≡ word_and (split_word text).0 rest
rest_makes text None end = split_part 32 text end
rest_makes text (Some rest) on = parted text (split_word text).0 rest refl on

-- the text spells two values, with a space between their texts
record SpellTwo (a b : Argument) (text : List ℕ) (w : Value a × Value b) : Type 0 where
  pub first : List ℕ
  pub second : List ℕ
  pub parts : text ≡ first space second
  pub spelled : Spells a first w.0 × Spells b second w.1

two_values_take : (a b : Argument) (text : List ℕ) (w : Value a × Value b) → two_values_of a b text ≡ Some w → SpellTwo a b text w
unfolding two_values_of
two_values_take a b text w e =
    let parts = split_word text in
    let p = bind_some (value_of a parts.0) (λ x. parts.1 >>= λ rest. value_of b rest >>= λ y. Some (x, y)) w e in
    let q = bind_some parts.1 (λ rest. value_of b rest >>= λ y. Some (p.0, y)) w p.2 in
    let r = bind_some (value_of b q.0) (λ y. Some (p.0, y)) w q.2 in
    let same : (p.0, r.0) ≡ w = cc in
    let spelled : Spells a parts.0 p.0 × Spells b q.0 r.0 = (value_takes a parts.0 p.0 p.1, value_takes b q.0 r.0 r.1) in
    record {
      first = parts.0;
      second = q.0;
      parts = parted text parts.0 q.0 refl q.1;
      spelled = subst (λ (v : Value a × Value b). Spells a parts.0 v.0 × Spells b q.0 v.1) same spelled;
    }

-- a call that a form makes is spelled by it
form_takes : (form : CallForm) (rest : Option (List ℕ)) (c : UnixCall) → call_by form rest ≡ Some c
    → SpellsCall (word_and (form_word form) rest) c form
form_takes (alone word call) None c e = (refl, cc)
form_takes (alone word call) (Some rest) c e = absurd cc
form_takes (one word a make) None c e = absurd cc
form_takes (one word a make) (Some rest) c e = let m = mapped (value_of a rest) make c e in (rest, m.0, refl, value_takes a rest m.0 m.1, sym m.2)
form_takes (two word a b make) None c e = absurd cc
form_takes (two word a b make) (Some rest) c e =
    let m = mapped (two_values_of a b rest) (λ w. make w.0 w.1) c e in
    let is = two_values_take a b rest m.0 m.1 in
    (is.first, is.second, m.0.0, m.0.1, ap (λ (l : List ℕ). word space l) is.parts, is.spelled.0, is.spelled.1, sym m.2)

-- the form can be read: its numbers have bounds, and an argument before another one is a word
abbrev is_readable : CallForm → Bool
is_readable (alone word call) = true
is_readable (one word a make) = is_bounded a
is_readable (two word a b make) = is_bounded a && is_bounded b && is_word a

-- the text makes the call: it begins with the word of the form, which makes the call of what follows
record MakesCall (form : CallForm) (text : List ℕ) (c : UnixCall) : Type 0 where
  pub rest : Option (List ℕ)
  pub parts : split_word text ≡ (form_word form, rest)
  pub made : call_by form rest ≡ Some c

-- a call that a form spells is made by it
form_again : (form : CallForm) (text : List ℕ) (c : UnixCall) → lacks 32 (form_word form) ≡ true → is_readable form ≡ true → SpellsCall text c form
    → MakesCall form text c
unfolding two_values_of
form_again (alone word call) text c named right h =
    record { rest = None; parts = ap split_word h.0 ∙ split_alone 32 word named; made = ap (λ (d : UnixCall). Some d) (sym h.1) }
form_again (one word a make) text c named right h =
    record {
      rest = Some h.0;
      parts = ap split_word h.2 ∙ split_before 32 word h.0 named;
      made = ap (option_map make) (value_again a h.0 h.1 right h.3) ∙ ap (λ (d : UnixCall). Some d) (sym h.4);
    }
form_again (two word a b make) text c named right h =
    let p = and_parts (is_bounded a && is_bounded b) (is_word a) right in
    let q = and_parts (is_bounded a) (is_bounded b) p.0 in
    let after = h.0 space h.1 in
    let first : split_word after ≡ (h.0, Some h.1) = split_value a h.0 h.1 h.2 p.1 q.0 h.5 in
    let read : two_values_of a b after ≡ Some (h.2, h.3) = rw (first, value_again a h.0 h.2 q.0 h.5, value_again b h.1 h.3 q.1 h.6) refl in
    record {
      rest = Some after;
      parts = ap split_word h.4 ∙ split_before 32 word after named;
      made = ap (option_map (λ w. make w.0 w.1)) read ∙ ap (λ (d : UnixCall). Some d) (sym h.7);
    }

-- ---- some form of a list

-- the first element, or one of the others
first_or_other : {X : Type 0} (P : X → Type 0) (x : X) (xs : List X) → Any P (x ∷ xs) → P x ⊎ Any P xs
first_or_other {X} P x xs (k, y, lt, is, p) = by k lt is
  where
    by : (k : ℕ) → k < length (x ∷ xs) → get_or (x ∷ xs) k y ≡ y → P x ⊎ Any P xs
    by zero lt is = inl (subst P (sym is) p)
    by (suc k) lt is = inr (k, y, omega arith, is, p)

-- the first element has the property
pub any_first : {X : Type 0} (P : X → Type 0) (x : X) (xs : List X) → P x → Any P (x ∷ xs)
any_first P x xs p = (0, x, omega arith, refl, p)

-- one of the others has the property
pub any_other : {X : Type 0} (P : X → Type 0) (x : X) (xs : List X) → Any P xs → Any P (x ∷ xs)
any_other P x xs (k, y, lt, is, p) = (suc k, y, omega arith, is, p)

-- a call that is read by a list of forms is spelled by one of them
pub among_takes : (forms : List CallForm) (word : List ℕ) (rest : Option (List ℕ)) (c : UnixCall) → call_among forms word rest ≡ Some c
    → Any (SpellsCall (word_and word rest) c) forms
among_takes [] word rest c e = absurd cc
among_takes (form ∷ forms) word rest c e =
    let spells = SpellsCall (word_and word rest) c in
    elim (either_chosen (bytes_eq word (form_word form)) (call_by form rest) (call_among forms word rest) (Some c) e) [
      | inl h ↦
          let named = sym (same_bytes word (form_word form) h.0) in
          any_first spells form forms (subst (λ (w : List ℕ). SpellsCall (word_and w rest) c form) named (form_takes form rest c h.1))
      | inr h ↦ any_other spells form forms (among_takes forms word rest c h.1)
    ]

-- no form of the list has the word
abbrev is_new_word : List ℕ → List CallForm → Bool
is_new_word word forms = list_all (λ form. not (bytes_eq (form_word form) word)) forms

-- each form has a word of its own without a space, and can be read
abbrev are_readable : List CallForm → Bool
are_readable [] = true
are_readable (form ∷ forms) = lacks 32 (form_word form) && is_readable form && is_new_word (form_word form) forms && are_readable forms

-- the text makes the call by one of the forms, whose word is not new to the list
pub record MakesAmong (forms : List CallForm) (text : List ℕ) (c : UnixCall) : Type 0 where
  pub word : List ℕ
  pub rest : Option (List ℕ)
  pub parts : split_word text ≡ (word, rest)
  pub made : call_among forms word rest ≡ Some c
  pub others : (new : List ℕ) → is_new_word new forms ≡ true → bytes_eq word new ≡ false

-- a call that is spelled by a form of the list is read by it
pub among_again : (forms : List CallForm) (text : List ℕ) (c : UnixCall) → are_readable forms ≡ true → Any (SpellsCall text c) forms
    → MakesAmong forms text c
among_again [] text c right (k, y, lt, is, p) = absurd (omega arith)
among_again (form ∷ forms) text c right h =
    let word = form_word form in
    let p = and_parts (lacks 32 word && is_readable form && is_new_word word forms) (are_readable forms) right in
    let q = and_parts (lacks 32 word && is_readable form) (is_new_word word forms) p.0 in
    let r = and_parts (lacks 32 word) (is_readable form) q.0 in
    elim (first_or_other (SpellsCall text c) form forms h) [
      | inl here ↦
          let made = form_again form text c r.0 r.1 here in
          let same : bytes_eq word word ≡ true = (bytes_eq-Decides word word).1 refl in
          record {
            word = word;
            rest = made.rest;
            parts = made.parts;
            made = rw same made.made;
            others = λ new fresh. not-true (bytes_eq word new) (and_parts (not (bytes_eq word new)) (is_new_word new forms) fresh).0;
          }
      | inr later ↦
          let made = among_again forms text c p.1 later in
          record {
            word = made.word;
            rest = made.rest;
            parts = made.parts;
            made = rw (made.others word q.1) made.made;
            others = λ new fresh. made.others new (and_parts (not (bytes_eq word new)) (is_new_word new forms) fresh).1;
          }
    ]

-- ---- what holds of each call of the table

-- the property holds of the calls that the form makes
abbrev pub IsRightForm : (UnixCall → Type 0) → CallForm → Type 0
IsRightForm P (alone word call) = P call
IsRightForm P (one word a make) = (s : List ℕ) (x : Value a) → Spells a s x → P (make x)
IsRightForm P (two word a b make) = (s t : List ℕ) (x : Value a) (y : Value b) → Spells a s x → Spells b t y → P (make x y)

-- the property holds of a call that the form spells
form_makes : (P : UnixCall → Type 0) (text : List ℕ) (c : UnixCall) (form : CallForm) → IsRightForm P form → SpellsCall text c form → P c
form_makes P text c (alone word call) right h = subst P (sym h.1) right
form_makes P text c (one word a make) right h = subst P (sym h.4) (right h.0 h.1 h.3)
form_makes P text c (two word a b make) right h = subst P (sym h.7) (right h.0 h.1 h.2 h.3 h.5 h.6)

-- the property holds of a call that a form of the list spells
forms_make : (P : UnixCall → Type 0) (text : List ℕ) (c : UnixCall) (forms : List CallForm) → AllByRecursion (IsRightForm P) forms
    → Any (SpellsCall text c) forms → P c
forms_make P text c [] right (k, y, lt, is, p) = absurd (omega arith)
forms_make P text c (form ∷ forms) right h =
    elim (first_or_other (SpellsCall text c) form forms h) [
      | inl here ↦ form_makes P text c form right.0 here
      | inr later ↦ forms_make P text c forms right.1 later
    ]

-- what holds of the calls that each form makes holds of each call that a text spells
pub spelled_is : (P : UnixCall → Type 0) → AllByRecursion (IsRightForm P) call_forms → (text : List ℕ) (c : UnixCall) → IsCallText text c → P c
spelled_is P right text c h = forms_make P text c call_forms right h

-- the call of each form is one that a script can have
forms_are_right : AllByRecursion (IsRightForm IsCall) call_forms
forms_are_right = assumption refl

-- each call that a text spells is one that a script can have
pub spelled_is_call : (text : List ℕ) (c : UnixCall) → IsCallText text c → IsCall c
spelled_is_call = spelled_is IsCall forms_are_right

-- ---- each call has a form

-- some element has the property, tested one after another
abbrev AnyByRecursion : {X : Type 0} → (X → Type 0) → List X → Type 0
AnyByRecursion P [] = ⊥
AnyByRecursion P (x ∷ xs) = P x ⊎ AnyByRecursion P xs

-- if one has it by recursion, some element has it
any_from_recursion : {X : Type 0} (P : X → Type 0) (xs : List X) → AnyByRecursion P xs → Any P xs
any_from_recursion P [] h = absurd h
any_from_recursion P (x ∷ xs) (inl h) = any_first P x xs h
any_from_recursion P (x ∷ xs) (inr h) = any_other P x xs (any_from_recursion P xs h)

-- each call has a form, which is found by a search; if the table lacks one, the search fails and names the call
some_form : (call : UnixCall) → AnyByRecursion (Makes call) call_forms
some_form Spawn = search rules
some_form _ = search rules

-- each call has a form
pub each_call_has_form : EachCallHasForm
each_call_has_form call = any_from_recursion (Makes call) call_forms (some_form call)

-- ---- words alone

-- the form has an argument
abbrev has_argument : CallForm → Bool
has_argument (alone word call) = false
has_argument (one word a make) = true
has_argument (two word a b make) = true

-- a form with an argument makes no call of a word alone
form_needs : (form : CallForm) → has_argument form ≡ true → call_by form None ≡ None
form_needs (alone word call) h = absurd cc
form_needs (one word a make) h = refl
form_needs (two word a b make) h = refl

-- a list of such forms makes no call of a word alone
forms_need : (forms : List CallForm) (word : List ℕ) → list_all has_argument forms ≡ true → call_among forms word None ≡ None
forms_need [] word h = refl
forms_need (form ∷ forms) word h =
    let p = and_parts (has_argument form) (list_all has_argument forms) h in
    both (bytes_eq word (form_word form)) (call_by form None) (call_among forms word None) (form_needs form p.0) (forms_need forms word p.1)
  where
    both : (b : Bool) (x y : Option UnixCall) → x ≡ None → y ≡ None → cond b x y ≡ None
    both true x y e f = e
    both false x y e f = f

-- a word alone makes no call that has an argument
pub none_without_argument : (word : List ℕ) → call_among (writing_calls ++ reading_calls ++ entry_calls ++ process_calls) word None ≡ None
none_without_argument word = forms_need (writing_calls ++ reading_calls ++ entry_calls ++ process_calls) word refl
