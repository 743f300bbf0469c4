-- Going over lists one by one.
use Rattle.std.proofs.Common.{◌≡◌, ℕ, suc, ◌+◌, ◌<◌, ◌≤◌, Bool, true, false, cond, List, [], ◌∷◌, ◌++◌, length, map, drop, get_or, Bor}
use Rattle.std.proofs.Common.{Option, Some, None, refl, sym, ap, ◌∙◌, append_assoc, arith}
use Rattle.std.specs.Prelude.{option_map}
use Rattle.std.specs.List.{flat_map}
use Rattle.std.specs.Option.{option_map_or, option_to_list}
use Rattle.std.proofs.lemmas.List.{drop_all}
use Rattle.std.proofs.Math.Seq.{drop-cons}
use Rattle.histar_lint.specs.Calls.{first_near, is_near}
use Rattle.histar_lint.specs.Lines.{after_word, first_sentence, word_of}
use Rattle.histar_rawtext.proofs.LabelsRead.{taken}
use Rattle.histar_raw_lint.specs.declared.kinds.Kind.{Kind}
use Rattle.histar_raw_lint.specs.Rules.{argument_rules, fits, value_rules}
use Rattle.histar_raw_lint.specs.Values.{category_of_part, exception_rules, exceptions_rules, last_of, before_last, list_rules, part_rules}
use Rattle.histar_lint.proofs.Sayings.{behind_is, front_says}

-- the rest of a list is the next item and those after it
pub cut : {X : Type 0} (xs : List X) (i : ℕ) (d : X) → i < length xs → drop i xs ≡ get_or xs i d ∷ drop (i + 1) xs
cut xs i d lt = drop-cons xs i d lt ∙ ap (λ n. get_or xs i d ∷ drop n xs) (let next : suc i ≡ i + 1 = omega arith in next)

-- the first near call is the next one or a later one
near_step : (word : List ℕ) (calls : List (Bor (List ℕ))) (i : ℕ) (d : Bor (List ℕ)) → i < length calls
    → first_near word (map (λ c. c.now) (drop i calls))
    ≡ cond (is_near word (get_or calls i d).now) (Some (get_or calls i d).now) (first_near word (map (λ c. c.now) (drop (i + 1) calls)))
unfolding first_near
near_step word calls i d lt = ap (λ (l : List (Bor (List ℕ))). first_near word (map (λ c. c.now) l)) (cut calls i d lt)

module _ {i : ℕ} {other : List ℕ} {near : Bool} (calls : List (Bor (List ℕ))) (d : Bor (List ℕ)) (word : List ℕ) (lt : i < length calls) where
  near_by : other ≡ (get_or calls i d).now → near ≡ is_near word other → is_near word (get_or calls i d).now ≡ near
  near_by same is = ap (is_near word) (sym same) ∙ sym is

  -- it is the next one
  pub near_front : other ≡ (get_or calls i d).now → near ≡ is_near word other → near ≡ true
      → first_near word (map (λ c. c.now) (drop i calls)) ≡ Some (get_or calls i d).now
  near_front same is here =
      near_step word calls i d lt
      ∙ ap (λ b. cond b (Some (get_or calls i d).now) (first_near word (map (λ c. c.now) (drop (i + 1) calls)))) (near_by same is ∙ here)

  -- it is a later one
  pub near_behind : other ≡ (get_or calls i d).now → near ≡ is_near word other → near ≡ false
      → first_near word (map (λ c. c.now) (drop i calls)) ≡ first_near word (map (λ c. c.now) (drop (i + 1) calls))
  near_behind same is later =
      near_step word calls i d lt
      ∙ ap (λ b. cond b (Some (get_or calls i d).now) (first_near word (map (λ c. c.now) (drop (i + 1) calls)))) (near_by same is ∙ later)

-- of no calls none is near
pub near_end : (word : List ℕ) (calls : List (Bor (List ℕ))) (i : ℕ) → length calls ≤ i → first_near word (map (λ c. c.now) (drop i calls)) ≡ None
unfolding first_near
near_end word calls i le = ap (λ (l : List (Bor (List ℕ))). first_near word (map (λ c. c.now) l)) (drop_all i calls le)

-- words fit the next kind and the later ones
pub fits_step : (kinds : List Kind) (i : ℕ) (d : Kind) (text : List ℕ) → i < length kinds
    → fits (drop i kinds) (Some text) ≡ fits (drop (i + 1) kinds) (after_word text)
unfolding fits
fits_step kinds i d text lt = ap (λ (l : List Kind). fits l (Some text)) (cut kinds i d lt)

-- where no words are left, none fit
pub fits_none : (kinds : List Kind) (i : ℕ) (d : Kind) → i < length kinds → fits (drop i kinds) None ≡ false
unfolding fits
fits_none kinds i d lt = ap (λ (l : List Kind). fits l None) (cut kinds i d lt)

-- the rules for the next argument and for the later ones
rules_step : (kinds : List Kind) (i : ℕ) (d : Kind) (text : List ℕ) → i < length kinds
    → argument_rules (drop i kinds) (Some text) ≡ value_rules (get_or kinds i d) (word_of text) ++ argument_rules (drop (i + 1) kinds)
    (after_word text)
rules_step kinds i d text lt = ap (λ (l : List Kind). argument_rules l (Some text)) (cut kinds i d lt)

-- where no words are left, there is no rule
pub rules_none : (kinds : List Kind) (i : ℕ) (d : Kind) → i < length kinds → argument_rules (drop i kinds) None ≡ []
rules_none kinds i d lt = ap (λ (l : List Kind). argument_rules l None) (cut kinds i d lt)

module _ {V : Type 0} {i : ℕ} {word : List ℕ} {o : Option V} (items : V → List ℕ) (kinds : List Kind) (d : Kind) (text : List ℕ)
    (lt : i < length kinds) where
  -- the sentence about the next argument
  pub argument_front : {v : V} → word ≡ word_of text → option_map items o ≡ first_sentence (value_rules (get_or kinds i d) word) → o ≡ Some v
      → first_sentence (argument_rules (drop i kinds) (Some text)) ≡ Some (items v)
  argument_front {v} is said some =
      ap first_sentence (rules_step kinds i d text lt)
      ∙ sym (front_says items (value_rules (get_or kinds i d) (word_of text)) (argument_rules (drop (i + 1) kinds) (after_word text)) o
      (said ∙ ap (λ w. first_sentence (value_rules (get_or kinds i d) w)) is) v some)

  -- there is no sentence about it
  pub argument_behind : word ≡ word_of text → option_map items o ≡ first_sentence (value_rules (get_or kinds i d) word) → o ≡ None
      → first_sentence (argument_rules (drop i kinds) (Some text)) ≡ first_sentence (argument_rules (drop (i + 1) kinds) (after_word text))
  argument_behind is said none =
      ap first_sentence (rules_step kinds i d text lt)
      ∙ behind_is items (value_rules (get_or kinds i d) (word_of text)) (argument_rules (drop (i + 1) kinds) (after_word text)) o
      (said ∙ ap (λ w. first_sentence (value_rules (get_or kinds i d) w)) is) none

-- the rules for the next part of a label and for the later ones
parts_step : (default : List ℕ) (before : ℕ) (parts : List (Bor (List ℕ))) (i : ℕ) (d : Bor (List ℕ)) → i < length parts
    → exceptions_rules default before (map (λ p. p.now) (drop i parts))
    ≡ exception_rules default before (get_or parts i d).now ++ exceptions_rules default (category_of_part (get_or parts i d).now)
    (map (λ p. p.now) (drop (i + 1) parts))
parts_step default before parts i d lt = ap (λ (l : List (Bor (List ℕ))). exceptions_rules default before (map (λ p. p.now) l)) (cut parts i d lt)

module _ {V : Type 0} {i : ℕ} {o : Option V} (items : V → List ℕ) (default : List ℕ) (before : ℕ) (parts : List (Bor (List ℕ)))
    (d : Bor (List ℕ)) (lt : i < length parts) where
  -- the sentence about the next part
  pub part_front : {v : V} → option_map items o ≡ first_sentence (exception_rules default before (get_or parts i d).now) → o ≡ Some v
      → first_sentence (exceptions_rules default before (map (λ p. p.now) (drop i parts))) ≡ Some (items v)
  part_front {v} said some =
      ap first_sentence (parts_step default before parts i d lt)
      ∙ sym (front_says items (exception_rules default before (get_or parts i d).now)
      (exceptions_rules default (category_of_part (get_or parts i d).now) (map (λ p. p.now) (drop (i + 1) parts))) o said v some)

  -- there is no sentence about it
  pub part_behind : option_map items o ≡ first_sentence (exception_rules default before (get_or parts i d).now) → o ≡ None
      → first_sentence (exceptions_rules default before (map (λ p. p.now) (drop i parts)))
      ≡ first_sentence (exceptions_rules default (category_of_part (get_or parts i d).now) (map (λ p. p.now) (drop (i + 1) parts)))
  part_behind said none =
      ap first_sentence (parts_step default before parts i d lt)
      ∙ behind_is items (exception_rules default before (get_or parts i d).now)
      (exceptions_rules default (category_of_part (get_or parts i d).now) (map (λ p. p.now) (drop (i + 1) parts))) o said none

-- the texts before the last one, and the last one
pub front_is : (texts : List (List ℕ)) (text : List ℕ) → before_last (texts ++ text ∷ []) ≡ texts
front_is [] text = refl
front_is (t ∷ []) text = refl
front_is (t ∷ u ∷ texts) text = ap (λ l. t ∷ l) (front_is (u ∷ texts) text)

pub last_is : (texts : List (List ℕ)) (text : List ℕ) → last_of (texts ++ text ∷ []) ≡ text
last_is [] text = refl
last_is (t ∷ []) text = refl
last_is (t ∷ u ∷ texts) text = last_is (u ∷ texts) text

-- the last part of a label is taken away
pub popped : (parts rest : List (Bor (List ℕ))) (o : Option (Bor (List ℕ))) (last : Bor (List ℕ)) → parts ≡ rest ++ option_to_list o
    → (o ≡ None → length parts ≡ 0)
    → last.now ≡ option_map_or (λ (p : Bor (List ℕ)). p.now) o [] → part_rules (map (λ p. p.now) parts) ≡ list_rules last.now (map (λ p. p.now) rest)
popped parts rest None last is none same = by parts rest is (none refl)
  where
    by : (parts rest : List (Bor (List ℕ))) → parts ≡ rest ++ [] → length parts ≡ 0
        → part_rules (map (λ p. p.now) parts) ≡ list_rules last.now (map (λ p. p.now) rest)
    by [] [] is empty = ap (λ (text : List ℕ). list_rules text []) (sym same)
    by [] (p ∷ rest) is empty = absurd cc
    by (p ∷ parts) rest is empty = absurd (omega (arith, empty))
popped parts rest (Some p) last is none same =
    let texts = map (λ (p : Bor (List ℕ)). p.now) rest in
    let both : map (λ (p : Bor (List ℕ)). p.now) parts ≡ texts ++ p.now ∷ [] = taken parts rest p is in
    ap part_rules both ∙ (λ i. list_rules ((last_is texts p.now ∙ sym same) i) (front_is texts p.now i))

-- one more element whose list is appended
pub flat_mapped_more : {X : Type 0} (f : X → List ℕ) (xs : List X) (d : X) (i : ℕ) (before said whole : List ℕ) → i < length xs
    → before ++ flat_map f (drop i xs) ≡ whole → said ≡ before ++ f (get_or xs i d) → said ++ flat_map f (drop (i + 1) xs) ≡ whole
flat_mapped_more f xs d i before said whole within so_far is =
    rw is
    (append_assoc before (f (get_or xs i d)) (flat_map f (drop (i + 1) xs))
    ∙ ap (λ (ys : List ℕ). before ++ ys) (sym (ap (flat_map f) (cut xs i d within)))
    ∙ so_far)
