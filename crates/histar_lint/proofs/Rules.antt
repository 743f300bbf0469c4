-- Lists of rules: the first that is broken.
use Rattle.std.proofs.Common.{◌≡◌, Bool, true, false, cond, List, [], ◌∷◌, ◌++◌, Option, Some, None, ◌||◌, ◌⊎◌, inl, inr, refl, ap, ◌∙◌, ℕ}
use Rattle.std.specs.Prelude.{is_some}
use Rattle.std.specs.List.{list_any}
use Rattle.std.specs.Option.{option_and_then}
use Rattle.histar_lint.specs.Lines.{Rule, first_sentence}

-- one of the rules is broken
abbrev pub some_broken : List Rule → Bool
some_broken rules = list_any (λ (rule : Rule). rule.0) rules

-- if the first of two tests holds, one of them does
pub or_first : (b c : Bool) → b ≡ true → (b || c) ≡ true
or_first true c h = refl
or_first false c h = absurd cc

pub or_second : (b c : Bool) → c ≡ true → (b || c) ≡ true
or_second true c h = refl
or_second false c h = h

said_by : (b : Bool) (said : List ℕ) (later : Bool) (rest : Option (List ℕ)) → (b || later) ≡ true
    → (later ≡ true → is_some rest ≡ true) → is_some (cond b (Some said) rest) ≡ true
said_by true said later rest broken go_on = refl
said_by false said later rest broken go_on = go_on broken

-- broken rules have a sentence
pub is_said : (rules : List Rule) → some_broken rules ≡ true → is_some (first_sentence rules) ≡ true
is_said [] broken = absurd cc
is_said (rule ∷ rules) broken = said_by rule.0 rule.1 (some_broken rules) (first_sentence rules) broken (is_said rules)

or_by : (b c d : Bool) → (b || c) ≡ true → (c ≡ true → d ≡ true) → (b || d) ≡ true
or_by true c d broken go_on = refl
or_by false c d broken go_on = go_on broken

-- if one of the first rules is broken, one of all is
pub in_front : (rules others : List Rule) → some_broken rules ≡ true → some_broken (rules ++ others) ≡ true
in_front [] others broken = absurd cc
in_front (rule ∷ rules) others broken = or_by rule.0 (some_broken rules) (some_broken (rules ++ others)) broken (in_front rules others)

-- if one of the later rules is broken, one of all is
pub behind : (rules others : List Rule) → some_broken others ≡ true → some_broken (rules ++ others) ≡ true
behind [] others broken = broken
behind (rule ∷ rules) others broken = or_second rule.0 (some_broken (rules ++ others)) (behind rules others broken)

front_by : (b : Bool) (own said : List ℕ) (rest other : Option (List ℕ)) → cond b (Some own) rest ≡ Some said
    → (rest ≡ Some said → other ≡ Some said) → cond b (Some own) other ≡ Some said
front_by true own said rest other e go_on = e
front_by false own said rest other e go_on = go_on e

-- the sentence of the first rules is that of all
pub said_in_front : (rules others : List Rule) (said : List ℕ) → first_sentence rules ≡ Some said → first_sentence (rules ++ others) ≡ Some said
said_in_front [] others said e = absurd cc
said_in_front (rule ∷ rules) others said e =
    front_by rule.0 rule.1 said (first_sentence rules) (first_sentence (rules ++ others)) e
    (said_in_front rules others said)

behind_by : (b : Bool) (own : List ℕ) (rest other last : Option (List ℕ)) → cond b (Some own) rest ≡ None
    → (rest ≡ None → other ≡ last) → cond b (Some own) other ≡ last
behind_by true own rest other last e go_on = absurd cc
behind_by false own rest other last e go_on = go_on e

-- if the first rules are kept, the sentence of the later ones is that of all
pub said_behind : (rules others : List Rule) → first_sentence rules ≡ None → first_sentence (rules ++ others) ≡ first_sentence others
said_behind [] others e = refl
said_behind (rule ∷ rules) others e =
    behind_by rule.0 rule.1 (first_sentence rules) (first_sentence (rules ++ others)) (first_sentence others) e
    (said_behind rules others)

-- a chain without a value lacks one at its first part or after it
pub none_at : {A B : Type 0} (o : Option A) (f : A → Option B) → option_and_then f o ≡ None → (o ≡ None) ⊎ ((x : A) × (o ≡ Some x) × (f x ≡ None))
none_at None f e = inl refl
none_at (Some x) f e = inr (x, refl, e)

-- ---- rules that are kept

-- where there is no sentence, no rule is broken
abbrev pub AreKept : List Rule → Type 0
AreKept rules = first_sentence rules ≡ None

-- the first rule, with this test, is kept, and so are those after it
pub first_kept : (test : Bool) (said : List ℕ) (rest : Option (List ℕ)) → cond test (Some said) rest ≡ None → (test ≡ false) × (rest ≡ None)
first_kept true said rest e = absurd cc
first_kept false said rest e = (refl, e)

-- the rules in front are kept, and so are those after them
pub both_kept : (rules others : List Rule) → AreKept (rules ++ others) → AreKept rules × AreKept others
both_kept [] others e = (refl, e)
both_kept (rule ∷ rules) others e =
    let first = first_kept rule.0 rule.1 (first_sentence (rules ++ others)) e in
    let rest = both_kept rules others first.1 in
    (rw first.0 rest.0, rest.1)

-- a rule whose test fails is kept, before others that are
pub keep : (test : Bool) (said : List ℕ) (rest : Option (List ℕ)) → test ≡ false → rest ≡ None → cond test (Some said) rest ≡ None
keep test said rest kept others = ap (λ b. cond b (Some said) rest) kept ∙ others

-- rules are kept, before others that are
pub keep_both : (rules others : List Rule) → AreKept rules → AreKept others → AreKept (rules ++ others)
keep_both rules others kept more = said_behind rules others kept ∙ more
