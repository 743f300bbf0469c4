-- Going to the first bad line.
use Rattle.std.proofs.Common.{◌≡◌, ℕ, ◌+◌, ◌<◌, ◌≤◌, List, [], ◌∷◌, ◌++◌, length, sym, subst, true, ◌∙◌, arith}
use Rattle.std.specs.Prelude.{is_some}
use Rattle.histar_script.specs.Lines.{lines_of}
use Rattle.histar_raw_session.specs.Session.{IsFirstBadLine}
use Rattle.histar_raw_lint.specs.Rules.{sentence}
use Rattle.histar_raw_lint.specs.Session.{IsFirstBad}
use Rattle.histar_raw_lint.proofs.BrokenRules.{each_bad_raw_line_breaks_one}

-- this many lines are left up to the bad one
pub record IsAt (text rest : List ℕ) (left bad : ℕ) : Type 0 where
  pub first : IsFirstBadLine text bad
  pub front : List (List ℕ)
  pub parts : lines_of rest ≡ front ++ first.line ∷ first.after
  pub place : left ≡ length front + 1

-- at first all lines are left
pub at_start : (text : List ℕ) (bad : ℕ) → IsFirstBadLine text bad → IsAt text text bad bad
at_start text bad first = record { first = first; front = first.before; parts = first.parts; place = first.place }

-- a line is left
pub some_left : (text rest : List ℕ) (left bad : ℕ) → IsAt text rest left bad → length rest ≡ 0 → ⊥
unfolding lines_of
some_left text [] left bad at none = by at.front at.parts
  where
    by : (front : List (List ℕ)) → [] ≡ front ++ at.first.line ∷ at.first.after → ⊥
    by [] e = cc
    by (f ∷ front) e = cc
some_left text (b ∷ rest) left bad at none = omega (arith, none)

-- after one more line, one less is left
pub one_less : {text rest after line : List ℕ} {left now bad : ℕ} → IsAt text rest left bad → lines_of rest ≡ line ∷ lines_of after → 1 < left
    → now + 1 ≡ left → IsAt text after now bad
one_less {text} {rest} {after} {line} {left} {now} {bad} at is more step = by at.front at.parts at.place
  where
    by : (front : List (List ℕ)) → lines_of rest ≡ front ++ at.first.line ∷ at.first.after → left ≡ length front + 1 → IsAt text after now bad
    by [] parts place = absurd (omega (arith, place))
    by (f ∷ front) parts place =
        let both = sym is ∙ parts in
        record { first = at.first; front = front; parts = cc; place = omega (arith, place, step) }

-- the last of them is the bad line
pub bad_is : {text rest line : List ℕ} {left bad : ℕ} (after : List ℕ) → IsAt text rest left bad → lines_of rest ≡ line ∷ lines_of after
    → left ≤ 1 → IsFirstBad text bad line
bad_is {text} {rest} {line} {left} {bad} after at is last = by at.front at.parts at.place
  where
    by : (front : List (List ℕ)) → lines_of rest ≡ front ++ at.first.line ∷ at.first.after → left ≡ length front + 1 → IsFirstBad text bad line
    by [] parts place = let both = sym is ∙ parts in (at.first, cc)
    by (f ∷ front) parts place = absurd (omega (arith, place))

-- there is a sentence about it
pub says_something : (text : List ℕ) (bad : ℕ) (line : List ℕ) → IsFirstBad text bad line → is_some (sentence line) ≡ true
says_something text bad line first =
    subst (λ (l : List ℕ). is_some (sentence l) ≡ true) first.1 (each_bad_raw_line_breaks_one first.0.line first.0.bad)
