-- The bytes of the first lines of a text, counted one after another.
use Rattle.std.proofs.Common.{◌≡◌, ◌≢◌, ℕ, suc, ◌+◌, ◌-◌, ◌<◌, Bool, eqb, List, [], ◌∷◌, get_or, length, drop}
use Rattle.std.proofs.Common.{refl, ap, ◌∙◌, arith}
use Rattle.std.specs.Prelude.{if◌then◌else◌}
use Rattle.std.proofs.lemmas.Bool.{eq-eqb, ne_eqb}
use Rattle.std.proofs.lemmas.List.{drop_more}
use Rattle.histar_dialogue.specs.Talk.{bytes_of_lines}

-- no line has no byte
pub no_lines : (text : List ℕ) → bytes_of_lines 0 text ≡ 0
unfolding bytes_of_lines
no_lines [] = refl
no_lines (b ∷ text) = refl

-- no text has no byte
pub no_text : (n : ℕ) → bytes_of_lines n [] ≡ 0
unfolding bytes_of_lines
no_text n = refl

module _ (text : List ℕ) (at n : ℕ) (here : at < length text) (some : n ≢ 0) where
  -- a byte, and those of the lines behind it
  counted : bytes_of_lines n (drop at text)
      ≡ suc (bytes_of_lines (if eqb (get_or text at 0) 10 then n - 1 else n) (drop (at + 1) text))
  unfolding bytes_of_lines
  counted = rw (drop_more text at 0 here, ne_eqb n 0 some) refl

  -- a line end
  pub after_feed : get_or text at 0 ≡ 10
      → at + 1 + bytes_of_lines (n - 1) (drop (at + 1) text) ≡ at + bytes_of_lines n (drop at text)
  after_feed feed =
      omega (
        arith,
        counted ∙ ap (λ (t : Bool). suc (bytes_of_lines (if t then n - 1 else n) (drop (at + 1) text)))
            (eq-eqb (get_or text at 0) 10 feed),
      )

  -- another byte
  pub after_byte : get_or text at 0 ≢ 10
      → at + 1 + bytes_of_lines n (drop (at + 1) text) ≡ at + bytes_of_lines n (drop at text)
  after_byte other =
      omega (
        arith,
        counted ∙ ap (λ (t : Bool). suc (bytes_of_lines (if t then n - 1 else n) (drop (at + 1) text)))
            (ne_eqb (get_or text at 0) 10 other),
      )
