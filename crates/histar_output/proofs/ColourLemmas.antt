-- The lines of a text, one after another, in colours.
use Rattle.std.proofs.Common.{◌≡◌, ℕ, suc, ◌<◌, List, [], ◌∷◌, ◌++◌, length, map, refl, sym, ap}
use Rattle.std.proofs.Common.{◌∙◌, inl, inr, arith, append-nil}
use Rattle.std.specs.Prelude.{Option, None, Some}
use Rattle.std.specs.Option.{option_map_or}
use Rattle.std.specs.List.{join_with_byte, slice_split, onto_first}
use Rattle.std.proofs.lemmas.Bool.Decides.{eqb_tells}
use Rattle.histar_flat.specs.Words.{split_at_first}
use Rattle.histar_output.specs.Colours.{coloured, coloured_line, is_line_feed}

-- the lines of a text are its first line and those of what follows it
split_on : (text : List ℕ) → slice_split is_line_feed text ≡ (split_at_first 10 text).0
    ∷ option_map_or (slice_split is_line_feed) (split_at_first 10 text).1 []
unfolding split_at_first
split_on [] = refl
split_on (b ∷ bs) = elim (eqb_tells b 10) [ inl e ↦ rw e.0 refl | inr e ↦ rw e.0 (ap (onto_first b) (split_on bs)) ]

-- lines before at least one more are joined to these
join_on : (line : List ℕ) (rest : List ℕ) → join_with_byte 10 (line ∷ map coloured_line (slice_split is_line_feed rest)) ≡ line ++ 10
    ∷ coloured rest
join_on line rest =
    ap (λ (ls : List (List ℕ)). join_with_byte 10 (line ∷ map coloured_line ls)) (split_on rest)
    ∙ ap (λ (ls : List (List ℕ)). line ++ 10 ∷ join_with_byte 10 (map coloured_line ls)) (sym (split_on rest))

-- a text in colours is its first line, and then what follows that
pub coloured_on : (text : List ℕ) → coloured text ≡ coloured_line (split_at_first 10 text).0
    ++ option_map_or (λ after. 10 ∷ coloured after) (split_at_first 10 text).1 []
coloured_on text =
    ap (λ (ls : List (List ℕ)). join_with_byte 10 (map coloured_line ls)) (split_on text)
    ∙ further (split_at_first 10 text).0 (split_at_first 10 text).1
  where
    further : (line : List ℕ) (after : Option (List ℕ))
        → join_with_byte 10 (map coloured_line (line ∷ option_map_or (slice_split is_line_feed) after [])) ≡ coloured_line line
        ++ option_map_or (λ rest. 10 ∷ coloured rest) after []
    further line None = sym (append-nil (coloured_line line))
    further line (Some rest) = join_on (coloured_line line) rest

-- what follows a line is shorter than the text
pub after_shorter : (text after : List ℕ) → (split_at_first 10 text).1 ≡ Some after → length after < length text
unfolding split_at_first
after_shorter [] after is = absurd (cc)
after_shorter (b ∷ bs) after is =
    elim (eqb_tells b 10) [ inl e ↦ first (rw e.0 at is) | inr e ↦ omega (arith, after_shorter bs after (rw e.0 at is)) ]
  where
    first : Some bs ≡ Some after → length after < suc (length bs)
    first is = let same : bs ≡ after = cc in omega (arith, ap length same)
