-- A text that is written piece by piece.
use Rattle.std.proofs.Common.{◌≡◌, ℕ, List, [], ◌++◌, Option, sym, ap, ◌∙◌, subst, refl, append-nil, append_assoc}
use Rattle.std.specs.Io.KnownBytes.{Appends}
use Rattle.std.proofs.KnownBytes.{Appends-nil, Appends-trans}
use Rattle.histar_io.specs.Writing.{AppendsFront}
use Rattle.histar_shell.proofs.AnswerLemmas.{front_after}

module _ (whole : List ℕ) where
  -- The text was written except for this rest of it.
  pub record IsBegun (old new : Option (List ℕ)) (left : List ℕ) : Type 0 where
    pub text : List ℕ
    pub parts : whole ≡ text ++ left
    pub written : Appends old new text

  -- nothing was written yet
  pub none_yet : (w : Option (List ℕ)) → IsBegun w w whole
  none_yet w = record { text = []; parts = refl; written = Appends-nil w }

  -- one more piece was written
  pub piece_more : {old mid new : Option (List ℕ)} {left : List ℕ} → (piece rest : List ℕ) → left ≡ piece ++ rest → IsBegun old mid left
      → Appends mid new piece
      → IsBegun old new rest
  piece_more {old = old} {mid = mid} {new = new} piece rest is begun more = record {
    text = begun.text ++ piece;
    parts = begun.parts ∙ ap (λ (t : List ℕ). begun.text ++ t) is ∙ sym (append_assoc begun.text piece rest);
    written = Appends-trans old mid new begun.text piece begun.written more;
  }

  -- a beginning of one more piece was written
  pub piece_begun : {old mid new : Option (List ℕ)} {left piece : List ℕ} → (rest : List ℕ) → left ≡ piece ++ rest → IsBegun old mid left
      → AppendsFront mid new piece
      → AppendsFront old new whole
  piece_begun {old = old} {mid = mid} {new = new} {piece = piece} rest is begun front =
      subst (AppendsFront old new) (sym (begun.parts ∙ ap (λ (t : List ℕ). begun.text ++ t) is))
      (front_after old mid new begun.text piece rest begun.written front)

  -- what was written is a beginning of the text
  pub front_begun : (old new : Option (List ℕ)) (left : List ℕ) → IsBegun old new left → AppendsFront old new whole
  front_begun old new left begun = (left, record { front = begun.text; parts = begun.parts; appended = begun.written })

  -- at the end the whole text was written
  pub all_begun : (old new : Option (List ℕ)) (left : List ℕ) → left ≡ [] → IsBegun old new left → Appends old new whole
  all_begun old new left none begun =
      subst (Appends old new) (sym (begun.parts ∙ ap (λ (t : List ℕ). begun.text ++ t) none ∙ append-nil begun.text)) begun.written
