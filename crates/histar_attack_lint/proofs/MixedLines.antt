-- The rules of a line of either kind.
use Rattle.std.proofs.Common.{◌≡◌, ℕ, Bool, true, false, cond, eqb, ◌&&◌, List, [], ◌∷◌, codes, Option, Some, None}
use Rattle.std.proofs.Common.{refl, sym, ap, ◌∙◌, ◌⊎◌, inl, inr}
use Rattle.std.specs.Prelude.{is_some}
use Rattle.std.specs.Str.{bytes_eq}
use Rattle.histar_flat.specs.Words.{split_at_first}
use Rattle.histar_flat.proofs.Options.{either_chosen}
use Rattle.histar_script.specs.Lines.{is_plain}
use Rattle.histar_script.specs.Script.{ScriptModel}
use Rattle.histar_script.specs.Reading.{item_of, with_line, words_item}
use Rattle.histar_script.proofs.Parting.{parted}
use Rattle.histar_script.proofs.WordsBack.{same_bytes}
use Rattle.histar_raw_session.specs.Session.{is_comment}
use Rattle.histar_lint.specs.Lines.{Rule, after_word, begins_with, first_sentence, word_of}
use Rattle.histar_lint.specs.Rules.{rules_for}
use Rattle.histar_lint.proofs.BrokenRules.{each_bad_line_breaks_one}
use Rattle.histar_lint.proofs.LinesRight.{no_right_line_breaks_one}
use Rattle.histar_raw_lint.proofs.LinesRight.{no_right_raw_line_breaks_one}
use Rattle.histar_raw_lint.proofs.Parts.{whole_back}
use Rattle.histar_mixed.specs.Mixed.{raw_part}
use Rattle.histar_mixed.specs.Taking.{IsBadPart}
use Rattle.histar_attack_lint.specs.Laws.{EachBadMixedLineBreaksOne, IsRightPart, NoRightMixedLineBreaksOne}
use Rattle.histar_attack_lint.specs.Rules.{mixed_rules, mixed_sentence, raw_form, thread_line_rules}
use Rattle.histar_attack_lint.proofs.ThreadLines.{bad_call, line_kept, rules_of_call, thread_line}

-- the rules of a line, by whether its first word is `thread`
abbrev rules_by : List (List ℕ) → ScriptModel → List ℕ → Bool → List Rule
rules_by lines s line is_thread = cond is_thread (thread_line_rules line (after_word line)) (rules_for lines s line)

-- the rules of a line with a raw call
rules_with_call : (lines : List (List ℕ)) (s : ScriptModel) (line call : List ℕ) → raw_part line ≡ Some call
    → mixed_rules lines s line ≡ rules_of_call call
rules_with_call lines s line call some =
    elim (either_chosen (bytes_eq (word_of line) (codes "thread")) _ _ (Some call) some) [
      | inl h ↦
          let is : line ≡ thread_line call = parted line (codes "thread") call (same_bytes (word_of line) (codes "thread") h.0) h.1 in
          ap (rules_by lines s line) h.0 ∙ ap (thread_line_rules line) h.1 ∙ ap (λ (l : List ℕ). thread_line_rules l (Some call)) is
      | inr h ↦ absurd cc
    ]

-- the word `thread` alone is a bad line
lone_is_bad : (s : ScriptModel) (n : ℕ) → with_line s n (codes "thread") ≡ None
unfolding with_line item_of words_item is_plain split_at_first
lone_is_bad s n = refl

-- the rules of a line without a raw call: it is the word `thread` alone, or is judged as a line of a script
rules_without : (lines : List (List ℕ)) (s : ScriptModel) (line : List ℕ) → raw_part line ≡ None
    → ((line ≡ codes "thread") × (mixed_rules lines s line ≡ (true, raw_form) ∷ []))
    ⊎ (mixed_rules lines s line ≡ rules_for lines s line)
rules_without lines s line none =
    elim (either_chosen (bytes_eq (word_of line) (codes "thread")) _ _ None none) [
      | inl h ↦
          inl (
            whole_back 32 line h.1 ∙ same_bytes (word_of line) (codes "thread") h.0,
            ap (rules_by lines s line) h.0 ∙ ap (thread_line_rules line) h.1,
          )
      | inr h ↦ inr (ap (rules_by lines s line) h.0)
    ]

pub each_bad_mixed_line_breaks_one : EachBadMixedLineBreaksOne
each_bad_mixed_line_breaks_one lines s n line bad = by (raw_part line) refl bad
  where
    by : (part : Option (List ℕ)) → raw_part line ≡ part → IsBadPart part n line s → is_some (mixed_sentence lines s line) ≡ true
    by None none not_taken =
        elim (rules_without lines s line none) [
          | inl h ↦ ap (λ (rules : List Rule). is_some (first_sentence rules)) h.1
          | inr h ↦ ap (λ (rules : List Rule). is_some (first_sentence rules)) h ∙ each_bad_line_breaks_one lines s n line not_taken
        ]
    by (Some call) some bad =
        ap (λ (rules : List Rule). is_some (first_sentence rules)) (rules_with_call lines s line call some)
        ∙ broken (first_sentence (rules_of_call call)) refl
      where
        broken : (o : Option (List ℕ)) → first_sentence (rules_of_call call) ≡ o → is_some o ≡ true
        broken (Some said) is = refl
        broken None is = absurd (bad_call call bad is)

-- a raw call doesn't begin with a number sign
no_sign : (call : List ℕ) → is_comment call ≡ false → is_plain call ≡ true → begins_with 35 call ≡ false
no_sign [] words plain = refl
no_sign (b ∷ rest) words plain = by (eqb b 35) words
  where
    by : (sign : Bool) → (sign && is_plain (b ∷ rest)) ≡ false → sign ≡ false
    by true is = let wrong : true ≡ false = sym plain ∙ is in absurd cc
    by false is = refl

pub no_right_mixed_line_breaks_one : NoRightMixedLineBreaksOne
no_right_mixed_line_breaks_one lines s n line right = by (raw_part line) refl right
  where
    by : (part : Option (List ℕ)) → raw_part line ≡ part → IsRightPart part n line s → mixed_sentence lines s line ≡ None
    by None none taken =
        elim (rules_without lines s line none) [
          | inl h ↦
              let wrong : Some taken.0 ≡ None = sym taken.1 ∙ ap (with_line s n) h.0 ∙ lone_is_bad s n in
              absurd cc
          | inr h ↦ ap first_sentence h ∙ no_right_line_breaks_one lines s n line taken.0 taken.1
        ]
    by (Some call) some says =
        let said = says.1 in
        ap first_sentence (rules_with_call lines s line call some)
        ∙ line_kept call said.no_comment (no_sign call said.no_comment said.plain) (no_right_raw_line_breaks_one n call says.0 said)
