-- A text that is no claim breaks a rule, and one that is a claim breaks none.
use Rattle.std.specs.Prelude.{◌≡◌, ℕ, suc, ◌-◌, Bool, true, false, not, ◌↔◌, List, [], ◌∷◌, codes, length, take}
use Rattle.std.specs.Prelude.{Option, None, Some, is_none, is_some, option_map, if◌then◌else◌, refl}
use Rattle.std.specs.Str.{bytes_eq}
use Rattle.std.proofs.Common.{ap, arith, sym, ◌∙◌}
use Rattle.std.proofs.lemmas.Bool.{true≢false}
use Rattle.std.proofs.lemmas.Option.{none-some}
use Rattle.histar_flat.specs.Accounts.{Accounts}
use Rattle.histar_flat.specs.Words.{path_of}
use Rattle.histar_lint.specs.Lines.{first_sentence}
use Rattle.histar_script.specs.Reading.{◌>>=◌}
use Rattle.histar_never.specs.declared.whom.Whom.TheVariants.{AllBut}
use Rattle.histar_never.specs.Claims.{letters_word, never_by, path_word, users_in, who_words, whom_of, words_of}
use Rattle.histar_never.specs.Faults.{are_of_a_claim}
use Rattle.histar_never.specs.Laws.{BadClaimsHaveSentences}
use Rattle.histar_never.specs.Letters.{letters_of}

-- words that are not of a claim mean nobody
mean_nobody : (accounts : Accounts) (words : List (List ℕ)) → not (are_of_a_claim words) ≡ true
    → whom_of accounts (who_words words) ≡ None
mean_nobody accounts [] e = refl
mean_nobody accounts (a ∷ []) e = refl
mean_nobody accounts (a ∷ b ∷ []) e = refl
mean_nobody accounts (a ∷ b ∷ c ∷ []) e = refl
mean_nobody accounts (a ∷ b ∷ c ∷ d ∷ []) e = absurd (true≢false (sym e))
mean_nobody accounts (a ∷ b ∷ c ∷ d ∷ x ∷ words) e =
    let count : length (a ∷ b ∷ c ∷ d ∷ x ∷ words) - 3 ≡ suc (suc (length words)) = omega arith in
    ap (λ n. whom_of accounts (take n (c ∷ d ∷ x ∷ words))) count ∙ by (bytes_eq c (codes "all-but")) e
  where
    by : (t : Bool) → not t ≡ true
        → (if t then option_map AllBut (users_in accounts (d ∷ take (length words) (x ∷ words))) else None) ≡ None
    by true is = absurd (true≢false (sym is))
    by false is = refl

module _ {P W L C : Type 0} (make : P → W → L → C) where
  -- the claim of three parts, if each is there
  abbrev made : Option P → Option W → Option L → Option C
  made p w l = p >>= λ path. w >>= λ whom. l >>= λ letters. Some (make path whom letters)

  -- a part is missing exactly if a rule is broken; of words that are not of a claim one is missing
  missing : (x y z t : List ℕ) (a : Bool) (p : Option P) (w : Option W) (l : Option L) → (a ≡ true → w ≡ None)
      → (made p w l ≡ None)
      ↔ (is_some (first_sentence ((a, x) ∷ (is_none p, y) ∷ (is_none l, z) ∷ (is_none w, t) ∷ [])) ≡ true)
  missing x y z t true None w l h = (λ e. refl, λ e. refl)
  missing x y z t true (Some p) w l h = (λ e. refl, λ e. ap (λ (o : Option W). made (Some p) o l) (h refl))
  missing x y z t false None w l h = (λ e. refl, λ e. refl)
  missing x y z t false (Some p) None None h = (λ e. refl, λ e. refl)
  missing x y z t false (Some p) None (Some l) h = (λ e. refl, λ e. refl)
  missing x y z t false (Some p) (Some w) None h = (λ e. refl, λ e. refl)
  missing x y z t false (Some p) (Some w) (Some l) h =
      (λ e. absurd (none-some (make p w l) (sym e)), λ e. absurd (true≢false (sym e)))

pub bad_claims_have_sentences : BadClaimsHaveSentences
unfolding never_by
bad_claims_have_sentences accounts n text =
    let words = words_of text in
    missing (λ path whom letters. record { line = n; said = text; path = path; whom = whom; letters = letters }) _ _ _ _
    (not (are_of_a_claim words)) (path_of (path_word words)) (whom_of accounts (who_words words)) (letters_of (letters_word words))
    (mean_nobody accounts words)
