-- The rules that a claim has to keep, each with the sentence on a bad one that breaks it.
use Rattle.std.specs.Prelude.{ℕ, Bool, true, false, not, List, [], ◌∷◌, codes, is_none}
use Rattle.std.specs.Str.{bytes_eq}
use Rattle.histar_flat.specs.Accounts.{Accounts}
use Rattle.histar_flat.specs.Words.{path_of}
use Rattle.histar_lint.specs.declared.shapes.Kind.TheVariants.{Path}
use Rattle.histar_lint.specs.Calls.{kind_text}
use Rattle.histar_lint.specs.Lines.{Rule}
use Rattle.histar_never.specs.Claims.{letters_word, path_word, who_words, whom_of, words_of}
use Rattle.histar_never.specs.Letters.{letters_of}

-- there are four words, or there are more and the third is `all-but`
abbrev pub are_of_a_claim : List (List ℕ) → Bool
are_of_a_claim (never ∷ path ∷ who ∷ letters ∷ []) = true
are_of_a_claim (never ∷ path ∷ word ∷ user ∷ letters ∷ words) = bytes_eq word (codes "all-but")
are_of_a_claim _ = false

-- The rules for the words of a claim, in their order.
abbrev pub word_rules : Accounts → List (List ℕ) → List Rule
word_rules accounts words =
    (not (are_of_a_claim words), codes "a claim is `#never PATH WHO LETTERS`")
    ∷ (is_none (path_of (path_word words)), kind_text Path)
    ∷ (is_none (letters_of (letters_word words)), codes "letters are some of s, r, w and d in this order")
    ∷ (is_none (whom_of accounts (who_words words)), codes "there is no user of this name") ∷ []

-- The rules for a claim, by its text without `#`.
abbrev pub never_rules : Accounts → List ℕ → List Rule
never_rules accounts text = word_rules accounts (words_of text)
