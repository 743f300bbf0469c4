-- The rules for the lines of a test refuse what its steps refuse.
use Rattle.std.proofs.Common.{◌≡◌, ℕ, Bool, true, false, cond, List, [], ◌∷◌, take, drop, length, map, Option, Some, None}
use Rattle.std.proofs.Common.{◌&&◌, codes, not, refl, sym, ap, ◌∙◌, arith}
use Rattle.std.proofs.lemmas.Bool.Decides.{nat_tests}
use Rattle.std.specs.Prelude.{◌==◌, ◌↔◌, is_none, is_some, option_and_then, option_map, unwrap_or, if◌then◌else◌}
use Rattle.std.specs.List.{list_all, slice_split}
use Rattle.std.specs.Str.{bytes_eq}
use Rattle.histar_flat.specs.Accounts.{Accounts}
use Rattle.histar_flat.specs.Words.{Path, ProcName, path_of, process_of, split_at_first}
use Rattle.histar_rights.specs.declared.rights.Rights.{Rights}
use Rattle.histar_rights.specs.Rights.{rights_spelled, rights_text}
use Rattle.histar_rights.proofs.Spelling.{letters_spell_rights}
use Rattle.histar_lint.specs.declared.shapes.Kind.TheVariants.{Path as APath, Process}
use Rattle.histar_lint.specs.Calls.{kind_text}
use Rattle.histar_lint.specs.Lines.{after_word, first_sentence, rest_of, word_of}
use Rattle.histar_never.specs.declared.claims.Never.{Never}
use Rattle.histar_never.specs.Claims.{never_of}
use Rattle.histar_never.specs.Faults.{never_rules}
use Rattle.histar_never.proofs.BadClaims.{bad_claims_have_sentences}
use Rattle.histar_test.specs.declared.asking.Asking.TheVariants.{OfRights, OfTrust}
use Rattle.histar_test.specs.declared.claims.Claim.{Claim}
use Rattle.histar_test.specs.declared.questions.Question.{Question}
use Rattle.histar_test.specs.Faults.{asked_rules, claim_rules, claimed_rules, process_rule, question_rules}
use Rattle.histar_test.specs.Steps.{are_processes, asking_of, claim_of, claimed_of, is_process_word, process_and_rights_of, question_of}

-- ---- a question

-- the letters of rights are one word
one_word : (a b c d : Bool) → after_word (rights_text (record { stat = a; read = b; write = c; remove = d })) ≡ None
unfolding split_at_first
one_word true true true true = refl
one_word true true true false = refl
one_word true true false true = refl
one_word true true false false = refl
one_word true false true true = refl
one_word true false true false = refl
one_word true false false true = refl
one_word true false false false = refl
one_word false true true true = refl
one_word false true true false = refl
one_word false true false true = refl
one_word false true false false = refl
one_word false false true true = refl
one_word false false true false = refl
one_word false false false true = refl
one_word false false false false = refl

-- a text that spells rights is one word
rights_alone : (text : List ℕ) (rights : Option Rights) → rights_spelled text ≡ rights → (is_some rights && is_some (after_word text)) ≡ false
rights_alone text None is = refl
rights_alone text (Some r) is =
    let whole : text ≡ rights_text r = (letters_spell_rights text r).0 is in
    ap (λ (l : List ℕ). is_some (after_word l)) whole ∙ ap is_some (one_word r.stat r.read r.write r.remove)

-- the sentences of a question
abbrev no_form : List ℕ
no_form = codes "a question is `#! PATH PROC RIGHTS`"

abbrev no_rights : List ℕ
no_rights = codes "rights are four letters of srwd- in this order"

-- a process and rights, if these are there
abbrev paired : ProcName → Option Rights → Option (ProcName × Rights)
paired process rights = option_and_then (λ (r : Rights). Some (process, r)) rights

module _ (n : ℕ) (text : List ℕ) where
  -- the question for these rights of a process at a path
  abbrev question_with : Path → ProcName × Rights → Option Question
  question_with path wanted = Some (record { line = n; said = text; path = path; process = wanted.0; wanted = wanted.1 })

  -- a question with this path, this process and these rights, if they are there, given what is behind the rights
  abbrev Words : Option Path → Option ProcName → Option (List ℕ) → Option Rights → Type 0
  Words path process more rights =
      is_none (cond (not (is_none more)) (Some no_form) (cond (is_none path) (Some (kind_text APath))
      (cond (is_none process) (Some (kind_text Process))
      (cond (is_none rights) (Some no_rights) None))))
      ≡ is_some (option_and_then (λ (p : Path). option_and_then (question_with p) (option_and_then (λ (o : ProcName). paired o rights) process)) path)

  three_words : (path : Option Path) (process : Option ProcName) (more : Option (List ℕ)) (rights : Option Rights)
      → (is_some rights && is_some more) ≡ false → Words path process more rights
  three_words path process (Some x) (Some r) alone = absurd cc
  three_words None process (Some x) None alone = refl
  three_words (Some p) None (Some x) None alone = refl
  three_words (Some p) (Some o) (Some x) None alone = refl
  three_words None process None rights alone = refl
  three_words (Some p) None None rights alone = refl
  three_words (Some p) (Some o) None None alone = refl
  three_words (Some p) (Some o) None (Some r) alone = refl

  -- a question with this path, if it is there, and this text behind it
  abbrev Behind : Option Path → Option ProcName → Option (List ℕ) → Type 0
  Behind path process letters =
      is_none (cond (not (is_some letters && is_none (after_word (unwrap_or letters [])))) (Some no_form)
      (cond (is_none path) (Some (kind_text APath)) (cond (is_none process) (Some (kind_text Process))
      (cond (is_none (rights_spelled (unwrap_or letters []))) (Some no_rights) None))))
      ≡ is_some (option_and_then (λ (p : Path). option_and_then (question_with p)
      (option_and_then (λ (o : ProcName). option_and_then (λ (l : List ℕ). paired o (rights_spelled l)) letters) process)) path)

  two_words : (path : Option Path) (process : Option ProcName) (letters : Option (List ℕ)) → Behind path process letters
  two_words None process None = refl
  two_words (Some p) None None = refl
  two_words (Some p) (Some o) None = refl
  two_words path process (Some letters) =
      three_words path process (after_word letters) (rights_spelled letters) (rights_alone letters (rights_spelled letters) refl)

  abbrev Whole : Option Path → Option (List ℕ) → Type 0
  Whole path rest =
      is_none (cond (not (is_some rest && (is_some (after_word (unwrap_or rest [])) && is_none (after_word (rest_of (unwrap_or rest []))))))
      (Some no_form)
      (cond (is_none path) (Some (kind_text APath)) (cond (is_none (process_of (word_of (unwrap_or rest [])))) (Some (kind_text Process))
      (cond (is_none (rights_spelled (rest_of (unwrap_or rest [])))) (Some no_rights) None))))
      ≡ is_some (option_and_then (λ (p : Path).
      option_and_then (λ (l : List ℕ). option_and_then (question_with p) (process_and_rights_of l)) rest) path)

  any_words : (path : Option Path) (rest : Option (List ℕ)) → Whole path rest
  unfolding process_and_rights_of
  any_words None None = refl
  any_words (Some p) None = refl
  any_words path (Some rest) = two_words path (process_of (word_of rest)) (after_word rest)

  -- a question that can be read keeps its rules, and any other breaks one
  pub question_judged : is_none (first_sentence (question_rules text)) ≡ is_some (question_of n text)
  unfolding question_of
  question_judged = any_words (path_of (word_of text)) (after_word text)

-- ---- a claim

-- the sentence on the processes of a claim
pub words_said : (words : List (List ℕ))
    → first_sentence (map process_rule words) ≡ (if list_all is_process_word words then None else Some (kind_text Process))
words_said [] = refl
words_said (word ∷ words) = by (is_process_word word) (words_said words)
  where
    by : (is : Bool) → first_sentence (map process_rule words) ≡ (if list_all is_process_word words then None else Some (kind_text Process))
        → cond (not is) (Some (kind_text Process)) (first_sentence (map process_rule words))
        ≡ (if is && list_all is_process_word words then None else Some (kind_text Process))
    by true later = later
    by false later = refl

module _ (names : Option (List ℕ)) (text : List ℕ) (is : names ≡ Some text) where
  -- processes have no sentence
  pub processes_kept : are_processes text ≡ true → None ≡ first_sentence (claimed_rules names)
  processes_kept are =
      sym (ap (λ (o : Option (List ℕ)). first_sentence (claimed_rules o)) is ∙ words_said (slice_split (λ b. b == 32) text)
      ∙ ap (λ (b : Bool). let said : Option (List ℕ) = if b then None else Some (kind_text Process) in said) are)

  -- other words have the sentence on a process
  pub processes_broken : are_processes text ≡ false → Some (kind_text Process) ≡ first_sentence (claimed_rules names)
  processes_broken are =
      sym (ap (λ (o : Option (List ℕ)). first_sentence (claimed_rules o)) is ∙ words_said (slice_split (λ b. b == 32) text)
      ∙ ap (λ (b : Bool). let said : Option (List ℕ) = if b then None else Some (kind_text Process) in said) are)

module _ (n : ℕ) (text : List ℕ) where
  -- the claim of these processes at a path, if they are there
  abbrev claim_with : Path → Option (List ℕ) → Option Claim
  claim_with path claimed =
      option_and_then (λ (wanted : List ℕ). let claim : Option Claim = Some (record { line = n; said = text; path = path; wanted = wanted }) in claim)
      claimed

  names_judged : (path : Path) (names : Option (List ℕ))
      → is_none (first_sentence (claimed_rules names)) ≡ is_some (claim_with path (claimed_of names))
  names_judged path None = refl
  names_judged path (Some names) = ap is_none (words_said (slice_split (λ b. b == 32) names)) ∙ by (are_processes names)
    where
      by : (are : Bool) → is_none (if are then None else Some (kind_text Process)) ≡ is_some (claim_with path (if are then Some names else None))
      by true = refl
      by false = refl

  path_judged : (path : Option Path) (names : Option (List ℕ))
      → is_none (cond (is_none path) (Some (kind_text APath)) (first_sentence (claimed_rules names)))
      ≡ is_some (option_and_then (λ (p : Path). claim_with p (claimed_of names)) path)
  path_judged None names = refl
  path_judged (Some p) names = names_judged p names

  -- what a claim has behind its first word
  abbrev Rest : Option (List ℕ) → Type 0
  Rest rest =
      is_none (cond (length (unwrap_or rest []) == 0) (Some (codes "a claim is `#trusted PATH PROC PROC ..`"))
      (cond (is_none (path_of (word_of (unwrap_or rest [])))) (Some (kind_text APath))
      (first_sentence (claimed_rules (after_word (unwrap_or rest []))))))
      ≡ is_some (option_and_then (λ (l : List ℕ).
      option_and_then (λ (p : Path). claim_with p (claimed_of (after_word l))) (path_of (word_of l))) rest)

  rest_judged : (rest : Option (List ℕ)) → Rest rest
  unfolding split_at_first
  rest_judged None = refl
  rest_judged (Some []) = refl
  rest_judged (Some (b ∷ bs)) =
      let words = b ∷ bs in
      let some : (length words == 0) ≡ false = grind (arith, nat_tests) in
      ap (λ (empty : Bool).
      is_none (cond empty (Some (codes "a claim is `#trusted PATH PROC PROC ..`"))
      (cond (is_none (path_of (word_of words))) (Some (kind_text APath)) (first_sentence (claimed_rules (after_word words)))))) some
      ∙ path_judged (path_of (word_of words)) (after_word words)

  -- a claim that can be read keeps its rules, and any other breaks one
  pub claim_judged : is_none (first_sentence (claim_rules text)) ≡ is_some (claim_of n text)
  unfolding claim_of
  claim_judged = rest_judged (after_word text)

-- ---- a question or a claim

same_some : {A B : Type 0} (f : A → B) (o : Option A) → is_some o ≡ is_some (option_map f o)
same_some f None = refl
same_some f (Some x) = refl

-- a question or a claim that can be read keeps its rules, and any other breaks one
pub asked_judged : (n : ℕ) (text : List ℕ) → is_none (first_sentence (asked_rules text)) ≡ is_some (asking_of n text)
asked_judged n text = by (bytes_eq (take 2 text) (codes "! "))
  where
    by : (asks : Bool) → is_none (first_sentence (if asks then question_rules (drop 2 text) else claim_rules text))
        ≡ is_some (if asks then option_map OfRights (question_of n (drop 2 text)) else option_map OfTrust (claim_of n text))
    by true = question_judged n (drop 2 text) ∙ same_some OfRights (question_of n (drop 2 text))
    by false = claim_judged n text ∙ same_some OfTrust (claim_of n text)

-- ---- a claim `#never`

-- a sentence is there exactly if a claim isn't
judged_by : (o : Option Never) (said : Option (List ℕ)) → (o ≡ None) ↔ (is_some said ≡ true) → is_none said ≡ is_some o
judged_by None None law = let e = law.0 refl in absurd cc
judged_by None (Some text) law = refl
judged_by (Some q) None law = refl
judged_by (Some q) (Some text) law = let e = law.1 refl in absurd cc

-- a claim that can be read keeps its rules, and any other breaks one
pub never_judged : (accounts : Accounts) (n : ℕ) (text : List ℕ)
    → is_none (first_sentence (never_rules accounts text)) ≡ is_some (never_of accounts n text)
never_judged accounts n text =
    judged_by (never_of accounts n text) (first_sentence (never_rules accounts text)) (bad_claims_have_sentences accounts n text)
