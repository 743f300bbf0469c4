-- A line with a raw call keeps its rules where the call keeps those of a raw session.
use Rattle.std.proofs.Common.{◌≡◌, ℕ, ◌+◌, Bool, true, false, cond, eqb, ◌||◌, List, [], ◌∷◌, ◌++◌, length}
use Rattle.std.proofs.Common.{codes, Some, None}
use Rattle.std.proofs.Common.{refl, sym, ap, ◌∙◌, inl, inr}
use Rattle.std.specs.Prelude.{is_none, is_some, nat_lt}
use Rattle.std.proofs.lemmas.Bool.{and_parts}
use Rattle.histar_flat.specs.Words.{split_at_first}
use Rattle.histar_script.specs.Lines.{is_plain_byte, most_line_bytes}
use Rattle.histar_raw_session.specs.Session.{is_comment}
use Rattle.histar_lint.specs.Lines.{Rule, after_word, begins_with, byte_rules, ends_with, has_after_space, rest_of, space_rules}
use Rattle.histar_lint.specs.Lines.{unprintable_from, word_of}
use Rattle.histar_raw_lint.specs.Rules.{call_rules, second_word_rules, sentence, thread_rules, word_rules}
use Rattle.histar_lint.proofs.Rules.{AreKept, both_kept, first_kept, keep, keep_both}
use Rattle.histar_lint.proofs.SpacesRight.{ends_append}
use Rattle.histar_mixed.specs.Mixed.{IsBadRaw}
use Rattle.histar_raw_lint.proofs.BrokenRules.{each_bad_raw_line_breaks_one}
use Rattle.histar_attack_lint.specs.Rules.{raw_byte_rules, raw_form, raw_word_rules, thread_line_rules}

-- the line with this raw call
abbrev pub thread_line : List ℕ → List ℕ
thread_line call = codes "thread" ++ 32 ∷ call

-- the rules for it
abbrev pub rules_of_call : List ℕ → List Rule
rules_of_call call = thread_line_rules (thread_line call) (Some call)

-- ---- the bytes and spaces of a line and those of its call

-- one of two tests holds
either_fails : (a b : Bool) → (a || b) ≡ false → (a ≡ false) × (b ≡ false)
either_fails true b e = absurd cc
either_fails false b e = (refl, e)

both_fail : (a b : Bool) → a ≡ false → b ≡ false → (a || b) ≡ false
both_fail true b e f = absurd cc
both_fail false b e f = f

-- a byte comes after a space in the line where it is the first one of the call, or comes after a space there
after_space : (b : ℕ) (call : List ℕ) → has_after_space b (thread_line call) ≡ (begins_with b call || has_after_space b call)
after_space b call = refl

-- the line ends like its call
ends_alike : (b d : ℕ) (rest : List ℕ) → ends_with b (thread_line (d ∷ rest)) ≡ ends_with b (d ∷ rest)
ends_alike b d rest = ends_append b (codes "thread ") d rest

-- where bytes are numbered from doesn't matter to whether one is unprintable
numbered : (n k : ℕ) (text : List ℕ) → is_some (unprintable_from n text) ≡ is_some (unprintable_from k text)
numbered n k [] = refl
numbered n k (b ∷ text) = by (is_plain_byte b) (numbered (n + 1) (k + 1) text)
  where
    by : (plain : Bool) → is_some (unprintable_from (n + 1) text) ≡ is_some (unprintable_from (k + 1) text)
        → is_some (cond plain (unprintable_from (n + 1) text) (Some (n, b))) ≡ is_some (cond plain (unprintable_from (k + 1) text) (Some (k, b)))
    by true same = same
    by false same = refl

-- a byte of the line is unprintable where one of the call is
unprintable_alike : (call : List ℕ) → is_some (unprintable_from 1 (thread_line call)) ≡ is_some (unprintable_from 1 call)
unprintable_alike call = numbered 8 1 call

-- ---- a line that keeps its rules has a call that keeps those of a raw session

-- it has a second word behind `thread `
has_call : AreKept (rules_of_call []) → ⊥
unfolding split_at_first
has_call kept =
    let one = both_kept (raw_byte_rules (thread_line []) []) (space_rules (thread_line []) None ++ raw_word_rules []) kept in
    let two = both_kept (space_rules (thread_line []) None) (raw_word_rules []) one.1 in
    let wrong : Some raw_form ≡ None = two.1 in
    absurd cc

-- the first byte of its call is no number sign
pub no_sign : (call : List ℕ) → AreKept (rules_of_call call) → begins_with 35 call ≡ false
no_sign call kept =
    let line = thread_line call in
    let one = both_kept (raw_byte_rules line call) (space_rules line None ++ raw_word_rules call) kept in
    let two = both_kept (space_rules line None) (raw_word_rules call) one.1 in
    let second = first_kept (ends_with 32 line) _ _ two.0 in
    let third = first_kept (has_after_space 35 line) _ _ second.1 in
    (either_fails (begins_with 35 call) (has_after_space 35 call) third.0).0

-- the call keeps the rules for bytes
bytes_kept : (d : ℕ) (rest : List ℕ) → AreKept (raw_byte_rules (thread_line (d ∷ rest)) (d ∷ rest)) → AreKept (byte_rules (d ∷ rest))
bytes_kept d rest kept =
    let call : List ℕ = d ∷ rest in
    let line = thread_line call in
    let long = first_kept (nat_lt most_line_bytes (length call)) _ _ kept in
    let return = first_kept (ends_with 13 line) _ _ long.1 in
    let plain = first_kept (is_some (unprintable_from 1 line)) _ _ return.1 in
    keep (nat_lt most_line_bytes (length call)) _ _ long.0
    (keep (ends_with 13 call) _ _ (sym (ends_alike 13 d rest) ∙ return.0)
    (keep (is_some (unprintable_from 1 call)) _ _ (sym (unprintable_alike call) ∙ plain.0) refl))

-- the call keeps the rules for spaces
spaces_kept : (d : ℕ) (rest : List ℕ) → AreKept (space_rules (thread_line (d ∷ rest)) None) → AreKept (space_rules (d ∷ rest) None)
spaces_kept d rest kept =
    let call : List ℕ = d ∷ rest in
    let line = thread_line call in
    let second = first_kept (ends_with 32 line) _ _ kept in
    let third = first_kept (has_after_space 35 line) _ _ second.1 in
    let fourth = first_kept (has_after_space 32 line) _ _ third.1 in
    let sign = either_fails (begins_with 35 call) (has_after_space 35 call) third.0 in
    let space = either_fails (begins_with 32 call) (has_after_space 32 call) fourth.0 in
    keep (begins_with 32 call) _ _ space.0
    (keep (ends_with 32 call) _ _ (sym (ends_alike 32 d rest) ∙ second.0)
    (keep (has_after_space 35 call) _ _ sign.1 (keep (has_after_space 32 call) _ _ space.1 refl)))

-- the call keeps all rules of a raw session
pub call_kept : (call : List ℕ) → AreKept (rules_of_call call) → sentence call ≡ None
call_kept [] kept = absurd (has_call kept)
call_kept (d ∷ rest) kept =
    let call : List ℕ = d ∷ rest in
    let line = thread_line call in
    let last = thread_rules (word_of call) ++ call_rules (rest_of call) in
    let one = both_kept (raw_byte_rules line call) (space_rules line None ++ raw_word_rules call) kept in
    let two = both_kept (space_rules line None) (raw_word_rules call) one.1 in
    let form = first_kept (is_none (after_word call)) _ _ two.1 in
    keep_both (byte_rules call) (word_rules call ++ last) (bytes_kept d rest one.0)
    (keep_both (word_rules call) last
    (keep_both (space_rules call None) (second_word_rules call) (spaces_kept d rest two.0)
    (keep (is_none (after_word call)) _ _ form.0 refl)) form.1)

-- so a line with a bad call breaks a rule
pub bad_call : (call : List ℕ) → IsBadRaw call → AreKept (rules_of_call call) → ⊥
bad_call [] bad kept = has_call kept
bad_call (d ∷ rest) (inl comment) kept =
    let sign = (and_parts (eqb d 35) _ comment).0 in
    let none = no_sign (d ∷ rest) kept in
    absurd cc
bad_call (d ∷ rest) (inr bad) kept =
    let broken = each_bad_raw_line_breaks_one (d ∷ rest) bad in
    let none = ap is_some (call_kept (d ∷ rest) kept) in
    absurd cc

-- ---- a line keeps its rules where its call keeps those of a raw session

-- the line keeps the rules for bytes
line_bytes : (d : ℕ) (rest : List ℕ) → AreKept (byte_rules (d ∷ rest)) → AreKept (raw_byte_rules (thread_line (d ∷ rest)) (d ∷ rest))
line_bytes d rest kept =
    let call : List ℕ = d ∷ rest in
    let line = thread_line call in
    let long = first_kept (nat_lt most_line_bytes (length call)) _ _ kept in
    let return = first_kept (ends_with 13 call) _ _ long.1 in
    let plain = first_kept (is_some (unprintable_from 1 call)) _ _ return.1 in
    keep (nat_lt most_line_bytes (length call)) _ _ long.0
    (keep (ends_with 13 line) _ _ (ends_alike 13 d rest ∙ return.0)
    (keep (is_some (unprintable_from 1 line)) _ _ (unprintable_alike call ∙ plain.0) refl))

-- the line keeps the rules for spaces
line_spaces : (d : ℕ) (rest : List ℕ) → begins_with 35 (d ∷ rest) ≡ false → AreKept (space_rules (d ∷ rest) None)
    → AreKept (space_rules (thread_line (d ∷ rest)) None)
line_spaces d rest sign kept =
    let call : List ℕ = d ∷ rest in
    let line = thread_line call in
    let first = first_kept (begins_with 32 call) _ _ kept in
    let second = first_kept (ends_with 32 call) _ _ first.1 in
    let third = first_kept (has_after_space 35 call) _ _ second.1 in
    let fourth = first_kept (has_after_space 32 call) _ _ third.1 in
    keep (ends_with 32 line) _ _ (ends_alike 32 d rest ∙ second.0)
    (keep (has_after_space 35 line) _ _ (both_fail (begins_with 35 call) (has_after_space 35 call) sign third.0)
    (keep (has_after_space 32 line) _ _ (both_fail (begins_with 32 call) (has_after_space 32 call) first.0 fourth.0) refl))

-- the line keeps all rules
pub line_kept : (call : List ℕ) → is_comment call ≡ false → begins_with 35 call ≡ false → sentence call ≡ None
    → AreKept (rules_of_call call)
line_kept [] words sign kept = absurd cc
line_kept (d ∷ rest) words sign kept =
    let call : List ℕ = d ∷ rest in
    let line = thread_line call in
    let last = thread_rules (word_of call) ++ call_rules (rest_of call) in
    let one = both_kept (byte_rules call) (word_rules call ++ last) kept in
    let two = both_kept (word_rules call) last one.1 in
    let three = both_kept (space_rules call None) (second_word_rules call) two.0 in
    let second = first_kept (is_none (after_word call)) _ _ three.1 in
    keep_both (raw_byte_rules line call) (space_rules line None ++ raw_word_rules call) (line_bytes d rest one.0)
    (keep_both (space_rules line None) (raw_word_rules call) (line_spaces d rest sign three.0)
    (keep (is_none (after_word call)) _ _ second.0 two.1))
