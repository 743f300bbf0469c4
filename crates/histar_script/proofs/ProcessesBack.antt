-- Names of processes are read from the texts that spell them, and from no others.
use Rattle.std.proofs.Common.{◌≡◌, ℕ, zero, suc, ◌+◌, ◌-◌, ◌≤◌, true, not, cond, eqb, leb, List, [], ◌∷◌, ◌++◌, length, Option, Some, None, codes}
use Rattle.std.proofs.Common.{refl, sym, ap, subst, ◌∙◌, inl, inr, arith, append_assoc, append-nil}
use Rattle.std.specs.List.{list_all}
use Rattle.std.specs.Str.{bytes_eq}
use Rattle.std.specs.Fmt.{decimal}
use Rattle.std.proofs.lemmas.List.Folds.{list_all-append}
use Rattle.std.proofs.lemmas.Bool.{and_parts, leb-true, le-leb}
use Rattle.histar_flat.specs.Words.{ProcName, dot, number_of, is_child_number, is_process, most_numbers, split_at_first, process_from, process_of}
use Rattle.histar_flat.specs.Texts.{process_text}
use Rattle.histar_flat.proofs.Numbers.{is_digit, decimal_digits, number_takes, number_again, child_number_small}
use Rattle.histar_flat.proofs.ProcessLemmas.{next_from, from_first, next_number, no_more, too_many}
use Rattle.histar_flat.proofs.SplitLemmas.{lacks, split_before, split_alone}
use Rattle.histar_flat.proofs.Options.{either_chosen}
use Rattle.histar_script.specs.Lines.{split_word, ◌space◌}
use Rattle.histar_script.proofs.Parting.{split_parts, split_part}
use Rattle.histar_script.proofs.WordsBack.{bytes_lack, same_bytes}

-- ---- texts of processes

-- a dot and what follows it, if anything does
abbrev after_dot : Option (List ℕ) → List ℕ
after_dot None = []
after_dot (Some rest) = dot ∷ rest

-- the text of a child is that of the process, a dot and its number
child_text : (above : ProcName) (n : ℕ) → process_text (n ∷ above) ≡ process_text above ++ dot ∷ decimal n
child_text above n = append_assoc (process_text above) (codes ".") (decimal n)

-- a process, a dot and a number, before more
with_number : (above : ProcName) (n : ℕ) (rest : List ℕ) → process_text above ++ dot ∷ (decimal n ++ rest) ≡ process_text (n ∷ above) ++ rest
with_number above n rest = sym (ap (λ (l : List ℕ). l ++ rest) (child_text above n) ∙ append_assoc (process_text above) (dot ∷ decimal n) rest)

-- a text is what comes before its first dot, and what follows it
parts_make : (bs : List ℕ) (after : Option (List ℕ)) → (split_at_first dot bs).1 ≡ after → bs ≡ (split_at_first dot bs).0 ++ after_dot after
parts_make bs None end = split_part dot bs end ∙ sym (append-nil (split_at_first dot bs).0)
parts_make bs (Some rest) on = split_parts dot bs rest on

-- a word without a dot ends at the dot after it, if there is one
split_dot : (word : List ℕ) (after : Option (List ℕ)) → lacks dot word ≡ true → split_at_first dot (word ++ after_dot after) ≡ (word, after)
split_dot word None h = ap (split_at_first dot) (append-nil word) ∙ split_alone dot word h
split_dot word (Some rest) h = split_before dot word rest h

-- ---- what is read is spelled

-- the process that is found below another one is spelled
abbrev IsFound : ProcName → ℕ → Option (List ℕ) → ProcName → Type 0
IsFound above most after process =
    (process_text above ++ after_dot after ≡ process_text process) × (list_all is_child_number process ≡ true)
    × (length process ≤ length above + most)

-- if nothing follows, the process itself is found
found_itself : (most : ℕ) (above process : ProcName) → list_all is_child_number above ≡ true
    → process_from most above None ≡ Some process → IsFound above most None process
found_itself most above process right e =
    let made : Some above ≡ Some process = sym (no_more most above) ∙ e in
    let same : above ≡ process = cc in
    subst (IsFound above most None) same (append-nil (process_text above), right, omega arith)

-- a number and what follows it are spelled
found_step : (most : ℕ) (above : ProcName) (bs : List ℕ) (process : ProcName) (number : Option ℕ)
    → list_all is_child_number above ≡ true → number_of is_child_number (split_at_first dot bs).0 ≡ number
    → ((n : ℕ) → list_all is_child_number (n ∷ above) ≡ true
    → process_from most (n ∷ above) (split_at_first dot bs).1 ≡ Some process
    → IsFound (n ∷ above) most (split_at_first dot bs).1 process)
    → next_from most above number (split_at_first dot bs).1 ≡ Some process → IsFound above (suc most) (Some bs) process
found_step most above bs process None right is later e = absurd cc
found_step most above bs process (Some n) right is later e =
    let rest = after_dot (split_at_first dot bs).1 in
    let taken = number_takes is_child_number (split_at_first dot bs).0 n is in
    let named : list_all is_child_number (n ∷ above) ≡ true = rw (taken.1, right) refl in
    let below = later n named e in
    let parts : bs ≡ decimal n ++ rest = parts_make bs (split_at_first dot bs).1 refl ∙ ap (λ (l : List ℕ). l ++ rest) taken.0 in
    let spelled = ap (λ l. process_text above ++ dot ∷ l) parts ∙ with_number above n rest in
    (spelled ∙ below.0, below.1, omega (arith, below.2))

-- numbers that are read are spelled
found : (most : ℕ) (above : ProcName) (after : Option (List ℕ)) (process : ProcName)
    → list_all is_child_number above ≡ true → process_from most above after ≡ Some process
    → IsFound above most after process
found zero above None process right e = found_itself zero above process right e
found zero above (Some bs) process right e = let none : None ≡ Some process = sym (too_many above bs) ∙ e in absurd cc
found (suc most) above None process right e = found_itself (suc most) above process right e
found (suc most) above (Some bs) process right e =
    found_step most above bs process (number_of is_child_number (split_at_first dot bs).0) right refl
    (λ n. found most (n ∷ above) (split_at_first dot bs).1 process) (sym (from_first most above bs) ∙ e)

-- a text that is read as a process spells the process
pub process_takes : (text : List ℕ) (process : ProcName) → process_of text ≡ Some process
    → (text ≡ process_text process) × (is_process process ≡ true)
process_takes text process e =
    let w = split_at_first dot text in
    elim (either_chosen (bytes_eq w.0 (codes "0")) (process_from most_numbers [] w.1) None (Some process) e) [
      | inl h ↦
          let f = found most_numbers [] w.1 process refl h.1 in
          let zero : w.0 ≡ codes "0" = same_bytes w.0 (codes "0") h.0 in
          (parts_make text w.1 refl ∙ ap (λ (l : List ℕ). l ++ after_dot w.1) zero ∙ f.0, rw (le-leb (length process) most_numbers f.2, f.1) refl)
      | inr h ↦ absurd cc
    ]

-- ---- what is spelled is read

-- the numbers of a process with dots between them, before more
abbrev joined : ProcName → Option (List ℕ) → Option (List ℕ)
joined [] after = after
joined (n ∷ p) after = joined p (Some (decimal n ++ after_dot after))

-- with 0 before them these numbers are the process's text
joined_text : (process : ProcName) (after : Option (List ℕ)) → process_text process ++ after_dot after ≡ codes "0" ++ after_dot (joined process after)
joined_text [] after = refl
joined_text (n ∷ p) after = sym (with_number p n (after_dot after)) ∙ joined_text p (Some (decimal n ++ after_dot after))

-- a child's number has only digits
number_digits : (n : ℕ) → is_child_number n ≡ true → list_all is_digit (decimal n) ≡ true
number_digits n h = decimal_digits n (child_number_small n h)

-- numbers are read up to the last of a process
read_on : (process : ProcName) (most : ℕ) (after : Option (List ℕ)) → list_all is_child_number process ≡ true
    → process_from (length process + most) [] (joined process after) ≡ process_from most process after
read_on [] most after right = let all : length {A = ℕ} [] + most ≡ most = omega arith in ap (λ k. process_from k [] after) all
read_on (n ∷ p) most after right =
    let h = and_parts (is_child_number n) (list_all is_child_number p) right in
    let text = decimal n ++ after_dot after in
    let left : length (n ∷ p) + most ≡ length p + suc most = omega arith in
    let less : suc most - 1 ≡ most = omega arith in
    let split = split_dot (decimal n) after (bytes_lack is_digit dot (decimal n) refl (number_digits n h.0)) in
    let is : number_of is_child_number (split_at_first dot text).0 ≡ Some n =
    ap (λ w. number_of is_child_number w.0) split ∙ number_again is_child_number n (child_number_small n h.0) h.0 in
    ap (λ k. process_from k [] (joined p (Some text))) left
    ∙ read_on p (suc most) (Some text) h.1
    ∙ next_number (suc most) p text n (omega arith) is
    ∙ (λ i. process_from (less i) (n ∷ p) (split i).1)

-- numbers are read after the 0
behind_zero : (after : Option (List ℕ)) → process_of (codes "0" ++ after_dot after) ≡ process_from most_numbers [] after
behind_zero after = ap (λ w. cond (bytes_eq w.0 (codes "0")) (process_from most_numbers [] w.1) None) (split_dot (codes "0") after refl)

-- a text that spells a process is read as the process
pub process_again : (process : ProcName) → is_process process ≡ true → process_of (process_text process) ≡ Some process
process_again process h =
    let parts = and_parts (leb (length process) most_numbers) (list_all is_child_number process) h in
    let short : length process ≤ 7 = leb-true (length process) most_numbers parts.0 in
    let most : 7 ≡ length process + (7 - length process) = omega (arith, short) in
    ap process_of (sym (append-nil (process_text process)) ∙ joined_text process None)
    ∙ behind_zero (joined process None)
    ∙ ap (λ k. process_from k [] (joined process None)) most
    ∙ read_on process (7 - length process) None parts.1
    ∙ no_more (7 - length process) process

-- ---- a process before a space

-- a process begins with its 0
pub process_begins : (process : ProcName) → (rest : List ℕ) × (process_text process ≡ codes "0" ++ rest)
process_begins process = (after_dot (joined process None), sym (append-nil (process_text process)) ∙ joined_text process None)

-- numbers with dots have no space
pub process_lacks_space : (process : ProcName) → list_all is_child_number process ≡ true → lacks 32 (process_text process) ≡ true
process_lacks_space [] h = refl
process_lacks_space (n ∷ p) h =
    let parts = and_parts (is_child_number n) (list_all is_child_number p) h in
    ap (lacks 32) (child_text p n)
    ∙ list_all-append (λ b. not (eqb b 32)) (process_text p) (dot ∷ decimal n)
    ∙ rw (process_lacks_space p parts.1, bytes_lack is_digit 32 (decimal n) refl (number_digits n parts.0)) refl

-- a process ends at the space after it
pub split_process : (process : ProcName) (rest : List ℕ) → is_process process ≡ true
    → split_word (process_text process space rest) ≡ (process_text process, Some rest)
split_process process rest h =
    let numbers = and_parts (leb (length process) most_numbers) (list_all is_child_number process) h in
    split_before 32 (process_text process) rest (process_lacks_space process numbers.1)
