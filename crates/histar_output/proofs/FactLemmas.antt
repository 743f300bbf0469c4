-- Each line that is written is the fact of its line.
use Rattle.std.proofs.Common.{◌≡◌, ℕ, ◌≤◌, Bool, true, false, List, [], ◌∷◌, ◌++◌, refl, sym, ap, ◌∙◌, subst}
use Rattle.std.proofs.Common.{inl, inr, arith, append_assoc, append-nil, Some, None, length}
use Rattle.std.specs.Prelude.{Option, max, if◌then◌else◌, ◌==◌}
use Rattle.std.specs.Option.{option_map_or}
use Rattle.std.specs.List.{flat_map}
use Rattle.std.proofs.lemmas.Bool.{eqb-true, false≢true}
use Rattle.std.proofs.lemmas.List.{nil_from_length}
use Rattle.json.specs.Json.{document, string, number}
use Rattle.json.specs.Print.{IsNumber, print}
use Rattle.json.specs.Tree.{HasNumbers, ItemsHaveNumbers, MembersHaveNumbers, depth, items_depth, members_depth, json_tokens}
use Rattle.json.specs.Word.{after_number}
use Rattle.json.proofs.Printed.Trees.{ArePrintable-json_tokens, document-print}
use Rattle.histar_script.specs.Lines.{lines_of}
use Rattle.histar_script.specs.Laws.{EndsItsLines}
use Rattle.histar_script.proofs.Beginnings.{line_back}
use Rattle.histar_output.specs.declared.forms.Form.{Form}
use Rattle.histar_output.specs.declared.parts.Kind.{Kind}
use Rattle.histar_output.specs.declared.parts.Kind.TheVariants as kinds
use Rattle.histar_output.specs.Cuts.{cut_at, cut_last, holders_in, names_in, words_of}
use Rattle.histar_output.specs.Parts.{Part, upto, upto_last, rest, past, is, is_number, left_by, members_of, rights_of, strings, value_of}
use Rattle.histar_output.specs.Forms.{parts_of}
use Rattle.histar_output.specs.Facts.{AreFacts, as_text, fact_of}
use Rattle.histar_output.specs.Written.{fact_line}
use Rattle.histar_output.proofs.PrintLemmas.{print_line}

-- strings have no depth
flat_strings : (ss : List (List ℕ)) → items_depth (strings ss) ≡ 0
flat_strings [] = refl
flat_strings (s ∷ ss) = rw (flat_strings ss) refl

-- rights have none either
flat_rights : (ws : List (List ℕ)) → members_depth (rights_of ws) ≡ 0
flat_rights [] = refl
flat_rights (w ∷ ws) = rw (flat_rights ws) refl

-- a number, or a string in its place, has no depth
flat_number : (b : Bool) (text : List ℕ) → depth (if b then number text else string text) ≡ 0
flat_number true text = refl
flat_number false text = refl

-- a value is at most an array or an object of strings
value_depth : (kind : Kind) (text : List ℕ) → depth (value_of kind text) ≤ 1
value_depth kinds.Text text = omega arith
value_depth kinds.Number text = omega (arith, flat_number (is_number text) text)
value_depth kinds.Names text = omega (arith, flat_strings (names_in text))
value_depth kinds.Holders text = omega (arith, flat_strings (holders_in text))
value_depth kinds.Rights text = omega (arith, flat_rights (words_of text))

-- one more member is no deeper
one_more : (d m : ℕ) → d ≤ 1 → m ≤ 1 → max d m ≤ 1
one_more d m a b = omega arith

-- members are at most arrays or objects of strings
members_flat : (ps : List Part) (left : Option (List ℕ)) → members_depth (members_of ps left) ≤ 1
unfolding members_of
members_flat [] left = omega arith
members_flat (p ∷ ps) None = omega arith
members_flat (upto name kind mark ∷ ps) (Some text) =
    one_more _ _ (value_depth kind (cut_at mark text).0) (members_flat ps (left_by (upto name kind mark) text))
members_flat (upto_last name kind mark ∷ ps) (Some text) =
    one_more _ _ (value_depth kind (cut_last mark text).0) (members_flat ps (left_by (upto_last name kind mark) text))
members_flat (rest name kind ∷ ps) (Some text) = one_more _ _ (value_depth kind text) (members_flat ps (Some text))
members_flat (past mark ∷ ps) (Some text) = members_flat ps (left_by (past mark) text)
members_flat (is name b ∷ ps) (Some text) = one_more 0 _ (omega arith) (members_flat ps (Some text))

-- strings have no wrong number
string_items : (ss : List (List ℕ)) → ItemsHaveNumbers (strings ss)
string_items [] = tt
string_items (s ∷ ss) = (tt, string_items ss)

-- nor have rights
string_members : (ws : List (List ℕ)) → MembersHaveNumbers (rights_of ws)
string_members [] = tt
string_members (w ∷ ws) = (tt, string_members ws)

-- a text that passes the test is a number
number_by_test : (text : List ℕ) → is_number text ≡ true → IsNumber text
number_by_test text passes = by_left (after_number text) passes
  where
    by_left : (o : Option (List ℕ)) → option_map_or (λ (left : List ℕ). length left == 0) o false ≡ true → o ≡ Some []
    by_left None so = absurd (false≢true so)
    by_left (Some left) so = ap Some (nil_from_length left (eqb-true (length left) 0 so))

-- the number of a value is one
right_number : (b : Bool) (text : List ℕ) → (b ≡ true → IsNumber text) → HasNumbers (if b then number text else string text)
right_number true text so = so refl
right_number false text so = tt

value_numbers : (kind : Kind) (text : List ℕ) → HasNumbers (value_of kind text)
value_numbers kinds.Text text = tt
value_numbers kinds.Number text = right_number (is_number text) text (number_by_test text)
value_numbers kinds.Names text = string_items (names_in text)
value_numbers kinds.Holders text = string_items (holders_in text)
value_numbers kinds.Rights text = string_members (words_of text)

members_numbers : (ps : List Part) (left : Option (List ℕ)) → MembersHaveNumbers (members_of ps left)
unfolding members_of
members_numbers [] left = tt
members_numbers (p ∷ ps) None = tt
members_numbers (upto name kind mark ∷ ps) (Some text) =
    (value_numbers kind (cut_at mark text).0, members_numbers ps (left_by (upto name kind mark) text))
members_numbers (upto_last name kind mark ∷ ps) (Some text) =
    (value_numbers kind (cut_last mark text).0, members_numbers ps (left_by (upto_last name kind mark) text))
members_numbers (rest name kind ∷ ps) (Some text) = (value_numbers kind text, members_numbers ps (Some text))
members_numbers (past mark ∷ ps) (Some text) = members_numbers ps (left_by (past mark) text)
members_numbers (is name b ∷ ps) (Some text) = (tt, members_numbers ps (Some text))

-- what is written for a line reads back as its fact
fact_reads : (form : Form) (line : List ℕ) → document (print (json_tokens (fact_of form line))) ≡ Some (fact_of form line)
fact_reads form line =
    let text = as_text line in
    let parts = parts_of form text in
    document-print (fact_of form line) (members_numbers parts (Some text)) (omega (arith, members_flat parts (Some text)))

-- what is written for a line, with what is behind it, is one line and those of that
fact_first : (form : Form) (line behind : List ℕ) → lines_of (fact_line form line ++ behind) ≡ print (json_tokens (fact_of form line))
    ∷ lines_of behind
fact_first form line behind =
    let text = as_text line in
    let printed = print (json_tokens (fact_of form line)) in
    let printable = ArePrintable-json_tokens (fact_of form line) (members_numbers (parts_of form text) (Some text)) in
    ap lines_of (append_assoc printed (10 ∷ []) behind) ∙ line_back printed behind (print_line false (json_tokens (fact_of form line)) printable)

-- what is written for lines are their facts
pub lines_are_facts : (form : Form) (lines : List (List ℕ)) → AreFacts form lines (lines_of (flat_map (fact_line form) lines))
unfolding lines_of
lines_are_facts form [] = tt
lines_are_facts form (line ∷ lines) =
    subst (AreFacts form (line ∷ lines)) (sym (fact_first form line (flat_map (fact_line form) lines)))
    (fact_reads form line, lines_are_facts form lines)

-- the last line that is written has its end
pub facts_end : (form : Form) (lines : List (List ℕ)) → EndsItsLines (flat_map (fact_line form) lines)
facts_end form [] = inl refl
facts_end form (line ∷ lines) =
    let printed = print (json_tokens (fact_of form line)) in
    elim (facts_end form lines) [
      | inl none ↦ inr (printed, ap (λ t. fact_line form line ++ t) none ∙ append-nil (fact_line form line))
      | inr more ↦ inr
          (fact_line form line ++ more.0, ap (λ t. fact_line form line ++ t) more.1 ∙ sym (append_assoc (fact_line form line) more.0 (10 ∷ [])))
    ]
