-- Reading the lines of a session one by one.
use Rattle.std.proofs.Common.{◌≡◌, ℕ, ◌+◌, true, List, [], ◌∷◌, ◌++◌, length, refl, sym, ap, subst, ◌∙◌, inl, inr, arith, append_assoc, append-nil}
use Rattle.histar_script.specs.declared.fault.Fault.{Fault}
use Rattle.histar_script.specs.declared.fault.Fault.TheVariants.{BadScript, TooLong, OutOfMemory, ReadFailed, WriteFailed}
use Rattle.histar_script.specs.Lines.{lines_of}
use Rattle.histar_raw_session.specs.declared.read_session.RawLine.{RawLine}
use Rattle.histar_raw_session.specs.Session.{is_comment, SaysCall, IsBadLine, SayCalls, IsFirstBadLine, IsBadLineOf}

-- this many lines of the text were read, which contain these calls, and the rest was not
pub record IsReadSoFar (text rest : List ℕ) (count : ℕ) (calls : List RawLine) : Type 0 where
  pub before : List (List ℕ)
  pub parts : lines_of text ≡ before ++ lines_of rest
  pub says : SayCalls 0 before calls
  pub counted : count ≡ length before

-- one more comment contains no call
comment_more : (n : ℕ) (before : List (List ℕ)) (line : List ℕ) (calls : List RawLine) → SayCalls n before calls
    → is_comment line ≡ true → SayCalls n (before ++ line ∷ []) calls
comment_more n [] line calls says comment = inl (comment, says)
comment_more n (first ∷ before) line calls (inl says) comment = inl (says.0, comment_more (n + 1) before line calls says.1 comment)
comment_more n (first ∷ before) line calls (inr says) comment =
    inr (says.0, says.1, says.2, says.3, comment_more (n + 1) before line says.1 says.4 comment)

-- one more line contains one more call
call_more : (n k : ℕ) (before : List (List ℕ)) (line : List ℕ) (calls : List RawLine) (asked : RawLine)
    → SayCalls n before calls → k ≡ n + length before + 1 → SaysCall k line asked
    → SayCalls n (before ++ line ∷ []) (calls ++ asked ∷ [])
call_more n k [] line calls asked says place one =
    let here : k ≡ n + 1 = omega (arith, place) in
    inr (asked, [], ap (λ (l : List RawLine). l ++ asked ∷ []) says, subst (λ (j : ℕ). SaysCall j line asked) here one, refl)
call_more n k (first ∷ before) line calls asked (inl says) place one =
    inl (says.0, call_more (n + 1) k before line calls asked says.1 (omega (arith, place)) one)
call_more n k (first ∷ before) line calls asked (inr says) place one =
    inr (
      says.0,
      says.1
          ++ asked
          ∷ [],
      ap (λ (l : List RawLine). l ++ asked ∷ []) says.2,
      says.3,
      call_more (n + 1) k before line says.1
          asked says.4 (omega (arith, place)) one,
    )

-- the lines of the text, after one more was read
line_more : (text : List ℕ) (before : List (List ℕ)) (line : List ℕ) (lines rest : List (List ℕ))
    → lines_of text ≡ before ++ lines → lines ≡ line ∷ rest → lines_of text ≡ (before ++ line ∷ []) ++ rest
line_more text before line lines rest parts is = parts ∙ ap (λ (l : List (List ℕ)). before ++ l) is ∙ sym (append_assoc before (line ∷ []) rest)

-- a comment was read
pub read_comment : (text rest after line : List ℕ) (count : ℕ) (calls : List RawLine)
    → IsReadSoFar text rest count calls → lines_of rest ≡ line ∷ lines_of after → is_comment line ≡ true
    → IsReadSoFar text after (count + 1) calls
read_comment text rest after line count calls so is comment = record {
  before = so.before ++ line ∷ [];
  parts = line_more text so.before line (lines_of rest) (lines_of after) so.parts is;
  says = comment_more 0 so.before line calls so.says comment;
  counted = let counted = so.counted in let longer = length-push so.before line in omega (arith, counted, longer);
}
  where
    length-push : (lines : List (List ℕ)) (line : List ℕ) → length (lines ++ line ∷ []) ≡ length lines + 1
    length-push [] line = refl
    length-push (l ∷ lines) line = let rest = length-push lines line in omega (arith, rest)

-- a call was read
pub read_one : (text rest after line : List ℕ) (count : ℕ) (calls : List RawLine) (asked : RawLine)
    → IsReadSoFar text rest count calls → lines_of rest ≡ line ∷ lines_of after → SaysCall (count + 1) line asked
    → IsReadSoFar text after (count + 1) (calls ++ asked ∷ [])
read_one text rest after line count calls asked so is one = record {
  before = so.before ++ line ∷ [];
  parts = line_more text so.before line (lines_of rest) (lines_of after) so.parts is;
  says = let counted = so.counted in call_more 0 (count + 1) so.before line calls asked so.says (omega (arith, counted)) one;
  counted = let counted = so.counted in let longer = length-push so.before line in omega (arith, counted, longer);
}
  where
    length-push : (lines : List (List ℕ)) (line : List ℕ) → length (lines ++ line ∷ []) ≡ length lines + 1
    length-push [] line = refl
    length-push (l ∷ lines) line = let rest = length-push lines line in omega (arith, rest)

-- a bad line after the lines that were read is the first one
pub first_bad : (text rest after line : List ℕ) (count : ℕ) (calls : List RawLine) (f : Fault)
    → IsReadSoFar text rest count calls → lines_of rest ≡ line ∷ lines_of after
    → IsBadLineOf (λ n. (n ≡ count + 1) × IsBadLine line) f → IsBadLineOf (IsFirstBadLine text) f
first_bad text rest after line count calls (BadScript n) so is bad = record {
  before = so.before;
  line = line;
  after = lines_of after;
  parts = so.parts ∙ ap (λ (l : List (List ℕ)). so.before ++ l) is;
  place = bad.0 ∙ ap (λ (k : ℕ). k + 1) so.counted;
  calls = calls;
  right = so.says;
  bad = bad.1;
}
first_bad text rest after line count calls TooLong so is bad = absurd bad
first_bad text rest after line count calls OutOfMemory so is bad = tt
first_bad text rest after line count calls ReadFailed so is bad = absurd bad
first_bad text rest after line count calls WriteFailed so is bad = absurd bad

-- before the first line no line was read
pub nothing_read : (text : List ℕ) → IsReadSoFar text text 0 []
nothing_read text = record { before = []; parts = refl; says = refl; counted = refl }

-- where nothing is left all lines were read
pub all_read : (text : List ℕ) (count : ℕ) (calls : List RawLine) (rest : List ℕ) → length rest ≡ 0
    → IsReadSoFar text rest count calls → SayCalls 0 (lines_of text) calls
unfolding lines_of
all_read text count calls [] none so = subst (λ (lines : List (List ℕ)). SayCalls 0 lines calls) (sym (so.parts ∙ append-nil so.before)) so.says
all_read text count calls (b ∷ rest) none so = absurd (omega (arith, none))
