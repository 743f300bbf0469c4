-- The lines of an output: the replies, then the raw calls, then the explanations, each with their kinds.
use Rattle.std.proofs.Common.{◌≡◌, ℕ, Bool, true, false, cond, List, [], ◌∷◌, ◌++◌}
use Rattle.std.proofs.Common.{refl, sym, ap, subst, ◌∙◌, append-nil}
use Rattle.std.specs.Prelude.{codes, filter}
use Rattle.std.specs.List.{AllByRecursion}
use Rattle.std.proofs.lemmas.List.Elements.{filter-append}
use Rattle.histar_script.specs.Lines.{lines_of}
use Rattle.histar_page.specs.Lines.{is_explanation, is_raw_call, is_reply}
use Rattle.histar_page.specs.Order.{Follow, FollowsReplies, reply_numbers}
use Rattle.histar_report.proofs.OneLines.{IsOneLine}
use Rattle.histar_report.proofs.TextLines.{all_back, ends_back, with_ends}
use Rattle.histar_report.proofs.MarkedLines.{HasKind}

-- lines that answer a test alike
alike : (test : List ℕ → Bool) (answer : Bool) (lines : List (List ℕ)) → AllByRecursion (λ (line : List ℕ). test line ≡ answer) lines
    → filter test lines ≡ cond answer lines []
alike test true [] all = refl
alike test false [] all = refl
alike test true (line ∷ lines) all = rw all.0 (ap (λ (ls : List (List ℕ)). line ∷ ls) (alike test true lines all.1))
alike test false (line ∷ lines) all = rw all.0 (alike test false lines all.1)

-- what follows of each element
pub each_so : {X : Type 0} (P Q : X → Type 0) → ((x : X) → P x → Q x) → (xs : List X) → AllByRecursion P xs → AllByRecursion Q xs
each_so P Q so [] all = tt
each_so P Q so (x ∷ xs) all = (so x all.0, each_so P Q so xs all.1)

module _ (reply raw why : Bool) (lines : List (List ℕ)) (all : AllByRecursion (HasKind reply raw why) lines) where
  -- lines of a kind are lines
  pub are_lines : AllByRecursion IsOneLine lines
  are_lines = each_so (HasKind reply raw why) IsOneLine (λ line kind. kind.one) lines all

  -- the replies among lines of a kind
  replies_among : filter is_reply lines ≡ cond reply lines []
  replies_among = alike is_reply reply lines
      (each_so (HasKind reply raw why) (λ line. is_reply line ≡ reply) (λ line kind. kind.replies) lines all)

  -- the raw calls among them
  calls_among : filter is_raw_call lines ≡ cond raw lines []
  calls_among = alike is_raw_call raw lines (each_so (HasKind reply raw why) (λ line. is_raw_call line ≡ raw) (λ line kind. kind.calls) lines all)

  -- the explanations among them
  explanations_among : filter is_explanation lines ≡ cond why lines []
  explanations_among =
      alike is_explanation why lines (each_so (HasKind reply raw why) (λ line. is_explanation line ≡ why) (λ line kind. kind.explains) lines all)

-- three kinds of lines, one after the other
module _ (replies calls whys : List (List ℕ)) (are_replies : AllByRecursion (HasKind true false false) replies)
    (are_calls : AllByRecursion (HasKind false true false) calls) (are_whys : AllByRecursion (HasKind false false true) whys)
  where
    -- a text that is made of them has these lines
    all_lines : (output : List ℕ) → output ≡ with_ends replies ++ (with_ends calls ++ with_ends whys)
        → lines_of output ≡ replies ++ (calls ++ whys)
    all_lines output is =
        ap lines_of is ∙ ends_back replies (with_ends calls ++ with_ends whys) (are_lines true false false replies are_replies)
        ∙ ap (λ (ls : List (List ℕ)). replies ++ ls)
        (ends_back calls (with_ends whys) (are_lines false true false calls are_calls)
        ∙ ap (λ (ls : List (List ℕ)). calls ++ ls) (all_back whys (are_lines false false true whys are_whys)))

    -- a test of all lines
    tested : (test : List ℕ → Bool)
        → filter test (replies ++ (calls ++ whys)) ≡ filter test replies ++ (filter test calls ++ filter test whys)
    tested test =
        filter-append test replies (calls ++ whys) ∙ ap (λ (ls : List (List ℕ)). filter test replies ++ ls) (filter-append test calls whys)

    -- the replies
    the_replies : filter is_reply (replies ++ (calls ++ whys)) ≡ replies
    the_replies =
        tested is_reply
        ∙ (λ i. replies_among true false false replies are_replies i
        ++ (replies_among false true false calls are_calls i ++ replies_among false false true whys are_whys i))
        ∙ append-nil replies

    -- the raw calls
    the_calls : filter is_raw_call (replies ++ (calls ++ whys)) ≡ calls
    the_calls =
        tested is_raw_call
        ∙ (λ i. calls_among true false false replies are_replies i
        ++ (calls_among false true false calls are_calls i ++ calls_among false false true whys are_whys i))
        ∙ append-nil calls

    -- the explanations
    the_whys : filter is_explanation (replies ++ (calls ++ whys)) ≡ whys
    the_whys =
        tested is_explanation
        ∙ (λ i. explanations_among true false false replies are_replies i
        ++ (explanations_among false true false calls are_calls i ++ explanations_among false false true whys are_whys i))

    -- Such a text follows its replies, if the raw calls and the explanations follow their numbers.
    pub follows : (output : List ℕ) → output ≡ with_ends replies ++ (with_ends calls ++ with_ends whys)
        → Follow (codes "0" ∷ reply_numbers replies) calls → Follow (reply_numbers replies) whys → FollowsReplies (lines_of output)
    follows output is raw why =
        subst FollowsReplies (sym (all_lines output is)) (record {
          raw_calls =
              subst (λ (ls : List (List ℕ)). Follow (codes "0" ∷ reply_numbers ls) (filter is_raw_call (replies ++ (calls ++ whys))))
              (sym the_replies) (subst (Follow (codes "0" ∷ reply_numbers replies)) (sym the_calls) raw);
          explanations =
              subst (λ (ls : List (List ℕ)). Follow (reply_numbers ls) (filter is_explanation (replies ++ (calls ++ whys)))) (sym the_replies)
              (subst (Follow (reply_numbers replies)) (sym the_whys) why);
        })
