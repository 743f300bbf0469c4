-- An explanation is made of lines, each with the mark of an explanation and the number of its call's line.
use Rattle.std.proofs.Common.{◌≡◌, ℕ, Bool, List, [], ◌∷◌, ◌++◌, Option, None, Some}
use Rattle.std.proofs.Common.{refl, sym, ap, subst, ◌∙◌, append_assoc}
use Rattle.std.specs.Prelude.{codes, decimal}
use Rattle.std.specs.List.{AllByRecursion, flat_map}
use Rattle.histar_level.specs.declared.level.Level.{Level}
use Rattle.histar_object.specs.State.{State}
use Rattle.histar_rules.specs.declared.raw.Denied.{Denied}
use Rattle.histar_trace.specs.declared.entries.TraceEntry.{TraceEntry}
use Rattle.histar_explain.specs.declared.explanations.Act.{Act}
use Rattle.histar_explain.specs.declared.explanations.Obstacle.{Obstacle}
use Rattle.histar_explain.specs.declared.explanations.Explanation.{Explanation}
use Rattle.histar_explain.specs.declared.reasons.Difference.{Difference}
use Rattle.histar_explain.specs.declared.reasons.Party.{Party}
use Rattle.histar_explain.specs.declared.reasons.Reason.{Reason}
use Rattle.histar_raw_explain.specs.Texts.{Words, act_text, all_reason_lines, both_fail, difference_line, elsewhere_line, elsewhere_text}
use Rattle.histar_raw_explain.specs.Texts.{excess_text, explanation_text, obstacle_lines}
use Rattle.histar_raw_explain.specs.Texts.{obstacle_text, opening_text, reason_lines, test_text}
use Rattle.histar_raw_explain.specs.Texts.{unmade_line}
use Rattle.histar_run_explain.specs.Entries.{ExplainsEntries, ExplainsOutcome}
use Rattle.histar_report.proofs.OneLines.{IsOneLine, joined, number_lined}
use Rattle.histar_report.proofs.TextLines.{IsMadeOf, each_lines, more_lines, no_line, one_line}
use Rattle.histar_report.proofs.MarkedLines.{IsMarked}
use Rattle.histar_report.proofs.WhyTexts.{AreLinedWords, act_lined, excess_lined, obstacle_lined, others_lined, test_lined}

-- texts behind a beginning, put together from the right or from the left
placed : (start a b c d e : List ℕ) → (((start ++ a) ++ b) ++ c) ++ (d ++ e) ≡ start ++ ((((a ++ b) ++ c) ++ d) ++ e)
placed start a b c d e =
    sym (append_assoc (((start ++ a) ++ b) ++ c) d e) ∙ ap (λ (l : List ℕ). ((l ++ c) ++ d) ++ e) (append_assoc start a b)
    ∙ ap (λ (l : List ℕ). (l ++ d) ++ e) (append_assoc start (a ++ b) c)
    ∙ ap (λ (l : List ℕ). l ++ e) (append_assoc start ((a ++ b) ++ c) d)
    ∙ append_assoc start (((a ++ b) ++ c) ++ d) e

-- one line that explains something of the line with this number
pub record Explains (n : ℕ) (line : List ℕ) : Type 0 where
  pub one : IsOneLine line
  pub marked : IsMarked 63 n line

-- the two levels of a comparison, and which test they are of
abbrev levels_text : Bool → Party → Party → Level → Level → List ℕ
levels_text both lower upper l m = excess_text lower upper l m ++ test_text both lower upper

-- they are one line
levels_lined : (both : Bool) (lower upper : Party) (l m : Level) → IsOneLine (levels_text both lower upper l m)
levels_lined both lower upper l m =
    joined (excess_text lower upper l m) (test_text both lower upper) (excess_lined lower upper l m) (test_lined both lower upper)

module _ (words : Words) (lined : AreLinedWords words) where
  module _ (n thread : ℕ) (act : Act) where
    -- the beginning of each line
    abbrev opening : List ℕ
    opening = opening_text words n thread act

    -- what it says after its number
    abbrev opened : List ℕ
    opened = words.thread thread ++ codes " may not " ++ act_text words act ++ codes ": "

    -- what a line says after its number is one line
    opened_lined : IsOneLine opened
    opened_lined =
        joined ((words.thread thread ++ codes " may not ") ++ act_text words act) (codes ": ")
        (joined (words.thread thread ++ codes " may not ") (act_text words act)
        (joined (words.thread thread) (codes " may not ") (lined.thread thread) refl) (act_lined words lined act)) refl

    -- the beginning has the mark and the number
    opening_is : opening ≡ 63 ∷ (decimal n ++ 32 ∷ opened)
    opening_is =
        ap (λ (l : List ℕ). 63 ∷ l)
        (ap (λ (l : List ℕ). ((l ++ codes " may not ") ++ act_text words act) ++ codes ": ")
        (append_assoc (decimal n) (codes " ") (words.thread thread))
        ∙ ap (λ (l : List ℕ). (l ++ act_text words act) ++ codes ": ")
        (append_assoc (decimal n) (32 ∷ words.thread thread) (codes " may not "))
        ∙ ap (λ (l : List ℕ). l ++ codes ": ")
        (append_assoc (decimal n) (32 ∷ (words.thread thread ++ codes " may not ")) (act_text words act))
        ∙ append_assoc (decimal n) (32 ∷ ((words.thread thread ++ codes " may not ") ++ act_text words act)) (codes ": "))

    -- a text that is the beginning and more is such a line
    why_line : (text rest : List ℕ) → text ≡ opening ++ (rest ++ codes "\n") → IsOneLine rest → IsMadeOf (Explains n) text
    why_line text rest is one =
        subst (IsMadeOf (Explains n)) (sym (is ∙ same))
        (one_line (Explains n) line (record { one = whole; marked = record { text = opened ++ rest; parts = refl } }))
      where
        line : List ℕ
        line = 63 ∷ (decimal n ++ 32 ∷ (opened ++ rest))

        same : opening ++ (rest ++ codes "\n") ≡ line ++ codes "\n"
        same =
            ap (λ (l : List ℕ). l ++ (rest ++ codes "\n")) opening_is
            ∙ ap (λ (l : List ℕ). 63 ∷ l)
            (append_assoc (decimal n) (32 ∷ opened) (rest ++ codes "\n")
            ∙ ap (λ (l : List ℕ). decimal n ++ 32 ∷ l) (sym (append_assoc opened rest (codes "\n")))
            ∙ sym (append_assoc (decimal n) (32 ∷ (opened ++ rest)) (codes "\n")))

        whole : IsOneLine line
        whole = joined (decimal n) (32 ∷ (opened ++ rest)) (number_lined n) (joined opened rest opened_lined one)

    -- a category that was never made
    unmade_made : (c : ℕ) → IsMadeOf (Explains n) (unmade_line words opening c)
    unmade_made c =
        why_line (unmade_line words opening c) (words.category c ++ codes " was never made")
        (append_assoc opening (words.category c) (codes " was never made\n")
        ∙ ap (λ (l : List ℕ). opening ++ l) (sym (append_assoc (words.category c) (codes " was never made") (codes "\n"))))
        (joined (words.category c) (codes " was never made") (lined.category c) refl)

    -- a category at which a comparison fails
    difference_made : (both : Bool) (lower upper : Party) (d : Difference)
        → IsMadeOf (Explains n) (difference_line words opening both lower upper d)
    difference_made both lower upper d =
        why_line (difference_line words opening both lower upper d)
        ((codes "at " ++ words.category d.category ++ codes " ") ++ (levels_text both lower upper d.lower d.upper))
        (placed opening (codes "at ") (words.category d.category) (codes " ") (levels_text both lower upper d.lower d.upper)
        (codes "\n"))
        (joined (codes "at " ++ words.category d.category ++ codes " ") (levels_text both lower upper d.lower d.upper)
        (joined (words.category d.category) (codes " ") (lined.category d.category) refl) (levels_lined both lower upper d.lower d.upper))

    -- all other categories
    elsewhere_made : (both : Bool) (r : Reason) (o : Option (Level × Level)) → IsMadeOf (Explains n) (elsewhere_line words opening both r o)
    elsewhere_made both r None = no_line (Explains n)
    elsewhere_made both r (Some levels) =
        why_line (elsewhere_line words opening both r (Some levels))
        ((codes "at all categories " ++ elsewhere_text words r.spared.items ++ codes ": ")
        ++ (levels_text both r.lower r.upper levels.0 levels.1))
        (placed opening (codes "at all categories ") (elsewhere_text words r.spared.items) (codes ": ")
        (levels_text both r.lower r.upper levels.0 levels.1) (codes "\n"))
        (joined (codes "at all categories " ++ elsewhere_text words r.spared.items ++ codes ": ")
        (levels_text both r.lower r.upper levels.0 levels.1)
        (joined (elsewhere_text words r.spared.items) (codes ": ") (others_lined words lined r.spared.items) refl)
        (levels_lined both r.lower r.upper levels.0 levels.1))

    -- a reason
    reason_made : (both : Bool) (r : Reason) → IsMadeOf (Explains n) (reason_lines words opening both r)
    reason_made both r =
        more_lines (Explains n) (flat_map (difference_line words opening both r.lower r.upper) r.named.items)
        (elsewhere_line words opening both r r.elsewhere)
        (each_lines (Explains n) (difference_line words opening both r.lower r.upper) r.named.items (difference_made both r.lower r.upper))
        (elsewhere_made both r r.elsewhere)

    -- an obstacle
    obstacle_made : (o : Option Obstacle) → IsMadeOf (Explains n) (obstacle_lines opening o)
    obstacle_made None = no_line (Explains n)
    obstacle_made (Some obstacle) =
        why_line (obstacle_lines opening (Some obstacle)) (obstacle_text obstacle) (append_assoc opening (obstacle_text obstacle) (codes "\n"))
        (obstacle_lined obstacle)

  -- an explanation
  explanation_made : (n thread : ℕ) (x : Explanation) → IsMadeOf (Explains n) (explanation_text words n thread x)
  explanation_made n thread x =
      more_lines (Explains n) (flat_map (unmade_line words start) x.unmade.items ++ all_reason_lines words start x.reasons.items)
      (obstacle_lines start x.obstacle)
      (more_lines (Explains n) (flat_map (unmade_line words start) x.unmade.items) (all_reason_lines words start x.reasons.items)
      (each_lines (Explains n) (unmade_line words start) x.unmade.items (unmade_made n thread x.act))
      (each_lines (Explains n) (reason_lines words start (both_fail x.reasons.items)) x.reasons.items
      (reason_made n thread x.act (both_fail x.reasons.items))))
      (obstacle_made n thread x.act x.obstacle)
    where
      start : List ℕ
      start = opening n thread x.act

  -- what explains the outcome of a call
  outcome_made : (n : ℕ) (s : State) (e : TraceEntry) (denied : Option Denied) (text : List ℕ) → e.line ≡ n
      → ExplainsOutcome words s e denied text
      → IsMadeOf (Explains n) text
  outcome_made n s e None text own none = subst (IsMadeOf (Explains n)) (sym none) (no_line (Explains n))
  outcome_made n s e (Some denied) text own is =
      subst (λ (line : ℕ). IsMadeOf (Explains line) text) own
      (subst (IsMadeOf (Explains e.line)) (sym is.2) (explanation_made e.line e.thread is.0))

  -- what explains the entries of a line is made of lines with its number
  pub entries_made : (n : ℕ) (s : State) (entries : List TraceEntry) (text : List ℕ) (last : State)
      → AllByRecursion (λ (e : TraceEntry). e.line ≡ n) entries → ExplainsEntries words s entries text last → IsMadeOf (Explains n) text
  entries_made n s [] text last own is = subst (IsMadeOf (Explains n)) (sym is.0) (no_line (Explains n))
  entries_made n s (e ∷ entries) text last own is =
      subst (IsMadeOf (Explains n)) (sym is.4)
      (more_lines (Explains n) is.1 is.2 (outcome_made n s e e.denied is.1 own.0 is.3.explains) (entries_made n is.0 entries is.2 last own.1 is.5))
