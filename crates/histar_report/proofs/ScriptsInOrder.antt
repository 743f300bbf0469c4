-- Whatever a run of a script writes follows its replies.
use Rattle.std.proofs.Common.{◌≡◌, ℕ, ◌≤◌, Bool, true, false, ◌&&◌, List, [], ◌∷◌, ◌++◌, length, map, Option}
use Rattle.std.proofs.Common.{refl, sym, ap, ap₂, subst, ◌∙◌, arith, append_assoc, append-nil}
use Rattle.std.specs.Prelude.{codes, decimal}
use Rattle.std.specs.List.{AllByRecursion, list_all}
use Rattle.std.proofs.lemmas.Fmt.{decimal_digit}
use Rattle.std.proofs.lemmas.List.{map-append}
use Rattle.std.proofs.lemmas.List.Concat.{flat_map-append}
use Rattle.histar_flat.specs.declared.calls.CallLine.{CallLine}
use Rattle.histar_flat.specs.Accounts.{Accounts}
use Rattle.histar_flat.specs.FlatState.{Flat}
use Rattle.histar_flat.specs.FlatCalls.{flat_after, reply_to}
use Rattle.histar_flat.specs.Meaning.{RepliedCall, answered_from, boot}
use Rattle.histar_flat.specs.Texts.{reply_text}
use Rattle.histar_object.specs.State.{State}
use Rattle.histar_trace.specs.declared.entries.TraceEntry.{TraceEntry}
use Rattle.histar_script.specs.Lines.{lines_of, most_script_lines}
use Rattle.histar_script.specs.Script.{ScriptModel}
use Rattle.histar_layout.specs.UserTable.{without_passwords}
use Rattle.histar_programs.specs.Start.{roots_of, boot_thread_number}
use Rattle.histar_rawtext.specs.RawText.{trace_text}
use Rattle.histar_shell.specs.Answers.{answer_text, answers_text}
use Rattle.histar_syscall.specs.Runs.{IsBy}
use Rattle.histar_names.specs.Births.{Births}
use Rattle.histar_names.specs.Clues.{clue_of}
use Rattle.histar_run_explain.specs.Run.{ExplainsCallLines, ExplainsTrace, births_of, words_of}
use Rattle.histar_page.specs.Lines.{is_own}
use Rattle.histar_page.specs.Order.{Follow, FollowsReplies, reply_numbers}
use Rattle.histar_report.proofs.StateTexts.{IsLined, IsLinedCall, after_lined, boot_lined}
use Rattle.histar_report.proofs.ReplyTexts.{reply_lined}
use Rattle.histar_report.proofs.CallTexts.{AreLinedNames, IsLinedScript, first_lined}
use Rattle.histar_report.proofs.TextLines.{all_more, with_ends}
use Rattle.histar_report.proofs.MarkedLines.{HasKind, first_word, has_number, raw_kind, reply_kind, why_kind}
use Rattle.histar_report.proofs.RawTexts.{raw_line, raw_line_lined, raw_line_marked, trace_lines}
use Rattle.histar_report.proofs.WhyLines.{Explains, entries_made}
use Rattle.histar_report.proofs.WordTexts.{no_passwords, words_lined}
use Rattle.histar_report.proofs.LinesInOrder.{each_so, follows}

-- two tests that pass pass together
both : (a b : Bool) → a ≡ true → b ≡ true → (a && b) ≡ true
both a b one two = rw (one, two) refl

-- the numbers of call lines
abbrev call_numbers : List CallLine → List (List ℕ)
call_numbers calls = map (λ (c : CallLine). decimal c.line) calls

-- ---- replies

-- the line of a reply, without its end
abbrev reply_line : RepliedCall → List ℕ
reply_line a = decimal a.call.line ++ 32 ∷ reply_text a.reply

-- the answers are made of these lines
answers_made : (answers : List RepliedCall) → answers_text answers ≡ with_ends (map reply_line answers)
answers_made [] = refl
answers_made (a ∷ answers) = λ i. same i ++ answers_made answers i
  where
    same : answer_text a ≡ reply_line a ++ codes "\n"
    same = simp append_assoc

-- these lines are replies, with the numbers of these calls
record AreReplies (calls : List CallLine) (lines : List (List ℕ)) : Type 0 where
  kinds : AllByRecursion (HasKind true false false) lines
  numbers : reply_numbers lines ≡ call_numbers calls

-- so are those to the calls of a script
replies_are : (accounts : Accounts) (f : Flat) (calls : List CallLine) → IsLined f → AllByRecursion (λ (c : CallLine). IsLinedCall c.call) calls
    → AllByRecursion (λ (c : CallLine). c.line ≤ most_script_lines) calls
    → AreReplies calls (map reply_line (answered_from accounts f calls))
replies_are accounts f [] lined texts few = record { kinds = tt; numbers = refl }
replies_are accounts f (c ∷ calls) lined texts few =
    let text = reply_text (reply_to accounts f c.process c.call) in
    let later =
    replies_are accounts (flat_after accounts f c.process c.call) calls (after_lined accounts f c.process c.call lined texts.0) texts.1 few.1 in
    record {
      kinds = (reply_kind c.line text few.0 (reply_lined accounts f c.process c.call lined), later.kinds);
      numbers =
          ap₂ (λ (word : List ℕ) (words : List (List ℕ)). word ∷ words)
          (ap (λ (parts : List ℕ × Option (List ℕ)). parts.0) (first_word c.line text few.0)) later.numbers;
    }

-- ---- raw calls

-- the lines of a trace are raw calls
raws_are : (entries : List TraceEntry) → AllByRecursion (HasKind false true false) (map raw_line entries)
raws_are [] = tt
raws_are (e ∷ entries) = (raw_kind e.line (raw_line e) (raw_line_lined e) (raw_line_marked e), raws_are entries)

-- those of one line have its number
own_calls : (n : ℕ) (entries : List TraceEntry) → AllByRecursion (λ (e : TraceEntry). e.line ≡ n) entries
    → list_all (is_own (decimal n)) (map raw_line entries) ≡ true
own_calls n [] all = refl
own_calls n (e ∷ entries) all =
    both (is_own (decimal n) (raw_line e)) (list_all (is_own (decimal n)) (map raw_line entries))
    (subst (λ (k : ℕ). is_own (decimal k) (raw_line e) ≡ true) all.0 (has_number 64 e.line (raw_line e) (raw_line_marked e)))
    (own_calls n entries all.1)

-- ---- explanations

-- lines that explain entries of one line have its number
own_whys : (n : ℕ) (lines : List (List ℕ)) → AllByRecursion (Explains n) lines
    → list_all (is_own (decimal n)) lines ≡ true
own_whys n [] all = refl
own_whys n (line ∷ lines) all =
    both (is_own (decimal n) line) (list_all (is_own (decimal n)) lines) (has_number 63 n line all.0.marked) (own_whys n lines all.1)

-- they are explanations
whys_are : (n : ℕ) (lines : List (List ℕ)) → AllByRecursion (Explains n) lines
    → AllByRecursion (HasKind false false true) lines
whys_are n = each_so (Explains n) (HasKind false false true) (λ line is. why_kind n line is.one is.marked)

-- ---- the lines of a script

-- The raw calls follow the numbers of the calls, and the text is made of explanations that follow these too.
record CallsFollow (calls : List CallLine) (raws : List (List ℕ)) (text : List ℕ) : Type 0 where
  whys : List (List ℕ)
  made : text ≡ with_ends whys
  kinds : AllByRecursion (HasKind false false true) whys
  raw : Follow (call_numbers calls) raws
  why : Follow (call_numbers calls) whys

module _ (accounts : Accounts) (names : AreLinedNames accounts) where
  -- so it is with the entries of call lines and what explains them
  calls_follow : (s : State) (f : Flat) (births : Births) (calls : List CallLine) (entries : List TraceEntry) (text : List ℕ)
      → AllByRecursion (λ (c : CallLine). IsLinedCall c.call) calls
      → (end : State) × ExplainsCallLines accounts s f births calls entries text end → CallsFollow calls (map raw_line entries) text
  calls_follow s f births [] entries text texts is =
      record { whys = []; made = is.1.1; kinds = tt; raw = ap (map raw_line) is.1.0; why = refl }
  calls_follow s f births (asked ∷ more) entries text texts (end, (own, later, mid, lines, rest, entries_are, text_is, line, explained, further)) =
      let born = births_of accounts mid asked births in
      let words = words_lined (without_passwords accounts) (no_passwords accounts names) (roots_of (length accounts.users)) mid
      (clue_of asked.process asked.call) born texts.0.0 in
      let numbered = each_so _ (λ (e : TraceEntry). e.line ≡ asked.line) (λ e by_line. by_line.0) own line.line.own in
      let here = entries_made (words_of accounts mid asked born) words asked.line s own lines mid numbered explained in
      let there = calls_follow mid (flat_after accounts f asked.process asked.call) born more later rest texts.1 (end, further) in
      record {
        whys = here.lines ++ there.whys;
        made =
            text_is ∙ ap₂ (λ (a b : List ℕ). a ++ b) here.parts there.made
            ∙ sym (flat_map-append (λ (line : List ℕ). line ++ codes "\n") here.lines there.whys);
        kinds = all_more (HasKind false false true) here.lines there.whys (whys_are asked.line here.lines here.are) there.kinds;
        raw = (
          map raw_line own,
          map raw_line later,
          ap (map raw_line) entries_are ∙ map-append raw_line own later,
          own_calls asked.line own numbered,
          there.raw,
        );
        why = (here.lines, there.whys, refl, own_whys asked.line here.lines here.are, there.why);
      }

-- ---- a script

module _ (script : ScriptModel) (lined : IsLinedScript script) (trace : List TraceEntry) (text : List ℕ)
    (explains : ExplainsTrace script trace text)
  where
    -- the raw calls of the lines and what explains them
    calls : CallsFollow script.calls (map raw_line explains.recorded.of_lines) text
    calls =
        calls_follow script.accounts lined.names explains.recorded.start (boot script.accounts) [] script.calls explains.recorded.of_lines text
        lined.calls (explains.recorded.end, explains.refinements)

    -- the lines of the replies are replies
    are_replies : AreReplies script.calls (map reply_line (answered_from script.accounts (boot script.accounts) script.calls))
    are_replies =
        replies_are script.accounts (boot script.accounts) script.calls (boot_lined script.accounts (first_lined script.accounts lined.names))
        lined.calls lined.few

    -- the raw calls of boot have the number 0
    boot_own : list_all (is_own (codes "0")) (map raw_line explains.recorded.of_boot) ≡ true
    boot_own =
        subst (λ (word : List ℕ). list_all (is_own word) (map raw_line explains.recorded.of_boot) ≡ true) (decimal_digit 0 (omega arith))
        (own_calls 0 explains.recorded.of_boot
        (each_so (IsBy 0 boot_thread_number) (λ (e : TraceEntry). e.line ≡ 0) (λ e by_boot. by_boot.0) explains.recorded.of_boot
        explains.recorded.boot_own))

    -- Whatever a run of the script writes follows its replies.
    pub script_follows : (output : List ℕ)
        → output ≡ ((answers_text (answered_from script.accounts (boot script.accounts) script.calls) ++ []) ++ trace_text trace) ++ text
        → FollowsReplies (lines_of output)
    script_follows output is =
        follows (map reply_line answers) (map raw_line trace) calls.whys are_replies.kinds (raws_are trace) calls.kinds output
        (is ∙ made) (
          map raw_line explains.recorded.of_boot,
          map raw_line explains.recorded.of_lines,
          ap (map raw_line) explains.recorded.parts ∙ map-append raw_line explains.recorded.of_boot explains.recorded.of_lines,
          boot_own,
          subst (λ (numbers : List (List ℕ)). Follow numbers (map raw_line explains.recorded.of_lines)) (sym are_replies.numbers) calls.raw,
        )
        (subst (λ (numbers : List (List ℕ)). Follow numbers calls.whys) (sym are_replies.numbers) calls.why)
      where
        answers : List RepliedCall
        answers = answered_from script.accounts (boot script.accounts) script.calls

        made : ((answers_text answers ++ []) ++ trace_text trace) ++ text
            ≡ with_ends (map reply_line answers) ++ (with_ends (map raw_line trace) ++ with_ends calls.whys)
        made =
            append_assoc (answers_text answers ++ []) (trace_text trace) text
            ∙ ap (λ (l : List ℕ). l ++ (trace_text trace ++ text)) (append-nil (answers_text answers))
            ∙ (λ i. answers_made answers i ++ (trace_lines trace i ++ calls.made i))
