-- A session that is right answers a line as it should, and stays right.
use Rattle.std.proofs.Common.{◌≡◌, ℕ, ◌+◌, ◌<◌, ◌≤◌, Bool, true, false, List}
use Rattle.std.proofs.Common.{[], ◌∷◌, ◌++◌, length, Option, None, Some, Result, Ok, Err}
use Rattle.std.proofs.Common.{refl, sym, ap, subst, ◌∙◌, inl, inr, arith, append-nil}
use Rattle.std.proofs.lemmas.Bool.{false≢true, le-ltb, lt-ltb, ltb-true}
use Rattle.std.proofs.lemmas.List.Elements.{All-head, All-tail}
use Rattle.std.specs.Prelude.{All, IfSome, IsOk, IsTrue, MatchBool, is_some, nat_lt}
use Rattle.histar_flat.specs.declared.calls.CallLine.{CallLine}
use Rattle.histar_flat.specs.declared.calls.UnixCall.{UnixCall}
use Rattle.histar_flat.specs.Accounts.{Accounts}
use Rattle.histar_flat.specs.FlatState.{Flat}
use Rattle.histar_flat.specs.FlatCalls.{flat_after}
use Rattle.histar_flat.specs.Meaning.{boot, flat_end}
use Rattle.histar_flat.specs.Words.{ProcName}
use Rattle.histar_flat.proofs.Laws.{states_go_on}
use Rattle.histar_script.specs.declared.fault.Fault.{Fault}
use Rattle.histar_script.specs.declared.fault.Fault.TheVariants.{BadScript}
use Rattle.histar_script.specs.declared.items.Item.{Item}
use Rattle.histar_script.specs.declared.items.Item.TheVariants as items
use Rattle.histar_script.specs.Grammar.{Adds}
use Rattle.histar_script.specs.Laws.{EndsItsLines}
use Rattle.histar_script.specs.Lines.{lines_of}
use Rattle.histar_script.specs.Script.{ScriptModel, is_declared_call}
use Rattle.histar_script.specs.Reading.{item_of, script_of}
use Rattle.histar_dialogue.specs.declared.running.Running.{Running}
use Rattle.histar_dialogue.specs.declared.session.Session.{Session}
use Rattle.histar_dialogue.specs.Running.{Ran, Represents, answer_text, answers_behind, said_behind}
use Rattle.histar_dialogue.specs.Session.{AnswersLine, AnswersRead, AnswersText, FollowsBy, IsBegun, IsNew, IsRight, IsRunning, talk_of}
use Rattle.histar_dialogue.specs.Shelf.{Saved}
use Rattle.histar_dialogue.specs.Talk.{with_text}
use Rattle.histar_dialogue.specs.Steps.{AnswersOn, IsPushed, IsRestarted, MayGrow, Refuses}
use Rattle.histar_dialogue.specs.Texts.{SaysRule, with_line}
use Rattle.histar_dialogue.proofs.Fronts.{joined_ends}
use Rattle.histar_dialogue.proofs.InputLines.{nothing_left}
use Rattle.histar_dialogue.proofs.MoreLines.{ends_then, has_users, lacks_user, nothing_is_bad, numbered_by, one_line_more, room_for, script_then}

-- ---- the answers to the last call

-- each call is on one of the first lines
abbrev AreFirst : ℕ → List CallLine → Type 0
AreFirst first calls = All (λ c. (0 < c.line) × (c.line ≤ first)) calls

module _ (first : ℕ) (accounts : Accounts) where
  -- calls on the first lines have no answer behind these
  none_behind : (f : Flat) (calls : List CallLine) → AreFirst first calls → answers_behind first accounts f calls ≡ []
  none_behind f [] here = refl
  none_behind f (c ∷ calls) here =
      rw (le-ltb first c.line (All-head (λ (d : CallLine). (0 < d.line) × (d.line ≤ first)) c calls here).1)
      (none_behind (flat_after accounts f c.process c.call) calls (All-tail (λ (d : CallLine). (0 < d.line) × (d.line ≤ first)) c calls here))

  -- a call behind them has its answer
  last_behind : (f : Flat) (calls : List CallLine) (c : CallLine) → AreFirst first calls → first < c.line
      → answers_behind first accounts f (calls ++ c ∷ []) ≡ answer_text accounts (flat_end accounts f calls) c
  last_behind f [] c here lt = rw (lt-ltb first c.line lt) (append-nil (answer_text accounts f c))
  last_behind f (d ∷ calls) c here lt =
      rw (le-ltb first d.line (All-head (λ (e : CallLine). (0 < e.line) × (e.line ≤ first)) d calls here).1)
      (last_behind (flat_after accounts f d.process d.call) calls c
      (All-tail (λ (e : CallLine). (0 < e.line) × (e.line ≤ first)) d calls here) lt)

-- ---- a session of which no line was taken back

-- the text of a session is a script, or has no user as yet
pub begun : (text : List ℕ) (found : Option Running) → IsRunning text found → IsBegun text
begun text None runs = inr runs
begun text (Some r) runs = inl (subst IsOk (sym runs.1.is_script) refl)

-- with no line behind it it is the same
whole_alone : (text undone : List ℕ) (found : Option Running) → IsRunning text found → undone ≡ [] → IsBegun (text ++ undone)
whole_alone text undone found runs none =
    subst IsBegun (sym (ap (λ (l : List ℕ). text ++ l) none ∙ append-nil text)) (begun text found runs)

-- ---- a line that was added to the text

module _ (old mid : Session) (line : List ℕ) (grows : MayGrow old line) (pushed : IsPushed old mid line) where
  abbrev before : List ℕ
  before = old.text.items

  abbrev longer : List ℕ
  longer = with_line old.text.items line

  -- the session with a machine is right, if the machine has run its text
  right_now : (i : Item) → IsRight old → item_of line ≡ Some i → (next : Option Running) → IsRunning longer next
      → IsRight (record mid { running = next })
  right_now i right item next runs = record {
    ends = subst EndsItsLines (sym pushed.text) (ends_then before line);
    count =
        pushed.count ∙ ap (λ (n : ℕ). n + 1) right.count ∙ sym (one_line_more before line i right.ends item)
        ∙ ap (λ (l : List ℕ). length (lines_of l)) (sym pushed.text);
    running = subst (λ (l : List ℕ). IsRunning l next) (sym pushed.text) runs;
    undone_ends = inl pushed.undone;
    whole = whole_alone mid.text.items mid.undone.items next (subst (λ (l : List ℕ). IsRunning l next) (sym pushed.text) runs) pushed.undone;
  }

  -- what the line says was added to the script
  script_now : (i : Item) → IsRight old → item_of line ≡ Some i → (s t : ScriptModel) → script_of before ≡ Ok s
      → Adds s (length (lines_of before) + 1) i t → 0 < length t.accounts.users → script_of longer ≡ Ok t
  script_now i right item s t is adds some =
      script_then before line i right.ends item s t is adds some
      (room_for before line i right.ends item old.count right.count grows.room.lines grows.room.bytes)

  -- the answer is that of the longer script
  answered_now : (next : Option Running) (t : ScriptModel) (said : List ℕ) → script_of longer ≡ Ok t
      → said ≡ said_behind (length (lines_of before)) t → (saved : Saved)
      → AnswersLine (talk_of saved old) line (talk_of saved (record mid { running = next })) said
  answered_now next t said is said_is saved =
      subst (λ (r : Result ScriptModel Fault). AnswersRead (talk_of saved old) longer r (talk_of saved (record mid { running = next })) said)
      (sym is) ((λ i. record { text = pushed.text i; undone = pushed.undone i; speaker = pushed.speaker i; saved = saved }), said_is)

  pub comment_taken : item_of line ≡ Some items.Comment → FollowsBy AnswersLine old mid line []
  comment_taken item right = by old.running refl grows.running right.running
    where
      by : (o : Option Running) → old.running ≡ o → is_some o ≡ true → IsRunning before o
          → ((saved : Saved) → AnswersLine (talk_of saved old) line (talk_of saved mid) []) × IsRight mid
      by None e some runs = absurd (false≢true some)
      by (Some r) e some runs =
          let s = runs.0 in
          let run = runs.1 in
          let is = script_now items.Comment right item s s run.is_script refl (has_users before s run.is_script) in
          let here = numbered_by before s run.is_script in
          let now : IsRunning longer mid.running =
          subst (IsRunning longer) (sym (pushed.running ∙ e))
          (s, record { is_script = is; accounts = run.accounts; represents = run.represents }) in (
            answered_now mid.running s [] is (sym (none_behind (length (lines_of before)) s.accounts (boot s.accounts) s.calls here)),
            right_now items.Comment right item mid.running now,
          )

  module _ (p : ProcName) (call : UnixCall) (item : item_of line ≡ Some (items.Call p call)) where
    abbrev made : ℕ → CallLine
    made n = record { line = n; process = p; call = call }

    pub call_taken : IfSome old.running (λ r. IsTrue (is_declared_call r.accounts call)) → (next : Option Running) (said : List ℕ)
        → AnswersOn mid.running next (made mid.count) said → FollowsBy AnswersLine old (record mid { running = next }) line said
    call_taken declared next said answers right =
        by old.running grows.running declared right.running
        (subst (λ (o : Option Running). AnswersOn o next (made mid.count) said) pushed.running answers)
      where
        by : (o : Option Running) → is_some o ≡ true → IfSome o (λ r. IsTrue (is_declared_call r.accounts call)) → IsRunning before o
            → AnswersOn o next (made mid.count) said
            → ((saved : Saved) → AnswersLine (talk_of saved old) line (talk_of saved (record mid { running = next })) said)
            × IsRight (record mid { running = next })
        by None some declared runs answers = absurd (false≢true some)
        by (Some r) some declared runs answers =
            let s = runs.0 in
            let run = runs.1 in
            let n = length (lines_of before) in
            let t : ScriptModel = record { accounts = s.accounts; calls = s.calls ++ made (n + 1) ∷ [] } in
            let f = flat_end s.accounts (boot s.accounts) s.calls in
            let users = has_users before s run.is_script in
            let known = subst (λ (a : Accounts). IsTrue (is_declared_call a call)) run.accounts declared in
            let is = script_now (items.Call p call) right item s t run.is_script (users, known, refl) users in
            let number : mid.count ≡ n + 1 = pushed.count ∙ ap (λ (k : ℕ). k + 1) right.count in
            let answered = answers.2.1 s.accounts f run.represents in
            let last = last_behind n s.accounts (boot s.accounts) s.calls (made (n + 1)) (numbered_by before s run.is_script) (omega arith) in
            let now : IsRunning longer next =
            subst (IsRunning longer) (sym answers.1) (
              t,
              record {
                is_script = is;
                accounts = answers.2.0 ∙ run.accounts;
                represents =
                    subst (Represents answers.0 s.accounts) (sym (states_go_on s.accounts (boot s.accounts) s.calls (made (n + 1)
                    ∷ []))) answered.1;
              },
            ) in (
              answered_now next t said is (answered.0 ∙ ap (λ (k : ℕ). answer_text s.accounts f (made k)) number ∙ sym last),
              right_now (items.Call p call) right item next now,
            )

-- ---- lines that are read with the whole session

module _ (old new : Session) (more text : List ℕ) (is : text ≡ old.text.items ++ more) where
  -- the answer is that of the text
  answered_by : (said : List ℕ) (read : Result ScriptModel Fault) → script_of text ≡ read
      → ((saved : Saved) → AnswersRead (talk_of saved old) text read (talk_of saved new) said) → (saved : Saved)
      → AnswersText (talk_of saved old) more (talk_of saved new) said
  answered_by said read reads answers saved =
      subst (λ (l : List ℕ). AnswersRead (talk_of saved old) l (script_of l) (talk_of saved new) said) is
      (subst (λ (r : Result ScriptModel Fault). AnswersRead (talk_of saved old) text r (talk_of saved new) said) (sym reads) (answers saved))

  -- the session is right if it has the text and a machine that has run it
  right_then : (found : Option Running) → IsRight old → EndsItsLines more → IsRestarted old new text found → IsRunning text found
      → IsRight new
  right_then found right more_ends restarted runs = record {
    ends = subst EndsItsLines (sym (restarted.text ∙ is)) (joined_ends old.text.items more right.ends more_ends);
    count = restarted.count ∙ ap (λ (l : List ℕ). length (lines_of l)) (sym restarted.text);
    running = runs_now;
    undone_ends = inl restarted.undone;
    whole = whole_alone new.text.items new.undone.items new.running runs_now restarted.undone;
  }
    where
      runs_now : IsRunning new.text.items new.running
      runs_now = subst (λ (l : List ℕ). IsRunning l new.running) (sym restarted.text) (subst (IsRunning text) (sym restarted.running) runs)

  pub ran_again : (r : Running) (said : List ℕ) → EndsItsLines more → Ran old.count text r said → IsRestarted old new text (Some r)
      → FollowsBy AnswersText old new more said
  ran_again r said more_ends ran restarted right = (
    answered_by said (Ok ran.script) ran.has_run.is_script (λ saved. (
      (λ i. record { text = restarted.text i; undone = restarted.undone i; speaker = restarted.speaker i; saved = saved }),
      ran.said
          ∙ ap (λ (n : ℕ). said_behind n ran.script) right.count,
    )),
    right_then (Some r) right more_ends restarted (ran.script, ran.has_run),
  )

  -- the text was taken for the session, or it stays with a sentence
  abbrev Either : ℕ → List ℕ → Saved → Bool → Type 0
  Either bad said saved b =
      MatchBool b ((talk_of saved new ≡ with_text (talk_of saved old) text) × (said ≡ []))
      ((talk_of saved new ≡ talk_of saved old) × SaysRule text bad said)

  pub refused : (bad : ℕ) (said : List ℕ) → EndsItsLines more → script_of text ≡ Err (BadScript bad) → Refuses old new text bad said
      → FollowsBy AnswersText old new more said
  refused bad said more_ends reads refuses right = by (nat_lt (length (lines_of text)) bad) refl refuses
    where
      by_test : (saved : Saved) (b : Bool) → nat_lt (length (lines_of text)) bad ≡ b → Either bad said saved b
          → Either bad said saved (nat_lt (length (lines_of text)) bad)
      by_test saved b e either = subst (Either bad said saved) (sym e) either

      by : (b : Bool) → nat_lt (length (lines_of text)) bad ≡ b
          → MatchBool b (IsRestarted old new text None × (said ≡ [])) ((new ≡ old) × SaysRule text bad said)
          → ((saved : Saved) → AnswersText (talk_of saved old) more (talk_of saved new) said) × IsRight new
      by true e here = (
        answered_by said (Err (BadScript bad)) reads (λ saved. by_test saved true e
            ((λ i. record { text = here.0.text i; undone = here.0.undone i; speaker = here.0.speaker i; saved = saved }), here.1)),
        right_then None right more_ends here.0 (lacks_user text bad reads (ltb-true (length (lines_of text)) bad e)),
      )
      by false e here = (
        answered_by said (Err (BadScript bad)) reads (λ saved. by_test saved false e (ap (talk_of saved) here.0, here.1)),
        subst IsRight (sym here.0) right,
      )

-- ---- the first session, and each line

-- a session of no lines is right
pub new_right : (s : Session) → s.text.items ≡ [] → s.undone.items ≡ [] → s.count ≡ 0 → s.running ≡ None
    → s.speaker ≡ None → IsNew s
new_right s text undone count running speaker = (
  (λ saved i. record { text = text i; undone = undone i; speaker = speaker i; saved = saved }),
  record {
    ends = inl text;
    count = count ∙ ap length (sym nothing_left) ∙ ap (λ (l : List ℕ). length (lines_of l)) (sym text);
    running = runs;
    undone_ends = inl undone;
    whole = whole_alone s.text.items s.undone.items s.running runs undone;
  },
)
  where
    runs : IsRunning s.text.items s.running
    runs =
        subst (λ (l : List ℕ). IsRunning l s.running) (sym text)
        (subst (IsRunning []) (sym running) (nothing_is_bad ∙ ap (λ (n : ℕ). Err (BadScript (n + 1))) (sym (ap length nothing_left))))
