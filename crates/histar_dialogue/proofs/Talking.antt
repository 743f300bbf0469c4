-- A dialogue, line after line.
use Rattle.std.proofs.Common.{◌≡◌, ℕ, Bool, true, false, List, [], ◌∷◌, ◌++◌, codes, Option, None, Some, Result, Ok, Err}
use Rattle.std.proofs.Common.{refl, sym, ap, subst, ◌∙◌, inl, inr, append_assoc, append-nil}
use Rattle.std.specs.Global.{Vec}
use Rattle.std.specs.List.{AllByRecursion}
use Rattle.std.specs.Io.KnownBytes.{Appends, Consumes, IsAtEnd, Keeps}
use Rattle.std.proofs.KnownBytes.{Appends-kept, Appends-nil, Appends-trans, Consumes-nil, Consumes-trans}
use Rattle.histar_io.specs.Writing.{AppendsFront}
use Rattle.histar_io.proofs.WritingLemmas.{sent_none, whole_front}
use Rattle.std.specs.Prelude.{OnErr}
use Rattle.histar_script.specs.declared.fault.Fault.{Fault}
use Rattle.histar_script.specs.declared.fault.Fault.TheVariants.{BadScript, TooLong, OutOfMemory, ReadFailed, WriteFailed}
use Rattle.histar_script.specs.Lines.{lines_of}
use Rattle.histar_script.specs.Outcome.{Gives}
use Rattle.histar_script.specs.Reading.{script_of}
use Rattle.histar_script.specs.Runs.{IsOutputFault, is_write_failed}
use Rattle.histar_script.specs.Script.{ScriptModel}
use Rattle.histar_dialogue.specs.declared.input.Input.{Input}
use Rattle.histar_dialogue.specs.declared.session.Session.{Session}
use Rattle.histar_dialogue.specs.Dialogue.{Begins, BeginsLines, Converses, EndsAt, StopsAt, TalksFrom, TalksOn, is_quit}
use Rattle.histar_dialogue.specs.Dialogue.{IsSessionText, prompt_text}
use Rattle.histar_dialogue.specs.Exchange.{AnswersLines, AnswersSome, AnswersTo, BeginsAnswer, BeginsFile, BeginsWith}
use Rattle.histar_dialogue.specs.Exchange.{LeavesText, StopsAnswer, TalksAlong}
use Rattle.histar_dialogue.specs.Steps.{KeepsText}
use Rattle.histar_dialogue.specs.Input.{FailsReading, IsEmptyInput, Pulls, TakesNext, WaitsBehind}
use Rattle.histar_dialogue.specs.Session.{Answers, IsNew, IsRight, talk_of}
use Rattle.histar_dialogue.specs.Shelf.{Saved}
use Rattle.histar_dialogue.specs.Talk.{Talk, nothing_yet}

-- a whole text was written, and then a beginning of what follows, behind which more may come
pub front_after : (a b c : Option (List ℕ)) (text next rest : List ℕ) → Appends a b text → AppendsFront b c next
    → AppendsFront a c (text ++ (next ++ rest))
front_after a b c text next rest whole begun = (
  begun.0 ++ rest,
  record {
    front = text ++ begun.1.front;
    parts = ap (λ (l : List ℕ). text ++ (l ++ rest)) begun.1.parts ∙ simp append_assoc;
    appended = Appends-trans a b c text begun.1.front whole begun.1.appended;
  },
)

-- one line more was answered
pub converses_on : (prompt : Bool) (a : Talk) (lines : List (List ℕ)) (m e : Talk) (said line first : List ℕ)
    → Converses prompt a lines m said → Answers m line e first
    → Converses prompt a (lines ++ line ∷ []) e (said ++ (prompt_text prompt m.text ++ first))
converses_on prompt a [] m e said line first done one = (
  e,
  first,
  [],
  subst (λ (t : Talk). Answers t line e first) done.0 one,
  (refl, refl),
  ap (λ (l : List ℕ). l ++ (prompt_text prompt m.text ++ first)) done.1
      ∙ ap (λ (t : Talk). prompt_text prompt t.text ++ first) done.0
      ∙ sym (append-nil (prompt_text prompt a.text ++ first)),
)
converses_on prompt a (l ∷ lines) m e said line first done one = (
  done.0,
  done.1,
  done.2 ++ (prompt_text prompt m.text ++ first),
  done.3,
  converses_on prompt done.0 lines m e done.2 line first done.4 one,
  ap (λ (l : List ℕ). l ++ (prompt_text prompt m.text ++ first)) done.5
      ∙ append_assoc (prompt_text prompt a.text ++ done.1) done.2 (prompt_text prompt m.text ++ first),
)

-- one line more has a property
all_more : (P : List ℕ → Type 0) (lines : List (List ℕ)) (line : List ℕ) → AllByRecursion P lines → P line
    → AllByRecursion P (lines ++ line ∷ [])
all_more P [] line all one = (one, tt)
all_more P (l ∷ lines) line all one = (all.0, all_more P lines line all.1 one)

-- what a source gives at its end is nothing
pub nothing_at_end : (left rest : Option (List ℕ)) (taken : List ℕ) → IsAtEnd left → Consumes left rest taken → Consumes left rest []
nothing_at_end None rest taken end takes = tt
nothing_at_end (Some xs) None taken end takes = absurd takes
nothing_at_end (Some xs) (Some ys) taken end takes = end ∙ sym (back taken ys (sym takes ∙ end))
  where
    back : (front back : List ℕ) → front ++ back ≡ [] → back ≡ []
    back [] ys e = e
    back (x ∷ xs) ys e = absurd cc

-- the lines of what was taken
parts_now : (is : Bool) (taken : List ℕ) (done : List (List ℕ)) (waiting : List ℕ) → WaitsBehind is taken done waiting
    → lines_of taken ≡ done ++ lines_of waiting
parts_now true taken done waiting w = w
parts_now false taken done waiting w =
    sym (ap lines_of (append-nil taken)) ∙ w [] ∙ ap (λ (l : List ℕ). done ++ lines_of l) (append-nil waiting)

-- nothing is a beginning of each text
pub front_none : (a : Option (List ℕ)) (text : List ℕ) → AppendsFront a a text
front_none a text = (_, sent_none a text)

-- a fact holds after an error
pub on_err : {X E : Type 0} (r : Result X E) (P : Type 0) → P → OnErr r P
on_err (Ok x) P p = tt
on_err (Err e) P p = p

-- a read that failed is no write that failed
pub no_write : (left rest : Option (List ℕ)) (fault : Fault) → FailsReading left rest fault → is_write_failed {A = Unit {0}} (Err fault)
    ≡ false
no_write left rest OutOfMemory fails = refl
no_write left rest ReadFailed fails = refl
no_write left rest WriteFailed fails = absurd fails
no_write left rest (BadScript n) fails = absurd fails
no_write left rest TooLong fails = absurd fails

-- a dialogue that stopped wrote as much as this says, too
pub rewritten : (prompt : Bool) (begun : Talk) (left rest : Option (List ℕ)) (held : Saved)
    (Writes Then : Talk → List ℕ → Type 0) → ((end : Talk) (said : List ℕ) → Writes end said → Then end said)
    → TalksFrom prompt begun left rest held StopsAt Writes → TalksFrom prompt begun left rest held StopsAt Then
rewritten prompt begun left rest held Writes Then says from = record {
  taken = from.taken;
  consumed = from.consumed;
  lines = from.lines;
  more = from.more;
  parts = from.parts;
  stays = from.stays;
  ends = from.ends;
  end = from.end;
  said = from.said;
  converses = from.converses;
  holds = from.holds;
  written = says from.end (from.said ++ prompt_text prompt from.end.text) from.written;
}

-- a line whose answer was not written as a whole was begun
pub begins_answer : (before now : Session) (line : List ℕ) (saved held : Saved) (old new : Option (List ℕ)) (fault : Fault)
    → StopsAnswer before now line saved held old new fault → BeginsAnswer before line saved held old new
begins_answer before now line saved held old new OutOfMemory stops = inl (stops.0, stops.1)
begins_answer before now line saved held old new WriteFailed stops = inr stops
begins_answer before now line saved held old new ReadFailed stops = absurd stops
begins_answer before now line saved held old new (BadScript n) stops = absurd stops
begins_answer before now line saved held old new TooLong stops = absurd stops

-- how far a dialogue has come
pub record Going (prompt : Bool) (begun : Talk) (left now : Option (List ℕ)) (old new : Option (List ℕ)) (held : Saved)
    (input : Input) (session : Session) : Type 0 where
  pub taken : List ℕ
  pub consumed : Consumes left now taken
  pub done : List (List ℕ)
  pub waits : WaitsBehind input.is_ended taken done input.waiting.items
  pub ended : input.is_ended ≡ true → IsAtEnd now
  pub stays : AllByRecursion (λ line. is_quit line ≡ false) done
  pub said : List ℕ
  pub converses : Converses prompt begun done (talk_of held session) said
  pub right : IsRight session
  pub written : Appends old new said

-- before the first line
pub going_first : (prompt : Bool) (left old : Option (List ℕ)) (saved : Saved) (input : Input) (session : Session)
    → IsEmptyInput input → IsRight session → Going prompt (talk_of saved session) left left old old saved input session
going_first prompt left old saved input session none right = record {
  taken = [];
  consumed = Consumes-nil left;
  done = [];
  waits =
      subst (λ (is : Bool). WaitsBehind is [] [] input.waiting.items) (sym none.1)
      (λ more. ap (λ (l : List ℕ). lines_of (l ++ more)) (sym none.0));
  ended = λ e. let no : false ≡ true = sym none.1 ∙ e in absurd cc;
  stays = tt;
  said = [];
  converses = (refl, refl);
  right = right;
  written = Appends-nil old;
}

module _ (prompt : Bool) (begun : Talk) (left now old new : Option (List ℕ)) (held : Saved) (input : Input) (session : Session)
    (going : Going prompt begun left now old new held input session) where
  abbrev asks : List ℕ
  asks = prompt_text prompt session.text.items

  -- the dialogue stops before the next line, with more bytes taken or none
  stops_with : (rest : Option (List ℕ)) (piece : List ℕ) → Consumes now rest piece
      → (more : List (List ℕ)) → lines_of (going.taken ++ piece) ≡ going.done ++ more → (Ends : List (List ℕ) → Type 0) → Ends more
      → (Writes : Talk → List ℕ → Type 0) → Writes (talk_of held session) (going.said ++ asks)
      → TalksFrom prompt begun left rest held Ends Writes
  stops_with rest piece takes more parts Ends ends Writes written = record {
    taken = going.taken ++ piece;
    consumed = Consumes-trans left now rest going.taken piece going.consumed takes;
    lines = going.done;
    more = more;
    parts = parts;
    stays = going.stays;
    ends = ends;
    end = talk_of held session;
    said = going.said;
    converses = going.converses;
    holds = refl;
    written = written;
  }

  -- bytes were taken, and the dialogue stops
  pub stops_at : (Writes : Talk → List ℕ → Type 0) (rest : Option (List ℕ)) → Pulls now rest
      → Writes (talk_of held session) (going.said ++ asks)
      → TalksFrom prompt begun left rest held StopsAt Writes
  stops_at Writes rest pulls written = by input.is_ended refl going.waits
    where
      by : (is : Bool) → input.is_ended ≡ is → WaitsBehind is going.taken going.done input.waiting.items
          → TalksFrom prompt begun left rest held StopsAt Writes
      by false e w = stops_with rest pulls.0 pulls.1 (lines_of (input.waiting.items ++ pulls.0)) (w pulls.0) StopsAt tt Writes written
      by true e w =
          stops_with rest [] (nothing_at_end now rest pulls.0 (going.ended e) pulls.1) (lines_of input.waiting.items)
          (ap lines_of (append-nil going.taken) ∙ w) StopsAt tt Writes written

  -- a beginning of what was said was written
  prompt_front : (last : Option (List ℕ)) → AppendsFront new last asks → AppendsFront old last (going.said ++ asks)
  prompt_front last begins =
      subst (λ (l : List ℕ). AppendsFront old last (going.said ++ l)) (append-nil asks)
      (front_after old new last going.said asks [] going.written begins)

  -- memory ran out, and the session has its text
  stops_out : (rest last : Option (List ℕ)) → Pulls now rest → AppendsFront old last (going.said ++ asks)
      → TalksAlong prompt begun left rest old last held session.text.items (Err OutOfMemory)
  stops_out rest last pulls front =
      stops_at (λ end said. AppendsFront old last said × IsSessionText end session.text.items) rest pulls (front, inl refl)

  -- the prompt was not written as a whole
  pub prompt_fault : (last : Option (List ℕ)) (fault : Fault) → IsOutputFault fault → AppendsFront new last asks
      → TalksAlong prompt begun left now old last held session.text.items (Err fault)
  prompt_fault last OutOfMemory is begins = stops_out now last ([], Consumes-nil now) (prompt_front last begins)
  prompt_fault last WriteFailed is begins =
      stops_at (λ end. AppendsFront old last) now ([], Consumes-nil now) (prompt_front last begins)
  prompt_fault last ReadFailed is begins = absurd is
  prompt_fault last (BadScript n) is begins = absurd is
  prompt_fault last TooLong is begins = absurd is

  -- as many lines were answered as are counted
  pub talk_gives_up : TalksAlong prompt begun left now old new held session.text.items (Err OutOfMemory)
  talk_gives_up = stops_out now new ([], Consumes-nil now) (prompt_front new (_, sent_none new asks))

  module _ (mid : Option (List ℕ)) (asked : Appends new mid asks) where
    -- what was said and the prompt were written
    pub all_written : Appends old mid (going.said ++ asks)
    all_written = Appends-trans old new mid going.said asks going.written asked

    -- the next line was not read
    pub read_fault : (rest : Option (List ℕ)) (fault : Fault) → FailsReading now rest fault
        → TalksAlong prompt begun left rest old mid held session.text.items (Err fault)
    read_fault rest OutOfMemory fails = stops_out rest mid fails (whole_front old mid (going.said ++ asks) all_written)
    read_fault rest ReadFailed fails = stops_at (λ end. Appends old mid) rest fails all_written
    read_fault rest WriteFailed fails = absurd fails
    read_fault rest (BadScript n) fails = absurd fails
    read_fault rest TooLong fails = absurd fails

    module _ (rest : Option (List ℕ)) (after : Input) where
      -- there is no next line
      pub talk_ends : TakesNext now rest input after None
          → TalksFrom prompt begun left rest held (EndsAt rest) (λ end. Appends old mid)
      talk_ends next =
          stops_with rest next.taken next.consumed []
          (next.next going.taken going.done going.waits ∙ sym (append-nil going.done)) (EndsAt rest)
          (inl (refl, next.ended going.ended next.last)) (λ end. Appends old mid) all_written

      module _ (line : Vec ℕ) (next : TakesNext now rest input after (Some line)) where
        abbrev waits_then : WaitsBehind after.is_ended (going.taken ++ next.taken) (going.done ++ line.items ∷ []) after.waiting.items
        waits_then = next.next going.taken going.done going.waits

        -- the next line is behind those that were answered
        parts_then : lines_of (going.taken ++ next.taken) ≡ going.done ++ line.items ∷ lines_of after.waiting.items
        parts_then =
            parts_now after.is_ended (going.taken ++ next.taken) (going.done ++ line.items ∷ []) after.waiting.items waits_then
            ∙ append_assoc going.done (line.items ∷ []) (lines_of after.waiting.items)

        -- the next line ends the dialogue
        pub talk_quits : line.items ≡ codes ":quit" → TalksFrom prompt begun left rest held (EndsAt rest) (λ end. Appends old mid)
        talk_quits quits =
            stops_with rest next.taken next.consumed (line.items ∷ lines_of after.waiting.items) parts_then (EndsAt rest)
            (inr (lines_of after.waiting.items, ap (λ (l : List ℕ). l ∷ lines_of after.waiting.items) quits)) (λ end. Appends old mid)
            all_written

        module _ (stays : is_quit line.items ≡ false) where
          -- a line was answered
          pub talk_goes_on : (session' : Session) (saved : Saved) (last : Option (List ℕ))
              → AnswersTo session session' line.items held saved mid last → Going prompt begun left rest old last saved after session'
          talk_goes_on session' saved last one = record {
            taken = going.taken ++ next.taken;
            consumed = Consumes-trans left now rest going.taken next.taken going.consumed next.consumed;
            done = going.done ++ line.items ∷ [];
            waits = waits_then;
            ended = next.ended going.ended;
            stays = all_more (λ line. is_quit line ≡ false) going.done line.items going.stays stays;
            said = going.said ++ (asks ++ one.said);
            converses = converses_on prompt begun going.done (talk_of held session)
                (talk_of saved session') going.said line.items one.said going.converses one.answers;
            right = one.right;
            written = subst (Appends old last) (append_assoc going.said asks one.said) (Appends-trans old mid last
                (going.said ++ asks) one.said all_written one.written);
          }

          -- memory ran out before its answer was written
          answer_out : (now : Session) (saved : Saved) (last : Option (List ℕ)) → Keeps mid last → saved ≡ held
              → KeepsText session now → TalksAlong prompt begun left rest old last saved now.text.items (Err OutOfMemory)
          answer_out now saved last keeps same text =
              subst (λ (files : Saved). TalksAlong prompt begun left rest old last files now.text.items (Err OutOfMemory)) (sym same)
              (stops_with rest next.taken next.consumed (line.items ∷ lines_of after.waiting.items) parts_then StopsAt tt
              (λ end said. AppendsFront old last said × IsSessionText end now.text.items)
              (whole_front old last (going.said ++ asks) (Appends-kept old mid last (going.said ++ asks) all_written keeps), text))

          -- its answer was not written as a whole
          answer_stops : (saved : Saved) (last : Option (List ℕ)) → AnswersSome session line.items held saved mid last
              → TalksFrom prompt begun left rest saved StopsAt (λ end. AppendsFront old last)
          answer_stops saved last one = record {
            taken = going.taken ++ next.taken;
            consumed = Consumes-trans left now rest going.taken next.taken going.consumed next.consumed;
            lines = going.done ++ line.items ∷ [];
            more = lines_of after.waiting.items;
            parts = parts_now after.is_ended (going.taken ++ next.taken) (going.done ++ line.items ∷ []) after.waiting.items waits_then;
            stays = all_more (λ line. is_quit line ≡ false) going.done line.items going.stays stays;
            ends = tt;
            end = one.after;
            said = going.said ++ (asks ++ one.said);
            converses = converses_on prompt begun going.done (talk_of held session) one.after going.said line.items one.said going.converses
                one.answers;
            holds = one.holds;
            written =
                subst (AppendsFront old last)
                (ap (λ (l : List ℕ). l) (append_assoc going.said asks (one.said ++ prompt_text prompt one.after.text)
                ∙ ap (λ (l : List ℕ). going.said ++ l) (sym (append_assoc asks one.said (prompt_text prompt one.after.text)))
                ∙ sym (append_assoc going.said (asks ++ one.said) (prompt_text prompt one.after.text))))
                (front_after old mid last (going.said ++ asks) one.said (prompt_text prompt one.after.text) all_written one.written);
          }

          pub answer_fault : (now : Session) (saved : Saved) (last : Option (List ℕ)) (fault : Fault)
              → StopsAnswer session now line.items held saved mid last fault
              → TalksAlong prompt begun left rest old last saved now.text.items (Err fault)
          answer_fault now saved last OutOfMemory stops = answer_out now saved last stops.0 stops.1 stops.2
          answer_fault now saved last WriteFailed stops = answer_stops saved last stops
          answer_fault now saved last ReadFailed stops = absurd stops
          answer_fault now saved last (BadScript n) stops = absurd stops
          answer_fault now saved last TooLong stops = absurd stops

module _ (prompt : Bool) (begun : Talk) (left rest old mid : Option (List ℕ)) (held : Saved) (text : List ℕ) where
  -- the session was written, as far as the fault says, behind a dialogue in which memory ran out
  left_by : (new : Option (List ℕ)) (fault : Fault) → TalksAlong prompt begun left rest old mid held text (Err OutOfMemory)
      → LeavesText mid new text fault → TalksOn prompt begun left rest old new held (Err fault)
  left_by new OutOfMemory along leaves =
      rewritten prompt begun left rest held _ _ (λ end said written. (mid, text, written.0, written.1, leaves)) along
  left_by new WriteFailed along leaves =
      rewritten prompt begun left rest held _ _ (λ end said written. inr (mid, text, written.0, written.1, leaves)) along
  left_by new ReadFailed along leaves = absurd leaves
  left_by new (BadScript n) along leaves = absurd leaves
  left_by new TooLong along leaves = absurd leaves

  -- the same, where the fault of the dialogue is that memory ran out
  pub left_on : (new : Option (List ℕ)) (f fault : Fault) → f ≡ OutOfMemory → TalksAlong prompt begun left rest old mid held text (Err f)
      → LeavesText mid new text fault → TalksOn prompt begun left rest old new held (Err fault)
  left_on new f fault is along leaves =
      left_by new fault (subst (λ (f : Fault). TalksAlong prompt begun left rest old mid held text (Err f)) is along) leaves

-- ---- the lines of the script to begin with

-- how far the lines of a text were answered
pub record Entering (text rest : List ℕ) (session : Session) (saved held : Saved) (old new : Option (List ℕ)) : Type 0 where
  pub done : List (List ℕ)
  pub parts : lines_of text ≡ done ++ lines_of rest
  pub said : List ℕ
  pub converses : Converses false (nothing_yet saved) done (talk_of held session) said
  pub right : IsRight session
  pub written : Appends old new said

-- before the first line
pub entering_first : (text : List ℕ) (session : Session) (saved : Saved) (old : Option (List ℕ)) → IsNew session
    → Entering text text session saved saved old old
entering_first text session saved old new =
    record { done = []; parts = refl; said = []; converses = (new.0 saved, refl); right = new.1; written = Appends-nil old }

module _ (text rest : List ℕ) (session : Session) (saved held : Saved) (old new : Option (List ℕ))
    (entering : Entering text rest session saved held old new) where
  -- all lines were answered
  pub entered : lines_of rest ≡ [] → AnswersLines text session saved held old new
  entered none = record {
    said = entering.said;
    converses =
        subst (λ (lines : List (List ℕ)). Converses false (nothing_yet saved) lines (talk_of held session) entering.said)
        (sym (entering.parts ∙ ap (λ (l : List (List ℕ)). entering.done ++ l) none ∙ append-nil entering.done)) entering.converses;
    right = entering.right;
    written = entering.written;
  }

  module _ (line after : List ℕ) (first : lines_of rest ≡ line ∷ lines_of after) (more : Saved) (last : Option (List ℕ)) where
    -- one line more was answered
    parts_on : lines_of text ≡ (entering.done ++ line ∷ []) ++ lines_of after
    parts_on =
        entering.parts ∙ ap (λ (l : List (List ℕ)). entering.done ++ l) first
        ∙ sym (append_assoc entering.done (line ∷ []) (lines_of after))

    pub entering_on : (session' : Session) → AnswersTo session session' line held more new last
        → Entering text after session' saved more old last
    entering_on session' one = record {
      done = entering.done ++ line ∷ [];
      parts = parts_on;
      said = entering.said ++ one.said;
      converses = converses_on false (nothing_yet saved) entering.done (talk_of held session)
          (talk_of more session') entering.said line one.said entering.converses one.answers;
      right = one.right;
      written = Appends-trans old new last entering.said one.said entering.written one.written;
    }

    -- its answer was not written as a whole
    pub entering_stops : BeginsAnswer session line held more new last → BeginsLines text saved more old last
    entering_stops (inl (keeps, same)) = record {
      lines = entering.done;
      more = lines_of rest;
      parts = entering.parts;
      end = talk_of held session;
      said = entering.said;
      converses = entering.converses;
      holds = sym same;
      written = whole_front old last entering.said (Appends-kept old new last entering.said entering.written keeps);
    }
    entering_stops (inr one) = record {
      lines = entering.done ++ line ∷ [];
      more = lines_of after;
      parts = parts_on;
      end = one.after;
      said = entering.said ++ one.said;
      converses = converses_on false (nothing_yet saved) entering.done (talk_of held session) one.after entering.said line one.said
          entering.converses one.answers;
      holds = one.holds;
      written =
          subst (λ (l : List ℕ). AppendsFront old last (entering.said ++ l)) (append-nil one.said)
          (front_after old new last entering.said one.said [] entering.written one.written);
    }

-- before the first line nothing was written, and nothing was saved
pub nothing_entered : (text : List ℕ) (saved : Saved) (old : Option (List ℕ)) → BeginsLines text saved saved old old
nothing_entered text saved old = record {
  lines = [];
  more = lines_of text;
  parts = refl;
  end = nothing_yet saved;
  said = [];
  converses = (refl, refl);
  holds = refl;
  written = ([], sent_none old []);
}

-- a text that is no script
pub file_fault : (text : List ℕ) (saved : Saved) (old : Option (List ℕ)) (fault : Fault)
    → Gives {A = ScriptModel} (Err fault) (script_of text) → BeginsFile text saved saved old old fault
file_fault text saved old (BadScript n) gives = gives
file_fault text saved old TooLong gives = gives
file_fault text saved old OutOfMemory gives = nothing_entered text saved old
file_fault text saved old ReadFailed gives = absurd gives
file_fault text saved old WriteFailed gives = absurd gives

-- ---- the whole dialogue

-- without a script to begin with the session is new
pub begins_none : (first : Option (List ℕ)) (session : Session) (saved : Saved) (w : Option (List ℕ)) → first ≡ None
    → IsNew session → BeginsWith first session saved saved w w
begins_none first session saved w none new = record {
  greeting = [];
  begins = subst (λ (f : Option (List ℕ)). Begins f saved (talk_of saved session) []) (sym none) (new.0 saved, refl);
  right = new.1;
  written = Appends-nil w;
}
