-- Answering call lines one by one.
use Rattle.std.proofs.Common.{◌≡◌, ℕ, ◌+◌, ◌<◌, List, [], ◌∷◌, ◌++◌, length, take, drop, get_or, Option, Result, Ok, Err, refl, sym, ap, ap₂, subst}
use Rattle.std.proofs.Common.{◌∙◌, append-nil, append_assoc, take-append-drop}
use Rattle.std.specs.Prelude.{MatchResult}
use Rattle.std.proofs.lemmas.List.{map-append, drop_more}
use Rattle.std.proofs.lemmas.Grind.{flat_map-append}
use Rattle.std.proofs.KnownBytes.{Appends-nil, Appends-kept, Appends-trans, Keeps-refl}
use Rattle.std.specs.Io.KnownBytes.{Appends, Keeps}
use Rattle.histar_programs.specs.declared.call_error.Stopped.{Stopped}
use Rattle.histar_flat.specs.declared.replies.Reply.{Reply}
use Rattle.histar_flat.specs.declared.calls.CallLine.{CallLine}
use Rattle.histar_io.specs.Writing.{AppendsFront}
use Rattle.histar_io.proofs.WritingLemmas.{sent_none, whole_front}
use Rattle.histar_flat.specs.Meaning.{RepliedCall}
use Rattle.histar_shell.specs.Answers.{answer_text, answers_text, calls_of, line_text}
use Rattle.histar_shell.specs.Machine.{MachineModel, AnswersLine}
use Rattle.histar_shell.specs.AnsweredCalls.{AnswersInTurn, AnswersCall, AnswersCalls, BeginsAnswer, BeginsAnswers}

-- a whole text, and then a beginning of the next one
pub front_after : (a b c : Option (List ℕ)) (text next rest : List ℕ) → Appends a b text → AppendsFront b c next
    → AppendsFront a c (text ++ (next ++ rest))
front_after a b c text next rest whole begun = (
  begun.0 ++ rest,
  record {
    front = text ++ begun.1.front;
    parts = ap (λ (l : List ℕ). text ++ (l ++ rest)) begun.1.parts ∙ simp append_assoc;
    appended = Appends-trans a b c text begun.1.front whole begun.1.appended;
  },
)

-- one more call line
pub in_turn_more : (first mid last : MachineModel) (answers : List RepliedCall) (a : RepliedCall)
    → AnswersInTurn first answers mid → AnswersLine mid last a.call.line a.call.process a.call.call (Ok a.reply)
    → AnswersInTurn first (answers ++ a ∷ []) last
in_turn_more first mid last [] a same one = (
  last,
  subst (λ (m : MachineModel). AnswersLine m last a.call.line a.call.process a.call.call (Ok a.reply)) same
      one,
  refl,
)
in_turn_more first mid last (b ∷ answers) a done one = (done.0, done.1, in_turn_more done.0 mid last answers a done.2 one)

-- the text of one more answer
text_more : (answers : List RepliedCall) (a : RepliedCall) → answers_text (answers ++ a ∷ []) ≡ answers_text answers ++ answer_text a
text_more answers a = flat_map-append answer_text answers (a ∷ []) ∙ ap (λ (l : List ℕ). answers_text answers ++ l) (append-nil (answer_text a))

-- the call line of one more answer
pub calls_more : (answers : List RepliedCall) (a : RepliedCall) → calls_of (answers ++ a ∷ []) ≡ calls_of answers ++ a.call ∷ []
calls_more answers a = map-append (λ (x : RepliedCall). x.call) answers (a ∷ [])

-- before the first call line nothing is written
pub answers_none : (m : MachineModel) (a : Option (List ℕ)) → AnswersCalls m m a a []
answers_none m a = record { answers = []; each = refl; in_turn = refl; written = Appends-nil a }

-- one more call line is answered
pub answers_more : (first mid last : MachineModel) (a b c : Option (List ℕ)) (calls : List CallLine) (call : CallLine)
    → AnswersCalls first mid a b calls → AnswersCall mid last b c call
    → AnswersCalls first last a c (calls ++ call ∷ [])
answers_more first mid last a b c calls call done one =
    let next : RepliedCall = record { call = call; reply = one.reply } in record {
      answers = done.answers ++ next ∷ [];
      each = calls_more done.answers next ∙ ap (λ (l : List CallLine). l ++ call ∷ []) done.each;
      in_turn = in_turn_more first mid last done.answers next done.in_turn one.answered;
      written =
          subst (Appends a c) (sym (text_more done.answers next))
          (Appends-trans a b c (answers_text done.answers) (answer_text next) done.written one.written);
    }

-- if the machine stopped at the next line, nothing was written of it
begins_stopped : (first mid : MachineModel) (a b c : Option (List ℕ)) (calls front rest : List CallLine)
    → calls ≡ front ++ rest → AnswersCalls first mid a b front → Keeps b c → BeginsAnswers first a c calls
begins_stopped first mid a b c calls front rest parts done keeps = record {
  answers = done.answers;
  rest = rest;
  parts = parts ∙ ap (λ (l : List CallLine). l ++ rest) (sym done.each);
  end = mid;
  in_turn = done.in_turn;
  written = whole_front a c (answers_text done.answers) (Appends-kept a b c (answers_text done.answers) done.written keeps);
}

-- if the machine answered, a beginning of the next line makes a beginning of all
begins_next : (first mid last : MachineModel) (a b c : Option (List ℕ)) (calls front rest : List CallLine)
    (call : CallLine) (reply : Reply) → calls ≡ front ++ call ∷ rest → AnswersCalls first mid a b front
    → AnswersLine mid last call.line call.process call.call (Ok reply) → AppendsFront b c (line_text call.line reply)
    → BeginsAnswers first a c calls
begins_next first mid last a b c calls front rest call reply parts done answered begun =
    let next : RepliedCall = record { call = call; reply = reply } in
    let each : calls_of (done.answers ++ next ∷ []) ≡ front ++ call ∷ [] =
    calls_more done.answers next ∙ ap (λ (l : List CallLine). l ++ call ∷ []) done.each in
    let text : answers_text (done.answers ++ next ∷ []) ≡ answers_text done.answers ++ (answer_text next ++ []) =
    flat_map-append answer_text done.answers (next ∷ []) in record {
      answers = done.answers ++ next ∷ [];
      rest = rest;
      parts = parts ∙ sym (append_assoc front (call ∷ []) rest) ∙ ap (λ (l : List CallLine). l ++ rest) (sym each);
      end = last;
      in_turn = in_turn_more first mid last done.answers next done.in_turn answered;
      written = subst (AppendsFront a c) (sym text) (front_after a b c (answers_text done.answers) (answer_text next) [] done.written begun);
    }

-- a beginning of the next line makes a beginning of all
pub begins_more : (first mid last : MachineModel) (a b c : Option (List ℕ)) (calls front rest : List CallLine)
    (call : CallLine) → calls ≡ front ++ call ∷ rest → AnswersCalls first mid a b front → BeginsAnswer mid last b c call
    → BeginsAnswers first a c calls
begins_more first mid last a b c calls front rest call parts done begun =
    elim begun.outcome as (λ (o : Result Reply Stopped). AnswersLine mid last call.line call.process call.call o
    → MatchResult o (λ reply. AppendsFront b c (line_text call.line reply)) (λ _. Keeps b c)
    → BeginsAnswers first a c calls) [
      | Ok reply ↦ (λ answered written. begins_next first mid last a b c calls front rest call reply parts done answered written)
      | Err stopped ↦ (λ answered written. begins_stopped first mid a b c calls front (call ∷ rest) parts done written)
    ] begun.answered begun.written

-- a whole line with the machine's reply answers the call line
pub answers_written : (before after : MachineModel) (old new : Option (List ℕ)) (call : CallLine) (reply : Reply)
    (line bytes : List ℕ) → AnswersLine before after call.line call.process call.call (Ok reply)
    → line ≡ line_text call.line reply → bytes ≡ line → Appends old new bytes → AnswersCall before after old new call
answers_written before after old new call reply line bytes answered text same written =
    record { reply = reply; answered = answered; written = subst (Appends old new) (same ∙ text) written }

-- a beginning of a line with the machine's reply begins the answer
pub begins_written : (before after : MachineModel) (old new : Option (List ℕ)) (call : CallLine) (reply : Reply)
    (line bytes : List ℕ) → AnswersLine before after call.line call.process call.call (Ok reply)
    → line ≡ line_text call.line reply → bytes ≡ line → AppendsFront old new bytes
    → BeginsAnswer before after old new call
begins_written before after old new call reply line bytes answered text same written =
    record { outcome = Ok reply; answered = answered; written = subst (AppendsFront old new) (same ∙ text) written }

-- a reply of which nothing was written
pub begins_unwritten : (before after : MachineModel) (a : Option (List ℕ)) (call : CallLine) (reply : Reply)
    → AnswersLine before after call.line call.process call.call (Ok reply) → BeginsAnswer before after a a call
begins_unwritten before after a call reply answered = record { outcome = Ok reply; answered = answered; written = (_, sent_none a _) }

-- if the machine stopped nothing was written
pub begins_unanswered : (before after : MachineModel) (a : Option (List ℕ)) (call : CallLine) (stopped : Stopped)
    → AnswersLine before after call.line call.process call.call (Err stopped) → BeginsAnswer before after a a call
begins_unanswered before after a call stopped answered = record { outcome = Err stopped; answered = answered; written = Keeps-refl a }

-- a list is what comes before a place, what is at the place, and what comes after it
pub parts_at : (calls front : List CallLine) (call : CallLine) → front ≡ take (length front) calls
    → (length front < length calls) × (call ≡ get_or calls (length front) call)
    → calls ≡ front ++ call ∷ drop (length front + 1) calls
parts_at calls front call begins here =
    let lt : length front < length calls = here.0 in
    sym (take-append-drop (length front) calls)
    ∙ ap₂ (λ (l m : List CallLine). l ++ m) (sym begins) (drop_more calls (length front) call lt
    ∙ ap (λ (x : CallLine). x ∷ drop (length front + 1) calls) (sym here.1))
