-- The lines of refused calls, call after call.
use Rattle.std.proofs.Common.{◌≡◌, ℕ, List, [], ◌∷◌, ◌++◌, Option, Ok, refl, sym, ap, ◌∙◌, subst, append-nil, append_assoc, inl, inr}
use Rattle.std.proofs.KnownBytes.{Appends-kept, Keeps-refl}
use Rattle.histar_io.specs.Writing.{AppendsFront}
use Rattle.histar_io.proofs.WritingLemmas.{sent_none, whole_front}
use Rattle.histar_flat.specs.declared.calls.CallLine.{CallLine}
use Rattle.histar_flat.specs.declared.replies.Reply.{Reply}
use Rattle.histar_flat.specs.Accounts.{Accounts}
use Rattle.histar_flat.specs.FlatState.{Flat}
use Rattle.histar_flat.specs.FlatCalls.{flat_after, reply_to}
use Rattle.histar_flat.specs.Meaning.{flat_end}
use Rattle.histar_flat.proofs.Laws.{states_go_on}
use Rattle.histar_names.specs.Births.{Births}
use Rattle.histar_reasons.specs.Sentences.{line_text, sentence, why_lines}
use Rattle.histar_shell.specs.Answers.{answers_text}
use Rattle.histar_shell.specs.AnsweredCalls.{AnswersCalls, BeginsAnswer, BeginsAnswers}
use Rattle.histar_shell.specs.Machine.{MachineModel}
use Rattle.histar_shell.proofs.AnswerLemmas.{answers_more, answers_none, begins_more}
use Rattle.histar_why.specs.declared.session.Log.{Log}
use Rattle.histar_why.specs.Names.{Knows}
use Rattle.histar_why.specs.Session.{Answers, BeginsCall, LogsCall, LogsCalls}
use Rattle.histar_why.proofs.Naming.{known_then, meant}
use Rattle.histar_why.proofs.Saying.{line_said}

-- no call
pub logs_none : (m : MachineModel) (a : Option (List ℕ)) → LogsCalls m m a a [] [] []
logs_none m a = record { answered = answers_none m a; logs = λ accounts f known. (refl, known) }

module _ (accounts : Accounts) where
  -- the line of a call
  abbrev line_of : Flat → CallLine → List ℕ
  line_of f c = line_text c.line (reply_to accounts f c.process c.call) (sentence accounts f c.process c.call)

  -- the lines of one call more
  lines_more : (f : Flat) (calls : List CallLine) (c : CallLine)
      → why_lines accounts f (calls ++ c ∷ []) ≡ why_lines accounts f calls ++ line_of (flat_end accounts f calls) c
  lines_more f [] c = append-nil (line_of f c)
  lines_more f (d ∷ calls) c =
      ap (λ (l : List ℕ). line_of f d ++ l) (lines_more (flat_after accounts f d.process d.call) calls c)
      ∙ sym (append_assoc (line_of f d) (why_lines accounts (flat_after accounts f d.process d.call) calls)
      (line_of (flat_end accounts (flat_after accounts f d.process d.call) calls) c))

-- one call more
module _ (first mid last : MachineModel) (a b c : Option (List ℕ)) (calls : List CallLine) (call : CallLine) (from to : Log)
    (done : LogsCalls first mid a b calls from.births.items from.text.items) (one : LogsCall mid last b c call from to) where
  module _ (accounts : Accounts) (f : Flat) (known : Knows [] accounts first f) where
    abbrev g : Flat
    g = flat_end accounts f calls

    known_mid : Knows from.births.items accounts mid g
    known_mid = (done.logs accounts f known).1

    known_last : Knows to.births.items accounts last (flat_after accounts g call.process call.call)
    known_last =
        subst (λ (births : Births). Knows births accounts last (flat_after accounts g call.process call.call)) (sym one.births)
        (known_then from.births.items accounts mid last g known_mid call one.reply one.answers.is_call one.answers.answered)

    one_line : one.text.0 ≡ line_of accounts g call
    one_line =
        let is = (meant from.births.items accounts mid last g known_mid call one.reply one.answers.is_call one.answers.answered).is_reply in
        line_said accounts g known_mid.reached call last to.births.items known_last one.asked one.is_asked one.reply is
        one.text.0 one.text.2
        ∙ ap (λ (reply : Reply). line_text call.line reply (sentence accounts g call.process call.call)) is

    logged : to.text.items ≡ why_lines accounts f (calls ++ call ∷ [])
    logged = one.text.1 ∙ (λ i. (done.logs accounts f known).0 i ++ one_line i) ∙ sym (lines_more accounts f calls call)

    known_end : Knows to.births.items accounts last (flat_end accounts f (calls ++ call ∷ []))
    known_end = subst (Knows to.births.items accounts last) (sym (states_go_on accounts f calls (call ∷ []))) known_last

  pub logs_more : LogsCalls first last a c (calls ++ call ∷ []) to.births.items to.text.items
  logs_more = record {
    answered =
        answers_more first mid last a b c calls call done.answered
        (record { reply = one.reply; answered = one.answers.answered; written = one.answers.written });
    logs = λ accounts f known. (logged accounts f known, known_end accounts f known);
  }

-- ---- where a call is not logged

-- nothing is a beginning of each text
pub front_none : (a : Option (List ℕ)) (text : List ℕ) → AppendsFront a a text
front_none a text = (_, sent_none a _)

-- an answer has begun to be written
pub answer_begins : (before after : MachineModel) (old new : Option (List ℕ)) (call : CallLine) (reply : Reply)
    → Answers before after old new call reply → BeginsCall before after old new call
answer_begins before after old new call reply one =
    inr (record { outcome = Ok reply; answered = one.answered; written = whole_front old new _ one.written })

-- nothing was written
pub call_unmade : (before after : MachineModel) (a : Option (List ℕ)) (call : CallLine) → BeginsCall before after a a call
call_unmade before after a call = inl (Keeps-refl a)

pub call_begins : (before after : MachineModel) (old new : Option (List ℕ)) (call : CallLine) → BeginsAnswer before after old new call
    → BeginsCall before after old new call
call_begins before after old new call begun = inr begun

-- a beginning of the lines of the replies to all calls was written
pub calls_begin : (first mid last : MachineModel) (a b c : Option (List ℕ)) (calls front rest : List CallLine) (call : CallLine)
    → calls ≡ front ++ call ∷ rest → AnswersCalls first mid a b front → BeginsCall mid last b c call → BeginsAnswers first a c calls
calls_begin first mid last a b c calls front rest call parts done (inl keeps) = record {
  answers = done.answers;
  rest = call ∷ rest;
  parts = parts ∙ ap (λ (l : List CallLine). l ++ call ∷ rest) (sym done.each);
  end = mid;
  in_turn = done.in_turn;
  written = whole_front a c (answers_text done.answers) (Appends-kept a b c (answers_text done.answers) done.written keeps);
}
calls_begin first mid last a b c calls front rest call parts done (inr begun) =
    begins_more first mid last a b c calls front rest call parts done begun
