-- One call that is answered with its reason.
use Rattle.std.proofs.Common.{◌≡◌, ℕ, List, ◌++◌, None, sym, ap, ◌∙◌, subst}
use Rattle.histar_flat.specs.declared.calls.CallLine.{CallLine}
use Rattle.histar_flat.specs.declared.replies.Reply.{Reply}
use Rattle.histar_flat.specs.Accounts.{Accounts}
use Rattle.histar_flat.specs.FlatState.{Flat}
use Rattle.histar_flat.specs.FlatCalls.{flat_after, reply_to}
use Rattle.histar_names.specs.Births.{Births}
use Rattle.histar_reasons.specs.Sentences.{line_text as why_line_text, sentence}
use Rattle.histar_shell.specs.Answers.{line_text}
use Rattle.histar_shell.specs.Machine.{MachineModel}
use Rattle.histar_why.specs.declared.session.Log.{Log}
use Rattle.histar_why.specs.Answering.{AnswersAt, AnswersWithReason}
use Rattle.histar_why.specs.Names.{Knows}
use Rattle.histar_why.specs.Session.{LogsCall}
use Rattle.histar_why.proofs.Naming.{known_then, meant}
use Rattle.histar_why.proofs.Saying.{line_said}

-- a call that was logged, with the line of its reply, is answered with its reason
module _ (before after : MachineModel) (call : CallLine) (from to : Log) (one : LogsCall before after None None call from to) where
  module _ (accounts : Accounts) (f : Flat) (known : Knows from.births.items accounts before f) where
    is_reply : one.reply ≡ reply_to accounts f call.process call.call
    is_reply =
        (meant from.births.items accounts before after f known call one.reply one.answers.is_call one.answers.answered).is_reply

    knows : Knows to.births.items accounts after (flat_after accounts f call.process call.call)
    knows =
        subst (λ (births : Births). Knows births accounts after (flat_after accounts f call.process call.call)) (sym one.births)
        (known_then from.births.items accounts before after f known call one.reply one.answers.is_call one.answers.answered)

    answers_at : (line : List ℕ) → line ≡ line_text call.line one.reply → AnswersAt accounts f after from to call line
    answers_at line is = record {
      reply = is ∙ ap (λ (reply : Reply). line_text call.line reply) is_reply;
      why =
          one.text.1
          ∙ ap (λ (more : List ℕ). from.text.items ++ more)
          (line_said accounts f known.reached call after to.births.items knows one.asked one.is_asked one.reply is_reply
          one.text.0 one.text.2
          ∙ ap (λ (reply : Reply). why_line_text call.line reply (sentence accounts f call.process call.call)) is_reply);
      knows = knows;
    }

  pub answers_so : (line : List ℕ) → line ≡ line_text call.line one.reply → AnswersWithReason before after from to call line
  answers_so line is accounts f known = answers_at accounts f known line is
