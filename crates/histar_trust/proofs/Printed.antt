-- What `run` prints to outsiders depends on no secret that is written to a file.
use Rattle.std.specs.Prelude.{◌≡◌, ℕ, List, [], ◌∷◌, ◌++◌, filter, map, refl}
use Rattle.std.proofs.Common.{ap, sym, ◌∙◌, append_assoc}
use Rattle.histar_flat.specs.declared.calls.CallLine.{CallLine}
use Rattle.histar_flat.specs.declared.calls.UnixCall.TheVariants.{Write}
use Rattle.histar_flat.specs.Words.{Path, ProcName}
use Rattle.histar_flat.specs.Accounts.{Accounts}
use Rattle.histar_flat.specs.Classes.{Class}
use Rattle.histar_flat.specs.FlatState.{Flat}
use Rattle.histar_flat.specs.FlatCalls.{flat_after, reply_to}
use Rattle.histar_flat.specs.Meaning.{RepliedCall, answered_from, boot, meaning}
use Rattle.histar_flat.specs.Texts.{reply_text}
use Rattle.histar_flat.proofs.Laws.{replies_go_on}
use Rattle.histar_script.specs.Script.{ScriptModel}
use Rattle.histar_secrecy.specs.Roles.{is_outsider}
use Rattle.histar_secrecy.proofs.WrittenSecrets.{what_is_written_stays_secret}
use Rattle.histar_shell.specs.declared.session.Options.{Options}
use Rattle.histar_shell.specs.Answers.{answer_text, answers_text, calls_of}
use Rattle.histar_shell.specs.Meaning.{asked_tree, last_state}
use Rattle.histar_trust.specs.Printed.{OutsidersReadTheSame, PrintsBehind, WritesBehind, outside_texts, state_met, writing}

-- the calls that have replies are those that were made
calls_answered : (accounts : Accounts) (f : Flat) (calls : List CallLine) → calls_of (answered_from accounts f calls) ≡ calls
calls_answered accounts f [] = refl
calls_answered accounts f (c ∷ calls) = ap (λ (cs : List CallLine). c ∷ cs) (calls_answered accounts (flat_after accounts f c.process c.call) calls)

-- the texts of two lists of answers
texts_both : (first later : List RepliedCall) → answers_text (first ++ later) ≡ answers_text first ++ answers_text later
texts_both [] later = refl
texts_both (a ∷ first) later = ap (λ t. answer_text a ++ t) (texts_both first later)
    ∙ sym (append_assoc (answer_text a) (answers_text first) (answers_text later))

-- the texts of replies, mapped at once or one after another
mapped_twice : (answers : List RepliedCall) → map (λ (a : RepliedCall). reply_text a.reply) answers
    ≡ map reply_text (map (λ (a : RepliedCall). a.reply) answers)
mapped_twice [] = refl
mapped_twice (a ∷ answers) = ap (λ ts. reply_text a.reply ∷ ts) (mapped_twice answers)

module _ (options : Options) (accounts : Accounts) (way : List Class) (path : Path) (before : List CallLine) where
  abbrev f : Flat
  f = state_met accounts way path before

  module _ (script : ScriptModel) (writer : ProcName) (bytes : List ℕ) (calls : List CallLine)
      (is : WritesBehind accounts way path before script writer bytes calls) where
    abbrev behind : List RepliedCall
    behind = answered_from accounts (flat_after accounts f writer (Write path bytes)) calls

    abbrev own : RepliedCall
    own = record { call = writing is.line writer path bytes; reply = reply_to accounts f writer (Write path bytes) }

    abbrev first : List RepliedCall
    first = meaning accounts before ++ own ∷ []

    meaning_is : meaning script.accounts script.calls ≡ first ++ behind
    meaning_is =
        (λ i. meaning (is.accounts_is i) (is.calls_are i))
        ∙ replies_go_on accounts (boot accounts) before (writing is.line writer path bytes ∷ calls)
        ∙ sym (append_assoc (meaning accounts before) (own ∷ []) behind)

    prints : PrintsBehind options script calls behind
    prints = record {
      first = first;
      meant = meaning_is;
      these_calls = calls_answered accounts (flat_after accounts f writer (Write path bytes)) calls;
      text =
          ap (λ (answers : List RepliedCall). answers_text answers ++ asked_tree options (last_state script)) meaning_is
          ∙ ap (λ t. t ++ asked_tree options (last_state script)) (texts_both first behind);
    }

    texts_are : outside_texts accounts way path before behind
        ≡ map reply_text (map (λ (a : RepliedCall). a.reply) (filter (λ (a : RepliedCall). is_outsider accounts way f a.call.process) behind))
    texts_are = mapped_twice (filter (λ (a : RepliedCall). is_outsider accounts way f a.call.process) behind)

pub outsiders_read_the_same : OutsidersReadTheSame
outsiders_read_the_same options text other one two _ _ accounts way path before file writer bytes other_bytes calls others a b same = record {
  answers = behind options accounts way path before one writer bytes calls a;
  prints = prints options accounts way path before one writer bytes calls a;
  other_answers = behind options accounts way path before two writer other_bytes others b;
  other_prints = prints options accounts way path before two writer other_bytes others b;
  alike =
      texts_are options accounts way path before one writer bytes calls a
      ∙ ap (map reply_text)
      (what_is_written_stays_secret accounts (state_met accounts way path before)
      (before, refl) path way file writer bytes other_bytes a.writes b.writes calls others same)
      ∙ sym (texts_are options accounts way path before two writer other_bytes others b);
}
