-- The run of a whole script: its replies and its tree.
use Rattle.std.proofs.Common.{◌≡◌, List, [], ◌∷◌, ◌++◌, None, Some, refl, sym, ap, ◌∙◌, append_assoc}
use Rattle.std.proofs.lemmas.List.{map-append}
use Rattle.histar_flat.specs.declared.calls.CallLine.{CallLine}
use Rattle.histar_flat.specs.declared.replies.Reply.{Reply}
use Rattle.histar_flat.specs.Words.{ProcName}
use Rattle.histar_flat.specs.Meaning.{RepliedCall}
use Rattle.histar_script.specs.Script.{ScriptModel}
use Rattle.histar_shell.specs.Machine.{IsStart, MachineModel}
use Rattle.histar_shell.specs.Answers.{calls_of}
use Rattle.histar_shell.specs.Ending.{HasTree}
use Rattle.histar_shell.proofs.AnswerLemmas.{calls_more, in_turn_more}
use Rattle.histar_shell.proofs.CallRefinements.{calls_refine}
use Rattle.histar_shell.proofs.SessionMeanings.{all_replies}
use Rattle.histar_comparison.specs.declared.whole.Whole.{Whole}
use Rattle.histar_comparison.specs.Jobs.{is_wrap, job_started, jobs_started}
use Rattle.histar_comparison.specs.Observation.{CanRun, KeepsReplies}
use Rattle.histar_comparison.specs.Replies.{no_replies, with_replies}
use Rattle.histar_comparison.specs.Whole.{IsWhole, KeepsAnswer, KeepsAnswers, RunsWhole, answered, replies_of}
use Rattle.histar_comparison.proofs.Observed.{has_tree, tree_is}

-- answers are their calls with their replies
answered_back : (answers : List RepliedCall) → answered (calls_of answers) (replies_of answers) ≡ answers
answered_back [] = refl
answered_back (a ∷ answers) = ap (λ (l : List RepliedCall). a ∷ l) (answered_back answers)

-- one line more
pub keeps_answer : (first mid last : MachineModel) (old now new : List Reply) (calls : List CallLine) (call : CallLine)
    → KeepsAnswers first mid old now calls → KeepsAnswer mid last now new call → KeepsAnswers first last old new (calls ++ call ∷ [])
keeps_answer first mid last old now new calls call so_far one =
    let next : RepliedCall = record { call = call; reply = one.reply } in record {
      answers = so_far.answers ++ next ∷ [];
      each = calls_more so_far.answers next ∙ ap (λ (l : List CallLine). l ++ call ∷ []) so_far.each;
      in_turn = in_turn_more first mid last so_far.answers next so_far.in_turn one.answered;
      kept =
          one.kept ∙ ap (λ (l : List Reply). l ++ one.reply ∷ []) so_far.kept
          ∙ append_assoc old (replies_of so_far.answers) (one.reply ∷ [])
          ∙ ap (λ (l : List Reply). old ++ l) (sym (map-append (λ (a : RepliedCall). a.reply) so_far.answers (next ∷ [])));
    }

-- the replies to outsiders of no job could have been kept too
as_replies : (before after : MachineModel) (old new : List Reply) (calls : List CallLine) (kept : KeepsAnswers before after old new calls)
    → KeepsReplies [] before after no_replies (with_replies [] no_replies kept.answers) calls
as_replies before after old new calls kept = record { answers = kept.answers; each = kept.each; in_turn = kept.in_turn; kept = refl }

module _ (script : ScriptModel) (can : CanRun script) (start end : MachineModel) (starts : IsStart script.accounts start) where
  -- the machine has a tree
  pub whole_has_tree : (old new : List Reply) → KeepsAnswers start end old new script.calls → HasTree end
  whole_has_tree old new kept = has_tree [] script can start end starts _ _ (as_replies start end old new script.calls kept)

  -- what was kept is what the script means
  pub whole_is : (whole : Whole) → RunsWhole start end script.calls whole → IsWhole script whole
  whole_is whole is =
      let kept = is.replies in record {
        replies =
            (λ i. answered (sym kept.each i) (kept.kept i)) ∙ answered_back kept.answers
            ∙ all_replies calls_refine script can.declared can.calls start starts end kept.answers kept.each kept.in_turn;
        tree = tree_is [] script can start end starts _ _ (as_replies start end [] whole.replies.items script.calls kept) whole.tree.items is.tree;
      }

-- ---- jobs

-- the jobs of an answer, if it starts one, and of those after it
pub no_job_here : (call : CallLine) (reply : Reply) (answers : List RepliedCall) → job_started (is_wrap call.call) reply ≡ None
    → jobs_started (record { call = call; reply = reply } ∷ answers) ≡ jobs_started answers
no_job_here call reply answers e = rw e refl

pub a_job_here : (call : CallLine) (reply : Reply) (answers : List RepliedCall) (job : ProcName)
    → job_started (is_wrap call.call) reply ≡ Some job
    → jobs_started (record { call = call; reply = reply } ∷ answers) ≡ job ∷ jobs_started answers
a_job_here call reply answers job e = rw e refl
