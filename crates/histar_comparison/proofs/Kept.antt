-- What is kept of replies, one after another.
use Rattle.std.proofs.Common.{◌≡◌, Bool, true, false, List, [], ◌∷◌, ◌++◌, Option, None, Some, cond, refl, sym, ap, ◌∙◌}
use Rattle.std.specs.Prelude.{◌||◌}
use Rattle.histar_flat.specs.declared.calls.CallLine.{CallLine}
use Rattle.histar_flat.specs.declared.calls.UnixCall.{UnixCall}
use Rattle.histar_flat.specs.declared.calls.UnixCall.TheVariants.{Unlink, Rmdir, Rmtree, Rename, Wrap}
use Rattle.histar_flat.specs.declared.replies.Reply.{Reply}
use Rattle.histar_flat.specs.declared.replies.Reply.TheVariants.{Done, Data, Entries, Stats, Child, Running, Exited, User, Refused, Gone}
use Rattle.histar_flat.specs.Words.{Path, ProcName}
use Rattle.histar_flat.specs.Meaning.{RepliedCall}
use Rattle.histar_noninterference.specs.Comparison.{is_wrap_reply}
use Rattle.histar_noninterference.specs.Following.{is_done, left_without, after_reply}
use Rattle.histar_shell.specs.Machine.{MachineModel}
use Rattle.histar_shell.proofs.AnswerLemmas.{calls_more, in_turn_more}
use Rattle.histar_comparison.specs.Replies.{RepliesModel, with_reply, with_replies, with_shown, shown_by, wrap_path, once_done, is_start, reveals}
use Rattle.histar_comparison.specs.Replies.{directory_after}
use Rattle.histar_comparison.specs.Observation.{KeepsReply, KeepsReplies}

module _ (job : ProcName) where
  -- only a `wrap` has this reply
  start_is : (call : UnixCall) (reply : Reply) → is_start job (wrap_path call) reply ≡ is_wrap_reply job call reply
  start_is (Wrap q) Done = refl
  start_is (Wrap q) (Data bytes) = refl
  start_is (Wrap q) (Entries entries) = refl
  start_is (Wrap q) (Stats stat) = refl
  start_is (Wrap q) (Child name) = refl
  start_is (Wrap q) Running = refl
  start_is (Wrap q) (Exited n) = refl
  start_is (Wrap q) (User name confined) = refl
  start_is (Wrap q) (Refused errno) = refl
  start_is (Wrap q) Gone = refl
  start_is _ reply = refl

  -- a call that is no `wrap` moves the directory once it is granted
  once_granted : (directory granted : Option Path) (reply : Reply)
      → directory_after job directory None granted reply ≡ cond (is_done reply) granted directory
  once_granted directory granted Done = refl
  once_granted directory granted (Data bytes) = refl
  once_granted directory granted (Entries entries) = refl
  once_granted directory granted (Stats stat) = refl
  once_granted directory granted (Child name) = refl
  once_granted directory granted Running = refl
  once_granted directory granted (Exited n) = refl
  once_granted directory granted (User name confined) = refl
  once_granted directory granted (Refused errno) = refl
  once_granted directory granted Gone = refl

  -- a `wrap` that is no answer to the job leaves it where it was
  once_wrapped : (directory : Option Path) (q : Path) (reply : Reply)
      → directory_after job directory (Some q) directory reply
      ≡ cond (is_wrap_reply job (Wrap q) reply) (Some q) directory
  once_wrapped directory q Done = refl
  once_wrapped directory q (Data bytes) = refl
  once_wrapped directory q (Entries entries) = refl
  once_wrapped directory q (Stats stat) = refl
  once_wrapped directory q (Child name) = refl
  once_wrapped directory q Running = refl
  once_wrapped directory q (Exited n) = refl
  once_wrapped directory q (User name confined) = refl
  once_wrapped directory q (Refused errno) = refl
  once_wrapped directory q Gone = refl

  -- either of two equal directories is that directory
  either : (b : Bool) (directory : Option Path) → cond b directory directory ≡ directory
  either true directory = refl
  either false directory = refl

  -- where nothing is moved, the directory stays
  stays : (directory : Option Path) (reply : Reply) → directory_after job directory None directory reply ≡ directory
  stays directory reply = once_granted directory directory reply ∙ either (is_done reply) directory

  -- the directory is followed
  directory_is : (directory : Option Path) (call : UnixCall) (reply : Reply)
      → directory_after job directory (wrap_path call) (once_done directory call) reply
      ≡ after_reply job directory call reply
  directory_is directory (Unlink q) reply = once_granted directory (left_without q directory) reply
  directory_is directory (Rmdir q) reply = once_granted directory (left_without q directory) reply
  directory_is directory (Rmtree q) reply = once_granted directory (left_without q directory) reply
  directory_is directory (Rename q name) reply = once_granted directory (once_done directory (Rename q name)) reply
  directory_is directory (Wrap q) reply = once_wrapped directory q reply
  directory_is directory _ reply = stays directory reply

  -- a reply is kept once the job's directory was followed and the reply was added
  pub reply_kept : (old mid new : RepliesModel) (a : RepliedCall) (wraps granted : Option Path) (revealed : Bool)
      → wraps ≡ wrap_path a.call.call → granted ≡ once_done old.directory a.call.call
      → revealed ≡ reveals job old.is_started a.call.process a.call.call
      → mid
      ≡ record {
        is_started = old.is_started || is_start job wraps a.reply;
        shown = old.shown;
        revealing = old.revealing;
        directory = directory_after job old.directory wraps granted a.reply;
      }
      → new
      ≡ record mid {
        shown = shown_by job mid.shown a.call.line a.call.process a.reply;
        revealing = with_shown revealed mid.revealing a.call.line a.reply;
      }
      → new ≡ with_reply job old a
  reply_kept old mid new a wraps granted revealed wrapped moved reveal followed shown =
      let line = a.call.line in
      let process = a.call.process in
      let started = ap (λ (w : Option Path). is_start job w a.reply) wrapped ∙ start_is a.call.call a.reply in
      let directory = (λ i. directory_after job old.directory (wrapped i) (moved i) a.reply) ∙ directory_is old.directory a.call.call a.reply in
      shown
      ∙ ap (λ (m : RepliesModel). record m {
        shown = shown_by job m.shown line process a.reply;
        revealing = with_shown revealed m.revealing line a.reply;
      }) followed
      ∙ (λ i. record {
        is_started = old.is_started || started i;
        shown = shown_by job old.shown line process a.reply;
        revealing = with_shown (reveal i) old.revealing line a.reply;
        directory = directory i;
      })

  -- one reply more
  replies_more : (old : RepliesModel) (answers : List RepliedCall) (a : RepliedCall)
      → with_replies job old (answers ++ a ∷ []) ≡ with_reply job (with_replies job old answers) a
  replies_more old [] a = refl
  replies_more old (b ∷ answers) a = replies_more (with_reply job old b) answers a

  -- one line more
  pub keeps_more : (first mid last : MachineModel) (old now new : RepliesModel) (calls : List CallLine)
      (call : CallLine) → KeepsReplies job first mid old now calls → KeepsReply job mid last now new call
      → KeepsReplies job first last old new (calls ++ call ∷ [])
  keeps_more first mid last old now new calls call so_far one =
      let next : RepliedCall = record { call = call; reply = one.reply } in record {
        answers = so_far.answers ++ next ∷ [];
        each = calls_more so_far.answers next ∙ ap (λ (l : List CallLine). l ++ call ∷ []) so_far.each;
        in_turn = in_turn_more first mid last so_far.answers next so_far.in_turn one.answered;
        kept = one.kept ∙ ap (λ (r : RepliesModel). with_reply job r next) so_far.kept ∙ sym (replies_more old so_far.answers next);
      }
