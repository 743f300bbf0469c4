-- A session does what a line asks for.
use Rattle.std.proofs.Common.{◌≡◌, ℕ, ◌<◌, Bool, true, false, List, [], ◌∷◌, length, Option, None, Some, sym, subst, inl, arith}
use Rattle.std.specs.Prelude.{MatchBool, MatchOption, option_map}
use Rattle.std.specs.Global.{Vec}
use Rattle.histar_flat.specs.Words.{Path}
use Rattle.histar_script.specs.Lines.{lines_of}
use Rattle.histar_dialogue.specs.declared.commands.Command.{Command}
use Rattle.histar_dialogue.specs.declared.session.Session.{Session}
use Rattle.histar_dialogue.specs.Asked.{IsRun, IsTable, of_replies}
use Rattle.histar_dialogue.specs.Claims.{claims_at}
use Rattle.histar_dialogue.specs.Commands.{command_of, is_command, saved_as}
use Rattle.histar_dialogue.specs.Parts.{expecting}
use Rattle.histar_dialogue.specs.Session.{AnswersLine, AnswersSpoken, AnswersText, Expects, ExpectsAt, ExpectsClaims, ExpectsLast}
use Rattle.histar_dialogue.specs.Session.{Follows, FollowsBy, FollowsSo, Obeys, ObeysCommand}
use Rattle.histar_dialogue.specs.Session.{Saves, talk_of}
use Rattle.histar_dialogue.specs.Shelf.{Saved}

module _ (old new : Session) (said : List ℕ) where
  -- the comment that expects a reply was taken as a line
  pub expects_line : (found : Option (Vec ℕ)) (line : Vec ℕ) (taken : List ℕ) → found ≡ Some line → taken ≡ line.items
      → FollowsBy AnswersLine old new taken said
      → FollowsSo (λ talk. ExpectsLast talk (option_map (λ (v : Vec ℕ). v.items) found)) old new said
  expects_line found line taken is same follows =
      subst (λ (f : Option (Vec ℕ)). FollowsSo (λ talk. ExpectsLast talk (option_map (λ (v : Vec ℕ). v.items) f)) old new said)
      (sym is) (subst (λ (l : List ℕ). FollowsBy AnswersLine old new l said) same follows)

  -- the last reply of the session is expected
  pub expects_last : (replies : List ℕ) (found : Option (List ℕ)) → IsRun of_replies old.text.items replies
      → found ≡ expecting None (lines_of replies) → FollowsSo (λ talk. ExpectsLast talk found) old new said
      → FollowsSo Expects old new said
  expects_last replies found ran is follows right =
      let done = follows right in
      let Says : Saved → Option (List ℕ) → Type 0 = λ saved f. ExpectsLast (talk_of saved old) f (talk_of saved new) said in
      (λ saved. inl (replies, ran, subst (Says saved) is (done.0 saved)), done.1)

  -- claims were taken
  pub claims_taken : (claims : List ℕ) → 0 < length claims → FollowsBy AnswersText old new claims said
      → FollowsBy ExpectsClaims old new claims said
  claims_taken [] some follows = absurd (omega arith)
  claims_taken (b ∷ claims) some follows = follows

  -- what each process may do at a path is claimed
  pub expects_at : (path : Path) (table claims : List ℕ) → IsTable old.text.items table → claims ≡ claims_at path (lines_of table)
      → FollowsBy ExpectsClaims old new claims said → FollowsSo (ExpectsAt path) old new said
  expects_at path table claims is_table is follows right =
      let done = follows right in
      let Says : Saved → List ℕ → Type 0 = λ saved c. ExpectsClaims (talk_of saved old) c (talk_of saved new) said in
      (λ saved. inl (table, is_table, subst (Says saved) is (done.0 saved)), done.1)

  module _ (line : List ℕ) (saved : Saved) where
    -- the answer to a line, by whether it begins with a colon
    abbrev ByColon : Saved → Bool → Type 0
    ByColon more colon =
        MatchBool colon (Obeys (talk_of saved old) line (talk_of more new) said) (AnswersSpoken (talk_of saved old) line (talk_of more new) said)

    -- the answer to a line that begins with one, by the file as which it saves the session
    abbrev ByFile : Saved → Option (List ℕ) → Type 0
    ByFile more file =
        MatchOption file (ObeysCommand (command_of line) (talk_of saved old) (talk_of more new) said)
        (λ name. Saves name (talk_of saved old) (talk_of more new) said)

    -- a command is obeyed
    pub obeys_so : (command : Command) → is_command line ≡ true → saved_as line ≡ None → command ≡ command_of line
        → FollowsSo (ObeysCommand command) old new said → Follows saved saved old new line said
    obeys_so command is none same follows right =
        let done = follows right in (
          subst (ByColon saved) (sym is) (subst (ByFile saved) (sym none)
              (subst (λ (k : Command). ObeysCommand k (talk_of saved old) (talk_of saved new) said) same (done.0 saved))),
          done.1,
        )

    -- another line is answered as it is read
    pub spoken_so : is_command line ≡ false → FollowsBy AnswersSpoken old new line said → Follows saved saved old new line said
    spoken_so is follows right =
        let done = follows right in (subst (ByColon saved) (sym is) (done.0 saved), done.1)
