-- The programs of these calls reply to their refusals.
use Rattle.std.proofs.Common.{ℕ, Bool, true, false, [], ◌∷◌, ◌+◌, length, Option, None, Some, refl}
use Rattle.std.specs.Prelude.{nat_lt, not}
use Rattle.histar_flat.specs.Words.{ProcName, most_children, most_numbers}
use Rattle.histar_flat.specs.Accounts.{Accounts}
use Rattle.histar_flat.specs.declared.replies.Errno.TheVariants.{ESRCH}
use Rattle.histar_flat.specs.declared.replies.Reply.TheVariants as replies
use Rattle.histar_level.specs.Levels.{Levels}
use Rattle.histar_rules.specs.Sound.{root_number}
use Rattle.histar_rules.specs.declared.raw.RawCall.TheVariants.{MakeCategory, MakeSegment, MakeContainer, MakeThread, OwnLabel, SetLabel}
use Rattle.histar_rules.specs.declared.raw.RawCall.TheVariants.{SetClearance, Read, Write, Unlink}
use Rattle.histar_layout.specs.Status.{ProcessStatus, child_at, once_exited, started, status_bytes, status_in, with_child_listed, without_child}
use Rattle.histar_layout.specs.declared.status.Child.{Child}
use Rattle.histar_layout.specs.Categories.{user_of}
use Rattle.histar_programs.specs.Laws.{RepliesToRefusals}
use Rattle.histar_programs.specs.Parts.{ask, given, if_there}
use Rattle.histar_programs.specs.Programs.{Program}
use Rattle.histar_programs.specs.Programs.Program.{Answers}
use Rattle.histar_programs.specs.declared.roots.Home.{Home}
use Rattle.histar_programs.specs.declared.roots.Roots.{Roots}
use Rattle.histar_programs.proofs.RepliesOfParts.{ask_replies}
use Rattle.histar_process.specs.Birth.{birth, inner_label, outer_label, thread_clearance, thread_label}
use Rattle.histar_process.specs.ExitCall.{exit_program}
use Rattle.histar_process.specs.KillCall.{kill_program}
use Rattle.histar_programs.specs.Kin.{Kin, kin_of, user_name}
use Rattle.histar_layout.specs.Jobs.{is_empty, jobs_in}
use Rattle.histar_process.specs.Laws.{ProcessCallsReplyToRefusals}
use Rattle.histar_process.specs.Parts.{find_home, home_of, must_be_there, read_status, write_status}
use Rattle.histar_process.specs.SpawnCall.{must_have_room, room_for_child, spawn_program}
use Rattle.histar_process.specs.StatusCall.{status_reply, status_program}
use Rattle.histar_process.specs.Whoami.{whoami_program}

-- reading a process segment replies to its refusals, if what comes after it does
status_replies : (home : Home) (rest : ProcessStatus → Program)
    → ((status : ProcessStatus) → RepliesToRefusals (rest status)) → RepliesToRefusals (read_status home rest)
unfolding read_status
status_replies home rest obeys =
    ask_replies (Read home.container home.segment) (λ bytes. if_there ESRCH rest (status_in bytes))
    (λ bytes. by (status_in bytes))
  where
    by : (found : Option ProcessStatus) → RepliesToRefusals (if_there ESRCH rest found)
    by None = (refl, refl)
    by (Some status) = obeys status

-- finding a process replies to its refusals, if what comes after it does
home_replies : (first : Home) (name : ProcName) (rest : Home → Program)
    → ((home : Home) → RepliesToRefusals (rest home)) → RepliesToRefusals (find_home first name rest)
unfolding find_home
home_replies first [] rest obeys = obeys first
home_replies first (n ∷ above) rest obeys = home_replies first above _ (λ home. status_replies home _ (λ status. by (child_at status.children n)))
  where
    by : (found : Option Child) → RepliesToRefusals (given (must_be_there found) (λ child. rest (home_of child)))
    by None = (refl, refl)
    by (Some child) = obeys (home_of child)

-- writing a process segment and unlinking an object reply to their refusals, if what comes after does
written_replies : (home : Home) (status : ProcessStatus) (rest : Program) → RepliesToRefusals rest
    → RepliesToRefusals (write_status home status (λ _. rest))
written_replies home status rest obeys = ask_replies (Write home.container home.segment 0 (status_bytes status)) (λ _. rest) (λ _. obeys)

unlinked_replies : (container object : ℕ) (rest : Program) → RepliesToRefusals rest → RepliesToRefusals (ask (Unlink container object) (λ _. rest))
unlinked_replies container object rest obeys = ask_replies (Unlink container object) (λ _. rest) (λ _. obeys)

whoami_replies : (accounts : Accounts) → RepliesToRefusals (whoami_program accounts)
unfolding whoami_program
whoami_replies accounts =
    ask_replies OwnLabel (λ own. Answers (replies.User (user_name accounts.users (user_of own.0 (length accounts.users)))
    (not (is_empty (jobs_in own.0))))) (λ own. (refl, refl))

life_replies : (life : Option ℕ) → RepliesToRefusals (Answers (status_reply life))
life_replies None = (refl, refl)
life_replies (Some number) = (refl, refl)

status_program_replies : (roots : Roots) (name : ProcName) → RepliesToRefusals (status_program roots name)
unfolding status_program
status_program_replies roots name = home_replies roots.home name _ (λ home. status_replies home _ (λ status. life_replies status.exited))

kill_program_replies : (roots : Roots) (name : ProcName) → RepliesToRefusals (kill_program roots name)
unfolding kill_program
kill_program_replies roots [] =
    status_replies roots.home _
    (λ status. unlinked_replies root_number roots.home.container (Answers replies.Done) (refl, refl))
kill_program_replies roots (n ∷ above) =
    home_replies roots.home above _
    (λ home. status_replies home _ (λ status. by home status (child_at status.children n)))
  where
    by : (home : Home) (status : ProcessStatus) (found : Option Child)
        → RepliesToRefusals (given (must_be_there found)
        (λ child. read_status (home_of child) (λ _. ask (Unlink home.container child.container)
        (λ _. write_status home (without_child n status) (λ _. Answers replies.Done)))))
    by home status None = (refl, refl)
    by home status (Some child) = status_replies (home_of child) _ (λ its.
        unlinked_replies home.container child.container
        (write_status home (without_child n status) (λ _. Answers replies.Done))
        (written_replies home (without_child n status) (Answers replies.Done) (refl, refl)))

exit_program_replies : (me : Home) (number : ℕ) → RepliesToRefusals (exit_program me number)
unfolding exit_program
exit_program_replies me number = status_replies me _ (λ status.
    written_replies me (once_exited number status)
    (ask (Unlink me.container status.internal) (λ _. Answers replies.Done))
    (unlinked_replies me.container status.internal (Answers replies.Done) (refl, refl)))

-- ---- a birth

module _ (parent : Home) (status : ProcessStatus) (kin : Kin) (rest : Unit {0} → Program) where
  abbrev at_segment : ℕ → ℕ → Program
  at_segment container segment = write_status parent (with_child_listed container segment status) (λ _. rest tt)

  abbrev at_thread : ℕ → ℕ → ℕ → ℕ → Program
  at_thread write container internal thread =
      ask (MakeSegment container (outer_label kin write) (status_bytes (started internal thread)))
      (at_segment container)

  abbrev at_internal : ℕ → ℕ → ℕ → ℕ → Program
  at_internal read write container internal =
      ask (MakeThread internal (thread_label kin read write) (thread_clearance kin read write))
      (at_thread write container internal)

  abbrev at_container : ℕ → ℕ → ℕ → Program
  at_container read write container = ask (MakeContainer container (inner_label kin read write)) (at_internal read write container)

  abbrev at_write : ℕ → ℕ → Program
  at_write read write = ask (MakeContainer parent.container (outer_label kin write)) (at_container read write)

  abbrev at_read : ℕ → Program
  at_read read = ask MakeCategory (at_write read)

  -- a birth replies to its refusals, if what comes after it does
  pub birth_replies : RepliesToRefusals (rest tt) → RepliesToRefusals (birth parent status kin rest)
  unfolding birth
  birth_replies obeys =
      ask_replies MakeCategory at_read (λ read. ask_replies MakeCategory (at_write read) (λ write.
      ask_replies (MakeContainer parent.container (outer_label kin write)) (at_container read write) (λ container.
      ask_replies (MakeContainer container (inner_label kin read write)) (at_internal read write container) (λ internal.
      ask_replies (MakeThread internal (thread_label kin read write) (thread_clearance kin read write)) (at_thread write container internal)
      (λ thread.
      ask_replies (MakeSegment container (outer_label kin write) (status_bytes (started internal thread))) (at_segment container) (λ segment.
      written_replies parent (with_child_listed container segment status) (rest tt) obeys))))))

-- ---- room for a child

module _ (name : ProcName) (me : Home) (rest : ProcessStatus → Program) (obeys : (status : ProcessStatus) → RepliesToRefusals (rest status)) where
  children_replies : (status : ProcessStatus) (room : Bool) → RepliesToRefusals (given (must_have_room room) (λ _. rest status))
  children_replies status false = (refl, refl)
  children_replies status true = obeys status

  depth_replies : (room : Bool)
      → RepliesToRefusals (given (must_have_room room) (λ _. read_status me
      (λ status. given (must_have_room (nat_lt status.born most_children)) (λ _. rest status))))
  depth_replies false = (refl, refl)
  depth_replies true = status_replies me _ (λ status. children_replies status (nat_lt status.born most_children))

  -- looking for room for a child replies to its refusals, if what comes after it does
  pub child_replies : RepliesToRefusals (room_for_child name me rest)
  child_replies = depth_replies (nat_lt (length name) most_numbers)

module _ (accounts : Accounts) (name : ProcName) (me : Home) where
  -- what comes after the birth
  abbrev restored : ProcessStatus → Levels × Levels → Program
  restored status own = ask (SetLabel own.0) (λ _. ask (SetClearance own.1) (λ _. Answers (replies.Child ((status.born + 1) ∷ name))))

  restored_replies : (status : ProcessStatus) (own : Levels × Levels) → RepliesToRefusals (restored status own)
  restored_replies status own =
      ask_replies (SetLabel own.0) (λ _. ask (SetClearance own.1) (λ _. Answers (replies.Child ((status.born + 1) ∷ name)))) (λ _.
      ask_replies (SetClearance own.1) (λ _. Answers (replies.Child ((status.born + 1) ∷ name))) (λ _. (refl, refl)))

  -- what comes after the thread's own labels
  abbrev born : ProcessStatus → Levels × Levels → Program
  born status own = birth me status (kin_of accounts own.0) (λ _. restored status own)

  born_replies : (status : ProcessStatus) → RepliesToRefusals (ask OwnLabel (born status))
  born_replies status =
      ask_replies OwnLabel (born status) (λ own.
      birth_replies me status (kin_of accounts own.0) (λ _. restored status own) (restored_replies status own))

  spawn_program_replies : RepliesToRefusals (spawn_program accounts name me)
  unfolding spawn_program
  spawn_program_replies = child_replies name me (λ status. ask OwnLabel (born status)) born_replies

-- the programs of the calls reply to their refusals
pub process_calls_reply_to_refusals : ProcessCallsReplyToRefusals
process_calls_reply_to_refusals = record {
  whoami = whoami_replies;
  status = status_program_replies;
  kill = kill_program_replies;
  exit = exit_program_replies;
  spawn = spawn_program_replies;
}
