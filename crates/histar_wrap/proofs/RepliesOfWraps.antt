-- The program of a wrap replies to its refusals.
use Rattle.std.proofs.Common.{ℕ, ◌+◌, [], ◌∷◌, refl}
use Rattle.std.specs.FinMap as map
use Rattle.histar_flat.specs.Accounts.{Accounts}
use Rattle.histar_flat.specs.Words.{Path, ProcName}
use Rattle.histar_flat.specs.declared.replies.Reply.TheVariants.{Child}
use Rattle.histar_level.specs.declared.level.Level.TheVariants.{Star, L3}
use Rattle.histar_level.specs.Levels.{Levels}
use Rattle.histar_label.specs.Levels.{with_level}
use Rattle.histar_rules.specs.declared.raw.Denied.{Denied}
use Rattle.histar_rules.specs.declared.raw.Denied.TheVariants.{Observe, Modify, Range, Gate, NoEntry, NoThread, BadKind, TooBig}
use Rattle.histar_rules.specs.declared.raw.RawCall.TheVariants.{MakeCategory, MakeSegment, OwnLabel, SetLabel, SetClearance, Write}
use Rattle.histar_layout.specs.Directory.{spelling}
use Rattle.histar_layout.specs.Status.{ProcessStatus}
use Rattle.histar_layout.specs.declared.entry.Target.TheVariants.{Directory}
use Rattle.histar_programs.specs.Laws.{RepliesToDenial, RepliesToRefusals}
use Rattle.histar_programs.specs.Parts.{ask, find_room, write_entries}
use Rattle.histar_programs.specs.Programs.{Program}
use Rattle.histar_programs.specs.Programs.Program.{Answers}
use Rattle.histar_programs.specs.Refusals.{errno_of}
use Rattle.histar_programs.specs.declared.find.Room.{Room}
use Rattle.histar_programs.specs.declared.roots.Home.{Home}
use Rattle.histar_programs.specs.declared.roots.Roots.{Roots}
use Rattle.histar_programs.proofs.RepliesOfParts.{ask_replies, room_replies}
use Rattle.histar_process.specs.Birth.{birth}
use Rattle.histar_process.proofs.RepliesOfProcessCalls.{birth_replies, child_replies}
use Rattle.histar_wrap.specs.Laws.{WrapsReplyToRefusals}
use Rattle.histar_wrap.specs.Scratch.{directory_label, gives_back_with, hold_job, kin_in, make_scratch}
use Rattle.histar_wrap.specs.WrapCall.{wrap_program}

-- a denial has its reply once what was taken is given up
denial_has_reply : (own : Levels × Levels) (denied : Denied) → RepliesToDenial denied (gives_back_with own (errno_of denied))
denial_has_reply own Observe = (refl, (λ _. (refl, (λ _. (refl, refl)), (λ _. refl))), (λ _. refl))
denial_has_reply own Modify = (refl, (λ _. (refl, (λ _. (refl, refl)), (λ _. refl))), (λ _. refl))
denial_has_reply own Range = (refl, (λ _. (refl, (λ _. (refl, refl)), (λ _. refl))), (λ _. refl))
denial_has_reply own Gate = (refl, (λ _. (refl, (λ _. (refl, refl)), (λ _. refl))), (λ _. refl))
denial_has_reply own NoEntry = (refl, (λ _. (refl, (λ _. (refl, refl)), (λ _. refl))), (λ _. refl))
denial_has_reply own NoThread = (refl, (λ _. (refl, (λ _. (refl, refl)), (λ _. refl))), (λ _. refl))
denial_has_reply own BadKind = (refl, (λ _. (refl, (λ _. (refl, refl)), (λ _. refl))), (λ _. refl))
denial_has_reply own TooBig = tt

module _ (own : Levels × Levels) (rest : Program) (obeys : RepliesToRefusals rest) where
  module _ (label : Levels) (room : Room) where
    -- what comes after the directory segment of a scratch directory
    abbrev listed : ℕ → ℕ → Program
    listed container listing = write_entries room.place (map.insert room.entries room.name (Directory container listing)) (λ _. rest)

    -- making a scratch directory replies to its refusals, if what comes after it does
    scratch_replies : RepliesToRefusals (make_scratch own label room (λ _. rest))
    unfolding make_scratch
    scratch_replies = (
      (λ container. ask_replies (MakeSegment container label []) (listed container) (λ listing.
          ask_replies (Write room.place.container room.place.listing 0
          (spelling (map.insert room.entries room.name (Directory container listing)))) (λ _. rest) (λ _. obeys))),
      denial_has_reply own,
    )

  -- holding a job replies to its refusals, if what comes after it does
  hold_replies : (job : ℕ) → RepliesToRefusals (hold_job own job (λ _. rest))
  unfolding hold_job
  hold_replies job =
      ask_replies (SetLabel (with_level own.0 job Star)) (λ _. ask (SetClearance (with_level own.1 job L3)) (λ _. rest)) (λ _.
      ask_replies (SetClearance (with_level own.1 job L3)) (λ _. rest) (λ _. obeys))

module _ (accounts : Accounts) (roots : Roots) (name : ProcName) (me : Home) (path : Path) where
  -- what comes after the birth
  abbrev held : ProcessStatus → Levels × Levels → ℕ → Program
  held status own job = hold_job own job (λ _. Answers (Child ((status.born + 1) ∷ name)))

  -- what comes after the scratch directory
  abbrev born : ProcessStatus → Levels × Levels → ℕ → Program
  born status own job = birth me status (kin_in accounts own.0 job) (λ _. held status own job)

  -- what comes after the category
  abbrev scratched : ProcessStatus → Room → Levels × Levels → ℕ → Program
  scratched status room own job = make_scratch own (directory_label accounts own.0 job) room (λ _. born status own job)

  -- what comes after there is room for a child
  abbrev found : ProcessStatus → Program
  found status = find_room roots path (λ room. ask OwnLabel (λ own. ask MakeCategory (scratched status room own)))

  job_replies : (status : ProcessStatus) (room : Room) (own : Levels × Levels) (job : ℕ) → RepliesToRefusals (scratched status room own job)
  job_replies status room own job =
      scratch_replies own (born status own job) (birth_replies me status (kin_in accounts own.0 job) (λ _. held status own job)
      (hold_replies own (Answers (Child ((status.born + 1) ∷ name))) (refl, refl) job))
      (directory_label accounts own.0 job) room

  found_replies : (status : ProcessStatus) → RepliesToRefusals (found status)
  found_replies status =
      room_replies roots path _ (λ room. ask_replies OwnLabel (λ own. ask MakeCategory (scratched status room own))
      (λ own. ask_replies MakeCategory (scratched status room own) (λ job. job_replies status room own job)))

  wrap_replies : RepliesToRefusals (wrap_program accounts roots name me path)
  unfolding wrap_program
  wrap_replies = child_replies name me found found_replies

-- wraps reply to their refusals
pub wraps_reply_to_refusals : WrapsReplyToRefusals
wraps_reply_to_refusals = wrap_replies
