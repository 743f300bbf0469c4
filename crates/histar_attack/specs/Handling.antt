-- What becomes of the lines of an attack, and what is written of them.
use Rattle.std.specs.Prelude.{◌≡◌, ℕ, true, false, List, [], ◌∷◌, ◌++◌, codes, decimal, map, Result, Ok}
use Rattle.std.specs.List.{flat_map}
use Rattle.histar_flat.specs.declared.calls.CallLine.{CallLine}
use Rattle.histar_flat.specs.Calls.{IsCall}
use Rattle.histar_flat.specs.Meaning.{RepliedCall}
use Rattle.histar_rules.specs.declared.raw.Denied.{Denied}
use Rattle.histar_rules.specs.Visible.{IsTaintedCaller}
use Rattle.histar_syscall.specs.declared.answers.Answer.{Answer}
use Rattle.histar_syscall.specs.KernelModel.{state}
use Rattle.histar_raw_session.specs.declared.read_session.RawLine.{RawLine}
use Rattle.histar_raw_session.specs.Answers.{line_text as raw_line_text}
use Rattle.histar_shell.specs.Answers.{answer_text}
use Rattle.histar_shell.specs.Machine.{MachineModel, AnswersLine}
use Rattle.histar_shell.specs.RawCalls.{MakesRaw}
use Rattle.histar_outside.specs.Search.{IsOutsideCaller}
use Rattle.histar_attack.specs.declared.handling.LineRule.{LineRule}
use Rattle.histar_mixed.specs.declared.items.MixedItem.{MixedItem}
use Rattle.histar_mixed.specs.declared.items.MixedItem.TheVariants as items

-- what became of a line
pub data Handled : Type 0 where
  -- a Unix call was made, with this reply
  Replied : RepliedCall → Handled
  -- a raw call was made, with this outcome
  Answered : RawLine → Result Answer Denied → Handled
  -- a raw call was not made, since its thread is not confined
  NotConfined : RawLine → Handled
  -- a Unix call was not made, since its process is inside
  Inside : CallLine → Handled
  -- a Unix call was made though its process is inside, with this reply
  Followed : RepliedCall → Handled

-- the line
abbrev pub line_of : Handled → MixedItem
line_of (Replied a) = items.Unix a.call
line_of (Answered asked outcome) = items.Raw asked
line_of (NotConfined asked) = items.Raw asked
line_of (Inside call) = items.Unix call
line_of (Followed a) = items.Unix a.call

-- What became of a line in a state of the machine. A Unix call is made if its process is outside the category, or if
-- such calls are followed, and a raw call if its thread is tainted in the category, if it is a thread. What is not made
-- changes nothing.
abbrev pub Handles : LineRule → MachineModel → MachineModel → Handled → Type 0
Handles rule old new (Replied a) =
    IsCall a.call.call × IsOutsideCaller (state old.kernel) rule.category old.roots.home a.call.process
    × AnswersLine old new a.call.line a.call.process a.call.call (Ok a.reply)
Handles rule old new (Answered asked outcome) =
    IsTaintedCaller (state old.kernel) rule.category asked.thread
    × MakesRaw old new asked.line asked.thread asked.call (Ok outcome)
Handles rule old new (NotConfined asked) =
    (IsTaintedCaller (state old.kernel) rule.category asked.thread → ⊥) × (new ≡ old)
Handles rule old new (Inside call) =
    (rule.follow ≡ false) × (IsOutsideCaller (state old.kernel) rule.category old.roots.home call.process → ⊥)
    × (new ≡ old)
Handles rule old new (Followed a) =
    (rule.follow ≡ true) × (IsOutsideCaller (state old.kernel) rule.category old.roots.home a.call.process → ⊥)
    × AnswersLine old new a.call.line a.call.process a.call.call (Ok a.reply)

-- this became of lines, one after another, each in the state after the one before
abbrev pub HandlesInTurn : LineRule → MachineModel → List Handled → MachineModel → Type 0
HandlesInTurn rule m [] end = end ≡ m
HandlesInTurn rule m (x ∷ more) end = (mid : MachineModel) × Handles rule m mid x × HandlesInTurn rule mid more end

-- the line that is written: the number, and the reply or the answer as `run` and `raw` write them, or why the call was
-- not made
abbrev pub handled_text : Handled → List ℕ
handled_text (Replied a) = answer_text a
handled_text (Answered asked outcome) = raw_line_text asked.line outcome
handled_text (NotConfined asked) = decimal asked.line ++ codes " " ++ codes "not confined" ++ codes "\n"
handled_text (Inside call) = decimal call.line ++ codes " " ++ codes "inside" ++ codes "\n"
handled_text (Followed a) = answer_text a

-- the lines that are written
abbrev pub handled_texts : List Handled → List ℕ
handled_texts handled = flat_map handled_text handled

-- the Unix calls of processes outside, which were made, with their replies
abbrev pub replied_of : List Handled → List RepliedCall
replied_of [] = []
replied_of (Replied a ∷ more) = a ∷ replied_of more
replied_of (Answered asked outcome ∷ more) = replied_of more
replied_of (NotConfined asked ∷ more) = replied_of more
replied_of (Inside call ∷ more) = replied_of more
replied_of (Followed a ∷ more) = replied_of more

-- this became of a line, which was written
pub record HandlesItem (rule : LineRule) (old new : MachineModel) (before after : List ℕ) (item : MixedItem)
    : Type 0 where
  pub handled : Handled
  pub line : line_of handled ≡ item
  pub handles : Handles rule old new handled
  pub written : after ≡ before ++ handled_text handled

-- this became of lines, which were written
pub record HandlesItems (rule : LineRule) (old new : MachineModel) (before after : List ℕ) (items : List MixedItem)
    : Type 0 where
  pub handled : List Handled
  pub lines : map line_of handled ≡ items
  pub in_turn : HandlesInTurn rule old handled new
  pub written : after ≡ before ++ handled_texts handled
