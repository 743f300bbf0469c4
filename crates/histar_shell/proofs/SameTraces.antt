-- The lines of a script and the users and groups of it determine the trace.
use Rattle.std.proofs.Common.{◌≡◌, ℕ, List, [], ◌∷◌, ◌++◌, Option, None, Some, Result, Ok, Err, Bool, true, false}
use Rattle.std.proofs.Common.{unwrap_or, refl, sym, ap, ◌∙◌, subst}
use Rattle.histar_flat.specs.Accounts.{Accounts}
use Rattle.histar_flat.specs.Meaning.{RepliedCall}
use Rattle.histar_flat.specs.Words.{ProcName}
use Rattle.histar_flat.specs.declared.calls.CallLine.{CallLine}
use Rattle.histar_flat.specs.declared.calls.UnixCall.{UnixCall}
use Rattle.histar_flat.specs.declared.replies.Reply.{Reply}
use Rattle.histar_object.specs.State.{State}
use Rattle.histar_rules.specs.RawAnswers.{AnswerOf, IsAnswer}
use Rattle.histar_rules.specs.Rules.{check, Leaves}
use Rattle.histar_rules.specs.Sound.{IsSound}
use Rattle.histar_rules.specs.declared.raw.Denied.{Denied}
use Rattle.histar_rules.specs.declared.raw.RawCall.{RawCall}
use Rattle.histar_rules.specs.declared.raw.RawCall.TheVariants.{MakeCategory, OwnLabel, SetLabel, SetClearance, MakeSegment, MakeContainer}
use Rattle.histar_rules.specs.declared.raw.RawCall.TheVariants.{MakeThread, MakeGate, Enter, Read, Write, Unlink, LabelOf}
use Rattle.histar_rules.proofs.Sound.{sound_changes, sound_empty}
use Rattle.histar_script.specs.Script.{ScriptModel}
use Rattle.histar_syscall.specs.KernelModel.{KernelModel, state, Called, IsUnchanged}
use Rattle.histar_syscall.specs.Runs.{Granted, GoesOn, Made}
use Rattle.histar_syscall.proofs.OneEnd.{one_end}
use Rattle.histar_syscall.proofs.Runs.{entry_of}
use Rattle.histar_layout.specs.Directory.{Entries}
use Rattle.histar_layout.proofs.DirectoryLemmas.{same_directory}
use Rattle.histar_programs.specs.Caller.{caller_at}
use Rattle.histar_programs.specs.Programs.{Outcome, Program, Asked, Completes, IsListed, Runs}
use Rattle.histar_programs.specs.Programs.Program.{Answers, Asks, Lists, Stops}
use Rattle.histar_programs.specs.Start.{boot_thread_number}
use Rattle.histar_programs.specs.declared.caller.Caller.{Caller}
use Rattle.histar_login.specs.Boot.{boot_calls, IsBooted}
use Rattle.histar_shell.specs.Answers.{calls_of}
use Rattle.histar_shell.specs.AnsweredCalls.{AnswersInTurn}
use Rattle.histar_shell.specs.Machine.{MachineModel, AnswersFound, AnswersIf, AnswersLine, HasMade, IsStart, on_line, program_of}
use Rattle.histar_shell.specs.OneTrace.{IsAnsweredTrace, ScriptsHaveOneTrace}

-- ---- one raw call

-- the state after a call is sound
sound_leaves : (s new : State) (t : ℕ) (call : RawCall) (denied : Option Denied) → IsSound s → check s t call ≡ denied
    → Leaves denied s t call new → IsSound new
sound_leaves s new t call None sound passed leaves = sound_changes s new t call sound passed leaves
sound_leaves s new t call (Some denied) sound refused leaves = subst IsSound (sym leaves) sound

-- two kernels that can't be told apart, in a sound state
record IsAlike (a b : KernelModel) : Type 0 where
  same : IsUnchanged a b
  sound : IsSound (state a)

module _ (a b c d : KernelModel) (t : ℕ) (call : RawCall) (one other : Option Denied) (alike : IsAlike a b)
    (first : Called a c t call one) (second : Called b d t call other) where
  -- a call has one outcome
  one_outcome : one ≡ other
  one_outcome = sym first.outcome ∙ ap (λ (s : State). check s t call) (sym alike.same.state) ∙ second.outcome

  -- and leaves one state
  called_alike : IsAlike c d
  called_alike =
      let leaves : Leaves one (state a) t call (state d) =
      subst (λ (x : Option Denied). Leaves x (state a) t call (state d)) (sym one_outcome)
      (subst (λ (s : State). Leaves other s t call (state d)) alike.same.state second.state) in
      let entry = entry_of a.line t call one in
      record {
        same = record {
          state = sym (one_end (state a) (state c) (state d) (entry ∷ []) alike.sound (state c, first.outcome, first.state, refl)
              (state d, first.outcome, leaves, refl));
          trace = second.trace
              ∙ (λ i. alike.same.trace i ++ entry_of (alike.same.line i) t call (sym one_outcome i) ∷ [])
              ∙ sym first.trace;
          line = second.line ∙ alike.same.line ∙ sym first.line;
        };
        sound = sound_leaves (state a) (state c) t call one alike.sound first.outcome first.state;
      }

some_once : {A : Type 0} (x y : A) (found : Option A) → Some x ≡ found → Some y ≡ found → x ≡ y
some_once x y found h k = ap (λ o. unwrap_or o x) (h ∙ sym k)

nothing_there : {A : Type 0} (x : A) → None ≡ Some x → ⊥
nothing_there x h = cc

-- where nothing happens nothing can be told apart
unchanged_alike : (a b c d : KernelModel) → IsAlike a b → IsUnchanged a c → IsUnchanged b d → IsAlike c d
unchanged_alike a b c d alike first second = record {
  same = record {
    state = second.state ∙ alike.same.state ∙ sym first.state;
    trace = second.trace ∙ alike.same.trace ∙ sym first.trace;
    line = second.line ∙ alike.same.line ∙ sym first.line;
  };
  sound = subst IsSound (sym first.state) alike.sound;
}

-- a granted call has one answer
one_answer : (s : State) (t : ℕ) (call : RawCall) (x y : AnswerOf call) → IsAnswer s t call x → IsAnswer s t call y → x ≡ y
one_answer s t MakeCategory x y h k = h ∙ sym k
one_answer s t OwnLabel x y h k = λ i. (some_once x.0 y.0 _ h.0 k.0 i, some_once x.1 y.1 _ h.1 k.1 i)
one_answer s t (SetLabel label) x y h k = refl
one_answer s t (SetClearance clearance) x y h k = refl
one_answer s t (MakeSegment d label bytes) x y h k = h ∙ sym k
one_answer s t (MakeContainer d label) x y h k = h ∙ sym k
one_answer s t (MakeThread d label clearance) x y h k = h ∙ sym k
one_answer s t (MakeGate d label clearance entry) x y h k = h ∙ sym k
one_answer s t (Enter d o wanted clearance verify) x y h k = some_once x y _ h k
one_answer s t (Read d o) x y h k = h ∙ sym k
one_answer s t (Write d o keep bytes) x y h k = refl
one_answer s t (Unlink d o) x y h k = refl
one_answer s t (LabelOf d o) x y h k = some_once x y _ h k

-- the same with its answer
asked_alike : (a b c d : KernelModel) (t : ℕ) (call : RawCall) (one other : Outcome call) → IsAlike a b → Asked a c t call one
    → Asked b d t call other → (one ≡ other) × IsAlike c d
asked_alike a b c d t call (Ok x) (Ok y) alike first second = (
  ap Ok (one_answer (state a) t call x y first.1 (subst (λ (s : State). IsAnswer s t call y) alike.same.state second.1)),
  called_alike a b c d t call None None alike first.0 second.0,
)
asked_alike a b c d t call (Ok x) (Err y) alike first second =
    absurd (nothing_there y (one_outcome a b c d t call None (Some y) alike first.0 second))
asked_alike a b c d t call (Err x) (Ok y) alike first second =
    absurd (nothing_there x (sym (one_outcome a b c d t call (Some x) None alike first second.0)))
asked_alike a b c d t call (Err x) (Err y) alike first second = (
  ap Err (some_once x y (Some y) (one_outcome a b c d t call (Some x) (Some y) alike first second) refl),
  called_alike a b c d t call (Some x) (Some y) alike first second,
)

-- ---- programs, lines and scripts

-- bytes spell one directory, or none
listed_once : (bytes : List ℕ) (one other : Option Entries) → IsListed bytes one → IsListed bytes other → one ≡ other
listed_once bytes None None h k = refl
listed_once bytes None (Some y) h k = absurd (h y k)
listed_once bytes (Some x) None h k = absurd (k x h)
listed_once bytes (Some x) (Some y) h k = ap Some (same_directory bytes x y h k)

completed_alike : (p : Program) (a b c d : KernelModel) (t : ℕ) (one other : Reply) → IsAlike a b → Completes p a c t one
    → Completes p b d t other → IsAlike c d
completed_alike (Answers said) a b c d t one other alike first second = unchanged_alike a b c d alike first.0 second.0
completed_alike (Asks call next) a b c d t one other alike first second =
    let asked = asked_alike a b first.0 second.0 t call first.1 second.1 alike first.2 second.2 in
    completed_alike (next first.1) first.0 second.0 c d t one other asked.1 first.3
    (subst (λ (o : Outcome call). Completes (next o) second.0 d t other) (sym asked.0) second.3)
completed_alike (Lists bytes next) a b c d t one other alike first second =
    completed_alike (next first.0) a b c d t one other alike first.2
    (subst (λ (listed : Option Entries). Completes (next listed) b d t other) (sym (listed_once bytes first.0 second.0 first.1 second.1)) second.2)
completed_alike Stops a b c d t one other alike first second = absurd first

granted_alike : (a b c d : KernelModel) (t : ℕ) (calls : List RawCall) → IsAlike a b → Granted a c t calls → Granted b d t calls → IsAlike c d
granted_alike a b c d t [] alike first second = unchanged_alike a b c d alike first.0 second.0
granted_alike a b c d t (call ∷ calls) alike first second =
    by (λ mid. granted_alike first.0 second.0 c d t calls mid) first.1 second.1 first.2 second.2 first.3 second.3
  where
    -- the later calls keep what can't be told apart
    Later : Type 0
    Later = IsAlike first.0 second.0 → Granted first.0 c t calls → Granted second.0 d t calls → IsAlike c d

    by : Later → (one other : Option Denied) → Called a first.0 t call one → Called b second.0 t call other
        → GoesOn one call (Made first.0 c t calls None) first.0 c None → GoesOn other call (Made second.0 d t calls None) second.0 d None
        → IsAlike c d
    by later None None x y h k = later (called_alike a b first.0 second.0 t call None None alike x y) h k
    by later None (Some e) x y h k = absurd (nothing_there (call, e) k.1)
    by later (Some e) other x y h k = absurd (nothing_there (call, e) h.1)

-- two machines that can't be told apart
record AreAlike (m n : MachineModel) : Type 0 where
  kernel : IsAlike m.kernel n.kernel
  roots : n.roots ≡ m.roots
  users : n.users ≡ m.users

made_alike : (m n o p : MachineModel) (line : ℕ) (me : ProcName) (caller : Caller) (call : UnixCall) (one other : Reply) → AreAlike m n
    → HasMade (Unit {0}) m o line me caller call (Ok one) → HasMade (Unit {0}) n p line me caller call (Ok other) → AreAlike o p
made_alike m n o p line me caller call one other alike first second = record {
  kernel =
      completed_alike (program_of m.users m.roots me caller call) (on_line line m.kernel) (on_line line n.kernel) o.kernel p.kernel
      caller.thread one other
      (record {
        same = record { state = alike.kernel.same.state; trace = alike.kernel.same.trace; line = refl };
        sound = alike.kernel.sound;
      })
      first.made.done
      (subst (λ (x : Program). Completes x (on_line line n.kernel) p.kernel caller.thread other)
      (λ i. program_of (alike.users i) (alike.roots i) me caller call) second.made.done);
  roots = second.roots ∙ alike.roots ∙ sym first.roots;
  users = second.users ∙ alike.users ∙ sym first.users;
}

found_alike : (found : Option Caller) (m n o p : MachineModel) (line : ℕ) (me : ProcName) (call : UnixCall) (one other : Reply) → AreAlike m n
    → AnswersFound (Unit {0}) found m o line me call (Ok one) → AnswersFound (Unit {0}) found n p line me call (Ok other) → AreAlike o p
found_alike None m n o p line me call one other alike first second =
    subst (λ (x : MachineModel). AreAlike x p) (sym first.1) (subst (AreAlike m) (sym second.1) alike)
found_alike (Some caller) m n o p line me call one other alike first second = made_alike m n o p line me caller call one other alike first second

-- a machine that answers with a reply runs
running : (stopped : Bool) (old new : MachineModel) (line : ℕ) (me : ProcName) (call : UnixCall) (reply : Reply)
    → AnswersIf (Unit {0}) stopped old new line me call (Ok reply)
    → AnswersFound (Unit {0}) (caller_at (state old.kernel) old.roots.home me) old new line me call (Ok reply)
running true old new line me call reply h = absurd cc
running false old new line me call reply h = h

line_alike : (m n o p : MachineModel) (line : ℕ) (me : ProcName) (call : UnixCall) (one other : Reply) → AreAlike m n
    → AnswersLine m o line me call (Ok one) → AnswersLine n p line me call (Ok other) → AreAlike o p
line_alike m n o p line me call one other alike first second =
    let here = running m.is_stopped m o line me call one first in
    let there = running n.is_stopped n p line me call other second in
    let found : caller_at (state n.kernel) n.roots.home me ≡ caller_at (state m.kernel) m.roots.home me =
    λ i. caller_at (alike.kernel.same.state i) (alike.roots i).home me in
    found_alike (caller_at (state m.kernel) m.roots.home me) m n o p line me call one other alike here
    (subst (λ (f : Option Caller). AnswersFound (Unit {0}) f n p line me call (Ok other)) found there)

answered_alike : (ones others : List RepliedCall) (m n o p : MachineModel) → calls_of ones ≡ calls_of others → AreAlike m n
    → AnswersInTurn m ones o → AnswersInTurn n others p → AreAlike o p
answered_alike [] [] m n o p same alike first second =
    subst (λ (x : MachineModel). AreAlike x p) (sym first) (subst (AreAlike m) (sym second) alike)
answered_alike [] (b ∷ others) m n o p same alike first second = absurd cc
answered_alike (a ∷ ones) [] m n o p same alike first second = absurd cc
answered_alike (a ∷ ones) (b ∷ others) m n o p same alike first second =
    let call : b.call ≡ a.call = cc in
    let rest : calls_of ones ≡ calls_of others = cc in
    answered_alike ones others first.0 second.0 o p rest
    (line_alike m n first.0 second.0 a.call.line a.call.process a.call.call a.reply b.reply alike first.1
    (subst (λ (c : CallLine). AnswersLine n second.0 c.line c.process c.call (Ok b.reply)) call second.1)) first.2 second.2

-- ---- the start

booted_alike : (accounts : Accounts) (a b : KernelModel) → IsBooted accounts a → IsBooted accounts b → IsAlike a b
booted_alike accounts a b first second =
    granted_alike first.first second.first a b boot_thread_number (boot_calls accounts)
    (record {
      same = record {
        state = second.empty ∙ sym first.empty;
        trace = second.no_trace ∙ sym first.no_trace;
        line = second.line ∙ sym first.line;
      };
      sound = subst IsSound (sym first.empty) sound_empty;
    }) first.made second.made

start_alike : (accounts : Accounts) (m n : MachineModel) → IsStart accounts m → IsStart accounts n → AreAlike m n
start_alike accounts m n first second = record {
  kernel = booted_alike accounts m.kernel n.kernel first.booted second.booted;
  roots = second.roots ∙ sym first.roots;
  users = second.users ∙ sym first.users;
}

pub one_trace : ScriptsHaveOneTrace
one_trace script one other first second =
    let alike =
    answered_alike first.answers second.answers first.start second.start first.end second.end (first.each ∙ sym second.each)
    (start_alike script.accounts first.start second.start first.starts second.starts) first.in_turn second.in_turn in
    first.recorded ∙ sym alike.kernel.same.trace ∙ sym second.recorded
