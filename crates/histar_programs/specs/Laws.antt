-- The replies to which the kernel's refusals lead in a program.
use Rattle.std.specs.Prelude.{◌≡◌, ℕ, true, false, Option, Some, Ok, Err}
use Rattle.histar_flat.specs.declared.replies.Reply.{Reply}
use Rattle.histar_rules.specs.declared.raw.Denied.{Denied}
use Rattle.histar_layout.specs.Directory.{Entries}
use Rattle.histar_syscall.specs.KernelModel.{KernelModel}
use Rattle.histar_syscall.specs.Runs.{is_label_refusal, is_range_refusal}
use Rattle.histar_programs.specs.Replies.{is_no_access, is_no_permission, sets_labels, Replies}
use Rattle.histar_programs.specs.Programs.{AnswerOf, Program, Completes}
use Rattle.histar_programs.specs.Programs.Program.{Answers, Asks, Lists, Stops}

-- After this denial the program's reply is EACCES exactly if it was by label, EPERM exactly if it was by range; until then it only gives
-- the thread labels, and stops where that is denied.
abbrev pub RepliesToDenial : Denied → Program → Type 0
RepliesToDenial denied (Answers reply) = (is_label_refusal (Some denied) ≡ is_no_access reply) × (is_range_refusal (Some denied) ≡ is_no_permission reply)
RepliesToDenial denied (Asks call next) =
    (sets_labels call ≡ true) × ((answer : AnswerOf call) → RepliesToDenial denied (next (Ok answer))) × ((other : Denied) → next (Err other) ≡ Stops)
RepliesToDenial denied (Lists bytes next) = ⊥
RepliesToDenial denied Stops = Unit {0}

-- A program replies to its refusals: after a denial it gives that denial's reply, and without one its reply is neither EACCES nor EPERM.
abbrev pub RepliesToRefusals : Program → Type 0
RepliesToRefusals (Answers reply) = (is_no_access reply ≡ false) × (is_no_permission reply ≡ false)
RepliesToRefusals (Asks call next) = ((answer : AnswerOf call) → RepliesToRefusals (next (Ok answer))) × ((denied : Denied) → RepliesToDenial denied (next (Err denied)))
RepliesToRefusals (Lists bytes next) = (listed : Option Entries) → RepliesToRefusals (next listed)
RepliesToRefusals Stops = Unit {0}

-- Where a program that replies to its refusals was run to its reply, the reply is EACCES exactly where a raw call was refused by label, EPERM
-- exactly where one was refused by range, at most one was refused, and after it the thread was only given labels.
abbrev pub RefusalsHaveReplies : Type 0
RefusalsHaveReplies = (program : Program) → RepliesToRefusals program → (old new : KernelModel) (thread : ℕ) (reply : Reply) → Completes program old new thread reply → Replies old new thread reply
