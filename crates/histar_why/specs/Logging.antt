-- The line of a refused call, read off the machine after the call.
use Rattle.std.specs.Prelude.{◌≡◌, ℕ, List, [], ◌++◌, Option, None, Some, MatchOption, MatchBool}
use Rattle.histar_flat.specs.declared.replies.Reply.{Reply}
use Rattle.histar_flat.specs.Words.{ProcName}
use Rattle.histar_flat.specs.Accounts.{Accounts}
use Rattle.histar_flat.specs.Classes.{Process}
use Rattle.histar_object.specs.State.{State}
use Rattle.histar_syscall.specs.KernelModel.{state}
use Rattle.histar_programs.specs.declared.roots.Roots.{Roots}
use Rattle.histar_names.specs.Births.{Births}
use Rattle.histar_reasons.specs.Laws.{is_refusal}
use Rattle.histar_reasons.specs.Reasons.{Reason}
use Rattle.histar_reasons.specs.Sentences.{absence_text, line_text, why_text}
use Rattle.histar_shell.specs.Machine.{MachineModel}
use Rattle.histar_why.specs.declared.asked.Asked.{Asked}
use Rattle.histar_why.specs.declared.names.Caller.{Caller}
use Rattle.histar_why.specs.declared.implied.Implied.{Implied}
use Rattle.histar_why.specs.declared.views.View.{View}
use Rattle.histar_why.specs.Absences.{absence_by}
use Rattle.histar_why.specs.Names.{process_of, running_at}
use Rattle.histar_why.specs.Reasons.{first_reason}
use Rattle.histar_why.specs.Implied.{ImpliesReason, implied_words}
use Rattle.histar_why.specs.Views.{IsViewOf}

-- something with this property was added
abbrev pub Adds : (List ℕ → Type 0) → List ℕ → List ℕ → Type 0
Adds Says old new = (more : List ℕ) × (new ≡ old ++ more) × Says more

-- the sentence of a reason, if there is one
abbrev pub words_of : ProcName → Process → Option Reason → List ℕ
words_of me p None = []
words_of me p (Some reason) = why_text me p reason

module _ (users : Accounts) (roots : Roots) (births : Births) (s : State) where
  -- these words are the sentence of the reason that a process's call was refused for, by what the call is about
  abbrev pub SaysReason : Caller → Asked → List ℕ → Type 0
  SaysReason caller asked words =
      (view : View) × IsViewOf users roots births s caller asked view
      × (words ≡ words_of asked.process (process_of caller) (first_reason view asked.parts.now))

  -- these words say why a call was refused: by its reason, or by the absence of its process
  abbrev pub SaysWords : Asked → List ℕ → Type 0
  SaysWords asked words =
      MatchOption (running_at users births s roots.home asked.process)
      (words ≡ absence_text asked.process (absence_by s roots.home asked.process))
      (λ p. (caller : Caller) × (process_of caller ≡ p) × SaysReason caller asked words)

  -- these words say why a call with this reply was refused: by what the refusal implies, or else by what is read of its process
  abbrev pub SaysWhy : Asked → Reply → List ℕ → Type 0
  SaysWhy asked reply words =
      (implied : Option Implied) × ImpliesReason s roots asked reply implied
      × MatchOption implied (SaysWords asked words) (λ reason. words ≡ implied_words asked reason)

-- this is the line of a refused call
pub record SaysLine (m : MachineModel) (births : Births) (asked : Asked) (reply : Reply) (line : List ℕ) : Type 0 where
  pub words : List ℕ
  pub says : SaysWhy m.users m.roots births (state m.kernel) asked reply words
  pub is : line ≡ line_text asked.line reply (Some words)

-- this is the line of a call that was refused, and there is none of another call
abbrev pub SaysIfRefused : MachineModel → Births → Asked → Reply → List ℕ → Type 0
SaysIfRefused m births asked reply line =
    MatchBool (is_refusal reply) (SaysLine m births asked reply line) (line ≡ [])
