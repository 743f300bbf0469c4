-- The line of a refused call, put together from its parts.
use Rattle.std.proofs.Common.{◌≡◌, ℕ, List, ◌++◌, Option, Some, Result, Ok, Err, refl, sym, ap, ◌∙◌, subst, append_assoc}
use Rattle.std.specs.Prelude.{MatchOption, OnOk, codes, if◌then◌else◌, is_ok, option_map}
use Rattle.std.specs.Fmt.{decimal}
use Rattle.histar_flat.specs.declared.replies.Reply.{Reply}
use Rattle.histar_flat.specs.Texts.{reply_text}
use Rattle.histar_flat.specs.Accounts.{Accounts}
use Rattle.histar_flat.specs.Classes.{Process}
use Rattle.histar_object.specs.State.{State}
use Rattle.histar_syscall.specs.KernelModel.{KernelModel, state}
use Rattle.histar_programs.specs.declared.roots.Roots.{Roots}
use Rattle.histar_names.specs.Births.{Births}
use Rattle.histar_reasons.specs.Sentences.{absence_text}
use Rattle.histar_shell.specs.Machine.{MachineModel}
use Rattle.histar_why.specs.declared.asked.Asked.{Asked}
use Rattle.histar_why.specs.declared.asked.Part.{Part}
use Rattle.histar_why.specs.declared.names.Caller.{Caller}
use Rattle.histar_why.specs.declared.reasons.Reason.{Reason as Found}
use Rattle.histar_why.specs.declared.views.View.{View}
use Rattle.histar_why.specs.Absences.{absence_by}
use Rattle.histar_why.specs.Names.{process_of}
use Rattle.histar_why.specs.Reasons.{first_reason, reason_of}
use Rattle.histar_why.specs.Logging.{Adds, SaysLine, SaysReason, SaysWhy, words_of}
use Rattle.histar_why.specs.Views.{IsViewOf}

module _ (users : Accounts) (roots : Roots) (births : Births) (s : State) (asked : Asked) where
  -- the sentence of the reason that was found
  pub reason_added : (caller : Caller) (view : View) → IsViewOf users roots births s caller asked view
      → (parts : List Part) → parts ≡ asked.parts.now
      → (found : Option Found) → option_map (reason_of asked.path) found ≡ first_reason view parts
      → SaysReason users roots births s caller asked
      (words_of asked.process (process_of caller) (option_map (reason_of asked.path) found))
  reason_added caller view is parts same found first =
      (view, is, ap (words_of asked.process (process_of caller)) (first ∙ ap (first_reason view) same))

  -- it is that of a process that runs
  pub running_said : (caller : Caller) (o : Option Process) → o ≡ Some (process_of caller) → (words : List ℕ)
      → SaysReason users roots births s caller asked words
      → MatchOption o (words ≡ absence_text asked.process (absence_by s roots.home asked.process))
      (λ p. (c : Caller) × (process_of c ≡ p) × SaysReason users roots births s c asked words)
  running_said caller o is words says =
      subst (λ (x : Option Process). MatchOption x (words ≡ absence_text asked.process (absence_by s roots.home asked.process))
      (λ p. (c : Caller) × (process_of c ≡ p) × SaysReason users roots births s c asked words)) (sym is) (caller, refl, says)

-- a text that was added is nothing or is this
pub added : {X E : Type 0} (r : Result X E) (Says : List ℕ → Type 0) (old new words : List ℕ) → Says words → OnOk r (new ≡ old ++ words)
    → OnOk r (Adds Says old new)
added (Ok x) Says old new words says is = (words, is, says)
added (Err e) Says old new words says is = tt

pub added_as : {X E : Type 0} (r : Result X E) (Says Says' : List ℕ → Type 0) (old new : List ℕ) → ((words : List ℕ) → Says words → Says' words)
    → OnOk r (Adds Says old new) → OnOk r (Adds Says' old new)
added_as (Ok x) Says Says' old new says a = (a.0, a.1, says a.0 a.2)
added_as (Err e) Says Says' old new says a = tt

-- ---- a whole line

module _ (m : MachineModel) (births : Births) (asked : Asked) (reply : Reply) where
  abbrev head : List ℕ
  head = codes "!" ++ decimal asked.line ++ codes " " ++ reply_text reply ++ codes ": "

  pub line_added : {X E : Type 0} (r : Result X E) (users : Accounts) (roots : Roots) (kernel : KernelModel) (known : Births)
      → users ≡ m.users → roots ≡ m.roots → kernel ≡ m.kernel → known ≡ births
      → (old first second new : List ℕ) → first ≡ old ++ head → Adds (SaysWhy users roots known (state kernel) asked reply) first second
      → new ≡ (if is_ok r then second ++ codes "\n" else second) → OnOk r (Adds (SaysLine m births asked reply) old new)
  line_added (Err e) users roots kernel known us rs ks bs old first second new a b c = tt
  line_added (Ok x) users roots kernel known us rs ks bs old first second new a b c = (
    head ++ b.0 ++ codes "\n",
    c ∙ ap (λ (l : List ℕ). l ++ codes "\n") (b.1 ∙ ap (λ (l : List ℕ). l ++ b.0) a ∙ append_assoc old head b.0)
        ∙ append_assoc old (head ++ b.0) (codes "\n"),
    record {
      words = b.0;
      says = subst (λ (y : Accounts × Roots × KernelModel × Births). SaysWhy y.0 y.1 y.3 (state y.2) asked reply b.0)
          (λ i. (us i, rs i, ks i, bs i)) b.2;
      is = refl;
    },
  )
