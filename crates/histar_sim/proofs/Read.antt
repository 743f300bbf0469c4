-- The program of `read` refines its rule.
use Rattle.std.proofs.Common.{◌≡◌, ℕ, inr, Bool, true, false, List, [], ◌∷◌, ◌++◌, None, Some, Result, refl}
use Rattle.std.proofs.Common.{sym, ap, ◌∙◌, subst}
use Rattle.std.proofs.lemmas.List.{map-append}
use Rattle.histar_base.specs.Refusals.{unless}
use Rattle.histar_flat.specs.declared.calls.UnixCall.{UnixCall}
use Rattle.histar_flat.specs.declared.calls.UnixCall.TheVariants as calls
use Rattle.histar_flat.specs.declared.replies.Errno.TheVariants.{EACCES}
use Rattle.histar_flat.specs.declared.replies.Reply.{Reply}
use Rattle.histar_flat.specs.declared.replies.Reply.TheVariants.{Data}
use Rattle.histar_flat.specs.Words.{Name, Path, ProcName}
use Rattle.histar_flat.specs.Accounts.{Accounts}
use Rattle.histar_flat.specs.Files.{get}
use Rattle.histar_flat.specs.Classes.{Class, Process}
use Rattle.histar_flat.specs.FlatState.{Flat, Node, bytes_at, reads, into}
use Rattle.histar_flat.specs.FlatState.Content.{File}
use Rattle.histar_flat.specs.FlatCalls.{refused}
use Rattle.histar_reasons.specs.Reasons.{not_read}
use Rattle.histar_reasons.specs.Reasons.Reason.{MayNotRead}
use Rattle.histar_object.specs.Objects.{bytes_in}
use Rattle.histar_object.specs.State.{State}
use Rattle.histar_rules.specs.declared.raw.Denied.TheVariants.{Observe}
use Rattle.histar_rules.specs.declared.raw.RawCall.{RawCall}
use Rattle.histar_rules.specs.declared.raw.RawCall.TheVariants as raw
use Rattle.histar_rules.specs.Rules.{check}
use Rattle.histar_syscall.specs.KernelModel.{KernelModel, state}
use Rattle.histar_trace.specs.declared.entries.TraceEntry.{TraceEntry}
use Rattle.histar_programs.specs.declared.call_error.Stopped.{Stopped}
use Rattle.histar_programs.specs.Programs.{Runs}
use Rattle.histar_programs.specs.Programs.Program.{Answers}
use Rattle.histar_programs.specs.Parts.{ask}
use Rattle.histar_calls.specs.Read.{read_program}
use Rattle.histar_refinement.specs.Accounts.{AreAccounts}
use Rattle.histar_refinement.proofs.KeepingNames.{still_represents}
use Rattle.histar_sim.specs.Simulation.{EndsWithRead}
use Rattle.histar_sim.proofs.Ready.{Ready}
use Rattle.histar_sim.specs.Laws.{ReadRefines}
use Rattle.histar_sim.proofs.FirstReasons.{unread_at, named_by}
use Rattle.histar_sim.proofs.Chains.{all_granted, entries_of, Chain}
use Rattle.histar_sim.proofs.CallErrors.{IsDenialNamed, from_each, read_last}
use Rattle.histar_sim.proofs.Steps.{Goal, granted_step, refused_step, answered_step}
use Rattle.histar_sim.proofs.Walks.{walk_reads}
use Rattle.histar_sim.proofs.Files.{ReachesFile, slash_is_no_file, reached, reached_reason, denied_there, granted_there, file_step}
use Rattle.histar_sim.proofs.FoundObjects.{container, segment, file_led_to, reads_is, held_there, read_said}

-- a read reaches the file that it reads
read_reaches : (accounts : Accounts) (f : Flat) (me : ProcName) (p : Process) (q : Path)
    → ReachesFile accounts f me p q (calls.Read q) (unless (reads accounts f p q) EACCES) (λ container segment. raw.Read container segment)
read_reaches accounts f me p q =
    record {
      refuses = refl;
      named = not_read accounts f p q;
      explains = refl;
      reads = λ s reply entries walk. walk;
      asks = λ s l. refl;
    }

module _ {M : Type 0} (accounts : Accounts) (ok : AreAccounts accounts) (old new : KernelModel) (f : Flat) (me : ProcName) (t : ℕ)
    (ready : Ready M accounts (state old) f me t) (m : Name) (d : Path) (result : Result Reply Stopped) where
  abbrev call : UnixCall
  call = calls.Read (m ∷ d)

  abbrev walk : List RawCall
  walk = walk_reads accounts ok (state old) f me t ready d

  abbrev p : Process
  p = ready.caller.process

  abbrev Refined : Type 0
  Refined = Goal accounts f me call old new t ready result

  -- the segment of the file, and the read of it
  abbrev file : ℕ
  file = segment accounts ok (state old) f me t ready d m

  abbrev next : RawCall
  next = raw.Read (container accounts ok (state old) f me t ready d) file

  module _ (open_so_far : into accounts f p d ≡ None) (class : Class) (bytes : List ℕ)
      (at : get f.files (m ∷ d) ≡ Some (record { class = class; content = File bytes })) (mid : KernelModel)
      (stays : state mid ≡ state old) (chain : Chain old t (all_granted walk) mid) where
    -- the kernel's check is the flat rule
    said_by : (may : Bool) → reads accounts f p (m ∷ d) ≡ may → check (state mid) t next ≡ unless may Observe
    said_by may is =
        ap (λ (s : State). check s t next) stays
        ∙ read_said accounts ok (state old) f me t ready d open_so_far m class bytes at
        ∙ ap (λ (b : Bool). unless b Observe) is

    refused_by : (may : Bool) → reads accounts f p (m ∷ d) ≡ may → refused accounts f me p call ≡ unless may EACCES
    refused_by may is =
        reached accounts ok old new f me t ready m d call result _ _ (read_reaches accounts f me p (m ∷ d)) open_so_far
        class bytes at ∙ ap (λ (b : Bool). unless b EACCES) is

    -- the read is on what the reason names that the file may not be read
    unread_named : reads accounts f p (m ∷ d) ≡ false → IsDenialNamed accounts f me call old new t ready next
    unfolding read_reaches
    unread_named is =
        let node : Node = record { class = class; content = File bytes } in
        let fails = sym (reads_is accounts ok (state old) f me t ready d open_so_far m class bytes at) ∙ is in
        let found = unread_at accounts f p (m ∷ d) node at fails in
        let there = file_led_to accounts ok (state old) f me t ready d open_so_far m class bytes at in
        named_by accounts (state old) f me p call next (MayNotRead (m ∷ d) found.0)
        (reached_reason accounts ok old new f me t ready m d call result _ _ (read_reaches accounts f me p (m ∷ d)) open_so_far class bytes at
        ∙ found.1)
        (container accounts ok (state old) f me t ready d, file, inr there, refl)

    held : bytes_in ((state mid).objects file) ≡ bytes_at f (m ∷ d)
    held = ap (λ (s : State). bytes_in (s.objects file)) stays ∙ held_there accounts ok (state old) f me t ready d open_so_far m class bytes at

    by_right : (may : Bool) → reads accounts f p (m ∷ d) ≡ may
        → Runs M (ask next (λ (b : List ℕ). Answers (Data b))) mid new t result → Refined
    by_right false is on =
        refused_step accounts f me call old new t ready result walk mid chain stays
        EACCES (refused_by false is) next (λ (b : List ℕ). Answers (Data b)) Observe
        (said_by false is) refl refl (unread_named is)
        (denied_there accounts ok old new f me t ready m d call result _ _ (read_reaches accounts f me p (m ∷ d))
        EACCES Observe (refused_by false is) refl) on
    by_right true is on =
        granted_step accounts f me call old new t ready result walk mid chain next
        (λ (b : List ℕ). Answers (Data b)) (said_by true is) on
        (λ later answer called right longer end.
        let answer_is : answer ≡ bytes_at f (m ∷ d) = right ∙ held in
        let entries_are : entries_of old.line t (all_granted (walk ++ next ∷ []))
        ≡ entries_of old.line t (all_granted walk ++ (next, None) ∷ []) =
        ap (entries_of old.line t) (map-append (λ (c : RawCall). (c, None)) walk (next ∷ [])) in
        let backed = subst (λ (es : List TraceEntry). EndsWithRead (state old) es (bytes_at f (m ∷ d))) (sym entries_are)
        (subst (EndsWithRead (state old) (entries_of old.line t (all_granted walk ++ (next, None) ∷ []))) held
        (read_last old mid t walk chain (container accounts ok (state old) f me t ready d) file)) in
        let same : state later ≡ state old = called.state ∙ stays in
        answered_step accounts f me call old new t ready result (walk ++ next ∷ []) later longer
        (Data answer) (ap Data answer_is) (refused_by true is) backed
        (granted_there accounts ok old new f me t ready m d call result _ _ (read_reaches accounts f me p (m ∷ d))
        (Data (bytes_at f (m ∷ d))) (refused_by true is))
        (still_represents ready.represents _ same) end)

-- the program of `read` refines its rule
pub read_refines : {M : Type 0} → ReadRefines M
unfolding read_program
read_refines {M} accounts ok [] me old new f t result ready run =
    from_each M accounts f me (calls.Read []) old new t result ready (λ ready.
    slash_is_no_file accounts old new f me t ready (calls.Read []) result _ _
    (read_reaches accounts f me ready.caller.process []) _ run)
read_refines {M} accounts ok (m ∷ d) me old new f t result ready run =
    from_each M accounts f me (calls.Read (m ∷ d)) old new t result ready (λ ready.
    file_step accounts ok old new f me t ready m d (calls.Read (m ∷ d)) result _ _
    (read_reaches accounts f me ready.caller.process (m ∷ d)) _ run
    (λ open_so_far class bytes at mid stays chain on.
    by_right accounts ok old new f me t ready m d result open_so_far class bytes at mid stays chain
    (reads accounts f ready.caller.process (m ∷ d)) refl on))
