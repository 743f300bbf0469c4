-- The program of `stat` refines its rule.
use Rattle.std.proofs.Common.{◌≡◌, ℕ, true, Bool, List, [], ◌∷◌, ◌++◌, Option, None, Some, Result}
use Rattle.std.proofs.Common.{refl, sym, ap, ◌∙◌, subst, length, inl}
use Rattle.std.proofs.lemmas.List.{append-nil}
use Rattle.std.proofs.lemmas.Option.{same_Some}
use Rattle.std.specs.FinMap as map
use Rattle.histar_base.specs.Refusals.{◌orelse◌, unless}
use Rattle.histar_flat.specs.declared.calls.UnixCall.{UnixCall}
use Rattle.histar_flat.specs.declared.calls.UnixCall.TheVariants as calls
use Rattle.histar_flat.specs.declared.replies.Errno.{Errno}
use Rattle.histar_flat.specs.declared.replies.Errno.TheVariants.{ENOENT}
use Rattle.histar_flat.specs.declared.replies.Reply.{Reply}
use Rattle.histar_flat.specs.declared.replies.Reply.TheVariants.{Stats, Refused}
use Rattle.histar_flat.specs.Words.{Name, Path, ProcName}
use Rattle.histar_flat.specs.Accounts.{Accounts}
use Rattle.histar_flat.specs.Files.{get}
use Rattle.histar_flat.specs.Classes.{Class, Process}
use Rattle.histar_flat.specs.FlatState.{Flat, Node, Content, is_some_and, is_dir, is_dir_at, into, is_there}
use Rattle.histar_flat.specs.FlatState.Content.{Dir, File}
use Rattle.histar_flat.specs.FlatCalls.{refused, stat_reply}
use Rattle.histar_reasons.specs.Reasons.{Reason}
use Rattle.histar_reasons.specs.Reasons.Reason.{IsMissing}
use Rattle.histar_level.specs.Levels.{Levels}
use Rattle.histar_object.specs.Objects.{label_there}
use Rattle.histar_object.specs.State.{State}
use Rattle.histar_rules.specs.declared.raw.RawCall.{RawCall}
use Rattle.histar_rules.specs.declared.raw.RawCall.TheVariants as raw
use Rattle.histar_rules.specs.Rules.{check}
use Rattle.histar_rules.specs.Sound.{root_number}
use Rattle.histar_syscall.specs.KernelModel.{KernelModel, state}
use Rattle.histar_trace.specs.declared.entries.TraceEntry.{TraceEntry}
use Rattle.histar_syscall.proofs.Runs.{same_kernel}
use Rattle.histar_layout.specs.Listing.{is_directory, object_of}
use Rattle.histar_layout.specs.declared.entry.Target.{Target}
use Rattle.histar_programs.specs.declared.call_error.Stopped.{Stopped}
use Rattle.histar_layout.specs.ShownClass.{class_shown, stat_of}
use Rattle.histar_programs.specs.declared.roots.Place.{Place}
use Rattle.histar_programs.specs.Programs.{Program, Runs}
use Rattle.histar_programs.specs.Programs.Program.{Answers}
use Rattle.histar_programs.specs.Parts.{ask, given, entry_at}
use Rattle.histar_calls.specs.StatCall.{find_object, class_reply, stat_program}
use Rattle.histar_programs.specs.Start.{roots_of}
use Rattle.histar_refinement.specs.Accounts.{AreAccounts}
use Rattle.histar_refinement.specs.Addresses.{address_of, slash_number}
use Rattle.histar_refinement.specs.Addresses.Step.{Slash}
use Rattle.histar_refinement.specs.Directories.{directory_of}
use Rattle.histar_refinement.specs.Guards.{Guard, guard_label}
use Rattle.histar_refinement.specs.Labels.{class_guard}
use Rattle.histar_refinement.proofs.KeepingNames.{still_represents}
use Rattle.histar_refinement.specs.Lines.{IsObjectAt}
use Rattle.histar_refinement.proofs.ClassFound.{HasOwnerAndMode, class_revealed}
use Rattle.histar_refinement.proofs.FileChecks.{label_said}
use Rattle.histar_refinement.proofs.FileLabels.{label_at, no_thread_at, slash_label_said}
use Rattle.histar_refinement.proofs.Agreeing.{guard_at, root_is_dir}
use Rattle.histar_refinement.specs.Processes.{or_zero}
use Rattle.histar_sim.specs.RawCalls.{requests_of, unless_refused}
use Rattle.histar_sim.proofs.Requests.{AreLeft, request, left_allowed, left_then, all_made, made_to_end}
use Rattle.histar_sim.proofs.Ready.{Ready}
use Rattle.histar_sim.specs.Reads.{AreAmong}
use Rattle.histar_sim.proofs.ReadsByCall.{AreReadsOf, HasWay, HasLabel, walked_paths}
use Rattle.histar_sim.specs.Laws.{StatRefines}
use Rattle.histar_sim.proofs.Chains.{all_granted, entries_of, Chain}
use Rattle.histar_sim.proofs.CallErrors.{from_each, IsBacked, AreItsCalls}
use Rattle.histar_sim.proofs.Steps.{Goal, granted_step, refused_at_once, answered_step}
use Rattle.histar_sim.proofs.Walks.{runs, place_at, walk_reads, reads_way, has_way, agrees, found, holds, at_container, at_listing, dir, seen}
use Rattle.histar_sim.proofs.Walks.{nothing_there, file_number, file_there, directory_there, among_granted_all, look_step}

-- the way into a directory, where no label is asked for
label_less : (accounts : Accounts) (s : State) (f : Flat) (m : Name) (d : Path) (errno : Errno)
    (entries : List TraceEntry) (p : Process) → HasWay accounts s f p d entries
    → HasLabel accounts s f p (m ∷ d) (Refused errno) entries
label_less accounts s f m d errno entries p way =
    (way.0, [], way.1, refl, subst (λ (calls : List RawCall). AreAmong calls entries) (sym (append-nil way.0)) way.2)

module _ {M : Type 0} (accounts : Accounts) (ok : AreAccounts accounts) (old new : KernelModel) (f : Flat) (me : ProcName) (t : ℕ)
    (ready : Ready M accounts (state old) f me t) (result : Result Reply Stopped) where
  abbrev Refined : Path → Type 0
  Refined q = Goal accounts f me (calls.Stat q) old new t ready result

  -- the label of the object at a path is asked for, once these raw calls were made
  module _ (q : Path) (there : Node) (at : get f.files q ≡ Some there) (D O : ℕ)
      (numbered : ready.represents.matched.naming.number (address_of q) ≡ Some O)
      (object_at : IsObjectAt accounts (state old) q D O)
      (allowed : refused accounts f me ready.caller.process (calls.Stat q) ≡ None) (passes : check (state old) t (raw.LabelOf D O) ≡ None)
      (reads : List RawCall) (are_reads : AreReadsOf accounts (state old) (walked_paths accounts (state old) f ready.caller.process q)
      reads) (left : AreLeft (requests_of accounts ready.represents.matched me ready.caller.process (calls.Stat q)) reads
      (request (raw.LabelOf D O) ∷ [])) (mid : KernelModel) (stays : state mid ≡ state old) (chain : Chain old t (all_granted reads) mid)
    where
      abbrev call : UnixCall
      call = calls.Stat q

      abbrev next : RawCall
      next = raw.LabelOf D O

      guard : (g : Guard) × (class_guard accounts there.class ≡ Some g)
      guard = guard_at accounts (state old) f ready.represents.matched q there at

      reveals : HasOwnerAndMode there.class (class_shown accounts (guard_label ready.represents.matched.category guard.0))
      reveals = class_revealed accounts (state old) f ready.represents.matched q there at guard.0 guard.1

      abbrev due : Reply
      due = Stats (stat_of reveals.shown_class (is_dir there))

      due_is : due ≡ stat_reply (get f.files q)
      due_is = (λ i. Stats (record { is_directory = is_dir there; owner = reveals.owner i; mode = reveals.mode i })) ∙ sym (ap stat_reply at)

      revealed_is : (label : Levels) → Some label ≡ label_there ((state mid).objects O)
          → class_reply (is_dir there) (class_shown accounts label) ≡ Answers due
      revealed_is label right =
          let same =
          same_Some _ _ (right ∙ ap (λ (s : State). label_there (s.objects O)) stays
          ∙ label_at accounts (state old) f ready.represents.matched q there at O numbered guard.0 guard.1) in
          ap (λ (l : Levels). class_reply (is_dir there) (class_shown accounts l)) same ∙ ap (class_reply (is_dir there)) reveals.is

      all_reads : AreItsCalls accounts f me call old new t ready (all_granted (reads ++ next ∷ [])) due
      all_reads = (
        (reads, next ∷ [], are_reads, (D, O, object_at, refl), among_granted_all old.line t (reads ++ next ∷ [])),
        all_made _ old.line t (reads ++ next ∷ []) (left_then _ reads next [] left),
      )

      label_step : Runs M (ask next (λ label. class_reply (is_dir there) (class_shown accounts label))) mid new t result → Refined q
      label_step on =
          granted_step accounts f me call old new t ready result reads mid chain next
          (λ label. class_reply (is_dir there) (class_shown accounts label))
          (ap (λ (s : State). check s t next) stays ∙ passes) on
          (λ later label called right longer end.
          let same : state later ≡ state old = called.state ∙ stays in
          let entries = entries_of old.line t (all_granted (reads ++ next ∷ [])) in
          answered_step accounts f me call old new t ready result (reads ++ next ∷ []) later longer due due_is allowed
          (subst (IsBacked (state old) entries) due_is tt) (subst
          (AreItsCalls accounts f me call old new t ready (all_granted (reads ++ next ∷ [])))
          due_is all_reads)
          (still_represents ready.represents _ same)
          (subst (λ (program : Program). Runs M program later new t result) (revealed_is label right) end))

  module _ (m : Name) (d : Path) where
    abbrev stat : UnixCall
    stat = calls.Stat (m ∷ d)

    abbrev walk : List RawCall
    walk = walk_reads accounts ok (state old) f me t ready d

    abbrev place : Place
    place = place_at accounts ok (state old) f me t ready d

    -- the refusal of the way, or that nothing is at the path
    refused_is : (way : Option Errno) (o : Option Node) → into accounts f ready.caller.process d ≡ way
        → get f.files (m ∷ d) ≡ o
        → refused accounts f me ready.caller.process stat ≡ (way orelse unless (is_some_and o (λ n. true)) ENOENT)
    refused_is way o is_way is_o = λ i. is_way i orelse unless (is_some_and (is_o i) (λ n. true)) ENOENT

    -- the raw call that asks for the label, and what is left after the walk
    abbrev asking : RawCall
    asking = raw.LabelOf place.container (or_zero (ready.represents.matched.naming.number (address_of (m ∷ d))))

    left_walked : AreLeft (requests_of accounts ready.represents.matched me ready.caller.process stat) walk
        (unless_refused (refused accounts f me ready.caller.process stat) (request asking ∷ []))
    left_walked = refl

    -- once the entry was looked up
    abbrev at_entry : Option Target → Program
    at_entry target =
        given (entry_at target) (λ found. ask (raw.LabelOf place.container (object_of found))
        (λ label. class_reply (is_directory found) (class_shown accounts label)))

    module _ (open_so_far : into accounts f ready.caller.process d ≡ None) (mid : KernelModel)
        (stays : state mid ≡ state old) (chain : Chain old t (all_granted walk) mid)
        (on : Runs M (at_entry (map.get (directory_of f.files ready.represents.matched.naming.number d) m)) mid new t result) where
      leads : (target : Option Target)
          → map.get (directory_of f.files ready.represents.matched.naming.number d) m ≡ target
          → Runs M (at_entry target) mid new t result
      leads target is = subst (λ (target : Option Target). Runs M (at_entry target) mid new t result) is on

      by_target : (there : Node) → get f.files (m ∷ d) ≡ Some there → (target : Target)
          → map.get (directory_of f.files ready.represents.matched.naming.number d) m ≡ Some target
          → ready.represents.matched.naming.number (address_of (m ∷ d)) ≡ Some (object_of target)
          → is_directory target ≡ is_dir there → Refined (m ∷ d)
      by_target there at target is numbered kind =
          let is_dir_above = dir accounts ok (state old) f me t ready d open_so_far in
          let above = agrees accounts ok (state old) f me t ready d is_dir_above in
          let object_at : IsObjectAt accounts (state old) (m ∷ d) place.container (object_of target) = (
            place.listing,
            directory_of f.files ready.represents.matched.naming.number d,
            target,
            found accounts ok
                (state old) f me t ready d is_dir_above,
            holds accounts ok (state old) f me t ready d is_dir_above,
            is,
            refl,
          ) in
          let passes =
          label_said accounts (state old) f ready.represents.matched ok me ready.caller.process t
          (runs accounts ok (state old) f me t ready) d above.0 above.1 place.container place.listing
          (at_container accounts ok (state old) f me t ready d is_dir_above)
          (at_listing accounts ok (state old) f me t ready d is_dir_above)
          (seen accounts ok (state old) f me t ready d open_so_far) m (object_of target) numbered
          (no_thread_at accounts (state old) f ready.represents.matched (m ∷ d) there at (object_of target) numbered) in
          label_step (m ∷ d) there at place.container (object_of target) numbered object_at
          (refused_is None (Some there) open_so_far at) passes walk
          (reads_way accounts ok (state old) f me t ready d)
          (subst (λ (o : Option ℕ). AreLeft (requests_of accounts ready.represents.matched me ready.caller.process stat) walk
          (request (raw.LabelOf place.container (or_zero o)) ∷ [])) numbered
          (left_allowed _ walk _ (request asking ∷ []) (refused_is None (Some there) open_so_far at) left_walked))
          mid stays chain
          (subst (λ (b : Bool). Runs M (ask (raw.LabelOf place.container (object_of target))
          (λ label. class_reply b (class_shown accounts label))) mid new t result) kind
          (leads (Some target) is))

      by_content : (class : Class) (c : Content) → get f.files (m ∷ d) ≡ Some (record { class = class; content = c }) → Refined (m ∷ d)
      by_content class Dir at =
          let here : is_dir_at f (m ∷ d) ≡ true = ap (λ (o : Option Node). is_some_and o is_dir) at in
          by_target (record { class = class; content = Dir }) at _
          (directory_there accounts ok (state old) f me t ready m d class at)
          (at_container accounts ok (state old) f me t ready (m ∷ d) here) refl
      by_content class (File bytes) at =
          by_target (record { class = class; content = File bytes }) at _
          (file_there accounts ok (state old) f me t ready m d class bytes at)
          (file_number accounts ok (state old) f me t ready m d class bytes at) refl

      by_agrees : (o : Option Node) → get f.files (m ∷ d) ≡ o → Refined (m ∷ d)
      by_agrees None at =
          refused_at_once accounts f me stat old new t ready result walk mid chain stays
          ENOENT (refused_is None None open_so_far at) refl refl (
            label_less accounts (state old) f m d ENOENT _ ready.caller.process
                (has_way accounts ok (state old) f me t ready d _ (among_granted_all old.line t walk)),
            made_to_end _ old.line t ENOENT walk (all_granted walk) _ (request asking ∷ [])
                (refused_is None None open_so_far at) left_walked (inl (refl, refl)),
          )
          (leads None (nothing_there accounts ok (state old) f me t ready m d at))
      by_agrees (Some there) at = by_content there.class there.content at

    stat_is_refined : Runs M (stat_program accounts (roots_of (length accounts.users)) (m ∷ d)) old new t result → Refined (m ∷ d)
    unfolding stat_program find_object
    stat_is_refined run =
        look_step accounts ok old new f me t ready stat result d m
        (λ place target. given (entry_at target) (λ found. ask (raw.LabelOf place.container (object_of found))
        (λ label. class_reply (is_directory found) (class_shown accounts label)))) run (
          λ errno is steps among end.
              let refuses = refused_is (Some errno) (get f.files (m ∷ d)) is refl in (
                refuses,
                (
                  label_less accounts (state old) f m d errno _ ready.caller.process (has_way accounts ok (state old) f me t ready d _ among),
                  made_to_end _ old.line t errno walk steps _ (request asking ∷ []) refuses left_walked end,
                ),
              ),
          λ reason is. ap (λ (o : Option Reason). o orelse unless (is_there f (m ∷ d)) (IsMissing (m ∷ d))) is,
        )
        (λ open_so_far mid stays chain on. by_agrees open_so_far mid stays chain on (get f.files (m ∷ d)) refl)

  -- a stat of `/`
  stat_of_slash : Runs M (stat_program accounts (roots_of (length accounts.users)) []) old new t result → Refined []
  unfolding stat_program find_object
  stat_of_slash run =
      let root = root_is_dir accounts (state old) f ready.represents.matched in
      let slash = slash_number (length accounts.users) in
      label_step [] (record { class = root.0; content = Dir }) root.1 root_number slash
      (ready.represents.matched.as_booted (Slash ∷ []) slash refl) (refl, refl)
      (ap (λ (o : Option Node). unless (is_some_and o (λ n. true)) ENOENT) root.1)
      (slash_label_said accounts (state old) f ready.represents.matched me ready.caller.process t
      (runs accounts ok (state old) f me t ready))
      [] refl (λ i. request (raw.LabelOf root_number (or_zero (ready.represents.matched.as_booted (Slash ∷ []) slash refl i))) ∷ [])
      old refl (same_kernel old) run

-- the program of `stat` refines its rule
pub stat_refines : {M : Type 0} → StatRefines M
stat_refines {M} accounts ok [] me old new f t result ready run =
    from_each M accounts f me (calls.Stat []) old new t result ready (λ ready.
    stat_of_slash accounts ok old new f me t ready result run)
stat_refines {M} accounts ok (m ∷ d) me old new f t result ready run =
    from_each M accounts f me (calls.Stat (m ∷ d)) old new t result ready (λ ready.
    stat_is_refined accounts ok old new f me t ready result m d run)
