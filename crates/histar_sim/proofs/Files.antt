-- A call on a file: it is found, and read or written, or the call is refused as the flat rules refuse it.
use Rattle.std.proofs.Common.{◌≡◌, ℕ, inl, true, List, [], ◌∷◌, Option, None, Some, Result, refl, ◌∙◌, subst, length}
use Rattle.std.proofs.Common.{◌+◌, ◌≤◌, Bool, false, ◌++◌, sym, ap}
use Rattle.std.specs.Prelude.{not, min, nat_le, take}
use Rattle.std.specs.FinMap as map
use Rattle.std.proofs.lemmas.List.{length-append, length-take}
use Rattle.histar_base.specs.Refusals.{◌orelse◌, unless}
use Rattle.histar_flat.specs.declared.calls.UnixCall.{UnixCall}
use Rattle.histar_flat.specs.declared.replies.Errno.{Errno}
use Rattle.histar_flat.specs.declared.replies.Errno.TheVariants.{ENOENT, EISDIR, EACCES, EFBIG}
use Rattle.histar_flat.specs.declared.replies.Reply.{Reply}
use Rattle.histar_flat.specs.declared.replies.Reply.TheVariants.{Refused, Done}
use Rattle.histar_flat.specs.Words.{Name, Path, ProcName}
use Rattle.histar_flat.specs.Accounts.{Accounts}
use Rattle.histar_flat.specs.Files.{get}
use Rattle.histar_flat.specs.Classes.{Class, Process}
use Rattle.histar_flat.specs.FlatState.{Flat, Node, Content, is_some_and, is_dir, is_there, is_file_at, into, bytes_at, writes}
use Rattle.histar_flat.specs.FlatState.{with_bytes as with_file_bytes}
use Rattle.histar_flat.specs.FlatState.Content.{Dir, File}
use Rattle.histar_flat.specs.FlatCalls as flat
use Rattle.histar_flat.specs.FlatCalls.{refused, changed, most_bytes}
use Rattle.histar_flat.specs.Needs.{file as file_needed}
use Rattle.histar_flat.proofs.CommonNeeds.{no_file}
use Rattle.histar_reasons.specs.Reasons.{Reason, not_written, why_need, why}
use Rattle.histar_reasons.specs.Reasons.Reason.{MayNotWrite, IsMissing, HasDirectory, IsTooLong}
use Rattle.histar_object.specs.State.{State, with_segment_bytes}
use Rattle.histar_object.specs.Objects.{bytes_in}
use Rattle.histar_rules.specs.declared.raw.RawCall.{RawCall}
use Rattle.histar_rules.specs.declared.raw.RawCall.TheVariants as raw
use Rattle.histar_rules.specs.declared.raw.Denied.{Denied}
use Rattle.histar_rules.specs.declared.raw.Denied.TheVariants.{Modify, TooBig}
use Rattle.histar_rules.specs.Rules.{check, fits_segment}
use Rattle.histar_trace.specs.declared.entries.TraceEntry.{TraceEntry}
use Rattle.histar_syscall.specs.KernelModel.{KernelModel, state}
use Rattle.histar_syscall.proofs.Runs.{same_kernel}
use Rattle.histar_layout.specs.declared.entry.Target.{Target}
use Rattle.histar_programs.specs.declared.call_error.Stopped.{Stopped}
use Rattle.histar_programs.specs.declared.find.FoundFile.{FoundFile}
use Rattle.histar_programs.specs.Programs.{Program, Runs}
use Rattle.histar_programs.specs.Programs.Program.{Answers}
use Rattle.histar_programs.specs.Parts.{find_file, file_at, given, ask}
use Rattle.histar_programs.specs.Refusals.{write_errno_of}
use Rattle.histar_programs.specs.Start.{roots_of}
use Rattle.histar_refinement.specs.Accounts.{AreAccounts}
use Rattle.histar_refinement.specs.Addresses.{address_of}
use Rattle.histar_refinement.specs.Directories.{directory_of}
use Rattle.histar_refinement.specs.Processes.{or_zero}
use Rattle.histar_refinement.specs.KeptNames.{RepresentsStill}
use Rattle.histar_refinement.specs.Represents.{ObjectsMatch}
use Rattle.histar_refinement.proofs.Writing.{still_overwritten}
use Rattle.histar_sim.specs.Simulation.{errno_by_rule}
use Rattle.histar_sim.proofs.Ready.{Ready}
use Rattle.histar_sim.specs.Reads.{AreAmong}
use Rattle.histar_sim.specs.Named.{IsFileAt}
use Rattle.histar_sim.proofs.FirstReasons.{unwritten_at, written_at, named_by}
use Rattle.histar_sim.proofs.ReadsByCall.{HasWalk, HasReadsByCall}
use Rattle.histar_sim.proofs.Chains.{Step, all_granted, entries_of, Chain}
use Rattle.histar_sim.specs.RawCalls.{in_directory, is_of_denial, number_at, plain, requests_of, unless_refused}
use Rattle.histar_sim.proofs.Requests.{AreLeft, EndWith, request, left_allowed, left_by_denial, left_then, of_denial}
use Rattle.histar_sim.proofs.Requests.{all_made, made_to_denial, made_to_end}
use Rattle.histar_sim.proofs.CallErrors.{IsDenialNamed, AreItsCalls, ReadsAmong, IsBacked}
use Rattle.histar_sim.proofs.Steps.{Goal, refused_at_once, granted_step, refused_step, answered_step}
use Rattle.histar_sim.proofs.Walks.{numbers, place_at, walk_reads, nothing_there, file_there, directory_there, among_granted_all, has_walk, look_step}
use Rattle.histar_sim.proofs.Walks.{among_then, among_also, way_clear}
use Rattle.histar_sim.proofs.FoundObjects.{container, segment, file_numbered, file_led_to, holds_bytes, writes_is, held_there, write_said}

-- What the flat rules say of a call on a file: what they refuse once it is reached, with its reason, and that the call cannot do without the
-- reads of the walk; and what it asks for after these of the file's container and segment.
pub record ReachesFile (accounts : Accounts) (f : Flat) (me : ProcName) (p : Process) (q : Path) (call : UnixCall)
    (later : Option Errno) (last : ℕ → ℕ → RawCall) : Type 0 where
  pub refuses : refused accounts f me p call ≡ (no_file accounts f p q orelse later)
  pub named : Option Reason
  pub explains : why accounts f me p call ≡ (why_need accounts f me p q file_needed orelse named)
  pub reads : (s : State) (reply : Reply) (entries : List TraceEntry) → HasWalk accounts s f p q entries
      → HasReadsByCall accounts s f p call reply entries
  pub asks : (s : State) (l : ObjectsMatch accounts s f)
      → requests_of accounts l me p call
      ≡ in_directory accounts l me p (refused accounts f me p call) q
      (λ d name. plain (last (number_at accounts l (address_of d)) (number_at accounts l (address_of (name ∷ d))) ∷ []))

-- a call on `/`, which is no file
pub slash_is_no_file : {M : Type 0} → (accounts : Accounts) (old new : KernelModel) (f : Flat) (me : ProcName) (t : ℕ)
    (ready : Ready M accounts (state old) f me t) (call : UnixCall) (result : Result Reply Stopped)
    (later : Option Errno) (last : ℕ → ℕ → RawCall)
    → ReachesFile accounts f me ready.caller.process [] call later last → (rest : FoundFile → Program)
    → Runs M (find_file (roots_of (length accounts.users)) [] rest) old new t result
    → Goal accounts f me call old new t ready result
unfolding find_file
slash_is_no_file accounts old new f me t ready call result later last file rest run =
    refused_at_once accounts f me call old new t ready result [] old (same_kernel old) refl
    EISDIR file.refuses refl refl (
      file.reads (state old) (Refused EISDIR) [] tt,
      all_made _ old.line t [] (file.asks (state old) ready.represents.matched),
    ) run

-- what the flat rules refuse of a file that is written
abbrev pub refusal : Bool → Bool → Option Errno
refusal may fits = unless may EACCES orelse unless fits EFBIG

-- What the flat rules say of a call that leaves these bytes in a file, by writing these bytes behind so many of the old ones.
pub record WritesFile (accounts : Accounts) (f : Flat) (me : ProcName) (p : Process) (q : Path) (call : UnixCall) (whole : List ℕ)
    (keep : ℕ) (bytes : List ℕ) : Type 0 where
  pub reaches : ReachesFile accounts f me p q call (refusal (writes accounts f p q) (nat_le (length whole) most_bytes))
      (λ container segment. raw.Write container segment keep bytes)
  pub names : reaches.named ≡ (not_written accounts f p q orelse unless (nat_le (length whole) most_bytes) (IsTooLong q (length whole)))
  pub changes : changed accounts f me p call ≡ with_file_bytes f q whole
  pub answers : flat.answer f me p call ≡ Done

-- the length counts what is kept of the old bytes, and what is written after it
kept_length : (keep : ℕ) (held bytes whole : List ℕ) → take keep held ++ bytes ≡ whole
    → fits_segment (min keep (length held) + length bytes) ≡ nat_le (length whole) most_bytes
kept_length keep held bytes whole is =
    let total : min keep (length held) + length bytes ≡ length whole =
    ap (λ (k : ℕ). k + length bytes) (sym (length-take keep held)) ∙ sym (length-append (take keep held) bytes)
    ∙ ap length is in
    ap (λ (k : ℕ). nat_le k most_bytes) total

module _ {M : Type 0} (accounts : Accounts) (ok : AreAccounts accounts) (old new : KernelModel) (f : Flat) (me : ProcName) (t : ℕ)
    (ready : Ready M accounts (state old) f me t) (m : Name) (d : Path) (call : UnixCall)
    (result : Result Reply Stopped) where
  abbrev Refined : Type 0
  Refined = Goal accounts f me call old new t ready result

  abbrev p : Process
  p = ready.caller.process

  abbrev walk : List RawCall
  walk = walk_reads accounts ok (state old) f me t ready d

  module _ (later : Option Errno) (last : ℕ → ℕ → RawCall) (file : ReachesFile accounts f me p (m ∷ d) call later last) where
    -- the reads of the walk are reads that the call cannot do without
    pub has_reads : (steps : List Step) (reply : Reply)
        → AreAmong (walk_reads accounts ok (state old) f me t ready d) (entries_of old.line t steps)
        → ReadsAmong accounts f me call old new t ready steps reply
    has_reads steps reply among =
        file.reads (state old) reply (entries_of old.line t steps)
        (has_walk accounts ok (state old) f me t ready m d (entries_of old.line t steps) among)

    -- what is asked of the file
    abbrev asked : RawCall
    asked = last (container accounts ok (state old) f me t ready d) (segment accounts ok (state old) f me t ready d m)

    left_walked : AreLeft (requests_of accounts ready.represents.matched me p call) walk
        (unless_refused (refused accounts f me p call) (request asked ∷ []))
    left_walked = file.asks (state old) ready.represents.matched

    -- the raw calls of a call that is refused by what the walk has read, or by a denial of a read
    ended : (errno : Errno) (steps : List Step) → refused accounts f me p call ≡ Some errno → AreAmong walk (entries_of old.line t steps)
        → EndWith errno walk steps → AreItsCalls accounts f me call old new t ready steps (Refused errno)
    ended errno steps is among end = (
      has_reads steps (Refused errno) among,
      made_to_end _ old.line t errno walk steps (refused accounts f me p call) (request asked ∷ []) is left_walked end,
    )

    -- the raw calls of a call that is refused by a denial at the file
    pub denied_there : (errno : Errno) (denied : Denied) → refused accounts f me p call ≡ Some errno → is_of_denial errno ≡ true
        → AreItsCalls accounts f me call old new t ready
        (all_granted (walk_reads accounts ok (state old) f me t ready d)
        ++ (last (container accounts ok (state old) f me t ready d) (segment accounts ok (state old) f me t ready d m), Some denied) ∷ [])
        (Refused errno)
    denied_there errno denied is by_denial = (
      has_reads _ (Refused errno) (among_also old.line t walk walk ((asked, Some denied) ∷ []) (among_granted_all old.line t walk)),
      made_to_denial _ old.line t walk (request asked) [] denied (left_by_denial _ walk _ errno (request asked ∷ []) is by_denial left_walked),
    )

    -- the raw calls of a call that is answered
    pub granted_there : (reply : Reply) → refused accounts f me p call ≡ None
        → AreItsCalls accounts f me call old new t ready
        (all_granted (walk_reads accounts ok (state old) f me t ready d
        ++ last (container accounts ok (state old) f me t ready d) (segment accounts ok (state old) f me t ready d m) ∷ [])) reply
    granted_there reply is = (
      has_reads _ reply (among_then old.line t walk walk (asked ∷ []) (among_granted_all old.line t walk)),
      all_made _ old.line t (walk ++ asked ∷ [])
          (left_then _ walk asked [] (left_allowed _ walk _ (request asked ∷ []) is left_walked)),
    )

    -- the tests of reaching the file in its directory, in their order
    abbrev tests : Option Node → Option Errno
    tests o = unless (is_some_and o (λ n. true)) ENOENT orelse unless (is_some_and o (λ n. not (is_dir n))) EISDIR

    refused_is : (way : Option Errno) (o : Option Node) → into accounts f p d ≡ way → get f.files (m ∷ d) ≡ o
        → refused accounts f me p call ≡ ((way orelse tests o) orelse later)
    refused_is way o is_way is_o = file.refuses ∙ (λ i. (is_way i orelse tests (is_o i)) orelse later)

    -- once the way is open and a file is at the path, the flat rules refuse what they refuse of the file
    pub reached : into accounts f p d ≡ None → (class : Class) (bytes : List ℕ)
        → get f.files (m ∷ d) ≡ Some (record { class = class; content = File bytes })
        → refused accounts f me p call ≡ later
    reached open_so_far class bytes at = refused_is None (Some (record { class = class; content = File bytes })) open_so_far at

    -- and the reason is that of this
    pub reached_reason : into accounts f p d ≡ None → (class : Class) (bytes : List ℕ)
        → get f.files (m ∷ d) ≡ Some (record { class = class; content = File bytes })
        → why accounts f me p call ≡ file.named
    reached_reason open_so_far class bytes at =
        let clear = way_clear accounts ok (state old) f me t ready d open_so_far in
        file.explains
        ∙ (λ i. (clear i orelse unless (is_some_and (at i) (λ n. true)) (IsMissing (m ∷ d))
        orelse unless (is_some_and (at i) (λ n. not (is_dir n))) (HasDirectory (m ∷ d))) orelse file.named)

    module _ (rest : FoundFile → Program) where
      -- the file that was found
      abbrev pub the_file : FoundFile
      the_file =
          record {
            container = (place_at accounts ok (state old) f me t ready d).container;
            segment = or_zero (numbers accounts ok (state old) f me t ready (address_of (m ∷ d)));
          }

      -- once the entry was looked up
      abbrev at_entry : Option Target → Program
      at_entry target =
          given (file_at target) (λ segment. rest (record
          { container = (place_at accounts ok (state old) f me t ready d).container; segment = segment }))

      -- the call goes on with the file
      abbrev pub GoesOn : Type 0
      GoesOn =
          into accounts f p d ≡ None → (class : Class) (bytes : List ℕ)
          → get f.files (m ∷ d) ≡ Some (record { class = class; content = File bytes })
          → (mid : KernelModel) → state mid ≡ state old → Chain old t (all_granted walk) mid
          → Runs M (rest the_file) mid new t result → Refined

      module _ (go_on : GoesOn) (open_so_far : into accounts f p d ≡ None) (mid : KernelModel)
          (stays : state mid ≡ state old) (chain : Chain old t (all_granted walk) mid)
          (on : Runs M (at_entry (map.get (directory_of f.files ready.represents.matched.naming.number d) m)) mid new t result) where
        among : AreAmong walk (entries_of old.line t (all_granted walk))
        among = among_granted_all old.line t walk

        leads : (target : Option Target)
            → map.get (directory_of f.files ready.represents.matched.naming.number d) m ≡ target
            → Runs M (at_entry target) mid new t result
        leads target is = subst (λ (target : Option Target). Runs M (at_entry target) mid new t result) is on

        by_content : (class : Class) (c : Content) → get f.files (m ∷ d) ≡ Some (record { class = class; content = c }) → Refined
        by_content class Dir is =
            refused_at_once accounts f me call old new t ready result walk mid chain stays EISDIR
            (refused_is None (Some (record { class = class; content = Dir })) open_so_far is) refl refl
            (ended EISDIR (all_granted walk) (refused_is None (Some (record { class = class; content = Dir })) open_so_far is) among
            (inl (refl, refl)))
            (leads _ (directory_there accounts ok (state old) f me t ready m d class is))
        by_content class (File bytes) is =
            go_on open_so_far class bytes is mid stays chain
            (leads _ (file_there accounts ok (state old) f me t ready m d class bytes is))

        by_agrees : (o : Option Node) → get f.files (m ∷ d) ≡ o → Refined
        by_agrees None is =
            refused_at_once accounts f me call old new t ready result walk mid chain stays ENOENT
            (refused_is None None open_so_far is) refl refl
            (ended ENOENT (all_granted walk) (refused_is None None open_so_far is) among (inl (refl, refl)))
            (leads _ (nothing_there accounts ok (state old) f me t ready m d is))
        by_agrees (Some node) is = by_content node.class node.content is

      -- the file is found, or the call is refused
      pub file_step : Runs M (find_file (roots_of (length accounts.users)) (m ∷ d) rest) old new t result → GoesOn → Refined
      unfolding find_file
      file_step runs go_on =
          look_step accounts ok old new f me t ready call result d m (λ place target.
          given (file_at target) (λ segment. rest (record { container = place.container; segment = segment })))
          runs (
            λ errno is steps among end.
                let refuses = refused_is (Some errno) (get f.files (m ∷ d)) is refl in (refuses, ended errno steps refuses among end),
            λ reason is. file.explains ∙ ap (λ (o : Option Reason). (o orelse unless (is_there f (m ∷ d)) (IsMissing (m ∷ d))
                orelse unless (is_file_at f (m ∷ d)) (HasDirectory (m ∷ d))) orelse file.named) is,
          )
          (λ open_so_far mid stays chain on. by_agrees go_on open_so_far mid stays chain on (get f.files (m ∷ d)) refl)

  -- ---- a call that writes the file, as `write` and `append` do

  module _ (keep : ℕ) (bytes whole : List ℕ) (writing : WritesFile accounts f me p (m ∷ d) call whole keep bytes) where
    -- the segment of the file, and the write of it
    abbrev file : ℕ
    file = segment accounts ok (state old) f me t ready d m

    abbrev next : RawCall
    next = raw.Write (container accounts ok (state old) f me t ready d) file keep bytes

    -- the file may be written
    abbrev may : Bool
    may = writes accounts f p (m ∷ d)

    -- the bytes are not too many
    abbrev fits : Bool
    fits = nat_le (length whole) most_bytes

    -- what is kept of the file's bytes, and the new ones after it, are the bytes that it has then
    module _ (kept : take keep (bytes_at f (m ∷ d)) ++ bytes ≡ whole) (open_so_far : into accounts f p d ≡ None)
        (class : Class) (held : List ℕ)
        (at : get f.files (m ∷ d) ≡ Some (record { class = class; content = File held }))
        (mid : KernelModel) (stays : state mid ≡ state old) (chain : Chain old t (all_granted walk) mid) where
      refused_by : (is_may is_fits : Bool) → may ≡ is_may → fits ≡ is_fits → refused accounts f me p call ≡ refusal is_may is_fits
      refused_by is_may is_fits e more = reached (refusal may fits) _ writing.reaches open_so_far class held at ∙ (λ i. refusal (e i) (more i))

      -- the kernel's check is the flat rule
      said_by : (is_may is_fits : Bool) → may ≡ is_may → fits ≡ is_fits
          → check (state mid) t next ≡ (unless is_may Modify orelse unless is_fits TooBig)
      said_by is_may is_fits e more =
          ap (λ (s : State). check s t next) stays
          ∙ write_said accounts ok (state old) f me t ready d open_so_far m class held at keep bytes
          ∙ (λ i. unless (e i) Modify orelse unless ((kept_length keep (bytes_at f (m ∷ d)) bytes whole kept ∙ more) i) TooBig)

      -- the reasons why the file is not written
      reason_is : why accounts f me p call ≡ (not_written accounts f p (m ∷ d) orelse unless fits (IsTooLong (m ∷ d) (length whole)))
      reason_is = reached_reason (refusal may fits) _ writing.reaches open_so_far class held at ∙ writing.names

      -- the segments lead to the file that is written
      there : IsFileAt accounts (state old) (m ∷ d) (container accounts ok (state old) f me t ready d) file
      there = file_led_to accounts ok (state old) f me t ready d open_so_far m class held at

      -- where it may not be written the write is on what the reason names, and where there are too many bytes too
      unwritten_named : may ≡ false → IsDenialNamed accounts f me call old new t ready next
      unwritten_named e =
          let node : Node = record { class = class; content = File held } in
          let fails = sym (writes_is accounts ok (state old) f me t ready d open_so_far m class held at) ∙ e in
          let found = unwritten_at accounts f p (m ∷ d) node at fails in
          named_by accounts (state old) f me p call next (MayNotWrite (m ∷ d) found.0)
          (reason_is ∙ ap (λ (o : Option Reason). o orelse unless fits (IsTooLong (m ∷ d) (length whole))) found.1)
          (inl (container accounts ok (state old) f me t ready d, file, there, (refl, refl)))

      too_long_named : may ≡ true → fits ≡ false → IsDenialNamed accounts f me call old new t ready next
      too_long_named e more =
          let node : Node = record { class = class; content = File held } in
          let passes = sym (writes_is accounts ok (state old) f me t ready d open_so_far m class held at) ∙ e in
          let none = written_at accounts f p (m ∷ d) node at passes in
          named_by accounts (state old) f me p call next (IsTooLong (m ∷ d) (length whole))
          (reason_is ∙ (λ i. none i orelse unless (more i) (IsTooLong (m ∷ d) (length whole))))
          (container accounts ok (state old) f me t ready d, file, there, (refl, refl))

      -- a denial is replied
      denied : (d : Denied) (errno : Errno) → check (state mid) t next ≡ Some d → write_errno_of d ≡ Some errno → errno_by_rule d ≡ Some errno
          → IsDenialNamed accounts f me call old new t ready next
          → refused accounts f me p call ≡ Some errno → Runs M (ask next (λ _. Answers Done)) mid new t result → Refined
      denied d errno fails revealed by_rule named is on =
          refused_step accounts f me call old new t ready result walk mid chain stays
          errno is next (λ _. Answers Done) d fails revealed by_rule named
          (denied_there (refusal may fits) _ writing.reaches errno d is (of_denial d errno by_rule)) on

      -- the kernel has the objects of the flat state with the new bytes
      matched_after : RepresentsStill ready.represents (with_segment_bytes (state old) file whole) (changed accounts f me p call)
      matched_after = subst (RepresentsStill ready.represents (with_segment_bytes (state old) file whole)) (sym writing.changes)
          (still_overwritten accounts (state old) f ready.represents.matched (m ∷ d) class held whole at file
          (file_numbered accounts ok (state old) f me t ready d open_so_far m class held at)
          ready.represents.jobs_given)

      left : (s : State) → s ≡ state old
          → with_segment_bytes s file (take keep (bytes_in (s.objects file)) ++ bytes)
          ≡ with_segment_bytes (state old) file whole
      left s same = let there = held_there accounts ok (state old) f me t ready d open_so_far m class held at in
          (λ i. with_segment_bytes (same i) file (take keep (bytes_in ((same i).objects file)) ++ bytes))
          ∙ (λ i. with_segment_bytes (state old) file (take keep (there i) ++ bytes)) ∙ ap (with_segment_bytes (state old) file) kept

      by_right : (is_may is_fits : Bool) → may ≡ is_may → fits ≡ is_fits → Runs M (ask next (λ _. Answers Done)) mid new t result
          → Refined
      by_right false is_fits e more on =
          denied Modify EACCES (said_by false is_fits e more) refl refl (unwritten_named e) (refused_by false is_fits e more) on
      by_right true false e more on =
          denied TooBig EFBIG (said_by true false e more) refl refl (too_long_named e more) (refused_by true false e more) on
      by_right true true e more on =
          granted_step accounts f me call old new t ready result walk mid chain next
          (λ _. Answers Done) (said_by true true e more) on
          (λ later answer called right longer end.
          let new_state : state later ≡ with_segment_bytes (state old) file whole = called.state ∙ left (state mid) stays in
          answered_step accounts f me call old new t ready result (walk ++ next ∷ []) later longer
          Done (sym writing.answers) (refused_by true true e more)
          (subst (λ (r : Reply). IsBacked (state old) (entries_of old.line t (all_granted (walk ++ next ∷ []))) r) (sym writing.answers) tt)
          (granted_there (refusal may fits) _ writing.reaches _ (refused_by true true e more))
          (subst (λ (s : State). RepresentsStill ready.represents s (changed accounts f me p call)) (sym new_state) matched_after) end)

    -- The file is found and written, or the call is refused.
    pub writing_step : (length (bytes_at f (m ∷ d)) ≤ most_bytes → take keep (bytes_at f (m ∷ d)) ++ bytes ≡ whole)
        → Runs M (find_file (roots_of (length accounts.users)) (m ∷ d)
        (λ found. ask (raw.Write found.container found.segment keep bytes) (λ _. Answers Done))) old new t
        result → Refined
    writing_step kept run =
        file_step (refusal may fits) _ writing.reaches _ run
        (λ open_so_far class held at mid stays chain on.
        by_right (kept (subst (λ (xs : List ℕ). length xs ≤ most_bytes)
        (sym (holds_bytes accounts ok (state old) f me t ready d open_so_far m class held at))
        (ready.small (m ∷ d) class held at)))
        open_so_far class held at mid stays chain may fits refl refl on)
