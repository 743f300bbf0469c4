-- Room for an entry: the walk into its directory is made, it has no entry of the name, and it has fewer than 64 entries; or the
-- call is refused as the flat rules refuse it.
use Rattle.std.proofs.Common.{◌≡◌, ℕ, Bool, true, false, List, [], ◌∷◌, ◌++◌, Option, None, Some, Result, inl, inr, arith, refl}
use Rattle.std.proofs.Common.{sym, ap, ◌∙◌, subst, length, ◌≤◌, ◌==◌}
use Rattle.std.specs.Prelude.{nat_lt, not}
use Rattle.std.specs.FinMap as map
use Rattle.std.proofs.lemmas.Bool.Decides.{nat_tests}
use Rattle.histar_base.specs.Refusals.{◌orelse◌, unless}
use Rattle.histar_flat.specs.declared.calls.UnixCall.{UnixCall}
use Rattle.histar_flat.specs.declared.replies.Errno.{Errno}
use Rattle.histar_flat.specs.declared.replies.Errno.TheVariants.{EACCES, EEXIST, ENOSPC}
use Rattle.histar_flat.specs.declared.replies.Reply.{Reply}
use Rattle.histar_flat.specs.declared.replies.Reply.TheVariants.{Refused}
use Rattle.histar_flat.specs.Words.{Name, Path, ProcName}
use Rattle.histar_flat.specs.Accounts.{Accounts}
use Rattle.histar_flat.specs.Files.{get}
use Rattle.histar_flat.specs.Classes.{Class, Process, may_write}
use Rattle.histar_flat.specs.FlatState.{Flat, Content, entries_in, into, Node, is_some_and, is_there, writes}
use Rattle.histar_flat.specs.FlatState.Content.{Dir, File}
use Rattle.histar_flat.specs.FlatCalls.{refused, most_entries}
use Rattle.histar_flat.specs.Needs.{room as room_needed}
use Rattle.histar_flat.specs.PathOrder.{parent}
use Rattle.histar_flat.specs.CallRules.{path_of}
use Rattle.histar_flat.proofs.CommonNeeds.{no_room}
use Rattle.histar_reasons.specs.Reasons.{Reason, not_written, why_need, why}
use Rattle.histar_reasons.specs.Reasons.Reason.{MayNotWrite, IsTaken, IsFull}
use Rattle.histar_object.specs.State.{State}
use Rattle.histar_rules.specs.declared.raw.RawCall.{RawCall}
use Rattle.histar_syscall.specs.KernelModel.{KernelModel, state}
use Rattle.histar_trace.specs.declared.entries.TraceEntry.{TraceEntry}
use Rattle.histar_layout.specs.Directory.{Entries}
use Rattle.histar_layout.specs.declared.entry.Target.{Target}
use Rattle.histar_programs.specs.declared.call_error.Stopped.{Stopped}
use Rattle.histar_programs.specs.Programs.{Program, Runs}
use Rattle.histar_programs.specs.Programs.Program.{Answers}
use Rattle.histar_programs.specs.Parts.{find_room, room_at, given}
use Rattle.histar_programs.specs.declared.find.Room.{Room}
use Rattle.histar_programs.specs.Replies.{is_access, is_permission}
use Rattle.histar_programs.specs.Start.{roots_of}
use Rattle.histar_refinement.specs.Accounts.{AreAccounts}
use Rattle.histar_refinement.proofs.Making.{count_entries}
use Rattle.histar_sim.proofs.Ready.{Ready}
use Rattle.histar_sim.specs.Reads.{AreAmong}
use Rattle.histar_sim.specs.Named.{IsMaking, MakesAt, IsAbout}
use Rattle.histar_sim.proofs.FirstReasons.{unwritten_at, written_at, named_by}
use Rattle.histar_sim.proofs.ReadsByCall.{HasWalk, HasReadsByCall}
use Rattle.histar_sim.proofs.Chains.{all_granted, entries_of, Chain, Step}
use Rattle.histar_sim.specs.RawCalls.{Request, is_of_denial, plain, requests_of, unless_refused}
use Rattle.histar_sim.proofs.Requests.{AreLeft, EndWith, all_made, left_after, made_to_end}
use Rattle.histar_sim.proofs.CallErrors.{IsDenialNamed, AreItsCalls, ReadsAmong}
use Rattle.histar_sim.proofs.Steps.{Goal, refused_at_once}
use Rattle.histar_sim.proofs.Walks.{place_at, walk_reads, holds, among_granted_behind, nothing_there, file_there, directory_there, has_walk}
use Rattle.histar_sim.proofs.Walks.{found, way_clear, walk_step_behind}
use Rattle.histar_sim.proofs.FoundObjects.{entries, is_dir, directory_class, directory_agrees, writes_as_class}

-- What the flat rules say of a call that needs room for an entry at its path: where there is none they refuse it, with the reason of that, and
-- it cannot do without the reads of the walk.
pub record NeedsRoom (accounts : Accounts) (f : Flat) (me : ProcName) (p : Process) (q : Path) (call : UnixCall)
    (behind : Option Errno) : Type 0 where
  pub refuses : refused accounts f me p call ≡ (no_room accounts f p q orelse behind)
  pub path : path_of call ≡ q
  pub named : Option Reason
  pub explains : why accounts f me p call ≡ (why_need accounts f me p q room_needed orelse named)
  pub reads : (s : State) (reply : Reply) (entries : List TraceEntry) → HasWalk accounts s f p q entries
      → HasReadsByCall accounts s f p call reply entries

-- there is no room for `/`, which is there already
pub slash_agrees : {M : Type 0} → (accounts : Accounts) (old new : KernelModel) (f : Flat) (me : ProcName) (t : ℕ)
    (ready : Ready M accounts (state old) f me t) (call : UnixCall) (result : Result Reply Stopped)
    (behind : Option Errno)
    → NeedsRoom accounts f me ready.caller.process [] call behind → (before : List RawCall) (start : KernelModel)
    → state start ≡ state old → Chain old t (all_granted before) start
    → AreLeft (requests_of accounts ready.represents.matched me ready.caller.process call) before []
    → (rest : Room → Program) → Runs M (find_room (roots_of (length accounts.users)) [] rest) start new t result
    → Goal accounts f me call old new t ready result
unfolding find_room
slash_agrees accounts old new f me t ready call result behind needs before start unchanged begun left rest run =
    refused_at_once accounts f me call old new t ready result before start begun unchanged
    EEXIST needs.refuses refl refl
    (needs.reads (state old) (Refused EEXIST) (entries_of old.line t (all_granted before)) tt, all_made _ old.line t before left) run

-- the place of a new entry in a directory
abbrev pub the_room : {M : Type 0} → (accounts : Accounts) (ok : AreAccounts accounts) (s : State) (f : Flat) (me : ProcName) (t : ℕ)
    (ready : Ready M accounts s f me t) → Path → Name → Room
the_room accounts ok s f me t ready d m =
    record { place = place_at accounts ok s f me t ready d; entries = entries accounts ok s f me t ready d; name = m }

module _ {M : Type 0} (accounts : Accounts) (ok : AreAccounts accounts) (old new : KernelModel) (f : Flat) (me : ProcName) (t : ℕ)
    (ready : Ready M accounts (state old) f me t) (m : Name) (d : Path) (call : UnixCall)
    (result : Result Reply Stopped)
    (behind : Option Errno) (needs : NeedsRoom accounts f me ready.caller.process (m ∷ d) call behind) where
  abbrev Refined : Type 0
  Refined = Goal accounts f me call old new t ready result

  abbrev p : Process
  p = ready.caller.process

  abbrev listed : Entries
  listed = entries accounts ok (state old) f me t ready d

  abbrev reads : List RawCall
  reads = walk_reads accounts ok (state old) f me t ready d

  abbrev room_here : Room
  room_here = the_room accounts ok (state old) f me t ready d m

  -- the reads of the walk are reads that the call cannot do without
  pub has_reads : (steps : List Step) (reply : Reply)
      → AreAmong (walk_reads accounts ok (state old) f me t ready d) (entries_of old.line t steps)
      → ReadsAmong accounts f me call old new t ready steps reply
  has_reads steps reply among =
      needs.reads (state old) reply (entries_of old.line t steps)
      (has_walk accounts ok (state old) f me t ready m d (entries_of old.line t steps) among)

  -- the directory has room
  abbrev roomy : Bool
  roomy = nat_lt (length (entries_in f d)) most_entries

  -- the tests of making an entry in the directory, in their order
  abbrev tests : Option Node → Bool → Bool → Option Errno
  tests o room may = unless (not (is_some_and o (λ n. true))) EEXIST orelse unless room ENOSPC orelse unless may EACCES

  refused_is : (way : Option Errno) (o : Option Node) (room may : Bool) → into accounts f p d ≡ way
      → get f.files (m ∷ d) ≡ o → roomy ≡ room → writes accounts f p d ≡ may
      → refused accounts f me p call ≡ ((way orelse tests o room may) orelse behind)
  refused_is way o room may is_way is_o is_room is_may = needs.refuses ∙ (λ i. (is_way i orelse tests (is_o i) (is_room i) (is_may i)) orelse behind)

  -- once there is room the directory may be written, or the call is refused
  pub refused_in_room : (open_so_far : into accounts f ready.caller.process d ≡ None) → get f.files (m ∷ d) ≡ None
      → nat_lt (length (entries_in f d)) most_entries ≡ true
      → (may : Bool)
      → may_write accounts ready.caller.process (directory_class accounts ok (state old) f me t ready d open_so_far)
      ≡ may → refused accounts f me ready.caller.process call ≡ (unless may EACCES orelse behind)
  refused_in_room open_so_far absent room may is_may =
      refused_is None None true may open_so_far absent room
      (writes_as_class accounts ok (state old) f me t ready d open_so_far ∙ is_may)

  -- what is made in the directory is on what the reason names: the directory, where it may not be written, or where nothing may be made in it
  module _ (open_so_far : into accounts f ready.caller.process d ≡ None) (absent : get f.files (m ∷ d) ≡ None)
      (room : nat_lt (length (entries_in f d)) most_entries ≡ true) (next : RawCall)
      (making : IsMaking (place_at accounts ok (state old) f me t ready d).container next) where
    abbrev above : Node
    above = record { class = directory_class accounts ok (state old) f me t ready d open_so_far; content = Dir }

    above_agrees : get f.files d ≡ Some above
    above_agrees = directory_agrees accounts ok (state old) f me t ready d open_so_far

    reason_is : why accounts f me ready.caller.process call ≡ (not_written accounts f ready.caller.process d orelse needs.named)
    reason_is =
        let clear = way_clear accounts ok (state old) f me t ready d open_so_far in
        needs.explains
        ∙ (λ i. (clear i orelse unless (not (is_some_and (absent i) (λ n. true))) (IsTaken (m ∷ d))
        orelse unless (room i) (IsFull d (length (entries_in f d))) orelse not_written accounts f ready.caller.process d)
        orelse needs.named)

    makes_here : MakesAt accounts (state old) d next
    makes_here =
        let place = place_at accounts ok (state old) f me t ready d in
        let is = is_dir accounts ok (state old) f me t ready d open_so_far in
        (place.container, place.listing, found accounts ok (state old) f me t ready d is, making)

    pub unwritten_named : may_write accounts ready.caller.process (directory_class accounts ok (state old) f me t ready d open_so_far) ≡ false
        → IsDenialNamed accounts f me call old new t ready next
    unwritten_named fails =
        let cause = unwritten_at accounts f p d above above_agrees fails in
        named_by accounts (state old) f me p call next (MayNotWrite d cause.0)
        (reason_is ∙ ap (λ (o : Option Reason). o orelse needs.named) cause.1) (inr (inl makes_here))

    pub unmade_named : may_write accounts ready.caller.process (directory_class accounts ok (state old) f me t ready d open_so_far) ≡ true
        → (reason : Reason) → needs.named ≡ Some reason
        → (MakesAt accounts (state old) (parent (path_of call)) next → IsAbout accounts (state old) call reason next)
        → IsDenialNamed accounts f me call old new t ready next
    unmade_named passes reason is about =
        named_by accounts (state old) f me p call next reason
        (reason_is ∙ ap (λ (o : Option Reason). o orelse needs.named) (written_at accounts f p d above above_agrees passes) ∙ is)
        (about (subst (λ (q : Path). MakesAt accounts (state old) q next) (sym (ap parent needs.path)) makes_here))

  module _ (before : List RawCall) (start : KernelModel) (unchanged : state start ≡ state old)
      (begun : Chain old t (all_granted before) start) (after : List Request)
      (left : AreLeft (requests_of accounts ready.represents.matched me ready.caller.process call) before
      (plain (walk_reads accounts ok (state old) f me t ready d)
      ++ unless_refused (refused accounts f me ready.caller.process call) after)) (rest : Room → Program) where
    -- the raw calls up to the end of the walk
    abbrev reached : List RawCall
    reached = before ++ reads

    -- after the walk
    pub left_walked : AreLeft (requests_of accounts ready.represents.matched me ready.caller.process call)
        (before ++ walk_reads accounts ok (state old) f me t ready d)
        (unless_refused (refused accounts f me ready.caller.process call) after)
    left_walked = left_after _ before reads _ left

    -- the raw calls of a call that is refused by what the walk has read, or by a denial of a read
    ended : (errno : Errno) (steps : List Step) → refused accounts f me p call ≡ Some errno → AreAmong reads (entries_of old.line t steps)
        → EndWith errno (before ++ reads) steps → AreItsCalls accounts f me call old new t ready steps (Refused errno)
    ended errno steps is among end =
        (has_reads steps (Refused errno) among, made_to_end _ old.line t errno (before ++ reads) steps _ after is left_walked end)

    -- once the name was looked up
    abbrev at_entry : Option Target → Bool → Program
    at_entry target full = given (room_at target full) (λ _. rest room_here)

    -- the call goes on with the room
    abbrev pub GoesOnWithRoom : Type 0
    GoesOnWithRoom =
        into accounts f p d ≡ None → get f.files (m ∷ d) ≡ None → nat_lt (length (entries_in f d)) most_entries ≡ true
        → (mid : KernelModel) → state mid ≡ state old
        → Chain old t (all_granted (before ++ walk_reads accounts ok (state old) f me t ready d)) mid
        → Runs M (rest (the_room accounts ok (state old) f me t ready d m)) mid new t result → Refined

    module _ (go_on : GoesOnWithRoom) (open_so_far : into accounts f p d ≡ None) (mid : KernelModel)
        (stays : state mid ≡ state old) (chain : Chain old t (all_granted reached) mid)
        (on : Runs M (at_entry (map.get listed m) (map.len listed == most_entries)) mid new t result) where
      -- the directory is full exactly where it has no room
      few : map.len listed ≤ most_entries
      few = (holds accounts ok (state old) f me t ready d (is_dir accounts ok (state old) f me t ready d open_so_far)).listable.few

      full_test : (has_room : Bool) → roomy ≡ has_room → (map.len listed == most_entries) ≡ not has_room
      full_test true e = let count = count_entries accounts (state old) f ready.represents.matched d in grind (arith, nat_tests, count, few, e)
      full_test false e = let count = count_entries accounts (state old) f ready.represents.matched d in grind (arith, nat_tests, count, few, e)

      -- the call is refused with no raw call more
      ends_here : (errno : Errno) → is_access errno ≡ false → is_permission errno ≡ false → is_of_denial errno ≡ false
          → refused accounts f me p call ≡ Some errno → Runs M (Answers (Refused errno)) mid new t result → Refined
      ends_here errno no_access no_permission no_denial is end =
          refused_at_once accounts f me call old new t ready result reached mid chain stays
          errno is no_access no_permission
          (ended errno (all_granted reached) is (among_granted_behind old.line t before reads) (inl (refl, no_denial))) end

      looked_up : (target : Option Target) → map.get listed m ≡ target
          → Runs M (at_entry target (map.len listed == most_entries)) mid new t result
      looked_up target is = subst (λ (o : Option Target). Runs M (at_entry o (map.len listed == most_entries)) mid new t result) is on

      by_content : (class : Class) (c : Content) → get f.files (m ∷ d) ≡ Some (record { class = class; content = c }) → Refined
      by_content class Dir is =
          ends_here EEXIST refl refl refl (refused_is None _ roomy (writes accounts f p d) open_so_far is refl refl)
          (looked_up _ (directory_there accounts ok (state old) f me t ready m d class is))
      by_content class (File bytes) is =
          ends_here EEXIST refl refl refl (refused_is None _ roomy (writes accounts f p d) open_so_far is refl refl)
          (looked_up _ (file_there accounts ok (state old) f me t ready m d class bytes is))

      by_room : (b : Bool) → roomy ≡ b → get f.files (m ∷ d) ≡ None → Runs M (at_entry None (not b)) mid new t result → Refined
      by_room false no_room absent full =
          ends_here ENOSPC refl refl refl
          (refused_is None None false (writes accounts f p d) open_so_far absent no_room refl) full
      by_room true room absent free = go_on open_so_far absent room mid stays chain free

      by_agrees : (o : Option Node) → get f.files (m ∷ d) ≡ o → Refined
      by_agrees None absent =
          by_room roomy refl absent (subst (λ (b : Bool). Runs M (at_entry None b) mid new t result) (full_test roomy refl)
          (looked_up None (nothing_there accounts ok (state old) f me t ready m d absent)))
      by_agrees (Some node) is = by_content node.class node.content is

    -- There is room, or the call is refused.
    pub room_step : Runs M (find_room (roots_of (length accounts.users)) (m ∷ d) rest) start new t result → GoesOnWithRoom → Refined
    unfolding find_room
    room_step runs go_on =
        walk_step_behind accounts ok old new f me t ready call result before start unchanged begun d
        (λ directory. given (room_at (map.get directory.entries m) (map.len directory.entries == most_entries))
        (λ _. rest (record { place = directory.place; entries = directory.entries; name = m }))) runs (
          λ errno is steps among end.
              let refuses = refused_is (Some errno) (get f.files (m ∷ d)) roomy (writes accounts f p d) is refl refl refl in
              (refuses, ended errno steps refuses among end),
          λ reason is. needs.explains ∙ ap (λ (o : Option Reason). (o orelse unless (not (is_there f (m ∷ d))) (IsTaken (m ∷ d))
              orelse unless roomy (IsFull d (length (entries_in f d))) orelse not_written accounts f p d) orelse needs.named) is,
        )
        (λ open_so_far mid stays chain on. by_agrees go_on open_so_far mid stays chain on (get f.files (m ∷ d)) refl)
