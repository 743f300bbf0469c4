-- What a call does to the state: each call does nothing or makes one of nine changes, with the facts that its tests establish.
use Rattle.std.specs.Prelude.{◌≡◌, ◌≢◌, ℕ, Bool, true, false, not, if◌then◌else◌, ◌&&◌, List, [], ◌∷◌, length, nat_lt, Option, Some, None, is_some}
use Rattle.std.specs.Prelude.{refl}
use Rattle.std.proofs.Common.{ap, sym, ◌∙◌, subst, inl, inr}
use Rattle.std.proofs.lemmas.Bool.{true≢false, not-true}
use Rattle.histar_flat.specs.declared.calls.Mode.{Mode}
use Rattle.histar_flat.specs.declared.calls.Mode.TheVariants as modes
use Rattle.histar_flat.specs.declared.calls.UnixCall.{UnixCall}
use Rattle.histar_flat.specs.declared.calls.UnixCall.TheVariants.{Rename, Wrap}
use Rattle.histar_flat.specs.declared.replies.Errno.{Errno}
use Rattle.histar_flat.specs.declared.replies.Errno.TheVariants.{ENOENT, EEXIST, EACCES, ENOSPC}
use Rattle.histar_flat.specs.Words.{Name, Path, ProcName}
use Rattle.histar_base.specs.Paths.{same}
use Rattle.histar_flat.specs.PathOrder.{under_path}
use Rattle.histar_flat.specs.Accounts.{Accounts, has, is_member, user_named}
use Rattle.histar_flat.specs.Files.{get}
use Rattle.histar_flat.specs.Classes.{Class, Process, nobody, is_free, free_class, class_made, carries}
use Rattle.histar_flat.specs.Classes.Class.{Private, Readable, Scratch, Grouped}
use Rattle.histar_flat.specs.FlatState.{Flat, Node, is_some_and, is_there, is_file_at, writes, bytes_at, entries_in, into, with_node, with_bytes}
use Rattle.histar_flat.specs.FlatState.{without_below, with_renamed, with_process, with_child, without_process}
use Rattle.histar_flat.specs.FlatCalls.{most_entries, is_child, refused, class_or_open, changed, flat_or, if_running, running, flat_by, flat_after}
use Rattle.histar_flat.proofs.CommonNeeds.{no_room, no_entry}
use Rattle.histar_flat.specs.Effects.{Effect, apply}
use Rattle.histar_flat.specs.Effects.Effect.{Nothing, Makes, Stores, Removes, Renames, Spawns, Exits, LogsIn, Kills, Wraps}
use Rattle.histar_flat.specs.CallRules.{path_of, rule}
use Rattle.histar_flat.specs.Laws.{removes, takes_away}
use Rattle.histar_flat.specs.RuleLaws.{Warrant}
use Rattle.histar_flat.proofs.Warrants.{nothing_there, warranted}
use Rattle.histar_flat.proofs.FileLemmas.{same_name_found}
use Rattle.histar_flat.proofs.Refusals.{one_passes, two_pass, three_pass}

-- only a process in a job makes what is of the job
made_in_job : (accounts : Accounts) (p : Process) (mode : Mode) (job : ProcName)
    → carries job (class_or_open (class_made accounts p mode)) ≡ true → has p.chain job ≡ true
made_in_job accounts p mode job h = by p.chain h
  where
    member : (b : Bool) (class : Class) → carries job class ≡ false → carries job (class_or_open (if b then Some class else None)) ≡ false
    member true class h = h
    member false class h = refl

    unless_nobody : (b : Bool) (class : Class) → carries job class ≡ false → carries job (class_or_open (if b then None else Some class)) ≡ false
    unless_nobody true class h = refl
    unless_nobody false class h = h

    free : (m : Mode) → carries job (class_or_open (free_class accounts p m)) ≡ false
    free modes.Open = refl
    free modes.Private = unless_nobody (same p.user nobody) (Private p.user) refl
    free modes.Readable = unless_nobody (same p.user nobody) (Readable p.user) refl
    free (modes.Group group) = member (is_member accounts p.user group) (Grouped group) refl

    by : (jobs : List ProcName)
        → carries job (class_or_open (if (let b : Bool = elim jobs [ [] ↦ true | k ∷ ks ↦ false ] in b) then free_class accounts p mode else
        Some (Scratch p.user jobs))) ≡ true → has jobs job ≡ true
    by [] h = absurd (true≢false (sym h ∙ free mode))
    by (k ∷ ks) h = h

-- what making an entry has tested
pub room_tests : (accounts : Accounts) (f : Flat) (p : Process) (n : Name) (d : Path)
    → no_room accounts f p (n ∷ d) ≡ None
    → (into accounts f p d ≡ None) × (get f.files (n ∷ d) ≡ None) × (writes accounts f p d ≡ true)
room_tests accounts f p n d h =
    let tests =
    three_pass (into accounts f p d) (not (is_there f (n ∷ d))) (nat_lt (length (entries_in f d)) most_entries)
    (writes accounts f p d) EEXIST ENOSPC EACCES h in
    (tests.0, nothing_there (get f.files (n ∷ d)) tests.1, tests.3)

-- what a rename has tested
pub rename_tests : (accounts : Accounts) (f : Flat) (me : ProcName) (p : Process) (n k : Name) (d : Path)
    → refused accounts f me p (Rename (n ∷ d) k) ≡ None
    → (n ≢ k) × (get f.files (k ∷ d) ≡ None) × (writes accounts f p d ≡ true)
rename_tests accounts f me p n k d h =
    let tests = two_pass (no_entry accounts f p (n ∷ d)) (not (is_there f (k ∷ d))) (writes accounts f p d) EEXIST EACCES h in
    let there = (one_passes (into accounts f p d) (is_there f (n ∷ d)) ENOENT tests.0).1 in (
      (λ e. true≢false (sym tests.1 ∙ ap (λ x. not (is_there f (x ∷ d))) (sym e) ∙ ap not there)),
      nothing_there
          (get f.files (k ∷ d)) tests.1,
      tests.2,
    )

-- a path with nothing has another name
pub another_name : (f : Flat) (n k : Name) (d : Path) → is_there f (n ∷ d) ≡ true → get f.files (k ∷ d) ≡ None → n ≢ k
another_name f n k d there free e = true≢false (sym there ∙ ap (λ x. is_there f (x ∷ d)) e ∙ ap (λ o. is_some_and o (λ n. true)) free)

-- What has to be shown of each change by a call of the process p, whose name is me, so that P holds after the call.
pub record EachChange (accounts : Accounts) (f : Flat) (me : ProcName) (p : Process) (call : UnixCall) (P : Flat → Type 0) : Type 0 where
  pub stays : P f
  pub makes : (n : Name) (d : Path) (x : Node) → into accounts f p d ≡ None → get f.files (n ∷ d) ≡ None → writes accounts f p d ≡ true
      → ((job : ProcName) → carries job x.class ≡ true → has p.chain job ≡ true)
      → (mode : Mode) → x.class ≡ class_or_open (class_made accounts p mode) → P (with_node f (n ∷ d) x.class x.content)
  pub overwrites : (n : Name) (d : Path) (bytes : List ℕ) → is_file_at f (n ∷ d) ≡ true
      → writes accounts f p (n ∷ d) ≡ true → P (with_bytes f (n ∷ d) bytes)
  pub cuts : (n : Name) (d : Path) → ((q : Path) → takes_away call q ≡ under_path (n ∷ d) q)
      → writes accounts f p d ≡ true → P (without_below f (n ∷ d))
  pub renames : (n k : Name) (d : Path) → ((q : Path) → takes_away call q ≡ under_path (n ∷ d) q) → n ≢ k
      → get f.files (k ∷ d) ≡ None → writes accounts f p d ≡ true → P (with_renamed f (n ∷ d) (k ∷ d))
  pub spawns : (rule call).effect ≡ Spawns → P (with_child f me p p.chain)
  pub exits : (n : ℕ) → (rule call).effect ≡ Exits n → P (with_process f me (record p { exited = Some n }))
  pub logs_in : (name : Name) → (rule call).effect ≡ LogsIn name → is_some (user_named accounts.users name) ≡ true
      → is_free p ≡ true → P (with_process f me (record p { user = name; held = [] }))
  pub kills : (n : ℕ) → P (without_process f (n ∷ me))
  pub wraps : (n : Name) (d : Path) → (rule call).effect ≡ Wraps → into accounts f p d ≡ None
      → get f.files (n ∷ d) ≡ None → writes accounts f p d ≡ true → same p.user nobody ≡ false
      → P (changed accounts f me p (Wrap (n ∷ d)))

pub or_stays : (P : Flat → Type 0) (f g : Flat) (e : Option Errno) → P f → (e ≡ None → P g) → P (flat_or e f g)
or_stays P f g None h k = k refl
or_stays P f g (Some e) h k = h

module _ (accounts : Accounts) (f : Flat) (me : ProcName) (p : Process) (P : Flat → Type 0) (call : UnixCall)
    (each : EachChange accounts f me p call P) where
  killed : (q : ProcName) → is_child me q ≡ true → P (without_process f q)
  killed [] h = absurd (true≢false (sym h))
  killed (n ∷ above) h = elim (same_name_found me above) [
    | inl e ↦ subst (λ x. P (without_process f (n ∷ x))) e.1 (each.kills n)
    | inr e ↦ absurd (true≢false (sym h ∙ e.0))
  ]

  -- Each effect that is warranted is one of these changes.
  by_effect : (q : Path) → path_of call ≡ q → (effect : Effect) → (rule call).effect ≡ effect
      → Warrant accounts f me p q effect → P (apply accounts f me p q effect)
  by_effect q named Nothing is may = each.stays
  by_effect [] named (Makes content mode) is may = absurd (true≢false (sym may.0))
  by_effect (n ∷ d) named (Makes content mode) is may =
      each.makes n d (record { class = class_or_open (class_made accounts p mode); content = content }) may.1 may.2
      may.3 (made_in_job accounts p mode) mode refl
  by_effect [] named (Stores new) is may = absurd (true≢false (sym may.0))
  by_effect (n ∷ d) named (Stores new) is may = each.overwrites n d (new (bytes_at f (n ∷ d))) may.2 may.3
  by_effect [] named Removes is may = absurd (true≢false (sym may.0))
  by_effect (n ∷ d) named Removes is may = each.cuts n d (λ r i. removes (is i) && under_path (named i) r) may.1
  by_effect [] named (Renames k) is may = absurd (true≢false (sym may.0))
  by_effect (n ∷ d) named (Renames k) is may =
      each.renames n k d (λ r i. removes (is i) && under_path (named i) r) (another_name f n k d may.1 may.2) may.2
      may.3
  by_effect q named Spawns is may = each.spawns is
  by_effect q named (Exits n) is may = each.exits n is
  by_effect q named (LogsIn name) is may = each.logs_in name is may.0 may.1
  by_effect q named (Kills name) is may = killed name may
  by_effect [] named Wraps is may = absurd (true≢false (sym may.0))
  by_effect (n ∷ d) named Wraps is may = each.wraps n d is may.1 may.2 may.3 (not-true (same p.user nobody) may.4)

  -- Each call makes one of these changes.
  pub by_change : P (flat_by accounts f me (Some p) call)
  by_change = or_stays P f (changed accounts f me p call) (refused accounts f me p call) each.stays
      (λ passes. by_effect (path_of call) refl (rule call).effect refl (warranted accounts f me p call passes))

-- a process that runs is there
pub runs_is_there : (o : Option Process) (p : Process) → if_running o ≡ Some p → o ≡ Some p
runs_is_there None p h = absurd (cc)
runs_is_there (Some q) p h = by q.exited h
  where
    by : (e : Option ℕ) → (let r : Option Process = elim e [ None ↦ Some q | Some n ↦ None ] in r) ≡ Some p → Some q ≡ Some p
    by None h = h
    by (Some n) h = absurd (cc)

-- A line changes nothing, or is a call of a process that is there.
pub by_line : (accounts : Accounts) (f : Flat) (me : ProcName) (call : UnixCall) (P : Flat → Type 0) → P f
    → ((p : Process) → running f me ≡ Some p → EachChange accounts f me p call P) → P (flat_after accounts f me call)
by_line accounts f me call P still moves = by (running f me) refl
  where
    by : (o : Option Process) → running f me ≡ o → P (flat_by accounts f me o call)
    by None e = still
    by (Some p) e = by_change accounts f me p P call (moves p e)

-- A line changes nothing, or has an effect with its warrant, of a process that is there.
pub by_rule : (accounts : Accounts) (f : Flat) (me : ProcName) (call : UnixCall) (P : Flat → Type 0) → P f
    → ((p : Process) → f.processes me ≡ Some p → Warrant accounts f me p (path_of call) (rule call).effect
    → P (apply accounts f me p (path_of call) (rule call).effect))
    → P (flat_after accounts f me call)
by_rule accounts f me call P still moves = by (running f me) refl
  where
    by : (o : Option Process) → running f me ≡ o → P (flat_by accounts f me o call)
    by None e = still
    by (Some p) e = or_stays P f (changed accounts f me p call) (refused accounts f me p call) still
        (λ passes. moves p (runs_is_there (f.processes me) p e) (warranted accounts f me p call passes))
