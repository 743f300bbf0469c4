-- A call that removes or renames an entry: the entry is found, or the call is refused as the flat rules refuse it.
use Rattle.std.proofs.Common.{◌≡◌, ℕ, inl, true, false, ◌&&◌, List, ◌∷◌, Option, None, Some, Result}
use Rattle.std.proofs.Common.{refl, sym, ap, ◌∙◌, subst, length}
use Rattle.std.specs.Prelude.{not, is_some}
use Rattle.std.specs.FinMap as map
use Rattle.histar_base.specs.Refusals.{◌orelse◌, unless}
use Rattle.histar_flat.specs.declared.calls.UnixCall.{UnixCall}
use Rattle.histar_flat.specs.declared.replies.Errno.{Errno}
use Rattle.histar_flat.specs.declared.replies.Errno.TheVariants.{ENOENT}
use Rattle.histar_flat.specs.declared.replies.Reply.{Reply}
use Rattle.histar_flat.specs.declared.replies.Reply.TheVariants.{Refused}
use Rattle.histar_flat.specs.Words.{Name, Path, ProcName}
use Rattle.histar_flat.specs.Accounts.{Accounts}
use Rattle.histar_flat.specs.Files.{get}
use Rattle.histar_flat.specs.Classes.{Class, Process}
use Rattle.histar_flat.specs.FlatState.{Flat, Node, Content, is_some_and, is_dir, is_there, is_dir_at, into}
use Rattle.histar_flat.specs.FlatState.Content.{Dir, File}
use Rattle.histar_flat.specs.FlatCalls.{refused}
use Rattle.histar_flat.specs.Needs.{entry as entry_needed}
use Rattle.histar_flat.proofs.CommonNeeds.{no_entry}
use Rattle.histar_reasons.specs.Reasons.{Reason, why_into, why_need, why}
use Rattle.histar_reasons.specs.Reasons.Reason.{IsMissing}
use Rattle.histar_object.specs.State.{State}
use Rattle.histar_rules.specs.declared.raw.RawCall.{RawCall}
use Rattle.histar_syscall.specs.KernelModel.{KernelModel, state}
use Rattle.histar_layout.specs.Listing.{object_of}
use Rattle.histar_layout.specs.declared.entry.Target.{Target}
use Rattle.histar_layout.specs.declared.entry.Target.TheVariants as targets
use Rattle.histar_programs.specs.declared.call_error.Stopped.{Stopped}
use Rattle.histar_programs.specs.Programs.{Program, Runs}
use Rattle.histar_programs.specs.Parts.{entry_at, given}
use Rattle.histar_moves.specs.declared.entry.FoundEntry.{FoundEntry}
use Rattle.histar_moves.specs.Parts.{find_entry}
use Rattle.histar_programs.specs.Start.{roots_of}
use Rattle.histar_refinement.specs.Accounts.{AreAccounts}
use Rattle.histar_refinement.specs.Addresses.{address_of}
use Rattle.histar_refinement.specs.Directories.{directory_of}
use Rattle.histar_refinement.specs.Lines.{IsObjectAt}
use Rattle.histar_refinement.specs.Processes.{or_zero}
use Rattle.histar_refinement.proofs.ListedFiles.{numbered_path}
use Rattle.histar_refinement.proofs.Agreeing.{some_of}
use Rattle.histar_sim.proofs.Ready.{Ready}
use Rattle.histar_sim.specs.Reads.{AreAmong}
use Rattle.histar_sim.proofs.Chains.{Step, all_granted, entries_of, Chain}
use Rattle.histar_sim.specs.RawCalls.{Request, requests_of, unless_refused}
use Rattle.histar_sim.proofs.Requests.{AreLeft, EndWith, made_to_end}
use Rattle.histar_sim.proofs.CallErrors.{AreItsCalls, ReadsAmong}
use Rattle.histar_sim.proofs.Steps.{Goal, refused_at_once}
use Rattle.histar_sim.proofs.Walks.{numbers, place_at, walk_reads, found, holds, nothing_there, file_there, directory_there, among_granted_all}
use Rattle.histar_sim.proofs.Walks.{way_clear, Explains, walk_step}

-- where the way into the directory of an entry has a reason, that is the one of a call that needs the entry
pub entry_explained : (accounts : Accounts) (f : Flat) (me : ProcName) (p : Process) (m : Name) (d : Path) (call : UnixCall)
    (named : Option Reason) → why accounts f me p call ≡ (why_need accounts f me p (m ∷ d) entry_needed orelse named)
    → (reason : Reason) → why_into accounts f p d ≡ Some reason → why accounts f me p call ≡ Some reason
entry_explained accounts f me p m d call named explains reason is =
    explains ∙ ap (λ (o : Option Reason). (o orelse unless (is_there f (m ∷ d)) (IsMissing (m ∷ d))) orelse named) is

module _ {M : Type 0} (accounts : Accounts) (ok : AreAccounts accounts) (s : State) (f : Flat) (me : ProcName) (t : ℕ)
    (ready : Ready M accounts s f me t) (m : Name) (d : Path) where
  -- where the way is open and something is at the path, the need of an entry has no reason
  pub entry_clear : into accounts f ready.caller.process d ≡ None → (node : Node) → get f.files (m ∷ d) ≡ Some node
      → why_need accounts f me ready.caller.process (m ∷ d) entry_needed ≡ None
  entry_clear open_so_far node at =
      let clear = way_clear accounts ok s f me t ready d open_so_far in
      λ i. clear i orelse unless (is_some_and (at i) (λ n. true)) (IsMissing (m ∷ d))

  -- the object at the path: a file's segment, or a directory's container
  abbrev pub object_at : ℕ
  object_at = or_zero (numbers accounts ok s f me t ready (address_of (m ∷ d)))

  -- where its entry leads
  abbrev pub target_at : Content → Target
  target_at Dir = targets.Directory (place_at accounts ok s f me t ready (m ∷ d)).container (place_at accounts ok s f me t ready (m ∷ d)).listing
  target_at (File bytes) = targets.File object_at

  -- the entry, as it is found in its directory
  abbrev pub entry_of : Content → FoundEntry
  entry_of content =
      record {
        place = place_at accounts ok s f me t ready d;
        entries = directory_of f.files (numbers accounts ok s f me t ready) d;
        name = m;
        target = target_at content;
      }

  -- the entry leads to that object
  pub object_led_to : (content : Content) → object_of (target_at content) ≡ object_at
  object_led_to Dir = refl
  object_led_to (File bytes) = refl

  module _ (class : Class) where
    -- the object at the path has its number
    pub object_numbered : (content : Content) → get f.files (m ∷ d) ≡ Some (record { class = class; content = content })
        → numbers accounts ok s f me t ready (address_of (m ∷ d)) ≡ Some object_at
    object_numbered content at =
        let found =
        some_of (numbers accounts ok s f me t ready (address_of (m ∷ d)))
        (numbered_path accounts s f ready.represents.matched (m ∷ d)
        (record { class = class; content = content }) at) in
        found.1 ∙ sym (ap (λ (o : Option ℕ). Some (or_zero o)) found.1)

    -- the directory has the entry of the path
    pub entry_leads : (content : Content) → get f.files (m ∷ d) ≡ Some (record { class = class; content = content })
        → map.get (directory_of f.files (numbers accounts ok s f me t ready) d) m ≡ Some (target_at content)
    entry_leads Dir at = directory_there accounts ok s f me t ready m d class at
    entry_leads (File bytes) at = file_there accounts ok s f me t ready m d class bytes at

    -- the segments lead to the object at the path
    pub object_found : is_dir_at f d ≡ true → (content : Content) → get f.files (m ∷ d) ≡ Some (record { class = class; content = content })
        → IsObjectAt accounts s (m ∷ d) (place_at accounts ok s f me t ready d).container object_at
    object_found is content at = (
      (place_at accounts ok s f me t ready d).listing,
      directory_of f.files (numbers accounts ok s f me t ready) d,
      target_at content,
      found accounts ok s f me t ready d is,
      holds accounts ok s f me t ready d is,
      entry_leads content at,
      sym (object_led_to content),
    )

module _ {M : Type 0} (accounts : Accounts) (ok : AreAccounts accounts) (old new : KernelModel) (f : Flat) (me : ProcName) (t : ℕ)
    (ready : Ready M accounts (state old) f me t) (m : Name) (d : Path) (call : UnixCall)
    (result : Result Reply Stopped) (later : Option Errno)
    (split : refused accounts f me ready.caller.process call ≡ (no_entry accounts f ready.caller.process (m ∷ d) orelse later))
    (has_reads : (not (is_some (into accounts f ready.caller.process d)) && is_dir_at f (m ∷ d)) ≡ false → (steps : List Step) (r : Reply)
    → AreAmong (walk_reads accounts ok (state old) f me t ready d) (entries_of old.line t steps) → ReadsAmong accounts f me call old new
    t ready steps r) where
  abbrev Refined : Type 0
  Refined = Goal accounts f me call old new t ready result

  abbrev walk : List RawCall
  walk = walk_reads accounts ok (state old) f me t ready d

  -- the test of reaching the entry in its directory
  abbrev test : Option Node → Option Errno
  test o = unless (is_some_and o (λ n. true)) ENOENT

  refused_is : (way : Option Errno) (o : Option Node) → into accounts f ready.caller.process d ≡ way
      → get f.files (m ∷ d) ≡ o → refused accounts f me ready.caller.process call ≡ ((way orelse test o) orelse later)
  refused_is way o is_way is_o = split ∙ (λ i. (is_way i orelse test (is_o i)) orelse later)

  -- once the way is open and something is at the path, the flat rules refuse what they refuse of the entry
  pub reached : into accounts f ready.caller.process d ≡ None → (node : Node) → get f.files (m ∷ d) ≡ Some node
      → refused accounts f me ready.caller.process call ≡ later
  reached open_so_far node at = refused_is None (Some node) open_so_far at

  module _ (after : List Request) (left : (not (is_some (into accounts f ready.caller.process d)) && is_dir_at f (m ∷ d)) ≡ false
      → AreLeft (requests_of accounts ready.represents.matched me ready.caller.process call)
      (walk_reads accounts ok (state old) f me t ready d)
      (unless_refused (refused accounts f me ready.caller.process call) after))
      (rest : FoundEntry → Program) where
    -- the raw calls of a call that is refused by what the walk has read, or by a denial of a read
    ended : (errno : Errno) (steps : List Step) → refused accounts f me ready.caller.process call ≡ Some errno
        → (not (is_some (into accounts f ready.caller.process d)) && is_dir_at f (m ∷ d)) ≡ false
        → AreAmong walk (entries_of old.line t steps) → EndWith errno walk steps
        → AreItsCalls accounts f me call old new t ready steps (Refused errno)
    ended errno steps is none among end =
        (has_reads none steps (Refused errno) among, made_to_end _ old.line t errno walk steps _ after is (left none) end)

    -- once the entry was looked up
    abbrev at_entry : Option Target → Program
    at_entry target =
        given (entry_at target) (λ target. rest (record {
          place = place_at accounts ok (state old) f me t ready d;
          entries = directory_of f.files ready.represents.matched.naming.number d;
          name = m;
          target = target;
        }))

    -- the call goes on with the entry
    abbrev pub GoesOn : Type 0
    GoesOn =
        into accounts f ready.caller.process d ≡ None → (class : Class) (content : Content)
        → get f.files (m ∷ d) ≡ Some (record { class = class; content = content })
        → (mid : KernelModel) → state mid ≡ state old → Chain old t (all_granted walk) mid
        → Runs M (rest (entry_of accounts ok (state old) f me t ready m d content)) mid new t result → Refined

    module _ (go_on : GoesOn) (open_so_far : into accounts f ready.caller.process d ≡ None) (mid : KernelModel)
        (stays : state mid ≡ state old) (chain : Chain old t (all_granted walk) mid)
        (on : Runs M (at_entry (map.get (directory_of f.files ready.represents.matched.naming.number d) m)) mid new t result) where
      leads : (target : Option Target)
          → map.get (directory_of f.files ready.represents.matched.naming.number d) m ≡ target
          → Runs M (at_entry target) mid new t result
      leads target is = subst (λ (target : Option Target). Runs M (at_entry target) mid new t result) is on

      by_agrees : (o : Option Node) → get f.files (m ∷ d) ≡ o → Refined
      by_agrees None is =
          refused_at_once accounts f me call old new t ready result walk mid chain stays ENOENT
          (refused_is None None open_so_far is) refl refl (ended ENOENT (all_granted walk) (refused_is None None open_so_far is)
          (λ i. not (is_some (open_so_far i)) && is_some_and (is i) is_dir) (among_granted_all old.line t walk) (inl (refl, refl)))
          (leads None (nothing_there accounts ok (state old) f me t ready m d is))
      by_agrees (Some node) is =
          go_on open_so_far node.class node.content is mid stays chain (leads
          (Some (target_at accounts ok (state old) f me t ready m d node.content))
          (entry_leads accounts ok (state old) f me t ready m d node.class node.content is))

    -- the entry is found, or the call is refused
    pub entry_step : Explains accounts ok old new f me t ready call result d
        → Runs M (find_entry (roots_of (length accounts.users)) (m ∷ d) rest) old new t result → GoesOn → Refined
    unfolding find_entry
    entry_step explains runs go_on =
        walk_step accounts ok old new f me t ready call result d
        (λ directory. given (entry_at (map.get directory.entries m)) (λ target.
        rest (record { place = directory.place; entries = directory.entries; name = m; target = target })))
        runs (
          λ errno is steps among end.
              let refuses = refused_is (Some errno) (get f.files (m ∷ d)) is refl in (
                refuses,
                ended errno steps refuses (ap (λ (o : Option Errno). not (is_some o) && is_dir_at f (m ∷ d)) is) among end,
              ),
          explains,
        )
        (λ open_so_far mid stays chain on. by_agrees go_on open_so_far mid stays chain on (get f.files (m ∷ d)) refl)
