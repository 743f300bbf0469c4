-- The program of `rmdir` refines its rule.
use Rattle.std.proofs.Common.{◌≡◌, ℕ, ◌==◌, ◌&&◌, Bool, true, false, List, [], ◌∷◌, ◌++◌, Option, None, Some, Result, Ok, Err, refl, sym, ap, ◌∙◌}
use Rattle.std.proofs.Common.{inl, inr}
use Rattle.std.proofs.Common.{subst, length, if◌then◌else◌}
use Rattle.std.proofs.lemmas.List.{map-append, append-nil}
use Rattle.std.specs.Prelude.{not, is_some, map}
use Rattle.histar_base.specs.Refusals.{◌orelse◌, unless}
use Rattle.histar_flat.specs.declared.calls.UnixCall.{UnixCall}
use Rattle.histar_flat.specs.declared.calls.UnixCall.TheVariants as calls
use Rattle.histar_flat.specs.declared.replies.Errno.{Errno}
use Rattle.histar_flat.specs.declared.replies.Errno.TheVariants.{EACCES, EBUSY, ENOTDIR, ENOTEMPTY}
use Rattle.histar_flat.specs.declared.replies.Reply.{Reply}
use Rattle.histar_flat.specs.declared.replies.Reply.TheVariants.{Done, Refused}
use Rattle.histar_flat.specs.Words.{Name, Path, ProcName}
use Rattle.histar_flat.specs.Accounts.{Accounts}
use Rattle.histar_flat.specs.Files.{get}
use Rattle.histar_flat.specs.Classes.{Class, Process}
use Rattle.histar_flat.specs.FlatState.{Flat, Node, Content, is_some_and, is_dir, is_dir_at, reads, writes, into, entries_in}
use Rattle.histar_flat.specs.FlatState.Content.{Dir, File}
use Rattle.histar_flat.specs.FlatCalls.{refused}
use Rattle.histar_reasons.specs.Reasons.{Reason, not_read, not_written, why}
use Rattle.histar_reasons.specs.Reasons.Reason.{HasFile, IsNotEmpty}
use Rattle.histar_rules.specs.declared.raw.Denied.TheVariants.{Observe}
use Rattle.histar_rules.specs.declared.raw.RawCall.{RawCall}
use Rattle.histar_syscall.specs.KernelModel.{KernelModel, state}
use Rattle.histar_syscall.proofs.Runs.{same_kernel}
use Rattle.histar_programs.specs.declared.directory.Directory.{Directory}
use Rattle.histar_programs.specs.declared.call_error.Stopped.{Stopped}
use Rattle.histar_programs.specs.Programs.{Program, Runs}
use Rattle.histar_programs.specs.Programs.Program.{Answers}
use Rattle.histar_programs.specs.Parts.{given, read_directory}
use Rattle.histar_moves.specs.declared.entry.FoundEntry.{FoundEntry}
use Rattle.histar_moves.specs.Parts.{find_entry, must_be_directory, must_be_empty, take_away}
use Rattle.histar_moves.specs.Rmdir.{rmdir_program}
use Rattle.histar_programs.specs.Start.{roots_of}
use Rattle.histar_refinement.specs.Accounts.{AreAccounts}
use Rattle.histar_refinement.proofs.Making.{count_entries}
use Rattle.histar_sim.specs.RawCalls.{Request, plain, removes, requests_of, unless_refused}
use Rattle.histar_sim.proofs.Requests.{AreLeft, made_to_end}
use Rattle.histar_sim.proofs.Ready.{Ready}
use Rattle.histar_sim.specs.Reads.{AreAmong, tested}
use Rattle.histar_sim.proofs.Chains.{Step, all_granted, entries_of, Chain}
use Rattle.histar_sim.proofs.CallErrors.{from_each, ReadsAmong}
use Rattle.histar_sim.proofs.Steps.{Goal, refused_at_once}
use Rattle.histar_sim.proofs.Walks.{read_of, walk_reads, directory_read, has_way, among_granted_all, among_refused, read_step}
use Rattle.histar_sim.proofs.Walks.{unread_directory, read_directory_at, read_named}
use Rattle.histar_sim.specs.Laws.{RmdirRefines}
use Rattle.histar_sim.proofs.Entries.{entry_of, reached, entry_step, entry_explained, entry_clear}
use Rattle.histar_sim.proofs.TakingAway.{take_away_step}

-- a directory must have no entry
abbrev unless_filled : Bool → Result (Unit {0}) Errno
unless_filled empty = if empty then Ok tt else Err ENOTEMPTY

module _ {M : Type 0} (accounts : Accounts) (ok : AreAccounts accounts) (old new : KernelModel) (f : Flat) (me : ProcName) (t : ℕ)
    (ready : Ready M accounts (state old) f me t) (m : Name) (d : Path) (result : Result Reply Stopped) where
  abbrev call : UnixCall
  call = calls.Rmdir (m ∷ d)

  abbrev p : Process
  p = ready.caller.process

  abbrev walk : List RawCall
  walk = walk_reads accounts ok (state old) f me t ready d

  -- the raw call that reads the directory itself
  abbrev read : RawCall
  read = read_of accounts ok (state old) f me t ready (m ∷ d)

  abbrev Refined : Type 0
  Refined = Goal accounts f me call old new t ready result

  -- the reads that the call cannot do without are those of the walk, and that of the directory itself where the way leads into it
  reads_are : (b : Bool) → (not (is_some (into accounts f p d)) && is_dir_at f (m ∷ d)) ≡ b
      → walk_reads accounts ok (state old) f me t ready (m ∷ d) ≡ walk ++ (if b then read ∷ [] else [])
  reads_are b is =
      map-append (read_of accounts ok (state old) f me t ready) (tested accounts f p d)
      (if not (is_some (into accounts f p d)) && is_dir_at f (m ∷ d) then (m ∷ d) ∷ [] else [])
      ∙ ap (λ (b : Bool). walk ++ map (read_of accounts ok (state old) f me t ready) (if b then (m ∷ d) ∷ [] else [])) is ∙ by b
    where
      by : (b : Bool)
          → walk ++ map (read_of accounts ok (state old) f me t ready) (if b then (m ∷ d) ∷ [] else [])
          ≡ walk ++ (if b then read ∷ [] else [])
      by true = refl
      by false = refl

  module _ (steps : List Step) (r : Reply) where
    walk_suffices : (not (is_some (into accounts f p d)) && is_dir_at f (m ∷ d)) ≡ false
        → AreAmong walk (entries_of old.line t steps)
        → ReadsAmong accounts f me call old new t ready steps r
    walk_suffices none among = has_way accounts ok (state old) f me t ready (m ∷ d) _
        (subst (λ (calls : List RawCall). AreAmong calls (entries_of old.line t steps)) (sym (reads_are false none ∙ append-nil walk)) among)

    both_suffice : into accounts f p d ≡ None → is_dir_at f (m ∷ d) ≡ true
        → AreAmong (walk ++ read ∷ []) (entries_of old.line t steps)
        → ReadsAmong accounts f me call old new t ready steps r
    both_suffice open_so_far dir among = has_way accounts ok (state old) f me t ready (m ∷ d) _
        (subst (λ (calls : List RawCall). AreAmong calls (entries_of old.line t steps))
        (sym (reads_are true (λ i. not (is_some (open_so_far i)) && dir i))) among)

  -- what is left after the walk, where the way doesn't lead into the directory, and after it was read, where the way does
  abbrev removing : List Request
  removing = plain (removes accounts ready.represents.matched d m)

  abbrev left_if : List RawCall → Type 0
  left_if calls =
      AreLeft (requests_of accounts ready.represents.matched me p call) calls (unless_refused (refused accounts f me p call) removing)

  left_walked : (not (is_some (into accounts f p d)) && is_dir_at f (m ∷ d)) ≡ false → left_if walk
  left_walked none = ap (λ (calls : List RawCall). plain calls ++ unless_refused (refused accounts f me p call) removing)
      (reads_are false none ∙ append-nil walk)

  left_read : into accounts f p d ≡ None → is_dir_at f (m ∷ d) ≡ true → left_if (walk ++ read ∷ [])
  left_read open_so_far dir = ap (λ (calls : List RawCall). plain calls ++ unless_refused (refused accounts f me p call) removing)
      (reads_are true (λ i. not (is_some (open_so_far i)) && dir i))

  -- what the flat rules refuse of the entry
  abbrev refusal : Bool → Bool → Bool → Option Errno
  refusal dir sees empty = unless dir ENOTDIR orelse unless sees EACCES orelse unless empty ENOTEMPTY orelse unless (writes accounts f p d) EACCES

  abbrev is_empty : Bool
  is_empty = length (entries_in f (m ∷ d)) == 0

  -- the reasons of a directory: that it may not be read, that it is not empty, or that the one above may not be written
  abbrev reasons : Option Reason → Bool → Option Reason
  reasons unread empty = unread orelse unless empty (IsNotEmpty (m ∷ d) (length (entries_in f (m ∷ d)))) orelse not_written accounts f p d

  -- what comes after the entry was found, and after the directory was read
  abbrev when_read : FoundEntry → Directory → Program
  when_read entry directory = given (must_be_empty directory.entries) (λ _. take_away entry (λ _. Answers Done))

  abbrev at_entry : FoundEntry → Program
  at_entry entry = given (must_be_directory entry.target) (λ place. read_directory place (when_read entry))

  module _ (open_so_far : into accounts f p d ≡ None) where
    refused_by : (content : Content) (class : Class) (sees empty : Bool)
        → get f.files (m ∷ d) ≡ Some (record { class = class; content = content }) → reads accounts f p (m ∷ d) ≡ sees
        → is_empty ≡ empty
        → refused accounts f me p call ≡ refusal (is_dir (record { class = class; content = content })) sees empty
    refused_by content class sees empty at is_seen is_so =
        reached accounts ok old new f me t ready m d call result
        (refusal (is_dir_at f (m ∷ d)) (reads accounts f p (m ∷ d)) is_empty) refl
        (λ none steps r among. walk_suffices steps r none among) open_so_far _ at
        ∙ (λ i. refusal (is_some_and (at i) is_dir) (is_seen i) (is_so i))

    module _ (class : Class) (at : get f.files (m ∷ d) ≡ Some (record { class = class; content = Dir })) where
      -- a directory is there: the reason is its own, or that of the one above
      reason_is : why accounts f me p call ≡ reasons (not_read accounts f p (m ∷ d)) is_empty
      reason_is =
          let clear = entry_clear accounts ok (state old) f me t ready m d open_so_far _ at in
          λ i. clear i orelse unless (is_some_and (at i) is_dir) (HasFile (m ∷ d)) orelse reasons (not_read accounts f p (m ∷ d)) is_empty

      is_dir_here : is_dir_at f (m ∷ d) ≡ true
      is_dir_here = ap (λ (o : Option Node). is_some_and o is_dir) at

      module _ (sees : reads accounts f p (m ∷ d) ≡ true) (mid : KernelModel) (stays : state mid ≡ state old)
          (chain : Chain old t (all_granted (walk ++ read ∷ [])) mid) where
        by_entries : (b : Bool) → is_empty ≡ b
            → Runs M (given (unless_filled b)
            (λ _. take_away (entry_of accounts ok (state old) f me t ready m d Dir) (λ _. Answers Done))) mid
            new t result → Refined
        by_entries false is on =
            refused_at_once accounts f me call old new t ready result (walk ++ read ∷ []) mid chain
            stays ENOTEMPTY (refused_by Dir class true false at sees is) refl refl (
              both_suffice (all_granted (walk ++ read ∷ [])) (Refused ENOTEMPTY) open_so_far is_dir_here
                  (among_granted_all old.line t (walk ++ read ∷ [])),
              made_to_end _ old.line t ENOTEMPTY (walk ++ read ∷ []) (all_granted (walk ++ read ∷ [])) _ removing
                  (refused_by Dir class true false at sees is) (left_read open_so_far is_dir_here) (inl (refl, refl)),
            ) on
        by_entries true is on =
            take_away_step accounts ok old new f me t ready m d call result
            (record {
              refuses = refused_by Dir class true true at sees is;
              path = refl;
              explains =
                  reason_is
                  ∙ (λ i. reasons (read_directory_at accounts ok (state old) f me t ready (m ∷ d) is_dir_here sees i) (is i));
              removes = refl;
              answers = refl;
            })
            open_so_far class Dir at
            (walk ++ read ∷ []) (λ steps r among. both_suffice steps r open_so_far is_dir_here among)
            (left_read open_so_far is_dir_here) mid stays chain on

        emptied : Runs M (when_read (entry_of accounts ok (state old) f me t ready m d Dir)
            (directory_read accounts ok (state old) f me t ready (m ∷ d))) mid new t result → Refined
        emptied on =
            by_entries is_empty refl
            (subst (λ (n : ℕ). Runs M (given (unless_filled (n == 0))
            (λ _. take_away (entry_of accounts ok (state old) f me t ready m d Dir) (λ _. Answers Done)))
            mid new t result)
            (count_entries accounts (state old) f ready.represents.matched (m ∷ d)) on)

    module _ (mid : KernelModel) (stays : state mid ≡ state old) (chain : Chain old t (all_granted walk) mid) where
      by_content : (class : Class) (content : Content)
          → get f.files (m ∷ d) ≡ Some (record { class = class; content = content })
          → Runs M (at_entry (entry_of accounts ok (state old) f me t ready m d content)) mid new t result → Refined
      by_content class Dir at on =
          read_step accounts ok old new f me t ready call result (m ∷ d) (is_dir_here class at) walk mid stays chain
          (when_read (entry_of accounts ok (state old) f me t ready m d Dir)) on
          (λ unseen. (
            refused_by Dir class false is_empty at unseen refl,
            (
              both_suffice (all_granted walk ++ (read, Some Observe) ∷ []) (Refused EACCES) open_so_far
                  (is_dir_here class at) (among_refused old.line t walk read Observe),
              made_to_end _ old.line t EACCES (walk ++ read ∷ []) (all_granted walk ++ (read, Some Observe) ∷ []) _ removing
                  (refused_by Dir class false is_empty at unseen refl) (left_read open_so_far (is_dir_here class at))
                  (inr (walk, read, Observe, refl, refl)),
            ),
          ))
          (λ unseen.
          let unread = unread_directory accounts ok (state old) f me t ready (m ∷ d) (is_dir_here class at) unseen in
          read_named accounts ok old new f me t ready call result (m ∷ d) (is_dir_here class at) unread.0
          (reason_is class at ∙ ap (λ (o : Option Reason). reasons o is_empty) unread.1))
          (λ sees later same longer rest. emptied class at sees later same longer rest)
      by_content class (File bytes) at on =
          refused_at_once accounts f me call old new t ready result walk mid chain stays
          ENOTDIR
          (refused_by (File bytes) class (reads accounts f p (m ∷ d)) is_empty at refl refl) refl refl (
            walk_suffices (all_granted walk) (Refused ENOTDIR)
                (λ i. not (is_some (open_so_far i)) && is_some_and (at i) is_dir) (among_granted_all old.line t walk),
            made_to_end _ old.line t ENOTDIR walk (all_granted walk) _ removing
                (refused_by (File bytes) class (reads accounts f p (m ∷ d)) is_empty at refl refl)
                (left_walked (λ i. not (is_some (open_so_far i)) && is_some_and (at i) is_dir)) (inl (refl, refl)),
          )
          on

  rmdir_is_refined : Runs M (rmdir_program (roots_of (length accounts.users)) (m ∷ d)) old new t result → Refined
  unfolding rmdir_program
  rmdir_is_refined run =
      entry_step accounts ok old new f me t ready m d call result
      (refusal (is_dir_at f (m ∷ d)) (reads accounts f p (m ∷ d)) is_empty) refl
      (λ none steps r among. walk_suffices steps r none among) removing left_walked at_entry
      (entry_explained accounts f me p m d call
      (unless (is_dir_at f (m ∷ d)) (HasFile (m ∷ d)) orelse reasons (not_read accounts f p (m ∷ d)) is_empty) refl) run
      (λ open_so_far class content at mid stays chain on. by_content open_so_far mid stays chain class content at on)

-- an rmdir of `/`
rmdir_of_slash : {M : Type 0} → (accounts : Accounts) (old new : KernelModel) (f : Flat) (me : ProcName) (t : ℕ)
    (result : Result Reply Stopped) (ready : Ready M accounts (state old) f me t)
    → Runs M (rmdir_program (roots_of (length accounts.users)) []) old new t result
    → Goal accounts f me (calls.Rmdir []) old new t ready result
unfolding rmdir_program find_entry
rmdir_of_slash accounts old new f me t result ready run =
    refused_at_once accounts f me (calls.Rmdir []) old new t ready result [] old (same_kernel old)
    refl EBUSY refl refl refl (tt, refl) run

-- the program of `rmdir` refines its rule
pub rmdir_refines : {M : Type 0} → RmdirRefines M
rmdir_refines {M} accounts ok [] me old new f t result ready run =
    from_each M accounts f me (calls.Rmdir []) old new t result ready (λ ready.
    rmdir_of_slash accounts old new f me t result ready run)
rmdir_refines {M} accounts ok (m ∷ d) me old new f t result ready run =
    from_each M accounts f me (calls.Rmdir (m ∷ d)) old new t result ready (λ ready.
    rmdir_is_refined accounts ok old new f me t ready m d result run)
