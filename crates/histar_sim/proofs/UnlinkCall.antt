-- The program of `unlink` refines its rule.
use Rattle.std.proofs.Common.{◌≡◌, ℕ, List, [], ◌∷◌, Option, None, Some, Result, refl, ap, ◌∙◌, length, inl}
use Rattle.std.specs.Prelude.{not}
use Rattle.histar_base.specs.Refusals.{◌orelse◌, unless}
use Rattle.histar_flat.specs.declared.calls.UnixCall.{UnixCall}
use Rattle.histar_flat.specs.declared.calls.UnixCall.TheVariants as calls
use Rattle.histar_flat.specs.declared.replies.Errno.{Errno}
use Rattle.histar_flat.specs.declared.replies.Errno.TheVariants.{EACCES, EBUSY, EISDIR}
use Rattle.histar_flat.specs.declared.replies.Reply.{Reply}
use Rattle.histar_flat.specs.declared.replies.Reply.TheVariants.{Done}
use Rattle.histar_flat.specs.Words.{Name, Path, ProcName}
use Rattle.histar_flat.specs.Accounts.{Accounts}
use Rattle.histar_flat.specs.Files.{get}
use Rattle.histar_flat.specs.Classes.{Class}
use Rattle.histar_flat.specs.FlatState.{Flat, Node, Content, is_some_and, is_dir, is_file_at, writes, into}
use Rattle.histar_flat.specs.FlatState.Content.{Dir, File}
use Rattle.histar_flat.specs.FlatCalls.{refused}
use Rattle.histar_reasons.specs.Reasons.{not_written, why}
use Rattle.histar_reasons.specs.Reasons.Reason.{HasDirectory}
use Rattle.histar_rules.specs.declared.raw.RawCall.{RawCall}
use Rattle.histar_syscall.specs.KernelModel.{KernelModel, state}
use Rattle.histar_syscall.proofs.Runs.{same_kernel}
use Rattle.histar_programs.specs.declared.call_error.Stopped.{Stopped}
use Rattle.histar_programs.specs.Programs.{Program, Runs}
use Rattle.histar_programs.specs.Programs.Program.{Answers}
use Rattle.histar_programs.specs.Parts.{given}
use Rattle.histar_moves.specs.declared.entry.FoundEntry.{FoundEntry}
use Rattle.histar_moves.specs.Parts.{find_entry, must_be_file, take_away}
use Rattle.histar_moves.specs.Unlink.{unlink_program}
use Rattle.histar_programs.specs.Start.{roots_of}
use Rattle.histar_refinement.specs.Accounts.{AreAccounts}
use Rattle.histar_sim.specs.RawCalls.{plain, removes}
use Rattle.histar_sim.proofs.Requests.{made_to_end}
use Rattle.histar_sim.proofs.Ready.{Ready}
use Rattle.histar_sim.proofs.CallErrors.{from_each}
use Rattle.histar_sim.proofs.Chains.{all_granted, Chain}
use Rattle.histar_sim.proofs.Steps.{Goal, refused_at_once}
use Rattle.histar_sim.proofs.Walks.{walk_reads, has_walk, among_granted_all}
use Rattle.histar_sim.specs.Laws.{UnlinkRefines}
use Rattle.histar_sim.proofs.Entries.{entry_of, reached, entry_step, entry_explained, entry_clear}
use Rattle.histar_sim.proofs.TakingAway.{take_away_step}

module _ {M : Type 0} (accounts : Accounts) (ok : AreAccounts accounts) (old new : KernelModel) (f : Flat) (me : ProcName) (t : ℕ)
    (ready : Ready M accounts (state old) f me t) (m : Name) (d : Path) (result : Result Reply Stopped) where
  abbrev call : UnixCall
  call = calls.Unlink (m ∷ d)

  abbrev walk : List RawCall
  walk = walk_reads accounts ok (state old) f me t ready d

  abbrev Refined : Type 0
  Refined = Goal accounts f me call old new t ready result

  -- what the flat rules refuse of the entry
  abbrev refusal : Option Errno
  refusal = unless (is_file_at f (m ∷ d)) EISDIR orelse unless (writes accounts f ready.caller.process d) EACCES

  -- once the entry was found
  abbrev at_entry : FoundEntry → Program
  at_entry entry = given (must_be_file entry.target) (λ _. take_away entry (λ _. Answers Done))

  module _ (open_so_far : into accounts f ready.caller.process d ≡ None) (mid : KernelModel)
      (stays : state mid ≡ state old) (chain : Chain old t (all_granted walk) mid) where
    refused_by : (class : Class) (content : Content) → get f.files (m ∷ d) ≡ Some (record { class = class; content = content })
        → refused accounts f me ready.caller.process call
        ≡ (unless (not (is_dir (record { class = class; content = content }))) EISDIR
        orelse unless (writes accounts f ready.caller.process d) EACCES)
    refused_by class content at =
        reached accounts ok old new f me t ready m d call result refusal refl
        (λ none steps r among. has_walk accounts ok (state old) f me t ready m d _ among) open_so_far _ at
        ∙ ap (λ (x : Option Node). unless (is_some_and x (λ n. not (is_dir n))) EISDIR
        orelse unless (writes accounts f ready.caller.process d) EACCES) at

    -- a file is there, and the reason is that of the directory
    reason_is : (class : Class) (bytes : List ℕ) → get f.files (m ∷ d) ≡ Some (record { class = class; content = File bytes })
        → why accounts f me ready.caller.process call ≡ not_written accounts f ready.caller.process d
    reason_is class bytes at =
        let clear = entry_clear accounts ok (state old) f me t ready m d open_so_far _ at in
        λ i. clear i orelse unless (is_some_and (at i) (λ n. not (is_dir n))) (HasDirectory (m ∷ d))
        orelse not_written accounts f ready.caller.process d

    by_content : (class : Class) (content : Content)
        → get f.files (m ∷ d) ≡ Some (record { class = class; content = content })
        → Runs M (at_entry (entry_of accounts ok (state old) f me t ready m d content)) mid new t result → Refined
    by_content class Dir at on =
        refused_at_once accounts f me call old new t ready result walk mid chain stays
        EISDIR (refused_by class Dir at) refl refl (
          has_walk accounts ok (state old) f me t ready m d _ (among_granted_all old.line t walk),
          made_to_end _ old.line t EISDIR walk (all_granted walk) _ (plain (removes accounts ready.represents.matched d m))
              (refused_by class Dir at) refl (inl (refl, refl)),
        ) on
    by_content class (File bytes) at on =
        take_away_step accounts ok old new f me t ready m d call result
        (record {
          refuses = refused_by class (File bytes) at;
          path = refl;
          explains = reason_is class bytes at;
          removes = refl;
          answers = refl;
        })
        open_so_far class (File bytes) at
        walk (λ steps r among. has_walk accounts ok (state old) f me t ready m d _ among) refl mid stays chain on

  unlink_is_refined : Runs M (unlink_program (roots_of (length accounts.users)) (m ∷ d)) old new t result → Refined
  unfolding unlink_program
  unlink_is_refined run =
      entry_step accounts ok old new f me t ready m d call result refusal refl
      (λ none steps r among. has_walk accounts ok (state old) f me t ready m d _ among)
      (plain (removes accounts ready.represents.matched d m)) (λ none. refl) at_entry
      (entry_explained accounts f me ready.caller.process m d call
      (unless (is_file_at f (m ∷ d)) (HasDirectory (m ∷ d)) orelse not_written accounts f ready.caller.process d) refl) run
      (λ open_so_far class content at mid stays chain on. by_content open_so_far mid stays chain class content at on)

-- an unlink of `/`
unlink_of_slash : {M : Type 0} → (accounts : Accounts) (old new : KernelModel) (f : Flat) (me : ProcName) (t : ℕ)
    (result : Result Reply Stopped) (ready : Ready M accounts (state old) f me t)
    → Runs M (unlink_program (roots_of (length accounts.users)) []) old new t result
    → Goal accounts f me (calls.Unlink []) old new t ready result
unfolding unlink_program find_entry
unlink_of_slash accounts old new f me t result ready run =
    refused_at_once accounts f me (calls.Unlink []) old new t ready result [] old (same_kernel old)
    refl EBUSY refl refl refl (tt, refl) run

-- the program of `unlink` refines its rule
pub unlink_refines : {M : Type 0} → UnlinkRefines M
unlink_refines {M} accounts ok [] me old new f t result ready run =
    from_each M accounts f me (calls.Unlink []) old new t result ready (λ ready.
    unlink_of_slash accounts old new f me t result ready run)
unlink_refines {M} accounts ok (m ∷ d) me old new f t result ready run =
    from_each M accounts f me (calls.Unlink (m ∷ d)) old new t result ready (λ ready.
    unlink_is_refined accounts ok old new f me t ready m d result run)
