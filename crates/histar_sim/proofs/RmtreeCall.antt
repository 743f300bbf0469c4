-- The program of `rmtree` refines its rule.
use Rattle.std.proofs.Common.{ℕ, [], ◌∷◌, Option, Result, refl, length, ap}
use Rattle.histar_base.specs.Refusals.{unless, ◌orelse◌}
use Rattle.histar_flat.specs.declared.calls.UnixCall.{UnixCall}
use Rattle.histar_flat.specs.declared.calls.UnixCall.TheVariants as calls
use Rattle.histar_flat.specs.declared.replies.Errno.{Errno}
use Rattle.histar_flat.specs.declared.replies.Errno.TheVariants.{EACCES, EBUSY}
use Rattle.histar_flat.specs.declared.replies.Reply.{Reply}
use Rattle.histar_flat.specs.declared.replies.Reply.TheVariants.{Done}
use Rattle.histar_flat.specs.Words.{Name, Path, ProcName}
use Rattle.histar_flat.specs.Accounts.{Accounts}
use Rattle.histar_flat.specs.FlatState.{Flat, writes, Node}
use Rattle.histar_reasons.specs.Reasons.{Reason, not_written}
use Rattle.histar_syscall.specs.KernelModel.{KernelModel, state}
use Rattle.histar_syscall.proofs.Runs.{same_kernel}
use Rattle.histar_programs.specs.declared.call_error.Stopped.{Stopped}
use Rattle.histar_programs.specs.Programs.{Runs}
use Rattle.histar_programs.specs.Programs.Program.{Answers}
use Rattle.histar_moves.specs.Parts.{find_entry, take_away}
use Rattle.histar_moves.specs.Rmtree.{rmtree_program}
use Rattle.histar_programs.specs.Start.{roots_of}
use Rattle.histar_refinement.specs.Accounts.{AreAccounts}
use Rattle.histar_sim.specs.RawCalls.{plain, removes}
use Rattle.histar_sim.proofs.Ready.{Ready}
use Rattle.histar_sim.proofs.CallErrors.{from_each}
use Rattle.histar_sim.proofs.Steps.{Goal, refused_at_once}
use Rattle.histar_sim.proofs.Walks.{walk_reads, has_walk}
use Rattle.histar_sim.specs.Laws.{RmtreeRefines}
use Rattle.histar_sim.proofs.Entries.{reached, entry_step, entry_explained, entry_clear}
use Rattle.histar_sim.proofs.TakingAway.{take_away_step}

module _ {M : Type 0} (accounts : Accounts) (ok : AreAccounts accounts) (old new : KernelModel) (f : Flat) (me : ProcName) (t : ℕ)
    (ready : Ready M accounts (state old) f me t) (m : Name) (d : Path) (result : Result Reply Stopped) where
  abbrev call : UnixCall
  call = calls.Rmtree (m ∷ d)

  -- what the flat rules refuse of the entry
  abbrev refusal : Option Errno
  refusal = unless (writes accounts f ready.caller.process d) EACCES

  rmtree_is_refined : Runs M (rmtree_program (roots_of (length accounts.users)) (m ∷ d)) old new t result
      → Goal accounts f me call old new t ready result
  unfolding rmtree_program
  rmtree_is_refined run =
      entry_step accounts ok old new f me t ready m d call result refusal refl
      (λ none steps r among. has_walk accounts ok (state old) f me t ready m d _ among)
      (plain (removes accounts ready.represents.matched d m)) (λ none. refl) (λ entry. take_away entry (λ _. Answers Done))
      (entry_explained accounts f me ready.caller.process m d call (not_written accounts f ready.caller.process d) refl) run
      (λ open_so_far class content at mid stays chain on.
      let refuses =
      reached accounts ok old new f me t ready m d call result refusal refl
      (λ none steps r among. has_walk accounts ok (state old) f me t ready m d _ among) open_so_far
      (record { class = class; content = content }) at in
      let node : Node = record { class = class; content = content } in
      let explains =
      ap (λ (o : Option Reason). o orelse not_written accounts f ready.caller.process d)
      (entry_clear accounts ok (state old) f me t ready m d open_so_far node at) in
      take_away_step accounts ok old new f me t ready m d call result
      (record { refuses = refuses; path = refl; explains = explains; removes = refl; answers = refl }) open_so_far class content at
      (walk_reads accounts ok (state old) f me t ready d)
      (λ steps r among. has_walk accounts ok (state old) f me t ready m d _ among) refl mid stays chain on)

-- an rmtree of `/`
rmtree_of_slash : {M : Type 0} → (accounts : Accounts) (old new : KernelModel) (f : Flat) (me : ProcName) (t : ℕ)
    (result : Result Reply Stopped) (ready : Ready M accounts (state old) f me t)
    → Runs M (rmtree_program (roots_of (length accounts.users)) []) old new t result
    → Goal accounts f me (calls.Rmtree []) old new t ready result
unfolding rmtree_program find_entry
rmtree_of_slash accounts old new f me t result ready run =
    refused_at_once accounts f me (calls.Rmtree []) old new t ready result [] old (same_kernel old)
    refl EBUSY refl refl refl (tt, refl) run

-- the program of `rmtree` refines its rule
pub rmtree_refines : {M : Type 0} → RmtreeRefines M
rmtree_refines {M} accounts ok [] me old new f t result ready run =
    from_each M accounts f me (calls.Rmtree []) old new t result ready (λ ready.
    rmtree_of_slash accounts old new f me t result ready run)
rmtree_refines {M} accounts ok (m ∷ d) me old new f t result ready run =
    from_each M accounts f me (calls.Rmtree (m ∷ d)) old new t result ready (λ ready.
    rmtree_is_refined accounts ok old new f me t ready m d result run)
