-- The program of `list` refines its rule.
use Rattle.std.proofs.Common.{◌≡◌, ℕ, true, [], ◌∷◌, Result, refl, ap, ◌∙◌, length, None}
use Rattle.histar_base.specs.Refusals.{◌orelse◌, unless}
use Rattle.histar_flat.specs.declared.calls.UnixCall.{UnixCall}
use Rattle.histar_flat.specs.declared.calls.UnixCall.TheVariants as calls
use Rattle.histar_flat.specs.declared.replies.Errno.TheVariants.{EACCES, ENOENT, ENOTDIR}
use Rattle.histar_flat.specs.declared.replies.Reply.{Reply}
use Rattle.histar_flat.specs.declared.replies.Reply.TheVariants.{Entries}
use Rattle.histar_flat.specs.Words.{Path, ProcName}
use Rattle.histar_flat.specs.Accounts.{Accounts}
use Rattle.histar_flat.specs.FlatState.{Flat, is_some_and, is_dir, reads, into, entries_in}
use Rattle.histar_flat.specs.FlatCalls.{refused}
use Rattle.histar_reasons.specs.Reasons.{not_read, why_into, why}
use Rattle.histar_reasons.specs.Reasons.Reason.{IsMissing, HasFile}
use Rattle.histar_syscall.specs.KernelModel.{KernelModel, state}
use Rattle.histar_layout.specs.Listing.{names_in}
use Rattle.histar_programs.specs.declared.call_error.Stopped.{Stopped}
use Rattle.histar_programs.specs.Programs.{Runs}
use Rattle.histar_programs.specs.Programs.Program.{Answers}
use Rattle.histar_calls.specs.ListCall.{list_program}
use Rattle.histar_programs.specs.Start.{roots_of}
use Rattle.histar_refinement.specs.Accounts.{AreAccounts}
use Rattle.histar_refinement.specs.Directories.{directory_of}
use Rattle.histar_refinement.proofs.KeepingNames.{still_represents}
use Rattle.histar_refinement.proofs.Listings.{names_directory}
use Rattle.histar_refinement.proofs.Making.{entry_leads}
use Rattle.histar_refinement.proofs.Agreeing.{root_is_dir}
use Rattle.histar_sim.proofs.Requests.{left_at_end, all_made, made_to_end}
use Rattle.histar_sim.proofs.Ready.{Ready}
use Rattle.histar_sim.specs.Laws.{ListRefines}
use Rattle.histar_sim.proofs.CallErrors.{from_each}
use Rattle.histar_sim.proofs.Steps.{Goal, answered_step}
use Rattle.histar_sim.proofs.Walks.{walk_reads, has_way, among_granted_all, walk_step}

module _ {M : Type 0} (accounts : Accounts) (ok : AreAccounts accounts) (old new : KernelModel) (f : Flat) (me : ProcName) (t : ℕ)
    (ready : Ready M accounts (state old) f me t) (path : Path) (result : Result Reply Stopped) where
  abbrev call : UnixCall
  call = calls.List path

  -- what refuses the way into the directory refuses the call
  refused_is : (q : Path) → refused accounts f me ready.caller.process (calls.List q) ≡ into accounts f ready.caller.process q
  refused_is [] =
      let root = (root_is_dir accounts (state old) f ready.represents.matched).1 in
      λ i. unless (is_some_and (root i) (λ n. true)) ENOENT orelse unless (is_some_and (root i) is_dir) ENOTDIR
      orelse unless (reads accounts f ready.caller.process []) EACCES
  refused_is (n ∷ d) = refl

  -- and its reason is the call's
  reason_is : (q : Path) → why accounts f me ready.caller.process (calls.List q) ≡ why_into accounts f ready.caller.process q
  reason_is [] =
      let root = (root_is_dir accounts (state old) f ready.represents.matched).1 in
      λ i. unless (is_some_and (root i) (λ n. true)) (IsMissing []) orelse unless (is_some_and (root i) is_dir) (HasFile [])
      orelse not_read accounts f ready.caller.process []
  reason_is (n ∷ d) = refl

  names_are : names_in (directory_of f.files ready.represents.matched.naming.number path) ≡ entries_in f path
  names_are =
      names_directory f ready.represents.matched.naming.number path
      (λ n there at. entry_leads accounts (state old) f ready.represents.matched (n ∷ path) there at)

  list_is_refined : Runs M (list_program (roots_of (length accounts.users)) path) old new t result
      → Goal accounts f me call old new t ready result
  unfolding list_program
  list_is_refined run =
      let walk = walk_reads accounts ok (state old) f me t ready path in
      walk_step accounts ok old new f me t ready call result path (λ directory. Answers (Entries (names_in directory.entries))) run (
        λ errno is steps among end. (
          refused_is path ∙ is,
          (
            has_way accounts ok (state old) f me t ready path _ among,
            made_to_end _ old.line t errno walk steps _ [] (refused_is path ∙ is) (left_at_end _ walk _ refl) end,
          ),
        ),
        λ reason is. reason_is path ∙ is,
      )
      (λ open_so_far mid stays chain on.
      answered_step accounts f me call old new t ready result walk mid chain
      (Entries (names_in (directory_of f.files ready.represents.matched.naming.number path))) (ap Entries names_are)
      (refused_is path ∙ open_so_far) tt (
        has_way accounts ok (state old) f me t ready path _ (among_granted_all old.line t walk),
        all_made _ old.line t walk (left_at_end _ walk None refl),
      )
      (still_represents ready.represents _ stays) on)

-- the program of `list` refines its rule
pub list_refines : {M : Type 0} → ListRefines M
list_refines {M} accounts ok path me old new f t result ready run =
    from_each M accounts f me (calls.List path) old new t result ready (λ ready.
    list_is_refined accounts ok old new f me t ready path result run)
