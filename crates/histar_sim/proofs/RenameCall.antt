-- The program of `rename` refines its rule.
use Rattle.std.proofs.Common.{◌≡◌, ℕ, Bool, true, false, List, [], ◌∷◌, ◌++◌, Option, None, Some, Result}
use Rattle.std.proofs.Common.{refl, sym, ap, ◌∙◌, subst, length, inl}
use Rattle.std.proofs.Common.{inl, inr}
use Rattle.std.specs.Prelude.{IsTrue, not}
use Rattle.std.specs.FinMap as map
use Rattle.histar_base.specs.Refusals.{◌orelse◌, unless}
use Rattle.histar_flat.specs.declared.calls.UnixCall.{UnixCall}
use Rattle.histar_flat.specs.declared.calls.UnixCall.TheVariants as calls
use Rattle.histar_flat.specs.declared.replies.Errno.{Errno}
use Rattle.histar_flat.specs.declared.replies.Errno.TheVariants.{EACCES, EBUSY, EEXIST}
use Rattle.histar_flat.specs.declared.replies.Reply.{Reply}
use Rattle.histar_flat.specs.declared.replies.Reply.TheVariants.{Done}
use Rattle.histar_flat.specs.Words.{Name, Path, ProcName, is_name}
use Rattle.histar_flat.specs.Accounts.{Accounts}
use Rattle.histar_flat.specs.Files.{get}
use Rattle.histar_flat.specs.Classes.{Class, Process, may_read, may_write}
use Rattle.histar_flat.specs.FlatState.{Flat, Node, Content, is_some_and, is_dir_at, writes, into, with_renamed, is_there}
use Rattle.histar_flat.specs.FlatState.Content.{Dir}
use Rattle.histar_flat.specs.FlatCalls.{refused}
use Rattle.histar_reasons.specs.Reasons.{not_written, why}
use Rattle.histar_reasons.specs.Reasons.Reason.{MayNotWrite, IsTaken}
use Rattle.histar_object.specs.State.{State, with_segment_bytes}
use Rattle.histar_rules.specs.declared.raw.Denied.TheVariants.{Modify}
use Rattle.histar_rules.specs.declared.raw.RawCall.{RawCall}
use Rattle.histar_rules.specs.declared.raw.RawCall.TheVariants as raw
use Rattle.histar_rules.specs.Rules.{check}
use Rattle.histar_syscall.specs.KernelModel.{KernelModel, state}
use Rattle.histar_syscall.proofs.Runs.{same_kernel}
use Rattle.histar_layout.specs.Directory.{Entries, spelling}
use Rattle.histar_layout.specs.declared.entry.Target.{Target}
use Rattle.histar_programs.specs.declared.call_error.Stopped.{Stopped}
use Rattle.histar_programs.specs.Programs.{Program, Runs}
use Rattle.histar_programs.specs.Programs.Program.{Answers}
use Rattle.histar_programs.specs.Parts.{ask, given}
use Rattle.histar_moves.specs.Parts.{find_entry, must_be_free}
use Rattle.histar_moves.specs.Rename.{rename_program}
use Rattle.histar_programs.specs.Start.{roots_of}
use Rattle.histar_refinement.specs.Accounts.{AreAccounts}
use Rattle.histar_refinement.specs.Addresses.{address_of}
use Rattle.histar_refinement.specs.Addresses.Step.{Listing}
use Rattle.histar_refinement.specs.Directories.{directory_of}
use Rattle.histar_refinement.specs.KeptNames.{RepresentsStill}
use Rattle.histar_refinement.proofs.DirectoryLaws.{get_directory}
use Rattle.histar_refinement.proofs.FileChecks.{write_listing_said}
use Rattle.histar_refinement.proofs.ListedFiles.{leads_at}
use Rattle.histar_refinement.proofs.Renaming.{listable_renamed, still_renamed}
use Rattle.histar_sim.specs.RawCalls.{plain, requests_of, unless_refused, with_name, writes_entries}
use Rattle.histar_sim.proofs.Requests.{AreLeft, request, left_allowed, left_by_denial, left_then, all_made, made_to_denial, made_to_end}
use Rattle.histar_sim.proofs.Ready.{Ready}
use Rattle.histar_sim.proofs.CallErrors.{from_each, IsDenialNamed}
use Rattle.histar_sim.proofs.Chains.{all_granted, Chain}
use Rattle.histar_sim.proofs.Steps.{Goal, granted_step, refused_step, refused_at_once, answered_step}
use Rattle.histar_sim.proofs.Walks.{runs, place_at, walk_reads, among_granted_all, agrees, at_container, at_listing, dir, seen, nothing_there}
use Rattle.histar_sim.proofs.Walks.{has_walk, walked_then, walked_also, found}
use Rattle.histar_sim.specs.Laws.{RenameRefines}
use Rattle.histar_sim.proofs.Entries.{target_at, entry_leads, reached, entry_step, entry_explained, entry_clear}
use Rattle.histar_sim.proofs.FirstReasons.{unwritten_at, named_by}

module _ {M : Type 0} (accounts : Accounts) (ok : AreAccounts accounts) (old new : KernelModel) (f : Flat) (me : ProcName) (t : ℕ)
    (ready : Ready M accounts (state old) f me t) (m : Name) (d : Path) (name : Name) (named : IsTrue (is_name name))
    (result : Result Reply Stopped) where
  abbrev call : UnixCall
  call = calls.Rename (m ∷ d) name

  abbrev walk : List RawCall
  walk = walk_reads accounts ok (state old) f me t ready d

  abbrev Refined : Type 0
  Refined = Goal accounts f me call old new t ready result

  abbrev p : Process
  p = ready.caller.process

  -- the container of the directory and its directory segment
  abbrev container : ℕ
  container = (place_at accounts ok (state old) f me t ready d).container

  abbrev listing : ℕ
  listing = (place_at accounts ok (state old) f me t ready d).listing

  abbrev entries : Entries
  entries = directory_of f.files ready.represents.matched.naming.number d

  -- what the flat rules refuse of the new name
  abbrev refusal : Option Node → Bool → Option Errno
  refusal o may = unless (not (is_some_and o (λ n. true))) EEXIST orelse unless may EACCES

  module _ (open_so_far : into accounts f p d ≡ None) (class : Class) (content : Content)
      (at : get f.files (m ∷ d) ≡ Some (record { class = class; content = content })) (mid : KernelModel)
      (stays : state mid ≡ state old) (chain : Chain old t (all_granted walk) mid) where
    is_dir_here : is_dir_at f d ≡ true
    is_dir_here = dir accounts ok (state old) f me t ready d open_so_far

    abbrev root : Class
    root = (agrees accounts ok (state old) f me t ready d (dir accounts ok (state old) f me t ready d open_so_far)).0

    root_at : get f.files d ≡ Some (record { class = root; content = Dir })
    root_at = (agrees accounts ok (state old) f me t ready d (dir accounts ok (state old) f me t ready d open_so_far)).1

    at_D : ready.represents.matched.naming.number (address_of d) ≡ Some container
    at_D = at_container accounts ok (state old) f me t ready d is_dir_here

    at_N : ready.represents.matched.naming.number (Listing ∷ address_of d) ≡ Some listing
    at_N = at_listing accounts ok (state old) f me t ready d is_dir_here

    sees : may_read accounts p root ≡ true
    sees = seen accounts ok (state old) f me t ready d open_so_far

    right_is : writes accounts f p d ≡ may_write accounts p root
    right_is = ap (λ (o : Option Node). is_some_and o (λ n. may_write accounts p n.class)) root_at

    refused_by : (o : Option Node) (may : Bool) → get f.files (name ∷ d) ≡ o → may_write accounts p root ≡ may
        → refused accounts f me p call ≡ refusal o may
    refused_by o may is_o is_may =
        reached accounts ok old new f me t ready m d call result
        (refusal (get f.files (name ∷ d)) (writes accounts f p d)) refl
        (λ _ steps r among. has_walk accounts ok (state old) f me t ready m d _ among) open_so_far
        (record { class = class; content = content }) at
        ∙ (λ i. refusal (is_o i) ((right_is ∙ is_may) i))

    -- where the new name is free the reason is that of the directory
    reason_is : get f.files (name ∷ d) ≡ None → why accounts f me p call ≡ not_written accounts f p d
    reason_is absent =
        let clear = entry_clear accounts ok (state old) f me t ready m d open_so_far _ at in
        λ i. clear i orelse unless (not (is_some_and (absent i) (λ n. true))) (IsTaken (name ∷ d)) orelse not_written accounts f p d

    -- where the entry leads
    abbrev target : Target
    target = target_at accounts ok (state old) f me t ready m d content

    leads : leads_at f.files ready.represents.matched.naming.number (m ∷ d) ≡ Some target
    leads =
        sym (get_directory f.files ready.represents.matched.naming.number d m)
        ∙ entry_leads accounts ok (state old) f me t ready m d class content at

    -- the directory with the entry under its new name
    abbrev renamed : Entries
    renamed = map.insert (map.remove entries m) name target

    abbrev next : RawCall
    next = raw.Write container listing 0 (spelling renamed)

    -- the write of the directory is what is left after the walk
    left_walked : AreLeft (requests_of accounts ready.represents.matched me p call) walk
        (unless_refused (refused accounts f me p call) (request next ∷ []))
    left_walked =
        ap (λ (o : Option Target).
        plain walk ++ unless_refused (refused accounts f me p call) (plain (writes_entries accounts ready.represents.matched d
        (with_name accounts ready.represents.matched entries m name o) ∷ [])))
        (entry_leads accounts ok (state old) f me t ready m d class content at)

    module _ (absent : get f.files (name ∷ d) ≡ None) where
      -- the kernel's check is the flat rule
      said : (may : Bool) → may_write accounts p root ≡ may → check (state mid) t next ≡ unless may Modify
      said may is_may =
          ap (λ (s : State). check s t next) stays
          ∙ write_listing_said accounts (state old) f ready.represents.matched ok me p t
          (runs accounts ok (state old) f me t ready) d root root_at container listing at_D at_N sees renamed
          (listable_renamed accounts (state old) f ready.represents.matched m name d listing at_N absent target leads
          named (ready.represents.matched.listable d is_dir_here))
          ∙ ap (λ (b : Bool). unless b Modify) is_may

      -- the write is on what the reason names that the directory may not be written
      unwritten_named : may_write accounts p root ≡ false → IsDenialNamed accounts f me call old new t ready next
      unwritten_named fails =
          let cause = unwritten_at accounts f p d (record { class = root; content = Dir }) root_at fails in
          named_by accounts (state old) f me p call next (MayNotWrite d cause.0) (reason_is absent ∙ cause.1)
          (inr (inr (inl (container, listing, found accounts ok (state old) f me t ready d is_dir_here, (refl, refl)))))

      -- the kernel has the objects of the flat state with the entry renamed
      matched_after : RepresentsStill ready.represents (with_segment_bytes (state old) listing (spelling renamed)) (with_renamed f (m ∷ d) (name ∷ d))
      matched_after =
          still_renamed accounts (state old) f ready.represents.matched m name d listing at_N absent target leads
          ready.represents.jobs_given named is_dir_here

      by_right : (may : Bool) → may_write accounts p root ≡ may → Runs M (ask next (λ _. Answers Done)) mid new t result → Refined
      by_right false is_may on =
          refused_step accounts f me call old new t ready result walk mid chain stays
          EACCES (refused_by None false absent is_may) next (λ _. Answers Done) Modify
          (said false is_may) refl refl (unwritten_named is_may) (
            walked_also accounts ok (state old) f me t ready m d old.line ((next, Some Modify) ∷ []),
            made_to_denial _ old.line t walk (request next) [] Modify
                (left_by_denial _ walk _ EACCES (request next ∷ []) (refused_by None false absent is_may) refl left_walked),
          ) on
      by_right true is_may on =
          granted_step accounts f me call old new t ready result walk mid chain next (λ _. Answers Done) (said true is_may) on
          (λ later answer called right longer end.
          let new_state : state later ≡ with_segment_bytes (state old) listing (spelling renamed) =
          called.state ∙ ap (λ (s : State). with_segment_bytes s listing (spelling renamed)) stays in
          answered_step accounts f me call old new t ready result (walk ++ next ∷ []) later longer
          Done refl (refused_by None true absent is_may) tt (
            walked_then accounts ok (state old) f me t ready m d old.line (next ∷ []),
            all_made _ old.line t (walk ++ next ∷ []) (left_then _ walk next []
                (left_allowed _ walk _ (request next ∷ []) (refused_by None true absent is_may) left_walked)),
          )
          (subst (λ (s : State). RepresentsStill ready.represents s (with_renamed f (m ∷ d) (name ∷ d))) (sym new_state) matched_after) end)

    -- once the new name was looked up
    abbrev at_name : Option Target → Program
    at_name o = given (must_be_free o) (λ _. ask next (λ _. Answers Done))

    by_name : (o : Option Node) → get f.files (name ∷ d) ≡ o → Runs M (at_name (map.get entries name)) mid new t result → Refined
    by_name None absent on =
        by_right absent (may_write accounts p root) refl (subst (λ (o : Option Target). Runs M (at_name o) mid new t result)
        (nothing_there accounts ok (state old) f me t ready name d absent) on)
    by_name (Some node) is on =
        refused_at_once accounts f me call old new t ready result walk mid chain stays
        EEXIST (refused_by (Some node) (may_write accounts p root) is refl) refl refl (
          has_walk accounts ok (state old) f me t ready m d _ (among_granted_all old.line t walk),
          made_to_end _ old.line t EEXIST walk (all_granted walk) _ (request next ∷ [])
              (refused_by (Some node) (may_write accounts p root) is refl) left_walked (inl (refl, refl)),
        )
        (subst (λ (o : Option Target). Runs M (at_name o) mid new t result)
        (entry_leads accounts ok (state old) f me t ready name d node.class node.content is) on)

  rename_is_refined : Runs M (rename_program (roots_of (length accounts.users)) (m ∷ d) name) old new t result → Refined
  unfolding rename_program
  rename_is_refined run =
      entry_step accounts ok old new f me t ready m d call result
      (refusal (get f.files (name ∷ d)) (writes accounts f p d)) refl
      (λ _ steps r among. has_walk accounts ok (state old) f me t ready m d _ among)
      (plain (writes_entries accounts ready.represents.matched d
      (with_name accounts ready.represents.matched entries m name (map.get entries m)) ∷ []))
      (λ none. refl) _
      (entry_explained accounts f me p m d call
      (unless (not (is_there f (name ∷ d))) (IsTaken (name ∷ d)) orelse not_written accounts f p d) refl) run
      (λ open_so_far class content at mid stays chain on. by_name open_so_far class content at mid stays chain (get f.files (name ∷ d)) refl on)

-- a rename of `/`
rename_of_slash : {M : Type 0} → (accounts : Accounts) (old new : KernelModel) (f : Flat) (me : ProcName) (t : ℕ) (name : Name)
    (result : Result Reply Stopped) (ready : Ready M accounts (state old) f me t)
    → Runs M (rename_program (roots_of (length accounts.users)) [] name) old new t result
    → Goal accounts f me (calls.Rename [] name) old new t ready result
unfolding rename_program find_entry
rename_of_slash accounts old new f me t name result ready run =
    refused_at_once accounts f me (calls.Rename [] name) old new t ready result [] old
    (same_kernel old) refl EBUSY refl refl refl (tt, refl) run

-- the program of `rename` refines its rule
pub rename_refines : {M : Type 0} → RenameRefines M
rename_refines {M} accounts ok [] name named me old new f t result ready run =
    from_each M accounts f me (calls.Rename [] name) old new t result ready (λ ready.
    rename_of_slash accounts old new f me t name result ready run)
rename_refines {M} accounts ok (m ∷ d) name named me old new f t result ready run =
    from_each M accounts f me (calls.Rename (m ∷ d) name) old new t result ready (λ ready.
    rename_is_refined accounts ok old new f me t ready m d name named result run)
