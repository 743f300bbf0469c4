-- How the requests of a Unix call may be denied: one of them in the state in which the thread has made the category of a new job, and each
-- other one with nothing made after it, so in the last state.
use Rattle.std.proofs.Common.{◌≡◌, ℕ, ◌+◌, ◌≤◌, ◌⊎◌, inl, inr, Bool, true, false, List, [], ◌∷◌, ◌++◌, Option}
use Rattle.std.proofs.Common.{None, Some, refl, sym, ap}
use Rattle.std.proofs.Common.{◌∙◌, subst, arith, if◌then◌else◌}
use Rattle.std.specs.Prelude.{is_some, map, nat_lt, length}
use Rattle.std.specs.List.{AllByRecursion}
use Rattle.std.proofs.lemmas.Option.{none-some, same_Some}
use Rattle.histar_flat.specs.declared.calls.Mode.{Mode}
use Rattle.histar_flat.specs.declared.calls.UnixCall.{UnixCall}
use Rattle.histar_flat.specs.declared.calls.UnixCall.TheVariants.{Create, Mkdir, Write, Append, Read, List as ListCall, Stat, Login, Unlink}
use Rattle.histar_flat.specs.declared.calls.UnixCall.TheVariants.{Rmdir, Rmtree, Rename, Spawn, Exit, Status, Kill, Whoami, Wrap}
use Rattle.histar_flat.specs.declared.replies.Errno.{Errno}
use Rattle.histar_flat.specs.Words.{Name, Password, Path, ProcName, most_children, most_numbers}
use Rattle.histar_flat.specs.Accounts.{Accounts}
use Rattle.histar_flat.specs.Classes.{Process}
use Rattle.histar_flat.specs.FlatState.{Flat}
use Rattle.histar_flat.specs.FlatCalls.{refused}
use Rattle.histar_level.specs.declared.level.Level.TheVariants.{Star, L3}
use Rattle.histar_level.specs.Levels.{Levels}
use Rattle.histar_label.specs.Levels.{with_level}
use Rattle.histar_object.specs.State.{State}
use Rattle.histar_rules.specs.declared.raw.RawCall.{RawCall}
use Rattle.histar_rules.specs.declared.raw.RawCall.TheVariants as raw
use Rattle.histar_rules.specs.Rights.{with_category}
use Rattle.histar_rules.specs.Rules.{check, Leaves}
use Rattle.histar_programs.specs.Kin.{Kin, kin_of}
use Rattle.histar_programs.specs.Users.{place_of}
use Rattle.histar_refinement.specs.Addresses.{address_of, home_address}
use Rattle.histar_refinement.specs.Processes.{or_zero}
use Rattle.histar_refinement.specs.Represents.{ObjectsMatch}
use Rattle.histar_refinement.proofs.Agreeing.{some_of}
use Rattle.histar_refinement.proofs.ListedFiles.{not_home}
use Rattle.histar_refinement.proofs.StatusFound.{numbered_home}
use Rattle.histar_sim.specs.RawCalls.{Request, births, in_directory, is_of_denial, label_of_made, logs_in, number_at, own_clearance}
use Rattle.histar_sim.specs.RawCalls.{own_label, plain, takes_own}
use Rattle.histar_sim.specs.RawCalls.{reads_entries, reads_status, removes, requests_by, requests_of, starts_job, unless_refused, with_room}
use Rattle.histar_sim.specs.Reads.{looked_at, tested}
use Rattle.histar_sim.proofs.Walks.{all_joined}
use Rattle.histar_wrap.specs.Scratch.{directory_label, kin_in}

-- a raw call only reads
abbrev Looks : RawCall → Type 0
Looks raw.OwnLabel = Unit {0}
Looks (raw.Read d o) = Unit {0}
Looks (raw.LabelOf d o) = Unit {0}
Looks call = ⊥

-- so it leaves the state as it was
left_same : (x y : State) (t : ℕ) (call : RawCall) → Looks call → Leaves None x t call y → y ≡ x
left_same x y t raw.OwnLabel looks same = same
left_same x y t (raw.Read d o) looks same = same
left_same x y t (raw.LabelOf d o) looks same = same
left_same x y t call looks same = absurd looks

-- each of some calls is so, where each is made from an element of a list
all_mapped : {A : Type 0} (P : RawCall → Type 0) (g : A → RawCall) → ((a : A) → P (g a)) → (xs : List A) → AllByRecursion P (map g xs)
all_mapped P g each [] = tt
all_mapped P g each (a ∷ xs) = (each a, all_mapped P g each xs)

-- requests but for the first
abbrev without_first : List Request → List Request
without_first [] = []
without_first (r ∷ rs) = rs

module _ (accounts : Accounts) (s : State) (f : Flat) (l : ObjectsMatch accounts s f) where
  -- the number of the container of a directory
  abbrev pub IsDirectoryNumber : ℕ → Type 0
  IsDirectoryNumber c = (d : Path) × (l.naming.number (address_of d) ≡ Some c)

  -- the next number and those above it are none
  not_next : (c : ℕ) → s.next_object ≤ c → IsDirectoryNumber c → ⊥
  not_next c le dir =
      none-some (address_of dir.0) (sym (l.agrees.tree.unused c le) ∙ l.agrees.tree.addressed (address_of dir.0) c dir.1)

  -- nor is the number of a process's container
  not_of_process : (me : ProcName) (p : Process) → f.processes me ≡ Some p → IsDirectoryNumber (number_at accounts l (home_address me)) → ⊥
  not_of_process me p here dir =
      let home = some_of (l.naming.number (home_address me)) (numbered_home accounts s f l me ∙ ap is_some here) in
      let c = number_at accounts l (home_address me) in
      let at : l.naming.number (home_address me) ≡ Some c = home.1 ∙ ap Some (sym (ap or_zero home.1)) in
      not_home dir.0 me (same_Some (address_of dir.0) (home_address me)
      (sym (l.agrees.tree.addressed (address_of dir.0) c dir.1) ∙ l.agrees.tree.addressed (home_address me) c at))

  module _ (me : ProcName) (p : Process) (t : ℕ) (Holds : Levels → Type 0) where
    -- this holds of the label that a raw call gives to what it makes in a directory, and of its verify label
    abbrev pub IsHanded : RawCall → Type 0
    IsHanded (raw.MakeSegment c label bytes) = IsDirectoryNumber c → Holds label
    IsHanded (raw.MakeContainer c label) = IsDirectoryNumber c → Holds label
    IsHanded (raw.Enter c g label clearance verify) = Holds verify
    IsHanded call = Unit {0}

    -- a raw call makes the directory of a new job, in the state in which the thread has made the job's category
    pub record MakesJob (x : State) (call : RawCall) : Type 0 where
      pub granted : check s t raw.MakeCategory ≡ None
      pub state : x ≡ with_category s t
      pub container : ℕ
      pub is : call ≡ raw.MakeContainer container (directory_label accounts (own_label accounts l me p) s.next_category)

    -- how a request may be denied: nothing is made after it, and its labels are so; or it makes the directory of a new job
    abbrev pub MayBeDenied : State → Request → Type 0
    MayBeDenied x r = ((r.if_denied ≡ []) × IsHanded r.call) ⊎ MakesJob x r.call

    -- each of these requests may be denied so, from a state on
    abbrev pub MayEachBeDenied : State → List Request → Type 0
    MayEachBeDenied x [] = Unit {0}
    MayEachBeDenied x (r ∷ rs) =
        MayBeDenied x r × ((y : State) → check x t r.call ≡ None → Leaves None x t r.call y → MayEachBeDenied y rs)

    -- ---- lists of requests

    -- raw calls whose labels are so
    all_plain : (x : State) (calls : List RawCall) → AllByRecursion IsHanded calls → MayEachBeDenied x (plain calls)
    all_plain x [] handed = tt
    all_plain x (call ∷ calls) handed = (inl (refl, handed.0), λ y passed leaves. all_plain y calls handed.1)

    -- one that only reads has none
    looks_handed : (call : RawCall) → Looks call → IsHanded call
    looks_handed raw.OwnLabel looks = tt
    looks_handed (raw.Read d o) looks = tt
    looks_handed (raw.LabelOf d o) looks = tt
    looks_handed call looks = absurd looks

    -- after raw calls that only read the state is the same
    after_looks : (x : State) (calls : List RawCall) (rest : List Request) → AllByRecursion Looks calls → MayEachBeDenied x rest
        → MayEachBeDenied x (plain calls ++ rest)
    after_looks x [] rest looks later = later
    after_looks x (call ∷ calls) rest looks later = (
      inl (refl, looks_handed call looks.0),
      λ y passed leaves.
          subst (λ z. MayEachBeDenied z (plain calls ++ rest)) (sym (left_same x y t call looks.0 leaves))
          (after_looks x calls rest looks.1 later),
    )

    -- requests that are left out where the call is refused before them
    unless_denied : (x : State) (refusal : Option Errno) (rest : List Request) → MayEachBeDenied x rest
        → MayEachBeDenied x (unless_refused refusal rest)
    unless_denied x None rest later = later
    unless_denied x (Some errno) rest later = by (is_of_denial errno)
      where
        by : (b : Bool) → MayEachBeDenied x (if b then rest else [])
        by true = later
        by false = tt

    -- requests after the walk to a directory
    in_directory_denied : (x : State) (refusal : Option Errno) (q : Path) (after : Path → Name → List Request)
        → ((d : Path) (name : Name) → MayEachBeDenied x (after d name))
        → MayEachBeDenied x (in_directory accounts l me p refusal q after)
    in_directory_denied x refusal [] after each = tt
    in_directory_denied x refusal (name ∷ d) after each =
        after_looks x (map (reads_entries accounts l) (tested accounts f p d)) (unless_refused refusal (after d name))
        (all_mapped Looks (reads_entries accounts l) (λ q. tt) (tested accounts f p d))
        (unless_denied x refusal (after d name) (each d name))

    -- requests of a process whose name has room for a child
    with_room_denied : (x : State) (requests : List Request) → MayEachBeDenied x requests → MayEachBeDenied x (with_room accounts l me p requests)
    with_room_denied x requests each = by (nat_lt (length me) most_numbers)
      where
        left : (b : Bool) → MayEachBeDenied x (if b then requests else [])
        left true = each
        left false = tt

        by : (b : Bool)
            → MayEachBeDenied x
            (if b then plain (reads_status accounts l me ∷ []) ++ (if nat_lt p.born most_children then requests else []) else [])
        by true = after_looks x (reads_status accounts l me ∷ []) _ (tt, tt) (left (nat_lt p.born most_children))
        by false = tt

    module _ (here : f.processes me ≡ Some p) (own : Holds (own_label accounts l me p))
        (made : (mode : Mode) → Holds (label_of_made accounts l me p mode)) where
      -- the birth of a child makes nothing in a directory
      births_handed : (kin : Kin) (category container : ℕ) → s.next_object ≤ container
          → AllByRecursion IsHanded (births accounts l me p kin category container)
      births_handed kin category container new = (
        tt,
        (
          tt,
          (
            λ dir. absurd (not_of_process me p here dir),
            (
              λ dir. absurd (not_next container new dir),
              (
                tt,
                (
                  λ dir. absurd (not_next container new dir),
                  (tt, tt),
                ),
              ),
            ),
          ),
        ),
      )

      -- a removal gives no label
      removed_handed : (d : Path) (name : Name) → AllByRecursion IsHanded (removes accounts l d name)
      removed_handed d name = (tt, (tt, tt))

      -- the birth of a job's first process, and the labels with which the thread holds the job
      abbrev job_births : List RawCall
      job_births =
          births accounts l me p (kin_in accounts (own_label accounts l me p) s.next_category) (s.next_category + 1) (s.next_object + 1 + 1)

      abbrev job_holds : List RawCall
      job_holds =
          raw.SetLabel (with_level (own_label accounts l me p) s.next_category Star)
          ∷ raw.SetClearance (with_level (own_clearance accounts l me p) s.next_category L3) ∷ []

      -- the raw calls of a wrap after its directory
      after_job : (x : State) → MayEachBeDenied x (plain (job_births ++ job_holds))
      after_job x =
          all_plain x (job_births ++ job_holds) (all_joined IsHanded job_births job_holds
          (births_handed (kin_in accounts (own_label accounts l me p) s.next_category) (s.next_category + 1) (s.next_object + 1 + 1)
          (omega arith)) (tt, (tt, tt)))

      -- the raw calls of a wrap, from the state before the line on
      job_denied : (d : Path) (name : Name) → MayEachBeDenied s (starts_job accounts l me p d name)
      job_denied d name = after_looks s (raw.OwnLabel ∷ []) (without_first (starts_job accounts l me p d name)) (tt, tt) (
        inl (refl, tt),
        λ z granted made_category. (
          inr (record { granted = granted; state = made_category; container = _; is = refl }),
          λ x passed leaves. (
            inl (refl, λ dir. absurd (not_next s.next_object (omega arith) dir)),
            λ w again left. (inl (refl, tt), λ v once more. after_job v),
          ),
        ),
      )

      -- the birth of a child of a spawn, and the labels that the thread takes again
      abbrev child_births : List RawCall
      child_births = births accounts l me p (kin_of accounts (own_label accounts l me p)) s.next_category s.next_object

      spawn_denied : (x : State) → MayEachBeDenied x (plain (child_births ++ takes_own accounts l me p))
      spawn_denied x =
          all_plain x (child_births ++ takes_own accounts l me p) (all_joined IsHanded child_births (takes_own accounts l me p)
          (births_handed (kin_of accounts (own_label accounts l me p)) s.next_category s.next_object (omega arith)) (tt, (tt, tt)))

      -- the raw calls of a login
      logged_denied : (x : State) (name : Name) (password : Password) (o : Option ℕ)
          → MayEachBeDenied x (plain (logs_in accounts l me p name password o))
      logged_denied x name password None = tt
      logged_denied x name password (Some place) = all_plain x (logs_in accounts l me p name password (Some place)) (tt, (own, (tt, (tt, (tt, tt)))))

      -- those of each call
      by_call : (refusal : Option Errno) (call : UnixCall) → MayEachBeDenied s (requests_by accounts l me p refusal call)
      by_call refusal (Create q mode) =
          in_directory_denied s refusal q _ (λ d name. (
            inl (refl, tt),
            λ y passed leaves.
                (inl (refl, λ dir. made mode), λ y passed leaves. (inl (refl, tt), λ y passed leaves. tt)),
          ))
      by_call refusal (Mkdir q mode) =
          in_directory_denied s refusal q _ (λ d name. (
            inl (refl, tt),
            λ y passed leaves. (
              inl (refl, λ dir. made mode),
              λ y passed leaves.
                  (inl (refl, λ dir. made mode), λ y passed leaves. (inl (refl, tt), λ y passed leaves. tt)),
            ),
          ))
      by_call refusal (Read q) = in_directory_denied s refusal q _ (λ d name. (inl (refl, tt), λ y passed leaves. tt))
      by_call refusal (Write q bytes) = in_directory_denied s refusal q _ (λ d name. (inl (refl, tt), λ y passed leaves. tt))
      by_call refusal (Append q bytes) = in_directory_denied s refusal q _ (λ d name. (inl (refl, tt), λ y passed leaves. tt))
      by_call refusal (ListCall q) = all_plain s (map (reads_entries accounts l) (tested accounts f p q))
          (all_mapped IsHanded (reads_entries accounts l) (λ d. tt) (tested accounts f p q))
      by_call refusal (Stat []) = (inl (refl, tt), λ y passed leaves. tt)
      by_call refusal (Stat (n ∷ q)) =
          in_directory_denied s refusal (n ∷ q) (λ d name. plain (raw.LabelOf (number_at accounts l (address_of d))
          (number_at accounts l (address_of (name ∷ d))) ∷ [])) (λ d name. (inl (refl, tt), λ y passed leaves. tt))
      by_call refusal (Unlink q) = in_directory_denied s refusal q _ (λ d name. all_plain s (removes accounts l d name) (removed_handed d name))
      by_call refusal (Rmtree q) = in_directory_denied s refusal q _ (λ d name. all_plain s (removes accounts l d name) (removed_handed d name))
      by_call refusal (Rmdir []) = tt
      by_call refusal (Rmdir (name ∷ d)) =
          after_looks s (map (reads_entries accounts l) (tested accounts f p (name ∷ d))) _
          (all_mapped Looks (reads_entries accounts l) (λ q. tt) (tested accounts f p (name ∷ d)))
          (unless_denied s refusal _ (all_plain s (removes accounts l d name) (removed_handed d name)))
      by_call refusal (Rename q new) = in_directory_denied s refusal q _ (λ d name. (inl (refl, tt), λ y passed leaves. tt))
      by_call refusal Whoami = (inl (refl, tt), λ y passed leaves. tt)
      by_call refusal (Status name) = all_plain s (map (reads_status accounts l) (looked_at accounts f p name))
          (all_mapped IsHanded (reads_status accounts l) (λ d. tt) (looked_at accounts f p name))
      by_call refusal (Kill []) = (inl (refl, tt), λ y passed leaves. (inl (refl, tt), λ y passed leaves. tt))
      by_call refusal (Kill (n ∷ above)) =
          after_looks s (map (reads_status accounts l) (looked_at accounts f p (n ∷ above))) _
          (all_mapped Looks (reads_status accounts l) (λ q. tt) (looked_at accounts f p (n ∷ above)))
          (unless_denied s refusal _ (inl (refl, tt), λ y passed leaves. (inl (refl, tt), λ y passed leaves. tt)))
      by_call refusal (Exit number) =
          (inl (refl, tt), λ y passed leaves. (inl (refl, tt), λ y passed leaves. (inl (refl, tt), λ y passed leaves. tt)))
      by_call refusal Spawn =
          with_room_denied s (plain (raw.OwnLabel ∷ child_births ++ takes_own accounts l me p))
          (inl (refl, tt), λ y passed leaves. spawn_denied y)
      by_call refusal (Login name password) = logged_denied s name password (place_of accounts.users name)
      by_call refusal (Wrap q) = with_room_denied s _ (in_directory_denied s refusal q _ job_denied)

      -- The requests of a call may be denied so, from the state before its line on.
      pub requests_denied : (call : UnixCall) → MayEachBeDenied s (requests_of accounts l me p call)
      requests_denied call = by_call (refused accounts f me p call) call
