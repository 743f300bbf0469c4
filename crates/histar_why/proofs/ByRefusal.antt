-- What a refusal implies by itself is why its call was refused.
use Rattle.std.specs.Prelude.{◌≡◌, ◌≤◌, ℕ, suc, Bool, true, false, List, [], ◌∷◌, length, Option, None, Some, MatchOption}
use Rattle.std.specs.Prelude.{if◌then◌else◌, is_some, option_map, refl}
use Rattle.std.proofs.Common.{arith, ap, sym, ◌∙◌}
use Rattle.std.proofs.lemmas.Bool.{true≢false}
use Rattle.std.proofs.lemmas.Option.{none-some, same_Some}
use Rattle.histar_base.specs.Refusals.{◌orelse◌, unless}
use Rattle.histar_flat.specs.declared.calls.CallLine.{CallLine}
use Rattle.histar_flat.specs.declared.calls.UnixCall.{UnixCall}
use Rattle.histar_flat.specs.declared.calls.UnixCall.TheVariants.{Create, Mkdir, Read, Write, Append, List as ListCall, Stat, Unlink, Rmdir, Rmtree}
use Rattle.histar_flat.specs.declared.calls.UnixCall.TheVariants.{Rename, Spawn, Exit, Status, Kill, Whoami, Login, Wrap}
use Rattle.histar_flat.specs.declared.replies.Errno.{Errno}
use Rattle.histar_flat.specs.declared.replies.Errno.TheVariants.{ENOENT, ENOTDIR, EISDIR, EEXIST, EACCES, EPERM, ENOTEMPTY, EBUSY, ENOSPC, EFBIG}
use Rattle.histar_flat.specs.declared.replies.Errno.TheVariants.{ESRCH, EAGAIN, EAUTH}
use Rattle.histar_flat.specs.Words.{Name, Path, ProcName}
use Rattle.histar_flat.specs.PathOrder.{parent}
use Rattle.histar_flat.specs.Accounts.{Accounts}
use Rattle.histar_flat.specs.Classes.{Process}
use Rattle.histar_flat.specs.Files.{get}
use Rattle.histar_flat.specs.FlatState.{Flat, IsTree, Node, is_some_and, is_there}
use Rattle.histar_flat.specs.Needs.{is_below_root, is_child}
use Rattle.histar_flat.specs.CallRules.{path_of}
use Rattle.histar_object.specs.Objects.{label_there}
use Rattle.histar_object.specs.State.{State}
use Rattle.histar_layout.specs.Jobs.{is_empty}
use Rattle.histar_layout.specs.declared.entry.Target.{Target}
use Rattle.histar_layout.proofs.Members.{first_of, second_of}
use Rattle.histar_programs.specs.declared.roots.Roots.{Roots}
use Rattle.histar_programs.specs.Start.{roots_of}
use Rattle.histar_refinement.specs.NumberedClasses.{job_numbers}
use Rattle.histar_refinement.specs.Represents.{ObjectsMatch}
use Rattle.histar_refinement.proofs.Agreeing.{home_found}
use Rattle.histar_refinement.proofs.CallerFound.{home_is, is_or_zero, where_is}
use Rattle.histar_refinement.proofs.JobLabels.{chain_is}
use Rattle.histar_refinement.proofs.StatusFound.{numbered_home}
use Rattle.histar_readout.specs.Resolve.{Resolves}
use Rattle.histar_names.specs.Births.{Births}
use Rattle.histar_names.specs.KnownBirths.{NamesBirths}
use Rattle.histar_reasons.specs.Causes.{unknown}
use Rattle.histar_reasons.specs.Reasons.{Reason, errno_of, unseen, why, why_not_found}
use Rattle.histar_reasons.specs.Reasons.Reason.{HasDirectory, IsMissing, IsNoChild, IsTaken, IsUnseen, NoProcess}
use Rattle.histar_reasons.specs.Sentences.{why_text}
use Rattle.histar_reasons.proofs.Agreeing.{directory_there}
use Rattle.histar_why.specs.declared.asked.Asked.{Asked}
use Rattle.histar_why.specs.declared.reasons.PathReason.{PathReason}
use Rattle.histar_why.specs.declared.reasons.PathReason.TheVariants as at_path
use Rattle.histar_why.specs.declared.implied.Implied.{Implied}
use Rattle.histar_why.specs.declared.implied.Implied.TheVariants.{OfPath, IsMissing as FindsNone, IsNoChild as SeesNoChild}
use Rattle.histar_why.specs.Asked.{IsAsked, beside_of, other_of, parts_of}
use Rattle.histar_why.specs.Barriers.{path_at}
use Rattle.histar_why.specs.Reasons.{path_reason_of}
use Rattle.histar_why.specs.Implied.{FindsMissing, ImpliesErrno, anybody, are_free_to, asks_child, has_no_job, is_free_at, is_free_in, path_words}
use Rattle.histar_why.specs.Implied.{taken, implied_of as reason_of_implied, implied_words}
use Rattle.histar_why.proofs.Barriers.{path_at_all, path_at_below}
use Rattle.histar_why.proofs.Spots.{node_at, nothing_at}
use Rattle.histar_why.proofs.Implying.{first_missing, taken_by, implied_of}

-- ---- its sentence

-- the sentence of a reason of what is at a path is the same whoever calls
pub path_alike : (me : ProcName) (p : Process) (q : Path) (reason : PathReason) → why_text me p (path_reason_of q reason) ≡ path_words q reason
path_alike me p q at_path.IsMissing = refl
path_alike me p q at_path.HasFile = refl
path_alike me p q at_path.HasDirectory = refl
path_alike me p q at_path.IsTaken = refl
path_alike me p q (at_path.IsTakenBeside name) = refl
path_alike me p q at_path.RootStays = refl
path_alike me p q (at_path.IsFull n) = refl
path_alike me p q (at_path.IsNotEmpty n) = refl
path_alike me p q (at_path.IsTooLong n) = refl

-- so is that of a reason that a refusal implies, whatever is known of the process
pub implied_alike : (asked : Asked) (p : Process) (implied : Implied)
    → why_text asked.process p (reason_of_implied asked implied) ≡ implied_words asked implied
implied_alike asked p (OfPath reason) = path_alike asked.process p asked.path reason ∙ sym (path_alike asked.process anybody asked.path reason)
implied_alike asked p (FindsNone depth) = refl
implied_alike asked p SeesNoChild = refl

-- ---- what is read of a state

module _ (accounts : Accounts) (s : State) (f : Flat) (births : Births) (names : NamesBirths births accounts s f) (tree : IsTree f) where
  abbrev roots : Roots
  roots = roots_of (length accounts.users)

  abbrev l : ObjectsMatch accounts s f
  l = names.represents.matched

  -- something is found at a path where the flat state has something
  resolved_is : (q : Path) (found : Option Target) → Resolves s roots q found → is_some found ≡ is_there f q
  unfolding Resolves
  resolved_is q None nowhere = sym (ap (λ (o : Option Node). is_some_and o (λ n. true)) (nothing_at accounts s f births names q nowhere))
  resolved_is q (Some target) led = sym (ap (λ (o : Option Node). is_some_and o (λ n. true)) (node_at accounts s f births names q target led).at)

  -- a path at which nothing is is not `/`
  below_root : (q : Path) → is_there f q ≡ false → is_below_root q ≡ true
  below_root [] none = absurd (true≢false (sym (directory_there (get f.files []) tree.root) ∙ none))
  below_root (n ∷ d) none = refl

  -- the path that is missing has no more names than this one
  one_longer : (n : Name) (d : Path) (depth : ℕ) → (FindsMissing s roots d (Some depth) → depth ≤ length d)
      → FindsMissing s roots (n ∷ d) (Some depth) → depth ≤ length (n ∷ d)
  one_longer n d depth above is = by is.0 is.2
    where
      more : (m k : ℕ) → m ≤ k → m ≤ suc k
      more m k le = omega arith

      same : (m k : ℕ) → m ≡ k → m ≤ k
      same m k e = omega arith

      by : (found : Option Target) → MatchOption found (FindsMissing s roots d (Some depth)) (λ there. Some depth ≡ Some (length (n ∷ d)))
          → depth ≤ length (n ∷ d)
      by None finds = more depth (length d) (above finds)
      by (Some target) finds = same depth (length (n ∷ d)) (same_Some _ _ finds)

  missing_on_way : (q : Path) (depth : ℕ) → FindsMissing s roots q (Some depth) → depth ≤ length q
  missing_on_way [] depth is = absurd (none-some depth (sym is))
  missing_on_way (n ∷ d) depth is = one_longer n d depth (missing_on_way d depth) is

  -- one name more on the way
  one_more : (n : Name) (d : Path) (missing : Option ℕ)
      → (is_below_root d ≡ true → FindsMissing s roots d missing → option_map (λ k. path_at k d) missing ≡ Some (first_missing f d))
      → FindsMissing s roots (n ∷ d) missing → option_map (λ k. path_at k (n ∷ d)) missing ≡ Some (first_missing f (n ∷ d))
  one_more n d missing above is = by is.0 (resolved_is d is.0 is.1) is.2
    where
      below : (m : Option ℕ) → FindsMissing s roots d m → option_map (λ k. path_at k (n ∷ d)) m ≡ option_map (λ k. path_at k d) m
      below None finds = refl
      below (Some depth) finds = ap Some (path_at_below n d depth (missing_on_way d depth finds))

      by : (found : Option Target) → is_some found ≡ is_there f d
          → MatchOption found (FindsMissing s roots d missing) (λ there. missing ≡ Some (length (n ∷ d)))
          → option_map (λ k. path_at k (n ∷ d)) missing ≡ Some (first_missing f (n ∷ d))
      by None none finds =
          below missing finds ∙ above (below_root d (sym none)) finds
          ∙ ap (λ (b : Bool). Some (if b then n ∷ d else first_missing f d)) none
      by (Some target) there finds =
          ap (option_map (λ k. path_at k (n ∷ d))) finds ∙ ap Some (path_at_all (n ∷ d))
          ∙ ap (λ (b : Bool). Some (if b then n ∷ d else first_missing f d)) there

  -- the path that was found missing is the first on the way that is
  missing_is : (q : Path) (missing : Option ℕ) → is_below_root q ≡ true → FindsMissing s roots q missing
      → option_map (λ k. path_at k q) missing ≡ Some (first_missing f q)
  missing_is [] missing below is = absurd (true≢false (sym below))
  missing_is (n ∷ d) missing below is = one_more n d missing (λ b finds. missing_is d missing b finds) is

  -- ---- processes that all see

  -- a process is in no job where its container's label says so
  free_is : (me : ProcName) → is_free_at s roots.home me ≡ is_some_and (f.processes me) (λ p. is_empty (job_numbers l.category p.chain))
  free_is me = ap (is_free_in s) (home_is accounts s f l me) ∙ by (f.processes me) refl
    where
      outer : (p : Process) → f.processes me ≡ Some p
          → has_no_job (label_there (s.objects (where_is accounts s f l me).container)) ≡ is_empty (job_numbers l.category p.chain)
      outer p here =
          let numbered = numbered_home accounts s f l me ∙ ap is_some here in
          ap (λ found. has_no_job (label_there found))
          (home_found accounts s f l me p here (where_is accounts s f l me).container (is_or_zero _ numbered)).1
          ∙ ap is_empty (chain_is l.category l.different me p (l.processes me p here).chain)

      by : (o : Option Process) → f.processes me ≡ o
          → is_free_in s (option_map (λ (p : Process). where_is accounts s f l me) o)
          ≡ is_some_and o (λ p. is_empty (job_numbers l.category p.chain))
      by None e = refl
      by (Some p) e = outer p e

  -- a process that is there and in no job is seen
  seen_by : (p : Process) (name : ProcName) (o : Option Process) → is_some_and o (λ other. is_empty (job_numbers l.category other.chain)) ≡ true
      → (unless (is_some o) (NoProcess name) orelse unseen accounts f p name o) ≡ None
  seen_by p name None h = absurd (true≢false (sym h))
  seen_by p name (Some other) h = by other.chain h
    where
      by : (chain : List ProcName) → is_empty (job_numbers l.category chain) ≡ true → option_map (IsUnseen name) (unknown p chain) ≡ None
      by [] h = refl
      by (job ∷ chain) h = absurd (true≢false (sym h))

  -- where a process and all above it are there and in no job, each process finds it
  all_find : (p : Process) (name : ProcName) → are_free_to s roots.home name ≡ true → why_not_found accounts f p name ≡ None
  all_find p [] h = refl
  all_find p (n ∷ above) h =
      (λ i. all_find p above (first_of (are_free_to s roots.home above) (is_free_at s roots.home (n ∷ above)) h) i
      orelse (unless (is_some (f.processes (n ∷ above))) (NoProcess (n ∷ above))
      orelse unseen accounts f p (n ∷ above) (f.processes (n ∷ above))))
      ∙ seen_by p (n ∷ above) (f.processes (n ∷ above))
      (sym (free_is (n ∷ above)) ∙ second_of (are_free_to s roots.home above) (is_free_at s roots.home (n ∷ above)) h)

  -- ---- the reason

  module _ (line : CallLine) (p : Process) (asked : Asked) (is_asked : IsAsked line asked) (implied : Implied) (r : Reason)
      (refused : why accounts f line.process p line.call ≡ Some r) where
    abbrev call : UnixCall
    call = line.call

    abbrev taken_at : Path → Option Name → Path
    taken_at q None = q
    taken_at q (Some name) = name ∷ parent q

    taken_is : (c : UnixCall) → taken_at (path_of c) (beside_of c) ≡ taken_by c
    taken_is (Create q mode) = refl
    taken_is (Mkdir q mode) = refl
    taken_is (Read q) = refl
    taken_is (Write q bytes) = refl
    taken_is (Append q bytes) = refl
    taken_is (ListCall q) = refl
    taken_is (Stat q) = refl
    taken_is (Unlink q) = refl
    taken_is (Rmdir q) = refl
    taken_is (Rmtree q) = refl
    taken_is (Rename q name) = refl
    taken_is Spawn = refl
    taken_is (Exit n) = refl
    taken_is (Status name) = refl
    taken_is (Kill name) = refl
    taken_is Whoami = refl
    taken_is (Login name password) = refl
    taken_is (Wrap q) = refl

    path_taken : path_reason_of asked.path (taken asked) ≡ IsTaken (taken_by call)
    path_taken = by asked.beside ∙ ap IsTaken ((λ i. taken_at (is_asked.path i) (is_asked.beside i)) ∙ taken_is call)
      where
        by : (o : Option Name)
            → path_reason_of asked.path (elim o [ None ↦ at_path.IsTaken | Some name ↦ at_path.IsTakenBeside name ])
            ≡ IsTaken (taken_at asked.path o)
        by None = refl
        by (Some name) = refl

    -- where a call needs a child, it is a kill
    kill_is : (c : UnixCall) → call ≡ c → asks_child (parts_of c) ≡ true → why_not_found accounts f p (other_of c) ≡ None
        → r ≡ IsNoChild (other_of c)
    kill_is (Kill name) e asks found =
        by (is_child line.process name)
        (sym (ap (λ (c : UnixCall). why accounts f line.process p c) e) ∙ refused)
      where
        by : (b : Bool) → (why_not_found accounts f p name orelse unless b (IsNoChild name)) ≡ Some r → r ≡ IsNoChild name
        by true h = absurd (none-some r (sym (ap (λ (o : Option Reason). o orelse None) found) ∙ h))
        by false h = sym (same_Some _ _ (sym (ap (λ (o : Option Reason). o orelse Some (IsNoChild name)) found) ∙ h))
    kill_is (Create q mode) e asks found = absurd (true≢false (sym asks))
    kill_is (Mkdir q mode) e asks found = absurd (true≢false (sym asks))
    kill_is (Read q) e asks found = absurd (true≢false (sym asks))
    kill_is (Write q bytes) e asks found = absurd (true≢false (sym asks))
    kill_is (Append q bytes) e asks found = absurd (true≢false (sym asks))
    kill_is (ListCall q) e asks found = absurd (true≢false (sym asks))
    kill_is (Stat q) e asks found = absurd (true≢false (sym asks))
    kill_is (Unlink q) e asks found = absurd (true≢false (sym asks))
    kill_is (Rmdir q) e asks found = absurd (true≢false (sym asks))
    kill_is (Rmtree q) e asks found = absurd (true≢false (sym asks))
    kill_is (Rename q name) e asks found = absurd (true≢false (sym asks))
    kill_is Spawn e asks found = absurd (true≢false (sym asks))
    kill_is (Exit n) e asks found = absurd (true≢false (sym asks))
    kill_is (Status name) e asks found = absurd (true≢false (sym asks))
    kill_is Whoami e asks found = absurd (true≢false (sym asks))
    kill_is (Login name password) e asks found = absurd (true≢false (sym asks))
    kill_is (Wrap q) e asks found = absurd (true≢false (sym asks))

    abbrev reason : Reason
    reason = reason_of_implied asked implied

    -- the path that a call of ENOENT is about
    missing_implied : (q : Path) → path_of call ≡ q → asked.path ≡ q → (missing : Option ℕ) → FindsMissing s roots q missing
        → Some implied ≡ option_map FindsNone missing → errno_of r ≡ ENOENT → reason ≡ r
    missing_implied [] e same missing finds is errno = absurd (none-some implied (sym (is ∙ ap (option_map FindsNone) finds)))
    missing_implied (n ∷ d) e same None finds is errno = absurd (none-some implied (sym is))
    missing_implied (n ∷ d) e same (Some depth) finds is errno =
        ap (reason_of_implied asked) (same_Some implied _ is)
        ∙ ap (λ (q : Path). IsMissing (path_at depth q)) same
        ∙ ap IsMissing (same_Some _ _ (missing_is (n ∷ d) (Some depth) refl finds))
        ∙ ap (λ (q : Path). IsMissing (first_missing f q)) (sym e)
        ∙ sym ((implied_of accounts f tree line.process p call r refused).3 errno (λ root. absurd (cc)))

    -- the reason that is implied is the rule's
    implied_right : (e : Errno) → errno_of r ≡ e → ImpliesErrno s roots asked e (Some implied) → reason ≡ r
    implied_right EEXIST errno implies =
        ap (reason_of_implied asked) (same_Some implied _ implies) ∙ path_taken
        ∙ sym ((implied_of accounts f tree line.process p call r refused).0 errno)
    implied_right EISDIR errno implies =
        ap (reason_of_implied asked) (same_Some implied _ implies) ∙ ap HasDirectory is_asked.path
        ∙ sym ((implied_of accounts f tree line.process p call r refused).1 errno)
    implied_right EBUSY errno implies =
        ap (reason_of_implied asked) (same_Some implied _ implies)
        ∙ sym ((implied_of accounts f tree line.process p call r refused).2 errno)
    implied_right ENOENT errno implies = missing_implied asked.path (sym is_asked.path) refl implies.0 implies.1 implies.2 errno
    implied_right EACCES errno implies =
        ap (reason_of_implied asked) implies.0 ∙ ap IsNoChild is_asked.other
        ∙ sym (kill_is call refl (sym (ap asks_child is_asked.parts) ∙ implies.1)
        (all_find p (other_of call) (sym (ap (are_free_to s roots.home) is_asked.other) ∙ implies.2)))
    implied_right ENOTDIR errno implies = absurd (none-some implied (sym implies))
    implied_right EPERM errno implies = absurd (none-some implied (sym implies))
    implied_right ENOTEMPTY errno implies = absurd (none-some implied (sym implies))
    implied_right ENOSPC errno implies = absurd (none-some implied (sym implies))
    implied_right EFBIG errno implies = absurd (none-some implied (sym implies))
    implied_right ESRCH errno implies = absurd (none-some implied (sym implies))
    implied_right EAGAIN errno implies = absurd (none-some implied (sym implies))
    implied_right EAUTH errno implies = absurd (none-some implied (sym implies))

    -- and its sentence is that of the rule
    pub implied_said : (e : Errno) → errno_of r ≡ e → ImpliesErrno s roots asked e (Some implied)
        → implied_words asked implied ≡ why_text line.process p r
    implied_said e errno implies =
        sym (implied_alike asked p implied) ∙ (λ i. why_text (is_asked.by i) p (implied_right e errno implies i))
