-- A call of any process outside the job but `rmdir` and `wrap` keeps the states the same outside the job.
use Rattle.std.specs.Prelude.{Bool, None, Option, Some, [], false, is_some, not, option_map, refl, true, ℕ, ◌||◌, ◌∷◌, ◌≡◌, ◌⊎◌}
use Rattle.std.proofs.Common.{ap, inl, inr, subst, sym, ◌∙◌}
use Rattle.std.proofs.lemmas.Bool.{or_parts, true≢false, cases_Bool}
use Rattle.histar_base.specs.Refusals.{unless, ◌orelse◌}
use Rattle.histar_flat.specs.declared.calls.UnixCall.{UnixCall}
use Rattle.histar_flat.specs.declared.calls.UnixCall.TheVariants.{Kill, Rmdir, Status, Wrap}
use Rattle.histar_flat.specs.declared.replies.Errno.{Errno}
use Rattle.histar_flat.specs.declared.replies.Errno.TheVariants.{EACCES}
use Rattle.histar_flat.specs.Classes.{Process}
use Rattle.histar_flat.specs.Files.{get}
use Rattle.histar_flat.specs.FlatCalls.{changed, flat_by, flat_or, is_below_root, is_child, not_found, refused}
use Rattle.histar_flat.specs.CallRules.{path_of, rule}
use Rattle.histar_flat.specs.Effects.{Effect, apply}
use Rattle.histar_flat.specs.Effects.Effect.{Nothing, Makes, Stores, Removes, Renames, Spawns, Exits, LogsIn, Kills, Wraps}
use Rattle.histar_flat.specs.FlatState.{Flat, bytes_of, walk}
use Rattle.histar_base.specs.Paths.{same}
use Rattle.histar_flat.specs.PathOrder.{parent, under_process}
use Rattle.histar_flat.specs.Accounts.{Accounts}
use Rattle.histar_flat.specs.Words.{Name, Path, ProcName}
use Rattle.histar_flat.proofs.Changes.{another_name, or_stays}
use Rattle.histar_flat.proofs.Entries.{shown}
use Rattle.histar_flat.proofs.LooksAlike.{LooksAlike, is_narrow, refused_alike_narrow}
use Rattle.histar_flat.specs.RuleLaws.{Warrant}
use Rattle.histar_flat.proofs.Warrants.{warranted}
use Rattle.histar_flat.proofs.Trees.{nothing_below}
use Rattle.histar_noninterference.specs.Comparison.{is_dir_of, lies_in_job}
use Rattle.histar_noninterference.specs.Isolation.{is_rmdir_or_wrap}
use Rattle.histar_noninterference.proofs.Both.{both}
use Rattle.histar_noninterference.proofs.Effects.{cut_below, insert_below}
use Rattle.histar_noninterference.proofs.Inside.{ChangesFilesBelow, aside, rename_below}
use Rattle.histar_noninterference.proofs.Outside.{lie_alike}
use Rattle.histar_noninterference.proofs.Processes.{found_alike, job_found_alike}
use Rattle.histar_noninterference.proofs.Relation.{IsStarted, SameOutside}
use Rattle.histar_noninterference.proofs.Renames.{renamed}
use Rattle.histar_noninterference.proofs.Steps.{outside_turned}
use Rattle.histar_noninterference.proofs.TestLemmas.{failed, is_same, left_holds, stops_later}
use Rattle.histar_noninterference.proofs.Walks.{entries_alike, into_alike}

-- a refused call changes nothing on either side
pub both_refused : (job : ProcName) (f g f' g' : Flat) (e e' : Option Errno) → SameOutside job f g → is_some e ≡ true → is_some e' ≡ true
    → SameOutside job (flat_or e f f') (flat_or e' g g')
both_refused job f g f' g' None e' r h h' = absurd (true≢false (sym h))
both_refused job f g f' g' (Some x) None r h h' = absurd (true≢false (sym h'))
both_refused job f g f' g' (Some x) (Some y) r h h' = r

-- a call that changes nothing keeps the states the same
still : (job : ProcName) (f g : Flat) (e e' : Option Errno) → SameOutside job f g → SameOutside job (flat_or e f f) (flat_or e' g g)
still job f g None None r = r
still job f g None (Some y) r = r
still job f g (Some x) None r = r
still job f g (Some x) (Some y) r = r

-- the effect changes only files, if the call names a path, and else only the caller and its children
abbrev is_calm : Path → Effect → Bool
is_calm q (Kills name) = false
is_calm q Wraps = false
is_calm q Spawns = not (is_below_root q)
is_calm q (Exits n) = not (is_below_root q)
is_calm q (LogsIn name) = not (is_below_root q)
is_calm q _ = true

module _ (m : ℕ) (w : ProcName) (accounts : Accounts) (f g : Flat) (r : SameOutside (m ∷ w) f g) (hf : IsStarted (m ∷ w) f)
    (hg : IsStarted (m ∷ w) g) (me : ProcName) (p : Process) (out : under_process (m ∷ w) me ≡ false) where
  -- two states look alike at a path that doesn't lie in the job
  pub looks_alike : (q : Path) → lies_in_job (m ∷ w) f.files q ≡ false → LooksAlike false accounts f g p q
  looks_alike q u = record {
    way = way q u;
    here = λ walked. ap (option_map shown) (r.files.same q u);
    above = λ below walked. ap (option_map shown) (r.files.same (parent q) (above q u));
    beside = λ name below walked. ap (option_map shown) (r.files.same (name ∷ parent q) (beside q u below));
    entries_above = λ below walked. entries_alike (m ∷ w) f g r.files (parent q) (beside q u below);
    entries = λ wide. absurd (true≢false (sym wide));
    bytes = λ walked may. ap bytes_of (r.files.same q u);
    found = λ wide. absurd (true≢false (sym wide));
    life = λ wide. absurd (true≢false (sym wide));
  }
    where
      way : (q : Path) → lies_in_job (m ∷ w) f.files q ≡ false → walk accounts f p q ≡ walk accounts g p q
      way [] u = refl
      way (n ∷ d) u = into_alike (m ∷ w) accounts p f g r.files d u

      above : (q : Path) → lies_in_job (m ∷ w) f.files q ≡ false → lies_in_job (m ∷ w) f.files (parent q) ≡ false
      above [] u = refl
      above (n ∷ d) u = (or_parts (is_dir_of (m ∷ w) (get f.files d)) (lies_in_job (m ∷ w) f.files d) u).1

      beside : (q : Path) → lies_in_job (m ∷ w) f.files q ≡ false → is_below_root q ≡ true
          → (is_dir_of (m ∷ w) (get f.files (parent q)) || lies_in_job (m ∷ w) f.files (parent q)) ≡ false
      beside [] u below = absurd (true≢false (sym below))
      beside (n ∷ d) u below = u

  -- at a path that lies in the job, a calm effect changes only files below the directory
  changes_below : (a : Flat) → IsStarted (m ∷ w) a → (n : Name) (d : Path) (effect : Effect) → Warrant accounts a me p (n ∷ d) effect
      → is_calm (n ∷ d) effect ≡ true → ChangesFilesBelow d a (apply accounts a me p (n ∷ d) effect)
  unfolding renamed
  changes_below a h n d Nothing may calm = record { files = record { rest = λ q below. refl }; processes = refl }
  changes_below a h n d (Makes content mode) may calm = record { files = insert_below (m ∷ w) a.files n d _; processes = refl }
  changes_below a h n d (Stores new) may calm = record { files = insert_below (m ∷ w) a.files n d _; processes = refl }
  changes_below a h n d Removes may calm = record { files = cut_below (m ∷ w) a.files n d; processes = refl }
  changes_below a h n d (Renames k) may calm =
      record {
        files = rename_below (m ∷ w) a.files n k d (another_name a n k d may.1 may.2)
            (nothing_below a h.tree (k ∷ d) may.2);
        processes = refl;
      }
  changes_below a h n d _ may calm = absurd (true≢false (sym calm))

  -- a calm call with narrow needs keeps the states the same: its path lies in the job, or it is refused alike
  calmly : (call : UnixCall) → is_narrow (rule call).needs ≡ true → is_calm (path_of call) (rule call).effect ≡ true
      → SameOutside (m ∷ w) (flat_by accounts f me (Some p) call) (flat_by accounts g me (Some p) call)
  calmly call narrow calm = by (path_of call) refl (cases_Bool (lies_in_job (m ∷ w) f.files (path_of call)))
    where
      by : (q : Path) → path_of call ≡ q → (lies_in_job (m ∷ w) f.files (path_of call) ≡ true) ⊎ (lies_in_job (m ∷ w) f.files (path_of call) ≡ false)
          → SameOutside (m ∷ w) (flat_by accounts f me (Some p) call) (flat_by accounts g me (Some p) call)
      by q at (inr u) =
          both m w accounts f g r hf hg me p call
          (refused_alike_narrow accounts f g me p call (looks_alike (path_of call) u) narrow) (λ v h. u)
      by [] at (inl h) = absurd (true≢false (sym h ∙ ap (lies_in_job (m ∷ w) f.files) at))
      by (n ∷ d) at (inl h) =
          let inside = ap (lies_in_job (m ∷ w) f.files) (sym at) ∙ h in
          let below : (a : Flat) → IsStarted (m ∷ w) a → refused accounts a me p call ≡ None
          → ChangesFilesBelow d a (changed accounts a me p call) =
          λ a s v.
          subst (λ q. ChangesFilesBelow d a (apply accounts a me p q (rule call).effect)) (sym at)
          (changes_below a s n d (rule call).effect (subst (λ q. Warrant accounts a me p q (rule call).effect) at (warranted accounts a me p call v))
          (ap (λ q. is_calm q (rule call).effect) (sym at) ∙ calm)) in
          let one = or_stays (λ x. SameOutside (m ∷ w) x g) f (changed accounts f me p call) (refused accounts f me p call) r
          (λ v. aside (m ∷ w) f g r (changed accounts f me p call) d inside (below f hf v)) in
          let turned = outside_turned (m ∷ w) (flat_by accounts f me (Some p) call) g one in
          outside_turned (m ∷ w) (flat_by accounts g me (Some p) call) (flat_by accounts f me (Some p) call)
          (or_stays (λ x. SameOutside (m ∷ w) x (flat_by accounts f me (Some p) call)) g (changed accounts g me p call)
          (refused accounts g me p call) turned
          (λ v. aside (m ∷ w) g (flat_by accounts f me (Some p) call) turned (changed accounts g me p call) d
          (sym (lie_alike (m ∷ w) f.files g.files r.files (n ∷ d)) ∙ inside) (below g hg v)))

  -- a process outside the job has no child in the job but the job itself
  child_found : (q : ProcName) → is_child me q ≡ true → not_found f p q ≡ not_found g p q
  child_found [] c = refl
  child_found (n ∷ a) c = elim (cases_Bool (under_process (m ∷ w) (n ∷ a))) [
    | inr u ↦ found_alike m w f g r hf p (n ∷ a) u
    | inl u ↦ subst (λ x. not_found f p x ≡ not_found g p x)
        (is_same (m ∷ w) (n ∷ a) (left_holds (same (m ∷ w) (n ∷ a)) (under_process (m ∷ w) a)
        (ap (under_process (m ∷ w)) (sym (is_same me a c)) ∙ out) u)) (job_found_alike m w f g r hf p)
  ]

  pub anyone : (call : UnixCall) → is_rmdir_or_wrap call ≡ false
      → SameOutside (m ∷ w) (flat_by accounts f me (Some p) call) (flat_by accounts g me (Some p) call)
  anyone (Rmdir q) c = absurd (true≢false c)
  anyone (Wrap q) c = absurd (true≢false c)
  anyone (Status q) c = still (m ∷ w) f g (refused accounts f me p (Status q)) (refused accounts g me p (Status q)) r
  anyone (Kill q) c = elim (cases_Bool (is_child me q)) [
    | inl h ↦
        both m w accounts f g r hf hg me p (Kill q) (ap (λ x. x orelse unless (is_child me q) EACCES) (child_found q h))
        (λ v t. absurd (true≢false (sym t)))
    | inr h ↦ both_refused (m ∷ w) f g (changed accounts f me p (Kill q)) (changed accounts g me p (Kill q)) (refused accounts f me p (Kill q))
        (refused accounts g me p (Kill q)) r
        (stops_later (not_found f p q) (unless (is_child me q) EACCES) (failed (is_child me q) EACCES h))
        (stops_later (not_found g p q) (unless (is_child me q) EACCES) (failed (is_child me q) EACCES h))
  ]
  anyone call c = calmly call refl refl
