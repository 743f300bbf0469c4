-- Walks in two trees that are the same outside a job.
use Rattle.std.specs.Prelude.{Bool, List, None, Option, Some, [], cond, false, is_some, refl, true, ◌||◌, ◌∷◌, ◌≡◌}
use Rattle.std.proofs.Common.{ap, inl, inr, subst, sym, ◌∙◌}
use Rattle.std.proofs.lemmas.Bool.{and_parts, or_parts, true≢false, cases_Bool}
use Rattle.std.specs.FinMap.Entries.{where_key}
use Rattle.std.specs.List.{filter_map, list_all}
use Rattle.histar_base.specs.Refusals.{unless, ◌orelse◌}
use Rattle.histar_flat.specs.declared.replies.Errno.{Errno}
use Rattle.histar_flat.specs.declared.replies.Errno.TheVariants.{EACCES, ENOENT, ENOTDIR}
use Rattle.histar_flat.specs.Classes.{Class, Process, carries, knows, may_read}
use Rattle.histar_flat.specs.Classes.Class.{Grouped, Open, Private, Readable, Scratch}
use Rattle.histar_flat.specs.Files.{get, keep}
use Rattle.histar_flat.specs.FlatState.{Entry, Flat, Node, entries_in, entry_in, into, is_dir, is_some_and, walk}
use Rattle.histar_base.specs.Paths.{path_cmp, same, same_path}
use Rattle.histar_flat.specs.Accounts.{Accounts}
use Rattle.histar_flat.specs.Words.{Name, Path, ProcName}
use Rattle.histar_flat.proofs.FileLemmas.{get-keep, same_lists, same_path_found}
use Rattle.histar_noninterference.specs.Comparison.{is_dir_of, lies_in_job}
use Rattle.histar_noninterference.proofs.Relation.{SameFiles}
use Rattle.histar_noninterference.proofs.TestLemmas.{all_of, failed, guarded, left_holds, not_passed, stops_first, stops_later}

-- an outsider can't read a class of the job
pub closed_class : (accounts : Accounts) (p : Process) (job : ProcName) (c : Class) → knows p job ≡ false → carries job c ≡ true
    → may_read accounts p c ≡ false
closed_class accounts p job (Private u) o h = absurd (true≢false (sym h))
closed_class accounts p job (Readable u) o h = absurd (true≢false (sym h))
closed_class accounts p job Open o h = absurd (true≢false (sym h))
closed_class accounts p job (Grouped g) o h = absurd (true≢false (sym h))
closed_class accounts p job (Scratch u jobs) o h = by (may_read accounts p (Scratch u jobs)) refl
  where
    by : (b : Bool) → may_read accounts p (Scratch u jobs) ≡ b → may_read accounts p (Scratch u jobs) ≡ false
    by true e = absurd (true≢false (sym (all_of (knows p) jobs job ((and_parts (same p.user u) (list_all (knows p) jobs) e).1) h) ∙ o))
    by false e = e

pub closed_dir : (accounts : Accounts) (p : Process) (job : ProcName) (n : Option Node) → knows p job ≡ false → is_dir_of job n ≡ true
    → is_some_and n (λ n'. may_read accounts p n'.class) ≡ false
closed_dir accounts p job None o h = refl
closed_dir accounts p job (Some n) o h = closed_class accounts p job n.class o ((and_parts (is_dir n) (carries job n.class) h).1)

-- the tests of one directory on the way
at_dir : Accounts → Process → Option Node → Option Errno
at_dir accounts p o =
    unless (is_some_and o (λ n. true)) ENOENT orelse unless (is_some_and o is_dir) ENOTDIR orelse unless
    (is_some_and o (λ n. may_read accounts p n.class)) EACCES

into_step : (accounts : Accounts) (f : Flat) (p : Process) (n : Name) (d : Path)
    → into accounts f p (n ∷ d) ≡ (into accounts f p d orelse at_dir accounts p (get f.files (n ∷ d)))
unfolding at_dir
into_step accounts f p n d = refl

at_dir_closed : (accounts : Accounts) (p : Process) (o : Option Node) → is_some_and o (λ n. may_read accounts p n.class) ≡ false
    → is_some (at_dir accounts p o) ≡ true
unfolding at_dir
at_dir_closed accounts p o h =
    stops_later (unless (is_some_and o (λ n. true)) ENOENT)
    (unless (is_some_and o is_dir) ENOTDIR orelse unless (is_some_and o (λ n. may_read accounts p n.class)) EACCES)
    (stops_later (unless (is_some_and o is_dir) ENOTDIR) (unless (is_some_and o (λ n. may_read accounts p n.class)) EACCES)
    (failed (is_some_and o (λ n. may_read accounts p n.class)) EACCES h))

module _ (job : ProcName) (accounts : Accounts) (p : Process) (f g : Flat) (r : SameFiles job f.files g.files) where
  -- outside the job's directories all processes walk alike
  pub into_alike : (d : Path) → (is_dir_of job (get f.files d) || lies_in_job job f.files d) ≡ false
      → into accounts f p d ≡ into accounts g p d
  into_alike [] h = ap (λ o. unless (is_some_and o (λ n. may_read accounts p n.class)) EACCES) (r.same [] refl)
  into_alike (n ∷ d) h =
      let out = (or_parts (is_dir_of job (get f.files (n ∷ d))) (lies_in_job job f.files (n ∷ d)) h).1 in
      into_step accounts f p n d
      ∙ guarded (into accounts f p d) (into accounts g p d) _ _ (into_alike d out) (λ _. ap (at_dir accounts p) (r.same (n ∷ d) out))
      ∙ sym (into_step accounts g p n d)

  -- a walk of an outsider below them is refused
  pub into_refused : knows p job ≡ false → (d : Path) → (is_dir_of job (get f.files d) || lies_in_job job f.files d) ≡ true
      → is_some (into accounts f p d) ≡ true
  into_refused o [] h = failed _ EACCES (closed_dir accounts p job (get f.files []) o (or_right (is_dir_of job (get f.files [])) h))
    where
      or_right : (b : Bool) → (b || false) ≡ true → b ≡ true
      or_right true e = refl
      or_right false e = e
  into_refused o (n ∷ d) h = ap is_some (into_step accounts f p n d) ∙ elim (cases_Bool (lies_in_job job f.files (n ∷ d))) [
    | inl i ↦ stops_first (into accounts f p d) (at_dir accounts p (get f.files (n ∷ d))) (into_refused o d i)
    | inr i ↦
        stops_later (into accounts f p d) (at_dir accounts p (get f.files (n ∷ d)))
        (at_dir_closed accounts p (get f.files (n ∷ d))
        (closed_dir accounts p job (get f.files (n ∷ d)) o
        (left_holds (is_dir_of job (get f.files (n ∷ d))) (lies_in_job job f.files (n ∷ d)) i h)))
  ]

  -- an outsider walks alike in both trees
  pub outsider_into : knows p job ≡ false → (d : Path) → into accounts f p d ≡ into accounts g p d
  outsider_into o [] = ap (λ x. unless (is_some_and x (λ n. may_read accounts p n.class)) EACCES) (r.same [] refl)
  outsider_into o (n ∷ d) =
      into_step accounts f p n d
      ∙ guarded (into accounts f p d) (into accounts g p d) _ _ (outsider_into o d) (λ w. ap (at_dir accounts p) (r.same (n ∷ d) (by d w)))
      ∙ sym (into_step accounts g p n d)
    where
      by : (e : Path) → into accounts f p e ≡ None → (is_dir_of job (get f.files e) || lies_in_job job f.files e) ≡ false
      by e w = elim (cases_Bool (is_dir_of job (get f.files e) || lies_in_job job f.files e)) [
        | inl i ↦ absurd (not_passed (into accounts f p e) (into_refused o e i) w)
        | inr i ↦ i
      ]

  pub outsider_walk : knows p job ≡ false → (q : Path) → walk accounts f p q ≡ walk accounts g p q
  outsider_walk o [] = refl
  outsider_walk o (n ∷ d) = outsider_into o d

  -- a path that an outsider's walk reaches doesn't lie in the job
  pub reached : knows p job ≡ false → (q : Path) → walk accounts f p q ≡ None → lies_in_job job f.files q ≡ false
  reached o [] w = refl
  reached o (n ∷ d) w = elim (cases_Bool (lies_in_job job f.files (n ∷ d))) [
    | inl i ↦ absurd (not_passed (into accounts f p d) (into_refused o d i) w)
    | inr i ↦ i
  ]

abbrev is_child : Path → Path → Bool
is_child d q = elim q [ [] ↦ false | n ∷ above ↦ same_path d above ]

only_children : (d : Path) (es : List (Path × Node))
    → filter_map (entry_in d) es ≡ filter_map (entry_in d) (where_key path_cmp (is_child d) es)
only_children d [] = refl
only_children d (e ∷ es) = one e.0 e.1 (only_children d es)
  where
    one : (q : Path) (n : Node) → filter_map (entry_in d) es ≡ filter_map (entry_in d) (where_key path_cmp (is_child d) es)
        → filter_map (entry_in d) ((q, n) ∷ es) ≡ filter_map (entry_in d) (where_key path_cmp (is_child d) ((q, n) ∷ es))
    one [] n rest = rest
    one (x ∷ above) n rest = elim (cases_Bool (same_path d above)) [
      | inl t ↦ simp t (ap (λ (l : List Entry). (x, is_dir n) ∷ l) rest)
      | inr t ↦ simp t rest
    ]

-- a directory that neither lies in the job nor is the job's has the same entries
pub entries_alike : (job : ProcName) (f g : Flat) → SameFiles job f.files g.files → (d : Path)
    → (is_dir_of job (get f.files d) || lies_in_job job f.files d) ≡ false → entries_in f d ≡ entries_in g d
entries_alike job f g r d h =
    only_children d f.files.entries
    ∙ ap (filter_map (entry_in d)) (same_lists (keep f.files (is_child d)) (keep g.files (is_child d)) by)
    ∙ sym (only_children d g.files.entries)
  where
    at : (q : Path) → cond (is_child d q) (get f.files q) None ≡ cond (is_child d q) (get g.files q) None
    at [] = refl
    at (n ∷ e) = elim (same_path_found d e) [
      | inl t ↦
          ap (cond (same_path d e) (get f.files (n ∷ e))) refl
          ∙ ap (λ x. cond (same_path d e) x None)
          (r.same (n ∷ e) (subst (λ x. (is_dir_of job (get f.files x) || lies_in_job job f.files x) ≡ false) t.1 h))
      | inr t ↦ ap (λ b. cond b (get f.files (n ∷ e)) None) t.0 ∙ sym (ap (λ b. cond b (get g.files (n ∷ e)) None) t.0)
    ]

    by : (q : Path) → get (keep f.files (is_child d)) q ≡ get (keep g.files (is_child d)) q
    by q = get-keep f.files (is_child d) q ∙ at q ∙ sym (get-keep g.files (is_child d) q)
