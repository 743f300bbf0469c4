-- A job's own calls change nothing outside the job.
use Rattle.std.specs.Prelude.{None, Some, [], cond, false, nat_eq, refl, true, ◌++◌, ◌+◌, ◌||◌, ◌∷◌, ◌≡◌, ◌≢◌}
use Rattle.std.proofs.Common.{ap, arith, inl, inr, sym, ◌∙◌}
use Rattle.std.proofs.lemmas.Bool.{true≢false, cases_Bool}
use Rattle.histar_flat.specs.declared.calls.UnixCall.{UnixCall}
use Rattle.histar_flat.specs.Classes.{Process}
use Rattle.histar_flat.specs.Classes.Class.{Scratch}
use Rattle.histar_flat.specs.Files.{Files, get}
use Rattle.histar_flat.specs.FlatCalls.{flat_after, inner_chain, next_child}
use Rattle.histar_flat.specs.FlatState.{Flat, Node, class_of, is_file_at, moved, with_bytes, with_node, with_process, writes}
use Rattle.histar_flat.specs.FlatState.Content.{Dir, File}
use Rattle.histar_base.specs.Paths.{same}
use Rattle.histar_flat.specs.PathOrder.{under_path, under_process}
use Rattle.histar_flat.specs.Accounts.{Accounts}
use Rattle.histar_flat.specs.Words.{Name, Path, ProcName}
use Rattle.histar_flat.proofs.Changes.{EachChange, by_line, runs_is_there}
use Rattle.histar_flat.proofs.FileLemmas.{same_itself, same_name_found, same_path_found}
use Rattle.histar_flat.proofs.Renaming.{get_renamed, stays}
use Rattle.histar_flat.proofs.Trees.{nothing_below}
use Rattle.histar_flat.proofs.Under.{under_child, under_is_longer}
use Rattle.histar_noninterference.specs.Comparison.{is_dir_of, lies_in_job}
use Rattle.histar_noninterference.proofs.Effects.{cut_below, insert_below}
use Rattle.histar_noninterference.proofs.Kept.{file_is_no_dir, not_next, place}
use Rattle.histar_noninterference.proofs.Outside.{ChangesBelow, change_inside, is_below, joined, turned}
use Rattle.histar_noninterference.proofs.Relation.{IsStarted, SameOutside, chain_of}
use Rattle.histar_noninterference.proofs.Renames.{renamed}
use Rattle.histar_noninterference.proofs.TestLemmas.{is_same, parent_under, under_all}

-- the call changes only files, and only below d
pub record ChangesFilesBelow (d : Path) (f f' : Flat) : Type 0 where
  pub files : ChangesBelow d f.files f'.files
  pub processes : f'.processes ≡ f.processes

not_below : (n : Name) (d q : Path) → is_below d q ≡ false → under_path (n ∷ d) q ≡ false
not_below n d [] h = refl
not_below n d (k ∷ q) h = elim (cases_Bool (under_path (n ∷ d) (k ∷ q))) [
  | inl u ↦ absurd (true≢false (sym (parent_under same same_path_found d q n k u) ∙ h))
  | inr u ↦ u
]

-- a rename in a directory changes only what is below the directory
pub rename_below : (job : ProcName) (m : Files Node) (n k : Name) (d : Path) (ne : n ≢ k)
    → ((q : Path) → under_path (k ∷ d) q ≡ true → get m q ≡ None) → ChangesBelow d m (renamed job n k d ne m)
unfolding renamed
rename_below job m n k d ne below = record {
  rest = λ q h. get_renamed n k d ne m below q ∙ ap (λ b. cond b None (get m (moved_back q))) (not_below n d q h) ∙ ap (get m)
      (stays (k ∷ d) (n ∷ d) q (not_below k d q h));
}
  where
    moved_back : Path → Path
    moved_back = moved (k ∷ d) (n ∷ d)

module _ (job : ProcName) (f g : Flat) (r : SameOutside job f g) where
  -- files that change only at or below a directory of the job are aside: the states stay the same outside it
  pub aside : (f' : Flat) (d : Path) → (is_dir_of job (get f.files d) || lies_in_job job f.files d) ≡ true → ChangesFilesBelow d f f'
      → SameOutside job f' g
  aside f' d h c = record {
    files = joined job f'.files f.files g.files (turned job f.files f'.files (change_inside job f.files f'.files d h c.files)) r.files;
    processes = λ q u. ap (λ m. m q) c.processes ∙ r.processes q u;
    chain = ap (λ m. chain_of (m job)) c.processes ∙ r.chain;
  }

  -- the states stay the same outside the job when a process of the job changes or is new
  aside_process : (a : ProcName) (x : Process) → under_process job a ≡ true
      → (same a job ≡ true → chain_of (f.processes job) ≡ Some x.chain) → SameOutside job (with_process f a x) g
  aside_process a x u known = record {
    files = r.files;
    processes = λ q v. elim (same_name_found a q) [
      | inl t ↦ absurd (true≢false (sym u ∙ ap (under_process job) t.1 ∙ v))
      | inr t ↦ ap (λ b. cond b (Some x) (f.processes q)) t.0 ∙ r.processes q v
    ];
    chain = elim (same_name_found a job) [
      | inl t ↦ ap (λ b. chain_of (cond b (Some x) (f.processes job))) t.0 ∙ sym (known t.0) ∙ r.chain
      | inr t ↦ ap (λ b. chain_of (cond b (Some x) (f.processes job))) t.0 ∙ r.chain
    ];
  }

module _ (job : ProcName) (accounts : Accounts) (f g : Flat) (r : SameOutside job f g) (h : IsStarted job f) (me : ProcName) (p : Process)
    (here : f.processes me ≡ Some p) (inside : under_process job me ≡ true) where
  own : (p' : Process) → p'.chain ≡ p.chain → same me job ≡ true → chain_of (f.processes job) ≡ Some p'.chain
  own p' jobs t = ap (λ z. chain_of (f.processes z)) (sym (is_same me job t)) ∙ ap chain_of here ∙ ap Some (sym jobs)

  -- the states stay the same outside the job when a child of the job is born
  birth : (f' : Flat) → SameOutside job f' g → f'.processes ≡ f.processes → (p' c : Process) → p'.chain ≡ p.chain
      → SameOutside job (with_process (with_process f' me p') (next_child me p) c) g
  birth f' r' still p' c jobs = aside_process job (with_process f' me p') g
      (aside_process job f' g r' me p' inside (λ t. ap (λ m. chain_of (m job)) still ∙ own p' jobs t))
      (next_child me p) c (under_child nat_eq same_name_found job me (p.born + 1) inside)
      (λ t. absurd (true≢false (sym (same_itself job) ∙ ap (same job) (sym (is_same (next_child me p) job t))
      ∙ not_next job f h.given me p here)))

  at : (q : Path) → writes accounts f p q ≡ true → (is_dir_of job (get f.files q) || lies_in_job job f.files q) ≡ true
  at q w = place job accounts f h me p here (h.inside me p here ∙ inside) q w

  -- a file that a process of the job writes lies in the job
  file_inside : (q : Path) → (is_dir_of job (get f.files q) || lies_in_job job f.files q) ≡ true → is_file_at f q ≡ true
      → lies_in_job job f.files q ≡ true
  file_inside q w file = sym (ap (λ b. b || lies_in_job job f.files q) (file_is_no_dir job (get f.files q) file)) ∙ w

  pub job_changes : (call : UnixCall) → EachChange accounts f me p call (λ f'. SameOutside job f' g)
  unfolding birth own at file_inside renamed
  job_changes call = record {
    stays = r;
    makes = λ n d x walked free w own mode made_is. aside job f g r (with_node f (n ∷ d) x.class x.content) d (at d w)
        (record { files = insert_below job f.files n d x; processes = refl });
    overwrites = λ n d bytes file w. aside job f g r (with_bytes f (n ∷ d) bytes) d (file_inside (n ∷ d) (at (n ∷ d) w) file)
        (record {
          files = insert_below job f.files n d
              (record { class = class_of (get f.files (n ∷ d)); content = File bytes });
          processes = refl;
        });
    cuts = λ n d takes w. aside job f g r _ d (at d w) (record { files = cut_below job f.files n d; processes = refl });
    renames = λ n k d takes ne free w. aside job f g r _ d (at d w)
        (record { files = rename_below job f.files n k d ne (nothing_below f h.tree (k ∷ d) free); processes = refl });
    spawns = λ is. birth f r refl (record p { born = p.born + 1 })
        (record { user = p.user; chain = p.chain; held = []; exited = None; born = 0 }) refl;
    exits = λ n is. aside_process job f g r me (record p { exited = Some n }) inside (own (record p { exited = Some n }) refl);
    logs_in = λ name is known free. aside_process job f g r me (record p { user = name; held = [] }) inside
        (own (record p { user = name; held = [] }) refl);
    kills = λ n. record {
      files = r.files;
      processes = λ q v. elim (cases_Bool (under_process (n ∷ me) q)) [
        | inl u ↦
            absurd (true≢false (sym (under_all nat_eq same_name_found job (n ∷ me) q (under_child nat_eq same_name_found job me n inside) u)
            ∙ v))
        | inr u ↦ ap (λ b. cond b None (f.processes q)) u ∙ r.processes q v
      ];
      chain = elim (cases_Bool (under_process (n ∷ me) job)) [
        | inl u ↦
            let long = under_is_longer nat_eq same_name_found (n ∷ me) job u in
            let short = under_is_longer nat_eq same_name_found job me inside in
            absurd (omega arith)
        | inr u ↦ ap (λ b. chain_of (cond b None (f.processes job))) u ∙ r.chain
      ];
    };
    wraps = λ n d is walked free w named.
        let x : Node = record { class = Scratch p.user (inner_chain me p); content = Dir } in
        birth (with_node f (n ∷ d) x.class x.content)
        (aside job f g r (with_node f (n ∷ d) x.class x.content) d (at d w)
        (record { files = insert_below job f.files n d x; processes = refl })) refl
        (record p { held = p.held ++ next_child me p ∷ []; born = p.born + 1 })
        (record { user = p.user; chain = inner_chain me p; held = []; exited = None; born = 0 }) refl;
  }

pub job_step : (job : ProcName) (accounts : Accounts) (f g : Flat) (me : ProcName) (call : UnixCall) → SameOutside job f g → IsStarted job f
    → under_process job me ≡ true → SameOutside job (flat_after accounts f me call) g
job_step job accounts f g me call r h inside =
    by_line accounts f me call (λ f'. SameOutside job f' g) r
    (λ p running. job_changes job accounts f g r h me p (runs_is_there (f.processes me) p running) inside call)
