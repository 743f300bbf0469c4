-- One call of a process outside the job, in two states that are the same outside it.
use Rattle.std.specs.Prelude.{Bool, None, Option, Some, [], cond, false, refl, true, ℕ, ◌++◌, ◌+◌, ◌∷◌, ◌≡◌}
use Rattle.std.proofs.Common.{ap, subst, sym, ◌∙◌}
use Rattle.std.proofs.lemmas.Bool.{true≢false}
use Rattle.histar_flat.specs.declared.calls.UnixCall.{UnixCall}
use Rattle.histar_flat.specs.CallRules.{path_of, rule}
use Rattle.histar_flat.specs.Classes.{Process, class_made}
use Rattle.histar_flat.specs.Classes.Class.{Scratch}
use Rattle.histar_flat.specs.Effects.{Effect, apply}
use Rattle.histar_flat.specs.Effects.Effect.{Nothing, Makes, Stores, Removes, Renames, Spawns, Exits, LogsIn, Kills, Wraps}
use Rattle.histar_flat.specs.Files.{get}
use Rattle.histar_flat.specs.FlatCalls.{changed, class_or_open, flat_by, inner_chain, next_child, refused}
use Rattle.histar_flat.specs.FlatState.{Flat, Node, bytes_at, bytes_of, class_of, with_bytes, with_node, with_process}
use Rattle.histar_flat.specs.FlatState.Content.{Dir, File}
use Rattle.histar_base.specs.Paths.{same}
use Rattle.histar_flat.specs.Accounts.{Accounts}
use Rattle.histar_flat.specs.Words.{Path, ProcName}
use Rattle.histar_flat.proofs.Changes.{another_name}
use Rattle.histar_flat.specs.RuleLaws.{Warrant}
use Rattle.histar_flat.proofs.Warrants.{warranted}
use Rattle.histar_flat.proofs.Trees.{nothing_below}
use Rattle.histar_noninterference.specs.Comparison.{is_dir_of, lies_in_job}
use Rattle.histar_noninterference.proofs.Effects.{cut_alike, insert_alike}
use Rattle.histar_noninterference.proofs.Kept.{file_is_no_dir}
use Rattle.histar_noninterference.proofs.Processes.{kill_state}
use Rattle.histar_noninterference.proofs.Relation.{IsStarted, SameOutside, chain_of}
use Rattle.histar_noninterference.proofs.Renames.{renamed, renamed_alike}
use Rattle.histar_noninterference.proofs.Steps.{flat_alike}

-- the effect writes the bytes of a file
abbrev pub writes_bytes : Effect → Bool
writes_bytes (Stores new) = true
writes_bytes _ = false

-- the states stay the same outside the job when the same process changes, or is new, in both
pub both_process : (job : ProcName) (f g : Flat) → SameOutside job f g → (a : ProcName) (x : Process)
    → SameOutside job (with_process f a x) (with_process g a x)
both_process job f g r a x = record {
  files = r.files;
  processes = λ q u i. cond (same a q) (Some x) (r.processes q u i);
  chain = one (same a job) (f.processes job) ∙ (λ i. cond (same a job) (Some x.chain) (r.chain i)) ∙ sym
      (one (same a job) (g.processes job));
}
  where
    one : (b : Bool) (o : Option Process) → chain_of (cond b (Some x) o) ≡ cond b (Some x.chain) (chain_of o)
    one true o = refl
    one false o = refl

module _ (m : ℕ) (w : ProcName) (accounts : Accounts) (f g : Flat) (r : SameOutside (m ∷ w) f g) (hf : IsStarted (m ∷ w) f)
    (hg : IsStarted (m ∷ w) g) (me : ProcName) (p : Process) where
  -- the states stay the same outside the job when the same node is put in both
  put : (q : Path) (x : Node) → is_dir_of (m ∷ w) (get f.files q) ≡ false
      → SameOutside (m ∷ w) (with_node f q x.class x.content) (with_node g q x.class x.content)
  put q x plain = record { files = insert_alike (m ∷ w) f.files g.files r.files q x plain; processes = r.processes; chain = r.chain }

  -- an effect that is warranted in both states keeps them the same
  applied_alike : (q : Path) (effect : Effect) → Warrant accounts f me p q effect → Warrant accounts g me p q effect
      → (writes_bytes effect ≡ true → lies_in_job (m ∷ w) f.files q ≡ false)
      → SameOutside (m ∷ w) (apply accounts f me p q effect) (apply accounts g me p q effect)
  unfolding renamed put
  applied_alike q Nothing may may' u = r
  applied_alike q (Makes content mode) may may' u =
      put q (record { class = class_or_open (class_made accounts p mode); content = content }) (ap (is_dir_of (m ∷ w)) may.2)
  applied_alike q (Stores new) may may' u =
      subst (λ o. SameOutside (m ∷ w) (with_bytes f q (new (bytes_at f q))) (with_node g q (class_of o) (File (new (bytes_of o)))))
      (r.files.same q (u refl)) (put q (record { class = class_of (get f.files q); content = File (new (bytes_at f q)) })
      (file_is_no_dir (m ∷ w) (get f.files q) may.2))
  applied_alike q Removes may may' u = record { files = cut_alike (m ∷ w) f.files g.files r.files q; processes = r.processes; chain = r.chain }
  applied_alike [] (Renames k) may may' u = absurd (true≢false (sym may.0))
  applied_alike (n ∷ d) (Renames k) may may' u = record {
    files = renamed_alike (m ∷ w) n k d (another_name f n k d may.1 may.2) f.files g.files r.files (nothing_below f hf.tree (k ∷ d) may.2)
        (nothing_below g hg.tree (k ∷ d) may'.2);
    processes = r.processes;
    chain = r.chain;
  }
  applied_alike q Spawns may may' u =
      both_process (m ∷ w) (with_process f me (record p { born = p.born + 1 })) (with_process g me (record p { born = p.born + 1 }))
      (both_process (m ∷ w) f g r me (record p { born = p.born + 1 })) (next_child me p)
      (record { user = p.user; chain = p.chain; held = []; exited = None; born = 0 })
  applied_alike q (Exits n) may may' u = both_process (m ∷ w) f g r me (record p { exited = Some n })
  applied_alike q (LogsIn name) may may' u = both_process (m ∷ w) f g r me (record p { user = name; held = [] })
  applied_alike q (Kills name) may may' u = kill_state m w f g r hf p name
  applied_alike q Wraps may may' u =
      let x : Node = record { class = Scratch p.user (inner_chain me p); content = Dir } in
      let p' : Process = record p { held = p.held ++ next_child me p ∷ []; born = p.born + 1 } in
      both_process (m ∷ w) (with_process (with_node f q x.class x.content) me p') (with_process (with_node g q x.class x.content) me p')
      (both_process (m ∷ w) (with_node f q x.class x.content) (with_node g q x.class x.content) (put q x (ap (is_dir_of (m ∷ w)) may.2)) me p')
      (next_child me p) (record { user = p.user; chain = inner_chain me p; held = []; exited = None; born = 0 })

  -- a call that is refused alike keeps the states the same
  pub both : (call : UnixCall) → refused accounts f me p call ≡ refused accounts g me p call
      → (refused accounts f me p call ≡ None → writes_bytes (rule call).effect ≡ true → lies_in_job (m ∷ w) f.files (path_of call) ≡ false)
      → SameOutside (m ∷ w) (flat_by accounts f me (Some p) call) (flat_by accounts g me (Some p) call)
  both call e u =
      flat_alike (m ∷ w) f g (changed accounts f me p call) (changed accounts g me p call) (refused accounts f me p call)
      (refused accounts g me p call) r e
      (λ v. applied_alike (path_of call) (rule call).effect (warranted accounts f me p call v)
      (warranted accounts g me p call (sym e ∙ v)) (u v))
