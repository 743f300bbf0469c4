-- A wrap that may be refused for what lies in a job: the child is born in both states, and the directory is made where it may be. And a
-- rmdir that is done is a rmtree.
use Rattle.std.specs.Prelude.{None, Option, Some, [], cond, false, nat_le, refl, true, ℕ, ◌&&◌, ◌++◌, ◌+◌, ◌∷◌, ◌≡◌, ◌≤◌, ◌⊎◌, length, ◌==◌}
use Rattle.std.proofs.Common.{ap, arith, inl, inr, subst, sym, ◌∙◌}
use Rattle.std.proofs.lemmas.Bool.{true≢false, and_parts, cases_Bool, le-leb, leb-true}
use Rattle.histar_base.specs.Refusals.{unless, ◌orelse◌}
use Rattle.histar_flat.specs.declared.calls.UnixCall.TheVariants.{Rmdir, Rmtree, Wrap}
use Rattle.histar_flat.specs.declared.replies.Errno.{Errno}
use Rattle.histar_flat.specs.declared.replies.Errno.TheVariants.{EACCES, ENOTDIR, ENOTEMPTY}
use Rattle.histar_flat.specs.Accounts.{Accounts}
use Rattle.histar_flat.specs.Classes.{Process}
use Rattle.histar_flat.specs.Classes.Class.{Scratch}
use Rattle.histar_flat.specs.Files.{get}
use Rattle.histar_flat.specs.FlatCalls.{changed, flat_by, flat_or, inner_chain, next_child, refused, running}
use Rattle.histar_flat.specs.FlatState.{Flat, Node, entries_in, is_dir_at, is_given, reads, was_given, with_child, with_node, with_process, writes}
use Rattle.histar_flat.specs.FlatState.Content.{Dir}
use Rattle.histar_base.specs.Paths.{same}
use Rattle.histar_flat.specs.Words.{Path, ProcName}
use Rattle.histar_flat.specs.PathOrder.{parent, under_process}
use Rattle.histar_flat.proofs.CommonNeeds.{no_entry}
use Rattle.histar_flat.proofs.Changes.{runs_is_there}
use Rattle.histar_flat.proofs.FileLemmas.{same_name_found}
use Rattle.histar_flat.proofs.GivenNames.{next_is_new}
use Rattle.histar_flat.proofs.LooksAlike.{refused_alike_narrow}
use Rattle.histar_flat.proofs.Refusals.{passes_first, passes_later}
use Rattle.histar_flat.proofs.Warrants.{warranted}
use Rattle.histar_noninterference.specs.Comparison.{is_dir_of, lies_in_job}
use Rattle.histar_noninterference.proofs.Anyone.{looks_alike}
use Rattle.histar_noninterference.proofs.Both.{both_process}
use Rattle.histar_noninterference.proofs.Effects.{insert_alike, insert_below}
use Rattle.histar_noninterference.proofs.Inside.{aside}
use Rattle.histar_noninterference.proofs.Kept.{kept_birth, not_next, started_after}
use Rattle.histar_noninterference.proofs.Outside.{lie_alike}
use Rattle.histar_noninterference.proofs.Relation.{IsStarted, SameOutside}
use Rattle.histar_noninterference.proofs.Steps.{outside_turned}
use Rattle.histar_noninterference.proofs.TestLemmas.{has_longer}

module _ (accounts : Accounts) (me : ProcName) (p : Process) (q : Path) where
  -- the directory of the new job
  abbrev pub new_dir : Node
  new_dir = record { class = Scratch p.user (inner_chain me p); content = Dir }

  -- the process that starts the job, and the first one of the job
  abbrev pub starter : Process
  starter = record p { held = p.held ++ next_child me p ∷ []; born = p.born + 1 }

  abbrev pub first : Process
  first = record { user = p.user; chain = inner_chain me p; held = []; exited = None; born = 0 }

  -- the directory is made if this refuses nothing
  abbrev pub made_if : Flat → Option Errno → Flat
  made_if f None = with_node f q (Scratch p.user (inner_chain me p)) Dir
  made_if f (Some e) = f

  -- the job is started in any case
  abbrev pub born_if : Flat → Option Errno → Flat
  born_if f e = with_child (made_if f e) me (record p { held = p.held ++ next_child me p ∷ [] }) (inner_chain me p)

  -- the state with the new job, where its directory is made if it may be
  abbrev pub born_in : Flat → Flat
  born_in f = born_if f (refused accounts f me p (Wrap q))

module _ (m : ℕ) (w : ProcName) (accounts : Accounts) (f g : Flat) (r : SameOutside (m ∷ w) f g) (hf : IsStarted (m ∷ w) f)
    (hg : IsStarted (m ∷ w) g) (me : ProcName) (p : Process) (out : under_process (m ∷ w) me ≡ false) where
  -- the directory lies in the job, so that it may be made in one state alone
  aside_if : (a b : Flat) → SameOutside (m ∷ w) a b → (q : Path) → lies_in_job (m ∷ w) a.files q ≡ true → (e : Option Errno)
      → SameOutside (m ∷ w) (made_if accounts me p q a e) b
  aside_if a b same [] h e = absurd (true≢false (sym h))
  aside_if a b same (n ∷ d) h (Some e) = same
  aside_if a b same (n ∷ d) h None =
      aside (m ∷ w) a b same (with_node a (n ∷ d) (Scratch p.user (inner_chain me p)) Dir) d h
      (record { files = insert_below (m ∷ w) a.files n d (new_dir accounts me p (n ∷ d)); processes = refl })

  made_alike : (q : Path) → (lies_in_job (m ∷ w) f.files q ≡ true) ⊎ (lies_in_job (m ∷ w) f.files q ≡ false)
      → SameOutside (m ∷ w) (made_if accounts me p q f (refused accounts f me p (Wrap q)))
      (made_if accounts me p q g (refused accounts g me p (Wrap q)))
  made_alike q (inl h) =
      let one = aside_if f g r q h (refused accounts f me p (Wrap q)) in
      let turned = outside_turned (m ∷ w) (made_if accounts me p q f (refused accounts f me p (Wrap q))) g one in
      outside_turned (m ∷ w) (made_if accounts me p q g (refused accounts g me p (Wrap q)))
      (made_if accounts me p q f (refused accounts f me p (Wrap q)))
      (aside_if g (made_if accounts me p q f (refused accounts f me p (Wrap q))) turned q
      (sym (lie_alike (m ∷ w) f.files g.files r.files q) ∙ h) (refused accounts g me p (Wrap q)))
  made_alike q (inr u) = by (refused accounts f me p (Wrap q)) (refused accounts g me p (Wrap q))
      (refused_alike_narrow accounts f g me p (Wrap q) (looks_alike m w accounts f g r hf hg me p out q u) refl)
      (λ v. ap (is_dir_of (m ∷ w)) ((warranted accounts f me p (Wrap q) v).2))
    where
      by : (d e : Option Errno) → d ≡ e → (d ≡ None → is_dir_of (m ∷ w) (get f.files q) ≡ false)
          → SameOutside (m ∷ w) (made_if accounts me p q f d) (made_if accounts me p q g e)
      by None None same plain = record {
        files = insert_alike (m ∷ w) f.files g.files r.files q (new_dir accounts me p q) (plain refl);
        processes = r.processes;
        chain = r.chain;
      }
      by None (Some x) same plain = absurd (cc)
      by (Some x) None same plain = absurd (cc)
      by (Some x) (Some y) same plain = r

  -- the states with the new job are the same outside the other job
  pub born_alike : (q : Path) → SameOutside (m ∷ w) (born_in accounts me p q f) (born_in accounts me p q g)
  born_alike q =
      let x = made_if accounts me p q f (refused accounts f me p (Wrap q)) in
      let y = made_if accounts me p q g (refused accounts g me p (Wrap q)) in
      both_process (m ∷ w) _ _ (both_process (m ∷ w) x y (made_alike q (cases_Bool (lies_in_job (m ∷ w) f.files q))) me (starter accounts me p q))
      (next_child me p) (first accounts me p q)

-- ---- names that were given stay given at a birth

-- names stay given if each number that a given process has given stays given
still_given : (old new : ProcName → Option Process)
    → ((q : ProcName) (n : ℕ) → is_given old q ≡ true → was_given (old q) n ≡ true → was_given (new q) n ≡ true)
    → (name : ProcName) → is_given old name ≡ true → is_given new name ≡ true
still_given old new each [] h = refl
still_given old new each (n ∷ q) h =
    let parts = and_parts (was_given (old q) n) (is_given old q) h in
    (λ i. each q n parts.1 parts.0 i && is_given new q) ∙ still_given old new each q parts.1

-- a process to which more children were born has given more names
more_given : (p q : Process) (n : ℕ) → p.born ≤ q.born → was_given (Some p) n ≡ true → was_given (Some q) n ≡ true
more_given p q n more h =
    let parts = and_parts (nat_le 1 n) (nat_le n p.born) h in
    let enough = leb-true n p.born parts.1 in
    (λ i. parts.0 i && nat_le n q.born) ∙ le-leb n q.born (omega arith)

given_at_birth : (f : Flat) (me : ProcName) (p : Process) → f.processes me ≡ Some p → (q child : Process) → p.born ≤ q.born
    → (name : ProcName) → is_given f.processes name ≡ true
    → is_given (with_process (with_process f me q) (next_child me p) child).processes name ≡ true
given_at_birth f me p here q child more = still_given f.processes (with_process (with_process f me q) (next_child me p) child).processes
    (λ name n g h. elim (same_name_found (next_child me p) name) [
      | inl t ↦ absurd (true≢false (sym g ∙ ap (is_given f.processes) (sym t.1) ∙ next_is_new f me p here))
      | inr t ↦
          ap (λ b. was_given (cond b (Some child) (cond (same me name) (Some q) (f.processes name))) n) t.0 ∙ elim (same_name_found me name) [
            | inl u ↦
                ap (λ b. was_given (cond b (Some q) (f.processes name)) n) u.0
                ∙ more_given p q n more (ap (λ o. was_given o n) (sym here ∙ ap f.processes u.1) ∙ h)
            | inr u ↦ ap (λ b. was_given (cond b (Some q) (f.processes name)) n) u.0 ∙ h
          ]
    ])

-- what holds of a job holds after another one was started
pub born_started : (job : ProcName) (accounts : Accounts) (f : Flat) → IsStarted job f → (me : ProcName) (p : Process)
    → running f me ≡ Some p → (q : Path) → IsStarted job (born_in accounts me p q f)
born_started job accounts f h me p runs q = by (refused accounts f me p (Wrap q)) refl
  where
    here : f.processes me ≡ Some p
    here = runs_is_there (f.processes me) p runs

    by : (e : Option Errno) → refused accounts f me p (Wrap q) ≡ e → IsStarted job (born_if accounts me p q f e)
    by None e =
        subst (λ x. IsStarted job (flat_or x f (changed accounts f me p (Wrap q)))) e
        (subst (λ o. IsStarted job (flat_by accounts f me o (Wrap q))) runs (started_after job accounts f me (Wrap q) h))
    by (Some x) e =
        kept_birth job f h me p here (starter accounts me p q) (first accounts me p q) refl
        (λ e. has_longer p.held (next_child me p) job (not_next job f h.given me p here) ∙ e)
        (has_longer p.chain (next_child me p) job (not_next job f h.given me p here)) refl
        (record { root = h.tree.root; below = h.tree.below })
        (given_at_birth f me p here (starter accounts me p q) (first accounts me p q) (omega arith) job h.given)

-- a rmdir that is not refused does what a rmtree does
pub rmdir_is_rmtree : (accounts : Accounts) (f : Flat) (me : ProcName) (p : Process) (q : Path) → refused accounts f me p (Rmdir q) ≡ None
    → flat_by accounts f me (Some p) (Rmtree q) ≡ changed accounts f me p (Rmdir q)
rmdir_is_rmtree accounts f me p q h = by (refused accounts f me p (Rmtree q)) passes
  where
    passes : refused accounts f me p (Rmtree q) ≡ None
    passes = together (no_entry accounts f p q) (passes_first (no_entry accounts f p q) _ h)
        (passes_later (unless (length (entries_in f q) == 0) ENOTEMPTY) (unless (writes accounts f p (parent q)) EACCES)
        (passes_later (unless (reads accounts f p q) EACCES) _ (passes_later (unless (is_dir_at f q) ENOTDIR) _
        (passes_later (no_entry accounts f p q) _ h))))
      where
        together : (a : Option Errno) → a ≡ None → unless (writes accounts f p (parent q)) EACCES ≡ None
            → (a orelse unless (writes accounts f p (parent q)) EACCES) ≡ None
        together None e k = k
        together (Some x) e k = absurd (cc)

    by : (e : Option Errno) → e ≡ None → flat_or e f (changed accounts f me p (Rmtree q)) ≡ changed accounts f me p (Rmdir q)
    by None e = refl
    by (Some x) e = absurd (cc)
