-- A process of nobody, or of a user that is not declared, has no job.
use Rattle.std.specs.Prelude.{◌≡◌, ◌+◌, Bool, true, false, cond, List, [], ◌∷◌, ◌++◌, Some, None, is_some, refl}
use Rattle.std.proofs.Common.{ap, ◌⊎◌, inl, inr, sym, ◌∙◌, subst}
use Rattle.std.proofs.lemmas.Bool.{true≢false}
use Rattle.histar_flat.specs.declared.calls.CallLine.{CallLine}
use Rattle.histar_flat.specs.declared.calls.UnixCall.{UnixCall}
use Rattle.histar_flat.specs.Words.{ProcName}
use Rattle.histar_base.specs.Paths.{same}
use Rattle.histar_flat.specs.PathOrder.{under_process}
use Rattle.histar_flat.specs.Accounts.{Accounts, user_named}
use Rattle.histar_flat.specs.Classes.{Process, nobody, is_free}
use Rattle.histar_flat.specs.FlatState.{Flat, with_process, with_child}
use Rattle.histar_flat.specs.FlatCalls.{next_child, inner_chain, flat_after}
use Rattle.histar_flat.specs.Meaning.{first_process, boot, flat_end}
use Rattle.histar_flat.specs.Laws.{HasNoJob, NobodyHasAJob}
use Rattle.histar_flat.proofs.FileLemmas.{same_name_found, same_itself}
use Rattle.histar_flat.proofs.Choices.{chosen, left}
use Rattle.histar_flat.proofs.Changes.{EachChange, by_line, runs_is_there}

-- the process is nobody's, with no job, or a declared user's
record IsPlaced (accounts : Accounts) (p : Process) : Type 0 where
  nobodys : p.user ≡ nobody → HasNoJob p
  declared : (p.user ≡ nobody) ⊎ (is_some (user_named accounts.users p.user) ≡ true)

-- each process that is there is nobody's, with no job, or a declared user's
abbrev ArePlaced : Accounts → Flat → Type 0
ArePlaced accounts f = (q : ProcName) (p : Process) → f.processes q ≡ Some p → IsPlaced accounts p

-- the list of jobs of a process in no job is empty
in_no_job : (p : Process) → is_free p ≡ true → p.chain ≡ []
in_no_job p h = by p.chain h
  where
    by : (jobs : List ProcName) → (let b : Bool = elim jobs [ [] ↦ true | k ∷ ks ↦ false ] in b) ≡ true → jobs ≡ []
    by [] h = refl
    by (k ∷ ks) h = absurd (true≢false (sym h))

module _ (accounts : Accounts) where
  placed_with : (f : Flat) (me : ProcName) (p : Process) → ArePlaced accounts f → IsPlaced accounts p → ArePlaced accounts (with_process f me p)
  placed_with f me p placed new q x e = elim (same_name_found me q) [
    | inl i ↦ subst (IsPlaced accounts) (chosen (same me q) p x (f.processes q) i.0 e) new
    | inr i ↦ placed q x (sym (ap (λ b. cond b (Some p) (f.processes q)) i.0) ∙ e)
  ]

  placed_with_child : (f : Flat) (me : ProcName) (p : Process) (chain : List ProcName) → ArePlaced accounts f
      → IsPlaced accounts (record p { born = p.born + 1 })
      → IsPlaced accounts (record { user = p.user; chain = chain; held = []; exited = None; born = 0 }) → ArePlaced accounts (with_child f me p chain)
  placed_with_child f me p chain placed grown child =
      placed_with (with_process f me (record p { born = p.born + 1 })) ((p.born + 1) ∷ me)
      (record { user = p.user; chain = chain; held = []; exited = None; born = 0 })
      (placed_with f me (record p { born = p.born + 1 }) placed grown) child

  placed_changes : (f : Flat) (me : ProcName) (p : Process) (call : UnixCall) → ArePlaced accounts f
      → IsPlaced accounts p → EachChange accounts f me p call (ArePlaced accounts)
  placed_changes f me p call placed here = record {
    stays = placed;
    makes = λ n d x walked free w own mode made_is. placed;
    overwrites = λ n d bytes file w. placed;
    cuts = λ n d takes w. placed;
    renames = λ n k d takes apart free w. placed;
    spawns = λ is. placed_with_child f me p p.chain placed
        (record { nobodys = λ e. let h = here.nobodys e in record { in_none = h.in_none; holds_none = h.holds_none }; declared = here.declared })
        (record { nobodys = λ e. let h = here.nobodys e in record { in_none = h.in_none; holds_none = refl }; declared = here.declared });
    exits = λ n is. placed_with f me (record p { exited = Some n }) placed
        (record { nobodys = λ e. let h = here.nobodys e in record { in_none = h.in_none; holds_none = h.holds_none }; declared = here.declared });
    logs_in = λ name is known free. placed_with f me (record p { user = name; held = [] }) placed
        (record { nobodys = λ e. record { in_none = in_no_job p free; holds_none = refl }; declared = inr known });
    kills = λ n q x e. placed q x (left (under_process (n ∷ me) q) (f.processes q) x e);
    wraps = λ n d is walked free w named.
        let other : p.user ≡ nobody → ⊥ = λ e. true≢false (sym (same_itself nobody) ∙ ap (λ u. same u nobody) (sym e) ∙ named) in
        placed_with_child f me (record p { held = p.held ++ next_child me p ∷ [] }) (inner_chain me p) placed
        (record { nobodys = λ e. absurd (other e); declared = here.declared })
        (record { nobodys = λ e. absurd (other e); declared = here.declared });
  }

  placed_after : (f : Flat) (me : ProcName) (call : UnixCall) → ArePlaced accounts f → ArePlaced accounts (flat_after accounts f me call)
  placed_after f me call placed =
      by_line accounts f me call (ArePlaced accounts) placed
      (λ p runs. placed_changes f me p call placed (placed me p (runs_is_there (f.processes me) p runs)))

  placed_at_end : (f : Flat) → ArePlaced accounts f → (calls : List CallLine) → ArePlaced accounts (flat_end accounts f calls)
  placed_at_end f placed [] = placed
  placed_at_end f placed (c ∷ calls) = placed_at_end (flat_after accounts f c.process c.call) (placed_after f c.process c.call placed) calls

  placed_at_start : ArePlaced accounts (boot accounts)
  placed_at_start [] p e =
      let found : Some first_process ≡ Some p = e in
      let one : first_process ≡ p = cc in
      subst (IsPlaced accounts) one (record { nobodys = λ h. record { in_none = refl; holds_none = refl }; declared = inl refl })
  placed_at_start (n ∷ q) p e = let gone : None ≡ Some p = e in absurd (cc)

-- A process of nobody, or of a user that is not declared, has no job.
pub nobody_has_a_job : NobodyHasAJob
nobody_has_a_job = record {
  nobodys = λ accounts calls me p e nobodys. (placed_at_end accounts (boot accounts) (placed_at_start accounts) calls me p e).nobodys nobodys;
  strangers = λ accounts calls me p e stranger.
      let placed = placed_at_end accounts (boot accounts) (placed_at_start accounts) calls me p e in
      elim placed.declared [
        | inl i ↦ placed.nobodys i
        | inr i ↦ absurd (true≢false (sym i ∙ ap is_some stranger))
      ];
}
