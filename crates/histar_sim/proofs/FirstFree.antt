-- Process 0 is in no job, whatever is called.
use Rattle.std.proofs.Common.{◌≡◌, ◌+◌, Bool, true, false, cond, List, [], ◌∷◌, ◌++◌, None, Some, refl, sym, ap, ◌∙◌}
use Rattle.std.proofs.lemmas.Option.{none-some, same_Some}
use Rattle.histar_flat.specs.declared.calls.UnixCall.{UnixCall}
use Rattle.histar_flat.specs.Words.{Path, ProcName}
use Rattle.histar_flat.specs.PathOrder.{under_process}
use Rattle.histar_flat.specs.Accounts.{Accounts}
use Rattle.histar_flat.specs.Classes.{Process}
use Rattle.histar_flat.specs.Classes.Class.{Scratch}
use Rattle.histar_flat.specs.FlatState.{Flat, with_node, with_process, with_child, without_process}
use Rattle.histar_flat.specs.FlatState.Content.{Dir}
use Rattle.histar_flat.specs.Effects.{Effect, apply}
use Rattle.histar_flat.specs.Effects.Effect.{Spawns, Exits, LogsIn, Kills, Wraps}
use Rattle.histar_flat.specs.CallRules.{path_of, rule}
use Rattle.histar_flat.specs.FlatCalls.{next_child, inner_chain, flat_after}
use Rattle.histar_flat.specs.Meaning.{boot, first_process}
use Rattle.histar_flat.proofs.Changes.{by_rule}
use Rattle.histar_sim.specs.Simulation.{IsFirstFree}

-- process 0 stays in no job once a process is under a name, if that process is in no job or its name isn't process 0's
first_free_with : (f : Flat) (name : ProcName) (p : Process) → IsFirstFree f → (name ≡ [] → p.chain ≡ []) → IsFirstFree (with_process f name p)
first_free_with f [] p first none q at = ap (λ (o : Process). o.chain) (sym (same_Some p q at)) ∙ none refl
first_free_with f (n ∷ above) p first none q at = first q at

-- process 0 stays in no job once a process and all below it are removed
first_free_without : (f : Flat) (name : ProcName) → IsFirstFree f → IsFirstFree (without_process f name)
first_free_without f name first q at = by (under_process name []) at
  where
    by : (b : Bool) → cond b None (f.processes []) ≡ Some q → q.chain ≡ []
    by true e = absurd (none-some q e)
    by false e = first q e

-- process 0 stays in no job once there is a child, in whatever jobs
first_free_child : (f : Flat) (me : ProcName) (p : Process) (chain : List ProcName) → IsFirstFree f
    → (me ≡ [] → p.chain ≡ []) → IsFirstFree (with_child f me p chain)
first_free_child f me p chain first none = first_free_with f me (record p { born = p.born + 1 }) first none

-- process 0 is in no job at the start
pub first_free_at_start : (accounts : Accounts) → IsFirstFree (boot accounts)
first_free_at_start accounts q at = ap (λ (o : Process). o.chain) (sym (same_Some first_process q at))

-- process 0 is in no job after each effect of a process, which is in no job if it is process 0
first_free_effect : (accounts : Accounts) (f : Flat) → IsFirstFree f → (me : ProcName) (p : Process)
    → (me ≡ [] → p.chain ≡ []) → (q : Path) (effect : Effect) → IsFirstFree (apply accounts f me p q effect)
first_free_effect accounts f first me p none q Spawns = first_free_child f me p p.chain first none
first_free_effect accounts f first me p none q (Exits n) = first_free_with f me (record p { exited = Some n }) first none
first_free_effect accounts f first me p none q (LogsIn name) = first_free_with f me (record p { user = name; held = [] }) first none
first_free_effect accounts f first me p none q (Kills name) = first_free_without f name first
first_free_effect accounts f first me p none q Wraps =
    first_free_child (with_node f q (Scratch p.user (inner_chain me p)) Dir) me
    (record p { held = p.held ++ next_child me p ∷ [] }) (inner_chain me p) first none
first_free_effect accounts f first me p none q _ = first

-- process 0 is in no job after each call
pub first_free_after : (accounts : Accounts) (f : Flat) → IsFirstFree f → (me : ProcName) (call : UnixCall)
    → IsFirstFree (flat_after accounts f me call)
first_free_after accounts f first me call = by_rule accounts f me call IsFirstFree first
    (λ p there met. first_free_effect accounts f first me p (λ e. first p (ap f.processes (sym e) ∙ there)) (path_of call) (rule call).effect)
