-- Proves the goals of `make_thread` of src/birth.rt that the search leaves open.
use Rattle.std.proofs.Common.{ℕ, List, ◌∷◌, ◌++◌}
use Rattle.histar_rules.specs.declared.raw.RawCall.TheVariants.{MakeThread}
use Rattle.histar_layout.specs.Labelling.{owner_label, cleared_at}
use Rattle.histar_programs.proofs.Running.{grants, refuses, before_ask, fails_so}
use Rattle.histar_process.proofs.Births.{thread_so}
use Rattle.histar_process.proofs.birth.make_thread.Goals as goal

pub returns-in_err-label : goal.returns-in_err-label
returns-in_err-label g c =
    let owned : List ℕ = c.args.newborn.now.read ∷ c.args.newborn.now.write ∷ c.args.newborn.now.owned.now in
    fails_so _ _ _ _ _ _ c.from_residual.ensures.1 (before_ask c.args.thread
    (MakeThread c.args.internal (owner_label owned c.args.newborn.now.jobs.now) (cleared_at (owned ++ c.args.newborn.now.jobs.now)))
    c.args.kernel.now c.in_err-label.ensures.memory)

pub returns-in_err-made : goal.returns-in_err-made
returns-in_err-made g c =
    fails_so _ _ _ _ _ _ c.from_residual-in_err-made.ensures.1
    (thread_so _ _ _ _ _ _ _ _ c.in_ok-label.ensures.label c.in_ok-label.ensures.clearance _ (refuses _ _ _ _ _ _ c.in_err-made.ensures.ok
    c.in_err-made.ensures.memory))

pub returns : goal.returns
returns g c =
    thread_so _ _ _ _ _ _ _ _ c.in_ok-label.ensures.label c.in_ok-label.ensures.clearance _
    (grants _ _ _ _ _ c.in_ok-made.ensures.ok.0 c.in_ok-made.ensures.ok.1)
