-- The invariants and measures of `push_more` of src/claims.rt.
use Rattle.std.proofs.Common.{◌≡◌, ◌++◌, take}
use Rattle.std.specs.List.{flat_map}
use Rattle.std.specs.Prelude.{codes, map}
use Rattle.histar_flat.specs.Texts.{process_text}
use Rattle.histar_flat.specs.Words.{Name, ProcName}
use Rattle.histar_test.proofs.claims.push_more.Given as goal

abbrev pub invariant-loop-process : goal.invariant-loop-process
invariant-loop-process l =
    l.text.items ≡ l.fn.text.items ++ flat_map (λ (p : ProcName). codes " " ++ process_text p)
    (map (λ (p : ProcName × Name). p.0) (take l.process-index l.processes))
