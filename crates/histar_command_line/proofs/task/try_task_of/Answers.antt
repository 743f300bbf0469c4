-- Proves the goals of `try_task_of` of src/task.rt that the search leaves open.
use Rattle.std.proofs.Common.{ℕ, List, Some, map, refl, sym, ap, ◌∙◌, codes}
use Rattle.std.specs.Borrow.{Bor}
use Rattle.clap.specs.Words.{rows_of, found_of}
use Rattle.clap.proofs.WalkLemmas.{first_value-rows, raw_values-rows}
use Rattle.histar_command_line.proofs.Matches.{matched}
use Rattle.histar_command_line.proofs.task.try_task_of.Goals as goal

pub returns : goal.returns
returns c =
    let m = c.in-Some in
    let found = found_of m.tried.now in (
      rows_of found,
      matched c.args.matches.now (codes "try") (rows_of found) (m.ensures.found.0 refl) m.ensures.rows,
      (
        sym (c.in-Some-Some.ensures ∙ first_value-rows found (codes "FILE")),
        sym (raw_values-rows found (codes "CALL")) ∙ sym c.in-Some-Some.ensures'
            ∙ ap (λ (calls : List (Bor (List ℕ))). Some (map (λ call. call.now) calls)) (sym c.in_ok-calls.ensures.items),
        c.get_str-at.ensures ∙ first_value-rows found (codes "LINE"),
      ),
    )
