-- Proves the goals of `is_too_much` of src/titles.rt that the search leaves open.
use Rattle.std.proofs.Common.{◌+◌, ◌*◌, ◌∙◌, ap, arith}
use Rattle.std.specs.Prelude.{min, nat_lt}
use Rattle.histar_leak.specs.declared.titles.TheConstants.{MOST_TITLE_WORK}
use Rattle.histar_leak.proofs.ShownTitles.{work_cut_off}
use Rattle.histar_leak.proofs.titles.is_too_much.Goals as goal

pub returns : goal.returns
returns c =
    let files = c.args.files in
    let entries = c.args.entries in
    let each = c.saturating_add-each.ensures ∙ ap (λ square. min (entries + square) 18446744073709551615) c.saturating_mul.ensures in
    ap (nat_lt MOST_TITLE_WORK) (c.saturating_mul-2.ensures ∙ ap (λ x. min (files * x) 18446744073709551615) each)
    ∙ work_cut_off MOST_TITLE_WORK 18446744073709551615 files entries c.args.processes (omega arith)
