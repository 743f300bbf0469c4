-- Proves the goals of `table_line` of src/rights_table.rt that the search leaves open.
use Rattle.std.proofs.Common.{sym, ◌∙◌}
use Rattle.histar_rights.specs.Table.{Cell as NamedRights}
use Rattle.histar_access.specs.Cells.{shown}
use Rattle.histar_access.proofs.Tables.{map_twice}
use Rattle.histar_access.proofs.rights_table.table_line.Goals as goal

pub returns : goal.returns
returns c =
    let rights = c.in_ok-rights.ensures ∙ sym (map_twice (λ (named : NamedRights). named.rights) shown c.args.row.now) in
    λ i. (c.args.node.now.path, rights i)
