-- Proves the goal of `user_by` of src/whose.rt that the search leaves open.
use Rattle.std.proofs.Common.{length, sym, ap, ◌∙◌}
use Rattle.histar_layout.proofs.UserOf.{user_is}
use Rattle.histar_programs.specs.Kin.{user_name}
use Rattle.histar_cells.proofs.whose.user_by.Goals as goal

pub returns : goal.returns
returns c =
    let users = c.args.users.now.users in
    c.user_name.ensures ∙ ap (user_name users) (sym (user_is c.args.own.now (length users) c.user_of.result c.user_of.ensures))
