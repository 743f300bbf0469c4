-- Proves the goals of `user_by` of src/runners.rt that the search leaves open.
use Rattle.std.proofs.Common.{length, sym, ap, ◌∙◌}
use Rattle.histar_layout.proofs.UserOf.{user_is}
use Rattle.histar_programs.specs.Kin.{user_name}
use Rattle.histar_names.proofs.runners.user_by.Goals as goal

pub returns : goal.returns
returns c =
    c.user_name.ensures
    ∙ ap (user_name c.args.users.now.users)
    (sym (user_is c.args.own.now (length c.args.users.now.users) c.user_of.result c.user_of.ensures))
