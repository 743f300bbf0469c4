-- Proves the goals of `users_line` of src/users_rights.rt that the search leaves open.
use Rattle.histar_access.proofs.users_rights.users_line.Goals as goal

pub returns : goal.returns
returns c = λ i. (c.args.node.now.path, c.in_ok-rights.ensures i)
