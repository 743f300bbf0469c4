-- Proves the goals of `keep_user_gains` of src/gains.rt that the search leaves open.
use Rattle.std.proofs.Common.{rules}
use Rattle.std.proofs.lemmas.Fn.{filter_same}
use Rattle.histar_diff.specs.declared.user_differences.UserDifference.{UserDifference}
use Rattle.histar_diff.specs.declared.users.LoneUser.{LoneUser}
use Rattle.histar_diff.specs.Gains.{gives_more}
use Rattle.histar_diff.specs.Sides.{letters}
use Rattle.histar_diff.proofs.gains.keep_user_gains.Goals as goal

pub returns-clause-lone : goal.returns-clause-lone
returns-clause-lone c = filter_same _ (λ (l : LoneUser). l.is_new) _ (λ x b f' k. search rules) _ _ c.retain.ensures.filtered

pub returns-clause-pairs : goal.returns-clause-pairs
returns-clause-pairs c =
    filter_same _ (λ (d : UserDifference). gives_more (letters d.before) (letters d.after)) _ (λ x b f' k. search rules) _ _
    c.retain-2.ensures.filtered
