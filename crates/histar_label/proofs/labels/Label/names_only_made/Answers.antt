-- Proves the goals of `Label::names_only_made` of src/labels.rt that the search leaves open.
use Rattle.std.proofs.Common.{◌≡◌, rules}
use Rattle.histar_label.specs.Levels.{is_made}
use Rattle.histar_label.proofs.Made.{made_answer}
use Rattle.histar_label.proofs.labels.Label.names_only_made.Goals as goal

pub returns-clause-made : goal.returns-clause-made
unfolding is_made
returns-clause-made c =
    let is : c.all_made.result ≡ is_made c.args.next c.args.self.now = search rules in
    made_answer c.args.next c.args.self.now c.all_made.result is
