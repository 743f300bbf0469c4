-- Proves the goals of `push_unseen` of src/sentences.rt that the search leaves open.
use Rattle.std.proofs.Common.{ℕ, List, ◌++◌, ap}
use Rattle.std.specs.Prelude.{codes}
use Rattle.histar_flat.specs.Texts.{process_text}
use Rattle.histar_reasons.specs.Sentences.{unknown_text, who_text}
use Rattle.histar_why.specs.Names.{process_of}
use Rattle.histar_why.proofs.Lists.{both, joined, spread}
use Rattle.histar_why.proofs.sentences.push_unseen.Goals as goal

pub returns : goal.returns
returns c =
    let who = who_text c.args.me.now (process_of c.args.caller.now) in
    let unseen = codes " does not see " ++ process_text c.args.name.now ++ codes ": " in
    let unknown = unknown_text c.args.me.now c.args.job.now in
    joined c.push_unknown.result c.args.text.now.items c.push_about_process.new.text.items c.push_unknown.new.text.items
    (who ++ unseen) unknown _
    (both c.args.text.now.items c.push_who.new.text.items c.push_about_process.new.text.items who unseen
    c.in_ok-push_who.ensures c.in_ok-push_about_process.ensures) c.push_unknown.ensures
    (ap (λ (l : List ℕ). l ++ unknown) (spread who (codes " does not see ") (process_text c.args.name.now) (codes ": ")))
