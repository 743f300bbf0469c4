-- Proves the goals of `push_unread` of src/sentences.rt that the search leaves open.
use Rattle.std.proofs.Common.{ℕ, List, ◌++◌, ap}
use Rattle.std.specs.Prelude.{codes}
use Rattle.histar_flat.specs.Texts.{path_text}
use Rattle.histar_reasons.specs.Sentences.{cause_text, who_text}
use Rattle.histar_why.specs.Causes.{cause_of}
use Rattle.histar_why.specs.Names.{process_of}
use Rattle.histar_why.proofs.Lists.{both, joined, spread}
use Rattle.histar_why.proofs.sentences.push_unread.Goals as goal

pub returns : goal.returns
returns c =
    let who = who_text c.args.me.now (process_of c.args.caller.now) in
    let denied = codes " may not read " ++ path_text c.args.path.now ++ codes ": " in
    let cause = cause_text c.args.me.now (process_of c.args.caller.now) (cause_of c.args.cause.now) in
    joined c.push_cause.result c.args.text.now.items c.push_about_path.new.text.items c.push_cause.new.text.items
    (who ++ denied) cause _
    (both c.args.text.now.items c.push_who.new.text.items c.push_about_path.new.text.items who denied
    c.in_ok-push_who.ensures c.in_ok-push_about_path.ensures) c.push_cause.ensures
    (ap (λ (l : List ℕ). l ++ cause) (spread who (codes " may not read ") (path_text c.args.path.now) (codes ": ")))
