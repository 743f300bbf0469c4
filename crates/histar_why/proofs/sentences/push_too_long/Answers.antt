-- Proves the goals of `push_too_long` of src/sentences.rt that the search leaves open.
use Rattle.std.proofs.Common.{◌++◌, sym, append_assoc}
use Rattle.std.specs.Prelude.{codes}
use Rattle.std.specs.Fmt.{decimal}
use Rattle.histar_flat.specs.Texts.{path_text}
use Rattle.histar_why.proofs.Lists.{joined}
use Rattle.histar_why.proofs.sentences.push_too_long.Goals as goal

pub returns : goal.returns
returns c =
    joined c.push_count.result c.args.text.now.items c.push_about_path.new.text.items c.push_count.new.text.items
    (path_text c.args.path.now ++ codes " would have ") (decimal c.args.bytes ++ codes " bytes, and 4096 is the most") _
    c.in_ok-push_about_path.ensures c.push_count.ensures
    (sym (append_assoc (path_text c.args.path.now ++ codes " would have ") (decimal c.args.bytes) (codes " bytes, and 4096 is the most")))
