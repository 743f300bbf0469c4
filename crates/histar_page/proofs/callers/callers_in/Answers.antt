-- Proves the goals of `callers_in` of src/callers.rt that the search leaves open.
use Rattle.histar_page.specs.Texts.{texts}
use Rattle.histar_page.proofs.CallerLemmas.{found_all}
use Rattle.histar_page.proofs.callers.callers_in.Goals as goal

pub returns : goal.returns
returns c =
    found_all (texts c.args.script.now) (texts c.replies.found.items) c.replies.rest.now (texts c.args.replies.now) c.in_default.len_below
    c.replies.invariant
