-- Proves the goals of `facts_of` of src/views.rt that the search leaves open.
use Rattle.std.proofs.Common.{ap, ◌∙◌, subst}
use Rattle.histar_flat.specs.Words.{Path}
use Rattle.histar_syscall.specs.KernelModel.{state}
use Rattle.histar_why.specs.Names.{process_of}
use Rattle.histar_why.specs.Views.{search_by}
use Rattle.histar_why.specs.Ways.{IsWayTo}
use Rattle.histar_why.proofs.views.facts_of.Goals as goal

pub returns : goal.returns
returns g c =
    let users = c.args.reader.now.users.now in
    let roots = c.args.reader.now.roots.now in
    let births = c.args.reader.now.births.now in
    let s = state c.args.reader.now.kernel.now in
    let p = process_of c.args.caller.now in
    record {
      way = subst (λ (q : Path). IsWayTo users roots births s p q c.in_ok-way.way) c.names.ensures.names c.in_ok-way.ensures;
      above = λ asks. c.in_ok-count_if.ensures (c.asks_room.ensures ∙ asks);
      here = λ asks. c.in_ok-count_if-2.ensures (c.asks_empty.ensures ∙ asks);
      beside = c.is_beside.ensures;
      sought = c.in_ok-search.ensures ∙ ap (search_by users births s roots.home p) c.numbers.ensures.value;
    }
