-- Proves the goals of `machine_before` of src/session.rt that the search leaves open.
use Rattle.std.proofs.Common.{List, subst}
use Rattle.histar_flat.specs.declared.calls.CallLine.{CallLine}
use Rattle.histar_flat.specs.Accounts.{Accounts}
use Rattle.histar_shell.specs.Meaning.{ShowsStart}
use Rattle.histar_prefix.specs.Prefix.{ShowsAfter, calls_before}
use Rattle.histar_prefix.proofs.Calling.{machine_of}
use Rattle.histar_prefix.proofs.session.machine_before.Goals as goal

pub returns : goal.returns
returns c =
    let start = c.in-Ok.machine in
    let end = c.make_calls.new.machine in
    machine_of c.args.at c.args.text.now c.in_ok-script.script c.in_ok-script.ensures.exact start end
    (subst (λ (declared : Accounts). ShowsStart declared start) c.into_parts-accounts.ensures.accounts c.in-Ok.ensures.shows)
    (subst (λ (calls : List CallLine). ShowsAfter start end (calls_before c.args.at calls)) c.into_parts-accounts.ensures.calls
    c.in-Ok-make_calls.ensures)
