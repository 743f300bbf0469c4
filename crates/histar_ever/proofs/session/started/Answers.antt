-- Proves the goal of `started` of src/session.rt that the search leaves open.
use Rattle.std.proofs.Common.{subst}
use Rattle.histar_flat.specs.Accounts.{Accounts}
use Rattle.histar_shell.specs.Meaning.{ShowsStart}
use Rattle.histar_ever.proofs.session.started.Goals as goal

pub returns : goal.returns
returns c =
    let script = c.in_ok-script.script in
    record {
      script = script;
      is_read = c.in_ok-script.ensures.exact;
      calls_are = c.into_parts-accounts.ensures.calls;
      shows = subst (λ (declared : Accounts). ShowsStart declared c.in-Ok.machine) c.into_parts-accounts.ensures.accounts c.in-Ok.ensures.shows;
    }
