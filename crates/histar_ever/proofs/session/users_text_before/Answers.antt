-- Proves the goal of `users_text_before` of src/session.rt that the search leaves open.
use Rattle.histar_ever.specs.States.{states_before}
use Rattle.histar_ever.proofs.UsersGathered.{gathered_users_text}
use Rattle.histar_ever.proofs.session.users_text_before.Goals as goal

pub returns : goal.returns
returns c =
    let is = c.in_ok-ever.ensures in
    record {
      script = is.script;
      is_read = is.is_read;
      is = gathered_users_text is.script.accounts (states_before c.args.at is.script) c.in_ok-ever.ever is.gathered
          c.in_ok-ever_users_text.field-0.items c.in_ok-ever_users_text.ensures;
    }
