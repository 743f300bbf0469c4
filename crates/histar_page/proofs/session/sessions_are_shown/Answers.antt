-- Proves the goals of `sessions_are_shown` of src/session.rt that the search leaves open.
use Rattle.histar_page.proofs.SessionLemmas.{sessions_shown}
use Rattle.histar_page.proofs.session.sessions_are_shown.Goals as goal

pub returns : goal.returns
returns c = sessions_shown
