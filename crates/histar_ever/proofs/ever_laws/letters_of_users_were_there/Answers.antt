-- Proves the goal of `letters_of_users_were_there` of src/ever_laws.rt.
use Rattle.histar_ever.proofs.Held.{letters_of_users_were_there}
use Rattle.histar_ever.proofs.ever_laws.letters_of_users_were_there.Goals as goal

pub returns : goal.returns
returns c = letters_of_users_were_there
