-- Proves the goals of `running_by` of src/process.rt that the search leaves open.
use Rattle.std.proofs.Common.{ℕ, List, ◌∷◌, length, refl, sym, ap, ◌∙◌}
use Rattle.histar_layout.specs.Jobs.{jobs_in}
use Rattle.histar_layout.proofs.UserOf.{user_is}
use Rattle.histar_programs.specs.Kin.{Kin, user_name}
use Rattle.histar_process.proofs.Calling.{kin_is}
use Rattle.histar_readout.specs.declared.process.Life.TheVariants.{Running}
use Rattle.histar_readout.specs.Process.{owned_beside}
use Rattle.histar_readout.proofs.process.running_by.Goals as goal

pub returns-clause-ok : goal.returns-clause-ok
returns-clause-ok g c =
    let accounts = c.args.users.now in
    let own = c.args.own.now in
    let number = c.user_of-number.result in
    let number_is = sym (user_is own (length accounts.users) number c.user_of-number.ensures) in
    let kin =
    kin_is own accounts number c.is_in_job.result c.in_ok-as_user.as_user.items (jobs_in own)
    c.user_of-number.ensures c.is_in_job.ensures c.in_ok-as_user.ensures.ok refl in
    let known_is =
    ap (λ (l : List ℕ). c.args.caller.now.read ∷ c.args.caller.now.write ∷ l)
    (c.as_slice.ensures.value ∙ ap (λ (k : Kin). k.owned) kin) in
    let held_is = c.new.ensures ∙ c.in_ok-held.ensures.ok ∙ ap (λ (l : List ℕ). owned_beside l own) known_is in
    λ i. Running ((c.user_name.ensures ∙ ap (user_name accounts.users) number_is) i) (held_is i)
