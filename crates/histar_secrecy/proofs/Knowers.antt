-- A process that knows every job of another one can be told by it: it reads the status that the other exits with.
use Rattle.std.specs.Prelude.{◌≡◌, ◌∷◌, ◌||◌, ◌&&◌, true, cond, List, [], Some, refl}
use Rattle.std.specs.List.{list_all}
use Rattle.std.proofs.Common.{ap, sym, ◌∙◌, subst}
use Rattle.std.proofs.Math.Bool.{or-true}
use Rattle.histar_flat.specs.declared.calls.UnixCall.TheVariants.{Exit, Status}
use Rattle.histar_flat.specs.Words.{ProcName}
use Rattle.histar_base.specs.Paths.{same}
use Rattle.histar_flat.specs.Accounts.{has}
use Rattle.histar_flat.specs.Classes.{Process, knows}
use Rattle.histar_flat.specs.FlatState.{Flat, is_some_and, with_process}
use Rattle.histar_flat.specs.FlatCalls.{flat_after, flat_by, if_running, life_reply, reply_by, reply_or, running}
use Rattle.histar_flat.proofs.Changes.{runs_is_there}
use Rattle.histar_flat.proofs.FileLemmas.{same_itself}
use Rattle.histar_secrecy.specs.Flows.{KnowersCanBeTold, KnowersSee, knows_by_name}
use Rattle.histar_secrecy.specs.Leaks.{IsFamily}
use Rattle.histar_secrecy.proofs.Family.{family_put, processes_are_a_tree}
use Rattle.histar_secrecy.proofs.Knowing.{AreJobs, jobs_at_end}
use Rattle.histar_secrecy.proofs.Telling.{is_found}

pub knowers_can_be_told : KnowersCanBeTold
knowers_can_be_told accounts f reached me p runs other q runs_too apart sight n =
    ap (λ x. reply_by accounts x other (running x other) (Status me)) is ∙ ap (λ o. reply_by accounts ended other o (Status me)) still
    ∙ ap (λ e. reply_or e (life_reply (ended.processes me))) (is_found ended family q me gone there sight) ∙ ap life_reply there
  where
    here : f.processes me ≡ Some p
    here = runs_is_there (f.processes me) p runs

    gone : Process
    gone = record p { exited = Some n }

    ended : Flat
    ended = with_process f me (record p { exited = Some n })

    is : flat_after accounts f me (Exit n) ≡ ended
    is = ap (λ o. flat_by accounts f me o (Exit n)) runs

    there : ended.processes me ≡ Some gone
    there = ap (λ b. cond b (Some gone) (f.processes me)) (same_itself me)

    still : running ended other ≡ Some q
    still = ap (λ b. if_running (cond b (Some gone) (f.processes other))) apart ∙ runs_too

    family : IsFamily ended
    family =
        family_put f (subst AreJobs reached.1 (jobs_at_end accounts reached.0)).names
        (subst IsFamily reached.1 (processes_are_a_tree accounts reached.0)) me p here gone refl

-- the test of names says what the processes know
pub knowers_see : KnowersSee
knowers_see accounts f reached me p runs x q runs_too = by p.chain (λ job h. h)
  where
    jobs : AreJobs f
    jobs = subst AreJobs reached.1 (jobs_at_end accounts reached.0)

    one : (job : ProcName) → has p.chain job ≡ true → knows_by_name f job x ≡ knows q job
    one job h =
        let started = jobs.started me p job (runs_is_there (f.processes me) p runs) (ap (λ b. b || has p.held job) h) in
        λ i. sym (started.inside x q (runs_is_there (f.processes x) q runs_too)) i || ap (λ o. is_some_and o (λ r. has r.held job)) runs_too i

    by : (chain : List ProcName) → ((job : ProcName) → has chain job ≡ true → has p.chain job ≡ true)
        → list_all (λ job. knows_by_name f job x) chain ≡ list_all (knows q) chain
    by [] each = refl
    by (k ∷ ks) each = λ i. one k (each k (ap (λ b. b || has ks k) (same_itself k))) i
        && by ks (λ job h. each job (ap (λ b. same job k || b) h ∙ or-true (same job k))) i
