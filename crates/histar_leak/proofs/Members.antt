-- Members are the running processes, and know each other's jobs, as in the flat state.
use Rattle.std.specs.Prelude.{◌≡◌, ℕ, Bool, true, false, List, [], ◌∷◌, ◌++◌, map, Option, refl}
use Rattle.std.specs.List.{flat_map, list_all}
use Rattle.std.proofs.Common.{ap, sym, ◌∙◌}
use Rattle.histar_flat.specs.Words.{Path, ProcName}
use Rattle.histar_flat.specs.Accounts.{Accounts}
use Rattle.histar_flat.specs.Classes.{Process, is_free, knows, sees}
use Rattle.histar_flat.specs.FlatState.{Flat, is_some_and}
use Rattle.histar_refinement.specs.Categories.{Categories}
use Rattle.histar_refinement.specs.NumberedClasses.{job_numbers}
use Rattle.histar_rights.specs.Running.{Named}
use Rattle.histar_secrecy.specs.declared.role.Member.{Member}
use Rattle.histar_secrecy.specs.ShownRoles.{job_numbered}
use Rattle.histar_secrecy.proofs.NumberedJobs.{in_two_steps, knows_by_number, knows_numbers, named}
use Rattle.histar_secrecy.proofs.ShownProcesses.{shown_is}
use Rattle.histar_shell.specs.Machine.{MachineModel}
use Rattle.histar_trust.specs.Findings.{AreMembers, ShowsReached, runner_of}
use Rattle.histar_trust.proofs.Places.{first_of_list, number_of, rest_of_list}
use Rattle.histar_trust.proofs.Runners.{AllOf, Runs, numbered}
use Rattle.histar_trust.proofs.ShownTrust.{one_number, shown}
use Rattle.histar_leak.specs.LeakText.{is_in_no_job, knows_all_of}
use Rattle.histar_leak.specs.Findings.{is_jobless, knows_jobs_of, rights_of}

-- texts of members and of running processes, one after another, are the same if each two are
pub texts_same : (f : Flat) (category : Categories) (text : Member → List ℕ) (of : Named → List ℕ)
    → ((m : Member) (c : Named) → runner_of m ≡ numbered f category c → Runs f category c → text m ≡ of c)
    → (ms : List Member) (cs : List Named) → map runner_of ms ≡ map (numbered f category) cs → AllOf (Runs f category) cs
    → flat_map text ms ≡ flat_map of cs
unfolding first_of_list rest_of_list
texts_same f category text of agree [] [] same all = refl
texts_same f category text of agree [] (c ∷ cs) same all = absurd (cc)
texts_same f category text of agree (m ∷ ms) [] same all = absurd (cc)
texts_same f category text of agree (m ∷ ms) (c ∷ cs) same all =
    let one : runner_of m ≡ numbered f category c = ap (first_of_list (runner_of m)) same in
    let rest : map runner_of ms ≡ map (numbered f category) cs = ap rest_of_list same in
    λ i. agree m c one all.0 i ++ texts_same f category text of agree ms cs rest all.1 i

-- a process is in no job by numbers exactly if it is in none
no_numbers : (category : Categories) (chain : List ProcName)
    → (let b : Bool = elim (job_numbers category chain) [ [] ↦ true | job ∷ jobs ↦ false ] in b)
    ≡ (let b : Bool = elim chain [ [] ↦ true | job ∷ jobs ↦ false ] in b)
no_numbers category [] = refl
no_numbers category (job ∷ jobs) = refl

module _ {accounts : Accounts} {m : MachineModel} {f : Flat} (r : ShowsReached accounts m f) (path : Path) (members : List Member)
    (found : AreMembers m members) where
  abbrev category : Categories
  category = r.shows.represents.matched.category

  abbrev number : ProcName → ℕ
  number = number_of category

  -- the member is the process
  abbrev pub Is : Member → Named → Type 0
  Is member c = runner_of member ≡ numbered f category c

  -- a member's rights are those of the process, with its jobs known by their numbers
  pub rights_are : (member : Member) (c : Named) (same : Is member c) (runs : Runs f category c)
      → rights_of member ≡ named number (one_number r) c.1
  rights_are member c same runs = shown_is number (one_number r) accounts f {m = member} {p = c.1} (shown r members found member c same runs)

  pub jobless_same : (member : Member) (c : Named) → Is member c → Runs f category c → is_jobless member ≡ is_in_no_job accounts f path c.0
  jobless_same member c same runs =
      (λ i. (let b : Bool = elim ((same i).jobs) [ [] ↦ true | job ∷ jobs ↦ false ] in b))
      ∙ no_numbers category c.1.chain ∙ sym (ap (λ (o : Option Process). is_some_and o is_free) runs)

  pub knows_same : (other : Member) (o : Named) → Is other o → Runs f category o → (me : Member) (c : Named) → Is me c → Runs f category c
      → knows_jobs_of other me ≡ knows_all_of accounts f path o.0 c.0
  knows_same other o same_o runs_o me c same runs =
      knows_numbers other.user other.jobs.items other.held.items me.jobs.items
      ∙ (λ i. list_all (knows (rights_are other o same_o runs_o i)) (map job_numbered (same i).jobs))
      ∙ ap (list_all (knows (named number (one_number r) o.1))) (in_two_steps number c.1.chain)
      ∙ knows_by_number number (one_number r) o.1 c.1.chain
      ∙ sym (λ i. is_some_and (runs_o i) (λ p. is_some_and (runs i) (λ q. sees p q)))
