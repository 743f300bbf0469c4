-- After a login with the reply `ok` the kernel represents the flat state in which the process is the new user's, and holds no job.
use Rattle.std.proofs.Common.{◌≡◌, ℕ, inr, true, false, [], ◌∷◌, None, Some, arith, refl, sym, ◌∙◌}
use Rattle.std.specs.Prelude.{is_some}
use mathlib.Core.Bool.{true≢false}
use Rattle.histar_flat.specs.Words.{Name, ProcName}
use Rattle.histar_object.specs.State.{State, with_own}
use Rattle.histar_flat.specs.Accounts.{Accounts, user_number}
use Rattle.histar_flat.specs.Classes.{Process}
use Rattle.histar_flat.specs.FlatState.{Flat, with_process}
use Rattle.histar_refinement.specs.Guards.{rights_label, rights_clearance}
use Rattle.histar_refinement.specs.Labels.{thread_rights}
use Rattle.histar_refinement.specs.Addresses.{home_address}
use Rattle.histar_refinement.specs.Addresses.Step.{Inside, Runner}
use Rattle.histar_refinement.specs.Represents.{Represents}
use Rattle.histar_refinement.specs.KeptNames.{RepresentsStill}
use Rattle.histar_refinement.proofs.KeepingNames.{keeps_all}
use Rattle.histar_refinement.proofs.Becoming.{becomes, given_then, job_used, used_then}

module _ (accounts : Accounts) (s : State) (f : Flat) (l : Represents accounts s f) (me : ProcName) (p : Process)
    (here : f.processes me ≡ Some p) (runs : p.exited ≡ None)
    (name : Name) (declared : is_some (user_number accounts name) ≡ true) (T : ℕ)
    (at_thread : l.matched.naming.number (Runner ∷ Inside ∷ home_address me) ≡ Some T) where
  abbrev changed : Process
  changed = record { user = name; chain = p.chain; held = []; exited = p.exited; born = p.born }

  abbrev new : State
  new =
      with_own s T (rights_label l.matched.category (thread_rights accounts me changed))
      (rights_clearance l.matched.category (thread_rights accounts me changed))

  never : is_some (user_number accounts name) ≡ false → (p.chain ≡ []) × (changed.held ≡ [])
  never e = absurd (true≢false (sym declared ∙ e))

  pub still_login : RepresentsStill l new (with_process f me changed)
  still_login =
      let later =
      becomes accounts s f l.matched me p here runs name (inr declared) [] (λ job e. absurd (true≢false (sym e))) tt
      (λ job e. refl) never T at_thread new (λ q. refl) refl (omega arith) in
      record {
        represents = record {
          matched = later.0;
          jobs_given = λ job u.
              sym (given_then accounts s f l.matched me p here runs name (inr declared) []
              (λ job e. absurd (true≢false (sym e))) tt (λ job e. refl) never T at_thread job)
              ∙ l.jobs_given job (job_used accounts s f l.matched me p here runs name (inr declared) []
              (λ job e. absurd (true≢false (sym e))) tt (λ job e. refl) never T at_thread job u);
        };
        names =
            keeps_all l.matched later.0 later.1 later.2 (used_then accounts s f l.matched me p here runs name (inr declared) []
            (λ job e. absurd (true≢false (sym e))) tt (λ job e. refl) never T at_thread);
      }
