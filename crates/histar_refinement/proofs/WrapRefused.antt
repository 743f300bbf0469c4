-- A wrap that the kernel refuses after its first category: the thread takes its own label and clearance again, and the state represents the
-- same flat state. One category more was made, and has no name.
use Rattle.std.proofs.Common.{◌≡◌, ℕ, ◌∷◌, None, Some, arith, refl}
use Rattle.histar_flat.specs.Words.{ProcName}
use Rattle.histar_rules.specs.Rights.{with_category}
use Rattle.histar_object.specs.State.{State}
use Rattle.histar_flat.specs.Accounts.{Accounts}
use Rattle.histar_flat.specs.Classes.{Process}
use Rattle.histar_flat.specs.FlatState.{Flat}
use Rattle.histar_refinement.specs.Addresses.{home_address}
use Rattle.histar_refinement.specs.Addresses.Step.{Inside, Runner}
use Rattle.histar_refinement.specs.Represents.{Represents}
use Rattle.histar_refinement.specs.KeptNames.{RepresentsStill}
use Rattle.histar_refinement.proofs.KeepingNames.{keeps_all}
use Rattle.histar_refinement.proofs.Beside.{beside_uncounted, own_set, back}
use Rattle.histar_refinement.proofs.Spawned.{own_label, own_clearance, beside_start}
use Rattle.histar_refinement.proofs.Counting.{matched_more}

module _ (accounts : Accounts) (s : State) (f : Flat) (l : Represents accounts s f) (me : ProcName) (p : Process)
    (here : f.processes me ≡ Some p) (runs : p.exited ≡ None) (T : ℕ)
    (at_thread : l.matched.naming.number (Runner ∷ Inside ∷ home_address me) ≡ Some T) where
  abbrev pub state_refused : State
  state_refused =
      own_set T (with_category s T) (own_label accounts s f l.matched me p here runs T at_thread)
      (own_clearance accounts s f l.matched me p here runs T at_thread)

  -- no object has changed
  pub refused_objects : (q : ℕ) → state_refused.objects q ≡ s.objects q
  refused_objects =
      back T (own_label accounts s f l.matched me p here runs T at_thread)
      (own_clearance accounts s f l.matched me p here runs T at_thread) (with_category s T) s
      (beside_uncounted T (own_label accounts s f l.matched me p here runs T at_thread)
      (own_clearance accounts s f l.matched me p here runs T at_thread) s s
      (beside_start accounts s f l.matched me p here runs T at_thread))

  pub still_refused : RepresentsStill l state_refused f
  still_refused =
      let later = matched_more accounts s f l.matched state_refused refused_objects refl (omega arith) in
      record {
        represents = record { matched = later.0; jobs_given = l.jobs_given };
        names = keeps_all l.matched later.0 later.1 later.2 (λ c used. used);
      }
