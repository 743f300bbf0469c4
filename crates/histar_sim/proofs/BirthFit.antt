-- A spawn: what the raw calls of its birth need is there, and they leave a state that
-- represents the flat state with the child.
use Rattle.std.proofs.Common.{◌≡◌, ℕ, ◌+◌, ◌<◌, [], ◌∷◌, length, None, Some, arith, sym, ap, ◌∙◌, subst}
use Rattle.std.specs.Prelude.{map}
use Rattle.std.specs.FinSet as set
use Rattle.histar_flat.specs.Words.{ProcName}
use Rattle.histar_flat.specs.Accounts.{Accounts, user_number}
use Rattle.histar_flat.specs.Classes.{Process, is_free}
use Rattle.histar_flat.specs.FlatState.{Flat}
use Rattle.histar_flat.specs.FlatState as flat
use Rattle.histar_level.specs.Levels.{Levels}
use Rattle.histar_object.specs.declared.objects.Kind.TheVariants.{Segment, Container}
use Rattle.histar_object.specs.Objects.{thread_of}
use Rattle.histar_rules.specs.Rights.{with_category}
use Rattle.histar_object.specs.State.{State}
use Rattle.histar_rules.specs.Rules.{greatest}
use Rattle.histar_layout.specs.Status.{ProcessStatus}
use Rattle.histar_layout.specs.Categories.{user_of}
use Rattle.histar_programs.specs.declared.roots.Home.{Home}
use Rattle.histar_process.specs.Birth.{outer_label, inner_label, thread_label, thread_clearance}
use Rattle.histar_programs.specs.Kin.{Kin, user_name, owned_by, kin_of}
use Rattle.histar_layout.specs.Jobs.{jobs_in}
use Rattle.histar_refinement.specs.Accounts.{AreAccounts}
use Rattle.histar_refinement.proofs.Counting.{boot_used}
use Rattle.histar_refinement.specs.Categories.CategoryName.{ReadsProcess, WritesProcess, OfJob}
use Rattle.histar_refinement.specs.Categories.{CategoryName, Categories, IsUsed, boot_category}
use Rattle.histar_refinement.specs.Guards.{guard_label, rights_label, rights_clearance}
use Rattle.histar_refinement.specs.Labels.{process_guard, inside_guard, thread_rights}
use Rattle.histar_refinement.specs.Addresses.{home_address}
use Rattle.histar_refinement.specs.Addresses.Step.{Status, Inside, Runner}
use Rattle.histar_refinement.specs.Represents.{Represents}
use Rattle.histar_refinement.specs.KeptNames.{RepresentsStill}
use Rattle.histar_refinement.specs.Processes.{or_zero, process_bytes, status_by}
use Rattle.histar_refinement.proofs.Beside.{own_set}
use Rattle.histar_refinement.proofs.Growing.{same_rights_label}
use Rattle.histar_layout.proofs.Members.{is_in}
use Rattle.histar_refinement.proofs.Spawned.{births, state_spawned, still_spawned}
use Rattle.histar_refinement.proofs.Spawning.{keeps, reads_number, writes_number}
use Rattle.histar_refinement.proofs.Uses.{rights_used}
use Rattle.histar_refinement.proofs.OwnLabels.{own_user_is, name_of_number}
use Rattle.histar_refinement.proofs.JobLabels.{jobs_are, none_if_free}
use Rattle.histar_sim.proofs.BirthChecks.{IsModified, IsLesser}
use Rattle.histar_sim.proofs.BirthRights.{chain_used, chain_free, names, owner, owner_clearance, around_before, around_owner, home_modified}
use Rattle.histar_sim.proofs.BirthRights.{outer_modified, inner_modified, thread_lesser, own_taken}
use Rattle.histar_sim.proofs.BirthRun.{IsFit, spawned}
use Rattle.histar_sim.proofs.ChildBytes.{started_fits, grown_fits, few_listed, child_bytes_are, own_bytes_are}
use Rattle.histar_sim.proofs.ChildLabels.{outer_is, inner_is, label_is, clearance_is}

module _ (accounts : Accounts) (ok : AreAccounts accounts) (s : State) (f : Flat) (represents : Represents accounts s f)
    (me : ProcName) (p : Process) (here : f.processes me ≡ Some p) (runs : p.exited ≡ None) (room : p.born < 64)
    (C S : ℕ) (at_home : represents.matched.naming.number (home_address me) ≡ Some C)
    (at_status : represents.matched.naming.number (Status ∷ home_address me) ≡ Some S) (T : ℕ)
    (at_thread : represents.matched.naming.number (Runner ∷ Inside ∷ home_address me) ≡ Some T) where
  abbrev own : Levels
  own = rights_label represents.matched.category (thread_rights accounts me p)

  abbrev clearance : Levels
  clearance = rights_clearance represents.matched.category (thread_rights accounts me p)

  abbrev home : Home
  home = record { container = C; segment = S }

  abbrev status : ProcessStatus
  status = status_by f.processes represents.matched.naming.number me p

  abbrev kin : Kin
  kin = kin_of accounts own

  -- the own label of the thread shows the user
  revealed : user_of own (length accounts.users) ≡ or_zero (user_number accounts p.user)
  revealed = own_user_is accounts s f represents.matched me p

  -- the numbers of categories once the child has its two
  abbrev then_names : Categories
  then_names = names accounts s f represents.matched me p here runs room C S at_home at_status

  -- a name that was used keeps its number
  kept : (c : CategoryName) → IsUsed accounts f c → then_names c ≡ represents.matched.category c
  kept c used =
      keeps accounts s f represents.matched me p here runs room p.chain
      (chain_used accounts s f represents.matched me p here runs room C S at_home at_status)
      (represents.matched.processes me p here).chain
      (chain_free accounts s f represents.matched me p here runs room C S at_home at_status) C S at_home at_status c
      used

  -- boot's categories keep their numbers
  as_made : (c : CategoryName) (q : ℕ) → boot_category accounts c ≡ Some q → then_names c ≡ q
  as_made c q booted = kept c (boot_used accounts f represents.matched.first c q booted) ∙ represents.matched.as_made c q booted

  -- the own label of the thread has the jobs of the process by these numbers
  own_kept : rights_label then_names (thread_rights accounts me p) ≡ own
  own_kept =
      let used = rights_used accounts f me p here in
      same_rights_label represents.matched.category then_names (thread_rights accounts me p) (λ c e. kept c (used.0 c e), λ c e. kept c (used.1 c e))

  alike : (q : ℕ) → is_in (jobs_in own) q ≡ is_in (map then_names (map OfJob p.chain)) q
  alike q = ap (λ (label : Levels). is_in (jobs_in label) q) (sym own_kept) ∙ jobs_are then_names accounts me p q

  owned_revealed : kin.owned ≡ owned_by accounts (or_zero (user_number accounts p.user)) (is_free p)
  owned_revealed = λ i. owned_by accounts (revealed i) (none_if_free represents.matched.category accounts me p i)

  named : user_name accounts.users (or_zero (user_number accounts p.user)) ≡ p.user
  named = name_of_number accounts p.user ((represents.matched.processes me p here).someone runs)

  reads_is : then_names (ReadsProcess ((p.born + 1) ∷ me)) ≡ s.next_category
  reads_is =
      reads_number accounts s f represents.matched me p here runs room p.chain
      (chain_used accounts s f represents.matched me p here runs room C S at_home at_status)
      (represents.matched.processes me p here).chain
      (chain_free accounts s f represents.matched me p here runs room C S at_home at_status) C S at_home at_status

  writes_is : then_names (WritesProcess ((p.born + 1) ∷ me)) ≡ s.next_category + 1
  writes_is =
      writes_number accounts s f represents.matched me p here runs room p.chain
      (chain_used accounts s f represents.matched me p here runs room C S at_home at_status)
      (represents.matched.processes me p here).chain
      (chain_free accounts s f represents.matched me p here runs room C S at_home at_status) C S at_home at_status

  -- the labels of the objects that are made are the child's
  abbrev child : ProcName
  child = (p.born + 1) ∷ me

  abbrev newborn : Process
  newborn = record { user = p.user; chain = p.chain; held = []; exited = None; born = 0 }

  outer_same : outer_label kin (s.next_category + 1) ≡ guard_label then_names (process_guard child newborn)
  outer_same =
      outer_is accounts then_names p as_made named kin alike owned_revealed ((p.born + 1) ∷ me) s.next_category
      (s.next_category + 1) reads_is writes_is

  inner_same : inner_label kin s.next_category (s.next_category + 1) ≡ guard_label then_names (inside_guard child newborn)
  inner_same =
      inner_is accounts then_names p as_made named kin alike owned_revealed ((p.born + 1) ∷ me) s.next_category
      (s.next_category + 1) reads_is writes_is

  label_same : thread_label kin s.next_category (s.next_category + 1) ≡ rights_label then_names (thread_rights accounts child newborn)
  label_same =
      label_is accounts then_names p as_made named kin alike owned_revealed ((p.born + 1) ∷ me) s.next_category
      (s.next_category + 1) reads_is writes_is

  clearance_same : thread_clearance kin s.next_category (s.next_category + 1) ≡ rights_clearance then_names (thread_rights accounts child newborn)
  clearance_same =
      clearance_is accounts then_names p as_made named kin alike owned_revealed ((p.born + 1) ∷ me) s.next_category
      (s.next_category + 1) reads_is writes_is

  abbrev grown : Levels
  grown = owner accounts s f represents.matched me p here runs room C S at_home at_status

  abbrev grown_clearance : Levels
  grown_clearance = owner_clearance accounts s f represents.matched me p here runs room C S at_home at_status

  -- What the birth needs is there.
  pub fit : IsFit s T (record { container = C; segment = S })
      (status_by f.processes represents.matched.naming.number me p)
      (kin_of accounts (rights_label represents.matched.category (thread_rights accounts me p)))
      (rights_label represents.matched.category (thread_rights accounts me p))
      (rights_clearance represents.matched.category (thread_rights accounts me p))
  fit = record {
    thread = (around_before accounts s f represents.matched me p here runs C S at_home at_status T at_thread).thread;
    owner = grown;
    owner_clearance = grown_clearance;
    label = guard_label then_names (process_guard me p);
    held = process_bytes f.processes represents.matched.naming.number me p;
    around = around_owner accounts s f represents.matched me p here runs room C S at_home at_status T at_thread;
    under = (home_modified accounts s f represents.matched me p here runs room C S at_home at_status).0;
    seen = (home_modified accounts s f represents.matched me p here runs room C S at_home at_status).1;
    outer =
        subst (λ (x : Levels). IsModified grown grown_clearance x (s.next_category + 1 + 1)) (sym outer_same)
        (outer_modified accounts s f represents.matched me p here runs room C S at_home at_status);
    inner =
        subst (λ (x : Levels). IsModified grown grown_clearance x (s.next_category + 1 + 1)) (sym inner_same)
        (inner_modified accounts s f represents.matched me p here runs room C S at_home at_status);
    lesser =
        subst (λ (x : Levels × Levels). IsLesser grown grown_clearance x.0 x.1 (s.next_category + 1 + 1))
        (λ i. (sym label_same i, sym clearance_same i))
        (thread_lesser accounts s f represents.matched me p here runs room C S at_home at_status);
    taken = own_taken accounts s f represents.matched me p here runs room C S at_home at_status;
    child_few = started_fits (s.next_object + 1) (s.next_object + 1 + 1);
    own_few =
        grown_fits (process_bytes f.processes represents.matched.naming.number me p) s.next_object
        (s.next_object + 1 + 1 + 1) status
        (let listed = few_listed f.processes represents.matched.naming.number me p in omega (arith, listed, room));
  }

  -- the state after the birth is the one that represents the flat state with the child
  module _ (few : s.next_object + 3 < greatest) where
    abbrev matched_state : State
    matched_state = state_spawned accounts s f represents me p here runs room C S T at_home at_status at_thread few

    spawned_is : spawned s T home status kin own clearance ≡ matched_state
    spawned_is = λ i. own_set T (births (with_category (with_category s T) T) C S
        (record { label = outer_same i; kind = Container set.empty })
        (record { label = inner_same i; kind = Container set.empty })
        (thread_of (label_same i) (clearance_same i))
        (record {
          label = outer_same i;
          kind = Segment (child_bytes_are accounts s f represents.matched me p here runs room p.chain
              (chain_used accounts s f represents.matched me p here runs room C S at_home at_status)
              (represents.matched.processes me p here).chain
              (chain_free accounts s f represents.matched me p here runs room C S at_home at_status) C S
              at_home at_status i);
        })
        (own_bytes_are accounts s f represents.matched me p here runs room p.chain
        (chain_used accounts s f represents.matched me p here runs room C S at_home at_status) (represents.matched.processes me p here).chain
        (chain_free accounts s f represents.matched me p here runs room C S at_home at_status) C S at_home at_status i)) own clearance

    -- This state represents the flat state with the child.
    pub spawned_matched : RepresentsStill represents
        (spawned s T (record { container = C; segment = S })
        (status_by f.processes represents.matched.naming.number me p)
        (kin_of accounts (rights_label represents.matched.category (thread_rights accounts me p)))
        (rights_label represents.matched.category (thread_rights accounts me p))
        (rights_clearance represents.matched.category (thread_rights accounts me p)))
        (flat.with_child f me p p.chain)
    spawned_matched =
        subst (λ (x : State). RepresentsStill represents x (flat.with_child f me p p.chain)) (sym spawned_is)
        (still_spawned accounts s f represents me p here runs room C S T at_home at_status at_thread few)
