-- What the thread of a process may do once it has made the two categories of a child, and which objects are there.
use Rattle.std.proofs.Common.{◌≡◌, ◌≢◌, ℕ, ◌+◌, ◌<◌, true, false, List, [], ◌∷◌, ◌++◌, None, Some, arith, refl, sym, ap, ◌∙◌, subst, inl}
use Rattle.std.specs.Prelude.{is_some}
use Rattle.std.specs.FinSet as set
use Rattle.std.proofs.lemmas.Bool.{or_left}
use mathlib.Core.Bool.{true≢false}
use Rattle.histar_flat.specs.Words.{ProcName}
use Rattle.histar_flat.specs.Accounts.{Accounts, has, user_number}
use Rattle.histar_flat.specs.Classes.{Process}
use Rattle.histar_flat.specs.FlatState.{Flat}
use Rattle.histar_level.specs.declared.level.Level.TheVariants.{Star, L3}
use Rattle.histar_level.specs.Levels.{Levels}
use Rattle.histar_label.specs.Levels.{with_level, is_below, is_below_raised}
use Rattle.histar_object.specs.declared.objects.Kind.TheVariants.{Segment}
use Rattle.histar_object.specs.Objects.{links_in}
use Rattle.histar_rules.specs.Rights.{with_category}
use Rattle.histar_object.specs.State.{State, Found}
use Rattle.histar_refinement.specs.Categories.{CategoryName, Categories, AreDifferent, IsMade, IsUsed}
use Rattle.histar_refinement.specs.Categories.CategoryName.{OfBoot, ReadsProcess, WritesProcess, OfJob}
use Rattle.histar_refinement.specs.Guards.{Rights, guard_label, rights_label, rights_clearance}
use Rattle.histar_refinement.specs.Labels.{process_guard, inside_guard, thread_rights}
use Rattle.histar_refinement.specs.Addresses.{same_step, home_address}
use Rattle.histar_refinement.specs.Addresses.Step.{Status, Inside, Runner}
use Rattle.histar_refinement.proofs.Expected.{status_object, bytes_for, expected}
use Rattle.histar_refinement.specs.Represents.{ObjectsMatch}
use Rattle.histar_refinement.specs.Processes.{process_bytes}
use Rattle.histar_refinement.proofs.AmongNames.{each_head, each_append}
use Rattle.histar_refinement.proofs.Growing.{RightsHave, IsOld, new_number, made_label, made_clearance, same_rights_label, same_rights_clearance}
use Rattle.histar_refinement.proofs.Moving.{number_below, at_number, bare_is}
use Rattle.histar_refinement.proofs.Roots.{asked_status}
use Rattle.histar_refinement.proofs.Ranges.{grown, own_modified, outer_above, outer_below, outer_seen, inner_above, inner_below, inner_seen}
use Rattle.histar_refinement.proofs.Ranges.{thread_above, thread_below, clearance_below, label_again, clearance_again}
use Rattle.histar_refinement.proofs.Spawning.{after, no_child, with_reads, different_reads, category, different, keeps_first, keeps, made_then}
use Rattle.histar_refinement.proofs.Spawning.{at_child, at_me}
use Rattle.histar_refinement.proofs.Agreeing.{home_found, thread_found, step_linked}
use Rattle.histar_refinement.proofs.Steps.{step_tests_equality}
use Rattle.histar_refinement.proofs.Tested.{AreMade, guard_made, rights_made, clearance_made, guard_owns_nothing}
use Rattle.histar_refinement.proofs.Uses.{process_used, inside_used, rights_used, keep_process_label}
use Rattle.histar_sim.proofs.BirthObjects.{Around, around_category}
use Rattle.histar_sim.proofs.BirthChecks.{IsModified, IsLesser, IsTaken}
use Rattle.histar_refinement.proofs.Agreement.{agreement}

module _ (accounts : Accounts) (s : State) (f : Flat) (l : ObjectsMatch accounts s f) (me : ProcName) (p : Process)
    (here : f.processes me ≡ Some p) (runs : p.exited ≡ None)
    (C S : ℕ) (at_home : l.naming.number (home_address me) ≡ Some C)
    (at_status : l.naming.number (Status ∷ home_address me) ≡ Some S) (T : ℕ)
    (at_thread : l.naming.number (Runner ∷ Inside ∷ home_address me) ≡ Some T) where
  abbrev held : List ℕ
  held = process_bytes f.processes l.naming.number me p

  abbrev old_label : Levels
  old_label = guard_label l.category (process_guard me p)

  -- the thread, its container and its process segment in it
  pub around_before : Around T C S (rights_label l.category (thread_rights accounts me p))
      (rights_clearance l.category (thread_rights accounts me p)) (guard_label l.category (process_guard me p))
      (process_bytes f.processes l.naming.number me p) s
  around_before = let home = home_found accounts s f l me p here C at_home in record {
    thread = thread_found accounts s f l me p here runs T at_thread;
    home = (
      home.0,
      home.1,
      sym (ap (λ (o : Found). set.contains (links_in o) S) home.1)
          ∙ step_linked accounts s f l Status (home_address me) C S at_home at_status,
    );
    segment = bare_is (s.objects S) (record { label = old_label; kind = Segment held }) refl
        (at_number same_step step_tests_equality s l.naming (expected accounts l.category f l.naming.number) (agreement l)
        (Status ∷ home_address me) S at_status
        ∙ asked_status accounts l.category f l.naming.number me
        ∙ ap (λ o. status_object accounts l.category (bytes_for accounts l.category f l.naming.number me o) me o)
        here);
    thread_below =
        number_below same_step step_tests_equality s l.naming (expected accounts l.category f l.naming.number) (agreement l)
        (Runner ∷ Inside ∷ home_address me) T at_thread;
    home_below =
        number_below same_step step_tests_equality s l.naming (expected accounts l.category f l.naming.number) (agreement l)
        (home_address me) C at_home;
    segment_below =
        number_below same_step step_tests_equality s l.naming (expected accounts l.category f l.naming.number) (agreement l)
        (Status ∷ home_address me) S at_status;
  }

module _ (accounts : Accounts) (s : State) (f : Flat) (l : ObjectsMatch accounts s f) (me : ProcName) (p : Process)
    (here : f.processes me ≡ Some p) (runs : p.exited ≡ None) (room : p.born < 64)
    (C S : ℕ) (at_home : l.naming.number (home_address me) ≡ Some C) (at_status : l.naming.number (Status ∷ home_address me) ≡ Some S) where
  -- the child is in the jobs of its parent
  pub chain_used : (job : ProcName) → has p.chain job ≡ true → IsUsed accounts f (OfJob job)
  chain_used job e = inl (me, p, here, or_left (has p.chain job) (has p.held job) e)

  pub chain_free : is_some (user_number accounts p.user) ≡ false → p.chain ≡ []
  chain_free e = ((l.processes me p here).free runs e).0

  abbrev child : ProcName
  child = (p.born + 1) ∷ me

  -- the next category before
  abbrev next : ℕ
  next = s.next_category

  -- the numbers of categories once both new categories have theirs, and once the first has
  abbrev pub names : Categories
  names = category accounts s f l me p here runs room p.chain chain_used (l.processes me p here).chain chain_free C S at_home at_status

  pub apart : AreDifferent names
  apart = different accounts s f l me p here runs room p.chain chain_used (l.processes me p here).chain chain_free C S at_home at_status

  abbrev first_names : Categories
  first_names = with_reads accounts s f l me p here runs room p.chain chain_used (l.processes me p here).chain chain_free C S at_home at_status

  first_apart : AreDifferent first_names
  first_apart = different_reads accounts s f l me p here runs room p.chain chain_used (l.processes me p here).chain chain_free C S at_home at_status

  -- the flat state with the child
  abbrev then_flat : Flat
  then_flat = after accounts s f l me p here runs room p.chain chain_used (l.processes me p here).chain chain_free C S at_home at_status

  abbrev mine : Rights
  mine = thread_rights accounts me p

  -- what the thread owns with the one category, and with both
  abbrev first : Rights
  first = record { owned = ReadsProcess child ∷ mine.owned; tainted = mine.tainted }

  abbrev pub owner : Levels
  owner = rights_label names (grown accounts names apart me p ((p.born + 1) ∷ me))

  abbrev pub owner_clearance : Levels
  owner_clearance = rights_clearance names (grown accounts names apart me p ((p.born + 1) ∷ me))

  -- ---- its label and its clearance grow by both categories

  used : RightsHave (IsUsed accounts f) mine
  used = rights_used accounts f me p here

  not_reads : (c : CategoryName) → IsUsed accounts f c → c ≢ ReadsProcess child
  not_reads c is e =
      let there : is_some (f.processes child)
      ≡ true = subst (IsUsed accounts f) e is in true≢false (sym there
      ∙ ap is_some (no_child accounts s f l me p here runs room p.chain chain_used (l.processes me p here).chain
      chain_free C S at_home at_status))

  not_writes : (c : CategoryName) → IsUsed accounts f c → c ≢ WritesProcess child
  not_writes c is e =
      let there : is_some (f.processes child)
      ≡ true = subst (IsUsed accounts f) e is in true≢false (sym there
      ∙ ap is_some (no_child accounts s f l me p here runs room p.chain chain_used (l.processes me p here).chain
      chain_free C S at_home at_status))

  -- a name that was used is old, beside the first new category and beside the second
  abbrev IsOldFirst : CategoryName → Type 0
  IsOldFirst = IsOld l.category l.different next (ReadsProcess child)

  abbrev IsOldSecond : CategoryName → Type 0
  IsOldSecond = IsOld first_names first_apart (next + 1) (WritesProcess child)

  old_first : (c : CategoryName) → IsUsed accounts f c → IsOldFirst c
  old_first c is = (not_reads c is, l.made c is)

  old_second : (c : CategoryName) → IsUsed accounts f c → IsOldSecond c
  old_second c is =
      let same =
      keeps_first accounts s f l me p here runs room p.chain chain_used (l.processes me p here).chain chain_free C S
      at_home at_status c is in
      let made = l.made c is in
      (not_writes c is, (omega (arith, same, made.0), omega (arith, same, made.1)))

  old_reads : IsOldSecond (ReadsProcess child)
  old_reads =
      let same : first_names (ReadsProcess child) ≡ next = new_number l.category l.different next (ReadsProcess child) in
      let made = l.made OfBoot tt in
      ((λ e. absurd cc), (omega (arith, same, made.0, made.1), omega (arith, same)))

  first_has : RightsHave IsOldFirst mine
  first_has = (λ c e. old_first c (used.0 c e), λ c e. old_first c (used.1 c e))

  second_has : RightsHave IsOldSecond first
  second_has = (
    each_head IsOldSecond (ReadsProcess child) mine.owned old_reads (λ c e. old_second c (used.0 c e)),
    λ c e. old_second c (used.1 c e),
  )

  label_grown : with_level (with_level (rights_label l.category mine) next Star) (next + 1) Star ≡ owner
  label_grown = ap (λ (x : Levels). with_level x (next + 1) Star) (made_label l.category l.different next (ReadsProcess child) mine first_has)
      ∙ made_label first_names first_apart (next + 1) (WritesProcess child) first second_has

  clearance_grown : with_level (with_level (rights_clearance l.category mine) next L3) (next + 1) L3 ≡ owner_clearance
  clearance_grown = ap (λ (x : Levels). with_level x (next + 1) L3) (made_clearance l.category l.different next (ReadsProcess child) mine first_has)
      ∙ made_clearance first_names first_apart (next + 1) (WritesProcess child) first second_has

  -- ---- the objects that are there

  module _ (T : ℕ) (at_thread : l.naming.number (Runner ∷ Inside ∷ home_address me) ≡ Some T) where
    -- once both categories are made
    pub around_owner : Around T C S owner owner_clearance (guard_label names (process_guard me p))
        (process_bytes f.processes l.naming.number me p) (with_category (with_category s T) T)
    around_owner =
        let one =
        around_category T C S (rights_label l.category mine) (rights_clearance l.category mine)
        (guard_label l.category (process_guard me p)) (process_bytes f.processes l.naming.number me p) s
        (around_before accounts s f l me p here runs C S at_home at_status T at_thread) in
        let two =
        around_category T C S (with_level (rights_label l.category mine) next Star)
        (with_level (rights_clearance l.category mine) next L3) (guard_label l.category (process_guard me p))
        (process_bytes f.processes l.naming.number me p) (with_category s T) one in
        subst (λ (x : Levels × Levels × Levels). Around T C S x.0 x.1 x.2 (process_bytes f.processes l.naming.number me p)
        (with_category (with_category s T) T))
        (λ i. (
          label_grown i,
          clearance_grown i,
          keep_process_label accounts f l.category names
              (keeps accounts s f l me p here runs room p.chain chain_used (l.processes me p here).chain
              chain_free C S at_home at_status) me p here i,
        )) two

  -- ---- what it may do

  made : (c : CategoryName) → IsUsed accounts then_flat c → IsMade (next + 1 + 1) (names c)
  made c is =
      let two : next + 2
      ≡ next + 1
      + 1 = omega arith in subst (λ (n : ℕ). IsMade n (names c)) two (made_then accounts s f l me p here runs
      room p.chain chain_used (l.processes me p here).chain chain_free C S at_home at_status c is)

  -- the thread modifies its own container and process segment
  pub home_modified : (is_below owner (guard_label names (process_guard me p)) ≡ true)
      × (is_below_raised (guard_label names (process_guard me p)) owner ≡ true)
  home_modified = own_modified accounts names apart me p child

  -- the thread makes the child's container and process segment, and its internal container
  pub outer_modified : IsModified owner owner_clearance (guard_label names (process_guard ((p.born + 1) ∷ me)
      (record { user = p.user; chain = p.chain; held = []; exited = None; born = 0 })))
      (s.next_category + 1 + 1)
  outer_modified =
      let these =
      process_used accounts then_flat child
      (record { user = p.user; chain = p.chain; held = []; exited = None; born = 0 })
      (at_child accounts s f l me p here runs room p.chain chain_used (l.processes me p here).chain chain_free
      C S at_home at_status) in
      record {
        above = outer_above accounts names apart me p child;
        below = outer_below accounts names apart me p child;
        seen = outer_seen accounts names apart me p child;
        made =
            guard_made (next + 1 + 1) names
            (process_guard child (record { user = p.user; chain = p.chain; held = []; exited = None; born = 0 }))
            (λ c e. made c (these.0 c e)) (λ c e. made c (these.1 c e));
        plain = guard_owns_nothing names (process_guard child (record { user = p.user; chain = p.chain; held = []; exited = None; born = 0 }));
      }

  pub inner_modified : IsModified owner owner_clearance (guard_label names (inside_guard ((p.born + 1) ∷ me)
      (record { user = p.user; chain = p.chain; held = []; exited = None; born = 0 })))
      (s.next_category + 1 + 1)
  inner_modified =
      let these =
      inside_used accounts then_flat child
      (record { user = p.user; chain = p.chain; held = []; exited = None; born = 0 })
      (at_child accounts s f l me p here runs room p.chain chain_used (l.processes me p here).chain chain_free
      C S at_home at_status) in
      record {
        above = inner_above accounts names apart me p child;
        below = inner_below accounts names apart me p child;
        seen = inner_seen accounts names apart me p child;
        made =
            guard_made (next + 1 + 1) names
            (inside_guard child (record { user = p.user; chain = p.chain; held = []; exited = None; born = 0 }))
            (λ c e. made c (these.0 c e)) (λ c e. made c (these.1 c e));
        plain = guard_owns_nothing names (inside_guard child (record { user = p.user; chain = p.chain; held = []; exited = None; born = 0 }));
      }

  rights_are_made : (r : Rights) → RightsHave (IsUsed accounts then_flat) r → AreMade (next + 1 + 1) names (r.owned ++ r.tainted)
  rights_are_made r has = each_append (λ c. IsMade (next + 1 + 1) (names c)) r.owned r.tainted (λ c e. made c (has.0 c e)) (λ c e. made c (has.1 c e))

  -- the thread makes the child's thread
  pub thread_lesser : IsLesser owner owner_clearance (rights_label names (thread_rights accounts ((p.born + 1) ∷ me)
      (record { user = p.user; chain = p.chain; held = []; exited = None; born = 0 })))
      (rights_clearance names (thread_rights accounts ((p.born + 1) ∷ me)
      (record { user = p.user; chain = p.chain; held = []; exited = None; born = 0 })))
      (s.next_category + 1 + 1)
  thread_lesser =
      let childs : Rights = thread_rights accounts child (record { user = p.user; chain = p.chain; held = []; exited = None; born = 0 }) in
      let these =
      rights_used accounts then_flat child
      (record { user = p.user; chain = p.chain; held = []; exited = None; born = 0 })
      (at_child accounts s f l me p here runs room p.chain chain_used (l.processes me p here).chain chain_free
      C S at_home at_status) in
      record {
        above = thread_above accounts names apart me p child;
        below = thread_below accounts names apart me p child;
        within = clearance_below accounts names apart me p child;
        made = rights_made (next + 1 + 1) names childs (λ c e. made c (these.0 c e)) (λ c e. made c (these.1 c e));
        cleared = clearance_made (next + 1 + 1) names (childs.owned ++ childs.tainted) (rights_are_made childs these);
      }

  -- the thread may have its own labels again
  taken_then : IsTaken owner owner_clearance (rights_label names mine) (rights_clearance names mine) (next + 1 + 1)
  taken_then =
      let these : RightsHave (IsUsed accounts then_flat) mine =
      rights_used accounts then_flat me
      (record { user = p.user; chain = p.chain; held = p.held; exited = p.exited; born = p.born + 1 })
      (at_me accounts s f l me p here runs room p.chain chain_used (l.processes me p here).chain chain_free C
      S at_home at_status) in
      record {
        above = (label_again accounts names apart me p child).0;
        below = (label_again accounts names apart me p child).1;
        capped = (clearance_again accounts names apart me p child).0;
        within = (clearance_again accounts names apart me p child).1;
        made = rights_made (next + 1 + 1) names mine (λ c e. made c (these.0 c e)) (λ c e. made c (these.1 c e));
        cleared = clearance_made (next + 1 + 1) names (mine.owned ++ mine.tainted) (rights_are_made mine these);
      }

  pub own_taken : IsTaken owner owner_clearance (rights_label l.category (thread_rights accounts me p))
      (rights_clearance l.category (thread_rights accounts me p)) (s.next_category + 1 + 1)
  own_taken =
      let kept = keeps accounts s f l me p here runs room p.chain chain_used (l.processes me p here).chain chain_free C S at_home at_status in
      subst (λ (x : Levels × Levels). IsTaken owner owner_clearance x.0 x.1 (next + 1 + 1))
      (λ i. (
        same_rights_label l.category names mine (λ c e. kept c (used.0 c e), λ c e. kept c (used.1 c e)) i,
        same_rights_clearance l.category names mine (λ c e. kept c (used.0 c e), λ c e. kept c (used.1 c e)) i,
      ))
      taken_then
