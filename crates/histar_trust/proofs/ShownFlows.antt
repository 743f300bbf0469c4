-- The lines on the flows of a machine are those of the flat state that it represents.
use Rattle.std.specs.Prelude.{◌≡◌, ℕ, Bool, true, false, not, ◌&&◌, ◌||◌, List, [], ◌∷◌, ◌++◌, codes, filter, map, nat_eq, if◌then◌else◌, refl}
use Rattle.std.specs.List.{flat_map, list_all, list_any}
use Rattle.std.proofs.Common.{ap, sym, ◌∙◌, inl, inr}
use Rattle.histar_base.specs.Paths.{same}
use Rattle.histar_flat.specs.Words.{ProcName}
use Rattle.histar_flat.specs.Accounts.{Accounts, has}
use Rattle.histar_flat.specs.Classes.{Process, knows}
use Rattle.histar_flat.specs.FlatState.{Flat}
use Rattle.histar_flat.specs.Texts.{process_text}
use Rattle.histar_flat.proofs.FileLemmas.{same_itself, same_name_found}
use Rattle.histar_object.specs.State.{State}
use Rattle.histar_syscall.specs.KernelModel.{state}
use Rattle.histar_refinement.specs.Represents.{ObjectsMatch}
use Rattle.histar_rights.specs.Running.{Named, running_in}
use Rattle.histar_secrecy.specs.declared.role.Member.{Member}
use Rattle.histar_secrecy.specs.ShownRoles.{AreNumbered}
use Rattle.histar_shell.specs.Machine.{MachineModel}
use Rattle.histar_trust.specs.Findings.{AreMembers, Runner, ShowsReached, runner_of}
use Rattle.histar_trust.specs.FlowFindings.{has_number, is_shown_free, is_shown_observer, shown_flow, shown_flows, shown_free}
use Rattle.histar_trust.specs.FlowFindings.{shown_free_name, shown_line, shown_observer, shown_observers, shows_held}
use Rattle.histar_trust.specs.FlowsText.{flow_line, flows_text, free_line, free_mark, holds_one, is_in_job, is_in_none, is_observer}
use Rattle.histar_trust.specs.FlowsText.{observer_mark, observers, observers_text}
use Rattle.histar_trust.proofs.Places.{first_of_list, number_of, rest_of_list}
use Rattle.histar_trust.proofs.Runners.{numbered}
use Rattle.histar_trust.proofs.ShownSecrets.{behind_three}
use Rattle.histar_trust.proofs.ShownTrust.{members_are, one_number}

-- ---- lists

-- a list has an item
abbrev has_one : {A : Type 0} → List A → Bool
has_one xs = elim xs [ [] ↦ false | x ∷ rest ↦ true ]

-- an item passes a test exactly if the filter keeps one
any_kept : (test : Named → Bool) (cs : List Named) → list_any test cs ≡ has_one (filter test cs)
any_kept test [] = refl
any_kept test (c ∷ cs) = by (test c) (any_kept test cs)
  where
    by : (b : Bool) → list_any test cs ≡ has_one (filter test cs)
        → (b || list_any test cs) ≡ has_one (if b then c ∷ filter test cs else filter test cs)
    by true rest = refl
    by false rest = rest

-- the marks of what the filter keeps
marks_kept : (mark : Named → List ℕ) (b : Bool) (c : Named) (cs : List Named)
    → (if b then mark c else []) ++ flat_map mark cs ≡ flat_map mark (if b then c ∷ cs else cs)
marks_kept mark true c cs = refl
marks_kept mark false c cs = refl

-- the word, the processes in no job and the end of their line were added
pub free_added : (members : List Member) (old : List ℕ) {mid late new : List ℕ} → list_any is_shown_free members ≡ true
    → mid ≡ old ++ codes "free" → late ≡ mid ++ flat_map shown_free_name members → new ≡ late ++ codes " tell everyone\n"
    → new ≡ old ++ shown_free members
free_added members old some word names end =
    let all = flat_map shown_free_name members in
    end ∙ ap (λ t. t ++ codes " tell everyone\n") (names ∙ ap (λ t. t ++ all) word)
    ∙ behind_three old (codes "free") all (codes " tell everyone\n")
    ∙ ap (λ b. old ++ (if b then codes "free" ++ all ++ codes " tell everyone\n" else [])) (sym some)

-- ---- jobs by numbers

module _ (number : ProcName → ℕ) (one : AreNumbered number) where
  number_same : (a b : ProcName) → nat_eq (number a) (number b) ≡ same a b
  number_same a b = elim (same_name_found a b) [
    | inl t ↦ alone (nat_eq (number a) (number b)) ∙ ap (λ x. same (number x ∷ []) (number b ∷ [])) t.1 ∙ same_itself (number b ∷ []) ∙ sym t.0
    | inr t ↦ elim (same_name_found (number a ∷ []) (number b ∷ [])) [
      | inl u ↦ let numbers : number a ≡ number b = cc in absurd (t.1 (one a b numbers))
      | inr u ↦ alone (nat_eq (number a) (number b)) ∙ u.0 ∙ sym t.0
    ]
  ]
    where
      alone : (b : Bool) → b ≡ (b && true)
      alone true = refl
      alone false = refl

  numbers_have : (jobs : List ProcName) (job : ProcName) → has_number (map number jobs) (number job) ≡ has jobs job
  numbers_have [] job = refl
  numbers_have (k ∷ jobs) job = λ i. number_same job k i || numbers_have jobs job i

  -- a process knows each of these jobs exactly if it does by numbers
  all_known : (q : Process) (jobs : List ProcName)
      → list_all (λ job. has_number (map number q.chain) job || has_number (map number q.held) job) (map number jobs) ≡ list_all (knows q) jobs
  all_known q [] = refl
  all_known q (k ∷ jobs) = λ i. (numbers_have q.chain k i || numbers_have q.held k i) && all_known q jobs i

  one_held : (q : Process) (jobs : List ProcName) → list_any (has_number (map number q.held)) (map number jobs) ≡ list_any (has q.held) jobs
  one_held q [] = refl
  one_held q (k ∷ jobs) = λ i. numbers_have q.held k i || one_held q jobs i

  none_by_number : (jobs : List ProcName) → (let b : Bool = elim (map number jobs) [ [] ↦ true | k ∷ ks ↦ false ] in b)
      ≡ (let b : Bool = elim jobs [ [] ↦ true | k ∷ ks ↦ false ] in b)
  none_by_number [] = refl
  none_by_number (k ∷ ks) = refl

-- ---- a machine

module _ {accounts : Accounts} {m : MachineModel} {f : Flat} (r : ShowsReached accounts m f) (members : List Member)
    (found : AreMembers m members) where
  abbrev s : State
  s = state m.kernel

  abbrev l : ObjectsMatch accounts s f
  l = r.shows.represents.matched

  abbrev number : ProcName → ℕ
  number = number_of l.category

  -- the member is shown as this process
  abbrev AreSame : Member → Named → Type 0
  AreSame member c = runner_of member ≡ numbered f l.category c

  -- the members are shown as these processes, in the same order
  abbrev AllSame : List Member → List Named → Type 0
  AllSame ms cs = map runner_of ms ≡ map (numbered f l.category) cs

  -- two tests that agree on each process agree on all
  any_same : (test : Member → Bool) (other : Named → Bool) → ((x : Member) (c : Named) → AreSame x c → test x ≡ other c)
      → (ms : List Member) (cs : List Named) → AllSame ms cs → list_any test ms ≡ list_any other cs
  unfolding first_of_list rest_of_list
  any_same test other agree [] [] all = refl
  any_same test other agree [] (c ∷ cs) all = absurd (cc)
  any_same test other agree (x ∷ ms) [] all = absurd (cc)
  any_same test other agree (x ∷ ms) (c ∷ cs) all =
      λ i. agree x c (ap (first_of_list (runner_of x)) all) i || any_same test other agree ms cs (ap rest_of_list all) i

  -- what is printed of each process, if it passes a test, is what is printed of those that pass
  marks_same : (mark : Member → List ℕ) (test : Named → Bool) (other : Named → List ℕ)
      → ((x : Member) (c : Named) → AreSame x c → mark x ≡ (if test c then other c else []))
      → (ms : List Member) (cs : List Named) → AllSame ms cs → flat_map mark ms ≡ flat_map other (filter test cs)
  unfolding first_of_list rest_of_list
  marks_same mark test other agree [] [] all = refl
  marks_same mark test other agree [] (c ∷ cs) all = absurd (cc)
  marks_same mark test other agree (x ∷ ms) [] all = absurd (cc)
  marks_same mark test other agree (x ∷ ms) (c ∷ cs) all =
      (λ i. agree x c (ap (first_of_list (runner_of x)) all) i
      ++ marks_same mark test other agree ms cs (ap rest_of_list all) i)
      ∙ marks_kept other (test c) c (filter test cs)

  all_same : AllSame members (running_in f)
  all_same = members_are r members found

  -- ---- one process

  free_same : (x : Member) (c : Named) → AreSame x c → is_shown_free x ≡ is_in_none c
  free_same x c is =
      ap (λ (o : Runner). let b : Bool = elim o.jobs [ [] ↦ true | k ∷ ks ↦ false ] in b) is
      ∙ none_by_number number (one_number r) c.1.chain

  module _ (p : Member) (from : Named) (is_from : AreSame p from) where
    observer_same : (x : Member) (c : Named) → AreSame x c → is_shown_observer p x ≡ is_observer from c
    observer_same x c is =
        (λ i. not (same (is_from i).name (is i).name)
        && list_all (λ job. has_number (is i).jobs job || has_number (is i).held job) (is_from i).jobs)
        ∙ ap (λ b. not (same from.0 c.0) && b) (all_known number (one_number r) c.1 from.1.chain)

    held_same : (x : Member) (c : Named) → AreSame x c → shows_held p x ≡ holds_one from.1 c.1
    held_same x c is =
        (λ i. list_any (has_number (is i).held) (is_from i).jobs) ∙ one_held number (one_number r) c.1 from.1.chain

    mark_same : (x : Member) (c : Named) → AreSame x c → shown_observer p x ≡ (if is_observer from c then observer_mark from c else [])
    mark_same x c is =
        λ i. if observer_same x c is i then codes " " ++ process_text (is i).name ++ (if held_same x c is i then codes "!" else []) else []

    observers_are : shown_observers members p ≡ observers_text from (observers f from)
    observers_are =
        (λ i. if any_same (is_shown_observer p) (is_observer from) observer_same members (running_in f) all_same i
        then marks_same (shown_observer p) (is_observer from) (observer_mark from) mark_same members (running_in f) all_same i
        else codes " nobody")
        ∙ (λ i. if any_kept (is_observer from) (running_in f) i then flat_map (observer_mark from) (observers f from) else codes " nobody")
        ∙ by (observers f from)
      where
        by : (cs : List Named)
            → (let t : List ℕ = if has_one cs then flat_map (observer_mark from) cs else codes " nobody" in t) ≡ observers_text from cs
        by [] = refl
        by (c ∷ cs) = refl

    line_is : shown_line members p ≡ flow_line f from
    line_is = λ i. process_text (is_from i).name ++ codes " " ++ (is_from i).user ++ codes " tells" ++ observers_are i ++ codes "\n"

  flow_same : (x : Member) (c : Named) → AreSame x c → shown_flow members x ≡ (if is_in_job c then flow_line f c else [])
  flow_same x c is = (λ i. if free_same x c is i then [] else line_is x c is i) ∙ by (is_in_none c)
    where
      by : (b : Bool) → (let t : List ℕ = if b then [] else flow_line f c in t) ≡ (if not b then flow_line f c else [])
      by true = refl
      by false = refl

  -- ---- all lines

  free_mark_same : (x : Member) (c : Named) → AreSame x c → shown_free_name x ≡ (if is_in_none c then free_mark c else [])
  free_mark_same x c is = λ i. if free_same x c is i then codes " " ++ process_text (is i).name else []

  free_is : shown_free members ≡ free_line (filter is_in_none (running_in f))
  free_is =
      (λ i. if any_same is_shown_free is_in_none free_same members (running_in f) all_same i
      then codes "free" ++ marks_same shown_free_name is_in_none free_mark free_mark_same members (running_in f) all_same i
      ++ codes " tell everyone\n" else [])
      ∙ (λ i. if any_kept is_in_none (running_in f) i
      then codes "free" ++ flat_map free_mark (filter is_in_none (running_in f)) ++ codes " tell everyone\n" else [])
      ∙ by (filter is_in_none (running_in f))
    where
      by : (cs : List Named)
          → (let t : List ℕ = if has_one cs then codes "free" ++ flat_map free_mark cs ++ codes " tell everyone\n" else [] in t) ≡ free_line cs
      by [] = refl
      by (c ∷ cs) = refl

  -- what is printed of the running processes is the text of the flat state
  pub flows_there : shown_flows members ≡ flows_text f
  flows_there =
      λ i. free_is i ++ marks_same (shown_flow members) is_in_job (flow_line f) flow_same members (running_in f) all_same i
