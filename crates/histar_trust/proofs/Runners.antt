-- The running processes that are found are those of the flat state, each with its user and its jobs.
use Rattle.std.specs.Prelude.{◌≡◌, ℕ, zero, suc, Bool, true, false, List, [], ◌∷◌, ◌++◌, map, filter, Option, None, Some, if◌then◌else◌, refl}
use Rattle.std.specs.List.{cons_option, filter_map, flat_map, range_with_len}
use Rattle.std.proofs.Common.{ap, sym, ◌∙◌}
use Rattle.std.proofs.lemmas.List.{map-append}
use Rattle.std.proofs.lemmas.List.Elements.{filter_map-append}
use Rattle.histar_flat.specs.Words.{Name, ProcName}
use Rattle.histar_flat.specs.Classes.{Process}
use Rattle.histar_flat.specs.FlatState.{Flat}
use Rattle.histar_flat.specs.FlatCalls.{if_running, running}
use Rattle.histar_refinement.specs.Categories.{Categories}
use Rattle.histar_refinement.specs.NumberedClasses.{job_numbers}
use Rattle.histar_rights.specs.Running.{Named, and_children, itself, running_from}
use Rattle.histar_secrecy.specs.declared.role.Member.{Member}
use Rattle.histar_secrecy.specs.ShownRoles.{with_user}
use Rattle.histar_readout.specs.ProcessLines.{ProcessLine, flat_life, flat_processes, with_children}
use Rattle.histar_trust.specs.Findings.{Runner, living, runner_of, shown_runner}
use Rattle.histar_trust.specs.Secrets.{runner_mark, running_mark}

-- a shown process, if it runs
abbrev pub running_line : ProcessLine → Option Runner
running_line line = living line.name line.chain line.life

-- the property holds of each
abbrev pub AllOf : {A : Type 0} → (A → Type 0) → List A → Type 0
AllOf P [] = Unit {0}
AllOf P (x ∷ xs) = P x × AllOf P xs

all_both : {A : Type 0} (P : A → Type 0) (xs ys : List A) → AllOf P xs → AllOf P ys → AllOf P (xs ++ ys)
all_both P [] ys h k = k
all_both P (x ∷ xs) ys h k = (h.0, all_both P xs ys h.1 k)

module _ (f : Flat) (category : Categories) where
  -- a process of the flat state, with its jobs by numbers
  abbrev pub numbered : Named → Runner
  numbered c = record { name = c.0; user = c.1.user; jobs = job_numbers category c.1.chain; held = job_numbers category c.1.held }

  abbrev pub IsListed : ℕ → Type 0
  IsListed levels = (me : ProcName) → filter_map running_line (flat_processes category levels f me) ≡ map numbered (running_from levels f me)

  children_listed : (levels : ℕ) → IsListed levels → (me : ProcName) (ns : List ℕ)
      → filter_map running_line (flat_map (λ n. flat_processes category levels f (n ∷ me)) ns)
      ≡ map numbered (flat_map (λ n. running_from levels f (n ∷ me)) ns)
  children_listed levels each me [] = refl
  children_listed levels each me (n ∷ ns) =
      filter_map-append running_line (flat_processes category levels f (n ∷ me)) (flat_map (λ k. flat_processes category levels f (k ∷ me)) ns)
      ∙ (λ i. each (n ∷ me) i ++ children_listed levels each me ns i)
      ∙ sym (map-append numbered (running_from levels f (n ∷ me)) (flat_map (λ k. running_from levels f (k ∷ me)) ns))

  put_before : (me : ProcName) (p : Process) (x : Option ℕ) (rest : List Runner)
      → cons_option (living me (job_numbers category p.chain) (flat_life category p x)) rest
      ≡ map numbered (itself me (elim x [ None ↦ Some p | Some n ↦ None ])) ++ rest
  put_before me p None rest = refl
  put_before me p (Some n) rest = refl

  -- the shown processes that run are the running processes
  pub runners_listed : (levels : ℕ) → IsListed levels
  runners_listed zero me = refl
  runners_listed (suc levels) me = by (f.processes me) (runners_listed levels)
    where
      by : (o : Option Process) → IsListed levels
          → filter_map running_line (with_children category (λ n. flat_processes category levels f (n ∷ me)) me o)
          ≡ map numbered (and_children (λ n. running_from levels f (n ∷ me)) me o)
      by None each = refl
      by (Some p) each =
          let kids = flat_map (λ n. running_from levels f (n ∷ me)) (range_with_len 1 p.born) in
          ap (cons_option (living me (job_numbers category p.chain) (flat_life category p p.exited)))
          (children_listed levels each me (range_with_len 1 p.born))
          ∙ put_before me p p.exited (map numbered kids)
          ∙ sym (map-append numbered (itself me (if_running (Some p))) kids)

  -- the process runs
  abbrev pub Runs : Named → Type 0
  Runs c = running f c.0 ≡ Some c.1

  pub each_runs : (levels : ℕ) (me : ProcName) → AllOf Runs (running_from levels f me)
  each_runs zero me = tt
  each_runs (suc levels) me = by (f.processes me) refl (each_runs levels)
    where
      one : (x : Option Process) → running f me ≡ x → AllOf Runs (itself me x)
      one None e = tt
      one (Some p) e = (e, tt)

      kids : ((name : ProcName) → AllOf Runs (running_from levels f name)) → (ns : List ℕ)
          → AllOf Runs (flat_map (λ n. running_from levels f (n ∷ me)) ns)
      kids each [] = tt
      kids each (n ∷ ns) = all_both Runs (running_from levels f (n ∷ me)) (flat_map (λ k. running_from levels f (k ∷ me)) ns)
          (each (n ∷ me)) (kids each ns)

      by : (o : Option Process) → f.processes me ≡ o → ((name : ProcName) → AllOf Runs (running_from levels f name))
          → AllOf Runs (and_children (λ n. running_from levels f (n ∷ me)) me o)
      by None e each = tt
      by (Some p) e each =
          all_both Runs (itself me (if_running (Some p))) (flat_map (λ n. running_from levels f (n ∷ me)) (range_with_len 1 p.born))
          (one (if_running (Some p)) (ap if_running e)) (kids each (range_with_len 1 p.born))

  -- a process with its user
  abbrev pub named_user : Named → ProcName × Name
  named_user c = (c.0, c.1.user)

  first_runner : Runner → List Runner → Runner
  first_runner x [] = x
  first_runner x (y ∷ ys) = y

  rest_runners : List Runner → List Runner
  rest_runners [] = []
  rest_runners (y ∷ ys) = ys

  kept : (b : Bool) (a c : ProcName × Name) (ps cs : List (ProcName × Name)) → a ≡ c → ps ≡ cs
      → (let l : List (ProcName × Name) = if b then a ∷ ps else ps in l) ≡ (let l : List (ProcName × Name) = if b then c ∷ cs else cs in l)
  kept true a c ps cs e es = λ i. e i ∷ es i
  kept false a c ps cs e es = es

  mapped_member : (b : Bool) (m : Member) (ms : List Member) → map with_user (if b then m ∷ ms else ms)
      ≡ (if b then with_user m ∷ map with_user ms else map with_user ms)
  mapped_member true m ms = refl
  mapped_member false m ms = refl

  mapped_named : (b : Bool) (c : Named) (cs : List Named) → map named_user (if b then c ∷ cs else cs)
      ≡ (if b then named_user c ∷ map named_user cs else map named_user cs)
  mapped_named true c cs = refl
  mapped_named false c cs = refl

  -- the members are printed as the running processes
  pub runners_shown : (ms : List Member) (cs : List Named) → map runner_of ms ≡ map numbered cs
      → flat_map shown_runner ms ≡ flat_map running_mark cs
  unfolding first_runner rest_runners
  runners_shown [] [] same = refl
  runners_shown [] (c ∷ cs) same = absurd (cc)
  runners_shown (m ∷ ms) [] same = absurd (cc)
  runners_shown (m ∷ ms) (c ∷ cs) same =
      let one : runner_of m ≡ numbered c = ap (first_runner (runner_of m)) same in
      λ i. runner_mark (one i).name (one i).user ++ runners_shown ms cs (ap rest_runners same) i

  -- two tests that agree on each process pick the same processes
  pub picked : (test : Member → Bool) (of_flat : Named → Bool)
      → ((m : Member) (c : Named) → runner_of m ≡ numbered c → Runs c → test m ≡ of_flat c)
      → (ms : List Member) (cs : List Named) → map runner_of ms ≡ map numbered cs → AllOf Runs cs
      → map with_user (filter test ms) ≡ map named_user (filter of_flat cs)
  unfolding first_runner rest_runners
  picked test of_flat agree [] [] same all = refl
  picked test of_flat agree [] (c ∷ cs) same all = absurd (cc)
  picked test of_flat agree (m ∷ ms) [] same all = absurd (cc)
  picked test of_flat agree (m ∷ ms) (c ∷ cs) same all =
      let one : runner_of m ≡ numbered c = ap (first_runner (runner_of m)) same in
      let both : with_user m ≡ named_user c = λ i. ((one i).name, (one i).user) in
      mapped_member (test m) m (filter test ms)
      ∙ kept (test m) (with_user m) (named_user c) (map with_user (filter test ms)) (map named_user (filter of_flat cs)) both
      (picked test of_flat agree ms cs (ap rest_runners same) all.1)
      ∙ ap (λ b. if b then named_user c ∷ map named_user (filter of_flat cs) else map named_user (filter of_flat cs)) (agree m c one all.0)
      ∙ sym (mapped_named (of_flat c) c (filter of_flat cs))

  -- texts of members and of running processes, one after another, are the same if each two are
  pub texts_same : (text : Member → List ℕ) (of : Named → List ℕ) → ((m : Member) (c : Named) → runner_of m ≡ numbered c → Runs c
      → text m ≡ of c)
      → (ms : List Member) (cs : List Named) → map runner_of ms ≡ map numbered cs → AllOf Runs cs → flat_map text ms ≡ flat_map of cs
  unfolding first_runner rest_runners
  texts_same text of agree [] [] same all = refl
  texts_same text of agree [] (c ∷ cs) same all = absurd (cc)
  texts_same text of agree (m ∷ ms) [] same all = absurd (cc)
  texts_same text of agree (m ∷ ms) (c ∷ cs) same all =
      let one : runner_of m ≡ numbered c = ap (first_runner (runner_of m)) same in
      λ i. agree m c one all.0 i ++ texts_same text of agree ms cs (ap rest_runners same) all.1 i
