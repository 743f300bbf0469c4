-- The lines of the confined processes that are found are those of the flat state, each with the job that binds it.
use Rattle.std.specs.Prelude.{◌≡◌, ℕ, zero, suc, Bool, true, false, not, ◌&&◌, List}
use Rattle.std.specs.Prelude.{[], ◌∷◌, ◌++◌, codes, length, map, take, Option, None, Some}
use Rattle.std.specs.Prelude.{if◌then◌else◌, refl}
use Rattle.std.specs.List.{flat_map, range_with_len}
use Rattle.std.specs.Option.{option_or}
use Rattle.std.proofs.Common.{ap, append-nil, append_assoc, arith, sym, ◌∙◌}
use Rattle.std.proofs.lemmas.Bool.{true≢false}
use Rattle.std.proofs.lemmas.Grind.{flat_map-append}
use Rattle.std.proofs.lemmas.List.{length-append, take_all, take_at}
use Rattle.histar_flat.specs.Words.{Name, Path, ProcName}
use Rattle.histar_flat.specs.Accounts.{Accounts, Group}
use Rattle.histar_flat.specs.Classes.{Class, Process}
use Rattle.histar_flat.specs.FlatState.{Flat, is_some_and}
use Rattle.histar_flat.specs.FlatCalls.{if_running, running}
use Rattle.histar_refinement.specs.Categories.{Categories}
use Rattle.histar_refinement.specs.NumberedClasses.{job_numbers}
use Rattle.histar_rights.specs.Running.{Named, and_children, itself, running_from}
use Rattle.histar_readout.specs.declared.process.ProcessNode.{ProcessNode}
use Rattle.histar_readout.specs.ProcessLines.{ProcessLine, flat_life, flat_process_line, flat_processes, process_line, with_children}
use Rattle.histar_secrecy.specs.declared.role.Role.{Role}
use Rattle.histar_secrecy.specs.declared.role.Role.TheVariants.{Confined, Outside, Trusted}
use Rattle.histar_secrecy.specs.Noninterference.{IsReached}
use Rattle.histar_secrecy.specs.Roles.{holding_none, is_bound, is_confined}
use Rattle.histar_secrecy.specs.Ways.{reads_all, way_to}
use Rattle.histar_secrecy.specs.ShownRoles.{AreNumbered, classes_on, is_same_role, of_groups, role_of, with_rights}
use Rattle.histar_secrecy.proofs.Learning.{roles_are_shown}
use Rattle.histar_secrecy.proofs.NumberedJobs.{free_by_number, in_two_steps, named}
use Rattle.histar_secrecy.proofs.Readers.{bound_parts, reads_all_holding}
use Rattle.histar_secrecy.proofs.ShownProcesses.{each_is}
use Rattle.histar_trust.specs.declared.ancestors.Ancestor.{Ancestor}
use Rattle.histar_trust.specs.Findings.{Lineage, is_confined_runner, living, named_jobs, next_lineage, running_node, shown_confined}
use Rattle.histar_trust.specs.Findings.{shown_confined_if}
use Rattle.histar_trust.specs.Findings.{shown_job, shown_runner_confined}
use Rattle.histar_trust.specs.Reasons.{binds, by_job, first_from_root, if_asked}
use Rattle.histar_trust.specs.TrustText.{job_reason, process_entry, reasoned_line}
use Rattle.histar_trust.proofs.Places.{number_of}
use Rattle.histar_trust.proofs.Runners.{numbered, running_line}

-- ---- lists

take_less : {A : Type 0} (n : ℕ) (xs : List A) → take n (take (suc n) xs) ≡ take n xs
take_less zero xs = refl
take_less (suc n) [] = refl
take_less (suc n) (x ∷ xs) = ap (λ ys. x ∷ ys) (take_less n xs)

either : {A : Type 0} (b : Bool) (x : A) (o r : Option A)
    → (let c : Option A = if b then Some x else option_or o r in c) ≡ option_or (let c : Option A = if b then Some x else o in c) r
either true x o r = refl
either false x o r = refl

-- the first of two lists of processes that binds is that of the first list, or else of the second one
job_in_both : (groups : List Group) (way : List Class) (user : Name) (xs ys : Lineage)
    → shown_job groups way user (xs ++ ys) ≡ option_or (shown_job groups way user xs) (shown_job groups way user ys)
job_in_both groups way user [] ys = refl
job_in_both groups way user (x ∷ xs) ys =
    let b : Bool = is_bound (of_groups groups) way (with_rights user x.1 []) in
    ap (λ (o : Option ProcName). let c : Option ProcName = if b then Some x.0 else o in c) (job_in_both groups way user xs ys)
    ∙ either b x.0 (shown_job groups way user xs) (shown_job groups way user ys)

-- the first process that binds is the first one if that one does, or else it is among the others
pub first_binds : (groups : List Group) (way : List Class) (user : Name) {all : List Ancestor} {a : Ancestor} {rest : List Ancestor} → all ≡ a
    ∷ rest
    → is_bound (of_groups groups) way (with_rights user a.jobs.items []) ≡ true → Some a.name ≡ shown_job groups way user (map named_jobs all)
first_binds groups way user {all} {a} {rest} parts bound = sym (ap (λ (l : List Ancestor). shown_job groups way user (map named_jobs l)) parts
    ∙ ap (λ b. let c : Option ProcName = if b then Some a.name else shown_job groups way user (map named_jobs rest) in c) bound)

pub first_binds_not : (groups : List Group) (way : List Class) (user : Name) {all : List Ancestor} {a : Ancestor} {rest : List Ancestor}
    → all ≡ a ∷ rest → is_bound (of_groups groups) way (with_rights user a.jobs.items []) ≡ false
    → shown_job groups way user (map named_jobs rest) ≡ shown_job groups way user (map named_jobs all)
first_binds_not groups way user {all} {a} {rest} parts bound = sym (ap (λ (l : List Ancestor). shown_job groups way user (map named_jobs l)) parts
    ∙ ap (λ b. let c : Option ProcName = if b then Some a.name else shown_job groups way user (map named_jobs rest) in c) bound)

-- ---- the processes that are shown

-- a shown process is the next one
abbrev pub next : Lineage → ProcessLine → Lineage
next before l = take (length l.name) before ++ (l.name, l.chain) ∷ []

-- after these processes
abbrev pub after : Lineage → List ProcessLine → Lineage
after before [] = before
after before (l ∷ ls) = after (next before l) ls

after_both : (b : Lineage) (xs ys : List ProcessLine) → after b (xs ++ ys) ≡ after (after b xs) ys
after_both b [] ys = refl
after_both b (x ∷ xs) ys = after_both (next b x) xs ys

module _ (users : Accounts) (why : Bool) (way : List Class) where
  abbrev pub lines : Lineage → List ProcessLine → List ℕ
  lines before [] = []
  lines before (l ∷ ls) = shown_confined_if users why way (next before l) (running_line l) ++ lines (next before l) ls

  lines_both : (b : Lineage) (xs ys : List ProcessLine) → lines b (xs ++ ys) ≡ lines b xs ++ lines (after b xs) ys
  lines_both b [] ys = refl
  lines_both b (x ∷ xs) ys =
      ap (λ (t : List ℕ). shown_confined_if users why way (next b x) (running_line x) ++ t) (lines_both (next b x) xs ys)
      ∙ sym (append_assoc (shown_confined_if users why way (next b x) (running_line x)) (lines (next b x) xs) (lines (after (next b x) xs) ys))

  pub shown_by_lines : (b : Lineage) (nodes : List ProcessNode) → shown_confined users why way b nodes ≡ lines b (map process_line nodes)
  shown_by_lines b [] = refl
  shown_by_lines b (node ∷ nodes) =
      ap (λ (t : List ℕ). shown_confined_if users why way (next_lineage b node) (running_node node) ++ t) (shown_by_lines
      (next_lineage b node) nodes)

-- ---- the processes of the flat state

module _ (f : Flat) (category : Categories) where
  -- the process, if it is there, with the jobs that it is in
  abbrev step : Option Process → ProcName → Lineage
  step None x = []
  step (Some p) x = (x, job_numbers category p.chain) ∷ []

  -- the processes above one, and itself
  abbrev lineage_of : ProcName → Lineage
  lineage_of [] = step (f.processes []) []
  lineage_of (n ∷ d) = lineage_of d ++ step (f.processes (n ∷ d)) (n ∷ d)

  -- the processes above one
  abbrev above : ProcName → Lineage
  above [] = []
  above (n ∷ d) = lineage_of d

  lineage_is : (me : ProcName) (p : Process) → f.processes me ≡ Some p → lineage_of me ≡ above me ++ (me, job_numbers category p.chain) ∷ []
  lineage_is [] p e = ap (λ o. step o []) e
  lineage_is (n ∷ d) p e = ap (λ o. lineage_of d ++ step o (n ∷ d)) e

  module _ (number_one : AreNumbered (number_of category)) (accounts : Accounts) (reached : IsReached accounts f) (path : Path) (why : Bool) where
    abbrev number : ProcName → ℕ
    number = number_of category

    abbrev way : List Class
    way = way_to f path

    abbrev shown_way : List Class
    shown_way = classes_on number f path

    abbrev in_these : Process → List ProcName → Process
    in_these p chain = record p { chain = chain }

    -- a process of the user is bound in jobs exactly if it is in these by their numbers
    bound_same : (p : Process) (chain : List ProcName)
        → is_bound (of_groups accounts.groups) shown_way (with_rights p.user (job_numbers category chain) [])
        ≡ is_bound accounts way (in_these p chain)
    bound_same p chain =
        let q : Process = holding_none (in_these p chain) in
        let rights : with_rights p.user (job_numbers category chain) [] ≡ named number number_one q =
        λ i. record { user = p.user; chain = in_two_steps number chain i; held = []; exited = None; born = 0 } in
        ap (is_bound (of_groups accounts.groups) shown_way) rights
        ∙ (λ i. not (free_by_number number number_one q i) && each_is number number_one accounts f q path i)

    -- the job that is found is the one that binds
    step_binds : (p : Process) (x : ProcName) (o : Option Process) → shown_job accounts.groups shown_way p.user (step o x)
        ≡ (let c : Option ProcName = if is_some_and o (λ q. is_bound accounts way (in_these p q.chain)) then Some x else None in c)
    step_binds p x None = refl
    step_binds p x (Some q) = ap (λ b. let c : Option ProcName = if b then Some x else None in c) (bound_same p q.chain)

    job_same : (p : Process) (x : ProcName) → shown_job accounts.groups shown_way p.user (lineage_of x)
        ≡ first_from_root (binds accounts f way p) x
    job_same p [] = step_binds p [] (f.processes [])
    job_same p (n ∷ d) =
        job_in_both accounts.groups shown_way p.user (lineage_of d) (step (f.processes (n ∷ d)) (n ∷ d))
        ∙ (λ i. option_or (job_same p d i) (step_binds p (n ∷ d) (f.processes (n ∷ d)) i))

    -- a process is shown as confined exactly if it is
    role_is_confined : (reads bound : Bool) → (bound ≡ true → reads ≡ true)
        → is_same_role Confined (let r : Role = if reads then (if bound then Confined else Trusted) else Outside in r) ≡ bound
    role_is_confined true true h = refl
    role_is_confined true false h = refl
    role_is_confined false true h = absurd (true≢false (sym (h refl)))
    role_is_confined false false h = refl

    confined_same : (me : ProcName) (p : Process) → running f me ≡ Some p
        → is_confined_runner accounts.groups shown_way (numbered f category (me, p)) ≡ is_confined accounts way f me
    confined_same me p runs =
        let rights : with_rights p.user (job_numbers category p.chain) (job_numbers category p.held) ≡ named number number_one p =
        λ i. record { user = p.user; chain = in_two_steps number p.chain i; held = in_two_steps number p.held i; exited = None; born = 0 } in
        ap (λ (q : Process). is_same_role Confined (role_of accounts.groups shown_way q)) rights
        ∙ (λ i. is_same_role Confined (let r : Role = if each_is number number_one accounts f p path i
        then (if not (free_by_number number number_one p i) && each_is number number_one accounts f (holding_none p) path i
        then Confined else Trusted) else Outside in r))
        ∙ role_is_confined (reads_all accounts way p) (is_bound accounts way p)
        (λ b. reads_all_holding accounts p way (bound_parts accounts way p b).1)
        ∙ sym (roles_are_shown accounts f reached path me p runs).confined

    -- the line of a running process
    abbrev of_flat : Named → List ℕ
    of_flat = reasoned_line (codes "confined") (is_confined accounts way f) (job_reason accounts f why way)

    one_line : (me : ProcName) (p : Process) → running f me ≡ Some p
        → shown_runner_confined accounts why shown_way (lineage_of me) (numbered f category (me, p)) ≡ of_flat (me, p)
    one_line me p runs =
        λ i. if confined_same me p runs i
        then process_entry (codes "confined") (me, p.user) ++ if_asked why (by_job (job_same p me i)) ++ codes "\n" else []

    first_line : (me : ProcName) (p : Process) (b : Lineage) → b ≡ lineage_of me → (x : Option ℕ) → p.exited ≡ x → f.processes me
        ≡ Some p
        → shown_confined_if accounts why shown_way b (living me (job_numbers category p.chain) (flat_life category p x))
        ≡ flat_map of_flat (itself me (let o : Option Process = elim x [ None ↦ Some p | Some n ↦ None ] in o))
    first_line me p b e None life at =
        ap (λ l. shown_runner_confined accounts why shown_way l (numbered f category (me, p))) e
        ∙ one_line me p (ap if_running at
        ∙ ap (λ (x : Option ℕ). let o : Option Process = elim x [ None ↦ Some p | Some n ↦ None ] in o) life)
        ∙ sym (append-nil (of_flat (me, p)))
    first_line me p b e (Some n) life at = refl

    -- what is shown of processes is what is meant, and the lineage goes on behind them from above them
    pub record IsShown (depth : ℕ) (up : Lineage) (b : Lineage) (shown : List ProcessLine) (meant : List Named) : Type 0 where
      pub text : lines accounts why shown_way b shown ≡ flat_map of_flat meant
      pub goes_on : take depth (after b shown) ≡ up

    abbrev Descends : ℕ → Type 0
    Descends levels = (me : ProcName) (b : Lineage) → take (length me) b ≡ above me → length (above me) ≡ length me
        → IsShown (length me) (above me) b (flat_processes category levels f me) (running_from levels f me)

    children : (levels : ℕ) → Descends levels → (me : ProcName) → length (lineage_of me) ≡ suc (length me) → (ns : List ℕ) (b : Lineage)
        → take (suc (length me)) b ≡ lineage_of me
        → IsShown (suc (length me)) (lineage_of me) b (flat_map (λ n. flat_processes category levels f (n ∷ me)) ns)
        (flat_map (λ n. running_from levels f (n ∷ me)) ns)
    children levels each me long [] b up = record { text = refl; goes_on = up }
    children levels each me long (n ∷ ns) b up =
        let one_shown = flat_processes category levels f (n ∷ me) in
        let rest_shown = flat_map (λ k. flat_processes category levels f (k ∷ me)) ns in
        let rest_meant = flat_map (λ k. running_from levels f (k ∷ me)) ns in
        let one = each (n ∷ me) b up long in
        let rest = children levels each me long ns (after b one_shown) one.goes_on in
        record {
          text = lines_both accounts why shown_way b one_shown rest_shown ∙ (λ i. one.text i ++ rest.text i)
              ∙ sym (flat_map-append of_flat (running_from levels f (n ∷ me)) rest_meant);
          goes_on = ap (take (suc (length me))) (after_both b one_shown rest_shown) ∙ rest.goes_on;
        }

    pub descends : (levels : ℕ) → Descends levels
    descends zero me b up long = record { text = refl; goes_on = up }
    descends (suc levels) me b up long = by (f.processes me) refl (descends levels)
      where
        by : (o : Option Process) → f.processes me ≡ o → Descends levels
            → IsShown (length me) (above me) b (with_children category (λ n. flat_processes category levels f (n ∷ me)) me o)
            (and_children (λ n. running_from levels f (n ∷ me)) me o)
        by None e each = record { text = refl; goes_on = up }
        by (Some p) e each =
            let own : ProcName × List ℕ = (me, job_numbers category p.chain) in
            let here : next b (flat_process_line category me p) ≡ lineage_of me = ap (λ l. l ++ own ∷ []) up ∙ sym (lineage_is me p e) in
            let long_here : length (lineage_of me) ≡ suc (length me) =
            ap length (lineage_is me p e) ∙ length-append (above me) (own ∷ []) ∙ omega (arith, long) in
            let kids = children levels each me long_here (range_with_len 1 p.born) (next b (flat_process_line category me p))
            (ap (take (suc (length me))) here ∙ take_all (suc (length me)) (lineage_of me) (omega (arith, long_here))) in
            let shown = flat_map (λ n. flat_processes category levels f (n ∷ me)) (range_with_len 1 p.born) in
            let meant = flat_map (λ n. running_from levels f (n ∷ me)) (range_with_len 1 p.born) in
            record {
              text = (λ i. first_line me p (next b (flat_process_line category me p)) here p.exited refl e i ++ kids.text i)
                  ∙ sym (flat_map-append of_flat (itself me (if_running (Some p))) meant);
              goes_on = sym (take_less (length me) (after (next b (flat_process_line category me p)) shown))
                  ∙ ap (take (length me)) (kids.goes_on ∙ lineage_is me p e) ∙ take_at (above me) (own ∷ []) (length me) long;
            }
