-- Names of processes are given once: a name that was given stays given, and all names that are there were given.
use Rattle.std.specs.Prelude.{◌≡◌, ◌≤◌, ◌+◌, ℕ, Bool, true, false, ◌||◌, ◌&&◌, not, cond, nat_le, List, [], ◌∷◌, ◌++◌, Option, Some, None, refl}
use Rattle.std.proofs.Common.{ap, ◌⊎◌, inl, inr, sym, ◌∙◌, arith}
use Rattle.std.proofs.lemmas.Bool.{true≢false, and_parts, leb-true, le-leb, or_cases, cases_Bool}
use Rattle.std.proofs.Math.Bool.{or-true}
use Rattle.histar_flat.specs.declared.calls.CallLine.{CallLine}
use Rattle.histar_flat.specs.declared.calls.UnixCall.{UnixCall}
use Rattle.histar_flat.specs.Words.{Path, ProcName}
use Rattle.histar_base.specs.Paths.{same}
use Rattle.histar_flat.specs.PathOrder.{under_path, under_process}
use Rattle.histar_flat.specs.Accounts.{Accounts, has}
use Rattle.histar_flat.specs.Files.{empty, get, insert}
use Rattle.histar_flat.specs.Classes.{Process, knows, carries}
use Rattle.histar_flat.specs.Classes.Class.{Readable, Scratch}
use Rattle.histar_flat.specs.FlatState.{Flat, Node, IsTree, class_of, with_node, with_process, without_process, moved, was_given, is_given}
use Rattle.histar_flat.specs.FlatState.Content.{Dir, File}
use Rattle.histar_flat.specs.FlatCalls.{next_child, inner_chain, flat_after}
use Rattle.histar_flat.specs.Meaning.{first_user, first_process, boot, flat_end}
use Rattle.histar_flat.specs.Laws.{NamesAreGiven, NamesAreGivenOnce}
use Rattle.histar_flat.proofs.FileLemmas.{same_name_found, same_path_found, same_itself, get_other, get_new, get-keep}
use Rattle.histar_flat.proofs.Choices.{chosen, left, kept}
use Rattle.histar_flat.proofs.Renaming.{get_renamed}
use Rattle.histar_flat.proofs.Changes.{EachChange, by_line, runs_is_there}
use Rattle.histar_flat.proofs.Trees.{nothing_below, tree_after, tree_at_start}

abbrev Processes : Type 0
Processes = ProcName → Option Process

-- all names that were given before were given
abbrev StillGiven : Processes → Processes → Type 0
StillGiven old new = (name : ProcName) → is_given old name ≡ true → is_given new name ≡ true

-- names stay given if each number that a given process has given stays given
still_given : (old new : Processes)
    → ((q : ProcName) (n : ℕ) → is_given old q ≡ true → was_given (old q) n ≡ true → was_given (new q) n ≡ true)
    → StillGiven old new
still_given old new each [] h = refl
still_given old new each (n ∷ q) h =
    let parts = and_parts (was_given (old q) n) (is_given old q) h in
    (λ i. each q n parts.1 parts.0 i && is_given new q) ∙ still_given old new each q parts.1

-- a process to which more children were born has given more names
more_given : (p q : Process) (n : ℕ) → p.born ≤ q.born → was_given (Some p) n ≡ true → was_given (Some q) n ≡ true
more_given p q n more h =
    let parts = and_parts (nat_le 1 n) (nat_le n p.born) h in
    let enough = leb-true n p.born parts.1 in
    (λ i. parts.0 i && nat_le n q.born) ∙ le-leb n q.born (omega arith)

-- a number stays given when the process that gave it is removed
gone_was_given : (b : Bool) (o : Option Process) (n : ℕ) → was_given o n ≡ true → was_given (cond b None o) n ≡ true
gone_was_given true o n h = refl
gone_was_given false o n h = h

given_without : (f : Flat) (name : ProcName) → StillGiven f.processes (without_process f name).processes
given_without f name =
    still_given f.processes (without_process f name).processes
    (λ q n g h. gone_was_given (under_process name q) (f.processes q) n h)

-- a number is not past itself
not_past : (n : ℕ) → nat_le (n + 1) n ≡ false
not_past n = elim (cases_Bool (nat_le (n + 1) n)) [
  | inl h ↦ let l = leb-true (n + 1) n h in absurd (omega arith)
  | inr h ↦ h
]

module _ (f : Flat) (me : ProcName) (p : Process) (here : f.processes me ≡ Some p) where
  -- The name of the next child was not given.
  pub next_is_new : is_given f.processes (next_child me p) ≡ false
  next_is_new =
      ap (λ o. was_given o (p.born + 1) && is_given f.processes me) here
      ∙ ap (λ b. (nat_le 1 (p.born + 1) && b) && is_given f.processes me) (not_past p.born)
      ∙ neither (nat_le 1 (p.born + 1)) (is_given f.processes me)
    where
      neither : (a b : Bool) → ((a && false) && b) ≡ false
      neither true b = refl
      neither false b = refl

  given_with : (q : Process) → p.born ≤ q.born → StillGiven f.processes (with_process f me q).processes
  given_with q more = still_given f.processes (with_process f me q).processes (λ name n g h. elim (same_name_found me name) [
    | inl t ↦
        ap (λ b. was_given (cond b (Some q) (f.processes name)) n) t.0
        ∙ more_given p q n more (ap (λ o. was_given o n) (sym here ∙ ap f.processes t.1) ∙ h)
    | inr t ↦ ap (λ b. was_given (cond b (Some q) (f.processes name)) n) t.0 ∙ h
  ])

  -- the state after a birth
  abbrev born_with : Process → Process → Flat
  born_with q child = with_process (with_process f me q) (next_child me p) child

  given_at_birth : (q child : Process) → p.born ≤ q.born → StillGiven f.processes (born_with q child).processes
  given_at_birth q child more = still_given f.processes (born_with q child).processes (λ name n g h. elim (same_name_found (next_child me p) name) [
    | inl t ↦ absurd (true≢false (sym g ∙ ap (is_given f.processes) (sym t.1) ∙ next_is_new))
    | inr t ↦
        ap (λ b. was_given (cond b (Some child) (cond (same me name) (Some q) (f.processes name))) n) t.0 ∙ elim (same_name_found me name) [
          | inl u ↦
              ap (λ b. was_given (cond b (Some q) (f.processes name)) n) u.0
              ∙ more_given p q n more (ap (λ o. was_given o n) (sym here ∙ ap f.processes u.1) ∙ h)
          | inr u ↦ ap (λ b. was_given (cond b (Some q) (f.processes name)) n) u.0 ∙ h
        ]
  ])

  still_changes : (accounts : Accounts) (call : UnixCall) → EachChange accounts f me p call (λ g. StillGiven f.processes g.processes)
  still_changes accounts call = record {
    stays = λ name h. h;
    makes = λ n d x walked free w own mode made_is name h. h;
    overwrites = λ n d bytes file w name h. h;
    cuts = λ n d takes w name h. h;
    renames = λ n k d takes apart free w name h. h;
    spawns =
        λ is. given_at_birth (record p { born = p.born + 1 })
        (record { user = p.user; chain = p.chain; held = []; exited = None; born = 0 }) (omega arith);
    exits = λ n is. given_with (record p { exited = Some n }) (omega arith);
    logs_in = λ name is known free. given_with (record p { user = name; held = [] }) (omega arith);
    kills = λ n. given_without f (n ∷ me);
    wraps = λ n d is walked free w named.
        given_at_birth (record p { held = p.held ++ next_child me p ∷ []; born = p.born + 1 })
        (record { user = p.user; chain = inner_chain me p; held = []; exited = None; born = 0 }) (omega arith);
  }

-- A name that was given stays given.
pub given_stays : (accounts : Accounts) (f : Flat) (me : ProcName) (call : UnixCall)
    → StillGiven f.processes (flat_after accounts f me call).processes
given_stays accounts f me call =
    by_line accounts f me call (λ g. StillGiven f.processes g.processes) (λ name h. h)
    (λ p runs. still_changes f me p (runs_is_there (f.processes me) p runs) accounts call)

-- a process with one job more has the last one, or one of the others
pub longer_has : (jobs : List ProcName) (last job : ProcName) → has (jobs ++ last ∷ []) job ≡ true → (has jobs job ≡ true) ⊎ (job ≡ last)
longer_has [] last job h = elim (same_name_found job last) [
  | inl t ↦ inr t.1
  | inr t ↦ absurd (true≢false (sym h ∙ ap (λ b. b || false) t.0))
]
longer_has (first ∷ jobs) last job h = elim (cases_Bool (same job first)) [
  | inl t ↦ inl (ap (λ b. b || has jobs job) t)
  | inr t ↦ elim (longer_has jobs last job (sym (ap (λ b. b || has (jobs ++ last ∷ []) job) t) ∙ h)) [
    | inl u ↦ inl (ap (λ b. same job first || b) u ∙ or-true (same job first))
    | inr u ↦ inr u
  ]
]

module _ (f : Flat) (given : NamesAreGiven f) where
  -- names stay given when a file or directory is made or written
  pub given_put : (q : Path) (x : Node)
      → ((job : ProcName) → carries job x.class ≡ true → is_given f.processes job ≡ true)
      → NamesAreGiven (with_node f q x.class x.content)
  given_put q x own = record {
    of_processes = given.of_processes;
    of_known_jobs = given.of_known_jobs;
    of_carried_jobs = λ r y job e c. elim (same_path_found r q) [
      | inl t ↦
          let found : Some x ≡ Some y = sym (get_new f.files q x) ∙ ap (get (insert f.files q x)) (sym t.1) ∙ e in
          let one : x ≡ y = cc in
          own job (ap (λ v. carries job v.class) one ∙ c)
      | inr t ↦ given.of_carried_jobs r y job (sym (get_other f.files q x r t.1) ∙ e) c
    ];
  }

  -- names stay given when each process is as it was, or names only what is given
  given_processes : (new : Processes) → StillGiven f.processes new
      → ((q : ProcName) (y : Process) → new q ≡ Some y
      → (f.processes q ≡ Some y)
      ⊎ ((is_given new q ≡ true) × ((job : ProcName) → knows y job ≡ true → is_given new job ≡ true)))
      → NamesAreGiven (record f { processes = new })
  given_processes new still each = record {
    of_processes = λ q y e. elim (each q y e) [
      | inl i ↦ still q (given.of_processes q y i)
      | inr i ↦ i.0
    ];
    of_known_jobs = λ q y job e k. elim (each q y e) [
      | inl i ↦ still job (given.of_known_jobs q y job i k)
      | inr i ↦ i.1 job k
    ];
    of_carried_jobs = λ q n job e c. still job (given.of_carried_jobs q n job e c);
  }

module _ (f : Flat) (given : NamesAreGiven f) (tree : IsTree f) (me : ProcName) (p : Process) (here : f.processes me ≡ Some p) where
  -- a process knows no job but those of p and the new child
  abbrev KnowsNoMore : Process → Type 0
  KnowsNoMore y = (job : ProcName) → knows y job ≡ true → (knows p job ≡ true) ⊎ (job ≡ next_child me p)

  given_birth : (q child : Process) → q.born ≡ p.born + 1 → KnowsNoMore q → KnowsNoMore child → NamesAreGiven (born_with f me p here q child)
  given_birth q child more known known_to_child = given_processes f given new still (λ name y e. elim (same_name_found (next_child me p) name) [
    | inl t ↦ inr (
      ap (is_given new) (sym t.1) ∙ next_given,
      λ job k. named job (known_to_child job
          (ap (λ v. knows v job) (chosen (same (next_child me p) name) child y (cond (same me name) (Some q) (f.processes name))
          t.0 e) ∙ k)),
    )
    | inr t ↦
        let rest : cond (same me name) (Some q) (f.processes name) ≡ Some y =
        sym (ap (λ b. cond b (Some child) (cond (same me name) (Some q) (f.processes name))) t.0) ∙ e in
        elim (same_name_found me name) [
          | inl u ↦ inr (
            ap (is_given new) (sym u.1) ∙ still me (given.of_processes me p here),
            λ job k. named job (known job (ap (λ v. knows v job) (chosen (same me name) q y (f.processes name) u.0 rest) ∙ k)),
          )
          | inr u ↦ inl (sym (ap (λ b. cond b (Some q) (f.processes name)) u.0) ∙ rest)
        ]
  ])
    where
      new : Processes
      new = (born_with f me p here q child).processes

      still : StillGiven f.processes (born_with f me p here q child).processes
      still = given_at_birth f me p here q child (omega (arith, more))

      me_now : (born_with f me p here q child).processes me ≡ Some q
      me_now = elim (same_name_found (next_child me p) me) [
        | inl t ↦ absurd (true≢false (sym (given.of_processes me p here) ∙ ap (is_given f.processes) (sym t.1) ∙ next_is_new f me p here))
        | inr t ↦
            ap (λ b. cond b (Some child) (cond (same me me) (Some q) (f.processes me))) t.0
            ∙ ap (λ b. cond b (Some q) (f.processes me)) (same_itself me)
      ]

      next_given : is_given (born_with f me p here q child).processes (next_child me p) ≡ true
      next_given =
          ap (λ o. was_given o (p.born + 1) && is_given (born_with f me p here q child).processes me) me_now
          ∙ (λ i. (le-leb 1 (p.born + 1) (omega arith) i && le-leb (p.born + 1) q.born (omega (arith, more)) i)
          && is_given (born_with f me p here q child).processes me)
          ∙ still me (given.of_processes me p here)

      named : (job : ProcName) → (knows p job ≡ true) ⊎ (job ≡ next_child me p) → is_given (born_with f me p here q child).processes job ≡ true
      named job (inl k) = still job (given.of_known_jobs me p job here k)
      named job (inr e) = ap (is_given (born_with f me p here q child).processes) e ∙ next_given

  -- names stay given when a process is replaced by one that knows no more
  given_instead : (q : Process) → p.born ≤ q.born → ((job : ProcName) → knows q job ≡ true → knows p job ≡ true) → NamesAreGiven (with_process f me q)
  given_instead q more known = given_processes f given (with_process f me q).processes still (λ name y e. elim (same_name_found me name) [
    | inl t ↦ inr (
      ap (is_given (with_process f me q).processes) (sym t.1) ∙ still me (given.of_processes me p here),
      λ job k. still job (given.of_known_jobs me p job here
          (known job (ap (λ v. knows v job) (chosen (same me name) q y (f.processes name) t.0 e) ∙ k))),
    )
    | inr t ↦ inl (sym (ap (λ b. cond b (Some q) (f.processes name)) t.0) ∙ e)
  ])
    where
      still : StillGiven f.processes (with_process f me q).processes
      still = given_with f me p here q more

  in_chain : (jobs : List ProcName) (job : ProcName) → (has jobs job || false) ≡ true → has jobs job ≡ true
  in_chain jobs job k = elim (or_cases (has jobs job) false k) [ inl i ↦ i | inr i ↦ absurd (true≢false (sym i)) ]

  known_in_chain : (job : ProcName) → has p.chain job ≡ true → knows p job ≡ true
  known_in_chain job h = ap (λ b. b || has p.held job) h

  -- Each change leaves names that were given.
  given_changes : (accounts : Accounts) (call : UnixCall) → EachChange accounts f me p call NamesAreGiven
  given_changes accounts call = record {
    stays = given;
    makes =
        λ n d x walked free w own mode made_is.
        given_put f given (n ∷ d) x (λ job c. given.of_known_jobs me p job here (known_in_chain job (own job c)));
    overwrites = λ n d bytes file w.
        given_put f given (n ∷ d) (record { class = class_of (get f.files (n ∷ d)); content = File bytes })
        (λ job c. old_class (n ∷ d) job (get f.files (n ∷ d)) refl c);
    cuts = λ n d takes w. record {
      of_processes = given.of_processes;
      of_known_jobs = given.of_known_jobs;
      of_carried_jobs =
          λ q y job e c. given.of_carried_jobs q y job (kept (not (under_path (n ∷ d) q)) (get f.files q) y
          (sym (get-keep f.files (λ t. not (under_path (n ∷ d) t)) q) ∙ e)) c;
    };
    renames = λ n k d takes apart free w. record {
      of_processes = given.of_processes;
      of_known_jobs = given.of_known_jobs;
      of_carried_jobs = λ q y job e c.
          let from : Path = moved (k ∷ d) (n ∷ d) q in
          given.of_carried_jobs from y job (left (under_path (n ∷ d) q) (get f.files from) y
          (sym (get_renamed n k d apart f.files (nothing_below f tree (k ∷ d) free) q) ∙ e)) c;
    };
    spawns =
        λ is. given_birth (record p { born = p.born + 1 })
        (record { user = p.user; chain = p.chain; held = []; exited = None; born = 0 }) refl (λ job k. inl k)
        (λ job k. inl (known_in_chain job (in_chain p.chain job k)));
    exits = λ n is. given_instead (record p { exited = Some n }) (omega arith) (λ job k. k);
    logs_in =
        λ name is known free. given_instead (record p { user = name; held = [] }) (omega arith)
        (λ job k. known_in_chain job (in_chain p.chain job k));
    kills =
        λ n. given_processes f given (without_process f (n ∷ me)).processes (given_without f (n ∷ me))
        (λ q y e. inl (left (under_process (n ∷ me) q) (f.processes q) y e));
    wraps = λ n d is walked free w named.
        let q : Process = record p { held = p.held ++ next_child me p ∷ []; born = p.born + 1 } in
        let child : Process = record { user = p.user; chain = inner_chain me p; held = []; exited = None; born = 0 } in
        let born : NamesAreGiven (born_with f me p here q child) = given_birth q child refl holds_more is_in_more in
        given_put (born_with f me p here q child) born (n ∷ d) (record { class = Scratch p.user (inner_chain me p); content = Dir })
        (λ job c. born.of_known_jobs (next_child me p) child job (ap (λ b.
        cond b (Some child) (cond (same me (next_child me p)) (Some q) (f.processes (next_child me p))))
        (same_itself (next_child me p))) (ap (λ b. b || false) c));
  }
    where
      old_class : (q : Path) (job : ProcName) (o : Option Node) → get f.files q ≡ o → carries job (class_of o) ≡ true
          → is_given f.processes job ≡ true
      old_class q job None at c = absurd (true≢false (sym c))
      old_class q job (Some x) at c = given.of_carried_jobs q x job at c

      holds_more : (job : ProcName) → (has p.chain job || has (p.held ++ next_child me p ∷ []) job) ≡ true
          → (knows p job ≡ true) ⊎ (job ≡ next_child me p)
      holds_more job k = elim (or_cases (has p.chain job) (has (p.held ++ next_child me p ∷ []) job) k) [
        | inl i ↦ inl (known_in_chain job i)
        | inr i ↦ elim (longer_has p.held (next_child me p) job i) [
          | inl v ↦ inl (ap (λ b. has p.chain job || b) v ∙ or-true (has p.chain job))
          | inr v ↦ inr v
        ]
      ]

      is_in_more : (job : ProcName) → (has (p.chain ++ next_child me p ∷ []) job || false) ≡ true → (knows p job ≡ true) ⊎ (job ≡ next_child me p)
      is_in_more job k = elim (longer_has p.chain (next_child me p) job (in_chain (p.chain ++ next_child me p ∷ []) job k)) [
        | inl v ↦ inl (known_in_chain job v)
        | inr v ↦ inr v
      ]

-- each line leaves names that were given
pub given_after : (accounts : Accounts) (f : Flat) (me : ProcName) (call : UnixCall) → IsTree f → NamesAreGiven f
    → NamesAreGiven (flat_after accounts f me call)
given_after accounts f me call tree given =
    by_line accounts f me call NamesAreGiven given
    (λ p runs. given_changes f given tree me p (runs_is_there (f.processes me) p runs) accounts call)

-- all lines leave names that were given
given_at_end : (accounts : Accounts) (f : Flat) → IsTree f → NamesAreGiven f → (calls : List CallLine) → NamesAreGiven (flat_end accounts f calls)
given_at_end accounts f tree given [] = given
given_at_end accounts f tree given (c ∷ calls) =
    given_at_end accounts (flat_after accounts f c.process c.call) (tree_after f tree accounts c.process c.call)
    (given_after accounts f c.process c.call tree given) calls

-- at the start process 0 is alone, in no job
given_at_start : (accounts : Accounts) → NamesAreGiven (boot accounts)
given_at_start accounts = record {
  of_processes = first;
  of_known_jobs = λ q p job e k. knows_none q p job e k;
  of_carried_jobs = λ q n job e c. carries_none q n job e c;
}
  where
    first : (q : ProcName) (p : Process) → (boot accounts).processes q ≡ Some p → is_given (boot accounts).processes q ≡ true
    first [] p e = refl
    first (n ∷ q) p e = let gone : None ≡ Some p = e in absurd (cc)

    knows_none : (q : ProcName) (p : Process) (job : ProcName) → (boot accounts).processes q ≡ Some p
        → knows p job ≡ true → is_given (boot accounts).processes job ≡ true
    knows_none [] p job e k =
        let found : Some first_process ≡ Some p = e in
        let one : first_process ≡ p = cc in
        absurd (true≢false (sym k ∙ ap (λ x. knows x job) (sym one)))
    knows_none (n ∷ q) p job e k = let gone : None ≡ Some p = e in absurd (cc)

    slash : Node
    slash = record { class = Readable (first_user accounts.users); content = Dir }

    carries_none : (q : Path) (n : Node) (job : ProcName) → get (boot accounts).files q ≡ Some n
        → carries job n.class ≡ true → is_given (boot accounts).processes job ≡ true
    carries_none [] n job e c =
        let found : Some (record { class = Readable (first_user accounts.users); content = Dir }) ≡ Some n = e in
        let one : record { class = Readable (first_user accounts.users); content = Dir } ≡ n = cc in
        absurd (true≢false (sym c ∙ ap (λ (x : Node). carries job x.class) (sym one)))
    carries_none (m ∷ d) n job e c =
        let gone : None ≡ Some n = sym (get_other empty [] slash (m ∷ d) (λ h. cc)) ∙ e in absurd (cc)

-- Names are given once.
pub names_are_given_once : NamesAreGivenOnce
names_are_given_once = record {
  old = λ accounts calls. given_at_end accounts (boot accounts) (tree_at_start accounts) (given_at_start accounts) calls;
  new = next_is_new;
  stay = given_stays;
}
