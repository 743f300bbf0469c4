-- Listed behind a process are exactly those that can learn what it does.
use Rattle.std.specs.Prelude.{◌≡◌, suc, Bool, true, false, cond, not, ◌&&◌, ◌||◌, List, [], ◌∷◌, filter, is_some, Option, None, Some, refl}
use Rattle.std.specs.Prelude.{if◌then◌else◌}
use Rattle.std.specs.List.{list_all, list_any}
use Rattle.std.specs.Cmp.{Equal-is}
use Rattle.std.specs.Ordering.{eq_by_cmp}
use Rattle.std.specs.declared.cmp.Ordering.TheVariants.{Equal}
use Rattle.std.specs.FinMap.{find, nat_cmp-IsAntisymmetric, slice_cmp-IsAntisymmetric}
use Rattle.std.proofs.Common.{ap, sym, ◌∙◌, subst, inl, inr}
use Rattle.std.proofs.lemmas.Bool.{and_parts, true≢false}
use Rattle.std.proofs.lemmas.Option.{none-some, same_Some}
use Rattle.histar_base.specs.Paths.{from_root, same}
use Rattle.histar_base.proofs.PathLaws.{from_root_twice}
use Rattle.histar_flat.specs.declared.calls.UnixCall.TheVariants.{Exit, Status}
use Rattle.histar_flat.specs.declared.replies.Reply.TheVariants.{Exited}
use Rattle.histar_flat.specs.Words.{ProcName, most_numbers}
use Rattle.histar_flat.specs.PathOrder.{under_process}
use Rattle.histar_flat.specs.Accounts.{Accounts, has}
use Rattle.histar_flat.specs.Classes.{Process}
use Rattle.histar_flat.specs.FlatState.{Flat, is_some_and}
use Rattle.histar_flat.specs.FlatCalls.{flat_after, reply_to, running}
use Rattle.histar_flat.specs.Meaning.{RepliedCall, answered_from}
use Rattle.histar_flat.proofs.FileLemmas.{same_itself, same_name_found}
use Rattle.histar_refinement.specs.Categories.{Categories}
use Rattle.histar_rights.specs.Running.{AreRunning, Named, process_cmp, running_in}
use Rattle.histar_rights.proofs.Listed.{running_are_listed}
use Rattle.histar_secrecy.specs.Flows.{knows_by_name, others_than}
use Rattle.histar_secrecy.specs.Noninterference.{IsReached}
use Rattle.histar_secrecy.specs.Release.{DifferAt}
use Rattle.histar_secrecy.proofs.Flowing.{only_knowers_are_told}
use Rattle.histar_secrecy.proofs.Knowers.{knowers_can_be_told, knowers_see}
use Rattle.histar_trust.specs.FlowsText.{is_listed, is_observer}
use Rattle.histar_trust.specs.FlowLaws.{ListedAreKnowers, ListedCanObserve, OnlyListedObserve, may_learn_of}
use Rattle.histar_trust.proofs.Pieces.{from_not}
use Rattle.histar_trust.proofs.Runners.{AllOf, Runs, each_runs}

-- which processes run depends on no numbers of categories
no_numbers : Categories
no_numbers category = 0

exact : (a b : ProcName) → process_cmp a b ≡ Equal → a ≡ b
exact a b e =
    sym (from_root_twice a) ∙ ap from_root (slice_cmp-IsAntisymmetric nat_cmp-IsAntisymmetric (from_root a) (from_root b) e) ∙ from_root_twice b

or_true : (b : Bool) → (b || true) ≡ true
or_true true = refl
or_true false = refl

-- what is found is in the list
found_listed : (x : ProcName) (q : Process) (cs : List Named) → find process_cmp x cs ≡ Some q → list_any (λ (c : Named). same c.0 x) cs ≡ true
found_listed x q [] is = absurd (none-some q is)
found_listed x q (c ∷ cs) is = by (eq_by_cmp process_cmp x c.0) refl is (found_listed x q cs)
  where
    by : (b : Bool) → eq_by_cmp process_cmp x c.0 ≡ b → cond b (Some c.1) (find process_cmp x cs) ≡ Some q
        → (find process_cmp x cs ≡ Some q → list_any (λ (d : Named). same d.0 x) cs ≡ true)
        → (same c.0 x || list_any (λ (d : Named). same d.0 x) cs) ≡ true
    by true e h rest =
        ap (λ (y : ProcName). same c.0 y || list_any (λ (d : Named). same d.0 x) cs) (exact x c.0 ((Equal-is (process_cmp x c.0)).0 e))
        ∙ ap (λ b. b || list_any (λ (d : Named). same d.0 x) cs) (same_itself c.0)
    by false e h rest = ap (λ b. same c.0 x || b) (rest h) ∙ or_true (same c.0 x)

-- a filter's test of the first item, and a test of all that it keeps
any_if : (test : Named → Bool) (b : Bool) (c : Named) (cs : List Named)
    → list_any test (if b then c ∷ cs else cs) ≡ (if b then (test c || list_any test cs) else list_any test cs)
any_if test true c cs = refl
any_if test false c cs = refl

passed_over : (b s rest : Bool) → s ≡ false → (if b then (s || rest) else rest) ≡ rest
passed_over true s rest h = ap (λ x. x || rest) h
passed_over false s rest h = refl

kept_here : (t s all rest : Bool) → s ≡ true → rest ≡ (all && t) → (if t then (s || rest) else rest) ≡ ((s || all) && t)
kept_here true s all rest h more = (λ i. h i || rest) ∙ (λ i. (sym h i || all) && true)
kept_here false s all rest h more = more ∙ none all ∙ (λ i. (sym h i || all) && false)
  where
    none : (b : Bool) → (b && false) ≡ false
    none true = refl
    none false = refl

module _ (f : Flat) where
  all_run : AllOf (Runs f no_numbers) (running_in f)
  unfolding running_in
  all_run = each_runs f no_numbers (suc most_numbers) []

  module _ (test : Named → Bool) (x : ProcName) where
    abbrev is_x : Named → Bool
    is_x c = same c.0 x

    -- one that doesn't run is not kept
    none_kept : running f x ≡ None → (cs : List Named) → AllOf (Runs f no_numbers) cs → list_any is_x (filter test cs) ≡ false
    none_kept gone [] all = refl
    none_kept gone (c ∷ cs) all =
        any_if is_x (test c) c (filter test cs) ∙ passed_over (test c) (is_x c) (list_any is_x (filter test cs)) other
        ∙ none_kept gone cs all.1
      where
        other : same c.0 x ≡ false
        other = elim (same_name_found c.0 x) [
          | inl t ↦ absurd (none-some c.1 (sym gone ∙ ap (λ (y : ProcName). running f y) (sym t.1) ∙ all.0))
          | inr t ↦ t.0
        ]

    -- one that runs is kept exactly if it is there and passes the test
    one_kept : (q : Process) → running f x ≡ Some q → (cs : List Named) → AllOf (Runs f no_numbers) cs
        → list_any is_x (filter test cs) ≡ (list_any is_x cs && test (x, q))
    one_kept q runs [] all = refl
    one_kept q runs (c ∷ cs) all =
        let kept = list_any is_x (filter test cs) in
        let rest : kept ≡ (list_any is_x cs && test (x, q)) = one_kept q runs cs all.1 in
        any_if is_x (test c) c (filter test cs) ∙ elim (same_name_found c.0 x) [
          | inl t ↦
              let process_is : c.1 ≡ q = same_Some c.1 q (sym all.0 ∙ ap (λ (y : ProcName). running f y) t.1 ∙ runs) in
              let tests : test c ≡ test (x, q) = λ i. test (t.1 i, process_is i) in
              (λ i. if tests i then (is_x c || kept) else kept) ∙ kept_here (test (x, q)) (is_x c) (list_any is_x cs) kept t.0 rest
          | inr t ↦ passed_over (test c) (is_x c) kept t.0 ∙ rest ∙ (λ i. (sym t.0 i || list_any is_x cs) && test (x, q))
        ]

-- ---- who is listed

module _ (accounts : Accounts) (f : Flat) (reached : IsReached accounts f) (me : ProcName) (p : Process) (runs : running f me ≡ Some p) where
  are_running : AreRunning f (running_in f)
  are_running = subst (λ (g : Flat). AreRunning g (running_in g)) reached.1 (running_are_listed accounts reached.0)

  -- the process knows by name each job that the first one is in
  abbrev knows_all : ProcName → Bool
  knows_all x = list_all (λ job. knows_by_name f job x) p.chain

  listed_runs : (x : ProcName) (q : Process) → running f x ≡ Some q → is_listed f (me, p) x ≡ (not (same me x) && knows_all x)
  listed_runs x q runs_too =
      one_kept f (is_observer (me, p)) x q runs_too (running_in f) (all_run f)
      ∙ ap (λ b. b && is_observer (me, p) (x, q)) (found_listed x q (running_in f) (are_running.each x ∙ runs_too))
      ∙ ap (λ b. not (same me x) && b) (sym (knowers_see accounts f reached me p runs x q runs_too))

  listed_gone : (x : ProcName) → running f x ≡ None → is_listed f (me, p) x ≡ false
  listed_gone x gone = none_kept f (is_observer (me, p)) x gone (running_in f) (all_run f)

  listed_is : (x : ProcName) → is_listed f (me, p) x ≡ (is_some (running f x) && not (same me x) && knows_all x)
  listed_is x = by (running f x) refl
    where
      by : (o : Option Process) → running f x ≡ o → is_listed f (me, p) x ≡ (is_some (running f x) && not (same me x) && knows_all x)
      by None e = listed_gone x e ∙ ap (λ o. is_some o && not (same me x) && knows_all x) (sym e)
      by (Some q) e = listed_runs x q e ∙ ap (λ o. is_some o && not (same me x) && knows_all x) (sym e)

  -- of a process that isn't there, the names of the jobs alone say whether it knows them
  by_names : (x : ProcName) → running f x ≡ None → (jobs : List ProcName)
      → list_all (λ job. under_process job x) jobs ≡ list_all (λ job. knows_by_name f job x) jobs
  by_names x gone [] = refl
  by_names x gone (job ∷ jobs) =
      λ i. (alone (under_process job x) ∙ ap (λ o. under_process job x || is_some_and o (λ q. has q.held job)) (sym gone)) i
      && by_names x gone jobs i
    where
      alone : (b : Bool) → b ≡ (b || false)
      alone true = refl
      alone false = refl

  -- of all others, who may learn of the process knows each of its jobs
  learns_is : (x : ProcName) → same me x ≡ false → knows_all x ≡ may_learn_of f (me, p) x
  learns_is x apart = by (running f x) refl
    where
      inside : Bool
      inside = list_all (λ (job : ProcName). under_process job x) p.chain

      by : (o : Option Process) → running f x ≡ o → knows_all x ≡ may_learn_of f (me, p) x
      by None e =
          sym (by_names x e p.chain) ∙ (λ i. sym (listed_gone x e) i || (not (is_some (sym e i)) && inside))
      by (Some q) e =
          alone (knows_all x) ∙ (λ i. (not (sym apart i) && knows_all x) || (not (is_some (sym e i)) && inside))
          ∙ ap (λ b. b || (not (is_some (running f x)) && inside)) (sym (listed_runs x q e))
        where
          alone : (b : Bool) → b ≡ (b || false)
          alone true = refl
          alone false = refl

pub listed_are_knowers : ListedAreKnowers
listed_are_knowers accounts f reached me p runs x = listed_is accounts f reached me p runs x

pub listed_can_observe : ListedCanObserve
listed_can_observe accounts f reached me p runs x listed n = by (running f x) refl (sym (listed_is accounts f reached me p runs x) ∙ listed)
  where
    by : (o : Option Process) → running f x ≡ o
        → (is_some (running f x) && not (same me x) && list_all (λ job. knows_by_name f job x) p.chain) ≡ true
        → reply_to accounts (flat_after accounts f me (Exit n)) x (Status me) ≡ Exited n
    by None e h = absurd (true≢false (sym h ∙ ap (λ o. is_some o && not (same me x) && list_all (λ job. knows_by_name f job x) p.chain) e))
    by (Some q) e h =
        let parts = and_parts (not (same me x)) (list_all (λ job. knows_by_name f job x) p.chain)
        (ap (λ o. is_some o && not (same me x) && list_all (λ job. knows_by_name f job x) p.chain) (sym e) ∙ h) in
        knowers_can_be_told accounts f reached me p runs x q e (from_not (same me x) parts.0)
        (sym (knowers_see accounts f reached me p runs x q e) ∙ parts.1) n

-- ---- the replies that differ

-- each call is of a process that passes the test
abbrev AllPass : (ProcName → Bool) → List RepliedCall → Type 0
AllPass keep as' = AllOf (λ (a : RepliedCall). keep a.call.process ≡ true) as'

kept_pass : (keep : ProcName → Bool) (as' : List RepliedCall) → AllPass keep (filter (λ (a : RepliedCall). keep a.call.process) as')
kept_pass keep [] = tt
kept_pass keep (a ∷ as') = by (keep a.call.process) refl (kept_pass keep as')
  where
    by : (b : Bool) → keep a.call.process ≡ b → AllPass keep (filter (λ (x : RepliedCall). keep x.call.process) as')
        → AllPass keep (if b then a ∷ filter (λ (x : RepliedCall). keep x.call.process) as'
        else filter (λ (x : RepliedCall). keep x.call.process) as')
    by true e rest = (e, rest)
    by false e rest = rest

-- replies differ at the processes that pass another test, if both tests agree on the processes of the calls
differ_so : (keep test other : ProcName → Bool) → ((x : ProcName) → keep x ≡ true → test x ≡ other x) → (as' bs : List RepliedCall)
    → AllPass keep as' → DifferAt test as' bs → DifferAt other as' bs
differ_so keep test other agree [] bs pass h = tt
differ_so keep test other agree (a ∷ as') [] pass h = tt
differ_so keep test other agree (a ∷ as') (b ∷ bs) pass h =
    (h.0, h.1, λ none. h.2 (agree a.call.process pass.0 ∙ none), λ alike. differ_so keep test other agree as' bs pass.1 (h.3 alike))

-- a process that is not at or below another one is another one
apart_from : (me x : ProcName) → not (under_process me x) ≡ true → same me x ≡ false
apart_from me [] h = from_not (same me []) h
apart_from me (n ∷ x) h = by (same me (n ∷ x)) (from_not (same me (n ∷ x) || under_process me x) h)
  where
    by : (b : Bool) → (b || under_process me x) ≡ false → b ≡ false
    by true h = absurd (true≢false h)
    by false h = refl

pub only_listed_observe : OnlyListedObserve
only_listed_observe accounts f reached me p runs calls others program follows too =
    differ_so (λ x. not (under_process me x)) (λ x. list_all (λ job. knows_by_name f job x) p.chain) (may_learn_of f (me, p))
    (λ x apart. learns_is accounts f reached me p runs x (apart_from me x apart))
    (others_than me accounts f calls) (others_than me accounts f others)
    (kept_pass (λ x. not (under_process me x)) (answered_from accounts f calls))
    (only_knowers_are_told accounts f reached me p runs calls others program follows too)
