-- In a state that is represented the process segments lead to the numbers of each process and its thread, and to no others.
use Rattle.std.proofs.Common.{◌≡◌, ◌≢◌, ℕ, zero, suc, ◌+◌, ◌<◌, ◌≤◌, ◌==◌, ◌⊎◌, inl, inr, Bool, true, false, cond, [], ◌∷◌, map, Option, None, Some}
use Rattle.std.proofs.Common.{refl, sym, ap, ◌∙◌, arith}
use Rattle.std.specs.Prelude.{is_some, nat_le}
use Rattle.std.specs.List.{filter, range_with_len}
use Rattle.std.proofs.lemmas.Bool.{cases_lt}
use Rattle.std.proofs.lemmas.Bool.Decides.{eqb_tells, nat_tests}
use Rattle.std.proofs.lemmas.Option.{none-some, same_Some}
use mathlib.Core.Bool.{true≢false}
use Rattle.histar_flat.specs.Words.{ProcName}
use Rattle.histar_flat.specs.Accounts.{Accounts}
use Rattle.histar_flat.specs.Classes.{Process}
use Rattle.histar_flat.specs.FlatState.{Flat, was_given, is_given}
use Rattle.histar_object.specs.Objects.{bytes_in, is_present}
use Rattle.histar_object.specs.State.{State}
use Rattle.histar_layout.specs.declared.status.Child.{Child as Listed}
use Rattle.histar_layout.specs.Status.{ProcessStatus, child_at}
use Rattle.histar_refinement.specs.Addresses.{AddressNumbers, home_address}
use Rattle.histar_refinement.specs.Addresses.Step.{Home, Status, Inside, Runner, Child}
use Rattle.histar_refinement.proofs.Expected.{home_object, status_object, thread_object, bytes_for}
use Rattle.histar_refinement.specs.Represents.{ObjectsMatch}
use Rattle.histar_refinement.specs.Lines.{IsStatusSegment, IsThreadOf}
use Rattle.histar_refinement.specs.Processes.{or_zero, listed_by, status_by}
use Rattle.histar_layout.proofs.Members.{first_of, second_of}
use Rattle.histar_refinement.proofs.Roots.{asked_home, asked_status, asked_runner}
use Rattle.histar_refinement.proofs.Agreeing.{some_of}
use Rattle.histar_refinement.proofs.SameLines.{same_status}
use Rattle.histar_refinement.proofs.StatusMatched.{holds_status}
use Rattle.histar_refinement.proofs.Agreement.{agreement}

-- ---- a child in the list of children

module _ (number : AddressNumbers) (me : ProcName) (test : ℕ → Bool) (n : ℕ) where
  abbrev listed_from : ℕ → ℕ → Option Listed
  listed_from a k = child_at (map (listed_by number me) (filter test (range_with_len a k))) n

  abbrev IsTested : ℕ → Type 0
  IsTested a = (((a == n) ≡ true) × (a ≡ n)) ⊎ (((a == n) ≡ false) × (a ≢ n))

  later_number : (a : ℕ) → a ≤ n → a ≢ n → a + 1 ≤ n
  later_number a low other = elim (cases_lt a n) [ inl lt ↦ omega (arith, lt) | inr le ↦ absurd (other (omega (arith, low, le))) ]

  abbrev one_more : ℕ → ℕ → Bool → Option Listed
  one_more a k b =
      child_at (map (listed_by number me)
      (cond b (a ∷ filter test (range_with_len (a + 1) k)) (filter test (range_with_len (a + 1) k)))) n

  -- a number that passes the test is listed
  listed_step : test n ≡ true → (a k : ℕ) → a ≤ n → (b : Bool) → test a ≡ b → IsTested a
      → (a + 1 ≤ n → listed_from (a + 1) k ≡ Some (listed_by number me n))
      → one_more a k b ≡ Some (listed_by number me n)
  listed_step passes a k low true is (inl e) later =
      ap (λ t. cond t (Some (listed_by number me a)) (listed_from (a + 1) k)) e.0
      ∙ ap (λ (x : ℕ). Some (listed_by number me x)) e.1
  listed_step passes a k low true is (inr e) later =
      ap (λ t. cond t (Some (listed_by number me a)) (listed_from (a + 1) k)) e.0 ∙ later (later_number a low e.1)
  listed_step passes a k low false is (inl e) later = absurd (true≢false (sym passes ∙ ap test (sym e.1) ∙ is))
  listed_step passes a k low false is (inr e) later = later (later_number a low e.1)

  pub listed_there : test n ≡ true → (a k : ℕ) → a ≤ n → n < a + k → listed_from a k ≡ Some (listed_by number me n)
  listed_there passes a zero low high = absurd (omega (arith, low, high))
  listed_there passes a (suc k) low high =
      listed_step passes a k low (test a) refl (eqb_tells a n)
      (λ more. listed_there passes (a + 1) k more (omega (arith, high)))

  -- what is listed passes the test
  back_step : (x : Listed) (a k : ℕ) (b : Bool) → test a ≡ b → IsTested a
      → (listed_from (a + 1) k ≡ Some x → (test n ≡ true) × (listed_by number me n ≡ x)) → one_more a k b ≡ Some x
      → (test n ≡ true) × (listed_by number me n ≡ x)
  back_step x a k true is (inl e) later found =
      let here : Some (listed_by number me a) ≡ Some x = sym (ap (λ t. cond t (Some (listed_by number me a)) (listed_from (a + 1) k)) e.0) ∙ found in
      (ap test (sym e.1) ∙ is, ap (listed_by number me) (sym e.1) ∙ same_Some (listed_by number me a) x here)
  back_step x a k true is (inr e) later found = later (sym (ap (λ t. cond t (Some (listed_by number me a)) (listed_from (a + 1) k)) e.0) ∙ found)
  back_step x a k false is decides later found = later found

  pub listed_back : (x : Listed) (a k : ℕ) → listed_from a k ≡ Some x → (test n ≡ true) × (listed_by number me n ≡ x)
  listed_back x a zero found = absurd (none-some x found)
  listed_back x a (suc k) found = back_step x a k (test a) refl (eqb_tells a n) (listed_back x (a + 1) k) found

-- a number that is there
pub zero_there : (o : Option ℕ) (k : ℕ) → is_some o ≡ true → or_zero o ≡ k → o ≡ Some k
zero_there None k some e = absurd (true≢false (sym some))
zero_there (Some q) k some e = ap Some e

module _ (accounts : Accounts) (s : State) (f : Flat) (l : ObjectsMatch accounts s f) where
  -- the addresses of a process have numbers where it is there
  pub numbered_home : (me : ProcName) → is_some (l.naming.number (home_address me)) ≡ is_some (f.processes me)
  numbered_home me = (agreement l).named (home_address me) ∙ ap is_present (asked_home accounts l.category f l.naming.number me) ∙ by (f.processes me)
    where
      by : (o : Option Process) → is_present (home_object accounts l.category me o) ≡ is_some o
      by None = refl
      by (Some p) = refl

  pub numbered_status : (me : ProcName) → is_some (l.naming.number (Status ∷ home_address me)) ≡ is_some (f.processes me)
  numbered_status me =
      (agreement l).named (Status ∷ home_address me) ∙ ap is_present (asked_status accounts l.category f l.naming.number me)
      ∙ by (f.processes me)
    where
      by : (o : Option Process)
          → is_present (status_object accounts l.category (bytes_for accounts l.category f l.naming.number me o) me o)
          ≡ is_some o
      by None = refl
      by (Some p) = refl

  -- the thread of a process that runs has a number
  pub numbered_runner : (me : ProcName) (p : Process) → f.processes me ≡ Some p → p.exited ≡ None
      → is_some (l.naming.number (Runner ∷ Inside ∷ home_address me)) ≡ true
  numbered_runner me p here running =
      (agreement l).named (Runner ∷ Inside ∷ home_address me)
      ∙ ap is_present
      (asked_runner accounts l.category f l.naming.number me ∙ ap (thread_object accounts l.category me) here)
      ∙ by p.exited running
    where
      by : (e : Option ℕ) → e ≡ None → is_present (thread_object accounts l.category me (Some (record p { exited = e }))) ≡ true
      by None is = refl
      by (Some n) is = absurd (none-some n (sym is))

  -- a child's number is one of those that its parent gave
  pub child_range : (n : ℕ) (me : ProcName) (p : Process) → f.processes me ≡ Some p
      → is_some (f.processes (n ∷ me)) ≡ true → (1 ≤ n) × (n < 1 + p.born)
  child_range n me p here there =
      let given : was_given (Some p) n ≡ true =
      sym (ap (λ (o : Option Process). was_given o n) here)
      ∙ first_of (was_given (f.processes me) n) (is_given f.processes me) (l.processes_given (n ∷ me) there) in
      let low : nat_le 1 n ≡ true = first_of (nat_le 1 n) (nat_le n p.born) given in
      let high : nat_le n p.born ≡ true = second_of (nat_le 1 n) (nat_le n p.born) given in
      (grind (arith, nat_tests, low), grind (arith, nat_tests, high))

  -- The segments lead to the numbers of each process.
  pub status_found : (me : ProcName) (p : Process) (c g : ℕ) → f.processes me ≡ Some p
      → l.naming.number (home_address me) ≡ Some c → l.naming.number (Status ∷ home_address me) ≡ Some g
      → IsStatusSegment accounts s me c g
  status_found [] p c g here home status =
      (same_Some c _ (sym home ∙ l.as_booted (Home ∷ []) _ refl), same_Some g _ (sym status ∙ l.as_booted (Status ∷ Home ∷ []) _ refl))
  status_found (n ∷ me) p c g here home status =
      let c_above = some_of (l.naming.number (home_address me)) ((agreement l).tree.held (Child n) (home_address me) (ap is_some home)) in
      let above = some_of (f.processes me) (sym (numbered_home me) ∙ ap is_some c_above.1) in
      let g_above = some_of (l.naming.number (Status ∷ home_address me)) (numbered_status me ∙ ap is_some above.1) in
      let range = child_range n me above.0 above.1 (ap is_some here) in (
        c_above.0,
        g_above.0,
        status_by f.processes l.naming.number me above.0,
        status_found me above.0 c_above.0 g_above.0 above.1 c_above.1 g_above.1,
        holds_status accounts s f l me above.0 g_above.0 above.1 g_above.1,
        listed_there l.naming.number me (λ k. is_some (f.processes (k ∷ me))) n (ap is_some here) 1 above.0.born range.0 range.1
            ∙ (λ i. Some (record { number = n; container = or_zero (home i); segment = or_zero (status i) })),
      )

  -- The process segments lead to no other numbers.
  pub status_back : (me : ProcName) (c g : ℕ) → IsStatusSegment accounts s me c g
      → (p : Process) × (f.processes me ≡ Some p) × (l.naming.number (home_address me) ≡ Some c)
      × (l.naming.number (Status ∷ home_address me) ≡ Some g)
  status_back [] c g found =
      let first = some_of (f.processes []) l.first in
      (first.0, first.1, l.as_booted (Home ∷ []) _ refl ∙ ap Some (sym found.0), l.as_booted (Status ∷ Home ∷ []) _ refl ∙ ap Some (sym found.1))
  status_back (n ∷ me) c g found =
      let above = status_back me found.0 found.1 found.3 in
      let same =
      same_status (bytes_in (s.objects found.1)) found.2 (status_by f.processes l.naming.number me above.0) found.4
      (holds_status accounts s f l me above.0 found.1 above.1 above.3) in
      let listed =
      listed_back l.naming.number me (λ k. is_some (f.processes (k ∷ me))) n
      (record { number = n; container = c; segment = g }) 1 above.0.born
      (sym (ap (λ (t : ProcessStatus). child_at t.children n) same) ∙ found.5) in
      let there = some_of (f.processes (n ∷ me)) listed.0 in (
        there.0,
        there.1,
        zero_there (l.naming.number (home_address (n ∷ me))) c (numbered_home (n ∷ me) ∙ listed.0) (ap (λ (x : Listed). x.container) listed.1),
        zero_there (l.naming.number (Status ∷ home_address (n ∷ me))) g (numbered_status (n ∷ me) ∙ listed.0)
            (ap (λ (x : Listed). x.segment) listed.1),
      )

  -- The thread of a process that runs is found.
  pub thread_led : (me : ProcName) (p : Process) (t : ℕ) → f.processes me ≡ Some p → p.exited ≡ None
      → l.naming.number (Runner ∷ Inside ∷ home_address me) ≡ Some t → IsThreadOf accounts s me t
  thread_led me p t here running runner =
      let c = some_of (l.naming.number (home_address me)) (numbered_home me ∙ ap is_some here) in
      let g = some_of (l.naming.number (Status ∷ home_address me)) (numbered_status me ∙ ap is_some here) in (
        c.0,
        g.0,
        status_by f.processes l.naming.number me p,
        status_found me p c.0 g.0 here c.1 g.1,
        holds_status
            accounts s f l me p g.0 here g.1,
        running,
        ap or_zero runner,
      )

  -- The thread that is found is that of a process that runs.
  pub thread_back : (me : ProcName) (t : ℕ) → IsThreadOf accounts s me t
      → (p : Process) × (f.processes me ≡ Some p) × (p.exited ≡ None)
      × (l.naming.number (Runner ∷ Inside ∷ home_address me) ≡ Some t)
  thread_back me t found =
      let there = status_back me found.0 found.1 found.3 in
      let same =
      same_status (bytes_in (s.objects found.1)) found.2 (status_by f.processes l.naming.number me there.0) found.4
      (holds_status accounts s f l me there.0 found.1 there.1 there.3) in
      let running : there.0.exited ≡ None = sym (ap (λ (x : ProcessStatus). x.exited) same) ∙ found.5 in (
        there.0,
        there.1,
        running,
        zero_there (l.naming.number (Runner ∷ Inside ∷ home_address me)) t (numbered_runner me there.0 there.1 running)
            (sym (ap (λ (x : ProcessStatus). x.thread) same) ∙ found.6),
      )
