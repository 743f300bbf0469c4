-- By its needs each rule looks only at what it may, changes only what it may, and reveals only what it may.
use Rattle.std.specs.Prelude.{◌≡◌, true, not, ◌&&◌, ◌∷◌, Option, None, Some, refl}
use Rattle.std.specs.List.{list_all}
use Rattle.std.proofs.Common.{sym}
use Rattle.std.proofs.lemmas.Bool.{and_parts, true≢false}
use Rattle.histar_flat.specs.declared.calls.UnixCall.{UnixCall}
use Rattle.histar_flat.specs.declared.calls.UnixCall.TheVariants.{Create}
use Rattle.histar_flat.specs.Words.{Path, ProcName}
use Rattle.histar_base.specs.Paths.{same}
use Rattle.histar_flat.specs.PathOrder.{parent}
use Rattle.histar_flat.specs.Accounts.{Accounts, is_member, has}
use Rattle.histar_flat.specs.Files.{get}
use Rattle.histar_flat.specs.Classes.{Class, Process, is_free, knows, may_read, may_write}
use Rattle.histar_flat.specs.Classes.Class.{Private, Readable, Open, Scratch, Grouped}
use Rattle.histar_flat.specs.FlatState.{Flat, Node, is_some_and, reads, writes}
use Rattle.histar_flat.specs.Needs.{Test, Need, passes, unmet}
use Rattle.histar_flat.specs.Needs.Test.{NotRoot, Exists, IsFile, Absent, AbsentBeside, MayRead, MayWrite, MayWriteAbove, Fits, IsChild, IsUser}
use Rattle.histar_flat.specs.Needs.Test.{InNoJob, IsSomebody}
use Rattle.histar_flat.specs.Needs.Need.{◌then◌, ◌or◌, Walk, Found}
use Rattle.histar_flat.specs.CallRules.{path_of, rule}
use Rattle.histar_flat.specs.RuleLaws.{Holds, Met, IsOrdered, Warrant, MayReveal, TestsAreOrdered, EffectsAreWarranted, AnswersMayBeRevealed}
use Rattle.histar_flat.proofs.Refusals.{passes_first, passes_later, passed}

-- A process may read what it may write.
pub writable_is_readable : (accounts : Accounts) (p : Process) (class : Class) → may_write accounts p class ≡ true → may_read accounts p class ≡ true
writable_is_readable accounts p (Private owner) h = (and_parts (same p.user owner) (is_free p) h).0
writable_is_readable accounts p (Readable owner) h = refl
writable_is_readable accounts p Open h = refl
writable_is_readable accounts p (Scratch owner jobs) h = (and_parts (same p.user owner && list_all (knows p) jobs) (list_all (has jobs) p.chain) h).0
writable_is_readable accounts p (Grouped group) h = (and_parts (is_member accounts p.user group) (is_free p) h).0

-- a process may read the path that it may write
pub writes_and_reads : (accounts : Accounts) (f : Flat) (p : Process) (q : Path) → writes accounts f p q ≡ true → reads accounts f p q ≡ true
writes_and_reads accounts f p q h = by (get f.files q) h
  where
    by : (o : Option Node) → is_some_and o (λ n. may_write accounts p n.class) ≡ true → is_some_and o (λ n. may_read accounts p n.class) ≡ true
    by None i = i
    by (Some n) i = writable_is_readable accounts p n.class i

-- if the test for something fails, there is nothing
pub nothing_there : (x : Option Node) → not (is_some_and x (λ n. true)) ≡ true → x ≡ None
nothing_there None h = refl
nothing_there (Some n) h = absurd (true≢false (sym h))

module _ (accounts : Accounts) (f : Flat) (me : ProcName) (p : Process) (q : Path) where
  -- a test that has passed holds
  holds : (test : Test) → passes accounts f me p q test ≡ true → Holds accounts f me p q test
  holds NotRoot h = h
  holds Exists h = h
  holds IsFile h = h
  holds Absent h = nothing_there (get f.files q) h
  holds (AbsentBeside name) h = nothing_there (get f.files (name ∷ parent q)) h
  holds MayRead h = h
  holds MayWrite h = (h, writes_and_reads accounts f p q h)
  holds MayWriteAbove h = h
  holds (Fits new) h = h
  holds (IsChild name) h = h
  holds (IsUser name) h = h
  holds InNoJob h = h
  holds IsSomebody h = h
  holds _ h = tt

  -- a need without a refusal is met
  pub met : (need : Need) → unmet accounts f me p q need ≡ None → Met accounts f me p q need
  met (a then b) h = (
    met a (passes_first (unmet accounts f me p q a) (unmet accounts f me p q b) h),
    met b
        (passes_later (unmet accounts f me p q a) (unmet accounts f me p q b) h),
  )
  met (test or e) h = holds test (passed (passes accounts f me p q test) e h)
  met Walk h = h
  met (Found name) h = h
  met _ h = tt

  -- each rule tests what may be seen by then, whatever the path
  ordered_at : (call : UnixCall) → IsOrdered accounts f me p q (Unit {0}) (rule call).needs
  ordered_at (Create r mode) = assumption
  ordered_at _ = assumption

  -- a call whose needs are met is allowed its effect
  warranted_at : (call : UnixCall) → Met accounts f me p q (rule call).needs → Warrant accounts f me p q (rule call).effect
  warranted_at (Create r mode) known = assumption
  warranted_at _ known = assumption

  -- a call whose needs are met may reveal its answer
  revealed_at : (call : UnixCall) → Met accounts f me p q (rule call).needs → MayReveal accounts f me p q (rule call).answer
  revealed_at (Create r mode) known = assumption
  revealed_at _ known = assumption

pub ordered : TestsAreOrdered
ordered accounts f me p call = ordered_at accounts f me p (path_of call) call

pub warranted : EffectsAreWarranted
warranted accounts f me p call h = warranted_at accounts f me p (path_of call) call (met accounts f me p (path_of call) (rule call).needs h)

pub may_be_revealed : AnswersMayBeRevealed
may_be_revealed accounts f me p call h = revealed_at accounts f me p (path_of call) call (met accounts f me p (path_of call) (rule call).needs h)
