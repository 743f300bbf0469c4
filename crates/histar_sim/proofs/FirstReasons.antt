-- Where a test of a rule fails, the reason is that test's: what may not be read or written, and where a test passes it has none.
use Rattle.std.proofs.Common.{◌≡◌, true, false, Option, None, Some, refl, sym, ap, ◌∙◌, subst}
use Rattle.std.specs.Prelude.{option_map}
use Rattle.std.specs.Option.{IsSomeAnd}
use mathlib.Core.Bool.{true≢false}
use Rattle.histar_flat.specs.declared.calls.Mode.{Mode}
use Rattle.histar_flat.specs.declared.calls.Mode.TheVariants as modes
use Rattle.histar_flat.specs.declared.calls.UnixCall.{UnixCall}
use Rattle.histar_flat.specs.declared.replies.Errno.{Errno}
use Rattle.histar_flat.specs.Words.{Path, ProcName}
use Rattle.histar_flat.specs.PathOrder.{parent}
use Rattle.histar_flat.specs.Accounts.{Accounts}
use Rattle.histar_flat.specs.Files.{get}
use Rattle.histar_flat.specs.Classes.{Process, sees, may_read, may_write}
use Rattle.histar_flat.specs.FlatState.{Flat, Node, class_of}
use Rattle.histar_flat.specs.CallRules.{path_of}
use Rattle.histar_object.specs.State.{State}
use Rattle.histar_rules.specs.declared.raw.RawCall.{RawCall}
use Rattle.histar_reasons.specs.Causes.{Cause, unread, unwritten, unknown}
use Rattle.histar_reasons.specs.Reasons.{Reason, errno_of, unmade, why, not_read, not_written, unseen}
use Rattle.histar_reasons.specs.Reasons.Reason.{MayNotRead, MayNotWrite, IsUnseen}
use Rattle.histar_reasons.proofs.Options.{none, none_first}
use Rattle.histar_reasons.proofs.Causes.{read_agrees, write_agrees}
use Rattle.histar_sim.specs.Named.{MakesAt, IsAbout, IsNamed}

-- an option that has a value, and one that has none
pub value_of : {A : Type 0} (o : Option A) → none o ≡ false → (x : A) × (o ≡ Some x)
value_of None h = absurd (true≢false h)
value_of (Some x) h = (x, refl)

pub no_value : {A : Type 0} (o : Option A) → none o ≡ true → o ≡ None
no_value None h = refl
no_value (Some x) h = absurd (true≢false (sym h))

-- what has no refusal has no reason
pub no_reason : (o : Option Reason) → option_map errno_of o ≡ None → o ≡ None
no_reason None h = refl
no_reason (Some r) h = absurd (cc)

-- what has a refusal has a reason, whose refusal it is
pub reason_of : (o : Option Reason) (e : Errno) → option_map errno_of o ≡ Some e → (r : Reason) × (o ≡ Some r) × (errno_of r ≡ e)
reason_of None e h = absurd (cc)
reason_of (Some r) e h = (r, refl, cc)

module _ (accounts : Accounts) (f : Flat) (p : Process) (q : Path) (node : Node) (at : get f.files q ≡ Some node) where
  not_read_as : not_read accounts f p q ≡ option_map (MayNotRead q) (unread accounts p node.class)
  not_read_as = ap (λ (o : Option Node). option_map (MayNotRead q) (unread accounts p (class_of o))) at

  not_written_as : not_written accounts f p q ≡ option_map (MayNotWrite q) (unwritten accounts p node.class)
  not_written_as = ap (λ (o : Option Node). option_map (MayNotWrite q) (unwritten accounts p (class_of o))) at

  -- what may not be read has a reason that says so, and what may be read has none
  pub unread_at : may_read accounts p node.class ≡ false → (cause : Cause) × (not_read accounts f p q ≡ Some (MayNotRead q cause))
  unread_at fails =
      let found = value_of (unread accounts p node.class) (read_agrees accounts p node.class ∙ fails) in
      (found.0, not_read_as ∙ ap (option_map (MayNotRead q)) found.1)

  pub read_at : may_read accounts p node.class ≡ true → not_read accounts f p q ≡ None
  read_at passes =
      not_read_as ∙ ap (option_map (MayNotRead q)) (no_value (unread accounts p node.class) (read_agrees accounts p node.class ∙ passes))

  -- what may not be written has a reason that says so, and what may be written has none
  pub unwritten_at : may_write accounts p node.class ≡ false → (cause : Cause) × (not_written accounts f p q ≡ Some (MayNotWrite q cause))
  unwritten_at fails =
      let found = value_of (unwritten accounts p node.class) (write_agrees accounts p node.class ∙ fails) in
      (found.0, not_written_as ∙ ap (option_map (MayNotWrite q)) found.1)

  pub written_at : may_write accounts p node.class ≡ true → not_written accounts f p q ≡ None
  written_at passes =
      not_written_as
      ∙ ap (option_map (MayNotWrite q)) (no_value (unwritten accounts p node.class) (write_agrees accounts p node.class ∙ passes))

-- a process that is not seen has a reason that says so
pub unseen_at : (accounts : Accounts) (f : Flat) (p : Process) (name : ProcName) (other : Process) → sees p other ≡ false
    → (job : ProcName) × (unseen accounts f p name (Some other) ≡ Some (IsUnseen name job))
unseen_at accounts f p name other fails =
    let found = value_of (unknown p other.chain) (none_first _ other.chain ∙ fails) in
    (found.0, ap (option_map (IsUnseen name)) found.1)

module _ (accounts : Accounts) (s : State) where
  -- a raw call is on what the reason names, if the call has this reason and it is on that
  pub named_by : (f : Flat) (me : ProcName) (p : Process) (asked : UnixCall) (next : RawCall) (reason : Reason)
      → why accounts f me p asked ≡ Some reason → IsAbout accounts s asked reason next → IsNamed accounts s f me p asked next
  named_by f me p asked next reason is about =
      subst (λ (o : Option Reason). IsSomeAnd o (λ (r : Reason). IsAbout accounts s asked r next)) (sym is) about

  -- where nothing can be made of a mode, it is on the directory in which it was to be made
  pub about_unmade : (asked : UnixCall) (next : RawCall) (mode : Mode) → MakesAt accounts s (parent (path_of asked)) next
      → IsAbout accounts s asked (unmade mode) next
  about_unmade asked next modes.Private makes = makes
  about_unmade asked next modes.Readable makes = makes
  about_unmade asked next modes.Open makes = makes
  about_unmade asked next (modes.Group group) makes = makes
