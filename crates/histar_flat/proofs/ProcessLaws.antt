-- Kills take a child and all below it, exits end one process alone, and a process that is gone stays gone.
use Rattle.std.specs.Prelude.{◌≡◌, ℕ, ◌+◌, Bool, true, false, cond, [], ◌∷◌, ◌++◌, Some, None, refl}
use Rattle.std.proofs.Common.{ap, inl, inr, sym, ◌∙◌}
use Rattle.std.proofs.lemmas.Bool.{true≢false}
use Rattle.histar_flat.specs.declared.calls.UnixCall.{UnixCall}
use Rattle.histar_flat.specs.declared.calls.UnixCall.TheVariants.{Exit, Kill}
use Rattle.histar_flat.specs.declared.replies.Errno.TheVariants.{EACCES}
use Rattle.histar_flat.specs.declared.replies.Reply.TheVariants.{Done}
use Rattle.histar_flat.specs.Words.{ProcName}
use Rattle.histar_base.specs.Paths.{same}
use Rattle.histar_flat.specs.PathOrder.{under_process}
use Rattle.histar_flat.specs.Accounts.{Accounts}
use Rattle.histar_flat.specs.Classes.{Process}
use Rattle.histar_flat.specs.FlatState.{Flat, with_process, without_process, is_given}
use Rattle.histar_flat.specs.FlatCalls.{is_child, not_found, next_child, inner_chain, if_running, running, flat_after}
use Rattle.histar_flat.specs.ProcessLaws.{TakesItsTree, KillsTakeTheirTree, ExitsAlone, ExitsLeaveChildren, GoneChangeNothing, GoneStayGone}
use Rattle.histar_flat.proofs.FileLemmas.{same_name_found, same_itself}
use Rattle.histar_flat.proofs.Refusals.{one_passes}
use Rattle.histar_flat.proofs.Changes.{EachChange, by_line, runs_is_there}
use Rattle.histar_flat.proofs.Laws.{not_running_is_gone}
use Rattle.histar_flat.proofs.Answered.{is_answered, changed_after}
use Rattle.histar_flat.proofs.GivenNames.{next_is_new, given_stays}

-- ---- kills and exits

-- without a process, all below it are gone, and the others are as they were
takes_its_tree : (f : Flat) (name : ProcName) (after : Flat) → after ≡ without_process f name → TakesItsTree f name after
takes_its_tree f name after e = record {
  taken = λ other below. ap (λ (g : Flat). g.processes other) e ∙ ap (λ b. cond b None (f.processes other)) below;
  kept = λ other apart. ap (λ (g : Flat). g.processes other) e ∙ ap (λ b. cond b None (f.processes other)) apart;
  files = ap (λ (g : Flat). g.files) e;
}

-- A kill that is done is of a child of the caller, and takes exactly the child and all below it.
pub kills_take_their_tree : KillsTakeTheirTree
kills_take_their_tree accounts f me name done =
    let is = is_answered accounts f me (Kill name) Done (λ e. cc) (λ e d. cc) done in (
      (one_passes (not_found f is.process name) (is_child me name) EACCES is.passes).1,
      takes_its_tree f name (flat_after accounts f me (Kill name)) (changed_after accounts f me (Kill name) Done is),
    )

-- a process that is given a status has exited alone
exits_alone : (f : Flat) (me : ProcName) (p : Process) (status : ℕ) (after : Flat) → f.processes me ≡ Some p
    → after ≡ with_process f me (record p { exited = Some status }) → ExitsAlone f me status after
exits_alone f me p status after here e = record {
  exited = λ q there.
      let found : Some p ≡ Some q = sym here ∙ there in
      let one : p ≡ q = cc in
      ap (λ (g : Flat). g.processes me) e
      ∙ ap (λ b. cond b (Some (record p { exited = Some status })) (f.processes me)) (same_itself me)
      ∙ ap (λ (x : Process). Some (record x { exited = Some status })) one;
  others = λ other apart. elim (same_name_found me other) [
    | inl i ↦ absurd (apart (sym i.1))
    | inr i ↦
        ap (λ (g : Flat). g.processes other) e
        ∙ ap (λ b. cond b (Some (record p { exited = Some status })) (f.processes other)) i.0
  ];
  files = ap (λ (g : Flat). g.files) e;
}

-- An exit that is done ends its process alone.
pub exits_leave_children : ExitsLeaveChildren
exits_leave_children accounts f me status done =
    let is = is_answered accounts f me (Exit status) Done (λ e. cc) (λ e d. cc) done in
    exits_alone f me is.process status (flat_after accounts f me (Exit status))
    (runs_is_there (f.processes me) is.process is.runs) (changed_after accounts f me (Exit status) Done is)

-- ---- processes that are gone

-- A process that doesn't run is answered `gone`, and changes nothing.
pub gone_change_nothing : GoneChangeNothing
gone_change_nothing accounts f me call gone = not_running_is_gone accounts f me call gone

module _ (accounts : Accounts) (f : Flat) (me : ProcName) (given : is_given f.processes me ≡ true) (gone : running f me ≡ None) where
  -- the process doesn't run in this state
  abbrev IsGone : Flat → Type 0
  IsGone g = running g me ≡ None

  module _ (caller : ProcName) (p : Process) (runs : running f caller ≡ Some p) where
    -- a caller is not the process that is gone
    another : same caller me ≡ false
    another = elim (same_name_found caller me) [
      | inl i ↦ let both : Some p ≡ None = sym runs ∙ ap (running f) i.1 ∙ gone in absurd (cc)
      | inr i ↦ i.0
    ]

    -- the next child is not the process that is gone
    unborn : same (next_child caller p) me ≡ false
    unborn = elim (same_name_found (next_child caller p) me) [
      | inl i ↦
          absurd (true≢false (sym given ∙ ap (is_given f.processes) (sym i.1)
          ∙ next_is_new f caller p (runs_is_there (f.processes caller) p runs)))
      | inr i ↦ i.0
    ]

    -- a change of the caller leaves the process gone
    gone_with : (q : Process) → IsGone (with_process f caller q)
    gone_with q = ap (λ b. if_running (cond b (Some q) (f.processes me))) another ∙ gone

    -- a birth leaves the process gone
    gone_at_birth : (q child : Process) → IsGone (with_process (with_process f caller q) (next_child caller p) child)
    gone_at_birth q child = ap (λ b. if_running (cond b (Some child) ((with_process f caller q).processes me))) unborn ∙ gone_with q

    -- a kill leaves the process gone
    gone_without : (b : Bool) → if_running (cond b None (f.processes me)) ≡ None
    gone_without true = refl
    gone_without false = gone

    gone_changes : (call : UnixCall) → EachChange accounts f caller p call IsGone
    gone_changes call = record {
      stays = gone;
      makes = λ n d x walked free w own mode made_is. gone;
      overwrites = λ n d bytes file w. gone;
      cuts = λ n d takes w. gone;
      renames = λ n k d takes apart free w. gone;
      spawns = λ is. gone_at_birth (record p { born = p.born + 1 }) (record { user = p.user; chain = p.chain; held = []; exited = None; born = 0 });
      exits = λ n is. gone_with (record p { exited = Some n });
      logs_in = λ name is known free. gone_with (record p { user = name; held = [] });
      kills = λ n. gone_without (under_process (n ∷ caller) me);
      wraps = λ n d is walked free w named.
          gone_at_birth (record p { held = p.held ++ next_child caller p ∷ []; born = p.born + 1 })
          (record { user = p.user; chain = inner_chain caller p; held = []; exited = None; born = 0 });
    }

  -- a line leaves the process gone
  gone_after : (caller : ProcName) (call : UnixCall) → IsGone (flat_after accounts f caller call)
  gone_after caller call = by_line accounts f caller call IsGone gone (λ p runs. gone_changes caller p runs call)

-- A process that doesn't run, and whose name was given, never runs again.
pub gone_stay_gone : GoneStayGone
gone_stay_gone accounts f me [] given gone = gone
gone_stay_gone accounts f me (c ∷ calls) given gone =
    gone_stay_gone accounts (flat_after accounts f c.process c.call) me calls
    (given_stays accounts f c.process c.call me given) (gone_after accounts f me given gone c.process c.call)
