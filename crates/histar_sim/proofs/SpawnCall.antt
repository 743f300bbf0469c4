-- A spawn refines its rule: it is refused as the flat rules say, or the child is born.
use Rattle.std.proofs.Common.{◌≡◌, ℕ, ◌+◌, ◌<◌, true, List, [], ◌∷◌, ◌++◌, length, Option, None, Some, Result, refl, sym, subst}
use Rattle.std.specs.Prelude.{nat_lt}
use Rattle.std.proofs.lemmas.Bool.{ltb-true}
use Rattle.histar_base.specs.Refusals.{◌orelse◌, unless}
use Rattle.histar_flat.specs.declared.calls.UnixCall.TheVariants.{Spawn}
use Rattle.histar_flat.specs.declared.replies.Errno.{Errno}
use Rattle.histar_flat.specs.declared.replies.Errno.TheVariants.{EAGAIN}
use Rattle.histar_flat.specs.declared.replies.Reply.{Reply}
use Rattle.histar_flat.specs.declared.replies.Reply.TheVariants.{Child}
use Rattle.histar_flat.specs.Words.{ProcName, most_children, most_numbers}
use Rattle.histar_flat.specs.Accounts.{Accounts}
use Rattle.histar_flat.specs.Classes.{Process}
use Rattle.histar_flat.specs.FlatState.{Flat}
use Rattle.histar_flat.specs.FlatState as flat
use Rattle.histar_flat.specs.FlatCalls.{refused}
use Rattle.histar_flat.proofs.CommonNeeds.{no_child}
use Rattle.histar_level.specs.Levels.{Levels}
use Rattle.histar_object.specs.State.{State}
use Rattle.histar_rules.specs.declared.raw.RawCall.{RawCall}
use Rattle.histar_rules.specs.declared.raw.RawCall.TheVariants.{OwnLabel, SetLabel, SetClearance}
use Rattle.histar_rules.specs.Rules.{greatest}
use Rattle.histar_syscall.specs.KernelModel.{KernelModel, state}
use Rattle.histar_layout.specs.Status.{ProcessStatus}
use Rattle.histar_programs.specs.declared.call_error.Stopped.{Stopped}
use Rattle.histar_programs.specs.Programs.{Program, Runs}
use Rattle.histar_programs.specs.Programs.Program.{Answers}
use Rattle.histar_programs.specs.Parts.{ask}
use Rattle.histar_programs.specs.declared.caller.Caller.{Caller}
use Rattle.histar_process.specs.Birth.{birth}
use Rattle.histar_programs.specs.Caller.{caller_at}
use Rattle.histar_programs.specs.Kin.{kin_of}
use Rattle.histar_process.specs.SpawnCall.{spawn_program}
use Rattle.histar_programs.specs.Start.{roots_of}
use Rattle.histar_refinement.specs.Accounts.{AreAccounts}
use Rattle.histar_refinement.specs.KeptNames.{RepresentsStill}
use Rattle.histar_programs.specs.declared.roots.Home.{Home}
use Rattle.histar_sim.specs.RawCalls.{Request, births_at, home_of, plain, requests_of}
use Rattle.histar_sim.proofs.Requests.{AreLeft, all_made, left_then}
use Rattle.histar_sim.proofs.Ready.{Ready}
use Rattle.histar_sim.specs.Reads.{AreAmong}
use Rattle.histar_sim.proofs.CallErrors.{from_each}
use Rattle.histar_sim.proofs.Chains.{all_granted, entries_of, Chain}
use Rattle.histar_sim.proofs.Steps.{Goal, answered_step}
use Rattle.histar_sim.specs.Laws.{SpawnRefines}
use Rattle.histar_sim.proofs.BirthFit.{fit, spawned_matched}
use Rattle.histar_sim.proofs.BirthRun.{spawned, birth_made}
use Rattle.histar_sim.proofs.ChildRoom.{NeedsChild, own_of, own_clearance_of, status_of, reads, at_home, at_status, at_thread, child_room_step}
use Rattle.histar_sim.proofs.ChildRoom.{home_is}
use Rattle.histar_sim.proofs.ChildRoom.{own_label_step}

-- a first refusal is the refusal, if none comes after it
nothing_behind : (o : Option Errno) → o ≡ (o orelse None)
nothing_behind None = refl
nothing_behind (Some errno) = refl

module _ {M : Type 0} (accounts : Accounts) (ok : AreAccounts accounts) (me : ProcName) (caller : Caller) (old new : KernelModel)
    (f : Flat) (result : Result Reply Stopped)
    (ready : Ready M accounts (state old) f me caller.thread)
    (found : caller_at (state old) (roots_of (length accounts.users)).home me ≡ Some caller) where
  abbrev t : ℕ
  t = caller.thread

  abbrev p : Process
  p = ready.caller.process

  abbrev Refined : Type 0
  Refined = Goal accounts f me Spawn old new t ready result

  abbrev status : ProcessStatus
  status = status_of accounts me caller old new f result ready found

  abbrev own : Levels
  own = own_of accounts me caller old new f result ready found

  abbrev clearance : Levels
  clearance = own_clearance_of accounts me caller old new f result ready found

  -- a spawn needs room for a child, and nothing else
  needs : NeedsChild accounts f me p Spawn None
  needs = record { refuses = nothing_behind (no_child me p); reads = λ steps line t s. tt }

  -- ---- the program

  abbrev reply : Reply
  reply = Child ((status.born + 1) ∷ me)

  abbrev with_labels : ProcessStatus → Levels × Levels → Program
  with_labels revealed labels =
      birth caller.home revealed (kin_of accounts labels.0) (λ _. ask (SetLabel labels.0)
      (λ _. ask (SetClearance labels.1) (λ _. Answers (Child ((revealed.born + 1) ∷ me)))))

  abbrev in_room : ProcessStatus → Program
  in_room revealed = ask OwnLabel (with_labels revealed)

  abbrev before : List RawCall
  before = reads accounts me caller old new f result ready found ∷ []

  -- the raw calls of the birth, by the home of the parent, and what is left of the requests once the process's own segment is read
  abbrev born_at : Home → List RawCall
  born_at home =
      births_at home status (kin_of accounts own) (state old).next_category (state old).next_object
      ++ SetLabel own ∷ SetClearance clearance ∷ []

  abbrev after : List Request
  after = plain (OwnLabel ∷ born_at (home_of accounts ready.represents.matched me))

  -- ---- the child is born

  module _ (long : nat_lt (length me) most_numbers ≡ true) (room : nat_lt p.born most_children ≡ true) where
    few_born : p.born < 64
    few_born = ltb-true p.born 64 room

    refused_nowhere : refused accounts f me p Spawn ≡ None
    refused_nowhere = λ i. unless (room i) EAGAIN orelse unless (long i) EAGAIN

    -- the raw calls of the birth, by the home of the process
    by_home : AreLeft (requests_of accounts ready.represents.matched me p Spawn) (before ++ OwnLabel ∷ [])
        (plain (born_at (home_of accounts ready.represents.matched me)))
        → AreLeft (requests_of accounts ready.represents.matched me p Spawn) (before ++ OwnLabel ∷ []) (plain (born_at caller.home))
    by_home left =
        subst (λ (home : Home).
        AreLeft (requests_of accounts ready.represents.matched me p Spawn) (before ++ OwnLabel ∷ []) (plain (born_at home)))
        (home_is accounts me caller old new f result ready found) left

    -- with all raw calls the call is answered
    answered : (calls : List RawCall) (later : KernelModel) → AreAmong [] (entries_of old.line t (all_granted calls))
        → AreLeft (requests_of accounts ready.represents.matched me p Spawn) calls [] → Chain old t (all_granted calls) later
        → state later ≡ spawned (state old) t caller.home status (kin_of accounts own) own clearance
        → (state old).next_object + 3 < greatest
        → Runs M (Answers reply) later new t result → Refined
    answered calls later kept left chain is few runs =
        answered_step accounts f me Spawn old new t ready result calls later chain reply refl refused_nowhere tt
        (tt, all_made _ old.line t calls left)
        (subst (λ (s : State). RepresentsStill ready.represents s (flat.with_child f me p p.chain)) (sym is)
        (spawned_matched accounts ok (state old) f ready.represents me p ready.caller.agrees ready.caller.runs few_born
        caller.home.container caller.home.segment
        (at_home accounts me caller old new f result ready found) (at_status accounts me caller old new f result ready found) t
        (at_thread accounts me caller old new f result ready found) few)) runs

    -- the thread has asked for its own labels
    born : AreLeft (requests_of accounts ready.represents.matched me p Spawn) before after
        → (mid : KernelModel) → Chain old t (all_granted (before ++ OwnLabel ∷ [])) mid → state mid ≡ state old
        → Runs M (with_labels status (own, clearance)) mid new t result → Refined
    born left mid chain stays runs =
        birth_made accounts f me Spawn old new t ready result (state old) caller.home status (kin_of accounts own) own clearance
        (fit accounts ok (state old) f ready.represents me p ready.caller.agrees ready.caller.runs few_born caller.home.container caller.home.segment
        (at_home accounts me caller old new f result ready found) (at_status accounts me caller old new f result ready found) t
        (at_thread accounts me caller old new f result ready found)) reply []
        (requests_of accounts ready.represents.matched me p Spawn) answered (before ++ OwnLabel ∷ []) mid tt
        (by_home (left_then _ before OwnLabel (plain (born_at (home_of accounts ready.represents.matched me))) left)) chain stays runs

    asked : AreLeft (requests_of accounts ready.represents.matched me p Spawn) before after
        → (mid : KernelModel) → Chain old t (all_granted before) mid → state mid ≡ state old
        → Runs M (in_room status) mid new t result → Refined
    asked left mid chain stays runs =
        own_label_step accounts me caller old new f result ready found Spawn before mid chain stays (with_labels status)
        runs (born left)

-- The program of `spawn` refines its rule.
pub spawn_refines : {M : Type 0} → SpawnRefines M
unfolding spawn_program
spawn_refines {M} accounts ok me caller old new f result ready found runs =
    from_each M accounts f me Spawn old new caller.thread result ready (λ ready.
    child_room_step accounts me caller old new f result ready found Spawn None
    (needs accounts ok me caller old new f result ready found)
    (after accounts ok me caller old new f result ready found) refl (in_room accounts ok me caller old new f result ready found) runs
    (λ long room mid chain stays left on. asked accounts ok me caller old new f result ready found long room left mid chain stays on))
