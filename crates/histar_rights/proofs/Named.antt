-- After the calls of a script each process that is there has a name that can be shown.
use Rattle.std.specs.Prelude.{◌≡◌, ◌+◌, ◌≤◌, Bool, true, false, cond, ◌||◌, not, nat_lt, List, [], ◌∷◌, ◌++◌, length, Option, None, Some, is_some}
use Rattle.std.specs.Prelude.{refl}
use Rattle.std.proofs.Common.{arith, ap, inl, inr, sym, ◌∙◌, subst}
use Rattle.std.proofs.lemmas.Bool.{true≢false}
use Rattle.std.proofs.lemmas.Bool.Decides.{nat_tests}
use Rattle.histar_base.specs.Refusals.{◌orelse◌, unless}
use Rattle.histar_flat.specs.declared.calls.CallLine.{CallLine}
use Rattle.histar_flat.specs.declared.calls.UnixCall.{UnixCall}
use Rattle.histar_flat.specs.declared.calls.UnixCall.TheVariants.{Spawn, Exit, Kill, Login, Wrap}
use Rattle.histar_flat.specs.declared.replies.Errno.{Errno}
use Rattle.histar_flat.specs.declared.replies.Errno.TheVariants.{EAGAIN, EPERM}
use Rattle.histar_flat.specs.Words.{ProcName, most_children, most_numbers}
use Rattle.histar_base.specs.Paths.{same}
use Rattle.histar_flat.specs.PathOrder.{under_process}
use Rattle.histar_flat.specs.Accounts.{Accounts}
use Rattle.histar_flat.specs.Classes.{Process, nobody}
use Rattle.histar_flat.specs.Classes.Class.{Scratch}
use Rattle.histar_flat.specs.FlatState.Content.{Dir}
use Rattle.histar_flat.specs.FlatState.{Flat, with_node, with_process, with_child, without_process}
use Rattle.histar_flat.specs.FlatCalls.{next_child, inner_chain, running, refused, changed, flat_or, flat_by, flat_after}
use Rattle.histar_flat.proofs.CommonNeeds.{no_room, no_child}
use Rattle.histar_flat.specs.Meaning.{boot, first_process, flat_end}
use Rattle.histar_flat.proofs.FileLemmas.{same_name_found, same_itself}
use Rattle.histar_flat.proofs.Refusals.{passes_first, one_passes}
use Rattle.histar_flat.proofs.Changes.{runs_is_there}
use Rattle.histar_rights.specs.Running.{HaveShownNames}
use Rattle.histar_rights.specs.Laws.{ProcessesHaveShownNames}

-- names stay such that they can be shown when a process is put under a short name
named_with : (f : Flat) (me : ProcName) (p : Process) → HaveShownNames f → length me ≤ most_numbers → HaveShownNames (with_process f me p)
named_with f me p named short q at = elim (same_name_found me q) [
  | inl t ↦ subst (λ (r : ProcName). length r ≤ most_numbers) t.1 short
  | inr t ↦ named q (sym (ap (λ b. is_some (cond b (Some p) (f.processes q))) t.0) ∙ at)
]

-- names stay such that they can be shown when processes are removed
named_without : (f : Flat) (name : ProcName) → HaveShownNames f → HaveShownNames (without_process f name)
named_without f name named q at = by (under_process name q) at
  where
    by : (b : Bool) → is_some (cond b None (f.processes q)) ≡ true → length q ≤ most_numbers
    by true h = absurd (true≢false (sym h))
    by false h = named q h

-- the parent of a process is there; process 0 has none
abbrev pub IsOver : Flat → ProcName → Type 0
IsOver f [] = Unit {0}
IsOver f (n ∷ me) = is_some (f.processes me) ≡ true

-- the parent of each process that is there is there
abbrev pub AreJoined : Flat → Type 0
AreJoined f = (me : ProcName) → is_some (f.processes me) ≡ true → IsOver f me

-- a process that is there stays there
stays_with : (f : Flat) (me : ProcName) (p : Process) (q : ProcName) → is_some (f.processes q) ≡ true
    → is_some ((with_process f me p).processes q) ≡ true
stays_with f me p q at = by (same me q)
  where
    by : (b : Bool) → is_some (cond b (Some p) (f.processes q)) ≡ true
    by true = refl
    by false = at

over_with : (f : Flat) (me : ProcName) (p : Process) (q : ProcName) → IsOver f q → IsOver (with_process f me p) q
over_with f me p [] over = tt
over_with f me p (n ∷ q) over = stays_with f me p q over

joined_with : (f : Flat) (me : ProcName) (p : Process) → AreJoined f → IsOver f me → AreJoined (with_process f me p)
joined_with f me p joined over q at = elim (same_name_found me q) [
  | inl t ↦ subst (IsOver (with_process f me p)) t.1 (over_with f me p me over)
  | inr t ↦ over_with f me p q (joined q (sym (ap (λ b. is_some (cond b (Some p) (f.processes q))) t.0) ∙ at))
]

joined_without : (f : Flat) (name : ProcName) → AreJoined f → AreJoined (without_process f name)
joined_without f name joined [] at = tt
joined_without f name joined (n ∷ q) at = by (same name (n ∷ q)) (under_process name q) at
  where
    by : (a b : Bool) → is_some (cond (a || b) None (f.processes (n ∷ q))) ≡ true → is_some (cond b None (f.processes q)) ≡ true
    by true b h = absurd (true≢false (sym h))
    by false true h = absurd (true≢false (sym h))
    by false false h = joined (n ∷ q) h

-- a child may be born if the name has room for a number
room_for_child : (me : ProcName) (p : Process) → no_child me p ≡ None → length me + 1 ≤ most_numbers
room_for_child me p h =
    less (nat_lt (length me) most_numbers) refl
    (one_passes (unless (nat_lt p.born most_children) EAGAIN) (nat_lt (length me) most_numbers) EAGAIN h).1
  where
    less : (b : Bool) → nat_lt (length me) most_numbers ≡ b → b ≡ true → length me + 1 ≤ most_numbers
    less true e h = grind (arith, nat_tests, e)
    less false e h = absurd (true≢false (sym h))

named_child : (f : Flat) (me : ProcName) (p : Process) (chain : List ProcName) → HaveShownNames f
    → length me + 1 ≤ most_numbers → HaveShownNames (with_child f me p chain)
named_child f me p chain named room =
    named_with (with_process f me (record p { born = p.born + 1 })) ((p.born + 1) ∷ me)
    (record { user = p.user; chain = chain; held = []; exited = None; born = 0 })
    (named_with f me (record p { born = p.born + 1 }) named (omega arith)) (omega arith)

joined_child : (f : Flat) (me : ProcName) (p : Process) (chain : List ProcName) → AreJoined f → IsOver f me → AreJoined (with_child f me p chain)
joined_child f me p chain joined over =
    joined_with (with_process f me (record p { born = p.born + 1 })) ((p.born + 1) ∷ me)
    (record { user = p.user; chain = chain; held = []; exited = None; born = 0 })
    (joined_with f me (record p { born = p.born + 1 }) joined over) (itself_there (same me me) (same_itself me))
  where
    itself_there : (b : Bool) → b ≡ true → is_some (cond b (Some (record p { born = p.born + 1 })) (f.processes me)) ≡ true
    itself_there true e = refl
    itself_there false e = absurd (true≢false (sym e))

-- each process that is there has a name that can be shown, and a parent that is there
pub record AreInPlace (f : Flat) : Type 0 where
  pub named : HaveShownNames f
  pub joined : AreJoined f

module _ (accounts : Accounts) (f : Flat) (placed : AreInPlace f) (me : ProcName) where
  -- the change of a call that is not refused keeps this
  after_change : (p : Process) → length me ≤ most_numbers → IsOver f me → (call : UnixCall)
      → refused accounts f me p call ≡ None → AreInPlace (changed accounts f me p call)
  after_change p short over Spawn passes =
      record {
        named = named_child f me p p.chain placed.named (room_for_child me p passes);
        joined = joined_child f me p p.chain placed.joined over;
      }
  after_change p short over (Exit n) passes =
      record {
        named = named_with f me (record p { exited = Some n }) placed.named short;
        joined = joined_with f me (record p { exited = Some n }) placed.joined over;
      }
  after_change p short over (Kill name) passes = record { named = named_without f name placed.named; joined = joined_without f name placed.joined }
  after_change p short over (Login name password) passes =
      record {
        named = named_with f me (record p { user = name; held = [] }) placed.named short;
        joined = joined_with f me (record p { user = name; held = [] }) placed.joined over;
      }
  after_change p short over (Wrap q) passes =
      let g = with_node f q (Scratch p.user (inner_chain me p)) Dir in
      let r = record p { held = p.held ++ next_child me p ∷ [] } in
      record {
        named =
            named_child g me r (inner_chain me p) placed.named (room_for_child me p (passes_first (no_child me p)
            (no_room accounts f p q orelse unless (not (same p.user nobody)) EPERM) passes));
        joined = joined_child g me r (inner_chain me p) placed.joined over;
      }
  after_change p short over call passes = record { named = placed.named; joined = placed.joined }

  by_refusal : (p : Process) → length me ≤ most_numbers → IsOver f me → (call : UnixCall) → (refusal : Option Errno)
      → refused accounts f me p call ≡ refusal → AreInPlace (flat_or refusal f (changed accounts f me p call))
  by_refusal p short over call None is = after_change p short over call is
  by_refusal p short over call (Some e) is = placed

  -- each call keeps this
  pub placed_after : (call : UnixCall) → AreInPlace (flat_after accounts f me call)
  placed_after call = by (running f me) refl
    where
      by : (o : Option Process) → running f me ≡ o → AreInPlace (flat_by accounts f me o call)
      by None e = placed
      by (Some p) e =
          by_refusal p (placed.named me (ap is_some (runs_is_there (f.processes me) p e)))
          (placed.joined me (ap is_some (runs_is_there (f.processes me) p e))) call (refused accounts f me p call)
          refl

-- this holds at the start, with process 0 alone
placed_at_start : (accounts : Accounts) → AreInPlace (boot accounts)
placed_at_start accounts =
    let none : Flat = record { files = (boot accounts).files; processes = λ q. None } in
    record {
      named = named_with none [] first_process (λ q at. absurd (true≢false (sym at))) (omega arith);
      joined = joined_with none [] first_process (λ q at. absurd (true≢false (sym at))) tt;
    }

placed_at_end : (accounts : Accounts) (f : Flat) → AreInPlace f → (calls : List CallLine) → AreInPlace (flat_end accounts f calls)
placed_at_end accounts f placed [] = placed
placed_at_end accounts f placed (c ∷ calls) =
    placed_at_end accounts (flat_after accounts f c.process c.call) (placed_after accounts f placed c.process c.call)
    calls

-- this holds after the calls of a script
pub calls_place : (accounts : Accounts) (calls : List CallLine) → AreInPlace (flat_end accounts (boot accounts) calls)
calls_place accounts calls = placed_at_end accounts (boot accounts) (placed_at_start accounts) calls

-- after the calls of a script each process that is there has a name that can be shown
pub processes_are_named : ProcessesHaveShownNames
processes_are_named accounts calls = (calls_place accounts calls).named
