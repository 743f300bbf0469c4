-- After the calls of a script each process that is there has a name that a line can say.
use Rattle.std.specs.Prelude.{◌≡◌, ◌+◌, ◌≤◌, Bool, true, false, cond, not, nat_lt, List, [], ◌∷◌, ◌++◌, length, Option, None, Some, is_some}
use Rattle.std.specs.Prelude.{refl}
use Rattle.std.specs.List.{list_all}
use Rattle.std.proofs.Common.{arith, ap, inl, inr, sym, ◌∙◌, subst}
use Rattle.std.proofs.lemmas.Bool.{le-leb, true≢false}
use Rattle.std.proofs.lemmas.Bool.Decides.{nat_tests}
use Rattle.histar_base.specs.Refusals.{◌orelse◌, unless}
use Rattle.histar_flat.specs.declared.calls.CallLine.{CallLine}
use Rattle.histar_flat.specs.declared.calls.UnixCall.{UnixCall}
use Rattle.histar_flat.specs.declared.calls.UnixCall.TheVariants.{Spawn, Exit, Kill, Login, Wrap}
use Rattle.histar_flat.specs.declared.replies.Errno.{Errno}
use Rattle.histar_flat.specs.declared.replies.Errno.TheVariants.{EAGAIN, EPERM}
use Rattle.histar_flat.specs.Words.{ProcName, is_child_number, is_process, most_children, most_numbers}
use Rattle.histar_base.specs.Paths.{same}
use Rattle.histar_flat.specs.PathOrder.{under_process}
use Rattle.histar_flat.specs.Accounts.{Accounts}
use Rattle.histar_flat.specs.Classes.{Process, nobody}
use Rattle.histar_flat.specs.Classes.Class.{Scratch}
use Rattle.histar_flat.specs.FlatState.Content.{Dir}
use Rattle.histar_flat.specs.FlatState.{Flat, with_node, with_process, with_child, without_process}
use Rattle.histar_flat.specs.FlatCalls.{next_child, inner_chain, running, refused, changed, flat_or, flat_by, flat_after}
use Rattle.histar_flat.proofs.CommonNeeds.{no_room, no_child}
use Rattle.histar_flat.specs.Meaning.{boot, first_process, flat_end}
use Rattle.histar_flat.proofs.FileLemmas.{same_name_found}
use Rattle.histar_flat.proofs.Refusals.{passes_first}
use Rattle.histar_flat.proofs.Changes.{runs_is_there}
use Rattle.histar_rights.proofs.Named.{processes_are_named}
use Rattle.histar_secrecy.specs.Noninterference.{IsReached}

-- each process that is there has a name of numbers that children can have
abbrev HaveChildNames : Flat → Type 0
HaveChildNames f = (me : ProcName) → is_some (f.processes me) ≡ true → list_all is_child_number me ≡ true

named_with : (f : Flat) (me : ProcName) (p : Process) → HaveChildNames f → list_all is_child_number me ≡ true → HaveChildNames (with_process f me p)
named_with f me p named right q at = elim (same_name_found me q) [
  | inl t ↦ subst (λ (r : ProcName). list_all is_child_number r ≡ true) t.1 right
  | inr t ↦ named q (sym (ap (λ b. is_some (cond b (Some p) (f.processes q))) t.0) ∙ at)
]

named_without : (f : Flat) (name : ProcName) → HaveChildNames f → HaveChildNames (without_process f name)
named_without f name named q at = by (under_process name q) at
  where
    by : (b : Bool) → is_some (cond b None (f.processes q)) ≡ true → list_all is_child_number q ≡ true
    by true h = absurd (true≢false (sym h))
    by false h = named q h

-- a child that may be born gets such a number
number_of_child : (me : ProcName) (p : Process) → no_child me p ≡ None → is_child_number (p.born + 1) ≡ true
number_of_child me p h =
    less (nat_lt p.born most_children) refl (one_passes_first (nat_lt p.born most_children) h)
  where
    one_passes_first : (b : Bool) → (unless b EAGAIN orelse unless (nat_lt (length me) most_numbers) EAGAIN) ≡ None → b ≡ true
    one_passes_first true e = refl
    one_passes_first false e = absurd cc

    less : (b : Bool) → nat_lt p.born most_children ≡ b → b ≡ true → is_child_number (p.born + 1) ≡ true
    less true e t =
        let few : p.born + 1 ≤ most_children = grind (arith, nat_tests, e) in
        rw (le-leb 1 (p.born + 1) (omega arith), le-leb (p.born + 1) most_children few) refl
    less false e t = absurd (true≢false (sym t))

named_child : (f : Flat) (me : ProcName) (p : Process) (chain : List ProcName) → HaveChildNames f → list_all is_child_number me ≡ true
    → is_child_number (p.born + 1) ≡ true → HaveChildNames (with_child f me p chain)
named_child f me p chain named right number =
    named_with (with_process f me (record p { born = p.born + 1 })) ((p.born + 1) ∷ me)
    (record { user = p.user; chain = chain; held = []; exited = None; born = 0 })
    (named_with f me (record p { born = p.born + 1 }) named right) (rw (number, right) refl)

module _ (accounts : Accounts) (f : Flat) (named : HaveChildNames f) (me : ProcName) where
  -- the change of a call that is not refused keeps this
  after_change : (p : Process) → list_all is_child_number me ≡ true → (call : UnixCall) → refused accounts f me p call ≡ None
      → HaveChildNames (changed accounts f me p call)
  after_change p right Spawn passes = named_child f me p p.chain named right (number_of_child me p passes)
  after_change p right (Exit n) passes = named_with f me (record p { exited = Some n }) named right
  after_change p right (Kill name) passes = named_without f name named
  after_change p right (Login name password) passes = named_with f me (record p { user = name; held = [] }) named right
  after_change p right (Wrap q) passes =
      let g = with_node f q (Scratch p.user (inner_chain me p)) Dir in
      let r = record p { held = p.held ++ next_child me p ∷ [] } in
      named_child g me r (inner_chain me p) named right (number_of_child me p (passes_first (no_child me p)
      (no_room accounts f p q orelse unless (not (same p.user nobody)) EPERM) passes))
  after_change p right call passes = named

  by_refusal : (p : Process) → list_all is_child_number me ≡ true → (call : UnixCall) → (refusal : Option Errno)
      → refused accounts f me p call ≡ refusal → HaveChildNames (flat_or refusal f (changed accounts f me p call))
  by_refusal p right call None is = after_change p right call is
  by_refusal p right call (Some e) is = named

  -- each call keeps this
  named_after : (call : UnixCall) → HaveChildNames (flat_after accounts f me call)
  named_after call = by (running f me) refl
    where
      by : (o : Option Process) → running f me ≡ o → HaveChildNames (flat_by accounts f me o call)
      by None e = named
      by (Some p) e = by_refusal p (named me (ap is_some (runs_is_there (f.processes me) p e))) call (refused accounts f me p call) refl

-- this holds at the start, with process 0 alone
named_at_start : (accounts : Accounts) → HaveChildNames (boot accounts)
named_at_start accounts =
    named_with (record { files = (boot accounts).files; processes = λ q. None }) [] first_process (λ q at. absurd (true≢false (sym at))) refl

named_at_end : (accounts : Accounts) (f : Flat) → HaveChildNames f → (calls : List CallLine) → HaveChildNames (flat_end accounts f calls)
named_at_end accounts f named [] = named
named_at_end accounts f named (c ∷ calls) =
    named_at_end accounts (flat_after accounts f c.process c.call) (named_after accounts f named c.process c.call) calls

-- a running process has a name that a line can say
pub running_is_named : (accounts : Accounts) (f : Flat) → IsReached accounts f → (me : ProcName) (p : Process) → running f me ≡ Some p
    → is_process me ≡ true
running_is_named accounts f reached me p runs =
    let there : is_some (f.processes me) ≡ true = ap is_some (runs_is_there (f.processes me) p runs) in
    let at : is_some ((flat_end accounts (boot accounts) reached.0).processes me) ≡ true =
    ap (λ (g : Flat). is_some (g.processes me)) reached.1 ∙ there in
    rw (
      le-leb (length me) most_numbers (processes_are_named accounts reached.0 me at),
      named_at_end accounts (boot accounts) (named_at_start accounts) reached.0 me at,
    ) refl
