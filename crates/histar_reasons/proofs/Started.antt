-- A name that a line was answered with stays given.
use Rattle.std.specs.Prelude.{◌≡◌, ◌≢◌, ℕ, ◌+◌, true, false, cond, ◌&&◌, nat_le, List, [], ◌∷◌, ◌++◌, Option, None, Some, refl}
use Rattle.std.proofs.Common.{sym, ap, ◌∙◌, subst, inl, inr, arith}
use Rattle.std.proofs.lemmas.Bool.{true≢false, and_from, le-leb}
use Rattle.histar_base.specs.Paths.{same}
use Rattle.histar_flat.specs.declared.calls.CallLine.{CallLine}
use Rattle.histar_flat.specs.declared.calls.UnixCall.{UnixCall}
use Rattle.histar_flat.specs.declared.calls.UnixCall.TheVariants.{Create, Stat, Spawn, Status, Wrap}
use Rattle.histar_flat.specs.declared.replies.Reply.TheVariants.{Child}
use Rattle.histar_flat.specs.Words.{ProcName}
use Rattle.histar_flat.specs.Accounts.{Accounts}
use Rattle.histar_flat.specs.Files.{get}
use Rattle.histar_flat.specs.Classes.{Process}
use Rattle.histar_flat.specs.FlatState.{Flat, Node, with_process, was_given, is_given}
use Rattle.histar_flat.specs.Effects.{life_reply, stat_reply}
use Rattle.histar_flat.specs.FlatCalls.{next_child, changed, answer, reply_to, flat_after}
use Rattle.histar_flat.specs.Meaning.{boot, flat_end}
use Rattle.histar_flat.proofs.Answered.{is_answered, changed_after}
use Rattle.histar_flat.proofs.Changes.{runs_is_there}
use Rattle.histar_flat.proofs.FileLemmas.{Found, same_name_found}
use Rattle.histar_flat.proofs.GivenNames.{next_is_new, given_stays, names_are_given_once}
use Rattle.histar_flat.proofs.Laws.{states_go_on}
use Rattle.histar_reasons.specs.Laws.{AbsenceIsSo, NeverStartedWereNot}
use Rattle.histar_reasons.proofs.Absent.{absences_are_so}

-- the number of the child that was just born was given
just_given : (born : ℕ) → (nat_le 1 (born + 1) && nat_le (born + 1) (born + 1)) ≡ true
just_given born =
    and_from (nat_le 1 (born + 1)) (nat_le (born + 1) (born + 1)) (le-leb 1 (born + 1) (omega arith)) (le-leb (born + 1) (born + 1) (omega arith))

-- after a birth the child's name was given
at_birth : (f : Flat) (me : ProcName) (p q child : Process) → f.processes me ≡ Some p → is_given f.processes me ≡ true → q.born ≡ p.born + 1
    → is_given (with_process (with_process f me q) (next_child me p) child).processes me ≡ true
    → is_given (with_process (with_process f me q) (next_child me p) child).processes (next_child me p) ≡ true
at_birth f me p q child here given born kept =
    and_from (was_given ((with_process (with_process f me q) (next_child me p) child).processes me) (p.born + 1)) _
    (by (same_name_found (next_child me p) me) (same_name_found me me)) kept
  where
    by : Found (same (next_child me p) me) (next_child me p) me → Found (same me me) me me
        → was_given (cond (same (next_child me p) me) (Some child) (cond (same me me) (Some q) (f.processes me))) (p.born + 1) ≡ true
    by (inl e) itself = absurd (true≢false (sym given ∙ ap (is_given f.processes) (sym e.1) ∙ next_is_new f me p here))
    by (inr e) (inr i) = absurd (i.1 refl)
    by (inr e) (inl i) =
        ap (λ b. was_given (cond b (Some child) (cond (same me me) (Some q) (f.processes me))) (p.born + 1)) e.0
        ∙ ap (λ b. was_given (cond b (Some q) (f.processes me)) (p.born + 1)) i.0
        ∙ ap (λ k. nat_le 1 (p.born + 1) && nat_le (p.born + 1) k) born ∙ just_given p.born

-- what is shown of a node or a process is no child
no_node : (o : Option Node) (name : ProcName) → stat_reply o ≢ Child name
no_node None name h = absurd (cc)
no_node (Some n) name h = absurd (cc)

no_life : (o : Option Process) (name : ProcName) → life_reply o ≢ Child name
no_life None name h = absurd (cc)
no_life (Some p) name h = by p.exited h
  where
    by : (e : Option ℕ) → life_reply (Some (record p { exited = e })) ≡ Child name → ⊥
    by None i = cc
    by (Some n) i = cc

-- a call that is answered with a name gives it
gives : (accounts : Accounts) (f : Flat) (me : ProcName) (p : Process) → f.processes me ≡ Some p → is_given f.processes me ≡ true
    → (call : UnixCall) (name : ProcName) → answer f me p call ≡ Child name → is_given (changed accounts f me p call).processes me ≡ true
    → is_given (changed accounts f me p call).processes name ≡ true
gives accounts f me p here given (Create q mode) name said kept = absurd (cc)
gives accounts f me p here given (Stat q) name said kept = absurd (no_node (get f.files q) name said)
gives accounts f me p here given (Status other) name said kept = absurd (no_life (f.processes other) name said)
gives accounts f me p here given Spawn name said kept =
    let is : next_child me p ≡ name = cc in
    subst (λ x. is_given (changed accounts f me p Spawn).processes x ≡ true) is (at_birth f me p _ _ here given refl kept)
gives accounts f me p here given (Wrap q) name said kept =
    let is : next_child me p ≡ name = cc in
    subst (λ x. is_given (changed accounts f me p (Wrap q)).processes x ≡ true) is (at_birth f me p _ _ here given refl kept)
gives accounts f me p here given _ name said kept = absurd (cc)

-- a name that was given is given at the end
given_to_end : (accounts : Accounts) (f : Flat) (calls : List CallLine) (name : ProcName) → is_given f.processes name ≡ true
    → is_given (flat_end accounts f calls).processes name ≡ true
given_to_end accounts f [] name h = h
given_to_end accounts f (c ∷ calls) name h =
    given_to_end accounts (flat_after accounts f c.process c.call) calls name (given_stays accounts f c.process c.call name h)

-- a line that is answered with a name gives it
line_gives : (accounts : Accounts) (before : List CallLine) (line : CallLine) (name : ProcName)
    → reply_to accounts (flat_end accounts (boot accounts) before) line.process line.call ≡ Child name
    → is_given (flat_after accounts (flat_end accounts (boot accounts) before) line.process line.call).processes name ≡ true
line_gives accounts before line name said =
    let f = flat_end accounts (boot accounts) before in
    let is = is_answered accounts f line.process line.call (Child name) (λ e. cc) (λ r e. cc) said in
    let here = runs_is_there (f.processes line.process) is.process is.runs in
    let given = (names_are_given_once.old accounts before).of_processes line.process is.process here in
    let after = changed_after accounts f line.process line.call (Child name) is in
    ap (λ (g : Flat). is_given g.processes name) after
    ∙ gives accounts f line.process is.process here given line.call name is.answers
    (sym (ap (λ (g : Flat). is_given g.processes line.process) after) ∙ given_stays accounts f line.process line.call line.process given)

pub never_started_were_not : NeverStartedWereNot
never_started_were_not accounts before after line me still said replied =
    let f = flat_end accounts (boot accounts) before in
    let end = flat_end accounts (boot accounts) (before ++ line ∷ after) in
    let never : is_given end.processes me ≡ false = subst (AbsenceIsSo end me) said (absences_are_so end me still) in
    true≢false (sym (given_to_end accounts (flat_after accounts f line.process line.call) after me (line_gives accounts before line me replied))
    ∙ sym (ap (λ (g : Flat). is_given g.processes me) (states_go_on accounts (boot accounts) before (line ∷ after))) ∙ never)
