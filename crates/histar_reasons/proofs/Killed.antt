-- A process that is not there, and whose number was given by one that is, was killed by a line.
use Rattle.std.specs.Prelude.{◌≡◌, ◌⊎◌, ℕ, ◌+◌, Bool, true, false, cond, ◌&&◌, nat_le, List, []}
use Rattle.std.specs.Prelude.{◌∷◌, Option, None, Some, is_some, refl}
use Rattle.std.proofs.Common.{sym, ap, ◌∙◌, subst, inl, inr, arith}
use Rattle.std.proofs.lemmas.Bool.{true≢false, and_parts, and_from, leb-true, leb-false, cases_Bool}
use Rattle.histar_base.specs.Paths.{same}
use Rattle.histar_flat.specs.declared.calls.CallLine.{CallLine}
use Rattle.histar_flat.specs.declared.calls.UnixCall.{UnixCall}
use Rattle.histar_flat.specs.declared.calls.UnixCall.TheVariants.{Create, Spawn, Exit, Kill, Login, Wrap}
use Rattle.histar_flat.specs.declared.replies.Errno.{Errno}
use Rattle.histar_flat.specs.declared.replies.Reply.TheVariants.{Done}
use Rattle.histar_flat.specs.Words.{ProcName}
use Rattle.histar_flat.specs.PathOrder.{under_process}
use Rattle.histar_flat.specs.Accounts.{Accounts}
use Rattle.histar_flat.specs.Classes.{Process}
use Rattle.histar_flat.specs.FlatState.{Flat, with_process, was_given, is_given}
use Rattle.histar_flat.specs.FlatCalls.{next_child, running, refused, changed, answer, reply_or, flat_or}
use Rattle.histar_flat.specs.FlatCalls.{reply_by, flat_by, reply_to, flat_after}
use Rattle.histar_flat.specs.Meaning.{boot, flat_end}
use Rattle.histar_flat.proofs.FileLemmas.{Found, same_name_found}
use Rattle.histar_flat.proofs.Changes.{runs_is_there}
use Rattle.histar_reasons.specs.Reasons.Absence.{WasKilled}
use Rattle.histar_reasons.specs.Laws.{AbsenceIsSo, WasKilledIn, KilledWereKilled}
use Rattle.histar_reasons.proofs.Absent.{absences_are_so}
use Rattle.histar_reasons.proofs.Spoken.{still_there, first_at_end}

-- no child has a number of a process that has no child
none_born : (n : ℕ) → (nat_le 1 n && nat_le n 0) ≡ true → ⊥
none_born n h = let parts = and_parts (nat_le 1 n) (nat_le n 0) h in let one = leb-true 1 n parts.0 in let none = leb-true n 0 parts.1 in omega arith

-- a number that was given after a birth is the new one, or was given before
last_or_before : (born n : ℕ) → (nat_le 1 n && nat_le n (born + 1)) ≡ true → (n ≡ born + 1) ⊎ ((nat_le 1 n && nat_le n born) ≡ true)
last_or_before born n h =
    let parts = and_parts (nat_le 1 n) (nat_le n (born + 1)) h in
    let most = leb-true n (born + 1) parts.1 in
    elim (cases_Bool (nat_le n born)) [
      | inl few ↦ inr (and_from (nat_le 1 n) (nat_le n born) parts.0 few)
      | inr more ↦ inl (let over = leb-false n born more in omega arith)
    ]

-- what was not cut is there
not_cut : (b : Bool) (o : Option Process) → is_some (cond b None o) ≡ true → b ≡ false
not_cut true o h = absurd (true≢false (sym h))
not_cut false o h = refl

module _ (n : ℕ) (above : ProcName) where
  -- if the process above is there and has given the number, then the process is there
  abbrev Stands : Flat → Type 0
  Stands f = is_some (f.processes above) ≡ true → was_given (f.processes above) n ≡ true → is_some (f.processes (n ∷ above)) ≡ true

  -- so it is after the change of a process that has as many children
  with_changed : (f : Flat) (me : ProcName) (p q : Process) → f.processes me ≡ Some p → q.born ≡ p.born → Stands f → Stands (with_process f me q)
  with_changed f me p q here born stands there given =
      still_there (same me (n ∷ above)) q (f.processes (n ∷ above)) (by (same_name_found me above) there given)
    where
      by : Found (same me above) me above → is_some (cond (same me above) (Some q) (f.processes above)) ≡ true
          → was_given (cond (same me above) (Some q) (f.processes above)) n ≡ true
          → is_some (f.processes (n ∷ above)) ≡ true
      by (inl e) there given =
          let is : f.processes above ≡ Some p = ap f.processes (sym e.1) ∙ here in
          stands (ap is_some is)
          (ap (λ o. was_given o n) is ∙ ap (λ k. nat_le 1 n && nat_le n k) (sym born)
          ∙ sym (ap (λ b. was_given (cond b (Some q) (f.processes above)) n) e.0) ∙ given)
      by (inr e) there given =
          stands (sym (ap (λ b. is_some (cond b (Some q) (f.processes above))) e.0) ∙ there)
          (sym (ap (λ b. was_given (cond b (Some q) (f.processes above)) n) e.0) ∙ given)

  -- so it is after a birth
  at_birth : (f : Flat) (me : ProcName) (p q child : Process) → f.processes me ≡ Some p → q.born ≡ p.born + 1 → child.born ≡ 0 → Stands f
      → Stands (with_process (with_process f me q) (next_child me p) child)
  at_birth f me p q child here born young stands = by (same_name_found (next_child me p) (n ∷ above)) (same_name_found (next_child me p) above)
      (same_name_found me above)
    where
      by : Found (same (next_child me p) (n ∷ above)) (next_child me p) (n ∷ above) → Found (same (next_child me p) above) (next_child me p) above
          → Found (same me above) me above → Stands (with_process (with_process f me q) (next_child me p) child)
      by (inl new) other parent there given =
          ap (λ b. is_some (cond b (Some child) (cond (same me (n ∷ above)) (Some q) (f.processes (n ∷ above))))) new.0
      by (inr old) (inl e) parent there given =
          absurd (none_born n (ap (λ k. nat_le 1 n && nat_le n k) (sym young)
          ∙ sym (ap (λ b. was_given (cond b (Some child) (cond (same me above) (Some q) (f.processes above))) n) e.0) ∙ given))
      by (inr old) (inr e) (inl m) there given =
          let all : (nat_le 1 n && nat_le n (p.born + 1)) ≡ true =
          ap (λ k. nat_le 1 n && nat_le n k) (sym born)
          ∙ sym (ap (λ b. was_given (cond b (Some q) (f.processes above)) n) m.0)
          ∙ sym (ap (λ b. was_given (cond b (Some child) (cond (same me above) (Some q) (f.processes above))) n) e.0) ∙ given in
          let is : f.processes above ≡ Some p = ap f.processes (sym m.1) ∙ here in
          elim (last_or_before p.born n all) [
            | inl last ↦ absurd (old.1 (ap (λ k. k ∷ me) (sym last) ∙ ap (λ x. n ∷ x) m.1))
            | inr before ↦
                ap (λ b. is_some (cond b (Some child) (cond (same me (n ∷ above)) (Some q) (f.processes (n ∷ above))))) old.0
                ∙ still_there (same me (n ∷ above)) q (f.processes (n ∷ above)) (stands (ap is_some is) (ap (λ o. was_given o n) is ∙ before))
          ]
      by (inr old) (inr e) (inr m) there given =
          ap (λ b. is_some (cond b (Some child) (cond (same me (n ∷ above)) (Some q) (f.processes (n ∷ above))))) old.0
          ∙ still_there (same me (n ∷ above)) q (f.processes (n ∷ above))
          (stands
          (sym (ap (λ b. is_some (cond b (Some q) (f.processes above))) m.0)
          ∙ sym (ap (λ b. is_some (cond b (Some child) (cond (same me above) (Some q) (f.processes above)))) e.0) ∙ there)
          (sym (ap (λ b. was_given (cond b (Some q) (f.processes above)) n) m.0)
          ∙ sym (ap (λ b. was_given (cond b (Some child) (cond (same me above) (Some q) (f.processes above))) n) e.0) ∙ given))

  -- a call takes the process, or one above it
  abbrev Takes : UnixCall → Type 0
  Takes call = (target : ProcName) × (call ≡ Kill target) × (under_process target (n ∷ above) ≡ true)

  -- after each change the process stands, or a kill has taken it
  by_call : (accounts : Accounts) (f : Flat) (me : ProcName) (p : Process) → f.processes me ≡ Some p → Stands f
      → (call : UnixCall) → Stands (changed accounts f me p call) ⊎ Takes call
  by_call accounts f me p here stands (Create q mode) = inl stands
  by_call accounts f me p here stands Spawn = inl (at_birth f me p _ _ here refl refl stands)
  by_call accounts f me p here stands (Exit k) = inl (with_changed f me p _ here refl stands)
  by_call accounts f me p here stands (Login name password) = inl (with_changed f me p _ here refl stands)
  by_call accounts f me p here stands (Wrap q) = inl (at_birth f me p _ _ here refl refl stands)
  by_call accounts f me p here stands (Kill target) = elim (cases_Bool (under_process target (n ∷ above))) [
    | inl e ↦ inr (target, refl, e)
    | inr e ↦
        inl (λ there given.
        let kept = not_cut (under_process target above) (f.processes above) there in
        ap (λ b. is_some (cond b None (f.processes (n ∷ above)))) e
        ∙ stands (sym (ap (λ b. is_some (cond b None (f.processes above))) kept) ∙ there)
        (sym (ap (λ b. was_given (cond b None (f.processes above)) n) kept) ∙ given))
  ]
  by_call accounts f me p here stands _ = inl stands

  -- a line leaves the process standing, or is a kill that takes it and is done
  by_line : (accounts : Accounts) (f : Flat) → Stands f → (me : ProcName) (call : UnixCall)
      → Stands (flat_after accounts f me call) ⊎ (Takes call × (reply_to accounts f me call ≡ Done))
  by_line accounts f stands me call = by (running f me) refl
    where
      by_refusal : (p : Process) → f.processes me ≡ Some p → (u : Option Errno)
          → Stands (flat_or u f (changed accounts f me p call)) ⊎ (Takes call × (reply_or u (answer f me p call) ≡ Done))
      by_refusal p here (Some e) = inl stands
      by_refusal p here None = elim (by_call accounts f me p here stands call) [
        | inl s ↦ inl s
        | inr t ↦ inr (t, ap (answer f me p) t.1)
      ]

      by : (o : Option Process) → running f me ≡ o → Stands (flat_by accounts f me o call) ⊎ (Takes call × (reply_by accounts f me o call ≡ Done))
      by None e = inl stands
      by (Some p) e = by_refusal p (runs_is_there (f.processes me) p e) (refused accounts f me p call)

  -- if it stood, its number was given by a process that is there, and it is not there at the end, then a line took it
  taken : (accounts : Accounts) (f : Flat) (calls : List CallLine) → Stands f → is_some ((flat_end accounts f calls).processes above) ≡ true
      → was_given ((flat_end accounts f calls).processes above) n ≡ true → (flat_end accounts f calls).processes (n ∷ above) ≡ None
      → WasKilledIn accounts f calls (n ∷ above)
  taken accounts f [] stands there given gone = absurd (true≢false (sym (stands there given) ∙ ap is_some gone))
  taken accounts f (c ∷ calls) stands there given gone = elim (by_line accounts f stands c.process c.call) [
    | inl s ↦
        let rest = taken accounts (flat_after accounts f c.process c.call) calls s there given gone in
        record {
          before = c ∷ rest.before;
          line = rest.line;
          after = rest.after;
          parts = ap (λ l. c ∷ l) rest.parts;
          target = rest.target;
          kills = rest.kills;
          above = rest.above;
          done = rest.done;
        }
    | inr t ↦ record { before = []; line = c; after = calls; parts = refl; target = t.0.0; kills = t.0.1; above = t.0.2; done = t.1 }
  ]

-- at the start only process 0 is there, and no number was given
stands_at_start : (accounts : Accounts) (n : ℕ) (above : ProcName) → Stands n above (boot accounts)
stands_at_start accounts n [] there given = absurd (none_born n given)
stands_at_start accounts n (m ∷ above) there given = absurd (true≢false (sym there))

-- what is said to have been killed was
by_name : (accounts : Accounts) (calls : List CallLine) (me name : ProcName)
    → AbsenceIsSo (flat_end accounts (boot accounts) calls) me (WasKilled name)
    → WasKilledIn accounts (boot accounts) calls name
by_name accounts calls me [] so = absurd (true≢false (sym (first_at_end accounts (boot accounts) refl calls) ∙ ap is_some so.2))
by_name accounts calls me (n ∷ above) so =
    let end = flat_end accounts (boot accounts) calls in
    taken n above accounts (boot accounts) calls (stands_at_start accounts n above) so.3
    (and_parts (was_given (end.processes above) n) (is_given end.processes above) so.1).0 so.2

pub killed_were_killed : KilledWereKilled
killed_were_killed accounts calls me name still said =
    by_name accounts calls me name
    (subst (AbsenceIsSo (flat_end accounts (boot accounts) calls) me) said (absences_are_so (flat_end accounts (boot accounts) calls) me still))
