-- A process that was never started is not among those that were started.
use Rattle.std.proofs.Common.{◌≡◌, ◌≢◌, ◌⊎◌, Bool, true, false, cond, ◌||◌, List, [], ◌∷◌}
use Rattle.std.proofs.Common.{◌++◌, Option, None, Some, refl, sym, ap, ◌∙◌, subst, inl, inr}
use Rattle.std.specs.Prelude.{is_some}
use Rattle.std.specs.Option.{option_to_list}
use Rattle.std.proofs.lemmas.Slice.Eq.{bytes_eq-Decides}
use Rattle.histar_base.specs.Paths.{same}
use Rattle.histar_flat.specs.declared.calls.CallLine.{CallLine}
use Rattle.histar_flat.specs.declared.replies.Errno.{Errno}
use Rattle.histar_flat.specs.declared.replies.Errno.TheVariants.{EAUTH}
use Rattle.histar_flat.specs.declared.replies.Reply.{Reply}
use Rattle.histar_flat.specs.declared.replies.Reply.TheVariants.{Done, Data, Entries, Stats, Child, Running, Exited, User, Refused, Gone}
use Rattle.histar_flat.specs.Words.{Name, Path, ProcName}
use Rattle.histar_flat.specs.Accounts.{Accounts, has}
use Rattle.histar_flat.specs.FlatState.{Flat}
use Rattle.histar_flat.specs.FlatCalls.{flat_after, reply_to, running}
use Rattle.histar_flat.specs.Meaning.{boot, flat_end}
use Rattle.histar_cells.specs.Whose.{user_running}
use Rattle.histar_reasons.specs.Reasons.{absence}
use Rattle.histar_reasons.specs.Reasons.Absence.{HasExited, WasKilled, WasNeverStarted}
use Rattle.histar_reasons.proofs.Started.{never_started_were_not}
use Rattle.histar_policy.specs.declared.notes.Asked.{Asked}
use Rattle.histar_policy.specs.declared.notes.Asked.TheVariants.{LogsIn, Wraps, Makes, Writes, Other}
use Rattle.histar_policy.specs.Laws.{UnstartedAreSaid, started_by}
use Rattle.histar_policy.specs.Notes.{asked_of, done_event, event_by, event_of, notes_from, refusal_event}
use Rattle.histar_policy.specs.Takers.{made_event, wrote_event}
use Rattle.histar_policy.specs.Warnings.{child_of}
use Rattle.histar_policy.proofs.Used.{any_append}

module _ (accounts : Accounts) (f : Flat) (me : ProcName) where
  -- a refusal starts nothing
  refusal_starts : (asked : Asked) (e : Errno) → child_of (refusal_event asked e) ≡ None
  refusal_starts Wraps e = refl
  refusal_starts (Makes q shared) e = refl
  refusal_starts (Writes q) e = refl
  refusal_starts Other e = refl
  refusal_starts (LogsIn user) e = by e
    where
      by : (e : Errno) → child_of (refusal_event (LogsIn user) e) ≡ None
      by EAUTH = refl
      by _ = refl

  -- nor does what makes a file or a directory, or writes a file
  made_starts : (q : Path) (shared : Bool) (maker : Option Name) → child_of (made_event accounts f q shared maker) ≡ None
  made_starts q shared None = refl
  made_starts q shared (Some maker) = refl

  wrote_starts : (q : Path) (user : Option Name) → child_of (wrote_event q user) ≡ None
  wrote_starts q None = refl
  wrote_starts q (Some user) = refl

  done_starts : (asked : Asked) → child_of (done_event accounts f me asked) ≡ None
  done_starts Wraps = refl
  done_starts (Makes q shared) = made_starts q shared (user_running f me)
  done_starts (Writes q) = wrote_starts q (user_running f me)
  done_starts Other = refl
  done_starts (LogsIn user) = refl

  -- a child that is noted is the one of the reply
  child_is : (asked : Asked) (reply : Reply) (child : ProcName) → child_of (event_by accounts f me asked reply) ≡ Some child
      → reply ≡ Child child
  child_is asked Done child e = let none = done_starts asked in absurd cc
  child_is asked (Data bytes) child e = absurd cc
  child_is asked (Entries listing) child e = absurd cc
  child_is asked (Stats stat) child e = absurd cc
  child_is Wraps (Child born) child e = let same_child : born ≡ child = cc in ap (λ (c : ProcName). Child c) same_child
  child_is Other (Child born) child e = let same_child : born ≡ child = cc in ap (λ (c : ProcName). Child c) same_child
  child_is (Makes q shared) (Child born) child e = let same_child : born ≡ child = cc in ap (λ (c : ProcName). Child c) same_child
  child_is (Writes q) (Child born) child e = let same_child : born ≡ child = cc in ap (λ (c : ProcName). Child c) same_child
  child_is (LogsIn user) (Child born) child e = let same_child : born ≡ child = cc in ap (λ (c : ProcName). Child c) same_child
  child_is asked Running child e = absurd cc
  child_is asked (Exited n) child e = absurd cc
  child_is asked (User name confined) child e = absurd cc
  child_is asked (Refused errno) child e = let none = refusal_starts asked errno in absurd cc
  child_is asked Gone child e = absurd cc

-- a name among some and an optional one is among the former, or is the latter
either : (started : List ProcName) (child : Option ProcName) (me : ProcName) → has (started ++ option_to_list child) me ≡ true
    → (has started me ≡ true) ⊎ (child ≡ Some me)
either started None me h = by (has started me) (sym (any_append (same me) started []) ∙ h)
  where
    by : (b : Bool) → (b || false) ≡ true → (b ≡ true) ⊎ (None ≡ Some me)
    by true e = inl refl
    by false e = absurd cc
either started (Some child) me h = by (has started me) (same me child) refl (sym (any_append (same me) started (child ∷ [])) ∙ h)
  where
    by : (b c : Bool) → same me child ≡ c → (b || (c || false)) ≡ true → (b ≡ true) ⊎ (Some child ≡ Some me)
    by true c is e = inl refl
    by false true is e = inr (ap (λ (p : ProcName). Some p) (sym ((bytes_eq-Decides me child).0 is)))
    by false false is e = absurd cc

-- a line of these calls started the process
record WasStarted (accounts : Accounts) (f : Flat) (calls : List CallLine) (me : ProcName) : Type 0 where
  pub before : List CallLine
  pub line : CallLine
  pub after : List CallLine
  pub parts : calls ≡ before ++ line ∷ after
  pub starts : reply_to accounts (flat_end accounts f before) line.process line.call ≡ Child me

-- each of those that were started was there at first, or was started by a line
started_is : (accounts : Accounts) (f : Flat) (started : List ProcName) (calls : List CallLine) (me : ProcName)
    → has (started_by started (notes_from accounts f calls)) me ≡ true → (has started me ≡ true) ⊎ WasStarted accounts f calls me
started_is accounts f started [] me h = inl h
started_is accounts f started (c ∷ calls) me h =
    let reply = reply_to accounts f c.process c.call in
    let next = flat_after accounts f c.process c.call in
    let child = child_of (event_of accounts f c.process c.call) in
    elim (started_is accounts next (started ++ option_to_list child) calls me h) [
      | inl now ↦ elim (either started child me now) [
        | inl before ↦ inl before
        | inr is ↦
            inr (record {
              before = [];
              line = c;
              after = calls;
              parts = refl;
              starts = child_is accounts next c.process (asked_of c.call) reply me is;
            })
      ]
      | inr later ↦
          inr (record {
            before = c ∷ later.before;
            line = later.line;
            after = later.after;
            parts = ap (λ (l : List CallLine). c ∷ l) later.parts;
            starts = later.starts;
          })
    ]

-- process 0 was started
zero_is : (f : Flat) → absence f [] ≢ WasNeverStarted
zero_is f never = by (is_some (f.processes [])) never
  where
    by : (b : Bool) → cond b HasExited (WasKilled []) ≡ WasNeverStarted → ⊥
    by true e = cc
    by false e = cc

pub unstarted_are_said : UnstartedAreSaid
unstarted_are_said accounts before me gone never = by (has (started_by ([] ∷ []) (notes_from accounts (boot accounts) before)) me) refl
  where
    by : (b : Bool) → has (started_by ([] ∷ []) (notes_from accounts (boot accounts) before)) me ≡ b → b ≡ false
    by false is = refl
    by true is =
        elim (started_is accounts (boot accounts) ([] ∷ []) before me is) [
          | inl first ↦ absurd (at_first me first never)
          | inr was ↦
              absurd (never_started_were_not accounts was.before was.after was.line me
              (subst (λ (l : List CallLine). running (flat_end accounts (boot accounts) l) me ≡ None) was.parts gone)
              (subst (λ (l : List CallLine). absence (flat_end accounts (boot accounts) l) me ≡ WasNeverStarted) was.parts never) was.starts)
        ]
      where
        at_first : (me : ProcName) → has ([] ∷ []) me ≡ true
            → absence (flat_end accounts (boot accounts) before) me ≡ WasNeverStarted → ⊥
        at_first [] h is_never = zero_is (flat_end accounts (boot accounts) before) is_never
        at_first (n ∷ p) h is_never = absurd cc
