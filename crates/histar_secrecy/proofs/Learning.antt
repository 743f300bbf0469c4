-- Outsiders learn nothing while the trusted are silent.
use Rattle.std.specs.Prelude.{◌≡◌, ℕ, Bool, true, false, not, ◌&&◌, List, [], ◌∷◌, Some, filter, map, refl}
use Rattle.std.specs.List.{list_all}
use Rattle.std.proofs.Common.{ap, sym, ◌∙◌, subst, inl, inr}
use Rattle.std.proofs.lemmas.Bool.{true≢false, and_parts, not-true, or_parts, cases_Bool}
use Rattle.histar_flat.specs.declared.calls.CallLine.{CallLine}
use Rattle.histar_flat.specs.declared.calls.UnixCall.{UnixCall}
use Rattle.histar_flat.specs.Words.{Path, ProcName}
use Rattle.histar_flat.specs.Accounts.{Accounts}
use Rattle.histar_flat.specs.Classes.{Class, Process}
use Rattle.histar_flat.specs.FlatState.{Flat, is_some_and, with_bytes}
use Rattle.histar_flat.specs.FlatCalls.{flat_after, reply_to, running}
use Rattle.histar_flat.specs.Meaning.{RepliedCall, answered_from}
use Rattle.histar_secrecy.specs.Ways.{reads_all, way_to}
use Rattle.histar_secrecy.specs.Roles.{is_bound, is_confined, is_outsider, is_trusted, logs_in_as_reader}
use Rattle.histar_secrecy.specs.Noninterference.{HasFile, IsReached, ShowsRole, OutsidersCallTheSame, OutsidersLearnNothing, RolesAreShown}
use Rattle.histar_secrecy.specs.Noninterference.{OutsidersLearnAsIfAlone, no_reader_logs_in, outside_calls, outside_replies, trusted_are_silent}
use Rattle.histar_secrecy.specs.Leaks.{replies_from}
use Rattle.histar_secrecy.specs.Release.{DiffersInBytes, line_of, not_confined}
use Rattle.histar_secrecy.proofs.BoundJobs.{IsBegun, confined_is_bound}
use Rattle.histar_secrecy.proofs.Keepers.{allows_untrusted, silent_cast}
use Rattle.histar_secrecy.proofs.OtherBytes.{begun_there, begun_with, other_bytes_differ}
use Rattle.histar_secrecy.proofs.Readers.{bound_parts, reads_all_holding}
use Rattle.histar_secrecy.proofs.Released.{Goes, runs_with}

-- a run of calls alone
alone : (accounts : Accounts) (t : Flat) (calls : List CallLine)
    → replies_from accounts t (map (λ (c : CallLine). (c.process, c.call)) calls)
    ≡ map (λ (a : RepliedCall). a.reply) (answered_from accounts t calls)
alone accounts t [] = refl
alone accounts t (c ∷ calls) = λ i. reply_to accounts t c.process c.call ∷ alone accounts (flat_after accounts t c.process c.call) calls i

-- ---- the calls of those who pass a test

module _ (out : ProcName → Bool) where
  abbrev those : List CallLine → List CallLine
  those calls = filter (λ (c : CallLine). out c.process) calls

  abbrev told : List RepliedCall → List RepliedCall
  told as' = filter (λ (a : RepliedCall). out a.call.process) as'

  lines_are : (accounts : Accounts) (s : Flat) (calls : List CallLine)
      → map line_of (told (answered_from accounts s calls)) ≡ map (λ (c : CallLine). (c.process, c.call)) (those calls)
  lines_are accounts s [] = refl
  lines_are accounts s (c ∷ calls) = elim (cases_Bool (out c.process)) [
    | inl o ↦ rw o (ap (λ (l : List (ProcName × UnixCall)). (c.process, c.call) ∷ l)
        (lines_are accounts (flat_after accounts s c.process c.call) calls))
    | inr o ↦ rw o (lines_are accounts (flat_after accounts s c.process c.call) calls)
  ]

  twice : (calls : List CallLine) → those (those calls) ≡ those calls
  twice [] = refl
  twice (c ∷ calls) = elim (cases_Bool (out c.process)) [
    | inl o ↦ rw (o, o) (ap (λ (l : List CallLine). c ∷ l) (twice calls))
    | inr o ↦ rw o (twice calls)
  ]

  all_told : (accounts : Accounts) (t : Flat) (calls : List CallLine)
      → told (answered_from accounts t (those calls)) ≡ answered_from accounts t (those calls)
  all_told accounts t [] = refl
  all_told accounts t (c ∷ calls) = elim (cases_Bool (out c.process)) [
    | inl o ↦ rw (o, o) (ap (λ (l : List RepliedCall). record { call = c; reply = reply_to accounts t c.process c.call } ∷ l)
        (all_told accounts (flat_after accounts t c.process c.call) calls))
    | inr o ↦ rw o (all_told accounts t calls)
  ]

  -- if those who pass one test don't pass another, none of them does
  none_of : (test : ProcName → Bool) → ((x : ProcName) → out x ≡ true → test x ≡ true) → (calls : List CallLine)
      → list_all (λ (c : CallLine). test c.process) (those calls) ≡ true
  none_of test so [] = refl
  none_of test so (c ∷ calls) = elim (cases_Bool (out c.process)) [
    | inl o ↦ rw o (λ i. so c.process o i && none_of test so calls i)
    | inr o ↦ rw o (none_of test so calls)
  ]

module _ (accounts : Accounts) (way : List Class) (f : Flat) where
  abbrev outside : ProcName → Bool
  outside x = is_outsider accounts way f x

  -- while the trusted are silent, those who are not confined are the outsiders
  shown_is : (s : Flat) (calls : List CallLine) → trusted_are_silent accounts way f calls ≡ true
      → not_confined (is_confined accounts way f) (λ x. false) [] (answered_from accounts s calls) ≡ told outside (answered_from accounts s calls)
  shown_is s [] silent = refl
  shown_is s (c ∷ calls) silent =
      let parts = and_parts (not (is_trusted accounts way f c.process)) (trusted_are_silent accounts way f calls) silent in
      let untrusted = not-true (is_trusted accounts way f c.process) parts.0 in
      let rest = shown_is (flat_after accounts s c.process c.call) calls parts.1 in
      elim (cases_Bool (is_confined accounts way f c.process)) [
        | inl h ↦ rw (untrusted, h) rest
        | inr h ↦ rw (untrusted, h) (ap (λ (l : List RepliedCall). record { call = c; reply = reply_to accounts s c.process c.call } ∷ l) rest)
      ]

  -- an outsider is not trusted
  untrusted_outside : (x : ProcName) → outside x ≡ true → not (is_trusted accounts way f x) ≡ true
  untrusted_outside x o = (and_parts (not (is_trusted accounts way f x)) (not (is_confined accounts way f x)) o).0

  -- the calls of outsiders are allowed
  allowed_outside : (calls : List CallLine)
      → list_all (λ (c : ProcName × UnixCall). not (logs_in_as_reader accounts way c.1)) (map (λ (c : CallLine). (c.process, c.call)) calls) ≡ true
      → list_all (λ (c : CallLine). not (is_trusted accounts way f c.process)) calls ≡ true
      → list_all (λ (c : ProcName × UnixCall). allows_untrusted accounts way f c.0 c.1) (map (λ (c : CallLine). (c.process, c.call)) calls) ≡ true
  allowed_outside [] none silent = refl
  allowed_outside (c ∷ calls) none silent =
      let n = and_parts (not (logs_in_as_reader accounts way c.call)) _ none in
      let s = and_parts (not (is_trusted accounts way f c.process)) _ silent in
      λ i. (s.0 i && n.0 i) && allowed_outside calls n.1 s.1 i

  -- lists that go alike, of the same calls of outsiders, have the same replies
  same_told : (as' bs : List RepliedCall) → Goes (is_trusted accounts way f) (allows_untrusted accounts way f) as' bs
      → map line_of as' ≡ map line_of bs
      → list_all (λ (c : ProcName × UnixCall). allows_untrusted accounts way f c.0 c.1) (map line_of as') ≡ true
      → map (λ (a : RepliedCall). a.reply) as' ≡ map (λ (b : RepliedCall). b.reply) bs
  same_told [] [] go lines ok = refl
  same_told [] (b ∷ bs) go lines ok = absurd (cc)
  same_told (a ∷ as') [] go lines ok = absurd (cc)
  same_told (a ∷ as') (b ∷ bs) go lines ok =
      let line : line_of a ≡ line_of b = cc in
      let rest : map line_of as' ≡ map line_of bs = cc in
      let parts = and_parts (allows_untrusted accounts way f a.call.process a.call.call) _ ok in
      let out = not-true (is_trusted accounts way f a.call.process)
      ((and_parts (not (is_trusted accounts way f a.call.process)) (not (logs_in_as_reader accounts way a.call.call)) parts.0).0) in
      let goes = go (ap (λ x. x.0) line) (ap (λ x. x.1) line) parts.0 in
      let later = same_told as' bs (goes.1 (λ may. goes.0 out)) rest parts.1 in
      λ i. goes.0 out i ∷ later i

-- Two runs from other bytes tell outsiders the same.
pub learn_nothing : {accounts : Accounts} {way : List Class} {f : Flat} → IsBegun accounts way f → (s t : Flat)
    → DiffersInBytes way f s → DiffersInBytes way f t → (calls others : List CallLine) → OutsidersCallTheSame accounts way f calls others
    → outside_replies accounts way f s calls ≡ outside_replies accounts way f t others
learn_nothing {accounts} {way} {f} begun s t one other calls others same =
    same_told accounts way f (told out (answered_from accounts s calls)) (told out (answered_from accounts t others)) goes
    (lines_are out accounts s calls ∙ same.alike ∙ sym (lines_are out accounts t others))
    (ap (list_all (λ (c : ProcName × UnixCall). allows_untrusted accounts way f c.0 c.1)) (lines_are out accounts s calls)
    ∙ allowed_outside accounts way f (those out calls) same.no_login
    (none_of out (λ x. not (is_trusted accounts way f x)) (untrusted_outside accounts way f) calls))
  where
    out : ProcName → Bool
    out x = is_outsider accounts way f x

    goes : Goes (is_trusted accounts way f) (allows_untrusted accounts way f)
        (filter (λ (a : RepliedCall). is_outsider accounts way f a.call.process) (answered_from accounts s calls))
        (filter (λ (a : RepliedCall). is_outsider accounts way f a.call.process) (answered_from accounts t others))
    goes = subst (λ l. Goes (is_trusted accounts way f) (allows_untrusted accounts way f) l
        (filter (λ (a : RepliedCall). is_outsider accounts way f a.call.process) (answered_from accounts t others)))
        (shown_is accounts way f s calls same.silent)
        (subst (λ l. Goes (is_trusted accounts way f) (allows_untrusted accounts way f)
        (not_confined (is_confined accounts way f) (λ x. false) [] (answered_from accounts s calls)) l)
        (shown_is accounts way f t others same.others_silent) (runs_with begun (silent_cast begun) s t one other calls others))

pub outsiders_learn_nothing : OutsidersLearnNothing
outsiders_learn_nothing accounts f reached path way file one other calls others same =
    learn_nothing (begun_with accounts f reached path way file) (with_bytes f path one)
    (with_bytes f path other) (other_bytes_differ f path way file one) (other_bytes_differ f path way file other) calls others same

pub outsiders_learn_as_if_alone : OutsidersLearnAsIfAlone
outsiders_learn_as_if_alone accounts f reached path way file one other calls silent away =
    outsiders_learn_nothing accounts f reached path way file one other calls (those out calls) (record {
      silent = silent;
      others_silent = none_of out (λ x. not (is_trusted accounts way f x)) (untrusted_outside accounts way f) calls;
      alike = sym (ap (map (λ (c : CallLine). (c.process, c.call))) (twice out calls));
      no_login = away;
    })
    ∙ ap (map (λ (a : RepliedCall). a.reply)) (all_told out accounts (with_bytes f path other) calls)
  where
    out : ProcName → Bool
    out x = is_outsider accounts way f x

-- with any bytes in the file outsiders have the replies of a run of their calls alone with the first bytes
pub replies_are : (accounts : Accounts) (f : Flat) → IsReached accounts f → (path : Path) (way : List Class) → HasFile f path way
    → (one other : List ℕ) (calls : List CallLine) → trusted_are_silent accounts way f calls ≡ true
    → no_reader_logs_in accounts way f calls ≡ true
    → outside_replies accounts way f (with_bytes f path other) calls
    ≡ replies_from accounts (with_bytes f path one) (outside_calls accounts way f calls)
replies_are accounts f reached path way file one other calls silent away =
    outsiders_learn_as_if_alone accounts f reached path way file other one calls silent away
    ∙ sym (alone accounts (with_bytes f path one) (filter (λ (c : CallLine). is_outsider accounts way f c.process) calls))

-- The role of a process can be computed from the process alone.
module _ (accounts : Accounts) (way : List Class) (f : Flat) (begun : IsBegun accounts way f) (me : ProcName) (p : Process)
    (runs : running f me ≡ Some p) where
  trusted_is : is_trusted accounts way f me ≡ (reads_all accounts way p && not (is_bound accounts way p))
  trusted_is = ap (λ o. is_some_and o (λ q. reads_all accounts way q && not (is_bound accounts way q))) runs

  confined_is : is_confined accounts way f me ≡ is_bound accounts way p
  confined_is = elim (cases_Bool (is_confined accounts way f me)) [
    | inl c ↦ c ∙ sym (confined_is_bound begun me p runs c)
    | inr c ↦ c ∙ sym (sym (ap (λ o. is_some_and o (is_bound accounts way)) runs) ∙ alone me c)
  ]
    where
      alone : (x : ProcName) → is_confined accounts way f x ≡ false → is_some_and (running f x) (is_bound accounts way) ≡ false
      alone [] c = c
      alone (n ∷ above) c = (or_parts (is_some_and (running f (n ∷ above)) (is_bound accounts way)) (is_confined accounts way f above) c).0

  outside_is : is_outsider accounts way f me ≡ not (reads_all accounts way p)
  outside_is = (λ i. not (trusted_is i) && not (confined_is i)) ∙ by (reads_all accounts way p) (is_bound accounts way p) bound_reads
    where
      bound_reads : is_bound accounts way p ≡ true → reads_all accounts way p ≡ true
      bound_reads b = reads_all_holding accounts p way (bound_parts accounts way p b).1

      by : (a b : Bool) → (b ≡ true → a ≡ true) → (not (a && not b) && not b) ≡ not a
      by true true h = refl
      by true false h = refl
      by false true h = absurd (true≢false (sym (h refl)))
      by false false h = refl

  pub shown : ShowsRole accounts way f me p
  shown = record { trusted = trusted_is; confined = confined_is; outside = outside_is }

pub roles_are_shown : RolesAreShown
roles_are_shown accounts f reached path me p runs = shown accounts (way_to f path) f (begun_there accounts f reached path) me p runs
