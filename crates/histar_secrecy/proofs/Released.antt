-- Two runs from other bytes in a file: the first reply that differs, to a process that is not confined, is one to an insider.
use Rattle.std.specs.Prelude.{◌≡◌, ℕ, Bool, true, false, not, ◌&&◌, cond, List, [], ◌∷◌, ◌++◌, filter, map, refl}
use Rattle.std.specs.List.{list_all}
use Rattle.std.proofs.Common.{ap, sym, ◌∙◌, subst, inl, inr}
use Rattle.std.proofs.lemmas.Bool.{true≢false, and_parts, not-true, cases_Bool}
use Rattle.histar_flat.specs.declared.calls.CallLine.{CallLine}
use Rattle.histar_flat.specs.declared.calls.UnixCall.{UnixCall}
use Rattle.histar_flat.specs.declared.calls.UnixCall.TheVariants.{Wrap}
use Rattle.histar_flat.specs.declared.replies.Reply.{Reply}
use Rattle.histar_flat.specs.declared.replies.Reply.TheVariants.{Child}
use Rattle.histar_flat.specs.Words.{ProcName}
use Rattle.histar_flat.specs.Accounts.{Accounts}
use Rattle.histar_flat.specs.Classes.{Class, Process}
use Rattle.histar_flat.specs.FlatState.{Flat, IsTree}
use Rattle.histar_flat.specs.FlatCalls.{changed, flat_after, reply_to}
use Rattle.histar_flat.specs.Laws.{NamesAreGiven}
use Rattle.histar_flat.proofs.FileLemmas.{same_itself}
use Rattle.histar_flat.proofs.GivenNames.{given_after}
use Rattle.histar_flat.proofs.Trees.{tree_after}
use Rattle.histar_flat.specs.Meaning.{RepliedCall, answered_from}
use Rattle.histar_noninterference.specs.Comparison.{is_wrap_reply}
use Rattle.histar_noninterference.specs.Isolation.{is_rmdir_or_wrap}
use Rattle.histar_noninterference.proofs.Isolated.{started_now, wrap_line}
use Rattle.histar_noninterference.proofs.Relation.{IsStarted}
use Rattle.histar_secrecy.specs.Ways.{reads_all}
use Rattle.histar_secrecy.specs.Noninterference.{Program}
use Rattle.histar_secrecy.specs.Release.{DifferAt, DiffersInBytes, FirstDifferenceIsTrusted, IsOf, line_of, OnlyInsidersRelease, ReleaseTheSame}
use Rattle.histar_secrecy.specs.Release.{is_insider, is_strangers, logs_in_as_none, may_release, not_confined, replies_to, unconfined, with_started}
use Rattle.histar_secrecy.proofs.Casts.{IsCast, IsJob, IsOn, is_hidden, on_after, placed_itself, with_job}
use Rattle.histar_secrecy.proofs.Keepers.{allows, file_cast}
use Rattle.histar_secrecy.proofs.Knowing.{AreJobs}
use Rattle.histar_secrecy.proofs.BoundJobs.{IsBegun}
use Rattle.histar_secrecy.proofs.OtherBytes.{begun_with, differs_veiled, is_with_files, jobs_as, same_shown, started_as}
use Rattle.histar_secrecy.proofs.Veil.{IsVeil, joined_veiled, turned_veiled, way_veil}
use Rattle.histar_secrecy.proofs.Releasing.{IsWay, confined_step, longer, open_line, with_more}

module _ (insider : ProcName → Bool) (allowed : ProcName → UnixCall → Bool) where
  -- As far as both lists go: if the same process makes the same call, and the call is allowed, all but insiders are told the same; and if a
  -- `rmdir` or `wrap` of an insider is told the same, so on.
  abbrev pub Goes : List RepliedCall → List RepliedCall → Type 0
  Goes [] bs = Unit {0}
  Goes (a ∷ as') [] = Unit {0}
  Goes (a ∷ as') (b ∷ bs) = a.call.process ≡ b.call.process → a.call.call ≡ b.call.call → allowed a.call.process a.call.call ≡ true
      → (insider a.call.process ≡ false → a.reply ≡ b.reply)
      × (((insider a.call.process && is_rmdir_or_wrap a.call.call) ≡ true → a.reply ≡ b.reply) → Goes as' bs)

module _ {accounts : Accounts} {f : Flat} {readers : Process → Bool} {confined insider opens : ProcName → Bool}
    {allowed : ProcName → UnixCall → Bool} (cast : IsCast accounts f readers confined insider opens allowed) {Alike : Flat → Flat → Type 0}
    (veil : IsVeil accounts readers Alike) where
  -- the calls of those who are not hidden
  abbrev shown_from : List ProcName → Flat → List CallLine → List RepliedCall
  shown_from js s calls = not_confined confined opens js (answered_from accounts s calls)

  -- a call that is no `wrap` starts no job
  none_started : (js : List ProcName) (call : UnixCall) → is_rmdir_or_wrap call ≡ false → (reply : Reply) → with_started call reply js ≡ js
  none_started js (Wrap q) quiet reply = absurd (true≢false quiet)
  none_started js call quiet reply = refl

  -- a job that a call has started is a child of the caller's
  started_job : (s : Flat) → AreJobs s → (me : ProcName) (call : UnixCall) (m : ℕ) (w : ProcName)
      → is_wrap_reply (m ∷ w) call (reply_to accounts s me call) ≡ true → (w ≡ me) × IsStarted (m ∷ w) (flat_after accounts s me call)
  started_job s jobs me call m w is = (
    wrap_line accounts s me (m ∷ w) (λ x. w ≡ me) call (λ p n d here e. cc) is,
    wrap_line accounts s me (m ∷ w) (λ x. IsTree x → NamesAreGiven x → IsStarted (m ∷ w) x) call
        (λ p n d here e. subst (λ z. IsTree (changed accounts s me p (Wrap (n ∷ d))) → NamesAreGiven (changed accounts s me p (Wrap (n ∷ d)))
        → IsStarted z (changed accounts s me p (Wrap (n ∷ d)))) (sym e) (started_now accounts s jobs.names me p here n d)) is
        (tree_after s jobs.tree accounts me call) (given_after accounts s me call jobs.tree jobs.names),
  )

  -- The facts, and a way, with the job that a call has started.
  module _ (js : List ProcName) (me : ProcName) (call : UnixCall) (insides : opens me ≡ true) (s t : Flat) (js_s : AreJobs s) (js_t : AreJobs t)
      (on : IsOn cast js (flat_after accounts s me call)) (on' : IsOn cast js (flat_after accounts t me call)) (us : List Flat)
      (way : IsWay cast veil js (flat_after accounts s me call) us (flat_after accounts t me call)) where
    abbrev HoldWith : List ProcName → Type 0
    HoldWith ks = IsOn cast ks (flat_after accounts s me call) × IsOn cast ks (flat_after accounts t me call)
        × IsWay cast veil ks (flat_after accounts s me call) us (flat_after accounts t me call)

    with_reply : (reply : Reply) → reply_to accounts s me call ≡ reply → reply_to accounts t me call ≡ reply → HoldWith (with_started call reply js)
    with_reply reply e k = by call reply (λ job. ap (is_wrap_reply job call) e) (λ job. ap (is_wrap_reply job call) k)
      where
        by : (c : UnixCall) (reply : Reply)
            → ((job : ProcName) → is_wrap_reply job call (reply_to accounts s me call) ≡ is_wrap_reply job c reply)
            → ((job : ProcName) → is_wrap_reply job call (reply_to accounts t me call) ≡ is_wrap_reply job c reply)
            → HoldWith (with_started c reply js)
        by (Wrap q) (Child []) h i = absurd (wrap_line accounts s me [] (λ x. ⊥) call (λ p n d here e. cc) (h []))
        by (Wrap q) (Child (m ∷ w)) h i =
            let a = started_job s js_s me call m w (h (m ∷ w) ∙ same_itself (m ∷ w)) in
            let b = started_job t js_t me call m w (i (m ∷ w) ∙ same_itself (m ∷ w)) in
            let opened = subst (λ z. insider z ≡ true) (sym a.0) (cast.opened me insides) in (
              with_job cast js m w (flat_after accounts s me call) on a.1 opened,
              with_job cast js m w (flat_after accounts t me call) on' b.1 opened,
              with_more cast veil js m w us (flat_after accounts s me call) (flat_after accounts t me call) way,
            )
        by c reply h i = (on, on', way)

    -- the jobs after the call are the same in both runs, if a `wrap` of an insider is answered alike
    next_jobs : ((insider me && is_rmdir_or_wrap call) ≡ true → reply_to accounts s me call ≡ reply_to accounts t me call)
        → HoldWith (with_started call (reply_to accounts s me call) js)
        × (with_started call (reply_to accounts s me call) js ≡ with_started call (reply_to accounts t me call) js)
    next_jobs equal = elim (cases_Bool (is_rmdir_or_wrap call)) [
      | inl loud ↦
          let same = equal (λ i. cast.opened me insides i && loud i) in
          (with_reply (reply_to accounts s me call) refl (sym same), ap (λ r. with_started call r js) same)
      | inr quiet ↦
          let one = none_started js call quiet (reply_to accounts s me call) in
          let other = none_started js call quiet (reply_to accounts t me call) in
          (subst HoldWith (sym one) (on, on', way), one ∙ sym other)
    ]

  -- Two runs from near states go alike.
  pub two_runs : (calls others : List CallLine) (js : List ProcName) (us : List Flat) (s t : Flat) → IsOn cast js s → IsOn cast js t
      → IsWay cast veil js s us t → Goes insider allowed (shown_from js s calls) (shown_from js t others)
  two_runs [] others js us s t on on' way = tt
  two_runs (c ∷ calls) others js us s t on on' way = elim (cases_Bool (is_hidden cast js c.process)) [
    | inl inside ↦
        subst (λ b. Goes insider allowed (shown b) (shown_from js t others)) (sym inside)
        (two_runs calls others js (s ∷ us) s' t (on_after cast js s on c.process c.call (λ o. absurd (true≢false (sym inside ∙ o)))) on'
        ((confined_step cast veil js s on c.process c.call inside).0, way))
    | inr outside ↦
        subst (λ b. Goes insider allowed (shown b) (shown_from js t others)) (sym outside)
        (skip (λ others js us s t on on' way. two_runs calls others js us s t on on' way) outside others us t on' way)
  ]
    where
      s' : Flat
      s' = flat_after accounts s c.process c.call

      first : RepliedCall
      first = record { call = c; reply = reply_to accounts s c.process c.call }

      js' : List ProcName
      js' = cond (opens c.process) (with_started c.call (reply_to accounts s c.process c.call) js) js

      -- the calls after the first one, and with it if it isn't hidden
      shown : Bool → List RepliedCall
      shown b = cond b (shown_from js s' calls) (first ∷ shown_from js' s' calls)

      -- the calls after this one go like any others
      Rest : Type 0
      Rest = (others : List CallLine) (js : List ProcName) (us : List Flat) (s t : Flat) → IsOn cast js s → IsOn cast js t
          → IsWay cast veil js s us t → Goes insider allowed (shown_from js s calls) (shown_from js t others)

      skip : Rest → is_hidden cast js c.process ≡ false → (others : List CallLine) (us : List Flat) (t : Flat) → IsOn cast js t
          → IsWay cast veil js s us t → Goes insider allowed (first ∷ shown_from js' s' calls) (shown_from js t others)
      skip rest outside [] us t on' way = tt
      skip rest outside (d ∷ others) us t on' way = elim (cases_Bool (is_hidden cast js d.process)) [
        | inl inside ↦
            subst (λ b. Goes insider allowed (first ∷ shown_from js' s' calls) (other b)) (sym inside)
            (skip rest outside others (us ++ t ∷ []) t' (on_after cast js t on' d.process d.call (λ o. absurd (true≢false (sym inside ∙ o))))
            (longer cast veil js us s t t' way ((confined_step cast veil js t on' d.process d.call inside).1)))
        | inr free ↦
            subst (λ b. Goes insider allowed (first ∷ shown_from js' s' calls) (other b)) (sym free) both
      ]
        where
          t' : Flat
          t' = flat_after accounts t d.process d.call

          other : Bool → List RepliedCall
          other b = cond b (shown_from js t' others) (record { call = d; reply = reply_to accounts t d.process d.call }
              ∷ shown_from (cond (opens d.process) (with_started d.call (reply_to accounts t d.process d.call) js) js) t' others)

          both : Goes insider allowed (first ∷ shown_from js' s' calls) (other false)
          both process call none =
              let line = open_line cast veil js us s t on on' way c.process c.call outside in
              let as_other : reply_to accounts t c.process c.call ≡ reply_to accounts t d.process d.call =
              λ i. reply_to accounts t (process i) (call i) in (
                λ out. line.told out ∙ as_other,
                λ told.
                    let equal : (insider c.process && is_rmdir_or_wrap c.call) ≡ true
                    → reply_to accounts s c.process c.call ≡ reply_to accounts t c.process c.call =
                    λ may. told may ∙ sym as_other in
                    let ends = line.ends equal in
                    subst (λ ks. Goes insider allowed (shown_from js' s' calls) (shown_from ks t' others))
                    (λ i. cond (opens (process i)) (with_started (call i) (reply_to accounts t (process i) (call i)) js) js)
                    (subst (λ x. Goes insider allowed (shown_from js' s' calls)
                    (shown_from (cond (opens c.process) (with_started c.call (reply_to accounts t c.process c.call) js) js) x others))
                    (λ i. flat_after accounts t (process i) (call i))
                    (by_jobs ends.0 (on_after cast js s on c.process c.call (λ o. none))
                    (on_after cast js t on' c.process c.call (λ o. none)) ends.1 equal)),
              )
            where
              tc : Flat
              tc = flat_after accounts t c.process c.call

              by_jobs : (vs : List Flat) → IsOn cast js s' → IsOn cast js tc → IsWay cast veil js s' vs tc
                  → ((insider c.process && is_rmdir_or_wrap c.call) ≡ true
                  → reply_to accounts s c.process c.call ≡ reply_to accounts t c.process c.call)
                  → Goes insider allowed (shown_from js' s' calls)
                  (shown_from (cond (opens c.process) (with_started c.call (reply_to accounts t c.process c.call) js) js) tc others)
              by_jobs vs on_s on_t way_there equal = by (opens c.process) refl
                where
                  by : (b : Bool) → opens c.process ≡ b
                      → Goes insider allowed (shown_from (cond b (with_started c.call (reply_to accounts s c.process c.call) js) js) s' calls)
                      (shown_from (cond b (with_started c.call (reply_to accounts t c.process c.call) js) js) tc others)
                  by false o = rest others js vs s' tc on_s on_t way_there
                  by true o =
                      let next = next_jobs js c.process c.call o s t on.jobs on'.jobs on_s on_t vs way_there equal in
                      subst (λ ks. Goes insider allowed
                      (shown_from (with_started c.call (reply_to accounts s c.process c.call) js) s' calls) (shown_from ks tc others)) next.1
                      (rest others (with_started c.call (reply_to accounts s c.process c.call) js) vs s' tc next.0.0 next.0.1 next.0.2)

module _ {accounts : Accounts} {way : List Class} {f : Flat} (begun : IsBegun accounts way f) where
  -- with other bytes in such files the facts hold
  module _ {confined insider opens : ProcName → Bool} {allowed : ProcName → UnixCall → Bool}
      (cast : IsCast accounts f (reads_all accounts way) confined insider opens allowed) where
    on_with : (s : Flat) → DiffersInBytes way f s → IsOn cast [] s
    on_with s other = subst (IsOn cast []) (is_with_files other) (record {
      jobs = jobs_as f s.files (same_shown other) begun.jobs;
      given = λ x h. h;
      started = started;
      proper = refl;
      placed = placed_itself cast;
    })
      where
        started : (m : ℕ) (w : ProcName) → IsJob cast [] m w → IsStarted (m ∷ w) (record f { files = s.files })
        started m w (inl k) = started_as f s.files (same_shown other) (m ∷ w) k.started
        started m w (inr none) = absurd (true≢false (sym none))

    -- two runs from other bytes go alike
    pub runs_with : (s t : Flat) → DiffersInBytes way f s → DiffersInBytes way f t → (calls others : List CallLine)
        → Goes insider allowed (not_confined confined opens [] (answered_from accounts s calls))
        (not_confined confined opens [] (answered_from accounts t others))
    runs_with s t one other calls others =
        two_runs cast (way_veil accounts way) calls others [] [] s t (on_with s one) (on_with t other) (inr (record {
          tree = (on_with s one).jobs.tree;
          veiled = joined_veiled (turned_veiled (differs_veiled one)) (differs_veiled other);
        }))

  pub from_bytes : (s t : Flat) → DiffersInBytes way f s → DiffersInBytes way f t → (calls others : List CallLine)
      → Goes (is_insider accounts way f) (allows accounts way f) (unconfined accounts way f s calls)
      (unconfined accounts way f t others)
  from_bytes s t one other calls others = runs_with (file_cast begun) s t one other calls others

-- ---- programs

-- lists that go alike, of calls that follow one program, differ first at an insider
differ_at_insiders : (accounts : Accounts) (way : List Class) (f : Flat) (program : Program) (before : List Reply) (as' bs : List RepliedCall)
    → Goes (is_insider accounts way f) (allows accounts way f) as' bs → IsOf program before as' → IsOf program before bs
    → list_all (logs_in_as_none accounts way f) as' ≡ true
    → DifferAt (is_insider accounts way f) as' bs
differ_at_insiders accounts way f program before [] bs go h k none = tt
differ_at_insiders accounts way f program before (a ∷ as') [] go h k none = tt
differ_at_insiders accounts way f program before (a ∷ as') (b ∷ bs) go h k none =
    let e = h.0 ∙ sym k.0 in
    let parts = and_parts (logs_in_as_none accounts way f a) (list_all (logs_in_as_none accounts way f) as') none in
    let goes = go (ap (λ x. x.0) e) (ap (λ x. x.1) e) parts.0 in (
      ap (λ x. x.0) e,
      ap (λ x. x.1) e,
      goes.0,
      λ r. differ_at_insiders accounts way f program (a.reply ∷ before) as' bs (goes.1 (λ may. r)) h.1
          (subst (λ x. IsOf program (x ∷ before) bs) (sym r) k.1) parts.1,
    )

pub first_difference_is_trusted : FirstDifferenceIsTrusted
first_difference_is_trusted accounts f reached path way file s t one other calls others program first second =
    differ_at_insiders accounts way f program [] (unconfined accounts way f s calls) (unconfined accounts way f t others)
    (from_bytes (begun_with accounts f reached path way file) s t one other calls others)
    first.follows second.follows first.no_login

-- ---- the same calls

module _ (accounts : Accounts) (way : List Class) (f : Flat) where
  -- the replies to calls; the flag says whether the first one is shown
  shown : Bool → RepliedCall → List RepliedCall → List Reply
  shown t a xs = map (λ (y : RepliedCall). y.reply) (cond t (a ∷ xs) xs)

  -- if the same replies are shown, the first ones are the same if they are shown, and the others are
  by_test : (t u : Bool) → t ≡ u → (a b : RepliedCall) (xs ys : List RepliedCall) → shown t a xs ≡ shown u b ys
      → (t ≡ true → a.reply ≡ b.reply) × (map (λ (y : RepliedCall). y.reply) xs ≡ map (λ (y : RepliedCall). y.reply) ys)
  unfolding shown
  by_test true true e a b xs ys h =
      let all : a.reply ∷ map (λ (y : RepliedCall). y.reply) xs ≡ b.reply ∷ map (λ (y : RepliedCall). y.reply) ys = h in
      let one : a.reply ≡ b.reply = cc in
      let rest : map (λ (y : RepliedCall). y.reply) xs ≡ map (λ (y : RepliedCall). y.reply) ys = cc in
      (λ is. one, rest)
  by_test true false e a b xs ys h = absurd (true≢false e)
  by_test false true e a b xs ys h = absurd (true≢false (sym e))
  by_test false false e a b xs ys h = (λ is. absurd (true≢false (sym is)), h)

  -- and the other way round
  together : (t u : Bool) → t ≡ u → (a b : RepliedCall) (xs ys : List RepliedCall) → (t ≡ true → a.reply ≡ b.reply)
      → map (λ (y : RepliedCall). y.reply) xs ≡ map (λ (y : RepliedCall). y.reply) ys → shown t a xs ≡ shown u b ys
  unfolding shown
  together true true e a b xs ys one rest = λ i. one refl i ∷ rest i
  together true false e a b xs ys one rest = absurd (true≢false e)
  together false true e a b xs ys one rest = absurd (true≢false (sym e))
  together false false e a b xs ys one rest = rest

  same_replies : (as' bs : List RepliedCall) → Goes (is_insider accounts way f) (allows accounts way f) as' bs → ReleaseTheSame accounts way f as' bs
      → replies_to (is_strangers accounts way f) as' ≡ replies_to (is_strangers accounts way f) bs
  unfolding shown
  same_replies [] [] go same = refl
  same_replies [] (b ∷ bs) go same = let never : [] ≡ line_of b ∷ map line_of bs = same.alike in absurd (cc)
  same_replies (a ∷ as') [] go same = let never : line_of a ∷ map line_of as' ≡ [] = same.alike in absurd (cc)
  same_replies (a ∷ as') (b ∷ bs) go same =
      let lines : line_of a ∷ map line_of as' ≡ line_of b ∷ map line_of bs = same.alike in
      let line : line_of a ≡ line_of b = cc in
      let rest : map line_of as' ≡ map line_of bs = cc in
      let parts = and_parts (logs_in_as_none accounts way f a) (list_all (logs_in_as_none accounts way f) as') same.no_login in
      let goes = go (ap (λ x. x.0) line) (ap (λ x. x.1) line) parts.0 in
      let released = by_test (may_release accounts way f a) (may_release accounts way f b)
      (ap (λ (x : ProcName × UnixCall). is_insider accounts way f x.0 && is_rmdir_or_wrap x.1) line) a b
      (filter (may_release accounts way f) as') (filter (may_release accounts way f) bs) same.released in
      let later = same_replies as' bs (goes.1 released.0) (record { alike = rest; no_login = parts.1; released = released.1 }) in
      together (is_strangers accounts way f a) (is_strangers accounts way f b)
      (ap (λ (x : ProcName × UnixCall). not (is_insider accounts way f x.0)) line) a b (filter (is_strangers accounts way f) as')
      (filter (is_strangers accounts way f) bs)
      (λ out. goes.0 (not-true (is_insider accounts way f a.call.process) out)) later

pub only_insiders_release : OnlyInsidersRelease
only_insiders_release accounts f reached path way file s t one other calls others same =
    same_replies accounts way f (unconfined accounts way f s calls) (unconfined accounts way f t others)
    (from_bytes (begun_with accounts f reached path way file) s t one other calls others) same
