-- Two states that differ only in jobs of the confined and in veiled bytes, and how a line of a process that is not confined changes them.
use Rattle.std.specs.Prelude.{◌≡◌, ℕ, Bool, true, false, ◌&&◌, ◌||◌, List, [], ◌∷◌, ◌++◌, ◌⊎◌, Option, Some, None, map, refl}
use Rattle.std.proofs.Common.{ap, sym, ◌∙◌, subst, inl, inr}
use Rattle.std.proofs.lemmas.Bool.{true≢false, and_parts, or_cases, or_parts, cases_Bool}
use Rattle.std.proofs.Math.Bool.{or-true}
use Rattle.histar_flat.specs.declared.calls.UnixCall.{UnixCall}
use Rattle.histar_flat.specs.declared.calls.UnixCall.TheVariants.{Rmdir, Rmtree, Wrap}
use Rattle.histar_flat.specs.declared.replies.Errno.{Errno}
use Rattle.histar_flat.specs.declared.replies.Reply.{Reply}
use Rattle.histar_flat.specs.declared.replies.Reply.TheVariants as replies
use Rattle.histar_flat.specs.Words.{Path, ProcName}
use Rattle.histar_flat.specs.PathOrder.{under_process}
use Rattle.histar_base.specs.Paths.{same}
use Rattle.histar_flat.specs.Accounts.{Accounts, has}
use Rattle.histar_flat.specs.Classes.{Process, knows}
use Rattle.histar_flat.specs.FlatState.{Flat, is_some_and}
use Rattle.histar_flat.specs.FlatCalls.{changed, flat_after, flat_by, flat_or, if_running, next_child, refused, reply_by, reply_or, reply_to, running}
use Rattle.histar_flat.proofs.Changes.{runs_is_there}
use Rattle.histar_flat.proofs.FileLemmas.{same_itself}
use Rattle.histar_noninterference.specs.Isolation.{is_rmdir_or_wrap}
use Rattle.histar_noninterference.proofs.Anyone.{anyone}
use Rattle.histar_noninterference.proofs.Inside.{job_step}
use Rattle.histar_noninterference.proofs.Isolated.{same_outside_itself}
use Rattle.histar_noninterference.proofs.Kept.{started_after}
use Rattle.histar_noninterference.proofs.Relation.{IsStarted, SameOutside}
use Rattle.histar_noninterference.proofs.Revealed.{outsider_reply, outsider_state}
use Rattle.histar_noninterference.proofs.Steps.{outside_turned}
use Rattle.histar_noninterference.proofs.Wrapping.{born_alike, born_if, born_in, born_started, rmdir_is_rmtree}
use Rattle.histar_secrecy.specs.Release.{is_in_one}
use Rattle.histar_secrecy.proofs.Veil.{IsVeil}
use Rattle.histar_secrecy.proofs.Casts.{IsCast, IsJob, IsOn, apart_from, is_hidden, more_jobs, unknowing}

module _ {accounts : Accounts} {f : Flat} {readers : Process → Bool} {confined insider opens : ProcName → Bool}
    {allowed : ProcName → UnixCall → Bool} (cast : IsCast accounts f readers confined insider opens allowed) {Alike : Flat → Flat → Type 0}
    (veil : IsVeil accounts readers Alike) where
  -- two states that are the same outside one of the jobs
  pub record AreApart (js : List ProcName) (s t : Flat) : Type 0 where
    pub number : ℕ
    pub above : ProcName
    pub job : IsJob cast js number above
    pub left : IsStarted (number ∷ above) s
    pub right : IsStarted (number ∷ above) t
    pub same : SameOutside (number ∷ above) s t

  -- or that are alike
  abbrev pub AreNear : List ProcName → Flat → Flat → Type 0
  AreNear js s t = AreApart js s t ⊎ Alike s t

  -- a way from one state to another by such steps, through these states
  abbrev pub IsWay : List ProcName → Flat → List Flat → Flat → Type 0
  IsWay js s [] t = AreNear js s t
  IsWay js s (u ∷ us) t = AreNear js s u × IsWay js u us t

  -- a way may be made longer at its end
  pub longer : (js : List ProcName) (us : List Flat) (s t v : Flat) → IsWay js s us t → AreNear js t v → IsWay js s (us ++ t ∷ []) v
  longer js [] s t v way near = (way, near)
  longer js (u ∷ us) s t v way near = (way.0, longer js us u t v way.1 near)

  -- with one job more it is a way too
  pub with_more : (js : List ProcName) (m : ℕ) (w : ProcName) (us : List Flat) (s t : Flat) → IsWay js s us t → IsWay ((m ∷ w) ∷ js) s us t
  with_more js m w us s t way = by us s t way
    where
      near : (s t : Flat) → AreNear js s t → AreNear ((m ∷ w) ∷ js) s t
      near s t (inl a) = inl (record {
        number = a.number;
        above = a.above;
        job = more_jobs cast js m w a.number a.above a.job;
        left = a.left;
        right = a.right;
        same = a.same;
      })
      near s t (inr v) = inr v

      by : (us : List Flat) (s t : Flat) → IsWay js s us t → IsWay ((m ∷ w) ∷ js) s us t
      by [] s t way = near s t way
      by (u ∷ us) s t way = (near s u way.0, by us u t way.1)

  -- a process that is hidden is in one of the jobs
  job_of : (js : List ProcName) (s : Flat) → IsOn cast js s → (x : ProcName) → is_hidden cast js x ≡ true
      → (m : ℕ) × (w : ProcName) × IsJob cast js m w × (under_process (m ∷ w) x ≡ true)
  job_of js s on x h = elim (or_cases (confined x) (is_in_one js x) h) [
    | inl c ↦ let k = cast.keeper x c in (k.0, k.1, inl k.2, k.3)
    | inr i ↦ one js on.proper i (λ m w t. inr t)
  ]
    where
      one : (ks : List ProcName) → has ks [] ≡ false → is_in_one ks x ≡ true → ((m : ℕ) (w : ProcName) → has ks (m ∷ w) ≡ true → IsJob cast js m w)
          → (m : ℕ) × (w : ProcName) × IsJob cast js m w × (under_process (m ∷ w) x ≡ true)
      one [] proper i job = absurd (true≢false (sym i))
      one (k ∷ ks) proper i job = elim (or_cases (under_process k x) (is_in_one ks x) i) [
        | inl u ↦ first k u (ap (λ b. b || has ks k) (same_itself k)) job
        | inr u ↦ one ks ((or_parts (same [] k) (has ks []) proper).1) u
            (λ m w t. job m w (ap (λ b. same (m ∷ w) k || b) t ∙ or-true (same (m ∷ w) k)))
      ]
        where
          first : (j : ProcName) → under_process j x ≡ true → has (k ∷ ks) j ≡ true
              → ((m : ℕ) (w : ProcName) → has (k ∷ ks) (m ∷ w) ≡ true → IsJob cast js m w)
              → (m : ℕ) × (w : ProcName) × IsJob cast js m w × (under_process (m ∷ w) x ≡ true)
          first [] u t job = absurd (true≢false (sym t ∙ proper))
          first (m ∷ w) u t job = (m, w, job m w t, u)

  -- a line of a hidden process changes only its job
  pub confined_step : (js : List ProcName) (s : Flat) → IsOn cast js s → (me : ProcName) (call : UnixCall) → is_hidden cast js me ≡ true
      → AreNear js (flat_after accounts s me call) s × AreNear js s (flat_after accounts s me call)
  confined_step js s on me call c =
      let found = job_of js s on me c in
      let m = found.0 in
      let w = found.1 in
      let started = on.started m w found.2 in
      let after = started_after (m ∷ w) accounts s me call started in
      let same = job_step (m ∷ w) accounts s s me call (same_outside_itself (m ∷ w) s) started found.3 in (
        inl (record { number = m; above = w; job = found.2; left = after; right = started; same = same }),
        inl (record {
          number = m;
          above = w;
          job = found.2;
          left = started;
          right = after;
          same = outside_turned (m ∷ w) (flat_after accounts s me call) s same;
        }),
      )

  -- ---- a process in none of the jobs, which is p in each state on the way

  module _ (js : List ProcName) (me : ProcName) (p : Process) (alive : if_running (Some p) ≡ Some p)
      (apart : (m : ℕ) (w : ProcName) → IsJob cast js m w → under_process (m ∷ w) me ≡ false) where
    there : (s t : Flat) → AreNear js s t → s.processes me ≡ t.processes me
    there s t (inl a) = a.same.processes me (apart a.number a.above a.job)
    there s t (inr v) = ap (λ ps. ps me) (veil.processes s t v)

    pub all_there : (us : List Flat) (s t : Flat) → IsWay js s us t → s.processes me ≡ t.processes me
    all_there [] s t way = there s t way
    all_there (u ∷ us) s t way = there s u way.0 ∙ all_there us u t way.1

    runs : (s : Flat) → s.processes me ≡ Some p → running s me ≡ Some p
    runs s e = ap if_running e ∙ alive

    -- a step that keeps near states near keeps a way
    all_steps : (step : Flat → Flat)
        → ((u v : Flat) → u.processes me ≡ Some p → v.processes me ≡ Some p → AreNear js u v → AreNear js (step u) (step v))
        → (us : List Flat) (s t : Flat) → s.processes me ≡ Some p → IsWay js s us t → IsWay js (step s) (map step us) (step t)
    all_steps step one [] s t e way = one s t e (sym (there s t way) ∙ e) way
    all_steps step one (u ∷ us) s t e way =
        let e' = sym (there s u way.0) ∙ e in (one s u e e' way.0, all_steps step one us u t e' way.1)

    -- a reply that is the same in near states is the same at both ends
    all_replies : (reply : Flat → Reply)
        → ((u v : Flat) → u.processes me ≡ Some p → v.processes me ≡ Some p → AreNear js u v → reply u ≡ reply v)
        → (us : List Flat) (s t : Flat) → s.processes me ≡ Some p → IsWay js s us t → reply s ≡ reply t
    all_replies reply one [] s t e way = one s t e (sym (there s t way) ∙ e) way
    all_replies reply one (u ∷ us) s t e way =
        let e' = sym (there s u way.0) ∙ e in one s u e e' way.0 ∙ all_replies reply one us u t e' way.1

    by_runs : (P : Flat → Flat → Type 0) (call : UnixCall) (u v : Flat) → u.processes me ≡ Some p → v.processes me ≡ Some p
        → P (flat_by accounts u me (Some p) call) (flat_by accounts v me (Some p) call)
        → P (flat_after accounts u me call) (flat_after accounts v me call)
    by_runs P call u v e e' h =
        subst (λ o. P (flat_by accounts u me o call) (flat_after accounts v me call)) (sym (runs u e))
        (subst (λ o. P (flat_by accounts u me (Some p) call) (flat_by accounts v me o call)) (sym (runs v e')) h)

    -- the call is no `rmdir` and no `wrap`, or the process knows none of the jobs
    abbrev pub IsCalm : UnixCall → Type 0
    IsCalm call = (is_rmdir_or_wrap call ≡ false)
        ⊎ ((m : ℕ) (w : ProcName) → IsJob cast js m w → knows p (m ∷ w) ≡ false)

    -- such a call keeps near states near
    calm_step : (call : UnixCall) → IsCalm call → (u v : Flat) → u.processes me ≡ Some p → v.processes me ≡ Some p → AreNear js u v
        → AreNear js (flat_after accounts u me call) (flat_after accounts v me call)
    calm_step call calm u v e e' (inr alike) = inr (veil.after u v alike me call)
    calm_step call calm u v e e' (inl a) = inl (record {
      number = a.number;
      above = a.above;
      job = a.job;
      left = started_after (a.number ∷ a.above) accounts u me call a.left;
      right = started_after (a.number ∷ a.above) accounts v me call a.right;
      same = by_runs (SameOutside (a.number ∷ a.above)) call u v e e' (by calm);
    })
      where
        by : IsCalm call → SameOutside (a.number ∷ a.above) (flat_by accounts u me (Some p) call) (flat_by accounts v me (Some p) call)
        by (inl quiet) = anyone a.number a.above accounts u v a.same a.left a.right me p (apart a.number a.above a.job) call quiet
        by (inr unknown) =
            outsider_state a.number a.above accounts u v a.same a.left a.right me p (unknown a.number a.above a.job) call

    -- a wrap that is done at both ends, and on the way where it may be
    born_step : (q : Path) (u v : Flat) → u.processes me ≡ Some p → v.processes me ≡ Some p → AreNear js u v
        → AreNear js (born_in accounts me p q u) (born_in accounts me p q v)
    born_step q u v e e' (inl a) = inl (record {
      number = a.number;
      above = a.above;
      job = a.job;
      left = born_started (a.number ∷ a.above) accounts u a.left me p (runs u e) q;
      right = born_started (a.number ∷ a.above) accounts v a.right me p (runs v e') q;
      same = born_alike a.number a.above accounts u v a.same a.left a.right me p (apart a.number a.above a.job) q;
    })
    born_step q u v e e' (inr alike) = inr (veil.born u v alike me p (runs u e) q)

    -- a process that knows none of the jobs and reads nothing secret has the same reply
    pub stranger_reply : (call : UnixCall) → ((m : ℕ) (w : ProcName) → IsJob cast js m w → knows p (m ∷ w) ≡ false)
        → readers p ≡ false → (us : List Flat) (s t : Flat) → s.processes me ≡ Some p → IsWay js s us t
        → reply_to accounts s me call ≡ reply_to accounts t me call
    stranger_reply call unknown unread = all_replies (λ u. reply_to accounts u me call) one
      where
        one : (u v : Flat) → u.processes me ≡ Some p → v.processes me ≡ Some p → AreNear js u v
            → reply_to accounts u me call ≡ reply_to accounts v me call
        one u v e e' (inl a) =
            ap (λ o. reply_by accounts u me o call) (runs u e)
            ∙ outsider_reply a.number a.above accounts u v a.same a.left a.right me p (unknown a.number a.above a.job) call
            ∙ sym (ap (λ o. reply_by accounts v me o call) (runs v e'))
        one u v e e' (inr alike) = veil.reply u v alike me call (ap (λ o. is_some_and o readers) (runs u e) ∙ unread)

    pub calm_way : (call : UnixCall) → IsCalm call → (us : List Flat) (s t : Flat) → s.processes me ≡ Some p → IsWay js s us t
        → (vs : List Flat) × IsWay js (flat_after accounts s me call) vs (flat_after accounts t me call)
    calm_way call calm us s t e way =
        (map (λ u. flat_after accounts u me call) us, all_steps (λ u. flat_after accounts u me call) (calm_step call calm) us s t e way)

    -- the state after a call with this refusal
    ends : (call : UnixCall) (s : Flat) → s.processes me ≡ Some p → (e : Option Errno) → refused accounts s me p call ≡ e
        → flat_after accounts s me call ≡ flat_or e s (changed accounts s me p call)
    ends call s e r h = ap (λ o. flat_by accounts s me o call) (runs s e) ∙ ap (λ x. flat_or x s (changed accounts s me p call)) h

    to_end : (s s' t t' : Flat) → s ≡ s' → t ≡ t' → (vs : List Flat) × IsWay js s vs t
        → (vs : List Flat) × IsWay js s' vs t'
    to_end s s' t t' e k way = (way.0, subst (λ x. IsWay js x way.0 t') e (subst (λ x. IsWay js s way.0 x) k way.1))

    -- A `rmdir` or a `wrap` that is answered alike at both ends leaves a way.
    pub loud_way : (call : UnixCall) → is_rmdir_or_wrap call ≡ true → (us : List Flat) (s t : Flat) → s.processes me ≡ Some p
        → IsWay js s us t → reply_to accounts s me call ≡ reply_to accounts t me call
        → (vs : List Flat) × IsWay js (flat_after accounts s me call) vs (flat_after accounts t me call)
    loud_way call loud us s t e way alike =
        by call loud (refused accounts s me p call) (refused accounts t me p call) refl refl
        (sym (ap (λ o. reply_by accounts s me o call) (runs s e)) ∙ alike ∙ ap (λ o. reply_by accounts t me o call) (runs t e'))
      where
        e' : t.processes me ≡ Some p
        e' = sym (all_there us s t way) ∙ e

        still : (call : UnixCall) (x y : Errno) → refused accounts s me p call ≡ Some x → refused accounts t me p call ≡ Some y
            → (vs : List Flat) × IsWay js (flat_after accounts s me call) vs (flat_after accounts t me call)
        still call x y h k =
            to_end s (flat_after accounts s me call) t (flat_after accounts t me call) (sym (ends call s e (Some x) h))
            (sym (ends call t e' (Some y) k)) (us, way)

        removed : (q : Path) → refused accounts s me p (Rmdir q) ≡ None → refused accounts t me p (Rmdir q) ≡ None
            → (vs : List Flat) × IsWay js (flat_after accounts s me (Rmdir q)) vs (flat_after accounts t me (Rmdir q))
        removed q h k =
            to_end (flat_after accounts s me (Rmtree q)) (flat_after accounts s me (Rmdir q)) (flat_after accounts t me (Rmtree q))
            (flat_after accounts t me (Rmdir q)) (as_rmtree s e h) (as_rmtree t e' k) (calm_way (Rmtree q) (inl refl) us s t e way)
          where
            as_rmtree : (x : Flat) → x.processes me ≡ Some p → refused accounts x me p (Rmdir q) ≡ None
                → flat_after accounts x me (Rmtree q) ≡ flat_after accounts x me (Rmdir q)
            as_rmtree x i h =
                ap (λ o. flat_by accounts x me o (Rmtree q)) (runs x i) ∙ rmdir_is_rmtree accounts x me p q h ∙ sym (ends (Rmdir q) x i None h)

        wrapped : (q : Path) → refused accounts s me p (Wrap q) ≡ None → refused accounts t me p (Wrap q) ≡ None
            → (vs : List Flat) × IsWay js (flat_after accounts s me (Wrap q)) vs (flat_after accounts t me (Wrap q))
        wrapped q h k =
            to_end (born_in accounts me p q s) (flat_after accounts s me (Wrap q)) (born_in accounts me p q t) (flat_after accounts t me (Wrap q))
            (ap (born_if accounts me p q s) h ∙ sym (ends (Wrap q) s e None h)) (ap (born_if accounts me p q t) k ∙ sym (ends (Wrap q) t e' None k))
            (map (born_in accounts me p q) us, all_steps (born_in accounts me p q) (born_step q) us s t e way)

        by : (call : UnixCall) → is_rmdir_or_wrap call ≡ true → (d x : Option Errno) → refused accounts s me p call ≡ d
            → refused accounts t me p call ≡ x → reply_by accounts s me (Some p) call ≡ reply_by accounts t me (Some p) call
            → (vs : List Flat) × IsWay js (flat_after accounts s me call) vs (flat_after accounts t me call)
        by (Rmdir q) loud None None h k r = removed q h k
        by (Rmdir q) loud (Some x) (Some y) h k r = still (Rmdir q) x y h k
        by (Rmdir q) loud None (Some y) h k r =
            let never : replies.Done ≡ replies.Refused y =
            sym (ap (λ z. reply_or z replies.Done) h) ∙ r ∙ ap (λ z. reply_or z replies.Done) k in absurd (cc)
        by (Rmdir q) loud (Some x) None h k r =
            let never : replies.Refused x ≡ replies.Done =
            sym (ap (λ z. reply_or z replies.Done) h) ∙ r ∙ ap (λ z. reply_or z replies.Done) k in absurd (cc)
        by (Wrap q) loud None None h k r = wrapped q h k
        by (Wrap q) loud (Some x) (Some y) h k r = still (Wrap q) x y h k
        by (Wrap q) loud None (Some y) h k r =
            let never : replies.Child (next_child me p) ≡ replies.Refused y =
            sym (ap (λ z. reply_or z (replies.Child (next_child me p))) h) ∙ r ∙ ap (λ z. reply_or z (replies.Child (next_child me p))) k in
            absurd (cc)
        by (Wrap q) loud (Some x) None h k r =
            let never : replies.Refused x ≡ replies.Child (next_child me p) =
            sym (ap (λ z. reply_or z (replies.Child (next_child me p))) h) ∙ r ∙ ap (λ z. reply_or z (replies.Child (next_child me p))) k in
            absurd (cc)
        by call loud d x h k r = absurd (true≢false (sym loud))

  -- ---- a line of a process that is not hidden

  -- what holds of the line: all but insiders are told the same, and the states stay near, if a `rmdir` or `wrap` of an insider is answered alike
  pub record IsOpenLine (js : List ProcName) (s t : Flat) (me : ProcName) (call : UnixCall) : Type 0 where
    pub told : insider me ≡ false → reply_to accounts s me call ≡ reply_to accounts t me call
    pub ends : ((insider me && is_rmdir_or_wrap call) ≡ true → reply_to accounts s me call ≡ reply_to accounts t me call)
        → (vs : List Flat) × IsWay js (flat_after accounts s me call) vs (flat_after accounts t me call)

  pub open_line : (js : List ProcName) (us : List Flat) (s t : Flat) → IsOn cast js s → IsOn cast js t → IsWay js s us t → (me : ProcName)
      (call : UnixCall) → is_hidden cast js me ≡ false → IsOpenLine js s t me call
  open_line js us s t on on' way me call free = by (running s me) (running t me) refl refl
    where
      -- one of two fails
      one_fails : (a b : Bool) → (a && b) ≡ false → (a ≡ false) ⊎ (b ≡ false)
      one_fails true b h = inr h
      one_fails false b h = inl refl

      by : (o x : Option Process) → running s me ≡ o → running t me ≡ x → IsOpenLine js s t me call
      by (Some p) x e k =
          let here = runs_is_there (s.processes me) p e in
          let alive : if_running (Some p) ≡ Some p = sym (ap if_running here) ∙ e in
          let apart = apart_from cast js s on me p e free in
          let unknown = unknowing cast js s on me p e free in
          record {
            told = λ out. stranger_reply js me p alive apart call (unknown out) ((on.placed me p e).outside free out) us s t here way;
            ends = λ alike. elim (cases_Bool (insider me && is_rmdir_or_wrap call)) [
              | inl h ↦
                  loud_way js me p alive apart call ((and_parts (insider me) (is_rmdir_or_wrap call) h).1) us s t here way (alike h)
              | inr h ↦ elim (one_fails (insider me) (is_rmdir_or_wrap call) h) [
                | inl out ↦ calm_way js me p alive apart call (inr (unknown out)) us s t here way
                | inr quiet ↦ calm_way js me p alive apart call (inl quiet) us s t here way
              ]
            ];
          }
      by None (Some p) e k =
          let here = runs_is_there (t.processes me) p k in
          let alive : if_running (Some p) ≡ Some p = sym (ap if_running here) ∙ k in
          let same = all_there js me p alive (apart_from cast js t on' me p k free) us s t way in
          let never : None ≡ Some p = sym e ∙ ap if_running same ∙ k in
          absurd (cc)
      by None None e k = record {
        told = λ out. ap (λ o. reply_by accounts s me o call) e ∙ sym (ap (λ o. reply_by accounts t me o call) k);
        ends = λ alike. (
          us,
          subst (λ x. IsWay js x us (flat_after accounts t me call)) (sym (ap (λ o. flat_by accounts s me o call) e))
              (subst (λ x. IsWay js s us x) (sym (ap (λ o. flat_by accounts t me o call) k)) way),
        );
      }
