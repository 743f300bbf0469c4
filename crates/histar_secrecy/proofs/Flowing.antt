-- What a process in a job calls, only those are told who know the job.
use Rattle.std.specs.Prelude.{◌≡◌, ℕ, Bool, true, false, not, ◌&&◌, ◌||◌, cond, List, [], ◌∷◌, Some, filter, nat_eq, refl}
use Rattle.std.specs.List.{list_all}
use Rattle.std.proofs.Common.{ap, sym, ◌∙◌, subst, inl, inr}
use Rattle.std.proofs.lemmas.Bool.{true≢false, or_parts, cases_Bool}
use Rattle.std.proofs.Math.Bool.{or-true}
use Rattle.histar_flat.specs.declared.calls.CallLine.{CallLine}
use Rattle.histar_flat.specs.declared.calls.UnixCall.{UnixCall}
use Rattle.histar_flat.specs.declared.calls.UnixCall.TheVariants.{Login}
use Rattle.histar_flat.specs.declared.replies.Reply.{Reply}
use Rattle.histar_flat.specs.Words.{ProcName}
use Rattle.histar_flat.specs.PathOrder.{under_process}
use Rattle.histar_base.specs.Paths.{same}
use Rattle.histar_flat.specs.Accounts.{Accounts, has}
use Rattle.histar_flat.specs.Classes.{Process, knows}
use Rattle.histar_flat.specs.FlatState.{Flat, is_some_and}
use Rattle.histar_flat.specs.FlatCalls.{flat_after, reply_to, running}
use Rattle.histar_flat.specs.Meaning.{RepliedCall, answered_from}
use Rattle.histar_flat.proofs.Changes.{runs_is_there}
use Rattle.histar_flat.proofs.FileLemmas.{same_itself, same_name_found}
use Rattle.histar_flat.proofs.Under.{under_child}
use Rattle.histar_noninterference.proofs.Relation.{IsStarted}
use Rattle.histar_noninterference.proofs.TestLemmas.{under_all}
use Rattle.histar_noninterference.proofs.Wrapping.{born_in}
use Rattle.histar_secrecy.specs.Logins.{logs_in_as}
use Rattle.histar_secrecy.specs.Flows.{OnlyKnowersAreTold, knows_by_name, others_than}
use Rattle.histar_secrecy.specs.Noninterference.{Program}
use Rattle.histar_secrecy.specs.Release.{DifferAt, IsOf, line_of, not_confined}
use Rattle.histar_secrecy.proofs.Casts.{IsCast, IsJob, IsOn, placed_itself}
use Rattle.histar_secrecy.proofs.Knowing.{AreJobs, jobs_at_end}
use Rattle.histar_secrecy.proofs.Released.{Goes, two_runs}
use Rattle.histar_secrecy.proofs.Veil.{IsVeil}

-- nobody is a reader
abbrev no_reader : Process → Bool
no_reader p = false

abbrev nobody_opens : ProcName → Bool
nobody_opens x = false

abbrev all_allowed : ProcName → UnixCall → Bool
all_allowed x call = true

module _ (accounts : Accounts) (f : Flat) (jobs : AreJobs f) (m : ℕ) (w : ProcName) (started : IsStarted (m ∷ w) f) where
  -- the process runs in f and holds the job
  abbrev holds_it : ProcName → Bool
  holds_it x = is_some_and (running f x) (λ q. has q.held (m ∷ w))

  no_login : (call : UnixCall) → logs_in_as accounts no_reader call ≡ false
  no_login (Login name password) = refl
  no_login call = refl

  job_cast : IsCast accounts f no_reader (under_process (m ∷ w)) holds_it nobody_opens all_allowed
  job_cast = record {
    names = jobs.names;
    keeper = λ x c. (
      m,
      w,
      record {
        started = started;
        inside = λ x p runs h. sym (started.inside x p (runs_is_there (f.processes x) p runs)) ∙ h;
        holding = λ x p runs h. ap (λ o. is_some_and o (λ q. has q.held (m ∷ w))) runs ∙ h;
      },
      c,
    );
    below = λ n a c. under_child nat_eq same_name_found (m ∷ w) a n c;
    unread = λ x p runs c t. refl;
    quiet = λ x call ok out. no_login call;
    born = λ x call ok i n new out p. refl;
    less = λ a b user more r. absurd (true≢false (sym r));
    opened = λ x o. absurd (true≢false (sym o));
  }

  on_itself : IsOn job_cast [] f
  on_itself = record {
    jobs = jobs;
    given = λ x h. h;
    started = by;
    proper = refl;
    placed = placed_itself job_cast;
  }
    where
      by : (k : ℕ) (v : ProcName) → IsJob job_cast [] k v → IsStarted (k ∷ v) f
      by k v (inl keeper) = keeper.started
      by k v (inr none) = absurd (true≢false (sym none))

  -- equal states are alike
  no_veil : IsVeil accounts no_reader (λ s t. s ≡ t)
  no_veil = record {
    processes = λ s t e i. (e i).processes;
    after = λ s t e me call i. flat_after accounts (e i) me call;
    born = λ s t e me p runs q i. born_in accounts me p q (e i);
    reply = λ s t e me call other i. reply_to accounts (e i) me call;
  }

  -- two runs from f go alike outside the job
  runs_go : (calls others : List CallLine)
      → Goes holds_it all_allowed (not_confined (under_process (m ∷ w)) nobody_opens [] (answered_from accounts f calls))
      (not_confined (under_process (m ∷ w)) nobody_opens [] (answered_from accounts f others))
  runs_go calls others =
      two_runs job_cast no_veil calls others [] [] f f on_itself on_itself (inr refl)

  -- the calls outside the job, of some
  abbrev outside : List RepliedCall → List RepliedCall
  outside as' = filter (λ (a : RepliedCall). not (under_process (m ∷ w) a.call.process)) as'

  module _ (me : ProcName) (in_it : under_process (m ∷ w) me ≡ true) where
    -- the calls of all but one process, and those below it
    abbrev others_of : List RepliedCall → List RepliedCall
    others_of as' = filter (λ (a : RepliedCall). not (under_process me a.call.process)) as'

    same_lists : (as' : List RepliedCall) → not_confined (under_process (m ∷ w)) nobody_opens [] as' ≡ outside (others_of as')
    same_lists [] = refl
    same_lists (a ∷ as') = elim (cases_Bool (under_process me a.call.process)) [
      | inl u ↦ rw (u, under_all nat_eq same_name_found (m ∷ w) me a.call.process in_it u) (same_lists as')
      | inr u ↦ elim (cases_Bool (under_process (m ∷ w) a.call.process)) [
        | inl v ↦ rw (u, v) (same_lists as')
        | inr v ↦ rw (u, v) (ap (λ (l : List RepliedCall). a ∷ l) (same_lists as'))
      ]
    ]

  -- lists that follow one program, and go alike outside the job, differ first at one who knows the job
  differ : (program : Program) (before : List Reply) (as' bs : List RepliedCall) → Goes holds_it all_allowed (outside as') (outside bs)
      → IsOf program before as' → IsOf program before bs → DifferAt (knows_by_name f (m ∷ w)) as' bs
  differ program before [] bs go h k = tt
  differ program before (a ∷ as') [] go h k = tt
  differ program before (a ∷ as') (b ∷ bs) go h k =
      let e : line_of a ≡ line_of b = h.0 ∙ sym k.0 in
      let process : a.call.process ≡ b.call.process = ap (λ x. x.0) e in
      let call : a.call.call ≡ b.call.call = ap (λ x. x.1) e in
      elim (cases_Bool (under_process (m ∷ w) a.call.process)) [
        | inl u ↦ (
          process,
          call,
          λ out. absurd (true≢false (sym u ∙ (or_parts (under_process (m ∷ w) a.call.process) (holds_it a.call.process) out).0)),
          λ r. differ program (a.reply ∷ before) as' bs (dropped u (sym (ap (under_process (m ∷ w)) process) ∙ u) go) h.1
              (subst (λ x. IsOf program (x ∷ before) bs) (sym r) k.1),
        )
        | inr u ↦
            let goes = kept u (sym (ap (under_process (m ∷ w)) process) ∙ u) go process call refl in (
              process,
              call,
              λ out. goes.0 ((or_parts (under_process (m ∷ w) a.call.process) (holds_it a.call.process) out).1),
              λ r. differ program (a.reply ∷ before) as' bs (goes.1 (λ may. r)) h.1 (subst (λ x. IsOf program (x ∷ before) bs) (sym r) k.1),
            )
      ]
    where
      shown : Bool → RepliedCall → List RepliedCall → List RepliedCall
      shown u x xs = cond (not u) (x ∷ outside xs) (outside xs)

      dropped : under_process (m ∷ w) a.call.process ≡ true → under_process (m ∷ w) b.call.process ≡ true
          → Goes holds_it all_allowed (outside (a ∷ as')) (outside (b ∷ bs)) → Goes holds_it all_allowed (outside as') (outside bs)
      dropped u v go = subst (λ x. Goes holds_it all_allowed (shown x a as') (outside bs)) u
          (subst (λ x. Goes holds_it all_allowed (outside (a ∷ as')) (shown x b bs)) v go)

      kept : under_process (m ∷ w) a.call.process ≡ false → under_process (m ∷ w) b.call.process ≡ false
          → Goes holds_it all_allowed (outside (a ∷ as')) (outside (b ∷ bs))
          → Goes holds_it all_allowed (a ∷ outside as') (b ∷ outside bs)
      kept u v go = subst (λ x. Goes holds_it all_allowed (shown x a as') (b ∷ outside bs)) u
          (subst (λ x. Goes holds_it all_allowed (outside (a ∷ as')) (shown x b bs)) v go)

-- lists that differ first at those who pass each of several tests
differ_at_all : (f : Flat) (chain : List ProcName) (as' bs : List RepliedCall) → DifferAt (λ x. true) as' bs
    → ((job : ProcName) → has chain job ≡ true → DifferAt (knows_by_name f job) as' bs)
    → DifferAt (λ x. list_all (λ job. knows_by_name f job x) chain) as' bs
differ_at_all f chain [] bs any each = tt
differ_at_all f chain (a ∷ as') [] any each = tt
differ_at_all f chain (a ∷ as') (b ∷ bs) any each = (
  any.0,
  any.1,
  λ out. one chain out (λ job h. (each job h).2),
  λ r. differ_at_all f chain as' bs (any.3 r) (λ job h. (each job h).3 r),
)
  where
    one : (jobs : List ProcName) → list_all (λ job. knows_by_name f job a.call.process) jobs ≡ false
        → ((job : ProcName) → has jobs job ≡ true → knows_by_name f job a.call.process ≡ false → a.reply ≡ b.reply) → a.reply ≡ b.reply
    one [] out each = absurd (true≢false out)
    one (k ∷ jobs) out each = elim (cases_Bool (knows_by_name f k a.call.process)) [
      | inl t ↦ one jobs (sym (ap (λ z. z && list_all (λ job. knows_by_name f job a.call.process) jobs) t) ∙ out)
          (λ job h. each job (ap (λ z. same job k || z) h ∙ or-true (same job k)))
      | inr t ↦ each k (ap (λ z. z || has jobs k) (same_itself k)) t
    ]

-- lists that follow one program have the same calls as long as the replies are the same
follow_one : (program : Program) (before : List Reply) (as' bs : List RepliedCall) → IsOf program before as' → IsOf program before bs
    → DifferAt (λ x. true) as' bs
follow_one program before [] bs h k = tt
follow_one program before (a ∷ as') [] h k = tt
follow_one program before (a ∷ as') (b ∷ bs) h k =
    let e : line_of a ≡ line_of b = h.0 ∙ sym k.0 in (
      ap (λ x. x.0) e,
      ap (λ x. x.1) e,
      λ out. absurd (true≢false out),
      λ r. follow_one program (a.reply ∷ before) as' bs h.1 (subst (λ x. IsOf program (x ∷ before) bs) (sym r) k.1),
    )

pub only_knowers_are_told : OnlyKnowersAreTold
only_knowers_are_told accounts f reached me p runs calls others program first second =
    differ_at_all f p.chain (others_than me accounts f calls) (others_than me accounts f others)
    (follow_one program [] (others_than me accounts f calls) (others_than me accounts f others) first second) each
  where
    jobs : AreJobs f
    jobs = subst AreJobs reached.1 (jobs_at_end accounts reached.0)

    here : f.processes me ≡ Some p
    here = runs_is_there (f.processes me) p runs

    of_job : (job : ProcName) → has p.chain job ≡ true → IsStarted job f → (job ≡ [] → ⊥)
        → DifferAt (knows_by_name f job) (others_than me accounts f calls) (others_than me accounts f others)
    of_job [] h started not_first = absurd (not_first refl)
    of_job (m ∷ w) h started not_first =
        let in_it : under_process (m ∷ w) me ≡ true = sym (started.inside me p here) ∙ h in
        differ accounts f jobs m w started program [] (others_than me accounts f calls) (others_than me accounts f others)
        (subst (λ l. Goes (holds_it accounts f jobs m w started) all_allowed l
        (outside accounts f jobs m w started (others_than me accounts f others)))
        (same_lists accounts f jobs m w started me in_it (answered_from accounts f calls))
        (subst (λ l. Goes (holds_it accounts f jobs m w started) all_allowed
        (not_confined (under_process (m ∷ w)) nobody_opens [] (answered_from accounts f calls)) l)
        (same_lists accounts f jobs m w started me in_it (answered_from accounts f others)) (runs_go accounts f jobs m w started calls others)))
        first second

    each : (job : ProcName) → has p.chain job ≡ true
        → DifferAt (knows_by_name f job) (others_than me accounts f calls) (others_than me accounts f others)
    each job h =
        let known : knows p job ≡ true = ap (λ b. b || has p.held job) h in
        of_job job h (jobs.started me p job here known) (jobs.child me p job here known)
