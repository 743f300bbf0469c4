-- Steps are taken one after another, and their checks are written.
use Rattle.std.proofs.Common.{◌≡◌, ℕ, ◌+◌, ◌<◌, Bool, false, List, [], ◌∷◌, ◌++◌, length, take, drop, get_or, Option, Some, None, Result, Ok, Err}
use Rattle.std.proofs.Common.{refl, sym, ap, ap₂, ◌∙◌, subst, append-nil, append_assoc, arith, take-append-drop}
use Rattle.std.proofs.KnownBytes.{Appends-nil, Appends-trans}
use Rattle.std.proofs.lemmas.List.{drop_more}
use Rattle.std.proofs.lemmas.List.Elements.{filter_map-append}
use Rattle.std.specs.Io.KnownBytes.{Appends}
use Rattle.std.specs.Prelude.{option_to_list}
use Rattle.std.specs.Result.{OnErr, OnOk}
use Rattle.histar_io.proofs.WritingLemmas.{sent_none}
use Rattle.histar_script.specs.declared.fault.Fault.{Fault}
use Rattle.histar_io.specs.Writing.{AppendsFront}
use Rattle.histar_flat.specs.declared.calls.CallLine.{CallLine}
use Rattle.histar_flat.specs.FlatState.{Flat}
use Rattle.histar_flat.specs.Meaning.{flat_end}
use Rattle.histar_flat.specs.Accounts.{Accounts}
use Rattle.histar_flat.specs.Words.{Path}
use Rattle.histar_rights.specs.declared.rights.Rights.{Rights}
use Rattle.histar_rights.specs.Rights.{rights_text}
use Rattle.histar_diff.specs.Shown.{rights_of}
use Rattle.histar_cells.specs.OnePath.{AreRightsOf}
use Rattle.histar_shell.specs.Machine.{MachineModel}
use Rattle.histar_shell.proofs.AnswerLemmas.{front_after}
use Rattle.histar_test.specs.declared.checks.Check.{Check}
use Rattle.histar_test.specs.declared.checks.Made.{Made}
use Rattle.histar_test.specs.declared.running.Run.{Run}
use Rattle.histar_test.specs.declared.running.Tally.{Tally}
use Rattle.histar_test.specs.declared.steps.Step.{Step}
use Rattle.histar_test.specs.declared.asking.Asking.{Asking}
use Rattle.histar_test.specs.declared.asking.Asking.TheVariants.{OfRights, OfTrust}
use Rattle.histar_test.specs.declared.claims.Claim.{Claim}
use Rattle.histar_test.specs.declared.questions.Question.{Question}
use Rattle.histar_trust.specs.Findings.{HasState}
use Rattle.histar_flat.proofs.Laws.{states_go_on}
use Rattle.histar_never.specs.declared.claims.Never.{Never}
use Rattle.histar_test.specs.declared.steps.Step.TheVariants.{Makes, Expects, Asks, Forbids}
use Rattle.histar_test.specs.declared.checks.Wanted.TheVariants.{Text}
use Rattle.histar_test.specs.declared.watching.Watch.{Watch}
use Rattle.histar_test.specs.declared.watching.Watched.{Watched}
use Rattle.histar_test.specs.Steps.{call_of_step, calls_in}
use Rattle.histar_test.specs.Watching.{HasWatched, IsWatched, watches_after}
use Rattle.histar_test.proofs.WatchLemmas.{more_after, none_after}
use Rattle.histar_test.specs.Checks.{check_text, asked_check, checks_from, checks_text, trusted_text, unexpected}
use Rattle.histar_test.specs.Running.{AsksMachine, BeginsStep, BeginsSteps, Calls, Closes, CountsCheck, ShowsTrusted}
use Rattle.histar_test.specs.Running.{TakesStep, TakesSteps, WritesStep, checks_ahead, close_checks, close_text}
use Rattle.histar_test.specs.Running.{check_at, flat_at, last_at, reply_check, step_text, tally_with}
use Rattle.histar_test.proofs.CheckLemmas.{check_first, checks_text-append, tally_more, tally_none}

-- claims that are left as they were, as after no call
same_watches : (accounts : Accounts) (f : Flat) (old new : Watched) → new ≡ old
    → new.watches.items ≡ watches_after accounts f [] old.watches.items
same_watches accounts f old new same = ap (λ (w : Watched). w.watches.items) same ∙ sym (none_after accounts f old.watches.items)

-- closing the open call and making one is taking its step
pub call_taken : (old mid new : Run) (call : CallLine) (said : List ℕ) → Closes old mid → Calls mid new call said
    → TakesStep old new (Makes call said)
call_taken old mid new call said closes calls accounts f w =
    let is = calls.makes accounts f (subst (IsWatched accounts f) (sym closes.watched) w) in
    record {
      strict = calls.strict ∙ closes.strict;
      watched = is.watched;
      watches = is.watches ∙ ap (λ (x : Watched). watches_after accounts f (call ∷ []) x.watches.items) closes.watched;
      last = calls.last ∙ ap (λ (m : Made). Some m) is.is;
      tally = calls.tally ∙ closes.tally;
    }

-- checking an expectation is taking its step
pub text_taken : (old new : Run) (wanted : List ℕ) → new.strict ≡ old.strict → new.watched ≡ old.watched → new.last ≡ None
    → new.tally ≡ tally_with old.tally (reply_check old.last wanted) → TakesStep old new (Expects wanted)
text_taken old new wanted kept same none tally accounts f w = record {
  strict = kept;
  watched = subst (IsWatched accounts f) (sym same) w;
  watches = same_watches accounts f old.watched new.watched same;
  last = none;
  tally = tally;
}

-- checking a question is taking its step
pub rights_taken : (old new : Run) (q : Asking) (check : Check) → AsksMachine old.watched.machine q check → CountsCheck old new check
    → TakesStep old new (Asks q)
rights_taken old new q check asks counts accounts f w = record {
  strict = counts.strict;
  watched = subst (IsWatched accounts f) (sym counts.watched) w;
  watches = same_watches accounts f old.watched new.watched counts.watched;
  last = counts.last;
  tally = counts.tally ∙ ap (λ (c : Check). tally_with old.tally (c ∷ [])) (asks accounts f w.shows);
}

-- a claim `#never` is taken at its place without more
pub claim_taken : (run : Run) (never : Never) → TakesStep run run (Forbids never)
claim_taken run never accounts f w = record {
  strict = refl;
  watched = w;
  watches = same_watches accounts f run.watched run.watched refl;
  last = refl;
  tally = tally_none run.tally;
}

-- and nothing is written of it there
pub claim_unwritten : (file : List ℕ) (run : Run) (never : Never) (w : Option (List ℕ)) → WritesStep file run (Forbids never) w w
claim_unwritten file run never w accounts f watched = Appends-nil w

-- the check of a question, given the rights that were found
pub asked_so : (machine : MachineModel) (q : Question) (rights : Rights) (path : Path) (reply wanted : List ℕ) → path ≡ q.path
    → AreRightsOf machine path q.process rights → reply ≡ rights_text rights → wanted ≡ rights_text q.wanted
    → AsksMachine machine (OfRights q) (record {
      made = record { line = q.line; said = q.said; reply = reply; is_refused = false };
      wanted = Text wanted;
    })
asked_so machine q rights path reply wanted same are is wants accounts f shows =
    let replied = is ∙ ap rights_text (are accounts f shows.shows ∙ ap (λ (p : Path). rights_of accounts f p q.process) same) in
    λ i. record { made = record { line = q.line; said = q.said; reply = replied i; is_refused = false }; wanted = Text (wants i) }

-- the check of a claim, given the processes that are trusted
pub claimed_so : (machine : MachineModel) (c : Claim) (path : Path) (reply : List ℕ) → path ≡ c.path → ShowsTrusted machine path reply
    → AsksMachine machine (OfTrust c) (record {
      made = record { line = c.line; said = c.said; reply = reply; is_refused = false };
      wanted = Text c.wanted;
    })
claimed_so machine c path reply same is accounts f r =
    let replied = is accounts f r ∙ ap (trusted_text accounts f) same in
    λ i. record { made = record { line = c.line; said = c.said; reply = replied i; is_refused = false }; wanted = Text c.wanted }

-- the lines of the check of an expectation
pub reply_lines : (file : List ℕ) (k : ℕ) (last : Option Made) (made : Made) (wanted : List ℕ) → last ≡ Some made
    → check_text file k (record { made = made; wanted = Text wanted }) ≡ checks_text file k (reply_check last wanted)
reply_lines file k last made wanted is =
    sym (append-nil (check_text file k (record { made = made; wanted = Text wanted })))
    ∙ ap (λ (l : Option Made). checks_text file k (reply_check l wanted)) (sym is)

-- the lines of the check of a question
pub rights_lines : (accounts : Accounts) (f : Flat) (file : List ℕ) (k : ℕ) (q : Asking) (check : Check) → check ≡ asked_check accounts f q
    → check_text file k check ≡ checks_text file k (asked_check accounts f q ∷ [])
rights_lines accounts f file k q check is =
    sym (append-nil (check_text file k check)) ∙ ap (λ (c : Check). checks_text file k (c ∷ [])) is

-- the lines of a question's check are written
pub rights_written : (a b : Option (List ℕ)) (file : List ℕ) (old : Run) (q : Asking) (check : Check) → AsksMachine old.watched.machine q check
    → Appends a b (check_text file (old.tally.count + 1) check) → WritesStep file old (Asks q) a b
rights_written a b file old q check asks written accounts f shows =
    subst (Appends a b) (rights_lines accounts f file (old.tally.count + 1) q check (asks accounts f shows.shows)) written

-- a beginning of the lines of a question's check is written
pub rights_begun : (a b : Option (List ℕ)) (file : List ℕ) (old : Run) (q : Asking) (check : Check) → AsksMachine old.watched.machine q check
    → AppendsFront a b (check_text file (old.tally.count + 1) check) → BeginsStep file old (Asks q) a b
rights_begun a b file old q check asks begun accounts f shows =
    subst (AppendsFront a b) (rights_lines accounts f file (old.tally.count + 1) q check (asks accounts f shows.shows)) begun

-- checking an expectation takes its step, if the check of the open call is counted
pub text_counted : (old new : Run) (made : Made) (wanted : List ℕ) (left : Option Made) → old.last ≡ Some made → left ≡ None
    → CountsCheck (record { strict = old.strict; watched = old.watched; last = left; tally = old.tally }) new
    (record { made = made; wanted = Text wanted })
    → TakesStep old new (Expects wanted)
text_counted old new made wanted left is none counts =
    text_taken old new wanted counts.strict counts.watched (counts.last ∙ none)
    (counts.tally ∙ ap (λ (last : Option Made). tally_with old.tally (reply_check last wanted)) (sym is))

-- the lines of an expectation's check are written
pub text_written : (a b : Option (List ℕ)) (file : List ℕ) (old : Run) (made : Made) (wanted : List ℕ) → old.last ≡ Some made
    → Appends a b (check_text file (old.tally.count + 1) (record { made = made; wanted = Text wanted })) → WritesStep file old (Expects wanted) a b
text_written a b file old made wanted is written accounts f shows =
    subst (Appends a b) (reply_lines file (old.tally.count + 1) old.last made wanted is) written

-- a beginning of the lines of an expectation's check is written
pub text_begun : (a b : Option (List ℕ)) (file : List ℕ) (old : Run) (made : Made) (wanted : List ℕ) → old.last ≡ Some made
    → AppendsFront a b (check_text file (old.tally.count + 1) (record { made = made; wanted = Text wanted }))
    → BeginsStep file old (Expects wanted) a b
text_begun a b file old made wanted is begun accounts f shows =
    subst (AppendsFront a b) (reply_lines file (old.tally.count + 1) old.last made wanted is) begun

-- without an open call nothing is written
pub nothing_written : (file : List ℕ) (old : Run) (wanted : List ℕ) (w : Option (List ℕ)) → old.last ≡ None → WritesStep file old (Expects wanted) w w
nothing_written file old wanted w none accounts f shows =
    subst (λ (last : Option Made). Appends w w (checks_text file (old.tally.count + 1) (reply_check last wanted))) (sym none) (Appends-nil w)

pub nothing_counted : (old new : Run) (wanted : List ℕ) → old.last ≡ None → new.strict ≡ old.strict → new.watched ≡ old.watched → new.last ≡ None
    → new.tally ≡ old.tally → TakesStep old new (Expects wanted)
nothing_counted old new wanted none strict watched last tally =
    text_taken old new wanted strict watched last
    (tally ∙ tally_none old.tally ∙ ap (λ (l : Option Made). tally_with old.tally (reply_check l wanted)) (sym none))

-- before a question is asked nothing of it is written
pub rights_unwritten : (file : List ℕ) (old : Run) (q : Asking) (w : Option (List ℕ)) → BeginsStep file old (Asks q) w w
rights_unwritten file old q w accounts f shows = (_, sent_none w _)

-- what holds of a result without a fault follows from what is stronger
pub after_ok : {P Q : Type 0} → (r : Result (Unit {0}) Fault) → (P → Q) → OnOk r P → OnOk r Q
after_ok (Ok done) holds p = holds p
after_ok (Err fault) holds p = tt

pub after_err : {P Q : Type 0} → (r : Result (Unit {0}) Fault) → (P → Q) → OnErr r P → OnErr r Q
after_err (Ok done) holds p = tt
after_err (Err fault) holds p = holds p

-- what holds of a result without a fault follows from two such
pub both_ok : {P Q R : Type 0} → (r : Result (Unit {0}) Fault) → (P → Q → R) → OnOk r P → OnOk r Q → OnOk r R
both_ok (Ok done) holds p q = holds p q
both_ok (Err fault) holds p q = tt

-- a machine that is watched has a state
pub has_state : (w : Watched) → HasWatched w → HasState w.machine
has_state w has = (has.0, has.1, has.2.shows)

-- ---- the open call

-- the lines of the check of the open call, if nobody expected its reply
pub closing_lines : (file : List ℕ) (old : Run) (check : Check) → unexpected old.strict old.last ≡ Some check
    → check_text file (old.tally.count + 1) check ≡ close_text file old
closing_lines file old check is =
    sym (append-nil (check_text file (old.tally.count + 1) check))
    ∙ ap (λ (o : Option Check). checks_text file (old.tally.count + 1) (option_to_list o)) (sym is)

-- the call is closed, and there is nothing to count
pub nothing_closed : (old new : Run) → unexpected old.strict old.last ≡ None → new.strict ≡ old.strict → new.watched ≡ old.watched
    → new.tally ≡ old.tally → Closes old new
nothing_closed old new none strict watched tally = record {
  strict = strict;
  watched = watched;
  tally = tally ∙ tally_none old.tally ∙ ap (λ (o : Option Check). tally_with old.tally (option_to_list o)) (sym none);
}

-- nothing is written then
pub nothing_said : (file : List ℕ) (old : Run) (w : Option (List ℕ)) → unexpected old.strict old.last ≡ None → Appends w w (close_text file old)
nothing_said file old w none =
    subst (λ (o : Option Check). Appends w w (checks_text file (old.tally.count + 1) (option_to_list o))) (sym none) (Appends-nil w)

-- the call is closed, and its check is counted
pub closed : (old new : Run) (check : Check) (left : Option Made) → unexpected old.strict old.last ≡ Some check
    → CountsCheck (record { strict = old.strict; watched = old.watched; last = left; tally = old.tally }) new check → Closes old new
closed old new check left is counts = record {
  strict = counts.strict;
  watched = counts.watched;
  tally = counts.tally ∙ ap (λ (o : Option Check). tally_with old.tally (option_to_list o)) (sym is);
}

-- the whole of a text is a beginning of it
pub all_begun : (a b : Option (List ℕ)) (text : List ℕ) → Appends a b text → AppendsFront a b text
all_begun a b text all = ([], record { front = text; parts = sym (append-nil text); appended = all })

-- ---- steps one after another

-- The state of a run, starting from a flat state: the machine represents one, the checks of further steps come after those that were written
-- and counted, and each claim that was broken first is known.
pub record IsAt (accounts : Accounts) (f : Flat) (file : List ℕ) (start now : Run) (steps : List Step) (before after : Option (List ℕ)) : Type 0 where
  pub flat : Flat
  pub is_end : flat ≡ flat_end accounts f (calls_in steps)
  pub watched : IsWatched accounts flat now.watched
  pub watches : now.watched.watches.items ≡ watches_after accounts f (calls_in steps) start.watched.watches.items
  pub strict : now.strict ≡ start.strict
  pub done : List Check
  pub goes_on : (later : List Step) → checks_ahead accounts f start (steps ++ later) ≡ done ++ checks_ahead accounts flat now later
  pub written : Appends before after (checks_text file (start.tally.count + 1) done)
  pub tally : now.tally ≡ tally_with start.tally done

-- The same for every flat state that the machine represented.
pub record HasCome (file : List ℕ) (start now : Run) (steps : List Step) (before after : Option (List ℕ)) : Type 0 where
  pub from : (accounts : Accounts) (f : Flat) → IsWatched accounts f start.watched → IsAt accounts f file start now steps before after

-- this holds before the first step
pub at_start : (file : List ℕ) (run : Run) (w : Option (List ℕ)) → HasCome file run run [] w w
at_start file run w = record {
  from = λ accounts f watched. record {
    flat = f;
    is_end = refl;
    watched = watched;
    watches = sym (none_after accounts f run.watched.watches.items);
    strict = refl;
    done = [];
    goes_on = λ later. refl;
    written = Appends-nil w;
    tally = tally_none run.tally;
  };
}

-- the calls of some steps and of one more
calls_more : (steps : List Step) (step : Step) → calls_in (steps ++ step ∷ []) ≡ calls_in steps ++ calls_in (step ∷ [])
calls_more steps step = filter_map-append call_of_step steps (step ∷ [])

-- the flat state after a step is that after its calls
flat_is : (accounts : Accounts) (f : Flat) (step : Step) → flat_at accounts f step ≡ flat_end accounts f (calls_in (step ∷ []))
flat_is accounts f (Makes c said) = refl
flat_is accounts f (Expects text) = refl
flat_is accounts f (Asks q) = refl
flat_is accounts f (Forbids q) = refl

-- the lines of some checks, and then of those that are numbered on from them
pub text_on : (file : List ℕ) (start now : Tally) (done more : List Check) → now ≡ tally_with start done
    → checks_text file (start.count + 1) (done ++ more) ≡ checks_text file (start.count + 1) done ++ checks_text file (now.count + 1) more
text_on file start now done more is =
    let counted : now.count ≡ start.count + length done = ap (λ (t : Tally). t.count) is in
    let on : (start.count + 1) + length done ≡ now.count + 1 = omega arith in
    checks_text-append file (start.count + 1) done more ∙ ap (λ (n : ℕ). checks_text file (start.count + 1) done ++ checks_text file n more) on

-- the checks of some steps, of one more and of those after it
goes_further : {accounts : Accounts} {f : Flat} {file : List ℕ} {start now : Run} {steps : List Step} {before after : Option (List ℕ)} → (step : Step)
    (later : List Step) (at : IsAt accounts f file start now steps before after)
    → checks_ahead accounts f start (steps ++ step ∷ later)
    ≡ at.done
    ++ (check_at now.strict accounts at.flat now.last step
    ++ checks_from now.strict accounts (flat_at accounts at.flat step) (last_at accounts at.flat now.last step) later)
goes_further {accounts = accounts} {now = now} step later at =
    at.goes_on (step ∷ later) ∙ ap (λ (cs : List Check). at.done ++ cs) (check_first now.strict accounts at.flat now.last step later)

-- one more step has been taken
pub at_more : {file : List ℕ} {start now new : Run} {steps : List Step} {step : Step} {a b : Option (List ℕ)} → (c : Option (List ℕ))
    → HasCome file start now steps a b → TakesStep now new step → WritesStep file now step b c
    → HasCome file start new (steps ++ step ∷ []) a c
at_more {file = file} {start = start} {now = now} {new = new} {steps = steps} {step = step} {a = a} {b = b} c come takes more = record {
  from = λ accounts f shows.
      let at = come.from accounts f shows in
      let taken = takes accounts at.flat at.watched in
      let check = check_at now.strict accounts at.flat now.last step in
      let flat = flat_at accounts at.flat step in
      let own = calls_in (step ∷ []) in
      let first = start.watched.watches.items in
      record {
        flat = flat;
        is_end = flat_is accounts at.flat step ∙ ap (λ (g : Flat). flat_end accounts g own) at.is_end
            ∙ sym (states_go_on accounts f (calls_in steps) own) ∙ ap (flat_end accounts f) (sym (calls_more steps step));
        watched = taken.watched;
        watches = taken.watches
            ∙ ap₂ (λ (g : Flat) (ws : List Watch). watches_after accounts g own ws) at.is_end at.watches
            ∙ more_after accounts f (calls_in steps) own first
            ∙ ap (λ (calls : List CallLine). watches_after accounts f calls first) (sym (calls_more steps step));
        strict = taken.strict ∙ at.strict;
        done = at.done ++ check;
        goes_on = λ later.
            ap (checks_ahead accounts f start) (append_assoc steps (step ∷ []) later) ∙ goes_further step later at
            ∙ ap₂ (λ (s : Bool) (last : Option Made). at.done ++ (check ++ checks_from s accounts flat last later))
            (sym taken.strict) (sym taken.last)
            ∙ sym (append_assoc at.done check (checks_ahead accounts flat new later));
        written = subst (Appends a c) (sym (text_on file start.tally now.tally at.done check at.tally))
            (Appends-trans a b c (checks_text file (start.tally.count + 1) at.done) (step_text file accounts at.flat now step) at.written
            (more accounts at.flat at.watched));
        tally = taken.tally ∙ ap (λ (t : Tally). tally_with t check) at.tally ∙ tally_more start.tally at.done check;
      };
}

-- one more step has been begun
pub at_front : {file : List ℕ} {start now : Run} {steps : List Step} {a b : Option (List ℕ)} → (step : Step) (all later : List Step)
    (c : Option (List ℕ)) → all ≡ steps ++ step ∷ later → HasCome file start now steps a b → BeginsStep file now step b c
    → BeginsSteps file start all a c
at_front {file = file} {start = start} {now = now} {a = a} {b = b} step all later c parts come begun accounts f shows =
    let at = come.from accounts f shows in
    let check = check_at now.strict accounts at.flat now.last step in
    let text_now = step_text file accounts at.flat now step in
    let rest = checks_from now.strict accounts (flat_at accounts at.flat step) (last_at accounts at.flat now.last step) later in
    let k = start.tally.count + 1 in
    let more = checks_text file ((now.tally.count + 1) + length check) rest in
    let text : checks_text file k (checks_ahead accounts f start all) ≡ checks_text file k at.done ++ (text_now ++ more) =
    ap (λ (s : List Step). checks_text file k (checks_ahead accounts f start s)) parts
    ∙ ap (checks_text file k) (goes_further step later at)
    ∙ text_on file start.tally now.tally at.done (check ++ rest) at.tally
    ∙ ap (λ (t : List ℕ). checks_text file k at.done ++ t) (checks_text-append file (now.tally.count + 1) check rest) in
    subst (AppendsFront a c) (sym text) (front_after a b c (checks_text file k at.done) text_now more at.written
    (begun accounts at.flat at.watched))

-- the checks of all steps are those that were written, and then that of the open call
all_done : {accounts : Accounts} {f : Flat} {file : List ℕ} {start now : Run} {steps : List Step} {before after : Option (List ℕ)}
    → (at : IsAt accounts f file start now steps before after) → checks_ahead accounts f start steps ≡ at.done ++ close_checks now
all_done {accounts = accounts} {f = f} {start = start} {steps = steps} at =
    ap (checks_ahead accounts f start) (sym (append-nil steps)) ∙ at.goes_on []

-- all steps have been taken at the end, where the open call was closed
pub at_end : {file : List ℕ} {start now new : Run} {steps : List Step} {a b : Option (List ℕ)} → (c : Option (List ℕ))
    → HasCome file start now steps a b → Closes now new → Appends b c (close_text file now) → TakesSteps file start new steps a c
at_end {file = file} {start = start} {now = now} {steps = steps} {a = a} {b = b} c come closes more accounts f shows =
    let at = come.from accounts f shows in
    let k = start.tally.count + 1 in
    let text : checks_text file k (checks_ahead accounts f start steps) ≡ checks_text file k at.done ++ close_text file now =
    ap (checks_text file k) (all_done at) ∙ text_on file start.tally now.tally at.done (close_checks now) at.tally in
    record {
      written = subst (Appends a c) (sym text) (Appends-trans a b c (checks_text file k at.done) (close_text file now) at.written more);
      tally = closes.tally ∙ ap (λ (t : Tally). tally_with t (close_checks now)) at.tally ∙ tally_more start.tally at.done (close_checks now)
          ∙ ap (tally_with start.tally) (sym (all_done at));
      watches = ap (λ (w : Watched). w.watches.items) closes.watched ∙ at.watches;
    }

-- all steps have been taken, and a beginning of the check of the open call was written
pub at_last : {file : List ℕ} {start now : Run} {steps : List Step} {a b : Option (List ℕ)} → (c : Option (List ℕ)) → HasCome file start now steps a b
    → AppendsFront b c (close_text file now) → BeginsSteps file start steps a c
at_last {file = file} {start = start} {now = now} {steps = steps} {a = a} {b = b} c come begun accounts f shows =
    let at = come.from accounts f shows in
    let k = start.tally.count + 1 in
    let text : checks_text file k (checks_ahead accounts f start steps) ≡ checks_text file k at.done ++ (close_text file now ++ []) =
    ap (checks_text file k) (all_done at) ∙ text_on file start.tally now.tally at.done (close_checks now) at.tally
    ∙ ap (λ (t : List ℕ). checks_text file k at.done ++ t) (sym (append-nil (close_text file now))) in
    subst (AppendsFront a c) (sym text) (front_after a b c (checks_text file k at.done) (close_text file now) [] at.written begun)

-- the machine of a run represents a state where the one that it began with does
pub watched_now : {file : List ℕ} {start now : Run} {steps : List Step} {a b : Option (List ℕ)} → HasCome file start now steps a b
    → HasWatched start.watched → HasWatched now.watched
watched_now come has = let at = come.from has.0 has.1 has.2 in (has.0, at.flat, at.watched)

-- a list is the part before a place, the element there, and the part after it
pub parts_at : {X : Type 0} → (all front : List X) (x : X) → front ≡ take (length front) all
    → (length front < length all) × (x ≡ get_or all (length front) x) → all ≡ front ++ x ∷ drop (length front + 1) all
parts_at {X} all front x begins here =
    let lt : length front < length all = here.0 in
    sym (take-append-drop (length front) all)
    ∙ ap₂ (λ (l m : List X). l ++ m) (sym begins) (drop_more all (length front) x lt ∙ ap (λ (y : X). y ∷ drop (length front + 1) all) (sym here.1))
