-- A whole test: its steps at their places, and then the checks of its claims `#never`.
use Rattle.std.proofs.Common.{◌≡◌, ℕ, ◌+◌, Bool, true, false, List, [], ◌∷◌, ◌++◌, not, Option, Some, None}
use Rattle.std.proofs.Common.{refl, sym, ap, ap₂, ◌∙◌, subst, append-nil}
use Rattle.std.proofs.KnownBytes.{Appends-nil, Appends-trans}
use Rattle.std.proofs.lemmas.List.{map-append}
use Rattle.std.proofs.lemmas.List.Elements.{filter-append, filter_map-append}
use Rattle.std.specs.Io.KnownBytes.{Appends}
use Rattle.std.specs.Prelude.{filter, is_some, map, option_to_list}
use Rattle.histar_io.specs.Writing.{AppendsFront}
use Rattle.histar_flat.specs.declared.calls.CallLine.{CallLine}
use Rattle.histar_flat.specs.Accounts.{Accounts}
use Rattle.histar_flat.specs.FlatCalls.{flat_after}
use Rattle.histar_flat.specs.FlatState.{Flat}
use Rattle.histar_flat.specs.Meaning.{boot}
use Rattle.histar_shell.proofs.AnswerLemmas.{front_after}
use Rattle.histar_never.specs.declared.claims.Never.{Never}
use Rattle.histar_test.specs.declared.checks.Check.{Check}
use Rattle.histar_test.specs.declared.checks.Made.{Made}
use Rattle.histar_test.specs.declared.running.Run.{Run}
use Rattle.histar_test.specs.declared.running.Tally.{Tally}
use Rattle.histar_test.specs.declared.steps.Step.{Step}
use Rattle.histar_test.specs.declared.steps.Step.TheVariants.{Makes, Expects, Asks, Forbids}
use Rattle.histar_test.specs.declared.watching.Watch.{Watch}
use Rattle.histar_test.specs.declared.checks.Wanted.TheVariants.{Text}
use Rattle.histar_test.specs.Checks.{asked_check, check_text, checks_from, checks_of, checks_text, made_of, never_check, unexpected}
use Rattle.histar_test.specs.Running.{AreSplit, AreSplitWith, BeginsSteps, BeginsTest, CountsClaims, RunsTest, Starts, TakesSteps}
use Rattle.histar_test.specs.Running.{checks_ahead, claim_checks, claims_text, tally_with}
use Rattle.histar_test.specs.Steps.{calls_in, never_of_step, nevers_in}
use Rattle.histar_test.specs.Watching.{HasWatched, IsWatched, unbroken, watch_check, watches_after}
use Rattle.histar_test.proofs.CheckLemmas.{checks_text-append, tally_more, tally_none}
use Rattle.histar_test.proofs.FileLemmas.{front_first, front_second}
use Rattle.histar_test.proofs.RunLemmas.{text_on}

-- ---- the checks of claims, one after another

-- The checks of these claims were written and counted.
pub record AreCounted (file : List ℕ) (start now : Tally) (done : List Watch) (before after : Option (List ℕ)) : Type 0 where
  pub written : Appends before after (checks_text file (start.count + 1) (map watch_check done))
  pub tally : now ≡ tally_with start (map watch_check done)

-- this holds before the first
pub none_counted : (file : List ℕ) (t : Tally) (w : Option (List ℕ)) → AreCounted file t t [] w w
none_counted file t w = record { written = Appends-nil w; tally = tally_none t }

module _ {file : List ℕ} {start now : Tally} {done : List Watch} {a b : Option (List ℕ)} (counted : AreCounted file start now done a b) where
  -- the checks of these claims, of one more and of those after it
  text_further : (watch : Watch) (later : List Watch)
      → checks_text file (start.count + 1) (map watch_check (done ++ watch ∷ later))
      ≡ checks_text file (start.count + 1) (map watch_check done)
      ++ (check_text file (now.count + 1) (watch_check watch) ++ checks_text file (now.count + 1 + 1) (map watch_check later))
  text_further watch later =
      ap (checks_text file (start.count + 1)) (map-append watch_check done (watch ∷ later))
      ∙ text_on file start now (map watch_check done) (map watch_check (watch ∷ later)) counted.tally

  -- the check of one more was written and counted
  pub counted_more : (watch : Watch) (check : Check) (after : Tally) (c : Option (List ℕ)) → check ≡ watch_check watch
      → Appends b c (check_text file (now.count + 1) check) → after ≡ tally_with now (check ∷ [])
      → AreCounted file start after (done ++ watch ∷ []) a c
  counted_more watch check after c is more counts =
      let front = checks_text file (start.count + 1) (map watch_check done) in
      let text : checks_text file (start.count + 1) (map watch_check (done ++ watch ∷ [])) ≡ front ++ check_text file (now.count + 1) check =
      text_further watch []
      ∙ ap (λ (t : List ℕ). front ++ t) (append-nil _ ∙ ap (check_text file (now.count + 1)) (sym is)) in
      record {
        written = subst (Appends a c) (sym text) (Appends-trans a b c front (check_text file (now.count + 1) check) counted.written more);
        tally = counts ∙ ap (λ (t : Tally). tally_with t (check ∷ [])) counted.tally
            ∙ tally_more start (map watch_check done) (check ∷ [])
            ∙ ap (λ (k : Check). tally_with start (map watch_check done ++ k ∷ [])) is
            ∙ ap (tally_with start) (sym (map-append watch_check done (watch ∷ [])));
      }

  -- a beginning of the check of one more was written
  pub counted_front : (watch : Watch) (all later : List Watch) (check : Check) (c : Option (List ℕ)) → all ≡ done ++ watch ∷ later
      → check ≡ watch_check watch → AppendsFront b c (check_text file (now.count + 1) check)
      → AppendsFront a c (checks_text file (start.count + 1) (map watch_check all))
  counted_front watch all later check c parts is begun =
      let text : checks_text file (start.count + 1) (map watch_check all) ≡ _ =
      ap (λ (ws : List Watch). checks_text file (start.count + 1) (map watch_check ws)) parts ∙ text_further watch later in
      subst (AppendsFront a c) (sym text)
      (front_after a b c _ (check_text file (now.count + 1) (watch_check watch)) _ counted.written
      (subst (λ (k : Check). AppendsFront b c (check_text file (now.count + 1) k)) is begun))

-- ---- the steps, and then the claims

module _ {file : List ℕ} {start mid : Run} {steps : List Step} {a b : Option (List ℕ)} (takes : TakesSteps file start mid steps a b) where
  -- the lines of all checks, after those of the steps
  text_then : (accounts : Accounts) (f : Flat) → IsWatched accounts f start.watched
      → checks_text file (start.tally.count + 1)
      (checks_ahead accounts f start steps ++ map watch_check (watches_after accounts f (calls_in steps) start.watched.watches.items))
      ≡ checks_text file (start.tally.count + 1) (checks_ahead accounts f start steps) ++ claims_text file mid
  text_then accounts f w =
      let t = takes accounts f w in
      let own = checks_ahead accounts f start steps in
      ap (λ (ws : List Watch). checks_text file (start.tally.count + 1) (own ++ map watch_check ws)) (sym t.watches)
      ∙ text_on file start.tally mid.tally own (claim_checks mid) t.tally

  -- all checks were written and counted
  pub test_run : (new : Run) (c : Option (List ℕ)) → CountsClaims mid new → Appends b c (claims_text file mid)
      → RunsTest file start new steps a c
  test_run new c counts more accounts f w =
      let t = takes accounts f w in
      let own = checks_ahead accounts f start steps in
      record {
        written = subst (Appends a c) (sym (text_then accounts f w))
            (Appends-trans a b c (checks_text file (start.tally.count + 1) own) (claims_text file mid) t.written more);
        tally = counts ∙ ap (λ (t : Tally). tally_with t (claim_checks mid)) t.tally
            ∙ tally_more start.tally own (claim_checks mid)
            ∙ ap (λ (ws : List Watch). tally_with start.tally (own ++ map watch_check ws)) t.watches;
      }

  -- the checks of the steps were written, and a beginning of those of the claims
  pub claims_begun : (c : Option (List ℕ)) → AppendsFront b c (claims_text file mid) → BeginsTest file start steps a c
  claims_begun c begun accounts f w =
      let t = takes accounts f w in
      subst (AppendsFront a c) (sym (text_then accounts f w))
      (front_second a b c (checks_text file (start.tally.count + 1) (checks_ahead accounts f start steps)) (claims_text file mid) t.written begun)

-- a beginning of the checks of the steps is one of all
pub steps_begun : (file : List ℕ) (start : Run) (steps : List Step) (a b : Option (List ℕ)) → BeginsSteps file start steps a b
    → BeginsTest file start steps a b
steps_begun file start steps a b begins accounts f w =
    let own = checks_ahead accounts f start steps in
    let claims = map watch_check (watches_after accounts f (calls_in steps) start.watched.watches.items) in
    let k = start.tally.count + 1 in
    subst (AppendsFront a b) (sym (checks_text-append file k own claims))
    (front_first a b (checks_text file k own) _ (begins accounts f w))

-- ---- the steps of a test are split

-- the step is no claim `#never`
abbrev pub is_taken : Step → Bool
is_taken step = not (is_some (never_of_step step))

-- no step was split yet
pub none_split : AreSplit [] [] []
none_split = record { taken = refl; watches = refl }

-- one more step was split
pub split_more : {steps taken : List Step} {watches : List Watch} → (step : Step) (taken_after : List Step) (watches_after : List Watch)
    → AreSplit steps taken watches → AreSplitWith step taken taken_after watches watches_after
    → AreSplit (steps ++ step ∷ []) taken_after watches_after
split_more {steps = steps} step taken_after watches_after are with = record {
  taken = with.taken ∙ ap (λ (l : List Step). l ++ filter is_taken (step ∷ [])) are.taken ∙ sym (filter-append is_taken steps (step ∷ []));
  watches = with.watches ∙ ap (λ (l : List Watch). l ++ map unbroken (nevers_in (step ∷ []))) are.watches
      ∙ sym (map-append unbroken (nevers_in steps) (nevers_in (step ∷ [])))
      ∙ ap (map unbroken) (sym (filter_map-append never_of_step steps (step ∷ [])));
}

-- the calls of a test are those of the steps that are taken at their places
calls_taken : (steps : List Step) → calls_in (filter is_taken steps) ≡ calls_in steps
calls_taken [] = refl
calls_taken (Makes c said ∷ steps) = ap (λ (cs : List CallLine). c ∷ cs) (calls_taken steps)
calls_taken (Expects text ∷ steps) = calls_taken steps
calls_taken (Asks q ∷ steps) = calls_taken steps
calls_taken (Forbids q ∷ steps) = calls_taken steps

-- and so are the checks of steps
checks_taken : (strict : Bool) (accounts : Accounts) (f : Flat) (last : Option Made) (steps : List Step)
    → checks_from strict accounts f last (filter is_taken steps) ≡ checks_from strict accounts f last steps
checks_taken strict accounts f last [] = refl
checks_taken strict accounts f last (Makes c said ∷ steps) =
    ap (λ (cs : List Check). option_to_list (unexpected strict last) ++ cs)
    (checks_taken strict accounts (flat_after accounts f c.process c.call) (Some (made_of accounts f c said)) steps)
checks_taken strict accounts f None (Expects text ∷ steps) = checks_taken strict accounts f None steps
checks_taken strict accounts f (Some made) (Expects text ∷ steps) =
    let check : Check = record { made = made; wanted = Text text } in
    ap (λ (cs : List Check). check ∷ cs) (checks_taken strict accounts f None steps)
checks_taken strict accounts f last (Asks q ∷ steps) =
    ap (λ (cs : List Check). asked_check accounts f q ∷ cs) (checks_taken strict accounts f last steps)
checks_taken strict accounts f last (Forbids q ∷ steps) = checks_taken strict accounts f last steps

-- the checks of the claims that were watched through these calls
claims_watched : (accounts : Accounts) (calls : List CallLine) (nevers : List Never)
    → map watch_check (watches_after accounts (boot accounts) calls (map unbroken nevers)) ≡ map (never_check accounts calls) nevers
claims_watched accounts calls [] = refl
claims_watched accounts calls (never ∷ nevers) =
    ap (λ (cs : List Check). never_check accounts calls never ∷ cs) (claims_watched accounts calls nevers)

-- the checks of a test whose steps were split
pub whole_checks : (strict : Bool) (accounts : Accounts) (steps taken : List Step) (watches : List Watch) → AreSplit steps taken watches
    → checks_from strict accounts (boot accounts) None taken ++ map watch_check (watches_after accounts (boot accounts) (calls_in taken) watches)
    ≡ checks_of strict (record { accounts = accounts; steps = steps })
whole_checks strict accounts steps taken watches are =
    ap₂ (λ (x y : List Check). x ++ y)
    (ap (checks_from strict accounts (boot accounts) None) are.taken ∙ checks_taken strict accounts (boot accounts) None steps)
    (ap₂ (λ (cs : List CallLine) (ws : List Watch). map watch_check (watches_after accounts (boot accounts) cs ws))
    (ap calls_in are.taken ∙ calls_taken steps) are.watches
    ∙ claims_watched accounts (calls_in steps) (nevers_in steps))

-- ---- a whole test

module _ {accounts : Accounts} {strict : Bool} {tally : Tally} {watches : List Watch} {start : Run}
    (starts : Starts accounts strict tally watches start) where
  -- the machine of a run represents the start, to which no calls lead
  pub watched_start : IsWatched accounts (boot accounts) start.watched
  watched_start = record {
    shows = record { shows = starts.shows; reached = ([], refl) };
    up_to_date = λ has. let no : true ≡ false = sym has ∙ starts.uncalled in absurd cc;
  }

  -- it has a state
  pub start_has_state : HasWatched start.watched
  start_has_state = (accounts, boot accounts, watched_start)

  -- what a run has at its start
  abbrev Begun : Type 0
  Begun = Bool × (Option Made × (Tally × List Watch))

  -- the checks of a test, by what its run has at its start
  abbrev checks_at : List Step → Begun → List Check
  checks_at steps at =
      checks_from at.0 accounts (boot accounts) at.1.0 steps ++ map watch_check (watches_after accounts (boot accounts) (calls_in steps) at.1.1.1)

  -- the steps of a test were taken from its start
  pub test_taken : {now : Run} (a b : Option (List ℕ)) (file : List ℕ) (steps taken : List Step)
      → RunsTest file start now taken a b → AreSplit steps taken watches
      → Appends a b (checks_text file (tally.count + 1) (checks_of strict (record { accounts = accounts; steps = steps })))
      × (now.tally ≡ tally_with tally (checks_of strict (record { accounts = accounts; steps = steps })))
  test_taken {now = now} a b file steps taken runs are =
      let run = runs accounts (boot accounts) watched_start in
      let Taken : Begun → Type 0 = λ at.
      Appends a b (checks_text file (at.1.1.0.count + 1) (checks_at taken at)) × (now.tally ≡ tally_with at.1.1.0 (checks_at taken at)) in
      let all = subst Taken (λ i. (starts.as_asked i, (starts.last i, (starts.tally i, starts.watches i)))) (run.written, run.tally) in
      subst (λ (cs : List Check). Appends a b (checks_text file (tally.count + 1) cs) × (now.tally ≡ tally_with tally cs))
      (whole_checks strict accounts steps taken watches are) all

  -- some steps of a test were taken, and a beginning of the last was written
  pub test_begun : (a b : Option (List ℕ)) (file : List ℕ) (steps taken : List Step)
      → BeginsTest file start taken a b → AreSplit steps taken watches
      → AppendsFront a b (checks_text file (tally.count + 1) (checks_of strict (record { accounts = accounts; steps = steps })))
  test_begun a b file steps taken begins are =
      let all = subst (λ (at : Begun). AppendsFront a b (checks_text file (at.1.1.0.count + 1) (checks_at taken at)))
      (λ i. (starts.as_asked i, (starts.last i, (starts.tally i, starts.watches i)))) (begins accounts (boot accounts) watched_start) in
      subst (λ (cs : List Check). AppendsFront a b (checks_text file (tally.count + 1) cs)) (whole_checks strict accounts steps taken watches are) all
