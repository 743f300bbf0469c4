-- Claims `#never` that are watched: calls one after another, and what no call has changed.
use Rattle.std.proofs.Common.{◌≡◌, ℕ, Bool, true, false, List, [], ◌∷◌, ◌++◌, Option, Some, None, Ok, not, ◌||◌}
use Rattle.std.proofs.Common.{refl, sym, ap, ap₂, ◌∙◌, subst}
use Rattle.std.specs.Prelude.{map, option_map, if◌then◌else◌}
use Rattle.std.specs.Option.{option_or}
use Rattle.histar_flat.specs.declared.calls.CallLine.{CallLine}
use Rattle.histar_flat.specs.declared.replies.Reply.{Reply}
use Rattle.histar_flat.specs.Accounts.{Accounts}
use Rattle.histar_flat.specs.FlatState.{Flat}
use Rattle.histar_flat.specs.FlatCalls.{flat_after}
use Rattle.histar_flat.specs.Meaning.{boot, flat_end}
use Rattle.histar_flat.specs.Texts.{reply_text}
use Rattle.histar_flat.proofs.Laws.{states_go_on}
use Rattle.histar_reasons.specs.Laws.{is_refusal}
use Rattle.histar_secrecy.specs.Noninterference.{IsReached}
use Rattle.histar_shell.specs.Machine.{MachineModel}
use Rattle.histar_shell.specs.Meaning.{FollowsMeaning}
use Rattle.histar_trust.specs.Findings.{ShowsReached}
use Rattle.histar_trust.proofs.ShownTrust.{has_processes, named}
use Rattle.histar_prefix.specs.Listing.{HasProcesses}
use Rattle.histar_never.specs.declared.breaches.Breach.{Breach}
use Rattle.histar_never.specs.declared.breaches.LateBreach.{LateBreach}
use Rattle.histar_never.specs.declared.claims.Never.{Never}
use Rattle.histar_never.specs.Breaches.{breach_in, first_breach, late}
use Rattle.histar_never.specs.Changing.{may_change}
use Rattle.histar_never.proofs.Questions.{others_change_nothing}
use Rattle.histar_test.specs.declared.checks.Made.{Made}
use Rattle.histar_test.specs.declared.watching.Watch.{Watch}
use Rattle.histar_test.specs.declared.watching.Watched.{Watched}
use Rattle.histar_test.specs.Watching.{AreUpToDate, HasWatched, Looks, MakesCall, watch_in, watches_after}

-- ---- what was found

-- what was found, or nothing
pub or_none : {A : Type 0} (o : Option A) → option_or o None ≡ o
or_none None = refl
or_none (Some x) = refl

-- the first of three that was found
or_assoc : {A : Type 0} (a b c : Option A) → option_or (option_or a b) c ≡ option_or a (option_or b c)
or_assoc None b c = refl
or_assoc (Some x) b c = refl

-- to look once more in the same state finds nothing new, whatever the line is
found_again : (found : Option LateBreach) (b : Option Breach) (m n : ℕ)
    → option_or (option_or found (option_map (late m) b)) (option_map (late n) b) ≡ option_or found (option_map (late m) b)
found_again (Some x) b m n = refl
found_again None None m n = refl
found_again None (Some b) m n = refl

-- a watch with another finding
abbrev pub with_found : Watch → Option LateBreach → Watch
with_found w found = record { never = w.never; found = found }

-- ---- calls one after another

-- the first breach by calls and others
breach_more : (accounts : Accounts) (f : Flat) (front more : List CallLine) (never : Never)
    → first_breach accounts f (front ++ more) never
    ≡ option_or (first_breach accounts f front never) (first_breach accounts (flat_end accounts f front) more never)
breach_more accounts f [] more never = refl
breach_more accounts f (c ∷ front) more never =
    let after = flat_after accounts f c.process c.call in
    let here = option_map (late c.line) (breach_in accounts after never) in
    ap (option_or here) (breach_more accounts after front more never)
    ∙ sym (or_assoc here (first_breach accounts after front never) (first_breach accounts (flat_end accounts after front) more never))

module _ (accounts : Accounts) (f : Flat) where
  -- without a call nothing is found
  pub none_after : (watches : List Watch) → watches_after accounts f [] watches ≡ watches
  none_after [] = refl
  none_after (w ∷ watches) =
      ap₂ (λ (a : Watch) (b : List Watch). a ∷ b) (ap (with_found w) (or_none w.found)) (none_after watches)

  -- claims after calls and others
  pub more_after : (front more : List CallLine) (watches : List Watch)
      → watches_after accounts (flat_end accounts f front) more (watches_after accounts f front watches)
      ≡ watches_after accounts f (front ++ more) watches
  more_after front more [] = refl
  more_after front more (w ∷ watches) =
      let one = first_breach accounts f front w.never in
      let two = first_breach accounts (flat_end accounts f front) more w.never in
      ap₂ (λ (a : Watch) (b : List Watch). a ∷ b)
      (ap (with_found w) (or_assoc w.found one two ∙ ap (option_or w.found) (sym (breach_more accounts f front more w.never))))
      (more_after front more watches)

  -- to look at claims once more in the same state finds nothing new
  pub nothing_new : (m : ℕ) (watches : List Watch) → AreUpToDate accounts f (map (watch_in accounts f m) watches)
  nothing_new m [] n = refl
  nothing_new m (w ∷ watches) n =
      ap₂ (λ (a : Watch) (b : List Watch). a ∷ b) (ap (with_found w) (found_again w.found (breach_in accounts f w.never) m n))
      (nothing_new m watches n)

  -- to look at claims after a call is to watch them through it
  pub one_after : (c : CallLine) (watches : List Watch)
      → map (watch_in accounts (flat_after accounts f c.process c.call) c.line) watches ≡ watches_after accounts f (c ∷ []) watches
  one_after c [] = refl
  one_after c (w ∷ watches) =
      let here = option_map (late c.line) (breach_in accounts (flat_after accounts f c.process c.call) w.never) in
      ap₂ (λ (a : Watch) (b : List Watch). a ∷ b) (ap (λ (o : Option LateBreach). with_found w (option_or w.found o)) (sym (or_none here)))
      (one_after c watches)

-- ---- a call of a machine

-- a state that calls lead to leads on to others
pub goes_on_reached : (accounts : Accounts) (f : Flat) (call : CallLine) → IsReached accounts f
    → IsReached accounts (flat_after accounts f call.process call.call)
goes_on_reached accounts f call (calls, is) = (
  calls ++ call ∷ [],
  states_go_on accounts (boot accounts) calls (call ∷ []) ∙ ap (λ (g : Flat). flat_after accounts g call.process call.call) is,
)

-- where nothing can have changed the claims are as if they were looked at
looked_or : (look : Watch → Watch) (may has : Bool) (old new : List Watch) → new ≡ (if may || not has then map look old else old)
    → (may ≡ false → has ≡ true → map look old ≡ old) → new ≡ map look old
looked_or look true has old new is same = is
looked_or look false false old new is same = is
looked_or look false true old new is same = is ∙ sym (same refl refl)

module _ (old : Watched) (stepped : MachineModel) (call : CallLine) (reply : Reply)
    (means : FollowsMeaning (Unit {0}) old.machine stepped call.line call.process call.call (Ok reply)) where
  -- the machine has processes after the call
  pub still_has_processes : HasWatched old → HasProcesses stepped
  still_has_processes (accounts, f, w) =
      let meant = means accounts f w.shows.shows in
      let after : ShowsReached accounts stepped (flat_after accounts f call.process call.call) =
      record { shows = meant.shows; reached = goes_on_reached accounts f call w.shows.reached } in
      has_processes after

  module _ (may : Bool) (new : Watched) (is_may : may ≡ may_change call.call reply)
      (looks : Looks call.line may (record { machine = stepped; watches = old.watches; has_called = old.has_called }) new) where
    -- the claims that were looked at, or that need not be
    pub call_watched : (said : List ℕ) (made : Made)
        → made ≡ record { line = call.line; said = said; reply = reply_text reply; is_refused = is_refusal reply }
        → MakesCall old new call said made
    call_watched said made is accounts f w =
        let meant = means accounts f w.shows.shows in
        let g = flat_after accounts f call.process call.call in
        let after : ShowsReached accounts stepped g = record { shows = meant.shows; reached = goes_on_reached accounts f call w.shows.reached } in
        let before = old.watches.items in
        let found = looks.watches accounts g meant.shows (named after) in
        let unchanged : may ≡ false → old.has_called ≡ true → map (watch_in accounts g call.line) before ≡ before = λ no has.
        let stays : g ≡ f =
        others_change_nothing accounts f call.process call.call (ap (may_change call.call) (sym meant.is_reply) ∙ sym is_may ∙ no) in
        ap (λ (h : Flat). map (watch_in accounts h call.line) before) stays ∙ w.up_to_date has call.line in
        let all : new.watches.items ≡ map (watch_in accounts g call.line) before =
        looked_or (watch_in accounts g call.line) may old.has_called before new.watches.items found unchanged in
        record {
          watched = record {
            shows = subst (λ (m : MachineModel). ShowsReached accounts m g) (sym looks.machine) after;
            up_to_date = λ has. subst (AreUpToDate accounts g) (sym all) (nothing_new accounts g call.line before);
          };
          watches = all ∙ one_after accounts f call before;
          is = is
              ∙ (λ i. let made : Made =
              record { line = call.line; said = said; reply = reply_text (meant.is_reply i); is_refused = is_refusal (meant.is_reply i) } in made);
        }
