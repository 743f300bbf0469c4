-- What a machine represents after calls, and what was gathered.
use Rattle.std.proofs.Common.{◌≡◌, Bool, false, List, [], ◌∷◌, ◌++◌, Ok, sym, ap, ◌∙◌, subst, append-nil}
use Rattle.std.specs.Prelude.{not, ◌&&◌, refl}
use Rattle.histar_flat.specs.declared.calls.CallLine.{CallLine}
use Rattle.histar_flat.specs.declared.replies.Reply.{Reply}
use Rattle.histar_flat.specs.Accounts.{Accounts}
use Rattle.histar_flat.specs.FlatState.{Flat}
use Rattle.histar_flat.specs.FlatCalls.{flat_after}
use Rattle.histar_flat.specs.Meaning.{boot, flat_end}
use Rattle.histar_flat.proofs.Laws.{states_go_on}
use Rattle.histar_rights.proofs.Named.{processes_are_named}
use Rattle.histar_rights.specs.Laws.{is_answer}
use Rattle.histar_shell.specs.Machine.{MachineModel}
use Rattle.histar_shell.specs.Meaning.{FollowsMeaning, Shows, ShowsStart}
use Rattle.histar_access.specs.Shown.{IsShown}
use Rattle.histar_never.specs.Changing.{is_question, may_change}
use Rattle.histar_ever.specs.Following.{AddsNothingAgain, AddsState, FollowsCalls, Gathering, GathersNone, GathersRun}
use Rattle.histar_ever.specs.Following.{IsAfter, IsRunning, IsStarted}
use Rattle.histar_ever.specs.States.{states_from}
use Rattle.histar_never.proofs.Questions.{others_change_nothing}

-- the states of a run with one more call
states_more : (accounts : Accounts) (f : Flat) (calls : List CallLine) (c : CallLine)
    → states_from accounts f (calls ++ c ∷ []) ≡ states_from accounts f calls ++ flat_end accounts f (calls ++ c ∷ []) ∷ []
states_more accounts f [] c = refl
states_more accounts f (d ∷ calls) c =
    ap (λ (fs : List Flat). f ∷ fs) (states_more accounts (flat_after accounts f d.process d.call) calls c)

-- the machine represents the start of a run
pub shown_start : (m : MachineModel) → IsStarted m → IsShown m
shown_start m is = (is.0, boot is.0, is.1, processes_are_named is.0 [])

module _ {E : Type 0} (gathers : Gathering E) where
  -- what was gathered is the same by another name
  pub gathered_as : (calls : List CallLine) (old new : MachineModel) (e added after : E) → after ≡ added
      → FollowsCalls gathers calls old new e added → FollowsCalls gathers calls old new e after
  gathered_as calls old new e added after is = subst (λ (x : E). FollowsCalls gathers calls old new e x) (sym is)

  -- ---- one call

  module _ (accounts : Accounts) (first : List CallLine) (c : CallLine) where
    -- the state before the call, and the one after it
    abbrev before : Flat
    before = flat_end accounts (boot accounts) first

    abbrev after : Flat
    after = flat_end accounts (boot accounts) (first ++ c ∷ [])

    abbrev states : List Flat
    states = states_from accounts (boot accounts) first

    shows_after : (old new : MachineModel) (reply : Reply) → FollowsMeaning (Unit {0}) old new c.line c.process c.call (Ok reply)
        → Shows accounts old before → Shows accounts new after
    shows_after old new reply means shows =
        subst (Shows accounts new) (sym (states_go_on accounts (boot accounts) first (c ∷ []))) (means accounts before shows).shows

    -- the states with the last one once more are those of the run with the call, if it leads to this state
    one_more : (e : E) (f : Flat) → f ≡ after → gathers accounts (states ++ f ∷ []) e
        → gathers accounts (states_from accounts (boot accounts) (first ++ c ∷ [])) e
    one_more e f is gathered = subst (λ (fs : List Flat). gathers accounts fs e)
        (ap (λ (g : Flat). states ++ g ∷ []) is ∙ sym (states_more accounts (boot accounts) first c)) gathered

    -- a call was made, and the state after it was gathered
    called : (old new : MachineModel) (e added : E) (reply : Reply) → FollowsMeaning (Unit {0}) old new c.line c.process c.call (Ok reply)
        → AddsState gathers new e added → IsAfter gathers accounts first old e → IsAfter gathers accounts (first ++ c ∷ []) new added
    called old new e added reply means adds is =
        let shows = shows_after old new reply means is.shows in
        record { shows = shows; gathered = one_more added after refl (adds accounts (first ++ c ∷ []) shows states is.gathered) }

    -- a call was made that changed nothing
    asked : AddsNothingAgain gathers → (old new : MachineModel) (e : E) (reply : Reply)
        → FollowsMeaning (Unit {0}) old new c.line c.process c.call (Ok reply)
        → may_change c.call reply ≡ false → IsAfter gathers accounts first old e → IsAfter gathers accounts (first ++ c ∷ []) new e
    asked again old new e reply means unchanged is =
        let same : flat_after accounts before c.process c.call ≡ before = others_change_nothing accounts before c.process c.call
        (ap (may_change c.call) (sym (means accounts before is.shows).is_reply) ∙ unchanged) in
        let stays : before ≡ after = sym same ∙ sym (states_go_on accounts (boot accounts) first (c ∷ [])) in
        record {
          shows = shows_after old new reply means is.shows;
          gathered = one_more e before stays (again accounts (boot accounts) first e is.gathered);
        }

  module _ (old new : MachineModel) (e : E) (c : CallLine) (reply : Reply)
      (means : FollowsMeaning (Unit {0}) old new c.line c.process c.call (Ok reply)) where
    -- the machine represents some state after a call
    pub shown_after : IsRunning gathers old e → IsShown new
    shown_after is = (
      is.0,
      flat_end is.0 (boot is.0) (is.1 ++ c ∷ []),
      shows_after is.0 is.1 c old new reply means is.2.shows,
      processes_are_named is.0 (is.1 ++ c ∷ []),
    )

    -- a call was made, and the state of the machine was gathered
    pub changed : (added : E) → AddsState gathers new e added → FollowsCalls gathers (c ∷ []) old new e added
    changed added adds accounts first is = called accounts first c old new e added reply means adds is

    -- a call was made that may not have changed anything
    pub unchanged : AddsNothingAgain gathers → (question changes : Bool) → question ≡ is_question c.call
        → changes ≡ (not question && is_answer reply) → changes ≡ false → FollowsCalls gathers (c ∷ []) old new e e
    unchanged again question changes asks answers none accounts first is =
        asked accounts first c again old new e reply means (ap (λ b. not b && is_answer reply) (sym asks) ∙ sym answers ∙ none) is

  -- ---- several calls

  -- the machine is still one of a run
  pub still_running : (calls : List CallLine) (old new : MachineModel) (e more : E) → IsRunning gathers old e
      → FollowsCalls gathers calls old new e more → IsRunning gathers new more
  still_running calls old new e more is follows = (is.0, is.1 ++ calls, follows is.0 is.1 is.2)

  -- no call was made
  pub none_made : (m : MachineModel) (e : E) → FollowsCalls gathers [] m m e e
  none_made m e accounts first is = subst (λ (cs : List CallLine). IsAfter gathers accounts cs m e) (sym (append-nil first)) is

  -- ---- a whole run

  -- the state at the start was gathered
  started : (accounts : Accounts) (m : MachineModel) (e some : E) → ShowsStart accounts m → gathers accounts [] e
      → AddsState gathers m e some → IsAfter gathers accounts [] m some
  started accounts m e some shows none adds = record { shows = shows; gathered = adds accounts [] shows [] none }

  pub running_start : (m : MachineModel) (e some : E) → IsStarted m → GathersNone gathers m e → AddsState gathers m e some
      → IsRunning gathers m some
  running_start m e some is none adds = (is.0, [], started is.0 m e some is.1 (none is.0 is.1) adds)

  -- the calls after the start were made
  pub run_gathered : (calls : List CallLine) (old new : MachineModel) (e some more : E) → GathersNone gathers old e
      → AddsState gathers old e some → FollowsCalls gathers calls old new some more → GathersRun gathers calls old more
  run_gathered calls old new e some more none adds follows accounts shows =
      (follows accounts [] (started accounts old e some shows (none accounts shows) adds)).gathered
