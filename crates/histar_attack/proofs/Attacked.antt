-- The Unix calls that are made in an attack are answered as the rules say for these calls alone.
use Rattle.std.proofs.Common.{◌≡◌, ℕ, ◌+◌, ◌*◌, ◌≤◌, ◌<◌, ◌⊎◌, Bool, true, false}
use Rattle.std.proofs.Common.{List, [], ◌∷◌, ◌++◌, codes, length}
use Rattle.std.proofs.Common.{Option, None, Some, Result, Ok, Err}
use Rattle.std.proofs.Common.{refl, sym, ap, ◌∙◌, subst, inl, inr}
use Rattle.std.specs.Prelude.{IfErr, IfOk, MatchOption}
use Rattle.std.specs.Global.{Vec}
use Rattle.std.proofs.lemmas.Bool.{or_left}
use Rattle.std.proofs.lemmas.List.{map-append}
use mathlib.Core.Bool.{false≢true}
use Rattle.histar_flat.specs.Words.{ProcName}
use Rattle.histar_flat.specs.Accounts.{Accounts, has}
use Rattle.histar_flat.specs.FlatState.{Flat}
use Rattle.histar_flat.specs.Meaning.{RepliedCall, answered_from, boot, flat_end}
use Rattle.histar_flat.proofs.Laws.{replies_go_on, states_go_on}
use Rattle.histar_secrecy.specs.Noninterference.{IsReached}
use Rattle.histar_script.specs.declared.fault.Fault.{Fault}
use Rattle.histar_script.specs.declared.fault.Fault.TheVariants.{OutOfMemory}
use Rattle.histar_rules.specs.declared.raw.Denied.{Denied}
use Rattle.histar_syscall.specs.declared.answers.Answer.{Answer}
use Rattle.histar_syscall.specs.KernelModel.{state}
use Rattle.histar_raw_session.specs.declared.read_session.RawLine.{RawLine}
use Rattle.histar_programs.specs.declared.roots.Home.{Home}
use Rattle.histar_programs.specs.Start.{declared, roots_of}
use Rattle.histar_refinement.specs.Categories.CategoryName.{OfJob}
use Rattle.histar_refinement.specs.Represents.{Represents}
use Rattle.histar_shell.specs.Answers.{calls_of}
use Rattle.histar_shell.specs.Machine.{IsStart, MachineModel}
use Rattle.histar_shell.specs.Meaning.{ShowsStart}
use Rattle.histar_shell.specs.RawCalls.{AnswersRaw, MakesRaw, denied_of}
use Rattle.histar_shell.proofs.SessionMeanings.{booted_traced}
use Rattle.histar_outside.specs.Attacks.{AreAlikeMachines, IsRawStep, MakesAttack, MixedLine, outside_of}
use Rattle.histar_outside.specs.Attacks.MixedLine.{Outside, Raw}
use Rattle.histar_outside.specs.NamedAttacks.{HasJob, IsUnderWay}
use Rattle.histar_outside.proofs.AllPrograms.{attacks_unseen}
use Rattle.histar_outside.proofs.JobsBegin.{booted_under_way}
use Rattle.histar_outside.proofs.LaterNumbers.{made_later}
use Rattle.histar_outside.proofs.Starts.{attacks_start}
use Rattle.histar_mixed.specs.declared.items.MixedItem.{MixedItem}
use Rattle.histar_attack.specs.declared.session.AttackOptions.{AttackOptions}
use Rattle.histar_attack.specs.declared.session.Parts.{Parts}
use Rattle.histar_attack.specs.Answering.{GivesOutput, HandlesAll, trace_if_asked}
use Rattle.histar_attack.specs.Attack.{Attacks, FindsNoJob, GivesAttack, HasAnswered, IsAttack, IsUnseen, first_unix, from_raw}
use Rattle.histar_attack.specs.Confinement.{RunsJob, job_category}
use Rattle.histar_attack.specs.Handling.{Handled, HandlesInTurn, handled_texts, replied_of}
use Rattle.histar_attack.specs.Handling.Handled.{Answered, Followed, Inside, NotConfined, Replied}
use Rattle.histar_mixed.specs.Mixed.{IsMixed}
use Rattle.histar_attack.proofs.JobCategories.{jobs_have_their_categories}

-- ---- lines that were handled, as lines of an attack

-- the lines that were made
abbrev made_of : List Handled → List MixedLine
made_of [] = []
made_of (Replied a ∷ more) = Outside a ∷ made_of more
made_of (Answered asked outcome ∷ more) = Raw asked.thread asked.call ∷ made_of more
made_of (NotConfined asked ∷ more) = made_of more
made_of (Inside call ∷ more) = made_of more
made_of (Followed a ∷ more) = made_of more

-- a raw call with an outcome is a raw step
raw_step : (old new : MachineModel) (asked : RawLine) (outcome : Result Answer Denied)
    → MakesRaw old new asked.line asked.thread asked.call (Ok outcome) → IsRawStep old new asked.thread asked.call
raw_step old new asked outcome made = by old.is_stopped refl made.answered
  where
    by : (b : Bool) → old.is_stopped ≡ b → AnswersRaw b old new asked.line asked.thread asked.call (Ok outcome)
        → IsRawStep old new asked.thread asked.call
    by true is answered = absurd (false≢true answered.0)
    by false is answered = record {
      line = asked.line;
      made = (denied_of outcome, answered.called);
      roots = made.roots;
      users = made.users;
      runs = made.stops ∙ sym is;
    }

-- what was handled makes an attack, where calls inside are not followed
module _ (v : ℕ) where
  abbrev Still : MachineModel → List Handled → MachineModel → Type 0
  Still m handled end = HandlesInTurn (record { category = v; follow = false }) m handled end

  makes_attack : (m : MachineModel) (handled : List Handled) (end : MachineModel) → Still m handled end → MakesAttack v m (made_of handled) end
  makes_attack m [] end in_turn = in_turn
  makes_attack m (Replied a ∷ more) end in_turn =
      (in_turn.0, in_turn.1.0, in_turn.1.1, in_turn.1.2, makes_attack in_turn.0 more end in_turn.2)
  makes_attack m (Answered asked outcome ∷ more) end in_turn =
      (in_turn.0, in_turn.1.0, raw_step m in_turn.0 asked outcome in_turn.1.1, makes_attack in_turn.0 more end in_turn.2)
  makes_attack m (NotConfined asked ∷ more) end in_turn =
      subst (λ (x : MachineModel). MakesAttack v x (made_of more) end) in_turn.1.1 (makes_attack in_turn.0 more end in_turn.2)
  makes_attack m (Inside call ∷ more) end in_turn =
      subst (λ (x : MachineModel). MakesAttack v x (made_of more) end) in_turn.1.2 (makes_attack in_turn.0 more end in_turn.2)
  makes_attack m (Followed a ∷ more) end in_turn = absurd (false≢true in_turn.1.0)

-- its Unix calls are those that were made
outside_replied : (handled : List Handled) → outside_of (made_of handled) ≡ replied_of handled
outside_replied [] = refl
outside_replied (Replied a ∷ more) = ap (λ (l : List RepliedCall). a ∷ l) (outside_replied more)
outside_replied (Answered asked outcome ∷ more) = outside_replied more
outside_replied (NotConfined asked ∷ more) = outside_replied more
outside_replied (Inside call ∷ more) = outside_replied more
outside_replied (Followed a ∷ more) = outside_replied more

-- ---- a session on a machine that was booted

module _ (accounts : Accounts) (start : MachineModel) (starts : IsStart accounts start) (shows : ShowsStart accounts start)
    (options : AttackOptions) (job : ProcName) (parts : Parts) (output : List ℕ) (gives : GivesOutput options job start parts output) where
  abbrev later : List MixedItem
  later = parts.later.items

  abbrev mid : MachineModel
  mid = gives.mid

  abbrev before : List RepliedCall
  before = gives.answered.answers

  abbrev f : Flat
  f = flat_end accounts (boot accounts) (calls_of before)

  led : IsUnderWay accounts mid f × (before ≡ answered_from accounts (boot accounts) (calls_of before))
  led =
      gives.answered.leads accounts (boot accounts)
      (booted_under_way accounts start start.kernel.trace shows (booted_traced accounts start.kernel starts.booted) starts.runs)

  has_answered : HasAnswered accounts before mid
  has_answered = record { start = start; starts = starts; answered = gives.answered.in_turn; meant = led.1; under_way = led.0 }

  abbrev first : Home
  first = (roots_of (length accounts.users)).home

  same_first : mid.roots.home ≡ first
  same_first = ap (λ r. r.home) led.0.shows.roots

  module _ (v : ℕ) (found : job_category (state mid.kernel) mid.roots.home job ≡ Some v) where
    abbrev Category : (g : Flat) → Represents accounts (state mid.kernel) g → Option ℕ → Type 0
    Category g rep o = MatchOption o (RunsJob g job → ⊥) (λ w. RunsJob g job × (rep.matched.category (OfJob job) ≡ w))

    category_of : (g : Flat) (rep : Represents accounts (state mid.kernel) g) → IsReached accounts g → Category g rep (Some v)
    category_of g rep reached =
        subst (Category g rep) (ap (λ home. job_category (state mid.kernel) home job) (sym same_first) ∙ found)
        (jobs_have_their_categories accounts (state mid.kernel) g rep job reached)

    here : RunsJob f job × (led.0.shows.represents.matched.category (OfJob job) ≡ v)
    here = category_of f led.0.shows.represents led.0.reached

    has_job : HasJob accounts job v mid f
    has_job = record {
      under_way = led.0;
      known = (job, here.0.0, here.0.1, or_left (has here.0.0.chain job) (has here.0.0.held job) here.0.3);
      number = here.1;
    }

    late : 6 + 2 * declared accounts ≤ v
    late =
        subst (λ q. 6 + 2 * declared accounts ≤ q) here.1
        (made_later accounts (state mid.kernel) f led.0.shows.represents.matched job (inl has_job.known))

    itself : AreAlikeMachines accounts v mid mid f
    itself =
        attacks_start accounts v mid f led.0.shows led.0.sound led.0.runs late
        (subst (λ q. q < (state mid.kernel).next_category) here.1
        (led.0.shows.represents.matched.made (OfJob job) (inl has_job.known)).1)

    module _ (all : HandlesAll options v mid gives.text later output) where
      abbrev replied : List RepliedCall
      replied = replied_of all.handles.handled

      both : calls_of (before ++ replied) ≡ calls_of before ++ calls_of replied
      both = map-append (λ (a : RepliedCall). a.call) before replied

      unseen : options.follow ≡ false → IsUnseen accounts v (before ++ replied) all.end
      unseen still =
          let at = attacks_unseen accounts v mid mid all.end f (made_of all.handles.handled) late itself
          (makes_attack v mid all.handles.handled all.end
          (subst (λ follow. HandlesInTurn (record { category = v; follow = follow }) mid all.handles.handled all.end) still all.handles.in_turn)) in
          let is =
          subst (λ (l : List RepliedCall). (l ≡ answered_from accounts f (calls_of l))
          × ((after : MachineModel) × AreAlikeMachines accounts v all.end after (flat_end accounts f (calls_of l))))
          (outside_replied all.handles.handled) at in
          record {
            meant =
                (λ i. led.1 i ++ is.0 i)
                ∙ sym (ap (answered_from accounts (boot accounts)) both
                ∙ replies_go_on accounts (boot accounts) (calls_of before) (calls_of replied));
            clean = is.1.0;
            alike = subst (AreAlikeMachines accounts v all.end is.1.0)
                (sym (ap (flat_end accounts (boot accounts)) both
                ∙ states_go_on accounts (boot accounts) (calls_of before) (calls_of replied)))
                is.1.1;
          }

      attacked : Attacks options job accounts before mid later output
      attacked = record {
        runs = here.0;
        v = v;
        job_has = has_job;
        category = λ g rep reached runs. (category_of g rep reached).1;
        handled = all.handles.handled;
        lines = all.handles.lines;
        end = all.end;
        in_turn = all.handles.in_turn;
        unseen = unseen;
        is = all.traced
            ∙ ap (λ (t : List ℕ). t ++ trace_if_asked options.trace all.end.kernel.trace)
            (all.handles.written ∙ ap (λ (t : List ℕ). t ++ handled_texts all.handles.handled) gives.answered.written);
      }

  -- where the job has no category
  nobody : job_category (state mid.kernel) mid.roots.home job ≡ None → RunsJob f job → ⊥
  nobody none =
      subst (λ (o : Option ℕ). MatchOption o (RunsJob f job → ⊥)
      (λ w. RunsJob f job × (led.0.shows.represents.matched.category (OfJob job) ≡ w)))
      (ap (λ home. job_category (state mid.kernel) home job) (sym same_first) ∙ none)
      (jobs_have_their_categories accounts (state mid.kernel) f led.0.shows.represents job led.0.reached)

  goes_on : Attacks options job accounts before mid later output ⊎ FindsNoJob job accounts before output
  goes_on = by (job_category (state mid.kernel) mid.roots.home job) refl gives.goes
    where
      by : (o : Option ℕ) → job_category (state mid.kernel) mid.roots.home job ≡ o
          → MatchOption o (output ≡ codes "no job\n") (λ v. HandlesAll options v mid gives.text later output)
          → Attacks options job accounts before mid later output ⊎ FindsNoJob job accounts before output
      by None none is = inr (record { no_job = nobody none; is = is })
      by (Some v) found all = inl (attacked v found all)

  pub is_attack : (text : List ℕ) (items : List MixedItem) → IsMixed text accounts items → parts.before.items ≡ first_unix items
      → later ≡ from_raw items → IsAttack options job text output
  is_attack text items session parted others = record {
    accounts = accounts;
    items = items;
    session = session;
    before = before;
    calls = gives.answered.each ∙ parted;
    machine = mid;
    answered = has_answered;
    written =
        subst (λ (l : List MixedItem). Attacks options job accounts before mid l output ⊎ FindsNoJob job accounts before output) others
        goes_on;
  }

-- the output of a session, or memory ran out
pub output_given : (options : AttackOptions) (job : ProcName) (text : List ℕ) (accounts : Accounts) (items : List MixedItem)
    (start : MachineModel) (parts : Parts) (result : Result (Vec ℕ) Fault) → IsMixed text accounts items → IsStart accounts start
    → (ShowsStart accounts start × (parts.before.items ≡ first_unix items) × (parts.later.items ≡ from_raw items))
    → (IfOk result (λ output. GivesOutput options job start parts output.items) × IfErr result (λ fault. fault ≡ OutOfMemory))
    → GivesAttack options job text result
output_given options job text accounts items start parts (Ok output) session starts given gives =
    is_attack accounts start starts given.0 options job parts output.items gives.0 text items session given.1 given.2
output_given options job text accounts items start parts (Err fault) session starts given gives =
    subst (λ (x : Fault). GivesAttack options job text (Err x)) (sym gives.1) tt
