-- What a claim without a first breach means, and what a breach says.
use Rattle.std.specs.Prelude.{◌≡◌, ◌&&◌, ◌||◌, ℕ, Bool, true, false, List, [], ◌∷◌, ◌++◌, filter, map, Option, None}
use Rattle.std.specs.Prelude.{Some}
use Rattle.std.specs.Prelude.{option_map, if◌then◌else◌, refl}
use Rattle.std.specs.List.{Contains}
use Rattle.std.specs.Option.{option_or}
use Rattle.std.proofs.Common.{ap, subst, sym, ◌∙◌}
use Rattle.std.proofs.lemmas.Bool.{and_parts, or_parts, true≢false}
use Rattle.std.proofs.lemmas.Option.{none-some, same_Some}
use Rattle.histar_flat.specs.declared.calls.CallLine.{CallLine}
use Rattle.histar_flat.specs.Accounts.{Accounts}
use Rattle.histar_flat.specs.FlatState.{Flat}
use Rattle.histar_flat.specs.FlatCalls.{flat_after}
use Rattle.histar_flat.specs.Meaning.{boot, flat_end}
use Rattle.histar_rights.specs.declared.rights.Rights.{Rights}
use Rattle.histar_rights.specs.Running.{AreRunning, Named, process_cmp, running_in}
use Rattle.histar_rights.specs.Users.{somebody}
use Rattle.histar_rights.proofs.Listed.{running_are_listed}
use Rattle.histar_diff.proofs.Steps.{process_cmp_exact, process_cmp_total}
use Rattle.histar_never.specs.declared.breaches.Breach.{Breach}
use Rattle.histar_never.specs.declared.breaches.Holder.{Holder}
use Rattle.histar_never.specs.declared.breaches.Holder.TheVariants.{AProcess, AUser}
use Rattle.histar_never.specs.declared.breaches.LateBreach.{LateBreach}
use Rattle.histar_never.specs.declared.claims.Never.{Never}
use Rattle.histar_never.specs.Breaches.{as_process, breach_by, breach_in, breach_of, first_breach, first_of, holders}
use Rattle.histar_never.specs.Breaches.{late, process_breach}
use Rattle.histar_never.specs.Breaches.{rights_of_holder, user_breach}
use Rattle.histar_never.specs.Laws.{AreRights, BreachesAreFirst, BreachesAreRights, ClaimsAreNeverBroken, HaveNone}
use Rattle.histar_never.specs.Laws.{IsFirst, IsInBoth, IsKept}
use Rattle.histar_never.specs.Laws.{OthersBreakNothing}
use Rattle.histar_never.specs.Letters.{common, has_letter}
use Rattle.histar_never.specs.Whom.{is_meant, is_meant_user}
use Rattle.histar_never.proofs.Firsts.{first_append, first_filter, first_is, first_map, found_none, none_both}
use Rattle.histar_never.proofs.Firsts.{none_found, none_of, of_none}
use Rattle.histar_never.proofs.Questions.{others_change_nothing}

-- ---- letters

apart : (a b : Bool) → (a && b) ≡ false → a ≡ true → b ≡ false
apart true b e t = e
apart false b e t = absurd (true≢false (sym t))

not_both : (a b : Bool) → (a ≡ true → b ≡ false) → (a && b) ≡ false
not_both true b h = h refl
not_both false b h = refl

module _ (letters rights : Rights) where
  -- no letter is in both exactly if the rights have none of the letters
  have_none : has_letter (common letters rights) ≡ false → HaveNone letters rights
  have_none e =
      let both = common letters rights in
      let last = or_parts ((both.stat || both.read) || both.write) both.remove e in
      let third = or_parts (both.stat || both.read) both.write last.0 in
      let second = or_parts both.stat both.read third.0 in
      record {
        stat = apart letters.stat rights.stat second.0;
        read = apart letters.read rights.read second.1;
        write = apart letters.write rights.write third.1;
        remove = apart letters.remove rights.remove last.1;
      }

  none_have : HaveNone letters rights → has_letter (common letters rights) ≡ false
  none_have h = λ i.
      ((not_both letters.stat rights.stat h.stat i || not_both letters.read rights.read h.read i)
      || not_both letters.write rights.write h.write i) || not_both letters.remove rights.remove h.remove i

  no_breach : (holder : Holder) → HaveNone letters rights → breach_by letters holder rights ≡ None
  no_breach holder h = ap (λ b. if b then Some (record { holder = holder; rights = common letters rights }) else None) (none_have h)

  breach_none : (holder : Holder) → breach_by letters holder rights ≡ None → HaveNone letters rights
  breach_none holder e = have_none (by (has_letter (common letters rights)) e)
    where
      here : Breach
      here = record { holder = holder; rights = common letters rights }

      by : (b : Bool) → (if b then Some here else None) ≡ None → b ≡ false
      by true is = absurd (none-some here (sym is))
      by false is = refl

-- ---- one flat state

module _ (accounts : Accounts) (f : Flat) (never : Never) where
  -- the breach by a running process
  abbrev by_process : Named → Option Breach
  by_process c = process_breach accounts f never c.0 c.1.user

  -- a breach is by the first running process that is meant, or else by the first user
  pub breach_parts : breach_in accounts f never
      ≡ option_or (first_of by_process (running_in f)) (first_of (user_breach accounts f never) (somebody accounts))
  breach_parts =
      let meant = λ (c : Named). is_meant never.whom c.0 c.1.user in
      let answer = breach_of accounts f never in
      first_append answer (map as_process (filter meant (running_in f))) (map AUser (filter (is_meant_user never.whom) (somebody accounts)))
      ∙ (λ i. option_or
      ((first_map answer as_process (filter meant (running_in f)) ∙ first_filter (λ c. answer (as_process c)) meant (running_in f)) i)
      ((first_map answer AUser (filter (is_meant_user never.whom) (somebody accounts))
      ∙ first_filter (λ u. answer (AUser u)) (is_meant_user never.whom) (somebody accounts)) i))

  -- one that is meant has no breach, and one that is not meant has none
  unless_meant : (b : Bool) (o : Option Breach) → (b ≡ true → o ≡ None) → (if b then o else None) ≡ None
  unless_meant true o h = h refl
  unless_meant false o h = refl

  if_meant : (b : Bool) (o : Option Breach) → (if b then o else None) ≡ None → b ≡ true → o ≡ None
  if_meant true o e is = e
  if_meant false o e is = absurd (true≢false (sym is))

  module _ (listed : AreRunning f (running_in f)) where
    -- a claim that is kept has no breach, and one that has none is kept
    kept_none : IsKept accounts f never → breach_in accounts f never ≡ None
    kept_none kept =
        breach_parts
        ∙ (λ i. option_or
        (none_found process_cmp process_cmp_total process_cmp_exact by_process (running_in f) listed.rising
        (λ p process is. unless_meant (is_meant never.whom p process.user) (breach_of accounts f never (AProcess p process.user))
        (λ meant. no_breach never.letters (rights_of_holder accounts f never.path (AProcess p process.user)) (AProcess p process.user)
        (kept.processes p process (sym (listed.each p) ∙ is) meant))) i)
        (of_none (user_breach accounts f never) (somebody accounts)
        (λ user among. unless_meant (is_meant_user never.whom user) (breach_of accounts f never (AUser user))
        (λ meant. no_breach never.letters (rights_of_holder accounts f never.path (AUser user)) (AUser user)
        (kept.users user among meant))) i))

    none_kept : breach_in accounts f never ≡ None → IsKept accounts f never
    none_kept e =
        let parts = none_both _ _ (sym breach_parts ∙ e) in
        record {
          processes = λ p process runs meant.
              breach_none never.letters (rights_of_holder accounts f never.path (AProcess p process.user)) (AProcess p process.user)
              (if_meant (is_meant never.whom p process.user) (breach_of accounts f never (AProcess p process.user))
              (found_none process_cmp process_cmp_total process_cmp_exact by_process (running_in f) parts.0 p process (listed.each p ∙ runs))
              meant);
          users = λ user among meant.
              breach_none never.letters (rights_of_holder accounts f never.path (AUser user)) (AUser user)
              (if_meant (is_meant_user never.whom user) (breach_of accounts f never (AUser user))
              (none_of (user_breach accounts f never) (somebody accounts) parts.1 user among) meant);
        }

-- ---- calls

module _ (accounts : Accounts) (never : Never) where
  abbrev broken : Flat → Option Breach
  broken f = breach_in accounts f never

  late_none : (line : ℕ) (o : Option Breach) → option_map (late line) o ≡ None → o ≡ None
  late_none line None e = refl
  late_none line (Some b) e = absurd (none-some (late line b) (sym e))

  -- if there is no first breach, there is none after a call
  none_after : (f : Flat) (front : List CallLine) (c : CallLine) (rest : List CallLine)
      → first_breach accounts f (front ++ c ∷ rest) never ≡ None → broken (flat_end accounts f (front ++ c ∷ [])) ≡ None
  none_after f [] c rest e = late_none c.line _ (none_both _ _ e).0
  none_after f (d ∷ front) c rest e = none_after (flat_after accounts f d.process d.call) front c rest (none_both _ _ e).1

  -- if there is none after each call, there is no first one
  after_none : (f : Flat) (calls : List CallLine)
      → ((front : List CallLine) (c : CallLine) (rest : List CallLine) → calls ≡ front ++ c ∷ rest
      → broken (flat_end accounts f (front ++ c ∷ [])) ≡ None)
      → first_breach accounts f calls never ≡ None
  after_none f [] each = refl
  after_none f (d ∷ calls) each =
      let rest = after_none (flat_after accounts f d.process d.call) calls
      (λ front c rest e. each (d ∷ front) c rest (ap (λ l. d ∷ l) e)) in
      λ i. option_or (option_map (late d.line) (each [] d calls refl i)) (rest i)

  -- the first breach is after one of the calls
  pub first_after : (f : Flat) (calls : List CallLine) (found : LateBreach) → first_breach accounts f calls never ≡ Some found
      → IsFirst accounts f calls never found
  first_after f [] found e = absurd (none-some found e)
  first_after f (d ∷ calls) found e =
      by (broken (flat_after accounts f d.process d.call)) refl e (first_after (flat_after accounts f d.process d.call) calls found)
    where
      g : Flat
      g = flat_after accounts f d.process d.call

      by : (o : Option Breach) → broken g ≡ o → option_or (option_map (late d.line) o) (first_breach accounts g calls never) ≡ Some found
          → (first_breach accounts g calls never ≡ Some found → IsFirst accounts g calls never found)
          → IsFirst accounts f (d ∷ calls) never found
      by None none e later =
          let l = later e in
          record {
            front = d ∷ l.front;
            call = l.call;
            rest = l.rest;
            parts = ap (λ cs. d ∷ cs) l.parts;
            line = l.line;
            breach = l.breach;
            before = λ i. option_or (option_map (late d.line) (none i)) (l.before i);
          }
      by (Some b) is e later =
          let same = same_Some (late d.line b) found e in
          record {
            front = [];
            call = d;
            rest = calls;
            parts = refl;
            line = ap (λ (x : LateBreach). x.line) (sym same);
            breach = is ∙ ap (λ (x : LateBreach). Some x.breach) same;
            before = refl;
          }

pub claims_are_never_broken : ClaimsAreNeverBroken
claims_are_never_broken accounts calls never = (
  λ e front c rest parts.
      none_kept accounts (flat_end accounts (boot accounts) (front ++ c ∷ [])) never (running_are_listed accounts (front ++ c ∷ []))
      (none_after accounts never (boot accounts) front c rest
      (ap (λ cs. first_breach accounts (boot accounts) cs never) (sym parts) ∙ e)),
  λ is. after_none accounts never (boot accounts) calls
      (λ front c rest parts. kept_none accounts (flat_end accounts (boot accounts) (front ++ c ∷ [])) never
      (running_are_listed accounts (front ++ c ∷ [])) (is front c rest parts)),
)

pub breaches_are_first : BreachesAreFirst
breaches_are_first accounts calls never found e = first_after accounts never (boot accounts) calls found e

-- ---- breaches

in_both : (a b : Bool) → IsInBoth (a && b) a b
in_both a b = (and_parts a b, λ h. (λ i. h.0 i && h.1 i))

pub breaches_are_rights : BreachesAreRights
breaches_are_rights accounts f never b e =
    let found = first_is (breach_of accounts f never) (holders accounts f never.whom) b e in
    by found.item found.contained (has_letter (common never.letters (rights_of_holder accounts f never.path found.item))) refl found.is
  where
    by : (h : Holder) → Contains (holders accounts f never.whom) h → (t : Bool)
        → has_letter (common never.letters (rights_of_holder accounts f never.path h)) ≡ t
        → (if t then Some (record { holder = h; rights = common never.letters (rights_of_holder accounts f never.path h) }) else None) ≡ Some b
        → AreRights accounts f never b
    by h among false none is = absurd (none-some b is)
    by h among true some is =
        let given = rights_of_holder accounts f never.path h in
        subst (AreRights accounts f never) (same_Some (record { holder = h; rights = common never.letters given }) b is)
        (record {
          meant = among;
          stat = in_both never.letters.stat given.stat;
          read = in_both never.letters.read given.read;
          write = in_both never.letters.write given.write;
          remove = in_both never.letters.remove given.remove;
          some = some;
        })

pub others_break_nothing : OthersBreakNothing
others_break_nothing accounts f me call never quiet = ap (λ g. breach_in accounts g never) (others_change_nothing accounts f me call quiet)
