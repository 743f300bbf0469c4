-- What tests of labels say.
use Rattle.std.proofs.Common.{◌≡◌, ℕ, Bool, true, false, ◌&&◌, ◌∷◌, Option, None, Some, refl, sym, ap, ◌∙◌, subst}
use Rattle.std.specs.Prelude.{not}
use mathlib.Core.Bool.{true≢false}
use Rattle.histar_flat.specs.Words.{ProcName}
use Rattle.histar_level.specs.declared.level.Level.{Level}
use Rattle.histar_level.specs.declared.level.Level.TheVariants.{Star, L0, L1, L2, L3}
use Rattle.histar_level.specs.Level.{is_star}
use Rattle.histar_level.specs.Levels.{Levels, level_of}
use Rattle.histar_object.specs.declared.objects.Object.{Object}
use Rattle.histar_object.specs.Objects.{is_thread, label_there}
use Rattle.histar_object.specs.State.{Found, State}
use Rattle.histar_rules.specs.Visible.{IsTaintedCaller}
use Rattle.histar_layout.specs.Jobs.{is_three}
use Rattle.histar_layout.specs.Status.{ProcessStatus}
use Rattle.histar_programs.specs.declared.roots.Home.{Home}
use Rattle.histar_programs.specs.declared.caller.Caller.{Caller}
use Rattle.histar_programs.specs.Caller.{caller_in, home_at, status_at}
use Rattle.histar_layout.specs.Reading.{◌>>=◌}
use Rattle.histar_outside.specs.Search.{IsClear, IsClearHome, IsClearWay, IsOutsideCaller}
use Rattle.histar_attack.specs.Confinement.{Decides, IsClearInside, IsFreeThread, is_free}

-- two tests say whether both are so
pub both_decide : (P Q : Type 0) (a b : Bool) → Decides a P → Decides b Q → Decides (a && b) (P × Q)
both_decide P Q true true p q = (p, q)
both_decide P Q true false p q = λ both. q both.1
both_decide P Q false b p q = λ both. p both.0

-- a test decides what is so exactly if something else is
pub decides_too : (P Q : Type 0) (b : Bool) → (P → Q) → (Q → P) → Decides b P → Decides b Q
decides_too P Q true there back p = there p
decides_too P Q false there back p = λ q. p (back q)

-- an object that has a label
of_label : (found : Found) (L : Levels) → label_there found ≡ Some L → (o : Object Levels) × (found ≡ Some o) × (o.label ≡ L)
of_label None L e = absurd cc
of_label (Some o) L e = (o, refl, cc)

no_object : (found : Found) (o : Object Levels) → label_there found ≡ None → found ≡ Some o → ⊥
no_object None o none is = absurd cc
no_object (Some x) o none is = absurd cc

same_object : (a b : Object Levels) → Some a ≡ Some b → a ≡ b
same_object a b e = cc

three : (k : Level) → is_three k ≡ true → k ≡ L3
three Star e = absurd (true≢false (sym e))
three L0 e = absurd (true≢false (sym e))
three L1 e = absurd (true≢false (sym e))
three L2 e = absurd (true≢false (sym e))
three L3 e = refl

star : (k : Level) → is_star k ≡ true → k ≡ Star
unfolding is_star
star Star e = refl
star L0 e = absurd (true≢false (sym e))
star L1 e = absurd (true≢false (sym e))
star L2 e = absurd (true≢false (sym e))
star L3 e = absurd (true≢false (sym e))

module _ (s : State) (v q : ℕ) where
  -- ---- what is at a number

  pub clear_if_none : label_there (s.objects q) ≡ None → IsClear s v q
  clear_if_none none o is = absurd (no_object (s.objects q) o none is)

  pub clear_decided : (L : Levels) → label_there (s.objects q) ≡ Some L → Decides (not (is_three (level_of L v))) (IsClear s v q)
  clear_decided L at = by (is_three (level_of L v)) refl
    where
      there : (o : Object Levels) × (s.objects q ≡ Some o) × (o.label ≡ L)
      there = of_label (s.objects q) L at

      by : (b : Bool) → is_three (level_of L v) ≡ b → Decides (not b) (IsClear s v q)
      by true is = λ clear. clear there.0 there.1 (ap (λ (x : Levels). level_of x v) there.2 ∙ three (level_of L v) is)
      by false is = λ o at_q is_three_there.
          let same = same_object o there.0 (sym at_q ∙ there.1) in
          true≢false (ap is_three (sym is_three_there ∙ ap (λ (x : Object Levels). level_of x.label v) same
          ∙ ap (λ (x : Levels). level_of x v) there.2) ∙ is)

  -- ---- the thread of a raw call

  pub tainted_if_no_thread : is_thread (s.objects q) ≡ false → IsTaintedCaller s v q
  tainted_if_no_thread none o is thread = absurd (true≢false (sym thread ∙ ap is_thread (sym is) ∙ none))

  pub tainted_decided : (L : Levels) → is_thread (s.objects q) ≡ true → label_there (s.objects q) ≡ Some L
      → Decides (is_three (level_of L v)) (IsTaintedCaller s v q)
  tainted_decided L is at = by (is_three (level_of L v)) refl
    where
      there : (o : Object Levels) × (s.objects q ≡ Some o) × (o.label ≡ L)
      there = of_label (s.objects q) L at

      by : (b : Bool) → is_three (level_of L v) ≡ b → Decides b (IsTaintedCaller s v q)
      by true t = λ o at_q thread.
          ap (λ (x : Object Levels). level_of x.label v) (same_object o there.0 (sym at_q ∙ there.1))
          ∙ ap (λ (x : Levels). level_of x v) there.2 ∙ three (level_of L v) t
      by false t = λ tainted.
          true≢false (sym (ap is_three (sym (ap (λ (x : Levels). level_of x v) there.2)
          ∙ tainted there.0 there.1 (ap is_thread (sym there.1) ∙ is))) ∙ t)

  pub tainted_if_none : label_there (s.objects q) ≡ None → IsTaintedCaller s v q
  tainted_if_none none o is thread = absurd (no_object (s.objects q) o none is)

module _ (s : State) (v : ℕ) (home : Home) where
  -- ---- the thread of a process

  pub free_if_lost : caller_in s home ≡ None → IsFreeThread s v home
  free_if_lost lost caller o is = let no : None ≡ Some caller = sym lost ∙ is in absurd cc

  module _ (caller : Caller) (found : caller_in s home ≡ Some caller) where
    same_caller : (other : Caller) → caller_in s home ≡ Some other → other ≡ caller
    same_caller other is = let e : Some other ≡ Some caller = sym is ∙ found in cc

    pub free_if_none : label_there (s.objects caller.thread) ≡ None → IsFreeThread s v home
    free_if_none none other o is at =
        absurd (no_object (s.objects caller.thread) o none (ap (λ (c : Caller). s.objects c.thread) (sym (same_caller other is)) ∙ at))

    pub free_decided : (L : Levels) → label_there (s.objects caller.thread) ≡ Some L → Decides (is_free L v) (IsFreeThread s v home)
    unfolding is_star
    free_decided L at = by (is_three (level_of L v)) (is_star (level_of L v)) refl refl
      where
        there : (o : Object Levels) × (s.objects caller.thread ≡ Some o) × (o.label ≡ L)
        there = of_label (s.objects caller.thread) L at

        level_of_it : level_of there.0.label v ≡ level_of L v
        level_of_it = ap (λ (x : Levels). level_of x v) there.2

        level_found : (other : Caller) (o : Object Levels) → caller_in s home ≡ Some other → s.objects other.thread ≡ Some o
            → level_of o.label v ≡ level_of L v
        level_found other o is at_it =
            ap (λ (x : Object Levels). level_of x.label v)
            (same_object o there.0 (sym at_it ∙ ap (λ (c : Caller). s.objects c.thread) (same_caller other is) ∙ there.1)) ∙ level_of_it

        by : (t w : Bool) → is_three (level_of L v) ≡ t → is_star (level_of L v) ≡ w → Decides (not t && not w) (IsFreeThread s v home)
        by true w t_is w_is = λ free. (free caller there.0 found there.1).0 (level_of_it ∙ three (level_of L v) t_is)
        by false true t_is w_is = λ free. (free caller there.0 found there.1).1 (level_of_it ∙ star (level_of L v) w_is)
        by false false t_is w_is = λ other o is at_it. (
          λ e. true≢false (sym (ap is_three (sym (level_found other o is at_it) ∙ e)) ∙ t_is),
          λ e. true≢false (sym (ap is_star (sym (level_found other o is at_it) ∙ e)) ∙ w_is),
        )

  -- ---- the internal container of a process

  pub inside_if_none : status_at s home.segment ≡ None → IsClearInside s v home
  inside_if_none none status is = let no : None ≡ Some status = sym none ∙ is in absurd cc

  module _ (status : ProcessStatus) (shown : status_at s home.segment ≡ Some status) where
    same_status : (other : ProcessStatus) → status_at s home.segment ≡ Some other → other ≡ status
    same_status other is = let e : Some other ≡ Some status = sym is ∙ shown in cc

    pub inside_if_exited : (k : ℕ) → status.exited ≡ Some k → IsClearInside s v home
    inside_if_exited k exited other is runs =
        let no : Some k ≡ None = sym exited ∙ ap (λ (x : ProcessStatus). x.exited) (sym (same_status other is)) ∙ runs in absurd cc

    pub inside_decided : (b : Bool) → status.exited ≡ None → Decides b (IsClear s v status.internal) → Decides b (IsClearInside s v home)
    inside_decided b runs = decides_too _ _ b
        (λ clear other is runs_too. subst (λ (x : ProcessStatus). IsClear s v x.internal) (sym (same_status other is)) clear)
        (λ inside. inside status shown runs)

-- ---- the way to a process, and the process

module _ (s : State) (v : ℕ) (first : Home) where
  pub way_decided : (b : Bool) (n : ℕ) (above : ProcName) (home : Home) → IsClearWay s v first above → home_at s first (n ∷ above)
      ≡ Some home
      → Decides b (IsClearHome s v home) → Decides b (IsClearWay s v first (n ∷ above))
  way_decided b n above home way at = decides_too _ _ b
      (λ clear. (way, λ other is. subst (IsClearHome s v) (same_home home other (sym at ∙ is)) clear))
      (λ all. all.1 home at)
    where
      same_home : (x y : Home) → Some x ≡ Some y → x ≡ y
      same_home x y e = cc

  pub way_if_lost : (n : ℕ) (above : ProcName) → IsClearWay s v first above → home_at s first (n ∷ above) ≡ None
      → IsClearWay s v first (n ∷ above)
  way_if_lost n above way lost = (way, λ home is. let no : None ≡ Some home = sym lost ∙ is in absurd cc)

  module _ (me : ProcName) (way : IsClearWay s v first me) where
    pub outside_if_lost : home_at s first me ≡ None → IsOutsideCaller s v first me
    outside_if_lost lost = record {
      way = way;
      inside = λ home status at shows runs. let no : None ≡ Some home = sym lost ∙ at in absurd cc;
      thread = λ caller o at is.
          let no : None ≡ Some caller = sym (ap (λ (x : Option Home). x >>= λ home. caller_in s home) lost) ∙ at in absurd cc;
    }

    pub outside_decided : (b : Bool) (home : Home) → home_at s first me ≡ Some home
        → Decides b (IsClearInside s v home × IsFreeThread s v home) → Decides b (IsOutsideCaller s v first me)
    outside_decided b home found = decides_too _ _ b
        (λ both. record {
          way = way;
          inside = λ other status at. subst (λ (x : Home). status_at s x.segment ≡ Some status → status.exited ≡ None
              → IsClear s v status.internal)
              (same_home home other (sym found ∙ at)) (both.0 status);
          thread = λ caller o at. both.1 caller o (sym (ap (λ (x : Option Home). x >>= λ h. caller_in s h) found) ∙ at);
        })
        (λ out. (
          λ status. out.inside home status found,
          λ caller o at. out.thread caller o (ap (λ (x : Option Home). x >>= λ h. caller_in s h) found ∙ at),
        ))
      where
        same_home : (x y : Home) → Some x ≡ Some y → x ≡ y
        same_home x y e = cc
