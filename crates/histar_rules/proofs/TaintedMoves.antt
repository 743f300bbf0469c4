-- Changes of tainted objects alone leave what is visible as it was.
use Rattle.std.proofs.Common.{◌≡◌, ◌≢◌, ℕ, true, [], ◌∷◌, None, Some, refl, sym, ap, ◌∙◌, subst, if◌then◌else◌}
use Rattle.std.specs.FinSet as set
use Rattle.histar_level.specs.declared.level.Level.TheVariants.{Star, L3}
use Rattle.histar_level.specs.Levels.{Levels, level_of}
use Rattle.histar_object.specs.declared.objects.Object.{Object}
use Rattle.histar_object.specs.Objects.{Objects, links_in, kind_is_gate}
use Rattle.histar_object.specs.State.{State, Found}
use Rattle.histar_container.specs.Tree.{Address, Reached}
use Rattle.histar_rules.specs.Sound.{root_number, IsSound}
use Rattle.histar_rules.specs.Visible.{untainted, visible, end_of, IsTaintedCaller}
use Rattle.histar_rules.proofs.Tainted.{IsTainted, tainted_none, if_none, not_visible}

-- The object at a number, where only objects tainted in v change: it stays; or it is tainted before and after, where it is there; or it
-- goes, and was reached from a tainted object.
pub data Moved (v : ℕ) (old new : Objects Levels) (q : ℕ) : Type 0 where
  stays : new q ≡ old q → Moved v old new q
  tainted : IsTainted v (old q) → IsTainted v (new q) → Moved v old new q
  gone : (d : ℕ) → IsTainted v (old d) → Reached old d q → new q ≡ None → Moved v old new q

module _ (s new : State) (v : ℕ) (sound : IsSound s) (moved : (q : ℕ) → Moved v s.objects new.objects q) where
  -- an object that goes was not visible
  gone_before : (d : ℕ) (path : Address ℕ) → IsTainted v (s.objects d) → Reached s.objects d (end_of path) → (f : Found)
      → visible s v path ≡ f → f ≡ None
  gone_before d path h r None e = refl
  gone_before d path h r (Some o) e = absurd (not_visible s v sound d (end_of path) h r path o refl e)

  -- a visible object stays as it was
  pub visible_stays : (path : Address ℕ) → visible new v path ≡ visible s v path
  visible_stays [] = elim (moved root_number) [
    | stays e ↦ ap (untainted v) e
    | tainted h k ↦ tainted_none v (new.objects root_number) k ∙ sym (tainted_none v (s.objects root_number) h)
    | gone d h r e ↦ ap (untainted v) e ∙ sym (gone_before d [] h r (visible s v []) refl)
  ]
  visible_stays (x ∷ path) =
      ap (λ (f : Found). if set.contains (links_in f) x then untainted v (new.objects x) else None) (visible_stays path)
      ∙ elim (moved x) [
        | stays e ↦ ap (λ (f : Found). if set.contains (links_in (visible s v path)) x then untainted v f else None) e
        | tainted h k ↦
            ap (λ (f : Found). if set.contains (links_in (visible s v path)) x then f else None)
            (tainted_none v (new.objects x) k ∙ sym (tainted_none v (s.objects x) h))
        | gone d h r e ↦
            if_none (set.contains (links_in (visible s v path)) x) (untainted v (new.objects x)) (ap (untainted v) e)
            ∙ sym (gone_before d (x ∷ path) h r (visible s v (x ∷ path)) refl)
      ]

  -- a thread that was tainted still is, and a new thread is tainted
  pub still_tainted : (t : ℕ) → IsTaintedCaller s v t → IsTaintedCaller new v t
  still_tainted t before o i thread = elim (moved t) [
    | stays e ↦ before o (sym e ∙ i) thread
    | tainted h k ↦ subst (IsTainted v) i k
    | gone d h r e ↦ let no : None ≡ Some o = sym e ∙ i in cc
  ]

  -- still no gate owns v
  pub still_unowned : ((q : ℕ) (o : Object Levels) → s.objects q ≡ Some o → kind_is_gate o.kind ≡ true → level_of o.label v ≢ Star)
      → (q : ℕ) (o : Object Levels) → new.objects q ≡ Some o → kind_is_gate o.kind ≡ true → level_of o.label v ≢ Star
  still_unowned before q o i gate = elim (moved q) [
    | stays e ↦ before q o (sym e ∙ i) gate
    | tainted h k ↦ λ star. let three : level_of o.label v ≡ L3 = subst (IsTainted v) i k in let no : L3 ≡ Star = sym three ∙ star in cc
    | gone d h r e ↦ let no : None ≡ Some o = sym e ∙ i in cc
  ]
