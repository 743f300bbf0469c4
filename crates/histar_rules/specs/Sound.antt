-- What holds in every state that the kernel reaches.
use Rattle.std.specs.Prelude.{◌≡◌, ℕ, ◌<◌, true, false, ◌||◌, Some}
use Rattle.histar_level.specs.Levels.{Levels}
use Rattle.histar_label.specs.Levels.{is_made, has_star}
use Rattle.histar_object.specs.declared.objects.Object.{Object}
use Rattle.histar_object.specs.Objects.{kind_is_segment, kind_is_container, kind_clearance}
use Rattle.histar_object.specs.State.{State}
use Rattle.histar_container.specs.Tree.{IsTree}

-- the number of the root container
abbrev pub root_number : ℕ
root_number = 1

-- the labels of an object are well-formed, where `next` is the next category
pub record IsWellLabelled (next : ℕ) (o : Object Levels) : Type 0 where
  -- the label names only categories that were made
  pub label_made : is_made next o.label ≡ true
  -- the clearance, if there is one, names only categories that were made
  pub clearance_made : (clearance : Levels) → kind_clearance o.kind ≡ Some clearance → is_made next clearance ≡ true
  -- segments and containers own nothing
  pub owns_nothing : (kind_is_segment o.kind || kind_is_container o.kind) ≡ true → has_star o.label ≡ false

-- Links lead from the root container to every object, in exactly one way, so nothing stays that hung below an unlinked object; every label
-- names only categories that were made; and segments and containers own nothing.
pub record IsSound (s : State) : Type 0 where
  pub tree : IsTree s.objects root_number s.next_object
  pub labelled : (q : ℕ) (o : Object Levels) → s.objects q ≡ Some o → IsWellLabelled s.next_category o
  pub some_made : 0 < s.next_category
