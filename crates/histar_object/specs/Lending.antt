-- The state of a table at the end, where one of its objects is lent.
use Rattle.std.specs.Prelude.{◌≡◌, ℕ, Option, OnSome}
use Rattle.std.specs.Borrow.{LendsSo, MutBor, Fml, RattleType}
use Rattle.histar_object.specs.contracts.table.Table as table
use Rattle.histar_object.specs.contracts.objects.Object as object
use Rattle.histar_object.specs.declared.objects.Object.{Object}
use Rattle.histar_object.specs.Objects.{TableModel, objects_of, slot_of, put}

-- one object has changed; every other object, all slots and the room are as they were
pub record ChangesObject {L : Type 0} (old : TableModel L) (id : ℕ) (o : Object L) (new : TableModel L) : Type 0 where
  pub objects : objects_of new ≡ put (objects_of old) id o
  pub slots : slot_of new ≡ slot_of old
  pub room : new.room ≡ old.room

-- the table ends with the lent object as it was left, and everything else as it was; where none was lent, the table stays
abbrev pub LendsObject : (L : RattleType) → MutBor (TableModel L.Denot) → ℕ → Option (MutBor (Object L.Denot)) → Fml
LendsObject L s id r = LendsSo (table.the_row L) (object.the_row L) s r (λ n o. OnSome r (ChangesObject s.now id o n)) (λ n. n ≡ s.now)
