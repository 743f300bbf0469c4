-- Differences that give more: the new rights have a letter that the old ones lack.
use Rattle.std.specs.Prelude.{◌≡◌, Bool, true, not, ◌&&◌, ◌||◌, List, []}
use Rattle.std.specs.List.{filter}
use Rattle.histar_flat.specs.declared.calls.CallLine.{CallLine}
use Rattle.histar_flat.specs.Words.{Path, ProcName}
use Rattle.histar_flat.specs.Accounts.{Accounts}
use Rattle.histar_rights.specs.declared.rights.Rights.{Rights}
use Rattle.histar_diff.specs.declared.lone.Lone.{Lone}
use Rattle.histar_diff.specs.declared.differences.Difference.{Difference}
use Rattle.histar_diff.specs.declared.user_differences.UserDifference.{UserDifference}
use Rattle.histar_diff.specs.declared.users.LoneUser.{LoneUser}
use Rattle.histar_diff.specs.Changes.{IsAnsweredBy}
use Rattle.histar_diff.specs.Sides.{letters}

-- the new rights have a letter that the old ones lack
abbrev pub gives_more : Rights → Rights → Bool
gives_more old new =
    (new.stat && not old.stat) || (new.read && not old.read) || (new.write && not old.write) || (new.remove && not old.remove)

-- the lone processes that run on the new side, in the same order
abbrev pub new_ones : List Lone → List Lone
new_ones lone = filter (λ l. l.is_new) lone

-- the differences where the new letters have one that the old ones lack, in the same order
abbrev pub gains : List Difference → List Difference
gains ds = filter (λ d. gives_more (letters d.before) (letters d.after)) ds

-- the lone users that the new script declares, in the same order
abbrev pub new_users : List LoneUser → List LoneUser
new_users lone = filter (λ l. l.is_new) lone

-- the differences of users where the new letters have one that the old ones lack, in the same order
abbrev pub user_gains : List UserDifference → List UserDifference
user_gains ds = filter (λ d. gives_more (letters d.before) (letters d.after)) ds

-- no lone process is new, and no difference is a gain
abbrev pub HaveNoGain : List Lone → List Difference → Type 0
HaveNoGain lone ds = (new_ones lone ≡ []) × (gains ds ≡ [])

-- each letter of the new rights is one of the old ones
pub record GiveNoMore (old new : Rights) : Type 0 where
  pub stat : new.stat ≡ true → old.stat ≡ true
  pub read : new.read ≡ true → old.read ≡ true
  pub write : new.write ≡ true → old.write ≡ true
  pub remove : new.remove ≡ true → old.remove ≡ true

-- The letters of both rights are the answers of a process at a path, each after one of two scripts, and each letter after the second is
-- one after the first.
pub record IsAnsweredNoMore (accounts : Accounts) (calls : List CallLine) (later : Accounts) (more : List CallLine) (me : ProcName)
    (q : Path) : Type 0 where
  pub old : Rights
  pub before : IsAnsweredBy accounts calls me q old
  pub new : Rights
  pub after : IsAnsweredBy later more me q new
  pub no_more : GiveNoMore old new
