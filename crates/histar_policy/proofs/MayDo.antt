-- The takers of what is at a path are those that may remove it once they have logged in, and the writers those that may write it.
use Rattle.std.proofs.Common.{◌≡◌, ◌≢◌, Bool, true, false, cond, ◌&&◌, ◌||◌, List, [], ◌∷◌, refl, sym, ap, ◌∙◌}
use Rattle.std.specs.Prelude.{◌↔◌, filter, not}
use Rattle.std.specs.List.{list_any}
use Rattle.std.proofs.lemmas.Slice.Eq.{bytes_eq-Decides}
use Rattle.histar_base.specs.Paths.{same}
use Rattle.histar_flat.specs.Words.{Name}
use Rattle.histar_flat.specs.Accounts.{Accounts, has}
use Rattle.histar_flat.specs.Meaning.{boot, flat_end}
use Rattle.histar_rights.specs.Users.{somebody}
use Rattle.histar_rights.proofs.AfterLogin.{letters_are_those_after_login}
use Rattle.histar_cells.specs.ByUser.{user_rights_at, user_rights_if}
use Rattle.histar_policy.specs.Laws.{TakersMayRemove, WritersMayWrite}

-- a name is among those that pass a test exactly if it is among the names and passes it
has_kept : (test : Name → Bool) (name : Name) (names : List Name) → has (filter test names) name ≡ (has names name && test name)
has_kept test name [] = refl
has_kept test name (n ∷ names) = by (test n) refl (same name n) refl (has_kept test name names)
  where
    same_test : same name n ≡ true → test name ≡ test n
    same_test e = ap test ((bytes_eq-Decides name n).0 e)

    and_false : (b : Bool) → (b && false) ≡ false
    and_false true = refl
    and_false false = refl

    kept : (s : Bool) → same name n ≡ s → test n ≡ true → has (filter test names) name ≡ (has names name && test name)
        → (s || has (filter test names) name) ≡ ((s || has names name) && test name)
    kept true e passes rest = sym (same_test e ∙ passes)
    kept false e passes rest = rest

    left : (s : Bool) → same name n ≡ s → test n ≡ false → has (filter test names) name ≡ (has names name && test name)
        → has (filter test names) name ≡ ((s || has names name) && test name)
    left true e fails rest = rest ∙ ap (λ b. has names name && b) (same_test e ∙ fails) ∙ and_false (has names name)
        ∙ sym (same_test e ∙ fails)
    left false e fails rest = rest

    by : (t : Bool) → test n ≡ t → (s : Bool) → same name n ≡ s → has (filter test names) name ≡ (has names name && test name)
        → list_any (same name) (cond t (n ∷ filter test names) (filter test names)) ≡ ((same name n || has names name) && test name)
    by true e s is rest = kept (same name n) refl e rest
    by false e s is rest = left (same name n) refl e rest

-- both of two tests hold
pub both : (a b : Bool) → (a && b) ≡ true → (a ≡ true) × (b ≡ true)
both true true e = (refl, refl)
both true false e = absurd cc
both false b e = absurd cc

-- two names differ exactly if the test says so
pub differ : (user maker : Name) → not (same user maker) ≡ true → user ≢ maker
differ user maker e is = let found = (bytes_eq-Decides user maker).1 is in absurd cc

pub tested : (user maker : Name) → user ≢ maker → not (same user maker) ≡ true
tested user maker other = by (same user maker) refl
  where
    by : (b : Bool) → same user maker ≡ b → not b ≡ true
    by true e = absurd (other ((bytes_eq-Decides user maker).0 e))
    by false e = refl

-- a known user is among those that did not make something and have a right exactly if it did not make it and has the right
among : (accounts : Accounts) (maker user : Name) (right : Name → Bool) → has (somebody accounts) user ≡ true
    → (has (filter (λ (u : Name). not (same u maker) && right u) (somebody accounts)) user ≡ true)
    ↔ ((user ≢ maker) × (right user ≡ true))
among accounts maker user right known =
    let kept = has_kept (λ (u : Name). not (same u maker) && right u) user (somebody accounts) in (
      (λ h.
          let passes = both (not (same user maker)) (right user)
          (both (has (somebody accounts) user) (not (same user maker) && right user) (sym kept ∙ h)).1 in
          (differ user maker passes.0, passes.1)),
      (λ h. kept ∙ (λ i. known i && (tested user maker h.0 i && h.1 i))),
    )

pub takers_may_remove : TakersMayRemove
takers_may_remove accounts calls me line user password known answered q node at maker number =
    let f = flat_end accounts (boot accounts) calls in
    let letters = (letters_are_those_after_login accounts calls me line user password answered q node at number).remove in
    let rights = ap (user_rights_if accounts f q user) at in
    let takes = among accounts maker user (λ (u : Name). (user_rights_at accounts f q u).remove) known in (
      (λ h. let can = takes.0 h in (can.0, letters.0 (ap (λ r. r.remove) (sym rights) ∙ can.1))),
      (λ h. takes.1 (h.0, ap (λ r. r.remove) rights ∙ letters.1 h.1)),
    )

pub writers_may_write : WritersMayWrite
writers_may_write accounts calls me line user password known answered q node at is_file maker number =
    let f = flat_end accounts (boot accounts) calls in
    let letters = (letters_are_those_after_login accounts calls me line user password answered q node at number).append is_file in
    let rights = ap (user_rights_if accounts f q user) at in
    let writes = among accounts maker user (λ (u : Name). (user_rights_at accounts f q u).write) known in (
      (λ h. let can = writes.0 h in (can.0, letters.0 (ap (λ r. r.write) (sym rights) ∙ can.1))),
      (λ h. writes.1 (h.0, ap (λ r. r.write) rights ∙ letters.1 h.1)),
    )
