-- A state that was there before adds nothing.
use Rattle.std.specs.Prelude.{◌≡◌, ◌||◌, Bool, true, false, List, [], ◌∷◌, ◌++◌, refl}
use Rattle.std.proofs.Common.{ap, sym, ◌∙◌}
use Rattle.std.specs.List.{flat_map, list_any}
use Rattle.std.specs.declared.cmp.Ordering.{Ordering}
use Rattle.std.specs.Ordering.{eq_by_cmp}
use Rattle.histar_flat.specs.declared.calls.CallLine.{CallLine}
use Rattle.histar_base.specs.Paths.{path_cmp}
use Rattle.histar_flat.specs.Accounts.{Accounts}
use Rattle.histar_flat.specs.FlatState.{Flat}
use Rattle.histar_flat.specs.FlatCalls.{flat_after}
use Rattle.histar_flat.specs.Meaning.{flat_end}
use Rattle.histar_rights.specs.declared.rights.Rights.{Rights}
use Rattle.histar_rights.specs.Running.{process_cmp}
use Rattle.histar_cells.specs.ByUser.{user_rights_at}
use Rattle.histar_diff.specs.Shown.{rights_of}
use Rattle.histar_ever.specs.Ever.{any_rights, either, paths_in, processes_in}
use Rattle.histar_ever.specs.Following.{AddsNothingAgain}
use Rattle.histar_ever.specs.Gathering.{Gathers}
use Rattle.histar_ever.specs.GatheringUsers.{GathersUsers}
use Rattle.histar_ever.specs.States.{states_from}
use Rattle.histar_ever.proofs.Keys.{in_ever, in_ever_more}
use Rattle.histar_ever.proofs.Letters.{any_more, either_assoc, either_none, either_same}

or_again : (a : Bool) → ((a || false) || a) ≡ (a || false)
or_again true = refl
or_again false = refl

or_later : (a b c : Bool) → (b || c) ≡ b → ((a || b) || c) ≡ (a || b)
or_later true b c e = refl
or_later false b c e = e

module _ (accounts : Accounts) where
  -- a test of the last state was a test of one of the states
  last_tested : (test : Flat → Bool) (f : Flat) (calls : List CallLine)
      → (list_any test (states_from accounts f calls) || test (flat_end accounts f calls)) ≡ list_any test (states_from accounts f calls)
  last_tested test f [] = or_again (test f)
  last_tested test f (c ∷ calls) = or_later (test f) _ _ (last_tested test (flat_after accounts f c.process c.call) calls)

  -- the letters of the last state are among those of the states
  pub last_lettered : (g : Flat → Rights) (f : Flat) (calls : List CallLine)
      → either (any_rights g (states_from accounts f calls)) (g (flat_end accounts f calls)) ≡ any_rights g (states_from accounts f calls)
  last_lettered g f [] = ap (λ r. either r (g f)) (either_none (g f)) ∙ either_same (g f) ∙ sym (either_none (g f))
  last_lettered g f (c ∷ calls) =
      let later = flat_after accounts f c.process c.call in
      either_assoc (g f) (any_rights g (states_from accounts later calls)) (g (flat_end accounts later calls))
      ∙ ap (either (g f)) (last_lettered g later calls)

  -- a key of the last state is among those of the states
  pub keys_again : {K : Type 0} (R : K → K → Ordering) (keys : Flat → List K) (q : K) (f : Flat) (calls : List CallLine)
      → list_any (eq_by_cmp R q) (flat_map keys (states_from accounts f calls))
      ≡ list_any (eq_by_cmp R q) (flat_map keys (states_from accounts f calls ++ flat_end accounts f calls ∷ []))
  keys_again R keys q f calls =
      let fs = states_from accounts f calls in
      in_ever R keys q fs ∙ sym (last_tested (λ g. list_any (eq_by_cmp R q) (keys g)) f calls)
      ∙ ap (λ b. b || list_any (eq_by_cmp R q) (keys (flat_end accounts f calls))) (sym (in_ever R keys q fs))
      ∙ sym (in_ever_more R keys q fs (flat_end accounts f calls))

-- what was gathered of the states of a run was gathered of them and the last one again
pub last_again : AddsNothingAgain Gathers
last_again accounts f calls e is = record {
  paths = λ q. is.paths q ∙ keys_again accounts path_cmp paths_in q f calls;
  processes = λ p. is.processes p ∙ keys_again accounts process_cmp processes_in p f calls;
  letters = λ q p.
      let g = λ (h : Flat). rights_of accounts h q p in
      is.letters q p ∙ sym (last_lettered accounts g f calls) ∙ sym (any_more g (states_from accounts f calls) (flat_end accounts f calls));
}

-- what was gathered by users was gathered of the last state again
pub last_again_of_users : AddsNothingAgain GathersUsers
last_again_of_users accounts f calls e is = record {
  users = is.users;
  paths = λ q. is.paths q ∙ keys_again accounts path_cmp paths_in q f calls;
  letters = λ q user has.
      let g = λ (h : Flat). user_rights_at accounts h q user in
      is.letters q user has ∙ sym (last_lettered accounts g f calls)
      ∙ sym (any_more g (states_from accounts f calls) (flat_end accounts f calls));
}
