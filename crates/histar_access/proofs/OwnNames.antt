-- Nobody and the users of a script have names of their own.
use Rattle.std.specs.Prelude.{◌≡◌, ◌≢◌, ℕ, zero, suc, ◌<◌, Bool, true, false, not, ◌&&◌, if◌then◌else◌, IsTrue, List}
use Rattle.std.specs.Prelude.{length, map, Result, Ok, Err}
use Rattle.std.specs.List.{slice_index_or}
use Rattle.std.specs.Str.{bytes_eq}
use Rattle.std.proofs.Common.{ap, arith, sym, ◌∙◌}
use Rattle.std.proofs.lemmas.Bool.{and_parts, true≢false}
use Rattle.std.proofs.lemmas.List.{get_or-map, length-map}
use Rattle.histar_flat.specs.declared.calls.User.{User}
use Rattle.histar_flat.specs.Accounts.{Accounts}
use Rattle.histar_flat.specs.Classes.{nobody}
use Rattle.histar_flat.specs.Words.{Name, begins_with_letter, is_name, is_user_name}
use Rattle.histar_rights.specs.Users.{somebody}
use Rattle.histar_diff.specs.UserLaws.{HaveOwnNames}
use Rattle.histar_diff.proofs.UserOrder.{user_changes_rise}
use Rattle.histar_script.specs.declared.fault.Fault.{Fault}
use Rattle.histar_script.specs.declared.fault.Fault.TheVariants.{TooLong}
use Rattle.histar_script.specs.Lines.{is_too_long}
use Rattle.histar_script.specs.Reading.{reading, script_of}
use Rattle.histar_script.specs.Script.{IsUserList, ScriptModel}
use Rattle.histar_script.proofs.Answered.{declares}
use Rattle.histar_prefix.specs.Prefix.{state_before}
use Rattle.histar_access.specs.Diff.{both_read}
use Rattle.histar_access.specs.Laws.{UserChangesOfScriptsRise}

-- no user of a script is called nobody
not_nobody : (name : List ℕ) → IsTrue (is_user_name name) → name ≢ nobody
unfolding is_user_name
not_nobody name h e =
    true≢false (sym ((and_parts (is_name name && begins_with_letter name) (not (bytes_eq name nobody)) h).1)
    ∙ ap (λ n. not (bytes_eq n nobody)) e)

-- the name of a user at a place
name_at : (users : List User) (k : ℕ) (u : User) (d : Name) → k < length users
    → slice_index_or (map (λ (v : User). v.name) users) k d ≡ (slice_index_or users k u).name
name_at users k u d within = get_or-map (λ (v : User). v.name) users k u d within

module _ (accounts : Accounts) (list : IsUserList accounts.users) where
  -- a user that a place outside the list is answered with
  abbrev none : Name → User
  none d = record { name = d; password = d }

  below : (j : ℕ) → suc j < length (somebody accounts) → j < length accounts.users
  below j h = omega (arith, h, length-map accounts.users (λ (v : User). v.name))

  -- two names of these are not one
  apart : (i j : ℕ) (d : Name) → i < j → j < length (somebody accounts)
      → slice_index_or (somebody accounts) i d ≢ slice_index_or (somebody accounts) j d
  apart zero zero d lt within same = absurd (omega arith)
  apart zero (suc j) d lt within same =
      let here : j < length accounts.users = below j within in
      not_nobody (slice_index_or accounts.users j (none d)).name (list.named j (none d) here)
      (sym (same ∙ name_at accounts.users j (none d) d here))
  apart (suc i) zero d lt within same = absurd (omega arith)
  apart (suc i) (suc j) d lt within same =
      let here : j < length accounts.users = below j within in
      list.distinct i j (none d) (omega arith) here
      (sym (name_at accounts.users i (none d) d (omega arith)) ∙ same ∙ name_at accounts.users j (none d) d here)

  -- nobody and the users have names of their own
  pub own_names : HaveOwnNames accounts
  own_names i j d lt within = apart i j d lt within

-- a text that is read as a script is one that isn't too long
is_reading : (text : List ℕ) (script : ScriptModel) → script_of text ≡ Ok script → reading text ≡ Ok script
is_reading text script e = by (is_too_long text) e
  where
    by : (long : Bool) → (if long then Err TooLong else reading text) ≡ Ok script → reading text ≡ Ok script
    by true e = absurd (cc)
    by false e = e

-- the old one of two scripts is the script of its text
old_read : (a b : Result ScriptModel Fault) (scripts : ScriptModel × ScriptModel) → both_read a b ≡ Ok scripts → a ≡ Ok scripts.0
old_read (Ok x) (Ok y) scripts e = cc
old_read (Ok x) (Err f) scripts e = absurd (cc)
old_read (Err f) b scripts e = absurd (cc)

pub user_changes_of_scripts_rise : UserChangesOfScriptsRise
user_changes_of_scripts_rise options a b scripts e =
    let read : script_of a ≡ Ok scripts.0 = old_read (script_of a) (script_of b) scripts e in
    user_changes_rise scripts.0.accounts (state_before options.old_at scripts.0) scripts.1.accounts (state_before options.new_at scripts.1)
    (own_names scripts.0.accounts (declares (Ok scripts.0) a (is_reading a scripts.0 read)).users)
