-- Calls and users are read from the texts that spell them, and from no others.
use Rattle.std.proofs.Common.{◌≡◌, ℕ, true, List, Option, Some, refl, sym, ap, subst, ◌∙◌, IsTrue}
use Rattle.std.proofs.lemmas.Option.{cond_some}
use Rattle.histar_flat.specs.declared.calls.User.{User}
use Rattle.histar_flat.specs.declared.calls.UnixCall.{UnixCall}
use Rattle.histar_flat.specs.Words.{is_user_name, is_password, user_name_of, password_of}
use Rattle.histar_script.specs.Lines.{split_word, ◌space◌}
use Rattle.histar_script.specs.CallForms.{call_forms}
use Rattle.histar_script.specs.Reading.{◌>>=◌, user_of, call_among, call_of}
use Rattle.histar_script.specs.Grammar.{IsCallText}
use Rattle.histar_script.proofs.Parting.{parted}
use Rattle.histar_script.proofs.WordsBack.{split_name, user_name_is_name}
use Rattle.histar_script.proofs.FormsBack.{rest_makes, among_takes, among_again}
use Rattle.histar_flat.proofs.Options.{bind_some}

-- ---- NAME PASSWORD of a user line

-- the user of this name and password
abbrev made_user : List ℕ → List ℕ → User
made_user name password = record { name = name; password = password }

-- the text is the name and the password of the user
abbrev SpellsUser : List ℕ → User → Type 0
SpellsUser text u = (text ≡ u.name space u.password) × IsTrue (is_user_name u.name) × IsTrue (is_password u.password)

-- a text that is read as a user spells the user
pub user_takes : (text : List ℕ) (u : User) → user_of text ≡ Some u → SpellsUser text u
unfolding user_of
user_takes text u e =
    let w = split_word text in
    let a = bind_some (user_name_of w.0) (λ name. w.1 >>= λ rest. password_of rest >>= λ password. Some (made_user name password)) u e in
    let b = bind_some w.1 (λ rest. password_of rest >>= λ password. Some (made_user a.0 password)) u a.2 in
    let d = bind_some (password_of b.0) (λ password. Some (made_user a.0 password)) u b.2 in
    let name = cond_some (is_user_name w.0) w.0 a.0 a.1 in
    let password = cond_some (is_password b.0) b.0 d.0 d.1 in
    let same : made_user a.0 d.0 ≡ u = cc in
    subst (SpellsUser text) same (
      parted text a.0 b.0 name.1 b.1 ∙ ap (λ (l : List ℕ). a.0 space l) password.1,
      ap is_user_name (sym name.1) ∙ name.0,
      ap is_password (sym password.1) ∙ password.0,
    )

-- a text that spells a user is read as the user
pub user_again : (name password : List ℕ) → is_user_name name ≡ true → is_password password ≡ true
    → user_of (name space password) ≡ Some (made_user name password)
unfolding user_of
user_again name password h k = rw (split_name name password (user_name_is_name name h), h, k) refl

-- ---- calls

-- a text that is read as a call spells the call
pub call_takes : (text : List ℕ) (c : UnixCall) → call_of text ≡ Some c → IsCallText text c
unfolding call_of
call_takes text c e =
    let w = split_word text in
    subst (λ (l : List ℕ). IsCallText l c) (sym (rest_makes text w.1 refl)) (among_takes call_forms w.0 w.1 c e)

-- a text that spells a call is read as the call
pub call_again : (text : List ℕ) (c : UnixCall) → IsCallText text c → call_of text ≡ Some c
unfolding call_of
call_again text c h =
    let is = among_again call_forms text c refl h in
    ap (λ (w : List ℕ × Option (List ℕ)). call_among call_forms w.0 w.1) is.parts ∙ is.made
