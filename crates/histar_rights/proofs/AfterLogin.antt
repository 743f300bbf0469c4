-- A process that has just logged in is in no job and holds none, and what it may do is what the user's letters say.
use Rattle.std.specs.Prelude.{◌≡◌, ℕ, Bool, true, false, ◌&&◌, cond, nat_le, List, [], ◌∷◌, ◌++◌, length, Option, None, Some, refl}
use Rattle.std.proofs.Common.{sym, ap, ◌∙◌, subst}
use Rattle.std.proofs.lemmas.Bool.{true≢false}
use Rattle.std.proofs.lemmas.List.{append_cancel_left}
use Rattle.std.proofs.lemmas.Option.{none-some}
use Rattle.histar_base.specs.Refusals.{◌orelse◌, unless}
use Rattle.histar_flat.specs.declared.calls.CallLine.{CallLine}
use Rattle.histar_flat.specs.declared.calls.UnixCall.{UnixCall}
use Rattle.histar_flat.specs.declared.calls.UnixCall.TheVariants.{Login, Rmtree, Stat}
use Rattle.histar_flat.specs.declared.replies.Errno.{Errno}
use Rattle.histar_flat.specs.declared.replies.Errno.TheVariants.{EACCES, EAUTH, EFBIG, EISDIR, ENOENT, ENOTDIR}
use Rattle.histar_flat.specs.Words.{Name, Password, Path, ProcName}
use Rattle.histar_flat.specs.Accounts.{Accounts}
use Rattle.histar_flat.specs.Files.{get}
use Rattle.histar_flat.specs.Classes.{Process, is_free}
use Rattle.histar_flat.specs.FlatState.{Flat, Node, bytes_at, into, is_dir, is_dir_at, is_file_at, is_there, reads, with_process, writes}
use Rattle.histar_flat.specs.FlatCalls.{answer, changed, flat_after, flat_by, flat_or, if_running, most_bytes, refused, reply_by, reply_to, running}
use Rattle.histar_flat.specs.Meaning.{RepliedCall, boot, flat_end, meaning}
use Rattle.histar_flat.proofs.FileLemmas.{same_itself}
use Rattle.histar_flat.proofs.Laws.{replies_go_on, states_go_on}
use Rattle.histar_rights.specs.Rights.{is_passed, may_write_at, reading_call}
use Rattle.histar_rights.specs.Laws.{LettersAre, is_answer}
use Rattle.histar_rights.specs.Users.{LettersAreThoseAfterLogin, process_of, rights_of_user}
use Rattle.histar_rights.proofs.Answered.{answer_passes, first_reply}
use Rattle.histar_rights.proofs.ByUser.{letters_of_users_are_replies}
use Rattle.histar_rights.proofs.Passing.{passes, passes_none}

-- ---- rights don't depend on processes

module _ (accounts : Accounts) (f : Flat) (me : ProcName) (x p : Process) where
  -- the state in which a process is another one
  abbrev g : Flat
  g = with_process f me x

  into_kept : (d : Path) → into accounts f p d ≡ into accounts g p d
  into_kept [] = refl
  into_kept (n ∷ d) =
      ap (λ w. w orelse unless (is_there f (n ∷ d)) ENOENT orelse unless (is_dir_at f (n ∷ d)) ENOTDIR
      orelse unless (reads accounts f p (n ∷ d)) EACCES) (into_kept d)

  stat_kept : (q : Path) → is_passed accounts f [] p (Stat q) ≡ is_passed accounts g [] p (Stat q)
  stat_kept [] = refl
  stat_kept (n ∷ d) = ap (λ w. passes (w orelse unless (is_there f (n ∷ d)) ENOENT)) (into_kept d)

  reading_kept : (q : Path) (dir : Bool) → is_passed accounts f [] p (reading_call q dir) ≡ is_passed accounts g [] p (reading_call q dir)
  reading_kept [] true = refl
  reading_kept [] false = refl
  reading_kept (n ∷ d) true = ap passes (into_kept (n ∷ d))
  reading_kept (n ∷ d) false =
      ap (λ w. passes ((w orelse unless (is_there f (n ∷ d)) ENOENT orelse unless (is_file_at f (n ∷ d)) EISDIR)
      orelse unless (reads accounts f p (n ∷ d)) EACCES)) (into_kept d)

  writing_kept : (q : Path) (dir : Bool) → may_write_at accounts f [] p q dir ≡ may_write_at accounts g [] p q dir
  writing_kept [] true = refl
  writing_kept [] false = refl
  writing_kept (n ∷ d) true = ap (λ w. passes w && writes accounts f p (n ∷ d)) (into_kept (n ∷ d))
  writing_kept (n ∷ d) false =
      ap (λ w. passes ((w orelse unless (is_there f (n ∷ d)) ENOENT orelse unless (is_file_at f (n ∷ d)) EISDIR)
      orelse unless (writes accounts f p (n ∷ d)) EACCES
      orelse unless (nat_le (length (bytes_at f (n ∷ d) ++ [])) most_bytes) EFBIG)) (into_kept d)

  removing_kept : (q : Path) → is_passed accounts f [] p (Rmtree q) ≡ is_passed accounts g [] p (Rmtree q)
  removing_kept [] = refl
  removing_kept (n ∷ d) =
      ap (λ w. passes ((w orelse unless (is_there f (n ∷ d)) ENOENT) orelse unless (writes accounts f p d) EACCES)) (into_kept d)

-- the rights of a user are the same in a state in which a process is another one
rights_kept : (accounts : Accounts) (f : Flat) (me : ProcName) (x : Process) (user : Name) (q : Path) (node : Node)
    → rights_of_user accounts f user q node ≡ rights_of_user accounts (with_process f me x) user q node
rights_kept accounts f me x user q node = λ i. record {
  stat = stat_kept accounts f me x (process_of user) q i;
  read = reading_kept accounts f me x (process_of user) q (is_dir node) i;
  write = writing_kept accounts f me x (process_of user) q (is_dir node) i;
  remove = removing_kept accounts f me x (process_of user) q i;
}

-- ---- a login that is answered

-- of three tests that refuse nothing the second passes
second_passes : (a b c : Bool) (d e g : Errno) → (unless a d orelse unless b e orelse unless c g) ≡ None → b ≡ true
second_passes true true c d e g h = refl
second_passes true false c d e g h = absurd (none-some e (sym h))
second_passes false b c d e g h = absurd (none-some d (sym h))

no_chain : (p : Process) (jobs : List ProcName) → p.chain ≡ jobs → is_free p ≡ true → jobs ≡ []
no_chain p [] is free = refl
no_chain p (job ∷ jobs) is free =
    absurd (true≢false (sym free ∙ ap (λ (js : List ProcName). elim js [ [] ↦ true | j ∷ more ↦ false ]) is))

-- a process that runs has not exited
runs_on : (o : Option Process) (p : Process) → if_running o ≡ Some p → p.exited ≡ None
runs_on None p e = absurd (none-some p e)
runs_on (Some r) p e = by r.exited refl e
  where
    by : (exited : Option ℕ) → r.exited ≡ exited → elim exited [ None ↦ Some r | Some n ↦ None ] ≡ Some p → p.exited ≡ None
    by None is h = ap (λ (o : Option Process). elim o [ None ↦ None | Some s ↦ s.exited ]) (sym h) ∙ is
    by (Some n) is h = absurd (none-some p h)

module _ (accounts : Accounts) (f : Flat) (me : ProcName) (user : Name) (password : Password) where
  abbrev login : UnixCall
  login = Login user password

  -- the process has logged in: it runs as the user, is in no job and holds none
  record HasLoggedIn : Type 0 where
    process : Process
    state : flat_after accounts f me login ≡ with_process f me process
    runs : running (with_process f me process) me ≡ Some process
    is : process.user ≡ user
    chain : process.chain ≡ []
    held : process.held ≡ []

  logged_in : (o : Option Process) → running f me ≡ o → is_answer (reply_by accounts f me o login) ≡ true → HasLoggedIn
  logged_in None e h = absurd (true≢false (sym h))
  logged_in (Some p) e h =
      let none : refused accounts f me p login ≡ None = passes_none (refused accounts f me p login)
      (answer_passes (refused accounts f me p login) (answer f me p login) h) in
      let after : Process = record p { user = user; held = [] } in
      record {
        process = after;
        state = ap (λ o. flat_by accounts f me o login) e ∙ ap (λ o. flat_or o f (changed accounts f me p login)) none;
        runs =
            ap (λ b. if_running (cond b (Some after) (f.processes me))) (same_itself me)
            ∙ ap (λ (o : Option ℕ). elim o [ None ↦ Some after | Some n ↦ None ]) (runs_on (f.processes me) p e);
        is = refl;
        chain = no_chain p p.chain refl (second_passes _ (is_free p) _ ENOENT EACCES EAUTH none);
        held = refl;
      }

pub letters_are_those_after_login : LettersAreThoseAfterLogin
letters_are_those_after_login accounts calls me line user password answered q node at number =
    let f = flat_end accounts (boot accounts) calls in
    let call : CallLine = record { line = line; process = me; call = Login user password } in
    let last = first_reply (record { call = call; reply = reply_to accounts f me call.call }) (record { call = call; reply = answered.reply })
    (append_cancel_left (meaning accounts calls) _ _ (sym (replies_go_on accounts (boot accounts) calls (call ∷ [])) ∙ answered.more)) in
    let in' = logged_in accounts f me user password (running f me) refl (ap (λ (x : RepliedCall). is_answer x.reply) last ∙ answered.answered) in
    let end : flat_end accounts (boot accounts) (calls ++ call ∷ []) ≡ with_process f me in'.process =
    states_go_on accounts (boot accounts) calls (call ∷ []) ∙ in'.state in
    let rights : rights_of_user accounts (flat_end accounts (boot accounts) (calls ++ call ∷ [])) in'.process.user q node
    ≡ rights_of_user accounts f user q node =
    (λ i. rights_of_user accounts (end i) (in'.is i) q node) ∙ sym (rights_kept accounts f me in'.process user q node) in
    subst (LettersAre accounts (calls ++ call ∷ []) me number q node) rights
    (letters_of_users_are_replies accounts (calls ++ call ∷ []) me in'.process (ap (λ g. running g me) end ∙ in'.runs) in'.chain in'.held q node
    (ap (λ (g : Flat). get g.files q) end ∙ at) number)
