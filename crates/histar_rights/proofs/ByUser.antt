-- The rights of a user are those of any process of the user that is in no job and holds none.
use Rattle.std.specs.Prelude.{◌≡◌, ℕ, Bool, true, false, List, [], Option, refl}
use Rattle.std.proofs.Common.{subst, ◌∙◌}
use Rattle.histar_flat.specs.declared.calls.UnixCall.TheVariants.{Stat, Rmtree}
use Rattle.histar_flat.specs.Words.{Name, Path, ProcName}
use Rattle.histar_flat.specs.Accounts.{Accounts}
use Rattle.histar_flat.specs.Classes.{Process}
use Rattle.histar_flat.specs.FlatState.{Flat, Node, is_dir}
use Rattle.histar_flat.specs.Meaning.{boot, flat_end}
use Rattle.histar_rights.specs.Rights.{is_passed, may_write_at, reading_call, rights_at}
use Rattle.histar_rights.specs.Laws.{LettersAre}
use Rattle.histar_rights.specs.Users.{LettersOfUsersAreReplies, process_of, rights_of_user}
use Rattle.histar_rights.proofs.Answered.{letters_are_replies}

-- a process with these jobs
abbrev with_jobs : Name → List ProcName → List ProcName → Option ℕ → ℕ → Process
with_jobs user chain held exited born = record { user = user; chain = chain; held = held; exited = exited; born = born }

module _ (accounts : Accounts) (f : Flat) (me : ProcName) (q : Path) (node : Node) where
  module _ (user : Name) (exited : Option ℕ) (born : ℕ) where
    -- a process of the user with no jobs
    abbrev one : Process
    one = with_jobs user [] [] exited born

    reads_alike : (dir : Bool) → is_passed accounts f me one (reading_call q dir) ≡ is_passed accounts f [] (process_of user) (reading_call q dir)
    reads_alike true = refl
    reads_alike false = refl

    writes_alike : (dir : Bool) → may_write_at accounts f me one q dir ≡ may_write_at accounts f [] (process_of user) q dir
    writes_alike true = refl
    writes_alike false = refl

    alike : rights_at accounts f me one q node ≡ rights_of_user accounts f user q node
    alike = λ i. record {
      stat = is_passed accounts f [] (process_of user) (Stat q);
      read = reads_alike (is_dir node) i;
      write = writes_alike (is_dir node) i;
      remove = is_passed accounts f [] (process_of user) (Rmtree q);
    }

  -- the rights of a process that is in no job and holds none are those of its user
  pub rights_alike : (p : Process) → p.chain ≡ [] → p.held ≡ [] → rights_at accounts f me p q node ≡ rights_of_user accounts f p.user q node
  rights_alike p chain held =
      (λ i. rights_at accounts f me (with_jobs p.user (chain i) (held i) p.exited p.born) q node) ∙ alike p.user p.exited p.born

pub letters_of_users_are_replies : LettersOfUsersAreReplies
letters_of_users_are_replies accounts calls me p runs chain held q node at number =
    let f = flat_end accounts (boot accounts) calls in
    subst (LettersAre accounts calls me number q node) (rights_alike accounts f me q node p chain held)
    (letters_are_replies accounts calls me p runs q node at number)
