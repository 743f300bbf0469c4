-- Changers: the processes that may write a file, or a directory on the way to it.
use Rattle.std.specs.Prelude.{◌≡◌, Bool, true, not, ◌&&◌, ◌||◌, List, [], ◌∷◌}
use Rattle.std.specs.List.{list_all}
use Rattle.histar_flat.specs.declared.calls.CallLine.{CallLine}
use Rattle.histar_flat.specs.declared.calls.UnixCall.{UnixCall}
use Rattle.histar_flat.specs.declared.replies.Reply.TheVariants.{Done}
use Rattle.histar_flat.specs.Words.{Path, ProcName}
use Rattle.histar_flat.specs.Accounts.{Accounts}
use Rattle.histar_flat.specs.Files.{get}
use Rattle.histar_flat.specs.Classes.{Process}
use Rattle.histar_flat.specs.FlatState.{Flat, entries_in, is_some_and, is_there, writes}
use Rattle.histar_flat.specs.FlatCalls.{flat_after, reply_to, running}
use Rattle.histar_flat.specs.Meaning.{flat_end}
use Rattle.histar_secrecy.specs.Ways.{reaches}
use Rattle.histar_secrecy.specs.Logins.{logs_in_as}
use Rattle.histar_secrecy.specs.Noninterference.{IsReached}

-- the process may write what is at the path, and reaches the directory of the path
abbrev pub changes_at : Accounts → Flat → Process → Path → Bool
changes_at accounts f p [] = writes accounts f p []
changes_at accounts f p (n ∷ d) = writes accounts f p (n ∷ d) && reaches accounts f p d

-- the process may change what is at the path: it may write the path, or a directory on the way, and reaches that one's directory
abbrev pub may_change : Accounts → Flat → Process → Path → Bool
may_change accounts f p [] = changes_at accounts f p []
may_change accounts f p (n ∷ d) = changes_at accounts f p (n ∷ d) || may_change accounts f p d

-- a changer: the process of this name runs, and may change what is at the path
abbrev pub is_changer : Accounts → Flat → Path → ProcName → Bool
is_changer accounts f path me = is_some_and (running f me) (λ p. may_change accounts f p path)

-- the changers are silent: no call is one of theirs
abbrev pub changers_are_silent : Accounts → Flat → Path → List CallLine → Bool
changers_are_silent accounts f path calls = list_all (λ (c : CallLine). not (is_changer accounts f path c.process)) calls

-- the call logs in as a changer: as a user who may change what is at the path, with the user's password
abbrev pub logs_in_as_changer : Accounts → Flat → Path → UnixCall → Bool
logs_in_as_changer accounts f path call = logs_in_as accounts (λ p. may_change accounts f p path) call

-- no call logs in as a changer
abbrev pub no_changer_logs_in : Accounts → Flat → Path → List CallLine → Bool
no_changer_logs_in accounts f path calls = list_all (λ (c : CallLine). not (logs_in_as_changer accounts f path c.call)) calls

-- what is at the path, and its entries if it is a directory
abbrev pub SameAt : Flat → Flat → Path → Type 0
SameAt f g path = (get g.files path ≡ get f.files path) × (entries_in g path ≡ entries_in f path)

-- While the changers are silent and no call logs in as one, what is at the path stays, with its class, its bytes and its entries; and where
-- nothing is at the path, nothing comes there.
abbrev pub OthersChangeNothing : Type 0
OthersChangeNothing = (accounts : Accounts) (f : Flat) → IsReached accounts f → (path : Path) (calls : List CallLine)
    → changers_are_silent accounts f path calls ≡ true → no_changer_logs_in accounts f path calls ≡ true
    → SameAt f (flat_end accounts f calls) path

-- a call of the process is answered `ok`, and changes what is at the path, or the entries there
pub record HasChange (accounts : Accounts) (f : Flat) (path : Path) (me : ProcName) : Type 0 where
  pub call : UnixCall
  pub done : reply_to accounts f me call ≡ Done
  pub differs : SameAt f (flat_after accounts f me call) path → ⊥

-- Where something is at the path, the changers are exactly the processes of which some call changes it.
abbrev pub ChangersAreExact : Type 0
ChangersAreExact = (accounts : Accounts) (f : Flat) → IsReached accounts f → (path : Path) → is_there f path ≡ true → (me : ProcName)
    → (is_changer accounts f path me ≡ true → HasChange accounts f path me) × (HasChange accounts f path me → is_changer accounts f path me ≡ true)
