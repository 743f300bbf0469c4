-- The meaning of a script: its calls, one after another, on the flat state, and the replies to them.
use Rattle.std.specs.Prelude.{List, [], ◌∷◌, None, filter, not}
use Rattle.histar_flat.specs.declared.calls.User.{User}
use Rattle.histar_flat.specs.declared.calls.CallLine.{CallLine}
use Rattle.histar_flat.specs.declared.replies.Reply.{Reply}
use Rattle.histar_flat.specs.Words.{Name, ProcName}
use Rattle.histar_flat.specs.PathOrder.{under_process}
use Rattle.histar_flat.specs.Accounts.{Accounts}
use Rattle.histar_flat.specs.Files.{empty, insert}
use Rattle.histar_flat.specs.Classes.{Process, nobody}
use Rattle.histar_flat.specs.Classes.Class.{Readable}
use Rattle.histar_flat.specs.FlatState.{Flat, with_process}
use Rattle.histar_flat.specs.FlatState.Content.{Dir}
use Rattle.histar_flat.specs.FlatCalls.{reply_to, flat_after}

-- the user that owns `/`
abbrev pub first_user : List User → Name
first_user [] = nobody
first_user (u ∷ users) = u.name

-- a process that has just started: nobody's, in no job, running, with no job held and no child born
abbrev pub first_process : Process
first_process = record { user = nobody; chain = []; held = []; exited = None; born = 0 }

-- the flat state at the start: `/`, which everyone may read and the first user may write, and process 0
abbrev pub boot : Accounts → Flat
boot accounts = with_process
    (record {
      files = insert empty [] (record { class = Readable (first_user accounts.users); content = Dir });
      processes = λ q. None;
    })
    [] first_process

-- a call line and its reply
pub record RepliedCall : Type 0 where
  pub call : CallLine
  pub reply : Reply

-- the calls, made one after another from this state, each with its reply
abbrev pub answered_from : Accounts → Flat → List CallLine → List RepliedCall
answered_from accounts f [] = []
answered_from accounts f (c ∷ calls) =
    record { call = c; reply = reply_to accounts f c.process c.call } ∷ answered_from accounts (flat_after accounts f c.process c.call) calls

-- the flat state after the calls
abbrev pub flat_end : Accounts → Flat → List CallLine → Flat
flat_end accounts f [] = f
flat_end accounts f (c ∷ calls) = flat_end accounts (flat_after accounts f c.process c.call) calls

-- the meaning of a script with these accounts and calls: each call with its reply, from the start on
abbrev pub meaning : Accounts → List CallLine → List RepliedCall
meaning accounts calls = answered_from accounts (boot accounts) calls

-- the calls without those of this process and of the processes below it
abbrev pub without : ProcName → List CallLine → List CallLine
without job calls = filter (λ c. not (under_process job c.process)) calls
