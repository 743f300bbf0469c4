-- Calls that are refused, answered by `gone` or only ask change nothing.
use Rattle.std.specs.Prelude.{◌≡◌, false, Option, None, Some, refl}
use Rattle.histar_flat.specs.declared.calls.UnixCall.{UnixCall}
use Rattle.histar_flat.specs.declared.calls.UnixCall.TheVariants.{Create, Mkdir, Read, Write, Append, List as ListCall}
use Rattle.histar_flat.specs.declared.calls.UnixCall.TheVariants.{Stat, Unlink, Rmdir, Rmtree}
use Rattle.histar_flat.specs.declared.calls.UnixCall.TheVariants.{Rename, Spawn, Exit, Status, Kill, Whoami, Login}
use Rattle.histar_flat.specs.declared.calls.UnixCall.TheVariants.{Wrap}
use Rattle.histar_flat.specs.declared.replies.Errno.{Errno}
use Rattle.histar_flat.specs.Words.{ProcName}
use Rattle.histar_flat.specs.Accounts.{Accounts}
use Rattle.histar_flat.specs.Classes.{Process}
use Rattle.histar_flat.specs.FlatState.{Flat}
use Rattle.histar_flat.specs.FlatCalls.{answer, changed, flat_by, flat_or, refused, reply_by, reply_or, running}
use Rattle.histar_never.specs.Changing.{may_change}
use Rattle.histar_never.specs.Laws.{OthersChangeNothing}

module _ (accounts : Accounts) (f : Flat) (me : ProcName) where
  -- a call that passes and may not have changed anything is a question
  passed : (p : Process) (call : UnixCall) → may_change call (answer f me p call) ≡ false → changed accounts f me p call ≡ f
  passed p (Create q mode) e = absurd cc
  passed p (Mkdir q mode) e = absurd cc
  passed p (Read q) e = refl
  passed p (Write q bytes) e = absurd cc
  passed p (Append q bytes) e = absurd cc
  passed p (ListCall q) e = refl
  passed p (Stat q) e = refl
  passed p (Unlink q) e = absurd cc
  passed p (Rmdir q) e = absurd cc
  passed p (Rmtree q) e = absurd cc
  passed p (Rename q name) e = absurd cc
  passed p Spawn e = absurd cc
  passed p (Exit n) e = absurd cc
  passed p (Status name) e = refl
  passed p (Kill name) e = absurd cc
  passed p Whoami e = refl
  passed p (Login name password) e = absurd cc
  passed p (Wrap q) e = absurd cc

  refused_or : (p : Process) (call : UnixCall) (r : Option Errno) → may_change call (reply_or r (answer f me p call)) ≡ false
      → flat_or r f (changed accounts f me p call) ≡ f
  refused_or p call None e = passed p call e
  refused_or p call (Some errno) e = refl

  by_process : (call : UnixCall) (o : Option Process) → may_change call (reply_by accounts f me o call) ≡ false
      → flat_by accounts f me o call ≡ f
  by_process call None e = refl
  by_process call (Some p) e = refused_or p call (refused accounts f me p call) e

pub others_change_nothing : OthersChangeNothing
others_change_nothing accounts f me call e = by_process accounts f me call (running f me) e
