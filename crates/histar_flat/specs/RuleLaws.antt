-- Laws of every rule: it looks only at what the process may see by then, changes only what it was allowed, and reveals only what may be
-- read.
use Rattle.std.specs.Prelude.{◌≡◌, true, not, [], ◌∷◌, length, nat_le, None, is_some}
use Rattle.histar_flat.specs.declared.calls.UnixCall.{UnixCall}
use Rattle.histar_flat.specs.Words.{Path, ProcName}
use Rattle.histar_base.specs.Paths.{same}
use Rattle.histar_flat.specs.PathOrder.{parent}
use Rattle.histar_flat.specs.Accounts.{Accounts, user_named}
use Rattle.histar_flat.specs.Files.{get}
use Rattle.histar_flat.specs.Classes.{Process, nobody, is_free}
use Rattle.histar_flat.specs.FlatState.{Flat, is_there, is_file_at, reads, writes, bytes_at, walk}
use Rattle.histar_flat.specs.FlatState.{Content}
use Rattle.histar_flat.specs.FlatState.Content.{Dir, File}
use Rattle.histar_flat.specs.Needs.{Test, Need, is_below_root, not_found, is_child, most_bytes}
use Rattle.histar_flat.specs.Needs.Test.{NotRoot, Exists, IsFile, IsDirectory, Absent, AbsentBeside, MayRead, MayWrite, MayWriteAbove, HasRoomAbove}
use Rattle.histar_flat.specs.Needs.Test.{IsEmpty, Fits, IsChild, IsUser, InNoJob, IsSomebody}
use Rattle.histar_flat.specs.Needs.Need.{◌then◌, ◌or◌, Walk, Found}
use Rattle.histar_flat.specs.Effects.{Effect, ReplyForm}
use Rattle.histar_flat.specs.Effects.Effect.{Makes, Stores, Removes, Renames, LogsIn, Kills, Wraps}
use Rattle.histar_flat.specs.Effects.ReplyForm.{Bytes, Listing, Attributes, StatusOf}
use Rattle.histar_flat.specs.CallRules.{path_of, rule}
use Rattle.histar_flat.specs.FlatCalls.{refused}

-- the content has no bytes
abbrev pub IsBlank : Content → Type 0
IsBlank Dir = Unit {0}
IsBlank (File []) = Unit {0}
IsBlank (File (b ∷ bytes)) = ⊥

module _ (accounts : Accounts) (f : Flat) (me : ProcName) (p : Process) (q : Path) where
  -- what is known once a test has passed; a process may read what it may write
  abbrev pub Holds : Test → Type 0
  Holds NotRoot = is_below_root q ≡ true
  Holds Exists = is_there f q ≡ true
  Holds IsFile = is_file_at f q ≡ true
  Holds Absent = get f.files q ≡ None
  Holds (AbsentBeside name) = get f.files (name ∷ parent q) ≡ None
  Holds MayRead = reads accounts f p q ≡ true
  Holds MayWrite = (writes accounts f p q ≡ true) × (reads accounts f p q ≡ true)
  Holds MayWriteAbove = writes accounts f p (parent q) ≡ true
  Holds (Fits new) = nat_le (length (new (bytes_at f q))) most_bytes ≡ true
  Holds (IsChild name) = is_child me name ≡ true
  Holds (IsUser name) = is_some (user_named accounts.users name) ≡ true
  Holds InNoJob = is_free p ≡ true
  Holds IsSomebody = not (same p.user nobody) ≡ true
  Holds _ = Unit {0}

  -- what is known once a need is met
  abbrev pub Met : Need → Type 0
  Met (a then b) = Met a × Met b
  Met (test or e) = Holds test
  Met Walk = walk accounts f p q ≡ None
  Met (Found name) = not_found f p name ≡ None
  Met _ = Unit {0}

  -- what has to be known before a test is made: for tests of the path, that the walk to it passes; of its directory, that the path is not
  -- `/`; of entries and bytes, that they may be read
  abbrev pub MayLook : Test → Type 0
  MayLook Exists = walk accounts f p q ≡ None
  MayLook IsFile = walk accounts f p q ≡ None
  MayLook IsDirectory = walk accounts f p q ≡ None
  MayLook Absent = walk accounts f p q ≡ None
  MayLook MayRead = walk accounts f p q ≡ None
  MayLook MayWrite = walk accounts f p q ≡ None
  MayLook MayWriteAbove = (is_below_root q ≡ true) × (walk accounts f p q ≡ None)
  MayLook (AbsentBeside name) = (is_below_root q ≡ true) × (walk accounts f p q ≡ None)
  MayLook HasRoomAbove = (is_below_root q ≡ true) × (walk accounts f p q ≡ None)
  MayLook IsEmpty = (walk accounts f p q ≡ None) × (reads accounts f p q ≡ true)
  MayLook (Fits new) = (walk accounts f p q ≡ None) × (reads accounts f p q ≡ true)
  MayLook _ = Unit {0}

  -- each test, in its turn, looks only at what may be seen by then
  abbrev pub IsOrdered : Type 0 → Need → Type 0
  IsOrdered Known (a then b) = IsOrdered Known a × IsOrdered (Known × Met a) b
  IsOrdered Known (test or e) = Known → MayLook test
  IsOrdered Known _ = Unit {0}

  -- what allows an effect
  abbrev pub Warrant : Effect → Type 0
  Warrant (Makes content mode) =
      (is_below_root q ≡ true) × (walk accounts f p q ≡ None) × (get f.files q ≡ None) × (writes accounts f p (parent q) ≡ true) × IsBlank content
  Warrant (Stores new) =
      (is_below_root q ≡ true) × (walk accounts f p q ≡ None) × (is_file_at f q ≡ true) × (writes accounts f p q ≡ true) × (reads accounts f p q ≡ true)
      × (nat_le (length (new (bytes_at f q))) most_bytes ≡ true)
  Warrant Removes = (is_below_root q ≡ true) × (writes accounts f p (parent q) ≡ true)
  Warrant (Renames name) = (is_below_root q ≡ true) × (is_there f q ≡ true) × (get f.files (name ∷ parent q) ≡ None) × (writes accounts f p (parent q) ≡ true)
  Warrant (LogsIn name) = (is_some (user_named accounts.users name) ≡ true) × (is_free p ≡ true)
  Warrant (Kills name) = is_child me name ≡ true
  Warrant Wraps =
      (is_below_root q ≡ true) × (walk accounts f p q ≡ None) × (get f.files q ≡ None) × (writes accounts f p (parent q) ≡ true) × (not (same p.user nobody) ≡ true)
  Warrant _ = Unit {0}

  -- what allows an answer
  abbrev pub MayReveal : ReplyForm → Type 0
  MayReveal Bytes = (walk accounts f p q ≡ None) × (reads accounts f p q ≡ true)
  MayReveal Listing = (walk accounts f p q ≡ None) × (reads accounts f p q ≡ true)
  MayReveal Attributes = walk accounts f p q ≡ None
  MayReveal (StatusOf name) = not_found f p name ≡ None
  MayReveal _ = Unit {0}

-- each rule tests only what the process may see by then
abbrev pub TestsAreOrdered : Type 0
TestsAreOrdered = (accounts : Accounts) (f : Flat) (me : ProcName) (p : Process) (call : UnixCall) → IsOrdered accounts f me p (path_of call) (Unit {0}) (rule call).needs

-- a call that is not refused is allowed its effect
abbrev pub EffectsAreWarranted : Type 0
EffectsAreWarranted = (accounts : Accounts) (f : Flat) (me : ProcName) (p : Process) (call : UnixCall)
    → refused accounts f me p call ≡ None → Warrant accounts f me p (path_of call) (rule call).effect

-- a call that is not refused may reveal its answer
abbrev pub AnswersMayBeRevealed : Type 0
AnswersMayBeRevealed = (accounts : Accounts) (f : Flat) (me : ProcName) (p : Process) (call : UnixCall)
    → refused accounts f me p call ≡ None → MayReveal accounts f me p (path_of call) (rule call).answer
