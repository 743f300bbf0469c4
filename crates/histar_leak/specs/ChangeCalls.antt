-- The call by which a process changes what is at a path: by what is there, or else by the lowest directory above that
-- it may change.
use Rattle.std.specs.Prelude.{ℕ, nat_lt, ◌&&◌, List, [], ◌∷◌, length, Option, None, Some, is_some, codes, if◌then◌else◌}
use Rattle.histar_base.specs.Paths.{same}
use Rattle.histar_flat.specs.declared.calls.Mode.TheVariants as modes
use Rattle.histar_flat.specs.declared.calls.UnixCall.{UnixCall}
use Rattle.histar_flat.specs.declared.calls.UnixCall.TheVariants.{Mkdir, Rmtree, Write}
use Rattle.histar_flat.specs.Words.{Name, Path, most_names}
use Rattle.histar_flat.specs.Accounts.{Accounts}
use Rattle.histar_flat.specs.Classes.{Process}
use Rattle.histar_flat.specs.FlatState.{Entry, Flat, bytes_at, entries_in, is_dir_at, is_there}
use Rattle.histar_flat.specs.FlatCalls.{most_entries}
use Rattle.histar_secrecy.specs.Changers.{changes_at}

-- other bytes than these: `0`, or `1` if these are `0`
abbrev pub other_bytes : List ℕ → List ℕ
other_bytes bytes = if same bytes (codes "0") then codes "1" else codes "0"

-- the call that changes these entries of a directory: it removes the first, or makes one of this name if it can
abbrev pub entry_call : List Entry → Path → Name → Option UnixCall
entry_call [] d name = if nat_lt (length d) most_names then Some (Mkdir (name ∷ d) modes.Open) else None
entry_call (e ∷ entries) d name = Some (Rmtree (e.0 ∷ d))

-- the name of an entry that is made in a directory without entries
abbrev pub made_name : Name
made_name = codes "a"

module _ (accounts : Accounts) (f : Flat) where
  -- the call that changes whether the directory has the entry of this name; or another entry, if it has not and is full
  abbrev pub way_call : Name → Path → Option UnixCall
  way_call n d =
      if is_there f (n ∷ d) then Some (Rmtree (n ∷ d)) else
      if nat_lt (length (entries_in f d)) most_entries then Some (Mkdir (n ∷ d) modes.Open) else
      entry_call (entries_in f d) d n

  -- the call of a process by the lowest directory above the path that it may change
  abbrev pub call_above : Process → Path → Option UnixCall
  call_above p [] = None
  call_above p (n ∷ d) = if changes_at accounts f p d && is_dir_at f d then way_call n d else call_above p d

  -- the call that changes what is at the path: the bytes of a file, or the entries of a directory
  abbrev pub own_call : Path → Option UnixCall
  own_call path =
      if is_dir_at f path then entry_call (entries_in f path) path made_name else
      Some (Write path (other_bytes (bytes_at f path)))

  -- the call by which a process changes what is at the path, or else what is above
  abbrev pub change_call : Path → Process → Option UnixCall
  change_call path p =
      if changes_at accounts f p path && is_some (own_call path) then own_call path else call_above p path
