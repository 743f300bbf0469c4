-- The rights of a process at a path, defined by the calls that are not refused.
use Rattle.std.specs.Prelude.{ℕ, Bool, true, false, not, ◌&&◌, ◌==◌, List, [], ◌∷◌, ◌++◌, codes, Option, Some, None, is_some, if◌then◌else◌}
use Rattle.histar_flat.specs.declared.calls.UnixCall.{UnixCall}
use Rattle.histar_flat.specs.declared.calls.UnixCall.TheVariants.{Append, Read, List as ListCall, Stat, Rmtree}
use Rattle.histar_flat.specs.Words.{Path, ProcName}
use Rattle.histar_flat.specs.Accounts.{Accounts}
use Rattle.histar_flat.specs.Classes.{Process}
use Rattle.histar_flat.specs.FlatState.{Flat, Node, is_dir, writes, into}
use Rattle.histar_flat.specs.FlatCalls.{refused}
use Rattle.histar_rights.specs.declared.rights.Rights.{Rights}

-- a call of the process p, whose name is me, is not refused
abbrev pub is_passed : Accounts → Flat → ProcName → Process → UnixCall → Bool
is_passed accounts f me p call = not (is_some (refused accounts f me p call))

-- the call that reads what is at a path
abbrev pub reading_call : Path → Bool → UnixCall
reading_call q true = ListCall q
reading_call q false = Read q

-- the process may walk into the directory and write it
abbrev pub may_make_in : Accounts → Flat → Process → Path → Bool
may_make_in accounts f p d = not (is_some (into accounts f p d)) && writes accounts f p d

-- the process may write what is at a path: make something in a directory, or append nothing to a file
abbrev pub may_write_at : Accounts → Flat → ProcName → Process → Path → Bool → Bool
may_write_at accounts f me p q true = may_make_in accounts f p q
may_write_at accounts f me p q false = is_passed accounts f me p (Append q [])

-- the rights of the process p, whose name is me, at a path with this node
abbrev pub rights_at : Accounts → Flat → ProcName → Process → Path → Node → Rights
rights_at accounts f me p q node = record {
  stat = is_passed accounts f me p (Stat q);
  read = is_passed accounts f me p (reading_call q (is_dir node));
  write = may_write_at accounts f me p q (is_dir node);
  remove = is_passed accounts f me p (Rmtree q);
}

-- the rights above `/`: those of a directory to which each process may walk, and which no process may write
abbrev pub above_root : Rights
above_root = record { stat = true; read = true; write = false; remove = false }

-- The rights at an entry of a directory, by those at the directory and by what labels allow: a process that may list the directory may walk
-- to the entry, and one that may write the directory may remove the entry.
abbrev pub rights_below : Rights → Bool → Bool → Rights
rights_below directory observes modifies = record {
  stat = directory.read;
  read = directory.read && observes;
  write = directory.read && modifies;
  remove = directory.write;
}

-- the letter of a right, or a hyphen if it is withheld
abbrev pub letter : Bool → List ℕ → List ℕ
letter has text = if has then text else codes "-"

-- the letters of rights
abbrev pub rights_text : Rights → List ℕ
rights_text r = letter r.stat (codes "s") ++ letter r.read (codes "r") ++ letter r.write (codes "w") ++ letter r.remove (codes "d")

-- whether a right is given, by the byte in its place: its letter, or a hyphen
abbrev pub right_spelled : ℕ → ℕ → Option Bool
right_spelled letter byte = if byte == letter then Some true else (if byte == 45 then Some false else None)

-- the rights, if each of the four is given or withheld
abbrev pub rights_by : Option Bool → Option Bool → Option Bool → Option Bool → Option Rights
rights_by (Some stat) (Some read) (Some write) (Some remove) = Some (record { stat = stat; read = read; write = write; remove = remove })
rights_by _ _ _ _ = None

-- the rights that a text spells: `s`, `r`, `w` and `d`, with a hyphen in the place of each one that is withheld
unfoldable pub rights_spelled : List ℕ → Option Rights
rights_spelled (s ∷ r ∷ w ∷ d ∷ []) = rights_by (right_spelled 115 s) (right_spelled 114 r) (right_spelled 119 w) (right_spelled 100 d)
rights_spelled _ = None
