-- What follows from the meaning of the calls on files: what a listing shows, what a removal and a rename leave, which calls can remove a
-- private file, and what a process learns of a directory that it may not read.
use Rattle.std.specs.Prelude.{◌≡◌, Bool, true, false, not, ◌&&◌, cond, T, List, ◌∷◌, ◌⊎◌, ℕ, Some, None, option_map}
use Rattle.std.specs.Ordering.{nat_cmp}
use Rattle.std.specs.Cmp.Lexicographic.{slice_cmp}
use Rattle.std.specs.FinMap.{find, is_sorted}
use Rattle.histar_flat.specs.declared.calls.UnixCall.{UnixCall}
use Rattle.histar_flat.specs.declared.calls.UnixCall.TheVariants.{List as ListCall, Unlink, Rmdir, Rmtree, Rename}
use Rattle.histar_flat.specs.declared.replies.Reply.TheVariants.{Done, Entries}
use Rattle.histar_flat.specs.Words.{Name, Path, ProcName}
use Rattle.histar_base.specs.Paths.{same, same_path}
use Rattle.histar_flat.specs.PathOrder.{under_path}
use Rattle.histar_flat.specs.Accounts.{Accounts}
use Rattle.histar_flat.specs.Files.{get}
use Rattle.histar_flat.specs.Classes.{Process}
use Rattle.histar_flat.specs.FlatState.{Flat, Node, Entry, IsTree, is_dir, reads, writes, moved}
use Rattle.histar_flat.specs.FlatCalls.{running, reply_to, flat_after}
use Rattle.histar_flat.specs.Laws.{private_file}

-- In a listing the names rise; a name is in it exactly if the directory has that entry, and is a directory's exactly if the entry is one.
abbrev pub ListingsShowWhatIsThere : Type 0
ListingsShowWhatIsThere = (accounts : Accounts) (f : Flat) (me : ProcName) (d : Path) (entries : List Entry) → reply_to accounts f me (ListCall d) ≡ Entries entries
    → T (is_sorted (slice_cmp nat_cmp) entries) × ((n : Name) → find (slice_cmp nat_cmp) n entries ≡ option_map is_dir (get f.files (n ∷ d)))

-- the call removes what is at the path
abbrev pub IsRemoval : UnixCall → Path → Type 0
IsRemoval call q = (call ≡ Unlink q) ⊎ (call ≡ Rmdir q) ⊎ (call ≡ Rmtree q)

-- a removal takes exactly what is at its path and below it
abbrev pub RemovalsTakeWhatIsBelow : Type 0
RemovalsTakeWhatIsBelow = (accounts : Accounts) (f : Flat) (me : ProcName) (call : UnixCall) (q : Path) → IsRemoval call q → reply_to accounts f me call ≡ Done
    → (r : Path) → get (flat_after accounts f me call).files r ≡ cond (under_path q r) None (get f.files r)

-- In a tree a rename keeps everything, with its class and its bytes: what was at a path is where that leads with the new name, and nothing
-- else is.
abbrev pub RenamesKeepWhatIsThere : Type 0
RenamesKeepWhatIsThere = (accounts : Accounts) (f : Flat) → IsTree f → (me : ProcName) (n k : Name) (d : Path) → reply_to accounts f me (Rename (n ∷ d) k) ≡ Done → (r : Path) (node : Node)
    → (get f.files r ≡ Some node → get (flat_after accounts f me (Rename (n ∷ d) k)).files (moved (n ∷ d) (k ∷ d) r) ≡ Some node)
    × (get (flat_after accounts f me (Rename (n ∷ d) k)).files r ≡ Some node → get f.files (moved (k ∷ d) (n ∷ d) r) ≡ Some node)

-- the process may write none of the directories that lead to the path
abbrev pub WritesNoneAbove : Accounts → Flat → Process → Path → Type 0
WritesNoneAbove accounts f p q = (n : Name) (d : Path) → under_path (n ∷ d) q ≡ true → writes accounts f p d ≡ false

-- in a tree no call of another user's process removes or changes a private file, unless it may write a directory on the way to the file
abbrev pub WritersTakePrivateFiles : Type 0
WritersTakePrivateFiles = (f : Flat) → IsTree f → (q : Path) (owner : Name) (bytes : List ℕ) → get f.files q ≡ Some (private_file owner bytes)
    → (accounts : Accounts) (me : ProcName) (p : Process) (call : UnixCall) → running f me ≡ Some p → same p.user owner ≡ false → WritesNoneAbove accounts f p q
    → get (flat_after accounts f me call).files q ≡ Some (private_file owner bytes)

-- the path lies below the directory
abbrev pub is_inside : Path → Path → Bool
is_inside d q = under_path d q && not (same_path d q)

-- Each call of a process has the same reply, whatever lies below a directory that the process may not read.
abbrev pub UnreadDirectoriesAreHidden : Type 0
UnreadDirectoriesAreHidden = (accounts : Accounts) (f g : Flat) (d : Path) → f.processes ≡ g.processes → ((q : Path) → is_inside d q ≡ false → get f.files q ≡ get g.files q)
    → (me : ProcName) (p : Process) (call : UnixCall) → running f me ≡ Some p → reads accounts f p d ≡ false → reply_to accounts f me call ≡ reply_to accounts g me call
