-- The rights at a path are those that its directory gives and that its class allows the process.
use Rattle.std.specs.Prelude.{◌≡◌, ℕ, Bool, true, false, not, ◌&&◌, nat_le, List, [], ◌∷◌, ◌++◌, length, Option, None, Some, refl}
use Rattle.std.specs.List.{list_all}
use Rattle.std.proofs.Common.{sym, ap, ◌∙◌, append-nil}
use Rattle.std.proofs.lemmas.Bool.{true≢false, le-leb}
use Rattle.histar_base.specs.Refusals.{unless}
use Rattle.histar_flat.specs.declared.replies.Errno.TheVariants.{ENOENT, ENOTDIR, EISDIR, EACCES, EFBIG}
use Rattle.histar_flat.specs.Words.{Name, Path, ProcName}
use Rattle.histar_base.specs.Paths.{same}
use Rattle.histar_flat.specs.Accounts.{Accounts, has, is_member}
use Rattle.histar_flat.specs.Files.{get}
use Rattle.histar_flat.specs.Classes.{Class, Process, is_free, knows, may_read, may_write}
use Rattle.histar_flat.specs.Classes.Class.{Private, Readable, Open, Scratch, Grouped}
use Rattle.histar_flat.specs.FlatState.{Flat, Node, IsTree, is_some_and, is_dir, is_there, is_dir_at, is_file_at, reads, writes, bytes_at, into}
use Rattle.histar_flat.specs.FlatCalls.{most_bytes}
use Rattle.histar_rights.specs.Rights.{rights_at, rights_below, reading_call, may_write_at, is_passed}
use Rattle.histar_rights.specs.Laws.{HaveFewBytes, DirectoriesGiveRights, rights_above, rights_or}
use Rattle.histar_rights.proofs.Passing.{passes, passes_one, passes_same, passes_third, passes_then, passes_then_more, passes_second}

-- a process may read what it may write
written_is_read : (accounts : Accounts) (p : Process) (class : Class)
    → (may_read accounts p class && may_write accounts p class) ≡ may_write accounts p class
written_is_read accounts p (Private owner) = by (same p.user owner) (is_free p)
  where
    by : (a b : Bool) → (a && (a && b)) ≡ (a && b)
    by true b = refl
    by false b = refl
written_is_read accounts p (Readable owner) = refl
written_is_read accounts p Open = refl
written_is_read accounts p (Scratch owner jobs) = by (same p.user owner) (list_all (knows p) jobs) (list_all (has jobs) p.chain)
  where
    by : (a b c : Bool) → ((a && b) && (a && b && c)) ≡ (a && b && c)
    by true true c = refl
    by true false c = refl
    by false b c = refl
written_is_read accounts p (Grouped group) = by (is_member accounts p.user group) (is_free p)
  where
    by : (a b : Bool) → (a && (a && b)) ≡ (a && b)
    by true b = refl
    by false b = refl

-- the same with a walk before it
walked_written : (w r x : Bool) → (r && x) ≡ x → ((w && r) && x) ≡ (w && x)
walked_written true r x h = h
walked_written false r x h = refl

module _ (accounts : Accounts) (f : Flat) (tree : IsTree f) (small : HaveFewBytes f) (me : ProcName) (p : Process) where
  -- facts about a path with a node, as tests see it
  module _ (q : Path) (node : Node) (at : get f.files q ≡ Some node) where
    pub there : is_there f q ≡ true
    there = ap (λ o. is_some_and o (λ n. true)) at

    reads_it : reads accounts f p q ≡ may_read accounts p node.class
    reads_it = ap (λ o. is_some_and o (λ n. may_read accounts p n.class)) at

    writes_it : writes accounts f p q ≡ may_write accounts p node.class
    writes_it = ap (λ o. is_some_and o (λ n. may_write accounts p n.class)) at

    dir_it : is_dir_at f q ≡ is_dir node
    dir_it = ap (λ o. is_some_and o is_dir) at

    file_it : is_file_at f q ≡ not (is_dir node)
    file_it = ap (λ o. is_some_and o (λ n. not (is_dir n))) at

    fits : unless (nat_le (length (bytes_at f q ++ [])) most_bytes) EFBIG ≡ None
    fits =
        ap (λ b. unless b EFBIG)
        (ap (λ (bs : List ℕ). nat_le (length bs) most_bytes) (append-nil (bytes_at f q)) ∙ le-leb (length (bytes_at f q)) most_bytes (small q))

  -- a process that may walk into a directory may walk to it and list it
  lists : (d : Path) (above : Node) → get f.files d ≡ Some above → is_dir above ≡ true
      → is_passed accounts f me p (reading_call d true) ≡ passes (into accounts f p d)
  lists [] above at dir =
      passes_third None (is_there f []) (is_dir_at f []) (reads accounts f p []) ENOENT ENOTDIR EACCES (there [] above at) (dir_it [] above at ∙ dir)
      ∙ sym (passes_one None (reads accounts f p []) EACCES)
  lists (m ∷ e) above at dir = refl

  -- the way into a directory is open if the way above is, and it may be read
  goes_in : (n : Name) (d : Path) (node : Node) → get f.files (n ∷ d) ≡ Some node → is_dir node ≡ true
      → passes (into accounts f p (n ∷ d)) ≡ (passes (into accounts f p d) && may_read accounts p node.class)
  goes_in n d node at dir =
      passes_third (into accounts f p d) (is_there f (n ∷ d)) (is_dir_at f (n ∷ d)) (reads accounts f p (n ∷ d)) ENOENT
      ENOTDIR EACCES (there (n ∷ d) node at) (dir_it (n ∷ d) node at ∙ dir)
      ∙ ap (λ b. passes (into accounts f p d) && b) (reads_it (n ∷ d) node at)

  -- the rights at a node are those that its directory gives, with this way into it and this right to write it
  abbrev Given : Bool → Bool → Path → Node → Type 0
  Given way up q node =
      rights_at accounts f me p q node
      ≡ record {
        stat = way;
        read = way && may_read accounts p node.class;
        write = way && may_write accounts p node.class;
        remove = up;
      }

  -- the rights at `/`
  root_given : (node : Node) → get f.files [] ≡ Some node → is_dir node ≡ true → Given true false [] node
  root_given node at dir = λ i. record {
    stat = passes_same None (is_there f []) ENOENT (there [] node at) i;
    read =
        (ap (λ b. is_passed accounts f me p (reading_call [] b)) dir ∙ lists [] node at dir
        ∙ passes_one None (reads accounts f p []) EACCES ∙ reads_it [] node at) i;
    write = (
        ap (λ b. may_write_at accounts f me p [] b) dir
        ∙ ap (λ b. b && writes accounts f p []) (passes_one None (reads accounts f p []) EACCES)
        ∙ (λ j. reads_it [] node at j && writes_it [] node at j)
        ∙ written_is_read accounts p node.class) i;
    remove = false;
  }

  module _ (n : Name) (d : Path) (node : Node) (at : get f.files (n ∷ d) ≡ Some node) where
    abbrev way : Bool
    way = passes (into accounts f p d)

    -- the right to read is that of the class, after the way
    read_given : (dir : Bool) → is_dir node ≡ dir → is_passed accounts f me p (reading_call (n ∷ d) dir) ≡ (way && may_read accounts p node.class)
    read_given true is = goes_in n d node at is
    read_given false is =
        passes_then (into accounts f p d) (is_there f (n ∷ d)) (is_file_at f (n ∷ d)) (reads accounts f p (n ∷ d))
        ENOENT EISDIR EACCES (there (n ∷ d) node at) (file_it (n ∷ d) node at ∙ ap not is)
        ∙ ap (λ b. way && b) (reads_it (n ∷ d) node at)

    -- the right to write is that of the class, after the way
    write_given : (dir : Bool) → is_dir node ≡ dir → may_write_at accounts f me p (n ∷ d) dir ≡ (way && may_write accounts p node.class)
    write_given true is =
        (λ i. goes_in n d node at is i && writes_it (n ∷ d) node at i)
        ∙ walked_written way (may_read accounts p node.class) (may_write accounts p node.class) (written_is_read accounts p node.class)
    write_given false is =
        passes_then_more (into accounts f p d) (is_there f (n ∷ d)) (is_file_at f (n ∷ d)) (writes accounts f p (n ∷ d)) ENOENT EISDIR EACCES
        (unless (nat_le (length (bytes_at f (n ∷ d) ++ [])) most_bytes) EFBIG) (there (n ∷ d) node at)
        (file_it (n ∷ d) node at ∙ ap not is) (fits (n ∷ d) node at)
        ∙ ap (λ b. way && b) (writes_it (n ∷ d) node at)

    below_given : Given way (way && writes accounts f p d) (n ∷ d) node
    below_given = λ i. record {
      stat = passes_same (into accounts f p d) (is_there f (n ∷ d)) ENOENT (there (n ∷ d) node at) i;
      read = read_given (is_dir node) refl i;
      write = write_given (is_dir node) refl i;
      remove = passes_second (into accounts f p d) (is_there f (n ∷ d)) (writes accounts f p d) ENOENT EACCES (there (n ∷ d) node at) i;
    }

    -- the rights by those of the directory
    module _ (above : Node) (over : get f.files d ≡ Some above) where
      is_directory : is_dir above ≡ true
      is_directory = sym (dir_it d above over) ∙ tree.below n d (there (n ∷ d) node at)

      way_of : (rights_at accounts f me p d above).read ≡ way
      way_of = ap (λ b. is_passed accounts f me p (reading_call d b)) is_directory ∙ lists d above over is_directory

      up_of : (rights_at accounts f me p d above).write ≡ (way && writes accounts f p d)
      up_of = ap (λ b. may_write_at accounts f me p d b) is_directory

      pub given_by : rights_at accounts f me p (n ∷ d) node
          ≡ rights_below (rights_at accounts f me p d above) (may_read accounts p node.class)
          (may_write accounts p node.class)
      given_by = below_given ∙ (λ i. record {
        stat = sym way_of i;
        read = sym way_of i && may_read accounts p node.class;
        write = sym way_of i && may_write accounts p node.class;
        remove = sym up_of i;
      })

  -- the rights at a path are those that its directory, which is there, gives
  by_directory : (n : Name) (d : Path) (node : Node) → get f.files (n ∷ d) ≡ Some node → (o : Option Node) → get f.files d ≡ o
      → rights_at accounts f me p (n ∷ d) node
      ≡ rights_below (rights_or accounts f me p d o) (may_read accounts p node.class)
      (may_write accounts p node.class)
  by_directory n d node at None over = absurd (true≢false (sym (tree.below n d (there (n ∷ d) node at)) ∙ ap (λ o. is_some_and o is_dir) over))
  by_directory n d node at (Some above) over = given_by n d node at above over

  pub rights_given : (q : Path) (node : Node) → get f.files q ≡ Some node
      → rights_at accounts f me p q node
      ≡ rights_below (rights_above accounts f me p q) (may_read accounts p node.class)
      (may_write accounts p node.class)
  rights_given [] node at = root_given node at (sym (dir_it [] node at) ∙ tree.root)
  rights_given (n ∷ d) node at = by_directory n d node at (get f.files d) refl

-- the rights at a path are those that its directory gives and that its class allows the process
pub directories_give_rights : DirectoriesGiveRights
directories_give_rights accounts f tree small me p q node at = rights_given accounts f tree small me p q node at
