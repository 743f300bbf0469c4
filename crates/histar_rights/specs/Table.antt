-- The table of rights: a line for each path, with the rights of each running process.
use Rattle.std.specs.Prelude.{ℕ, List, ◌++◌, codes, map}
use Rattle.std.specs.List.{flat_map}
use Rattle.histar_flat.specs.declared.replies.Stat.{Stat}
use Rattle.histar_flat.specs.Words.{Path, ProcName}
use Rattle.histar_flat.specs.Accounts.{Accounts}
use Rattle.histar_flat.specs.Classes.{class_owner, class_mode}
use Rattle.histar_flat.specs.FlatState.{Flat, Node, is_dir}
use Rattle.histar_flat.specs.Texts.{path_text, process_text, stat_text}
use Rattle.histar_rights.specs.declared.rights.Rights.{Rights}
use Rattle.histar_rights.specs.Rights.{rights_at, rights_text}
use Rattle.histar_rights.specs.Running.{Named, running_in}

-- a process and its rights
pub record Cell : Type 0 where
  pub process : ProcName
  pub rights : Rights

-- a path, what `stat` shows there, and the rights of processes
pub record AccessLine : Type 0 where
  pub path : Path
  pub stat : Stat
  pub cells : List Cell

module _ (accounts : Accounts) (f : Flat) where
  -- the rights of a process at a path
  abbrev pub cell_at : Path × Node → Named → Cell
  cell_at e c = record { process = c.0; rights = rights_at accounts f c.0 c.1 e.0 e.1 }

  -- a path, what `stat` shows there, and the rights of these processes
  abbrev pub line_of : List Named → Path × Node → AccessLine
  line_of running e = record {
    path = e.0;
    stat = record { is_directory = is_dir e.1; owner = class_owner e.1.class; mode = class_mode e.1.class };
    cells = map (cell_at e) running;
  }

  -- the table: each path, in the order of paths, with the rights of each running process, in the order of names
  abbrev pub access_table : List AccessLine
  access_table = map (line_of (running_in f)) f.files.entries

-- the text of a cell: a space, the process, a colon and the letters of its rights
abbrev pub cell_text : Cell → List ℕ
cell_text c = codes " " ++ process_text c.process ++ codes ":" ++ rights_text c.rights

-- the text of a line: the path, its kind, its owner and its mode, the rights of each process, and a line end
abbrev pub access_line_text : AccessLine → List ℕ
access_line_text l = path_text l.path ++ codes " " ++ stat_text l.stat ++ flat_map cell_text l.cells ++ codes "\n"

-- the text of a table
abbrev pub access_text : List AccessLine → List ℕ
access_text lines = flat_map access_line_text lines
