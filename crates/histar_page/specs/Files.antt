-- The files on a page, with the rights of processes.
use Rattle.std.specs.Prelude.{ℕ, Bool, false, List, [], ◌∷◌, ◌++◌, ◌==◌, map, unwrap_or, if◌then◌else◌}
use Rattle.std.specs.List.{flat_map}
use Rattle.histar_flat.specs.Words.{split_at_first}
use Rattle.histar_page.specs.declared.kind.Kind.{Kind}
use Rattle.histar_page.specs.declared.kind.Kind.TheVariants.{ColumnUser, Column, JobColumn, Path, Stat, Process, JobProcess, Granted, Withheld}
use Rattle.histar_page.specs.declared.markup.Markup.TheVariants.{BeginFiles, BeginRow, EndCell, EndColumns, EndFiles, EndRow, EndUsers}
use Rattle.histar_page.specs.Items.{Item}
use Rattle.histar_page.specs.Items.Item.{Fixed, Shown}
use Rattle.histar_page.specs.Lines.{without_first, words_of}
use Rattle.histar_page.specs.Drawing.{first_cells, is_in_a_job, process_of}

-- ---- the columns

-- the user in a word, after its colon
abbrev pub user_item : List ℕ → Item
user_item word = Shown ColumnUser (unwrap_or (split_at_first 58 word).1 [])

-- the processes with their users: the words of the first line of the secrets, after its first word
abbrev pub runners_of : List (List ℕ) → List (List ℕ)
runners_of [] = []
runners_of (line ∷ lines) = without_first (words_of line)

-- the process of a cell is in one of these jobs
abbrev pub is_job_cell : List (List ℕ) → List ℕ → Bool
is_job_cell jobs cell = is_in_a_job jobs (process_of cell)

-- for each column whether its process is in one of these jobs
abbrev pub job_columns : List (List ℕ) → List (List ℕ) → List Bool
job_columns jobs lines = map (is_job_cell jobs) (first_cells lines)

-- the process of the first column is in a job
abbrev pub first_flag : List Bool → Bool
first_flag [] = false
first_flag (flag ∷ flags) = flag

-- the same for the columns after the first
abbrev pub later_flags : List Bool → List Bool
later_flags [] = []
later_flags (flag ∷ flags) = flags

-- a column of a process in a job is set off
abbrev pub column_kind : Bool → Kind
column_kind in_job = if in_job then JobColumn else Column

-- the process of each column, and the end of their row
abbrev pub column_items : List Bool → List (List ℕ) → List Item
column_items flags [] = Fixed EndColumns ∷ []
column_items flags (cell ∷ cells) = Shown (column_kind (first_flag flags)) (process_of cell) ∷ column_items (later_flags flags) cells

-- ---- the rows

-- a hyphen stands for a right that is withheld
abbrev pub right_kind : ℕ → Kind
right_kind letter = if letter == 45 then Withheld else Granted

-- the letter of a right
abbrev pub right_item : ℕ → Item
right_item letter = Shown (right_kind letter) (letter ∷ [])

-- a word about a path: its kind, its owner or its mode
abbrev pub stat_item : List ℕ → Item
stat_item word = Shown Stat word

-- a cell of a process in a job is set off
abbrev pub process_kind : Bool → Kind
process_kind in_job = if in_job then JobProcess else Process

-- a cell: a process, and each letter of its rights
abbrev pub cell_items : Bool → List ℕ → List Item
cell_items in_job cell =
    Shown (process_kind in_job) (process_of cell) ∷ map right_item (unwrap_or (split_at_first 58 cell).1 []) ++ Fixed EndCell ∷ []

-- the cells of columns, and the end of their row
abbrev pub cells_items : List Bool → List (List ℕ) → List Item
cells_items flags [] = Fixed EndRow ∷ []
cells_items flags (cell ∷ cells) = cell_items (first_flag flags) cell ++ cells_items (later_flags flags) cells

-- a row of the table: a path, its kind, its owner, its mode, and then the cells
abbrev pub row_items : List Bool → List (List ℕ) → List Item
row_items flags (path ∷ kind ∷ owner ∷ mode ∷ cells) =
    Fixed BeginRow ∷ Shown Path path ∷ stat_item kind ∷ stat_item owner ∷ stat_item mode ∷ cells_items flags cells
row_items flags words = Fixed BeginRow ∷ map stat_item words ++ Fixed EndRow ∷ []

-- the row of a line
abbrev pub line_items : List Bool → List ℕ → List Item
line_items flags line = row_items flags (words_of line)

-- ---- the table

-- the process of each column, and then each row of the table
abbrev pub table_items : List Bool → List (List ℕ) → List Item
table_items flags lines = column_items flags (first_cells lines) ++ flat_map (line_items flags) lines ++ Fixed EndFiles ∷ []

-- the part of a page that shows files: the users of these words, and the table below them, with the columns of processes in these jobs set off
abbrev pub files_items : List (List ℕ) → List (List ℕ) → List (List ℕ) → List Item
files_items jobs runners lines = Fixed BeginFiles ∷ map user_item runners ++ Fixed EndUsers ∷ table_items (job_columns jobs lines) lines
