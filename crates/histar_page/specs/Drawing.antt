-- The drawing on a page: which process may read and write which file at the end, and the jobs.
use Rattle.std.specs.Prelude.{ℕ, ◌+◌, Bool, true, false, ◌&&◌, List, [], ◌∷◌, ◌++◌, ◌==◌, codes, decimal, filter, length, nat_le, Option, None, Some}
use Rattle.std.specs.Prelude.{unwrap_or, if◌then◌else◌}
use Rattle.std.specs.List.{flat_map, list_all, list_any}
use Rattle.std.specs.Str.{bytes_eq}
use Rattle.histar_flat.specs.Words.{split_at_first}
use Rattle.histar_script.specs.Lines.{split_word}
use Rattle.histar_page.specs.declared.kind.Kind.{Kind}
use Rattle.histar_page.specs.declared.kind.Kind.TheVariants.{DrawnHeight, ProcessBand, FileBand, ReadEdge, WriteEdge, BothEdge, EdgeEnd, EdgeProcess}
use Rattle.histar_page.specs.declared.kind.Kind.TheVariants.{EdgeFile, ProcessNode, FileNode, NodeName}
use Rattle.histar_page.specs.declared.places.TheConstants.{MOST_DRAWN_FILES, MOST_DRAWN_PROCESSES}
use Rattle.histar_page.specs.declared.markup.Markup.TheVariants.{Arrows, BeginDrawing, BeginLabels, End, EndDrawing, NotDrawn}
use Rattle.histar_page.specs.Items.{Item}
use Rattle.histar_page.specs.Items.Item.{Fixed, Shown}
use Rattle.histar_page.specs.Lines.{after_word, call_on, is_reply, words_of}
use Rattle.histar_page.specs.Places.{drawn_height, file_top, half_height, process_top}

-- ---- the rows of the table

-- the cells of a row: the words after a path, its kind, its owner and its mode
abbrev pub row_cells : List (List ℕ) → List (List ℕ)
row_cells (path ∷ kind ∷ owner ∷ mode ∷ cells) = cells
row_cells words = []

-- the cells of a line
abbrev pub line_cells : List ℕ → List (List ℕ)
line_cells line = row_cells (words_of line)

-- the cells of the first line, one for each process
abbrev pub first_cells : List (List ℕ) → List (List ℕ)
first_cells [] = []
first_cells (line ∷ lines) = line_cells line

-- the path of a line
abbrev pub line_path : List ℕ → List ℕ
line_path line = (split_word line).0

-- the process of a cell, which is before its colon
abbrev pub process_of : List ℕ → List ℕ
process_of cell = (split_at_first 58 cell).0

-- the letters of a cell's rights have this one
abbrev pub has_letter : ℕ → List ℕ → Bool
has_letter letter cell = list_any (λ b. b == letter) (unwrap_or (split_at_first 58 cell).1 [])

-- a line has no more cells than processes are drawn
abbrev pub is_narrow : List ℕ → Bool
is_narrow line = nat_le (length (words_of line)) (4 + MOST_DRAWN_PROCESSES)

-- a session is drawn if it has few enough files and processes
abbrev pub is_drawn : List (List ℕ) → Bool
is_drawn lines = nat_le (length lines) MOST_DRAWN_FILES && list_all is_narrow lines

-- ---- edges

-- the kind of the edge between a file and a process that may read it or not, and write it or not
abbrev pub edge_kind : Bool → Bool → Option Kind
edge_kind true true = Some BothEdge
edge_kind true false = Some ReadEdge
edge_kind false true = Some WriteEdge
edge_kind false false = None

-- an edge of this kind between the process of a cell, which is the i-th, and the j-th path
abbrev pub edge : Option Kind → List ℕ → ℕ → ℕ → List ℕ → List Item
edge None path j i cell = []
edge (Some kind) path j i cell =
    Shown kind (decimal (process_top i + half_height)) ∷ Shown EdgeEnd (decimal (file_top j + half_height))
    ∷ Shown EdgeProcess (process_of cell) ∷ Shown EdgeFile path ∷ []

-- the edge of a cell: its process may read if the cell has `r`, and write if it has `w`
abbrev pub cell_edge : List ℕ → ℕ → ℕ → List ℕ → List Item
cell_edge path j i cell = edge (edge_kind (has_letter 114 cell) (has_letter 119 cell)) path j i cell

-- the edges of cells, the first of which is that of the i-th process
abbrev pub row_edges : List ℕ → ℕ → ℕ → List (List ℕ) → List Item
row_edges path j i [] = []
row_edges path j i (cell ∷ cells) = cell_edge path j i cell ++ row_edges path j (i + 1) cells

-- the edges of lines, the first of which is of the j-th file
abbrev pub table_edges : ℕ → List (List ℕ) → List Item
table_edges j [] = []
table_edges j (line ∷ lines) = row_edges (line_path line) j 0 (line_cells line) ++ table_edges (j + 1) lines

-- ---- nodes

-- the nodes of processes, the first of which is the i-th
abbrev pub process_nodes : ℕ → List (List ℕ) → List Item
process_nodes i [] = []
process_nodes i (cell ∷ cells) = Shown ProcessNode (decimal (process_top i)) ∷ Shown NodeName (process_of cell) ∷ process_nodes (i + 1) cells

-- the nodes of files, the first of which is the j-th
abbrev pub file_nodes : ℕ → List (List ℕ) → List Item
file_nodes j [] = []
file_nodes j (line ∷ lines) = Shown FileNode (decimal (file_top j)) ∷ Shown NodeName (line_path line) ∷ file_nodes (j + 1) lines

-- ---- jobs

-- a process is the first of a job or below it
abbrev pub is_within : List ℕ → List ℕ → Bool
is_within [] [] = true
is_within [] (b ∷ bs) = b == 46
is_within (a ∷ job) [] = false
is_within (a ∷ job) (b ∷ bs) = (a == b) && is_within job bs

-- a process is in one of these jobs
abbrev pub is_in_a_job : List (List ℕ) → List ℕ → Bool
is_in_a_job jobs process = list_any (λ job. is_within job process) jobs

-- the first process of the job that a call with this reply has started, if it has started one
abbrev pub job_begun : List (List ℕ) → List (List ℕ) → List (List ℕ)
job_begun (process ∷ word ∷ rest) (ok ∷ job ∷ []) = if bytes_eq word (codes "wrap") then job ∷ [] else []
job_begun call reply = []

-- the same for a line of the output
abbrev pub job_on : List (List ℕ) → List ℕ → List (List ℕ)
job_on script line = job_begun (words_of (call_on script line)) (words_of (after_word line))

-- the jobs of a session, in the order in which they are started
abbrev pub jobs_of : List (List ℕ) → List (List ℕ) → List (List ℕ)
jobs_of script output = flat_map (job_on script) (filter is_reply output)

-- the bands around the processes of a job, the first of which is the i-th
abbrev pub process_bands : List ℕ → ℕ → List (List ℕ) → List Item
process_bands job i [] = []
process_bands job i (cell ∷ cells) =
    (let band : List Item = if is_within job (process_of cell) then Shown ProcessBand (decimal (process_top i)) ∷ [] else [] in band)
    ++ process_bands job (i + 1) cells

-- a cell is of a process of the job that may write
abbrev pub changes_by : List ℕ → List ℕ → Bool
changes_by job cell = is_within job (process_of cell) && has_letter 119 cell

-- the bands around the files that a process of a job may write, the first of which is the j-th
abbrev pub file_bands : List ℕ → ℕ → List (List ℕ) → List Item
file_bands job j [] = []
file_bands job j (line ∷ lines) =
    (let band : List Item = if list_any (changes_by job) (line_cells line) then Shown FileBand (decimal (file_top j)) ∷ [] else [] in band)
    ++ file_bands job (j + 1) lines

-- the bands of a job, around processes that have these cells, and around the files of these lines
abbrev pub bands_of : List (List ℕ) → List (List ℕ) → List ℕ → List Item
bands_of cells lines job = process_bands job 0 cells ++ file_bands job 0 lines

-- ---- the drawing

-- an edge for each cell with `r` or `w`; each process and each path; and the end of the page
abbrev pub graph_items : List (List ℕ) → List (List ℕ) → List Item
graph_items cells lines = table_edges 0 lines ++ process_nodes 0 cells ++ file_nodes 0 lines ++ Fixed EndDrawing ∷ Fixed End ∷ []

-- a drawing: its height, the arrows, the bands of each job, and the graph
abbrev pub drawn_items : List (List ℕ) → List (List ℕ) → List Item
drawn_items jobs lines =
    Fixed BeginLabels ∷ Fixed BeginDrawing ∷ Shown DrawnHeight (decimal (drawn_height (length (first_cells lines)) (length lines)))
    ∷ Fixed Arrows ∷ flat_map (bands_of (first_cells lines) lines) jobs ++ graph_items (first_cells lines) lines

-- the sentence in place of a drawing, and the end of the page
abbrev pub undrawn_items : List Item
undrawn_items = Fixed BeginLabels ∷ Fixed NotDrawn ∷ Fixed End ∷ []

-- the part of a page that shows the drawing of a session with this script, this output and this table; one that is too large is not drawn
abbrev pub drawing_items : List (List ℕ) → List (List ℕ) → List (List ℕ) → List Item
drawing_items script output lines = if is_drawn lines then drawn_items (jobs_of script output) lines else undrawn_items
