-- Comparison of two runs of a script: with all its calls and without those of a job.
use Rattle.std.specs.Prelude.{ℕ, Bool, false, not, ◌&&◌, ◌||◌, cond, List, [], ◌∷◌, ◌++◌, Option, None, Some, codes, filter, map, if◌then◌else◌}
use Rattle.std.specs.List.{list_any}
use Rattle.histar_flat.specs.declared.calls.CallLine.{CallLine}
use Rattle.histar_flat.specs.declared.calls.UnixCall.{UnixCall}
use Rattle.histar_flat.specs.declared.calls.UnixCall.TheVariants.{Wrap}
use Rattle.histar_flat.specs.declared.replies.Reply.{Reply}
use Rattle.histar_flat.specs.declared.replies.Reply.TheVariants.{Child}
use Rattle.histar_flat.specs.Words.{Path, ProcName}
use Rattle.histar_base.specs.Paths.{same}
use Rattle.histar_flat.specs.PathOrder.{under_process, parent}
use Rattle.histar_flat.specs.Accounts.{Accounts}
use Rattle.histar_flat.specs.Files.{Files, get, from_list}
use Rattle.histar_flat.specs.Classes.{carries, class_owner, class_mode}
use Rattle.histar_flat.specs.FlatState.{Flat, Node, is_some_and, is_dir, bytes_of}
use Rattle.histar_flat.specs.Texts.{path_text, stat_text, reply_text}
use Rattle.histar_flat.specs.Meaning.{RepliedCall, boot, flat_end, meaning, without}
use Rattle.histar_noninterference.specs.declared.verdict.Verdict.{Verdict}
use Rattle.histar_noninterference.specs.declared.verdict.Verdict.TheVariants.{Same, NoJob, Line, Tree}

-- an outsider: a process that is not in the job, and is not the one that started it
abbrev pub is_outsider : ProcName → ProcName → Bool
is_outsider job process = not (under_process job process) && not (same (parent job) process)

-- the call is a `wrap` that was answered with the job's name
abbrev pub is_wrap_reply : ProcName → UnixCall → Reply → Bool
is_wrap_reply job (Wrap q) (Child name) = same job name
is_wrap_reply job _ _ = false

-- a `wrap` started the job
abbrev pub starts : ProcName → List RepliedCall → Bool
starts job = list_any (λ (a : RepliedCall). is_wrap_reply job a.call.call a.reply)

-- the calls of outsiders with their replies
abbrev pub outsiders : ProcName → List RepliedCall → List RepliedCall
outsiders job = filter (λ (a : RepliedCall). is_outsider job a.call.process)

-- the number of the first line at which the texts of the two replies differ
abbrev pub first_line : List RepliedCall → List RepliedCall → Option ℕ
first_line [] bs = None
first_line (a ∷ as') [] = None
first_line (a ∷ as') (b ∷ bs) = cond (same (reply_text a.reply) (reply_text b.reply)) (first_line as' bs) (Some a.call.line)

-- the node is a directory of the job
abbrev pub is_dir_of : ProcName → Option Node → Bool
is_dir_of job node = is_some_and node (λ n. is_dir n && carries job n.class)

-- the path lies below a directory of the job
abbrev pub lies_in_job : ProcName → Files Node → Path → Bool
lies_in_job job files [] = false
lies_in_job job files (n ∷ d) = is_dir_of job (get files d) || lies_in_job job files d

-- the path lies below a directory that is the job's in one of two trees
abbrev pub is_left_out : ProcName → Flat → Flat → Path → Bool
is_left_out job f g q = lies_in_job job f.files q || lies_in_job job g.files q

-- what is printed of a path in a tree: the path, its kind, its owner and its mode, and the bytes of a file
abbrev pub node_text : Path → Node → List ℕ
node_text q node =
    path_text q ++ codes " "
    ++ stat_text (record { is_directory = is_dir node; owner = class_owner node.class; mode = class_mode node.class })
    ++ (if is_dir node then [] else codes " = " ++ bytes_of (Some node))

-- the text of a path; it is empty if nothing is there
abbrev pub text_at : Path → Option Node → List ℕ
text_at q None = []
text_at q (Some node) = node_text q node

-- the trees differ at the path, and it is not left out
abbrev pub differs : ProcName → Flat → Flat → Path → Bool
differs job f g q = not (is_left_out job f g q) && not (same (text_at q (get f.files q)) (text_at q (get g.files q)))

-- the first path that passes the test
abbrev pub first_that : (Path → Bool) → List Path → Option Path
first_that test [] = None
first_that test (q ∷ paths) = cond (test q) (Some q) (first_that test paths)

-- the first path, in the order in which a tree is printed, at which two trees differ
abbrev pub first_path : ProcName → Flat → Flat → Option Path
first_path job f g = first_that (differs job f g) (map (λ e. e.0) (from_list (f.files.entries ++ g.files.entries)).entries)

-- the verdict by the trees
abbrev pub tree_verdict : Option Path → Verdict
tree_verdict None = Same
tree_verdict (Some q) = Tree q

-- the verdict by the lines, or that of the trees if the lines are the same
abbrev pub line_verdict : Option ℕ → Verdict → Verdict
line_verdict None trees = trees
line_verdict (Some number) trees = Line number

-- the verdict of a script's comparison with the same script without the calls of the job
abbrev pub verdict : Accounts → List CallLine → ProcName → Verdict
verdict accounts calls job =
    cond (starts job (meaning accounts calls))
    (line_verdict
    (first_line (outsiders job (meaning accounts calls)) (outsiders job (meaning accounts (without job calls))))
    (tree_verdict (first_path job (flat_end accounts (boot accounts) calls) (flat_end accounts (boot accounts) (without job calls)))))
    NoJob
