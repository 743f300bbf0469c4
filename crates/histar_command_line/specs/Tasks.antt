-- The task of a command line, by its words.
use Rattle.std.specs.Prelude.{◌≡◌, Bool, true, false, List, codes, map, Option, None, Some, option_map}
use Rattle.std.specs.Str.{bytes_eq}
use Rattle.clap.specs.Words.{Row, Text, all_of, first_of}
use Rattle.histar_command_line.specs.declared.task.AccessKind.{AccessKind}
use Rattle.histar_command_line.specs.declared.task.AccessKind.TheVariants as accesses
use Rattle.histar_command_line.specs.declared.task.CheckFlags.{CheckFlags}
use Rattle.histar_command_line.specs.declared.task.LintKind.{LintKind}
use Rattle.histar_command_line.specs.declared.task.Request.{Request}
use Rattle.histar_command_line.specs.declared.task.Shape.{Shape}
use Rattle.histar_command_line.specs.declared.task.LintKind.TheVariants as kinds
use Rattle.histar_command_line.specs.declared.task.Task.{Task}
use Rattle.histar_command_line.specs.declared.task.Task.TheVariants.{Run, Try, Shell, Raw, Check, CheckAll, Access}
use Rattle.histar_command_line.specs.declared.task.Task.TheVariants.{Diff, Trust, Leak, Flows, Attack, Lint, Report, Test}

-- the value of a flag that was given
abbrev pub is_given : Option Text → Bool
is_given None = false
is_given (Some text) = bytes_eq text (codes "true")

-- the flag of this name was given
abbrev pub is_set : Text → List Row → Bool
is_set name rows = is_given (first_of name rows)

-- the name of the subcommand of a task
abbrev pub subcommand : Task → Text
subcommand (Run file flags at) = codes "run"
subcommand (Try file calls at) = codes "try"
subcommand (Shell file) = codes "shell"
subcommand (Raw file explain) = codes "raw"
subcommand (Check job file flags at) = codes "check"
subcommand (CheckAll file flags at) = codes "check"
subcommand (Access file at kind) = codes "access"
subcommand (Diff old new at flags) = codes "diff"
subcommand (Trust path file at why) = codes "trust"
subcommand (Leak path file at) = codes "leak"
subcommand (Flows file at) = codes "flows"
subcommand (Attack job file flags) = codes "attack"
subcommand (Lint files kind exit_code) = codes "lint"
subcommand (Report file at page) = codes "report"
subcommand (Test files strict) = codes "test"

-- the kind of file that the flags `--raw`, `--attack` and `--policy` name, unless two of them are given
abbrev pub lint_kind : Bool → Bool → Bool → Option LintKind
lint_kind false false false = Some kinds.Script
lint_kind true false false = Some kinds.Raw
lint_kind false true false = Some kinds.Attack
lint_kind false false true = Some kinds.Policy
lint_kind raw attack policy = None

-- whose rights the flags `--users` and `--ever` name
abbrev pub access_kind : Bool → Bool → AccessKind
access_kind false false = accesses.Processes
access_kind true false = accesses.Users
access_kind false true = accesses.Ever
access_kind true true = accesses.UsersEver

-- the flags of a comparison are those that were given
abbrev pub HasFlags : CheckFlags → List Row → Type 0
HasFlags flags rows = (flags.why ≡ is_set (codes "why") rows) × (flags.exit_code ≡ is_set (codes "exit-code") rows)

-- the task has the words and the flags of its subcommand
abbrev pub HasArguments : Task → List Row → Type 0
HasArguments (Run file flags at) rows =
    (first_of (codes "FILE") rows ≡ Some file.now)
    × (flags.tree ≡ is_set (codes "tree") rows)
    × (flags.trace ≡ is_set (codes "trace") rows)
    × (flags.why ≡ is_set (codes "why") rows)
    × (flags.explain ≡ is_set (codes "explain") rows)
    × (flags.calls ≡ is_set (codes "calls") rows)
    × (option_map (λ line. line.now) at ≡ first_of (codes "LINE") rows)
HasArguments (Try file calls at) rows =
    (first_of (codes "FILE") rows ≡ Some file.now)
    × (all_of (codes "CALL") rows ≡ Some (map (λ call. call.now) calls.items))
    × (option_map (λ line. line.now) at ≡ first_of (codes "LINE") rows)
HasArguments (Shell file) rows = option_map (λ name. name.now) file ≡ first_of (codes "FILE") rows
HasArguments (Raw file explain) rows =
    (first_of (codes "FILE") rows ≡ Some file.now)
    × (explain ≡ is_set (codes "explain") rows)
HasArguments (Check job file flags at) rows =
    (is_set (codes "all") rows ≡ false)
    × (first_of (codes "JOB") rows ≡ Some job.now)
    × (first_of (codes "FILE") rows ≡ Some file.now)
    × HasFlags flags rows
    × (option_map (λ line. line.now) at ≡ first_of (codes "LINE") rows)
HasArguments (CheckAll file flags at) rows =
    (is_set (codes "all") rows ≡ true)
    × (first_of (codes "JOB") rows ≡ Some file.now)
    × (first_of (codes "FILE") rows ≡ None)
    × HasFlags flags rows
    × (option_map (λ line. line.now) at ≡ first_of (codes "LINE") rows)
HasArguments (Access file at kind) rows =
    (first_of (codes "FILE") rows ≡ Some file.now)
    × (option_map (λ line. line.now) at ≡ first_of (codes "LINE") rows)
    × (access_kind (is_set (codes "users") rows) (is_set (codes "ever") rows) ≡ kind)
HasArguments (Diff old new at flags) rows =
    (first_of (codes "OLD") rows ≡ Some old.now)
    × (first_of (codes "NEW") rows ≡ Some new.now)
    × (option_map (λ line. line.now) at ≡ first_of (codes "LINE") rows)
    × (flags.users ≡ is_set (codes "users") rows)
    × (flags.more ≡ is_set (codes "more") rows)
HasArguments (Trust path file at why) rows =
    (first_of (codes "PATH") rows ≡ Some path.now)
    × (first_of (codes "FILE") rows ≡ Some file.now)
    × (option_map (λ line. line.now) at ≡ first_of (codes "LINE") rows)
    × (why ≡ is_set (codes "why") rows)
HasArguments (Leak path file at) rows =
    (first_of (codes "PATH") rows ≡ Some path.now)
    × (first_of (codes "FILE") rows ≡ Some file.now)
    × (option_map (λ line. line.now) at ≡ first_of (codes "LINE") rows)
HasArguments (Flows file at) rows =
    (first_of (codes "FILE") rows ≡ Some file.now)
    × (option_map (λ line. line.now) at ≡ first_of (codes "LINE") rows)
HasArguments (Attack job file flags) rows =
    (first_of (codes "JOB") rows ≡ Some job.now)
    × (first_of (codes "FILE") rows ≡ Some file.now)
    × (flags.trace ≡ is_set (codes "trace") rows)
    × (flags.follow ≡ is_set (codes "follow") rows)
HasArguments (Lint files kind exit_code) rows =
    (all_of (codes "FILE") rows ≡ Some (map (λ file. file.now) files.items))
    × (lint_kind (is_set (codes "raw") rows) (is_set (codes "attack") rows) (is_set (codes "policy") rows) ≡ Some kind)
    × (exit_code ≡ is_set (codes "exit-code") rows)
HasArguments (Report file at page) rows =
    (first_of (codes "FILE") rows ≡ Some file.now)
    × (option_map (λ line. line.now) at ≡ first_of (codes "LINE") rows)
    × (option_map (λ name. name.now) page ≡ first_of (codes "PAGE") rows)
HasArguments (Test files strict) rows =
    (all_of (codes "FILE") rows ≡ Some (map (λ file. file.now) files.items))
    × (strict ≡ is_set (codes "strict") rows)

-- this is the task of the subcommand that was matched, with its words and its flags
abbrev pub IsTaskOf : Task → Option (Text × List Row) → Type 0
IsTaskOf task matched = (rows : List Row) × (matched ≡ Some (subcommand task, rows)) × HasArguments task rows

-- this is a task of `check` with its words and its flags
abbrev pub IsCheckOf : Task → List Row → Type 0
IsCheckOf task rows = (subcommand task ≡ codes "check") × HasArguments task rows

-- the output has the shape that the flags of the subcommand ask for, and the plain one where there is none
abbrev pub IsShapeOf : Shape → Option (Text × List Row) → Type 0
IsShapeOf shape None = (shape.json ≡ false) × (option_map (λ color. color.now) shape.color ≡ None)
IsShapeOf shape (Some matched) =
    (shape.json ≡ is_set (codes "json") matched.1)
    × (option_map (λ color. color.now) shape.color ≡ first_of (codes "WHEN") matched.1)

-- this is the task of the subcommand that was matched, and the shape of its output
abbrev pub IsRequestOf : Request → Option (Text × List Row) → Type 0
IsRequestOf request matched = IsTaskOf request.task matched × IsShapeOf request.shape matched
