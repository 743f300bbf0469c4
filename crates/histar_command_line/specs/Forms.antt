-- The rules of the command line for `clap`, by the forms of the subcommands.
use Rattle.std.specs.Prelude.{ℕ, true, false, List, [], ◌∷◌, Some, codes, fold, map}
use Rattle.clap.specs.Lexer.{usize_max}
use Rattle.clap.specs.Words.{App, Rule, Shape, Text, new_app, new_rule, with_rule, with_subcommand}
use Rattle.clap.specs.declared.builder.action.ArgAction.TheVariants.{Set, SetTrue}
use Rattle.histar_command_line.specs.declared.forms.Argument.{Argument}
use Rattle.histar_command_line.specs.declared.forms.Argument.TheVariants.{Flag, Word, Unless, Optional, Words, Valued, Lettered}
use Rattle.histar_command_line.specs.declared.forms.Form.{Form}

-- the rule of a flag of this name
abbrev pub flag_rule : Text → Rule
flag_rule name = record (new_rule name) { long = Some name; action = Some SetTrue }

-- the rule of a required word of this name
abbrev pub word_rule : Text → Rule
word_rule name = record (new_rule name) { required = true }

-- the rule of a word of this name that another rule requires
abbrev pub unless_rule : Text → Rule
unless_rule name = record (new_rule name) { is_free = false }

-- the rule of a word of this name that may be there
abbrev pub optional_rule : Text → Rule
optional_rule name = new_rule name

-- the rule of one or more words of this name
abbrev pub words_rule : Text → Rule
words_rule name = record (new_rule name) { required = true; range = Some (record { start_inclusive = 1; end_inclusive = usize_max }) }

-- the rule of a word of this name after a flag
abbrev pub option_rule : Text → Text → Rule
option_rule name flag = record (new_rule name) { long = Some flag; action = Some Set }

-- the rule of a word of this name after a flag that has a letter too
abbrev pub lettered_rule : Text → Text → ℕ → Rule
lettered_rule name flag letter = record (option_rule name flag) { short = Some letter }

-- the rule of an argument
abbrev pub argument_rule : Argument → Rule
argument_rule (Flag name help) = flag_rule name.now
argument_rule (Word name help) = word_rule name.now
argument_rule (Unless name flag help) = unless_rule name.now
argument_rule (Optional name help) = optional_rule name.now
argument_rule (Words name help) = words_rule name.now
argument_rule (Valued name flag help) = option_rule name.now flag.now
argument_rule (Lettered name flag letter help) = lettered_rule name.now flag.now letter

-- the rules of a subcommand
abbrev pub form_app : Form → App
form_app form = fold with_rule (new_app form.name.now) (map argument_rule form.arguments.now)

-- the shape of a subcommand
abbrev pub form_shape : Form → Shape
form_shape form = (form_app form).top

-- the program, which has a version, and shows its help if no word is given
abbrev pub named_app : App
named_app = let app = new_app (codes "histar") in record app { top = record app.top { has_version = true; arg_required_else_help = true } }

-- a subcommand of this name, with these arguments
abbrev pub subcommand_app : Text → List Rule → App
subcommand_app name arguments = fold with_rule (new_app name) arguments

-- `run [--tree] [--trace] [--why] [--explain] [--calls] [--json] [--color WHEN] [--at LINE] FILE`
abbrev pub run_app : App
run_app = subcommand_app (codes "run")
    (flag_rule (codes "tree") ∷ flag_rule (codes "trace") ∷ flag_rule (codes "why") ∷ flag_rule (codes "explain")
    ∷ flag_rule (codes "calls") ∷ flag_rule (codes "json") ∷ option_rule (codes "WHEN") (codes "color")
    ∷ option_rule (codes "LINE") (codes "at") ∷ word_rule (codes "FILE") ∷ [])

-- `try [--color WHEN] [--at LINE] FILE CALL..`
abbrev pub try_app : App
try_app = subcommand_app (codes "try")
    (option_rule (codes "WHEN") (codes "color") ∷ option_rule (codes "LINE") (codes "at") ∷ word_rule (codes "FILE")
    ∷ words_rule (codes "CALL") ∷ [])

-- `shell [FILE]`
abbrev pub shell_app : App
shell_app = subcommand_app (codes "shell") (optional_rule (codes "FILE") ∷ [])

-- `raw [--explain] FILE`
abbrev pub raw_app : App
raw_app = subcommand_app (codes "raw") (flag_rule (codes "explain") ∷ word_rule (codes "FILE") ∷ [])

-- `check [--why] [--all] [--exit-code] [--json] [--at LINE] JOB [FILE]`
abbrev pub check_app : App
check_app = subcommand_app (codes "check")
    (flag_rule (codes "why") ∷ flag_rule (codes "all") ∷ flag_rule (codes "exit-code") ∷ flag_rule (codes "json")
    ∷ option_rule (codes "LINE") (codes "at") ∷ word_rule (codes "JOB") ∷ unless_rule (codes "FILE") ∷ [])

-- `access [--users] [--ever] [--json] [--at LINE] FILE`
abbrev pub access_app : App
access_app = subcommand_app (codes "access")
    (flag_rule (codes "users") ∷ flag_rule (codes "ever") ∷ flag_rule (codes "json") ∷ option_rule (codes "LINE") (codes "at")
    ∷ word_rule (codes "FILE") ∷ [])

-- `diff [--users] [--more] [--json] [--at LINE] OLD NEW`
abbrev pub diff_app : App
diff_app = subcommand_app (codes "diff")
    (flag_rule (codes "users") ∷ flag_rule (codes "more") ∷ flag_rule (codes "json") ∷ option_rule (codes "LINE") (codes "at")
    ∷ word_rule (codes "OLD") ∷ word_rule (codes "NEW") ∷ [])

-- `trust [--why] [--json] [--at LINE] PATH FILE`
abbrev pub trust_app : App
trust_app = subcommand_app (codes "trust")
    (flag_rule (codes "why") ∷ flag_rule (codes "json") ∷ option_rule (codes "LINE") (codes "at") ∷ word_rule (codes "PATH")
    ∷ word_rule (codes "FILE") ∷ [])

-- `leak [--at LINE] PATH FILE`
abbrev pub leak_app : App
leak_app = subcommand_app (codes "leak") (option_rule (codes "LINE") (codes "at") ∷ word_rule (codes "PATH") ∷ word_rule (codes "FILE") ∷ [])

-- `flows [--json] [--at LINE] FILE`
abbrev pub flows_app : App
flows_app = subcommand_app (codes "flows")
    (flag_rule (codes "json") ∷ option_rule (codes "LINE") (codes "at") ∷ word_rule (codes "FILE") ∷ [])

-- `attack [--trace] [--follow] JOB FILE`
abbrev pub attack_app : App
attack_app = subcommand_app (codes "attack")
    (flag_rule (codes "trace") ∷ flag_rule (codes "follow") ∷ word_rule (codes "JOB") ∷ word_rule (codes "FILE") ∷ [])

-- `lint [--raw] [--attack] [--policy] [--exit-code] [--json] FILE..`
abbrev pub lint_app : App
lint_app = subcommand_app (codes "lint")
    (flag_rule (codes "raw") ∷ flag_rule (codes "attack") ∷ flag_rule (codes "policy") ∷ flag_rule (codes "exit-code")
    ∷ flag_rule (codes "json") ∷ words_rule (codes "FILE") ∷ [])

-- `test [--strict] [--json] FILE..`
abbrev pub test_app : App
test_app = subcommand_app (codes "test") (flag_rule (codes "strict") ∷ flag_rule (codes "json") ∷ words_rule (codes "FILE") ∷ [])

-- `report [-o|--output PAGE] [--at LINE] FILE`
abbrev pub report_app : App
report_app = subcommand_app (codes "report")
    (lettered_rule (codes "PAGE") (codes "output") 111 ∷ option_rule (codes "LINE") (codes "at") ∷ word_rule (codes "FILE") ∷ [])

-- the program with its subcommands
abbrev pub histar_app : App
histar_app = fold with_subcommand named_app
    (run_app.top ∷ try_app.top ∷ shell_app.top ∷ raw_app.top ∷ check_app.top ∷ access_app.top ∷ diff_app.top ∷ trust_app.top
    ∷ leak_app.top ∷ flows_app.top
    ∷ attack_app.top ∷ lint_app.top ∷ report_app.top ∷ test_app.top ∷ [])
