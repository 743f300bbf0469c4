-- The words of the command line that are taken.
use Rattle.std.specs.Prelude.{ℕ, Bool, true, false, ◌==◌, if◌then◌else◌, List, [], ◌∷◌, codes, Option, None, Some, option_map}
use Rattle.std.specs.Str.{bytes_eq}
use Rattle.histar_run.specs.declared.words.Asked.{Asked}

abbrev pub Text : Type 0
Text = List ℕ

-- a word is this flag, which wasn't given yet
abbrev pub is_new_flag : Bool → Text → Text → Bool
is_new_flag true flag word = false
is_new_flag false flag word = bytes_eq word flag

-- a word begins with `-` and goes on
abbrev pub begins_with_dash : Text → Bool
begins_with_dash (first ∷ second ∷ more) = first == 45
begins_with_dash word = false

-- a word is a FILE, of which there was none yet
abbrev pub is_new_file : Option Text → Text → Bool
is_new_file None word = if begins_with_dash word then false else true
is_new_file (Some file) word = false

-- what the words ask for, behind words that gave --tree, --trace and FILE or not: each flag once at most, and FILE once, in any order
abbrev pub asked_behind : Bool → Bool → Option Text → List Text → Option (Text × Bool × Bool)
asked_behind tree trace file [] = option_map (λ f. (f, tree, trace)) file
asked_behind tree trace file (word ∷ more) =
    if is_new_flag tree (codes "--tree") word then asked_behind true trace file more
    else if is_new_flag trace (codes "--trace") word then asked_behind tree true file more
    else if is_new_file file word then asked_behind tree trace (Some word) more
    else None

-- the file of the run that the words ask for, the program's name first, and whether the tree and the trace are to be printed
abbrev pub asked_by : List Text → Option (Text × Bool × Bool)
asked_by (name ∷ command ∷ words) = if bytes_eq command (codes "run") then asked_behind false false None words else None
asked_by words = None

-- the same as the program has it
abbrev pub asked_text : Asked → Text × Bool × Bool
asked_text asked = (asked.file.now, asked.tree, asked.trace)
