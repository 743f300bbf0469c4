-- Testing files: their checks, numbered through all of them.
use Rattle.std.specs.Prelude.{◌≡◌, ℕ, ◌+◌, ◌⊎◌, Bool, true, false, List, [], ◌∷◌, ◌++◌, length, codes, decimal, Option, Result, Ok, Err}
use Rattle.std.specs.Prelude.{All, IsOk, map}
use Rattle.std.specs.List.{AllZip, flat_map, list_all}
use Rattle.std.specs.Io.KnownBytes.{Appends, Keeps}
use Rattle.histar_io.specs.Writing.{AppendsFront}
use Rattle.histar_script.specs.declared.fault.Fault.{Fault}
use Rattle.histar_script.specs.declared.fault.Fault.TheVariants.{BadScript, TooLong, OutOfMemory, ReadFailed, WriteFailed}
use Rattle.histar_test.specs.declared.checks.Check.{Check}
use Rattle.histar_test.specs.declared.running.Tally.{Tally}
use Rattle.histar_test.specs.declared.session.TestFile.{TestFile}
use Rattle.histar_test.specs.Steps.{Test, test_of}
use Rattle.histar_test.specs.Checks.{is_met, checks_of, checks_text}

-- a file with its name, and the checks of its test
pub record Checked : Type 0 where
  pub name : List ℕ
  pub checks : List Check

-- the lines of files, of which the first check has the number k
abbrev pub files_text : ℕ → List Checked → List ℕ
files_text k [] = []
files_text k (file ∷ files) = checks_text file.name k file.checks ++ files_text (k + length file.checks) files

-- the number of checks of files
abbrev pub check_count : List Checked → ℕ
check_count files = length (flat_map (λ file. file.checks) files)

-- the line with the number of checks
abbrev pub plan_text : ℕ → List ℕ
plan_text count = codes "1.." ++ decimal count ++ codes "\n"

-- the text that is written of files: a line or two for each check, behind the number of checks, or before it in a strict test
abbrev pub report_text : Bool → List Checked → List ℕ
report_text false files = plan_text (check_count files) ++ files_text 1 files
report_text true files = files_text 1 files ++ plan_text (check_count files)

-- all expectations are met
abbrev pub are_met : List Checked → Bool
are_met files = list_all (λ file. list_all is_met file.checks) files

-- the file is a script that is a test, with these checks
abbrev pub IsChecked : Bool → TestFile → Checked → Type 0
IsChecked strict file checked =
    (test : Test) × (test_of file.text.items ≡ Ok test) × (checked ≡ record { name = file.name.items; checks = checks_of strict test })

-- Each file is a test, and their text was written as far as the predicate says.
pub record Reports (written : List ℕ → Type 0) (strict : Bool) (files : List TestFile) (is : List Checked → Type 0) : Type 0 where
  pub checked : List Checked
  pub each : AllZip (IsChecked strict) files checked
  pub appended : written (report_text strict checked)
  pub holds : is checked

-- the first file that is no test has this fault
pub record IsFirstFault (files : List TestFile) (fault : Fault) : Type 0 where
  pub before : List TestFile
  pub file : TestFile
  pub after : List TestFile
  pub parts : files ≡ before ++ file ∷ after
  pub right : List Checked
  pub each : AllZip (IsChecked false) before right
  pub bad : test_of file.text.items ≡ Err fault

-- The checks of all files were written, and the result is whether all are met; or the fault of the first bad file is returned, and nothing
-- was written. At a failed write a beginning was written, and if memory runs out that or nothing.
abbrev pub TestsFiles : Bool → List TestFile → Option (List ℕ) → Option (List ℕ) → Result Bool Fault → Type 0
TestsFiles strict files old new (Ok met) = Reports (Appends old new) strict files (λ checked. met ≡ are_met checked)
TestsFiles strict files old new (Err (BadScript n)) = IsFirstFault files (BadScript n) × Keeps old new
TestsFiles strict files old new (Err TooLong) = IsFirstFault files TooLong × Keeps old new
TestsFiles strict files old new (Err OutOfMemory) = Keeps old new ⊎ Reports (AppendsFront old new) strict files (λ checked. Unit {0})
TestsFiles strict files old new (Err WriteFailed) = Reports (AppendsFront old new) strict files (λ checked. Unit {0})
TestsFiles strict files old new (Err ReadFailed) = ⊥

-- ---- the parts

-- the checks of what was read: those of a test, and else none
abbrev pub checks_read : Bool → Result Test Fault → List Check
checks_read strict (Ok test) = checks_of strict test
checks_read strict (Err fault) = []

-- a file with its name, and the checks of the test in it
abbrev pub checked_of : Bool → TestFile → Checked
checked_of strict file = record { name = file.name.items; checks = checks_read strict (test_of file.text.items) }

-- the file is a test
abbrev pub IsTest : TestFile → Type 0
IsTest file = IsOk (test_of file.text.items)

-- The files are tests, and have so many checks.
pub record AreTests (files : List TestFile) (total : ℕ) : Type 0 where
  pub each : All IsTest files
  pub count : total ≡ check_count (map (checked_of false) files)

-- these are counted: all checks of files, and whether all are met
pub record CountsAll (tally : Tally) (files : List Checked) : Type 0 where
  pub count : tally.count ≡ check_count files
  pub met : tally.are_met ≡ are_met files

-- the files are tests, and so many checks were counted, or the first that is no test has this fault, unless memory ran out
abbrev pub CountsFiles : List TestFile → Result ℕ Fault → Type 0
CountsFiles files (Ok total) = AreTests files total
CountsFiles files (Err (BadScript n)) = IsFirstFault files (BadScript n)
CountsFiles files (Err TooLong) = IsFirstFault files TooLong
CountsFiles files (Err OutOfMemory) = Unit {0}
CountsFiles files (Err ReadFailed) = ⊥
CountsFiles files (Err WriteFailed) = ⊥
