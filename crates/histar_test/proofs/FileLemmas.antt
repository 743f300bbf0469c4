-- Files one after another: their tests, and the text that is written of them.
use Rattle.std.proofs.Common.{◌≡◌, ℕ, ◌+◌, ◌<◌, Bool, true, false, List, [], ◌∷◌, ◌++◌, length, take, drop, get_or, Option, Result, Ok, Err, ◌&&◌}
use Rattle.std.proofs.Common.{refl, sym, ap, ap₂, ◌∙◌, subst, append-nil, append_assoc, arith, inr, add-zero, length-append, take-append-drop}
use Rattle.std.specs.Prelude.{All, IfErr, IfOk, IsOk, OnErr, OnOk, is_ok, map}
use Rattle.std.specs.List.{AllZip, flat_map, list_all}
use Rattle.std.specs.Io.KnownBytes.{Appends}
use Rattle.std.proofs.KnownBytes.{Appends-nil, Appends-trans}
use Rattle.std.proofs.lemmas.List.{drop_more, map-append, take_more}
use Rattle.std.proofs.lemmas.List.Elements.{All-head, All-more, All-tail}
use Rattle.std.proofs.lemmas.List.Folds.{list_all-append}
use Rattle.histar_io.specs.Writing.{AppendsFront}
use Rattle.histar_flat.specs.Accounts.{Accounts}
use Rattle.histar_script.specs.declared.fault.Fault.{Fault}
use Rattle.histar_script.specs.declared.fault.Fault.TheVariants.{BadScript, TooLong, OutOfMemory, ReadFailed, WriteFailed}
use Rattle.histar_script.specs.Outcome.{Gives}
use Rattle.histar_script.specs.Runs.{IsOutputFault, LeavesSink}
use Rattle.histar_shell.proofs.AnswerLemmas.{front_after}
use Rattle.histar_shell.proofs.RunLemmas.{sink_called}
use Rattle.histar_test.specs.declared.running.Tally.{Tally}
use Rattle.histar_test.specs.declared.session.TestFile.{TestFile}
use Rattle.histar_test.specs.declared.steps.Step.{Step}
use Rattle.histar_test.specs.Checks.{checks_of, checks_text, is_met}
use Rattle.histar_test.specs.Running.{IsMemory, tally_with}
use Rattle.histar_test.specs.Session.{AreTests, Checked, CountsFiles, IsChecked, IsTest, TestsFiles, are_met, check_count}
use Rattle.histar_test.specs.Session.{checked_of, checks_read, files_text, report_text}
use Rattle.histar_test.specs.Steps.{Test, expectation_count, test_of}
use Rattle.histar_test.proofs.StepLaws.{test_counted}

-- ---- the files that are read

-- the test that was read
test_in : (read : Result Test Fault) → IsOk read → (test : Test) × (read ≡ Ok test)
test_in (Ok test) is = (test, refl)
test_in (Err fault) is = absurd cc

-- a test that was read is the test of the text
pub read_as_test : (result read : Result Test Fault) → Gives result read → IfOk result (λ test. read ≡ Ok test)
read_as_test (Ok test) read gives = gives
read_as_test (Err fault) read gives = tt

-- only memory can be missing where a test is read
pub read_fails : (result read : Result Test Fault) → IsOk read → Gives result read → IfErr result IsMemory
read_fails (Ok test) read is gives = tt
read_fails (Err (BadScript n)) read is gives = absurd cc
read_fails (Err TooLong) read is gives = absurd cc
read_fails (Err OutOfMemory) read is gives = refl
read_fails (Err ReadFailed) read is gives = absurd gives
read_fails (Err WriteFailed) read is gives = absurd gives

-- files that are tests have their checks
pub each_checked : (strict : Bool) (files : List TestFile) → All IsTest files → AllZip (IsChecked strict) files (map (checked_of strict) files)
each_checked strict [] each = tt
each_checked strict (file ∷ files) each =
    let read = test_in (test_of file.text.items) (All-head IsTest file files each) in (
      (
        read.0,
        read.1,
        ap (λ (r : Result Test Fault). let checked : Checked = record { name = file.name.items; checks = checks_read strict r } in checked) read.1,
      ),
      each_checked strict files (All-tail IsTest file files each),
    )

-- the checks of what was read are those of the accounts and the steps of the test
pub parts_checked : (strict : Bool) {read : Result Test Fault} {test : Test} {accounts : Accounts} {steps : List Step} → read ≡ Ok test
    → accounts ≡ test.accounts → steps ≡ test.steps
    → checks_of strict (record { accounts = accounts; steps = steps }) ≡ checks_read strict read
parts_checked strict is same_accounts same_steps =
    ap₂ (λ (a : Accounts) (s : List Step). checks_of strict (record { accounts = a; steps = s })) same_accounts same_steps
    ∙ sym (ap (checks_read strict) is)

-- the files up to a place are those before it and the one there
pub front_more : (files : List TestFile) (i : ℕ) (file : TestFile) → i < length files → file ≡ get_or files i file
    → take (i + 1) files ≡ take i files ++ file ∷ []
front_more files i file lt is = take_more files i file lt ∙ ap (λ (x : TestFile). take i files ++ x ∷ []) (sym is)

-- the files are those before a place, the one there and those after it
pub file_at : (files : List TestFile) (i : ℕ) (file : TestFile) → i < length files → file ≡ get_or files i file
    → files ≡ take i files ++ file ∷ drop (i + 1) files
file_at files i file lt is =
    sym (take-append-drop i files)
    ∙ ap (λ (l : List TestFile). take i files ++ l) (drop_more files i file lt ∙ ap (λ (x : TestFile). x ∷ drop (i + 1) files) (sym is))

-- a file that is no test, after files that are tests, is the first one
pub first_fault : (fault : Fault) (files : List TestFile) (i : ℕ) (file : TestFile) → files ≡ take i files ++ file ∷ drop (i + 1) files
    → All IsTest (take i files) → Gives {A = Test} (Err fault) (test_of file.text.items) → CountsFiles files (Err fault)
first_fault (BadScript n) files i file parts each bad = record {
  before = take i files;
  file = file;
  after = drop (i + 1) files;
  parts = parts;
  right = map (checked_of false) (take i files);
  each = each_checked false (take i files) each;
  bad = bad;
}
first_fault TooLong files i file parts each bad = record {
  before = take i files;
  file = file;
  after = drop (i + 1) files;
  parts = parts;
  right = map (checked_of false) (take i files);
  each = each_checked false (take i files) each;
  bad = bad;
}
first_fault OutOfMemory files i file parts each bad = tt
first_fault ReadFailed files i file parts each bad = absurd bad
first_fault WriteFailed files i file parts each bad = absurd bad

-- ---- what is written

-- the checks of files are as many as those of the first and those of the others
count_first : (file : Checked) (files : List Checked) → check_count (file ∷ files) ≡ length file.checks + check_count files
count_first file files = length-append file.checks (flat_map (λ (c : Checked). c.checks) files)

-- the lines of some files, and of one more
files_text-push : (k : ℕ) (files : List Checked) (file : Checked)
    → files_text k (files ++ file ∷ []) ≡ files_text k files ++ checks_text file.name (k + check_count files) file.checks
files_text-push k [] file = append-nil _ ∙ ap (λ (n : ℕ). checks_text file.name n file.checks) (sym (add-zero k))
files_text-push k (first ∷ files) file =
    let own = checks_text first.name k first.checks in
    let on : (k + length first.checks) + check_count files ≡ k + check_count (first ∷ files) = omega (arith, count_first first files) in
    ap (λ (t : List ℕ). own ++ t)
    (files_text-push (k + length first.checks) files file
    ∙ ap (λ (n : ℕ). files_text (k + length first.checks) files ++ checks_text file.name n file.checks) on)
    ∙ sym (append_assoc own (files_text (k + length first.checks) files) (checks_text file.name (k + check_count (first ∷ files)) file.checks))

-- the lines of some files, and of those after them
files_text-append : (k : ℕ) (files more : List Checked) → files_text k (files ++ more) ≡ files_text k files ++ files_text (k + check_count files) more
files_text-append k [] more = ap (λ (n : ℕ). files_text n more) (sym (add-zero k))
files_text-append k (first ∷ files) more =
    let own = checks_text first.name k first.checks in
    let on : (k + length first.checks) + check_count files ≡ k + check_count (first ∷ files) = omega (arith, count_first first files) in
    ap (λ (t : List ℕ). own ++ t)
    (files_text-append (k + length first.checks) files more
    ∙ ap (λ (n : ℕ). files_text (k + length first.checks) files ++ files_text n more) on)
    ∙ sym (append_assoc own (files_text (k + length first.checks) files) (files_text (k + check_count (first ∷ files)) more))

-- the number of checks of some files, and of one more
count_push : (files : List Checked) (file : Checked) → check_count (files ++ file ∷ []) ≡ check_count files + length file.checks
count_push [] file = omega (arith, count_first file [])
count_push (first ∷ files) file = omega (arith, count_first first (files ++ file ∷ []), count_first first files, count_push files file)

-- all are met in some files and one more
met_push : (files : List Checked) (file : Checked) → are_met (files ++ file ∷ []) ≡ (are_met files && list_all is_met file.checks)
met_push files file =
    list_all-append (λ (c : Checked). list_all is_met c.checks) files (file ∷ [])
    ∙ ap (λ (b : Bool). are_met files && b) (by (list_all is_met file.checks))
  where
    by : (b : Bool) → (b && true) ≡ b
    by true = refl
    by false = refl

-- one more file is a test, and its checks are counted
pub more_tests : (files : List TestFile) (i : ℕ) (file : TestFile) (test : Test) (total : ℕ)
    → (i < length files) × (file ≡ get_or files i file) → AreTests (take i files) total → test_of file.text.items ≡ Ok test
    → AreTests (take (i + 1) files) (total + expectation_count test.steps)
more_tests files i file test total here are is =
    let front = map (checked_of false) (take i files) in
    let more : map (checked_of false) (take (i + 1) files) ≡ front ++ checked_of false file ∷ [] =
    ap (map (checked_of false)) (front_more files i file here.0 here.1) ∙ map-append (checked_of false) (take i files) (file ∷ []) in
    let own : length (checked_of false file).checks ≡ expectation_count test.steps =
    ap (λ (r : Result Test Fault). length (checks_read false r)) is ∙ test_counted file.text.items test is in
    record {
      each = All-more IsTest files i file here.0 are.each (subst IsTest here.1 (ap is_ok is));
      count = ap₂ (λ (m n : ℕ). m + n) are.count (sym own) ∙ sym (ap check_count more ∙ count_push front (checked_of false file));
    }

-- These files were run: the lines of their checks were written, and they were counted.
pub record AreRun (strict : Bool) (files : List TestFile) (tally : Tally) (before after : Option (List ℕ)) : Type 0 where
  pub written : Appends before after (files_text 1 (map (checked_of strict) files))
  pub count : tally.count ≡ check_count (map (checked_of strict) files)
  pub met : tally.are_met ≡ are_met (map (checked_of strict) files)

-- this holds before the first file
pub none_run : (strict : Bool) (w : Option (List ℕ)) → AreRun strict [] (record { count = 0; are_met = true }) w w
none_run strict w = record { written = Appends-nil w; count = refl; met = refl }

-- one more file has been run
pub more_run : {strict : Bool} {files : List TestFile} {tally : Tally} {a b : Option (List ℕ)} → (one : TestFile) (after : Tally)
    (c : Option (List ℕ))
    → AreRun strict files tally a b → Appends b c (checks_text one.name.items (tally.count + 1) (checked_of strict one).checks)
    → after ≡ tally_with tally (checked_of strict one).checks → AreRun strict (files ++ one ∷ []) after a c
more_run {strict = strict} {files = files} {tally = tally} {a = a} {b = b} one after c run more is =
    let front = map (checked_of strict) files in
    let file = checked_of strict one in
    let all : map (checked_of strict) (files ++ one ∷ []) ≡ front ++ file ∷ [] = map-append (checked_of strict) files (one ∷ []) in
    let k : 1 + check_count front ≡ tally.count + 1 = omega (arith, run.count) in
    let text : files_text 1 (map (checked_of strict) (files ++ one ∷ []))
    ≡ files_text 1 front ++ checks_text file.name (tally.count + 1) file.checks =
    ap (files_text 1) all ∙ files_text-push 1 front file
    ∙ ap (λ (n : ℕ). files_text 1 front ++ checks_text file.name n file.checks) k in
    record {
      written = subst (Appends a c) (sym text)
          (Appends-trans a b c (files_text 1 front) (checks_text file.name (tally.count + 1) file.checks) run.written more);
      count = ap (λ (t : Tally). t.count) is ∙ ap (λ (n : ℕ). n + length file.checks) run.count
          ∙ sym (ap check_count all ∙ count_push front file);
      met = ap (λ (t : Tally). t.are_met) is ∙ ap (λ (m : Bool). m && list_all is_met file.checks) run.met
          ∙ sym (ap are_met all ∙ met_push front file);
    }

-- one more file has been begun
pub begun_run : {strict : Bool} {files : List TestFile} {tally : Tally} {a b : Option (List ℕ)} → (all later : List TestFile) (one : TestFile)
    (c : Option (List ℕ)) → all ≡ files ++ one ∷ later → AreRun strict files tally a b
    → AppendsFront b c (checks_text one.name.items (tally.count + 1) (checked_of strict one).checks)
    → AppendsFront a c (files_text 1 (map (checked_of strict) all))
begun_run {strict = strict} {files = files} {tally = tally} {a = a} {b = b} all later one c parts run begun =
    let front = map (checked_of strict) files in
    let file = checked_of strict one in
    let rest = map (checked_of strict) later in
    let own = checks_text file.name (tally.count + 1) file.checks in
    let k : 1 + check_count front ≡ tally.count + 1 = omega (arith, run.count) in
    let more = files_text ((tally.count + 1) + length file.checks) rest in
    let text : files_text 1 (map (checked_of strict) all) ≡ files_text 1 front ++ (own ++ more) =
    ap (λ (l : List TestFile). files_text 1 (map (checked_of strict) l)) parts
    ∙ ap (files_text 1) (map-append (checked_of strict) files (one ∷ later)) ∙ files_text-append 1 front (file ∷ rest)
    ∙ ap (λ (n : ℕ). files_text 1 front ++ files_text n (file ∷ rest)) k in
    subst (AppendsFront a c) (sym text) (front_after a b c (files_text 1 front) own more run.written begun)

-- ---- the whole report

-- a beginning of the first text is a beginning of both
pub front_first : (a b : Option (List ℕ)) (first second : List ℕ) → AppendsFront a b first → AppendsFront a b (first ++ second)
front_first a b first second begun = (
  begun.0 ++ second,
  record {
    front = begun.1.front;
    parts = ap (λ (t : List ℕ). t ++ second) begun.1.parts ∙ append_assoc begun.1.front begun.0 second;
    appended = begun.1.appended;
  },
)

-- the first text was written, and then a beginning of the second
pub front_second : (a b c : Option (List ℕ)) (first second : List ℕ) → Appends a b first → AppendsFront b c second
    → AppendsFront a c (first ++ second)
front_second a b c first second one two = (
  two.0,
  record {
    front = first ++ two.1.front;
    parts = ap (λ (t : List ℕ). first ++ t) two.1.parts ∙ sym (append_assoc first two.1.front two.0);
    appended = Appends-trans a b c first two.1.front one two.1.appended;
  },
)

-- ---- the result

-- The files were reported: their text was written, or a beginning of it, and the result is whether all are met.
pub record AreReported (strict : Bool) (files : List TestFile) (old new : Option (List ℕ)) (result : Result Bool Fault) : Type 0 where
  pub written : OnOk result (Appends old new (report_text strict (map (checked_of strict) files)))
  pub met : IfOk result (λ met. met ≡ are_met (map (checked_of strict) files))
  pub begun : OnErr result (AppendsFront old new (report_text strict (map (checked_of strict) files)))
  pub faults : IfErr result IsOutputFault

-- all files are tests, and were run
pub files_tested : {old new : Option (List ℕ)} → (strict : Bool) (result : Result Bool Fault) (files : List TestFile) → All IsTest files
    → AreReported strict files old new result → TestsFiles strict files old new result
files_tested strict (Ok met) files each are = record {
  checked = map (checked_of strict) files;
  each = each_checked strict files each;
  appended = are.written;
  holds = are.met;
}
files_tested strict (Err (BadScript n)) files each are = absurd are.faults
files_tested strict (Err TooLong) files each are = absurd are.faults
files_tested strict (Err OutOfMemory) files each are = inr (record {
  checked = map (checked_of strict) files;
  each = each_checked strict files each;
  appended = are.begun;
  holds = tt;
})
files_tested strict (Err ReadFailed) files each are = absurd are.faults
files_tested strict (Err WriteFailed) files each are = record {
  checked = map (checked_of strict) files;
  each = each_checked strict files each;
  appended = are.begun;
  holds = tt;
}

-- the sink after the tests were run is as the contract says
pub sink_after : {W : Type 0} (old new : W) (result : Result Bool Fault) → IfErr result IsOutputFault → IfErr result (LeavesSink old new)
sink_after old new (Ok met) fault = tt
sink_after old new (Err f) fault = sink_called old new f fault
