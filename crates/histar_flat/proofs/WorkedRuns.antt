-- Worked scripts run twice, as they are and without the calls of a job: what is printed, the trees at the end, and which outsiders can tell
-- the two runs apart, computed.
use Rattle.std.specs.Prelude.{◌≡◌, ℕ, Bool, true, false, not, ◌||◌, ◌&&◌, cond, List, [], ◌∷◌, ◌++◌, codes, filter, map, refl}
use Rattle.std.specs.List.{list_any}
use Rattle.std.specs.Fmt.{digits}
use Rattle.histar_flat.specs.declared.calls.CallLine.{CallLine}
use Rattle.histar_flat.specs.declared.calls.Mode.TheVariants as modes
use Rattle.histar_flat.specs.declared.calls.UnixCall.{UnixCall}
use Rattle.histar_flat.specs.declared.calls.UnixCall.TheVariants.{Create, Read, Write, Append, List as ListCall, Stat, Rmdir, Rmtree, Rename, Exit}
use Rattle.histar_flat.specs.declared.calls.UnixCall.TheVariants.{Status, Kill, Login, Wrap}
use Rattle.histar_flat.specs.declared.replies.Reply.{Reply}
use Rattle.histar_flat.specs.declared.replies.Reply.TheVariants.{Child}
use Rattle.histar_flat.specs.Words.{Path, ProcName}
use Rattle.histar_base.specs.Paths.{same}
use Rattle.histar_flat.specs.PathOrder.{parent, under_process}
use Rattle.histar_flat.specs.Accounts.{Accounts}
use Rattle.histar_flat.specs.Files.{get, from_list}
use Rattle.histar_flat.specs.Classes.{carries}
use Rattle.histar_flat.specs.FlatState.{Flat, is_some_and, is_dir}
use Rattle.histar_flat.specs.Texts.{reply_text}
use Rattle.histar_flat.specs.Meaning.{RepliedCall, boot, flat_end, meaning}
use Rattle.histar_flat.proofs.WorkedScripts.{line_of, printed, printed_at, tree_after, three_users, with_a_team, tmp_made, tmp_printed}
use Rattle.histar_flat.proofs.WorkedGroups.{logins, logins_printed}

-- the calls without those of a job's processes; the others keep their lines
abbrev without_job : ProcName → List CallLine → List CallLine
without_job job calls = filter (λ (c : CallLine). not (under_process job c.process)) calls

-- a call that starts a job was answered with the name of this job
abbrev is_start_of : ProcName → UnixCall → Reply → Bool
is_start_of job (Wrap q) (Child name) = same job name
is_start_of job _ _ = false

-- an outsider: a process that is not in the job, and isn't the one that started it
abbrev is_outsider : ProcName → ProcName → Bool
is_outsider job process = not (under_process job process) && not (same (parent job) process)

-- the outsiders' calls with their replies
abbrev of_outsiders : ProcName → List RepliedCall → List RepliedCall
of_outsiders job = filter (λ (a : RepliedCall). is_outsider job a.call.process)

-- the lines of two runs of the same calls at which the replies differ
abbrev lines_that_differ : List RepliedCall → List RepliedCall → List ℕ
lines_that_differ [] answers = []
lines_that_differ (a ∷ as') [] = []
lines_that_differ (a ∷ as') (b ∷ bs) =
    cond (same (reply_text a.reply) (reply_text b.reply)) (lines_that_differ as' bs)
    (a.call.line ∷ lines_that_differ as' bs)

-- a directory of the job is at the path
abbrev is_directory_of : ProcName → Flat → Path → Bool
is_directory_of job f q = is_some_and (get f.files q) (λ node. is_dir node && carries job node.class)

-- the path lies below a directory that is the job's in one of two trees
abbrev is_inside : ProcName → Flat → Flat → Path → Bool
is_inside job f g [] = false
is_inside job f g (n ∷ d) = is_directory_of job f d || is_directory_of job g d || is_inside job f g d

-- the paths of two trees at which they differ, but for those inside
abbrev paths_that_differ : ProcName → Flat → Flat → List Path
paths_that_differ job f g =
    filter (λ q. not (is_inside job f g q) && not (same (printed_at f q) (printed_at g q)))
    (map (λ e. e.0) (from_list (f.files.entries ++ g.files.entries)).entries)

-- two runs of a script, with all its calls and without those of a job
record TwoRuns : Type 0 where
  -- in the first run a call started the job
  is_started : Bool
  -- the lines of outsiders at which the replies differ, and the paths at which the trees differ
  lines_apart : List ℕ
  paths_apart : List Path
  -- what is printed of each run
  printed_with : List ℕ
  printed_without : List ℕ
  -- the tree at the end of each
  tree_with : List ℕ
  tree_without : List ℕ

abbrev two_runs : Accounts → ProcName → List CallLine → TwoRuns
two_runs accounts job calls = record {
  is_started = list_any (λ (a : RepliedCall). is_start_of job a.call.call a.reply) (meaning accounts calls);
  lines_apart = lines_that_differ (of_outsiders job (meaning accounts calls)) (of_outsiders job (meaning accounts (without_job job calls)));
  paths_apart = paths_that_differ job (flat_end accounts (boot accounts) calls) (flat_end accounts (boot accounts) (without_job job calls));
  printed_with = printed (meaning accounts calls);
  printed_without = printed (meaning accounts (without_job job calls));
  tree_with = tree_after accounts calls;
  tree_without = tree_after accounts (without_job job calls);
}

-- a job that makes a file, and two processes that list directories after it
abbrev pub calls_around_a_job : List CallLine
calls_around_a_job = tmp_made ++
    line_of 10 (1 ∷ []) (Wrap (codes "j" ∷ codes "tmp" ∷ [])) ∷
    line_of 11 (1 ∷ 1 ∷ []) (Create (codes "out" ∷ codes "j" ∷ codes "tmp" ∷ []) modes.Open) ∷
    line_of 12 (1 ∷ []) (ListCall (codes "j" ∷ codes "tmp" ∷ [])) ∷
    line_of 13 (2 ∷ []) (ListCall (codes "tmp" ∷ [])) ∷ []

-- the process that started the job sees the file, and no outsider notices the job
pub unnoticed_job : two_runs three_users (1 ∷ 1 ∷ []) calls_around_a_job ≡ record {
  is_started = true;
  lines_apart = [];
  paths_apart = [];
  printed_with = tmp_printed ++ codes "10 ok 0.1.1\n11 ok\n12 ok out\n13 ok j/\n";
  printed_without = tmp_printed ++ codes "10 ok 0.1.1\n12 ok\n13 ok j/\n";
  tree_with = codes "/ dir root readable\n/tmp dir - open\n/tmp/j dir alice scratch\n/tmp/j/out file alice scratch = \n";
  tree_without = codes "/ dir root readable\n/tmp dir - open\n/tmp/j dir alice scratch\n";
}
unfolding digits
unnoticed_job = refl

-- a process that a `spawn` started is no job
pub no_job : (two_runs three_users (2 ∷ []) calls_around_a_job).is_started ≡ false
unfolding digits
no_job = refl

-- a job makes a file, and the process that started it tries to remove its directory
abbrev pub calls_with_a_rmdir : List CallLine
calls_with_a_rmdir = tmp_made ++
    line_of 10 (1 ∷ []) (Wrap (codes "j" ∷ codes "tmp" ∷ [])) ∷
    line_of 11 (1 ∷ 1 ∷ []) (Create (codes "out" ∷ codes "j" ∷ codes "tmp" ∷ []) modes.Open) ∷
    line_of 12 (1 ∷ []) (Rmdir (codes "j" ∷ codes "tmp" ∷ [])) ∷
    line_of 13 (2 ∷ []) (ListCall (codes "tmp" ∷ [])) ∷ []

-- the process that started the job can reveal it to others by a `rmdir` of its directory, which is refused if the job has made something
pub rmdir_that_decides_of_a_job : two_runs three_users (1 ∷ 1 ∷ []) calls_with_a_rmdir ≡ record {
  is_started = true;
  lines_apart = 13 ∷ [];
  paths_apart = (codes "j" ∷ codes "tmp" ∷ []) ∷ [];
  printed_with = tmp_printed ++ codes "10 ok 0.1.1\n11 ok\n12 ENOTEMPTY\n13 ok j/\n";
  printed_without = tmp_printed ++ codes "10 ok 0.1.1\n12 ok\n13 ok\n";
  tree_with = codes "/ dir root readable\n/tmp dir - open\n/tmp/j dir alice scratch\n/tmp/j/out file alice scratch = \n";
  tree_without = codes "/ dir root readable\n/tmp dir - open\n";
}
unfolding digits
rmdir_that_decides_of_a_job = refl

-- the same with nothing after it
abbrev pub calls_that_end_in_a_rmdir : List CallLine
calls_that_end_in_a_rmdir = tmp_made ++
    line_of 10 (1 ∷ []) (Wrap (codes "j" ∷ codes "tmp" ∷ [])) ∷
    line_of 11 (1 ∷ 1 ∷ []) (Create (codes "a" ∷ codes "j" ∷ codes "tmp" ∷ []) modes.Open) ∷
    line_of 12 (1 ∷ []) (Rmdir (codes "j" ∷ codes "tmp" ∷ [])) ∷ []

-- without a later line the trees alone differ
pub rmdir_that_the_tree_decides_of : two_runs three_users (1 ∷ 1 ∷ []) calls_that_end_in_a_rmdir ≡ record {
  is_started = true;
  lines_apart = [];
  paths_apart = (codes "j" ∷ codes "tmp" ∷ []) ∷ [];
  printed_with = tmp_printed ++ codes "10 ok 0.1.1\n11 ok\n12 ENOTEMPTY\n";
  printed_without = tmp_printed ++ codes "10 ok 0.1.1\n12 ok\n";
  tree_with = codes "/ dir root readable\n/tmp dir - open\n/tmp/j dir alice scratch\n/tmp/j/a file alice scratch = \n";
  tree_without = codes "/ dir root readable\n/tmp dir - open\n";
}
unfolding digits
rmdir_that_the_tree_decides_of = refl

-- a job makes a file, and the process that started it tries to start a further job at the path of the file
abbrev pub calls_with_a_further_wrap : List CallLine
calls_with_a_further_wrap = tmp_made ++
    line_of 10 (1 ∷ []) (Wrap (codes "j" ∷ codes "tmp" ∷ [])) ∷
    line_of 11 (1 ∷ 1 ∷ []) (Create (codes "out" ∷ codes "j" ∷ codes "tmp" ∷ []) modes.Open) ∷
    line_of 12 (1 ∷ []) (Wrap (codes "out" ∷ codes "j" ∷ codes "tmp" ∷ [])) ∷
    line_of 13 (2 ∷ []) (Status (2 ∷ 1 ∷ [])) ∷ []

-- a further job at a path in the directory of the first one reveals it too: it is started only if that path is free
pub wrap_that_decides_of_a_job : two_runs three_users (1 ∷ 1 ∷ []) calls_with_a_further_wrap ≡ record {
  is_started = true;
  lines_apart = 13 ∷ [];
  paths_apart = [];
  printed_with = tmp_printed ++ codes "10 ok 0.1.1\n11 ok\n12 EEXIST\n13 ESRCH\n";
  printed_without = tmp_printed ++ codes "10 ok 0.1.1\n12 ok 0.1.2\n13 EACCES\n";
  tree_with = codes "/ dir root readable\n/tmp dir - open\n/tmp/j dir alice scratch\n/tmp/j/out file alice scratch = \n";
  tree_without = codes "/ dir root readable\n/tmp dir - open\n/tmp/j dir alice scratch\n/tmp/j/out dir alice scratch\n";
}
unfolding digits
wrap_that_decides_of_a_job = refl

-- a job makes a file and exits, and the process that started it uses the file
abbrev pub calls_on_output : List CallLine
calls_on_output = tmp_made ++
    line_of 10 (1 ∷ []) (Wrap (codes "j" ∷ codes "tmp" ∷ [])) ∷
    line_of 11 (1 ∷ 1 ∷ []) (Create (codes "a" ∷ codes "j" ∷ codes "tmp" ∷ []) modes.Open) ∷
    line_of 12 (1 ∷ 1 ∷ []) (Exit 3) ∷
    line_of 13 (1 ∷ []) (Read (codes "a" ∷ codes "j" ∷ codes "tmp" ∷ [])) ∷
    line_of 14 (1 ∷ []) (Write (codes "a" ∷ codes "j" ∷ codes "tmp" ∷ []) (codes "x")) ∷
    line_of 15 (1 ∷ []) (Rename (codes "a" ∷ codes "j" ∷ codes "tmp" ∷ []) (codes "b")) ∷
    line_of 16 (1 ∷ []) (Status (1 ∷ 1 ∷ [])) ∷
    line_of 17 (1 ∷ []) (Rmtree (codes "j" ∷ codes "tmp" ∷ [])) ∷
    line_of 18 (2 ∷ []) (ListCall (codes "tmp" ∷ [])) ∷
    line_of 19 (1 ∷ []) (Kill (1 ∷ 1 ∷ [])) ∷ []

-- the process that started a job reads, writes and renames what the job made, asks for its status, and removes its directory: the replies
-- to these calls differ, and no outsider notices the job
pub output_used_by_who_started_the_job : two_runs three_users (1 ∷ 1 ∷ []) calls_on_output ≡ record {
  is_started = true;
  lines_apart = [];
  paths_apart = [];
  printed_with = tmp_printed ++ codes "10 ok 0.1.1\n11 ok\n12 ok\n13 = \n14 ok\n15 ok\n16 ok exited 3\n17 ok\n18 ok\n19 ok\n";
  printed_without = tmp_printed ++ codes "10 ok 0.1.1\n13 ENOENT\n14 ENOENT\n15 ENOENT\n16 ok running\n17 ok\n18 ok\n19 ok\n";
  tree_with = codes "/ dir root readable\n/tmp dir - open\n";
  tree_without = codes "/ dir root readable\n/tmp dir - open\n";
}
unfolding digits
output_used_by_who_started_the_job = refl

-- a job that starts a job
abbrev pub calls_of_an_inner_job : List CallLine
calls_of_an_inner_job = tmp_made ++
    line_of 10 (1 ∷ []) (Wrap (codes "j" ∷ codes "tmp" ∷ [])) ∷
    line_of 11 (1 ∷ 1 ∷ []) (Wrap (codes "k" ∷ codes "j" ∷ codes "tmp" ∷ [])) ∷
    line_of 12 (1 ∷ 1 ∷ 1 ∷ []) (Create (codes "o" ∷ codes "k" ∷ codes "j" ∷ codes "tmp" ∷ []) modes.Open) ∷
    line_of 13 (1 ∷ 1 ∷ []) (ListCall (codes "k" ∷ codes "j" ∷ codes "tmp" ∷ [])) ∷
    line_of 14 (1 ∷ []) (ListCall (codes "j" ∷ codes "tmp" ∷ [])) ∷ []

-- a job in a job: the outer one sees what the inner one makes, and the process that started the outer one doesn't notice
pub unnoticed_inner_job : two_runs three_users (1 ∷ 1 ∷ 1 ∷ []) calls_of_an_inner_job ≡ record {
  is_started = true;
  lines_apart = [];
  paths_apart = [];
  printed_with = tmp_printed ++ codes "10 ok 0.1.1\n11 ok 0.1.1.1\n12 ok\n13 ok o\n14 ok k/\n";
  printed_without = tmp_printed ++ codes "10 ok 0.1.1\n11 ok 0.1.1.1\n13 ok\n14 ok k/\n";
  tree_with = codes "/ dir root readable\n/tmp dir - open\n/tmp/j dir alice scratch\n/tmp/j/k dir alice scratch\n/tmp/j/k/o file alice scratch = \n";
  tree_without = codes "/ dir root readable\n/tmp dir - open\n/tmp/j dir alice scratch\n/tmp/j/k dir alice scratch\n";
}
unfolding digits
unnoticed_inner_job = refl

-- a job that starts a job, and tries to take its directory away
abbrev pub calls_with_an_inner_rmdir : List CallLine
calls_with_an_inner_rmdir = tmp_made ++
    line_of 10 (1 ∷ []) (Wrap (codes "j" ∷ codes "tmp" ∷ [])) ∷
    line_of 11 (1 ∷ 1 ∷ []) (Wrap (codes "k" ∷ codes "j" ∷ codes "tmp" ∷ [])) ∷
    line_of 12 (1 ∷ 1 ∷ 1 ∷ []) (Create (codes "o" ∷ codes "k" ∷ codes "j" ∷ codes "tmp" ∷ []) modes.Open) ∷
    line_of 13 (1 ∷ 1 ∷ []) (Rmdir (codes "k" ∷ codes "j" ∷ codes "tmp" ∷ [])) ∷
    line_of 14 (1 ∷ []) (ListCall (codes "j" ∷ codes "tmp" ∷ [])) ∷ []

-- there too a `rmdir` reveals the inner job
pub rmdir_that_decides_of_an_inner_job : two_runs three_users (1 ∷ 1 ∷ 1 ∷ []) calls_with_an_inner_rmdir ≡ record {
  is_started = true;
  lines_apart = 14 ∷ [];
  paths_apart = (codes "k" ∷ codes "j" ∷ codes "tmp" ∷ []) ∷ [];
  printed_with = tmp_printed ++ codes "10 ok 0.1.1\n11 ok 0.1.1.1\n12 ok\n13 ENOTEMPTY\n14 ok k/\n";
  printed_without = tmp_printed ++ codes "10 ok 0.1.1\n11 ok 0.1.1.1\n13 ok\n14 ok\n";
  tree_with = codes "/ dir root readable\n/tmp dir - open\n/tmp/j dir alice scratch\n/tmp/j/k dir alice scratch\n/tmp/j/k/o file alice scratch = \n";
  tree_without = codes "/ dir root readable\n/tmp dir - open\n/tmp/j dir alice scratch\n";
}
unfolding digits
rmdir_that_decides_of_an_inner_job = refl

-- a job that starts a job, and all that both do
abbrev pub calls_of_a_job_with_a_job_in_it : List CallLine
calls_of_a_job_with_a_job_in_it = tmp_made ++
    line_of 10 (1 ∷ []) (Wrap (codes "j" ∷ codes "tmp" ∷ [])) ∷
    line_of 11 (1 ∷ 1 ∷ []) (Wrap (codes "k" ∷ codes "j" ∷ codes "tmp" ∷ [])) ∷
    line_of 12 (1 ∷ 1 ∷ 1 ∷ []) (Create (codes "o" ∷ codes "k" ∷ codes "j" ∷ codes "tmp" ∷ []) modes.Private) ∷
    line_of 13 (1 ∷ 1 ∷ []) (Stat (codes "o" ∷ codes "k" ∷ codes "j" ∷ codes "tmp" ∷ [])) ∷
    line_of 14 (1 ∷ []) (ListCall (codes "j" ∷ codes "tmp" ∷ [])) ∷
    line_of 15 (1 ∷ []) (ListCall (codes "k" ∷ codes "j" ∷ codes "tmp" ∷ [])) ∷
    line_of 16 (1 ∷ 1 ∷ 1 ∷ []) (Create (codes "x" ∷ codes "j" ∷ codes "tmp" ∷ []) modes.Open) ∷
    line_of 17 (1 ∷ 1 ∷ []) (Create (codes "p" ∷ codes "k" ∷ codes "j" ∷ codes "tmp" ∷ []) modes.Open) ∷
    line_of 18 (1 ∷ 1 ∷ 1 ∷ []) (Read (codes "p" ∷ codes "k" ∷ codes "j" ∷ codes "tmp" ∷ [])) ∷
    line_of 19 (1 ∷ 1 ∷ 1 ∷ []) (Write (codes "p" ∷ codes "k" ∷ codes "j" ∷ codes "tmp" ∷ []) (codes "z")) ∷
    line_of 20 (1 ∷ []) (Status (1 ∷ 1 ∷ 1 ∷ [])) ∷
    line_of 21 (1 ∷ 1 ∷ []) (Status (1 ∷ 1 ∷ 1 ∷ [])) ∷
    line_of 22 (1 ∷ 1 ∷ []) (Wrap (codes "k" ∷ codes "tmp" ∷ [])) ∷
    line_of 23 (1 ∷ 1 ∷ 1 ∷ []) (Login (codes "bob") (codes "bb")) ∷
    line_of 24 (1 ∷ []) (Kill (1 ∷ 1 ∷ [])) ∷
    line_of 25 (1 ∷ []) (Rmtree (codes "j" ∷ codes "tmp" ∷ [])) ∷ []

-- an outer job starts an inner one: without the calls of both, only the process that started the outer job has another reply, since the
-- inner one is never started
pub unnoticed_job_with_a_job_in_it : two_runs three_users (1 ∷ 1 ∷ []) calls_of_a_job_with_a_job_in_it ≡ record {
  is_started = true;
  lines_apart = [];
  paths_apart = [];
  printed_with =
      tmp_printed
      ++ codes
      "10 ok 0.1.1\n11 ok 0.1.1.1\n12 ok\n13 ok file alice scratch\n14 ok k/\n15 EACCES\n16 EACCES\n17 ok\n18 = \n19 EACCES\n20 EACCES\n21 ok running\n22 EACCES\n23 EACCES\n24 ok\n25 ok\n";
  printed_without = tmp_printed ++ codes "10 ok 0.1.1\n14 ok\n15 ENOENT\n20 ESRCH\n24 ok\n25 ok\n";
  tree_with = codes "/ dir root readable\n/tmp dir - open\n";
  tree_without = codes "/ dir root readable\n/tmp dir - open\n";
}
unfolding digits
unnoticed_job_with_a_job_in_it = refl

-- a member's job, at a file of the group
abbrev pub calls_of_a_members_job : List CallLine
calls_of_a_members_job = logins ++
    line_of 14 (1 ∷ []) (Create (codes "g" ∷ codes "tmp" ∷ []) (modes.Group (codes "team"))) ∷
    line_of 15 (2 ∷ []) (Write (codes "g" ∷ codes "tmp" ∷ []) (codes "hi")) ∷
    line_of 16 (2 ∷ []) (Wrap (codes "j" ∷ codes "tmp" ∷ [])) ∷
    line_of 17 (1 ∷ 2 ∷ []) (Read (codes "g" ∷ codes "tmp" ∷ [])) ∷
    line_of 18 (1 ∷ 2 ∷ []) (Append (codes "g" ∷ codes "tmp" ∷ []) (codes "x")) ∷
    line_of 19 (1 ∷ 2 ∷ []) (Create (codes "o" ∷ codes "j" ∷ codes "tmp" ∷ []) (modes.Group (codes "team"))) ∷
    line_of 20 (2 ∷ []) (ListCall (codes "j" ∷ codes "tmp" ∷ [])) ∷
    line_of 21 (1 ∷ []) (Read (codes "g" ∷ codes "tmp" ∷ [])) ∷
    line_of 22 (3 ∷ []) (ListCall (codes "tmp" ∷ [])) ∷ []

-- a member's job reads a file of the group and tries to append to it: neither another member nor any other outsider notices
pub unnoticed_job_of_a_member : two_runs with_a_team (1 ∷ 2 ∷ []) calls_of_a_members_job ≡ record {
  is_started = true;
  lines_apart = [];
  paths_apart = [];
  printed_with = logins_printed ++ codes "14 ok\n15 ok\n16 ok 0.2.1\n17 = hi\n18 EACCES\n19 ok\n20 ok o\n21 = hi\n22 ok g j/\n";
  printed_without = logins_printed ++ codes "14 ok\n15 ok\n16 ok 0.2.1\n20 ok\n21 = hi\n22 ok g j/\n";
  tree_with = codes "/ dir root readable\n/tmp dir - open\n/tmp/g file - group:team = hi\n/tmp/j dir bob scratch\n/tmp/j/o file bob scratch = \n";
  tree_without = codes "/ dir root readable\n/tmp dir - open\n/tmp/g file - group:team = hi\n/tmp/j dir bob scratch\n";
}
unfolding digits
unnoticed_job_of_a_member = refl
