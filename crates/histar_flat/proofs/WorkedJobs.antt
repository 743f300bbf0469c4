-- Worked scripts with jobs and groups: what is printed, computed.
use Rattle.std.specs.Prelude.{◌≡◌, [], ◌∷◌, ◌++◌, codes, refl}
use Rattle.std.specs.Fmt.{digits}
use Rattle.histar_flat.specs.declared.calls.Mode.TheVariants as modes
use Rattle.histar_flat.specs.declared.calls.UnixCall.TheVariants.{Create, Mkdir, Read, Write, Append, List as ListCall, Stat, Unlink, Rmdir, Rmtree}
use Rattle.histar_flat.specs.declared.calls.UnixCall.TheVariants.{Spawn, Exit, Status, Kill, Whoami, Login, Wrap}
use Rattle.histar_flat.specs.Meaning.{meaning}
use Rattle.histar_flat.proofs.WorkedScripts.{line_of, printed, with_a_team, tmp_printed, from_tmp, after_tmp}

-- a process in a job reads as its user, writes only in its job, doesn't log in, and starts jobs only in its job
pub job : after_tmp (
    line_of 10 (1 ∷ []) (Create (codes "s" ∷ codes "tmp" ∷ []) modes.Private) ∷
    line_of 11 (1 ∷ []) (Write (codes "s" ∷ codes "tmp" ∷ []) (codes "deep")) ∷
    line_of 12 (1 ∷ []) (Wrap (codes "j" ∷ codes "tmp" ∷ [])) ∷
    line_of 13 (1 ∷ 1 ∷ []) (Read (codes "s" ∷ codes "tmp" ∷ [])) ∷
    line_of 14 (1 ∷ 1 ∷ []) (Write (codes "s" ∷ codes "tmp" ∷ []) (codes "no")) ∷
    line_of 15 (1 ∷ 1 ∷ []) (Create (codes "k" ∷ codes "tmp" ∷ []) modes.Open) ∷
    line_of 16 (1 ∷ 1 ∷ []) Whoami ∷
    line_of 17 (1 ∷ 1 ∷ []) (Login (codes "bob") (codes "bb")) ∷
    line_of 18 (1 ∷ 1 ∷ []) (Wrap (codes "k" ∷ codes "j" ∷ codes "tmp" ∷ [])) ∷
    line_of 19 (1 ∷ 1 ∷ []) (Wrap (codes "k" ∷ codes "tmp" ∷ [])) ∷ []) ≡
    codes "10 ok\n11 ok\n12 ok 0.1.1\n13 = deep\n14 EACCES\n15 EACCES\n16 ok alice confined\n17 EACCES\n18 ok 0.1.1.1\n19 EACCES\n"
unfolding digits
job = refl

-- what a job makes is scratch: the process that started the job reads it, a further child and other users don't
pub output_of_a_job : after_tmp (
    line_of 10 (1 ∷ []) (Wrap (codes "j" ∷ codes "tmp" ∷ [])) ∷
    line_of 11 (1 ∷ 1 ∷ []) (Create (codes "out" ∷ codes "j" ∷ codes "tmp" ∷ []) modes.Readable) ∷
    line_of 12 (1 ∷ 1 ∷ []) (Write (codes "out" ∷ codes "j" ∷ codes "tmp" ∷ []) (codes "result")) ∷
    line_of 13 (1 ∷ []) (Stat (codes "out" ∷ codes "j" ∷ codes "tmp" ∷ [])) ∷
    line_of 14 (1 ∷ []) (Read (codes "out" ∷ codes "j" ∷ codes "tmp" ∷ [])) ∷
    line_of 15 (1 ∷ []) Spawn ∷
    line_of 16 (2 ∷ 1 ∷ []) (Read (codes "out" ∷ codes "j" ∷ codes "tmp" ∷ [])) ∷
    line_of 17 (2 ∷ []) (Stat (codes "j" ∷ codes "tmp" ∷ [])) ∷
    line_of 18 (2 ∷ []) (ListCall (codes "j" ∷ codes "tmp" ∷ [])) ∷ []) ≡
    codes "10 ok 0.1.1\n11 ok\n12 ok\n13 ok file alice scratch\n14 = result\n15 ok 0.1.2\n16 EACCES\n17 ok dir alice scratch\n18 EACCES\n"
unfolding digits
output_of_a_job = refl

-- the owner of the directory above removes a job's directory with all in it, though it can't list it
pub directory_of_a_job_taken_away : after_tmp (
    line_of 10 (1 ∷ []) (Wrap (codes "j" ∷ codes "tmp" ∷ [])) ∷
    line_of 11 [] (Rmdir (codes "j" ∷ codes "tmp" ∷ [])) ∷
    line_of 12 [] (Rmtree (codes "j" ∷ codes "tmp" ∷ [])) ∷
    line_of 13 (1 ∷ 1 ∷ []) (ListCall (codes "j" ∷ codes "tmp" ∷ [])) ∷ []) ≡
    codes "10 ok 0.1.1\n11 EACCES\n12 ok\n13 ENOENT\n"
unfolding digits
directory_of_a_job_taken_away = refl

-- a process that has exited keeps its status till its parent kills it; names are not given again, and a process kills only children
pub ends_of_processes : after_tmp (
    line_of 10 (1 ∷ []) (Wrap (codes "j" ∷ codes "tmp" ∷ [])) ∷
    line_of 11 (1 ∷ 1 ∷ []) Spawn ∷
    line_of 12 (1 ∷ 1 ∷ 1 ∷ []) (Exit 7) ∷
    line_of 13 (1 ∷ []) (Status (1 ∷ 1 ∷ 1 ∷ [])) ∷
    line_of 14 (2 ∷ []) (Status (1 ∷ 1 ∷ [])) ∷
    line_of 15 (2 ∷ []) (Status (1 ∷ [])) ∷
    line_of 16 (1 ∷ 1 ∷ 1 ∷ []) Whoami ∷
    line_of 17 (2 ∷ []) (Kill (1 ∷ [])) ∷
    line_of 18 (1 ∷ []) (Kill (1 ∷ 1 ∷ [])) ∷
    line_of 19 (1 ∷ []) (Status (1 ∷ 1 ∷ [])) ∷
    line_of 20 (1 ∷ 1 ∷ []) Whoami ∷
    line_of 21 (1 ∷ []) Spawn ∷
    line_of 22 [] (Kill ([])) ∷ []) ≡
    codes
    "10 ok 0.1.1\n11 ok 0.1.1.1\n12 ok\n13 ok exited 7\n14 EACCES\n15 ok running\n16 gone\n17 EACCES\n18 ok\n19 ESRCH\n20 gone\n21 ok 0.1.2\n22 EACCES\n"
unfolding digits
ends_of_processes = refl

-- an inner job reads what is of the outer one, and writes only its own
pub job_in_a_job : after_tmp (
    line_of 10 (1 ∷ []) (Wrap (codes "j" ∷ codes "tmp" ∷ [])) ∷
    line_of 11 (1 ∷ 1 ∷ []) (Wrap (codes "k" ∷ codes "j" ∷ codes "tmp" ∷ [])) ∷
    line_of 12 (1 ∷ 1 ∷ 1 ∷ []) (Create (codes "o" ∷ codes "k" ∷ codes "j" ∷ codes "tmp" ∷ []) modes.Private) ∷
    line_of 13 (1 ∷ 1 ∷ []) (Stat (codes "o" ∷ codes "k" ∷ codes "j" ∷ codes "tmp" ∷ [])) ∷
    line_of 14 (1 ∷ []) (ListCall (codes "j" ∷ codes "tmp" ∷ [])) ∷
    line_of 15 (1 ∷ []) (ListCall (codes "k" ∷ codes "j" ∷ codes "tmp" ∷ [])) ∷
    line_of 16 (1 ∷ 1 ∷ 1 ∷ []) (Create (codes "x" ∷ codes "j" ∷ codes "tmp" ∷ []) modes.Open) ∷
    line_of 17 (1 ∷ 1 ∷ []) (Create (codes "p" ∷ codes "k" ∷ codes "j" ∷ codes "tmp" ∷ []) modes.Open) ∷
    line_of 18 (1 ∷ 1 ∷ 1 ∷ []) (Read (codes "p" ∷ codes "k" ∷ codes "j" ∷ codes "tmp" ∷ [])) ∷
    line_of 19 (1 ∷ 1 ∷ 1 ∷ []) (Write (codes "p" ∷ codes "k" ∷ codes "j" ∷ codes "tmp" ∷ []) (codes "z")) ∷
    line_of 20 (1 ∷ []) (Status (1 ∷ 1 ∷ 1 ∷ [])) ∷
    line_of 21 (1 ∷ 1 ∷ []) (Status (1 ∷ 1 ∷ 1 ∷ [])) ∷
    line_of 22 (1 ∷ 1 ∷ []) (Wrap (codes "k" ∷ codes "tmp" ∷ [])) ∷
    line_of 23 (1 ∷ 1 ∷ 1 ∷ []) (Login (codes "bob") (codes "bb")) ∷
    line_of 24 (1 ∷ []) (Kill (1 ∷ 1 ∷ [])) ∷
    line_of 25 (1 ∷ []) (Rmtree (codes "j" ∷ codes "tmp" ∷ [])) ∷ []) ≡
    codes
    "10 ok 0.1.1\n11 ok 0.1.1.1\n12 ok\n13 ok file alice scratch\n14 ok k/\n15 EACCES\n16 EACCES\n17 ok\n18 = \n19 EACCES\n20 EACCES\n21 ok running\n22 EACCES\n23 EACCES\n24 ok\n25 ok\n"
unfolding digits
job_in_a_job = refl

-- two jobs of one process don't see each other; the process that started them makes files in their directories and kills them, and a
-- further child of it kills none
pub two_jobs : from_tmp (
    line_of 10 (1 ∷ []) (Wrap (codes "j" ∷ codes "tmp" ∷ [])) ∷
    line_of 11 (1 ∷ []) (Wrap (codes "k" ∷ codes "tmp" ∷ [])) ∷
    line_of 12 (1 ∷ 1 ∷ []) (ListCall (codes "k" ∷ codes "tmp" ∷ [])) ∷
    line_of 13 (1 ∷ 1 ∷ []) (Status (2 ∷ 1 ∷ [])) ∷
    line_of 14 (1 ∷ []) (Create (codes "x" ∷ codes "j" ∷ codes "tmp" ∷ []) modes.Private) ∷
    line_of 15 (1 ∷ 1 ∷ []) (Read (codes "x" ∷ codes "j" ∷ codes "tmp" ∷ [])) ∷
    line_of 16 (1 ∷ 1 ∷ []) (Write (codes "x" ∷ codes "j" ∷ codes "tmp" ∷ []) (codes "no")) ∷
    line_of 17 (1 ∷ 1 ∷ []) (Unlink (codes "x" ∷ codes "j" ∷ codes "tmp" ∷ [])) ∷
    line_of 18 (1 ∷ []) Spawn ∷
    line_of 19 (3 ∷ 1 ∷ []) (Kill (1 ∷ 1 ∷ [])) ∷
    line_of 20 (1 ∷ []) (Kill (2 ∷ 1 ∷ [])) ∷
    line_of 21 (1 ∷ []) (Rmtree (codes "k" ∷ codes "tmp" ∷ [])) ∷
    line_of 22 (1 ∷ []) Whoami ∷ []) ≡
    tmp_printed
    ++ codes
    "10 ok 0.1.1\n11 ok 0.1.2\n12 EACCES\n13 EACCES\n14 ok\n15 = \n16 EACCES\n17 ok\n18 ok 0.1.3\n19 EACCES\n20 ok\n21 ok\n22 ok alice\n"
unfolding digits
two_jobs = refl

-- two jobs in a job don't see each other either; a job in one of them reads what is of the jobs around it, and each process that started a
-- job looks into the directory of that job, and not into those of the jobs in it
pub two_jobs_in_a_job : from_tmp (
    line_of 10 (1 ∷ []) (Wrap (codes "j" ∷ codes "tmp" ∷ [])) ∷
    line_of 11 (1 ∷ 1 ∷ []) (Wrap (codes "k" ∷ codes "j" ∷ codes "tmp" ∷ [])) ∷
    line_of 12 (1 ∷ 1 ∷ []) (Wrap (codes "l" ∷ codes "j" ∷ codes "tmp" ∷ [])) ∷
    line_of 13 (1 ∷ 1 ∷ 1 ∷ []) (Create (codes "o" ∷ codes "k" ∷ codes "j" ∷ codes "tmp" ∷ []) modes.Private) ∷
    line_of 14 (1 ∷ 1 ∷ 1 ∷ []) (Write (codes "o" ∷ codes "k" ∷ codes "j" ∷ codes "tmp" ∷ []) (codes "deep")) ∷
    line_of 15 (2 ∷ 1 ∷ 1 ∷ []) (ListCall (codes "k" ∷ codes "j" ∷ codes "tmp" ∷ [])) ∷
    line_of 16 (2 ∷ 1 ∷ 1 ∷ []) (Status (1 ∷ 1 ∷ 1 ∷ [])) ∷
    line_of 17 (2 ∷ 1 ∷ 1 ∷ []) (Kill (1 ∷ 1 ∷ 1 ∷ [])) ∷
    line_of 18 (1 ∷ 1 ∷ 1 ∷ []) (Wrap (codes "m" ∷ codes "k" ∷ codes "j" ∷ codes "tmp" ∷ [])) ∷
    line_of 19 (1 ∷ 1 ∷ 1 ∷ 1 ∷ []) (Read (codes "o" ∷ codes "k" ∷ codes "j" ∷ codes "tmp" ∷ [])) ∷
    line_of 20 (1 ∷ 1 ∷ 1 ∷ 1 ∷ []) (Write (codes "o" ∷ codes "k" ∷ codes "j" ∷ codes "tmp" ∷ []) (codes "no")) ∷
    line_of 21 (1 ∷ 1 ∷ 1 ∷ 1 ∷ []) (Create (codes "p" ∷ codes "m" ∷ codes "k" ∷ codes "j" ∷ codes "tmp" ∷ []) modes.Open) ∷
    line_of 22 (1 ∷ 1 ∷ 1 ∷ 1 ∷ []) Whoami ∷
    line_of 23 (1 ∷ 1 ∷ 1 ∷ []) (Read (codes "p" ∷ codes "m" ∷ codes "k" ∷ codes "j" ∷ codes "tmp" ∷ [])) ∷
    line_of 24 (1 ∷ 1 ∷ []) (Read (codes "p" ∷ codes "m" ∷ codes "k" ∷ codes "j" ∷ codes "tmp" ∷ [])) ∷
    line_of 25 (1 ∷ 1 ∷ []) (ListCall (codes "k" ∷ codes "j" ∷ codes "tmp" ∷ [])) ∷
    line_of 26 (1 ∷ []) (ListCall (codes "k" ∷ codes "j" ∷ codes "tmp" ∷ [])) ∷
    line_of 27 (1 ∷ []) (ListCall (codes "j" ∷ codes "tmp" ∷ [])) ∷
    line_of 28 (1 ∷ 1 ∷ []) (Kill (1 ∷ 1 ∷ 1 ∷ [])) ∷
    line_of 29 (1 ∷ 1 ∷ 1 ∷ 1 ∷ []) Whoami ∷ []) ≡
    tmp_printed
    ++ codes
    "10 ok 0.1.1\n11 ok 0.1.1.1\n12 ok 0.1.1.2\n13 ok\n14 ok\n15 EACCES\n16 EACCES\n17 EACCES\n18 ok 0.1.1.1.1\n19 = deep\n20 EACCES\n21 ok\n22 ok alice confined\n23 = \n24 EACCES\n25 ok m/ o\n26 EACCES\n27 ok k/ l/\n28 ok\n29 gone\n"
unfolding digits
two_jobs_in_a_job = refl

-- a login releases the jobs that the process held
pub login_lets_go : after_tmp (
    line_of 10 (1 ∷ []) (Wrap (codes "j" ∷ codes "tmp" ∷ [])) ∷
    line_of 11 (1 ∷ []) (Wrap (codes "q" ∷ [])) ∷
    line_of 12 (1 ∷ []) (ListCall (codes "j" ∷ codes "tmp" ∷ [])) ∷
    line_of 13 (1 ∷ []) (Login (codes "alice") (codes "aa")) ∷
    line_of 14 (1 ∷ []) (ListCall (codes "j" ∷ codes "tmp" ∷ [])) ∷
    line_of 15 (1 ∷ []) (Status (1 ∷ 1 ∷ [])) ∷
    line_of 16 (1 ∷ []) (Kill (1 ∷ 1 ∷ [])) ∷ []) ≡
    codes "10 ok 0.1.1\n11 EACCES\n12 ok\n13 ok\n14 EACCES\n15 EACCES\n16 EACCES\n"
unfolding digits
login_lets_go = refl

-- members of a group share its files; a job reads them and doesn't write them
pub group : printed (meaning with_a_team (
    line_of 6 [] Spawn ∷
    line_of 7 [] Spawn ∷
    line_of 8 [] Spawn ∷
    line_of 9 [] (Login (codes "root") (codes "rr")) ∷
    line_of 10 [] (Mkdir (codes "tmp" ∷ []) modes.Open) ∷
    line_of 11 (1 ∷ []) (Login (codes "alice") (codes "aa")) ∷
    line_of 12 (2 ∷ []) (Login (codes "bob") (codes "bb")) ∷
    line_of 13 (3 ∷ []) (Login (codes "carol") (codes "cc")) ∷
    line_of 14 (1 ∷ []) (Create (codes "g" ∷ codes "tmp" ∷ []) (modes.Group (codes "team"))) ∷
    line_of 15 (2 ∷ []) (Write (codes "g" ∷ codes "tmp" ∷ []) (codes "hi")) ∷
    line_of 16 (3 ∷ []) (Read (codes "g" ∷ codes "tmp" ∷ [])) ∷
    line_of 17 (3 ∷ []) (Stat (codes "g" ∷ codes "tmp" ∷ [])) ∷
    line_of 18 (3 ∷ []) (Create (codes "h" ∷ codes "tmp" ∷ []) (modes.Group (codes "team"))) ∷
    line_of 19 (2 ∷ []) (Wrap (codes "j" ∷ codes "tmp" ∷ [])) ∷
    line_of 20 (1 ∷ 2 ∷ []) (Read (codes "g" ∷ codes "tmp" ∷ [])) ∷
    line_of 21 (1 ∷ 2 ∷ []) (Append (codes "g" ∷ codes "tmp" ∷ []) (codes "x")) ∷
    line_of 22 (1 ∷ 2 ∷ []) (Create (codes "o" ∷ codes "j" ∷ codes "tmp" ∷ []) (modes.Group (codes "team"))) ∷
    line_of 23 (2 ∷ []) (Stat (codes "o" ∷ codes "j" ∷ codes "tmp" ∷ [])) ∷
    line_of 24 (1 ∷ []) (Read (codes "o" ∷ codes "j" ∷ codes "tmp" ∷ [])) ∷
    line_of 25 (2 ∷ []) (Login (codes "carol") (codes "cc")) ∷
    line_of 26 (2 ∷ []) (Read (codes "g" ∷ codes "tmp" ∷ [])) ∷ [])) ≡
    codes
    "6 ok 0.1\n7 ok 0.2\n8 ok 0.3\n9 ok\n10 ok\n11 ok\n12 ok\n13 ok\n14 ok\n15 ok\n16 EACCES\n17 ok file - group:team\n18 EPERM\n19 ok 0.2.1\n20 = hi\n21 EACCES\n22 ok\n23 ok file bob scratch\n24 EACCES\n25 ok\n26 EACCES\n"
unfolding digits
group = refl
