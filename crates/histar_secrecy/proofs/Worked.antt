-- Worked scripts: which processes are trusted, confined and outsiders, and that each premise of the laws is needed.
use Rattle.std.specs.Prelude.{◌≡◌, true, false, List, [], ◌∷◌, ◌++◌, None, Some, codes, filter, map, refl}
use Rattle.histar_flat.specs.declared.calls.CallLine.{CallLine}
use Rattle.histar_flat.specs.declared.calls.Mode.TheVariants as modes
use Rattle.histar_flat.specs.declared.calls.UnixCall.TheVariants.{Create, Mkdir, Read, Write, List as ListCall, Stat, Rmtree, Spawn, Exit, Status}
use Rattle.histar_flat.specs.declared.calls.UnixCall.TheVariants.{Login}
use Rattle.histar_flat.specs.declared.calls.UnixCall.TheVariants.{Rmdir, Wrap}
use Rattle.histar_flat.specs.declared.replies.Errno.TheVariants.{EACCES, ENOENT, ENOTEMPTY, ESRCH}
use Rattle.histar_flat.specs.declared.replies.Reply.TheVariants.{Child, Data, Done, Entries, Refused, Running}
use Rattle.histar_flat.specs.Words.{Path}
use Rattle.histar_flat.specs.Classes.{Class, Process}
use Rattle.histar_flat.specs.Classes.Class.{Private, Readable, Open, Scratch}
use Rattle.histar_flat.specs.Files.{get}
use Rattle.histar_flat.specs.FlatState.{Flat, with_bytes}
use Rattle.histar_flat.specs.FlatState.Content.{File}
use Rattle.histar_flat.specs.Meaning.{RepliedCall, boot, flat_end}
use Rattle.histar_flat.proofs.WorkedScripts.{line_of, three_users, tmp_made}
use Rattle.histar_secrecy.specs.Ways.{way_to}
use Rattle.histar_secrecy.specs.Roles.{is_confined, is_outsider, is_trusted}
use Rattle.histar_secrecy.specs.Noninterference.{no_reader_logs_in, outside_replies, trusted_are_silent}
use Rattle.histar_secrecy.specs.declared.file_class.FileClass.{FileClass}
use Rattle.histar_secrecy.specs.declared.file_class.FileClass.TheVariants as classes
use Rattle.histar_secrecy.specs.declared.role.Role.TheVariants.{Trusted, Confined, Outside}
use Rattle.histar_secrecy.specs.ShownRoles.{changes_one, is_login_changer, is_login_reader, job_numbered, role_in, role_of, with_rights}
use Rattle.histar_secrecy.specs.Changers.{changers_are_silent, is_changer}
use Rattle.histar_secrecy.specs.Release.{is_insider, is_strangers, may_release, replies_to, unconfined}
use Rattle.histar_secrecy.proofs.OtherBytes.{other_bytes_differ}
use Rattle.histar_secrecy.proofs.Released.{only_insiders_release}
use Rattle.histar_secrecy.proofs.Learning.{outsiders_learn_nothing}

-- alice's process 0.1 has a private file in /tmp, and starts the job 0.1.1, whose directory is /tmp/j; 0.2 is bob's
letter : Path
letter = codes "s" ∷ codes "tmp" ∷ []

before : List CallLine
before = tmp_made ++
    line_of 10 (1 ∷ []) (Create (codes "s" ∷ codes "tmp" ∷ []) modes.Private) ∷
    line_of 11 (1 ∷ []) (Write (codes "s" ∷ codes "tmp" ∷ []) (codes "secret")) ∷
    line_of 12 (1 ∷ []) (Wrap (codes "j" ∷ codes "tmp" ∷ [])) ∷ []

state : Flat
state = flat_end three_users (boot three_users) before

mine : List Class
mine = Private (codes "alice") ∷ Open ∷ Readable (codes "root") ∷ []

it_is_the_way : way_to state letter ≡ mine
unfolding state before letter mine
it_is_the_way = refl

file_is_there : get state.files letter ≡ Some (record { class = Private (codes "alice"); content = File (codes "secret") })
unfolding state before letter mine
file_is_there = refl

-- 0.1 is trusted with the file, 0.1.1 is confined, and each process below it too; 0 and 0.2 are outsiders
trusted : is_trusted three_users mine state (1 ∷ []) ≡ true
unfolding state before mine
trusted = refl

confined : is_confined three_users mine state (5 ∷ 1 ∷ 1 ∷ []) ≡ true
unfolding state before mine
confined = refl

outside : is_outsider three_users mine state (2 ∷ []) ≡ true
unfolding state before mine
outside = refl

-- the calls of bob's process
bobs : List CallLine
bobs =
    line_of 20 (2 ∷ []) (ListCall (codes "tmp" ∷ [])) ∷
    line_of 21 (2 ∷ []) (Status (1 ∷ 1 ∷ [])) ∷
    line_of 22 (2 ∷ []) (Read (codes "s" ∷ codes "tmp" ∷ [])) ∷
    line_of 23 (2 ∷ []) (Stat (codes "x" ∷ codes "j" ∷ codes "tmp" ∷ [])) ∷ []

-- the job reads the file, writes in its directory, starts processes and a job, and ends
jobs : List CallLine
jobs =
    line_of 13 (1 ∷ 1 ∷ []) (Read (codes "s" ∷ codes "tmp" ∷ [])) ∷
    line_of 14 (1 ∷ 1 ∷ []) (Create (codes "x" ∷ codes "j" ∷ codes "tmp" ∷ []) modes.Open) ∷
    line_of 15 (1 ∷ 1 ∷ []) (Write (codes "x" ∷ codes "j" ∷ codes "tmp" ∷ []) (codes "secret")) ∷
    line_of 16 (1 ∷ 1 ∷ []) (Wrap (codes "k" ∷ codes "j" ∷ codes "tmp" ∷ [])) ∷
    line_of 17 (1 ∷ 1 ∷ 1 ∷ []) Spawn ∷
    line_of 18 (1 ∷ 1 ∷ []) (Login (codes "alice") (codes "aa")) ∷
    line_of 19 (1 ∷ 1 ∷ []) (Exit 7) ∷ []

-- bob's process has the same replies with the job's lines and without them, whatever is in the file
bob_learns_nothing : outside_replies three_users mine state (with_bytes state letter (codes "one")) (jobs ++ bobs)
    ≡ outside_replies three_users mine state (with_bytes state letter (codes "other")) bobs
unfolding state before letter mine jobs bobs
bob_learns_nothing =
    outsiders_learn_nothing three_users state (before, refl) letter mine (record { file = refl; classes = it_is_the_way }) (codes "one")
    (codes "other")
    (jobs ++ bobs) bobs (record { silent = refl; others_silent = refl; alike = refl; no_login = refl })

-- these are its replies
bobs_replies : outside_replies three_users mine state (with_bytes state letter (codes "one")) (jobs ++ bobs)
    ≡ Entries ((codes "j", true) ∷ (codes "s", false) ∷ []) ∷ Refused EACCES ∷ Refused EACCES ∷ Refused EACCES ∷ []
unfolding state before letter mine jobs bobs
bobs_replies = refl

-- ---- each premise is needed

-- a trusted process makes a file
declassified : List CallLine
declassified = line_of 13 (1 ∷ []) (Create (codes "y" ∷ codes "tmp" ∷ []) modes.Open) ∷ bobs

it_is_not_silent : trusted_are_silent three_users mine state declassified ≡ false
unfolding state before mine declassified bobs
it_is_not_silent = refl

it_shows : outside_replies three_users mine state (with_bytes state letter (codes "one")) declassified
    ≡ Entries ((codes "j", true) ∷ (codes "s", false) ∷ (codes "y", false) ∷ []) ∷ Refused EACCES ∷ Refused EACCES ∷ Refused EACCES ∷ []
unfolding state before letter mine declassified bobs
it_shows = refl

-- an outsider logs in as alice
as_alice : List CallLine
as_alice =
    line_of 13 (2 ∷ []) (Login (codes "alice") (codes "aa")) ∷
    line_of 14 (2 ∷ []) (Read (codes "s" ∷ codes "tmp" ∷ [])) ∷ []

it_logs_in : no_reader_logs_in three_users mine state as_alice ≡ false
unfolding state before mine as_alice
it_logs_in = refl

it_reads : outside_replies three_users mine state (with_bytes state letter (codes "one")) as_alice ≡ Done ∷ Data (codes "one") ∷ []
unfolding state before letter mine as_alice
it_reads = refl

-- a wrong password does no harm
guessed : no_reader_logs_in three_users mine state (line_of 13 (2 ∷ []) (Login (codes "alice") (codes "xx")) ∷ []) ≡ true
unfolding state before mine
guessed = refl

-- ---- the processes that may change the letter: its owner's, and all that may write /tmp; the job may not

changers : map (is_changer three_users state letter) ([] ∷ (1 ∷ []) ∷ (2 ∷ []) ∷ (1 ∷ 1 ∷ []) ∷ []) ≡ (true ∷ true ∷ true ∷ false ∷ [])
unfolding state before letter
changers = refl

-- bob's process removes it
taken : get (flat_end three_users state (line_of 13 (2 ∷ []) (Rmtree (codes "s" ∷ codes "tmp" ∷ [])) ∷ [])).files letter ≡ None
unfolding state before letter
taken = refl

-- the job is silent: it can't log in to change the letter
jobs_are_silent : changers_are_silent three_users state letter jobs ≡ true
unfolding state before letter jobs
jobs_are_silent = refl

-- ---- a file that the job makes: the process that started the job may read it, and another process of alice's may not

in_the_job : Path
in_the_job = codes "x" ∷ codes "j" ∷ codes "tmp" ∷ []

with_scratch : Flat
with_scratch =
    flat_end three_users (boot three_users)
    (before ++ line_of 13 (1 ∷ 1 ∷ []) (Create (codes "x" ∷ codes "j" ∷ codes "tmp" ∷ []) modes.Open)
    ∷ line_of 14 [] Spawn
    ∷ line_of 15 (3 ∷ []) (Login (codes "alice") (codes "aa")) ∷ [])

scratch : List Class
scratch = Scratch (codes "alice") ((1 ∷ 1 ∷ []) ∷ []) ∷ Scratch (codes "alice") ((1 ∷ 1 ∷ []) ∷ []) ∷ Open ∷ Readable (codes "root") ∷ []

it_is_scratch : way_to with_scratch in_the_job ≡ scratch
unfolding with_scratch before in_the_job scratch
it_is_scratch = refl

roles : map (role_in three_users scratch with_scratch) ((1 ∷ []) ∷ (1 ∷ 1 ∷ []) ∷ (3 ∷ []) ∷ (2 ∷ []) ∷ [])
    ≡ Trusted ∷ Confined ∷ Outside ∷ Outside ∷ []
unfolding with_scratch before scratch
roles = refl

-- a login as alice reveals nothing of it
no_login_reads_it : no_reader_logs_in three_users scratch with_scratch (line_of 16 (2 ∷ []) (Login (codes "alice") (codes "aa")) ∷ []) ≡ true
unfolding with_scratch before scratch
no_login_reads_it = refl

-- ---- a file of an inner job: the process that is in the outer job and started the inner one is trusted with it, since it may write what
-- others in the outer job read; the process that started the outer job is an outsider

inner_file : Path
inner_file = codes "z" ∷ codes "k" ∷ codes "j" ∷ codes "tmp" ∷ []

with_inner : Flat
with_inner =
    flat_end three_users (boot three_users)
    (before ++ line_of 13 (1 ∷ 1 ∷ []) (Wrap (codes "k" ∷ codes "j" ∷ codes "tmp" ∷ []))
    ∷ line_of 14 (1 ∷ 1 ∷ 1 ∷ []) (Create (codes "z" ∷ codes "k" ∷ codes "j" ∷ codes "tmp" ∷ []) modes.Open) ∷ [])

inner : List Class
inner =
    Scratch (codes "alice") ((1 ∷ 1 ∷ []) ∷ (1 ∷ 1 ∷ 1 ∷ []) ∷ []) ∷ Scratch (codes "alice") ((1 ∷ 1 ∷ []) ∷ (1 ∷ 1 ∷ 1 ∷ []) ∷ [])
    ∷ Scratch (codes "alice") ((1 ∷ 1 ∷ []) ∷ []) ∷ Open ∷ Readable (codes "root") ∷ []

it_is_of_the_inner_job : way_to with_inner inner_file ≡ inner
unfolding with_inner before inner_file inner
it_is_of_the_inner_job = refl

inner_roles : map (role_in three_users inner with_inner) ((1 ∷ []) ∷ (1 ∷ 1 ∷ []) ∷ (1 ∷ 1 ∷ 1 ∷ []) ∷ []) ≡ Outside ∷ Trusted ∷ Confined ∷ []
unfolding with_inner before inner
inner_roles = refl

-- ---- the roles towards the letter, where the job has the number 7: of 0.1, which holds it, of its first process, and of 0.2

three : List Process
three = with_rights (codes "alice") [] (7 ∷ []) ∷ with_rights (codes "alice") (7 ∷ []) [] ∷ with_rights (codes "bob") [] [] ∷ []

shown : map (role_of [] mine) three ≡ Trusted ∷ Confined ∷ Outside ∷ []
unfolding mine three
shown = refl

readers : filter (is_login_reader [] mine) (codes "alice" ∷ codes "bob" ∷ []) ≡ codes "alice" ∷ []
unfolding mine
readers = refl

-- the roles towards a file that the job makes: a process of another job is an outsider
shown_scratch : map (role_of [] (Scratch (codes "alice") (map job_numbered (7 ∷ [])) ∷ Open ∷ []))
    (with_rights (codes "alice") [] (7 ∷ []) ∷ with_rights (codes "alice") (7 ∷ 9 ∷ []) [] ∷ with_rights (codes "alice") (8 ∷ []) [] ∷ [])
    ≡ Trusted ∷ Confined ∷ Outside ∷ []
shown_scratch = refl

-- what is open in a directory of bob's is bob's to read
closed_way : map (role_of [] (Open ∷ Private (codes "bob") ∷ Readable (codes "root") ∷ [])) three ≡ Outside ∷ Outside ∷ Trusted ∷ []
unfolding three
closed_way = refl

-- in a directory of bob's, alice and bob can log in as changers, and the job changes nothing
way : List FileClass
way = classes.Private (codes "alice") ∷ classes.Readable (codes "bob") ∷ []

logins : filter (is_login_changer [] way) (codes "alice" ∷ codes "bob" ∷ codes "carol" ∷ []) ≡ codes "alice" ∷ codes "bob" ∷ []
unfolding way
logins = refl

changers_there : map (λ p. changes_one [] p way) three ≡ true ∷ false ∷ true ∷ []
unfolding way three
changers_there = refl

-- ---- a trusted process calls too: what it is told of the job it may pass on, and nobody else is told

-- 0.1 reads what the job has written, and looks at the job's directory
reads_report : List CallLine
reads_report =
    line_of 30 (1 ∷ []) (Read (codes "x" ∷ codes "j" ∷ codes "tmp" ∷ [])) ∷
    line_of 31 (1 ∷ []) (ListCall (codes "j" ∷ codes "tmp" ∷ [])) ∷ []

-- its replies differ, with the lines of the job and without them
its_replies : replies_to (λ a. is_insider three_users mine state a.call.process)
    (unconfined three_users mine state (with_bytes state letter (codes "one")) (jobs ++ reads_report ++ bobs))
    ≡ Data (codes "secret") ∷ Entries ((codes "k", true) ∷ (codes "x", false) ∷ []) ∷ []
unfolding state before letter mine jobs bobs reads_report
its_replies = refl

its_other_replies : replies_to (λ a. is_insider three_users mine state a.call.process)
    (unconfined three_users mine state (with_bytes state letter (codes "other")) (reads_report ++ bobs)) ≡ Refused ENOENT ∷ Entries [] ∷ []
unfolding state before letter mine bobs reads_report
its_other_replies = refl

-- bob's are the same
bob_is_told_the_same : replies_to (is_strangers three_users mine state)
    (unconfined three_users mine state (with_bytes state letter (codes "one")) (jobs ++ reads_report ++ bobs))
    ≡ replies_to (is_strangers three_users mine state)
    (unconfined three_users mine state (with_bytes state letter (codes "other")) (reads_report ++ bobs))
unfolding state before letter mine jobs bobs reads_report
bob_is_told_the_same =
    only_insiders_release three_users state (before, refl) letter mine (record { file = refl; classes = it_is_the_way })
    (with_bytes state letter (codes "one")) (with_bytes state letter (codes "other"))
    (other_bytes_differ state letter mine (record { file = refl; classes = it_is_the_way }) (codes "one"))
    (other_bytes_differ state letter mine (record { file = refl; classes = it_is_the_way }) (codes "other")) (jobs ++ reads_report ++ bobs)
    (reads_report ++ bobs) (record { alike = refl; no_login = refl; released = refl })

-- ---- a `rmdir` of the job's directory tells bob whether the job has made something in it

removes : List CallLine
removes = line_of 30 (1 ∷ []) (Rmdir (codes "j" ∷ codes "tmp" ∷ [])) ∷ line_of 31 (2 ∷ []) (ListCall (codes "tmp" ∷ [])) ∷ []

it_is_answered : replies_to (may_release three_users mine state) (unconfined three_users mine state state (jobs ++ removes)) ≡ Refused ENOTEMPTY ∷ []
unfolding state before mine jobs removes
it_is_answered = refl

it_is_answered_otherwise : replies_to (may_release three_users mine state) (unconfined three_users mine state state removes) ≡ Done ∷ []
unfolding state before mine removes
it_is_answered_otherwise = refl

bob_is_told : map (λ (calls : List CallLine). replies_to (is_strangers three_users mine state) (unconfined three_users mine state state calls))
    ((jobs ++ removes) ∷ removes ∷ [])
    ≡ (Entries ((codes "j", true) ∷ (codes "s", false) ∷ []) ∷ []) ∷ (Entries ((codes "s", false) ∷ []) ∷ []) ∷ []
unfolding state before mine jobs removes
bob_is_told = refl

-- ---- so does a `wrap` in the directory: of its child others can tell that it is there

starts_in_it : List CallLine
starts_in_it =
    line_of 30 (1 ∷ []) (Wrap (codes "x" ∷ codes "j" ∷ codes "tmp" ∷ [])) ∷
    line_of 31 (1 ∷ []) Spawn ∷
    line_of 32 (2 ∷ []) (Status (3 ∷ 1 ∷ [])) ∷ []

bob_finds_it : map (λ (calls : List CallLine). replies_to (is_strangers three_users mine state) (unconfined three_users mine state state calls))
    ((jobs ++ starts_in_it) ∷ starts_in_it ∷ [])
    ≡ (Refused ESRCH ∷ []) ∷ (Running ∷ []) ∷ []
unfolding state before mine jobs starts_in_it
bob_finds_it = refl

-- ---- a job that 0.1 starts later is confined too, and each process below it; a child that it spawns is an insider

later : List CallLine
later =
    line_of 30 (1 ∷ []) (Wrap (codes "l" ∷ codes "tmp" ∷ [])) ∷
    line_of 31 (2 ∷ 1 ∷ []) (Read letter) ∷
    line_of 32 (1 ∷ []) Spawn ∷
    line_of 33 (3 ∷ 1 ∷ []) (Read letter) ∷ []

later_lines : map (λ (a : RepliedCall). a.reply) (unconfined three_users mine state state later)
    ≡ Child (2 ∷ 1 ∷ []) ∷ Child (3 ∷ 1 ∷ []) ∷ Data (codes "secret") ∷ []
unfolding state before mine letter later
later_lines = refl

insiders : map (is_insider three_users mine state) ([] ∷ (1 ∷ []) ∷ (1 ∷ 1 ∷ []) ∷ (3 ∷ 1 ∷ []) ∷ (2 ∷ []) ∷ (1 ∷ 2 ∷ []) ∷ [])
    ≡ false ∷ true ∷ false ∷ true ∷ false ∷ false ∷ []
unfolding state before mine
insiders = refl

-- ---- a file that is open in a directory of alice's: bob, who may read its class, doesn't reach it

open_file : Path
open_file = codes "x" ∷ codes "d" ∷ codes "tmp" ∷ []

with_closed : Flat
with_closed = flat_end three_users (boot three_users)
    (before ++ line_of 13 (1 ∷ []) (Mkdir (codes "d" ∷ codes "tmp" ∷ []) modes.Private) ∷
    line_of 14 (1 ∷ []) (Create (codes "x" ∷ codes "d" ∷ codes "tmp" ∷ []) modes.Open) ∷ [])

closed : List Class
closed = Open ∷ Private (codes "alice") ∷ Open ∷ Readable (codes "root") ∷ []

it_is_closed : way_to with_closed open_file ≡ closed
unfolding with_closed before open_file closed
it_is_closed = refl

closed_insiders : map (is_insider three_users closed with_closed) ([] ∷ (1 ∷ []) ∷ (1 ∷ 1 ∷ []) ∷ (2 ∷ []) ∷ []) ≡ false ∷ true ∷ false ∷ false ∷ []
unfolding with_closed before closed
closed_insiders = refl

-- 0.1 and bob's process read it
reads_it : List CallLine
reads_it = line_of 30 (1 ∷ []) (Read open_file) ∷ line_of 31 (2 ∷ []) (Read open_file) ∷ []

told_what_is_in_it : map (λ (other : Flat). map (λ (a : RepliedCall). a.reply) (unconfined three_users closed with_closed other reads_it))
    (with_bytes with_closed open_file (codes "one") ∷ with_bytes with_closed open_file (codes "other") ∷ [])
    ≡ (Data (codes "one") ∷ Refused EACCES ∷ []) ∷ (Data (codes "other") ∷ Refused EACCES ∷ []) ∷ []
unfolding with_closed before open_file closed reads_it
told_what_is_in_it = refl

-- whatever is in it, bob's replies are the same by the law, also while 0.1 calls
bob_is_told_the_same_of_it : replies_to (is_strangers three_users closed with_closed)
    (unconfined three_users closed with_closed (with_bytes with_closed open_file (codes "one")) (reads_it ++ bobs))
    ≡ replies_to (is_strangers three_users closed with_closed)
    (unconfined three_users closed with_closed (with_bytes with_closed open_file (codes "other")) (reads_it ++ bobs))
unfolding with_closed before open_file closed reads_it bobs
bob_is_told_the_same_of_it =
    only_insiders_release three_users with_closed (
      before ++ line_of 13 (1 ∷ []) (Mkdir (codes "d" ∷ codes "tmp" ∷ []) modes.Private) ∷
          line_of 14 (1 ∷ []) (Create (codes "x" ∷ codes "d" ∷ codes "tmp" ∷ []) modes.Open) ∷ [],
      refl,
    ) open_file closed
    (record { file = refl; classes = it_is_closed }) (with_bytes with_closed open_file (codes "one"))
    (with_bytes with_closed open_file (codes "other"))
    (other_bytes_differ with_closed open_file closed (record { file = refl; classes = it_is_closed }) (codes "one"))
    (other_bytes_differ with_closed open_file closed (record { file = refl; classes = it_is_closed }) (codes "other")) (reads_it ++ bobs)
    (reads_it ++ bobs) (record { alike = refl; no_login = refl; released = refl })
