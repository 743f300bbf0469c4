-- Worked scripts: the replies of the meaning, computed.
use Rattle.std.specs.Prelude.{◌≡◌, ℕ, zero, suc, List, [], ◌∷◌, ◌++◌, codes, map, replicate, refl, Some}
use Rattle.std.specs.Fmt.{decimal, digits}
use Rattle.histar_flat.specs.declared.calls.CallLine.{CallLine}
use Rattle.histar_flat.specs.declared.calls.Mode.TheVariants.{Private, Readable}
use Rattle.histar_flat.specs.declared.calls.UnixCall.{UnixCall}
use Rattle.histar_flat.specs.declared.calls.UnixCall.TheVariants.{Create, Read, Write, Login}
use Rattle.histar_flat.specs.declared.replies.Errno.TheVariants.{ENOENT, ENOTDIR, EISDIR, EEXIST, EACCES, EPERM, ENOSPC, EFBIG, EAUTH}
use Rattle.histar_flat.specs.declared.replies.Reply.{Reply}
use Rattle.histar_flat.specs.declared.replies.Reply.TheVariants.{Done, Data, Refused, Gone}
use Rattle.histar_flat.specs.Words.{Path}
use Rattle.histar_flat.specs.Accounts.{Accounts}
use Rattle.histar_flat.specs.Files.{get}
use Rattle.histar_flat.specs.Classes.Class.{Open, Scratch, Private as PrivateClass, Readable as ReadableClass}
use Rattle.histar_flat.specs.FlatState.{Flat, with_node, with_process}
use Rattle.histar_flat.specs.FlatState.Content.{Dir, File}
use Rattle.histar_flat.specs.FlatCalls.{reply_to}
use Rattle.histar_flat.specs.Meaning.{RepliedCall, boot, flat_end, meaning, answered_from, first_process}
use Rattle.histar_flat.proofs.WorkedScripts.{printed}

-- the users of the scripts: root, who is the first, and bob
abbrev users : Accounts
users =
    record {
      users = record { name = codes "root"; password = codes "rr" }
          ∷ record { name = codes "bob"; password = codes "bb" } ∷ [];
      groups = [];
    }

abbrev root_alone : Accounts
root_alone = record { users = record { name = codes "root"; password = codes "rr" } ∷ []; groups = [] }

-- a call line of process 0, and one of its first child
abbrev by_zero : ℕ → UnixCall → CallLine
by_zero line call = record { line = line; process = []; call = call }

abbrev by_child : ℕ → UnixCall → CallLine
by_child line call = record { line = line; process = 1 ∷ []; call = call }

abbrev root_logs_in : UnixCall
root_logs_in = Login (codes "root") (codes "rr")

abbrev bob_logs_in : UnixCall
bob_logs_in = Login (codes "bob") (codes "bb")

-- two entries of `/`
abbrev path_a : Path
path_a = codes "a" ∷ []

abbrev path_b : Path
path_b = codes "b" ∷ []

-- the replies, each with the number of its line
abbrev replied : List RepliedCall → List (ℕ × Reply)
replied = map (λ (a : RepliedCall). (a.call.line, a.reply))

-- no call, no reply
pub nothing_asked : replied (meaning users []) ≡ []
nothing_asked = refl

-- one user makes a file, writes it and reads it
pub one_user : replied (meaning root_alone (
    by_zero 2 root_logs_in ∷
    by_zero 3 (Create path_a Private) ∷
    by_zero 4 (Write path_a (codes "hello")) ∷
    by_zero 5 (Read path_a) ∷ [])) ≡
    (2, Done) ∷
    (3, Done) ∷
    (4, Done) ∷
    (5, Data (codes "hello")) ∷ []
one_user = refl

-- two users: a private file, a wrong password, and what the other user may not do
pub two_users : replied (meaning users (
    by_zero 3 (Create path_a Readable) ∷
    by_zero 4 root_logs_in ∷
    by_zero 5 (Create path_a Private) ∷
    by_zero 6 (Write path_a (codes "hello world")) ∷
    by_zero 7 (Login (codes "root") (codes "no")) ∷
    by_zero 8 (Read path_a) ∷
    by_zero 9 bob_logs_in ∷
    by_zero 10 (Read path_a) ∷
    by_zero 11 (Read path_b) ∷
    by_zero 12 (Create path_a Readable) ∷
    by_zero 13 (Create path_b Readable) ∷ [])) ≡
    (3, Refused EACCES) ∷
    (4, Done) ∷
    (5, Done) ∷
    (6, Done) ∷
    (7, Refused EAUTH) ∷
    (8, Data (codes "hello world")) ∷
    (9, Done) ∷
    (10, Refused EACCES) ∷
    (11, Refused ENOENT) ∷
    (12, Refused EEXIST) ∷
    (13, Refused EACCES) ∷ []
two_users = refl

-- the same script as it is printed
pub two_users_printed : printed (meaning users (
    by_zero 3 (Create path_a Readable) ∷
    by_zero 4 root_logs_in ∷
    by_zero 5 (Create path_a Private) ∷
    by_zero 6 (Write path_a (codes "hello world")) ∷
    by_zero 7 (Login (codes "root") (codes "no")) ∷
    by_zero 8 (Read path_a) ∷
    by_zero 9 bob_logs_in ∷
    by_zero 10 (Read path_a) ∷
    by_zero 11 (Read path_b) ∷
    by_zero 12 (Create path_a Readable) ∷
    by_zero 13 (Create path_b Readable) ∷
    by_child 14 (Read path_a) ∷ [])) ≡
    codes "3 EACCES\n4 ok\n5 ok\n6 ok\n7 EAUTH\n8 = hello world\n9 ok\n10 EACCES\n11 ENOENT\n12 EEXIST\n13 EACCES\n14 gone\n"
unfolding digits
two_users_printed = refl

-- a new file is empty, and its line ends with the space
pub empty_file : printed (meaning users (
    by_zero 3 root_logs_in ∷
    by_zero 4 (Create path_a Private) ∷
    by_zero 5 (Read path_a) ∷ [])) ≡
    codes "3 ok\n4 ok\n5 = \n"
unfolding digits
empty_file = refl

-- a write replaces all bytes that were there
pub written_twice : replied (meaning users (
    by_zero 3 root_logs_in ∷
    by_zero 4 (Create path_a Private) ∷
    by_zero 5 (Write path_a (codes "hello world")) ∷
    by_zero 6 (Write path_a (codes "bye")) ∷
    by_zero 7 (Read path_a) ∷ [])) ≡
    (3, Done) ∷
    (4, Done) ∷
    (5, Done) ∷
    (6, Done) ∷
    (7, Data (codes "bye")) ∷ []
written_twice = refl

-- a file that exists is refused before the right to make one, and stays as it is
pub file_that_exists : replied (meaning users (
    by_zero 3 root_logs_in ∷
    by_zero 4 (Create path_a Readable) ∷
    by_zero 5 (Write path_a (codes "one")) ∷
    by_zero 6 (Create path_a Private) ∷
    by_zero 7 bob_logs_in ∷
    by_zero 8 (Create path_a Private) ∷
    by_zero 9 (Read path_a) ∷ [])) ≡
    (3, Done) ∷
    (4, Done) ∷
    (5, Done) ∷
    (6, Refused EEXIST) ∷
    (7, Done) ∷
    (8, Refused EEXIST) ∷
    (9, Data (codes "one")) ∷ []
file_that_exists = refl

-- a name that isn't there
pub nothing_there : replied (meaning users (
    by_zero 3 (Read path_a) ∷
    by_zero 4 (Write path_a (codes "x")) ∷ [])) ≡
    (3, Refused ENOENT) ∷
    (4, Refused ENOENT) ∷ []
nothing_there = refl

-- after a wrong password the process keeps its user
pub wrong_password : replied (meaning users (
    by_zero 3 root_logs_in ∷
    by_zero 4 (Create path_a Private) ∷
    by_zero 5 (Login (codes "bob") (codes "rr")) ∷
    by_zero 6 (Read path_a) ∷ [])) ≡
    (3, Done) ∷
    (4, Done) ∷
    (5, Refused EAUTH) ∷
    (6, Data []) ∷ []
wrong_password = refl

-- a user that is not declared doesn't exist, and no process logs in as nobody
pub unknown_user : replied (meaning users (
    by_zero 3 (Login (codes "alice") (codes "rr")) ∷
    by_zero 4 (Login (codes "nobody") (codes "x")) ∷ [])) ≡
    (3, Refused ENOENT) ∷
    (4, Refused ENOENT) ∷ []
unknown_user = refl

-- a process of nobody makes no file in root's directory
pub nobody_in_the_directory_of_root : replied (meaning users (
    by_zero 3 (Create path_a Private) ∷
    by_zero 4 (Create path_a Readable) ∷ [])) ≡
    (3, Refused EACCES) ∷
    (4, Refused EACCES) ∷ []
nobody_in_the_directory_of_root = refl

-- `/` is no file
pub root_directory : replied (meaning users (
    by_zero 3 root_logs_in ∷
    by_zero 4 (Create [] Private) ∷
    by_zero 5 (Read []) ∷
    by_zero 6 (Write [] (codes "x")) ∷ [])) ≡
    (3, Done) ∷
    (4, Refused EEXIST) ∷
    (5, Refused EISDIR) ∷
    (6, Refused EISDIR) ∷ []
root_directory = refl

-- a process that was never born is gone, and changes nothing
pub never_born : replied (meaning users (
    by_zero 3 root_logs_in ∷
    by_child 4 (Create path_a Private) ∷
    by_child 5 bob_logs_in ∷
    by_zero 6 (Create path_a Private) ∷ [])) ≡
    (3, Done) ∷
    (4, Gone) ∷
    (5, Gone) ∷
    (6, Done) ∷ []
never_born = refl

-- a path that leads through a file, and one through nothing
pub through_a_file : replied (meaning users (
    by_zero 3 root_logs_in ∷
    by_zero 4 (Create path_a Private) ∷
    by_zero 5 (Read (codes "x" ∷ path_a)) ∷
    by_zero 6 (Read (codes "x" ∷ path_b)) ∷ [])) ≡
    (3, Done) ∷
    (4, Done) ∷
    (5, Refused ENOTDIR) ∷
    (6, Refused ENOENT) ∷ []
through_a_file = refl

-- a file holds 4,096 bytes, and no more
pub largest_file : reply_to users
    (flat_end users (boot users) (by_zero 3 root_logs_in ∷ by_zero 4 (Create path_a Private) ∷ [])) []
    (Write path_a (replicate 4096 97)) ≡ Done
largest_file = refl

pub too_large_a_file : reply_to users
    (flat_end users (boot users) (by_zero 3 root_logs_in ∷ by_zero 4 (Create path_a Private) ∷ [])) []
    (Write path_a (replicate 4097 97)) ≡ Refused EFBIG
too_large_a_file = refl

-- this many files, named f1, f2 and on
abbrev numbered_files : ℕ → List CallLine
numbered_files zero = []
numbered_files (suc n) = by_zero n (Create ((codes "f" ++ decimal n) ∷ []) Private) ∷ numbered_files n

-- a directory has 64 entries, and no more; this is tested before the right to write it
pub full_directory : replied (answered_from users (flat_end users (boot users) (by_zero 3 root_logs_in ∷ numbered_files 64)) (
    by_zero 68 (Create path_a Private) ∷
    by_zero 69 (Create (codes "f7" ∷ []) Private) ∷
    by_zero 70 bob_logs_in ∷
    by_zero 71 (Create path_a Private) ∷ [])) ≡
    (68, Refused ENOSPC) ∷
    (69, Refused EEXIST) ∷
    (70, Done) ∷
    (71, Refused ENOSPC) ∷ []
unfolding digits
full_directory = refl

pub directory_with_room : reply_to users (flat_end users (boot users) (by_zero 3 root_logs_in ∷ numbered_files 63)) [] (Create path_a Private) ≡ Done
unfolding digits
directory_with_room = refl

-- a state that no calls lead to: `/` is open, /d is a private directory of root, and process 0 is nobody's
abbrev open_root : Flat
open_root = with_node (with_node (boot users) [] Open Dir) (codes "d" ∷ []) (PrivateClass (codes "root")) Dir

-- in an open directory a process of nobody makes no file of these modes, and bob makes his own
pub nobody_owns_nothing : replied (answered_from users open_root (
    by_zero 3 (Create path_a Private) ∷
    by_zero 4 (Create path_a Readable) ∷
    by_zero 5 bob_logs_in ∷
    by_zero 6 (Create path_a Private) ∷ [])) ≡
    (3, Refused EPERM) ∷
    (4, Refused EPERM) ∷
    (5, Done) ∷
    (6, Done) ∷ []
nobody_owns_nothing = refl

-- a walk stops at a directory that may not be read, before it reveals what is there
pub unreadable_directory : replied (answered_from users open_root (
    by_zero 3 (Read (codes "x" ∷ codes "d" ∷ [])) ∷
    by_zero 4 (Read (codes "d" ∷ [])) ∷
    by_zero 5 root_logs_in ∷
    by_zero 6 (Read (codes "x" ∷ codes "d" ∷ [])) ∷ [])) ≡
    (3, Refused EACCES) ∷
    (4, Refused EISDIR) ∷
    (5, Done) ∷
    (6, Refused ENOENT) ∷ []
unreadable_directory = refl

-- process 0 is bob's and in the job 0.1, which has the directory /j; /a is bob's own
abbrev in_a_job : Flat
in_a_job = with_process
    (with_node (with_node (boot users) (codes "j" ∷ []) (Scratch (codes "bob") ((1 ∷ []) ∷ [])) Dir) path_a
    (PrivateClass (codes "bob")) (File (codes "deep")))
    [] (record first_process { user = codes "bob"; chain = (1 ∷ []) ∷ [] })

-- in a job a process reads as its user, writes only in its job, makes what is the job's whatever mode is named, and logs in as no one
pub job : replied (answered_from users in_a_job (
    by_zero 3 (Read path_a) ∷
    by_zero 4 (Write path_a (codes "no")) ∷
    by_zero 5 (Create path_b Readable) ∷
    by_zero 6 (Create (codes "out" ∷ codes "j" ∷ []) Readable) ∷
    by_zero 7 (Write (codes "out" ∷ codes "j" ∷ []) (codes "result")) ∷
    by_zero 8 (Read (codes "out" ∷ codes "j" ∷ [])) ∷
    by_zero 9 bob_logs_in ∷
    by_zero 10 (Login (codes "bob") (codes "no")) ∷
    by_zero 11 (Login (codes "alice") (codes "no")) ∷ [])) ≡
    (3, Data (codes "deep")) ∷
    (4, Refused EACCES) ∷
    (5, Refused EACCES) ∷
    (6, Done) ∷
    (7, Done) ∷
    (8, Data (codes "result")) ∷
    (9, Refused EACCES) ∷
    (10, Refused EACCES) ∷
    (11, Refused ENOENT) ∷ []
job = refl

-- process 0 is bob's and holds the job 0.1, which has the directory /j
abbrev holding_a_job : Flat
holding_a_job = with_process in_a_job [] (record first_process { user = codes "bob"; held = (1 ∷ []) ∷ [] })

-- a process that holds a job works in its directory; what it makes there is its own, and a login releases the job
pub held_job : replied (answered_from users holding_a_job (
    by_zero 3 (Create (codes "in" ∷ codes "j" ∷ []) Private) ∷
    by_zero 4 (Write (codes "in" ∷ codes "j" ∷ []) (codes "data")) ∷
    by_zero 5 (Write path_a (codes "new")) ∷
    by_zero 6 (Login (codes "bob") (codes "no")) ∷
    by_zero 7 (Read (codes "in" ∷ codes "j" ∷ [])) ∷
    by_zero 8 bob_logs_in ∷
    by_zero 9 (Read (codes "in" ∷ codes "j" ∷ [])) ∷
    by_zero 10 (Read path_a) ∷ [])) ≡
    (3, Done) ∷
    (4, Done) ∷
    (5, Done) ∷
    (6, Refused EAUTH) ∷
    (7, Data (codes "data")) ∷
    (8, Done) ∷
    (9, Refused EACCES) ∷
    (10, Data (codes "new")) ∷ []
held_job = refl

-- a process that has exited is gone
pub exited : reply_to users (with_process (boot users) [] (record first_process { exited = Some 7 })) [] root_logs_in ≡ Gone
exited = refl

-- at the start everyone may read `/`, and its owner is the first user
pub start : get (boot users).files [] ≡ Some (record { class = ReadableClass (codes "root"); content = Dir })
start = refl
