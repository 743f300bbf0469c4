-- Worked scripts of members of a group, of others, and of their jobs: what is printed, computed.
use Rattle.std.specs.Prelude.{◌≡◌, ℕ, List, [], ◌∷◌, ◌++◌, codes, refl}
use Rattle.std.specs.Fmt.{digits}
use Rattle.histar_flat.specs.declared.calls.CallLine.{CallLine}
use Rattle.histar_flat.specs.declared.calls.Mode.TheVariants as modes
use Rattle.histar_flat.specs.declared.calls.UnixCall.TheVariants.{Create, Mkdir, Read, Write, Append, List as ListCall, Stat, Unlink, Rmdir, Rmtree}
use Rattle.histar_flat.specs.declared.calls.UnixCall.TheVariants.{Rename, Spawn, Login, Wrap}
use Rattle.histar_flat.specs.Accounts.{Accounts}
use Rattle.histar_flat.specs.Meaning.{meaning}
use Rattle.histar_flat.proofs.WorkedScripts.{line_of, printed, with_a_team}

-- root, who makes the open directory /tmp, has three children: 0.1 becomes alice's, 0.2 bob's, and 0.3 carol's
abbrev pub logins : List CallLine
logins =
    line_of 6 [] Spawn ∷
    line_of 7 [] Spawn ∷
    line_of 8 [] Spawn ∷
    line_of 9 [] (Login (codes "root") (codes "rr")) ∷
    line_of 10 [] (Mkdir (codes "tmp" ∷ []) modes.Open) ∷
    line_of 11 (1 ∷ []) (Login (codes "alice") (codes "aa")) ∷
    line_of 12 (2 ∷ []) (Login (codes "bob") (codes "bb")) ∷
    line_of 13 (3 ∷ []) (Login (codes "carol") (codes "cc")) ∷ []

-- what is printed of them
abbrev pub logins_printed : List ℕ
logins_printed = codes "6 ok 0.1\n7 ok 0.2\n8 ok 0.3\n9 ok\n10 ok\n11 ok\n12 ok\n13 ok\n"

-- what is printed of a script that goes on from there
abbrev after_the_logins : List CallLine → List ℕ
after_the_logins calls = printed (meaning with_a_team (logins ++ calls))

-- members read and write a file of their group, whoever of them made it
pub members_share_a_file : after_the_logins (
    line_of 14 (1 ∷ []) (Create (codes "g" ∷ codes "tmp" ∷ []) (modes.Group (codes "team"))) ∷
    line_of 15 (1 ∷ []) (Write (codes "g" ∷ codes "tmp" ∷ []) (codes "one")) ∷
    line_of 16 (2 ∷ []) (Append (codes "g" ∷ codes "tmp" ∷ []) (codes "two")) ∷
    line_of 17 (1 ∷ []) (Read (codes "g" ∷ codes "tmp" ∷ [])) ∷
    line_of 18 (2 ∷ []) (Write (codes "g" ∷ codes "tmp" ∷ []) (codes "bye")) ∷
    line_of 19 (1 ∷ []) (Read (codes "g" ∷ codes "tmp" ∷ [])) ∷
    line_of 20 (1 ∷ []) (Stat (codes "g" ∷ codes "tmp" ∷ [])) ∷ []) ≡
    logins_printed ++ codes "14 ok\n15 ok\n16 ok\n17 = onetwo\n18 ok\n19 = bye\n20 ok file - group:team\n"
unfolding digits
members_share_a_file = refl

-- a user that is no member, root among them, doesn't read or write the file and makes nothing of the group; `stat` shows its group, and in
-- an open directory such a user renames and removes it
pub who_is_no_member : after_the_logins (
    line_of 14 (1 ∷ []) (Create (codes "g" ∷ codes "tmp" ∷ []) (modes.Group (codes "team"))) ∷
    line_of 15 (1 ∷ []) (Write (codes "g" ∷ codes "tmp" ∷ []) (codes "hi")) ∷
    line_of 16 (3 ∷ []) (Read (codes "g" ∷ codes "tmp" ∷ [])) ∷
    line_of 17 (3 ∷ []) (Write (codes "g" ∷ codes "tmp" ∷ []) (codes "x")) ∷
    line_of 18 (3 ∷ []) (Append (codes "g" ∷ codes "tmp" ∷ []) (codes "x")) ∷
    line_of 19 (3 ∷ []) (Stat (codes "g" ∷ codes "tmp" ∷ [])) ∷
    line_of 20 (3 ∷ []) (Create (codes "h" ∷ codes "tmp" ∷ []) (modes.Group (codes "team"))) ∷
    line_of 21 (3 ∷ []) (Mkdir (codes "h" ∷ codes "tmp" ∷ []) (modes.Group (codes "team"))) ∷
    line_of 22 [] (Read (codes "g" ∷ codes "tmp" ∷ [])) ∷
    line_of 23 [] (Create (codes "h" ∷ codes "tmp" ∷ []) (modes.Group (codes "team"))) ∷
    line_of 24 (3 ∷ []) (Rename (codes "g" ∷ codes "tmp" ∷ []) (codes "h")) ∷
    line_of 25 (1 ∷ []) (Read (codes "h" ∷ codes "tmp" ∷ [])) ∷
    line_of 26 (3 ∷ []) (Unlink (codes "h" ∷ codes "tmp" ∷ [])) ∷
    line_of 27 (1 ∷ []) (Read (codes "h" ∷ codes "tmp" ∷ [])) ∷ []) ≡
    logins_printed
    ++ codes
    "14 ok\n15 ok\n16 EACCES\n17 EACCES\n18 EACCES\n19 ok file - group:team\n20 EPERM\n21 EPERM\n22 EACCES\n23 EPERM\n24 ok\n25 = hi\n26 ok\n27 ENOENT\n"
unfolding digits
who_is_no_member = refl

-- a directory of a group is its members': others don't look into it, and another member removes a private file in it
pub directory_of_a_group : after_the_logins (
    line_of 14 (1 ∷ []) (Mkdir (codes "d" ∷ codes "tmp" ∷ []) (modes.Group (codes "team"))) ∷
    line_of 15 (1 ∷ []) (Create (codes "s" ∷ codes "d" ∷ codes "tmp" ∷ []) modes.Private) ∷
    line_of 16 (2 ∷ []) (Create (codes "g" ∷ codes "d" ∷ codes "tmp" ∷ []) (modes.Group (codes "team"))) ∷
    line_of 17 (2 ∷ []) (ListCall (codes "d" ∷ codes "tmp" ∷ [])) ∷
    line_of 18 (2 ∷ []) (Read (codes "s" ∷ codes "d" ∷ codes "tmp" ∷ [])) ∷
    line_of 19 (3 ∷ []) (ListCall (codes "d" ∷ codes "tmp" ∷ [])) ∷
    line_of 20 (3 ∷ []) (Stat (codes "d" ∷ codes "tmp" ∷ [])) ∷
    line_of 21 (3 ∷ []) (Stat (codes "s" ∷ codes "d" ∷ codes "tmp" ∷ [])) ∷
    line_of 22 (3 ∷ []) (Create (codes "x" ∷ codes "d" ∷ codes "tmp" ∷ []) modes.Open) ∷
    line_of 23 (3 ∷ []) (Rmdir (codes "d" ∷ codes "tmp" ∷ [])) ∷
    line_of 24 (2 ∷ []) (Unlink (codes "s" ∷ codes "d" ∷ codes "tmp" ∷ [])) ∷
    line_of 25 (1 ∷ []) (Rename (codes "g" ∷ codes "d" ∷ codes "tmp" ∷ []) (codes "h")) ∷
    line_of 26 (2 ∷ []) (Rmdir (codes "d" ∷ codes "tmp" ∷ [])) ∷
    line_of 27 (3 ∷ []) (Rmtree (codes "d" ∷ codes "tmp" ∷ [])) ∷
    line_of 28 (1 ∷ []) (ListCall (codes "tmp" ∷ [])) ∷ []) ≡
    logins_printed
    ++ codes
    "14 ok\n15 ok\n16 ok\n17 ok g s\n18 EACCES\n19 EACCES\n20 ok dir - group:team\n21 EACCES\n22 EACCES\n23 EACCES\n24 ok\n25 ok\n26 ENOTEMPTY\n27 ok\n28 ok\n"
unfolding digits
directory_of_a_group = refl

-- a member's job reads a file of the group and doesn't write it; what it makes for the group is scratch, and other members don't see it
pub job_of_a_member : after_the_logins (
    line_of 14 (1 ∷ []) (Create (codes "g" ∷ codes "tmp" ∷ []) (modes.Group (codes "team"))) ∷
    line_of 15 (2 ∷ []) (Write (codes "g" ∷ codes "tmp" ∷ []) (codes "hi")) ∷
    line_of 16 (2 ∷ []) (Wrap (codes "j" ∷ codes "tmp" ∷ [])) ∷
    line_of 17 (1 ∷ 2 ∷ []) (Read (codes "g" ∷ codes "tmp" ∷ [])) ∷
    line_of 18 (1 ∷ 2 ∷ []) (Append (codes "g" ∷ codes "tmp" ∷ []) (codes "x")) ∷
    line_of 19 (1 ∷ 2 ∷ []) (Write (codes "g" ∷ codes "tmp" ∷ []) (codes "x")) ∷
    line_of 20 (1 ∷ 2 ∷ []) (Create (codes "h" ∷ codes "tmp" ∷ []) (modes.Group (codes "team"))) ∷
    line_of 21 (1 ∷ 2 ∷ []) (Mkdir (codes "d" ∷ codes "j" ∷ codes "tmp" ∷ []) (modes.Group (codes "team"))) ∷
    line_of 22 (1 ∷ 2 ∷ []) (Create (codes "o" ∷ codes "d" ∷ codes "j" ∷ codes "tmp" ∷ []) (modes.Group (codes "team"))) ∷
    line_of 23 (2 ∷ []) (Stat (codes "d" ∷ codes "j" ∷ codes "tmp" ∷ [])) ∷
    line_of 24 (1 ∷ []) (ListCall (codes "j" ∷ codes "tmp" ∷ [])) ∷
    line_of 25 (2 ∷ []) (Append (codes "g" ∷ codes "tmp" ∷ []) (codes "x")) ∷
    line_of 26 (1 ∷ 2 ∷ []) (Read (codes "g" ∷ codes "tmp" ∷ [])) ∷ []) ≡
    logins_printed
    ++ codes
    "14 ok\n15 ok\n16 ok 0.2.1\n17 = hi\n18 EACCES\n19 EACCES\n20 EACCES\n21 ok\n22 ok\n23 ok dir bob scratch\n24 EACCES\n25 ok\n26 = hix\n"
unfolding digits
job_of_a_member = refl

-- a job in a member's job reads the group's file too, and writes nothing but its own scratch
pub job_in_a_job_of_a_member : after_the_logins (
    line_of 14 (1 ∷ []) (Create (codes "g" ∷ codes "tmp" ∷ []) (modes.Group (codes "team"))) ∷
    line_of 15 (2 ∷ []) (Write (codes "g" ∷ codes "tmp" ∷ []) (codes "hi")) ∷
    line_of 16 (2 ∷ []) (Wrap (codes "j" ∷ codes "tmp" ∷ [])) ∷
    line_of 17 (1 ∷ 2 ∷ []) (Wrap (codes "k" ∷ codes "j" ∷ codes "tmp" ∷ [])) ∷
    line_of 18 (1 ∷ 1 ∷ 2 ∷ []) (Read (codes "g" ∷ codes "tmp" ∷ [])) ∷
    line_of 19 (1 ∷ 1 ∷ 2 ∷ []) (Append (codes "g" ∷ codes "tmp" ∷ []) (codes "x")) ∷
    line_of 20 (1 ∷ 1 ∷ 2 ∷ []) (Create (codes "o" ∷ codes "k" ∷ codes "j" ∷ codes "tmp" ∷ []) (modes.Group (codes "team"))) ∷
    line_of 21 (1 ∷ 2 ∷ []) (Stat (codes "o" ∷ codes "k" ∷ codes "j" ∷ codes "tmp" ∷ [])) ∷
    line_of 22 (1 ∷ 1 ∷ 2 ∷ []) (Create (codes "o" ∷ codes "j" ∷ codes "tmp" ∷ []) (modes.Group (codes "team"))) ∷
    line_of 23 (1 ∷ 2 ∷ []) (Create (codes "o" ∷ codes "j" ∷ codes "tmp" ∷ []) (modes.Group (codes "team"))) ∷
    line_of 24 (1 ∷ 1 ∷ 2 ∷ []) (Read (codes "o" ∷ codes "j" ∷ codes "tmp" ∷ [])) ∷
    line_of 25 (1 ∷ 1 ∷ 2 ∷ []) (Write (codes "o" ∷ codes "j" ∷ codes "tmp" ∷ []) (codes "z")) ∷
    line_of 26 (2 ∷ []) (Read (codes "o" ∷ codes "k" ∷ codes "j" ∷ codes "tmp" ∷ [])) ∷
    line_of 27 (1 ∷ []) (ListCall (codes "j" ∷ codes "tmp" ∷ [])) ∷ []) ≡
    logins_printed
    ++ codes
    "14 ok\n15 ok\n16 ok 0.2.1\n17 ok 0.2.1.1\n18 = hi\n19 EACCES\n20 ok\n21 ok file bob scratch\n22 EACCES\n23 ok\n24 = \n25 EACCES\n26 EACCES\n27 EACCES\n"
unfolding digits
job_in_a_job_of_a_member = refl

-- the job of a user that is no member reads nothing of the group, and makes scratch for whatever mode is named
pub job_of_no_member : after_the_logins (
    line_of 14 (1 ∷ []) (Create (codes "g" ∷ codes "tmp" ∷ []) (modes.Group (codes "team"))) ∷
    line_of 15 (3 ∷ []) (Wrap (codes "j" ∷ codes "tmp" ∷ [])) ∷
    line_of 16 (1 ∷ 3 ∷ []) (Read (codes "g" ∷ codes "tmp" ∷ [])) ∷
    line_of 17 (1 ∷ 3 ∷ []) (Append (codes "g" ∷ codes "tmp" ∷ []) (codes "x")) ∷
    line_of 18 (1 ∷ 3 ∷ []) (Create (codes "o" ∷ codes "j" ∷ codes "tmp" ∷ []) (modes.Group (codes "team"))) ∷
    line_of 19 (3 ∷ []) (Stat (codes "o" ∷ codes "j" ∷ codes "tmp" ∷ [])) ∷
    line_of 20 (3 ∷ []) (Create (codes "p" ∷ codes "j" ∷ codes "tmp" ∷ []) (modes.Group (codes "team"))) ∷ []) ≡
    logins_printed ++ codes "14 ok\n15 ok 0.3.1\n16 EACCES\n17 EACCES\n18 ok\n19 ok file carol scratch\n20 EPERM\n"
unfolding digits
job_of_no_member = refl

-- a process is a member while its user is one: logins change that, and a child is as its parent is
pub logins_of_members : after_the_logins (
    line_of 14 (1 ∷ []) (Create (codes "g" ∷ codes "tmp" ∷ []) (modes.Group (codes "team"))) ∷
    line_of 15 (3 ∷ []) (Read (codes "g" ∷ codes "tmp" ∷ [])) ∷
    line_of 16 (3 ∷ []) (Login (codes "bob") (codes "bb")) ∷
    line_of 17 (3 ∷ []) (Write (codes "g" ∷ codes "tmp" ∷ []) (codes "hi")) ∷
    line_of 18 (3 ∷ []) (Login (codes "carol") (codes "no")) ∷
    line_of 19 (3 ∷ []) (Read (codes "g" ∷ codes "tmp" ∷ [])) ∷
    line_of 20 (3 ∷ []) (Login (codes "carol") (codes "cc")) ∷
    line_of 21 (3 ∷ []) (Read (codes "g" ∷ codes "tmp" ∷ [])) ∷
    line_of 22 (1 ∷ []) Spawn ∷
    line_of 23 (1 ∷ 1 ∷ []) (Append (codes "g" ∷ codes "tmp" ∷ []) (codes "x")) ∷
    line_of 24 (1 ∷ 1 ∷ []) (Login (codes "root") (codes "rr")) ∷
    line_of 25 (1 ∷ 1 ∷ []) (Read (codes "g" ∷ codes "tmp" ∷ [])) ∷
    line_of 26 (1 ∷ []) (Read (codes "g" ∷ codes "tmp" ∷ [])) ∷ []) ≡
    logins_printed ++ codes "14 ok\n15 EACCES\n16 ok\n17 ok\n18 EAUTH\n19 = hi\n20 ok\n21 EACCES\n22 ok 0.1.1\n23 ok\n24 ok\n25 EACCES\n26 = hix\n"
unfolding digits
logins_of_members = refl

-- a process without a login is no member
pub nobody_is_no_member : printed (meaning with_a_team (
    line_of 6 [] Spawn ∷
    line_of 7 [] Spawn ∷
    line_of 8 [] (Login (codes "root") (codes "rr")) ∷
    line_of 9 [] (Mkdir (codes "tmp" ∷ []) modes.Open) ∷
    line_of 10 (2 ∷ []) (Login (codes "alice") (codes "aa")) ∷
    line_of 11 (2 ∷ []) (Create (codes "g" ∷ codes "tmp" ∷ []) (modes.Group (codes "team"))) ∷
    line_of 12 (1 ∷ []) (Read (codes "g" ∷ codes "tmp" ∷ [])) ∷
    line_of 13 (1 ∷ []) (Stat (codes "g" ∷ codes "tmp" ∷ [])) ∷
    line_of 14 (1 ∷ []) (Create (codes "h" ∷ codes "tmp" ∷ []) (modes.Group (codes "team"))) ∷ [])) ≡
    codes "6 ok 0.1\n7 ok 0.2\n8 ok\n9 ok\n10 ok\n11 ok\n12 EACCES\n13 ok file - group:team\n14 EPERM\n"
unfolding digits
nobody_is_no_member = refl

-- the same users, and a second group, of bob and carol
abbrev with_two_groups : Accounts
with_two_groups = record {
  users = with_a_team.users;
  groups = with_a_team.groups ++ record { name = codes "pair"; members = codes "bob" ∷ codes "carol" ∷ [] } ∷ [];
}

-- a member of both groups shares the files of both, the others those of their own; his job reads both
pub two_groups : printed (meaning with_two_groups (
    line_of 7 [] Spawn ∷
    line_of 8 [] Spawn ∷
    line_of 9 [] Spawn ∷
    line_of 10 [] (Login (codes "root") (codes "rr")) ∷
    line_of 11 [] (Mkdir (codes "tmp" ∷ []) modes.Open) ∷
    line_of 12 (1 ∷ []) (Login (codes "alice") (codes "aa")) ∷
    line_of 13 (2 ∷ []) (Login (codes "bob") (codes "bb")) ∷
    line_of 14 (3 ∷ []) (Login (codes "carol") (codes "cc")) ∷
    line_of 15 (1 ∷ []) (Create (codes "a" ∷ codes "tmp" ∷ []) (modes.Group (codes "team"))) ∷
    line_of 16 (3 ∷ []) (Create (codes "b" ∷ codes "tmp" ∷ []) (modes.Group (codes "pair"))) ∷
    line_of 17 (1 ∷ []) (Create (codes "c" ∷ codes "tmp" ∷ []) (modes.Group (codes "pair"))) ∷
    line_of 18 (2 ∷ []) (Write (codes "a" ∷ codes "tmp" ∷ []) (codes "hi")) ∷
    line_of 19 (2 ∷ []) (Write (codes "b" ∷ codes "tmp" ∷ []) (codes "bye")) ∷
    line_of 20 (1 ∷ []) (Read (codes "b" ∷ codes "tmp" ∷ [])) ∷
    line_of 21 (3 ∷ []) (Read (codes "a" ∷ codes "tmp" ∷ [])) ∷
    line_of 22 (3 ∷ []) (Read (codes "b" ∷ codes "tmp" ∷ [])) ∷
    line_of 23 (2 ∷ []) (Stat (codes "b" ∷ codes "tmp" ∷ [])) ∷
    line_of 24 (2 ∷ []) (Wrap (codes "j" ∷ codes "tmp" ∷ [])) ∷
    line_of 25 (1 ∷ 2 ∷ []) (Read (codes "a" ∷ codes "tmp" ∷ [])) ∷
    line_of 26 (1 ∷ 2 ∷ []) (Read (codes "b" ∷ codes "tmp" ∷ [])) ∷
    line_of 27 (1 ∷ 2 ∷ []) (Append (codes "b" ∷ codes "tmp" ∷ []) (codes "x")) ∷ [])) ≡
    codes
    "7 ok 0.1\n8 ok 0.2\n9 ok 0.3\n10 ok\n11 ok\n12 ok\n13 ok\n14 ok\n15 ok\n16 ok\n17 EPERM\n18 ok\n19 ok\n20 EACCES\n21 EACCES\n22 = bye\n23 ok file - group:pair\n24 ok 0.2.1\n25 = hi\n26 = bye\n27 EACCES\n"
unfolding digits
two_groups = refl
