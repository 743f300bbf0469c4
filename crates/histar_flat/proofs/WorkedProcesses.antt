-- Worked scripts of root and bob, of their directories, processes and logins: what is printed, computed.
use Rattle.std.specs.Prelude.{◌≡◌, [], ◌∷◌, codes, refl}
use Rattle.std.specs.Fmt.{digits}
use Rattle.histar_flat.specs.declared.calls.Mode.TheVariants as modes
use Rattle.histar_flat.specs.declared.calls.UnixCall.TheVariants.{Create, Mkdir, Read, Append, List as ListCall, Stat, Rmdir, Rmtree, Rename, Spawn}
use Rattle.histar_flat.specs.declared.calls.UnixCall.TheVariants.{Exit, Status, Kill, Whoami, Login}
use Rattle.histar_flat.specs.Accounts.{Accounts}
use Rattle.histar_flat.specs.Meaning.{meaning}
use Rattle.histar_flat.proofs.WorkedScripts.{line_of, printed}

-- root, who is the first user, and bob
abbrev root_and_bob : Accounts
root_and_bob =
    record {
      users = record { name = codes "root"; password = codes "rr" }
          ∷ record { name = codes "bob"; password = codes "bb" } ∷ [];
      groups = [];
    }

abbrev root_alone : Accounts
root_alone = record { users = record { name = codes "root"; password = codes "rr" } ∷ []; groups = [] }

-- root makes directories and files in `/` and below; bob, in an open directory, renames and removes what he can't look into
pub directories : printed (meaning root_and_bob (
    line_of 3 [] (Login (codes "root") (codes "rr")) ∷
    line_of 4 [] (Mkdir (codes "tmp" ∷ []) modes.Open) ∷
    line_of 5 [] (Mkdir (codes "d" ∷ codes "tmp" ∷ []) modes.Private) ∷
    line_of 6 [] (Create (codes "f" ∷ codes "d" ∷ codes "tmp" ∷ []) modes.Private) ∷
    line_of 7 [] (Append (codes "f" ∷ codes "d" ∷ codes "tmp" ∷ []) (codes "ab")) ∷
    line_of 8 [] (Append (codes "f" ∷ codes "d" ∷ codes "tmp" ∷ []) (codes "c")) ∷
    line_of 9 [] (Read (codes "f" ∷ codes "d" ∷ codes "tmp" ∷ [])) ∷
    line_of 10 [] (Login (codes "bob") (codes "bb")) ∷
    line_of 11 [] (ListCall (codes "d" ∷ codes "tmp" ∷ [])) ∷
    line_of 12 [] (Read (codes "f" ∷ codes "d" ∷ codes "tmp" ∷ [])) ∷
    line_of 13 [] (Stat (codes "d" ∷ codes "tmp" ∷ [])) ∷
    line_of 14 [] (Rmdir (codes "d" ∷ codes "tmp" ∷ [])) ∷
    line_of 15 [] (Rename (codes "d" ∷ codes "tmp" ∷ []) (codes "e")) ∷
    line_of 16 [] (ListCall (codes "tmp" ∷ [])) ∷
    line_of 17 [] (ListCall []) ∷
    line_of 18 [] (Rmtree (codes "e" ∷ codes "tmp" ∷ [])) ∷
    line_of 19 [] (Rmtree (codes "tmp" ∷ [])) ∷
    line_of 20 [] (ListCall (codes "tmp" ∷ [])) ∷ [])) ≡
    codes
    "3 ok\n4 ok\n5 ok\n6 ok\n7 ok\n8 ok\n9 = abc\n10 ok\n11 EACCES\n12 EACCES\n13 ok dir root private\n14 EACCES\n15 ok\n16 ok e/\n17 ok tmp/\n18 ok\n19 EACCES\n20 ok\n"
unfolding digits
directories = refl

-- a child has its parent's user from its birth on; an exit leaves the children, and only a parent kills them, with all below them
pub processes : printed (meaning root_alone (
    line_of 2 [] Spawn ∷
    line_of 3 [] (Login (codes "root") (codes "rr")) ∷
    line_of 4 [] Spawn ∷
    line_of 5 (1 ∷ []) Whoami ∷
    line_of 6 (2 ∷ []) Whoami ∷
    line_of 7 (2 ∷ []) (Create (codes "s" ∷ []) modes.Private) ∷
    line_of 8 (1 ∷ []) (Read (codes "s" ∷ [])) ∷
    line_of 9 (2 ∷ []) Spawn ∷
    line_of 10 (2 ∷ []) (Exit 3) ∷
    line_of 11 (2 ∷ []) Whoami ∷
    line_of 12 (1 ∷ 2 ∷ []) Whoami ∷
    line_of 13 (1 ∷ []) (Status (2 ∷ [])) ∷
    line_of 14 (1 ∷ []) (Status (1 ∷ 2 ∷ [])) ∷
    line_of 15 [] (Kill (1 ∷ 2 ∷ [])) ∷
    line_of 16 [] (Kill (2 ∷ [])) ∷
    line_of 17 [] (Status (1 ∷ 2 ∷ [])) ∷
    line_of 18 (1 ∷ 2 ∷ []) Whoami ∷
    line_of 19 [] Spawn ∷
    line_of 20 [] (Status (4 ∷ [])) ∷
    line_of 21 [] (Status []) ∷
    line_of 22 (1 ∷ []) (Kill (1 ∷ [])) ∷ [])) ≡
    codes
    "2 ok 0.1\n3 ok\n4 ok 0.2\n5 ok nobody\n6 ok root\n7 ok\n8 EACCES\n9 ok 0.2.1\n10 ok\n11 gone\n12 ok root\n13 ok exited 3\n14 ok running\n15 EACCES\n16 ok\n17 ESRCH\n18 gone\n19 ok 0.3\n20 ESRCH\n21 ok running\n22 EACCES\n"
unfolding digits
processes = refl

-- a child logs in as another user and back, and its parent keeps its user
pub logins : printed (meaning root_and_bob (
    line_of 3 [] (Login (codes "root") (codes "rr")) ∷
    line_of 4 [] Spawn ∷
    line_of 5 (1 ∷ []) (Login (codes "bob") (codes "no")) ∷
    line_of 6 (1 ∷ []) Whoami ∷
    line_of 7 (1 ∷ []) (Login (codes "bob") (codes "bb")) ∷
    line_of 8 (1 ∷ []) (Create (codes "x" ∷ []) modes.Readable) ∷
    line_of 9 [] Whoami ∷
    line_of 10 (1 ∷ []) (Login (codes "root") (codes "rr")) ∷
    line_of 11 (1 ∷ []) (Create (codes "x" ∷ []) modes.Readable) ∷
    line_of 12 (1 ∷ []) (Login (codes "carol") (codes "c")) ∷ [])) ≡
    codes "3 ok\n4 ok 0.1\n5 EAUTH\n6 ok root\n7 ok\n8 EACCES\n9 ok root\n10 ok\n11 ok\n12 ENOENT\n"
unfolding digits
logins = refl
