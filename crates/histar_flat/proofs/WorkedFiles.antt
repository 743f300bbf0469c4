-- Worked scripts of three users in an open directory: what is printed, computed.
use Rattle.std.specs.Prelude.{◌≡◌, ℕ, zero, suc, ◌+◌, List, [], ◌∷◌, ◌++◌, codes, replicate, refl}
use Rattle.std.specs.Fmt.{decimal, digits}
use Rattle.histar_flat.specs.declared.calls.CallLine.{CallLine}
use Rattle.histar_flat.specs.declared.calls.Mode.TheVariants as modes
use Rattle.histar_flat.specs.declared.calls.UnixCall.TheVariants.{Create, Mkdir, Read, Write, Append, List as ListCall, Stat, Unlink, Rmdir, Rename}
use Rattle.histar_flat.specs.declared.calls.UnixCall.TheVariants.{Spawn, Whoami, Login, Wrap}
use Rattle.histar_flat.specs.Meaning.{meaning}
use Rattle.histar_flat.proofs.WorkedScripts.{line_of, printed, tree_after, three_users, tmp_made, tmp_printed, from_tmp, after_tmp}

-- in `/`, which is root's, a process of nobody makes nothing
pub nobody_makes_nothing_in_the_root : printed (meaning three_users (
    line_of 4 [] (Create (codes "a" ∷ []) modes.Open) ∷ [])) ≡
    codes "4 EACCES\n"
unfolding digits
nobody_makes_nothing_in_the_root = refl

-- in an open directory a process of nobody makes only open files, and starts no job; its child is nobody's too
pub nobody_in_an_open_directory : printed (meaning three_users (
    line_of 4 [] Spawn ∷
    line_of 5 [] (Login (codes "root") (codes "rr")) ∷
    line_of 6 [] (Mkdir (codes "tmp" ∷ []) modes.Open) ∷
    line_of 7 (1 ∷ []) (Create (codes "x" ∷ codes "tmp" ∷ []) modes.Private) ∷
    line_of 8 (1 ∷ []) (Create (codes "x" ∷ codes "tmp" ∷ []) modes.Open) ∷
    line_of 9 (1 ∷ []) (Stat (codes "x" ∷ codes "tmp" ∷ [])) ∷
    line_of 10 (1 ∷ []) (Wrap (codes "q" ∷ codes "tmp" ∷ [])) ∷
    line_of 11 (1 ∷ []) (ListCall (codes "tmp" ∷ [])) ∷
    line_of 12 (1 ∷ []) (Wrap (codes "q" ∷ [])) ∷
    line_of 13 (1 ∷ []) Spawn ∷ [])) ≡
    codes "4 ok 0.1\n5 ok\n6 ok\n7 EPERM\n8 ok\n9 ok file - open\n10 EPERM\n11 ok x\n12 EACCES\n13 ok 0.1.1\n"
unfolding digits
nobody_in_an_open_directory = refl

-- bob doesn't read a private file of alice; `stat` shows him its owner, and he removes it if the directory is open
pub private_file_in_an_open_directory : after_tmp (
    line_of 10 (1 ∷ []) (Create (codes "s" ∷ codes "tmp" ∷ []) modes.Private) ∷
    line_of 11 (1 ∷ []) (Write (codes "s" ∷ codes "tmp" ∷ []) (codes "deep secret")) ∷
    line_of 12 (2 ∷ []) (Read (codes "s" ∷ codes "tmp" ∷ [])) ∷
    line_of 13 (2 ∷ []) (Stat (codes "s" ∷ codes "tmp" ∷ [])) ∷
    line_of 14 (2 ∷ []) (Unlink (codes "s" ∷ codes "tmp" ∷ [])) ∷
    line_of 15 (1 ∷ []) (Read (codes "s" ∷ codes "tmp" ∷ [])) ∷ []) ≡
    codes "10 ok\n11 ok\n12 EACCES\n13 ok file alice private\n14 ok\n15 ENOENT\n"
unfolding digits
private_file_in_an_open_directory = refl

-- bob reads a readable file of alice, and doesn't write it; alice makes nothing in `/`
pub readable_file_in_an_open_directory : after_tmp (
    line_of 10 (1 ∷ []) (Create (codes "r" ∷ codes "tmp" ∷ []) modes.Readable) ∷
    line_of 11 (1 ∷ []) (Write (codes "r" ∷ codes "tmp" ∷ []) (codes "hi")) ∷
    line_of 12 (2 ∷ []) (Read (codes "r" ∷ codes "tmp" ∷ [])) ∷
    line_of 13 (2 ∷ []) (Append (codes "r" ∷ codes "tmp" ∷ []) (codes "x")) ∷
    line_of 14 (1 ∷ []) (Create (codes "r" ∷ []) modes.Readable) ∷ []) ≡
    codes "10 ok\n11 ok\n12 = hi\n13 EACCES\n14 EACCES\n"
unfolding digits
readable_file_in_an_open_directory = refl

-- after a wrong password the process keeps its user, and no process logs in as nobody
pub failed_logins : after_tmp (
    line_of 10 (1 ∷ []) (Create (codes "s" ∷ codes "tmp" ∷ []) modes.Private) ∷
    line_of 11 (1 ∷ []) (Write (codes "s" ∷ codes "tmp" ∷ []) (codes "x")) ∷
    line_of 12 (2 ∷ []) (Create (codes "b" ∷ codes "tmp" ∷ []) modes.Private) ∷
    line_of 13 (1 ∷ []) (Login (codes "bob") (codes "wrong")) ∷
    line_of 14 (1 ∷ []) (Read (codes "s" ∷ codes "tmp" ∷ [])) ∷
    line_of 15 (1 ∷ []) (Read (codes "b" ∷ codes "tmp" ∷ [])) ∷
    line_of 16 (1 ∷ []) Whoami ∷
    line_of 17 (1 ∷ []) (Login (codes "nobody") (codes "x")) ∷ []) ≡
    codes "10 ok\n11 ok\n12 ok\n13 EAUTH\n14 = x\n15 EACCES\n16 ok alice\n17 ENOENT\n"
unfolding digits
failed_logins = refl

-- a file has 4,096 bytes at most, and the right to write is tested before that
pub largest_file : after_tmp (
    line_of 10 (1 ∷ []) (Create (codes "b" ∷ codes "tmp" ∷ []) modes.Private) ∷
    line_of 11 (1 ∷ []) (Append (codes "b" ∷ codes "tmp" ∷ []) (replicate 1000 97)) ∷
    line_of 12 (1 ∷ []) (Append (codes "b" ∷ codes "tmp" ∷ []) (replicate 1000 97)) ∷
    line_of 13 (1 ∷ []) (Append (codes "b" ∷ codes "tmp" ∷ []) (replicate 1000 97)) ∷
    line_of 14 (1 ∷ []) (Append (codes "b" ∷ codes "tmp" ∷ []) (replicate 1000 97)) ∷
    line_of 15 (1 ∷ []) (Append (codes "b" ∷ codes "tmp" ∷ []) (replicate 90 97)) ∷
    line_of 16 (1 ∷ []) (Append (codes "b" ∷ codes "tmp" ∷ []) (codes "aaaaaaa")) ∷
    line_of 17 (1 ∷ []) (Append (codes "b" ∷ codes "tmp" ∷ []) (codes "aaaaaa")) ∷
    line_of 18 (1 ∷ []) (Append (codes "b" ∷ codes "tmp" ∷ []) (codes "")) ∷
    line_of 19 (1 ∷ []) (Append (codes "b" ∷ codes "tmp" ∷ []) (codes "a")) ∷
    line_of 20 (2 ∷ []) (Append (codes "b" ∷ codes "tmp" ∷ []) (codes "a")) ∷ []) ≡
    codes "10 ok\n11 ok\n12 ok\n13 ok\n14 ok\n15 ok\n16 EFBIG\n17 ok\n18 ok\n19 EFBIG\n20 EACCES\n"
unfolding digits
largest_file = refl

-- the replies for paths through files and through nothing, for `/`, and for names that are taken
pub refusals_of_paths : after_tmp (
    line_of 10 (1 ∷ []) (Create (codes "f" ∷ codes "tmp" ∷ []) modes.Open) ∷
    line_of 11 (1 ∷ []) (Read (codes "x" ∷ codes "f" ∷ codes "tmp" ∷ [])) ∷
    line_of 12 (1 ∷ []) (Read (codes "x" ∷ codes "none" ∷ codes "tmp" ∷ [])) ∷
    line_of 13 (1 ∷ []) (ListCall (codes "f" ∷ codes "tmp" ∷ [])) ∷
    line_of 14 (1 ∷ []) (Read (codes "tmp" ∷ [])) ∷
    line_of 15 (1 ∷ []) (Unlink ([])) ∷
    line_of 16 (1 ∷ []) (Mkdir ([]) modes.Open) ∷
    line_of 17 (1 ∷ []) (Rename (codes "f" ∷ codes "tmp" ∷ []) (codes "f")) ∷
    line_of 18 (1 ∷ []) (Rename (codes "f" ∷ codes "tmp" ∷ []) (codes "g")) ∷
    line_of 19 (1 ∷ []) (Rmdir (codes "g" ∷ codes "tmp" ∷ [])) ∷
    line_of 20 (1 ∷ []) (Rmdir (codes "tmp" ∷ [])) ∷
    line_of 21 (1 ∷ []) (Unlink (codes "g" ∷ codes "tmp" ∷ [])) ∷
    line_of 22 (1 ∷ []) (Rmdir (codes "tmp" ∷ [])) ∷ []) ≡
    codes "10 ok\n11 ENOTDIR\n12 ENOENT\n13 ENOTDIR\n14 EISDIR\n15 EBUSY\n16 EEXIST\n17 EEXIST\n18 ok\n19 ENOTDIR\n20 ENOTEMPTY\n21 ok\n22 EACCES\n"
unfolding digits
refusals_of_paths = refl

-- entries are listed by rising names, a directory's with a slash
pub entries_in_order : after_tmp (
    line_of 10 (1 ∷ []) (Mkdir (codes "a" ∷ codes "tmp" ∷ []) modes.Private) ∷
    line_of 11 (1 ∷ []) (Create (codes "f" ∷ codes "a" ∷ codes "tmp" ∷ []) modes.Private) ∷
    line_of 12 (1 ∷ []) (Write (codes "f" ∷ codes "a" ∷ codes "tmp" ∷ []) (codes "hello")) ∷
    line_of 13 (2 ∷ []) (Create (codes "a-b" ∷ codes "tmp" ∷ []) modes.Open) ∷
    line_of 14 (1 ∷ []) (Wrap (codes "j" ∷ codes "tmp" ∷ [])) ∷
    line_of 15 (2 ∷ []) (ListCall (codes "tmp" ∷ [])) ∷ []) ≡
    codes "10 ok\n11 ok\n12 ok\n13 ok\n14 ok 0.1.1\n15 ok a/ a-b j/\n"
unfolding digits
entries_in_order = refl

-- this many files that 0.1 makes in /tmp/d, on the lines from this one on, and named by their lines
abbrev files_made : ℕ → ℕ → List CallLine
files_made zero line = []
files_made (suc n) line =
    line_of line (1 ∷ []) (Create ((codes "f" ++ decimal line) ∷ codes "d" ∷ codes "tmp" ∷ []) modes.Private)
    ∷ files_made n (line + 1)

-- a directory has 64 entries at most; this is tested after a name that is taken, and before the right to write the directory
pub full_directory : from_tmp (
    line_of 10 (1 ∷ []) (Mkdir (codes "d" ∷ codes "tmp" ∷ []) modes.Readable) ∷ files_made 64 11 ++
    line_of 75 (2 ∷ []) (Create (codes "z" ∷ codes "d" ∷ codes "tmp" ∷ []) modes.Open) ∷
    line_of 76 (2 ∷ []) (Create (codes "f11" ∷ codes "d" ∷ codes "tmp" ∷ []) modes.Open) ∷
    line_of 77 (1 ∷ []) (Unlink (codes "f74" ∷ codes "d" ∷ codes "tmp" ∷ [])) ∷
    line_of 78 (2 ∷ []) (Create (codes "z" ∷ codes "d" ∷ codes "tmp" ∷ []) modes.Open) ∷ []) ≡
    tmp_printed ++
    codes
    "10 ok\n11 ok\n12 ok\n13 ok\n14 ok\n15 ok\n16 ok\n17 ok\n18 ok\n19 ok\n20 ok\n21 ok\n22 ok\n23 ok\n24 ok\n25 ok\n26 ok\n27 ok\n28 ok\n29 ok\n30 ok\n31 ok\n"
    ++
    codes
    "32 ok\n33 ok\n34 ok\n35 ok\n36 ok\n37 ok\n38 ok\n39 ok\n40 ok\n41 ok\n42 ok\n43 ok\n44 ok\n45 ok\n46 ok\n47 ok\n48 ok\n49 ok\n50 ok\n51 ok\n52 ok\n53 ok\n"
    ++
    codes
    "54 ok\n55 ok\n56 ok\n57 ok\n58 ok\n59 ok\n60 ok\n61 ok\n62 ok\n63 ok\n64 ok\n65 ok\n66 ok\n67 ok\n68 ok\n69 ok\n70 ok\n71 ok\n72 ok\n73 ok\n74 ok\n"
    ++
    codes "75 ENOSPC\n76 EEXIST\n77 ok\n78 EACCES\n"
unfolding digits
full_directory = refl

-- at the start the tree is `/` alone
pub tree_at_the_start : tree_after three_users [] ≡ codes "/ dir root readable\n"
tree_at_the_start = refl

-- a tree is printed by rising paths: what lies in a directory comes after it, and before a path whose name begins with the directory's name
pub tree_in_order : tree_after three_users (tmp_made ++
    line_of 10 (1 ∷ []) (Mkdir (codes "a" ∷ codes "tmp" ∷ []) modes.Private) ∷
    line_of 11 (1 ∷ []) (Create (codes "f" ∷ codes "a" ∷ codes "tmp" ∷ []) modes.Private) ∷
    line_of 12 (1 ∷ []) (Write (codes "f" ∷ codes "a" ∷ codes "tmp" ∷ []) (codes "hello")) ∷
    line_of 13 (2 ∷ []) (Create (codes "a-b" ∷ codes "tmp" ∷ []) modes.Open) ∷
    line_of 14 (1 ∷ []) (Wrap (codes "j" ∷ codes "tmp" ∷ [])) ∷
    line_of 15 (2 ∷ []) (ListCall (codes "tmp" ∷ [])) ∷ []) ≡
    codes
    "/ dir root readable\n/tmp dir - open\n/tmp/a dir alice private\n/tmp/a/f file alice private = hello\n/tmp/a-b file - open = \n/tmp/j dir alice scratch\n"
tree_in_order = refl
