-- A worked session in which each sentence is said, computed.
use Rattle.std.specs.Prelude.{◌≡◌, ℕ, ◌+◌, List, [], ◌∷◌, ◌++◌, codes, map, replicate, refl}
use Rattle.std.specs.List.{range_with_len}
use Rattle.std.specs.Fmt.{decimal, digits}
use Rattle.histar_flat.specs.declared.calls.CallLine.{CallLine}
use Rattle.histar_flat.specs.declared.calls.Mode.TheVariants as modes
use Rattle.histar_flat.specs.declared.calls.UnixCall.{UnixCall}
use Rattle.histar_flat.specs.declared.calls.UnixCall.TheVariants.{Create, Mkdir, Read, Write, Append, List as ListCall, Rmdir}
use Rattle.histar_flat.specs.declared.calls.UnixCall.TheVariants.{Rename, Spawn, Exit, Status}
use Rattle.histar_flat.specs.declared.calls.UnixCall.TheVariants.{Kill, Whoami, Login, Wrap}
use Rattle.histar_flat.specs.Words.{ProcName}
use Rattle.histar_flat.specs.Meaning.{boot, flat_end}
use Rattle.histar_flat.specs.Accounts.{Accounts}
use Rattle.histar_flat.proofs.WorkedScripts.{line_of}
use Rattle.histar_reasons.specs.Sentences.{why_lines}

-- root, alice, bob and carol, and a group of alice and bob
abbrev team : Accounts
team = record {
  users =
      record { name = codes "root"; password = codes "rr" } ∷ record { name = codes "alice"; password = codes "aa" }
      ∷ record { name = codes "bob"; password = codes "bb" } ∷ record { name = codes "carol"; password = codes "cc" } ∷ [];
  groups = record { name = codes "team"; members = codes "alice" ∷ codes "bob" ∷ [] } ∷ [];
}

-- what root, alice, bob and carol call
abbrev calls : List CallLine
calls =
    line_of 6 ([]) Spawn ∷
    line_of 7 ([]) Spawn ∷
    line_of 8 ([]) Spawn ∷
    line_of 9 ([]) (Create (codes "x" ∷ []) modes.Private) ∷
    line_of 10 ([]) (Login (codes "root") (codes "rr")) ∷
    line_of 11 ([]) (Mkdir (codes "tmp" ∷ []) modes.Open) ∷
    line_of 12 (1 ∷ []) (Create (codes "x" ∷ codes "tmp" ∷ []) modes.Private) ∷
    line_of 13 (1 ∷ []) (Create (codes "x" ∷ codes "tmp" ∷ []) (modes.Group (codes "team"))) ∷
    line_of 14 (1 ∷ []) (Wrap (codes "j" ∷ codes "tmp" ∷ [])) ∷
    line_of 15 (1 ∷ []) (Login (codes "alice") (codes "aa")) ∷
    line_of 16 (2 ∷ []) (Login (codes "bob") (codes "bx")) ∷
    line_of 17 (2 ∷ []) (Login (codes "dave") (codes "dd")) ∷
    line_of 18 (2 ∷ []) (Login (codes "bob") (codes "bb")) ∷
    line_of 19 (3 ∷ []) (Login (codes "carol") (codes "cc")) ∷
    line_of 20 (1 ∷ []) (Mkdir (codes "alice" ∷ codes "tmp" ∷ []) modes.Private) ∷
    line_of 21 (2 ∷ []) (ListCall (codes "alice" ∷ codes "tmp" ∷ [])) ∷
    line_of 22 (2 ∷ []) (Read (codes "diary" ∷ codes "alice" ∷ codes "tmp" ∷ [])) ∷
    line_of 23 (1 ∷ []) (Read (codes "diary" ∷ codes "alice" ∷ codes "tmp" ∷ [])) ∷
    line_of 24 (1 ∷ []) (Read (codes "b" ∷ codes "a" ∷ [])) ∷
    line_of 25 (1 ∷ []) (Create (codes "diary" ∷ codes "tmp" ∷ []) modes.Private) ∷
    line_of 26 (2 ∷ []) (Write (codes "diary" ∷ codes "tmp" ∷ []) (codes "hi")) ∷
    line_of 27 (1 ∷ []) (Create (codes "plan" ∷ codes "tmp" ∷ []) (modes.Group (codes "team"))) ∷
    line_of 28 (3 ∷ []) (Read (codes "plan" ∷ codes "tmp" ∷ [])) ∷
    line_of 29 (3 ∷ []) (Append (codes "plan" ∷ codes "tmp" ∷ []) (codes "x")) ∷
    line_of 30 (1 ∷ []) (Create (codes "note" ∷ codes "tmp" ∷ []) modes.Readable) ∷
    line_of 31 (2 ∷ []) (Write (codes "note" ∷ codes "tmp" ∷ []) (codes "hi")) ∷
    line_of 32 (1 ∷ []) (Read (codes "x" ∷ codes "note" ∷ codes "tmp" ∷ [])) ∷
    line_of 33 (1 ∷ []) (ListCall (codes "note" ∷ codes "tmp" ∷ [])) ∷
    line_of 34 (1 ∷ []) (Read (codes "tmp" ∷ [])) ∷
    line_of 35 (1 ∷ []) (Read ([])) ∷
    line_of 36 (1 ∷ []) (Create ([]) modes.Open) ∷
    line_of 37 (1 ∷ []) (Create (codes "note" ∷ codes "tmp" ∷ []) modes.Open) ∷
    line_of 38 (1 ∷ []) (Rename (codes "note" ∷ codes "tmp" ∷ []) (codes "plan")) ∷
    line_of 39 (1 ∷ []) (Rmdir ([])) ∷
    line_of 40 (1 ∷ []) (Rmdir (codes "tmp" ∷ [])) ∷
    line_of 41 (1 ∷ []) (Mkdir (codes "a" ∷ codes "alice" ∷ codes "tmp" ∷ []) modes.Open) ∷
    line_of 42 (1 ∷ []) (Rmdir (codes "alice" ∷ codes "tmp" ∷ [])) ∷
    line_of 43 (1 ∷ []) (Wrap (codes "scan" ∷ codes "tmp" ∷ [])) ∷
    line_of 44 (1 ∷ 1 ∷ []) (Read (codes "note" ∷ codes "tmp" ∷ [])) ∷
    line_of 45 (1 ∷ 1 ∷ []) (Write (codes "note" ∷ codes "tmp" ∷ []) (codes "x")) ∷
    line_of 46 (1 ∷ 1 ∷ []) (Create (codes "out" ∷ codes "scan" ∷ codes "tmp" ∷ []) modes.Open) ∷
    line_of 47 (2 ∷ []) (ListCall (codes "scan" ∷ codes "tmp" ∷ [])) ∷
    line_of 48 (1 ∷ []) Spawn ∷
    line_of 49 (2 ∷ 1 ∷ []) (ListCall (codes "scan" ∷ codes "tmp" ∷ [])) ∷
    line_of 50 (2 ∷ 1 ∷ []) (Status (1 ∷ 1 ∷ [])) ∷
    line_of 51 (2 ∷ []) (Status (1 ∷ 9 ∷ [])) ∷
    line_of 52 (2 ∷ []) (Kill (1 ∷ [])) ∷
    line_of 53 (1 ∷ 1 ∷ []) (Login (codes "alice") (codes "aa")) ∷
    line_of 54 (1 ∷ 1 ∷ []) (Wrap (codes "in" ∷ codes "scan" ∷ codes "tmp" ∷ [])) ∷
    line_of 55 (1 ∷ 1 ∷ 1 ∷ []) (Append (codes "note" ∷ codes "tmp" ∷ []) (codes "x")) ∷
    line_of 56 (1 ∷ 1 ∷ 1 ∷ []) (Append (codes "out" ∷ codes "scan" ∷ codes "tmp" ∷ []) (codes "x")) ∷
    line_of 57 (3 ∷ []) (Exit 3) ∷
    line_of 58 (3 ∷ []) Whoami ∷
    line_of 59 (1 ∷ []) (Kill (1 ∷ 1 ∷ [])) ∷
    line_of 60 (1 ∷ 1 ∷ []) Whoami ∷
    line_of 61 (1 ∷ 1 ∷ 1 ∷ []) Whoami ∷
    line_of 62 (7 ∷ []) Whoami ∷
    line_of 63 (2 ∷ 1 ∷ []) (ListCall (codes "scan" ∷ codes "tmp" ∷ [])) ∷ []

-- why these calls are refused
abbrev calls_said : List ℕ
calls_said =
    codes "!9 EACCES: 0 (nobody) may not write /: it is readable, and root alone writes it\n" ++
    codes "!12 EPERM: user nobody makes only what is open\n" ++
    codes "!13 EPERM: user nobody is not in group team\n" ++
    codes "!14 EPERM: user nobody starts no job\n" ++
    codes "!16 EAUTH: that is not the password of bob\n" ++
    codes "!17 ENOENT: there is no user dave\n" ++
    codes "!21 EACCES: 0.2 (bob) may not read /tmp/alice: it is private, of alice\n" ++
    codes "!22 EACCES: 0.2 (bob) may not read /tmp/alice: it is private, of alice\n" ++
    codes "!23 ENOENT: there is no /tmp/alice/diary\n" ++
    codes "!24 ENOENT: there is no /a\n" ++
    codes "!26 EACCES: 0.2 (bob) may not write /tmp/diary: it is private, of alice\n" ++
    codes "!28 EACCES: 0.3 (carol) may not read /tmp/plan: it is of group team, which user carol is not in\n" ++
    codes "!29 EACCES: 0.3 (carol) may not write /tmp/plan: it is of group team, which user carol is not in\n" ++
    codes "!31 EACCES: 0.2 (bob) may not write /tmp/note: it is readable, and alice alone writes it\n" ++
    codes "!32 ENOTDIR: /tmp/note is a file\n" ++
    codes "!33 ENOTDIR: /tmp/note is a file\n" ++
    codes "!34 EISDIR: /tmp is a directory\n" ++
    codes "!35 EISDIR: / is a directory\n" ++
    codes "!36 EEXIST: / is there already\n" ++
    codes "!37 EEXIST: /tmp/note is there already\n" ++
    codes "!38 EEXIST: /tmp/plan is there already\n" ++
    codes "!39 EBUSY: / can be neither removed nor renamed\n" ++
    codes "!40 ENOTEMPTY: /tmp has 4 entries\n" ++
    codes "!42 ENOTEMPTY: /tmp/alice has 1 entry\n" ++
    codes "!45 EACCES: 0.1.1 (alice, in job 0.1.1) may not write /tmp/note: it is not of job 0.1.1, which 0.1.1 is in\n" ++
    codes "!47 EACCES: 0.2 (bob) may not read /tmp/scan: it is scratch, of alice\n" ++
    codes "!49 EACCES: 0.1.2 (alice) may not read /tmp/scan: 0.1.2 neither is in job 0.1.1 nor holds it\n" ++
    codes "!50 EACCES: 0.1.2 (alice) does not see 0.1.1: 0.1.2 neither is in job 0.1.1 nor holds it\n" ++
    codes "!51 ESRCH: there is no process 0.9\n" ++
    codes "!52 EACCES: 0.1 is no child of 0.2\n" ++
    codes "!53 EACCES: 0.1.1 is in job 0.1.1, and no process in a job logs in\n" ++
    codes "!55 EACCES: 0.1.1.1 (alice, in job 0.1.1.1) may not write /tmp/note: it is not of job 0.1.1, which 0.1.1.1 is in\n" ++
    codes "!56 EACCES: 0.1.1.1 (alice, in job 0.1.1.1) may not write /tmp/scan/out: it is not of job 0.1.1.1, which 0.1.1.1 is in\n" ++
    codes "!58 gone: 0.3 has exited\n" ++
    codes "!60 gone: 0.1.1 was killed\n" ++
    codes "!61 gone: 0.1.1 was killed\n" ++
    codes "!62 gone: 0.7 was never started\n" ++
    codes "!63 EACCES: 0.1.2 (alice) may not read /tmp/scan: 0.1.2 neither is in job 0.1.1 nor holds it\n"

pub each_is_said : why_lines team (boot team) calls ≡ calls_said
unfolding digits
each_is_said = refl

-- these calls, from this line on
abbrev lines_from : ℕ → List (ProcName × UnixCall) → List CallLine
lines_from line [] = []
lines_from line (c ∷ calls) = line_of line c.0 c.1 ∷ lines_from (line + 1) calls

-- alice appends 900 bytes; bob makes a file of this number in /tmp/full; bob's process 0.2 has a child, and so has the one of these numbers
abbrev appends : ProcName × UnixCall
appends = (1 ∷ [], Append (codes "note" ∷ codes "tmp" ∷ []) (replicate 900 97))

abbrev makes_file : ℕ → ProcName × UnixCall
makes_file n = (2 ∷ [], Create ((codes "f" ++ decimal n) ∷ codes "full" ∷ codes "tmp" ∷ []) modes.Open)

abbrev spawns_below : ℕ → ProcName × UnixCall
spawns_below n = (replicate n 1 ++ 64 ∷ 2 ∷ [], Spawn)

-- what is counted: bytes, entries, children and numbers
abbrev counts : List CallLine
counts = lines_from 64 (
    replicate 5 appends ++ (2 ∷ [], Mkdir (codes "full" ∷ codes "tmp" ∷ []) modes.Open) ∷ map makes_file (range_with_len 0 65)
    ++ (2 ∷ [], Rmdir (codes "full" ∷ codes "tmp" ∷ [])) ∷ replicate 65 (2 ∷ [], Spawn) ++ map spawns_below (range_with_len 0 6)
    )

-- why one is too many
abbrev counts_said : List ℕ
counts_said =
    codes "!68 EFBIG: /tmp/note would have 4500 bytes, and 4096 is the most\n" ++
    codes "!134 ENOSPC: /tmp/full has 64 entries, and 64 is the most\n" ++
    codes "!135 ENOTEMPTY: /tmp/full has 64 entries\n" ++
    codes "!200 EAGAIN: 0.2 has had 64 children, and 64 is the most\n" ++
    codes "!206 EAGAIN: the name 0.2.64.1.1.1.1.1 has 8 numbers, and 8 is the most\n"

pub each_count_is_said : why_lines team (flat_end team (boot team) calls) counts ≡ counts_said
unfolding digits
each_count_is_said = refl
