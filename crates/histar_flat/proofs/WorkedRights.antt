-- Worked rights: which classes each process may read and write, and what it makes, computed.
use Rattle.std.specs.Prelude.{◌≡◌, Bool, true, false, List, [], ◌∷◌, codes, Option, Some, None, map, refl}
use Rattle.histar_flat.specs.declared.calls.Mode.TheVariants as modes
use Rattle.histar_flat.specs.Words.{ProcName}
use Rattle.histar_flat.specs.Accounts.{Accounts}
use Rattle.histar_flat.specs.Classes.{Class, Process, may_read, may_write, class_made}
use Rattle.histar_flat.specs.Classes.Class.{Private, Readable, Open, Scratch, Grouped}
use Rattle.histar_flat.specs.Meaning.{first_process}

-- the job 0.1, and the job 0.1.1 that was started in it
abbrev outer : ProcName
outer = 1 ∷ []

abbrev inner : ProcName
inner = 1 ∷ 1 ∷ []

-- the accounts with a group of which bob is the member
abbrev of_team : Accounts
of_team = record { users = []; groups = record { name = codes "team"; members = codes "bob" ∷ [] } ∷ [] }

-- bob's classes, from private to the scratch of the inner job
abbrev classes : List Class
classes = Private (codes "bob") ∷ Readable (codes "bob") ∷ Open ∷ Scratch (codes "bob") (outer ∷ []) ∷ Scratch (codes "bob") (outer ∷ inner ∷ []) ∷ []

-- the classes that a process may read, and those that it may write
abbrev readable : Process → List Bool
readable p = map (may_read of_team p) classes

abbrev writable : Process → List Bool
writable p = map (may_write of_team p) classes

-- what a process makes for `private`, and for `readable`
abbrev made : Process → List (Option Class)
made p = class_made of_team p modes.Private ∷ class_made of_team p modes.Readable ∷ []

-- root's process, bob's, bob's in these jobs, and bob's that holds these jobs
abbrev of_root : Process
of_root = record first_process { user = codes "root" }

abbrev of_bob : List ProcName → List ProcName → Process
of_bob chain held = record first_process { user = codes "bob"; chain = chain; held = held }

-- processes of nobody and of other users read readable and open files, and write open ones
pub rights_of_nobody : (readable first_process ≡ false ∷ true ∷ true ∷ false ∷ false ∷ [])
    × (writable first_process ≡ false ∷ false ∷ true ∷ false ∷ false ∷ [])
rights_of_nobody = (refl, refl)

pub rights_of_root : (readable of_root ≡ false ∷ true ∷ true ∷ false ∷ false ∷ []) × (writable of_root ≡ false ∷ false ∷ true ∷ false ∷ false ∷ [])
rights_of_root = (refl, refl)

-- bob reads and writes what is his, but for the scratch of jobs that his process doesn't hold
pub rights_of_bob : (readable (of_bob [] []) ≡ true ∷ true ∷ true ∷ false ∷ false ∷ [])
    × (writable (of_bob [] []) ≡ true ∷ true ∷ true ∷ false ∷ false ∷ [])
rights_of_bob = (refl, refl)

-- a process that holds the outer job reads and writes the scratch of that job too
pub rights_of_a_holder : (readable (of_bob [] (outer ∷ [])) ≡ true ∷ true ∷ true ∷ true ∷ false ∷ [])
    × (writable (of_bob [] (outer ∷ [])) ≡ true ∷ true ∷ true ∷ true ∷ false ∷ [])
rights_of_a_holder = (refl, refl)

-- in the outer job a process reads as its user, and writes that job's scratch alone
pub rights_in_a_job : (readable (of_bob (outer ∷ []) []) ≡ true ∷ true ∷ true ∷ true ∷ false ∷ [])
    × (writable (of_bob (outer ∷ []) []) ≡ false ∷ false ∷ false ∷ true ∷ false ∷ [])
rights_in_a_job = (refl, refl)

-- a process in the outer job that holds the inner one writes the scratch of the inner one too
pub rights_of_a_holder_in_a_job : (readable (of_bob (outer ∷ []) (inner ∷ [])) ≡ true ∷ true ∷ true ∷ true ∷ true ∷ [])
    × (writable (of_bob (outer ∷ []) (inner ∷ [])) ≡ false ∷ false ∷ false ∷ true ∷ true ∷ [])
rights_of_a_holder_in_a_job = (refl, refl)

-- in the inner job it reads the scratch of both, and writes only that of the inner one
pub rights_in_an_inner_job : (readable (of_bob (outer ∷ inner ∷ []) []) ≡ true ∷ true ∷ true ∷ true ∷ true ∷ [])
    × (writable (of_bob (outer ∷ inner ∷ []) []) ≡ false ∷ false ∷ false ∷ false ∷ true ∷ [])
rights_in_an_inner_job = (refl, refl)

-- the scratch of a user is closed to other users, in whatever job their process is
pub rights_of_another_user_in_the_job :
    (readable (record of_root { chain = outer ∷ [] }) ≡ false ∷ true ∷ true ∷ false ∷ false ∷ [])
    × (writable (record of_root { chain = outer ∷ [] }) ≡ false ∷ false ∷ false ∷ false ∷ false ∷ [])
rights_of_another_user_in_the_job = (refl, refl)

-- a process of nobody makes no file of these modes
pub made_by_nobody : made first_process ≡ None ∷ None ∷ []
made_by_nobody = refl

-- a process of a user makes the user's files
pub made_by_bob : made (of_bob [] (outer ∷ [])) ≡ Some (Private (codes "bob")) ∷ Some (Readable (codes "bob")) ∷ []
made_by_bob = refl

-- in a job a process makes scratch of all its jobs, whatever mode is named
pub made_in_a_job : made (of_bob (outer ∷ inner ∷ []) [])
    ≡ Some (Scratch (codes "bob") (outer ∷ inner ∷ [])) ∷ Some (Scratch (codes "bob") (outer ∷ inner ∷ [])) ∷ []
made_in_a_job = refl

-- every process makes open files, and a member's makes a group's; in a job both are scratch
pub made_open : class_made of_team first_process modes.Open ≡ Some Open
made_open = refl

pub made_for_a_group : (class_made of_team (of_bob [] []) (modes.Group (codes "team")) ≡ Some (Grouped (codes "team")))
    × (class_made of_team of_root (modes.Group (codes "team")) ≡ None)
made_for_a_group = (refl, refl)

pub made_for_a_group_in_a_job : class_made of_team (of_bob (outer ∷ []) []) (modes.Group (codes "team")) ≡ Some (Scratch (codes "bob") (outer ∷ []))
made_for_a_group_in_a_job = refl

-- a group's files are read by its members, and written by those in no job
pub rights_of_a_member : map (λ p. may_read of_team p (Grouped (codes "team")))
    (of_bob [] [] ∷ of_bob (outer ∷ []) [] ∷ of_root ∷ first_process ∷ []) ≡ true ∷ true ∷ false ∷ false ∷ []
rights_of_a_member = refl

pub writing_of_a_member : map (λ p. may_write of_team p (Grouped (codes "team")))
    (of_bob [] [] ∷ of_bob (outer ∷ []) [] ∷ of_root ∷ first_process ∷ []) ≡ true ∷ false ∷ false ∷ false ∷ []
writing_of_a_member = refl
