-- Which processes may read a file of a class, which are bound by the class, and comparison of classes.
use Rattle.std.specs.Prelude.{◌≡◌, Bool, true, false, not, ◌&&◌, ◌||◌, List, [], ◌∷◌, refl}
use Rattle.std.specs.List.{list_all, list_any}
use Rattle.std.proofs.Common.{ap, sym, ◌∙◌, inl, inr}
use Rattle.std.proofs.lemmas.Bool.{true≢false, and_parts, not-true, or_cases}
use Rattle.std.proofs.Math.Bool.{or-true}
use Rattle.histar_flat.specs.Words.{Path, ProcName}
use Rattle.histar_base.specs.Paths.{same, same_path}
use Rattle.histar_flat.specs.Accounts.{Accounts, has, is_member}
use Rattle.histar_flat.specs.Classes.{Class, Process, carries, is_free, knows, may_read, may_write}
use Rattle.histar_flat.specs.Classes.Class.{Private, Readable, Open, Scratch, Grouped}
use Rattle.histar_flat.proofs.FileLemmas.{same_itself, same_path_found}
use Rattle.histar_noninterference.proofs.TestLemmas.{all_of, is_same, is_same_path}
use Rattle.histar_secrecy.specs.Ways.{reads_all, same_class}
use Rattle.histar_secrecy.specs.Roles.{holding_none, is_bound}
use Rattle.histar_secrecy.specs.Noninterference.{BoundWriteForReaders}
use Rattle.histar_secrecy.proofs.WriteRights.{all_more}

-- a process may read a file of a class as another does, if it is of the same user and knows the same jobs of the class
pub reads_as : (accounts : Accounts) (a b : Process) (class : Class) → a.user ≡ b.user
    → ((job : ProcName) → carries job class ≡ true → knows a job ≡ true → knows b job ≡ true)
    → may_read accounts a class ≡ true → may_read accounts b class ≡ true
reads_as accounts a b (Private owner) user more h = sym (ap (λ u. same u owner) user) ∙ h
reads_as accounts a b (Readable owner) user more h = refl
reads_as accounts a b Open user more h = refl
reads_as accounts a b (Scratch owner jobs) user more h =
    let parts = and_parts (same a.user owner) (list_all (knows a) jobs) h in
    λ i. (sym (ap (λ u. same u owner) user) ∙ parts.0) i && all_more jobs (knows a) (knows b) more parts.1 i
reads_as accounts a b (Grouped group) user more h = sym (ap (λ u. is_member accounts u group) user) ∙ h

-- a job in a list or in none is in the list
pub in_chain : (jobs : List ProcName) (job : ProcName) → (has jobs job || false) ≡ true → has jobs job ≡ true
in_chain jobs job h = elim (or_cases (has jobs job) false h) [ inl t ↦ t | inr t ↦ absurd (true≢false (sym t)) ]

-- the same, for a process that holds no jobs, if it is in the jobs of the class that the other is in
pub reads_inside : (accounts : Accounts) (a b : Process) (class : Class) → a.user ≡ b.user
    → ((job : ProcName) → has a.chain job ≡ true → has b.chain job ≡ true)
    → may_read accounts (holding_none a) class ≡ true → may_read accounts (holding_none b) class ≡ true
reads_inside accounts a b class user more h =
    reads_as accounts (holding_none a) (holding_none b) class user (λ job c k. ap (λ x. x || false) (more job (in_chain a.chain job k))) h

-- a process may read what it may read without the jobs that it holds
pub reads_holding : (accounts : Accounts) (a : Process) (class : Class) → may_read accounts (holding_none a) class ≡ true
    → may_read accounts a class ≡ true
reads_holding accounts a class h =
    reads_as accounts (holding_none a) a class refl (λ job c k. ap (λ x. x || has a.held job) (in_chain a.chain job k))
    h

-- a class of the way carries the job
abbrev pub on_way : ProcName → List Class → Bool
on_way job way = list_any (carries job) way

-- the same facts of all classes of a way
pub reads_all_as : (accounts : Accounts) (a b : Process) (way : List Class) → a.user ≡ b.user
    → ((job : ProcName) → on_way job way ≡ true → knows a job ≡ true → knows b job ≡ true)
    → reads_all accounts way a ≡ true → reads_all accounts way b ≡ true
reads_all_as accounts a b [] user more h = refl
reads_all_as accounts a b (c ∷ way) user more h =
    let parts = and_parts (may_read accounts a c) (reads_all accounts way a) h in
    λ i. reads_as accounts a b c user (λ job u. more job (ap (λ x. x || on_way job way) u)) parts.0 i
    && reads_all_as accounts a b way user (λ job u. more job (ap (λ x. carries job c || x) u ∙ or-true (carries job c))) parts.1 i

pub reads_all_holding : (accounts : Accounts) (a : Process) (way : List Class) → reads_all accounts way (holding_none a) ≡ true
    → reads_all accounts way a ≡ true
reads_all_holding accounts a way h =
    reads_all_as accounts (holding_none a) a way refl (λ job c k. ap (λ x. x || has a.held job) (in_chain a.chain job k))
    h

-- the first job of a process that is in some
pub first_job : (p : Process) → is_free p ≡ false → (job : ProcName) × (has p.chain job ≡ true)
first_job p = by p.chain
  where
    by : (chain : List ProcName) → (let b : Bool = elim chain [ [] ↦ true | k ∷ ks ↦ false ] in b) ≡ false → (job : ProcName) × (has chain job ≡ true)
    by [] h = absurd (true≢false h)
    by (k ∷ ks) h = (k, ap (λ b. b || has ks k) (same_itself k))

-- a process in a job is not in no job
pub in_a_job : (p : Process) (job : ProcName) → has p.chain job ≡ true → is_free p ≡ false
in_a_job p job = by p.chain
  where
    by : (chain : List ProcName) → has chain job ≡ true → (let b : Bool = elim chain [ [] ↦ true | k ∷ ks ↦ false ] in b) ≡ false
    by [] h = absurd (true≢false (sym h))
    by (k ∷ ks) h = refl

-- a bound process is in a job, and reads all of the way by the jobs that it is in
pub bound_parts : (accounts : Accounts) (way : List Class) (p : Process) → is_bound accounts way p ≡ true
    → (is_free p ≡ false) × (reads_all accounts way (holding_none p) ≡ true)
bound_parts accounts way p h =
    let parts = and_parts (not (is_free p)) (reads_all accounts way (holding_none p)) h in (not-true (is_free p) parts.0, parts.1)

-- a process in a job that reads all of the way by the jobs that it is in is bound
pub is_bound_by : (accounts : Accounts) (way : List Class) (p : Process) → is_free p ≡ false → reads_all accounts way (holding_none p) ≡ true
    → is_bound accounts way p ≡ true
is_bound_by accounts way p busy reads = λ i. not (busy i) && reads i

-- classes that are found the same are equal
pub is_same_class : (a b : Class) → same_class a b ≡ true → a ≡ b
is_same_class (Private u) (Private v) h = ap Private (is_same u v h)
is_same_class (Readable u) (Readable v) h = ap Readable (is_same u v h)
is_same_class Open Open h = refl
is_same_class (Scratch u jobs) (Scratch v others) h =
    let parts = and_parts (same u v) (same_path jobs others) h in λ i. Scratch (is_same u v parts.0 i) (is_same_path jobs others parts.1 i)
is_same_class (Grouped g) (Grouped k) h = ap Grouped (is_same g k h)
is_same_class _ _ h = absurd (true≢false (sym h))

same_path_itself : (q : Path) → same_path q q ≡ true
same_path_itself q = elim (same_path_found q q) [ inl t ↦ t.0 | inr t ↦ absurd (t.1 refl) ]

-- a class is the same as itself
pub same_class_itself : (a : Class) → same_class a a ≡ true
same_class_itself (Private u) = same_itself u
same_class_itself (Readable u) = same_itself u
same_class_itself Open = refl
same_class_itself (Scratch u jobs) = λ i. same_itself u i && same_path_itself jobs i
same_class_itself (Grouped g) = same_itself g

-- What a bound process may write, only readers of the whole way may read.
pub bound_write_for_readers : BoundWriteForReaders
bound_write_for_readers accounts way written p reader bound writes reads = each way parts.1
  where
    parts : (is_free p ≡ false) × (reads_all accounts way (holding_none p) ≡ true)
    parts = bound_parts accounts way p bound

    -- the class is scratch of p's user and of all its jobs
    IsWritten : Class → Type 0
    IsWritten (Scratch owner jobs) = (same p.user owner ≡ true) × (list_all (has jobs) p.chain ≡ true)
    IsWritten _ = ⊥

    written_scratch : (c : Class) → may_write accounts p c ≡ true → IsWritten c
    written_scratch (Private owner) w = true≢false (sym ((and_parts (same p.user owner) (is_free p) w).1) ∙ parts.0)
    written_scratch (Readable owner) w = true≢false (sym ((and_parts (same p.user owner) (is_free p) w).1) ∙ parts.0)
    written_scratch Open w = true≢false (sym w ∙ parts.0)
    written_scratch (Grouped group) w = true≢false (sym ((and_parts (is_member accounts p.user group) (is_free p) w).1) ∙ parts.0)
    written_scratch (Scratch owner jobs) w =
        let both = and_parts (same p.user owner && list_all (knows p) jobs) (list_all (has jobs) p.chain) w in
        ((and_parts (same p.user owner) (list_all (knows p) jobs) both.0).0, both.1)

    by : (c w : Class) → may_read accounts (holding_none p) c ≡ true → IsWritten w → may_read accounts reader w ≡ true
        → may_read accounts reader c ≡ true
    by c (Private owner) r x h = absurd x
    by c (Readable owner) r x h = absurd x
    by c Open r x h = absurd x
    by c (Grouped group) r x h = absurd x
    by c (Scratch owner jobs) r x h =
        let both = and_parts (same reader.user owner) (list_all (knows reader) jobs) h in
        let user : p.user ≡ reader.user = is_same p.user owner x.0 ∙ sym (is_same reader.user owner both.0) in
        reads_as accounts (holding_none p) reader c user
        (λ job carried k. all_of (knows reader) jobs job both.1 (all_of (has jobs) p.chain job x.1 (in_chain p.chain job k))) r

    each : (way : List Class) → reads_all accounts way (holding_none p) ≡ true → reads_all accounts way reader ≡ true
    each [] h = refl
    each (c ∷ way) h =
        let both = and_parts (may_read accounts (holding_none p) c) (reads_all accounts way (holding_none p)) h in
        λ i. by c written both.0 (written_scratch written writes) reads i && each way both.1 i
