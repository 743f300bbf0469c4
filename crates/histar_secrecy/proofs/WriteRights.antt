-- Rights on the way to a path: which of them let a process change what is there, and which processes have no more of them than others.
use Rattle.std.specs.Prelude.{◌≡◌, Bool, true, false, ◌&&◌, ◌||◌, List, [], ◌∷◌, Option, Some, None, refl}
use Rattle.std.specs.List.{list_all}
use Rattle.std.proofs.Common.{ap, sym, ◌∙◌, inl, inr}
use Rattle.std.proofs.lemmas.Bool.{true≢false, and_parts, or_cases, cases_Bool}
use Rattle.std.proofs.Math.Bool.{or-true}
use Rattle.histar_flat.specs.Words.{Path, ProcName}
use Rattle.histar_base.specs.Paths.{same}
use Rattle.histar_flat.specs.PathOrder.{under_path}
use Rattle.histar_flat.specs.Accounts.{Accounts, has, is_member}
use Rattle.histar_flat.specs.Files.{get}
use Rattle.histar_flat.specs.Classes.{Class, Process, carries, knows, may_read, may_write}
use Rattle.histar_flat.specs.Classes.Class.{Private, Readable, Open, Scratch, Grouped}
use Rattle.histar_flat.specs.FlatState.{Flat, Node, class_of, is_some_and, writes}
use Rattle.histar_flat.proofs.FileLemmas.{same_itself, same_path_found}
use Rattle.histar_flat.proofs.JobLaws.{writes_of_job}
use Rattle.histar_flat.proofs.Under.{under_child, under_itself}
use Rattle.histar_secrecy.specs.Ways.{reaches}
use Rattle.histar_secrecy.specs.Changers.{changes_at, may_change}

-- a process that may change what is at a path, or at a directory on the way to one below it, may change what is there
pub changes_on_the_way : (accounts : Accounts) (f : Flat) (p : Process) (r path : Path) → under_path r path ≡ true → changes_at accounts f p r ≡ true
    → may_change accounts f p path ≡ true
changes_on_the_way accounts f p r path u w = by path u
  where
    by : (path : Path) → under_path r path ≡ true → may_change accounts f p path ≡ true
    by [] u = elim (same_path_found r []) [
      | inl t ↦ ap (changes_at accounts f p) (sym t.1) ∙ w
      | inr t ↦ absurd (true≢false (sym u ∙ t.0))
    ]
    by (k ∷ e) u = elim (same_path_found r (k ∷ e)) [
      | inl t ↦ ap (λ b. b || may_change accounts f p e) (ap (changes_at accounts f p) (sym t.1) ∙ w)
      | inr t ↦
          ap (λ b. changes_at accounts f p (k ∷ e) || b) (by e (sym (ap (λ b. b || under_path r e) t.0) ∙ u))
          ∙ or-true (changes_at accounts f p (k ∷ e))
    ]

-- on the way to the path the one process has no more rights than the other
abbrev pub HasNoMore : Accounts → Flat → Path → Process → Process → Type 0
HasNoMore accounts f path a b = (r : Path) → under_path r path ≡ true → changes_at accounts f a r ≡ true → changes_at accounts f b r ≡ true

may_change_too : (accounts : Accounts) (f : Flat) (a b : Process) (path : Path) → HasNoMore accounts f path a b → may_change accounts f a path ≡ true
    → may_change accounts f b path ≡ true
may_change_too accounts f a b [] less h = less [] (under_itself same same_path_found []) h
may_change_too accounts f a b (n ∷ d) less h = elim (or_cases (changes_at accounts f a (n ∷ d)) (may_change accounts f a d) h) [
  | inl t ↦ ap (λ x. x || may_change accounts f b d) (less (n ∷ d) (under_itself same same_path_found (n ∷ d)) t)
  | inr t ↦
      ap (λ x. changes_at accounts f b (n ∷ d) || x) (may_change_too accounts f a b d (λ r u. less r (under_child same same_path_found r d n u)) t)
      ∙ or-true (changes_at accounts f b (n ∷ d))
]

-- a process with no more rights may not change what the other may not change
pub no_more_changes : (accounts : Accounts) (f : Flat) (a b : Process) (path : Path) → HasNoMore accounts f path a b
    → may_change accounts f b path ≡ false → may_change accounts f a path ≡ false
no_more_changes accounts f a b path less h = elim (cases_Bool (may_change accounts f a path)) [
  | inr t ↦ t
  | inl t ↦ absurd (true≢false (sym (may_change_too accounts f a b path less t) ∙ h))
]

-- if all of a list pass one test, they pass another that it implies for them
pub all_more : (jobs : List ProcName) (one other : ProcName → Bool) → ((job : ProcName) → has jobs job ≡ true → one job ≡ true → other job ≡ true)
    → list_all one jobs ≡ true → list_all other jobs ≡ true
all_more [] one other more h = refl
all_more (k ∷ jobs) one other more h =
    let parts = and_parts (one k) (list_all one jobs) h in
    λ i. more k (ap (λ b. b || has jobs k) (same_itself k)) parts.0 i
    && all_more jobs one other (λ job u. more job (ap (λ b. same job k || b) u ∙ or-true (same job k))) parts.1 i

-- a process of the same user, in the same jobs, that knows no more of the jobs of the class, writes no more of it
pub writes_no_more : (accounts : Accounts) (a b : Process) (class : Class) → a.user ≡ b.user → a.chain ≡ b.chain
    → ((job : ProcName) → carries job class ≡ true → knows a job ≡ true → knows b job ≡ true) → may_write accounts a class ≡ true
    → may_write accounts b class ≡ true
writes_no_more accounts a b (Private owner) user chain more h = sym (λ i. same (user i) owner && free (chain i)) ∙ h
  where
    free : List ProcName → Bool
    free jobs = let b : Bool = elim jobs [ [] ↦ true | k ∷ ks ↦ false ] in b
writes_no_more accounts a b (Readable owner) user chain more h = sym (λ i. same (user i) owner && free (chain i)) ∙ h
  where
    free : List ProcName → Bool
    free jobs = let b : Bool = elim jobs [ [] ↦ true | k ∷ ks ↦ false ] in b
writes_no_more accounts a b Open user chain more h = sym (ap free chain) ∙ h
  where
    free : List ProcName → Bool
    free jobs = let b : Bool = elim jobs [ [] ↦ true | k ∷ ks ↦ false ] in b
writes_no_more accounts a b (Scratch owner jobs) user chain more h =
    let inside = and_parts (same a.user owner && list_all (knows a) jobs) (list_all (has jobs) a.chain) h in
    let own = and_parts (same a.user owner) (list_all (knows a) jobs) inside.0 in
    λ i. (sym (ap (λ u. same u owner) user) ∙ own.0) i && all_more jobs (knows a) (knows b) more own.1 i
    && (sym (ap (list_all (has jobs)) chain) ∙ inside.1) i
writes_no_more accounts a b (Grouped group) user chain more h = sym (λ i. is_member accounts (user i) group && free (chain i)) ∙ h
  where
    free : List ProcName → Bool
    free jobs = let b : Bool = elim jobs [ [] ↦ true | k ∷ ks ↦ false ] in b

-- a process in a job that the class doesn't carry may not write the class
pub writes_not : (accounts : Accounts) (p : Process) (class : Class) (job : ProcName) → has p.chain job ≡ true → carries job class ≡ false
    → may_write accounts p class ≡ true → ⊥
writes_not accounts p class job inside out h = true≢false (sym (writes_of_job accounts p job inside class h) ∙ out)

-- no more rights, class by class of what is on the way
module _ (accounts : Accounts) (f : Flat) (a b : Process)
    (each : (r : Path) (node : Node) → get f.files r ≡ Some node → may_write accounts a node.class ≡ true
    → may_write accounts b node.class ≡ true) where
  writes_too : (r : Path) → writes accounts f a r ≡ true → writes accounts f b r ≡ true
  writes_too r w = by (get f.files r) refl w
    where
      by : (o : Option Node) → get f.files r ≡ o → is_some_and o (λ n. may_write accounts a n.class) ≡ true
          → is_some_and o (λ n. may_write accounts b n.class) ≡ true
      by None e w = absurd (true≢false (sym w))
      by (Some node) e w = each r node e w

  module _ (read : (r : Path) (node : Node) → get f.files r ≡ Some node → may_read accounts a node.class ≡ true
      → may_read accounts b node.class ≡ true) where
    reads_too : (r : Path) (o : Option Node) → get f.files r ≡ o → may_read accounts a (class_of o) ≡ true → may_read accounts b (class_of o) ≡ true
    reads_too r None e h = refl
    reads_too r (Some node) e h = read r node e h

    reaches_too : (d : Path) → reaches accounts f a d ≡ true → reaches accounts f b d ≡ true
    reaches_too [] h =
        let parts = and_parts (may_read accounts a (class_of (get f.files []))) true h in
        ap (λ x. x && true) (reads_too [] (get f.files []) refl parts.0)
    reaches_too (n ∷ d) h =
        let parts = and_parts (may_read accounts a (class_of (get f.files (n ∷ d)))) (reaches accounts f a d) h in
        λ i. reads_too (n ∷ d) (get f.files (n ∷ d)) refl parts.0 i && reaches_too d parts.1 i

    pub no_more_by_class : (path : Path) → HasNoMore accounts f path a b
    no_more_by_class path r u h = by r h
      where
        by : (r : Path) → changes_at accounts f a r ≡ true → changes_at accounts f b r ≡ true
        by [] h = writes_too [] h
        by (n ∷ d) h =
            let parts = and_parts (writes accounts f a (n ∷ d)) (reaches accounts f a d) h in
            λ i. writes_too (n ∷ d) parts.0 i && reaches_too d parts.1 i

-- a process that may write nothing that is there has no more rights than any other
pub no_more_than_none : (accounts : Accounts) (f : Flat) (a b : Process)
    → ((r : Path) (node : Node) → get f.files r ≡ Some node → may_write accounts a node.class ≡ true → ⊥) → (path : Path)
    → HasNoMore accounts f path a b
no_more_than_none accounts f a b none path r u h = absurd (by r h)
  where
    nowhere : (r : Path) (o : Option Node) → get f.files r ≡ o → is_some_and o (λ n. may_write accounts a n.class) ≡ true → ⊥
    nowhere r None e w = true≢false (sym w)
    nowhere r (Some node) e w = none r node e w

    by : (r : Path) → changes_at accounts f a r ≡ true → ⊥
    by [] h = nowhere [] (get f.files []) refl h
    by (n ∷ d) h = nowhere (n ∷ d) (get f.files (n ∷ d)) refl (and_parts (writes accounts f a (n ∷ d)) (reaches accounts f a d) h).0
