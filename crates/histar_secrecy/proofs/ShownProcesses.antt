-- The roles of the processes and users that are shown are those of the flat state.
use Rattle.std.specs.Prelude.{◌≡◌, ℕ, Bool, true, false, not, ◌&&◌, ◌||◌, List, [], ◌∷◌, ◌++◌, Option, Some, None, map, if◌then◌else◌, refl}
use Rattle.std.proofs.Common.{ap, sym, ◌∙◌}
use Rattle.std.proofs.lemmas.Bool.{true≢false}
use Rattle.histar_flat.specs.Words.{Path, ProcName}
use Rattle.histar_flat.specs.Accounts.{Accounts}
use Rattle.histar_flat.specs.Files.{get}
use Rattle.histar_flat.specs.Classes.{Class, Process, may_read, may_write}
use Rattle.histar_flat.specs.FlatState.{Flat, Node, class_of, is_some_and}
use Rattle.histar_secrecy.specs.declared.file_class.FileClass.{FileClass}
use Rattle.histar_secrecy.specs.declared.role.Member.{Member}
use Rattle.histar_secrecy.specs.declared.role.Role.{Role}
use Rattle.histar_secrecy.specs.declared.role.Role.TheVariants.{Trusted, Confined, Outside}
use Rattle.histar_secrecy.specs.Logins.{logged_in}
use Rattle.histar_secrecy.specs.Ways.{reads_all, reaches, way_to}
use Rattle.histar_secrecy.specs.Roles.{holding_none, is_bound, is_confined, is_trusted}
use Rattle.histar_secrecy.specs.Noninterference.{ShowsRole}
use Rattle.histar_secrecy.specs.Changers.{may_change}
use Rattle.histar_secrecy.specs.ShownRoles.{AreNumbered, IsShownProcess, ShownIsSo, changes_one, class_on, classes_on, flat_class, job_numbered}
use Rattle.histar_secrecy.specs.ShownRoles.{of_groups, member_role, role_in, role_of, with_rights}
use Rattle.histar_secrecy.proofs.Learning.{roles_are_shown}
use Rattle.histar_secrecy.proofs.NumberedJobs.{free_by_number, in_two_steps, named, reads_by_number, writes_by_number}
use Rattle.histar_secrecy.proofs.Readers.{bound_parts, reads_all_holding}

-- the role by two tests
by_tests : (reads bound trusted confined : Bool) → trusted ≡ (reads && not bound) → confined ≡ bound → (bound ≡ true → reads ≡ true)
    → (let s : Role = if reads then (if bound then Confined else Trusted) else Outside in s)
    ≡ (let s : Role = if trusted then Trusted else if confined then Confined else Outside in s)
by_tests reads bound trusted confined t c h =
    by reads bound h ∙ sym (λ i. if t i then Trusted else if c i then Confined else Outside)
  where
    by : (reads bound : Bool) → (bound ≡ true → reads ≡ true)
        → (let s : Role = if reads then (if bound then Confined else Trusted) else Outside in s)
        ≡ (let s : Role = if (reads && not bound) then Trusted else if bound then Confined else Outside in s)
    by true true h = refl
    by true false h = refl
    by false true h = absurd (true≢false (sym (h refl)))
    by false false h = refl

module _ (number : ProcName → ℕ) (one : AreNumbered number) (accounts : Accounts) (f : Flat) where
  -- the process that is shown is the one that runs, with its jobs known by their numbers
  pub shown_is : {m : Member} {p : Process} → IsShownProcess number f m p → with_rights m.user m.jobs.items m.held.items ≡ named number one p
  shown_is {m} {p} is = sym (λ i. record {
    user = is.user i;
    chain = (sym (in_two_steps number p.chain) ∙ ap (map job_numbered) is.jobs) i;
    held = (sym (in_two_steps number p.held) ∙ ap (map job_numbered) is.held) i;
    exited = None;
    born = 0;
  })

  -- a process may read what is there exactly if it may read the class; what isn't there is no obstacle
  reads_on : (p : Process) (o : Option Node) (rest : List Class)
      → reads_all (of_groups accounts.groups) (class_on number o ++ rest) (named number one p)
      ≡ (may_read accounts p (class_of o) && reads_all (of_groups accounts.groups) rest (named number one p))
  reads_on p None rest = refl
  reads_on p (Some n) rest =
      ap (λ b. b && reads_all (of_groups accounts.groups) rest (named number one p)) (reads_by_number number one accounts p n.class)

  reads_root : (p : Process) (o : Option Node)
      → reads_all (of_groups accounts.groups) (class_on number o) (named number one p) ≡ (may_read accounts p (class_of o) && true)
  reads_root p None = refl
  reads_root p (Some n) = ap (λ b. b && true) (reads_by_number number one accounts p n.class)

  -- a process reaches a path exactly if it may read the classes on the way
  pub each_is : (p : Process) (path : Path)
      → reads_all (of_groups accounts.groups) (classes_on number f path) (named number one p) ≡ reaches accounts f p path
  each_is p [] = reads_root p (get f.files [])
  each_is p (n ∷ d) =
      reads_on p (get f.files (n ∷ d)) (classes_on number f d) ∙ ap (λ b. may_read accounts p (class_of (get f.files (n ∷ d))) && b) (each_is p d)

  -- the process may write one of these classes, and read each behind it
  abbrev changes_by : Process → List Class → Bool
  changes_by p [] = false
  changes_by p (class ∷ above) =
      (may_write (of_groups accounts.groups) p class && reads_all (of_groups accounts.groups) above p) || changes_by p above

  changes_mapped : (p : Process) (classes : List FileClass) → changes_one accounts.groups p classes ≡ changes_by p (map flat_class classes)
  changes_mapped p [] = refl
  changes_mapped p (class ∷ above) =
      ap (λ b. (may_write (of_groups accounts.groups) p (flat_class class) && reads_all (of_groups accounts.groups) (map flat_class above) p) || b)
      (changes_mapped p above)

  -- a process changes what is at a path exactly if it may write a class on the way, and read each behind it
  changes_root : (p : Process) (o : Option Node)
      → changes_by (named number one p) (class_on number o) ≡ is_some_and o (λ n. may_write accounts p n.class)
  changes_root p None = refl
  changes_root p (Some n) = ap (λ b. (b && true) || false) (writes_by_number number one accounts p n.class) ∙ alone (may_write accounts p n.class)
    where
      alone : (b : Bool) → ((b && true) || false) ≡ b
      alone true = refl
      alone false = refl

  changes_on : (p : Process) (o : Option Node) (rest : List Class) → changes_by (named number one p) (class_on number o ++ rest)
      ≡ ((is_some_and o (λ n. may_write accounts p n.class) && reads_all (of_groups accounts.groups) rest (named number one p))
      || changes_by (named number one p) rest)
  changes_on p None rest = refl
  changes_on p (Some n) rest =
      ap (λ b. (b && reads_all (of_groups accounts.groups) rest (named number one p)) || changes_by (named number one p) rest)
      (writes_by_number number one accounts p n.class)

  changes_there : (p : Process) (path : Path) → changes_by (named number one p) (classes_on number f path) ≡ may_change accounts f p path
  changes_there p [] = changes_root p (get f.files [])
  changes_there p (n ∷ d) =
      changes_on p (get f.files (n ∷ d)) (classes_on number f d)
      ∙ (λ i. (is_some_and (get f.files (n ∷ d)) (λ k. may_write accounts p k.class) && each_is p d i) || changes_there p d i)

  changes_is : (p : Process) (path : Path) (classes : List FileClass) → map flat_class classes ≡ classes_on number f path
      → changes_one accounts.groups (named number one p) classes ≡ may_change accounts f p path
  changes_is p path classes to =
      changes_mapped (named number one p) classes ∙ ap (changes_by (named number one p)) to ∙ changes_there p path

  -- a process that is shown has the role of the one that runs
  role_is : (path : Path) {m : Member} {p : Process} → IsShownProcess number f m p → ShowsRole accounts (way_to f path) f m.name p
      → member_role accounts.groups (classes_on number f path) m ≡ role_in accounts (way_to f path) f m.name
  role_is path {m} {p} is shown =
      (λ i. role_of accounts.groups (classes_on number f path) (shown_is is i))
      ∙ (λ i. if each_is p path i then (if not (free_by_number number one p i) && each_is (holding_none p) path i then Confined
      else Trusted) else Outside)
      ∙ by_tests (reads_all accounts (way_to f path) p) (is_bound accounts (way_to f path) p) (is_trusted accounts (way_to f path) f m.name)
      (is_confined accounts (way_to f path) f m.name) shown.trusted shown.confined
      (λ b. reads_all_holding accounts p (way_to f path) (bound_parts accounts (way_to f path) p b).1)

pub shown_is_so : ShownIsSo
unfolding shown_is role_is changes_is each_is
shown_is_so accounts f number one = record {
  role = λ reached path m p is. role_is number one accounts f path is (roles_are_shown accounts f reached path m.name p is.runs);
  changer = λ path classes to m p is.
      ap (λ q. changes_one accounts.groups q classes) (shown_is number one accounts f is) ∙ changes_is number one accounts f p path classes to
      ∙ sym (ap (λ o. is_some_and o (λ q. may_change accounts f q path)) is.runs);
  reader_login = λ path user. each_is number one accounts f (logged_in user) path;
  changer_login = λ path classes to user. changes_is number one accounts f (logged_in user) path classes to;
}
