-- With other bytes in the files that a way hides, the facts about jobs hold.
use Rattle.std.specs.Prelude.{◌≡◌, ℕ, true, false, not, ◌&&◌, ◌||◌, List, [], ◌∷◌, Option, Some, None, option_map, refl}
use Rattle.std.proofs.Common.{ap, sym, ◌∙◌, subst, inl, inr}
use Rattle.std.proofs.lemmas.Bool.{true≢false, or_cases}
use Rattle.histar_flat.specs.declared.calls.CallLine.{CallLine}
use Rattle.histar_flat.specs.FlatCalls.{flat_after}
use Rattle.histar_flat.specs.Words.{Path, ProcName}
use Rattle.histar_flat.specs.Accounts.{Accounts}
use Rattle.histar_flat.specs.Files.{Files, get}
use Rattle.histar_flat.specs.Classes.{Class, carries}
use Rattle.histar_flat.specs.FlatState.{Content, Flat, IsTree, Node, bytes_of, class_of, is_dir, is_file_at, is_given, is_some_and, with_bytes}
use Rattle.histar_flat.specs.FlatState.Content.{Dir, File}
use Rattle.histar_flat.specs.JobLaws.{is_scratch}
use Rattle.histar_flat.proofs.Entries.{shown}
use Rattle.histar_flat.proofs.FileLemmas.{get_new, get_other, same_path_found}
use Rattle.histar_flat.proofs.LooksAlike.{test_alike}
use Rattle.histar_noninterference.specs.Comparison.{lies_in_job}
use Rattle.histar_noninterference.proofs.Relation.{IsStarted}
use Rattle.histar_secrecy.specs.Ways.{covers, way_in, way_to}
use Rattle.histar_secrecy.specs.Noninterference.{HasFile, IsReached}
use Rattle.histar_secrecy.specs.Release.{DiffersInBytes, FixedCallsTellReadersAlone, OtherBytesDiffer, TellReadersAlone}
use Rattle.histar_secrecy.proofs.BoundJobs.{IsBegun}
use Rattle.histar_secrecy.proofs.Knowing.{AreJobs, jobs_at_end}
use Rattle.histar_secrecy.proofs.Roots.{AreRooted, AreRootedOn, HasRoot, rooted_at_end}
use Rattle.histar_secrecy.proofs.Readers.{on_way}
use Rattle.histar_secrecy.proofs.Veil.{AreVeiled, IsVeiled, covers_itself, joined_veiled, tree_alike, turned_veiled, way_veil}

-- Two runs may go on from a state that calls lead to, for the way to any path.
pub begun_there : (accounts : Accounts) (f : Flat) → IsReached accounts f → (path : Path) → IsBegun accounts (way_to f path) f
begun_there accounts f reached path = record { jobs = jobs; given = given path; root = roots path }
  where
    jobs : AreJobs f
    jobs = subst AreJobs reached.1 (jobs_at_end accounts reached.0)

    rooted : AreRooted accounts f
    rooted = subst (AreRooted accounts) reached.1 (rooted_at_end accounts reached.0)

    class_given : (q : Path) (job : ProcName) (o : Option Node) → get f.files q ≡ o → carries job (class_of o) ≡ true
        → is_given f.processes job ≡ true
    class_given q job None at c = absurd (true≢false (sym c))
    class_given q job (Some node) at c = jobs.names.of_carried_jobs q node job at c

    given : (path : Path) (job : ProcName) → on_way job (way_in f.files path) ≡ true → is_given f.processes job ≡ true
    given [] job c = elim (or_cases (carries job (class_of (get f.files []))) false c) [
      | inl t ↦ class_given [] job (get f.files []) refl t
      | inr t ↦ absurd (true≢false (sym t))
    ]
    given (n ∷ d) job c = elim (or_cases (carries job (class_of (get f.files (n ∷ d)))) (on_way job (way_in f.files d)) c) [
      | inl t ↦ class_given (n ∷ d) job (get f.files (n ∷ d)) refl t
      | inr t ↦ given d job t
    ]

    class_root : (q : Path) (o : Option Node) → get f.files q ≡ o → is_scratch (class_of o) ≡ true → HasRoot accounts f (class_of o)
    class_root q None at scratch = absurd (true≢false (sym scratch))
    class_root q (Some node) at scratch = rooted.classes q node at scratch

    roots : (path : Path) → AreRootedOn accounts f (way_in f.files path)
    roots [] = (class_root [] (get f.files []) refl, tt)
    roots (n ∷ d) = (class_root (n ∷ d) (get f.files (n ∷ d)) refl, roots d)

-- for the way to a file
pub begun_with : (accounts : Accounts) (f : Flat) → IsReached accounts f → (path : Path) (way : List Class) → HasFile f path way
    → IsBegun accounts way f
begun_with accounts f reached path way file = subst (λ w. IsBegun accounts w f) file.classes (begun_there accounts f reached path)

-- where a file is, there are its class and its bytes
pub file_there : (f : Flat) (path : Path) → is_file_at f path ≡ true
    → (class : Class) × (bytes : List ℕ) × (get f.files path ≡ Some (record { class = class; content = File bytes }))
file_there f path h = by (get f.files path) refl h
  where
    by : (o : Option Node) → get f.files path ≡ o → is_some_and o (λ n. not (is_dir n)) ≡ true
        → (class : Class) × (bytes : List ℕ) × (get f.files path ≡ Some (record { class = class; content = File bytes }))
    by None e h = absurd (true≢false (sym h))
    by (Some n) e h = of n.content refl
      where
        of : (content : Content) → n.content ≡ content
            → (class : Class) × (bytes : List ℕ) × (get f.files path ≡ Some (record { class = class; content = File bytes }))
        of Dir i = absurd (true≢false (sym h ∙ ap (λ c. not (is_dir (record { class = n.class; content = c }))) i))
        of (File bytes) i = (n.class, bytes, e ∙ ap (λ c. Some (record { class = n.class; content = c })) i)

-- the files have the same classes and kinds
module _ (f : Flat) (m : Files Node) (alike : (q : Path) → option_map shown (get m q) ≡ option_map shown (get f.files q)) where
  abbrev pub with_files : Flat
  with_files = record f { files = m }

  tree_as : IsTree f → IsTree with_files
  tree_as tree = record {
    root = test_alike (λ s. s.1) (get m []) (get f.files []) (alike []) ∙ tree.root;
    below = λ n d there. test_alike (λ s. s.1) (get m d) (get f.files d) (alike d) ∙ tree.below n d
        (sym (test_alike (λ s. true) (get m (n ∷ d)) (get f.files (n ∷ d)) (alike (n ∷ d))) ∙ there);
  }

  lies_as : (job : ProcName) (q : Path) → lies_in_job job m q ≡ lies_in_job job f.files q
  lies_as job [] = refl
  lies_as job (n ∷ d) = λ i. test_alike (λ s. s.1 && carries job s.0) (get m d) (get f.files d) (alike d) i || lies_as job d i

  -- what is at a path has the class and the kind of something that was there
  was_there : (q : Path) (n : Node) → get m q ≡ Some n → (x : Node) × (get f.files q ≡ Some x) × (shown x ≡ shown n)
  was_there q n at = by (get f.files q) refl (sym (alike q) ∙ ap (option_map shown) at)
    where
      by : (o : Option Node) → get f.files q ≡ o → option_map shown o ≡ Some (shown n) → (x : Node) × (get f.files q ≡ Some x) × (shown x ≡ shown n)
      by None e h = absurd (cc)
      by (Some x) e h = let one : shown x ≡ shown n = cc in (x, e, one)

  pub started_as : (job : ProcName) → IsStarted job f → IsStarted job with_files
  started_as job h = record {
    tree = tree_as h.tree;
    given = h.given;
    files = λ q n at c file.
        let was = was_there q n at in
        lies_as job q ∙ h.files q was.0 was.1 (ap (λ s. carries job s.0) was.2 ∙ c) (ap (λ s. s.1) was.2 ∙ file);
    inside = h.inside;
    held = h.held;
  }

  pub jobs_as : AreJobs f → AreJobs with_files
  jobs_as h = record {
    tree = tree_as h.tree;
    names = record {
      of_processes = h.names.of_processes;
      of_known_jobs = h.names.of_known_jobs;
      of_carried_jobs = λ q n job at c.
          let was = was_there q n at in h.names.of_carried_jobs q was.0 job was.1 (ap (λ s. carries job s.0) was.2 ∙ c);
    };
    started = λ x y job there k. started_as job (h.started x y job there k);
    one_user = h.one_user;
    child = h.child;
  }

module _ {way : List Class} {f s : Flat} (other : DiffersInBytes way f s) where
  -- the same classes and kinds
  pub same_shown : (q : Path) → option_map shown (get s.files q) ≡ option_map shown (get f.files q)
  same_shown q = elim (other.files q) [
    | inl e ↦ sym (ap (option_map shown) e)
    | inr e ↦ ap (option_map shown) e.after ∙ sym (ap (option_map shown) e.before)
  ]

  -- the state is f with other files
  pub is_with_files : record f { files = s.files } ≡ s
  is_with_files = λ i. record f { files = s.files; processes = other.processes i }

  -- they differ only in veiled bytes
  pub differs_veiled : IsVeiled way f s
  differs_veiled = record {
    shown = λ q. sym (same_shown q);
    bytes = λ q h. elim (other.files q) [
      | inl e ↦ ap bytes_of e
      | inr e ↦ absurd (true≢false (sym e.covered ∙ h))
    ];
    processes = other.processes;
  }

pub other_bytes_differ : OtherBytesDiffer
other_bytes_differ f path way file other = record {
  processes = refl;
  files = λ q. elim (same_path_found q path) [
    | inl e ↦ inr (record {
      class = there.0;
      one = there.1;
      other = other;
      before = ap (get f.files) e.1 ∙ there.2;
      after = ap (get (with_bytes f path other).files) e.1 ∙ get_new f.files path _
          ∙ ap (λ o. Some (record { class = class_of o; content = File other })) there.2;
      covered = ap (λ w. covers w way) (ap (way_to f) e.1 ∙ file.classes) ∙ covers_itself way;
    })
    | inr e ↦ inl (sym (get_other f.files path _ q e.1))
  ];
}
  where
    there : (class : Class) × (bytes : List ℕ) × (get f.files path ≡ Some (record { class = class; content = File bytes }))
    there = file_there f path file.file

-- ---- the same calls of all

fixed_alike : (accounts : Accounts) (way : List Class) (s t : Flat) → AreVeiled way s t → (calls : List CallLine)
    → TellReadersAlone accounts way s t calls
fixed_alike accounts way s t alike [] = tt
fixed_alike accounts way s t alike (c ∷ calls) = (
  λ other. (way_veil accounts way).reply s t alike c.process c.call other,
  fixed_alike accounts way (flat_after accounts s c.process c.call) (flat_after accounts t c.process c.call)
      ((way_veil accounts way).after s t alike c.process c.call) calls,
)

pub fixed_calls_tell_readers_alone : FixedCallsTellReadersAlone
fixed_calls_tell_readers_alone accounts f reached way s t one other calls = fixed_alike accounts way s t (record {
  tree = tree_alike f s (differs_veiled one).shown (subst AreJobs reached.1 (jobs_at_end accounts reached.0)).tree;
  veiled = joined_veiled (turned_veiled (differs_veiled one)) (differs_veiled other);
}) calls
