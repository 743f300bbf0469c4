-- How the code that reads and writes directories, and walks to them, runs its parts.
use Rattle.std.proofs.Common.{◌≡◌, ℕ, ◌≤◌, List, [], ◌∷◌, length, get_or, take, drop, ◌-◌, Option, Result, Ok, Err, inl, refl, sym, ap, ◌∙◌, subst}
use Rattle.std.proofs.Common.{arith}
use Rattle.histar_flat.specs.Words.{Name, Path}
use Rattle.histar_flat.specs.declared.replies.Errno.{Errno}
use Rattle.histar_rules.specs.declared.raw.RawCall.TheVariants.{Read, Write}
use Rattle.histar_rules.specs.declared.raw.Refusal.{Refusal}
use Rattle.histar_rules.specs.Memory.{OnOutOfMemory}
use Rattle.histar_syscall.specs.KernelModel.{KernelModel, Answered}
use Rattle.histar_layout.specs.Directory.{Entries, IsDirectory}
use Rattle.histar_layout.specs.Found.{found_in}
use Rattle.histar_layout.specs.declared.entry.Target.{Target}
use Rattle.histar_programs.specs.declared.roots.Place.{Place}
use Rattle.histar_programs.specs.declared.roots.Roots.{Roots}
use Rattle.histar_programs.specs.declared.directory.Directory.{Directory}
use Rattle.histar_programs.specs.declared.call_error.CallError.{CallError}
use Rattle.histar_programs.specs.declared.call_error.CallError.TheVariants.{Refused, Stopped}
use Rattle.histar_programs.specs.Refusals.{write_errno_of, or_call_error}
use Rattle.histar_programs.specs.Programs.{Program, Part, Begins, RunsPart}
use Rattle.histar_programs.specs.Parts.{ask, list, given, read_directory, directory_at, look_in, find_place, walk_to, write_entries}
use Rattle.histar_syscall.proofs.Runs.{same_kernel}
use Rattle.histar_programs.proofs.Running.{asks, gives, gives_not, hands, part_as, then_part, part_fails}

-- what comes after the bytes of a directory segment
abbrev after_bytes : Place → List ℕ → Part Directory
after_bytes place bytes rest = list bytes (λ entries. rest (record { place = place; entries = entries }))

module _ {M : Type 0} (t : ℕ) (old new : KernelModel) (place : Place) where
  -- the directory segment was not read
  pub read_fails : (call_error : CallError)
      → RunsPart M (ask (Read place.container place.listing)) old new t (Err call_error)
      → RunsPart M (read_directory place) old new t (Err call_error)
  unfolding read_directory
  read_fails call_error first = part_fails t (ask (Read place.container place.listing)) old new (after_bytes place) call_error first

  module _ (bytes : List ℕ) (first : RunsPart M (ask (Read place.container place.listing)) old new t (Ok bytes)) where
    -- the bytes of the segment are no directory
    pub list_fails : (call_error : CallError) → RunsPart M (list bytes) new new t (Err call_error)
        → RunsPart M (read_directory place) old new t (Err call_error)
    unfolding read_directory
    list_fails call_error second =
        then_part t (ask (Read place.container place.listing)) old new (after_bytes place) new bytes first (Err call_error)
        (part_fails t (list bytes) new new
        (λ (entries : Entries) (rest : Directory → _). rest (record { place = place; entries = entries }))
        call_error second)

    -- the bytes of the segment are a directory
    pub reads : (entries : Entries) → RunsPart M (list bytes) new new t (Ok entries)
        → RunsPart M (read_directory place) old new t (Ok (record { place = place; entries = entries }))
    unfolding read_directory
    reads entries second =
        then_part t (ask (Read place.container place.listing)) old new (after_bytes place) new bytes first (Ok _)
        (then_part t (list bytes) new new
        (λ (entries : Entries) (rest : Directory → _). rest (record { place = place; entries = entries })) new
        entries second (Ok _) (hands t new _))

take_all : (xs : List Name) → take (length xs) xs ≡ xs
take_all [] = refl
take_all (x ∷ xs) = ap (λ ys. x ∷ ys) (take_all xs)

-- at least one name is a first name and the others
pub first_of_names : (names : List Name) (name : Name) → 1 ≤ length names → name ≡ get_or names 0 name
    → names ≡ name ∷ take (length names - 1) (drop 1 names)
first_of_names [] name some is = absurd (omega arith)
first_of_names (x ∷ xs) name some is =
    let count : length (x ∷ xs) - 1 ≡ length xs = omega arith in
    (λ i. sym is i ∷ xs) ∙ ap (λ ys. name ∷ ys) (sym (ap (λ (n : ℕ). take n xs) count ∙ take_all xs))

-- less than one name is none
pub no_names : (names : List Name) → length names ≤ 0 → names ≡ []
no_names [] none = refl
no_names (x ∷ xs) none = absurd (omega arith)

-- ---- looking a name up in a directory

module _ {M : Type 0} (t : ℕ) (old new : KernelModel) (place : Place) (name : Name) where
  -- the directory segment was not read
  pub look_refused : (call_error : CallError)
      → RunsPart M (ask (Read place.container place.listing)) old new t (Err call_error)
      → RunsPart M (look_in place name) old new t (Err call_error)
  unfolding look_in
  look_refused call_error first =
      part_fails t (ask (Read place.container place.listing)) old new
      (λ bytes (rest : Option Target → _). rest (found_in bytes name)) call_error first

  -- the directory segment was read, and the name leads to what was found
  pub looks : (bytes : List ℕ) → RunsPart M (ask (Read place.container place.listing)) old new t (Ok bytes)
      → (found : Option Target) → found ≡ found_in bytes name → RunsPart M (look_in place name) old new t (Ok found)
  unfolding look_in
  looks bytes first found is =
      subst (λ (o : Option Target). RunsPart M (look_in place name) old new t (Ok o)) (sym is)
      (then_part t (ask (Read place.container place.listing)) old new
      (λ bytes (rest : Option Target → _). rest (found_in bytes name)) new bytes first (Ok _)
      (hands t new (found_in bytes name)))

-- ---- finding the place of a directory

-- what comes after the place of the parent
abbrev pub into : Name → Place → Part Place
into name above rest = look_in above name (λ target. given (directory_at target) rest)

module _ {M : Type 0} (t : ℕ) (old new : KernelModel) (name : Name) (above : Place) where
  -- the name was not looked up
  pub into_fails : (call_error : CallError) → RunsPart M (look_in above name) old new t (Err call_error)
      → RunsPart M (into name above) old new t (Err call_error)
  into_fails call_error first = part_fails t (look_in above name) old new (λ target. given (directory_at target)) call_error first

  module _ (target : Option Target) (first : RunsPart M (look_in above name) old new t (Ok target)) where
    then_given : (found : Result Place Errno) → found ≡ directory_at target → (result : Result Place CallError)
        → RunsPart M (given found) new new t result → RunsPart M (into name above) old new t result
    then_given found is result runs =
        then_part t (look_in above name) old new (λ target. given (directory_at target)) new target first result
        (subst (λ (f : Result Place Errno). RunsPart M (given f) new new t result) is runs)

    -- the name leads to a directory
    pub into_place : (place : Place) → Ok place ≡ directory_at target → RunsPart M (into name above) old new t (Ok place)
    into_place place is = then_given (Ok place) is (Ok place) (gives t new place)

    -- the name leads to no directory
    pub into_none : (errno : Errno) → Err errno ≡ directory_at target → RunsPart M (into name above) old new t (Err (Refused errno))
    into_none errno is = then_given (Err errno) is (Err (Refused errno)) (gives_not t Place new errno)

module _ {M : Type 0} (t : ℕ) (roots : Roots) (old new : KernelModel) (names : List Name) where
  -- the place of `/`
  pub finds_slash : names ≡ [] → RunsPart M (find_place roots names) old old t (Ok roots.slash)
  unfolding find_place
  finds_slash none = subst (λ (n : List Name). RunsPart M (find_place roots n) old old t (Ok roots.slash)) (sym none) (hands t old roots.slash)

  module _ (name : Name) (parent : Path) (split : names ≡ name ∷ parent) where
    here : (result : Result Place CallError)
        → RunsPart M (λ rest. find_place roots parent (λ above. into name above rest)) old new t result
        → RunsPart M (find_place roots names) old new t result
    unfolding find_place
    here result runs = subst (λ (n : List Name). RunsPart M (find_place roots n) old new t result) (sym split) runs

    -- the place of the parent was not found
    pub find_fails : (call_error : CallError) → RunsPart M (find_place roots parent) old new t (Err call_error)
        → RunsPart M (find_place roots names) old new t (Err call_error)
    find_fails call_error first = here (Err call_error) (part_fails t (find_place roots parent) old new (into name) call_error first)

    -- the place of the parent was found, and the name is looked up there
    pub finds_on : (mid : KernelModel) (above : Place) → RunsPart M (find_place roots parent) old mid t (Ok above)
        → (result : Result Place CallError) → RunsPart M (into name above) mid new t result
        → RunsPart M (find_place roots names) old new t result
    finds_on mid above first result second = here result (then_part t (find_place roots parent) old new (into name) mid above first result second)

-- ---- a walk

module _ {M : Type 0} (t : ℕ) (roots : Roots) (old new : KernelModel) (names : Path) where
  -- the place was not found
  pub walk_fails : (call_error : CallError) → RunsPart M (find_place roots names) old new t (Err call_error)
      → RunsPart M (walk_to roots names) old new t (Err call_error)
  unfolding walk_to
  walk_fails call_error first = part_fails t (find_place roots names) old new (λ (place : Place). read_directory place) call_error first

  -- the place was found, and the directory is read
  pub walk_ends : (mid : KernelModel) (place : Place) → RunsPart M (find_place roots names) old mid t (Ok place)
      → (result : Result Directory CallError) → RunsPart M (read_directory place) mid new t result
      → RunsPart M (walk_to roots names) old new t result
  unfolding walk_to
  walk_ends mid place first result second =
      then_part t (find_place roots names) old new (λ (place : Place). read_directory place) mid place first result
      second

-- bytes that spell a directory's entries are written
pub writes : {M : Type 0} → (t : ℕ) (old new : KernelModel) (place : Place) (entries : Entries) (bytes : List ℕ)
    → IsDirectory bytes entries → (answer : Result (Unit {0}) Refusal)
    → Answered old new t (Write place.container place.listing 0 bytes) answer → OnOutOfMemory answer M
    → (result : Result (Unit {0}) CallError) → result ≡ or_call_error write_errno_of answer
    → RunsPart M (write_entries place entries) old new t result
writes t old new place entries bytes spells answer answered memory result is =
    part_as t (write_entries place entries) old new (ask (Write place.container place.listing 0 bytes))
    (λ i. ask (Write place.container place.listing 0 (sym spells.spelled i))) result
    (asks t (Write place.container place.listing 0 bytes) old new answer answered memory result is)

-- memory ran out before the place of a directory is found
before_place : {M : Type 0} → (t : ℕ) (roots : Roots) (path : Path) (k : KernelModel) (first : Place → Program)
    → M → ((place : Place) → Begins M (first place) k k t) → Begins M (find_place roots path first) k k t
unfolding find_place look_in
before_place t roots [] k first memory begins = begins roots.slash
before_place t roots (name ∷ parent) k first memory begins =
    before_place t roots parent k (λ above. look_in above name (λ target. given (directory_at target) first)) memory
    (λ above. inl (memory, same_kernel k))

-- memory ran out before a walk
pub before_walk : {M : Type 0} → (t : ℕ) (roots : Roots) (path : Path) (k : KernelModel) → M
    → RunsPart M (walk_to roots path) k k t (Err Stopped)
unfolding walk_to read_directory
before_walk t roots path k memory = record {
  done = λ rest. before_place t roots path k (λ place. read_directory place rest) memory (λ place. inl (memory, same_kernel k));
}
