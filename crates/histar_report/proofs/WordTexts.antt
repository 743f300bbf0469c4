-- The words of an explanation of a script that was read are one line each.
use Rattle.std.proofs.Common.{◌≡◌, ℕ, zero, suc, ◌+◌, ◌*◌, ◌-◌, ◌/◌, ◌%◌, Bool, true, false}
use Rattle.std.proofs.Common.{cond, eqb, leb, ltb, ◌&&◌, List, []}
use Rattle.std.proofs.Common.{◌∷◌, length, map, Option, None, Some, refl}
use Rattle.std.specs.Prelude.{codes, option_and_then, slice_get}
use Rattle.std.specs.List.{AllByRecursion, list_all}
use Rattle.std.proofs.lemmas.Bool.{and_parts}
use Rattle.histar_flat.specs.declared.calls.User.{User}
use Rattle.histar_flat.specs.Accounts.{Accounts, Group}
use Rattle.histar_flat.specs.Texts.{process_text}
use Rattle.histar_flat.specs.Words.{Path, ProcName}
use Rattle.histar_flat.proofs.SplitLemmas.{lacks}
use Rattle.histar_object.specs.Objects.{label_there}
use Rattle.histar_object.specs.State.{State}
use Rattle.histar_layout.specs.Categories.{user_of}
use Rattle.histar_layout.specs.UserTable.{without_password, without_passwords}
use Rattle.histar_programs.specs.Caller.{caller_at}
use Rattle.histar_programs.specs.Kin.{user_name}
use Rattle.histar_programs.specs.declared.roots.Home.{Home}
use Rattle.histar_programs.specs.declared.roots.Roots.{Roots}
use Rattle.histar_names.specs.declared.clues.Clue.{Clue}
use Rattle.histar_names.specs.declared.purposes.Purpose.{Purpose}
use Rattle.histar_names.specs.declared.purposes.Purpose.TheVariants.{Boot, Reads, Writes, ReadsProcess, WritesProcess, Job}
use Rattle.histar_names.specs.Births.{Births, purpose_of}
use Rattle.histar_names.specs.Location.{at_path, is_target, left_location, location_of, location_text, of_process, path_up, process_up, target_at}
use Rattle.histar_names.specs.Location.{users_own}
use Rattle.histar_names.specs.NamedWords.{category_text, made_text, object_text, words_at}
use Rattle.histar_names.specs.Purposes.{name_of_group, or_else, owner_name, purpose_text}
use Rattle.histar_names.specs.Runners.{runner_text, user_at, user_by}
use Rattle.histar_report.proofs.OneLines.{IsOneLine, joined, number_lined}
use Rattle.histar_report.proofs.StateTexts.{IsLinedPath, path_text_lined, process_text_lined}
use Rattle.histar_report.proofs.CallTexts.{AreLinedNames}
use Rattle.histar_report.proofs.WhyTexts.{AreLinedWords}

-- the names that a script declares, without the passwords
pub no_passwords : (accounts : Accounts) → AreLinedNames accounts → AreLinedNames (without_passwords accounts)
no_passwords accounts names = record { users = by accounts.users names.users; groups = names.groups }
  where
    by : (users : List User) → AllByRecursion (λ (u : User). IsOneLine u.name) users
        → AllByRecursion (λ (u : User). IsOneLine u.name) (map without_password users)
    by [] all = tt
    by (u ∷ users) all = (all.0, by users all.1)

-- the name of a user
user_lined : (users : List User) (i : ℕ) → AllByRecursion (λ (u : User). IsOneLine u.name) users → IsOneLine (user_name users i)
user_lined users zero all = refl
user_lined [] (suc i) all = refl
user_lined (u ∷ users) (suc zero) all = all.0
user_lined (u ∷ users) (suc (suc i)) all = user_lined users (suc i) all.1

-- the name of a group
group_lined : (groups : List Group) (i : ℕ) → AllByRecursion (λ (g : Group). IsOneLine g.name) groups
    → IsOneLine (name_of_group (slice_get groups i))
group_lined [] i all = refl
group_lined (g ∷ groups) zero all = all.0
group_lined (g ∷ groups) (suc i) all = group_lined groups i all.1

-- a step of a search for a name
found_so : {A : Type 0} (o : Option A) (next : A → Option (List ℕ)) → ((x : A) → IsOneLine (runner_text (next x)))
    → IsOneLine (runner_text (option_and_then next o))
found_so None next one = refl
found_so (Some x) next one = one x

-- the first of two, if it is there
either_lined : {A : Type 0} (text : Option A → List ℕ) (x y : Option A) → IsOneLine (text x) → IsOneLine (text y)
    → IsOneLine (text (or_else x y))
either_lined text None y one two = two
either_lined text (Some x) y one two = one

module _ (accounts : Accounts) (names : AreLinedNames accounts) where
  -- the name of nobody, of a user or of a group
  owner_lined : (i : ℕ) → IsOneLine (owner_name accounts i)
  owner_lined i = by (leb i (length accounts.users))
    where
      group : ℕ
      group = i - length accounts.users - 1

      by : (t : Bool) → IsOneLine (cond t (user_name accounts.users i) (name_of_group (slice_get accounts.groups group)))
      by true = user_lined accounts.users i names.users
      by false = group_lined accounts.groups group names.groups

  -- what a category is for
  purpose_lined : (purpose : Purpose) → IsOneLine (purpose_text accounts purpose)
  purpose_lined Boot = refl
  purpose_lined (Reads i) = owner_lined i
  purpose_lined (Writes i) = owner_lined i
  purpose_lined (ReadsProcess me) = process_text_lined me
  purpose_lined (WritesProcess me) = process_text_lined me
  purpose_lined (Job me) = process_text_lined me

  -- a category
  category_lined : (c : ℕ) (o : Option Purpose) → IsOneLine (category_text accounts c o)
  category_lined c None = number_lined c
  category_lined c (Some purpose) = purpose_lined purpose

  -- a process that runs, with its user
  runner_lined : (s : State) (first : Home) (me : ProcName) → IsOneLine (runner_text (user_at accounts s first me))
  runner_lined s first me =
      found_so (caller_at s first me) (λ caller. option_and_then (λ own. Some (user_by accounts own)) (label_there (s.objects caller.thread)))
      (λ caller.
      found_so (label_there (s.objects caller.thread)) (λ own. Some (user_by accounts own))
      (λ own.
      joined (user_by accounts own) (codes ")") (user_lined accounts.users (user_of own (length accounts.users)) names.users) refl))

  -- ---- objects

  -- an object whose location isn't known
  unknown_lined : (q : ℕ) → IsOneLine (object_text accounts q None)
  unknown_lined q = number_lined q

  -- what belongs to a user
  own_lined : (q : ℕ) → IsOneLine (location_text accounts (users_own q))
  own_lined q = by (eqb (q % 2) 1) refl
    where
      by : (t : Bool) → eqb (q % 2) 1 ≡ t → IsOneLine (location_text accounts (users_own q))
      by true e = rw e (owner_lined ((q - 1) / 2))
      by false e = rw e (owner_lined ((q - 1) / 2))

  -- what boot left
  left_lined : (n q : ℕ) → IsOneLine (object_text accounts q (left_location n q))
  left_lined n q = by (eqb q 1) (leb 3 q && ltb q (3 + 2 * n)) (eqb q (3 + 2 * n)) refl refl refl
    where
      by : (root own table : Bool) → eqb q 1 ≡ root → (leb 3 q && ltb q (3 + 2 * n)) ≡ own → eqb q (3 + 2 * n) ≡ table
          → IsOneLine (object_text accounts q (left_location n q))
      by true own table e f g = rw e refl
      by false true table e f g = rw (e, f) (own_lined q)
      by false false true e f g = rw (e, f, g) refl
      by false false false e f g = rw (e, f, g) (unknown_lined q)

  -- what is at a path or above it
  path_lined : (s : State) (roots : Roots) (q : ℕ) (path : Path) → IsLinedPath path
      → IsOneLine (object_text accounts q (at_path (path_up s roots q path)))
  path_lined s roots q [] one = by (is_target q (target_at s roots []))
    where
      by : (t : Bool) → IsOneLine (object_text accounts q (at_path (cond t (Some []) None)))
      by true = refl
      by false = unknown_lined q
  path_lined s roots q (name ∷ d) one =
      by (is_target q (target_at s roots (name ∷ d))) (path_lined s roots q d (and_parts (lacks 10 name) (list_all (lacks 10) d) one).1)
    where
      by : (t : Bool) → IsOneLine (object_text accounts q (at_path (path_up s roots q d)))
          → IsOneLine (object_text accounts q (at_path (cond t (Some (name ∷ d)) (path_up s roots q d))))
      by true above = path_text_lined (name ∷ d) one
      by false above = above

  -- a part of a process
  part_lined : (q : ℕ) (o : Option ProcName) → IsOneLine (object_text accounts q (of_process o))
  part_lined q None = unknown_lined q
  part_lined q (Some me) = process_text_lined me

  -- an object
  object_lined : (roots : Roots) (s : State) (clue : Clue) (q : ℕ) → IsLinedPath clue.path
      → IsOneLine (object_text accounts q (location_of accounts roots s clue q))
  object_lined roots s clue q one =
      either_lined (object_text accounts q) (left_location (length accounts.users) q)
      (or_else (at_path (path_up s roots q clue.path))
      (or_else (of_process (process_up s roots.home q clue.caller)) (of_process (process_up s roots.home q clue.named))))
      (left_lined (length accounts.users) q)
      (either_lined (object_text accounts q) (at_path (path_up s roots q clue.path))
      (or_else (of_process (process_up s roots.home q clue.caller)) (of_process (process_up s roots.home q clue.named)))
      (path_lined s roots q clue.path one)
      (either_lined (object_text accounts q) (of_process (process_up s roots.home q clue.caller)) (of_process (process_up s roots.home q clue.named))
      (part_lined q (process_up s roots.home q clue.caller)) (part_lined q (process_up s roots.home q clue.named))))

  -- an object that a call would make
  made_lined : (path : Path) (kind : List ℕ) → IsLinedPath path → IsOneLine kind → IsOneLine (made_text path kind)
  made_lined [] kind one two = two
  made_lined (name ∷ d) kind one two = path_text_lined (name ∷ d) one

  -- all words
  pub words_lined : (roots : Roots) (s : State) (clue : Clue) (births : Births) → IsLinedPath clue.path
      → AreLinedWords (words_at accounts roots s clue births)
  words_lined roots s clue births one = record {
    thread = λ t. joined (process_text clue.caller) (runner_text (user_at accounts s roots.home clue.caller)) (process_text_lined clue.caller)
        (runner_lined s roots.home clue.caller);
    object = λ q. object_lined roots s clue q one;
    category = λ c. category_lined c (purpose_of accounts births c);
    listed = λ c. category_lined c (purpose_of accounts births c);
    made = λ kind two. made_lined clue.path kind one two;
  }
