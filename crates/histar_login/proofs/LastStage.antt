-- Where the parts of boot begin, and the objects after the last part.
use Rattle.std.proofs.Common.{◌≡◌, ℕ, suc, ◌+◌, ◌*◌, List, [], ◌∷◌, ◌++◌, length, None, refl, sym, ap, ◌∙◌, arith, append_assoc}
use Rattle.std.proofs.lemmas.List.{length-append}
use Rattle.std.specs.List.{range_with_len}
use Rattle.histar_flat.specs.Accounts.{Accounts}
use Rattle.histar_object.specs.State.{empty_state}
use Rattle.histar_rules.specs.declared.raw.RawCall.TheVariants as calls
use Rattle.histar_rules.specs.Sound.{root_number}
use Rattle.histar_syscall.specs.KernelModel.{KernelModel, state, Called}
use Rattle.histar_syscall.proofs.Runs.{granted_more, made_run}
use Rattle.histar_layout.specs.Labelling.{written_by}
use Rattle.histar_programs.specs.Start.{root_category, declared, own_read_category, container, state_with, of_users, of_directory, start_state}
use Rattle.histar_login.specs.Boot.{boot_calls, IsBooted}
use Rattle.histar_programs.specs.Start.{boot_thread_number}
use Rattle.histar_login.specs.Booting.{Part, and_then, nothing_yet, next_number, Boots, BootsOn, IsAnywhere, IsBefore, IsBeforeBoth, categories_part}
use Rattle.histar_login.specs.Booting.{users_part, directory_part, process_part}
use Rattle.histar_login.proofs.Stages.{boots_same}
use Rattle.histar_programs.proofs.StartLengths.{length-numbered}
use Rattle.histar_login.proofs.StartLemmas.{range-suc}
use Rattle.histar_login.proofs.FirstAndLast.{two_not_in_row}
use Rattle.histar_login.proofs.Parts.{boots_last, boots_first}

-- the parts of boot before the user table and `/`
abbrev pub first_parts : Accounts → Part
first_parts accounts = and_then (and_then nothing_yet (categories_part (1 + declared accounts))) (users_part accounts accounts.users)

-- the parts of boot before process 0
abbrev pub more_parts : Accounts → Part
more_parts accounts = and_then (first_parts accounts) (directory_part (length accounts.users) accounts)

-- all parts of boot but the last call
abbrev pub all_parts : Accounts → Part
all_parts accounts = and_then (more_parts accounts) (process_part (length accounts.users) (declared accounts))

-- where the user table and `/` begin
pub directory_is_next : (accounts : Accounts) → next_number (first_parts accounts) ≡ 3 + 2 * length accounts.users
directory_is_next accounts = ap (λ (k : ℕ). 3 + k) (length-numbered accounts 1 accounts.users)

-- where process 0 begins
pub process_is_next : (accounts : Accounts)
    → IsBeforeBoth (6 + 2 * length accounts.users) (own_read_category (declared accounts)) (more_parts accounts)
process_is_next accounts = (
  omega (
    arith,
    length-numbered accounts 1 accounts.users,
    length-append (of_users accounts accounts.users)
        (of_directory (length accounts.users) accounts),
  ),
  omega arith,
)

-- the parts of boot, one after another
pub record HasParts (accounts : Accounts) (first directed processed last : KernelModel) : Type 0 where
  -- the next object is the user table, and then `/` and its directory segment
  pub is_next : IsBefore (3 + 2 * length accounts.users) (first_parts accounts)
  pub before : Boots first directed (first_parts accounts)
  -- the next objects are those of process 0
  pub is_after : IsBeforeBoth (6 + 2 * length accounts.users) (own_read_category (declared accounts)) (more_parts accounts)
  pub middle : Boots first processed (more_parts accounts)
  pub all : Boots first last (all_parts accounts)

-- the parts of boot follow one another
pub has_parts : (accounts : Accounts) (first k1 k2 k3 k4 : KernelModel) → state first ≡ empty_state
    → BootsOn first k1 IsAnywhere (categories_part (1 + declared accounts)) → BootsOn k1 k2 (IsBefore 3) (users_part accounts accounts.users)
    → BootsOn k2 k3 (IsBefore (3 + 2 * length accounts.users)) (directory_part (length accounts.users) accounts)
    → ((n owners : ℕ) → BootsOn k3 k4 (IsBeforeBoth (6 + 2 * n) (own_read_category owners)) (process_part n owners))
    → HasParts accounts first k2 k3 k4
has_parts accounts first k1 k2 k3 k4 empty categories objects directory process =
    let b1 : Boots first k1 (and_then nothing_yet (categories_part (1 + declared accounts))) =
    categories first nothing_yet tt (boots_first first empty) in
    let b2 : Boots first k2 (first_parts accounts) = objects first _ refl b1 in
    let b3 : Boots first k3 (more_parts accounts) = directory first (first_parts accounts) (directory_is_next accounts) b2 in
    record {
      is_next = directory_is_next accounts;
      before = b2;
      is_after = process_is_next accounts;
      middle = b3;
      all = process (length accounts.users) (declared accounts) first (more_parts accounts) (process_is_next accounts) b3;
    }

-- the numbers that the root container links at last
root_numbers : (n : ℕ)
    → (range_with_len 3 (2 * n) ++ (3 + 2 * n) ∷ (4 + 2 * n) ∷ []) ++ (6 + 2 * n) ∷ []
    ≡ range_with_len 3 (2 + 2 * n) ++ (6 + 2 * n) ∷ []
root_numbers n =
    let m : 3 + suc (2 * n) ≡ 4 + 2 * n = omega arith in
    let twice : suc (suc (2 * n)) ≡ 2 + 2 * n = omega arith in
    ap (λ (l : List ℕ). l ++ (6 + 2 * n) ∷ [])
    (ap (λ (k : ℕ). range_with_len 3 (2 * n) ++ (3 + 2 * n) ∷ k ∷ []) (sym m)
    ∙ sym (append_assoc (range_with_len 3 (2 * n)) ((3 + 2 * n) ∷ []) ((3 + suc (2 * n)) ∷ []))
    ∙ ap (λ (l : List ℕ). l ++ (3 + suc (2 * n)) ∷ []) (sym (range-suc 3 (2 * n)))
    ∙ sym (range-suc 3 (suc (2 * n))) ∙ ap (range_with_len 3) twice)

module _ (accounts : Accounts) (first before after : KernelModel) (boots : Boots first before (all_parts accounts))
    (called : Called before after boot_thread_number (calls.Unlink root_number boot_thread_number) None) where
  -- all parts of boot, where the numbers of the root container are a range and one more
  last_part : Part
  last_part = record {
    calls = (all_parts accounts).calls;
    linked = range_with_len 3 (2 + 2 * length accounts.users) ++ (6 + 2 * length accounts.users) ∷ [];
    objects = (all_parts accounts).objects;
    categories = (all_parts accounts).categories;
  }

  -- all parts of boot were made
  last_boots : Boots first before last_part
  unfolding last_part
  last_boots = boots_same first before (all_parts accounts) last_part boots refl (root_numbers (length accounts.users)) refl refl

  -- the machine was booted
  pub booted : state first ≡ empty_state → first.trace ≡ [] → first.line ≡ 0 → IsBooted accounts after
  booted empty no_trace line = record {
    first = first;
    empty = empty;
    no_trace = no_trace;
    line = line;
    made =
        granted_more boot_thread_number first before after (all_parts accounts).calls
        (calls.Unlink root_number boot_thread_number) boots.granted called;
  }

  -- the machine is in its start state
  pub started : state after ≡ start_state accounts
  unfolding last_part
  started =
      boots_last first before after last_part last_boots called
      (two_not_in_row 3 (2 + 2 * length accounts.users) (6 + 2 * length accounts.users) (omega arith) (omega arith))
      ∙ ap (state_with (container (written_by root_category)
      (range_with_len 3 (2 + 2 * length accounts.users) ++ (6 + 2 * length accounts.users) ∷ []) ∷ None
      ∷ (all_parts accounts).objects)) (omega arith)

-- no line was begun
pub booted_line : (accounts : Accounts) (kernel : KernelModel) → IsBooted accounts kernel → kernel.line ≡ 0
booted_line accounts kernel booted = (made_run boot_thread_number booted.first kernel (boot_calls accounts) None booted.made).ran.line ∙ booted.line
