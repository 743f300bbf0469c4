-- There is room for each part of boot, and where boot stops in the middle of one a beginning of boot was made.
use Rattle.std.proofs.Common.{◌≡◌, ℕ, ◌+◌, ◌*◌, List, [], ◌++◌, length, refl, sym, ◌∙◌, subst, arith, append_assoc, append-nil}
use Rattle.histar_flat.specs.Accounts.{Accounts, IsSmall}
use Rattle.histar_object.specs.State.{empty_state}
use Rattle.histar_rules.specs.declared.raw.RawCall.{RawCall}
use Rattle.histar_syscall.specs.KernelModel.{KernelModel, state, IsUnchanged}
use Rattle.histar_programs.specs.Start.{numbered, declared}
use Rattle.histar_login.specs.Boot.{boot_calls, category_calls, user_calls, directory_calls, process_calls, last_calls, last_call, HasBegunBoot}
use Rattle.histar_login.specs.Booting.{and_then, nothing_yet, next_number, Boots, BootsOn, BeginsOn, BeginsUsers, BeginsDirectory, BeginsProcess}
use Rattle.histar_login.specs.Booting.{MakesUsers, MakesDirectory, MakesProcess, HasBegun, HasRoom, Allows, IsUnderWay, IsAnywhere, IsBeforeUser}
use Rattle.histar_login.specs.Booting.{IsBeforeDirectory, categories_part}
use Rattle.histar_login.proofs.AllowedCalls.{last_allowed}
use Rattle.histar_login.proofs.Beginnings.{begun_at, begun_more, begun_after}
use Rattle.histar_login.proofs.Parts.{boots_first}
use Rattle.histar_login.proofs.LastStage.{first_parts, more_parts, all_parts, directory_is_next, process_is_next}

-- five lists one after another, split at the third and at the second
three_behind : (x c d e : List RawCall) → ((x ++ c) ++ d) ++ e ≡ x ++ (c ++ (d ++ e))
three_behind x c d e = append_assoc (x ++ c) d e ∙ append_assoc x c (d ++ e)

four_behind : (a b c d e : List RawCall) → (((a ++ b) ++ c) ++ d) ++ e ≡ a ++ (b ++ (c ++ (d ++ e)))
four_behind a b c d e = three_behind (a ++ b) c d e ∙ append_assoc a b (c ++ (d ++ e))

-- a beginning of a part is one of boot
begins_boot : (accounts : Accounts) (first new : KernelModel) (done part rest : List RawCall)
    → boot_calls accounts ≡ done ++ (part ++ rest) → HasBegun first new done part → HasBegunBoot accounts first new
begins_boot accounts first new done part rest is begun =
    let all : HasBegun first new [] (boot_calls accounts) =
    subst (HasBegun first new []) (sym is)
    (begun_after first new [] done (part ++ rest) (begun_more first new done part rest begun)) in
    (all.made, all.few, all.granted)

module _ (accounts : Accounts) (few : IsSmall accounts) (first : KernelModel) (empty : state first ≡ empty_state) where
  -- the raw calls of the users, of the user table and `/`, and of process 0
  calls_of_users : List RawCall
  calls_of_users = numbered (user_calls accounts) 1 accounts.users

  calls_of_directory : List RawCall
  calls_of_directory = directory_calls (length accounts.users) accounts

  calls_of_process : List RawCall
  calls_of_process = process_calls (length accounts.users) (declared accounts)

  -- there is room for the categories
  pub categories_way : (count : ℕ) → count ≡ 1 + declared accounts → IsUnderWay (HasRoom (2 * count) 0) first
  categories_way count is = (
    first,
    nothing_yet,
    record
        { room_for_categories = omega (arith, is, few.users, few.groups); room_for_objects = omega arith },
    boots_first first empty,
  )

  -- boot stops in the middle of the categories
  pub categories_stop : (new : KernelModel) (count : ℕ) → count ≡ 1 + declared accounts
      → BeginsOn first new IsAnywhere (categories_part count) → HasBegunBoot accounts first new
  unfolding calls_of_users calls_of_directory calls_of_process
  categories_stop new count is begins =
      let all : BeginsOn first new IsAnywhere (categories_part (1 + declared accounts)) =
      subst (λ (n : ℕ). BeginsOn first new IsAnywhere (categories_part n)) is begins in
      begins_boot accounts first new [] (category_calls (1 + declared accounts))
      (calls_of_users ++ (calls_of_directory ++ (calls_of_process ++ last_calls)))
      (four_behind (category_calls (1 + declared accounts)) calls_of_users calls_of_directory calls_of_process last_calls)
      (all first nothing_yet tt (boots_first first empty))

  module _ (k1 : KernelModel) (categories : BootsOn first k1 IsAnywhere (categories_part (1 + declared accounts))) where
    -- the first part
    b1 : Boots first k1 (and_then nothing_yet (categories_part (1 + declared accounts)))
    b1 = categories first nothing_yet tt (boots_first first empty)

    -- boot comes to the first user
    pub first_user_way : IsUnderWay (IsBeforeUser accounts 1) k1
    first_user_way = (first, and_then nothing_yet (categories_part (1 + declared accounts)), (refl, omega arith), b1)

    -- boot stops in the middle of the users
    pub users_stop : (new : KernelModel) → BeginsUsers k1 new accounts → HasBegunBoot accounts first new
    unfolding calls_of_users calls_of_directory calls_of_process
    users_stop new begins =
        begins_boot accounts first new (category_calls (1 + declared accounts)) calls_of_users
        (calls_of_directory ++ (calls_of_process ++ last_calls))
        (four_behind (category_calls (1 + declared accounts)) calls_of_users calls_of_directory calls_of_process last_calls)
        (begins first _ refl b1)

    module _ (k2 : KernelModel) (users : MakesUsers k1 k2 accounts) where
      b2 : Boots first k2 (first_parts accounts)
      b2 = users first _ refl b1

      -- boot comes to the user table and `/`
      pub directory_way : IsUnderWay (IsBeforeDirectory accounts) k2
      directory_way =
          let at : next_number (first_parts accounts) ≡ 3 + 2 * length accounts.users = directory_is_next accounts in (
            first,
            first_parts accounts,
            record {
              comes = (at, omega arith);
              room = record {
                room_for_categories = omega (arith, few.users, few.groups);
                room_for_objects = omega (arith, at, few.users);
              };
            },
            b2,
          )

      -- boot stops in the middle of the user table and `/`
      pub directory_stop : (new : KernelModel) → BeginsDirectory k2 new accounts → HasBegunBoot accounts first new
      unfolding calls_of_users calls_of_directory calls_of_process
      directory_stop new begins =
          begins_boot accounts first new (category_calls (1 + declared accounts) ++ calls_of_users) calls_of_directory
          (calls_of_process ++ last_calls)
          (three_behind (category_calls (1 + declared accounts) ++ calls_of_users) calls_of_directory calls_of_process last_calls)
          (begins first (first_parts accounts) (directory_is_next accounts) b2)

      module _ (k3 : KernelModel) (directory : MakesDirectory k2 k3 accounts) where
        b3 : Boots first k3 (more_parts accounts)
        b3 = directory first (first_parts accounts) (directory_is_next accounts) b2

        -- there is room for process 0
        pub process_way : IsUnderWay (HasRoom 2 4) k3
        process_way =
            let at = process_is_next accounts in (
              first,
              more_parts accounts,
              record {
                room_for_categories = omega (arith, at.1, few.users, few.groups);
                room_for_objects = omega (arith, at.0, few.users);
              },
              b3,
            )

        -- boot stops in the middle of process 0
        pub process_stop : (new : KernelModel) → BeginsProcess k3 new → HasBegunBoot accounts first new
        unfolding calls_of_users calls_of_directory calls_of_process
        process_stop new begins =
            begins_boot accounts first new
            ((category_calls (1 + declared accounts) ++ calls_of_users) ++ calls_of_directory) calls_of_process
            last_calls
            (append_assoc ((category_calls (1 + declared accounts) ++ calls_of_users) ++ calls_of_directory) calls_of_process last_calls)
            (begins (length accounts.users) (declared accounts) first (more_parts accounts) (process_is_next accounts) b3)

        module _ (k4 : KernelModel) (process : MakesProcess k3 k4) where
          b4 : Boots first k4 (all_parts accounts)
          b4 = process (length accounts.users) (declared accounts) first (more_parts accounts) (process_is_next accounts) b3

          -- the rules allow the last raw call
          pub unlink_way : Allows k4 last_call
          unlink_way = last_allowed first k4 (all_parts accounts) b4

          -- boot stops before the last raw call
          pub unlink_stop : (new : KernelModel) → IsUnchanged k4 new → HasBegunBoot accounts first new
          unlink_stop new same =
              begins_boot accounts first new (all_parts accounts).calls last_calls [] refl
              (begun_at first k4 new (all_parts accounts).calls (all_parts accounts) last_calls 0 b4 same
              (sym (append-nil (all_parts accounts).calls)) (omega arith))
