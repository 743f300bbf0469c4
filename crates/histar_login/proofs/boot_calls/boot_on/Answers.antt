-- Proves the goals of `boot_on` of src/boot_calls.rt that the search leaves open.
use Rattle.std.proofs.Common.{◌≡◌, ℕ, ◌+◌, List, length, ap, subst, arith}
use Rattle.histar_container.proofs.Keeping.{on_err}
use Rattle.histar_flat.specs.declared.calls.User.{User}
use Rattle.histar_flat.specs.Accounts.{Group, Accounts}
use Rattle.histar_login.specs.Booting.{BootsOn, IsAnywhere, categories_part}
use Rattle.histar_programs.specs.Start.{declared, roots_of}
use Rattle.histar_syscall.specs.KernelModel.{KernelModel}
use Rattle.histar_login.proofs.LastStage.{HasParts, has_parts, booted, started, first_parts, more_parts}
use Rattle.histar_login.proofs.Stops.{categories_way, categories_stop, first_user_way, users_stop, directory_way, directory_stop, process_way}
use Rattle.histar_login.proofs.Stops.{process_stop, unlink_way, unlink_stop}
use Rattle.histar_login.proofs.boot_calls.boot_on.Given as given
use Rattle.histar_login.proofs.boot_calls.boot_on.Goals as goal

-- how many pairs of categories are made
count_is : (users : List User) (groups : List Group) (accounts : Accounts) → users ≡ accounts.users
    → groups ≡ accounts.groups → 1 + length users + length groups ≡ 1 + declared accounts
count_is users groups accounts same_users same_groups = omega (arith, ap length same_users, ap length same_groups)

-- the pairs of categories of these accounts were made
pairs_made : (users : List User) (groups : List Group) (accounts : Accounts) → users ≡ accounts.users → groups ≡ accounts.groups
    → (old new : KernelModel) → BootsOn old new IsAnywhere (categories_part (1 + length users + length groups))
    → BootsOn old new IsAnywhere (categories_part (1 + declared accounts))
pairs_made users groups accounts same_users same_groups old new =
    subst (λ (n : ℕ). BootsOn old new IsAnywhere (categories_part n)) (count_is users groups accounts same_users same_groups)

pub make_categories-requires : goal.make_categories-requires
make_categories-requires g c =
    categories_way _ c.users.ensures.few _ c.requires.state _ (count_is _ _ _ c.users.ensures.users c.groups.ensures.groups)

pub returns-in_err-make_categories-clause-err : goal.returns-in_err-make_categories-clause-err
returns-in_err-make_categories-clause-err g c =
    on_err _ _ (categories_stop _ c.users.ensures.few _ c.requires.state _ _ (count_is _ _ _ c.users.ensures.users
    c.groups.ensures.groups) c.in_err-make_categories.ensures.err)

pub make_users-requires : goal.make_users-requires
make_users-requires g c =
    first_user_way _ c.users.ensures.few _ c.requires.state
    _ (pairs_made _ _ _ c.users.ensures.users c.groups.ensures.groups _ _ c.in_ok-make_categories.ensures.ok)

pub returns-in_err-make_users-clause-err : goal.returns-in_err-make_users-clause-err
returns-in_err-make_users-clause-err g c =
    on_err _ _ (users_stop _ c.users.ensures.few _ c.requires.state
    _ (pairs_made _ _ _ c.users.ensures.users c.groups.ensures.groups _ _ c.in_ok-make_categories.ensures.ok)
    _ c.in_err-make_users.ensures.err)

pub make_directory-requires-clause-begins : goal.make_directory-requires-clause-begins
make_directory-requires-clause-begins g c =
    directory_way _ c.users.ensures.few _ c.requires.state
    _ (pairs_made _ _ _ c.users.ensures.users c.groups.ensures.groups _ _ c.in_ok-make_categories.ensures.ok)
    _ c.in_ok-make_users.ensures.ok

pub returns-in_err-slash-clause-err : goal.returns-in_err-slash-clause-err
returns-in_err-slash-clause-err g c =
    on_err _ _ (directory_stop _ c.users.ensures.few _ c.requires.state
    _ (pairs_made _ _ _ c.users.ensures.users c.groups.ensures.groups _ _ c.in_ok-make_categories.ensures.ok)
    _ c.in_ok-make_users.ensures.ok _ c.in_err-slash.ensures.err)

pub make_process-requires : goal.make_process-requires
make_process-requires g c =
    process_way _ c.users.ensures.few _ c.requires.state
    _ (pairs_made _ _ _ c.users.ensures.users c.groups.ensures.groups _ _ c.in_ok-make_categories.ensures.ok)
    _ c.in_ok-make_users.ensures.ok _ c.in_ok-slash.ensures.boots

pub returns-in_err-home-clause-err : goal.returns-in_err-home-clause-err
returns-in_err-home-clause-err g c =
    on_err _ _ (process_stop _ c.users.ensures.few _ c.requires.state
    _ (pairs_made _ _ _ c.users.ensures.users c.groups.ensures.groups _ _ c.in_ok-make_categories.ensures.ok)
    _ c.in_ok-make_users.ensures.ok _ c.in_ok-slash.ensures.boots
    _ c.in_err-home.ensures.err)

pub unlink_boot_thread-requires : goal.unlink_boot_thread-requires
unlink_boot_thread-requires g c =
    unlink_way _ c.users.ensures.few _ c.requires.state
    _ (pairs_made _ _ _ c.users.ensures.users c.groups.ensures.groups _ _ c.in_ok-make_categories.ensures.ok)
    _ c.in_ok-make_users.ensures.ok _ c.in_ok-slash.ensures.boots
    _ c.in_ok-home.ensures.boots

pub returns-in_err-unlink_boot_thread-clause-err : goal.returns-in_err-unlink_boot_thread-clause-err
returns-in_err-unlink_boot_thread-clause-err g c =
    on_err _ _ (unlink_stop _ c.users.ensures.few _ c.requires.state
    _ (pairs_made _ _ _ c.users.ensures.users c.groups.ensures.groups _ _ c.in_ok-make_categories.ensures.ok)
    _ c.in_ok-make_users.ensures.ok _ c.in_ok-slash.ensures.boots
    _ c.in_ok-home.ensures.boots _ c.in_err-unlink_boot_thread.ensures.grants)

parts : (g : given.Over) (c : goal.In_ok-unlink_boot_thread g)
    → HasParts c.args.accounts.now c.args.kernel.now c.make_users.new.kernel c.make_directory.new.kernel c.make_process.new.kernel
parts g c =
    has_parts _ _ _ _ _ _ c.requires.state (pairs_made _ _ _ c.users.ensures.users c.groups.ensures.groups _ _ c.in_ok-make_categories.ensures.ok)
    c.in_ok-make_users.ensures.ok c.in_ok-slash.ensures.boots c.in_ok-home.ensures.boots

pub returns-clause-booted : goal.returns-clause-booted
returns-clause-booted g c =
    booted _ _ _ _ (parts g c).all c.in_ok-unlink_boot_thread.ensures.grants.0 c.requires.state c.requires.trace c.requires.line

pub returns-clause-state : goal.returns-clause-state
returns-clause-state g c =
    started _ _ _ _ (parts g c).all c.in_ok-unlink_boot_thread.ensures.grants.0

slash_is : (g : given.Over) (c : goal.In_ok-unlink_boot_thread g) → c.in_ok-slash.slash ≡ (roots_of (length c.args.accounts.now.users)).slash
slash_is g c = c.in_ok-slash.ensures.slash c.args.kernel.now (first_parts _) (parts g c).is_next (parts g c).before

home_is : (g : given.Over) (c : goal.In_ok-unlink_boot_thread g) → c.in_ok-home.home ≡ (roots_of (length c.args.accounts.now.users)).home
home_is g c =
    c.in_ok-home.ensures.home (length _) (declared c.args.accounts.now) c.args.kernel.now (more_parts _) (parts g c).is_after (parts g c).middle

pub returns-clause-roots : goal.returns-clause-roots
returns-clause-roots g c = λ j. record { slash = slash_is g c j; home = home_is g c j }
