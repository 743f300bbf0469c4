-- Proves the goals of `make_directory` of src/boot_calls.rt that the search leaves open.
use Rattle.std.proofs.Common.{length}
use Rattle.histar_container.proofs.Keeping.{on_err}
use Rattle.histar_login.specs.Booting.{BeginsDirectory}
use Rattle.histar_login.proofs.DirectoryStage.{slash_allowed, listing_allowed, directory_begun_none, directory_begun_one, directory_begun_two}
use Rattle.histar_login.proofs.DirectoryStage.{directory_stage}
use Rattle.histar_login.proofs.boot_calls.make_directory.Goals as goal

pub returns-in_err-make_user_table-clause-err : goal.returns-in_err-make_user_table-clause-err
returns-in_err-make_user_table-clause-err g c =
    let begun : BeginsDirectory c.args.kernel.now c.make_user_table.new.kernel c.args.accounts.now = λ first p at b.
    directory_begun_none _ first _ p b (length _) _ c.in_err-make_user_table.ensures.grants in
    on_err _ _ begun

pub make_slash-requires : goal.make_slash-requires
make_slash-requires g c =
    slash_allowed _ c.requires.begins.0 _ c.requires.begins.1 c.requires.begins.3 _
    c.in_ok-make_user_table.ensures.grants.0 c.requires.begins.2 c.requires.some

pub returns-in_err-container-clause-err : goal.returns-in_err-container-clause-err
returns-in_err-container-clause-err g c =
    let begun : BeginsDirectory c.args.kernel.now c.make_slash.new.kernel c.args.accounts.now = λ first p at b. directory_begun_one _ first _ p b _
    c.in_ok-make_user_table.ensures.grants.0 (length _) _ c.in_err-container.ensures.grants in
    on_err _ _ begun

pub make_listing-requires : goal.make_listing-requires
make_listing-requires g c =
    listing_allowed _ c.requires.begins.0 _ c.requires.begins.1 c.requires.begins.3 _ c.in_ok-make_user_table.ensures.grants.0
    _ _ c.in_ok-container.ensures.grants.0 c.in_ok-container.ensures.grants.1 c.requires.begins.2 c.requires.some

pub returns-in_err-listing-clause-err : goal.returns-in_err-listing-clause-err
returns-in_err-listing-clause-err g c =
    let begun : BeginsDirectory c.args.kernel.now c.make_listing.new.kernel c.args.accounts.now = λ first p at b.
    directory_begun_two _ first _ p b _ c.in_ok-make_user_table.ensures.grants.0
    _ _ c.in_ok-container.ensures.grants.0 c.in_ok-container.ensures.grants.1
    (length _) _ c.in_err-listing.ensures.grants in
    on_err _ _ begun

pub returns-clause-boots : goal.returns-clause-boots
returns-clause-boots g c = λ first p at b.
    (directory_stage _ first _ p b _ c.in_ok-make_user_table.ensures.grants.0
    _ _ c.in_ok-container.ensures.grants.0 c.in_ok-container.ensures.grants.1
    _ _ c.in_ok-listing.ensures.grants.0 c.in_ok-listing.ensures.grants.1 (length _) at).0

pub returns-clause-slash : goal.returns-clause-slash
returns-clause-slash g c = λ first p at b.
    let s =
    directory_stage _ first _ p b _ c.in_ok-make_user_table.ensures.grants.0 _ _ c.in_ok-container.ensures.grants.0 c.in_ok-container.ensures.grants.1
    _ _ c.in_ok-listing.ensures.grants.0 c.in_ok-listing.ensures.grants.1 (length _) at in
    λ j. record { container = s.1 j; listing = s.2 j }
