-- The matches of a subcommand, from its name and its rows.
use Rattle.std.proofs.Common.{◌≡◌, List, Option, Some, None, refl, ap, ◌∙◌}
use Rattle.std.specs.Prelude.{option_map, true}
use Rattle.std.specs.Box.{box_value}
use Rattle.clap.specs.declared.parser.matches.ArgMatches.{ArgMatches}
use Rattle.clap.specs.declared.parser.matches.ArgMatches.TheViews.{out-ArgMatches, out-SubCommand}
use Rattle.clap.specs.Words.{Row, Text, is_simple, subcommand_rows, subcommand_rows_of, subcommand_name_of}
use Rattle.clap.proofs.OnLiterals.{clap_on_literals}
use Rattle.histar_command_line.specs.Forms.{histar_app}

-- a pair that is there is determined by its parts
pub both_parts : (o : Option (Text × List Row)) (name : Text) (rows : List Row) → option_map (λ p. p.0) o ≡ Some name
    → option_map (λ p. p.1) o ≡ Some rows → o ≡ Some (name, rows)
both_parts None name rows p q = absurd cc
both_parts (Some x) name rows p q =
    let first : x.0 ≡ name = cc in
    let second : x.1 ≡ rows = cc in
    ap (λ (n : Text). Some (n, x.1)) first ∙ ap (λ (r : List Row). Some (name, r)) second

-- the command line is of the plain kind whose matches `clap` states exactly
pub histar_is_simple : is_simple histar_app ≡ true
unfolding clap_on_literals
histar_is_simple = refl

-- the name in the subcommand's rows is that of the subcommand
pub name_is : (m : ArgMatches) → option_map (λ p. p.0) (subcommand_rows_of m) ≡ subcommand_name_of m
name_is m =
    elim (out-ArgMatches m).subcommand as (λ o. option_map (λ (p : Text × List Row). p.0) (subcommand_rows o)
    ≡ option_map (λ b. (out-SubCommand (box_value b)).name.now) o) [ None ↦ refl | Some b ↦ refl ]

-- the subcommand of this name was matched, with the rows that were found in it
pub matched : (m : ArgMatches) (name : Text) (rows : List Row) → subcommand_name_of m ≡ Some name
    → option_map (λ p. p.1) (subcommand_rows_of m) ≡ Some rows
    → subcommand_rows_of m ≡ Some (name, rows)
matched m name rows named found = both_parts (subcommand_rows_of m) name rows (name_is m ∙ named) found
