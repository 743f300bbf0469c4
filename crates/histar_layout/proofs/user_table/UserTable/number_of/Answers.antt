-- Proves the goals of `UserTable::number_of` of src/user_table.rt that the search leaves open.
use Rattle.std.proofs.Common.{ℕ, ◌+◌, sym, ap, ◌∙◌}
use Rattle.std.specs.Prelude.{option_map}
use Rattle.histar_flat.specs.Accounts.{Accounts, user_number}
use Rattle.histar_layout.proofs.Lookups.{number_is}
use Rattle.histar_layout.proofs.user_table.UserTable.number_of.Goals as goal

pub returns-in-None : goal.returns-in-None
returns-in-None c =
    let found = sym c.in-None.is ∙ c.get_index_of.ensures.index in record {
      number = ap (option_map (λ (place : ℕ). place + 1)) found ∙ number_is c.args.name c.self.inside.names.keys c.self.inside.groups.items
          ∙ ap (λ (s : Accounts). user_number s c.args.name) c.self.view_is;
    }

pub returns-in-Some : goal.returns-in-Some
returns-in-Some c =
    let found = sym c.in-Some.is ∙ c.get_index_of.ensures.index in record {
      number = ap (option_map (λ (place : ℕ). place + 1)) found ∙ number_is c.args.name c.self.inside.names.keys c.self.inside.groups.items
          ∙ ap (λ (s : Accounts). user_number s c.args.name) c.self.view_is;
    }
