-- Proves the goals of `add_each` of src/command.rt that the search leaves open.
use Rattle.std.proofs.Common.{◌≡◌, ◌+◌, ◌++◌, ℕ, [], ◌∷◌, List, sym, take, ap, ◌∙◌}
use Rattle.std.specs.Prelude.{fold, map}
use Rattle.std.proofs.lemmas.List.{map-append, take_more, take_all}
use Rattle.std.proofs.lemmas.List.Sums.{fold-append}
use Rattle.clap.specs.Words.{App, app_of, with_subcommand}
use Rattle.histar_command_line.specs.declared.forms.Form.{Form}
use Rattle.histar_command_line.specs.Forms.{form_shape}
use Rattle.histar_command_line.proofs.command.add_each.Goals as goal

-- the program with one more subcommand
one_more : (first old new : App) (forms : List Form) (i : ℕ) (form : Form) → take (i + 1) forms ≡ take i forms ++ form ∷ []
    → old ≡ fold with_subcommand first (map form_shape (take i forms)) → new ≡ with_subcommand old (form_shape form)
    → new ≡ fold with_subcommand first (map form_shape (take (i + 1) forms))
one_more first old new forms i form more is added =
    added ∙ ap (λ (app : App). with_subcommand app (form_shape form)) is
    ∙ sym (ap (λ (given : List Form). fold with_subcommand first (map form_shape given)) more
    ∙ ap (fold with_subcommand first) (map-append form_shape (take i forms) (form ∷ []))
    ∙ fold-append with_subcommand first (map form_shape (take i forms)) (form_shape form ∷ []))

pub forms-preserved : goal.forms-preserved
forms-preserved c =
    one_more (app_of c.args.histar) _ _ c.args.forms.now c.forms.form-index _
    (take_more c.args.forms.now c.forms.form-index _ c.forms-test.true) c.forms.invariant c.in_ok-histar.ensures

pub returns : goal.returns
returns c =
    c.forms.invariant
    ∙ ap (λ (given : List Form). fold with_subcommand (app_of c.args.histar) (map form_shape given))
    (take_all c.forms.form-index c.args.forms.now c.forms-test.false)
