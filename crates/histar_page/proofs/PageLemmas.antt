-- A page, one part after another.
use Rattle.std.proofs.Common.{◌≡◌, ℕ, Bool, List, ◌++◌, ◌∙◌, append_assoc, ap, refl, sym, true, false}
use Rattle.std.specs.Prelude.{Err, IfOk, Ok, Result, if◌then◌else◌, is_ok}
use Rattle.std.proofs.lemmas.List.Concat.{flat_map-append}
use Rattle.histar_script.specs.Lines.{lines_of}
use Rattle.histar_page.specs.Flows.{flows_items}
use Rattle.histar_page.specs.Items.{Item}
use Rattle.histar_page.specs.Page.{Sources, drawing_shown, files_shown, head_shown, is_long, page_of, rights_shown, secrets_shown, session_shown}
use Rattle.histar_page.specs.Rendering.{item_text, rendered}

-- pieces that are these items were made and written, so the items were written
pub part_written : {T E : Type 0} {new : List ℕ} (old : List ℕ) (items : List Item) (made : Result T E) (list : T → List Item)
    → is_ok made ≡ true → IfOk made (λ part. new ≡ old ++ rendered (list part)) → IfOk made (λ part. list part ≡ items)
    → new ≡ old ++ rendered items
part_written old items (Ok part) list is written shown = written ∙ ap (λ (items : List Item). old ++ rendered items) shown
part_written old items (Err e) list is written shown = absurd cc

-- after some items others were written
pub parts_written : {mid new : List ℕ} (old : List ℕ) (first second : List Item)
    → mid ≡ old ++ rendered first → new ≡ mid ++ rendered second → new ≡ old ++ rendered (first ++ second)
parts_written old first second a b =
    b ∙ ap (λ (page : List ℕ). page ++ rendered second) a ∙ append_assoc old (rendered first) (rendered second)
    ∙ ap (λ (text : List ℕ). old ++ text) (sym (flat_map-append item_text first second))

-- a table that is too long to be shown, with another one in its place
module _ (sources : Sources) (table : List ℕ) where
  abbrev with_table : Sources
  with_table = record sources { table = table }

  by_true : (b : Bool) (first second : List Item) → b ≡ true → (if b then first else second) ≡ first
  by_true true first second is = refl
  by_true false first second is = absurd cc

  module _ (old : is_long sources.table ≡ true) (new : is_long table ≡ true) where
    -- the files are left out of both, and the drawing
    files_are_alike : files_shown sources ≡ files_shown with_table
    files_are_alike = by_true (is_long sources.table) _ _ old ∙ sym (by_true (is_long table) _ _ new)

    drawings_are_alike : drawing_shown sources ≡ drawing_shown with_table
    drawings_are_alike = by_true (is_long sources.table) _ _ old ∙ sym (by_true (is_long table) _ _ new)

    rights_are_alike : rights_shown sources ≡ rights_shown with_table
    rights_are_alike =
        ap (λ (files : List Item). files ++ secrets_shown sources ++ flows_items (lines_of sources.flows) ++ drawing_shown sources) files_are_alike
        ∙ ap (λ (drawing : List Item). files_shown with_table ++ secrets_shown sources ++ flows_items (lines_of sources.flows) ++ drawing)
        drawings_are_alike

    -- two tables that are too long are shown alike
    pub long_tables_are_alike : page_of sources ≡ page_of with_table
    long_tables_are_alike =
        ap (λ (rights : List Item). rendered (head_shown sources ++ session_shown sources ++ rights)) rights_are_alike
