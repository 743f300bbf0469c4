-- Proves the goals of `differences_between` of src/differences.rt that the search leaves open.
use Rattle.std.proofs.Common.{List, ap, ◌∙◌, ◌≡◌, subst, sym}
use Rattle.std.specs.List.{filter_map}
use Rattle.histar_diff.specs.declared.columns.Column.{Column}
use Rattle.histar_diff.specs.declared.differences.Difference.{Difference}
use Rattle.histar_diff.specs.declared.lone.Lone.{Lone}
use Rattle.histar_diff.specs.Columns.{columns_from, lone_at}
use Rattle.histar_diff.specs.Differences.{AreDifferences}
use Rattle.histar_diff.specs.Lines.{lines_differences}
use Rattle.histar_diff.proofs.Listing.{are_differences}
use Rattle.histar_diff.proofs.differences.differences_between.Goals as goal

pub returns : goal.returns
returns c =
    let old = c.args.old.now in
    let new = c.args.new.now in
    let all : List Column = columns_from 0 old.processes.items 0 new.processes.items in
    let columns : c.in_ok-columns.columns.items ≡ all = c.in_ok-columns.ensures
    ∙ (λ i. columns_from 0 (c.as_slice.ensures.value i) 0 (c.as_slice-2.ensures.value i)) in
    let lone : c.in_ok-lone.lone.items ≡ filter_map lone_at all = c.in_ok-lone.ensures
    ∙ ap (filter_map lone_at) (c.as_slice-3.ensures.value ∙ columns) in
    let pairs : c.in_ok-pairs.pairs.items ≡ lines_differences all old.lines.items new.lines.items = c.in_ok-pairs.ensures
    ∙ (λ i. lines_differences ((c.as_slice-4.ensures.value ∙ columns) i) (c.as_slice-5.ensures.value i) (c.as_slice-6.ensures.value i)) in
    subst (λ (found : List Lone × List Difference). AreDifferences old new found.0 found.1) (λ i. (sym lone i, sym pairs i))
    (are_differences old new c.requires.old_rises c.requires.new_rises)
