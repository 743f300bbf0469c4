-- Proves the goals of `push_files` of src/titles.rt that the search leaves open.
use Rattle.std.proofs.Common.{◌∷◌, List, [], ◌++◌, ◌∙◌, ap, sym, take}
use Rattle.std.specs.List.{flat_map}
use Rattle.std.proofs.lemmas.List.{flat_map_more, take_all, take_more}
use Rattle.histar_flat.specs.Words.{Path}
use Rattle.histar_leak.specs.Titles.{file_titles}
use Rattle.histar_leak.proofs.titles.push_files.Goals as goal

pub loop-path-preserved : goal.loop-path-preserved
loop-path-preserved g c =
    let titles = file_titles c.args.snapshot.now.accounts.now in
    let paths = c.args.paths.now in
    let i = c.loop-path.path-index in
    let path = c.path-item.result in
    let old = c.args.text.now.items in
    let more = take_more paths i path c.loop-path-test.true ∙ ap (λ (p : Path). take i paths ++ p ∷ []) (sym c.path-item.is) in
    λ f r. c.in_ok-push_file.ensures f r ∙ ap (λ t. t ++ titles f path) (c.loop-path.invariant f r)
    ∙ flat_map_more (titles f) old (take i paths) path ∙ ap (λ (ps : List Path). old ++ flat_map (titles f) ps) (sym more)

pub returns : goal.returns
returns g c =
    let titles = file_titles c.args.snapshot.now.accounts.now in
    let old = c.args.text.now.items in
    let whole = take_all c.loop-path.path-index c.args.paths.now c.loop-path-test.false in
    λ f r. c.loop-path.invariant f r ∙ ap (λ (ps : List Path). old ++ flat_map (titles f) ps) whole
