-- Proves the goals of `push_file` of src/titles.rt that the search leaves open.
use Rattle.std.proofs.Common.{◌++◌, ◌∙◌, ap}
use Rattle.std.specs.Prelude.{List, ℕ, codes, drop}
use Rattle.histar_flat.specs.Texts.{path_text}
use Rattle.histar_script.specs.Lines.{lines_of}
use Rattle.histar_trust.proofs.ShownSecrets.{behind_three}
use Rattle.histar_leak.specs.Titles.{title_lines, titles_in}
use Rattle.histar_leak.proofs.Pieces.{ok_so}
use Rattle.histar_leak.proofs.titles.push_file.Goals as goal

pub returns : goal.returns
returns g c =
    let old = c.args.text.now.items in
    let path = path_text c.args.path.now in
    let line = c.in_ok-extend_from_slice.ensures.items ∙ ap (λ (t : List ℕ). t ++ codes "\n") c.in_ok-push_path.ensures.ok in
    let titles = ap title_lines (c.behind_first.ensures ∙ ap (λ (t : List ℕ). drop 1 (lines_of t)) c.as_slice.ensures.value) in
    ok_so c.push_titles.result
    (λ added f r. added ∙ (λ i. line i ++ titles i) ∙ behind_three old path (codes "\n") (titles_in c.in_ok-lines.lines.items)
    ∙ ap (λ (t : List ℕ). old ++ (path ++ codes "\n" ++ titles_in t)) (c.in_ok-lines.ensures f r))
    c.push_titles.ensures
