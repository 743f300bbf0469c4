-- Proves the goals of `noted_transcript` of src/noted.rt that the search leaves open.
use Rattle.std.proofs.Common.{◌≡◌, ℕ, List, ◌++◌, length, map, sym, ap, ◌∙◌, rules, append-nil}
use Rattle.histar_script.specs.Lines.{lines_of}
use Rattle.histar_script.proofs.LineLemmas.{no_lines}
use Rattle.histar_transcript.specs.Noted.{with_notes}
use Rattle.histar_transcript.proofs.noted.noted_transcript.Goals as goal

pub returns : goal.returns
returns c =
    let written = c.lines.text.items in
    let none : length c.lines.rest.now ≡ 0 = search rules in
    let reasons = map (λ reason. reason.now) c.lines.reasons.now in
    let denials = map (λ denial. denial.now) c.lines.denials.now in
    let behind = λ (rest : List (List ℕ)). written ++ with_notes (lines_of c.args.script.now) reasons denials rest in
    sym (append-nil written) ∙ ap behind (sym (no_lines c.lines.rest.now none)) ∙ c.lines.invariant
