-- Proves the goals of `transcript_of` of src/transcript.rt that the search leaves open.
use Rattle.std.proofs.Common.{◌≡◌, ℕ, List, ◌++◌, length, codes, sym, ap, ◌∙◌, rules, append-nil}
use Rattle.std.specs.List.{flat_map}
use Rattle.histar_script.specs.Lines.{lines_of}
use Rattle.histar_script.proofs.LineLemmas.{no_lines}
use Rattle.histar_transcript.specs.Transcript.{with_call}
use Rattle.histar_transcript.proofs.transcript.transcript_of.Goals as goal

pub returns : goal.returns
returns c =
    let written = c.lines.text.items in
    let none : length c.lines.rest.now ≡ 0 = search rules in
    let behind = λ (rest : List (List ℕ)). written ++ flat_map (λ line. with_call (lines_of c.args.script.now) line ++ codes "\n") rest in
    sym (append-nil written) ∙ ap behind (sym (no_lines c.lines.rest.now none)) ∙ c.lines.invariant
