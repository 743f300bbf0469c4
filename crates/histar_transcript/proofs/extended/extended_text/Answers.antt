-- Proves the goals of `extended_text` of src/extended.rt that the search leaves open.
use Rattle.std.proofs.Common.{List, ℕ, ◌++◌, map, take, sym, ap, ◌∙◌}
use Rattle.std.proofs.lemmas.List.{take-map}
use Rattle.histar_transcript.specs.Extended.{ended_lines}
use Rattle.histar_transcript.proofs.extended.extended_text.Goals as goal

pub returns : goal.returns
returns c =
    c.in_ok-push_lines-2.ensures
    ∙ ap (λ (text : List ℕ). text ++ ended_lines (map (λ call. call.now) c.args.calls.now))
    (c.in_ok-push_lines.ensures
    ∙ ap (λ (l : List ℕ). l ++ ended_lines (map (λ line. line.now) (take c.args.kept c.args.lines.now))) c.new-text.ensures.items
    ∙ ap ended_lines (sym (take-map (λ line. line.now) c.args.kept c.args.lines.now)))
