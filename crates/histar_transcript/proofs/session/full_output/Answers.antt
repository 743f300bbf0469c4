-- Proves the goals of `full_output` of src/session.rt that the search leaves open.
use Rattle.std.proofs.Common.{List, ℕ, ◌++◌, map, ap, ◌∙◌}
use Rattle.std.specs.List.{filter}
use Rattle.histar_script.specs.Lines.{lines_of}
use Rattle.histar_transcript.specs.Extended.{ended_lines}
use Rattle.histar_transcript.specs.Noted.{is_denial}
use Rattle.histar_transcript.proofs.Replies.{line_at}
use Rattle.histar_transcript.proofs.session.full_output.Goals as goal

pub returns : goal.returns
returns c = record {
  reasoned = c.in_ok-output.output.items;
  explained = c.in_ok-explained.explained.items;
  is_reasoned = c.in_ok-output.ensures;
  is_explained = c.in_ok-explained.ensures;
  joined =
      c.in_ok-push_lines.ensures
      ∙ ap (λ (lines : List (List ℕ)). c.in_ok-output.output.items ++ ended_lines lines)
      (ap (map line_at) c.as_slice-2.ensures.value ∙ c.in_ok-denials.ensures
      ∙ ap (λ (text : List ℕ). filter is_denial (lines_of text)) c.as_slice.ensures.value);
}
