-- What a line in the output of a run is.
use Rattle.std.specs.Prelude.{ℕ, Bool, List}
use Rattle.histar_page.specs.declared.lines.LineKind.{LineKind}
use Rattle.histar_page.specs.declared.lines.LineKind.TheVariants.{Reply, RawCall, Explanation, Reason}
use Rattle.histar_page.specs.Lines.{is_explanation, is_raw_call, is_reason, is_reply}

-- a line is of a kind
abbrev pub is_of : LineKind → List ℕ → Bool
is_of Reply line = is_reply line
is_of RawCall line = is_raw_call line
is_of Explanation line = is_explanation line
is_of Reason line = is_reason line
