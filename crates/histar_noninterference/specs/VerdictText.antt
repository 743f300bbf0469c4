-- The text of a verdict.
use Rattle.std.specs.Prelude.{ℕ, List, ◌++◌, codes, decimal}
use Rattle.histar_flat.specs.Texts.{path_text}
use Rattle.histar_noninterference.specs.declared.verdict.Verdict.{Verdict}
use Rattle.histar_noninterference.specs.declared.verdict.Verdict.TheVariants.{Same, NoJob, Line, Tree}

-- the runs are the same, there is no such job, the line of a reply that differs, or the path at which the trees differ
abbrev pub verdict_text : Verdict → List ℕ
verdict_text Same = codes "same"
verdict_text NoJob = codes "no job"
verdict_text (Line number) = codes "line " ++ decimal number
verdict_text (Tree path) = codes "tree " ++ path_text path
