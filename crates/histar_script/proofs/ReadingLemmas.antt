-- Reading lines one after another.
use Rattle.std.proofs.Common.{◌≡◌, ℕ, ◌+◌, cond, eqb, List, length, Result, Ok, Err, sym, ap, ◌∙◌}
use Rattle.histar_script.specs.declared.fault.Fault.{Fault}
use Rattle.histar_script.specs.declared.fault.Fault.TheVariants.{BadScript}
use Rattle.histar_script.specs.Script.{ScriptModel}
use Rattle.histar_script.specs.Lines.{lines_of}
use Rattle.histar_script.specs.Reading.{with_lines}
use Rattle.histar_script.proofs.LineLemmas.{no_lines}

-- reading ends after the last line
pub at_end : (s : ScriptModel) (n : ℕ) (rest : List ℕ) (total : Result ScriptModel Fault) → length rest ≡ 0
    → with_lines s n (lines_of rest) ≡ total
    → total ≡ cond (eqb (length s.accounts.users) 0) (Err (BadScript (n + 1))) (Ok s)
unfolding with_lines
at_end s n rest total none so_far = sym so_far ∙ ap (with_lines s n) (no_lines rest none)
