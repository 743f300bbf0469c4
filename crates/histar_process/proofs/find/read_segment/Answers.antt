-- Proves the goals of `read_segment` of src/find.rt that the search leaves open.
use Rattle.std.proofs.Common.{ℕ, List, None, Some, ◌≡◌, subst}
use Rattle.std.specs.Prelude.{option_map}
use Rattle.histar_layout.specs.Status.{head_of, status_in}
use Rattle.histar_programs.proofs.Running.{grants, refuses}
use Rattle.histar_process.proofs.Segments.{read_fails, reading_fails, segment_none, segment_read}
use Rattle.histar_process.proofs.find.read_segment.Goals as goal

pub returns-in_err-bytes : goal.returns-in_err-bytes
returns-in_err-bytes g c =
    reading_fails _ _ _ _ _ _ c.from_residual.ensures.1 (read_fails _ _ _ _ _ (refuses _ _ _ _ _ _ c.in_err-bytes.ensures.ok
    c.in_err-bytes.ensures.memory))

pub returns-in_default : goal.returns-in_default
returns-in_default g c =
    segment_none _ _ _ _ _ (grants _ _ _ _ _ c.in_ok-bytes.ensures.ok.0 c.in_ok-bytes.ensures.ok.1)
    (subst (λ (bytes : List ℕ). None ≡ option_map head_of (status_in bytes)) c.as_slice.ensures c.in_default.ensures)

pub returns : goal.returns
returns g c =
    segment_read _ _ _ _ _ (grants _ _ _ _ _ c.in_ok-bytes.ensures.ok.0 c.in_ok-bytes.ensures.ok.1) _
    (subst (λ (bytes : List ℕ). Some c.in-Some.head ≡ option_map head_of (status_in bytes)) c.as_slice.ensures c.in-Some.ensures)
