-- Proves the goals of `Dir::from_bytes` of src/directory.rt that the search leaves open.
use Rattle.std.proofs.Common.{List, ℕ, sym, subst, ◌∙◌}
use Rattle.histar_layout.specs.Directory.{IsDirectory}
use Rattle.histar_layout.specs.Spelled.{entries_of}
use Rattle.histar_layout.proofs.Spellings.{is_spelled}
use Rattle.histar_layout.proofs.directory.Dir.from_bytes.Goals as goal

-- the bytes that are kept spell a directory
kept : (c : goal.After-into_vec) → IsDirectory c.into_vec.result.items (entries_of c.into_vec.result.items)
kept c =
    is_spelled c.into_vec.result.items c.in-Ok.ensures.0
    (subst (λ (b : List ℕ). IsDirectory b c.in-Ok.ensures.0) (c.as_slice.ensures ∙ sym c.into_vec.ensures) c.in-Ok.ensures.1)

pub invariant_of-result : goal.invariant_of-result
invariant_of-result c = kept c

pub returns-in-Ok : goal.returns-in-Ok
returns-in-Ok c = subst (λ (b : List ℕ). IsDirectory b (entries_of c.into_vec.result.items)) c.into_vec.ensures (kept c)
