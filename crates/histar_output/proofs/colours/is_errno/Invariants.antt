-- The invariants and measures of `is_errno` of src/colours.rt.
use Rattle.std.proofs.Common.{◌≡◌, drop}
use Rattle.std.specs.List.{list_any}
use Rattle.std.specs.Str.{bytes_eq}
use Rattle.histar_flat.specs.Texts.{errno_text}
use Rattle.histar_output.proofs.colours.is_errno.Given as goal

abbrev pub invariant-errnos : goal.invariant-errnos
invariant-errnos l =
    list_any (λ e. bytes_eq l.reply (errno_text e)) l.errnos ≡ list_any (λ e. bytes_eq l.reply (errno_text e)) (drop l.errno-index l.errnos)
