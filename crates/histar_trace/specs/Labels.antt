-- Labels as a trace keeps them: with the exceptions of all labels in one list.
use Rattle.std.specs.Prelude.{◌≤◌, length, slice_range}
use Rattle.histar_label.specs.Exceptions.{Exceptions, IsCanonical}
use Rattle.histar_level.specs.Levels.{Levels}
use Rattle.histar_label.specs.Levels.{from_exceptions}
use Rattle.histar_trace.specs.declared.labels.KeptLabel.{KeptLabel}

-- the exceptions of a kept label, in the list of those of all labels
abbrev pub exceptions_kept : Exceptions → KeptLabel → Exceptions
exceptions_kept all k = slice_range all k.first k.end

-- the label that is kept
abbrev pub label_kept : Exceptions → KeptLabel → Levels
label_kept all k = from_exceptions k.default (exceptions_kept all k)

-- the exceptions of a kept label are in the list of those of all labels, and are those of a label
pub record HasExceptions (all : Exceptions) (k : KeptLabel) : Type 0 where
  pub in_order : k.first ≤ k.end
  pub in_list : k.end ≤ length all
  pub canonical : IsCanonical k.default (exceptions_kept all k)
