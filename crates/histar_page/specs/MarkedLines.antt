-- The lines that begin with a mark, behind references.
use Rattle.histar_page.specs.declared.session.Lines.{Lines}
use Rattle.histar_page.specs.declared.session.Own.{Own}
use Rattle.histar_page.specs.Texts.{texts}
use Rattle.histar_page.specs.Order.{Marked}

-- those among the lines of an output
abbrev pub marked_in : Lines → Marked
marked_in lines = record {
  reasons = texts lines.reasons.now;
  raw_calls = texts lines.raw_calls.now;
  explanations = texts lines.explanations.now;
}

-- those that belong to one reply
abbrev pub marked_of : Own → Marked
marked_of own = record {
  reasons = texts own.reasons.now;
  raw_calls = texts own.raw_calls.now;
  explanations = texts own.explanations.now;
}
