-- The invariants and measures of `text_of` of src/shelf.rt.
use Rattle.std.proofs.Common.{◌≡◌, length}
use Rattle.histar_dialogue.specs.Shelf.{saved_files, text_of}
use Rattle.histar_dialogue.proofs.shelf.MemoryShelf.text_of.Given as goal

abbrev pub decreases-files : goal.decreases-files
decreases-files l = length l.rest

abbrev pub invariant-files : goal.invariant-files
invariant-files l = text_of l.name (saved_files l.rest) ≡ text_of l.name (saved_files l.self.files.items)
