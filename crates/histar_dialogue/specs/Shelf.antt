-- The files that a dialogue saves.
use Rattle.std.specs.Prelude.{ℕ, List, [], ◌∷◌, ◌++◌, Option, None, Some, map, if◌then◌else◌}
use Rattle.std.specs.Str.{bytes_eq}
use Rattle.histar_dialogue.specs.declared.shelf.KeptFile.{KeptFile}

-- a file that was saved: its name and its bytes
abbrev pub SavedFile : Type 0
SavedFile = List ℕ × List ℕ

-- the files that were saved so far, in their order, where they are known
abbrev pub Saved : Type 0
Saved = Option (List SavedFile)

-- the same, and then this file
abbrev pub with_saved : SavedFile → Saved → Saved
with_saved file None = None
with_saved file (Some files) = Some (files ++ file ∷ [])

-- a file that is kept in memory was saved under its name
abbrev pub saved_file : KeptFile → SavedFile
saved_file file = (file.name.items, file.text.items)

-- files that are kept in memory were saved in their order
abbrev pub saved_files : List KeptFile → List SavedFile
saved_files files = map saved_file files

-- the bytes of the first file of this name, if there is one
abbrev pub text_of : List ℕ → List SavedFile → Option (List ℕ)
text_of name [] = None
text_of name (file ∷ files) = if bytes_eq file.0 name then Some file.1 else text_of name files
