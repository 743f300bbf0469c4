-- The names of objects and categories in the explanation of a denied call of a script.
use Rattle.std.specs.Prelude.{ℕ, List, [], ◌∷◌, ◌++◌, Option, None, Some}
use Rattle.histar_flat.specs.Accounts.{Accounts}
use Rattle.histar_flat.specs.Texts.{path_text, process_text}
use Rattle.histar_flat.specs.Words.{Path}
use Rattle.histar_object.specs.State.{State}
use Rattle.histar_programs.specs.declared.roots.Roots.{Roots}
use Rattle.histar_raw_explain.specs.Texts.{Words, raw_words}
use Rattle.histar_names.specs.Births.{Births, purpose_of}
use Rattle.histar_names.specs.declared.clues.Clue.{Clue}
use Rattle.histar_names.specs.declared.purposes.Purpose.{Purpose}
use Rattle.histar_names.specs.declared.location.Location.{Location}
use Rattle.histar_names.specs.Purposes.{purpose_text}
use Rattle.histar_names.specs.Location.{location_of, location_text}
use Rattle.histar_names.specs.Runners.{runner_text, user_at}

-- a category by its purpose, or by its number where this isn't known
abbrev pub category_text : Accounts → ℕ → Option Purpose → List ℕ
category_text accounts c None = raw_words.category c
category_text accounts c (Some purpose) = purpose_text accounts purpose

-- an object by its location, or by its number where this isn't known
abbrev pub object_text : Accounts → ℕ → Option Location → List ℕ
object_text accounts q None = raw_words.object q
object_text accounts q (Some location) = location_text accounts location

-- an object of this kind that a call would make: it is at the path of the call, if the call names one
abbrev pub made_text : Path → List ℕ → List ℕ
made_text [] kind = raw_words.made kind
made_text (name ∷ d) kind = path_text (name ∷ d)

-- in a state: the thread is the line's process, with its user if it runs; objects and categories are named
abbrev pub words_at : Accounts → Roots → State → Clue → Births → Words
words_at accounts roots s clue births = record {
  thread = λ t. process_text clue.caller ++ runner_text (user_at accounts s roots.home clue.caller);
  object = λ q. object_text accounts q (location_of accounts roots s clue q);
  category = λ c. category_text accounts c (purpose_of accounts births c);
  listed = λ c. category_text accounts c (purpose_of accounts births c);
  made = made_text clue.path;
}
