-- The results of the functions that read a line, where memory may run out.
use Rattle.std.specs.Prelude.{◌≡◌, ℕ, List, Option, Some, None, Result, Ok, Err}
use Rattle.std.specs.Borrow.{Bor}
use Rattle.std.specs.Option.{option_copied}
use Rattle.histar_rawtext.specs.declared.unread.Unread.{Unread}
use Rattle.histar_rawtext.specs.declared.unread.Unread.TheVariants.{NoCall, OutOfMemory}

-- the result is the value that is read, unless memory ran out
abbrev pub Gives : {A : Type 0} → Result A Unread → Option A → Type 0
Gives (Ok value) read = read ≡ Some value
Gives (Err NoCall) read = read ≡ None
Gives (Err OutOfMemory) read = Unit {0}

-- the result is a word and the words after it, unless memory ran out
abbrev pub GivesWord : Result (Bor (List ℕ) × Option (Bor (List ℕ))) Unread → Option (List ℕ × Option (List ℕ)) → Type 0
GivesWord (Ok front) read = read ≡ Some (front.0.now, option_copied front.1)
GivesWord (Err NoCall) read = read ≡ None
GivesWord (Err OutOfMemory) read = Unit {0}
