-- The claim in a text: `never PATH WHO LETTERS`.
use Rattle.std.specs.Prelude.{ℕ, ◌-◌, ◌==◌, List, [], ◌∷◌, codes, drop, length, take, Option, None, Some, option_map}
use Rattle.std.specs.Prelude.{unwrap_or, if◌then◌else◌}
use Rattle.std.specs.List.{slice_get, slice_split}
use Rattle.std.specs.Str.{bytes_eq}
use Rattle.histar_flat.specs.Accounts.{Accounts, has}
use Rattle.histar_flat.specs.Words.{Name, ProcName, name_of, path_of, process_of}
use Rattle.histar_rights.specs.Users.{somebody}
use Rattle.histar_script.specs.Reading.{◌>>=◌}
use Rattle.histar_never.specs.declared.claims.Never.{Never}
use Rattle.histar_never.specs.declared.whom.Whom.{Whom}
use Rattle.histar_never.specs.declared.whom.Whom.TheVariants.{OfProcess, OfUser, AllBut}
use Rattle.histar_never.specs.Letters.{letters_of}

-- the words of a text, with one space between two
abbrev pub words_of : List ℕ → List (List ℕ)
words_of text = slice_split (λ b. b == 32) text

-- of the words of a claim, the path
abbrev pub path_word : List (List ℕ) → List ℕ
path_word words = unwrap_or (slice_get words 1) []

-- of the words of a claim, those between the path and the letters
abbrev pub who_words : List (List ℕ) → List (List ℕ)
who_words words = take (length words - 3) (drop 2 words)

-- of the words of a claim, the letters
abbrev pub letters_word : List (List ℕ) → List ℕ
letters_word words = unwrap_or (slice_get words (length words - 1)) []

-- the user that a word names: nobody, or one that is declared
abbrev pub user_in : Accounts → List ℕ → Option Name
user_in accounts word = do
  name ← name_of word
  if has (somebody accounts) name then Some name else None

-- the users that words name
abbrev pub users_in : Accounts → List (List ℕ) → Option (List Name)
users_in accounts [] = Some []
users_in accounts (word ∷ words) = do
  user ← user_in accounts word
  users ← users_in accounts words
  Some (user ∷ users)

-- whom one word means: a process, or else a user
abbrev pub one_by : Accounts → List ℕ → Option ProcName → Option Whom
one_by accounts word (Some process) = Some (OfProcess process)
one_by accounts word None = option_map OfUser (user_in accounts word)

-- whom words mean: one is a process or a user, and more are `all-but` and users
abbrev pub whom_of : Accounts → List (List ℕ) → Option Whom
whom_of accounts [] = None
whom_of accounts (word ∷ []) = one_by accounts word (process_of word)
whom_of accounts (word ∷ user ∷ users) =
    if bytes_eq word (codes "all-but") then option_map AllBut (users_in accounts (user ∷ users)) else None

-- the claim of these words, in a text on line n: after the first word a path, whom it means, and letters
unfoldable pub never_by : Accounts → ℕ → List ℕ → List (List ℕ) → Option Never
never_by accounts n text words = do
  path ← path_of (path_word words)
  whom ← whom_of accounts (who_words words)
  letters ← letters_of (letters_word words)
  Some (record { line = n; said = text; path = path; whom = whom; letters = letters })

-- the claim in a text on line n
abbrev pub never_of : Accounts → ℕ → List ℕ → Option Never
never_of accounts n text = never_by accounts n text (words_of text)
