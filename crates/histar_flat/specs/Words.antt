-- Names, passwords, paths and processes: which byte strings are valid, and how they are read.
use Rattle.std.specs.Prelude.{◌≡◌, ◌≢◌, ℕ, zero, suc, Bool, false, not, ◌&&◌, ◌||◌, ◌==◌, nat_le, nat_lt, slice_index, List, [], ◌∷◌, length, codes}
use Rattle.std.specs.Prelude.{Option, Some, None, if◌then◌else◌}
use Rattle.std.specs.List.{list_all}
use Rattle.std.specs.Str.{bytes_eq}
use Rattle.std.specs.Str.Parse.{digits_value}
use Rattle.std.specs.Fmt.{decimal}

-- a name is its bytes
abbrev pub Name : Type 0
Name = List ℕ

-- a password is its bytes
abbrev pub Password : Type 0
Password = List ℕ

-- a path is its names, the last one first: `/` is [], and n ∷ d is the entry n of the directory d
abbrev pub Path : Type 0
Path = List Name

-- a process's name is its numbers after the 0, the last one first: 0 is [], and n ∷ p is the child n of p
abbrev pub ProcName : Type 0
ProcName = List ℕ

-- the most bytes of a name or a password
abbrev pub most_word_bytes : ℕ
most_word_bytes = 32

-- the most names of a path
abbrev pub most_names : ℕ
most_names = 8

-- the most numbers of a process's name
abbrev pub most_numbers : ℕ
most_numbers = 7

-- how many children may be born to a process
abbrev pub most_children : ℕ
most_children = 64

-- the greatest number that a process can exit with, which is a byte of its segment
abbrev pub greatest_status : ℕ
greatest_status = 255

-- a letter: a to z
abbrev pub is_letter : ℕ → Bool
is_letter b = nat_le 97 b && nat_le b 122

-- a byte that a name may have: a letter, 0 to 9, a dot, an underscore or a hyphen
abbrev pub is_name_byte : ℕ → Bool
is_name_byte b = is_letter b || (nat_le 48 b && nat_le b 57) || b == 46 || b == 95 || b == 45

-- a byte that a password may have: printable, and no space
abbrev pub is_password_byte : ℕ → Bool
is_password_byte b = nat_le 33 b && nat_le b 126

-- `.` or `..`
abbrev pub is_dots : List ℕ → Bool
is_dots [] = false
is_dots (a ∷ []) = a == 46
is_dots (a ∷ b ∷ []) = a == 46 && b == 46
is_dots (a ∷ b ∷ c ∷ bs) = false

-- the first byte is a letter
abbrev pub begins_with_letter : List ℕ → Bool
begins_with_letter [] = false
begins_with_letter (b ∷ bs) = is_letter b

-- a name: 1 to 32 such bytes, other than `.` and `..`
unfoldable pub is_name : List ℕ → Bool
is_name bs = nat_lt 0 (length bs) && nat_le (length bs) most_word_bytes && list_all is_name_byte bs && not (is_dots bs)

-- a name that a user may have: it begins with a letter and is not `nobody`
unfoldable pub is_user_name : List ℕ → Bool
is_user_name bs = is_name bs && begins_with_letter bs && not (bytes_eq bs (codes "nobody"))

-- a password: 1 to 32 such bytes
unfoldable pub is_password : List ℕ → Bool
is_password bs = nat_lt 0 (length bs) && nat_le (length bs) most_word_bytes && list_all is_password_byte bs

-- the name that the bytes spell, if they spell one
abbrev pub name_of : List ℕ → Option Name
name_of bs = if is_name bs then Some bs else None

-- the user's name that the bytes spell, if they spell one
abbrev pub user_name_of : List ℕ → Option Name
user_name_of bs = if is_user_name bs then Some bs else None

-- the password that the bytes spell, if they spell one
abbrev pub password_of : List ℕ → Option Password
password_of bs = if is_password bs then Some bs else None

-- a path that can be named: `/`, or at most eight names
abbrev pub is_path : Path → Bool
is_path path = nat_le (length path) most_names && list_all is_name path

-- a number that a child can have
abbrev pub is_child_number : ℕ → Bool
is_child_number n = nat_le 1 n && nat_le n most_children

-- a process that can be named: at most seven numbers after the 0, each of which a child can have
abbrev pub is_process : ProcName → Bool
is_process process = nat_le (length process) most_numbers && list_all is_child_number process

-- the byte before each name of a path, a slash
abbrev pub slash : ℕ
slash = 47

-- the bytes before the first one that is the separator, and those after it where there is one
unfoldable pub split_at_first : ℕ → List ℕ → List ℕ × Option (List ℕ)
split_at_first separator [] = ([], None)
split_at_first separator (b ∷ bs) = if b == separator then ([], Some bs) else (b ∷ (split_at_first separator bs).0, (split_at_first separator bs).1)

-- the path from a directory along names with slashes between them, if they are at most this many
unfoldable pub path_from : ℕ → Path → List ℕ → Option Path
path_from zero directory bs = None
path_from (suc most) directory bs =
    if is_name (split_at_first slash bs).0 then
    elim (split_at_first slash bs).1 [ None ↦ Some ((split_at_first slash bs).0 ∷ directory) | Some rest ↦ path_from most ((split_at_first slash bs).0 ∷ directory) rest ]
    else None

-- the path after its first slash: nothing is `/`
abbrev pub path_from_root : List ℕ → Option Path
path_from_root [] = Some []
path_from_root (b ∷ bs) = path_from most_names [] (b ∷ bs)

-- the path that the bytes spell, if they spell one: `/`, `/NAME`, `/NAME/NAME` ..
abbrev pub path_of : List ℕ → Option Path
path_of [] = None
path_of (b ∷ bs) = if b == slash then path_from_root bs else None

-- the number that the bytes spell in decimal, with no leading zero, if it passes the test
unfoldable pub number_of : (ℕ → Bool) → List ℕ → Option ℕ
number_of test bs = let n = digits_value 10 bs in if test n && bytes_eq bs (decimal n) then Some n else None

-- no plus comes first, and no zero before other digits
abbrev pub BeginsPlainly : List ℕ → Type 0
BeginsPlainly bs = (slice_index bs 0 ≢ 43) × (slice_index bs 0 ≡ 48 → length bs ≡ 1)

-- the exit status that the bytes spell, if they spell one: 0 to 255
abbrev pub status_of : List ℕ → Option ℕ
status_of = number_of (λ n. nat_le n greatest_status)

-- the byte before each number of a process's name, a dot
abbrev pub dot : ℕ
dot = 46

-- the process that the numbers lead to from another one, with dots between them, if they are at most this many
unfoldable pub process_from : ℕ → ProcName → Option (List ℕ) → Option ProcName
process_from most above None = Some above
process_from zero above (Some bs) = None
process_from (suc most) above (Some bs) =
    elim (number_of is_child_number (split_at_first dot bs).0) [ None ↦ None | Some n ↦ process_from most (n ∷ above) (split_at_first dot bs).1 ]

-- the process that the bytes name, if they name one: `0`, `0.NUMBER`, `0.NUMBER.NUMBER` ..
abbrev pub process_of : List ℕ → Option ProcName
process_of bs = if bytes_eq (split_at_first dot bs).0 (codes "0") then process_from most_numbers [] (split_at_first dot bs).1 else None
