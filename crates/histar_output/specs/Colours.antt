-- The lines of `run` that are refusals, in red.
use Rattle.std.specs.Prelude.{ℕ, Bool, false, ◌&&◌, ◌||◌, List, [], ◌∷◌, ◌++◌, codes, drop, length, map, slice_index}
use Rattle.std.specs.Prelude.{◌==◌, Option, Some, None, if◌then◌else◌}
use Rattle.std.specs.Option.{option_map_or}
use Rattle.std.specs.List.{list_any, join_with_byte, slice_split}
use Rattle.std.specs.Str.{bytes_eq}
use Rattle.std.specs.Char.{is_ascii_digit}
use Rattle.histar_flat.specs.declared.replies.Errno.{Errno}
use Rattle.histar_flat.specs.declared.replies.Errno.TheVariants.{ENOENT, ENOTDIR, EISDIR, EEXIST, EACCES, EPERM, ENOTEMPTY, EBUSY, ENOSPC, EFBIG}
use Rattle.histar_flat.specs.declared.replies.Errno.TheVariants.{ESRCH, EAGAIN, EAUTH}
use Rattle.histar_flat.specs.Texts.{errno_text}
use Rattle.histar_output.specs.Cuts.{begins, behind}

-- what follows the mark at the beginning of a text, if the text begins with it
abbrev pub after_mark : List ℕ → List ℕ → Option (List ℕ)
after_mark mark text = if begins mark text then Some (drop (length mark) text) else None

-- the errnos
abbrev pub errnos : List Errno
errnos =
    ENOENT ∷ ENOTDIR ∷ EISDIR ∷ EEXIST ∷ EACCES ∷ EPERM ∷ ENOTEMPTY ∷ EBUSY ∷ ENOSPC ∷ EFBIG ∷ ESRCH ∷ EAGAIN ∷ EAUTH ∷ []

-- the reply is a refusal: the name of an errno, or `gone`
abbrev pub refuses : List ℕ → Bool
refuses reply = list_any (λ e. bytes_eq reply (errno_text e)) errnos || bytes_eq reply (codes "gone")

-- the text is two spaces and a refusal
abbrev pub is_last_refusal : List ℕ → Bool
is_last_refusal text = option_map_or refuses (after_mark (codes "  ") text) false

-- the text, or an end of it, is two spaces and a refusal
unfoldable pub ends_refused : List ℕ → Bool
ends_refused [] = false
ends_refused (b ∷ bs) = is_last_refusal (b ∷ bs) || ends_refused bs

-- A text `PROC CALL  REPLY` has a refusal for its reply. Two spaces may be also in the bytes that a file has: the reply to a `read` follows the
-- first two, and any other reply follows the last two.
abbrev pub is_refused_call : List ℕ → Bool
is_refused_call text =
    option_map_or (λ read. refuses (behind (codes "  ") read)) (after_mark (codes "read ") (behind (codes " ") text)) (ends_refused text)

-- the text behind a line's number, which is a reply, or one more space, a call and a reply, has a refusal for its reply
abbrev pub is_refused_text : List ℕ → Bool
is_refused_text text = option_map_or is_refused_call (after_mark (codes " ") text) (refuses text)

-- the line is that of a refusal: a number, a space and such a text
abbrev pub is_refusal : List ℕ → Bool
is_refusal line = is_ascii_digit (slice_index line 0) && is_refused_text (behind (codes " ") line)

-- the bytes after which a terminal writes in red
abbrev pub red : List ℕ
red = 27 ∷ codes "[31m"

-- the bytes after which it writes as before
abbrev pub plain : List ℕ
plain = 27 ∷ codes "[0m"

-- a line, in red if it is the line of a refusal
abbrev pub coloured_line : List ℕ → List ℕ
coloured_line line = if is_refusal line then red ++ line ++ plain else line

-- a line feed
abbrev pub is_line_feed : ℕ → Bool
is_line_feed b = b == 10

-- a text with its refusals in red: its lines, and what follows the last line feed, each coloured and again with the line feeds between them
abbrev pub coloured : List ℕ → List ℕ
coloured text = join_with_byte 10 (map coloured_line (slice_split is_line_feed text))
