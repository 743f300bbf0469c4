-- Mixed sessions: scripts with raw calls of threads between their lines.
use Rattle.std.specs.Prelude.{◌≡◌, ℕ, ◌+◌, ◌<◌, ◌⊎◌, Bool, true, false, IsTrue, List, [], ◌∷◌, ◌++◌, codes, length, map}
use Rattle.std.specs.Prelude.{Option, None, Some, Result, Ok, Err, if◌then◌else◌}
use Rattle.std.specs.Str.{bytes_eq}
use Rattle.histar_flat.specs.declared.calls.CallLine.{CallLine}
use Rattle.histar_flat.specs.Accounts.{Accounts}
use Rattle.histar_script.specs.declared.fault.Fault.{Fault}
use Rattle.histar_script.specs.declared.fault.Fault.TheVariants.{BadScript, TooLong, OutOfMemory}
use Rattle.histar_script.specs.declared.items.Item.{Item}
use Rattle.histar_script.specs.declared.items.Item.TheVariants as lines
use Rattle.histar_script.specs.Lines.{lines_of, is_too_long, split_word}
use Rattle.histar_script.specs.Script.{ScriptModel, IsDeclared, nothing_read}
use Rattle.histar_script.specs.Reading.{with_lines}
use Rattle.histar_raw_session.specs.declared.read_session.RawLine.{RawLine}
use Rattle.histar_raw_session.specs.Session.{is_comment, SaysCall, IsBadLine}
use Rattle.histar_mixed.specs.declared.items.Mark.{Mark}
use Rattle.histar_mixed.specs.declared.items.Mark.TheVariants as marks
use Rattle.histar_mixed.specs.declared.items.MixedItem.{MixedItem}
use Rattle.histar_mixed.specs.declared.items.MixedItem.TheVariants.{Unix, Raw}
use Rattle.histar_mixed.specs.declared.reader.Mixed.{Mixed}

-- what follows `thread ` in a line that begins so: the line is a raw line
abbrev pub raw_part : List ℕ → Option (List ℕ)
raw_part line = if bytes_eq (split_word line).0 (codes "thread") then (split_word line).1 else None

-- a line as one of a script: a raw line is empty there, which is a comment
abbrev pub unix_line : List ℕ → List ℕ
unix_line line = elim (raw_part line) [ None ↦ line | Some text ↦ [] ]

-- the script of the lines without the raw ones, or its fault
abbrev pub unix_reading : List ℕ → Result ScriptModel Fault
unix_reading text = with_lines nothing_read 0 (map unix_line (lines_of text))

-- a raw line contains a call, which comes before these; another line contains none
abbrev pub AddsRaw : Option (List ℕ) → ℕ → List RawLine → List RawLine → Type 0
AddsRaw None n more raws = raws ≡ more
AddsRaw (Some text) n more raws = (asked : RawLine) × SaysCall n text asked × (raws ≡ asked ∷ more)

-- the raw lines among those after the first n contain these calls, one after another
abbrev pub SayRaw : ℕ → List (List ℕ) → List RawLine → Type 0
SayRaw n [] raws = raws ≡ []
SayRaw n (line ∷ lines) raws =
    (more : List RawLine) × AddsRaw (raw_part line) (n + 1) more raws × SayRaw (n + 1) lines more

-- the Unix calls
abbrev pub unix_of : List MixedItem → List CallLine
unix_of [] = []
unix_of (Unix call ∷ items) = call ∷ unix_of items
unix_of (Raw asked ∷ items) = unix_of items

-- the raw calls
abbrev pub raw_of : List MixedItem → List RawLine
raw_of [] = []
raw_of (Unix call ∷ items) = raw_of items
raw_of (Raw asked ∷ items) = asked ∷ raw_of items

-- the number of a call's line
abbrev pub number_of : MixedItem → ℕ
number_of (Unix call) = call.line
number_of (Raw asked) = asked.line

-- the numbers of the lines rise, and are above n
abbrev pub RiseFrom : ℕ → List MixedItem → Type 0
RiseFrom n [] = Unit {0}
RiseFrom n (item ∷ items) = (n < number_of item) × RiseFrom (number_of item) items

-- The text is the mixed session of these accounts and these calls: without its raw lines it is the script of the
-- accounts and the Unix calls, its raw lines contain the raw calls, and the calls are in the order of their lines.
pub record IsMixed (text : List ℕ) (accounts : Accounts) (items : List MixedItem) : Type 0 where
  pub short : is_too_long text ≡ false
  pub unix : unix_reading text ≡ Ok (record { accounts = accounts; calls = unix_of items })
  pub raw : SayRaw 0 (lines_of text) (raw_of items)
  pub rising : RiseFrom 0 items
  pub declared : IsDeclared accounts

-- the text is the mixed session that was read
abbrev pub FindsMixed : List ℕ → Mixed → Type 0
FindsMixed text mixed = IsMixed text mixed.accounts mixed.items.items

-- what follows `thread ` is no raw call: it is a comment of a raw session, or a bad line of one
abbrev pub IsBadRaw : List ℕ → Type 0
IsBadRaw text = IsTrue (is_comment text) ⊎ IsBadLine text

-- the raw lines before line n contain calls
pub record AreRawBefore (text : List ℕ) (n : ℕ) : Type 0 where
  pub before : List (List ℕ)
  pub after : List (List ℕ)
  pub parts : lines_of text ≡ before ++ after
  pub place : n ≡ length before + 1
  pub raws : List RawLine
  pub right : SayRaw 0 before raws

-- line n is a raw line that contains no call
pub record IsBadRawLine (text : List ℕ) (n : ℕ) : Type 0 where
  pub before : AreRawBefore text n
  pub line : List ℕ
  pub rest : List (List ℕ)
  pub here : before.after ≡ line ∷ rest
  pub call : List ℕ
  pub is_raw : raw_part line ≡ Some call
  pub bad : IsBadRaw call

-- Line n is the first bad one: it is the first bad line without the raw lines, and the raw lines before it contain
-- calls; or it is a raw line without a call, and the first bad line of the script, if there is one, comes later.
abbrev pub IsFirstBad : List ℕ → ℕ → Type 0
IsFirstBad text n =
    ((unix_reading text ≡ Err (BadScript n)) × AreRawBefore text n)
    ⊎ (IsBadRawLine text n × ((k : ℕ) → unix_reading text ≡ Err (BadScript k) → n < k))

-- the fault is that line n is bad, or that memory ran out
abbrev pub IsLineFault : ℕ → Type 0 → Fault → Type 0
IsLineFault n IsBad (BadScript k) = (k ≡ n) × IsBad
IsLineFault n IsBad OutOfMemory = Unit {0}
IsLineFault n IsBad fault = ⊥

-- the fault of a text: it is too long, or this line is the first bad one; or memory ran out
abbrev pub IsMixedFault : List ℕ → Fault → Type 0
IsMixedFault text TooLong = IsTrue (is_too_long text)
IsMixedFault text (BadScript n) = (is_too_long text ≡ false) × IsFirstBad text n
IsMixedFault text OutOfMemory = Unit {0}
IsMixedFault text fault = ⊥

-- the line has a call
abbrev pub is_call : Item → Bool
is_call (lines.Call process call) = true
is_call item = false

-- the calls of both kinds in the order of the marks, each of which is the next Unix call or a raw call
abbrev pub in_order : List CallLine → List Mark → List MixedItem
in_order calls [] = []
in_order calls (marks.Raw asked ∷ more) = Raw asked ∷ in_order calls more
in_order [] (marks.Unix ∷ more) = in_order [] more
in_order (call ∷ calls) (marks.Unix ∷ more) = Unix call ∷ in_order calls more
