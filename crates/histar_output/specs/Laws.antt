-- What colouring guarantees, and what the facts of replies are.
use Rattle.std.specs.Prelude.{◌≡◌, ℕ, ◌<◌, ◌^◌, Bool, true, false, not, List, [], ◌∷◌, ◌++◌, codes, decimal, drop}
use Rattle.std.specs.Prelude.{◌==◌, Option, None, Some}
use Rattle.std.specs.Prelude.{if◌then◌else◌}
use Rattle.std.specs.List.{flat_map, list_all}
use Rattle.json.specs.Json.{Members, member, no_members, number, object, string}
use Rattle.histar_flat.specs.declared.replies.Reply.{Reply}
use Rattle.histar_flat.specs.declared.replies.Reply.TheVariants.{Done, Data, Entries, Stats, Child, Running, Exited, User, Refused, Gone}
use Rattle.histar_flat.specs.Texts.{confined_text, entry_text, errno_text, process_text, reply_text, stat_text}
use Rattle.histar_output.specs.declared.forms.Form.TheVariants.{Run}
use Rattle.histar_output.specs.Colours.{coloured, is_refusal}
use Rattle.histar_output.specs.Facts.{fact_of_text}

-- what a terminal shows of a text: all but the bytes from an escape byte to the next `m`; the flag says whether this is inside such bytes
abbrev pub shown_from : Bool → List ℕ → List ℕ
shown_from inside [] = []
shown_from false (b ∷ bs) = if b == 27 then shown_from true bs else b ∷ shown_from false bs
shown_from true (b ∷ bs) = if b == 109 then shown_from false bs else shown_from true bs

-- what a terminal shows of a text
abbrev pub shown : List ℕ → List ℕ
shown = shown_from false

-- no byte is an escape byte
abbrev pub has_no_escape : List ℕ → Bool
has_no_escape text = list_all (λ b. not (b == 27)) text

-- a text without escape bytes is shown as it was, in colours too
abbrev pub ColoursShowTheText : Type 0
ColoursShowTheText = (text : List ℕ) → has_no_escape text ≡ true → shown (coloured text) ≡ text

-- the reply is a refusal
abbrev pub is_refused : Reply → Bool
is_refused Done = false
is_refused (Data bytes) = false
is_refused (Entries entries) = false
is_refused (Stats stat) = false
is_refused (Child process) = false
is_refused Running = false
is_refused (Exited n) = false
is_refused (User name confined) = false
is_refused (Refused e) = true
is_refused Gone = true

-- of the lines with a number of 64 bits and a reply, those of refusals are in red, and no others
abbrev pub RefusalsAreRed : Type 0
RefusalsAreRed = (n : ℕ) (reply : Reply) → n < 2 ^ 64 → is_refusal (decimal n ++ codes " " ++ reply_text reply) ≡ is_refused reply

-- the first word of a reply
abbrev pub reply_word : Reply → List ℕ
reply_word Done = codes "ok"
reply_word (Data bytes) = codes "="
reply_word (Entries entries) = codes "ok"
reply_word (Stats stat) = codes "ok"
reply_word (Child process) = codes "ok"
reply_word Running = codes "ok"
reply_word (Exited n) = codes "ok"
reply_word (User name confined) = codes "ok"
reply_word (Refused e) = errno_text e
reply_word Gone = codes "gone"

-- what a reply says behind its first word and a space, if it says more
abbrev pub reply_value : Reply → Option (List ℕ)
reply_value Done = None
reply_value (Data bytes) = Some bytes
reply_value (Entries []) = None
reply_value (Entries (e ∷ es)) = Some (drop 1 (flat_map entry_text (e ∷ es)))
reply_value (Stats stat) = Some (stat_text stat)
reply_value (Child process) = Some (process_text process)
reply_value Running = Some (codes "running")
reply_value (Exited n) = Some (codes "exited " ++ decimal n)
reply_value (User name confined) = Some (name ++ confined_text confined)
reply_value (Refused e) = None
reply_value Gone = None

-- the member `value`, if there is one
abbrev pub value_member : Option (List ℕ) → Members
value_member None = no_members
value_member (Some value) = member (codes "value") (string value) no_members

-- the fact of a line of `run` with a number and a reply: the number, the reply's first word, and what the reply says behind that
abbrev pub RepliesAreFacts : Type 0
RepliesAreFacts = (n : ℕ) (reply : Reply) → n < 2 ^ 64
    → fact_of_text Run (decimal n ++ codes " " ++ reply_text reply)
    ≡ object (member (codes "line") (number (decimal n)) (member (codes "reply") (string (reply_word reply)) (value_member (reply_value reply))))
