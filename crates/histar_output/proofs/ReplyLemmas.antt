-- The facts of lines with replies.
use Rattle.std.proofs.Common.{◌≡◌, ℕ, ◌<◌, ◌^◌, true, false, List, [], ◌∷◌, ◌++◌, codes, length, append_assoc, refl, sym}
use Rattle.std.proofs.Common.{ap, ◌∙◌, arith}
use Rattle.std.proofs.Common.{Some, None}
use Rattle.std.specs.Prelude.{◌==◌, decimal, Option}
use Rattle.std.specs.Char.{is_ascii_digit}
use Rattle.std.specs.List.{list_all}
use Rattle.std.specs.Option.{option_map_or}
use Rattle.std.proofs.lemmas.Bool.{and_parts, ne_eqb, true≢false}
use Rattle.std.proofs.lemmas.Fmt.{decimal_nonempty}
use Rattle.json.specs.Json.{member, number, object, string}
use Rattle.json.proofs.Printed.Decimals.{IsNumber-decimal}
use Rattle.histar_flat.proofs.Numbers.{decimal_digits}
use Rattle.histar_flat.specs.declared.replies.Reply.{Reply}
use Rattle.histar_flat.specs.declared.replies.Reply.TheVariants.{Done, Data, Entries, Stats, Child, Running, Exited, User, Refused, Gone}
use Rattle.histar_flat.specs.declared.replies.Errno.{Errno}
use Rattle.histar_flat.specs.declared.replies.Errno.TheVariants.{ENOENT, ENOTDIR, EISDIR, EEXIST, EACCES, EPERM, ENOTEMPTY, EBUSY, ENOSPC, EFBIG}
use Rattle.histar_flat.specs.declared.replies.Errno.TheVariants.{ESRCH, EAGAIN, EAUTH}
use Rattle.histar_flat.specs.Texts.{errno_text, reply_text}
use Rattle.histar_output.specs.declared.forms.Form.TheVariants.{Run}
use Rattle.histar_output.specs.Cuts.{begins, cut_at}
use Rattle.histar_output.specs.Facts.{fact_of_text}
use Rattle.histar_output.specs.Forms.{count, ending, reply_parts, run_parts, word}
use Rattle.histar_output.specs.Laws.{reply_value, reply_word, value_member}
use Rattle.histar_output.specs.Parts.{Part, is_number, members_of}
use Rattle.histar_output.proofs.CutLemmas.{not_begun, spaced}
use Rattle.histar_output.proofs.RefusalLemmas.{behind_digits}

-- digits and a space are cut at the space
cut_digits : (digits rest : List ℕ) → list_all is_ascii_digit digits ≡ true → cut_at (codes " ") (digits ++ 32 ∷ rest)
    ≡ (digits, Some rest)
unfolding cut_at
cut_digits [] rest all = refl
cut_digits (b ∷ bs) rest all =
    let parts = and_parts (is_ascii_digit b) (list_all is_ascii_digit bs) all in
    let other : (b == 32) ≡ false = ne_eqb b 32 (λ same. true≢false (sym parts.0 ∙ ap is_ascii_digit same)) in
    rw (spaced b (bs ++ 32 ∷ rest), other, cut_digits bs rest parts.1) refl

-- what begins with a digit begins with no other byte
other_byte : (c b : ℕ) (bs : List ℕ) → is_ascii_digit b ≡ true → is_ascii_digit c ≡ false → begins (c ∷ []) (b ∷ bs) ≡ false
other_byte c b bs digit none =
    not_begun (c ∷ []) (b ∷ bs) (λ rest same. let first : b ≡ c = cc in true≢false (sym digit ∙ ap is_ascii_digit first ∙ none))

-- a line that begins with a digit has a reply
digit_line : (digits rest : List ℕ) → 0 < length digits → list_all is_ascii_digit digits ≡ true → run_parts (digits ++ rest)
    ≡ reply_parts (digits ++ rest)
digit_line [] rest some all = absurd (omega arith)
digit_line (b ∷ bs) rest some all =
    let digit = (and_parts (is_ascii_digit b) (list_all is_ascii_digit bs) all).0 in
    let line = bs ++ rest in
    rw (other_byte 47 b line digit refl, other_byte 64 b line digit refl, other_byte 33 b line digit refl, other_byte 63 b line digit refl) refl

-- an errno's name is one word
errno_word : (e : Errno) → (cut_at (codes " ") (errno_text e) ≡ (errno_text e, None)) × (begins (codes " ") (errno_text e) ≡ false)
unfolding cut_at
errno_word ENOENT = (refl, refl)
errno_word ENOTDIR = (refl, refl)
errno_word EISDIR = (refl, refl)
errno_word EEXIST = (refl, refl)
errno_word EACCES = (refl, refl)
errno_word EPERM = (refl, refl)
errno_word ENOTEMPTY = (refl, refl)
errno_word EBUSY = (refl, refl)
errno_word ENOSPC = (refl, refl)
errno_word EFBIG = (refl, refl)
errno_word ESRCH = (refl, refl)
errno_word EAGAIN = (refl, refl)
errno_word EAUTH = (refl, refl)

-- a reply is cut behind its first word, and begins with no space
reply_cut : (reply : Reply) → (cut_at (codes " ") (reply_text reply) ≡ (reply_word reply, reply_value reply))
    × (begins (codes " ") (reply_text reply) ≡ false)
unfolding cut_at
reply_cut Done = (refl, refl)
reply_cut (Data bytes) = (refl, refl)
reply_cut (Entries []) = (refl, refl)
reply_cut (Entries (e ∷ es)) = (refl, refl)
reply_cut (Stats stat) = (refl, refl)
reply_cut (Child process) = (refl, refl)
reply_cut Running = (refl, refl)
reply_cut (Exited n) = (refl, refl)
reply_cut (User name confined) = (refl, refl)
reply_cut (Refused e) = errno_word e
reply_cut Gone = (refl, refl)

-- the members of a line with a number and a reply
abbrev own_parts : List Part
own_parts = count (codes "line") ∷ word (codes "reply") ∷ ending (codes "value") ∷ []

-- these members, given where the line and the reply are cut
members_are : (line digits reply first : List ℕ) (value : Option (List ℕ)) → cut_at (codes " ") line ≡ (digits, Some reply)
    → is_number digits ≡ true
    → cut_at (codes " ") reply ≡ (first, value)
    → members_of own_parts (Some line)
    ≡ member (codes "line") (number digits) (member (codes "reply") (string first) (value_member value))
unfolding members_of
members_are line digits reply first None cut numeral word = rw (cut, numeral, word) refl
members_are line digits reply first (Some value) cut numeral word = rw (cut, numeral, word) refl

-- the fact of a line with a number and a reply
pub reply_fact : (n : ℕ) (reply : Reply) → n < 2 ^ 64
    → fact_of_text Run (decimal n ++ codes " " ++ reply_text reply)
    ≡ object (member (codes "line") (number (decimal n)) (member (codes "reply") (string (reply_word reply)) (value_member (reply_value reply))))
reply_fact n reply small =
    let text = reply_text reply in
    let line = decimal n ++ 32 ∷ text in
    let digits = decimal_digits n small in
    let numeral : is_number (decimal n) ≡ true =
    ap (λ (o : Option (List ℕ)). option_map_or (λ (left : List ℕ). length left == 0) o false) (IsNumber-decimal n small) in
    let alone : reply_parts line ≡ own_parts = rw (behind_digits (decimal n) text digits, (reply_cut reply).1) refl in
    let parts : run_parts line ≡ own_parts = digit_line (decimal n) (32 ∷ text) (decimal_nonempty n small) digits ∙ alone in
    ap (fact_of_text Run) (append_assoc (decimal n) (codes " ") text)
    ∙ ap object (ap (λ (ps : List Part). members_of ps (Some line)) parts
    ∙ members_are line (decimal n) text (reply_word reply) (reply_value reply) (cut_digits (decimal n) text digits) numeral (reply_cut reply).0)
