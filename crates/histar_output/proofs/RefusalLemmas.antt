-- Which lines of replies are refusals.
use Rattle.std.proofs.Common.{◌≡◌, ℕ, ◌<◌, ◌^◌, true, false, List, [], ◌∷◌, ◌++◌, codes, length, append_assoc}
use Rattle.std.proofs.Common.{refl, sym, ap, ap₂, ◌∙◌, arith}
use Rattle.std.specs.Prelude.{◌==◌, ◌&&◌, decimal, slice_index}
use Rattle.std.specs.Char.{is_ascii_digit}
use Rattle.std.specs.List.{list_all}
use Rattle.std.proofs.lemmas.Bool.{and_parts, ne_eqb, true≢false}
use Rattle.std.proofs.lemmas.Fmt.{decimal_nonempty}
use Rattle.histar_flat.proofs.Numbers.{decimal_digits}
use Rattle.histar_flat.specs.declared.replies.Reply.{Reply}
use Rattle.histar_flat.specs.declared.replies.Reply.TheVariants.{Done, Data, Entries, Stats, Child, Running, Exited, User, Refused, Gone}
use Rattle.histar_flat.specs.declared.replies.Errno.{Errno}
use Rattle.histar_flat.specs.declared.replies.Errno.TheVariants.{ENOENT, ENOTDIR, EISDIR, EEXIST, EACCES, EPERM, ENOTEMPTY, EBUSY, ENOSPC, EFBIG}
use Rattle.histar_flat.specs.declared.replies.Errno.TheVariants.{ESRCH, EAGAIN, EAUTH}
use Rattle.histar_flat.specs.Texts.{errno_text, reply_text}
use Rattle.histar_output.specs.Colours.{is_refusal, is_refused_text}
use Rattle.histar_output.specs.Cuts.{behind, cut_at}
use Rattle.histar_output.specs.Laws.{is_refused}
use Rattle.histar_output.proofs.CutLemmas.{spaced}

-- behind digits and a space is the reply
pub behind_digits : (digits reply : List ℕ) → list_all is_ascii_digit digits ≡ true → behind (codes " ") (digits ++ 32 ∷ reply) ≡ reply
unfolding cut_at
behind_digits [] reply all = refl
behind_digits (b ∷ bs) reply all =
    let parts = and_parts (is_ascii_digit b) (list_all is_ascii_digit bs) all in
    let other : (b == 32) ≡ false = ne_eqb b 32 (λ same. true≢false (sym parts.0 ∙ ap is_ascii_digit same)) in
    rw (spaced b (bs ++ 32 ∷ reply), other) (behind_digits bs reply parts.1)

-- each errno's name is a refusal
errno_refuses : (e : Errno) → is_refused_text (errno_text e) ≡ true
errno_refuses ENOENT = refl
errno_refuses ENOTDIR = refl
errno_refuses EISDIR = refl
errno_refuses EEXIST = refl
errno_refuses EACCES = refl
errno_refuses EPERM = refl
errno_refuses ENOTEMPTY = refl
errno_refuses EBUSY = refl
errno_refuses ENOSPC = refl
errno_refuses EFBIG = refl
errno_refuses ESRCH = refl
errno_refuses EAGAIN = refl
errno_refuses EAUTH = refl

-- a reply's text is that of a refusal where the reply is one
reply_refuses : (reply : Reply) → is_refused_text (reply_text reply) ≡ is_refused reply
reply_refuses Done = refl
reply_refuses (Data bytes) = refl
reply_refuses (Entries entries) = refl
reply_refuses (Stats stat) = refl
reply_refuses (Child process) = refl
reply_refuses Running = refl
reply_refuses (Exited n) = refl
reply_refuses (User name confined) = refl
reply_refuses (Refused e) = errno_refuses e
reply_refuses Gone = refl

-- digits begin with a digit
first_digit : (digits rest : List ℕ) → 0 < length digits → list_all is_ascii_digit digits ≡ true
    → is_ascii_digit (slice_index (digits ++ rest) 0) ≡ true
first_digit [] rest some all = absurd (omega arith)
first_digit (b ∷ bs) rest some all = (and_parts (is_ascii_digit b) (list_all is_ascii_digit bs) all).0

-- a line with a number and a reply is a refusal where the reply is one
pub reply_line : (n : ℕ) (reply : Reply) → n < 2 ^ 64 → is_refusal (decimal n ++ codes " " ++ reply_text reply) ≡ is_refused reply
reply_line n reply small =
    let text = reply_text reply in
    let digits = decimal_digits n small in
    ap is_refusal (append_assoc (decimal n) (codes " ") text)
    ∙ ap₂ (λ a b. a && is_refused_text b) (first_digit (decimal n) (32 ∷ text) (decimal_nonempty n small) digits)
    (behind_digits (decimal n) text digits)
    ∙ reply_refuses reply
