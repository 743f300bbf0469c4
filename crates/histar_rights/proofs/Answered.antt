-- A right's letter is there exactly if one more line that uses the right is answered.
use Rattle.std.specs.Prelude.{◌≡◌, ℕ, ◌↔◌, Bool, true, false, not, ◌&&◌, nat_lt, List, [], ◌∷◌, length, Option, None, Some, is_some, refl}
use Rattle.std.proofs.Common.{sym, ap, ◌∙◌, subst}
use Rattle.std.proofs.lemmas.Bool.{true≢false}
use Rattle.std.proofs.lemmas.List.{append_cancel_left}
use Rattle.histar_base.specs.Refusals.{◌orelse◌, unless}
use Rattle.histar_flat.specs.declared.calls.CallLine.{CallLine}
use Rattle.histar_flat.specs.declared.calls.Mode.{Mode}
use Rattle.histar_flat.specs.declared.calls.UnixCall.{UnixCall}
use Rattle.histar_flat.specs.declared.calls.UnixCall.TheVariants.{Append, Create, Stat, Rmtree}
use Rattle.histar_flat.specs.declared.replies.Errno.{Errno}
use Rattle.histar_flat.specs.declared.replies.Errno.TheVariants.{EEXIST, ENOSPC, EACCES, EPERM}
use Rattle.histar_flat.specs.declared.replies.Reply.{Reply}
use Rattle.histar_flat.specs.Words.{Name, Path, ProcName}
use Rattle.histar_flat.specs.Accounts.{Accounts}
use Rattle.histar_flat.specs.Files.{get}
use Rattle.histar_flat.specs.Classes.{Process, class_made}
use Rattle.histar_flat.specs.FlatState.{Flat, Node, is_dir, is_there, writes, entries_in, into}
use Rattle.histar_flat.specs.FlatCalls.{most_entries, refused, running, answer, stat_reply, reply_or, reply_to, reply_by}
use Rattle.histar_flat.specs.Meaning.{RepliedCall, boot, flat_end, meaning}
use Rattle.histar_flat.proofs.Laws.{replies_go_on}
use Rattle.histar_rights.specs.Rights.{reading_call, may_write_at, may_make_in, rights_at}
use Rattle.histar_rights.specs.Laws.{IsAnswered, LettersAre, LettersAreReplies, WritersMakeEntries, is_answer}
use Rattle.histar_rights.proofs.Passing.{passes, passes_none}

-- if there is room and the mode may be made, the tests of a new entry pass exactly if the walk and the right to write do
made_passes : (w : Option Errno) (free room x made : Bool) → free ≡ true → room ≡ true → made ≡ true
    → passes ((w orelse unless free EEXIST orelse unless room ENOSPC orelse unless x EACCES) orelse unless made EPERM) ≡ (passes w && x)
made_passes None true true true true h k m = refl
made_passes None true true false true h k m = refl
made_passes (Some e) true true x true h k m = refl
made_passes w false room x made h k m = absurd (true≢false (sym h))
made_passes w true false x made h k m = absurd (true≢false (sym k))
made_passes w true true x false h k m = absurd (true≢false (sym m))

-- a chain without a refusal passes
none_passes : (w : Option Errno) → w ≡ None → passes w ≡ true
none_passes w e = ap passes e

-- an entry is made exactly if the directory may be written
makes_entries : (accounts : Accounts) (f : Flat) (me : ProcName) (p : Process) (n : Name) (d : Path) (mode : Mode)
    → is_there f (n ∷ d) ≡ false → nat_lt (length (entries_in f d)) most_entries ≡ true → is_some (class_made accounts p mode) ≡ true
    → passes (refused accounts f me p (Create (n ∷ d) mode)) ≡ may_make_in accounts f p d
makes_entries accounts f me p n d mode free room made =
    made_passes (into accounts f p d) (not (is_there f (n ∷ d))) (nat_lt (length (entries_in f d)) most_entries)
    (writes accounts f p d) (is_some (class_made accounts p mode)) (ap not free) room made

-- a process may make an entry of a new name in a directory with room exactly if it may walk into the directory and write it
pub writers_make_entries : WritersMakeEntries
writers_make_entries accounts f me p n d mode free room made =
    let same = makes_entries accounts f me p n d mode free room made in (
      (λ e. sym same ∙ none_passes (refused accounts f me p (Create (n ∷ d) mode)) e),
      (λ e. passes_none (refused accounts f me p (Create (n ∷ d) mode)) (same ∙ e)),
    )

-- the first elements of equal lists are equal
pub first_reply : (a b : RepliedCall) → (a ∷ []) ≡ (b ∷ []) → a ≡ b
first_reply a b e = ap first e
  where
    first : List RepliedCall → RepliedCall
    first [] = a
    first (x ∷ xs) = x

-- a reply is an answer exactly if there is no refusal
pub answer_passes : (refusal : Option Errno) (reply : Reply) → is_answer (reply_or refusal reply) ≡ true → passes refusal ≡ true
answer_passes None reply h = refl
answer_passes (Some e) reply h = absurd (true≢false (sym h))

passes_answer : (refusal : Option Errno) (reply : Reply) → is_answer reply ≡ true → passes refusal ≡ true → is_answer (reply_or refusal reply) ≡ true
passes_answer None reply h k = h
passes_answer (Some e) reply h k = absurd (true≢false (sym k))

module _ (accounts : Accounts) (calls : List CallLine) (me : ProcName) (p : Process) (number : ℕ) where
  abbrev end : Flat
  end = flat_end accounts (boot accounts) calls

  module _ (runs : running end me ≡ Some p) (call : UnixCall) where
    abbrev line : CallLine
    line = record { line = number; process = me; call = call }

    -- the reply to one more line
    reply_is : reply_to accounts end me call ≡ reply_or (refused accounts end me p call) (answer end me p call)
    reply_is = ap (λ o. reply_by accounts end me o call) runs

    -- if the answer of a call is one, its reply is one exactly if the call is not refused
    answered_where : is_answer (answer end me p call) ≡ true → (passes (refused accounts end me p call) ≡ true) ↔ IsAnswered accounts calls line
    answered_where answers = (
      (λ h. record {
        reply = reply_to accounts end me call;
        more = replies_go_on accounts (boot accounts) calls (line ∷ []);
        answered = ap is_answer reply_is ∙ passes_answer (refused accounts end me p call) (answer end me p call) answers h;
      }),
      (λ a.
          let last = first_reply (record { call = line; reply = reply_to accounts end me call }) (record { call = line; reply = a.reply })
          (append_cancel_left (meaning accounts calls) _ _ (sym (replies_go_on accounts (boot accounts) calls (line ∷ [])) ∙ a.more)) in
          answer_passes (refused accounts end me p call) (answer end me p call)
          (ap is_answer (sym reply_is) ∙ ap (λ (x : RepliedCall). is_answer x.reply) last ∙ a.answered)),
    )

  module _ (runs : running end me ≡ Some p) (q : Path) (node : Node) (at : get end.files q ≡ Some node) where
    reading_answers : (dir : Bool) → is_answer (answer end me p (reading_call q dir)) ≡ true
    reading_answers true = refl
    reading_answers false = refl

    pub letters_are : LettersAre accounts calls me number q node (rights_at accounts end me p q node)
    letters_are = record {
      stat = answered_where runs (Stat q) (ap (λ o. is_answer (stat_reply o)) at);
      read = answered_where runs (reading_call q (is_dir node)) (reading_answers (is_dir node));
      append =
          λ file. subst (λ (b : Bool).
          (may_write_at accounts end me p q b ≡ true) ↔ IsAnswered accounts calls (line runs (Append q [])))
          (sym file) (answered_where runs (Append q []) refl);
      create = λ dir n mode r is free room made.
          let same : p ≡ r = some_same p r (sym runs ∙ is) in
          let by = makes_entries accounts end me p n q mode free room (ap (λ (x : Process). is_some (class_made accounts x mode)) same ∙ made) in
          subst (λ (b : Bool). (b ≡ true) ↔ IsAnswered accounts calls (line runs (Create (n ∷ q) mode)))
          (by ∙ ap (may_write_at accounts end me p q) (sym dir)) (answered_where runs (Create (n ∷ q) mode) refl);
      remove = answered_where runs (Rmtree q) refl;
    }
      where
        some_same : (a b : Process) → Some a ≡ Some b → a ≡ b
        some_same a b e = ap (λ (o : Option Process). elim o [ None ↦ a | Some x ↦ x ]) e

-- After the calls of a script, at each path and for each running process, a letter is there exactly if one more line is answered.
pub letters_are_replies : LettersAreReplies
letters_are_replies accounts calls me p runs q node at number = letters_are accounts calls me p number runs q node at
