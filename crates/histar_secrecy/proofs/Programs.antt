-- Programs learn nothing: two runs that follow one program, and give the same replies to the same calls, have the same calls.
use Rattle.std.specs.Prelude.{◌≡◌, List, [], ◌∷◌, length, refl}
use Rattle.std.proofs.Common.{sym, ◌∙◌, subst, arith}
use Rattle.histar_flat.specs.declared.calls.UnixCall.{UnixCall}
use Rattle.histar_flat.specs.declared.replies.Reply.{Reply}
use Rattle.histar_flat.specs.Words.{ProcName}
use Rattle.histar_flat.specs.Accounts.{Accounts}
use Rattle.histar_flat.specs.FlatState.{Flat, with_bytes}
use Rattle.histar_flat.specs.FlatCalls.{flat_after, reply_to}
use Rattle.histar_secrecy.specs.Noninterference.{Follows, Program, ProgramsLearnNothing, outside_calls}
use Rattle.histar_secrecy.specs.Leaks.{replies_from}
use Rattle.histar_secrecy.proofs.Learning.{outsiders_learn_nothing, replies_are}

-- two lists of calls that follow one program from one state are the same as far as both go
same_calls : (accounts : Accounts) (program : Program) (calls others : List (ProcName × UnixCall)) (f : Flat) (before : List Reply)
    → Follows program before calls (replies_from accounts f calls)
    → Follows program before others (replies_from accounts f others) → length calls ≡ length others → calls ≡ others
same_calls accounts program [] [] f before h k e = refl
same_calls accounts program [] (d ∷ others) f before h k e = absurd (omega arith)
same_calls accounts program (c ∷ calls) [] f before h k e = absurd (omega arith)
same_calls accounts program (c ∷ calls) (d ∷ others) f before h k e =
    let first : d ≡ c = k.0 ∙ sym h.0 in
    let later =
    subst (λ x. Follows program (reply_to accounts f x.0 x.1 ∷ before) others (replies_from accounts (flat_after accounts f x.0 x.1) others))
    first k.1 in
    let next = flat_after accounts f c.0 c.1 in
    let rest = same_calls accounts program calls others next (reply_to accounts f c.0 c.1 ∷ before) h.1 later (omega arith) in
    λ i. sym first i ∷ rest i

pub programs_learn_nothing : ProgramsLearnNothing
programs_learn_nothing accounts f reached path way file one other calls others program first second equally_far =
    let ones = outside_calls accounts way f calls in
    let twos = outside_calls accounts way f others in
    let h = subst (Follows program [] ones) (replies_are accounts f reached path way file one one calls first.silent first.no_login) first.follows in
    let k = subst (Follows program [] twos)
    (replies_are accounts f reached path way file one other others second.silent second.no_login) second.follows in
    let alike = same_calls accounts program ones twos (with_bytes f path one) [] h k equally_far in (
      alike,
      outsiders_learn_nothing accounts f reached path way file one other calls others
          (record { silent = first.silent; others_silent = second.silent; alike = alike; no_login = first.no_login }),
    )
