-- Proves the goals of `read_raw` of src/read_calls.rt that the search leaves open.
use Rattle.std.proofs.Common.{◌≡◌, true, Err, sym, ap, subst, ◌∙◌}
use Rattle.std.specs.Str.{bytes_eq}
use Rattle.std.proofs.lemmas.Slice.Eq.{bytes_eq-Decides}
use Rattle.std.proofs.lemmas.Option.{same_Some}
use Rattle.histar_rawtext.specs.RawText.{thread_call_text}
use Rattle.histar_rawtext.specs.Outcome.{Gives}
use Rattle.histar_rawtext.specs.Reading.{thread_call_in}
use Rattle.histar_rawtext.proofs.CallsRead.{thread_call_again}
use Rattle.histar_rawtext.proofs.CallsRight.{thread_call_right}
use Rattle.histar_rawtext.proofs.read_calls.read_raw.Goals as goal

pub returns-in-Err-NoCall-clause-ok : goal.returns-in-Err-NoCall-clause-ok
returns-in-Err-NoCall-clause-ok g c t call is =
    let read = ap thread_call_in (sym is.0) ∙ thread_call_again t call is.1 is.2 in
    let none = subst (λ e. Gives (Err e) (thread_call_in c.args.line.now)) c.in-Err-NoCall.field-0-is c.in-Err-NoCall.ensures.exact in
    cc (sym none ∙ read)

pub returns-in-Ok-false-clause-ok : goal.returns-in-Ok-false-clause-ok
returns-in-Ok-false-clause-ok g c t call is =
    let read = ap thread_call_in (sym is.0) ∙ thread_call_again t call is.1 is.2 in
    let same = same_Some c.in-Ok.asked (t, call) (sym c.in-Ok.ensures.exact ∙ read) in
    let written : thread_call_text c.in-Ok.asked.0 c.in-Ok.asked.1 ≡ c.args.line.now =
    ap (λ asked. thread_call_text asked.0 asked.1) same ∙ is.0 in
    let equal = (bytes_eq-Decides (thread_call_text c.in-Ok.asked.0 c.in-Ok.asked.1) c.args.line.now).1 written in
    cc (sym c.in-Ok-false.field-0-test ∙ c.in-Ok-false.ensures.ok ∙ equal)

pub returns-in-Ok-true-clause-ok : goal.returns-in-Ok-true-clause-ok
returns-in-Ok-true-clause-ok g c =
    let equal : bytes_eq (thread_call_text c.in-Ok.asked.0 c.in-Ok.asked.1) c.args.line.now ≡ true =
    sym c.in-Ok-true.ensures.ok ∙ c.in-Ok-true.field-0-test in
    let written = (bytes_eq-Decides (thread_call_text c.in-Ok.asked.0 c.in-Ok.asked.1) c.args.line.now).0 equal in
    let right = thread_call_right c.args.line.now c.in-Ok.asked c.in-Ok.ensures.exact in
    (written, right.0, right.1)
