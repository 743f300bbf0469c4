-- Proves the goals of `front_before` of src/front.rt that the search leaves open.
use Rattle.std.proofs.Common.{◌≡◌, ◌<◌, ◌≤◌, ◌∙◌, ℕ, List, length, map, ap, ap₂, sym, rules, arith}
use Rattle.std.proofs.lemmas.List.{length-map}
use Rattle.std.specs.Borrow.{Bor}
use Rattle.histar_script.specs.Lines.{lines_of}
use Rattle.histar_transcript.specs.Front.{IsFront, count_before}
use Rattle.histar_transcript.proofs.Replies.{line_at}
use Rattle.histar_transcript.proofs.CutScripts.{cut_is_front, whole_is_front}
use Rattle.std.proofs.Common.{subst}
use Rattle.histar_transcript.proofs.front.front_before.Goals as goal

-- as many references as a text has lines
count_is : (items : List (Bor (List ℕ))) (text : List ℕ) → map line_at items ≡ lines_of text → length items ≡ length (lines_of text)
count_is items text same = sym (length-map items line_at) ∙ ap length same

pub returns-then-kept-len : goal.returns-then-kept-len
returns-then-kept-len c =
    let same : map line_at c.in_ok-lines.lines.items ≡ lines_of c.args.text.now = search rules in
    let all = count_is c.in_ok-lines.lines.items c.args.text.now same in
    let whole : c.len.result ≡ length c.in_ok-lines.lines.items = search rules in
    let calls : c.as_slice.result.now ≡ c.in_ok-script.script.calls = search rules in
    let less : c.count_before-kept.result < length c.in_ok-lines.lines.items = search rules in
    let lent : map line_at c.as_slice-then-kept-len.result.now ≡ lines_of c.args.text.now =
    ap (map line_at) c.as_slice-then-kept-len.ensures.value ∙ same in
    let count = c.count_before-kept.ensures.count ∙ ap₂ (count_before c.args.at) calls (whole ∙ all) in
    let cut = cut_is_front c.args.at c.count_before-kept.result c.args.text.now c.in_ok-script.script
    (map line_at c.as_slice-then-kept-len.result.now) c.in_ok-script.ensures.exact lent count (omega (arith, less, all)) in
    subst (IsFront c.args.at c.args.text.now) (sym c.in_ok-extended_text.ensures) cut

pub returns : goal.returns
returns c =
    let same : map line_at c.in_ok-lines.lines.items ≡ lines_of c.args.text.now = search rules in
    let all = count_is c.in_ok-lines.lines.items c.args.text.now same in
    let whole : c.len.result ≡ length c.in_ok-lines.lines.items = search rules in
    let calls : c.as_slice.result.now ≡ c.in_ok-script.script.calls = search rules in
    let more : length c.in_ok-lines.lines.items ≤ c.count_before-kept.result = search rules in
    let count = c.count_before-kept.ensures.count ∙ ap₂ (count_before c.args.at) calls (whole ∙ all) in
    let front = whole_is_front c.args.at c.count_before-kept.result c.args.text.now c.in_ok-script.script
    c.in_ok-script.ensures.exact count (omega (arith, more, all)) in
    subst (IsFront c.args.at c.args.text.now) (sym c.in_ok-from_slice.ensures.items) front
