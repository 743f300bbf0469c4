-- Proves the goals of `push_session` of src/session.rt that the search leaves open.
use Rattle.std.proofs.Common.{ℕ, List, [], ◌∷◌, ◌++◌, ◌∙◌, ap, append_assoc, drop, length, sym, zero-add}
use Rattle.std.specs.Borrow.{Bor}
use Rattle.std.specs.Prelude.{codes}
use Rattle.std.proofs.lemmas.Result.{on_ok_weaker}
use Rattle.histar_page.specs.declared.markup.Markup.TheVariants.{EndSession}
use Rattle.histar_page.specs.Texts.{texts}
use Rattle.histar_page.specs.Items.{Item, items_of}
use Rattle.histar_page.specs.Items.Item.{Fixed}
use Rattle.histar_page.specs.Order.{past_own, taken_own}
use Rattle.histar_page.specs.MarkedLines.{marked_in}
use Rattle.histar_page.specs.Session.{boot_items, turns_from}
use Rattle.histar_page.specs.SetUp.{folded_count, set_up_link}
use Rattle.histar_page.proofs.OwnLemmas.{behind_texts}
use Rattle.histar_page.proofs.session.push_session.Goals as goal

pub returns : goal.returns
returns c =
    let now : Bor (List ℕ) → List ℕ = λ line. line.now in
    let calls = c.args.lines.raw_calls.now in
    let old = items_of c.args.pieces.now.items in
    let marked = marked_in c.args.lines in
    let script = texts c.args.script.now in
    let replies = texts c.args.lines.replies.now in
    let turns : ℕ → List (List ℕ) → List Item = λ number raw. turns_from number script [] replies (record marked { raw_calls = raw }) in
    let left =
    behind_texts now calls c.split_at.result.1.now (length c.own_lines-boot.result.now) c.split_at.ensures.back
    ∙ ap (λ k. drop k (texts calls)) (sym (zero-add (length c.own_lines-boot.result.now))) ∙ c.own_lines-boot.ensures.rest in
    let number = folded_count script replies in
    let is_number = c.folded_count-folded.ensures in
    let boot = boot_items (taken_own (codes "0") (texts calls)) in
    let link = set_up_link number in
    let later = turns number (past_own (codes "0") (texts calls)) in
    let ending : List Item = Fixed EndSession ∷ [] in
    let begun = c.in_ok-push_boot.ensures ∙ ap (λ raw. old ++ boot_items raw) c.own_lines-boot.ensures.front in
    let linked = c.in_ok-push_set_up_link.ensures ∙ (λ i. begun i ++ set_up_link (is_number i)) ∙ append_assoc old boot link in
    on_ok_weaker c.fix.result
    (λ e. e
    ∙ ap (λ (l : List Item). l ++ ending)
    (c.in_ok-push_calls.ensures ∙ (λ i. linked i ++ turns (is_number i) (left i)) ∙ append_assoc old (boot ++ link) later)
    ∙ append_assoc old (boot ++ link ++ later) ending)
    c.fix.ensures
