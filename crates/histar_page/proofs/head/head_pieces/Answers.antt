-- Proves the goals of `head_pieces` of src/head.rt that the search leaves open.
use Rattle.std.proofs.Common.{◌≡◌, ◌∷◌, ◌∙◌, [], ℕ, List, ap, length, rules, sym}
use Rattle.std.specs.Borrow.{Bor}
use Rattle.std.specs.Prelude.{decimal, filter}
use Rattle.std.proofs.lemmas.List.{length-map}
use Rattle.std.proofs.lemmas.Result.{IfOk-weaker}
use Rattle.histar_page.specs.Texts.{texts}
use Rattle.histar_page.specs.Items.{Item, items_of}
use Rattle.histar_page.specs.Items.Item.{Fixed, Shown}
use Rattle.histar_page.specs.declared.markup.Markup.TheVariants.{EndHead, EndStyle}
use Rattle.histar_page.specs.Lines.{is_denied, is_raw_call, is_refused, is_reply}
use Rattle.histar_page.specs.declared.kind.Kind.TheVariants.{Calls, Denials, FileName, MainTitle, Refusals, Version}
use Rattle.histar_page.proofs.head.head_pieces.Goals as goal

pub returns : goal.returns
returns c =
    let now : Bor (List ℕ) → List ℕ = λ line. line.now in
    let replies =
    c.in_ok-replies.ensures ∙ ap (λ lines. filter is_reply (texts lines)) c.as_slice.ensures.value
    ∙ ap (filter is_reply) c.in_ok-lines.ensures in
    let raw_calls =
    c.in_ok-raw_calls.ensures ∙ ap (λ lines. filter is_raw_call (texts lines)) c.as_slice-2.ensures.value
    ∙ ap (filter is_raw_call) c.in_ok-lines.ensures in
    let many : c.len.result ≡ length c.in_ok-replies.replies.items = search rules in
    let calls = many ∙ sym (length-map c.in_ok-replies.replies.items now) ∙ ap length replies in
    let refused =
    c.refusals.ensures ∙ ap (λ lines. length (filter is_refused (texts lines))) c.as_slice-3.ensures.value
    ∙ ap (λ lines. length (filter is_refused lines)) replies in
    let denied =
    c.denials.ensures ∙ ap (λ lines. length (filter is_denied (texts lines))) c.as_slice-4.ensures.value
    ∙ ap (λ lines. length (filter is_denied lines)) raw_calls in
    let shown : ℕ → ℕ → ℕ → List Item = λ calls refused denied.
    Fixed EndStyle ∷ Shown MainTitle c.args.title.now ∷ Shown FileName c.args.name.now
    ∷ Shown Calls (decimal calls) ∷ Shown Refusals (decimal refused) ∷ Shown Denials (decimal denied) ∷ Shown Version c.args.version.now
    ∷ Fixed EndHead ∷ [] in
    IfOk-weaker c.from_slice.result _ _ (λ pieces are. ap items_of are ∙ (λ i. shown (calls i) (refused i) (denied i))) c.from_slice.ensures.items
