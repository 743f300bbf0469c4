-- Proves the goals of `tried_replies` of src/tried.rt that the search leaves open.
use Rattle.std.proofs.Common.{◌≡◌, List, ℕ, map, ap, subst, ◌∙◌}
use Rattle.histar_flat.specs.Accounts.{Accounts}
use Rattle.histar_script.specs.Lines.{lines_of}
use Rattle.histar_shell.specs.Machine.{IsStart}
use Rattle.histar_why.proofs.Naming.{known_at_start}
use Rattle.histar_transcript.specs.Tried.{tried_text}
use Rattle.histar_transcript.proofs.Replies.{line_at}
use Rattle.histar_transcript.proofs.Trying.{all_tried}
use Rattle.histar_transcript.proofs.tried.tried_replies.Goals as goal

pub returns-clause-ok : goal.returns-clause-ok
returns-clause-ok c =
    let script = c.args.script in
    let start = c.in-Ok.machine in
    let starts = subst (λ (a : Accounts). IsStart a start) c.into_parts-accounts.ensures.accounts c.in-Ok.ensures.starts in
    let lines : map line_at c.as_slice.result.now ≡ lines_of c.args.text.now =
    ap (map line_at) c.as_slice.ensures.value ∙ c.in_ok-lines.ensures in
    all_tried c.args.first (map line_at c.as_slice.result.now) start c.make_calls-made.new.machine
    (record { log = c.new-2.result; text = c.new-3.result }) c.make_calls-made.new.said script c.into_parts-accounts.result.1.items
    c.into_parts-accounts.ensures.calls (known_at_start script.accounts c.requires start starts) c.new-2.ensures.births
    c.new-3.ensures.items c.in_ok-made.ensures.ok
    ∙ ap (λ (ls : List (List ℕ)). tried_text c.args.first ls script) lines
