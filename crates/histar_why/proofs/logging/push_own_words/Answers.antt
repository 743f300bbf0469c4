-- Proves the goals of `push_own_words` of src/logging.rt that the search leaves open.
use Rattle.std.proofs.Common.{sym, ap, ◌∙◌}
use Rattle.std.specs.Prelude.{option_map}
use Rattle.histar_syscall.specs.KernelModel.{state}
use Rattle.histar_why.specs.Names.{process_of}
use Rattle.histar_why.proofs.Lines.{added_as, running_said}
use Rattle.histar_why.proofs.logging.push_own_words.Goals as goal

pub returns-in-Some : goal.returns-in-Some
returns-in-Some g c =
    added_as c.push_why.result _ _ c.args.text.now.items c.push_why.new.text.items
    (λ words says. running_said c.args.reader.now.users.now c.args.reader.now.roots.now c.args.reader.now.births.now
    (state c.args.reader.now.kernel.now) c.args.asked.now c.in-Some.caller _
    (sym c.in_ok-caller.ensures ∙ ap (option_map process_of) c.in-Some.is) words says) c.push_why.ensures
