-- Proves the goals of `push_why` of src/logging.rt that the search leaves open.
use Rattle.std.proofs.Common.{[], refl, sym, append-nil}
use Rattle.std.specs.Prelude.{None, Some}
use Rattle.histar_syscall.specs.KernelModel.{state}
use Rattle.histar_why.specs.declared.views.View.{View}
use Rattle.histar_why.proofs.Lines.{added, reason_added}
use Rattle.histar_why.proofs.logging.push_why.Goals as goal

pub returns-in-Some : goal.returns-in-Some
returns-in-Some g c =
    let view : View = record {
      asked = c.args.asked;
      users = c.args.reader.now.users;
      caller = c.args.caller;
      facts = record { ref_ptr = c.args.asked.ref_ptr; now = c.in_ok-facts.facts };
    } in
    added c.push_reason.result _ c.args.text.now.items c.push_reason.new.text.items _
    (reason_added c.args.reader.now.users.now c.args.reader.now.roots.now c.args.reader.now.births.now (state c.args.reader.now.kernel.now)
    c.args.asked.now c.args.caller.now view (record { asked_is = refl; users_are = refl; caller_is = refl; facts = c.in_ok-facts.ensures })
    c.args.asked.now.parts.now refl (Some c.in-Some.reason) c.in-Some.ensures) c.push_reason.ensures

pub returns-in-None : goal.returns-in-None
returns-in-None g c =
    let view : View = record {
      asked = c.args.asked;
      users = c.args.reader.now.users;
      caller = c.args.caller;
      facts = record { ref_ptr = c.args.asked.ref_ptr; now = c.in_ok-facts.facts };
    } in (
      [],
      sym (append-nil _),
      reason_added c.args.reader.now.users.now c.args.reader.now.roots.now c.args.reader.now.births.now (state c.args.reader.now.kernel.now)
          c.args.asked.now c.args.caller.now view (record { asked_is = refl; users_are = refl; caller_is = refl; facts = c.in_ok-facts.ensures })
          c.args.asked.now.parts.now refl None c.in-None.ensures,
    )
