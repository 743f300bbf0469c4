-- Proves the goals of `class_in` of src/ways.rt that the search leaves open.
use Rattle.std.proofs.Common.{Some, sym, ap, ◌∙◌}
use Rattle.histar_why.proofs.Spots.{group_shown, none_shown, open_shown, private_shown, readable_shown, shown_if_found}
use Rattle.histar_why.proofs.ways.class_in.Goals as goal
use Rattle.histar_why.proofs.ways.class_in.Goals.{in-Private, in-Readable, in-Open, in-Group}

pub returns-in_default : goal.returns-in_default
returns-in_default c = none_shown c.args.users.now c.args.label.now c.in_default.ensures

pub returns-in-Scratch : goal.returns-in-Scratch
returns-in-Scratch c = shown_if_found c.args.users.now c.args.label.now c.class_of.result c.class_of.ensures.ok

pub returns : goal.returns
returns c =
    let users = c.args.users.now in
    let label = c.args.label.now in
    elim c.match-shown.branch [
      | in-Private w ↦ rw (w.class-is) (private_shown users label w.in-Private.owner (sym (ap Some w.in-Private.is) ∙ c.in-Some.ensures))
      | in-Readable w ↦ rw (w.class-is) (readable_shown users label w.in-Readable.owner (sym (ap Some w.in-Readable.is) ∙ c.in-Some.ensures))
      | in-Open w ↦ rw (w.class-is) (open_shown users label (sym (ap Some w.in-Open.is) ∙ c.in-Some.ensures))
      | in-Group w ↦ rw (w.class-is) (group_shown users label w.in-Group.group (sym (ap Some w.in-Group.is) ∙ c.in-Some.ensures))
    ]
