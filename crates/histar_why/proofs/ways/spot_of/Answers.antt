-- Proves the goals of `spot_of` of src/ways.rt that the search leaves open.
use Rattle.std.proofs.Common.{ℕ, refl, sym, ap, ◌∙◌, subst}
use Rattle.histar_object.specs.Objects.{label_there}
use Rattle.histar_syscall.specs.KernelModel.{state}
use Rattle.histar_why.specs.Names.{process_of}
use Rattle.histar_why.specs.Ways.{ShowsClass}
use Rattle.histar_why.proofs.Spots.{no_class, no_label, spot_found, unread_by, unwritten_by}
use Rattle.histar_why.proofs.ways.spot_of.Goals as goal

pub returns : goal.returns
returns g c =
    let label = c.in-Some.label.now in
    let class = c.in-Some-2.class in
    let users = c.args.reader.now.users.now in
    let births = c.args.reader.now.births.now in
    let p = process_of c.args.caller.now in
    let s = state c.args.reader.now.kernel.now in
    let unread = c.unread.ensures ∙ unread_by users births p class c.as_slice.result.now (c.as_slice.ensures.value ∙ c.in_ok-jobs.ensures) in
    let unwritten = c.unwritten.ensures
    ∙ unwritten_by users births p class c.as_slice-2.result.now (c.as_slice-2.ensures.value ∙ c.in_ok-jobs.ensures) in
    let shows = subst (ShowsClass users label) c.in-Some-2.is c.in_ok-class.ensures in
    spot_found users births s p c.args.target label
    (sym (c.in-Some.ensures ∙ ap (λ (o : ℕ). label_there (s.objects o)) c.object.ensures)) class shows _
    (record {
      leads = refl;
      seen = λ i. record {
        is_directory = c.is_directory.ensures i;
        bytes = c.bytes_at.ensures i;
        unread = unread i;
        unwritten = unwritten i;
      };
    })

pub returns-in_default : goal.returns-in_default
returns-in_default g c =
    let s = state c.args.reader.now.kernel.now in
    no_label c.args.reader.now.users.now c.args.reader.now.births.now s (process_of c.args.caller.now) c.args.target
    (sym (c.in_default.ensures ∙ ap (λ (o : ℕ). label_there (s.objects o)) c.object.ensures))

pub returns-in_default-2 : goal.returns-in_default-2
returns-in_default-2 g c =
    let s = state c.args.reader.now.kernel.now in
    let users = c.args.reader.now.users.now in
    no_class users c.args.reader.now.births.now s (process_of c.args.caller.now) c.args.target c.in-Some.label.now
    (sym (c.in-Some.ensures ∙ ap (λ (o : ℕ). label_there (s.objects o)) c.object.ensures))
    (subst (ShowsClass users c.in-Some.label.now) c.in_default-2.is c.in_ok-class.ensures)
