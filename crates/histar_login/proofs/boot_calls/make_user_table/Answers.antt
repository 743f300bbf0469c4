-- Proves the goals of `make_user_table` of src/boot_calls.rt that the search leaves open.
use Rattle.std.proofs.Common.{◌≡◌, ◌≤◌, length, ap, ◌∙◌, subst}
use Rattle.histar_rules.specs.declared.raw.RawCall.TheVariants.{MakeSegment}
use Rattle.histar_layout.specs.Labelling.{written_by}
use Rattle.histar_programs.specs.Start.{root_category}
use Rattle.histar_login.proofs.DirectoryStage.{table_allowed}
use Rattle.histar_login.proofs.Parts.{undenied_as}
use Rattle.histar_login.proofs.boot_calls.make_user_table.Goals as goal

pub granted-requires : goal.granted-requires
granted-requires g c =
    let way = c.requires in
    let guarded : c.in_ok-guarded.guarded ≡ written_by root_category = c.in_ok-guarded.ensures.ok ∙ ap written_by c.new.ensures in
    undenied_as _ _ _ _ _ _ _ c.make_segment.ensures.answered (table_allowed _ way.0 c.args.kernel.now way.1 way.3 way.2
    (subst (λ b. length b ≤ 4096) c.in_ok-table.ensures.value c.in_ok-table.ensures.few))
    c.boot_thread.ensures (λ j. MakeSegment (c.root_container.ensures j) (guarded j) (c.in_ok-table.ensures.value j))
