-- The rights of a thread at a path of a state, by the labels of its objects.
use Rattle.std.specs.Prelude.{ℕ, Option, option_map}
use Rattle.histar_flat.specs.Words.{ProcName}
use Rattle.histar_object.specs.State.{State, observes, modifies}
use Rattle.histar_programs.specs.declared.roots.Roots.{Roots}
use Rattle.histar_programs.specs.declared.caller.Caller.{Caller}
use Rattle.histar_programs.specs.Caller.{caller_at}
use Rattle.histar_rights.specs.Rights.{above_root, rights_below}
use Rattle.histar_cells.specs.declared.cells.Cell.{Cell}

-- the cell of a running process, with the rights that each process has above `/`
abbrev pub visitor : ProcName → Caller → Cell
visitor me caller = record { process = me; thread = caller.thread; rights = above_root }

-- the cell of the process of this name, if it runs
abbrev pub visitor_at : State → Roots → ProcName → Option Cell
visitor_at s roots me = option_map (visitor me) (caller_at s roots.home me)

-- the cell at an entry of a directory, by the cell at the directory and what the labels of the thread and of this object allow
abbrev pub cell_below : State → ℕ → Cell → Cell
cell_below s object c = record c {
  rights = rights_below c.rights (observes (s.objects c.thread) (s.objects object)) (modifies (s.objects c.thread) (s.objects object));
}
