-- What processes show, line by line.
use Rattle.std.specs.Prelude.{ℕ, zero, suc, List, [], ◌∷◌, Option, None, Some}
use Rattle.std.specs.List.{flat_map, range_with_len}
use Rattle.histar_flat.specs.Words.{ProcName}
use Rattle.histar_flat.specs.Classes.{Process}
use Rattle.histar_flat.specs.FlatState.{Flat}
use Rattle.histar_refinement.specs.Categories.{Categories}
use Rattle.histar_refinement.specs.NumberedClasses.{job_numbers}
use Rattle.histar_readout.specs.declared.process.Life.{Life}
use Rattle.histar_readout.specs.declared.process.Life.TheVariants.{Running, Exited}
use Rattle.histar_readout.specs.declared.process.ProcessNode.{ProcessNode}

-- What a process shows: its name, the categories of the jobs that it is in, whether it runs, and how many children were born to it. If it
-- runs, also its user and the categories of the jobs that it holds; otherwise the number that it has exited with.
pub record ProcessLine : Type 0 where
  pub name : ProcName
  pub chain : List ℕ
  pub life : Life
  pub born : ℕ

-- what a process of a state shows
abbrev pub process_line : ProcessNode → ProcessLine
process_line node = record { name = node.name; chain = node.chain; life = node.life; born = node.born }

module _ (category : Categories) where
  -- the life of a process of a flat state: whether it runs, and as whose, or the number that it has exited with
  abbrev pub flat_life : Process → Option ℕ → Life
  flat_life p None = Running p.user (job_numbers category p.held)
  flat_life p (Some number) = Exited number

  -- what a process of a flat state shows
  abbrev pub flat_process_line : ProcName → Process → ProcessLine
  flat_process_line me p = record { name = me; chain = job_numbers category p.chain; life = flat_life p p.exited; born = p.born }

  -- what a process of a flat state shows, if it is there, and then each child that was born to it
  abbrev pub with_children : (ℕ → List ProcessLine) → ProcName → Option Process → List ProcessLine
  with_children child me None = []
  with_children child me (Some p) = flat_process_line me p ∷ flat_map child (range_with_len 1 p.born)

  -- what the processes of a flat state at a name and below it show, down to this many levels
  abbrev pub flat_processes : ℕ → Flat → ProcName → List ProcessLine
  flat_processes zero f me = []
  flat_processes (suc levels) f me = with_children (λ n. flat_processes levels f (n ∷ me)) me (f.processes me)
