-- The replies to which the kernel's refusals lead in these programs.
use Rattle.histar_flat.specs.Words.{Name, Path}
use Rattle.histar_programs.specs.declared.roots.Roots.{Roots}
use Rattle.histar_programs.specs.Laws.{RepliesToRefusals}
use Rattle.histar_moves.specs.Unlink.{unlink_program}
use Rattle.histar_moves.specs.Rmdir.{rmdir_program}
use Rattle.histar_moves.specs.Rmtree.{rmtree_program}
use Rattle.histar_moves.specs.Rename.{rename_program}

-- the programs of these calls reply to their refusals
pub record MovesReplyToRefusals : Type 0 where
  pub unlink : (roots : Roots) (path : Path) → RepliesToRefusals (unlink_program roots path)
  pub rmdir : (roots : Roots) (path : Path) → RepliesToRefusals (rmdir_program roots path)
  pub rmtree : (roots : Roots) (path : Path) → RepliesToRefusals (rmtree_program roots path)
  pub rename : (roots : Roots) (path : Path) (name : Name) → RepliesToRefusals (rename_program roots path name)
