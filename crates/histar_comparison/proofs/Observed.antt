-- What a run shows is what its script means.
use Rattle.std.proofs.Common.{◌≡◌, List, [], ◌∷◌, map, refl, sym, ap, ◌∙◌}
use Rattle.histar_flat.specs.Words.{Path, ProcName}
use Rattle.histar_flat.specs.FlatState.{Node}
use Rattle.histar_flat.specs.Meaning.{meaning}
use Rattle.histar_script.specs.Script.{ScriptModel}
use Rattle.histar_syscall.specs.KernelModel.{state}
use Rattle.histar_readout.specs.TreeLines.{flat_line, line_at}
use Rattle.histar_noninterference.specs.Comparison.{node_text}
use Rattle.histar_noninterference.specs.Trees.{PathText, tree_lines}
use Rattle.histar_shell.specs.Machine.{MachineModel, IsStart}
use Rattle.histar_shell.specs.Ending.{HasTree}
use Rattle.histar_shell.specs.Meaning.{Shows, last_state}
use Rattle.histar_shell.proofs.CallRefinements.{calls_refine}
use Rattle.histar_shell.proofs.SessionMeanings.{all_replies, shows_end}
use Rattle.histar_shell.proofs.ShownTrees.{shown_tree, same_lines}
use Rattle.histar_comparison.specs.Replies.{RepliesModel, no_replies, with_replies}
use Rattle.histar_comparison.specs.Observation.{CanRun, KeepsReplies, line_text, ShowsTree}

-- each line of two
map_twice : {A B C : Type 0} (f : B → C) (g : A → B) (xs : List A) → map (λ x. f (g x)) xs ≡ map f (map g xs)
map_twice f g [] = refl
map_twice f g (x ∷ xs) = ap (λ l. f (g x) ∷ l) (map_twice f g xs)

-- the lines of a flat state
lines_of_flat : (entries : List (Path × Node)) → map line_text (map flat_line entries) ≡ map (λ e. (e.0, node_text e.0 e.1)) entries
lines_of_flat entries = sym (map_twice line_text flat_line entries)

module _ (job : ProcName) (script : ScriptModel) (can : CanRun script) (start end : MachineModel)
    (starts : IsStart script.accounts start) (old new : RepliesModel)
    (kept : KeepsReplies job start end old new script.calls) where
  -- the machine at the end represents the flat state at the end
  shows : Shows script.accounts end (last_state script)
  shows = shows_end calls_refine script can.declared can.calls start starts end kept.answers kept.each kept.in_turn

  -- the machine has a tree
  pub has_tree : HasTree end
  has_tree = shown_tree script.accounts end (last_state script) shows

  -- the replies are those that the script means
  pub replies_are : old ≡ no_replies → new ≡ with_replies job no_replies (meaning script.accounts script.calls)
  replies_are empty =
      kept.kept
      ∙ (λ i.
      with_replies job (empty i) (all_replies calls_refine script can.declared can.calls start starts end kept.answers kept.each
      kept.in_turn i))

  -- the lines that were kept are those of the tree
  pub tree_is : (lines : List PathText) → ShowsTree end lines → lines ≡ tree_lines (last_state script)
  tree_is lines revealed =
      revealed.2 ∙ map_twice line_text (line_at (state end.kernel)) revealed.0
      ∙ ap (map line_text) (same_lines script.accounts end (last_state script) shows revealed.0 revealed.1)
      ∙ lines_of_flat (last_state script).files.entries
