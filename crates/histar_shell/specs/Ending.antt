-- What is written after the replies: the tree, if it is asked for, and then the trace, if it is asked for.
use Rattle.std.specs.Prelude.{◌≡◌, ℕ, Bool, true, false, List, [], ◌++◌, Option, Some, if◌then◌else◌, slice_get}
use Rattle.std.specs.Io.KnownBytes.{Appends}
use Rattle.histar_io.specs.Writing.{AppendsFront}
use Rattle.histar_trace.specs.declared.entries.TraceEntry.{TraceEntry}
use Rattle.histar_syscall.specs.KernelModel.{state}
use Rattle.histar_rawtext.specs.RawText.{trace_line, trace_text}
use Rattle.histar_readout.specs.declared.tree.TreeNode.{TreeNode}
use Rattle.histar_readout.specs.Tree.{IsTreeOf}
use Rattle.histar_readout.specs.TreeLines.{lines_at}
use Rattle.histar_shell.specs.declared.session.Options.{Options}
use Rattle.histar_shell.specs.Machine.{MachineModel}
use Rattle.histar_shell.specs.TreeText.{tree_text}

-- the objects of a machine's kernel list this tree from `/` on
abbrev pub IsTreeIn : MachineModel → List TreeNode → Type 0
IsTreeIn m tree = IsTreeOf m.users (state m.kernel) m.roots tree

-- the objects of a machine's kernel list a tree
abbrev pub HasTree : MachineModel → Type 0
HasTree m = (tree : List TreeNode) × IsTreeIn m tree

-- the text prints the tree that the objects list
abbrev pub PrintsTree : MachineModel → List ℕ → Type 0
PrintsTree m text = (tree : List TreeNode) × IsTreeIn m tree × (text ≡ tree_text (lines_at (state m.kernel) tree))

-- the text is one of these if it is asked for, and else it is empty
abbrev pub IsAsked : Bool → (List ℕ → Type 0) → List ℕ → Type 0
IsAsked true is text = is text
IsAsked false is text = text ≡ []

-- the line is that of the entry at this place
abbrev pub IsEntryLine : List TraceEntry → ℕ → List ℕ → Type 0
IsEntryLine entries at line = (entry : TraceEntry) × (slice_get entries at ≡ Some entry) × (line ≡ trace_line entry)

-- the lines of a trace, if it is asked for
abbrev pub asked_trace : Options → List TraceEntry → List ℕ
asked_trace options trace = if options.trace then trace_text trace else []

-- the text that follows the replies of a machine
pub record IsEnding (options : Options) (m : MachineModel) (text : List ℕ) : Type 0 where
  pub tree : List ℕ
  pub prints : IsAsked options.tree (PrintsTree m) tree
  pub parts : text ≡ tree ++ asked_trace options m.kernel.trace

-- the tree of a machine was written, if it is asked for
abbrev pub AppendsTree : Options → MachineModel → Option (List ℕ) → Option (List ℕ) → Type 0
AppendsTree options m old new = (text : List ℕ) × IsAsked options.tree (PrintsTree m) text × Appends old new text

-- a beginning of the tree was written
abbrev pub BeginsTree : Options → MachineModel → Option (List ℕ) → Option (List ℕ) → Type 0
BeginsTree options m old new = (text : List ℕ) × IsAsked options.tree (PrintsTree m) text × AppendsFront old new text

-- the text that follows the replies of a machine was written
abbrev pub AppendsEnding : Options → MachineModel → Option (List ℕ) → Option (List ℕ) → Type 0
AppendsEnding options m old new = (text : List ℕ) × IsEnding options m text × Appends old new text

-- a beginning of the text that follows the replies was written
abbrev pub BeginsTheEnding : Options → MachineModel → Option (List ℕ) → Option (List ℕ) → Type 0
BeginsTheEnding options m old new = (text : List ℕ) × IsEnding options m text × AppendsFront old new text
