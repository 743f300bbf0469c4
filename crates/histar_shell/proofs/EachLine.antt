-- Writing a line for each of some things, one after another.
use Rattle.std.proofs.Common.{◌≡◌, ℕ, ◌+◌, ◌<◌, List, [], ◌∷◌, ◌++◌, length, take, drop, get_or, Bool, true, Option, refl, sym, ap, subst, ◌∙◌}
use Rattle.std.proofs.Common.{append-nil, append_assoc, take-append-drop}
use Rattle.std.proofs.lemmas.List.{take_more, drop_more}
use Rattle.std.proofs.lemmas.Grind.{flat_map-append}
use Rattle.std.proofs.KnownBytes.{Appends-trans}
use Rattle.std.specs.List.{flat_map}
use Rattle.std.specs.Io.KnownBytes.{Appends}
use Rattle.histar_object.specs.State.{State}
use Rattle.histar_io.specs.Writing.{AppendsFront}
use Rattle.histar_io.proofs.WritingLemmas.{sent_none}
use Rattle.histar_syscall.specs.KernelModel.{state}
use Rattle.histar_readout.specs.declared.tree.TreeNode.{TreeNode}
use Rattle.histar_readout.specs.TreeLines.{line_at, lines_at}
use Rattle.histar_shell.specs.declared.session.Options.{Options}
use Rattle.histar_shell.specs.Machine.{MachineModel}
use Rattle.histar_shell.specs.TreeText.{tree_line_text, tree_text}
use Rattle.histar_shell.specs.Ending.{IsTreeIn, HasTree, PrintsTree, IsAsked, AppendsTree, BeginsTree, AppendsEnding, BeginsTheEnding, asked_trace}
use Rattle.histar_shell.proofs.AnswerLemmas.{front_after}

-- the line of a file or a directory of a state
abbrev pub node_text : State → TreeNode → List ℕ
node_text s node = tree_line_text (line_at s node)

-- the lines of all files and directories are those of the tree
pub nodes_text : (s : State) (nodes : List TreeNode) → flat_map (node_text s) nodes ≡ tree_text (lines_at s nodes)
nodes_text s [] = refl
nodes_text s (node ∷ nodes) = ap (λ (l : List ℕ). node_text s node ++ l) (nodes_text s nodes)

module _ {A : Type 0} (f : A → List ℕ) (xs : List A) (i : ℕ) (x : A) (lt : i < length xs) (is : get_or xs i x ≡ x) where
  -- the text of the things before this one
  abbrev so_far : List ℕ
  so_far = flat_map f (take i xs)

  with_this : flat_map f (take (i + 1) xs) ≡ so_far ++ f x
  with_this =
      ap (flat_map f) (take_more xs i x lt) ∙ flat_map-append f (take i xs) (get_or xs i x ∷ [])
      ∙ ap (λ (l : List ℕ). so_far ++ l) (append-nil (f (get_or xs i x)) ∙ ap f is)

  all_parts : flat_map f xs ≡ so_far ++ (f x ++ flat_map f (drop (i + 1) xs))
  all_parts =
      ap (flat_map f) (sym (take-append-drop i xs) ∙ ap (λ (l : List A). take i xs ++ l) (drop_more xs i x lt))
      ∙ flat_map-append f (take i xs) (get_or xs i x ∷ drop (i + 1) xs)
      ∙ ap (λ (y : A). so_far ++ (f y ++ flat_map f (drop (i + 1) xs))) is

  -- the line of this one is written
  pub line_more : (a b c : Option (List ℕ)) (line bytes : List ℕ) → Appends a b so_far → line ≡ f x → bytes ≡ line
      → Appends b c bytes → Appends a c (flat_map f (take (i + 1) xs))
  line_more a b c line bytes written text same next =
      subst (Appends a c) (sym with_this)
      (Appends-trans a b c so_far (f x) written (subst (Appends b c) (same ∙ text) next))

  -- a beginning of it is written
  pub line_begun : (a b c : Option (List ℕ)) (line bytes : List ℕ) → Appends a b so_far → line ≡ f x → bytes ≡ line
      → AppendsFront b c bytes → AppendsFront a c (flat_map f xs)
  line_begun a b c line bytes written text same next =
      subst (AppendsFront a c) (sym all_parts) (front_after a b c so_far (f x) (flat_map f (drop (i + 1) xs)) written
      (subst (AppendsFront b c) (same ∙ text) next))

  -- nothing of it is written
  pub line_unwritten : (a b : Option (List ℕ)) → Appends a b so_far → AppendsFront a b (flat_map f xs)
  line_unwritten a b written = (f x ++ flat_map f (drop (i + 1) xs), record { front = so_far; parts = all_parts; appended = written })

-- the lines of the things from a place on are not written
pub rest_unwritten : {A : Type 0} (f : A → List ℕ) (xs : List A) (i : ℕ) (a b : Option (List ℕ)) → Appends a b (flat_map f (take i xs))
    → AppendsFront a b (flat_map f xs)
rest_unwritten f xs i a b written = (
  flat_map f (drop i xs),
  record {
    front = flat_map f (take i xs);
    parts = ap (flat_map f) (sym (take-append-drop i xs)) ∙ flat_map-append f (take i xs) (drop i xs);
    appended = written;
  },
)

-- a beginning of the tree is a beginning of what follows the replies
pub tree_begun : (options : Options) (m : MachineModel) (old new : Option (List ℕ)) → BeginsTree options m old new → BeginsTheEnding options m old new
tree_begun options m old new begun =
    let trace = asked_trace options m.kernel.trace in (
      begun.0 ++ trace,
      record { tree = begun.0; prints = begun.1; parts = refl },
      (
        begun.2.0
            ++ trace,
        record {
          front = begun.2.1.front;
          parts = ap (λ (t : List ℕ). t ++ trace) begun.2.1.parts ∙ simp append_assoc;
          appended = begun.2.1.appended;
        },
      ),
    )

-- the tree, and then a beginning of the trace
pub trace_begun : (options : Options) (m : MachineModel) (old mid new : Option (List ℕ)) (trace : List ℕ)
    → trace ≡ asked_trace options m.kernel.trace → AppendsTree options m old mid → AppendsFront mid new trace
    → BeginsTheEnding options m old new
trace_begun options m old mid new trace same tree begun = (
  tree.0 ++ trace,
  record { tree = tree.0; prints = tree.1; parts = ap (λ (t : List ℕ). tree.0 ++ t) same },
  subst (AppendsFront old new) (ap (λ (t : List ℕ). tree.0 ++ t) (append-nil trace)) (front_after old mid new tree.0 trace [] tree.2 begun),
)

-- the tree, and then the trace
pub ending_written : (options : Options) (m : MachineModel) (old mid new : Option (List ℕ)) (trace : List ℕ)
    → trace ≡ asked_trace options m.kernel.trace → AppendsTree options m old mid → Appends mid new trace
    → AppendsEnding options m old new
ending_written options m old mid new trace same tree whole = (
  tree.0
      ++ trace,
  record { tree = tree.0; prints = tree.1; parts = ap (λ (t : List ℕ). tree.0 ++ t) same },
  Appends-trans old mid new tree.0 trace tree.2 whole,
)

-- if the tree is asked for, the text of the machine's tree is the text to be written
pub tree_revealed : (b : Bool) (m : MachineModel) (tree : List TreeNode) → b ≡ true → IsTreeIn m tree
    → IsAsked b (PrintsTree m) (tree_text (lines_at (state m.kernel) tree))
tree_revealed b m tree asked is =
    subst (λ (x : Bool). IsAsked x (PrintsTree m) (tree_text (lines_at (state m.kernel) tree))) (sym asked)
    (tree, is, refl)

-- nothing of the tree was written yet
pub tree_unwritten : (options : Options) (m : MachineModel) (a : Option (List ℕ)) → options.tree ≡ true → HasTree m → BeginsTree options m a a
tree_unwritten options m a asked has =
    let text = tree_text (lines_at (state m.kernel) has.0) in
    (text, tree_revealed options.tree m has.0 asked has.1, (text, sent_none a text))
