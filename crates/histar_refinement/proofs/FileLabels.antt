-- The labels of files and directories that are represented, and that the kernel shows the label of `/`.
use Rattle.std.proofs.Common.{◌≡◌, ℕ, true, false, [], ◌∷◌, length, None, Some, refl, sym, ap, ◌∙◌}
use Rattle.std.specs.FinSet as set
use Rattle.histar_flat.specs.Words.{Path, ProcName}
use Rattle.histar_flat.specs.Accounts.{Accounts}
use Rattle.histar_flat.specs.Files.{get}
use Rattle.histar_flat.specs.Classes.{Process}
use Rattle.histar_flat.specs.FlatState.{Node, Content, Flat}
use Rattle.histar_flat.specs.FlatState.Content.{Dir, File}
use Rattle.histar_level.specs.Levels.{Levels}
use Rattle.histar_label.specs.Levels.{is_below_raised}
use Rattle.histar_object.specs.declared.objects.Kind.{Kind}
use Rattle.histar_object.specs.declared.objects.Kind.TheVariants.{Segment, Container, Thread, Gate}
use Rattle.histar_object.specs.Objects.{links_in, label_there, is_thread}
use Rattle.histar_object.specs.State.{State, Found}
use Rattle.histar_rules.specs.declared.raw.RawCall.TheVariants.{LabelOf}
use Rattle.histar_rules.specs.Rules.{check}
use Rattle.histar_rules.specs.Sound.{root_number}
use Rattle.histar_refinement.specs.Categories.{booted}
use Rattle.histar_refinement.specs.Guards.{Guard, guard_label, rights_label, rights_clearance}
use Rattle.histar_refinement.specs.Labels.{boot_guard, class_guard, thread_rights}
use Rattle.histar_refinement.specs.Addresses.{address_of, slash_number}
use Rattle.histar_refinement.specs.Addresses.Step.{Slash}
use Rattle.histar_refinement.specs.Agrees.{bare}
use Rattle.histar_refinement.proofs.Expected.{content_kind}
use Rattle.histar_refinement.specs.Represents.{ObjectsMatch}
use Rattle.histar_refinement.specs.Laws.{RunsAs}
use Rattle.histar_refinement.proofs.RawChecks.{label_check}
use Rattle.histar_refinement.proofs.Agreeing.{thread_found, guard_at, path_agrees, step_linked, root_is_dir}
use Rattle.histar_refinement.proofs.LeftObjects.{root_found, root_label}
use Rattle.histar_refinement.proofs.ClassTests.{sees_unguarded}

-- an object has the same label without its links
pub label_bare : (o : Found) → label_there (bare o) ≡ label_there o
label_bare None = refl
label_bare (Some o) = refl

-- an object is a thread exactly if it is one without its links
thread_bare : (o : Found) → is_thread (bare o) ≡ is_thread o
thread_bare None = refl
thread_bare (Some o) = by o.kind
  where
    by : (k : Kind Levels) → is_thread (bare (Some (record { label = o.label; kind = k }))) ≡ is_thread (Some (record { label = o.label; kind = k }))
    by (Segment old) = refl
    by (Container links) = refl
    by (Thread clearance) = refl
    by (Gate clearance entry) = refl

-- a file or a directory is no thread
content_is_none : (label : Levels) (c : Content) → is_thread (Some (record { label = label; kind = content_kind c })) ≡ false
content_is_none label Dir = refl
content_is_none label (File bytes) = refl

module _ (accounts : Accounts) (s : State) (f : Flat) (l : ObjectsMatch accounts s f) where
  module _ (q : Path) (there : Node) (at : get f.files q ≡ Some there) (o : ℕ) (numbered : l.naming.number (address_of q) ≡ Some o) where
    -- the object at a path has the label of its guard
    pub label_at : (g : Guard) → class_guard accounts there.class ≡ Some g → label_there (s.objects o) ≡ Some (guard_label l.category g)
    label_at g is = sym (label_bare (s.objects o)) ∙ ap label_there (path_agrees accounts s f l q there at g is o numbered)

    -- the object at a path is no thread
    pub no_thread_at : is_thread (s.objects o) ≡ false
    no_thread_at =
        let g = guard_at accounts s f l q there at in
        sym (thread_bare (s.objects o)) ∙ ap is_thread (path_agrees accounts s f l q there at g.0 g.1 o numbered)
        ∙ content_is_none (guard_label l.category g.0) there.content

  -- the label of `/` is shown to the thread of every process
  pub slash_label_said : (me : ProcName) (p : Process) (t : ℕ) → RunsAs accounts s f l me p t
      → check s t (LabelOf root_number (slash_number (length accounts.users))) ≡ None
  slash_label_said me p t runs =
      let slash = slash_number (length accounts.users) in
      let own = rights_label l.category (thread_rights accounts me p) in
      let root = root_found accounts s f l in
      let numbered = l.as_booted (Slash ∷ []) slash refl in
      let seen : is_below_raised (guard_label (booted accounts) boot_guard) own ≡ true =
      ap (λ (label : Levels). is_below_raised label own) (root_label accounts s f l)
      ∙ sees_unguarded accounts me p l.category l.different boot_guard refl in
      let linked : set.contains root.0 slash ≡ true =
      sym (ap (λ (o : Found). set.contains (links_in o) slash) root.1)
      ∙ step_linked accounts s f l Slash [] root_number slash (l.as_booted [] root_number refl) numbered in
      label_check s t own (rights_clearance l.category (thread_rights accounts me p)) (thread_found accounts s f l me p runs.0 runs.1 t runs.2)
      root_number (guard_label (booted accounts) boot_guard) root.0 root.1 seen slash linked
      (no_thread_at [] (record { class = (root_is_dir accounts s f l).0; content = Dir }) (root_is_dir accounts s f l).1 slash numbered)
