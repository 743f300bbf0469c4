-- A thread observes and modifies what is of a class exactly where its process may read and write it.
use Rattle.std.proofs.Common.{◌≡◌, ℕ, inl, inr, ◌∷◌, None, Some, refl, sym, ap, ◌∙◌}
use Rattle.std.specs.Prelude.{is_some}
use Rattle.histar_flat.specs.Words.{Path, ProcName}
use Rattle.histar_flat.specs.Accounts.{Accounts}
use Rattle.histar_flat.specs.Files.{get}
use Rattle.histar_flat.specs.Classes.{Class, Process, may_read, may_write}
use Rattle.histar_flat.specs.FlatState.{Node, Flat}
use Rattle.histar_flat.specs.FlatState.Content.{Dir}
use Rattle.histar_level.specs.Levels.{Levels}
use Rattle.histar_object.specs.declared.objects.Kind.{Kind}
use Rattle.histar_object.specs.declared.objects.Kind.TheVariants.{Segment}
use Rattle.histar_object.specs.Objects.{thread_of}
use Rattle.histar_object.specs.State.{State, Found, observes, modifies}
use Rattle.std.proofs.lemmas.Option.{same_Some}
use Rattle.histar_layout.specs.Directory.{spelling}
use Rattle.histar_refinement.specs.Accounts.{AreAccounts}
use Rattle.histar_refinement.specs.Guards.{Guard, guard_label, rights_label, rights_clearance}
use Rattle.histar_refinement.specs.Labels.{class_guard, thread_rights}
use Rattle.histar_refinement.specs.Addresses.{home_address}
use Rattle.histar_refinement.specs.Addresses.Step.{Inside, Runner}
use Rattle.histar_refinement.specs.Directories.{directory_of}
use Rattle.histar_refinement.specs.Agrees.{bare}
use Rattle.histar_refinement.proofs.Expected.{content_kind}
use Rattle.histar_refinement.specs.Represents.{ObjectsMatch}
use Rattle.histar_refinement.specs.Laws.{StandsFor}
use Rattle.histar_refinement.proofs.ClassTests.{observes_class, modifies_class}
use Rattle.histar_refinement.proofs.Agreeing.{thread_found, guard_at, path_agrees, listing_found, listed_is_dir}

-- links make no difference to the two tests
observes_bare : (a b : Found) → observes a (bare b) ≡ observes a b
observes_bare None b = refl
observes_bare (Some t) None = refl
observes_bare (Some t) (Some o) = refl

modifies_bare : (a b : Found) → modifies a (bare b) ≡ modifies a b
modifies_bare None b = refl
modifies_bare (Some t) None = refl
modifies_bare (Some t) (Some o) = refl

module _ (accounts : Accounts) (s : State) (f : Flat) (l : ObjectsMatch accounts s f) (ok : AreAccounts accounts)
    (me : ProcName) (p : Process) (here : f.processes me ≡ Some p) (running : p.exited ≡ None)
    (t : ℕ) (at_thread : l.naming.number (Runner ∷ Inside ∷ home_address me) ≡ Some t) where
  abbrev thread : Found
  thread = Some (thread_of (rights_label l.category (thread_rights accounts me p)) (rights_clearance l.category (thread_rights accounts me p)))

  is_thread : s.objects t ≡ thread
  is_thread = thread_found accounts s f l me p here running t at_thread

  -- the two tests on an object that is guarded as what is of the class
  module _ (class : Class) (g : Guard) (is : class_guard accounts class ≡ Some g) (o : ℕ) (kind : Kind Levels)
      (found : bare (s.objects o) ≡ Some (record { label = guard_label l.category g; kind = kind })) where
    pub observes_guarded : observes (s.objects t) (s.objects o) ≡ may_read accounts p class
    observes_guarded =
        sym (observes_bare (s.objects t) (s.objects o)) ∙ (λ i. observes (is_thread i) (found i))
        ∙ observes_class accounts me p l.category l.different ok class g is

    pub modifies_guarded : modifies (s.objects t) (s.objects o) ≡ may_write accounts p class
    modifies_guarded =
        sym (modifies_bare (s.objects t) (s.objects o)) ∙ (λ i. modifies (is_thread i) (found i))
        ∙ modifies_class accounts me p l.category l.different ok class g is

  module _ (q : Path) (there : Node) (at : get f.files q ≡ Some there) (o : ℕ) where
    -- the object of a path is guarded as its class says
    guarded_so : StandsFor accounts s f l q o
        → (g : Guard) × (kind : Kind Levels) × (class_guard accounts there.class ≡ Some g)
        × (bare (s.objects o) ≡ Some (record { label = guard_label l.category g; kind = kind }))
    guarded_so (inl at_object) =
        let g = guard_at accounts s f l q there at in
        (g.0, content_kind there.content, g.1, path_agrees accounts s f l q there at g.0 g.1 o at_object)
    guarded_so (inr at_listing) =
        let g = guard_at accounts s f l q there at in
        let dir = listed_is_dir accounts s f l q (ap is_some at_listing) in
        let class : there.class ≡ dir.0 = ap (λ (x : Node). x.class) (same_Some there (record { class = dir.0; content = Dir }) (sym at ∙ dir.1)) in (
          g.0,
          Segment (spelling (directory_of f.files l.naming.number q)),
          g.1,
          ap bare
              (listing_found accounts s f l q dir.0 dir.1 g.0 (ap (class_guard accounts) (sym class) ∙ g.1) o
              at_listing),
        )

    pub observes_path : StandsFor accounts s f l q o → observes (s.objects t) (s.objects o) ≡ may_read accounts p there.class
    observes_path agrees = let g = guarded_so agrees in observes_guarded there.class g.0 g.2 o g.1 g.3

    pub modifies_path : StandsFor accounts s f l q o → modifies (s.objects t) (s.objects o) ≡ may_write accounts p there.class
    modifies_path agrees = let g = guarded_so agrees in modifies_guarded there.class g.0 g.2 o g.1 g.3
