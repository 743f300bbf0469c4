-- The rights that are computed on the way to a path are those of the flat state that the machine represents.
use Rattle.std.specs.Prelude.{◌≡◌, ℕ, false, is_some, [], ◌∷◌, length, Option, None, Some, MatchOption, option_map, refl}
use Rattle.std.proofs.Common.{ap, inl, sym, ◌∙◌, subst}
use Rattle.std.proofs.lemmas.Bool.{true≢false}
use Rattle.std.proofs.lemmas.Option.{none-some, same_Some}
use Rattle.histar_flat.specs.Words.{Path, ProcName}
use Rattle.histar_flat.specs.Accounts.{Accounts}
use Rattle.histar_flat.specs.Files.{get}
use Rattle.histar_flat.specs.Classes.{Process}
use Rattle.histar_flat.specs.FlatState.{Flat, Node, is_dir, is_some_and}
use Rattle.histar_flat.specs.FlatCalls.{running}
use Rattle.histar_syscall.specs.KernelModel.{KernelModel, state}
use Rattle.histar_object.specs.State.{State}
use Rattle.histar_layout.specs.Listing.{object_of}
use Rattle.histar_programs.specs.declared.roots.Roots.{Roots}
use Rattle.histar_programs.specs.declared.caller.Caller.{Caller}
use Rattle.histar_programs.specs.Caller.{caller_at}
use Rattle.histar_programs.specs.Start.{roots_of}
use Rattle.histar_refinement.specs.Addresses.{address_of}
use Rattle.histar_refinement.specs.Addresses.Step.{Slash}
use Rattle.histar_refinement.specs.Represents.{ObjectsMatch}
use Rattle.histar_refinement.specs.Accounts.{AreAccounts}
use Rattle.histar_refinement.proofs.CallerFound.{callers_are_found, callers_are_there}
use Rattle.histar_refinement.proofs.ClassLaws.{modifies_path, observes_path}
use Rattle.histar_refinement.proofs.Agreeing.{parent_is_dir}
use Rattle.histar_rights.specs.declared.rights.Rights.{Rights}
use Rattle.histar_rights.specs.Laws.{HaveFewBytes, rights_above, rights_or}
use Rattle.histar_rights.specs.Rights.{rights_at, rights_below}
use Rattle.histar_rights.proofs.Giving.{directories_give_rights}
use Rattle.histar_diff.specs.Shown.{rights_if}
use Rattle.histar_diff.specs.Tables.{no_rights}
use Rattle.histar_readout.specs.Laws.{LeadsToNode}
use Rattle.histar_readout.specs.Resolve.{LeadsNowhere}
use Rattle.histar_readout.proofs.PathsMatched.{flat_states_are_resolved}
use Rattle.histar_shell.specs.Machine.{MachineModel}
use Rattle.histar_shell.proofs.Users.{is_accounts}
use Rattle.histar_cells.specs.declared.cells.Cell.{Cell}
use Rattle.histar_cells.specs.declared.one_path.Spot.{Spot}
use Rattle.histar_cells.specs.Cells.{cell_below, visitor, visitor_at}
use Rattle.histar_cells.specs.OnePath.{AreRightsOf, FindsSpot, Reaches}
use Rattle.histar_cells.proofs.FlatTrees.{are_tree, few_bytes}
use Rattle.histar_cells.proofs.Numbers.{numbered_at}
use Rattle.histar_cells.proofs.Spots.{leads_there}
use Rattle.histar_cells.proofs.Visiting.{Visitor, runs_there, start_cell}

module _ (accounts : Accounts) (s : State) where
  abbrev roots : Roots
  roots = roots_of (length accounts.users)

  module _ (f : Flat) (l : ObjectsMatch accounts s f) where
    module _ (small : HaveFewBytes f) (ok : AreAccounts accounts) (v : Visitor accounts s f l) where
      -- the process with these rights
      abbrev cell : Rights → Cell
      cell r = record { process = v.name; thread = v.thread; rights = r }

      -- the rights that the directory of a path gives are the rights there
      given_there : (q : Path) (node : Node) → get f.files q ≡ Some node → (o : ℕ) → l.naming.number (address_of q) ≡ Some o
          → cell_below s o (cell (rights_above accounts f v.name v.process q)) ≡ cell (rights_at accounts f v.name v.process q node)
      given_there q node at o numbered =
          let observed = observes_path accounts s f l ok v.name v.process v.runs.0 v.runs.1 v.thread v.runs.2 q node at o (inl numbered) in
          let modified = modifies_path accounts s f l ok v.name v.process v.runs.0 v.runs.1 v.thread v.runs.2 q node at o (inl numbered) in
          (λ i. cell (rights_below (rights_above accounts f v.name v.process q) (observed i) (modified i)))
          ∙ ap cell (sym (directories_give_rights accounts f (are_tree accounts s f l) small v.name v.process q node at))

      -- the rights of a spot are the rights at its path
      rights_reached : (q : Path) (spot : Spot) → Reaches s roots (start_cell accounts s f l v) q spot → (node : Node) → get f.files q ≡ Some node
          → spot.cell ≡ cell (rights_at accounts f v.name v.process q node)
      rights_reached [] spot is node at =
          ap (λ (x : Spot). x.cell) is ∙ given_there [] node at roots.slash.container (l.as_booted (Slash ∷ []) _ refl)
      rights_reached (n ∷ d) spot is node at = by (get f.files d) refl (rights_reached d is.0 is.2)
        where
          numbered : l.naming.number (address_of (n ∷ d)) ≡ Some (object_of is.1)
          numbered =
              numbered_at accounts s f l (n ∷ d) spot.target (leads_there s roots (start_cell accounts s f l v) (n ∷ d) spot is) node at
              ∙ ap (λ (x : Spot). Some (object_of x.target)) is.4

          by : (o : Option Node) → get f.files d ≡ o
              → ((above : Node) → get f.files d ≡ Some above → is.0.cell ≡ cell (rights_at accounts f v.name v.process d above))
              → spot.cell ≡ cell (rights_at accounts f v.name v.process (n ∷ d) node)
          by None e given = absurd (true≢false (sym (parent_is_dir accounts s f l n d node at) ∙ ap (λ (o : Option Node). is_some_and o is_dir) e))
          by (Some above) e given =
              let from : is.0.cell ≡ cell (rights_above accounts f v.name v.process (n ∷ d)) =
              given above e ∙ ap (λ (o : Option Node). cell (rights_or accounts f v.name v.process d o)) (sym e) in
              ap (λ (x : Spot). x.cell) is.4 ∙ ap (cell_below s (object_of is.1)) from ∙ given_there (n ∷ d) node at (object_of is.1) numbered

    -- the running process of a name is found with this cell
    record FoundAs (me : ProcName) (found : Cell) : Type 0 where
      visitor : Visitor accounts s f l
      name : visitor.name ≡ me
      cell : start_cell accounts s f l visitor ≡ found

    found_as : (me : ProcName) (found : Cell) → visitor_at s roots me ≡ Some found → FoundAs me found
    found_as me found is = by (caller_at s roots.home me) refl is
      where
        by : (o : Option Caller) → caller_at s roots.home me ≡ o → option_map (visitor me) o ≡ Some found → FoundAs me found
        by None e h = absurd (none-some found h)
        by (Some caller) e h =
            let there = (callers_are_found accounts s f l me caller).0 e in
            record {
              visitor = record { name = me; process = there.0; thread = caller.thread; runs = there.1.runs };
              name = refl;
              cell = same_Some (visitor me caller) found h;
            }

-- ---- on a machine

-- the facts hold of what was found in a machine's own kernel
pub found_there : (m : MachineModel) (q : Path) (kernel : KernelModel) (at : Roots) (names : Path) (start : Cell) (found : Option Spot)
    → kernel ≡ m.kernel → at ≡ m.roots → names ≡ q → FindsSpot (state kernel) at start names found → FindsSpot (state m.kernel) m.roots start q found
found_there m q kernel at names start found same_kernel same_roots same_names is =
    subst (λ (x : KernelModel × Roots × Path). FindsSpot (state x.0) x.1 start x.2 found) (λ i. (same_kernel i, same_roots i, same_names i)) is

-- at a path with nothing there are no rights
none_there : (accounts : Accounts) (f : Flat) (q : Path) (me : ProcName) (process : Option Process)
    → no_rights ≡ rights_if accounts f q me None process
none_there accounts f q me process = refl

-- a process that doesn't run has no rights
none_runs : (accounts : Accounts) (f : Flat) (q : Path) (me : ProcName) (node : Option Node) → no_rights ≡ rights_if accounts f q me node None
none_runs accounts f q me None = refl
none_runs accounts f q me (Some node) = refl

module _ (m : MachineModel) (q : Path) (me : ProcName) where
  abbrev s : State
  s = state m.kernel

  -- a process that isn't found doesn't run
  pub not_running : visitor_at s m.roots me ≡ None → AreRightsOf m q me no_rights
  not_running none accounts f shows =
      let l = shows.represents.matched in
      let there = callers_are_there accounts s f l me in
      let lost : is_some (caller_at s (roots accounts s).home me) ≡ is_some (visitor_at s (roots accounts s) me) =
      same_there (caller_at s (roots accounts s).home me) in
      let gone = sym there ∙ lost ∙ ap (λ (p : Roots). is_some (visitor_at s p me)) (sym shows.roots) ∙ ap is_some none in
      none_runs accounts f q me (get f.files q) ∙ ap (rights_if accounts f q me (get f.files q)) (sym (not_some (running f me) gone))
    where
      same_there : (o : Option Caller) → is_some o ≡ is_some (option_map (visitor me) o)
      same_there None = refl
      same_there (Some caller) = refl

      not_some : (o : Option Process) → is_some o ≡ false → o ≡ None
      not_some None e = refl
      not_some (Some p) e = absurd (true≢false e)

  module _ (start : Cell) (found : visitor_at s m.roots me ≡ Some start) where
    -- a path that leads nowhere has nothing
    pub nowhere : FindsSpot s m.roots start q None → AreRightsOf m q me no_rights
    unfolding FindsSpot
    nowhere none accounts f shows =
        let lost : LeadsNowhere s (roots accounts s) q = subst (λ (p : Roots). LeadsNowhere s p q) shows.roots none in
        by accounts f (get f.files q) refl (flat_states_are_resolved accounts s f shows.represents q) lost
      where
        by : (accounts : Accounts) (f : Flat) (o : Option Node) → get f.files q ≡ o
            → MatchOption o (LeadsNowhere s (roots accounts s) q) (LeadsToNode s (roots accounts s) q) → LeadsNowhere s (roots accounts s) q
            → no_rights ≡ rights_if accounts f q me o (running f me)
        by accounts f None e resolved lost = refl
        by accounts f (Some node) e resolved lost = absurd (lost resolved.target resolved.leads)

    -- the rights at a path that leads somewhere are those of its spot
    pub spot_rights : (spot : Spot) → FindsSpot s m.roots start q (Some spot) → AreRightsOf m q me spot.cell.rights
    unfolding FindsSpot
    spot_rights spot reached accounts f shows = by (get f.files q) refl (flat_states_are_resolved accounts s f shows.represents q)
      where
        found_so : FoundAs accounts s f shows.represents.matched me start
        found_so = found_as accounts s f shows.represents.matched me start (ap (λ (p : Roots). visitor_at s p me) (sym shows.roots) ∙ found)

        led : Reaches s (roots accounts s) (start_cell accounts s f shows.represents.matched found_so.visitor) q spot
        led = subst (λ (p : Roots). Reaches s p (start_cell accounts s f shows.represents.matched found_so.visitor) q spot) shows.roots
            (subst (λ (c : Cell). Reaches s m.roots c q spot) (sym found_so.cell) reached)

        by : (o : Option Node) → get f.files q ≡ o → MatchOption o (LeadsNowhere s (roots accounts s) q) (LeadsToNode s (roots accounts s) q)
            → spot.cell.rights ≡ rights_if accounts f q me (get f.files q) (running f me)
        by None e none =
            absurd (none spot.target (leads_there s (roots accounts s)
            (start_cell accounts s f shows.represents.matched found_so.visitor) q spot led))
        by (Some node) e resolved =
            let there =
            rights_reached accounts s f shows.represents.matched (few_bytes f shows.small)
            (is_accounts accounts shows.declared) found_so.visitor q spot led node e in
            let runs =
            runs_there accounts s f shows.represents.matched found_so.visitor.name found_so.visitor.process
            found_so.visitor.runs.0 found_so.visitor.runs.1 in
            ap (λ (c : Cell). c.rights) there ∙ (λ i. rights_if accounts f q found_so.visitor.name (sym e i) (sym runs i))
            ∙ ap (λ (n : ProcName). rights_if accounts f q n (get f.files q) (running f n)) found_so.name
