-- The rights of a user that are computed on the way to a path are those of the flat state that the machine represents.
use Rattle.std.specs.Prelude.{◌≡◌, [], ◌∷◌, length, Option, None, Some, MatchOption, refl}
use Rattle.std.proofs.Common.{ap, sym, ◌∙◌, subst}
use Rattle.std.proofs.lemmas.Bool.{true≢false}
use Rattle.histar_flat.specs.Words.{Name, Path}
use Rattle.histar_flat.specs.Accounts.{Accounts}
use Rattle.histar_flat.specs.Files.{get}
use Rattle.histar_flat.specs.FlatState.{Flat, Node, is_dir, is_some_and}
use Rattle.histar_object.specs.State.{State}
use Rattle.histar_syscall.specs.KernelModel.{KernelModel, state}
use Rattle.histar_layout.specs.Listing.{object_of}
use Rattle.histar_layout.specs.UserTable.{without_passwords}
use Rattle.histar_layout.specs.declared.entry.Target.{Target}
use Rattle.histar_programs.specs.declared.roots.Roots.{Roots}
use Rattle.histar_programs.specs.Start.{roots_of}
use Rattle.histar_refinement.specs.NumberedClasses.{numbered_class}
use Rattle.histar_refinement.specs.Represents.{ObjectsMatch, Represents}
use Rattle.histar_refinement.proofs.Agreeing.{parent_is_dir}
use Rattle.histar_readout.specs.Laws.{LeadsToNode}
use Rattle.histar_readout.specs.Resolve.{LeadsNowhere, LeadsTo}
use Rattle.histar_readout.proofs.PathsMatched.{flat_states_are_resolved}
use Rattle.histar_readout.proofs.TreeMatched.{agrees_at}
use Rattle.histar_rights.specs.declared.rights.Rights.{Rights}
use Rattle.histar_rights.specs.declared.users.UserRights.{UserRights}
use Rattle.histar_rights.specs.Laws.{HaveFewBytes, rights_above, rights_or}
use Rattle.histar_rights.specs.Rights.{rights_below}
use Rattle.histar_rights.specs.Users.{process_of, rights_of_user}
use Rattle.histar_rights.proofs.Giving.{directories_give_rights}
use Rattle.histar_diff.specs.Tables.{no_rights}
use Rattle.histar_shell.specs.Machine.{MachineModel}
use Rattle.histar_cells.specs.declared.by_user.UserSpot.{UserSpot}
use Rattle.histar_cells.specs.ByUser.{AreRightsOfUser, FindsUserSpot, HasRightsAt, IsOfClass, NarrowsTo, user_rights_if}
use Rattle.histar_cells.proofs.ClassesAlike.{reads_alike, writes_alike}
use Rattle.histar_cells.proofs.FlatTrees.{are_tree, few_bytes}
use Rattle.histar_cells.proofs.Numbers.{numbered_at}
use Rattle.histar_cells.proofs.SameClasses.{still_of_class}
use Rattle.histar_cells.proofs.UserSpots.{one_set}

-- the rights of a spot that was found; without one there are none
abbrev pub rights_in : Option UserSpot → Rights
rights_in None = no_rights
rights_in (Some spot) = spot.there.rights

module _ (accounts : Accounts) (s : State) (f : Flat) (represents : Represents accounts s f) (small : HaveFewBytes f) (user : Name) where
  abbrev l : ObjectsMatch accounts s f
  l = represents.matched

  abbrev roots : Roots
  roots = roots_of (length accounts.users)

  abbrev users : Accounts
  users = without_passwords accounts

  -- a path with a node leads to it
  led : (q : Path) (node : Node) → get f.files q ≡ Some node → LeadsToNode s roots q node
  led q node at = by (get f.files q) at (flat_states_are_resolved accounts s f represents q)
    where
      by : (o : Option Node) → o ≡ Some node → MatchOption o (LeadsNowhere s roots q) (LeadsToNode s roots q) → LeadsToNode s roots q node
      by o e there = subst (λ (o : Option Node). MatchOption o (LeadsNowhere s roots q) (LeadsToNode s roots q)) e there

  -- the object at a path is of the class of the node
  of_class : (q : Path) (node : Node) → get f.files q ≡ Some node → (target : Target) → LeadsTo s roots q target
      → IsOfClass users s (object_of target) (numbered_class l.category node.class)
  of_class q node at target leads =
      let is = agrees_at accounts s f l q node at target (numbered_at accounts s f l q target leads node at) in
      record { label = is.label; label_is = is.label_is; of_class = still_of_class accounts _ _ is.of_class }

  -- the user with its rights at a node
  abbrev at_node : Path → Node → UserRights
  at_node q node = record { user = user; rights = rights_of_user accounts f user q node }

  -- the rights at a node are those at its directory, narrowed
  narrowed : (q : Path) (node : Node) → get f.files q ≡ Some node
      → NarrowsTo users s roots q (record { user = user; rights = rights_above accounts f [] (process_of user) q }) (at_node q node)
  narrowed q node at =
      let there = led q node at in
      let above = rights_above accounts f [] (process_of user) q in (
        there.target,
        there.leads,
        record {
          class = numbered_class l.category node.class;
          of_class = of_class q node at there.target there.leads;
          rights = ap (λ r. record { user = user; rights = r })
              (directories_give_rights accounts f (are_tree accounts s f l) small [] (process_of user) q node at
              ∙ (λ i. rights_below above (sym (reads_alike accounts l.category user node.class) i)
              (sym (writes_alike accounts l.category user node.class) i)));
        },
      )

  -- so a user has its rights at a path with a node
  has_rights : (q : Path) (node : Node) → get f.files q ≡ Some node → HasRightsAt users s roots user q (at_node q node)
  has_rights [] node at = narrowed [] node at
  has_rights (n ∷ d) node at = by (get f.files d) refl (has_rights d)
    where
      by : (o : Option Node) → get f.files d ≡ o
          → ((above : Node) → get f.files d ≡ Some above → HasRightsAt users s roots user d (at_node d above))
          → HasRightsAt users s roots user (n ∷ d) (at_node (n ∷ d) node)
      by None e has = absurd (true≢false (sym (parent_is_dir accounts s f l n d node at) ∙ ap (λ (o : Option Node). is_some_and o is_dir) e))
      by (Some above) e has = (
        at_node d above,
        has above e,
        subst (λ (o : Option Node). NarrowsTo users s roots (n ∷ d)
            (record { user = user; rights = rights_or accounts f [] (process_of user) d o }) (at_node (n ∷ d) node)) e (narrowed (n ∷ d) node at),
      )

  -- the rights that were found are those at the path, and where none were found there is no node
  rights_found : (q : Path) (found : Option UserSpot) → FindsUserSpot users s roots user q found
      → rights_in found ≡ user_rights_if accounts f q user (get f.files q)
  unfolding FindsUserSpot
  rights_found q found is = by (get f.files q) refl (flat_states_are_resolved accounts s f represents q) found is
    where
      by : (o : Option Node) → get f.files q ≡ o → MatchOption o (LeadsNowhere s roots q) (LeadsToNode s roots q)
          → (found : Option UserSpot) → FindsUserSpot users s roots user q found
          → rights_in found ≡ user_rights_if accounts f q user (get f.files q)
      by None e nowhere None none = ap (user_rights_if accounts f q user) (sym e)
      by None e nowhere (Some spot) there = absurd (nowhere spot.target there.0)
      by (Some node) e leads None none = absurd (none (at_node q node) (has_rights q node e))
      by (Some node) e leads (Some spot) there =
          ap (λ (u : UserRights). u.rights) (one_set users s roots user q spot.there (at_node q node) there.1 (has_rights q node e))
          ∙ ap (user_rights_if accounts f q user) (sym e)

-- ---- on a machine

-- the rights of what was found by what a machine lends are those of the user
pub rights_shown : (m : MachineModel) (q : Path) (user : Name) (lent : Accounts × KernelModel × Roots × Path)
    → lent ≡ (m.users, m.kernel, m.roots, q) → (found : Option UserSpot) → FindsUserSpot lent.0 (state lent.1) lent.2 user lent.3 found
    → {rights : Rights} → rights_in found ≡ rights → AreRightsOfUser m q user rights
rights_shown m q user lent same found finds is accounts f shows =
    let here : FindsUserSpot (without_passwords accounts) (state m.kernel) (roots_of (length accounts.users)) user q found =
    subst (λ (x : Accounts × Roots). FindsUserSpot x.0 (state m.kernel) x.1 user q found) (λ i. (shows.users i, shows.roots i))
    (subst (λ (x : Accounts × KernelModel × Roots × Path). FindsUserSpot x.0 (state x.1) x.2 user x.3 found) same finds) in
    sym is ∙ rights_found accounts (state m.kernel) f shows.represents (few_bytes f shows.small) user q found here
