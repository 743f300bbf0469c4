-- The processes that are trusted by a machine are those of the flat state that it represents.
use Rattle.std.specs.Prelude.{◌≡◌, ℕ, Bool, true, false, List, [], codes, filter, map, Option, None, Some, if◌then◌else◌, refl}
use Rattle.std.proofs.Common.{ap, sym, ◌∙◌}
use Rattle.histar_flat.specs.Words.{Name, Path, ProcName}
use Rattle.histar_flat.specs.Accounts.{Accounts, Group}
use Rattle.histar_flat.specs.Classes.{Class}
use Rattle.histar_flat.specs.Files.{get}
use Rattle.histar_flat.specs.FlatState.{Flat, Node, is_dir}
use Rattle.histar_layout.specs.Listing.{is_directory}
use Rattle.histar_object.specs.State.{State}
use Rattle.histar_syscall.specs.KernelModel.{state}
use Rattle.histar_refinement.specs.Represents.{ObjectsMatch}
use Rattle.histar_readout.specs.declared.tree.TreeNode.{TreeNode}
use Rattle.histar_secrecy.specs.declared.role.Member.{Member}
use Rattle.histar_secrecy.specs.declared.role.Role.TheVariants.{Trusted}
use Rattle.histar_secrecy.specs.Ways.{way_to}
use Rattle.histar_secrecy.specs.Roles.{is_trusted}
use Rattle.histar_secrecy.specs.ShownRoles.{classes_on, has_role, with_user}
use Rattle.histar_shell.specs.Ending.{IsTreeIn}
use Rattle.histar_shell.specs.Machine.{MachineModel}
use Rattle.histar_trust.specs.Findings.{AreMembers, ShowsReached, classes_to, node_at}
use Rattle.histar_trust.specs.TrustText.{is_open_way, trusted_with}
use Rattle.histar_trust.proofs.Places.{AreAlike, classes_are, number_of, open_by_number}
use Rattle.histar_trust.proofs.ShownTrust.{chosen, each, trusted_same}
use Rattle.histar_test.specs.Checks.{answer_text, names_text, trusted_at, trusted_text}
use Rattle.histar_test.specs.Running.{shown_trusted}

-- what is shown of a file that not every process reaches
pub shown_case : (groups : List Group) (members : List Member) (o : Option TreeNode) (node : TreeNode) (way : List Class) → o ≡ Some node
    → is_directory node.target ≡ false → is_open_way way ≡ false
    → names_text (map (λ (p : ProcName × Name). p.0) (map with_user (filter (has_role groups way Trusted) members)))
    ≡ shown_trusted groups members o way
shown_case groups members o node way there file closed =
    let names = names_text (map (λ (p : ProcName × Name). p.0) (map with_user (filter (has_role groups way Trusted) members))) in
    sym (ap (λ (x : Option TreeNode). shown_trusted groups members x way) there
    ∙ (λ i. if file i then codes "nobody" else (if closed i then codes "everyone" else names)))

module _ {accounts : Accounts} {m : MachineModel} {f : Flat} (r : ShowsReached accounts m f) (members : List Member)
    (found_members : AreMembers m members) where
  abbrev s : State
  s = state m.kernel

  abbrev l : ObjectsMatch accounts s f
  l = r.shows.represents.matched

  abbrev number : ProcName → ℕ
  number = number_of l.category

  -- the text of an answer, by its cases
  by_case : (a b : Bool) (names : List ProcName)
      → (if a then codes "nobody" else (if b then codes "everyone" else names_text names))
      ≡ answer_text (if a then Some [] else (if b then None else Some names))
  by_case true b names = refl
  by_case false true names = refl
  by_case false false names = refl

  -- by the same way the same are trusted
  found_is : (path : Path) (found : Option TreeNode) (there : Option Node) → AreAlike s l.category path found there
      → shown_trusted accounts.groups members found (classes_on number f path) ≡ answer_text (trusted_at accounts f path there)
  found_is path None None alike = refl
  found_is path None (Some there) alike = absurd alike
  found_is path (Some node) None alike = absurd alike
  found_is path (Some node) (Some there) alike =
      let names : List (ProcName × Name) → List ProcName = λ ps. map (λ (p : ProcName × Name). p.0) ps in
      (λ i. if alike.kind i then codes "nobody"
      else (if open_by_number number f path i then codes "everyone"
      else names_text (names (chosen r members found_members (has_role accounts.groups (classes_on number f path) Trusted)
      (is_trusted accounts (way_to f path) f) (λ member c same runs. trusted_same r members found_members member c same runs path) i))))
      ∙ by_case (is_dir there) (is_open_way (way_to f path)) (names (trusted_with accounts f (way_to f path)))

  -- the processes that are trusted with what the tree has at a path are those of the flat state
  pub trusted_there : (tree : List TreeNode) → IsTreeIn m tree → (path : Path) (way : List Class) → way ≡ classes_to tree path
      → shown_trusted m.users.groups members (node_at path tree) way ≡ trusted_text accounts f path
  trusted_there tree is path way are =
      let to = are ∙ classes_are s l.category f tree (each r tree is) path in
      (λ i. shown_trusted ((r.shows.users i).groups) members (node_at path tree) (to i))
      ∙ found_is path (node_at path tree) (get f.files path) (each r tree is path)
