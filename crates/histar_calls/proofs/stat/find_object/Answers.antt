-- Proves the goals of `find_object` of src/stat.rt that the search leaves open.
use Rattle.std.proofs.Common.{◌≡◌, ℕ, ◌-◌, [], ◌∷◌, Option, length, take, drop, true, sym, ap, subst, arith, Ok, Err}
use Rattle.histar_flat.specs.Words.{Name, Path}
use Rattle.histar_rules.specs.Sound.{root_number}
use Rattle.histar_syscall.specs.KernelModel.{KernelModel}
use Rattle.histar_layout.specs.Listing.{is_directory, object_of}
use Rattle.histar_layout.specs.declared.entry.Target.{Target}
use Rattle.histar_programs.specs.declared.roots.Place.{Place}
use Rattle.histar_programs.specs.declared.roots.Roots.{Roots}
use Rattle.histar_calls.specs.declared.stat.FoundObject.{FoundObject}
use Rattle.histar_programs.specs.Programs.{Part, RunsPart}
use Rattle.histar_programs.specs.Parts.{entry_at, find_place, given as passed, look_in}
use Rattle.histar_calls.specs.StatCall.{find_object}
use Rattle.histar_programs.proofs.Exits.{LeavesPart, ends_in_so, further_in}
use Rattle.histar_programs.proofs.Running.{fails_so, part_as, hands}
use Rattle.histar_programs.proofs.Directories.{no_names, first_of_names}
use Rattle.histar_programs.proofs.Finding.{decides, decides_not}
use Rattle.histar_calls.proofs.stat.find_object.Given as given
use Rattle.histar_calls.proofs.stat.find_object.Goals as goal
use Rattle.histar_calls.proofs.stat.find_object.Goals.{In_ok-found, In_ok-place}

-- the object of a target in a directory
abbrev object_in : Place → Target → FoundObject
object_in place target = record { container = place.container; object = object_of target; is_directory = is_directory target }

-- what comes after the look-up
abbrev after_look : Place → Option Target → Part FoundObject
after_look place target rest = passed (entry_at target) (λ found. rest (object_in place found))

-- what comes after the place of the directory
abbrev in_place : Name → Place → Part FoundObject
in_place name place rest = look_in place name (λ target. after_look place target rest)

-- the names of a path before its last one
abbrev parent_of : Path → Path
parent_of path = take (length path - 1) (drop 1 path)

-- at first the place of the directory above is left, and what comes after it
begun : {M : Type 0} → (t : ℕ) (roots : Roots) (path : Path) (old : KernelModel) (name : Name) → path ≡ name ∷ parent_of path
    → LeavesPart M FoundObject t (find_object roots path) old (λ rest. find_place roots (parent_of path) (λ place. in_place name place rest)) old
unfolding find_object
begun {M} t roots path old name split = record {
  leads = λ new result on. subst (λ (names : Path). RunsPart M (find_object roots names) old new t result) (sym split) on;
}

pub returns-in_default : goal.returns-in_default
unfolding find_object
returns-in_default g c =
    let k = c.args.kernel.now in
    let roots = c.args.roots.now in
    part_as _ _ k k _ (ap (find_object roots) (no_names _ (omega arith))) _
    (subst (λ root. RunsPart g.H.Heap.Refused (find_object roots []) k k c.args.thread
    (Ok (record { container = root; object = roots.slash.container; is_directory = true }))) (sym c.new.ensures)
    (hands _ k (record { container = root_number; object = roots.slash.container; is_directory = true })))

pub returns-in_err-place : goal.returns-in_err-place
returns-in_err-place g c =
    ends_in_so _ _ (begun _ _ _ _ _ (first_of_names _ _ (omega arith) c.name-item.is)) _ _ _ c.from_residual.ensures.1 c.in_err-place.ensures

-- once the place is known, the name is looked up there
looking : (g : given.Over) (c : In_ok-place g)
    → LeavesPart g.H.Heap.Refused FoundObject c.args.thread (find_object c.args.roots.now c.args.path.now) c.args.kernel.now
    (in_place c.name-item.result c.in_ok-place.place) c.find_place.new.kernel
looking g c =
    further_in _ _ (begun _ _ _ _ _ (first_of_names _ _ (omega arith) c.name-item.is)) _ _ c.in_ok-place.ensures

pub returns-in_err-found : goal.returns-in_err-found
returns-in_err-found g c =
    ends_in_so _ _ (looking g (goal.at.returns-in_err-found g c).In_ok-place) _ _ _ c.from_residual-in_err-found.ensures.1 c.in_err-found.ensures

-- once the name was looked up, what it leads to is left
looked : (g : given.Over) (c : In_ok-found g)
    → LeavesPart g.H.Heap.Refused FoundObject c.args.thread (find_object c.args.roots.now c.args.path.now) c.args.kernel.now
    (after_look c.in_ok-place.place c.in_ok-found.found) c.look_in.new.kernel
looked g c =
    further_in _ _ (looking g c.before.before.before.before.before) _ _ c.in_ok-found.ensures

pub returns-in_err-target : goal.returns-in_err-target
returns-in_err-target g c =
    fails_so _ _ _ _ _ _ c.from_residual-in_err-target.ensures.1
    ((looked g (goal.at.returns-in_err-target g c).In_ok-found).leads c.look_in.new.kernel (Err _) (decides_not _ _ _ _ _ c.in_err-target.ensures))

pub returns : goal.returns
returns g c =
    subst (λ (found : FoundObject). RunsPart g.H.Heap.Refused (find_object c.args.roots.now c.args.path.now) c.args.kernel.now c.look_in.new.kernel
    c.args.thread
    (Ok found)) (λ i. record {
      container = c.in_ok-place.place.container;
      object = sym c.object.ensures i;
      is_directory = sym c.is_directory.ensures i;
    }) ((looked g (goal.at.returns g c).In_ok-found).leads c.look_in.new.kernel (Ok _) (decides _ _ _ _ _ c.in_ok-target.ensures))
