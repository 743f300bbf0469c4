-- Proves the goals of `stat` of src/stat.rt that the search leaves open.
use Rattle.std.proofs.Common.{ℕ, None, Some, Ok, Err, sym, ap, ◌∙◌}
use Rattle.histar_flat.specs.Accounts.{Accounts}
use Rattle.histar_flat.specs.Words.{Path}
use Rattle.histar_flat.specs.declared.replies.Errno.TheVariants.{ENOENT}
use Rattle.histar_flat.specs.declared.replies.Reply.TheVariants.{Stats}
use Rattle.histar_level.specs.Levels.{Levels}
use Rattle.histar_rules.specs.declared.raw.RawCall.{RawCall}
use Rattle.histar_rules.specs.declared.raw.RawCall.TheVariants.{LabelOf}
use Rattle.histar_syscall.specs.KernelModel.{KernelModel}
use Rattle.histar_layout.specs.ShownClass.{class_shown}
use Rattle.histar_programs.specs.declared.call_error.CallError.TheVariants.{Refused}
use Rattle.histar_programs.specs.declared.roots.Roots.{Roots}
use Rattle.histar_programs.specs.Refusals.{settled}
use Rattle.histar_programs.specs.Programs.{Program}
use Rattle.histar_programs.specs.Parts.{ask}
use Rattle.histar_calls.specs.declared.stat.FoundObject.{FoundObject}
use Rattle.histar_calls.specs.StatCall.{find_object, class_reply, stat_program}
use Rattle.histar_programs.proofs.Exits.{Leaves, ends_so, further}
use Rattle.histar_programs.proofs.Running.{grants, refuses, runs_as, replies_so, says}
use Rattle.histar_calls.proofs.stat.stat.Given as given
use Rattle.histar_calls.proofs.stat.stat.Goals as goal
use Rattle.histar_calls.proofs.stat.stat.Goals.{In_ok-found, In_ok-label}

-- the raw call that asks for the label of an object
abbrev label_of : FoundObject → RawCall
label_of object = LabelOf object.container object.object

-- what comes after the label
abbrev after_label : Accounts → FoundObject → Levels → Program
after_label accounts object label = class_reply object.is_directory (class_shown accounts label)

-- what comes after the object
abbrev after_object : Accounts → FoundObject → Program
after_object accounts object = ask (label_of object) (after_label accounts object)

-- at first the whole program is left
begun : {M : Type 0} → (accounts : Accounts) (roots : Roots) (path : Path) (t : ℕ) (old : KernelModel)
    → Leaves M t (stat_program accounts roots path) old (find_object roots path (after_object accounts)) old
unfolding stat_program
begun accounts roots path t old = record { leads = λ new result on. on }

pub returns-in_err-found : goal.returns-in_err-found
returns-in_err-found g c =
    ends_so _ _ (begun _ _ _ _ _) _ _ _ c.from_residual.ensures.1 c.in_err-found.ensures

-- once the object was found, its label is left
asking : (g : given.Over) (c : In_ok-found g)
    → Leaves g.H.Heap.Refused c.args.unix.now.caller.now.thread (stat_program c.args.unix.now.users.now c.args.unix.now.roots.now c.args.path.now)
    c.args.kernel.now
    (after_object c.args.unix.now.users.now c.in_ok-found.found) c.find_object.new.kernel
asking g c =
    further _ _ (begun _ _ _ _ _) _ _ c.in_ok-found.ensures

pub returns-in_err-label : goal.returns-in_err-label
returns-in_err-label g c =
    ends_so _ _ (asking g (goal.at.returns-in_err-label g c).In_ok-found) _ _ _ c.from_residual-in_err-label.ensures.1 (refuses _ _ _ _ _
    _ c.in_err-label.ensures.ok c.in_err-label.ensures.memory)

-- once the label is known, the reply is left
labelled : (g : given.Over) (c : In_ok-label g)
    → Leaves g.H.Heap.Refused c.args.unix.now.caller.now.thread (stat_program c.args.unix.now.users.now c.args.unix.now.roots.now c.args.path.now)
    c.args.kernel.now
    (after_label c.args.unix.now.users.now c.in_ok-found.found c.in_ok-label.label) c.label_of.new.self
labelled g c =
    further _ _ (asking g c.before.before.before.before) _ _ (grants _ _ _ _ _ c.in_ok-label.ensures.ok.0 c.in_ok-label.ensures.ok.1)

pub returns-in_default : goal.returns-in_default
returns-in_default g c =
    (labelled g (goal.at.returns-in_default g c).In_ok-label).leads c.label_of.new.self (settled (Err (Refused ENOENT)))
    (runs_as _ _ (class_reply c.in_ok-found.found.is_directory None) _ _ _
    (ap (class_reply c.in_ok-found.found.is_directory) (sym c.shown_class.ensures ∙ c.in_default.is)) (says _ _ _))

pub returns : goal.returns
returns g c =
    (labelled g (goal.at.returns g c).In_ok-label).leads c.label_of.new.self (Ok _)
    (runs_as _ _ (class_reply c.in_ok-found.found.is_directory (Some _)) _ _ _
    (ap (class_reply c.in_ok-found.found.is_directory) (sym c.shown_class.ensures ∙ c.in-Some.is)) (replies_so _ _ _ _ (ap Stats c.stat.ensures)))
