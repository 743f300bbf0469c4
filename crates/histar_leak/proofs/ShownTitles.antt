-- The titles of the secret files of a machine are those of the flat state that it represents.
use Rattle.std.specs.Prelude.{◌≡◌, ℕ, zero, suc, ◌+◌, ◌*◌, ◌<◌, ◌≤◌, min, nat_lt, Bool, true, false, List, [], ◌++◌}
use Rattle.std.specs.Prelude.{if◌then◌else◌, length, refl}
use Rattle.std.specs.List.{flat_map}
use Rattle.std.proofs.Common.{ap, sym, ◌∙◌, arith}
use Rattle.std.proofs.Math.Nat.{suc-mul}
use Rattle.std.proofs.lemmas.Bool.{le-ltb, lt-ltb, ltb-false, ltb-true}
use Rattle.std.proofs.lemmas.List.{length-map}
use Rattle.histar_flat.specs.Words.{Path}
use Rattle.histar_flat.specs.Accounts.{Accounts}
use Rattle.histar_flat.specs.FlatState.{Flat}
use Rattle.histar_rights.specs.Running.{running_in}
use Rattle.histar_readout.specs.declared.tree.TreeNode.{TreeNode}
use Rattle.histar_readout.specs.TreeEntries.{flat_entry, tree_entry}
use Rattle.histar_secrecy.specs.declared.role.Member.{Member}
use Rattle.histar_shell.specs.Ending.{IsTreeIn}
use Rattle.histar_shell.specs.Machine.{MachineModel}
use Rattle.histar_syscall.specs.KernelModel.{state}
use Rattle.histar_trust.specs.Findings.{AreMembers, ShowsReached, runner_of, shown_secret_paths}
use Rattle.histar_trust.specs.Secrets.{secret_paths}
use Rattle.histar_trust.proofs.Runners.{numbered}
use Rattle.histar_trust.proofs.ShownSecrets.{secret_paths_there}
use Rattle.histar_trust.proofs.ShownTrust.{members_are, own_tree, same_tree}
use Rattle.histar_leak.specs.declared.titles.TheConstants.{MOST_TITLE_WORK}
use Rattle.histar_leak.specs.Titles.{file_titles, title_work, titles_text}
use Rattle.histar_leak.specs.Findings.{AddsFiles}

-- ---- how much work it is

-- a number that is cut off above a limit is as much over the limit
cut_off : (limit most x : ℕ) → limit < most → nat_lt limit (min x most) ≡ nat_lt limit x
cut_off limit most x lt = by (nat_lt limit x) refl
  where
    by : (b : Bool) → nat_lt limit x ≡ b → nat_lt limit (min x most) ≡ b
    by true h = lt-ltb limit (min x most) (omega (arith, ltb-true limit x h))
    by false h = le-ltb limit (min x most) (omega (arith, ltb-false limit x h))

-- so is a product with a number that is cut off above it
cut_factor : (limit most files each : ℕ) → limit < most → nat_lt limit (files * min each most) ≡ nat_lt limit (files * each)
cut_factor limit most zero each lt = ap (nat_lt limit) (let e : 0 * min each most ≡ 0 * each = omega arith in e)
cut_factor limit most (suc k) each lt = by (nat_lt most each) refl
  where
    over : (x : ℕ) → most ≤ x → nat_lt limit (suc k * x) ≡ true
    over x le = lt-ltb limit (suc k * x) (omega (arith, lt, le, suc-mul k x))

    by : (b : Bool) → nat_lt most each ≡ b → nat_lt limit (suc k * min each most) ≡ nat_lt limit (suc k * each)
    by true h = over (min each most) (omega (arith, ltb-true most each h)) ∙ sym (over each (omega (arith, ltb-true most each h)))
    by false h = ap (λ x. nat_lt limit (suc k * x)) (let e : min each most ≡ each = omega (arith, ltb-false most each h) in e)

-- work is computed with numbers that are cut off, and tested as it is
pub work_cut_off : (limit most files entries processes : ℕ) → limit < most
    → nat_lt limit (min (files * min (entries + min (processes * processes) most) most) most)
    ≡ nat_lt limit (files * (entries + processes * processes))
work_cut_off limit most files entries processes lt =
    let square = processes * processes in
    let each : min (entries + min square most) most ≡ min (entries + square) most = omega arith in
    cut_off limit most (files * min (entries + min square most) most) lt ∙ ap (λ x. nat_lt limit (files * x)) each
    ∙ cut_factor limit most files (entries + square) lt

-- ---- a machine

module _ {accounts : Accounts} {m : MachineModel} {f : Flat} (r : ShowsReached accounts m f) (members : List Member) (found : AreMembers m members)
    (tree : List TreeNode) (is : IsTreeIn m tree) {paths : List Path} (are : paths ≡ shown_secret_paths [] tree) where
  paths_are : paths ≡ secret_paths f
  paths_are = are ∙ secret_paths_there r tree is

  entries_same : length tree ≡ length f.files.entries
  entries_same =
      let own = own_tree r tree is in
      let s = state m.kernel in
      ap (λ (t : List TreeNode). length t) (sym (same_tree r tree is)) ∙ sym (length-map own.tree (tree_entry s)) ∙ ap length own.same
      ∙ length-map f.files.entries (flat_entry r.shows.represents.matched.category)

  members_same : length members ≡ length (running_in f)
  members_same =
      sym (length-map members runner_of) ∙ ap length (members_are r members found)
      ∙ length-map (running_in f) (numbered f r.shows.represents.matched.category)

  -- it is too much work for both or for neither
  work_same : nat_lt MOST_TITLE_WORK (length paths * (length tree + length members * length members)) ≡ nat_lt MOST_TITLE_WORK (title_work f)
  work_same = λ i. nat_lt MOST_TITLE_WORK (length (paths_are i) * (entries_same i + members_same i * members_same i))

  module _ {test : Bool} (tested : test ≡ nat_lt MOST_TITLE_WORK (length paths * (length tree + length members * length members))) where
    text_of : (b : Bool) → b ≡ test
        → titles_text accounts f ≡ (let l : List ℕ = if b then [] else flat_map (file_titles accounts f) paths in l)
    text_of b same = λ i. if (sym work_same ∙ sym tested ∙ sym same) i then [] else flat_map (file_titles accounts f) (sym paths_are i)

    -- too much work makes no text
    pub none_made : test ≡ true → (text : List ℕ) → text ≡ [] → text ≡ titles_text accounts f
    none_made h text none = none ∙ sym (text_of true (sym h))

    -- and else the titles of all secret files are the text
    pub all_made : test ≡ false → {text new : List ℕ} → text ≡ [] → AddsFiles accounts m paths text new → new ≡ titles_text accounts f
    all_made h none added = added f r ∙ ap (λ (t : List ℕ). t ++ flat_map (file_titles accounts f) paths) none ∙ sym (text_of false (sym h))
