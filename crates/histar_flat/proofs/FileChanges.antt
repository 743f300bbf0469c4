-- What removals and renames leave, and which processes can remove private files.
use Rattle.std.specs.Prelude.{◌≡◌, ◌≢◌, Bool, true, false, not, cond, ◌∷◌, Some, None, refl}
use Rattle.std.proofs.Common.{ap, sym, ◌∙◌, subst, inl, inr}
use Rattle.std.proofs.lemmas.Bool.{true≢false, cases_Bool}
use Rattle.std.proofs.lemmas.Option.{none-some}
use Rattle.histar_flat.specs.declared.calls.UnixCall.{UnixCall}
use Rattle.histar_flat.specs.declared.calls.UnixCall.TheVariants.{Unlink, Rmdir, Rmtree, Rename}
use Rattle.histar_flat.specs.declared.replies.Reply.TheVariants.{Done}
use Rattle.histar_flat.specs.Words.{Name, Path, ProcName}
use Rattle.histar_flat.specs.PathOrder.{under_path}
use Rattle.histar_flat.specs.Accounts.{Accounts}
use Rattle.histar_flat.specs.Files.{get}
use Rattle.histar_flat.specs.Classes.{Process}
use Rattle.histar_flat.specs.FlatState.{Flat, writes, moved, without_below}
use Rattle.histar_flat.specs.FlatCalls.{running, reply_to, flat_after}
use Rattle.histar_flat.specs.Laws.{private_file}
use Rattle.histar_flat.specs.FileLaws.{RemovalsTakeWhatIsBelow, RenamesKeepWhatIsThere, WritersTakePrivateFiles}
use Rattle.histar_flat.proofs.Answered.{IsAnswered, is_answered, changed_after}
use Rattle.histar_flat.proofs.Changes.{EachChange, by_line, rename_tests}
use Rattle.histar_flat.proofs.FileLemmas.{get_other, get-keep}
use Rattle.histar_flat.proofs.PrivateFiles.{elsewhere, written_elsewhere}
use Rattle.histar_flat.proofs.Renaming.{stays, get_renamed, leaves, returns_from}
use Rattle.histar_flat.proofs.Trees.{nothing_below}

-- a call that is done was not refused
done : (accounts : Accounts) (f : Flat) (me : ProcName) (call : UnixCall) → reply_to accounts f me call ≡ Done → IsAnswered accounts f me call Done
done accounts f me call said = is_answered accounts f me call Done (λ e. cc) (λ errno e. cc) said

-- after a removal each path has what it had, unless it was removed
left_without : (f : Flat) (q r : Path) → get (without_below f q).files r ≡ cond (under_path q r) None (get f.files r)
left_without f q r = get-keep f.files (λ t. not (under_path q t)) r ∙ by (under_path q r)
  where
    by : (b : Bool) → cond (not b) (get f.files r) None ≡ cond b None (get f.files r)
    by true = refl
    by false = refl

-- a removal takes exactly what is at its path and below it
pub removals_take_what_is_below : RemovalsTakeWhatIsBelow
removals_take_what_is_below accounts f me call q (inl e) said r =
    let is = done accounts f me (Unlink q) (ap (reply_to accounts f me) (sym e) ∙ said) in
    ap (λ (c : UnixCall). get (flat_after accounts f me c).files r) e
    ∙ ap (λ (g : Flat). get g.files r) (changed_after accounts f me (Unlink q) Done is) ∙ left_without f q r
removals_take_what_is_below accounts f me call q (inr (inl e)) said r =
    let is = done accounts f me (Rmdir q) (ap (reply_to accounts f me) (sym e) ∙ said) in
    ap (λ (c : UnixCall). get (flat_after accounts f me c).files r) e
    ∙ ap (λ (g : Flat). get g.files r) (changed_after accounts f me (Rmdir q) Done is) ∙ left_without f q r
removals_take_what_is_below accounts f me call q (inr (inr e)) said r =
    let is = done accounts f me (Rmtree q) (ap (reply_to accounts f me) (sym e) ∙ said) in
    ap (λ (c : UnixCall). get (flat_after accounts f me c).files r) e
    ∙ ap (λ (g : Flat). get g.files r) (changed_after accounts f me (Rmtree q) Done is) ∙ left_without f q r

-- a rename keeps everything
pub renames_keep_what_is_there : RenamesKeepWhatIsThere
renames_keep_what_is_there accounts f tree me n k d said r node = (
  (λ at. (after (to r) ∙ ap (λ b. cond b None (get f.files (from (to r)))) (leaves n k d apart r))
      ∙ ap (get f.files) (returns_from n k d apart r (outside at)) ∙ at),
  (λ at. kept (under_path (n ∷ d) r) (sym (after r) ∙ at)),
)
  where
    is : IsAnswered accounts f me (Rename (n ∷ d) k) Done
    is = done accounts f me (Rename (n ∷ d) k) said

    apart : n ≢ k
    apart = (rename_tests accounts f me is.process n k d is.passes).0

    free : (q : Path) → under_path (k ∷ d) q ≡ true → get f.files q ≡ None
    free = nothing_below f tree (k ∷ d) (rename_tests accounts f me is.process n k d is.passes).1

    to : Path → Path
    to = moved (n ∷ d) (k ∷ d)

    from : Path → Path
    from = moved (k ∷ d) (n ∷ d)

    after : (q : Path) → get (flat_after accounts f me (Rename (n ∷ d) k)).files q ≡ cond (under_path (n ∷ d) q) None (get f.files (from q))
    after q = ap (λ (g : Flat). get g.files q) (changed_after accounts f me (Rename (n ∷ d) k) Done is) ∙ get_renamed n k d apart f.files free q

    outside : get f.files r ≡ Some node → under_path (k ∷ d) r ≡ false
    outside at = elim (cases_Bool (under_path (k ∷ d) r)) [
      | inl u ↦ absurd (none-some node (sym (free r u) ∙ at))
      | inr u ↦ u
    ]

    kept : (b : Bool) → cond b None (get f.files (from r)) ≡ Some node → get f.files (from r) ≡ Some node
    kept true e = absurd (none-some node e)
    kept false e = e

-- no call of another user's process removes or changes a private file, unless it may write a directory on the way to the file
pub writers_take_private_files : WritersTakePrivateFiles
writers_take_private_files f tree q owner bytes at accounts me p call runs other none =
    by_line accounts f me call (λ g. get g.files q ≡ Some (private_file owner bytes)) at (λ x runs_x. changes x (same_process x runs_x))
  where
    same_process : (x : Process) → running f me ≡ Some x → p ≡ x
    same_process x runs_x = let e : Some p ≡ Some x = sym runs ∙ runs_x in cc

    -- a directory that may be written is not on the way to the file
    not_above : (n : Name) (d : Path) → writes accounts f p d ≡ true → under_path (n ∷ d) q ≡ false
    not_above n d w = elim (cases_Bool (under_path (n ∷ d) q)) [
      | inl u ↦ absurd (true≢false (sym w ∙ none n d u))
      | inr u ↦ u
    ]

    changes_of : EachChange accounts f me p call (λ g. get g.files q ≡ Some (private_file owner bytes))
    changes_of = record {
      stays = at;
      makes = λ n d x walked free w own mode made_is. get_other f.files (n ∷ d) x q (elsewhere f q owner bytes at (n ∷ d) free) ∙ at;
      overwrites = λ n d new file w. get_other f.files (n ∷ d) _ q (written_elsewhere f q owner bytes at accounts p (n ∷ d) other w) ∙ at;
      cuts = λ n d away w. left_without f (n ∷ d) q ∙ ap (λ b. cond b None (get f.files q)) (not_above n d w) ∙ at;
      renames = λ n k d away apart free w.
          get_renamed n k d apart f.files (nothing_below f tree (k ∷ d) free) q
          ∙ ap (λ b. cond b None (get f.files (moved (k ∷ d) (n ∷ d) q))) (not_above n d w)
          ∙ ap (get f.files) (stays (k ∷ d) (n ∷ d) q (not_above k d w)) ∙ at;
      spawns = λ is. at;
      exits = λ n is. at;
      logs_in = λ name is known free. at;
      kills = λ n. at;
      wraps = λ n d is walked free w named. get_other f.files (n ∷ d) _ q (elsewhere f q owner bytes at (n ∷ d) free) ∙ at;
    }

    changes : (x : Process) → p ≡ x → EachChange accounts f me x call (λ g. get g.files q ≡ Some (private_file owner bytes))
    changes x e = subst (λ (x : Process). EachChange accounts f me x call (λ g. get g.files q ≡ Some (private_file owner bytes))) e changes_of
