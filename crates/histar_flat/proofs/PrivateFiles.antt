-- A private file and one call of another user's process.
use Rattle.std.specs.Prelude.{◌≡◌, ◌≢◌, ℕ, true, false, not, ◌&&◌, cond, List, ◌∷◌, length, nat_le, Some, None, refl}
use Rattle.std.proofs.Common.{ap, sym, ◌∙◌, inl, inr}
use Rattle.std.proofs.lemmas.Bool.{true≢false, cases_Bool}
use Rattle.histar_base.specs.Refusals.{◌orelse◌, unless}
use Rattle.histar_flat.specs.declared.calls.UnixCall.{UnixCall}
use Rattle.histar_flat.specs.declared.calls.UnixCall.TheVariants.{Write}
use Rattle.histar_flat.specs.declared.replies.Errno.TheVariants.{EACCES, EFBIG}
use Rattle.histar_flat.specs.Words.{Name, Path, ProcName}
use Rattle.histar_base.specs.Paths.{same}
use Rattle.histar_flat.specs.PathOrder.{under_path}
use Rattle.histar_flat.specs.Accounts.{Accounts}
use Rattle.histar_flat.specs.Files.{get}
use Rattle.histar_flat.specs.Classes.{Process, is_free, may_write}
use Rattle.histar_flat.specs.FlatState.{Flat, IsTree, is_some_and, writes, moved}
use Rattle.histar_flat.specs.FlatCalls.{most_bytes, refused, flat_after}
use Rattle.histar_flat.proofs.CommonNeeds.{no_file}
use Rattle.histar_flat.specs.Laws.{private_file, runs_for, takes_away}
use Rattle.histar_flat.proofs.FileLemmas.{get_other, get-keep}
use Rattle.histar_flat.proofs.Refusals.{passes_first, passes_later, passed}
use Rattle.histar_flat.proofs.Renaming.{stays, get_renamed}
use Rattle.histar_flat.proofs.Changes.{EachChange, by_line}
use Rattle.histar_flat.proofs.Trees.{nothing_below}

-- a file that a call writes may be written
pub written_is_writable : (accounts : Accounts) (f : Flat) (me : ProcName) (p : Process) (r : Path) (bytes : List ℕ)
    → refused accounts f me p (Write r bytes) ≡ None → writes accounts f p r ≡ true
written_is_writable accounts f me p r bytes h =
    let short = unless (nat_le (length bytes) most_bytes) EFBIG in
    passed (writes accounts f p r) EACCES (passes_first (unless (writes accounts f p r) EACCES) short
    (passes_later (no_file accounts f p r) (unless (writes accounts f p r) EACCES orelse short) h))

module _ (f : Flat) (q : Path) (owner : Name) (bytes : List ℕ) (h : get f.files q ≡ Some (private_file owner bytes)) where
  -- a path with nothing is another one
  pub elsewhere : (r : Path) → get f.files r ≡ None → q ≢ r
  elsewhere r free e = let gone : Some (private_file owner bytes) ≡ None = sym h ∙ ap (get f.files) e ∙ free in absurd (cc)

  module _ (accounts : Accounts) where
    -- a process of another user may not write the file
    private_is_unwritten : (p : Process) → same p.user owner ≡ false → writes accounts f p q ≡ false
    private_is_unwritten p other = ap (λ o. is_some_and o (λ n. may_write accounts p n.class)) h ∙ ap (λ b. b && is_free p) other

    -- what such a process may write is another path
    pub written_elsewhere : (p : Process) (r : Path) → same p.user owner ≡ false → writes accounts f p r ≡ true → q ≢ r
    written_elsewhere p r other w e = true≢false (sym w ∙ ap (writes accounts f p) (sym e) ∙ private_is_unwritten p other)

    private_changes : IsTree f → (me : ProcName) (p : Process) (call : UnixCall) → same p.user owner ≡ false → takes_away call q ≡ false
        → EachChange accounts f me p call (λ g. get g.files q ≡ Some (private_file owner bytes))
    private_changes tree me p call other kept = record {
      stays = h;
      makes = λ n d x walked free w own mode made_is. get_other f.files (n ∷ d) x q (elsewhere (n ∷ d) free) ∙ h;
      overwrites = λ n d new file w. get_other f.files (n ∷ d) _ q (written_elsewhere p (n ∷ d) other w) ∙ h;
      cuts =
          λ n d away w. get-keep f.files (λ t. not (under_path (n ∷ d) t)) q
          ∙ ap (λ b. cond (not b) (get f.files q) None) (sym (away q) ∙ kept) ∙ h;
      renames = λ n k d away apart free w.
          let below : under_path (k ∷ d) q ≡ false = elim (cases_Bool (under_path (k ∷ d) q)) [
            | inl u ↦ absurd (elsewhere q (nothing_below f tree (k ∷ d) free q u) refl)
            | inr u ↦ u
          ] in
          get_renamed n k d apart f.files (nothing_below f tree (k ∷ d) free) q
          ∙ ap (λ b. cond b None (get f.files (moved (k ∷ d) (n ∷ d) q))) (sym (away q) ∙ kept)
          ∙ ap (get f.files) (stays (k ∷ d) (n ∷ d) q below) ∙ h;
      spawns = λ is. h;
      exits = λ n is. h;
      logs_in = λ name is known free. h;
      kills = λ n. h;
      wraps = λ n d is walked free w named. get_other f.files (n ∷ d) _ q (elsewhere (n ∷ d) free) ∙ h;
    }

  -- In a tree a call of a process that is not the owner's leaves a private file as it is, unless it removes or renames it.
  pub private_file_stays : IsTree f → (accounts : Accounts) (me : ProcName) (call : UnixCall)
      → runs_for f me owner ≡ false → takes_away call q ≡ false
      → get (flat_after accounts f me call).files q ≡ Some (private_file owner bytes)
  private_file_stays tree accounts me call other kept =
      by_line accounts f me call (λ g. get g.files q ≡ Some (private_file owner bytes)) h
      (λ p runs. private_changes accounts tree me p call (sym (ap (λ r. is_some_and r (λ p. same p.user owner)) runs) ∙ other) kept)
