-- Two states that are the same outside a job look alike to an outsider.
use Rattle.std.specs.Prelude.{None, [], false, option_map, refl, true, ℕ, ◌||◌, ◌∷◌, ◌≡◌}
use Rattle.std.proofs.Common.{ap, inl, inr, sym, ◌∙◌}
use Rattle.std.proofs.lemmas.Bool.{or_parts, true≢false, cases_Bool}
use Rattle.histar_flat.specs.Classes.{Process, knows}
use Rattle.histar_flat.specs.Files.{get}
use Rattle.histar_flat.specs.FlatCalls.{is_below_root, life_reply, not_found}
use Rattle.histar_flat.specs.FlatState.{Flat, bytes_of, reads, walk}
use Rattle.histar_flat.specs.PathOrder.{parent, under_process}
use Rattle.histar_flat.specs.Accounts.{Accounts}
use Rattle.histar_flat.specs.Words.{Path, ProcName}
use Rattle.histar_flat.proofs.Entries.{shown}
use Rattle.histar_flat.proofs.LooksAlike.{LooksAlike}
use Rattle.histar_noninterference.specs.Comparison.{is_dir_of, lies_in_job}
use Rattle.histar_noninterference.proofs.Processes.{job_not_found, outsider_finds}
use Rattle.histar_noninterference.proofs.Relation.{IsStarted, SameOutside}
use Rattle.histar_noninterference.proofs.TestLemmas.{not_passed}
use Rattle.histar_noninterference.proofs.Walks.{closed_dir, entries_alike, outsider_walk, reached}

module _ (m : ℕ) (w : ProcName) (accounts : Accounts) (f g : Flat) (r : SameOutside (m ∷ w) f g) (hf : IsStarted (m ∷ w) f)
    (p : Process) (o : knows p (m ∷ w) ≡ false) where
  -- a path that an outsider can walk to lies outside the job
  pub outside : (q : Path) → walk accounts f p q ≡ None → lies_in_job (m ∷ w) f.files q ≡ false
  outside = reached (m ∷ w) accounts p f g r.files o

  above_outside : (q : Path) → walk accounts f p q ≡ None → lies_in_job (m ∷ w) f.files (parent q) ≡ false
  above_outside [] walked = refl
  above_outside (n ∷ d) walked = (or_parts (is_dir_of (m ∷ w) (get f.files d)) (lies_in_job (m ∷ w) f.files d) (outside (n ∷ d) walked)).1

  -- what an outsider reads is no directory of the job
  read_outside : (q : Path) → walk accounts f p q ≡ None → reads accounts f p q ≡ true
      → (is_dir_of (m ∷ w) (get f.files q) || lies_in_job (m ∷ w) f.files q) ≡ false
  read_outside q walked may = elim (cases_Bool (is_dir_of (m ∷ w) (get f.files q))) [
    | inl dir ↦ absurd (true≢false (sym may ∙ closed_dir accounts p (m ∷ w) (get f.files q) o dir))
    | inr no_dir ↦ λ i. no_dir i || outside q walked i
  ]

  -- a process that is found is in no job that the finder doesn't know
  found_outside : (name : ProcName) → not_found f p name ≡ None → under_process (m ∷ w) name ≡ false
  found_outside name found = elim (cases_Bool (under_process (m ∷ w) name)) [
    | inl u ↦ absurd (not_passed (not_found f p name) (job_not_found m w f g r hf p o name u) found)
    | inr u ↦ u
  ]

  pub outsider_looks : (q : Path) → LooksAlike true accounts f g p q
  outsider_looks q = record {
    way = outsider_walk (m ∷ w) accounts p f g r.files o q;
    here = λ walked. ap (option_map shown) (r.files.same q (outside q walked));
    above = λ below walked. ap (option_map shown) (r.files.same (parent q) (above_outside q walked));
    beside = λ name below walked. ap (option_map shown) (r.files.same (name ∷ parent q) (beside q below walked));
    entries_above = λ below walked. entries_alike (m ∷ w) f g r.files (parent q) (beside q below walked);
    entries = λ wide walked may. entries_alike (m ∷ w) f g r.files q (read_outside q walked may);
    bytes = λ walked may. ap bytes_of (r.files.same q (outside q walked));
    found = λ wide. outsider_finds m w f g r hf p o;
    life = λ wide name found. ap life_reply (r.processes name (found_outside name found));
  }
    where
      beside : (q : Path) → is_below_root q ≡ true → walk accounts f p q ≡ None
          → (is_dir_of (m ∷ w) (get f.files (parent q)) || lies_in_job (m ∷ w) f.files (parent q)) ≡ false
      beside [] below walked = absurd (true≢false (sym below))
      beside (n ∷ d) below walked = outside (n ∷ d) walked
