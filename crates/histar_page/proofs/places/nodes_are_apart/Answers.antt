-- Proves the goals of `nodes_are_apart` of src/places.rt that the search leaves open.
use Rattle.std.proofs.Common.{◌≢◌, ℕ, inl, inr, arith}
use Rattle.std.proofs.lemmas.Bool.{cases_lt}
use Rattle.histar_page.specs.Places.{AreApart, file_band, file_box, process_band, process_box}
use Rattle.histar_page.proofs.places.nodes_are_apart.Goals as goal

two_processes : (i j : ℕ) → i ≢ j → AreApart (process_box i) (process_box j)
two_processes i j other =
    elim (cases_lt i j) [ inl lt ↦ inr (inr (inl (omega arith))) | inr le ↦ inr (inr (inr (omega arith))) ]

two_files : (i j : ℕ) → i ≢ j → AreApart (file_box i) (file_box j)
two_files i j other = elim (cases_lt i j) [ inl lt ↦ inr (inr (inl (omega arith))) | inr le ↦ inr (inr (inr (omega arith))) ]

band_and_process : (i j : ℕ) → i ≢ j → AreApart (process_band i) (process_box j)
band_and_process i j other =
    elim (cases_lt i j) [ inl lt ↦ inr (inr (inl (omega arith))) | inr le ↦ inr (inr (inr (omega arith))) ]

band_and_file : (i j : ℕ) → i ≢ j → AreApart (file_band i) (file_box j)
band_and_file i j other = elim (cases_lt i j) [ inl lt ↦ inr (inr (inl (omega arith))) | inr le ↦ inr (inr (inr (omega arith))) ]

pub returns : goal.returns
returns c = record {
  processes = two_processes;
  files = two_files;
  columns = λ i j. inl (omega arith);
  process_bands = band_and_process;
  file_bands = band_and_file;
  band_columns = λ i j. (inl (omega arith), inl (omega arith));
}
