-- Two namings and two trees of processes give a process the same status, and its segment the same bytes, if they agree on what is in it.
use Rattle.std.proofs.Common.{◌≡◌, ℕ, ◌∷◌, Option, map, ap}
use Rattle.std.specs.Prelude.{is_some}
use Rattle.std.specs.List.{filter, range_with_len}
use Rattle.histar_flat.specs.Words.{ProcName}
use Rattle.histar_flat.specs.Classes.{Process}
use Rattle.histar_layout.specs.declared.status.Child.{Child as Listed}
use Rattle.histar_layout.specs.Status.{status_bytes}
use Rattle.histar_refinement.specs.Addresses.{AddressNumbers, home_address}
use Rattle.histar_refinement.specs.Addresses.Step.{Status, Inside, Runner}
use Rattle.histar_refinement.specs.Processes.{or_zero, status_by, process_bytes}

pub alike_status : (processes others : ProcName → Option Process) (number numbers : AddressNumbers) (q : ProcName) (x : Process)
    → number (Inside ∷ home_address q) ≡ numbers (Inside ∷ home_address q)
    → number (Runner ∷ Inside ∷ home_address q) ≡ numbers (Runner ∷ Inside ∷ home_address q)
    → ((k : ℕ) → number (home_address (k ∷ q)) ≡ numbers (home_address (k ∷ q)))
    → ((k : ℕ) → number (Status ∷ home_address (k ∷ q)) ≡ numbers (Status ∷ home_address (k ∷ q)))
    → ((k : ℕ) → is_some (processes (k ∷ q)) ≡ is_some (others (k ∷ q)))
    → status_by processes number q x ≡ status_by others numbers q x
alike_status processes others number numbers q x inside runner home status there = λ i. record {
  exited = x.exited;
  born = x.born;
  internal = or_zero (inside i);
  thread = or_zero (runner i);
  children =
      map {B = Listed} (λ k. record { number = k; container = or_zero (home k i); segment = or_zero (status k i) })
      (filter (λ k. there k i) (range_with_len 1 x.born));
}

-- they give the process segment the same bytes
pub alike_bytes : (processes others : ProcName → Option Process) (number numbers : AddressNumbers) (q : ProcName) (x : Process)
    → number (Inside ∷ home_address q) ≡ numbers (Inside ∷ home_address q)
    → number (Runner ∷ Inside ∷ home_address q) ≡ numbers (Runner ∷ Inside ∷ home_address q)
    → ((k : ℕ) → number (home_address (k ∷ q)) ≡ numbers (home_address (k ∷ q)))
    → ((k : ℕ) → number (Status ∷ home_address (k ∷ q)) ≡ numbers (Status ∷ home_address (k ∷ q)))
    → ((k : ℕ) → is_some (processes (k ∷ q)) ≡ is_some (others (k ∷ q)))
    → process_bytes processes number q x ≡ process_bytes others numbers q x
alike_bytes processes others number numbers q x inside runner home status there =
    ap status_bytes (alike_status processes others number numbers q x inside runner home status there)
