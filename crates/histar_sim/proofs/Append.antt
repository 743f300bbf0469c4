-- The program of `append` refines its rule.
use Rattle.std.proofs.Common.{ℕ, List, [], ◌∷◌, ◌++◌, refl, ap}
use Rattle.std.proofs.lemmas.List.{take_all}
use Rattle.std.specs.Prelude.{nat_le, length}
use Rattle.histar_base.specs.Refusals.{◌orelse◌, unless}
use Rattle.histar_flat.specs.declared.calls.UnixCall.TheVariants as calls
use Rattle.histar_flat.specs.Words.{Path, ProcName}
use Rattle.histar_flat.specs.Accounts.{Accounts}
use Rattle.histar_flat.specs.Classes.{Process}
use Rattle.histar_flat.specs.FlatState.{Flat, bytes_at}
use Rattle.histar_flat.specs.FlatCalls.{most_bytes}
use Rattle.histar_reasons.specs.Reasons.{not_written}
use Rattle.histar_reasons.specs.Reasons.Reason.{IsTooLong}
use Rattle.histar_calls.specs.Append.{append_program}
use Rattle.histar_sim.specs.Laws.{AppendRefines}
use Rattle.histar_sim.proofs.CallErrors.{from_each}
use Rattle.histar_sim.proofs.Files.{WritesFile, slash_is_no_file, writing_step}

-- then the file has the new bytes after its old ones
append_writes : (accounts : Accounts) (f : Flat) (me : ProcName) (p : Process) (q : Path) (bytes : List ℕ)
    → WritesFile accounts f me p q (calls.Append q bytes) (bytes_at f q ++ bytes) most_bytes bytes
append_writes accounts f me p q bytes =
    record {
      reaches = record {
        refuses = refl;
        named =
            not_written accounts f p q
            orelse unless (nat_le (length (bytes_at f q ++ bytes)) most_bytes) (IsTooLong q (length (bytes_at f q ++ bytes)));
        explains = refl;
        reads = λ s reply entries walk. walk;
        asks = λ s l. refl;
      };
      names = refl;
      changes = refl;
      answers = refl;
    }

-- the program of `append` refines its rule
pub append_refines : {M : Type 0} → AppendRefines M
unfolding append_program
append_refines {M} accounts ok [] bytes me old new f t result ready run =
    from_each M accounts f me (calls.Append [] bytes) old new t result ready (λ ready.
    slash_is_no_file accounts old new f me t ready (calls.Append [] bytes) result _ _
    (append_writes accounts f me ready.caller.process [] bytes).reaches _ run)
append_refines {M} accounts ok (m ∷ d) bytes me old new f t result ready run =
    from_each M accounts f me (calls.Append (m ∷ d) bytes) old new t result ready (λ ready.
    writing_step accounts ok old new f me t ready m d (calls.Append (m ∷ d) bytes) result most_bytes bytes
    (bytes_at f (m ∷ d) ++ bytes) (append_writes accounts f me ready.caller.process (m ∷ d) bytes)
    (λ few. ap (λ (xs : List ℕ). xs ++ bytes) (take_all most_bytes (bytes_at f (m ∷ d)) few)) run)
