-- The program of `write` refines its rule.
use Rattle.std.proofs.Common.{ℕ, List, [], ◌∷◌, refl}
use Rattle.std.specs.Prelude.{nat_le, length}
use Rattle.histar_base.specs.Refusals.{◌orelse◌, unless}
use Rattle.histar_flat.specs.declared.calls.UnixCall.TheVariants as calls
use Rattle.histar_flat.specs.Words.{Path, ProcName}
use Rattle.histar_flat.specs.Accounts.{Accounts}
use Rattle.histar_flat.specs.Classes.{Process}
use Rattle.histar_flat.specs.FlatState.{Flat}
use Rattle.histar_flat.specs.FlatCalls.{most_bytes}
use Rattle.histar_reasons.specs.Reasons.{not_written}
use Rattle.histar_reasons.specs.Reasons.Reason.{IsTooLong}
use Rattle.histar_calls.specs.Write.{write_program}
use Rattle.histar_sim.specs.Laws.{WriteRefines}
use Rattle.histar_sim.proofs.CallErrors.{from_each}
use Rattle.histar_sim.proofs.Files.{WritesFile, slash_is_no_file, writing_step}

-- the file has the new bytes then
write_writes : (accounts : Accounts) (f : Flat) (me : ProcName) (p : Process) (q : Path) (bytes : List ℕ)
    → WritesFile accounts f me p q (calls.Write q bytes) bytes 0 bytes
write_writes accounts f me p q bytes =
    record {
      reaches = record {
        refuses = refl;
        named = not_written accounts f p q orelse unless (nat_le (length bytes) most_bytes) (IsTooLong q (length bytes));
        explains = refl;
        reads = λ s reply entries walk. walk;
        asks = λ s l. refl;
      };
      names = refl;
      changes = refl;
      answers = refl;
    }

-- the program of `write` refines its rule
pub write_refines : {M : Type 0} → WriteRefines M
unfolding write_program
write_refines {M} accounts ok [] bytes me old new f t result ready run =
    from_each M accounts f me (calls.Write [] bytes) old new t result ready (λ ready.
    slash_is_no_file accounts old new f me t ready (calls.Write [] bytes) result _ _
    (write_writes accounts f me ready.caller.process [] bytes).reaches _ run)
write_refines {M} accounts ok (m ∷ d) bytes me old new f t result ready run =
    from_each M accounts f me (calls.Write (m ∷ d) bytes) old new t result ready (λ ready.
    writing_step accounts ok old new f me t ready m d (calls.Write (m ∷ d) bytes) result 0 bytes bytes
    (write_writes accounts f me ready.caller.process (m ∷ d) bytes) (λ few. refl) run)
