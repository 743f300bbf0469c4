-- How the code of the calls that read or write a file runs its program.
use Rattle.std.proofs.Common.{ℕ, List}
use Rattle.histar_flat.specs.FlatCalls.{most_bytes}
use Rattle.histar_flat.specs.Words.{Path}
use Rattle.histar_flat.specs.declared.replies.Reply.TheVariants.{Data, Done}
use Rattle.histar_rules.specs.declared.raw.RawCall.{RawCall}
use Rattle.histar_rules.specs.declared.raw.RawCall.TheVariants.{Read, Write}
use Rattle.histar_syscall.specs.KernelModel.{KernelModel}
use Rattle.histar_programs.specs.declared.find.FoundFile.{FoundFile}
use Rattle.histar_programs.specs.declared.roots.Roots.{Roots}
use Rattle.histar_programs.specs.Programs.{Program}
use Rattle.histar_programs.specs.Programs.Program.{Answers}
use Rattle.histar_programs.specs.Parts.{ask, find_file}
use Rattle.histar_calls.specs.Append.{append_program}
use Rattle.histar_calls.specs.Read.{read_program}
use Rattle.histar_calls.specs.Write.{write_program}
use Rattle.histar_programs.proofs.Exits.{Leaves}

-- the raw call that reads a file
abbrev pub read_of : FoundFile → RawCall
read_of file = Read file.container file.segment

-- the raw call that writes a file: this many bytes of it are kept
abbrev pub write_of : ℕ → List ℕ → FoundFile → RawCall
write_of kept bytes file = Write file.container file.segment kept bytes

-- what is still to do once the file that is read was found
abbrev pub to_read : FoundFile → Program
to_read file = ask (read_of file) (λ bytes. Answers (Data bytes))

-- what is still to do once the file that is written was found
abbrev pub to_write : ℕ → List ℕ → FoundFile → Program
to_write kept bytes file = ask (write_of kept bytes file) (λ (done : Unit {0}). Answers Done)

module _ (roots : Roots) (path : Path) (t : ℕ) (old : KernelModel) where
  -- at first the whole program is left
  pub read_begun : {M : Type 0} → Leaves M t (read_program roots path) old (find_file roots path to_read) old
  unfolding read_program
  read_begun = record { leads = λ new result on. on }

  pub write_begun : {M : Type 0} → (bytes : List ℕ)
      → Leaves M t (write_program roots path bytes) old (find_file roots path (to_write 0 bytes)) old
  unfolding write_program
  write_begun bytes = record { leads = λ new result on. on }

  pub append_begun : {M : Type 0} → (bytes : List ℕ)
      → Leaves M t (append_program roots path bytes) old (find_file roots path (to_write most_bytes bytes)) old
  unfolding append_program
  append_begun bytes = record { leads = λ new result on. on }
