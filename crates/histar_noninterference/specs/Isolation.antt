-- What a job can't change outside itself.
use Rattle.std.specs.Prelude.{◌≡◌, ℕ, Bool, true, false, ◌&&◌, not, cond, List, [], ◌∷◌, Option, None, filter}
use Rattle.std.specs.List.{list_all}
use Rattle.histar_flat.specs.declared.calls.CallLine.{CallLine}
use Rattle.histar_flat.specs.declared.calls.UnixCall.{UnixCall}
use Rattle.histar_flat.specs.declared.calls.UnixCall.TheVariants.{Rmdir, Wrap}
use Rattle.histar_flat.specs.Words.{ProcName}
use Rattle.histar_base.specs.Paths.{same}
use Rattle.histar_flat.specs.PathOrder.{parent}
use Rattle.histar_flat.specs.Accounts.{Accounts}
use Rattle.histar_flat.specs.Meaning.{RepliedCall, meaning, without}
use Rattle.histar_noninterference.specs.Comparison.{first_line, is_wrap_reply, starts, verdict}
use Rattle.histar_noninterference.specs.declared.verdict.Verdict.TheVariants.{Same}

-- the replies after the one that started the job
abbrev pub after_start : ProcName → List RepliedCall → List RepliedCall
after_start job [] = []
after_start job (a ∷ as') = cond (is_wrap_reply job a.call.call a.reply) as' (after_start job as')

-- a `rmdir` or a `wrap`, by which the process that started a job can reveal it to others
abbrev pub is_rmdir_or_wrap : UnixCall → Bool
is_rmdir_or_wrap (Rmdir q) = true
is_rmdir_or_wrap (Wrap q) = true
is_rmdir_or_wrap _ = false

-- the process that started the job calls one of these two
abbrev pub may_reveal : ProcName → RepliedCall → Bool
may_reveal job a = same (parent job) a.call.process && is_rmdir_or_wrap a.call.call

-- it calls neither of them
abbrev pub is_quiet : ProcName → List RepliedCall → Bool
is_quiet job = list_all (λ (a : RepliedCall). not (may_reveal job a))

-- such calls after the one that started the job, with their replies
abbrev pub revealing : ProcName → List RepliedCall → List RepliedCall
revealing job as' = filter (may_reveal job) (after_start job as')

-- the number of the first of these lines that is answered otherwise without the lines of the job
abbrev pub first_release : Accounts → List CallLine → ProcName → Option ℕ
first_release accounts calls job = first_line (revealing job (meaning accounts calls)) (revealing job (meaning accounts (without job calls)))

-- if a `wrap` started a job, and each later `rmdir` and `wrap` of its caller is answered alike without the job, the job changes nothing
-- outside: so if the verdict is not `same`, `first_release` is the line that revealed it
abbrev pub OnlyReleasesDiffer : Type 0
OnlyReleasesDiffer = (accounts : Accounts) (calls : List CallLine) (job : ProcName)
    → starts job (meaning accounts calls) ≡ true
    → first_release accounts calls job ≡ None
    → verdict accounts calls job ≡ Same

-- if a `wrap` started a job, and its caller calls no `rmdir` and no `wrap` after that, the job changes nothing outside
abbrev pub IsolatesJobs : Type 0
IsolatesJobs = (accounts : Accounts) (calls : List CallLine) (job : ProcName)
    → starts job (meaning accounts calls) ≡ true
    → is_quiet job (after_start job (meaning accounts calls)) ≡ true
    → verdict accounts calls job ≡ Same
