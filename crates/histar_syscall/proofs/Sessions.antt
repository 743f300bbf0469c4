-- Raw calls of several threads, composed call by call.
use Rattle.std.proofs.Common.{◌≡◌, ℕ, ◌+◌, ◌<◌, ◌≤◌, Result, Ok, Err, OnErr, List, [], ◌∷◌, ◌++◌, length, take, get_or, sym, ap, ◌∙◌, subst, add-one}
use Rattle.std.proofs.Math.Seq.{take-suc}
use Rattle.histar_container.proofs.Removals.{take_all}
use Rattle.histar_rules.specs.declared.raw.RawCall.{RawCall}
use Rattle.histar_syscall.specs.Runs.{IsMade, MadeAll}
use Rattle.histar_syscall.specs.KernelModel.{KernelModel, IsUnchanged}
use Rattle.histar_syscall.proofs.Runs.{same_kernel, still_same, call_after}

-- no calls leave the kernel as it is
pub all_none : (k : KernelModel) → MadeAll k [] k
unfolding MadeAll
all_none k = same_kernel k

-- one more call may be made
pub all_more : (old mid new : KernelModel) (calls : List (ℕ × RawCall)) (asked : ℕ × RawCall) → MadeAll old calls mid
    → IsMade mid asked.0 asked.1 new → MadeAll old (calls ++ asked ∷ []) new
unfolding MadeAll
all_more old mid new [] asked none made = (new, (made.0, call_after old mid new asked.0 asked.1 made.0 none made.1), same_kernel new)
all_more old mid new (first ∷ calls) asked all made = (all.0, all.1, all_more all.0 mid new calls asked all.2 made)

-- a kernel that stays as it was has made the same calls
pub all_unchanged : (old mid new : KernelModel) (calls : List (ℕ × RawCall)) → MadeAll old calls mid → IsUnchanged mid new → MadeAll old calls new
unfolding MadeAll
all_unchanged old mid new [] all same = still_same old mid new all same
all_unchanged old mid new (first ∷ calls) all same = (all.0, all.1, all_unchanged all.0 mid new calls all.2 same)

-- the calls before a place were made, and then the one at it
pub all_next : (old mid new : KernelModel) (calls : List (ℕ × RawCall)) (i : ℕ) (asked : ℕ × RawCall) → i < length calls
    → asked ≡ get_or calls i asked → MadeAll old (take i calls) mid → IsMade mid asked.0 asked.1 new
    → MadeAll old (take (i + 1) calls) new
all_next old mid new calls i asked within is all made =
    subst (λ (front : List (ℕ × RawCall)). MadeAll old front new) (sym (ap (λ k. take k calls) (add-one i) ∙ take-suc calls i asked within
    ∙ ap (λ x. take i calls ++ x ∷ []) (sym is))) (all_more old mid new (take i calls) asked all made)

-- all calls were made once the place is after the last
pub all_made : (old new : KernelModel) (calls : List (ℕ × RawCall)) (i : ℕ) → length calls ≤ i
    → MadeAll old (take i calls) new → MadeAll old calls new
all_made old new calls i behind all = subst (λ (front : List (ℕ × RawCall)). MadeAll old front new) (take_all calls i behind) all

-- where memory ran out, the calls before a place were made, and the one at it was not
pub stopped_at : {A E : Type 0} (r : Result A E) (old mid new : KernelModel) (calls : List (ℕ × RawCall)) (i : ℕ)
    → i < length calls → MadeAll old (take i calls) mid → IsUnchanged mid new
    → OnErr r ((made : ℕ) × (made < length calls) × MadeAll old (take made calls) new)
stopped_at (Ok a) old mid new calls i within all same = tt
stopped_at (Err e) old mid new calls i within all same = (i, within, all_unchanged old mid new (take i calls) all same)
