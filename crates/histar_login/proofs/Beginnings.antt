-- The raw calls that boot made where it stops.
use Rattle.std.proofs.Common.{◌≡◌, ℕ, suc, ◌+◌, ◌<◌, List, [], ◌∷◌, ◌++◌, length, take, None, sym, ap, ◌∙◌, subst, arith, append_assoc}
use Rattle.std.proofs.lemmas.List.{length-append, take-append-le}
use Rattle.histar_rules.specs.declared.raw.RawCall.{RawCall}
use Rattle.histar_syscall.specs.KernelModel.{KernelModel, IsUnchanged}
use Rattle.histar_syscall.specs.Runs.{Granted}
use Rattle.histar_syscall.proofs.Runs.{made_unchanged}
use Rattle.histar_programs.specs.Start.{boot_thread_number}
use Rattle.histar_login.specs.Booting.{Part, Boots, HasBegun}

-- boot stops after this many raw calls of a part
pub begun_at : (first old new : KernelModel) (before : List RawCall) (q : Part) (calls : List RawCall) (made : ℕ)
    → Boots first old q → IsUnchanged old new → q.calls ≡ before ++ take made calls → made < length calls
    → HasBegun first new before calls
begun_at first old new before q calls made boots same is few = record {
  made = made;
  few = few;
  granted =
      subst (λ (l : List RawCall). Granted first new boot_thread_number l) is
      (made_unchanged boot_thread_number first old new q.calls None boots.granted same);
}

-- one raw call more after those of a part
pub calls_more : (before made calls : List RawCall) (call : RawCall) → calls ≡ before ++ made → calls ++ call ∷ [] ≡ before ++ (made ++ call ∷ [])
calls_more before made calls call is = ap (λ (l : List RawCall). l ++ call ∷ []) is ∙ append_assoc before made (call ∷ [])

-- a beginning of the first calls is one of more
pub begun_more : (first now : KernelModel) (before calls more : List RawCall) → HasBegun first now before calls
    → HasBegun first now before (calls ++ more)
begun_more first now before calls more begun = record {
  made = begun.made;
  few = omega (arith, begun.few, length-append calls more);
  granted =
      subst (λ (l : List RawCall). Granted first now boot_thread_number (before ++ l))
      (sym (take-append-le begun.made calls more (omega (arith, begun.few)))) begun.granted;
}

-- the front of two lists that has the first
take_behind : (made : ℕ) (done calls : List RawCall) → take (length done + made) (done ++ calls) ≡ done ++ take made calls
take_behind made [] calls =
    let same : length {A = RawCall} [] + made ≡ made = omega arith in
    ap (λ n. take n calls) same
take_behind made (c ∷ done) calls =
    let same : length (c ∷ done) + made ≡ suc (length done + made) = omega arith in
    ap (λ n. take n (c ∷ (done ++ calls))) same ∙ ap (λ (l : List RawCall). c ∷ l) (take_behind made done calls)

-- a beginning of the last calls is one of all
pub begun_after : (first now : KernelModel) (before done calls : List RawCall)
    → HasBegun first now (before ++ done) calls → HasBegun first now before (done ++ calls)
begun_after first now before done calls begun = record {
  made = length done + begun.made;
  few = omega (arith, begun.few, length-append done calls);
  granted =
      subst (λ (l : List RawCall). Granted first now boot_thread_number l)
      (append_assoc before done (take begun.made calls)
      ∙ ap (λ (l : List RawCall). before ++ l) (sym (take_behind begun.made done calls))) begun.granted;
}
