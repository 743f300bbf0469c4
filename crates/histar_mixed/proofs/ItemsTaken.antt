-- What the item of a line adds to a script.
use Rattle.std.proofs.Common.{◌≡◌, ℕ, Bool, true, false, List, Option, None, Some, Err, refl, sym, ap, ◌∙◌}
use Rattle.std.specs.Prelude.{if◌then◌else◌}
use Rattle.histar_script.specs.declared.fault.Fault.{Fault}
use Rattle.histar_script.specs.declared.fault.Fault.TheVariants.{BadScript, TooLong, OutOfMemory, ReadFailed, WriteFailed}
use Rattle.histar_script.specs.declared.items.Item.{Item}
use Rattle.histar_script.specs.declared.items.Item.TheVariants as lines
use Rattle.histar_script.specs.Outcome.{GivesNext}
use Rattle.histar_script.specs.Reading.{item_of, takes_call, takes_group, takes_user, with_item, with_line, ◌>>=◌}
use Rattle.histar_script.specs.Script.{ScriptModel}
use Rattle.histar_mixed.specs.Mixed.{IsLineFault, is_call}
use Rattle.histar_mixed.specs.Taking.{AddsCall}

-- the script that is given where a test passes
given : (b : Bool) (s t : ScriptModel) → (if b then Some s else None) ≡ Some t → s ≡ t
given true s t e = cc
given false s t e = absurd cc

-- an item with a call adds it, and another one adds none
pub adds_call : (s : ScriptModel) (n : ℕ) (i : Item) (t : ScriptModel) → with_item s n i ≡ Some t → AddsCall (is_call i) n s.calls t.calls
unfolding with_item
adds_call s n lines.Comment t e = let same : s ≡ t = cc in ap (λ (x : ScriptModel). x.calls) (sym same)
adds_call s n (lines.User u) t e = ap (λ (x : ScriptModel). x.calls) (sym (given (takes_user s u) _ t e))
adds_call s n (lines.Group g) t e = ap (λ (x : ScriptModel). x.calls) (sym (given (takes_group s g) _ t e))
adds_call s n (lines.Call p c) t e = (
  record { line = n; process = p; call = c },
  refl,
  ap (λ (x : ScriptModel). x.calls) (sym (given (takes_call s c) _ t e)),
)

-- a line by its item
pub line_taken : (s : ScriptModel) (n : ℕ) (line : List ℕ) (i : Item) (o : Option ScriptModel) → item_of line ≡ Some i → with_item s n i
    ≡ o
    → with_line s n line ≡ o
unfolding with_line
line_taken s n line i o is taken = ap (λ (x : Option Item). x >>= λ j. with_item s n j) is ∙ taken

pub line_lost : (s : ScriptModel) (n : ℕ) (line : List ℕ) → item_of line ≡ None → with_line s n line ≡ None
unfolding with_line
line_lost s n line is = ap (λ (x : Option Item). x >>= λ j. with_item s n j) is

-- the fault of an item that can't be added
pub fault_of : (n : ℕ) (new : ScriptModel) (next : Option ScriptModel) (f : Fault) → GivesNext {A = Unit {0}} n (Err f) new next
    → IsLineFault n (next ≡ None) f
fault_of n new next (BadScript k) gives = gives
fault_of n new next TooLong gives = gives
fault_of n new next OutOfMemory gives = tt
fault_of n new next ReadFailed gives = gives
fault_of n new next WriteFailed gives = gives
