-- The result of taking a right line.
use Rattle.std.proofs.Common.{◌≡◌, ℕ, true, false, List, Option, Some, None, Result, Ok, Err, refl, ap, ◌∙◌}
use Rattle.std.specs.Prelude.{is_some, IfErr, OnOk}
use Rattle.std.specs.Option.{option_and_then}
use Rattle.histar_script.specs.declared.fault.Fault.{Fault}
use Rattle.histar_script.specs.declared.fault.Fault.TheVariants.{BadScript, TooLong, OutOfMemory, ReadFailed, WriteFailed}
use Rattle.histar_script.specs.declared.items.Item.{Item}
use Rattle.histar_script.specs.Outcome.{GivesNext}
use Rattle.histar_script.specs.Script.{ScriptModel}
use Rattle.histar_script.specs.Reading.{item_of, with_item, with_line}
use Rattle.histar_lint.specs.Session.{IsMemory}

-- a right line has an item
pub says_something : (s : ScriptModel) (n : ℕ) (line : List ℕ) → is_some (with_line s n line) ≡ true → item_of line ≡ None → ⊥
unfolding with_line
says_something s n line right none =
    let wrong : is_some (with_line s n line) ≡ false = ap (λ (o : Option Item). is_some (option_and_then (λ i. with_item s n i) o)) none in
    absurd cc

-- the script after a line with this item
pub line_is : (s : ScriptModel) (n : ℕ) (line : List ℕ) (item : Item) → item_of line ≡ Some item → with_line s n line ≡ with_item s n item
unfolding with_line
line_is s n line item is = ap (option_and_then (λ i. with_item s n i)) is

-- it is taken, unless memory runs out
pub is_taken : (n : ℕ) (result : Result (Unit {0}) Fault) (new : ScriptModel) (item line : Option ScriptModel)
    → line ≡ item → GivesNext n result new item → OnOk result (line ≡ Some new)
is_taken n (Ok u) new item line same gives = same ∙ gives
is_taken n (Err e) new item line same gives = tt

pub is_memory : (n : ℕ) (result : Result (Unit {0}) Fault) (new : ScriptModel) (item line : Option ScriptModel)
    → line ≡ item → is_some line ≡ true → GivesNext n result new item → IfErr result IsMemory
is_memory n (Ok u) new item line same right gives = tt
is_memory n (Err (BadScript k)) new item line same right gives = let wrong : is_some line ≡ false = ap is_some (same ∙ gives.1) in absurd cc
is_memory n (Err OutOfMemory) new item line same right gives = refl
is_memory n (Err TooLong) new item line same right gives = absurd gives
is_memory n (Err ReadFailed) new item line same right gives = absurd gives
is_memory n (Err WriteFailed) new item line same right gives = absurd gives
