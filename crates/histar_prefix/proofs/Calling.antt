-- What a machine represents after calls.
use Rattle.std.proofs.Common.{◌≡◌, ℕ, true, false, List, [], ◌∷◌, ◌++◌, Option, Ok, sym, ap, ◌∙◌, subst, append-nil, arith}
use Rattle.std.proofs.lemmas.List.Elements.{filter-append}
use Rattle.histar_flat.specs.declared.calls.CallLine.{CallLine}
use Rattle.histar_flat.specs.declared.calls.UnixCall.{UnixCall}
use Rattle.histar_flat.specs.declared.replies.Reply.{Reply}
use Rattle.histar_flat.specs.Words.{ProcName}
use Rattle.histar_flat.specs.Meaning.{boot, flat_end}
use Rattle.histar_flat.proofs.Laws.{states_go_on}
use Rattle.histar_script.specs.Script.{ScriptModel}
use Rattle.histar_script.specs.Reading.{script_of}
use Rattle.histar_rights.proofs.Named.{processes_are_named}
use Rattle.histar_shell.specs.Machine.{MachineModel}
use Rattle.histar_shell.specs.Meaning.{FollowsMeaning, Shows, ShowsStart}
use Rattle.histar_prefix.specs.Prefix.{IsMachineOf, ShowsAfter, calls_before, is_before}

-- the machine represents the flat state after one call
pub after_call : (old new : MachineModel) (line : ℕ) (process : ProcName) (call : UnixCall) (reply : Reply)
    → FollowsMeaning (Unit {0}) old new line process call (Ok reply)
    → ShowsAfter old new (record { line = line; process = process; call = call } ∷ [])
after_call old new line process call reply means accounts f shows = (means accounts f shows).shows

-- the calls before a line, with one more after them
before_more : (at : Option ℕ) (calls : List CallLine) (c : CallLine) (more : List CallLine) → calls_before at (c ∷ []) ≡ more
    → calls_before at (calls ++ c ∷ []) ≡ calls_before at calls ++ more
before_more at calls c more is = filter-append (λ (d : CallLine). is_before at d.line) calls (c ∷ [])
    ∙ ap (λ (l : List CallLine). calls_before at calls ++ l) is

-- one more call was made
pub made_more : (at : Option ℕ) (first mid new : MachineModel) (calls : List CallLine) (c : CallLine) → is_before at c.line ≡ true
    → ShowsAfter first mid (calls_before at calls) → ShowsAfter mid new (c ∷ [])
    → ShowsAfter first new (calls_before at (calls ++ c ∷ []))
made_more at first mid new calls c before earlier later accounts f shows =
    let one : calls_before at (c ∷ []) ≡ c ∷ [] = grind (arith, before) in
    subst (Shows accounts new) (sym (ap (flat_end accounts f) (before_more at calls c (c ∷ []) one)
    ∙ states_go_on accounts f (calls_before at calls) (c ∷ [])))
    (later accounts (flat_end accounts f (calls_before at calls)) (earlier accounts f shows))

-- one more call is not made
pub left_more : (at : Option ℕ) (first mid : MachineModel) (calls : List CallLine) (c : CallLine) → is_before at c.line ≡ false
    → ShowsAfter first mid (calls_before at calls) → ShowsAfter first mid (calls_before at (calls ++ c ∷ []))
left_more at first mid calls c before earlier accounts f shows =
    let none : calls_before at (c ∷ []) ≡ [] = grind (arith, before) in
    subst (λ (cs : List CallLine). Shows accounts mid (flat_end accounts f cs)) (sym (before_more at calls c [] none
    ∙ append-nil (calls_before at calls))) (earlier accounts f shows)

-- a machine that was booted for a script and made its calls represents the flat state after them
pub machine_of : (at : Option ℕ) (text : List ℕ) (script : ScriptModel) → script_of text ≡ Ok script → (start end : MachineModel)
    → ShowsStart script.accounts start → ShowsAfter start end (calls_before at script.calls) → IsMachineOf at text end
machine_of at text script given start end starts after = record {
  script = script;
  is_read = given;
  shows = after script.accounts (boot script.accounts) starts;
  named = processes_are_named script.accounts (calls_before at script.calls);
}
