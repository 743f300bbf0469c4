-- What follows from the result of `read_script`.
use Rattle.std.proofs.Common.{◌≡◌, ℕ, List, length, Result, Ok, Err, sym, subst, ◌∙◌}
use Rattle.std.specs.Prelude.{IfOk}
use Rattle.histar_script.specs.declared.fault.Fault.{Fault}
use Rattle.histar_script.specs.declared.fault.Fault.TheVariants.{BadScript}
use Rattle.histar_script.specs.Lines.{lines_of}
use Rattle.histar_script.specs.Script.{ScriptModel, IsDeclared, IsNumbered}
use Rattle.histar_script.specs.Reading.{reading}
use Rattle.histar_script.specs.Outcome.{Gives}
use Rattle.histar_script.specs.Grammar.{IsScript, IsFirstBad}
use Rattle.histar_script.proofs.ScriptsBack.{found_from, again_from}
use Rattle.histar_script.proofs.Kept.{is_declared, numbered}
use Rattle.histar_script.proofs.FirstBad.{first_bad}

-- the result of reading a script
abbrev Answer : Type 0
Answer = Result ScriptModel Fault

-- the result for a script that was read
abbrev read_as : ScriptModel → Answer
read_as script = Ok script

-- what is read is a script
pub is_found : (r : Answer) (text : List ℕ) → Gives r (reading text) → IfOk r (IsScript text)
is_found (Ok script) text given = found_from text script given
is_found (Err f) text given = tt

-- a text that is a script is read, unless memory runs out
pub is_read : (r : Answer) (text : List ℕ) (script : ScriptModel) → Gives r (reading text) → IsScript text script → Gives r (Ok script)
is_read r text script given is = subst (Gives r) (again_from text script is) given

-- one result has one script
same_script : (a b : ScriptModel) → read_as a ≡ read_as b → a ≡ b
same_script a b e = cc

-- a text has one reading
pub one_script : (text : List ℕ) (a b : ScriptModel) → IsScript text a → IsScript text b → a ≡ b
one_script text a b p q = same_script a b (sym (again_from text a p) ∙ again_from text b q)

-- a bad line is the first one
pub is_first_bad : (r : Answer) (text : List ℕ) (n : ℕ) → Gives r (reading text) → r ≡ Err (BadScript n) → IsFirstBad text n
is_first_bad r text n given e = first_bad text n (subst (λ (x : Answer). Gives x (reading text)) e given)

-- the users and the groups of a script that was read are declared as the grammar says
pub declares : (r : Answer) (text : List ℕ) → Gives r (reading text) → IfOk r (λ script. IsDeclared script.accounts)
declares (Ok script) text given = is_declared text script (found_from text script given)
declares (Err f) text given = tt

-- the calls of a script that was read are numbered by its lines
pub is_numbered : (r : Answer) (text : List ℕ) → Gives r (reading text) → IfOk r (λ script. IsNumbered (length (lines_of text)) script.calls)
is_numbered (Ok script) text given = numbered text script (found_from text script given)
is_numbered (Err f) text given = tt
