-- The warnings on a script, one after another.
use Rattle.std.proofs.Common.{◌≡◌, ℕ, suc, ◌+◌, ◌<◌, List, [], ◌∷◌, ◌++◌, Option}
use Rattle.std.proofs.Common.{length, drop, get_or, sym, ap, ◌∙◌, arith, append_assoc, subst}
use Rattle.std.specs.Option.{option_to_list}
use Rattle.std.proofs.Math.Seq.{drop-cons}
use Rattle.histar_flat.specs.Words.{ProcName}
use Rattle.histar_policy.specs.declared.names.Names.{Names}
use Rattle.histar_policy.specs.declared.notes.Note.{Note}
use Rattle.histar_policy.specs.declared.warnings.Known.{Known}
use Rattle.histar_policy.specs.declared.written.Written.{Written}
use Rattle.histar_policy.specs.Names.{Adds, AreNames}
use Rattle.histar_policy.specs.Sets.{AreUsed, IsSentence, IsWritingSentence, Knows, Warns}
use Rattle.histar_policy.specs.Warnings.{child_of, warning_line, warning_lines, warnings_from, warnings_text, with_child}
use Rattle.histar_policy.specs.Writes.{AreWrites}
use Rattle.histar_policy.proofs.Used.{added}

-- the two warnings that a call line may have were added, one after the other
pub both_added : (known : Known) (file : List ℕ) (note : Note) (first second : Option (List ℕ)) (old mid new : List ℕ)
    → IsSentence known note.process note.event first → mid ≡ old ++ warning_line file note.line first
    → IsWritingSentence known note.event second → new ≡ mid ++ warning_line file note.line second
    → Warns known file note old new
both_added known file note first second old mid new one one_line two two_line script started knows =
    two_line ∙ ap (λ (l : List ℕ). l ++ warning_line file note.line second) one_line
    ∙ append_assoc old (warning_line file note.line first) (warning_line file note.line second)
    ∙ (λ i. old ++ (warning_line file note.line (one script started knows i) ++ warning_line file note.line (two script started knows i)))

-- the warnings on the first n call lines were written
pub record IsAt (file : List ℕ) (script : List Note) (n : ℕ) (known : Known) (text : List ℕ) : Type 0 where
  pub started : List ProcName
  pub knows : Knows known script started
  pub is : warnings_text file script ≡ text ++ warnings_from file script started (drop n script)

-- at the start process 0 is there, and nothing was written
pub at_start : (file : List ℕ) (script : List Note) (none begun used : Names) (written : Written) {zero : ProcName} (text : List ℕ)
    → text ≡ [] → AreNames none [] → zero ≡ [] → Adds none begun (zero ∷ []) → AreUsed used script → AreWrites written script
    → IsAt file script 0 (record { started = begun; used = used; written = written }) text
at_start file script none begun used written {zero} text empty no_name first adds are writes = record {
  started = [] ∷ [];
  knows = record {
    begun = subst (λ (p : ProcName). AreNames begun (p ∷ [])) first (added none begun [] (zero ∷ []) no_name adds);
    used = are;
    written = writes;
  };
  is = ap (λ (l : List ℕ). l ++ warnings_text file script) (sym empty);
}

module _ (file : List ℕ) (script : List Note) (n : ℕ) (old new : Known) (text after : List ℕ) (note : Note) where
  -- one more call line
  pub went_on : IsAt file script n old text → n < length script → note ≡ get_or script n note → Warns old file note text after
      → new.used ≡ old.used → new.written ≡ old.written → Adds old.started new.started (option_to_list (child_of note.event))
      → IsAt file script (n + 1) new after
  went_on at more here warns same same_writes adds =
      let next : suc n ≡ n + 1 = omega arith in
      let split : drop n script ≡ note ∷ drop (n + 1) script =
      drop-cons script n note more ∙ (λ i. sym here i ∷ drop (next i) script) in
      let lines = warning_lines file script at.started note in
      let now = with_child at.started note.event in
      record {
        started = now;
        knows = record {
          begun = added old.started new.started at.started (option_to_list (child_of note.event)) at.knows.begun adds;
          used = subst (λ (u : Names). AreUsed u script) (sym same) at.knows.used;
          written = subst (λ (w : Written). AreWrites w script) (sym same_writes) at.knows.written;
        };
        is = at.is ∙ ap (λ (l : List Note). text ++ warnings_from file script at.started l) split
            ∙ sym (append_assoc text lines (warnings_from file script now (drop (n + 1) script)))
            ∙ ap (λ (l : List ℕ). l ++ warnings_from file script now (drop (n + 1) script)) (sym (warns script at.started at.knows));
      }
