-- Machines that answer the calls that are tried, and faults that end a trial.
use Rattle.std.proofs.Common.{◌≡◌, ℕ, Bool, true, false, List, [], ◌∷◌, ◌++◌, Option, None, Some, Err, codes}
use Rattle.std.proofs.Common.{inl, refl, sym, ap, ap₂, ◌∙◌, subst, append_assoc, append-nil}
use Rattle.std.specs.Prelude.{decimal, nat_lt, if◌then◌else◌, slice_index_or, ◌-◌}
use Rattle.std.specs.Io.KnownBytes.{Keeps}
use Rattle.histar_flat.specs.declared.calls.CallLine.{CallLine}
use Rattle.histar_flat.specs.Accounts.{Accounts}
use Rattle.histar_flat.specs.FlatState.{Flat}
use Rattle.histar_flat.specs.FlatCalls.{flat_after, reply_to}
use Rattle.histar_flat.specs.Meaning.{boot, flat_end}
use Rattle.histar_flat.specs.Texts.{reply_text}
use Rattle.histar_flat.proofs.Laws.{states_go_on}
use Rattle.histar_script.specs.declared.fault.Fault.{Fault}
use Rattle.histar_script.specs.declared.fault.Fault.TheVariants.{BadScript, TooLong, OutOfMemory, ReadFailed, WriteFailed}
use Rattle.histar_script.specs.Outcome.{Gives}
use Rattle.histar_script.specs.Reading.{script_of}
use Rattle.histar_script.specs.Script.{ScriptModel}
use Rattle.histar_shell.specs.Machine.{MachineModel}
use Rattle.histar_why.specs.declared.session.Log.{Log}
use Rattle.histar_why.specs.Answering.{AnswersWithReason, why_line}
use Rattle.histar_why.specs.Names.{Knows}
use Rattle.histar_transcript.specs.declared.tried.Said.{Said}
use Rattle.histar_transcript.specs.Transcript.{call_and_reply}
use Rattle.histar_transcript.specs.TrySession.{Tries}
use Rattle.histar_transcript.specs.Tried.{AddsReplies, line_behind, lines_behind, tried_line, tried_text}

module _ (first : ℕ) (lines : List (List ℕ)) where
  -- ---- one call

  module _ (old new : MachineModel) (from to : Log) (c : CallLine) (answer : List ℕ)
      (answers : AnswersWithReason old new from to c answer) (before after : Said)
      (births : before.log.births.items ≡ from.births.items) (logged : after.log ≡ to) where
    -- what is printed of it was added
    added : ((accounts : Accounts) (f : Flat) → Knows from.births.items accounts old f
        → after.text.items ≡ before.text.items ++ line_behind first lines accounts f c)
        → AddsReplies first lines old new before after (c ∷ [])
    added each = record {
      each = λ accounts f known.
          let here = subst (λ b. Knows b accounts old f) births known in (
            each accounts f here
                ∙ ap (λ (l : List ℕ). before.text.items ++ l) (sym (append-nil (line_behind first lines accounts f c))),
            subst (λ (log : Log). Knows log.births.items accounts new (flat_after accounts f c.process c.call)) (sym logged)
                (answers accounts f here).knows,
          );
    }

    -- the call is on one of the first lines
    pub hidden : nat_lt first c.line ≡ false → after.text.items ≡ before.text.items → AddsReplies first lines old new before after (c ∷ [])
    hidden front same =
        added (λ accounts f known.
        same ∙ sym (append-nil before.text.items)
        ∙ ap (λ (b : Bool). before.text.items ++ (if b then tried_line lines accounts f c else [])) (sym front))

    -- the reply in its answer, and what was logged of it, were added
    pub shown : from.text.items ≡ [] → nat_lt first c.line ≡ true → (mid : List ℕ)
        → ((reply : List ℕ) → answer ≡ decimal c.line ++ codes " " ++ reply
        → mid ≡ before.text.items ++ call_and_reply lines c.line reply)
        → after.text.items ≡ mid ++ to.text.items → AddsReplies first lines old new before after (c ∷ [])
    shown empty behind mid pushed is = added each
      where
        each : (accounts : Accounts) (f : Flat) → Knows from.births.items accounts old f
            → after.text.items ≡ before.text.items ++ line_behind first lines accounts f c
        each accounts f known =
            let a = answers accounts f known in
            let said = reply_text (reply_to accounts f c.process c.call) in
            let parts = pushed (said ++ codes "\n") (a.reply ∙ append_assoc (decimal c.line ++ codes " ") said (codes "\n")) in
            let front = decimal c.line ++ codes "  " ++ slice_index_or lines (c.line - 1) [] ++ codes "  " in
            let why = a.why ∙ ap (λ (l : List ℕ). l ++ why_line accounts f c) empty in
            is
            ∙ ap₂ (λ (k l : List ℕ). k ++ l)
            (parts ∙ ap (λ (l : List ℕ). before.text.items ++ l) (sym (append_assoc front said (codes "\n")))) why
            ∙ append_assoc before.text.items (call_and_reply lines c.line said ++ 10 ∷ []) (why_line accounts f c)
            ∙ ap (λ (b : Bool). before.text.items ++ (if b then tried_line lines accounts f c else [])) (sym behind)

  -- ---- calls one after another

  -- what is printed of one call more
  lines_on : (accounts : Accounts) (f : Flat) (calls : List CallLine) (c : CallLine)
      → lines_behind first lines accounts f (calls ++ c ∷ [])
      ≡ lines_behind first lines accounts f calls ++ lines_behind first lines accounts (flat_end accounts f calls) (c ∷ [])
  lines_on accounts f [] c = refl
  lines_on accounts f (d ∷ calls) c =
      let next = flat_after accounts f d.process d.call in
      ap (λ (l : List ℕ). line_behind first lines accounts f d ++ l) (lines_on accounts next calls c)
      ∙ sym (append_assoc (line_behind first lines accounts f d) (lines_behind first lines accounts next calls)
      (lines_behind first lines accounts (flat_end accounts next calls) (c ∷ [])))

  -- no call was made
  pub no_calls : (m : MachineModel) (said : Said) → AddsReplies first lines m m said said []
  no_calls m said = record { each = λ accounts f known. (sym (append-nil said.text.items), known) }

  -- one call more was made
  pub more_calls : (old mid new : MachineModel) (before between after : Said) (calls : List CallLine) (c : CallLine)
      → AddsReplies first lines old mid before between calls → AddsReplies first lines mid new between after (c ∷ [])
      → AddsReplies first lines old new before after (calls ++ c ∷ [])
  more_calls old mid new before between after calls c earlier later = record {
    each = λ accounts f known.
        let one = earlier.each accounts f known in
        let two = later.each accounts (flat_end accounts f calls) one.1 in
        let last = lines_behind first lines accounts (flat_end accounts f calls) (c ∷ []) in (
          two.0 ∙ ap (λ (l : List ℕ). l ++ last) one.0 ∙ append_assoc before.text.items (lines_behind first lines accounts f calls) last
              ∙ ap (λ (l : List ℕ). before.text.items ++ l) (sym (lines_on accounts f calls c)),
          subst (Knows after.log.births.items accounts new) (sym (states_go_on accounts f calls (c ∷ []))) two.1,
        );
  }

  -- ---- the calls of a script

  -- the calls of the script were made, and what is printed of them was said
  pub all_tried : (start end : MachineModel) (before after : Said) (script : ScriptModel) (calls : List CallLine) → calls ≡ script.calls
      → Knows [] script.accounts start (boot script.accounts) → before.log.births.items ≡ [] → before.text.items ≡ []
      → AddsReplies first lines start end before after calls → after.text.items ≡ tried_text first lines script
  all_tried start end before after script calls same known births text adds =
      (adds.each script.accounts (boot script.accounts)
      (subst (λ b. Knows b script.accounts start (boot script.accounts)) (sym births) known)).0
      ∙ ap₂ (λ (l : List ℕ) (cs : List CallLine). l ++ lines_behind first lines script.accounts (boot script.accounts) cs) text same

-- known bytes stay as they are
same_bytes : (known : Option (List ℕ)) → Keeps known known
same_bytes None = tt
same_bytes (Some bytes) = refl

-- a text that is no script is not tried
pub no_script : (at : Option ℕ) (calls : List (List ℕ)) (text : List ℕ) (written : Option (List ℕ)) (fault : Fault)
    → Gives {A = ScriptModel} (Err fault) (script_of text) → Tries at calls text written written (Err fault)
no_script at calls text written (BadScript n) gives = (gives, same_bytes written)
no_script at calls text written TooLong gives = (inl gives, same_bytes written)
no_script at calls text written OutOfMemory gives = same_bytes written
no_script at calls text written ReadFailed gives = absurd gives
no_script at calls text written WriteFailed gives = absurd gives
