-- Machines that answer calls.
use Rattle.std.proofs.Common.{◌≡◌, List, [], ◌∷◌, ◌++◌, Ok, refl, sym, ap, ◌∙◌, subst, append_assoc}
use Rattle.histar_flat.specs.declared.calls.CallLine.{CallLine}
use Rattle.histar_flat.specs.declared.replies.Reply.{Reply}
use Rattle.histar_flat.specs.Accounts.{Accounts}
use Rattle.histar_flat.specs.FlatCalls.{flat_after}
use Rattle.histar_flat.specs.FlatState.{Flat}
use Rattle.histar_flat.specs.Meaning.{flat_end}
use Rattle.histar_flat.proofs.Laws.{states_go_on}
use Rattle.histar_shell.specs.Machine.{MachineModel}
use Rattle.histar_shell.specs.Meaning.{FollowsMeaning, Shows}
use Rattle.histar_policy.specs.declared.notes.Asked.{Asked}
use Rattle.histar_policy.specs.declared.notes.Event.{Event}
use Rattle.histar_policy.specs.declared.notes.Note.{Note}
use Rattle.histar_policy.specs.Answers.{AddsNotes, IsEvent}
use Rattle.histar_policy.specs.Notes.{asked_of, event_by, note_of, notes_from}

-- a note of a call line
abbrev pub note_with : CallLine → Event → Note
note_with c event = record { line = c.line; process = c.process; event = event }

-- a call was made, and what it says was added
pub after_call : (old new : MachineModel) (before after : List Note) (c : CallLine) (asked : Asked) (reply : Reply) (event : Event)
    → FollowsMeaning (Unit {0}) old new c.line c.process c.call (Ok reply)
    → asked ≡ asked_of c.call → IsEvent new c.process asked reply event → after ≡ before ++ note_with c event ∷ []
    → AddsNotes old new before after (c ∷ [])
after_call old new before after c asked reply event means of_call is_event is accounts f shows =
    let answered = means accounts f shows in
    let said = is_event accounts (flat_after accounts f c.process c.call) answered.shows in (
      answered.shows,
      is ∙ ap (λ (e : Event). before ++ note_with c e ∷ [])
          (said ∙ (λ i. event_by accounts (flat_after accounts f c.process c.call) c.process (of_call i) (answered.is_reply i))),
    )

-- what more call lines say comes after
notes_go_on : (accounts : Accounts) (f : Flat) (calls more : List CallLine)
    → notes_from accounts f (calls ++ more) ≡ notes_from accounts f calls ++ notes_from accounts (flat_end accounts f calls) more
notes_go_on accounts f [] more = refl
notes_go_on accounts f (c ∷ calls) more =
    ap (λ (l : List Note). note_of accounts f c ∷ l) (notes_go_on accounts (flat_after accounts f c.process c.call) calls more)

-- one more call was made
pub more_calls : (old mid new : MachineModel) (before between after : List Note) (calls : List CallLine) (c : CallLine)
    → AddsNotes old mid before between calls → AddsNotes mid new between after (c ∷ []) → AddsNotes old new before after (calls ++ c ∷ [])
more_calls old mid new before between after calls c earlier later accounts f shows =
    let one = earlier accounts f shows in
    let two = later accounts (flat_end accounts f calls) one.0 in
    let first = notes_from accounts f calls in
    let last = notes_from accounts (flat_end accounts f calls) (c ∷ []) in (
      subst (Shows accounts new) (sym (states_go_on accounts f calls (c ∷ []))) two.0,
      two.1 ∙ ap (λ (l : List Note). l ++ last) one.1 ∙ append_assoc before first last
          ∙ ap (λ (l : List Note). before ++ l) (sym (notes_go_on accounts f calls (c ∷ []))),
    )
