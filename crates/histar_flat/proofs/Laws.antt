-- Laws of one call and of the meaning.
use Rattle.std.specs.Prelude.{◌≡◌, List, [], ◌∷◌, ◌++◌, map, None, refl}
use Rattle.std.proofs.Common.{ap}
use Rattle.histar_flat.specs.declared.calls.CallLine.{CallLine}
use Rattle.histar_flat.specs.declared.calls.UnixCall.{UnixCall}
use Rattle.histar_flat.specs.declared.replies.Reply.TheVariants.{Gone}
use Rattle.histar_flat.specs.Words.{ProcName}
use Rattle.histar_flat.specs.Accounts.{Accounts}
use Rattle.histar_flat.specs.FlatState.{Flat}
use Rattle.histar_flat.specs.FlatCalls.{running, reply_by, flat_by, reply_to, flat_after}
use Rattle.histar_flat.specs.Meaning.{RepliedCall, answered_from, flat_end, meaning, boot}

module _ (accounts : Accounts) where
  -- A process that does not run is answered `gone`, and changes nothing.
  pub not_running_is_gone : (f : Flat) (me : ProcName) (call : UnixCall) → running f me ≡ None
      → (reply_to accounts f me call ≡ Gone) × (flat_after accounts f me call ≡ f)
  not_running_is_gone f me call h = (ap (λ r. reply_by accounts f me r call) h, ap (λ r. flat_by accounts f me r call) h)

  -- There is one reply for each call line, in the order of the lines.
  pub replies_in_order : (f : Flat) (calls : List CallLine) → map (λ (a : RepliedCall). a.call) (answered_from accounts f calls) ≡ calls
  replies_in_order f [] = refl
  replies_in_order f (c ∷ calls) = ap (λ (l : List CallLine). c ∷ l) (replies_in_order (flat_after accounts f c.process c.call) calls)

  -- The reply to a line depends only on the lines before it: later lines are answered from the state that these leave.
  pub replies_go_on : (f : Flat) (first later : List CallLine)
      → answered_from accounts f (first ++ later)
      ≡ answered_from accounts f first ++ answered_from accounts (flat_end accounts f first) later
  replies_go_on f [] later = refl
  replies_go_on f (c ∷ first) later =
      ap (λ (l : List RepliedCall). record { call = c; reply = reply_to accounts f c.process c.call } ∷ l)
      (replies_go_on (flat_after accounts f c.process c.call) first later)

  -- The state after later lines is the one from the state that the first lines leave.
  pub states_go_on : (f : Flat) (first later : List CallLine)
      → flat_end accounts f (first ++ later) ≡ flat_end accounts (flat_end accounts f first) later
  states_go_on f [] later = refl
  states_go_on f (c ∷ first) later = states_go_on (flat_after accounts f c.process c.call) first later

  -- A script means one reply for each call line, in the order of the lines.
  pub one_reply_a_line : (calls : List CallLine) → map (λ (a : RepliedCall). a.call) (meaning accounts calls) ≡ calls
  one_reply_a_line calls = replies_in_order (boot accounts) calls
