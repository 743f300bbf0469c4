-- Which calls may change something.
use Rattle.std.specs.Prelude.{Bool, true, false, not, ◌&&◌}
use Rattle.histar_flat.specs.declared.calls.UnixCall.{UnixCall}
use Rattle.histar_flat.specs.declared.replies.Reply.{Reply}
use Rattle.histar_flat.specs.Effects.{Effect}
use Rattle.histar_flat.specs.Effects.Effect.{Nothing}
use Rattle.histar_flat.specs.CallRules.{rule}
use Rattle.histar_rights.specs.Laws.{is_answer}

-- the effect is none
abbrev pub is_none : Effect → Bool
is_none Nothing = true
is_none _ = false

-- the call asks for something, and changes nothing by its rule
abbrev pub is_question : UnixCall → Bool
is_question call = is_none (rule call).effect

-- a call with this reply may have changed something: it is no question, and was neither refused nor answered by `gone`
abbrev pub may_change : UnixCall → Reply → Bool
may_change call reply = not (is_question call) && is_answer reply
