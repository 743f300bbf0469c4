-- Whatever is written to a file stays secret.
use Rattle.std.specs.Prelude.{◌≡◌, ℕ, List}
use Rattle.std.proofs.Common.{ap, sym, ◌∙◌}
use Rattle.histar_flat.specs.declared.calls.UnixCall.TheVariants.{Write}
use Rattle.histar_flat.specs.declared.replies.Reply.TheVariants.{Done}
use Rattle.histar_flat.specs.Words.{Path, ProcName}
use Rattle.histar_flat.specs.Accounts.{Accounts}
use Rattle.histar_flat.specs.FlatState.{Flat, with_bytes}
use Rattle.histar_flat.specs.FlatCalls.{flat_after}
use Rattle.histar_flat.proofs.Answered.{changed_after, is_answered}
use Rattle.histar_secrecy.specs.Noninterference.{Writes, WhatIsWrittenStaysSecret, outside_replies}
use Rattle.histar_secrecy.proofs.Learning.{outsiders_learn_nothing}

-- a write that is done leaves these bytes in the file
written : (accounts : Accounts) (f : Flat) (me : ProcName) (path : Path) (bytes : List ℕ) → Writes accounts f me path bytes
    → flat_after accounts f me (Write path bytes) ≡ with_bytes f path bytes
written accounts f me path bytes done =
    changed_after accounts f me (Write path bytes) Done (is_answered accounts f me (Write path bytes) Done (λ e. cc) (λ errno e. cc) done)

pub what_is_written_stays_secret : WhatIsWrittenStaysSecret
what_is_written_stays_secret accounts f reached path way file writer one other done other_done calls others same =
    ap (λ g. outside_replies accounts way f g calls) (written accounts f writer path one done)
    ∙ outsiders_learn_nothing accounts f reached path way file one other calls others same
    ∙ sym (ap (λ g. outside_replies accounts way f g others) (written accounts f writer path other other_done))
