-- Where a part is not read, the whole is not.
use Rattle.std.proofs.Common.{◌≡◌, Option, None, Result, Ok, Err, subst, sym}
use mathlib.Core.Bool.{false≢true}
use Rattle.std.specs.Result.{IsErr, IsErrAnd}
use Rattle.histar_rawtext.specs.declared.unread.Unread.{Unread}
use Rattle.histar_rawtext.specs.declared.unread.Unread.TheVariants.{NoCall, OutOfMemory}
use Rattle.histar_rawtext.specs.Outcome.{Gives}

-- the error of a part is returned
pub fails : {A B : Type 0} (e : Unread) (r : Result B Unread) (read : Option A) (whole : Option B) → Gives (Err e) read
    → (read ≡ None → whole ≡ None) → IsErr r × IsErrAnd r (λ f. f ≡ e) → Gives r whole
fails e (Ok x) read whole part none is = absurd (false≢true is.0)
fails NoCall (Err f) read whole part none is = subst (λ g. Gives (Err g) whole) (sym is.1) (none part)
fails OutOfMemory (Err f) read whole part none is = subst (λ g. Gives (Err g) whole) (sym is.1) tt
