-- Two runs side by side: refusals and answers that are alike.
use Rattle.std.specs.Prelude.{None, Option, Some, refl, ◌≡◌}
use Rattle.std.proofs.Common.{ap, sym}
use Rattle.histar_flat.specs.declared.replies.Errno.{Errno}
use Rattle.histar_flat.specs.declared.replies.Reply.{Reply}
use Rattle.histar_flat.specs.FlatCalls.{flat_or, reply_or}
use Rattle.histar_flat.specs.FlatState.{Flat}
use Rattle.histar_flat.specs.Words.{ProcName}
use Rattle.histar_noninterference.proofs.Outside.{turned}
use Rattle.histar_noninterference.proofs.Relation.{SameOutside}
use Rattle.histar_flat.specs.declared.replies.Reply.TheVariants as replies

pub reply_alike : (e e' : Option Errno) (a b : Reply) → e ≡ e' → (e ≡ None → a ≡ b) → reply_or e a ≡ reply_or e' b
reply_alike None None a b h k = k refl
reply_alike None (Some x) a b h k = absurd (cc)
reply_alike (Some x) None a b h k = absurd (cc)
reply_alike (Some x) (Some y) a b h k = let t : x ≡ y = cc in ap replies.Refused t

pub flat_alike : (job : ProcName) (f g f' g' : Flat) (e e' : Option Errno) → SameOutside job f g → e ≡ e'
    → (e ≡ None → SameOutside job f' g') → SameOutside job (flat_or e f f') (flat_or e' g g')
flat_alike job f g f' g' None None r h k = k refl
flat_alike job f g f' g' None (Some x) r h k = absurd (cc)
flat_alike job f g f' g' (Some x) None r h k = absurd (cc)
flat_alike job f g f' g' (Some x) (Some y) r h k = r

pub outside_turned : (job : ProcName) (f g : Flat) → SameOutside job f g → SameOutside job g f
outside_turned job f g r =
    record { files = turned job f.files g.files r.files; processes = λ q h. sym (r.processes q h); chain = sym r.chain }
